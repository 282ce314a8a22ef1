-- Lines worked out by the definitions alone, at the edges of each rule. Nothing is proved from them.
-- Assumes nothing.
use mathlib.Core.Path.{◌≡◌, refl}
use mathlib.Core.Bool.{true}
use mathlib.Core.List.{[], ◌∷◌, map}
use Prim.Native.Nat.{ℕ}
use Rattle.fields.specs.Bytes.{comma}
use Rattle.fields.specs.Fields.{digits, decimal, number_from, front, field_of}
use Rattle.fields.specs.Rows.{numbers_from, numbers_of}
use Rattle.lines.specs.Letters.{a, d, e, k, n, o, w}
use Rattle.lines.specs.Lines.{begins, line_of}
use Rattle.lines.specs.declared.Line.TheVariants.{New, Add, Done, Wake, Bad}

-- every rule that a line is read by
line_rules : ℕ
unfolding digits decimal number_from front field_of begins numbers_from numbers_of line_of
line_rules = 0

-- new,2   new,0   new,255   new,256   new,02   new,
lines_new :
    map line_of (
    (n ∷ e ∷ w ∷ comma ∷ 50 ∷ []) ∷
    (n ∷ e ∷ w ∷ comma ∷ 48 ∷ []) ∷
    (n ∷ e ∷ w ∷ comma ∷ 50 ∷ 53 ∷ 53 ∷ []) ∷
    (n ∷ e ∷ w ∷ comma ∷ 50 ∷ 53 ∷ 54 ∷ []) ∷
    (n ∷ e ∷ w ∷ comma ∷ 48 ∷ 50 ∷ []) ∷
    (n ∷ e ∷ w ∷ comma ∷ []) ∷
    [])
    ≡ New 2 ∷ New 0 ∷ New 255 ∷ Bad ∷ Bad ∷ Bad ∷ []
unfolding line_rules
lines_new = refl

-- new,2,   new,"2"   new, 2   new,+2   add,1000,1,7,1,60,0,0   done,1,0
lines_spelt :
    map line_of (
    (n ∷ e ∷ w ∷ comma ∷ 50 ∷ comma ∷ []) ∷
    (n ∷ e ∷ w ∷ comma ∷ 34 ∷ 50 ∷ 34 ∷ []) ∷
    (n ∷ e ∷ w ∷ comma ∷ 32 ∷ 50 ∷ []) ∷
    (n ∷ e ∷ w ∷ comma ∷ 43 ∷ 50 ∷ []) ∷
    (a ∷ d ∷ d ∷ comma ∷ 49 ∷ 48 ∷ 48 ∷ 48 ∷ comma ∷ 49 ∷ comma ∷ 55 ∷ comma ∷ 49 ∷ comma ∷ 54 ∷ 48 ∷ comma ∷ 48 ∷ comma ∷ 48 ∷ []) ∷
    (d ∷ o ∷ n ∷ e ∷ comma ∷ 49 ∷ comma ∷ 48 ∷ []) ∷
    [])
    ≡ Bad ∷ Bad ∷ Bad ∷ Bad ∷ Add 1000 1 7 1 60 0 0 ∷ Done 1 0 ∷ []
unfolding line_rules
lines_spelt = refl

-- done,1   done,4294967296,0   wake,0,1   wake,0,2   nwe,2
lines_wide :
    map line_of (
    (d ∷ o ∷ n ∷ e ∷ comma ∷ 49 ∷ []) ∷
    (d ∷ o ∷ n ∷ e ∷ comma ∷ 52 ∷ 50 ∷ 57 ∷ 52 ∷ 57 ∷ 54 ∷ 55 ∷ 50 ∷ 57 ∷ 54 ∷ comma ∷ 48 ∷ []) ∷
    (w ∷ a ∷ k ∷ e ∷ comma ∷ 48 ∷ comma ∷ 49 ∷ []) ∷
    (w ∷ a ∷ k ∷ e ∷ comma ∷ 48 ∷ comma ∷ 50 ∷ []) ∷
    (n ∷ w ∷ e ∷ comma ∷ 50 ∷ []) ∷
    [])
    ≡ Bad ∷ Bad ∷ Wake 0 true ∷ Bad ∷ Bad ∷ []
unfolding line_rules
lines_wide = refl
