-- What the contracts of private helpers cite. No reader has to believe these: the public contracts do not name them.
-- Assumes nothing.
use Rattle.std.specs.Prelude.{Option, Some, None, Bool, cond, not, ◌&&◌, ℕ, ◌+◌, ◌-◌, ◌*◌, eqb, leb, ltb}
use Rattle.fields.specs.Bytes.{zero_digit}
use Rattle.fields.specs.Fields.{digit}

-- i bytes of a field have passed and say 0: no digit may follow
abbrev pub zero_led : ℕ → ℕ → Bool
zero_led v i = eqb v 0 && ltb 0 i

-- the number v of i digits with the byte b behind them
unfoldable pub grow_of : ℕ → ℕ → ℕ → ℕ → Option ℕ
grow_of most v i b =
    cond (not (zero_led v i) && (digit b && leb (v * 10 + (b - zero_digit)) most)) (Some (v * 10 + (b - zero_digit))) None
