-- Digits that 64 bits have room for.
use Rattle.std.proofs.Common.{◌≡◌, ◌∙◌, ◌+◌, ◌-◌, ◌*◌, ◌<◌, ◌≤◌, ap, arith, ℕ, pos, Bool, cond, List, ◌∷◌, Some, None}
use Rattle.std.proofs.lemmas.Bool.{le-leb}
use Rattle.form_calc.specs.Number.{largest, in_range, digit, plus, with_digit, read_up}

within : (n : ℕ) → n ≤ largest → in_range (pos n) ≡ Some (pos n)
within n h = ap (λ (b : Bool). cond b (Some (pos n)) None) (le-leb n largest h)

one_more : (few byte : ℕ) → few ≤ 1000000000000000000 → byte - 48 < 256 → with_digit (Some (pos few)) byte ≡ Some (pos (few * 10 + (byte - 48)))
one_more few byte small is_byte = ap (λ n. plus n (digit byte)) (within (few * 10) (omega (arith, small))) ∙ within (few * 10 + (byte - 48)) (omega (arith, small, is_byte))

pub read_more : (few byte : ℕ) (rest : List ℕ) → few ≤ 1000000000000000000 → byte - 48 < 256 → read_up (Some (pos few)) (byte ∷ rest) ≡ read_up (Some (pos (few * 10 + (byte - 48)))) rest
unfolding read_up
read_more few byte rest small is_byte = ap (λ n. read_up n rest) (one_more few byte small is_byte)
