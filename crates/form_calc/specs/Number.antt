-- Whole numbers of 128 bits. None stands for what is out of range, and so for all that is reckoned with it.
use Rattle.std.specs.Prelude.{List, [], ◌∷◌, ℕ, ℤ, pos, negsuc, ◌+ℤ◌, ◌-ℤ◌, ◌*ℤ◌, neg_ℤ, int_div, int_rem, ◌-◌, Bool, false, nat_le, if◌then◌else◌, Option, Some, None, ◌==◌}

-- 2^127-1
abbrev pub largest : ℕ
largest = 170141183460469231731687303715884105727

-- from -2^127 to 2^127-1
abbrev pub is_in_range : ℤ → Bool
is_in_range (pos n) = nat_le n largest
is_in_range (negsuc n) = nat_le n largest

abbrev pub in_range : ℤ → Option ℤ
in_range n = if is_in_range n then Some n else None

abbrev pub is_zero : ℤ → Bool
is_zero (pos n) = n == 0
is_zero (negsuc n) = false

abbrev pub unless_zero : ℤ → Option ℤ → Option ℤ
unless_zero divisor result = if is_zero divisor then None else result

-- a step on two numbers
abbrev pub both : (ℤ → ℤ → Option ℤ) → Option ℤ → Option ℤ → Option ℤ
both step (Some a) (Some b) = step a b
both step (Some a) None = None
both step None b = None

abbrev pub plus : Option ℤ → Option ℤ → Option ℤ
plus = both (λ a b. in_range (a +ℤ b))

abbrev pub minus : Option ℤ → Option ℤ → Option ℤ
minus = both (λ a b. in_range (a -ℤ b))

abbrev pub times : Option ℤ → Option ℤ → Option ℤ
times = both (λ a b. in_range (a *ℤ b))

-- the quotient, cut off towards 0
abbrev pub over : Option ℤ → Option ℤ → Option ℤ
over = both (λ a b. unless_zero b (in_range (int_div a b)))

-- what is left then, with the sign of the dividend
abbrev pub rest : Option ℤ → Option ℤ → Option ℤ
rest = both (λ a b. unless_zero b (Some (int_rem a b)))

abbrev pub negated : Option ℤ → Option ℤ
negated (Some a) = in_range (neg_ℤ a)
negated None = None

-- the number of a decimal digit
abbrev pub digit : ℕ → Option ℤ
digit byte = Some (pos (byte - 48))

-- a number with one more digit behind it
abbrev pub with_digit : Option ℤ → ℕ → Option ℤ
with_digit n byte = plus (times n (Some (pos 10))) (digit byte)

-- a number below 0 with one more digit behind it
abbrev pub with_digit_below : Option ℤ → ℕ → Option ℤ
with_digit_below n byte = minus (times n (Some (pos 10))) (digit byte)

abbrev pub zero : Option ℤ
zero = Some (pos 0)

-- the number that digits give behind one
unfoldable pub read_up : Option ℤ → List ℕ → Option ℤ
read_up n [] = n
read_up n (byte ∷ digits) = read_up (with_digit n byte) digits

-- the number below 0 that digits give behind one
unfoldable pub read_down : Option ℤ → List ℕ → Option ℤ
read_down n [] = n
read_down n (byte ∷ digits) = read_down (with_digit_below n byte) digits

abbrev pub signed_number : ℕ → List ℕ → List ℕ → Option ℤ
signed_number sign digits text = if sign == 45 then read_down zero digits else (if sign == 43 then read_up zero digits else read_up zero text)

-- The number that a sign, if there is one, and digits give; none where it is out of range.
abbrev pub number_of : List ℕ → Option ℤ
number_of [] = zero
number_of (c ∷ cs) = signed_number c cs (c ∷ cs)
