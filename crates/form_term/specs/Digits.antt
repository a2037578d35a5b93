-- A number by its digits to the base 2^32, the lowest first.
use Rattle.std.proofs.Common.{◌≡◌, ℕ, ◌+◌, ◌*◌, ◌/◌, ◌%◌, ◌<◌, ◌^◌, arith}

abbrev pub of_digits : ℕ → ℕ → ℕ → ℕ → ℕ
of_digits a b c d = a + b * 2 ^ 32 + c * 2 ^ 64 + d * 2 ^ 96

-- the digits of that number
pub digits_again : (a b c d : ℕ) → a < 2 ^ 32 → b < 2 ^ 32 → c < 2 ^ 32
    → (of_digits a b c d % 2 ^ 32 ≡ a) × (of_digits a b c d / 2 ^ 32 % 2 ^ 32 ≡ b) × (of_digits a b c d / 2 ^ 64 % 2 ^ 32 ≡ c) × (of_digits a b c d / 2 ^ 96 ≡ d)
digits_again a b c d h k l = (omega arith, omega arith, omega arith, omega arith)

-- and the number of its digits
pub number_again : (n : ℕ) → of_digits (n % 2 ^ 32) (n / 2 ^ 32 % 2 ^ 32) (n / 2 ^ 64 % 2 ^ 32) (n / 2 ^ 96) ≡ n
number_again n = omega arith
