-- The first place of a byte, as a search tells it and as it is defined.
use Rattle.std.proofs.Common.{◌≡◌, ◌==◌, ◌∙◌, refl, sym, ap, ℕ, Bool, ◌<◌, ◌≤◌, true, false, ltb, eqb, cond, List, length, Option, None, Some, slice_index_or, arith}
use Rattle.std.specs.List.{position, position_or_len}
use Rattle.std.proofs.lemmas.Bool.{lt-ltb, ltb-true}
use Rattle.std.proofs.lemmas.List.Sums.{position_or_len_is}
use Rattle.memchr.specs.Find.{IsFirstByte, is_byte}

fails : (b : Bool) → ¬ (b ≡ true) → b ≡ false
fails true h = absurd (h refl)
fails false h = refl

found : (bytes : List ℕ) (n k : ℕ) → n ≡ k → k < length bytes → cond (ltb n (length bytes)) (Some n) None ≡ Some k
found bytes n k e h = ap (λ m. cond (ltb m (length bytes)) (Some m) None) e ∙ ap (λ b. cond b (Some k) None) (lt-ltb k (length bytes) h)

nowhere : (bytes : List ℕ) (n : ℕ) → n ≡ length bytes → cond (ltb n (length bytes)) (Some n) None ≡ None
nowhere bytes n e = ap (λ b. cond b (Some n) None) (fails (ltb n (length bytes)) (λ t. absurd (omega (arith, ltb-true n (length bytes) t))))

pub searched : (a : ℕ) (bytes : List ℕ) (r : Option ℕ) → IsFirstByte (is_byte a) bytes r → r ≡ position (λ c. c == a) bytes
searched a bytes None h = sym (nowhere bytes (position_or_len (λ c. c == a) bytes) (position_or_len_is (λ c. c == a) bytes (length bytes) 0 (omega arith) (λ k l. fails (slice_index_or bytes k 0 == a) (h k (omega arith) l)) (λ l. absurd (omega (arith, l)))))
searched a bytes (Some k) h = sym (found bytes (position_or_len (λ c. c == a) bytes) k (position_or_len_is (λ c. c == a) bytes k 0 (omega (arith, h.0.high)) (λ j l. fails (slice_index_or bytes j 0 == a) (h.0.before j (omega arith) l)) (λ l. h.1)) h.0.high)
