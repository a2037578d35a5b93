-- How far from the front on elements pass a test.
use Rattle.std.proofs.Common.{◌≡◌, ◌<◌, ◌≤◌, ◌+◌, ℕ, Bool, true, false, cond, List, [], ◌∷◌, ◌++◌, length, take, get_or, length-append, ltb, refl, ap, subst, ◌∙◌, arith}
use Rattle.std.specs.Prelude.{Some, None, not, position}
use Rattle.std.specs.List.{AllPass, position_or_len}
use Rattle.std.proofs.lemmas.Bool.{lt-ltb, le-ltb, ltb-true, ltb-false}
use Rattle.std.proofs.lemmas.Option.{same_Some}
use Rattle.std.proofs.lemmas.List.{get_or-take}
use Rattle.std.proofs.lemmas.List.Folds.{length-prefix_len}
use Rattle.std.proofs.lemmas.List.Sums.{prefix_len-le-length, prefix_len_passes, prefix_len_stops}
use Rattle.std.proofs.lemmas.List.Elements.{All-head, All-tail}
use Rattle.form_lexer.specs.Reading.{front}

pub front_within : (p : ℕ → Bool) (xs : List ℕ) → front p xs ≤ length xs
front_within p xs = prefix_len-le-length p xs

-- what is in front passes
pub front_passes : (p : ℕ → Bool) (xs : List ℕ) → AllPass p (take (front p xs) xs)
front_passes p xs k d lt =
    let below : k < front p xs = omega (arith, lt, length-prefix_len p xs) in
    ap p (get_or-take (front p xs) xs k d below) ∙ prefix_len_passes p xs k d below

-- all is in front where all passes
pub front_all : (p : ℕ → Bool) (xs : List ℕ) → AllPass p xs → front p xs ≡ length xs
front_all p [] all = refl
front_all p (x ∷ xs) all = rw (All-head (λ c. p c ≡ true) x xs all) (omega (arith, front_all p xs (All-tail (λ c. p c ≡ true) x xs all)))

-- what follows doesn't change a front that ends before it
pub front_local : (p : ℕ → Bool) (xs ys : List ℕ) → front p (xs ++ ys) < length xs → front p xs ≡ front p (xs ++ ys)
front_local p [] ys lt = absurd (omega arith)
front_local p (x ∷ xs) ys lt = by_test (p x) (front_local p xs ys) lt where
  by_test : (b : Bool) → (front p (xs ++ ys) < length xs → front p xs ≡ front p (xs ++ ys)) → cond b (1 + front p (xs ++ ys)) 0 < length (x ∷ xs)
      → cond b (1 + front p xs) 0 ≡ cond b (1 + front p (xs ++ ys)) 0
  by_test true same h = ap (λ n. 1 + n) (same (omega arith))
  by_test false same h = refl

-- where all passes and the first that follows doesn't, the front is that
pub front_ends : (p : ℕ → Bool) (xs : List ℕ) (y : ℕ) (ys : List ℕ) → AllPass p xs → p y ≡ false → front p (xs ++ y ∷ ys) ≡ length xs
front_ends p [] y ys all fails = rw fails refl
front_ends p (x ∷ xs) y ys all fails = rw (All-head (λ c. p c ≡ true) x xs all) (omega (arith, front_ends p xs y ys (All-tail (λ c. p c ≡ true) x xs all) fails))

-- the place of the first that passes
pub position_at : (p : ℕ → Bool) (xs : List ℕ) (y : ℕ) (ys : List ℕ) → AllPass (λ c. not (p c)) xs → p y ≡ true → position p (xs ++ y ∷ ys) ≡ Some (length xs)
position_at p xs y ys all passes =
    let is : position_or_len p (xs ++ y ∷ ys) ≡ length xs = front_ends (λ c. not (p c)) xs y ys all (ap not passes) in
    let within : ltb (length xs) (length (xs ++ y ∷ ys)) ≡ true = lt-ltb _ _ (omega (arith, length-append xs (y ∷ ys))) in
    rw (is, within) refl

pub position_none : (p : ℕ → Bool) (xs : List ℕ) → AllPass (λ c. not (p c)) xs → position p xs ≡ None
position_none p xs all =
    let is : position_or_len p xs ≡ length xs = front_all (λ c. not (p c)) xs all in
    let not_within : ltb (length xs) (length xs) ≡ false = le-ltb _ _ (omega arith) in
    rw (is, not_within) refl

pub position_found : (p : ℕ → Bool) (xs : List ℕ) (n : ℕ) → position p xs ≡ Some n → (front (λ c. not (p c)) xs ≡ n) × (n < length xs)
position_found p xs n e = by_test (ltb (position_or_len p xs) (length xs)) refl e where
  by_test : (b : Bool) → ltb (position_or_len p xs) (length xs) ≡ b → cond b (Some (position_or_len p xs)) None ≡ Some n → (front (λ c. not (p c)) xs ≡ n) × (n < length xs)
  by_test true t h = let same = same_Some (position_or_len p xs) n h in (same, subst (λ (k : ℕ). k < length xs) same (ltb-true _ _ t))
  by_test false t h = absurd cc

pub position_missed : (p : ℕ → Bool) (xs : List ℕ) → position p xs ≡ None → AllPass (λ c. not (p c)) xs
position_missed p xs e = by_test (ltb (position_or_len p xs) (length xs)) refl e where
  by_test : (b : Bool) → ltb (position_or_len p xs) (length xs) ≡ b → cond b (Some (position_or_len p xs)) None ≡ None → AllPass (λ c. not (p c)) xs
  by_test true t h = absurd cc
  by_test false t h = λ k d lt. prefix_len_passes (λ c. not (p c)) xs k d (omega (arith, lt, ltb-false _ _ t))

-- what stands behind it doesn't pass
pub front_stops : (p : ℕ → Bool) (xs : List ℕ) (d : ℕ) → front p xs < length xs → p (get_or xs (front p xs) d) ≡ false
front_stops p xs d lt = prefix_len_stops p xs d lt
