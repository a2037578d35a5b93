-- What passes at the front of a text, and what stands behind it.
use Rattle.std.proofs.Common.{◌≡◌, ℕ, suc, ◌+◌, ◌≤◌, Bool, true, false, cond, if◌then◌else◌, List, [], ◌∷◌, ◌++◌, length, take, drop, Option, Some, None, refl, sym, ap, ◌∙◌, arith}
use Rattle.std.specs.Prelude.{◌==◌, ◌&&◌, ◌≢◌}
use Rattle.std.specs.List.{list_all}
use Rattle.std.proofs.lemmas.Bool.{and_parts, eqb-true}
use Rattle.std.proofs.Math.Seq.{take-append_seam, drop-append_seam}
use Rattle.std.proofs.lemmas.List.{take-append-drop}
use Rattle.std.proofs.lemmas.List.Folds.{length-prefix_len}
use Rattle.std.proofs.lemmas.List.Sums.{prefix_len-le-length}
use Rattle.form_calc.specs.Reading.{front}
use Rattle.form_calc.proofs.Spaces.{StopsAt}

pub front_within : (p : ℕ → Bool) (xs : List ℕ) → front p xs ≤ length xs
front_within p xs = prefix_len-le-length p xs

one_more : (n : ℕ) → 1 + n ≡ suc n
one_more n = omega arith

-- what passes is the front, where what follows stops
pub front_kept : (p : ℕ → Bool) (kept rest : List ℕ) → list_all p kept ≡ true → StopsAt p rest → front p (kept ++ rest) ≡ length kept
front_kept p [] [] h k = refl
front_kept p [] (c ∷ rest) h k = ap (λ (q : Bool). cond q (1 + front p rest) 0) k
front_kept p (x ∷ kept) rest h k =
    let b = and_parts (p x) (list_all p kept) h in
    let i : front p (kept ++ rest) ≡ length kept = front_kept p kept rest b.1 k in
    let j : 1 + front p (kept ++ rest) ≡ length (x ∷ kept) = omega arith in
    ap (λ (q : Bool). cond q (1 + front p (kept ++ rest)) 0) b.0 ∙ j

pub front_passes : (p : ℕ → Bool) (xs : List ℕ) → list_all p (take (front p xs) xs) ≡ true
front_passes p [] = refl
front_passes p (x ∷ xs) = by (p x) refl (front_passes p xs)
  where
    by : (q : Bool) → p x ≡ q → list_all p (take (front p xs) xs) ≡ true → list_all p (take (cond q (1 + front p xs) 0) (x ∷ xs)) ≡ true
    by true e again = ap (λ n. list_all p (take n (x ∷ xs))) (one_more (front p xs)) ∙ ap (λ (b : Bool). b && list_all p (take (front p xs) xs)) e ∙ again
    by false e again = refl

pub front_stops : (p : ℕ → Bool) (xs : List ℕ) (c : ℕ) (rest : List ℕ) → drop (front p xs) xs ≡ c ∷ rest → p c ≡ false
front_stops p [] c rest h = absurd cc
front_stops p (x ∷ xs) c rest h = by (p x) refl (λ k. front_stops p xs c rest k) h
  where
    by : (q : Bool) → p x ≡ q → (drop (front p xs) xs ≡ c ∷ rest → p c ≡ false) → drop (cond q (1 + front p xs) 0) (x ∷ xs) ≡ c ∷ rest → p c ≡ false
    by true e again k = again (sym (ap (λ n. drop n (x ∷ xs)) (one_more (front p xs))) ∙ k)
    by false e again k = cc

-- a front that is not empty
some_length : (xs : List ℕ) → xs ≢ [] → (length xs == 0) ≡ false
some_length [] h = absurd (h refl)
some_length (x ∷ xs) h = by (length (x ∷ xs) == 0) refl
  where
    by : (q : Bool) → (length (x ∷ xs) == 0) ≡ q → (length (x ∷ xs) == 0) ≡ false
    by true e = let f : length (x ∷ xs) ≡ 0 = eqb-true (length (x ∷ xs)) 0 e in absurd (omega arith)
    by false e = e

some_front : (p : ℕ → Bool) (xs : List ℕ) → (front p xs == 0) ≡ false → take (front p xs) xs ≢ []
some_front p xs h = λ e.
    let l : front p xs ≡ 0 = sym (length-prefix_len p xs) ∙ ap length e in
    let f : true ≡ false = sym (ap (λ k. k == 0) l) ∙ h in
    absurd cc

-- ---- what is cut off where it passes, unless that is nothing

abbrev pub cut_front : {Y : Type 0} → (List ℕ → List ℕ → Option Y) → List ℕ → ℕ → Option Y
cut_front given text size = if size == 0 then None else given (take size text) (drop size text)

pub front_read : {Y : Type 0} (p : ℕ → Bool) (given : List ℕ → List ℕ → Option Y) (kept rest : List ℕ) → list_all p kept ≡ true → kept ≢ [] → StopsAt p rest → cut_front given (kept ++ rest) (front p (kept ++ rest)) ≡ given kept rest
front_read p given kept rest h some k =
    ap (cut_front given (kept ++ rest)) (front_kept p kept rest h k)
    ∙ ap (λ (q : Bool). if q then None else given (take (length kept) (kept ++ rest)) (drop (length kept) (kept ++ rest))) (some_length kept some)
    ∙ ap (λ t. given t (drop (length kept) (kept ++ rest))) (take-append_seam kept rest)
    ∙ ap (given kept) (drop-append_seam kept rest)

pub front_found : {Y P : Type 0} (p : ℕ → Bool) (given : List ℕ → List ℕ → Option Y) (text : List ℕ) (y : Y) → cut_front given text (front p text) ≡ Some y
    → ((kept rest : List ℕ) → text ≡ kept ++ rest → list_all p kept ≡ true → kept ≢ [] → given kept rest ≡ Some y → P) → P
front_found {Y} {P} p given text y h go = by (front p text == 0) refl h
  where
    by : (q : Bool) → (front p text == 0) ≡ q → (if q then None else given (take (front p text) text) (drop (front p text) text)) ≡ Some y → P
    by true e k = absurd cc
    by false e k = go (take (front p text) text) (drop (front p text) text) (sym (take-append-drop (front p text) text)) (front_passes p text) (some_front p text e) k
