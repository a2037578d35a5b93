-- Lists in a row, one behind the other.
use Rattle.std.proofs.Common.{◌≡◌, ℕ, zero, suc, ◌<◌, List, [], ◌∷◌, ◌++◌, map, refl, sym, ap, subst, ◌∙◌, arith}
use Rattle.std.specs.Prelude.{flat_map}
use Rattle.std.specs.List.Sorted.{IsPermutation}
use Rattle.std.proofs.lemmas.List.{map-append}
use Rattle.std.proofs.lemmas.List.Sorted.{IsPermutation-trans, IsPermutation-refl, IsPermutation-append, IsPermutation-append_left}
use Rattle.form_gathered.specs.Joined.{in_row}
use Rattle.form_gathered.proofs.Shuffled.{parts_crossed, flat_map_both}

module _ {A : Type 0} where
  -- rows of lists that are equal, that are moved, or of which each has two parts
  pub row_same : (n : ℕ) (f g : ℕ → List A) → ((k : ℕ) → k < n → f k ≡ g k) → in_row n f ≡ in_row n g
  row_same zero f g h = refl
  row_same (suc n) f g h = λ i. row_same n f g (λ k lt. h k (omega (arith, lt))) i ++ h n (omega arith) i

  pub row_moved : (n : ℕ) (f g : ℕ → List A) → ((k : ℕ) → k < n → IsPermutation (f k) (g k)) → IsPermutation (in_row n f) (in_row n g)
  row_moved zero f g h = IsPermutation-refl []
  row_moved (suc n) f g h = IsPermutation-append (in_row n f) (in_row n g) (f n) (g n) (row_moved n f g (λ k lt. h k (omega (arith, lt)))) (h n (omega arith))

  pub row_both : (n : ℕ) (f g : ℕ → List A) → IsPermutation (in_row n (λ k. f k ++ g k)) (in_row n f ++ in_row n g)
  row_both zero f g = IsPermutation-refl []
  row_both (suc n) f g =
      IsPermutation-trans _ _ _ (IsPermutation-append_left (f n ++ g n) _ _ (row_both n f g)) (parts_crossed (in_row n f) (in_row n g) (f n) (g n))

  pub row_empty : (n : ℕ) (f : ℕ → List A) → ((k : ℕ) → k < n → f k ≡ []) → in_row n f ≡ []
  row_empty zero f h = refl
  row_empty (suc n) f h = ap (λ l. l ++ f n) (row_empty n f (λ k lt. h k (omega (arith, lt)))) ∙ h n (omega arith)

module _ {A B : Type 0} where
  pub row_mapped : (h : A → B) (n : ℕ) (f : ℕ → List A) → map h (in_row n f) ≡ in_row n (λ k. map h (f k))
  row_mapped h zero f = refl
  row_mapped h (suc n) f = map-append h (in_row n f) (f n) ∙ ap (λ l. l ++ map h (f n)) (row_mapped h n f)

  nothing_each : (xs : List A) → flat_map {A = B} (λ x. []) xs ≡ []
  nothing_each [] = refl
  nothing_each (x ∷ xs) = nothing_each xs

  -- a row for each element, and the lists for all elements in a row
  pub row_crossed : (n : ℕ) (f : ℕ → A → List B) (xs : List A) → IsPermutation (flat_map (λ x. in_row n (λ k. f k x)) xs) (in_row n (λ k. flat_map (f k) xs))
  row_crossed zero f xs = subst (λ l. IsPermutation l []) (sym (nothing_each xs)) (IsPermutation-refl [])
  row_crossed (suc n) f xs =
      IsPermutation-trans _ _ _ (flat_map_both (λ x. in_row n (λ k. f k x)) (f n) xs)
      (IsPermutation-append_left (flat_map (f n) xs) _ _ (row_crossed n f xs))
