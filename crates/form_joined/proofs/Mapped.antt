-- Lists that are made of the items of others, and what holds of each item.
use Rattle.std.proofs.Common.{◌≡◌, ℕ, zero, suc, ◌<◌, Bool, true, false, List, [], ◌∷◌, ◌++◌, refl, ap, subst, ◌∙◌, arith}
use Rattle.std.specs.List.{AllByRecursion, flat_map}
use Rattle.std.specs.List.Sorted.{IsPermutation}
use Rattle.std.proofs.lemmas.Bool.{ltb-true, ltb-false}
use Rattle.std.proofs.lemmas.Grind.{flat_map-append}
use Rattle.std.proofs.lemmas.List.Sorted.{IsPermutation-refl, IsPermutation-append}
use Rattle.form_gathered.specs.Joined.{in_row}
use Rattle.form_gathered.proofs.Shuffled.{all_front, all_back}
use lib.Dec.{ltb}

-- each item's list in another order
pub flat_map_alike : {X A : Type 0} (f g : X → List A) → ((x : X) → IsPermutation (f x) (g x)) → (xs : List X) → IsPermutation (flat_map f xs) (flat_map g xs)
flat_map_alike f g h [] = IsPermutation-refl []
flat_map_alike f g h (x ∷ xs) = IsPermutation-append (f x) (g x) (flat_map f xs) (flat_map g xs) (h x) (flat_map_alike f g h xs)

pub flat_map_nothing : {X A : Type 0} (xs : List X) → flat_map {X = X} {A = A} (λ x. []) xs ≡ []
flat_map_nothing [] = refl
flat_map_nothing (x ∷ xs) = flat_map_nothing xs

pub flat_map_same : {X A : Type 0} (f g : X → List A) (xs : List X) → AllByRecursion (λ x. f x ≡ g x) xs → flat_map f xs ≡ flat_map g xs
flat_map_same f g [] all = refl
flat_map_same f g (x ∷ xs) all = ap (λ l. l ++ flat_map f xs) all.0 ∙ ap (λ l. g x ++ l) (flat_map_same f g xs all.1)

pub flat_map_inside : {X Y A : Type 0} (f : Y → List A) (g : X → List Y) (xs : List X) → flat_map f (flat_map g xs) ≡ flat_map (λ x. flat_map f (g x)) xs
flat_map_inside f g [] = refl
flat_map_inside f g (x ∷ xs) = flat_map-append f (g x) (flat_map g xs) ∙ ap (λ l. flat_map f (g x) ++ l) (flat_map_inside f g xs)

pub flat_map_in_row : {X A : Type 0} (f : X → List A) (n : ℕ) (g : ℕ → List X) → flat_map f (in_row n g) ≡ in_row n (λ k. flat_map f (g k))
flat_map_in_row f zero g = refl
flat_map_in_row f (suc n) g = flat_map-append f (in_row n g) (g n) ∙ ap (λ l. l ++ flat_map f (g n)) (flat_map_in_row f n g)

module _ {X : Type 0} (P : X → Type 0) where
  pub all_weaker : (Q : X → Type 0) → ((x : X) → P x → Q x) → (xs : List X) → AllByRecursion P xs → AllByRecursion Q xs
  all_weaker Q h [] a = tt
  all_weaker Q h (x ∷ xs) a = (h x a.0, all_weaker Q h xs a.1)

  pub all_of_each : {Y : Type 0} (f : Y → List X) (ys : List Y) → AllByRecursion P (flat_map f ys) → AllByRecursion (λ y. AllByRecursion P (f y)) ys
  all_of_each f [] a = tt
  all_of_each f (y ∷ ys) a = (all_front P (f y) (flat_map f ys) a, all_of_each f ys (all_back P (f y) (flat_map f ys) a))

  pub both_hold : (Q : X → Type 0) (xs : List X) → AllByRecursion P xs → AllByRecursion Q xs → AllByRecursion (λ x. P x × Q x) xs
  both_hold Q [] a b = tt
  both_hold Q (x ∷ xs) a b = ((a.0, b.0), both_hold Q xs a.1 b.1)

  either : {A : Type 0} (k n : ℕ) (earlier : Bool) → ltb k n ≡ earlier → k < suc n → (n ≡ k → A) → (k < n → A) → A
  either k n true e below last first = first (ltb-true k n e)
  either k n false e below last first = last (omega (arith, ltb-false k n e, below))

  pub all_in_row : (n k : ℕ) (f : ℕ → List X) → k < n → AllByRecursion P (in_row n f) → AllByRecursion P (f k)
  all_in_row zero k f below all = absurd (omega (arith, below))
  all_in_row (suc n) k f below all =
      either k n (ltb k n) refl below
      (λ e. subst (λ (i : ℕ). AllByRecursion P (f i)) e (all_back P (in_row n f) (f n) all))
      (λ first. all_in_row n k f first (all_front P (in_row n f) (f n) all))
