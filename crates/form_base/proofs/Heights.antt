-- How deep the parentheses of a condition nest.
use Rattle.std.proofs.Common.{◌≡◌, ℕ, zero, suc, ◌<◌, ◌≤◌, max, List, [], ◌∷◌, length, map, get_or, refl, sym, ap, ◌∙◌, arith}
use Rattle.form_base.specs.declared.condition.Test.{Test, fold-Test, fold-roll-Test}
use Rattle.form_base.specs.declared.condition.Test.TheOpen.{Test-F}
use Rattle.form_base.specs.declared.condition.Test.TheVariants.{Parenthesis, rolls-Parenthesis}
use Rattle.form_base.specs.Condition.{Condition}

abbrev pub largest : List ℕ → ℕ
largest [] = 0
largest (n ∷ ns) = max n (largest ns)

abbrev height_in : {V : Type 0} → Test-F V ℕ → ℕ
height_in (Test-F.Nonzero v) = 0
height_in (Test-F.Compared v by w) = 0
height_in (Test-F.Parenthesis c) = suc (largest (map largest c))

unfoldable pub height : {V : Type 0} → Test V → ℕ
height {V} = fold-Test V ℕ height_in

abbrev pub height_of_all : {V : Type 0} → List (Test V) → ℕ
height_of_all ts = largest (map height ts)

abbrev pub height_of : {V : Type 0} → Condition V → ℕ
height_of c = largest (map height_of_all c)

heights : {V : Type 0} (c : Condition V) → largest (map largest (map (map height) c)) ≡ height_of c
heights [] = refl
heights (ts ∷ c) = ap (max (height_of_all ts)) (heights c)

pub height_parenthesis : {V : Type 0} (c : Condition V) → height (Parenthesis c) ≡ suc (height_of c)
unfolding height
height_parenthesis {V} c =
    ap (fold-Test V ℕ height_in) (sym (rolls-Parenthesis c)) ∙ fold-roll-Test V ℕ height_in (Test-F.Parenthesis c) ∙ ap suc (heights c)

-- none of a list is higher than the highest
pub no_higher : {A : Type 0} (f : A → ℕ) (xs : List A) (i : ℕ) (d : A) → i < length xs → f (get_or xs i d) ≤ largest (map f xs)
no_higher f [] i d h = absurd (omega (arith, h))
no_higher f (x ∷ xs) zero d h = omega arith
no_higher f (x ∷ xs) (suc i) d h = let below : i < length xs = omega (arith, h) in omega (arith, no_higher f xs i d below)
