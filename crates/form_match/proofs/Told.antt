-- What is told of what is learnt.
use Rattle.std.proofs.Common.{◌≡◌, ℕ, zero, suc, ◌≤◌, ◌||◌, Bool, false, List, [], ◌∷◌, ◌++◌, map, take, Option, Some, None, option_and_then, refl, sym, ap, ◌∙◌, arith}
use Rattle.std.specs.Prelude.{flat_map}
use Rattle.std.specs.List.{list_any}
use Rattle.std.proofs.lemmas.List.Concat.{flat_map_single}
use Rattle.form_match.specs.Learning.{learnt}
use Rattle.form_bindings.specs.Learning.{and_bound}
use Rattle.form_bindings.specs.Values.{Binding}

-- values that are asked one after the other
pub learnt_both : (bs a b : List Binding) → learnt bs (a ++ b) ≡ option_and_then (λ made. learnt made b) (learnt bs a)
learnt_both bs [] b = refl
learnt_both bs (x ∷ a) b = by (and_bound bs x) (λ made. learnt_both made a b)
  where
    by : (o : Option (List Binding)) → ((made : List Binding) → learnt made (a ++ b) ≡ option_and_then (λ next. learnt next b) (learnt made a)) → option_and_then (λ made. learnt made (a ++ b)) o ≡ option_and_then (λ made. learnt made b) (option_and_then (λ made. learnt made a) o)
    by None rest = refl
    by (Some made) rest = rest made

-- any, over what a map gives
pub any_map : {A B : Type 0} (p : B → Bool) (f : A → B) (xs : List A) → list_any (λ x. p (f x)) xs ≡ list_any p (map f xs)
any_map p f [] = refl
any_map p f (x ∷ xs) = ap (λ (b : Bool). p (f x) || b) (any_map p f xs)

pub any_single : {A B : Type 0} (p : B → Bool) (f : A → B) (xs : List A) → list_any (λ x. p (f x)) xs ≡ list_any p (flat_map (λ x. f x ∷ []) xs)
any_single p f xs = any_map p f xs ∙ ap (list_any p) (sym (flat_map_single f xs))

pub any_nothing : {A B : Type 0} (p : B → Bool) (xs : List A) → false ≡ list_any p (flat_map (λ (x : A). []) xs)
any_nothing p [] = refl
any_nothing p (x ∷ xs) = any_nothing p xs

pub take_take : {A : Type 0} (m n : ℕ) (xs : List A) → m ≤ n → take m (take n xs) ≡ take m xs
take_take zero n xs h = refl
take_take (suc m) zero xs h = absurd (omega arith)
take_take (suc m) (suc n) [] h = refl
take_take (suc m) (suc n) (x ∷ xs) h = ap (λ (l : List _). x ∷ l) (take_take m n xs (omega arith))
