-- What the definitions say of each test.
use Rattle.std.proofs.Common.{◌≡◌, Bool, ◌&&◌, ◌||◌, List, [], ◌∷◌, ◌++◌, map, refl, sym, ap, ◌∙◌}
use Rattle.std.specs.Prelude.{flat_map}
use Rattle.std.specs.List.{list_all, list_any}
use Rattle.form_base.specs.declared.comparison.Comparison.{Comparison}
use Rattle.form_base.specs.declared.condition.Test.{fold-Test, fold-roll-Test}
use Rattle.form_base.specs.declared.condition.Test.TheOpen.{Test-F}
use Rattle.form_base.specs.declared.condition.Test.TheVariants.{Nonzero, Compared, Parenthesis, rolls-Nonzero, rolls-Compared, rolls-Parenthesis}
use Rattle.form_base.specs.Condition.{Condition, one_is_true, truth_of, test_holds_by, holds_by, values_in, values_of_test, values_of}

all_of_map : {A : Type 0} (f : A → Bool) (xs : List A) → list_all (λ b. b) (map f xs) ≡ list_all f xs
all_of_map f [] = refl
all_of_map f (x ∷ xs) = ap (λ b. f x && b) (all_of_map f xs)

one_of_map : {A : Type 0} (f : A → Bool) (xss : List (List A)) → one_is_true (map (map f) xss) ≡ list_any (list_all f) xss
one_of_map f [] = refl
one_of_map f (xs ∷ xss) = ap (λ b. b || one_is_true (map (map f) xss)) (all_of_map f xs) ∙ ap (λ b. list_all f xs || b) (one_of_map f xss)

joined_of_map : {A B : Type 0} (f : A → List B) (xs : List A) → flat_map (λ ys. ys) (map f xs) ≡ flat_map f xs
joined_of_map f [] = refl
joined_of_map f (x ∷ xs) = ap (λ ys. f x ++ ys) (joined_of_map f xs)

all_joined_of_map : {A B : Type 0} (f : A → List B) (xss : List (List A)) → flat_map (flat_map (λ ys. ys)) (map (map f) xss) ≡ flat_map (flat_map f) xss
all_joined_of_map f [] = refl
all_joined_of_map f (xs ∷ xss) =
    ap (λ ys. ys ++ flat_map (flat_map (λ ys. ys)) (map (map f) xss)) (joined_of_map f xs) ∙ ap (λ ys. flat_map f xs ++ ys) (all_joined_of_map f xss)

-- ---- whether it holds

pub holds_alone : {V : Type 0} (is_true : V → Bool) (is_so : V → Comparison → V → Bool) (v : V) → test_holds_by is_true is_so (Nonzero v) ≡ is_true v
holds_alone {V} is_true is_so v =
    ap (fold-Test V Bool (truth_of is_true is_so)) (sym (rolls-Nonzero v)) ∙ fold-roll-Test V Bool (truth_of is_true is_so) (Test-F.Nonzero v)

pub holds_compared : {V : Type 0} (is_true : V → Bool) (is_so : V → Comparison → V → Bool) (v : V) (by : Comparison) (w : V) → test_holds_by is_true is_so (Compared v by w) ≡ is_so v by w
holds_compared {V} is_true is_so v by w =
    ap (fold-Test V Bool (truth_of is_true is_so)) (sym (rolls-Compared v by w)) ∙ fold-roll-Test V Bool (truth_of is_true is_so) (Test-F.Compared v by w)

pub holds_parenthesis : {V : Type 0} (is_true : V → Bool) (is_so : V → Comparison → V → Bool) (c : Condition V) → test_holds_by is_true is_so (Parenthesis c) ≡ holds_by is_true is_so c
holds_parenthesis {V} is_true is_so c =
    ap (fold-Test V Bool (truth_of is_true is_so)) (sym (rolls-Parenthesis c))
    ∙ fold-roll-Test V Bool (truth_of is_true is_so) (Test-F.Parenthesis c)
    ∙ one_of_map (test_holds_by is_true is_so) c

-- ---- its values

pub values_alone : {V : Type 0} (v : V) → values_of_test (Nonzero v) ≡ v ∷ []
values_alone {V} v = ap (fold-Test V (List V) values_in) (sym (rolls-Nonzero v)) ∙ fold-roll-Test V (List V) values_in (Test-F.Nonzero v)

pub values_compared : {V : Type 0} (v : V) (by : Comparison) (w : V) → values_of_test (Compared v by w) ≡ v ∷ w ∷ []
values_compared {V} v by w = ap (fold-Test V (List V) values_in) (sym (rolls-Compared v by w)) ∙ fold-roll-Test V (List V) values_in (Test-F.Compared v by w)

pub values_parenthesis : {V : Type 0} (c : Condition V) → values_of_test (Parenthesis c) ≡ values_of c
values_parenthesis {V} c =
    ap (fold-Test V (List V) values_in) (sym (rolls-Parenthesis c))
    ∙ fold-roll-Test V (List V) values_in (Test-F.Parenthesis c)
    ∙ all_joined_of_map values_of_test c
