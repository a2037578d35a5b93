-- Conditions: whether one holds, by what is known of its values.
use Rattle.std.specs.Prelude.{Bool, List, [], ◌∷◌, flat_map}
use Rattle.std.specs.List.{list_all, list_any}
use Rattle.form_base.specs.declared.comparison.Comparison.{Comparison}
use Rattle.form_base.specs.declared.condition.Test.{Test, fold-Test}
use Rattle.form_base.specs.declared.condition.Test.TheOpen.{Test-F}

-- tests joined by `&&`, and such lists joined by `||`
abbrev pub Condition : Type 0 → Type 0
Condition V = List (List (Test V))

-- ---- whether it holds

-- one of these lists is true throughout
abbrev pub one_is_true : List (List Bool) → Bool
one_is_true alternatives = list_any (list_all (λ b. b)) alternatives

-- a test, with the truth value of each test in its parentheses in the place of that
abbrev pub truth_of : {V : Type 0} → (V → Bool) → (V → Comparison → V → Bool) → Test-F V Bool → Bool
truth_of is_true is_so (Test-F.Nonzero v) = is_true v
truth_of is_true is_so (Test-F.Compared v by w) = is_so v by w
truth_of is_true is_so (Test-F.Parenthesis alternatives) = one_is_true alternatives

-- whether a test holds, by which values are true, and which comparisons are so
abbrev pub test_holds_by : {V : Type 0} → (V → Bool) → (V → Comparison → V → Bool) → Test V → Bool
test_holds_by {V} is_true is_so = fold-Test V Bool (truth_of is_true is_so)

-- a condition holds where one of its lists holds whole
abbrev pub holds_by : {V : Type 0} → (V → Bool) → (V → Comparison → V → Bool) → Condition V → Bool
holds_by is_true is_so c = list_any (list_all (test_holds_by is_true is_so)) c

-- ---- its values

abbrev pub values_in : {V : Type 0} → Test-F V (List V) → List V
values_in (Test-F.Nonzero v) = v ∷ []
values_in (Test-F.Compared v by w) = v ∷ w ∷ []
values_in (Test-F.Parenthesis alternatives) = flat_map (flat_map (λ vs. vs)) alternatives

-- the values of a test, and of a condition, in the order of the text
abbrev pub values_of_test : {V : Type 0} → Test V → List V
values_of_test {V} = fold-Test V (List V) values_in

abbrev pub values_of : {V : Type 0} → Condition V → List V
values_of c = flat_map (flat_map values_of_test) c
