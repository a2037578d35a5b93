-- A statement is linear where those in it are.
use Rattle.std.proofs.Common.{◌≡◌, List, [], ◌∷◌, map, Option, Some, None, IfSome, option_map, sym, subst}
use Rattle.std.specs.List.{AllByRecursion, flat_map}
use Rattle.form_base.specs.declared.block.Action.TheVariants as acting
use Rattle.form_base.specs.declared.block.Branch.{Branch}
use Rattle.form_base.specs.Statements.{in_last, in_row}
use Rattle.form_term.proofs.Each.{each_append, each_flat, each_map}
use Rattle.form_flow.specs.declared.compiled.ReadyLeaf.{ReadyLeaf}
use Rattle.form_flow.specs.Ready.{Choice}
use Rattle.form_flow.specs.Statement.{Chosen, Statement}
use Rattle.form_levels.specs.Linear.{AreLinear, IsIndifferent, IsLinear, IsLinearBranch, conditions_on_term}
use Rattle.form_levels.proofs.OnTerms.{branch_conditions, conditions_choose, conditions_plain, conditions_repeat}

abbrev AreIndifferent : List Choice → Type 0
AreIndifferent qs = AllByRecursion IsIndifferent qs

in_row_linear : (b : List Statement) → AreLinear b → AreIndifferent (in_row (map conditions_on_term b))
in_row_linear b linear =
    each_flat AreIndifferent IsIndifferent (λ (row : List Choice). row) (λ row q. q) (map conditions_on_term b)
    (each_map IsLinear AreIndifferent conditions_on_term (λ s q. q) b linear)

branches_linear : (bs : List Chosen) → AllByRecursion IsLinearBranch bs → AreIndifferent (flat_map (λ b. b.condition ∷ in_row b.block) (map branch_conditions bs))
branches_linear [] linear = tt
branches_linear (b ∷ bs) linear =
    each_append IsIndifferent (b.condition ∷ in_row (map conditions_on_term b.block))
    (flat_map (λ (d : Branch Choice (List (List Choice))). d.condition ∷ in_row d.block) (map branch_conditions bs))
    (linear.0.0, in_row_linear b.block linear.0.1) (branches_linear bs linear.1)

in_last_linear : (last : Option (List Statement)) → IfSome last AreLinear → AreIndifferent (in_last (option_map (map conditions_on_term) last))
in_last_linear None linear = tt
in_last_linear (Some b) linear = in_row_linear b linear

pub plain_linear : (l : ReadyLeaf) → IsLinear (acting.Plain l)
plain_linear l = subst AreIndifferent (sym (conditions_plain l)) tt

pub repeat_linear : (b : List Statement) → AreLinear b → IsLinear (acting.Repeat b)
repeat_linear b linear = subst AreIndifferent (sym (conditions_repeat b)) (in_row_linear b linear)

pub choose_linear : (bs : List Chosen) (last : Option (List Statement)) → AllByRecursion IsLinearBranch bs → IfSome last AreLinear → IsLinear (acting.Choose bs last)
choose_linear bs last linear behind =
    subst AreIndifferent (sym (conditions_choose bs last))
    (each_append IsIndifferent (flat_map (λ (d : Branch Choice (List (List Choice))). d.condition ∷ in_row d.block) (map branch_conditions bs))
    (in_last (option_map (map conditions_on_term) last)) (branches_linear bs linear) (in_last_linear last behind))
