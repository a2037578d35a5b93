-- A module that has an `id` alone is of the grammar.
use Rattle.std.proofs.Common.{◌≡◌, List, [], ◌∷◌, All, rules, subst, sym}
use Rattle.std.proofs.lemmas.List.Elements.{All-cons, All-nil}
use Rattle.form_base.specs.Statements.{conditions_of, leaves_of}
use Rattle.form_base.specs.declared.block.Action.{the_lemmas}
use Rattle.form_base.specs.declared.block.Action.TheVariants as acting
use Rattle.form_tree.specs.Conditions.{Parts}
use Rattle.form_check.specs.Program.{CheckedStatement}
use Rattle.form_check.specs.declared.checked.CheckedLeaf.{CheckedLeaf}
use Rattle.form_check.specs.declared.checked.CheckedLeaf.TheVariants as checked
use Rattle.form_check.specs.declared.checked.Picked.{Picked}
use Rattle.form_check.specs.declared.checked.Rewriting.{Rewriting}
use Rattle.form_flow.specs.Making.{HasAllTrees, HasLeafTrees, HasPatterns, HasTrees}

leaves_plain : (l : CheckedLeaf) → leaves_of {L = CheckedLeaf} {C = Parts} {F = List Picked} (acting.Plain l) ≡ l ∷ []
leaves_plain l = search (rules, the_lemmas)

conditions_plain : (l : CheckedLeaf) → conditions_of {L = CheckedLeaf} {C = Parts} {F = List Picked} (acting.Plain l) ≡ []
conditions_plain l = search (rules, the_lemmas)

one_has : (r : Rewriting) → HasTrees r → HasAllTrees (acting.Plain (checked.Rewrite (r ∷ [])))
unfolding HasAllTrees
one_has r has = (
  subst (All HasLeafTrees) (sym (leaves_plain (checked.Rewrite (r ∷ [])))) (All-cons HasLeafTrees (checked.Rewrite (r ∷ [])) [] (All-cons HasTrees r [] has (All-nil HasTrees)) (All-nil HasLeafTrees)),
  subst (All HasPatterns) (sym (conditions_plain (checked.Rewrite (r ∷ [])))) (All-nil HasPatterns),
)

pub block_has : (r : Rewriting) (rs : List Rewriting) (block : List CheckedStatement) → HasTrees r → rs ≡ r ∷ [] → block ≡ acting.Plain (checked.Rewrite rs) ∷ [] → All HasAllTrees block
block_has r rs block has one is =
    subst (All HasAllTrees) (sym is)
    (subst (λ (qs : List Rewriting). All HasAllTrees (acting.Plain (checked.Rewrite qs) ∷ [])) (sym one)
    (All-cons HasAllTrees (acting.Plain (checked.Rewrite (r ∷ []))) [] (one_has r has) (All-nil HasAllTrees)))
