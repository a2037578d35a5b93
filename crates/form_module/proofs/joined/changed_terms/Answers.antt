use Rattle.std.proofs.Common.{List, sym, subst}
use Rattle.form_term.specs.declared.monomial.Monomial.{Monomial}
use Rattle.form_expand.specs.Expanding.{list_of_sum}
use Rattle.form_gathered.specs.Joined.{HaveSums}
use Rattle.form_gathered.specs.declared.joined.JoinedTerm.{JoinedTerm}
use Rattle.form_module.proofs.Batched.{list_comes}
use Rattle.form_module.proofs.joined.changed_terms.Goals as goal

pub returns : goal.returns
returns c = λ s is.
    let js = c.in-Some-2.list.items in
    let has = c.in_ok-list.ensures s is in
    list_comes c.args.statements.now (list_of_sum c.args.limit c.args.standing.now s) js c.in-Some-3.outputs c.in_ok-into_terms.field-0 c.joined_lists.ensures.sums (rw c.in-Some-2.is at has)
    (λ (all : List Monomial) (sums : HaveSums js all). let made = c.in_ok-outputs.ensures all (subst (λ (ks : List JoinedTerm). HaveSums ks all) (sym c.deref.ensures.value) sums) in rw c.in-Some-3.is at made)
    c.in_ok-into_terms.ensures
