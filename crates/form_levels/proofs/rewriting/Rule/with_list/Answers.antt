use Rattle.std.proofs.Common.{ap, subst, sym, ◌∙◌}
use Rattle.form_expand.specs.Expanding.{list_of_sum}
use Rattle.form_expand.specs.Listing.{Listing}
use Rattle.form_expand.specs.Walks.{all_of}
use Rattle.form_flow.specs.Rests.{names_in}
use Rattle.form_levels.specs.Rows.{IsBehind}
use Rattle.form_levels.proofs.rewriting.Rule.with_list.Goals as goal

pub returns-clause-fronts : goal.returns-clause-fronts
returns-clause-fronts c =
    subst (λ (l : Listing). IsBehind c.args.fronts c.args.times l c.times_often.result)
    (ap all_of c.terms.ensures
    ∙ sym (rw c.in-Some.is at c.in_ok-list.ensures)
    ∙ ap (list_of_sum c.args.self.now.limit (names_in c.args.names.now)) c.right-right.ensures)
    c.times_often.ensures.fronts
