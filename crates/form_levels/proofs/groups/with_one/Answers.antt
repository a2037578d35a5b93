use Rattle.std.proofs.Common.{ap, subst}
use Rattle.form_expand.specs.Listing.{Listing}
use Rattle.form_expand.specs.Walks.{all_of}
use Rattle.form_levels.specs.Rows.{IsBehind}
use Rattle.form_levels.proofs.groups.with_one.Goals as goal

pub returns-clause-fronts : goal.returns-clause-fronts
returns-clause-fronts c = subst (λ (l : Listing). IsBehind c.args.fronts c.args.one.now.times l c.times_often.result) (ap all_of c.terms.ensures) c.times_often.ensures.fronts
