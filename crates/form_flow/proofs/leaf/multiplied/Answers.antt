use Rattle.std.proofs.Common.{subst, sym}
use Rattle.form_expand.specs.Listing.{Listing}
use Rattle.form_flow.specs.Multiplying.{multiplied_by}
use Rattle.form_flow.specs.Outcome.{made}
use Rattle.form_flow.specs.Sources.{HasEffect}
use Rattle.form_flow.proofs.leaf.multiplied.Goals as goal

pub returns-in-Some : goal.returns-in-Some
returns-in-Some c = subst (λ (l : Listing). HasEffect c.times_each.result (made (multiplied_by c.args.side l c.args.item))) (sym c.in-Some.ensures.list) c.times_each.ensures
