use Rattle.std.proofs.Common.{◌≡◌, ◌-◌, ap, ◌∙◌, arith}
use Rattle.form_expand.specs.Listing.{limited}
use Rattle.form_flow.specs.Left.{left, outputs_left}
use Rattle.form_flow.specs.Outcome.{listing_of}
use Rattle.form_flow.specs.Statements.{run}
use Rattle.form_flow.proofs.Finishing.{listing_marks}
use Rattle.form_flow.proofs.outputs.Outputs.new.Goals as goal

pub returns : goal.returns
unfolding outputs_left
returns c =
    let at = c.args.compiled.now.limits in
    let all : c.limit.result - 0 ≡ at.terms = omega (arith, c.limit.ensures) in
    ap (λ n. limited n (listing_of (left c.new-descent.result))) all
    ∙ ap (λ o. limited at.terms (listing_of o)) c.new-descent.ensures.left
    ∙ ap (limited at.terms) (listing_marks (run at c.args.block.now c.args.item))
