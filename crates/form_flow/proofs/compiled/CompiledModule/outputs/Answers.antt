use Rattle.std.proofs.Common.{ap, ◌∙◌}
use Rattle.form_expand.specs.Listing.{limited}
use Rattle.form_flow.specs.Outcome.{listing_of}
use Rattle.form_flow.specs.Statement.{Compiled}
use Rattle.form_flow.specs.Statements.{outputs, run}
use Rattle.form_flow.proofs.compiled.CompiledModule.outputs.Goals as goal

pub returns : goal.returns
unfolding outputs
returns c =
    let at = c.args.self.now.limits in
    c.new.ensures ∙ ap (λ (k : Compiled). limited at.terms (listing_of (run at k.statements c.args.item))) c.self.view_is
