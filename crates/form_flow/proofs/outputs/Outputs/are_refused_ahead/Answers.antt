use Rattle.std.proofs.Common.{◌-◌, Err, subst}
use Rattle.form_flow.specs.Left.{Foresees, left, outputs_left}
use Rattle.form_flow.specs.Outcome.{listing_of}
use Rattle.form_flow.proofs.Following.{refused_within}
use Rattle.form_flow.proofs.outputs.Outputs.are_refused_ahead.Goals as goal

pub returns-in-Err-Refused : goal.returns-in-Err-Refused
unfolding outputs_left
returns-in-Err-Refused c =
    let o = c.args.self.now in
    refused_within (o.limit - o.given) c.in-Err-Refused.field-0-0 (listing_of (left o.descent))
    (subst (λ e. Foresees (Err e) (left o.descent)) c.in-Err-Refused.field-0-is c.in-Err-Refused.ensures)
