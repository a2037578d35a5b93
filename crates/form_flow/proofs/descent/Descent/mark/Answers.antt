use Rattle.std.proofs.Common.{◌∙◌, ap}
use Rattle.form_flow.specs.Outcome.{and_then, silent}
use Rattle.form_flow.specs.Left.{going, left_of_frames, limits_of}
use Rattle.form_flow.specs.Paths.{ways}
use Rattle.form_flow.specs.Statements.{action}
use Rattle.form_flow.proofs.Waiting.{made_goes, marked_now}
use Rattle.form_flow.proofs.descent.Descent.mark.Goals as goal

pub returns-clause-marked : goal.returns-clause-marked
returns-clause-marked c l =
    let d = c.args.self.now in
    let act = action (limits_of d) in
    let new = ways act c.mark.new.self in
    let rest = left_of_frames act d.end d.frames.items in
    ap (λ a. and_then (silent d.has_acted) (and_then a rest)) (made_goes (ways act d.path) new (c.mark.ensures.marks act) l)
    ∙ marked_now d.has_acted (going new l) rest
