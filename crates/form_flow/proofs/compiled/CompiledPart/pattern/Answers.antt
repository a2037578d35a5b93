use Rattle.form_flow.proofs.Readying.{pattern_kept}
use Rattle.form_flow.proofs.compiled.CompiledPart.pattern.Goals as goal

pub returns : goal.returns
returns c =
    let p = c.self.inside in
    pattern_kept p.option p.pattern p.right c.args.self.now c.self.invariant c.self.view_is
