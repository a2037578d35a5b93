use Rattle.std.proofs.Common.{◌∷◌, [], false, ap, ◌∙◌}
use Rattle.form_flow.specs.Ways.{acts_of, finish, run_each}
use Rattle.form_flow.proofs.Finishing.{bind_outside, enters}
use Rattle.form_flow.proofs.path.Path.new.Goals as goal

pub returns-clause-begins : goal.returns-clause-begins
returns-clause-begins c act m =
    let acts = acts_of act c.args.block.now in
    ap (λ w. finish (w ∷ []) false m) (c.plain-here.ensures.plain act)
    ∙ enters acts [] m
    ∙ bind_outside (run_each acts m)
