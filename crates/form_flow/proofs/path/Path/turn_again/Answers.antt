use Rattle.std.proofs.Common.{◌-◌, map, arith}
use Rattle.form_flow.specs.Paths.{outer_layers, way}
use Rattle.form_flow.proofs.Leaving.{begins_again, begins_no_more}
use Rattle.form_flow.proofs.path.Path.turn_again.Goals as goal

pub returns-then-self-eq0-clause-leaves : goal.returns-then-self-eq0-clause-leaves
returns-then-self-eq0-clause-leaves c act m =
    let p = c.args.self.now in
    begins_no_more act p.here (map (way act) (outer_layers p.outer p.around.items)) m c.args.body c.requires.end c.requires.repeated c.requires.acted c.if-self-eq0.true

pub returns-clause-leaves : goal.returns-clause-leaves
returns-clause-leaves c act m =
    let p = c.args.self.now in
    begins_again act p.here (map (way act) (outer_layers p.outer p.around.items)) m c.args.body c.requires.end c.requires.repeated c.requires.acted (p.here.left - 1) (omega (arith, c.if-self-eq0.false))
