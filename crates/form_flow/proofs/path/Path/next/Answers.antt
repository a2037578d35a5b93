use Rattle.std.proofs.Common.{map, refl}
use Rattle.form_flow.specs.Paths.{outer_layers, way}
use Rattle.form_flow.proofs.Leaving.{passes}
use Rattle.form_flow.proofs.path.Path.next.Goals as goal

pub returns-clause-next : goal.returns-clause-next
returns-clause-next c act =
    let p = c.args.self.now in
    passes act p.here c.in-Some.behind (map (way act) (outer_layers p.outer p.around.items)) c.in-Some.first.now (c.in-Some.ensures.splits act)

pub returns-in_default-clause-next : goal.returns-in_default-clause-next
returns-in_default-clause-next c act = (c.in_default.ensures.splits act, refl)
