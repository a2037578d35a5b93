use Rattle.std.proofs.Common.{◌∙◌, ap}
use Rattle.form_flow.specs.Paths.{outer_layers, way}
use Rattle.form_flow.specs.Ways.{mark}
use Rattle.form_flow.proofs.Weighing.{leaves_less}
use Rattle.form_flow.proofs.Leaving.{goes_inside, goes_outside, popped}
use Rattle.form_flow.proofs.path.Path.go_out.Goals as goal

pub returns-in_default-clause-leaves : goal.returns-in_default-clause-leaves
returns-in_default-clause-leaves c act m = goes_outside act c.args.self.now m c.requires.end c.requires.unchanged c.in_default.is

pub returns-clause-leaves : goal.returns-clause-leaves
returns-clause-leaves c act m =
    let p = c.args.self.now in
    goes_inside act p c.in-Some.outer c.marked-self.result (outer_layers c.pop-self.result c.pop-self.new.self.items) m c.requires.end c.requires.unchanged c.in-Some.is
    (popped p.around c.pop-self.new.self c.pop-self.result c.pop-self.ensures.items c.pop-self.ensures.cases)
    (c.marked-self.ensures.marked act ∙ ap (λ b. mark b (way act c.in-Some.outer)) c.acted.ensures)

pub returns-clause-weight : goal.returns-clause-weight
returns-clause-weight c at is =
    let p = c.args.self.now in
    leaves_less at p c.in-Some.outer c.marked-self.result (outer_layers c.pop-self.result c.pop-self.new.self.items) c.in-Some.is
    (popped p.around c.pop-self.new.self c.pop-self.result c.pop-self.ensures.items c.pop-self.ensures.cases) (c.marked-self.ensures.weight at)
