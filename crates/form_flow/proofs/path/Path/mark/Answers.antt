use Rattle.std.proofs.Common.{map}
use Rattle.form_flow.specs.Paths.{outer_layers, way}
use Rattle.form_flow.proofs.Finishing.{marked}
use Rattle.form_flow.proofs.path.Path.mark.Goals as goal

pub returns-clause-marks : goal.returns-clause-marks
returns-clause-marks c act m = let p = c.args.self.now in marked (way act p.here) (map (way act) (outer_layers p.outer p.around.items)) m
