use Rattle.std.proofs.Common.{w32}
use Rattle.std.proofs.lemmas.Int.{to_z-of_z}
use Rattle.form_expand.specs.Bound.{wild_list}
use Rattle.form_expand.proofs.Lones.{wild_listed}
use Rattle.form_expand.proofs.literal_arguments.of_wild.Goals as goal

pub returns : goal.returns
returns c = wild_listed c.of_number.result c.in-Some.number (wild_list c.args.names.now c.args.symbol c.args.is_over c.args.power) (rw (to_z-of_z w32 c.args.power c.ranges.power) at c.in-Some.ensures.0) c.of_number.ensures
