use Rattle.std.proofs.Common.{w32}
use Rattle.std.proofs.lemmas.Int.{to_z-of_z}
use Rattle.form_expand.specs.Numbers.{number_list}
use Rattle.form_expand.proofs.Lones.{number_listed}
use Rattle.form_expand.proofs.literal_arguments.of_value.Goals as goal

pub returns : goal.returns
returns c = number_listed c.of_number.result c.in-Some.number (number_list c.args.value c.args.power) (rw (to_z-of_z w32 c.args.power c.ranges.power) at c.in-Some.ensures.0) c.of_number.ensures
