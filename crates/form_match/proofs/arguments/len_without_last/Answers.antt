use Rattle.std.proofs.Common.{length, arith}
use Rattle.form_term.specs.Arguments.{arguments_of}
use Rattle.form_match.proofs.Cutting.{all_front}
use Rattle.form_match.proofs.arguments.len_without_last.Goals as goal

pub returns-then-count-eq0 : goal.returns-then-count-eq0
returns-then-count-eq0 c = (length (arguments_of c.args.pieces.now), all_front c.args.pieces.now c.requires, omega (arith, c.if-count-eq0.true))
