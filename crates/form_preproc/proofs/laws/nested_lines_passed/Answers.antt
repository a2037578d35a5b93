use Rattle.form_preproc.proofs.Blocks.{closer_behind_nested, end_behind_nested}
use Rattle.form_preproc.specs.Block.{key_in}
use Rattle.form_preproc.proofs.laws.nested_lines_passed.Goals as goal

pub returns : goal.returns
returns c = record { part = closer_behind_nested key_in (λ line. line.spot.line); block = end_behind_nested key_in (λ line. line.spot.line) }
