use Rattle.form_blocks.proofs.Lines.{read_in_blocks}
use Rattle.form_blocks.proofs.laws.lines_are_blocks.Goals as goal

pub returns : goal.returns
returns c = read_in_blocks
