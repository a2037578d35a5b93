use Rattle.form_blocks.proofs.Beginnings.{parts_begin}
use Rattle.form_blocks.proofs.laws.parts_stand_where_they_begin.Goals as goal

pub returns : goal.returns
returns c = parts_begin
