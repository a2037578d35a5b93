use Rattle.form_lines.proofs.Searching.{searched}
use Rattle.form_lines.proofs.lines.newline.Goals as goal

pub returns : goal.returns
returns c = searched 10 c.args.bytes.now c.memchr.result c.memchr.ensures
