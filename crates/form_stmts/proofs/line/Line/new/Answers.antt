use Rattle.form_stmts.proofs.Ascii.{is_read}
use Rattle.form_stmts.proofs.line.Line.new.Goals as goal

pub unwrap-text-requires : goal.unwrap-text-requires
unwrap-text-requires c = is_read c.args.text.now c.from_utf8.result c.requires c.from_utf8.ensures
