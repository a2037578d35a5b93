use Rattle.std.proofs.Common.{sym, ◌∙◌}
use Rattle.form_stmts.proofs.Words.{stops}
use Rattle.form_stmts.proofs.instruction.after_word.Goals as goal

pub returns-in_default : goal.returns-in_default
returns-in_default c = sym (stops c.args.word.now c.loop-letter.rest.now c.loop-letter.letter-index c.loop-letter-test.true c.in_default.len_below) ∙ c.loop-letter.invariant
