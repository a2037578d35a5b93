use Rattle.std.proofs.Common.{◌≡◌, drop}
use Rattle.form_stmts.specs.Instruction.{after_word as after_word_of}
use Rattle.form_stmts.proofs.instruction.after_word.Given as goal

abbrev pub invariant-loop-letter : goal.invariant-loop-letter
invariant-loop-letter l = after_word_of (drop l.letter-index l.word) l.rest ≡ after_word_of l.word l.text
