use Rattle.std.proofs.Common.{◌≡◌, drop}
use Rattle.form_grammar.specs.Shape.{begun, judged}
use Rattle.form_grammar.proofs.shape.judge.Given as goal

abbrev pub invariant-loop-piece : goal.invariant-loop-piece
invariant-loop-piece l = judged begun l.pieces ≡ judged l.shape (drop l.piece-index l.pieces)
