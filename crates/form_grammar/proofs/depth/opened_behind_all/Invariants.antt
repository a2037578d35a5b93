use Rattle.std.proofs.Common.{◌≡◌, drop}
use Rattle.form_grammar.specs.Depth.{opened_by}
use Rattle.form_grammar.proofs.depth.opened_behind_all.Given as goal

abbrev pub invariant-loop-piece : goal.invariant-loop-piece
invariant-loop-piece l = opened_by l.fn.opened l.pieces ≡ opened_by l.opened (drop l.piece-index l.pieces)
