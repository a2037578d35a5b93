use Rattle.std.proofs.Common.{◌+◌}
use Rattle.form_term.proofs.Parts.{at_end, at_last, cut, argument_length, function_length, letter_length}
use Rattle.form_term.proofs.reading.part_len.Goals as goal

pub returns-then-level-eq0-clause-first : goal.returns-then-level-eq0-clause-first
returns-then-level-eq0-clause-first c = at_end c.loop-piece.len c.loop-piece.level c.loop-piece.piece-index c.level_behind-level.result c.args.pieces.now c.piece-item.result c.piece-item.is c.loop-piece-test.true c.level_behind-level.ensures c.if-level-eq0.true c.loop-piece.invariant.2

pub returns-then-level-eq0-clause-part : goal.returns-then-level-eq0-clause-part
returns-then-level-eq0-clause-part c = cut (c.loop-piece.len + 1) c.args.pieces.now (returns-then-level-eq0-clause-first c)

pub returns-then-level-eq0-clause-argument : goal.returns-then-level-eq0-clause-argument
returns-then-level-eq0-clause-argument c = argument_length (c.loop-piece.len + 1) c.args.pieces.now (returns-then-level-eq0-clause-first c)

pub returns-then-level-eq0-clause-function : goal.returns-then-level-eq0-clause-function
returns-then-level-eq0-clause-function c = function_length (c.loop-piece.len + 1) c.args.pieces.now (returns-then-level-eq0-clause-first c)

pub returns-then-level-eq0-clause-non_commuting : goal.returns-then-level-eq0-clause-non_commuting
returns-then-level-eq0-clause-non_commuting c = letter_length (c.loop-piece.len + 1) c.args.pieces.now (returns-then-level-eq0-clause-first c)

pub returns-clause-first : goal.returns-clause-first
returns-clause-first c = at_last c.loop-piece.len c.loop-piece.level c.loop-piece.piece-index c.args.pieces.now c.loop-piece-test.false c.loop-piece.invariant.2

pub returns-clause-part : goal.returns-clause-part
returns-clause-part c = cut c.loop-piece.len c.args.pieces.now (returns-clause-first c)

pub returns-clause-argument : goal.returns-clause-argument
returns-clause-argument c = argument_length c.loop-piece.len c.args.pieces.now (returns-clause-first c)

pub returns-clause-function : goal.returns-clause-function
returns-clause-function c = function_length c.loop-piece.len c.args.pieces.now (returns-clause-first c)

pub returns-clause-non_commuting : goal.returns-clause-non_commuting
returns-clause-non_commuting c = letter_length c.loop-piece.len c.args.pieces.now (returns-clause-first c)
