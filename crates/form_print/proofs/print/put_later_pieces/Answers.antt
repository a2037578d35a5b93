use Rattle.std.proofs.Common.{◌≡◌, ◌∷◌, arith}
use Rattle.std.proofs.lemmas.Grind.{common_steps}
use Rattle.form_print.specs.Joined.{later_piece}
use Rattle.form_print.proofs.Pieces.{later_pieces-at, later_pieces-parts}
use Rattle.form_outside.proofs.Written.{Takes_break, Takes_stop}
use Rattle.form_print.proofs.print.put_later_pieces.Goals as goal

pub returns-in_err-push_later_piece-clause-taken : goal.returns-in_err-push_later_piece-clause-taken
returns-in_err-push_later_piece-clause-taken g c =
    Takes_stop _ _ _ _ _ _ _ c.loop-term.invariant.taken (later_pieces-parts _ _ _) c.from_residual.ensures.0

pub returns-in_err-put-clause-taken : goal.returns-in_err-put-clause-taken
returns-in_err-put-clause-taken g c =
    let text : c.as_bytes.result.now ≡ 32 ∷ later_piece c.args.names.now c.term-item.result = grind (arith, common_steps) in
    let piece_put = rw text at (c.in_err-put.ensures.taken) in
    Takes_break _ _ _ _ _ _ _ _ _ _ c.loop-term.invariant.taken piece_put (later_pieces-at _ _ _ c.term-item.result c.loop-term-test.true c.term-item.is) c.from_residual-in_err-put.ensures.0
