use Rattle.std.proofs.Common.{◌<◌, length, sym, ◌∙◌, arith}
use Rattle.std.proofs.lemmas.Bool.{eqb-false}
use Rattle.form_match.proofs.Cutting.{has_first}
use Rattle.form_flow.proofs.collecting.first_argument.Goals as goal

pub returns : goal.returns
returns c =
    let some : 0 < length c.args.pieces.now = omega (arith, eqb-false (length c.args.pieces.now) 0 (sym c.is_empty.ensures ∙ c.if-is_empty.false)) in
    has_first c.args.pieces.now c.split_at.result.0.now c.split_at.result.1.now c.part_len.result some c.requires c.part_len.ensures.argument c.split_at.ensures.front c.split_at.ensures.back
