use Rattle.form_expand.proofs.LiteralSums.{sum_alone}
use Rattle.form_expand.proofs.literal_sum.literal_sum.Goals as goal

pub returns : goal.returns
returns c = sum_alone c.args.limit c.args.names.now c.literal_terms.result c.args.pieces.now c.in_ok-none.none.items c.in_ok-none.ensures.items c.literal_terms.ensures
