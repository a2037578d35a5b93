use Rattle.std.proofs.Common.{suc, arith}
use Rattle.form_term.specs.Term.{size}
use Rattle.form_flow.proofs.renaming.all_renamed.Goals as goal

pub returns : goal.returns
returns c = c.renamed.ensures (suc (size c.args.item.now.term)) (omega arith)
