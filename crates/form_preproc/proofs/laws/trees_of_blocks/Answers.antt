use Rattle.form_preproc.proofs.Nests.{nested_from, nested_to, misfit_from, unended_from}
use Rattle.form_preproc.specs.Block.{key_in}
use Rattle.form_preproc.proofs.laws.trees_of_blocks.Goals as goal

pub returns-clause-trees : goal.returns-clause-trees
returns-clause-trees c = λ lines. (nested_from key_in (λ line. line.spot.line) lines, nested_to key_in (λ line. line.spot.line) lines)

pub returns-clause-misfits : goal.returns-clause-misfits
returns-clause-misfits c = misfit_from key_in (λ line. line.spot.line)

pub returns-clause-unended : goal.returns-clause-unended
returns-clause-unended c = unended_from key_in (λ line. line.spot.line)
