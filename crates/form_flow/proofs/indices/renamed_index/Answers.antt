use Rattle.std.proofs.Common.{sym, ◌∙◌}
use Rattle.form_term.specs.declared.index.Index.{Index}
use Rattle.form_flow.specs.declared.indices.Renaming.{Renaming}
use Rattle.form_flow.specs.Indices.{put}
use Rattle.form_flow.proofs.Dummies.{fold_next, fold_end}
use Rattle.form_flow.proofs.indices.renamed_index.Goals as goal

abbrev step : Index → Renaming → Index
step k r = put r.from r.to k

pub loop-renaming-preserved : goal.loop-renaming-preserved
loop-renaming-preserved c =
    sym (fold_next step c.loop-renaming.last c.put-last.result c.args.renamings.now c.loop-renaming.renaming-index c.renaming-item.result c.loop-renaming-test.true c.renaming-item.is c.put-last.ensures) ∙ c.loop-renaming.invariant

pub returns : goal.returns
returns c = sym (fold_end step c.loop-renaming.last c.args.renamings.now c.loop-renaming.renaming-index c.loop-renaming-test.false) ∙ c.loop-renaming.invariant
