-- what it has become goes on by what is left
use Rattle.std.proofs.Common.{◌≡◌, drop}
use Rattle.form_flow.specs.Indices.{become}
use Rattle.form_flow.proofs.indices.renamed_index.Given as goal

abbrev pub invariant-loop-renaming : goal.invariant-loop-renaming
invariant-loop-renaming l = become (drop l.renaming-index l.renamings) l.last ≡ become l.renamings l.fn.index
