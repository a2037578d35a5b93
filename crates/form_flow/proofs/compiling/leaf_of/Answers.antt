use Rattle.std.proofs.Common.{List, subst, sym}
use Rattle.std.specs.Prelude.{All}
use Rattle.form_check.specs.declared.checked.Rewriting.{Rewriting}
use Rattle.form_flow.specs.Making.{HasLeafTrees, HasTrees}
use Rattle.form_flow.proofs.compiling.leaf_of.Goals as goal

pub group_of-requires : goal.group_of-requires
group_of-requires c = subst (λ (rs : List Rewriting). All HasTrees rs) (sym c.as_slice.ensures) (subst HasLeafTrees c.in-Rewrite.is c.requires)
