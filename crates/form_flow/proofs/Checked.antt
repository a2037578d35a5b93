-- Right sides and patterns of checked statements are those of trees.
use Rattle.std.proofs.Common.{List}
use Rattle.std.proofs.lemmas.List.Elements.{All-weaker}
use Rattle.form_base.specs.Statements.{conditions_of, leaves_of}
use Rattle.form_names.specs.Names.{Entry}
use Rattle.form_tree.specs.Conditions.{Parts}
use Rattle.form_tree.specs.Patterns.{Pieces}
use Rattle.form_check.specs.declared.checked.CheckedLeaf.{CheckedLeaf}
use Rattle.form_check.specs.declared.checked.CheckedLeaf.TheVariants.{Rewrite, Multiply, Sum, SumOver, Discard}
use Rattle.form_check.specs.declared.checked.Rewriting.{Rewriting}
use Rattle.form_check.specs.Program.{CheckedStatement}
use Rattle.form_check.specs.Sound.{IsActionSound, IsConditionSound, IsFixedSound, IsLeafSound, IsPatternSound, IsRewritingSound}
use Rattle.form_flow.specs.Making.{HasAllTrees, HasArgument, HasLeafTrees, HasPattern, HasPatterns, HasTrees}

module _ (names : List Entry) where
  pattern_has : (p : Pieces) → IsPatternSound names p → HasPattern p
  pattern_has p h = ((h.tree, h.pieces), All-weaker (IsFixedSound names) HasArgument (λ list k. (k.tree, k.pieces)) p.fixed h.fixed)

  rewriting_has : (r : Rewriting) → IsRewritingSound names r → HasTrees r
  rewriting_has r h = (pattern_has r.pattern h.pattern, (h.right.tree, h.right.pieces))

  leaf_has : (l : CheckedLeaf) → IsLeafSound names l → HasLeafTrees l
  leaf_has (Rewrite rs) h = All-weaker (IsRewritingSound names) HasTrees rewriting_has rs h
  leaf_has (Multiply side right) h = (h.tree, h.pieces)
  leaf_has (Sum ids) h = tt
  leaf_has (SumOver id values) h = tt
  leaf_has Discard h = tt

  condition_has : (c : Parts) → IsConditionSound names c → HasPatterns c
  condition_has c h = All-weaker (IsPatternSound names) HasPattern pattern_has c.patterns h.patterns

  -- a sound statement has what it is made ready from
  pub has_all_trees : (a : CheckedStatement) → IsActionSound names a → HasAllTrees a
  unfolding HasAllTrees
  has_all_trees a h =
      (All-weaker (IsLeafSound names) HasLeafTrees leaf_has (leaves_of a) h.leaves, All-weaker (IsConditionSound names) HasPatterns condition_has (conditions_of a) h.conditions)
