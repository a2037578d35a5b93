-- What is made of a tree of statements is sound.
use Rattle.std.proofs.Common.{◌≡◌, ℕ, ◌≤◌, Bool, List, ◌∷◌, Option, Some, None, All, Ok, sym, subst, ◌∙◌}
use Rattle.std.specs.Prelude.{IfSome}
use Rattle.std.proofs.lemmas.List.Elements.{All-cons}
use Rattle.form_base.specs.declared.block.Action.TheVariants as acting
use Rattle.form_names.specs.Names.{Entry}
use Rattle.form_ast.proofs.Holding.{lawful_choose, lawful_repeat, lawful_within}
use Rattle.form_ast.specs.Building.{tree_of}
use Rattle.form_ast.specs.Lawful.{IsLawfulAction, IsLawfulBlock, IsLawfulBranch}
use Rattle.form_ast.specs.Syntax as syntax
use Rattle.form_ast.specs.Written.{WrittenAction, WrittenBranch}
use Rattle.form_ast.specs.declared.expr.Expr.{Expr}
use Rattle.form_ast.specs.declared.module.WrittenLeaf.{WrittenLeaf}
use Rattle.form_ast.specs.declared.module.WrittenLeaf.TheVariants as written
use Rattle.form_ast.specs.declared.picked.Picked as written_picked
use Rattle.form_ast.specs.declared.statement.Rewrite.{Rewrite}
use Rattle.form_tree.specs.Tree.{pieces_of_sum}
use Rattle.form_tree.specs.declared.tree.Tree.{Tree}
use Rattle.form_check.specs.declared.checked.CheckedLeaf.{CheckedLeaf}
use Rattle.form_check.specs.declared.checked.CheckedLeaf.TheVariants as checked
use Rattle.form_check.specs.declared.checked.Rewriting.{Rewriting}
use Rattle.form_check.specs.Acting.{IsLawfulLeaf, IsLawfulRewrite, action, block, branch, last_block, leaf, rewriting}
use Rattle.form_check.specs.Carried.{condition, picked, summed_index}
use Rattle.form_check.specs.Program.{CheckedBranch, CheckedStatement}
use Rattle.form_check.specs.Sound.{AreAllPickedSound, IsActionSound, IsConditionSound, IsIndexNamed, IsLeafSound, IsPickedSound, IsPieceSound, IsRewritingSound, IsRightSideSound}
use Rattle.form_pattern.specs.Pattern.{known_of, pattern_checked}
use Rattle.form_right_side.specs.Refusal.{◌>>=◌, listed}
use Rattle.form_right_side.specs.RightSide.{Known, largest_index, none_stands, nothing_known, right_side, sum, value_within}
use Rattle.form_right_side.proofs.Binding.{bind-Ok, ok_same}
use Rattle.form_right_side.proofs.Whole.{whole-tree}
use Rattle.form_check.proofs.CarriedSound.{condition-sound, index-sound, picked-sound}
use Rattle.form_check.proofs.Contents.{Holds, HoldsOf, holds_choose, holds_plain, holds_repeat, holds_within}
use Rattle.form_check.proofs.Induction.{by_tree}
use Rattle.form_check.proofs.Lawfulness.{leaf_lawful}
use Rattle.form_check.proofs.Lists.{listed-All, listed-where}
use Rattle.form_check.proofs.PatternSound.{pattern-sound}
use Rattle.form_check.proofs.Pieces.{sum-sound, value-fits}
use Rattle.form_check.proofs.Trees.{action_plain, action_repeat, action_choose, action_within}

-- where each tree is found again from its pieces
module _ (law : (tree : syntax.Sum) → tree_of (syntax.pieces_of_sum tree) ≡ Some tree) (names : List Entry) where
  pub right_side-Ok : (standing : ℕ → Bool) (known : Known) (right : Expr) (tree : syntax.Sum) (list : Tree) → right ≡ syntax.pieces_of_sum tree → right_side names standing known right ≡ Ok list → IsRightSideSound names standing list
  right_side-Ok standing known right tree list same is =
      let found = bind-Ok (sum names standing known tree) (λ t. Ok (pieces_of_sum t)) list (sym (whole-tree names standing known law right tree same) ∙ is) in
      record {
        tree = found.0;
        pieces = sym (ok_same found.2);
        each = subst (All (IsPieceSound names standing)) (ok_same found.2) (sum-sound names standing known tree found.0 found.1);
      }

  -- ---- statements that are no blocks

  rewriting-sound : (r : Rewrite) (made : Rewriting) → IsLawfulRewrite r → rewriting names r ≡ Ok made → IsRewritingSound names made
  rewriting-sound r made lawful is =
      let known = known_of names r.pattern in
      let pattern = bind-Ok (pattern_checked names r.pattern) (λ p. right_side names none_stands known r.right >>= (λ t. Ok (record { option = r.option; pattern = p; right = t }))) made is in
      let right = bind-Ok (right_side names none_stands known r.right) (λ t. Ok (record { option = r.option; pattern = pattern.0; right = t })) made pattern.2 in
      subst (IsRewritingSound names) (ok_same right.2) (record {
        pattern = pattern-sound names law r.pattern lawful.0.tree pattern.0 lawful.0.pieces pattern.1;
        right = right_side-Ok none_stands known r.right lawful.1.tree right.0 lawful.1.pieces right.1;
      })

  leaf-sound : (l : WrittenLeaf) (made : CheckedLeaf) → IsLawfulLeaf l → leaf names l ≡ Ok made → IsLeafSound names made
  leaf-sound (written.Rewrite id others) made lawful is =
      let rs = bind-Ok (listed (rewriting names) (id ∷ others)) (λ rs. Ok (checked.Rewrite rs)) made is in
      subst (IsLeafSound names) (ok_same rs.2)
      (listed-where (rewriting names) IsLawfulRewrite (IsRewritingSound names) rewriting-sound (id ∷ others) rs.0 (All-cons IsLawfulRewrite id others lawful.0 lawful.1) rs.1)
  leaf-sound (written.Multiply side right) made lawful is =
      let by = bind-Ok (right_side names none_stands nothing_known right) (λ by. Ok (checked.Multiply side by)) made is in
      subst (IsLeafSound names) (ok_same by.2) (right_side-Ok none_stands nothing_known right lawful.tree by.0 lawful.pieces by.1)
  leaf-sound (written.Sum list) made lawful is =
      let ids = bind-Ok (listed (summed_index names) list) (λ ids. Ok (checked.Sum ids)) made is in
      subst (IsLeafSound names) (ok_same ids.2) (listed-All (summed_index names) (IsIndexNamed names) (index-sound names) list ids.0 ids.1)
  leaf-sound (written.SumOver name numbers) made lawful is =
      let id = bind-Ok (summed_index names name) (λ id. listed (value_within largest_index) numbers >>= (λ values. Ok (checked.SumOver id values))) made is in
      let values = bind-Ok (listed (value_within largest_index) numbers) (λ values. Ok (checked.SumOver id.0 values)) made id.2 in
      subst (IsLeafSound names) (ok_same values.2)
      (index-sound names name id.0 id.1, listed-All (value_within largest_index) (λ n. n ≤ largest_index) (value-fits largest_index) numbers values.0 values.1)
  leaf-sound written.Discard made lawful is = subst (IsLeafSound names) (ok_same is) tt

  -- ---- blocks

  abbrev IsHeld : CheckedStatement → Type 0
  IsHeld a = Holds (IsLeafSound names) (IsConditionSound names) (AreAllPickedSound names) a

  abbrev AreHeld : List CheckedStatement → Type 0
  AreHeld b = All IsHeld b

  abbrev IsBranchHeld : CheckedBranch → Type 0
  IsBranchHeld b = HoldsOf (IsLeafSound names) (IsConditionSound names) (AreAllPickedSound names) b

  -- what is made of the statement is sound
  abbrev IsMadeSound : WrittenAction → Type 0
  IsMadeSound a = (made : CheckedStatement) → IsLawfulAction a → action names a ≡ Ok made → IsHeld made

  abbrev AreMadeSound : List WrittenAction → Type 0
  AreMadeSound b = All IsMadeSound b

  plain-sound : (l : WrittenLeaf) → IsMadeSound (acting.Plain l)
  plain-sound l made lawful is =
      let one = bind-Ok (leaf names l) (λ one. Ok (acting.Plain one)) made (sym (action_plain names l) ∙ is) in
      subst IsHeld (ok_same one.2) (holds_plain (IsLeafSound names) (IsConditionSound names) (AreAllPickedSound names) one.0 (leaf-sound l one.0 (leaf_lawful l lawful) one.1))

  block-sound : (b : List WrittenAction) (made : List CheckedStatement) → AreMadeSound b → IsLawfulBlock b → block names b ≡ Ok made → AreHeld made
  block-sound b made all lawful is =
      listed-where (action names) (λ a. IsMadeSound a × IsLawfulAction a) IsHeld (λ a one h e. h.0 one h.1 e) b made (λ i d below. (all i d below, lawful i d below)) is

  repeat-sound : (b : List WrittenAction) → AreMadeSound b → IsMadeSound (acting.Repeat b)
  repeat-sound b all made lawful is =
      let inner = bind-Ok (block names b) (λ inner. Ok (acting.Repeat inner)) made (sym (action_repeat names b) ∙ is) in
      subst IsHeld (ok_same inner.2)
      (holds_repeat (IsLeafSound names) (IsConditionSound names) (AreAllPickedSound names) inner.0 (block-sound b inner.0 all (lawful_repeat b lawful) inner.1))

  within-sound : (fs : List written_picked.Picked) (b : List WrittenAction) → AreMadeSound b → IsMadeSound (acting.Within fs b)
  within-sound fs b all made lawful is =
      let taken = bind-Ok (listed (picked names) fs) (λ taken. block names b >>= (λ inner. Ok (acting.Within taken inner))) made (sym (action_within names fs b) ∙ is) in
      let inner = bind-Ok (block names b) (λ inner. Ok (acting.Within taken.0 inner)) made taken.2 in
      subst IsHeld (ok_same inner.2)
      (holds_within (IsLeafSound names) (IsConditionSound names) (AreAllPickedSound names) taken.0 inner.0
      (listed-All (picked names) (IsPickedSound names) (picked-sound names) fs taken.0 taken.1)
      (block-sound b inner.0 all (lawful_within fs b lawful) inner.1))

  branch-sound : (b : WrittenBranch) (made : CheckedBranch) → AreMadeSound b.block → IsLawfulBranch b → branch names b ≡ Ok made → IsBranchHeld made
  branch-sound b made all lawful is =
      let asked = bind-Ok (condition names b.condition) (λ asked. block names b.block >>= (λ inner. Ok (record { condition = asked; block = inner }))) made is in
      let inner = bind-Ok (block names b.block) (λ inner. Ok (record { condition = asked.0; block = inner })) made asked.2 in
      subst IsBranchHeld (ok_same inner.2) (condition-sound names law b.condition asked.0 lawful.0 asked.1, block-sound b.block inner.0 all lawful.1 inner.1)

  last-sound : (last : Option (List WrittenAction)) (made : Option (List CheckedStatement)) → IfSome last AreMadeSound → IfSome last IsLawfulBlock → last_block names last ≡ Ok made → IfSome made AreHeld
  last-sound None made all lawful is = subst (λ (o : Option (List CheckedStatement)). IfSome o AreHeld) (ok_same is) tt
  last-sound (Some b) made all lawful is =
      let inner = bind-Ok (block names b) (λ inner. Ok (Some inner)) made is in
      subst (λ (o : Option (List CheckedStatement)). IfSome o AreHeld) (ok_same inner.2) (block-sound b inner.0 all lawful inner.1)

  choose-sound : (bs : List WrittenBranch) (last : Option (List WrittenAction)) → All (λ b. AreMadeSound b.block) bs → IfSome last AreMadeSound → IsMadeSound (acting.Choose bs last)
  choose-sound bs last all otherwise made lawful is =
      let parts = lawful_choose bs last lawful in
      let branches = bind-Ok (listed (branch names) bs) (λ branches. last_block names last >>= (λ o. Ok (acting.Choose branches o))) made (sym (action_choose names bs last) ∙ is) in
      let o = bind-Ok (last_block names last) (λ o. Ok (acting.Choose branches.0 o)) made branches.2 in
      subst IsHeld (ok_same o.2)
      (holds_choose (IsLeafSound names) (IsConditionSound names) (AreAllPickedSound names) branches.0 o.0
      (listed-where (branch names) (λ b. AreMadeSound b.block × IsLawfulBranch b) IsBranchHeld (λ b one h e. branch-sound b one h.0 h.1 e) bs branches.0 (λ i d below. (all i d below, parts.0 i d below)) branches.1)
      (last-sound last o.0 otherwise parts.1 o.1))

  made-sound : (a : WrittenAction) → IsMadeSound a
  made-sound = by_tree IsMadeSound plain-sound repeat-sound choose-sound within-sound

  pub action-sound : (a : WrittenAction) (made : CheckedStatement) → IsLawfulAction a → action names a ≡ Ok made → IsActionSound names made
  action-sound a made lawful is =
      let h = made-sound a made lawful is in
      record { leaves = h.leaves; conditions = h.conditions; choices = h.choices }
