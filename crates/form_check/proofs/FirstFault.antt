-- A tree of statements is refused where the first of those that it is written as is at fault.
use Rattle.std.proofs.Common.{◌≡◌, false, List, [], ◌∷◌, ◌++◌, map, Option, Some, None, option_map, All, Result, Ok, Err, refl, sym, ap, ◌∙◌}
use Rattle.std.specs.Prelude.{IfSome}
use Rattle.std.proofs.lemmas.List.Elements.{All-head, All-tail}
use Rattle.form_base.specs.declared.block.Action.TheVariants as acting
use Rattle.form_names.specs.Names.{Entry}
use Rattle.form_ast.proofs.Rows.{branch_rows, written_choose, written_plain, written_repeat, written_within}
use Rattle.form_ast.specs.Conditions.{Condition}
use Rattle.form_ast.specs.Written.{WrittenAction, WrittenBranch, as_also, branches_written, in_row, last_written, leaf_written, written}
use Rattle.form_ast.specs.declared.module.WrittenLeaf.{WrittenLeaf}
use Rattle.form_ast.specs.declared.module.WrittenLeaf.TheVariants as leaves
use Rattle.form_ast.specs.declared.picked.Picked.{Picked}
use Rattle.form_ast.specs.declared.statement.Rewrite.{Rewrite}
use Rattle.form_ast.specs.declared.statement.Statement.{Statement}
use Rattle.form_ast.specs.declared.statement.Statement.TheVariants as statements
use Rattle.form_check.specs.declared.checked.CheckedLeaf.TheVariants as checked
use Rattle.form_check.specs.Acting.{action, block, branch, last_block, leaf, rewriting}
use Rattle.form_check.specs.Carried.{condition, picked, summed_index}
use Rattle.form_check.specs.Faults.{fault_in, fault_of, first_fault, or_next}
use Rattle.form_check.specs.Program.{CheckedBranch, CheckedStatement}
use Rattle.form_right_side.specs.Refusal.{Refusal, ◌>>=◌, listed}
use Rattle.form_right_side.specs.RightSide.{largest_index, none_stands, nothing_known, right_side, value_within}
use Rattle.form_check.proofs.Induction.{by_tree}
use Rattle.form_check.proofs.Trees.{action_choose, action_plain, action_repeat, action_within}

-- ---- one after the other

or_none : (o : Option Refusal) → or_next o None ≡ o
or_none None = refl
or_none (Some e) = refl

or_grouped : (a b c : Option Refusal) → or_next (or_next a b) c ≡ or_next a (or_next b c)
or_grouped None b c = refl
or_grouped (Some e) b c = refl

-- a step that isn't refused, and one behind it
fault_made : {X Y : Type 0} (r : Result X Refusal) (made : X → Y) → fault_of (r >>= (λ x. Ok (made x))) ≡ fault_of r
fault_made (Ok x) made = refl
fault_made (Err e) made = refl

fault_both : {X Y Z : Type 0} (r : Result X Refusal) (s : Result Y Refusal) (made : X → Y → Z) → fault_of (r >>= (λ x. s >>= (λ y. Ok (made x y)))) ≡ or_next (fault_of r) (fault_of s)
fault_both (Ok x) s made = fault_made s (made x)
fault_both (Err e) s made = refl

module _ (names : List Entry) where
  faults : (xs ys : List Statement) → first_fault names (xs ++ ys) ≡ or_next (first_fault names xs) (first_fault names ys)
  unfolding first_fault
  faults [] ys = refl
  faults (x ∷ xs) ys =
      ap (or_next (fault_in names x)) (faults xs ys) ∙ sym (or_grouped (fault_in names x) (first_fault names xs) (first_fault names ys))

  fault_alone : (s : Statement) → first_fault names (s ∷ []) ≡ fault_in names s
  unfolding first_fault
  fault_alone s = or_none (fault_in names s)

  fault_before : (s : Statement) (ss : List Statement) → first_fault names (s ∷ ss) ≡ or_next (fault_in names s) (first_fault names ss)
  unfolding first_fault
  fault_before s ss = refl

  fault_nowhere : first_fault names [] ≡ None
  unfolding first_fault
  fault_nowhere = refl

  -- ---- statements that are no blocks

  fault_alsos : (rs : List Rewrite) → fault_of (listed (rewriting names) rs) ≡ first_fault names (map as_also rs)
  fault_alsos [] = sym fault_nowhere
  fault_alsos (r ∷ rs) =
      fault_both (rewriting names r) (listed (rewriting names) rs) (λ one others. one ∷ others)
      ∙ ap (or_next (fault_of (rewriting names r))) (fault_alsos rs)
      ∙ sym (fault_before (as_also r) (map as_also rs))

  fault_leaf : (l : WrittenLeaf) → fault_of (leaf names l) ≡ first_fault names (leaf_written l)
  fault_leaf (leaves.Rewrite id others) =
      fault_made (listed (rewriting names) (id ∷ others)) checked.Rewrite
      ∙ fault_both (rewriting names id) (listed (rewriting names) others) (λ one others. one ∷ others)
      ∙ ap (or_next (fault_of (rewriting names id))) (fault_alsos others)
      ∙ sym (fault_before (statements.Rewrite (record id { is_also = false })) (map as_also others))
  fault_leaf (leaves.Multiply side right) =
      fault_made (right_side names none_stands nothing_known right) (λ by. checked.Multiply side by) ∙ sym (fault_alone (statements.Multiply side right))
  fault_leaf (leaves.Sum list) = fault_made (listed (summed_index names) list) checked.Sum ∙ sym (fault_alone (statements.Sum list))
  fault_leaf (leaves.SumOver name numbers) =
      fault_both (summed_index names name) (listed (value_within largest_index) numbers) (λ id values. checked.SumOver id values) ∙ sym (fault_alone (statements.SumOver name numbers))
  fault_leaf leaves.Discard = sym (fault_alone statements.Discard)

  -- ---- blocks

  abbrev IsFirst : WrittenAction → Type 0
  IsFirst a = fault_of (action names a) ≡ first_fault names (written a)

  abbrev AreFirst : List WrittenAction → Type 0
  AreFirst b = All IsFirst b

  plain : (l : WrittenLeaf) → IsFirst (acting.Plain l)
  plain l =
      ap fault_of (action_plain names l) ∙ fault_made {Y = CheckedStatement} (leaf names l) (λ made. acting.Plain made) ∙ fault_leaf l ∙ sym (ap (first_fault names) (written_plain l))

  of_block : (b : List WrittenAction) → AreFirst b → fault_of (block names b) ≡ first_fault names (in_row (map written b))
  of_block [] all = sym fault_nowhere
  of_block (a ∷ b) all =
      fault_both (action names a) (block names b) (λ one others. one ∷ others)
      ∙ ap (λ (o : Option Refusal). or_next o (fault_of (block names b))) (All-head IsFirst a b all)
      ∙ ap (or_next (first_fault names (written a))) (of_block b (All-tail IsFirst a b all))
      ∙ sym (faults (written a) (in_row (map written b)))

  -- a row behind what opens a block, and what closes it
  between : (opens closes : Statement) (row : List Statement) → fault_in names closes ≡ None → first_fault names (opens ∷ row ++ closes ∷ []) ≡ or_next (fault_in names opens) (first_fault names row)
  between opens closes row nothing =
      faults (opens ∷ row) (closes ∷ [])
      ∙ ap (or_next (first_fault names (opens ∷ row))) (fault_alone closes ∙ nothing)
      ∙ or_none (first_fault names (opens ∷ row))
      ∙ fault_before opens row

  repeats : (b : List WrittenAction) → AreFirst b → IsFirst (acting.Repeat b)
  repeats b all =
      ap fault_of (action_repeat names b) ∙ fault_made {Y = CheckedStatement} (block names b) (λ made. acting.Repeat made) ∙ of_block b all
      ∙ sym (between statements.Repeat statements.EndRepeat (in_row (map written b)) refl)
      ∙ sym (ap (first_fault names) (written_repeat b))

  within : (fs : List Picked) (b : List WrittenAction) → AreFirst b → IsFirst (acting.Within fs b)
  within fs b all =
      ap fault_of (action_within names fs b) ∙ fault_both {Z = CheckedStatement} (listed (picked names) fs) (block names b) (λ taken made. acting.Within taken made)
      ∙ ap (or_next (fault_of (listed (picked names) fs))) (of_block b all)
      ∙ sym (between (statements.Argument fs) statements.EndArgument (in_row (map written b)) refl)
      ∙ sym (ap (first_fault names) (written_within fs b))

  abbrev IsBranchFirst : WrittenBranch → Type 0
  IsBranchFirst b = AreFirst b.block

  of_branch : (b : WrittenBranch) → AreFirst b.block → fault_of (branch names b) ≡ or_next (fault_of (condition names b.condition)) (first_fault names (in_row (map written b.block)))
  of_branch b all =
      fault_both {Z = CheckedBranch} (condition names b.condition) (block names b.block) (λ asked made. record { condition = asked; block = made })
      ∙ ap (or_next (fault_of (condition names b.condition))) (of_block b.block all)

  of_branches : (begins : Condition → Statement) → ((c : Condition) → fault_in names (begins c) ≡ fault_of (condition names c)) → (bs : List WrittenBranch) → All IsBranchFirst bs
      → fault_of (listed (branch names) bs) ≡ first_fault names (branches_written begins (map branch_rows bs))
  of_branches begins asks [] all = sym fault_nowhere
  of_branches begins asks (b ∷ bs) all =
      let row = in_row (map written b.block) in
      let others = branches_written statements.ElseIf (map branch_rows bs) in
      fault_both (branch names b) (listed (branch names) bs) (λ one others. one ∷ others)
      ∙ ap (λ (o : Option Refusal). or_next o (fault_of (listed (branch names) bs))) (of_branch b (All-head IsBranchFirst b bs all))
      ∙ ap (or_next (or_next (fault_of (condition names b.condition)) (first_fault names row))) (of_branches statements.ElseIf (λ c. refl) bs (All-tail IsBranchFirst b bs all))
      ∙ ap (λ (o : Option Refusal). or_next (or_next o (first_fault names row)) (first_fault names others)) (sym (asks b.condition))
      ∙ ap (λ (o : Option Refusal). or_next o (first_fault names others)) (sym (fault_before (begins b.condition) row))
      ∙ sym (faults (begins b.condition ∷ row) others)

  of_last : (last : Option (List WrittenAction)) → IfSome last AreFirst → fault_of (last_block names last) ≡ first_fault names (last_written (option_map (map written) last))
  of_last None all = sym fault_nowhere
  of_last (Some b) all =
      fault_made (block names b) (λ made. Some made) ∙ of_block b all ∙ sym (fault_before statements.Else (in_row (map written b)))

  chooses : (bs : List WrittenBranch) (last : Option (List WrittenAction)) → All IsBranchFirst bs → IfSome last AreFirst → IsFirst (acting.Choose bs last)
  chooses bs last all otherwise =
      let front = branches_written statements.If (map branch_rows bs) in
      let back = last_written (option_map (map written) last) in
      ap fault_of (action_choose names bs last)
      ∙ fault_both {Z = CheckedStatement} (listed (branch names) bs) (last_block names last) (λ made o. acting.Choose made o)
      ∙ ap (λ (o : Option Refusal). or_next o (fault_of (last_block names last))) (of_branches statements.If (λ c. refl) bs all)
      ∙ ap (or_next (first_fault names front)) (of_last last otherwise)
      ∙ sym (faults front back)
      ∙ sym (faults (front ++ back) (statements.EndIf ∷ []) ∙ ap (or_next (first_fault names (front ++ back))) (fault_alone statements.EndIf) ∙ or_none (first_fault names (front ++ back)))
      ∙ sym (ap (first_fault names) (written_choose bs last))

  pub is_first : (a : WrittenAction) → IsFirst a
  is_first = by_tree IsFirst plain repeats chooses within
