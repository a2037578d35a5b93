-- What is lawful of a tree is so of its parts.
use Rattle.std.proofs.Common.{List, [], ◌∷◌, ◌++◌, map, Option, Some, None, option_map, subst}
use Rattle.std.specs.Prelude.{All, IfSome}
use Rattle.std.proofs.lemmas.List.Elements.{All-nil, All-cons, All-head, All-tail}
use Rattle.form_base.specs.declared.block.Action.TheVariants as acting
use Rattle.form_ast.specs.declared.module.PlacedPart.{PlacedPart}
use Rattle.form_ast.specs.declared.module.WrittenLeaf.{WrittenLeaf}
use Rattle.form_ast.specs.declared.picked.Picked.{Picked}
use Rattle.form_ast.specs.declared.statement.Statement.{Statement}
use Rattle.form_ast.specs.declared.statement.Statement.TheVariants as statements
use Rattle.form_ast.specs.Lawful.{IsLawfulAction, IsLawfulBlock, IsLawfulBranch, IsLawfulCondition, IsLawfulModule, IsLawfulPart, IsLawfulStatement}
use Rattle.form_ast.specs.Conditions.{Condition}
use Rattle.form_ast.specs.Written.{WrittenAction, WrittenBranch, branches_written, in_row, last_written, leaf_written, part_written, parts_written, written}
use Rattle.form_ast.proofs.Rows.{branch_rows, written_plain, written_repeat, written_within, written_choose}

abbrev Hold : List Statement → Type 0
Hold row = All IsLawfulStatement row

parted : (xs ys : List Statement) → Hold (xs ++ ys) → Hold xs × Hold ys
parted [] ys h = (All-nil IsLawfulStatement, h)
parted (x ∷ xs) ys h =
    let rest = parted xs ys (All-tail IsLawfulStatement x (xs ++ ys) h) in
    (All-cons IsLawfulStatement x xs (All-head IsLawfulStatement x (xs ++ ys) h) rest.0, rest.1)

pub lawful_row : (b : List WrittenAction) → Hold (in_row (map written b)) → IsLawfulBlock b
lawful_row [] h = All-nil IsLawfulAction
lawful_row (a ∷ b) h =
    let both = parted (written a) (in_row (map written b)) h in
    All-cons IsLawfulAction a b both.0 (lawful_row b both.1)

pub lawful_leaf : (l : WrittenLeaf) → IsLawfulAction (acting.Plain l) → All IsLawfulStatement (leaf_written l)
lawful_leaf l h = subst Hold (written_plain l) h

pub lawful_repeat : (b : List WrittenAction) → IsLawfulAction (acting.Repeat b) → IsLawfulBlock b
lawful_repeat b h =
    let row : Hold (statements.Repeat ∷ (in_row (map written b) ++ statements.EndRepeat ∷ [])) = subst Hold (written_repeat b) h in
    lawful_row b (parted (in_row (map written b)) (statements.EndRepeat ∷ []) (All-tail IsLawfulStatement statements.Repeat (in_row (map written b) ++ statements.EndRepeat ∷ []) row)).0

pub lawful_within : (fs : List Picked) (b : List WrittenAction) → IsLawfulAction (acting.Within fs b) → IsLawfulBlock b
lawful_within fs b h =
    let row : Hold (statements.Argument fs ∷ (in_row (map written b) ++ statements.EndArgument ∷ [])) = subst Hold (written_within fs b) h in
    lawful_row b (parted (in_row (map written b)) (statements.EndArgument ∷ []) (All-tail IsLawfulStatement (statements.Argument fs) (in_row (map written b) ++ statements.EndArgument ∷ []) row)).0

lawful_branches : (begins : Condition → Statement) → ((c : Condition) → IsLawfulStatement (begins c) → IsLawfulCondition c) → (bs : List WrittenBranch)
    → Hold (branches_written begins (map branch_rows bs)) → All IsLawfulBranch bs
lawful_branches begins means [] h = All-nil IsLawfulBranch
lawful_branches begins means (b ∷ bs) h =
    let block = in_row (map written b.block) in
    let others = branches_written statements.ElseIf (map branch_rows bs) in
    let both = parted block others (All-tail IsLawfulStatement (begins b.condition) (block ++ others) h) in
    All-cons IsLawfulBranch b bs
    (means b.condition (All-head IsLawfulStatement (begins b.condition) (block ++ others) h), lawful_row b.block both.0)
    (lawful_branches statements.ElseIf (λ c is. is) bs both.1)

lawful_last : (last : Option (List WrittenAction)) → Hold (last_written (option_map (map written) last)) → IfSome last IsLawfulBlock
lawful_last None h = tt
lawful_last (Some b) h = lawful_row b (All-tail IsLawfulStatement statements.Else (in_row (map written b)) h)

pub lawful_choose : (bs : List WrittenBranch) (last : Option (List WrittenAction)) → IsLawfulAction (acting.Choose bs last) → All IsLawfulBranch bs × IfSome last IsLawfulBlock
lawful_choose bs last h =
    let front = branches_written statements.If (map branch_rows bs) in
    let back = last_written (option_map (map written) last) in
    let row : Hold ((front ++ back) ++ statements.EndIf ∷ []) = subst Hold (written_choose bs last) h in
    let both = parted front back (parted (front ++ back) (statements.EndIf ∷ []) row).0 in
    (lawful_branches statements.If (λ c is. is) bs both.0, lawful_last last both.1)

-- each part of a module
pub lawful_parts : (ps : List PlacedPart) → IsLawfulModule ps → All IsLawfulPart ps
lawful_parts [] h = All-nil IsLawfulPart
lawful_parts (p ∷ ps) h =
    let both = parted (part_written p.part) (parts_written ps) h in
    All-cons IsLawfulPart p ps both.0 (lawful_parts ps both.1)
