-- The statements that the tree of a module is written as, in the order of the text.
use Rattle.std.specs.Prelude.{List, [], ◌∷◌, ◌++◌, map, true, false, Option, Some, None}
use Rattle.std.specs.List.{flat_map}
use Rattle.form_base.specs.declared.block.Action.{Action}
use Rattle.form_base.specs.declared.block.Action.TheFolds.{fold-Action}
use Rattle.form_base.specs.declared.block.Action.TheOpen.{Action-F}
use Rattle.form_base.specs.declared.block.Branch.{Branch}
use Rattle.form_ast.specs.Conditions.{Condition}
use Rattle.form_ast.specs.declared.module.ModulePart.{ModulePart}
use Rattle.form_ast.specs.declared.module.ModulePart.TheVariants as parts
use Rattle.form_ast.specs.declared.module.Outer.{Outer}
use Rattle.form_ast.specs.declared.module.Outer.TheVariants as outers
use Rattle.form_ast.specs.declared.module.PlacedPart.{PlacedPart}
use Rattle.form_ast.specs.declared.module.WrittenLeaf.{WrittenLeaf}
use Rattle.form_ast.specs.declared.module.WrittenLeaf.TheVariants as leaves
use Rattle.form_ast.specs.declared.picked.Picked.{Picked}
use Rattle.form_ast.specs.declared.statement.Placed.{Placed}
use Rattle.form_ast.specs.declared.statement.Rewrite.{Rewrite}
use Rattle.form_ast.specs.declared.statement.Statement.{Statement}
use Rattle.form_ast.specs.declared.statement.Statement.TheVariants as statements

abbrev pub WrittenAction : Type 0
WrittenAction = Action WrittenLeaf Condition (List Picked)

abbrev pub WrittenBranch : Type 0
WrittenBranch = Branch Condition (List WrittenAction)

-- ---- actions

abbrev pub as_id : Rewrite → Statement
as_id r = statements.Rewrite (record r { is_also = false })

abbrev pub as_also : Rewrite → Statement
as_also r = statements.Rewrite (record r { is_also = true })

abbrev pub leaf_written : WrittenLeaf → List Statement
leaf_written (leaves.Rewrite id others) = as_id id ∷ map as_also others
leaf_written (leaves.Multiply side e) = statements.Multiply side e ∷ []
leaf_written (leaves.Sum ns) = statements.Sum ns ∷ []
leaf_written (leaves.SumOver n ks) = statements.SumOver n ks ∷ []
leaf_written leaves.Discard = statements.Discard ∷ []

-- what several are written as
abbrev pub in_row : List (List Statement) → List Statement
in_row rows = flat_map (λ (row : List Statement). row) rows

-- branches with conditions, the first of which begins so
abbrev pub branches_written : (Condition → Statement) → List (Branch Condition (List (List Statement))) → List Statement
branches_written begins [] = []
branches_written begins (b ∷ bs) = begins b.condition ∷ in_row b.block ++ branches_written statements.ElseIf bs

abbrev pub last_written : Option (List (List Statement)) → List Statement
last_written None = []
last_written (Some b) = statements.Else ∷ in_row b

-- an action, with what each one in its blocks is written as
abbrev pub action_written : Action-F WrittenLeaf Condition (List Picked) (List Statement) → List Statement
action_written (Action-F.Plain l) = leaf_written l
action_written (Action-F.Repeat b) = statements.Repeat ∷ in_row b ++ statements.EndRepeat ∷ []
action_written (Action-F.Choose bs last) = branches_written statements.If bs ++ last_written last ++ statements.EndIf ∷ []
action_written (Action-F.Within fs b) = statements.Argument fs ∷ in_row b ++ statements.EndArgument ∷ []

abbrev pub written : WrittenAction → List Statement
written = fold-Action WrittenLeaf Condition (List Picked) (List Statement) action_written

-- ---- modules

abbrev pub outer_written : Outer → Statement
outer_written (outers.Names d ns) = statements.Names d ns
outer_written (outers.Indices is) = statements.Indices is
outer_written (outers.Dimension d) = statements.Dimension d
outer_written (outers.Set n es) = statements.Set n es
outer_written outers.Statistics = statements.Statistics
outer_written (outers.Drop ns) = statements.Drop ns
outer_written (outers.Skip ns) = statements.Skip ns
outer_written (outers.Local n right) = statements.Local n right
outer_written (outers.Print ns) = statements.Print ns

abbrev pub part_written : ModulePart → List Statement
part_written (parts.Outer o) = outer_written o ∷ []
part_written (parts.Action a) = written a

abbrev pub parts_written : List PlacedPart → List Statement
parts_written list = flat_map (λ (p : PlacedPart). part_written p.part) list

abbrev pub statement_of : Placed → Statement
statement_of p = p.statement
