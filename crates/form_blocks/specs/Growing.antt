-- The tree that a module's statements are, by what is open behind each of them.
use Rattle.std.specs.Prelude.{Bool, false, if◌then◌else◌, List, [], ◌∷◌, ◌++◌, fold, Option, Some, None}
use Rattle.form_base.specs.declared.spot.Spot.{Spot}
use Rattle.form_base.specs.declared.block.Action.TheVariants as acting
use Rattle.form_ast.specs.declared.module.ModulePart.TheVariants as in_module
use Rattle.form_ast.specs.declared.module.Outer.{Outer}
use Rattle.form_ast.specs.declared.module.Outer.TheVariants as outers
use Rattle.form_ast.specs.declared.module.PlacedPart.{PlacedPart}
use Rattle.form_ast.specs.declared.module.WrittenLeaf.TheVariants as leaves
use Rattle.form_ast.specs.declared.statement.Placed.{Placed}
use Rattle.form_ast.specs.declared.statement.Rewrite.{Rewrite}
use Rattle.form_ast.specs.declared.statement.Statement.{Statement}
use Rattle.form_ast.specs.declared.statement.Statement.TheVariants as statements
use Rattle.form_ast.specs.Written.{WrittenAction, WrittenBranch}
use Rattle.form_blocks.specs.declared.group.Group.{Group}
use Rattle.form_blocks.specs.declared.open_blocks.OpenBlock.{OpenBlock}
use Rattle.form_blocks.specs.declared.tree_part.Opening.{Opening}
use Rattle.form_blocks.specs.declared.tree_part.Opening.TheVariants as openings
use Rattle.form_blocks.specs.declared.tree_part.TreePart.{TreePart}
use Rattle.form_blocks.specs.declared.tree_part.TreePart.TheVariants as trees

-- ---- what statements are for the tree

abbrev pub is_also : Statement → Bool
is_also (statements.Rewrite r) = r.is_also
is_also s = false

abbrev pub rewrite_part_of : Rewrite → TreePart
rewrite_part_of r = if r.is_also then trees.Also r else trees.Id r

abbrev pub tree_part_of : Statement → TreePart
tree_part_of (statements.Names d ns) = trees.Outer (outers.Names d ns)
tree_part_of (statements.Indices ns) = trees.Outer (outers.Indices ns)
tree_part_of (statements.Dimension d) = trees.Outer (outers.Dimension d)
tree_part_of (statements.Set n es) = trees.Outer (outers.Set n es)
tree_part_of statements.Statistics = trees.Outer outers.Statistics
tree_part_of (statements.Drop ns) = trees.Outer (outers.Drop ns)
tree_part_of (statements.Skip ns) = trees.Outer (outers.Skip ns)
tree_part_of (statements.Local n right) = trees.Outer (outers.Local n right)
tree_part_of (statements.Print ns) = trees.Outer (outers.Print ns)
tree_part_of (statements.Rewrite r) = rewrite_part_of r
tree_part_of (statements.Multiply side e) = trees.Leaf (leaves.Multiply side e)
tree_part_of (statements.Sum ns) = trees.Leaf (leaves.Sum ns)
tree_part_of (statements.SumOver n ks) = trees.Leaf (leaves.SumOver n ks)
tree_part_of statements.Discard = trees.Leaf leaves.Discard
tree_part_of statements.Repeat = trees.Opens openings.Repeat
tree_part_of (statements.If c) = trees.Opens (openings.If c)
tree_part_of (statements.Argument fs) = trees.Opens (openings.Argument fs)
tree_part_of (statements.ElseIf c) = trees.Branches (openings.If c)
tree_part_of statements.Else = trees.Branches openings.Else
tree_part_of statements.EndRepeat = trees.Ends
tree_part_of statements.EndIf = trees.Ends
tree_part_of statements.EndArgument = trees.Ends

-- ---- blocks that are open

-- the branches of a block with the one that ends here, where it has a condition
abbrev pub branches_ended : Opening → List WrittenBranch → List WrittenAction → List WrittenBranch
branches_ended (openings.If c) bs inside = bs ++ record { condition = c; block = inside } ∷ []
branches_ended openings.Repeat bs inside = bs
branches_ended openings.Else bs inside = bs
branches_ended (openings.Argument fs) bs inside = bs

-- a further branch begins
abbrev pub branched : Opening → OpenBlock → OpenBlock
branched opening o = record { spot = o.spot; opening = opening; branches = branches_ended o.opening o.branches o.actions; actions = [] }

-- the block that ends here
abbrev pub action_by : Opening → List WrittenBranch → List WrittenAction → WrittenAction
action_by openings.Repeat bs inside = acting.Repeat inside
action_by (openings.Argument fs) bs inside = acting.Within fs inside
action_by openings.Else bs inside = acting.Choose bs (Some inside)
action_by (openings.If c) bs inside = acting.Choose (bs ++ record { condition = c; block = inside } ∷ []) None

abbrev pub action_of : OpenBlock → WrittenAction
action_of o = action_by o.opening o.branches o.actions

-- ---- a module behind some of its statements

-- what stands in no block that is open, the blocks that are open, the innermost first, and the `id` that is the last
-- statement
pub record Grown : Type 0 where
  pub parts : List PlacedPart
  pub blocks : List OpenBlock
  pub group : Option Group

abbrev pub nothing_grown : Grown
nothing_grown = record { parts = []; blocks = []; group = None }

abbrev pub and_outer : Spot → Outer → Grown → Grown
and_outer spot o g = record g { parts = g.parts ++ record { spot = spot; part = in_module.Outer o } ∷ [] }

abbrev pub action_in : List OpenBlock → Spot → WrittenAction → Grown → Grown
action_in [] spot action g = record g { parts = g.parts ++ record { spot = spot; part = in_module.Action action } ∷ [] }
action_in (o ∷ os) spot action g = record g { blocks = record o { actions = o.actions ++ action ∷ [] } ∷ os }

-- an action behind the others of the innermost block, or of the module
abbrev pub and_action : Spot → WrittenAction → Grown → Grown
and_action spot action g = action_in g.blocks spot action g

abbrev pub group_in : Option Group → Grown → Grown
group_in None g = g
group_in (Some x) g = and_action x.spot (acting.Plain (leaves.Rewrite x.id x.others)) (record g { group = None })

-- no `also` follows the `id` that is the last statement
abbrev pub group_ended : Grown → Grown
group_ended g = group_in g.group g

abbrev pub group_left : Statement → Grown → Grown
group_left s g = if is_also s then g else group_ended g

abbrev pub also_in : Option Group → Rewrite → Grown → Grown
also_in None r g = g
also_in (Some x) r g = record g { group = Some (record x { others = x.others ++ r ∷ [] }) }

abbrev pub and_also : Rewrite → Grown → Grown
and_also r g = also_in g.group r g

abbrev pub block_begun : Spot → Opening → Grown → Grown
block_begun spot opening g = record g { blocks = record { spot = spot; opening = opening; branches = []; actions = [] } ∷ g.blocks }

abbrev pub branch_in : List OpenBlock → Opening → Grown → Grown
branch_in [] opening g = g
branch_in (o ∷ os) opening g = record g { blocks = branched opening o ∷ os }

-- a further branch of the innermost block begins
abbrev pub branch_begun : Opening → Grown → Grown
branch_begun opening g = branch_in g.blocks opening g

abbrev pub closed_in : List OpenBlock → Grown → Grown
closed_in [] g = g
closed_in (o ∷ os) g = and_action o.spot (action_of o) (record g { blocks = os })

-- the innermost block ends, and stands last in the one around it
abbrev pub block_closed : Grown → Grown
block_closed g = closed_in g.blocks g

abbrev pub and_part : Spot → TreePart → Grown → Grown
and_part spot (trees.Outer o) g = and_outer spot o g
and_part spot (trees.Id r) g = record g { group = Some (record { spot = spot; id = r; others = [] }) }
and_part spot (trees.Also r) g = and_also r g
and_part spot (trees.Leaf l) g = and_action spot (acting.Plain l) g
and_part spot (trees.Opens opening) g = block_begun spot opening g
and_part spot (trees.Branches opening) g = branch_begun opening g
and_part spot trees.Ends g = block_closed g

abbrev pub grown_by : Grown → Placed → Grown
grown_by g p = and_part p.spot (tree_part_of p.statement) (group_left p.statement g)

-- The parts of a module with these statements, the blocks among them as trees.
abbrev pub parts_grown : List Placed → List PlacedPart
parts_grown placed = (group_ended (fold grown_by nothing_grown placed)).parts

abbrev pub part_spot : PlacedPart → Spot
part_spot p = p.spot
