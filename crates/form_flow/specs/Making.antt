-- The statements of a checked module made ready within limits: their right sides and patterns as trees, and arguments without
-- wildcards as what they come to.
use Rattle.std.specs.Prelude.{◌≡◌, ℕ, List, map, All, Option}
use Rattle.form_base.specs.declared.block.Action.TheFolds.{fold-Action}
use Rattle.form_base.specs.declared.block.Action.TheOpen.{Action-F}
use Rattle.form_base.specs.declared.block.Action.TheVariants as acting
use Rattle.form_base.specs.declared.block.Branch.{Branch}
use Rattle.form_base.specs.Statements.{conditions_of, leaves_of}
use Rattle.form_term.specs.declared.piece.Piece as kept
use Rattle.form_tree.specs.Building.{argument_of, sum_of}
use Rattle.form_tree.specs.Conditions.{Parts}
use Rattle.form_tree.specs.declared.tree.Piece.{Piece}
use Rattle.form_tree.specs.Pattern.{Factors, pieces_of_factors}
use Rattle.form_tree.specs.PatternBuilding.{factors_of}
use Rattle.form_tree.specs.Patterns.{Pieces}
use Rattle.form_tree.specs.Tree.{Argument, Sum, pieces_of_argument, pieces_of_sum}
use Rattle.form_match.specs.Ready.{ReadyPattern}
use Rattle.form_cond.specs.Condition.{Ready}
use Rattle.form_expand.specs.Alone.{pieces_unless_refused}
use Rattle.form_expand.specs.Expanding.{arguments_in}
use Rattle.form_expand.specs.Meanings.{no_meanings}
use Rattle.form_check.specs.declared.checked.CheckedLeaf.{CheckedLeaf}
use Rattle.form_check.specs.declared.checked.CheckedLeaf.TheVariants as checked
use Rattle.form_check.specs.declared.checked.Picked.{Picked}
use Rattle.form_check.specs.declared.checked.Rewriting.{Rewriting}
use Rattle.form_check.specs.Program.{CheckedStatement}
use Rattle.form_flow.specs.declared.compiled.ReadyLeaf.{ReadyLeaf}
use Rattle.form_flow.specs.declared.compiled.ReadyLeaf.TheVariants as ready
use Rattle.form_flow.specs.Ready.{Choice, Part}
use Rattle.form_flow.specs.Statement.{Chosen, Compiled, Statement}

-- a branch of an `if`
abbrev pub CheckedBranch : Type 0
CheckedBranch = Branch Parts (List CheckedStatement)

-- ---- what is written is that of a tree

abbrev pub HasTree : List Piece → Type 0
HasTree pieces = (tree : Sum) × (pieces ≡ pieces_of_sum tree)

abbrev pub HasArgument : List Piece → Type 0
HasArgument pieces = (argument : Argument) × (pieces ≡ pieces_of_argument argument)

abbrev pub HasPattern : Pieces → Type 0
HasPattern p = ((pattern : Factors) × (p.pieces ≡ pieces_of_factors pattern)) × All HasArgument p.fixed

abbrev pub HasTrees : Rewriting → Type 0
HasTrees r = HasPattern r.pattern × HasTree r.right

abbrev pub HasLeafTrees : CheckedLeaf → Type 0
HasLeafTrees (checked.Rewrite rs) = All HasTrees rs
HasLeafTrees (checked.Multiply side right) = HasTree right
HasLeafTrees l = Unit {0}

abbrev pub HasPatterns : Parts → Type 0
HasPatterns c = All HasPattern c.patterns

-- each right side and each pattern in it is one of the grammar
unfoldable pub HasAllTrees : CheckedStatement → Type 0
HasAllTrees a = All HasLeafTrees (leaves_of a) × All HasPatterns (conditions_of a)

abbrev pub HasBranchTrees : CheckedBranch → Type 0
HasBranchTrees b = HasPatterns b.condition × All HasAllTrees b.block

-- ---- made ready

-- what an argument without wildcards is: none where it is refused, and then it equals nothing
abbrev pub entry_of : ℕ → List Piece → Option (List kept.Piece)
entry_of max ps = pieces_unless_refused (arguments_in max no_meanings (argument_of ps))

abbrev pub table_of : ℕ → List (List Piece) → List (Option (List kept.Piece))
table_of max args = map (entry_of max) args

-- a pattern as it is tried
abbrev pub tried : ℕ → Pieces → ReadyPattern
tried max p = record { pieces = p.pieces; fixed = table_of max p.fixed }

abbrev pub ready_part : ℕ → Rewriting → Part
ready_part max r = record { option = r.option; pattern = factors_of r.pattern.pieces; fixed = table_of max r.pattern.fixed; right = sum_of r.right }

abbrev pub ready_pattern : ℕ → Pieces → Ready
ready_pattern max p = record { fixed = table_of max p.fixed; factors = factors_of p.pieces }

abbrev pub ready_choice : ℕ → Parts → Choice
ready_choice max c = record { patterns = map (ready_pattern max) c.patterns; condition = c.alternatives }

abbrev pub ready_leaf : ℕ → CheckedLeaf → ReadyLeaf
ready_leaf max (checked.Rewrite rs) = ready.Rewrite (map (ready_part max) rs)
ready_leaf max (checked.Multiply side right) = ready.Multiply side (sum_of right)
ready_leaf max (checked.Sum is) = ready.Sum is
ready_leaf max (checked.SumOver i ns) = ready.SumOver i ns
ready_leaf max checked.Discard = ready.Discard

abbrev pub ready_branch : ℕ → Branch Parts (List Statement) → Branch Choice (List Statement)
ready_branch max b = record { condition = ready_choice max b.condition; block = b.block }

abbrev pub ready_step : ℕ → Action-F CheckedLeaf Parts (List Picked) Statement → Statement
ready_step max (Action-F.Plain l) = acting.Plain (ready_leaf max l)
ready_step max (Action-F.Repeat b) = acting.Repeat b
ready_step max (Action-F.Choose bs last) = acting.Choose (map (ready_branch max) bs) last
ready_step max (Action-F.Within ps b) = acting.Within ps b

abbrev pub ready_of : ℕ → CheckedStatement → Statement
ready_of max = fold-Action CheckedLeaf Parts (List Picked) Statement (ready_step max)

abbrev pub branch_of : ℕ → CheckedBranch → Chosen
branch_of max b = record { condition = ready_choice max b.condition; block = map (ready_of max) b.block }

-- the statements of a module within limits
abbrev pub compiled : ℕ → ℕ → List CheckedStatement → Compiled
compiled terms turns actions = record { limits = record { terms = terms; turns = turns }; statements = map (ready_of terms) actions }
