-- Statements whose names stand at their places.
use Rattle.std.specs.Prelude.{List}
use Rattle.std.specs.List.{AllByRecursion}
use Rattle.form_base.specs.Statements.{leaves_of}
use Rattle.form_term.specs.Named.{Places}
use Rattle.form_tree.specs.Placed.{IsPatternPlaced, IsSumPlaced}
use Rattle.form_flow.specs.declared.compiled.ReadyLeaf.{ReadyLeaf}
use Rattle.form_flow.specs.declared.compiled.ReadyLeaf.TheVariants.{Rewrite, Multiply, Sum, SumOver, Discard}
use Rattle.form_flow.specs.Ready.{Part}
use Rattle.form_flow.specs.Statement.{Statement}

-- an `id` or an `also`
abbrev pub IsPartPlaced : Places → Part → Type 0
IsPartPlaced names p = IsPatternPlaced names p.pattern × IsSumPlaced names p.right

abbrev pub IsLeafPlaced : Places → ReadyLeaf → Type 0
IsLeafPlaced names (Rewrite ps) = AllByRecursion (IsPartPlaced names) ps
IsLeafPlaced names (Multiply side s) = IsSumPlaced names s
IsLeafPlaced names (Sum is) = Unit {0}
IsLeafPlaced names (SumOver i ns) = Unit {0}
IsLeafPlaced names Discard = Unit {0}

-- all that stands in a statement
abbrev pub IsStatementPlaced : Places → Statement → Type 0
IsStatementPlaced names a = AllByRecursion (IsLeafPlaced names) (leaves_of a)

abbrev pub ArePlaced : Places → List Statement → Type 0
ArePlaced names statements = AllByRecursion (IsStatementPlaced names) statements
