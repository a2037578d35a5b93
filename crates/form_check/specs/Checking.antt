-- The program that a text is, over Ids, or the first refusal in the order of the text.
use Rattle.std.specs.Prelude.{ℕ, Bool, false, nat_lt, nat_le, if◌then◌else◌, List, [], ◌∷◌, ◌++◌, length, Option, Some, None, Result, Ok, Err}
use Rattle.form_base.specs.declared.cause.Cause.TheVariants.{StatementOrder, Redeclared, NumberRange}
use Rattle.form_names.specs.declared.elements.Elements.{Elements}
use Rattle.form_names.specs.declared.kind.Kind.{Kind}
use Rattle.form_names.specs.declared.kind.Kind.TheVariants.{Symbol, Vector, Index, Function, CommutingFunction, Expression}
use Rattle.form_names.specs.declared.kind.Dimension.{Dimension}
use Rattle.form_names.specs.declared.kind.Dimension.TheVariants as dimensions
use Rattle.form_names.specs.Names.{Entry, lookup, declare, declare_set, largest_dimension}
use Rattle.form_ast.specs.declared.expr.Spelled.{Spelled}
use Rattle.form_ast.specs.declared.expr.Expr.{Expr}
use Rattle.form_ast.specs.declared.index_list.Dimension as written_dimension
use Rattle.form_ast.specs.declared.index_list.Dimension.TheVariants as by_dimension
use Rattle.form_ast.specs.declared.index_list.SpelledIndex.{SpelledIndex}
use Rattle.form_ast.specs.declared.module.ModulePart.{ModulePart}
use Rattle.form_ast.specs.declared.module.ModulePart.TheVariants as parts
use Rattle.form_ast.specs.declared.module.Outer.{Outer}
use Rattle.form_ast.specs.declared.module.Outer.TheVariants as written
use Rattle.form_ast.specs.declared.module.PlacedPart.{PlacedPart}
use Rattle.form_ast.specs.declared.statement.Declared.{Declared}
use Rattle.form_ast.specs.declared.statement.Declared.TheVariants.{Symbols, Vectors, Functions, CFunctions}
use Rattle.form_ast.specs.declared.statement.WrittenElements.{WrittenElements}
use Rattle.form_ast.specs.Written.{WrittenAction}
use Rattle.form_check.specs.declared.checked.Checked.{Checked}
use Rattle.form_check.specs.declared.checked.Checked.TheVariants.{Drop, Skip, Local, Print}
use Rattle.form_check.specs.Acting.{action}
use Rattle.form_check.specs.declared.checked.Selection.{Selection}
use Rattle.form_check.specs.declared.checked.Selection.TheVariants as selections
use Rattle.form_check.specs.Program.{CheckedStatement, Module, Program}
use Rattle.form_right_side.specs.Refusal.{Refusal, refused, ◌>>=◌, each, listed}
use Rattle.form_right_side.specs.RightSide.{value_within, found, wrong_kind, right_side, nothing_known}
use Rattle.form_pattern.specs.Sets.{elements}
use Rattle.form_check.specs.Standing.{defines, stands}

-- how many names may be declared
abbrev pub most_names : ℕ
most_names = 16777216

-- ---- names

abbrev pub declared_once : Option (ℕ × List Entry) → Spelled → Result (ℕ × List Entry) Refusal
declared_once None spelled = refused (Redeclared spelled.name) spelled.spot
declared_once (Some declared) spelled = Ok declared

-- a new name where there are as many as may be is past the limit
abbrev pub is_past_limit : List Entry → Option ℕ → Bool
is_past_limit names None = nat_le most_names (length names)
is_past_limit names (Some id) = false

-- the Id of a name that is declared here, and the names after it
abbrev pub declared : List Entry → Spelled → Kind → Result (ℕ × List Entry) Refusal
declared names spelled kind =
    if is_past_limit names (lookup names spelled.name) then refused NumberRange spelled.spot else declared_once (declare names spelled.name kind) spelled

abbrev pub kind_declared : Declared → Kind
kind_declared Symbols = Symbol
kind_declared Vectors = Vector
kind_declared Functions = Function
kind_declared CFunctions = CommutingFunction

-- the names with one more of this kind
abbrev pub named : Kind → List Entry → Spelled → Result (List Entry) Refusal
named kind names spelled = do
  declaration ← declared names spelled kind
  Ok declaration.1

abbrev pub symbol_of : Spelled → ℕ → Kind → Result Dimension Refusal
symbol_of s id Symbol = Ok (dimensions.Symbol id)
symbol_of s id _ = wrong_kind s

-- a written dimension: a number up to the largest, or a symbol
abbrev pub dimension : List Entry → written_dimension.Dimension → Result Dimension Refusal
dimension names (by_dimension.Number n) = value_within largest_dimension n >>= (λ value. Ok (dimensions.Number value))
dimension names (by_dimension.Name s) = found names s >>= (λ f. symbol_of s f.id f.kind)

-- the dimension of an index that is declared: the one that is written, or the one that holds from here on
abbrev pub dimension_or : Dimension → List Entry → Option written_dimension.Dimension → Result Dimension Refusal
dimension_or default names None = Ok default
dimension_or default names (Some d) = dimension names d

abbrev pub index_with : List Entry → Spelled → Option ℕ → Result Dimension Refusal → Result (List Entry) Refusal
index_with names spelled place (Ok d) = named (Index d) names spelled
index_with names spelled (Some id) (Err refusal) = refused (Redeclared spelled.name) spelled.spot
index_with names spelled None (Err refusal) = Err refusal

-- The names with one more index. Its name stands before its dimension: so a name that stands is refused first, and so is
-- one past the limit.
abbrev pub index : Dimension → List Entry → SpelledIndex → Result (List Entry) Refusal
index default names i =
    if is_past_limit names (lookup names i.name.name) then refused NumberRange i.name.spot else index_with names i.name (lookup names i.name.name) (dimension_or default names i.dimension)

-- the names with a set of these elements
abbrev pub set_once : Option (ℕ × List Entry) → Spelled → Result (List Entry) Refusal
set_once None s = refused (Redeclared s.name) s.spot
set_once (Some declaration) s = Ok declaration.1

abbrev pub set_with : List Entry → Spelled → Option ℕ → Result Elements Refusal → Result (List Entry) Refusal
set_with names s place (Ok es) = set_once (declare_set names s.name es) s
set_with names s (Some id) (Err refusal) = refused (Redeclared s.name) s.spot
set_with names s None (Err refusal) = Err refusal

-- The names with one more set. Its name stands before its elements: so a name that stands otherwise is refused first, and
-- so is one past the limit.
abbrev pub set : List Entry → Spelled → WrittenElements → Result (List Entry) Refusal
set names s es =
    if is_past_limit names (lookup names s.name) then refused NumberRange s.spot else set_with names s (lookup names s.name) (elements names es)

abbrev pub expression_of : Spelled → ℕ → Kind → Result ℕ Refusal
expression_of s id Expression = Ok id
expression_of s id _ = wrong_kind s

-- the Id of an expression's name; the expression needn't stand
abbrev pub expression : List Entry → Spelled → Result ℕ Refusal
expression names s = found names s >>= (λ f. expression_of s f.id f.kind)

abbrev pub expressions : List Entry → List Spelled → Result (List ℕ) Refusal
expressions names list = listed (expression names) list

-- which expressions a statement means: all, where it has no names
abbrev pub selection : List Entry → List Spelled → Result Selection Refusal
selection names [] = Ok selections.All
selection names (first ∷ rest) = do
  ids ← expressions names (first ∷ rest)
  Ok (selections.Named ids)

-- ---- statements

-- what is known before a statement: the names, the dimension of an index that is declared without one, the modules
-- before, this one so far, and its highest class
pub record State : Type 0 where
  pub names : List Entry
  pub dimension : Dimension
  pub earlier : List Module
  pub statements : List Checked
  pub actions : List CheckedStatement
  pub class : ℕ

-- declarations, what is dropped or skipped, definitions, what is carried out, output: in this order they stand in a module
abbrev pub class_of_outer : Outer → ℕ
class_of_outer (written.Drop names) = 2
class_of_outer (written.Skip names) = 2
class_of_outer (written.Local name right) = 3
class_of_outer (written.Print names) = 5
class_of_outer declaration = 1

abbrev pub class_of : ModulePart → ℕ
class_of (parts.Outer statement) = class_of_outer statement
class_of (parts.Action statement) = 4

-- the state with one more statement
abbrev pub with_statement : State → Checked → State
with_statement state statement = record state { statements = state.statements ++ statement ∷ [] }

abbrev pub with_action : State → CheckedStatement → State
with_action state statement = record state { actions = state.actions ++ statement ∷ [] }

-- an expression is defined once in a module
abbrev pub is_defined_again : State → Option ℕ → Bool
is_defined_again state None = false
is_defined_again state (Some id) = defines state.statements id

-- A definition: of a new name, or of an expression that isn't defined in this module yet. In its right side stand the
-- expressions that stood at the start of the module.
abbrev pub definition : State → Spelled → Expr → Result State Refusal
definition state spelled right =
    if is_defined_again state (lookup state.names spelled.name) then refused (Redeclared spelled.name) spelled.spot else (do
      declaration ← declared state.names spelled Expression
      pieces ← right_side declaration.1 (stands state.earlier) nothing_known right
      Ok (with_statement (record state { names = declaration.1 }) (Local declaration.0 pieces)))

-- a statement that stands in no block
abbrev pub outer : State → Outer → Result State Refusal
outer state (written.Names declared list) = do
  names ← each (named (kind_declared declared)) state.names list
  Ok (record state { names = names })
outer state (written.Indices list) = do
  names ← each (index state.dimension) state.names list
  Ok (record state { names = names })
outer state (written.Dimension d) = do
  holds ← dimension state.names d
  Ok (record state { dimension = holds })
outer state (written.Set s es) = do
  names ← set state.names s es
  Ok (record state { names = names })
outer state written.Statistics = Ok state
outer state (written.Drop list) = do
  which ← selection state.names list
  Ok (with_statement state (Drop which))
outer state (written.Skip list) = do
  which ← selection state.names list
  Ok (with_statement state (Skip which))
outer state (written.Local spelled right) = definition state spelled right
outer state (written.Print list) = do
  which ← selection state.names list
  Ok (with_statement state (Print which))

-- a statement that is carried out on terms
abbrev pub acted : State → WrittenAction → Result State Refusal
acted state statement = do
  made ← action state.names statement
  Ok (with_action state made)

abbrev pub by_form : State → ModulePart → Result State Refusal
by_form state (parts.Outer statement) = outer state statement
by_form state (parts.Action statement) = acted state statement

-- A statement of a module: its class may not be below that of an earlier one.
abbrev pub part : State → PlacedPart → Result State Refusal
part state placed =
    if nat_lt (class_of placed.part) state.class then refused StatementOrder placed.spot else by_form (record state { class = class_of placed.part }) placed.part

-- ---- modules

-- before the first module
abbrev pub start : State
start = record { names = []; dimension = dimensions.Number 4; earlier = []; statements = []; actions = []; class = 0 }

-- after a module
abbrev pub ended : State → State
ended state = record state { earlier = state.earlier ++ record { statements = state.statements; actions = state.actions } ∷ []; statements = []; actions = []; class = 0 }

abbrev pub module_checked : State → List PlacedPart → Result State Refusal
module_checked state statements = do
  after ← each part state statements
  Ok (ended after)

-- a whole text
abbrev pub program : List (List PlacedPart) → Result Program Refusal
program modules = do
  state ← each module_checked start modules
  Ok (record { names = state.names; modules = state.earlier })
