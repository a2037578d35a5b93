-- Which statement is at fault first, of those that stand one after the other as they are written.
use Rattle.std.specs.Prelude.{List, [], ◌∷◌, Option, Some, None, Result, Ok, Err}
use Rattle.form_names.specs.Names.{Entry}
use Rattle.form_ast.specs.declared.statement.Statement.{Statement}
use Rattle.form_ast.specs.declared.statement.Statement.TheVariants as written
use Rattle.form_check.specs.Acting.{rewriting}
use Rattle.form_check.specs.Carried.{condition, picked, summed_index}
use Rattle.form_right_side.specs.Refusal.{Refusal, listed}
use Rattle.form_right_side.specs.RightSide.{largest_index, none_stands, nothing_known, right_side, value_within}

-- what is wrong, where anything is
abbrev pub fault_of : {X : Type 0} → Result X Refusal → Option Refusal
fault_of (Ok x) = None
fault_of (Err refusal) = Some refusal

-- the first of two
abbrev pub or_next : Option Refusal → Option Refusal → Option Refusal
or_next (Some refusal) next = Some refusal
or_next None next = next

-- what is wrong with a statement that is carried out on terms, or with the first or the last line of a block
abbrev pub fault_in : List Entry → Statement → Option Refusal
fault_in names (written.Rewrite r) = fault_of (rewriting names r)
fault_in names (written.Multiply side right) = fault_of (right_side names none_stands nothing_known right)
fault_in names (written.Sum list) = fault_of (listed (summed_index names) list)
fault_in names (written.SumOver name numbers) = or_next (fault_of (summed_index names name)) (fault_of (listed (value_within largest_index) numbers))
fault_in names (written.If c) = fault_of (condition names c)
fault_in names (written.ElseIf c) = fault_of (condition names c)
fault_in names (written.Argument functions) = fault_of (listed (picked names) functions)
fault_in names _ = None

-- what is wrong first
unfoldable pub first_fault : List Entry → List Statement → Option Refusal
first_fault names [] = None
first_fault names (s ∷ ss) = or_next (fault_in names s) (first_fault names ss)
