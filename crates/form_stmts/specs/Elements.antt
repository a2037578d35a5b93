-- Reading the elements of a set.
use Rattle.std.specs.Prelude.{List, [], ◌∷◌, ◌++◌, Option, Some, None, option_and_then, option_to_list}
use Rattle.form_ast.specs.declared.expr.Sign as signs
use Rattle.form_number.specs.declared.number.Number as numbers
use Rattle.form_ast.specs.declared.expr.SignedNumber.{SignedNumber}
use Rattle.form_ast.specs.declared.expr.Spelled.{Spelled}
use Rattle.form_ast.specs.declared.statement.WrittenElements.{WrittenElements}
use Rattle.form_ast.specs.declared.statement.WrittenElements.TheVariants as written
use Rattle.form_grammar.specs.declared.terminal.Terminal.{Terminal}
use Rattle.form_grammar.specs.declared.terminal.Terminal.TheVariants as by_terminal
use Rattle.form_stmts.specs.declared.elements.Place.{Place}
use Rattle.form_stmts.specs.declared.elements.Place.TheVariants.{Start, Name, BehindName, Sign, Number, BehindNumber}
use Rattle.form_stmts.specs.declared.elements.Step.{Step}

abbrev pub goes_to : Place → Option Step
goes_to next = Some (record { next = next; name = None; number = None })

abbrev pub with_name : Spelled → Option Step
with_name name = Some (record { next = Name; name = Some name; number = None })

abbrev pub with_number : Option signs.Sign → numbers.Number → Option Step
with_number sign number = Some (record { next = Number; name = None; number = Some (record { sign = sign; number = number }) })

-- one terminal further, where it may stand there
abbrev pub element_step : Place → Terminal → Option Step
element_step Start (by_terminal.Name name) = with_name name
element_step Start (by_terminal.Number number) = with_number None number
element_step Start (by_terminal.Sign sign) = goes_to (Sign sign)
element_step Name by_terminal.Comma = goes_to BehindName
element_step BehindName (by_terminal.Name name) = with_name name
element_step (Sign sign) (by_terminal.Number number) = with_number (Some sign) number
element_step Number by_terminal.Comma = goes_to BehindNumber
element_step BehindNumber (by_terminal.Number number) = with_number None number
element_step BehindNumber (by_terminal.Sign sign) = goes_to (Sign sign)
element_step _ _ = None

-- the elements, where they may end so
abbrev pub ended : Place → List Spelled → List SignedNumber → Option WrittenElements
ended Name names numbers = Some (written.Names names)
ended Number names numbers = Some (written.Numbers numbers)
ended _ names numbers = None

-- the elements that reading goes on to, behind those that are read
unfoldable pub elements_from : Place → List Spelled → List SignedNumber → List Terminal → Option WrittenElements
elements_from place names numbers [] = ended place names numbers
elements_from place names numbers (terminal ∷ rest) =
    option_and_then (λ step. elements_from step.next (names ++ option_to_list step.name) (numbers ++ option_to_list step.number) rest) (element_step place terminal)
