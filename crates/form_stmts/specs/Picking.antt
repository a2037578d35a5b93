-- Reading the functions of an `argument`.
use Rattle.std.specs.Prelude.{List, [], ◌∷◌, ◌++◌, Option, Some, None}
use Rattle.form_ast.specs.declared.expr.Spelled.{Spelled}
use Rattle.form_ast.specs.declared.picked.Picked.{Picked}
use Rattle.form_number.specs.declared.number.Number.{Number}
use Rattle.form_grammar.specs.declared.terminal.Terminal.{Terminal}
use Rattle.form_grammar.specs.declared.terminal.Terminal.TheVariants as by_terminal
use Rattle.form_stmts.specs.declared.names.Last.{Last}
use Rattle.form_stmts.specs.declared.names.Last.TheVariants.{Name, Comma}

-- functions with their numbers, and the last one with those that are read
pub record Picking : Type 0 where
  pub done : List Picked
  pub function : Option Spelled
  pub numbers : List Number

abbrev pub no_picking : Picking
no_picking = record { done = []; function = None; numbers = [] }

-- all of them
abbrev pub all_picked : Picking → List Picked
all_picked p = with_last p.function where
  with_last : Option Spelled → List Picked
  with_last None = p.done
  with_last (Some f) = p.done ++ record { function = f; numbers = p.numbers } ∷ []

abbrev pub and_function : Picking → Spelled → Picking
and_function p f = record { done = all_picked p; function = Some f; numbers = [] }

abbrev pub and_number : Picking → Number → Picking
and_number p n = record p { numbers = p.numbers ++ n ∷ [] }

abbrev pub where_function : {X : Type 0} → Option Spelled → Option X → Option X
where_function None o = None
where_function (Some f) o = o

abbrev pub behind_name : {X : Type 0} → Last → Option X → Option X
behind_name Name o = o
behind_name _ o = None

-- none, or those that end with a function or a number
abbrev pub picked_ended : Last → Picking → Option (List Picked)
picked_ended Comma p = None
picked_ended _ p = Some (all_picked p)

-- the functions that reading goes on to, behind those that are read
unfoldable pub picks_from : Last → Picking → List Terminal → Option (List Picked)
picks_from last p [] = picked_ended last p
picks_from last p (by_terminal.Name f ∷ rest) = picks_from Name (and_function p f) rest
picks_from last p (by_terminal.Number n ∷ rest) = where_function p.function (picks_from Name (and_number p n) rest)
picks_from last p (by_terminal.Comma ∷ rest) = behind_name last (picks_from Comma p rest)
picks_from last p (_ ∷ rest) = None
