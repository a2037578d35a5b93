-- Where definitions stand among the statements of a module.
use Rattle.std.specs.Prelude.{ℕ, Bool, if◌then◌else◌, List, [], Option, Some, None, option_map, slice_get}
use Rattle.std.specs.Ordering.{nat_cmp}
use Rattle.std.specs.BTreeMap.{insert_entry}
use Rattle.form_tree.specs.declared.tree.Piece.{Piece}
use Rattle.form_check.specs.declared.checked.Checked.{Checked}
use Rattle.form_check.specs.declared.checked.Checked.TheVariants.{Drop, Skip, Local, Print}
use Rattle.form_module.specs.Works.{Work}

abbrev pub right_side_of : Option Checked → List Piece
right_side_of None = []
right_side_of (Some (Drop which)) = []
right_side_of (Some (Skip which)) = []
right_side_of (Some (Local id right)) = right
right_side_of (Some (Print which)) = []

-- the right side of the definition that is the statement at a place
abbrev pub right_side_at : List Checked → ℕ → List Piece
right_side_at statements place = right_side_of (slice_get statements place)

-- that of a place, where there is one
abbrev pub right_side_by : List Checked → Option ℕ → Option (List Piece)
right_side_by statements place = option_map (right_side_at statements) place

-- what is carried out of an expression: its definition, whose statement is at a place, or what it stands for
abbrev pub work_at : List Checked → ℕ × Option ℕ → Work
work_at statements entry = record { expression = entry.0; right_side = right_side_by statements entry.1 }

-- the places by expression, with that of a statement
abbrev pub with_place : List (ℕ × Option ℕ) → ℕ → Checked → List (ℕ × Option ℕ)
with_place entries place (Drop which) = entries
with_place entries place (Skip which) = entries
with_place entries place (Local id right) = insert_entry nat_cmp entries id (Some place)
with_place entries place (Print which) = entries

-- and with an expression that stands, where it goes through
abbrev pub with_standing : List (ℕ × Option ℕ) → Bool → ℕ → List (ℕ × Option ℕ)
with_standing entries goes expression = if goes then insert_entry nat_cmp entries expression None else entries
