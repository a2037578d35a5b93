-- What is learnt of wildcards.
use Rattle.std.specs.Prelude.{◌≡◌, Bool, true, false, if◌then◌else◌, List, [], ◌∷◌, ◌++◌, Option, Some, None}
use Rattle.form_term.specs.declared.piece.Piece.{Piece}
use Rattle.form_bindings.specs.Values.{Binding, is_same, value_of}

-- one binding for each wildcard: none where two values are asked of one
abbrev pub and_bound_at : Option (List Piece) → List Binding → Binding → Option (List Binding)
and_bound_at None bs b = Some (bs ++ b ∷ [])
and_bound_at (Some value) bs b = if is_same value b.value then Some bs else None

abbrev pub and_bound : List Binding → Binding → Option (List Binding)
and_bound bs b = and_bound_at (value_of bs b.wildcard) bs b

-- an answer whether something could be learnt, and what the bindings are then
abbrev pub Tells : Bool → Option (List Binding) → List Binding → Type 0
Tells true made new = made ≡ Some new
Tells false made new = made ≡ None
