-- What wildcards stand for, with its names at their places.
use Rattle.std.specs.Prelude.{◌≡◌, ◌⊎◌, ℕ, List}
use Rattle.std.specs.List.{AllByRecursion}
use Rattle.form_term.specs.declared.piece.Piece.{Piece}
use Rattle.form_term.specs.Named.{Places, AreSoundPieces}
use Rattle.form_bindings.specs.declared.bindings.Wildcard.{Wildcard}
use Rattle.form_bindings.specs.declared.bindings.Wildcard.TheVariants.{Name, Field}
use Rattle.form_bindings.specs.Values.{Binding, function_value}

-- lawful arguments with their names at their places, or for a name a function that stands where that name does
abbrev pub IsSoundValue : Places → Wildcard → List Piece → Type 0
IsSoundValue names (Name n) value = AreSoundPieces names value ⊎ ((f : ℕ) × (value ≡ function_value f) × (names f ≡ names n))
IsSoundValue names (Field w) value = AreSoundPieces names value

abbrev pub IsSoundBinding : Places → Binding → Type 0
IsSoundBinding names b = IsSoundValue names b.wildcard b.value

abbrev pub AreSoundBindings : Places → List Binding → Type 0
AreSoundBindings names bs = AllByRecursion (IsSoundBinding names) bs
