-- What a name of a pattern asks of what is to stand for it, by the kind of that.
use Rattle.std.specs.Prelude.{ℕ, ◌/◌, ◌%◌, ◌==◌, ℤ, Bool, if◌then◌else◌, List, [], ◌∷◌, Option, Some, None, option_and_then, slice_get}
use Rattle.std.specs.List.{list_any, list_all}
use Rattle.form_names.specs.declared.elements.Elements.{Elements}
use Rattle.form_term.specs.declared.power.Power.{Power}
use Rattle.form_term.specs.declared.power.DotPower.{DotPower}
use Rattle.form_term.specs.declared.index.Index.TheVariants as indices
use Rattle.form_term.specs.declared.index.Delta.{Delta}
use Rattle.form_term.specs.declared.piece.Piece.{Piece}
use Rattle.form_tree.specs.declared.pattern.Name.{Name}
use Rattle.form_tree.specs.declared.pattern.IndexName.{IndexName}
use Rattle.form_bindings.specs.declared.bindings.Wildcard.TheVariants as wildcards
use Rattle.form_match.specs.declared.uses.Use.TheVariants as uses
use Rattle.form_match.specs.declared.values.Kind.{Kind}
use Rattle.form_match.specs.declared.values.Kind.TheVariants as kinds
use Rattle.form_match.specs.Matching.{Host, Choice, and_asked, taking, fits, values_in, symbol_choice, whole_choice, absent_choice, component_choice, asked_vector, asked_index}
use Rattle.form_bindings.specs.Values.{Binding, is_same, symbol_value, number_value, index_value, vector_value, function_value}

-- the value of a name among the elements of a set, and the values of a number
abbrev pub name_value : Kind → ℕ → List Piece
name_value kinds.Expression n = symbol_value n
name_value kinds.Index n = index_value (indices.Declared n)
name_value kinds.Vector n = vector_value n
name_value kinds.Function n = function_value n

abbrev pub number_values : Kind → ℤ → List (List Piece)
number_values kinds.Expression z = number_value z ∷ []
number_values kinds.Index z = []
number_values kinds.Vector z = []
number_values kinds.Function z = []

abbrev pub is_in : Kind → List Piece → Elements → Bool
is_in kind value set = list_any (is_same value) (values_in (λ n. name_value kind n) (λ z. number_values kind z) set)

-- what a wildcard asks
abbrev pub asked_wild : Kind → ℕ → List Elements → List Piece → Option (List Binding)
asked_wild kind w sets value = if list_all (λ set. is_in kind value set) sets then Some (record { wildcard = wildcards.Name w; value = value } ∷ []) else None

-- the choice of a power of a symbol by the place of that symbol, and so on
abbrev pub symbol_at : Host → Name → ℤ → ℕ → Option Choice
symbol_at h n k c = option_and_then (λ p. symbol_choice h.is_exact n k p) (slice_get h.term.symbols c)

abbrev pub whole_or_absent : Host → Name → Name → Option Power → Option Choice
whole_or_absent h n m (Some p) = whole_choice n m p
whole_or_absent h n m None = absent_choice h n m

abbrev pub whole_at : Host → Name → Name → ℕ → Option Choice
whole_at h n m c = whole_or_absent h n m (slice_get h.term.symbols c)

-- a dot product, as it stands or swapped
abbrev pub dot_choice : Bool → Name → Name → ℤ → ℕ → DotPower → Bool → Option Choice
dot_choice is_exact p q k m d is_swapped =
    if fits is_exact d.exponent k
    then taking (uses.Dot m k) (and_asked (asked_vector p (if is_swapped then d.right else d.left)) (asked_vector q (if is_swapped then d.left else d.right)))
    else None

abbrev pub dot_at : Host → Name → Name → ℤ → ℕ → Option Choice
dot_at h p q k c = option_and_then (λ d. dot_choice h.is_exact p q k (c / 2) d (c % 2 == 1)) (slice_get h.term.others.dots (c / 2))

abbrev pub component_at : Host → Name → IndexName → ℕ → Option Choice
component_at h v i c = option_and_then (λ d. component_choice v i (c, d)) (slice_get h.term.others.components c)

abbrev pub delta_choice : IndexName → IndexName → ℕ → Delta → Bool → Option Choice
delta_choice i j m d is_swapped =
    taking (uses.Delta m) (and_asked (asked_index i (if is_swapped then d.second else d.first)) (asked_index j (if is_swapped then d.first else d.second)))

abbrev pub delta_at : Host → IndexName → IndexName → ℕ → Option Choice
delta_at h i j c = option_and_then (λ d. delta_choice i j (c / 2) d (c % 2 == 1)) (slice_get h.term.others.deltas (c / 2))
