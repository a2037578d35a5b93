-- The names of a program, as a list in order of declaration.
use Rattle.std.specs.Prelude.{◌≡◌, ◌≤◌, ℕ, All, IfSome, option_and_then, Bool, true, false, List, [], ◌∷◌, ◌++◌, map, length, Option, Some, None, if◌then◌else◌, position, slice_get, String, string_bytes}
use Rattle.std.specs.Option.{option_map}
use Rattle.std.specs.Str.{bytes_eq}
use Rattle.form_names.specs.declared.kind.Kind.{Kind}
use Rattle.form_names.specs.declared.kind.Kind.TheVariants.{Symbol, Vector, Index, Function, CommutingFunction, Expression, Set}
use Rattle.form_names.specs.declared.elements.Elements.{Elements}
use Rattle.form_names.specs.declared.elements.Elements.TheVariants as sets
use Rattle.form_names.specs.declared.facts.Facts.{Facts}
use Rattle.form_names.specs.declared.kind.Dimension.{Dimension}
use Rattle.form_names.specs.declared.kind.Dimension.TheVariants as dimensions
use Rattle.form_names.specs.contracts.kind.KindPartialEq.TheImpl as kinds
use Rattle.form_names.specs.Elements.{is_same_elements}

-- a declared name, what it stands for, and the elements of a set
pub record Entry : Type 0 where
  pub name : List ℕ
  pub kind : Kind
  pub elements : Option Elements

abbrev pub entry_of : List ℕ → Facts → Entry
entry_of name facts = record { name = name; kind = facts.kind; elements = facts.elements }

-- the names that a map holds, in its order
abbrev pub entries_of : {A : Type 0} → List (String A × Facts) → List Entry
entries_of pairs = map (λ pair. entry_of (string_bytes pair.0) pair.1) pairs

-- where a name stands first, if it does
abbrev pub lookup : List Entry → List ℕ → Option ℕ
lookup entries name = position (λ e. bytes_eq name e.name) entries

abbrev pub name_at : List Entry → ℕ → Option (List ℕ)
name_at entries id = option_map (λ e. e.name) (slice_get entries id)

abbrev pub kind_at : List Entry → ℕ → Option Kind
kind_at entries id = option_map (λ e. e.kind) (slice_get entries id)

-- the dimension of an index, none for another name
abbrev pub dimension_of : Kind → Option Dimension
dimension_of Symbol = None
dimension_of Vector = None
dimension_of (Index d) = Some d
dimension_of Function = None
dimension_of CommutingFunction = None
dimension_of Expression = None
dimension_of Set = None

abbrev pub dimension_at : List Entry → ℕ → Option Dimension
dimension_at entries id = option_and_then dimension_of (kind_at entries id)

-- the elements of a set, none for another name
abbrev pub elements_at : List Entry → ℕ → Option Elements
elements_at entries id = option_and_then (λ e. e.elements) (slice_get entries id)

-- whether two kinds are one, for indices with one dimension
abbrev pub is_same_kind : Kind → Kind → Bool
is_same_kind = kinds.ghosts.eq

-- the Id of a name that stands with a kind, if it is this one
abbrev pub declared_alike : Option Kind → Kind → ℕ → List Entry → Option (ℕ × List Entry)
declared_alike None kind id entries = None
declared_alike (Some other) kind id entries = if is_same_kind other kind then Some (id, entries) else None

-- the Id of a name and the names once it is declared; none where it stands with another kind
abbrev pub declared_at : Option ℕ → List Entry → List ℕ → Kind → Option (ℕ × List Entry)
declared_at None entries name kind = Some (length entries, entries ++ record { name = name; kind = kind; elements = None } ∷ [])
declared_at (Some id) entries name kind = declared_alike (kind_at entries id) kind id entries

abbrev pub declare : List Entry → List ℕ → Kind → Option (ℕ × List Entry)
declare entries name kind = declared_at (lookup entries name) entries name kind

-- whether a name that has these elements, or none, is the set of those
abbrev pub has_elements : Option Elements → Elements → Bool
has_elements None es = false
has_elements (Some others) es = is_same_elements others es

-- the Id of a set and the names once it is declared; none where its name stands otherwise
abbrev pub set_declared_at : Option ℕ → List Entry → List ℕ → Elements → Option (ℕ × List Entry)
set_declared_at None entries name es = Some (length entries, entries ++ record { name = name; kind = Set; elements = Some es } ∷ [])
set_declared_at (Some id) entries name es = if has_elements (elements_at entries id) es then Some (id, entries) else None

abbrev pub declare_set : List Entry → List ℕ → Elements → Option (ℕ × List Entry)
declare_set entries name es = set_declared_at (lookup entries name) entries name es

-- the largest dimension that is a number
abbrev pub largest_dimension : ℕ
largest_dimension = 1000

-- a whole number up to the largest, or a symbol that stands
abbrev pub IsDimension : List Entry → Dimension → Type 0
IsDimension entries (dimensions.Number n) = n ≤ largest_dimension
IsDimension entries (dimensions.Symbol id) = kind_at entries id ≡ Some Symbol

-- what a name that is no set may stand for where these are declared
abbrev pub IsKind : List Entry → Kind → Type 0
IsKind entries Symbol = Unit {0}
IsKind entries Vector = Unit {0}
IsKind entries (Index d) = IsDimension entries d
IsKind entries Function = Unit {0}
IsKind entries CommutingFunction = Unit {0}
IsKind entries Expression = Unit {0}
IsKind entries Set = ⊥

-- two kinds are one, but for the dimensions of indices
abbrev pub is_alike : Kind → Kind → Bool
is_alike Symbol Symbol = true
is_alike Vector Vector = true
is_alike (Index d) (Index e) = true
is_alike Function Function = true
is_alike CommutingFunction CommutingFunction = true
is_alike Expression Expression = true
is_alike Set Set = true
is_alike _ _ = false

-- a kind of which the elements of a set may be
abbrev pub is_element_kind : Kind → Bool
is_element_kind Expression = false
is_element_kind Set = false
is_element_kind _ = true

-- a name that stands, of such a kind
abbrev pub IsNameAlike : List Entry → Kind → ℕ → Type 0
IsNameAlike entries kind id = (other : Kind) × (kind_at entries id ≡ Some other) × (is_alike kind other ≡ true)

-- names of one kind that are neither sets nor expressions, or whole numbers
abbrev pub AreElements : List Entry → Elements → Type 0
AreElements entries (sets.Names ids) = (kind : Kind) × (is_element_kind kind ≡ true) × All (IsNameAlike entries kind) ids
AreElements entries (sets.Numbers ns) = Unit {0}

-- the dimension of an index, and the elements of a set, are what they may be
pub record IsLawful (entries : List Entry) (entry : Entry) : Type 0 where
  pub dimension : IfSome (dimension_of entry.kind) (IsDimension entries)
  pub elements : IfSome entry.elements (AreElements entries)

-- each name is lawful
abbrev pub AreLawful : List Entry → Type 0
AreLawful entries = All (IsLawful entries) entries
