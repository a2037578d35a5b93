-- Variables: each name has a stack of values, the newest first.
use Rattle.std.specs.Prelude.{ℕ, if◌then◌else◌, List, [], ◌∷◌, length, drop, Option, Some, None}
use Rattle.std.specs.Str.{bytes_eq}
use Rattle.form_calc.specs.Stack.{oldest}
use Rattle.form_preproc.specs.Bytes.{is_name}

-- the values of each name
abbrev pub Values : Type 0
Values = List ℕ → List (List ℕ)

-- how many values each name has
abbrev pub Heights : Type 0
Heights = List ℕ → ℕ

-- no name has a value
abbrev pub no_values : Values
no_values name = []

abbrev pub first_of : List (List ℕ) → Option (List ℕ)
first_of [] = None
first_of (value ∷ values) = Some value

-- the newest value of a name; what is no name has none
abbrev pub newest : Values → List ℕ → Option (List ℕ)
newest values name = if is_name name then first_of (values name) else None

-- the values with these for a name
abbrev pub with_stack : Values → List ℕ → List (List ℕ) → Values
with_stack values name stack = if is_name name then (λ other. if bytes_eq name other then stack else values other) else values

-- with one more value of a name
abbrev pub pushed : Values → List ℕ → List ℕ → Values
pushed values name value = with_stack values name (value ∷ values name)

-- without a name's newest value, where it has one
abbrev pub uncovered : Values → List ℕ → Values
uncovered values name = with_stack values name (drop 1 (values name))

-- with a name's stack cut back to a height
abbrev pub cut_back : Values → List ℕ → ℕ → Values
cut_back values name height = with_stack values name (oldest height (values name))

abbrev pub heights_of : Values → Heights
heights_of values name = length (values name)

-- with every stack cut to at most its height then
abbrev pub all_cut : Values → Heights → Values
all_cut values heights = λ name. oldest (heights name) (values name)

-- the values, and their heights when each open call began, that of the innermost first
pub record Kept : Type 0 where
  pub values : Values
  pub calls : List Heights

abbrev pub height_of : Values → List ℕ → ℕ
height_of values name = if is_name name then length (values name) else 0

-- the heights when the innermost call began
abbrev pub first_heights : List Heights → Heights
first_heights [] = λ name. 0
first_heights (heights ∷ calls) = heights

abbrev pub other_calls : List Heights → List Heights
other_calls [] = []
other_calls (heights ∷ calls) = calls
