-- How much is taken of a thing, as it is looked for: by the first use of it.
use Rattle.std.specs.Prelude.{◌≡◌, ℕ, ◌<◌, ◌==◌, nat_lt, nat_abs, filter, length, slice_index_or, ℤ, pos, Bool, true, false, List, [], ◌∷◌, Option, Some, None, if◌then◌else◌}
use Rattle.std.specs.Option.{unwrap_or}
use Rattle.form_term.specs.declared.power.Power.{Power}
use Rattle.form_term.specs.declared.power.DotPower.{DotPower}
use Rattle.form_match.specs.declared.taken.Things.{Things}
use Rattle.form_match.specs.declared.taken.Things.TheVariants as things
use Rattle.form_match.specs.declared.uses.Use.{Use}
use Rattle.form_match.specs.declared.uses.Use.TheVariants as uses
use Rattle.form_match.specs.Fits.{FitsExponent}
use Rattle.form_term.specs.Term.{Others}
use Rattle.form_match.specs.Left.{symbol_taken, dot_taken, taken, dots_left, takes_component, takes_delta, takes_function, untaken, word_left}

-- so much of a symbol, or of the dot product at a place, where a use is one of it
abbrev pub symbol_part : ℕ → Use → Option ℤ
symbol_part s (uses.Symbol t k) = if s == t then Some k else None
symbol_part s _ = None

abbrev pub dot_part : ℕ → Use → Option ℤ
dot_part m (uses.Dot n k) = if m == n then Some k else None
dot_part m _ = None

-- whether a use is of a symbol
abbrev pub is_of_symbol : Use → Bool
is_of_symbol (uses.Symbol t k) = true
is_of_symbol _ = false

-- whether a use is of the one of these things at a place
abbrev pub takes_thing : Things → ℕ → Use → Bool
takes_thing things.Components = takes_component
takes_thing things.Deltas = takes_delta
takes_thing things.Functions = takes_function

-- that of the first use
abbrev pub first_part : (Use → Option ℤ) → List Use → ℤ
first_part part [] = pos 0
first_part part (u ∷ us) = unwrap_or (part u) (first_part part us)

-- an element, unless it is taken
abbrev pub unless : {A : Type 0} → Bool → A → List A
unless true x = []
unless false x = x ∷ []

-- a power that isn't 1
abbrev pub present_power : Power → List Power
present_power p = filter (λ p. nat_lt 0 (nat_abs p.exponent)) (p ∷ [])

abbrev pub present_dot : DotPower → List DotPower
present_dot d = filter (λ d. nat_lt 0 (nat_abs d.exponent)) (d ∷ [])

-- what is taken of each of these powers is within its exponent
abbrev pub FitsSymbols : List Use → List Power → Type 0
FitsSymbols us ps = (i : ℕ) (p : Power) → i < length ps → p ≡ slice_index_or ps i p → FitsExponent p.exponent (taken (symbol_taken p.symbol) us)

abbrev pub FitsDots : List Use → List DotPower → Type 0
FitsDots us ds = (i : ℕ) (d : DotPower) → i < length ds → d ≡ slice_index_or ds i d → FitsExponent d.exponent (taken (dot_taken i) us)

-- what is left of other factors, where nothing is taken of the commuting functions
abbrev pub rest_left : List Use → Others → Others
rest_left us o = record {
  is_imaginary = o.is_imaginary;
  dots = dots_left us o.dots;
  components = untaken takes_component us o.components;
  deltas = untaken takes_delta us o.deltas;
  functions = o.functions;
  word = word_left us o.word;
}

-- no other factors than commuting functions and `i_`
pub record IsOfFunctions (o : Others) : Type 0 where
  pub no_dots : o.dots ≡ []
  pub no_components : o.components ≡ []
  pub no_deltas : o.deltas ≡ []
  pub no_word : o.word ≡ []
