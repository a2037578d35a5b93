-- What is taken with the first match, by the ways that the search goes. (Private: cited by what takes it out alone.)
use Rattle.std.specs.Prelude.{◌≡◌, ◌+◌, ◌<◌, ℕ, pos, ◌*ℤ◌, FitsSigned, Bool, true, false, ⊤, List, [], ◌∷◌, Option, Some}
use Rattle.std.specs.Int.{w64}
use Rattle.form_base.specs.declared.taking.Taking.{Taking}
use Rattle.form_base.specs.declared.taking.Taking.TheVariants.{Once, Only, Multi, Many}
use Rattle.form_term.specs.Term.{Term}
use Rattle.form_term.specs.declared.piece.Piece.{Piece}
use Rattle.form_tree.specs.Pattern.{Factors}
use Rattle.form_bindings.specs.Values.{Binding}
use Rattle.form_match.specs.declared.matching.Match.{Match}
use Rattle.form_match.specs.declared.uses.Use.{Use}
use Rattle.form_match.specs.declared.uses.Use.TheVariants as uses
use Rattle.form_rewrite.specs.Taking.{and_match, and_more, fits_times, multiplied, taken_so_far, weight}
use Rattle.form_rewrite.specs.declared.taken.Take.{Take}
use Rattle.form_rewrite.specs.declared.taken.Take.TheVariants as takes
use Rattle.form_rewrite.specs.declared.taken.Taken.{Taken}

-- something was taken
abbrev pub IsTaken : Take → Type 0
IsTaken (takes.Untaken t) = ⊥
IsTaken (takes.Single one) = ⊤
IsTaken (takes.Several taken) = ⊤

-- a match has to take whole powers
abbrev pub is_exact : Option Taking → Bool
is_exact (Some Only) = true
is_exact _ = false

-- no stretch of a word is taken
abbrev pub leaves_words : Use → Bool
leaves_words (uses.Stretch start n) = false
leaves_words _ = true

-- a match is taken once
abbrev pub IsOnce : Taking → Term → List Use → Type 0
IsOnce Multi t us = fits_times t us ≡ 1
IsOnce _ t us = ⊤

-- a match that is taken as often as it fits does fit
abbrev pub FitsOften : Taking → Term → List Use → Type 0
FitsOften Multi t us = 0 < fits_times t us
FitsOften _ t us = ⊤

-- so many times a power is no larger than a power may be
abbrev pub HasRoom : ℕ → Use → Type 0
HasRoom n (uses.Symbol s k) = FitsSigned w64 (pos n *ℤ k)
HasRoom n (uses.Dot m k) = FitsSigned w64 (pos n *ℤ k)
HasRoom n _ = ⊤

-- more matches are looked for
abbrev pub is_many : Taking → Bool
is_many Many = true
is_many _ = false

-- the matches behind those that were taken
abbrev pub all_more : List (Option (List Piece)) → Factors → Taken → Taken
all_more table pattern x = and_more (weight x.left + 1) table pattern x

-- one match that left this is all that is taken
abbrev pub EndsWith : List (Option (List Piece)) → Factors → Term → Type 0
EndsWith table pattern left = (bs : List Binding) → taken_so_far left [] (bs ∷ []) 1 ≡ all_more table pattern (taken_so_far left [] (bs ∷ []) 1)

-- what is taken with the first match, by the option
abbrev pub taken_by : Taking → List (Option (List Piece)) → Factors → Taken → Match → Taken
taken_by Once table pattern x m = and_match x m
taken_by Only table pattern x m = and_match x m
taken_by Multi table pattern x m = multiplied x m
taken_by Many table pattern x m = all_more table pattern (and_match x m)
