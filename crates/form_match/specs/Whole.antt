-- What is left of a term, without building it.
use Rattle.std.specs.Prelude.{ℕ, ◌+◌, ◌-◌, min, ℤ, int_lt, Bool, ◌||◌, List, [], ◌∷◌}
use Rattle.form_match.specs.declared.uses.Use.{Use}
use Rattle.form_match.specs.declared.uses.Use.TheVariants as uses

-- whether something is left of an exponent
abbrev pub differ : ℤ → ℤ → Bool
differ e k = int_lt e k || int_lt k e

-- the length of a word without the stretch that is taken
abbrev pub shorter : Use → ℕ → ℕ
shorter (uses.Stretch start n) l = min start l + (l - (start + n))
shorter _ l = l

abbrev pub length_left : List Use → ℕ → ℕ
length_left [] l = l
length_left (u ∷ us) l = length_left us (shorter u l)
