-- What holds of what a match takes of a term.
use Rattle.std.specs.Prelude.{◌≡◌, ◌⊎◌, ◌<◌, ◌≤◌, ◌+◌, ℤ, nat_abs, true, false, IsTrue, List, length, All, IfSome, slice_get}
use Rattle.form_term.specs.Term.{Term, exponent_of}
use Rattle.form_match.specs.declared.uses.Use.{Use}
use Rattle.form_match.specs.declared.uses.Use.TheVariants as uses
use Rattle.form_match.specs.Matching.{are_apart, fits}

-- nothing, or so much of an exponent that the rest has its sign or is 0
abbrev pub FitsExponent : ℤ → ℤ → Type 0
FitsExponent e k = (nat_abs k ≡ 0) ⊎ (fits false e k ≡ true)

-- such a use can be made of a term
abbrev pub FitsUse : Term → Use → Type 0
FitsUse t (uses.Symbol s k) = FitsExponent (exponent_of t s) k
FitsUse t (uses.Dot m k) = (m < length t.others.dots) × IfSome (slice_get t.others.dots m) (λ d. fits false d.exponent k ≡ true)
FitsUse t (uses.Component m) = m < length t.others.components
FitsUse t (uses.Delta m) = m < length t.others.deltas
FitsUse t (uses.Function m) = m < length t.others.functions
FitsUse t (uses.Stretch start n) = start + n ≤ length t.others.word

pub record Fits (us : List Use) (t : Term) : Type 0 where
  pub apart : IsTrue (are_apart us)
  pub each : All (FitsUse t) us
