-- How joined terms are kept, and what becomes of two of one term.
use Rattle.std.specs.Prelude.{◌≡◌, ◌+◌, max, Bool, true, false, List, ◌∷◌, ◌++◌, ◌⊎◌, Some, if◌then◌else◌}
use Rattle.std.specs.List.{AllByRecursion}
use Rattle.std.specs.List.Sorted.{IsPermutation}
use Rattle.form_frac.specs.Fraction.{add}
use Rattle.form_frac.specs.Weight.{join}
use Rattle.form_term.specs.Term.{Term, IsTerm}
use Rattle.form_gathered.specs.declared.joined.JoinedTerm.{JoinedTerm}
use Rattle.form_gathered.specs.declared.tally.Tally.{Tally}

-- a term with its tally is a joined term
abbrev pub entry_of : Term × Tally → JoinedTerm
entry_of e = record { term = e.0; sum = e.1.sum; weight = e.1.weight; count = e.1.count }

-- each key of a table is a term
abbrev pub AreLawful : List (Term × Tally) → Type 0
AreLawful es = AllByRecursion (λ e. IsTerm e.0) es

-- The third is the first two together: it counts both, or the greater one, where in no list both stand for something.
pub record AreTallied (is_further : Bool) (a b c : Tally) : Type 0 where
  pub sum : add a.sum b.sum ≡ Some c.sum
  pub weight : join a.weight b.weight ≡ Some c.weight
  pub count : c.count ≡ (if is_further then max a.count b.count else a.count + b.count)

-- a tally, another one that it is to take in, and what it is then
abbrev pub IsTakenIn : Bool → Tally → Tally → Tally → Bool → Type 0
IsTakenIn is_further a b c true = AreTallied is_further a b c
IsTakenIn is_further a b c false = c ≡ a

-- the same of joined terms, which are of one term
pub record IsTogether (is_further : Bool) (a b c : JoinedTerm) : Type 0 where
  pub alike : a.term ≡ b.term
  pub kept : c.term ≡ a.term
  pub sum : add a.sum b.sum ≡ Some c.sum
  pub weight : join a.weight b.weight ≡ Some c.weight
  pub count : c.count ≡ (if is_further then max a.count b.count else a.count + b.count)

-- one of some joined terms is brought together with another one
pub record IsRaised (is_further : Bool) (item : JoinedTerm) (old new : List JoinedTerm) : Type 0 where
  pub front : List JoinedTerm
  pub back : List JoinedTerm
  pub was : JoinedTerm
  pub is : JoinedTerm
  pub before : old ≡ front ++ was ∷ back
  pub after : new ≡ front ++ is ∷ back
  pub together : IsTogether is_further was item is

-- A joined term is put among others: it is new, or brought together with one of them; or nothing is changed.
abbrev pub IsPut : Bool → JoinedTerm → List JoinedTerm → List JoinedTerm → Bool → Type 0
IsPut is_further item old new true = IsPermutation (item ∷ old) new ⊎ IsRaised is_further item old new
IsPut is_further item old new false = new ≡ old
