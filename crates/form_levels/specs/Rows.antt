-- Rows of lists whose front is a joined term.
use Rattle.std.specs.Prelude.{ℕ, ◌≤◌, List, [], ◌∷◌, ◌++◌, length, replicate, Option, Result, IfOk, IfSome}
use Rattle.std.specs.declared.alloc.AllocError.{AllocError}
use Rattle.form_frac.specs.Fraction.{Fraction}
use Rattle.form_term.specs.Term.{Term}
use Rattle.form_expand.specs.Left.{row}
use Rattle.form_expand.specs.Listing.{Listing, single}
use Rattle.form_gathered.specs.declared.joined.JoinedTerm.{JoinedTerm}
use Rattle.form_joined.specs.Goes.{Goes}
use Rattle.form_levels.specs.declared.fronts.Fronts.{Fronts}

-- another term with the same sum, weight and count
abbrev pub with_term : Term → JoinedTerm → JoinedTerm
with_term t j = record j { term = t }

-- a row of lists, with a coefficient at a term in front of them
abbrev pub row_from : ℕ → Term → List Listing → Fraction → Listing
row_from max t lists c = row max (single (record { coefficient = c; term = t }) ∷ lists)

-- Of these lists in a row, at this term, these fronts have come, and of each coefficient no more than so many.
pub record IsRow (max : ℕ) (t : Term) (lists : List Listing) (js fronts : List JoinedTerm) (most : ℕ) : Type 0 where
  pub goes : Goes (λ m. row_from max t lists m.coefficient) js fronts
  pub short : (c : Fraction) → length (row_from max t lists c).terms ≤ most

-- the fronts are those of a joined term's coefficients
abbrev pub AreFronts : Term → List Listing → JoinedTerm → Fronts → Type 0
AreFronts t lists j f = IsRow f.limit t lists (j ∷ []) f.terms.items f.most

-- a list was put behind fronts so many times, where it is told
abbrev pub IsBehind : Fronts → ℕ → Listing → Result (Option Fronts) AllocError → Type 0
IsBehind f n l made = (t : Term) (lists : List Listing) (j : JoinedTerm) → AreFronts t lists j f → IfOk made (λ some. IfSome some (AreFronts t (lists ++ replicate n l) j))
