-- Lists of terms, each with its end, and how a sum, a product and a power make a list of others.
use Rattle.std.specs.Prelude.{ℕ, zero, suc, Bool, true, false, List, [], ◌∷◌, ◌++◌, map, take, length, nat_lt, if◌then◌else◌, Option, Some, None, Result, Ok, Err}
use Rattle.form_base.specs.declared.cause.Cause.{Cause}
use Rattle.form_base.specs.declared.cause.Cause.TheVariants.{ExpandLimit}
use Rattle.form_term.specs.declared.monomial.Monomial.{Monomial}
use Rattle.form_term.specs.Monomial.{unit, negated}
use Rattle.form_normal.specs.Product.{product_of}

-- Terms in order, and how the list ends behind them: done where there is no cause, else refused.
pub record Listing : Type 0 where
  pub terms : List Monomial
  pub end : Option Cause

-- the list without terms, which is done
abbrev pub nothing : Listing
nothing = record { terms = []; end = None }

abbrev pub single : Monomial → Listing
single m = record { terms = m ∷ []; end = None }

abbrev pub refusal : Cause → Listing
refusal cause = record { terms = []; end = Some cause }

-- a list with a term before it
abbrev pub before : Monomial → Listing → Listing
before m l = record { terms = m ∷ l.terms; end = l.end }

-- Where a list has more than n terms, its first n and then ExpandLimit.
unfoldable pub limited : ℕ → Listing → Listing
limited n l = if nat_lt n (length l.terms) then record { terms = take n l.terms; end = Some ExpandLimit } else l

-- A list and then another; behind a refusal nothing comes.
unfoldable pub followed_at : List Monomial → Option Cause → Listing → Listing
followed_at ms None b = record { terms = ms ++ b.terms; end = b.end }
followed_at ms (Some cause) b = record { terms = ms; end = Some cause }

abbrev pub followed : Listing → Listing → Listing
followed a b = followed_at a.terms a.end b

-- what a product gives before a list: its term, or nothing where it is 0, or a refusal in place of all
abbrev pub before_by : Result (Option Monomial) Cause → Listing → Listing
before_by (Ok (Some m)) rest = before m rest
before_by (Ok None) rest = rest
before_by (Err cause) rest = refusal cause

-- a term times each of a list in order, up to the first product that is refused; a product that is 0 gives no term
unfoldable pub times_each : Monomial → List Monomial → Option Cause → Listing
times_each m [] end = record { terms = []; end = end }
times_each m (r ∷ rs) end = before_by (product_of m r) (times_each m rs end)

abbrev pub times : Monomial → Listing → Listing
times m l = times_each m l.terms l.end

-- each of the left terms in order times the right list; where there is none the right list isn't tried
unfoldable pub pairs_each : List Monomial → Option Cause → Listing → Listing
pairs_each [] end right = record { terms = []; end = end }
pairs_each (m ∷ ms) end right = followed (times m right) (pairs_each ms end right)

abbrev pub pairs : Listing → Listing → Listing
pairs left right = pairs_each left.terms left.end right

-- So many factors of a list in a row, paired from the left; each front of the row is a list, and limited. None gives 1.
unfoldable pub powers : ℕ → Listing → ℕ → Listing
powers max l zero = limited max (single unit)
powers max l (suc zero) = limited max l
powers max l (suc (suc k)) = limited max (pairs (powers max l (suc k)) l)

-- a term behind a sign
abbrev pub with_sign : Bool → Monomial → Monomial
with_sign true m = negated m
with_sign false m = m

-- each term behind a sign
abbrev pub signed : Bool → Listing → Listing
signed is_minus l = record { terms = map (with_sign is_minus) l.terms; end = l.end }
