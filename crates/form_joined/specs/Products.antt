-- Products of joined terms.
use Rattle.std.specs.Prelude.{◌≡◌, ℕ, ◌*◌, List, [], ◌∷◌, ◌++◌, map, Option, Some, None, option_map, option_and_then, Result, Ok, Err}
use Rattle.form_base.specs.declared.cause.Cause.{Cause}
use Rattle.form_frac.specs.Fraction.{negate}
use Rattle.form_term.specs.declared.monomial.Monomial.{Monomial}
use Rattle.form_normal.specs.Product.{product_of}
use Rattle.form_frac.specs.Weight.{Weight, times}
use Rattle.form_gathered.specs.Joined.{IsJoined, item_of, single}
use Rattle.form_gathered.specs.declared.joined.JoinedTerm.{JoinedTerm}
use Rattle.form_expand.specs.Listing.{Listing}

-- a product before others, with its weight and how many it is: nothing where it is 0; none of all where it is refused or out
-- of range
abbrev pub before_product : Result (Option Monomial) Cause → Option Weight → ℕ → Option (List JoinedTerm) → Option (List JoinedTerm)
before_product (Ok (Some m)) (Some w) n rest = option_map (λ js. record { term = m.term; sum = m.coefficient; weight = w; count = n } ∷ js) rest
before_product (Ok (Some m)) None n rest = None
before_product (Ok None) w n rest = rest
before_product (Err cause) w n rest = None

-- a joined term times each of others
abbrev pub times_each : JoinedTerm → List JoinedTerm → Option (List JoinedTerm)
times_each j [] = Some []
times_each j (k ∷ ks) = before_product (product_of (item_of j) (item_of k)) (times j.weight k.weight) (j.count * k.count) (times_each j ks)

-- two lists one behind the other, where both are there
abbrev pub append_if : {A : Type 0} → Option (List A) → Option (List A) → Option (List A)
append_if a b = option_and_then (λ xs. option_map (λ ys. xs ++ ys) b) a

-- Each of the left joined terms times each of the right ones; none where a product is refused or a weight is out of range.
unfoldable pub paired : List JoinedTerm → List JoinedTerm → Option (List JoinedTerm)
paired [] ks = Some []
paired (j ∷ js) ks = append_if (times_each j ks) (paired js ks)

-- a joined term behind a minus sign
abbrev pub turned : JoinedTerm → JoinedTerm
turned j = record j { sum = negate j.sum }

-- a list of terms, each alone
abbrev pub singles : List Monomial → List JoinedTerm
singles ms = map single ms

-- a list that isn't refused, and joined terms that stand for it
abbrev pub HasList : Listing → List JoinedTerm → Type 0
HasList l js = (l.end ≡ None) × IsJoined 1 js (λ _. l.terms)
