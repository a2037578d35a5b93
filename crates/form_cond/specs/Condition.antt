-- Whether a condition holds of a term with its coefficient.
use Rattle.std.specs.Prelude.{◌≡◌, ℕ, ◌+◌, ◌==◌, ℤ, pos, ◌+ℤ◌, ◌*ℤ◌, Bool, true, false, not, if◌then◌else◌, List, map, Option, Some, None, is_some, slice_get}
use Rattle.std.specs.List.{count_by, fold, list_all, list_any}
use Rattle.std.specs.Ordering.{is_eq, is_ne, is_lt, is_gt, is_le, is_ge}
use Rattle.std.specs.declared.cmp.Ordering.{Ordering}
use Rattle.form_frac.specs.Fraction.{Fraction, whole, is_zero, compare}
use Rattle.form_term.specs.declared.piece.Piece.{Piece}
use Rattle.form_term.specs.declared.power.DotPower.{DotPower}
use Rattle.form_term.specs.Term.{Term, exponent_of}
use Rattle.form_base.specs.Condition.{test_holds_by, values_of_test}
use Rattle.form_base.specs.declared.comparison.Comparison.{Comparison}
use Rattle.form_base.specs.declared.comparison.Comparison.TheVariants as comparisons
use Rattle.form_tree.specs.declared.condition.Counted.{Counted}
use Rattle.form_tree.specs.declared.condition.Counted.TheVariants as counts
use Rattle.form_tree.specs.declared.condition.Value.{Value}
use Rattle.form_tree.specs.declared.condition.Value.TheVariants as values
use Rattle.form_tree.specs.declared.condition.Weighted.{Weighted}
use Rattle.form_tree.specs.Condition.{Alternatives, Test}
use Rattle.form_tree.specs.Pattern.{Factors, pieces_of_factors}
use Rattle.form_match.specs.Matching.{first_match}
use Rattle.form_match.specs.Ready.{ReadyPattern}
use Rattle.form_cond.specs.Occurring.{occurs}

-- ---- what is counted

-- the sum over a list, from the left
abbrev pub total : {A : Type 0} → (A → ℤ) → List A → ℤ
total f xs = fold (λ sum x. sum +ℤ f x) (pos 0) xs

-- how often a vector stands in a power of a dot product: so often as its exponent says, and twice so in `p.p`
abbrev pub times_in : ℕ → DotPower → ℤ
times_in v d = (if d.left == v then d.exponent else pos 0) +ℤ (if d.right == v then d.exponent else pos 0)

-- The number of a symbol is its exponent. That of a vector is how often it stands in dot products and in components, and
-- that of a function how many of its name there are. What stands in arguments isn't counted.
abbrev pub number_of : Counted → Term → ℤ
number_of (counts.Symbol s) t = exponent_of t s
number_of (counts.Vector v) t = total (times_in v) t.others.dots +ℤ pos (count_by (λ c. c.vector == v) t.others.components)
number_of (counts.Function f) t = pos (count_by (λ c. c.function == f) t.others.functions + count_by (λ c. c.function == f) t.others.word)

abbrev pub count_of : List Weighted → Term → ℤ
count_of ws t = total (λ w. w.weight *ℤ number_of w.counted t) ws

-- ---- patterns

-- A pattern as it is tried: what its arguments without wildcards are, and its tree.
pub record Ready : Type 0 where
  pub fixed : List (Option (List Piece))
  pub factors : Factors

abbrev pub kept : Ready → ReadyPattern
kept r = record { pieces = pieces_of_factors r.factors; fixed = r.fixed }

-- patterns are kept as these are
abbrev pub AreReady : List ReadyPattern → List Ready → Type 0
AreReady patterns rs = patterns ≡ map kept rs

abbrev pub matches : Option Ready → Term → Bool
matches None t = false
matches (Some r) t = is_some (first_match r.fixed r.factors t)

-- ---- values

abbrev pub truth : Bool → Fraction
truth b = whole (if b then pos 1 else pos 0)

-- What is asked about a pattern, which isn't there, or about names, is 1 where it is so, and else 0.
abbrev pub value_of : List Ready → Value → Fraction → Term → Fraction
value_of rs (values.Number x) c t = x
value_of rs values.Coefficient c t = c
value_of rs (values.Count ws) c t = whole (count_of ws t)
value_of rs (values.Match k) c t = truth (matches (slice_get rs k) t)
value_of rs (values.Occurs ns) c t = truth (list_any (λ n. occurs n t) ns)

-- whether a comparison is so, by how the left value stands to the right one
abbrev pub is_so : Comparison → Ordering → Bool
is_so comparisons.EqualTo o = is_eq o
is_so comparisons.NotEqualTo o = is_ne o
is_so comparisons.Less o = is_lt o
is_so comparisons.Greater o = is_gt o
is_so comparisons.AtMost o = is_le o
is_so comparisons.AtLeast o = is_ge o

abbrev pub is_true : List Ready → Value → Fraction → Term → Bool
is_true rs v c t = not (is_zero (value_of rs v c t))

abbrev pub is_compared : List Ready → Value → Comparison → Value → Fraction → Term → Bool
is_compared rs v by w c t = is_so by (compare (value_of rs v c t) (value_of rs w c t))

-- ---- conditions

-- a value alone holds where it isn't 0
abbrev pub test_holds : List Ready → Fraction → Term → Test → Bool
test_holds rs c t = test_holds_by (λ v. is_true rs v c t) (λ v by w. is_compared rs v by w c t)

-- all of these tests hold
abbrev pub all_hold : List Ready → List Test → Fraction → Term → Bool
all_hold rs tests c t = list_all (test_holds rs c t) tests

-- one of these lists holds whole
abbrev pub holds : List Ready → Alternatives → Fraction → Term → Bool
holds rs a c t = list_any (list_all (test_holds rs c t)) a

-- ---- what takes memory

abbrev pub is_match : Value → Bool
is_match (values.Match k) = true
is_match _ = false

abbrev pub has_match : Test → Bool
has_match test = list_any is_match (values_of_test test)
