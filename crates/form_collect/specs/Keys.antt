-- Keys: numbers made of the exponents of a few symbols. Where those of terms that have no symbol before these differ,
-- they stand as the terms do.
use Rattle.std.specs.Prelude.{◌≡◌, ℕ, zero, suc, ◌+◌, ◌-◌, ◌*◌, ◌==◌, min, nat_lt, nat_eq, ℤ, pos, negsuc, nat_abs, Bool, true, ◌&&◌, List, [], ◌∷◌, map, fold, length, get_or, if◌then◌else◌}
use Rattle.std.specs.List.{list_all, slice_get}
use Rattle.std.specs.List.Sorted.{IsPermutation, IsSorted}
use Rattle.std.specs.Option.{option_cmp}
use Rattle.std.specs.Ordering.{nat_cmp, on, then_cmp}
use Rattle.std.specs.declared.cmp.Ordering.{Ordering}
use Rattle.form_term.specs.declared.power.Power.{Power}
use Rattle.form_term.specs.declared.piece.Piece.{Piece}
use Rattle.form_term.specs.declared.piece.Piece.TheVariants.{EndOfArguments, EndOfSum, Negative, NegativeDot, EndOfTerm, Sum}
use Rattle.form_term.specs.Term.{Term, Call, exponent_of, imaginary_exponent, order}
use Rattle.form_term.specs.Monomial.{unit}
use Rattle.form_term.specs.declared.monomial.Monomial.{Monomial}
use Rattle.form_collect.specs.declared.sorting.Keyed.{Keyed}

-- the order of terms, of monomials
abbrev pub term_order : Monomial → Monomial → Ordering
term_order a b = order a.term b.term

-- these are the terms in their order
pub record AreSorted (terms list : List Monomial) : Type 0 where
  pub moved : IsPermutation terms list
  pub rising : IsSorted term_order list

-- the symbol of a term that is declared first, and 2 ^ 32 - 1 where there is none
abbrev pub first_of : Term → ℕ
first_of t = get_or (map (λ p. p.symbol) t.symbols) 0 4294967295

-- that of these terms
abbrev pub first_symbol : List Monomial → ℕ
first_symbol terms = fold (λ first m. min first (first_of m.term)) 4294967295 terms

-- an exponent as a digit below 128: 64 more than it, or the nearest
abbrev pub digit : ℤ → ℕ
digit (pos n) = 64 + min n 63
digit (negsuc n) = 63 - n

-- whether a digit stands for one exponent alone
abbrev pub is_told : ℕ → Bool
is_told d = nat_lt 0 d && nat_lt d 127

-- a key and behind it the digits of n symbols from this one on, which are 0 behind one that isn't told
unfoldable pub key_from : ℕ → ℕ → (ℕ → ℤ) → Bool → ℕ → ℕ
key_from zero symbol exponent is_open key = key
key_from (suc n) symbol exponent is_open key = key_from n (suc symbol) exponent (is_open && is_told (digit (exponent symbol))) (key * 128 + (if is_open then digit (exponent symbol) else 0))

-- the key of a term: the exponent of `i_`, and then those of nine symbols from this one on
unfoldable pub key_of : ℕ → Term → ℕ
key_of first t = key_from 9 first (exponent_of t) true (imaginary_exponent t)

-- whether a power is of a symbol before this one, and its digit that of no other exponent
abbrev pub is_near : ℕ → Power → Bool
is_near end p = nat_lt p.symbol end && nat_lt (nat_abs p.exponent) 63

-- whether a term has no factors that stand between symbols and functions in the order
abbrev pub has_none_between : Term → Bool
has_none_between t = (length t.others.dots == 0) && (length t.others.components == 0) && (length t.others.deltas == 0)

-- whether the key of a term tells all that is before its functions in the order
abbrev pub is_whole : ℕ → Term → Bool
is_whole first t = has_none_between t && list_all (is_near (first + 9)) t.symbols

-- a numerator as a digit below 2 ^ 19: 2 ^ 18 more than it, or the nearest
abbrev pub number_digit : ℤ → ℕ
number_digit (pos n) = 262144 + min n 262143
number_digit (negsuc n) = 262143 - n

-- a piece as a digit: 0 below the end of a term, the last one above it
abbrev pub piece_digit : Piece → ℕ
piece_digit EndOfArguments = 0
piece_digit EndOfSum = 0
piece_digit (Negative p) = 0
piece_digit (NegativeDot d) = 0
piece_digit (EndOfTerm c) = 1 + number_digit c.numerator
piece_digit p = 524289

-- a sum as a digit, by its first piece
abbrev pub sum_digit : List Piece → ℕ
sum_digit [] = 0
sum_digit (p ∷ ps) = piece_digit p

-- arguments as a digit: that of the sum with which they begin
abbrev pub arguments_digit : List Piece → ℕ
arguments_digit [] = 0
arguments_digit (Sum ∷ ps) = sum_digit ps
arguments_digit (p ∷ ps) = 0

-- a function as a number: by its declaration, and then by its arguments' digit, which is below 2 ^ 20
abbrev pub call_tie : Call → ℕ
call_tie c = if nat_lt c.function 2047 then 1 + c.function * 1048576 + arguments_digit c.pieces else 2146435073

-- the number of the first one, 0 without functions
abbrev pub first_tie : List Call → ℕ
first_tie [] = 0
first_tie (c ∷ cs) = call_tie c

-- The tie of a term. Where the keys of two terms are equal and tell all that is before functions, ties that differ stand
-- as the terms do.
abbrev pub tie_of : Term → ℕ
tie_of t = first_tie t.others.functions

-- the keys of these terms, which stand from this place on, with their ties where these tell something
abbrev pub keys_from : ℕ → Bool → ℕ → List Monomial → List Keyed
keys_from first told place [] = []
keys_from first told place (m ∷ ms) = record { key = key_of first m.term; tie = if told then tie_of m.term else 0; place = place } ∷ keys_from first told (suc place) ms

-- the term at a key's place
abbrev pub item_at : List Monomial → Keyed → Monomial
item_at terms k = get_or terms k.place unit

-- whether two keys are of one place
abbrev pub same_place : Keyed → Keyed → Bool
same_place a b = nat_eq a.place b.place

-- at the place of the first of these keys stands this number, at that of the next key the next number, and so on
abbrev pub ArePlacedFrom : List ℕ → ℕ → List Keyed → Type 0
ArePlacedFrom places n [] = Unit {0}
ArePlacedFrom places n (k ∷ ks) = (get_or places k.place 0 ≡ n) × ArePlacedFrom places (n + 1) ks

-- by the keys, then by the ties, and then by the terms at their places
abbrev pub keyed_order : List Monomial → Keyed → Keyed → Ordering
keyed_order terms = then_cmp (on (λ k. k.key) nat_cmp) (then_cmp (on (λ k. k.tie) nat_cmp) (on (λ k. slice_get terms k.place) (option_cmp term_order)))
