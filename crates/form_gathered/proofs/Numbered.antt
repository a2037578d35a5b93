-- Each term of a list as a list of its own: of these, joined terms that have the list's sums count one each.
use Rattle.std.proofs.Common.{◌≡◌, ℕ, zero, suc, ◌+◌, ◌<◌, ◌≤◌, List, [], ◌∷◌, ◌++◌, map, length, refl, sym, ap, subst, ◌∙◌, length-append, arith}
use Rattle.std.specs.Prelude.{flat_map}
use Rattle.std.specs.List.{AllByRecursion}
use Rattle.std.specs.List.Sorted.{IsPermutation}
use Rattle.std.proofs.lemmas.List.{map-append, length-map}
use Rattle.std.proofs.lemmas.List.Concat.{flat_map-append}
use Rattle.std.proofs.lemmas.List.Sorted.{length_permutation, IsPermutation-sym}
use Rattle.form_frac.specs.Fraction.{Fraction}
use Rattle.form_term.specs.Term.{Term}
use Rattle.form_term.specs.declared.monomial.Monomial.{Monomial}
use Rattle.form_frac.proofs.Joined.{moved as sums_moved}
use Rattle.form_gathered.specs.declared.joined.JoinedTerm.{JoinedTerm}
use Rattle.form_gathered.specs.Joined.{Share, HasSum, IsShare, IsJoined, HaveSums, members, share_members, in_row, alone, counting_one}
use Rattle.form_gathered.proofs.Shuffled.{all_moved, all_front, all_back, lifted, flat_map_moved}
use Rattle.form_gathered.proofs.Rows.{row_crossed}
use Rattle.form_gathered.proofs.Joining.{cut, nothing_made}
use Rattle.form_gathered.proofs.Inputs.{only, only_below, only_row, only_mapped}

-- ---- a list with the numbers of its terms

abbrev Place : Type 0
Place = ℕ × Monomial

numbered_from : ℕ → List Monomial → List Place
numbered_from i [] = []
numbered_from i (m ∷ ms) = (i, m) ∷ numbered_from (suc i) ms

-- what a term is of the list of this number, and its coefficient there
abbrev at : ℕ → Place → List Monomial
at k z = only z.0 z.1 k

abbrev coefficient_at : ℕ → Place → List Fraction
coefficient_at k z = only z.0 z.1.coefficient k

terms_again : (i : ℕ) (ms : List Monomial) → map (λ (z : Place). z.1) (numbered_from i ms) ≡ ms
unfolding numbered_from
terms_again i [] = refl
terms_again i (m ∷ ms) = ap (λ l. m ∷ l) (terms_again (suc i) ms)

numbers_below : (n i : ℕ) (ms : List Monomial) → i + length ms ≤ n → AllByRecursion (λ (z : Place). z.0 < n) (numbered_from i ms)
unfolding numbered_from
numbers_below n i [] h = tt
numbers_below n i (m ∷ ms) h = (omega (arith, h), numbers_below n (suc i) ms (omega (arith, h)))

none_before : (k i : ℕ) (ms : List Monomial) → k < i → flat_map (at k) (numbered_from i ms) ≡ []
unfolding numbered_from
none_before k i [] lt = refl
none_before k i (m ∷ ms) lt = ap (λ l. l ++ flat_map (at k) (numbered_from (suc i) ms)) (only_below m i k lt) ∙ none_before k (suc i) ms (omega (arith, lt))

shifted : (k i : ℕ) (ms : List Monomial) → flat_map (at (suc k)) (numbered_from (suc i) ms) ≡ flat_map (at k) (numbered_from i ms)
unfolding numbered_from only
shifted k i [] = refl
shifted k i (m ∷ ms) = ap (λ l. only i m k ++ l) (shifted k (suc i) ms)

alone_again : (ms : List Monomial) (k : ℕ) → flat_map (at k) (numbered_from 0 ms) ≡ alone ms k
unfolding numbered_from only
alone_again [] zero = refl
alone_again [] (suc k) = refl
alone_again (m ∷ ms) zero = ap (λ l. m ∷ l) (none_before 0 1 ms (omega arith))
alone_again (m ∷ ms) (suc k) = shifted k 0 ms ∙ alone_again ms k

alone_short : (ms : List Monomial) (k : ℕ) → length (alone ms k) ≤ 1
alone_short [] zero = omega arith
alone_short [] (suc k) = omega arith
alone_short (m ∷ ms) zero = omega arith
alone_short (m ∷ ms) (suc k) = alone_short ms k

-- ---- the numbered terms of a share

members_at : (t : Term) (k : ℕ) (zs : List Place) (cs : List Fraction) → map (λ (z : Place). z.1) zs ≡ members t cs → members t (flat_map (coefficient_at k) zs) ≡ flat_map (at k) zs
members_at t k [] cs e = refl
members_at t k (z ∷ zs) [] e = absurd (cc)
members_at t k (z ∷ zs) (c ∷ cs) e =
    let first : z.1 ≡ record { coefficient = c; term = t } = cc in
    let rest : map (λ (y : Place). y.1) zs ≡ members t cs = cc in
    let own : only z.0 (record { coefficient = z.1.coefficient; term = t }) k ≡ only z.0 z.1 k =
    ap (λ (m : Monomial). only z.0 m k) (ap (λ (m : Monomial). record { coefficient = m.coefficient; term = t }) first ∙ sym first) in
    map-append (λ (d : Fraction). record { coefficient = d; term = t }) (coefficient_at k z) (flat_map (coefficient_at k) zs)
    ∙ ap (λ l. l ++ members t (flat_map (coefficient_at k) zs)) (only_mapped (λ (d : Fraction). record { coefficient = d; term = t }) z.0 z.1.coefficient k ∙ own)
    ∙ ap (λ l. only z.0 z.1 k ++ l) (members_at t k zs cs rest)

coefficients_are : (t : Term) (zs : List Place) (cs : List Fraction) → map (λ (z : Place). z.1) zs ≡ members t cs → map (λ (z : Place). z.1.coefficient) zs ≡ cs
coefficients_are t [] [] e = refl
coefficients_are t [] (c ∷ cs) e = absurd (cc)
coefficients_are t (z ∷ zs) [] e = absurd (cc)
coefficients_are t (z ∷ zs) (c ∷ cs) e =
    let first : z.1 ≡ record { coefficient = c; term = t } = cc in
    let rest : map (λ (y : Place). y.1) zs ≡ members t cs = cc in
    ap (λ (m : Monomial). m.coefficient ∷ map (λ (y : Place). y.1.coefficient) zs) first ∙ ap (λ l. c ∷ l) (coefficients_are t zs cs rest)

rows_are : (n : ℕ) (zs : List Place) → AllByRecursion (λ (z : Place). z.0 < n) zs → flat_map (λ (z : Place). in_row n (λ k. coefficient_at k z)) zs ≡ map (λ (z : Place). z.1.coefficient) zs
rows_are n [] h = refl
rows_are n (z ∷ zs) h =
    ap (λ l. l ++ flat_map (λ (y : Place). in_row n (λ k. coefficient_at k y)) zs) (only_row z.1.coefficient n z.0 h.0) ∙ ap (λ l. z.1.coefficient ∷ l) (rows_are n zs h.1)

-- ---- all shares

abbrev joined_of : Share → JoinedTerm
joined_of s = s.joined

abbrev Below : ℕ → List Place → Type 0
Below n zs = AllByRecursion (λ (z : Place). z.0 < n) zs

-- shares of the lists of one term each, for those of the whole list
record Parted (n : ℕ) (zs : List Place) (ss : List Share) : Type 0 where
  shares : List Share
  joined : map joined_of shares ≡ map counting_one (map joined_of ss)
  each : AllByRecursion (HasSum n) shares
  ones : AllByRecursion (λ s. s.joined.count ≡ 1) shares
  whole : (k : ℕ) → flat_map (share_members k) shares ≡ flat_map (at k) zs

parted : (n : ℕ) (ss : List Share) (zs : List Place) → map (λ (z : Place). z.1) zs ≡ flat_map (share_members 0) ss → AllByRecursion (HasSum 1) ss → Below n zs → Parted n zs ss
parted n [] zs e h below =
    let none : [] ≡ zs = sym (nothing_made (λ (z : Place). z.1) zs e) in
    record { shares = []; joined = refl; each = tt; ones = tt; whole = λ k. ap (flat_map (at k)) none }
parted n (s ∷ ss) zs e h below =
    let t = s.joined.term in
    let c = cut (λ (z : Place). z.1) zs (share_members 0 s) (flat_map (share_members 0) ss) e in
    let all = subst (Below n) c.whole below in
    let rest = parted n ss c.back c.second h.1 (all_back (λ (z : Place). z.0 < n) c.front c.back all) in
    let own = all_front (λ (z : Place). z.0 < n) c.front c.back all in
    let parts = λ (k : ℕ). flat_map (coefficient_at k) c.front in
    let is : flat_map (λ (z : Place). in_row n (λ k. coefficient_at k z)) c.front ≡ s.parts 0 = rows_are n c.front own ∙ coefficients_are t c.front (s.parts 0) c.first in
    let there : IsPermutation (s.parts 0) (in_row n parts) = subst (λ l. IsPermutation l (in_row n parts)) is (row_crossed n coefficient_at c.front) in
    record {
      shares = record { joined = counting_one s.joined; parts = parts } ∷ rest.shares;
      joined = ap (λ l. counting_one s.joined ∷ l) rest.joined;
      each = (record { in_range = h.0.in_range; total = sums_moved s.joined.weight s.joined.sum (s.parts 0) (in_row n parts) there h.0.total }, rest.each);
      ones = (refl, rest.ones);
      whole = λ k.
          ap (λ l. l ++ flat_map (share_members k) rest.shares) (members_at t k c.front (s.parts 0) c.first)
          ∙ ap (λ l. flat_map (at k) c.front ++ l) (rest.whole k)
          ∙ sym (flat_map-append (at k) c.front c.back)
          ∙ ap (flat_map (at k)) (sym c.whole);
    }

all_counted : (n : ℕ) (ss : List Share) → AllByRecursion (HasSum n) ss → AllByRecursion (λ s. s.joined.count ≡ 1) ss → ((k : ℕ) → k < n → length (flat_map (share_members k) ss) ≤ 1) → AllByRecursion (IsShare n) ss
all_counted n [] h ones short = tt
all_counted n (s ∷ ss) h ones short = (
  record { sum = h.0; few = λ k lt. omega (arith, short k lt, length-append (share_members k s) (flat_map (share_members k) ss), long k, ones.0) },
  all_counted n ss h.1 ones.1 (λ k lt. omega (arith, short k lt, length-append (share_members k s) (flat_map (share_members k) ss))),
)
  where
    long : (k : ℕ) → length (share_members k s) ≡ length (s.parts k)
    long k = length-map (s.parts k) (λ (c : Fraction). record { coefficient = c; term = s.joined.term })

pub sums_of_inputs : (js : List JoinedTerm) (list : List Monomial) → HaveSums js list → IsJoined (length list) (map counting_one js) (alone list)
sums_of_inputs js list h =
    let n = length list in
    let start = numbered_from 0 list in
    let back = IsPermutation-sym (flat_map (share_members 0) h.shares) list (h.whole 0 (omega arith)) in
    let (zs, is, moved) = lifted (λ (z : Place). z.1) start (flat_map (share_members 0) h.shares) (subst (λ l. IsPermutation l (flat_map (share_members 0) h.shares)) (sym (terms_again 0 list)) back) in
    let below = all_moved (λ (z : Place). z.0 < n) start zs moved (numbers_below n 0 list (omega arith)) in
    let p = parted n h.shares zs is h.each below in
    let whole = λ (k : ℕ). subst (λ l. IsPermutation l (alone list k)) (sym (p.whole k)) (subst (λ l. IsPermutation (flat_map (at k) zs) l) (alone_again list k) (flat_map_moved (at k) zs start (IsPermutation-sym start zs moved))) in
    record {
      shares = p.shares;
      joined = p.joined ∙ ap (map counting_one) h.joined;
      each = all_counted n p.shares p.each p.ones (λ k lt. omega (arith, length_of (flat_map (share_members k) p.shares) (alone list k) (whole k), alone_short list k));
      whole = λ k lt. whole k;
    }
  where
    length_of : (xs ys : List Monomial) → IsPermutation xs ys → length ys ≡ length xs
    length_of xs ys q = length_permutation xs ys q
