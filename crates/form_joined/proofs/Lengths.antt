-- How long lists are, and that lists within their limit are whole.
use Rattle.std.proofs.Common.{◌≡◌, ℕ, suc, ◌+◌, ◌*◌, ◌<◌, ◌≤◌, Bool, true, false, ltb, List, [], ◌∷◌, length, take, map, refl, sym, arith, length-append, le-ltb}
use Rattle.std.specs.Prelude.{Option, Some, None, Result, Ok, Err, if◌then◌else◌}
use Rattle.std.specs.List.{AllByRecursion, flat_map}
use Rattle.std.proofs.lemmas.List.{length-map, length-take}
use Rattle.std.proofs.lemmas.List.Sorted.{length_permutation}
use Rattle.std.proofs.lemmas.List.Sums.{sum_by-cons}
use Rattle.std.proofs.Math.Nat.{mul-le-mul_right}
use Rattle.form_base.specs.declared.cause.Cause.{Cause}
use Rattle.form_base.specs.declared.cause.Cause.TheVariants.{ExpandLimit}
use Rattle.form_term.specs.declared.monomial.Monomial.{Monomial}
use Rattle.form_normal.specs.Product.{product_of}
use Rattle.form_gathered.specs.Joined.{Share, IsShare, IsJoined, counted, share_members}
use Rattle.form_gathered.specs.declared.joined.JoinedTerm.{JoinedTerm}
use Rattle.form_expand.specs.Listing.{Listing, before_by, limited, followed_at, times_each, pairs, pairs_each}
use Rattle.form_expand.specs.Walks.{all_of}
use Rattle.form_joined.specs.Products.{HasList}

-- ---- limits

pub limited_within : (n : ℕ) (l : Listing) → length l.terms ≤ n → limited n l ≡ l
unfolding limited
limited_within n l h = rw (le-ltb n (length l.terms) h) refl

length_limited : (n : ℕ) (l : Listing) → length ((limited n l).terms) ≤ length l.terms
unfolding limited
length_limited n l = by (ltb n (length l.terms))
  where
    by : (b : Bool) → length ((if b then record { terms = take n l.terms; end = Some ExpandLimit } else l).terms) ≤ length l.terms
    by true = rw (length-take n l.terms) (omega arith)
    by false = omega arith

-- ---- pairs

length_before : (made : Result (Option Monomial) Cause) (l : Listing) (n : ℕ) → length l.terms ≤ n → length ((before_by made l).terms) ≤ suc n
length_before (Ok (Some m)) l n h = omega (arith, h)
length_before (Ok None) l n h = omega (arith, h)
length_before (Err cause) l n h = omega arith

length_times : (m : Monomial) (rs : List Monomial) (end : Option Cause) → length ((times_each m rs end).terms) ≤ length rs
unfolding times_each
length_times m [] end = omega arith
length_times m (r ∷ rs) end = length_before (product_of m r) (times_each m rs end) (length rs) (length_times m rs end)

length_followed : (ms : List Monomial) (end : Option Cause) (b : Listing) → length ((followed_at ms end b).terms) ≤ length ms + length b.terms
unfolding followed_at
length_followed ms None b = rw (length-append ms b.terms) (omega arith)
length_followed ms (Some cause) b = omega arith

length_each : (ms : List Monomial) (end : Option Cause) (l : Listing) → length ((pairs_each ms end l).terms) ≤ length ms * length l.terms
unfolding pairs_each
length_each [] end l = omega arith
length_each (m ∷ ms) end l =
    let first = length_times m l.terms l.end in
    let rest = length_each ms end l in
    let both = length_followed ((times_each m l.terms l.end).terms) ((times_each m l.terms l.end).end) (pairs_each ms end l) in
    omega (arith, first, rest, both, suc_times (length ms) (length l.terms))
  where
    suc_times : (a b : ℕ) → suc a * b ≡ b + a * b
    suc_times a b = omega arith

pub length_pairs : (a b : Listing) → length ((pairs a b).terms) ≤ length a.terms * length b.terms
length_pairs a b = length_each a.terms a.end b

pub length_of_row : (max most : ℕ) (a b : Listing) → length a.terms ≤ most → length ((limited max (pairs a b)).terms) ≤ most * length b.terms
length_of_row max most a b h =
    let short = length_limited max (pairs a b) in
    let long = length_pairs a b in
    omega (arith, short, long, mul-le-mul_right {m = length a.terms} {n = most} (length b.terms) h)

-- ---- what joined terms count

length_shares : (n k : ℕ) → k < n → (ss : List Share) → AllByRecursion (IsShare n) ss → length (flat_map (share_members k) ss) ≤ counted (map (λ s. s.joined) ss)
length_shares n k below [] all = omega arith
length_shares n k below (s ∷ ss) all =
    let first : length (share_members k s) ≤ s.joined.count = rw (length-map {B = Monomial} (s.parts k) (λ c. record { coefficient = c; term = s.joined.term })) (all.0.few k below) in
    let rest = length_shares n k below ss all.1 in
    rw (length-append (share_members k s) (flat_map (share_members k) ss), sum_by-cons (λ (j : JoinedTerm). j.count) s.joined (map (λ s. s.joined) ss)) (omega (arith, first, rest))

pub length_counted : (n k : ℕ) (js : List JoinedTerm) (lists : ℕ → List Monomial) → IsJoined n js lists → k < n → length (lists k) ≤ counted js
length_counted n k js lists h below =
    let same = length_permutation (flat_map (share_members k) h.shares) (lists k) (h.whole k below) in
    rw (same, sym h.joined) (length_shares n k below h.shares h.each)

pub joined_within : (max : ℕ) (js : List JoinedTerm) (list : List Monomial) → IsJoined 1 js (λ k. list) → counted js ≤ max → limited max (all_of list) ≡ all_of list
joined_within max js list h few =
    let long = length_counted 1 0 js (λ k. list) h (omega arith) in
    limited_within max (all_of list) (omega (arith, long, few))

pub list_within : (max : ℕ) (js : List JoinedTerm) (l : Listing) → HasList l js → counted js ≤ max → HasList (limited max l) js
list_within max js l h few =
    let long = length_counted 1 0 js (λ k. l.terms) h.1 (omega arith) in
    rw (limited_within max l (omega (arith, long, few))) h
