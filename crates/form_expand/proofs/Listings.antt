-- Equations of lists of terms.
use Rattle.std.proofs.Common.{◌≡◌, ℕ, zero, suc, ◌<◌, ◌≤◌, Bool, true, false, ltb, List, [], ◌∷◌, ◌++◌, length, take, refl, sym, ap, ◌∙◌, arith, append_assoc, append-nil, le-ltb, lt-ltb}
use Rattle.std.proofs.lemmas.Bool.{ltb-true, ltb-false}
use Rattle.std.proofs.Math.Seq.{take-length}
use Rattle.std.proofs.lemmas.List.{length-take, length-append, length-map, take-append-le}
use Rattle.std.specs.Prelude.{Option, Some, None}
use Rattle.form_base.specs.declared.cause.Cause.{Cause}
use Rattle.form_base.specs.declared.cause.Cause.TheVariants.{ExpandLimit}
use Rattle.form_term.specs.declared.monomial.Monomial.{Monomial}
use Rattle.form_term.specs.Monomial.{unit}
use Rattle.form_normal.specs.Product.{product_of}
use Rattle.form_expand.specs.Listing.{Listing, nothing, single, refusal, before, before_by, limited, followed_at, followed, times_each, times, pairs_each, pairs, powers, signed, with_sign}

-- Limits.

pub limited_within : (n : ℕ) (l : Listing) → length l.terms ≤ n → limited n l ≡ l
unfolding limited
limited_within n l h = rw (le-ltb n (length l.terms) h) refl

pub limited_beyond : (n : ℕ) (l : Listing) → n < length l.terms → limited n l ≡ record { terms = take n l.terms; end = Some ExpandLimit }
unfolding limited
limited_beyond n l h = rw (lt-ltb n (length l.terms) h) refl

pub limited_more : (n : ℕ) (m : Monomial) (l : Listing) → limited (suc n) (before m l) ≡ before m (limited n l)
limited_more n m l = step (ltb n (length l.terms)) refl
  where
    step : (b : Bool) → ltb n (length l.terms) ≡ b → limited (suc n) (before m l) ≡ before m (limited n l)
    step true e = let h = ltb-true n (length l.terms) e in rw (limited_beyond n l h, limited_beyond (suc n) (before m l) (omega arith)) refl
    step false e = let h = ltb-false n (length l.terms) e in rw (limited_within n l h, limited_within (suc n) (before m l) (omega arith)) refl

pub limited_none : (m : Monomial) (l : Listing) → limited 0 (before m l) ≡ refusal ExpandLimit
limited_none m l = limited_beyond 0 (before m l) (omega arith)

pub limited_refusal : (n : ℕ) (cause : Cause) → limited n (refusal cause) ≡ refusal cause
limited_refusal n cause = limited_within n (refusal cause) (omega arith)

pub limited_nothing : (n : ℕ) → limited n nothing ≡ nothing
limited_nothing n = limited_within n nothing (omega arith)

pub take_take : {X : Type 0} (n k : ℕ) (xs : List X) → n ≤ k → take n (take k xs) ≡ take n xs
take_take zero k xs h = refl
take_take (suc n) zero xs h = absurd (omega arith)
take_take (suc n) (suc k) [] h = refl
take_take (suc n) (suc k) (x ∷ xs) h = ap (λ ys. x ∷ ys) (take_take n k xs (omega arith))

pub limited_length : (n : ℕ) (l : Listing) → length ((limited n l).terms) ≤ n
limited_length n l = step (ltb n (length l.terms)) refl
  where
    step : (b : Bool) → ltb n (length l.terms) ≡ b → length ((limited n l).terms) ≤ n
    step true e = let h = ltb-true n (length l.terms) e in rw (limited_beyond n l h) (omega (arith, length-take n l.terms))
    step false e = let h = ltb-false n (length l.terms) e in rw (limited_within n l h) h

-- a wider limit within a limit
pub limited_limited : (n k : ℕ) (l : Listing) → n ≤ k → limited n (limited k l) ≡ limited n l
limited_limited n k l within = step (ltb k (length l.terms)) refl (ltb n k) refl
  where
    step : (b : Bool) → ltb k (length l.terms) ≡ b → (c : Bool) → ltb n k ≡ c → limited n (limited k l) ≡ limited n l
    step false e c d = let h = ltb-false k (length l.terms) e in rw (limited_within k l h) refl
    step true e true d =
        let h = ltb-true k (length l.terms) e in
        let less = ltb-true n k d in
        let cut : Listing = record { terms = take k l.terms; end = Some ExpandLimit } in
        rw (limited_beyond k l h, limited_beyond n cut (omega (arith, length-take k l.terms)), limited_beyond n l (omega arith), take_take n k l.terms (omega arith)) refl
    step true e false d =
        let h = ltb-true k (length l.terms) e in
        let same : n ≡ k = let more = ltb-false n k d in omega arith in
        rw same (limited_within k (limited k l) (limited_length k l))

-- A list and then another.

pub followed_at_before : (m : Monomial) (ms : List Monomial) (end : Option Cause) (b : Listing) → followed_at (m ∷ ms) end b ≡ before m (followed_at ms end b)
unfolding followed_at
followed_at_before m ms None b = refl
followed_at_before m ms (Some cause) b = refl

pub followed_before : (m : Monomial) (a b : Listing) → followed (before m a) b ≡ before m (followed a b)
followed_before m a b = followed_at_before m a.terms a.end b

pub followed_nothing : (b : Listing) → followed nothing b ≡ b
unfolding followed_at
followed_nothing b = refl

pub followed_refusal : (cause : Cause) (b : Listing) → followed (refusal cause) b ≡ refusal cause
unfolding followed_at
followed_refusal cause b = refl

pub followed_last : (a : Listing) → followed a nothing ≡ a
unfolding followed_at
followed_last a = step a.terms a.end
  where
    step : (ms : List Monomial) (end : Option Cause) → followed_at ms end nothing ≡ record { terms = ms; end = end }
    step ms None = ap (λ ns. record { terms = ns; end = None }) (append-nil ms)
    step ms (Some cause) = refl

pub followed_assoc : (a b c : Listing) → followed (followed a b) c ≡ followed a (followed b c)
unfolding followed_at
followed_assoc a b c = step a.terms a.end b.terms b.end
  where
    step : (ms : List Monomial) (first : Option Cause) (ns : List Monomial) (second : Option Cause)
        → followed (followed_at ms first (record { terms = ns; end = second })) c ≡ followed_at ms first (followed_at ns second c)
    step ms None ns None = ap (λ ts. record { terms = ts; end = c.end }) (append_assoc ms ns c.terms)
    step ms None ns (Some cause) = refl
    step ms (Some cause) ns second = refl

-- a list stands at the front of what follows it
followed_longer : (n : ℕ) (ms : List Monomial) (end : Option Cause) (b : Listing) → n ≤ length ms
    → (length ms ≤ length ((followed_at ms end b).terms)) × (take n ((followed_at ms end b).terms) ≡ take n ms)
unfolding followed_at
followed_longer n ms None b h = (omega (arith, length-append ms b.terms), take-append-le n ms b.terms h)
followed_longer n ms (Some cause) b h = (omega arith, refl)

-- the limit of what comes first is no tighter than that of the whole
pub limited_followed : (n k : ℕ) (a b : Listing) → n ≤ k → limited n (followed (limited k a) b) ≡ limited n (followed a b)
unfolding followed_at
limited_followed n k a b within = step (ltb k (length a.terms)) refl
  where
    refused : List Monomial → Listing
    refused ms = record { terms = ms; end = Some ExpandLimit }

    step : (c : Bool) → ltb k (length a.terms) ≡ c → limited n (followed (limited k a) b) ≡ limited n (followed a b)
    step false e = let h = ltb-false k (length a.terms) e in ap (λ (l : Listing). limited n (followed l b)) (limited_within k a h)
    step true e =
        let h = ltb-true k (length a.terms) e in
        let more = followed_longer n a.terms a.end b (omega arith) in
        let long : n < length ((followed a b).terms) = let m = more.0 in omega arith in
        ap (λ (l : Listing). limited n (followed l b)) (limited_beyond k a h)
        ∙ ap (limited n) (sym (limited_beyond k a h))
        ∙ limited_limited n k a within
        ∙ limited_beyond n a (omega arith)
        ∙ ap refused (sym more.1)
        ∙ sym (limited_beyond n (followed a b) long)

-- Products.

pub times_before : (m r : Monomial) (l : Listing) → times m (before r l) ≡ before_by (product_of m r) (times m l)
unfolding times_each
times_before m r l = refl

pub times_end : (m : Monomial) (end : Option Cause) → times m (record { terms = []; end = end }) ≡ record { terms = []; end = end }
unfolding times_each
times_end m end = refl

pub pairs_before : (m : Monomial) (a right : Listing) → pairs (before m a) right ≡ followed (times m right) (pairs a right)
unfolding pairs_each
pairs_before m a right = refl

pub pairs_nothing : (right : Listing) → pairs nothing right ≡ nothing
unfolding pairs_each
pairs_nothing right = refl

pub pairs_refusal : (cause : Cause) (right : Listing) → pairs (refusal cause) right ≡ refusal cause
unfolding pairs_each
pairs_refusal cause right = refl

-- a list that is limited is within its limit
pub limited_again : (n : ℕ) (l : Listing) → limited n (limited n l) ≡ limited n l
limited_again n l = limited_within n (limited n l) (limited_length n l)

pub limited_powers : (max : ℕ) (l : Listing) (k : ℕ) → limited max (powers max l k) ≡ powers max l k
unfolding powers
limited_powers max l zero = limited_again max (single unit)
limited_powers max l (suc zero) = limited_again max l
limited_powers max l (suc (suc k)) = limited_again max (pairs (powers max l (suc k)) l)

pub signed_length : (is_minus : Bool) (l : Listing) → length ((signed is_minus l).terms) ≡ length l.terms
signed_length is_minus l = length-map l.terms (with_sign is_minus)

-- Taking terms into a list that is done so far.

pub taken_on : (ms : List Monomial) (m : Monomial) (l : Listing) → followed (record { terms = ms; end = None }) (before m l) ≡ followed (record { terms = ms ++ m ∷ []; end = None }) l
unfolding followed_at
taken_on ms m l = ap (λ ns. record { terms = ns; end = l.end }) (sym (append_assoc ms (m ∷ []) l.terms))

take_whole : {X : Type 0} (n : ℕ) (xs : List X) → n ≡ length xs → take n xs ≡ xs
take_whole n xs e = rw e (take-length xs)

take_behind : {X : Type 0} (n k : ℕ) (xs ys : List X) → n ≤ k → take n (xs ++ take k ys) ≡ take n (xs ++ ys)
take_behind n k [] ys h = take_take n k ys h
take_behind zero k (x ∷ xs) ys h = refl
take_behind (suc n) k (x ∷ xs) ys h = ap (λ zs. x ∷ zs) (take_behind n k xs ys (omega arith))

-- the limit of what comes last is no tighter than that of the whole
pub limited_followed_last : (n k : ℕ) (a b : Listing) → n ≤ k → limited n (followed a (limited k b)) ≡ limited n (followed a b)
unfolding followed_at
limited_followed_last n k a b within = step a.terms a.end (ltb k (length b.terms)) refl
  where
    cut : List Monomial
    cut = take k b.terms

    refused : List Monomial → Listing
    refused ms = record { terms = ms; end = Some ExpandLimit }

    long : (ms : List Monomial) → k < length b.terms → (c : Bool) → ltb n (length (ms ++ cut)) ≡ c → limited n (refused (ms ++ cut)) ≡ limited n (record { terms = ms ++ b.terms; end = b.end })
    long ms h true d =
        let some = ltb-true n (length (ms ++ cut)) d in
        let more : n < length (ms ++ b.terms) = omega (arith, length-append ms b.terms) in
        limited_beyond n (refused (ms ++ cut)) some ∙ ap refused (take_behind n k ms b.terms within) ∙ sym (limited_beyond n (record { terms = ms ++ b.terms; end = b.end }) more)
    long ms h false d =
        let full = ltb-false n (length (ms ++ cut)) d in
        let more : n < length (ms ++ b.terms) = omega (arith, length-append ms b.terms) in
        let all : length (ms ++ cut) ≤ n = full in
        limited_within n (refused (ms ++ cut)) all
        ∙ ap refused (sym (take_whole n (ms ++ cut) (omega (arith, length-append ms cut, length-take k b.terms))) ∙ take_behind n k ms b.terms within)
        ∙ sym (limited_beyond n (record { terms = ms ++ b.terms; end = b.end }) more)

    step : (ms : List Monomial) (end : Option Cause) (c : Bool) → ltb k (length b.terms) ≡ c → limited n (followed_at ms end (limited k b)) ≡ limited n (followed_at ms end b)
    step ms (Some cause) c e = refl
    step ms None false e = let h = ltb-false k (length b.terms) e in ap (λ (l : Listing). limited n (followed_at ms None l)) (limited_within k b h)
    step ms None true e =
        let h = ltb-true k (length b.terms) e in
        ap (λ (l : Listing). limited n (followed_at ms None l)) (limited_beyond k b h) ∙ long ms h (ltb n (length (ms ++ cut))) refl
