-- Outputs that are collected, those of one term after the other.
use Rattle.std.proofs.Common.{◌≡◌, ℕ, ◌+◌, ◌<◌, ◌≤◌, ◌||◌, Bool, false, List, [], ◌∷◌, ◌++◌, length, map, Result, Ok, Err, refl, sym, ap, ◌∙◌, subst, arith, append_assoc, append-nil, length-append}
use Rattle.std.specs.Global.{Vec}
use Rattle.form_base.specs.declared.cause.Cause.{Cause}
use Rattle.form_base.specs.declared.cause.Cause.TheVariants.{ExpandLimit}
use Rattle.form_collect.specs.Collector.{IsCollectionOf}
use Rattle.form_collect.specs.declared.collector.Collector.{Collector}
use Rattle.form_expand.proofs.Called.{refused_argument}
use Rattle.form_expand.proofs.Listings.{followed_assoc, followed_before, followed_last, followed_refusal, limited_beyond, limited_within, taken_on}
use Rattle.form_expand.specs.Calls.{AreCollected}
use Rattle.form_expand.specs.declared.error.ExpandError.{ExpandError}
use Rattle.form_expand.specs.declared.error.ExpandError.TheVariants.{Refused, Memory}
use Rattle.form_expand.specs.Listing as listing
use Rattle.form_expand.specs.Listing.{Listing, before, followed, followed_at, limited}
use Rattle.form_expand.specs.Singles.{argument_of}
use Rattle.form_expand.specs.Walks.{all_of}
use Rattle.form_term.specs.declared.monomial.Monomial.{Monomial}
use Rattle.form_flow.specs.declared.descent.Descent.{Descent}
use Rattle.form_flow.specs.Left.{Gives}
use Rattle.form_flow.specs.Made.{Collects}
use Rattle.form_flow.specs.Outcome.{Ended, Outcome, Output, and_then, cause_of, done, gone, has_acted, listing_of, or_acted, output, refusal, refused, silent, then_at, unchanged, without_marks}
use Rattle.form_flow.specs.Within.{Adds, AreBehind, Holds}
use Rattle.form_flow.proofs.Binding.{or_assoc, or_false, or_or}

-- ---- outcomes as lists

cause_behind : (acted : Bool) (e : Ended) → cause_of (or_acted acted e) ≡ cause_of e
cause_behind acted (done also) = refl
cause_behind acted (refused cause) = refl

nothing_acted : (e : Ended) → or_acted false e ≡ e
nothing_acted (done also) = refl
nothing_acted (refused cause) = refl

items_both : (os ps : List Output) → map (λ (x : Output). x.item) (os ++ ps) ≡ map (λ (x : Output). x.item) os ++ map (λ (x : Output). x.item) ps
items_both [] ps = refl
items_both (o ∷ os) ps = ap (λ (ms : List Monomial). o.item ∷ ms) (items_both os ps)

pub listing_then : (a b : Outcome) → listing_of (and_then a b) ≡ followed (listing_of a) (listing_of b)
unfolding then_at followed_at
listing_then a b = by a.end
  where
    by : (e : Ended) → listing_of (then_at a.outputs e b) ≡ followed_at (map (λ (x : Output). x.item) a.outputs) (cause_of e) (listing_of b)
    by (done acted) = let terms = items_both a.outputs b.outputs in let end = cause_behind acted b.end in λ i. record { terms = terms i; end = end i }
    by (refused cause) = refl

pub listing_unmarked : (o : Outcome) → listing_of (without_marks o) ≡ listing_of o
listing_unmarked o = let terms = by o.outputs in λ i. record { terms = terms i; end = cause_of o.end }
  where
    by : (os : List Output) → map (λ (x : Output). x.item) (map (λ (x : Output). output false x.item) os) ≡ map (λ (x : Output). x.item) os
    by [] = refl
    by (x ∷ xs) = ap (λ (ms : List Monomial). x.item ∷ ms) (by xs)

-- one output, and what comes behind it
pub listing_output : (old new : Outcome) (m : Monomial) → old ≡ and_then (unchanged m) new → listing_of old ≡ before m (listing_of new)
unfolding then_at
listing_output old new m e = let end = cause_behind false new.end in ap listing_of e ∙ (λ i. record { terms = m ∷ map (λ (x : Output). x.item) new.outputs; end = end i })

pub end_output : (old new : Outcome) (m : Monomial) → old ≡ and_then (unchanged m) new → old.end ≡ new.end
unfolding then_at
end_output old new m e = ap (λ (o : Outcome). o.end) e ∙ nothing_acted new.end

-- ---- lists in a row

both_lists : (xs ys : List Monomial) (l : Listing) → followed (all_of xs) (followed (all_of ys) l) ≡ followed (all_of (xs ++ ys)) l
unfolding followed_at
both_lists xs ys l = sym (followed_assoc (all_of xs) (all_of ys) l)

regrouped : (list front : List Monomial) (l now rest : Listing) → l ≡ followed (all_of front) now → followed (all_of list) (followed l rest) ≡ followed (all_of (list ++ front)) (followed now rest)
regrouped list front l now rest e =
    ap (λ (x : Listing). followed (all_of list) (followed x rest)) e ∙ ap (followed (all_of list)) (followed_assoc (all_of front) now rest) ∙ both_lists list front (followed now rest)

length_before : (xs : List Monomial) (l : Listing) → length ((followed (all_of xs) l).terms) ≡ length xs + length l.terms
unfolding followed_at
length_before xs l = length-append xs l.terms

-- a refusal within the limit
pub refused_within : (max : ℕ) (xs : List Monomial) (l : Listing) (cause : Cause) → length xs ≤ max → l ≡ listing.refusal cause → argument_of (limited max (followed (all_of xs) l)) ≡ Err cause
refused_within max xs l cause within e =
    let all = followed (all_of xs) l in
    let count : length all.terms ≤ max = omega (arith, within, length_before xs l, ap (λ (x : Listing). length x.terms) e) in
    ap argument_of (limited_within max all count) ∙ refused_argument xs all l cause refl e

-- one term more than there may be
pub one_too_many : (max : ℕ) (xs : List Monomial) (m : Monomial) (l rest : Listing) → max ≤ length xs → l ≡ before m rest → argument_of (limited max (followed (all_of xs) l)) ≡ Err ExpandLimit
unfolding argument_of
one_too_many max xs m l rest full e =
    let all = followed (all_of xs) l in
    let count : max < length all.terms = omega (arith, full, length_before xs l, ap (λ (x : Listing). length x.terms) e) in
    ap argument_of (limited_beyond max all count)

-- ---- the outputs of a term

-- These were added of those that were there at the start, and now these are left.
pub record Drained (max : ℕ) (old : Collector) (given : ℕ) (start : Outcome) (new : Collector) (count : ℕ) (now : Outcome) : Type 0 where
  pub front : List Monomial
  pub whole : listing_of start ≡ followed (all_of front) (listing_of now)
  pub end : start.end ≡ now.end
  pub held : (list : List Monomial) → Holds max old given list → Holds max new count (list ++ front)

pub none_drained : (max : ℕ) (c : Collector) (n : ℕ) (start : Outcome) → Drained max c n start c n start
unfolding followed_at
none_drained max c n start = record {
  front = [];
  whole = refl;
  end = refl;
  held = λ list h. subst (Holds max c n) (sym (append-nil list)) h;
}

module _ (max : ℕ) (old : Collector) (given : ℕ) (start : Outcome) (c : Collector) (count : ℕ) (now : Outcome) (h : Drained max old given start c count now) where
  pub one_drained : (d : Collector) (m : Monomial) (next : Outcome) → now ≡ and_then (unchanged m) next → count < max → ((list : List Monomial) → IsCollectionOf c list → IsCollectionOf d (list ++ m ∷ []))
      → Drained max old given start d (count + 1) next
  one_drained d m next e room add = record {
    front = h.front ++ m ∷ [];
    whole = h.whole ∙ ap (followed (all_of h.front)) (listing_output now next m e) ∙ taken_on h.front m (listing_of next);
    end = h.end ∙ end_output now next m e;
    held = λ list held.
        let there = h.held list held in
        let size = length-append list (h.front ++ m ∷ []) in
        let more = length-append h.front (m ∷ []) in
        let less = length-append list h.front in
        record {
          stands = subst (IsCollectionOf d) (append_assoc list h.front (m ∷ [])) (add (list ++ h.front) there.stands);
          count = omega (arith, there.count, size, more, less);
          within = omega (arith, there.count, size, more, less, room);
        };
  }

  pub all_drained : (acted : Bool) → now ≡ silent acted → Adds max old given (Ok count) c start
  all_drained acted none = λ list held. subst (λ (ms : List Monomial). Holds max c count (list ++ ms)) (sym terms) (h.held list held)
    where
      terms : (listing_of start).terms ≡ h.front
      terms = ap (λ (l : Listing). l.terms) (h.whole ∙ ap (λ (o : Outcome). followed (all_of h.front) (listing_of o)) none ∙ followed_last (all_of h.front))

  pub end_drained : (acted : Bool) → now ≡ silent acted → start.end ≡ done acted
  end_drained acted none = h.end ∙ ap (λ (o : Outcome). o.end) none

  pub refused_drained : (cause : Cause) → now ≡ refusal cause → Adds max old given (Err (Refused cause)) c start
  refused_drained cause is = λ list held rest.
      ap (λ (l : Listing). argument_of (limited max l)) (regrouped list h.front (listing_of start) (listing_of now) rest h.whole)
      ∙ refused_within max (list ++ h.front) (followed (listing_of now) rest) cause (h.held list held).within (ap (λ (o : Outcome). followed (listing_of o) rest) is ∙ followed_refusal cause rest)

  pub limit_drained : (m : Monomial) (next : Outcome) → now ≡ and_then (unchanged m) next → max ≤ count → Adds max old given (Err (Refused ExpandLimit)) c start
  limit_drained m next is full = λ list held rest.
      ap (λ (l : Listing). argument_of (limited max l)) (regrouped list h.front (listing_of start) (listing_of now) rest h.whole)
      ∙ one_too_many max (list ++ h.front) m (followed (listing_of now) rest) (followed (listing_of next) rest) (omega (arith, full, (h.held list held).count))
      (ap (λ (l : Listing). followed l rest) (listing_output now next m is) ∙ followed_before m (listing_of next) rest)

  -- where no output came
  pub error_drained : (e : ExpandError) (d : Descent) → Gives (Err e) now d → Adds max old given (Err e) c start
  error_drained (Refused cause) d given = refused_drained cause given
  error_drained Memory d given = tt

-- outputs of the same list
pub adds_same : (max given : ℕ) (old new : Collector) (r : Result ℕ ExpandError) (o p : Outcome) → listing_of o ≡ listing_of p → Adds max old given r new o → Adds max old given r new p
adds_same max given old new (Ok n) o p e h = λ list held. subst (λ (l : Listing). Holds max new n (list ++ l.terms)) e (h list held)
adds_same max given old new (Err (Refused cause)) o p e h = λ list held rest. subst (λ (l : Listing). argument_of (limited max (followed (all_of list) (followed l rest))) ≡ Err cause) e (h list held rest)
adds_same max given old new (Err Memory) o p e h = tt

pub is_done : (e : Ended) (acted : Bool) → e ≡ done acted → e ≡ done (has_acted e)
is_done e acted h = h ∙ ap done (sym (ap has_acted h))

-- ---- one term after the other

-- Of the whole these terms were added, and this is left; something acted before, or in what was added.
pub record Passed (max : ℕ) (earlier : Bool) (c : Collector) (count : ℕ) (now : Bool) (whole left : Outcome) : Type 0 where
  pub list : List Monomial
  pub holds : Holds max c count list
  pub all : listing_of whole ≡ followed (all_of list) (listing_of left)
  pub acted : Bool
  pub end : whole.end ≡ or_acted acted left.end
  pub now_acted : now ≡ (earlier || acted)

pub none_passed : (max : ℕ) (earlier : Bool) (c : Collector) (whole : Outcome) → IsCollectionOf c [] → Passed max earlier c 0 earlier whole whole
unfolding followed_at
none_passed max earlier c whole h = record {
  list = [];
  holds = record { stands = h; count = refl; within = omega arith };
  all = refl;
  acted = false;
  end = sym (nothing_acted whole.end);
  now_acted = sym (or_false earlier);
}

module _ (max : ℕ) (earlier : Bool) (c : Collector) (count : ℕ) (now : Bool) (whole left : Outcome) (h : Passed max earlier c count now whole left) where
  module _ (o next : Outcome) (is : left ≡ and_then o next) where
    here : listing_of whole ≡ followed (all_of h.list) (followed (listing_of o) (listing_of next))
    here = h.all ∙ ap (followed (all_of h.list)) (ap listing_of is ∙ listing_then o next)

    pub one_passed : (d : Collector) (more : ℕ) (new : Bool) → Adds max c count (Ok more) d o → o.end ≡ done (has_acted o.end) → new ≡ (now || has_acted o.end) → Passed max earlier d more new whole next
    unfolding then_at
    one_passed d more new adds ended acted = record {
      list = h.list ++ (listing_of o).terms;
      holds = adds h.list h.holds;
      all =
          let ends = ap cause_of ended in
          let is : listing_of o ≡ all_of (listing_of o).terms = λ i. record { terms = (listing_of o).terms; end = ends i } in
          here ∙ ap (λ (l : Listing). followed (all_of h.list) (followed l (listing_of next))) is ∙ both_lists h.list (listing_of o).terms (listing_of next);
      acted = h.acted || has_acted o.end;
      end = h.end ∙ ap (λ (x : Outcome). or_acted h.acted x.end) is ∙ ap (λ (e : Ended). or_acted h.acted (then_at o.outputs e next).end) ended ∙ or_or h.acted (has_acted o.end) next.end;
      now_acted = acted ∙ ap (λ (b : Bool). b || has_acted o.end) h.now_acted ∙ or_assoc earlier h.acted (has_acted o.end);
    }

    pub term_refused : (d : Collector) (new : Bool) (e : ExpandError) → Adds max c count (Err e) d o → AreBehind max earlier (Err e) new whole
    term_refused d new (Refused cause) adds = ap (λ (l : Listing). argument_of (limited max l)) here ∙ adds h.list h.holds (listing_of next)
    term_refused d new Memory adds = tt

  pub all_passed : (r : Result (Vec Monomial) ExpandError) → left ≡ gone → ((list : List Monomial) → IsCollectionOf c list → Collects r (all_of list)) → AreBehind max earlier r now whole
  all_passed r none given = by r (given h.list h.holds.stands)
    where
      within : limited max (listing_of whole) ≡ all_of h.list
      within =
          let is : listing_of whole ≡ all_of h.list = h.all ∙ ap (λ (o : Outcome). followed (all_of h.list) (listing_of o)) none ∙ followed_last (all_of h.list) in
          ap (limited max) is ∙ limited_within max (all_of h.list) h.holds.within

      ended : has_acted whole.end ≡ h.acted
      ended = ap has_acted (h.end ∙ ap (λ (o : Outcome). or_acted h.acted o.end) none) ∙ or_false h.acted

      by : (r : Result (Vec Monomial) ExpandError) → Collects r (all_of h.list) → AreBehind max earlier r now whole
      by (Ok terms) collected = (subst (AreCollected terms.items) (sym within) collected, h.now_acted ∙ ap (λ (b : Bool). earlier || b) (sym ended))
      by (Err (Refused cause)) stops = ap argument_of within ∙ stops
      by (Err Memory) stops = tt
