-- Lists that are added, as they come, to what stands for lists: to a collector, or to joined terms.
use Rattle.std.proofs.Common.{◌≡◌, ◌+◌, ◌<◌, ℕ, List, [], ◌∷◌, ◌++◌, length, drop, get_or, Option, Some, None, Err, refl, sym, subst, ap, ◌∙◌, append_assoc, append-nil, arith}
use Rattle.std.specs.Vec.Iter.{into_iter_items, into_iter_len}
use Rattle.std.specs.declared.vec.IntoIter.{IntoIter}
use Rattle.std.proofs.lemmas.List.{drop_more, length-append, nil_from_length}
use Rattle.form_base.specs.declared.cause.Cause.{Cause}
use Rattle.form_term.specs.declared.monomial.Monomial.{Monomial}
use Rattle.form_expand.specs.Listing.{Listing, nothing, refusal, before, followed, followed_at, single}
use Rattle.form_expand.specs.Next as next
use Rattle.form_expand.specs.declared.error.ExpandError.{ExpandError}
use Rattle.form_expand.specs.declared.error.ExpandError.TheVariants as expands
use Rattle.form_module.specs.Answers.{Adds, IsEndedBy, of_expand}
use Rattle.form_module.specs.Batches.{IsBatch, behind}
use Rattle.form_module.specs.Module.{through, through_each}
use Rattle.form_module.specs.declared.inputs.Batch.{Batch}
use Rattle.form_module.specs.declared.inputs.BatchEnd.TheVariants as ends
use Rattle.form_module.specs.declared.result_error.ResultError.{ResultError}
use Rattle.form_module.specs.declared.result_error.ResultError.TheVariants as results

-- ---- lists in a row

pub followed_done : (one rest : Listing) → one.end ≡ None → followed one rest ≡ record { terms = one.terms ++ rest.terms; end = rest.end }
unfolding followed_at
followed_done one rest ends = ap (λ (e : Option Cause). followed_at one.terms e rest) ends

followed_refused : (one rest : Listing) (cause : Cause) → one.end ≡ Some cause → (followed one rest).end ≡ Some cause
unfolding followed_at
followed_refused one rest cause ends = ap (λ (e : Option Cause). (followed_at one.terms e rest).end) ends

-- what is done last of three lists in a row may be done first
followed_again : (a b c : Listing) → followed (followed a b) c ≡ followed a (followed b c)
unfolding followed_at
followed_again a b c = by a.end b.end
  where
    by : (e f : Option Cause) → followed (followed_at a.terms e (record { terms = b.terms; end = f })) c ≡ followed_at a.terms e (followed_at b.terms f c)
    by None None = ap (λ ms. record { terms = ms; end = c.end }) (append_assoc a.terms b.terms c.terms)
    by None (Some cause) = refl
    by (Some cause) f = refl

-- the list of these terms
abbrev pub all_of : List Monomial → Listing
all_of ms = record { terms = ms; end = None }

-- ---- what is made of terms

module _ (go : Monomial → Listing) where
  -- of a list that is done, and of one that is refused
  through_nothing : through go nothing ≡ nothing
  unfolding through_each
  through_nothing = refl

  through_refusal : (cause : Cause) → through go (refusal cause) ≡ refusal cause
  unfolding through_each
  through_refusal cause = refl

  -- of terms in front of a list
  through_behind : (ms : List Monomial) (l : Listing) → through go (behind ms l) ≡ followed (through go (all_of ms)) (through go l)
  unfolding through_each followed_at
  through_behind [] l = refl
  through_behind (m ∷ ms) l =
      ap (followed (go m)) (through_behind ms l) ∙ sym (followed_again (go m) (through go (all_of ms)) (through go l))

  -- of two parts
  pub through_parts : (ms front back : List Monomial) → front ++ back ≡ ms → through go (all_of ms) ≡ followed (through go (all_of front)) (through go (all_of back))
  through_parts ms front back is = ap (λ ns. through go (all_of ns)) (sym is) ∙ through_behind front (all_of back)

  -- of the next one of some
  pub through_next : (old new : List Monomial) (m : Monomial) → old ≡ m ∷ new → through go (all_of old) ≡ followed (go m) (through go (all_of new))
  unfolding through_each
  through_next old new m is = ap (λ ms. through go (all_of ms)) is

  pub through_at : (ms : List Monomial) (i : ℕ) (m : Monomial) → i < length ms → m ≡ get_or ms i m → through go (all_of (drop i ms)) ≡ followed (go m) (through go (all_of (drop (i + 1) ms)))
  through_at ms i m within at =
      through_next (drop i ms) (drop (i + 1) ms) m (drop_more ms i m within ∙ ap (λ (n : Monomial). n ∷ drop (i + 1) ms) (sym at))

  -- and of none
  pub through_none : (left : List Monomial) → left ≡ [] → through go (all_of left) ≡ nothing
  through_none left none = ap (λ ms. through go (all_of ms)) none ∙ through_nothing

-- what an iterator has left
pub nothing_left : {X Z : Type 0} (it : IntoIter X Z) → into_iter_len it ≡ 0 → into_iter_items it ≡ []
nothing_left it e = nil_from_length it.rest.items (omega arith)

-- ---- what is added

module _ {S : Type 0} (StandsFor : S → List Monomial → Type 0) where
  -- So far, this was added, and this is left of the list.
  pub record IsTaken (start left : Listing) (first now : S) : Type 0 where
    pub taken : List Monomial
    pub adds : (list : List Monomial) → StandsFor first list → StandsFor now (list ++ taken)
    pub whole : start ≡ record { terms = taken ++ left.terms; end = left.end }

  module _ (start : Listing) (first : S) where
    pub taken_none : IsTaken start start first first
    taken_none = record {
      taken = [];
      adds = λ list is. subst (StandsFor first) (sym (append-nil list)) is;
      whole = refl;
    }

    module _ (old : Listing) (now : S) (t : IsTaken start old first now) where
      -- a list more
      pub taken_list : (one new : Listing) (more : S) → old ≡ followed one new → Adds StandsFor one now more → IsTaken start new first more
      taken_list one new more gives added = record {
        taken = t.taken ++ one.terms;
        adds = λ list is. subst (StandsFor more) (append_assoc list t.taken one.terms) (added.1 (list ++ t.taken) (t.adds list is));
        whole = t.whole ∙ ap (λ (l : Listing). record { terms = t.taken ++ l.terms; end = l.end }) (gives ∙ followed_done one new added.0)
            ∙ ap (λ (ms : List Monomial). record { terms = ms; end = new.end }) (sym (append_assoc t.taken one.terms new.terms));
      }

      -- a term more
      pub taken_term : (new : Listing) (more : S) (m : Monomial) → old ≡ before m new → ((list : List Monomial) → StandsFor now list → StandsFor more (list ++ m ∷ [])) → IsTaken start new first more
      unfolding followed_at
      taken_term new more m gives adds = taken_list (single m) new more gives (refl, adds)

      -- all of it
      pub all_taken : old ≡ nothing → Adds StandsFor start first now
      all_taken none =
          let whole = t.whole ∙ ap (λ (l : Listing). record { terms = t.taken ++ l.terms; end = l.end }) none ∙ ap (λ (ms : List Monomial). record { terms = ms; end = None }) (append-nil t.taken) in (
            ap (λ (l : Listing). l.end) whole,
            λ list is. subst (λ ms. StandsFor now (list ++ ms)) (sym (ap (λ (l : Listing). l.terms) whole)) (t.adds list is),
          )

      -- a list that isn't added
      pub list_refused : (one new : Listing) (e : ResultError) → old ≡ followed one new → IsEndedBy e one → IsEndedBy e start
      list_refused one new (results.Refused cause) gives ends = ap (λ (l : Listing). l.end) (t.whole) ∙ ap (λ (l : Listing). l.end) gives ∙ followed_refused one new cause ends
      list_refused one new results.Memory gives ends = tt

      -- what is left is refused
      pub left_refused : (new : Listing) (e : ExpandError) → next.Gives (Err e) old new → IsEndedBy (of_expand e) start
      left_refused new (expands.Refused cause) stops = ap (λ (l : Listing). l.end) t.whole ∙ ap (λ (l : Listing). l.end) stops
      left_refused new expands.Memory stops = tt

  -- ---- a batch of inputs

  module _ (go : Monomial → Listing) (start old new : Listing) (b : Batch) (first now more : S) (t : IsTaken start (through go old) first now) (is : IsBatch b old new) where
    batch_first : through go old ≡ followed (through go (all_of b.items.items)) (through go is.left)
    batch_first = ap (through go) is.whole ∙ through_behind go b.items.items is.left

    batch_taken : Adds StandsFor (through go (all_of b.items.items)) now more → IsTaken start (through go is.left) first more
    batch_taken added = taken_list start first (through go old) now t (through go (all_of b.items.items)) (through go is.left) more batch_first added

    pub batch_more : b.end ≡ ends.More → Adds StandsFor (through go (all_of b.items.items)) now more → IsTaken start (through go new) first more
    batch_more e added = subst (λ (l : Listing). IsTaken start (through go l) first more) (rw e at is.ends) (batch_taken added)

    pub batch_done : b.end ≡ ends.Done → Adds StandsFor (through go (all_of b.items.items)) now more → Adds StandsFor start first more
    batch_done e added = all_taken start first (through go is.left) more (batch_taken added) (ap (through go) (rw e at is.ends).0 ∙ through_nothing go)

    pub batch_failed : (error : ExpandError) → b.end ≡ ends.Failed error → Adds StandsFor (through go (all_of b.items.items)) now more → IsEndedBy (of_expand error) start
    batch_failed error e added = stopped error (rw e at is.ends)
      where
        stopped : (error : ExpandError) → next.Gives (Err error) is.left new → IsEndedBy (of_expand error) start
        stopped (expands.Refused cause) stops = left_refused start first (through go is.left) more (batch_taken added) nothing (expands.Refused cause) (ap (through go) stops ∙ through_refusal go cause)
        stopped expands.Memory stops = tt

    pub batch_refused : (e : ResultError) → IsEndedBy e (through go (all_of b.items.items)) → IsEndedBy e start
    batch_refused e ends = list_refused start first (through go old) now t (through go (all_of b.items.items)) (through go is.left) e batch_first ends

-- a list without its first term is shorter
pub fewer : (old new : Listing) (m : Monomial) → old ≡ before m new → length new.terms < length old.terms
fewer old new m gives = let e : length old.terms ≡ length (m ∷ new.terms) = ap (λ (l : Listing). length l.terms) gives in omega (arith, e)

-- where there may be more than a batch, fewer are left
pub batch_fewer : (old new : Listing) (b : Batch) → IsBatch b old new → b.end ≡ ends.More → length new.terms < length old.terms
batch_fewer old new b is e =
    let some : 0 < length b.items.items = rw e at is.some in
    let left : is.left ≡ new = rw e at is.ends in
    let whole : length old.terms ≡ length b.items.items + length new.terms =
    ap (λ (l : Listing). length l.terms) is.whole ∙ length-append b.items.items is.left.terms ∙ ap (λ (l : Listing). length b.items.items + length l.terms) left in
    omega (arith, some, whole)

-- inputs that were read, one more, and how many they are
pub read_more : (start old new : Listing) (items now : List Monomial) (m : Monomial) → start ≡ behind items old → old ≡ before m new → now ≡ items ++ m ∷ [] → start ≡ behind now new
read_more start old new items now m so_far gives put =
    so_far ∙ ap (behind items) gives ∙ ap (λ ms. record { terms = ms; end = new.end }) (sym (append_assoc items (m ∷ []) new.terms) ∙ ap (λ ns. ns ++ new.terms) (sym put))

pub one_longer : (items now : List Monomial) (m : Monomial) (n : ℕ) → length items ≡ n → now ≡ items ++ m ∷ [] → length now ≡ n + 1
one_longer items now m n many put = ap length put ∙ length-append items (m ∷ []) ∙ ap (λ k. k + 1) many
