-- What taking a term does to a level.
use Rattle.std.proofs.Common.{◌≡◌, ℕ, suc, ◌+◌, ◌-◌, ◌<◌, ◌≤◌, [], length, refl, sym, ap, ◌∙◌, arith}
use Rattle.std.specs.Prelude.{Option, Some, None, Result, Ok, Err, OnOk}
use Rattle.std.proofs.lemmas.List.{length-drop}
use Rattle.form_base.specs.declared.cause.Cause.{Cause}
use Rattle.form_base.specs.declared.cause.Cause.TheVariants.{ExpandLimit}
use Rattle.form_term.specs.declared.monomial.Monomial.{Monomial}
use Rattle.form_expand.specs.declared.error.ExpandError.{ExpandError}
use Rattle.form_expand.specs.declared.error.ExpandError.TheVariants.{Refused, Memory}
use Rattle.form_expand.specs.Listing.{Listing, nothing, refusal, before, before_by, limited}
use Rattle.form_expand.specs.Left.{Level, left_at, left_past, product_by, times_by}
use Rattle.form_expand.specs.Kept.{ended_by, rest_at}
use Rattle.form_expand.specs.Moving.{Lessens}
use Rattle.form_expand.specs.Next.{Gives, Takes, IsMade}
use Rattle.form_expand.proofs.Listings.{times_end, limited_more, limited_none, limited_within}
use Rattle.form_expand.proofs.Levels.{taken_at, over_at, refused_at, done_at, times_by_before}

-- the list at its end
abbrev pub at_end : Option Cause → Listing
at_end end = record { terms = []; end = end }

-- what is left of a pairing, by what is left of its right list

pub times_by_made : (left : Option Monomial) (t m : Monomial) (rest more : Listing) → rest ≡ before t more → product_by left t ≡ Ok (Some m) → times_by left rest ≡ before m (times_by left more)
times_by_made left t m rest more first made = ap (times_by left) first ∙ times_by_before left t more ∙ ap (λ r. before_by r (times_by left more)) made

-- a product that is 0 gives no term
pub times_by_zero : (left : Option Monomial) (t : Monomial) (rest more : Listing) → rest ≡ before t more → product_by left t ≡ Ok None → times_by left rest ≡ times_by left more
times_by_zero left t rest more first made = ap (times_by left) first ∙ times_by_before left t more ∙ ap (λ r. before_by r (times_by left more)) made

pub times_by_refused : (left : Option Monomial) (t : Monomial) (cause : Cause) (rest more : Listing) → rest ≡ before t more → product_by left t ≡ Err cause → times_by left rest ≡ refusal cause
times_by_refused left t cause rest more first made = ap (times_by left) first ∙ times_by_before left t more ∙ ap (λ r. before_by r (times_by left more)) made

pub times_by_end : (left : Option Monomial) (end : Option Cause) → times_by left (at_end end) ≡ at_end end
times_by_end None end = refl
times_by_end (Some m) end = times_end m end

-- the product with the last term of a list
pub gives_last : (left : Option Monomial) (t : Monomial) (made : Option Monomial) (rest new : Listing) → rest ≡ before t nothing → product_by left t ≡ Ok made → new ≡ nothing → Gives (Ok made) (times_by left rest) new
gives_last left t None rest new first made none = (times_by_zero left t rest nothing first made ∙ times_by_end left None, none)
gives_last left t (Some m) rest new first made none = times_by_made left t m rest nothing first made ∙ ap (before m) (times_by_end left None ∙ sym none)

-- a level, by what is left of its pairing

module _ (max : ℕ) (old : Level) where
  pub takes_one : (m : Monomial) (rest : Listing) → old.count < max → old.opened ≡ before m rest → Takes max (Ok (Some m)) old (record { count = old.count + 1; list = old.list; opened = rest })
  takes_one m rest h e = λ x. ap (λ o. left_at max (record { count = old.count; list = old.list; opened = o }) x) e ∙ taken_at max old.count old.list m rest x h

  -- the same to a level by its parts
  pub takes_one_to : (m : Monomial) (new : Level) → old.count < max → old.opened ≡ before m new.opened → new.count ≡ old.count + 1 → new.list ≡ old.list → Takes max (Ok (Some m)) old new
  takes_one_to m new h e count list =
      λ x. takes_one m new.opened h e x
      ∙ ap (λ n. before m (left_at max (record { count = n; list = old.list; opened = new.opened }) x)) (sym count)
      ∙ ap (λ l. before m (left_at max (record { count = new.count; list = l; opened = new.opened }) x)) (sym list)

  pub takes_over : (m : Monomial) (rest : Listing) (new : Level) → max ≤ old.count → old.opened ≡ before m rest → Takes max (Err (Refused ExpandLimit)) old new
  takes_over m rest new h e = λ x. ap (λ o. left_at max (record { count = old.count; list = old.list; opened = o }) x) e ∙ over_at max old.count old.list m rest x h

  pub takes_refused : (cause : Cause) (new : Level) → old.opened ≡ refusal cause → Takes max (Err (Refused cause)) old new
  takes_refused cause new e = λ x. ap (λ o. left_at max (record { count = old.count; list = old.list; opened = o }) x) e ∙ refused_at max old.count old.list cause x

  pub takes_none : (new : Level) → old.opened ≡ nothing → new.count ≡ old.count → new.list ≡ old.list → Takes max (Ok None) old new
  takes_none new e count list =
      λ x. ap (λ o. left_at max (record { count = old.count; list = old.list; opened = o }) x) e ∙ done_at max old.count old.list x
      ∙ ap (λ n. left_past max (record { count = n; list = old.list }) x) (sym count) ∙ ap (λ l. left_past max (record { count = new.count; list = l }) x) (sym list)

-- A list that is taken alone.

module _ (max count : ℕ) where
  pub limited_first : (t : Monomial) (rest more : Listing) → rest ≡ before t more → count < max → limited (max - count) rest ≡ before t (limited (max - (count + 1)) more)
  limited_first t rest more first h =
      let e : max - count ≡ suc (max - (count + 1)) = omega arith in
      rw e (ap (limited (suc (max - (count + 1)))) first ∙ limited_more (max - (count + 1)) t more)

  pub limited_over : (t : Monomial) (rest more : Listing) → rest ≡ before t more → max ≤ count → limited (max - count) rest ≡ refusal ExpandLimit
  limited_over t rest more first h =
      let e : max - count ≡ 0 = omega arith in
      rw e (ap (limited 0) first ∙ limited_none t more)

  pub limited_end : (end : Option Cause) (rest : Listing) → rest ≡ at_end end → limited (max - count) rest ≡ at_end end
  limited_end end rest e = ap (limited (max - count)) e ∙ limited_within (max - count) (at_end end) (omega arith)

-- behind the last term
pub gives_end : (end : Option Cause) (old new : Listing) → old ≡ at_end end → (end ≡ None → new ≡ at_end None) → Gives (ended_by end) old new
gives_end None old new e same = (e, same refl)
gives_end (Some cause) old new e same = e

-- where a product wasn't made
pub gives_unmade : (left : Option Monomial) (t : Monomial) (rest more : Listing) (e : ExpandError) (new : Listing) → rest ≡ before t more → IsMade (Err e) (product_by left t) → Gives (Err e) (times_by left rest) new
gives_unmade left t rest more (Refused cause) new first made = times_by_refused left t cause rest more first made
gives_unmade left t rest more Memory new first made = tt

-- where the next term of the right list wasn't given
pub gives_times_err : (left : Option Monomial) (e : ExpandError) (old new then : Listing) → Gives (Err e) old new → Gives (Err e) (times_by left old) then
gives_times_err left (Refused cause) old new then h = ap (times_by left) h ∙ times_by_end left (Some cause)
gives_times_err left Memory old new then h = tt

-- where the next term of a level's pairing wasn't given
pub takes_ungiven : (max : ℕ) (old new : Level) (e : ExpandError) (then : Listing) → Gives (Err e) old.opened then → Takes max (Err e) old new
takes_ungiven max old new (Refused cause) then h = takes_refused max old cause new h
takes_ungiven max old new Memory then h = tt

-- a term that was given is gone
pub lessens_given : (r : Result (Option Monomial) ExpandError) (old new : Listing) → Gives r old new → Lessens r old new
lessens_given (Ok (Some m)) old new gave = omega (arith, ap (λ (l : Listing). length l.terms) gave)
lessens_given (Ok None) old new gave = tt
lessens_given (Err e) old new gave = tt

-- a list that has all its terms
all_rest : (n place : ℕ) (l : Listing) → n ≡ length l.terms → limited (n - place) (rest_at place l) ≡ rest_at place l
all_rest n place l all = limited_within (n - place) (rest_at place l) (omega (arith, all, length-drop place l.terms))

pub all_given : (r : Result (Option Monomial) ExpandError) (left then : Option Monomial) (place next n : ℕ) (old new : Listing) → n ≡ length old.terms → OnOk r (new ≡ old)
    → Gives r (times_by left (limited (n - place) (rest_at place old))) (times_by then (limited (n - next) (rest_at next new))) → Gives r (times_by left (rest_at place old)) (times_by then (rest_at next new))
all_given (Ok (Some m)) left then place next n old new all same gave =
    ap (times_by left) (sym (all_rest n place old all)) ∙ gave
    ∙ ap (λ l. before m (times_by then l)) (all_rest n next new (all ∙ ap (λ (l : Listing). length l.terms) (sym same)))
all_given (Ok None) left then place next n old new all same gave = (
  ap (times_by left) (sym (all_rest n place old all)) ∙ gave.0,
  ap (times_by then) (sym (all_rest n next new (all ∙ ap (λ (l : Listing). length l.terms) (sym same)))) ∙ gave.1,
)
all_given (Err (Refused cause)) left then place next n old new all same gave = ap (times_by left) (sym (all_rest n place old all)) ∙ gave
all_given (Err Memory) left then place next n old new all same gave = tt
