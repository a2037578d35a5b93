-- What a collector that took a list comes to.
use Rattle.std.proofs.Common.{◌≡◌, List, [], ◌∷◌, Option, None, Result, refl, sym, subst, ap, ◌∙◌}
use Rattle.form_base.specs.declared.cause.Cause.{Cause}
use Rattle.form_term.specs.declared.monomial.Monomial.{Monomial}
use Rattle.form_collect.specs.Collecting.{collected}
use Rattle.form_collect.specs.declared.collector.CollectError.{CollectError}
use Rattle.form_collect.specs.declared.collector.CollectError.TheVariants as collects
use Rattle.form_collect.specs.declared.collector.Collector.{Collector}
use Rattle.form_expand.specs.Listing.{Listing, followed, followed_at, single}
use Rattle.form_module.specs.Answers.{IsAdded, IsEndedBy, IsRefused, of_collect}
use Rattle.form_module.specs.Module.{collected_list, or_overflow, through, through_each, unless_ended}
use Rattle.form_module.specs.declared.result_error.ResultError.{ResultError}
use Rattle.form_module.specs.declared.result_error.ResultError.TheVariants as results

-- a list that is refused, and one that isn't
pub not_collected : (l : Listing) (e : ResultError) → IsEndedBy e l → IsRefused e (collected_list l)
not_collected l (results.Refused cause) ends = ap (λ (e : Option Cause). unless_ended e l.terms) ends
not_collected l results.Memory ends = tt

pub to_the_end : (l : Listing) (all : Option (List Monomial)) → l.end ≡ None → collected l.terms ≡ all → collected_list l ≡ or_overflow all
to_the_end l all done is = ap (λ (e : Option Cause). unless_ended e l.terms) done ∙ ap or_overflow is

-- one whose terms aren't collected
pub uncollected : (l : Listing) (e : CollectError) → l.end ≡ None → (e ≡ collects.Overflow → collected l.terms ≡ None) → IsRefused (of_collect e) (collected_list l)
uncollected l collects.Overflow done why = to_the_end l None done (why refl)
uncollected l collects.Memory done why = tt

-- what each term is left by leaves a list as it is
module _ (go : Monomial → Listing) (leaves : (m : Monomial) → go m ≡ single m) where
  singles : (ms : List Monomial) (end : Option Cause) → through_each go ms end ≡ record { terms = ms; end = end }
  unfolding through_each followed_at
  singles [] end = refl
  singles (m ∷ ms) end =
      ap (λ (l : Listing). followed l (through_each go ms end)) (leaves m)
      ∙ ap (λ (l : Listing). record { terms = m ∷ l.terms; end = l.end }) (singles ms end)

  pub as_they_are : (l : Listing) → l ≡ through go l
  as_they_are l = sym (singles l.terms l.end)

-- the statements' outputs, as they are taken
pub by_outputs : (made left : Listing) (old new : Collector) (r : Result Unit ResultError) → left ≡ made → IsAdded left old new r → IsAdded made old new r
by_outputs made left old new r is added = subst (λ l. IsAdded l old new r) is added
