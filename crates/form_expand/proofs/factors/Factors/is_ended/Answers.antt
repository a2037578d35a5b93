use Rattle.std.proofs.Common.{◌+◌, ◌-◌, [], ◌∷◌, ◌++◌, List, length, eqb, eqb-true, map, sym, ap, subst, ◌∙◌, arith}
use Rattle.std.specs.Prelude.{option_to_list}
use Rattle.std.proofs.lemmas.List.{nil_from_length}
use Rattle.form_expand.specs.declared.list.List as lists
use Rattle.form_expand.specs.declared.list.List.TheVariants.{Whole}
use Rattle.form_expand.specs.Factors.{IsSameRow, factor_lists}
use Rattle.form_expand.specs.Kept.{listing}
use Rattle.form_expand.specs.Listing.{Listing, single}
use Rattle.form_expand.specs.Lists.{list_whole}
use Rattle.form_expand.proofs.Factored.{ended_last}
use Rattle.form_expand.proofs.Listings.{limited_within}
use Rattle.form_expand.proofs.Places.{on_true}
use Rattle.form_expand.proofs.factors.Factors.is_ended.Goals as goal

pub returns-in-Some-Whole : goal.returns-in-Some-Whole
returns-in-Some-Whole c =
    let factors = c.args.self.now in
    let ls = c.deref.result.now in
    let walk = c.in-Some-Whole.walk in
    let item = c.in-Some-Whole.ensures.item in
    on_true c.is_empty.result ((max : _) (l : Listing) → IsSameRow max (factor_lists max factors ++ l ∷ []) (factor_lists max factors))
    (λ e max l.
    let none = nil_from_length ((listing walk.whole).terms) (eqb-true (length ((listing walk.whole).terms)) 0 (ap (λ (ts : List _). eqb (length ts) 0) (sym c.terms.ensures) ∙ sym c.is_empty.ensures ∙ e)) in
    let gone = ap (λ (x : Listing). x.terms) (limited_within max (listing walk.whole) (omega (arith, ap length none))) ∙ none in
    subst (λ (xs : List lists.List). IsSameRow max ((map single (option_to_list factors.front) ++ map (list_whole max) xs) ++ l ∷ []) (map single (option_to_list factors.front) ++ map (list_whole max) xs)) c.deref.ensures.value
    (ended_last max (length ls - 1) (map single (option_to_list factors.front)) ls (Whole walk) l (omega (arith, item.3.0)) (rw c.in-Some-Whole.field-0-is at item.1) gone))
