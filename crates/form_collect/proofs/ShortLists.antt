-- Lists of two terms at most, collected.
use Rattle.std.proofs.Common.{◌≡◌, ◌<◌, ◌≤◌, ◌==◌, Bool, true, false, not, List, [], ◌∷◌, ◌++◌, length, Option, Some, None, Ok, refl, sym, ap, subst, ◌∙◌, append_assoc, arith}
use Rattle.std.specs.Bool.{OnTrue}
use Rattle.std.specs.Option.{ok_or}
use Rattle.std.specs.List.{slice_index_or}
use Rattle.std.specs.Ordering.{ordering_index, ordering_reverse}
use Rattle.std.specs.declared.cmp.Ordering.{Ordering}
use Rattle.std.specs.declared.cmp.Ordering.TheVariants.{Less, Equal, Greater}
use Rattle.std.proofs.lemmas.Cmp.{tied_itself}
use Rattle.form_frac.specs.Fraction.{Fraction, add, is_zero}
use Rattle.form_term.specs.Term.{order}
use Rattle.form_term.specs.TermLaws.{order_total}
use Rattle.form_term.specs.declared.monomial.Monomial.{Monomial}
use Rattle.form_collect.specs.Collecting.{terms_of, collected}
use Rattle.form_collect.specs.Collector.{IsCollectionOf}
use Rattle.form_collect.specs.declared.collector.Collector.{Collector}
use Rattle.form_collect.specs.Short.{AreOrdered, IsExchanged, IsAdded}

pub one_collected : (a : Monomial) → is_zero a.coefficient ≡ false → collected (a ∷ []) ≡ Some (a ∷ [])
unfolding collected terms_of
one_collected a some = rw (tied_itself order_total a.term, some) refl

module _ (a b : Monomial) where
  pub two_rising : AreOrdered a b Less → collected (a ∷ b ∷ []) ≡ Some (a ∷ b ∷ [])
  unfolding collected terms_of
  two_rising h =
      let back : order b.term a.term ≡ Greater = order_total.antisymm b.term a.term ∙ ap ordering_reverse h.ordered in
      rw (back, h.ordered, tied_itself order_total a.term, tied_itself order_total b.term, h.first, back, h.second) refl

  pub two_falling : AreOrdered a b Greater → collected (a ∷ b ∷ []) ≡ Some (b ∷ a ∷ [])
  unfolding collected terms_of
  two_falling h =
      let back : order b.term a.term ≡ Less = order_total.antisymm b.term a.term ∙ ap ordering_reverse h.ordered in
      rw (back, h.ordered, tied_itself order_total a.term, tied_itself order_total b.term, h.first, back, h.second) refl

  pub two_added : (c : Fraction) → order a.term b.term ≡ Equal → add a.coefficient b.coefficient ≡ Some c → is_zero c ≡ false → collected (a ∷ b ∷ []) ≡ Some (record { coefficient = c; term = a.term } ∷ [])
  unfolding collected terms_of
  two_added c same sum some =
      let back : order b.term a.term ≡ Equal = order_total.antisymm b.term a.term ∙ ap ordering_reverse same in
      rw (back, same, tied_itself order_total a.term, sum, some) refl

-- the second of two terms goes, and then the first
pub added_to : (list front rest : List Monomial) (one two : Monomial) (c : Fraction) → IsAdded list c → list ≡ front ++ two ∷ [] → front ≡ rest ++ one ∷ []
    → collected list ≡ Some (rest ++ record { coefficient = c; term = one.term } ∷ [])
added_to list front rest one two c h e f =
    let whole : list ≡ (rest ++ one ∷ []) ++ two ∷ [] = e ∙ ap (λ (ms : List Monomial). ms ++ two ∷ []) f in
    ap collected whole ∙ by rest (subst (λ (ms : List Monomial). IsAdded ms c) whole h)
  where
    by : (ms : List Monomial) → IsAdded ((ms ++ one ∷ []) ++ two ∷ []) c → collected ((ms ++ one ∷ []) ++ two ∷ []) ≡ Some (ms ++ record { coefficient = c; term = one.term } ∷ [])
    by [] h = h
    by (r ∷ []) h = absurd h
    by (r ∷ s ∷ []) h = absurd h
    by (r ∷ s ∷ t ∷ ts) h = absurd h

-- a list by its length
pub of_one : (ms : List Monomial) (a : Monomial) → 1 ≤ length ms → length ms < 2 → a ≡ slice_index_or ms 0 a → ms ≡ a ∷ []
of_one [] a h k e = absurd (omega (arith, h))
of_one (x ∷ []) a h k e = ap (λ (m : Monomial). m ∷ []) (sym e)
of_one (x ∷ y ∷ ms) a h k e = absurd (omega (arith, k))

pub of_two : (ms : List Monomial) (a b : Monomial) → 2 ≤ length ms → length ms < 3 → a ≡ slice_index_or ms 0 a → b ≡ slice_index_or ms 1 b → ms ≡ a ∷ b ∷ []
of_two [] a b h k e f = absurd (omega (arith, h))
of_two (x ∷ []) a b h k e f = absurd (omega (arith, h))
of_two (x ∷ y ∷ []) a b h k e f = λ i. sym e i ∷ sym f i ∷ []
of_two (x ∷ y ∷ z ∷ ms) a b h k e f = absurd (omega (arith, k))

pub alike : (o : Ordering) → false ≡ not (ordering_index o == 1) → o ≡ Equal
alike Less e = cc
alike Equal e = cc
alike Greater e = cc

-- what tests tell

pub some_from : {E : Type 0} (o : Option Fraction) (e : E) (x : Fraction) → Ok x ≡ ok_or o e → o ≡ Some x
some_from None e x h = absurd (cc)
some_from (Some y) e x h = cc

pub single_collected : (list : List Monomial) (a : Monomial) (zero : Bool) → list ≡ a ∷ [] → zero ≡ is_zero a.coefficient → OnTrue (not zero) (collected list ≡ Some list)
single_collected list a true is e = tt
single_collected list a false is e = subst (λ ms. collected ms ≡ Some ms) (sym is) (one_collected a (sym e))

pub pair_collected : (list : List Monomial) (a b : Monomial) (rise : Bool) → list ≡ a ∷ b ∷ [] → OnTrue rise (AreOrdered a b Less) → OnTrue rise (collected list ≡ Some list)
pair_collected list a b true is h = subst (λ ms. collected ms ≡ Some ms) (sym is) (two_rising a b h)
pair_collected list a b false is h = tt

pub pair_exchanged : (list : List Monomial) (a b : Monomial) (fall : Bool) → list ≡ a ∷ b ∷ [] → OnTrue fall (AreOrdered a b Greater) → OnTrue fall (IsExchanged list)
pair_exchanged list a b true is h = subst IsExchanged (sym is) (two_falling a b h)
pair_exchanged list a b false is h = tt

-- a collector stands for the front of a list, of which these are left
pub record IsBegun (c : Collector) (whole rest : List Monomial) : Type 0 where
  pub done : List Monomial
  pub stands : IsCollectionOf c done
  pub is : done ++ rest ≡ whole

pub none_begun : (c : Collector) (whole rest : List Monomial) → IsCollectionOf c [] → rest ≡ whole → IsBegun c whole rest
none_begun c whole rest h e = record { done = []; stands = h; is = e }

pub one_more : (c d : Collector) (whole : List Monomial) (m : Monomial) (old new : List Monomial) → IsBegun c whole old → old ≡ m ∷ new → ((list : List Monomial) → IsCollectionOf c list → IsCollectionOf d (list ++ m ∷ [])) → IsBegun d whole new
one_more c d whole m old new h e on = record {
  done = h.done ++ m ∷ [];
  stands = on h.done h.stands;
  is = append_assoc h.done (m ∷ []) new ∙ ap (λ ms. h.done ++ ms) (sym e) ∙ h.is;
}
