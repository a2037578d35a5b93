use Rattle.std.proofs.Common.{◌≡◌, [], ◌∷◌, ◌++◌, length, eqb-true, map, replicate, sym, ap, subst, ◌∙◌, arith, rules, vec_len}
use Rattle.std.specs.Prelude.{List, Option, Some, None, option_to_list}
use Rattle.std.proofs.lemmas.List.{nil_from_length}
use Rattle.std.proofs.lemmas.Result.{on_ok_weaker}
use Rattle.form_term.specs.declared.monomial.Monomial.{Monomial}
use Rattle.form_expand.specs.Factors.{IsSameRow, factor_lists}
use Rattle.form_expand.specs.Listing.{Listing, limited, nothing, single}
use Rattle.form_expand.specs.Lists.{list_whole}
use Rattle.form_expand.specs.Often.{often}
use Rattle.form_expand.specs.Walks.{all_of}
use Rattle.form_expand.proofs.Factored.{gone_often, made_row, often_limited}
use Rattle.form_expand.proofs.Listings.{limited_nothing}
use Rattle.form_expand.proofs.Places.{one_item}
use Rattle.form_expand.proofs.factors.Factors.put_often.Goals as goal

pub returns-then-is_empty : goal.returns-then-is_empty
returns-then-is_empty c =
    let max = c.args.limit in
    let times = c.args.times in
    let old = factor_lists max c.args.self.now in
    let new = factor_lists max c.put_copies.new.self in
    let none = nil_from_length c.args.terms.now (eqb-true (length c.args.terms.now) 0 (sym c.is_empty.ensures ∙ c.if-is_empty.true)) in
    let gone : limited max (all_of c.args.terms.now) ≡ nothing = ap (λ (ts : List _). limited max (all_of ts)) none ∙ limited_nothing max in
    on_ok_weaker c.put_copies.result
    (λ put. subst (λ (l : Listing). IsSameRow max (old ++ replicate times l) new) (sym gone) (gone_often max old new None times c.min.result c.min.ensures (subst (λ (l : Listing). IsSameRow max (old ++ replicate c.min.result l) new) gone (put max))))
    c.put_copies.ensures

pub returns-in_default : goal.returns-in_default
returns-in_default c = on_ok_weaker c.put_copies-in_default.result (λ put. put c.args.limit) c.put_copies-in_default.ensures

pub returns-then-limit-eq0 : goal.returns-then-limit-eq0
returns-then-limit-eq0 c = on_ok_weaker c.put_copies-then-limit-eq0.result (λ put. put c.args.limit) c.put_copies-then-limit-eq0.ensures

pub returns-in_default-take : goal.returns-in_default-take
returns-in_default-take c =
    let max = c.args.limit in
    let factors = c.args.self.now in
    let same : c.take.new.self ≡ factors.front = c.take.ensures.after ∙ sym c.in_default-take.is ∙ c.take.ensures.value in
    on_ok_weaker c.put_copies-in_default-take.result
    (λ put. subst (λ (o : Option Monomial). IsSameRow max ((map single (option_to_list o) ++ map (list_whole max) factors.lists.items) ++ replicate c.args.times (limited max (all_of c.args.terms.now))) (factor_lists max c.put_copies-in_default-take.new.self)) same (put max))
    c.put_copies-in_default-take.ensures

pub returns : goal.returns
returns c =
    let max = c.args.limit in
    let factors = c.args.self.now in
    let m = c.term-item.result in
    let times : c.from.result ≡ c.args.times = search rules in
    let one : c.args.terms.now ≡ m ∷ [] = one_item c.args.terms.now m c.in-len1.len_at_least c.in-len1.len_below c.term-item.is in
    let first : factors.front ≡ Some c.in-Some.front = sym c.take.ensures.value ∙ c.in-Some.is in
    let none : factors.lists.items ≡ [] = nil_from_length factors.lists.items (omega (arith, factors.lists.ok.0, eqb-true (vec_len factors.lists) 0 (sym c.is_empty-else-limit-eq0.ensures ∙ c.if-not-is_empty.false))) in
    on_ok_weaker c.settle.result
    (λ made. rw (first, none, one)
    (made_row max c.times_often.result (often c.in-Some.front m c.args.times) (single c.in-Some.front ∷ replicate c.args.times (limited max (single m))) (factor_lists max c.settle.new.self)
    (rw times at c.times_often.ensures) (often_limited max (omega (arith, c.if-limit-eq0.false)) m c.args.times c.in-Some.front) (made max)))
    c.settle.ensures
