use Rattle.std.proofs.Common.{◌≡◌, [], ◌∷◌, ◌++◌, List, eqb-true, map, vec_len, sym, ap, subst, ◌∙◌, arith}
use Rattle.std.specs.Prelude.{Option, Some, IfOk, option_to_list}
use Rattle.std.proofs.lemmas.List.{nil_from_length}
use Rattle.form_term.specs.declared.monomial.Monomial.{Monomial}
use Rattle.form_expand.specs.declared.list.List as lists
use Rattle.form_expand.specs.Factors.{factor_lists}
use Rattle.form_expand.specs.Left.{row, row_behind}
use Rattle.form_expand.specs.Listing.{Listing, single}
use Rattle.form_expand.specs.Lists.{list_whole}
use Rattle.form_expand.specs.Paired.{IsPaired}
use Rattle.form_expand.specs.Parts.{part_list}
use Rattle.form_expand.proofs.Filling.{pair_row}
use Rattle.form_expand.proofs.Listings.{limited_within}
use Rattle.form_expand.proofs.row.pair.Goals as goal

pub returns-then-limit-eq0 : goal.returns-then-limit-eq0
returns-then-limit-eq0 c =
    let max = c.args.limit in
    let is = pair_row max c.args.left (part_list max c.args.list) (factor_lists max c.in_ok-factors.factors) (factor_lists max c.put_part.new.factors) c.in_ok-factors.ensures c.in_ok-put_part.ensures in
    subst (λ (l : Listing). IfOk c.paired_row.result (IsPaired l)) (sym is) c.paired_row.ensures

pub returns-in-Some : goal.returns-in-Some
unfolding row row_behind
returns-in-Some c =
    let max = c.args.limit in
    let factors = c.put_part.new.factors in
    let item = single c.in-Some.item in
    let first : factors.front ≡ Some c.in-Some.item = sym c.take.ensures.value ∙ c.in-Some.is in
    let none : factors.lists.items ≡ [] = nil_from_length factors.lists.items (omega (arith, factors.lists.ok.0, eqb-true (vec_len factors.lists) 0 (sym c.is_empty.ensures ∙ c.if-not-is_empty.false))) in
    pair_row max c.args.left (part_list max c.args.list) (factor_lists max c.in_ok-factors.factors) (factor_lists max factors) c.in_ok-factors.ensures c.in_ok-put_part.ensures
    ∙ ap (λ (o : Option Monomial). row max (map single (option_to_list o) ++ map (list_whole max) factors.lists.items)) first
    ∙ ap (λ (ls : List lists.List). row max (item ∷ map (list_whole max) ls)) none
    ∙ limited_within max item (omega (arith, c.if-limit-eq0.false))

pub returns : goal.returns
returns c =
    let max = c.args.limit in
    let factors = c.put_part.new.factors in
    let same : c.take.new.self ≡ factors.front = c.take.ensures.after ∙ sym c.in-None.is ∙ c.take.ensures.value in
    let is = pair_row max c.args.left (part_list max c.args.list) (factor_lists max c.in_ok-factors.factors) (factor_lists max factors) c.in_ok-factors.ensures c.in_ok-put_part.ensures in
    subst (λ (l : Listing). IfOk c.paired_row-in-None.result (IsPaired l))
    (ap (λ (o : Option Monomial). row max (map single (option_to_list o) ++ map (list_whole max) factors.lists.items)) same ∙ sym is) c.paired_row-in-None.ensures
