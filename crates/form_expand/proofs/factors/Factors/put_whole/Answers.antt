use Rattle.std.proofs.Common.{◌≡◌, [], ◌∷◌, ◌++◌, List, append-nil, eqb-true, map, vec_len, sym, ap, subst, ◌∙◌, arith}
use Rattle.std.specs.Prelude.{option_to_list}
use Rattle.std.proofs.lemmas.List.{nil_from_length}
use Rattle.std.proofs.lemmas.Result.{on_ok_weaker}
use Rattle.form_expand.specs.declared.walk.Walk.{Walk}
use Rattle.form_expand.specs.Factors.{IsSameRow, factor_lists}
use Rattle.form_expand.specs.Kept.{end_of, kept_terms, listing}
use Rattle.form_expand.specs.Listing.{Listing, limited, single}
use Rattle.form_expand.specs.Lists.{list_whole}
use Rattle.form_expand.specs.Walks.{walk_whole}
use Rattle.form_expand.proofs.Factored.{alone_row}
use Rattle.form_expand.proofs.factors.Factors.put_whole.Goals as goal

pub returns-then-not-is_empty : goal.returns-then-not-is_empty
returns-then-not-is_empty c =
    let max = c.args.limit in
    on_ok_weaker c.put.result
    (λ put. subst (λ (w : Walk). IsSameRow max (factor_lists max c.args.self.now ++ walk_whole max w ∷ []) (factor_lists max c.put.new.self)) c.new.ensures (put max))
    c.put.ensures

pub returns : goal.returns
returns c =
    let max = c.args.limit in
    let factors = c.args.self.now in
    let whole = c.args.whole in
    let fronts = map single (option_to_list factors.front) in
    let none : factors.lists.items ≡ [] = nil_from_length factors.lists.items (omega (arith, factors.lists.ok.0, eqb-true (vec_len factors.lists) 0 (sym c.is_empty.ensures ∙ c.if-not-is_empty.false))) in
    let alone = c.is_alone.ensures.0 c.if-not-is_alone.false in
    let before : fronts ≡ factor_lists max factors = sym (append-nil fronts) ∙ ap (λ (ls : List _). fronts ++ map (list_whole max) ls) (sym none) in
    on_ok_weaker c.settle.result
    (λ made. subst (λ (ls : List Listing). IsSameRow max (ls ++ limited max (listing whole) ∷ []) (factor_lists max c.settle.new.self)) before
    (alone_row max factors.front (kept_terms whole.kept) (end_of whole.end) c.front_times-made.result (factor_lists max c.settle.new.self) alone.some alone.alone alone.done
    (rw c.take.ensures.value at c.front_times-made.ensures) (made max)))
    c.settle.ensures
