-- What is left of both decides.
use Rattle.std.proofs.Common.{◌≡◌, ◌≢◌, ℕ, ◌+◌, ◌<◌, true, false, List, ◌∷◌, drop, length, ap, sym, ◌∙◌, get_or}
use Rattle.std.specs.Prelude.{◌==◌, not}
use Rattle.std.specs.Slice.Iter.{iter_rest}
use Rattle.std.specs.Ordering.{ordering_index}
use Rattle.std.specs.declared.cmp.Ordering.{Ordering}
use Rattle.std.specs.declared.cmp.Ordering.TheVariants.{Less, Equal, Greater}
use Rattle.std.proofs.lemmas.List.{drop_more, drop_all, nil_from_length}
use Rattle.form_term.specs.declared.power.Power.{Power}
use Rattle.form_term.proofs.Left.{decide_left, decide_right, decide_first, decide_next, decide_none}
use Rattle.form_term.proofs.order.compare_symbols.Goals as goal

-- what is left at an index is its power and what is left after it
at_index : (ps : List Power) (i : ℕ) (p : Power) → i < length ps → p ≡ get_or ps i p → drop i ps ≡ p ∷ drop (i + 1) ps
at_index ps i p within e = drop_more ps i p within ∙ ap (λ (x : Power). x ∷ drop (i + 1) ps) (sym e)

differ : (o : Ordering) → true ≡ not (ordering_index o == 1) → o ≢ Equal
differ o e h = let f : true ≡ false = e ∙ ap (λ (r : Ordering). not (ordering_index r == 1)) h in absurd (cc)

alike : (o : Ordering) → false ≡ not (ordering_index o == 1) → o ≡ Equal
alike Less e = cc
alike Equal e = cc
alike Greater e = cc

pub returns-in_default : goal.returns-in_default
returns-in_default c =
    let left = at_index c.args.left.now c.loop-l.l-index c.l-item.result c.loop-l-test.true c.l-item.is in
    let right = nil_from_length (iter_rest c.loop-l.rest) c.in_default.ensures.steps.0 in
    c.cmp.ensures ∙ sym (decide_left c.args.left.now c.args.right.now c.l-item.result (drop (c.loop-l.l-index + 1) c.args.left.now) (rw (left, right) at c.loop-l.invariant.2))

pub returns-then-ne : goal.returns-then-ne
returns-then-ne c =
    let left = at_index c.args.left.now c.loop-l.l-index c.l-item.result c.loop-l-test.true c.l-item.is in
    let is = c.compare_powers-ordering.ensures in
    is ∙ sym (decide_first c.args.left.now c.args.right.now c.l-item.result (drop (c.loop-l.l-index + 1) c.args.left.now) c.in-Some.r.now (iter_rest c.next.new.self) (rw (left, c.in-Some.ensures.steps) at c.loop-l.invariant.2)
    (λ e. differ c.compare_powers-ordering.result c.if-ne.ensures (is ∙ e)))

pub loop-l-preserved : goal.loop-l-preserved
loop-l-preserved c =
    let left = at_index c.args.left.now c.loop-l.l-index c.l-item.result c.loop-l-test.true c.l-item.is in (
      tt,
      tt,
      decide_next c.args.left.now c.args.right.now c.l-item.result (drop (c.loop-l.l-index + 1) c.args.left.now) c.in-Some.r.now (iter_rest c.next.new.self) (rw (left, c.in-Some.ensures.steps) at c.loop-l.invariant.2)
          (sym c.compare_powers-ordering.ensures ∙ alike c.compare_powers-ordering.result c.if-ne.ensures),
    )

pub returns-in-Some-next : goal.returns-in-Some-next
returns-in-Some-next c =
    let left = drop_all c.loop-l.l-index c.args.left.now c.loop-l-test.false in
    c.cmp-in-Some-next.ensures ∙ sym (decide_right c.args.left.now c.args.right.now c.in-Some-next.r.now (iter_rest c.next-2.new.self) (rw (left, c.in-Some-next.ensures.steps) at c.loop-l.invariant.2))

pub returns-in-None : goal.returns-in-None
returns-in-None c =
    let left = drop_all c.loop-l.l-index c.args.left.now c.loop-l-test.false in
    let right = nil_from_length (iter_rest c.loop-l.rest) c.in-None.ensures.steps.0 in
    sym (decide_none c.args.left.now c.args.right.now (rw (left, right) at c.loop-l.invariant.2))
