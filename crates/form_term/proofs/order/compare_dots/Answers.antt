-- What is left of both decides.
use Rattle.std.proofs.Common.{◌≡◌, ◌≢◌, ℕ, ◌+◌, ◌<◌, true, false, List, [], ◌∷◌, drop, length, ap, sym, ◌∙◌, get_or}
use Rattle.std.specs.Prelude.{◌==◌, not}
use Rattle.std.specs.Slice.Iter.{iter_rest}
use Rattle.std.specs.Ordering.{ordering_index}
use Rattle.std.specs.declared.cmp.Ordering.{Ordering}
use Rattle.std.specs.declared.cmp.Ordering.TheVariants.{Less, Equal, Greater}
use Rattle.std.proofs.lemmas.List.{drop_more, drop_all, nil_from_length}
use Rattle.form_term.specs.declared.power.DotPower.{DotPower}
use Rattle.form_term.specs.declared.piece.Piece.{Piece}
use Rattle.form_term.specs.Pieces.{piece_order, piece_of_dot}
use Rattle.form_term.specs.Term.{dots_order, end_of_term}
use Rattle.form_term.proofs.Dots.{dots_left, dots_right, dots_first, dots_next}
use Rattle.form_term.proofs.order.compare_dots.Goals as goal

-- what is left at an index is its dot product and what is left after it
at_index : (ds : List DotPower) (i : ℕ) (d : DotPower) → i < length ds → d ≡ get_or ds i d → drop i ds ≡ d ∷ drop (i + 1) ds
at_index ds i d within e = drop_more ds i d within ∙ ap (λ (x : DotPower). x ∷ drop (i + 1) ds) (sym e)

differ : (o : Ordering) → true ≡ not (ordering_index o == 1) → o ≢ Equal
differ o e h = let f : true ≡ false = e ∙ ap (λ (r : Ordering). not (ordering_index r == 1)) h in absurd (cc)

alike : (o : Ordering) → false ≡ not (ordering_index o == 1) → o ≡ Equal
alike Less e = cc
alike Equal e = cc
alike Greater e = cc

-- the whole by what is left of both
left_is : (whole : Ordering) (xs ys xs' ys' : List DotPower) → whole ≡ dots_order xs ys → xs ≡ xs' → ys ≡ ys' → whole ≡ dots_order xs' ys'
left_is whole xs ys xs' ys' e f g = e ∙ ap (λ (ds : List DotPower). dots_order ds ys) f ∙ ap (dots_order xs') g

compared : (o : Ordering) (p q p' q' : Piece) → o ≡ piece_order p q → p ≡ p' → q ≡ q' → o ≡ piece_order p' q'
compared o p q p' q' e f g = e ∙ ap (λ (x : Piece). piece_order x q) f ∙ ap (piece_order p') g

pub returns-in_default : goal.returns-in_default
returns-in_default c =
    let left = at_index c.args.left.now c.loop-l.l-index c.l-item.result c.loop-l-test.true c.l-item.is in
    let right = nil_from_length (iter_rest c.loop-l.rest) c.in_default.ensures.steps.0 in
    let rest = drop (c.loop-l.l-index + 1) c.args.left.now in
    let whole = left_is (dots_order c.args.left.now c.args.right.now) (drop c.loop-l.l-index c.args.left.now) (iter_rest c.loop-l.rest) (c.l-item.result ∷ rest) [] c.loop-l.invariant.2 left right in
    let is = compared c.cmp.result c.of_dot.result c.end.result (piece_of_dot c.l-item.result) end_of_term c.cmp.ensures c.of_dot.ensures c.end.ensures in
    is ∙ sym (dots_left c.l-item.result rest) ∙ sym whole

pub returns-then-ne : goal.returns-then-ne
returns-then-ne c =
    let left = at_index c.args.left.now c.loop-l.l-index c.l-item.result c.loop-l-test.true c.l-item.is in
    let rest = drop (c.loop-l.l-index + 1) c.args.left.now in
    let whole = left_is (dots_order c.args.left.now c.args.right.now) (drop c.loop-l.l-index c.args.left.now) (iter_rest c.loop-l.rest) (c.l-item.result ∷ rest) (c.in-Some.r.now ∷ iter_rest c.next.new.self) c.loop-l.invariant.2 left c.in-Some.ensures.steps in
    let is = compared c.cmp-ordering.result c.of_dot-in-loop-l.result c.of_dot-in-loop-l-2.result (piece_of_dot c.l-item.result) (piece_of_dot c.in-Some.r.now) c.cmp-ordering.ensures c.of_dot-in-loop-l.ensures c.of_dot-in-loop-l-2.ensures in
    is ∙ sym (dots_first c.l-item.result rest c.in-Some.r.now (iter_rest c.next.new.self) (λ e. differ c.cmp-ordering.result c.if-ne.ensures (is ∙ e))) ∙ sym whole

pub loop-l-preserved : goal.loop-l-preserved
loop-l-preserved c =
    let left = at_index c.args.left.now c.loop-l.l-index c.l-item.result c.loop-l-test.true c.l-item.is in
    let rest = drop (c.loop-l.l-index + 1) c.args.left.now in
    let whole = left_is (dots_order c.args.left.now c.args.right.now) (drop c.loop-l.l-index c.args.left.now) (iter_rest c.loop-l.rest) (c.l-item.result ∷ rest) (c.in-Some.r.now ∷ iter_rest c.next.new.self) c.loop-l.invariant.2 left c.in-Some.ensures.steps in
    let is = compared c.cmp-ordering.result c.of_dot-in-loop-l.result c.of_dot-in-loop-l-2.result (piece_of_dot c.l-item.result) (piece_of_dot c.in-Some.r.now) c.cmp-ordering.ensures c.of_dot-in-loop-l.ensures c.of_dot-in-loop-l-2.ensures in
    (tt, tt, whole ∙ dots_next c.l-item.result rest c.in-Some.r.now (iter_rest c.next.new.self) (sym is ∙ alike c.cmp-ordering.result c.if-ne.ensures))

pub returns-in-Some-next : goal.returns-in-Some-next
returns-in-Some-next c =
    let left = drop_all c.loop-l.l-index c.args.left.now c.loop-l-test.false in
    let whole = left_is (dots_order c.args.left.now c.args.right.now) (drop c.loop-l.l-index c.args.left.now) (iter_rest c.loop-l.rest) [] (c.in-Some-next.r.now ∷ iter_rest c.next-2.new.self) c.loop-l.invariant.2 left c.in-Some-next.ensures.steps in
    let is = compared c.cmp-in-Some-next.result c.end-in-Some-next.result c.of_dot-in-Some-next.result end_of_term (piece_of_dot c.in-Some-next.r.now) c.cmp-in-Some-next.ensures c.end-in-Some-next.ensures c.of_dot-in-Some-next.ensures in
    is ∙ sym (dots_right c.in-Some-next.r.now (iter_rest c.next-2.new.self)) ∙ sym whole

pub returns-in-None : goal.returns-in-None
returns-in-None c =
    let left = drop_all c.loop-l.l-index c.args.left.now c.loop-l-test.false in
    let right = nil_from_length (iter_rest c.loop-l.rest) c.in-None.ensures.steps.0 in
    let whole = left_is (dots_order c.args.left.now c.args.right.now) (drop c.loop-l.l-index c.args.left.now) (iter_rest c.loop-l.rest) [] [] c.loop-l.invariant.2 left right in
    sym whole
