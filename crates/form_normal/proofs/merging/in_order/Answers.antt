-- Each turn goes on with the walk, and at its end one side is used up.
use Rattle.std.proofs.Common.{◌≡◌, ℕ, ◌+◌, ◌-◌, ◌<◌, true, false, List, [], ◌∷◌, ◌++◌, length, take, drop, get_or, refl, ap, sym, ◌∙◌, length-drop, inl, inr, arith}
use Rattle.std.specs.Ordering.{is_gt}
use Rattle.std.proofs.lemmas.Cmp.{is_gt_index}
use Rattle.std.proofs.lemmas.List.{drop_more, drop_all, take_all}
use Rattle.form_term.specs.Term.{RisesBy}
use Rattle.form_normal.specs.Lists.{in_order}
use Rattle.form_normal.proofs.Order.{walk_left, walk_right, walk_ends}
use Rattle.form_normal.proofs.merging.in_order.Goals as goal
use Rattle.form_normal.proofs.merging.in_order.Goals.{then-loop-i-test+else-j-right, else-loop-i-test}

-- what is left at an index is its element and what is left after it
at_index : {A : Type 0} (xs : List A) (i : ℕ) (x : A) → i < length xs → x ≡ get_or xs i x → drop i xs ≡ x ∷ drop (i + 1) xs
at_index {A} xs i x within e = drop_more xs i x within ∙ ap (λ (y : A). y ∷ drop (i + 1) xs) (sym e)

-- what is left at an index, as a range gives it
from_index : {A : Type 0} (xs : List A) (i : ℕ) → take (length xs - i) (drop i xs) ≡ drop i xs
from_index xs i = take_all (length xs - i) (drop i xs) (omega (arith, length-drop i xs))

head_or : {A : Type 0} → A → List A → A
head_or d [] = d
head_or d (x ∷ xs) = x

-- what stands at an index is one element
same_at : {A : Type 0} (xs : List A) (i : ℕ) (x y : A) → i < length xs → x ≡ get_or xs i x → y ≡ get_or xs i y → x ≡ y
unfolding head_or
same_at xs i x y within e f = ap (head_or x) (sym (at_index xs i x within e) ∙ at_index xs i y within f)

-- what is made where this one is pushed
pushed : {A : Type 0} (made out : List A) (x y z : A) → made ≡ out ++ z ∷ [] → z ≡ y → x ≡ y → made ≡ out ++ x ∷ []
pushed made out x y z e f g = e ∙ ap (λ a. out ++ a ∷ []) (f ∙ sym g)

pub loop-i-preserved-then-eq : goal.loop-i-preserved-then-eq
loop-i-preserved-then-eq g c =
    let l = c.index-left-i.result in
    let r = c.index-right-j.result in
    let ls = drop (c.loop-i.i + 1) c.args.left.now in
    let rs = drop (c.loop-i.j + 1) c.args.right.now in
    let left = at_index c.args.left.now c.loop-i.i l c.loop-i-test.true c.index-left-i.is in
    let right = at_index c.args.right.now c.loop-i.j r c.if-j-right.true c.index-right-j.is in
    let again = same_at c.args.right.now c.loop-i.j r c.index-right-j-then-eq.result c.if-j-right.true c.index-right-j.is c.index-right-j-then-eq.is in
    let made = pushed c.push.new.self.items c.loop-i.list.items r c.index-right-j-then-eq.result c.in_ok-clone.field-0 c.in_ok-push.ensures.items (c.requires.exact c.index-right-j-then-eq.result c.in_ok-clone.field-0 c.in_ok-clone.ensures.cases) again in
    let greater : is_gt (g.T.Ord.cmp l r) ≡ true = ap is_gt (sym c.cmp.ensures) ∙ is_gt_index c.cmp.result ∙ sym c.if-eq.ensures in
    let lefts : RisesBy g.T.Ord.cmp (l ∷ ls) = rw left at c.loop-i.invariant.2 in
    let rights : RisesBy g.T.Ord.cmp (r ∷ rs) = rw right at c.loop-i.invariant.3 in
    let is = rw (left, right) at c.loop-i.invariant.4 in (
      c.loop-i.invariant.0,
      omega (arith, c.if-j-right.true),
      c.loop-i.invariant.2,
      rights.1,
      rw (made, left) (walk_right g.T.Ord.cmp g.met.T.Ord.total (in_order g.T.Ord.cmp (c.args.left.now ++ c.args.right.now)) c.loop-i.list.items l ls r rs lefts rights is greater),
    )

pub loop-i-preserved : goal.loop-i-preserved
loop-i-preserved g c =
    let l = c.index-left-i.result in
    let r = c.index-right-j.result in
    let ls = drop (c.loop-i.i + 1) c.args.left.now in
    let rs = drop (c.loop-i.j + 1) c.args.right.now in
    let left = at_index c.args.left.now c.loop-i.i l c.loop-i-test.true c.index-left-i.is in
    let right = at_index c.args.right.now c.loop-i.j r c.if-j-right.true c.index-right-j.is in
    let again = same_at c.args.left.now c.loop-i.i l c.index-left-i-else-eq.result c.loop-i-test.true c.index-left-i.is c.index-left-i-else-eq.is in
    let made = pushed c.push-else-eq.new.self.items c.loop-i.list.items l c.index-left-i-else-eq.result c.in_ok-clone-2.field-0 c.in_ok-push-2.ensures.items (c.requires.exact c.index-left-i-else-eq.result c.in_ok-clone-2.field-0 c.in_ok-clone-2.ensures.cases) again in
    let lower : is_gt (g.T.Ord.cmp l r) ≡ false = ap is_gt (sym c.cmp.ensures) ∙ is_gt_index c.cmp.result ∙ sym c.if-eq.ensures in
    let lefts : RisesBy g.T.Ord.cmp (l ∷ ls) = rw left at c.loop-i.invariant.2 in
    let rights : RisesBy g.T.Ord.cmp (r ∷ rs) = rw right at c.loop-i.invariant.3 in
    let is = rw (left, right) at c.loop-i.invariant.4 in (
      omega (arith, c.loop-i-test.true),
      c.loop-i.invariant.1,
      lefts.1,
      c.loop-i.invariant.3,
      rw (made, right) (walk_left g.T.Ord.cmp g.met.T.Ord.total (in_order g.T.Ord.cmp (c.args.left.now ++ c.args.right.now)) c.loop-i.list.items l ls r rs lefts rights is lower),
    )

pub returns : goal.returns
returns g c =
    let ls = drop c.loop-i.i c.args.left.now in
    let rs = drop c.loop-i.j c.args.right.now in
    let made : c.put_all-2.new.list.items ≡ (c.loop-i.list.items ++ ls) ++ rs =
    c.in_ok-put_all-2.ensures ∙ rw (c.in_ok-put_all.ensures, from_index c.args.left.now c.loop-i.i, from_index c.args.right.now c.loop-i.j) refl in
    made ∙ walk_ends g.T.Ord.cmp (in_order g.T.Ord.cmp (c.args.left.now ++ c.args.right.now)) c.loop-i.list.items ls rs c.loop-i.invariant.2 c.loop-i.invariant.3 c.loop-i.invariant.4
    (elim c.loop-i-test.branch [
      | then-loop-i-test+else-j-right w ↦ inr (drop_all c.loop-i.j c.args.right.now w.if-j-right.false)
      | else-loop-i-test w ↦ inl (drop_all c.loop-i.i c.args.left.now w.loop-i-test.false)
    ])
