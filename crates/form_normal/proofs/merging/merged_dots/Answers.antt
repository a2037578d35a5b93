-- Each turn goes on with the walk, and at its end one side is used up.
use Rattle.std.proofs.Common.{◌≡◌, ℕ, ◌+◌, ◌-◌, ◌<◌, List, [], ◌∷◌, ◌++◌, length, take, drop, get_or, refl, ap, sym, ◌∙◌, inl, inr, length-drop, arith, rules}
use Rattle.std.specs.Prelude.{ℤ, pos, negsuc, nat_abs, FitsSigned}
use Rattle.std.specs.Int.{cast_unsigned, w32}
use Rattle.std.specs.List.{AllByRecursion}
use Rattle.std.specs.List.Sorted.{IsStrictlySortedBy}
use Rattle.std.proofs.lemmas.List.{drop_more, drop_all, take_all}
use Rattle.std.specs.declared.cmp.Ordering.{Ordering}
use Rattle.std.specs.declared.cmp.Ordering.TheVariants.{Less, Equal, Greater}
use Rattle.form_term.specs.declared.power.DotPower.{DotPower}
use Rattle.form_term.specs.Term.{pair_order}
use Rattle.form_normal.specs.Lists.{dots_product}
use Rattle.form_normal.proofs.Dots.{dots_walk_left, dots_walk_right, dots_walk_both, dots_walk_none, dots_walk_ends}
use Rattle.form_normal.proofs.merging.merged_dots.Goals as goal
use Rattle.form_normal.proofs.merging.merged_dots.Goals.{then-dot-ne0+in_ok-push-in-Equal, else-dot-ne0, then-loop-i-test+else-j-right, else-loop-i-test}

-- what is left at an index is its dot product and what is left after it
at_index : (xs : List DotPower) (i : ℕ) (x : DotPower) → i < length xs → x ≡ get_or xs i x → drop i xs ≡ x ∷ drop (i + 1) xs
at_index xs i x within e = drop_more xs i x within ∙ ap (λ (y : DotPower). y ∷ drop (i + 1) xs) (sym e)

-- what is left at an index, as a range gives it
from_index : (xs : List DotPower) (i : ℕ) → take (length xs - i) (drop i xs) ≡ drop i xs
from_index xs i = take_all (length xs - i) (drop i xs) (omega (arith, length-drop i xs))

head_or : DotPower → List DotPower → DotPower
head_or d [] = d
head_or d (x ∷ xs) = x

-- what stands at an index is one dot product
same_at : (xs : List DotPower) (i : ℕ) (x y : DotPower) → i < length xs → x ≡ get_or xs i x → y ≡ get_or xs i y → x ≡ y
unfolding head_or
same_at xs i x y within e f = ap (head_or x) (sym (at_index xs i x within e) ∙ at_index xs i y within f)

-- the order of two pairs, as they were read again
compared : (o : Ordering) (l r x y : DotPower) → o ≡ pair_order x y → l ≡ x → r ≡ y → pair_order l r ≡ o
compared o l r x y e f g = ap (λ (d : DotPower). pair_order d r) f ∙ ap (pair_order x) g ∙ sym e

rises : (d : DotPower) (ds : List DotPower) → IsStrictlySortedBy pair_order (d ∷ ds) → AllByRecursion (λ e. pair_order d e ≡ Less) ds × IsStrictlySortedBy pair_order ds
unfolding IsStrictlySortedBy
rises d ds h = h

present : (z : ℤ) → (cast_unsigned w32 z ≡ 0 → ⊥) → 0 < nat_abs z
present (pos n) h = omega arith
present (negsuc n) h = omega arith

none : (z : ℤ) → FitsSigned w32 z → cast_unsigned w32 z ≡ 0 → z ≡ pos 0
none (pos n) fits e = ap pos e
none (negsuc n) fits e = absurd (omega (arith, fits.sfits))

pub loop-i-preserved-in-Less : goal.loop-i-preserved-in-Less
loop-i-preserved-in-Less c =
    let l = c.index-left-i.result in
    let r = c.index-right-j.result in
    let ls = drop (c.loop-i.i + 1) c.args.left.now in
    let rs = drop (c.loop-i.j + 1) c.args.right.now in
    let left = at_index c.args.left.now c.loop-i.i l c.loop-i-test.true c.index-left-i.is in
    let right = at_index c.args.right.now c.loop-i.j r c.if-j-right.true c.index-right-j.is in
    let below = compared Less l r c.index-left-i-in-loop-i.result c.index-right-j-in-loop-i.result c.in-Less.ensures
    (same_at c.args.left.now c.loop-i.i l c.index-left-i-in-loop-i.result c.loop-i-test.true c.index-left-i.is c.index-left-i-in-loop-i.is)
    (same_at c.args.right.now c.loop-i.j r c.index-right-j-in-loop-i.result c.if-j-right.true c.index-right-j.is c.index-right-j-in-loop-i.is) in
    let lefts = rises l ls (rw left at c.loop-i.invariant.2) in
    let rights = rises r rs (rw right at c.loop-i.invariant.3) in
    let is = rw (left, right) at c.loop-i.invariant.4 in (
      omega (arith, c.loop-i-test.true),
      c.loop-i.invariant.1,
      lefts.1,
      c.loop-i.invariant.3,
      rw (c.in_ok-push-in-Less.ensures.items, right) (dots_walk_left (dots_product (c.args.left.now ++ c.args.right.now)) c.loop-i.dots.items l ls r rs lefts.0 rights.0 is below),
    )

pub loop-i-preserved-in-Greater : goal.loop-i-preserved-in-Greater
loop-i-preserved-in-Greater c =
    let l = c.index-left-i.result in
    let r = c.index-right-j.result in
    let ls = drop (c.loop-i.i + 1) c.args.left.now in
    let rs = drop (c.loop-i.j + 1) c.args.right.now in
    let left = at_index c.args.left.now c.loop-i.i l c.loop-i-test.true c.index-left-i.is in
    let right = at_index c.args.right.now c.loop-i.j r c.if-j-right.true c.index-right-j.is in
    let above = compared Greater l r c.index-left-i-in-loop-i.result c.index-right-j-in-loop-i.result c.in-Greater.ensures
    (same_at c.args.left.now c.loop-i.i l c.index-left-i-in-loop-i.result c.loop-i-test.true c.index-left-i.is c.index-left-i-in-loop-i.is)
    (same_at c.args.right.now c.loop-i.j r c.index-right-j-in-loop-i.result c.if-j-right.true c.index-right-j.is c.index-right-j-in-loop-i.is) in
    let lefts = rises l ls (rw left at c.loop-i.invariant.2) in
    let rights = rises r rs (rw right at c.loop-i.invariant.3) in
    let is = rw (left, right) at c.loop-i.invariant.4 in (
      c.loop-i.invariant.0,
      omega (arith, c.if-j-right.true),
      c.loop-i.invariant.2,
      rights.1,
      rw (c.in_ok-push-in-Greater.ensures.items, left) (dots_walk_right (dots_product (c.args.left.now ++ c.args.right.now)) c.loop-i.dots.items l ls r rs lefts.0 rights.0 is above),
    )

pub loop-i-preserved : goal.loop-i-preserved
loop-i-preserved c =
    let l = c.index-left-i.result in
    let r = c.index-right-j.result in
    let ls = drop (c.loop-i.i + 1) c.args.left.now in
    let rs = drop (c.loop-i.j + 1) c.args.right.now in
    let left = at_index c.args.left.now c.loop-i.i l c.loop-i-test.true c.index-left-i.is in
    let right = at_index c.args.right.now c.loop-i.j r c.if-j-right.true c.index-right-j.is in
    let same = compared Equal l r c.index-left-i-in-loop-i.result c.index-right-j-in-loop-i.result c.in-Equal.ensures
    (same_at c.args.left.now c.loop-i.i l c.index-left-i-in-loop-i.result c.loop-i-test.true c.index-left-i.is c.index-left-i-in-loop-i.is)
    (same_at c.args.right.now c.loop-i.j r c.index-right-j-in-loop-i.result c.if-j-right.true c.index-right-j.is c.index-right-j-in-loop-i.is) in
    let lefts = rises l ls (rw left at c.loop-i.invariant.2) in
    let rights = rises r rs (rw right at c.loop-i.invariant.3) in
    let is = rw (left, right) at c.loop-i.invariant.4 in
    let whole = dots_product (c.args.left.now ++ c.args.right.now) in
    let dot = c.joined_dots-dot.result in (
      omega (arith, c.loop-i-test.true),
      omega (arith, c.if-j-right.true),
      lefts.1,
      rights.1,
      elim c.if-dot-ne0.branch [
        | then-dot-ne0+in_ok-push-in-Equal w ↦ rw (w.dots-is, w.in_ok-push-in-Equal.ensures.items) (dots_walk_both whole c.loop-i.dots.items l ls r rs lefts.0 rights.0 is dot c.joined_dots-dot.ensures same (present dot.exponent w.if-dot-ne0.true))
        | else-dot-ne0 w ↦ (let fits : FitsSigned w32 dot.exponent = search rules in
            rw w.dots-is (dots_walk_none whole c.loop-i.dots.items l ls r rs lefts.0 rights.0 is same (sym (ap (λ (d : DotPower). d.exponent) c.joined_dots-dot.ensures) ∙ none dot.exponent fits w.if-dot-ne0.false)))
      ],
    )

pub returns : goal.returns
returns c =
    let ls = drop c.loop-i.i c.args.left.now in
    let rs = drop c.loop-i.j c.args.right.now in
    let made : c.extend_from_slice-2.new.self.items ≡ (c.loop-i.dots.items ++ ls) ++ rs =
    c.in_ok-extend_from_slice-2.ensures.items ∙ rw (c.in_ok-extend_from_slice.ensures.items, from_index c.args.left.now c.loop-i.i, from_index c.args.right.now c.loop-i.j) refl in
    made ∙ dots_walk_ends (dots_product (c.args.left.now ++ c.args.right.now)) c.loop-i.dots.items ls rs c.loop-i.invariant.2 c.loop-i.invariant.3 c.loop-i.invariant.4
    (elim c.loop-i-test.branch [
      | then-loop-i-test+else-j-right w ↦ inr (drop_all c.loop-i.j c.args.right.now w.if-j-right.false)
      | else-loop-i-test w ↦ inl (drop_all c.loop-i.i c.args.left.now w.loop-i-test.false)
    ])
