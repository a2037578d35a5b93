-- Each turn goes on with the walk, and at its end one side is used up (`Powers`).
use Rattle.std.proofs.Common.{◌≡◌, ℕ, ◌+◌, ◌-◌, ◌<◌, List, ◌∷◌, ◌++◌, length, take, drop, get_or, refl, ap, sym, ◌∙◌, inl, inr, length-drop, arith, rules}
use Rattle.std.specs.Prelude.{ℤ, pos, negsuc, ◌+ℤ◌, nat_abs, FitsSigned}
use Rattle.std.specs.Int.{cast_unsigned, w32}
use Rattle.std.proofs.lemmas.Cmp.{ranked}
use Rattle.std.proofs.lemmas.List.{drop_more, drop_all, take_all}
use Rattle.std.specs.declared.cmp.Ordering.TheVariants.{Less, Equal, Greater}
use Rattle.form_term.specs.declared.power.Power.{Power}
use Rattle.form_normal.proofs.Powers.{merging_left, merging_right, merging_both, merging_none, merging_ends}
use Rattle.form_normal.proofs.merging.merged.Goals as goal
use Rattle.form_normal.proofs.merging.merged.Goals.{then-power-ne0+in_ok-push-in-Equal, else-power-ne0, then-loop-i-test+else-j-right, else-loop-i-test}

-- what is left at an index is its power and what is left after it
at_index : (ps : List Power) (i : ℕ) (p : Power) → i < length ps → p ≡ get_or ps i p → drop i ps ≡ p ∷ drop (i + 1) ps
at_index ps i p within e = drop_more ps i p within ∙ ap (λ (x : Power). x ∷ drop (i + 1) ps) (sym e)

-- what is left at an index, as a range gives it
from_index : (ps : List Power) (i : ℕ) → take (length ps - i) (drop i ps) ≡ drop i ps
from_index ps i = take_all (length ps - i) (drop i ps) (omega (arith, length-drop i ps))

present : (z : ℤ) → (cast_unsigned w32 z ≡ 0 → ⊥) → 0 < nat_abs z
present (pos n) h = omega arith
present (negsuc n) h = omega arith

none : (z : ℤ) → FitsSigned w32 z → cast_unsigned w32 z ≡ 0 → z ≡ pos 0
none (pos n) fits e = ap pos e
none (negsuc n) fits e = absurd (omega (arith, fits.sfits))

pub loop-i-preserved-in-Less : goal.loop-i-preserved-in-Less
loop-i-preserved-in-Less c =
    let l = c.index-left-i.result in
    let r = c.index-right-j.result in
    let left = at_index c.args.left.now c.loop-i.i l c.loop-i-test.true c.index-left-i.is in
    let right = at_index c.args.right.now c.loop-i.j r c.if-j-right.true c.index-right-j.is in
    let m = rw (left, right) at c.loop-i.invariant.2 in
    let below : l.symbol < r.symbol = ranked l.symbol r.symbol Less c.in-Less.ensures in (
      omega arith,
      c.loop-i.invariant.1,
      rw (c.in_ok-push-in-Less.ensures.items, right) (merging_left c.args.left.now c.args.right.now c.loop-i.powers.items l (drop (c.loop-i.i + 1) c.args.left.now) (r ∷ drop (c.loop-i.j + 1) c.args.right.now) m (omega arith, m.right_rise.1)),
    )

pub loop-i-preserved-in-Greater : goal.loop-i-preserved-in-Greater
loop-i-preserved-in-Greater c =
    let l = c.index-left-i.result in
    let r = c.index-right-j.result in
    let left = at_index c.args.left.now c.loop-i.i l c.loop-i-test.true c.index-left-i.is in
    let right = at_index c.args.right.now c.loop-i.j r c.if-j-right.true c.index-right-j.is in
    let m = rw (left, right) at c.loop-i.invariant.2 in
    let above : r.symbol < l.symbol = ranked l.symbol r.symbol Greater c.in-Greater.ensures in (
      c.loop-i.invariant.0,
      omega arith,
      rw (c.in_ok-push-in-Greater.ensures.items, left) (merging_right c.args.left.now c.args.right.now c.loop-i.powers.items (l ∷ drop (c.loop-i.i + 1) c.args.left.now) r (drop (c.loop-i.j + 1) c.args.right.now) m (omega arith, m.left_rise.1)),
    )

pub loop-i-preserved : goal.loop-i-preserved
loop-i-preserved c =
    let l = c.index-left-i.result in
    let r = c.index-right-j.result in
    let left = at_index c.args.left.now c.loop-i.i l c.loop-i-test.true c.index-left-i.is in
    let right = at_index c.args.right.now c.loop-i.j r c.if-j-right.true c.index-right-j.is in
    let m = rw (left, right) at c.loop-i.invariant.2 in
    let same : l.symbol ≡ r.symbol = ranked l.symbol r.symbol Equal c.in-Equal.ensures in
    let power = c.joined-power.result in
    let ls = drop (c.loop-i.i + 1) c.args.left.now in
    let rs = drop (c.loop-i.j + 1) c.args.right.now in
    let made : power ≡ record { symbol = l.symbol; exponent = l.exponent +ℤ r.exponent } = λ i. record { symbol = c.joined-power.ensures.symbol i; exponent = c.joined-power.ensures.exponent i } in (
      omega arith,
      omega arith,
      elim c.if-power-ne0.branch [
        | then-power-ne0+in_ok-push-in-Equal w ↦ rw (w.powers-is, w.in_ok-push-in-Equal.ensures.items) (merging_both c.args.left.now c.args.right.now c.loop-i.powers.items l ls r rs m same power made (present power.exponent w.if-power-ne0.true))
        | else-power-ne0 w ↦ (let fits : FitsSigned w32 power.exponent = search rules in
            rw w.powers-is (merging_none c.args.left.now c.args.right.now c.loop-i.powers.items l ls r rs m same (sym c.joined-power.ensures.exponent ∙ none power.exponent fits w.if-power-ne0.false)))
      ],
    )

pub returns : goal.returns
returns c =
    let ls = drop c.loop-i.i c.args.left.now in
    let rs = drop c.loop-i.j c.args.right.now in
    let made : c.extend_from_slice-2.new.self.items ≡ (c.loop-i.powers.items ++ ls) ++ rs =
    c.in_ok-extend_from_slice-2.ensures.items ∙ rw (c.in_ok-extend_from_slice.ensures.items, from_index c.args.left.now c.loop-i.i, from_index c.args.right.now c.loop-i.j) refl in
    rw made (merging_ends c.args.left.now c.args.right.now c.loop-i.powers.items ls rs c.loop-i.invariant.2
    (elim c.loop-i-test.branch [
      | then-loop-i-test+else-j-right w ↦ inr (drop_all c.loop-i.j c.args.right.now w.if-j-right.false)
      | else-loop-i-test w ↦ inl (drop_all c.loop-i.i c.args.left.now w.loop-i-test.false)
    ]))
