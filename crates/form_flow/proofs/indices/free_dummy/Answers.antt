use Rattle.std.proofs.Common.{◌≡◌, ℕ, ◌+◌, ◌-◌, length, refl, sym, ap, ◌∙◌, arith}
use Rattle.form_flow.specs.Indices.{least_free}
use Rattle.form_flow.proofs.Dummies.{free_here, free_next, free_end}
use Rattle.form_flow.proofs.FreeNumbers.{found_from}
use Rattle.form_flow.proofs.indices.free_dummy.Goals as goal

pub loop-turn-init : goal.loop-turn-init
loop-turn-init c =
    let all : length c.args.there.now - 0 ≡ length c.args.there.now = omega arith in
    (omega arith, ap (λ (k : ℕ). least_free k c.args.from c.args.there.now) all ∙ found_from c.args.there.now c.args.from c.requires)

pub returns-then-not-has_dummy : goal.returns-then-not-has_dummy
returns-then-not-has_dummy c =
    let there = c.args.there.now in
    let i = c.loop-turn._turn-index in
    let left : length there - i ≡ (length there - (i + 1)) + 1 = omega (arith, c.loop-turn-test.true) in
    sym (free_here (length there - i) (length there - (i + 1)) c.loop-turn.number there left (sym c.has_dummy.ensures ∙ c.if-not-has_dummy.true)) ∙ c.loop-turn.invariant.1

pub overflow_add-number : goal.overflow_add-number
overflow_add-number c = omega (arith, c.requires.few, c.requires.reach, c.loop-turn.invariant.0, c.loop-turn-test.true)

pub loop-turn-preserved : goal.loop-turn-preserved
loop-turn-preserved c =
    let there = c.args.there.now in
    let i = c.loop-turn._turn-index in
    let n = c.loop-turn.number in
    let left : length there - i ≡ (length there - (i + 1)) + 1 = omega (arith, c.loop-turn-test.true) in (
      omega (arith, c.loop-turn.invariant.0),
      sym (free_next (length there - i) (length there - (i + 1)) n (n + 1) there left refl (sym c.has_dummy.ensures ∙ c.if-not-has_dummy.false)) ∙ c.loop-turn.invariant.1,
    )

pub returns : goal.returns
returns c =
    let there = c.args.there.now in
    let none : length there - c.loop-turn._turn-index ≡ 0 = omega (arith, c.loop-turn-test.false) in
    sym (free_end (length there - c.loop-turn._turn-index) c.loop-turn.number there none) ∙ c.loop-turn.invariant.1
