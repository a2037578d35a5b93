use Rattle.std.proofs.Common.{◌≡◌, ◌-◌, ◌+◌, suc, zero, ℕ, rules, arith, subst, sym}
use Rattle.form_reach.specs.Reach.{IsInLimits, StaysWithin, both}
use Rattle.form_joined.proofs.Behind.{stays_more}
use Rattle.form_joined.proofs.powers.has_room.Goals as goal

pub loop-made-init : goal.loop-made-init
loop-made-init c =
    let all : c.args.times - 0 ≡ c.args.times = omega arith in
    λ rest. subst (λ (k : ℕ). StaysWithin k c.in-Some.first c.args.factor.now) all rest

pub loop-made-preserved : goal.loop-made-preserved
loop-made-preserved c =
    let n = c.loop-made._made in
    let times = c.args.times in
    let here : (c.in-Some-times.more ≡ both c.loop-made.reach c.args.factor.now) × IsInLimits c.in-Some-times.more = search rules in
    let less : times - n ≡ suc (times - (n + 1)) = omega arith in
    λ rest. c.loop-made.invariant (stays_more (times - n) (times - (n + 1)) c.loop-made.reach c.args.factor.now c.in-Some-times.more less here.0 here.1 rest)

pub returns : goal.returns
returns c = λ list right.
    let done : c.args.times - c.loop-made._made ≡ zero = omega arith in
    record {
      front = c.in-Some.first;
      factor = c.args.factor.now;
      within = search rules;
      each = right.each;
      right = right.right;
      stays = c.loop-made.invariant (subst (λ (k : ℕ). StaysWithin k c.loop-made.reach c.args.factor.now) (sym done) tt);
    }
