use Rattle.std.proofs.Common.{◌≡◌, ◌∙◌, true, false, arith, rules}
use Rattle.std.specs.Prelude.{Err}
use Rattle.std.proofs.lemmas.Result.{err_from_is_err_and}
use Rattle.form_preproc.specs.Expansion.{testing, choosing, trying_at, finished, goes}
use Rattle.form_preproc.specs.Machine.{state_of, line_of, behind_place}
use Rattle.form_preproc.proofs.Leading.{led_same, led_then, leads_done, led_at_part, led_at_end, led_at_branch, counted_part}
use Rattle.form_preproc.proofs.machine.Machine.branch_of.Goals as goal

pub returns-in_err-holds-clause-refused : goal.returns-in_err-holds-clause-refused
returns-in_err-holds-clause-refused c =
    let p = err_from_is_err_and c.from_residual.result c.from_residual.ensures.1 in
    let rest = behind_place c.args.source.now c.args.place in
    let r = testing (state_of c.args.self.now) (line_of c.args.source.now c.args.line.now) rest in
    rw (p.1, p.2) (leads_done r r (Err c.in_err-holds.field-0.0) c.judge.new.self (λ texts depth e h. h) (c.in_err-holds.ensures.refused rest))

pub returns-in_default-clause-led : goal.returns-in_default-clause-led
returns-in_default-clause-led c =
    let fails : c.loop-holds.holds ≡ false = search rules in
    led_at_end (testing (state_of c.args.self.now) (line_of c.args.source.now c.args.line.now) (behind_place c.args.source.now c.args.place)) (state_of c.loop-holds.self) c.args.source.now c.loop-holds.at c.closer-at.result c.loop-holds.holds
    fails c.loop-holds.invariant.led c.closer-at.ensures c.in_default.ensures

pub returns-in_err-found-clause-refused : goal.returns-in_err-found-clause-refused
returns-in_err-found-clause-refused c =
    let p = err_from_is_err_and c.from_residual-in_err-found.result c.from_residual-in_err-found.ensures.1 in
    let fails : c.loop-holds.holds ≡ false = search rules in
    let r = testing (state_of c.args.self.now) (line_of c.args.source.now c.args.line.now) (behind_place c.args.source.now c.args.place) in
    let q = trying_at c.in-Some.part.now.key (state_of c.loop-holds.self) (line_of c.args.source.now c.in-Some.part.now) (behind_place c.args.source.now c.closer-at.result) in
    rw (p.1, p.2) (leads_done r q (Err c.in_err-found.field-0.0) c.judge_part.new.self
    (led_at_part r (state_of c.loop-holds.self) c.args.source.now c.loop-holds.at c.closer-at.result c.in-Some.part.now c.loop-holds.holds fails c.loop-holds.invariant.led c.closer-at.ensures c.in-Some.ensures.1)
    c.in_err-found.ensures.refused)

pub returns-in-Over-clause-led : goal.returns-in-Over-clause-led
returns-in-Over-clause-led c =
    let fails : c.loop-holds.holds ≡ false = search rules in
    let r = testing (state_of c.args.self.now) (line_of c.args.source.now c.args.line.now) (behind_place c.args.source.now c.args.place) in
    let q = trying_at c.in-Some.part.now.key (state_of c.loop-holds.self) (line_of c.args.source.now c.in-Some.part.now) (behind_place c.args.source.now c.closer-at.result) in
    led_then r q (finished (goes (state_of c.judge_part.new.self)))
    (led_at_part r (state_of c.loop-holds.self) c.args.source.now c.loop-holds.at c.closer-at.result c.in-Some.part.now c.loop-holds.holds fails c.loop-holds.invariant.led c.closer-at.ensures c.in-Some.ensures.1)
    (led_same q (finished (goes (state_of c.judge_part.new.self))) (rw c.in-Over.is at c.in_ok-found.ensures.meant))

pub loop-holds-preserved : goal.loop-holds-preserved
loop-holds-preserved c =
    let fails : c.loop-holds.holds ≡ false = search rules in
    let r = testing (state_of c.args.self.now) (line_of c.args.source.now c.args.line.now) (behind_place c.args.source.now c.args.place) in
    let q = trying_at c.in-Some.part.now.key (state_of c.loop-holds.self) (line_of c.args.source.now c.in-Some.part.now) (behind_place c.args.source.now c.closer-at.result) in
    record {
      within = c.in-Some.ensures.0;
      led = led_then r q (choosing (state_of c.judge_part.new.self) (behind_place c.args.source.now c.closer-at.result) c.in-Begins.truth)
          (led_at_part r (state_of c.loop-holds.self) c.args.source.now c.loop-holds.at c.closer-at.result c.in-Some.part.now c.loop-holds.holds fails c.loop-holds.invariant.led c.closer-at.ensures c.in-Some.ensures.1)
          (led_same q (choosing (state_of c.judge_part.new.self) (behind_place c.args.source.now c.closer-at.result) c.in-Begins.truth) (rw c.in-Begins.is at c.in_ok-found.ensures.meant));
      same = c.in_ok-found.ensures.same ∙ c.loop-holds.invariant.same;
      more = omega (arith, counted_part c.loop-holds.self.acted c.judge_part.new.self.acted c.in-Begins.truth (rw c.in-Begins.is at c.in_ok-found.ensures.counted), c.loop-holds.invariant.more);
      few = c.in_ok-found.ensures.few;
      plain = λ p. c.in_ok-found.ensures.plain (c.loop-holds.invariant.plain p);
    }

pub returns-clause-led : goal.returns-clause-led
returns-clause-led c =
    let acts : c.loop-holds.holds ≡ true = search rules in
    led_at_branch (testing (state_of c.args.self.now) (line_of c.args.source.now c.args.line.now) (behind_place c.args.source.now c.args.place)) (state_of c.loop-holds.self) c.args.source.now c.loop-holds.at c.loop-holds.holds acts c.loop-holds.invariant.led
