use Rattle.std.proofs.Common.{◌+◌, ◌-◌, arith, sym, ap, ◌∙◌}
use Rattle.std.specs.Prelude.{Some}
use Rattle.form_base.specs.declared.cause.Cause.TheVariants.{ExpandLimit}
use Rattle.std.proofs.lemmas.Result.{err_from_is_err_and}
use Rattle.form_expand.specs.Kept.{listing, rest_at, end_of}
use Rattle.form_expand.specs.Left.{times_by}
use Rattle.form_expand.specs.Listing.{limited}
use Rattle.form_expand.proofs.Taking.{limited_first, limited_over, limited_end, gives_end, gives_unmade, times_by_made, times_by_zero, times_by_end, at_end}
use Rattle.form_expand.proofs.walk.Walk.further_times.Goals as goal

pub returns-then-self-limit-clause-next : goal.returns-then-self-limit-clause-next
returns-then-self-limit-clause-next c =
    let w = c.loop-term.self in
    let list = listing w.whole in
    sym c.loop-term.invariant.left ∙ ap (times_by c.args.left.now) (limited_over c.args.limit w.place c.in-Some.term.now (rest_at w.place list) (rest_at (w.place + 1) list) c.in-Some.ensures.first.0 c.if-self-limit.true) ∙ times_by_end c.args.left.now (Some ExpandLimit)

pub returns-in_err-made-clause-next : goal.returns-in_err-made-clause-next
returns-in_err-made-clause-next c =
    let w = c.loop-term.self in
    let list = listing w.whole in
    let left = c.args.left.now in
    let p = err_from_is_err_and c.from_residual.result c.from_residual.ensures.1 in
    let here = limited (c.args.limit - w.place) (rest_at w.place list) in
    let behind = limited (c.args.limit - (w.place + 1)) (rest_at (w.place + 1) list) in
    rw (p.1, p.2, sym c.loop-term.invariant.left) (gives_unmade left c.in-Some.term.now here behind (c.in_err-made.field-0.0) (times_by left here)
    (limited_first c.args.limit w.place c.in-Some.term.now (rest_at w.place list) (rest_at (w.place + 1) list) c.in-Some.ensures.first.0 (omega arith)) c.in_err-made.ensures)

pub returns-in-Some-made-clause-next : goal.returns-in-Some-made-clause-next
returns-in-Some-made-clause-next c =
    let w = c.loop-term.self in
    let list = listing w.whole in
    let here = limited (c.args.limit - w.place) (rest_at w.place list) in
    let behind = limited (c.args.limit - (w.place + 1)) (rest_at (w.place + 1) list) in
    sym c.loop-term.invariant.left ∙ times_by_made c.args.left.now c.in-Some.term.now c.in-Some-made.made here behind
    (limited_first c.args.limit w.place c.in-Some.term.now (rest_at w.place list) (rest_at (w.place + 1) list) c.in-Some.ensures.first.0 (omega arith)) (rw c.in-Some-made.is at c.in_ok-made.ensures)

pub loop-term-preserved : goal.loop-term-preserved
loop-term-preserved c =
    let w = c.loop-term.self in
    let list = listing w.whole in
    let here = limited (c.args.limit - w.place) (rest_at w.place list) in
    let behind = limited (c.args.limit - (w.place + 1)) (rest_at (w.place + 1) list) in
    record {
      left = sym (times_by_zero c.args.left.now c.in-Some.term.now here behind
          (limited_first c.args.limit w.place c.in-Some.term.now (rest_at w.place list) (rest_at (w.place + 1) list) c.in-Some.ensures.first.0 (omega arith)) (rw c.in_default-made.is at c.in_ok-made.ensures)) ∙ c.loop-term.invariant.left;
      whole = c.loop-term.invariant.whole;
    }

pub returns-clause-next : goal.returns-clause-next
returns-clause-next c =
    let w = c.loop-term.self in
    let list = listing w.whole in
    let left = c.args.left.now in
    let here = limited (c.args.limit - w.place) (rest_at w.place list) in
    let old = ap (times_by left) (limited_end c.args.limit w.place (end_of w.whole.end) (rest_at w.place list) c.in_default.ensures.first) ∙ times_by_end left (end_of w.whole.end) in
    rw (c.ended.ensures.value, sym c.loop-term.invariant.left)
    (gives_end (end_of w.whole.end) (times_by left here) (times_by left (limited (c.args.limit - w.place) (rest_at w.place (listing c.ended.new.self)))) old
    (λ done. ap (λ v. times_by left (limited (c.args.limit - w.place) (rest_at w.place (listing v)))) (c.ended.ensures.same done) ∙ old ∙ ap at_end done))
