use Rattle.std.proofs.Common.{length, ap, arith}
use Rattle.form_expand.specs.Kept.{listing}
use Rattle.form_expand.specs.Listing.{Listing}
use Rattle.form_expand.proofs.Draining.{drained_none, drained_more, drained_done, drained_refused}
use Rattle.form_expand.proofs.expansion.drained.Goals as goal

pub turns-init : goal.turns-init
turns-init c = drained_none c.new-terms.result.items c.args.list.now c.new-terms.ensures.items

pub turns-preserved : goal.turns-preserved
turns-preserved c =
    let gave = rw c.in-Ok-Some.field-0-is at c.in-Ok-Some.ensures in
    drained_more c.turns.terms.items c.turns.list c.args.list.now c.turns.invariant c.push.new.self.items c.in-Ok-Some.term c.next.new.self gave c.in_ok-push-in-Ok-Some.ensures.items

pub turns-smaller : goal.turns-smaller
turns-smaller c =
    let gave = rw c.in-Ok-Some.field-0-is at c.in-Ok-Some.ensures in
    let long = ap (λ (l : Listing). length l.terms) gave in
    omega (arith, long)

pub returns-in-Ok-None : goal.returns-in-Ok-None
returns-in-Ok-None c =
    let gave = rw c.in-Ok-None.field-0-is at c.in-Ok-None.ensures in
    drained_done c.turns.terms.items c.turns.list c.args.list.now c.turns.invariant (listing c.made.result) gave.0 c.made.ensures

pub returns-in-Err-Refused : goal.returns-in-Err-Refused
returns-in-Err-Refused c =
    let gave = rw c.in-Err-Refused.field-0-is at c.in-Err-Refused.ensures in
    drained_refused c.turns.terms.items c.turns.list c.args.list.now c.turns.invariant (listing c.refused_behind.result) c.in-Err-Refused.cause gave (rw c.in-Err-Refused.field-0-is at c.refused_behind.ensures)
