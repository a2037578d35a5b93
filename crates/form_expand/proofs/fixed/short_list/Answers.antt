use Rattle.std.proofs.Common.{[], ◌∷◌, length, ap, sym, arith}
use Rattle.std.proofs.lemmas.List.{length-append}
use Rattle.form_expand.specs.Walks.{all_of}
use Rattle.form_expand.proofs.Draining.{drained_none, drained_more, drained_done, never_refused, never_longer}
use Rattle.form_expand.proofs.fixed.short_list.Goals as goal
use Rattle.std.proofs.Common.{refl}

pub loop-made-init : goal.loop-made-init
loop-made-init c = record {
  whole = drained_none c.new-terms.result.items c.args.list.now c.new-terms.ensures.items;
  long = ap length c.new-terms.ensures.items;
}

pub loop-made-preserved : goal.loop-made-preserved
loop-made-preserved c =
    let gave = rw c.in-Ok-Some.field-0-is at c.in-Ok-Some.ensures in
    let items = c.in_ok-push-in-Ok-Some.ensures.items in
    record {
      whole = drained_more c.loop-made.terms.items c.loop-made.list c.args.list.now c.loop-made.invariant.whole c.push.new.self.items c.in-Ok-Some.term c.next.new.self gave items;
      long = omega (arith, ap length items, length-append c.loop-made.terms.items (c.in-Ok-Some.term ∷ []), c.loop-made.invariant.long);
    }

pub returns-in-Ok-None-clause-some : goal.returns-in-Ok-None-clause-some
returns-in-Ok-None-clause-some c =
    let gave = rw c.in-Ok-None.field-0-is at c.in-Ok-None.ensures in
    sym (drained_done c.loop-made.terms.items c.loop-made.list c.args.list.now c.loop-made.invariant.whole (all_of c.loop-made.terms.items) gave.0 refl)

pub returns-in-Err-Refused-clause-none : goal.returns-in-Err-Refused-clause-none
returns-in-Err-Refused-clause-none c = λ none terms short is.
    let gave = rw c.in-Err-Refused.field-0-is at c.in-Err-Refused.ensures in
    never_refused c.loop-made.terms.items c.loop-made.list c.args.list.now c.loop-made.invariant.whole _ terms gave is

pub returns-clause-none : goal.returns-clause-none
returns-clause-none c = λ none terms short is.
    never_longer c.loop-made.terms.items c.loop-made.list c.args.list.now c.loop-made.invariant.whole terms is (omega (arith, short, c.loop-made.invariant.long, c.loop-made-test.false, c.loop-made.auto._made-end))
