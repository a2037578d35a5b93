use Rattle.std.proofs.Common.{ap, arith, refl, ◌∙◌}
use Rattle.form_expand.specs.Listing.{nothing}
use Rattle.form_module.specs.Batches.{behind}
use Rattle.form_module.specs.Inputs.{inputs_left}
use Rattle.form_module.proofs.Taken.{one_longer, read_more}
use Rattle.form_module.proofs.inputs.next_batch.Goals as goal

pub loop-made-preserved : goal.loop-made-preserved
loop-made-preserved c = (
  read_more (inputs_left c.args.inputs.now) (inputs_left c.loop-made.inputs) (inputs_left c.next.new.self) c.loop-made.items.items c.push.new.self.items c.in-Ok-Some.item
      c.loop-made.invariant.0 (rw c.in-Ok-Some.field-0-is at c.in-Ok-Some.ensures) c.in_ok-push-in-Ok-Some.ensures.items,
  one_longer c.loop-made.items.items c.push.new.self.items c.in-Ok-Some.item c.loop-made._made c.loop-made.invariant.1 c.in_ok-push-in-Ok-Some.ensures.items,
)

pub returns-in-Ok-None-clause-batch : goal.returns-in-Ok-None-clause-batch
returns-in-Ok-None-clause-batch c =
    let e = rw c.in-Ok-None.field-0-is at c.in-Ok-None.ensures in
    record {
      left = nothing;
      whole = c.loop-made.invariant.0 ∙ ap (behind c.loop-made.items.items) e.0;
      ends = (refl, e.1);
      some = tt;
    }

pub returns-in-Ok-None-clause-few : goal.returns-in-Ok-None-clause-few
returns-in-Ok-None-clause-few c = omega (arith, c.loop-made.invariant.1, c.loop-made.auto._made-end)

pub returns-in-Err-clause-batch : goal.returns-in-Err-clause-batch
returns-in-Err-clause-batch c = record {
  left = inputs_left c.loop-made.inputs;
  whole = c.loop-made.invariant.0;
  ends = c.in-Err.ensures;
  some = tt;
}

pub returns-in-Err-clause-few : goal.returns-in-Err-clause-few
returns-in-Err-clause-few c = omega (arith, c.loop-made.invariant.1, c.loop-made.auto._made-end)

pub returns-clause-batch : goal.returns-clause-batch
returns-clause-batch c = record {
  left = inputs_left c.loop-made.inputs;
  whole = c.loop-made.invariant.0;
  ends = refl;
  some = omega (arith, c.loop-made.invariant.1, c.loop-made-test.false, c.requires);
}

pub returns-clause-few : goal.returns-clause-few
returns-clause-few c = omega (arith, c.loop-made.invariant.1, c.loop-made.auto._made-end)
