use Rattle.std.proofs.Common.{length, refl, ap, rules, arith}
use Rattle.form_expand.specs.Listing.{Listing}
use Rattle.form_flow.specs.Left.{outputs_left}
use Rattle.form_flow.proofs.Carrying.{a_front, gives_some, one_more}
use Rattle.form_flow.proofs.carry.emit_all.Goals as goal

pub returns-in-Ok-Stops-clause-carried : goal.returns-in-Ok-Stops-clause-carried
returns-in-Ok-Stops-clause-carried g c =
    let old = g.E.Emit.emitted c.args.out.now in
    let new = g.E.Emit.emitted c.emit.new.self in
    let all = outputs_left c.args.outputs.now in
    let left = outputs_left c.loop-item.outputs in
    let rest = outputs_left c.next.new.self in
    a_front old new new all rest
    (one_more old (g.E.Emit.emitted c.loop-item.out) new all left rest c.in-Ok-Some.item c.loop-item.invariant.carried
    (gives_some c.in-Ok-Some.field-0 c.in-Ok-Some.item left rest c.in-Ok-Some.field-0-is c.in-Ok-Some.ensures) c.in-Ok-Stops.ensures.taken)
    refl

pub loop-item-preserved : goal.loop-item-preserved
loop-item-preserved g c = record {
  carried =
      let left = outputs_left c.loop-item.outputs in
      let rest = outputs_left c.next.new.self in
      one_more (g.E.Emit.emitted c.args.out.now) (g.E.Emit.emitted c.loop-item.out) (g.E.Emit.emitted c.emit.new.self) (outputs_left c.args.outputs.now) left rest c.in-Ok-Some.item
      c.loop-item.invariant.carried (gives_some c.in-Ok-Some.field-0 c.in-Ok-Some.item left rest c.in-Ok-Some.field-0-is c.in-Ok-Some.ensures)
      c.in-Ok-Continues.ensures.taken;
  wanted = search rules;
}

pub loop-item-smaller : goal.loop-item-smaller
loop-item-smaller g c =
    let gives = gives_some c.in-Ok-Some.field-0 c.in-Ok-Some.item (outputs_left c.loop-item.outputs) (outputs_left c.next.new.self) c.in-Ok-Some.field-0-is c.in-Ok-Some.ensures in
    let long = ap (λ (l : Listing). length l.terms) gives in
    omega (arith, long)
