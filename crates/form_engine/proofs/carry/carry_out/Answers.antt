use Rattle.std.proofs.Common.{rules, Ok, Err, subst}
use Rattle.std.proofs.lemmas.Result.{err_from_is_err_and}
use Rattle.form_check.specs.Program.{Module}
use Rattle.form_module.proofs.Reported.{is_at}
use Rattle.form_outside.specs.Taken.{Takes}
use Rattle.form_outside.specs.declared.sink.SinkErr.{SinkErr}
use Rattle.form_engine.specs.Printed.{printed_module}
use Rattle.form_engine.specs.Stop.{stop_of_sink}
use Rattle.form_engine.proofs.Going.{going_on, gone, not_begun, place_has, stopped_by, stopped_printing}
use Rattle.form_engine.proofs.carry.carry_out.Goals as goal

pub run_module-requires-clause-within : goal.run_module-requires-clause-within
run_module-requires-clause-within g c = λ _ _. rw c.modules-module-items.ensures at c.loop-index-test.true

pub run_module-requires-clause-trees : goal.run_module-requires-clause-trees
run_module-requires-clause-trees g c = λ _ _. place_has c.args.program.now c.loop-index.index c.requires (rw c.modules-module-items.ensures at c.loop-index-test.true)

pub loop-index-init : goal.loop-index-init
loop-index-init g c = record {
  going = not_begun c.args.settings.now c.args.program.now (g.O.Sink.taken c.args.out.now) c.new-standing.result.items c.new-standing.ensures.items;
  not_risen = search rules;
  unfinished = search rules;
  same_stores = search rules;
}

pub returns-in-Err-clause-carried : goal.returns-in-Err-clause-carried
returns-in-Err-clause-carried g c =
    stopped_by c.args.settings.now c.args.program.now (g.O.Sink.taken c.args.out.now) (g.O.Sink.taken c.loop-index.out) (g.O.Sink.taken c.stop_at.new.out) c.loop-index.index c.loop-index.standing.items c.in-Err.error c.stop_at.result
    (rw c.modules-module-items.ensures at c.loop-index-test.true) c.loop-index.invariant.going c.in-Err.ensures.reports c.stop_at.ensures.stopped

pub returns-in_err-print_module-clause-carried : goal.returns-in_err-print_module-clause-carried
returns-in_err-print_module-clause-carried g c =
    let p = err_from_is_err_and c.from_residual.result c.from_residual.ensures.1 in
    let below = rw c.modules-module-items.ensures at c.loop-index-test.true in
    let here = is_at c.args.program.now c.loop-index.index c.module-item.result below (rw c.modules-module-items.ensures at c.module-item.is) in
    let put = rw (c.names.ensures, c.deref.ensures.value, c.into_expressions-standing.ensures) at c.in_err-print_module.ensures.taken in
    rw (p.1, p.2) (stopped_printing c.args.settings.now c.args.program.now (g.O.Sink.taken c.args.out.now) (g.O.Sink.taken c.loop-index.out) (g.O.Sink.taken c.print_module.new.out) c.loop-index.index c.loop-index.standing.items c.in-Ok.report.expressions.items c.in_err-print_module.field-0.0 (stop_of_sink c.in_err-print_module.field-0.0)
    below c.loop-index.invariant.going c.in-Ok.ensures.reports.0
    (subst (λ (m : Module). Takes (g.O.Sink.taken c.loop-index.out) (printed_module c.args.program.now.names m.statements c.in-Ok.report.expressions.items) (g.O.Sink.taken c.print_module.new.out) (Err c.in_err-print_module.field-0.0)) here put))

pub loop-index-preserved : goal.loop-index-preserved
loop-index-preserved g c =
    let below = rw c.modules-module-items.ensures at c.loop-index-test.true in
    let here = is_at c.args.program.now c.loop-index.index c.module-item.result below (rw c.modules-module-items.ensures at c.module-item.is) in
    let put = rw (c.names.ensures, c.deref.ensures.value, c.into_expressions-standing.ensures) at c.in_ok-print_module.ensures.taken in
    record {
      going = rw c.into_expressions-standing.ensures
          (going_on c.args.settings.now c.args.program.now (g.O.Sink.taken c.args.out.now) (g.O.Sink.taken c.loop-index.out) (g.O.Sink.taken c.print_module.new.out) c.loop-index.index c.loop-index.standing.items c.in-Ok.report.expressions.items
          below c.loop-index.invariant.going c.in-Ok.ensures.reports.0
          (subst (λ (m : Module). Takes {E = SinkErr} (g.O.Sink.taken c.loop-index.out) (printed_module c.args.program.now.names m.statements c.in-Ok.report.expressions.items) (g.O.Sink.taken c.print_module.new.out) (Ok tt)) here put));
      not_risen = search rules;
      unfinished = search rules;
      same_stores = search rules;
    }

pub returns-clause-carried : goal.returns-clause-carried
returns-clause-carried g c =
    gone c.args.settings.now c.args.program.now (g.O.Sink.taken c.args.out.now) (g.O.Sink.taken c.loop-index.out) c.loop-index.index c.loop-index.standing.items (search rules) c.loop-index.invariant.going
