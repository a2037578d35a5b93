use Rattle.std.proofs.Common.{rules, take, drop, ◌+◌, Ok, Err, subst, Bool}
use Rattle.form_outside.specs.Taken.{Takes}
use Rattle.form_outside.specs.declared.sink.SinkErr.{SinkErr}
use Rattle.form_outside.proofs.Written.{Takes_break}
use Rattle.form_module.specs.Printed.{prints}
use Rattle.form_engine.specs.Printed.{printed_module, printed_where}
use Rattle.form_engine.proofs.Printed.{printed-at, printed_more}
use Rattle.form_engine.proofs.carry.print_module.Goals as goal

pub loop-expression-preserved : goal.loop-expression-preserved
loop-expression-preserved g c = record {
  taken =
      printed_more c.args.names.now c.args.carried.now.statements c.args.standing.now c.loop-expression.expression-index c.expression-item.result (g.O.Sink.taken c.args.out.now) (g.O.Sink.taken c.loop-expression.out) (g.O.Sink.taken c.print_meant.new.out)
      c.loop-expression-test.true c.expression-item.is c.loop-expression.invariant.taken
      (subst (λ (b : Bool). Takes {E = SinkErr} (g.O.Sink.taken c.loop-expression.out) (printed_where c.args.names.now b c.expression-item.result) (g.O.Sink.taken c.print_meant.new.out) (Ok tt)) (c.in_ok-meant.ensures c.expression-item.result.expression) c.in_ok-print_meant.ensures.taken);
  not_risen = search rules;
  unfinished = search rules;
}

pub returns-in_err-print_meant-clause-taken : goal.returns-in_err-print_meant-clause-taken
returns-in_err-print_meant-clause-taken g c =
    Takes_break (g.O.Sink.taken c.args.out.now) (g.O.Sink.taken c.loop-expression.out) (g.O.Sink.taken c.print_meant.new.out)
    (printed_module c.args.names.now c.args.carried.now.statements (take c.loop-expression.expression-index c.args.standing.now))
    (printed_where c.args.names.now (prints c.args.carried.now.statements c.expression-item.result.expression) c.expression-item.result)
    (printed_module c.args.names.now c.args.carried.now.statements (drop (c.loop-expression.expression-index + 1) c.args.standing.now))
    _ _ c.in_err-print_meant.field-0.0 _ c.loop-expression.invariant.taken
    (subst (λ (b : Bool). Takes {E = SinkErr} (g.O.Sink.taken c.loop-expression.out) (printed_where c.args.names.now b c.expression-item.result) (g.O.Sink.taken c.print_meant.new.out) (Err c.in_err-print_meant.field-0.0)) (c.in_ok-meant.ensures c.expression-item.result.expression) c.in_err-print_meant.ensures.taken)
    (printed-at c.args.names.now c.args.carried.now.statements c.args.standing.now c.loop-expression.expression-index c.expression-item.result c.loop-expression-test.true c.expression-item.is) c.from_residual-in_err-print_meant.ensures.0
