use Rattle.std.proofs.lemmas.Result.{err_from_is_err_and}
use Rattle.form_preproc.proofs.Calculations.{nothing_done, more_done, stops_there, all_done}
use Rattle.form_preproc.proofs.braces.calculated.Goals as goal

pub loop-before-init : goal.loop-before-init
loop-before-init c = rw c.in_ok-done.ensures (nothing_done c.args.text.now)

pub loop-before-preserved : goal.loop-before-preserved
loop-before-preserved c =
    more_done _ c.args.text.now c.loop-before.done c.append_closed.new.done c.loop-before.rest.now c.in-Some.before.now c.in-Some.behind.now c.loop-before.invariant c.in-Some.ensures.0 (c.in_ok-append_closed.ensures c.in-Some.behind.now)

pub returns-in_err-append_closed : goal.returns-in_err-append_closed
returns-in_err-append_closed c =
    let p = err_from_is_err_and c.from_residual-in_err-append_closed.result c.from_residual-in_err-append_closed.ensures.1 in
    rw (p.1, p.2) (stops_there c.args.text.now c.loop-before.done c.append_closed.new.done c.loop-before.rest.now c.in-Some.before.now c.in-Some.behind.now c.in_err-append_closed.field-0.0 c.loop-before.invariant c.in-Some.ensures.0 (c.in_err-append_closed.ensures c.in-Some.behind.now))

pub returns : goal.returns
returns c = rw c.in_ok-append.ensures (all_done c.args.text.now c.loop-before.done c.loop-before.rest.now c.loop-before.invariant c.in_default.ensures)
