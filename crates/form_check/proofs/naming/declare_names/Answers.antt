use Rattle.std.proofs.Common.{arith, Ok, ap}
use Rattle.std.proofs.lemmas.Result.{err_from_is_err_and}
use Rattle.form_check.specs.Checking.{named, kind_declared, declared}
use Rattle.form_right_side.specs.Refusal.{◌>>=◌, each}
use Rattle.form_right_side.proofs.Loops.{IsRefused-before, each-next, each-refused, each-end, each-front}
use Rattle.form_check.proofs.Growing.{left-by-front}
use Rattle.form_check.proofs.naming.declare_names.Goals as goal

pub loop-spelled-preserved : goal.loop-spelled-preserved
loop-spelled-preserved c =
    let kind = kind_declared c.args.declared in
    record {
      room = c.in_ok-declare.ensures.room;
      keeps = λ d h. c.in_ok-declare.ensures.keeps d (c.loop-spelled.invariant.keeps d h);
      front = each-front (named kind) c.args.names.now c.loop-spelled.names c.declare.new.names c.args.list.now c.loop-spelled.spelled-index c.spelled-item.result (omega arith) c.spelled-item.is c.loop-spelled.invariant.front (ap (λ r. r >>= (λ d. Ok d.1)) (rw c.kind_of.ensures.kind at c.in_ok-declare.ensures.declared));
      declared = each-next (named kind) c.loop-spelled.names c.declare.new.names c.args.list.now c.loop-spelled.spelled-index c.spelled-item.result (each (named kind) c.args.names.now c.args.list.now) (omega arith) c.spelled-item.is c.loop-spelled.invariant.declared (ap (λ r. r >>= (λ d. Ok d.1)) (rw c.kind_of.ensures.kind at c.in_ok-declare.ensures.declared));
    }

pub returns-in_err-declare-clause-declared : goal.returns-in_err-declare-clause-declared
returns-in_err-declare-clause-declared c =
    let kind = kind_declared c.args.declared in
    let p = err_from_is_err_and c.from_residual.result c.from_residual.ensures.1 in
    let spelled = c.spelled-item.result in
    rw (p.1, p.2) (each-refused (named kind) c.loop-spelled.names c.args.list.now c.loop-spelled.spelled-index spelled (each (named kind) c.args.names.now c.args.list.now) c.in_err-declare.field-0.0 (omega arith) c.spelled-item.is c.loop-spelled.invariant.declared (IsRefused-before c.in_err-declare.field-0.0 (declared c.loop-spelled.names spelled kind) (λ d. Ok d.1) (rw c.kind_of.ensures.kind at c.in_err-declare.ensures.declared)))

pub returns-in_err-declare-clause-front : goal.returns-in_err-declare-clause-front
returns-in_err-declare-clause-front c =
    let kind = kind_declared c.args.declared in
    rw (err_from_is_err_and c.from_residual.result c.from_residual.ensures.1).1 (left-by-front (named kind) c.args.names.now c.loop-spelled.names c.declare.new.names c.args.list.now c.loop-spelled.spelled-index c.loop-spelled.invariant.front c.in_err-declare.ensures.unchanged)

pub returns-clause-declared : goal.returns-clause-declared
returns-clause-declared c =
    let kind = kind_declared c.args.declared in
    each-end (named kind) c.loop-spelled.names c.args.list.now c.loop-spelled.spelled-index (each (named kind) c.args.names.now c.args.list.now) (omega arith) c.loop-spelled.invariant.declared
