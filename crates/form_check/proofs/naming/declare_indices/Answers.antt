use Rattle.std.proofs.Common.{arith}
use Rattle.std.proofs.lemmas.Result.{err_from_is_err_and}
use Rattle.form_check.specs.Checking.{index}
use Rattle.form_right_side.specs.Refusal.{each}
use Rattle.form_right_side.proofs.Loops.{each-next, each-refused, each-end, each-front}
use Rattle.form_check.proofs.Growing.{left-by-front}
use Rattle.form_check.proofs.naming.declare_indices.Goals as goal

pub loop-index-preserved : goal.loop-index-preserved
loop-index-preserved c = record {
  room = c.in_ok-declare_index.ensures.room;
  keeps = λ d h. c.in_ok-declare_index.ensures.keeps d (c.loop-index.invariant.keeps d h);
  front = each-front (index c.args.default.now) c.args.names.now c.loop-index.names c.declare_index.new.names c.args.list.now c.loop-index.index-index c.index-item.result (omega arith) c.index-item.is c.loop-index.invariant.front c.in_ok-declare_index.ensures.declared;
  declared = each-next (index c.args.default.now) c.loop-index.names c.declare_index.new.names c.args.list.now c.loop-index.index-index c.index-item.result (each (index c.args.default.now) c.args.names.now c.args.list.now) (omega arith) c.index-item.is c.loop-index.invariant.declared c.in_ok-declare_index.ensures.declared;
}

pub returns-in_err-declare_index-clause-declared : goal.returns-in_err-declare_index-clause-declared
returns-in_err-declare_index-clause-declared c =
    let p = err_from_is_err_and c.from_residual.result c.from_residual.ensures.1 in
    rw (p.1, p.2) (each-refused (index c.args.default.now) c.loop-index.names c.args.list.now c.loop-index.index-index c.index-item.result (each (index c.args.default.now) c.args.names.now c.args.list.now) c.in_err-declare_index.field-0.0 (omega arith) c.index-item.is c.loop-index.invariant.declared c.in_err-declare_index.ensures.declared)

pub returns-in_err-declare_index-clause-front : goal.returns-in_err-declare_index-clause-front
returns-in_err-declare_index-clause-front c =
    rw (err_from_is_err_and c.from_residual.result c.from_residual.ensures.1).1 (left-by-front (index c.args.default.now) c.args.names.now c.loop-index.names c.declare_index.new.names c.args.list.now c.loop-index.index-index c.loop-index.invariant.front c.in_err-declare_index.ensures.unchanged)

pub returns-clause-declared : goal.returns-clause-declared
returns-clause-declared c =
    each-end (index c.args.default.now) c.loop-index.names c.args.list.now c.loop-index.index-index (each (index c.args.default.now) c.args.names.now c.args.list.now) (omega arith) c.loop-index.invariant.declared
