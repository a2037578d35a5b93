use Rattle.std.proofs.Common.{sym, subst}
use Rattle.std.proofs.lemmas.Result.{err_from_is_err_and}
use Rattle.form_preproc.specs.Kept.{kept_in}
use Rattle.form_preproc.specs.Answers.{Gives}
use Rattle.form_preproc.specs.Putting.{with_text}
use Rattle.form_preproc.proofs.Reading.{read_further, read_stops, read_all}
use Rattle.form_preproc.proofs.putting.put_in.Goals as goal

pub loop-before-preserved : goal.loop-before-preserved
loop-before-preserved c =
    let h = c.loop-before.invariant in
    read_further (kept_in c.args.variables.now).values c.args.text.now c.loop-before.rest.now c.in_ok-now_long.others.now c.loop-before.is_long c.in_ok-now_long.now_long c.loop-before.putting c.read.new.self _ h c.in-Some.ensures.0
    (c.in_ok-now_long.ensures.read h.line h.same)

pub returns-in_err-now_long : goal.returns-in_err-now_long
returns-in_err-now_long c =
    let h = c.loop-before.invariant in
    let p = err_from_is_err_and c.from_residual-in_err-now_long.result c.from_residual-in_err-now_long.ensures.1 in
    rw (p.1, p.2) (read_stops (kept_in c.args.variables.now).values c.args.text.now c.loop-before.rest.now _ c.loop-before.is_long c.loop-before.putting c.in_err-now_long.field-0.0 h c.in-Some.ensures.0 (c.in_err-now_long.ensures.stops h.line h.same))

pub returns : goal.returns
returns c =
    let h = c.loop-before.invariant in
    subst (Gives c.ended.result) (sym (read_all (kept_in c.args.variables.now).values c.args.text.now c.loop-before.rest.now c.loop-before.is_long c.loop-before.putting h c.in_default.ensures))
    (c.ended.ensures (with_text h.line c.loop-before.rest.now) (c.in_ok-is_long.ensures h.line h.same))
