use Rattle.std.proofs.lemmas.Result.{err_from_is_err_and}
use Rattle.form_preproc.specs.Kept.{kept_in}
use Rattle.form_preproc.specs.Putting.{with_text, quoted, valued}
use Rattle.form_preproc.specs.Variables.{newest}
use Rattle.form_preproc.proofs.Reading.{read_to, read_named, reads_on, stops_at}
use Rattle.form_preproc.proofs.putting.Putting.read.Goals as goal

pub returns-in-Some-clause-read : goal.returns-in-Some-clause-read
returns-in-Some-clause-read c = λ p same.
    let values = (kept_in c.args.variables.now).values in
    let name = c.in-Some.name.now in
    let r = c.in_ok-is_long-2.ensures (with_text p c.args.text.now) (c.in_ok-is_long.ensures p same) in
    rw c.if-opens.true (reads_on values _ (valued name (with_text p c.args.text.now).text p.outer (newest values name)) c.in-Some.rest.now c.in_ok-is_long-2.is_long c.put_value.new.self r.0
    (read_named values p c.args.text.now c.args.behind.now name c.in-Some.rest.now c.requires c.in-Some.ensures) r.1 r.2)

pub returns-in_err-is_long-2-clause-stops : goal.returns-in_err-is_long-2-clause-stops
returns-in_err-is_long-2-clause-stops c = λ p same.
    let e = err_from_is_err_and c.from_residual-in_err-is_long-2.result c.from_residual-in_err-is_long-2.ensures.1 in
    let values = (kept_in c.args.variables.now).values in
    let name = c.in-Some.name.now in
    rw (e.1, e.2, c.if-opens.true) (stops_at values _ (valued name (with_text p c.args.text.now).text p.outer (newest values name)) c.in-Some.rest.now c.put_value.new.self c.in_err-is_long-2.field-0.0
    (read_named values p c.args.text.now c.args.behind.now name c.in-Some.rest.now c.requires c.in-Some.ensures) (c.in_err-is_long-2.ensures (with_text p c.args.text.now) (c.in_ok-is_long.ensures p same)))

pub returns-clause-read : goal.returns-clause-read
returns-clause-read c = λ p same.
    let values = (kept_in c.args.variables.now).values in
    let line = with_text p c.args.text.now in
    let r = c.in_ok-is_long-3.ensures line (c.in_ok-is_long.ensures p same) in
    reads_on values _ (quoted values line c.args.opens) c.args.behind.now c.in_ok-is_long-3.is_long c.read_quote.new.self r.0 (read_to values p c.args.text.now c.args.opens c.args.behind.now c.requires) r.1 r.2

pub returns-in_err-is_long-3-clause-stops : goal.returns-in_err-is_long-3-clause-stops
returns-in_err-is_long-3-clause-stops c = λ p same.
    let e = err_from_is_err_and c.from_residual-in_err-is_long-3.result c.from_residual-in_err-is_long-3.ensures.1 in
    let values = (kept_in c.args.variables.now).values in
    let line = with_text p c.args.text.now in
    rw (e.1, e.2) (stops_at values _ (quoted values line c.args.opens) c.args.behind.now c.read_quote.new.self c.in_err-is_long-3.field-0.0 (read_to values p c.args.text.now c.args.opens c.args.behind.now c.requires)
    (c.in_err-is_long-3.ensures line (c.in_ok-is_long.ensures p same)))
