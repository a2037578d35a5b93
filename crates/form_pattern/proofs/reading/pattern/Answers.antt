use Rattle.std.proofs.Common.{ap}
use Rattle.std.proofs.lemmas.Result.{err_from_is_err_and}
use Rattle.form_right_side.specs.Marks.{stands_in}
use Rattle.form_pattern.specs.PatternWalking.{open_at}
use Rattle.form_pattern.specs.declared.reading.Reading.{Reading}
use Rattle.form_pattern.proofs.PatternWhole.{pattern-given, pattern-refused}
use Rattle.form_pattern.proofs.reading.pattern.Goals as goal

pub walked-requires : goal.walked-requires
walked-requires c = ap (λ (r : Reading). open_at r.place) c.start.ensures

pub returns-in_err-reading : goal.returns-in_err-reading
returns-in_err-reading c =
    let p = err_from_is_err_and c.from_residual.result c.from_residual.ensures.1 in
    rw (p.1, p.2) (pattern-refused c.args.names.now (stands_in c.args.standing.now) c.one_tree.ensures.found c.args.list.now c.requires.lawful c.start.result c.args.known.now c.start.ensures c.requires.known c.in_err-reading.field-0.0 c.in_err-reading.ensures)

pub returns : goal.returns
returns c =
    rw c.in_ok-made.ensures (pattern-given c.args.names.now (stands_in c.args.standing.now) c.one_tree.ensures.found c.args.list.now c.requires.lawful c.start.result c.args.known.now c.start.ensures c.requires.known c.in_ok-reading.reading c.in_ok-reading.ensures)
