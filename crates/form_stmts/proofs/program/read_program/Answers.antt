use Rattle.std.proofs.Common.{◌++◌, ◌∷◌, [], sym, ap, ◌∙◌, append_assoc, List}
use Rattle.std.specs.Vec.Iter.{into_iter_items}
use Rattle.std.proofs.lemmas.Result.{err_from_is_err_and}
use Rattle.form_stmts.specs.Line.{PlacedLine}
use Rattle.form_blocks.specs.Blocks.{fault_at_end}
use Rattle.form_stmts.proofs.Lines.{refused_here, refused_read, nothing_left, reads_line, refused_at_line, program_read, lawful_read}
use Rattle.form_stmts.proofs.program.read_program.Goals as goal

pub loop-line-preserved : goal.loop-line-preserved
loop-line-preserved c = record {
  split = append_assoc c.loop-line.yielded (c.in-Some.line ∷ []) (into_iter_items c.next.new.self) ∙ ap (λ (rest : List PlacedLine). c.loop-line.yielded ++ rest) (sym c.in-Some.ensures.steps.0) ∙ c.loop-line.invariant.split;
  read = reads_line c.loop-line.yielded c.in-Some.line c.loop-line.reader c.take_line.new.self c.loop-line.invariant.read c.in_ok-take_line.ensures.read;
}

pub returns-in_err-take_line-clause-refused : goal.returns-in_err-take_line-clause-refused
returns-in_err-take_line-clause-refused c =
    let p = err_from_is_err_and c.from_residual.result c.from_residual.ensures.1 in
    rw (p.1, p.2)
    (refused_at_line c.one_list_of_tokens.ensures.some c.args.lines.items c.loop-line.yielded (into_iter_items c.next.new.self) c.in-Some.line c.loop-line.reader _
    (ap (λ (rest : List PlacedLine). c.loop-line.yielded ++ rest) (sym c.in-Some.ensures.steps.0) ∙ c.loop-line.invariant.split)
    c.loop-line.invariant.read c.in_err-take_line.ensures.refused)

pub returns-in-Ok-clause-program : goal.returns-in-Ok-clause-program
returns-in-Ok-clause-program c = program_read c.args.lines.items c.loop-line.yielded (into_iter_items c.loop-line.line-iterator) c.loop-line.reader c.loop-line.invariant.split (nothing_left c.loop-line.line-iterator c.in-None.ensures.steps.0) c.in-Ok.ensures.done.0 c.loop-line.invariant.read

pub returns-in-Ok-clause-lawful : goal.returns-in-Ok-clause-lawful
returns-in-Ok-clause-lawful c = lawful_read c.args.lines.items c.loop-line.reader.modules.items (program_read c.args.lines.items c.loop-line.yielded (into_iter_items c.loop-line.line-iterator) c.loop-line.reader c.loop-line.invariant.split (nothing_left c.loop-line.line-iterator c.in-None.ensures.steps.0) c.in-Ok.ensures.done.0 c.loop-line.invariant.read)

pub returns-clause-refused : goal.returns-clause-refused
returns-clause-refused c = refused_read c.args.lines.items c.loop-line.yielded (into_iter_items c.loop-line.line-iterator) c.loop-line.reader c.in-Err.spot c.loop-line.invariant.split (nothing_left c.loop-line.line-iterator c.in-None.ensures.steps.0)
    (refused_here (fault_at_end c.loop-line.reader.current) c.in-Err.ensures.refused.0 c.in-Err.spot c.in-Err.ensures.refused.1 c.in-Err.ensures.refused.2) c.loop-line.invariant.read
