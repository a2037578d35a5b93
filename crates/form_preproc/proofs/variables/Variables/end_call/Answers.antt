use Rattle.form_preproc.proofs.Stacks.{ended_call}
use Rattle.form_preproc.proofs.variables.Variables.end_call.Goals as goal

pub returns-in-Some : goal.returns-in-Some
returns-in-Some c =
    let v = c.args.self.now in
    let w = c.cut_since.new.self in
    ended_call v.places w.places v.stacks.items w.stacks.items v.journal.changes.items c.end.new.self.changes.items w.journal.changes.items c.in-Some.mark v.journal.marks c.end.new.self.marks w.journal.marks
    c.in-Some.ensures.ended.0 v.placed c.in-Some.ensures.ended.2 c.cut_since.ensures.places c.end.ensures.same.0 c.cut_since.ensures.cut c.cut_since.ensures.told c.cut_since.ensures.marks
