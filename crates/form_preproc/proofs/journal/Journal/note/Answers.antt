use Rattle.std.proofs.Common.{rules}
use Rattle.form_preproc.proofs.Changes.{noted_as_it_is, noted_with, below_more}
use Rattle.form_preproc.proofs.journal.Journal.note.Goals as goal

pub returns-then-not-is_noted-clause-noted : goal.returns-then-not-is_noted-clause-noted
returns-then-not-is_noted-clause-noted c =
    let v = c.args.self.now in
    noted_with v.marks c.in-Some.mark.now c.in-Some.ensures.0 v.changes.items c.keep.new.self.changes.items (record { place = c.args.place; height = c.args.height }) c.in-Some.ensures.1 v.marked c.keep.ensures.kept

pub returns-else-not-is_noted-clause-noted : goal.returns-else-not-is_noted-clause-noted
returns-else-not-is_noted-clause-noted c =
    let v = c.args.self.now in
    noted_as_it_is v.marks c.in-Some.mark.now c.in-Some.ensures.0 v.changes.items c.args.place c.args.height c.in-Some.ensures.1 (search rules)

pub returns-then-not-is_noted-clause-below : goal.returns-then-not-is_noted-clause-below
returns-then-not-is_noted-clause-below c = λ size lt h.
    below_more c.args.self.now.changes.items c.keep.new.self.changes.items (record { place = c.args.place; height = c.args.height }) size c.keep.ensures.kept lt h
