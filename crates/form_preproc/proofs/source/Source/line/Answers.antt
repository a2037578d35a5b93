use Rattle.form_preproc.proofs.Taken.{line_at}
use Rattle.form_preproc.proofs.source.Source.line.Goals as goal

pub returns : goal.returns
returns c = line_at c.args.self.now c.args.place c.get.result (rw c.deref.ensures.value at c.get.ensures.lookup.3) (rw c.deref.ensures.value at c.get.ensures.lookup.1)
