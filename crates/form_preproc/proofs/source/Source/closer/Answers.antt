use Rattle.form_preproc.proofs.Taken.{closer_at}
use Rattle.form_preproc.proofs.source.Source.closer.Goals as goal

pub returns : goal.returns
returns c = rw c.link-link.ensures (closer_at c.args.self.now c.args.place c.requires)
