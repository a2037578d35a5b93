use Rattle.form_preproc.proofs.Taken.{close_at}
use Rattle.form_preproc.proofs.source.Source.close.Goals as goal

pub returns : goal.returns
returns c = rw c.link-link.ensures (close_at c.args.self.now c.args.place c.requires)
