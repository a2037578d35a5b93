use Rattle.form_expand.specs.Kept.{listing}
use Rattle.form_expand.proofs.Places.{begins_at}
use Rattle.form_expand.proofs.whole.Whole.at.Goals as goal

pub returns-clause-first : goal.returns-clause-first
returns-clause-first c = begins_at (listing c.args.self.now) c.args.place c.get.result (rw c.as_slice.ensures at c.get.ensures.lookup)
