use Rattle.std.proofs.Common.{refl}
use Rattle.form_preproc.specs.Putting.{opened}
use Rattle.form_preproc.proofs.Reading.{opened_same}
use Rattle.form_preproc.proofs.putting.Putting.read_quote.Goals as goal

pub returns-then-opens : goal.returns-then-opens
returns-then-opens c = λ p same. rw (c.if-opens.true, c.in_ok-open.ensures) (opened p, refl, opened_same c.args.is_long p c.args.self.now same)
