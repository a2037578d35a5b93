use Rattle.std.proofs.Common.{refl}
use Rattle.form_preproc.specs.Putting.{with_text}
use Rattle.form_preproc.proofs.putting.Putting.put_value.Goals as goal

pub returns-in_ok-read_text-in-Some : goal.returns-in_ok-read_text-in-Some
returns-in_ok-read_text-in-Some c = λ p same. rw c.in-Some.ensures (with_text p c.in-Some.value.now, refl, c.in_ok-read_text-in-Some.ensures p same)
