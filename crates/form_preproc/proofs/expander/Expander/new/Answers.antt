use Rattle.std.proofs.Common.{refl}
use Rattle.form_preproc.proofs.Asking.{begun_plain, one_plain}
use Rattle.form_preproc.proofs.Shallow.{one_shallow}
use Rattle.form_preproc.proofs.expander.Expander.new.Goals as goal

pub returns-clause-plain : goal.returns-clause-plain
returns-clause-plain c =
    (begun_plain c.in_ok-machine.machine c.args.file c.in_ok-machine.ensures.begun, one_plain c.push.new.self c.new-frames.result _ c.in_ok-push.ensures.pushed c.new-frames.ensures tt)

pub returns-clause-shallow : goal.returns-clause-shallow
returns-clause-shallow c = one_shallow c.push.new.self c.new-frames.result _ c.in_ok-push.ensures.pushed c.new-frames.ensures refl
