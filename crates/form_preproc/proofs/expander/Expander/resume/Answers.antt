use Rattle.std.proofs.Common.{Ok}
use Rattle.form_preproc.proofs.Asking.{done_plain, followed_plain, resumed_plain}
use Rattle.form_preproc.proofs.Shallow.{followed_shallow}
use Rattle.form_preproc.proofs.Stepping.{resumed_step, resumed_stop}
use Rattle.form_preproc.specs.Expansion.{resumed}
use Rattle.form_preproc.specs.Machine.{state_of, calls_of, after_of}
use Rattle.form_preproc.specs.Variables.{first_heights}
use Rattle.form_preproc.proofs.expander.Expander.resume.Goals as goal

pub returns-in-Ok-clause-stepped : goal.returns-in-Ok-clause-stepped
returns-in-Ok-clause-stepped c = λ texts lines depth o.
    resumed_step texts lines depth o c.args.after c.args.self.now.frames c.args.self.now.machine c.in-Ok.action c.resume.new.self c.follow.result c.follow.new.self
    c.in-Ok.ensures.done c.in-Ok.ensures.kept c.follow.ensures

pub returns-in-Err-clause-stepped : goal.returns-in-Err-clause-stepped
returns-in-Err-clause-stepped c = λ texts lines depth o.
    resumed_stop texts lines depth o c.args.after c.args.self.now.frames c.args.self.now.machine c.in-Err.stop c.resume.new.self c.in-Err.ensures.done

pub returns-in-Ok-clause-plain : goal.returns-in-Ok-clause-plain
returns-in-Ok-clause-plain c = λ a p.
    let m = c.args.self.now.machine in
    let heights = first_heights (calls_of m) in
    followed_plain (record { machine = c.resume.new.self; frames = c.args.self.now.frames }) c.follow.new.self c.in-Ok.action c.follow.result c.follow.ensures
    (done_plain (resumed (after_of c.args.after heights) (state_of m)) (Ok c.in-Ok.action) c.resume.new.self (resumed_plain c.args.after heights (state_of m) a p.0) c.in-Ok.ensures.done) p.1

pub returns-in-Ok-clause-shallow : goal.returns-in-Ok-clause-shallow
returns-in-Ok-clause-shallow c =
    followed_shallow (record { machine = c.resume.new.self; frames = c.args.self.now.frames }) c.follow.new.self c.in-Ok.action c.follow.result c.follow.ensures c.requires
