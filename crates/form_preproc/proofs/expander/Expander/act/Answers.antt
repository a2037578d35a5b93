use Rattle.std.proofs.Common.{sym, subst}
use Rattle.form_preproc.proofs.Asking.{followed_plain}
use Rattle.form_preproc.proofs.Shallow.{followed_shallow}
use Rattle.form_preproc.proofs.Stepping.{acted_told, stopped_told}
use Rattle.form_preproc.specs.Plainness.{FramesArePlain}
use Rattle.form_preproc.specs.Shallow.{AreShallow}
use Rattle.form_preproc.proofs.expander.Expander.act.Goals as goal

pub returns-in-Ok-clause-stepped : goal.returns-in-Ok-clause-stepped
returns-in-Ok-clause-stepped g c =
    acted_told (g.L.Library.texts c.args.library.now) c.args.entry c.args.depth c.args.self.now.frames c.push.new.self c.args.self.now.machine c.args.source.now.value c.args.place c.args.line.now
    c.requires.opens c.requires.behind c.in-Ok.action c.act.new.self c.follow.result c.follow.new.self c.in-Ok.ensures.leads c.in-Ok.ensures.kept c.in_default.ensures.pushed c.follow.ensures

pub returns-in-Err-act-clause-stepped : goal.returns-in-Err-act-clause-stepped
returns-in-Err-act-clause-stepped g c =
    stopped_told (g.L.Library.texts c.args.library.now) c.args.entry c.args.depth c.args.self.now.frames c.args.self.now.machine c.args.source.now.value c.args.place c.args.line.now
    c.requires.opens c.requires.behind c.in-Err-act.error c.act.new.self c.in-Err-act.ensures.leads

pub returns-in-Ok-clause-plain : goal.returns-in-Ok-clause-plain
returns-in-Ok-clause-plain g c = λ a p.
    followed_plain (record { machine = c.act.new.self; frames = c.push.new.self }) c.follow.new.self c.in-Ok.action c.follow.result c.follow.ensures (c.in-Ok.ensures.plain p.0)
    (subst FramesArePlain (sym c.in_default.ensures.pushed) (a, p.1))

pub follow-requires : goal.follow-requires
follow-requires g c = subst AreShallow (sym c.in_default.ensures.pushed) (c.requires.deep, c.requires.shallow)

pub returns-in-Ok-clause-shallow : goal.returns-in-Ok-clause-shallow
returns-in-Ok-clause-shallow g c =
    followed_shallow (record { machine = c.act.new.self; frames = c.push.new.self }) c.follow.new.self c.in-Ok.action c.follow.result c.follow.ensures
    (subst AreShallow (sym c.in_default.ensures.pushed) (c.requires.deep, c.requires.shallow))
