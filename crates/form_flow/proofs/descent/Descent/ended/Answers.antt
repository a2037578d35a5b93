use Rattle.std.proofs.Common.{sym, ◌∙◌}
use Rattle.form_flow.proofs.Waiting.{ended_done, ended_refused}
use Rattle.form_flow.proofs.descent.Descent.ended.Goals as goal

pub returns-in-Some-clause-begins : goal.returns-in-Some-clause-begins
returns-in-Some-clause-begins c = ended_refused c.args.self.now c.requires.first c.requires.frames c.in-Some.cause (sym c.take.ensures.value ∙ c.in-Some.is)

pub returns-in-None-clause-begins : goal.returns-in-None-clause-begins
returns-in-None-clause-begins c =
    let s = c.args.self.now in (
      ended_done s c.requires.first c.requires.frames (sym c.take.ensures.value ∙ c.in-None.is),
      ended_done (record s { end = c.take.new.self }) c.requires.first c.requires.frames c.take.ensures.after,
    )
