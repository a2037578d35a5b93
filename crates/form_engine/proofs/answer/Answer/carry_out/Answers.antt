use Rattle.form_engine.proofs.Answered.{refusal_carried}
use Rattle.form_engine.proofs.answer.Answer.carry_out.Goals as goal

pub returns-in-Refused-clause-carried : goal.returns-in-Refused-clause-carried
returns-in-Refused-clause-carried g c =
    refusal_carried (g.O.Sink.taken c.args.out.now) (g.O.Sink.taken c.refuse.new.out) c.args.self c.in-Refused.status c.refuse.result c.in-Refused.is c.refuse.ensures.carried
