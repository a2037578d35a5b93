use Rattle.form_flow.proofs.Waiting.{last_and_refused}
use Rattle.form_flow.proofs.descent.Descent.take_last.Goals as goal

pub returns : goal.returns
returns c =
    last_and_refused c.take_frame-item.result c.args.cause c.args.self.now c.take_frame-item.new.self c.refuse.new.self
    c.take_frame-item.ensures c.refuse.ensures.same c.refuse.ensures.none
