use Rattle.form_grammar.proofs.Parts.{goes_on, taken, fails}
use Rattle.form_grammar.proofs.right_side.RightSide.take.Goals as goal

pub returns-in-Ok : goal.returns-in-Ok
returns-in-Ok c =
    let s = c.args.self.now in
    goes_on s (record { reader = c.take.new.self; has_failed = s.has_failed }) c.args.terminal (taken s.reader c.take.new.self c.args.terminal s.has_failed c.if-self.false c.in-Ok.ensures)

pub returns-in-Err : goal.returns-in-Err
returns-in-Err c = fails c.args.self.now c.fail.new.self c.args.terminal c.in-Err.error c.if-self.false c.in-Err.ensures c.fail.result c.fail.ensures.syntax c.fail.ensures.failed
