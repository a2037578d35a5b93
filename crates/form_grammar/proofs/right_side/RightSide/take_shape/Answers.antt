use Rattle.form_lexer.specs.Reading.{kind_of}
use Rattle.form_grammar.specs.Terminal.{kind_terminal}
use Rattle.form_grammar.specs.declared.terminal.Terminal.{Terminal}
use Rattle.form_grammar.proofs.Parts.{goes_on, taken, fails}
use Rattle.form_grammar.proofs.right_side.RightSide.take_shape.Goals as goal

pub returns-in-Ok : goal.returns-in-Ok
returns-in-Ok c =
    let s = c.args.self.now in
    let t : Terminal = kind_terminal (kind_of c.args.shape c.args.text.now) c.args.spot in
    goes_on s (record { reader = c.take_shape.new.self; has_failed = s.has_failed }) t (taken s.reader c.take_shape.new.self t s.has_failed c.if-self.false c.in-Ok.ensures)

pub returns-in-Err : goal.returns-in-Err
returns-in-Err c =
    let t : Terminal = kind_terminal (kind_of c.args.shape c.args.text.now) c.args.spot in
    fails c.args.self.now c.fail.new.self t c.in-Err.error c.if-self.false c.in-Err.ensures c.fail.result c.fail.ensures.syntax c.fail.ensures.failed
