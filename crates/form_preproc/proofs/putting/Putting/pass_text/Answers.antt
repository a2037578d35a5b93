use Rattle.std.proofs.Common.{sym, ◌∙◌}
use Rattle.form_preproc.proofs.Reading.{passed_text, kept_text}
use Rattle.form_preproc.proofs.putting.Putting.pass_text.Goals as goal

pub returns-then-len-eq0 : goal.returns-then-len-eq0
returns-then-len-eq0 c = λ p like. passed_text p c.args.self.now c.args.text.now like (sym c.len.ensures ∙ c.if-len-eq0.true)

pub returns : goal.returns
returns c = λ p like. rw c.in_ok-append.ensures (kept_text p c.args.self.now c.args.text.now like (λ e. c.if-len-eq0.false (c.len.ensures ∙ e)))
