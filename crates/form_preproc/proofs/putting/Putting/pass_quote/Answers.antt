use Rattle.std.proofs.Common.{◌≡◌, ◌++◌, ap, sym, ◌∙◌, arith, refl}
use Rattle.form_preproc.specs.Kept.{kept_in}
use Rattle.form_preproc.specs.Variables.{newest}
use Rattle.form_preproc.proofs.Reading.{passed_quote, passed_inner, passed_outer}
use Rattle.form_preproc.proofs.putting.Putting.pass_quote.Goals as goal

pub returns-in-None : goal.returns-in-None
returns-in-None c = λ p like. passed_quote (kept_in c.args.variables.now).values p c.args.self.now c.pop.new.self like c.in-None.ensures.popped.0 c.in-None.ensures.popped.1

pub returns-in-Some-newest : goal.returns-in-Some-newest
returns-in-Some-newest c = λ p like.
    let values = (kept_in c.args.variables.now).values in
    let name : c.as_slice.result.now ≡ c.args.self.now.text = c.as_slice.ensures ∙ c.replace-name.ensures.value in
    passed_inner values p c.args.self.now (record { outer = c.pop.new.self; text = c.append.new.self }) c.in-Some.before c.in-Some-newest.value.now c.pop.new.self like c.in-Some.ensures.popped (omega (arith, c.if-len-gt0.true, c.len.ensures))
    (ap (newest values) (sym name) ∙ c.in-Some-newest.ensures) refl (c.in_ok-append-in-Some-newest.ensures ∙ ap (λ t. t ++ c.in-Some-newest.value.now) c.replace-name.ensures.after)

pub returns-in-Some-2 : goal.returns-in-Some-2
returns-in-Some-2 c = λ p like.
    let values = (kept_in c.args.variables.now).values in
    let name : c.as_slice.result.now ≡ c.args.self.now.text = c.as_slice.ensures ∙ c.replace-name.ensures.value in
    passed_outer values p c.args.self.now (record { outer = c.pop.new.self; text = c.replace-name.new.dest }) c.in-Some.before c.in-Some-2.field-0.now c.pop.new.self like c.in-Some.ensures.popped (omega (arith, c.if-len-gt0.false, c.len.ensures))
    (ap (newest values) (sym name) ∙ c.in-Some-2.ensures) refl
