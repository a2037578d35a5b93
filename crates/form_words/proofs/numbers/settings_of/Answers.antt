use Rattle.std.proofs.Common.{◌∙◌, sym}
use Rattle.clap.specs.Words.{first_value, found_of}
use Rattle.form_words.proofs.Made.{made, no_settings}
use Rattle.form_words.proofs.numbers.settings_of.Goals as goal

pub returns-in_err-max_expand : goal.returns-in_err-max_expand
returns-in_err-max_expand c =
    c.from_residual-in_err-max_expand.ensures ∙ sym (no_settings (first_value (found_of c.args.matches.now))
    (sym c.number.ensures.value ∙ c.in_ok-workers.was)
    (sym c.number-2.ensures.value ∙ c.in_ok-bucket.was)
    (sym c.number-3.ensures.value ∙ c.in_ok-buffer.was)
    (sym c.number-4.ensures.value ∙ c.in_ok-fan.was)
    (sym c.number-5.ensures.value ∙ c.in_ok-hold.was)
    (sym c.number-6.ensures.value ∙ c.in_ok-max_repeat.was)
    (sym c.number-7.ensures.value ∙ c.in_err-max_expand.was))

pub returns : goal.returns
returns c =
    sym (made (first_value (found_of c.args.matches.now))
    (sym c.number.ensures.value ∙ c.in_ok-workers.was)
    (sym c.number-2.ensures.value ∙ c.in_ok-bucket.was)
    (sym c.number-3.ensures.value ∙ c.in_ok-buffer.was)
    (sym c.number-4.ensures.value ∙ c.in_ok-fan.was)
    (sym c.number-5.ensures.value ∙ c.in_ok-hold.was)
    (sym c.number-6.ensures.value ∙ c.in_ok-max_repeat.was)
    (sym c.number-7.ensures.value ∙ c.in_ok-max_expand.was)
    (sym c.number-8.ensures.value ∙ c.in_ok-max_terms.was)
    c.if-hold-members.false c.if-fan-buffer.false)
