use Rattle.std.proofs.Common.{◌==◌, not, List, length, ap, ◌∙◌}
use Rattle.form_term.specs.declared.power.Power.{Power}
use Rattle.form_term.specs.declared.power.DotPower.{DotPower}
use Rattle.form_term.specs.declared.index.Component.{Component}
use Rattle.form_term.specs.declared.index.Delta.{Delta}
use Rattle.form_term.specs.Term.{Call, is_nil}
use Rattle.form_match.specs.Left.{powers_left, dots_left, untaken, takes_component, takes_delta, takes_function}
use Rattle.form_match.specs.Whole.{length_left}
use Rattle.form_match.proofs.Wholly.{whole_is, word_gone}
use Rattle.form_match.proofs.whole.is_taken_whole.Goals as goal

pub returns : goal.returns
returns c =
    let t = c.args.term.now in
    let us = c.args.takes.now in
    whole_is t us c.are_powers_left.result c.is_imaginary.result c.are_dots_left.result c.are_left.result c.are_left-2.result c.are_left-3.result (c.word_len.result == 0)
    (c.are_powers_left.ensures ∙ ap (λ (ps : List Power). not (is_nil (powers_left us ps))) c.powers.ensures.powers)
    c.is_imaginary.ensures
    (c.are_dots_left.ensures ∙ ap (λ (ps : List DotPower). not (is_nil (dots_left us ps))) c.dots.ensures)
    (c.are_left.ensures ∙ ap (λ (ps : List Component). not (is_nil (untaken takes_component us ps))) c.components.ensures)
    (c.are_left-2.ensures ∙ ap (λ (ps : List Delta). not (is_nil (untaken takes_delta us ps))) c.deltas.ensures)
    (c.are_left-3.ensures ∙ ap (λ (ps : List Call). not (is_nil (untaken takes_function us ps))) c.functions.ensures)
    (word_gone us t.others.word c.word_len.result (c.word_len.ensures ∙ ap (λ (w : List Call). length_left us (length w)) c.word.ensures))
