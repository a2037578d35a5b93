use Rattle.form_print.proofs.Joined.{whole_term}
use Rattle.form_print.proofs.print.push_term.Goals as goal

pub returns : goal.returns
returns c =
    whole_term c.args.names.now c.args.term.now _ _ _ _ _ _ _ _ _ _ _ _ _ _ _ _ _ _ _ _ _ _
    c.is_imaginary.ensures c.powers.ensures.powers c.dots.ensures c.components.ensures c.deltas.ensures c.functions.ensures c.word.ensures
    c.in_ok-at_symbols.ensures.put c.in_ok-at_symbols.ensures.first
    c.in_ok-at_dots.ensures.put c.in_ok-at_dots.ensures.first
    c.in_ok-at_components.ensures.put c.in_ok-at_components.ensures.first
    c.in_ok-at_deltas.ensures.put c.in_ok-at_deltas.ensures.first
    c.in_ok-at_functions.ensures.put c.in_ok-at_functions.ensures.first
    c.in_ok-at_word.ensures.put c.in_ok-at_word.ensures.first
    c.in_ok-push_factors.ensures.put
