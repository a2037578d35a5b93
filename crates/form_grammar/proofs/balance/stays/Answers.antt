use Rattle.form_grammar.proofs.Remaining.{stays_keyed}
use Rattle.form_grammar.proofs.balance.stays.Goals as goal

pub returns-in_ok-is_cancelled-in-Keyed : goal.returns-in_ok-is_cancelled-in-Keyed
returns-in_ok-is_cancelled-in-Keyed c = stays_keyed c.args.weights.now c.args.weight.now _ _ _ c.in_ok-is_cancelled-in-Keyed.field-0 c.in-Keyed.is c.in_ok-is_cancelled-in-Keyed.ensures
