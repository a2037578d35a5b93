use Rattle.std.proofs.Common.{sym, ◌∙◌}
use Rattle.form_grammar.proofs.Shaped.{none_last, last_kept, last_made}
use Rattle.form_grammar.proofs.weights.Weights.change.Goals as goal

pub returns-in_default : goal.returns-in_default
returns-in_default c = none_last c.args.change c.args.self c.in_default.ensures

pub returns-in_default-changed : goal.returns-in_default-changed
returns-in_default-changed c = last_kept c.args.change c.args.self c.pop.new.self c.in-Some.last c.in-Some.ensures (sym c.changed.ensures ∙ c.in_default-changed.is)

pub returns : goal.returns
returns c = last_made c.args.change c.args.self c.pop.new.self c.push.new.self c.in-Some.last c.in-Some-changed.last c.in-Some.ensures (sym c.in-Some-changed.ensures) c.in_ok-push.ensures
