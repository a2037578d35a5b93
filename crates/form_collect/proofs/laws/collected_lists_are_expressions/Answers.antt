use Rattle.form_collect.proofs.Summands.{collected_summands, collected_argument}
use Rattle.form_collect.proofs.laws.collected_lists_are_expressions.Goals as goal

pub returns-clause-summands : goal.returns-clause-summands
returns-clause-summands c = collected_summands

pub returns-clause-argument : goal.returns-clause-argument
returns-clause-argument c = collected_argument
