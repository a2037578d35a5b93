use Rattle.form_collect.proofs.Collected.{collected_rise, collected_present}
use Rattle.form_collect.proofs.Rising.{collected_again}
use Rattle.form_collect.proofs.laws.collected_lists.Goals as goal

pub returns-clause-rising : goal.returns-clause-rising
returns-clause-rising c = collected_rise

pub returns-clause-present : goal.returns-clause-present
returns-clause-present c = collected_present

pub returns-clause-again : goal.returns-clause-again
returns-clause-again c = collected_again
