use Rattle.form_expand.proofs.Recording.{collected_recordable, lists_of_summands, lists_recordable}
use Rattle.form_expand.proofs.laws.lists_are_recordable.Goals as goal

pub returns-clause-summands : goal.returns-clause-summands
returns-clause-summands c = lists_of_summands

pub returns-clause-recordable : goal.returns-clause-recordable
returns-clause-recordable c = lists_recordable

pub returns-clause-collected : goal.returns-clause-collected
returns-clause-collected c = collected_recordable
