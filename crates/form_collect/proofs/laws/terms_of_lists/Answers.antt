use Rattle.form_collect.proofs.Lists.{terms_rise, has-terms_of}
use Rattle.form_collect.proofs.laws.terms_of_lists.Goals as goal

pub returns-clause-rising : goal.returns-clause-rising
returns-clause-rising c = terms_rise

pub returns-clause-occurring : goal.returns-clause-occurring
returns-clause-occurring c = has-terms_of
