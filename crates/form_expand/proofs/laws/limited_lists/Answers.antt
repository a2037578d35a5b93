use Rattle.form_expand.proofs.Listings.{limited_more, limited_none, limited_nothing, limited_refusal, limited_again}
use Rattle.form_expand.proofs.laws.limited_lists.Goals as goal

pub returns-clause-begun : goal.returns-clause-begun
returns-clause-begun c = limited_more

pub returns-clause-beyond : goal.returns-clause-beyond
returns-clause-beyond c = limited_none

pub returns-clause-none : goal.returns-clause-none
returns-clause-none c = limited_nothing

pub returns-clause-refused : goal.returns-clause-refused
returns-clause-refused c = limited_refusal

pub returns-clause-again : goal.returns-clause-again
returns-clause-again c = limited_again
