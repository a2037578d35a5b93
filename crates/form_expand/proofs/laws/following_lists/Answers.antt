use Rattle.form_expand.proofs.Listings.{followed_assoc, followed_nothing, followed_last, followed_before, followed_refusal}
use Rattle.form_expand.proofs.laws.following_lists.Goals as goal

pub returns-clause-associative : goal.returns-clause-associative
returns-clause-associative c = followed_assoc

pub returns-clause-first : goal.returns-clause-first
returns-clause-first c = followed_nothing

pub returns-clause-last : goal.returns-clause-last
returns-clause-last c = followed_last

pub returns-clause-begun : goal.returns-clause-begun
returns-clause-begun c = followed_before

pub returns-clause-refused : goal.returns-clause-refused
returns-clause-refused c = followed_refusal
