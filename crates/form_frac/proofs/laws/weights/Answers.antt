use Rattle.form_frac.proofs.Added.{added_within, weight_of_one, sum_of_one}
use Rattle.form_frac.proofs.Joined.{joined, over_another, moved, negated}
use Rattle.form_frac.proofs.Paired.{paired, each}
use Rattle.form_frac.proofs.laws.weights.Goals as goal

pub returns-clause-one : goal.returns-clause-one
returns-clause-one c = λ f l. (sum_of_one f l, weight_of_one f l)

pub returns-clause-fold : goal.returns-clause-fold
returns-clause-fold c = added_within

pub returns-clause-over : goal.returns-clause-over
returns-clause-over c = over_another

pub returns-clause-moved : goal.returns-clause-moved
returns-clause-moved c = moved

pub returns-clause-joined : goal.returns-clause-joined
returns-clause-joined c = joined

pub returns-clause-paired : goal.returns-clause-paired
returns-clause-paired c = paired

pub returns-clause-each : goal.returns-clause-each
returns-clause-each c = each

pub returns-clause-negated : goal.returns-clause-negated
returns-clause-negated c = negated
