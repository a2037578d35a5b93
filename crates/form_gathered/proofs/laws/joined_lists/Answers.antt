use Rattle.form_gathered.proofs.Gathered.{collected_joined, sums_of_row, length_counted}
use Rattle.form_gathered.proofs.laws.joined_lists.Goals as goal

pub returns-clause-collected : goal.returns-clause-collected
returns-clause-collected c = collected_joined

pub returns-clause-sums : goal.returns-clause-sums
returns-clause-sums c = sums_of_row

pub returns-clause-long : goal.returns-clause-long
returns-clause-long c = λ n k js lists h within. length_counted n k within js lists h
