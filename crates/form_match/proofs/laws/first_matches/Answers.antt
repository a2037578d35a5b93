use Rattle.form_match.proofs.Firsts.{none_first, some_first}
use Rattle.form_match.proofs.laws.first_matches.Goals as goal

pub returns : goal.returns
returns c = record { some = some_first; none = none_first }
