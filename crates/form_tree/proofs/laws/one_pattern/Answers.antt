use Rattle.form_tree.proofs.Factors as factors
use Rattle.form_tree.proofs.laws.one_pattern.Goals as goal

pub returns : goal.returns
returns c = factors.one_pattern
