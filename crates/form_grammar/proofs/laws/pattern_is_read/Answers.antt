use Rattle.form_grammar.proofs.Tested as tested
use Rattle.form_grammar.proofs.laws.pattern_is_read.Goals as goal

pub returns : goal.returns
returns c = tested.within_exactly
