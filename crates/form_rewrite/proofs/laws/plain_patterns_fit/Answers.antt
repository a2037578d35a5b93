use Rattle.form_rewrite.proofs.Plainly.{plain_fits}
use Rattle.form_rewrite.proofs.laws.plain_patterns_fit.Goals as goal

pub returns : goal.returns
returns c = plain_fits
