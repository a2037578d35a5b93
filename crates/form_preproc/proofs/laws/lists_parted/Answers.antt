use Rattle.form_preproc.proofs.Separated.{split_at_commas, split_at_commas_or_bars}
use Rattle.form_preproc.proofs.laws.lists_parted.Goals as goal

pub returns : goal.returns
returns c = record { commas = split_at_commas; bars = split_at_commas_or_bars }
