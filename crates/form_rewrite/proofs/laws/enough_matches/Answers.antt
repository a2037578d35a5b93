use Rattle.form_rewrite.proofs.Enough.{ended, same}
use Rattle.form_rewrite.proofs.Lighter.{lighter}
use Rattle.form_rewrite.proofs.laws.enough_matches.Goals as goal

pub returns : goal.returns
returns c = record {
  less = lighter;
  same = λ table fs x n lawful below. same c.first_fits.ensures c.left_is_term.ensures table fs x n lawful below;
  ended = λ table fs x lawful. ended c.first_fits.ensures c.left_is_term.ensures table fs x lawful;
}
