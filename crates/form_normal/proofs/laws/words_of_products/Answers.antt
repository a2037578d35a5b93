use Rattle.form_normal.proofs.Units.{word_made}
use Rattle.form_normal.proofs.laws.words_of_products.Goals as goal

pub returns : goal.returns
returns c = word_made
