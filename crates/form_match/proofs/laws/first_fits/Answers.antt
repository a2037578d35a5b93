use Rattle.form_match.proofs.Held.{first_fits}
use Rattle.form_match.proofs.laws.first_fits.Goals as goal

pub returns : goal.returns
returns c = λ table fs t cuts is_exact m lawful is. first_fits t lawful table fs cuts is_exact m is
