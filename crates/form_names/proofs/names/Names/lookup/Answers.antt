use Rattle.std.proofs.Common.{◌∙◌, ap, arith}
use Rattle.form_names.specs.Names.{lookup}
use Rattle.form_names.proofs.Letters.{one_letter}
use Rattle.form_names.proofs.names.Names.lookup.Goals as goal

pub returns-in-len1-clause-found : goal.returns-in-len1-clause-found
returns-in-len1-clause-found c =
    c.letter.ensures.found ∙ ap (lookup c.args.self.now) (one_letter c.as_bytes.result.now (omega (arith, c.in-len1.len_at_least, c.in-len1.len_below)) ∙ c.as_bytes.ensures.value)
