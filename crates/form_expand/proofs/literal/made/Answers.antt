use Rattle.form_expand.proofs.literal.made.Goals as goal

pub returns-in-Err : goal.returns-in-Err
returns-in-Err c = λ is_made. absurd (c.unmade.ensures is_made)
