use Rattle.form_preproc.proofs.Reading.{end_fails}
use Rattle.form_preproc.proofs.putting.ended.Goals as goal

pub returns-in-Err : goal.returns-in-Err
returns-in-Err c = λ p same. end_fails c.args.is_long p c.args.line c.in-Err.error same c.in-Err.ensures
