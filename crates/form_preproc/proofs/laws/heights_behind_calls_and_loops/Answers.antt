use Rattle.form_preproc.proofs.Heights.{heights_behind_call, height_behind_loop, oldest_stay}
use Rattle.form_preproc.proofs.laws.heights_behind_calls_and_loops.Goals as goal

pub returns-clause-calls : goal.returns-clause-calls
returns-clause-calls c = λ texts depth s after place head d name. heights_behind_call texts depth s after place head d name

pub returns-clause-turns : goal.returns-clause-turns
returns-clause-turns c = λ texts depth s after place name turns body d. height_behind_loop texts depth s after place name turns body d

pub returns-clause-stood : goal.returns-clause-stood
returns-clause-stood c = oldest_stay
