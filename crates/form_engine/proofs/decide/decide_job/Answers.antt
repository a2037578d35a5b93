use Rattle.form_engine.proofs.Carried.{job_decided}
use Rattle.form_engine.proofs.decide.decide_job.Goals as goal

pub returns-clause-outcome : goal.returns-clause-outcome
returns-clause-outcome g c =
    job_decided c.args.job (g.L.Library.texts c.args.library.now) c.expand-expanded.result c.answer_to.result c.expand-expanded.ensures.expanded c.answer_to.ensures.outcome
