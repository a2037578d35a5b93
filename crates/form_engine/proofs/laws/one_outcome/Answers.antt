use Rattle.form_engine.proofs.Outcomes.{some_outcome, unique_outcome}
use Rattle.form_engine.proofs.laws.one_outcome.Goals as goal

pub returns-clause-some : goal.returns-clause-some
returns-clause-some c = some_outcome (record {
  some_expansion = c.one_expansion.ensures.some;
  one_expansion = c.one_expansion.ensures.unique;
  some_reading = c.one_reading.ensures.some;
  one_program = c.one_reading.ensures.one_program;
  one_refusal = c.one_reading.ensures.one_refusal;
  never_both = c.one_reading.ensures.never_both;
})

pub returns-clause-unique : goal.returns-clause-unique
returns-clause-unique c = unique_outcome (record {
  some_expansion = c.one_expansion.ensures.some;
  one_expansion = c.one_expansion.ensures.unique;
  some_reading = c.one_reading.ensures.some;
  one_program = c.one_reading.ensures.one_program;
  one_refusal = c.one_reading.ensures.one_refusal;
  never_both = c.one_reading.ensures.never_both;
})
