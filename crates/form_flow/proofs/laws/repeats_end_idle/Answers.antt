use Rattle.form_flow.proofs.Turning.{turns_idle}
use Rattle.form_flow.proofs.laws.repeats_end_idle.Goals as goal

pub returns : goal.returns
returns c = λ n once m. turns_idle once n m
