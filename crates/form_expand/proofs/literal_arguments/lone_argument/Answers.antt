use Rattle.form_expand.proofs.literal_arguments.lone_argument.Goals as goal

pub returns-in-Some-number_sum : goal.returns-in-Some-number_sum
returns-in-Some-number_sum c = record { present = c.in-Some-number_sum.ensures.present; read = c.in-Some-number_sum.ensures.read }
