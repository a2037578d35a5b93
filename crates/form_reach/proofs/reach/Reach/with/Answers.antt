use Rattle.std.proofs.Common.{rules}
use Rattle.form_reach.proofs.Reaching.{wider_left, wider_right}
use Rattle.form_reach.proofs.reach.Reach.with.Goals as goal

pub returns : goal.returns
returns c = λ m. (
  (λ h. wider_left c.args.self c.args.other (record { exponents = c.max.result; size = c.max-2.result; weight = c.in_ok-join.field-0 }) (search rules) (search rules) (search rules) (search rules) (search rules) m h),
  (λ h. wider_right c.args.self c.args.other (record { exponents = c.max.result; size = c.max-2.result; weight = c.in_ok-join.field-0 }) (search rules) (search rules) (search rules) (search rules) (search rules) m h),
)
