use Rattle.form_match.proofs.Remaining.{rest_stays}
use Rattle.form_match.proofs.left.leave_rest.Goals as goal

pub returns-then-has_functions_alone : goal.returns-then-has_functions_alone
returns-then-has_functions_alone c =
    let none = rw c.if-has_functions_alone.true at c.has_functions_alone.ensures in
    rest_stays c.args.takes.now c.args.others.now none
