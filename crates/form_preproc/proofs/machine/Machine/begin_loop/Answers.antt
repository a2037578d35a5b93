use Rattle.std.proofs.Common.{add-one}
use Rattle.form_preproc.proofs.machine.Machine.begin_loop.Goals as goal

pub returns-clause-done : goal.returns-clause-done
returns-clause-done c =
    let turned = rw (c.in_ok-clone.ensures.cases, c.number.ensures, add-one) at c.first_turn.ensures.done in
    rw c.in_ok-found.ensures turned
