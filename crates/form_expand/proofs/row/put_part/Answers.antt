use Rattle.std.proofs.Common.{sym, ◌∙◌}
use Rattle.std.proofs.lemmas.Result.{on_ok_weaker}
use Rattle.form_expand.specs.Factors.{factor_lists}
use Rattle.form_expand.proofs.Factored.{term_limited}
use Rattle.form_expand.specs.Singles.{once}
use Rattle.form_expand.proofs.row.put_part.Goals as goal

pub returns-in-Word : goal.returns-in-Word
returns-in-Word c =
    let max = c.args.limit in
    rw c.in-Word.is (on_ok_weaker c.put_whole-in-Word.result
    (λ put more. sym (term_limited max (factor_lists max c.args.factors.now) (once c.in-Word.term) more) ∙ (rw (c.single.ensures, c.one.ensures) at put) more)
    c.put_whole-in-Word.ensures)
