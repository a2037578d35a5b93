use Rattle.std.proofs.Common.{◌∙◌, ◌+◌, ◌-◌, ◌*◌, ◌<◌, ℕ, List, ap, sym, arith, drop, get_or, Some, pos}
use Rattle.std.proofs.Math.Seq.{drop-cons}
use Rattle.std.proofs.lemmas.List.{take_rest}
use Rattle.form_calc.specs.Number.{read_up}
use Rattle.form_calc.proofs.Few.{read_more}
use Rattle.form_calc.proofs.operand.read_few.Goals as goal

pub loop-rest-preserved : goal.loop-rest-preserved
loop-rest-preserved c =
    let rest : List ℕ = c.loop-rest.rest.now in
    let fits : get_or rest 0 0 - 48 < 256 = omega (arith, c.saturating_sub.ensures) in
    rw (c.from.ensures, c.saturating_sub.ensures)
    (c.loop-rest.invariant ∙ ap (read_up (Some (pos c.loop-rest.few))) (drop-cons rest 0 0 (omega (arith, c.in-len1-up.len_at_least)))
    ∙ read_more c.loop-rest.few (get_or rest 0 0) (drop 1 rest) (omega (arith, c.if-few-gt-FEW.false)) fits
    ∙ ap (read_up (Some (pos (c.loop-rest.few * 10 + (get_or rest 0 0 - 48))))) (sym (take_rest rest 1)))
