use Rattle.std.proofs.Common.{sym, subst, ◌∙◌}
use Rattle.std.specs.List.{AllByRecursion}
use Rattle.std.specs.Prelude.{IfSome}
use Rattle.std.proofs.lemmas.Bool.{OnTrue_at, OnTrue_from}
use Rattle.form_levels.specs.Linear.{AreLinear, IsLinear, IsLinearBranch}
use Rattle.form_levels.proofs.Known.{choose_linear, repeat_linear}
use Rattle.form_levels.proofs.gathering.+known.Goals as goal

pub is_known-returns-in-Repeat : goal.is_known-returns-in-Repeat
is_known-returns-in-Repeat t c = OnTrue_from c.are_known.result (IsLinear c.args.action.now)
    (λ known. subst IsLinear (sym c.in-Repeat.is) (repeat_linear c.in-Repeat.block (subst AreLinear c.as_slice.ensures (OnTrue_at known c.are_known.ensures))))

pub is_known-returns-then-are_branches_known : goal.is_known-returns-then-are_branches_known
is_known-returns-then-are_branches_known t c = OnTrue_from c.is_last_known.result (IsLinear c.args.action.now)
    (λ known. subst IsLinear (sym c.in-Choose.is) (choose_linear c.in-Choose.branches c.in-Choose.last
    (subst (AllByRecursion IsLinearBranch) c.as_slice-in-Choose.ensures (OnTrue_at c.if-are_branches_known.true c.are_branches_known.ensures))
    (OnTrue_at known c.is_last_known.ensures)))
