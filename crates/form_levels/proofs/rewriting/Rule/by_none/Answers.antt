use Rattle.std.proofs.Common.{[], ◌∷◌, replicate, sym, subst}
use Rattle.std.proofs.lemmas.Result.{IfOk-weaker}
use Rattle.form_expand.specs.Listing.{Listing}
use Rattle.form_flow.specs.Rewriting.{right_with}
use Rattle.form_levels.specs.Becoming.{IsRowOf}
use Rattle.form_levels.proofs.Becoming.{kept_for, list_found}
use Rattle.form_levels.proofs.rewriting.Rule.by_none.Goals as goal

pub times-requires-clause-kept : goal.times-requires-clause-kept
times-requires-clause-kept c =
    let r = c.args.self.now in
    c.requires.kept c.terms.result.now (list_found r.limit _ _ _ _ c.right-right.ensures (rw c.in-Some.is at c.in_ok-list.ensures) c.terms.ensures)

pub returns-clause-kept : goal.returns-clause-kept
returns-clause-kept c =
    let r = c.args.self.now in
    kept_for r.limit (r.part.now ∷ []) c.terms.result.now c.times.new.powers
    (list_found r.limit _ _ _ _ c.right-right.ensures (rw c.in-Some.is at c.in_ok-list.ensures) c.terms.ensures) c.times.ensures.kept

pub returns-clause-row : goal.returns-clause-row
returns-clause-row c =
    let r = c.args.self.now in
    let front = c.args.front in
    let n = c.args.times in
    IfOk-weaker c.times.result _ (IsRowOf r.limit (replicate n (right_with r.limit r.part.now.right [])) front)
    (λ made row. subst (λ (l : Listing). IsRowOf r.limit (replicate n l) front made) (sym (list_found r.limit _ _ _ _ c.right-right.ensures (rw c.in-Some.is at c.in_ok-list.ensures) c.terms.ensures)) row)
    c.times.ensures.row
