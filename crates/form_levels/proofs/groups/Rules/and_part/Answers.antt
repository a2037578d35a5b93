use Rattle.std.proofs.Common.{[], ◌∷◌, Ok, Some, None, ap, refl, subst, sym, ◌∙◌}
use Rattle.form_term.specs.Term.{Term}
use Rattle.form_rewrite.specs.Takes.{taken_in}
use Rattle.form_rewrite.specs.Taking.{taken_so_far}
use Rattle.form_rewrite.specs.declared.taken.Taken.{Taken}
use Rattle.form_flow.specs.Rewriting.{Rest, and_taken}
use Rattle.form_flow.proofs.Resting.{part_takes}
use Rattle.form_levels.specs.Groups.{IsRest, lists_behind, rest_in}
use Rattle.form_levels.proofs.groups.Rules.and_part.Goals as goal

pub returns-in-Untaken : goal.returns-in-Untaken
returns-in-Untaken c =
    let rest = c.args.rest in
    ap (λ (t : Term). record { left = t; cuts = []; behind = lists_behind rest.behind.items; has_matched = rest.has_matched }) (c.in_ok-left.ensures.untaken c.in-Untaken.left (ap Ok c.in-Untaken.is))
    ∙ part_takes c.args.self.now.limit (rest_in rest) c.args.part.now c.pattern-pattern.result.now c.option-option.result [] None refl c.pattern-pattern.ensures c.option-option.ensures
    (λ fs e. sym (ap taken_in c.in-Untaken.is) ∙ c.in_ok-left.ensures.taken fs e)

pub returns-in_ok-taken-in-Single : goal.returns-in_ok-taken-in-Single
returns-in_ok-taken-in-Single c =
    let max = c.args.self.now.limit in
    let rest = c.args.rest in
    let p = c.args.part.now in
    let one = c.in-Single.single in
    subst (λ (x : Rest). IsRest x c.and_taken.result)
    (ap (λ (x : Taken). and_taken max p.right (rest_in rest) (Some x)) c.in_ok-taken-in-Single.ensures
    ∙ part_takes max (rest_in rest) p c.pattern-pattern.result.now c.option-option.result [] (Some (taken_so_far one.left [] (one.bindings ∷ []) 1)) refl c.pattern-pattern.ensures c.option-option.ensures
    (λ fs e. sym (ap taken_in c.in-Single.is) ∙ c.in_ok-left.ensures.taken fs e))
    c.and_taken.ensures

pub returns-in-Several : goal.returns-in-Several
returns-in-Several c =
    let max = c.args.self.now.limit in
    let rest = c.args.rest in
    let p = c.args.part.now in
    subst (λ (x : Rest). IsRest x c.and_taken-in-Several.result)
    (part_takes max (rest_in rest) p c.pattern-pattern.result.now c.option-option.result [] (Some c.in-Several.taken) refl c.pattern-pattern.ensures c.option-option.ensures
    (λ fs e. sym (ap taken_in c.in-Several.is) ∙ c.in_ok-left.ensures.taken fs e))
    c.and_taken-in-Several.ensures
