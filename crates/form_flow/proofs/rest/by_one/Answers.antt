use Rattle.std.proofs.Common.{[], ◌∷◌, Some, None, Ok, ap, refl, subst, sym, ◌∙◌}
use Rattle.form_expand.specs.Left.{row}
use Rattle.form_expand.specs.Listing.{single}
use Rattle.form_match.specs.Ready.{ReadyPattern}
use Rattle.form_rewrite.specs.Takes.{taken_in}
use Rattle.form_rewrite.specs.Taking.{taken_so_far}
use Rattle.form_flow.specs.Outcome.{made}
use Rattle.form_flow.specs.Rewriting.{right_with, untouched}
use Rattle.form_flow.specs.Sources.{HasEffect}
use Rattle.form_flow.proofs.GivenCuts.{cuts_stay}
use Rattle.form_flow.proofs.Resting.{one_matched, one_unmatched, part_takes}
use Rattle.form_flow.proofs.rest.by_one.Goals as goal

pub returns-in-Untaken : goal.returns-in-Untaken
returns-in-Untaken c =
    let p = c.args.part.now in
    let m = c.args.item in
    one_unmatched c.args.limit p m (record { coefficient = m.coefficient; term = c.in-Untaken.term })
    (part_takes c.args.limit (untouched m.term) p c.pattern-pattern.result.now c.option-option.result [] None refl c.pattern-pattern.ensures c.option-option.ensures
    (λ fs e. sym (ap taken_in c.in-Untaken.is) ∙ c.in_ok-term.ensures.taken fs e))
    refl (c.in_ok-term.ensures.untaken c.in-Untaken.term (ap Ok c.in-Untaken.is))

pub returns-in-Single : goal.returns-in-Single
returns-in-Single c =
    let max = c.args.limit in
    let p = c.args.part.now in
    let m = c.args.item in
    let one = c.in-Single.single in
    subst (HasEffect c.times_right_side.result)
    (ap (λ s. made (row max (single (record { coefficient = m.coefficient; term = one.left }) ∷ right_with max s one.bindings ∷ []))) c.right-right.ensures
    ∙ one_matched max p m one.left one.bindings
    (part_takes max (untouched m.term) p c.pattern-pattern.result.now c.option-option.result [] (Some (taken_so_far one.left [] (one.bindings ∷ []) 1)) refl c.pattern-pattern.ensures c.option-option.ensures
    (λ fs e. sym (ap taken_in c.in-Single.is) ∙ c.in_ok-term.ensures.taken fs e)))
    c.times_right_side.ensures

pub returns-in-Several : goal.returns-in-Several
returns-in-Several c =
    let max = c.args.limit in
    let p = c.args.part.now in
    let m = c.args.item in
    c.put_taken.ensures p m c.right-right.ensures refl
    (part_takes max (untouched m.term) p c.pattern-pattern.result.now c.option-option.result [] (Some c.in-Several.taken) refl c.pattern-pattern.ensures c.option-option.ensures
    (λ fs e. sym (ap taken_in c.in-Several.is) ∙ c.in_ok-term.ensures.taken fs e))

pub put_taken-requires : goal.put_taken-requires
put_taken-requires c =
    let p = c.args.part.now in
    let pattern = c.pattern-pattern.result.now in
    cuts_stay pattern.fixed p.pattern c.args.item.term [] c.option-option.result c.in-Several.taken
    (sym (ap taken_in c.in-Several.is) ∙ c.in_ok-term.ensures.taken p.pattern (ap (λ (q : ReadyPattern). q.pieces) c.pattern-pattern.ensures))
