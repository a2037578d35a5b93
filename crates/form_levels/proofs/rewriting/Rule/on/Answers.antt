use Rattle.std.proofs.Common.{[], ◌∷◌, Some, None, Ok, ap, refl, sym, ◌∙◌}
use Rattle.std.proofs.lemmas.Result.{IfOk-weaker}
use Rattle.form_match.specs.Ready.{ReadyPattern}
use Rattle.form_rewrite.specs.Takes.{taken_in}
use Rattle.form_rewrite.specs.Taking.{taken_so_far}
use Rattle.form_flow.specs.Rewriting.{untouched}
use Rattle.form_flow.proofs.GivenCuts.{cuts_stay}
use Rattle.form_flow.proofs.Resting.{part_takes}
use Rattle.form_levels.specs.Becoming.{joined_by, known_of}
use Rattle.form_levels.specs.Rules.{IsRewritten}
use Rattle.form_levels.proofs.Becoming.{stays}
use Rattle.form_levels.proofs.rewriting.Rule.on.Goals as goal

pub returns-in-Untaken-clause-rewritten : goal.returns-in-Untaken-clause-rewritten
returns-in-Untaken-clause-rewritten c = λ at limit.
    let p = c.args.self.now.part.now in
    let j = c.args.joined in
    stays at c.args.self.now.limit p j c.with.result limit
    (part_takes c.args.self.now.limit (untouched j.term) p c.pattern-pattern.result.now c.option-option.result [] None refl c.pattern-pattern.ensures c.option-option.ensures
    (λ fs e. sym (ap taken_in c.in-Untaken.is) ∙ c.in_ok-term.ensures.taken fs e))
    (ap (joined_by (known_of j)) (sym (c.in_ok-term.ensures.untaken c.in-Untaken.term (ap Ok c.in-Untaken.is))) ∙ sym c.with.ensures)

pub returns-in-Single-clause-rewritten : goal.returns-in-Single-clause-rewritten
returns-in-Single-clause-rewritten c = λ at limit.
    let p = c.args.self.now.part.now in
    let j = c.args.joined in
    let one = c.in-Single.single in
    IfOk-weaker c.on_single.result _ (IsRewritten at (p ∷ []) j)
    (λ made becomes. becomes at j limit refl
    (part_takes c.args.self.now.limit (untouched j.term) p c.pattern-pattern.result.now c.option-option.result [] (Some (taken_so_far one.left [] (one.bindings ∷ []) 1)) refl c.pattern-pattern.ensures c.option-option.ensures
    (λ fs e. sym (ap taken_in c.in-Single.is) ∙ c.in_ok-term.ensures.taken fs e)))
    c.on_single.ensures

pub returns-in-Several-clause-rewritten : goal.returns-in-Several-clause-rewritten
returns-in-Several-clause-rewritten c = λ at limit.
    let p = c.args.self.now.part.now in
    let j = c.args.joined in
    IfOk-weaker c.on_taken.result _ (IsRewritten at (p ∷ []) j)
    (λ made becomes. becomes at j limit refl
    (part_takes c.args.self.now.limit (untouched j.term) p c.pattern-pattern.result.now c.option-option.result [] (Some c.in-Several.taken) refl c.pattern-pattern.ensures c.option-option.ensures
    (λ fs e. sym (ap taken_in c.in-Several.is) ∙ c.in_ok-term.ensures.taken fs e)))
    c.on_taken.ensures.becomes

pub on_taken-requires-clause-uncut : goal.on_taken-requires-clause-uncut
on_taken-requires-clause-uncut c =
    let p = c.args.self.now.part.now in
    let pattern = c.pattern-pattern.result.now in
    cuts_stay pattern.fixed p.pattern c.args.joined.term [] c.option-option.result c.in-Several.taken
    (sym (ap taken_in c.in-Several.is) ∙ c.in_ok-term.ensures.taken p.pattern (ap (λ (q : ReadyPattern). q.pieces) c.pattern-pattern.ensures))
