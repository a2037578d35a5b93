use Rattle.std.proofs.Common.{◌≡◌, [], ◌∷◌, Ok, Some, None, ap, map, sym, ◌∙◌}
use Rattle.std.proofs.lemmas.Result.{IfOk-weaker}
use Rattle.form_expand.specs.Runs.{lists_of}
use Rattle.form_match.specs.Ready.{ReadyPattern}
use Rattle.form_rewrite.specs.Takes.{taken_in}
use Rattle.form_rewrite.specs.Taking.{taken_so_far}
use Rattle.form_rewrite.specs.declared.taken.Taken.{Taken}
use Rattle.form_flow.specs.Rests.{cut_list, numbers_given, place_of, rest_in}
use Rattle.form_flow.specs.Rewriting.{and_part, and_taken}
use Rattle.form_flow.proofs.GivenCuts.{cuts_stay, so_many}
use Rattle.form_flow.proofs.Inserting.{places_are}
use Rattle.form_flow.proofs.Resting.{part_takes}
use Rattle.form_flow.proofs.rest.and_part.Goals as goal

pub returns-in-Untaken-clause-rest : goal.returns-in-Untaken-clause-rest
returns-in-Untaken-clause-rest c =
    let rest = c.args.rest in
    let max = rest.limit in
    ap (λ t. record { left = t; cuts = map (cut_list max) rest.between.items; behind = lists_of max rest.behind.items; has_matched = rest.has_matched })
    (c.in_ok-left.ensures.untaken c.in-Untaken.left (ap Ok c.in-Untaken.is))
    ∙ part_takes max (rest_in rest) c.args.part.now c.pattern-pattern.result.now c.option-option.result c.deref-2.result.now None
    (c.deref-2.ensures.value ∙ c.in_ok-cuts.ensures ∙ ap (map place_of) c.deref.ensures.value ∙ places_are max rest.between.items)
    c.pattern-pattern.ensures c.option-option.ensures (λ fs e. sym (ap taken_in c.in-Untaken.is) ∙ c.in_ok-left.ensures.taken fs e)

pub returns-in-Single-clause-rest : goal.returns-in-Single-clause-rest
returns-in-Single-clause-rest c =
    let rest = c.args.rest in
    let max = rest.limit in
    let p = c.args.part.now in
    let one = c.in-Single.single in
    let x = taken_so_far one.left [] (one.bindings ∷ []) 1 in
    IfOk-weaker c.and_taken.result _ (λ after. rest_in after ≡ and_part max (rest_in rest) p)
    (λ after e.
    e
    ∙ ap (λ s. and_taken max s (rest_in rest) (Some c.in_ok-taken-in-Single.taken)) c.right-right.ensures
    ∙ ap (λ y. and_taken max p.right (rest_in rest) (Some y)) c.in_ok-taken-in-Single.ensures
    ∙ part_takes max (rest_in rest) p c.pattern-pattern.result.now c.option-option.result c.deref-2.result.now (Some x)
    (c.deref-2.ensures.value ∙ c.in_ok-cuts.ensures ∙ ap (map place_of) c.deref.ensures.value ∙ places_are max rest.between.items)
    c.pattern-pattern.ensures c.option-option.ensures (λ fs e. sym (ap taken_in c.in-Single.is) ∙ c.in_ok-left.ensures.taken fs e))
    c.and_taken.ensures.rest

pub returns-clause-rest : goal.returns-clause-rest
returns-clause-rest c =
    let rest = c.args.rest in
    let max = rest.limit in
    let p = c.args.part.now in
    IfOk-weaker c.and_taken-in-Several.result _ (λ after. rest_in after ≡ and_part max (rest_in rest) p)
    (λ after e.
    e
    ∙ ap (λ s. and_taken max s (rest_in rest) (Some c.in-Several.taken)) c.right-right.ensures
    ∙ part_takes max (rest_in rest) p c.pattern-pattern.result.now c.option-option.result c.deref-2.result.now (Some c.in-Several.taken)
    (c.deref-2.ensures.value ∙ c.in_ok-cuts.ensures ∙ ap (map place_of) c.deref.ensures.value ∙ places_are max rest.between.items)
    c.pattern-pattern.ensures c.option-option.ensures (λ fs e. sym (ap taken_in c.in-Several.is) ∙ c.in_ok-left.ensures.taken fs e))
    c.and_taken-in-Several.ensures.rest

pub and_taken-requires : goal.and_taken-requires
and_taken-requires c =
    let rest = c.args.rest in
    let p = c.args.part.now in
    let one = c.in-Single.single in
    let pattern = c.pattern-pattern.result.now in
    let places = c.deref-2.result.now in
    ap (λ (x : Taken). numbers_given x.cuts) c.in_ok-taken-in-Single.ensures
    ∙ cuts_stay pattern.fixed p.pattern rest.left places c.option-option.result (taken_so_far one.left [] (one.bindings ∷ []) 1)
    (sym (ap taken_in c.in-Single.is) ∙ c.in_ok-left.ensures.taken p.pattern (ap (λ (q : ReadyPattern). q.pieces) c.pattern-pattern.ensures))
    ∙ so_many places rest.between.items (c.deref-2.ensures.value ∙ c.in_ok-cuts.ensures ∙ ap (map place_of) c.deref.ensures.value)

pub and_taken-requires-in-Several : goal.and_taken-requires-in-Several
and_taken-requires-in-Several c =
    let rest = c.args.rest in
    let p = c.args.part.now in
    let pattern = c.pattern-pattern.result.now in
    let places = c.deref-2.result.now in
    cuts_stay pattern.fixed p.pattern rest.left places c.option-option.result c.in-Several.taken
    (sym (ap taken_in c.in-Several.is) ∙ c.in_ok-left.ensures.taken p.pattern (ap (λ (q : ReadyPattern). q.pieces) c.pattern-pattern.ensures))
    ∙ so_many places rest.between.items (c.deref-2.ensures.value ∙ c.in_ok-cuts.ensures ∙ ap (map place_of) c.deref.ensures.value)
