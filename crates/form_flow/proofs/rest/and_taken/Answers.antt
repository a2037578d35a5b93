use Rattle.std.proofs.Common.{◌≡◌, ◌++◌, true, false, [], ap, flat_map, map, refl, replicate, ◌∙◌, rules}
use Rattle.form_expand.specs.Meanings.{bound_to}
use Rattle.form_expand.specs.Runs.{lists_of}
use Rattle.form_flow.specs.Rests.{cut_list}
use Rattle.form_flow.specs.Rewriting.{Rest, any_match, right_with}
use Rattle.form_flow.proofs.Inserting.{named, put_at_cuts, put_behind_all}
use Rattle.form_flow.proofs.rest.and_taken.Goals as goal

pub returns-then-is_any_by_match-clause-rest : goal.returns-then-is_any_by_match-clause-rest
returns-then-is_any_by_match-clause-rest c =
    let max = c.args.limit in
    let s = c.args.right.now in
    let r : Rest = record { left = c.args.taken.left; cuts = map (cut_list max) c.args.between.items; behind = lists_of max c.args.behind.items; has_matched = false } in
    let names = c.in_ok-names.names.items in
    let any : any_match c.args.taken.cuts ≡ true = search rules in
    put_at_cuts max s r c.args.taken names c.in_ok-between.between.items (lists_of max c.args.behind.items) any
    (c.in_ok-names.ensures ∙ ap (map bound_to) c.into_vec-matches.ensures)
    (c.in_ok-between.ensures ∙ ap (λ ns. map (named max s r.cuts ns) c.as_slice-cuts.result.now) c.deref.ensures.value ∙ ap (map (named max s r.cuts names)) c.as_slice-cuts.ensures)
    refl

pub returns-clause-rest : goal.returns-clause-rest
returns-clause-rest c =
    let max = c.args.limit in
    let s = c.args.right.now in
    let r : Rest = record { left = c.args.taken.left; cuts = map (cut_list max) c.args.between.items; behind = lists_of max c.args.behind.items; has_matched = false } in
    let none : any_match c.args.taken.cuts ≡ false = search rules in
    put_behind_all max s r c.args.taken c.in_ok-between-2.between.items (lists_of max c.in_ok-behind.behind.items) none
    (c.in_ok-between-2.ensures ∙ ap (map (named max s r.cuts [])) c.as_slice-cuts.ensures)
    (c.in_ok-behind.ensures ∙ ap (λ ms. r.behind ++ flat_map (λ bs. replicate c.args.taken.times (right_with max s bs)) ms) c.into_vec-matches.ensures)
