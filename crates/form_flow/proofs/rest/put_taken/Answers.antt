use Rattle.std.proofs.Common.{List, [], ◌∷◌, ap, length, map, subst, sym, ◌∙◌}
use Rattle.std.specs.List.{range_with_len}
use Rattle.std.specs.Prelude.{Some, false}
use Rattle.form_expand.specs.Runs.{lists_of}
use Rattle.form_flow.specs.declared.between.Inserted.{Inserted}
use Rattle.form_flow.specs.Rests.{cut_list}
use Rattle.form_flow.specs.Rewriting.{and_taken, rewritten}
use Rattle.form_flow.specs.Sources.{HasEffect}
use Rattle.form_flow.specs.Statements.{or_unchanged}
use Rattle.form_flow.proofs.Resting.{one_taken}
use Rattle.form_flow.proofs.rest.put_taken.Goals as goal

pub returns : goal.returns
returns c = λ p m right number takes.
    let max = c.args.limit in
    let x = c.args.taken in
    let within = c.in_ok-rest.ensures.limit in
    let cuts = c.new-between.result.items in
    let lists = c.new-behind.result.items in
    let made = one_taken max p m.term c.in_ok-rest.rest x cuts lists c.new-between.ensures.items c.new-behind.ensures.items within
    (c.in_ok-rest.ensures.rest
    ∙ ap (λ s. and_taken max s (record { left = x.left; cuts = map (cut_list max) cuts; behind = lists_of max lists; has_matched = false }) (Some x)) right)
    takes in
    subst (λ n. HasEffect c.put_together.result (or_unchanged m (rewritten n (p ∷ []) m))) within (c.put_together.ensures (p ∷ []) m number made)

pub and_taken-requires : goal.and_taken-requires
and_taken-requires c = c.requires ∙ sym (ap (λ (is : List Inserted). range_with_len 0 (length is)) c.new-between.ensures.items)
