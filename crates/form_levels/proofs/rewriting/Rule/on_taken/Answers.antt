use Rattle.std.proofs.Common.{◌≡◌, ℕ, List, [], Option, Some, None, get_or, ap, subst, ◌∙◌, rules}
use Rattle.std.proofs.lemmas.Result.{IfOk-weaker}
use Rattle.form_bindings.specs.Values.{Binding}
use Rattle.form_expand.specs.Meanings.{Meanings, bound_to}
use Rattle.form_flow.specs.Rests.{names_in}
use Rattle.form_flow.specs.Words.{front}
use Rattle.form_gathered.specs.declared.joined.JoinedTerm.{JoinedTerm}
use Rattle.form_levels.specs.Becoming.{Becomes, IsRowOf, joined_by, put_named, right_by_each}
use Rattle.form_levels.specs.Stretches.{first_cut, stretches_at, with_each}
use Rattle.form_levels.proofs.Becoming.{becomes_cut, becomes_uncut}
use Rattle.form_levels.proofs.rewriting.Rule.on_taken.Goals as goal

pub returns-in_default-clause-becomes : goal.returns-in_default-clause-becomes
returns-in_default-clause-becomes c =
    let r = c.args.self.now in
    let k = c.args.known in
    let x = c.args.taken in
    let uncut : None ≡ first_cut x.cuts = search rules in
    IfOk-weaker c.for_each.result _ (Becomes r k x)
    (λ made row. becomes_uncut r k x made uncut
    (subst (λ (ms : List (List Binding)). IsRowOf r.limit (right_by_each r x.times ms) (joined_by k x.left) made) c.into_vec-matches.ensures
    (subst (λ (front : JoinedTerm). IsRowOf r.limit (right_by_each r x.times c.into_vec-matches.result.items) front made) c.with.ensures row)))
    c.for_each.ensures.row

pub returns-clause-becomes : goal.returns-clause-becomes
returns-clause-becomes c =
    let r = c.args.self.now in
    let k = c.args.known in
    let x = c.args.taken in
    let start = c.in-Some.start in
    let cuts = c.as_slice-cuts.result.now in
    let names = c.in_ok-names.names.items in
    let same : cuts ≡ x.cuts = search rules in
    let there : Some start ≡ first_cut cuts = search rules in
    let told : (n : ℕ) → names_in (get_or names n None) ≡ bound_to (get_or x.matches n []) =
    λ n. c.in_ok-names.ensures n ∙ ap (λ (ms : List (List Binding)). bound_to (get_or ms n [])) c.into_vec-matches.ensures in
    IfOk-weaker c.at_cuts.result _ (Becomes r k x)
    (λ made row. becomes_cut r k x made start cuts names same told there c.requires.uncut
    (subst (λ (ns : List (Option Meanings)). IsRowOf r.limit (with_each (put_named r ns) (stretches_at x.left.others.word cuts)) (joined_by k (front start x.left)) made) c.deref.ensures.value row))
    c.at_cuts.ensures
