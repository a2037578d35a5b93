use Rattle.std.proofs.Common.{◌≡◌, ℕ, true, false, [], ◌∷◌, ◌++◌, map, refl, ap, sym, ◌∙◌, arith}
use Rattle.std.specs.List.{list_any}
use Rattle.form_term.specs.declared.index.Index.TheVariants as indices
use Rattle.form_flow.specs.declared.indices.Renaming.{Renaming}
use Rattle.form_flow.specs.Indices.{free_dummy, is_declared, put}
use Rattle.form_flow.proofs.Dummies.{none_added, one_added, there_after}
use Rattle.form_flow.proofs.FreeNumbers.{number_within, one_numbered}
use Rattle.form_flow.proofs.summing.add_dummy.Goals as goal

pub returns-then-not-has_declared-clause-renamings : goal.returns-then-not-has_declared-clause-renamings
returns-then-not-has_declared-clause-renamings c = λ all is.
    let there = c.args.there.now.items in
    let i = c.args.index in
    let none : list_any (is_declared i) there ≡ false = ap (list_any (is_declared i)) (sym c.deref.ensures.value) ∙ sym c.has_declared.ensures ∙ c.if-not-has_declared.true in
    none_added all there c.args.renamings.now.items i is none

pub returns-clause-renamings : goal.returns-clause-renamings
returns-clause-renamings c = λ all is.
    let there = c.args.there.now.items in
    let rs = c.args.renamings.now.items in
    let i = c.args.index in
    let some : list_any (is_declared i) there ≡ true = ap (list_any (is_declared i)) (sym c.deref.ensures.value) ∙ sym c.has_declared.ensures ∙ c.if-not-has_declared.false in
    one_added all there rs i is c.push.new.self.items some
    (c.in_ok-push.ensures.items ∙ ap (λ (n : ℕ). rs ++ record { from = i; to = indices.Dummy n } ∷ []) (c.free_dummy-number.ensures ∙ ap free_dummy c.deref-2.ensures.value))

pub returns-clause-there : goal.returns-clause-there
returns-clause-there c = λ all is.
    let r : Renaming = record { from = c.args.index; to = indices.Dummy c.free_dummy-number.result } in
    there_after all c.args.there.now.items c.in_ok-list.list.items c.args.renamings.now.items c.push.new.self.items r is (c.in_ok-list.ensures ∙ ap (map (put r.from r.to)) c.deref-3.ensures.value) c.in_ok-push.ensures.items

pub returns-clause-numbered : goal.returns-clause-numbered
returns-clause-numbered c =
    let there = c.args.there.now.items in
    let i = c.args.index in
    let d = c.free_dummy-number.result in
    let some : list_any (is_declared i) there ≡ true = ap (list_any (is_declared i)) (sym c.deref.ensures.value) ∙ sym c.has_declared.ensures ∙ c.if-not-has_declared.false in
    let r : Renaming = record { from = i; to = indices.Dummy d } in
    one_numbered i d c.args.next.now _ there c.in_ok-list.list.items c.requires (c.free_dummy-number.ensures ∙ ap free_dummy c.deref-2.ensures.value) some (c.in_ok-list.ensures ∙ ap (map (put r.from r.to)) c.deref-3.ensures.value) refl

pub overflow_add-next : goal.overflow_add-next
overflow_add-next c =
    let there = c.args.there.now.items in
    let is : c.free_dummy-number.result ≡ free_dummy there = c.free_dummy-number.ensures ∙ ap free_dummy c.deref-2.ensures.value in
    omega (arith, is, number_within there, c.requires.few)
