use Rattle.std.proofs.Common.{◌≡◌, sym, ap, ◌∙◌, ◌++◌, ◌∷◌, [], arith, length, length-append, subst}
use Rattle.form_preproc.specs.Journal.{AreBelow}
use Rattle.form_preproc.specs.Places.{kept, number_of_values}
use Rattle.form_preproc.proofs.Stacks.{placed_after, kept_after, below_longer, values_longer}
use Rattle.form_preproc.proofs.variables.Variables.place_for.Goals as goal

pub returns-clause-same : goal.returns-clause-same
returns-clause-same c =
    let v = c.args.self.now in
    let longer = c.in_ok-push.ensures.items ∙ ap (λ s. v.stacks.items ++ s ∷ []) c.new.ensures in
    ap (λ changes. kept c.put_place.new.places c.push.new.self.items changes c.add_place.new.self.marks) c.add_place.ensures.same.1
    ∙ ap (kept c.put_place.new.places c.push.new.self.items v.journal.changes.items) c.add_place.ensures.same.0
    ∙ kept_after v.places c.put_place.new.places v.stacks.items c.push.new.self.items v.journal.changes.items v.journal.marks c.args.name.now c.len-place.result v.placed v.below v.journal.marked (sym c.in_default.ensures.value) longer
    (c.len-place.ensures ∙ v.stacks.ok.0) c.in_ok-put_place.ensures

pub invariant_of-self-2 : goal.invariant_of-self-2
invariant_of-self-2 c =
    let v = c.args.self.now in
    let longer : c.push.new.self.items ≡ v.stacks.items ++ [] ∷ [] = c.in_ok-push.ensures.items ∙ ap (λ s. v.stacks.items ++ s ∷ []) c.new.ensures in
    record {
      placed = placed_after v.places c.put_place.new.places v.stacks.items c.push.new.self.items c.args.name.now c.len-place.result c.put_place.result v.placed (sym c.in_default.ensures.value) longer (c.len-place.ensures ∙ v.stacks.ok.0) c.put_place.ensures;
      below = subst (AreBelow (length c.push.new.self.items)) (sym c.add_place.ensures.same.1) (subst (λ ss. AreBelow (length ss) v.journal.changes.items) (sym longer) (below_longer v.stacks.items v.journal.changes.items v.below));
      measured = omega (arith, ap length longer, length-append v.stacks.items ([] ∷ []), v.measured, c.in_ok-add_place.ensures.longer);
      roomy = omega (arith, ap number_of_values longer, values_longer v.stacks.items, v.roomy, c.add_place.ensures.same.2);
    }
