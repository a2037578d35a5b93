use Rattle.std.proofs.Common.{◌≡◌, sym, ap, ◌∙◌, arith, length, [], get_or, set, subst, refl}
use Rattle.std.proofs.Math.ListN.{length-set}
use Rattle.std.proofs.lemmas.List.{get_or_read}
use Rattle.form_preproc.specs.Journal.{AreBelow}
use Rattle.form_preproc.proofs.Stacks.{noted_heights, places_set, below_same, fewer_values, length-oldest}
use Rattle.form_preproc.proofs.variables.Variables.cut_at.Goals as goal

pub invariant_of-self : goal.invariant_of-self
invariant_of-self c =
    let v = c.args.self.now in
    let stacks = v.stacks.items in
    let read : c.index_mut.result.now ≡ get_or stacks c.args.place [] = get_or_read stacks c.args.place c.index_mut.result.now c.requires.at c.index_mut.ensures.value [] in
    let first : c.index.result.now ≡ get_or stacks c.args.place [] = get_or_read stacks c.args.place c.index.result.now c.requires.at c.index.ensures [] in
    let size : length (set stacks c.args.place c.cut.new.self) ≡ length stacks = length-set stacks c.args.place c.cut.new.self in
    record {
      placed = places_set v.places stacks c.args.place c.cut.new.self v.placed;
      below = below_same stacks (set stacks c.args.place c.cut.new.self) c.give_back.new.self.changes.items size
          (subst (AreBelow (length stacks)) (sym c.give_back.ensures.same.1) (c.note.ensures.below (length stacks) c.requires.at v.below));
      measured = omega (arith, size, v.measured, ap length (c.give_back.ensures.same.2 ∙ c.note.ensures.same.1));
      roomy = omega (
        arith,
        v.roomy,
        c.note.ensures.less,
        c.give_back.ensures.less,
        c.len-before.ensures,
        ap length first,
        ap length read,
        c.requires.lower,
        fewer_values stacks c.args.place c.cut.new.self c.requires.at,
        ap length c.cut.ensures,
        length-oldest c.args.height c.index_mut.result.now,
      );
    }

pub returns-clause-calls : goal.returns-clause-calls
returns-clause-calls c =
    let v = c.args.self.now in
    let stacks = v.stacks.items in
    let first : c.index.result.now ≡ get_or stacks c.args.place [] = get_or_read stacks c.args.place c.index.result.now c.requires.at c.index.ensures [] in
    noted_heights v.places stacks c.args.place c.len-before.result c.cut.new.self v.journal.changes.items v.journal.changes.items c.note.new.self.changes.items c.give_back.new.self.changes.items v.journal.marks v.journal.marks c.give_back.new.self.marks
    v.journal.marked c.requires.at c.note.ensures.noted refl refl (c.len-before.ensures ∙ ap length first) c.give_back.ensures.same.1 (c.give_back.ensures.same.0 ∙ c.note.ensures.same.0)
