use Rattle.std.proofs.Common.{◌≡◌, ◌∷◌, [], ap, ◌∙◌, sym, get_or, length, set, refl, arith, subst}
use Rattle.std.proofs.Math.ListN.{length-set}
use Rattle.std.proofs.lemmas.List.{get_or_read}
use Rattle.form_preproc.specs.Journal.{AreBelow}
use Rattle.form_preproc.specs.Variables.{Kept, with_stack}
use Rattle.form_preproc.specs.Kept.{kept_in}
use Rattle.form_preproc.proofs.Stacks.{changed_at, placed_name, noted_heights, places_set, below_same, fewer_values, at_most_one_more}
use Rattle.form_preproc.proofs.variables.Variables.push.Goals as goal

pub returns : goal.returns
returns c =
    let v = c.place_for.new.self in
    let stacks = v.stacks.items in
    let place = c.in_ok-place.place in
    let found = placed_name v.places c.args.name.now c.in-Some.name.now place c.in-Some.ensures.0 c.in-Some.ensures.1 c.in_ok-place.ensures.place in
    let within = v.placed.within c.in-Some.name.now place c.in_ok-place.ensures.place in
    let read : c.index_mut.result.now ≡ get_or stacks place [] = get_or_read stacks place c.index_mut.result.now within c.index_mut.ensures.value [] in
    let first : c.index.result.now ≡ get_or stacks place [] = get_or_read stacks place c.index.result.now within c.index.ensures [] in
    record {
      pushed =
          changed_at v.places v.places stacks (set stacks place c.push.new.self) v.placed c.args.name.now place (λ values. c.args.value ∷ values) c.push.new.self _ (kept_in v).calls found refl refl
          (c.in_ok-push.ensures.pushed ∙ ap (λ s. c.args.value ∷ s) read)
          (noted_heights v.places stacks place c.len.result c.push.new.self v.journal.changes.items c.make_room.new.self.changes.items c.note.new.self.changes.items c.note.new.self.changes.items v.journal.marks c.make_room.new.self.marks c.note.new.self.marks
          v.journal.marked within c.note.ensures.noted c.make_room.ensures.same.0 c.make_room.ensures.same.1 (c.len.ensures ∙ ap length first) refl (c.note.ensures.same.0 ∙ c.make_room.ensures.same.0))
          ∙ ap (λ (k : Kept). let m : Kept = record { values = with_stack k.values c.args.name.now (c.args.value ∷ k.values c.args.name.now); calls = k.calls } in m) c.in_ok-place.ensures.same;
    }

pub invariant_of-self-2 : goal.invariant_of-self-2
invariant_of-self-2 c =
    let v = c.place_for.new.self in
    let stacks = v.stacks.items in
    let place = c.in_ok-place.place in
    let within = v.placed.within c.in-Some.name.now place c.in_ok-place.ensures.place in
    let read : c.index_mut.result.now ≡ get_or stacks place [] = get_or_read stacks place c.index_mut.result.now within c.index_mut.ensures.value [] in
    let size : length (set stacks place c.push.new.self) ≡ length stacks = length-set stacks place c.push.new.self in
    record {
      placed = places_set v.places stacks place c.push.new.self v.placed;
      below = below_same stacks (set stacks place c.push.new.self) c.note.new.self.changes.items size
          (c.note.ensures.below (length stacks) within (subst (AreBelow (length stacks)) (sym c.make_room.ensures.same.1) v.below));
      measured = omega (arith, size, v.measured, ap length (c.note.ensures.same.1 ∙ c.make_room.ensures.same.2));
      roomy = omega (
        arith,
        v.roomy,
        c.note.ensures.less,
        c.in_ok-make_room.ensures.more,
        ap length read,
        fewer_values stacks place c.push.new.self within,
        at_most_one_more c.push.result c.args.value c.index_mut.result.now c.push.new.self c.push.ensures.pushed c.push.ensures.same,
      );
    }
