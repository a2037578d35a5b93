use Rattle.std.proofs.Common.{◌≡◌, ◌+◌, ◌∙◌, ◌∷◌, ◌++◌, [], List, length, true, sym, ap, rules, arith}
use Rattle.std.proofs.lemmas.List.{length-append}
use Rattle.std.proofs.lemmas.Result.{err_from_is_err_and}
use Rattle.std.specs.Vec.Iter.{into_iter_items}
use Rattle.form_ast.specs.Joined.{joined}
use Rattle.form_ast.specs.declared.expr.Piece.{Piece}
use Rattle.form_right_side.specs.Marks.{stands_in}
use Rattle.form_right_side.specs.Parting.{open_behind, begins_term}
use Rattle.form_right_side.specs.Refusal.{IsRefused}
use Rattle.form_right_side.specs.Walking.{Walk, at, walk_of, walked}
use Rattle.form_right_side.specs.declared.walk.Place.TheVariants.{Sum}
use Rattle.form_right_side.proofs.Parting.{nothing-open, none-walked, open-append, part-refused, part-walked, part-kept}
use Rattle.form_right_side.proofs.sides.walked_whole.Goals as goal

pub loop-part-init : goal.loop-part-init
loop-part-init c =
    let given : into_iter_items c.into_iter-part-iterator.result ≡ c.into_vec-part-items.result.items = search rules in
    let parts : joined (into_iter_items c.into_iter-part-iterator.result) ≡ c.args.long = ap joined given ∙ c.into_vec-part-items.ensures in
    let none : c.new-walk.result.calls ≡ 0 = ap (λ (w : Walk). w.calls) c.new-walk.ensures in
    let nothing : length c.new-pieces.result.items ≡ 0 = ap length c.new-pieces.ensures.items in
    let long : length (joined (into_iter_items c.into_iter-part-iterator.result)) ≡ length c.args.long = ap length parts in
    record {
      opened = nothing-open c.new-pieces.result.items c.new-pieces.ensures.items;
      few = omega arith;
      room = omega (arith, none, nothing, long, c.len-count.ensures, c.in_ok-with_capacity.ensures.capacity, c.in_ok-with_capacity.field-0.small);
      same = none-walked c.args.names.now (stands_in c.args.standing.now) c.args.known.now (walk_of c.new-walk.result) c.in_ok-with_capacity.field-0.items c.new-pieces.result.items c.args.long (into_iter_items c.into_iter-part-iterator.result) c.new-walk.ensures c.in_ok-with_capacity.ensures.items c.new-pieces.ensures.items parts;
    }

pub returns-in_err-walk : goal.returns-in_err-walk
returns-in_err-walk c =
    let names = c.args.names.now in
    let stands = stands_in c.args.standing.now in
    let known = c.args.known.now in
    let kept = c.loop-part.pieces.items in
    let p = err_from_is_err_and c.from_residual-in_err-walk.result c.from_residual-in_err-walk.ensures.1 in
    let next : into_iter_items c.loop-part.part-iterator ≡ c.in-Some.part ∷ into_iter_items c.next.new.self = search rules in
    let ends : open_behind 0 kept ≡ 0 = sym c.loop-part.invariant.opened ∙ c.if-opened-eq0.true in
    let begins : begins_term c.in-Some.part ≡ true = search rules in
    let refused : IsRefused c.in_err-walk.field-0.0 (walked names stands known (walk_of c.loop-part.walk) kept) = rw c.deref-then-begins_term.ensures.value at c.in_err-walk.ensures.made in
    rw (p.1, p.2) (part-refused names stands known (walked names stands known (at [] Sum 0) c.args.long) (walk_of c.loop-part.walk) kept c.in-Some.part (into_iter_items c.loop-part.part-iterator) (into_iter_items c.next.new.self) c.loop-part.invariant.same next ends begins c.in_err-walk.field-0.0 refused)

pub loop-part-preserved-then-begins_term : goal.loop-part-preserved-then-begins_term
loop-part-preserved-then-begins_term c =
    let names = c.args.names.now in
    let stands = stands_in c.args.standing.now in
    let known = c.args.known.now in
    let kept = c.loop-part.pieces.items in
    let next : into_iter_items c.loop-part.part-iterator ≡ c.in-Some.part ∷ into_iter_items c.next.new.self = search rules in
    let ends : open_behind 0 kept ≡ 0 = sym c.loop-part.invariant.opened ∙ c.if-opened-eq0.true in
    let begins : begins_term c.in-Some.part ≡ true = search rules in
    let made = rw c.deref-then-begins_term.ensures.value at c.in_ok-walk.ensures.made in
    let calls = rw c.deref-then-begins_term.ensures.value at c.in_ok-walk.ensures.calls in
    let few = rw c.deref-then-begins_term-2.ensures.value at c.open_behind-begun.ensures.few in
    let parted : length (joined (into_iter_items c.loop-part.part-iterator)) ≡ length c.in-Some.part + length (joined (into_iter_items c.next.new.self)) =
    ap (λ (ps : List (List Piece)). length (joined ps)) next ∙ length-append c.in-Some.part (joined (into_iter_items c.next.new.self)) in
    record {
      opened = rw c.deref-then-begins_term-2.ensures.value at c.open_behind-begun.ensures.opened;
      few = omega (arith, few);
      room = omega (arith, c.loop-part.invariant.room, calls, parted, ap length c.into_vec-next.ensures);
      same = rw c.into_vec-next.ensures (part-walked names stands known (walked names stands known (at [] Sum 0) c.args.long) (walk_of c.loop-part.walk) kept c.in-Some.part (into_iter_items c.loop-part.part-iterator) (into_iter_items c.next.new.self) c.loop-part.invariant.same next ends begins (walk_of c.in_ok-walk.walk) made);
    }

pub loop-part-preserved : goal.loop-part-preserved
loop-part-preserved c =
    let names = c.args.names.now in
    let stands = stands_in c.args.standing.now in
    let known = c.args.known.now in
    let kept = c.loop-part.pieces.items in
    let part = c.into_vec-next.result.items in
    let next : into_iter_items c.loop-part.part-iterator ≡ part ∷ into_iter_items c.next.new.self = search rules in
    let longer : c.append.new.pieces.items ≡ kept ++ part = c.in_ok-append.ensures in
    let counted = rw c.deref-else-opened-eq0.ensures.value at c.open_behind-more.ensures.opened in
    let few = rw c.deref-else-opened-eq0.ensures.value at c.open_behind-more.ensures.few in
    let sum : length c.append.new.pieces.items ≡ length kept + length part = ap length longer ∙ length-append kept part in
    let parted : length (joined (into_iter_items c.loop-part.part-iterator)) ≡ length part + length (joined (into_iter_items c.next.new.self)) =
    ap (λ (ps : List (List Piece)). length (joined ps)) next ∙ length-append part (joined (into_iter_items c.next.new.self)) in
    record {
      opened = counted ∙ ap (λ n. open_behind n part) c.loop-part.invariant.opened ∙ sym (open-append 0 kept part) ∙ ap (open_behind 0) (sym longer);
      few = omega (arith, c.loop-part.invariant.few, few, sum);
      room = omega (arith, c.loop-part.invariant.room, sum, parted);
      same = rw longer (part-kept names stands known (walked names stands known (at [] Sum 0) c.args.long) (walk_of c.loop-part.walk) kept part (into_iter_items c.loop-part.part-iterator) (into_iter_items c.next.new.self) c.loop-part.invariant.same next);
    }
