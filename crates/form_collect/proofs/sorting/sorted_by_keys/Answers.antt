use Rattle.std.proofs.Common.{ap, ◌∙◌, arith}
use Rattle.form_collect.specs.Keys.{keys_from}
use Rattle.form_collect.proofs.Places.{moved_within, moved_long, moved_inside, moved_apart, in_order}
use Rattle.form_collect.proofs.sorting.sorted_by_keys.Goals as goal

pub places_in-requires-clause-short : goal.places_in-requires-clause-short
places_in-requires-clause-short c =
    let first = c.first_symbol-first.result in
    let told = c.are_whole-is_told.result in
    let terms = c.args.terms.items in
    let long = moved_long first told terms c.in_ok-keys.keys.items c.sort_keys.new.keys.items (rw (← c.deref.ensures.value) c.first_symbol-first.ensures.rise) (rw (← c.deref-2.ensures.value) c.are_whole-is_told.ensures) (c.in_ok-keys.ensures ∙ ap (keys_from first told 0) c.deref-3.ensures.value) c.sort_keys.ensures.moved in
    rw c.deref-5.ensures.value (omega (arith, long, c.requires))

pub places_in-requires-clause-within : goal.places_in-requires-clause-within
places_in-requires-clause-within c =
    let first = c.first_symbol-first.result in
    let told = c.are_whole-is_told.result in
    let terms = c.args.terms.items in
    rw c.deref-5.ensures.value (moved_inside first told terms c.in_ok-keys.keys.items c.sort_keys.new.keys.items (rw (← c.deref.ensures.value) c.first_symbol-first.ensures.rise) (rw (← c.deref-2.ensures.value) c.are_whole-is_told.ensures) (c.in_ok-keys.ensures ∙ ap (keys_from first told 0) c.deref-3.ensures.value) c.sort_keys.ensures.moved)

pub places_in-requires-clause-apart : goal.places_in-requires-clause-apart
places_in-requires-clause-apart c =
    let first = c.first_symbol-first.result in
    let told = c.are_whole-is_told.result in
    let terms = c.args.terms.items in
    rw c.deref-5.ensures.value (moved_apart first told terms c.in_ok-keys.keys.items c.sort_keys.new.keys.items (rw (← c.deref.ensures.value) c.first_symbol-first.ensures.rise) (rw (← c.deref-2.ensures.value) c.are_whole-is_told.ensures) (c.in_ok-keys.ensures ∙ ap (keys_from first told 0) c.deref-3.ensures.value) c.sort_keys.ensures.moved)

pub by_places-requires-clause-within : goal.by_places-requires-clause-within
by_places-requires-clause-within c =
    let first = c.first_symbol-first.result in
    let told = c.are_whole-is_told.result in
    let terms = c.args.terms.items in
    rw c.deref-6.ensures.value (moved_within first told terms c.in_ok-keys.keys.items c.sort_keys.new.keys.items (rw (← c.deref.ensures.value) c.first_symbol-first.ensures.rise) (rw (← c.deref-2.ensures.value) c.are_whole-is_told.ensures) (c.in_ok-keys.ensures ∙ ap (keys_from first told 0) c.deref-3.ensures.value) c.sort_keys.ensures.moved)

pub by_places-requires-clause-apart : goal.by_places-requires-clause-apart
by_places-requires-clause-apart c =
    let first = c.first_symbol-first.result in
    let told = c.are_whole-is_told.result in
    let terms = c.args.terms.items in
    rw c.deref-6.ensures.value (moved_apart first told terms c.in_ok-keys.keys.items c.sort_keys.new.keys.items (rw (← c.deref.ensures.value) c.first_symbol-first.ensures.rise) (rw (← c.deref-2.ensures.value) c.are_whole-is_told.ensures) (c.in_ok-keys.ensures ∙ ap (keys_from first told 0) c.deref-3.ensures.value) c.sort_keys.ensures.moved)

pub returns : goal.returns
returns c =
    let first = c.first_symbol-first.result in
    let told = c.are_whole-is_told.result in
    let terms = c.args.terms.items in
    let moved = c.sort_keys.new.keys.items in
    rw c.that_came.ensures (in_order first told terms c.in_ok-keys.keys.items moved (rw (← c.deref.ensures.value) c.first_symbol-first.ensures.rise) (rw (← c.deref-2.ensures.value) c.are_whole-is_told.ensures) (c.in_ok-keys.ensures ∙ ap (keys_from first told 0) c.deref-3.ensures.value) c.sort_keys.ensures.moved
    c.in_ok-list.list.items (rw (← c.deref-4.ensures.value) c.sort_keys.ensures.rising) (rw (← c.deref-6.ensures.value) c.in_ok-list.ensures))
