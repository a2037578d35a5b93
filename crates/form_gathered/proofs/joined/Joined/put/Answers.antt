-- One more entry, or another value of one that is there (`Tables`).
use Rattle.std.proofs.Common.{◌≡◌, Some, None, sym, ap, ◌∙◌, rules}
use Rattle.std.specs.Map.{lookup}
use Rattle.std.specs.HashMap.Entry.{map_with_value, entry_value}
use Rattle.form_collect.proofs.Lists.{same}
use Rattle.form_gathered.proofs.Tables.{tally_of, lawful_new, lawful_changed, put_changed, put_new_entry}
use Rattle.form_gathered.proofs.joined.Joined.put.Goals as goal

pub invariant_of-self-in-Occupied : goal.invariant_of-self-in-Occupied
invariant_of-self-in-Occupied c =
    let item = c.args.item in
    let es = c.self.inside.shares.entries in
    let v = c.take_in.new.self in
    let made : c.self-in-Occupied-2-1.given.0 ≡ map_with_value c.in_ok-place.field-0 v = search rules in
    let found : lookup (same item.term) es ≡ Some c.into_mut.result.now = sym c.in_ok-place.ensures.value ∙ ap entry_value c.in-Occupied.is ∙ c.into_mut.ensures.value in
    let lawful = lawful_changed item es (map_with_value c.in_ok-place.field-0 v).entries v c.self.invariant c.powers.ensures.lawful c.into_mut.result.now found (c.in_ok-place.ensures.update.1 v) in
    rw made lawful

pub returns-in-Occupied-clause-put : goal.returns-in-Occupied-clause-put
returns-in-Occupied-clause-put c =
    let item = c.args.item in
    let es = c.self.inside.shares.entries in
    let v = c.take_in.new.self in
    let made : c.self-in-Occupied-2-1.given.0 ≡ map_with_value c.in_ok-place.field-0 v = search rules in
    let found : lookup (same item.term) es ≡ Some c.into_mut.result.now = sym c.in_ok-place.ensures.value ∙ ap entry_value c.in-Occupied.is ∙ c.into_mut.ensures.value in
    let put = put_changed item es (map_with_value c.in_ok-place.field-0 v).entries v c.self.invariant c.powers.ensures.lawful c.into_mut.result.now found (c.in_ok-place.ensures.update.1 v) c.args.is_further c.take_in.result c.take_in.ensures in
    rw (made, ← c.self.view_is) put

pub invariant_of-self-2 : goal.invariant_of-self-2
invariant_of-self-2 c =
    let item = c.args.item in
    let es = c.self.inside.shares.entries in
    let v = tally_of item in
    let made : c.self-in-Vacant-2-1.given.0 ≡ map_with_value c.in_ok-place.field-0 v = search rules in
    let absent : lookup (same item.term) es ≡ None = rw c.in-Vacant.is at c.in_ok-place.ensures.found in
    let lawful = lawful_new item es (map_with_value c.in_ok-place.field-0 v).entries v c.self.invariant c.powers.ensures.lawful absent (c.in_ok-place.ensures.update.1 v) in
    rw made lawful

pub returns-clause-put : goal.returns-clause-put
returns-clause-put c =
    let item = c.args.item in
    let es = c.self.inside.shares.entries in
    let v = tally_of item in
    let made : c.self-in-Vacant-2-1.given.0 ≡ map_with_value c.in_ok-place.field-0 v = search rules in
    let absent : lookup (same item.term) es ≡ None = rw c.in-Vacant.is at c.in_ok-place.ensures.found in
    let put = put_new_entry item es (map_with_value c.in_ok-place.field-0 v).entries c.args.is_further absent (c.in_ok-place.ensures.update.1 v) in
    rw (made, ← c.self.view_is) put
