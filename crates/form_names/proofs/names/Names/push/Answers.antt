use Rattle.std.proofs.Common.{◌≡◌, ◌∙◌, ◌++◌, ◌∷◌, [], ap, sym, length, None, string_bytes, arith}
use Rattle.std.proofs.lemmas.List.{length-append}
use Rattle.form_names.specs.Names.{Entry, IsLawful, lookup, entry_of, entries_of}
use Rattle.form_names.proofs.Entries.{length-keys, position_or_len-absent, insert_entry-absent, entries_of-push, lawful-push}
use Rattle.form_names.proofs.Letters.{noted_push}
use Rattle.form_names.proofs.names.Names.push.Goals as goal

pub returns-clause-id : goal.returns-clause-id
returns-clause-id c =
    let pairs = c.self.inside.facts.entries in
    let key = c.in_ok-text.text in
    let spelled : string_bytes key ≡ c.args.name = c.in_ok-text.ensures.ok ∙ c.as_str.ensures in
    let absent : lookup (entries_of pairs) (string_bytes key) ≡ None = rw (spelled, c.self.view_is) c.requires.new in
    rw (← c.self.view_is) (c.new.ensures ∙ c.in_ok-position.ensures.index ∙ position_or_len-absent key pairs absent ∙ length-keys pairs)

pub returns-clause-last : goal.returns-clause-last
returns-clause-last c =
    let pairs = c.self.inside.facts.entries in
    let key = c.in_ok-text.text in
    let spelled : string_bytes key ≡ c.args.name = c.in_ok-text.ensures.ok ∙ c.as_str.ensures in
    let absent : lookup (entries_of pairs) (string_bytes key) ≡ None = rw (spelled, c.self.view_is) c.requires.new in
    rw (← c.self.view_is, ← spelled) (ap entries_of (c.in_ok-position.ensures.entries ∙ insert_entry-absent pairs key c.args.facts (position_or_len-absent key pairs absent)) ∙ entries_of-push pairs key c.args.facts)

pub invariant_of-self-2 : goal.invariant_of-self-2
invariant_of-self-2 c =
    let pairs = c.self.inside.facts.entries in
    let key = c.in_ok-text.text in
    let spelled : string_bytes key ≡ c.args.name = c.in_ok-text.ensures.ok ∙ c.as_str.ensures in
    let absent : lookup (entries_of pairs) (string_bytes key) ≡ None = rw (spelled, c.self.view_is) c.requires.new in
    let e : Entry = entry_of (string_bytes key) c.args.facts in
    let last : entries_of c.insert_full.new.self.entries ≡ entries_of pairs ++ e ∷ [] = ap entries_of (c.in_ok-position.ensures.entries ∙ insert_entry-absent pairs key c.args.facts (position_or_len-absent key pairs absent)) ∙ entries_of-push pairs key c.args.facts in
    let room = c.requires.room in
    let few = rw (← c.self.view_is) at room in
    let lawful : IsLawful (entries_of pairs) e = rw (spelled, c.self.view_is) c.requires.lawful in
    let count = length-append (entries_of pairs) (e ∷ []) in
    let spelled_again : c.as_bytes.result.now ≡ string_bytes key = c.as_bytes.ensures.value ∙ c.as_str-2.ensures ∙ sym spelled in
    let at : c.in_ok-position.position ≡ length (entries_of pairs) = c.in_ok-position.ensures.index ∙ position_or_len-absent key pairs absent ∙ length-keys pairs in
    let table = noted_push c.note.new.letters c.self.inside.letters c.as_bytes.result.now (entries_of pairs) e c.in_ok-position.position c.note.ensures spelled_again at c.self.invariant.2 c.self.invariant.3 absent in
    rw last (omega (arith, count, few), lawful-push (entries_of pairs) e c.self.invariant.1 lawful, table.0, table.1)
