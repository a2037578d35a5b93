use Rattle.std.proofs.Common.{◌≤◌, List, map, take, ap, ◌∙◌, sym}
use Rattle.std.specs.Prelude.{All}
use Rattle.std.proofs.lemmas.List.{take-map}
use Rattle.std.proofs.lemmas.List.Elements.{All-take}
use Rattle.form_term.specs.declared.piece.Piece.{Piece}
use Rattle.form_bindings.specs.declared.bindings.Entry.{Entry}
use Rattle.form_bindings.specs.Entries.{IsEntry, binding_in}
use Rattle.form_bindings.proofs.Kept.{bindings_less, entries_less}
use Rattle.form_bindings.proofs.bindings.Bindings.cut_to.Goals as goal

pub invariant_of-self : goal.invariant_of-self
invariant_of-self c =
    let ps = c.self.inside.pieces.items in
    let es = c.self.inside.entries.items in
    let n = c.args.count in
    let ends : All (λ (e : Entry). e.end ≤ c.last_end-end.result) (take n es) =
    rw (c.as_slice.ensures, c.truncate.ensures.items) at c.last_end-end.ensures in
    rw (c.truncate-2.ensures.items, c.truncate.ensures.items)
    (entries_less c.last_end-end.result ps (take n es) (All-take (IsEntry ps) n es c.self.invariant) ends)

pub returns : goal.returns
returns c =
    let ps = c.self.inside.pieces.items in
    let es = c.self.inside.entries.items in
    let n = c.args.count in
    let ends : All (λ (e : Entry). e.end ≤ c.last_end-end.result) (take n es) =
    rw (c.as_slice.ensures, c.truncate.ensures.items) at c.last_end-end.ensures in
    ap (λ (qs : List Piece). map (binding_in qs) c.truncate.new.self.items) c.truncate-2.ensures.items
    ∙ ap (map (binding_in (take c.last_end-end.result ps))) c.truncate.ensures.items
    ∙ bindings_less c.last_end-end.result ps (take n es) (All-take (IsEntry ps) n es c.self.invariant) ends
    ∙ sym (take-map (binding_in ps) n es)
    ∙ ap (take n) c.self.view_is
