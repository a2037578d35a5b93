use Rattle.std.proofs.Common.{◌≡◌, ◌∷◌, ◌++◌, [], List, map, length, Result, Ok, Err, ap, ◌∙◌, arith}
use Rattle.std.specs.Prelude.{OnErr, OnOk}
use Rattle.std.proofs.lemmas.List.Elements.{All-nil, All-cons, All-append}
use Rattle.form_term.specs.declared.piece.Piece.{Piece}
use Rattle.form_bindings.specs.declared.bindings.Entry.{Entry}
use Rattle.form_bindings.specs.Entries.{IsEntry, binding_in}
use Rattle.form_bindings.specs.Values.{Binding}
use Rattle.form_bindings.proofs.Kept.{bindings_more, entries_more, entry_last, binding_last, map_more}
use Rattle.form_bindings.proofs.bindings.Bindings.push.Goals as goal

on_err : {A E : Type 0} (r : Result A E) (P : Type 0) → P → OnErr r P
on_err (Ok x) P p = tt
on_err (Err e) P p = p

on_ok : {A E : Type 0} (r : Result A E) (P : Type 0) → P → OnOk r P
on_ok (Ok x) P p = p
on_ok (Err e) P p = tt

pub returns-in_err-push-clause-unchanged : goal.returns-in_err-push-clause-unchanged
returns-in_err-push-clause-unchanged c =
    let ps = c.self.inside.pieces.items in
    let es = c.self.inside.entries.items in
    on_err c.from_residual-in_err-push.result _
    (ap (λ (qs : List Piece). map (binding_in qs) c.push.new.self.items) c.in_ok-add.ensures.put
    ∙ ap (λ (s : _). map (binding_in (ps ++ c.args.value.now)) s.items) c.in_err-push.ensures.err
    ∙ bindings_more ps c.args.value.now es c.self.invariant
    ∙ c.self.view_is)

pub invariant_of-self-2 : goal.invariant_of-self-2
invariant_of-self-2 c =
    let ps = c.self.inside.pieces.items in
    let es = c.self.inside.entries.items in
    let v = c.args.value.now in
    let e : Entry = record { wildcard = c.args.wildcard; start = c.len-start.result; end = c.len-end.result } in
    let begins : c.len-start.result ≡ length ps = omega (arith, c.len-start.ensures, c.self.inside.pieces.ok.0) in
    let whole : c.len-end.result ≡ length c.add.new.pieces.items = omega (arith, c.len-end.ensures, c.add.new.pieces.ok.0) in
    let ends : c.len-end.result ≡ length (ps ++ v) = whole ∙ ap length c.in_ok-add.ensures.put in
    rw (c.in_ok-add.ensures.put, c.in_ok-push.ensures.ok)
    (All-append (IsEntry (ps ++ v)) es (e ∷ []) (entries_more ps v es c.self.invariant)
    (All-cons (IsEntry (ps ++ v)) e [] (entry_last ps v e begins ends c.requires) (All-nil (IsEntry (ps ++ v)))))

pub returns-clause-put : goal.returns-clause-put
returns-clause-put c =
    let ps = c.self.inside.pieces.items in
    let es = c.self.inside.entries.items in
    let v = c.args.value.now in
    let e : Entry = record { wildcard = c.args.wildcard; start = c.len-start.result; end = c.len-end.result } in
    let begins : c.len-start.result ≡ length ps = omega (arith, c.len-start.ensures, c.self.inside.pieces.ok.0) in
    let whole : c.len-end.result ≡ length c.add.new.pieces.items = omega (arith, c.len-end.ensures, c.add.new.pieces.ok.0) in
    let ends : c.len-end.result ≡ length (ps ++ v) = whole ∙ ap length c.in_ok-add.ensures.put in
    ap (λ (qs : List Piece). map (binding_in qs) c.push.new.self.items) c.in_ok-add.ensures.put
    ∙ ap (map (binding_in (ps ++ v))) c.in_ok-push.ensures.ok
    ∙ map_more (binding_in (ps ++ v)) es e
    ∙ ap (λ (bs : List Binding). bs ++ binding_in (ps ++ v) e ∷ []) (bindings_more ps v es c.self.invariant ∙ c.self.view_is)
    ∙ ap (λ (b : Binding). c.args.self.now ++ b ∷ []) (binding_last ps v e begins ends)
