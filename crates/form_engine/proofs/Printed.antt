-- What is printed of the expressions before a place, and from it on.
use Rattle.std.proofs.Common.{◌≡◌, ◌<◌, ◌+◌, ℕ, List, [], ◌∷◌, ◌++◌, length, take, drop, get_or, Option, Ok, sym, ap, ◌∙◌, subst}
use Rattle.std.proofs.lemmas.List.{append-nil, drop_more, take_more, take-append-drop}
use Rattle.std.proofs.lemmas.Grind.{flat_map-append}
use Rattle.form_outside.specs.Taken.{Takes}
use Rattle.form_outside.specs.declared.sink.SinkErr.{SinkErr}
use Rattle.form_outside.proofs.Written.{Takes_then}
use Rattle.form_names.specs.Names.{Entry}
use Rattle.form_check.specs.declared.checked.Checked.{Checked}
use Rattle.form_expand.specs.declared.stored.Stored.{Stored}
use Rattle.form_module.specs.Printed.{prints}
use Rattle.form_engine.specs.Printed.{printed_module, printed_where}

abbrev one_printed : List Entry → List Checked → Stored → List ℕ
one_printed names statements e = printed_where names (prints statements e.expression) e

pub printed-parts : (names : List Entry) (statements : List Checked) (all : List Stored) (i : ℕ) →
    printed_module names statements all ≡ printed_module names statements (take i all) ++ printed_module names statements (drop i all)
printed-parts names statements all i =
    ap (printed_module names statements) (sym (take-append-drop i all))
    ∙ flat_map-append (one_printed names statements) (take i all) (drop i all)

pub printed-at : (names : List Entry) (statements : List Checked) (all : List Stored) (i : ℕ) (e : Stored) → i < length all → e ≡ get_or all i e →
    printed_module names statements all ≡ printed_module names statements (take i all) ++ (one_printed names statements e ++ printed_module names statements (drop (i + 1) all))
printed-at names statements all i e below is_e =
    printed-parts names statements all i
    ∙ ap (λ x. printed_module names statements (take i all) ++ printed_module names statements x) (drop_more all i e below)
    ∙ ap (λ x. printed_module names statements (take i all) ++ (one_printed names statements x ++ printed_module names statements (drop (i + 1) all))) (sym is_e)

-- one expression further
pub printed_more : (names : List Entry) (statements : List Checked) (all : List Stored) (i : ℕ) (e : Stored) (old mid new : Option (List ℕ)) → i < length all → e ≡ get_or all i e →
    Takes {E = SinkErr} old (printed_module names statements (take i all)) mid (Ok tt) → Takes {E = SinkErr} mid (one_printed names statements e) new (Ok tt) →
    Takes {E = SinkErr} old (printed_module names statements (take (i + 1) all)) new (Ok tt)
printed_more names statements all i e old mid new below is_e so_far put =
    let more : printed_module names statements (take i all) ++ one_printed names statements e ≡ printed_module names statements (take (i + 1) all) =
    ap (λ x. printed_module names statements (take i all) ++ x) (sym (append-nil (one_printed names statements e)))
    ∙ sym (flat_map-append (one_printed names statements) (take i all) (e ∷ []))
    ∙ ap (λ x. printed_module names statements (take i all ++ x ∷ [])) is_e
    ∙ ap (printed_module names statements) (sym (take_more all i e below)) in
    subst (λ (p : List ℕ). Takes {E = SinkErr} old p new (Ok tt)) more (Takes_then old mid new (printed_module names statements (take i all)) (one_printed names statements e) tt (Ok tt) so_far put)
