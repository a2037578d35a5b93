-- The piece of a term as it is put: the size where it isn't left out, and the factors behind it.
use Rattle.std.proofs.Common.{◌≡◌, ◌<◌, ◌+◌, ℕ, length, map, take, drop, get_or, List, [], ◌∷◌, ◌++◌, refl, sym, ap, ◌∙◌, append_assoc}
use Rattle.std.specs.Prelude.{codes, flat_map}
use Rattle.std.proofs.lemmas.List.{drop_more, take-append-drop}
use Rattle.std.proofs.lemmas.Grind.{flat_map-append}
use Rattle.form_base.specs.declared.name.Name.{Name}
use Rattle.form_print.specs.Joined.{beginning, first_piece, later_piece, later_pieces}
use Rattle.form_term.specs.declared.monomial.Monomial.{Monomial}
use Rattle.form_names.specs.Names.{Entry}
use Rattle.form_term.specs.Monomial.{summands_of}
use Rattle.form_print.specs.Printing.{later_term, printed}
use Rattle.form_print.proofs.Joined.{join_with_byte-cons}

-- the pieces of the terms before i, and those from it on
pub later_pieces-parts : (names : List Entry) (terms : List Monomial) (i : ℕ) → later_pieces names terms ≡ later_pieces names (take i terms) ++ later_pieces names (drop i terms)
later_pieces-parts names terms i =
    ap (λ x. later_pieces names x) (sym (take-append-drop i terms))
    ∙ flat_map-append (λ m. 32 ∷ later_piece names m) (take i terms) (drop i terms)

-- the pieces of the terms before i, the piece at i and those after it
pub later_pieces-at : (names : List Entry) (terms : List Monomial) (i : ℕ) (term : Monomial) → i < length terms → term ≡ get_or terms i term →
    later_pieces names terms ≡ later_pieces names (take i terms) ++ ((32 ∷ later_piece names term) ++ later_pieces names (drop (i + 1) terms))
later_pieces-at names terms i term below is_term =
    later_pieces-parts names terms i
    ∙ ap (λ x. later_pieces names (take i terms) ++ later_pieces names x) (drop_more terms i term below)
    ∙ ap (λ x. later_pieces names (take i terms) ++ ((32 ∷ later_piece names x) ++ later_pieces names (drop (i + 1) terms))) (sym is_term)

-- pieces joined by a blank: each later one has a blank before it
later_pieces-map : (names : List Entry) (ms : List Monomial) → flat_map (λ later. 32 ∷ later) (map (later_term names) (summands_of ms)) ≡ later_pieces names ms
later_pieces-map names [] = refl
later_pieces-map names (m ∷ ms) = ap (λ x. (32 ∷ later_piece names m) ++ x) (later_pieces-map names ms)

-- the same bytes, grouped by what is put at once
around : (head first later last end : List ℕ) → ((head ++ (first ++ later)) ++ last) ++ end ≡ (head ++ first) ++ (later ++ (last ++ end))
around head first later last end = simp append_assoc

-- what is printed of an expression with terms: its beginning, the later pieces and the end
printed-parts : (names : List Entry) (name : Name) (m : Monomial) (ms : List Monomial) → printed names name (m ∷ ms) ≡ beginning names name m ++ (later_pieces names ms ++ (59 ∷ 10 ∷ 10 ∷ []))
printed-parts names name m ms =
    let head : List ℕ = 10 ∷ codes "   " ++ name ++ codes " =" ++ 10 ∷ codes "      " in
    ap (λ x. head ++ x ++ codes ";" ++ 10 ∷ 10 ∷ []) (join_with_byte-cons 32 (first_piece names m) (map (later_term names) (summands_of ms)) ∙ ap (λ x. first_piece names m ++ x) (later_pieces-map names ms))
    ∙ around head (first_piece names m) (later_pieces names ms) (codes ";") (10 ∷ 10 ∷ [])

-- the same, of the terms that are kept
pub printed-terms : (names : List Entry) (name : Name) (terms later : List Monomial) (first : Monomial) → terms ≡ first ∷ later →
    printed names name terms ≡ beginning names name first ++ (later_pieces names later ++ (59 ∷ 10 ∷ 10 ∷ []))
printed-terms names name terms later first parts =
    ap (λ x. printed names name x) parts ∙ printed-parts names name first later
