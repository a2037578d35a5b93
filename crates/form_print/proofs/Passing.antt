-- The text of the pieces that are left, one piece further.
use Rattle.std.proofs.Common.{◌≡◌, ℕ, ◌+◌, ◌-◌, Bool, List, [], ◌∷◌, ◌++◌, if◌then◌else◌, true, false, length, refl, sym, ap, ◌∙◌, append_assoc, arith}
use Rattle.std.specs.Prelude.{nat_lt}
use Rattle.form_term.specs.declared.piece.Piece.{Piece}
use Rattle.form_names.specs.Names.{Entry}
use Rattle.form_print.specs.Arguments.{is_repeated, length_in, open_behind, piece_text, text_behind}

pub if_true : {A : Type 0} (b : Bool) (x y : A) → b ≡ true → (if b then x else y) ≡ x
if_true b x y e = ap (λ t. if t then x else y) e

pub if_false : {A : Type 0} (b : Bool) (x y : A) → b ≡ false → (if b then x else y) ≡ y
if_false b x y e = ap (λ t. if t then x else y) e

-- a piece that is passed over
pub over_one : (names : List Entry) (before : Piece) (passed times : ℕ) (opened : List ℕ) (p : Piece) (ps : List Piece) → nat_lt 0 passed ≡ true →
    text_behind names before passed times opened (p ∷ ps) ≡ text_behind names before (passed - 1) times opened ps
unfolding text_behind
over_one names before passed times opened p ps e = if_true (nat_lt 0 passed) _ _ e

-- a function that stands there once more behind its end
pub over_function : (names : List Entry) (before : Piece) (passed times : ℕ) (opened : List ℕ) (p : Piece) (ps : List Piece) → nat_lt 0 passed ≡ false → is_repeated (p ∷ ps) ≡ true →
    text_behind names before passed times opened (p ∷ ps) ≡ text_behind names before (length_in 0 ps) (times + 1) opened ps
unfolding text_behind
over_function names before passed times opened p ps e repeated = if_false (nat_lt 0 passed) _ _ e ∙ if_true (is_repeated (p ∷ ps)) _ _ repeated

-- a piece that is put
pub one_piece : (names : List Entry) (before : Piece) (passed times : ℕ) (opened : List ℕ) (p : Piece) (ps : List Piece) → nat_lt 0 passed ≡ false → is_repeated (p ∷ ps) ≡ false →
    text_behind names before passed times opened (p ∷ ps) ≡ piece_text names before opened p ps ++ text_behind names p 0 1 (open_behind opened times p) ps
unfolding text_behind
one_piece names before passed times opened p ps e other = if_false (nat_lt 0 passed) _ _ e ∙ if_false (is_repeated (p ∷ ps)) _ _ other

-- the same, behind what is put
pub piece_put : (names : List Entry) (before : Piece) (passed times : ℕ) (opened : List ℕ) (p : Piece) (ps : List Piece) (old new seen next : List ℕ) →
    nat_lt 0 passed ≡ false → passed ≡ 0 → is_repeated (p ∷ ps) ≡ false → seen ≡ opened → new ≡ old ++ piece_text names before seen p ps → next ≡ open_behind opened times p →
    new ++ text_behind names p passed 1 next ps ≡ old ++ text_behind names before passed times opened (p ∷ ps)
piece_put names before passed times opened p ps old new seen next none zero other same put opens =
    ap (λ x. x ++ text_behind names p passed 1 next ps) (put ∙ ap (λ o. old ++ piece_text names before o p ps) same)
    ∙ ap (λ n. (old ++ piece_text names before opened p ps) ++ text_behind names p n 1 next ps) zero
    ∙ ap (λ o. (old ++ piece_text names before opened p ps) ++ text_behind names p 0 1 o ps) opens
    ∙ append_assoc old (piece_text names before opened p ps) (text_behind names p 0 1 (open_behind opened times p) ps)
    ∙ ap (λ x. old ++ x) (sym (one_piece names before passed times opened p ps none other))

pub nothing_left : (names : List Entry) (before : Piece) (passed times : ℕ) (opened : List ℕ) (ps : List Piece) → length ps ≡ 0 → text_behind names before passed times opened ps ≡ []
unfolding text_behind
nothing_left names before passed times opened [] e = refl
nothing_left names before passed times opened (p ∷ ps) e = absurd (omega arith)
