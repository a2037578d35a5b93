-- Pieces stay where others are put behind them.
use Rattle.std.proofs.Common.{◌≡◌, List, [], ◌∷◌, ◌++◌, length, take, Result, Ok, Err, OnErr, refl, sym, ap, ◌∙◌}
use Rattle.form_tree.specs.declared.tree.Piece.{Piece}
use Rattle.form_right_side.specs.Walking.{Walk, AreKept}

take-all : {X : Type 0} (xs : List X) → take (length xs) xs ≡ xs
take-all [] = refl
take-all (x ∷ xs) = ap (λ ys. x ∷ ys) (take-all xs)

same-first : {X : Type 0} {x y : X} {xs ys : List X} → x ∷ xs ≡ y ∷ ys → x ≡ y
same-first is = cc

same-rest : {X : Type 0} {x y : X} {xs ys : List X} → x ∷ xs ≡ y ∷ ys → xs ≡ ys
same-rest is = cc

-- what keeps these and one more keeps these
take-fewer : {X : Type 0} (xs ys : List X) (x : X) → take (length (xs ++ x ∷ [])) ys ≡ xs ++ x ∷ [] → take (length xs) ys ≡ xs
take-fewer [] ys x is = refl
take-fewer (first ∷ xs) [] x is = cc
take-fewer (first ∷ xs) (y ∷ ys) x is =
    ap (λ z. z ∷ take (length xs) ys) (same-first is) ∙ ap (λ zs. first ∷ zs) (take-fewer xs ys x (same-rest is))

pub kept_same : (before after : Walk) → after ≡ before → AreKept before after
kept_same before after is = ap (λ (w : Walk). take (length before.pieces) w.pieces) is ∙ take-all before.pieces

pub kept_behind : (before between after : Walk) (p : Piece) → between.pieces ≡ before.pieces ++ p ∷ [] → AreKept between after → AreKept before after
kept_behind before between after p is kept = take-fewer before.pieces after.pieces p (sym (ap (λ ps. take (length ps) after.pieces) is) ∙ kept ∙ is)

-- the same behind a call that goes on from there
pub on_err_behind : {A E : Type 0} (r : Result A E) (before between after : Walk) (p : Piece) → between.pieces ≡ before.pieces ++ p ∷ [] → OnErr r (AreKept between after) → OnErr r (AreKept before after)
on_err_behind (Ok a) before between after p is kept = kept
on_err_behind (Err e) before between after p is kept = kept_behind before between after p is kept
