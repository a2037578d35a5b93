-- Walking over pieces part by part.
use Rattle.std.proofs.Common.{◌≡◌, ℕ, zero, suc, ◌+◌, ◌<◌, ◌≤◌, List, [], ◌∷◌, ◌++◌, length, take, drop, get_or, refl, sym, ap, ◌∙◌, arith}
use Rattle.std.proofs.lemmas.List.{drop_more, length-drop, nil_from_length}
use Rattle.form_term.specs.declared.piece.Piece.{Piece}
use Rattle.form_term.specs.declared.piece.Piece.TheVariants as pieces
use Rattle.form_term.specs.Term.{Argument, Call, IsArgumentOf, IsCall, IsTerm, pieces_of_argument, pieces_of_call}
use Rattle.form_term.specs.Arguments.{level_behind, joined, parts_from, parts_of}
use Rattle.form_term.specs.Reading.{first_length}
use Rattle.form_term.proofs.ReadBack.{argument_part, call_part, word_part}

-- the first part is so long, and what is behind it makes the others
abbrev pub IsCutFirst : List (List Piece) → List Piece → Type 0
IsCutFirst parts ps = parts ≡ take (first_length parts) ps ∷ parts_from 0 (drop (first_length parts) ps)

further : (p : Piece) (k : ℕ) (ps : List Piece) (parts : List (List Piece)) → IsCutFirst parts ps → IsCutFirst (joined p (suc k) parts) (p ∷ ps)
further p k ps [] e = cc
further p k ps (part ∷ parts) e = ap (joined p 1) e

first_part : (level : ℕ) (p : Piece) (ps : List Piece) → IsCutFirst (parts_from level (p ∷ ps)) (p ∷ ps)
first_part level p [] = by (level_behind level p)
  where
    by : (next : ℕ) → IsCutFirst (joined p next []) (p ∷ [])
    by zero = refl
    by (suc k) = refl
first_part level p (q ∷ qs) = by (level_behind level p) (λ k. first_part (suc k) q qs)
  where
    by : (next : ℕ) → ((k : ℕ) → IsCutFirst (parts_from (suc k) (q ∷ qs)) (q ∷ qs)) → IsCutFirst (joined p next (parts_from next (q ∷ qs))) (p ∷ q ∷ qs)
    by zero h = refl
    by (suc k) h = further p k (q ∷ qs) (parts_from (suc k) (q ∷ qs)) (h k)

first_joined : (p : Piece) (k : ℕ) (parts : List (List Piece)) → first_length (joined p (suc k) parts) ≡ first_length parts + 1
first_joined p k [] = refl
first_joined p k (part ∷ parts) = let e : suc (length part) ≡ length part + 1 = omega arith in e

pub first_ends : (level : ℕ) (p : Piece) (ps : List Piece) → level_behind level p ≡ 0 → first_length (parts_from level (p ∷ ps)) ≡ 1
first_ends level p ps e = ap (λ n. first_length (joined p n (parts_from n ps))) e

first_within : (level : ℕ) (ps : List Piece) → first_length (parts_from level ps) ≤ length ps
first_within level [] = omega arith
first_within level (p ∷ ps) = by (level_behind level p) (λ k. first_within (suc k) ps)
  where
    by : (next : ℕ) → ((k : ℕ) → first_length (parts_from (suc k) ps) ≤ length ps) → first_length (joined p next (parts_from next ps)) ≤ suc (length ps)
    by zero h = omega arith
    by (suc k) h = omega (arith, h k, first_joined p k (parts_from (suc k) ps))

first_some : (level : ℕ) (p : Piece) (ps : List Piece) → 0 < first_length (parts_from level (p ∷ ps))
first_some level p ps = by (level_behind level p)
  where
    by : (next : ℕ) → 0 < first_length (joined p next (parts_from next ps))
    by zero = omega arith
    by (suc k) = omega (arith, first_joined p k (parts_from (suc k) ps))

-- ---- what follows of the length of the first part

pub is_first : (n level : ℕ) (ps : List Piece) → level ≡ 0 → n ≡ first_length (parts_from level ps) → n ≡ first_length (parts_of ps)
unfolding parts_of
is_first n level ps e h = h ∙ ap (λ l. first_length (parts_from l ps)) e

pub cut : (n : ℕ) (ps : List Piece) → n ≡ first_length (parts_of ps) → 0 < length ps → parts_of ps ≡ take n ps ∷ parts_of (drop n ps)
unfolding parts_of
cut n [] e some = absurd (omega arith)
cut n (p ∷ ps) e some = first_part 0 p ps ∙ ap (λ m. take m (p ∷ ps) ∷ parts_from 0 (drop m (p ∷ ps))) (sym e)

pub some : (n : ℕ) (ps : List Piece) → n ≡ first_length (parts_of ps) → 0 < length ps → 0 < n
unfolding parts_of
some n [] e h = absurd (omega arith)
some n (p ∷ ps) e h = omega (arith, e, first_some 0 p ps)

pub within : (n : ℕ) (ps : List Piece) → n ≡ first_length (parts_of ps) → n ≤ length ps
unfolding parts_of
within n ps e = omega (arith, e, first_within 0 ps)

pub argument_length : (n : ℕ) (ps : List Piece) → n ≡ first_length (parts_of ps) → (a : Argument) (rest : List Piece) → IsArgumentOf IsTerm a → ps ≡ pieces_of_argument a ++ rest → n ≡ length (pieces_of_argument a)
unfolding parts_of
argument_length n ps e a rest h is = e ∙ ap (λ qs. first_length (parts_from 0 qs)) is ∙ ap first_length (argument_part a rest h)

pub function_length : (n : ℕ) (ps : List Piece) → n ≡ first_length (parts_of ps) → (c : Call) (rest : List Piece) → IsCall c → ps ≡ pieces_of_call pieces.Function c ++ rest → n ≡ length (pieces_of_call pieces.Function c)
unfolding parts_of
function_length n ps e c rest h is = e ∙ ap (λ qs. first_length (parts_from 0 qs)) is ∙ ap first_length (call_part c rest h)

pub letter_length : (n : ℕ) (ps : List Piece) → n ≡ first_length (parts_of ps) → (c : Call) (rest : List Piece) → IsCall c → ps ≡ pieces_of_call pieces.NonCommuting c ++ rest → n ≡ length (pieces_of_call pieces.NonCommuting c)
unfolding parts_of
letter_length n ps e c rest h is = e ∙ ap (λ qs. first_length (parts_from 0 qs)) is ∙ ap first_length (word_part c rest h)

-- ---- the walk to the end of the first part

pub at_end : (len level i next : ℕ) (ps : List Piece) (p : Piece) → p ≡ get_or ps i p → i < length ps → next ≡ level_behind level p → next ≡ 0 → len + first_length (parts_from level (drop i ps)) ≡ first_length (parts_from 0 ps) → len + 1 ≡ first_length (parts_of ps)
unfolding parts_of
at_end len level i next ps p is within behind ends h =
    let here = drop_more ps i p within ∙ ap (λ (x : Piece). x ∷ drop (i + 1) ps) (sym is) in
    ap (λ n. len + n) (sym (ap (λ qs. first_length (parts_from level qs)) here ∙ first_ends level p (drop (i + 1) ps) (sym behind ∙ ends))) ∙ h

pub at_last : (len level i : ℕ) (ps : List Piece) → length ps ≤ i → len + first_length (parts_from level (drop i ps)) ≡ first_length (parts_from 0 ps) → len ≡ first_length (parts_of ps)
unfolding parts_of
at_last len level i ps past h =
    let none : drop i ps ≡ [] = nil_from_length (drop i ps) (omega (arith, length-drop i ps)) in
    let e : len ≡ len + 0 = omega arith in
    e ∙ ap (λ qs. len + first_length (parts_from level qs)) (sym none) ∙ h
