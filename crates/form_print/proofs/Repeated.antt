-- Commuting functions in a row: whether one stands there once more behind its end is whether the next one is equal.
use Rattle.std.proofs.Common.{◌≡◌, ◌≤◌, ℕ, suc, Bool, true, false, List, [], ◌∷◌, ◌++◌, length, take, drop, if◌then◌else◌, refl, sym, ap, ◌∙◌, append_assoc, arith, length-append, le-ltb}
use Rattle.std.specs.Prelude.{flat_map, nat_lt}
use Rattle.std.specs.List.{AllByRecursion}
use Rattle.std.specs.Ordering.{is_eq}
use Rattle.std.specs.Cmp.Lexicographic.{slice_cmp}
use Rattle.std.specs.declared.cmp.Ordering.{Ordering}
use Rattle.std.specs.declared.cmp.Ordering.TheVariants.{Less, Equal, Greater}
use Rattle.std.proofs.lemmas.Cmp.{lists_total, tied_itself}
use Rattle.std.proofs.lemmas.List.{take-append-drop}
use Rattle.std.proofs.Math.Seq.{take-append_seam, drop-append_seam}
use Rattle.form_term.specs.Pieces.{piece_order}
use Rattle.form_term.specs.declared.piece.Piece.{Piece}
use Rattle.form_term.specs.declared.piece.Coefficient.{Coefficient}
use Rattle.form_term.specs.declared.piece.Piece.TheVariants as pieces
use Rattle.form_term.specs.contracts.piece.PieceOrd.TheImpl.Laws as piece_laws
use Rattle.form_term.specs.Term.{Call, call_order, pieces_of_call}
use Rattle.form_term.specs.TermLaws.{call_order_total, calls_equal, lists_equal, pieces_equal}
use Rattle.form_print.specs.Arguments.{is_repeated, length_in, stand_twice}
use Rattle.form_print.specs.Printing.{is_followed}
use Rattle.form_print.proofs.Balanced.{IsBalanced, call_length}
use Rattle.form_print.proofs.Passing.{if_false}

-- a commuting function, and what stands behind its name
abbrev whole : Call → List Piece
whole c = pieces_of_call pieces.Function c

abbrev inside : Call → List Piece
inside c = c.pieces ++ pieces.EndOfArguments ∷ []

-- whether such pieces stand at the front of others
abbrev stand_behind : ℕ → List Piece → List Piece → Bool
stand_behind n front more = if nat_lt (length more) n then false else is_eq (slice_cmp piece_order front (take n more))

split : (front more : List Piece) → stand_twice (length front) (front ++ more) ≡ stand_behind (length front) front more
split front more =
    ap (λ xs. if nat_lt (length xs) (length front) then false else is_eq (slice_cmp piece_order (take (length front) (front ++ more)) (take (length front) xs))) (drop-append_seam front more)
    ∙ ap (λ xs. if nat_lt (length more) (length front) then false else is_eq (slice_cmp piece_order xs (take (length front) more))) (take-append_seam front more)

looks : (c : Call) (more : List Piece) → IsBalanced c.pieces → is_repeated (whole c ++ more) ≡ stand_behind (length (whole c)) (whole c) more
looks c more h = ap (λ n. stand_twice (suc n) (whole c ++ more)) (call_length c.pieces more h) ∙ split (whole c) more

-- What begins with no commuting function.
abbrev pub IsOther : List Piece → Type 0
IsOther rest = (f n : ℕ) (xs : List Piece) → stand_behind (suc n) (pieces.Function f ∷ xs) rest ≡ false

either : (b : Bool) → (if b then false else false) ≡ false
either true = refl
either false = refl

pub other_end : (c : Coefficient) (rest : List Piece) → IsOther (pieces.EndOfTerm c ∷ rest)
other_end c rest f n xs = either (nat_lt (length (pieces.EndOfTerm c ∷ rest)) (suc n))

pub other_word : (g : ℕ) (rest : List Piece) → IsOther (pieces.NonCommuting g ∷ rest)
other_word g rest f n xs = either (nat_lt (length (pieces.NonCommuting g ∷ rest)) (suc n))

both : (b c : Bool) → (if b then false else c) ≡ true → c ≡ true
both true c e = cc
both false c e = e

from_eq : (r : Ordering) → is_eq r ≡ true → r ≡ Equal
from_eq Less e = cc
from_eq Equal e = refl
from_eq Greater e = cc

name_in : List Piece → ℕ
name_in (pieces.Function f ∷ ps) = f
name_in ps = 0

behind_first : List Piece → List Piece
behind_first [] = []
behind_first (p ∷ ps) = ps

-- only the same function begins with all of a function
same_call : (c d : Call) (more : List Piece) → IsBalanced c.pieces → IsBalanced d.pieces → stand_behind (length (whole c)) (whole c) (whole d ++ more) ≡ true → c ≡ d
unfolding name_in behind_first
same_call c d more in_c in_d e =
    let n : ℕ = length (whole c) in
    let behind : List Piece = drop n (whole d ++ more) in
    let front : whole c ≡ take n (whole d ++ more) = lists_equal piece_order pieces_equal (whole c) (take n (whole d ++ more)) (from_eq (slice_cmp piece_order (whole c) (take n (whole d ++ more))) (both (nat_lt (length (whole d ++ more)) n) _ e)) in
    let all : whole c ++ behind ≡ whole d ++ more = ap (λ xs. xs ++ behind) front ∙ take-append-drop n (whole d ++ more) in
    let lengths : length (inside c) ≡ length (inside d) = sym (call_length c.pieces behind in_c) ∙ ap (λ xs. length_in 0 (behind_first xs)) all ∙ call_length d.pieces more in_d in
    let same : whole c ≡ whole d = front ∙ ap (λ k. take (suc k) (whole d ++ more)) lengths ∙ take-append_seam (whole d) more in
    let functions : c.function ≡ d.function = ap name_in same in
    let counts : length c.pieces ≡ length d.pieces = omega (arith, sym (length-append c.pieces (pieces.EndOfArguments ∷ [])) ∙ lengths ∙ length-append d.pieces (pieces.EndOfArguments ∷ [])) in
    let arguments : c.pieces ≡ d.pieces =
    sym (take-append_seam c.pieces (pieces.EndOfArguments ∷ []))
    ∙ ap (λ xs. take (length c.pieces) (behind_first xs)) same
    ∙ ap (λ k. take k (inside d)) counts
    ∙ take-append_seam d.pieces (pieces.EndOfArguments ∷ []) in
    λ i. record { function = functions i; pieces = arguments i }

itself : (d : Call) (more : List Piece) → stand_behind (length (whole d)) (whole d) (whole d ++ more) ≡ true
itself d more =
    if_false (nat_lt (length (whole d ++ more)) (length (whole d))) false (is_eq (slice_cmp piece_order (whole d) (take (length (whole d)) (whole d ++ more)))) (le-ltb (length (whole d ++ more)) (length (whole d)) (longer (whole d) more))
    ∙ ap (λ xs. is_eq (slice_cmp piece_order (whole d) xs)) (take-append_seam (whole d) more)
    ∙ ap is_eq (tied_itself (lists_total piece_laws.total-law) (whole d))
  where
    longer : (xs ys : List Piece) → length xs ≤ length (xs ++ ys)
    longer xs ys = omega (arith, length-append xs ys)

alike : (b c : Bool) → (b ≡ true → c ≡ true) → (c ≡ true → b ≡ true) → b ≡ c
alike true c f g = sym (f refl)
alike false true f g = g refl
alike false false f g = refl

next : (c d : Call) (more : List Piece) → IsBalanced c.pieces → IsBalanced d.pieces → stand_behind (length (whole c)) (whole c) (whole d ++ more) ≡ is_eq (call_order c d)
next c d more in_c in_d =
    alike (stand_behind (length (whole c)) (whole c) (whole d ++ more)) (is_eq (call_order c d))
    (λ e. ap (λ x. is_eq (call_order c x)) (sym (same_call c d more in_c in_d e)) ∙ ap is_eq (tied_itself call_order_total c))
    (λ e. ap (λ x. stand_behind (length (whole x)) (whole x) (whole d ++ more)) (calls_equal c d (from_eq (call_order c d) e)) ∙ itself d more)

-- a function among those of a term, and what follows them
pub repeated : (c : Call) (cs : List Call) (rest : List Piece) → IsBalanced c.pieces → AllByRecursion (λ d. IsBalanced d.pieces) cs → IsOther rest →
    is_repeated (pieces_of_call pieces.Function c ++ (flat_map (pieces_of_call pieces.Function) cs ++ rest)) ≡ is_followed c cs
repeated c [] rest in_c in_cs other = looks c rest in_c ∙ other c.function (length (inside c)) (inside c)
repeated c (d ∷ ds) rest in_c in_cs other =
    looks c (flat_map (pieces_of_call pieces.Function) (d ∷ ds) ++ rest) in_c
    ∙ ap (stand_behind (length (whole c)) (whole c)) (append_assoc (whole d) (flat_map (pieces_of_call pieces.Function) ds) rest)
    ∙ next c d (flat_map (pieces_of_call pieces.Function) ds ++ rest) in_c in_cs.0
