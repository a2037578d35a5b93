-- Pieces in which each function that begins also ends, as those of a function's arguments: a look ahead passes over them.
use Rattle.std.proofs.Common.{◌≡◌, ℕ, zero, suc, ◌+◌, ◌-◌, Bool, true, false, List, [], ◌∷◌, ◌++◌, length, map, if◌then◌else◌, refl, sym, ap, ◌∙◌, append_assoc, arith, length-append, lt-ltb, subst}
use Rattle.std.specs.Prelude.{flat_map, nat_lt}
use Rattle.std.specs.Int.{is_negative}
use Rattle.std.specs.List.{AllByRecursion}
use Rattle.std.proofs.lemmas.List.Elements.{recursion_from_All}
use Rattle.form_term.specs.Pieces.{piece_of_power, piece_of_dot}
use Rattle.form_term.specs.declared.power.Power.{Power}
use Rattle.form_term.specs.declared.power.DotPower.{DotPower}
use Rattle.form_term.specs.declared.piece.Piece.{Piece}
use Rattle.form_term.specs.declared.piece.Coefficient.{Coefficient}
use Rattle.form_term.specs.declared.piece.Piece.TheVariants as pieces
use Rattle.form_term.specs.Term.{Argument, Call, Summand, Term, index, vector, expression, IsArgumentOf, IsCall, IsCallTo, IsTermOf, pieces_of_argument, pieces_of_arguments, pieces_of_call, pieces_of_summand, pieces_of_term}
use Rattle.form_print.specs.Arguments.{coefficient_in, fraction_of, length_in}
use Rattle.form_print.proofs.Passing.{if_true}

-- what holds of such pieces, wherever they stand
pub record IsBalanced (xs : List Piece) : Type 0 where
  pub counted : (level : ℕ) (rest : List Piece) → length_in level (xs ++ rest) ≡ length xs + length_in level rest
  pub skipped : (level : ℕ) (rest : List Piece) → coefficient_in (suc level) (xs ++ rest) ≡ coefficient_in (suc level) rest

zero_plus : (n : ℕ) → n ≡ 0 + n
zero_plus n = omega arith

suc_plus : (a n : ℕ) → suc (a + n) ≡ suc a + n
suc_plus a n = omega arith

none : IsBalanced []
none = record { counted = λ level rest. zero_plus (length_in level rest); skipped = λ level rest. refl }

both : (xs ys : List Piece) → IsBalanced xs → IsBalanced ys → IsBalanced (xs ++ ys)
both xs ys p q = record {
  counted = λ level rest. ap (length_in level) (append_assoc xs ys rest) ∙ p.counted level (ys ++ rest) ∙ ap (λ n. length xs + n) (q.counted level rest) ∙ sums (length xs) (length ys) (length_in level rest) ∙ ap (λ n. n + length_in level rest) (sym (length-append xs ys));
  skipped = λ level rest. ap (coefficient_in (suc level)) (append_assoc xs ys rest) ∙ p.skipped level (ys ++ rest) ∙ q.skipped level rest;
}
  where
    sums : (a b n : ℕ) → a + (b + n) ≡ (a + b) + n
    sums a b n = omega arith

-- the arguments of a function between its name and its end
in_call : (ps : List Piece) (level : ℕ) (rest : List Piece) → IsBalanced ps → length_in (level + 1) ((ps ++ pieces.EndOfArguments ∷ []) ++ rest) ≡ length (ps ++ pieces.EndOfArguments ∷ []) + length_in level rest
in_call ps level rest h =
    ap (length_in (level + 1)) (append_assoc ps (pieces.EndOfArguments ∷ []) rest) ∙ h.counted (level + 1) (pieces.EndOfArguments ∷ rest)
    ∙ ap (λ n. length ps + n) (if_true (nat_lt 0 (level + 1)) (suc (length_in (level + 1 - 1) rest)) 1 (lt-ltb 0 (level + 1) (omega arith)) ∙ ap (λ l. suc (length_in l rest)) (back level))
    ∙ plus_one (length ps) (length_in level rest)
    ∙ ap (λ n. n + length_in level rest) (sym (length-append ps (pieces.EndOfArguments ∷ [])))
  where
    back : (l : ℕ) → l + 1 - 1 ≡ l
    back l = omega arith

    plus_one : (a n : ℕ) → a + suc n ≡ (a + 1) + n
    plus_one a n = omega arith

over_call : (ps : List Piece) (level : ℕ) (rest : List Piece) → IsBalanced ps → coefficient_in (suc level + 1) ((ps ++ pieces.EndOfArguments ∷ []) ++ rest) ≡ coefficient_in (suc level) rest
over_call ps level rest h =
    ap (coefficient_in (suc level + 1)) (append_assoc ps (pieces.EndOfArguments ∷ []) rest)
    ∙ ap (λ l. coefficient_in l (ps ++ pieces.EndOfArguments ∷ rest)) (up level)
    ∙ h.skipped (suc level) (pieces.EndOfArguments ∷ rest)
    ∙ ap (λ l. coefficient_in l rest) (down level)
  where
    up : (l : ℕ) → suc l + 1 ≡ suc (suc l)
    up l = omega arith

    down : (l : ℕ) → suc (suc l) - 1 ≡ suc l
    down l = omega arith

-- the name of a function is passed, and with it all up to its end
pub call_length : (ps rest : List Piece) → IsBalanced ps → length_in 0 ((ps ++ pieces.EndOfArguments ∷ []) ++ rest) ≡ length (ps ++ pieces.EndOfArguments ∷ [])
call_length ps rest h =
    ap (length_in 0) (append_assoc ps (pieces.EndOfArguments ∷ []) rest)
    ∙ h.counted 0 (pieces.EndOfArguments ∷ rest)
    ∙ sym (length-append ps (pieces.EndOfArguments ∷ []))

pub call_passed : (ps rest : List Piece) → IsBalanced ps → coefficient_in 1 ((ps ++ pieces.EndOfArguments ∷ []) ++ rest) ≡ coefficient_in 0 rest
call_passed ps rest h =
    ap (coefficient_in 1) (append_assoc ps (pieces.EndOfArguments ∷ []) rest)
    ∙ h.skipped 0 (pieces.EndOfArguments ∷ rest)

function : (c : Call) → IsBalanced c.pieces → IsBalanced (pieces_of_call pieces.Function c)
function c h = record { counted = λ level rest. ap suc (in_call c.pieces level rest h) ∙ suc_plus (length (c.pieces ++ pieces.EndOfArguments ∷ [])) (length_in level rest); skipped = λ level rest. over_call c.pieces level rest h }

non_commuting : (c : Call) → IsBalanced c.pieces → IsBalanced (pieces_of_call pieces.NonCommuting c)
non_commuting c h = record { counted = λ level rest. ap suc (in_call c.pieces level rest h) ∙ suc_plus (length (c.pieces ++ pieces.EndOfArguments ∷ [])) (length_in level rest); skipped = λ level rest. over_call c.pieces level rest h }

functions : (cs : List Call) → AllByRecursion (λ c. IsBalanced c.pieces) cs → IsBalanced (flat_map (pieces_of_call pieces.Function) cs)
functions [] h = none
functions (c ∷ cs) h = both (pieces_of_call pieces.Function c) (flat_map (pieces_of_call pieces.Function) cs) (function c h.0) (functions cs h.1)

word : (cs : List Call) → AllByRecursion (λ c. IsBalanced c.pieces) cs → IsBalanced (flat_map (pieces_of_call pieces.NonCommuting) cs)
word [] h = none
word (c ∷ cs) h = both (pieces_of_call pieces.NonCommuting c) (flat_map (pieces_of_call pieces.NonCommuting) cs) (non_commuting c h.0) (word cs h.1)

-- a list of pieces each of which neither begins nor ends anything
listed : {A : Type 0} (piece : A → Piece) → ((x : A) → IsBalanced (piece x ∷ [])) → (xs : List A) → IsBalanced (map piece xs)
listed piece h [] = none
listed piece h (x ∷ xs) = both (piece x ∷ []) (map piece xs) (h x) (listed piece h xs)

one : (n : ℕ) → suc n ≡ 1 + n
one n = omega arith

either : (b : Bool) (p q : Piece) → IsBalanced (p ∷ []) → IsBalanced (q ∷ []) → IsBalanced ((if b then p else q) ∷ [])
either true p q h k = h
either false p q h k = k

power : (p : Power) → IsBalanced (piece_of_power p ∷ [])
power p = either (is_negative p.exponent) _ _
    (record { counted = λ level rest. one (length_in level rest); skipped = λ level rest. refl })
    (record { counted = λ level rest. one (length_in level rest); skipped = λ level rest. refl })

dot : (d : DotPower) → IsBalanced (piece_of_dot d ∷ [])
dot d = either (is_negative d.exponent) _ _
    (record { counted = λ level rest. one (length_in level rest); skipped = λ level rest. refl })
    (record { counted = λ level rest. one (length_in level rest); skipped = λ level rest. refl })

imaginary : (b : Bool) → IsBalanced (if b then pieces.Imaginary ∷ [] else [])
imaginary true = record { counted = λ level rest. one (length_in level rest); skipped = λ level rest. refl }
imaginary false = none

-- the factors of a term
pub term : (t : Term) → AllByRecursion (λ c. IsBalanced c.pieces) t.others.functions → AllByRecursion (λ c. IsBalanced c.pieces) t.others.word → IsBalanced (pieces_of_term t)
term t in_functions in_word =
    both _ _ (both _ _ (both _ _ (both _ _ (both _ _ (both _ _
    (imaginary t.others.is_imaginary)
    (listed piece_of_power power t.symbols))
    (listed piece_of_dot dot t.others.dots))
    (listed pieces.Component (λ c. record { counted = λ level rest. one (length_in level rest); skipped = λ level rest. refl }) t.others.components))
    (listed pieces.Delta (λ d. record { counted = λ level rest. one (length_in level rest); skipped = λ level rest. refl }) t.others.deltas))
    (functions t.others.functions in_functions))
    (word t.others.word in_word)

end_of_term : (c : Coefficient) → IsBalanced (pieces.EndOfTerm c ∷ [])
end_of_term c = record {
  counted = λ level rest. one (length_in level rest);
  skipped = λ level rest. if_true (nat_lt 0 (suc level)) (coefficient_in (suc level) rest) (fraction_of c) (lt-ltb 0 (suc level) (omega arith));
}

summands : (P : Term → Type 0) → ((t : Term) → P t → IsBalanced (pieces_of_term t)) → (ss : List Summand) → AllByRecursion (λ s. P s.term) ss → IsBalanced (flat_map pieces_of_summand ss)
summands P inner [] h = none
summands P inner (s ∷ ss) h = both (pieces_of_summand s) (flat_map pieces_of_summand ss) (both _ _ (inner s.term h.0) (end_of_term _)) (summands P inner ss h.1)

argument : (P : Term → Type 0) → ((t : Term) → P t → IsBalanced (pieces_of_term t)) → (a : Argument) → IsArgumentOf P a → IsBalanced (pieces_of_argument a)
argument P inner (index i) h = record { counted = λ level rest. one (length_in level rest); skipped = λ level rest. refl }
argument P inner (vector v) h = record { counted = λ level rest. one (length_in level rest); skipped = λ level rest. refl }
argument P inner (expression ss) h =
    both (pieces.Sum ∷ []) (flat_map pieces_of_summand ss ++ pieces.EndOfSum ∷ [])
    (record { counted = λ level rest. one (length_in level rest); skipped = λ level rest. refl })
    (both (flat_map pieces_of_summand ss) (pieces.EndOfSum ∷ []) (summands P inner ss (recursion_from_All _ ss h.terms))
    (record { counted = λ level rest. one (length_in level rest); skipped = λ level rest. refl }))

arguments : (P : Term → Type 0) → ((t : Term) → P t → IsBalanced (pieces_of_term t)) → (args : List Argument) → AllByRecursion (IsArgumentOf P) args → IsBalanced (pieces_of_arguments args)
arguments P inner [] h = none
arguments P inner (a ∷ args) h = both (pieces_of_argument a) (pieces_of_arguments args) (argument P inner a h.0) (arguments P inner args h.1)

each_call : (P : Call → Type 0) → ((c : Call) → P c → IsBalanced c.pieces) → (cs : List Call) → AllByRecursion P cs → AllByRecursion (λ c. IsBalanced c.pieces) cs
each_call P inner [] h = tt
each_call P inner (c ∷ cs) h = (inner c h.0, each_call P inner cs h.1)

-- the arguments of a function, however deep they nest
pub call_to : (n : ℕ) (c : Call) → IsCallTo n c → IsBalanced c.pieces
call_to zero c h = subst IsBalanced (sym h.written) (arguments (λ t. ⊥) (λ t no_term. absurd no_term) h.arguments (recursion_from_All _ h.arguments h.lawful))
call_to (suc n) c h =
    subst IsBalanced (sym h.written)
    (arguments (IsTermOf (IsCallTo n)) (λ t lawful. term t (each_call (IsCallTo n) (call_to n) t.others.functions (recursion_from_All _ t.others.functions lawful.others.functions)) (each_call (IsCallTo n) (call_to n) t.others.word (recursion_from_All _ t.others.word lawful.others.word)))
    h.arguments (recursion_from_All _ h.arguments h.lawful))

pub call : (c : Call) → IsCall c → IsBalanced c.pieces
call c h = call_to h.nesting c h.nests
