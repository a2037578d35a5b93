-- How large terms are in arguments, and how many indices stand in a term.
use Rattle.std.proofs.Common.{◌≡◌, ℕ, ◌+◌, ◌*◌, ◌<◌, ◌≤◌, Bool, true, false, cond, List, [], ◌∷◌, ◌++◌, length, get_or, map, refl, ap, arith, length-append}
use Rattle.std.proofs.lemmas.List.{length-map}
use Rattle.std.specs.Prelude.{flat_map, sum}
use Rattle.std.specs.Int.{is_negative}
use Rattle.std.specs.List.{sum_by}
use Rattle.std.proofs.lemmas.List.Sums.{sum_by-cons, sum_by-append, get_or-le-sum_by, sum-map}
use Rattle.form_term.specs.declared.index.Component.{Component}
use Rattle.form_term.specs.declared.index.Delta.{Delta}
use Rattle.form_term.specs.declared.index.Index.{Index}
use Rattle.form_term.specs.declared.monomial.Monomial.{Monomial}
use Rattle.form_term.specs.declared.piece.Piece.{Piece}
use Rattle.form_term.specs.declared.piece.Piece.TheVariants as pieces
use Rattle.form_term.specs.declared.power.DotPower.{DotPower}
use Rattle.form_term.specs.declared.power.Power.{Power}
use Rattle.form_term.specs.Arguments.{first_summands}
use Rattle.form_term.specs.Monomial.{as_monomial}
use Rattle.form_term.specs.Pieces.{counts, piece_of_dot, piece_of_power, size_of_pieces}
use Rattle.form_term.specs.Term.{Argument, Call, Summand, Term, index, vector, expression, pieces_of_argument, pieces_of_arguments, pieces_of_call, pieces_of_summand, pieces_of_term, size, size_of_call}
use Rattle.form_flow.specs.Indices.{indices_in, indices_of_call, indices_of_delta, indices_of_piece}
use Rattle.form_flow.specs.Sizes.{weight}

-- ---- sizes of pieces

-- what a piece counts
abbrev one : Piece → ℕ
one p = cond (counts p) 1 0

pub size_both : (ps qs : List Piece) → size_of_pieces (ps ++ qs) ≡ size_of_pieces ps + size_of_pieces qs
size_both ps qs = sum_by-append one ps qs

size_next : (p : Piece) (ps : List Piece) → size_of_pieces (p ∷ ps) ≡ one p + size_of_pieces ps
size_next p ps = sum_by-cons one p ps

-- pieces each of which counts
size_each : {A : Type 0} (piece : A → Piece) → ((x : A) → counts (piece x) ≡ true) → (xs : List A) → size_of_pieces (map piece xs) ≡ length xs
size_each piece h [] = refl
size_each piece h (x ∷ xs) =
    let here : one (piece x) ≡ 1 = ap (λ (b : Bool). cond b 1 0) (h x) in
    omega (arith, here, size_next (piece x) (map piece xs), size_each piece h xs)

power_counts : (p : Power) → counts (piece_of_power p) ≡ true
power_counts p = step (is_negative p.exponent)
  where
    step : (b : Bool) → counts (cond b (pieces.Negative p) (pieces.Positive (record { 0 = p.symbol }) p.exponent)) ≡ true
    step true = refl
    step false = refl

dot_counts : (d : DotPower) → counts (piece_of_dot d) ≡ true
dot_counts d = step (is_negative d.exponent)
  where
    step : (b : Bool) → counts (cond b (pieces.NegativeDot d) (pieces.PositiveDot (record { 0 = d.left }) (record { 0 = d.right }) d.exponent)) ≡ true
    step true = refl
    step false = refl

size_of_imaginary : (b : Bool) → size_of_pieces (cond b (pieces.Imaginary ∷ []) []) ≡ 0
size_of_imaginary true = refl
size_of_imaginary false = refl

-- functions, which begin with a piece that counts
module _ (begin : ℕ → Piece) (counted : (f : ℕ) → counts (begin f) ≡ true) where
  size_within : (c : Call) → size_of_pieces (pieces_of_call begin c) ≡ size_of_call c
  size_within c =
      let here : one (begin c.function) ≡ 1 = ap (λ (b : Bool). cond b 1 0) (counted c.function) in
      let end : size_of_pieces (pieces.EndOfArguments ∷ []) ≡ 0 = refl in
      omega (arith, here, end, size_both (begin c.function ∷ c.pieces) (pieces.EndOfArguments ∷ []), size_next (begin c.function) c.pieces)

  size_of_all : (cs : List Call) → size_of_pieces (flat_map (pieces_of_call begin) cs) ≡ sum (map size_of_call cs)
  size_of_all [] = refl
  size_of_all (c ∷ cs) =
      omega (arith, size_both (pieces_of_call begin c) (flat_map (pieces_of_call begin) cs), size_within c, size_of_all cs, sum_by-cons (λ (n : ℕ). n) (size_of_call c) (map size_of_call cs))

-- the pieces of a term count as its size
size_of_term : (t : Term) → size_of_pieces (pieces_of_term t) ≡ size t
size_of_term t =
    let o = t.others in
    let p1 : List Piece = cond o.is_imaginary (pieces.Imaginary ∷ []) [] in
    let p2 : List Piece = map piece_of_power t.symbols in
    let p3 : List Piece = map piece_of_dot o.dots in
    let p4 : List Piece = map pieces.Component o.components in
    let p5 : List Piece = map pieces.Delta o.deltas in
    let p6 : List Piece = flat_map (pieces_of_call pieces.Function) o.functions in
    let p7 : List Piece = flat_map (pieces_of_call pieces.NonCommuting) o.word in
    omega (
      arith,
      size_both p1 p2,
      size_both (p1 ++ p2) p3,
      size_both (p1 ++ p2 ++ p3) p4,
      size_both (p1 ++ p2 ++ p3 ++ p4) p5,
      size_both (p1 ++ p2 ++ p3 ++ p4 ++ p5) p6,
      size_both (p1 ++ p2 ++ p3 ++ p4 ++ p5 ++ p6) p7,
      size_of_imaginary o.is_imaginary,
      size_each piece_of_power power_counts t.symbols,
      size_each piece_of_dot dot_counts o.dots,
      size_each pieces.Component (λ c. refl) o.components,
      size_each pieces.Delta (λ d. refl) o.deltas,
      size_of_all pieces.Function (λ f. refl) o.functions,
      size_of_all pieces.NonCommuting (λ f. refl) o.word,
    )

-- the terms of an expression
size_of_summands : (ss : List Summand) → size_of_pieces (flat_map pieces_of_summand ss) ≡ sum_by weight (map as_monomial ss)
size_of_summands [] = refl
size_of_summands (s ∷ ss) =
    let end : List Piece = pieces.EndOfTerm (record { numerator = s.coefficient.numerator; denominator = s.coefficient.denominator }) ∷ [] in
    let last : size_of_pieces end ≡ 1 = refl in
    omega (
      arith,
      last,
      size_both (pieces_of_summand s) (flat_map pieces_of_summand ss),
      size_both (pieces_of_term s.term) end,
      size_of_term s.term,
      size_of_summands ss,
      sum_by-cons weight (as_monomial s) (map as_monomial ss),
    )

pub size_of_expression : (ss : List Summand) → sum_by weight (map as_monomial ss) < size_of_pieces (pieces_of_argument (expression ss))
size_of_expression ss =
    let end : size_of_pieces (pieces.EndOfSum ∷ []) ≡ 0 = refl in
    omega (arith, end, size_both (pieces.Sum ∷ flat_map pieces_of_summand ss) (pieces.EndOfSum ∷ []), size_next pieces.Sum (flat_map pieces_of_summand ss), size_of_summands ss)

-- the terms of the first argument are smaller than all of them
pub first_is_small : (args : List Argument) (ps : List Piece) → ps ≡ pieces_of_arguments args → sum_by weight (map as_monomial (first_summands args)) ≤ size_of_pieces ps
first_is_small [] ps e = omega arith
first_is_small (index i ∷ args) ps e = omega arith
first_is_small (vector v ∷ args) ps e = omega arith
first_is_small (expression ss ∷ args) ps e =
    let all : size_of_pieces ps ≡ size_of_pieces (pieces_of_argument (expression ss) ++ pieces_of_arguments args) = ap size_of_pieces e in
    omega (arith, all, size_both (pieces_of_argument (expression ss)) (pieces_of_arguments args), size_of_expression ss)

-- one of these functions, and one of these terms
pub one_call : (cs : List Call) (i : ℕ) (c : Call) → c ≡ get_or cs i c → i < length cs → size_of_call c ≤ sum (map size_of_call cs)
one_call cs i c is within =
    let here : size_of_call c ≡ size_of_call (get_or cs i c) = ap size_of_call is in
    omega (arith, here, get_or-le-sum_by size_of_call cs i c within, sum-map size_of_call cs)

pub one_term : (ms : List Monomial) (i : ℕ) (m : Monomial) → m ≡ get_or ms i m → i < length ms → size m.term < sum_by weight ms
one_term ms i m is within =
    let here : weight m ≡ weight (get_or ms i m) = ap weight is in
    omega (arith, here, get_or-le-sum_by weight ms i m within)

-- ---- how many indices there are

few_in_piece : (p : Piece) → length (indices_of_piece p) ≤ 2 * one p
few_in_piece (pieces.Component c) = omega arith
few_in_piece (pieces.Delta d) = omega arith
few_in_piece (pieces.Index i) = omega arith
few_in_piece p = omega arith

few_in_pieces : (ps : List Piece) → length (flat_map indices_of_piece ps) ≤ 2 * size_of_pieces ps
few_in_pieces [] = omega arith
few_in_pieces (p ∷ ps) = omega (arith, length-append (indices_of_piece p) (flat_map indices_of_piece ps), few_in_piece p, few_in_pieces ps, size_next p ps)

few_in_calls : (cs : List Call) → length (flat_map indices_of_call cs) ≤ 2 * sum (map size_of_call cs)
few_in_calls [] = omega arith
few_in_calls (c ∷ cs) =
    omega (arith, length-append (indices_of_call c) (flat_map indices_of_call cs), few_in_pieces c.pieces, few_in_calls cs, sum_by-cons (λ (n : ℕ). n) (size_of_call c) (map size_of_call cs))

few_in_deltas : (ds : List Delta) → length (flat_map indices_of_delta ds) ≡ 2 * length ds
few_in_deltas [] = refl
few_in_deltas (d ∷ ds) = omega (arith, length-append (indices_of_delta d) (flat_map indices_of_delta ds), few_in_deltas ds)

pub few_indices : (t : Term) → length (indices_in t) ≤ 2 * size t
few_indices t =
    let o = t.others in
    let i1 : List Index = map (λ (c : Component). c.index) o.components in
    let i2 : List Index = flat_map indices_of_delta o.deltas in
    let i3 : List Index = flat_map indices_of_call o.functions in
    let i4 : List Index = flat_map indices_of_call o.word in
    omega (
      arith,
      length-append i1 i2,
      length-append (i1 ++ i2) i3,
      length-append (i1 ++ i2 ++ i3) i4,
      length-map o.components (λ (c : Component). c.index),
      few_in_deltas o.deltas,
      few_in_calls o.functions,
      few_in_calls o.word,
    )
