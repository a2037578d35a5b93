-- Induction over arguments that nest: what holds of pieces alone and of what is put between a beginning and its end holds of the pieces of all arguments.
use Rattle.std.proofs.Common.{◌≡◌, ℕ, zero, suc, Bool, true, false, List, [], ◌∷◌, ◌++◌, map, if◌then◌else◌, refl, sym, subst}
use Rattle.std.specs.Prelude.{All, flat_map}
use Rattle.std.specs.Int.{is_negative}
use Rattle.std.specs.List.{AllByRecursion}
use Rattle.std.proofs.lemmas.List.Elements.{recursion_from_All}
use Rattle.form_term.specs.declared.power.Power.{Power}
use Rattle.form_term.specs.declared.power.DotPower.{DotPower}
use Rattle.form_term.specs.declared.piece.Piece.{Piece}
use Rattle.form_term.specs.declared.piece.Piece.TheVariants as pieces
use Rattle.form_term.specs.Pieces.{piece_of_power, piece_of_dot}
use Rattle.form_term.specs.Term.{Argument, Call, Summand, Term, index, vector, expression, AreArguments, ArePiecesOf, IsArgumentOf, IsCall, IsCallTo, IsTerm, IsTermOf, pieces_of_argument, pieces_of_arguments, pieces_of_call, pieces_of_summand, pieces_of_term}
use Rattle.form_term.proofs.Nesting.{all_map}

-- whether a piece neither begins nor ends anything that holds others
abbrev pub is_alone : Piece → Bool
is_alone pieces.Sum = false
is_alone (pieces.Function f) = false
is_alone (pieces.NonCommuting f) = false
is_alone pieces.EndOfSum = false
is_alone pieces.EndOfArguments = false
is_alone p = true

-- What holds of pieces, and of all that are put together of such ones.
pub record IsKept (P : List Piece → Type 0) : Type 0 where
  pub none : P []
  pub both : (xs ys : List Piece) → P xs → P ys → P (xs ++ ys)
  pub alone : (p : Piece) → is_alone p ≡ true → P (p ∷ [])
  pub sum : (xs : List Piece) → P xs → P (pieces.Sum ∷ xs ++ pieces.EndOfSum ∷ [])
  pub function : (f : ℕ) (xs : List Piece) → P xs → P (pieces.Function f ∷ xs ++ pieces.EndOfArguments ∷ [])
  pub non_commuting : (f : ℕ) (xs : List Piece) → P xs → P (pieces.NonCommuting f ∷ xs ++ pieces.EndOfArguments ∷ [])

module _ (P : List Piece → Type 0) (kept : IsKept P) where
  abbrev IsHeld : Call → Type 0
  IsHeld c = P c.pieces

  listed : {A : Type 0} (piece : A → Piece) → ((x : A) → P (piece x ∷ [])) → (xs : List A) → P (map piece xs)
  listed piece each [] = kept.none
  listed piece each (x ∷ xs) = kept.both (piece x ∷ []) (map piece xs) (each x) (listed piece each xs)

  either : (b : Bool) (p q : Piece) → P (p ∷ []) → P (q ∷ []) → P ((if b then p else q) ∷ [])
  either true p q h k = h
  either false p q h k = k

  power : (p : Power) → P (piece_of_power p ∷ [])
  power p = either (is_negative p.exponent) (pieces.Negative p) (pieces.Positive (record { 0 = p.symbol }) p.exponent) (kept.alone (pieces.Negative p) refl) (kept.alone (pieces.Positive (record { 0 = p.symbol }) p.exponent) refl)

  dot : (d : DotPower) → P (piece_of_dot d ∷ [])
  dot d = either (is_negative d.exponent) (pieces.NegativeDot d) (pieces.PositiveDot (record { 0 = d.left }) (record { 0 = d.right }) d.exponent) (kept.alone (pieces.NegativeDot d) refl) (kept.alone (pieces.PositiveDot (record { 0 = d.left }) (record { 0 = d.right }) d.exponent) refl)

  imaginary : (b : Bool) → P (if b then pieces.Imaginary ∷ [] else [])
  imaginary true = kept.alone pieces.Imaginary refl
  imaginary false = kept.none

  functions : (cs : List Call) → AllByRecursion IsHeld cs → P (flat_map (pieces_of_call pieces.Function) cs)
  functions [] h = kept.none
  functions (c ∷ cs) h = kept.both (pieces_of_call pieces.Function c) (flat_map (pieces_of_call pieces.Function) cs) (kept.function c.function c.pieces h.0) (functions cs h.1)

  word : (cs : List Call) → AllByRecursion IsHeld cs → P (flat_map (pieces_of_call pieces.NonCommuting) cs)
  word [] h = kept.none
  word (c ∷ cs) h = kept.both (pieces_of_call pieces.NonCommuting c) (flat_map (pieces_of_call pieces.NonCommuting) cs) (kept.non_commuting c.function c.pieces h.0) (word cs h.1)

  -- the factors of a term
  held_term : (t : Term) → AllByRecursion IsHeld t.others.functions → AllByRecursion IsHeld t.others.word → P (pieces_of_term t)
  held_term t in_functions in_word =
      kept.both _ _ (kept.both _ _ (kept.both _ _ (kept.both _ _ (kept.both _ _ (kept.both _ _
      (imaginary t.others.is_imaginary)
      (listed piece_of_power power t.symbols))
      (listed piece_of_dot dot t.others.dots))
      (listed pieces.Component (λ c. kept.alone (pieces.Component c) refl) t.others.components))
      (listed pieces.Delta (λ d. kept.alone (pieces.Delta d) refl) t.others.deltas))
      (functions t.others.functions in_functions))
      (word t.others.word in_word)

  module _ (Q : Term → Type 0) (inner : (t : Term) → Q t → P (pieces_of_term t)) where
    summands : (ss : List Summand) → AllByRecursion (λ s. Q s.term) ss → P (flat_map pieces_of_summand ss)
    summands [] h = kept.none
    summands (s ∷ ss) h = kept.both (pieces_of_summand s) (flat_map pieces_of_summand ss) (kept.both (pieces_of_term s.term) _ (inner s.term h.0) (kept.alone (pieces.EndOfTerm (record { numerator = s.coefficient.numerator; denominator = s.coefficient.denominator })) refl)) (summands ss h.1)

    argument : (a : Argument) → IsArgumentOf Q a → P (pieces_of_argument a)
    argument (index i) h = kept.alone (pieces.Index i) refl
    argument (vector v) h = kept.alone (pieces.Vector v) refl
    argument (expression ss) h = kept.sum (flat_map pieces_of_summand ss) (summands ss (recursion_from_All (λ (s : Summand). Q s.term) ss h.terms))

    arguments : (args : List Argument) → AllByRecursion (IsArgumentOf Q) args → P (pieces_of_arguments args)
    arguments [] h = kept.none
    arguments (a ∷ args) h = kept.both (pieces_of_argument a) (pieces_of_arguments args) (argument a h.0) (arguments args h.1)

    held_pieces : (ps : List Piece) → ArePiecesOf Q ps → P ps
    held_pieces ps h = subst P (sym h.written) (arguments h.arguments (recursion_from_All (IsArgumentOf Q) h.arguments h.lawful))

  -- a term whose functions are such ones
  term_by : (Q : Call → Type 0) → ((c : Call) → Q c → IsHeld c) → (t : Term) → IsTermOf Q t → P (pieces_of_term t)
  term_by Q inner t h = held_term t (all_map Q IsHeld inner t.others.functions (recursion_from_All Q t.others.functions h.others.functions)) (all_map Q IsHeld inner t.others.word (recursion_from_All Q t.others.word h.others.word))

  -- the arguments of a function, however deep they nest
  call_to : (n : ℕ) (c : Call) → IsCallTo n c → P c.pieces
  call_to zero c h = held_pieces (λ t. ⊥) (λ t no_term. absurd no_term) c.pieces h
  call_to (suc n) c h = held_pieces (IsTermOf (IsCallTo n)) (term_by (IsCallTo n) (call_to n)) c.pieces h

  pub in_call : (c : Call) → IsCall c → P c.pieces
  in_call c h = call_to h.nesting c h.nests

  pub in_term : (t : Term) → IsTerm t → P (pieces_of_term t)
  in_term t h = term_by IsCall in_call t h

  pub in_summands : (ss : List Summand) → All (λ s. IsTerm s.term) ss → P (flat_map pieces_of_summand ss)
  in_summands ss h = summands IsTerm in_term ss (recursion_from_All (λ (s : Summand). IsTerm s.term) ss h)

  pub in_argument : (a : Argument) → IsArgumentOf IsTerm a → P (pieces_of_argument a)
  in_argument a h = argument IsTerm in_term a h

  pub in_arguments : (ps : List Piece) → AreArguments ps → P ps
  in_arguments ps h = held_pieces IsTerm in_term ps h
