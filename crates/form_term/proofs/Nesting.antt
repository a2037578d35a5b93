-- Nesting: lawful arguments make a lawful function.
use Rattle.std.proofs.Common.{◌≡◌, ℕ, zero, suc, ◌+◌, List, [], ◌∷◌, ◌++◌, refl, ap, sym, ◌∙◌, subst, arith, append-nil, append_assoc, drop, length, get_or, ◌<◌}
use Rattle.std.specs.Prelude.{All, false, flat_map, nat_abs, ◌≤◌}
use Rattle.std.specs.List.{AllByRecursion}
use Rattle.std.specs.List.Sorted.{IsStrictlySortedBy}
use Rattle.std.specs.Ordering.{on}
use Rattle.std.specs.declared.cmp.Ordering.TheVariants.{Less}
use Rattle.std.proofs.lemmas.List.Elements.{All-nil, All-cons, All-append, recursion_from_All, All-from_recursion}
use Rattle.std.proofs.lemmas.Grind.{flat_map-append}
use Rattle.std.proofs.lemmas.List.{drop_more}
use Rattle.form_frac.specs.Fraction.{IsLowest, is_zero}
use Rattle.form_term.specs.declared.monomial.Monomial.{Monomial}
use Rattle.form_term.specs.declared.piece.Piece.{Piece}
use Rattle.form_term.specs.declared.power.Power.{Power}
use Rattle.form_term.specs.Monomial.{summands_of}
use Rattle.form_term.specs.Term.{Term, Call, Summand, Argument, index, vector, expression, IsTerm, IsTermOf, IsExpressionOf, IsExpression, IsArgumentOf, ArePiecesOf, AreArguments, IsCallTo, IsCall, order, one, largest_exponent, pieces_of_summand, pieces_of_argument, pieces_of_arguments}
use Rattle.form_term.specs.TermLaws.{symbols_lawful}

-- What holds at some number.
record Somewhere {A : Type 0} (P : ℕ → A → Type 0) (x : A) : Type 0 where
  number : ℕ
  holds : P number x

-- where what holds at a number holds at the next one, there is one number for all of a list
module _ {A : Type 0} (P : ℕ → A → Type 0) (up : (n : ℕ) (x : A) → P n x → P (suc n) x) where
  raise : (k n : ℕ) (x : A) → P n x → P (k + n) x
  raise zero n x h = subst (λ m. P m x) (omega arith) h
  raise (suc k) n x h = subst (λ m. P m x) (omega arith) (up (k + n) x (raise k n x h))

  raise_all : (k n : ℕ) (xs : List A) → AllByRecursion (P n) xs → AllByRecursion (P (k + n)) xs
  raise_all k n [] h = tt
  raise_all k n (x ∷ xs) h = (raise k n x h.0, raise_all k n xs h.1)

  common : (xs : List A) → AllByRecursion (Somewhere P) xs → Somewhere (λ n ys. AllByRecursion (P n) ys) xs
  common [] h = record { number = 0; holds = tt }
  common (x ∷ xs) h =
      let rest = common xs h.1 in
      let first : P (rest.number + h.0.number) x = raise rest.number h.0.number x h.0.holds in
      let others = raise_all h.0.number rest.number xs rest.holds in
      record { number = h.0.number + rest.number; holds = (subst (λ m. P m x) (omega arith) first, others) }

pub all_map : {A : Type 0} (P Q : A → Type 0) → ((x : A) → P x → Q x) → (xs : List A) → AllByRecursion P xs → AllByRecursion Q xs
all_map P Q f [] h = tt
all_map P Q f (x ∷ xs) h = (f x h.0, all_map P Q f xs h.1)

each_map : {A : Type 0} (P Q : A → Type 0) → ((x : A) → P x → Q x) → (xs : List A) → All P xs → All Q xs
each_map P Q f xs h = All-from_recursion Q xs (all_map P Q f xs (recursion_from_All P xs h))

-- a term with other functions that hold
term_of : (P Q : Call → Type 0) (t : Term) → IsTermOf P t → All Q t.others.functions → All Q t.others.word → IsTermOf Q t
term_of P Q t h functions word = record {
  rising = h.rising;
  present = h.present;
  in_range = h.in_range;
  others = record {
    dots_rise = h.others.dots_rise;
    dots_present = h.others.dots_present;
    dots_in_range = h.others.dots_in_range;
    dots_turned = h.others.dots_turned;
    components_rise = h.others.components_rise;
    deltas_rise = h.others.deltas_rise;
    deltas_turned = h.others.deltas_turned;
    functions_rise = h.others.functions_rise;
    functions = functions;
    word = word;
  };
  small = h.small;
  shallow = h.shallow;
}

pub term_map : (P Q : Call → Type 0) → ((c : Call) → P c → Q c) → (t : Term) → IsTermOf P t → IsTermOf Q t
term_map P Q f t h = term_of P Q t h (each_map P Q f t.others.functions h.others.functions) (each_map P Q f t.others.word h.others.word)

expression_of : (P Q : Term → Type 0) (ss : List Summand) → IsExpressionOf P ss → All (λ s. Q s.term) ss → IsExpressionOf Q ss
expression_of P Q ss h all = record { rising = h.rising; present = h.present; lowest = h.lowest; terms = all }

argument_map : (P Q : Term → Type 0) → ((t : Term) → P t → Q t) → (a : Argument) → IsArgumentOf P a → IsArgumentOf Q a
argument_map P Q f (index i) h = tt
argument_map P Q f (vector v) h = tt
argument_map P Q f (expression ss) h = expression_of P Q ss h (each_map (λ (s : Summand). P s.term) (λ (s : Summand). Q s.term) (λ s. f s.term) ss h.terms)

pub pieces_map : (P Q : Term → Type 0) → ((t : Term) → P t → Q t) → (ps : List Piece) → ArePiecesOf P ps → ArePiecesOf Q ps
pieces_map P Q f ps h = record { arguments = h.arguments; written = h.written; lawful = each_map (IsArgumentOf P) (IsArgumentOf Q) (argument_map P Q f) h.arguments h.lawful }

-- a function that nests so deep nests at most one level deeper
more : (n : ℕ) (c : Call) → IsCallTo n c → IsCallTo (suc n) c
more zero c h = pieces_map (λ t. ⊥) (IsTermOf (IsCallTo zero)) (λ t e. absurd e) c.pieces h
more (suc n) c h = pieces_map (IsTermOf (IsCallTo n)) (IsTermOf (IsCallTo (suc n))) (term_map (IsCallTo n) (IsCallTo (suc n)) (more n)) c.pieces h

calls_nest : (cs : List Call) → All IsCall cs → Somewhere (λ n ds. AllByRecursion (IsCallTo n) ds) cs
calls_nest cs h = common IsCallTo more cs (all_map IsCall (Somewhere IsCallTo) (λ c i. record { number = i.nesting; holds = i.nests }) cs (recursion_from_All IsCall cs h))

abbrev IsTermTo : ℕ → Term → Type 0
IsTermTo n t = IsTermOf (IsCallTo n) t

more_term : (n : ℕ) (t : Term) → IsTermTo n t → IsTermTo (suc n) t
more_term n t h = term_map (IsCallTo n) (IsCallTo (suc n)) (more n) t h

term_nests : (t : Term) → IsTerm t → Somewhere IsTermTo t
term_nests t h =
    let functions = calls_nest t.others.functions h.others.functions in
    let word = calls_nest t.others.word h.others.word in
    let number : ℕ = functions.number + word.number in
    let first : AllByRecursion (IsCallTo (word.number + functions.number)) t.others.functions = raise_all IsCallTo more word.number functions.number t.others.functions functions.holds in
    let turned : AllByRecursion (IsCallTo number) t.others.functions = subst (λ m. AllByRecursion (IsCallTo m) t.others.functions) (omega arith) first in
    let second : AllByRecursion (IsCallTo number) t.others.word = raise_all IsCallTo more functions.number word.number t.others.word word.holds in
    record { number = number; holds = term_of IsCall (IsCallTo number) t h (All-from_recursion (IsCallTo number) t.others.functions turned) (All-from_recursion (IsCallTo number) t.others.word second) }

abbrev IsSummandTo : ℕ → Summand → Type 0
IsSummandTo n s = IsTermTo n s.term

abbrev IsArgumentTo : ℕ → Argument → Type 0
IsArgumentTo n a = IsArgumentOf (IsTermTo n) a

more_argument : (n : ℕ) (a : Argument) → IsArgumentTo n a → IsArgumentTo (suc n) a
more_argument n a h = argument_map (IsTermTo n) (IsTermTo (suc n)) (more_term n) a h

argument_nests : (a : Argument) → IsArgumentOf IsTerm a → Somewhere IsArgumentTo a
argument_nests (index i) h = record { number = 0; holds = tt }
argument_nests (vector v) h = record { number = 0; holds = tt }
argument_nests (expression ss) h =
    let at = common IsSummandTo (λ n s. more_term n s.term) ss (all_map (λ (s : Summand). IsTerm s.term) (Somewhere IsSummandTo) (λ s i. let nested = term_nests s.term i in record { number = nested.number; holds = nested.holds }) ss (recursion_from_All (λ (s : Summand). IsTerm s.term) ss h.terms)) in
    record { number = at.number; holds = expression_of IsTerm (IsTermTo at.number) ss h (All-from_recursion (IsSummandTo at.number) ss at.holds) }

-- a function whose pieces are those of lawful arguments is lawful
pub call_lawful : (c : Call) → AreArguments c.pieces → IsCall c
call_lawful c h =
    let at = common IsArgumentTo more_argument h.arguments (all_map (IsArgumentOf IsTerm) (Somewhere IsArgumentTo) argument_nests h.arguments (recursion_from_All (IsArgumentOf IsTerm) h.arguments h.lawful)) in
    record { nesting = suc at.number; nests = record { arguments = h.arguments; written = h.written; lawful = All-from_recursion (IsArgumentTo at.number) h.arguments at.holds } }

-- ---- one argument more

written_append : (xs : List Argument) (a : Argument) → pieces_of_arguments (xs ++ a ∷ []) ≡ pieces_of_arguments xs ++ pieces_of_argument a
written_append xs a = flat xs
  where
    flat : (ys : List Argument) → flat_map pieces_of_argument (ys ++ a ∷ []) ≡ flat_map pieces_of_argument ys ++ pieces_of_argument a
    flat [] = append-nil (pieces_of_argument a)
    flat (y ∷ ys) = ap (λ zs. pieces_of_argument y ++ zs) (flat ys) ∙ regroup (pieces_of_argument y) (flat_map pieces_of_argument ys) (pieces_of_argument a)
      where
        regroup : (p q r : List Piece) → p ++ (q ++ r) ≡ (p ++ q) ++ r
        regroup [] q r = refl
        regroup (x ∷ p) q r = ap (λ zs. x ∷ zs) (regroup p q r)

pub one_more : (ps qs : List Piece) (a : Argument) → AreArguments ps → IsArgumentOf IsTerm a → qs ≡ ps ++ pieces_of_argument a → AreArguments qs
one_more ps qs a h lawful e = record {
  arguments = h.arguments ++ a ∷ [];
  written = e ∙ ap (λ xs. xs ++ pieces_of_argument a) h.written ∙ sym (written_append h.arguments a);
  lawful = All-append (IsArgumentOf IsTerm) h.arguments (a ∷ []) h.lawful (All-cons (IsArgumentOf IsTerm) a [] lawful (All-nil (IsArgumentOf IsTerm)));
}

-- arguments behind others
pub more_pieces : (ps qs : List Piece) → AreArguments ps → AreArguments qs → AreArguments (ps ++ qs)
more_pieces ps qs h k = record {
  arguments = h.arguments ++ k.arguments;
  written = ap (λ xs. xs ++ qs) h.written ∙ ap (λ xs. pieces_of_arguments h.arguments ++ xs) k.written ∙ sym (flat_map-append pieces_of_argument h.arguments k.arguments);
  lawful = All-append (IsArgumentOf IsTerm) h.arguments k.arguments h.lawful k.lawful;
}

abbrev pub IsSummandLawful : Monomial → Type 0
IsSummandLawful m = IsLowest m.coefficient × IsTerm m.term

-- terms with their coefficients that rise, none of them 0, are an expression
pub expression_lawful : (ms : List Monomial) → IsStrictlySortedBy (on (λ m. m.term) order) ms → All (λ m. is_zero m.coefficient ≡ false) ms → All IsSummandLawful ms → IsExpression (summands_of ms)
unfolding IsStrictlySortedBy
expression_lawful ms rising present lawful =
    let all = recursion_from_All IsSummandLawful ms lawful in
    record {
      rising = rise ms rising;
      present = All-from_recursion (λ (s : Summand). is_zero s.coefficient ≡ false) (summands_of ms) (mapped (λ (s : Summand). is_zero s.coefficient ≡ false) ms (recursion_from_All (λ (m : Monomial). is_zero m.coefficient ≡ false) ms present));
      lowest = All-from_recursion (λ (s : Summand). IsLowest s.coefficient) (summands_of ms) (mapped (λ (s : Summand). IsLowest s.coefficient) ms (all_map IsSummandLawful (λ (m : Monomial). IsLowest m.coefficient) (λ m h. h.0) ms all));
      terms = All-from_recursion (λ (s : Summand). IsTerm s.term) (summands_of ms) (mapped (λ (s : Summand). IsTerm s.term) ms (all_map IsSummandLawful (λ (m : Monomial). IsTerm m.term) (λ m h. h.1) ms all));
    }
  where
    summand : Monomial → Summand
    summand m = record { coefficient = m.coefficient; term = m.term }

    mapped : (P : Summand → Type 0) (xs : List Monomial) → AllByRecursion (λ m. P (record { coefficient = m.coefficient; term = m.term })) xs → AllByRecursion P (summands_of xs)
    mapped P [] h = tt
    mapped P (x ∷ xs) h = (h.0, mapped P xs h.1)

    rise : (xs : List Monomial) → IsStrictlySortedBy (on (λ m. m.term) order) xs → IsStrictlySortedBy (on (λ s. s.term) order) (summands_of xs)
    rise [] h = tt
    rise (x ∷ xs) h = (mapped (λ (s : Summand). order x.term s.term ≡ Less) xs h.0, rise xs h.1)

-- what is put and what is left, one term further
pub term_put : (old new : List Piece) (ms : List Monomial) (i : ℕ) (m : Monomial) → m ≡ get_or ms i m → i < length ms → new ≡ old ++ pieces_of_summand (record { coefficient = m.coefficient; term = m.term })
    → new ++ flat_map pieces_of_summand (summands_of (drop (i + 1) ms)) ≡ old ++ flat_map pieces_of_summand (summands_of (drop i ms))
term_put old new ms i m is within e =
    let here = drop_more ms i m within ∙ ap (λ (x : Monomial). x ∷ drop (i + 1) ms) (sym is) in
    ap (λ ps. ps ++ flat_map pieces_of_summand (summands_of (drop (i + 1) ms))) e
    ∙ append_assoc old (pieces_of_summand (record { coefficient = m.coefficient; term = m.term })) (flat_map pieces_of_summand (summands_of (drop (i + 1) ms)))
    ∙ ap (λ xs. old ++ flat_map pieces_of_summand (summands_of xs)) (sym here)

-- an expression of one term
pub alone_lawful : (s : Summand) → is_zero s.coefficient ≡ false → IsLowest s.coefficient → IsTerm s.term → IsExpression (s ∷ [])
unfolding IsStrictlySortedBy
alone_lawful s present lowest lawful = record {
  rising = (tt, tt);
  present = All-cons (λ (s : Summand). is_zero s.coefficient ≡ false) s [] present (All-nil (λ (s : Summand). is_zero s.coefficient ≡ false));
  lowest = All-cons (λ (s : Summand). IsLowest s.coefficient) s [] lowest (All-nil (λ (s : Summand). IsLowest s.coefficient));
  terms = All-cons (λ (s : Summand). IsTerm s.term) s [] lawful (All-nil (λ (s : Summand). IsTerm s.term));
}

pub one_lawful : IsTerm one
one_lawful = symbols_lawful [] (tt, All-nil (λ (p : Power). 0 < nat_abs p.exponent)) (All-nil (λ (p : Power). nat_abs p.exponent ≤ largest_exponent)) (omega arith)
