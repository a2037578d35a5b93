-- What is made one after the other, up to the first refusal, and the arguments of a function from the first on.
use Rattle.std.proofs.Common.{◌≡◌, ℕ, ◌+◌, ◌<◌, ◌≤◌, List, [], ◌∷◌, ◌++◌, length, get_or, drop, Result, Ok, Err, refl, sym, ap, ◌∙◌, subst, arith, append_assoc, append-nil, length-append}
use Rattle.std.specs.Prelude.{All}
use Rattle.std.proofs.lemmas.List.{drop_all, drop_more}
use Rattle.std.proofs.lemmas.List.Elements.{All-cons, All-head, All-nil}
use Rattle.form_base.specs.declared.cause.Cause.{Cause}
use Rattle.form_expand.specs.declared.error.ExpandError.{ExpandError}
use Rattle.form_expand.specs.declared.error.ExpandError.TheVariants.{Refused, Memory}
use Rattle.form_match.specs.Parts.{HasFirst}
use Rattle.form_term.proofs.ReadBack.{read_back, reading}
use Rattle.form_term.specs.Arguments.{arguments_of, parts_of}
use Rattle.form_term.specs.Calls.{call}
use Rattle.form_term.specs.declared.piece.Piece.{Piece}
use Rattle.form_term.specs.Pieces.{size_of_pieces}
use Rattle.form_term.specs.Term.{Argument, AreArguments, IsArgumentOf, IsTerm, pieces_of_argument, pieces_of_arguments}
use Rattle.form_flow.specs.Indices.{and_made, before_made, call_by, each_made}
use Rattle.form_flow.specs.Made.{IsGiven, and_pieces}
use Rattle.form_flow.proofs.Sizes.{size_both}

-- ---- up to the first refusal

-- these before a list that isn't refused
abbrev pub behind : {A : Type 0} → List A → Result (List A) Cause → Result (List A) Cause
behind xs (Ok ys) = Ok (xs ++ ys)
behind xs (Err cause) = Err cause

pub behind_none : {A : Type 0} (r : Result (List A) Cause) → r ≡ behind [] r
behind_none (Ok ys) = refl
behind_none (Err cause) = refl

behind_more : {A : Type 0} (ys : List A) (y : A) (r : Result (List A) Cause) → behind ys (before_made y r) ≡ behind (ys ++ y ∷ []) r
behind_more ys y (Ok zs) = ap Ok (sym (append_assoc ys (y ∷ []) zs))
behind_more ys y (Err cause) = refl

module _ {A : Type 0} (make : A → Result A Cause) (xs ys : List A) (i : ℕ) (all : Result (List A) Cause) (so_far : all ≡ behind ys (each_made make (drop i xs))) where
  here : (x : A) → i < length xs → x ≡ get_or xs i x → all ≡ behind ys (and_made (make x) (each_made make (drop (i + 1) xs)))
  here x within is = so_far ∙ ap (λ (zs : List A). behind ys (each_made make zs)) (drop_more xs i x within ∙ ap (λ (y : A). y ∷ drop (i + 1) xs) (sym is))

  pub made_next : (x y : A) → i < length xs → x ≡ get_or xs i x → make x ≡ Ok y → all ≡ behind (ys ++ y ∷ []) (each_made make (drop (i + 1) xs))
  made_next x y within is e = here x within is ∙ ap (λ r. behind ys (and_made r (each_made make (drop (i + 1) xs)))) e ∙ behind_more ys y (each_made make (drop (i + 1) xs))

  pub made_refused : (x : A) (cause : Cause) → i < length xs → x ≡ get_or xs i x → make x ≡ Err cause → all ≡ Err cause
  made_refused x cause within is e = here x within is ∙ ap (λ r. behind ys (and_made r (each_made make (drop (i + 1) xs)))) e

  pub made_all : length xs ≤ i → all ≡ Ok ys
  made_all past = so_far ∙ ap (λ (zs : List A). behind ys (each_made make zs)) (drop_all i xs past) ∙ ap Ok (append-nil ys)

-- what is refused refuses more
pub still_refused : {A B C D : Type 0} (view : A → B) (next : C → D) (e : ExpandError) (r : Result B Cause) (all : Result D Cause) → ((cause : Cause) → r ≡ Err cause → all ≡ Err cause) → IsGiven view (Err e) r → IsGiven next (Err e) all
still_refused view next (Refused cause) r all on h = on cause h
still_refused view next Memory r all on h = tt

-- ---- the arguments of a function

abbrev ok_or : {A : Type 0} → A → Result A Cause → A
ok_or x (Ok y) = y
ok_or x (Err cause) = x

same_ok : {A : Type 0} (x y : A) → ◌≡◌ {A = Result A Cause} (Ok x) (Ok y) → x ≡ y
same_ok x y e = ap (ok_or x) e

abbrev cause_or : {A : Type 0} → Cause → Result A Cause → Cause
cause_or d (Ok y) = d
cause_or d (Err cause) = cause

same_cause : (c d : Cause) → ◌≡◌ {A = Result (List Piece) Cause} (Err c) (Err d) → c ≡ d
same_cause c d e = ap (cause_or c) e

-- the pieces of arguments, where none is refused
abbrev pub written : Result (List Argument) Cause → Result (List Piece) Cause
written (Ok args) = Ok (pieces_of_arguments args)
written (Err cause) = Err cause

-- where none is left
pub none_written : (make : Argument → Result Argument Cause) (ps rest done : List Piece) → rest ≡ [] → written (each_made make (arguments_of ps)) ≡ behind done (written (each_made make (arguments_of rest))) → written (each_made make (arguments_of ps)) ≡ Ok done
unfolding arguments_of parts_of
none_written make ps rest done none e = e ∙ ap (λ (qs : List Piece). behind done (written (each_made make (arguments_of qs)))) none ∙ ap Ok (append-nil done)

pub call_made : (r : Result (List Argument) Cause) (f : ℕ) (done : List Piece) → written r ≡ Ok done → call_by f r ≡ Ok (call f done)
call_made (Ok args) f done e = ap (λ (ps : List Piece). Ok (call f ps)) (same_ok (pieces_of_arguments args) done e)
call_made (Err cause) f done e = absurd cc

pub call_refused : (r : Result (List Argument) Cause) (f : ℕ) (cause : Cause) → written r ≡ Err cause → call_by f r ≡ Err cause
call_refused (Ok args) f cause e = absurd cc
call_refused (Err own) f cause e = ap Err (same_cause own cause e)

module _ (make : Argument → Result Argument Cause) (ps front rest : List Piece) (h : HasFirst ps front rest) where
  first_here : (old : List Piece) → behind old (written (each_made make (arguments_of ps))) ≡ behind old (written (and_made (make h.first) (each_made make (arguments_of rest))))
  first_here old =
      ap (λ (args : List Argument). behind old (written (each_made make args))) h.read
      ∙ ap (λ (args : List Argument). behind old (written (and_made (make h.first) (each_made make args)))) (sym h.behind_is)

  pub argument_next : (old new : List Piece) → and_pieces old (make h.first) ≡ Ok new → behind old (written (each_made make (arguments_of ps))) ≡ behind new (written (each_made make (arguments_of rest)))
  argument_next old new e = first_here old ∙ by (make h.first) (each_made make (arguments_of rest)) e
    where
      by : (a : Result Argument Cause) (more : Result (List Argument) Cause) → and_pieces old a ≡ Ok new → behind old (written (and_made a more)) ≡ behind new (written more)
      by (Err cause) more is = absurd cc
      by (Ok a) (Err cause) is = refl
      by (Ok a) (Ok args) is =
          ap Ok (sym (append_assoc old (pieces_of_argument a) (pieces_of_arguments args)) ∙ ap (λ (qs : List Piece). qs ++ pieces_of_arguments args) (same_ok (old ++ pieces_of_argument a) new is))

  pub argument_refused : (old : List Piece) (cause : Cause) → and_pieces old (make h.first) ≡ Err cause → behind old (written (each_made make (arguments_of ps))) ≡ Err cause
  argument_refused old cause e = first_here old ∙ by (make h.first) e
    where
      by : (a : Result Argument Cause) → and_pieces old a ≡ Err cause → behind old (written (and_made a (each_made make (arguments_of rest)))) ≡ Err cause
      by (Err own) is = is
      by (Ok a) is = absurd cc

-- what holds of a first argument
module _ (ps front rest : List Piece) (h : HasFirst ps front rest) where
  pub first_lawful : AreArguments ps → IsArgumentOf IsTerm h.first
  first_lawful lawful = All-head (IsArgumentOf IsTerm) h.first h.args (subst (λ (args : List Argument). All (IsArgumentOf IsTerm) args) h.read (read_back ps lawful).1)

  pub first_smaller : size_of_pieces front ≤ size_of_pieces ps
  first_smaller = omega (arith, size_both front rest, ap size_of_pieces h.parts)

  pub rest_smaller : size_of_pieces rest ≤ size_of_pieces ps
  rest_smaller = omega (arith, size_both front rest, ap size_of_pieces h.parts)

  pub rest_shorter : length rest < length ps
  rest_shorter = omega (arith, h.some, length-append front rest, ap length h.parts)

-- the only argument of its pieces
pub only_argument : (a : Argument) (ps : List Piece) → IsArgumentOf IsTerm a → ps ≡ pieces_of_argument a → arguments_of ps ≡ a ∷ []
only_argument a ps lawful is =
    ap arguments_of (is ∙ sym (append-nil (pieces_of_argument a)))
    ∙ reading (a ∷ []) (All-cons (IsArgumentOf IsTerm) a [] lawful (All-nil (IsArgumentOf IsTerm)))
