-- The text that is put of a function's arguments from their pieces is that of the arguments as they nest.
use Rattle.std.proofs.Common.{◌≡◌, ℕ, zero, suc, Bool, true, false, List, [], ◌∷◌, ◌++◌, map, if◌then◌else◌, refl, sym, ap, ◌∙◌, subst, append_assoc, append-nil}
use Rattle.std.specs.Prelude.{All, codes, flat_map}
use Rattle.std.specs.List.{AllByRecursion, join_with_byte}
use Rattle.std.proofs.lemmas.List.Elements.{All-from_recursion, recursion_from_All}
use Rattle.form_frac.specs.Fraction.{Fraction, has_size_one}
use Rattle.form_names.specs.Names.{Entry}
use Rattle.form_term.specs.declared.piece.Piece.{Piece}
use Rattle.form_term.specs.declared.piece.Coefficient.{Coefficient}
use Rattle.form_term.specs.declared.piece.Piece.TheVariants as pieces
use Rattle.form_term.specs.Term.{AreArguments, ArePiecesOf, Argument, Call, Summand, Term, index, vector, expression, IsArgumentOf, IsCall, IsCallTo, IsTerm, IsTermOf, call_of, pieces_of_argument, pieces_of_arguments, pieces_of_summand, pieces_of_term}
use Rattle.form_print.specs.Arguments.{arguments_text, before_argument, before_factor, closing_behind, number_behind, opening, shown_size}
use Rattle.form_print.specs.Joined.{starred}
use Rattle.form_print.specs.Printing.{argument_text, call_text, factor_texts, first_term, function_text, in_parentheses, later_term, nested_text, parenthesized, sum_text, term_text, with_size}
use Rattle.form_print.specs.Texts.{first_sign, later_sign, name_of, size_text}
use Rattle.form_print.proofs.Balanced.{IsBalanced, call_to}
use Rattle.form_print.proofs.Factors.{IsPut, Opens, PutInside, StandsBehind, close_of, onward, open_of, put_behind, term_put}
use Rattle.form_print.proofs.Joined.{behind_stars, join_with_byte-cons}
use Rattle.form_print.proofs.Passing.{nothing_left, one_piece}

-- What holds of a piece behind which a term begins, with such a sign.
record Begins (before : Piece) (sign : Fraction → List ℕ) : Type 0 where
  pub factor : (k : Fraction) → before_factor before k ≡ sign k ++ shown_size k
  pub number : (k : Fraction) → number_behind before k ≡ sign k ++ size_text k

begins_first : Begins pieces.Sum first_sign
begins_first = record { factor = λ k. refl; number = λ k. refl }

begins_later : (c : Coefficient) → Begins (pieces.EndOfTerm c) (λ k. 32 ∷ later_sign k)
begins_later c = record { factor = λ k. refl; number = λ k. refl }

-- a size before factors
sized : (one : Bool) (sign size f : List ℕ) (fs : List (List ℕ)) → ((sign ++ (if one then [] else size ++ codes "*")) ++ f) ++ starred false fs ≡ sign ++ join_with_byte 42 (if one then f ∷ fs else size ∷ f ∷ fs)
sized true sign size f fs =
    bare sign f (starred false fs)
    ∙ ap (λ x. sign ++ x) (ap (λ x. f ++ x) (sym (behind_stars fs)) ∙ sym (join_with_byte-cons 42 f fs))
  where
    bare : (a b c : List ℕ) → ((a ++ []) ++ b) ++ c ≡ a ++ (b ++ c)
    bare a b c = simp (append_assoc, append-nil)
sized false sign size f fs =
    shown sign size f (starred false fs)
    ∙ ap (λ x. sign ++ x) (ap (λ x. size ++ x) (sym (behind_stars (f ∷ fs))) ∙ sym (join_with_byte-cons 42 size (f ∷ fs)))
  where
    shown : (a b c d : List ℕ) → ((a ++ (b ++ codes "*")) ++ c) ++ d ≡ a ++ (b ++ ((42 ∷ c) ++ d))
    shown a b c d = simp append_assoc

-- a term's factors and its end
with_end : (before after : Piece) (sign : Fraction → List ℕ) (k : Fraction) (fs : List (List ℕ)) → Begins before sign → StandsBehind before fs after → put_behind before k fs ++ number_behind after k ≡ sign k ++ join_with_byte 42 (with_size k fs)
with_end before after sign k [] h stands = ap (λ p. number_behind p k) stands ∙ h.number k
with_end before after sign k (f ∷ fs) h stands =
    ap (λ x. ((before_factor before k ++ f) ++ starred false fs) ++ x) (stands.number k)
    ∙ append-nil ((before_factor before k ++ f) ++ starred false fs)
    ∙ ap (λ x. (x ++ f) ++ starred false fs) (h.factor k)
    ∙ sized (has_size_one k) (sign k) (size_text k) f fs

-- What is shown of a term: that its functions are put as they nest.
record HasPut (names : List Entry) (t : Term) : Type 0 where
  pub functions : AllByRecursion (IsPut names) t.others.functions
  pub word : AllByRecursion (IsPut names) t.others.word

abbrev end_of : Summand → Coefficient
end_of s = record { numerator = s.coefficient.numerator; denominator = s.coefficient.denominator }

-- a term with its coefficient
summand_put : (names : List Entry) (s : Summand) (before : Piece) (sign : Fraction → List ℕ) (opened : List ℕ) (rest : List Piece) → Begins before sign → HasPut names s.term →
    onward names before opened (pieces_of_summand s ++ rest) ≡ (sign s.coefficient ++ term_text names s.coefficient s.term) ++ onward names (pieces.EndOfTerm (end_of s)) opened rest
summand_put names s before sign opened rest h put =
    let k : Fraction = s.coefficient in
    let factors = term_put names s.term before opened (end_of s) rest put.functions put.word in
    let texts : List (List ℕ) = factor_texts names s.term in
    let end : Piece = pieces.EndOfTerm (end_of s) in
    ap (onward names before opened) (append_assoc (pieces_of_term s.term) (end ∷ []) rest)
    ∙ factors.put
    ∙ ap (λ x. put_behind before k texts ++ x) (one_piece names factors.after 0 1 opened end rest refl refl)
    ∙ sym (append_assoc (put_behind before k texts) (number_behind factors.after k) (onward names end opened rest))
    ∙ ap (λ x. x ++ onward names end opened rest) (with_end before factors.after sign k texts h factors.stands)

-- the later terms of a sum, and its end
later_put : (names : List Entry) (ss : List Summand) (c : Coefficient) (opened : List ℕ) (rest : List Piece) → AllByRecursion (λ s. HasPut names s.term) ss →
    onward names (pieces.EndOfTerm c) opened (flat_map pieces_of_summand ss ++ (pieces.EndOfSum ∷ rest)) ≡ flat_map (λ later. 32 ∷ later) (map (later_term names) ss) ++ onward names pieces.EndOfSum opened rest
later_put names [] c opened rest h = one_piece names (pieces.EndOfTerm c) 0 1 opened pieces.EndOfSum rest refl refl
later_put names (s ∷ ss) c opened rest h =
    ap (onward names (pieces.EndOfTerm c) opened) (append_assoc (pieces_of_summand s) (flat_map pieces_of_summand ss) (pieces.EndOfSum ∷ rest))
    ∙ summand_put names s (pieces.EndOfTerm c) (λ k. 32 ∷ later_sign k) opened (flat_map pieces_of_summand ss ++ (pieces.EndOfSum ∷ rest)) (begins_later c) h.0
    ∙ ap (λ x. (32 ∷ later_term names s) ++ x) (later_put names ss (end_of s) opened rest h.1)
    ∙ sym (append_assoc (32 ∷ later_term names s) (flat_map (λ later. 32 ∷ later) (map (later_term names) ss)) (onward names pieces.EndOfSum opened rest))

-- the terms of a sum, and its end
sum_put : (names : List Entry) (ss : List Summand) (opened : List ℕ) (rest : List Piece) → AllByRecursion (λ s. HasPut names s.term) ss →
    onward names pieces.Sum opened (flat_map pieces_of_summand ss ++ (pieces.EndOfSum ∷ rest)) ≡ sum_text names ss ++ onward names pieces.EndOfSum opened rest
sum_put names [] opened rest h = one_piece names pieces.Sum 0 1 opened pieces.EndOfSum rest refl refl
sum_put names (s ∷ ss) opened rest h =
    ap (onward names pieces.Sum opened) (append_assoc (pieces_of_summand s) (flat_map pieces_of_summand ss) (pieces.EndOfSum ∷ rest))
    ∙ summand_put names s pieces.Sum first_sign opened (flat_map pieces_of_summand ss ++ (pieces.EndOfSum ∷ rest)) begins_first h.0
    ∙ ap (λ x. first_term names s ++ x) (later_put names ss (end_of s) opened rest h.1)
    ∙ sym (append_assoc (first_term names s) (flat_map (λ later. 32 ∷ later) (map (later_term names) ss)) (onward names pieces.EndOfSum opened rest))
    ∙ ap (λ x. x ++ onward names pieces.EndOfSum opened rest) (sym (join_with_byte-cons 32 (first_term names s) (map (later_term names) ss)))

-- What is put of one argument.
record PutArgument (names : List Entry) (a : Argument) (before : Piece) (opened : List ℕ) (rest : List Piece) : Type 0 where
  pub after : Piece
  pub put : onward names before opened (pieces_of_argument a ++ rest) ≡ (before_argument before ++ argument_text names a) ++ onward names after opened rest
  pub comma : before_argument after ≡ codes ","
  pub close : closing_behind after ≡ codes ")"

argument_put : (names : List Entry) (P : Term → Type 0) → ((t : Term) → P t → HasPut names t) → (a : Argument) → IsArgumentOf P a → (before : Piece) (opened : List ℕ) (rest : List Piece) → PutArgument names a before opened rest
argument_put names P inner (index i) h before opened rest = record { after = pieces.Index i; put = one_piece names before 0 1 opened (pieces.Index i) rest refl refl; comma = refl; close = refl }
argument_put names P inner (vector v) h before opened rest = record { after = pieces.Vector v; put = one_piece names before 0 1 opened (pieces.Vector v) rest refl refl; comma = refl; close = refl }
argument_put names P inner (expression ss) h before opened rest = record {
  after = pieces.EndOfSum;
  put =
      one_piece names before 0 1 opened pieces.Sum ((flat_map pieces_of_summand ss ++ pieces.EndOfSum ∷ []) ++ rest) refl refl
      ∙ ap (λ x. before_argument before ++ onward names pieces.Sum opened x) (append_assoc (flat_map pieces_of_summand ss) (pieces.EndOfSum ∷ []) rest)
      ∙ ap (λ x. before_argument before ++ x) (sum_put names ss opened rest (each ss (recursion_from_All _ ss h.terms)))
      ∙ sym (append_assoc (before_argument before) (sum_text names ss) (onward names pieces.EndOfSum opened rest));
  comma = refl;
  close = refl;
}
  where
    each : (xs : List Summand) → AllByRecursion (λ s. P s.term) xs → AllByRecursion (λ s. HasPut names s.term) xs
    each [] k = tt
    each (x ∷ xs) k = (inner x.term k.0, each xs k.1)

-- What is put of the arguments behind one.
record PutLater (names : List Entry) (args : List Argument) (before : Piece) (opened : List ℕ) (rest : List Piece) : Type 0 where
  pub after : Piece
  pub put : onward names before opened (pieces_of_arguments args ++ rest) ≡ flat_map (λ later. 44 ∷ later) (map (argument_text names) args) ++ onward names after opened rest
  pub close : closing_behind after ≡ codes ")"

later_arguments : (names : List Entry) (P : Term → Type 0) → ((t : Term) → P t → HasPut names t) → (args : List Argument) → AllByRecursion (IsArgumentOf P) args → (before : Piece) → before_argument before ≡ codes "," → closing_behind before ≡ codes ")" →
    (opened : List ℕ) (rest : List Piece) → PutLater names args before opened rest
later_arguments names P inner [] h before comma close opened rest = record { after = before; put = refl; close = close }
later_arguments names P inner (a ∷ args) h before comma close opened rest =
    let first = argument_put names P inner a h.0 before opened (pieces_of_arguments args ++ rest) in
    let later = later_arguments names P inner args h.1 first.after first.comma first.close opened rest in
    record {
      after = later.after;
      put =
          ap (onward names before opened) (append_assoc (pieces_of_argument a) (pieces_of_arguments args) rest)
          ∙ first.put
          ∙ ap (λ x. (x ++ argument_text names a) ++ onward names first.after opened (pieces_of_arguments args ++ rest)) comma
          ∙ ap (λ x. (44 ∷ argument_text names a) ++ x) later.put
          ∙ sym (append_assoc (44 ∷ argument_text names a) (flat_map (λ later. 44 ∷ later) (map (argument_text names) args)) (onward names later.after opened rest));
      close = later.close;
    }

-- What is put of all arguments of a function.
record PutAll (names : List Entry) (args : List Argument) (before : Piece) (opened : List ℕ) (rest : List Piece) : Type 0 where
  pub after : Piece
  pub put : onward names before opened (pieces_of_arguments args ++ rest) ≡ nested_text names args ++ onward names after opened rest
  pub close : closing_behind after ≡ close_of (pieces_of_arguments args)

closed_alike : (a : Argument) (args : List Argument) → close_of (pieces_of_arguments (a ∷ args)) ≡ codes ")"
closed_alike (index i) args = refl
closed_alike (vector v) args = refl
closed_alike (expression ss) args = refl

arguments_put : (names : List Entry) (P : Term → Type 0) → ((t : Term) → P t → HasPut names t) → (args : List Argument) → AllByRecursion (IsArgumentOf P) args → (before : Piece) → Opens before → (opened : List ℕ) (rest : List Piece) → PutAll names args before opened rest
arguments_put names P inner [] h before opens opened rest = record { after = before; put = refl; close = opens.close }
arguments_put names P inner (a ∷ args) h before opens opened rest =
    let first = argument_put names P inner a h.0 before opened (pieces_of_arguments args ++ rest) in
    let later = later_arguments names P inner args h.1 first.after first.comma first.close opened rest in
    record {
      after = later.after;
      put =
          ap (onward names before opened) (append_assoc (pieces_of_argument a) (pieces_of_arguments args) rest)
          ∙ first.put
          ∙ ap (λ x. (x ++ argument_text names a) ++ onward names first.after opened (pieces_of_arguments args ++ rest)) opens.comma
          ∙ ap (λ x. argument_text names a ++ x) later.put
          ∙ sym (append_assoc (argument_text names a) (flat_map (λ later. 44 ∷ later) (map (argument_text names) args)) (onward names later.after opened rest))
          ∙ ap (λ x. x ++ onward names later.after opened rest) (sym (join_with_byte-cons 44 (argument_text names a) (map (argument_text names) args)));
      close = later.close ∙ sym (closed_alike a args);
    }

-- the same alone
arguments_alone : (names : List Entry) (P : Term → Type 0) → ((t : Term) → P t → HasPut names t) → (args : List Argument) → AllByRecursion (IsArgumentOf P) args → arguments_text names (pieces_of_arguments args) ≡ nested_text names args
arguments_alone names P inner args h =
    let put = arguments_put names P inner args h (pieces.Function 0) (record { comma = refl; close = refl }) [] [] in
    ap (onward names (pieces.Function 0) []) (sym (append-nil (pieces_of_arguments args)))
    ∙ put.put
    ∙ ap (λ x. nested_text names args ++ x) (nothing_left names put.after 0 1 [] [] refl)
    ∙ append-nil (nested_text names args)

opens_alike : (args : List Argument) (rest : List Piece) → opening ((pieces_of_arguments args ++ pieces.EndOfArguments ∷ []) ++ rest) ≡ open_of (pieces_of_arguments args)
opens_alike [] rest = refl
opens_alike (index i ∷ args) rest = refl
opens_alike (vector v ∷ args) rest = refl
opens_alike (expression ss ∷ args) rest = refl

-- a function whose arguments are these
call_put : (names : List Entry) (P : Term → Type 0) → ((t : Term) → P t → HasPut names t) → (c : Call) (args : List Argument) → c.pieces ≡ pieces_of_arguments args → AllByRecursion (IsArgumentOf P) args → IsBalanced c.pieces → IsPut names c
call_put names P inner c args written h balanced = record {
  balanced = balanced;
  inside = λ before opens opened rest.
      let put = arguments_put names P inner args h before opens opened rest in
      subst (λ ps. PutInside names before opened ps rest) (sym written)
      (record { after = put.after; put = put.put ∙ ap (λ x. x ++ onward names put.after opened rest) (sym (arguments_alone names P inner args h)); close = put.close });
  opens = λ rest. subst (λ ps. opening ((ps ++ pieces.EndOfArguments ∷ []) ++ rest) ≡ open_of ps) (sym written) (opens_alike args rest);
}

each_call : (names : List Entry) (P : Call → Type 0) → ((c : Call) → P c → IsPut names c) → (cs : List Call) → AllByRecursion P cs → AllByRecursion (IsPut names) cs
each_call names P inner [] h = tt
each_call names P inner (c ∷ cs) h = (inner c h.0, each_call names P inner cs h.1)

term_has : (names : List Entry) (P : Call → Type 0) → ((c : Call) → P c → IsPut names c) → (t : Term) → IsTermOf P t → HasPut names t
term_has names P inner t h = record {
  functions = each_call names P inner t.others.functions (recursion_from_All P t.others.functions h.others.functions);
  word = each_call names P inner t.others.word (recursion_from_All P t.others.word h.others.word);
}

-- a function, however deep its arguments nest
nested_put : (names : List Entry) (n : ℕ) (c : Call) → IsCallTo n c → IsPut names c
nested_put names zero c h = call_put names (λ t. ⊥) (λ t no_term. absurd no_term) c h.arguments h.written (recursion_from_All _ h.arguments h.lawful) (call_to zero c h)
nested_put names (suc n) c h =
    call_put names (IsTermOf (IsCallTo n)) (term_has names (IsCallTo n) (nested_put names n)) c h.arguments h.written (recursion_from_All _ h.arguments h.lawful) (call_to (suc n) c h)

-- all arguments of a function
pub arguments_nest : (names : List Entry) (args : List Argument) → All (IsArgumentOf IsTerm) args → arguments_text names (pieces_of_arguments args) ≡ nested_text names args
arguments_nest names args h =
    arguments_alone names IsTerm (term_has names IsCall (λ c is_call. nested_put names is_call.nesting c is_call.nests)) args (recursion_from_All _ args h)

-- a function with its arguments
parenthesized_alike : (names : List Entry) (a : Argument) (args : List Argument) → in_parentheses names (pieces_of_arguments (a ∷ args)) ≡ parenthesized (arguments_text names (pieces_of_arguments (a ∷ args)))
parenthesized_alike names (index i) args = refl
parenthesized_alike names (vector v) args = refl
parenthesized_alike names (expression ss) args = refl

pub function_nests : (names : List Entry) (f : ℕ) (args : List Argument) → All (IsArgumentOf IsTerm) args → call_text names (call_of f args) ≡ function_text names f args
function_nests names f [] h = append-nil (name_of names f)
function_nests names f (a ∷ args) h = ap (λ x. name_of names f ++ x) (parenthesized_alike names a args ∙ ap parenthesized (arguments_nest names (a ∷ args) h))

-- the arguments of a lawful function are lawful, whatever the number of levels
each_map : {A : Type 0} (P Q : A → Type 0) → ((x : A) → P x → Q x) → (xs : List A) → All P xs → All Q xs
each_map {A = A} P Q f xs h = All-from_recursion Q xs (by_element xs (recursion_from_All P xs h))
  where
    by_element : (ys : List A) → AllByRecursion P ys → AllByRecursion Q ys
    by_element [] k = tt
    by_element (y ∷ ys) k = (f y k.0, by_element ys k.1)

argument_map : (P Q : Term → Type 0) → ((t : Term) → P t → Q t) → (a : Argument) → IsArgumentOf P a → IsArgumentOf Q a
argument_map P Q f (index i) h = tt
argument_map P Q f (vector v) h = tt
argument_map P Q f (expression ss) h = record { rising = h.rising; present = h.present; lowest = h.lowest; terms = each_map (λ (s : Summand). P s.term) (λ (s : Summand). Q s.term) (λ s. f s.term) ss h.terms }

pieces_map : (P Q : Term → Type 0) → ((t : Term) → P t → Q t) → (ps : List Piece) → ArePiecesOf P ps → ArePiecesOf Q ps
pieces_map P Q f ps h = record { arguments = h.arguments; written = h.written; lawful = each_map (IsArgumentOf P) (IsArgumentOf Q) (argument_map P Q f) h.arguments h.lawful }

term_lawful : (n : ℕ) (t : Term) → IsTermOf (IsCallTo n) t → IsTerm t
term_lawful n t h = record {
  rising = h.rising;
  present = h.present;
  in_range = h.in_range;
  others = record {
    dots_rise = h.others.dots_rise;
    dots_present = h.others.dots_present;
    dots_in_range = h.others.dots_in_range;
    dots_turned = h.others.dots_turned;
    components_rise = h.others.components_rise;
    deltas_rise = h.others.deltas_rise;
    deltas_turned = h.others.deltas_turned;
    functions_rise = h.others.functions_rise;
    functions = each_map (IsCallTo n) IsCall (λ c nests. record { nesting = n; nests = nests }) t.others.functions h.others.functions;
    word = each_map (IsCallTo n) IsCall (λ c nests. record { nesting = n; nests = nests }) t.others.word h.others.word;
  };
  small = h.small;
  shallow = h.shallow;
}

arguments_to : (n : ℕ) (c : Call) → IsCallTo n c → AreArguments c.pieces
arguments_to zero c h = pieces_map (λ t. ⊥) IsTerm (λ t no_term. absurd no_term) c.pieces h
arguments_to (suc n) c h = pieces_map (IsTermOf (IsCallTo n)) IsTerm (term_lawful n) c.pieces h

pub arguments_lawful : (c : Call) → IsCall c → AreArguments c.pieces
arguments_lawful c h = arguments_to h.nesting c h.nests
