-- Terms and functions of which a block takes nothing.
use Rattle.std.proofs.Common.{◌≡◌, ℕ, suc, ◌+◌, Bool, true, false, not, ◌&&◌, ◌||◌, List, [], ◌∷◌, Ok, refl, sym, ap, ◌∙◌, add-one, arith}
use Rattle.std.specs.Prelude.{All, ◌==◌, Some, length, pos}
use Rattle.std.specs.List.{AllByRecursion, list_any}
use Rattle.std.proofs.lemmas.Bool.{eqb-false}
use Rattle.std.proofs.lemmas.List.Elements.{All-cons, All-nil, recursion_from_All}
use Rattle.form_check.specs.declared.checked.Picked.{Picked}
use Rattle.form_expand.specs.Singles.{of_product}
use Rattle.form_frac.specs.Fraction.{IsLowest, whole}
use Rattle.form_match.specs.Parts.{begins_sum}
use Rattle.form_match.specs.Parts.{HasFirst}
use Rattle.form_normal.proofs.Alone.{each_lawful as term_each_lawful, product_is_own}
use Rattle.form_normal.proofs.Lasting.{either_false, multiply_one, number_made}
use Rattle.form_normal.specs.Factors.{AreEachLawful}
use Rattle.form_normal.specs.Product.{is_fixed, number_alone, product}
use Rattle.form_term.proofs.Nesting.{one_lawful}
use Rattle.form_term.proofs.ReadBack.{call_arguments, read_back}
use Rattle.form_term.specs.Arguments.{arguments_of, parts_of}
use Rattle.form_term.specs.Calls.{call}
use Rattle.form_term.specs.declared.monomial.Monomial.{Monomial}
use Rattle.form_term.specs.declared.piece.Piece.{Piece}
use Rattle.form_term.specs.Term.{Argument, Call, IsCall, IsTerm, is_nil, one, pieces_of_argument}
use Rattle.form_flow.specs.Arguments.{so_far, and_far, and_word, anew, arguments_behind, before_far, call_behind, call_far, calls_behind, in_arguments, is_picked, picks}
use Rattle.form_flow.specs.Outcome.{Outcome, acted_or_not, unchanged}
use Rattle.form_flow.specs.Within.{has_taken, is_left, is_named, is_taken, takes_from}
use Rattle.form_flow.proofs.Reached.{argument_left}

-- one that is not of length 0
pub none_nil : {A : Type 0} (xs : List A) (empty : Bool) → empty ≡ (length xs == 0) → empty ≡ false → is_nil xs ≡ false
none_nil [] empty is other = absurd (omega (arith, eqb-false 0 0 (sym is ∙ other)))
none_nil (x ∷ xs) empty is other = refl

-- two numbers are equal or not
pub equal_or_not : (m n : ℕ) → ((m == n) || not (m == n)) ≡ true
equal_or_not m n = by (m == n)
  where
    by : (b : Bool) → (b || not b) ≡ true
    by true = refl
    by false = refl

-- a term with its coefficient is its own product, where no delta of it is 1 or 0
pub own_product : (m : Monomial) → IsLowest m.coefficient → IsTerm m.term → list_any is_fixed m.term.others.deltas ≡ false → product (m ∷ []) ≡ Ok (Some m)
own_product m lowest lawful e =
    let unit : Monomial = number_alone (whole (pos 1)) in
    let each : All (λ (x : Monomial). AreEachLawful x.term.others) (m ∷ unit ∷ []) = All-cons (λ (x : Monomial). AreEachLawful x.term.others) m (unit ∷ []) (term_each_lawful m.term lawful)
    (All-cons (λ (x : Monomial). AreEachLawful x.term.others) unit [] (term_each_lawful one one_lawful) (All-nil (λ (x : Monomial). AreEachLawful x.term.others))) in
    product_is_own (m ∷ unit ∷ []) m each (number_made m (whole (pos 1)) m.coefficient lawful e (multiply_one m.coefficient lowest))

none_picks : (f k : ℕ) (ps : List Picked) → list_any (λ (p : Picked). p.function == f) ps ≡ false → list_any (picks f k) ps ≡ false
none_picks f k [] e = e
none_picks f k (p ∷ ps) e =
    let both = either_false (p.function == f) (list_any (λ (q : Picked). q.function == f) ps) e in
    by (p.function == f) both.0 (none_picks f k ps both.1)
  where
    by : (b : Bool) → b ≡ false → list_any (picks f k) ps ≡ false → ((b && (is_nil p.numbers || list_any (λ (n : ℕ). n == k) p.numbers)) || list_any (picks f k) ps) ≡ false
    by true h rest = cc
    by false h rest = rest

not_picked : (ps : List Picked) (f k : ℕ) → is_named ps f ≡ false → is_picked ps f k ≡ false
not_picked [] f k e = e
not_picked (p ∷ ps) f k e = none_picks f k (p ∷ ps) e

-- a function that isn't named
pub none_taken : (ps : List Picked) (f k : ℕ) (args : List Argument) → is_named ps f ≡ false → takes_from ps f k args ≡ false
none_taken ps f k [] e = refl
none_taken ps f k (a ∷ args) e =
    ap (λ (b : Bool). (b && begins_sum (pieces_of_argument a)) || takes_from ps f (suc k) args) (not_picked ps f k e)
    ∙ none_taken ps f (suc k) args e

module _ (ps : List Picked) (f k : ℕ) where
  -- where the first argument is an expression that is taken, or isn't
  pub first_taken : (here front rest : List Piece) → HasFirst here front rest → (picked taken b : Bool) → picked ≡ is_picked ps f k → taken ≡ (picked && begins_sum front) → taken ≡ b
      → takes_from ps f k (arguments_of here) ≡ (b || takes_from ps f (k + 1) (arguments_of rest))
  first_taken here front rest h picked taken b is e test =
      let both : takes_from ps f k (arguments_of here) ≡ ((is_picked ps f k && begins_sum front) || takes_from ps f (k + 1) (arguments_of rest)) = rw (h.read, h.behind_is, h.front_is, add-one k) refl in
      both ∙ ap (λ (x : Bool). x || takes_from ps f (k + 1) (arguments_of rest)) (ap (λ (x : Bool). x && begins_sum front) (sym is) ∙ sym e ∙ test)

  pub end_taken : (rest : List Piece) → rest ≡ [] → takes_from ps f k (arguments_of rest) ≡ false
  unfolding arguments_of parts_of
  end_taken rest none = ap (λ (qs : List Piece). takes_from ps f k (arguments_of qs)) none

module _ (max : ℕ) (go : Monomial → Outcome) (ps : List Picked) (acted : Bool) where
  arguments_left : (f k : ℕ) (args : List Argument) → takes_from ps f k args ≡ false → arguments_behind max go ps f k acted args ≡ so_far args acted
  arguments_left f k [] e = refl
  arguments_left f k (a ∷ args) e =
      let both = either_false (is_picked ps f k && begins_sum (pieces_of_argument a)) (takes_from ps f (suc k) args) e in
      ap (λ p. and_far p (λ also. arguments_behind max go ps f (suc k) also args)) (argument_left max go acted (is_picked ps f k) a both.0)
      ∙ ap (before_far a) (arguments_left f (suc k) args both.1)

  pub call_left : (c : Call) → IsCall c → is_taken ps c ≡ false → call_behind max go ps acted c ≡ so_far c acted
  call_left c lawful e =
      ap (call_far c.function) (arguments_left c.function 1 (arguments_of c.pieces) e)
      ∙ ap (λ (qs : List Piece). so_far (call c.function qs) acted) (sym (read_back c.pieces (call_arguments c lawful)).0)

  calls_left : (cs : List Call) → AllByRecursion IsCall cs → has_taken ps cs ≡ false → calls_behind max go ps acted cs ≡ so_far cs acted
  calls_left [] all e = refl
  calls_left (c ∷ cs) all e =
      let both = either_false (is_taken ps c) (has_taken ps cs) e in
      ap (λ p. and_far p (λ also. calls_behind max go ps also cs)) (call_left c all.0 both.0)
      ∙ ap (before_far c) (calls_left cs all.1 both.1)

-- the three parts of a test
parts : (a b c : Bool) → (not a && not b && not c) ≡ true → (a ≡ false) × (b ≡ false) × (c ≡ false)
parts true b c e = cc
parts false true c e = cc
parts false false true e = cc
parts false false false e = (refl, refl, refl)

pub term_left : (max : ℕ) (ps : List Picked) (go : Monomial → Outcome) (m : Monomial) → IsLowest m.coefficient → IsTerm m.term → is_left ps m.term ≡ true → in_arguments max ps go m ≡ unchanged m
unfolding in_arguments
term_left max ps go m lowest lawful e =
    let o = m.term.others in
    let all = parts (has_taken ps o.functions) (has_taken ps o.word) (list_any is_fixed o.deltas) e in
    ap (and_word max go ps m) (calls_left max go ps false o.functions (recursion_from_All IsCall o.functions lawful.others.functions) all.0)
    ∙ ap (anew m o.functions) (calls_left max go ps false o.word (recursion_from_All IsCall o.word lawful.others.word) all.1)
    ∙ ap (λ r. acted_or_not false (of_product r)) (own_product m lowest lawful all.2)
