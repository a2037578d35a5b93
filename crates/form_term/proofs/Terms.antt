-- Reading the terms of an expression from its parts, one part after another.
use Rattle.std.proofs.Common.{◌≡◌, ℕ, zero, suc, ◌+◌, ◌-◌, ◌/◌, ◌≤◌, ℤ, pos, negsuc, neg_ℤ, nat_abs, nat_le, Bool, true, false, true≢false, List, [], ◌∷◌, ◌++◌, length, map, take, drop, Option, Some, None, Result, Ok, Err, ok_or, refl, sym, ap, ◌∙◌, subst, arith, append_assoc, append-nil, length-append, le-leb}
use Rattle.std.specs.Prelude.{All, flat_map, unwrap_or}
use Rattle.std.specs.List.{AllByRecursion}
use Rattle.std.proofs.Math.Nat.{div-one}
use Rattle.std.proofs.Math.Seq.{take-append_seam}
use Rattle.std.proofs.lemmas.List.Elements.{All-head, All-tail, All-from_recursion, recursion_from_All}
use Rattle.form_frac.specs.Fraction.{Fraction, IsLowest, largest, whole, gcd, over, reduced, in_range, is_in_range, make}
use Rattle.form_frac.specs.declared.frac_error.FracError.{FracError}
use Rattle.form_frac.specs.declared.frac_error.FracError.TheVariants.{Overflow}
use Rattle.form_term.specs.declared.monomial.Monomial.{Monomial}
use Rattle.form_term.specs.declared.piece.Coefficient.{Coefficient}
use Rattle.form_term.specs.declared.piece.Piece.{Piece}
use Rattle.form_term.specs.declared.piece.Piece.TheVariants as pieces
use Rattle.form_term.specs.Monomial.{as_monomial}
use Rattle.form_term.specs.Term.{Argument, Summand, Term, index, vector, expression, one, AreArguments, IsArgumentOf, IsExpression, IsTerm, pieces_of_argument, pieces_of_arguments, pieces_of_summand}
use Rattle.form_term.specs.Arguments.{arguments_of, first_summands, parts_of, summands_from, with_part}
use Rattle.form_term.specs.Reading.{IsLawfulPart, begins_sum, end_in}
use Rattle.form_term.proofs.Nesting.{IsSummandLawful}
use Rattle.form_term.proofs.ReadBack.{reading, summands_parts, summands_read}

-- ---- one part further

pub part_here : (rest part behind : List Piece) (n : ℕ) → parts_of rest ≡ take n rest ∷ parts_of (drop n rest) → part ≡ take n rest → behind ≡ drop n rest → parts_of rest ≡ part ∷ parts_of behind
part_here rest part behind n cut front back = cut ∙ ap (λ (x : List Piece). x ∷ parts_of (drop n rest)) (sym front) ∙ ap (λ (qs : List Piece). part ∷ parts_of qs) (sym back)

abbrev summand : Coefficient → Term → Summand
summand c t = record { coefficient = record { numerator = c.numerator; denominator = c.denominator }; term = t }

ending : (part : List Piece) (parts : List (List Piece)) (t : Term) (c : Coefficient) → end_in part ≡ Some c → summands_from t (part ∷ parts) ≡ summand c t ∷ summands_from one parts
ending [] parts t c e = cc
ending (pieces.EndOfTerm d ∷ more) parts t c e = ap (λ (x : Coefficient). summand x t ∷ summands_from one parts) (ap (λ (o : Option Coefficient). unwrap_or o c) e)
ending (p ∷ more) parts t c e = cc

going : (part : List Piece) (parts : List (List Piece)) (t : Term) → end_in part ≡ None → summands_from t (part ∷ parts) ≡ summands_from (with_part t part) parts
going [] parts t e = refl
going (pieces.EndOfTerm d ∷ more) parts t e = cc
going (p ∷ more) parts t e = refl

module _ (done whole : List Monomial) (t : Term) (rest part behind : List Piece) (read : done ++ map as_monomial (summands_from t (parts_of rest)) ≡ whole) (cut : parts_of rest ≡ part ∷ parts_of behind) where
  pub put_part : (next : Term) → end_in part ≡ None → next ≡ with_part t part → done ++ map as_monomial (summands_from next (parts_of behind)) ≡ whole
  put_part next e is =
      ap (λ (u : Term). done ++ map as_monomial (summands_from u (parts_of behind))) is
      ∙ ap (λ (ss : List Summand). done ++ map as_monomial ss) (sym (ap (summands_from t) cut ∙ going part (parts_of behind) t e))
      ∙ read

  module _ (c : Coefficient) (e : end_in part ≡ Some c) where
    here : done ++ as_monomial (summand c t) ∷ map as_monomial (summands_from one (parts_of behind)) ≡ whole
    here = ap (λ (ss : List Summand). done ++ map as_monomial ss) (sym (ap (summands_from t) cut ∙ ending part (parts_of behind) t c e)) ∙ read

    pub end_part : (new : List Monomial) (m : Monomial) (held next : Term) → new ≡ done ++ m ∷ [] → m ≡ as_monomial (summand c held) → held ≡ t → next ≡ one → new ++ map as_monomial (summands_from next (parts_of behind)) ≡ whole
    end_part new m held next new_is m_is held_is next_is =
        ap (λ (u : Term). new ++ map as_monomial (summands_from u (parts_of behind))) next_is
        ∙ ap (λ (xs : List Monomial). xs ++ map as_monomial (summands_from one (parts_of behind))) (new_is ∙ ap (λ (x : Monomial). done ++ x ∷ []) (m_is ∙ ap (λ (u : Term). as_monomial (summand c u)) held_is))
        ∙ append_assoc done (as_monomial (summand c t) ∷ []) (map as_monomial (summands_from one (parts_of behind)))
        ∙ here

    behind_done : (xs ys : List Monomial) → AllByRecursion IsSummandLawful (xs ++ ys) → AllByRecursion IsSummandLawful ys
    behind_done [] ys h = h
    behind_done (x ∷ xs) ys h = behind_done xs ys h.1

    pub ended_lawful : All IsSummandLawful whole → IsSummandLawful (as_monomial (summand c t))
    ended_lawful all = (behind_done done (as_monomial (summand c t) ∷ map as_monomial (summands_from one (parts_of behind))) (recursion_from_All IsSummandLawful (done ++ as_monomial (summand c t) ∷ map as_monomial (summands_from one (parts_of behind))) (subst (All IsSummandLawful) (sym here) all))).0

pub first_lawful : (rest part behind : List Piece) → parts_of rest ≡ part ∷ parts_of behind → All IsLawfulPart (parts_of rest) → IsLawfulPart part
first_lawful rest part behind cut all = All-head IsLawfulPart part (parts_of behind) (subst (All IsLawfulPart) cut all)

pub others_lawful : (rest part behind : List Piece) → parts_of rest ≡ part ∷ parts_of behind → All IsLawfulPart (parts_of rest) → All IsLawfulPart (parts_of behind)
others_lawful rest part behind cut all = All-tail IsLawfulPart part (parts_of behind) (subst (All IsLawfulPart) cut all)

pub all_read : (done whole : List Monomial) (t : Term) (rest : List Piece) → rest ≡ [] → done ++ map as_monomial (summands_from t (parts_of rest)) ≡ whole → done ≡ whole
unfolding parts_of
all_read done whole t rest none read = sym (append-nil done) ∙ ap (λ (ps : List Piece). done ++ map as_monomial (summands_from t (parts_of ps))) (sym none) ∙ read

-- ---- the first sum

-- What holds of arguments the first of which is an expression.
pub record FirstSum (ps : List Piece) : Type 0 where
  pub summands : List Summand
  pub others : List Argument
  pub written : ps ≡ pieces_of_argument (expression summands) ++ pieces_of_arguments others
  pub lawful : IsExpression summands
  pub read : arguments_of ps ≡ expression summands ∷ others

pub first_sum : (ps : List Piece) → AreArguments ps → begins_sum ps ≡ true → FirstSum ps
first_sum ps h e = by h.arguments h.written h.lawful
  where
    by : (args : List Argument) → ps ≡ pieces_of_arguments args → All (IsArgumentOf IsTerm) args → FirstSum ps
    by [] w l = absurd (true≢false (sym e ∙ ap begins_sum w))
    by (index i ∷ args) w l = absurd (true≢false (sym e ∙ ap begins_sum w))
    by (vector v ∷ args) w l = absurd (true≢false (sym e ∙ ap begins_sum w))
    by (expression ss ∷ args) w l = record { summands = ss; others = args; written = w; lawful = All-head (IsArgumentOf IsTerm) (expression ss) args l; read = ap arguments_of w ∙ reading (expression ss ∷ args) l }

pub first_other : (ps : List Piece) → AreArguments ps → begins_sum ps ≡ false → first_summands (arguments_of ps) ≡ []
first_other ps h e = by h.arguments h.written h.lawful
  where
    by : (args : List Argument) → ps ≡ pieces_of_arguments args → All (IsArgumentOf IsTerm) args → first_summands (arguments_of ps) ≡ []
    by [] w l = ap first_summands (ap arguments_of w ∙ reading [] l)
    by (index i ∷ args) w l = ap first_summands (ap arguments_of w ∙ reading (index i ∷ args) l)
    by (vector v ∷ args) w l = ap first_summands (ap arguments_of w ∙ reading (vector v ∷ args) l)
    by (expression ss ∷ args) w l = absurd (true≢false (sym (ap begins_sum w) ∙ e))

-- where these are one expression, its terms are the first ones
pub whole_first : (ps : List Piece) (ss : List Summand) → AreArguments ps → IsExpression ss → ps ≡ pieces_of_argument (expression ss) → first_summands (arguments_of ps) ≡ ss
whole_first ps ss h lawful w =
    ap first_summands (ap arguments_of (w ∙ sym (append-nil (pieces_of_argument (expression ss)))) ∙ reading (expression ss ∷ []) (All-from_recursion (IsArgumentOf IsTerm) (expression ss ∷ []) (lawful, tt)))

module _ (ps : List Piece) (n : ℕ) (f : FirstSum ps) (is : n ≡ length (pieces_of_argument (expression f.summands))) where
  abbrev terms : List Piece
  terms = flat_map pieces_of_summand f.summands

  size : n ≡ length terms + 2
  size = omega (arith, is, length-append terms (pieces.EndOfSum ∷ []))

  pub sum_size : 2 ≤ n
  sum_size = omega (arith, size)

  sum_inside : take (n - 1 - 1) (drop 1 ps) ≡ terms
  sum_inside =
      let less : n - 1 - 1 ≡ length terms = omega (arith, size) in
      ap (λ (qs : List Piece). take (n - 1 - 1) (drop 1 qs)) f.written
      ∙ ap (λ (qs : List Piece). take (n - 1 - 1) qs) (append_assoc terms (pieces.EndOfSum ∷ []) (pieces_of_arguments f.others))
      ∙ ap (λ (k : ℕ). take k (terms ++ pieces.EndOfSum ∷ pieces_of_arguments f.others)) less
      ∙ take-append_seam terms (pieces.EndOfSum ∷ pieces_of_arguments f.others)

  in_terms : AllByRecursion (λ (s : Summand). IsTerm s.term) f.summands
  in_terms = recursion_from_All (λ (s : Summand). IsTerm s.term) f.summands f.lawful.terms

  terms_read : summands_from one (parts_of (take (n - 1 - 1) (drop 1 ps))) ≡ f.summands
  unfolding parts_of
  terms_read = ap (λ (qs : List Piece). summands_from one (parts_of qs)) sum_inside ∙ summands_read f.summands in_terms

  pub sum_parts : All IsLawfulPart (parts_of (take (n - 1 - 1) (drop 1 ps)))
  unfolding parts_of
  sum_parts = subst (λ (qs : List Piece). All IsLawfulPart (parts_of qs)) (sym sum_inside) (All-from_recursion IsLawfulPart (parts_of terms) (summands_parts f.summands in_terms))

  each_lawful : (ss : List Summand) → AllByRecursion (λ (s : Summand). IsLowest s.coefficient) ss → AllByRecursion (λ (s : Summand). IsTerm s.term) ss → AllByRecursion IsSummandLawful (map as_monomial ss)
  each_lawful [] h k = tt
  each_lawful (s ∷ ss) h k = ((h.0, k.0), each_lawful ss h.1 k.1)

  pub sum_terms : All IsSummandLawful (map as_monomial (summands_from one (parts_of (take (n - 1 - 1) (drop 1 ps)))))
  sum_terms = subst (λ (ss : List Summand). All IsSummandLawful (map as_monomial ss)) (sym terms_read) (All-from_recursion IsSummandLawful (map as_monomial f.summands) (each_lawful f.summands (recursion_from_All (λ (s : Summand). IsLowest s.coefficient) f.summands f.lawful.lowest) in_terms))

  pub sum_read : (inside : List Piece) (list : List Monomial) → inside ≡ take (n - 1 - 1) (drop 1 ps) → list ≡ map as_monomial (summands_from one (parts_of inside)) → list ≡ map as_monomial (first_summands (arguments_of ps))
  sum_read inside list inside_is list_is =
      list_is ∙ ap (λ (qs : List Piece). map as_monomial (summands_from one (parts_of qs))) inside_is ∙ ap (map as_monomial) (terms_read ∙ sym (ap first_summands f.read))

-- ---- fractions

over_one : (n : ℤ) → over n 1 ≡ n
over_one (pos n) = ap pos (div-one n)
over_one (negsuc n) = ap (λ (k : ℕ). neg_ℤ (pos k)) (div-one (suc n))

lowest_reduced : (n : ℤ) (d : ℕ) → gcd (nat_abs n) d ≡ 1 → reduced n d ≡ record { numerator = n; denominator = d }
unfolding reduced
lowest_reduced n d h =
    let above = over_one n in
    let below = div-one d in
    ap (λ (g : ℕ). record { numerator = over n g; denominator = d / g }) h ∙ (λ i. record { numerator = above i; denominator = below i })

-- parts in lowest terms make their fraction
pub lowest_made : (n : ℤ) (d : ℕ) → IsLowest (record { numerator = n; denominator = d }) → make n (pos d) ≡ Ok (record { numerator = n; denominator = d })
unfolding make
lowest_made n zero h = absurd (omega (arith, h.is_over_some))
lowest_made n (suc d) h =
    let above : is_in_range n ≡ true = le-leb (nat_abs n) largest h.is_small_above in
    let below : nat_le (suc d) largest ≡ true = le-leb (suc d) largest h.is_small_below in
    let whole : in_range (record { numerator = n; denominator = suc d }) ≡ Some (record { numerator = n; denominator = suc d }) = rw (above, below) refl in
    ap (λ (f : Fraction). ok_or (in_range f) Overflow) (lowest_reduced n (suc d) h.is_coprime) ∙ ap (λ (o : Option Fraction). ok_or o Overflow) whole

abbrev made : Result Fraction FracError → Fraction
made (Ok f) = f
made (Err e) = whole (pos 0)

pub is_made : (n : ℤ) (d : ℕ) (f : Fraction) → IsLowest (record { numerator = n; denominator = d }) → Ok f ≡ make n (pos d) → f ≡ record { numerator = n; denominator = d }
is_made n d f h e = ap made (e ∙ lowest_made n d h)

abbrev is_one : Result Fraction FracError → Bool
is_one (Ok f) = true
is_one (Err e) = false

pub not_unmade : (n : ℤ) (d : ℕ) (x : FracError) (f : Fraction) → IsLowest (record { numerator = n; denominator = d }) → Err x ≡ make n (pos d) → f ≡ record { numerator = n; denominator = d }
not_unmade n d x f h e = absurd (true≢false (sym (ap is_one (e ∙ lowest_made n d h))))
