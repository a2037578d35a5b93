-- The sign of a sum's first term.
use Rattle.std.proofs.Common.{◌≡◌, ℕ, suc, Bool, true, false, List, [], ◌∷◌, ◌++◌, map, refl, sym, ap, ◌∙◌, arith, le-ltb}
use Rattle.std.specs.Prelude.{ℤ, pos, negsuc, neg_ℤ, codes, if◌then◌else◌}
use Rattle.std.specs.Int.{is_negative}
use Rattle.std.specs.List.{join_with_byte}
use Rattle.form_frac.specs.Fraction.{Fraction, negate, is_below_zero}
use Rattle.form_names.specs.Names.{Entry}
use Rattle.form_term.specs.Term.{Summand}
use Rattle.form_print.specs.Printing.{sum_text, term_text, later_term, factor_texts, with_size}

minus_first : (text : List ℕ) (later : List (List ℕ)) → join_with_byte 32 ((codes "-" ++ text) ∷ later) ≡ codes "-" ++ join_with_byte 32 (text ∷ later)
minus_first text [] = refl
minus_first text (x ∷ xs) = refl

-- a coefficient's size is that of its negative
same_size : (n d : ℕ) (texts : List (List ℕ)) → with_size (record { numerator = negsuc n; denominator = d }) texts ≡ with_size (record { numerator = pos (suc n); denominator = d }) texts
same_size n d [] = refl
same_size n d (text ∷ texts) = refl

pub minus_in_front : (names : List Entry) (s : Summand) (ss : List Summand) → is_below_zero s.coefficient ≡ true →
    sum_text names (s ∷ ss) ≡ codes "-" ++ sum_text names (record { coefficient = negate s.coefficient; term = s.term } ∷ ss)
minus_in_front names s ss e = by s.coefficient.numerator e
  where
    by : (z : ℤ) → is_negative z ≡ true → sum_text names (record { coefficient = record { numerator = z; denominator = s.coefficient.denominator }; term = s.term } ∷ ss)
        ≡ codes "-" ++ sum_text names (record { coefficient = record { numerator = neg_ℤ z; denominator = s.coefficient.denominator }; term = s.term } ∷ ss)
    by (pos n) e = let up : is_negative (pos n) ≡ false = le-ltb n 0 (omega arith) in absurd cc
    by (negsuc n) e =
        let c : Fraction = record { numerator = pos (suc n); denominator = s.coefficient.denominator } in
        let up : is_negative (pos (suc n)) ≡ false = le-ltb (suc n) 0 (omega arith) in
        ap (λ (texts : List (List ℕ)). join_with_byte 32 ((codes "-" ++ join_with_byte 42 texts) ∷ map (later_term names) ss)) (same_size n s.coefficient.denominator (factor_texts names s.term))
        ∙ minus_first (term_text names c s.term) (map (later_term names) ss)
        ∙ ap (λ (b : Bool). codes "-" ++ join_with_byte 32 (((if b then codes "-" else []) ++ term_text names c s.term) ∷ map (later_term names) ss)) (sym up)
