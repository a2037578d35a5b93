-- Operands and comparisons as they are written, and as they are read.
use Rattle.std.proofs.Common.{◌≡◌, ◌⊎◌, inl, inr, ℕ, Bool, true, false, if◌then◌else◌, List, [], ◌∷◌, ◌++◌, length, take, drop, Option, Some, None, refl, sym, ap, subst, ◌∙◌, append_assoc, add-one}
use Rattle.std.specs.Prelude.{◌==◌, ◌&&◌, ◌||◌, ◌≢◌, not}
use Rattle.std.specs.List.{list_all}
use Rattle.std.specs.Char.{is_ascii_digit}
use Rattle.std.specs.Int.{is_in_range}
use Rattle.std.proofs.Math.Seq.{take-append_seam, drop-append_seam}
use Rattle.std.proofs.lemmas.Bool.{and_parts, eqb-true}
use Rattle.std.proofs.lemmas.List.{take-append-drop}
use Rattle.std.proofs.lemmas.Option.{same_Some}
use Rattle.form_calc.specs.declared.operand.Comparison.{Comparison}
use Rattle.form_calc.specs.declared.operand.Comparison.TheVariants.{Equal, Unequal, Less, Greater, LessOrEqual, GreaterOrEqual}
use Rattle.form_calc.specs.Reading.{after_blanks, before, looked_up, front}
use Rattle.form_calc.specs.Condition.{Operand, is_word_character, is_inside_quotes, cut, before_quote, quoted, behind_sign, plain, operand_in, longer, shorter, comparison_in, double_in}
use Rattle.form_calc.specs.Proposition.{text_of_comparison, is_sign, IsNumber, IsWord, IsWrittenOperand}
use Rattle.form_calc.proofs.Spaces.{read_as, StopsAt, unlike, looked_up_is, before_is, either_is}
use Rattle.form_calc.proofs.Fronts.{front_kept, front_passes, front_stops, cut_front, front_read, front_found}

abbrev pub operand_of : List ℕ → Bool → Operand
operand_of text is_number = record { text = text; is_number = is_number }

-- ---- characters

digit_in_word : (c : ℕ) → is_ascii_digit c ≡ true → is_word_character c ≡ true
digit_in_word c e = ap (λ (q : Bool). ((q || is_in_range 65 90 c) || is_in_range 97 122 c) || (c == 95)) e

digits_in_word : (cs : List ℕ) → list_all is_ascii_digit cs ≡ true → list_all is_word_character cs ≡ true
digits_in_word [] h = refl
digits_in_word (c ∷ cs) h =
    let p = and_parts (is_ascii_digit c) (list_all is_ascii_digit cs) h in
    ap (λ (q : Bool). q && list_all is_word_character cs) (digit_in_word c p.0) ∙ digits_in_word cs p.1

no_digit_behind : (t : List ℕ) → StopsAt is_word_character t → StopsAt is_ascii_digit t
no_digit_behind [] h = tt
no_digit_behind (c ∷ t) h = by (is_ascii_digit c) refl
  where
    by : (q : Bool) → is_ascii_digit c ≡ q → is_ascii_digit c ≡ false
    by true e = let g : true ≡ false = sym (digit_in_word c e) ∙ h in absurd cc
    by false e = e

-- what an operand begins with
abbrev pub starts : ℕ → Bool
starts c = is_word_character c || (c == 43) || (c == 45) || (c == 34)

word_starts : (c : ℕ) → is_word_character c ≡ true → starts c ≡ true
word_starts c h = ap (λ (q : Bool). q || (c == 43) || (c == 45) || (c == 34)) h

pub record Starts (t : List ℕ) : Type 0 where
  pub first : ℕ
  pub others : List ℕ
  pub text_is : t ≡ first ∷ others
  pub is_start : starts first ≡ true

number_starts : (kept t : List ℕ) → IsNumber kept → Starts (kept ++ t)
number_starts [] t h = absurd h
number_starts (c ∷ cs) t (inl h) = record { first = c; others = cs ++ t; text_is = refl; is_start = by (either_is c 43 45 h.0) }
  where
    by : (c ≡ 43) ⊎ (c ≡ 45) → starts c ≡ true
    by (inl e) = ap starts e
    by (inr e) = ap starts e
number_starts (c ∷ cs) t (inr h) =
    record { first = c; others = cs ++ t; text_is = refl; is_start = word_starts c (digit_in_word c (and_parts (is_ascii_digit c) (list_all is_ascii_digit cs) h.1).0) }

text_starts : (kept t : List ℕ) → IsWord kept → Starts (kept ++ t)
text_starts [] t h = let g : true ≡ false = h.1 in absurd cc
text_starts (c ∷ cs) t h = record { first = c; others = cs ++ t; text_is = refl; is_start = word_starts c (and_parts (is_word_character c) (list_all is_word_character cs) h.0).0 }

pub operand_starts : (is_number : Bool) (kept written t : List ℕ) → IsWrittenOperand is_number kept written → Starts (written ++ t)
operand_starts true kept written t h = subst (λ w. Starts (w ++ t)) (sym h.0) (number_starts kept t h.1)
operand_starts false kept written t (inl h) = subst (λ w. Starts (w ++ t)) (sym h.0) (text_starts kept t h.1)
operand_starts false kept written t (inr h) = subst (λ w. Starts (w ++ t)) (sym h.0) (record { first = 34; others = (kept ++ 34 ∷ []) ++ t; text_is = refl; is_start = refl })

pub start_stands : (t : List ℕ) → Starts t → after_blanks t ≡ t
start_stands t s =
    ap after_blanks s.text_is
    ∙ ap (λ (q : Bool). if q || (s.first == 9) then after_blanks s.others else s.first ∷ s.others) (unlike starts s.first 32 s.is_start refl)
    ∙ ap (λ (q : Bool). if false || q then after_blanks s.others else s.first ∷ s.others) (unlike starts s.first 9 s.is_start refl)
    ∙ sym s.text_is

pub start_stops : (d : ℕ) (t : List ℕ) → starts d ≡ false → Starts t → StopsAt (λ c. c == d) t
start_stops d t h s = subst (StopsAt (λ c. c == d)) (sym s.text_is) (unlike starts s.first d s.is_start h)

-- ---- operands that are written

abbrev plain_given : List ℕ → List ℕ → Option (Operand × List ℕ)
plain_given kept rest = Some (operand_of kept (list_all is_ascii_digit kept), rest)

abbrev signed_given : ℕ → List ℕ → List ℕ → Option (Operand × List ℕ)
signed_given c kept rest = Some (operand_of (c ∷ kept) true, rest)

plain_read : (kept t : List ℕ) → list_all is_word_character kept ≡ true → kept ≢ [] → StopsAt is_word_character t → plain (kept ++ t) ≡ Some (operand_of kept (list_all is_ascii_digit kept), t)
unfolding plain
plain_read kept t h some k = front_read is_word_character plain_given kept t h some k

-- a sign, and what stands behind it
signed_cut : (c : ℕ) (cs : List ℕ) → behind_sign (c ∷ cs) cs ≡ cut_front (signed_given c) cs (front is_ascii_digit cs)
unfolding behind_sign
signed_cut c cs = ap (λ n. if front is_ascii_digit cs == 0 then None else cut n true (c ∷ cs)) (add-one (front is_ascii_digit cs))

sign_read : (c : ℕ) (cs t : List ℕ) → list_all is_ascii_digit cs ≡ true → cs ≢ [] → StopsAt is_word_character t → behind_sign (c ∷ (cs ++ t)) (cs ++ t) ≡ Some (operand_of (c ∷ cs) true, t)
sign_read c cs t h some k = signed_cut c (cs ++ t) ∙ front_read is_ascii_digit (signed_given c) cs t h some (no_digit_behind t k)

abbrev quoted_at : List ℕ → ℕ → Option (Operand × List ℕ)
quoted_at text size = before_quote (take size text) (drop size text)

quoted_read : (kept t : List ℕ) → list_all is_inside_quotes kept ≡ true → quoted (kept ++ (34 ∷ t)) ≡ Some (operand_of kept false, t)
unfolding quoted
quoted_read kept t h =
    ap (quoted_at (kept ++ (34 ∷ t))) (front_kept is_inside_quotes kept (34 ∷ t) h refl)
    ∙ ap (λ u. before_quote u (drop (length kept) (kept ++ (34 ∷ t)))) (take-append_seam kept (34 ∷ t))
    ∙ ap (before_quote kept) (drop-append_seam kept (34 ∷ t))

plain_in : (c : ℕ) (cs : List ℕ) → is_word_character c ≡ true → operand_in (c ∷ cs) ≡ plain (c ∷ cs)
plain_in c cs h =
    ap (λ (q : Bool). if q then quoted cs else if (c == 43) || (c == 45) then behind_sign (c ∷ cs) cs else plain (c ∷ cs)) (unlike is_word_character c 34 h refl)
    ∙ ap (λ (q : Bool). if q || (c == 45) then behind_sign (c ∷ cs) cs else plain (c ∷ cs)) (unlike is_word_character c 43 h refl)
    ∙ ap (λ (q : Bool). if false || q then behind_sign (c ∷ cs) cs else plain (c ∷ cs)) (unlike is_word_character c 45 h refl)

sign_in : (c : ℕ) (cs : List ℕ) → (c ≡ 43) ⊎ (c ≡ 45) → operand_in (c ∷ cs) ≡ behind_sign (c ∷ cs) cs
sign_in c cs (inl e) = subst (λ b. operand_in (b ∷ cs) ≡ behind_sign (b ∷ cs) cs) (sym e) refl
sign_in c cs (inr e) = subst (λ b. operand_in (b ∷ cs) ≡ behind_sign (b ∷ cs) cs) (sym e) refl

number_written : (kept t : List ℕ) → IsNumber kept → StopsAt is_word_character t → operand_in (kept ++ t) ≡ Some (operand_of kept true, t)
number_written [] t h k = absurd h
number_written (c ∷ cs) t (inl h) k = sign_in c (cs ++ t) (either_is c 43 45 h.0) ∙ sign_read c cs t h.1.1 h.1.0 k
number_written (c ∷ cs) t (inr h) k =
    let w = digits_in_word (c ∷ cs) h.1 in
    plain_in c (cs ++ t) (and_parts (is_word_character c) (list_all is_word_character cs) w).0
    ∙ plain_read (c ∷ cs) t w h.0 k
    ∙ ap (λ q. read_as (operand_of (c ∷ cs) q) t) h.1

word_written : (kept t : List ℕ) → IsWord kept → StopsAt is_word_character t → operand_in (kept ++ t) ≡ Some (operand_of kept false, t)
word_written [] t h k = let g : true ≡ false = h.1 in absurd cc
word_written (c ∷ cs) t h k =
    plain_in c (cs ++ t) (and_parts (is_word_character c) (list_all is_word_character cs) h.0).0
    ∙ plain_read (c ∷ cs) t h.0 (λ e. absurd cc) k
    ∙ ap (λ q. read_as (operand_of (c ∷ cs) q) t) h.1

pub operand_written : (is_number : Bool) (kept written t : List ℕ) → IsWrittenOperand is_number kept written → StopsAt is_word_character t → operand_in (written ++ t) ≡ Some (operand_of kept is_number, t)
operand_written true kept written t h k = ap (λ w. operand_in (w ++ t)) h.0 ∙ number_written kept t h.1 k
operand_written false kept written t (inl h) k = ap (λ w. operand_in (w ++ t)) h.0 ∙ word_written kept t h.1 k
operand_written false kept written t (inr h) k = ap (λ w. operand_in (w ++ t)) h.0 ∙ ap quoted (append_assoc kept (34 ∷ []) t) ∙ quoted_read kept t h.1

-- ---- operands that are read

pub record OperandAt (text : List ℕ) (a : Operand) (rest : List ℕ) : Type 0 where
  pub written : List ℕ
  pub text_is : text ≡ written ++ rest
  pub is_written : IsWrittenOperand a.is_number a.text written

as_read : (text rest t : List ℕ) (a b : Operand) → read_as b t ≡ read_as a rest → OperandAt text b t → OperandAt text a rest
as_read text rest t a b e h = subst (λ (x : Operand × List ℕ). OperandAt text x.0 x.1) (same_Some _ _ e) h

quote_found : (cs inner t rest : List ℕ) (a : Operand) → cs ≡ inner ++ t → list_all is_inside_quotes inner ≡ true → ((c : ℕ) (u : List ℕ) → t ≡ c ∷ u → is_inside_quotes c ≡ false)
    → before_quote inner t ≡ Some (a, rest) → OperandAt (34 ∷ cs) a rest
quote_found cs inner [] rest a e h stops k = absurd cc
quote_found cs inner (c ∷ u) rest a e h stops k = as_read (34 ∷ cs) rest u a (operand_of inner false) k (record {
  written = 34 ∷ (inner ++ 34 ∷ []);
  text_is = ap (λ w. 34 ∷ w) (e ∙ ap (λ b. inner ++ (b ∷ u)) (quote_is (c == 34) refl (stops c u refl)) ∙ sym (append_assoc inner (34 ∷ []) u));
  is_written = inr (refl, h);
})
  where
    quote_is : (q : Bool) → (c == 34) ≡ q → not q ≡ false → c ≡ 34
    quote_is true f g = eqb-true c 34 f
    quote_is false f g = absurd cc

plain_written : (is_number : Bool) (kept : List ℕ) → list_all is_ascii_digit kept ≡ is_number → list_all is_word_character kept ≡ true → kept ≢ [] → IsWrittenOperand is_number kept kept
plain_written true [] e w some = absurd (some refl)
plain_written true (c ∷ cs) e w some = (refl, inr (some, e))
plain_written false kept e w some = inl (refl, (w, e))

plain_found : (text rest : List ℕ) (a : Operand) → plain text ≡ Some (a, rest) → OperandAt text a rest
unfolding plain
plain_found text rest a h = front_found is_word_character plain_given text (a, rest) h (λ kept t e w some k.
    as_read text rest t a (operand_of kept (list_all is_ascii_digit kept)) k (record { written = kept; text_is = e; is_written = plain_written (list_all is_ascii_digit kept) kept refl w some }))

sign_found : (c : ℕ) (cs rest : List ℕ) (a : Operand) → is_sign c ≡ true → behind_sign (c ∷ cs) cs ≡ Some (a, rest) → OperandAt (c ∷ cs) a rest
sign_found c cs rest a s h = front_found is_ascii_digit (signed_given c) cs (a, rest) (sym (signed_cut c cs) ∙ h) (λ kept t e w some k.
    as_read (c ∷ cs) rest t a (operand_of (c ∷ kept) true) k (record { written = c ∷ kept; text_is = ap (λ u. c ∷ u) e; is_written = (refl, inl (s, (some, w))) }))

pub operand_is : (t rest : List ℕ) (a : Operand) → operand_in t ≡ Some (a, rest) → OperandAt t a rest
unfolding quoted
operand_is [] rest a h = absurd cc
operand_is (c ∷ cs) rest a h = by (c == 34) (is_sign c) refl refl h
  where
    quoted_found : OperandAt (34 ∷ cs) a rest → c ≡ 34 → OperandAt (c ∷ cs) a rest
    quoted_found o e = subst (λ b. OperandAt (b ∷ cs) a rest) (sym e) o

    by : (q0 q1 : Bool) → (c == 34) ≡ q0 → is_sign c ≡ q1 → (if q0 then quoted cs else if q1 then behind_sign (c ∷ cs) cs else plain (c ∷ cs)) ≡ Some (a, rest) → OperandAt (c ∷ cs) a rest
    by true q1 e0 e1 k = quoted_found
        (quote_found cs (take (front is_inside_quotes cs) cs) (drop (front is_inside_quotes cs) cs) rest a
        (sym (take-append-drop (front is_inside_quotes cs) cs)) (front_passes is_inside_quotes cs) (λ d u. front_stops is_inside_quotes cs d u) k) (eqb-true c 34 e0)
    by false true e0 e1 k = sign_found c cs rest a e1 k
    by false false e0 e1 k = plain_found (c ∷ cs) rest a k

-- ---- comparisons

pub comparison_stands : (c : Comparison) (t : List ℕ) → after_blanks (text_of_comparison c ++ t) ≡ text_of_comparison c ++ t
comparison_stands Equal t = refl
comparison_stands c t = refl

pub comparison_written : (c : Comparison) (t : List ℕ) → StopsAt (λ d. d == 61) t → comparison_in (text_of_comparison c ++ t) ≡ Some (c, t)
comparison_written Less [] h = refl
comparison_written Less (d ∷ t) h = ap (λ (q : Bool). if q then before (looked_up longer 60) t else before (looked_up shorter 60) (d ∷ t)) h
comparison_written Greater [] h = refl
comparison_written Greater (d ∷ t) h = ap (λ (q : Bool). if q then before (looked_up longer 62) t else before (looked_up shorter 62) (d ∷ t)) h
comparison_written Equal t h = refl
comparison_written Unequal t h = refl
comparison_written LessOrEqual t h = refl
comparison_written GreaterOrEqual t h = refl

longer_is : (a : ℕ) (c : Comparison) → looked_up longer a ≡ Some c → a ∷ 61 ∷ [] ≡ text_of_comparison c
longer_is a c h = looked_up_is (λ a c. a ∷ 61 ∷ [] ≡ text_of_comparison c) longer a c (refl, (refl, (refl, (refl, tt)))) h

shorter_is : (a : ℕ) (c : Comparison) → looked_up shorter a ≡ Some c → a ∷ [] ≡ text_of_comparison c
shorter_is a c h = looked_up_is (λ a c. a ∷ [] ≡ text_of_comparison c) shorter a c (refl, (refl, tt)) h

pub comparison_is : (t rest : List ℕ) (c : Comparison) → comparison_in t ≡ Some (c, rest) → t ≡ text_of_comparison c ++ rest
comparison_is [] rest c h = absurd cc
comparison_is (a ∷ []) rest c h =
    let f = before_is (looked_up shorter a) [] c rest h in
    ap (λ w. w ++ []) (shorter_is a c f.0) ∙ ap (λ r. text_of_comparison c ++ r) f.1
comparison_is (a ∷ d ∷ cs) rest c h = by (d == 61) refl h
  where
    by : (q : Bool) → (d == 61) ≡ q → (if q then before (looked_up longer a) cs else before (looked_up shorter a) (d ∷ cs)) ≡ Some (c, rest) → a ∷ d ∷ cs ≡ text_of_comparison c ++ rest
    by true e k =
        let f = before_is (looked_up longer a) cs c rest k in
        ap (λ b. a ∷ b ∷ cs) (eqb-true d 61 e) ∙ ap (λ w. w ++ cs) (longer_is a c f.0) ∙ ap (λ r. text_of_comparison c ++ r) f.1
    by false e k =
        let f = before_is (looked_up shorter a) (d ∷ cs) c rest k in
        ap (λ w. w ++ (d ∷ cs)) (shorter_is a c f.0) ∙ ap (λ r. text_of_comparison c ++ r) f.1

-- ---- marks that are written twice

pub double_is : (m : ℕ) (t rest : List ℕ) → double_in m t ≡ Some rest → t ≡ m ∷ m ∷ rest
double_is m [] rest h = absurd cc
double_is m (c ∷ []) rest h = absurd cc
double_is m (c ∷ d ∷ cs) rest h = by (c == m) (d == m) refl refl h
  where
    by : (q0 q1 : Bool) → (c == m) ≡ q0 → (d == m) ≡ q1 → (if q0 && q1 then Some cs else None) ≡ Some rest → c ∷ d ∷ cs ≡ m ∷ m ∷ rest
    by true true e0 e1 k = ap (λ b. b ∷ d ∷ cs) (eqb-true c m e0) ∙ ap (λ b. m ∷ b ∷ cs) (eqb-true d m e1) ∙ ap (λ r. m ∷ m ∷ r) (same_Some cs rest k)
    by true false e0 e1 k = absurd cc
    by false q1 e0 e1 k = absurd cc
