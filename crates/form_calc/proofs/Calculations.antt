-- Calculations are read as the trees that they write.
use Rattle.std.proofs.Common.{◌≡◌, ℕ, ◌+◌, ◌≤◌, ◌<◌, max, ℤ, Bool, true, false, if◌then◌else◌, List, [], ◌∷◌, ◌++◌, length, Option, Some, None, refl, sym, ap, subst, ◌∙◌, arith}
use Rattle.std.specs.Prelude.{◌==◌, ◌&&◌, option_map}
use Rattle.std.specs.List.{list_all}
use Rattle.std.proofs.lemmas.Bool.{eqb-true}
use Rattle.std.proofs.lemmas.Option.{option_and_then_some}
use Rattle.form_calc.specs.declared.operator.Operator.{Operator}
use Rattle.form_calc.specs.declared.operator.Operator.TheVariants as operator
use Rattle.form_calc.specs.Number.{negated, number_of}
use Rattle.form_calc.specs.Reading.{most_open, is_blank, after_blanks, first_in}
use Rattle.form_calc.specs.Calculation.{Reader, is_digit, is_lead, numeral as numeral_at, after_signs, turned, signed, primary, factor, operators, operator_at, applied, product, signs, sign_at, added, sum, value_of}
use Rattle.form_calc.specs.Expression as trees
use Rattle.form_calc.specs.Expression.{Sum, Product, Factor, Token, numeral, mark, Mark, byte_of, IsWritten, AreTokens, IsCalculation, value_of_sum, value_of_product, value_of_factor, depth_of_sum, depth_of_product, depth_of_factor, tokens_of_sum, tokens_of_product, tokens_of_factor}
use Rattle.form_calc.proofs.Spaces.{first_is as entry_is, read_as, all_blank, front_of, StopsAt, blanks_stop}
use Rattle.form_calc.proofs.Decimals.{number_alone}
use Rattle.form_calc.proofs.Fronts.{front_found}
use Rattle.form_calc.proofs.Readers.{Language, Kind, Found, ReadsTo, IsReader, IsMark, IsChain, EndsChain, IsInner, moved, as_read, first_is, stops, marks, chain_reader, enclosed, whole_read, whole_found}
use Rattle.form_calc.proofs.Signs.{numeral_given, turn, signed_negated, factor_led, factor_open, factor_blanks, numeral_read, Lead, space, plus, minus, lead_is, unturned}

-- ---- tokens

written_some : (token : Token) (written : List ℕ) → IsWritten token written → 1 ≤ length written
written_some (numeral []) written h = absurd (h.1 refl)
written_some (numeral (d ∷ ds)) written h = let e : length written ≡ length (d ∷ ds) = ap length h.0 in omega arith
written_some (mark m) written h = let e : length written ≡ 1 = ap length h in omega arith

abbrev language : Language
language = record {
  Token = Token;
  Value = Option ℤ;
  Are = AreTokens;
  IsWritten = IsWritten;
  nothing = λ text h. h;
  blank = λ text h. h;
  take = λ text token more h. record { blanks = h.1.blanks; written = h.1.written; rest = h.0; text_is = h.1.text_is; only_blanks = h.1.only_blanks; is_written = h.1.is_written; behind = h.2 };
  put = λ text written rest token more e w h.
      let f = front_of text in
      (rest, record { blanks = f.blanks; written = written; text_is = f.text_is ∙ ap (λ t. f.blanks ++ t) e; only_blanks = f.only_blanks; is_written = w }, h);
  some = written_some;
  close = mark trees.Close;
  close_written = refl;
  close_is = λ written h. h;
}

abbrev factors : ℕ → Kind language Factor
factors opened = record { tokens = tokens_of_factor; value = value_of_factor; IsLawful = λ f. opened + depth_of_factor f ≤ most_open }

abbrev products : ℕ → Kind language Product
products opened = record { tokens = tokens_of_product; value = value_of_product; IsLawful = λ p. opened + depth_of_product p ≤ most_open }

abbrev sums : ℕ → Kind language Sum
sums opened = record { tokens = tokens_of_sum; value = value_of_sum; IsLawful = λ s. opened + depth_of_sum s ≤ most_open }

-- no digit follows
abbrev EndsFactor : List Token → Type 0
EndsFactor more = (text : List ℕ) → AreTokens text more → StopsAt is_digit text

mark_no_digit : (m : Mark) (t : List ℕ) → StopsAt is_digit (byte_of m ∷ t)
mark_no_digit trees.Plus t = refl
mark_no_digit m t = refl

mark_ends : (m : Mark) (more : List Token) → EndsFactor (mark m ∷ more)
mark_ends m more = λ text h. stops language is_digit text (mark m) more h refl refl (subst (λ w. StopsAt is_digit (w ++ h.0)) (sym h.1.is_written) (mark_no_digit m h.0))

nothing_ends : EndsFactor []
nothing_ends = λ text h. blanks_stop is_digit text refl refl h

-- ---- signs and factors

number_found : (opened : ℕ) (text rest : List ℕ) (v : Option ℤ) → opened ≤ most_open → numeral_at text ≡ Some (v, rest) → Found language Factor (factors opened) text v rest
unfolding numeral_at
number_found opened text rest v l h = front_found is_digit numeral_given text (v, rest) h (λ ds t e w some k.
    let fits : opened + 0 ≤ most_open = omega arith in
    let z : IsWritten (numeral ds) ds = (refl, some, w) in
    as_read language Factor (factors opened) text (number_of ds) v t rest k (record {
      tree = trees.number ds;
      stands = λ more a. (t, record { blanks = []; written = ds; text_is = e; only_blanks = refl; is_written = z }, a);
      value_is = number_alone ds w;
      lawful = fits;
    }))

blank_before : (b : ℕ) (text : List ℕ) (tokens : List Token) → is_blank b ≡ true → AreTokens text tokens → AreTokens (b ∷ text) tokens
blank_before b text [] e h = ap (λ (q : Bool). q && list_all is_blank text) e ∙ h
blank_before b text (token ∷ tokens) e h =
    let only : list_all is_blank (b ∷ h.1.blanks) ≡ true = ap (λ (q : Bool). q && list_all is_blank h.1.blanks) e ∙ h.1.only_blanks in
    (h.0, record { blanks = b ∷ h.1.blanks; written = h.1.written; text_is = ap (λ t. b ∷ t) h.1.text_is; only_blanks = only; is_written = h.1.is_written }, h.2)

-- a mark at the very front
mark_before : (c : ℕ) (m : Mark) (cs : List ℕ) (more : List Token) → c ≡ byte_of m → AreTokens cs more → AreTokens (c ∷ cs) (mark m ∷ more)
mark_before c m cs more e h = (cs, record { blanks = []; written = byte_of m ∷ []; text_is = ap (λ b. b ∷ cs) e; only_blanks = refl; is_written = refl }, h)

module _ (opened : ℕ) (inner : Reader) (insides : IsInner language Sum sums opened inner) where
  abbrev FactorAt : List ℕ → Option ℤ → List ℕ → Type 0
  FactorAt text v rest = Found language Factor (factors opened) text v rest

  opening_found : (c : ℕ) (cs rest : List ℕ) (v : Option ℤ) → c ≡ 40 → Found language Sum (enclosed language Sum sums opened) cs v rest → FactorAt (c ∷ cs) v rest
  opening_found c cs rest v e s =
      let d : (opened + 1) + depth_of_sum s.tree ≤ most_open = s.lawful.1 in
      let l : opened + (1 + depth_of_sum s.tree) ≤ most_open = omega arith in
      record { tree = trees.parenthesis s.tree; stands = λ more a. mark_before c trees.Open cs ((tokens_of_sum s.tree ++ mark trees.Close ∷ []) ++ more) e (s.stands more a); value_is = s.value_is; lawful = l }

  primary_found : (text rest : List ℕ) (v : Option ℤ) → opened ≤ most_open → primary inner text ≡ Some (v, rest) → FactorAt text v rest
  unfolding primary
  primary_found [] rest v l h = absurd cc
  primary_found (c ∷ cs) rest v l h = by (c == 40) refl h
    where
      by : (q : Bool) → (c == 40) ≡ q → (if q then inner cs else numeral_at (c ∷ cs)) ≡ Some (v, rest) → FactorAt (c ∷ cs) v rest
      by true e k = opening_found c cs rest v (eqb-true c 40 e) (insides.finds cs rest v k)
      by false e k = number_found opened (c ∷ cs) rest v l k

  led : (c : ℕ) (cs rest : List ℕ) (v : Option ℤ) → Lead c → FactorAt cs (signed cs v) rest → FactorAt (c ∷ cs) (signed cs (turned c v)) rest
  led c cs rest v (space e) f =
      record { tree = f.tree; stands = λ more a. blank_before c cs (tokens_of_factor f.tree ++ more) e (f.stands more a); value_is = ap (signed cs) (unturned c v e) ∙ f.value_is; lawful = f.lawful }
  led c cs rest v (plus e) f =
      record { tree = trees.positive f.tree; stands = λ more a. mark_before c trees.Plus cs (tokens_of_factor f.tree ++ more) e (f.stands more a); value_is = ap (λ b. signed cs (turned b v)) e ∙ f.value_is; lawful = f.lawful }
  led c cs rest v (minus e) f = record {
    tree = trees.negative f.tree;
    stands = λ more a. mark_before c trees.Minus cs (tokens_of_factor f.tree ++ more) e (f.stands more a);
    value_is = ap (λ b. signed cs (turned b v)) e ∙ signed_negated cs v ∙ ap negated f.value_is;
    lawful = f.lawful;
  }

  signs_found : (text rest : List ℕ) (v : Option ℤ) → FactorAt (after_signs text) v rest → FactorAt text (signed text v) rest
  unfolding signed
  signs_found [] rest v h = h
  signs_found (c ∷ cs) rest v h = by (is_lead c) refl (λ k. signs_found cs rest v k) h
    where
      by : (q : Bool) → is_lead c ≡ q → (FactorAt (after_signs cs) v rest → FactorAt cs (signed cs v) rest) → FactorAt (if q then after_signs cs else c ∷ cs) v rest → FactorAt (c ∷ cs) (if q then signed cs (turned c v) else v) rest
      by true e again k = led c cs rest v (lead_is c e) (again k)
      by false e again k = k

  factor_found : (text rest : List ℕ) (v : Option ℤ) → opened ≤ most_open → factor inner text ≡ Some (v, rest) → FactorAt text v rest
  unfolding factor
  factor_found text rest v l h = option_and_then_some (λ p. read_as (signed text p.0) p.1) (primary inner (after_signs text)) (v, rest) h (λ p e k.
      as_read language Factor (factors opened) text (signed text p.0) v p.1 rest k (signs_found text p.1 p.0 (primary_found (after_signs text) p.1 p.0 l e)))

  -- a factor begins with its mark
  at_mark : (m : Mark) (text : List ℕ) (more : List Token) (h : AreTokens text (mark m ∷ more)) → factor inner text ≡ factor inner (byte_of m ∷ h.0)
  at_mark m text more h = ap (factor inner) (h.1.text_is ∙ ap (λ w. h.1.blanks ++ (w ++ h.0)) h.1.is_written) ∙ factor_blanks inner h.1.blanks (byte_of m ∷ h.0) h.1.only_blanks

  factor_read : (f : Factor) (text : List ℕ) (more : List Token) → opened + depth_of_factor f ≤ most_open → EndsFactor more → AreTokens text (tokens_of_factor f ++ more) → ReadsTo language (factor inner text) (value_of_factor f) more
  factor_read (trees.number ds) text more d k h =
      let w = h.1.is_written in
      record {
        rest = h.0;
        read_is = ap (factor inner) (h.1.text_is ∙ ap (λ u. h.1.blanks ++ (u ++ h.0)) w.0) ∙ factor_blanks inner h.1.blanks (ds ++ h.0) h.1.only_blanks ∙ numeral_read inner ds h.0 w.1 w.2 (k h.0 h.2);
        behind = h.2;
      }
  factor_read (trees.parenthesis s) text more d k h =
      let e : opened + (1 + depth_of_sum s) ≤ most_open = d in
      let l : opened < most_open = omega arith in
      let f : (opened + 1) + depth_of_sum s ≤ most_open = omega arith in
      moved language (factor inner text) (inner h.0) (value_of_sum s) more (at_mark trees.Open text ((tokens_of_sum s ++ mark trees.Close ∷ []) ++ more) h ∙ factor_open inner h.0) (insides.reads s h.0 more (l, f) tt h.2)
  factor_read (trees.positive f) text more d k h =
      let r = factor_read f h.0 more d k h.2 in
      record { rest = r.rest; read_is = at_mark trees.Plus text (tokens_of_factor f ++ more) h ∙ factor_led inner 43 h.0 refl ∙ ap (option_map (turn 43)) r.read_is; behind = r.behind }
  factor_read (trees.negative f) text more d k h =
      let r = factor_read f h.0 more d k h.2 in
      record { rest = r.rest; read_is = at_mark trees.Minus text (tokens_of_factor f ++ more) h ∙ factor_led inner 45 h.0 refl ∙ ap (option_map (turn 45)) r.read_is; behind = r.behind }

  factor_reader : opened ≤ most_open → IsReader language Factor (factors opened) EndsFactor (factor inner)
  factor_reader l = record { finds = λ text rest v h. factor_found text rest v l h; reads = factor_read }

-- ---- products

abbrev mark_of : Operator → Mark
mark_of operator.Times = trees.Times
mark_of operator.Over = trees.Over
mark_of operator.Rest = trees.Rest

operator_stands : (o : Operator) (t : List ℕ) → first_in operators (after_blanks (byte_of (mark_of o) ∷ t)) ≡ Some (o, t)
operator_stands operator.Times t = refl
operator_stands o t = refl

operator_mark : IsMark language Operator (λ o. mark (mark_of o)) operator_at
unfolding operator_at
operator_mark = marks language Operator (λ o. mark (mark_of o)) (λ o. byte_of (mark_of o) ∷ []) (first_in operators) (λ t rest o e. entry_is (λ o. byte_of (mark_of o)) operators t rest o (refl, (refl, (refl, tt))) e) operator_stands (λ o. refl) (λ o w h. h)

abbrev with_factor : Product → Operator → Factor → Product
with_factor p operator.Times f = trees.times p f
with_factor p operator.Over f = trees.over p f
with_factor p operator.Rest f = trees.modulo p f

factor_tokens : (p : Product) (o : Operator) (f : Factor) → tokens_of_product (with_factor p o f) ≡ tokens_of_product p ++ mark (mark_of o) ∷ tokens_of_factor f
factor_tokens p operator.Times f = refl
factor_tokens p o f = refl

factor_value : (p : Product) (o : Operator) (f : Factor) → value_of_product (with_factor p o f) ≡ applied o (value_of_product p) (value_of_factor f)
factor_value p operator.Times f = refl
factor_value p o f = refl

factor_depth : (p : Product) (o : Operator) (f : Factor) → depth_of_product (with_factor p o f) ≡ max (depth_of_product p) (depth_of_factor f)
factor_depth p operator.Times f = refl
factor_depth p o f = refl

by_factors : (P : Product → Type 0) → ((f : Factor) → P (trees.one f)) → ((p : Product) (o : Operator) (f : Factor) → P p → P (with_factor p o f)) → (p : Product) → P p
by_factors P one grow (trees.one f) = one f
by_factors P one grow (trees.times p f) = grow p operator.Times f (by_factors P one grow p)
by_factors P one grow (trees.over p f) = grow p operator.Over f (by_factors P one grow p)
by_factors P one grow (trees.modulo p f) = grow p operator.Rest f (by_factors P one grow p)

both_fit : (opened d a b : ℕ) → d ≡ max a b → opened + a ≤ most_open → opened + b ≤ most_open → opened + d ≤ most_open
both_fit opened d a b e h k = omega arith

each_fits : (opened d a b : ℕ) → d ≡ max a b → opened + d ≤ most_open → (opened + a ≤ most_open) × (opened + b ≤ most_open)
each_fits opened d a b e h = (omega arith, omega arith)

factor_chain : (opened : ℕ) → IsChain language Factor Product Operator (factors opened) (products opened) (λ o. mark (mark_of o)) applied
factor_chain opened = record {
  one = λ f. trees.one f;
  grow = with_factor;
  induct = by_factors;
  one_is = λ f. (refl, refl, λ h. h, λ h. h);
  grow_is = λ p o f. (factor_tokens p o f, factor_value p o f);
  grow_lawful = λ p o f h k. both_fit opened (depth_of_product (with_factor p o f)) (depth_of_product p) (depth_of_factor f) (factor_depth p o f) h k;
  lawful_grow = λ p o f h. each_fits opened (depth_of_product (with_factor p o f)) (depth_of_product p) (depth_of_factor f) (factor_depth p o f) h;
}

abbrev EndsProduct : List Token → Type 0
EndsProduct = EndsChain language Operator EndsFactor operator_at

product_reader : (opened : ℕ) (inner : Reader) → opened ≤ most_open → IsInner language Sum sums opened inner → IsReader language Product (products opened) EndsProduct (product inner)
unfolding product
product_reader opened inner l i =
    chain_reader language Factor Product Operator (factors opened) (products opened) (λ o. mark (mark_of o)) applied (factor_chain opened) operator_at operator_mark EndsFactor (factor inner) (factor_reader opened inner i l) (λ o more. mark_ends (mark_of o) more)

-- a mark that is no operator
no_operator : (m : Mark) (more : List Token) → ((t : List ℕ) → first_in operators (after_blanks (byte_of m ∷ t)) ≡ None) → EndsProduct (mark m ∷ more)
unfolding operator_at
no_operator m more h = (mark_ends m more, λ text a. ap (first_in operators) (first_is language text (mark m) more (byte_of m ∷ []) a a.1.is_written) ∙ h a.0)

-- ---- sums

abbrev mark_of_sign : Bool → Mark
mark_of_sign false = trees.Plus
mark_of_sign true = trees.Minus

sign_stands : (is_minus : Bool) (t : List ℕ) → first_in signs (after_blanks (byte_of (mark_of_sign is_minus) ∷ t)) ≡ Some (is_minus, t)
sign_stands false t = refl
sign_stands true t = refl

sign_mark : IsMark language Bool (λ s. mark (mark_of_sign s)) sign_at
unfolding sign_at
sign_mark = marks language Bool (λ s. mark (mark_of_sign s)) (λ s. byte_of (mark_of_sign s) ∷ []) (first_in signs) (λ t rest s e. entry_is (λ s. byte_of (mark_of_sign s)) signs t rest s (refl, (refl, tt)) e) sign_stands (λ s. refl) (λ s w h. h)

abbrev with_product : Sum → Bool → Product → Sum
with_product s false p = trees.plus s p
with_product s true p = trees.minus s p

product_tokens : (s : Sum) (is_minus : Bool) (p : Product) → tokens_of_sum (with_product s is_minus p) ≡ tokens_of_sum s ++ mark (mark_of_sign is_minus) ∷ tokens_of_product p
product_tokens s false p = refl
product_tokens s true p = refl

product_value : (s : Sum) (is_minus : Bool) (p : Product) → value_of_sum (with_product s is_minus p) ≡ added is_minus (value_of_sum s) (value_of_product p)
product_value s false p = refl
product_value s true p = refl

product_depth : (s : Sum) (is_minus : Bool) (p : Product) → depth_of_sum (with_product s is_minus p) ≡ max (depth_of_sum s) (depth_of_product p)
product_depth s false p = refl
product_depth s true p = refl

by_products : (P : Sum → Type 0) → ((p : Product) → P (trees.first p)) → ((s : Sum) (is_minus : Bool) (p : Product) → P s → P (with_product s is_minus p)) → (s : Sum) → P s
by_products P one grow (trees.first p) = one p
by_products P one grow (trees.plus s p) = grow s false p (by_products P one grow s)
by_products P one grow (trees.minus s p) = grow s true p (by_products P one grow s)

product_chain : (opened : ℕ) → IsChain language Product Sum Bool (products opened) (sums opened) (λ s. mark (mark_of_sign s)) added
product_chain opened = record {
  one = λ p. trees.first p;
  grow = with_product;
  induct = by_products;
  one_is = λ p. (refl, refl, λ h. h, λ h. h);
  grow_is = λ s m p. (product_tokens s m p, product_value s m p);
  grow_lawful = λ s m p h k. both_fit opened (depth_of_sum (with_product s m p)) (depth_of_sum s) (depth_of_product p) (product_depth s m p) h k;
  lawful_grow = λ s m p h. each_fits opened (depth_of_sum (with_product s m p)) (depth_of_sum s) (depth_of_product p) (product_depth s m p) h;
}

sign_ends : (is_minus : Bool) (more : List Token) → EndsProduct (mark (mark_of_sign is_minus) ∷ more)
sign_ends false more = no_operator trees.Plus more (λ t. refl)
sign_ends true more = no_operator trees.Minus more (λ t. refl)

abbrev EndsSum : List Token → Type 0
EndsSum = EndsChain language Bool EndsProduct sign_at

sum_reader : (opened : ℕ) (inner : Reader) → opened ≤ most_open → IsInner language Sum sums opened inner → IsReader language Sum (sums opened) EndsSum (sum inner)
unfolding sum
sum_reader opened inner l i =
    chain_reader language Product Sum Bool (products opened) (sums opened) (λ s. mark (mark_of_sign s)) added (product_chain opened) sign_at sign_mark EndsProduct (product inner) (product_reader opened inner l i) sign_ends

close_ends : (more : List Token) → EndsSum (mark trees.Close ∷ more)
unfolding sign_at
close_ends more = (no_operator trees.Close more (λ t. refl), λ text h. ap (first_in signs) (first_is language text (mark trees.Close) more (41 ∷ []) h h.1.is_written))

end_ends : EndsSum []
unfolding operator_at sign_at
end_ends = ((nothing_ends, λ text h. ap (first_in operators) (all_blank text h)), λ text h. ap (first_in signs) (all_blank text h))

pub calculation_read : (text : List ℕ) (s : Sum) → IsCalculation text s → value_of text ≡ Some (value_of_sum s)
calculation_read text s h = let l : 0 + depth_of_sum s ≤ most_open = omega (arith, h.is_shallow) in whole_read language Sum sums EndsSum sum sum_reader close_ends end_ends text s l h.are_tokens

pub calculation_found : (text : List ℕ) (v : Option ℤ) → value_of text ≡ Some v → (s : Sum) × IsCalculation text s × (v ≡ value_of_sum s)
calculation_found text v h =
    let f = whole_found language Sum sums EndsSum sum sum_reader close_ends end_ends text v h in
    let l : 0 + depth_of_sum f.0 ≤ most_open = f.1 in
    let d : depth_of_sum f.0 ≤ most_open = omega arith in
    (f.0, record { are_tokens = f.2; is_shallow = d }, f.3)
