-- Where keys are equal and tell all that is before functions, ties stand as the terms do.
use Rattle.std.proofs.Common.{◌≡◌, ℕ, zero, suc, ◌+◌, ◌*◌, ◌<◌, ◌≤◌, ◌⊎◌, inl, inr, List, [], ◌∷◌, length, get_or, drop, Bool, true, false, refl, ap, sym, ◌∙◌, subst, arith, ltb, eqb}
use Rattle.std.specs.Prelude.{ℤ, pos, negsuc, nat_abs, ◌&&◌, if◌then◌else◌}
use Rattle.std.specs.List.{list_all, AllByRecursion}
use Rattle.std.specs.Cmp.{ranked}
use Rattle.std.specs.Cmp.Lexicographic.{slice_cmp}
use Rattle.std.specs.Ordering.{nat_cmp, int_cmp, ordering_then, MatchOrdering}
use Rattle.std.specs.declared.cmp.Ordering.{Ordering}
use Rattle.std.specs.declared.cmp.Ordering.TheVariants.{Less, Equal, Greater}
use Rattle.std.proofs.lemmas.Bool.{eqb-true, eqb-false, ltb-true, ltb-false, lt-ltb}
use Rattle.std.proofs.lemmas.Cmp.{nat_cmp_total, tied_itself}
use Rattle.std.proofs.lemmas.List.{nil_from_length, drop_more, drop_all}
use Rattle.form_term.specs.declared.power.Power.{Power}
use Rattle.form_term.specs.declared.piece.Coefficient.{Coefficient}
use Rattle.form_term.specs.declared.piece.Piece.{Piece}
use Rattle.form_term.specs.declared.piece.Piece.TheVariants.{EndOfArguments, EndOfSum, Negative, NegativeDot, EndOfTerm, Sum}
use Rattle.form_term.specs.Pieces.{piece_order}
use Rattle.form_term.specs.Term.{Term, Call, RiseFrom, exponent_in, exponent_of, imaginary_exponent, order, symbols_order, dots_order, component_order, delta_order, call_order, reach_of}
use Rattle.form_term.specs.PowerLaws.{absent_before}
use Rattle.form_term.specs.SymbolLaws.{order_agree, order_reached}
use Rattle.form_term.specs.TermLaws.{pieces_total}
use Rattle.form_collect.specs.Keys.{digit, is_told, key_from, key_of, is_near, has_none_between, is_whole, number_digit, piece_digit, sum_digit, arguments_digit, call_tie, first_tie, tie_of}
use Rattle.form_collect.proofs.Digits.{key_rises}

-- arguments

number_below : (z : ℤ) → number_digit z ≤ 524287
number_below (pos n) = omega arith
number_below (negsuc n) = omega arith

numbers_rise : (x y : ℤ) → number_digit x < number_digit y → int_cmp x y ≡ Less
numbers_rise (pos m) (pos n) h = rw (lt-ltb m n (omega (arith, h))) refl
numbers_rise (negsuc m) (negsuc n) h = rw (lt-ltb n m (omega (arith, h))) refl
numbers_rise (negsuc m) (pos n) h = refl
numbers_rise (pos m) (negsuc n) h = absurd (omega (arith, h))

ends_rise : (c d : Coefficient) → number_digit c.numerator < number_digit d.numerator → piece_order (EndOfTerm c) (EndOfTerm d) ≡ Less
ends_rise c d h = rw (numbers_rise c.numerator d.numerator h) refl

below_end : (p : Piece) (d : Coefficient) → piece_digit p ≡ 0 → piece_order p (EndOfTerm d) ≡ Less
below_end EndOfArguments d e = refl
below_end EndOfSum d e = refl
below_end (Negative p) d e = refl
below_end (NegativeDot p) d e = refl
below_end (EndOfTerm c) d e = absurd (omega (arith, e))
below_end p d e = absurd (omega (arith, e))

above_end : (c : Coefficient) (q : Piece) → piece_digit q ≡ 524289 → piece_order (EndOfTerm c) q ≡ Less
above_end c EndOfArguments e = absurd (omega (arith, e))
above_end c EndOfSum e = absurd (omega (arith, e))
above_end c (Negative p) e = absurd (omega (arith, e))
above_end c (NegativeDot p) e = absurd (omega (arith, e))
above_end c (EndOfTerm d) e = absurd (omega (arith, e, number_below d.numerator))
above_end c q e = refl

record IsEnd (p : Piece) : Type 0 where
  number : Coefficient
  is : p ≡ EndOfTerm number

-- a piece is below the end of a term, such an end, or above it
kind : (p : Piece) → (piece_digit p ≡ 0) ⊎ (IsEnd p ⊎ (piece_digit p ≡ 524289))
kind EndOfArguments = inl refl
kind EndOfSum = inl refl
kind (Negative p) = inl refl
kind (NegativeDot p) = inl refl
kind (EndOfTerm c) = inr (inl (record { number = c; is = refl }))
kind p = inr (inr refl)

some_end : Coefficient
some_end = record { numerator = pos 1; denominator = 1 }

pieces_rise : (p q : Piece) → piece_digit p < piece_digit q → piece_order p q ≡ Less
pieces_rise p q h = by (kind p) (kind q)
  where
    by : (piece_digit p ≡ 0) ⊎ (IsEnd p ⊎ (piece_digit p ≡ 524289)) → (piece_digit q ≡ 0) ⊎ (IsEnd q ⊎ (piece_digit q ≡ 524289)) → piece_order p q ≡ Less
    by a (inl f) = absurd (omega (arith, h, f))
    by (inl e) (inr (inl f)) = ap (piece_order p) f.is ∙ below_end p f.number e
    by (inr (inl e)) (inr (inl f)) =
        let x : piece_digit p ≡ 1 + number_digit e.number.numerator = ap piece_digit e.is in
        let y : piece_digit q ≡ 1 + number_digit f.number.numerator = ap piece_digit f.is in
        ap (λ (z : Piece). piece_order z q) e.is ∙ ap (piece_order (EndOfTerm e.number)) f.is ∙ ends_rise e.number f.number (omega (arith, h, x, y))
    by (inr (inr e)) (inr (inl f)) =
        let y : piece_digit q ≡ 1 + number_digit f.number.numerator = ap piece_digit f.is in
        absurd (omega (arith, h, e, y, number_below f.number.numerator))
    by (inl e) (inr (inr f)) = pieces_total.trans p (EndOfTerm some_end) q (below_end p some_end e) (above_end some_end q f)
    by (inr (inl e)) (inr (inr f)) = ap (λ (z : Piece). piece_order z q) e.is ∙ above_end e.number q f
    by (inr (inr e)) (inr (inr f)) = absurd (omega (arith, h, e, f))

sums_rise : (xs ys : List Piece) → sum_digit xs < sum_digit ys → slice_cmp piece_order xs ys ≡ Less
sums_rise [] [] h = absurd (omega (arith, h))
sums_rise [] (y ∷ ys) h = refl
sums_rise (x ∷ xs) [] h = absurd (omega (arith, h))
sums_rise (x ∷ xs) (y ∷ ys) h = rw (pieces_rise x y h) refl

before_sum : (p : Piece) → (piece_order p Sum ≡ Less) ⊎ (p ≡ Sum)
before_sum Sum = inr refl
before_sum p = inl refl

begins_sum : (p : Piece) (ps : List Piece) (n : ℕ) → n < arguments_digit (p ∷ ps) → p ≡ Sum
begins_sum Sum ps n h = refl
begins_sum p ps n h = absurd (omega (arith, h))

arguments_rise : (xs ys : List Piece) → arguments_digit xs < arguments_digit ys → slice_cmp piece_order xs ys ≡ Less
arguments_rise [] [] h = absurd (omega (arith, h))
arguments_rise [] (y ∷ ys) h = refl
arguments_rise (x ∷ xs) [] h = absurd (omega (arith, h))
arguments_rise (x ∷ xs) (y ∷ ys) h = by (before_sum x)
  where
    is : y ≡ Sum
    is = begins_sum y ys (arguments_digit (x ∷ xs)) h

    against : arguments_digit (x ∷ xs) < sum_digit ys
    against = subst (λ (z : Piece). arguments_digit (x ∷ xs) < arguments_digit (z ∷ ys)) is h

    by : (piece_order x Sum ≡ Less) ⊎ (x ≡ Sum) → slice_cmp piece_order (x ∷ xs) (y ∷ ys) ≡ Less
    by (inl e) = ap (λ (z : Piece). slice_cmp piece_order (x ∷ xs) (z ∷ ys)) is ∙ ap (λ (r : Ordering). ordering_then r (slice_cmp piece_order xs ys)) e
    by (inr e) =
        let both : sum_digit xs < sum_digit ys = subst (λ (z : Piece). arguments_digit (z ∷ xs) < sum_digit ys) e against in
        ap (λ (z : Piece). slice_cmp piece_order (x ∷ xs) (z ∷ ys)) is ∙ ap (λ (z : Piece). slice_cmp piece_order (z ∷ xs) (Sum ∷ ys)) e ∙ sums_rise xs ys both

arguments_below : (ps : List Piece) → arguments_digit ps ≤ 524289
arguments_below ps = by (ltb 524289 (arguments_digit ps)) refl
  where
    of_piece : (p : Piece) → (piece_digit p ≡ 0) ⊎ (IsEnd p ⊎ (piece_digit p ≡ 524289)) → piece_digit p ≤ 524289
    of_piece p (inl e) = omega (arith, e)
    of_piece p (inr (inl e)) = let x : piece_digit p ≡ 1 + number_digit e.number.numerator = ap piece_digit e.is in omega (arith, x, number_below e.number.numerator)
    of_piece p (inr (inr e)) = omega (arith, e)

    of_sum : (qs : List Piece) → sum_digit qs ≤ 524289
    of_sum [] = omega arith
    of_sum (q ∷ qs) = of_piece q (kind q)

    of : (qs : List Piece) → 524289 < arguments_digit qs → ⊥
    of [] h = omega (arith, h)
    of (q ∷ qs) h =
        let is = begins_sum q qs 524289 h in
        let above : 524289 < sum_digit qs = subst (λ (z : Piece). 524289 < arguments_digit (z ∷ qs)) is h in
        omega (arith, above, of_sum qs)

    by : (b : Bool) → ltb 524289 (arguments_digit ps) ≡ b → arguments_digit ps ≤ 524289
    by true e = absurd (of ps (ltb-true 524289 (arguments_digit ps) e))
    by false e = omega (arith, ltb-false 524289 (arguments_digit ps) e)

-- functions

calls_rise : (c d : Call) → call_tie c < call_tie d → call_order c d ≡ Less
calls_rise c d h = by (ltb c.function 2047) refl (ltb d.function 2047) refl h
  where
    of : Bool → Call → ℕ
    of b x = if b then 1 + x.function * 1048576 + arguments_digit x.pieces else 2146435073

    same : c.function ≡ d.function → arguments_digit c.pieces < arguments_digit d.pieces → call_order c d ≡ Less
    same e k =
        let tied : nat_cmp c.function d.function ≡ Equal = ap (λ (n : ℕ). nat_cmp n d.function) e ∙ tied_itself nat_cmp_total d.function in
        ap (λ (r : Ordering). ordering_then r (slice_cmp piece_order c.pieces d.pieces)) tied ∙ arguments_rise c.pieces d.pieces k

    both : (r : Ordering) → nat_cmp c.function d.function ≡ r → MatchOrdering r (c.function < d.function) (c.function ≡ d.function) (d.function < c.function) → (d.function ≡ c.function → arguments_digit c.pieces < arguments_digit d.pieces) → (d.function < c.function → ⊥) → call_order c d ≡ Less
    both Less e below k not = ap (λ (r : Ordering). ordering_then r (slice_cmp piece_order c.pieces d.pieces)) e
    both Equal e equal k not = same equal (k (sym equal))
    both Greater e above k not = absurd (not above)

    by : (a : Bool) → ltb c.function 2047 ≡ a → (b : Bool) → ltb d.function 2047 ≡ b → of a c < of b d → call_order c d ≡ Less
    by true e true f k = both (nat_cmp c.function d.function) refl (ranked c.function d.function (nat_cmp c.function d.function) refl)
        (λ g. omega (arith, g, k))
        (λ g. omega (arith, g, k, arguments_below c.pieces, arguments_below d.pieces))
    by true e false f k =
        let low = ltb-true c.function 2047 e in
        let high = ltb-false d.function 2047 f in
        both (nat_cmp c.function d.function) refl (ranked c.function d.function (nat_cmp c.function d.function) refl) (λ g. absurd (omega (arith, g, low, high))) (λ g. omega (arith, g, low, high))
    by false e true f k =
        let low = ltb-true d.function 2047 f in
        absurd (omega (arith, k, low, arguments_below d.pieces))
    by false e false f k = absurd (omega (arith, k))

functions_rise : (cs ds : List Call) → first_tie cs < first_tie ds → slice_cmp call_order cs ds ≡ Less
functions_rise [] [] h = absurd (omega (arith, h))
functions_rise [] (d ∷ ds) h = refl
functions_rise (c ∷ cs) [] h = absurd (omega (arith, h))
functions_rise (c ∷ cs) (d ∷ ds) h = ap (λ (r : Ordering). ordering_then r (slice_cmp call_order cs ds)) (calls_rise c d h)

-- what keys tell

both_true : (a b : Bool) → (a && b) ≡ true → (a ≡ true) × (b ≡ true)
both_true true true h = (refl, refl)
both_true true false h = absurd (cc)
both_true false b h = absurd (cc)

all_true : (a b c : Bool) → (a && b && c) ≡ true → (a ≡ true) × (b ≡ true) × (c ≡ true)
all_true a b c h =
    let outer = both_true (a && b) c h in
    let inner = both_true a b outer.0 in
    (inner.0, inner.1, outer.1)

near_exponent : (end : ℕ) (ps : List Power) → list_all (is_near end) ps ≡ true → (s : ℕ) → nat_abs (exponent_in ps s) < 63
near_exponent end [] h s = omega arith
near_exponent end (p ∷ ps) h s = by (eqb p.symbol s) (near_exponent end ps parts.1 s)
  where
    parts : (is_near end p ≡ true) × (list_all (is_near end) ps ≡ true)
    parts = both_true (is_near end p) (list_all (is_near end) ps) h

    here : nat_abs p.exponent < 63
    here = ltb-true (nat_abs p.exponent) 63 (both_true (ltb p.symbol end) (ltb (nat_abs p.exponent) 63) parts.0).1

    by : (b : Bool) → nat_abs (exponent_in ps s) < 63 → nat_abs (if b then p.exponent else exponent_in ps s) < 63
    by true rest = here
    by false rest = rest

absent_from : (end : ℕ) (ps : List Power) → list_all (is_near end) ps ≡ true → (s : ℕ) → end ≤ s → exponent_in ps s ≡ pos 0
absent_from end [] h s from = refl
absent_from end (p ∷ ps) h s from = by (eqb p.symbol s) refl (absent_from end ps parts.1 s from)
  where
    parts : (is_near end p ≡ true) × (list_all (is_near end) ps ≡ true)
    parts = both_true (is_near end p) (list_all (is_near end) ps) h

    before : p.symbol < end
    before = ltb-true p.symbol end (both_true (ltb p.symbol end) (ltb (nat_abs p.exponent) 63) parts.0).0

    by : (b : Bool) → eqb p.symbol s ≡ b → exponent_in ps s ≡ pos 0 → (if b then p.exponent else exponent_in ps s) ≡ pos 0
    by true e rest = let same = eqb-true p.symbol s e in absurd (omega (arith, same, before, from))
    by false e rest = rest

near_told : (z : ℤ) → nat_abs z < 63 → is_told (digit z) ≡ true
near_told (pos n) h = rw (lt-ltb 0 (digit (pos n)) (omega arith), lt-ltb (digit (pos n)) 127 (omega (arith, h))) refl
near_told (negsuc n) h = rw (lt-ltb 0 (digit (negsuc n)) (omega (arith, h)), lt-ltb (digit (negsuc n)) 127 (omega arith)) refl

near_same : (x y : ℤ) → nat_abs x < 63 → nat_abs y < 63 → digit x ≡ digit y → x ≡ y
near_same (pos m) (pos n) h k e = let same : m ≡ n = omega (arith, h, k, e) in ap pos same
near_same (negsuc m) (negsuc n) h k e = let same : m ≡ n = omega (arith, h, k, e) in ap negsuc same
near_same (pos m) (negsuc n) h k e = absurd (omega (arith, e))
near_same (negsuc m) (pos n) h k e = absurd (omega (arith, e))

-- keys of exponents that are all told, where they are equal
module _ (n p : ℕ) (f g : ℕ → ℤ) (a : ℕ) (left : nat_abs (f p) < 63) (right : nat_abs (g p) < 63) (h : key_from (suc n) p f true a ≡ key_from (suc n) p g true a) where
  opened : key_from n (suc p) f true (a * 128 + digit (f p)) ≡ key_from n (suc p) g true (a * 128 + digit (g p))
  unfolding key_from
  opened =
      let at_left : key_from n (suc p) f true (a * 128 + digit (f p)) ≡ key_from n (suc p) g (is_told (digit (g p))) (a * 128 + digit (g p)) = subst (λ (b : Bool). key_from n (suc p) f b (a * 128 + digit (f p)) ≡ key_from n (suc p) g (is_told (digit (g p))) (a * 128 + digit (g p))) (near_told (f p) left) h in
      subst (λ (b : Bool). key_from n (suc p) f true (a * 128 + digit (f p)) ≡ key_from n (suc p) g b (a * 128 + digit (g p))) (near_told (g p) right) at_left

  digits_same : digit (f p) ≡ digit (g p)
  digits_same = by (nat_cmp (digit (f p)) (digit (g p))) (ranked (digit (f p)) (digit (g p)) (nat_cmp (digit (f p)) (digit (g p))) refl)
    where
      by : (r : Ordering) → MatchOrdering r (digit (f p) < digit (g p)) (digit (f p) ≡ digit (g p)) (digit (g p) < digit (f p)) → digit (f p) ≡ digit (g p)
      by Less k = absurd (omega (arith, opened, key_rises n (suc p) (suc p) f g true true (a * 128 + digit (f p)) (a * 128 + digit (g p)) (omega (arith, k))))
      by Equal k = k
      by Greater k = absurd (omega (arith, opened, key_rises n (suc p) (suc p) g f true true (a * 128 + digit (g p)) (a * 128 + digit (f p)) (omega (arith, k))))

  same_here : f p ≡ g p
  same_here = near_same (f p) (g p) left right digits_same

  same_behind : key_from n (suc p) f true (a * 128 + digit (f p)) ≡ key_from n (suc p) g true (a * 128 + digit (f p))
  same_behind = opened ∙ ap (λ (x : ℕ). key_from n (suc p) g true (a * 128 + x)) (sym digits_same)

same_exponents : (n p : ℕ) (f g : ℕ → ℤ) (a : ℕ) → ((s : ℕ) → nat_abs (f s) < 63) → ((s : ℕ) → nat_abs (g s) < 63) → key_from n p f true a ≡ key_from n p g true a → (s : ℕ) → p ≤ s → s < p + n → f s ≡ g s
same_exponents zero p f g a left right h s from below = absurd (omega (arith, from, below))
same_exponents (suc n) p f g a left right h s from below =
    at (eqb p s) refl (same_exponents n (suc p) f g (a * 128 + digit (f p)) left right (same_behind n p f g a (left p) (right p) h) s)
  where
    at : (b : Bool) → eqb p s ≡ b → (suc p ≤ s → s < suc p + n → f s ≡ g s) → f s ≡ g s
    at true e rest = subst (λ (x : ℕ). f x ≡ g x) (eqb-true p s e) (same_here n p f g a (left p) (right p) h)
    at false e rest = let other = eqb-false p s e in rest (omega (arith, other, from)) (omega (arith, below))

-- two terms with one key, which tells all that is before functions
module _ (first : ℕ) (t u : Term) (left : RiseFrom first t.symbols) (right : RiseFrom first u.symbols) (whole : is_whole first t ≡ true) (other : is_whole first u ≡ true) (h : key_of first t ≡ key_of first u) where
  of : Bool → ℕ
  of b = if b then 1 else 0

  plain : (has_none_between t ≡ true) × (list_all (is_near (first + 9)) t.symbols ≡ true)
  plain = both_true (has_none_between t) (list_all (is_near (first + 9)) t.symbols) whole

  plain_other : (has_none_between u ≡ true) × (list_all (is_near (first + 9)) u.symbols ≡ true)
  plain_other = both_true (has_none_between u) (list_all (is_near (first + 9)) u.symbols) other

  alike : t.others.is_imaginary ≡ u.others.is_imaginary
  unfolding key_of
  alike = by t.others.is_imaginary u.others.is_imaginary h
    where
      by : (b c : Bool) → key_from 9 first (exponent_of t) true (if b then 1 else 0) ≡ key_from 9 first (exponent_of u) true (if c then 1 else 0) → b ≡ c
      by true true k = refl
      by false false k = refl
      by true false k = absurd (omega (arith, k, key_rises 9 first first (exponent_of u) (exponent_of t) true true 0 1 (omega arith)))
      by false true k = absurd (omega (arith, k, key_rises 9 first first (exponent_of t) (exponent_of u) true true 0 1 (omega arith)))

  keys_alike : key_from 9 first (exponent_of t) true (imaginary_exponent u) ≡ key_from 9 first (exponent_of u) true (imaginary_exponent u)
  unfolding key_of
  keys_alike = ap (λ (b : Bool). key_from 9 first (exponent_of t) true (if b then 1 else 0)) (sym alike) ∙ h

  agree : (s : ℕ) → exponent_of t s ≡ exponent_of u s
  agree s = by (ltb s first) refl (ltb s (first + 9)) refl
    where
      by : (a : Bool) → ltb s first ≡ a → (b : Bool) → ltb s (first + 9) ≡ b → exponent_of t s ≡ exponent_of u s
      by true e b f = absent_before first t.symbols s left (ltb-true s first e) ∙ sym (absent_before first u.symbols s right (ltb-true s first e))
      by false e true f = same_exponents 9 first (exponent_of t) (exponent_of u) (imaginary_exponent u) (near_exponent (first + 9) t.symbols plain.1) (near_exponent (first + 9) u.symbols plain_other.1) keys_alike s (omega (arith, ltb-false s first e)) (ltb-true s (first + 9) f)
      by false e false f =
          let past = ltb-false s (first + 9) f in
          absent_from (first + 9) t.symbols plain.1 s (omega (arith, past)) ∙ sym (absent_from (first + 9) u.symbols plain_other.1 s (omega (arith, past)))

  symbols_alike : symbols_order t.symbols u.symbols ≡ Equal
  symbols_alike =
      let n = reach_of t.symbols + reach_of u.symbols in
      order_reached t.symbols u.symbols n (omega arith) (omega arith) ∙ order_agree 0 n (exponent_of t) (exponent_of u) (λ s from. agree s)

  imaginary_alike : nat_cmp (imaginary_exponent t) (imaginary_exponent u) ≡ Equal
  imaginary_alike = ap (λ (b : Bool). nat_cmp (if b then 1 else 0) (imaginary_exponent u)) alike ∙ tied_itself nat_cmp_total (imaginary_exponent u)

  none : {A : Type 0} (xs : List A) → eqb (length xs) 0 ≡ true → xs ≡ []
  none xs e = nil_from_length xs (eqb-true (length xs) 0 e)

  empty : (eqb (length t.others.dots) 0 ≡ true) × (eqb (length t.others.components) 0 ≡ true) × (eqb (length t.others.deltas) 0 ≡ true)
  empty = all_true (eqb (length t.others.dots) 0) (eqb (length t.others.components) 0) (eqb (length t.others.deltas) 0) plain.0

  empty_other : (eqb (length u.others.dots) 0 ≡ true) × (eqb (length u.others.components) 0 ≡ true) × (eqb (length u.others.deltas) 0 ≡ true)
  empty_other = all_true (eqb (length u.others.dots) 0) (eqb (length u.others.components) 0) (eqb (length u.others.deltas) 0) plain_other.0

  dots_alike : dots_order t.others.dots u.others.dots ≡ Equal
  dots_alike = rw (none t.others.dots empty.0, none u.others.dots empty_other.0) refl

  components_alike : slice_cmp component_order t.others.components u.others.components ≡ Equal
  components_alike = rw (none t.others.components empty.1, none u.others.components empty_other.1) refl

  deltas_alike : slice_cmp delta_order t.others.deltas u.others.deltas ≡ Equal
  deltas_alike = rw (none t.others.deltas empty.2, none u.others.deltas empty_other.2) refl

  ties_decide : tie_of t < tie_of u → order t u ≡ Less
  unfolding order
  ties_decide k = rw (imaginary_alike, symbols_alike, dots_alike, components_alike, deltas_alike, functions_rise t.others.functions u.others.functions k) refl

-- ties where they tell something
pub ties_rise : (first : ℕ) (told : Bool) (t u : Term) → RiseFrom first t.symbols → RiseFrom first u.symbols → (told ≡ true → is_whole first t ≡ true) → (told ≡ true → is_whole first u ≡ true) → key_of first t ≡ key_of first u
    → (if told then tie_of t else 0) < (if told then tie_of u else 0) → order t u ≡ Less
ties_rise first true t u left right whole other same h = ties_decide first t u left right (whole refl) (other refl) same h
ties_rise first false t u left right whole other same h = absurd (omega (arith, h))

-- a test of all of a list, as far as it has come
module _ {X : Type 0} (test : X → Bool) (xs : List X) (i : ℕ) (all : Bool) (h : list_all test (drop i xs) ≡ all) where
  module _ (x : X) (inside : i < length xs) (at : x ≡ get_or xs i x) where
    more : drop i xs ≡ x ∷ drop (i + 1) xs
    more = drop_more xs i x inside ∙ ap (λ (z : X). z ∷ drop (i + 1) xs) (sym at)

    opened_all : (test x && list_all test (drop (i + 1) xs)) ≡ all
    opened_all = ap (list_all test) (sym more) ∙ h

    pub all_stops : test x ≡ false → false ≡ all
    all_stops e = sym (ap (λ (b : Bool). b && list_all test (drop (i + 1) xs)) e) ∙ opened_all

    pub all_next : test x ≡ true → list_all test (drop (i + 1) xs) ≡ all
    all_next e = sym (ap (λ (b : Bool). b && list_all test (drop (i + 1) xs)) e) ∙ opened_all

  pub all_end : length xs ≤ i → true ≡ all
  all_end past = sym (ap (list_all test) (drop_all i xs past)) ∙ h

pub all_from : {X : Type 0} (test : X → Bool) (xs : List X) → true ≡ list_all test xs → AllByRecursion (λ x. test x ≡ true) xs
all_from test [] h = tt
all_from test (x ∷ xs) h =
    let parts = both_true (test x) (list_all test xs) (sym h) in
    (parts.0, all_from test xs (sym parts.1))
