-- Keys stand as the terms do.
use Rattle.std.proofs.Common.{◌≡◌, ◌≢◌, ℕ, zero, suc, ◌+◌, ◌-◌, ◌*◌, ◌<◌, ◌≤◌, ◌⊎◌, inl, inr, ◌/◌, List, [], ◌∷◌, drop, Bool, true, false, ⊎_elim, refl, ap, sym, ◌∙◌, subst, arith, ltb, eqb}
use Rattle.std.specs.Prelude.{ℤ, pos, negsuc, nat_abs, int_lt, ◌&&◌, All, if◌then◌else◌}
use Rattle.std.specs.Ordering.{int_cmp, ordering_reverse}
use Rattle.std.specs.declared.cmp.Ordering.{Ordering}
use Rattle.std.specs.declared.cmp.Ordering.TheVariants.{Less, Equal, Greater}
use Rattle.std.proofs.lemmas.Bool.{eqb-true, eqb-false, ne_eqb, ltb-true, ltb-false}
use Rattle.std.proofs.lemmas.Cmp.{int_cmp_total}
use Rattle.std.proofs.lemmas.List.Elements.{All-head, All-tail}
use Rattle.std.proofs.lemmas.Map.Lookups.{exact_signed}
use Rattle.form_term.specs.Term.{Term, RiseFrom, exponent_in, exponent_of, imaginary_exponent, order}
use Rattle.form_term.specs.declared.power.Power.{Power}
use Rattle.form_term.specs.PowerLaws.{absent_before, rise_lower}
use Rattle.form_term.specs.TermLaws.{imaginary_decides, symbols_decide}
use Rattle.form_collect.specs.Keys.{digit, is_told, key_from, key_of}

pub digit_below : (z : ℤ) → digit z ≤ 127
digit_below (pos n) = omega arith
digit_below (negsuc n) = omega arith

pub open_below : (o : Bool) (z : ℤ) → (if o then digit z else 0) ≤ 127
open_below true z = digit_below z
open_below false z = omega arith

digit_zero : (z : ℤ) → digit z ≡ 64 → z ≡ pos 0
digit_zero (pos n) e = let none : n ≡ 0 = omega arith in ap pos none
digit_zero (negsuc n) e = absurd (omega (arith, e))

below_from : (x y : ℤ) → int_cmp x y ≡ Less → int_lt x y ≡ true
below_from x y e = by (int_lt x y) refl (int_lt y x) e
  where
    by : (b : Bool) → int_lt x y ≡ b → (d : Bool) → (if b then Less else (if d then Greater else Equal)) ≡ Less → int_lt x y ≡ true
    by true h d f = h
    by false h true f = cc
    by false h false f = cc

-- a lower exponent has a lower digit, or one that isn't told
digits_rise : (x y : ℤ) → int_lt x y ≡ true → (digit x < digit y) ⊎ ((digit x ≡ digit y) × (is_told (digit x) ≡ false))
digits_rise (pos m) (negsuc n) e = absurd (cc)
digits_rise (negsuc m) (pos n) e = inl (omega arith)
digits_rise (pos m) (pos n) e = by (ltb m 63) refl
  where
    below : m < n
    below = ltb-true m n e

    by : (b : Bool) → ltb m 63 ≡ b → (digit (pos m) < digit (pos n)) ⊎ ((digit (pos m) ≡ digit (pos n)) × (is_told (digit (pos m)) ≡ false))
    by true t = let low = ltb-true m 63 t in inl (omega (arith, below))
    by false t =
        let high = ltb-false m 63 t in
        let last : digit (pos m) ≡ 127 = omega arith in
        inr (omega (arith, below), ap is_told last)
digits_rise (negsuc m) (negsuc n) e = by (ltb n 63) refl
  where
    below : n < m
    below = ltb-true n m e

    by : (b : Bool) → ltb n 63 ≡ b → (digit (negsuc m) < digit (negsuc n)) ⊎ ((digit (negsuc m) ≡ digit (negsuc n)) × (is_told (digit (negsuc m)) ≡ false))
    by true t = let high = ltb-true n 63 t in inl (omega (arith, below))
    by false t =
        let low = ltb-false n 63 t in
        let first : digit (negsuc m) ≡ 0 = omega (arith, below) in
        inr (omega (arith, below), ap is_told first)

-- what stands in front decides
pub key_rises : (n p q : ℕ) (f g : ℕ → ℤ) (o r : Bool) (a b : ℕ) → a < b → key_from n p f o a < key_from n q g r b
unfolding key_from
key_rises zero p q f g o r a b h = h
key_rises (suc n) p q f g o r a b h =
    key_rises n (suc p) (suc q) f g (o && is_told (digit (f p))) (r && is_told (digit (g q))) (a * 128 + (if o then digit (f p) else 0)) (b * 128 + (if r then digit (g q) else 0)) (omega (arith, h, open_below o (f p), open_below r (g q)))

-- behind an exponent that isn't told nothing does
closed_alike : (n p : ℕ) (f g : ℕ → ℤ) (a : ℕ) → key_from n p f false a ≡ key_from n p g false a
unfolding key_from
closed_alike zero p f g a = refl
closed_alike (suc n) p f g a = closed_alike n (suc p) f g (a * 128 + 0)

-- these exponents first differ at a symbol from p on, and there the first ones are lower
record Decided (p : ℕ) (f g : ℕ → ℤ) : Type 0 where
  at : ℕ
  agree : (s : ℕ) → p ≤ s → s < at → f s ≡ g s
  below : int_cmp (f at) (g at) ≡ Less

decided_before : (p : ℕ) (f g : ℕ → ℤ) → f p ≡ g p → Decided (suc p) f g → Decided p f g
decided_before p f g e d = record { at = d.at; agree = λ s from below. here s from below (eqb p s) refl; below = d.below }
  where
    here : (s : ℕ) → p ≤ s → s < d.at → (b : Bool) → eqb p s ≡ b → f s ≡ g s
    here s from below true b = subst (λ (x : ℕ). f x ≡ g x) (eqb-true p s b) e
    here s from below false b = let other = eqb-false p s b in d.agree s (omega arith) below

one_more : (n p : ℕ) (f : ℕ → ℤ) (a : ℕ) → key_from (suc n) p f true a ≡ key_from n (suc p) f (is_told (digit (f p))) (a * 128 + digit (f p))
unfolding key_from
one_more n p f a = refl

-- a lower key tells which exponents differ first
decided : (n p : ℕ) (f g : ℕ → ℤ) (a : ℕ) → key_from n p f true a < key_from n p g true a → Decided p f g
unfolding key_from
decided zero p f g a h = absurd (omega (arith, h))
decided (suc n) p f g a h = by (int_cmp (f p) (g p)) refl (λ b k. decided n (suc p) f g b k)
  where
    x : ℕ
    x = digit (f p)

    y : ℕ
    y = digit (g p)

    below : key_from n (suc p) f (is_told x) (a * 128 + x) < key_from n (suc p) g (is_told y) (a * 128 + y)
    below = h

    at_same : ((b : ℕ) → key_from n (suc p) f true b < key_from n (suc p) g true b → Decided (suc p) f g) → (t : Bool) (b : ℕ) → key_from n (suc p) f t b < key_from n (suc p) g t b → Decided (suc p) f g
    at_same rest true b k = rest b k
    at_same rest false b k = absurd (omega (arith, k, closed_alike n (suc p) f g b))

    not_above : (y < x) ⊎ ((y ≡ x) × (is_told y ≡ false)) → ⊥
    not_above (inl k) = omega (arith, below, key_rises n (suc p) (suc p) g f (is_told y) (is_told x) (a * 128 + y) (a * 128 + x) (omega (arith, k)))
    not_above (inr k) =
        let closed : key_from n (suc p) f (is_told y) (a * 128 + y) < key_from n (suc p) g (is_told y) (a * 128 + y) = subst (λ (z : ℕ). key_from n (suc p) f (is_told z) (a * 128 + z) < key_from n (suc p) g (is_told y) (a * 128 + y)) (sym k.0) below in
        let shut : key_from n (suc p) f false (a * 128 + y) < key_from n (suc p) g false (a * 128 + y) = subst (λ (b : Bool). key_from n (suc p) f b (a * 128 + y) < key_from n (suc p) g b (a * 128 + y)) k.1 closed in
        omega (arith, shut, closed_alike n (suc p) f g (a * 128 + y))

    by : (r : Ordering) → int_cmp (f p) (g p) ≡ r → ((b : ℕ) → key_from n (suc p) f true b < key_from n (suc p) g true b → Decided (suc p) f g) → Decided p f g
    by Less e rest = record { at = p; agree = λ s from under. absurd (omega (arith, from, under)); below = e }
    by Greater e rest = absurd (not_above (digits_rise (g p) (f p) (below_from (g p) (f p) (int_cmp_total.antisymm (g p) (f p) ∙ ap ordering_reverse e))))
    by Equal e rest =
        let same : f p ≡ g p = exact_signed (f p) (g p) e in
        let k : key_from n (suc p) f (is_told x) (a * 128 + x) < key_from n (suc p) g (is_told x) (a * 128 + x) = subst (λ (z : ℤ). key_from n (suc p) f (is_told x) (a * 128 + x) < key_from n (suc p) g (is_told (digit z)) (a * 128 + digit z)) (sym same) below in
        decided_before p f g same (at_same rest (is_told x) (a * 128 + x) k)

-- a term whose key is lower comes first
pub keys_rise : (first : ℕ) (t u : Term) → RiseFrom first t.symbols → RiseFrom first u.symbols → key_of first t < key_of first u → order t u ≡ Less
unfolding key_of
keys_rise first t u left right h = by t.others.is_imaginary u.others.is_imaginary refl refl h
  where
    of : Bool → ℕ
    of b = if b then 1 else 0

    by_exponents : (b : Bool) → t.others.is_imaginary ≡ b → u.others.is_imaginary ≡ b → key_from 9 first (exponent_of t) true (of b) < key_from 9 first (exponent_of u) true (of b) → order t u ≡ Less
    by_exponents b e f k =
        let d = decided 9 first (exponent_of t) (exponent_of u) (of b) k in
        let agree : (s : ℕ) → s < d.at → exponent_of t s ≡ exponent_of u s = λ s below. ⊎_elim
        (λ before. absent_before first t.symbols s left before ∙ sym (absent_before first u.symbols s right before))
        (λ from. d.agree s from below)
        (before_or s) in
        symbols_decide t u d.at (e ∙ sym f) agree (λ q. let c : Less ≡ Equal = sym d.below ∙ q in absurd (cc)) ∙ d.below
      where
        before_or : (s : ℕ) → (s < first) ⊎ (first ≤ s)
        before_or s = on (ltb s first) refl
          where
            on : (b : Bool) → ltb s first ≡ b → (s < first) ⊎ (first ≤ s)
            on true q = inl (ltb-true s first q)
            on false q = inr (omega (arith, ltb-false s first q))

    by : (b c : Bool) → t.others.is_imaginary ≡ b → u.others.is_imaginary ≡ c → key_from 9 first (exponent_of t) true (of b) < key_from 9 first (exponent_of u) true (of c) → order t u ≡ Less
    by false true e f k = imaginary_decides t u e f
    by true false e f k = absurd (omega (arith, k, key_rises 9 first first (exponent_of u) (exponent_of t) true true 0 1 (omega arith)))
    by true true e f k = by_exponents true e f k
    by false false e f k = by_exponents false e f k

-- the keys to which the digits of n symbols can still be added
abbrev pub room : ℕ → ℕ
room zero = 18446744073709551616
room (suc n) = room n / 128

room_below : (n : ℕ) → room n ≤ 18446744073709551616
room_below zero = omega arith
room_below (suc n) = omega (arith, room_below n)

-- a key with the digits of some symbols, and the powers of those that are left, make up a whole key
pub record IsBegunKey (whole left symbol : ℕ) (rest : List Power) (is_open : Bool) (key : ℕ) : Type 0 where
  pub is : key_from left symbol (exponent_in rest) is_open key ≡ whole
  pub rises : RiseFrom symbol rest
  pub present : All (λ p. 0 < nat_abs p.exponent) rest
  pub within : key < room left
  pub near : symbol + left ≤ 5000000000

key_agrees : (n p : ℕ) (f g : ℕ → ℤ) (o : Bool) (a : ℕ) → ((s : ℕ) → p ≤ s → f s ≡ g s) → key_from n p f o a ≡ key_from n p g o a
unfolding key_from
key_agrees zero p f g o a agree = refl
key_agrees (suc n) p f g o a agree =
    ap (λ (z : ℤ). key_from n (suc p) f (o && is_told (digit z)) (a * 128 + (if o then digit z else 0))) (agree p (omega arith))
    ∙ key_agrees n (suc p) f g (o && is_told (digit (g p))) (a * 128 + (if o then digit (g p) else 0)) (λ s from. agree s (omega (arith, from)))

key_step : (n p : ℕ) (f : ℕ → ℤ) (o : Bool) (a : ℕ) → key_from n (suc p) f (o && is_told (digit (f p))) (a * 128 + (if o then digit (f p) else 0)) ≡ key_from (suc n) p f o a
unfolding key_from
key_step n p f o a = refl

-- where a symbol is absent the powers rise from the next one
rise_past : (symbol : ℕ) (rest : List Power) → RiseFrom symbol rest → All (λ p. 0 < nat_abs p.exponent) rest → exponent_in rest symbol ≡ pos 0 → RiseFrom (suc symbol) rest
rise_past symbol [] rises present e = tt
rise_past symbol (p ∷ ps) rises present e = (by (eqb p.symbol symbol) refl e, rises.1)
  where
    by : (b : Bool) → eqb p.symbol symbol ≡ b → (if b then p.exponent else exponent_in ps symbol) ≡ pos 0 → suc symbol ≤ p.symbol
    by true q z = let there = All-head (λ (x : Power). 0 < nat_abs x.exponent) p ps present in absurd (omega (arith, there, ap nat_abs z))
    by false q z = let other = eqb-false p.symbol symbol q in omega (arith, rises.0)

rise_behind : (symbol : ℕ) (rest : List Power) → RiseFrom symbol rest → RiseFrom (suc symbol) (drop 1 rest)
rise_behind symbol [] rises = tt
rise_behind symbol (p ∷ ps) rises = rise_lower (suc p.symbol) (suc symbol) ps rises.1 (omega (arith, rises.0))

present_behind : (rest : List Power) → All (λ p. 0 < nat_abs p.exponent) rest → All (λ p. 0 < nat_abs p.exponent) (drop 1 rest)
present_behind [] present = present
present_behind (p ∷ ps) present = All-tail (λ (x : Power). 0 < nat_abs x.exponent) p ps present

-- behind the power of a symbol the others are as they were
agree_behind : (symbol : ℕ) (rest : List Power) → RiseFrom symbol rest → exponent_in rest symbol ≢ pos 0 → (s : ℕ) → suc symbol ≤ s → exponent_in rest s ≡ exponent_in (drop 1 rest) s
agree_behind symbol [] rises there s from = refl
agree_behind symbol (p ∷ ps) rises there s from = by (eqb p.symbol symbol) refl
  where
    by : (b : Bool) → eqb p.symbol symbol ≡ b → exponent_in (p ∷ ps) s ≡ exponent_in ps s
    by true q =
        let same = eqb-true p.symbol symbol q in
        let other : eqb p.symbol s ≡ false = ne_eqb p.symbol s (λ e. omega (arith, same, e, from)) in
        rw other refl
    by false q =
        let other = eqb-false p.symbol symbol q in
        absurd (there (rw q (absent_before (suc p.symbol) ps symbol rises.1 (omega (arith, rises.0)))))

still_open : (o : Bool) → o ≡ (o && is_told (digit (pos 0)))
still_open true = refl
still_open false = refl

module _ (whole n symbol : ℕ) (rest : List Power) (is_open : Bool) (key : ℕ) (h : IsBegunKey whole (suc n) symbol rest is_open key) where
  next_within : (z : ℤ) → key * 128 + (if is_open then digit z else 0) < room n
  next_within z = omega (arith, h.within, open_below is_open z)

  digits_fit : (z : ℤ) → key * 128 + digit z < 18446744073709551616
  digits_fit z = omega (arith, h.within, digit_below z, room_below n)

  -- a symbol that is absent
  key_past : (z : ℤ) → z ≡ exponent_in rest symbol → z ≡ pos 0 → IsBegunKey whole n (suc symbol) rest is_open (key * 128 + (if is_open then digit z else 0))
  key_past z e none =
      let absent : exponent_in rest symbol ≡ pos 0 = sym e ∙ none in
      record {
        is = ap (λ (o : Bool). key_from n (suc symbol) (exponent_in rest) o (key * 128 + (if is_open then digit z else 0))) (still_open is_open)
            ∙ ap (λ (x : ℤ). key_from n (suc symbol) (exponent_in rest) (is_open && is_told (digit x)) (key * 128 + (if is_open then digit z else 0))) (sym absent)
            ∙ ap (λ (x : ℤ). key_from n (suc symbol) (exponent_in rest) (is_open && is_told (digit (exponent_in rest symbol))) (key * 128 + (if is_open then digit x else 0))) e
            ∙ key_step n symbol (exponent_in rest) is_open key
            ∙ h.is;
        rises = rise_past symbol rest h.rises h.present absent;
        present = h.present;
        within = next_within z;
        near = let k = h.near in omega arith;
      }

  -- one that is there
  key_behind : (z : ℤ) → z ≡ exponent_in rest symbol → z ≢ pos 0 → IsBegunKey whole n (suc symbol) (drop 1 rest) (is_open && is_told (digit z)) (key * 128 + (if is_open then digit z else 0))
  key_behind z e there = record {
    is = sym (key_agrees n (suc symbol) (exponent_in rest) (exponent_in (drop 1 rest)) (is_open && is_told (digit z)) (key * 128 + (if is_open then digit z else 0)) (agree_behind symbol rest h.rises (λ q. there (e ∙ q))))
        ∙ ap (λ (x : ℤ). key_from n (suc symbol) (exponent_in rest) (is_open && is_told (digit x)) (key * 128 + (if is_open then digit x else 0))) e
        ∙ key_step n symbol (exponent_in rest) is_open key
        ∙ h.is;
    rises = rise_behind symbol rest h.rises;
    present = present_behind rest h.present;
    within = next_within z;
    near = let k = h.near in omega arith;
  }

-- one symbol more
module _ (whole left symbol : ℕ) (rest : List Power) (is_open : Bool) (key : ℕ) (some : 0 < left) (h : IsBegunKey whole left symbol rest is_open key) where
  again : IsBegunKey whole (suc (left - 1)) symbol rest is_open key
  again = let e : left ≡ suc (left - 1) = omega arith in subst (λ (n : ℕ). IsBegunKey whole n symbol rest is_open key) e h

  abbrev z : ℤ
  z = exponent_in rest symbol

  on : suc symbol ≡ symbol + 1
  on = omega arith

  pub next_fits : key * 128 + digit (exponent_in rest symbol) < 18446744073709551616
  next_fits = digits_fit whole (left - 1) symbol rest is_open key again z

  pub next_absent : digit (exponent_in rest symbol) ≡ 64 → IsBegunKey whole (left - 1) (symbol + 1) rest is_open (key * 128 + (if is_open then digit (exponent_in rest symbol) else 0))
  next_absent none =
      subst (λ (s : ℕ). IsBegunKey whole (left - 1) s rest is_open (key * 128 + (if is_open then digit z else 0))) on (key_past whole (left - 1) symbol rest is_open key again z refl (digit_zero z none))

  pub next_there : digit (exponent_in rest symbol) ≢ 64 → IsBegunKey whole (left - 1) (symbol + 1) (drop 1 rest) (is_open && is_told (digit (exponent_in rest symbol))) (key * 128 + (if is_open then digit (exponent_in rest symbol) else 0))
  next_there there =
      subst (λ (s : ℕ). IsBegunKey whole (left - 1) s (drop 1 rest) (is_open && is_told (digit z)) (key * 128 + (if is_open then digit z else 0))) on (key_behind whole (left - 1) symbol rest is_open key again z refl (λ e. there (ap digit e)))

-- nothing is left
pub key_whole : (whole left symbol : ℕ) (rest : List Power) (is_open : Bool) (key : ℕ) → left ≡ 0 → IsBegunKey whole left symbol rest is_open key → key ≡ whole
unfolding key_from
key_whole whole left symbol rest is_open key e h =
    let last : IsBegunKey whole 0 symbol rest is_open key = subst (λ (n : ℕ). IsBegunKey whole n symbol rest is_open key) e h in
    last.is

-- before the first symbol
pub key_begun : (first : ℕ) (t : Term) → first < 4294967296 → RiseFrom first t.symbols → All (λ p. 0 < nat_abs p.exponent) t.symbols → IsBegunKey (key_of first t) 9 first t.symbols true (imaginary_exponent t)
unfolding key_of
key_begun first t small rises present = record { is = refl; rises = rises; present = present; within = one t.others.is_imaginary; near = omega arith }
  where
    one : (b : Bool) → (if b then 1 else 0) < room 9
    one true = omega arith
    one false = omega arith

-- where the first power isn't of a symbol that none is before, none is
pub absent_at : (symbol : ℕ) (rest : List Power) (p : Power) (ps : List Power) → rest ≡ p ∷ ps → RiseFrom symbol rest → p.symbol ≢ symbol → pos 0 ≡ exponent_in rest symbol
absent_at symbol rest p ps e rises other =
    let from : RiseFrom symbol (p ∷ ps) = subst (λ (qs : List Power). RiseFrom symbol qs) e rises in
    let past : symbol < p.symbol = omega (arith, from.0, other) in
    sym (ap (λ (qs : List Power). exponent_in qs symbol) e ∙ absent_before p.symbol (p ∷ ps) symbol (omega arith, from.1) past)
