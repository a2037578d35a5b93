-- Whether nothing is left of a term, element by element.
use Rattle.std.proofs.Common.{◌≡◌, ℕ, zero, suc, ◌+◌, ◌<◌, ◌≤◌, ◌==◌, ◌&&◌, Bool, true, false, not, cond, ℤ, ◌-ℤ◌, List, [], ◌∷◌, length, map, take, drop, get_or, refl, sym, ap, subst, ◌∙◌, arith, lt-ltb, length-append, length-take, length-drop}
use Rattle.std.proofs.lemmas.Int.{ints}
use Rattle.std.proofs.lemmas.Bool.{ne_eqb}
use Rattle.std.specs.Prelude.{nat_abs, nat_lt, filter}
use Rattle.std.specs.List.{list_any, enumerate_from}
use Rattle.std.proofs.lemmas.List.{drop_more, drop_all}
use Rattle.form_term.specs.declared.power.Power.{Power}
use Rattle.form_term.specs.declared.power.DotPower.{DotPower}
use Rattle.form_term.specs.Term.{Term, Call, is_nil}
use Rattle.form_match.specs.declared.uses.Use.{Use}
use Rattle.form_match.specs.declared.uses.Use.TheVariants as uses
use Rattle.form_match.specs.Left.{is_one, left_of, taken, symbol_taken, dot_taken, takes_component, takes_delta, takes_function, untaken, powers_left, dots_left, word_left, without_stretch}
use Rattle.form_match.specs.Whole.{differ, shorter, length_left}
use Rattle.form_match.proofs.Remaining.{dots_from, untaken_from}

equal : (e k : ℤ) → differ e k ≡ false → nat_abs (e -ℤ k) ≡ 0
equal e k h = grind (arith, ints)

unequal : (e k : ℤ) → differ e k ≡ true → 0 < nat_abs (e -ℤ k)
unequal e k h = grind (arith, ints)

is_left : (e k : ℤ) (b : Bool) → b ≡ differ e k → nat_lt 0 (nat_abs (e -ℤ k)) ≡ b
is_left e k true h = lt-ltb 0 (nat_abs (e -ℤ k)) (unequal e k (sym h))
is_left e k false h = ap (λ (n : ℕ). nat_lt 0 n) (equal e k (sym h))

nil_unless : {A : Type 0} (b : Bool) (x : A) (rest : List A) → is_nil (cond b (x ∷ rest) rest) ≡ cond b false (is_nil rest)
nil_unless true x rest = refl
nil_unless false x rest = refl

abbrev lowered : List Use → Power → Power
lowered us p = record { symbol = p.symbol; exponent = p.exponent -ℤ taken (symbol_taken p.symbol) us }

pub powers_here : (us : List Use) (ps : List Power) (i : ℕ) (p : Power) (b : Bool) → i < length ps → p ≡ get_or ps i p
    → b ≡ differ p.exponent (taken (symbol_taken p.symbol) us)
    → is_nil (powers_left us (drop i ps)) ≡ cond b false (is_nil (powers_left us (drop (i + 1) ps)))
powers_here us ps i p b within is test =
    ap (λ (l : List Power). is_nil (powers_left us l)) (drop_more ps i p within ∙ ap (λ (x : Power). x ∷ drop (i + 1) ps) (sym is))
    ∙ nil_unless (nat_lt 0 (nat_abs (p.exponent -ℤ taken (symbol_taken p.symbol) us))) (lowered us p) (powers_left us (drop (i + 1) ps))
    ∙ ap (λ (t : Bool). cond t false (is_nil (powers_left us (drop (i + 1) ps)))) (is_left p.exponent (taken (symbol_taken p.symbol) us) b test)

pub powers_done : (us : List Use) (ps : List Power) (i : ℕ) → length ps ≤ i → is_nil (powers_left us (drop i ps)) ≡ true
powers_done us ps i past = ap (λ (l : List Power). is_nil (powers_left us l)) (drop_all i ps past)

abbrev lowered_dot : List Use → ℕ → DotPower → DotPower
lowered_dot us n d = record { left = d.left; right = d.right; exponent = d.exponent -ℤ taken (dot_taken n) us }

pub dots_here : (us : List Use) (ds : List DotPower) (n i : ℕ) (d : DotPower) (b : Bool) → i < length ds → d ≡ get_or ds i d
    → b ≡ differ d.exponent (taken (dot_taken n) us)
    → is_nil (dots_from n us (drop i ds)) ≡ cond b false (is_nil (dots_from (n + 1) us (drop (i + 1) ds)))
dots_here us ds n i d b within is test =
    ap (λ (l : List DotPower). is_nil (dots_from n us l)) (drop_more ds i d within ∙ ap (λ (x : DotPower). x ∷ drop (i + 1) ds) (sym is))
    ∙ nil_unless (nat_lt 0 (nat_abs (d.exponent -ℤ taken (dot_taken n) us))) (lowered_dot us n d) (dots_from (n + 1) us (drop (i + 1) ds))
    ∙ ap (λ (t : Bool). cond t false (is_nil (dots_from (n + 1) us (drop (i + 1) ds)))) (is_left d.exponent (taken (dot_taken n) us) b test)

pub dots_done : (us : List Use) (ds : List DotPower) (n i : ℕ) → length ds ≤ i → is_nil (dots_from n us (drop i ds)) ≡ true
dots_done us ds n i past = ap (λ (l : List DotPower). is_nil (dots_from n us l)) (drop_all i ds past)

module _ {A : Type 0} (takes : ℕ → Use → Bool) (us : List Use) where
  first_untaken : (n : ℕ) (x : A) (xs : List A) (b : Bool) → b ≡ list_any (takes n) us → is_nil (untaken_from n takes us (x ∷ xs)) ≡ cond b (is_nil (untaken_from (n + 1) takes us xs)) false
  first_untaken n x xs b e =
      by (list_any (takes n) us) (filter (λ (e : ℕ × A). not (list_any (takes e.0) us)) (enumerate_from (n + 1) xs))
      ∙ ap (λ (t : Bool). cond t (is_nil (untaken_from (n + 1) takes us xs)) false) (sym e)
    where
      by : (c : Bool) (rest : List (ℕ × A)) → is_nil (map (λ e. e.1) (cond (not c) ((n, x) ∷ rest) rest)) ≡ cond c (is_nil (map (λ e. e.1) rest)) false
      by true rest = refl
      by false rest = refl

  pub untaken_here : (xs : List A) (n i : ℕ) (b : Bool) → i < length xs → b ≡ list_any (takes n) us
      → is_nil (untaken_from n takes us (drop i xs)) ≡ cond b (is_nil (untaken_from (n + 1) takes us (drop (i + 1) xs))) false
  untaken_here [] n i b within test = absurd (omega (arith, within))
  untaken_here (x ∷ xs) n zero b within test = first_untaken n x xs b test
  untaken_here (x ∷ xs) n (suc i) b within test =
      let same : suc i + 1 ≡ suc (i + 1) = omega arith in
      subst (λ (m : ℕ). is_nil (untaken_from n takes us (drop i xs)) ≡ cond b (is_nil (untaken_from (n + 1) takes us (drop m (x ∷ xs)))) false) (sym same)
      (untaken_here xs n i b (omega (arith, within)) test)

  pub untaken_done : (xs : List A) (n i : ℕ) → length xs ≤ i → is_nil (untaken_from n takes us (drop i xs)) ≡ true
  untaken_done xs n i past = ap (λ (l : List A). is_nil (untaken_from n takes us l)) (drop_all i xs past)

shorter_is : (u : Use) (w : List Call) → length (without_stretch u w) ≡ shorter u (length w)
shorter_is (uses.Symbol s k) w = refl
shorter_is (uses.Dot n k) w = refl
shorter_is (uses.Component n) w = refl
shorter_is (uses.Delta n) w = refl
shorter_is (uses.Function n) w = refl
shorter_is (uses.Stretch start n) w =
    omega (arith, length-append (take start w) (drop (start + n) w), length-take start w, length-drop (start + n) w)

pub word_length : (us : List Use) (w : List Call) → length (word_left us w) ≡ length_left us (length w)
word_length [] w = refl
word_length (u ∷ us) w = word_length us (without_stretch u w) ∙ ap (length_left us) (shorter_is u w)

pub shorter_step : (us : List Use) (l left : ℕ) (i : ℕ) (u : Use) (next : ℕ) → i < length us → u ≡ get_or us i u → next ≡ shorter u left
    → length_left (drop i us) left ≡ length_left us l → length_left (drop (i + 1) us) next ≡ length_left us l
shorter_step us l left i u next within is e before =
    ap (length_left (drop (i + 1) us)) e
    ∙ ap (λ (vs : List Use). length_left vs left) (ap (λ (v : Use). v ∷ drop (i + 1) us) is ∙ sym (drop_more us i u within)) ∙ before

pub shorter_end : (us : List Use) (l left : ℕ) (i : ℕ) → length us ≤ i → length_left (drop i us) left ≡ length_left us l → left ≡ length_left us l
shorter_end us l left i past before = ap (λ (vs : List Use). length_left vs left) (sym (drop_all i us past)) ∙ before

nil_length : {A : Type 0} (xs : List A) → (length xs == 0) ≡ is_nil xs
nil_length [] = refl
nil_length (x ∷ xs) = ne_eqb (length (x ∷ xs)) 0 (λ e. omega (arith, e))

pub word_gone : (us : List Use) (w : List Call) (left : ℕ) → left ≡ length_left us (length w) → (left == 0) ≡ is_nil (word_left us w)
word_gone us w left e = ap (λ (n : ℕ). n == 0) (e ∙ sym (word_length us w)) ∙ nil_length (word_left us w)

not_not : (b : Bool) → not (not b) ≡ b
not_not true = refl
not_not false = refl

turned : (a b : Bool) → a ≡ not b → not a ≡ b
turned a b e = ap not e ∙ not_not b

-- what stays
abbrev pub powers_stay : Term → List Use → Bool
powers_stay t us = not (is_nil (powers_left us t.symbols))

abbrev pub dots_stay : Term → List Use → Bool
dots_stay t us = not (is_nil (dots_left us t.others.dots))

abbrev pub components_stay : Term → List Use → Bool
components_stay t us = not (is_nil (untaken takes_component us t.others.components))

abbrev pub deltas_stay : Term → List Use → Bool
deltas_stay t us = not (is_nil (untaken takes_delta us t.others.deltas))

abbrev pub functions_stay : Term → List Use → Bool
functions_stay t us = not (is_nil (untaken takes_function us t.others.functions))

abbrev pub word_goes : Term → List Use → Bool
word_goes t us = is_nil (word_left us t.others.word)

-- whether nothing is left, by its parts
pub whole_is : (t : Term) (us : List Use) (a b c d e f g : Bool) → a ≡ powers_stay t us → b ≡ t.others.is_imaginary → c ≡ dots_stay t us → d ≡ components_stay t us
    → e ≡ deltas_stay t us → f ≡ functions_stay t us → g ≡ word_goes t us → (not a && (not b && not c && not d && not e && not f && g)) ≡ is_one (left_of t us)
unfolding left_of
whole_is t us a b c d e f g p q r s u v w =
    let p = turned a (is_nil (powers_left us t.symbols)) p in
    let r = turned c (is_nil (dots_left us t.others.dots)) r in
    let s = turned d (is_nil (untaken takes_component us t.others.components)) s in
    let u = turned e (is_nil (untaken takes_delta us t.others.deltas)) u in
    let v = turned f (is_nil (untaken takes_function us t.others.functions)) v in
    λ i. p i && (not (q i) && r i && s i && u i && v i && w i)
