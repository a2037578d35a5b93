-- Products of dot products.
use Rattle.std.proofs.Common.{◌≡◌, ℕ, suc, ◌<◌, ◌≤◌, ◌⊎◌, inl, inr, Bool, true, false, cond, List, [], ◌∷◌, ◌++◌, length, refl, ap, sym, ◌∙◌, arith, append-nil, append_assoc}
use Rattle.std.specs.Prelude.{ℤ, pos, ◌+ℤ◌, ◌==◌, ◌&&◌, nat_abs, nat_lt, if◌then◌else◌}
use Rattle.std.proofs.lemmas.Int.{ints}
use Rattle.form_term.specs.PowerLaws.{zero_from}
use Rattle.form_term.specs.TermLaws.{both_equal, numbers_equal}
use Rattle.std.specs.List.{AllByRecursion}
use Rattle.std.specs.List.Sorted.{IsStrictlySortedBy}
use Rattle.std.specs.Ordering.{nat_cmp, ordering_then, ordering_reverse, match_ordering}
use Rattle.std.specs.Cmp.{IsTotalOrder, nat_cmp_is}
use Rattle.std.specs.declared.cmp.Ordering.{Ordering}
use Rattle.std.specs.declared.cmp.Ordering.TheVariants.{Less, Equal, Greater}
use Rattle.std.proofs.lemmas.Cmp.{nat_cmp_total, on_total, then_total}
use Rattle.std.proofs.lemmas.Bool.{lt-ltb, ltb-true, eqb-true, eq-eqb}
use Rattle.form_term.specs.declared.power.DotPower.{DotPower}
use Rattle.form_term.specs.Term.{pair_order}
use Rattle.form_normal.specs.Lists.{joined_dots, before_others, times_dot, dots_product, exponent_at}
use Rattle.form_normal.proofs.Order.{all_map, all_append}

pub pairs_total : IsTotalOrder pair_order
pairs_total = then_total (on_total (λ (d : DotPower). d.left) nat_cmp_total) (on_total (λ (d : DotPower). d.right) nat_cmp_total)

-- what holds of the pair of each
module _ (Q : ℕ → ℕ → Type 0) where
  abbrev pub AtPair : DotPower → Type 0
  AtPair d = Q d.left d.right

  all_times : (d : DotPower) (es : List DotPower) → AtPair d → AllByRecursion AtPair es → AllByRecursion AtPair (times_dot d es)
  all_times d [] h k = (h, tt)
  all_times d (e ∷ es) h k = step (pair_order d e) (all_times d es h k.1)
    where
      others : (b : Bool) → AllByRecursion AtPair (cond b (joined_dots d e ∷ es) es)
      others true = (h, k.1)
      others false = k.1

      step : (r : Ordering) → AllByRecursion AtPair (times_dot d es) → AllByRecursion AtPair (match_ordering r (d ∷ e ∷ es) (before_others (joined_dots d e) es) (e ∷ times_dot d es))
      step Less rest = (h, k)
      step Equal rest = others (nat_lt 0 (nat_abs (d.exponent +ℤ e.exponent)))
      step Greater rest = (k.0, rest)

  pub all_dots : (ds : List DotPower) → AllByRecursion AtPair ds → AllByRecursion AtPair (dots_product ds)
  unfolding dots_product
  all_dots [] h = tt
  all_dots (d ∷ ds) h = all_times d (dots_product ds) h.0 (all_dots ds h.1)

-- a pair before those of all these
abbrev pub IsBefore : DotPower → ℕ → ℕ → Type 0
IsBefore d l r = ordering_then (nat_cmp d.left l) (nat_cmp d.right r) ≡ Less

times_first : (d : DotPower) (es : List DotPower) → AllByRecursion (λ e. pair_order d e ≡ Less) es → times_dot d es ≡ d ∷ es
times_first d [] h = refl
times_first d (e ∷ es) h = rw h.0 refl

pub dots_left : (d : DotPower) (ds : List DotPower) → AllByRecursion (λ e. pair_order d e ≡ Less) ds → dots_product (d ∷ ds) ≡ d ∷ dots_product ds
unfolding dots_product
dots_left d ds h = times_first d (dots_product ds) (all_dots (IsBefore d) ds h)

pub dots_right : (xs : List DotPower) (y : DotPower) (ys : List DotPower) → AllByRecursion (λ x. pair_order x y ≡ Greater) xs → AllByRecursion (λ z. pair_order y z ≡ Less) ys → dots_product (xs ++ y ∷ ys) ≡ y ∷ dots_product (xs ++ ys)
unfolding dots_product
dots_right [] y ys h k = times_first y (dots_product ys) (all_dots (IsBefore y) ys k)
dots_right (x ∷ xs) y ys h k = ap (times_dot x) (dots_right xs y ys h.1 k) ∙ step (pair_order x y) h.0
  where
    step : (r : Ordering) → r ≡ Greater → match_ordering r (x ∷ y ∷ dots_product (xs ++ ys)) (before_others (joined_dots x y) (dots_product (xs ++ ys))) (y ∷ times_dot x (dots_product (xs ++ ys))) ≡ y ∷ times_dot x (dots_product (xs ++ ys))
    step Less e = cc
    step Equal e = cc
    step Greater e = refl

-- rising powers stay as they are
pub dots_same : (ds : List DotPower) → IsStrictlySortedBy pair_order ds → dots_product ds ≡ ds
unfolding dots_product IsStrictlySortedBy
dots_same [] h = refl
dots_same (d ∷ ds) h = ap (times_dot d) (dots_same ds h.1) ∙ times_first d ds h.0

-- The walk: `out` is made, and what is left of both is `l` before `ls` and `r` before `rs`.
module _ (whole out : List DotPower) (l : DotPower) (ls : List DotPower) (r : DotPower) (rs : List DotPower)
    (left : AllByRecursion (λ e. pair_order l e ≡ Less) ls) (right : AllByRecursion (λ e. pair_order r e ≡ Less) rs) (is : out ++ dots_product ((l ∷ ls) ++ (r ∷ rs)) ≡ whole) where
  pub dots_walk_left : pair_order l r ≡ Less → (out ++ l ∷ []) ++ dots_product (ls ++ (r ∷ rs)) ≡ whole
  dots_walk_left e =
      let all = all_append (λ z. pair_order l z ≡ Less) ls (r ∷ rs) left (e, all_map (λ z. pair_order r z ≡ Less) (λ z. pair_order l z ≡ Less) (λ z k. pairs_total.trans l r z e k) rs right) in
      append_assoc out (l ∷ []) (dots_product (ls ++ (r ∷ rs))) ∙ ap (λ (xs : List DotPower). out ++ xs) (sym (dots_left l (ls ++ (r ∷ rs)) all)) ∙ is

  -- where the right one comes next, those of the left are above it
  above : (z : DotPower) → pair_order r l ≡ Less → pair_order l z ≡ Less → pair_order z r ≡ Greater
  above z e k = pairs_total.antisymm z r ∙ ap ordering_reverse (pairs_total.trans r l z e k)

  pub dots_walk_right : pair_order l r ≡ Greater → (out ++ r ∷ []) ++ dots_product ((l ∷ ls) ++ rs) ≡ whole
  dots_walk_right e =
      let below : pair_order r l ≡ Less = pairs_total.antisymm r l ∙ ap ordering_reverse e in
      let all : AllByRecursion (λ z. pair_order z r ≡ Greater) (l ∷ ls) = (e, all_map (λ z. pair_order l z ≡ Less) (λ z. pair_order z r ≡ Greater) (λ z k. above z below k) ls left) in
      append_assoc out (r ∷ []) (dots_product ((l ∷ ls) ++ rs)) ∙ ap (λ (xs : List DotPower). out ++ xs) (sym (dots_right (l ∷ ls) r rs all right)) ∙ is

  together : pair_order l r ≡ Equal → dots_product ((l ∷ ls) ++ (r ∷ rs)) ≡ before_others (joined_dots l r) (dots_product (ls ++ rs))
  unfolding dots_product
  together e =
      let all = all_map (λ z. pair_order l z ≡ Less) (λ z. pair_order z r ≡ Greater) (λ z k. pairs_total.antisymm z r ∙ ap ordering_reverse (sym (pairs_total.congr l r z e) ∙ k)) ls left in
      ap (times_dot l) (dots_right ls r rs all right) ∙ step (pair_order l r) e
    where
      step : (o : Ordering) → o ≡ Equal → match_ordering o (l ∷ r ∷ dots_product (ls ++ rs)) (before_others (joined_dots l r) (dots_product (ls ++ rs))) (r ∷ times_dot l (dots_product (ls ++ rs))) ≡ before_others (joined_dots l r) (dots_product (ls ++ rs))
      step Less f = cc
      step Equal f = refl
      step Greater f = cc

  -- powers of one pair, whose exponents don't add up to 0
  pub dots_walk_both : (d : DotPower) → d ≡ joined_dots l r → pair_order l r ≡ Equal → 0 < nat_abs d.exponent → (out ++ d ∷ []) ++ dots_product (ls ++ rs) ≡ whole
  dots_walk_both d same e there =
      let kept : before_others d (dots_product (ls ++ rs)) ≡ d ∷ dots_product (ls ++ rs) = rw (lt-ltb 0 (nat_abs d.exponent) there) refl in
      append_assoc out (d ∷ []) (dots_product (ls ++ rs)) ∙ ap (λ (xs : List DotPower). out ++ xs) (sym kept ∙ ap (λ (x : DotPower). before_others x (dots_product (ls ++ rs))) same ∙ sym (together e)) ∙ is

  -- powers whose exponents add up to 0 vanish
  pub dots_walk_none : pair_order l r ≡ Equal → l.exponent +ℤ r.exponent ≡ pos 0 → out ++ dots_product (ls ++ rs) ≡ whole
  dots_walk_none e none =
      let gone : before_others (joined_dots l r) (dots_product (ls ++ rs)) ≡ dots_product (ls ++ rs) = rw none refl in
      ap (λ (xs : List DotPower). out ++ xs) (sym gone ∙ sym (together e)) ∙ is

-- where one side is used up, what is made and what is left of the other is the whole
pub dots_walk_ends : (whole out ls rs : List DotPower) → IsStrictlySortedBy pair_order ls → IsStrictlySortedBy pair_order rs → out ++ dots_product (ls ++ rs) ≡ whole → (ls ≡ []) ⊎ (rs ≡ []) → (out ++ ls) ++ rs ≡ whole
dots_walk_ends whole out ls rs left right is (inl e) = rw (e, append-nil out) (ap (λ (xs : List DotPower). out ++ xs) (sym (dots_same rs right)) ∙ (rw e at is))
dots_walk_ends whole out ls rs left right is (inr e) = rw (e, append-nil (out ++ ls)) (ap (λ (xs : List DotPower). out ++ xs) (sym (dots_same ls left)) ∙ (rw (e, append-nil ls) at is))

-- the product rises by its pairs
pub dots_rise : (ds : List DotPower) → IsStrictlySortedBy pair_order (dots_product ds)
unfolding dots_product IsStrictlySortedBy
dots_rise [] = tt
dots_rise (d ∷ ds) = put (dots_product ds) (dots_rise ds)
  where
    put : (es : List DotPower) → IsStrictlySortedBy pair_order es → IsStrictlySortedBy pair_order (times_dot d es)
    put [] h = (tt, tt)
    put (e ∷ es) h = step (pair_order d e) refl (put es h.1)
      where
        kept : (b : Bool) → pair_order d e ≡ Equal → IsStrictlySortedBy pair_order (cond b (joined_dots d e ∷ es) es)
        kept true f = (all_map (λ z. pair_order e z ≡ Less) (λ z. pair_order (joined_dots d e) z ≡ Less) (λ z k. pairs_total.congr d e z f ∙ k) es h.0, h.1)
        kept false f = h.1

        step : (o : Ordering) → pair_order d e ≡ o → IsStrictlySortedBy pair_order (times_dot d es) → IsStrictlySortedBy pair_order (match_ordering o (d ∷ e ∷ es) (before_others (joined_dots d e) es) (e ∷ times_dot d es))
        step Less f rest = ((f, all_map (λ z. pair_order e z ≡ Less) (λ z. pair_order d z ≡ Less) (λ z k. pairs_total.trans d e z f k) es h.0), h)
        step Equal f rest = kept (nat_lt 0 (nat_abs (d.exponent +ℤ e.exponent))) f
        step Greater f rest = (all_times (IsBefore e) d es (pairs_total.antisymm e d ∙ ap ordering_reverse f) h.0, rest)

abbrev pub IsThere : DotPower → Type 0
IsThere d = 0 < nat_abs d.exponent

-- no power of exponent 0 stands in it
pub dots_there : (ds : List DotPower) → AllByRecursion IsThere ds → AllByRecursion IsThere (dots_product ds)
unfolding dots_product
dots_there [] h = tt
dots_there (d ∷ ds) h = put (dots_product ds) (dots_there ds h.1)
  where
    put : (es : List DotPower) → AllByRecursion IsThere es → AllByRecursion IsThere (times_dot d es)
    put [] k = (h.0, tt)
    put (e ∷ es) k = step (pair_order d e) (put es k.1)
      where
        kept : (b : Bool) → nat_lt 0 (nat_abs (d.exponent +ℤ e.exponent)) ≡ b → AllByRecursion IsThere (cond b (joined_dots d e ∷ es) es)
        kept true f = (ltb-true 0 (nat_abs (d.exponent +ℤ e.exponent)) f, k.1)
        kept false f = k.1

        step : (o : Ordering) → AllByRecursion IsThere (times_dot d es) → AllByRecursion IsThere (match_ordering o (d ∷ e ∷ es) (before_others (joined_dots d e) es) (e ∷ times_dot d es))
        step Less rest = (h.0, k)
        step Equal rest = kept (nat_lt 0 (nat_abs (d.exponent +ℤ e.exponent))) refl
        step Greater rest = (k.0, rest)

-- it has no more powers
pub dots_length : (ds : List DotPower) → length (dots_product ds) ≤ length ds
unfolding dots_product
dots_length [] = omega arith
dots_length (d ∷ ds) = let rest = dots_length ds in let more = put (dots_product ds) in omega (arith, rest, more)
  where
    put : (es : List DotPower) → length (times_dot d es) ≤ suc (length es)
    put [] = omega arith
    put (e ∷ es) = step (pair_order d e) (put es)
      where
        kept : (b : Bool) → length (cond b (joined_dots d e ∷ es) es) ≤ suc (suc (length es))
        kept true = omega arith
        kept false = omega arith

        step : (o : Ordering) → length (times_dot d es) ≤ suc (length es) → length (match_ordering o (d ∷ e ∷ es) (before_others (joined_dots d e) es) (e ∷ times_dot d es)) ≤ suc (suc (length es))
        step Less rest = omega arith
        step Equal rest = kept (nat_lt 0 (nat_abs (d.exponent +ℤ e.exponent)))
        step Greater rest = omega (arith, rest)

pub swap : (x y z : ℤ) → x +ℤ (y +ℤ z) ≡ y +ℤ (x +ℤ z)
swap x y z = omega (arith, ints)

-- a pair that compares equal is one
pub same_pair : (d e : DotPower) → pair_order d e ≡ Equal → (d.left ≡ e.left) × (d.right ≡ e.right)
same_pair d e h =
    let both = both_equal (nat_cmp d.left e.left) (nat_cmp d.right e.right) h in
    (numbers_equal d.left e.left both.0, numbers_equal d.right e.right both.1)

-- the exponents of two powers of one pair, at a pair
pub added : (b : Bool) (x y z : ℤ) → (if b then x +ℤ y else pos 0) +ℤ z ≡ (if b then x else pos 0) +ℤ ((if b then y else pos 0) +ℤ z)
added true x y z = omega (arith, ints)
added false x y z = omega (arith, ints)

-- the exponents stay where powers are multiplied
pub exponents_kept : (ds : List DotPower) (p q : ℕ) → exponent_at (dots_product ds) p q ≡ exponent_at ds p q
unfolding dots_product
exponents_kept [] p q = refl
exponents_kept (d ∷ ds) p q = put (dots_product ds) ∙ ap (λ (z : ℤ). (if d.left == p && d.right == q then d.exponent else pos 0) +ℤ z) (exponents_kept ds p q)
  where
    put : (es : List DotPower) → exponent_at (times_dot d es) p q ≡ (if d.left == p && d.right == q then d.exponent else pos 0) +ℤ exponent_at es p q
    put [] = refl
    put (e ∷ es) = step (pair_order d e) refl (put es)
      where
        together : pair_order d e ≡ Equal → (if d.left == p && d.right == q then d.exponent +ℤ e.exponent else pos 0) +ℤ exponent_at es p q ≡ (if d.left == p && d.right == q then d.exponent else pos 0) +ℤ ((if e.left == p && e.right == q then e.exponent else pos 0) +ℤ exponent_at es p q)
        together h =
            let same = same_pair d e h in
            rw (same.0, same.1) (added (e.left == p && e.right == q) d.exponent e.exponent (exponent_at es p q))

        gone : (b : Bool) (x z : ℤ) → x ≡ pos 0 → z ≡ (if b then x else pos 0) +ℤ z
        gone true x z f = rw f (omega (arith, ints))
        gone false x z f = omega (arith, ints)

        kept : (b : Bool) → nat_lt 0 (nat_abs (d.exponent +ℤ e.exponent)) ≡ b → pair_order d e ≡ Equal → exponent_at (cond b (joined_dots d e ∷ es) es) p q ≡ (if d.left == p && d.right == q then d.exponent else pos 0) +ℤ ((if e.left == p && e.right == q then e.exponent else pos 0) +ℤ exponent_at es p q)
        kept true f h = together h
        kept false f h = gone (d.left == p && d.right == q) (d.exponent +ℤ e.exponent) (exponent_at es p q) (zero_from (d.exponent +ℤ e.exponent) f) ∙ together h

        step : (o : Ordering) → pair_order d e ≡ o → exponent_at (times_dot d es) p q ≡ (if d.left == p && d.right == q then d.exponent else pos 0) +ℤ exponent_at es p q → exponent_at (match_ordering o (d ∷ e ∷ es) (before_others (joined_dots d e) es) (e ∷ times_dot d es)) p q ≡ (if d.left == p && d.right == q then d.exponent else pos 0) +ℤ ((if e.left == p && e.right == q then e.exponent else pos 0) +ℤ exponent_at es p q)
        step Less h rest = refl
        step Equal h rest = kept (nat_lt 0 (nat_abs (d.exponent +ℤ e.exponent))) refl h
        step Greater h rest = ap (λ (z : ℤ). (if e.left == p && e.right == q then e.exponent else pos 0) +ℤ z) rest ∙ swap (if e.left == p && e.right == q then e.exponent else pos 0) (if d.left == p && d.right == q then d.exponent else pos 0) (exponent_at es p q)

-- Powers that rise by their pairs are told by their exponents.

differ : (m n p q : ℕ) → ordering_then (nat_cmp p m) (nat_cmp q n) ≡ Less → (m == p && n == q) ≡ false
differ m n p q h = step (m == p) (n == q) refl refl
  where
    step : (a b : Bool) → (m == p) ≡ a → (n == q) ≡ b → (m == p && n == q) ≡ false
    step false b e f = rw e refl
    step true false e f = rw (e, f) refl
    step true true e f =
        let left = nat_cmp_is p m Equal (sym (eqb-true m p e)) in
        let right = nat_cmp_is q n Equal (sym (eqb-true n q f)) in
        let tie : ordering_then (nat_cmp p m) (nat_cmp q n) ≡ Equal = ap (λ (o : Ordering). ordering_then o (nat_cmp q n)) (sym left) ∙ sym right in
        let no : Less ≡ Equal = sym h ∙ tie in
        absurd (cc)

-- a pair before those of all these is absent
exponent_absent : (p q : ℕ) (es : List DotPower) → AllByRecursion (λ (e : DotPower). ordering_then (nat_cmp p e.left) (nat_cmp q e.right) ≡ Less) es → exponent_at es p q ≡ pos 0
exponent_absent p q [] h = refl
exponent_absent p q (e ∷ es) h = rw (differ e.left e.right p q h.0, exponent_absent p q es h.1) refl

plus_none : (x : ℤ) → x +ℤ pos 0 ≡ x
plus_none x = omega (arith, ints)

exponent_here : (d : DotPower) (ds : List DotPower) → AllByRecursion (λ e. pair_order d e ≡ Less) ds → exponent_at (d ∷ ds) d.left d.right ≡ d.exponent
exponent_here d ds h = rw (eq-eqb d.left d.left refl, eq-eqb d.right d.right refl, exponent_absent d.left d.right ds h) (plus_none d.exponent)

-- one whose pair is before all of the others can't be missing there
not_missing : (d : DotPower) (ds es : List DotPower) → AllByRecursion (λ e. pair_order d e ≡ Less) ds → IsThere d → AllByRecursion (λ e. pair_order d e ≡ Less) es → exponent_at (d ∷ ds) d.left d.right ≡ exponent_at es d.left d.right → ⊥
not_missing d ds es h there k same =
    let none : d.exponent ≡ pos 0 = sym (exponent_here d ds h) ∙ same ∙ exponent_absent d.left d.right es k in
    absurd (omega (arith, ap nat_abs none, there))

dots_unique : (ds es : List DotPower) → IsStrictlySortedBy pair_order ds → IsStrictlySortedBy pair_order es → AllByRecursion IsThere ds → AllByRecursion IsThere es → ((p q : ℕ) → exponent_at ds p q ≡ exponent_at es p q) → ds ≡ es
unfolding IsStrictlySortedBy
dots_unique [] [] s t h k same = refl
dots_unique [] (e ∷ es) s t h k same = absurd (not_missing e es [] t.0 k.0 tt (sym (same e.left e.right)))
dots_unique (d ∷ ds) [] s t h k same = absurd (not_missing d ds [] s.0 h.0 tt (same d.left d.right))
dots_unique (d ∷ ds) (e ∷ es) s t h k same = step (pair_order d e) refl (λ tails. dots_unique ds es s.1 t.1 h.1 k.1 tails)
  where
    cancel : (x y a b : ℤ) → x +ℤ a ≡ y +ℤ b → x ≡ y → a ≡ b
    cancel x y a b f g = omega (arith, ints)

    step : (o : Ordering) → pair_order d e ≡ o → (((p q : ℕ) → exponent_at ds p q ≡ exponent_at es p q) → ds ≡ es) → d ∷ ds ≡ e ∷ es
    step Less f rest = absurd (not_missing d ds (e ∷ es) s.0 h.0 (f, all_map (λ z. pair_order e z ≡ Less) (λ z. pair_order d z ≡ Less) (λ z g. pairs_total.trans d e z f g) es t.0) (same d.left d.right))
    step Greater f rest =
        let back : pair_order e d ≡ Less = pairs_total.antisymm e d ∙ ap ordering_reverse f in
        absurd (not_missing e es (d ∷ ds) t.0 k.0 (back, all_map (λ z. pair_order d z ≡ Less) (λ z. pair_order e z ≡ Less) (λ z g. pairs_total.trans e d z back g) ds s.0) (sym (same e.left e.right)))
    step Equal f rest =
        let pair = same_pair d e f in
        let first : d.exponent ≡ e.exponent = sym (exponent_here d ds s.0) ∙ same d.left d.right ∙ ap (λ (p : ℕ). exponent_at (e ∷ es) p d.right) pair.0 ∙ ap (λ (q : ℕ). exponent_at (e ∷ es) e.left q) pair.1 ∙ exponent_here e es t.0 in
        let head : d ≡ e = λ i. record { left = pair.0 i; right = pair.1 i; exponent = first i } in
        let tail = rest (λ p q. cancel (if d.left == p && d.right == q then d.exponent else pos 0) (if e.left == p && e.right == q then e.exponent else pos 0) (exponent_at ds p q) (exponent_at es p q) (same p q) (ap (λ (x : DotPower). if x.left == p && x.right == q then x.exponent else pos 0) head)) in
        λ i. head i ∷ tail i

-- powers that stand in one product have its exponents, and others that have them are it
pub dots_from : (ds es : List DotPower) → IsStrictlySortedBy pair_order ds → AllByRecursion IsThere ds → AllByRecursion IsThere es → ((p q : ℕ) → exponent_at ds p q ≡ exponent_at es p q) → ds ≡ dots_product es
dots_from ds es rise h k same = dots_unique ds (dots_product es) rise (dots_rise es) h (dots_there es k) (λ p q. same p q ∙ sym (exponents_kept es p q))

pub exponents_append : (ds es : List DotPower) (p q : ℕ) → exponent_at (ds ++ es) p q ≡ exponent_at ds p q +ℤ exponent_at es p q
exponents_append [] es p q = before (exponent_at es p q)
  where
    before : (x : ℤ) → x ≡ pos 0 +ℤ x
    before x = omega (arith, ints)
exponents_append (d ∷ ds) es p q = group (if d.left == p && d.right == q then d.exponent else pos 0) (exponent_at (ds ++ es) p q) (exponent_at ds p q) (exponent_at es p q) (exponents_append ds es p q)
  where
    group : (x y a b : ℤ) → y ≡ a +ℤ b → x +ℤ y ≡ (x +ℤ a) +ℤ b
    group x y a b e = omega (arith, ints)

-- the order of factors doesn't matter
pub dots_swapped : (ds es : List DotPower) → AllByRecursion IsThere ds → AllByRecursion IsThere es → dots_product (ds ++ es) ≡ dots_product (es ++ ds)
dots_swapped ds es h k =
    dots_from (dots_product (ds ++ es)) (es ++ ds) (dots_rise (ds ++ es)) (dots_there (ds ++ es) (all_append IsThere ds es h k)) (all_append IsThere es ds k h)
    (λ p q. exponents_kept (ds ++ es) p q ∙ exponents_append ds es p q ∙ turn (exponent_at ds p q) (exponent_at es p q) ∙ sym (exponents_append es ds p q))
  where
    turn : (x y : ℤ) → x +ℤ y ≡ y +ℤ x
    turn x y = omega (arith, ints)
