-- How much is taken of a thing, where nothing is taken twice: so much as the first use of it takes.
use Rattle.std.proofs.Common.{◌≡◌, ℕ, ◌+◌, ◌<◌, ◌≤◌, ◌==◌, Bool, true, false, not, ◌&&◌, ◌||◌, ℤ, pos, ◌+ℤ◌, List, [], ◌∷◌, Option, Some, None, length, drop, get_or, refl, sym, ap, ◌∙◌, IsTrue, if◌then◌else◌, arith, rules, eqb-true, eq-eqb}
use Rattle.std.proofs.lemmas.Int.{ints}
use Rattle.std.specs.List.{list_any}
use Rattle.std.specs.Option.{unwrap_or}
use Rattle.std.proofs.lemmas.List.{drop_more, drop_all}
use Rattle.form_match.specs.declared.uses.Use.{Use}
use Rattle.form_match.specs.declared.uses.Use.TheVariants as uses
use Rattle.form_match.specs.Left.{taken, symbol_taken, dot_taken}
use Rattle.form_match.specs.Matching.{are_apart, clashes}
use Rattle.form_match.specs.Taken.{first_part, symbol_part, dot_part}

pub apart_is : {b : Bool} → IsTrue b → b ≡ true
apart_is h = search rules

pub both_true : (a b : Bool) → (a && b) ≡ true → (a ≡ true) × (b ≡ true)
both_true true true e = (refl, refl)
both_true true false e = cc
both_true false b e = cc

pub both_false : (a b : Bool) → (a || b) ≡ false → (a ≡ false) × (b ≡ false)
both_false false false e = (refl, refl)
both_false false true e = cc
both_false true b e = cc

pub not_true : (a : Bool) → not a ≡ true → a ≡ false
not_true false e = refl
not_true true e = cc

zero_left : (z : ℤ) → pos 0 +ℤ z ≡ z
zero_left z = omega (arith, ints)

zero_right : (z : ℤ) → z +ℤ pos 0 ≡ z
zero_right z = omega (arith, ints)

module _ (weight : Use → ℤ) (part : Use → Option ℤ) (same : (u : Use) → weight u ≡ unwrap_or (part u) (pos 0))
    (clash : (u v : Use) (k l : ℤ) → part u ≡ Some k → part v ≡ Some l → clashes u v ≡ true) where
  none_taken : (u : Use) (k : ℤ) (us : List Use) → part u ≡ Some k → list_any (clashes u) us ≡ false → taken weight us ≡ pos 0
  none_taken u k [] is none = refl
  none_taken u k (v ∷ us) is none = by (part v) refl (none_taken u k us is (both_false (clashes u v) (list_any (clashes u) us) none).1)
    where
      by : (o : Option ℤ) → part v ≡ o → taken weight us ≡ pos 0 → weight v +ℤ taken weight us ≡ pos 0
      by None e rest =
          ap (λ (x : ℤ). x +ℤ taken weight us) (same v ∙ ap (λ (o : Option ℤ). unwrap_or o (pos 0)) e) ∙ ap (λ (x : ℤ). pos 0 +ℤ x) rest
      by (Some l) e rest =
          let yes = clash u v k l is e in
          let no_clash = (both_false (clashes u v) (list_any (clashes u) us) none).0 in
          cc

  pub first_taken : (us : List Use) → are_apart us ≡ true → taken weight us ≡ first_part part us
  first_taken [] apart = refl
  first_taken (u ∷ us) apart =
      let parts = both_true (not (list_any (clashes u) us)) (are_apart us) apart in
      by (part u) refl (first_taken us parts.1) (not_true (list_any (clashes u) us) parts.0)
    where
      by : (o : Option ℤ) → part u ≡ o → taken weight us ≡ first_part part us → list_any (clashes u) us ≡ false → weight u +ℤ taken weight us ≡ unwrap_or (part u) (first_part part us)
      by None e rest none =
          ap (λ (x : ℤ). x +ℤ taken weight us) (same u ∙ ap (λ (o : Option ℤ). unwrap_or o (pos 0)) e)
          ∙ zero_left (taken weight us) ∙ rest ∙ ap (λ (o : Option ℤ). unwrap_or o (first_part part us)) (sym e)
      by (Some k) e rest none =
          ap (λ (x : ℤ). x +ℤ taken weight us) (same u ∙ ap (λ (o : Option ℤ). unwrap_or o (pos 0)) e)
          ∙ ap (λ (x : ℤ). k +ℤ x) (none_taken u k us e none) ∙ zero_right k ∙ ap (λ (o : Option ℤ). unwrap_or o (first_part part us)) (sym e)

-- ---- symbols and dot products

part_same : (b : Bool) (k : ℤ) → (if b then k else pos 0) ≡ unwrap_or (if b then Some k else None) (pos 0)
part_same true k = refl
part_same false k = refl

symbol_same : (s : ℕ) (u : Use) → symbol_taken s u ≡ unwrap_or (symbol_part s u) (pos 0)
symbol_same s (uses.Symbol t k) = part_same (s == t) k
symbol_same s (uses.Dot m k) = refl
symbol_same s (uses.Component m) = refl
symbol_same s (uses.Delta m) = refl
symbol_same s (uses.Function m) = refl
symbol_same s (uses.Stretch start n) = refl

dot_same : (m : ℕ) (u : Use) → dot_taken m u ≡ unwrap_or (dot_part m u) (pos 0)
dot_same m (uses.Dot n k) = part_same (m == n) k
dot_same m (uses.Symbol t k) = refl
dot_same m (uses.Component n) = refl
dot_same m (uses.Delta n) = refl
dot_same m (uses.Function n) = refl
dot_same m (uses.Stretch start n) = refl

part_is : (b : Bool) (k l : ℤ) → (if b then Some k else None) ≡ Some l → b ≡ true
part_is true k l e = refl
part_is false k l e = cc

meet : (s a b : ℕ) → (s == a) ≡ true → (s == b) ≡ true → (a == b) ≡ true
meet s a b x y = eq-eqb a b (sym (eqb-true s a x) ∙ eqb-true s b y)

symbol_clash : (s : ℕ) (u v : Use) (k l : ℤ) → symbol_part s u ≡ Some k → symbol_part s v ≡ Some l → clashes u v ≡ true
symbol_clash s (uses.Symbol a x) (uses.Symbol b y) k l e f = meet s a b (part_is (s == a) x k e) (part_is (s == b) y l f)
symbol_clash s u v k l e f = cc

dot_clash : (m : ℕ) (u v : Use) (k l : ℤ) → dot_part m u ≡ Some k → dot_part m v ≡ Some l → clashes u v ≡ true
dot_clash m (uses.Dot a x) (uses.Dot b y) k l e f = meet m a b (part_is (m == a) x k e) (part_is (m == b) y l f)
dot_clash m u v k l e f = cc

pub symbol_first : (s : ℕ) (us : List Use) → are_apart us ≡ true → taken (symbol_taken s) us ≡ first_part (symbol_part s) us
symbol_first s = first_taken (symbol_taken s) (symbol_part s) (symbol_same s) (symbol_clash s)

pub dot_first : (m : ℕ) (us : List Use) → are_apart us ≡ true → taken (dot_taken m) us ≡ first_part (dot_part m) us
dot_first m = first_taken (dot_taken m) (dot_part m) (dot_same m) (dot_clash m)

-- ---- looking for the first one

module _ (part : Use → Option ℤ) (us : List Use) (i : ℕ) where
  pub looked_at : (u : Use) (o : Option ℤ) → i < length us → u ≡ get_or us i u → o ≡ part u → first_part part (drop i us) ≡ unwrap_or o (first_part part (drop (i + 1) us))
  looked_at u o within is e =
      ap (first_part part) (drop_more us i u within ∙ ap (λ (x : Use). x ∷ drop (i + 1) us) (sym is))
      ∙ ap (λ (p : Option ℤ). unwrap_or p (first_part part (drop (i + 1) us))) (sym e)

  pub looked_through : length us ≤ i → first_part part (drop i us) ≡ pos 0
  looked_through past = ap (first_part part) (drop_all i us past)
