-- What remains of a product.
use Rattle.std.proofs.Common.{◌≡◌, ◌⊎◌, inl, inr, ℕ, ◌+◌, ◌<◌, take, get_or, length, Bool, true, false, not, ◌&&◌, ◌||◌, List, [], ◌∷◌, refl, sym, ap, ◌∙◌}
use Rattle.std.specs.Prelude.{sum_by, if◌then◌else◌, ◌==◌}
use Rattle.std.specs.Str.{bytes_eq}
use Rattle.std.specs.List.{list_any}
use Rattle.std.proofs.lemmas.List.Folds.{list_any_more}
use Rattle.std.proofs.lemmas.Slice.Eq.{bytes_eq-Decides}
use Rattle.std.proofs.Math.Bool.{or_comm, and_comm}
use Rattle.form_ast.specs.declared.weight.Key.{Key}
use Rattle.form_ast.specs.declared.weight.Key.TheVariants.{Alone, Dotted}
use Rattle.form_ast.specs.declared.weight.Weight.{Weight}
use Rattle.form_ast.specs.declared.weight.Weight.TheVariants.{Keyed, Lone, Free}
use Rattle.form_ast.specs.Patterns.{is_same_mark, is_same_name, is_same_key, size_at, is_cancelled, stays}
use Rattle.form_grammar.specs.Balance.{has_same_key, stays_first}

-- what may be joined remains where it isn't cancelled
pub stays_keyed : (ws : List Weight) (w : Weight) (key : Key) (below : Bool) (size : ℕ) (cancelled : Bool) → w ≡ Keyed key below size → cancelled ≡ is_cancelled ws key → not cancelled ≡ stays ws w
stays_keyed ws w key below size cancelled is e = ap not e ∙ ap (stays ws) (sym is)

-- ---- one key in either order

same_mark : (m n : Bool) → is_same_mark m n ≡ true → m ≡ n
same_mark true n h = sym h
same_mark false true h = cc
same_mark false false h = refl

both : (p q : Bool) → (p && q) ≡ true → (p ≡ true) × (q ≡ true)
both true q h = (refl, h)
both false q h = cc

same_name : (a : List ℕ) (m : Bool) (b : List ℕ) (n : Bool) → is_same_name a m b n ≡ true → (a ≡ b) × (m ≡ n)
same_name a m b n h =
    let t = both (bytes_eq a b) (is_same_mark m n) h in
    ((bytes_eq-Decides a b).0 t.0, same_mark m n t.1)

-- a dot product in the other order
abbrev turned : Key → Key
turned (Alone a m) = Alone a m
turned (Dotted a m b n) = Dotted b n a m

crossed : (p q r s : Bool) → ((p && q) || (r && s)) ≡ ((s && r) || (q && p))
crossed p q r s = or_comm (p && q) (r && s) ∙ ap (λ (x : Bool). x || (p && q)) (and_comm r s) ∙ ap (λ (x : Bool). (s && r) || x) (and_comm p q)

turned_alike : (k l : Key) → is_same_key (turned k) l ≡ is_same_key k l
turned_alike (Alone a m) l = refl
turned_alike (Dotted a m b n) (Alone c k) = refl
turned_alike (Dotted a m b n) (Dotted c k d l) = crossed (is_same_name b n c k) (is_same_name a m d l) (is_same_name b n d l) (is_same_name a m c k)

same_key : (k l : Key) → is_same_key k l ≡ true → (k ≡ l) ⊎ (k ≡ turned l)
same_key (Alone a m) (Alone b n) h =
    let same = same_name a m b n h in
    inl (ap (λ (x : List ℕ). Alone x m) same.0 ∙ ap (Alone b) same.1)
same_key (Alone a m) (Dotted c k d l) h = cc
same_key (Dotted a m b n) (Alone c k) h = cc
same_key (Dotted a m b n) (Dotted c k d l) h = by_order (is_same_name a m c k && is_same_name b n d l) refl h where
  dotted : (c : List ℕ) (k : Bool) (d : List ℕ) (l : Bool) → (is_same_name a m c k && is_same_name b n d l) ≡ true → Dotted a m b n ≡ Dotted c k d l
  dotted c k d l e =
      let t = both (is_same_name a m c k) (is_same_name b n d l) e in
      let p = same_name a m c k t.0 in
      let q = same_name b n d l t.1 in
      rw (p.0, p.1, q.0, q.1) refl

  by_order : (x : Bool) → (is_same_name a m c k && is_same_name b n d l) ≡ x → (x || (is_same_name a m d l && is_same_name b n c k)) ≡ true → (Dotted a m b n ≡ Dotted c k d l) ⊎ (Dotted a m b n ≡ Dotted d l c k)
  by_order true e f = inl (dotted c k d l e)
  by_order false e f = inr (dotted d l c k f)

turned_sizes : (k : Key) (below : Bool) (w : Weight) → size_at (turned k) below w ≡ size_at k below w
turned_sizes k below (Keyed other is_below size) = ap (λ (x : Bool). if x && is_same_mark below is_below then size else 0) (turned_alike k other)
turned_sizes k below (Lone size) = refl
turned_sizes k below (Free text) = refl

turned_cancelled : (ws : List Weight) (k : Key) → is_cancelled ws (turned k) ≡ is_cancelled ws k
turned_cancelled ws k = λ j. sum_by (λ w. turned_sizes k false w j) ws == sum_by (λ w. turned_sizes k true w j) ws

same_cancelled : (ws : List Weight) (k l : Key) → (k ≡ l) ⊎ (k ≡ turned l) → is_cancelled ws k ≡ is_cancelled ws l
same_cancelled ws k l (inl e) = ap (is_cancelled ws) e
same_cancelled ws k l (inr e) = ap (is_cancelled ws) e ∙ turned_cancelled ws l

-- factors with one key remain, or none of them does
same_stays : (ws : List Weight) (w v : Weight) → has_same_key w v ≡ true → stays ws w ≡ stays ws v
same_stays ws (Keyed k below size) (Keyed l is_below count) h = ap not (same_cancelled ws k l (same_key k l h))
same_stays ws (Keyed k below size) (Lone count) h = cc
same_stays ws (Keyed k below size) (Free text) h = cc
same_stays ws (Lone size) v h = cc
same_stays ws (Free text) v h = cc

neither : (p q : Bool) → (p || q) ≡ false → (p ≡ false) × (q ≡ false)
neither true q h = cc
neither false q h = (refl, h)

-- where none before it remains, it remains exactly where it is the first of its key to do so
pub first_stays : (ws before : List Weight) (w : Weight) → list_any (stays ws) before ≡ false → stays_first ws before w ≡ stays ws w
first_stays ws [] w none = refl
first_stays ws (v ∷ before) w none =
    let t = neither (stays ws v) (list_any (stays ws) before) none in
    by_key t.0 (first_stays ws before w t.1) (has_same_key w v) refl
  where
    by_key : stays ws v ≡ false → stays_first ws before w ≡ stays ws w → (x : Bool) → has_same_key w v ≡ x → (not (x || list_any (has_same_key w) before) && stays ws w) ≡ stays ws w
    by_key gone rest true e = sym (same_stays ws w v e ∙ gone)
    by_key gone rest false e = rest

-- one more place of the walk, where none remained so far
pub none_stays : (ws : List Weight) (place : ℕ) (w : Weight) → place < length ws → w ≡ get_or ws place w → list_any (stays ws) (take place ws) ≡ false → stays_first ws (take place ws) w ≡ false → list_any (stays ws) (take (place + 1) ws) ≡ false
none_stays ws place w h is none gone =
    list_any_more (stays ws) ws place w h
    ∙ ap (λ (x : Bool). x || stays ws (get_or ws place w)) none
    ∙ ap (stays ws) (sym is)
    ∙ sym (first_stays ws (take place ws) w none) ∙ gone
