-- Lists that rise and have the same members are one.
use Rattle.std.proofs.Common.{◌≡◌, zero, suc, ◌+◌, ◌⊎◌, inl, inr, false, List, [], ◌∷◌, get_or, refl, ap, sym, ◌∙◌, subst, arith}
use Rattle.std.specs.Prelude.{Contains}
use Rattle.std.specs.List.{AllByRecursion, IsDistinct}
use Rattle.std.specs.List.Sorted.{IsSortedBy, IsStrictlySortedBy}
use Rattle.std.specs.Cmp.{IsTotalOrder}
use Rattle.std.specs.Ordering.{is_eq, is_lt, eq_by_cmp, ordering_reverse}
use Rattle.std.specs.declared.cmp.Ordering.{Ordering}
use Rattle.std.specs.declared.cmp.Ordering.TheVariants.{Less, Equal, Greater}
use Rattle.std.proofs.lemmas.Cmp.{tied_itself}
use Rattle.std.proofs.lemmas.Map.Keys.{sorted_from_all_adjacent, apart_from_distinct}

module _ {X : Type 0} where
  -- x is an element of a list
  unfoldable pub Member : X → List X → Type 0
  Member x [] = ⊥
  Member x (y ∷ ys) = (y ≡ x) ⊎ Member x ys

  pub member_from : (x : X) (xs : List X) → Contains xs x → Member x xs
  unfolding Member
  member_from x [] (k, within, at) = absurd (omega arith)
  member_from x (y ∷ ys) (zero, within, at) = inl at
  member_from x (y ∷ ys) (suc k, within, at) = inr (member_from x ys (k, omega arith, at))

  pub contains_from : (x : X) (xs : List X) → Member x xs → Contains xs x
  unfolding Member
  contains_from x [] h = absurd h
  contains_from x (y ∷ ys) (inl e) = (0, omega arith, e)
  contains_from x (y ∷ ys) (inr h) = let (k, within, at) = contains_from x ys h in (suc k, omega arith, at)

  module _ {c : X → X → Ordering} (o : IsTotalOrder c) where
    -- what is below all others is below each
    below_each : (x z : X) (ys : List X) → AllByRecursion (λ y. c x y ≡ Less) ys → Member z ys → c x z ≡ Less
    unfolding Member
    below_each x z [] h m = absurd m
    below_each x z (y ∷ ys) h (inl e) = subst (λ (w : X). c x w ≡ Less) e h.0
    below_each x z (y ∷ ys) h (inr m) = below_each x z ys h.1 m

    not_both : (x y : X) → c x y ≡ Less → c y x ≡ Less → ⊥
    not_both x y e f = let g = sym (o.antisymm x y) ∙ e in let h : Greater ≡ Less = sym (ap ordering_reverse f) ∙ g in cc

    not_itself : (x y : X) → y ≡ x → c x y ≡ Less → ⊥
    not_itself x y e f = let g : c x x ≡ Less = subst (λ (w : X). c x w ≡ Less) e f in let h = sym (tied_itself o x) ∙ g in cc

    -- lists that rise and have the same members are one
    pub same_members : (xs ys : List X) → IsStrictlySortedBy c xs → IsStrictlySortedBy c ys → ((z : X) → Member z xs → Member z ys) → ((z : X) → Member z ys → Member z xs) → xs ≡ ys
    unfolding Member IsStrictlySortedBy
    same_members [] [] s t there back = refl
    same_members [] (y ∷ ys) s t there back = absurd (back y (inl refl))
    same_members (x ∷ xs) [] s t there back = absurd (there x (inl refl))
    same_members (x ∷ xs) (y ∷ ys) s t there back =
        let heads = same_heads (there x (inl refl)) (back y (inl refl)) in
        let tails = same_members xs ys s.1 t.1 (λ z m. kept_there heads z m (there z (inr m))) (λ z m. kept_back heads z m (back z (inr m))) in
        λ i. heads i ∷ tails i
      where
        same_heads : (y ≡ x) ⊎ Member x ys → (x ≡ y) ⊎ Member y xs → x ≡ y
        same_heads (inl e) q = sym e
        same_heads (inr m) (inl e) = e
        same_heads (inr m) (inr n) = absurd (not_both x y (below_each x y xs s.0 n) (below_each y x ys t.0 m))

        kept_there : x ≡ y → (z : X) → Member z xs → (y ≡ z) ⊎ Member z ys → Member z ys
        kept_there e z m (inl f) = absurd (not_itself x z (sym (e ∙ f)) (below_each x z xs s.0 m))
        kept_there e z m (inr n) = n

        kept_back : x ≡ y → (z : X) → Member z ys → (x ≡ z) ⊎ Member z xs → Member z xs
        kept_back e z m (inl f) = absurd (not_itself y z (sym (sym e ∙ f)) (below_each y z ys t.0 m))
        kept_back e z m (inr n) = n

    -- a list that was sorted rises, where no two are tied
    pub rises_from_sort : (xs : List X) → IsSortedBy (λ x y. is_lt (c x y)) xs → IsDistinct (eq_by_cmp c) xs → IsStrictlySortedBy c xs
    unfolding IsStrictlySortedBy
    rises_from_sort [] s apart = tt
    rises_from_sort (x ∷ xs) s apart = sorted_from_all_adjacent o (x ∷ xs) x (λ k within. less (get_or (x ∷ xs) k x) (get_or (x ∷ xs) (k + 1) x) (s k x (omega arith) within) (apart_from_distinct (eq_by_cmp c) (x ∷ xs) k (k + 1) x apart (omega arith) within))
      where
        less : (y z : X) → is_lt (c z y) ≡ false → is_eq (c y z) ≡ false → c y z ≡ Less
        less y z up ne = by (c y z) refl
          where
            by : (r : Ordering) → c y z ≡ r → c y z ≡ Less
            by Less e = e
            by Equal e = let f = sym (ap is_eq e) ∙ ne in absurd (cc)
            by Greater e = let g : c z y ≡ Less = o.antisymm z y ∙ ap ordering_reverse e in let f = sym (ap is_lt g) ∙ up in absurd (cc)
