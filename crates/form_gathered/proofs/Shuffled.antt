-- Lists in another order, and what is made of them.
use Rattle.std.proofs.Common.{◌≡◌, ℕ, ◌+◌, ◌-◌, ◌<◌, take, drop, Bool, true, false, cond, List, [], ◌∷◌, ◌++◌, map, length, set, slice_index_or, refl, sym, ap, subst, ◌∙◌, append_assoc, length-append, arith}
use Rattle.std.specs.Prelude.{flat_map, filter}
use Rattle.std.specs.List.{swap, AllByRecursion}
use Rattle.std.specs.List.Sorted.{IsPermutation}
use Rattle.std.proofs.lemmas.Bool.{ltb-true, ltb-false}
use Rattle.std.proofs.lemmas.List.{get_or-drop, get_or-map, map-set, length-map, set-get_or, take-append-drop, drop_more, length-take-le, length-drop, set_at, set_comm, nil_from_length}
use Rattle.std.proofs.lemmas.List.Concat.{flat_map-append}
use Rattle.std.proofs.lemmas.List.Edits.{swap_is}
use Rattle.std.proofs.lemmas.List.Elements.{recursion_from_All, All-from_recursion}
use Rattle.std.proofs.lemmas.List.Sorted.{length_permutation, All-permutation, IsPermutation-trans, IsPermutation-keeps, IsPermutation-refl, IsPermutation-swap, IsPermutation-append, IsPermutation-append_left, IsPermutation-append_right, IsPermutation-append_comm}
use lib.Dec.{ltb}

-- ---- lists side by side

module _ {X : Type 0} where
  pub same_list : (xs ys : List X) → xs ≡ ys → IsPermutation xs ys
  same_list xs ys e = subst (IsPermutation xs) e (IsPermutation-refl xs)

  -- what an empty list is moved to
  pub nothing_moved : (xs : List X) → IsPermutation [] xs → xs ≡ []
  nothing_moved xs p = nil_from_length xs (length_permutation [] xs p)

  -- the first and the last part of three exchanged
  parts_exchanged : (p q r t : List X) → IsPermutation (p ++ (q ++ (r ++ t))) (r ++ (q ++ (p ++ t)))
  parts_exchanged p q r t =
      let one : IsPermutation (p ++ (q ++ r)) ((q ++ r) ++ p) = IsPermutation-append_comm p (q ++ r) in
      let two : IsPermutation ((q ++ r) ++ p) ((r ++ q) ++ p) = IsPermutation-append_left p _ _ (IsPermutation-append_comm q r) in
      let both = IsPermutation-append_left t _ _ (IsPermutation-trans _ _ _ one two) in
      rw (append_assoc p (q ++ r) t, append_assoc q r t) at (rw (append_assoc (r ++ q) p t, append_assoc r q (p ++ t)) at both)

  -- the second part brought to the front
  pub second_first : (a b c : List X) → IsPermutation (a ++ (b ++ c)) (b ++ (a ++ c))
  second_first a b c = rw (append_assoc a b c, append_assoc b a c) at (IsPermutation-append_left c (a ++ b) (b ++ a) (IsPermutation-append_comm a b))

  -- two lists of two parts each
  pub parts_crossed : (a b c d : List X) → IsPermutation ((a ++ b) ++ (c ++ d)) ((a ++ c) ++ (b ++ d))
  parts_crossed a b c d = rw (append_assoc a b (c ++ d), append_assoc a c (b ++ d)) (IsPermutation-append_right a (b ++ (c ++ d)) (c ++ (b ++ d)) (second_first b c d))

  -- what holds of each element holds in another order
  pub all_moved : (P : X → Type 0) (xs ys : List X) → IsPermutation xs ys → AllByRecursion P xs → AllByRecursion P ys
  all_moved P xs ys p h = recursion_from_All P ys (All-permutation P xs ys p (All-from_recursion P xs h))

  pub all_joined : (P : X → Type 0) (xs ys : List X) → AllByRecursion P xs → AllByRecursion P ys → AllByRecursion P (xs ++ ys)
  all_joined P [] ys h k = k
  all_joined P (x ∷ xs) ys h k = (h.0, all_joined P xs ys h.1 k)

  pub all_front : (P : X → Type 0) (xs ys : List X) → AllByRecursion P (xs ++ ys) → AllByRecursion P xs
  all_front P [] ys h = tt
  all_front P (x ∷ xs) ys h = (h.0, all_front P xs ys h.1)

  pub all_back : (P : X → Type 0) (xs ys : List X) → AllByRecursion P (xs ++ ys) → AllByRecursion P ys
  all_back P [] ys h = h
  all_back P (x ∷ xs) ys h = all_back P xs ys h.1

-- ---- lists made of the elements of a list that is moved

length_mapped : {X Y : Type 0} (f : X → Y) (xs : List X) (l : List Y) → map f xs ≡ l → length xs ≡ length l
length_mapped f xs l e = sym (length-map xs f) ∙ ap length e

map_swapped : {X Y : Type 0} (f : X → Y) (xs : List X) (i j : ℕ) (d : X) → i < length xs → j < length xs → map f (swap xs i j) ≡ swap (map f xs) i j
map_swapped f xs i j d a b =
    let long : length (map f xs) ≡ length xs = length-map xs f in
    rw (sym (swap_is xs i j d a b), map-set f (set xs i (slice_index_or xs j d)) j (slice_index_or xs i d), map-set f xs i (slice_index_or xs j d), sym (swap_is (map f xs) i j (f d) (rw long a) (rw long b)), get_or-map f xs j d (f d) b, get_or-map f xs i d (f d) a) refl

-- two elements exchanged, of which the first stood before the second
flat_swapped_up : {X B : Type 0} (f : X → List B) (l : List X) (i j : ℕ) (d : X) → i < j → j < length l → IsPermutation (flat_map f l) (flat_map f (swap l i j))
flat_swapped_up f l i j d a b =
    let x = slice_index_or l i d in
    let y = slice_index_or l j d in
    let front = take i l in
    let r = drop (i + 1) l in
    let long-front : length front ≡ i = length-take-le i l (omega (arith, a, b)) in
    let whole : l ≡ front ++ x ∷ r = sym (rw (sym (drop_more l i d (omega (arith, a, b)))) (take-append-drop i l)) in
    let long-r : length r ≡ length l - (i + 1) = length-drop (i + 1) l in
    let m = take (j - i - 1) r in
    let back = drop (j - i) r in
    let in-r : j - i - 1 < length r = omega (arith, a, b, long-r) in
    let jj : i + 1 + (j - i - 1) ≡ j = omega (arith, a) in
    let at-j : slice_index_or r (j - i - 1) d ≡ y = rw (get_or-drop (i + 1) l (j - i - 1) d, jj) refl in
    let long-m : length m ≡ j - i - 1 = length-take-le (j - i - 1) r (omega (arith, in-r)) in
    let past : j - i - 1 + 1 ≡ j - i = omega (arith, a) in
    let r-is : r ≡ m ++ y ∷ back = sym (rw (drop_more r (j - i - 1) d in-r, at-j, past) at (take-append-drop (j - i - 1) r)) in
    let once : set l i y ≡ (front ++ y ∷ m) ++ y ∷ back =
    ap (λ v. set v i y) whole ∙ set_at front x r y i long-front ∙ ap (λ v. front ++ y ∷ v) r-is ∙ sym (append_assoc front (y ∷ m) (y ∷ back)) in
    let long-y : length (front ++ y ∷ m) ≡ j = omega (arith, length-append front (y ∷ m), long-front, long-m, a) in
    let twice : set (set l i y) j x ≡ (front ++ y ∷ m) ++ x ∷ back =
    ap (λ v. set v j x) once ∙ set_at (front ++ y ∷ m) y back x j long-y in
    let swapped : swap l i j ≡ (front ++ y ∷ m) ++ x ∷ back = sym (swap_is l i j d (omega (arith, a, b)) b) ∙ twice in
    let l-flat : flat_map f l ≡ flat_map f front ++ (f x ++ (flat_map f m ++ (f y ++ flat_map f back))) =
    ap (flat_map f) (whole ∙ ap (λ v. front ++ x ∷ v) r-is) ∙ flat_map-append f front (x ∷ m ++ y ∷ back) ∙ ap (λ v. flat_map f front ++ (f x ++ v)) (flat_map-append f m (y ∷ back)) in
    let s-flat : flat_map f (swap l i j) ≡ flat_map f front ++ (f y ++ (flat_map f m ++ (f x ++ flat_map f back))) =
    ap (flat_map f) swapped ∙ flat_map-append f (front ++ y ∷ m) (x ∷ back) ∙ ap (λ v. v ++ (f x ++ flat_map f back)) (flat_map-append f front (y ∷ m)) ∙ append_assoc (flat_map f front) (f y ++ flat_map f m) (f x ++ flat_map f back) ∙ ap (λ v. flat_map f front ++ v) (append_assoc (f y) (flat_map f m) (f x ++ flat_map f back)) in
    rw (l-flat, s-flat) (IsPermutation-append_right (flat_map f front) _ _ (parts_exchanged (f x) (flat_map f m) (f y) (flat_map f back)))

flat_swapped : {X B : Type 0} (f : X → List B) (l : List X) (i j : ℕ) → i < length l → j < length l → IsPermutation (flat_map f l) (flat_map f (swap l i j))
flat_swapped f [] i j a b = absurd (omega (arith, a))
flat_swapped {X} f (d ∷ ls) i j a b = go (ltb i j) refl
  where
    l : List X
    l = d ∷ ls

    go : (v : Bool) → ltb i j ≡ v → IsPermutation (flat_map f l) (flat_map f (swap l i j))
    go true e = flat_swapped_up f l i j d (ltb-true _ _ e) b
    go false e = go2 (ltb j i) refl
      where
        go2 : (v : Bool) → ltb j i ≡ v → IsPermutation (flat_map f l) (flat_map f (swap l i j))
        go2 true e2 =
            let less = ltb-true _ _ e2 in
            let same : swap l j i ≡ swap l i j = sym (swap_is l j i d b a) ∙ set_comm l j i _ _ (λ z. absurd (omega (arith, z, less))) ∙ swap_is l i j d a b in
            rw (sym same) (flat_swapped_up f l j i d less a)
        go2 false e2 =
            let same : i ≡ j = omega (arith, ltb-false _ _ e, ltb-false _ _ e2) in
            let still : swap l i j ≡ l = rw same (sym (swap_is l j j d b b) ∙ rw (set-get_or l j d) (set-get_or l j d)) in
            rw still (IsPermutation-refl _)

-- lists of which each stands for an element move as the elements do
pub flat_map_moved : {X B : Type 0} (f : X → List B) (xs ys : List X) → IsPermutation xs ys → IsPermutation (flat_map f xs) (flat_map f ys)
flat_map_moved f xs ys p = IsPermutation-keeps xs (λ l. IsPermutation (flat_map f xs) (flat_map f l)) (IsPermutation-refl _) (λ l i j a b h. IsPermutation-trans _ _ _ h (flat_swapped f l i j a b)) ys p

-- what is moved of that which is made of elements is made of elements that are moved
pub lifted : {X Y : Type 0} (f : X → Y) (xs : List X) (ys : List Y) → IsPermutation (map f xs) ys → (zs : List X) × (map f zs ≡ ys) × IsPermutation xs zs
lifted {X} {Y} f xs ys p = IsPermutation-keeps (map f xs) (λ l. (zs : List X) × (map f zs ≡ l) × IsPermutation xs zs) (xs, refl, IsPermutation-refl xs) step ys p
  where
    step : (l : List Y) (i j : ℕ) → i < length l → j < length l → ((zs : List X) × (map f zs ≡ l) × IsPermutation xs zs) → (zs : List X) × (map f zs ≡ swap l i j) × IsPermutation xs zs
    step l i j a b h = go h.0 h.1 h.2
      where
        go : (zs : List X) → map f zs ≡ l → IsPermutation xs zs → (vs : List X) × (map f vs ≡ swap l i j) × IsPermutation xs vs
        go [] e q = absurd (omega (arith, a, ap length (sym e)))
        go (z ∷ zs) e q =
            let long : length (z ∷ zs) ≡ length l = length_mapped f (z ∷ zs) l e in
            (swap (z ∷ zs) i j, map_swapped f (z ∷ zs) i j z (omega (arith, a, long)) (omega (arith, b, long)) ∙ ap (λ v. swap v i j) e, IsPermutation-trans _ _ _ q (IsPermutation-swap _ _ i j (omega (arith, a, long)) (omega (arith, b, long)) refl))

-- two lists for each element
pub flat_map_both : {X B : Type 0} (f g : X → List B) (xs : List X) → IsPermutation (flat_map (λ x. f x ++ g x) xs) (flat_map f xs ++ flat_map g xs)
flat_map_both f g [] = IsPermutation-refl []
flat_map_both f g (x ∷ xs) =
    IsPermutation-trans _ _ _ (IsPermutation-append_right (f x ++ g x) _ _ (flat_map_both f g xs)) (parts_crossed (f x) (g x) (flat_map f xs) (flat_map g xs))

-- lists for each element that are moved
pub flat_map_each : {X B : Type 0} (f g : X → List B) (xs : List X) → AllByRecursion (λ x. IsPermutation (f x) (g x)) xs → IsPermutation (flat_map f xs) (flat_map g xs)
flat_map_each f g [] h = IsPermutation-refl []
flat_map_each f g (x ∷ xs) h = IsPermutation-append (f x) (g x) (flat_map f xs) (flat_map g xs) h.0 (flat_map_each f g xs h.1)

module _ {X : Type 0} (p : X → Bool) where
  abbrev kept : X → List X
  kept x = cond (p x) (x ∷ []) []

  filter_is : (xs : List X) → flat_map kept xs ≡ filter p xs
  filter_is [] = refl
  filter_is (x ∷ xs) = by (p x) ∙ ap (λ l. cond (p x) (x ∷ l) l) (filter_is xs)
    where
      by : (b : Bool) → cond b (x ∷ []) [] ++ flat_map kept xs ≡ cond b (x ∷ flat_map kept xs) (flat_map kept xs)
      by true = refl
      by false = refl

  -- those that pass a test move as all do
  pub filter_moved : (xs ys : List X) → IsPermutation xs ys → IsPermutation (filter p xs) (filter p ys)
  filter_moved xs ys h =
      subst (λ l. IsPermutation l (filter p ys)) (filter_is xs)
      (subst (λ l. IsPermutation (flat_map kept xs) l) (filter_is ys) (flat_map_moved kept xs ys h))
