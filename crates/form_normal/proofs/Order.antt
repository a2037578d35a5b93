-- Lists in order.
use Rattle.std.proofs.Common.{◌≡◌, ℕ, suc, ◌+◌, Bool, true, false, cond, List, [], ◌∷◌, ◌++◌, map, length, get_or, refl, ap, sym, ◌∙◌, arith, append-nil, append_assoc, ◌⊎◌, inl, inr}
use Rattle.std.specs.Prelude.{sum}
use Rattle.std.specs.List.{AllByRecursion, filter}
use Rattle.std.specs.Ordering.{is_gt, is_lt, ordering_reverse}
use Rattle.std.specs.Cmp.{IsTotalOrder}
use Rattle.std.specs.declared.cmp.Ordering.{Ordering}
use Rattle.std.specs.declared.cmp.Ordering.TheVariants.{Less, Equal, Greater}
use Rattle.std.proofs.lemmas.Cmp.{upto, tied_itself}
use Rattle.std.proofs.lemmas.Grind.{common_steps}
use Rattle.std.specs.List.Sorted.{IsPermutation, IsSorted}
use Rattle.std.proofs.lemmas.List.Sorted.{IsPermutation-refl, IsPermutation-sym, IsPermutation-cons, IsPermutation-trans, IsPermutation-middle, IsPermutation-map, sum_by-IsPermutation}
use Rattle.form_term.specs.Term.{RisesBy}
use Rattle.form_normal.specs.Lists.{put_in, in_order}

-- what holds of each element, and of what each of them implies
pub all_map : {A : Type 0} (P Q : A → Type 0) → ((x : A) → P x → Q x) → (xs : List A) → AllByRecursion P xs → AllByRecursion Q xs
all_map P Q f [] h = tt
all_map P Q f (x ∷ xs) h = (f x h.0, all_map P Q f xs h.1)

pub all_append : {A : Type 0} (P : A → Type 0) (xs ys : List A) → AllByRecursion P xs → AllByRecursion P ys → AllByRecursion P (xs ++ ys)
all_append P [] ys h k = k
all_append P (x ∷ xs) ys h k = (h.0, all_append P xs ys h.1 k)

pub all_filter : {A : Type 0} (P : A → Type 0) (p : A → Bool) (xs : List A) → AllByRecursion P xs → AllByRecursion P (filter p xs)
all_filter P p [] h = tt
all_filter P p (x ∷ xs) h = step (p x) (all_filter P p xs h.1)
  where
    step : (b : Bool) → AllByRecursion P (filter p xs) → AllByRecursion P (cond b (x ∷ filter p xs) (filter p xs))
    step true rest = (h.0, rest)
    step false rest = rest

pub sum_first : (m : ℕ) (ns : List ℕ) → sum (m ∷ ns) ≡ m + sum ns
sum_first m ns = grind (arith, common_steps)

sums : (m n : ℕ) (ns : List ℕ) → sum (m ∷ n ∷ ns) ≡ m + (n + sum ns)
sums m n ns = grind (arith, common_steps)

module _ {A : Type 0} (cmp : A → A → Ordering) where
  all_put_in : (P : A → Type 0) (x : A) (ys : List A) → P x → AllByRecursion P ys → AllByRecursion P (put_in cmp x ys)
  all_put_in P x [] h k = (h, tt)
  all_put_in P x (y ∷ ys) h k = step (is_gt (cmp x y)) (all_put_in P x ys h k.1)
    where
      step : (b : Bool) → AllByRecursion P (put_in cmp x ys) → AllByRecursion P (cond b (y ∷ put_in cmp x ys) (x ∷ y ∷ ys))
      step true rest = (k.0, rest)
      step false rest = (h, k)

  pub all_in_order : (P : A → Type 0) (xs : List A) → AllByRecursion P xs → AllByRecursion P (in_order cmp xs)
  unfolding in_order
  all_in_order P [] h = tt
  all_in_order P (x ∷ xs) h = all_put_in P x (in_order cmp xs) h.0 (all_in_order P xs h.1)

  -- an element that is above none of these stays before them
  put_first : (x : A) (ys : List A) → AllByRecursion (λ y. is_gt (cmp x y) ≡ false) ys → put_in cmp x ys ≡ x ∷ ys
  put_first x [] h = refl
  put_first x (y ∷ ys) h = rw h.0 refl

  pub take_left : (x : A) (xs : List A) → AllByRecursion (λ y. is_gt (cmp x y) ≡ false) xs → in_order cmp (x ∷ xs) ≡ x ∷ in_order cmp xs
  unfolding in_order
  take_left x xs h = put_first x (in_order cmp xs) (all_in_order (λ y. is_gt (cmp x y) ≡ false) xs h)

  pub take_right : (xs : List A) (y : A) (ys : List A) → AllByRecursion (λ x. is_gt (cmp x y) ≡ true) xs → AllByRecursion (λ z. is_gt (cmp y z) ≡ false) ys → in_order cmp (xs ++ y ∷ ys) ≡ y ∷ in_order cmp (xs ++ ys)
  unfolding in_order
  take_right [] y ys h k = put_first y (in_order cmp ys) (all_in_order (λ z. is_gt (cmp y z) ≡ false) ys k)
  take_right (x ∷ xs) y ys h k =
      let rest = take_right xs y ys h.1 k in
      ap (put_in cmp x) rest ∙ step (is_gt (cmp x y)) h.0
    where
      step : (b : Bool) → b ≡ true → cond b (y ∷ put_in cmp x (in_order cmp (xs ++ ys))) (x ∷ y ∷ in_order cmp (xs ++ ys)) ≡ y ∷ put_in cmp x (in_order cmp (xs ++ ys))
      step true e = refl
      step false e = cc

  -- a list in order stays as it is
  pub in_order_same : (xs : List A) → RisesBy cmp xs → in_order cmp xs ≡ xs
  unfolding in_order
  in_order_same [] h = refl
  in_order_same (x ∷ xs) h = ap (put_in cmp x) (in_order_same xs h.1) ∙ put_first x xs h.0

  -- the sum of a number of each, and the largest one, are those of the list
  pub sum_in_order : (f : A → ℕ) (xs : List A) → sum (map f (in_order cmp xs)) ≡ sum (map f xs)
  unfolding in_order
  sum_in_order f [] = refl
  sum_in_order f (x ∷ xs) = put (in_order cmp xs) ∙ ap (λ n. f x + n) (sum_in_order f xs) ∙ sym (sum_first (f x) (map f xs))
    where
      put : (ys : List A) → sum (map f (put_in cmp x ys)) ≡ f x + sum (map f ys)
      put [] = omega arith
      put (y ∷ ys) = step (is_gt (cmp x y)) (put ys) ∙ ap (λ n. f x + n) (sym (sum_first (f y) (map f ys)))
        where
          rest : sum (map f (put_in cmp x ys)) ≡ f x + sum (map f ys) → f y + sum (map f (put_in cmp x ys)) ≡ f x + (f y + sum (map f ys))
          rest e = omega (arith, e)

          step : (b : Bool) → sum (map f (put_in cmp x ys)) ≡ f x + sum (map f ys) → sum (map f (cond b (y ∷ put_in cmp x ys) (x ∷ y ∷ ys))) ≡ f x + (f y + sum (map f ys))
          step true e = sum_first (f y) (map f (put_in cmp x ys)) ∙ rest e
          step false e = sums (f x) (f y) (map f ys)

  pub length_in_order : (xs : List A) → length (in_order cmp xs) ≡ length xs
  unfolding in_order
  length_in_order [] = refl
  length_in_order (x ∷ xs) = put (in_order cmp xs) ∙ ap (λ (n : ℕ). suc n) (length_in_order xs)
    where
      put : (ys : List A) → length (put_in cmp x ys) ≡ suc (length ys)
      put [] = refl
      put (y ∷ ys) = step (is_gt (cmp x y)) (put ys)
        where
          step : (b : Bool) → length (put_in cmp x ys) ≡ suc (length ys) → length (cond b (y ∷ put_in cmp x ys) (x ∷ y ∷ ys)) ≡ suc (suc (length ys))
          step true e = ap (λ (n : ℕ). suc n) e
          step false e = refl

  -- it has the elements of the list
  pub in_order_permuted : (xs : List A) → IsPermutation xs (in_order cmp xs)
  unfolding in_order
  in_order_permuted [] = IsPermutation-refl []
  in_order_permuted (x ∷ xs) = IsPermutation-trans (x ∷ xs) (x ∷ in_order cmp xs) (put_in cmp x (in_order cmp xs)) (IsPermutation-cons x xs (in_order cmp xs) (in_order_permuted xs)) (put (in_order cmp xs))
    where
      put : (ys : List A) → IsPermutation (x ∷ ys) (put_in cmp x ys)
      put [] = IsPermutation-refl (x ∷ [])
      put (y ∷ ys) = step (is_gt (cmp x y)) (put ys)
        where
          step : (b : Bool) → IsPermutation (x ∷ ys) (put_in cmp x ys) → IsPermutation (x ∷ y ∷ ys) (cond b (y ∷ put_in cmp x ys) (x ∷ y ∷ ys))
          step true rest = IsPermutation-trans (x ∷ y ∷ ys) (y ∷ x ∷ ys) (y ∷ put_in cmp x ys) (IsPermutation-sym (y ∷ x ∷ ys) (x ∷ y ∷ ys) (IsPermutation-middle (y ∷ []) x ys)) (IsPermutation-cons y (x ∷ ys) (put_in cmp x ys) rest)
          step false rest = IsPermutation-refl (x ∷ y ∷ ys)

  module _ (o : IsTotalOrder cmp) where
    -- where one is above another, that one isn't above it
    back : (x y : A) → is_gt (cmp x y) ≡ true → is_gt (cmp y x) ≡ false
    back x y e = step (cmp x y) (o.antisymm y x) e
      where
        step : (r : Ordering) → cmp y x ≡ ordering_reverse r → is_gt r ≡ true → is_gt (cmp y x) ≡ false
        step Less f g = cc
        step Equal f g = cc
        step Greater f g = ap is_gt f

    put_rises : (x : A) (ys : List A) → RisesBy cmp ys → RisesBy cmp (put_in cmp x ys)
    put_rises x [] h = (tt, tt)
    put_rises x (y ∷ ys) h = step (is_gt (cmp x y)) refl (put_rises x ys h.1)
      where
        step : (b : Bool) → is_gt (cmp x y) ≡ b → RisesBy cmp (put_in cmp x ys) → RisesBy cmp (cond b (y ∷ put_in cmp x ys) (x ∷ y ∷ ys))
        step true e rest = (all_put_in (λ z. is_gt (cmp y z) ≡ false) x ys (back x y e) h.0, rest)
        step false e rest = ((e, all_map (λ z. is_gt (cmp y z) ≡ false) (λ z. is_gt (cmp x z) ≡ false) (λ z k. upto o x y z e k) ys h.0), h)

    -- a list in order rises
    pub in_order_rises : (xs : List A) → RisesBy cmp (in_order cmp xs)
    unfolding in_order
    in_order_rises [] = tt
    in_order_rises (x ∷ xs) = put_rises x (in_order cmp xs) (in_order_rises xs)

    -- where an element of the right comes next, each of the left is above it
    pub all_above : (x : A) (xs : List A) (y : A) → AllByRecursion (λ z. is_gt (cmp x z) ≡ false) xs → is_gt (cmp x y) ≡ true → AllByRecursion (λ z. is_gt (cmp z y) ≡ true) xs
    all_above x xs y h e = all_map (λ z. is_gt (cmp x z) ≡ false) (λ z. is_gt (cmp z y) ≡ true) (λ z k. above z k (is_gt (cmp z y)) refl) xs h
      where
        above : (z : A) → is_gt (cmp x z) ≡ false → (b : Bool) → is_gt (cmp z y) ≡ b → is_gt (cmp z y) ≡ true
        above z k true f = f
        above z k false f = let g = upto o x z y k f in cc

    -- where one of the left comes next, it is above none of the right
    pub all_upto : (x y : A) (ys : List A) → is_gt (cmp x y) ≡ false → AllByRecursion (λ z. is_gt (cmp y z) ≡ false) ys → AllByRecursion (λ z. is_gt (cmp x z) ≡ false) (y ∷ ys)
    all_upto x y ys e h = (e, all_map (λ z. is_gt (cmp y z) ≡ false) (λ z. is_gt (cmp x z) ≡ false) (λ z k. upto o x y z e k) ys h)

    -- two elements may be put in the one or the other way round, if one is above the other
    put_two : (x y : A) (zs : List A) → is_gt (cmp x y) ≡ true → put_in cmp y (put_in cmp x zs) ≡ put_in cmp x (put_in cmp y zs)
    put_two x y [] e = rw (back x y e, e) refl
    put_two x y (z ∷ zs) e = step (is_gt (cmp x z)) (is_gt (cmp y z)) refl refl (put_two x y zs e)
      where
        step : (a b : Bool) → is_gt (cmp x z) ≡ a → is_gt (cmp y z) ≡ b → put_in cmp y (put_in cmp x zs) ≡ put_in cmp x (put_in cmp y zs)
            → put_in cmp y (put_in cmp x (z ∷ zs)) ≡ put_in cmp x (put_in cmp y (z ∷ zs))
        step true true f g rest = rw (f, g, f) (ap (λ (ws : List A). z ∷ ws) rest)
        step true false f g rest = rw (f, g, e, f) refl
        step false true f g rest = let h = upto o x z y f (back y z g) in absurd (cc)
        step false false f g rest = rw (f, g, back x y e, e, f) refl

    put_before : (x : A) (zs ys : List A) → in_order cmp (put_in cmp x zs ++ ys) ≡ put_in cmp x (in_order cmp (zs ++ ys))
    unfolding in_order
    put_before x [] ys = refl
    put_before x (z ∷ zs) ys = step (is_gt (cmp x z)) refl (put_before x zs ys)
      where
        step : (b : Bool) → is_gt (cmp x z) ≡ b → in_order cmp (put_in cmp x zs ++ ys) ≡ put_in cmp x (in_order cmp (zs ++ ys))
            → in_order cmp (cond b (z ∷ put_in cmp x zs) (x ∷ z ∷ zs) ++ ys) ≡ put_in cmp x (put_in cmp z (in_order cmp (zs ++ ys)))
        step true f rest = ap (put_in cmp z) rest ∙ put_two x z (in_order cmp (zs ++ ys)) f
        step false f rest = refl

    -- the first of two lists may be put in order before
    pub in_order_again : (xs ys : List A) → in_order cmp (in_order cmp xs ++ ys) ≡ in_order cmp (xs ++ ys)
    unfolding in_order
    in_order_again [] ys = refl
    in_order_again (x ∷ xs) ys = put_before x (in_order cmp xs) ys ∙ ap (put_in cmp x) (in_order_again xs ys)

-- The walk: `out` is made, and what is left of both is `l` before `ls` and `r` before `rs`.
module _ {A : Type 0} (cmp : A → A → Ordering) (o : IsTotalOrder cmp) (whole out : List A) (l : A) (ls : List A) (r : A) (rs : List A)
    (left : RisesBy cmp (l ∷ ls)) (right : RisesBy cmp (r ∷ rs)) (is : out ++ in_order cmp ((l ∷ ls) ++ (r ∷ rs)) ≡ whole) where
  pub walk_right : is_gt (cmp l r) ≡ true → (out ++ r ∷ []) ++ in_order cmp ((l ∷ ls) ++ rs) ≡ whole
  walk_right e =
      let next = take_right cmp (l ∷ ls) r rs (e, all_above cmp o l ls r left.0 e) right.0 in
      append_assoc out (r ∷ []) (in_order cmp ((l ∷ ls) ++ rs)) ∙ ap (λ (xs : List A). out ++ xs) (sym next) ∙ is

  pub walk_left : is_gt (cmp l r) ≡ false → (out ++ l ∷ []) ++ in_order cmp (ls ++ (r ∷ rs)) ≡ whole
  walk_left e =
      let next = take_left cmp l (ls ++ (r ∷ rs)) (all_append (λ y. is_gt (cmp l y) ≡ false) ls (r ∷ rs) left.0 (all_upto cmp o l r rs e right.0)) in
      append_assoc out (l ∷ []) (in_order cmp (ls ++ (r ∷ rs))) ∙ ap (λ (xs : List A). out ++ xs) (sym next) ∙ is

-- where one side is used up, what is made and what is left of the other is the whole
pub walk_ends : {A : Type 0} (cmp : A → A → Ordering) (whole out ls rs : List A) → RisesBy cmp ls → RisesBy cmp rs → out ++ in_order cmp (ls ++ rs) ≡ whole → (ls ≡ []) ⊎ (rs ≡ []) → (out ++ ls) ++ rs ≡ whole
walk_ends {A} cmp whole out ls rs left right is (inl e) = rw (e, append-nil out) (ap (λ (xs : List A). out ++ xs) (sym (in_order_same cmp rs right)) ∙ (rw e at is))
walk_ends {A} cmp whole out ls rs left right is (inr e) = rw (e, append-nil (out ++ ls)) (ap (λ (xs : List A). out ++ xs) (sym (in_order_same cmp ls left)) ∙ (rw (e, append-nil ls) at is))

-- what a list keeps of its order where some elements are left out
pub rises_filter : {A : Type 0} (cmp : A → A → Ordering) (p : A → Bool) (xs : List A) → RisesBy cmp xs → RisesBy cmp (filter p xs)
rises_filter cmp p [] h = tt
rises_filter cmp p (x ∷ xs) h = step (p x) (rises_filter cmp p xs h.1)
  where
    step : (b : Bool) → RisesBy cmp (filter p xs) → RisesBy cmp (cond b (x ∷ filter p xs) (filter p xs))
    step true rest = (all_filter (λ y. is_gt (cmp x y) ≡ false) p xs h.0, rest)
    step false rest = rest

abbrev one_if : Bool → ℕ
one_if true = 1
one_if false = 0

-- Lists that rise and have the same elements are one, where only an element itself compares equal with it.
module _ {A : Type 0} (cmp : A → A → Ordering) (o : IsTotalOrder cmp) (exact : (x y : A) → cmp x y ≡ Equal → x ≡ y) where
  -- 1 for an element that x is above
  abbrev below : A → A → ℕ
  below x z = one_if (is_gt (cmp x z))

  none_below : (x : A) (zs : List A) → AllByRecursion (λ z. is_gt (cmp x z) ≡ false) zs → sum (map (below x) zs) ≡ 0
  none_below x [] h = refl
  none_below x (z ∷ zs) h =
      let here : below x z ≡ 0 = ap one_if h.0 in
      let rest = none_below x zs h.1 in
      let first = sum_first (below x z) (map (below x) zs) in
      omega (arith, here, rest, first)

  first_above : (x y : A) (ys : List A) → sum (map (below x) (y ∷ ys)) ≡ 0 → is_gt (cmp x y) ≡ false
  first_above x y ys h = step (is_gt (cmp x y)) refl (sum_first (below x y) (map (below x) ys))
    where
      step : (b : Bool) → is_gt (cmp x y) ≡ b → sum (below x y ∷ map (below x) ys) ≡ below x y + sum (map (below x) ys) → is_gt (cmp x y) ≡ false
      step false e first = e
      step true e first = let here : below x y ≡ 1 = ap one_if e in absurd (omega (arith, here, first, h))

  tied : (x y : A) → is_gt (cmp x y) ≡ false → is_gt (cmp y x) ≡ false → cmp x y ≡ Equal
  tied x y e f = step (cmp x y) refl (o.antisymm y x) e
    where
      step : (r : Ordering) → cmp x y ≡ r → cmp y x ≡ ordering_reverse r → is_gt r ≡ false → cmp x y ≡ Equal
      step Less g h k = let there : is_gt (cmp y x) ≡ true = ap is_gt h in absurd (cc)
      step Equal g h k = g
      step Greater g h k = absurd (cc)

  same_elements : (xs ys : List A) → RisesBy cmp xs → RisesBy cmp ys → ((f : A → ℕ) → sum (map f xs) ≡ sum (map f ys)) → xs ≡ ys
  same_elements [] [] left right same = refl
  same_elements [] (y ∷ ys) left right same = absurd (omega (arith, same (λ (z : A). 1), sum_first 1 (map (λ (z : A). 1) ys)))
  same_elements (x ∷ xs) [] left right same = absurd (omega (arith, same (λ (z : A). 1), sum_first 1 (map (λ (z : A). 1) xs)))
  same_elements (x ∷ xs) (y ∷ ys) left right same =
      let xs_above = none_below x (x ∷ xs) (ap is_gt (tied_itself o x), left.0) in
      let ys_above = none_below y (y ∷ ys) (ap is_gt (tied_itself o y), right.0) in
      let e = first_above x y ys (sym (same (below x)) ∙ xs_above) in
      let f = first_above y x xs (same (below y) ∙ ys_above) in
      let first = exact x y (tied x y e f) in
      let rest = same_elements xs ys left.1 right.1 (λ g. less g (sum_first (g x) (map g xs)) (sum_first (g y) (map g ys)) (ap g first) (same g)) in
      λ i. first i ∷ rest i
    where
      less : (g : A → ℕ) → sum (g x ∷ map g xs) ≡ g x + sum (map g xs) → sum (g y ∷ map g ys) ≡ g y + sum (map g ys) → g x ≡ g y → sum (g x ∷ map g xs) ≡ sum (g y ∷ map g ys) → sum (map g xs) ≡ sum (map g ys)
      less g a b c d = omega (arith, a, b, c, d)

  not_below : (x y : A) → is_lt (cmp y x) ≡ false → is_gt (cmp x y) ≡ false
  not_below x y e = step (cmp y x) (o.antisymm x y) e
    where
      step : (r : Ordering) → cmp x y ≡ ordering_reverse r → is_lt r ≡ false → is_gt (cmp x y) ≡ false
      step Less g h = absurd (cc)
      step Equal g h = ap is_gt g
      step Greater g h = ap is_gt g

  -- what was sorted rises
  sorted_rises : (xs : List A) → IsSorted cmp xs → RisesBy cmp xs
  sorted_rises [] h = tt
  sorted_rises (x ∷ []) h = (tt, tt)
  sorted_rises (x ∷ y ∷ ys) h =
      let rest = sorted_rises (y ∷ ys) (λ k d low within. next k d (h (k + 1) d (omega arith) (omega (arith, within)))) in
      (all_upto cmp o x y ys (not_below x y (h 0 x (omega arith) (omega arith))) rest.0, rest)
    where
      next : (k : ℕ) (d : A) → is_lt (cmp (get_or (x ∷ y ∷ ys) (k + 1 + 1) d) (get_or (x ∷ y ∷ ys) (k + 1) d)) ≡ false → is_lt (cmp (get_or (y ∷ ys) (k + 1) d) (get_or (y ∷ ys) k d)) ≡ false
      next k d e =
          let one : k + 1 ≡ suc k = omega arith in
          let two : k + 1 + 1 ≡ suc (k + 1) = omega arith in
          let here = ap (λ (n : ℕ). get_or (x ∷ y ∷ ys) n d) one in
          let there = ap (λ (n : ℕ). get_or (x ∷ y ∷ ys) n d) two in
          ap (λ (z : A). is_lt (cmp z (get_or (y ∷ ys) k d))) (sym there) ∙ ap (λ (z : A). is_lt (cmp (get_or (x ∷ y ∷ ys) (k + 1 + 1) d) z)) (sym here) ∙ e

  -- the order in which elements come doesn't matter
  pub in_order_alike : (xs ys : List A) → IsPermutation xs ys → in_order cmp xs ≡ in_order cmp ys
  in_order_alike xs ys moved =
      same_elements (in_order cmp xs) (in_order cmp ys) (in_order_rises cmp o xs) (in_order_rises cmp o ys)
      (λ f. sum_in_order cmp f xs ∙ sym (sum_by-IsPermutation (λ (n : ℕ). n) (map f xs) (map f ys) (IsPermutation-map f xs ys moved)) ∙ sym (sum_in_order cmp f ys))

  -- what was sorted is the list in order
  pub sorted_is : (xs ys : List A) → IsPermutation xs ys → IsSorted cmp ys → ys ≡ in_order cmp xs
  sorted_is xs ys moved sorted = sym (in_order_same cmp ys (sorted_rises ys sorted)) ∙ sym (in_order_alike xs ys moved)
