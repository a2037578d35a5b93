-- What holds of each element of a list holds of lists that are made of it.
use Rattle.std.proofs.Common.{ℕ, zero, suc, ◌+◌, Bool, true, false, cond, List, [], ◌∷◌, ◌++◌, map, take, drop, Option, Some, None, IfSome}
use Rattle.std.specs.List.{AllByRecursion, filter, flat_map, filter_map, cons_option, enumerate_from}

module _ {A : Type 0} (P : A → Type 0) where
  pub each_append : (xs ys : List A) → AllByRecursion P xs → AllByRecursion P ys → AllByRecursion P (xs ++ ys)
  each_append [] ys h k = k
  each_append (x ∷ xs) ys h k = (h.0, each_append xs ys h.1 k)

  pub in_front : (xs ys : List A) → AllByRecursion P (xs ++ ys) → AllByRecursion P xs
  in_front [] ys h = tt
  in_front (x ∷ xs) ys h = (h.0, in_front xs ys h.1)

  pub at_back : (xs ys : List A) → AllByRecursion P (xs ++ ys) → AllByRecursion P ys
  at_back [] ys h = h
  at_back (x ∷ xs) ys h = at_back xs ys h.1

  pub each_take : (n : ℕ) (xs : List A) → AllByRecursion P xs → AllByRecursion P (take n xs)
  each_take zero xs h = tt
  each_take (suc n) [] h = tt
  each_take (suc n) (x ∷ xs) h = (h.0, each_take n xs h.1)

  pub each_drop : (n : ℕ) (xs : List A) → AllByRecursion P xs → AllByRecursion P (drop n xs)
  each_drop zero xs h = h
  each_drop (suc n) [] h = tt
  each_drop (suc n) (x ∷ xs) h = each_drop n xs h.1

  pub each_filter : (test : A → Bool) (xs : List A) → AllByRecursion P xs → AllByRecursion P (filter test xs)
  each_filter test [] h = tt
  each_filter test (x ∷ xs) h = step (test x) (each_filter test xs h.1)
    where
      step : (b : Bool) → AllByRecursion P (filter test xs) → AllByRecursion P (cond b (x ∷ filter test xs) (filter test xs))
      step true rest = (h.0, rest)
      step false rest = rest

  pub each_numbered : (n : ℕ) (xs : List A) → AllByRecursion P xs → AllByRecursion (λ (e : ℕ × A). P e.1) (enumerate_from n xs)
  each_numbered n [] h = tt
  each_numbered n (x ∷ xs) h = (h.0, each_numbered (n + 1) xs h.1)

  pub each_weaker : (Q : A → Type 0) → ((x : A) → P x → Q x) → (xs : List A) → AllByRecursion P xs → AllByRecursion Q xs
  each_weaker Q f [] h = tt
  each_weaker Q f (x ∷ xs) h = (f x h.0, each_weaker Q f xs h.1)

  -- what holds whatever the element is
  pub each_always : ((x : A) → P x) → (xs : List A) → AllByRecursion P xs
  each_always f [] = tt
  each_always f (x ∷ xs) = (f x, each_always f xs)

module _ {A B : Type 0} (P : A → Type 0) (Q : B → Type 0) where
  pub each_map : (f : A → B) → ((x : A) → P x → Q (f x)) → (xs : List A) → AllByRecursion P xs → AllByRecursion Q (map f xs)
  each_map f g [] h = tt
  each_map f g (x ∷ xs) h = (g x h.0, each_map f g xs h.1)

  pub map_each : (f : A → B) → ((x : A) → Q (f x) → P x) → (xs : List A) → AllByRecursion Q (map f xs) → AllByRecursion P xs
  map_each f g [] h = tt
  map_each f g (x ∷ xs) h = (g x h.0, map_each f g xs h.1)

  pub each_flat : (f : A → List B) → ((x : A) → P x → AllByRecursion Q (f x)) → (xs : List A) → AllByRecursion P xs → AllByRecursion Q (flat_map f xs)
  each_flat f g [] h = tt
  each_flat f g (x ∷ xs) h = each_append Q (f x) (flat_map f xs) (g x h.0) (each_flat f g xs h.1)

  pub flat_each : (f : A → List B) → ((x : A) → AllByRecursion Q (f x) → P x) → (xs : List A) → AllByRecursion Q (flat_map f xs) → AllByRecursion P xs
  flat_each f g [] h = tt
  flat_each f g (x ∷ xs) h = (g x (in_front Q (f x) (flat_map f xs) h), flat_each f g xs (at_back Q (f x) (flat_map f xs) h))

  pub each_filter_map : (f : A → Option B) → ((x : A) → P x → IfSome (f x) Q) → (xs : List A) → AllByRecursion P xs → AllByRecursion Q (filter_map f xs)
  each_filter_map f g [] h = tt
  each_filter_map f g (x ∷ xs) h = kept (f x) (g x h.0) (each_filter_map f g xs h.1)
    where
      kept : (o : Option B) → IfSome o Q → AllByRecursion Q (filter_map f xs) → AllByRecursion Q (cons_option o (filter_map f xs))
      kept None here rest = rest
      kept (Some y) here rest = (here, rest)
