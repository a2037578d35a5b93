-- Lists that are gone through from their end, and changed on the way.
use Rattle.std.proofs.Common.{◌≡◌, ℕ, zero, suc, ◌+◌, ◌<◌, List, [], ◌∷◌, ◌++◌, length, take, drop, get_or, set, refl, sym, ap, subst, ◌∙◌, append_assoc, append-nil, arith}
use Rattle.std.proofs.lemmas.List.{take_more, take-append-drop, length-append, length-take-le, take-set, drop-set}
use Rattle.std.proofs.Math.Seq.{take-append_seam, drop-append_seam, get_or-append_seam, take-length}

module _ {A : Type 0} where
  -- an element written at a place
  pub put_at : (xs : List A) (k : ℕ) (y : A) → k < length xs → set xs k y ≡ take k xs ++ y ∷ drop (k + 1) xs
  put_at xs k y within =
      sym (take-append-drop k (set xs k y)) ∙ (λ i. take-set xs k y i ++ drop-set xs k y within i)

  -- what stands at a place
  pub standing : (xs : List A) (k : ℕ) → k < length xs → (x : A) × (x ≡ get_or xs k x)
  standing [] k within = absurd (omega arith)
  standing (x ∷ xs) zero within = (x, refl)
  standing (x ∷ xs) (suc k) within = standing xs k (omega arith)

  -- nothing is gone through yet
  pub at_back : (xs : List A) (m : ℕ) → m ≡ length xs → xs ≡ take m xs ++ []
  at_back xs m all = sym (append-nil (take m xs) ∙ ap (λ n. take n xs) all ∙ take-length xs)

  module _ (xs left rest : List A) (m k : ℕ) (one : m ≡ k + 1) (within : k < length xs) (is : left ≡ take m xs ++ rest) where
    -- the element that is gone through next
    pub one_back : (d : A) → left ≡ take k xs ++ get_or xs k d ∷ rest
    one_back d = is ∙ ap (λ n. take n xs ++ rest) one ∙ ap (λ l. l ++ rest) (take_more xs k d within) ∙ append_assoc (take k xs) (get_or xs k d ∷ []) rest

    pub lies_within : k < length left
    lies_within = let through : length (take m xs) ≡ m = length-take-le m xs (omega (arith, one, within)) in omega (arith, one, through, ap length is, length-append (take m xs) rest)

    before : length (take k xs) ≡ k
    before = length-take-le k xs (omega (arith, within))

    pub seen : (d : A) → get_or left k d ≡ get_or xs k d
    seen d =
        ap (λ l. get_or l k d) (one_back d)
        ∙ subst (λ n. get_or (take k xs ++ get_or xs k d ∷ rest) n d ≡ get_or xs k d) before (get_or-append_seam (take k xs) (get_or xs k d) rest d)

    behind : drop (k + 1) left ≡ rest
    behind =
        let through : length (take m xs) ≡ k + 1 = length-take-le m xs (omega (arith, one, within)) ∙ one in
        ap (drop (k + 1)) is ∙ subst (λ n. drop n (take m xs ++ rest) ≡ rest) through (drop-append_seam (take m xs) rest)

    front : (d : A) → take k left ≡ take k xs
    front d =
        ap (take k) (one_back d)
        ∙ subst (λ n. take n (take k xs ++ get_or xs k d ∷ rest) ≡ take k xs) before (take-append_seam (take k xs) (get_or xs k d ∷ rest))

    -- it is exchanged for these
    pub exchanged : (mid : List A) (d : A) → take k left ++ (mid ++ drop (k + 1) left) ≡ take k xs ++ (mid ++ rest)
    exchanged mid d = λ i. front d i ++ (mid ++ behind i)
