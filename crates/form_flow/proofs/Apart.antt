-- Indices that become dummies stay apart, and of those that are summed over none is left.
use Rattle.std.proofs.Common.{◌≡◌, ℕ, ◌||◌, Bool, true, false, cond, List, [], ◌∷◌, ◌++◌, map, refl, sym, ap, ◌∙◌, subst, arith, eqb-true}
use Rattle.std.specs.Prelude.{All, Contains, ◌==◌}
use Rattle.std.specs.List.{fold, list_any}
use Rattle.std.proofs.lemmas.Bool.{eqb-false}
use Rattle.std.proofs.lemmas.List.Elements.{All-cons, All-contains, All-nil}
use Rattle.form_term.specs.declared.index.Index.{Index}
use Rattle.form_term.specs.declared.index.Index.TheVariants as indices
use Rattle.form_flow.specs.declared.indices.Renaming.{Renaming}
use Rattle.form_flow.specs.Indices.{and_dummy, become, dummies, free_dummy, is_declared, is_dummy, put}
use Rattle.form_flow.proofs.Dummies.{all_more, become_more, new_dummy, none_added, one_added}
use Rattle.form_flow.proofs.FreeNumbers.{new_is_free}

-- ---- one index that becomes a dummy

neither : (a b : Bool) → (a || b) ≡ false → (a ≡ false) × (b ≡ false)
neither true b e = cc
neither false b e = (refl, e)

same_number : (d : ℕ) → (d == d) ≡ true
same_number d = by (d == d) refl
  where
    by : (b : Bool) → (d == d) ≡ b → (d == d) ≡ true
    by true e = e
    by false e = absurd (omega (arith, eqb-false d d e))

declared_is : (i : ℕ) (j : Index) → is_declared i j ≡ true → j ≡ indices.Declared i
declared_is i (indices.Declared m) e = ap indices.Declared (eqb-true m i e)
declared_is i (indices.Fixed m) e = absurd cc
declared_is i (indices.Dummy m) e = absurd cc

-- two that weren't this dummy are still two
still_two : (i d : ℕ) (a b : Index) → is_dummy d a ≡ false → is_dummy d b ≡ false → put i (indices.Dummy d) a ≡ put i (indices.Dummy d) b → a ≡ b
still_two i d a b first second same = by (is_declared i a) refl (is_declared i b) refl same
  where
    by : (p : Bool) → is_declared i a ≡ p → (q : Bool) → is_declared i b ≡ q → cond p (indices.Dummy d) a ≡ cond q (indices.Dummy d) b → a ≡ b
    by true e true f s = declared_is i a e ∙ sym (declared_is i b f)
    by true e false f s = let never : true ≡ false = sym (same_number d) ∙ ap (is_dummy d) s ∙ second in absurd cc
    by false e true f s = let never : true ≡ false = sym (same_number d) ∙ ap (is_dummy d) (sym s) ∙ first in absurd cc
    by false e false f s = s

still_none : (i j d : ℕ) (x : Index) → is_declared i x ≡ false → is_declared i (put j (indices.Dummy d) x) ≡ false
still_none i j d x e = by (is_declared j x)
  where
    by : (b : Bool) → is_declared i (cond b (indices.Dummy d) x) ≡ false
    by true = refl
    by false = e

then_none : (i d : ℕ) (x : Index) → is_declared i (put i (indices.Dummy d) x) ≡ false
then_none i d x = by (is_declared i x) refl
  where
    by : (b : Bool) → is_declared i x ≡ b → is_declared i (cond b (indices.Dummy d) x) ≡ false
    by true e = refl
    by false e = e

-- ---- lists of indices

each_no : (p : Index → Bool) (f : Index → Index) (xs : List Index) → list_any p (map f xs) ≡ false → All (λ (x : Index). p (f x) ≡ false) xs
each_no p f [] e = All-nil (λ (x : Index). p (f x) ≡ false)
each_no p f (x ∷ xs) e =
    let both = neither (p (f x)) (list_any p (map f xs)) e in
    All-cons (λ (y : Index). p (f y) ≡ false) x xs both.0 (each_no p f xs both.1)

none_then : (p : Index → Bool) (f : Index → Index) (xs : List Index) → ((x : Index) → p (f x) ≡ false) → list_any p (map f xs) ≡ false
none_then p f [] h = refl
none_then p f (x ∷ xs) h = ap (λ (b : Bool). b || list_any p (map f xs)) (h x) ∙ none_then p f xs h

none_still : (p : Index → Bool) (f : Index → Index) (xs : List Index) → ((x : Index) → p x ≡ false → p (f x) ≡ false) → list_any p xs ≡ false → list_any p (map f xs) ≡ false
none_still p f [] h e = refl
none_still p f (x ∷ xs) h e =
    let both = neither (p x) (list_any p xs) e in
    ap (λ (b : Bool). b || list_any p (map f xs)) (h x both.0) ∙ none_still p f xs h both.1

-- ---- one after the other

module _ (all : List Index) where
  abbrev AreApart : List Renaming → Type 0
  AreApart rs = (x y : Index) → Contains all x → Contains all y → become rs x ≡ become rs y → x ≡ y

  with_new : (rs : List Renaming) (i d : ℕ) → AreApart rs → list_any (is_dummy d) (map (become rs) all) ≡ false → AreApart (rs ++ record { from = i; to = indices.Dummy d } ∷ [])
  with_new rs i d h none = λ x y here there same.
      let r : Renaming = record { from = i; to = indices.Dummy d } in
      let each = each_no (is_dummy d) (become rs) all none in
      h x y here there
      (still_two i d (become rs x) (become rs y) (All-contains (λ (z : Index). is_dummy d (become rs z) ≡ false) all x each here) (All-contains (λ (z : Index). is_dummy d (become rs z) ≡ false) all y each there)
      (sym (become_more rs r x) ∙ same ∙ become_more rs r y))

  with_next : (rs : List Renaming) (i : ℕ) → AreApart rs → AreApart (and_dummy all rs i)
  with_next rs i h = by (list_any (is_declared i) (map (become rs) all)) refl
    where
      by : (b : Bool) → list_any (is_declared i) (map (become rs) all) ≡ b → AreApart (and_dummy all rs i)
      by false e = subst AreApart (none_added all (map (become rs) all) rs i refl e) h
      by true e =
          subst AreApart (one_added all (map (become rs) all) rs i refl (rs ++ new_dummy i (map (become rs) all) ∷ []) e refl)
          (with_new rs i (free_dummy (map (become rs) all)) h (new_is_free (map (become rs) all)))

  all_apart : (is : List ℕ) (rs : List Renaming) → AreApart rs → AreApart (fold (and_dummy all) rs is)
  all_apart [] rs h = h
  all_apart (i ∷ is) rs h = all_apart is (and_dummy all rs i) (with_next rs i h)

  pub stay_apart : (is : List ℕ) → AreApart (dummies is all)
  stay_apart is = all_apart is [] (λ x y here there same. same)

  abbrev IsGone : List Renaming → ℕ → Type 0
  IsGone rs i = list_any (is_declared i) (map (become rs) all) ≡ false

  still_gone : (rs : List Renaming) (i j : ℕ) → IsGone rs i → IsGone (and_dummy all rs j) i
  still_gone rs i j h = by (list_any (is_declared j) (map (become rs) all)) refl
    where
      by : (b : Bool) → list_any (is_declared j) (map (become rs) all) ≡ b → IsGone (and_dummy all rs j) i
      by false e = subst (λ (ss : List Renaming). IsGone ss i) (none_added all (map (become rs) all) rs j refl e) h
      by true e =
          let d = free_dummy (map (become rs) all) in
          subst (λ (ss : List Renaming). IsGone ss i) (one_added all (map (become rs) all) rs j refl (rs ++ new_dummy j (map (become rs) all) ∷ []) e refl)
          (subst (λ (xs : List Index). list_any (is_declared i) xs ≡ false) (all_more rs (new_dummy j (map (become rs) all)) all)
          (none_still (is_declared i) (put j (indices.Dummy d)) (map (become rs) all) (still_none i j d) h))

  then_gone : (rs : List Renaming) (i : ℕ) → IsGone (and_dummy all rs i) i
  then_gone rs i = by (list_any (is_declared i) (map (become rs) all)) refl
    where
      by : (b : Bool) → list_any (is_declared i) (map (become rs) all) ≡ b → IsGone (and_dummy all rs i) i
      by false e = subst (λ (ss : List Renaming). IsGone ss i) (none_added all (map (become rs) all) rs i refl e) e
      by true e =
          let d = free_dummy (map (become rs) all) in
          subst (λ (ss : List Renaming). IsGone ss i) (one_added all (map (become rs) all) rs i refl (rs ++ new_dummy i (map (become rs) all) ∷ []) e refl)
          (subst (λ (xs : List Index). list_any (is_declared i) xs ≡ false) (all_more rs (new_dummy i (map (become rs) all)) all)
          (none_then (is_declared i) (put i (indices.Dummy d)) (map (become rs) all) (then_none i d)))

  last_gone : (is : List ℕ) (rs : List Renaming) (i : ℕ) → IsGone rs i → IsGone (fold (and_dummy all) rs is) i
  last_gone [] rs i h = h
  last_gone (j ∷ is) rs i h = last_gone is (and_dummy all rs j) i (still_gone rs i j h)

  all_gone : (is : List ℕ) (rs : List Renaming) → All (IsGone (fold (and_dummy all) rs is)) is
  all_gone [] rs = All-nil (IsGone (fold (and_dummy all) rs []))
  all_gone (i ∷ is) rs =
      All-cons (IsGone (fold (and_dummy all) (and_dummy all rs i) is)) i is (last_gone is (and_dummy all rs i) i (then_gone rs i)) (all_gone is (and_dummy all rs i))

  pub none_left : (is : List ℕ) → All (IsGone (dummies is all)) is
  none_left is = all_gone is []
