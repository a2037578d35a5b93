-- Indices that become dummies, one after the other.
use Rattle.std.proofs.Common.{◌≡◌, ℕ, suc, ◌+◌, ◌<◌, ◌≤◌, Bool, true, false, cond, List, [], ◌∷◌, ◌++◌, length, get_or, drop, map, refl, sym, ap, ◌∙◌, arith}
use Rattle.std.specs.List.{fold, list_any}
use Rattle.std.proofs.lemmas.List.{drop_all, drop_more}
use Rattle.std.proofs.lemmas.List.Sums.{fold_push}
use Rattle.form_term.specs.declared.index.Index.{Index}
use Rattle.form_term.specs.declared.index.Index.TheVariants as indices
use Rattle.form_flow.specs.declared.indices.Renaming.{Renaming}
use Rattle.form_flow.specs.Indices.{and_dummy, become, free_dummy, is_declared, is_dummy, least_free, put}

-- ---- folds

-- what is left goes on by the next item
pub fold_next : {S A : Type 0} (f : S → A → S) (s t : S) (xs : List A) (i : ℕ) (x : A) → i < length xs → x ≡ get_or xs i x → t ≡ f s x → fold f s (drop i xs) ≡ fold f t (drop (i + 1) xs)
fold_next f s t xs i x within is e =
    ap (fold f s) (drop_more xs i x within ∙ ap (λ y. y ∷ drop (i + 1) xs) (sym is)) ∙ ap (λ r. fold f r (drop (i + 1) xs)) (sym e)

pub fold_end : {S A : Type 0} (f : S → A → S) (s : S) (xs : List A) (i : ℕ) → length xs ≤ i → fold f s (drop i xs) ≡ s
fold_end f s xs i past = ap (fold f s) (drop_all i xs past)

-- ---- the least number that is free

pub free_here : (k l n : ℕ) (there : List Index) → k ≡ l + 1 → list_any (is_dummy n) there ≡ false → least_free k n there ≡ n
free_here k l n there e none =
    let next : k ≡ suc l = omega arith in
    ap (λ (j : ℕ). least_free j n there) next ∙ ap (λ (b : Bool). cond b (least_free l (suc n) there) n) none

pub free_next : (k l n m : ℕ) (there : List Index) → k ≡ l + 1 → m ≡ n + 1 → list_any (is_dummy n) there ≡ true → least_free k n there ≡ least_free l m there
free_next k l n m there e f some =
    let next : k ≡ suc l = omega arith in
    let number : suc n ≡ m = omega arith in
    ap (λ (j : ℕ). least_free j n there) next ∙ ap (λ (b : Bool). cond b (least_free l (suc n) there) n) some ∙ ap (λ (j : ℕ). least_free l j there) number

pub free_end : (k n : ℕ) (there : List Index) → k ≡ 0 → least_free k n there ≡ n
free_end k n there e = ap (λ (j : ℕ). least_free j n there) e

-- ---- one dummy more

abbrev pub new_dummy : ℕ → List Index → Renaming
new_dummy i there = record { from = i; to = indices.Dummy (free_dummy there) }

module _ (all there : List Index) (rs : List Renaming) (i : ℕ) (is : there ≡ map (become rs) all) where
  either : (b : Bool) → list_any (is_declared i) there ≡ b → and_dummy all rs i ≡ cond b (rs ++ new_dummy i there ∷ []) rs
  either b e = ap (λ (xs : List Index). cond (list_any (is_declared i) xs) (rs ++ new_dummy i xs ∷ []) rs) (sym is) ∙ ap (λ (b : Bool). cond b (rs ++ new_dummy i there ∷ []) rs) e

  pub none_added : list_any (is_declared i) there ≡ false → rs ≡ and_dummy all rs i
  none_added none = sym (either false none)

  pub one_added : (new : List Renaming) → list_any (is_declared i) there ≡ true → new ≡ rs ++ new_dummy i there ∷ [] → new ≡ and_dummy all rs i
  one_added new some e = e ∙ sym (either true some)

pub become_more : (rs : List Renaming) (r : Renaming) (j : Index) → become (rs ++ r ∷ []) j ≡ put r.from r.to (become rs j)
become_more rs r j = fold_push (λ (k : Index) (s : Renaming). put s.from s.to k) j rs r

pub all_more : (rs : List Renaming) (r : Renaming) (all : List Index) → map (put r.from r.to) (map (become rs) all) ≡ map (become (rs ++ r ∷ [])) all
all_more rs r [] = refl
all_more rs r (j ∷ js) =
    let here = sym (become_more rs r j) in
    let rest = all_more rs r js in
    λ i. here i ∷ rest i

pub there_after : (all there list : List Index) (rs new : List Renaming) (r : Renaming) → there ≡ map (become rs) all → list ≡ map (put r.from r.to) there → new ≡ rs ++ r ∷ [] → list ≡ map (become new) all
there_after all there list rs new r is made e =
    made ∙ ap (map (put r.from r.to)) is ∙ all_more rs r all ∙ ap (λ (xs : List Renaming). map (become xs) all) (sym e)

-- at the beginning nothing has become another
pub none_become : (all : List Index) → all ≡ map (become []) all
none_become [] = refl
none_become (j ∷ js) = ap (λ (xs : List Index). j ∷ xs) (none_become js)
