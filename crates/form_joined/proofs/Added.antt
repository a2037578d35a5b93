-- Products that are put one behind the other are those of lists.
use Rattle.std.proofs.Common.{◌≡◌, ℕ, ◌+◌, ◌*◌, ◌<◌, ◌≤◌, List, [], ◌∷◌, ◌++◌, length, map, drop, get_or, append_assoc, append-nil, refl, ap, sym, ◌∙◌}
use Rattle.std.specs.Prelude.{Option, Some, None, Result, Ok, Err}
use Rattle.std.proofs.lemmas.List.{drop_more, drop_all, nil_from_length}
use Rattle.form_base.specs.declared.cause.Cause.{Cause}
use Rattle.form_term.specs.declared.monomial.Monomial.{Monomial}
use Rattle.form_normal.specs.Product.{product_of}
use Rattle.form_frac.specs.Weight.{Weight, of, times}
use Rattle.form_gathered.specs.Joined.{item_of}
use Rattle.form_gathered.specs.declared.joined.JoinedTerm.{JoinedTerm}
use Rattle.form_joined.specs.declared.products.Factor.{Factor}
use Rattle.form_joined.specs.Adding.{joined_of, behind, IsAdded}
use Rattle.form_joined.specs.Products.{append_if, before_product, paired, singles, times_each}
use Rattle.form_joined.proofs.Paired.{some_is}

-- ---- a product

added : (made : Result (Option Monomial) Cause) (weight : Option Weight) (n : ℕ) (rest : Option (List JoinedTerm)) (old new : List JoinedTerm) → IsAdded made weight n old new
    → behind old (before_product made weight n rest) ≡ behind new rest
added (Ok (Some m)) (Some w) n (Some ls) old new e =
    let j : JoinedTerm = record { term = m.term; sum = m.coefficient; weight = w; count = n } in
    sym (ap (λ (l : List JoinedTerm). Some (l ++ ls)) e ∙ ap (λ (l : List JoinedTerm). Some l) (append_assoc old (j ∷ []) ls))
added (Ok (Some m)) (Some w) n None old new e = refl
added (Ok (Some m)) None n rest old new e = absurd e
added (Ok None) w n rest old new e = ap (λ l. behind l rest) (sym e)
added (Err cause) w n rest old new e = absurd e

-- ---- a factor times a list

module _ (j : JoinedTerm) (old new : List JoinedTerm) where
  pub single_added : (list behind_it : List Monomial) (i : ℕ) (m : Monomial) (w : Weight) → i < length list → m ≡ get_or list i m → w ≡ of m.coefficient
      → IsAdded (product_of (item_of j) m) (times j.weight w) (j.count * 1) old new
      → behind old (times_each j (singles (drop i list ++ behind_it))) ≡ behind new (times_each j (singles (drop (i + 1) list ++ behind_it)))
  single_added list behind_it i m w below is weighs h =
      let first : drop i list ≡ m ∷ drop (i + 1) list = drop_more list i m below ∙ ap (λ (x : Monomial). x ∷ drop (i + 1) list) (sym is) in
      ap (λ (ms : List Monomial). behind old (times_each j (singles (ms ++ behind_it)))) first
      ∙ added (product_of (item_of j) m) (times j.weight (of m.coefficient)) (j.count * 1) (times_each j (singles (drop (i + 1) list ++ behind_it))) old new (rw (sym weighs) h)

  pub last_added : (list : List Monomial) (i : ℕ) (m : Monomial) (w : Weight) → length list ≤ i → w ≡ of m.coefficient
      → IsAdded (product_of (item_of j) m) (times j.weight w) (j.count * 1) old new → behind old (times_each j (singles (drop i list ++ m ∷ []))) ≡ Some new
  last_added list i m w above weighs h =
      ap (λ (ms : List Monomial). behind old (times_each j (singles (ms ++ m ∷ [])))) (drop_all i list above)
      ∙ added (product_of (item_of j) m) (times j.weight (of m.coefficient)) (j.count * 1) (Some []) old new (rw (sym weighs) h)
      ∙ ap (λ (l : List JoinedTerm). Some l) (append-nil new)

  pub joined_added : (factors : List Factor) (i : ℕ) (f : Factor) → i < length factors → f ≡ get_or factors i f
      → IsAdded (product_of (item_of j) f.item) (times j.weight f.weight) (j.count * f.count) old new → behind old (times_each j (map joined_of (drop i factors))) ≡ behind new (times_each j (map joined_of (drop (i + 1) factors)))
  joined_added factors i f below is h =
      let first : drop i factors ≡ f ∷ drop (i + 1) factors = drop_more factors i f below ∙ ap (λ (x : Factor). x ∷ drop (i + 1) factors) (sym is) in
      ap (λ (fs : List Factor). behind old (times_each j (map joined_of fs))) first
      ∙ added (product_of (item_of j) f.item) (times j.weight f.weight) (j.count * f.count) (times_each j (map joined_of (drop (i + 1) factors))) old new h

-- ---- each of some factors

pub behind_nothing : (made : Option (List JoinedTerm)) → behind [] made ≡ made
behind_nothing None = refl
behind_nothing (Some js) = refl

further : (old new : List JoinedTerm) (a b : Option (List JoinedTerm)) → behind old a ≡ Some new → behind old (append_if a b) ≡ behind new b
further old new (Some xs) (Some ys) e = ap (λ (l : List JoinedTerm). Some l) (sym (append_assoc old xs ys) ∙ ap (λ (l : List JoinedTerm). l ++ ys) (some_is e))
further old new (Some xs) None e = refl
further old new None b e = absurd cc

pub row_added : (j : JoinedTerm) (fronts rest ks old new : List JoinedTerm) → fronts ≡ j ∷ rest → behind old (times_each j ks) ≡ Some new → behind old (paired fronts ks) ≡ behind new (paired rest ks)
unfolding paired
row_added j fronts rest ks old new is e = ap (λ (js : List JoinedTerm). behind old (paired js ks)) is ∙ further old new (times_each j ks) (paired rest ks) e

pub all_added : (rest ks made : List JoinedTerm) → length rest ≡ 0 → behind made (paired rest ks) ≡ Some made
unfolding paired
all_added rest ks made e = ap (λ (js : List JoinedTerm). behind made (paired js ks)) (nil_from_length rest e) ∙ ap (λ (l : List JoinedTerm). Some l) (append-nil made)

pub one_front : (j : JoinedTerm) (ks old new : List JoinedTerm) → old ≡ [] → behind old (times_each j ks) ≡ Some new → paired (j ∷ []) ks ≡ Some new
one_front j ks old new none e =
    sym (behind_nothing (paired (j ∷ []) ks)) ∙ ap (λ (js : List JoinedTerm). behind js (paired (j ∷ []) ks)) (sym none)
    ∙ row_added j (j ∷ []) [] ks old new refl e ∙ all_added [] ks new refl

pub of_parts : (old new : List JoinedTerm) (front j : JoinedTerm) (list others : List Monomial) (last : Monomial) → j ≡ front → list ≡ others ++ last ∷ []
    → behind old (times_each j (singles (others ++ last ∷ []))) ≡ Some new → behind old (times_each front (singles list)) ≡ Some new
of_parts old new front j list others last e f h =
    sym (ap (λ (k : JoinedTerm). behind old (times_each k (singles list))) e) ∙ ap (λ (ms : List Monomial). behind old (times_each j (singles ms))) f ∙ h
