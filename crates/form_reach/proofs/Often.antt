-- Lists of products in a row: from the left, and behind the power of one list.
use Rattle.std.proofs.Common.{◌≡◌, ℕ, zero, suc, List, [], ◌∷◌, ◌++◌, append-nil, refl, ap, sym, subst, ◌∙◌}
use Rattle.std.specs.Prelude.{All, Option, Some, None, Result, Ok, Err}
use Rattle.std.specs.List.{AllByRecursion, flat_map}
use Rattle.std.proofs.lemmas.Grind.{flat_map-append}
use Rattle.std.proofs.lemmas.List.Elements.{All-from_recursion}
use Rattle.form_base.specs.declared.cause.Cause.{Cause}
use Rattle.form_term.specs.declared.monomial.Monomial.{Monomial}
use Rattle.form_normal.specs.Factors.{AreEachLawful}
use Rattle.form_normal.specs.Product.{product_of}
use Rattle.form_normal.proofs.Alone.{each_lawful, product_is_term}
use Rattle.form_normal.proofs.Order.{all_append}
use Rattle.form_reach.specs.declared.reach.Reach.{Reach}
use Rattle.form_reach.specs.Reach.{IsInLimits, IsWithin, IsMadeWithin, StaysWithin, both}
use Rattle.form_reach.specs.Rows.{term_made, IsFine, made_with, IsFineWith, crossed, AreFine, crossed_often, AreFineOften, IsLawful, IsRight}
use Rattle.form_reach.proofs.InARow.{associative, zero_first, never_zero, y_plain}
use Rattle.form_reach.proofs.Within.{product_within}

-- ---- what holds of each

module _ {A : Type 0} (P : A → Type 0) where
  all_before : (xs ys : List A) → AllByRecursion P (xs ++ ys) → AllByRecursion P xs
  all_before [] ys h = tt
  all_before (x ∷ xs) ys h = (h.0, all_before xs ys h.1)

  all_behind : (xs ys : List A) → AllByRecursion P (xs ++ ys) → AllByRecursion P ys
  all_behind [] ys h = h
  all_behind (x ∷ xs) ys h = all_behind xs ys h.1

  pub all_each : {B : Type 0} (Q : B → Type 0) (f : B → List A) → ((x : B) → Q x → AllByRecursion P (f x)) → (xs : List B) → AllByRecursion Q xs → AllByRecursion P (flat_map f xs)
  all_each Q f h [] all = tt
  all_each Q f h (x ∷ xs) all = all_append P (f x) (flat_map f xs) (h x all.0) (all_each Q f h xs all.1)

-- ---- one factor, another one, and each of a list

abbrev IsRow : Monomial → List Monomial → List Monomial → Type 0
IsRow m ys made = IsFineWith ys m × (made_with ys m ≡ made)

row_append : (m : Monomial) (xs ys made more : List Monomial) → IsRow m xs made → IsRow m ys more → IsRow m (xs ++ ys) (made ++ more)
row_append m xs ys made more g h = (
  all_append (λ y. IsFine (product_of m y)) xs ys g.0 h.0,
  flat_map-append (λ y. term_made (product_of m y)) xs ys ∙ ap (λ zs. zs ++ made_with ys m) g.1 ∙ ap (λ zs. made ++ zs) h.1,
)

module _ (m b : Monomial) (left : IsLawful m) (middle : IsRight b) where
  -- the first two have a product
  module _ (x : Monomial) (first : product_of m b ≡ Ok (Some x)) where
    row_one : (s : Monomial) → IsRight s → IsFine (product_of x s) → (r : Result (Option Monomial) Cause) → product_of b s ≡ r → IsFine r → IsRow m (term_made r) (term_made (product_of x s))
    row_one s right fine (Ok (Some y)) e f =
        let same : product_of x s ≡ product_of m y = associative m b s left middle right y e x first in
        ((subst IsFine same fine, tt), append-nil (term_made (product_of m y)) ∙ ap term_made (sym same))
    row_one s right fine (Ok None) e f = absurd (never_zero b s middle right e)
    row_one s right fine (Err cause) e f = absurd f

    row_made : (l : List Monomial) → AllByRecursion IsRight l → IsFineWith l b → IsFineWith l x → IsRow m (made_with l b) (made_with l x)
    row_made [] right f g = (tt, refl)
    row_made (s ∷ l) right f g =
        row_append m (term_made (product_of b s)) (made_with l b) (term_made (product_of x s)) (made_with l x) (row_one s right.0 g.0 (product_of b s) refl f.0) (row_made l right.1 f.1 g.1)

  -- their product is 0
  module _ (none : product_of m b ≡ Ok None) where
    zero_one : (s : Monomial) → IsRight s → (r : Result (Option Monomial) Cause) → product_of b s ≡ r → IsRow m (term_made r) []
    zero_one s right (Ok (Some y)) e = let same : product_of m y ≡ Ok None = zero_first m b s left middle right y e none in rw same ((tt, tt), refl)
    zero_one s right (Ok None) e = (tt, refl)
    zero_one s right (Err cause) e = (tt, refl)

    zero_made : (l : List Monomial) → AllByRecursion IsRight l → IsRow m (made_with l b) []
    zero_made [] right = (tt, refl)
    zero_made (s ∷ l) right = row_append m (term_made (product_of b s)) (made_with l b) [] [] (zero_one s right.0 (product_of b s) refl) (zero_made l right.1)

  row_of_two : (l : List Monomial) → AllByRecursion IsRight l → IsFineWith l b → (r : Result (Option Monomial) Cause) → product_of m b ≡ r → IsFine r → AreFine (term_made r) l → IsRow m (made_with l b) (crossed (term_made r) l)
  row_of_two l right f (Ok (Some x)) e g h = let row = row_made x e l right f h.0 in (row.0, row.1 ∙ sym (append-nil (made_with l x)))
  row_of_two l right f (Ok None) e g h = zero_made e l right
  row_of_two l right f (Err cause) e g h = absurd g

-- ---- lists

module _ (l : List Monomial) (right : AllByRecursion IsRight l) where
  row_of_list : (m : Monomial) → IsLawful m → (bs : List Monomial) → AllByRecursion IsRight bs → IsFineWith bs m → AreFine bs l → AreFine (made_with bs m) l
      → IsRow m (crossed bs l) (crossed (made_with bs m) l)
  row_of_list m left [] middle f g h = (tt, refl)
  row_of_list m left (b ∷ bs) middle f g h =
      let first = term_made (product_of m b) in
      let others = made_with bs m in
      let row = row_append m (made_with l b) (crossed bs l) (crossed first l) (crossed others l)
      (row_of_two m b left middle.0 l right g.0 (product_of m b) refl f.0 (all_before (IsFineWith l) first others h))
      (row_of_list m left bs middle.1 f.1 g.1 (all_behind (IsFineWith l) first others h)) in
      (row.0, row.1 ∙ sym (flat_map-append (made_with l) first others))

  -- three lists, from the left and from the right
  lists_in_a_row : (ms bs : List Monomial) → AllByRecursion IsLawful ms → AllByRecursion IsRight bs → AreFine ms bs → AreFine bs l → AreFine (crossed ms bs) l
      → AreFine ms (crossed bs l) × (crossed ms (crossed bs l) ≡ crossed (crossed ms bs) l)
  lists_in_a_row [] bs left middle f g h = (tt, refl)
  lists_in_a_row (m ∷ ms) bs left middle f g h =
      let first = made_with bs m in
      let row = row_of_list m left.0 bs middle f.0 g (all_before (IsFineWith l) first (crossed ms bs) h) in
      let rest = lists_in_a_row ms bs left.1 middle f.1 g (all_behind (IsFineWith l) first (crossed ms bs) h) in (
        (row.0, rest.0),
        ap (λ xs. xs ++ crossed ms (crossed bs l)) row.1 ∙ ap (λ xs. crossed first l ++ xs) rest.1 ∙ sym (flat_map-append (made_with l) first (crossed ms bs)),
      )

  -- products of such factors are such factors
  right_product : (b s : Monomial) → IsRight b → IsRight s → (r : Result (Option Monomial) Cause) → product_of b s ≡ r → AllByRecursion IsRight (term_made r)
  right_product b s g h (Ok (Some y)) e =
      let lawful : AllByRecursion (λ (x : Monomial). AreEachLawful x.term.others) (b ∷ s ∷ []) = (each_lawful b.term g.lawful, (each_lawful s.term h.lawful, tt)) in
      (record { lawful = product_is_term (b ∷ s ∷ []) y (All-from_recursion (λ (x : Monomial). AreEachLawful x.term.others) (b ∷ s ∷ []) lawful) e; plain = y_plain b b s g.lawful g h y e }, tt)
  right_product b s g h (Ok None) e = tt
  right_product b s g h (Err cause) e = tt

  right_products : (bs : List Monomial) → AllByRecursion IsRight bs → AllByRecursion IsRight (crossed bs l)
  right_products bs middle =
      all_each IsRight IsRight (made_with l) (λ b g. all_each IsRight IsRight (λ s. term_made (product_of b s)) (λ s h. right_product b s g h (product_of b s) refl) l right) bs middle

  -- Factors, then others, and a list so many times behind them: it may stand behind the others first.
  pub often_in_a_row : (n : ℕ) (ms bs : List Monomial) → AllByRecursion IsLawful ms → AllByRecursion IsRight bs → AreFine ms bs → AreFineOften n bs l → AreFineOften n (crossed ms bs) l
      → AreFine ms (crossed_often n bs l) × (crossed ms (crossed_often n bs l) ≡ crossed_often n (crossed ms bs) l)
  often_in_a_row zero ms bs left middle f g h = (f, refl)
  often_in_a_row (suc n) ms bs left middle f g h =
      let row = lists_in_a_row ms bs left middle f g.0 h.0 in
      let rest = often_in_a_row n ms (crossed bs l) left (right_products bs middle) row.0 g.1 (subst (λ xs. AreFineOften n xs l) (sym row.1) h.1) in
      (rest.0, rest.1 ∙ ap (λ xs. crossed_often n xs l) row.1)

-- ---- one list more

pub often_more : (n : ℕ) (ms l : List Monomial) → crossed_often (suc n) ms l ≡ crossed (crossed_often n ms l) l
often_more zero ms l = refl
often_more (suc n) ms l = often_more n (crossed ms l) l

pub fine_more : (n : ℕ) (ms l : List Monomial) → AreFineOften n ms l → AreFine (crossed_often n ms l) l → AreFineOften (suc n) ms l
fine_more zero ms l f g = (g, tt)
fine_more (suc n) ms l f g = (f.0, fine_more n (crossed ms l) l f.1 g)

-- ---- within some reach

module _ (s : Reach) where
  made_within : (r : Reach) (o : Result (Option Monomial) Cause) → IsMadeWithin (both r s) o → IsFine o × AllByRecursion (IsWithin (both r s)) (term_made o)
  made_within r (Ok (Some x)) k = (tt, (k, tt))
  made_within r (Ok None) k = (tt, tt)
  made_within r (Err cause) k = absurd k

  row_within : (r : Reach) (m : Monomial) → IsWithin r m → IsInLimits (both r s) → (l : List Monomial) → AllByRecursion (IsWithin s) l → AllByRecursion IsRight l
      → IsFineWith l m × AllByRecursion (IsWithin (both r s)) (made_with l m)
  row_within r m h limits [] within right = (tt, tt)
  row_within r m h limits (n ∷ l) within right =
      let first = made_within r (product_of m n) (product_within r s m n h within.0 right.0.plain limits) in
      let rest = row_within r m h limits l within.1 right.1 in
      ((first.0, rest.0), all_append (IsWithin (both r s)) (term_made (product_of m n)) (made_with l m) first.1 rest.1)

  module _ (l : List Monomial) (within : AllByRecursion (IsWithin s) l) (right : AllByRecursion IsRight l) where
    rows_within : (r : Reach) → IsInLimits (both r s) → (ms : List Monomial) → AllByRecursion (IsWithin r) ms → AreFine ms l × AllByRecursion (IsWithin (both r s)) (crossed ms l)
    rows_within r limits [] h = (tt, tt)
    rows_within r limits (m ∷ ms) h =
        let first = row_within r m h.0 limits l within right in
        let rest = rows_within r limits ms h.1 in
        ((first.0, rest.0), all_append (IsWithin (both r s)) (made_with l m) (crossed ms l) first.1 rest.1)

    -- what stays within the limits isn't refused
    pub often_within : (n : ℕ) (r : Reach) (ms : List Monomial) → AllByRecursion (IsWithin r) ms → StaysWithin n r s → AreFineOften n ms l
    often_within zero r ms h stays = tt
    often_within (suc n) r ms h stays =
        let rows = rows_within r stays.0 ms h in
        (rows.0, often_within n (both r s) (crossed ms l) rows.1 stays.1)

lawful_each : (r : Reach) (ms : List Monomial) → AllByRecursion (IsWithin r) ms → AllByRecursion IsLawful ms
lawful_each r [] h = tt
lawful_each r (m ∷ ms) h = (h.0.lawful, lawful_each r ms h.1)

-- A list so many times behind factors is its power behind them, where all stays within the limits.
pub behind_power : (n : ℕ) (r s : Reach) (ms l : List Monomial) → AllByRecursion (IsWithin r) ms → AllByRecursion (IsWithin s) l → AllByRecursion IsRight l → StaysWithin (suc n) r s → AreFineOften n l l
    → AreFineOften (suc n) ms l × AreFine ms (crossed_often n l l) × (crossed ms (crossed_often n l l) ≡ crossed_often (suc n) ms l)
behind_power n r s ms l h within right stays power =
    let all = often_within s l within right (suc n) r ms h stays in
    let row = often_in_a_row l right n ms l (lawful_each r ms h) right all.0 power all.1 in
    (all, row.0, row.1)
