-- A term times another one, so many times.
use Rattle.std.proofs.Common.{◌≡◌, ℕ, zero, suc, ◌+◌, ◌-◌, ◌<◌, ◌≤◌, Bool, true, ◌&&◌, List, [], ◌∷◌, ◌++◌, append-nil, append_assoc, map, Option, Some, None, Result, Ok, Err, refl, sym, ap, ◌∙◌, arith}
use Rattle.std.specs.List.{list_all}
use Rattle.form_base.specs.declared.cause.Cause.{Cause}
use Rattle.form_term.specs.declared.monomial.Monomial.{Monomial}
use Rattle.form_normal.specs.Product.{product_of}
use Rattle.form_expand.specs.declared.error.ExpandError.{ExpandError}
use Rattle.form_expand.specs.declared.error.ExpandError.TheVariants.{Refused, Memory}
use Rattle.form_expand.specs.declared.repeated.More.TheVariants as more
use Rattle.form_expand.specs.Listing.{Listing, single, limited, pairs, powers}
use Rattle.form_expand.specs.Next.{IsMade, ListsMade}
use Rattle.form_expand.specs.Often.{then_by, often, MakesMore}
use Rattle.form_expand.specs.Singles.{of_product}
use Rattle.form_expand.proofs.Listings.{limited_within, pairs_nothing, pairs_refusal}
use Rattle.form_expand.proofs.Rows.{paired, product_limited}

abbrev Answer : Type 0
Answer = Result (Option Monomial) Cause

then_unit : (r : Answer) → then_by r (λ x. Ok (Some x)) ≡ r
then_unit (Ok (Some m)) = refl
then_unit (Ok None) = refl
then_unit (Err cause) = refl

then_then : (r : Answer) (f g : Monomial → Answer) → then_by (then_by r f) g ≡ then_by r (λ x. then_by (f x) g)
then_then (Ok (Some m)) f g = refl
then_then (Ok None) f g = refl
then_then (Err cause) f g = refl

pub often_once : (m t : Monomial) → often m t 1 ≡ product_of m t
unfolding often
often_once m t = refl

pub often_none : (m t : Monomial) → often m t 0 ≡ Ok (Some m)
unfolding often
often_none m t = refl

-- some factors, and then others
pub often_more : (m t : Monomial) (j k : ℕ) → often m t (j + k) ≡ then_by (often m t j) (λ x. often x t k)
unfolding often
often_more m t j zero =
    let same : j + 0 ≡ j = omega arith in
    ap (often m t) same ∙ sym (then_unit (often m t j))
often_more m t j (suc k) =
    let next : j + suc k ≡ suc (j + k) = omega arith in
    ap (often m t) next ∙ ap (λ r. then_by r (λ x. product_of x t)) (often_more m t j k) ∙ then_then (often m t j) (λ x. often x t k) (λ x. product_of x t)

pub often_parts : (m t : Monomial) (j k all : ℕ) → all ≡ j + k → often m t all ≡ then_by (often m t j) (λ x. often x t k)
often_parts m t j k all e = ap (often m t) e ∙ often_more m t j k

-- ---- what some further factors come to

-- so many at once
pub many_made : (front t made : Monomial) (count rest left : ℕ) → 0 < count → left ≡ count + rest → often front t count ≡ Ok (Some made) → MakesMore (Ok (more.Made made rest)) front t left
many_made front t made count rest left some e is =
    (often_parts front t count rest left e ∙ ap (λ r. then_by r (λ x. often x t rest)) is, omega (arith, some, e))

one_parts : (front t : Monomial) (left : ℕ) → 0 < left → often front t left ≡ then_by (product_of front t) (λ x. often x t (left - 1))
one_parts front t left some =
    let e : left ≡ 1 + (left - 1) = omega (arith, some) in
    often_parts front t 1 (left - 1) left e ∙ ap (λ r. then_by r (λ x. often x t (left - 1))) (often_once front t)

-- one
pub one_made : (front t made : Monomial) (left rest : ℕ) → 0 < left → rest ≡ left - 1 → product_of front t ≡ Ok (Some made) → MakesMore (Ok (more.Made made rest)) front t left
one_made front t made left rest some e is =
    (one_parts front t left some ∙ ap (λ r. then_by r (λ x. often x t (left - 1))) is ∙ ap (often made t) (sym e), omega (arith, some, e))

pub one_zero : (front t : Monomial) (left : ℕ) → 0 < left → product_of front t ≡ Ok None → MakesMore (Ok more.Nothing) front t left
one_zero front t left some is = one_parts front t left some ∙ ap (λ r. then_by r (λ x. often x t (left - 1))) is

pub one_unmade : (front t : Monomial) (left : ℕ) (e : ExpandError) → 0 < left → IsMade (Err e) (product_of front t) → MakesMore (Err e) front t left
one_unmade front t left (Refused cause) some is = one_parts front t left some ∙ ap (λ r. then_by r (λ x. often x t (left - 1))) is
one_unmade front t left Memory some is = tt

-- a refusal, or want of memory, is the answer of all
pub often_unmade : (front t : Monomial) (left : ℕ) (e : ExpandError) (all : Answer) → MakesMore (Err e) front t left → often front t left ≡ all → IsMade (Err e) all
often_unmade front t left (Refused cause) all h same = sym same ∙ h
often_unmade front t left Memory all h same = tt

-- ---- the power of a list of one term

module _ (max : ℕ) (some : 1 ≤ max) (m : Monomial) where
  -- a product that is 0 or refused stays so
  then_paired : (r : Answer) → limited max (pairs (of_product r) (single m)) ≡ of_product (then_by r (λ x. product_of x m))
  then_paired (Ok (Some x)) = ap (limited max) (paired x m) ∙ product_limited max some (product_of x m)
  then_paired (Ok None) = ap (limited max) (pairs_nothing (single m)) ∙ product_limited max some (Ok None)
  then_paired (Err cause) = ap (limited max) (pairs_refusal cause (single m)) ∙ product_limited max some (Err cause)

  pub powers_often_from : (k : ℕ) → powers max (single m) (suc k) ≡ of_product (often m m k)
  unfolding powers often
  powers_often_from zero = limited_within max (single m) some
  powers_often_from (suc k) = ap (λ l. limited max (pairs l (single m))) (powers_often_from k) ∙ then_paired (often m m k)

  pub powers_often : (k : ℕ) → 1 ≤ k → powers max (single m) k ≡ of_product (often m m (k - 1))
  powers_often zero h = absurd (omega (arith, h))
  powers_often (suc k) h =
      let same : k ≡ suc k - 1 = omega arith in
      powers_often_from k ∙ ap (λ (n : ℕ). of_product (often m m n)) same

-- the list of what was made
pub listed_made : (r : Result (Option Monomial) ExpandError) (made : Answer) (l : Listing) → IsMade r made → ListsMade r l → l ≡ of_product made
listed_made (Ok (Some m)) made l h is = is ∙ ap of_product (sym h)
listed_made (Ok None) made l h is = is ∙ ap of_product (sym h)
listed_made (Err (Refused cause)) made l h is = is ∙ ap of_product (sym h)
listed_made (Err Memory) made l h is = absurd is

-- ---- a list that is raised, element by element

pub one_raised : {A : Type 0} (f : A → A) (made new : List A) (x higher : A) (ahead behind whole : List A) → ahead ≡ x ∷ behind → higher ≡ f x → new ≡ made ++ higher ∷ [] → made ++ map f ahead ≡ whole → new ++ map f behind ≡ whole
one_raised f made new x higher ahead behind whole is h e so_far =
    ap (λ xs. xs ++ map f behind) (e ∙ ap (λ y. made ++ y ∷ []) h) ∙ append_assoc made (f x ∷ []) (map f behind) ∙ ap (λ xs. made ++ map f xs) (sym is) ∙ so_far

pub one_kept : {A : Type 0} (g : A → Bool) (x : A) (ahead behind : List A) (whole : Bool) → ahead ≡ x ∷ behind → g x ≡ true → list_all g ahead ≡ whole → list_all g behind ≡ whole
one_kept g x ahead behind whole is h so_far = sym (ap (λ (b : Bool). b && list_all g behind) h) ∙ ap (list_all g) (sym is) ∙ so_far

pub all_raised : {A : Type 0} (f : A → A) (made ahead whole : List A) → ahead ≡ [] → made ++ map f ahead ≡ whole → made ≡ whole
all_raised f made ahead whole none so_far = sym (append-nil made) ∙ ap (λ xs. made ++ map f xs) (sym none) ∙ so_far
