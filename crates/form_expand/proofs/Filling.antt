-- Adding lists to the factors of a row.
use Rattle.std.proofs.Common.{◌≡◌, ℕ, zero, suc, ◌+◌, ◌-◌, ◌≤◌, List, [], ◌∷◌, ◌++◌, length, refl, sym, ap, subst, ◌∙◌, arith, append_assoc, append-nil, inl, inr}
use Rattle.std.specs.Prelude.{◌⊎◌, ◌↔◌, Option, Some, None, Result, Ok, Err, OnOk, IsSome, map, option_to_list, replicate}
use Rattle.std.proofs.lemmas.Bool.{false≢true}
use Rattle.form_base.specs.declared.cause.Cause.{Cause}
use Rattle.form_base.specs.declared.cause.Cause.TheVariants.{ExpandLimit}
use Rattle.form_term.specs.declared.monomial.Monomial.{Monomial}
use Rattle.form_term.specs.Monomial.{unit}
use Rattle.form_expand.specs.declared.whole.Whole.{Whole}
use Rattle.form_expand.specs.declared.factors.Factors.{Factors}
use Rattle.form_expand.specs.declared.list.List as lists
use Rattle.form_expand.specs.Factors.{IsOneAtMost, IsSameRow, IsShortPower, factor_lists}
use Rattle.form_expand.specs.Kept.{listing}
use Rattle.form_expand.specs.Left.{row, row_behind}
use Rattle.form_expand.specs.Listing.{Listing, nothing, single, limited, pairs, powers}
use Rattle.form_expand.specs.Lists.{list_whole}
use Rattle.form_expand.proofs.Factored.{front_powers, same_alone, same_behind}
use Rattle.form_expand.proofs.Listings.{limited_none, limited_powers, limited_refusal, limited_within, pairs_refusal}
use Rattle.form_expand.proofs.Rows.{none_powered}

-- a power is its factors
pub powers_row : (max : ℕ) (l : Listing) (k : ℕ) → 1 ≤ k → IsSameRow max (powers max l k ∷ []) (replicate k l)
unfolding row
powers_row max l zero some more = absurd (omega (arith, some))
powers_row max l (suc k) some more = ap (λ (front : Listing). row_behind max front more) (limited_powers max l (suc k)) ∙ front_powers max l k more

-- a list that is the same, behind others
pub put_as : (max : ℕ) (old new : List Listing) (l same : Listing) → l ≡ same → IsSameRow max (old ++ l ∷ []) new → IsSameRow max (old ++ same ∷ []) new
put_as max old new l same e h = subst (λ (x : Listing). IsSameRow max (old ++ x ∷ []) new) e h

-- as the first factor
pub put_begun : (max : ℕ) (old new : List Listing) (l same : Listing) → old ≡ [] → l ≡ same → IsSameRow max (old ++ l ∷ []) new → IsSameRow max (same ∷ []) new
put_begun max old new l same none e h = subst (λ (ls : List Listing). IsSameRow max (ls ++ same ∷ []) new) none (put_as max old new l same e h)

module _ {T E : Type 0} (r : Result T E) (max : ℕ) (old new : List Listing) (l : Listing) where
  -- the same where it may have failed
  pub put_same : (same : Listing) → l ≡ same → OnOk r (IsSameRow max (old ++ l ∷ []) new) → OnOk r (IsSameRow max (old ++ same ∷ []) new)
  put_same same e h = subst (λ (x : Listing). OnOk r (IsSameRow max (old ++ x ∷ []) new)) e h

  pub put_first : old ≡ [] → OnOk r (IsSameRow max (l ∷ []) new) → OnOk r (IsSameRow max (old ++ l ∷ []) new)
  put_first none h = subst (λ (ls : List Listing). OnOk r (IsSameRow max (ls ++ l ∷ []) new)) (sym none) h

  pub put_alone : (same : Listing) → old ≡ [] → l ≡ same → OnOk r (IsSameRow max (old ++ l ∷ []) new) → OnOk r (IsSameRow max (same ∷ []) new)
  put_alone same none e h = subst (λ (ls : List Listing). OnOk r (IsSameRow max (ls ++ same ∷ []) new)) none (put_same same e h)

-- within any limit
pub put_at : {T E : Type 0} (r : Result T E) (max : ℕ) (old new : ℕ → List Listing) (l : ℕ → Listing) (same : Listing) → l max ≡ same → OnOk r ((n : ℕ) → IsSameRow n (old n ++ l n ∷ []) (new n)) → OnOk r (IsSameRow max (old max ++ same ∷ []) (new max))
put_at (Ok x) max old new l same e h = put_as max (old max) (new max) (l max) same e (h max)
put_at (Err x) max old new l same e h = tt

-- ---- powers

pub power_none : (max : ℕ) (l : Listing) (power : ℕ) → power ≡ 0 → limited max (single unit) ≡ powers max l power
unfolding powers
power_none max l power e = rw e refl

pub power_once : (max : ℕ) (l : Listing) (power : ℕ) → power ≡ 1 → limited max l ≡ powers max l power
unfolding powers
power_once max l power e = rw e refl

-- a list without terms within the limit
pub gone_power : (max : ℕ) (l whole : Listing) (power : ℕ) → 1 ≤ power → l.terms ≡ [] → limited max l ≡ whole → limited max l ≡ powers max whole power
gone_power max l whole power some none e =
    let same : limited max l ≡ l = limited_within max l (omega (arith, ap length none)) in
    none_powered max l.terms l.end power some none ∙ ap (λ (x : Listing). powers max x power) (sym same ∙ e)

-- a list of one term within the limit
pub short_whole : (max : ℕ) (w : Whole) (whole : Listing) (power : ℕ) → 1 ≤ power → IsShortPower max w power → limited max (listing w) ≡ whole → powers max (listing w) power ≡ powers max whole power
short_whole max w whole power some (inl none) e = absurd (omega (arith, some, none))
short_whole max w whole power some (inr alone) e = ap (λ (x : Listing). powers max x power) (sym (limited_within max (listing w) (omega (arith, alone.alone, alone.some))) ∙ e)

-- whether a power is short
pub none_short : {X : Type 0} (found : Option X) (P : Type 0) → found ≡ None → (IsSome found ↔ P) → P → ⊥
none_short None P e h p = false≢true (h.1 p)
none_short (Some x) P e h p = cc

pub some_short : {X : Type 0} (found : Option X) (x : X) (P : Type 0) → found ≡ Some x → (IsSome found ↔ P) → P
some_short None x P e h = absurd (cc)
some_short (Some y) x P e h = h.0 refl

-- factors without lists are their front
pub front_alone : (max : ℕ) (f : Factors) → f.lists.items ≡ [] → factor_lists max f ≡ map single (option_to_list f.front)
front_alone max f none = ap (λ (ls : List lists.List). map single (option_to_list f.front) ++ map (list_whole max) ls) none ∙ append-nil (map single (option_to_list f.front))

-- some of the lists that are left are added
pub runs_more : (max : ℕ) (whole now run rest left new : List Listing) → IsSameRow max whole (now ++ rest) → rest ≡ run ++ left → IsSameRow max (now ++ run) new → IsSameRow max whole (new ++ left)
runs_more max whole now run rest left new so_far e put more =
    so_far more
    ∙ ap (λ (ls : List Listing). row max ((now ++ ls) ++ more)) e
    ∙ ap (λ (ls : List Listing). row max (ls ++ more)) (sym (append_assoc now run left))
    ∙ same_behind max (now ++ run) new left put more

pub runs_all : (max : ℕ) (whole now left : List Listing) → IsSameRow max whole (now ++ left) → left ≡ [] → row max whole ≡ row max now
runs_all max whole now left so_far none = same_alone max whole (now ++ left) so_far ∙ ap (λ (ls : List Listing). row max (now ++ ls)) none ∙ ap (row max) (append-nil now)

-- a term and a list, one after the other
pub pair_row : (max : ℕ) (m : Monomial) (l : Listing) (now new : List Listing) → IsSameRow max (single m ∷ []) now → IsSameRow max (now ++ l ∷ []) new → row max (single m ∷ l ∷ []) ≡ row max new
pair_row max m l now new first put = same_alone max (single m ∷ l ∷ []) new (λ more. same_behind max (single m ∷ []) now (l ∷ []) first more ∙ put more)

-- ---- lists of one term at most

-- a list of one term, where no list may have one
none_allowed : (m : Monomial) (k : ℕ) → powers 0 (single m) (suc k) ≡ limited 0 (single m)
unfolding powers
none_allowed m zero = refl
none_allowed m (suc k) =
    ap (λ (l : Listing). limited 0 (pairs l (single m))) (none_allowed m k ∙ limited_none m nothing)
    ∙ ap (limited 0) (pairs_refusal ExpandLimit (single m)) ∙ limited_refusal 0 ExpandLimit ∙ sym (limited_none m nothing)

-- where the power isn't short the list is the power
pub not_short : (max : ℕ) (w : Whole) (power : ℕ) → IsOneAtMost (listing w) → (IsShortPower max w power → ⊥) → limited max (listing w) ≡ powers max (listing w) power
not_short max w zero one long = absurd (long (inl refl))
not_short max w (suc k) one long = by (listing w).terms refl one.1
  where
    by : (ms : List Monomial) → (listing w).terms ≡ ms → ((listing w).terms ≡ []) ⊎ ((listing w).end ≡ None) → limited max (listing w) ≡ powers max (listing w) (suc k)
    by ms is (inl none) = none_powered max (listing w).terms (listing w).end (suc k) (omega arith) none
    by [] is (inr done) = none_powered max (listing w).terms (listing w).end (suc k) (omega arith) is
    by (m ∷ n ∷ ms) is (inr done) = absurd (omega (arith, one.0, ap length is))
    by (m ∷ []) is (inr done) = alone max refl
      where
        whole : listing w ≡ single m
        whole = ap (λ (ms : List Monomial). record { terms = ms; end = (listing w).end }) is ∙ ap (λ (e : Option Cause). record { terms = m ∷ []; end = e }) done

        alone : (n : ℕ) → max ≡ n → limited max (listing w) ≡ powers max (listing w) (suc k)
        alone zero none =
            ap (λ (n : ℕ). limited n (listing w)) none ∙ ap (limited 0) whole
            ∙ sym (ap (λ (n : ℕ). powers n (listing w) (suc k)) none ∙ ap (λ (l : Listing). powers 0 l (suc k)) whole ∙ none_allowed m k)
        alone (suc n) some = absurd (long (inr (record { done = done; alone = ap length is; some = omega (arith, some) })))
