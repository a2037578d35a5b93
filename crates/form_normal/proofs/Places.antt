-- The place of a function among others that rise, found from behind.
use Rattle.std.proofs.Common.{◌≡◌, ℕ, ◌+◌, ◌≤◌, Bool, true, false, not, cond, List, [], ◌∷◌, ◌++◌, length, refl, ap, sym, ◌∙◌, arith}
use Rattle.std.specs.List.{AllByRecursion, prefix_len}
use Rattle.std.specs.Ordering.{is_gt}
use Rattle.std.specs.Cmp.{IsTotalOrder}
use Rattle.std.specs.declared.cmp.Ordering.{Ordering}
use Rattle.std.proofs.lemmas.Cmp.{upto}
use Rattle.form_term.specs.Term.{Call, RisesBy, call_order}
use Rattle.form_term.specs.TermLaws.{call_order_total}
use Rattle.form_normal.specs.Factors.{is_upto}
use Rattle.form_normal.proofs.Order.{all_map}

prefix_less : {A : Type 0} (p : A → Bool) (xs : List A) (x : A) → p x ≡ false → prefix_len p (xs ++ x ∷ []) ≡ prefix_len p xs
prefix_less p [] x e = rw e refl
prefix_less p (y ∷ ys) x e = ap (λ (n : ℕ). cond (p y) (1 + n) 0) (prefix_less p ys x e)

prefix_all : {A : Type 0} (p : A → Bool) (xs : List A) → AllByRecursion (λ x. p x ≡ true) xs → length xs ≡ prefix_len p xs
prefix_all p [] h = refl
prefix_all p (x ∷ xs) h = let rest = prefix_all p xs h.1 in rw h.0 (omega (arith, rest))

all_front : {A : Type 0} (P : A → Type 0) (xs : List A) (x : A) → AllByRecursion P (xs ++ x ∷ []) → AllByRecursion P xs
all_front P [] x h = tt
all_front P (y ∷ ys) x h = (h.0, all_front P ys x h.1)

of_last : {A : Type 0} (P : A → Type 0) (xs : List A) (x : A) → AllByRecursion P (xs ++ x ∷ []) → P x
of_last P [] x h = h.0
of_last P (y ∷ ys) x h = of_last P ys x h.1

rises_front : {A : Type 0} (cmp : A → A → Ordering) (xs : List A) (x : A) → RisesBy cmp (xs ++ x ∷ []) → RisesBy cmp xs
rises_front cmp [] x h = tt
rises_front cmp (y ∷ ys) x h = (all_front (λ z. is_gt (cmp y z) ≡ false) ys x h.0, rises_front cmp ys x h.1)

-- where the last is no higher than another, none is
upto_last : {A : Type 0} (cmp : A → A → Ordering) → IsTotalOrder cmp → (xs : List A) (x y : A) → RisesBy cmp (xs ++ x ∷ []) → is_gt (cmp x y) ≡ false → AllByRecursion (λ z. is_gt (cmp z y) ≡ false) (xs ++ x ∷ [])
upto_last cmp o [] x y h e = (e, tt)
upto_last cmp o (z ∷ zs) x y h e = (upto o z x y (of_last (λ w. is_gt (cmp z w) ≡ false) zs x h.0) e, upto_last cmp o zs x y h.1 e)

not_true : (b : Bool) → not b ≡ true → b ≡ false
not_true true e = cc
not_true false e = refl

-- The walk: the place is one among what is left, which rises.
pub record Placing (cs rest : List Call) (c : Call) : Type 0 where
  pub place : prefix_len (λ other. is_upto other c) rest ≡ prefix_len (λ other. is_upto other c) cs
  pub rises : RisesBy call_order rest
  pub within : length rest ≤ length cs

module _ (cs rest others : List Call) (last c : Call) (is : rest ≡ others ++ last ∷ []) (h : Placing cs rest c) where
  split : Placing cs (others ++ last ∷ []) c
  split = rw is at h

  pub placing_goes_on : is_upto last c ≡ false → length others + 1 ≡ length rest → Placing cs others c
  placing_goes_on e one = record {
    place = sym (prefix_less (λ other. is_upto other c) others last e) ∙ split.place;
    rises = rises_front call_order others last split.rises;
    within = omega (arith, h.within, one);
  }

  pub placing_ends : is_upto last c ≡ true → length rest ≡ prefix_len (λ other. is_upto other c) cs
  placing_ends e =
      let each = upto_last call_order call_order_total others last c split.rises (not_true (is_gt (call_order last c)) e) in
      ap length is ∙ prefix_all (λ other. is_upto other c) (others ++ last ∷ []) (all_map (λ z. is_gt (call_order z c) ≡ false) (λ z. is_upto z c ≡ true) (λ z k. ap not k) (others ++ last ∷ []) each) ∙ split.place
