-- Numbers that are put at the places of keys.
use Rattle.std.proofs.Common.{◌≡◌, ℕ, ◌+◌, ◌<◌, ◌≤◌, false, List, [], ◌∷◌, length, get_or, set, drop, refl, ap, sym, ◌∙◌, subst, nat_eq}
use Rattle.std.specs.Prelude.{All}
use Rattle.std.specs.List.{AllByRecursion, IsDistinct}
use Rattle.std.proofs.lemmas.Bool.{eqb-false}
use Rattle.std.proofs.lemmas.List.{length-set, get_or-set_same, get_or-set_other, drop_more, drop_all}
use Rattle.std.proofs.lemmas.List.Elements.{recursion_from_All}
use Rattle.std.proofs.lemmas.Map.Keys.{IsDistinct-head, IsDistinct-tail}
use Rattle.form_collect.specs.Keys.{ArePlacedFrom, same_place}
use Rattle.form_collect.specs.declared.sorting.Keyed.{Keyed}

-- numbers that agree with these at all places but those of these keys
abbrev Agree : List ℕ → List ℕ → List Keyed → Type 0
Agree final now left = (p : ℕ) → AllByRecursion (λ u. nat_eq p u.place ≡ false) left → get_or final p 0 ≡ get_or now p 0

-- So many keys are done, and these are left: whatever puts the numbers of these at their places puts all.
pub record IsStood (keys : List Keyed) (now : List ℕ) (left : List Keyed) (i : ℕ) : Type 0 where
  pub long : length now ≡ length keys
  all : (final : List ℕ) → Agree final now left → ArePlacedFrom final i left → ArePlacedFrom final 0 keys
  apart : IsDistinct same_place left
  within : AllByRecursion (λ k. k.place < length now) left

module _ (keys : List Keyed) where
  pub none_stood : (now : List ℕ) → length now ≡ length keys → All (λ k. k.place < length keys) keys → IsDistinct same_place keys → IsStood keys now keys 0
  none_stood now long within apart = record {
    long = long;
    all = λ final agree stand. stand;
    apart = apart;
    within = recursion_from_All (λ (k : Keyed). k.place < length now) keys (subst (λ (n : ℕ). All (λ (k : Keyed). k.place < n) keys) (sym long) within);
  }

  next_stood : (now : List ℕ) (k : Keyed) (left : List Keyed) (i : ℕ) → IsStood keys now (k ∷ left) i → IsStood keys (set now k.place i) left (i + 1)
  next_stood now k left i h =
      let apart = IsDistinct-head same_place k left h.apart in
      record {
        long = length-set now k.place i ∙ h.long;
        all = λ final agree stand.
            h.all final
            (λ p others. agree p others.1 ∙ get_or-set_other now k.place p i 0 (eqb-false p k.place others.0))
            (agree k.place apart ∙ get_or-set_same now k.place i 0 h.within.0, stand);
        apart = IsDistinct-tail same_place k left h.apart;
        within = subst (λ (n : ℕ). AllByRecursion (λ (u : Keyed). u.place < n) left) (sym (length-set now k.place i)) h.within.1;
      }

  module _ (now : List ℕ) (i : ℕ) (h : IsStood keys now (drop i keys) i) where
    module _ (k : Keyed) (inside : i < length keys) (d : Keyed) (at : k ≡ get_or keys i d) where
      here : IsStood keys now (k ∷ drop (i + 1) keys) i
      here = subst (λ (ks : List Keyed). IsStood keys now ks i) (drop_more keys i d inside ∙ ap (λ (x : Keyed). x ∷ drop (i + 1) keys) (sym at)) h

      pub stood_within : k.place < length now
      stood_within = here.within.0

      pub stood_next : IsStood keys (set now k.place i) (drop (i + 1) keys) (i + 1)
      stood_next = next_stood now k (drop (i + 1) keys) i here

    pub stood_end : length keys ≤ i → ArePlacedFrom now 0 keys
    stood_end past = h.all now (λ p apart. refl) (subst (λ (ks : List Keyed). ArePlacedFrom now i ks) (sym (drop_all i keys past)) tt)
