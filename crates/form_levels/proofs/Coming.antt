-- What comes of joined terms, where it isn't asked on whose way something acted.
use Rattle.std.proofs.Common.{◌≡◌, ℕ, ◌<◌, Bool, true, false, List, [], ◌∷◌, ◌++◌, map, refl, sym, ap, subst, ◌∙◌, append-nil}
use Rattle.std.specs.Prelude.{flat_map}
use Rattle.std.specs.List.{AllByRecursion}
use Rattle.std.proofs.lemmas.List.{map-append}
use Rattle.std.proofs.lemmas.List.Concat.{flat_map-append}
use Rattle.std.proofs.lemmas.List.Sorted.{IsPermutation-sym}
use Rattle.form_term.specs.declared.monomial.Monomial.{Monomial}
use Rattle.form_gathered.specs.Joined.{IsShare, IsJoined, Stand}
use Rattle.form_gathered.specs.declared.joined.JoinedTerm.{JoinedTerm}
use Rattle.form_gathered.proofs.Joining.{beside, moved}
use Rattle.form_gathered.proofs.Shuffled.{same_list, all_front, all_back}
use Rattle.form_flow.specs.Outcome.{Output, Outcome, unchanged, also_acted, onward, through}
use Rattle.form_levels.specs.Runs.{items, each_output, each_with, IsDone, IsFine, Runs, Comes}
use Rattle.form_levels.proofs.Marked.{IsWhole, all_both, each_whole}
use Rattle.form_levels.proofs.Running.{runs_unchanged}
use Rattle.form_levels.proofs.Standing.{stand_same}

-- the idle ones and the others together, or what stands for them
pub comes_of : (go : Monomial → Outcome) (js i a ks : List JoinedTerm) → Runs go js i a → Stand (i ++ a) ks → Comes go js ks
comes_of go js i a ks r s = record {
  done = r.done;
  made = λ n lists h.
      let idle : ℕ → List Monomial = λ k. each_with false go (lists k) in
      let acted : ℕ → List Monomial = λ k. each_with true go (lists k) in
      s n (λ k. each_output go (lists k))
      (moved (IsShare n) n (i ++ a) (λ k. idle k ++ acted k) (λ k. each_output go (lists k)) (λ k below. IsPermutation-sym _ _ (all_both go (lists k)))
      (beside (IsShare n) n i a idle acted (r.idle n lists h) (r.acted n lists h)));
}

pub comes_unchanged : (js : List JoinedTerm) → Comes unchanged js js
comes_unchanged js = comes_of unchanged js js [] js (runs_unchanged js) (stand_same (js ++ []) js (append-nil js))

pub comes_same : (f go : Monomial → Outcome) (js ks : List JoinedTerm) → ((m : Monomial) → f m ≡ go m) → Comes f js ks → Comes go js ks
comes_same f go js ks e x = subst (λ (by : Monomial → Outcome). Comes by js ks) (λ j m. e m j) x

-- ---- one after the other

items_marked : (acted : Bool) (os : List Output) → items (map (also_acted acted) os) ≡ items os
items_marked acted [] = refl
items_marked acted (o ∷ os) = ap (λ l. o.item ∷ l) (items_marked acted os)

module _ (f g : Monomial → Outcome) where
  abbrev after : List Output → List Output
  after os = flat_map (λ x. (onward g x).outputs) os

  abbrev both : Monomial → Outcome
  both m = through g (f m)

  items_after : (os : List Output) → items (after os) ≡ each_output g (items os)
  items_after [] = refl
  items_after (o ∷ os) =
      map-append (λ (x : Output). x.item) (map (also_acted o.acted) (g o.item).outputs) (after os)
      ∙ ap (λ l. l ++ items (after os)) (items_marked o.acted (g o.item).outputs)
      ∙ ap (λ l. items (g o.item).outputs ++ l) (items_after os)

  done_after : (os : List Output) → AllByRecursion (IsFine g) (items os) → AllByRecursion (λ x. IsDone (onward g x).end) os
  done_after [] h = tt
  done_after (o ∷ os) h = (h.0, done_after os h.1)

  abbrev AreBoth : List Monomial → Type 0
  AreBoth list = AllByRecursion (λ m. IsWhole (both m) (after (f m).outputs)) list

  both_whole : (list : List Monomial) → AllByRecursion (IsFine f) list → AllByRecursion (IsFine g) (each_output f list) → AreBoth list
  both_whole [] d h = tt
  both_whole (m ∷ ms) d h = (
    each_whole (onward g) (f m).outputs (f m).end d.0 (done_after (f m).outputs (all_front (IsFine g) (items (f m).outputs) (each_output f ms) h)),
    both_whole ms d.1 (all_back (IsFine g) (items (f m).outputs) (each_output f ms) h),
  )

  both_done : (list : List Monomial) → AreBoth list → AllByRecursion (IsFine both) list
  both_done [] h = tt
  both_done (m ∷ ms) h = (h.0.0, both_done ms h.1)

  both_made : (list : List Monomial) → AreBoth list → each_output both list ≡ each_output g (each_output f list)
  both_made [] h = refl
  both_made (m ∷ ms) h =
      ap (λ os. items os ++ each_output both ms) h.0.1
      ∙ ap (λ l. l ++ each_output both ms) (items_after (f m).outputs)
      ∙ ap (λ l. each_output g (items (f m).outputs) ++ l) (both_made ms h.1)
      ∙ sym (flat_map-append (λ x. items (g x).outputs) (items (f m).outputs) (each_output f ms))

  module _ (js ks ls : List JoinedTerm) (r : Comes f js ks) (s : Comes g ks ls) where
    whole : (n : ℕ) (lists : ℕ → List Monomial) → IsJoined n js lists → (k : ℕ) → k < n → AreBoth (lists k)
    whole n lists h k below = both_whole (lists k) (r.done n lists h k below) (s.done n (λ i. each_output f (lists i)) (r.made n lists h) k below)

    pub comes_through : Comes (λ m. through g (f m)) js ls
    comes_through = record {
      done = λ n lists h k below. both_done (lists k) (whole n lists h k below);
      made = λ n lists h.
          moved (IsShare n) n ls (λ k. each_output g (each_output f (lists k))) (λ k. each_output (λ m. through g (f m)) (lists k))
          (λ k below. same_list _ _ (sym (both_made (lists k) (whole n lists h k below)))) (s.made n (λ k. each_output f (lists k)) (r.made n lists h));
    }
