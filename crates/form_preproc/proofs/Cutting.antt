-- Cutting stacks, one after another.
use Rattle.std.proofs.Common.{◌≡◌, ◌⊎◌, inl, inr, ℕ, ◌+◌, ◌<◌, ◌≤◌, Bool, true, false, cond, eqb, List, [], ◌∷◌, ◌++◌, length, get_or, refl, sym, ap, ◌∙◌, arith}
use Rattle.std.proofs.lemmas.Bool.{eqb-true}
use Rattle.form_calc.specs.Stack.{oldest}
use Rattle.form_preproc.specs.Journal.{height_before, AreFirsts}
use Rattle.form_preproc.specs.Places.{AreCut, IsCut, number_of_values}
use Rattle.form_preproc.specs.declared.journal.Change.{Change}
use Rattle.form_preproc.proofs.Changes.{before_cons, before_nil}
use Rattle.form_preproc.proofs.Stacks.{length-oldest, none_to_cut}

-- the height to which a stack is cut that changes are at, and its own where none is
unfoldable pub capped : List Change → ℕ → ℕ → ℕ → ℕ
capped [] place height first = height
capped (c ∷ changes) place height first = cond (eqb c.place place) first (capped changes place height first)

capped_more : (changes : List Change) (c : Change) (place height first : ℕ) → capped (changes ++ c ∷ []) place height first ≡ cond (eqb c.place place) first (capped changes place height first)
unfolding capped
capped_more [] c place height first = refl
capped_more (x ∷ changes) c place height first = ap (cond (eqb x.place place) first) (capped_more changes c place height first) ∙ swapped (eqb x.place place) (eqb c.place place)
  where
    swapped : (a b : Bool) → cond a first (cond b first (capped changes place height first)) ≡ cond b first (cond a first (capped changes place height first))
    swapped true true = refl
    swapped true false = refl
    swapped false b = refl

capped_either : (changes : List Change) (place height first : ℕ) → (capped changes place height first ≡ height) ⊎ (capped changes place height first ≡ first)
unfolding capped
capped_either [] place height first = inl refl
capped_either (c ∷ changes) place height first = by_test (eqb c.place place) (capped_either changes place height first)
  where
    by_test : (b : Bool) → ((capped changes place height first ≡ height) ⊎ (capped changes place height first ≡ first)) → (cond b first (capped changes place height first) ≡ height) ⊎ (cond b first (capped changes place height first) ≡ first)
    by_test true e = inr refl
    by_test false e = e

capped_before : (changes : List Change) (place height first other : ℕ) → first ≡ height_before changes place other → capped changes place height first ≡ height_before changes place height
unfolding capped
capped_before [] place height first other is = sym (before_nil place height)
capped_before (c ∷ changes) place height first other is = by_test (eqb c.place place) (is ∙ before_cons c changes place other) (λ e. capped_before changes place height first other e) ∙ sym (before_cons c changes place height)
  where
    by_test : (b : Bool) → first ≡ cond b c.height (height_before changes place other) → (first ≡ height_before changes place other → capped changes place height first ≡ height_before changes place height)
        → cond b first (capped changes place height first) ≡ cond b c.height (height_before changes place height)
    by_test true e further = e
    by_test false e further = further e

cut_again : (stack : List (List ℕ)) (height first : ℕ) → (height ≡ length stack) ⊎ (height ≡ first) → oldest first (oldest height stack) ≡ oldest first stack
cut_again stack height first (inl e) = ap (oldest first) (sym (none_to_cut stack height (omega (arith, e))))
cut_again stack height first (inr e) = ap (λ h. oldest first (oldest h stack)) e ∙ sym (none_to_cut (oldest first stack) first (omega (arith, length-oldest first stack)))

pub record AreCutTo (changes : List Change) (firsts : List ℕ) (old new : List (List (List ℕ))) (cut : ℕ) : Type 0 where
  pub same : length new ≡ length old
  pub each : (place : ℕ) → place < length old → get_or new place [] ≡ oldest (capped changes place (length (get_or old place [])) (get_or firsts place 0)) (get_or old place [])
  pub counted : cut + number_of_values new ≤ number_of_values old

pub cut_none : (changes : List Change) (firsts : List ℕ) (stacks : List (List (List ℕ))) → changes ≡ [] → AreCutTo changes firsts stacks stacks 0
unfolding capped
cut_none changes firsts stacks none = rw none (record { same = refl; each = λ place lt. none_to_cut (get_or stacks place []) (length (get_or stacks place [])) (omega arith); counted = omega arith })

pub cut_more : (changes more : List Change) (c : Change) (firsts : List ℕ) (old new last : List (List (List ℕ))) (cut taken sum : ℕ) → more ≡ changes ++ c ∷ [] → AreCutTo changes firsts old new cut
    → IsCut c.place (get_or firsts c.place 0) new last → taken + number_of_values last ≡ number_of_values new → sum ≤ cut + taken → AreCutTo more firsts old last sum
cut_more changes more c firsts old new last cut taken sum is h one count le = rw is (record {
  same = one.same ∙ h.same;
  each = λ place lt. one.each place (omega (arith, lt, h.same)) ∙ by_test place lt (eqb c.place place) refl ∙ ap (λ k. oldest k (get_or old place [])) (sym (capped_more changes c place (length (get_or old place [])) (get_or firsts place 0)));
  counted = omega (arith, h.counted, count, le);
})
  where
    by_test : (place : ℕ) → place < length old → (b : Bool) → eqb c.place place ≡ b → cond b (oldest (get_or firsts c.place 0) (get_or new place [])) (get_or new place [])
        ≡ oldest (cond b (get_or firsts place 0) (capped changes place (length (get_or old place [])) (get_or firsts place 0))) (get_or old place [])
    by_test place lt true e = ap (λ k. oldest (get_or firsts k 0) (get_or new place [])) (eqb-true c.place place e) ∙ ap (oldest (get_or firsts place 0)) (h.each place lt)
        ∙ cut_again (get_or old place []) (capped changes place (length (get_or old place [])) (get_or firsts place 0)) (get_or firsts place 0) (capped_either changes place (length (get_or old place [])) (get_or firsts place 0))
    by_test place lt false e = h.each place lt

pub all_are_cut : (changes done : List Change) (firsts : List ℕ) (old new : List (List (List ℕ))) (cut : ℕ) → done ≡ changes → length old ≤ length firsts → AreFirsts changes firsts → AreCutTo done firsts old new cut → AreCut changes old new
all_are_cut changes done firsts old new cut is size f h = record {
  same = h.same;
  each = λ place lt. h.each place lt ∙ ap (λ k. oldest k (get_or old place []))
      (ap (λ xs. capped xs place (length (get_or old place [])) (get_or firsts place 0)) is ∙ capped_before changes place (length (get_or old place [])) (get_or firsts place 0) (f.others place) (f.told place (omega (arith, lt, size))));
}

-- ---- no value is left

pub record AreEmptyTo (place : ℕ) (old new : List (List (List ℕ))) : Type 0 where
  pub same : length new ≡ length old
  pub empty : (k : ℕ) → k < place → get_or new k [] ≡ []
  pub fewer : number_of_values new ≤ number_of_values old
