-- What statements make of joined terms: of some beside others, one statement after the other, and turn by turn.
use Rattle.std.proofs.Common.{◌≡◌, ℕ, suc, ◌<◌, Bool, true, false, List, [], ◌∷◌, ◌++◌, refl, sym, ap, subst}
use Rattle.std.specs.List.{AllByRecursion}
use Rattle.std.specs.List.Sorted.{IsPermutation}
use Rattle.std.proofs.lemmas.List.Concat.{flat_map-append}
use Rattle.std.proofs.lemmas.List.Sorted.{IsPermutation-sym}
use Rattle.form_term.specs.declared.monomial.Monomial.{Monomial}
use Rattle.form_gathered.specs.Joined.{IsShare, IsJoined, Stand}
use Rattle.form_gathered.specs.declared.joined.JoinedTerm.{JoinedTerm}
use Rattle.form_gathered.proofs.Joining.{none_stand, none_empty, split, beside, moved}
use Rattle.form_gathered.proofs.Shuffled.{same_list, all_moved, all_joined, flat_map_moved}
use Rattle.form_flow.specs.Outcome.{Output, output, Outcome, unchanged, behind, onward, through, next_turn, turns}
use Rattle.form_flow.specs.Ways.{run_each}
use Rattle.form_flow.proofs.Finishing.{bind_alike, behind_false}
use Rattle.form_levels.specs.Runs.{items_with, each_with, IsFine, Runs}
use Rattle.form_levels.proofs.Marked.{onward_by, then_by, IsRow, whole_rows, rows_done, rows_idle, rows_acted}

-- ---- none, and some beside others

pub runs_none : (go : Monomial → Outcome) → Runs go [] [] []
runs_none go = record {
  done = λ n lists h k below. subst (AllByRecursion (IsFine go)) (sym (none_empty (IsShare n) n lists h k below)) tt;
  idle = nothing false;
  acted = nothing true;
}
  where
    nothing : (acted : Bool) (n : ℕ) (lists : ℕ → List Monomial) → IsJoined n [] lists → IsJoined n [] (λ k. each_with acted go (lists k))
    nothing acted n lists h =
        moved (IsShare n) n [] (λ k. []) (λ k. each_with acted go (lists k))
        (λ k below. same_list [] (each_with acted go (lists k)) (sym (ap (each_with acted go) (none_empty (IsShare n) n lists h k below)))) (none_stand (IsShare n) n)

parts_each : (acted : Bool) (go : Monomial → Outcome) (p q l : List Monomial) → IsPermutation (p ++ q) l → IsPermutation (each_with acted go p ++ each_with acted go q) (each_with acted go l)
parts_each acted go p q l h =
    let by : Monomial → List Monomial = λ m. items_with acted (go m).outputs in
    subst (λ x. IsPermutation x (each_with acted go l)) (flat_map-append by p q) (flat_map_moved by (p ++ q) l h)

module _ (go : Monomial → Outcome) (js ks i a i2 a2 : List JoinedTerm) (x : Runs go js i a) (y : Runs go ks i2 a2) where
  pub runs_beside : Runs go (js ++ ks) (i ++ i2) (a ++ a2)
  runs_beside = record {
    done = λ n lists h k below.
        let s = split (IsShare n) n js ks lists h in
        all_moved (IsFine go) (s.first k ++ s.second k) (lists k) (s.whole k below)
        (all_joined (IsFine go) (s.first k) (s.second k) (x.done n s.first s.left k below) (y.done n s.second s.right k below));
    idle = λ n lists h.
        let s = split (IsShare n) n js ks lists h in
        moved (IsShare n) n (i ++ i2) (λ k. each_with false go (s.first k) ++ each_with false go (s.second k)) (λ k. each_with false go (lists k))
        (λ k below. parts_each false go (s.first k) (s.second k) (lists k) (s.whole k below))
        (beside (IsShare n) n i i2 (λ k. each_with false go (s.first k)) (λ k. each_with false go (s.second k)) (x.idle n s.first s.left) (y.idle n s.second s.right));
    acted = λ n lists h.
        let s = split (IsShare n) n js ks lists h in
        moved (IsShare n) n (a ++ a2) (λ k. each_with true go (s.first k) ++ each_with true go (s.second k)) (λ k. each_with true go (lists k))
        (λ k below. parts_each true go (s.first k) (s.second k) (lists k) (s.whole k below))
        (beside (IsShare n) n a a2 (λ k. each_with true go (s.first k)) (λ k. each_with true go (s.second k)) (x.acted n s.first s.left) (y.acted n s.second s.right));
  }

-- ---- others that stand for them

pub runs_of : (go : Monomial → Outcome) (js ks i a : List JoinedTerm) → Stand ks js → Runs go js i a → Runs go ks i a
runs_of go js ks i a h x = record {
  done = λ n lists g. x.done n lists (h n lists g);
  idle = λ n lists g. x.idle n lists (h n lists g);
  acted = λ n lists g. x.acted n lists (h n lists g);
}

pub runs_to : (go : Monomial → Outcome) (js i a i2 a2 : List JoinedTerm) → Stand i i2 → Stand a a2 → Runs go js i a → Runs go js i2 a2
runs_to go js i a i2 a2 h g x = record {
  done = x.done;
  idle = λ n lists f. h n (λ k. each_with false go (lists k)) (x.idle n lists f);
  acted = λ n lists f. g n (λ k. each_with true go (lists k)) (x.acted n lists f);
}

-- the same of each term
pub runs_same : (f go : Monomial → Outcome) (js i a : List JoinedTerm) → ((m : Monomial) → f m ≡ go m) → Runs f js i a → Runs go js i a
runs_same f go js i a e x = subst (λ (by : Monomial → Outcome). Runs by js i a) (λ j m. e m j) x

-- nothing is done
pub runs_unchanged : (js : List JoinedTerm) → Runs unchanged js js []
runs_unchanged js = record {
  done = λ n lists h k below. all_fine (lists k);
  idle = λ n lists h. moved (IsShare n) n js lists (λ k. each_with false unchanged (lists k)) (λ k below. same_list (lists k) (each_with false unchanged (lists k)) (sym (all_idle (lists k)))) h;
  acted = λ n lists h. moved (IsShare n) n [] (λ k. []) (λ k. each_with true unchanged (lists k)) (λ k below. same_list [] (each_with true unchanged (lists k)) (sym (none_acted (lists k)))) (none_stand (IsShare n) n);
}
  where
    all_fine : (ms : List Monomial) → AllByRecursion (IsFine unchanged) ms
    all_fine [] = tt
    all_fine (m ∷ ms) = (tt, all_fine ms)

    all_idle : (ms : List Monomial) → each_with false unchanged ms ≡ ms
    all_idle [] = refl
    all_idle (m ∷ ms) = ap (λ l. m ∷ l) (all_idle ms)

    none_acted : (ms : List Monomial) → each_with true unchanged ms ≡ []
    none_acted [] = refl
    none_acted (m ∷ ms) = none_acted ms

-- ---- one after the other

module _ (f h g : Monomial → Outcome) (js i a i2 a2 x y : List JoinedTerm) (r : Runs f js i a) (s : Runs h i i2 a2) (t : Runs g a x y) where
  pub runs_then : Runs (then_by h g f) js i2 (a2 ++ (x ++ y))
  runs_then = record {
    done = λ n lists j k below. rows_done h g f (lists k) (whole n lists j k below);
    idle = λ n lists j.
        moved (IsShare n) n i2 (λ k. each_with false h (each_with false f (lists k))) (λ k. each_with false (then_by h g f) (lists k))
        (λ k below. same_list _ _ (sym (rows_idle h g f (lists k) (whole n lists j k below))))
        (s.idle n (λ k. each_with false f (lists k)) (r.idle n lists j));
    acted = λ n lists j.
        let idles : ℕ → List Monomial = λ k. each_with false f (lists k) in
        let marked : ℕ → List Monomial = λ k. each_with true f (lists k) in
        moved (IsShare n) n (a2 ++ (x ++ y)) (λ k. each_with true h (idles k) ++ (each_with false g (marked k) ++ each_with true g (marked k))) (λ k. each_with true (then_by h g f) (lists k))
        (λ k below. IsPermutation-sym _ _ (rows_acted h g f (lists k) (whole n lists j k below)))
        (beside (IsShare n) n a2 (x ++ y) (λ k. each_with true h (idles k)) (λ k. each_with false g (marked k) ++ each_with true g (marked k))
        (s.acted n idles (r.idle n lists j))
        (beside (IsShare n) n x y (λ k. each_with false g (marked k)) (λ k. each_with true g (marked k)) (t.idle n marked (r.acted n lists j)) (t.acted n marked (r.acted n lists j))));
  }
    where
      whole : (n : ℕ) (lists : ℕ → List Monomial) → IsJoined n js lists → (k : ℕ) → k < n → AllByRecursion (IsRow h g f) (lists k)
      whole n lists j k below =
          whole_rows h g f (lists k) (r.done n lists j k below) (s.done n (λ k. each_with false f (lists k)) (r.idle n lists j) k below) (t.done n (λ k. each_with true f (lists k)) (r.acted n lists j) k below)

-- an output goes on behind its mark
marked_on : (g : Monomial → Outcome) (x : Output) → onward_by g g x ≡ onward g x
marked_on g x = by x.acted x.item
  where
    by : (acted : Bool) (m : Monomial) → onward_by g g (output acted m) ≡ behind acted (g m)
    by true m = refl
    by false m = sym (behind_false (g m))

-- What is made of terms by one and then by another.
pub runs_through : (f g : Monomial → Outcome) (js i a i2 a2 x y : List JoinedTerm) → Runs f js i a → Runs g i i2 a2 → Runs g a x y → Runs (λ m. through g (f m)) js i2 (a2 ++ (x ++ y))
runs_through f g js i a i2 a2 x y r s t =
    runs_same (then_by g g f) (λ m. through g (f m)) js i2 (a2 ++ (x ++ y)) (λ m. bind_alike (onward_by g g) (onward g) (marked_on g) (f m)) (runs_then f g g js i a i2 a2 x y r s t)

-- a statement, and then the rest
pub runs_first : (act : Monomial → Outcome) (acts : List (Monomial → Outcome)) (js i a i2 a2 x y : List JoinedTerm)
    → Runs act js i a → Runs (run_each acts) i i2 a2 → Runs (run_each acts) a x y → Runs (run_each (act ∷ acts)) js i2 (a2 ++ (x ++ y))
unfolding run_each
runs_first act acts = runs_through act (run_each acts)

-- a turn: what acted in it goes into the next one, the others leave
pub runs_turn : (n : ℕ) (once : Monomial → Outcome) (js i a x y : List JoinedTerm) → Runs once js i a → Runs (turns n once) a x y → Runs (turns (suc n) once) js i (x ++ y)
unfolding turns
runs_turn n once js i a x y r t =
    runs_same (then_by unchanged (turns n once) once) (turns (suc n) once) js i (x ++ y)
    (λ m. bind_alike (onward_by unchanged (turns n once)) (next_turn (turns n once)) (λ o. by o.acted o.item) (once m))
    (runs_then once unchanged (turns n once) js i a i [] x y r (runs_unchanged i) t)
  where
    by : (acted : Bool) (m : Monomial) → onward_by unchanged (turns n once) (output acted m) ≡ next_turn (turns n once) (output acted m)
    by true m = refl
    by false m = refl
