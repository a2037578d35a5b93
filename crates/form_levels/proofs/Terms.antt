-- What is made of the terms of joined ones, whatever their coefficients.
use Rattle.std.proofs.Common.{◌≡◌, ℕ, ◌<◌, Bool, true, false, List, [], ◌∷◌, ◌++◌, map, Option, None, refl, sym, ap, subst, ◌∙◌}
use Rattle.std.specs.Prelude.{flat_map}
use Rattle.std.specs.List.{AllByRecursion}
use Rattle.form_base.specs.declared.cause.Cause.{Cause}
use Rattle.form_frac.specs.Fraction.{Fraction}
use Rattle.form_term.specs.Term.{Term}
use Rattle.form_term.specs.declared.monomial.Monomial.{Monomial}
use Rattle.form_expand.specs.Listing.{Listing}
use Rattle.form_gathered.specs.Joined.{Share, IsShare, IsJoined, members, share_members}
use Rattle.form_gathered.specs.declared.joined.JoinedTerm.{JoinedTerm}
use Rattle.form_gathered.proofs.Joining.{none_stand, moved}
use Rattle.form_gathered.proofs.Shuffled.{same_list, all_moved, all_joined}
use Rattle.form_joined.specs.Goes.{Goes, each_on}
use Rattle.form_joined.proofs.Mapped.{all_weaker, flat_map_same}
use Rattle.form_flow.specs.Outcome.{output, Outcome, end_of, gone, made}
use Rattle.form_levels.specs.Runs.{items_with, each_with, IsDone, IsFine, Runs}

-- ---- their terms

module _ (P : Term → Type 0) where
  of_members : (t : Term) (cs : List Fraction) → P t → AllByRecursion (λ m. P m.term) (members t cs)
  of_members t [] h = tt
  of_members t (c ∷ cs) h = (h, of_members t cs h)

  of_shares : (k : ℕ) (ss : List Share) → AllByRecursion (λ j. P j.term) (map (λ (s : Share). s.joined) ss) → AllByRecursion (λ m. P m.term) (flat_map (share_members k) ss)
  of_shares k [] h = tt
  of_shares k (s ∷ ss) h = all_joined (λ m. P m.term) (share_members k s) (flat_map (share_members k) ss) (of_members s.joined.term (s.parts k) h.0) (of_shares k ss h.1)

  -- what holds of the joined terms' terms holds of those of each list
  pub terms_hold : (n : ℕ) (js : List JoinedTerm) (lists : ℕ → List Monomial) → AllByRecursion (λ j. P j.term) js → IsJoined n js lists → (k : ℕ) → k < n → AllByRecursion (λ m. P m.term) (lists k)
  terms_hold n js lists all h k below =
      all_moved (λ m. P m.term) (flat_map (share_members k) h.shares) (lists k) (h.whole k below) (of_shares k h.shares (subst (AllByRecursion (λ j. P j.term)) (sym h.joined) all))

-- ---- the same of each term of theirs

module _ (go by : Monomial → Outcome) where
  fine_by : (ms : List Monomial) → AllByRecursion (λ m. go m ≡ by m) ms → AllByRecursion (IsFine by) ms → AllByRecursion (IsFine go) ms
  fine_by [] e h = tt
  fine_by (m ∷ ms) e h = (subst (λ (o : Outcome). IsDone o.end) (sym e.0) h.0, fine_by ms e.1 h.1)

  each_by : (acted : Bool) (ms : List Monomial) → AllByRecursion (λ m. go m ≡ by m) ms → each_with acted by ms ≡ each_with acted go ms
  each_by acted ms e =
      flat_map_same (λ m. items_with acted (by m).outputs) (λ m. items_with acted (go m).outputs) ms
      (all_weaker (λ m. go m ≡ by m) (λ m. items_with acted (by m).outputs ≡ items_with acted (go m).outputs) (λ m f. ap (λ (o : Outcome). items_with acted o.outputs) (sym f)) ms e)

  pub runs_by : (P : Term → Type 0) (js i a : List JoinedTerm) → AllByRecursion (λ j. P j.term) js → ((m : Monomial) → P m.term → go m ≡ by m) → Runs by js i a → Runs go js i a
  runs_by P js i a all e x = record {
    done = λ n lists h k below. fine_by (lists k) (alike n lists h k below) (x.done n lists h k below);
    idle = λ n lists h. moved (IsShare n) n i (λ k. each_with false by (lists k)) (λ k. each_with false go (lists k)) (λ k below. same_list _ _ (each_by false (lists k) (alike n lists h k below))) (x.idle n lists h);
    acted = λ n lists h. moved (IsShare n) n a (λ k. each_with true by (lists k)) (λ k. each_with true go (lists k)) (λ k below. same_list _ _ (each_by true (lists k) (alike n lists h k below))) (x.acted n lists h);
  }
    where
      alike : (n : ℕ) (lists : ℕ → List Monomial) → IsJoined n js lists → (k : ℕ) → k < n → AllByRecursion (λ m. go m ≡ by m) (lists k)
      alike n lists h k below = all_weaker (λ m. P m.term) (λ m. go m ≡ by m) e (lists k) (terms_hold P n js lists all h k below)

-- ---- discarded, and made into lists

pub runs_gone : (js : List JoinedTerm) → Runs (λ m. gone) js [] []
runs_gone js = record {
  done = λ n lists h k below. all_fine (lists k);
  idle = nothing false;
  acted = nothing true;
}
  where
    all_fine : (ms : List Monomial) → AllByRecursion (IsFine (λ m. gone)) ms
    all_fine [] = tt
    all_fine (m ∷ ms) = (tt, all_fine ms)

    none : (acted : Bool) (ms : List Monomial) → each_with acted (λ m. gone) ms ≡ []
    none acted [] = refl
    none acted (m ∷ ms) = none acted ms

    nothing : (acted : Bool) (n : ℕ) (lists : ℕ → List Monomial) → IsJoined n js lists → IsJoined n [] (λ k. each_with acted (λ m. gone) (lists k))
    nothing acted n lists h = moved (IsShare n) n [] (λ k. []) (λ k. each_with acted (λ m. gone) (lists k)) (λ k below. same_list [] _ (sym (none acted (lists k)))) (none_stand (IsShare n) n)

made_idle : (ms : List Monomial) → items_with false (map (output true) ms) ≡ []
made_idle [] = refl
made_idle (m ∷ ms) = made_idle ms

made_acted : (ms : List Monomial) → items_with true (map (output true) ms) ≡ ms
made_acted [] = refl
made_acted (m ∷ ms) = ap (λ l. m ∷ l) (made_acted ms)

module _ (go : Monomial → Listing) where
  made_fine : (ms : List Monomial) → AllByRecursion (λ m. (go m).end ≡ None) ms → AllByRecursion (IsFine (λ m. made (go m))) ms
  made_fine [] h = tt
  made_fine (m ∷ ms) h = (subst (λ (end : Option Cause). IsDone (end_of true end)) (sym h.0) tt, made_fine ms h.1)

  each_idle : (ms : List Monomial) → each_with false (λ m. made (go m)) ms ≡ []
  each_idle [] = refl
  each_idle (m ∷ ms) = ap (λ l. l ++ each_with false (λ m. made (go m)) ms) (made_idle (go m).terms) ∙ each_idle ms

  each_acted : (ms : List Monomial) → each_with true (λ m. made (go m)) ms ≡ each_on go ms
  each_acted [] = refl
  each_acted (m ∷ ms) = ap (λ l. l ++ each_with true (λ m. made (go m)) ms) (made_acted (go m).terms) ∙ ap (λ l. (go m).terms ++ l) (each_acted ms)

  -- a list is made of each term
  pub runs_made : (js ks : List JoinedTerm) → Goes go js ks → Runs (λ m. made (go m)) js [] ks
  runs_made js ks g = record {
    done = λ n lists h k below. made_fine (lists k) (g.ended n lists h k below);
    idle = λ n lists h. moved (IsShare n) n [] (λ k. []) (λ k. each_with false (λ m. made (go m)) (lists k)) (λ k below. same_list [] _ (sym (each_idle (lists k)))) (none_stand (IsShare n) n);
    acted = λ n lists h. moved (IsShare n) n ks (λ k. each_on go (lists k)) (λ k. each_with true (λ m. made (go m)) (lists k)) (λ k below. same_list _ _ (sym (each_acted (lists k)))) (g.made n lists h);
  }
