-- Joined terms that are added to others.
use Rattle.std.proofs.Common.{◌≡◌, ◌<◌, ℕ, zero, suc, Bool, true, false, List, [], ◌∷◌, ◌++◌, None, Result, Ok, refl, sym, subst, ap, ◌∙◌, append_assoc, append-nil, arith}
use Rattle.std.specs.Prelude.{flat_map}
use Rattle.std.specs.List.{AllByRecursion}
use Rattle.std.specs.List.Sorted.{IsPermutation}
use Rattle.std.proofs.lemmas.List.Sorted.{IsPermutation-refl, IsPermutation-trans, IsPermutation-append_right}
use Rattle.form_term.specs.declared.monomial.Monomial.{Monomial}
use Rattle.form_gathered.specs.Joined.{HasSum, HaveSums, StandFor}
use Rattle.form_gathered.specs.declared.joined.JoinedTerm.{JoinedTerm}
use Rattle.form_gathered.proofs.Joining.{beside, moved, none_stand, split}
use Rattle.form_expand.specs.Listing.{Listing}
use Rattle.form_flow.specs.Statement.{Compiled}
use Rattle.form_flow.specs.Statements.{outputs}
use Rattle.form_levels.specs.Outputs.{HasOutputs}
use Rattle.form_module.specs.Module.{through, through_each}
use Rattle.form_module.specs.Summed.{AreTogetherIf, IsPut}
use Rattle.form_module.specs.declared.result_error.ResultError.{ResultError}
use Rattle.form_module.proofs.Taken.{all_of, followed_done}

-- ---- joined terms and the lists that they have the sums of

pub none_summed : HaveSums [] []
none_summed = none_stand (HasSum 1) 1

-- lists by number, of which the first alone is meant
at_first : (lists : ℕ → List Monomial) (k : ℕ) → k < 1 → IsPermutation (lists k) (lists 0)
at_first lists zero lt = IsPermutation-refl (lists 0)
at_first lists (suc k) lt = absurd (omega (arith, lt))

pub of_first : (js : List JoinedTerm) (lists : ℕ → List Monomial) → StandFor (HasSum 1) 1 js lists → HaveSums js (lists 0)
of_first js lists h = moved (HasSum 1) 1 js lists (λ k. lists 0) (at_first lists) h

pub regrouped : (p q r s t : List Monomial) → IsPermutation (q ++ r) s → IsPermutation (p ++ s) t → IsPermutation ((p ++ q) ++ r) t
regrouped p q r s t h g = IsPermutation-trans ((p ++ q) ++ r) (p ++ s) t (rw (append_assoc p q r) (IsPermutation-append_right p (q ++ r) s h)) g

beside_summed : (js ks : List JoinedTerm) (a b : List Monomial) → HaveSums js a → HaveSums ks b → HaveSums (js ++ ks) (a ++ b)
beside_summed js ks a b h g = beside (HasSum 1) 1 js ks (λ k. a) (λ k. b) h g

-- ---- joined terms that are added to others one by one

module _ (old terms : List JoinedTerm) where
  -- what is in the table and what is left have the sums of all that both had the sums of
  abbrev pub HaveAll : List JoinedTerm → List JoinedTerm → Type 0
  HaveAll now left = (a b : List Monomial) → HaveSums old a → HaveSums terms b → HaveSums (now ++ left) (a ++ b)

  pub none_added : (left : List JoinedTerm) → left ≡ terms → HaveAll old left
  none_added left e = λ a b h g. subst (λ ks. HaveSums (old ++ ks) (a ++ b)) (sym e) (beside_summed old terms a b h g)

  module _ (now new left rest : List JoinedTerm) (item : JoinedTerm) (adds : (a b : List Monomial) → HaveSums now a → HaveSums (item ∷ []) b → HaveSums new (a ++ b)) where
    one_more : (list : List Monomial) → HaveSums (now ++ item ∷ rest) list → HaveSums (new ++ rest) list
    one_more list h =
        let first = split (HasSum 1) 1 now (item ∷ rest) (λ k. list) h in
        let second = split (HasSum 1) 1 (item ∷ []) rest first.second first.right in
        let a = first.first 0 in
        let b = second.first 0 in
        let c = second.second 0 in
        moved (HasSum 1) 1 (new ++ rest) (λ k. (a ++ b) ++ c) (λ k. list) (λ k lt. regrouped a b c (first.second 0) list (second.whole 0 (omega arith)) (first.whole 0 (omega arith)))
        (beside_summed new rest (a ++ b) c (adds a b (of_first now first.first first.left) (of_first (item ∷ []) second.first second.left)) (of_first rest second.second second.right))

    pub one_added : left ≡ item ∷ rest → HaveAll now left → HaveAll new rest
    one_added e all = λ a b h g. one_more (a ++ b) (subst (λ ks. HaveSums (now ++ ks) (a ++ b)) e (all a b h g))

  pub all_added : (now left : List JoinedTerm) → left ≡ [] → HaveAll now left → AreTogetherIf old terms now true
  all_added now left none all = λ a b h g. subst (λ ks. HaveSums ks (a ++ b)) (ap (λ ks. now ++ ks) none ∙ append-nil now) (all a b h g)

-- a list's outputs, as they are added
pub by_outputs : (made left : Listing) (old new : List JoinedTerm) (r : Result Bool ResultError) → left ≡ made → IsPut left old new r → IsPut made old new r
by_outputs made left old new r is put = subst (λ (l : Listing). IsPut l old new r) is put

-- ---- inputs that are carried out joined

-- what is made of terms of which none is refused
pub through_whole : (go : Monomial → Listing) (ms : List Monomial) → AllByRecursion (λ m. (go m).end ≡ None) ms → through go (all_of ms) ≡ all_of (flat_map (λ m. (go m).terms) ms)
unfolding through_each
through_whole go [] ends = refl
through_whole go (m ∷ ms) ends =
    followed_done (go m) (through go (all_of ms)) ends.0 ∙ ap (λ (l : Listing). record { terms = (go m).terms ++ l.terms; end = l.end }) (through_whole go ms ends.1)

pub inputs_put : (c : Compiled) (ms : List Monomial) (js old new : List JoinedTerm) (b : Bool) → HasOutputs c ms js → AreTogetherIf old js new b → IsPut (through (outputs c) (all_of ms)) old new (Ok b)
inputs_put c ms js old new true has both =
    let whole = through_whole (outputs c) ms has.ended in (
      ap (λ (l : Listing). l.end) whole,
      λ list h. subst (λ ns. HaveSums new (list ++ ns)) (sym (ap (λ (l : Listing). l.terms) whole)) (both list (flat_map (λ m. (outputs c m).terms) ms) h has.sums),
    )
inputs_put c ms js old new false has both = tt
