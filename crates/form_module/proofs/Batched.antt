-- Joined inputs that go through the statements batch by batch.
use Rattle.std.proofs.Common.{◌≡◌, ℕ, List, [], ◌++◌, None, Some, true, refl, sym, subst, ap, ◌∙◌, append-nil, arith}
use Rattle.std.specs.Prelude.{flat_map}
use Rattle.std.specs.List.Sorted.{IsPermutation}
use Rattle.std.proofs.lemmas.List.Concat.{flat_map-append}
use Rattle.std.proofs.lemmas.List.Sorted.{IsPermutation-refl}
use Rattle.form_term.specs.declared.monomial.Monomial.{Monomial}
use Rattle.form_collect.specs.Collecting.{collected}
use Rattle.form_frac.proofs.Sums.{all_of_both, all_moved}
use Rattle.form_gathered.specs.Joined.{HasSum, HaveSums, IsJoined, in_row}
use Rattle.form_gathered.specs.declared.joined.JoinedTerm.{JoinedTerm}
use Rattle.form_gathered.proofs.Joining.{moved, none_empty, split}
use Rattle.form_gathered.proofs.Shuffled.{flat_map_moved}
use Rattle.form_expand.specs.Listing.{Listing}
use Rattle.form_flow.specs.Statement.{Compiled}
use Rattle.form_flow.specs.Statements.{outputs}
use Rattle.form_joined.specs.Products.{HasList}
use Rattle.form_levels.specs.Outputs.{HasOutputs}
use Rattle.form_module.specs.Module.{collected_list, through}
use Rattle.form_module.specs.Summed.{AreTogetherIf, ComesTo}
use Rattle.form_module.proofs.Collected.{to_the_end}
use Rattle.form_module.proofs.Summed.{none_summed, of_first, regrouped, through_whole}
use Rattle.form_module.proofs.Taken.{all_of}

module _ (c : Compiled) where
  abbrev made_of : Monomial → List Monomial
  made_of m = (outputs c m).terms

  abbrev Ends : Monomial → Type 0
  Ends m = (outputs c m).end ≡ None

  outputs_moved : (xs ys : List Monomial) (js : List JoinedTerm) → IsPermutation xs ys → HasOutputs c xs js → HasOutputs c ys js
  outputs_moved xs ys js p h = record {
    ended = all_moved Ends xs ys p h.ended;
    sums = moved (HasSum 1) 1 js (λ k. flat_map made_of xs) (λ k. flat_map made_of ys) (λ k below. flat_map_moved made_of xs ys p) h.sums;
  }

  outputs_beside : (xs ys : List Monomial) (old outs new : List JoinedTerm) → AreTogetherIf old outs new true → HasOutputs c xs old → HasOutputs c ys outs → HasOutputs c (xs ++ ys) new
  outputs_beside xs ys old outs new adds h g = record {
    ended = all_of_both Ends xs ys h.ended g.ended;
    sums = subst (HaveSums new) (sym (flat_map-append made_of xs ys)) (adds (flat_map made_of xs) (flat_map made_of ys) h.sums g.sums);
  }

  module _ (list : List Monomial) where
    -- some of the list is done, and these have the sums of what is left
    pub record IsDoneSoFar (left table : List JoinedTerm) : Type 0 where
      pub done : List Monomial
      pub rest : List Monomial
      pub has : HasOutputs c done table
      pub sums : HaveSums left rest
      pub whole : IsPermutation (done ++ rest) list

    pub none_done : (left table : List JoinedTerm) → HaveSums left list → table ≡ [] → IsDoneSoFar left table
    none_done left table h none = record {
      done = [];
      rest = list;
      has = subst (HasOutputs c []) (sym none) (record { ended = tt; sums = none_summed });
      sums = h;
      whole = IsPermutation-refl list;
    }

    pub batch_done : (left batch behind table outs new : List JoinedTerm) → batch ++ behind ≡ left → ((part : List Monomial) → HaveSums batch part → HasOutputs c part outs)
        → AreTogetherIf table outs new true → IsDoneSoFar left table → IsDoneSoFar behind new
    batch_done left batch behind table outs new is made adds h =
        let s = split (HasSum 1) 1 batch behind (λ k. h.rest) (subst (λ js. HaveSums js h.rest) (sym is) h.sums) in
        let a = s.first 0 in
        let b = s.second 0 in
        record {
          done = h.done ++ a;
          rest = b;
          has = outputs_beside h.done a table outs new adds h.has (made a (of_first batch s.first s.left));
          sums = of_first behind s.second s.right;
          whole = regrouped h.done a b h.rest list (s.whole 0 (omega arith)) h.whole;
        }

    pub all_done : (left table : List JoinedTerm) → left ≡ [] → IsDoneSoFar left table → HasOutputs c list table
    all_done left table none h =
        let rest : h.rest ≡ [] = none_empty (HasSum 1) 1 (λ k. h.rest) (subst (λ js. HaveSums js h.rest) none h.sums) 0 (omega arith) in
        outputs_moved h.done list table (subst (λ ms. IsPermutation ms list) (ap (λ ms. h.done ++ ms) rest ∙ append-nil h.done) h.whole) h.has

-- what is made of a list comes to these terms
pub list_comes : (c : Compiled) (l : Listing) (js table : List JoinedTerm) (terms : List Monomial) → ((n : ℕ) (ks : List JoinedTerm) (lists : ℕ → List Monomial) → IsJoined n ks lists → HaveSums ks (in_row n lists))
    → HasList l js → ((all : List Monomial) → HaveSums js all → HasOutputs c all table) → ((all : List Monomial) → HaveSums table all → collected all ≡ Some terms) → ComesTo c l terms
list_comes c l js table terms sums list made comes =
    let has = made l.terms (sums 1 js (λ k. l.terms) list.1) in
    let whole : l ≡ all_of l.terms = λ i. record { terms = l.terms; end = list.0 i } in
    let outs = flat_map (λ m. (outputs c m).terms) l.terms in
    ap (λ (k : Listing). collected_list (through (outputs c) k)) whole ∙ ap (λ (k : Listing). collected_list k) (through_whole (outputs c) l.terms has.ended)
    ∙ to_the_end (all_of outs) (Some terms) refl (comes outs has.sums)
