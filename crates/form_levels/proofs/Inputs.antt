-- The outputs of inputs of which each is a list by itself.
use Rattle.std.proofs.Common.{◌≡◌, ℕ, zero, suc, ◌<◌, ◌≤◌, List, [], ◌∷◌, ◌++◌, length, take, drop, None, refl, sym, ap, subst, ◌∙◌, length-append, arith}
use Rattle.std.specs.Prelude.{flat_map}
use Rattle.std.specs.List.{AllByRecursion}
use Rattle.form_term.specs.declared.monomial.Monomial.{Monomial}
use Rattle.form_expand.specs.Listing.{Listing, limited}
use Rattle.form_expand.proofs.Listings.{limited_within}
use Rattle.form_gathered.specs.Joined.{IsJoined, HaveSums, alone, counted, in_row}
use Rattle.form_gathered.specs.declared.joined.JoinedTerm.{JoinedTerm}
use Rattle.form_gathered.proofs.Gathered.{sums_of_row, length_counted}
use Rattle.form_joined.proofs.Mapped.{all_weaker, both_hold, flat_map_same, flat_map_in_row}
use Rattle.form_flow.specs.Outcome.{Ended, done, refused, Outcome, cause_of, listing_of}
use Rattle.form_levels.specs.Runs.{items, each_output, IsDone, IsFine, Comes}

-- ---- each by itself

next_taken : {A : Type 0} (n : ℕ) (xs : List A) → take n xs ++ take 1 (drop n xs) ≡ take (suc n) xs
next_taken zero xs = refl
next_taken (suc n) [] = refl
next_taken (suc n) (x ∷ xs) = ap (λ l. x ∷ l) (next_taken n xs)

row_alone : (n : ℕ) (list : List Monomial) → in_row n (alone list) ≡ take n list
row_alone zero list = refl
row_alone (suc n) list = ap (λ l. l ++ alone list n) (row_alone n list) ∙ next_taken n list

all_taken : {A : Type 0} (xs : List A) → take (length xs) xs ≡ xs
all_taken [] = refl
all_taken (x ∷ xs) = ap (λ l. x ∷ l) (all_taken xs)

-- a list made of each, in a row
made_alone : (by : Monomial → List Monomial) (list : List Monomial) → in_row (length list) (λ k. flat_map by (alone list k)) ≡ flat_map by list
made_alone by list =
    sym (flat_map_in_row by (length list) (alone list)) ∙ ap (flat_map by) (row_alone (length list) list ∙ all_taken list)

each_alone : (P : Monomial → Type 0) (list : List Monomial) → ((k : ℕ) → k < length list → AllByRecursion P (alone list k)) → AllByRecursion P list
each_alone P [] h = tt
each_alone P (m ∷ ms) h = ((h 0 (omega arith)).0, each_alone P ms (λ k below. h (suc k) (omega (arith, below))))

-- ---- their outputs

abbrev IsWithin : ℕ → (Monomial → Outcome) → Monomial → Type 0
IsWithin max go m = length (items (go m).outputs) ≤ max

within_each : (max : ℕ) (go : Monomial → Outcome) (ms : List Monomial) → length (each_output go ms) ≤ max → AllByRecursion (IsWithin max go) ms
within_each max go [] h = tt
within_each max go (m ∷ ms) h =
    let long = length-append (items (go m).outputs) (each_output go ms) in
    (omega (arith, h, long), within_each max go ms (omega (arith, h, long)))

no_cause : (e : Ended) → IsDone e → cause_of e ≡ None
no_cause (done acted) h = refl
no_cause (refused cause) h = absurd h

-- the list of an input that isn't refused
abbrev IsList : ℕ → (Monomial → Outcome) → Monomial → Type 0
IsList max go m = limited max (listing_of (go m)) ≡ record { terms = items (go m).outputs; end = None }

is_list : (max : ℕ) (go : Monomial → Outcome) (m : Monomial) → IsFine go m × IsWithin max go m → IsList max go m
is_list max go m h =
    let end = no_cause (go m).end h.0 in
    limited_within max (listing_of (go m)) h.1 ∙ (λ i. record { terms = items (go m).outputs; end = end i })

module _ (max : ℕ) (go : Monomial → Outcome) (inputs : List Monomial) (js ks : List JoinedTerm) (joined : IsJoined (length inputs) js (alone inputs)) (r : Comes go js ks) (few : counted ks ≤ max) where
  made : IsJoined (length inputs) ks (λ k. each_output go (alone inputs k))
  made = r.made (length inputs) (alone inputs) joined

  within : (k : ℕ) → k < length inputs → AllByRecursion (IsWithin max go) (alone inputs k)
  within k below =
      let few_of = length_counted (length inputs) k below ks (λ k. each_output go (alone inputs k)) made in
      within_each max go (alone inputs k) (omega (arith, few_of, few))

  all_lists : AllByRecursion (IsList max go) inputs
  all_lists =
      all_weaker (λ m. IsFine go m × IsWithin max go m) (IsList max go) (is_list max go) inputs
      (both_hold (IsFine go) (IsWithin max go) inputs (each_alone (IsFine go) inputs (r.done (length inputs) (alone inputs) joined)) (each_alone (IsWithin max go) inputs within))

  pub inputs_done : AllByRecursion (λ m. (limited max (listing_of (go m))).end ≡ None) inputs
  inputs_done = all_weaker (IsList max go) (λ m. (limited max (listing_of (go m))).end ≡ None) (λ m e. ap (λ (l : Listing). l.end) e) inputs all_lists

  pub sums_of_outputs : HaveSums ks (flat_map (λ m. (limited max (listing_of (go m))).terms) inputs)
  sums_of_outputs =
      let same = flat_map_same (λ m. items (go m).outputs) (λ m. (limited max (listing_of (go m))).terms) inputs
      (all_weaker (IsList max go) (λ m. items (go m).outputs ≡ (limited max (listing_of (go m))).terms) (λ m e. sym (ap (λ (l : Listing). l.terms) e)) inputs all_lists) in
      subst (HaveSums ks) (made_alone (λ m. items (go m).outputs) inputs ∙ same) (sums_of_row (length inputs) ks (λ k. each_output go (alone inputs k)) made)
