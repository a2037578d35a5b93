-- The terms at the places of sorted keys are the terms in their order.
use Rattle.std.proofs.Common.{◌≡◌, ℕ, suc, ◌+◌, ◌<◌, ◌≤◌, Bool, true, false, List, [], ◌∷◌, ◌++◌, map, length, get_or, set, fold, drop, refl, ap, sym, ◌∙◌, subst, arith, append_assoc, append-nil}
use Rattle.std.specs.Prelude.{All, min, if◌then◌else◌}
use Rattle.std.specs.List.{AllByRecursion, IsDistinct, list_all, slice_get}
use Rattle.std.specs.List.Sorted.{IsPermutation, IsSorted}
use Rattle.std.specs.Cmp.{IsTotalOrder, ranked}
use Rattle.std.specs.Cmp.Lexicographic.{options_total}
use Rattle.std.specs.Ordering.{nat_cmp, is_lt, ordering_reverse, MatchOrdering}
use Rattle.std.specs.declared.cmp.Ordering.{Ordering}
use Rattle.std.specs.declared.cmp.Ordering.TheVariants.{Less, Equal, Greater}
use Rattle.std.proofs.lemmas.Bool.{eqb-false, ne_eqb}
use Rattle.std.proofs.lemmas.Cmp.{nat_cmp_total, nat_eq_equiv, on_total, then_total}
use Rattle.std.proofs.lemmas.List.{length-map, length-set, get_or-map, get_or-set_other, drop_more, drop_all}
use Rattle.std.proofs.lemmas.List.Elements.{All-from_recursion, recursion_from_All}
use Rattle.std.proofs.lemmas.List.Sorted.{IsPermutation-map, All-permutation, length_permutation}
use Rattle.std.proofs.lemmas.Map.Keys.{IsDistinct-IsPermutation, IsDistinct-head, IsDistinct-tail}
use Rattle.std.proofs.lemmas.Option.{slice_get-get_or}
use Rattle.form_term.specs.Term.{RiseFrom}
use Rattle.form_term.specs.PowerLaws.{rise_lower}
use Rattle.form_term.specs.TermLaws.{order_total}
use Rattle.form_term.specs.Monomial.{unit}
use Rattle.form_term.specs.declared.monomial.Monomial.{Monomial}
use Rattle.form_collect.specs.Keys.{AreSorted, first_of, first_symbol, is_whole, item_at, key_of, keyed_order, keys_from, same_place, term_order, tie_of}
use Rattle.form_collect.specs.declared.sorting.Keyed.{Keyed}
use Rattle.form_collect.proofs.Digits.{keys_rise}
use Rattle.form_collect.proofs.Ties.{ties_rise, all_from}

pub term_order_total : IsTotalOrder term_order
term_order_total = on_total (λ (m : Monomial). m.term) order_total

pub keyed_order_total : (terms : List Monomial) → IsTotalOrder (keyed_order terms)
keyed_order_total terms = then_total (on_total (λ (k : Keyed). k.key) nat_cmp_total) (then_total (on_total (λ (k : Keyed). k.tie) nat_cmp_total) (on_total (λ (k : Keyed). slice_get terms k.place) (options_total term_order_total)))

-- none of a term's symbols is before this one
abbrev pub Rises : ℕ → Monomial → Type 0
Rises first m = RiseFrom first m.term.symbols

-- where ties tell something, the key of this term tells all that is before functions
abbrev pub Tells : ℕ → Bool → Monomial → Type 0
Tells first told m = told ≡ true → is_whole first m.term ≡ true

-- these are the key and the tie of the term at its place
record IsKeyOf (first : ℕ) (told : Bool) (terms : List Monomial) (k : Keyed) : Type 0 where
  within : k.place < length terms
  key : k.key ≡ key_of first (item_at terms k).term
  tie : k.tie ≡ (if told then tie_of (item_at terms k).term else 0)
  rises : Rises first (item_at terms k)
  tells : Tells first told (item_at terms k)

-- keys of terms stand as the terms do
as_terms : (first : ℕ) (told : Bool) (terms : List Monomial) (x y : Keyed) → IsKeyOf first told terms x → IsKeyOf first told terms y → keyed_order terms x y ≡ term_order (item_at terms x) (item_at terms y)
as_terms first told terms x y h k = by (nat_cmp x.key y.key) refl (ranked x.key y.key (nat_cmp x.key y.key) refl)
  where
    t : Monomial
    t = item_at terms x

    u : Monomial
    u = item_at terms y

    -- where a tie is lower and the keys are equal
    lower : {a b : Keyed} → IsKeyOf first told terms a → IsKeyOf first told terms b → a.key ≡ b.key → a.tie < b.tie → term_order (item_at terms a) (item_at terms b) ≡ Less
    lower {a} {b} l r same below =
        let v = (item_at terms a).term in
        let w = (item_at terms b).term in
        ties_rise first told v w l.rises r.rises l.tells r.tells (sym l.key ∙ same ∙ r.key) (omega (arith, below, l.tie, r.tie))

    tied : x.key ≡ y.key → nat_cmp x.key y.key ≡ Equal → (r : Ordering) → nat_cmp x.tie y.tie ≡ r → MatchOrdering r (x.tie < y.tie) (x.tie ≡ y.tie) (y.tie < x.tie) → keyed_order terms x y ≡ term_order t u
    tied same e Less f below = rw (e, f) (sym (lower h k same below))
    tied same e Greater f above = rw (e, f) (sym (order_total.antisymm t.term u.term ∙ ap ordering_reverse (lower k h (sym same) above)))
    tied same e Equal f equal = rw (e, f, slice_get-get_or terms x.place unit h.within, slice_get-get_or terms y.place unit k.within) refl

    by : (r : Ordering) → nat_cmp x.key y.key ≡ r → MatchOrdering r (x.key < y.key) (x.key ≡ y.key) (y.key < x.key) → keyed_order terms x y ≡ term_order t u
    by Less e below = rw e (sym (keys_rise first t.term u.term h.rises k.rises (omega (arith, below, h.key, k.key))))
    by Greater e above = rw e (sym (order_total.antisymm t.term u.term ∙ ap ordering_reverse (keys_rise first u.term t.term k.rises h.rises (omega (arith, above, h.key, k.key)))))
    by Equal e same = tied same e (nat_cmp x.tie y.tie) refl (ranked x.tie y.tie (nat_cmp x.tie y.tie) refl)

-- these terms stand at the end of others, from a place on
record StandFrom (terms : List Monomial) (place : ℕ) (ms : List Monomial) : Type 0 where
  item : (i : ℕ) → get_or terms (place + i) unit ≡ get_or ms i unit
  long : place + length ms ≡ length terms

all_stand : (terms : List Monomial) → StandFrom terms 0 terms
all_stand terms = record { item = λ i. let e : 0 + i ≡ i = omega arith in ap (λ n. get_or terms n unit) e; long = omega arith }

module _ (terms : List Monomial) (place : ℕ) (m : Monomial) (ms : List Monomial) (s : StandFrom terms place (m ∷ ms)) where
  here : get_or terms place unit ≡ m
  here = let e : place ≡ place + 0 = omega arith in ap (λ n. get_or terms n unit) e ∙ s.item 0

  next : StandFrom terms (suc place) ms
  next = record { item = λ i. let e : suc place + i ≡ place + suc i = omega arith in ap (λ n. get_or terms n unit) e ∙ s.item (suc i); long = let h = s.long in omega arith }

keys_lawful : (first : ℕ) (told : Bool) (terms : List Monomial) (place : ℕ) (ms : List Monomial) → StandFrom terms place ms → AllByRecursion (Rises first) ms → AllByRecursion (Tells first told) ms → AllByRecursion (IsKeyOf first told terms) (keys_from first told place ms)
keys_lawful first told terms place [] s h w = tt
keys_lawful first told terms place (m ∷ ms) s h w =
    let at = here terms place m ms s in
    (record { within = let l = s.long in omega arith; key = ap (λ (x : Monomial). key_of first x.term) (sym at); tie = ap (λ (x : Monomial). if told then tie_of x.term else 0) (sym at); rises = subst (Rises first) (sym at) h.0; tells = subst (Tells first told) (sym at) w.0 }, keys_lawful first told terms (suc place) ms (next terms place m ms s) h.1 w.1)

terms_again : (first : ℕ) (told : Bool) (terms : List Monomial) (place : ℕ) (ms : List Monomial) → StandFrom terms place ms → map (item_at terms) (keys_from first told place ms) ≡ ms
terms_again first told terms place [] s = refl
terms_again first told terms place (m ∷ ms) s = rw (here terms place m ms s, terms_again first told terms (suc place) ms (next terms place m ms s)) refl

apart_from : (first : ℕ) (told : Bool) (k : Keyed) (place : ℕ) (ms : List Monomial) → k.place < place → AllByRecursion (λ u. same_place k u ≡ false) (keys_from first told place ms)
apart_from first told k place [] h = tt
apart_from first told k place (m ∷ ms) h = (ne_eqb k.place place (λ e. omega (arith, e, h)), apart_from first told k (suc place) ms (omega (arith, h)))

keys_apart : (first : ℕ) (told : Bool) (place : ℕ) (ms : List Monomial) → IsDistinct same_place (keys_from first told place ms)
unfolding IsDistinct
keys_apart first told place [] = tt
keys_apart first told place (m ∷ ms) = (apart_from first told (record { key = key_of first m.term; tie = if told then tie_of m.term else 0; place = place }) (suc place) ms (omega arith), keys_apart first told (suc place) ms)

places_flip : (x y : Keyed) → same_place x y ≡ same_place y x
places_flip x y = nat_eq_equiv.symm x.place y.place

-- where ties tell something, all of the keys do
all_tell : (first : ℕ) (told : Bool) (terms : List Monomial) → told ≡ list_all (λ m. is_whole first m.term) terms → AllByRecursion (Tells first told) terms
all_tell first told terms e = by terms (λ yes. all_from (λ (m : Monomial). is_whole first m.term) terms (sym yes ∙ e))
  where
    by : (ms : List Monomial) → (told ≡ true → AllByRecursion (λ m. is_whole first m.term ≡ true) ms) → AllByRecursion (Tells first told) ms
    by [] h = tt
    by (m ∷ ms) h = (λ yes. (h yes).0, by ms (λ yes. (h yes).1))

-- the keys of terms, and what is made of them by a sort
module _ (first : ℕ) (told : Bool) (terms : List Monomial) (keys moved : List Keyed) (rise : All (Rises first) terms) (whole : told ≡ list_all (λ m. is_whole first m.term) terms) (made : keys ≡ keys_from first told 0 terms) (same : IsPermutation keys moved) where
  all_lawful : All (IsKeyOf first told terms) moved
  all_lawful = All-permutation (IsKeyOf first told terms) keys moved same (subst (λ (ks : List Keyed). All (IsKeyOf first told terms) ks) (sym made) (All-from_recursion (IsKeyOf first told terms) (keys_from first told 0 terms) (keys_lawful first told terms 0 terms (all_stand terms) (recursion_from_All (Rises first) terms rise) (all_tell first told terms whole))))

  pub moved_within : All (λ k. k.place < length terms) moved
  moved_within = λ k d below. (all_lawful k d below).within

  pub moved_long : length moved ≡ length terms
  moved_long = length_permutation keys moved same ∙ ap length made ∙ keys_long 0 terms
    where
      keys_long : (place : ℕ) (ms : List Monomial) → length (keys_from first told place ms) ≡ length ms
      keys_long place [] = refl
      keys_long place (m ∷ ms) = ap suc (keys_long (suc place) ms)

  pub moved_inside : All (λ k. k.place < length moved) moved
  moved_inside = λ k d below. let inside = (all_lawful k d below).within in omega (arith, moved_long, inside)

  pub moved_apart : IsDistinct same_place moved
  moved_apart = IsDistinct-IsPermutation same_place places_flip keys moved same (subst (λ (ks : List Keyed). IsDistinct same_place ks) (sym made) (keys_apart first told 0 terms))

  still_sorted : IsSorted (keyed_order terms) moved → IsSorted term_order (map (item_at terms) moved)
  still_sorted sorted = λ k d low below.
      let none : Keyed = record { key = 0; tie = 0; place = 0 } in
      let long = length-map moved (item_at terms) in
      let x = get_or moved k none in
      let y = get_or moved (k + 1) none in
      let inside : k + 1 < length moved = omega (arith, below, long) in
      let first_is = get_or-map (item_at terms) moved k none d (omega (arith, inside)) in
      let next_is = get_or-map (item_at terms) moved (k + 1) none d inside in
      let alike = as_terms first told terms y x (all_lawful (k + 1) none inside) (all_lawful k none (omega (arith, inside))) in
      ap (λ (z : Monomial). is_lt (term_order z (get_or (map (item_at terms) moved) k d))) next_is
      ∙ ap (λ (z : Monomial). is_lt (term_order (item_at terms y) z)) first_is
      ∙ sym (ap is_lt alike)
      ∙ sorted k none low inside

  -- the terms at the places of sorted keys are sorted
  pub in_order : (list : List Monomial) → IsSorted (keyed_order terms) moved → list ≡ map (item_at terms) moved → AreSorted terms list
  in_order list sorted is =
      let at_keys : map (item_at terms) keys ≡ terms = ap (map (item_at terms)) made ∙ terms_again first told terms 0 terms (all_stand terms) in
      let permuted : IsPermutation terms (map (item_at terms) moved) = subst (λ (ms : List Monomial). IsPermutation ms (map (item_at terms) moved)) at_keys (IsPermutation-map (item_at terms) keys moved same) in
      subst (λ (ms : List Monomial). AreSorted terms ms) (sym is) (record { moved = permuted; rising = still_sorted sorted })

-- what is made so far, and the terms at the places that are left, make up the terms at all places
pub record IsTaken (terms now list : List Monomial) (keys left : List Keyed) : Type 0 where
  made : list ++ map (item_at now) left ≡ map (item_at terms) keys
  within : AllByRecursion (λ k. k.place < length now) left
  apart : IsDistinct same_place left

-- a term that is taken is at no other place
others_kept : (now : List Monomial) (k : Keyed) (left : List Keyed) → AllByRecursion (λ u. same_place k u ≡ false) left → map (item_at (set now k.place unit)) left ≡ map (item_at now) left
others_kept now k [] h = refl
others_kept now k (u ∷ us) h =
    let other = eqb-false k.place u.place h.0 in
    rw (get_or-set_other now k.place u.place unit unit (λ e. other (sym e)), others_kept now k us h.1) refl

module _ (terms : List Monomial) (keys : List Keyed) where
  pub none_taken : All (λ k. k.place < length terms) keys → IsDistinct same_place keys → IsTaken terms terms [] keys keys
  none_taken within apart = record { made = refl; within = recursion_from_All (λ (k : Keyed). k.place < length terms) keys within; apart = apart }

  all_taken : (now list : List Monomial) → IsTaken terms now list keys [] → list ≡ map (item_at terms) keys
  all_taken now list h = sym (append-nil list) ∙ h.made

  pub taken_end : (now list : List Monomial) (i : ℕ) → length keys ≤ i → IsTaken terms now list keys (drop i keys) → list ≡ map (item_at terms) keys
  taken_end now list i past h = all_taken now list (subst (λ (ks : List Keyed). IsTaken terms now list keys ks) (drop_all i keys past) h)

  module _ (now list : List Monomial) where
    next_taken : (k : Keyed) (left : List Keyed) → IsTaken terms now list keys (k ∷ left) → IsTaken terms (set now k.place unit) (list ++ item_at now k ∷ []) keys left
    next_taken k left h =
        let apart = IsDistinct-head same_place k left h.apart in
        record {
          made = append_assoc list (item_at now k ∷ []) (map (item_at (set now k.place unit)) left) ∙ ap (λ (ms : List Monomial). list ++ item_at now k ∷ ms) (others_kept now k left apart) ∙ h.made;
          within = subst (λ (n : ℕ). AllByRecursion (λ (u : Keyed). u.place < n) left) (sym (length-set now k.place unit)) h.within.1;
          apart = IsDistinct-tail same_place k left h.apart;
        }

    module _ (i : ℕ) (k : Keyed) (inside : i < length keys) (d : Keyed) (at : k ≡ get_or keys i d) (h : IsTaken terms now list keys (drop i keys)) where
      more : drop i keys ≡ k ∷ drop (i + 1) keys
      more = drop_more keys i d inside ∙ ap (λ (x : Keyed). x ∷ drop (i + 1) keys) (sym at)

      again : IsTaken terms now list keys (k ∷ drop (i + 1) keys)
      again = subst (λ (ks : List Keyed). IsTaken terms now list keys ks) more h

      pub place_within : k.place < length now
      place_within = again.within.0

      pub taken_next : IsTaken terms (set now k.place unit) (list ++ item_at now k ∷ []) keys (drop (i + 1) keys)
      taken_next = next_taken k (drop (i + 1) keys) again

-- the keys so far, and those of the terms that are left
module _ (first : ℕ) (told : Bool) (terms : List Monomial) where
  abbrev pub AreKeys : List Keyed → ℕ → Type 0
  AreKeys keys i = keys ++ keys_from first told i (drop i terms) ≡ keys_from first told 0 terms

  pub keys_next : (keys : List Keyed) (i key tie : ℕ) (m : Monomial) → i < length terms → m ≡ get_or terms i m → key ≡ key_of first m.term → tie ≡ (if told then tie_of m.term else 0) → AreKeys keys i → AreKeys (keys ++ record { key = key; tie = tie; place = i } ∷ []) (i + 1)
  keys_next keys i key tie m inside at is ties h =
      let more : drop i terms ≡ m ∷ drop (i + 1) terms = drop_more terms i m inside ∙ ap (λ (x : Monomial). x ∷ drop (i + 1) terms) (sym at) in
      let place : i + 1 ≡ suc i = omega arith in
      append_assoc keys (record { key = key; tie = tie; place = i } ∷ []) (keys_from first told (i + 1) (drop (i + 1) terms))
      ∙ ap (λ (n : ℕ). keys ++ record { key = key; tie = tie; place = i } ∷ keys_from first told n (drop (i + 1) terms)) place
      ∙ ap (λ (n : ℕ). keys ++ record { key = n; tie = tie; place = i } ∷ keys_from first told (suc i) (drop (i + 1) terms)) is
      ∙ ap (λ (n : ℕ). keys ++ record { key = key_of first m.term; tie = n; place = i } ∷ keys_from first told (suc i) (drop (i + 1) terms)) ties
      ∙ ap (λ (ms : List Monomial). keys ++ keys_from first told i ms) (sym more)
      ∙ h

  pub keys_end : (keys : List Keyed) (i : ℕ) → length terms ≤ i → AreKeys keys i → keys ≡ keys_from first told 0 terms
  keys_end keys i past h = sym (append-nil keys) ∙ ap (λ (ms : List Monomial). keys ++ keys_from first told i ms) (sym (drop_all i terms past)) ∙ h

-- no symbol of the terms is before this one if none of those that are left is
abbrev pub StillRise : List Monomial → ℕ → ℕ → Type 0
StillRise terms first i = (lower : ℕ) → lower ≤ first → AllByRecursion (Rises lower) (drop i terms) → AllByRecursion (Rises lower) terms

module _ (terms : List Monomial) (first : ℕ) (i : ℕ) (h : StillRise terms first i) where
  pub rise_next : (m : Monomial) (own : ℕ) → i < length terms → m ≡ get_or terms i m → Rises own m → StillRise terms (min first own) (i + 1)
  rise_next m own inside at rises = λ lower below left.
      let more : m ∷ drop (i + 1) terms ≡ drop i terms = ap (λ (x : Monomial). x ∷ drop (i + 1) terms) at ∙ sym (drop_more terms i m inside) in
      h lower (omega (arith, below)) (subst (λ (ms : List Monomial). AllByRecursion (Rises lower) ms) more (rise_lower own lower m.term.symbols rises (omega (arith, below)), left))

  pub rise_end : length terms ≤ i → All (Rises first) terms
  rise_end past = All-from_recursion (Rises first) terms (h first (omega arith) (subst (λ (ms : List Monomial). AllByRecursion (Rises first) ms) (sym (drop_all i terms past)) tt))

-- the first symbol so far and those of the terms that are left give that of all terms
abbrev pub IsFirst : List Monomial → ℕ → ℕ → Type 0
IsFirst terms first i = fold (λ a m. min a (first_of m.term)) first (drop i terms) ≡ first_symbol terms

pub first_next : (terms : List Monomial) (first i : ℕ) (m : Monomial) (own : ℕ) → i < length terms → m ≡ get_or terms i m → own ≡ first_of m.term → IsFirst terms first i → IsFirst terms (min first own) (i + 1)
first_next terms first i m own inside at is h =
    let more : m ∷ drop (i + 1) terms ≡ drop i terms = ap (λ (x : Monomial). x ∷ drop (i + 1) terms) at ∙ sym (drop_more terms i m inside) in
    ap (λ (n : ℕ). fold (λ a (x : Monomial). min a (first_of x.term)) (min first n) (drop (i + 1) terms)) is
    ∙ ap (λ (ms : List Monomial). fold (λ a (x : Monomial). min a (first_of x.term)) first ms) more
    ∙ h

pub first_end : (terms : List Monomial) (first i : ℕ) → length terms ≤ i → IsFirst terms first i → first ≡ first_symbol terms
first_end terms first i past h = ap (λ (ms : List Monomial). fold (λ a (x : Monomial). min a (first_of x.term)) first ms) (sym (drop_all i terms past)) ∙ h
