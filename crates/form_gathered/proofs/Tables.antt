-- What a table's entries stand for, as one more joined term is put among them.
use Rattle.std.proofs.Common.{◌≡◌, Bool, true, false, cond, List, [], ◌∷◌, ◌++◌, map, Option, Some, None, Result, Ok, inl, inr, refl, ap, sym, subst, ◌∙◌, append_assoc, append-nil}
use Rattle.std.specs.Prelude.{MatchOption, IfOk, ℕ}
use Rattle.std.specs.List.{AllByRecursion, IsDistinct}
use Rattle.std.specs.List.Sorted.{IsPermutation}
use Rattle.std.specs.Map.{keys_of, lookup, set_value}
use Rattle.std.specs.Cmp.{Equal-is}
use Rattle.std.proofs.lemmas.List.{map-append}
use Rattle.std.proofs.lemmas.List.Sorted.{IsPermutation-map}
use Rattle.form_frac.specs.Fraction.{is_zero}
use Rattle.form_term.specs.Term.{Term, IsTerm, order}
use Rattle.form_term.specs.TermLaws.{equal_terms}
use Rattle.form_term.specs.declared.monomial.Monomial.{Monomial}
use Rattle.form_collect.proofs.Lists.{same}
use Rattle.form_gathered.specs.declared.joined.JoinedTerm.{JoinedTerm}
use Rattle.form_gathered.specs.declared.tally.Tally.{Tally}
use Rattle.form_gathered.specs.Joined.{IsJoined, HaveSums, AreApart, NeverBoth, item_of, present}
use Rattle.form_gathered.specs.Tally.{entry_of, AreLawful, IsTakenIn, IsPut}
use Rattle.form_gathered.proofs.Shuffled.{all_moved, all_joined, all_front, all_back}
use Rattle.form_gathered.proofs.Joining.{put_lists, put_sums, put_further}

abbrev Entries : Type 0
Entries = List (Term × Tally)

-- the tally of a joined term
abbrev pub tally_of : JoinedTerm → Tally
tally_of j = record { sum = j.sum; weight = j.weight; count = j.count }

-- ---- where an entry stands

record FoundAt (test : Term → Bool) (es : Entries) (u : Tally) : Type 0 where
  front : Entries
  back : Entries
  key : Term
  passes : test key ≡ true
  whole : es ≡ front ++ (key, u) ∷ back
  with_value : (v : Tally) → set_value test es v ≡ front ++ (key, v) ∷ back

found_at : (test : Term → Bool) (es : Entries) (u : Tally) → lookup test es ≡ Some u → FoundAt test es u
found_at test [] u h = absurd (cc)
found_at test (e ∷ es) u h = by (test e.0) refl h (found_at test es u)
  where
    by : (b : Bool) → test e.0 ≡ b → cond b (Some e.1) (lookup test es) ≡ Some u → (lookup test es ≡ Some u → FoundAt test es u) → FoundAt test (e ∷ es) u
    by true p h rest =
        let value : e.1 ≡ u = cc in
        record { front = []; back = es; key = e.0; passes = p; whole = λ i. (e.0, value i) ∷ es; with_value = λ v. rw p refl }
    by false p h rest =
        let f = rest h in
        record { front = e ∷ f.front; back = f.back; key = f.key; passes = f.passes; whole = ap (λ l. e ∷ l) f.whole; with_value = λ v. rw p (ap (λ l. e ∷ l) (f.with_value v)) }

-- ---- one more joined term

module _ (item : JoinedTerm) (es ns : Entries) (v : Tally) where
  -- a value that is put at its term, where there was this one
  abbrev pub Puts : Option Tally → Type 0
  Puts old = MatchOption old (IsPermutation ((item.term, v) ∷ es) ns) (λ _. ns ≡ set_value (same item.term) es v)

  new_there : (old : Option Tally) → old ≡ None → Puts old → IsPermutation ((item.term, v) ∷ es) ns
  new_there None e p = p
  new_there (Some u) e p = absurd (cc)

  changed_there : (old : Option Tally) (u : Tally) → old ≡ Some u → Puts old → ns ≡ set_value (same item.term) es v
  changed_there None u e p = absurd (cc)
  changed_there (Some w) u e p = p

  module _ (lawful : AreLawful es) (is_term : IsTerm item.term) where
    pub lawful_new : lookup (same item.term) es ≡ None → Puts (lookup (same item.term) es) → AreLawful ns
    lawful_new e p = all_moved (λ (x : Term × Tally). IsTerm x.0) ((item.term, v) ∷ es) ns (new_there (lookup (same item.term) es) e p) (is_term, lawful)

    module _ (u : Tally) (e : lookup (same item.term) es ≡ Some u) (p : Puts (lookup (same item.term) es)) where
      place : FoundAt (same item.term) es u
      place = found_at (same item.term) es u e

      split : AreLawful (place.front ++ (place.key, u) ∷ place.back)
      split = subst AreLawful place.whole lawful

      after : ns ≡ place.front ++ (place.key, v) ∷ place.back
      after = changed_there (lookup (same item.term) es) u e p ∙ place.with_value v

      front_lawful : AreLawful place.front
      front_lawful = all_front (λ (x : Term × Tally). IsTerm x.0) place.front ((place.key, u) ∷ place.back) split

      rest_lawful : AreLawful ((place.key, u) ∷ place.back)
      rest_lawful = all_back (λ (x : Term × Tally). IsTerm x.0) place.front ((place.key, u) ∷ place.back) split

      pub lawful_changed : AreLawful ns
      lawful_changed = subst AreLawful (sym after) (all_joined (λ (x : Term × Tally). IsTerm x.0) place.front ((place.key, v) ∷ place.back) front_lawful rest_lawful)

      key_is : place.key ≡ item.term
      key_is = sym (equal_terms item.term place.key is_term rest_lawful.0 ((Equal-is (order item.term place.key)).0 place.passes))

      pub put_changed : (is_further taken : Bool) → IsTakenIn is_further u (tally_of item) v taken → IsPut is_further item (map entry_of es) (map entry_of ns) taken
      put_changed is_further true t = inr (record {
        front = map entry_of place.front;
        back = map entry_of place.back;
        was = entry_of (place.key, u);
        is = entry_of (place.key, v);
        before = ap (map entry_of) place.whole ∙ map-append entry_of place.front ((place.key, u) ∷ place.back);
        after = ap (map entry_of) after ∙ map-append entry_of place.front ((place.key, v) ∷ place.back);
        together = record { alike = key_is; kept = refl; sum = t.sum; weight = t.weight; count = t.count };
      })
      put_changed is_further false t = ap (map entry_of) (after ∙ ap (λ (x : Tally). place.front ++ (place.key, x) ∷ place.back) t ∙ sym place.whole)

pub put_new_entry : (item : JoinedTerm) (es ns : Entries) (is_further : Bool) → lookup (same item.term) es ≡ None → Puts item es ns (tally_of item) (lookup (same item.term) es) → IsPut is_further item (map entry_of es) (map entry_of ns) true
put_new_entry item es ns is_further e p =
    inl (IsPermutation-map entry_of ((item.term, tally_of item) ∷ es) ns (new_there item es ns (tally_of item) (lookup (same item.term) es) e p))

-- ---- what callers are told

module _ {E : Type 0} (item : JoinedTerm) (old new : List JoinedTerm) (result : Result Bool E) where
  put_true : (is_further : Bool) → IfOk result (IsPut is_further item old new) → result ≡ Ok true → IsPut is_further item old new true
  put_true is_further h e = subst (λ (r : Result Bool E). IfOk r (IsPut is_further item old new)) e h

  pub told_lists : IfOk result (IsPut false item old new) → result ≡ Ok true → (n : ℕ) (a b : ℕ → List Monomial) → IsJoined n old a → IsJoined n (item ∷ []) b → IsJoined n new (λ k. a k ++ b k)
  told_lists h e n a b f g = put_lists item old new n a b (put_true false h e) f g

  pub told_sums : (is_further : Bool) → IfOk result (IsPut is_further item old new) → result ≡ Ok true → (a b : List Monomial) → HaveSums old a → HaveSums (item ∷ []) b → HaveSums new (a ++ b)
  told_sums is_further h e a b f g = put_sums item old new is_further a b (put_true is_further h e) f g

  pub told_further : IfOk result (IsPut true item old new) → result ≡ Ok true → (n : ℕ) (a b : ℕ → List Monomial) → NeverBoth n a b → IsJoined n old a → IsJoined n (item ∷ []) b → IsJoined n new (λ k. a k ++ b k)
  told_further h e n a b apart f g = put_further item old new n a b apart (put_true true h e) f g

-- ---- a table's joined terms are apart

pub entries_apart : (es : Entries) → IsDistinct same (keys_of es) → AreApart (map entry_of es)
unfolding IsDistinct
entries_apart [] h = tt
entries_apart (e ∷ es) h = (others es h.0, entries_apart es h.1)
  where
    others : (xs : Entries) → AllByRecursion (λ u. same e.0 u ≡ false) (keys_of xs) → AllByRecursion (λ j. same e.0 j.term ≡ false) (map entry_of xs)
    others [] h = tt
    others (x ∷ xs) h = (h.0, others xs h.1)

-- ---- what is made of all entries

-- all of them
pub all_made : (done whole : List JoinedTerm) (left : Entries) → left ≡ [] → done ++ map entry_of left ≡ whole → done ≡ whole
all_made done whole left none h = sym (append-nil done) ∙ ap (λ l. done ++ map entry_of l) (sym none) ∙ h

-- those whose sum isn't 0
module _ (done whole : List Monomial) (left : Entries) where
  abbrev pub AreMade : Type 0
  AreMade = done ++ present (map entry_of left) ≡ whole

  pub present_made : left ≡ [] → AreMade → done ≡ whole
  present_made none h = sym (append-nil done) ∙ ap (λ l. done ++ present (map entry_of l)) (sym none) ∙ h

  module _ (e : Term × Tally) (rest : Entries) (first : left ≡ e ∷ rest) (h : AreMade) where
    opened : done ++ present (entry_of e ∷ map entry_of rest) ≡ whole
    opened = ap (λ l. done ++ present (map entry_of l)) (sym first) ∙ h

    pub present_less : is_zero e.1.sum ≡ true → done ++ present (map entry_of rest) ≡ whole
    present_less zero = rw zero at opened

    pub present_more : (more : List Monomial) → more ≡ done ++ item_of (entry_of e) ∷ [] → is_zero e.1.sum ≡ false → more ++ present (map entry_of rest) ≡ whole
    present_more more is some =
        let here : done ++ item_of (entry_of e) ∷ present (map entry_of rest) ≡ whole = rw some at opened in
        ap (λ l. l ++ present (map entry_of rest)) is ∙ append_assoc done (item_of (entry_of e) ∷ []) (present (map entry_of rest)) ∙ here
