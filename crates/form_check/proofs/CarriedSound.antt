-- What is checked of statements that are carried out on terms is sound.
use Rattle.std.proofs.Common.{◌≡◌, inl, inr, ℕ, zero, suc, ◌+◌, ◌≤◌, ◌==◌, false, List, [], ◌∷◌, ◌++◌, length, All, Result, Ok, Some, sym, ap, subst, ◌∙◌, arith}
use Rattle.std.proofs.lemmas.List.{append-nil, length-append}
use Rattle.std.specs.Prelude.{flat_map}
use Rattle.std.proofs.lemmas.List.Concat.{flat_map-append}
use Rattle.std.proofs.lemmas.List.Elements.{All-nil, All-cons, All-head, All-tail, All-append, All-push, All-weaker}
use Rattle.form_names.specs.Names.{Entry, kind_at}
use Rattle.form_names.specs.declared.kind.Kind.{Kind}
use Rattle.form_names.specs.declared.kind.Kind.TheVariants.{Symbol, Vector, Index, Function, CommutingFunction, Expression, Set}
use Rattle.form_number.specs.declared.number.Number.{Number}
use Rattle.form_ast.specs.Building.{tree_of}
use Rattle.form_ast.specs.Conditions as written
use Rattle.form_ast.specs.Lawful.{opened_at, IsLawfulAlone, IsLawfulComparison, IsLawfulParenthesis, AreLawfulAlternatives, IsLawfulTest, IsLawfulCondition}
use Rattle.form_ast.specs.Syntax as syntax
use Rattle.form_ast.specs.declared.condition.Value as written_value
use Rattle.form_ast.specs.declared.condition.Value.TheVariants as written_values
use Rattle.form_ast.specs.declared.condition.Weighted as written_weighted
use Rattle.form_ast.specs.declared.expr.Piece as written_tree
use Rattle.form_ast.specs.declared.expr.Spelled.{Spelled}
use Rattle.form_ast.specs.declared.picked.Picked as written_picked
use Rattle.form_base.specs.Condition.{values_of_test, values_of}
use Rattle.form_base.specs.declared.condition.Test.TheVariants.{Nonzero, Compared}
use Rattle.form_base.proofs.Conditions.{values_alone, values_compared, values_parenthesis}
use Rattle.form_tree.specs.Condition.{Alternatives, Test}
use Rattle.form_tree.specs.Conditions.{Parts, condition_of}
use Rattle.form_tree.specs.Patterns.{Pieces}
use Rattle.form_tree.specs.declared.condition.Counted.{Counted}
use Rattle.form_tree.specs.declared.condition.Value.{Value}
use Rattle.form_tree.specs.declared.condition.Value.TheVariants as values
use Rattle.form_tree.specs.declared.condition.Weighted.{Weighted}
use Rattle.form_check.specs.Carried.{ValueWith, With, IsWrittenValue, all_of, alternatives, and_one, argument_number, behind, condition, conjunction, count, counted_by, divisor, fraction_of, function, function_by, in_parentheses, index_by, matches, number, occurring, occurs, picked, summed_index, test, value, weight, weighted, with_patterns}
use Rattle.form_check.specs.Sound.{IsIndexNamed, IsFunctionNamed, IsPickedSound, IsCountedSound, IsValueSound, IsConditionSound, IsPatternSound}
use Rattle.form_check.specs.declared.checked.Picked.{Picked}
use Rattle.form_pattern.specs.Pattern.{pattern_checked}
use Rattle.form_right_side.specs.Refusal.{Refusal, ◌>>=◌, each, listed}
use Rattle.form_right_side.specs.RightSide.{found, largest_number, none_stands, value_within}
use Rattle.form_right_side.proofs.Binding.{bind-Ok, else-Ok, ok_same}
use Rattle.form_check.proofs.Lists.{listed-All}
use Rattle.form_check.proofs.PatternSound.{pattern-sound}
use Rattle.form_check.proofs.Pieces.{found-sound}
use Rattle.form_check.proofs.Tests.{test_alone, test_compared, test_parenthesis}

not-zero : (n : ℕ) → (n == 0) ≡ false → 1 ≤ n
not-zero zero is = cc
not-zero (suc n) is = omega arith

module _ (names : List Entry) where
  -- ---- names and numbers

  counted-by-sound : (s : Spelled) (id : ℕ) (kind : Kind) (c : Counted) → kind_at names id ≡ Some kind → counted_by s id kind ≡ Ok c → IsCountedSound names c
  counted-by-sound s id Symbol c at is = subst (IsCountedSound names) (ok_same is) at
  counted-by-sound s id Vector c at is = subst (IsCountedSound names) (ok_same is) at
  counted-by-sound s id Function c at is = subst (IsCountedSound names) (ok_same is) (inl at)
  counted-by-sound s id CommutingFunction c at is = subst (IsCountedSound names) (ok_same is) (inr at)
  counted-by-sound s id (Index d) c at is = cc
  counted-by-sound s id Expression c at is = cc
  counted-by-sound s id Set c at is = cc

  weighted-sound : (w : written_weighted.Weighted) (x : Weighted) → weighted names w ≡ Ok x → IsCountedSound names x.counted
  weighted-sound w x is =
      let f = bind-Ok (found names w.name) (λ f. counted_by w.name f.id f.kind >>= (λ what. weight w.weight.sign w.weight.number >>= (λ size. Ok (record { counted = what; weight = size })))) x is in
      let what = bind-Ok (counted_by w.name f.0.id f.0.kind) (λ what. weight w.weight.sign w.weight.number >>= (λ size. Ok (record { counted = what; weight = size }))) x f.2 in
      let size = bind-Ok (weight w.weight.sign w.weight.number) (λ size. Ok (record { counted = what.0; weight = size })) x what.2 in
      subst (λ (y : Weighted). IsCountedSound names y.counted) (ok_same size.2) (counted-by-sound w.name f.0.id f.0.kind what.0 (found-sound names none_stands w.name f.0 f.1) what.1)

  function-by-sound : (s : Spelled) (id other : ℕ) (kind : Kind) → kind_at names id ≡ Some kind → function_by s id kind ≡ Ok other → IsFunctionNamed names other
  function-by-sound s id other Function at is = subst (IsFunctionNamed names) (ok_same is) (inl at)
  function-by-sound s id other CommutingFunction at is = subst (IsFunctionNamed names) (ok_same is) (inr at)
  function-by-sound s id other Symbol at is = cc
  function-by-sound s id other Vector at is = cc
  function-by-sound s id other (Index d) at is = cc
  function-by-sound s id other Expression at is = cc
  function-by-sound s id other Set at is = cc

  function-sound : (s : Spelled) (id : ℕ) → function names s ≡ Ok id → IsFunctionNamed names id
  function-sound s id is =
      let f = bind-Ok (found names s) (λ f. function_by s f.id f.kind) id is in
      function-by-sound s f.0.id id f.0.kind (found-sound names none_stands s f.0 f.1) f.2

  index-by-sound : (s : Spelled) (id other : ℕ) (kind : Kind) → kind_at names id ≡ Some kind → index_by s id kind ≡ Ok other → IsIndexNamed names other
  index-by-sound s id other (Index d) at is = subst (IsIndexNamed names) (ok_same is) (d, at)
  index-by-sound s id other Symbol at is = cc
  index-by-sound s id other Vector at is = cc
  index-by-sound s id other Function at is = cc
  index-by-sound s id other CommutingFunction at is = cc
  index-by-sound s id other Expression at is = cc
  index-by-sound s id other Set at is = cc

  pub index-sound : (s : Spelled) (id : ℕ) → summed_index names s ≡ Ok id → IsIndexNamed names id
  index-sound s id is =
      let f = bind-Ok (found names s) (λ f. index_by s f.id f.kind) id is in
      index-by-sound s f.0.id id f.0.kind (found-sound names none_stands s f.0 f.1) f.2

  number-sound : (n : Number) (k : ℕ) → argument_number n ≡ Ok k → 1 ≤ k
  number-sound n k is =
      let v = bind-Ok (value_within largest_number n) _ k is in
      let some = else-Ok (v.0 == 0) (Ok v.0) _ _ k v.2 in
      subst (λ (m : ℕ). 1 ≤ m) (ok_same some.1) (not-zero v.0 some.0)

  pub picked-sound : (p : written_picked.Picked) (x : Picked) → picked names p ≡ Ok x → IsPickedSound names x
  picked-sound p x is =
      let id = bind-Ok (function names p.function) (λ id. listed argument_number p.numbers >>= (λ numbers. Ok (record { function = id; numbers = numbers }))) x is in
      let numbers = bind-Ok (listed argument_number p.numbers) (λ numbers. Ok (record { function = id.0; numbers = numbers })) x id.2 in
      subst (IsPickedSound names) (ok_same numbers.2) (record {
        function = function-sound p.function id.0 id.1;
        numbers = listed-All argument_number (λ n. 1 ≤ n) number-sound p.numbers numbers.0 numbers.1;
      })

  -- ---- values

  record ValueSound (before : List Pieces) (x : ValueWith) : Type 0 where
    more : length before ≤ length x.patterns
    value : IsValueSound names (length x.patterns) x.value
    patterns : All (IsPatternSound names) x.patterns

  behind-sound : (patterns : List Pieces) (r : Result Value Refusal) (x : ValueWith) → ((v : Value) → r ≡ Ok v → IsValueSound names (length patterns) v) → All (IsPatternSound names) patterns → behind patterns r ≡ Ok x → ValueSound patterns x
  behind-sound patterns r x holds all is =
      let v = bind-Ok r (λ v. Ok (record { value = v; patterns = patterns })) x is in
      subst (ValueSound patterns) (ok_same v.2) (record { more = omega arith; value = holds v.0 v.1; patterns = all })

  a-number : (k : ℕ) (sign : _) (n : Number) (d : _) (v : Value) → number sign n d ≡ Ok v → IsValueSound names k v
  a-number k sign n d v is =
      let numerator = bind-Ok (value_within largest_number n) (λ numerator. divisor d >>= (λ denominator. Ok (values.Number (fraction_of sign numerator denominator)))) v is in
      let denominator = bind-Ok (divisor d) (λ denominator. Ok (values.Number (fraction_of sign numerator.0 denominator))) v numerator.2 in
      subst (IsValueSound names k) (ok_same denominator.2) tt

  a-count : (k : ℕ) (ws : List written_weighted.Weighted) (v : Value) → count names ws ≡ Ok v → IsValueSound names k v
  a-count k ws v is =
      let list = bind-Ok (listed (weighted names) ws) (λ list. Ok (values.Count list)) v is in
      subst (IsValueSound names k) (ok_same list.2) (listed-All (weighted names) (λ w. IsCountedSound names w.counted) weighted-sound ws list.0 list.1)

  occurring-any : (k : ℕ) (ns : List Spelled) (v : Value) → occurs names ns ≡ Ok v → IsValueSound names k v
  occurring-any k ns v is =
      let ids = bind-Ok (listed (occurring names) ns) (λ ids. Ok (values.Occurs ids)) v is in
      subst (IsValueSound names k) (ok_same ids.2) tt

  -- where each tree is found again from its pieces
  module _ (law : (tree : syntax.Sum) → tree_of (syntax.pieces_of_sum tree) ≡ Some tree) where
    a-match : (patterns : List Pieces) (p : List written_tree.Piece) (tree : syntax.Sum) (x : ValueWith) → p ≡ syntax.pieces_of_sum tree → All (IsPatternSound names) patterns → matches names patterns p ≡ Ok x → ValueSound patterns x
    a-match patterns p tree x same all is =
        let made = bind-Ok (pattern_checked names p) (λ made. Ok (record { value = values.Match (length patterns); patterns = patterns ++ made ∷ [] })) x is in
        let long : length (patterns ++ made.0 ∷ []) ≡ length patterns + 1 = length-append patterns (made.0 ∷ []) in
        subst (ValueSound patterns) (ok_same made.2) (record {
          more = omega (arith, long);
          value = omega (arith, long);
          patterns = All-push (IsPatternSound names) patterns made.0 all (pattern-sound names law p tree made.0 same made.1);
        })

    value-sound : (patterns : List Pieces) (v : written_value.Value) (x : ValueWith) → IsWrittenValue v → All (IsPatternSound names) patterns → value names patterns v ≡ Ok x → ValueSound patterns x
    value-sound patterns (written_values.Number sign n d) x written all is = behind-sound patterns (number sign n d) x (a-number (length patterns) sign n d) all is
    value-sound patterns written_values.Coefficient x written all is = behind-sound patterns (Ok values.Coefficient) x (λ v e. subst (IsValueSound names (length patterns)) (ok_same e) tt) all is
    value-sound patterns (written_values.Count ws) x written all is = behind-sound patterns (count names ws) x (a-count (length patterns) ws) all is
    value-sound patterns (written_values.Match p) x written all is = a-match patterns p written.1.1.tree x written.1.1.pieces all is
    value-sound patterns (written_values.Occurs ns) x written all is = behind-sound patterns (occurs names ns) x (occurring-any (length patterns) ns) all is

    -- ---- conditions

    value-more : (m n : ℕ) (v : Value) → m ≤ n → IsValueSound names m v → IsValueSound names n v
    value-more m n (values.Number f) more h = tt
    value-more m n values.Coefficient more h = tt
    value-more m n (values.Count ws) more h = h
    value-more m n (values.Match k) more h = omega (arith, more, h)
    value-more m n (values.Occurs ids) more h = tt

    -- what is made behind these patterns
    record MadeSound {A : Type 0} (values_in : A → List Value) (before : List Pieces) (made : With A) : Type 0 where
      more : length before ≤ length made.patterns
      each_value : All (IsValueSound names (length made.patterns)) (values_in made.item)
      patterns : All (IsPatternSound names) made.patterns

    module _ {X A : Type 0} (make : X → List Pieces → Result (With A) Refusal) (Lawful : X → Type 0) (values_in : A → List Value)
        (one-sound : (x : X) (patterns : List Pieces) (made : With A) → Lawful x → All (IsPatternSound names) patterns → make x patterns ≡ Ok made → MadeSound values_in patterns made) where
      one-more : (made : With (List A)) (one : With A) → All (IsValueSound names (length made.patterns)) (flat_map values_in made.item) → MadeSound values_in made.patterns one
          → All (IsValueSound names (length one.patterns)) (flat_map values_in (made.item ++ one.item ∷ []))
      one-more made one h s =
          let before = All-weaker (IsValueSound names (length made.patterns)) (IsValueSound names (length one.patterns)) (λ v k. value-more (length made.patterns) (length one.patterns) v s.more k) (flat_map values_in made.item) h in
          let here = subst (λ (vs : List Value). All (IsValueSound names (length one.patterns)) vs) (sym (append-nil (values_in one.item))) s.each_value in
          subst (λ (vs : List Value). All (IsValueSound names (length one.patterns)) vs) (sym (flat_map-append values_in made.item (one.item ∷ [])))
          (All-append (IsValueSound names (length one.patterns)) (flat_map values_in made.item) (values_in one.item ++ []) before here)

      each-sound : (xs : List X) (made after : With (List A)) → All Lawful xs → MadeSound (flat_map values_in) made.patterns made → each (and_one make) made xs ≡ Ok after → MadeSound (flat_map values_in) made.patterns after
      each-sound [] made after lawful h is = subst (MadeSound (flat_map values_in) made.patterns) (ok_same is) h
      each-sound (x ∷ xs) made after lawful h is =
          let next = bind-Ok (and_one make made x) (λ next. each (and_one make) next xs) after is in
          let one = bind-Ok (make x made.patterns) (λ one. Ok (with_patterns (made.item ++ one.item ∷ []) one.patterns)) next.0 next.1 in
          let s = one-sound x made.patterns one.0 (All-head Lawful x xs lawful) h.patterns one.1 in
          let here : With (List A) = with_patterns (made.item ++ one.0.item ∷ []) one.0.patterns in
          let same : here ≡ next.0 = ok_same one.2 in
          let begun : MadeSound (flat_map values_in) here.patterns here = record { more = omega arith; each_value = one-more made one.0 h.each_value s; patterns = s.patterns } in
          let all = each-sound xs next.0 after (All-tail Lawful x xs lawful) (subst (λ (m : With (List A)). MadeSound (flat_map values_in) m.patterns m) same begun) next.2 in
          let long = ap (λ (m : With (List A)). length m.patterns) same in
          record { more = omega (arith, s.more, all.more, long); each_value = all.each_value; patterns = all.patterns }

      all-sound : (xs : List X) (patterns : List Pieces) (made : With (List A)) → All Lawful xs → All (IsPatternSound names) patterns → all_of make xs patterns ≡ Ok made → MadeSound (flat_map values_in) patterns made
      all-sound xs patterns made lawful all is =
          each-sound xs (with_patterns [] patterns) made lawful (record { more = omega arith; each_value = All-nil (IsValueSound names (length patterns)); patterns = all }) is

    alone-sound : (deeper : ℕ) (t : written.Test) (patterns : List Pieces) (made : With Test) → IsLawfulAlone deeper t → All (IsPatternSound names) patterns → test names t patterns ≡ Ok made → MadeSound values_of_test patterns made
    alone-sound deeper t patterns made h all is =
        let step = sym (ap (λ (u : written.Test). test names u patterns) h.is ∙ test_alone names h.value patterns) ∙ is in
        let x = bind-Ok (value names patterns h.value) (λ x. Ok (with_patterns (Nonzero x.value) x.patterns)) made step in
        let s = value-sound patterns h.value x.0 (opened_at deeper, h.lawful) all x.1 in
        subst (MadeSound values_of_test patterns) (ok_same x.2) (record {
          more = s.more;
          each_value = subst (λ (vs : List Value). All (IsValueSound names (length x.0.patterns)) vs) (sym (values_alone x.0.value))
              (All-cons (IsValueSound names (length x.0.patterns)) x.0.value [] s.value (All-nil (IsValueSound names (length x.0.patterns))));
          patterns = s.patterns;
        })

    comparison-sound : (deeper : ℕ) (t : written.Test) (patterns : List Pieces) (made : With Test) → IsLawfulComparison deeper t → All (IsPatternSound names) patterns → test names t patterns ≡ Ok made → MadeSound values_of_test patterns made
    comparison-sound deeper t patterns made h all is =
        let step = sym (ap (λ (u : written.Test). test names u patterns) h.is ∙ test_compared names h.value h.comparison h.other patterns) ∙ is in
        let x = bind-Ok (value names patterns h.value) (λ x. value names x.patterns h.other >>= (λ y. Ok (with_patterns (Compared x.value h.comparison y.value) y.patterns))) made step in
        let y = bind-Ok (value names x.0.patterns h.other) (λ y. Ok (with_patterns (Compared x.0.value h.comparison y.value) y.patterns)) made x.2 in
        let s = value-sound patterns h.value x.0 (opened_at deeper, h.lawful.0) all x.1 in
        let r = value-sound x.0.patterns h.other y.0 (opened_at deeper, h.lawful.1) s.patterns y.1 in
        subst (MadeSound values_of_test patterns) (ok_same y.2) (record {
          more = omega (arith, s.more, r.more);
          each_value = subst (λ (vs : List Value). All (IsValueSound names (length y.0.patterns)) vs) (sym (values_compared x.0.value h.comparison y.0.value))
              (All-cons (IsValueSound names (length y.0.patterns)) x.0.value (y.0.value ∷ []) (value-more (length x.0.patterns) (length y.0.patterns) x.0.value r.more s.value)
              (All-cons (IsValueSound names (length y.0.patterns)) y.0.value [] r.value (All-nil (IsValueSound names (length y.0.patterns)))));
          patterns = r.patterns;
        })

    alternatives-sound : (Lawful : written.Test → Type 0)
        → ((t : written.Test) (patterns : List Pieces) (made : With Test) → Lawful t → All (IsPatternSound names) patterns → test names t patterns ≡ Ok made → MadeSound values_of_test patterns made)
        → (c : written.Condition) (patterns : List Pieces) (made : With Alternatives) → AreLawfulAlternatives Lawful c → All (IsPatternSound names) patterns → alternatives names c patterns ≡ Ok made → MadeSound values_of patterns made
    alternatives-sound Lawful sound c patterns made lawful all is =
        all-sound (conjunction names) (λ ts. (ts ≡ [] → ⊥) × All Lawful ts) (flat_map values_of_test)
        (λ ts before one h k e. all-sound (test names) Lawful values_of_test sound ts before one h.1 k e) c patterns made lawful.1 all is

    parenthesis-sound : (Lawful : written.Test → Type 0)
        → ((t : written.Test) (patterns : List Pieces) (made : With Test) → Lawful t → All (IsPatternSound names) patterns → test names t patterns ≡ Ok made → MadeSound values_of_test patterns made)
        → (t : written.Test) (patterns : List Pieces) (made : With Test) → IsLawfulParenthesis (AreLawfulAlternatives Lawful) t → All (IsPatternSound names) patterns → test names t patterns ≡ Ok made → MadeSound values_of_test patterns made
    parenthesis-sound Lawful sound t patterns made h all is =
        let step = sym (ap (λ (u : written.Test). test names u patterns) h.is ∙ test_parenthesis names h.condition patterns) ∙ is in
        let c = bind-Ok (alternatives names h.condition patterns) in_parentheses made step in
        let s = alternatives-sound Lawful sound h.condition patterns c.0 h.lawful all c.1 in
        subst (MadeSound values_of_test patterns) (ok_same c.2) (record {
          more = s.more;
          each_value = subst (λ (vs : List Value). All (IsValueSound names (length c.0.patterns)) vs) (sym (values_parenthesis c.0.item)) s.each_value;
          patterns = s.patterns;
        })

    test-sound : (deeper : ℕ) (t : written.Test) (patterns : List Pieces) (made : With Test) → IsLawfulTest deeper t → All (IsPatternSound names) patterns → test names t patterns ≡ Ok made → MadeSound values_of_test patterns made
    unfolding IsLawfulTest
    test-sound zero t patterns made (inl h) all is = alone-sound zero t patterns made h all is
    test-sound zero t patterns made (inr h) all is = comparison-sound zero t patterns made h all is
    test-sound (suc deeper) t patterns made (inl h) all is = alone-sound (suc deeper) t patterns made h all is
    test-sound (suc deeper) t patterns made (inr (inl h)) all is = comparison-sound (suc deeper) t patterns made h all is
    test-sound (suc deeper) t patterns made (inr (inr h)) all is =
        parenthesis-sound (IsLawfulTest deeper) (λ u before one k a e. test-sound deeper u before one k a e) t patterns made h all is

    pub condition-sound : (c : written.Condition) (made : Parts) → IsLawfulCondition c → condition names c ≡ Ok made → IsConditionSound names made
    condition-sound c made lawful is =
        let a = bind-Ok (alternatives names c []) (λ made. Ok (condition_of made.item made.patterns)) made is in
        let s = alternatives-sound (IsLawfulTest 63) (λ u before one k all e. test-sound 63 u before one k all e) c [] a.0 lawful (All-nil (IsPatternSound names)) a.1 in
        subst (IsConditionSound names) (ok_same a.2) (record { values = s.each_value; patterns = s.patterns })
