-- Conditions are read as the trees that they write.
use Rattle.std.proofs.Common.{◌≡◌, ℕ, ◌≤◌, Bool, true, false, if◌then◌else◌, List, [], ◌∷◌, ◌++◌, length, Option, Some, None, refl, sym, ap, subst, ◌∙◌, arith}
use Rattle.std.specs.Prelude.{◌==◌, ◌&&◌, option_and_then, option_map}
use Rattle.std.proofs.lemmas.Bool.{eqb-true}
use Rattle.std.proofs.lemmas.Option.{same_Some, option_and_then_some}
use Rattle.form_calc.specs.declared.operand.Comparison.{Comparison}
use Rattle.form_calc.specs.declared.operand.Comparison.TheVariants.{Equal, Unequal}
use Rattle.form_calc.specs.Number.{number_of}
use Rattle.form_calc.specs.Reading.{most_open, after_blanks, before, with_rest}
use Rattle.form_calc.specs.Condition.{Reader, Operand, is_word_character, compared, compared_numbers, compared_texts, either, both, operand as operand_at, operand_in, comparison_at, comparison_in, double_in, with_second, with_comparison, with_first, comparison as comparison_of, test_in, test_at, joint_in, joint_at, conjunction, alternatives, truth_of}
use Rattle.form_calc.specs.Proposition as trees
use Rattle.form_calc.specs.Proposition.{Alternatives, Conjunction, Test, Token, operand, comparison, text_of_comparison, truth_of_comparison, truth_of_alternatives, truth_of_conjunction, truth_of_test, is_order, AreComparable, AreLawful, IsLawfulConjunction, IsLawfulTest, tokens_of_alternatives, tokens_of_conjunction, tokens_of_test, IsWritten, AreTokens, IsCondition}
use Rattle.form_calc.proofs.Spaces.{before_is, read_as, all_blank, front_of, StopsAt, blanks_stop, unlike}
use Rattle.form_calc.proofs.Written.{Starts, starts, operand_starts, start_stands, start_stops, operand_written, operand_is, comparison_stands, comparison_written, comparison_is, double_is}
use Rattle.form_calc.proofs.Readers.{as_read, Language, Kind, Found, ReadsTo, IsReader, IsMark, IsChain, EndsChain, IsInner, moved, first_is, stops, marks, chain_reader, whole_read, whole_found}

-- ---- tokens

nonempty : (written : List ℕ) → Starts (written ++ []) → 1 ≤ length written
nonempty [] s = let e : [] ≡ s.first ∷ s.others = s.text_is in absurd cc
nonempty (c ∷ written) s = omega arith

comparison_some : (c : Comparison) → 1 ≤ length (text_of_comparison c)
comparison_some Equal = omega arith
comparison_some c = omega arith

some_as : (written text : List ℕ) → 1 ≤ length text → written ≡ text → 1 ≤ length written
some_as written text l e = subst (λ t. 1 ≤ length t) (sym e) l

written_some : (token : Token) (written : List ℕ) → IsWritten token written → 1 ≤ length written
written_some (operand a) written w = nonempty written (operand_starts a.is_number a.text written [] w)
written_some (comparison c) written w = some_as written (text_of_comparison c) (comparison_some c) w
written_some trees.And written w = some_as written (38 ∷ 38 ∷ []) (omega arith) w
written_some trees.Or written w = some_as written (124 ∷ 124 ∷ []) (omega arith) w
written_some trees.Open written w = some_as written (40 ∷ []) (omega arith) w
written_some trees.Close written w = some_as written (41 ∷ []) (omega arith) w

token_before : (text written rest : List ℕ) (token : Token) (more : List Token) → after_blanks text ≡ written ++ rest → IsWritten token written → AreTokens rest more → AreTokens text (token ∷ more)
token_before text written rest token more e w h =
    let f = front_of text in
    (rest, record { blanks = f.blanks; written = written; text_is = f.text_is ∙ ap (λ t. f.blanks ++ t) e; only_blanks = f.only_blanks; is_written = w }, h)

abbrev language : Language
language = record {
  Token = Token;
  Value = Option Bool;
  Are = AreTokens;
  IsWritten = IsWritten;
  nothing = λ text h. h;
  blank = λ text h. h;
  take = λ text token more h. record { blanks = h.1.blanks; written = h.1.written; rest = h.0; text_is = h.1.text_is; only_blanks = h.1.only_blanks; is_written = h.1.is_written; behind = h.2 };
  put = token_before;
  some = written_some;
  close = trees.Close;
  close_written = refl;
  close_is = λ written h. h;
}

abbrev tests : ℕ → Kind language Test
tests opened = record { tokens = tokens_of_test; value = truth_of_test; IsLawful = IsLawfulTest opened }

abbrev conjunctions : ℕ → Kind language Conjunction
conjunctions opened = record { tokens = tokens_of_conjunction; value = truth_of_conjunction; IsLawful = IsLawfulConjunction opened }

abbrev disjunctions : ℕ → Kind language Alternatives
disjunctions opened = record { tokens = tokens_of_alternatives; value = truth_of_alternatives; IsLawful = AreLawful opened }

-- no letter, digit or underscore follows
abbrev EndsTest : List Token → Type 0
EndsTest more = (text : List ℕ) → AreTokens text more → StopsAt is_word_character text

mark_ends : (token : Token) (written : List ℕ) (more : List Token) → ((w : List ℕ) → IsWritten token w → w ≡ written) → ((t : List ℕ) → StopsAt is_word_character (written ++ t)) → EndsTest (token ∷ more)
mark_ends token written more e k = λ text h. stops language is_word_character text token more h refl refl (subst (λ w. StopsAt is_word_character (w ++ h.0)) (sym (e h.1.written h.1.is_written)) (k h.0))

comparison_stops : (c : Comparison) (t : List ℕ) → StopsAt is_word_character (text_of_comparison c ++ t)
comparison_stops Equal t = refl
comparison_stops c t = refl

-- ---- operands and comparisons

starts_at : (a : Operand) (text : List ℕ) (more : List Token) (h : AreTokens text (operand a ∷ more)) → Starts (h.1.written ++ h.0)
starts_at a text more h = operand_starts a.is_number a.text h.1.written h.0 h.1.is_written

operand_first : (a : Operand) (text : List ℕ) (more : List Token) (h : AreTokens text (operand a ∷ more)) → after_blanks text ≡ h.1.written ++ h.0
operand_first a text more h = first_is language text (operand a) more h.1.written h refl ∙ start_stands (h.1.written ++ h.0) (starts_at a text more h)

operand_read : (a : Operand) (text : List ℕ) (more : List Token) → EndsTest more → (h : AreTokens text (operand a ∷ more)) → operand_at text ≡ Some (a, h.0)
unfolding operand_at
operand_read a text more k h = ap operand_in (operand_first a text more h) ∙ operand_written a.is_number a.text h.1.written h.0 h.1.is_written (k h.0 h.2)

no_equals : (a : Operand) (text : List ℕ) (more : List Token) → AreTokens text (operand a ∷ more) → StopsAt (λ c. c == 61) text
no_equals a text more h = stops language (λ c. c == 61) text (operand a) more h refl refl (start_stops 61 (h.1.written ++ h.0) refl (starts_at a text more h))

comparison_read : (c : Comparison) (a : Operand) (text : List ℕ) (more : List Token) (h : AreTokens text (comparison c ∷ operand a ∷ more)) → comparison_at text ≡ Some (c, h.0)
unfolding comparison_at
comparison_read c a text more h =
    ap comparison_in (first_is language text (comparison c) (operand a ∷ more) (text_of_comparison c) h h.1.is_written ∙ comparison_stands c h.0) ∙ comparison_written c h.0 (no_equals a h.0 more h.2)

comparable_if : (both_numbers : Bool) (c : Comparison) (a b : Operand) → (is_order c ≡ true → both_numbers ≡ true)
    → (if both_numbers then Some (compared_numbers c (number_of a.text) (number_of b.text)) else option_map Some (compared_texts c a.text b.text))
    ≡ Some (if both_numbers then compared_numbers c (number_of a.text) (number_of b.text) else compared_texts c a.text b.text)
comparable_if true c a b h = refl
comparable_if false Equal a b h = refl
comparable_if false Unequal a b h = refl
comparable_if false c a b h = let e : false ≡ true = h refl in absurd cc

comparable : (c : Comparison) (a b : Operand) → AreComparable c a b → compared c a b ≡ Some (truth_of_comparison c a b)
comparable c a b h = comparable_if (a.is_number && b.is_number) c a b h

-- what can't be compared has no truth
has_truth_if : (both_numbers : Bool) (c : Comparison) (a b : List ℕ) (n truth : Option Bool) → (if both_numbers then Some n else option_map Some (compared_texts c a b)) ≡ Some truth → is_order c ≡ true → both_numbers ≡ true
has_truth_if true c a b n truth e h = refl
has_truth_if false Equal a b n truth e h = absurd cc
has_truth_if false c a b n truth e h = absurd cc

has_truth : (c : Comparison) (a b : Operand) (truth : Option Bool) → compared c a b ≡ Some truth → AreComparable c a b
has_truth c a b truth e = has_truth_if (a.is_number && b.is_number) c a.text b.text (compared_numbers c (number_of a.text) (number_of b.text)) truth e

compared_read : (a : Operand) (c : Comparison) (b : Operand) (text : List ℕ) (more : List Token) → AreComparable c a b → EndsTest more → AreTokens text (operand a ∷ comparison c ∷ operand b ∷ more) → ReadsTo language (comparison_of text) (truth_of_comparison c a b) more
unfolding comparison_of
compared_read a c b text more l k h =
    let e = mark_ends (comparison c) (text_of_comparison c) (operand b ∷ more) (λ w x. x) (comparison_stops c) in
    record {
      rest = h.2.2.0;
      read_is = ap (option_and_then with_first) (operand_read a text (comparison c ∷ operand b ∷ more) e h)
          ∙ ap (option_and_then (with_comparison a)) (comparison_read c b h.0 more h.2)
          ∙ ap (option_and_then (with_second a c)) (operand_read b h.2.0 more k h.2.2)
          ∙ ap (λ o. before o h.2.2.0) (comparable c a b l);
      behind = h.2.2.2;
    }

-- ---- tests

-- a comparison begins with no parenthesis
no_parenthesis : (inner : Reader) (text t : List ℕ) → Starts t → test_in inner text t ≡ comparison_of text
no_parenthesis inner text t s = ap (test_in inner text) s.text_is ∙ ap (λ (q : Bool). if q then inner s.others else comparison_of text) (unlike starts s.first 40 s.is_start refl)

module _ (opened : ℕ) (inner : Reader) (insides : IsInner language Alternatives disjunctions opened inner) where
  abbrev TestAt : List ℕ → Option Bool → List ℕ → Type 0
  TestAt text v rest = Found language Test (tests opened) text v rest

  comparison_found : (text rest : List ℕ) (v : Option Bool) → comparison_of text ≡ Some (v, rest) → TestAt text v rest
  unfolding comparison_of operand_at comparison_at
  comparison_found text rest v h =
      option_and_then_some with_first (operand_in (after_blanks text)) (v, rest) h (λ a e h.
      option_and_then_some (with_comparison a.0) (comparison_in (after_blanks a.1)) (v, rest) h (λ c f h.
      option_and_then_some (with_second a.0 c.0) (operand_in (after_blanks c.1)) (v, rest) h (λ b g h.
      let p = before_is (compared c.0 a.0 b.0) b.1 v rest h in
      let l = has_truth c.0 a.0 b.0 v p.0 in
      let x = operand_is (after_blanks text) a.1 a.0 e in
      let y = operand_is (after_blanks c.1) b.1 b.0 g in
      as_read language Test (tests opened) text v v b.1 rest (ap (λ t. read_as v t) p.1) (record {
        tree = trees.compared a.0 c.0 b.0;
        stands = λ more k.
            token_before text x.written a.1 (operand a.0) (comparison c.0 ∷ operand b.0 ∷ more) x.text_is x.is_written
            (token_before a.1 (text_of_comparison c.0) c.1 (comparison c.0) (operand b.0 ∷ more) (comparison_is (after_blanks a.1) c.1 c.0 f) refl
            (token_before c.1 y.written b.1 (operand b.0) more y.text_is y.is_written k));
        value_is = same_Some v (truth_of_comparison c.0 a.0 b.0) (sym p.0 ∙ comparable c.0 a.0 b.0 l);
        lawful = l;
      }))))

  test_found : (text t rest : List ℕ) (v : Option Bool) → after_blanks text ≡ t → test_in inner text t ≡ Some (v, rest) → TestAt text v rest
  test_found text [] rest v e h = absurd cc
  test_found text (c ∷ cs) rest v e h = by (c == 40) refl h
    where
      by : (q : Bool) → (c == 40) ≡ q → (if q then inner cs else comparison_of text) ≡ Some (v, rest) → TestAt text v rest
      by false f k = comparison_found text rest v k
      by true f k =
          let s = insides.finds cs rest v k in
          record {
            tree = trees.parenthesis s.tree;
            stands = λ more a. token_before text (40 ∷ []) cs trees.Open ((tokens_of_alternatives s.tree ++ trees.Close ∷ []) ++ more) (e ∙ ap (λ b. b ∷ cs) (eqb-true c 40 f)) refl (s.stands more a);
            value_is = s.value_is;
            lawful = s.lawful;
          }

  test_read : (t : Test) (text : List ℕ) (more : List Token) → IsLawfulTest opened t → EndsTest more → AreTokens text (tokens_of_test t ++ more) → ReadsTo language (test_at inner text) (truth_of_test t) more
  unfolding test_at
  test_read (trees.compared a c b) text more l k h =
      let s = subst Starts (sym (operand_first a text (comparison c ∷ operand b ∷ more) h)) (starts_at a text (comparison c ∷ operand b ∷ more) h) in
      moved language (test_at inner text) (comparison_of text) (truth_of_comparison c a b) more (no_parenthesis inner text (after_blanks text) s) (compared_read a c b text more l k h)
  test_read (trees.parenthesis s) text more l k h =
      moved language (test_at inner text) (inner h.0) (truth_of_alternatives s) more
      (ap (test_in inner text) (first_is language text trees.Open ((tokens_of_alternatives s ++ trees.Close ∷ []) ++ more) (40 ∷ []) h h.1.is_written)) (insides.reads s h.0 more l tt h.2)

  test_reader : IsReader language Test (tests opened) EndsTest (test_at inner)
  unfolding test_at
  test_reader = record { finds = λ text rest v h. test_found text (after_blanks text) rest v refl h; reads = test_read }

-- ---- conjunctions and alternatives

joint_is : (m : ℕ) (t rest : List ℕ) (joint : Unit {0}) → joint_in m t ≡ Some (joint, rest) → t ≡ (m ∷ m ∷ []) ++ rest
joint_is m t rest joint h = option_and_then_some (read_as joint) (double_in m t) (joint, rest) h (λ u e k. double_is m t u e ∙ ap (λ (x : Unit {0} × List ℕ). m ∷ m ∷ x.1) (same_Some _ _ k))

and_mark : IsMark language (Unit {0}) (λ joint. trees.And) (joint_at 38)
unfolding joint_at
and_mark = marks language (Unit {0}) (λ joint. trees.And) (λ joint. 38 ∷ 38 ∷ []) (joint_in 38) (joint_is 38) (λ joint t. refl) (λ joint. refl) (λ joint w h. h)

or_mark : IsMark language (Unit {0}) (λ joint. trees.Or) (joint_at 124)
unfolding joint_at
or_mark = marks language (Unit {0}) (λ joint. trees.Or) (λ joint. 124 ∷ 124 ∷ []) (joint_in 124) (joint_is 124) (λ joint t. refl) (λ joint. refl) (λ joint w h. h)

by_tests : (P : Conjunction → Type 0) → ((t : Test) → P (trees.one t)) → ((j : Conjunction) (joint : Unit {0}) (t : Test) → P j → P (trees.and_also j t)) → (j : Conjunction) → P j
by_tests P first grow (trees.one t) = first t
by_tests P first grow (trees.and_also j t) = grow j tt t (by_tests P first grow j)

by_conjunctions : (P : Alternatives → Type 0) → ((j : Conjunction) → P (trees.first j)) → ((s : Alternatives) (joint : Unit {0}) (j : Conjunction) → P s → P (trees.or_else s j)) → (s : Alternatives) → P s
by_conjunctions P first grow (trees.first j) = first j
by_conjunctions P first grow (trees.or_else s j) = grow s tt j (by_conjunctions P first grow s)

test_chain : (opened : ℕ) → IsChain language Test Conjunction (Unit {0}) (tests opened) (conjunctions opened) (λ joint. trees.And) (λ joint. both)
test_chain opened = record {
  one = λ t. trees.one t;
  grow = λ j joint t. trees.and_also j t;
  induct = by_tests;
  one_is = λ t. (refl, refl, λ h. h, λ h. h);
  grow_is = λ j joint t. (refl, refl);
  grow_lawful = λ j joint t h k. (h, k);
  lawful_grow = λ j joint t h. h;
}

conjunction_chain : (opened : ℕ) → IsChain language Conjunction Alternatives (Unit {0}) (conjunctions opened) (disjunctions opened) (λ joint. trees.Or) (λ joint. either)
conjunction_chain opened = record {
  one = λ j. trees.first j;
  grow = λ s joint j. trees.or_else s j;
  induct = by_conjunctions;
  one_is = λ j. (refl, refl, λ h. h, λ h. h);
  grow_is = λ s joint j. (refl, refl);
  grow_lawful = λ s joint j h k. (h, k);
  lawful_grow = λ s joint j h. h;
}

abbrev EndsConjunction : List Token → Type 0
EndsConjunction = EndsChain language (Unit {0}) EndsTest (joint_at 38)

abbrev EndsAlternatives : List Token → Type 0
EndsAlternatives = EndsChain language (Unit {0}) EndsConjunction (joint_at 124)

and_ends : (more : List Token) → EndsTest (trees.And ∷ more)
and_ends more = mark_ends trees.And (38 ∷ 38 ∷ []) more (λ w h. h) (λ t. refl)

or_ends : (more : List Token) → EndsConjunction (trees.Or ∷ more)
unfolding joint_at
or_ends more = (mark_ends trees.Or (124 ∷ 124 ∷ []) more (λ w h. h) (λ t. refl), λ text h. ap (joint_in 38) (first_is language text trees.Or more (124 ∷ 124 ∷ []) h h.1.is_written))

no_joint : (m : ℕ) (t : List ℕ) → (41 == m) ≡ false → joint_in m (41 ∷ t) ≡ None
no_joint m [] h = refl
no_joint m (d ∷ t) h = ap (λ (q : Bool). with_rest {V = Unit {0}} tt (if q && (d == m) then Some t else None)) h

close_ends : (more : List Token) → EndsAlternatives (trees.Close ∷ more)
unfolding joint_at
close_ends more = (
  (
    mark_ends trees.Close (41 ∷ []) more (λ w h. h) (λ t. refl),
    λ text h. ap (joint_in 38) (first_is language text trees.Close more (41 ∷ []) h h.1.is_written) ∙ no_joint 38 h.0 refl,
  ),
  λ text h. ap (joint_in 124) (first_is language text trees.Close more (41 ∷ []) h h.1.is_written) ∙ no_joint 124 h.0 refl,
)

end_ends : EndsAlternatives []
unfolding joint_at
end_ends = (
  (λ text h. blanks_stop is_word_character text refl refl h, λ text h. ap (joint_in 38) (all_blank text h)),
  λ text h. ap (joint_in 124) (all_blank text h),
)

conjunction_reader : (opened : ℕ) (inner : Reader) → IsInner language Alternatives disjunctions opened inner → IsReader language Conjunction (conjunctions opened) EndsConjunction (conjunction inner)
unfolding conjunction
conjunction_reader opened inner i =
    chain_reader language Test Conjunction (Unit {0}) (tests opened) (conjunctions opened) (λ joint. trees.And) (λ joint. both) (test_chain opened) (joint_at 38) and_mark EndsTest (test_at inner) (test_reader opened inner i) (λ joint more. and_ends more)

alternatives_reader : (opened : ℕ) (inner : Reader) → opened ≤ most_open → IsInner language Alternatives disjunctions opened inner → IsReader language Alternatives (disjunctions opened) EndsAlternatives (alternatives inner)
unfolding alternatives
alternatives_reader opened inner l i =
    chain_reader language Conjunction Alternatives (Unit {0}) (conjunctions opened) (disjunctions opened) (λ joint. trees.Or) (λ joint. either) (conjunction_chain opened) (joint_at 124) or_mark EndsConjunction (conjunction inner) (conjunction_reader opened inner i) (λ joint more. or_ends more)

pub condition_read : (text : List ℕ) (s : Alternatives) → IsCondition text s → truth_of text ≡ Some (truth_of_alternatives s)
condition_read text s h = whole_read language Alternatives disjunctions EndsAlternatives alternatives alternatives_reader close_ends end_ends text s h.lawful h.are_tokens

pub condition_found : (text : List ℕ) (v : Option Bool) → truth_of text ≡ Some v → (s : Alternatives) × IsCondition text s × (v ≡ truth_of_alternatives s)
condition_found text v h =
    let f = whole_found language Alternatives disjunctions EndsAlternatives alternatives alternatives_reader close_ends end_ends text v h in
    (f.0, record { are_tokens = f.2; lawful = f.1 }, f.3)
