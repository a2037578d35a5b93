-- What is written as a condition is read.
use Rattle.std.proofs.Common.{◌≡◌, ◌≢◌, inl, inr, ℕ, zero, suc, ◌<◌, ◌≤◌, Bool, false, cond, List, [], ◌∷◌, ◌++◌, length, Option, Some, None, option_and_then, refl, sym, ap, ◌∙◌, append_assoc}
use Rattle.std.proofs.lemmas.Bool.{le-ltb}
use Rattle.form_base.specs.declared.comparison.Comparison.{Comparison}
use Rattle.form_number.specs.declared.number.Number as numbers
use Rattle.form_ast.specs.declared.expr.Sign as by_sign
use Rattle.form_ast.specs.declared.expr.Sign.TheVariants as signs
use Rattle.form_ast.specs.declared.expr.SignedNumber.{SignedNumber}
use Rattle.form_ast.specs.declared.expr.Spelled.{Spelled}
use Rattle.form_ast.specs.declared.expr.Piece.{Piece}
use Rattle.form_ast.specs.declared.condition.Weighted.{Weighted}
use Rattle.form_ast.specs.declared.condition.Value as by_value
use Rattle.form_ast.specs.declared.condition.Value.TheVariants as values
use Rattle.form_ast.specs.Conditions.{Condition, Test, compared, parenthesis}
use Rattle.form_ast.specs.Lawful.{most_counted}
use Rattle.form_grammar.specs.declared.terminal.Terminal.{Terminal}
use Rattle.form_grammar.specs.declared.terminal.Terminal.TheVariants as by_terminal
use Rattle.form_grammar.specs.Grammar.{written_sign, written_number, IsPatternTextWithin}
use Rattle.form_grammar.specs.Texts.{run_pattern_within}
use Rattle.form_conditions.specs.declared.tokens.Wanted.TheVariants.{And, Or, Over, Comma, Open, Close}
use Rattle.form_conditions.specs.declared.word.Word.{Word}
use Rattle.form_conditions.specs.declared.word.Word.TheVariants as words
use Rattle.form_conditions.specs.Word.{word_of}
use Rattle.form_conditions.specs.Grammar.{AreJoined, IsCall, written_divisor, IsNameText, IsWeightedText, IsValueText, IsAloneText, IsComparisonText, IsParenthesisText, AreAlternativesText, IsTestText, IsConditionText, opened_within, within_condition}
use Rattle.form_conditions.specs.Reading.{Reads, all_separated, take_name, signed, divided, number_value, weighted_by, weighted, not_too_many, weights, names, count, occurs, enclosed, matching, word_value, value, comparison_at, compared_by, plain_test, alternatives_by, in_parentheses, test, front}
use Rattle.form_conditions.specs.Tokens.{begins, take, tail_of}
use Rattle.form_conditions.proofs.Fronts.{Complete, giving, no_zero, opens, signed_read, compares_nothing_else, and_mark, or_mark, comma_mark}
use Rattle.form_conditions.proofs.Patterns.{IsExactly}
use Rattle.form_conditions.proofs.Separated.{all_complete}
use Rattle.form_conditions.proofs.Skips.{sum_enclosed}

-- ---- names and numbers

-- a list goes on or ends here
abbrev Anything : List Terminal → Type 0
Anything rest = Unit {0}

name_read : Complete IsNameText take_name Anything
name_read n text rest h e = ap (λ (t : List Terminal). take_name (t ++ rest)) h

weighted_read : Complete IsWeightedText weighted Anything
weighted_read w text rest h e =
    ap (λ (t : List Terminal). weighted (t ++ rest)) h
    ∙ ap (λ (o : Option (SignedNumber × List Terminal)). option_and_then (λ n. giving (weighted_by w.name n.0) n.1) o) (signed_read w.weight rest)

names_read : Complete (AreJoined IsNameText by_terminal.Comma) names (λ rest. Anything rest × (begins Comma rest ≡ false))
names_read = all_complete IsNameText take_name Comma by_terminal.Comma comma_mark Anything name_read (λ rest. tt)

weights_read : (ws : List Weighted) (text rest : List Terminal) → AreJoined IsWeightedText by_terminal.Comma ws text → length ws ≤ most_counted → begins Comma rest ≡ false → weights (text ++ rest) ≡ Some (ws, rest)
weights_read ws text rest h few e =
    ap (λ (o : Option (List Weighted × List Terminal)). option_and_then not_too_many o) (all_complete IsWeightedText weighted Comma by_terminal.Comma comma_mark Anything weighted_read (λ rest. tt) ws text rest h (tt, e))
    ∙ ap (λ (b : Bool). cond b None (Some (ws, rest))) (le-ltb most_counted (length ws) few)

-- ---- values

-- a number isn't divided any further
abbrev pub EndsValue : List Terminal → Type 0
EndsValue rest = begins Over rest ≡ false

divided_text : (a b rest : List Terminal) (x : Terminal) → (a ++ x ∷ b) ++ rest ≡ (a ++ x ∷ []) ++ (b ++ rest)
divided_text a b rest x = simp append_assoc

number_begins : (deeper : ℕ) (sign : Option by_sign.Sign) (n : numbers.Number) (rest : List Terminal)
    → value deeper ((written_sign sign ++ by_terminal.Number n ∷ []) ++ rest) ≡ number_value ((written_sign sign ++ by_terminal.Number n ∷ []) ++ rest)
unfolding value
number_begins deeper None n rest = refl
number_begins deeper (Some signs.Plus) n rest = refl
number_begins deeper (Some signs.Minus) n rest = refl

abbrev numbered : SignedNumber × List Terminal → Option (by_value.Value × List Terminal)
numbered n = cond (begins Over n.1) (divided n.0 (tail_of n.1)) (Some (values.Number n.0.sign n.0.number None, n.1))

number_read : (deeper : ℕ) (n : SignedNumber) (rest : List Terminal) → value deeper (written_number n ++ rest) ≡ numbered (n, rest)
number_read deeper n rest = number_begins deeper n.sign n.number rest ∙ ap (option_and_then numbered) (signed_read n rest)

whole_read : (deeper : ℕ) (n : SignedNumber) (text rest : List Terminal) → text ≡ written_number n → EndsValue rest → value deeper (text ++ rest) ≡ Some (values.Number n.sign n.number None, rest)
whole_read deeper n text rest h e =
    ap (λ (t : List Terminal). value deeper (t ++ rest)) h
    ∙ number_read deeper n rest
    ∙ ap (λ (b : Bool). cond b (divided n (tail_of rest)) (Some (values.Number n.sign n.number None, rest))) e

fraction_read : (deeper : ℕ) (n : SignedNumber) (d : numbers.Number) (text rest : List Terminal) → d.value ≢ 0 → text ≡ written_sign n.sign ++ by_terminal.Number n.number ∷ by_terminal.Over ∷ by_terminal.Number d ∷ []
    → value deeper (text ++ rest) ≡ Some (values.Number n.sign n.number (Some d), rest)
fraction_read deeper n d text rest some h =
    ap (λ (t : List Terminal). value deeper (t ++ rest)) h
    ∙ ap (value deeper) (divided_text (written_sign n.sign) (by_terminal.Over ∷ by_terminal.Number d ∷ []) rest (by_terminal.Number n.number))
    ∙ number_read deeper n (by_terminal.Over ∷ by_terminal.Number d ∷ rest)
    ∙ ap (λ (b : Bool). option_and_then (λ v. giving v rest) (cond b None (Some (values.Number n.sign n.number (Some d))))) (no_zero d.value some)

-- a word
word_read : (deeper : ℕ) (n : Spelled) (word : Word) (rest : List Terminal) → word_of n.name ≡ Some word → value deeper (by_terminal.Name n ∷ rest) ≡ word_value deeper (Some word) rest
unfolding value
word_read deeper n word rest e = ap (λ (o : Option Word). word_value deeper o rest) e

call_text : (n : Spelled) (inner rest : List Terminal) → (by_terminal.Name n ∷ by_terminal.Open ∷ inner ++ by_terminal.Close ∷ []) ++ rest ≡ by_terminal.Name n ∷ by_terminal.Open ∷ (inner ++ by_terminal.Close ∷ rest)
call_text n inner rest = ap (λ (t : List Terminal). by_terminal.Name n ∷ by_terminal.Open ∷ t) (append_assoc inner (by_terminal.Close ∷ []) rest)

call_read : (deeper : ℕ) (word : Word) (Text : List Terminal → Type 0) (text rest : List Terminal) (h : IsCall word Text text)
    → value deeper (text ++ rest) ≡ word_value deeper (Some word) (by_terminal.Open ∷ (h.inner ++ by_terminal.Close ∷ rest))
call_read deeper word Text text rest h =
    ap (λ (t : List Terminal). value deeper (t ++ rest)) h.written
    ∙ ap (value deeper) (call_text h.name h.inner rest)
    ∙ word_read deeper h.name word (by_terminal.Open ∷ (h.inner ++ by_terminal.Close ∷ rest)) h.spelled

count_read : (deeper : ℕ) (ws : List Weighted) (inner rest : List Terminal) → 0 < deeper → length ws ≤ most_counted → AreJoined IsWeightedText by_terminal.Comma ws inner
    → count deeper (by_terminal.Open ∷ (inner ++ by_terminal.Close ∷ rest)) ≡ Some (values.Count ws, rest)
count_read deeper ws inner rest room few h =
    ap (λ (o : Option (List Terminal)). option_and_then (λ t. option_and_then (λ out. option_and_then (λ behind. giving (values.Count out.0) behind) (take Close out.1)) (weights t)) o) (opens deeper (inner ++ by_terminal.Close ∷ rest) room)
    ∙ ap (λ (o : Option (List Weighted × List Terminal)). option_and_then (λ out. option_and_then (λ behind. giving (values.Count out.0) behind) (take Close out.1)) o) (weights_read ws inner (by_terminal.Close ∷ rest) h few refl)

occurs_read : (deeper : ℕ) (ns : List Spelled) (inner rest : List Terminal) → 0 < deeper → AreJoined IsNameText by_terminal.Comma ns inner
    → occurs deeper (by_terminal.Open ∷ (inner ++ by_terminal.Close ∷ rest)) ≡ Some (values.Occurs ns, rest)
occurs_read deeper ns inner rest room h =
    ap (λ (o : Option (List Terminal)). option_and_then (λ t. option_and_then (λ out. option_and_then (λ behind. giving (values.Occurs out.0) behind) (take Close out.1)) (names t)) o) (opens deeper (inner ++ by_terminal.Close ∷ rest) room)
    ∙ ap (λ (o : Option (List Spelled × List Terminal)). option_and_then (λ out. option_and_then (λ behind. giving (values.Occurs out.0) behind) (take Close out.1)) o) (names_read ns inner (by_terminal.Close ∷ rest) h (tt, refl))

module _ (law : IsExactly) where
  matching_read : (deeper : ℕ) (pattern : List Piece) (inner rest : List Terminal) → 0 < deeper → IsPatternTextWithin (opened_within deeper) inner pattern
      → matching deeper (by_terminal.Open ∷ (inner ++ by_terminal.Close ∷ rest)) ≡ Some (values.Match pattern, rest)
  matching_read deeper pattern inner rest room h =
      let whole : enclosed 0 [] (inner ++ by_terminal.Close ∷ rest) ≡ Some (inner, rest) =
      ap (λ (t : List Terminal). enclosed 0 [] (t ++ by_terminal.Close ∷ rest)) h.written ∙ sum_enclosed h.tree rest ∙ ap (λ (t : List Terminal). giving t rest) (sym h.written) in
      ap (λ (o : Option (List Terminal)). option_and_then (λ t. option_and_then (λ out. option_and_then (λ pattern. giving (values.Match pattern) out.1) (run_pattern_within (opened_within deeper) out.0)) (enclosed 0 [] t)) o) (opens deeper (inner ++ by_terminal.Close ∷ rest) room)
      ∙ ap (λ (o : Option (List Terminal × List Terminal)). option_and_then (λ out. option_and_then (λ pattern. giving (values.Match pattern) out.1) (run_pattern_within (opened_within deeper) out.0)) o) whole
      ∙ ap (λ (o : Option (List Piece)). option_and_then (λ pattern. giving (values.Match pattern) rest) o) ((law (opened_within deeper) inner pattern).0 h)

  value_read : (deeper : ℕ) → Complete (IsValueText deeper) (value deeper) EndsValue
  value_read deeper (values.Number sign n None) text rest h e = whole_read deeper (signed sign n) text rest h.1 e
  value_read deeper (values.Number sign n (Some d)) text rest h e = fraction_read deeper (signed sign n) d text rest h.0 h.1
  value_read deeper values.Coefficient text rest h e =
      ap (λ (t : List Terminal). value deeper (t ++ rest)) h.written ∙ word_read deeper h.name words.Coefficient rest h.spelled
  value_read deeper (values.Count ws) text rest h e =
      call_read deeper words.Count (AreJoined IsWeightedText by_terminal.Comma ws) text rest h.2 ∙ count_read deeper ws h.2.inner rest h.0 h.1 h.2.is_inner
  value_read deeper (values.Match pattern) text rest h e =
      call_read deeper words.Match (λ inner. IsPatternTextWithin (opened_within deeper) inner pattern) text rest h.1 ∙ matching_read deeper pattern h.1.inner rest h.0 h.1.is_inner
  value_read deeper (values.Occurs ns) text rest h e =
      call_read deeper words.Occurs (AreJoined IsNameText by_terminal.Comma ns) text rest h.1 ∙ occurs_read deeper ns h.1.inner rest h.0 h.1.is_inner

  -- a value doesn't begin with a parenthesis
  number_not_open : (sign : Option by_sign.Sign) (n : numbers.Number) (d rest : List Terminal) → begins Open ((written_sign sign ++ by_terminal.Number n ∷ d) ++ rest) ≡ false
  number_not_open None n d rest = refl
  number_not_open (Some signs.Plus) n d rest = refl
  number_not_open (Some signs.Minus) n d rest = refl

  not_open : (deeper : ℕ) (v : by_value.Value) (text rest : List Terminal) → IsValueText deeper v text → begins Open (text ++ rest) ≡ false
  not_open deeper (values.Number sign n d) text rest h =
      ap (λ (t : List Terminal). begins Open (t ++ rest)) h.1 ∙ number_not_open sign n (written_divisor d) rest
  not_open deeper values.Coefficient text rest h = ap (λ (t : List Terminal). begins Open (t ++ rest)) h.written
  not_open deeper (values.Count ws) text rest h = ap (λ (t : List Terminal). begins Open (t ++ rest)) h.2.written
  not_open deeper (values.Match pattern) text rest h = ap (λ (t : List Terminal). begins Open (t ++ rest)) h.1.written
  not_open deeper (values.Occurs ns) text rest h = ap (λ (t : List Terminal). begins Open (t ++ rest)) h.1.written

  -- ---- tests

  -- a value is neither divided nor compared any further
  abbrev EndsTest : List Terminal → Type 0
  EndsTest rest = (begins Over rest ≡ false) × (comparison_at rest ≡ None)

  alone_read : (deeper : ℕ) (t : Test) (text rest : List Terminal) → IsAloneText deeper t text → EndsTest rest → plain_test deeper (text ++ rest) ≡ Some (t, rest)
  alone_read deeper t text rest h e =
      ap (λ (o : Option (by_value.Value × List Terminal)). option_and_then (λ v. compared_by deeper v.0 (comparison_at v.1) v.1) o) (value_read deeper h.value text rest h.is_value e.0)
      ∙ ap (λ (o : Option Comparison). compared_by deeper h.value o rest) e.1
      ∙ ap (λ (t : Test). giving t rest) (sym h.is)

  parted_text : (a b rest : List Terminal) (x : Terminal) → (a ++ x ∷ b) ++ rest ≡ a ++ x ∷ (b ++ rest)
  parted_text a b rest x = append_assoc a (x ∷ b) rest

  comparison_read : (deeper : ℕ) (t : Test) (text rest : List Terminal) → IsComparisonText deeper t text → EndsTest rest → plain_test deeper (text ++ rest) ≡ Some (t, rest)
  comparison_read deeper t text rest h e =
      let left = h.parted.front in
      let right = h.parted.back in
      ap (λ (t : List Terminal). plain_test deeper (t ++ rest)) h.parted.written
      ∙ ap (plain_test deeper) (parted_text left right rest h.mark)
      ∙ ap (λ (o : Option (by_value.Value × List Terminal)). option_and_then (λ v. compared_by deeper v.0 (comparison_at v.1) v.1) o)
      (value_read deeper h.value left (h.mark ∷ (right ++ rest)) h.parted.is_left (compares_nothing_else h.mark h.comparison h.compares))
      ∙ ap (λ (o : Option Comparison). compared_by deeper h.value o (h.mark ∷ (right ++ rest))) h.compares
      ∙ ap (λ (o : Option (by_value.Value × List Terminal)). option_and_then (λ w. giving (compared h.value h.comparison w.0) w.1) o) (value_read deeper h.other right rest h.parted.is_right e.0)
      ∙ ap (λ (t : Test). giving t rest) (sym h.is)

  comparison_not_open : (deeper : ℕ) (t : Test) (text rest : List Terminal) → IsComparisonText deeper t text → begins Open (text ++ rest) ≡ false
  comparison_not_open deeper t text rest h =
      ap (λ (t : List Terminal). begins Open (t ++ rest)) h.parted.written
      ∙ ap (begins Open) (parted_text h.parted.front h.parted.back rest h.mark)
      ∙ not_open deeper h.value h.parted.front (h.mark ∷ (h.parted.back ++ rest)) h.parted.is_left

  abbrev EndsTests : List Terminal → Type 0
  EndsTests rest = EndsTest rest × (begins And rest ≡ false)

  alternatives_read : (Text : Test → List Terminal → Type 0) (item : Reads Test) → Complete Text item EndsTest
      → Complete (AreAlternativesText Text) (alternatives_by item) (λ rest. EndsTests rest × (begins Or rest ≡ false))
  alternatives_read Text item complete =
      all_complete (AreJoined Text by_terminal.And) (all_separated item And) Or by_terminal.Or or_mark EndsTests
      (all_complete Text item And by_terminal.And and_mark EndsTest complete (λ rest. (refl, refl))) (λ rest. ((refl, refl), refl))

  parenthesis_read : (Text : Test → List Terminal → Type 0) (item : Reads Test) → Complete Text item EndsTest → (t : Test) (text rest : List Terminal) (h : IsParenthesisText (AreAlternativesText Text) t text)
      → in_parentheses (alternatives_by item) (h.enclosed.inner ++ by_terminal.Close ∷ rest) ≡ Some (t, rest)
  parenthesis_read Text item complete t text rest h =
      ap (λ (o : Option (Condition × List Terminal)). option_and_then (λ c. option_and_then (λ behind. giving (parenthesis c.0) behind) (take Close c.1)) o)
      (alternatives_read Text item complete h.condition h.enclosed.inner (by_terminal.Close ∷ rest) h.enclosed.is_inner (((refl, refl), refl), refl))
      ∙ ap (λ (t : Test). giving t rest) (sym h.is)

  enclosed_text : (inner rest : List Terminal) → (by_terminal.Open ∷ inner ++ by_terminal.Close ∷ []) ++ rest ≡ by_terminal.Open ∷ (inner ++ by_terminal.Close ∷ rest)
  enclosed_text inner rest = ap (λ (t : List Terminal). by_terminal.Open ∷ t) (append_assoc inner (by_terminal.Close ∷ []) rest)

  zero_read : (t : Test) (text rest : List Terminal) → IsTestText zero t text → EndsTest rest → test zero (text ++ rest) ≡ Some (t, rest)
  unfolding test IsTestText
  zero_read t text rest (inl h) e =
      ap (λ (b : Bool). cond b None (plain_test zero (text ++ rest))) (not_open zero h.value text rest h.is_value) ∙ alone_read zero t text rest h e
  zero_read t text rest (inr h) e =
      ap (λ (b : Bool). cond b None (plain_test zero (text ++ rest))) (comparison_not_open zero t text rest h) ∙ comparison_read zero t text rest h e

  more_read : (deeper : ℕ) → Complete (IsTestText deeper) (test deeper) EndsTest → (t : Test) (text rest : List Terminal) → IsTestText (suc deeper) t text → EndsTest rest → test (suc deeper) (text ++ rest) ≡ Some (t, rest)
  unfolding test IsTestText
  more_read deeper complete t text rest (inl h) e =
      ap (λ (b : Bool). cond b (in_parentheses (alternatives_by (test deeper)) (tail_of (text ++ rest))) (plain_test (suc deeper) (text ++ rest))) (not_open (suc deeper) h.value text rest h.is_value)
      ∙ alone_read (suc deeper) t text rest h e
  more_read deeper complete t text rest (inr (inl h)) e =
      ap (λ (b : Bool). cond b (in_parentheses (alternatives_by (test deeper)) (tail_of (text ++ rest))) (plain_test (suc deeper) (text ++ rest))) (comparison_not_open (suc deeper) t text rest h)
      ∙ comparison_read (suc deeper) t text rest h e
  more_read deeper complete t text rest (inr (inr h)) e =
      ap (λ (t : List Terminal). test (suc deeper) (t ++ rest)) h.enclosed.written
      ∙ ap (test (suc deeper)) (enclosed_text h.enclosed.inner rest)
      ∙ parenthesis_read (IsTestText deeper) (test deeper) complete t text rest h

  test_read : (deeper : ℕ) → Complete (IsTestText deeper) (test deeper) EndsTest
  test_read zero t text rest h e = zero_read t text rest h e
  test_read (suc deeper) t text rest h e = more_read deeper (test_read deeper) t text rest h e

  -- ---- a condition at the front

  pub front_read : (text rest : List Terminal) (c : Condition) → IsConditionText text c → front (text ++ rest) ≡ Some (c, rest)
  front_read text rest c h =
      ap (λ (t : List Terminal). front (t ++ rest)) h.written
      ∙ ap front (enclosed_text h.inner rest)
      ∙ ap (λ (o : Option (Condition × List Terminal)). option_and_then (λ out. option_and_then (λ behind. giving out.0 behind) (take Close out.1)) o)
      (alternatives_read (IsTestText within_condition) (test within_condition) (test_read within_condition) c h.inner (by_terminal.Close ∷ rest) h.is_inner (((refl, refl), refl), refl))
