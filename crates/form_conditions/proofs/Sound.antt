-- What is read is written so.
use Rattle.std.proofs.Common.{◌≡◌, ◌≢◌, ◌⊎◌, inl, inr, ℕ, zero, suc, ◌≤◌, Bool, true, false, cond, eqb, ltb, List, [], ◌∷◌, ◌++◌, length, Option, Some, None, option_and_then, refl, sym, ap, subst, ◌∙◌, append_assoc}
use Rattle.std.proofs.lemmas.Bool.{eqb-false, ltb-false}
use Rattle.std.proofs.lemmas.List.{append-nil}
use Rattle.std.proofs.lemmas.Option.{same_Some}
use Rattle.form_base.specs.declared.comparison.Comparison.{Comparison}
use Rattle.form_number.specs.declared.number.Number as numbers
use Rattle.form_ast.specs.declared.expr.SignedNumber.{SignedNumber}
use Rattle.form_ast.specs.declared.expr.Spelled.{Spelled}
use Rattle.form_ast.specs.declared.condition.Weighted.{Weighted}
use Rattle.form_ast.specs.declared.condition.Value as by_value
use Rattle.form_ast.specs.declared.condition.Value.TheVariants as values
use Rattle.form_ast.specs.Conditions.{Condition, Test, nonzero, compared, parenthesis}
use Rattle.form_ast.specs.Lawful.{most_counted}
use Rattle.form_grammar.specs.declared.terminal.Terminal.{Terminal}
use Rattle.form_grammar.specs.declared.terminal.Terminal.TheVariants as by_terminal
use Rattle.form_grammar.specs.Grammar.{written_sign, written_number, IsPatternTextWithin}
use Rattle.form_grammar.specs.Texts.{run_pattern_within}
use Rattle.form_conditions.specs.declared.tokens.Wanted.TheVariants.{And, Or, Over, Comma, Open, Close, Name}
use Rattle.form_conditions.specs.declared.word.Word.{Word}
use Rattle.form_conditions.specs.declared.word.Word.TheVariants as words
use Rattle.form_conditions.specs.Word.{word_of}
use Rattle.form_conditions.specs.Grammar.{AreJoined, IsEnclosed, IsCall, IsNameText, IsWeightedText, IsValueText, IsAloneText, IsComparisonText, IsParenthesisText, AreAlternativesText, IsTestText, IsConditionText, IsConditionBefore, opened_within, within_condition}
use Rattle.form_conditions.specs.Reading.{Reads, all_separated, take_name, take_number, signed_number, divided_by, divided, number_value, weighted_by, weighted, not_too_many, weights, names, opened, count, occurs, ends, depth_behind, enclosed, matching, word_value, named, value, comparison_at, compared_by, plain_test, alternatives_by, in_parentheses, test, conjunction, alternatives, front}
use Rattle.form_conditions.specs.Tokens.{begins, take, tail_of, nesting_of}
use Rattle.form_conditions.proofs.Fronts.{IsFront, Sound, giving, steps, taken, is_opened, name_taken, number_taken, signed_taken, mark_at, and_mark, or_mark, over_mark, comma_mark, open_mark, close_mark}
use Rattle.form_conditions.proofs.Patterns.{IsExactly}
use Rattle.form_conditions.proofs.Separated.{all_sound}

-- what is read, and what is left behind it, is what was made of the front
made : {A : Type 0} (Text : A → List Terminal → Type 0) (text rest more : List Terminal) (x y : A) → giving y more ≡ giving x rest → IsFront (Text y) text more → IsFront (Text x) text rest
made {A} Text text rest more x y e h =
    let here : A × List Terminal = (y, more) in
    let there : A × List Terminal = (x, rest) in
    subst (λ (p : A × List Terminal). IsFront (Text p.0) text p.1) (same_Some here there e) h

-- ---- names and numbers

pub name_sound : Sound IsNameText take_name
name_sound text rest n e = record { front = by_terminal.Name n ∷ []; is_front = refl; split = name_taken text rest n e }

pub weighted_sound : Sound IsWeightedText weighted
weighted_sound text rest w e =
    let a = steps (take_name text) (λ name. option_and_then (λ behind. option_and_then (λ n. giving (weighted_by name.0 n.0) n.1) (signed_number behind)) (take Comma name.1)) (w, rest) e in
    let b = steps (take Comma a.0.1) (λ behind. option_and_then (λ n. giving (weighted_by a.0.0 n.0) n.1) (signed_number behind)) (w, rest) a.2 in
    let c = steps (signed_number b.0) (λ n. giving (weighted_by a.0.0 n.0) n.1) (w, rest) b.2 in
    made IsWeightedText text rest c.0.1 w (weighted_by a.0.0 c.0.0) c.2
    (record {
      front = by_terminal.Name a.0.0 ∷ by_terminal.Comma ∷ written_number c.0.0;
      is_front = refl;
      split = name_taken text a.0.1 a.0.0 a.1
          ∙ ap (λ (t : List Terminal). by_terminal.Name a.0.0 ∷ t) (taken Comma by_terminal.Comma comma_mark a.0.1 b.0 b.1
          ∙ ap (λ (t : List Terminal). by_terminal.Comma ∷ t) (signed_taken b.0 c.0.1 c.0.0 c.1));
    })

-- at most 1,000 of them
weights_sound : (text rest : List Terminal) (ws : List Weighted) → weights text ≡ Some (ws, rest) → IsFront (AreJoined IsWeightedText by_terminal.Comma ws) text rest × (length ws ≤ most_counted)
weights_sound text rest ws e =
    let a = steps (all_separated weighted Comma text) not_too_many (ws, rest) e in
    by_test a.0 a.1 (ltb most_counted (length a.0.0)) refl a.2
  where
    by_test : (out : List Weighted × List Terminal) → all_separated weighted Comma text ≡ Some out → (b : Bool) → ltb most_counted (length out.0) ≡ b → cond b None (Some out) ≡ Some (ws, rest)
        → IsFront (AreJoined IsWeightedText by_terminal.Comma ws) text rest × (length ws ≤ most_counted)
    by_test out f true g h = absurd cc
    by_test out f false g h =
        let there : List Weighted × List Terminal = (ws, rest) in
        let same : out ≡ there = same_Some out there h in
        let few = ltb-false most_counted (length out.0) g in (
          subst (λ (p : List Weighted × List Terminal). IsFront (AreJoined IsWeightedText by_terminal.Comma p.0) text p.1) same (all_sound IsWeightedText weighted Comma by_terminal.Comma comma_mark weighted_sound text out.1 out.0 f),
          subst (λ (p : List Weighted × List Terminal). length p.0 ≤ most_counted) same few,
        )

names_sound : Sound (AreJoined IsNameText by_terminal.Comma) names
names_sound = all_sound IsNameText take_name Comma by_terminal.Comma comma_mark name_sound

-- ---- numbers as values

divided_text : (a b rest : List Terminal) (x : Terminal) → (a ++ x ∷ []) ++ (b ++ rest) ≡ (a ++ x ∷ b) ++ rest
divided_text a b rest x = simp append_assoc

divided_sound : (deeper : ℕ) (text more rest : List Terminal) (n : SignedNumber) (v : by_value.Value) → text ≡ written_number n ++ by_terminal.Over ∷ more → divided n more ≡ Some (v, rest) → IsFront (IsValueText deeper v) text rest
divided_sound deeper text more rest n v split e =
    let a = steps (take_number more) (λ d. option_and_then (λ v. giving v d.1) (divided_by n d.0)) (v, rest) e in
    by_test a.0 a.1 (eqb a.0.0.value 0) refl a.2
  where
    by_test : (d : numbers.Number × List Terminal) → take_number more ≡ Some d → (b : Bool) → eqb d.0.value 0 ≡ b
        → option_and_then (λ v. giving v d.1) (cond b None (Some (values.Number n.sign n.number (Some d.0)))) ≡ Some (v, rest) → IsFront (IsValueText deeper v) text rest
    by_test d f true g h = absurd cc
    by_test d f false g h =
        let no_zero : d.0.value ≢ 0 = eqb-false d.0.value 0 g in
        made (IsValueText deeper) text rest d.1 v (values.Number n.sign n.number (Some d.0)) h
        (record {
          front = written_sign n.sign ++ by_terminal.Number n.number ∷ by_terminal.Over ∷ by_terminal.Number d.0 ∷ [];
          is_front = (no_zero, refl);
          split = split
              ∙ ap (λ (t : List Terminal). written_number n ++ by_terminal.Over ∷ t) (number_taken more d.1 d.0 f)
              ∙ divided_text (written_sign n.sign) (by_terminal.Over ∷ by_terminal.Number d.0 ∷ []) d.1 (by_terminal.Number n.number);
        })

number_sound : (deeper : ℕ) → Sound (IsValueText deeper) number_value
number_sound deeper text rest v e =
    let a = steps (signed_number text) (λ n. cond (begins Over n.1) (divided n.0 (tail_of n.1)) (Some (values.Number n.0.sign n.0.number None, n.1))) (v, rest) e in
    by_test a.0 a.1 (begins Over a.0.1) refl a.2
  where
    by_test : (n : SignedNumber × List Terminal) → signed_number text ≡ Some n → (b : Bool) → begins Over n.1 ≡ b
        → cond b (divided n.0 (tail_of n.1)) (Some (values.Number n.0.sign n.0.number None, n.1)) ≡ Some (v, rest) → IsFront (IsValueText deeper v) text rest
    by_test n f true g h =
        divided_sound deeper text (tail_of n.1) rest n.0 v (signed_taken text n.1 n.0 f ∙ ap (λ (t : List Terminal). written_number n.0 ++ t) (over_mark.1 n.1 g)) h
    by_test n f false g h =
        made (IsValueText deeper) text rest n.1 v (values.Number n.0.sign n.0.number None) h
        (record { front = written_number n.0; is_front = (tt, refl); split = signed_taken text n.1 n.0 f })

-- ---- words

-- a name, a parenthesis, what is read in it, and its end
called : (word : Word) (Text : List Terminal → Type 0) (n : Spelled) (text behind inner rest : List Terminal) → word_of n.name ≡ Some word → text ≡ by_terminal.Name n ∷ behind → behind ≡ by_terminal.Open ∷ inner
    → IsFront Text inner (by_terminal.Close ∷ rest) → IsFront (IsCall word Text) text rest
called word Text n text behind inner rest spelled e f h = record {
  front = by_terminal.Name n ∷ by_terminal.Open ∷ h.front ++ by_terminal.Close ∷ [];
  is_front = record { name = n; spelled = spelled; inner = h.front; is_inner = h.is_front; written = refl };
  split = e
      ∙ ap (λ (t : List Terminal). by_terminal.Name n ∷ t) (f ∙ ap (λ (t : List Terminal). by_terminal.Open ∷ t) (h.split ∙ sym (append_assoc h.front (by_terminal.Close ∷ []) rest)));
}

closed_by : (Text : List Terminal → Type 0) (text behind rest : List Terminal) → IsFront Text text behind → take Close behind ≡ Some rest → IsFront Text text (by_terminal.Close ∷ rest)
closed_by Text text behind rest h e = record {
  front = h.front;
  is_front = h.is_front;
  split = h.split ∙ ap (λ (t : List Terminal). h.front ++ t) (taken Close by_terminal.Close close_mark behind rest e);
}

-- what stands in a parenthesis, up to its end
pub record IsUpTo (before text : List Terminal) (out : List Terminal × List Terminal) : Type 0 where
  more : List Terminal
  kept : out.0 ≡ before ++ more
  split : text ≡ more ++ by_terminal.Close ∷ out.1

ends_so : (t : Terminal) (depth : ℕ) → ends (nesting_of t) depth ≡ true → t ≡ by_terminal.Close
ends_so by_terminal.Close depth e = refl
ends_so _ depth e = absurd cc

enclosed_step : (t : Terminal) (rest before : List Terminal) (depth : ℕ) (out : List Terminal × List Terminal)
    → (enclosed (depth_behind (nesting_of t) depth) (before ++ t ∷ []) rest ≡ Some out → IsUpTo (before ++ t ∷ []) rest out)
    → (b : Bool) → ends (nesting_of t) depth ≡ b → cond b (Some (before, rest)) (enclosed (depth_behind (nesting_of t) depth) (before ++ t ∷ []) rest) ≡ Some out → IsUpTo before (t ∷ rest) out
enclosed_step t rest before depth out others true f e =
    let here : List Terminal × List Terminal = (before, rest) in
    let same : here ≡ out = same_Some here out e in
    record {
      more = [];
      kept = sym (ap (λ (p : List Terminal × List Terminal). p.0) same) ∙ sym (append-nil before);
      split = ap (λ (x : Terminal). x ∷ rest) (ends_so t depth f) ∙ ap (λ (p : List Terminal × List Terminal). by_terminal.Close ∷ p.1) same;
    }
enclosed_step t rest before depth out others false f e =
    let h = others e in
    record {
      more = t ∷ h.more;
      kept = h.kept ∙ append_assoc before (t ∷ []) h.more;
      split = ap (λ (x : List Terminal). t ∷ x) h.split;
    }

enclosed_sound : (text : List Terminal) (depth : ℕ) (before : List Terminal) (out : List Terminal × List Terminal) → enclosed depth before text ≡ Some out → IsUpTo before text out
unfolding enclosed
enclosed_sound [] depth before out e = absurd cc
enclosed_sound (t ∷ rest) depth before out e =
    enclosed_step t rest before depth out (λ f. enclosed_sound rest (depth_behind (nesting_of t) depth) (before ++ t ∷ []) out f) (ends (nesting_of t) depth) refl e

module _ (law : IsExactly) where
  count_sound : (deeper : ℕ) (n : Spelled) (text behind rest : List Terminal) (v : by_value.Value) → word_of n.name ≡ Some words.Count → text ≡ by_terminal.Name n ∷ behind → count deeper behind ≡ Some (v, rest) → IsFront (IsValueText deeper v) text rest
  count_sound deeper n text behind rest v spelled split e =
      let a = steps (opened deeper behind) (λ inner. option_and_then (λ out. option_and_then (λ rest. giving (values.Count out.0) rest) (take Close out.1)) (weights inner)) (v, rest) e in
      let b = steps (weights a.0) (λ out. option_and_then (λ rest. giving (values.Count out.0) rest) (take Close out.1)) (v, rest) a.2 in
      let c = steps (take Close b.0.1) (λ rest. giving (values.Count b.0.0) rest) (v, rest) b.2 in
      let room = is_opened deeper behind a.0 a.1 in
      let inner = weights_sound a.0 b.0.1 b.0.0 b.1 in
      let call = called words.Count (AreJoined IsWeightedText by_terminal.Comma b.0.0) n text behind a.0 c.0 spelled split room.1 (closed_by (AreJoined IsWeightedText by_terminal.Comma b.0.0) a.0 b.0.1 c.0 inner.0 c.1) in
      made (IsValueText deeper) text rest c.0 v (values.Count b.0.0) c.2
      (record { front = call.front; is_front = (room.0, inner.1, call.is_front); split = call.split })

  occurs_sound : (deeper : ℕ) (n : Spelled) (text behind rest : List Terminal) (v : by_value.Value) → word_of n.name ≡ Some words.Occurs → text ≡ by_terminal.Name n ∷ behind → occurs deeper behind ≡ Some (v, rest) → IsFront (IsValueText deeper v) text rest
  occurs_sound deeper n text behind rest v spelled split e =
      let a = steps (opened deeper behind) (λ inner. option_and_then (λ out. option_and_then (λ rest. giving (values.Occurs out.0) rest) (take Close out.1)) (names inner)) (v, rest) e in
      let b = steps (names a.0) (λ out. option_and_then (λ rest. giving (values.Occurs out.0) rest) (take Close out.1)) (v, rest) a.2 in
      let c = steps (take Close b.0.1) (λ rest. giving (values.Occurs b.0.0) rest) (v, rest) b.2 in
      let room = is_opened deeper behind a.0 a.1 in
      let inner = names_sound a.0 b.0.1 b.0.0 b.1 in
      let call = called words.Occurs (AreJoined IsNameText by_terminal.Comma b.0.0) n text behind a.0 c.0 spelled split room.1 (closed_by (AreJoined IsNameText by_terminal.Comma b.0.0) a.0 b.0.1 c.0 inner c.1) in
      made (IsValueText deeper) text rest c.0 v (values.Occurs b.0.0) c.2
      (record { front = call.front; is_front = (room.0, call.is_front); split = call.split })

  matching_sound : (deeper : ℕ) (n : Spelled) (text behind rest : List Terminal) (v : by_value.Value) → word_of n.name ≡ Some words.Match → text ≡ by_terminal.Name n ∷ behind → matching deeper behind ≡ Some (v, rest) → IsFront (IsValueText deeper v) text rest
  matching_sound deeper n text behind rest v spelled split e =
      let a = steps (opened deeper behind) (λ inner. option_and_then (λ out. option_and_then (λ pattern. giving (values.Match pattern) out.1) (run_pattern_within (opened_within deeper) out.0)) (enclosed 0 [] inner)) (v, rest) e in
      let b = steps (enclosed 0 [] a.0) (λ out. option_and_then (λ pattern. giving (values.Match pattern) out.1) (run_pattern_within (opened_within deeper) out.0)) (v, rest) a.2 in
      let c = steps (run_pattern_within (opened_within deeper) b.0.0) (λ pattern. giving (values.Match pattern) b.0.1) (v, rest) b.2 in
      let room = is_opened deeper behind a.0 a.1 in
      let inner = enclosed_sound a.0 0 [] b.0 b.1 in
      let pattern : IsPatternTextWithin (opened_within deeper) b.0.0 c.0 = (law (opened_within deeper) b.0.0 c.0).1 c.1 in
      let front : IsFront (λ inner. IsPatternTextWithin (opened_within deeper) inner c.0) a.0 (by_terminal.Close ∷ b.0.1) =
      record { front = b.0.0; is_front = pattern; split = inner.split ∙ ap (λ (t : List Terminal). t ++ by_terminal.Close ∷ b.0.1) (sym inner.kept) } in
      let call = called words.Match (λ inner. IsPatternTextWithin (opened_within deeper) inner c.0) n text behind a.0 b.0.1 spelled split room.1 front in
      made (IsValueText deeper) text rest b.0.1 v (values.Match c.0) c.2
      (record { front = call.front; is_front = (room.0, call.is_front); split = call.split })

  word_sound : (deeper : ℕ) (n : Spelled) (text behind rest : List Terminal) (v : by_value.Value) → text ≡ by_terminal.Name n ∷ behind → (o : Option Word) → word_of n.name ≡ o → word_value deeper o behind ≡ Some (v, rest)
      → IsFront (IsValueText deeper v) text rest
  word_sound deeper n text behind rest v split None f e = absurd cc
  word_sound deeper n text behind rest v split (Some words.Coefficient) f e =
      made (IsValueText deeper) text rest behind v values.Coefficient e
      (record { front = by_terminal.Name n ∷ []; is_front = record { name = n; spelled = f; written = refl }; split = split })
  word_sound deeper n text behind rest v split (Some words.Count) f e = count_sound deeper n text behind rest v f split e
  word_sound deeper n text behind rest v split (Some words.Match) f e = matching_sound deeper n text behind rest v f split e
  word_sound deeper n text behind rest v split (Some words.Occurs) f e = occurs_sound deeper n text behind rest v f split e

  named_sound : (deeper : ℕ) → Sound (IsValueText deeper) (named deeper)
  named_sound deeper text rest v e =
      let a = steps (take_name text) (λ name. word_value deeper (word_of name.0.name) name.1) (v, rest) e in
      word_sound deeper a.0.0 text a.0.1 rest v (name_taken text a.0.1 a.0.0 a.1) (word_of a.0.0.name) refl a.2

  value_sound : (deeper : ℕ) → Sound (IsValueText deeper) (value deeper)
  unfolding value
  value_sound deeper text rest v e = by_test (begins Name text) e where
    by_test : (b : Bool) → cond b (named deeper text) (number_value text) ≡ Some (v, rest) → IsFront (IsValueText deeper v) text rest
    by_test true f = named_sound deeper text rest v f
    by_test false f = number_sound deeper text rest v f

  -- ---- tests

  abbrev IsPlainText : ℕ → Test → List Terminal → Type 0
  IsPlainText deeper t text = IsAloneText deeper t text ⊎ IsComparisonText deeper t text

  plain_sound : (deeper : ℕ) → Sound (IsPlainText deeper) (plain_test deeper)
  plain_sound deeper text rest t e =
      let a = steps (value deeper text) (λ v. compared_by deeper v.0 (comparison_at v.1) v.1) (t, rest) e in
      by_mark a.0 (value_sound deeper text a.0.1 a.0.0 a.1) (comparison_at a.0.1) refl a.2
    where
      by_mark : (v : by_value.Value × List Terminal) → IsFront (IsValueText deeper v.0) text v.1 → (o : Option Comparison) → comparison_at v.1 ≡ o → compared_by deeper v.0 o v.1 ≡ Some (t, rest)
          → IsFront (IsPlainText deeper t) text rest
      by_mark v h None f g =
          made (IsPlainText deeper) text rest v.1 t (nonzero v.0) g
          (record { front = h.front; is_front = inl (record { value = v.0; is_value = h.is_front; is = refl }); split = h.split })
      by_mark v h (Some c) f g =
          let b = steps (value deeper (tail_of v.1)) (λ w. giving (compared v.0 c w.0) w.1) (t, rest) g in
          let k = value_sound deeper (tail_of v.1) b.0.1 b.0.0 b.1 in
          let m = mark_at v.1 c f in
          made (IsPlainText deeper) text rest b.0.1 t (compared v.0 c b.0.0) b.2
          (record {
            front = h.front ++ m.0 ∷ k.front;
            is_front = inr (record {
              value = v.0;
              comparison = c;
              other = b.0.0;
              mark = m.0;
              compares = m.2;
              parted = record { front = h.front; back = k.front; is_left = h.is_front; is_right = k.is_front; written = refl };
              is = refl;
            });
            split = h.split
                ∙ ap (λ (t : List Terminal). h.front ++ t) (m.1 ∙ ap (λ (t : List Terminal). m.0 ∷ t) k.split)
                ∙ sym (append_assoc h.front (m.0 ∷ k.front) b.0.1);
          })

  alternatives_sound : (Text : Test → List Terminal → Type 0) (item : Reads Test) → Sound Text item → Sound (AreAlternativesText Text) (alternatives_by item)
  alternatives_sound Text item s =
      all_sound (AreJoined Text by_terminal.And) (all_separated item And) Or by_terminal.Or or_mark (all_sound Text item And by_terminal.And and_mark s)

  enclosed_text : (Text : List Terminal → Type 0) (text inner rest : List Terminal) → text ≡ by_terminal.Open ∷ inner → IsFront Text inner (by_terminal.Close ∷ rest) → IsFront (IsEnclosed Text) text rest
  enclosed_text Text text inner rest e h = record {
    front = by_terminal.Open ∷ h.front ++ by_terminal.Close ∷ [];
    is_front = record { inner = h.front; is_inner = h.is_front; written = refl };
    split = e ∙ ap (λ (t : List Terminal). by_terminal.Open ∷ t) (h.split ∙ sym (append_assoc h.front (by_terminal.Close ∷ []) rest));
  }

  parenthesis_sound : (Text : Test → List Terminal → Type 0) (item : Reads Test) (text rest : List Terminal) (t : Test) → Sound Text item → begins Open text ≡ true → in_parentheses (alternatives_by item) (tail_of text) ≡ Some (t, rest)
      → IsFront (IsParenthesisText (AreAlternativesText Text) t) text rest
  parenthesis_sound Text item text rest t s f e =
      let a = steps (alternatives_by item (tail_of text)) (λ c. option_and_then (λ rest. giving (parenthesis c.0) rest) (take Close c.1)) (t, rest) e in
      let b = steps (take Close a.0.1) (λ rest. giving (parenthesis a.0.0) rest) (t, rest) a.2 in
      let inner = alternatives_sound Text item s (tail_of text) a.0.1 a.0.0 a.1 in
      let whole = enclosed_text (AreAlternativesText Text a.0.0) text (tail_of text) b.0 (open_mark.1 text f) (closed_by (AreAlternativesText Text a.0.0) (tail_of text) a.0.1 b.0 inner b.1) in
      made (IsParenthesisText (AreAlternativesText Text)) text rest b.0 t (parenthesis a.0.0) b.2
      (record { front = whole.front; is_front = record { condition = a.0.0; enclosed = whole.is_front; is = refl }; split = whole.split })

  zero_sound : (text rest : List Terminal) (t : Test) (b : Bool) → cond b None (plain_test zero text) ≡ Some (t, rest) → IsFront (IsTestText zero t) text rest
  unfolding IsTestText
  zero_sound text rest t true e = absurd cc
  zero_sound text rest t false e = plain_sound zero text rest t e

  more_sound : (deeper : ℕ) (text rest : List Terminal) (t : Test) → Sound (IsTestText deeper) (test deeper) → (b : Bool) → begins Open text ≡ b
      → cond b (in_parentheses (alternatives_by (test deeper)) (tail_of text)) (plain_test (suc deeper) text) ≡ Some (t, rest) → IsFront (IsTestText (suc deeper) t) text rest
  unfolding IsTestText
  more_sound deeper text rest t s true f e =
      let h = parenthesis_sound (IsTestText deeper) (test deeper) text rest t s f e in
      record { front = h.front; is_front = inr (inr h.is_front); split = h.split }
  more_sound deeper text rest t s false f e =
      let h = plain_sound (suc deeper) text rest t e in
      record { front = h.front; is_front = one_of h.is_front; split = h.split }
    where
      one_of : {A B C : Type 0} → A ⊎ B → A ⊎ (B ⊎ C)
      one_of (inl a) = inl a
      one_of (inr b) = inr (inl b)

  pub test_sound : (deeper : ℕ) → Sound (IsTestText deeper) (test deeper)
  unfolding test
  test_sound zero text rest t e = zero_sound text rest t (begins Open text) e
  test_sound (suc deeper) text rest t e = more_sound deeper text rest t (test_sound deeper) (begins Open text) refl e

  pub conjunction_sound : (deeper : ℕ) → Sound (AreJoined (IsTestText deeper) by_terminal.And) (conjunction deeper)
  conjunction_sound deeper = all_sound (IsTestText deeper) (test deeper) And by_terminal.And and_mark (test_sound deeper)

  -- ---- a condition at the front

  abbrev OfCondition : Condition → List Terminal → Type 0
  OfCondition c text = AreAlternativesText (IsTestText within_condition) c text

  pub front_sound : (text rest : List Terminal) (c : Condition) → front text ≡ Some (c, rest) → IsConditionBefore rest text c
  front_sound text rest c e =
      let a = steps (take Open text) (λ inner. option_and_then (λ out. option_and_then (λ rest. giving out.0 rest) (take Close out.1)) (alternatives within_condition inner)) (c, rest) e in
      let b = steps (alternatives within_condition a.0) (λ out. option_and_then (λ rest. giving out.0 rest) (take Close out.1)) (c, rest) a.2 in
      let d = steps (take Close b.0.1) (λ rest. giving b.0.0 rest) (c, rest) b.2 in
      let inner = alternatives_sound (IsTestText within_condition) (test within_condition) (test_sound within_condition) a.0 b.0.1 b.0.0 b.1 in
      let whole = enclosed_text (OfCondition b.0.0) text a.0 d.0 (taken Open by_terminal.Open open_mark text a.0 a.1) (closed_by (OfCondition b.0.0) a.0 b.0.1 d.0 inner d.1) in
      let h = made (λ c t. IsConditionText t c) text rest d.0 c b.0.0 d.2 (record { front = whole.front; is_front = whole.is_front; split = whole.split }) in
      record { front = h.front; condition = h.is_front; split = h.split }
