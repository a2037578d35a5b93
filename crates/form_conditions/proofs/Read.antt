-- What reading a condition answers.
use Rattle.std.proofs.Common.{◌≡◌, ◌⊎◌, inl, inr, List, [], ◌∷◌, ◌++◌, Option, Some, None, option_and_then, Result, Ok, Err, refl, sym, ap, subst, ◌∙◌}
use Rattle.std.specs.Prelude.{IfOk, IfErr}
use Rattle.std.proofs.lemmas.List.{append-nil, append_cancel_right}
use Rattle.std.proofs.lemmas.Option.{same_Some, none-some}
use Rattle.form_ast.specs.Conditions.{Condition}
use Rattle.form_grammar.specs.declared.error.ReadError.{ReadError}
use Rattle.form_grammar.specs.declared.error.ReadError.TheVariants.{BadSyntax, Memory}
use Rattle.form_grammar.specs.declared.terminal.Terminal.{Terminal}
use Rattle.form_grammar.specs.Reading.{Gives, Excludes}
use Rattle.form_conditions.specs.Grammar.{IsConditionText, IsConditionBefore, BeginsWith}
use Rattle.form_conditions.specs.Reading.{front, at_end, whole}
use Rattle.form_conditions.proofs.Complete.{front_read}
use Rattle.form_conditions.proofs.Patterns.{IsExactly}
use Rattle.form_conditions.proofs.Sound.{front_sound}

abbrev Taken : Type 0
Taken = Condition × List Terminal

module _ (law : IsExactly) where
  -- a condition before these terminals is read so
  reads : (terminals rest : List Terminal) (c : Condition) → IsConditionBefore rest terminals c → front terminals ≡ Some (c, rest)
  reads terminals rest c h = ap front h.split ∙ front_read law h.front rest c h.condition

  pub take_found : (r : Result Condition ReadError) (terminals rest : List Terminal) → Gives (λ c. (c, rest)) r (front terminals) → IfOk r (λ c. IsConditionBefore rest terminals c)
  take_found (Ok c) terminals rest e = front_sound law terminals rest c e
  take_found (Err error) terminals rest e = tt

  pub take_none : (r : Result Condition ReadError) (terminals rest : List Terminal) → Gives (λ c. (c, rest)) r (front terminals) → IfErr r (λ error. Excludes error (BeginsWith terminals))
  take_none (Ok c) terminals rest e = tt
  take_none (Err Memory) terminals rest e = tt
  take_none (Err BadSyntax) terminals rest e = λ c h. none-some (c, h.0) (sym e ∙ reads terminals h.0 c h.1)

  -- ---- all of the terminals

  all_before : (terminals : List Terminal) (c : Condition) → IsConditionText terminals c → IsConditionBefore [] terminals c
  all_before terminals c h = record { front = terminals; condition = h; split = sym (append-nil terminals) }

  all_there : (terminals : List Terminal) (c : Condition) → IsConditionBefore [] terminals c → IsConditionText terminals c
  all_there terminals c h = subst (λ t. IsConditionText t c) (sym (h.split ∙ append-nil h.front)) h.condition

  whole_sound : (terminals : List Terminal) (c : Condition) → whole terminals ≡ Some c → IsConditionText terminals c
  whole_sound terminals c e = by_front (front terminals) refl e where
    by_rest : (made : Condition) (rest : List Terminal) → front terminals ≡ Some (made, rest) → at_end made rest ≡ Some c → IsConditionText terminals c
    by_rest made [] f g = all_there terminals c (subst (λ k. IsConditionBefore [] terminals k) (same_Some made c g) (front_sound law terminals [] made f))
    by_rest made (t ∷ rest) f g = absurd cc

    by_front : (o : Option Taken) → front terminals ≡ o → option_and_then (λ out. at_end out.0 out.1) o ≡ Some c → IsConditionText terminals c
    by_front None f g = absurd cc
    by_front (Some out) f g = by_rest out.0 out.1 f g

  whole_complete : (terminals : List Terminal) (c : Condition) → IsConditionText terminals c → whole terminals ≡ Some c
  whole_complete terminals c h = ap (option_and_then (λ (out : Taken). at_end out.0 out.1)) (reads terminals [] c (all_before terminals c h))

  pub whole_found : (r : Result Condition ReadError) (terminals : List Terminal) → Gives (λ c. c) r (whole terminals) → IfOk r (λ c. IsConditionText terminals c)
  whole_found (Ok c) terminals e = whole_sound terminals c e
  whole_found (Err error) terminals e = tt

  pub whole_none : (r : Result Condition ReadError) (terminals : List Terminal) → Gives (λ c. c) r (whole terminals) → IfErr r (λ error. Excludes error (IsConditionText terminals))
  whole_none (Ok c) terminals e = tt
  whole_none (Err Memory) terminals e = tt
  whole_none (Err BadSyntax) terminals e = λ c h. none-some c (sym e ∙ whole_complete terminals c h)

  -- ---- laws

  -- one front of the terminals is a condition at most
  pub one_front : (first other rest others : List Terminal) (c d : Condition) → IsConditionText first c → IsConditionText other d → first ++ rest ≡ other ++ others → (first ≡ other) × (rest ≡ others) × (c ≡ d)
  one_front first other rest others c d h k e =
      let here : Taken = (c, rest) in
      let there : Taken = (d, others) in
      let same : here ≡ there = same_Some here there (sym (front_read law first rest c h) ∙ ap front e ∙ front_read law other others d k) in
      let left : rest ≡ others = ap (λ (x : Taken). x.1) same in
      (append_cancel_right first other rest (e ∙ ap (λ x. other ++ x) (sym left)), left, ap (λ (x : Taken). x.0) same)

  pub one_whole : (terminals : List Terminal) (c d : Condition) → IsConditionText terminals c → IsConditionText terminals d → c ≡ d
  one_whole terminals c d h k = same_Some c d (sym (whole_complete terminals c h) ∙ whole_complete terminals d k)

  pub front_or_none : (terminals : List Terminal) → ((c : Condition) × BeginsWith terminals c) ⊎ ((c : Condition) → BeginsWith terminals c → ⊥)
  front_or_none terminals = by_front (front terminals) refl where
    by_front : (o : Option Taken) → front terminals ≡ o → ((c : Condition) × BeginsWith terminals c) ⊎ ((c : Condition) → BeginsWith terminals c → ⊥)
    by_front (Some out) e = inl (out.0, (out.1, front_sound law terminals out.1 out.0 e))
    by_front None e = inr (λ c h. none-some (c, h.0) (sym e ∙ reads terminals h.0 c h.1))

  pub whole_or_none : (terminals : List Terminal) → ((c : Condition) × IsConditionText terminals c) ⊎ ((c : Condition) → IsConditionText terminals c → ⊥)
  whole_or_none terminals = by_whole (whole terminals) refl where
    by_whole : (o : Option Condition) → whole terminals ≡ o → ((c : Condition) × IsConditionText terminals c) ⊎ ((c : Condition) → IsConditionText terminals c → ⊥)
    by_whole (Some c) e = inl (c, whole_sound terminals c e)
    by_whole None e = inr (λ c h. none-some c (sym e ∙ whole_complete terminals c h))
