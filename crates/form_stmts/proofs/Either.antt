-- What is so in one way, or isn't: what reading by a function gives.
use Rattle.std.proofs.Common.{◌≡◌, ◌⊎◌, inl, inr, List, Option, Some, None, Result, Ok, Err, refl, sym, ◌∙◌}
use Rattle.std.specs.Prelude.{IfOk, IfErr}
use Rattle.std.proofs.lemmas.Option.{same_Some, none-some}
use Rattle.form_grammar.specs.declared.error.ReadError.{ReadError}
use Rattle.form_grammar.specs.declared.error.ReadError.TheVariants.{BadSyntax, Memory}
use Rattle.form_grammar.specs.declared.terminal.Terminal.{Terminal}
use Rattle.form_grammar.specs.Reading.{Gives, Excludes}

-- something is so, or it isn't
abbrev pub IsOrNot : {X : Type 0} → (X → Type 0) → Type 0
IsOrNot {X} P = ((x : X) × P x) ⊎ ((x : X) → P x → ⊥)

abbrev pub IsOne : {X : Type 0} → (X → Type 0) → Type 0
IsOne {X} P = (x y : X) → P x → P y → x ≡ y

-- a function gives exactly what is so
module _ {X : Type 0} (P : List Terminal → X → Type 0) (read : List Terminal → Option X)
    (sound : (terminals : List Terminal) (x : X) → read terminals ≡ Some x → P terminals x)
    (complete : (terminals : List Terminal) (x : X) → P terminals x → read terminals ≡ Some x) where
  pub found_by : (r : Result X ReadError) (terminals : List Terminal) → Gives (λ x. x) r (read terminals) → IfOk r (λ x. P terminals x)
  found_by (Err error) terminals e = tt
  found_by (Ok x) terminals e = sound terminals x e

  pub none_by : (r : Result X ReadError) (terminals : List Terminal) → Gives (λ x. x) r (read terminals) → IfErr r (λ error. Excludes error (P terminals))
  none_by (Ok x) terminals e = tt
  none_by (Err Memory) terminals e = tt
  none_by (Err BadSyntax) terminals e = λ x h. none-some x (sym e ∙ complete terminals x h)

  pub one_by : (terminals : List Terminal) → IsOne (P terminals)
  one_by terminals x y h k = same_Some x y (sym (complete terminals x h) ∙ complete terminals y k)

  pub or_not_by : (terminals : List Terminal) → IsOrNot (P terminals)
  or_not_by terminals = split (read terminals) refl where
    split : (o : Option X) → read terminals ≡ o → IsOrNot (P terminals)
    split (Some x) e = inl (x, sound terminals x e)
    split None e = inr (λ x h. none-some x (sym e ∙ complete terminals x h))
