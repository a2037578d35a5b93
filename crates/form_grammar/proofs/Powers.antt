-- Powers that a parenthesis may have.
use Rattle.std.proofs.Common.{◌≡◌, ◌≢◌, Bool, true, false, eqb, Option, Some, None, refl, cond}
use Rattle.std.proofs.lemmas.Bool.{eqb-true}
use Rattle.form_ast.specs.declared.expr.Sign.{Sign}
use Rattle.form_ast.specs.declared.expr.Sign.TheVariants.{Plus, Minus}
use Rattle.form_ast.specs.declared.expr.Power.{Power}
use Rattle.form_ast.specs.Lawful.{IsNegative}
use Rattle.form_grammar.specs.Effect.{is_negative}

is_zero : (b : Bool) → cond b false true ≡ false → b ≡ true
is_zero true e = refl
is_zero false e = cc

-- what isn't seen as negative isn't
pub not_negative : (p : Power) → is_negative p ≡ false → IsNegative p → ⊥
not_negative p e h = by_sign p.sign h.0 e where
  by_sign : (sign : Option Sign) → sign ≡ Some Minus → is_negative (record p { sign = sign }) ≡ false → ⊥
  by_sign None s e = cc
  by_sign (Some Plus) s e = cc
  by_sign (Some Minus) s e = h.1 (eqb-true p.number.value 0 (is_zero (eqb p.number.value 0) e))

-- what isn't negative isn't seen so
pub seen_not_negative : (p : Power) → (IsNegative p → ⊥) → is_negative p ≡ false
seen_not_negative p h = by_sign p.sign (λ s v. h (s, v)) where
  by_value : (b : Bool) → (b ≡ false → ⊥) → cond b false true ≡ false
  by_value true k = refl
  by_value false k = absurd (k refl)

  by_sign : (sign : Option Sign) → (sign ≡ Some Minus → p.number.value ≢ 0 → ⊥) → is_negative (record p { sign = sign }) ≡ false
  by_sign None k = refl
  by_sign (Some Plus) k = refl
  by_sign (Some Minus) k = by_value (eqb p.number.value 0) (λ e. k refl (λ v. absurd (differ e v)))
    where
      differ : eqb p.number.value 0 ≡ false → p.number.value ≡ 0 → ⊥
      differ e v = cc
