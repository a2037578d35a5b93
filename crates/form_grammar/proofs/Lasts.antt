-- The power of a factor: where one may stand.
use Rattle.std.proofs.Common.{◌≡◌, false, ◌&&◌, Option, Some, None, option_map, refl}
use Rattle.std.proofs.lemmas.Option.{same_Some}
use Rattle.form_ast.specs.declared.expr.Named.TheVariants as names
use Rattle.form_ast.specs.declared.expr.Power.{Power}
use Rattle.form_ast.specs.Syntax.{named, wildcard, Base, number, name, dot, delta, empty_call, call, parenthesis}
use Rattle.form_ast.specs.Lawful.{IsPowerOf}
use Rattle.form_grammar.specs.declared.effect.Expected.TheVariants as by_expected
use Rattle.form_grammar.specs.declared.effect.Effect.TheVariants as by_effect
use Rattle.form_grammar.specs.Effect.{is_enclosed, is_negative, raise_effect}
use Rattle.form_grammar.proofs.Places.{last_of_base}
use Rattle.form_grammar.proofs.Powers.{not_negative, seen_not_negative}

-- a negative power stands on nothing that has parentheses
abbrev pub Allowed : Base → Power → Type 0
Allowed base p = (is_enclosed (last_of_base base) && is_negative p) ≡ false

pub mapped : {X Y : Type 0} (f : X → Y) (o : Option X) (y : Y) → option_map f o ≡ Some y → (x : X) × (o ≡ Some x) × (f x ≡ y)
mapped f (Some x) y e = (x, refl, same_Some (f x) y e)
mapped f None y e = absurd cc

-- a power may follow any base
pub base_may_raise : (b : Base) → raise_effect (last_of_base b) ≡ by_effect.Waits (by_expected.Exponent (is_enclosed (last_of_base b)) false None)
base_may_raise (number n) = refl
base_may_raise (name (named (names.Declared n))) = refl
base_may_raise (name (named (names.Imaginary spot))) = refl
base_may_raise (name (wildcard n r)) = refl
base_may_raise (dot p (named (names.Declared n))) = refl
base_may_raise (dot p (named (names.Imaginary spot))) = refl
base_may_raise (dot p (wildcard n r)) = refl
base_may_raise (delta spot a c) = refl
base_may_raise (empty_call n) = refl
base_may_raise (call n args) = refl
base_may_raise (parenthesis s) = refl

pub is_power_of : (b : Base) (p : Power) → Allowed b p → IsPowerOf b (Some p)
is_power_of (number n) p a = tt
is_power_of (name n) p a = tt
is_power_of (dot q r) p a = tt
is_power_of (delta spot q r) p a = not_negative p a
is_power_of (empty_call n) p a = not_negative p a
is_power_of (call n args) p a = not_negative p a
is_power_of (parenthesis s) p a = not_negative p a

pub is_allowed : (b : Base) (p : Power) → IsPowerOf b (Some p) → Allowed b p
is_allowed (number n) p h = refl
is_allowed (name (named (names.Declared n))) p h = refl
is_allowed (name (named (names.Imaginary spot))) p h = refl
is_allowed (name (wildcard n r)) p h = refl
is_allowed (dot q (named (names.Declared n))) p h = refl
is_allowed (dot q (named (names.Imaginary spot))) p h = refl
is_allowed (dot q (wildcard n r)) p h = refl
is_allowed (delta spot q r) p h = seen_not_negative p h
is_allowed (empty_call n) p h = seen_not_negative p h
is_allowed (call n args) p h = seen_not_negative p h
is_allowed (parenthesis s) p h = seen_not_negative p h

-- a base without a power
pub no_power : (b : Base) → IsPowerOf b None
no_power (number n) = tt
no_power (name n) = tt
no_power (dot q r) = tt
no_power (delta spot q r) = tt
no_power (empty_call n) = tt
no_power (call n args) = tt
no_power (parenthesis s) = tt
