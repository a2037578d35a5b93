-- Trees without wildcards, in which what stands after `/` has no parentheses: those of right sides, and arguments of a
-- pattern that have no wildcards.
use Rattle.std.proofs.Common.{◌≡◌, ℕ, ◌+◌, Bool, true, false, ◌||◌, List, Option, refl}
use Rattle.form_ast.specs.declared.expr.Sign.{Sign}
use Rattle.form_ast.specs.declared.expr.Piece.{Piece}
use Rattle.form_ast.specs.declared.setting.Setting.{Setting}
use Rattle.form_ast.specs.declared.setting.Setting.TheVariants.{Plain, Right, Pattern}
use Rattle.form_ast.specs.Lawful.{IsLawfulSum, IsLawfulProduct, IsLawfulFactor, IsLawfulBase, IsLawfulArguments, IsLawfulArgument, IsLawfulLabel, IsLawfulEntry, IsLawfulExponent, IsDivisor, AreLawful, AreRight}
use Rattle.form_ast.specs.Patterns.{is_wildcard, entry_has_wildcard, has_wildcard, product_has_wildcard, factor_has_wildcard, base_has_wildcard, arguments_have_wildcard, argument_has_wildcard}
use Rattle.form_ast.specs.Syntax.{Label, named, wildcard, Entry, name_entry, number_entry, Sum, first, more, Product, one, times, over, Factor, factor, raised, Base, number, name, dot, delta, empty_call, call, parenthesis, Arguments, argument, further, Argument, expression, field}

abbrev pub IsBareLabel : Label → Type 0
IsBareLabel (named n) = Unit {0}
IsBareLabel (wildcard n r) = ⊥

abbrev pub IsBareEntry : Entry → Type 0
IsBareEntry (name_entry n) = IsBareLabel n
IsBareEntry (number_entry n) = Unit {0}

abbrev mutual
  pub IsBareSum : Sum → Type 0
  IsBareSum (first sign p) = IsBareProduct p
  IsBareSum (more s sign p) = IsBareSum s × IsBareProduct p

  pub IsBareProduct : Product → Type 0
  IsBareProduct (one f) = IsBareFactor f
  IsBareProduct (times p f) = IsBareProduct p × IsBareFactor f
  IsBareProduct (over p f) = IsBareProduct p × IsBareFactor f × IsDivisor f

  pub IsBareFactor : Factor → Type 0
  IsBareFactor (factor b power) = IsBareBase b
  IsBareFactor (raised b sign n) = IsBareBase b × IsBareLabel n

  pub IsBareBase : Base → Type 0
  IsBareBase (number n) = Unit {0}
  IsBareBase (name n) = IsBareLabel n
  IsBareBase (dot p q) = IsBareLabel p × IsBareLabel q
  IsBareBase (delta spot a b) = IsBareEntry a × IsBareEntry b
  IsBareBase (empty_call n) = IsBareLabel n
  IsBareBase (call n args) = IsBareLabel n × AreBareArguments args
  IsBareBase (parenthesis s) = IsBareSum s

  pub AreBareArguments : Arguments → Type 0
  AreBareArguments (argument a) = IsBareArgument a
  AreBareArguments (further args a) = AreBareArguments args × IsBareArgument a

  pub IsBareArgument : Argument → Type 0
  IsBareArgument (expression s) = IsBareSum s
  IsBareArgument (field n) = Unit {0}

-- ---- which trees are bare

left-false : (a b : Bool) → (a || b) ≡ false → a ≡ false
left-false false b e = refl
left-false true b e = absurd cc

right-false : (a b : Bool) → (a || b) ≡ false → b ≡ false
right-false false b e = e
right-false true b e = absurd cc

module _ (at : Setting) where
  -- wildcards stand in patterns alone, and there is none
  abbrev Without : Bool → Type 0
  Without has = at ≡ Pattern → has ≡ false

  left : (a b : Bool) → Without (a || b) → Without a
  left a b none e = left-false a b (none e)

  right : (a b : Bool) → Without (a || b) → Without b
  right a b none e = right-false a b (none e)

  bare-label : (n : Label) → IsLawfulLabel at n → Without (is_wildcard n) → IsBareLabel n
  bare-label (named n) h none = tt
  bare-label (wildcard n r) h none = let no_mark : true ≡ false = none h.0 in absurd cc

  bare-entry : (e : Entry) → IsLawfulEntry at e → Without (entry_has_wildcard e) → IsBareEntry e
  bare-entry (name_entry n) h none = bare-label n h none
  bare-entry (number_entry n) h none = tt

  bare-exponent : (sign : Option Sign) (n : Label) → IsLawfulExponent at sign n → Without (is_wildcard n) → IsBareLabel n
  bare-exponent sign (named n) h none = tt
  bare-exponent sign (wildcard n r) h none = let no_mark : true ≡ false = none h.0 in absurd cc

  mutual
    pub bare-sum : (opened : ℕ) (s : Sum) → IsLawfulSum at opened s → Without (has_wildcard s) → IsBareSum s
    bare-sum opened (first sign p) h none = bare-product opened p h none
    bare-sum opened (more s sign p) h none =
        (bare-sum opened s h.0 (left (has_wildcard s) (product_has_wildcard p) none), bare-product opened p h.1 (right (has_wildcard s) (product_has_wildcard p) none))

    bare-product : (opened : ℕ) (p : Product) → IsLawfulProduct at opened p → Without (product_has_wildcard p) → IsBareProduct p
    bare-product opened (one f) h none = bare-factor opened f h none
    bare-product opened (times p f) h none =
        (bare-product opened p h.0 (left (product_has_wildcard p) (factor_has_wildcard f) none), bare-factor opened f h.1 (right (product_has_wildcard p) (factor_has_wildcard f) none))
    bare-product opened (over p f) h none =
        (bare-product opened p h.0 (left (product_has_wildcard p) (factor_has_wildcard f) none), bare-factor opened f h.1 (right (product_has_wildcard p) (factor_has_wildcard f) none), h.2)

    bare-factor : (opened : ℕ) (f : Factor) → IsLawfulFactor at opened f → Without (factor_has_wildcard f) → IsBareFactor f
    bare-factor opened (factor b power) h none = bare-base opened b h.0 none
    bare-factor opened (raised b sign n) h none =
        (bare-base opened b h.0 (left (base_has_wildcard b) (is_wildcard n) none), bare-exponent sign n h.1 (right (base_has_wildcard b) (is_wildcard n) none))

    bare-base : (opened : ℕ) (b : Base) → IsLawfulBase at opened b → Without (base_has_wildcard b) → IsBareBase b
    bare-base opened (number n) h none = tt
    bare-base opened (name n) h none = bare-label n h none
    bare-base opened (dot p q) h none =
        (bare-label p h.0 (left (is_wildcard p) (is_wildcard q) none), bare-label q h.1 (right (is_wildcard p) (is_wildcard q) none))
    bare-base opened (delta spot a b) h none =
        (bare-entry a h.1 (left (entry_has_wildcard a) (entry_has_wildcard b) none), bare-entry b h.2 (right (entry_has_wildcard a) (entry_has_wildcard b) none))
    bare-base opened (empty_call n) h none = bare-label n h.1 none
    bare-base opened (call n args) h none =
        (bare-label n h.1 (left (is_wildcard n) (arguments_have_wildcard args) none), bare-arguments (opened + 1) args h.2 (right (is_wildcard n) (arguments_have_wildcard args) none))
    bare-base opened (parenthesis s) h none = bare-sum (opened + 1) s h.1 none

    bare-arguments : (opened : ℕ) (args : Arguments) → IsLawfulArguments at opened args → Without (arguments_have_wildcard args) → AreBareArguments args
    bare-arguments opened (argument a) h none = bare-argument opened a h none
    bare-arguments opened (further args a) h none =
        (bare-arguments opened args h.0 (left (arguments_have_wildcard args) (argument_has_wildcard a) none), bare-argument opened a h.1 (right (arguments_have_wildcard args) (argument_has_wildcard a) none))

    bare-argument : (opened : ℕ) (a : Argument) → IsLawfulArgument at opened a → Without (argument_has_wildcard a) → IsBareArgument a
    bare-argument opened (expression s) h none = bare-sum opened s h none
    bare-argument opened (field n) h none = tt

-- the right side of a definition, and that of a statement with a pattern
pub bare-lawful : (list : List Piece) (lawful : AreLawful list) → IsBareSum lawful.tree
bare-lawful list lawful = bare-sum Plain 0 lawful.tree lawful.lawful (λ e. cc)

pub bare-right : (pattern list : List Piece) (lawful : AreRight pattern list) → IsBareSum lawful.tree
bare-right pattern list lawful = bare-sum Right 0 lawful.tree lawful.lawful (λ e. cc)
