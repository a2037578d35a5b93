-- What names stand for has its names at their places.
use Rattle.std.proofs.Common.{◌≡◌, ℕ, inl, inr, ◌==◌, Bool, true, false, List, [], ◌∷◌, map, if◌then◌else◌, Option, Some, None, option_and_then, option_map, refl, sym, ap, subst, ◌∙◌, eqb-true}
use Rattle.std.specs.Prelude.{IfSome}
use Rattle.std.specs.List.{AllByRecursion}
use Rattle.std.specs.Option.{unwrap_or}
use Rattle.std.proofs.lemmas.Option.{same_Some, none-some}
use Rattle.std.proofs.lemmas.List.Elements.{recursion_from_All}
use Rattle.form_frac.specs.Fraction.{IsLowest, is_zero}
use Rattle.form_term.specs.declared.index.Component.{Component}
use Rattle.form_term.specs.declared.index.Index.{Index}
use Rattle.form_term.specs.declared.index.Index.TheVariants as indices
use Rattle.form_term.specs.declared.monomial.Monomial.{Monomial}
use Rattle.form_term.specs.declared.piece.Piece.{Piece}
use Rattle.form_term.specs.declared.piece.Piece.TheVariants as pieces
use Rattle.form_term.specs.Arguments.{arguments_of, first_summands}
use Rattle.form_term.specs.Monomial.{as_monomial}
use Rattle.form_term.specs.Named.{Places, vector_place, IsAt, IsIndexNamed, IsComponentNamed, ArePiecesNamed, IsNamed, IsSoundArgument, AreSoundPieces, IsSummand}
use Rattle.form_term.specs.Term.{Argument, Summand, index, vector, expression, AreArguments, IsTerm, pieces_of_arguments}
use Rattle.form_term.proofs.Named.{sound_read}
use Rattle.form_bindings.specs.declared.bindings.Wildcard.{Wildcard}
use Rattle.form_bindings.specs.declared.bindings.Wildcard.TheVariants.{Name, Field}
use Rattle.form_bindings.specs.Named.{IsSoundValue, AreSoundBindings}
use Rattle.form_bindings.specs.Values.{Binding, is_same_wildcard, value_of}
use Rattle.form_expand.specs.declared.stored.Stored.{Stored}
use Rattle.form_expand.specs.Meanings.{Meanings, index_in, vector_in, function_in, index_of, vector_of, component_of, function_of, arguments_or_none, field_of, expression_in, terms_at, terms_bound}
use Rattle.form_expand.specs.Stored.{terms_in}

-- ---- wildcards

same_wildcard : (v w : Wildcard) → is_same_wildcard v w ≡ true → v ≡ w
same_wildcard (Name a) (Name b) e = ap Name (eqb-true a b e)
same_wildcard (Name a) (Field b) e = absurd (cc)
same_wildcard (Field a) (Name b) e = absurd (cc)
same_wildcard (Field a) (Field b) e = ap Field (eqb-true a b e)

-- ---- lawful pieces as arguments

-- no argument begins with a function
no_function : (ps : List Piece) → AreArguments ps → function_in ps ≡ None
no_function ps h = subst (λ (qs : List Piece). function_in qs ≡ None) (sym h.written) (by h.arguments)
  where
    by : (args : List Argument) → function_in (pieces_of_arguments args) ≡ None
    by [] = refl
    by (index i ∷ args) = refl
    by (vector v ∷ args) = refl
    by (expression ss ∷ args) = refl

-- the terms of an expression
summand_at : (names : Places) (s : Summand) → is_zero s.coefficient ≡ false → IsLowest s.coefficient → IsTerm s.term → IsNamed names s.term → IsSummand names (as_monomial s)
summand_at names s present lowest lawful named = record { named = named; lawful = lawful; lowest = lowest; present = present }

summands_at : (names : Places) (ss : List Summand) → AllByRecursion (λ (s : Summand). is_zero s.coefficient ≡ false) ss → AllByRecursion (λ (s : Summand). IsLowest s.coefficient) ss
    → AllByRecursion (λ (s : Summand). IsTerm s.term) ss → AllByRecursion (λ (s : Summand). IsNamed names s.term) ss → AllByRecursion (IsSummand names) (map as_monomial ss)
summands_at names [] p l t n = tt
summands_at names (s ∷ ss) p l t n = (summand_at names s p.0 l.0 t.0 n.0, summands_at names ss p.1 l.1 t.1 n.1)

pub expression_summands : (names : Places) (ss : List Summand) → IsSoundArgument names (expression ss) → AllByRecursion (IsSummand names) (map as_monomial ss)
expression_summands names ss h =
    let lawful = h.0 in
    summands_at names ss
    (recursion_from_All (λ (s : Summand). is_zero s.coefficient ≡ false) ss lawful.present)
    (recursion_from_All (λ (s : Summand). IsLowest s.coefficient) ss lawful.lowest)
    (recursion_from_All (λ (s : Summand). IsTerm s.term) ss lawful.terms) h.1

first_sound : (names : Places) (args : List Argument) → AllByRecursion (IsSoundArgument names) args → AllByRecursion (IsSummand names) (map as_monomial (first_summands args))
first_sound names [] h = tt
first_sound names (index i ∷ args) h = tt
first_sound names (vector v ∷ args) h = tt
first_sound names (expression ss ∷ args) h = expression_summands names ss h.0

-- ---- what is bound

module _ (names : Places) (bs : List Binding) (sound : AreSoundBindings names bs) where
  found_in : (all : List Binding) → AreSoundBindings names all → (w : Wildcard) → IfSome (value_of all w) (IsSoundValue names w)
  unfolding value_of
  found_in [] h w = tt
  found_in (b ∷ all) h w = by (is_same_wildcard b.wildcard w) refl (found_in all h.1 w)
    where
      by : (t : Bool) → is_same_wildcard b.wildcard w ≡ t → IfSome (value_of all w) (IsSoundValue names w) → IfSome (if t then Some b.value else value_of all w) (IsSoundValue names w)
      by true e rest = subst (λ (v : Wildcard). IsSoundValue names v b.value) (same_wildcard b.wildcard w e) h.0
      by false e rest = rest

  bound : (w : Wildcard) → IfSome (value_of bs w) (IsSoundValue names w)
  bound w = found_in bs sound w

-- a value that is one thing has it at its place, and else the name itself stands there
index_by : (names : Places) (v : List Piece) (i : Index) → ArePiecesNamed names v → IsIndexNamed names i → IsIndexNamed names (unwrap_or (index_in v) i)
index_by names (pieces.Index j ∷ ps) i h k = h.0
index_by names ps i h k = k

vector_by : (names : Places) (v : List Piece) (p : ℕ) → ArePiecesNamed names v → IsAt vector_place names p → IsAt vector_place names (unwrap_or (vector_in v) p)
vector_by names (pieces.Vector q ∷ ps) p h k = h.0
vector_by names ps p h k = k

module _ (names : Places) (all : Meanings) (sound : AreSoundBindings names all.bindings) where
  pub index_named : (i : Index) → IsIndexNamed names i → IsIndexNamed names (index_of all i)
  index_named (indices.Fixed n) h = tt
  index_named (indices.Dummy n) h = tt
  index_named (indices.Declared n) h = by (value_of all.bindings (Name n)) (bound names all.bindings sound (Name n))
    where
      by : (o : Option (List Piece)) → IfSome o (IsSoundValue names (Name n)) → IsIndexNamed names (unwrap_or (option_and_then index_in o) (indices.Declared n))
      by None k = h
      by (Some v) (inl k) = index_by names v (indices.Declared n) k.1 h
      by (Some v) (inr k) = subst (λ (ps : List Piece). IsIndexNamed names (unwrap_or (index_in ps) (indices.Declared n))) (sym k.1) h

  pub vector_named : (v : ℕ) → IsAt vector_place names v → IsAt vector_place names (vector_of all v)
  vector_named n h = by (value_of all.bindings (Name n)) (bound names all.bindings sound (Name n))
    where
      by : (o : Option (List Piece)) → IfSome o (IsSoundValue names (Name n)) → IsAt vector_place names (unwrap_or (option_and_then vector_in o) n)
      by None k = h
      by (Some v) (inl k) = vector_by names v n k.1 h
      by (Some v) (inr k) = subst (λ (ps : List Piece). IsAt vector_place names (unwrap_or (vector_in ps) n)) (sym k.1) h

  pub component_named : (c : Component) → IsComponentNamed names c → IsComponentNamed names (component_of all c)
  component_named c h = (vector_named c.vector h.0, index_named c.index h.1)

  -- what a function stands for has its place
  pub function_place_kept : (f : ℕ) → names (function_of all f) ≡ names f
  function_place_kept f = by (value_of all.bindings (Name f)) (bound names all.bindings sound (Name f))
    where
      by : (o : Option (List Piece)) → IfSome o (IsSoundValue names (Name f)) → names (unwrap_or (option_and_then function_in o) f) ≡ names f
      by None k = refl
      by (Some v) (inl k) = ap (λ (o : Option ℕ). names (unwrap_or o f)) (no_function v k.0)
      by (Some v) (inr k) = subst (λ (ps : List Piece). names (unwrap_or (function_in ps) f) ≡ names f) (sym k.1) k.2

  pub field_sound : (w : ℕ) → AllByRecursion (IsSoundArgument names) (field_of all w)
  field_sound w = by (value_of all.bindings (Field w)) (bound names all.bindings sound (Field w))
    where
      by : (o : Option (List Piece)) → IfSome o (IsSoundValue names (Field w)) → AllByRecursion (IsSoundArgument names) (arguments_or_none o)
      by None k = tt
      by (Some ps) k = sound_read names ps k

  -- a value that is an expression is lawful
  expression_by : (w : ℕ) (v qs : List Piece) → IsSoundValue names (Name w) v → expression_in v ≡ Some qs → AreSoundPieces names qs
  expression_by w v qs (inl k) e = subst (AreSoundPieces names) (whole v qs e) k
    where
      whole : (ps rs : List Piece) → expression_in ps ≡ Some rs → ps ≡ rs
      whole [] rs f = absurd (none-some rs f)
      whole (pieces.Sum ∷ ps) rs f = same_Some (pieces.Sum ∷ ps) rs f
      whole (p ∷ ps) rs f = absurd (none-some rs f)
  expression_by w v qs (inr k) e = absurd (none-some qs (sym (ap expression_in k.1) ∙ e))

  pub bound_summands : (s : ℕ) (ms : List Monomial) → terms_bound all s ≡ Some ms → AllByRecursion (IsSummand names) ms
  bound_summands s ms e = by (value_of all.bindings (Name s)) (bound names all.bindings sound (Name s)) e
    where
      at : (v : List Piece) → IsSoundValue names (Name s) v → (o : Option (List Piece)) → expression_in v ≡ o → option_map terms_at o ≡ Some ms → AllByRecursion (IsSummand names) ms
      at v k None f g = absurd (none-some ms g)
      at v k (Some qs) f g =
          subst (AllByRecursion (IsSummand names)) (same_Some (terms_at qs) ms g)
          (first_sound names (arguments_of qs) (sound_read names qs (expression_by s v qs k f)))

      by : (o : Option (List Piece)) → IfSome o (IsSoundValue names (Name s)) → option_map terms_at (option_and_then expression_in o) ≡ Some ms → AllByRecursion (IsSummand names) ms
      by None k f = absurd (none-some ms f)
      by (Some v) k f = at v k (expression_in v) refl f

-- ---- expressions that stand

pub stored_each : (P : Monomial → Type 0) (all : List Stored) (e : ℕ) → AllByRecursion (λ (s : Stored). AllByRecursion P s.terms) all → AllByRecursion P (terms_in all e)
unfolding terms_in
stored_each P [] e h = tt
stored_each P (s ∷ all) e h = by (s.expression == e) (stored_each P all e h.1)
  where
    by : (b : Bool) → AllByRecursion P (terms_in all e) → AllByRecursion P (if b then s.terms else terms_in all e)
    by true rest = h.0
    by false rest = rest
