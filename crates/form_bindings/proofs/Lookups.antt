-- Looking a wildcard up among bindings as they are kept.
use Rattle.std.proofs.Common.{◌≡◌, ℕ, ◌+◌, ◌<◌, ◌≤◌, Bool, true, false, List, [], ◌∷◌, Some, None, IfSome, All, cond, drop, get_or, length, map, refl, sym, ap, subst, ◌∙◌, eqb-true}
use Rattle.std.specs.Prelude.{slice_range}
use Rattle.std.proofs.lemmas.List.{drop_more, drop_all}
use Rattle.std.proofs.lemmas.List.Elements.{All-head, All-tail}
use Rattle.form_term.specs.declared.piece.Piece.{Piece}
use Rattle.form_bindings.specs.declared.bindings.Entry.{Entry}
use Rattle.form_bindings.specs.declared.bindings.Wildcard.{Wildcard}
use Rattle.form_bindings.specs.declared.bindings.Wildcard.TheVariants.{Name, Field}
use Rattle.form_bindings.specs.Entries.{IsEntry, binding_in}
use Rattle.form_bindings.specs.Values.{IsValueOf, is_same_wildcard, value_of}

module _ (ps : List Piece) (es : List Entry) (w : Wildcard) (i : ℕ) where
  pub looked_up : (e : Entry) (b : Bool) → i < length es → e ≡ get_or es i e → b ≡ is_same_wildcard e.wildcard w
      → value_of (map (binding_in ps) (drop i es)) w ≡ cond b (Some (slice_range ps e.start e.end)) (value_of (map (binding_in ps) (drop (i + 1) es)) w)
  unfolding value_of
  looked_up e b within is test =
      ap (λ rest. value_of (map (binding_in ps) rest) w) (drop_more es i e within ∙ ap (λ x. x ∷ drop (i + 1) es) (sym is))
      ∙ ap (λ t. cond t (Some (slice_range ps e.start e.end)) (value_of (map (binding_in ps) (drop (i + 1) es)) w)) (sym test)

  pub looked_through : length es ≤ i → value_of (map (binding_in ps) (drop i es)) w ≡ None
  unfolding value_of
  looked_through past = ap (λ rest. value_of (map (binding_in ps) rest) w) (drop_all i es past)

pub same_wildcard : (v w : Wildcard) → is_same_wildcard v w ≡ true → v ≡ w
same_wildcard (Name a) (Name b) is = ap Name (eqb-true a b is)
same_wildcard (Field a) (Field b) is = ap Field (eqb-true a b is)
same_wildcard (Name a) (Field b) is = cc
same_wildcard (Field a) (Name b) is = cc

-- a value is what its wildcard may stand for
pub lawful_value : (ps : List Piece) (es : List Entry) (w : Wildcard) → All (IsEntry ps) es → IfSome (value_of (map (binding_in ps) es) w) (IsValueOf w)
unfolding value_of
lawful_value ps [] w h = tt
lawful_value ps (e ∷ es) w h = by (is_same_wildcard e.wildcard w) refl (lawful_value ps es w (All-tail (IsEntry ps) e es h))
  where
    by : (b : Bool) → is_same_wildcard e.wildcard w ≡ b → IfSome (value_of (map (binding_in ps) es) w) (IsValueOf w)
        → IfSome (cond b (Some (slice_range ps e.start e.end)) (value_of (map (binding_in ps) es) w)) (IsValueOf w)
    by true is later = subst (λ v. IsValueOf v (slice_range ps e.start e.end)) (same_wildcard e.wildcard w is) (All-head (IsEntry ps) e es h).value
    by false is later = later
