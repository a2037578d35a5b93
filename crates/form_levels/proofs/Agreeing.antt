-- Lists of which one is the other with each item changed, up to where one of both overflows.
use Rattle.std.proofs.Common.{◌≡◌, ◌⊎◌, List, [], ◌∷◌, ◌++◌, map, Some, inl, inr, refl, sym, ap, ap₂, subst, ◌∙◌}
use Rattle.std.proofs.lemmas.List.{map-id}
use Rattle.form_base.specs.declared.cause.Cause.TheVariants.{Overflow}
use Rattle.form_frac.specs.Fraction.{Fraction}
use Rattle.form_expand.specs.Listing.{Listing}
use Rattle.form_flow.specs.Outcome.{Outcome, refused}
use Rattle.form_levels.specs.Linear.{AgreeTo, scaled, scaled_output}

-- item by item
abbrev pub IsChanged : {A E : Type 0} → (A → A) → E → List A → E → List A → E → Type 0
IsChanged change overflow [] e [] f = (e ≡ f) ⊎ ((e ≡ overflow) ⊎ (f ≡ overflow))
IsChanged change overflow [] e (y ∷ ys) f = e ≡ overflow
IsChanged change overflow (x ∷ xs) e [] f = f ≡ overflow
IsChanged change overflow (x ∷ xs) e (y ∷ ys) f = (y ≡ change x) × IsChanged change overflow xs e ys f

-- outputs, and a list, with c times their coefficients
abbrev pub IsScaled : Fraction → Outcome → Outcome → Type 0
IsScaled c o p = IsChanged (scaled_output c) (refused Overflow) o.outputs o.end p.outputs p.end

abbrev pub IsScaledList : Fraction → Listing → Listing → Type 0
IsScaledList c l k = IsChanged (scaled c) (Some Overflow) l.terms l.end k.terms k.end

module _ {A E : Type 0} (change : A → A) (overflow : E) where
  -- of a list that overflows before its first item nothing is asked
  pub stops_first : (xs : List A) (e : E) (ys : List A) (f : E) → xs ≡ [] → e ≡ overflow → IsChanged change overflow xs e ys f
  stops_first [] e [] f none over = inr (inl over)
  stops_first [] e (y ∷ ys) f none over = over
  stops_first (x ∷ xs) e ys f none over = absurd cc

  pub stops_second : (xs : List A) (e : E) (ys : List A) (f : E) → ys ≡ [] → f ≡ overflow → IsChanged change overflow xs e ys f
  stops_second [] e [] f none over = inr (inr over)
  stops_second (x ∷ xs) e [] f none over = over
  stops_second xs e (y ∷ ys) f none over = absurd cc

  -- lists go on by their ends, and behind an overflow nothing comes
  pub go_on : (ps qs : E → List A) (g h : E → E) → ps overflow ≡ [] → g overflow ≡ overflow → qs overflow ≡ [] → h overflow ≡ overflow
      → ((e : E) → IsChanged change overflow (ps e) (g e) (qs e) (h e))
      → (xs : List A) (e : E) (ys : List A) (f : E) → IsChanged change overflow xs e ys f → IsChanged change overflow (xs ++ ps e) (g e) (ys ++ qs f) (h f)
  go_on ps qs g h p u q v on [] e [] f (inl same) = subst (λ (z : E). IsChanged change overflow (ps e) (g e) (qs z) (h z)) same (on e)
  go_on ps qs g h p u q v on [] e [] f (inr (inl over)) = stops_first (ps e) (g e) (qs f) (h f) (ap ps over ∙ p) (ap g over ∙ u)
  go_on ps qs g h p u q v on [] e [] f (inr (inr over)) = stops_second (ps e) (g e) (qs f) (h f) (ap qs over ∙ q) (ap h over ∙ v)
  go_on ps qs g h p u q v on [] e (y ∷ ys) f over = stops_first (ps e) (g e) (y ∷ ys ++ qs f) (h f) (ap ps over ∙ p) (ap g over ∙ u)
  go_on ps qs g h p u q v on (x ∷ xs) e [] f over = stops_second (x ∷ xs ++ ps e) (g e) (qs f) (h f) (ap qs over ∙ q) (ap h over ∙ v)
  go_on ps qs g h p u q v on (x ∷ xs) e (y ∷ ys) f a = (a.0, go_on ps qs g h p u q v on xs e ys f a.1)

  both_begin : (x y : A) (xs : List A) (e : E) (ys : List A) (f : E) → x ≡ y → AgreeTo overflow xs e ys f → AgreeTo overflow (x ∷ xs) e (y ∷ ys) f
  both_begin x y xs e ys f is (inl same) = inl (ap₂ (λ z zs. z ∷ zs) is same.0, same.1)
  both_begin x y xs e ys f is (inr (inl stops)) = inr (inl (stops.0, ap₂ (λ z zs. z ∷ zs) (sym is) stops.1))
  both_begin x y xs e ys f is (inr (inr stops)) = inr (inr (stops.0, ap₂ (λ z zs. z ∷ zs) is stops.1))

  pub changed_agree : (xs : List A) (e : E) (ys : List A) (f : E) → IsChanged change overflow xs e ys f → AgreeTo overflow (map change xs) e ys f
  changed_agree [] e [] f (inl same) = inl (refl, same)
  changed_agree [] e [] f (inr (inl over)) = inr (inl (over, refl))
  changed_agree [] e [] f (inr (inr over)) = inr (inr (over, refl))
  changed_agree [] e (y ∷ ys) f over = inr (inl (over, refl))
  changed_agree (x ∷ xs) e [] f over = inr (inr (over, refl))
  changed_agree (x ∷ xs) e (y ∷ ys) f a = both_begin (change x) y (map change xs) e ys f (sym a.0) (changed_agree xs e ys f a.1)

module _ {A B E F : Type 0} (change : A → A) (overflow : E) (to : B → B) (limit : F) (g : A → B) (h : E → F)
    (same : (x : A) → g (change x) ≡ to (g x)) (ends : h overflow ≡ limit) where
  -- each item and the end become others
  pub each_becomes : (xs : List A) (e : E) (ys : List A) (f : E) → IsChanged change overflow xs e ys f → IsChanged to limit (map g xs) (h e) (map g ys) (h f)
  each_becomes [] e [] f (inl is) = inl (ap h is)
  each_becomes [] e [] f (inr (inl over)) = inr (inl (ap h over ∙ ends))
  each_becomes [] e [] f (inr (inr over)) = inr (inr (ap h over ∙ ends))
  each_becomes [] e (y ∷ ys) f over = ap h over ∙ ends
  each_becomes (x ∷ xs) e [] f over = ap h over ∙ ends
  each_becomes (x ∷ xs) e (y ∷ ys) f a = (ap g a.0 ∙ same x, each_becomes xs e ys f a.1)

pub end_becomes : {A E : Type 0} (change : A → A) (overflow : E) (h : E → E) → h overflow ≡ overflow
    → (xs : List A) (e : E) (ys : List A) (f : E) → IsChanged change overflow xs e ys f → IsChanged change overflow xs (h e) ys (h f)
end_becomes {A} change overflow h ends xs e ys f a =
    rw (map-id xs, map-id ys) at (each_becomes change overflow change overflow (λ (x : A). x) h (λ x. refl) ends xs e ys f a)
