-- The fields of a pattern, piece by piece.
use Rattle.std.proofs.Common.{◌≡◌, ℕ, Bool, true, false, cond, List, [], ◌∷◌, ◌++◌, sym, ap, ◌∙◌}
use Rattle.std.specs.List.{list_any}
use Rattle.std.specs.Str.{bytes_eq}
use Rattle.form_ast.specs.declared.expr.Spelled.{Spelled}
use Rattle.form_ast.specs.declared.expr.Piece.TheVariants as written
use Rattle.form_ast.specs.declared.expr.Piece.{Piece}
use Rattle.form_pattern.specs.Pattern.{with_field}

-- ---- fields

module _ (fields slice : List (List ℕ)) (n : Spelled) (name : List ℕ) (p : Piece) (b : Bool) (is : p ≡ written.Field n) (same : slice ≡ fields) (named : name ≡ n.name) (has : b ≡ list_any (λ f. bytes_eq name f) slice) where
  told : with_field fields p ≡ cond b fields (fields ++ n.name ∷ [])
  told =
      ap (with_field fields) is
      ∙ ap (λ (c : Bool). cond c fields (fields ++ n.name ∷ []))
      (ap (λ (fs : List (List ℕ)). list_any (λ f. bytes_eq n.name f) fs) (sym same) ∙ ap (λ (m : List ℕ). list_any (λ f. bytes_eq m f) slice) (sym named) ∙ sym has)

  -- a field that stands already, and one that is new
  pub field-stands : b ≡ true → fields ≡ with_field fields p
  field-stands stands = sym (told ∙ ap (λ (c : Bool). cond c fields (fields ++ n.name ∷ [])) stands)

  pub field-new : (copy : List ℕ) (next : List (List ℕ)) → b ≡ false → copy ≡ n.name → next ≡ fields ++ copy ∷ [] → next ≡ with_field fields p
  field-new copy next new copied made =
      made ∙ ap (λ (m : List ℕ). fields ++ m ∷ []) copied ∙ sym (told ∙ ap (λ (c : Bool). cond c fields (fields ++ n.name ∷ [])) new)
