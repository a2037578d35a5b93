-- What isn't defined, but skipped or dropped, no statement changes.
use Rattle.std.proofs.Common.{◌≡◌, ℕ, Bool, true, false, ◌||◌, List, Option, Some, None, Result, Ok, Err, refl, sym, subst, ap, ap₂, ◌∙◌}
use Rattle.std.specs.Prelude.{is_some, option_map}
use Rattle.form_base.specs.declared.cause.Cause.{Cause}
use Rattle.form_base.specs.declared.settings.Settings.{Settings}
use Rattle.form_term.specs.declared.monomial.Monomial.{Monomial}
use Rattle.form_tree.specs.declared.tree.Piece.{Piece}
use Rattle.form_expand.specs.declared.stored.Stored.{Stored}
use Rattle.form_check.specs.declared.checked.Checked.{Checked}
use Rattle.form_check.specs.Program.{Module}
use Rattle.form_check.specs.Standing.{defines, drops}
use Rattle.form_module.specs.Becoming.{IsOutcomeOfEach, becomes, becomes_by, definition, found}
use Rattle.form_module.specs.Module.{module_outcome}
use Rattle.form_module.specs.Settled.{Ascend}
use Rattle.form_module.specs.Works.{skips}
use Rattle.form_module.proofs.Becoming.{defines_found, each_becomes}

abbrev Answer : Type 0
Answer = Option (Result (List Monomial) Cause)

none_defined : (s : List Checked) (e : ℕ) → defines s e ≡ false → definition s e ≡ None
none_defined s e none = by (definition s e) (sym (defines_found s e) ∙ none)
  where
    by : (o : Option (List Piece)) → is_some o ≡ false → o ≡ None
    by None h = refl
    by (Some right) h = absurd cc

module _ (settings : Settings) (m : Module) (standing : List Stored) (e : ℕ) (none : defines m.statements e ≡ false) where
  left : (is_dropped is_skipped : Bool) → drops m.statements e ≡ is_dropped → skips m.statements e ≡ is_skipped
      → becomes settings m standing e ≡ becomes_by settings m standing e None (found standing e) is_dropped is_skipped
  left is_dropped is_skipped d s =
      ap (λ (o : Option (List Piece)). becomes_by settings m standing e o (found standing e) (drops m.statements e) (skips m.statements e)) (none_defined m.statements e none)
      ∙ ap₂ (becomes_by settings m standing e None (found standing e)) d s

  pub becomes_none : drops m.statements e ≡ true → becomes settings m standing e ≡ None
  becomes_none d = left true (skips m.statements e) d refl ∙ by (found standing e)
    where
      by : (o : Option (List Monomial)) → becomes_by settings m standing e None o true (skips m.statements e) ≡ None
      by None = refl
      by (Some terms) = refl

  pub becomes_itself : drops m.statements e ≡ false → skips m.statements e ≡ true → becomes settings m standing e ≡ option_map Ok (found standing e)
  becomes_itself d s = left false true d s ∙ by (found standing e)
    where
      by : (o : Option (List Monomial)) → becomes_by settings m standing e None o false true ≡ option_map Ok o
      by None = refl
      by (Some terms) = refl

-- ---- what stands then

terms_in : Answer → Option (List Monomial)
terms_in (Some (Ok terms)) = Some terms
terms_in (Some (Err cause)) = None
terms_in None = None

terms_again : (o : Option (List Monomial)) → terms_in (option_map Ok o) ≡ o
unfolding terms_in
terms_again None = refl
terms_again (Some terms) = refl

module _ (settings : Settings) (m : Module) (standing after : List Stored) (e : ℕ) (ascends : Ascend standing) (is : module_outcome settings m standing ≡ Ok after) where
  each : IsOutcomeOfEach settings m standing (Ok after)
  each = subst (IsOutcomeOfEach settings m standing) is (each_becomes settings m standing ascends)

  stands : (o : Option (List Monomial)) → becomes settings m standing e ≡ option_map Ok o → found after e ≡ o
  stands o h = sym (terms_again (found after e)) ∙ ap terms_in (sym (each e) ∙ h) ∙ terms_again o

  pub skipped_stays : defines m.statements e ≡ false → drops m.statements e ≡ false → skips m.statements e ≡ true → found after e ≡ found standing e
  skipped_stays none d s = stands (found standing e) (becomes_itself settings m standing e none d s)

  pub dropped_goes : defines m.statements e ≡ false → drops m.statements e ≡ true → found after e ≡ None
  dropped_goes none d = stands None (becomes_none settings m standing e none d)

pub same_becomes : (settings others : Settings) (m n : Module) (standing : List Stored) (e : ℕ) → defines m.statements e ≡ false → defines n.statements e ≡ false
    → drops m.statements e ≡ drops n.statements e → skips m.statements e ≡ skips n.statements e → (drops m.statements e || skips m.statements e) ≡ true
    → becomes settings m standing e ≡ becomes others n standing e
same_becomes settings others m n standing e here there d s = by (drops m.statements e) (skips m.statements e) refl refl
  where
    by : (a b : Bool) → drops m.statements e ≡ a → skips m.statements e ≡ b → (a || b) ≡ true → becomes settings m standing e ≡ becomes others n standing e
    by true b f g h = becomes_none settings m standing e here f ∙ sym (becomes_none others n standing e there (sym d ∙ f))
    by false true f g h = becomes_itself settings m standing e here f g ∙ sym (becomes_itself others n standing e there (sym d ∙ f) (sym s ∙ g))
    by false false f g h = absurd cc
