-- What a test comes to, and whether it has a `match`.
use Rattle.std.proofs.Common.{◌≡◌, List, refl, ap, ◌∙◌}
use Rattle.std.specs.Prelude.{flat_map}
use Rattle.std.specs.List.{list_any}
use Rattle.form_base.specs.declared.condition.Test.TheVariants.{Parenthesis}
use Rattle.form_base.specs.Condition.{values_of_test}
use Rattle.form_base.proofs.Conditions.{holds_parenthesis, values_parenthesis}
use Rattle.form_frac.specs.Fraction.{Fraction}
use Rattle.form_term.specs.Term.{Term}
use Rattle.form_tree.specs.Condition.{Alternatives}
use Rattle.form_cond.specs.Condition.{Ready, is_true, is_compared, test_holds, holds, is_match, has_match}
use Rattle.form_cond.proofs.Inside.{any-flat_map}

pub parenthesis : (rs : List Ready) (c : Fraction) (t : Term) (a : Alternatives) → test_holds rs c t (Parenthesis a) ≡ holds rs a c t
parenthesis rs c t a = holds_parenthesis (λ v. is_true rs v c t) (λ v by w. is_compared rs v by w c t) a

-- ---- `match`

pub match_parenthesis : (a : Alternatives) → has_match (Parenthesis a) ≡ list_any (list_any has_match) a
match_parenthesis a =
    ap (list_any is_match) (values_parenthesis a)
    ∙ any-flat_map is_match (list_any has_match) (flat_map values_of_test) (λ ts. any-flat_map is_match has_match values_of_test (λ t. refl) ts) a
