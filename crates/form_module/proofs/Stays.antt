-- What stays where some expressions are changed.
use Rattle.std.proofs.Common.{◌≡◌, ℕ, Bool, true, false, not, ◌&&◌, ◌||◌, List, [], ◌∷◌, ◌++◌, filter, fold, cond, refl, sym, ap, ◌∙◌}
use Rattle.std.specs.List.{list_any}
use Rattle.std.proofs.lemmas.List.Sums.{fold-append}
use Rattle.form_expand.specs.declared.stored.Stored.{Stored}
use Rattle.form_check.specs.declared.checked.Checked.{Checked}
use Rattle.form_check.specs.Standing.{is_drop, is_definition, drops, defines}
use Rattle.form_module.specs.declared.expression_set.ExpressionSet.{ExpressionSet}
use Rattle.form_module.specs.Kept.{is_kept}
use Rattle.form_module.specs.Module.{stays, with_expression}
use Rattle.form_module.specs.Sets.{has, is_change, is_held}
use Rattle.form_module.specs.Works.{goes_through, is_skip, skips}

either : (a b c d : Bool) → ((a || b) || (c || d)) ≡ ((a || c) || (b || d))
either true b c d = refl
either false true true d = refl
either false true false d = refl
either false false c d = refl

neither : (a b : Bool) → not (a || b) ≡ (not a && not b)
neither true b = refl
neither false b = refl

any_either : {X : Type 0} (p q : X → Bool) (xs : List X) → list_any (λ x. p x || q x) xs ≡ (list_any p xs || list_any q xs)
any_either p q [] = refl
any_either p q (x ∷ xs) = ap (λ b. (p x || q x) || b) (any_either p q xs) ∙ either (p x) (q x) (list_any p xs) (list_any q xs)

same_filter : {X : Type 0} (p q : X → Bool) → ((x : X) → p x ≡ q x) → (xs : List X) → filter p xs ≡ filter q xs
same_filter p q same [] = refl
same_filter p q same (x ∷ xs) = ap (λ b. cond b (x ∷ filter p xs) (filter p xs)) (same x) ∙ ap (λ ys. cond (q x) (x ∷ ys) ys) (same_filter p q same xs)

-- whether an expression goes through, by those that are dropped, defined or skipped
pub going : (statements : List Checked) (held : ExpressionSet) → ((e : ℕ) → has held e ≡ list_any (is_held e) statements) →
    (e : ℕ) → goes_through statements e ≡ not (has held e)
going statements held are e =
    sym
    (ap not (are e ∙ any_either (is_change e) (is_skip e) statements ∙ ap (λ b. b || skips statements e) (any_either (is_drop e) (is_definition e) statements))
    ∙ neither (drops statements e || defines statements e) (skips statements e)
    ∙ ap (λ b. b && not (skips statements e)) (neither (drops statements e) (defines statements e)))

-- what isn't changed stays
kept : (statements : List Checked) (changed : ExpressionSet) (standing : List Stored) → ((e : ℕ) → has changed e ≡ list_any (is_change e) statements) →
    filter (is_kept changed) standing ≡ filter (stays statements) standing
kept statements changed standing are =
    same_filter (is_kept changed) (stays statements)
    (λ e. ap not (are e.expression ∙ any_either (is_drop e.expression) (is_definition e.expression) statements) ∙ neither (drops statements e.expression) (defines statements e.expression))
    standing

-- what stays, and then what is made
pub stands : (statements : List Checked) (changed : ExpressionSet) (standing made none some all after : List Stored) → ((e : ℕ) → has changed e ≡ list_any (is_change e) statements) →
    none ≡ [] → some ≡ fold with_expression none (filter (is_kept changed) standing) → all ≡ fold with_expression some made → after ≡ all →
    after ≡ fold with_expression [] (filter (stays statements) standing ++ made)
stands statements changed standing made none some all after are empty keeps puts lists =
    lists ∙ puts
    ∙ ap (λ es. fold with_expression es made) (keeps ∙ ap (λ es. fold with_expression es (filter (is_kept changed) standing)) empty ∙ ap (fold with_expression []) (kept statements changed standing are))
    ∙ sym (fold-append with_expression [] (filter (stays statements) standing) made)
