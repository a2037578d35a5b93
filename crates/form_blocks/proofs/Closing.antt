-- What is open is kept the innermost last.
use Rattle.std.proofs.Common.{◌≡◌, Bool, List, [], ◌∷◌, ◌++◌, ◌||◌, reverse, refl, ap, ◌∙◌}
use Rattle.std.specs.List.{list_any}
use Rattle.std.proofs.lemmas.List.{reverse-append}
use Rattle.std.proofs.lemmas.List.Folds.{list_any-append}
use Rattle.std.proofs.Math.Bool.{or_comm, or-false}

-- turned round it passes a test alike
pub any_turned : {X : Type 0} (p : X → Bool) (xs : List X) → list_any p (reverse xs) ≡ list_any p xs
any_turned p [] = refl
any_turned p (x ∷ xs) =
    ap (list_any p) (reverse-append (x ∷ []) xs) ∙ list_any-append p (reverse xs) (x ∷ [])
    ∙ ap (λ (b : Bool). list_any p (reverse xs) || b) (or-false (p x)) ∙ ap (λ (b : Bool). b || p x) (any_turned p xs) ∙ or_comm (list_any p xs) (p x)
