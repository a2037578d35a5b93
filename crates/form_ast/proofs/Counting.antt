-- How many pieces lists of pieces have together.
use Rattle.std.proofs.Common.{◌≡◌, ◌∙◌, ap, sym, arith, ◌+◌, ◌≤◌, ℕ, List, [], ◌∷◌, min, length}
use Rattle.std.proofs.lemmas.List.{length-append}
use Rattle.form_ast.specs.declared.expr.Piece.{Piece}
use Rattle.form_ast.specs.Joined.{joined}

clipped : (m a b c : ℕ) → min (min (a + b) m + c) m ≡ min (a + (b + c)) m
clipped m a b c = omega arith

-- what is counted with one list more, and what is left then
pub counted : (m count n : ℕ) (rest : List (List Piece)) (part : List Piece) (others : List (List Piece)) → rest ≡ part ∷ others → min (count + length (joined rest)) m ≡ n → min (min (count + length part) m + length (joined others)) m ≡ n
counted m count n rest part others is h =
    clipped m count (length part) (length (joined others))
    ∙ ap (λ (l : ℕ). min (count + l) m) (sym (length-append part (joined others)))
    ∙ ap (λ (lists : List (List Piece)). min (count + length (joined lists)) m) (sym is)
    ∙ h

-- where no list is left
pub all_counted : (m count n : ℕ) (rest : List (List Piece)) → rest ≡ [] → count ≤ m → min (count + length (joined rest)) m ≡ n → count ≡ n
all_counted m count n rest is fits h =
    let all : count ≡ min (count + 0) m = omega arith in
    all ∙ ap (λ (lists : List (List Piece)). min (count + length (joined lists)) m) (sym is) ∙ h
