-- Characters that are marks whatever follows them.
use Rattle.std.proofs.Common.{◌≡◌, ℕ, List, [], ◌∷◌, refl}
use Rattle.form_lexer.specs.declared.mark.Mark.TheVariants.{Minus, Plus, Times, Power, Open, Close, Comma}
use Rattle.form_lexer.specs.declared.shape.Shape.TheVariants as shapes
use Rattle.form_lexer.specs.Reading.{double_mark, single_mark, mark_at, token_at}

pub times : (rest : List ℕ) → token_at (42 ∷ rest) ≡ (shapes.Mark Times, 1)
unfolding token_at mark_at double_mark single_mark
times [] = refl
times (c ∷ cs) = refl

pub power : (rest : List ℕ) → token_at (94 ∷ rest) ≡ (shapes.Mark Power, 1)
unfolding token_at mark_at double_mark single_mark
power [] = refl
power (c ∷ cs) = refl

pub opening : (rest : List ℕ) → token_at (40 ∷ rest) ≡ (shapes.Mark Open, 1)
unfolding token_at mark_at double_mark single_mark
opening [] = refl
opening (c ∷ cs) = refl

pub close : (rest : List ℕ) → token_at (41 ∷ rest) ≡ (shapes.Mark Close, 1)
unfolding token_at mark_at double_mark single_mark
close [] = refl
close (c ∷ cs) = refl

pub comma : (rest : List ℕ) → token_at (44 ∷ rest) ≡ (shapes.Mark Comma, 1)
unfolding token_at mark_at double_mark single_mark
comma [] = refl
comma (c ∷ cs) = refl

pub plus : (rest : List ℕ) → token_at (43 ∷ rest) ≡ (shapes.Mark Plus, 1)
unfolding token_at mark_at double_mark single_mark
plus [] = refl
plus (c ∷ cs) = refl

pub minus : (rest : List ℕ) → token_at (45 ∷ rest) ≡ (shapes.Mark Minus, 1)
unfolding token_at mark_at double_mark single_mark
minus [] = refl
minus (c ∷ cs) = refl
