-- Arguments that are numbers.
use Rattle.std.proofs.Common.{◌≡◌, List, [], ◌∷◌, map, Option, Some, refl, ap, subst, ◌∙◌}
use Rattle.std.specs.Prelude.{All, unwrap_or}
use Rattle.std.proofs.lemmas.List.Elements.{All-head}
use Rattle.form_frac.specs.Fraction.{IsLowest}
use Rattle.form_term.specs.declared.piece.Coefficient.{Coefficient}
use Rattle.form_term.specs.declared.piece.Piece.{Piece}
use Rattle.form_term.specs.declared.piece.Piece.TheVariants as pieces
use Rattle.form_term.specs.Arguments.{arguments_of, parts_of, first_summands}
use Rattle.form_term.specs.Monomial.{as_monomial}
use Rattle.form_term.specs.Term.{Summand, expression, one, IsTerm, IsArgumentOf, AreArguments}
use Rattle.form_term.specs.Reading.{coefficient_of}
use Rattle.form_term.proofs.ReadBack.{read_back}

-- a number as an argument
abbrev number_pieces : Coefficient → List Piece
number_pieces c = pieces.Sum ∷ pieces.EndOfTerm c ∷ pieces.EndOfSum ∷ []

pub number_shape : (ps : List Piece) (c : Coefficient) → coefficient_of ps ≡ Some c → ps ≡ number_pieces c
number_shape (pieces.Sum ∷ pieces.EndOfTerm d ∷ pieces.EndOfSum ∷ []) c e = ap (λ (o : Option Coefficient). number_pieces (unwrap_or o c)) e
number_shape ps c e = cc

abbrev number_summand : Coefficient → Summand
number_summand c = record { coefficient = record { numerator = c.numerator; denominator = c.denominator }; term = one }

number_read : (c : Coefficient) → arguments_of (number_pieces c) ≡ expression (number_summand c ∷ []) ∷ []
unfolding arguments_of parts_of
number_read c = refl

module _ (ps : List Piece) (c : Coefficient) (is : ps ≡ number_pieces c) where
  pub number_terms : map as_monomial (first_summands (arguments_of ps)) ≡ record { coefficient = record { numerator = c.numerator; denominator = c.denominator }; term = one } ∷ []
  number_terms = ap (λ qs. map as_monomial (first_summands (arguments_of qs))) is ∙ ap (λ args. map as_monomial (first_summands args)) (number_read c)

  pub number_lowest : AreArguments ps → IsLowest (record { numerator = c.numerator; denominator = c.denominator })
  number_lowest lawful =
      let args : arguments_of ps ≡ expression (number_summand c ∷ []) ∷ [] = ap arguments_of is ∙ number_read c in
      let all = (read_back ps lawful).1 in
      let one : IsArgumentOf IsTerm (expression (number_summand c ∷ [])) = All-head (IsArgumentOf IsTerm) (expression (number_summand c ∷ [])) [] (subst (λ xs. All (IsArgumentOf IsTerm) xs) args all) in
      All-head (λ (s : Summand). IsLowest s.coefficient) (number_summand c) [] one.lowest
