-- Names at their places: what stands for a symbol is the name of one, and so on, in arguments of any depth too.
use Rattle.std.specs.Prelude.{◌≡◌, ℕ, false, List, Option, Some}
use Rattle.std.specs.List.{AllByRecursion}
use Rattle.form_frac.specs.Fraction.{IsLowest, is_zero}
use Rattle.form_term.specs.declared.power.Power.{Power}
use Rattle.form_term.specs.declared.power.DotPower.{DotPower}
use Rattle.form_term.specs.declared.index.Index.{Index}
use Rattle.form_term.specs.declared.index.Index.TheVariants as indices
use Rattle.form_term.specs.declared.index.Component.{Component}
use Rattle.form_term.specs.declared.index.Delta.{Delta}
use Rattle.form_term.specs.declared.monomial.Monomial.{Monomial}
use Rattle.form_term.specs.declared.piece.Piece.{Piece}
use Rattle.form_term.specs.declared.piece.Piece.TheVariants as pieces
use Rattle.form_term.specs.Term.{Term, Call, Argument, index, vector, expression, IsTerm, IsArgumentOf, AreArguments}

-- The places of names: those of symbols, vectors and indices, of commuting functions, and of the functions in a word.
pub data Place : Type 0 where
  symbol_place : Place
  vector_place : Place
  index_place : Place
  function_place : Place
  word_place : Place

-- names, each with the place where it stands, if it has one
abbrev pub Places : Type 0
Places = ℕ → Option Place

abbrev pub IsAt : Place → Places → ℕ → Type 0
IsAt place names id = names id ≡ Some place

-- ---- what a term has

abbrev pub IsIndexNamed : Places → Index → Type 0
IsIndexNamed names (indices.Fixed n) = Unit {0}
IsIndexNamed names (indices.Declared id) = IsAt index_place names id
IsIndexNamed names (indices.Dummy n) = Unit {0}

abbrev pub IsPowerNamed : Places → Power → Type 0
IsPowerNamed names p = IsAt symbol_place names p.symbol

abbrev pub IsPairNamed : Places → ℕ → ℕ → Type 0
IsPairNamed names p q = IsAt vector_place names p × IsAt vector_place names q

abbrev pub IsDotNamed : Places → DotPower → Type 0
IsDotNamed names d = IsPairNamed names d.left d.right

abbrev pub IsComponentNamed : Places → Component → Type 0
IsComponentNamed names c = IsAt vector_place names c.vector × IsIndexNamed names c.index

abbrev pub IsDeltaNamed : Places → Delta → Type 0
IsDeltaNamed names d = IsIndexNamed names d.first × IsIndexNamed names d.second

-- a piece of a function's arguments
abbrev pub IsPieceNamed : Places → Piece → Type 0
IsPieceNamed names pieces.EndOfArguments = Unit {0}
IsPieceNamed names pieces.EndOfSum = Unit {0}
IsPieceNamed names (pieces.Negative p) = IsPowerNamed names p
IsPieceNamed names (pieces.NegativeDot d) = IsDotNamed names d
IsPieceNamed names (pieces.EndOfTerm c) = Unit {0}
IsPieceNamed names (pieces.NonCommuting f) = IsAt word_place names f
IsPieceNamed names (pieces.Function f) = IsAt function_place names f
IsPieceNamed names (pieces.Delta d) = IsDeltaNamed names d
IsPieceNamed names (pieces.Component c) = IsComponentNamed names c
IsPieceNamed names (pieces.PositiveDot p q e) = IsPairNamed names p.0 q.0
IsPieceNamed names (pieces.Positive s e) = IsAt symbol_place names s.0
IsPieceNamed names pieces.Imaginary = Unit {0}
IsPieceNamed names (pieces.Index i) = IsIndexNamed names i
IsPieceNamed names (pieces.Vector v) = IsAt vector_place names v
IsPieceNamed names pieces.Sum = Unit {0}

abbrev pub ArePiecesNamed : Places → List Piece → Type 0
ArePiecesNamed names ps = AllByRecursion (IsPieceNamed names) ps

-- a function at its place, and whatever its arguments hold
abbrev pub IsCallNamed : Place → Places → Call → Type 0
IsCallNamed place names c = IsAt place names c.function × ArePiecesNamed names c.pieces

-- Each name in a term stands at its place.
pub record IsNamed (names : Places) (t : Term) : Type 0 where
  pub symbols : AllByRecursion (IsPowerNamed names) t.symbols
  pub dots : AllByRecursion (IsDotNamed names) t.others.dots
  pub components : AllByRecursion (IsComponentNamed names) t.others.components
  pub deltas : AllByRecursion (IsDeltaNamed names) t.others.deltas
  pub functions : AllByRecursion (IsCallNamed function_place names) t.others.functions
  pub word : AllByRecursion (IsCallNamed word_place names) t.others.word

-- ---- arguments

abbrev pub IsArgumentNamed : Places → Argument → Type 0
IsArgumentNamed names (index i) = IsIndexNamed names i
IsArgumentNamed names (vector v) = IsAt vector_place names v
IsArgumentNamed names (expression ss) = AllByRecursion (λ s. IsNamed names s.term) ss

-- a lawful argument with its names at their places, and the pieces of such ones
abbrev pub IsSoundArgument : Places → Argument → Type 0
IsSoundArgument names a = IsArgumentOf IsTerm a × IsArgumentNamed names a

abbrev pub AreSoundPieces : Places → List Piece → Type 0
AreSoundPieces names ps = AreArguments ps × ArePiecesNamed names ps

-- A term of an expression with its coefficient: its names stand at their places, it is lawful, and the coefficient is in
-- lowest terms and not 0.
pub record IsSummand (names : Places) (m : Monomial) : Type 0 where
  pub named : IsNamed names m.term
  pub lawful : IsTerm m.term
  pub lowest : IsLowest m.coefficient
  pub present : is_zero m.coefficient ≡ false
