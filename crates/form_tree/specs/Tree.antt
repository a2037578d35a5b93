-- Right sides as trees, and the pieces that such a tree is kept as.
use Rattle.std.specs.Prelude.{ℕ, ℤ, Bool, true, false, List, [], ◌∷◌, ◌++◌}
use Rattle.form_term.specs.declared.index.Index.{Index}
use Rattle.form_term.specs.declared.index.Component.{Component}
use Rattle.form_tree.specs.declared.tree.Link.{Link}
use Rattle.form_tree.specs.declared.tree.Link.TheVariants.{Plus, Minus, Times}
use Rattle.form_tree.specs.declared.tree.Piece.{Piece}
use Rattle.form_tree.specs.declared.tree.Piece.TheVariants as pieces
use Rattle.form_tree.specs.declared.tree.Base.TheVariants as bases
use Rattle.form_tree.specs.declared.tree.Exponent.{Exponent}

mutual
  -- products, each added, or subtracted where the mark says that there is a minus
  pub data Sum : Type 0 where
    first : (is_minus : Bool) → Product → Sum
    more : Sum → (is_minus : Bool) → Product → Sum

  -- factors in a row
  pub data Product : Type 0 where
    one : Factor → Product
    times : Product → Factor → Product

  -- A whole number, a symbol, a symbol that is a wildcard, a stored expression, `i_`, a dot product of two vectors, a
  -- component, a delta of two indices, a function with its arguments, or a sum, to a power. What is divided by has a
  -- negative power, but for a wildcard, of which is told whether it stands after `/`. Last, a base to a power that a
  -- wildcard stands for, behind a sign or not.
  pub data Factor : Type 0 where
    number : (value : ℕ) (power : ℤ) → Factor
    symbol : (position : ℕ) (power : ℤ) → Factor
    wild : (position : ℕ) (is_over : Bool) (power : ℤ) → Factor
    stored : (position : ℕ) (power : ℕ) → Factor
    imaginary : (power : ℕ) → Factor
    dot : (left right : ℕ) (power : ℤ) → Factor
    component : Component → (power : ℕ) → Factor
    delta : (i j : Index) (power : ℕ) → Factor
    function : (position : ℕ) (is_commuting : Bool) → Arguments → (power : ℕ) → Factor
    parenthesis : Sum → (power : ℕ) → Factor
    raised : Base → (is_over is_minus : Bool) (symbol : ℕ) → Factor

  -- what such a power is a power of
  pub data Base : Type 0 where
    number_base : (value : ℕ) → Base
    symbol_base : (position : ℕ) → Base
    wild_base : (position : ℕ) → Base
    dot_base : (left right : ℕ) → Base
    imaginary_base : Base
    component_base : Component → Base
    delta_base : (i j : Index) → Base
    function_base : (position : ℕ) (is_commuting : Bool) → Arguments → Base
    parenthesis_base : Sum → Base

  -- the arguments of a function in a row
  pub data Arguments : Type 0 where
    empty : Arguments
    further : Arguments → Argument → Arguments

  -- an index alone, a vector alone, a field of arguments, or an expression
  pub data Argument : Type 0 where
    index : Index → Argument
    vector : (position : ℕ) → Argument
    field : ℕ → Argument
    expression : Sum → Argument

-- how the first factor of a product stands to what is before it
abbrev pub link_of : Bool → Link
link_of true = Minus
link_of false = Plus

abbrev pub exponent : Bool → Bool → ℕ → Exponent
exponent is_over is_minus s = record { is_over = is_over; is_minus = is_minus; symbol = s }

-- the pieces of a tree, in the order of the text
abbrev mutual
  pub pieces_of_sum : Sum → List Piece
  pieces_of_sum (first is_minus p) = pieces_of_product (link_of is_minus) p
  pieces_of_sum (more s is_minus p) = pieces_of_sum s ++ pieces_of_product (link_of is_minus) p

  pub pieces_of_product : Link → Product → List Piece
  pieces_of_product link (one f) = pieces_of_factor link f
  pieces_of_product link (times p f) = pieces_of_product link p ++ pieces_of_factor Times f

  pub pieces_of_factor : Link → Factor → List Piece
  pieces_of_factor link (number value power) = pieces.Number link value power ∷ []
  pieces_of_factor link (symbol position power) = pieces.Symbol link position power ∷ []
  pieces_of_factor link (wild position is_over power) = pieces.Wild link position is_over power ∷ []
  pieces_of_factor link (stored position power) = pieces.Stored link position power ∷ []
  pieces_of_factor link (imaginary power) = pieces.Imaginary link power ∷ []
  pieces_of_factor link (dot left right power) = pieces.Dot link left right power ∷ []
  pieces_of_factor link (component c power) = pieces.Component link c power ∷ []
  pieces_of_factor link (delta i j power) = pieces.Delta link i j power ∷ []
  pieces_of_factor link (function position is_commuting args power) = pieces.Function link position is_commuting ∷ pieces_of_arguments args ++ pieces.EndOfFunction power ∷ []
  pieces_of_factor link (parenthesis s power) = pieces.Open link ∷ pieces_of_sum s ++ pieces.Close power ∷ []
  pieces_of_factor link (raised b is_over is_minus s) = pieces_of_base link b (exponent is_over is_minus s)

  pub pieces_of_base : Link → Base → Exponent → List Piece
  pieces_of_base link (number_base value) by = pieces.Raised link (bases.Number value) by ∷ []
  pieces_of_base link (symbol_base position) by = pieces.Raised link (bases.Symbol position) by ∷ []
  pieces_of_base link (wild_base position) by = pieces.Raised link (bases.Wild position) by ∷ []
  pieces_of_base link (dot_base left right) by = pieces.Raised link (bases.Dot left right) by ∷ []
  pieces_of_base link imaginary_base by = pieces.Raised link bases.Imaginary by ∷ []
  pieces_of_base link (component_base c) by = pieces.Raised link (bases.Component c) by ∷ []
  pieces_of_base link (delta_base i j) by = pieces.Raised link (bases.Delta i j) by ∷ []
  pieces_of_base link (function_base position is_commuting args) by =
      pieces.Function link position is_commuting ∷ pieces_of_arguments args ++ pieces.EndOfRaisedFunction by ∷ []
  pieces_of_base link (parenthesis_base s) by = pieces.Open link ∷ pieces_of_sum s ++ pieces.CloseRaised by ∷ []

  pub pieces_of_arguments : Arguments → List Piece
  pieces_of_arguments empty = []
  pieces_of_arguments (further args a) = pieces_of_arguments args ++ pieces_of_argument a

  pub pieces_of_argument : Argument → List Piece
  pieces_of_argument (index i) = pieces.Index i ∷ []
  pieces_of_argument (vector position) = pieces.Vector position ∷ []
  pieces_of_argument (field w) = pieces.Field w ∷ []
  pieces_of_argument (expression s) = pieces.Argument ∷ pieces_of_sum s ++ pieces.EndOfArgument ∷ []
