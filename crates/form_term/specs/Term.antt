-- Terms: what stands beside a coefficient.
use Rattle.std.specs.Prelude.{◌≡◌, ℕ, zero, suc, ◌+◌, ◌<◌, ◌≤◌, ◌==◌, max, nat_lt, ℤ, pos, nat_abs, Bool, true, false, not, ◌&&◌, List, [], ◌∷◌, ◌++◌, length, map, filter, flat_map, sum, All, if◌then◌else◌}
use Rattle.std.specs.List.{range_with_len, AllByRecursion}
use Rattle.std.specs.List.Sorted.{IsStrictlySortedBy}
use Rattle.std.specs.Ordering.{nat_cmp, int_cmp, is_gt, on, then_cmp}
use Rattle.std.specs.declared.cmp.Ordering.{Ordering}
use Rattle.std.specs.Cmp.Lexicographic.{slice_cmp}
use Rattle.form_frac.specs.Fraction.{Fraction, IsLowest, is_zero}
use Rattle.form_term.specs.declared.power.Power.{Power}
use Rattle.form_term.specs.declared.power.DotPower.{DotPower}
use Rattle.form_term.specs.declared.index.Index.{Index}
use Rattle.form_term.specs.declared.index.Component.{Component}
use Rattle.form_term.specs.declared.index.Delta.{Delta}
use Rattle.form_term.specs.declared.piece.Piece.{Piece}
use Rattle.form_term.specs.declared.piece.Piece.TheVariants as pieces
use Rattle.form_term.specs.contracts.index.IndexOrd.TheImpl as indices
use Rattle.form_term.specs.contracts.index.ComponentOrd.TheImpl as components
use Rattle.form_term.specs.contracts.index.DeltaOrd.TheImpl as deltas
use Rattle.form_term.specs.Pieces.{piece_order, piece_of_power, piece_of_dot, size_of_pieces, deepest}

-- A function with its arguments, which are kept as their pieces.
pub record Call : Type 0 where
  pub function : ℕ
  pub pieces : List Piece

-- The factors of a term besides powers of symbols: whether `i_` is there, dot products whose exponent isn't 0,
-- components, deltas and commuting functions, each list in its order, and the non-commuting functions as written.
pub record Others : Type 0 where
  pub is_imaginary : Bool
  pub dots : List DotPower
  pub components : List Component
  pub deltas : List Delta
  pub functions : List Call
  pub word : List Call

-- A term has an exponent for each symbol. `symbols` has those symbols whose exponent isn't 0, in order of declaration.
pub record Term : Type 0 where
  pub symbols : List Power
  pub others : Others

-- no factors
abbrev pub nothing : Others
nothing = record { is_imaginary = false; dots = []; components = []; deltas = []; functions = []; word = [] }

abbrev pub is_nil : {A : Type 0} → List A → Bool
is_nil [] = true
is_nil (x ∷ xs) = false

-- whether there are none
abbrev pub is_nothing : Others → Bool
is_nothing o = not o.is_imaginary && is_nil o.dots && is_nil o.components && is_nil o.deltas && is_nil o.functions && is_nil o.word

-- the product of such powers
abbrev pub of_symbols : List Power → Term
of_symbols ps = record { symbols = ps; others = nothing }

-- the product of such factors
abbrev pub of_others : Others → Term
of_others o = record { symbols = []; others = o }

-- the exponent of a symbol among such powers, 0 where it is absent
abbrev pub exponent_in : List Power → ℕ → ℤ
exponent_in [] symbol = pos 0
exponent_in (p ∷ ps) symbol = if p.symbol == symbol then p.exponent else exponent_in ps symbol

-- the exponent of a symbol in a term
abbrev pub exponent_of : Term → ℕ → ℤ
exponent_of t = exponent_in t.symbols

-- how many symbols are declared up to the last one of these powers
abbrev pub reach_of : List Power → ℕ
reach_of [] = 0
reach_of (p ∷ ps) = max (suc p.symbol) (reach_of ps)

-- the powers of these symbols, by their exponents; those of exponent 0 vanish
abbrev pub powers_of : List ℕ → (ℕ → ℤ) → List Power
powers_of symbols exponent = filter (λ p. nat_lt 0 (nat_abs p.exponent)) (map (λ symbol. record { symbol = symbol; exponent = exponent symbol }) symbols)

-- the term 1
abbrev pub one : Term
one = of_symbols []

-- a power of one symbol, 1 where the exponent is 0
unfoldable pub symbol_power : ℕ → ℤ → Term
symbol_power symbol exponent = of_symbols (powers_of (symbol ∷ []) (λ _. exponent))

-- the order by the exponents of these symbols: the first at which they differ decides, the lower one first
abbrev pub order_at : List ℕ → (ℕ → ℤ) → (ℕ → ℤ) → Ordering
order_at symbols exponent other = slice_cmp int_cmp (map exponent symbols) (map other symbols)

-- the powers of these symbols, by their exponents
unfoldable pub normal_powers : List Power → List Power
normal_powers ps = powers_of (range_with_len 0 (reach_of ps)) (exponent_in ps)

-- The order of powers: the first symbol in order of declaration whose exponents differ decides, the lower one first.
unfoldable pub symbols_order : List Power → List Power → Ordering
symbols_order ps qs = order_at (range_with_len 0 (max (reach_of ps) (reach_of qs))) (exponent_in ps) (exponent_in qs)

-- the end of a term, as it stands between factors of negative and of positive exponent
abbrev pub end_of_term : Piece
end_of_term = pieces.EndOfTerm (record { numerator = pos 1; denominator = 1 })

-- The order of dot products: as those of their pieces, behind which a term ends. So the first pair whose exponents
-- differ decides, the lower one first.
abbrev pub dots_order : List DotPower → List DotPower → Ordering
dots_order ds es = slice_cmp piece_order (map piece_of_dot ds ++ end_of_term ∷ []) (map piece_of_dot es ++ end_of_term ∷ [])

-- Indices: fixed ones, declared ones, dummies. Components: by vector, then index. Deltas: by their indices.
abbrev pub index_order : Index → Index → Ordering
index_order = indices.ghosts.cmp

abbrev pub component_order : Component → Component → Ordering
component_order = components.ghosts.cmp

abbrev pub delta_order : Delta → Delta → Ordering
delta_order = deltas.ghosts.cmp

-- the function declared first, then the arguments
abbrev pub call_order : Call → Call → Ordering
call_order = then_cmp (on (λ c. c.function) nat_cmp) (on (λ c. c.pieces) (slice_cmp piece_order))

-- whether `i_` is there, then dot products, then the lists, element by element, a prefix first
abbrev pub others_order : Others → Others → Ordering
others_order =
    then_cmp (on (λ o. o.dots) dots_order)
    (then_cmp (on (λ o. o.components) (slice_cmp component_order))
    (then_cmp (on (λ o. o.deltas) (slice_cmp delta_order))
    (then_cmp (on (λ o. o.functions) (slice_cmp call_order))
    (on (λ o. o.word) (slice_cmp call_order)))))

-- the exponent of `i_`
abbrev pub imaginary_exponent : Term → ℕ
imaginary_exponent t = if t.others.is_imaginary then 1 else 0

-- The order of terms: by the exponent of `i_`, then of symbols, then of dot products, the lower one first, then by the
-- lists of components, deltas, commuting functions and non-commuting ones.
unfoldable pub order : Term → Term → Ordering
order =
    then_cmp (on imaginary_exponent nat_cmp)
    (then_cmp (on (λ t. t.symbols) symbols_order)
    (on (λ t. t.others) others_order))

-- A term of an expression with its coefficient.
pub record Summand : Type 0 where
  pub coefficient : Fraction
  pub term : Term

-- An argument of a function: an index alone, a vector alone, or an expression.
pub data Argument : Type 0 where
  index : Index → Argument
  vector : ℕ → Argument
  expression : List Summand → Argument

-- The pieces of an inner function, of a term, of a summand, and of an argument.
abbrev pub pieces_of_call : (ℕ → Piece) → Call → List Piece
pieces_of_call begin c = begin c.function ∷ c.pieces ++ pieces.EndOfArguments ∷ []

abbrev pub pieces_of_term : Term → List Piece
pieces_of_term t =
    (if t.others.is_imaginary then pieces.Imaginary ∷ [] else [])
    ++ map piece_of_power t.symbols
    ++ map piece_of_dot t.others.dots
    ++ map pieces.Component t.others.components
    ++ map pieces.Delta t.others.deltas
    ++ flat_map (pieces_of_call pieces.Function) t.others.functions
    ++ flat_map (pieces_of_call pieces.NonCommuting) t.others.word

abbrev pub pieces_of_summand : Summand → List Piece
pieces_of_summand s = pieces_of_term s.term ++ pieces.EndOfTerm (record { numerator = s.coefficient.numerator; denominator = s.coefficient.denominator }) ∷ []

abbrev pub pieces_of_argument : Argument → List Piece
pieces_of_argument (index i) = pieces.Index i ∷ []
pieces_of_argument (vector v) = pieces.Vector v ∷ []
pieces_of_argument (expression ss) = pieces.Sum ∷ flat_map pieces_of_summand ss ++ pieces.EndOfSum ∷ []

abbrev pub pieces_of_arguments : List Argument → List Piece
pieces_of_arguments args = flat_map pieces_of_argument args

-- a function with arguments
abbrev pub call_of : ℕ → List Argument → Call
call_of f args = record { function = f; pieces = pieces_of_arguments args }

-- the largest size of an exponent
abbrev pub largest_exponent : ℕ
largest_exponent = 1000000000

-- the most factors that a term may have, those inside arguments counted, and how deep it may be
abbrev pub largest_size : ℕ
largest_size = 4096

abbrev pub largest_depth : ℕ
largest_depth = 64

-- how large a function is: one for itself, one for each argument, and for each term in an argument one and its size
abbrev pub size_of_call : Call → ℕ
size_of_call c = suc (size_of_pieces c.pieces)

abbrev pub size_of_others : Others → ℕ
size_of_others o = length o.dots + length o.components + length o.deltas + sum (map size_of_call o.functions) + sum (map size_of_call o.word)

-- how many factors a term has: a power, a component and a delta are one each
abbrev pub size : Term → ℕ
size t = length t.symbols + size_of_others t.others

-- how deep these are: as deep as the deepest term in an argument, 0 without one
abbrev pub depth_of_calls : List Call → ℕ
depth_of_calls [] = 0
depth_of_calls (c ∷ cs) = max (deepest 0 c.pieces) (depth_of_calls cs)

abbrev pub depth_of_others : Others → ℕ
depth_of_others o = max (depth_of_calls o.functions) (depth_of_calls o.word)

-- how deep a term is: 1, or one more than the deepest term in an argument
abbrev pub depth : Term → ℕ
depth t = suc (depth_of_others t.others)

-- the symbols of these powers rise, from a position on
abbrev pub RiseFrom : ℕ → List Power → Type 0
RiseFrom position [] = Unit {0}
RiseFrom position (p ∷ ps) = (position ≤ p.symbol) × RiseFrom (suc p.symbol) ps

-- pairs of vectors: by the left one, then the right one
abbrev pub pair_order : DotPower → DotPower → Ordering
pair_order = then_cmp (on (λ d. d.left) nat_cmp) (on (λ d. d.right) nat_cmp)

-- none of these is above one after it
abbrev pub RisesBy : {A : Type 0} → (A → A → Ordering) → List A → Type 0
RisesBy cmp [] = Unit {0}
RisesBy cmp (x ∷ xs) = AllByRecursion (λ y. is_gt (cmp x y) ≡ false) xs × RisesBy cmp xs

-- What holds of the factors of a term besides powers of symbols, where its functions are such ones.
pub record AreFactors (IsCall : Call → Type 0) (o : Others) : Type 0 where
  pub dots_rise : IsStrictlySortedBy pair_order o.dots
  pub dots_present : All (λ d. 0 < nat_abs d.exponent) o.dots
  pub dots_in_range : All (λ d. nat_abs d.exponent ≤ largest_exponent) o.dots
  pub dots_turned : All (λ d. d.left ≤ d.right) o.dots
  pub components_rise : RisesBy component_order o.components
  pub deltas_rise : RisesBy delta_order o.deltas
  pub deltas_turned : All (λ d. is_gt (index_order d.first d.second) ≡ false) o.deltas
  pub functions_rise : RisesBy call_order o.functions
  pub functions : All IsCall o.functions
  pub word : All IsCall o.word

-- What holds of a term whose functions are such ones.
pub record IsTermOf (IsCall : Call → Type 0) (t : Term) : Type 0 where
  pub rising : RiseFrom 0 t.symbols
  pub present : All (λ p. 0 < nat_abs p.exponent) t.symbols
  pub in_range : All (λ p. nat_abs p.exponent ≤ largest_exponent) t.symbols
  pub others : AreFactors IsCall t.others
  pub small : size t ≤ largest_size
  pub shallow : depth t ≤ largest_depth

-- What holds of an expression whose terms are such ones: they rise, and no coefficient is 0.
pub record IsExpressionOf (IsInner : Term → Type 0) (ss : List Summand) : Type 0 where
  pub rising : IsStrictlySortedBy (on (λ s. s.term) order) ss
  pub present : All (λ s. is_zero s.coefficient ≡ false) ss
  pub lowest : All (λ s. IsLowest s.coefficient) ss
  pub terms : All (λ s. IsInner s.term) ss

abbrev pub IsArgumentOf : (Term → Type 0) → Argument → Type 0
IsArgumentOf IsInner (index i) = Unit {0}
IsArgumentOf IsInner (vector v) = Unit {0}
IsArgumentOf IsInner (expression ss) = IsExpressionOf IsInner ss

-- What holds of pieces that are those of arguments with such terms.
pub record ArePiecesOf (IsInner : Term → Type 0) (ps : List Piece) : Type 0 where
  pub arguments : List Argument
  pub written : ps ≡ pieces_of_arguments arguments
  pub lawful : All (IsArgumentOf IsInner) arguments

-- a function whose arguments nest at most so deep
abbrev pub IsCallTo : ℕ → Call → Type 0
IsCallTo zero c = ArePiecesOf (λ t. ⊥) c.pieces
IsCallTo (suc n) c = ArePiecesOf (IsTermOf (IsCallTo n)) c.pieces

-- What holds of every function.
pub record IsCall (c : Call) : Type 0 where
  pub nesting : ℕ
  pub nests : IsCallTo nesting c

-- What holds of every term.
abbrev pub IsTerm : Term → Type 0
IsTerm t = IsTermOf IsCall t

-- What holds of an expression as an argument, and of the pieces of arguments.
abbrev pub IsExpression : List Summand → Type 0
IsExpression ss = IsExpressionOf IsTerm ss

abbrev pub AreArguments : List Piece → Type 0
AreArguments ps = ArePiecesOf IsTerm ps
