-- The first match of a pattern: of all vectors of choices, one choice for each factor and argument, the first in
-- lexicographic order that takes nothing twice and gives each wildcard one value.
use Rattle.std.specs.Prelude.{ℕ, suc, ◌+◌, ◌-◌, ◌==◌, nat_le, ℤ, pos, int_lt, int_le, nat_abs, Bool, true, false, not, ◌&&◌, ◌||◌, if◌then◌else◌, List, [], ◌∷◌, ◌++◌, map, filter, flat_map, fold, take, drop, length, Option, Some, None, option_map, option_and_then, option_to_list, slice_index_or}
use Rattle.std.specs.List.{list_any, list_all, filter_map, enumerate_from, range_with_len}
use Rattle.std.specs.Option.{option_or}
use Rattle.form_frac.specs.Fraction.{Fraction}
use Rattle.form_names.specs.declared.elements.Elements.{Elements}
use Rattle.form_names.specs.declared.elements.Elements.TheVariants as elements
use Rattle.form_term.specs.declared.power.Power.{Power}
use Rattle.form_term.specs.declared.power.DotPower.{DotPower}
use Rattle.form_term.specs.declared.index.Index.{Index}
use Rattle.form_term.specs.declared.index.Index.TheVariants as indices
use Rattle.form_term.specs.declared.index.Component.{Component}
use Rattle.form_term.specs.declared.index.Delta.{Delta}
use Rattle.form_term.specs.declared.piece.Piece.{Piece}
use Rattle.form_term.specs.Term as terms
use Rattle.form_term.specs.Term.{Term, Call, exponent_of, pieces_of_argument, pieces_of_arguments}
use Rattle.form_term.specs.Arguments.{arguments_of}
use Rattle.form_tree.specs.declared.pattern.Name.{Name}
use Rattle.form_tree.specs.declared.pattern.Name.TheVariants.{Itself, Wild}
use Rattle.form_tree.specs.declared.pattern.IndexName.{IndexName}
use Rattle.form_tree.specs.declared.pattern.IndexName.TheVariants as an_index
use Rattle.form_tree.specs.declared.pattern.Sort.{Sort}
use Rattle.form_tree.specs.declared.pattern.Sort.TheVariants as sorts
use Rattle.form_tree.specs.Pattern.{Factors, none, more, Factor, symbol, whole, dot, component, delta, function, word, Calls, end, call, count, Arguments, empty, further, fixed, any, field, product}
use Rattle.form_bindings.specs.declared.bindings.Wildcard.TheVariants as wildcards
use Rattle.form_match.specs.declared.matching.Match.{Match}
use Rattle.form_match.specs.declared.uses.Use.{Use}
use Rattle.form_match.specs.declared.uses.Use.TheVariants as uses
use Rattle.form_bindings.specs.Learning.{and_bound}
use Rattle.form_bindings.specs.Values.{Binding, is_same, symbol_value, number_value, index_value, vector_value, function_value}
use Rattle.form_match.specs.Left.{left_of, is_one}

-- The term that a pattern is tried on, or an inner one: the places in its word that no stretch may cross, whether the power
-- taken of a symbol or a dot product has to be its exponent, and whether it stands in an argument and is taken whole.
pub record Host : Type 0 where
  pub term : Term
  pub cuts : List ℕ
  pub is_exact : Bool
  pub is_inner : Bool

-- A choice for a factor: what it takes of the term, and the values that it asks of wildcards.
pub record Choice : Type 0 where
  pub takes : Use
  pub asks : List Binding

-- ---- names, powers and sets

-- the values that a set has for wildcards of a sort
abbrev pub values_in : (ℕ → List Piece) → (ℤ → List (List Piece)) → Elements → List (List Piece)
values_in of_name of_number (elements.Names ids) = map of_name ids
values_in of_name of_number (elements.Numbers ns) = flat_map of_number ns

abbrev pub no_value : ℤ → List (List Piece)
no_value n = []

-- what a name asks where this thing, of this value, is to stand for it, and none where it can't: a name that is no
-- wildcard stands for itself, and each set of a wildcard has to have the value
abbrev pub asked : (ℕ → List Piece) → (ℤ → List (List Piece)) → Name → (is_it : ℕ → Bool) → List Piece → Option (List Binding)
asked of_name of_number (Itself n) is_it value = if is_it n then Some [] else None
asked of_name of_number (Wild w sets) is_it value =
    if list_all (λ set. list_any (is_same value) (values_in of_name of_number set)) sets
    then Some (record { wildcard = wildcards.Name w; value = value } ∷ []) else None

-- an expression, of which a number in a set is one too
abbrev pub asked_expression : Name → List Piece → Option (List Binding)
asked_expression n value = asked symbol_value (λ z. number_value z ∷ []) n (λ s. is_same value (symbol_value s)) value

abbrev pub asked_symbol : Name → ℕ → Option (List Binding)
asked_symbol n s = asked symbol_value (λ z. number_value z ∷ []) n (λ m. m == s) (symbol_value s)

abbrev pub asked_number : Name → ℤ → Option (List Binding)
asked_number n z = asked_expression n (number_value z)

abbrev pub asked_vector : Name → ℕ → Option (List Binding)
asked_vector n v = asked vector_value no_value n (λ m. m == v) (vector_value v)

abbrev pub asked_function : Name → ℕ → Option (List Binding)
asked_function n f = asked function_value no_value n (λ m. m == f) (function_value f)

abbrev pub is_declared : Index → ℕ → Bool
is_declared (indices.Declared m) n = m == n
is_declared _ n = false

abbrev pub is_fixed : Index → ℕ → Bool
is_fixed (indices.Fixed m) n = m == n
is_fixed _ n = false

abbrev pub asked_index : IndexName → Index → Option (List Binding)
asked_index (an_index.Fixed n) i = if is_fixed i n then Some [] else None
asked_index (an_index.Name n) i = asked (λ m. index_value (indices.Declared m)) no_value n (is_declared i) (index_value i)

-- both
abbrev pub and_asked : Option (List Binding) → Option (List Binding) → Option (List Binding)
and_asked (Some a) (Some b) = Some (a ++ b)
and_asked _ _ = None

abbrev pub taking : Use → Option (List Binding) → Option Choice
taking u asks = option_map (λ bs. record { takes = u; asks = bs }) asks

-- a power that isn't 0 can be taken of an exponent: it leaves a rest of the same sign or none, and none where it is exact
abbrev pub fits : Bool → ℤ → ℤ → Bool
fits is_exact e k =
    if nat_abs k == 0 then false
    else if is_exact then int_le e k && int_le k e
    else if int_lt (pos 0) k then int_le k e else int_le e k

-- ---- the choices of a factor, in trial order

-- a power of a symbol: the symbols of the term in order of declaration
abbrev pub symbol_choice : Bool → Name → ℤ → Power → Option Choice
symbol_choice is_exact n k p = if fits is_exact p.exponent k then taking (uses.Symbol p.symbol k) (asked_symbol n p.symbol) else None

-- a symbol with its whole exponent
abbrev pub whole_choice : Name → Name → Power → Option Choice
whole_choice n m p = taking (uses.Symbol p.symbol p.exponent) (and_asked (asked_symbol n p.symbol) (asked_number m p.exponent))

-- a symbol that is no wildcard may be absent from a term, but not in an argument
abbrev pub absent_choice : Host → Name → Name → Option Choice
absent_choice h (Itself s) m =
    if h.is_inner || not (nat_abs (exponent_of h.term s) == 0) then None else taking (uses.Symbol s (pos 0)) (asked_number m (pos 0))
absent_choice h (Wild w sets) m = None

-- a dot product, as it stands and swapped
abbrev pub dot_choices : Bool → Name → Name → ℤ → ℕ × DotPower → List Choice
dot_choices is_exact p q k entry =
    if fits is_exact entry.1.exponent k
    then option_to_list (taking (uses.Dot entry.0 k) (and_asked (asked_vector p entry.1.left) (asked_vector q entry.1.right)))
    ++ option_to_list (taking (uses.Dot entry.0 k) (and_asked (asked_vector p entry.1.right) (asked_vector q entry.1.left)))
    else []

abbrev pub component_choice : Name → IndexName → ℕ × Component → Option Choice
component_choice v i entry = taking (uses.Component entry.0) (and_asked (asked_vector v entry.1.vector) (asked_index i entry.1.index))

-- a delta, as it stands and swapped
abbrev pub delta_choices : IndexName → IndexName → ℕ × Delta → List Choice
delta_choices i j entry =
    option_to_list (taking (uses.Delta entry.0) (and_asked (asked_index i entry.1.first) (asked_index j entry.1.second)))
    ++ option_to_list (taking (uses.Delta entry.0) (and_asked (asked_index i entry.1.second) (asked_index j entry.1.first)))

-- a stretch of so many functions of the word may begin here: it crosses none of the cuts
abbrev pub is_uncut : List ℕ → ℕ → ℕ → Bool
is_uncut cuts n start = list_all (λ c. nat_le c start || nat_le (start + n) c) cuts

-- where stretches of so many may begin
abbrev pub starts : Host → ℕ → List ℕ
starts h n = filter (is_uncut h.cuts n) (range_with_len 0 (suc (length h.term.others.word) - n))

-- each of the one with each of the other, the first deciding first
abbrev pub joined : List (List Binding) → List (List Binding) → List (List Binding)
joined xs ys = flat_map (λ x. map (λ y. x ++ y) ys) xs

-- ---- vectors of choices

-- no two take the same
abbrev pub clashes : Use → Use → Bool
clashes (uses.Symbol s k) (uses.Symbol t l) = s == t
clashes (uses.Dot m k) (uses.Dot n l) = m == n
clashes (uses.Component m) (uses.Component n) = m == n
clashes (uses.Delta m) (uses.Delta n) = m == n
clashes (uses.Function m) (uses.Function n) = m == n
clashes _ _ = false

abbrev pub are_apart : List Use → Bool
are_apart [] = true
are_apart (u ∷ us) = not (list_any (clashes u) us) && are_apart us

abbrev pub uses_of : List Choice → List Use
uses_of vector = map (λ c. c.takes) vector

abbrev pub asks_of : List Choice → List Binding
asks_of vector = flat_map (λ c. c.asks) vector

-- a vector takes a term whole
abbrev pub takes_whole : Term → List Choice → Bool
takes_whole t vector = are_apart (uses_of vector) && is_one (left_of t (uses_of vector))

abbrev pub is_coefficient_one : Fraction → Bool
is_coefficient_one c = int_le c.numerator (pos 1) && int_le (pos 1) c.numerator && (c.denominator == 1)

-- a term in an argument
abbrev pub inner : Term → Host
inner t = record { term = t; cuts = []; is_exact = true; is_inner = true }

-- the term itself
abbrev pub outer : Term → List ℕ → Bool → Host
outer t cuts is_exact = record { term = t; cuts = cuts; is_exact = is_exact; is_inner = false }

-- what arguments without wildcards are, by their numbers: none where it is refused, and then it equals nothing
abbrev pub is_fixed_argument : List (Option (List Piece)) → ℕ → List Piece → Bool
is_fixed_argument table k value = list_any (is_same value) (option_to_list (slice_index_or table k None))

-- a wildcard for an expression, an index or a vector
abbrev pub any_ways : Sort → Name → terms.Argument → List (List Binding)
any_ways sorts.Expression n (terms.expression ss) = option_to_list (asked_expression n (pieces_of_argument (terms.expression ss)))
any_ways sorts.Index n (terms.index i) = option_to_list (asked_index (an_index.Name n) i)
any_ways sorts.Vector n (terms.vector v) = option_to_list (asked_vector n v)
any_ways sort n a = []

-- a product with wildcards takes an expression of one term of coefficient 1 whole
abbrev pub product_ways : (Term → List (List Choice)) → terms.Argument → List (List Binding)
product_ways vectors (terms.expression (s ∷ [])) =
    if is_coefficient_one s.coefficient then map asks_of (filter (takes_whole s.term) (vectors s.term)) else []
product_ways vectors a = []

-- a field takes the first n arguments
abbrev pub field_asks : ℕ → List terms.Argument → ℕ → Binding
field_asks w xs n = record { wildcard = wildcards.Field w; value = pieces_of_arguments (take n xs) }

abbrev pub behind : Option (List Binding) → List (List Binding) → List (List Binding)
behind None ways = []
behind (Some asks) ways = map (λ w. asks ++ w) ways

-- how a function of the term may be taken, whose arguments may be taken in these ways: what each way asks
abbrev pub call_ways : Name → (List terms.Argument → List (List Binding)) → Call → List (List Binding)
call_ways n arguments_ways c = behind (asked_function n c.function) (arguments_ways (arguments_of c.pieces))

unfoldable mutual
  -- all vectors of choices, in lexicographic order
  pub vectors : List (Option (List Piece)) → Factors → Host → List (List Choice)
  vectors table none h = [] ∷ []
  vectors table (more f fs) h = flat_map (λ c. map (λ v. c ∷ v) (vectors table fs h)) (choices table f h)

  -- the choices of a factor
  pub choices : List (Option (List Piece)) → Factor → Host → List Choice
  choices table (symbol n k) h = filter_map (symbol_choice h.is_exact n k) h.term.symbols
  choices table (whole n m) h = filter_map (whole_choice n m) h.term.symbols ++ option_to_list (absent_choice h n m)
  choices table (dot p q k) h = flat_map (dot_choices h.is_exact p q k) (enumerate_from 0 h.term.others.dots)
  choices table (component v i) h = filter_map (component_choice v i) (enumerate_from 0 h.term.others.components)
  choices table (delta i j) h = flat_map (delta_choices i j) (enumerate_from 0 h.term.others.deltas)
  choices table (function n args) h =
      flat_map (λ e. map (λ asks. record { takes = uses.Function e.0; asks = asks }) (call_ways n (λ xs. ways table args xs) e.1)) (enumerate_from 0 h.term.others.functions)
  choices table (word calls) h =
      flat_map (λ start. map (λ asks. record { takes = uses.Stretch start (count calls); asks = asks }) (word_ways table calls (drop start h.term.others.word))) (starts h (count calls))

  -- how the first functions of a word may be taken
  pub word_ways : List (Option (List Piece)) → Calls → List Call → List (List Binding)
  word_ways table end cs = [] ∷ []
  word_ways table (call n args calls) [] = []
  word_ways table (call n args calls) (c ∷ cs) = joined (call_ways n (λ xs. ways table args xs) c) (word_ways table calls cs)

  -- how arguments may be taken, all of them, from the left; a field takes the fewest first
  pub ways : List (Option (List Piece)) → Arguments → List terms.Argument → List (List Binding)
  ways table empty [] = [] ∷ []
  ways table empty (x ∷ xs) = []
  ways table (further (field w) args) xs =
      flat_map (λ n. map (λ way. field_asks w xs n ∷ way) (ways table args (drop n xs))) (range_with_len 0 (suc (length xs)))
  ways table (further (fixed k) args) [] = []
  ways table (further (fixed k) args) (x ∷ xs) = if is_fixed_argument table k (pieces_of_argument x) then ways table args xs else []
  ways table (further (any sort n) args) [] = []
  ways table (further (any sort n) args) (x ∷ xs) = joined (any_ways sort n x) (ways table args xs)
  ways table (further (product fs) args) [] = []
  ways table (further (product fs) args) (x ∷ xs) = joined (product_ways (λ t. vectors table fs (inner t)) x) (ways table args xs)

-- ---- consistency

unfoldable pub bindings_of : List Binding → Option (List Binding)
bindings_of asks = fold (λ bs b. option_and_then (λ made. and_bound made b) bs) (Some []) asks

-- the match that a vector is, where it is consistent
abbrev pub match_of : List Choice → Option Match
match_of vector =
    if are_apart (uses_of vector) then option_map (λ bs. record { takes = uses_of vector; bindings = bs }) (bindings_of (asks_of vector)) else None

-- the first of these that is something
abbrev pub first_some : {A B : Type 0} → (A → Option B) → List A → Option B
first_some f [] = None
first_some f (x ∷ xs) = option_or (f x) (first_some f xs)

-- The first match: over those vectors alone whose stretch crosses none of the cuts and, where it is exact, whose symbols and
-- dot products have in the term the power that is taken.
unfoldable pub first_of : List (Option (List Piece)) → Factors → Term → List ℕ → Bool → Option Match
first_of table pattern t cuts is_exact = first_some match_of (vectors table pattern (outer t cuts is_exact))

-- The first match of all.
abbrev pub first_match : List (Option (List Piece)) → Factors → Term → Option Match
first_match table pattern t = first_of table pattern t [] false
