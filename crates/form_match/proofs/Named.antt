-- What is left of a term, and what a match binds, has its names at their places.
use Rattle.std.proofs.Common.{◌≡◌, ℕ, suc, ◌+◌, ◌≤◌, ◌==◌, inl, inr, Bool, true, false, not, ◌||◌, if◌then◌else◌, ℤ, pos, ◌-ℤ◌, nat_abs, List, [], ◌∷◌, ◌++◌, map, filter, fold, take, drop, length, Option, Some, None, IfSome, option_map, option_and_then, option_to_list, refl, sym, subst, ◌∙◌, arith}
use Rattle.std.specs.Prelude.{nat_lt}
use Rattle.std.specs.List.{AllByRecursion, filter_map, enumerate_from, list_all, list_any, range_with_len}
use Rattle.std.specs.Option.{option_or}
use Rattle.std.proofs.lemmas.List.Elements.{All-head, recursion_from_All}
use Rattle.form_frac.specs.Fraction.{whole as number, largest}
use Rattle.form_term.specs.declared.power.Power.{Power}
use Rattle.form_term.specs.declared.power.DotPower.{DotPower}
use Rattle.form_term.specs.declared.index.Index.{Index}
use Rattle.form_term.specs.declared.index.Index.TheVariants as indices
use Rattle.form_term.specs.declared.index.Component.{Component}
use Rattle.form_term.specs.declared.index.Delta.{Delta}
use Rattle.form_term.specs.declared.piece.Piece.{Piece}
use Rattle.form_term.specs.Term as terms
use Rattle.form_term.specs.Term.{Term, Call, Summand, IsTerm, IsCall, exponent_of, one, of_symbols, largest_exponent, pieces_of_argument}
use Rattle.form_term.specs.Arguments.{arguments_of}
use Rattle.form_term.specs.Named.{Place, Places, symbol_place, vector_place, function_place, word_place, IsAt, IsIndexNamed, IsPowerNamed, IsDotNamed, IsComponentNamed, IsDeltaNamed, IsCallNamed, IsNamed, IsPieceNamed, IsSoundArgument, AreSoundPieces}
use Rattle.form_term.proofs.Each.{each_append, in_front, at_back, each_take, each_drop, each_filter, each_numbered, each_always, each_map, each_flat, each_filter_map}
use Rattle.form_term.proofs.Named.{argument_pieces, sound_read, sound_written, sound_alone}
use Rattle.form_term.proofs.ReadBack.{call_arguments}
use Rattle.form_tree.specs.declared.pattern.Name.{Name}
use Rattle.form_tree.specs.declared.pattern.Name.TheVariants.{Itself, Wild}
use Rattle.form_tree.specs.declared.pattern.IndexName.{IndexName}
use Rattle.form_tree.specs.declared.pattern.IndexName.TheVariants as an_index
use Rattle.form_tree.specs.declared.pattern.Sort.{Sort}
use Rattle.form_tree.specs.declared.pattern.Sort.TheVariants as sorts
use Rattle.form_tree.specs.declared.pattern.PatternPiece.{PatternPiece}
use Rattle.form_tree.specs.declared.pattern.PatternPiece.TheVariants as pieces
use Rattle.form_tree.specs.Pattern as shapes
use Rattle.form_tree.specs.Pattern.{Factors, none, more, Factor, symbol, whole, dot, component, delta, function, word, Calls, end, call, count, Arguments, empty, further, fixed, any, field, product, pieces_of_factors, pieces_of_factor, pieces_of_calls}
use Rattle.form_tree.specs.Placed.{IsNameAt, IsPatternPiecePlaced, IsPatternPlaced}
use Rattle.form_bindings.specs.declared.bindings.Wildcard.TheVariants as wildcards
use Rattle.form_bindings.specs.Learning.{and_bound_at, and_bound}
use Rattle.form_bindings.specs.Named.{IsSoundValue, IsSoundBinding, AreSoundBindings}
use Rattle.form_bindings.specs.Values.{Binding, is_same, value_of, symbol_value, number_value, index_value, vector_value, function_value}
use Rattle.form_match.specs.declared.matching.Match.{Match}
use Rattle.form_match.specs.declared.uses.Use.{Use}
use Rattle.form_match.specs.declared.uses.Use.TheVariants as uses
use Rattle.form_match.specs.Left.{left_of, taken, symbol_taken, dot_taken, takes_component, takes_delta, takes_function, untaken, without_stretch, word_left}
use Rattle.form_match.specs.Matching.{Host, Choice, values_in, asked, asked_expression, asked_symbol, asked_number, asked_vector, asked_function, is_declared, is_fixed, asked_index, and_asked, no_value, taking, fits, symbol_choice, whole_choice, absent_choice, dot_choices, component_choice, delta_choices, starts, joined, uses_of, asks_of, are_apart, takes_whole, is_coefficient_one, inner, outer, is_fixed_argument, any_ways, product_ways, field_asks, behind, call_ways, vectors, choices, word_ways, ways, bindings_of, match_of, first_some, first_of}
use Rattle.form_match.proofs.Lawful.{symbol_lawful, number_lawful, index_lawful, vector_lawful}

-- ---- what is left

untaken_each : {A : Type 0} (P : A → Type 0) (takes : ℕ → Use → Bool) (us : List Use) (xs : List A) → AllByRecursion P xs → AllByRecursion P (untaken takes us xs)
untaken_each {A} P takes us xs h =
    each_map (λ (e : ℕ × A). P e.1) P (λ (e : ℕ × A). e.1) (λ e k. k) (filter (λ (e : ℕ × A). not (list_any (takes e.0) us)) (enumerate_from 0 xs))
    (each_filter (λ (e : ℕ × A). P e.1) (λ (e : ℕ × A). not (list_any (takes e.0) us)) (enumerate_from 0 xs) (each_numbered P 0 xs h))

word_each : (P : Call → Type 0) (us : List Use) (w : List Call) → AllByRecursion P w → AllByRecursion P (word_left us w)
word_each P [] w h = h
word_each P (u ∷ us) w h = word_each P us (without_stretch u w) (by u)
  where
    by : (v : Use) → AllByRecursion P (without_stretch v w)
    by (uses.Stretch start n) = each_append P (take start w) (drop (start + n) w) (each_take P start w h) (each_drop P (start + n) w h)
    by (uses.Symbol s k) = h
    by (uses.Dot m k) = h
    by (uses.Component m) = h
    by (uses.Delta m) = h
    by (uses.Function m) = h

abbrev lowered : List Use → Power → Power
lowered us p = record { symbol = p.symbol; exponent = p.exponent -ℤ taken (symbol_taken p.symbol) us }

abbrev lowered_dot : List Use → ℕ × DotPower → DotPower
lowered_dot us e = record { left = e.1.left; right = e.1.right; exponent = e.1.exponent -ℤ taken (dot_taken e.0) us }

pub left_named : (names : Places) (us : List Use) (t : Term) → IsNamed names t → IsNamed names (left_of t us)
unfolding left_of
left_named names us t h =
    record {
      symbols = each_filter (IsPowerNamed names) (λ (p : Power). nat_lt 0 (nat_abs p.exponent)) (map (lowered us) t.symbols) (each_map (IsPowerNamed names) (IsPowerNamed names) (lowered us) (λ p k. k) t.symbols h.symbols);
      dots = each_filter (IsDotNamed names) (λ (d : DotPower). nat_lt 0 (nat_abs d.exponent)) (map (lowered_dot us) (enumerate_from 0 t.others.dots))
          (each_map (λ (e : ℕ × DotPower). IsDotNamed names e.1) (IsDotNamed names) (lowered_dot us) (λ e k. k) (enumerate_from 0 t.others.dots) (each_numbered (IsDotNamed names) 0 t.others.dots h.dots));
      components = untaken_each (IsComponentNamed names) takes_component us t.others.components h.components;
      deltas = untaken_each (IsDeltaNamed names) takes_delta us t.others.deltas h.deltas;
      functions = untaken_each (IsCallNamed function_place names) takes_function us t.others.functions h.functions;
      word = word_each (IsCallNamed word_place names) us t.others.word h.word;
    }

-- ---- values

both_hold : {A : Type 0} (P Q : A → Type 0) (xs : List A) → AllByRecursion P xs → AllByRecursion Q xs → AllByRecursion (λ (x : A). P x × Q x) xs
both_hold P Q [] h k = tt
both_hold P Q (x ∷ xs) h k = ((h.0, k.0), both_hold P Q xs h.1 k.1)

one_held : {A : Type 0} (P : A → Type 0) (o : Option A) → IfSome o P → AllByRecursion P (option_to_list o)
one_held P None h = tt
one_held P (Some x) h = (h, tt)

kept_where : {A : Type 0} (P : A → Type 0) (b : Bool) (l : List A) → AllByRecursion P l → AllByRecursion P (if b then l else [])
kept_where P true l h = h
kept_where P false l h = tt

module _ (names : Places) where
  abbrev AreBound : List Binding → Type 0
  AreBound bs = AreSoundBindings names bs

  abbrev Asks : Option (List Binding) → Type 0
  Asks o = IfSome o AreBound

  symbol_sound : (s : ℕ) → IsAt symbol_place names s → AreSoundPieces names (symbol_value s)
  symbol_sound s h = (
    symbol_lawful s,
    argument_pieces names (terms.expression (record { coefficient = number (pos 1); term = of_symbols (record { symbol = s; exponent = pos 1 } ∷ []) } ∷ []))
        (record { symbols = (h, tt); dots = tt; components = tt; deltas = tt; functions = tt; word = tt }, tt),
  )

  number_sound : (z : ℤ) → nat_abs z ≤ largest → AreSoundPieces names (number_value z)
  number_sound z small = (number_lawful z small, by (nat_abs z == 0))
    where
      by : (b : Bool) → AllByRecursion (IsPieceNamed names) (pieces_of_argument (terms.expression (if b then [] else record { coefficient = number z; term = one } ∷ [])))
      by true = (tt, (tt, tt))
      by false = (tt, (tt, (tt, tt)))

  index_sound : (i : Index) → IsIndexNamed names i → AreSoundPieces names (index_value i)
  index_sound i h = (index_lawful i, (h, tt))

  vector_sound : (v : ℕ) → IsAt vector_place names v → AreSoundPieces names (vector_value v)
  vector_sound v h = (vector_lawful v, (h, tt))

  -- ---- what is asked

  abbrev IsValueFor : Name → List Piece → Type 0
  IsValueFor (Itself m) value = Unit {0}
  IsValueFor (Wild w sets) value = IsSoundValue names (wildcards.Name w) value

  value_for : (n : Name) (value : List Piece) → AreSoundPieces names value → IsValueFor n value
  value_for (Itself m) value h = tt
  value_for (Wild w sets) value h = inl h

  function_for : (n : Name) (place : Place) (f : ℕ) → IsNameAt place names n → IsAt place names f → IsValueFor n (function_value f)
  function_for (Itself m) place f h k = tt
  function_for (Wild w sets) place f h k = inr (f, refl, k ∙ sym h)

  asked_sound : (of_name : ℕ → List Piece) (of_number : ℤ → List (List Piece)) (n : Name) (is_it : ℕ → Bool) (value : List Piece) → IsValueFor n value → Asks (asked of_name of_number n is_it value)
  asked_sound of_name of_number (Itself m) is_it value h = by (is_it m)
    where
      by : (b : Bool) → Asks (if b then Some [] else None)
      by true = tt
      by false = tt
  asked_sound of_name of_number (Wild w sets) is_it value h = by (list_all (λ set. list_any (is_same value) (values_in of_name of_number set)) sets)
    where
      by : (b : Bool) → Asks (if b then Some (record { wildcard = wildcards.Name w; value = value } ∷ []) else None)
      by true = (h, tt)
      by false = tt

  and_sound : (o p : Option (List Binding)) → Asks o → Asks p → Asks (and_asked o p)
  and_sound None None h k = tt
  and_sound None (Some b) h k = tt
  and_sound (Some a) None h k = tt
  and_sound (Some a) (Some b) h k = each_append (IsSoundBinding names) a b h k

  symbol_asked : (n : Name) (s : ℕ) → IsAt symbol_place names s → Asks (asked_symbol n s)
  symbol_asked n s h = asked_sound symbol_value (λ z. number_value z ∷ []) n (λ m. m == s) (symbol_value s) (value_for n (symbol_value s) (symbol_sound s h))

  expression_asked : (n : Name) (value : List Piece) → AreSoundPieces names value → Asks (asked_expression n value)
  expression_asked n value h = asked_sound symbol_value (λ z. number_value z ∷ []) n (λ s. is_same value (symbol_value s)) value (value_for n value h)

  number_asked : (n : Name) (z : ℤ) → nat_abs z ≤ largest → Asks (asked_number n z)
  number_asked n z small = expression_asked n (number_value z) (number_sound z small)

  vector_asked : (n : Name) (v : ℕ) → IsAt vector_place names v → Asks (asked_vector n v)
  vector_asked n v h = asked_sound vector_value no_value n (λ m. m == v) (vector_value v) (value_for n (vector_value v) (vector_sound v h))

  function_asked : (n : Name) (place : Place) (f : ℕ) → IsNameAt place names n → IsAt place names f → Asks (asked_function n f)
  function_asked n place f h k = asked_sound function_value no_value n (λ m. m == f) (function_value f) (function_for n place f h k)

  index_asked : (n : IndexName) (i : Index) → IsIndexNamed names i → Asks (asked_index n i)
  index_asked (an_index.Fixed m) i h = by (is_fixed i m)
    where
      by : (b : Bool) → Asks (if b then Some [] else None)
      by true = tt
      by false = tt
  index_asked (an_index.Name n) i h = asked_sound (λ m. index_value (indices.Declared m)) no_value n (is_declared i) (index_value i) (value_for n (index_value i) (index_sound i h))

  -- ---- choices

  abbrev IsSound : Choice → Type 0
  IsSound c = AreBound c.asks

  taking_sound : (u : Use) (o : Option (List Binding)) → Asks o → IfSome (taking u o) IsSound
  taking_sound u None h = tt
  taking_sound u (Some bs) h = h

  symbol_chosen : (is_exact : Bool) (n : Name) (k : ℤ) (p : Power) → IsPowerNamed names p → IfSome (symbol_choice is_exact n k p) IsSound
  symbol_chosen is_exact n k p h = by (fits is_exact p.exponent k)
    where
      by : (b : Bool) → IfSome (if b then taking (uses.Symbol p.symbol k) (asked_symbol n p.symbol) else None) IsSound
      by true = taking_sound (uses.Symbol p.symbol k) (asked_symbol n p.symbol) (symbol_asked n p.symbol h)
      by false = tt

  abbrev IsSmall : Power → Type 0
  IsSmall p = nat_abs p.exponent ≤ largest_exponent

  small_enough : (n : ℕ) → n ≤ largest_exponent → n ≤ largest
  small_enough n h = omega (arith, h)

  whole_chosen : (n m : Name) (p : Power) → IsPowerNamed names p × IsSmall p → IfSome (whole_choice n m p) IsSound
  whole_chosen n m p h =
      taking_sound (uses.Symbol p.symbol p.exponent) (and_asked (asked_symbol n p.symbol) (asked_number m p.exponent))
      (and_sound (asked_symbol n p.symbol) (asked_number m p.exponent) (symbol_asked n p.symbol h.0) (number_asked m p.exponent (small_enough (nat_abs p.exponent) h.1)))

  absent_chosen : (h : Host) (n m : Name) → IfSome (absent_choice h n m) IsSound
  absent_chosen h (Wild w sets) m = tt
  absent_chosen h (Itself s) m = by (h.is_inner || not (nat_abs (exponent_of h.term s) == 0))
    where
      by : (b : Bool) → IfSome (if b then None else taking (uses.Symbol s (pos 0)) (asked_number m (pos 0))) IsSound
      by true = tt
      by false = taking_sound (uses.Symbol s (pos 0)) (asked_number m (pos 0)) (number_asked m (pos 0) (omega arith))

  dot_chosen : (is_exact : Bool) (p q : Name) (k : ℤ) (e : ℕ × DotPower) → IsDotNamed names e.1 → AllByRecursion IsSound (dot_choices is_exact p q k e)
  dot_chosen is_exact p q k e h = by (fits is_exact e.1.exponent k)
    where
      one_way : (u v : ℕ) → IsAt vector_place names u → IsAt vector_place names v → AllByRecursion IsSound (option_to_list (taking (uses.Dot e.0 k) (and_asked (asked_vector p u) (asked_vector q v))))
      one_way u v f g =
          one_held IsSound (taking (uses.Dot e.0 k) (and_asked (asked_vector p u) (asked_vector q v)))
          (taking_sound (uses.Dot e.0 k) (and_asked (asked_vector p u) (asked_vector q v)) (and_sound (asked_vector p u) (asked_vector q v) (vector_asked p u f) (vector_asked q v g)))

      by : (b : Bool) → AllByRecursion IsSound (if b
          then option_to_list (taking (uses.Dot e.0 k) (and_asked (asked_vector p e.1.left) (asked_vector q e.1.right))) ++ option_to_list (taking (uses.Dot e.0 k) (and_asked (asked_vector p e.1.right) (asked_vector q e.1.left)))
          else [])
      by true =
          each_append IsSound (option_to_list (taking (uses.Dot e.0 k) (and_asked (asked_vector p e.1.left) (asked_vector q e.1.right))))
          (option_to_list (taking (uses.Dot e.0 k) (and_asked (asked_vector p e.1.right) (asked_vector q e.1.left)))) (one_way e.1.left e.1.right h.0 h.1) (one_way e.1.right e.1.left h.1 h.0)
      by false = tt

  component_chosen : (v : Name) (i : IndexName) (e : ℕ × Component) → IsComponentNamed names e.1 → IfSome (component_choice v i e) IsSound
  component_chosen v i e h =
      taking_sound (uses.Component e.0) (and_asked (asked_vector v e.1.vector) (asked_index i e.1.index))
      (and_sound (asked_vector v e.1.vector) (asked_index i e.1.index) (vector_asked v e.1.vector h.0) (index_asked i e.1.index h.1))

  delta_chosen : (i j : IndexName) (e : ℕ × Delta) → IsDeltaNamed names e.1 → AllByRecursion IsSound (delta_choices i j e)
  delta_chosen i j e h =
      each_append IsSound (option_to_list (taking (uses.Delta e.0) (and_asked (asked_index i e.1.first) (asked_index j e.1.second))))
      (option_to_list (taking (uses.Delta e.0) (and_asked (asked_index i e.1.second) (asked_index j e.1.first)))) (one_way e.1.first e.1.second h.0 h.1) (one_way e.1.second e.1.first h.1 h.0)
    where
      one_way : (a b : Index) → IsIndexNamed names a → IsIndexNamed names b → AllByRecursion IsSound (option_to_list (taking (uses.Delta e.0) (and_asked (asked_index i a) (asked_index j b))))
      one_way a b f g =
          one_held IsSound (taking (uses.Delta e.0) (and_asked (asked_index i a) (asked_index j b)))
          (taking_sound (uses.Delta e.0) (and_asked (asked_index i a) (asked_index j b)) (and_sound (asked_index i a) (asked_index j b) (index_asked i a f) (index_asked j b g)))

  -- ---- ways

  abbrev AreWays : List (List Binding) → Type 0
  AreWays l = AllByRecursion AreBound l

  joined_ways : (xs ys : List (List Binding)) → AreWays xs → AreWays ys → AreWays (joined xs ys)
  joined_ways xs ys h k =
      each_flat AreBound AreBound (λ (x : List Binding). map (λ (y : List Binding). x ++ y) ys)
      (λ x f. each_map AreBound AreBound (λ (y : List Binding). x ++ y) (λ y g. each_append (IsSoundBinding names) x y f g) ys k) xs h

  behind_ways : (o : Option (List Binding)) (l : List (List Binding)) → Asks o → AreWays l → AreWays (behind o l)
  behind_ways None l h k = tt
  behind_ways (Some asks) l h k = each_map AreBound AreBound (λ (w : List Binding). asks ++ w) (λ w g. each_append (IsSoundBinding names) asks w h g) l k

  any_sound : (sort : Sort) (n : Name) (a : terms.Argument) → IsSoundArgument names a → AreWays (any_ways sort n a)
  any_sound sorts.Expression n (terms.expression ss) h =
      one_held AreBound (asked_expression n (pieces_of_argument (terms.expression ss))) (expression_asked n (pieces_of_argument (terms.expression ss)) (sound_alone names (terms.expression ss) h))
  any_sound sorts.Index n (terms.index i) h = one_held AreBound (asked_index (an_index.Name n) i) (index_asked (an_index.Name n) i h.1)
  any_sound sorts.Vector n (terms.vector v) h = one_held AreBound (asked_vector n v) (vector_asked n v h.1)
  any_sound sort n a h = tt

  abbrev IsSoundTerm : Term → Type 0
  IsSoundTerm t = IsNamed names t × IsTerm t

  abbrev IsSoundVector : List Choice → Type 0
  IsSoundVector v = AllByRecursion IsSound v

  asks_sound : (v : List Choice) → IsSoundVector v → AreBound (asks_of v)
  asks_sound v h = each_flat IsSound (IsSoundBinding names) (λ (c : Choice). c.asks) (λ c k. k) v h

  product_sound : (make : Term → List (List Choice)) → ((t : Term) → IsSoundTerm t → AllByRecursion IsSoundVector (make t)) → (a : terms.Argument) → IsSoundArgument names a → AreWays (product_ways make a)
  product_sound make f (terms.index i) h = tt
  product_sound make f (terms.vector v) h = tt
  product_sound make f (terms.expression []) h = tt
  product_sound make f (terms.expression (s ∷ r ∷ ss)) h = tt
  product_sound make f (terms.expression (s ∷ [])) h = by (is_coefficient_one s.coefficient)
    where
      lawful : terms.IsExpressionOf IsTerm (s ∷ [])
      lawful = h.0

      by : (b : Bool) → AreWays (if b then map asks_of (filter (takes_whole s.term) (make s.term)) else [])
      by true =
          each_map IsSoundVector AreBound asks_of asks_sound (filter (takes_whole s.term) (make s.term))
          (each_filter IsSoundVector (takes_whole s.term) (make s.term) (f s.term (h.1.0, All-head (λ (x : Summand). IsTerm x.term) s [] lawful.terms)))
      by false = tt

  abbrev IsSoundCall : Place → Call → Type 0
  IsSoundCall place c = IsCall c × IsCallNamed place names c

  call_sound : (place : Place) (n : Name) (go : List terms.Argument → List (List Binding)) (c : Call) → IsNameAt place names n → IsSoundCall place c
      → ((xs : List terms.Argument) → AllByRecursion (IsSoundArgument names) xs → AreWays (go xs)) → AreWays (call_ways n go c)
  call_sound place n go c h k f =
      behind_ways (asked_function n c.function) (go (arguments_of c.pieces)) (function_asked n place c.function h k.1.0)
      (f (arguments_of c.pieces) (sound_read names c.pieces (call_arguments c k.0, k.1.1)))

  functions_sound : (t : Term) → IsSoundTerm t → AllByRecursion (IsSoundCall function_place) t.others.functions
  functions_sound t h = both_hold IsCall (IsCallNamed function_place names) t.others.functions (recursion_from_All IsCall t.others.functions h.1.others.functions) h.0.functions

  word_sound : (t : Term) → IsSoundTerm t → AllByRecursion (IsSoundCall word_place) t.others.word
  word_sound t h = both_hold IsCall (IsCallNamed word_place names) t.others.word (recursion_from_All IsCall t.others.word h.1.others.word) h.0.word

  -- ---- vectors of choices

  abbrev ArePlaced : List PatternPiece → Type 0
  ArePlaced ps = AllByRecursion (IsPatternPiecePlaced names) ps

  module _ (table : List (Option (List Piece))) where
    mutual
      unfolding vectors choices ways word_ways

      vectors_sound : (fs : Factors) (h : Host) → IsSoundTerm h.term → ArePlaced (pieces_of_factors fs) → AllByRecursion IsSoundVector (vectors table fs h)
      vectors_sound none h k p = (tt, tt)
      vectors_sound (more f fs) h k p =
          let rest = vectors_sound fs h k (at_back (IsPatternPiecePlaced names) (pieces_of_factor f) (pieces_of_factors fs) p) in
          each_flat IsSound IsSoundVector (λ (c : Choice). map (λ (v : List Choice). c ∷ v) (vectors table fs h))
          (λ c g. each_map IsSoundVector IsSoundVector (λ (v : List Choice). c ∷ v) (λ v l. (g, l)) (vectors table fs h) rest) (choices table f h)
          (choices_sound f h k (in_front (IsPatternPiecePlaced names) (pieces_of_factor f) (pieces_of_factors fs) p))

      choices_sound : (f : Factor) (h : Host) → IsSoundTerm h.term → ArePlaced (pieces_of_factor f) → AllByRecursion IsSound (choices table f h)
      choices_sound (symbol n z) h k p = each_filter_map (IsPowerNamed names) IsSound (symbol_choice h.is_exact n z) (symbol_chosen h.is_exact n z) h.term.symbols k.0.symbols
      choices_sound (whole n m) h k p =
          each_append IsSound (filter_map (whole_choice n m) h.term.symbols) (option_to_list (absent_choice h n m))
          (each_filter_map (λ (x : Power). IsPowerNamed names x × IsSmall x) IsSound (whole_choice n m) (whole_chosen n m) h.term.symbols
          (both_hold (IsPowerNamed names) IsSmall h.term.symbols k.0.symbols (recursion_from_All IsSmall h.term.symbols k.1.in_range)))
          (one_held IsSound (absent_choice h n m) (absent_chosen h n m))
      choices_sound (dot u v z) h k p =
          each_flat (λ (e : ℕ × DotPower). IsDotNamed names e.1) IsSound (dot_choices h.is_exact u v z) (dot_chosen h.is_exact u v z) (enumerate_from 0 h.term.others.dots) (each_numbered (IsDotNamed names) 0 h.term.others.dots k.0.dots)
      choices_sound (component v i) h k p =
          each_filter_map (λ (e : ℕ × Component). IsComponentNamed names e.1) IsSound (component_choice v i) (component_chosen v i) (enumerate_from 0 h.term.others.components) (each_numbered (IsComponentNamed names) 0 h.term.others.components k.0.components)
      choices_sound (delta i j) h k p =
          each_flat (λ (e : ℕ × Delta). IsDeltaNamed names e.1) IsSound (delta_choices i j) (delta_chosen i j) (enumerate_from 0 h.term.others.deltas) (each_numbered (IsDeltaNamed names) 0 h.term.others.deltas k.0.deltas)
      choices_sound (function n args) h k p =
          let at = in_front (IsPatternPiecePlaced names) (shapes.pieces_of_arguments args) (pieces.EndOfArguments ∷ []) p.1 in
          each_flat (λ (e : ℕ × Call). IsSoundCall function_place e.1) IsSound (λ (e : ℕ × Call). map (λ (asks : List Binding). record { takes = uses.Function e.0; asks = asks }) (call_ways n (λ xs. ways table args xs) e.1))
          (λ e g. each_map AreBound IsSound (λ (asks : List Binding). record { takes = uses.Function e.0; asks = asks }) (λ asks l. l) (call_ways n (λ xs. ways table args xs) e.1)
          (call_sound function_place n (λ xs. ways table args xs) e.1 p.0 g (λ xs l. ways_sound args xs l at)))
          (enumerate_from 0 h.term.others.functions) (each_numbered (IsSoundCall function_place) 0 h.term.others.functions (functions_sound h.term k))
      choices_sound (word cs) h k p =
          let at = in_front (IsPatternPiecePlaced names) (pieces_of_calls cs) (pieces.EndOfWord ∷ []) p.1 in
          each_flat (λ (n : ℕ). Unit {0}) IsSound (λ (start : ℕ). map (λ (asks : List Binding). record { takes = uses.Stretch start (count cs); asks = asks }) (word_ways table cs (drop start h.term.others.word)))
          (λ start g. each_map AreBound IsSound (λ (asks : List Binding). record { takes = uses.Stretch start (count cs); asks = asks }) (λ asks l. l) (word_ways table cs (drop start h.term.others.word))
          (calls_sound cs (drop start h.term.others.word) (each_drop (IsSoundCall word_place) start h.term.others.word (word_sound h.term k)) at))
          (starts h (count cs)) (each_always (λ (n : ℕ). Unit {0}) (λ n. tt) (starts h (count cs)))

      calls_sound : (cs : Calls) (ws : List Call) → AllByRecursion (IsSoundCall word_place) ws → ArePlaced (pieces_of_calls cs) → AreWays (word_ways table cs ws)
      calls_sound end ws k p = (tt, tt)
      calls_sound (call n args cs) [] k p = tt
      calls_sound (call n args cs) (c ∷ ws) k p =
          let at = in_front (IsPatternPiecePlaced names) (shapes.pieces_of_arguments args) (pieces.EndOfArguments ∷ pieces_of_calls cs) p.1 in
          let later = at_back (IsPatternPiecePlaced names) (shapes.pieces_of_arguments args) (pieces.EndOfArguments ∷ pieces_of_calls cs) p.1 in
          joined_ways (call_ways n (λ xs. ways table args xs) c) (word_ways table cs ws)
          (call_sound word_place n (λ xs. ways table args xs) c p.0 k.0 (λ xs l. ways_sound args xs l at)) (calls_sound cs ws k.1 later.1)

      ways_sound : (args : Arguments) (xs : List terms.Argument) → AllByRecursion (IsSoundArgument names) xs → ArePlaced (shapes.pieces_of_arguments args) → AreWays (ways table args xs)
      ways_sound empty [] k p = (tt, tt)
      ways_sound empty (x ∷ xs) k p = tt
      ways_sound (further (field w) args) xs k p =
          each_flat (λ (n : ℕ). Unit {0}) AreBound (λ (n : ℕ). map (λ (way : List Binding). field_asks w xs n ∷ way) (ways table args (drop n xs)))
          (λ n g. each_map AreBound AreBound (λ (way : List Binding). field_asks w xs n ∷ way) (λ way l. (sound_written names (take n xs) (each_take (IsSoundArgument names) n xs k), l)) (ways table args (drop n xs))
          (ways_sound args (drop n xs) (each_drop (IsSoundArgument names) n xs k) p.1))
          (range_with_len 0 (suc (length xs))) (each_always (λ (n : ℕ). Unit {0}) (λ n. tt) (range_with_len 0 (suc (length xs))))
      ways_sound (further (fixed m) args) [] k p = tt
      ways_sound (further (fixed m) args) (x ∷ xs) k p = kept_where AreBound (is_fixed_argument table m (pieces_of_argument x)) (ways table args xs) (ways_sound args xs k.1 p.1)
      ways_sound (further (any sort n) args) [] k p = tt
      ways_sound (further (any sort n) args) (x ∷ xs) k p = joined_ways (any_ways sort n x) (ways table args xs) (any_sound sort n x k.0) (ways_sound args xs k.1 p.1)
      ways_sound (further (product fs) args) [] k p = tt
      ways_sound (further (product fs) args) (x ∷ xs) k p =
          let here = in_front (IsPatternPiecePlaced names) (shapes.pieces_of_argument (product fs)) (shapes.pieces_of_arguments args) p in
          let later = at_back (IsPatternPiecePlaced names) (shapes.pieces_of_argument (product fs)) (shapes.pieces_of_arguments args) p in
          let at = in_front (IsPatternPiecePlaced names) (pieces_of_factors fs) (pieces.EndOfProduct ∷ []) here.1 in
          joined_ways (product_ways (λ t. vectors table fs (inner t)) x) (ways table args xs)
          (product_sound (λ t. vectors table fs (inner t)) (λ t l. vectors_sound fs (inner t) l at) x k.0) (ways_sound args xs k.1 later)

  -- ---- consistent bindings

  bound_too : (bs : List Binding) (b : Binding) → AreBound bs → IsSoundBinding names b → Asks (and_bound bs b)
  bound_too bs b h k = by (value_of bs b.wildcard)
    where
      same_or_not : (t : Bool) → Asks (if t then Some bs else None)
      same_or_not true = h
      same_or_not false = tt

      by : (o : Option (List Piece)) → Asks (and_bound_at o bs b)
      by None = each_append (IsSoundBinding names) bs (b ∷ []) h (k, tt)
      by (Some value) = same_or_not (is_same value b.value)

  abbrev and_one : Option (List Binding) → Binding → Option (List Binding)
  and_one bs b = option_and_then (λ (made : List Binding). and_bound made b) bs

  all_bound : (asks : List Binding) (o : Option (List Binding)) → Asks o → AreBound asks → Asks (fold and_one o asks)
  all_bound [] o h k = h
  all_bound (b ∷ asks) o h k = all_bound asks (and_one o b) (by o h) k.1
    where
      by : (p : Option (List Binding)) → Asks p → Asks (and_one p b)
      by None g = tt
      by (Some bs) g = bound_too bs b g k.0

  abbrev HasSound : Match → Type 0
  HasSound m = AreBound m.bindings

  match_sound : (v : List Choice) → IsSoundVector v → IfSome (match_of v) HasSound
  unfolding bindings_of
  match_sound v h = by (are_apart (uses_of v))
    where
      at : (o : Option (List Binding)) → Asks o → IfSome (option_map (λ bs. record { takes = uses_of v; bindings = bs }) o) HasSound
      at None g = tt
      at (Some bs) g = g

      by : (b : Bool) → IfSome (if b then option_map (λ bs. record { takes = uses_of v; bindings = bs }) (bindings_of (asks_of v)) else None) HasSound
      by true = at (bindings_of (asks_of v)) (all_bound (asks_of v) (Some []) tt (asks_sound v h))
      by false = tt

  first_sound : (vs : List (List Choice)) → AllByRecursion IsSoundVector vs → IfSome (first_some match_of vs) HasSound
  first_sound [] h = tt
  first_sound (v ∷ vs) h = by (match_of v) (match_sound v h.0) (first_sound vs h.1)
    where
      by : (o : Option Match) → IfSome o HasSound → IfSome (first_some match_of vs) HasSound → IfSome (option_or o (first_some match_of vs)) HasSound
      by None g rest = rest
      by (Some m) g rest = g

  pub bindings_sound : (table : List (Option (List Piece))) (fs : Factors) (t : Term) (cuts : List ℕ) (is_exact : Bool) (m : Match) → IsNamed names t → IsTerm t → IsPatternPlaced names fs
      → first_of table fs t cuts is_exact ≡ Some m → AreSoundBindings names m.bindings
  unfolding first_of
  bindings_sound table fs t cuts is_exact m named lawful placed e =
      subst (λ (o : Option Match). IfSome o HasSound) e (first_sound (vectors table fs (outer t cuts is_exact)) (vectors_sound table fs (outer t cuts is_exact) (named, lawful) placed))
