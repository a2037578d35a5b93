-- The order of pieces is that of the arguments, as they nest.
use Rattle.std.proofs.Common.{◌≡◌, ◌≢◌, ℕ, suc, ◌<◌, ◌≤◌, pos, nat_abs, Bool, true, false, List, [], ◌∷◌, ◌++◌, map, if◌then◌else◌, inl, inr, refl, sym, ap, ◌∙◌, arith, append_assoc}
use Rattle.std.specs.Prelude.{All, flat_map}
use Rattle.std.specs.Int.{is_negative}
use Rattle.std.specs.List.{AllByRecursion}
use Rattle.std.specs.Ordering.{int_cmp, nat_cmp, ordering_then, ordering_reverse}
use Rattle.std.specs.Cmp.{nat_cmp_is}
use Rattle.std.specs.Cmp.Lexicographic.{slice_cmp}
use Rattle.std.specs.declared.cmp.Ordering.{Ordering}
use Rattle.std.specs.declared.cmp.Ordering.TheVariants.{Less, Equal, Greater}
use Rattle.std.proofs.lemmas.Bool.{cases_order}
use Rattle.std.proofs.lemmas.Cmp.{int_cmp_total, tied_itself}
use Rattle.std.proofs.lemmas.List.Elements.{All-head, recursion_from_All}
use Rattle.form_term.specs.declared.power.Power.{Power}
use Rattle.form_term.specs.declared.power.DotPower.{DotPower}
use Rattle.form_term.specs.declared.piece.Piece.{Piece}
use Rattle.form_term.specs.declared.piece.Piece.TheVariants as pieces
use Rattle.form_term.specs.Pieces.{piece_order, piece_of_power, piece_of_dot}
use Rattle.form_term.specs.Term.{Argument, Call, Summand, Term, index, vector, expression, call_order, component_order, delta_order, dots_order, end_of_term, imaginary_exponent, order, symbols_order, IsArgumentOf, IsCall, IsTerm, pieces_of_argument, pieces_of_arguments, pieces_of_call, pieces_of_summand, pieces_of_term}
use Rattle.form_term.specs.ArgumentOrder.{argument_order, summand_order}
use Rattle.form_term.specs.SymbolLaws.{differs, differs_back, single_less, single_same, symbols_order_total, then_first, then_next}
use Rattle.form_term.specs.TermLaws.{dot_before_end, dots_order_total, end_before_dot, pieces_total}
use Rattle.form_term.proofs.Dots.{dots_left, dots_right}
use Rattle.form_term.proofs.Inside.{functions_compared, letters_compared}
use Rattle.form_term.proofs.Left.{Decide, decide_first, decide_left, decide_next, decide_none, decide_right}
use Rattle.form_term.proofs.ReadBack.{end_of}
use Rattle.form_term.proofs.Ranks.{StartsIn, above, below, greater_differs, higher_last, is_above_zero, is_below_zero, is_higher, is_lower, less_differs, lists_compared, lists_start, lower_first, rank, starts_higher, starts_lower, then_assoc, wider}

decided : (o a b : Ordering) → o ≢ Equal → ordering_then o a ≡ ordering_then o b
decided o a b n = then_first o a n ∙ sym (then_first o b n)

-- ---- powers of symbols

abbrev power_piece : Bool → Power → Piece
power_piece b p = if b then pieces.Negative p else pieces.Positive (record { 0 = p.symbol }) p.exponent

earlier_symbol : (p q : Power) → p.symbol < q.symbol → 0 < nat_abs p.exponent → piece_order (piece_of_power p) (piece_of_power q) ≡ int_cmp p.exponent (pos 0)
earlier_symbol p q h there = by (is_negative p.exponent) refl (is_negative q.exponent)
  where
    by : (b : Bool) → is_negative p.exponent ≡ b → (c : Bool) → piece_order (power_piece b p) (power_piece c q) ≡ int_cmp p.exponent (pos 0)
    by true e true = ap (λ o. ordering_then o (int_cmp p.exponent q.exponent)) (is_lower p.symbol q.symbol h) ∙ sym (is_below_zero p.exponent e)
    by true e false = sym (is_below_zero p.exponent e)
    by false e true = sym (is_above_zero p.exponent e there)
    by false e false = ap (λ o. ordering_then o (int_cmp p.exponent q.exponent)) (is_higher q.symbol p.symbol h) ∙ sym (is_above_zero p.exponent e there)

same_symbol : (p q : Power) → p.symbol ≡ q.symbol → piece_order (piece_of_power p) (piece_of_power q) ≡ int_cmp p.exponent q.exponent
same_symbol p q same = by (is_negative p.exponent) refl (is_negative q.exponent) refl
  where
    by : (b : Bool) → is_negative p.exponent ≡ b → (c : Bool) → is_negative q.exponent ≡ c → piece_order (power_piece b p) (power_piece c q) ≡ int_cmp p.exponent q.exponent
    by true e true f = ap (λ o. ordering_then o (int_cmp p.exponent q.exponent)) (sym (nat_cmp_is p.symbol q.symbol Equal same))
    by true e false f = sym (below p.exponent q.exponent e f)
    by false e true f = sym (above p.exponent q.exponent e f)
    by false e false f = ap (λ o. ordering_then o (int_cmp p.exponent q.exponent)) (sym (nat_cmp_is q.symbol p.symbol Equal (sym same)))

-- two powers compare as their pieces
power_pieces : (p q : Power) → 0 < nat_abs p.exponent → 0 < nat_abs q.exponent → piece_order (piece_of_power p) (piece_of_power q) ≡ symbols_order (p ∷ []) (q ∷ [])
power_pieces p q there other = elim (cases_order p.symbol q.symbol) [
  | inl same ↦ same_symbol p q same ∙ sym (single_same p q same)
  | inr (inl lower) ↦ earlier_symbol p q lower there ∙ sym (single_less p q lower there)
  | inr (inr higher) ↦ pieces_total.antisymm (piece_of_power p) (piece_of_power q) ∙ ap ordering_reverse (earlier_symbol q p higher other ∙ sym (single_less q p higher other)) ∙ sym (symbols_order_total.antisymm (p ∷ []) (q ∷ []))
]

-- a power compares with what stands behind powers as with exponent 0
power_before : (p : Power) (q : Piece) → 0 < nat_abs p.exponent → 3 ≤ rank q → rank q < 10 → piece_order (piece_of_power p) q ≡ int_cmp p.exponent (pos 0)
power_before p q there low high = by (is_negative p.exponent) refl
  where
    by : (b : Bool) → is_negative p.exponent ≡ b → piece_order (power_piece b p) q ≡ int_cmp p.exponent (pos 0)
    by true e = let h : 2 < rank q = omega (arith, low) in lower_first (pieces.Negative p) q h ∙ sym (is_below_zero p.exponent e)
    by false e = higher_last (pieces.Positive (record { 0 = p.symbol }) p.exponent) q high ∙ sym (is_above_zero p.exponent e there)

behind_power : (q : Piece) (p : Power) → 0 < nat_abs p.exponent → 3 ≤ rank q → rank q < 10 → piece_order q (piece_of_power p) ≡ int_cmp (pos 0) p.exponent
behind_power q p there low high = pieces_total.antisymm q (piece_of_power p) ∙ ap ordering_reverse (power_before p q there low high) ∙ sym (int_cmp_total.antisymm (pos 0) p.exponent)

module _ (left right : List Power) (r s : List Piece) (p : StartsIn 3 10 r) (q : StartsIn 3 10 s) where
  abbrev rest : Ordering
  rest = slice_cmp piece_order r s

  abbrev one_more : Ordering → Ordering
  one_more o = ordering_then o rest

  abbrev behind : List Power → List Power → Ordering
  behind ps qs = slice_cmp piece_order (map piece_of_power ps ++ r) (map piece_of_power qs ++ s)

  left_powers : (ps qs : List Power) → Decide left right ps qs → slice_cmp piece_order (map piece_of_power ps ++ r) (map piece_of_power qs ++ s) ≡ one_more (symbols_order left right)
  left_powers [] [] d = sym (then_next (symbols_order left right) rest (decide_none left right d))
  left_powers (x ∷ xs) [] d =
      let there : 0 < nat_abs x.exponent = All-head (λ (p : Power). 0 < nat_abs p.exponent) x xs d.left_present in
      ap (λ zs. slice_cmp piece_order (piece_of_power x ∷ (map piece_of_power xs ++ r)) zs) q.is
      ∙ ap (λ o. ordering_then o (slice_cmp piece_order (map piece_of_power xs ++ r) q.more)) (power_before x q.first there q.from q.to)
      ∙ decided (int_cmp x.exponent (pos 0)) (slice_cmp piece_order (map piece_of_power xs ++ r) q.more) rest (differs x.exponent there)
      ∙ ap one_more (sym (decide_left left right x xs d))
  left_powers [] (y ∷ ys) d =
      let there : 0 < nat_abs y.exponent = All-head (λ (p : Power). 0 < nat_abs p.exponent) y ys d.right_present in
      ap (λ zs. slice_cmp piece_order zs (piece_of_power y ∷ (map piece_of_power ys ++ s))) p.is
      ∙ ap (λ o. ordering_then o (slice_cmp piece_order p.more (map piece_of_power ys ++ s))) (behind_power p.first y there p.from p.to)
      ∙ decided (int_cmp (pos 0) y.exponent) (slice_cmp piece_order p.more (map piece_of_power ys ++ s)) rest (differs_back y.exponent there)
      ∙ ap one_more (sym (decide_right left right y ys d))
  left_powers (x ∷ xs) (y ∷ ys) d =
      let there : 0 < nat_abs x.exponent = All-head (λ (p : Power). 0 < nat_abs p.exponent) x xs d.left_present in
      let other : 0 < nat_abs y.exponent = All-head (λ (p : Power). 0 < nat_abs p.exponent) y ys d.right_present in
      ap (λ o. ordering_then o (behind xs ys)) (power_pieces x y there other) ∙ by (symbols_order (x ∷ []) (y ∷ [])) refl (λ e. left_powers xs ys (decide_next left right x xs y ys d e))
    where
      first : symbols_order (x ∷ []) (y ∷ []) ≢ Equal → ordering_then (symbols_order (x ∷ []) (y ∷ [])) (behind xs ys) ≡ one_more (symbols_order left right)
      first differ = decided (symbols_order (x ∷ []) (y ∷ [])) (behind xs ys) rest differ ∙ ap one_more (sym (decide_first left right x xs y ys d differ))

      by : (o : Ordering) → symbols_order (x ∷ []) (y ∷ []) ≡ o → (symbols_order (x ∷ []) (y ∷ []) ≡ Equal → (behind xs ys) ≡ one_more (symbols_order left right)) → ordering_then (symbols_order (x ∷ []) (y ∷ [])) (behind xs ys) ≡ one_more (symbols_order left right)
      by Less e next = first (less_differs (symbols_order (x ∷ []) (y ∷ [])) e)
      by Equal e next = then_next (symbols_order (x ∷ []) (y ∷ [])) (behind xs ys) e ∙ next e
      by Greater e next = first (greater_differs (symbols_order (x ∷ []) (y ∷ [])) e)

-- ---- dot products

dot_head : (d : DotPower) (q : Piece) → 4 ≤ rank q → rank q < 9 → piece_order (piece_of_dot d) q ≡ piece_order (piece_of_dot d) end_of_term
dot_head d q low high = by (is_negative d.exponent)
  where
    by : (b : Bool) → piece_order (if b then pieces.NegativeDot d else pieces.PositiveDot (record { 0 = d.left }) (record { 0 = d.right }) d.exponent) q ≡ piece_order (if b then pieces.NegativeDot d else pieces.PositiveDot (record { 0 = d.left }) (record { 0 = d.right }) d.exponent) end_of_term
    by true = let h : 3 < rank q = omega (arith, low) in lower_first (pieces.NegativeDot d) q h
    by false = higher_last (pieces.PositiveDot (record { 0 = d.left }) (record { 0 = d.right }) d.exponent) q high

head_dot : (q : Piece) (d : DotPower) → 4 ≤ rank q → rank q < 9 → piece_order q (piece_of_dot d) ≡ piece_order end_of_term (piece_of_dot d)
head_dot q d low high = pieces_total.antisymm q (piece_of_dot d) ∙ ap ordering_reverse (dot_head d q low high) ∙ sym (pieces_total.antisymm end_of_term (piece_of_dot d))

dots_compared : (ds es : List DotPower) (r s : List Piece) → StartsIn 4 9 r → StartsIn 4 9 s → slice_cmp piece_order (map piece_of_dot ds ++ r) (map piece_of_dot es ++ s) ≡ ordering_then (dots_order ds es) (slice_cmp piece_order r s)
dots_compared [] [] r s p q = sym (then_next (dots_order [] []) (slice_cmp piece_order r s) (tied_itself dots_order_total []))
dots_compared (d ∷ ds) [] r s p q =
    ap (λ zs. slice_cmp piece_order (piece_of_dot d ∷ (map piece_of_dot ds ++ r)) zs) q.is
    ∙ ap (λ o. ordering_then o (slice_cmp piece_order (map piece_of_dot ds ++ r) q.more)) (dot_head d q.first q.from q.to)
    ∙ decided (piece_order (piece_of_dot d) end_of_term) (slice_cmp piece_order (map piece_of_dot ds ++ r) q.more) (slice_cmp piece_order r s) (dot_before_end d)
    ∙ ap (λ o. ordering_then o (slice_cmp piece_order r s)) (sym (dots_left d ds))
dots_compared [] (e ∷ es) r s p q =
    ap (λ zs. slice_cmp piece_order zs (piece_of_dot e ∷ (map piece_of_dot es ++ s))) p.is
    ∙ ap (λ o. ordering_then o (slice_cmp piece_order p.more (map piece_of_dot es ++ s))) (head_dot p.first e p.from p.to)
    ∙ decided (piece_order end_of_term (piece_of_dot e)) (slice_cmp piece_order p.more (map piece_of_dot es ++ s)) (slice_cmp piece_order r s) (end_before_dot e)
    ∙ ap (λ o. ordering_then o (slice_cmp piece_order r s)) (sym (dots_right e es))
dots_compared (d ∷ ds) (e ∷ es) r s p q =
    ap (ordering_then (piece_order (piece_of_dot d) (piece_of_dot e))) (dots_compared ds es r s p q)
    ∙ sym (then_assoc (piece_order (piece_of_dot d) (piece_of_dot e)) (dots_order ds es) (slice_cmp piece_order r s))

dot_rank : (d : DotPower) → (3 ≤ rank (piece_of_dot d)) × (rank (piece_of_dot d) < 10)
dot_rank d = by (is_negative d.exponent)
  where
    by : (b : Bool) → (3 ≤ rank (if b then pieces.NegativeDot d else pieces.PositiveDot (record { 0 = d.left }) (record { 0 = d.right }) d.exponent)) × (rank (if b then pieces.NegativeDot d else pieces.PositiveDot (record { 0 = d.left }) (record { 0 = d.right }) d.exponent) < 10)
    by true = (omega arith, omega arith)
    by false = (omega arith, omega arith)

dots_start : (ds : List DotPower) (r : List Piece) → StartsIn 4 9 r → StartsIn 3 10 (map piece_of_dot ds ++ r)
dots_start [] r p = wider r (omega arith) (omega arith) p
dots_start (d ∷ ds) r p = record { first = piece_of_dot d; more = map piece_of_dot ds ++ r; is = refl; from = (dot_rank d).0; to = (dot_rank d).1 }

power_rank : (p : Power) → (2 ≤ rank (piece_of_power p)) × (rank (piece_of_power p) < 11)
power_rank p = by (is_negative p.exponent)
  where
    by : (b : Bool) → (2 ≤ rank (power_piece b p)) × (rank (power_piece b p) < 11)
    by true = (omega arith, omega arith)
    by false = (omega arith, omega arith)

powers_start : (ps : List Power) (r : List Piece) → StartsIn 3 10 r → StartsIn 2 11 (map piece_of_power ps ++ r)
powers_start [] r p = wider r (omega arith) (omega arith) p
powers_start (x ∷ xs) r p = record { first = piece_of_power x; more = map piece_of_power xs ++ r; is = refl; from = (power_rank x).0; to = (power_rank x).1 }

-- ---- components and deltas

module _ {A : Type 0} (R : A → A → Ordering) (piece : A → Piece) (n : ℕ) (ranked : (x : A) → rank (piece x) ≡ n) (compared : (x y : A) → piece_order (piece x) (piece y) ≡ R x y) where
  alone_start : (x : A) (more : List Piece) → StartsIn n (suc n) (piece x ∷ more)
  alone_start x more = record { first = piece x; more = more; is = refl; from = omega (arith, ranked x); to = omega (arith, ranked x) }

  mapped_compared : (xs ys : List A) (r s : List Piece) → StartsIn 4 n r → StartsIn 4 n s → slice_cmp piece_order (map piece xs ++ r) (map piece ys ++ s) ≡ ordering_then (slice_cmp R xs ys) (slice_cmp piece_order r s)
  mapped_compared [] [] r s p q = refl
  mapped_compared [] (y ∷ ys) r s p q = starts_lower r (piece y ∷ (map piece ys ++ s)) p (alone_start y (map piece ys ++ s))
  mapped_compared (x ∷ xs) [] r s p q = starts_higher (piece x ∷ (map piece xs ++ r)) s (alone_start x (map piece xs ++ r)) q
  mapped_compared (x ∷ xs) (y ∷ ys) r s p q =
      ap (λ o. ordering_then o (slice_cmp piece_order (map piece xs ++ r) (map piece ys ++ s))) (compared x y)
      ∙ ap (ordering_then (R x y)) (mapped_compared xs ys r s p q)
      ∙ sym (then_assoc (R x y) (slice_cmp R xs ys) (slice_cmp piece_order r s))

  mapped_start : (xs : List A) (r : List Piece) → StartsIn 4 n r → 4 ≤ n → StartsIn 4 (suc n) (map piece xs ++ r)
  mapped_start [] r p l = wider r (omega arith) (omega arith) p
  mapped_start (x ∷ xs) r p l = wider (piece x ∷ (map piece xs ++ r)) l (omega arith) (alone_start x (map piece xs ++ r))

-- ---- functions

function_start : (c : Call) → IsCall c → (rest : List Piece) → StartsIn 6 7 (pieces_of_call pieces.Function c ++ rest)
function_start c h rest = record { first = pieces.Function c.function; more = (c.pieces ++ pieces.EndOfArguments ∷ []) ++ rest; is = refl; from = omega arith; to = omega arith }

letter_start : (c : Call) → IsCall c → (rest : List Piece) → StartsIn 5 6 (pieces_of_call pieces.NonCommuting c ++ rest)
letter_start c h rest = record { first = pieces.NonCommuting c.function; more = (c.pieces ++ pieces.EndOfArguments ∷ []) ++ rest; is = refl; from = omega arith; to = omega arith }

-- ---- `i_`

abbrev imaginary_pieces : Bool → List Piece
imaginary_pieces b = if b then pieces.Imaginary ∷ [] else []

imaginary_first : (r : List Piece) → StartsIn 11 12 (pieces.Imaginary ∷ r)
imaginary_first r = record { first = pieces.Imaginary; more = r; is = refl; from = omega arith; to = omega arith }

imaginary_compared : (b c : Bool) (r s : List Piece) → StartsIn 2 11 r → StartsIn 2 11 s → slice_cmp piece_order (imaginary_pieces b ++ r) (imaginary_pieces c ++ s) ≡ ordering_then (nat_cmp (if b then 1 else 0) (if c then 1 else 0)) (slice_cmp piece_order r s)
imaginary_compared true true r s p q = refl
imaginary_compared true false r s p q = starts_higher (pieces.Imaginary ∷ r) s (imaginary_first r) q
imaginary_compared false true r s p q = starts_lower r (pieces.Imaginary ∷ s) p (imaginary_first s)
imaginary_compared false false r s p q = refl

imaginary_start : (b : Bool) (r : List Piece) → StartsIn 2 11 r → StartsIn 2 12 (imaginary_pieces b ++ r)
imaginary_start true r p = wider (pieces.Imaginary ∷ r) (omega arith) (omega arith) (imaginary_first r)
imaginary_start false r p = wider r (omega arith) (omega arith) p

-- ---- terms

abbrev word_of : Term → List Piece → List Piece
word_of t r = flat_map (pieces_of_call pieces.NonCommuting) t.others.word ++ r

abbrev functions_of : Term → List Piece → List Piece
functions_of t r = flat_map (pieces_of_call pieces.Function) t.others.functions ++ word_of t r

abbrev deltas_of : Term → List Piece → List Piece
deltas_of t r = map pieces.Delta t.others.deltas ++ functions_of t r

abbrev components_of : Term → List Piece → List Piece
components_of t r = map pieces.Component t.others.components ++ deltas_of t r

abbrev dots_of : Term → List Piece → List Piece
dots_of t r = map piece_of_dot t.others.dots ++ components_of t r

abbrev powers_of : Term → List Piece → List Piece
powers_of t r = map piece_of_power t.symbols ++ dots_of t r

in_a_row : (t : Term) (r : List Piece) → pieces_of_term t ++ r ≡ imaginary_pieces t.others.is_imaginary ++ powers_of t r
in_a_row t r = regroup (imaginary_pieces t.others.is_imaginary) (map piece_of_power t.symbols) (map piece_of_dot t.others.dots) (map pieces.Component t.others.components) (map pieces.Delta t.others.deltas) (flat_map (pieces_of_call pieces.Function) t.others.functions) (flat_map (pieces_of_call pieces.NonCommuting) t.others.word)
  where
    regroup : (a b c d e f g : List Piece) → (a ++ b ++ c ++ d ++ e ++ f ++ g) ++ r ≡ a ++ (b ++ (c ++ (d ++ (e ++ (f ++ (g ++ r))))))
    regroup a b c d e f g = simp append_assoc

-- what the lists of a term begin with, where a term's end is behind them
record Starting (t : Term) (r : List Piece) : Type 0 where
  word : StartsIn 4 6 (word_of t r)
  functions : StartsIn 4 7 (functions_of t r)
  deltas : StartsIn 4 8 (deltas_of t r)
  components : StartsIn 4 9 (components_of t r)
  dots : StartsIn 3 10 (dots_of t r)
  powers : StartsIn 2 11 (powers_of t r)

starting : (t : Term) (r : List Piece) → IsTerm t → StartsIn 4 5 r → Starting t r
starting t r h p =
    let in_word = lists_start call_order IsCall (pieces_of_call pieces.NonCommuting) letter_start (λ c d i j r s. letters_compared c d i j r s) t.others.word (recursion_from_All IsCall t.others.word h.others.word) r p (omega arith) (omega arith) in
    let in_functions = lists_start call_order IsCall (pieces_of_call pieces.Function) function_start (λ c d i j r s. functions_compared c d i j r s) t.others.functions (recursion_from_All IsCall t.others.functions h.others.functions) (word_of t r) in_word (omega arith) (omega arith) in
    let in_deltas = mapped_start delta_order pieces.Delta 7 (λ d. refl) (λ c d. refl) t.others.deltas (functions_of t r) in_functions (omega arith) in
    let in_components = mapped_start component_order pieces.Component 8 (λ d. refl) (λ c d. refl) t.others.components (deltas_of t r) in_deltas (omega arith) in
    let in_dots = dots_start t.others.dots (components_of t r) in_components in
    record { word = in_word; functions = in_functions; deltas = in_deltas; components = in_components; dots = in_dots; powers = powers_start t.symbols (dots_of t r) in_dots }

term_start : (t : Term) (r : List Piece) → IsTerm t → StartsIn 4 5 r → StartsIn 2 12 (pieces_of_term t ++ r)
term_start t r h p =
    let s = imaginary_start t.others.is_imaginary (powers_of t r) (starting t r h p).powers in
    record { first = s.first; more = s.more; is = in_a_row t r ∙ s.is; from = s.from; to = s.to }

nested : (a b c d e f g z : Ordering) → ordering_then (ordering_then a (ordering_then b (ordering_then c (ordering_then d (ordering_then e (ordering_then f g)))))) z ≡ ordering_then a (ordering_then b (ordering_then c (ordering_then d (ordering_then e (ordering_then f (ordering_then g z))))))
nested a b c d e f g z =
    then_assoc a (ordering_then b (ordering_then c (ordering_then d (ordering_then e (ordering_then f g))))) z
    ∙ ap (ordering_then a) (then_assoc b (ordering_then c (ordering_then d (ordering_then e (ordering_then f g)))) z
    ∙ ap (ordering_then b) (then_assoc c (ordering_then d (ordering_then e (ordering_then f g))) z
    ∙ ap (ordering_then c) (then_assoc d (ordering_then e (ordering_then f g)) z
    ∙ ap (ordering_then d) (then_assoc e (ordering_then f g) z
    ∙ ap (ordering_then e) (then_assoc f g z)))))

terms_compared : (t u : Term) → IsTerm t → IsTerm u → (r s : List Piece) → StartsIn 4 5 r → StartsIn 4 5 s → slice_cmp piece_order (pieces_of_term t ++ r) (pieces_of_term u ++ s) ≡ ordering_then (order t u) (slice_cmp piece_order r s)
unfolding order
terms_compared t u h k r s p q =
    let ts = starting t r h p in
    let us = starting u s k q in
    let at_word = lists_compared call_order IsCall (pieces_of_call pieces.NonCommuting) letter_start (λ c d i j r s. letters_compared c d i j r s) t.others.word u.others.word (recursion_from_All IsCall t.others.word h.others.word) (recursion_from_All IsCall u.others.word k.others.word) r s p q in
    let at_functions = lists_compared call_order IsCall (pieces_of_call pieces.Function) function_start (λ c d i j r s. functions_compared c d i j r s) t.others.functions u.others.functions (recursion_from_All IsCall t.others.functions h.others.functions) (recursion_from_All IsCall u.others.functions k.others.functions) (word_of t r) (word_of u s) ts.word us.word in
    let at_deltas = mapped_compared delta_order pieces.Delta 7 (λ d. refl) (λ c d. refl) t.others.deltas u.others.deltas (functions_of t r) (functions_of u s) ts.functions us.functions in
    let at_components = mapped_compared component_order pieces.Component 8 (λ d. refl) (λ c d. refl) t.others.components u.others.components (deltas_of t r) (deltas_of u s) ts.deltas us.deltas in
    let at_dots = dots_compared t.others.dots u.others.dots (components_of t r) (components_of u s) ts.components us.components in
    let begun : Decide t.symbols u.symbols t.symbols u.symbols = record { order = refl; left_rise = h.rising; right_rise = k.rising; left_present = h.present; right_present = k.present } in
    let at_powers = left_powers t.symbols u.symbols (dots_of t r) (dots_of u s) ts.dots us.dots t.symbols u.symbols begun in
    let at_imaginary = imaginary_compared t.others.is_imaginary u.others.is_imaginary (powers_of t r) (powers_of u s) ts.powers us.powers in
    let a : Ordering = nat_cmp (imaginary_exponent t) (imaginary_exponent u) in
    let b : Ordering = symbols_order t.symbols u.symbols in
    let c : Ordering = dots_order t.others.dots u.others.dots in
    let d : Ordering = slice_cmp component_order t.others.components u.others.components in
    let e : Ordering = slice_cmp delta_order t.others.deltas u.others.deltas in
    let f : Ordering = slice_cmp call_order t.others.functions u.others.functions in
    let g : Ordering = slice_cmp call_order t.others.word u.others.word in
    ap (λ xs. slice_cmp piece_order xs (pieces_of_term u ++ s)) (in_a_row t r)
    ∙ ap (λ ys. slice_cmp piece_order (imaginary_pieces t.others.is_imaginary ++ powers_of t r) ys) (in_a_row u s)
    ∙ at_imaginary
    ∙ ap (ordering_then a) (at_powers ∙ ap (ordering_then b) (at_dots ∙ ap (ordering_then c) (at_components ∙ ap (ordering_then d) (at_deltas ∙ ap (ordering_then e) (at_functions ∙ ap (ordering_then f) at_word)))))
    ∙ sym (nested a b c d e f g (slice_cmp piece_order r s))

-- ---- arguments

ends : (x : Summand) (r : List Piece) → StartsIn 4 5 (end_of x ∷ r)
ends x r = record { first = end_of x; more = r; is = refl; from = omega arith; to = omega arith }

abbrev IsLawful : Summand → Type 0
IsLawful x = IsTerm x.term

summand_start : (x : Summand) → IsLawful x → (rest : List Piece) → StartsIn 2 12 (pieces_of_summand x ++ rest)
summand_start x h rest =
    let s = term_start x.term (end_of x ∷ rest) h (ends x rest) in
    record { first = s.first; more = s.more; is = append_assoc (pieces_of_term x.term) (end_of x ∷ []) rest ∙ s.is; from = s.from; to = s.to }

summand_compared : (x y : Summand) → IsLawful x → IsLawful y → (r s : List Piece) → slice_cmp piece_order (pieces_of_summand x ++ r) (pieces_of_summand y ++ s) ≡ ordering_then (summand_order x y) (slice_cmp piece_order r s)
summand_compared x y h k r s =
    ap (λ zs. slice_cmp piece_order zs (pieces_of_summand y ++ s)) (append_assoc (pieces_of_term x.term) (end_of x ∷ []) r)
    ∙ ap (λ zs. slice_cmp piece_order (pieces_of_term x.term ++ end_of x ∷ r) zs) (append_assoc (pieces_of_term y.term) (end_of y ∷ []) s)
    ∙ terms_compared x.term y.term h k (end_of x ∷ r) (end_of y ∷ s) (ends x r) (ends y s)
    ∙ sym (then_assoc (order x.term y.term) (piece_order (end_of x) (end_of y)) (slice_cmp piece_order r s))

sum_ends : (r : List Piece) → StartsIn 1 2 (pieces.EndOfSum ∷ r)
sum_ends r = record { first = pieces.EndOfSum; more = r; is = refl; from = omega arith; to = omega arith }

argument_compared : (a b : Argument) → IsArgumentOf IsTerm a → IsArgumentOf IsTerm b → (r s : List Piece) → slice_cmp piece_order (pieces_of_argument a ++ r) (pieces_of_argument b ++ s) ≡ ordering_then (argument_order a b) (slice_cmp piece_order r s)
argument_compared (index i) (index j) h k r s = refl
argument_compared (index i) (vector w) h k r s = refl
argument_compared (index i) (expression ts) h k r s = refl
argument_compared (vector v) (index j) h k r s = refl
argument_compared (vector v) (vector w) h k r s = refl
argument_compared (vector v) (expression ts) h k r s = refl
argument_compared (expression ss) (index j) h k r s = refl
argument_compared (expression ss) (vector w) h k r s = refl
argument_compared (expression ss) (expression ts) h k r s =
    ap (λ zs. slice_cmp piece_order zs ((flat_map pieces_of_summand ts ++ pieces.EndOfSum ∷ []) ++ s)) (append_assoc (flat_map pieces_of_summand ss) (pieces.EndOfSum ∷ []) r)
    ∙ ap (λ zs. slice_cmp piece_order (flat_map pieces_of_summand ss ++ pieces.EndOfSum ∷ r) zs) (append_assoc (flat_map pieces_of_summand ts) (pieces.EndOfSum ∷ []) s)
    ∙ lists_compared summand_order IsLawful pieces_of_summand summand_start summand_compared ss ts (recursion_from_All IsLawful ss h.terms) (recursion_from_All IsLawful ts k.terms) (pieces.EndOfSum ∷ r) (pieces.EndOfSum ∷ s) (sum_ends r) (sum_ends s)

by_argument : (xs ys : List Argument) → AllByRecursion (IsArgumentOf IsTerm) xs → AllByRecursion (IsArgumentOf IsTerm) ys → slice_cmp piece_order (pieces_of_arguments xs) (pieces_of_arguments ys) ≡ slice_cmp argument_order xs ys
by_argument [] [] h k = refl
by_argument [] (index i ∷ ys) h k = refl
by_argument [] (vector v ∷ ys) h k = refl
by_argument [] (expression ss ∷ ys) h k = refl
by_argument (index i ∷ xs) [] h k = refl
by_argument (vector v ∷ xs) [] h k = refl
by_argument (expression ss ∷ xs) [] h k = refl
by_argument (x ∷ xs) (y ∷ ys) h k = argument_compared x y h.0 k.0 (pieces_of_arguments xs) (pieces_of_arguments ys) ∙ ap (ordering_then (argument_order x y)) (by_argument xs ys h.1 k.1)

-- Lawful arguments compare as their pieces.
pub arguments_compared : (xs ys : List Argument) → All (IsArgumentOf IsTerm) xs → All (IsArgumentOf IsTerm) ys → slice_cmp piece_order (pieces_of_arguments xs) (pieces_of_arguments ys) ≡ slice_cmp argument_order xs ys
arguments_compared xs ys h k = by_argument xs ys (recursion_from_All (IsArgumentOf IsTerm) xs h) (recursion_from_All (IsArgumentOf IsTerm) ys k)
