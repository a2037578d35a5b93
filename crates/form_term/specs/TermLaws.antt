-- The order of terms: total, and `Equal` only for equal terms.
use Rattle.std.proofs.Common.{◌≡◌, ◌≢◌, ℕ, Bool, true, false, cond, List, [], ◌∷◌, ◌++◌, map, length, refl, ap, sym, ◌∙◌, ◌↔◌, rules, arith}
use Rattle.std.specs.Prelude.{pos, ◌<◌, ◌≤◌, nat_abs, All, IsTrue, if◌then◌else◌}
use Rattle.std.specs.Int.{is_negative}
use Rattle.std.specs.Ordering.{nat_cmp, int_cmp, ordering_then, eq_by_cmp, is_gt}
use Rattle.std.specs.Cmp.{IsTotalOrder, IsEquivalence, Equal-is}
use Rattle.std.specs.Cmp.Lexicographic.{slice_cmp}
use Rattle.std.specs.List.Sorted.{IsStrictlySortedBy}
use Rattle.std.specs.declared.cmp.Ordering.{Ordering}
use Rattle.std.specs.declared.cmp.Ordering.TheVariants.{Less, Equal, Greater}
use Rattle.std.proofs.lemmas.Cmp.{lists_total, on_total, then_total, nat_cmp_total, tied_itself, eq_by_cmp_equiv, ranked, tied_back}
use Rattle.std.proofs.lemmas.Map.Lookups.{exact_signed}
use Rattle.std.proofs.lemmas.List.Elements.{All-nil, All-cons}
use Rattle.form_term.specs.declared.power.Power.{Power}
use Rattle.form_term.specs.declared.power.DotPower.{DotPower}
use Rattle.form_term.specs.declared.index.Index.{Index}
use Rattle.form_term.specs.declared.index.Index.TheVariants as indices
use Rattle.form_term.specs.declared.index.Component.{Component}
use Rattle.form_term.specs.declared.index.Delta.{Delta}
use Rattle.form_term.specs.declared.piece.Coefficient.{Coefficient}
use Rattle.form_term.specs.declared.piece.Piece.{Piece}
use Rattle.form_term.specs.declared.piece.Piece.TheVariants as pieces
use Rattle.form_term.specs.contracts.power.PowerOrd.TheImpl.Laws as power_laws
use Rattle.form_term.specs.contracts.power.PowerPartialEq.TheImpl as power_equality
use Rattle.form_term.specs.contracts.piece.CoefficientOrd.TheImpl.Laws as coefficient_laws
use Rattle.form_term.specs.contracts.piece.CoefficientPartialEq.TheImpl as coefficient_equality
use Rattle.form_term.specs.contracts.piece.PieceOrd.TheImpl.Laws as piece_laws
use Rattle.form_term.specs.contracts.piece.PiecePartialEq.TheImpl as piece_equality
use Rattle.form_term.specs.contracts.index.ComponentOrd.TheImpl.Laws as component_laws
use Rattle.form_term.specs.contracts.index.DeltaOrd.TheImpl.Laws as delta_laws
use Rattle.form_term.specs.Pieces.{piece_order, piece_of_dot}
use Rattle.form_term.specs.Term.{Term, Others, Call, IsTerm, order, symbols_order, dots_order, index_order, component_order, delta_order, call_order, others_order, imaginary_exponent, end_of_term, exponent_of, of_symbols, nothing, AreFactors, IsCall, normal_powers, largest_exponent, largest_size}
use Rattle.form_term.specs.SymbolLaws.{ArePowers, symbols_order_total, exponents_equal, powers_from_exponents, normal_same, first_difference, then_first}

pub pieces_total : IsTotalOrder piece_order
pieces_total = piece_laws.total-law

pub call_order_total : IsTotalOrder call_order
call_order_total = then_total (on_total (λ (c : Call). c.function) nat_cmp_total) (on_total (λ (c : Call). c.pieces) (lists_total pieces_total))

pub dots_order_total : IsTotalOrder dots_order
dots_order_total = on_total (λ (ds : List DotPower). map piece_of_dot ds ++ end_of_term ∷ []) (lists_total pieces_total)

pub component_order_total : IsTotalOrder component_order
component_order_total = component_laws.total-law

pub delta_order_total : IsTotalOrder delta_order
delta_order_total = delta_laws.total-law

pub others_order_total : IsTotalOrder others_order
others_order_total =
    then_total (on_total (λ (o : Others). o.dots) dots_order_total)
    (then_total (on_total (λ (o : Others). o.components) (lists_total component_order_total))
    (then_total (on_total (λ (o : Others). o.deltas) (lists_total delta_order_total))
    (then_total (on_total (λ (o : Others). o.functions) (lists_total call_order_total))
    (on_total (λ (o : Others). o.word) (lists_total call_order_total)))))

pub order_total : IsTotalOrder order
unfolding order
order_total =
    then_total (on_total imaginary_exponent nat_cmp_total)
    (then_total (on_total (λ (t : Term). t.symbols) symbols_order_total)
    (on_total (λ (t : Term). t.others) others_order_total))

-- both parts of an order compare equal
pub both_equal : (r s : Ordering) → ordering_then r s ≡ Equal → (r ≡ Equal) × (s ≡ Equal)
both_equal Less s e = cc
both_equal Equal s e = (refl, e)
both_equal Greater s e = cc

pub numbers_equal : (m n : ℕ) → nat_cmp m n ≡ Equal → m ≡ n
numbers_equal m n e = ranked m n Equal (sym e)

pub lists_equal : {K : Type 0} (R : K → K → Ordering) → ((x y : K) → R x y ≡ Equal → x ≡ y) → (xs ys : List K) → slice_cmp R xs ys ≡ Equal → xs ≡ ys
lists_equal R exact [] [] e = refl
lists_equal R exact [] (y ∷ ys) e = cc
lists_equal R exact (x ∷ xs) [] e = cc
lists_equal R exact (x ∷ xs) (y ∷ ys) e =
    let both = both_equal (R x y) (slice_cmp R xs ys) e in
    let first = exact x y both.0 in
    let rest = lists_equal R exact xs ys both.1 in
    rw (first, rest) refl

powers_equal : (p q : Power) → piece_order (pieces.Negative p) (pieces.Negative q) ≡ Equal → p ≡ q
powers_equal p q e =
    let both = both_equal (nat_cmp p.symbol q.symbol) (int_cmp p.exponent q.exponent) e in
    let symbols = numbers_equal p.symbol q.symbol both.0 in
    let exponents = exact_signed p.exponent q.exponent both.1 in
    λ i. record { symbol = symbols i; exponent = exponents i }

dot_powers_equal : (d e : DotPower) → piece_order (pieces.NegativeDot d) (pieces.NegativeDot e) ≡ Equal → d ≡ e
dot_powers_equal d e h =
    let first = both_equal (nat_cmp d.left e.left) (ordering_then (nat_cmp d.right e.right) (int_cmp d.exponent e.exponent)) h in
    let second = both_equal (nat_cmp d.right e.right) (int_cmp d.exponent e.exponent) first.1 in
    let lefts = numbers_equal d.left e.left first.0 in
    let rights = numbers_equal d.right e.right second.0 in
    let exponents = exact_signed d.exponent e.exponent second.1 in
    λ i. record { left = lefts i; right = rights i; exponent = exponents i }

coefficients_equal : (c d : Coefficient) → piece_order (pieces.EndOfTerm c) (pieces.EndOfTerm d) ≡ Equal → c ≡ d
coefficients_equal c d e =
    let both = both_equal (int_cmp c.numerator d.numerator) (nat_cmp c.denominator d.denominator) e in
    let above = exact_signed c.numerator d.numerator both.0 in
    let below = numbers_equal c.denominator d.denominator both.1 in
    λ i. record { numerator = above i; denominator = below i }

pub indices_equal : (i j : Index) → index_order i j ≡ Equal → i ≡ j
indices_equal (indices.Fixed m) (indices.Fixed n) e = ap indices.Fixed (numbers_equal m n e)
indices_equal (indices.Declared m) (indices.Declared n) e = ap indices.Declared (numbers_equal m n e)
indices_equal (indices.Dummy m) (indices.Dummy n) e = ap indices.Dummy (numbers_equal m n e)
indices_equal i j e = cc

pub components_equal : (c d : Component) → component_order c d ≡ Equal → c ≡ d
components_equal c d e =
    let both = both_equal (nat_cmp c.vector d.vector) (index_order c.index d.index) e in
    let vectors = numbers_equal c.vector d.vector both.0 in
    let indices = indices_equal c.index d.index both.1 in
    λ i. record { vector = vectors i; index = indices i }

pub deltas_equal : (c d : Delta) → delta_order c d ≡ Equal → c ≡ d
deltas_equal c d e =
    let both = both_equal (index_order c.first d.first) (index_order c.second d.second) e in
    let firsts = indices_equal c.first d.first both.0 in
    let seconds = indices_equal c.second d.second both.1 in
    λ i. record { first = firsts i; second = seconds i }

-- only equal pieces compare equal
pub pieces_equal : (p q : Piece) → piece_order p q ≡ Equal → p ≡ q
pieces_equal pieces.EndOfArguments pieces.EndOfArguments e = refl
pieces_equal pieces.EndOfSum pieces.EndOfSum e = refl
pieces_equal (pieces.Negative p) (pieces.Negative q) e = ap pieces.Negative (powers_equal p q e)
pieces_equal (pieces.NegativeDot p) (pieces.NegativeDot q) e = ap pieces.NegativeDot (dot_powers_equal p q e)
pieces_equal (pieces.EndOfTerm c) (pieces.EndOfTerm d) e = ap pieces.EndOfTerm (coefficients_equal c d e)
pieces_equal (pieces.NonCommuting f) (pieces.NonCommuting g) e = ap pieces.NonCommuting (numbers_equal f g e)
pieces_equal (pieces.Function f) (pieces.Function g) e = ap pieces.Function (numbers_equal f g e)
pieces_equal (pieces.Delta c) (pieces.Delta d) e = ap pieces.Delta (deltas_equal c d e)
pieces_equal (pieces.Component c) (pieces.Component d) e = ap pieces.Component (components_equal c d e)
pieces_equal (pieces.PositiveDot p q x) (pieces.PositiveDot r s y) e =
    let first = both_equal (nat_cmp r.0 p.0) (ordering_then (nat_cmp s.0 q.0) (int_cmp x y)) e in
    let second = both_equal (nat_cmp s.0 q.0) (int_cmp x y) first.1 in
    let lefts = numbers_equal r.0 p.0 first.0 in
    let rights = numbers_equal s.0 q.0 second.0 in
    let exponents = exact_signed x y second.1 in
    λ i. pieces.PositiveDot (record { 0 = sym lefts i }) (record { 0 = sym rights i }) (exponents i)
pieces_equal (pieces.Positive p x) (pieces.Positive q y) e =
    let both = both_equal (nat_cmp q.0 p.0) (int_cmp x y) e in
    let symbols = numbers_equal q.0 p.0 both.0 in
    let exponents = exact_signed x y both.1 in
    λ i. pieces.Positive (record { 0 = sym symbols i }) (exponents i)
pieces_equal pieces.Imaginary pieces.Imaginary e = refl
pieces_equal (pieces.Index m) (pieces.Index n) e = ap pieces.Index (indices_equal m n e)
pieces_equal (pieces.Vector p) (pieces.Vector q) e = ap pieces.Vector (numbers_equal p q e)
pieces_equal pieces.Sum pieces.Sum e = refl
pieces_equal p q e = cc

-- only equal functions compare equal
pub calls_equal : (c d : Call) → call_order c d ≡ Equal → c ≡ d
calls_equal c d e =
    let both = both_equal (nat_cmp c.function d.function) (slice_cmp piece_order c.pieces d.pieces) e in
    let functions = numbers_equal c.function d.function both.0 in
    let arguments = lists_equal piece_order pieces_equal c.pieces d.pieces both.1 in
    λ i. record { function = functions i; pieces = arguments i }

-- a dot product from its piece
dot_from : Piece → DotPower
dot_from (pieces.NegativeDot d) = d
dot_from (pieces.PositiveDot p q x) = record { left = p.0; right = q.0; exponent = x }
dot_from p = record { left = 0; right = 0; exponent = pos 0 }

dot_again : (d : DotPower) → dot_from (piece_of_dot d) ≡ d
unfolding dot_from
dot_again d = step (is_negative d.exponent)
  where
    step : (b : Bool) → dot_from (cond b (pieces.NegativeDot d) (pieces.PositiveDot (record { 0 = d.left }) (record { 0 = d.right }) d.exponent)) ≡ d
    step true = refl
    step false = refl

-- no dot product is the end of a term
pub dot_before_end : (d : DotPower) → piece_order (piece_of_dot d) end_of_term ≢ Equal
dot_before_end d = step (is_negative d.exponent)
  where
    step : (b : Bool) → piece_order (cond b (pieces.NegativeDot d) (pieces.PositiveDot (record { 0 = d.left }) (record { 0 = d.right }) d.exponent)) end_of_term ≢ Equal
    step true = λ e. cc
    step false = λ e. cc

pub end_before_dot : (d : DotPower) → piece_order end_of_term (piece_of_dot d) ≢ Equal
end_before_dot d e = dot_before_end d (tied_back pieces_total end_of_term (piece_of_dot d) e)

-- only equal lists of dot products compare equal
pub dots_equal : (ds es : List DotPower) → dots_order ds es ≡ Equal → ds ≡ es
dots_equal [] [] e = refl
dots_equal [] (d ∷ ds) e = absurd (end_before_dot d (both_equal (piece_order end_of_term (piece_of_dot d)) (slice_cmp piece_order [] (map piece_of_dot ds ++ end_of_term ∷ [])) e).0)
dots_equal (d ∷ ds) [] e = absurd (dot_before_end d (both_equal (piece_order (piece_of_dot d) end_of_term) (slice_cmp piece_order (map piece_of_dot ds ++ end_of_term ∷ []) []) e).0)
dots_equal (d ∷ ds) (f ∷ fs) e =
    let both = both_equal (piece_order (piece_of_dot d) (piece_of_dot f)) (dots_order ds fs) e in
    let first : d ≡ f = sym (dot_again d) ∙ ap dot_from (pieces_equal (piece_of_dot d) (piece_of_dot f) both.0) ∙ dot_again f in
    let rest = dots_equal ds fs both.1 in
    λ i. first i ∷ rest i

imaginary_equal : (b c : Bool) → nat_cmp (if b then 1 else 0) (if c then 1 else 0) ≡ Equal → b ≡ c
imaginary_equal true true e = refl
imaginary_equal true false e = cc
imaginary_equal false true e = cc
imaginary_equal false false e = refl

-- What the parts of equal terms compare as.
record EqualParts (t u : Term) : Type 0 where
  imaginary : t.others.is_imaginary ≡ u.others.is_imaginary
  symbols : symbols_order t.symbols u.symbols ≡ Equal
  others : others_order t.others u.others ≡ Equal

equal_parts : (t u : Term) → order t u ≡ Equal → EqualParts t u
unfolding order
equal_parts t u e =
    let first = both_equal (nat_cmp (imaginary_exponent t) (imaginary_exponent u)) (ordering_then (symbols_order t.symbols u.symbols) (others_order t.others u.others)) e in
    let second = both_equal (symbols_order t.symbols u.symbols) (others_order t.others u.others) first.1 in
    record { imaginary = imaginary_equal t.others.is_imaginary u.others.is_imaginary first.0; symbols = second.0; others = second.1 }

-- only equal factors compare equal, `i_` apart
others_equal : (o p : Others) → o.is_imaginary ≡ p.is_imaginary → others_order o p ≡ Equal → o ≡ p
others_equal o p imaginary e =
    let first = both_equal (dots_order o.dots p.dots) (ordering_then (slice_cmp component_order o.components p.components) (ordering_then (slice_cmp delta_order o.deltas p.deltas) (ordering_then (slice_cmp call_order o.functions p.functions) (slice_cmp call_order o.word p.word)))) e in
    let second = both_equal (slice_cmp component_order o.components p.components) (ordering_then (slice_cmp delta_order o.deltas p.deltas) (ordering_then (slice_cmp call_order o.functions p.functions) (slice_cmp call_order o.word p.word))) first.1 in
    let third = both_equal (slice_cmp delta_order o.deltas p.deltas) (ordering_then (slice_cmp call_order o.functions p.functions) (slice_cmp call_order o.word p.word)) second.1 in
    let fourth = both_equal (slice_cmp call_order o.functions p.functions) (slice_cmp call_order o.word p.word) third.1 in
    let dots = dots_equal o.dots p.dots first.0 in
    let components = lists_equal component_order components_equal o.components p.components second.0 in
    let deltas = lists_equal delta_order deltas_equal o.deltas p.deltas third.0 in
    let functions = lists_equal call_order calls_equal o.functions p.functions fourth.0 in
    let word = lists_equal call_order calls_equal o.word p.word fourth.1 in
    λ i. record { is_imaginary = imaginary i; dots = dots i; components = components i; deltas = deltas i; functions = functions i; word = word i }

-- terms that the order doesn't tell apart have the same factors besides powers of symbols
pub same_others : (t u : Term) → order t u ≡ Equal → t.others ≡ u.others
same_others t u e = let parts = equal_parts t u e in others_equal t.others u.others parts.imaginary parts.others

-- terms that the order doesn't tell apart have the same exponents
pub same_exponents : (t u : Term) → order t u ≡ Equal → (symbol : ℕ) → exponent_of t symbol ≡ exponent_of u symbol
same_exponents t u e = exponents_equal t.symbols u.symbols (equal_parts t u e).symbols

-- terms with the same exponents and the same other factors are equal
pub term_from_exponents : (t u : Term) → IsTerm t → IsTerm u → ((symbol : ℕ) → exponent_of t symbol ≡ exponent_of u symbol) → t.others ≡ u.others → t ≡ u
term_from_exponents t u left right same others =
    let symbols = powers_from_exponents t.symbols u.symbols (left.rising, left.present) (right.rising, right.present) same in
    λ i. record { symbols = symbols i; others = others i }

-- only equal terms compare equal
pub equal_terms : (t u : Term) → IsTerm t → IsTerm u → order t u ≡ Equal → t ≡ u
equal_terms t u left right e = term_from_exponents t u left right (same_exponents t u e) (same_others t u e)

-- a term compares equal exactly with itself
pub equal_exactly : (t u : Term) → IsTerm t → IsTerm u → (order t u ≡ Equal) ↔ (t ≡ u)
equal_exactly t u left right = (equal_terms t u left right, λ e. rw e (tied_itself order_total u))

-- where `i_` decides
pub imaginary_decides : (t u : Term) → t.others.is_imaginary ≡ false → u.others.is_imaginary ≡ true → order t u ≡ Less
unfolding order
imaginary_decides t u e f = rw (e, f) refl

-- the first symbol whose exponents differ decides
pub symbols_decide : (t u : Term) (first : ℕ) → t.others.is_imaginary ≡ u.others.is_imaginary → ((symbol : ℕ) → symbol < first → exponent_of t symbol ≡ exponent_of u symbol) → int_cmp (exponent_of t first) (exponent_of u first) ≢ Equal
    → order t u ≡ int_cmp (exponent_of t first) (exponent_of u first)
unfolding order
symbols_decide t u first imaginary agree differ =
    let same : nat_cmp (imaginary_exponent t) (imaginary_exponent u) ≡ Equal = ap (λ (b : Bool). nat_cmp (if b then 1 else 0) (imaginary_exponent u)) imaginary ∙ tied_itself nat_cmp_total (imaginary_exponent u) in
    let is = first_difference t.symbols u.symbols first agree differ in
    rw (same, is) (then_first (int_cmp (exponent_of t first) (exponent_of u first)) (others_order t.others u.others) differ)

-- terms that the order doesn't tell apart are one
pub same_terms : IsEquivalence (eq_by_cmp order)
same_terms = eq_by_cmp_equiv order_total

true_from : {b : Bool} → IsTrue b → b ≡ true
true_from h = search rules

-- equal powers, coefficients and pieces are fed alike
pub powers_alike : {X : Type 0} (feed : Power → X) (p q : Power) → IsTrue (power_equality.ghosts.eq p q) → feed p ≡ feed q
powers_alike feed p q same = ap feed (powers_equal p q ((Equal-is (piece_order (pieces.Negative p) (pieces.Negative q))).0 (sym (power_laws.matches_eq-law p q) ∙ true_from same)))

pub coefficients_alike : {X : Type 0} (feed : Coefficient → X) (c d : Coefficient) → IsTrue (coefficient_equality.ghosts.eq c d) → feed c ≡ feed d
coefficients_alike feed c d same = ap feed (coefficients_equal c d ((Equal-is (piece_order (pieces.EndOfTerm c) (pieces.EndOfTerm d))).0 (sym (coefficient_laws.matches_eq-law c d) ∙ true_from same)))

pub pieces_alike : {X : Type 0} (feed : Piece → X) (p q : Piece) → IsTrue (piece_equality.ghosts.eq p q) → feed p ≡ feed q
pieces_alike feed p q same = ap feed (pieces_equal p q ((Equal-is (piece_order p q)).0 (sym (piece_laws.matches_eq-law p q) ∙ true_from same)))

-- equal functions are fed alike
pub calls_alike : {X : Type 0} (feed : Call → X) (c d : Call) → IsTrue (eq_by_cmp call_order c d) → feed c ≡ feed d
calls_alike feed c d same = ap feed (calls_equal c d ((Equal-is (call_order c d)).0 (true_from same)))

-- What holds without factors besides powers of symbols.
pub nothing_lawful : (IsFunction : Call → Type 0) → AreFactors IsFunction nothing
unfolding IsStrictlySortedBy
nothing_lawful IsFunction = record {
  dots_rise = tt;
  dots_present = All-nil (λ (d : DotPower). 0 < nat_abs d.exponent);
  dots_in_range = All-nil (λ (d : DotPower). nat_abs d.exponent ≤ largest_exponent);
  dots_turned = All-nil (λ (d : DotPower). d.left ≤ d.right);
  components_rise = tt;
  deltas_rise = tt;
  deltas_turned = All-nil (λ (d : Delta). is_gt (index_order d.first d.second) ≡ false);
  functions_rise = tt;
  functions = All-nil IsFunction;
  word = All-nil IsFunction;
}

-- A product of powers of symbols is a term.
pub symbols_lawful : (ps : List Power) → ArePowers ps → All (λ p. nat_abs p.exponent ≤ largest_exponent) ps → length ps ≤ largest_size → IsTerm (of_symbols ps)
symbols_lawful ps powers in_range small = record {
  rising = powers.0;
  present = powers.1;
  in_range = in_range;
  others = nothing_lawful IsCall;
  small = omega (arith, small);
  shallow = omega arith;
}

-- So is one of them, where its exponent isn't 0 and within its limit.
pub power_lawful : (p : Power) → 0 < nat_abs p.exponent → nat_abs p.exponent ≤ largest_exponent → IsTerm (of_symbols (p ∷ []))
power_lawful p there small = symbols_lawful (p ∷ []) ((omega arith, tt), All-cons (λ (p : Power). 0 < nat_abs p.exponent) p [] there (All-nil (λ (p : Power). 0 < nat_abs p.exponent)))
    (All-cons (λ (p : Power). nat_abs p.exponent ≤ largest_exponent) p [] small (All-nil (λ (p : Power). nat_abs p.exponent ≤ largest_exponent))) (omega arith)

-- equal terms are fed alike, by their exponents and their other factors
pub terms_alike : {X : Type 0} (feed : List Power → Others → X) (t u : Term) → IsTrue (eq_by_cmp order t u) → feed (normal_powers t.symbols) t.others ≡ feed (normal_powers u.symbols) u.others
terms_alike feed t u same =
    let e = (Equal-is (order t u)).0 (true_from same) in
    let symbols = normal_same t.symbols u.symbols (same_exponents t u e) in
    let others = same_others t u e in
    λ i. feed (symbols i) (others i)
