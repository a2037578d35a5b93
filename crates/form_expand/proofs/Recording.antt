-- The list of a right side has terms of expressions, and such as can be recorded where what stands and is bound can.
use Rattle.std.proofs.Common.{◌≡◌, ℕ, Bool, true, false, List, [], ◌∷◌, if◌then◌else◌, Option, Some, None, Result, Ok, IfOk, ℤ, pos, nat_abs, nat_le, refl, ◌∙◌}
use Rattle.std.specs.Prelude.{◌==◌}
use Rattle.std.specs.Int.{is_negative}
use Rattle.std.specs.List.{AllByRecursion}
use Rattle.std.proofs.lemmas.Option.{none-some}
use Rattle.form_base.specs.declared.cause.Cause.{Cause}
use Rattle.form_frac.specs.Fraction.{IsLowest, whole}
use Rattle.form_term.specs.declared.monomial.Monomial.{Monomial}
use Rattle.form_term.specs.Monomial.{unit, negated}
use Rattle.form_term.specs.Named.{Places, symbol_place, IsAt, IsPairNamed, IsSummand}
use Rattle.form_term.specs.Term as terms
use Rattle.form_term.specs.Term.{Term}
use Rattle.form_term.proofs.Each.{each_weaker, in_front, at_back}
use Rattle.form_bindings.specs.Named.{AreSoundBindings}
use Rattle.form_bindings.specs.Values.{value_of}
use Rattle.form_tree.specs.Tree as tree
use Rattle.form_tree.specs.Tree.{Sum, Product, Factor, Base, Arguments, Argument, link_of, exponent, pieces_of_sum, pieces_of_product, pieces_of_factor, pieces_of_base, pieces_of_arguments, pieces_of_argument}
use Rattle.form_tree.specs.declared.tree.Link.{Link}
use Rattle.form_tree.specs.declared.tree.Link.TheVariants as links
use Rattle.form_tree.specs.declared.tree.Piece.{Piece}
use Rattle.form_tree.specs.declared.tree.Piece.TheVariants as pieces
use Rattle.form_tree.specs.Placed.{function_place_of, IsPiecePlaced, ArePlaced, IsSumPlaced}
use Rattle.form_collect.specs.Collecting.{collected}
use Rattle.form_collect.proofs.Summands.{collected_summands, collected_terms}
use Rattle.form_normal.specs.Product.{product_of}
use Rattle.form_normal.specs.Recordable.{IsOwn, IsRecordable}
use Rattle.form_normal.proofs.Recordable.{own_with, product_of_summands, negated_summand, negated_recordable, unit_recordable}
use Rattle.form_expand.specs.declared.stored.Stored.{Stored}
use Rattle.form_expand.specs.Bound.{powered, turned_by, as_it_is, unless_refused, inverse, base_of, wild_list_by, wild_list, largest_power, number_exponent, number_raised, refused_power, exponent_in, to_exponent, power_in, with_power, raised}
use Rattle.form_expand.specs.Expanding.{list_of_sum, list_of_product, list_of_factor, list_of_raised, arguments_of, arguments_in}
use Rattle.form_expand.specs.Listing.{Listing, single, followed, pairs, powers, signed}
use Rattle.form_expand.specs.Meanings.{Meanings, of_stored, terms_of, index_of, vector_of, component_of, function_of, terms_bound}
use Rattle.form_expand.specs.Numbers.{number_list, symbol_list}
use Rattle.form_expand.specs.Singles.{once, imaginary_list, dot_list, component_list, delta_list, function_list, argument_of}
use Rattle.form_expand.specs.Sound.{AreSummands, AreRecordable, IsRecordableStored, AreSoundMeanings}
use Rattle.form_expand.proofs.Listed.{AreOf, in_limit, in_followed, in_signed, in_pairs, in_powers}
use Rattle.form_expand.proofs.Meant.{index_named, vector_named, component_named, function_place_kept, field_sound, bound_summands, stored_each}
use Rattle.form_expand.proofs.Singled.{AreSound, number_listed, symbol_listed, imaginary_listed, component_listed, delta_listed, dot_listed, function_listed, argument_sound, one_sound, with_sound, inverse_listed}

-- a number to a power, by whether that is in its limit
abbrev number_by : ℕ → Bool → ℤ → Bool → Listing × ℕ
number_by n is_over k b = if b then (number_list n (number_exponent n is_over k), 1) else refused_power

-- a bound symbol to a power, by whether that is 0
abbrev bound_by : Bool → ℤ → List Monomial → Bool → Listing × ℕ
bound_by is_over k ms b = if b then (single unit, 1) else (base_of is_over (is_negative k) ms, nat_abs k)

-- What is asked of terms: it holds of what can be recorded, and implies that they are terms of expressions.
record IsBetween (names : Places) (Q : Monomial → Type 0) : Type 0 where
  above : (m : Monomial) → Q m → IsSummand names m
  below : (m : Monomial) → IsRecordable names m → Q m
  turned : (m : Monomial) → Q m → Q (negated m)

summands_between : (names : Places) → IsBetween names (IsSummand names)
summands_between names = record { above = λ m h. h; below = λ m h. h.summand; turned = negated_summand names }

recordable_between : (names : Places) → IsBetween names (IsRecordable names)
recordable_between names = record { above = λ m h. h.summand; below = λ m h. h; turned = negated_recordable names }

module _ (names : Places) (Q : Monomial → Type 0) (q : IsBetween names Q) (all : Meanings) (bindings : AreSoundBindings names all.bindings)
    (stored : AllByRecursion (λ (s : Stored). AllByRecursion Q s.terms) all.stored) (bound : (s : ℕ) (ms : List Monomial) → terms_bound all s ≡ Some ms → AllByRecursion Q ms) (max : ℕ) where
  record_of : (l : Listing) → AreRecordable names l → AreOf Q l
  record_of l h = each_weaker (IsRecordable names) Q q.below l.terms h

  summands_in : (l : Listing) → AreOf Q l → AreSummands names l
  summands_in l h = each_weaker Q (IsSummand names) q.above l.terms h

  products : (a b m : Monomial) → Q a → Q b → product_of a b ≡ Ok (Some m) → Q m
  products a b m h k e = q.below m (product_of_summands names a b m (q.above a h) (q.above b k) e)

  one : Q unit
  one = q.below unit (unit_recordable names)

  to_power : (l : Listing) (k : ℕ) → AreOf Q l → AreOf Q (powers max l k)
  to_power l k h = in_powers Q one products max l k h

  by_power : (f : Listing × ℕ) → AreOf Q f.0 → AreOf Q (powered max f)
  by_power f h = to_power f.0 f.1 h

  -- ---- wildcards, and powers that they stand for

  in_base : (is_over is_below : Bool) (ms : List Monomial) → AllByRecursion Q ms → AreOf Q (base_of is_over is_below ms)
  in_base false false ms h = h
  in_base true true ms h = by (inverse ms).end
    where
      by : (end : Option Cause) → AreOf Q (unless_refused end (as_it_is ms))
      by None = h
      by (Some cause) = tt
  in_base true false ms h = record_of (inverse ms) (inverse_listed names ms (each_weaker Q (IsSummand names) q.above ms h))
  in_base false true ms h = record_of (inverse ms) (inverse_listed names ms (each_weaker Q (IsSummand names) q.above ms h))

  wild_by : (s : ℕ) (is_over : Bool) (k : ℤ) → IsAt symbol_place names s → (o : Option (List Monomial)) → terms_bound all s ≡ o → AreOf Q ((wild_list_by s is_over k o).0)
  wild_by s is_over k h None e = record_of (symbol_list s (turned_by is_over k)) (symbol_listed names s (turned_by is_over k) h)
  wild_by s is_over k h (Some ms) e = by (nat_abs k == 0)
    where
      by : (b : Bool) → AreOf Q ((bound_by is_over k ms b).0)
      by true = (one, tt)
      by false = in_base is_over (is_negative k) ms (bound s ms e)

  in_wild : (s : ℕ) (is_over : Bool) (k : ℤ) → IsAt symbol_place names s → AreOf Q ((wild_list all s is_over k).0)
  unfolding wild_list
  in_wild s is_over k h = wild_by s is_over k h (terms_bound all s) refl

  in_exponent : (list : ℤ → Listing × ℕ) (o : Option ℤ) → ((k : ℤ) → AreOf Q ((list k).0)) → AreOf Q ((to_exponent list o).0)
  in_exponent list None h = tt
  in_exponent list (Some k) h = h k

  with_exponent : (l : Listing) (o : Option ℕ) → AreOf Q l → AreOf Q ((with_power l o).0)
  with_exponent l None h = tt
  with_exponent l (Some n) h = h

  in_raised : (l : Listing) (k : Option ℤ) → AreOf Q l → AreOf Q ((raised l k).0)
  in_raised l k h = with_exponent l (power_in k) h

  number_power : (n : ℕ) (is_over : Bool) (k : ℤ) → AreOf Q ((number_raised n is_over k).0)
  number_power n is_over k = by (nat_le (nat_abs k) largest_power)
    where
      by : (b : Bool) → AreOf Q ((number_by n is_over k b).0)
      by true = record_of (number_list n (number_exponent n is_over k)) (number_listed names n (number_exponent n is_over k))
      by false = tt

  -- ---- trees

  function_at : (is_commuting : Bool) (f : ℕ) → IsAt (function_place_of is_commuting) names f → IsAt (function_place_of is_commuting) names (function_of all f)
  function_at is_commuting f h = function_place_kept names all bindings f ∙ h

  in_function : (f : ℕ) (is_commuting : Bool) (r : Result (List terms.Argument) Cause) → IsAt (function_place_of is_commuting) names f → IfOk r (AreSound names) → AreOf Q (function_list (function_of all f) is_commuting r)
  in_function f is_commuting r at h = record_of (function_list (function_of all f) is_commuting r) (function_listed names (function_of all f) is_commuting r h (function_at is_commuting f at))

  abbrev Placed : List Piece → Type 0
  Placed ps = ArePlaced names ps

  mutual
    unfolding list_of_sum list_of_product list_of_factor list_of_raised arguments_of arguments_in

    sum_listed : (s : Sum) → Placed (pieces_of_sum s) → AreOf Q (list_of_sum max all s)
    sum_listed (tree.first is_minus p) h = in_signed Q q.turned is_minus (list_of_product max all p) (product_listed p (link_of is_minus) h)
    sum_listed (tree.more s is_minus p) h =
        let before : Listing = list_of_sum max all s in
        let last : Listing = signed is_minus (list_of_product max all p) in
        let front = in_front (IsPiecePlaced names) (pieces_of_sum s) (pieces_of_product (link_of is_minus) p) h in
        let back = at_back (IsPiecePlaced names) (pieces_of_sum s) (pieces_of_product (link_of is_minus) p) h in
        in_limit Q max (followed before last)
        (in_followed Q before.terms before.end last (sum_listed s front) (in_signed Q q.turned is_minus (list_of_product max all p) (product_listed p (link_of is_minus) back)))

    product_listed : (p : Product) (link : Link) → Placed (pieces_of_product link p) → AreOf Q (list_of_product max all p)
    product_listed (tree.one f) link h = factor_listed f link h
    product_listed (tree.times p f) link h =
        let before : Listing = list_of_product max all p in
        let last : Listing = list_of_factor max all f in
        let front = in_front (IsPiecePlaced names) (pieces_of_product link p) (pieces_of_factor links.Times f) h in
        let back = at_back (IsPiecePlaced names) (pieces_of_product link p) (pieces_of_factor links.Times f) h in
        in_limit Q max (pairs before last) (in_pairs Q Q Q products before.terms before.end last (product_listed p link front) (factor_listed f links.Times back))

    factor_listed : (f : Factor) (link : Link) → Placed (pieces_of_factor link f) → AreOf Q (list_of_factor max all f)
    factor_listed (tree.number n k) link h = in_limit Q max (number_list n k) (record_of (number_list n k) (number_listed names n k))
    factor_listed (tree.symbol s k) link h = in_limit Q max (symbol_list s k) (record_of (symbol_list s k) (symbol_listed names s k h.0))
    factor_listed (tree.wild s is_over k) link h = by_power (wild_list all s is_over k) (in_wild s is_over k h.0)
    factor_listed (tree.stored e k) link h = to_power (record { terms = terms_of all e; end = None }) k (stored_each Q all.stored e stored)
    factor_listed (tree.imaginary k) link h = to_power imaginary_list k (record_of imaginary_list (imaginary_listed names))
    factor_listed (tree.dot u v k) link h =
        let l : Listing = dot_list (vector_of all u) (vector_of all v) k in
        in_limit Q max l (record_of l (dot_listed names (vector_of all u) (vector_of all v) k (vector_named names all bindings u h.0.0, vector_named names all bindings v h.0.1)))
    factor_listed (tree.component c k) link h =
        let l : Listing = component_list (component_of all c) in
        to_power l k (record_of l (component_listed names (component_of all c) (component_named names all bindings c h.0)))
    factor_listed (tree.delta i j k) link h =
        let l : Listing = delta_list (index_of all i) (index_of all j) in
        to_power l k (record_of l (delta_listed names (index_of all i) (index_of all j) (index_named names all bindings i h.0.0) (index_named names all bindings j h.0.1)))
    factor_listed (tree.function f is_commuting args k) link h =
        let r : Result (List terms.Argument) Cause = arguments_of max all args in
        to_power (function_list (function_of all f) is_commuting r) k
        (in_function f is_commuting r h.0 (arguments_listed args (in_front (IsPiecePlaced names) (pieces_of_arguments args) (pieces.EndOfFunction k ∷ []) h.1)))
    factor_listed (tree.parenthesis s k) link h = to_power (list_of_sum max all s) k (sum_listed s (in_front (IsPiecePlaced names) (pieces_of_sum s) (pieces.Close k ∷ []) h.1))
    factor_listed (tree.raised b is_over is_minus n) link h = by_power (list_of_raised max all b is_over (exponent_in all is_minus n)) (base_listed b link is_over is_minus n (exponent_in all is_minus n) h)

    base_listed : (b : Base) (link : Link) (is_over is_minus : Bool) (n : ℕ) (k : Option ℤ) → Placed (pieces_of_base link b (exponent is_over is_minus n)) → AreOf Q ((list_of_raised max all b is_over k).0)
    base_listed (tree.number_base v) link is_over is_minus n k h = in_exponent (number_raised v is_over) k (λ z. number_power v is_over z)
    base_listed (tree.symbol_base s) link is_over is_minus n k h =
        in_exponent (λ z. (symbol_list s (turned_by is_over z), 1)) k (λ z. record_of (symbol_list s (turned_by is_over z)) (symbol_listed names s (turned_by is_over z) h.0.0))
    base_listed (tree.wild_base s) link is_over is_minus n k h = in_exponent (wild_list all s is_over) k (λ z. in_wild s is_over z h.0.0)
    base_listed (tree.dot_base u v) link is_over is_minus n k h =
        let at : IsPairNamed names (vector_of all u) (vector_of all v) = (vector_named names all bindings u h.0.0.0, vector_named names all bindings v h.0.0.1) in
        in_exponent (λ z. (dot_list (vector_of all u) (vector_of all v) (turned_by is_over z), 1)) k
        (λ z. record_of (dot_list (vector_of all u) (vector_of all v) (turned_by is_over z)) (dot_listed names (vector_of all u) (vector_of all v) (turned_by is_over z) at))
    base_listed tree.imaginary_base link is_over is_minus n k h = in_raised imaginary_list k (record_of imaginary_list (imaginary_listed names))
    base_listed (tree.component_base c) link is_over is_minus n k h =
        let l : Listing = component_list (component_of all c) in
        in_raised l k (record_of l (component_listed names (component_of all c) (component_named names all bindings c h.0.0)))
    base_listed (tree.delta_base i j) link is_over is_minus n k h =
        let l : Listing = delta_list (index_of all i) (index_of all j) in
        in_raised l k (record_of l (delta_listed names (index_of all i) (index_of all j) (index_named names all bindings i h.0.0.0) (index_named names all bindings j h.0.0.1)))
    base_listed (tree.function_base f is_commuting args) link is_over is_minus n k h =
        let r : Result (List terms.Argument) Cause = arguments_of max all args in
        in_raised (function_list (function_of all f) is_commuting r) k
        (in_function f is_commuting r h.0 (arguments_listed args (in_front (IsPiecePlaced names) (pieces_of_arguments args) (pieces.EndOfRaisedFunction (exponent is_over is_minus n) ∷ []) h.1)))
    base_listed (tree.parenthesis_base s) link is_over is_minus n k h =
        in_raised (list_of_sum max all s) k (sum_listed s (in_front (IsPiecePlaced names) (pieces_of_sum s) (pieces.CloseRaised (exponent is_over is_minus n) ∷ []) h.1))

    arguments_listed : (args : Arguments) → Placed (pieces_of_arguments args) → IfOk (arguments_of max all args) (AreSound names)
    arguments_listed tree.empty h = tt
    arguments_listed (tree.further args a) h =
        with_sound names (arguments_of max all args) (arguments_in max all a)
        (arguments_listed args (in_front (IsPiecePlaced names) (pieces_of_arguments args) (pieces_of_argument a) h))
        (argument_listed a (at_back (IsPiecePlaced names) (pieces_of_arguments args) (pieces_of_argument a) h))

    argument_listed : (a : Argument) → Placed (pieces_of_argument a) → IfOk (arguments_in max all a) (AreSound names)
    argument_listed (tree.index i) h = ((tt, index_named names all bindings i h.0), tt)
    argument_listed (tree.vector v) h = ((tt, vector_named names all bindings v h.0), tt)
    argument_listed (tree.field w) h = field_sound names all bindings w
    argument_listed (tree.expression s) h =
        let l : Listing = list_of_sum max all s in
        one_sound names (argument_of l) (argument_sound names l (summands_in l (sum_listed s (in_front (IsPiecePlaced names) (pieces_of_sum s) (pieces.EndOfArgument ∷ []) h.1))))

-- ---- together

pub lists_of_summands : (names : Places) (max : ℕ) (all : Meanings) (s : Sum) → AreSoundMeanings names all → IsSumPlaced names s → AreSummands names (list_of_sum max all s)
lists_of_summands names max all s sound placed =
    sum_listed names (IsSummand names) (summands_between names) all sound.bindings sound.stored (bound_summands names all sound.bindings) max s placed

none_bound : (names : Places) (stored : List Stored) (s : ℕ) (ms : List Monomial) → terms_bound (of_stored stored) s ≡ Some ms → AllByRecursion (IsRecordable names) ms
unfolding value_of
none_bound names stored s ms e = absurd (none-some ms e)

pub lists_recordable : (names : Places) (max : ℕ) (stored : List Stored) (s : Sum) → AllByRecursion (IsRecordableStored names) stored → IsSumPlaced names s → AreRecordable names (list_of_sum max (of_stored stored) s)
lists_recordable names max stored s sound placed =
    sum_listed names (IsRecordable names) (recordable_between names) (of_stored stored) tt sound (none_bound names stored) max s placed

-- ---- collected lists

abbrev IsOwnTerm : Term → Type 0
IsOwnTerm t = IsOwn (once t)

recordable_from : (names : Places) (ms : List Monomial) → AllByRecursion (IsSummand names) ms → AllByRecursion (λ (m : Monomial). IsOwnTerm m.term) ms → AllByRecursion (IsRecordable names) ms
recordable_from names [] h k = tt
recordable_from names (m ∷ ms) h k = (record { summand = h.0; own = own_with m.coefficient (once m.term) k.0 }, recordable_from names ms h.1 k.1)

pub collected_recordable : (names : Places) (list terms : List Monomial) → AllByRecursion (IsRecordable names) list → collected list ≡ Some terms → AllByRecursion (IsRecordable names) terms
collected_recordable names list terms h e =
    let summands = each_weaker (IsRecordable names) (IsSummand names) (λ m k. k.summand) list h in
    let lowest = each_weaker (IsSummand names) (λ (m : Monomial). IsLowest m.coefficient) (λ m k. k.lowest) list summands in
    let own = each_weaker (IsRecordable names) (λ (m : Monomial). IsOwnTerm m.term) (λ m k. own_with (whole (pos 1)) m k.own) list h in
    recordable_from names terms (collected_summands names list terms summands e) (collected_terms IsOwnTerm list terms lowest own e)
