-- Where none of the indices that become others stands in a term, what is made of it anew is that term.
use Rattle.std.proofs.Common.{◌≡◌, ℕ, zero, suc, ◌<◌, ◌≤◌, Bool, true, false, not, ◌&&◌, ◌||◌, if◌then◌else◌, List, [], ◌∷◌, ◌++◌, map, fold, Ok, refl, sym, ap, ◌∙◌, subst, arith}
use Rattle.std.specs.Prelude.{flat_map, sum}
use Rattle.std.specs.declared.cmp.Ordering.TheVariants.{Less}
use Rattle.std.specs.List.{AllByRecursion, list_all, list_any, sum_by}
use Rattle.std.specs.List.Sorted.{IsStrictlySortedBy}
use Rattle.std.specs.Ordering.{is_gt, on}
use Rattle.std.proofs.lemmas.Bool.{and_parts}
use Rattle.std.proofs.lemmas.List.Elements.{All-map, recursion_from_All}
use Rattle.std.proofs.lemmas.List.Sums.{AllPass-from_list_all, sum_by-cons}
use Rattle.form_collect.proofs.Rising.{collected_again}
use Rattle.form_expand.specs.Listing.{Listing, before, single}
use Rattle.form_expand.specs.Singles.{argument_of, of_collected, of_product}
use Rattle.form_expand.specs.Walks.{all_of}
use Rattle.form_frac.specs.Fraction.{IsLowest, is_zero}
use Rattle.form_normal.specs.Product.{is_fixed}
use Rattle.form_term.specs.declared.index.Component.{Component}
use Rattle.form_term.specs.declared.index.Delta.{Delta}
use Rattle.form_term.specs.declared.index.Index.{Index}
use Rattle.form_term.specs.declared.index.Index.TheVariants as indices
use Rattle.form_term.specs.declared.monomial.Monomial.{Monomial}
use Rattle.form_term.specs.declared.piece.Piece.{Piece}
use Rattle.form_term.specs.declared.piece.Piece.TheVariants as pieces
use Rattle.form_term.specs.Arguments.{arguments_of}
use Rattle.form_term.specs.Calls.{call}
use Rattle.form_term.specs.Factor.{delta_of}
use Rattle.form_term.specs.Monomial.{as_monomial, summands_of}
use Rattle.form_term.specs.Pieces.{piece_of_dot, piece_of_power, size_of_pieces}
use Rattle.form_term.specs.Term.{Argument, Call, Summand, Term, index, vector, expression, IsArgumentOf, IsCall, IsTerm, index_order, order, pieces_of_argument, pieces_of_arguments, pieces_of_call, pieces_of_summand, pieces_of_term, size, size_of_call}
use Rattle.form_term.proofs.Each.{at_back, each_map, each_weaker, flat_each, in_front, map_each}
use Rattle.form_term.proofs.ReadBack.{call_arguments, read_back}
use Rattle.form_flow.specs.declared.indices.Renaming.{Renaming}
use Rattle.form_flow.specs.Indices.{all_renamed, and_dummy, and_made, become, call_by, dummies, dummies_put, each_made, indices_in, is_declared, listed, made_anew, number_put, put, renamed, renamed_argument, renamed_call, renamed_component, renamed_delta, with_calls, with_factors}
use Rattle.form_flow.specs.Sizes.{weight}
use Rattle.form_flow.specs.Staying.{delta_stays, is_other, piece_stays, stays}
use Rattle.form_flow.proofs.Dummies.{become_more, new_dummy}
use Rattle.form_flow.proofs.Sizes.{size_both, size_of_expression}
use Rattle.form_flow.proofs.Untaken.{own_product}
use Rattle.form_flow.proofs.Valued.{after_one}

-- ---- deltas

-- the three parts of a test
parts : (a b c : Bool) → (not a && b && c) ≡ true → (a ≡ false) × (b ≡ true) × (c ≡ true)
parts true b c e = cc
parts false true true e = (refl, refl, refl)
parts false false c e = cc
parts false true false e = cc

abbrev IsTurned : Delta → Type 0
IsTurned d = is_gt (index_order d.first d.second) ≡ false

in_place : (d : Delta) → IsTurned d → delta_of d.first d.second ≡ d
in_place d e = let other : Delta = record { first = d.second; second = d.first } in ap (λ (b : Bool). if b then other else d) e

-- ---- expressions

summands_back : (ss : List Summand) → summands_of (map as_monomial ss) ≡ ss
summands_back [] = refl
summands_back (s ∷ ss) = ap (λ (more : List Summand). s ∷ more) (summands_back ss)

terms_rise : (ss : List Summand) → IsStrictlySortedBy (on (λ (s : Summand). s.term) order) ss → IsStrictlySortedBy (on (λ (m : Monomial). m.term) order) (map as_monomial ss)
unfolding IsStrictlySortedBy
terms_rise [] h = tt
terms_rise (s ∷ ss) h =
    (each_map (λ (x : Summand). order s.term x.term ≡ Less) (λ (m : Monomial). order s.term m.term ≡ Less) as_monomial (λ x k. k) ss h.0, terms_rise ss h.1)

-- ---- what holds of all that stands in a term

each_true : {A : Type 0} (p : A → Bool) (xs : List A) → list_all p xs ≡ true → AllByRecursion (λ (x : A). p x ≡ true) xs
each_true p xs e = recursion_from_All (λ x. p x ≡ true) xs (AllPass-from_list_all p xs e)

module _ (is : List ℕ) where
  abbrev PieceStays : Piece → Type 0
  PieceStays p = piece_stays is p ≡ true

  abbrev DeltaStays : Delta → Type 0
  DeltaStays d = delta_stays is d ≡ true

  abbrev ComponentStays : Component → Type 0
  ComponentStays c = is_other is c.index ≡ true

  abbrev CallStays : Call → Type 0
  CallStays c = AllByRecursion PieceStays c.pieces

record Stays (is : List ℕ) (t : Term) : Type 0 where
  components : AllByRecursion (ComponentStays is) t.others.components
  deltas : AllByRecursion (DeltaStays is) t.others.deltas
  functions : AllByRecursion (CallStays is) t.others.functions
  word : AllByRecursion (CallStays is) t.others.word

module _ (is : List ℕ) where
  calls_stay_each : (cs : List Call) → list_all (λ (c : Call). list_all (piece_stays is) c.pieces) cs ≡ true → AllByRecursion (CallStays is) cs
  calls_stay_each cs e =
      each_weaker (λ (c : Call). list_all (piece_stays is) c.pieces ≡ true) (CallStays is) (λ c k. each_true (piece_stays is) c.pieces k) cs (each_true (λ (c : Call). list_all (piece_stays is) c.pieces) cs e)

  stays_whole : (t : Term) → stays is t ≡ true → Stays is t
  stays_whole t e =
      let o = t.others in
      let a = list_all (λ (c : Component). is_other is c.index) o.components in
      let b = list_all (delta_stays is) o.deltas in
      let f = list_all (λ (c : Call). list_all (piece_stays is) c.pieces) o.functions in
      let w = list_all (λ (c : Call). list_all (piece_stays is) c.pieces) o.word in
      let three = and_parts (a && b && f) w e in
      let two = and_parts (a && b) f three.0 in
      let one = and_parts a b two.0 in
      record {
        components = each_true (λ (c : Component). is_other is c.index) o.components one.0;
        deltas = each_true (delta_stays is) o.deltas one.1;
        functions = calls_stay_each o.functions two.1;
        word = calls_stay_each o.word three.1;
      }

  -- a term within an argument

  call_within : (begin : ℕ → Piece) (c : Call) → AllByRecursion (PieceStays is) (pieces_of_call begin c) → CallStays is c
  call_within begin c h = in_front (PieceStays is) c.pieces (pieces.EndOfArguments ∷ []) h.1

  term_within : (t : Term) → AllByRecursion (PieceStays is) (pieces_of_term t) → Stays is t
  term_within t h =
      let o = t.others in
      let P : Piece → Type 0 = PieceStays is in
      let p3 : List Piece = (if o.is_imaginary then pieces.Imaginary ∷ [] else []) ++ map piece_of_power t.symbols ++ map piece_of_dot o.dots in
      let p4 : List Piece = map pieces.Component o.components in
      let p5 : List Piece = map pieces.Delta o.deltas in
      let p6 : List Piece = flat_map (pieces_of_call pieces.Function) o.functions in
      let p7 : List Piece = flat_map (pieces_of_call pieces.NonCommuting) o.word in
      let h6 = in_front P (p3 ++ p4 ++ p5 ++ p6) p7 h in
      let h5 = in_front P (p3 ++ p4 ++ p5) p6 h6 in
      let h4 = in_front P (p3 ++ p4) p5 h5 in
      record {
        components = map_each (ComponentStays is) P pieces.Component (λ c k. k) o.components (at_back P p3 p4 h4);
        deltas = map_each (DeltaStays is) P pieces.Delta (λ d k. k) o.deltas (at_back P (p3 ++ p4) p5 h5);
        functions = flat_each (CallStays is) P (pieces_of_call pieces.Function) (call_within pieces.Function) o.functions (at_back P (p3 ++ p4 ++ p5) p6 h6);
        word = flat_each (CallStays is) P (pieces_of_call pieces.NonCommuting) (call_within pieces.NonCommuting) o.word (at_back P (p3 ++ p4 ++ p5 ++ p6) p7 h);
      }

  summand_within : (s : Summand) → AllByRecursion (PieceStays is) (pieces_of_summand s) → Stays is s.term
  summand_within s h =
      term_within s.term (in_front (PieceStays is) (pieces_of_term s.term) (pieces.EndOfTerm (record { numerator = s.coefficient.numerator; denominator = s.coefficient.denominator }) ∷ []) h)

  unfixed : (ds : List Delta) → AllByRecursion (DeltaStays is) ds → list_any is_fixed ds ≡ false
  unfixed [] h = refl
  unfixed (d ∷ ds) h = ap (λ (b : Bool). b || list_any is_fixed ds) (parts (is_fixed d) (is_other is d.first) (is_other is d.second) h.0).0 ∙ unfixed ds h.1

-- ---- where other indices stay

module _ (is : List ℕ) (by : Index → Index) (kept : (j : Index) → is_other is j ≡ true → by j ≡ j) where
  components_same : (cs : List Component) → AllByRecursion (ComponentStays is) cs → map (renamed_component by) cs ≡ cs
  components_same [] h = refl
  components_same (c ∷ cs) h =
      let here : by c.index ≡ c.index = kept c.index h.0 in
      let rest = components_same cs h.1 in
      λ i. record c { index = here i } ∷ rest i

  delta_same : (d : Delta) → IsTurned d → DeltaStays is d → renamed_delta by d ≡ d
  delta_same d turned h =
      let both = parts (is_fixed d) (is_other is d.first) (is_other is d.second) h in
      let first = kept d.first both.1 in
      let second = kept d.second both.2 in
      let same : delta_of (by d.first) (by d.second) ≡ delta_of d.first d.second = λ i. delta_of (first i) (second i) in
      same ∙ in_place d turned

  deltas_same : (ds : List Delta) → AllByRecursion IsTurned ds → AllByRecursion (DeltaStays is) ds → map (renamed_delta by) ds ≡ ds
  deltas_same [] turned h = refl
  deltas_same (d ∷ ds) turned h =
      let here = delta_same d turned.0 h.0 in
      let rest = deltas_same ds turned.1 h.1 in
      λ i. here i ∷ rest i

  -- of terms so small what is made is known
  module _ (n : ℕ) (make : Monomial → Listing) (same : (m : Monomial) → IsLowest m.coefficient → IsTerm m.term → Stays is m.term → size m.term < n → make m ≡ single m) where
    terms_same : (ss : List Summand) → AllByRecursion (λ (s : Summand). IsLowest s.coefficient) ss → AllByRecursion (λ (s : Summand). IsTerm s.term) ss → AllByRecursion (λ (s : Summand). Stays is s.term) ss
        → sum_by weight (map as_monomial ss) ≤ n → listed make (map as_monomial ss) ≡ all_of (map as_monomial ss)
    terms_same [] lowest lawful h small = refl
    terms_same (s ∷ ss) lowest lawful h small =
        let m : Monomial = as_monomial s in
        let all = sum_by-cons weight m (map as_monomial ss) in
        let here : make m ≡ single m = same m lowest.0 lawful.0 h.0 (omega (arith, all, small)) in
        after_one m (make m) (listed make (map as_monomial ss)) here ∙ ap (before m) (terms_same ss lowest.1 lawful.1 h.1 (omega (arith, all, small)))

    argument_same : (a : Argument) → IsArgumentOf IsTerm a → AllByRecursion (PieceStays is) (pieces_of_argument a) → size_of_pieces (pieces_of_argument a) ≤ n → renamed_argument by make a ≡ Ok a
    unfolding argument_of
    argument_same (index i) lawful h small = ap (λ (j : Index). Ok (index j)) (kept i h.0)
    argument_same (vector v) lawful h small = refl
    argument_same (expression ss) lawful h small =
        let ms : List Monomial = map as_monomial ss in
        let inner = flat_each (λ (s : Summand). Stays is s.term) (PieceStays is) pieces_of_summand (summand_within is) ss (in_front (PieceStays is) (flat_map pieces_of_summand ss) (pieces.EndOfSum ∷ []) h.1) in
        let lowest = recursion_from_All (λ (s : Summand). IsLowest s.coefficient) ss lawful.lowest in
        let terms = recursion_from_All (λ (s : Summand). IsTerm s.term) ss lawful.terms in
        ap argument_of (terms_same ss lowest terms inner (omega (arith, size_of_expression ss, small)))
        ∙ ap of_collected (collected_again ms (terms_rise ss lawful.rising) (All-map (λ (m : Monomial). is_zero m.coefficient ≡ false) as_monomial ss lawful.present))
        ∙ ap (λ (more : List Summand). Ok (expression more)) (summands_back ss)

    arguments_same : (args : List Argument) → AllByRecursion (IsArgumentOf IsTerm) args → AllByRecursion (PieceStays is) (pieces_of_arguments args) → size_of_pieces (pieces_of_arguments args) ≤ n
        → each_made (renamed_argument by make) args ≡ Ok args
    arguments_same [] lawful h small = refl
    arguments_same (a ∷ args) lawful h small =
        let front : List Piece = pieces_of_argument a in
        let back : List Piece = pieces_of_arguments args in
        let all = size_both front back in
        let here = argument_same a lawful.0 (in_front (PieceStays is) front back h) (omega (arith, all, small)) in
        let rest = arguments_same args lawful.1 (at_back (PieceStays is) front back h) (omega (arith, all, small)) in
        λ i. and_made (here i) (rest i)

    call_same : (c : Call) → IsCall c → CallStays is c → size_of_call c ≤ n → renamed_call by make c ≡ Ok c
    call_same c lawful h small =
        let args : List Argument = arguments_of c.pieces in
        let back = read_back c.pieces (call_arguments c lawful) in
        let made = arguments_same args (recursion_from_All (IsArgumentOf IsTerm) args back.1) (subst (AllByRecursion (PieceStays is)) back.0 h) (omega (arith, ap size_of_pieces back.0, small)) in
        ap (call_by c.function) made ∙ ap (λ (ps : List Piece). Ok (call c.function ps)) (sym back.0)

    calls_same : (cs : List Call) → AllByRecursion IsCall cs → AllByRecursion (CallStays is) cs → sum (map size_of_call cs) ≤ n → each_made (renamed_call by make) cs ≡ Ok cs
    calls_same [] lawful h small = refl
    calls_same (c ∷ cs) lawful h small =
        let all = sum_by-cons (λ (k : ℕ). k) (size_of_call c) (map size_of_call cs) in
        let here = call_same c lawful.0 h.0 (omega (arith, all, small)) in
        let rest = calls_same cs lawful.1 h.1 (omega (arith, all, small)) in
        λ i. and_made (here i) (rest i)

  renamed_same : (n : ℕ) (m : Monomial) → IsLowest m.coefficient → IsTerm m.term → Stays is m.term → size m.term < n → renamed n by m ≡ single m
  unfolding renamed
  renamed_same zero m lowest lawful h small = absurd (omega arith)
  renamed_same (suc n) m lowest lawful h small =
      let make : Monomial → Listing = renamed n by in
      let inner : (x : Monomial) → IsLowest x.coefficient → IsTerm x.term → Stays is x.term → size x.term < n → make x ≡ single x = λ x l t k s. renamed_same n x l t k s in
      let functions = calls_same n make inner m.term.others.functions (recursion_from_All IsCall m.term.others.functions lawful.others.functions) h.functions (omega arith) in
      let word = calls_same n make inner m.term.others.word (recursion_from_All IsCall m.term.others.word lawful.others.word) h.word (omega arith) in
      let components = components_same m.term.others.components h.components in
      let deltas = deltas_same m.term.others.deltas (recursion_from_All IsTurned m.term.others.deltas lawful.others.deltas_turned) h.deltas in
      let calls : with_calls by m (each_made (renamed_call by make) m.term.others.functions) (each_made (renamed_call by make) m.term.others.word) ≡ made_anew m.coefficient (with_factors by m.term m.term.others.functions m.term.others.word) =
      λ i. with_calls by m (functions i) (word i) in
      let factors : with_factors by m.term m.term.others.functions m.term.others.word ≡ m.term =
      λ i. record { symbols = m.term.symbols; others = record m.term.others { components = components i; deltas = deltas i } } in
      calls ∙ ap (made_anew m.coefficient) factors ∙ ap of_product (own_product m lowest lawful (unfixed is m.term.others.deltas h.deltas))

  term_same : (m : Monomial) → IsLowest m.coefficient → IsTerm m.term → stays is m.term ≡ true → all_renamed by m ≡ single m
  term_same m lowest lawful e = renamed_same (suc (size m.term)) m lowest lawful (stays_whole is m.term e) (omega arith)

-- ---- `sum`

not_put : (b : Bool) (new j : Index) → not b ≡ true → (if b then new else j) ≡ j
not_put true new j e = cc
not_put false new j e = refl

one_kept : (there : List Index) (rs : List Renaming) (i : ℕ) (j : Index) → not (is_declared i j) ≡ true → become rs j ≡ j → become (and_dummy there rs i) j ≡ j
one_kept there rs i j e h = at (list_any (is_declared i) (map (become rs) there))
  where
    at : (b : Bool) → become (if b then rs ++ new_dummy i (map (become rs) there) ∷ [] else rs) j ≡ j
    at true =
        let new : Renaming = new_dummy i (map (become rs) there) in
        become_more rs new j ∙ ap (put i new.to) h ∙ not_put (is_declared i j) new.to j e
    at false = h

all_kept : (there : List Index) (is : List ℕ) (rs : List Renaming) (j : Index) → is_other is j ≡ true → become rs j ≡ j → become (fold (and_dummy there) rs is) j ≡ j
all_kept there [] rs j e h = h
all_kept there (i ∷ is) rs j e h =
    let both = and_parts (not (is_declared i j)) (is_other is j) e in
    all_kept there is (and_dummy there rs i) j both.1 (one_kept there rs i j both.0 h)

pub dummies_same : (is : List ℕ) (m : Monomial) → IsLowest m.coefficient → IsTerm m.term → stays is m.term ≡ true → dummies_put is m ≡ single m
dummies_same is m = term_same is (become (dummies is (indices_in m.term))) (λ j e. all_kept (indices_in m.term) is [] j e refl) m

pub number_same : (i n : ℕ) (m : Monomial) → IsLowest m.coefficient → IsTerm m.term → stays (i ∷ []) m.term ≡ true → number_put i n m ≡ single m
number_same i n m = term_same (i ∷ []) (put i (indices.Fixed n)) (λ j e. not_put (is_declared i j) (indices.Fixed n) j (and_parts (not (is_declared i j)) true e).0) m
