-- The first pair of vectors whose exponents differ decides the order of dot products.
use Rattle.std.proofs.Common.{◌≡◌, ◌≢◌, ℕ, ◌<◌, ℤ, pos, nat_abs, Bool, true, false, List, [], ◌∷◌, if◌then◌else◌, eqb, refl, sym, ap, ◌∙◌, arith}
use Rattle.std.specs.Int.{is_negative}
use Rattle.std.specs.List.{AllByRecursion}
use Rattle.std.specs.List.Sorted.{IsStrictlySortedBy}
use Rattle.std.specs.Ordering.{int_cmp, nat_cmp, ordering_then, ordering_reverse}
use Rattle.std.specs.Cmp.{IsTotalOrder, nat_cmp_is}
use Rattle.std.specs.Cmp.Lexicographic.{slice_cmp}
use Rattle.std.specs.declared.cmp.Ordering.{Ordering}
use Rattle.std.specs.declared.cmp.Ordering.TheVariants.{Less, Equal, Greater}
use Rattle.std.proofs.lemmas.Bool.{eqb-true, eq-eqb}
use Rattle.std.proofs.lemmas.Cmp.{int_cmp_total, nat_cmp_total, on_total, then_total, tied_back, tied_itself}
use Rattle.std.proofs.lemmas.List.Elements.{recursion_from_All}
use Rattle.std.proofs.lemmas.Map.Lookups.{exact_signed}
use Rattle.form_term.specs.declared.power.DotPower.{DotPower}
use Rattle.form_term.specs.declared.piece.Piece.{Piece}
use Rattle.form_term.specs.declared.piece.Piece.TheVariants as pieces
use Rattle.form_term.specs.ArgumentOrder.{IsPairBefore, dot_exponent_in, dot_exponent_of}
use Rattle.form_term.specs.Pieces.{piece_order, piece_of_dot}
use Rattle.form_term.specs.Term.{Term, call_order, component_order, delta_order, dots_order, end_of_term, exponent_of, imaginary_exponent, IsTerm, order, others_order, pair_order, symbols_order}
use Rattle.form_term.specs.SymbolLaws.{differs, powers_from_exponents, symbols_order_total, then_first}
use Rattle.form_term.specs.TermLaws.{both_equal, dots_order_total, numbers_equal}
use Rattle.form_term.proofs.Dots.{dots_first, dots_left, dots_next}
use Rattle.form_term.proofs.Nesting.{all_map}
use Rattle.form_term.proofs.Ranks.{above, below, greater_differs, is_above_zero, is_below_zero, less_differs, then_assoc}

pair_total : IsTotalOrder pair_order
pair_total = then_total (on_total (λ (d : DotPower). d.left) nat_cmp_total) (on_total (λ (d : DotPower). d.right) nat_cmp_total)

equal_pair : (d k : DotPower) → d.left ≡ k.left → d.right ≡ k.right → pair_order d k ≡ Equal
equal_pair d k l r = ap (λ o. ordering_then o (nat_cmp d.right k.right)) (sym (nat_cmp_is d.left k.left Equal l)) ∙ sym (nat_cmp_is d.right k.right Equal r)

pair_turned : (d e : DotPower) → pair_order d e ≡ Less → pair_order e d ≡ Greater
pair_turned d e h = pair_total.antisymm e d ∙ ap ordering_reverse h

pair_back : (d e : DotPower) → pair_order d e ≡ Greater → pair_order e d ≡ Less
pair_back d e h = pair_total.antisymm e d ∙ ap ordering_reverse h

-- ---- exponents

abbrev at_pair : List DotPower → DotPower → ℤ
at_pair ds k = dot_exponent_in ds k.left k.right

here : (d : DotPower) (ds : List DotPower) (k : DotPower) → pair_order d k ≡ Equal → at_pair (d ∷ ds) k ≡ d.exponent
here d ds k h =
    let both = both_equal (nat_cmp d.left k.left) (nat_cmp d.right k.right) h in
    let left = eq-eqb d.left k.left (numbers_equal d.left k.left both.0) in
    let right = eq-eqb d.right k.right (numbers_equal d.right k.right both.1) in
    rw (left, right) refl

other : (d : DotPower) (ds : List DotPower) (k : DotPower) → pair_order d k ≢ Equal → at_pair (d ∷ ds) k ≡ at_pair ds k
other d ds k differ = by (eqb d.left k.left) (eqb d.right k.right) refl refl
  where
    by : (b c : Bool) → eqb d.left k.left ≡ b → eqb d.right k.right ≡ c → at_pair (d ∷ ds) k ≡ at_pair ds k
    by true true e f = absurd (differ (equal_pair d k (eqb-true d.left k.left e) (eqb-true d.right k.right f)))
    by true false e f = rw (e, f) refl
    by false true e f = rw e refl
    by false false e f = rw e refl

-- such pairs all stand after one
abbrev AllAfter : DotPower → List DotPower → Type 0
AllAfter k ds = AllByRecursion (λ e. pair_order k e ≡ Less) ds

absent : (ds : List DotPower) (k : DotPower) → AllAfter k ds → at_pair ds k ≡ pos 0
absent [] k h = refl
absent (e ∷ es) k h = other e es k (greater_differs (pair_order e k) (pair_turned k e h.0)) ∙ absent es k h.1

after_later : (k d : DotPower) (ds : List DotPower) → pair_order k d ≡ Less → AllAfter d ds → AllAfter k ds
after_later k d ds h all = all_map (λ (e : DotPower). pair_order d e ≡ Less) (λ (e : DotPower). pair_order k e ≡ Less) (λ e i. pair_total.trans k d e h i) ds all

after_same : (k d : DotPower) (ds : List DotPower) → pair_order k d ≡ Equal → AllAfter d ds → AllAfter k ds
after_same k d ds h all = all_map (λ (e : DotPower). pair_order d e ≡ Less) (λ (e : DotPower). pair_order k e ≡ Less) (λ e i. pair_total.congr k d e h ∙ i) ds all

-- ---- pieces

abbrev dot_piece : Bool → DotPower → Piece
dot_piece b d = if b then pieces.NegativeDot d else pieces.PositiveDot (record { 0 = d.left }) (record { 0 = d.right }) d.exponent

same_pieces : (d e : DotPower) → pair_order d e ≡ Equal → piece_order (piece_of_dot d) (piece_of_dot e) ≡ int_cmp d.exponent e.exponent
same_pieces d e h = by (is_negative d.exponent) refl (is_negative e.exponent) refl
  where
    pairs : (nat_cmp d.left e.left ≡ Equal) × (nat_cmp d.right e.right ≡ Equal)
    pairs = both_equal (nat_cmp d.left e.left) (nat_cmp d.right e.right) h

    by : (b : Bool) → is_negative d.exponent ≡ b → (c : Bool) → is_negative e.exponent ≡ c → piece_order (dot_piece b d) (dot_piece c e) ≡ int_cmp d.exponent e.exponent
    by true p true q = ap (λ o. ordering_then o (ordering_then (nat_cmp d.right e.right) (int_cmp d.exponent e.exponent))) pairs.0 ∙ ap (λ o. ordering_then o (int_cmp d.exponent e.exponent)) pairs.1
    by true p false q = sym (below d.exponent e.exponent p q)
    by false p true q = sym (above d.exponent e.exponent p q)
    by false p false q =
        ap (λ o. ordering_then o (ordering_then (nat_cmp e.right d.right) (int_cmp d.exponent e.exponent))) (tied_back nat_cmp_total d.left e.left pairs.0)
        ∙ ap (λ o. ordering_then o (int_cmp d.exponent e.exponent)) (tied_back nat_cmp_total d.right e.right pairs.1)

earlier_pieces : (d e : DotPower) → pair_order d e ≡ Less → 0 < nat_abs d.exponent → piece_order (piece_of_dot d) (piece_of_dot e) ≡ int_cmp d.exponent (pos 0)
earlier_pieces d e h there = by (is_negative d.exponent) refl (is_negative e.exponent)
  where
    by : (b : Bool) → is_negative d.exponent ≡ b → (c : Bool) → piece_order (dot_piece b d) (dot_piece c e) ≡ int_cmp d.exponent (pos 0)
    by true p true =
        sym (then_assoc (nat_cmp d.left e.left) (nat_cmp d.right e.right) (int_cmp d.exponent e.exponent))
        ∙ ap (λ o. ordering_then o (int_cmp d.exponent e.exponent)) h
        ∙ sym (is_below_zero d.exponent p)
    by true p false = sym (is_below_zero d.exponent p)
    by false p true = sym (is_above_zero d.exponent p there)
    by false p false =
        sym (then_assoc (nat_cmp e.left d.left) (nat_cmp e.right d.right) (int_cmp d.exponent e.exponent))
        ∙ ap (λ o. ordering_then o (int_cmp d.exponent e.exponent)) (pair_turned d e h)
        ∙ sym (is_above_zero d.exponent p there)

piece_ends : (d : DotPower) → 0 < nat_abs d.exponent → piece_order (piece_of_dot d) end_of_term ≡ int_cmp d.exponent (pos 0)
piece_ends d there = by (is_negative d.exponent) refl
  where
    by : (b : Bool) → is_negative d.exponent ≡ b → piece_order (dot_piece b d) end_of_term ≡ int_cmp d.exponent (pos 0)
    by true p = sym (is_below_zero d.exponent p)
    by false p = sym (is_above_zero d.exponent p there)

-- a pair that stands on the left alone, before all others
first_alone : (d : DotPower) (ds es : List DotPower) → 0 < nat_abs d.exponent → AllAfter d es → dots_order (d ∷ ds) es ≡ int_cmp d.exponent (pos 0)
first_alone d ds [] there after = dots_left d ds ∙ piece_ends d there
first_alone d ds (e ∷ es) there after =
    let first = earlier_pieces d e after.0 there in
    dots_first d ds e es (λ x. differs d.exponent there (sym first ∙ x)) ∙ first

-- ---- the first difference

-- dot products in order, none with exponent 0
abbrev Rises : List DotPower → Type 0
Rises [] = Unit {0}
Rises (d ∷ ds) = (AllAfter d ds × (0 < nat_abs d.exponent)) × Rises ds

rises : (ds : List DotPower) → IsStrictlySortedBy pair_order ds → AllByRecursion (λ d. 0 < nat_abs d.exponent) ds → Rises ds
unfolding IsStrictlySortedBy
rises [] h k = tt
rises (d ∷ ds) h k = ((h.0, k.0), rises ds h.1 k.1)

module _ (k : DotPower) where
  -- before that pair the exponents agree
  abbrev Agree : List DotPower → List DotPower → Type 0
  Agree ds es = (j : DotPower) → pair_order j k ≡ Less → at_pair ds j ≡ at_pair es j

  abbrev at_first : List DotPower → List DotPower → Ordering
  at_first ds es = int_cmp (at_pair ds k) (at_pair es k)

  exponents_are : (ds es : List DotPower) (x y : ℤ) → at_pair ds k ≡ x → at_pair es k ≡ y → at_first ds es ≡ int_cmp x y
  exponents_are ds es x y e f = ap (λ z. int_cmp z (at_pair es k)) e ∙ ap (int_cmp x) f

  both_absent : (ds es : List DotPower) → AllAfter k ds → AllAfter k es → at_first ds es ≡ Equal
  both_absent ds es h i = exponents_are ds es (pos 0) (pos 0) (absent ds k h) (absent es k i) ∙ tied_itself int_cmp_total (pos 0)

  left_decides : (d : DotPower) (ds es : List DotPower) → AllAfter d ds → 0 < nat_abs d.exponent → AllAfter d es → Agree (d ∷ ds) es → at_first (d ∷ ds) es ≢ Equal → dots_order (d ∷ ds) es ≡ at_first (d ∷ ds) es
  left_decides d ds es after there others agree differ = by (pair_order d k) refl
    where
      by : (o : Ordering) → pair_order d k ≡ o → dots_order (d ∷ ds) es ≡ at_first (d ∷ ds) es
      by Less h =
          let none : d.exponent ≡ pos 0 = sym (here d ds d (tied_itself pair_total d)) ∙ agree d h ∙ absent es d others in
          absurd (omega (arith, there, ap nat_abs none))
      by Equal h =
          first_alone d ds es there others
          ∙ sym (exponents_are (d ∷ ds) es d.exponent (pos 0) (here d ds k h) (absent es k (after_same k d es (tied_back pair_total d k h) others)))
      by Greater h =
          let lower = pair_back d k h in
          absurd (differ (both_absent (d ∷ ds) es (lower, after_later k d ds lower after) (after_later k d es lower others)))

  right_decides : (ds : List DotPower) (e : DotPower) (es : List DotPower) → AllAfter e es → 0 < nat_abs e.exponent → AllAfter e ds → Agree ds (e ∷ es) → at_first ds (e ∷ es) ≢ Equal → dots_order ds (e ∷ es) ≡ at_first ds (e ∷ es)
  right_decides ds e es after there others agree differ =
      dots_order_total.antisymm ds (e ∷ es)
      ∙ ap ordering_reverse (left_decides e es ds after there others (λ j h. sym (agree j h)) (λ x. differ (tied_back int_cmp_total (at_pair (e ∷ es) k) (at_pair ds k) x)))
      ∙ sym (int_cmp_total.antisymm (at_pair ds k) (at_pair (e ∷ es) k))

  -- a pair that stands on both sides, before all others
  both_decide : (d : DotPower) (ds : List DotPower) (e : DotPower) (es : List DotPower) → AllAfter d ds → AllAfter e es → pair_order d e ≡ Equal → Agree (d ∷ ds) (e ∷ es) → at_first (d ∷ ds) (e ∷ es) ≢ Equal
      → (Agree ds es → at_first ds es ≢ Equal → dots_order ds es ≡ at_first ds es) → dots_order (d ∷ ds) (e ∷ es) ≡ at_first (d ∷ ds) (e ∷ es)
  both_decide d ds e es after others same agree differ rest = by (pair_order d k) refl
    where
      -- the right one stands as the left one does
      alike : (j : DotPower) → pair_order e j ≡ pair_order d j
      alike j = pair_total.congr e d j (tied_back pair_total d e same)

      further : Agree ds es
      further j h = at (pair_order d j) refl
        where
          at : (o : Ordering) → pair_order d j ≡ o → at_pair ds j ≡ at_pair es j
          at Less p = sym (other d ds j (less_differs (pair_order d j) p)) ∙ agree j h ∙ other e es j (less_differs (pair_order e j) (alike j ∙ p))
          at Equal p = absent ds j (after_same j d ds (tied_back pair_total d j p) after) ∙ sym (absent es j (after_same j e es (tied_back pair_total e j (alike j ∙ p)) others))
          at Greater p = absent ds j (after_later j d ds (pair_back d j p) after) ∙ sym (absent es j (after_later j e es (pair_back e j (alike j ∙ p)) others))

      by : (o : Ordering) → pair_order d k ≡ o → dots_order (d ∷ ds) (e ∷ es) ≡ at_first (d ∷ ds) (e ∷ es)
      by Less h =
          let equal : d.exponent ≡ e.exponent = sym (here d ds d (tied_itself pair_total d)) ∙ agree d h ∙ here e es d (tied_back pair_total d e same) in
          let passed = same_pieces d e same ∙ ap (λ z. int_cmp z e.exponent) equal ∙ tied_itself int_cmp_total e.exponent in
          let left = other d ds k (less_differs (pair_order d k) h) in
          let right = other e es k (less_differs (pair_order e k) (alike k ∙ h)) in
          let left_here : at_first (d ∷ ds) (e ∷ es) ≡ at_first ds es = exponents_are (d ∷ ds) (e ∷ es) (at_pair ds k) (at_pair es k) left right in
          dots_next d ds e es passed ∙ rest further (λ x. differ (left_here ∙ x)) ∙ sym left_here
      by Equal h =
          let exponents : at_first (d ∷ ds) (e ∷ es) ≡ int_cmp d.exponent e.exponent = exponents_are (d ∷ ds) (e ∷ es) d.exponent e.exponent (here d ds k h) (here e es k (alike k ∙ h)) in
          dots_first d ds e es (λ x. differ (exponents ∙ sym (same_pieces d e same) ∙ x)) ∙ same_pieces d e same ∙ sym exponents
      by Greater h =
          let lower = pair_back d k h in
          let right = pair_back e k (alike k ∙ h) in
          absurd (differ (both_absent (d ∷ ds) (e ∷ es) (lower, after_later k d ds lower after) (right, after_later k e es right others)))

  first_decides : (ds es : List DotPower) → Rises ds → Rises es → Agree ds es → at_first ds es ≢ Equal → dots_order ds es ≡ at_first ds es
  first_decides [] [] h i agree differ = absurd (differ (tied_itself int_cmp_total (pos 0)))
  first_decides (d ∷ ds) [] h i agree differ = left_decides d ds [] h.0.0 h.0.1 tt agree differ
  first_decides [] (e ∷ es) h i agree differ = right_decides [] e es i.0.0 i.0.1 tt agree differ
  first_decides (d ∷ ds) (e ∷ es) h i agree differ = by (pair_order d e) refl (first_decides ds es h.1 i.1)
    where
      by : (o : Ordering) → pair_order d e ≡ o → (Agree ds es → at_first ds es ≢ Equal → dots_order ds es ≡ at_first ds es) → dots_order (d ∷ ds) (e ∷ es) ≡ at_first (d ∷ ds) (e ∷ es)
      by Less p rest = left_decides d ds (e ∷ es) h.0.0 h.0.1 (p, after_later d e es p i.0.0) agree differ
      by Equal p rest = both_decide d ds e es h.0.0 i.0.0 p agree differ rest
      by Greater p rest = let lower = pair_back d e p in right_decides (d ∷ ds) e es i.0.0 i.0.1 (lower, after_later e d ds lower h.0.0) agree differ

-- where `i_` and the symbols agree, the first pair of vectors whose exponents differ decides
pub dots_decide : (t u : Term) (left right : ℕ) → IsTerm t → IsTerm u → t.others.is_imaginary ≡ u.others.is_imaginary → ((symbol : ℕ) → exponent_of t symbol ≡ exponent_of u symbol)
    → ((p q : ℕ) → IsPairBefore p q left right → dot_exponent_of t p q ≡ dot_exponent_of u p q) → dot_exponent_of t left right ≢ dot_exponent_of u left right → order t u ≡ int_cmp (dot_exponent_of t left right) (dot_exponent_of u left right)
unfolding order
dots_decide t u left right h i imaginary symbols agree differ =
    let k : DotPower = record { left = left; right = right; exponent = pos 0 } in
    let differs_here : int_cmp (dot_exponent_of t left right) (dot_exponent_of u left right) ≢ Equal = λ e. differ (exact_signed (dot_exponent_of t left right) (dot_exponent_of u left right) e) in
    let rest : Ordering = ordering_then (slice_cmp component_order t.others.components u.others.components) (ordering_then (slice_cmp delta_order t.others.deltas u.others.deltas) (ordering_then (slice_cmp call_order t.others.functions u.others.functions) (slice_cmp call_order t.others.word u.others.word))) in
    let same : nat_cmp (imaginary_exponent t) (imaginary_exponent u) ≡ Equal = ap (λ (b : Bool). nat_cmp (if b then 1 else 0) (imaginary_exponent u)) imaginary ∙ tied_itself nat_cmp_total (imaginary_exponent u) in
    let powers = powers_from_exponents t.symbols u.symbols (h.rising, h.present) (i.rising, i.present) symbols in
    let alike : symbols_order t.symbols u.symbols ≡ Equal = ap (λ ps. symbols_order ps u.symbols) powers ∙ tied_itself symbols_order_total u.symbols in
    let decided = first_decides k t.others.dots u.others.dots
    (rises t.others.dots h.others.dots_rise (recursion_from_All (λ (d : DotPower). 0 < nat_abs d.exponent) t.others.dots h.others.dots_present))
    (rises u.others.dots i.others.dots_rise (recursion_from_All (λ (d : DotPower). 0 < nat_abs d.exponent) u.others.dots i.others.dots_present))
    (λ j before. agree j.left j.right before) differs_here in
    ap (λ o. ordering_then o (ordering_then (symbols_order t.symbols u.symbols) (others_order t.others u.others))) same
    ∙ ap (λ o. ordering_then o (others_order t.others u.others)) alike
    ∙ ap (λ o. ordering_then o rest) decided
    ∙ then_first (int_cmp (dot_exponent_of t left right) (dot_exponent_of u left right)) rest differs_here
