-- Pieces of different kinds: the order is that of their kinds.
use Rattle.std.proofs.Common.{◌≡◌, ◌≢◌, ℕ, ◌<◌, ◌≤◌, ℤ, pos, negsuc, ◌<ℤ◌, nat_abs, nat_lt, true, false, true≢false, List, [], ◌∷◌, ◌++◌, refl, sym, ap, ◌∙◌, arith, append_assoc, lt-ltb, le-ltb}
use Rattle.std.specs.Prelude.{flat_map}
use Rattle.std.specs.Int.{is_negative}
use Rattle.std.specs.List.{AllByRecursion}
use Rattle.std.specs.Ordering.{int_cmp, nat_cmp, ordering_then, ordering_reverse}
use Rattle.std.specs.Cmp.{int_cmp_is, nat_cmp_is}
use Rattle.std.specs.Cmp.Lexicographic.{slice_cmp}
use Rattle.std.specs.declared.cmp.Ordering.{Ordering}
use Rattle.std.specs.declared.cmp.Ordering.TheVariants.{Less, Equal, Greater}
use Rattle.std.proofs.lemmas.Cmp.{int_cmp_total}
use Rattle.std.proofs.lemmas.Int.{ints}
use Rattle.form_term.specs.declared.piece.Piece.{Piece}
use Rattle.form_term.specs.declared.piece.Piece.TheVariants as pieces
use Rattle.form_term.specs.Pieces.{piece_order}
use Rattle.form_term.specs.TermLaws.{pieces_total}

-- ---- numbers

pub below : (x y : ℤ) → is_negative x ≡ true → is_negative y ≡ false → int_cmp x y ≡ Less
below (pos m) y e f = let k : is_negative (pos m) ≡ false = le-ltb m 0 (omega arith) in absurd (true≢false (sym e ∙ k))
below (negsuc m) (pos n) e f = let h : negsuc m <ℤ pos n = omega (arith, ints) in sym (int_cmp_is (negsuc m) (pos n) Less h)
below (negsuc m) (negsuc n) e f = absurd (true≢false f)

pub above : (x y : ℤ) → is_negative x ≡ false → is_negative y ≡ true → int_cmp x y ≡ Greater
above x y e f = int_cmp_total.antisymm x y ∙ ap ordering_reverse (below y x f e)

pub is_below_zero : (x : ℤ) → is_negative x ≡ true → int_cmp x (pos 0) ≡ Less
is_below_zero x e = below x (pos 0) e (le-ltb 0 0 (omega arith))

pub is_above_zero : (x : ℤ) → is_negative x ≡ false → 0 < nat_abs x → int_cmp x (pos 0) ≡ Greater
is_above_zero (pos m) e there = let s : 0 < m = there in let h : pos 0 <ℤ pos m = omega (arith, ints) in sym (int_cmp_is (pos m) (pos 0) Greater h)
is_above_zero (negsuc m) e there = absurd (true≢false e)

pub is_lower : (m n : ℕ) → m < n → nat_cmp m n ≡ Less
is_lower m n h = sym (nat_cmp_is m n Less h)

pub is_higher : (m n : ℕ) → n < m → nat_cmp m n ≡ Greater
is_higher m n h = sym (nat_cmp_is m n Greater h)

-- ---- orderings

pub less_differs : (o : Ordering) → o ≡ Less → o ≢ Equal
less_differs o e h = let c : Less ≡ Equal = sym e ∙ h in absurd (cc)

pub greater_differs : (o : Ordering) → o ≡ Greater → o ≢ Equal
greater_differs o e h = let c : Greater ≡ Equal = sym e ∙ h in absurd (cc)

pub then_assoc : (r s t : Ordering) → ordering_then (ordering_then r s) t ≡ ordering_then r (ordering_then s t)
then_assoc Less s t = refl
then_assoc Equal s t = refl
then_assoc Greater s t = refl

-- ---- kinds

abbrev pub rank : Piece → ℕ
rank pieces.EndOfArguments = 0
rank pieces.EndOfSum = 1
rank (pieces.Negative p) = 2
rank (pieces.NegativeDot d) = 3
rank (pieces.EndOfTerm c) = 4
rank (pieces.NonCommuting f) = 5
rank (pieces.Function f) = 6
rank (pieces.Delta d) = 7
rank (pieces.Component c) = 8
rank (pieces.PositiveDot p q x) = 9
rank (pieces.Positive s x) = 10
rank pieces.Imaginary = 11
rank (pieces.Index i) = 12
rank (pieces.Vector v) = 13
rank pieces.Sum = 14

by_rank : (p q : Piece) → nat_lt (rank p) (rank q) ≡ true → piece_order p q ≡ Less
by_rank pieces.EndOfArguments pieces.EndOfArguments e = absurd (true≢false (sym e))
by_rank pieces.EndOfSum pieces.EndOfSum e = absurd (true≢false (sym e))
by_rank (pieces.Negative p) (pieces.Negative q) e = absurd (true≢false (sym e))
by_rank (pieces.NegativeDot p) (pieces.NegativeDot q) e = absurd (true≢false (sym e))
by_rank (pieces.EndOfTerm c) (pieces.EndOfTerm d) e = absurd (true≢false (sym e))
by_rank (pieces.NonCommuting f) (pieces.NonCommuting g) e = absurd (true≢false (sym e))
by_rank (pieces.Function f) (pieces.Function g) e = absurd (true≢false (sym e))
by_rank (pieces.Delta c) (pieces.Delta d) e = absurd (true≢false (sym e))
by_rank (pieces.Component c) (pieces.Component d) e = absurd (true≢false (sym e))
by_rank (pieces.PositiveDot p q x) (pieces.PositiveDot r s y) e = absurd (true≢false (sym e))
by_rank (pieces.Positive p x) (pieces.Positive q y) e = absurd (true≢false (sym e))
by_rank pieces.Imaginary pieces.Imaginary e = absurd (true≢false (sym e))
by_rank (pieces.Index i) (pieces.Index j) e = absurd (true≢false (sym e))
by_rank (pieces.Vector v) (pieces.Vector w) e = absurd (true≢false (sym e))
by_rank pieces.Sum pieces.Sum e = absurd (true≢false (sym e))
by_rank p q e = cc

-- a piece of an earlier kind comes first
pub lower_first : (p q : Piece) → rank p < rank q → piece_order p q ≡ Less
lower_first p q h = by_rank p q (lt-ltb (rank p) (rank q) h)

pub higher_last : (p q : Piece) → rank q < rank p → piece_order p q ≡ Greater
higher_last p q h = pieces_total.antisymm p q ∙ ap ordering_reverse (lower_first q p h)

-- ---- lists by their first pieces

-- pieces that begin with one of such kinds
pub record StartsIn (low high : ℕ) (ps : List Piece) : Type 0 where
  pub first : Piece
  pub more : List Piece
  pub is : ps ≡ first ∷ more
  pub from : low ≤ rank first
  pub to : rank first < high

pub wider : {low high lower higher : ℕ} (ps : List Piece) → lower ≤ low → high ≤ higher → StartsIn low high ps → StartsIn lower higher ps
wider ps h k s = record { first = s.first; more = s.more; is = s.is; from = omega (arith, s.from, h); to = omega (arith, s.to, k) }

-- where the one list begins with a lower kind, it comes first
pub starts_lower : {low middle high : ℕ} (ps qs : List Piece) → StartsIn low middle ps → StartsIn middle high qs → slice_cmp piece_order ps qs ≡ Less
starts_lower ps qs s t =
    let decides = lower_first s.first t.first (omega (arith, s.to, t.from)) in
    ap (λ xs. slice_cmp piece_order xs qs) s.is ∙ ap (λ ys. slice_cmp piece_order (s.first ∷ s.more) ys) t.is ∙ ap (λ r. ordering_then r (slice_cmp piece_order s.more t.more)) decides

pub starts_higher : {low middle high : ℕ} (ps qs : List Piece) → StartsIn middle high ps → StartsIn low middle qs → slice_cmp piece_order ps qs ≡ Greater
starts_higher ps qs s t =
    let decides = higher_last s.first t.first (omega (arith, t.to, s.from)) in
    ap (λ xs. slice_cmp piece_order xs qs) s.is ∙ ap (λ ys. slice_cmp piece_order (s.first ∷ s.more) ys) t.is ∙ ap (λ r. ordering_then r (slice_cmp piece_order s.more t.more)) decides

-- Lists of things of one kind, behind which pieces of lower kinds stand: as the lists, a front first, and then as what is behind them.
module _ {A : Type 0} (R : A → A → Ordering) (P : A → Type 0) (pieces_of : A → List Piece) {low middle high : ℕ}
    (starts : (x : A) → P x → (rest : List Piece) → StartsIn middle high (pieces_of x ++ rest))
    (compared : (x y : A) → P x → P y → (r s : List Piece) → slice_cmp piece_order (pieces_of x ++ r) (pieces_of y ++ s) ≡ ordering_then (R x y) (slice_cmp piece_order r s)) where
  pub lists_compared : (xs ys : List A) → AllByRecursion P xs → AllByRecursion P ys → (r s : List Piece) → StartsIn low middle r → StartsIn low middle s
      → slice_cmp piece_order (flat_map pieces_of xs ++ r) (flat_map pieces_of ys ++ s) ≡ ordering_then (slice_cmp R xs ys) (slice_cmp piece_order r s)
  lists_compared [] [] h k r s p q = refl
  lists_compared [] (y ∷ ys) h k r s p q =
      ap (λ zs. slice_cmp piece_order r zs) (append_assoc (pieces_of y) (flat_map pieces_of ys) s)
      ∙ starts_lower r (pieces_of y ++ (flat_map pieces_of ys ++ s)) p (starts y k.0 (flat_map pieces_of ys ++ s))
  lists_compared (x ∷ xs) [] h k r s p q =
      ap (λ zs. slice_cmp piece_order zs s) (append_assoc (pieces_of x) (flat_map pieces_of xs) r)
      ∙ starts_higher (pieces_of x ++ (flat_map pieces_of xs ++ r)) s (starts x h.0 (flat_map pieces_of xs ++ r)) q
  lists_compared (x ∷ xs) (y ∷ ys) h k r s p q =
      ap (λ zs. slice_cmp piece_order zs ((pieces_of y ++ flat_map pieces_of ys) ++ s)) (append_assoc (pieces_of x) (flat_map pieces_of xs) r)
      ∙ ap (λ zs. slice_cmp piece_order (pieces_of x ++ (flat_map pieces_of xs ++ r)) zs) (append_assoc (pieces_of y) (flat_map pieces_of ys) s)
      ∙ compared x y h.0 k.0 (flat_map pieces_of xs ++ r) (flat_map pieces_of ys ++ s)
      ∙ ap (ordering_then (R x y)) (lists_compared xs ys h.1 k.1 r s p q)
      ∙ sym (then_assoc (R x y) (slice_cmp R xs ys) (slice_cmp piece_order r s))

  -- with what they themselves begin with
  pub lists_start : (xs : List A) → AllByRecursion P xs → (r : List Piece) → StartsIn low middle r → low ≤ middle → middle ≤ high → StartsIn low high (flat_map pieces_of xs ++ r)
  lists_start [] h r p l m = wider r (omega arith) m p
  lists_start (x ∷ xs) h r p l m =
      let s = starts x h.0 (flat_map pieces_of xs ++ r) in
      record { first = s.first; more = s.more; is = append_assoc (pieces_of x) (flat_map pieces_of xs) r ∙ s.is; from = omega (arith, s.from, l); to = s.to }
