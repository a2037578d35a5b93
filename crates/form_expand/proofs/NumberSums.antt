-- Arguments that are sums of products of numbers.
use Rattle.std.proofs.Common.{◌≡◌, ℕ, suc, ◌+◌, ◌<◌, ◌≤◌, Bool, true, false, List, [], ◌∷◌, ◌++◌, length, map, refl, sym, ap, subst, ◌∙◌, arith}
use Rattle.std.specs.Prelude.{ℤ, Option, Some, None, Ok, IfSome, fold, option_and_then, option_map}
use Rattle.std.specs.Borrow.{Bor}
use Rattle.std.specs.Ordering.{eq_by_cmp}
use Rattle.std.specs.Cmp.{Equal-is}
use Rattle.std.proofs.lemmas.Cmp.{tied_itself}
use Rattle.std.proofs.lemmas.List.{length-append, map-append}
use Rattle.std.proofs.lemmas.List.Sums.{fold-append}
use Rattle.std.proofs.lemmas.Option.{same_Some}
use Rattle.form_frac.specs.Fraction.{Fraction, IsLowest, add, multiply, is_zero}
use Rattle.form_term.specs.Monomial.{unit, summands_of}
use Rattle.form_term.specs.Term.{order, one, expression}
use Rattle.form_term.specs.TermLaws.{order_total}
use Rattle.form_collect.specs.Collecting.{collected, terms_of, with_term, with_totals, coefficients_at, total}
use Rattle.form_normal.specs.Lists.{in_order, dots_product}
use Rattle.form_normal.specs.Product.{product, product_of, symbols_product, others_product, number_alone}
use Rattle.form_tree.specs.declared.tree.Link.{Link}
use Rattle.form_tree.specs.declared.tree.Link.TheVariants as links
use Rattle.form_tree.specs.declared.tree.Piece.{Piece}
use Rattle.form_tree.specs.declared.tree.Piece.TheVariants as pieces
use Rattle.form_expand.specs.declared.number_sum.Adding.{Adding}
use Rattle.form_expand.specs.Bound.{wild_list}
use Rattle.form_expand.specs.Calls.{called}
use Rattle.form_expand.specs.Left.{row}
use Rattle.form_expand.specs.Listing.{Listing, nothing, single, limited, followed, powers, signed, with_sign}
use Rattle.form_expand.specs.Literals.{IsTimes}
use Rattle.form_expand.specs.Meanings.{Meanings}
use Rattle.form_expand.specs.Numbers.{number_list}
use Rattle.form_expand.specs.NumberSums.{IsNumberPiece, IsNumberArgument, IsEndOfSum, with_minus, added, total_of, begun_sum, further_sum}
use Rattle.form_expand.specs.Reading.{Part, Frame, Reading, in_sum, in_function, fresh, closed, begun, linked, with_factor, with_piece, fed, read_from}
use Rattle.form_expand.specs.Singles.{argument_of, of_collected}
use Rattle.form_expand.specs.Walks.{all_of}
use Rattle.form_expand.proofs.Behind.{linked_first}
use Rattle.form_expand.proofs.Called.{expression_read}
use Rattle.form_expand.proofs.Listings.{followed_last, limited_within, taken_on}
use Rattle.form_expand.proofs.Literals.{IsOne, one_more, one_row}

-- ---- numbers are multiplied and collected

-- 1 times a number is that number
abbrev pub StandAlone : Type 0
StandAlone = (f : Fraction) → IsLowest f → product_of unit (number_alone f) ≡ Ok (Some (number_alone f))

pub product_of_numbers : (p q r : Fraction) → multiply p q ≡ Some r → product_of (number_alone p) (number_alone q) ≡ Ok (Some (number_alone r))
unfolding product symbols_product others_product dots_product in_order
product_of_numbers p q r e = rw e refl

number_times : StandAlone → (p q r : Fraction) → IsLowest q → multiply p q ≡ Some r → IsTimes (single (number_alone q)) (number_alone p) (number_alone r)
number_times law p q r lowest e = record { factor = number_alone q; alone = refl; by_one = law q lowest; product = product_of_numbers p q r e }

-- these numbers are together that; none are none
abbrev pub IsTotal : Option Fraction → List Fraction → Type 0
IsTotal None [] = Unit {0}
IsTotal None (q ∷ qs) = ⊥
IsTotal (Some s) [] = ⊥
IsTotal (Some s) (q ∷ qs) = total (q ∷ qs) ≡ Some s

total_behind : (sum : Option Fraction) (qs : List Fraction) (last s : Fraction) → IsTotal sum qs → added sum last ≡ Some s → IsTotal (Some s) (qs ++ last ∷ [])
total_behind None [] last s h e = e
total_behind None (q ∷ qs) last s h e = absurd h
total_behind (Some t) [] last s h e = absurd h
total_behind (Some t) (q ∷ qs) last s h e =
    fold-append (λ sum f. option_and_then (λ a. add a f) sum) (Some q) qs (last ∷ [])
    ∙ ap (option_and_then (λ a. add a last)) h
    ∙ e

one_term : (qs : List Fraction) → fold (λ ts m. with_term m.term ts) (one ∷ []) (map number_alone qs) ≡ one ∷ []
one_term [] = refl
one_term (q ∷ qs) = ap (λ ts. fold (λ ts m. with_term m.term ts) ts (map number_alone qs)) again ∙ one_term qs
  where
    again : with_term one (one ∷ []) ≡ one ∷ []
    again = rw (tied_itself order_total one) refl

all_at : (qs : List Fraction) → coefficients_at one (map number_alone qs) ≡ qs
all_at [] = refl
all_at (q ∷ qs) =
    let itself : eq_by_cmp order one one ≡ true = (Equal-is (order one one)).1 (tied_itself order_total one) in
    rw itself (ap (λ cs. q ∷ cs) (all_at qs))

numbers_collected : (qs : List Fraction) (s : Fraction) → IsTotal (Some s) qs → is_zero s ≡ false → collected (map number_alone qs) ≡ Some (number_alone s ∷ [])
unfolding collected terms_of
numbers_collected [] s h present = absurd h
numbers_collected (q ∷ qs) s h present =
    ap (with_totals (map number_alone (q ∷ qs))) (one_term qs)
    ∙ rw (all_at (q ∷ qs), h, present) refl

-- ---- a sum is read

-- a sum of which these products are read, and of the product at hand these factors
abbrev part_of : ℕ → Bool → List Fraction → List Listing → Part
part_of max is_minus sums factors = record { max = max; sum = all_of (map number_alone sums); is_minus = is_minus; factors = factors }

negated_number : (is_minus : Bool) (q : Fraction) → with_sign is_minus (number_alone q) ≡ number_alone (with_minus is_minus q)
negated_number true q = refl
negated_number false q = refl

closed_sum : (max : ℕ) (is_minus : Bool) (sums : List Fraction) (factors : List Listing) (q : Fraction) → IsOne max factors (number_alone q) → 0 < length factors → length sums + 1 ≤ max
    → closed (part_of max is_minus sums factors) ≡ all_of (map number_alone (sums ++ with_minus is_minus q ∷ []))
unfolding closed
closed_sum max is_minus sums factors q alone some room =
    let terms = map number_alone sums in
    let term = with_sign is_minus (number_alone q) in
    let within : length (terms ++ term ∷ []) ≤ max = omega (arith, length-append terms (term ∷ []), length_numbers sums, room) in
    ap (λ r. limited max (followed (all_of terms) (signed is_minus r))) (one_row max factors (number_alone q) some alone ∙ limited_within max (single (number_alone q)) (omega (arith, room)))
    ∙ ap (limited max) (taken_on terms term nothing ∙ followed_last (all_of (terms ++ term ∷ [])))
    ∙ limited_within max (all_of (terms ++ term ∷ [])) within
    ∙ ap (λ m. all_of (terms ++ m ∷ [])) (negated_number is_minus q)
    ∙ ap all_of (sym (map-append number_alone sums (with_minus is_minus q ∷ [])))
  where
    length_numbers : (qs : List Fraction) → length (map number_alone qs) ≡ length qs
    length_numbers [] = refl
    length_numbers (r ∷ qs) = ap suc (length_numbers qs)

module _ (max : ℕ) (all : Meanings) (law : StandAlone) where
  -- So much of a sum is read of the pieces.
  pub record IsAddedTo (ps : List Piece) (a : Adding) (rest : List Piece) : Type 0 where
    pub sums : List Fraction
    pub factors : List Listing
    pub total : IsTotal a.sum sums
    pub alone : IsOne max factors (number_alone a.product)
    pub some : 0 < length factors
    pub room : length sums + 1 + length rest ≤ length ps
    pub read : (outer : List Frame) → read_from all (record { top = in_sum (fresh max); outer = outer }) ps
        ≡ read_from all (record { top = in_sum (part_of max a.is_minus sums factors); outer = outer }) rest

  -- its first factor
  pub sum_begun : (ps : List Piece) (piece : Piece) (more : List Piece) (link : Link) (q : Fraction) → ps ≡ piece ∷ more → IsNumberPiece all piece link q → IsAddedTo ps (begun_sum link q) more
  unfolding read_from row powers
  sum_begun ps piece more link q is h = record {
    sums = [];
    factors = limited max (single (number_alone q)) ∷ [];
    total = tt;
    alone = one_more max [] (single (number_alone q)) unit (number_alone q) refl (record { factor = number_alone q; alone = refl; by_one = law q h.lowest; product = law q h.lowest });
    some = omega arith;
    room = omega (arith, ap length is);
    read = λ outer.
        ap (read_from all (record { top = in_sum (fresh max); outer = outer })) is
        ∙ ap (λ (r : Reading). read_from all r more) (h.read (record { top = in_sum (fresh max); outer = outer }))
        ∙ ap (λ (p : Part). read_from all (record { top = in_sum (with_factor (single (number_alone q)) 1 p); outer = outer }) more) (linked_first max link);
  }

  module _ (ps here : List Piece) (piece : Piece) (more : List Piece) (a : Adding) (q : Fraction) (is : here ≡ piece ∷ more) (h : IsAddedTo ps a here) where
    -- a further factor of its last product
    sum_times : (p : Fraction) → IsNumberPiece all piece links.Times q → multiply a.product q ≡ Some p → IsAddedTo ps (record { sum = a.sum; is_minus = a.is_minus; product = p }) more
    unfolding read_from powers
    sum_times p here_read made = record {
      sums = h.sums;
      factors = h.factors ++ limited max (single (number_alone q)) ∷ [];
      total = h.total;
      alone = one_more max h.factors (single (number_alone q)) (number_alone a.product) (number_alone p) h.alone (number_times law a.product q p here_read.lowest made);
      some = omega (arith, length-append h.factors (limited max (single (number_alone q)) ∷ []));
      room = omega (arith, ap length is, h.room);
      read = λ outer.
          let r : Reading = record { top = in_sum (part_of max a.is_minus h.sums h.factors); outer = outer } in
          h.read outer ∙ ap (read_from all r) is ∙ ap (λ (r : Reading). read_from all r more) (here_read.read r);
    }

    -- the first factor of a further product
    sum_then : (link : Link) (is_minus : Bool) (s : Fraction) → ((p : Part) → linked link p ≡ begun is_minus p) → IsNumberPiece all piece link q → length ps ≤ max → total_of a ≡ Some s
        → IsAddedTo ps (record { sum = Some s; is_minus = is_minus; product = q }) more
    unfolding read_from row powers
    sum_then link is_minus s begins here_read fits made =
        let last = with_minus a.is_minus a.product in
        let part = part_of max a.is_minus h.sums h.factors in
        record {
          sums = h.sums ++ last ∷ [];
          factors = limited max (single (number_alone q)) ∷ [];
          total = total_behind a.sum h.sums last s h.total made;
          alone = one_more max [] (single (number_alone q)) unit (number_alone q) refl (record { factor = number_alone q; alone = refl; by_one = law q here_read.lowest; product = law q here_read.lowest });
          some = omega arith;
          room = omega (arith, ap length is, h.room, length-append h.sums (last ∷ []));
          read = λ outer.
              let r : Reading = record { top = in_sum part; outer = outer } in
              h.read outer ∙ ap (read_from all r) is ∙ ap (λ (x : Reading). read_from all x more) (here_read.read r)
              ∙ ap (λ (p : Part). read_from all (record { top = in_sum (with_factor (single (number_alone q)) 1 p); outer = outer }) more) (begins part)
              ∙ ap (λ (l : Listing). read_from all (record { top = in_sum (with_factor (single (number_alone q)) 1 (record { max = max; sum = l; is_minus = is_minus; factors = [] })); outer = outer }) more)
              (closed_sum max a.is_minus h.sums h.factors a.product h.alone h.some (omega (arith, ap length is, h.room, fits)));
        }

    behind : (link : Link) (is_minus : Bool) (found : Option Fraction) (new : Adding) → ((p : Part) → linked link p ≡ begun is_minus p) → IsNumberPiece all piece link q → length ps ≤ max → total_of a ≡ found
        → option_map (λ s. record { sum = Some s; is_minus = is_minus; product = q }) found ≡ Some new → IsAddedTo ps new more
    behind link is_minus None new begins here_read fits made e = absurd (cc)
    behind link is_minus (Some s) new begins here_read fits made e =
        subst (λ (b : Adding). IsAddedTo ps b more) (same_Some _ _ e) (sum_then link is_minus s begins here_read fits made)

    onto : (found : Option Fraction) (new : Adding) → IsNumberPiece all piece links.Times q → multiply a.product q ≡ found
        → option_map (λ p. record { sum = a.sum; is_minus = a.is_minus; product = p }) found ≡ Some new → IsAddedTo ps new more
    onto None new here_read made e = absurd (cc)
    onto (Some p) new here_read made e = subst (λ (b : Adding). IsAddedTo ps b more) (same_Some _ _ e) (sum_times p here_read made)

    -- a further factor
    pub sum_further : (link : Link) (new : Adding) → IsNumberPiece all piece link q → length ps ≤ max → further_sum a link q ≡ Some new → IsAddedTo ps new more
    sum_further links.Times new here_read fits e = onto (multiply a.product q) new here_read refl e
    sum_further links.Plus new here_read fits e = behind links.Plus false (total_of a) new (λ p. refl) here_read fits refl e
    sum_further links.Minus new here_read fits e = behind links.Minus true (total_of a) new (λ p. refl) here_read fits refl e

  -- its end
  pub sum_ended : (ps here : List Piece) (piece : Piece) (rest : List Piece) (a : Adding) (q : Fraction) → here ≡ piece ∷ rest → IsAddedTo ps a here → length ps ≤ max → IsEndOfSum a piece q → IsNumberArgument max all ps q rest
  unfolding read_from fed argument_of
  sum_ended ps here piece rest a q is h fits end =
      let part = part_of max a.is_minus h.sums h.factors in
      let qs = h.sums ++ with_minus a.is_minus a.product ∷ [] in
      let argument : argument_of (closed part) ≡ Ok (expression (summands_of (number_alone q ∷ []))) =
      ap argument_of (closed_sum max a.is_minus h.sums h.factors a.product h.alone h.some (omega (arith, ap length is, h.room, fits)))
      ∙ ap of_collected (numbers_collected qs q (total_behind a.sum h.sums (with_minus a.is_minus a.product) q h.total end.total) end.present) in
      record {
        present = end.present;
        read = λ old new put. record {
          further = λ f k args e.
              expression_read max all f k old new args e _ (closed part) (number_alone q ∷ []) rest
              (h.read (in_function (called max f k args) ∷ [])
              ∙ ap (read_from all (record { top = in_sum part; outer = in_function (called max f k args) ∷ [] })) (is ∙ ap (λ p. p ∷ rest) end.ends))
              argument put;
          shorter = omega (arith, ap length is, h.room);
        };
      }

  pub sum_ended_at : (ps here : List Piece) (piece : Piece) (rest : List Piece) (a : Adding) (found : Option (Fraction × Bor (List Piece))) → here ≡ piece ∷ rest → IsAddedTo ps a here → length ps ≤ max
      → IfSome found (λ end. IsEndOfSum a piece end.0 × (end.1.now ≡ rest)) → IfSome found (λ end. IsNumberArgument max all ps end.0 end.1.now)
  sum_ended_at ps here piece rest a None is h fits end = tt
  sum_ended_at ps here piece rest a (Some found) is h fits end =
      subst (λ (qs : List Piece). IsNumberArgument max all ps found.0 qs) (sym end.1) (sum_ended ps here piece rest a found.0 is h fits end.0)

-- ---- a piece that is a number

module _ (all : Meanings) (piece : Piece) (link : Link) where
  pub number_piece : (found : Option (Link × Fraction)) (number : Option Fraction) (value : ℕ) (power : ℤ) → piece ≡ pieces.Number link value power → IfSome found (λ read. (read.0 ≡ link) × (number ≡ Some read.1))
      → IfSome number (λ q. (number_list value power ≡ single (number_alone q)) × IsLowest q) → IfSome found (λ read. IsNumberPiece all piece read.0 read.1)
  unfolding fed
  number_piece None number value power is l h = tt
  number_piece (Some read) number value power is l h =
      let one = subst (λ (n : Option Fraction). IfSome n (λ q. (number_list value power ≡ single (number_alone q)) × IsLowest q)) l.1 h in
      record {
        read = λ r. ap (fed all r) is ∙ ap (λ (x : Listing). with_piece link x 1 r) one.0 ∙ ap (λ (k : Link). with_piece k (single (number_alone read.1)) 1 r) (sym l.0);
        lowest = one.1;
      }

  pub wild_piece : (found : Option (Link × Fraction)) (number : Option Fraction) (symbol : ℕ) (is_over : Bool) (power : ℤ) → piece ≡ pieces.Wild link symbol is_over power → IfSome found (λ read. (read.0 ≡ link) × (number ≡ Some read.1))
      → IfSome number (λ q. (wild_list all symbol is_over power ≡ (single (number_alone q), 1)) × IsLowest q) → IfSome found (λ read. IsNumberPiece all piece read.0 read.1)
  unfolding fed
  wild_piece None number symbol is_over power is l h = tt
  wild_piece (Some read) number symbol is_over power is l h =
      let one = subst (λ (n : Option Fraction). IfSome n (λ q. (wild_list all symbol is_over power ≡ (single (number_alone q), 1)) × IsLowest q)) l.1 h in
      record {
        read = λ r. ap (fed all r) is ∙ ap (λ (x : Listing × ℕ). with_piece link x.0 x.1 r) one.0 ∙ ap (λ (k : Link). with_piece k (single (number_alone read.1)) 1 r) (sym l.0);
        lowest = one.1;
      }
