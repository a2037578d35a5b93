-- Arguments that are one piece.
use Rattle.std.proofs.Common.{◌≡◌, ℕ, ◌<◌, ◌≤◌, Bool, true, false, List, [], ◌∷◌, ◌++◌, length, take, drop, refl, sym, ap, subst, ◌∙◌, arith}
use Rattle.std.specs.Prelude.{ℤ, nat_abs, Option, Some, None, Ok, IfSome}
use Rattle.std.specs.Ordering.{eq_by_cmp}
use Rattle.std.specs.Cmp.{Equal-is}
use Rattle.std.proofs.lemmas.Cmp.{tied_itself}
use Rattle.std.proofs.lemmas.Bool.{le-leb, lt-ltb}
use Rattle.form_frac.specs.Fraction.{Fraction, is_zero}
use Rattle.form_term.specs.declared.arguments.Arguments.{Arguments}
use Rattle.form_term.specs.declared.monomial.Monomial.{Monomial}
use Rattle.form_term.specs.Monomial.{summands_of}
use Rattle.form_term.specs.Term.{order, symbol_power, largest_exponent, pieces_of_argument, expression}
use Rattle.form_term.specs.TermLaws.{order_total}
use Rattle.form_collect.specs.Collecting.{collected, terms_of}
use Rattle.form_normal.specs.Product.{number_alone}
use Rattle.form_tree.specs.declared.tree.Link.{Link}
use Rattle.form_tree.specs.declared.tree.Piece.{Piece}
use Rattle.form_tree.specs.declared.tree.Piece.TheVariants as pieces
use Rattle.form_expand.specs.declared.ended.Ended.TheVariants as ends
use Rattle.form_expand.specs.declared.literal_arguments.Lone.{Lone}
use Rattle.form_expand.specs.declared.literal_arguments.Lone.TheVariants as lones
use Rattle.form_expand.specs.Bound.{wild_list}
use Rattle.form_expand.specs.Closings.{closing_at}
use Rattle.form_expand.specs.Left.{row, row_behind}
use Rattle.form_expand.specs.Listing.{Listing, single, limited, powers}
use Rattle.form_expand.specs.Literals.{IsArguedWithin, ReadsProduct}
use Rattle.form_expand.specs.Lones.{term_of, argument_of, IsPresent, IsLone}
use Rattle.form_expand.specs.Meanings.{Meanings}
use Rattle.form_expand.specs.Numbers.{number_list, symbol_list}
use Rattle.form_expand.specs.Pieces.{list_of_piece}
use Rattle.form_expand.specs.Readers.{is_minus_piece}
use Rattle.form_expand.specs.Reading.{list_of_pieces}
use Rattle.form_expand.specs.Singles.{argument_of as argument_listed, of_collected}
use Rattle.form_expand.specs.Walks.{all_of}
use Rattle.form_expand.proofs.Behind.{read_first}
use Rattle.form_expand.proofs.Called.{piece_alone, expression_read, expression_ended}
use Rattle.form_expand.proofs.Literals.{IsReadTo, product_read}
use Rattle.form_expand.proofs.LiteralSums.{sum_begun, sum_more, sum_read}
use Rattle.form_expand.proofs.Listings.{limited_again}

-- ---- its list

-- one term is collected as it is
one_collected : (m : Monomial) → is_zero m.coefficient ≡ false → collected (m ∷ []) ≡ Some (m ∷ [])
unfolding collected terms_of
one_collected m present =
    let itself : eq_by_cmp order m.term m.term ≡ true = (Equal-is (order m.term m.term)).1 (tied_itself order_total m.term) in
    rw (itself, present) refl

module _ (max : ℕ) (all : Meanings) where
  -- a sum that is one piece
  one_read : (piece : Piece) (m : Monomial) → list_of_piece all piece ≡ Some (single m, 1) → IsReadTo max all (piece ∷ []) (is_minus_piece piece) m []
  unfolding row row_behind powers
  one_read piece m is = record {
    factors = limited max (single m) ∷ [];
    list = read_first max all piece [] ∙ piece_alone all piece (single m) 1 is max (is_minus_piece piece) [] [];
    one = limited_again max (single m);
    some = omega arith;
    shorter = omega arith;
  }

  one_product : (piece : Piece) (m : Monomial) → list_of_piece all piece ≡ Some (single m, 1) → is_minus_piece piece ≡ false → ReadsProduct max all (piece ∷ []) (record { is_minus = false; term = m }) []
  one_product piece m is added = subst (λ (b : Bool). ReadsProduct max all (piece ∷ []) (record { is_minus = b; term = m }) []) added (product_read max all (piece ∷ []) (is_minus_piece piece) m [] (one_read piece m is) tt)

  one_listed : (piece : Piece) (m : Monomial) → 1 ≤ max → list_of_piece all piece ≡ Some (single m, 1) → is_minus_piece piece ≡ false → list_of_pieces max all (piece ∷ []) ≡ all_of (m ∷ [])
  one_listed piece m room is added =
      sum_read max all (piece ∷ []) [] (m ∷ []) refl room
      (sum_more max all (limited max (list_of_pieces max all (piece ∷ []))) [] (m ∷ []) (piece ∷ []) [] (record { is_minus = false; term = m }) (one_product piece m is added) (sum_begun max all (piece ∷ []) [] refl) refl)

  one_argument : (piece : Piece) (l : Lone) → 1 ≤ max → IsLone all piece l → is_minus_piece piece ≡ false → argument_listed (list_of_pieces max all (piece ∷ [])) ≡ Ok (expression (summands_of (term_of l ∷ [])))
  unfolding argument_listed
  one_argument piece l room h added =
      ap argument_listed (one_listed piece (term_of l) room h.list added)
      ∙ ap of_collected (one_collected (term_of l) (present l h.present))
    where
      present : (k : Lone) → IsPresent k → is_zero (term_of k).coefficient ≡ false
      present (lones.Number q) i = i
      present (lones.Power p) i = refl

  -- an argument that is one piece, behind the piece that begins it
  pub lone_argued : (ps : List Piece) (piece : Piece) (rest : List Piece) (l : Lone) (old new : Arguments) → ps ≡ piece ∷ pieces.EndOfArgument ∷ rest → 1 ≤ max → IsLone all piece l → is_minus_piece piece ≡ false → new ≡ old ++ pieces_of_argument (argument_of l) → IsArguedWithin max all ps old new rest
  lone_argued ps piece rest l old new is room h added put = record {
    further = λ f k args e.
        expression_read max all f k old new args e _ (list_of_pieces max all (piece ∷ [])) (term_of l ∷ []) rest
        (expression_ended max all f k args ps (piece ∷ []) rest 1 (ends.Power 1) (ap (closing_at 0 0) is ∙ h.closes rest) (sym (ap (take 1) is)) (sym (ap (drop 2) is)))
        (one_argument piece l room h added) (put ∙ ap (λ a. old ++ pieces_of_argument a) (same_argument l));
    shorter = omega (arith, ap length is);
  }
    where
      same_argument : (k : Lone) → argument_of k ≡ expression (summands_of (term_of k ∷ []))
      same_argument (lones.Number q) = refl
      same_argument (lones.Power p) = refl

-- ---- which pieces are such ones

-- a power of a symbol
pub symbol_alone : (symbol : ℕ) (power : ℤ) → 0 < nat_abs power → nat_abs power ≤ largest_exponent → symbol_list symbol power ≡ single (term_of (lones.Power (record { symbol = symbol; exponent = power })))
unfolding symbol_list symbol_power
symbol_alone symbol power some small =
    let within = le-leb (nat_abs power) largest_exponent small in
    let present = lt-ltb 0 (nat_abs power) some in
    rw (within, present) refl

-- what a piece is, from its parts
module _ (all : Meanings) (piece : Piece) where
  abbrev Lists : Listing → Lone → Type 0
  Lists list l = (list ≡ single (term_of l)) × IsPresent l

  pub lone_number : (found : Option Lone) (link : Link) (value : ℕ) (power : ℤ) → piece ≡ pieces.Number link value power → IfSome found (Lists (number_list value power)) → IfSome found (IsLone all piece)
  unfolding closing_at
  lone_number None link value power is h = tt
  lone_number (Some l) link value power is h = record {
    present = h.1;
    list = ap (list_of_piece all) is ∙ ap (λ (x : Listing). Some (x, 1)) h.0;
    closes = λ rest. ap (λ (p : Piece). closing_at 0 0 (p ∷ pieces.EndOfArgument ∷ rest)) is;
  }

  pub lone_symbol : (found : Option Lone) (link : Link) (symbol : ℕ) (power : ℤ) → piece ≡ pieces.Symbol link symbol power → IfSome found (Lists (symbol_list symbol power)) → IfSome found (IsLone all piece)
  unfolding closing_at
  lone_symbol None link symbol power is h = tt
  lone_symbol (Some l) link symbol power is h = record {
    present = h.1;
    list = ap (list_of_piece all) is ∙ ap (λ (x : Listing). Some (x, 1)) h.0;
    closes = λ rest. ap (λ (p : Piece). closing_at 0 0 (p ∷ pieces.EndOfArgument ∷ rest)) is;
  }

  pub lone_wild : (found : Option Lone) (link : Link) (symbol : ℕ) (is_over : Bool) (power : ℤ) → piece ≡ pieces.Wild link symbol is_over power → IfSome found (λ l. (wild_list all symbol is_over power ≡ (single (term_of l), 1)) × IsPresent l) → IfSome found (IsLone all piece)
  unfolding closing_at
  lone_wild None link symbol is_over power is h = tt
  lone_wild (Some l) link symbol is_over power is h = record {
    present = h.1;
    list = ap (list_of_piece all) is ∙ ap Some h.0;
    closes = λ rest. ap (λ (p : Piece). closing_at 0 0 (p ∷ pieces.EndOfArgument ∷ rest)) is;
  }

-- a number that isn't 0
pub number_listed : (found : Option Lone) (number : Fraction) (list : Listing) → list ≡ single (number_alone number) → IfSome found (λ l. (number_alone number ≡ term_of l) × IsPresent l) → IfSome found (λ l. (list ≡ single (term_of l)) × IsPresent l)
number_listed None number list e h = tt
number_listed (Some l) number list e h = (e ∙ ap single h.0, h.1)

pub wild_listed : (found : Option Lone) (number : Fraction) (list : Listing × ℕ) → list ≡ (single (number_alone number), 1) → IfSome found (λ l. (number_alone number ≡ term_of l) × IsPresent l) → IfSome found (λ l. (list ≡ (single (term_of l), 1)) × IsPresent l)
wild_listed None number list e h = tt
wild_listed (Some l) number list e h = (e ∙ ap (λ (m : Monomial). (single m, 1)) h.0, h.1)
