-- Arguments each of which is read at once.
use Rattle.std.proofs.Common.{◌≡◌, ℕ, Bool, true, false, List, [], ◌∷◌, length, refl, sym, ap, ◌∙◌, arith}
use Rattle.std.specs.Prelude.{All, ℤ, pos, Option, Some, None, Result, Ok, Err, IfOk, IfSome, OnOk}
use Rattle.std.specs.Borrow.{Bor}
use Rattle.std.specs.Global.{Vec}
use Rattle.std.specs.List.Sorted.{IsStrictlySortedBy}
use Rattle.std.specs.Ordering.{on}
use Rattle.form_frac.specs.Fraction.{Fraction, is_zero}
use Rattle.form_term.specs.declared.arguments.Arguments.{Arguments}
use Rattle.form_term.specs.declared.monomial.Monomial.{Monomial}
use Rattle.form_term.specs.Calls.{call}
use Rattle.form_term.specs.Term.{Call, order}
use Rattle.form_collect.specs.Collecting.{collected}
use Rattle.form_normal.specs.Product.{product_of, number_alone, function_alone, word_alone, StandsAlone}
use Rattle.form_tree.specs.declared.tree.Piece.{Piece}
use Rattle.form_tree.specs.declared.tree.Piece.TheVariants as pieces
use Rattle.form_expand.specs.Calls.{called, IsFurther, AreCollected}
use Rattle.form_expand.specs.Bound.{wild_list, wild_list_by}
use Rattle.form_expand.specs.Listing.{Listing, single}
use Rattle.form_expand.specs.Literals.{IsTimes, AreArgued, IsArgued, IsArguedWithin}
use Rattle.form_expand.specs.Meanings.{Meanings, terms_bound}
use Rattle.form_expand.specs.Readers.{list_of_calling}
use Rattle.form_expand.specs.Reading.{calling, read_from}
use Rattle.form_expand.specs.Singles.{alone as list_alone, of_product, list_of_call, argument_of, of_collected}
use Rattle.form_expand.specs.Walks.{all_of}
use Rattle.form_expand.proofs.Called.{opens, argument_opens}

module _ (max : ℕ) (all : Meanings) where
  -- these are the arguments so far, whatever the function
  abbrev pub AreArguedTo : List Piece → Arguments → List Piece → Type 0
  AreArguedTo ps arguments rest = (f : ℕ) (is_commuting : Bool) → IsFurther max all (list_of_calling all (calling max f is_commuting) ps) f is_commuting arguments rest

  pub none_argued : (ps : List Piece) (arguments : Arguments) → arguments ≡ [] → AreArguedTo ps arguments ps
  none_argued ps arguments e = λ f k. record { now = []; written = e; read = refl }

  pub one_argued : (ps : List Piece) (old new : Arguments) (here rest : List Piece) → AreArguedTo ps old here → IsArgued max all here old new rest → AreArguedTo ps new rest
  one_argued ps old new here rest h a = λ f k.
      let before = h f k in
      let after = a.further f k before.now before.written in
      record { now = after.now; written = after.written; read = before.read ∙ after.read }

  pub all_argued : (ps : List Piece) (arguments : Arguments) (rest : List Piece) → rest ≡ [] → AreArguedTo ps arguments rest → AreArgued max all ps arguments
  unfolding read_from
  all_argued ps arguments rest none h = λ f k.
      let made = h f k in
      made.read
      ∙ ap (list_of_calling all (called max f k made.now)) none
      ∙ ap (λ args. list_of_call k (call f args)) (sym made.written)

  -- an expression begins
  pub argument_read : (ps : List Piece) (piece : Piece) (more : List Piece) (old new : Arguments) (rest : List Piece) → ps ≡ piece ∷ more → piece ≡ pieces.Argument → IsArguedWithin max all more old new rest → IsArgued max all ps old new rest
  argument_read ps piece more old new rest is begins h = record {
    further = λ f k args e.
        let made = h.further f k args e in
        record { now = made.now; written = made.written; read = ap (list_of_calling all (called max f k args)) is ∙ argument_opens all (called max f k args) piece more (ap opens begins) ∙ made.read };
    shorter = omega (arith, ap length is, h.shorter);
  }

  pub sum_argued : {E : Type 0} (r : Result (Option (Arguments × Bor (List Piece))) E) (ps : List Piece) (piece : Piece) (more : List Piece) (old : Arguments) → ps ≡ piece ∷ more → piece ≡ pieces.Argument
      → IfOk r (λ found. IfSome found (λ read. IsArguedWithin max all more old read.0 read.1.now)) → IfOk r (λ found. IfSome found (λ read. IsArgued max all ps old read.0 read.1.now))
  sum_argued (Ok None) ps piece more old is begins h = tt
  sum_argued (Ok (Some read)) ps piece more old is begins h = argument_read ps piece more old read.0 read.1.now is begins h
  sum_argued (Err failed) ps piece more old is begins h = tt

-- the terms of a list are collected
pub collected_kept : (found : Option (Vec Monomial)) (list : List Monomial) (l : Listing) → l ≡ all_of list
    → ((ms terms : List Monomial) → collected ms ≡ Some terms → IsStrictlySortedBy (on (λ m. m.term) order) terms)
    → ((ms terms : List Monomial) → collected ms ≡ Some terms → All (λ m. is_zero m.coefficient ≡ false) terms)
    → IfSome found (λ terms. collected list ≡ Some terms.items) → IfSome found (λ terms. AreCollected terms.items l)
unfolding argument_of
collected_kept None list l e rising present h = tt
collected_kept (Some terms) list l e rising present h = record {
  argument = ap argument_of e ∙ ap of_collected h;
  rising = rising list terms.items h;
  present = present list terms.items h;
}

-- a wildcard that stands for a number
pub wild_number : (all : Meanings) (symbol : ℕ) (is_over : Bool) (power : ℤ) (number : Fraction) → is_over ≡ false → power ≡ pos 1 → terms_bound all symbol ≡ Some (number_alone number ∷ []) → wild_list all symbol is_over power ≡ (single (number_alone number), 1)
unfolding wild_list
wild_number all symbol is_over power number e f bound = ap (wild_list_by symbol is_over power) bound ∙ rw (e, f) refl

-- a term times a function that stands alone
pub function_times : {E : Type 0} (r : Result Monomial E) (is_commuting : Bool) (c : Call) (front : Monomial) → is_commuting ≡ true → IfOk r (λ m. product_of front (function_alone c) ≡ Ok (Some m)) → OnOk r (StandsAlone (function_alone c))
    → IfOk r (λ m. IsTimes (list_of_call is_commuting c) front m)
unfolding list_alone
function_times (Ok m) is_commuting c front e made stands = rw e (record { factor = function_alone c; alone = ap of_product stands.alone; by_one = stands.by_one; product = made })
function_times (Err failed) is_commuting c front e made stands = tt

pub word_times : {E : Type 0} (r : Result Monomial E) (is_commuting : Bool) (c : Call) (front : Monomial) → is_commuting ≡ false → IfOk r (λ m. product_of front (word_alone c) ≡ Ok (Some m)) → OnOk r (StandsAlone (word_alone c))
    → IfOk r (λ m. IsTimes (list_of_call is_commuting c) front m)
unfolding list_alone
word_times (Ok m) is_commuting c front e made stands = rw e (record { factor = word_alone c; alone = ap of_product stands.alone; by_one = stands.by_one; product = made })
word_times (Err failed) is_commuting c front e made stands = tt
