-- Factors that are one piece or a function, and the arguments of functions.
use Rattle.std.proofs.Common.{◌≡◌, ℕ, ◌+◌, ◌-◌, ◌<◌, Bool, true, false, List, [], ◌∷◌, ◌++◌, length, take, drop, refl, sym, ap, subst, ◌∙◌, arith, append-nil, inl, inr}
use Rattle.std.specs.Prelude.{Option, Some, None, Result, Ok, Err, IfOk, ◌==◌}
use Rattle.std.specs.Global.{Vec}
use Rattle.std.proofs.lemmas.Grind.{flat_map-append}
use Rattle.form_base.specs.declared.cause.Cause.{Cause}
use Rattle.form_term.specs.declared.arguments.Arguments.{Arguments}
use Rattle.form_term.specs.declared.index.Index.{Index}
use Rattle.form_term.specs.declared.monomial.Monomial.{Monomial}
use Rattle.form_term.specs.declared.piece.Piece as kept
use Rattle.form_term.specs.Calls.{call as call_from}
use Rattle.form_term.specs.Monomial.{summands_of}
use Rattle.form_term.specs.Term.{Call, Argument, index, vector, expression, pieces_of_argument, pieces_of_arguments}
use Rattle.form_collect.specs.Collector.{IsCollectionOf}
use Rattle.form_collect.specs.declared.collector.Collector.{Collector}
use Rattle.form_tree.specs.declared.tree.Link.{Link}
use Rattle.form_tree.specs.declared.tree.Piece.{Piece}
use Rattle.form_tree.specs.declared.tree.Piece.TheVariants as pieces
use Rattle.form_expand.specs.declared.function.Read.{Read}
use Rattle.form_expand.specs.declared.refusal.Refusal.{Refusal}
use Rattle.form_expand.specs.declared.ended.Ended.{Ended}
use Rattle.form_expand.specs.Meanings.{Meanings, index_of, vector_of, field_of}
use Rattle.form_expand.specs.Calls.{called, IsFurther, Leads, ReadsArgument, ReadsExpression, IsCollected, IsCollectedFrom}
use Rattle.form_expand.specs.Closings.{closing_at}
use Rattle.form_expand.specs.Factors.{IsOneAtMost}
use Rattle.form_expand.specs.Listing.{Listing, nothing, refusal, before, followed, followed_at, powers}
use Rattle.form_expand.specs.Pieces.{list_of_piece}
use Rattle.form_expand.specs.Readers.{in_product, joined, list_of_calling}
use Rattle.form_expand.specs.Reading.{Calling, in_sum, in_function, fresh, fed, read_from, list_of_pieces}
use Rattle.form_expand.specs.Singles.{alone, list_of_call, of_product, argument_of, one_argument, with_arguments}
use Rattle.form_expand.specs.Walks.{all_of}
use Rattle.form_expand.proofs.Behind.{refused_stays}
use Rattle.form_expand.proofs.Listings.{followed_last, taken_on}
use Rattle.form_expand.proofs.Parenthesized.{read_ended}

-- what begins within a product, or among arguments
abbrev pub opens : Piece → Bool
opens (pieces.Number link value power) = false
opens (pieces.Symbol link symbol power) = false
opens (pieces.Wild link symbol is_over power) = false
opens (pieces.Raised link base by) = false
opens (pieces.Stored link position power) = false
opens (pieces.Imaginary link power) = false
opens (pieces.Dot link p q power) = false
opens (pieces.Component link c power) = false
opens (pieces.Delta link i j power) = false
opens (pieces.Function link f is_commuting) = true
opens (pieces.EndOfFunction power) = false
opens (pieces.EndOfRaisedFunction by) = false
opens (pieces.Field w) = false
opens (pieces.Index i) = false
opens (pieces.Vector v) = false
opens pieces.Argument = true
opens pieces.EndOfArgument = false
opens (pieces.Open link) = true
opens (pieces.Close power) = false
opens (pieces.CloseRaised by) = false

pub none_opened : (piece : Piece) → ((link : Link) (f : ℕ) (is_commuting : Bool) → piece ≡ pieces.Function link f is_commuting → ⊥) → (piece ≡ pieces.Argument → ⊥) → ((link : Link) → piece ≡ pieces.Open link → ⊥) → opens piece ≡ false
none_opened (pieces.Number link value power) no_function no_argument no_open = refl
none_opened (pieces.Symbol link symbol power) no_function no_argument no_open = refl
none_opened (pieces.Wild link symbol is_over power) no_function no_argument no_open = refl
none_opened (pieces.Raised link base by) no_function no_argument no_open = refl
none_opened (pieces.Stored link position power) no_function no_argument no_open = refl
none_opened (pieces.Imaginary link power) no_function no_argument no_open = refl
none_opened (pieces.Dot link p q power) no_function no_argument no_open = refl
none_opened (pieces.Component link c power) no_function no_argument no_open = refl
none_opened (pieces.Delta link i j power) no_function no_argument no_open = refl
none_opened (pieces.Function link f is_commuting) no_function no_argument no_open = absurd (no_function link f is_commuting refl)
none_opened (pieces.EndOfFunction power) no_function no_argument no_open = refl
none_opened (pieces.EndOfRaisedFunction by) no_function no_argument no_open = refl
none_opened (pieces.Field w) no_function no_argument no_open = refl
none_opened (pieces.Index i) no_function no_argument no_open = refl
none_opened (pieces.Vector v) no_function no_argument no_open = refl
none_opened pieces.Argument no_function no_argument no_open = absurd (no_argument refl)
none_opened pieces.EndOfArgument no_function no_argument no_open = refl
none_opened (pieces.Open link) no_function no_argument no_open = absurd (no_open link refl)
none_opened (pieces.Close power) no_function no_argument no_open = refl
none_opened (pieces.CloseRaised by) no_function no_argument no_open = refl

-- ---- a factor that is one piece

-- the factors with such a one
abbrev with_piece : ℕ → List Listing → Option (Listing × ℕ) → List Listing
with_piece max old None = old
with_piece max old (Some f) = old ++ powers max f.0 f.1 ∷ []

pub piece_read : (all : Meanings) (piece : Piece) → opens piece ≡ false → (max : ℕ) (m : Bool) (old : List Listing) (more : List Piece)
    → read_from all (in_product max m old) (joined piece ∷ more) ≡ read_from all (in_product max m (with_piece max old (list_of_piece all piece))) more
unfolding read_from fed
piece_read all (pieces.Number link value n) shut max m old more = refl
piece_read all (pieces.Symbol link symbol n) shut max m old more = refl
piece_read all (pieces.Wild link symbol is_over n) shut max m old more = refl
piece_read all (pieces.Raised link base by) shut max m old more = refl
piece_read all (pieces.Stored link position n) shut max m old more = refl
piece_read all (pieces.Imaginary link n) shut max m old more = refl
piece_read all (pieces.Dot link p q n) shut max m old more = refl
piece_read all (pieces.Component link c n) shut max m old more = refl
piece_read all (pieces.Delta link i j n) shut max m old more = refl
piece_read all (pieces.Function link f is_commuting) shut max m old more = absurd (cc)
piece_read all (pieces.EndOfFunction n) shut max m old more = refl
piece_read all (pieces.EndOfRaisedFunction by) shut max m old more = refl
piece_read all (pieces.Field w) shut max m old more = refl
piece_read all (pieces.Index i) shut max m old more = refl
piece_read all (pieces.Vector v) shut max m old more = refl
piece_read all pieces.Argument shut max m old more = absurd (cc)
piece_read all pieces.EndOfArgument shut max m old more = refl
piece_read all (pieces.Open link) shut max m old more = absurd (cc)
piece_read all (pieces.Close n) shut max m old more = refl
piece_read all (pieces.CloseRaised by) shut max m old more = refl

-- such a piece opens nothing
shut_alone : (all : Meanings) (piece : Piece) (f : Listing × ℕ) → list_of_piece all piece ≡ Some f → opens piece ≡ false
shut_alone all (pieces.Number link value n) list e = refl
shut_alone all (pieces.Symbol link symbol n) list e = refl
shut_alone all (pieces.Wild link symbol is_over n) list e = refl
shut_alone all (pieces.Raised link base by) list e = refl
shut_alone all (pieces.Stored link position n) list e = refl
shut_alone all (pieces.Imaginary link n) list e = refl
shut_alone all (pieces.Dot link p q n) list e = refl
shut_alone all (pieces.Component link c n) list e = refl
shut_alone all (pieces.Delta link i j n) list e = refl
shut_alone all (pieces.Function link f is_commuting) list e = absurd (cc)
shut_alone all (pieces.EndOfFunction n) list e = refl
shut_alone all (pieces.EndOfRaisedFunction by) list e = refl
shut_alone all (pieces.Field w) list e = refl
shut_alone all (pieces.Index i) list e = refl
shut_alone all (pieces.Vector v) list e = refl
shut_alone all pieces.Argument list e = absurd (cc)
shut_alone all pieces.EndOfArgument list e = refl
shut_alone all (pieces.Open link) list e = absurd (cc)
shut_alone all (pieces.Close n) list e = refl
shut_alone all (pieces.CloseRaised by) list e = refl

pub piece_alone : (all : Meanings) (piece : Piece) (l : Listing) (power : ℕ) → list_of_piece all piece ≡ Some (l, power) → (max : ℕ) (m : Bool) (old : List Listing) (more : List Piece)
    → read_from all (in_product max m old) (joined piece ∷ more) ≡ read_from all (in_product max m (old ++ powers max l power ∷ [])) more
piece_alone all piece l power e max m old more =
    piece_read all piece (shut_alone all piece (l, power) e) max m old more ∙ ap (λ (f : Option (Listing × ℕ)). read_from all (in_product max m (with_piece max old f)) more) e

-- one that is no factor is passed over
pub piece_passed : (all : Meanings) (piece : Piece) → list_of_piece all piece ≡ None → opens piece ≡ false → (max : ℕ) (m : Bool) (old : List Listing) (more : List Piece)
    → read_from all (in_product max m old) (joined piece ∷ more) ≡ read_from all (in_product max m old) more
piece_passed all piece none shut max m old more = piece_read all piece shut max m old more ∙ ap (λ (f : Option (Listing × ℕ)). read_from all (in_product max m (with_piece max old f)) more) none

-- Among the arguments of a function.

abbrev pub is_argument : Piece → Bool
is_argument (pieces.Number link value power) = false
is_argument (pieces.Symbol link symbol power) = false
is_argument (pieces.Wild link symbol is_over power) = false
is_argument (pieces.Raised link base by) = false
is_argument (pieces.Stored link position power) = false
is_argument (pieces.Imaginary link power) = false
is_argument (pieces.Dot link p q power) = false
is_argument (pieces.Component link c power) = false
is_argument (pieces.Delta link i j power) = false
is_argument (pieces.Function link f is_commuting) = false
is_argument (pieces.EndOfFunction power) = false
is_argument (pieces.EndOfRaisedFunction by) = false
is_argument (pieces.Field w) = true
is_argument (pieces.Index i) = true
is_argument (pieces.Vector v) = true
is_argument pieces.Argument = false
is_argument pieces.EndOfArgument = false
is_argument (pieces.Open link) = false
is_argument (pieces.Close power) = false
is_argument (pieces.CloseRaised by) = false

pub none_argued : (piece : Piece) → ((i : Index) → piece ≡ pieces.Index i → ⊥) → ((v : ℕ) → piece ≡ pieces.Vector v → ⊥) → ((w : ℕ) → piece ≡ pieces.Field w → ⊥) → is_argument piece ≡ false
none_argued (pieces.Number link value power) no_index no_vector no_field = refl
none_argued (pieces.Symbol link symbol power) no_index no_vector no_field = refl
none_argued (pieces.Wild link symbol is_over power) no_index no_vector no_field = refl
none_argued (pieces.Raised link base by) no_index no_vector no_field = refl
none_argued (pieces.Stored link position power) no_index no_vector no_field = refl
none_argued (pieces.Imaginary link power) no_index no_vector no_field = refl
none_argued (pieces.Dot link p q power) no_index no_vector no_field = refl
none_argued (pieces.Component link c power) no_index no_vector no_field = refl
none_argued (pieces.Delta link i j power) no_index no_vector no_field = refl
none_argued (pieces.Function link f is_commuting) no_index no_vector no_field = refl
none_argued (pieces.EndOfFunction power) no_index no_vector no_field = refl
none_argued (pieces.EndOfRaisedFunction by) no_index no_vector no_field = refl
none_argued (pieces.Field w) no_index no_vector no_field = absurd (no_field w refl)
none_argued (pieces.Index i) no_index no_vector no_field = absurd (no_index i refl)
none_argued (pieces.Vector v) no_index no_vector no_field = absurd (no_vector v refl)
none_argued pieces.Argument no_index no_vector no_field = refl
none_argued pieces.EndOfArgument no_index no_vector no_field = refl
none_argued (pieces.Open link) no_index no_vector no_field = refl
none_argued (pieces.Close power) no_index no_vector no_field = refl
none_argued (pieces.CloseRaised by) no_index no_vector no_field = refl

-- a piece that is no argument is passed over
pub argument_passed : (all : Meanings) (k : Calling) (piece : Piece) (more : List Piece) → opens piece ≡ false → is_argument piece ≡ false → list_of_calling all k (piece ∷ more) ≡ list_of_calling all k more
unfolding read_from fed
argument_passed all k (pieces.Number link value power) more shut other = refl
argument_passed all k (pieces.Symbol link symbol power) more shut other = refl
argument_passed all k (pieces.Wild link symbol is_over power) more shut other = refl
argument_passed all k (pieces.Raised link base by) more shut other = refl
argument_passed all k (pieces.Stored link position power) more shut other = refl
argument_passed all k (pieces.Imaginary link power) more shut other = refl
argument_passed all k (pieces.Dot link p q power) more shut other = refl
argument_passed all k (pieces.Component link c power) more shut other = refl
argument_passed all k (pieces.Delta link i j power) more shut other = refl
argument_passed all k (pieces.Function link f is_commuting) more shut other = absurd (cc)
argument_passed all k (pieces.EndOfFunction power) more shut other = refl
argument_passed all k (pieces.EndOfRaisedFunction by) more shut other = refl
argument_passed all k (pieces.Field w) more shut other = absurd (cc)
argument_passed all k (pieces.Index i) more shut other = absurd (cc)
argument_passed all k (pieces.Vector v) more shut other = absurd (cc)
argument_passed all k pieces.Argument more shut other = absurd (cc)
argument_passed all k pieces.EndOfArgument more shut other = refl
argument_passed all k (pieces.Open link) more shut other = absurd (cc)
argument_passed all k (pieces.Close power) more shut other = refl
argument_passed all k (pieces.CloseRaised by) more shut other = refl

-- an expression begins
pub argument_opens : (all : Meanings) (k : Calling) (piece : Piece) (more : List Piece) → opens piece ≡ true
    → list_of_calling all k (piece ∷ more) ≡ read_from all (record { top = in_sum (fresh k.max); outer = in_function k ∷ [] }) more
unfolding read_from fed
argument_opens all k (pieces.Number link value power) more e = absurd (cc)
argument_opens all k (pieces.Symbol link symbol power) more e = absurd (cc)
argument_opens all k (pieces.Wild link symbol is_over power) more e = absurd (cc)
argument_opens all k (pieces.Raised link base by) more e = absurd (cc)
argument_opens all k (pieces.Stored link position power) more e = absurd (cc)
argument_opens all k (pieces.Imaginary link power) more e = absurd (cc)
argument_opens all k (pieces.Dot link p q power) more e = absurd (cc)
argument_opens all k (pieces.Component link c power) more e = absurd (cc)
argument_opens all k (pieces.Delta link i j power) more e = absurd (cc)
argument_opens all k (pieces.Function link f is_commuting) more e = refl
argument_opens all k (pieces.EndOfFunction power) more e = absurd (cc)
argument_opens all k (pieces.EndOfRaisedFunction by) more e = absurd (cc)
argument_opens all k (pieces.Field w) more e = absurd (cc)
argument_opens all k (pieces.Index i) more e = absurd (cc)
argument_opens all k (pieces.Vector v) more e = absurd (cc)
argument_opens all k pieces.Argument more e = refl
argument_opens all k pieces.EndOfArgument more e = absurd (cc)
argument_opens all k (pieces.Open link) more e = refl
argument_opens all k (pieces.Close power) more e = absurd (cc)
argument_opens all k (pieces.CloseRaised by) more e = absurd (cc)

-- the pieces of arguments more, and of one
arguments_more : (old new : List kept.Piece) (args more : List Argument) → old ≡ pieces_of_arguments args → new ≡ old ++ pieces_of_arguments more → new ≡ pieces_of_arguments (args ++ more)
arguments_more old new args more e f =
    f ∙ ap (λ ps. ps ++ pieces_of_arguments more) e
    ∙ sym (flat_map-append pieces_of_argument args more)

pub one_argument_more : (old new : List kept.Piece) (args : List Argument) (a : Argument) → old ≡ pieces_of_arguments args → new ≡ old ++ pieces_of_argument a → new ≡ pieces_of_arguments (args ++ a ∷ [])
one_argument_more old new args a e f =
    f ∙ ap (λ ps. ps ++ pieces_of_argument a) e
    ∙ ap (λ ps. pieces_of_arguments args ++ ps) (sym (append-nil (pieces_of_argument a)))
    ∙ sym (flat_map-append pieces_of_argument args (a ∷ []))

-- the same list leads to the same
pub leads_from : (max : ℕ) (all : Meanings) (list same : Listing) (f : ℕ) (is_commuting : Bool) (read : Read) → list ≡ same → Leads max all same f is_commuting read → Leads max all list f is_commuting read
leads_from max all list same f is_commuting read e h = subst (λ (l : Listing). Leads max all l f is_commuting read) (sym e) h

module _ (max : ℕ) (all : Meanings) (f : ℕ) (is_commuting : Bool) (old new : Arguments) (args : List Argument) (written : old ≡ pieces_of_arguments args) where
  pub index_read : (i : _) (ps more : List Piece) → ps ≡ pieces.Index i ∷ more → new ≡ old ++ pieces_of_argument (index (index_of all i)) → IsFurther max all (list_of_calling all (called max f is_commuting args) ps) f is_commuting new more
  unfolding read_from fed
  index_read i ps more e h = record {
    now = args ++ index (index_of all i) ∷ [];
    written = one_argument_more old new args (index (index_of all i)) written h;
    read = ap (list_of_calling all (called max f is_commuting args)) e;
  }

  pub vector_read : (v : ℕ) (ps more : List Piece) → ps ≡ pieces.Vector v ∷ more → new ≡ old ++ pieces_of_argument (vector (vector_of all v)) → IsFurther max all (list_of_calling all (called max f is_commuting args) ps) f is_commuting new more
  unfolding read_from fed
  vector_read v ps more e h = record {
    now = args ++ vector (vector_of all v) ∷ [];
    written = one_argument_more old new args (vector (vector_of all v)) written h;
    read = ap (list_of_calling all (called max f is_commuting args)) e;
  }

  pub field_read : (w : ℕ) (ps more : List Piece) → ps ≡ pieces.Field w ∷ more → new ≡ old ++ pieces_of_arguments (field_of all w) → IsFurther max all (list_of_calling all (called max f is_commuting args) ps) f is_commuting new more
  unfolding read_from fed
  field_read w ps more e h = record {
    now = args ++ field_of all w;
    written = arguments_more old new args (field_of all w) written h;
    read = ap (list_of_calling all (called max f is_commuting args)) e;
  }

  -- an expression was read, and its list is this
  pub expression_read : (list l : Listing) (terms : List Monomial) (rest : List Piece) → list ≡ list_of_calling all (record { max = max; function = f; is_commuting = is_commuting; arguments = with_arguments (Ok args) (one_argument (argument_of l)) }) rest
      → argument_of l ≡ Ok (expression (summands_of terms)) → new ≡ old ++ pieces_of_argument (expression (summands_of terms)) → IsFurther max all list f is_commuting new rest
  expression_read list l terms rest e a h = record {
    now = args ++ expression (summands_of terms) ∷ [];
    written = one_argument_more old new args (expression (summands_of terms)) written h;
    read = e ∙ ap (λ r. list_of_calling all (record { max = max; function = f; is_commuting = is_commuting; arguments = with_arguments (Ok args) (one_argument r) }) rest) a;
  }

  pub expression_refused : (list l : Listing) (cause : Cause) (rest : List Piece) → list ≡ list_of_calling all (record { max = max; function = f; is_commuting = is_commuting; arguments = with_arguments (Ok args) (one_argument (argument_of l)) }) rest
      → argument_of l ≡ Err cause → list ≡ refusal cause
  expression_refused list l cause rest e a =
      let k : Calling = record { max = max; function = f; is_commuting = is_commuting; arguments = with_arguments (Ok args) (one_argument (argument_of l)) } in
      e ∙ refused_stays cause all k rest (ap (λ r. with_arguments (Ok args) (one_argument r)) a)

-- a function is one term at most
one_made : (r : Result (Option Monomial) Cause) → IsOneAtMost (of_product r)
one_made (Ok (Some m)) = (omega arith, inr refl)
one_made (Ok None) = (omega arith, inl refl)
one_made (Err cause) = (omega arith, inl refl)

one_call : (is_commuting : Bool) (c : Call) → IsOneAtMost (list_of_call is_commuting c)
unfolding alone
one_call true c = one_made _
one_call false c = one_made _

pub one_called : {W E : Type 0} (listing : W → Listing) (is_commuting : Bool) (c : Call) (r : Result W E) → IfOk r (λ w. listing w ≡ list_of_call is_commuting c) → IfOk r (λ w. IsOneAtMost (listing w))
one_called listing is_commuting c (Ok w) made = subst IsOneAtMost (sym made) (one_call is_commuting c)
one_called listing is_commuting c (Err e) made = tt

pub one_refused : (l : Listing) (cause : Cause) → l ≡ refusal cause → IsOneAtMost l
one_refused l cause e = subst IsOneAtMost (sym e) (omega arith, inl refl)

-- all arguments were read
pub list_called : {W E : Type 0} (all : Meanings) (max f : ℕ) (is_commuting : Bool) (arguments : Arguments) (call : Call) (rest : List Piece) (listing : W → Listing) (r : Result W E) (list : Listing)
    → IsFurther max all list f is_commuting arguments rest → call ≡ call_from f arguments → rest ≡ [] → IfOk r (λ w. listing w ≡ list_of_call is_commuting call) → IfOk r (λ w. listing w ≡ list)
unfolding read_from
list_called all max f is_commuting arguments call rest listing r list h is none made =
    let same : list_of_call is_commuting call ≡ list =
    ap (list_of_call is_commuting) (is ∙ ap (call_from f) h.written) ∙ sym (h.read ∙ ap (list_of_calling all (called max f is_commuting h.now)) none) in
    subst (λ (l : Listing). IfOk r (λ w. listing w ≡ l)) same made

pub some_from : {X : Type 0} (b : Bool) (xs : List X) → b ≡ (length xs == 0) → b ≡ false → 0 < length xs
some_from b [] e f = absurd (cc)
some_from b (x ∷ xs) e f = omega arith

-- Collecting a list.

-- A collector stands for terms that were taken from a list, where this is left.
pub record AreTaken (c : Collector) (whole left : Listing) : Type 0 where
  pub done : List Monomial
  pub stands : IsCollectionOf c done
  pub taken : whole ≡ followed (all_of done) left

pub none_taken : (c : Collector) (whole : Listing) → IsCollectionOf c [] → AreTaken c whole whole
unfolding followed_at
none_taken c whole h = record { done = []; stands = h; taken = refl }

pub one_taken : (c d : Collector) (whole old new : Listing) (m : Monomial) (h : AreTaken c whole old) → IsCollectionOf d (h.done ++ m ∷ []) → old ≡ before m new → AreTaken d whole new
one_taken c d whole old new m h stands first = record { done = h.done ++ m ∷ []; stands = stands; taken = h.taken ∙ ap (followed (all_of h.done)) first ∙ taken_on h.done m new }

-- all were taken
pub all_taken : (c : Collector) (whole left : Listing) (h : AreTaken c whole left) → left ≡ nothing → whole ≡ all_of h.done
all_taken c whole left h done = h.taken ∙ ap (followed (all_of h.done)) done ∙ followed_last (all_of h.done)

-- a list that these terms were taken from, where this is left
pub refused_argument : (done : List Monomial) (whole left : Listing) (cause : Cause) → whole ≡ followed (all_of done) left → left ≡ refusal cause → argument_of whole ≡ Err cause
unfolding argument_of followed_at
refused_argument done whole left cause e h = ap argument_of (e ∙ ap (followed (all_of done)) h)

-- An argument that is an expression.

pub argument_begun : {E : Type 0} (max : ℕ) (all : Meanings) (piece : Piece) (ps more : List Piece) (old : Arguments) (r : Result Read E) → ps ≡ piece ∷ more → opens piece ≡ true
    → IfOk r (λ read. ReadsExpression max all more old read) → IfOk r (λ read. ReadsArgument max all ps old read)
argument_begun max all piece ps more old (Ok read) is opened h = λ f k args e.
    leads_from max all (list_of_calling all (called max f k args) ps) (read_from all (record { top = in_sum (fresh max); outer = in_function (called max f k args) ∷ [] }) more) f k read
    (ap (list_of_calling all (called max f k args)) is ∙ argument_opens all (called max f k args) piece more opened) (h f k args e)
argument_begun max all piece ps more old (Err e) is opened h = tt

-- its pieces are these, and behind it stand those
pub expression_ended : (max : ℕ) (all : Meanings) (f : ℕ) (k : Bool) (args : List Argument) (ps within rest : List Piece) (len : ℕ) (power : Ended) → closing_at 0 0 ps ≡ Some (len, power) → within ≡ take len ps → rest ≡ drop (len + 1) ps
    → read_from all (record { top = in_sum (fresh max); outer = in_function (called max f k args) ∷ [] }) ps
    ≡ list_of_calling all (record { max = max; function = f; is_commuting = k; arguments = with_arguments (Ok args) (one_argument (argument_of (list_of_pieces max all within))) }) rest
expression_ended max all f k args ps within rest len power closes front behind =
    let h = read_ended all (in_function (called max f k args)) 0 (in_sum (fresh max)) [] ps len power closes in
    let e : len - 0 ≡ len = omega arith in
    (rw e at h.read)
    ∙ ap (λ qs. list_of_calling all (record { max = max; function = f; is_commuting = k; arguments = with_arguments (Ok args) (one_argument (argument_of (list_of_pieces max all qs))) }) (drop (len + 1) ps)) (sym front)
    ∙ ap (list_of_calling all (record { max = max; function = f; is_commuting = k; arguments = with_arguments (Ok args) (one_argument (argument_of (list_of_pieces max all within))) })) (sym behind)

-- all terms of a list were collected
pub collected_all : {E : Type 0} (c : Collector) (whole left : Listing) (h : AreTaken c whole left) (r : Result (Result (Vec Monomial) Refusal) E) → left ≡ nothing → IfOk r (λ found. IsCollectedFrom found c) → IfOk r (λ found. IsCollected found whole)
collected_all c whole left h (Ok found) done m = subst (λ (l : Listing). IsCollected found l) (sym (all_taken c whole left h done)) (m h.done h.stands)
collected_all c whole left h (Err e) done m = tt
