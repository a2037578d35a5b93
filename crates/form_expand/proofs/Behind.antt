-- Reading a sum behind what was read of it before, and other readings whose outermost frames alone differ.
use Rattle.std.proofs.Common.{◌≡◌, ℕ, Bool, true, false, List, [], ◌∷◌, ◌++◌, refl, sym, ap, ◌∙◌, arith, append-nil, append_assoc}
use Rattle.std.specs.Prelude.{None, Ok, Err}
use Rattle.form_base.specs.declared.cause.Cause.{Cause}
use Rattle.form_term.specs.Term.{Argument, index, vector}
use Rattle.form_tree.specs.declared.tree.Link.{Link}
use Rattle.form_tree.specs.declared.tree.Link.TheVariants as links
use Rattle.form_tree.specs.declared.tree.Piece.{Piece}
use Rattle.form_tree.specs.declared.tree.Piece.TheVariants as pieces
use Rattle.form_expand.specs.declared.ended.Ended.{Ended}
use Rattle.form_expand.specs.declared.ended.Ended.TheVariants as ends
use Rattle.form_expand.specs.Bound.{wild_list, exponent_in, list_of_base}
use Rattle.form_expand.specs.Factors.{IsSameRow}
use Rattle.form_expand.specs.Meanings.{Meanings, terms_of, index_of, vector_of, component_of, function_of, field_of}
use Rattle.form_expand.specs.Left.{row}
use Rattle.form_expand.specs.Listing.{Listing, nothing, refusal, limited, followed, powers, signed}
use Rattle.form_expand.specs.Numbers.{number_list, symbol_list}
use Rattle.form_expand.specs.Reading.{Part, Calling, Frame, in_sum, in_function, Reading, fresh, calling, closed, list_of_frame, limit_of, linked, linked_frame, with_factor, factor_into, with_piece, argument_into, with_argument_piece, begun_function, opening, ended, closing, fed, outermost, read_from, list_of_pieces, begins, link_of_piece}
use Rattle.form_expand.specs.Readers.{EndsProduct, is_minus_link, is_minus_piece, joined, product_part, in_product}
use Rattle.form_expand.specs.Singles.{imaginary_list, dot_list, component_list, delta_list, function_list, argument_of, one_argument, with_arguments}
use Rattle.form_expand.proofs.Listings.{followed_nothing, followed_last, followed_assoc, limited_nothing, limited_again, limited_followed, limited_followed_last}

pub closed_fresh : (max : ℕ) → closed (fresh max) ≡ nothing
unfolding closed row
closed_fresh max = ap (limited max) (followed_nothing nothing) ∙ limited_nothing max

pub read_none : (all : Meanings) (r : Reading) → read_from all r [] ≡ list_of_frame (outermost r.top r.outer)
unfolding read_from
read_none all r = refl

pub pieces_of_none : (max : ℕ) (all : Meanings) → list_of_pieces max all [] ≡ nothing
unfolding read_from
pieces_of_none max all = closed_fresh max

-- ---- readings whose outermost frames alone differ

-- this frame is the outermost one; within it are those, from the inside
abbrev around : List Frame → Frame → Reading
around [] f = record { top = f; outer = [] }
around (g ∷ gs) f = record { top = g; outer = gs ++ f ∷ [] }

pub outermost_last : (top : Frame) (outer : List Frame) (f : Frame) → outermost top (outer ++ f ∷ []) ≡ f
outermost_last top [] f = refl
outermost_last top (g ∷ outer) f = outermost_last g outer f

outermost_around : (gs : List Frame) (f : Frame) → outermost (around gs f).top (around gs f).outer ≡ f
outermost_around [] f = refl
outermost_around (g ∷ gs) f = outermost_last g gs f

-- What holds of two frames stays so, whatever is read into both.
record Stays (all : Meanings) (Holds : Frame → Frame → Type 0) : Type 0 where
  factor : (link : Link) (l : Listing) (power : ℕ) (f g : Frame) → Holds f g → Holds (factor_into link l power f) (factor_into link l power g)
  argument : (args : List Argument) (f g : Frame) → Holds f g → Holds (argument_into args f) (argument_into args g)
  link : (link : Link) (f g : Frame) → Holds f g → Holds (linked_frame link f) (linked_frame link g)
  end : (l : Listing) (by : Ended) (f g : Frame) → Holds f g → Holds (ended all l by f) (ended all l by g)
  limit : (f g : Frame) → Holds f g → limit_of g ≡ limit_of f
  function : (n : ℕ) (is_commuting : Bool) (f g : Frame) → Holds f g → begun_function n is_commuting g ≡ begun_function n is_commuting f

record AreLike (Holds : Frame → Frame → Type 0) (r s : Reading) : Type 0 where
  within : List Frame
  first : Frame
  second : Frame
  is_first : r ≡ around within first
  is_second : s ≡ around within second
  like : Holds first second

-- what two readings end with
record EndLike (Holds : Frame → Frame → Type 0) (one other : Listing) : Type 0 where
  first : Frame
  second : Frame
  is_first : one ≡ list_of_frame first
  is_second : other ≡ list_of_frame second
  like : Holds first second

module _ (all : Meanings) (Holds : Frame → Frame → Type 0) (stays : Stays all Holds) where
  module _ (f g : Frame) (h : Holds f g) where
    piece_like : (link : Link) (l : Listing) (power : ℕ) (gs : List Frame) → AreLike Holds (with_piece link l power (around gs f)) (with_piece link l power (around gs g))
    piece_like link l power [] = record { within = []; first = factor_into link l power f; second = factor_into link l power g; is_first = refl; is_second = refl; like = stays.factor link l power f g h }
    piece_like link l power (k ∷ ks) = record { within = factor_into link l power k ∷ ks; first = f; second = g; is_first = refl; is_second = refl; like = h }

    argument_like : (args : List Argument) (gs : List Frame) → AreLike Holds (with_argument_piece args (around gs f)) (with_argument_piece args (around gs g))
    argument_like args [] = record { within = []; first = argument_into args f; second = argument_into args g; is_first = refl; is_second = refl; like = stays.argument args f g h }
    argument_like args (k ∷ ks) = record { within = argument_into args k ∷ ks; first = f; second = g; is_first = refl; is_second = refl; like = h }

    opening_like : (link : Link) (inner : Frame) (gs : List Frame) → AreLike Holds (opening link inner (around gs f)) (opening link inner (around gs g))
    opening_like link inner [] = record { within = inner ∷ []; first = linked_frame link f; second = linked_frame link g; is_first = refl; is_second = refl; like = stays.link link f g h }
    opening_like link inner (k ∷ ks) = record { within = inner ∷ linked_frame link k ∷ ks; first = f; second = g; is_first = refl; is_second = refl; like = h }

    -- the second opens the same frame
    opened_like : (link : Link) (inner same : Frame) (gs : List Frame) → same ≡ inner → AreLike Holds (opening link inner (around gs f)) (opening link same (around gs g))
    opened_like link inner same gs e =
        let o = opening_like link inner gs in
        record { within = o.within; first = o.first; second = o.second; is_first = o.is_first; is_second = ap (λ (k : Frame). opening link k (around gs g)) e ∙ o.is_second; like = o.like }

    limit_like : (gs : List Frame) → limit_of (around gs g).top ≡ limit_of (around gs f).top
    limit_like [] = stays.limit f g h
    limit_like (k ∷ ks) = refl

    function_like : (n : ℕ) (is_commuting : Bool) (gs : List Frame) → begun_function n is_commuting (around gs g).top ≡ begun_function n is_commuting (around gs f).top
    function_like n is_commuting [] = stays.function n is_commuting f g h
    function_like n is_commuting (k ∷ ks) = refl

    sum_like : (link : Link) (gs : List Frame) → AreLike Holds (opening link (in_sum (fresh (limit_of (around gs f).top))) (around gs f)) (opening link (in_sum (fresh (limit_of (around gs g).top))) (around gs g))
    sum_like link gs = opened_like link (in_sum (fresh (limit_of (around gs f).top))) (in_sum (fresh (limit_of (around gs g).top))) gs (ap (λ (n : ℕ). in_sum (fresh n)) (limit_like gs))

    closing_like : (by : Ended) (gs : List Frame) → AreLike Holds (closing all by (around gs f).top (around gs f).outer) (closing all by (around gs g).top (around gs g).outer)
    closing_like by [] = record { within = []; first = f; second = g; is_first = refl; is_second = refl; like = h }
    closing_like by (k ∷ []) = record { within = []; first = ended all (list_of_frame k) by f; second = ended all (list_of_frame k) by g; is_first = refl; is_second = refl; like = stays.end (list_of_frame k) by f g h }
    closing_like by (k ∷ m ∷ ms) = record { within = ended all (list_of_frame k) by m ∷ ms; first = f; second = g; is_first = refl; is_second = refl; like = h }

    fed_like : (gs : List Frame) (piece : Piece) → AreLike Holds (fed all (around gs f) piece) (fed all (around gs g) piece)
    unfolding fed
    fed_like gs (pieces.Number link value power) = piece_like link (number_list value power) 1 gs
    fed_like gs (pieces.Symbol link symbol power) = piece_like link (symbol_list symbol power) 1 gs
    fed_like gs (pieces.Wild link symbol is_over power) = piece_like link ((wild_list all symbol is_over power).0) ((wild_list all symbol is_over power).1) gs
    fed_like gs (pieces.Raised link base by) = piece_like link ((list_of_base all base by.is_over (exponent_in all by.is_minus by.symbol)).0) ((list_of_base all base by.is_over (exponent_in all by.is_minus by.symbol)).1) gs
    fed_like gs (pieces.Stored link expression power) = piece_like link (record { terms = terms_of all expression; end = None }) power gs
    fed_like gs (pieces.Imaginary link power) = piece_like link imaginary_list power gs
    fed_like gs (pieces.Dot link p q power) = piece_like link (dot_list (vector_of all p) (vector_of all q) power) 1 gs
    fed_like gs (pieces.Component link c power) = piece_like link (component_list (component_of all c)) power gs
    fed_like gs (pieces.Delta link i j power) = piece_like link (delta_list (index_of all i) (index_of all j)) power gs
    fed_like gs (pieces.Function link n is_commuting) =
        opened_like link (begun_function (function_of all n) is_commuting (around gs f).top) (begun_function (function_of all n) is_commuting (around gs g).top) gs (function_like (function_of all n) is_commuting gs)
    fed_like gs (pieces.EndOfFunction power) = closing_like (ends.Power power) gs
    fed_like gs (pieces.EndOfRaisedFunction by) = closing_like (ends.Raised by) gs
    fed_like gs (pieces.Field w) = argument_like (field_of all w) gs
    fed_like gs (pieces.Index i) = argument_like (index (index_of all i) ∷ []) gs
    fed_like gs (pieces.Vector v) = argument_like (vector (vector_of all v) ∷ []) gs
    fed_like gs pieces.Argument = sum_like links.Times gs
    fed_like gs pieces.EndOfArgument = closing_like (ends.Power 1) gs
    fed_like gs (pieces.Open link) = sum_like link gs
    fed_like gs (pieces.Close power) = closing_like (ends.Power power) gs
    fed_like gs (pieces.CloseRaised by) = closing_like (ends.Raised by) gs

  read_like : (f g : Frame) (gs : List Frame) (ps : List Piece) → Holds f g → EndLike Holds (read_from all (around gs f) ps) (read_from all (around gs g) ps)
  unfolding read_from
  read_like f g gs [] h = record { first = f; second = g; is_first = ap list_of_frame (outermost_around gs f); is_second = ap list_of_frame (outermost_around gs g); like = h }
  read_like f g gs (p ∷ ps) h =
      let next = fed_like f g h gs p in
      let end = read_like next.first next.second next.within ps next.like in
      record {
        first = end.first;
        second = end.second;
        is_first = ap (λ (r : Reading). read_from all r ps) next.is_first ∙ end.is_first;
        is_second = ap (λ (r : Reading). read_from all r ps) next.is_second ∙ end.is_second;
        like = end.like;
      }

-- ---- sums behind what was read before

-- a sum with further factors of its last product
abbrev longer : Part → List Listing → Part
longer p more = record { max = p.max; sum = p.sum; is_minus = p.is_minus; factors = p.factors ++ more }

longer_none : (p : Part) → longer p [] ≡ p
longer_none p = ap (λ (ls : List Listing). record { max = p.max; sum = p.sum; is_minus = p.is_minus; factors = ls }) (append-nil p.factors)

limited_closed : (p : Part) → limited p.max (closed p) ≡ closed p
unfolding closed
limited_closed p = limited_again p.max (followed p.sum (signed p.is_minus (row p.max p.factors)))

module _ (max : ℕ) (before : Listing) where
  -- the second of two sums, whatever factors its last product gets, is the first behind what was read before
  record IsBehind (p q : Part) : Type 0 where
    first : p.max ≡ max
    second : q.max ≡ max
    behind : (more : List Listing) → closed (longer q more) ≡ limited max (followed before (closed (longer p more)))

  abbrev AreBehind : Frame → Frame → Type 0
  AreBehind (in_sum p) (in_sum q) = IsBehind p q
  AreBehind (in_sum p) (in_function k) = ⊥
  AreBehind (in_function j) g = ⊥

  closed_behind : (p q : Part) → IsBehind p q → closed q ≡ limited max (followed before (closed p))
  closed_behind p q h = ap closed (sym (longer_none q)) ∙ h.behind [] ∙ ap (λ (r : Part). limited max (followed before (closed r))) (longer_none p)

  factor_behind : (l : Listing) (power : ℕ) (p q : Part) → IsBehind p q → IsBehind (with_factor l power p) (with_factor l power q)
  unfolding closed
  factor_behind l power p q h = record {
    first = h.first;
    second = h.second;
    behind = λ more.
        let last = powers max l power in
        let old : (r : Part) → r.max ≡ max → longer (with_factor l power r) more ≡ longer r (last ∷ more) =
        λ (r : Part) (e : r.max ≡ max).
        ap (λ (ls : List Listing). record { max = r.max; sum = r.sum; is_minus = r.is_minus; factors = ls })
        (ap (λ (n : ℕ). (r.factors ++ powers n l power ∷ []) ++ more) e ∙ append_assoc r.factors (last ∷ []) more) in
        ap closed (old q h.second) ∙ h.behind (last ∷ more) ∙ ap (λ (r : Part). limited max (followed before (closed r))) (sym (old p h.first));
  }

  -- a further product of both
  begun_behind : (is_minus : Bool) (old new : Listing) → new ≡ limited max (followed before old)
      → IsBehind (record { max = max; sum = old; is_minus = is_minus; factors = [] }) (record { max = max; sum = new; is_minus = is_minus; factors = [] })
  unfolding closed
  begun_behind is_minus old new e = record {
    first = refl;
    second = refl;
    behind = λ more.
        let product = signed is_minus (row max more) in
        ap (λ (l : Listing). limited max (followed l product)) e
        ∙ limited_followed max max (followed before old) product (omega arith)
        ∙ ap (limited max) (followed_assoc before old product)
        ∙ sym (limited_followed_last max max before (followed old product) (omega arith));
  }

  begun_also : (is_minus : Bool) (p q : Part) → IsBehind p q
      → IsBehind (record { max = p.max; sum = closed p; is_minus = is_minus; factors = [] }) (record { max = q.max; sum = closed q; is_minus = is_minus; factors = [] })
  begun_also is_minus p q h =
      let at : ℕ → Listing → Part = λ n l. record { max = n; sum = l; is_minus = is_minus; factors = [] } in
      let b = begun_behind is_minus (closed p) (closed q) (closed_behind p q h) in
      record {
        first = h.first;
        second = h.second;
        behind = λ more.
            ap (λ (n : ℕ). closed (longer (at n (closed q)) more)) h.second ∙ b.behind more
            ∙ ap (λ (n : ℕ). limited max (followed before (closed (longer (at n (closed p)) more)))) (sym h.first);
      }

  link_behind : (link : Link) (p q : Part) → IsBehind p q → IsBehind (linked link p) (linked link q)
  link_behind links.Plus p q h = begun_also false p q h
  link_behind links.Minus p q h = begun_also true p q h
  link_behind links.Times p q h = h

  stay_behind : (all : Meanings) → Stays all AreBehind
  stay_behind all = record { factor = factor; argument = argument; link = link; end = end; limit = limit; function = function }
    where
      factor : (link : Link) (l : Listing) (power : ℕ) (f g : Frame) → AreBehind f g → AreBehind (factor_into link l power f) (factor_into link l power g)
      factor link l power (in_sum p) (in_sum q) h = factor_behind l power (linked link p) (linked link q) (link_behind link p q h)
      factor link l power (in_sum p) (in_function k) h = absurd h
      factor link l power (in_function j) g h = absurd h

      argument : (args : List Argument) (f g : Frame) → AreBehind f g → AreBehind (argument_into args f) (argument_into args g)
      argument args (in_sum p) (in_sum q) h = h
      argument args (in_sum p) (in_function k) h = absurd h
      argument args (in_function j) g h = absurd h

      link : (link : Link) (f g : Frame) → AreBehind f g → AreBehind (linked_frame link f) (linked_frame link g)
      link l (in_sum p) (in_sum q) h = link_behind l p q h
      link l (in_sum p) (in_function k) h = absurd h
      link l (in_function j) g h = absurd h

      end : (l : Listing) (by : Ended) (f g : Frame) → AreBehind f g → AreBehind (ended all l by f) (ended all l by g)
      end l by (in_sum p) (in_sum q) h = factor_behind _ _ p q h
      end l by (in_sum p) (in_function k) h = absurd h
      end l by (in_function j) g h = absurd h

      limit : (f g : Frame) → AreBehind f g → limit_of g ≡ limit_of f
      limit (in_sum p) (in_sum q) h = h.second ∙ sym h.first
      limit (in_sum p) (in_function k) h = absurd h
      limit (in_function j) g h = absurd h

      function : (n : ℕ) (is_commuting : Bool) (f g : Frame) → AreBehind f g → begun_function n is_commuting g ≡ begun_function n is_commuting f
      function n is_commuting (in_sum p) (in_sum q) h = ap (λ (m : ℕ). in_function (calling m n is_commuting)) (h.second ∙ sym h.first)
      function n is_commuting (in_sum p) (in_function k) h = absurd h
      function n is_commuting (in_function j) g h = absurd h

  lists_behind : (f g : Frame) → AreBehind f g → list_of_frame g ≡ limited max (followed before (list_of_frame f))
  lists_behind (in_sum p) (in_sum q) h = closed_behind p q h
  lists_behind (in_sum p) (in_function k) h = absurd h
  lists_behind (in_function j) g h = absurd h

  -- whatever is read
  read_behind : (all : Meanings) (p q : Part) (ps : List Piece) → IsBehind p q
      → read_from all (record { top = in_sum q; outer = [] }) ps ≡ limited max (followed before (read_from all (record { top = in_sum p; outer = [] }) ps))
  read_behind all p q ps h =
      let end = read_like all AreBehind (stay_behind all) (in_sum p) (in_sum q) [] ps h in
      end.is_second ∙ lists_behind end.first end.second end.like ∙ ap (λ (l : Listing). limited max (followed before l)) (sym end.is_first)

max_linked : (link : Link) (p : Part) → (linked link p).max ≡ p.max
max_linked links.Plus p = refl
max_linked links.Minus p = refl
max_linked links.Times p = refl

pub goes_on : (link : Link) → begins link ≡ false → link ≡ links.Times
goes_on links.Plus e = absurd (cc)
goes_on links.Minus e = absurd (cc)
goes_on links.Times e = refl

-- the first product of a sum
pub linked_first : (max : ℕ) (link : Link) → linked link (fresh max) ≡ product_part max (is_minus_link link) []
linked_first max links.Plus = ap (λ (l : Listing). record { max = max; sum = l; is_minus = false; factors = [] }) (closed_fresh max)
linked_first max links.Minus = ap (λ (l : Listing). record { max = max; sum = l; is_minus = true; factors = [] }) (closed_fresh max)
linked_first max links.Times = refl

-- a further product stands behind those before it
product_behind : (max : ℕ) (top : Part) (link : Link) → top.max ≡ max → begins link ≡ true → IsBehind max (closed top) (linked link (fresh max)) (linked link top)
product_behind max top link m e = by link e
  where
    same : closed top ≡ limited max (followed (closed top) (closed (fresh max)))
    same = sym (ap (λ (l : Listing). limited max (followed (closed top) l)) (closed_fresh max) ∙ ap (limited max) (followed_last (closed top)) ∙ ap (λ (n : ℕ). limited n (closed top)) (sym m) ∙ limited_closed top)

    begun_by : (is_minus : Bool) → IsBehind max (closed top) (record { max = max; sum = closed (fresh max); is_minus = is_minus; factors = [] }) (record { max = top.max; sum = closed top; is_minus = is_minus; factors = [] })
    begun_by is_minus =
        let b = begun_behind max (closed top) is_minus (closed (fresh max)) (closed top) same in
        record {
          first = refl;
          second = m;
          behind = λ more. ap (λ (n : ℕ). closed (longer (record { max = n; sum = closed top; is_minus = is_minus; factors = [] }) more)) m ∙ b.behind more;
        }

    by : (link : Link) → begins link ≡ true → IsBehind max (closed top) (linked link (fresh max)) (linked link top)
    by links.Plus e = begun_by false
    by links.Minus e = begun_by true
    by links.Times e = absurd (cc)

module _ (max : ℕ) (all : Meanings) where
  -- a sum whose last product makes the same row is the same, within its limit
  read_same : (is_minus : Bool) (old new : List Listing) (ps : List Piece) → IsSameRow max old new
      → read_from all (in_product max is_minus new) ps ≡ limited max (read_from all (in_product max is_minus old) ps)
  unfolding closed
  read_same is_minus old new ps same =
      let list = read_from all (in_product max is_minus old) ps in
      let behind : IsBehind max nothing (product_part max is_minus old) (product_part max is_minus new) = record {
        first = refl;
        second = refl;
        behind = λ more.
            ap (λ (l : Listing). limited max (followed nothing (signed is_minus l))) (sym (same more))
            ∙ sym (limited_closed (product_part max is_minus (old ++ more)))
            ∙ ap (limited max) (sym (followed_nothing (closed (product_part max is_minus (old ++ more)))));
      } in
      read_behind max nothing all (product_part max is_minus old) (product_part max is_minus new) ps behind ∙ ap (limited max) (followed_nothing list)

  -- what was read is within its limit
  limited_read : (is_minus : Bool) (factors : List Listing) (ps : List Piece) → limited max (read_from all (in_product max is_minus factors) ps) ≡ read_from all (in_product max is_minus factors) ps
  limited_read is_minus factors ps = sym (read_same is_minus factors factors ps (λ more. refl))

  pub limited_pieces : (ps : List Piece) → limited max (list_of_pieces max all ps) ≡ list_of_pieces max all ps
  limited_pieces ps = limited_read false [] ps

  -- other factors that make the same row
  pub read_put : (is_minus : Bool) (old new : List Listing) (ps : List Piece) → IsSameRow max old new → read_from all (in_product max is_minus old) ps ≡ read_from all (in_product max is_minus new) ps
  read_put is_minus old new ps same = sym (read_same is_minus old new ps same ∙ limited_read is_minus old ps)

  -- how a piece stands to what is before it is read first
  pub read_linked : (p : Part) (piece : Piece) (more : List Piece) → read_from all (record { top = in_sum p; outer = [] }) (piece ∷ more) ≡ read_from all (record { top = in_sum (linked (link_of_piece piece) p); outer = [] }) (joined piece ∷ more)
  unfolding read_from fed
  read_linked p (pieces.Number link value power) more = refl
  read_linked p (pieces.Symbol link symbol power) more = refl
  read_linked p (pieces.Wild link symbol is_over power) more = refl
  read_linked p (pieces.Raised link base by) more = refl
  read_linked p (pieces.Stored link expression power) more = refl
  read_linked p (pieces.Imaginary link power) more = refl
  read_linked p (pieces.Dot link q r power) more = refl
  read_linked p (pieces.Component link c power) more = refl
  read_linked p (pieces.Delta link i j power) more = refl
  read_linked p (pieces.Function link f is_commuting) more = ap (λ (n : ℕ). read_from all (record { top = in_function (calling n (function_of all f) is_commuting); outer = in_sum (linked link p) ∷ [] }) more) (sym (max_linked link p))
  read_linked p (pieces.EndOfFunction power) more = refl
  read_linked p (pieces.EndOfRaisedFunction by) more = refl
  read_linked p (pieces.Field w) more = refl
  read_linked p (pieces.Index i) more = refl
  read_linked p (pieces.Vector v) more = refl
  read_linked p pieces.Argument more = refl
  read_linked p pieces.EndOfArgument more = refl
  read_linked p (pieces.Open link) more = ap (λ (n : ℕ). read_from all (record { top = in_sum (fresh n); outer = in_sum (linked link p) ∷ [] }) more) (sym (max_linked link p))
  read_linked p (pieces.Close power) more = refl
  read_linked p (pieces.CloseRaised by) more = refl

  -- a piece that begins a further factor
  pub read_further : (is_minus : Bool) (factors : List Listing) (piece : Piece) (more : List Piece) → link_of_piece piece ≡ links.Times
      → read_from all (in_product max is_minus factors) (piece ∷ more) ≡ read_from all (in_product max is_minus factors) (joined piece ∷ more)
  read_further is_minus factors piece more e =
      let p = product_part max is_minus factors in
      read_linked p piece more ∙ ap (λ (link : Link). read_from all (record { top = in_sum (linked link p); outer = [] }) (joined piece ∷ more)) e

  -- the first piece of a sum
  pub read_first : (piece : Piece) (more : List Piece) → list_of_pieces max all (piece ∷ more) ≡ read_from all (in_product max (is_minus_piece piece) []) (joined piece ∷ more)
  read_first piece more = read_linked (fresh max) piece more ∙ ap (λ (p : Part). read_from all (record { top = in_sum p; outer = [] }) (joined piece ∷ more)) (linked_first max (link_of_piece piece))

  -- a product that was read up to where it ends
  pub read_ends : (is_minus : Bool) (factors : List Listing) (rest : List Piece) → EndsProduct rest
      → read_from all (in_product max is_minus factors) rest ≡ limited max (followed (signed is_minus (row max factors)) (list_of_pieces max all rest))
  unfolding closed
  read_ends is_minus factors [] ends =
      let product = signed is_minus (row max factors) in
      read_none all (in_product max is_minus factors)
      ∙ ap (limited max) (followed_nothing product ∙ sym (followed_last product) ∙ ap (followed product) (sym (pieces_of_none max all)))
  read_ends is_minus factors (p ∷ ps) ends =
      let top = product_part max is_minus factors in
      let link = link_of_piece p in
      let product = signed is_minus (row max factors) in
      let rests = list_of_pieces max all (p ∷ ps) in
      read_linked top p ps
      ∙ read_behind max (closed top) all (linked link (fresh max)) (linked link top) (joined p ∷ ps) (product_behind max top link refl ends)
      ∙ ap (λ (l : Listing). limited max (followed (closed top) l)) (sym (read_linked (fresh max) p ps))
      ∙ limited_followed max max (followed nothing product) rests (omega arith)
      ∙ ap (λ (l : Listing). limited max (followed l rests)) (followed_nothing product)

-- ---- a function stays refused, whatever is read

module _ (cause : Cause) where
  abbrev IsRefused : Frame → Type 0
  IsRefused (in_sum p) = ⊥
  IsRefused (in_function k) = k.arguments ≡ Err cause

  abbrev AreRefused : Frame → Frame → Type 0
  AreRefused f g = (g ≡ f) × IsRefused f

  stay_refused : (all : Meanings) → Stays all AreRefused
  stay_refused all = record {
    factor = λ link l power f g h. (ap (factor_into link l power) h.0, factor link l power f h.1);
    argument = λ args f g h. (ap (argument_into args) h.0, argument args f h.1);
    link = λ link f g h. (ap (linked_frame link) h.0, also link f h.1);
    end = λ l by f g h. (ap (ended all l by) h.0, end l by f h.1);
    limit = λ f g h. ap limit_of h.0;
    function = λ n is_commuting f g h. ap (begun_function n is_commuting) h.0;
  }
    where
      factor : (link : Link) (l : Listing) (power : ℕ) (f : Frame) → IsRefused f → IsRefused (factor_into link l power f)
      factor link l power (in_sum p) h = absurd h
      factor link l power (in_function k) h = h

      argument : (args : List Argument) (f : Frame) → IsRefused f → IsRefused (argument_into args f)
      argument args (in_sum p) h = absurd h
      argument args (in_function k) h = ap (λ a. with_arguments a (Ok args)) h

      also : (link : Link) (f : Frame) → IsRefused f → IsRefused (linked_frame link f)
      also link (in_sum p) h = absurd h
      also link (in_function k) h = h

      end : (l : Listing) (by : Ended) (f : Frame) → IsRefused f → IsRefused (ended all l by f)
      end l by (in_sum p) h = absurd h
      end l by (in_function k) h = ap (λ a. with_arguments a (one_argument (argument_of l))) h

  refused_list : (f : Frame) → IsRefused f → list_of_frame f ≡ refusal cause
  refused_list (in_sum p) h = absurd h
  refused_list (in_function k) h = ap (function_list k.function k.is_commuting) h

  pub refused_stays : (all : Meanings) (k : Calling) (ps : List Piece) → k.arguments ≡ Err cause → read_from all (record { top = in_function k; outer = [] }) ps ≡ refusal cause
  refused_stays all k ps h =
      let end = read_like all AreRefused (stay_refused all) (in_function k) (in_function k) [] ps (refl, h) in
      end.is_first ∙ refused_list end.first end.like.1
