-- Reading the pieces of a tree gives the list of the tree.
use Rattle.std.proofs.Common.{◌≡◌, ℕ, ◌≤◌, Bool, true, false, List, [], ◌∷◌, ◌++◌, length, refl, sym, ap, ◌∙◌, append_assoc, append-nil}
use Rattle.std.specs.Prelude.{None, Result, Ok}
use Rattle.form_base.specs.declared.cause.Cause.{Cause}
use Rattle.form_term.specs.Term as terms
use Rattle.form_tree.specs.declared.tree.Link.{Link}
use Rattle.form_tree.specs.declared.tree.Link.TheVariants as links
use Rattle.form_tree.specs.declared.tree.Piece.{Piece}
use Rattle.form_tree.specs.declared.tree.Piece.TheVariants as pieces
use Rattle.form_tree.specs.Tree as tree
use Rattle.form_tree.specs.Tree.{Sum, Product, Factor, Arguments, Argument, pieces_of_sum, pieces_of_product, pieces_of_factor, pieces_of_arguments, pieces_of_argument, link_of}
use Rattle.form_tree.specs.Tree.{Base, pieces_of_base, exponent}
use Rattle.form_tree.specs.declared.tree.Base.TheVariants as bases
use Rattle.form_expand.specs.declared.ended.Ended.TheVariants as ends
use Rattle.form_expand.specs.Bound.{powered, wild_list, exponent_in, list_of_base, powered_by}
use Rattle.form_expand.specs.Meanings.{Meanings, terms_of, index_of, vector_of, component_of, function_of}
use Rattle.form_expand.specs.Expanding.{list_of_sum, list_of_product, list_of_factor, list_of_raised, arguments_of, arguments_in}
use Rattle.form_expand.specs.Left.{row, row_behind}
use Rattle.form_expand.specs.Listing.{Listing, nothing, limited, followed, pairs, powers, signed}
use Rattle.form_expand.specs.Numbers.{number_list, symbol_list}
use Rattle.form_expand.specs.Singles.{imaginary_list, dot_list, component_list, delta_list, function_list, argument_of, one_argument, with_arguments}
use Rattle.form_expand.specs.declared.ended.Ended.{Ended}
use Rattle.form_expand.specs.Reading.{Part, Calling, Frame, in_sum, in_function, Reading, fresh, closed, closing, linked, list_of_frame, with_factor, fed, read_from, list_of_pieces}
use Rattle.form_expand.proofs.Behind.{closed_fresh}
use Rattle.form_expand.proofs.Listings.{limited_within, limited_length, limited_again, limited_powers, signed_length, followed_nothing}
use Rattle.form_expand.proofs.Rows.{row_push}

-- the lists of the factors of a product, in order
abbrev first_factor : Product → Factor
first_factor (tree.one f) = f
first_factor (tree.times p f) = first_factor p

module _ (max : ℕ) (all : Meanings) where
  abbrev later_lists : Product → List Listing
  later_lists (tree.one f) = []
  later_lists (tree.times p f) = later_lists p ++ list_of_factor max all f ∷ []

  abbrev lists_of : Product → List Listing
  lists_of p = list_of_factor max all (first_factor p) ∷ later_lists p

  -- a sum behind which this product was read
  abbrev with_product : Bool → Product → Listing → Part
  with_product is_minus p sum = record { max = max; sum = sum; is_minus = is_minus; factors = lists_of p }

  -- a sum that was read from the front of a parenthesis: its last product, its sign, and what is before that
  abbrev last_product : Sum → Product
  last_product (tree.first is_minus p) = p
  last_product (tree.more s is_minus p) = p

  abbrev last_sign : Sum → Bool
  last_sign (tree.first is_minus p) = is_minus
  last_sign (tree.more s is_minus p) = is_minus

  abbrev sum_before : Sum → Listing
  sum_before (tree.first is_minus p) = closed (fresh max)
  sum_before (tree.more s is_minus p) = closed (with_product (last_sign s) (last_product s) (sum_before s))

  abbrev part_of : Sum → Part
  part_of s = with_product (last_sign s) (last_product s) (sum_before s)

  -- What is read is within the limit.

  limited_factor : (f : Factor) → limited max (list_of_factor max all f) ≡ list_of_factor max all f
  unfolding list_of_factor
  limited_factor (tree.number n k) = limited_again max (number_list n k)
  limited_factor (tree.symbol s k) = limited_again max (symbol_list s k)
  limited_factor (tree.wild s is_over k) = limited_powers max ((wild_list all s is_over k).0) ((wild_list all s is_over k).1)
  limited_factor (tree.raised b is_over is_minus n) = limited_powers max ((list_of_raised max all b is_over (exponent_in all is_minus n)).0) ((list_of_raised max all b is_over (exponent_in all is_minus n)).1)
  limited_factor (tree.imaginary k) = limited_powers max imaginary_list k
  limited_factor (tree.dot p q k) = limited_again max (dot_list (vector_of all p) (vector_of all q) k)
  limited_factor (tree.component c k) = limited_powers max (component_list (component_of all c)) k
  limited_factor (tree.delta i j k) = limited_powers max (delta_list (index_of all i) (index_of all j)) k
  limited_factor (tree.function f is_commuting args k) = limited_powers max (function_list (function_of all f) is_commuting (arguments_of max all args)) k
  limited_factor (tree.stored e k) = limited_powers max (record { terms = terms_of all e; end = None }) k
  limited_factor (tree.parenthesis s k) = limited_powers max (list_of_sum max all s) k

  limited_product : (p : Product) → limited max (list_of_product max all p) ≡ list_of_product max all p
  unfolding list_of_product
  limited_product (tree.one f) = limited_factor f
  limited_product (tree.times p f) = limited_again max (pairs (list_of_product max all p) (list_of_factor max all f))

  limited_signed : (is_minus : Bool) (l : Listing) → limited max l ≡ l → limited max (signed is_minus l) ≡ signed is_minus l
  limited_signed is_minus l e =
      let short : length l.terms ≤ max = rw e at (limited_length max l) in
      limited_within max (signed is_minus l) (rw (signed_length is_minus l) short)

  -- The lists that were read are those of the tree.

  row_of_product : (p : Product) → row max (lists_of p) ≡ list_of_product max all p
  unfolding row row_behind list_of_product
  row_of_product (tree.one f) = limited_factor f
  row_of_product (tree.times p f) =
      row_push max (list_of_factor max all (first_factor p)) (later_lists p) (list_of_factor max all f)
      ∙ ap (λ l. limited max (pairs l (list_of_factor max all f))) (row_of_product p)

  list_of_part : (s : Sum) → closed (part_of s) ≡ list_of_sum max all s
  unfolding closed list_of_sum
  list_of_part (tree.first is_minus p) =
      ap (λ l. limited max (followed l (signed is_minus (row max (lists_of p))))) (closed_fresh max)
      ∙ ap (limited max) (followed_nothing (signed is_minus (row max (lists_of p))))
      ∙ ap (λ l. limited max (signed is_minus l)) (row_of_product p)
      ∙ limited_signed is_minus (list_of_product max all p) (limited_product p)
  list_of_part (tree.more s is_minus p) =
      ap (λ l. limited max (followed l (signed is_minus (row max (lists_of p))))) (list_of_part s)
      ∙ ap (λ l. limited max (followed (list_of_sum max all s) (signed is_minus l))) (row_of_product p)

  -- Reading the pieces of a tree, whatever follows them.

  -- a sum that is being read to this limit
  abbrev part : Listing → Bool → List Listing → Part
  part sum is_minus factors = record { max = max; sum = sum; is_minus = is_minus; factors = factors }

  -- a further factor is read
  abbrev with_list : Link → Listing → Part → Part
  with_list link l p = let q = linked link p in record { max = q.max; sum = q.sum; is_minus = q.is_minus; factors = q.factors ++ l ∷ [] }

  linked_max : (link : Link) (sum : Listing) (is_minus : Bool) (factors : List Listing) → (linked link (part sum is_minus factors)).max ≡ max
  linked_max links.Plus sum is_minus factors = refl
  linked_max links.Minus sum is_minus factors = refl
  linked_max links.Times sum is_minus factors = refl

  -- a factor that is one piece, or that ends here
  piece_read : (link : Link) (l list : Listing) (power : ℕ) (sum : Listing) (is_minus : Bool) (factors : List Listing) (outer : List Frame) (rest : List Piece) → powers max l power ≡ list
      → read_from all (record { top = in_sum (with_factor l power (linked link (part sum is_minus factors))); outer = outer }) rest ≡ read_from all (record { top = in_sum (with_list link list (part sum is_minus factors)); outer = outer }) rest
  piece_read link l list power sum is_minus factors outer rest e =
      let q = linked link (part sum is_minus factors) in
      ap (λ k. read_from all (record { top = in_sum (record { max = q.max; sum = q.sum; is_minus = q.is_minus; factors = q.factors ++ k ∷ [] }); outer = outer }) rest)
      (ap (λ n. powers n l power) (linked_max link sum is_minus factors) ∙ e)

  -- a factor that is one piece, by its list and its power
  powered_read : (link : Link) (f : Listing × ℕ) (sum : Listing) (is_minus : Bool) (factors : List Listing) (outer : List Frame) (rest : List Piece)
      → read_from all (record { top = in_sum (with_factor f.0 f.1 (linked link (part sum is_minus factors))); outer = outer }) rest ≡ read_from all (record { top = in_sum (with_list link (powered max f) (part sum is_minus factors)); outer = outer }) rest
  powered_read link f sum is_minus factors outer rest = piece_read link f.0 (powered max f) f.1 sum is_minus factors outer rest refl

  -- this piece ends something so
  abbrev Ends : Piece → Ended → Type 0
  Ends end by = (r : Reading) → fed all r end ≡ closing all by r.top r.outer

  -- something of this list ends
  ends_read : (end : Piece) (by : Ended) → Ends end by → (top : Frame) (l : Listing) → list_of_frame top ≡ l
      → (link : Link) (sum : Listing) (is_minus : Bool) (factors : List Listing) (outer : List Frame) (rest : List Piece)
      → read_from all (record { top = top; outer = in_sum (linked link (part sum is_minus factors)) ∷ outer }) (end ∷ rest)
      ≡ read_from all (record { top = in_sum (with_list link (powered max (powered_by all by l)) (part sum is_minus factors)); outer = outer }) rest
  unfolding read_from
  ends_read end by ends top l e link sum is_minus factors outer rest =
      let q : Part = linked link (part sum is_minus factors) in
      ap (λ (r : Reading). read_from all r rest) (ends (record { top = top; outer = in_sum q ∷ outer }))
      ∙ ap (λ k. read_from all (record { top = in_sum (with_factor ((powered_by all by k).0) ((powered_by all by k).1) q); outer = outer }) rest) e
      ∙ powered_read link (powered_by all by l) sum is_minus factors outer rest

  -- a function that is being read, and these are its arguments so far
  abbrev called : ℕ → Bool → Result (List terms.Argument) Cause → Calling
  called f is_commuting args = record { max = max; function = f; is_commuting = is_commuting; arguments = args }

  -- reading the arguments of a function, or a sum, whatever is around it and follows
  abbrev ReadsArguments : Arguments → Type 0
  ReadsArguments args = (f : ℕ) (is_commuting : Bool) (outer : List Frame) (rest : List Piece)
      → read_from all (record { top = in_function (called f is_commuting (Ok [])); outer = outer }) (pieces_of_arguments args ++ rest)
      ≡ read_from all (record { top = in_function (called f is_commuting (arguments_of max all args)); outer = outer }) rest

  abbrev ReadsSum : Sum → Type 0
  ReadsSum s = (outer : List Frame) (rest : List Piece)
      → read_from all (record { top = in_sum (fresh max); outer = outer }) (pieces_of_sum s ++ rest) ≡ read_from all (record { top = in_sum (part_of s); outer = outer }) rest

  -- a function that ends so
  read_called : (args : Arguments) → ReadsArguments args → (f : ℕ) (is_commuting : Bool) (end : Piece) (by : Ended) → Ends end by
      → (link : Link) (sum : Listing) (is_minus : Bool) (factors : List Listing) (outer : List Frame) (rest : List Piece)
      → read_from all (record { top = in_sum (part sum is_minus factors); outer = outer }) ((pieces.Function link f is_commuting ∷ pieces_of_arguments args ++ end ∷ []) ++ rest)
      ≡ read_from all (record { top = in_sum (with_list link (powered max (powered_by all by (function_list (function_of all f) is_commuting (arguments_of max all args)))) (part sum is_minus factors)); outer = outer }) rest
  unfolding read_from fed
  read_called args read f is_commuting end by ends link sum is_minus factors outer rest =
      let g = function_of all f in
      let q : Frame = in_sum (linked link (part sum is_minus factors)) in
      ap (read_from all (record { top = in_function (called g is_commuting (Ok [])); outer = q ∷ outer })) (append_assoc (pieces_of_arguments args) (end ∷ []) rest)
      ∙ read g is_commuting (q ∷ outer) (end ∷ rest)
      ∙ ends_read end by ends (in_function (called g is_commuting (arguments_of max all args))) (function_list g is_commuting (arguments_of max all args)) refl link sum is_minus factors outer rest

  -- a sum in parentheses that ends so
  read_within : (s : Sum) → ReadsSum s → (end : Piece) (by : Ended) → Ends end by
      → (link : Link) (sum : Listing) (is_minus : Bool) (factors : List Listing) (outer : List Frame) (rest : List Piece)
      → read_from all (record { top = in_sum (part sum is_minus factors); outer = outer }) ((pieces.Open link ∷ pieces_of_sum s ++ end ∷ []) ++ rest)
      ≡ read_from all (record { top = in_sum (with_list link (powered max (powered_by all by (list_of_sum max all s))) (part sum is_minus factors)); outer = outer }) rest
  unfolding read_from fed
  read_within s read end by ends link sum is_minus factors outer rest =
      let q : Frame = in_sum (linked link (part sum is_minus factors)) in
      ap (read_from all (record { top = in_sum (fresh max); outer = q ∷ outer })) (append_assoc (pieces_of_sum s) (end ∷ []) rest)
      ∙ read (q ∷ outer) (end ∷ rest)
      ∙ ends_read end by ends (in_sum (part_of s)) (list_of_sum max all s) (list_of_part s) link sum is_minus factors outer rest

  mutual
    unfolding read_from fed list_of_factor list_of_base powers

    read_factor : (f : Factor) (link : Link) (sum : Listing) (is_minus : Bool) (factors : List Listing) (outer : List Frame) (rest : List Piece)
        → read_from all (record { top = in_sum (part sum is_minus factors); outer = outer }) (pieces_of_factor link f ++ rest)
        ≡ read_from all (record { top = in_sum (with_list link (list_of_factor max all f) (part sum is_minus factors)); outer = outer }) rest
    read_factor (tree.number n k) link sum is_minus factors outer rest = piece_read link (number_list n k) (limited max (number_list n k)) 1 sum is_minus factors outer rest refl
    read_factor (tree.symbol s k) link sum is_minus factors outer rest = piece_read link (symbol_list s k) (limited max (symbol_list s k)) 1 sum is_minus factors outer rest refl
    read_factor (tree.stored e k) link sum is_minus factors outer rest =
        let terms : Listing = record { terms = terms_of all e; end = None } in
        piece_read link terms (powers max terms k) k sum is_minus factors outer rest refl
    read_factor (tree.imaginary k) link sum is_minus factors outer rest = piece_read link imaginary_list (powers max imaginary_list k) k sum is_minus factors outer rest refl
    read_factor (tree.dot p q k) link sum is_minus factors outer rest = piece_read link (dot_list (vector_of all p) (vector_of all q) k) (limited max (dot_list (vector_of all p) (vector_of all q) k)) 1 sum is_minus factors outer rest refl
    read_factor (tree.component c k) link sum is_minus factors outer rest = piece_read link (component_list (component_of all c)) (powers max (component_list (component_of all c)) k) k sum is_minus factors outer rest refl
    read_factor (tree.delta i j k) link sum is_minus factors outer rest = piece_read link (delta_list (index_of all i) (index_of all j)) (powers max (delta_list (index_of all i) (index_of all j)) k) k sum is_minus factors outer rest refl
    read_factor (tree.wild s is_over k) link sum is_minus factors outer rest = powered_read link (wild_list all s is_over k) sum is_minus factors outer rest
    read_factor (tree.function f is_commuting args k) link sum is_minus factors outer rest =
        read_called args (λ g c o r. read_arguments args g c o r) f is_commuting (pieces.EndOfFunction k) (ends.Power k) (λ r. refl) link sum is_minus factors outer rest
    read_factor (tree.parenthesis s k) link sum is_minus factors outer rest =
        read_within s (λ o r. read_sum s o r) (pieces.Close k) (ends.Power k) (λ r. refl) link sum is_minus factors outer rest
    read_factor (tree.raised b is_over is_minus n) link sum was_minus factors outer rest = read_base b link is_over is_minus n sum was_minus factors outer rest

    read_base : (b : Base) (link : Link) (is_over is_minus : Bool) (n : ℕ) (sum : Listing) (was_minus : Bool) (factors : List Listing) (outer : List Frame) (rest : List Piece)
        → read_from all (record { top = in_sum (part sum was_minus factors); outer = outer }) (pieces_of_base link b (exponent is_over is_minus n) ++ rest)
        ≡ read_from all (record { top = in_sum (with_list link (powered max (list_of_raised max all b is_over (exponent_in all is_minus n))) (part sum was_minus factors)); outer = outer }) rest
    read_base (tree.number_base v) link o m n sum was factors outer rest = powered_read link (list_of_base all (bases.Number v) o (exponent_in all m n)) sum was factors outer rest
    read_base (tree.symbol_base s) link o m n sum was factors outer rest = powered_read link (list_of_base all (bases.Symbol s) o (exponent_in all m n)) sum was factors outer rest
    read_base (tree.wild_base s) link o m n sum was factors outer rest = powered_read link (list_of_base all (bases.Wild s) o (exponent_in all m n)) sum was factors outer rest
    read_base (tree.dot_base p q) link o m n sum was factors outer rest = powered_read link (list_of_base all (bases.Dot p q) o (exponent_in all m n)) sum was factors outer rest
    read_base tree.imaginary_base link o m n sum was factors outer rest = powered_read link (list_of_base all bases.Imaginary o (exponent_in all m n)) sum was factors outer rest
    read_base (tree.component_base c) link o m n sum was factors outer rest = powered_read link (list_of_base all (bases.Component c) o (exponent_in all m n)) sum was factors outer rest
    read_base (tree.delta_base i j) link o m n sum was factors outer rest = powered_read link (list_of_base all (bases.Delta i j) o (exponent_in all m n)) sum was factors outer rest
    read_base (tree.function_base f is_commuting args) link o m n sum was factors outer rest =
        read_called args (λ g c x r. read_arguments args g c x r) f is_commuting (pieces.EndOfRaisedFunction (exponent o m n)) (ends.Raised (exponent o m n)) (λ r. refl) link sum was factors outer rest
    read_base (tree.parenthesis_base s) link o m n sum was factors outer rest =
        read_within s (λ x r. read_sum s x r) (pieces.CloseRaised (exponent o m n)) (ends.Raised (exponent o m n)) (λ r. refl) link sum was factors outer rest

    read_arguments : (args : Arguments) (f : ℕ) (is_commuting : Bool) (outer : List Frame) (rest : List Piece)
        → read_from all (record { top = in_function (called f is_commuting (Ok [])); outer = outer }) (pieces_of_arguments args ++ rest)
        ≡ read_from all (record { top = in_function (called f is_commuting (arguments_of max all args)); outer = outer }) rest
    read_arguments tree.empty f is_commuting outer rest = refl
    read_arguments (tree.further args a) f is_commuting outer rest =
        ap (read_from all (record { top = in_function (called f is_commuting (Ok [])); outer = outer })) (append_assoc (pieces_of_arguments args) (pieces_of_argument a) rest)
        ∙ read_arguments args f is_commuting outer (pieces_of_argument a ++ rest)
        ∙ read_argument a f is_commuting (arguments_of max all args) outer rest

    read_argument : (a : Argument) (f : ℕ) (is_commuting : Bool) (args : Result (List terms.Argument) Cause) (outer : List Frame) (rest : List Piece)
        → read_from all (record { top = in_function (called f is_commuting args); outer = outer }) (pieces_of_argument a ++ rest)
        ≡ read_from all (record { top = in_function (called f is_commuting (with_arguments args (arguments_in max all a))); outer = outer }) rest
    read_argument (tree.index i) f is_commuting args outer rest = refl
    read_argument (tree.vector v) f is_commuting args outer rest = refl
    read_argument (tree.field w) f is_commuting args outer rest = refl
    read_argument (tree.expression s) f is_commuting args outer rest =
        let k : Frame = in_function (called f is_commuting args) in
        ap (read_from all (record { top = in_sum (fresh max); outer = k ∷ outer })) (append_assoc (pieces_of_sum s) (pieces.EndOfArgument ∷ []) rest)
        ∙ read_sum s (k ∷ outer) (pieces.EndOfArgument ∷ rest)
        ∙ ap (λ l. read_from all (record { top = in_function (called f is_commuting (with_arguments args (one_argument (argument_of l)))); outer = outer }) rest) (list_of_part s)

    read_product : (p : Product) (is_minus : Bool) (sum : Listing) (was_minus : Bool) (factors : List Listing) (outer : List Frame) (rest : List Piece)
        → read_from all (record { top = in_sum (part sum was_minus factors); outer = outer }) (pieces_of_product (link_of is_minus) p ++ rest)
        ≡ read_from all (record { top = in_sum (with_product is_minus p (closed (part sum was_minus factors))); outer = outer }) rest
    read_product (tree.one f) true sum was_minus factors outer rest = read_factor f links.Minus sum was_minus factors outer rest
    read_product (tree.one f) false sum was_minus factors outer rest = read_factor f links.Plus sum was_minus factors outer rest
    read_product (tree.times p f) is_minus sum was_minus factors outer rest =
        ap (read_from all (record { top = in_sum (part sum was_minus factors); outer = outer })) (append_assoc (pieces_of_product (link_of is_minus) p) (pieces_of_factor links.Times f) rest)
        ∙ read_product p is_minus sum was_minus factors outer (pieces_of_factor links.Times f ++ rest)
        ∙ read_factor f links.Times (closed (part sum was_minus factors)) is_minus (lists_of p) outer rest

    read_sum : (s : Sum) (outer : List Frame) (rest : List Piece)
        → read_from all (record { top = in_sum (fresh max); outer = outer }) (pieces_of_sum s ++ rest) ≡ read_from all (record { top = in_sum (part_of s); outer = outer }) rest
    read_sum (tree.first is_minus p) outer rest = read_product p is_minus nothing false [] outer rest
    read_sum (tree.more s is_minus p) outer rest =
        ap (read_from all (record { top = in_sum (fresh max); outer = outer })) (append_assoc (pieces_of_sum s) (pieces_of_product (link_of is_minus) p) rest)
        ∙ read_sum s outer (pieces_of_product (link_of is_minus) p ++ rest)
        ∙ read_product p is_minus (sum_before s) (last_sign s) (lists_of (last_product s)) outer rest

  pub pieces_of_tree : (s : Sum) → list_of_pieces max all (pieces_of_sum s) ≡ list_of_sum max all s
  unfolding read_from
  pieces_of_tree s =
      ap (read_from all (record { top = in_sum (fresh max); outer = [] })) (sym (append-nil (pieces_of_sum s)))
      ∙ read_sum s [] []
      ∙ list_of_part s

  pub limited_sum : (s : Sum) → limited max (list_of_sum max all s) ≡ list_of_sum max all s
  unfolding closed
  limited_sum s = ap (limited max) (sym (list_of_part s)) ∙ limited_again max (followed (part_of s).sum (signed (part_of s).is_minus (row max (part_of s).factors))) ∙ list_of_part s
