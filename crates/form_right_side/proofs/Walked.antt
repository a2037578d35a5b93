-- Going through the pieces of a tree gives what the tree gives.
use Rattle.std.proofs.Common.{◌≡◌, ℕ, suc, ◌-◌, ◌&&◌, Bool, true, false, List, [], ◌∷◌, ◌++◌, Option, Some, None, Result, Ok, Err, cond, refl, sym, ap, ◌∙◌, append_assoc, add-one}
use Rattle.std.proofs.lemmas.List.{append-nil}
use Rattle.form_names.specs.Names.{Entry}
use Rattle.form_ast.specs.declared.expr.Sign.{Sign}
use Rattle.form_ast.specs.declared.expr.Sign.TheVariants as signs
use Rattle.form_ast.specs.declared.expr.Link.{Link}
use Rattle.form_ast.specs.declared.expr.Link.TheVariants as links
use Rattle.form_ast.specs.declared.expr.Named.{Named}
use Rattle.form_ast.specs.declared.expr.Spelled.{Spelled}
use Rattle.form_ast.specs.declared.expr.Power as written_powers
use Rattle.form_ast.specs.declared.expr.Piece.{Piece}
use Rattle.form_ast.specs.declared.expr.Piece.TheVariants as written
use Rattle.form_ast.specs.Lawful.{HasNoParenthesis, IsDivisor}
use Rattle.form_ast.specs.Syntax as syntax
use Rattle.form_tree.specs.declared.tree.Link as resolved_link
use Rattle.form_tree.specs.declared.tree.Link.TheVariants as resolved_links
use Rattle.form_tree.specs.declared.tree.Piece as resolved
use Rattle.form_tree.specs.declared.tree.Piece.TheVariants as pieces
use Rattle.form_tree.specs.declared.tree.Exponent.{Exponent}
use Rattle.form_tree.specs.Tree as tree
use Rattle.form_right_side.specs.declared.resolved.End as ends
use Rattle.form_right_side.specs.declared.resolved.End.TheVariants as an_end
use Rattle.form_right_side.specs.declared.resolved.Head as heads
use Rattle.form_right_side.specs.declared.resolved.Head.TheVariants as a_head
use Rattle.form_right_side.specs.declared.walk.Place.TheVariants as places
use Rattle.form_right_side.specs.declared.powers.Power.{Power}
use Rattle.form_right_side.specs.Refusal.{Refusal, ◌>>=◌}
use Rattle.form_right_side.specs.RightSide.{Known, field_number, is_minus, first_misplaced, largest_exponent, largest_power, size_within, exponent, spelled_of, wrong, number, name, vector, dot, end, linked_to, delta, head, alone, only_end, component_end, call_by, empty_call_by, lone, argument, none_stands, symbol_named, number_base, name_base, dot_base, linked_base, delta_base, empty_call_base, call_base, sum, product, factor, to_power, base, arguments, one_argument}
use Rattle.form_right_side.specs.Walking.{Walk, power_at, name_power_at, exponent_by, by_name, ended_by, end_of_function, end_of_parenthesis, alone_piece, alone_end, entry_piece, first_given, second_given, component_given, at, moved, link_of, is_over, with_factor, adds, may_name, ends_argument, alone_before, alone_at, is_single, misplaced_to_end, component_begun, called_by, argument_begun, in_arguments, in_sum, walked}
use Rattle.form_right_side.proofs.Bare.{IsBareEntry, IsBareSum, IsBareProduct, IsBareFactor, IsBareBase, AreBareArguments, IsBareArgument}
use Rattle.form_right_side.proofs.Binding.{bind-bind, bind-same, minus-one, not-zero}
use Rattle.form_right_side.proofs.Fronts.{IsNoEnd, front-sum, peek, alone-is, IsPlain, plain-factor, plain-product, plain-end}
use Rattle.form_right_side.proofs.MisplacedNames.{single-sum, parted, seen-sum}

-- ---- links

first-link : (sign : Option Sign) → link_of (syntax.first_link sign) ≡ tree.link_of (is_minus sign)
first-link None = refl
first-link (Some signs.Plus) = refl
first-link (Some signs.Minus) = refl

later-link : (sign : Sign) → link_of (syntax.link_of sign) ≡ tree.link_of (is_minus (Some sign))
later-link signs.Plus = refl
later-link signs.Minus = refl

first-over : (sign : Option Sign) → is_over (syntax.first_link sign) ≡ false
first-over None = refl
first-over (Some signs.Plus) = refl
first-over (Some signs.Minus) = refl

later-over : (sign : Sign) → is_over (syntax.link_of sign) ≡ false
later-over signs.Plus = refl
later-over signs.Minus = refl

module _ {A : Type 0} where
  enclosed : (out a : List A) (x y : A) → ((out ++ x ∷ []) ++ a) ++ y ∷ [] ≡ out ++ (x ∷ (a ++ y ∷ []))
  enclosed out a x y = simp append_assoc

  within : (out a : List A) (x y : A) → ((out ++ x ∷ []) ++ a) ++ y ∷ [] ≡ out ++ (x ∷ a ++ y ∷ [])
  within out a x y = simp append_assoc

-- ---- arguments of `d_` without wildcards

abbrev entry_as : syntax.Entry → Piece
entry_as (syntax.name_entry n) = written.EntryName (syntax.name_of n)
entry_as (syntax.number_entry n) = written.EntryNumber n

entry-seen : (e : syntax.Entry) → IsBareEntry e → entry_piece (entry_as e) ≡ Some e
entry-seen (syntax.name_entry (syntax.named n)) h = refl
entry-seen (syntax.name_entry (syntax.wildcard n r)) h = absurd h
entry-seen (syntax.number_entry n) h = refl

entry-text : (e : syntax.Entry) → IsBareEntry e → syntax.pieces_of_entry e ≡ entry_as e ∷ []
entry-text (syntax.name_entry (syntax.named n)) h = refl
entry-text (syntax.name_entry (syntax.wildcard n r)) h = absurd h
entry-text (syntax.number_entry n) h = refl

delta-text : (a b : syntax.Entry) (rest : List Piece) → IsBareEntry a → IsBareEntry b
    → (syntax.pieces_of_entry a ++ syntax.pieces_of_entry b ++ written.EndOfDelta ∷ []) ++ rest ≡ entry_as a ∷ entry_as b ∷ written.EndOfDelta ∷ rest
delta-text a b rest h k =
    ap (λ (t : List Piece). (t ++ syntax.pieces_of_entry b ++ written.EndOfDelta ∷ []) ++ rest) (entry-text a h)
    ∙ ap (λ (t : List Piece). (entry_as a ∷ (t ++ written.EndOfDelta ∷ [])) ++ rest) (entry-text b k)

-- what has parentheses doesn't stand after `/`
not-over : (b : Bool) → (b ≡ true → ⊥) → b ≡ false
not-over false h = refl
not-over true h = absurd (h refl)

module _ (names : List Entry) (stands : ℕ → Bool) (known : Known) where
  abbrev W : Walk → List Piece → Result Walk Refusal
  W w rest = walked names stands known w rest

  abbrev in_a_sum : List resolved.Piece → ℕ → Walk
  in_a_sum out calls = at out places.Sum calls

  -- a factor that is added, and what comes then
  added : (w : Walk) (link : Link) (r : Result tree.Factor Refusal) (rest : List Piece) → (adds w link r >>= (λ next. W next rest)) ≡ (r >>= (λ g. W (with_factor w link g) rest))
  added w link r rest = bind-bind r (λ f. Ok (with_factor w link f)) (λ next. W next rest)

  -- what comes first comes first, whatever the power is
  by-bind : {A : Type 0} (over : Bool) (o : Option (Option Sign × Named)) (r : Result A Refusal) (b : A → Result tree.Base Refusal) (f : A → Result tree.Factor Refusal)
      → by_name names over o (r >>= b) (r >>= f) ≡ (r >>= (λ x. by_name names over o (b x) (f x)))
  by-bind over o (Ok x) b f = refl
  by-bind over None (Err e) b f = refl
  by-bind over (Some by) (Err e) b f = refl

  by-refused : (over : Bool) (o : Option (Option Sign × Named)) (e : Refusal) → by_name names over o (Err e) (Err e) ≡ Err e
  by-refused over None e = refl
  by-refused over (Some by) e = refl

  module _ (link : Link) (out : List resolved.Piece) (calls : ℕ) (rest : List Piece) where
    -- a factor, and what comes then
    abbrev goes : Result tree.Factor Refusal → Result Walk Refusal
    goes r = r >>= (λ g. W (with_factor (in_a_sum out calls) link g) rest)

    abbrev over : Bool
    over = is_over link

    abbrev By : Result tree.Base Refusal → Result tree.Factor Refusal → Result tree.Factor Refusal
    By b f = by_name names (is_over link) (name_power_at rest) b f

    abbrev power : Option Power
    power = power_at rest

    -- ---- factors without trees in them

    number-walked : (n : _) → W (in_a_sum out calls) (written.Number link n ∷ rest) ≡ goes (By (number_base n) (number over n power))
    unfolding walked
    number-walked n = added (in_a_sum out calls) link (By (number_base n) (number over n power)) rest

    name-walked : (n : Named) → W (in_a_sum out calls) (written.Name link n ∷ rest) ≡ goes (By (name_base names known over n) (name names (may_name calls stands) known over n power))
    unfolding walked
    name-walked n = added (in_a_sum out calls) link (By (name_base names known over n) (name names (may_name calls stands) known over n power)) rest

    module _ (p q : Named) where
      abbrev dot_with : ℕ → ℕ → Result tree.Factor Refusal
      dot_with left right = size_within largest_exponent power >>= (λ size. Ok (tree.dot left right (exponent over power size)))

      abbrev dot_by : ℕ → Result tree.Factor Refusal
      dot_by left = vector names q >>= (λ right. By (Ok (tree.dot_base left right)) (dot_with left right))

      second-vector : (left : ℕ) → W (at out (places.Dot link left) calls) (written.EndOfDot q ∷ rest) ≡ goes (dot_by left)
      unfolding walked
      second-vector left =
          let w = at out (places.Dot link left) calls in
          bind-bind (vector names q) (λ right. adds w link (By (Ok (tree.dot_base left right)) (dot_with left right))) (λ next. W next rest)
          ∙ bind-same (vector names q) (λ right. adds w link (By (Ok (tree.dot_base left right)) (dot_with left right)) >>= (λ next. W next rest)) (λ right. goes (By (Ok (tree.dot_base left right)) (dot_with left right)))
          (λ right. added w link (By (Ok (tree.dot_base left right)) (dot_with left right)) rest)
          ∙ sym (bind-bind (vector names q) (λ right. By (Ok (tree.dot_base left right)) (dot_with left right)) (λ g. W (with_factor (in_a_sum out calls) link g) rest))

      dot-by : By (dot_base names p q) (dot names over p q power) ≡ (vector names p >>= dot_by)
      dot-by =
          by-bind over (name_power_at rest) (vector names p) (λ left. vector names q >>= (λ right. Ok (tree.dot_base left right))) (λ left. vector names q >>= dot_with left)
          ∙ bind-same (vector names p) (λ left. By (vector names q >>= (λ right. Ok (tree.dot_base left right))) (vector names q >>= dot_with left)) dot_by
          (λ left. by-bind over (name_power_at rest) (vector names q) (λ right. Ok (tree.dot_base left right)) (dot_with left))

      dot-walked : W (in_a_sum out calls) (written.Dot link p ∷ written.EndOfDot q ∷ rest) ≡ goes (By (dot_base names p q) (dot names over p q power))
      unfolding walked
      dot-walked =
          bind-bind (vector names p) (λ left. Ok (moved (in_a_sum out calls) (places.Dot link left))) (λ next. W next (written.EndOfDot q ∷ rest))
          ∙ bind-same (vector names p) (λ left. W (moved (in_a_sum out calls) (places.Dot link left)) (written.EndOfDot q ∷ rest)) (λ left. goes (dot_by left)) second-vector
          ∙ sym (bind-bind (vector names p) dot_by (λ g. W (with_factor (in_a_sum out calls) link g) rest))
          ∙ ap goes (sym dot-by)

    -- ---- `d_`

    first-walked : (e : syntax.Entry) (text : List Piece) → IsBareEntry e
        → W (at out (places.Delta link) calls) (entry_as e ∷ text) ≡ (end names e >>= (λ x. W (at out (places.SecondEntry link x) calls) text))
    unfolding walked
    first-walked e text bare =
        let w = at out (places.Delta link) calls in
        ap (λ (o : Option syntax.Entry). (alone_end names o >>= (λ x. Ok (first_given w link x))) >>= (λ next. W next text)) (entry-seen e bare)
        ∙ bind-bind (end names e >>= (λ x. Ok (Some x))) (λ x. Ok (first_given w link x)) (λ next. W next text)
        ∙ bind-bind (end names e) (λ x. Ok (Some x)) (λ o. W (first_given w link o) text)

    second-walked : (first : ends.End) (e : syntax.Entry) (text : List Piece) → IsBareEntry e
        → W (at out (places.SecondEntry link first) calls) (entry_as e ∷ text) ≡ (end names e >>= (λ x. W (at out (places.EndOfDelta link first x) calls) text))
    unfolding walked
    second-walked first e text bare =
        let w = at out (places.SecondEntry link first) calls in
        ap (λ (o : Option syntax.Entry). (alone_end names o >>= (λ x. Ok (second_given w link first x))) >>= (λ next. W next text)) (entry-seen e bare)
        ∙ bind-bind (end names e >>= (λ x. Ok (Some x))) (λ x. Ok (second_given w link first x)) (λ next. W next text)
        ∙ bind-bind (end names e) (λ x. Ok (Some x)) (λ o. W (second_given w link first o) text)

    abbrev linked_by : ends.End → ends.End → Result tree.Factor Refusal
    linked_by a b = By (Ok (linked_base a b)) (linked_to a b power)

    delta-ended : (first second : ends.End) → W (at out (places.EndOfDelta link first second) calls) (written.EndOfDelta ∷ rest) ≡ goes (linked_by first second)
    unfolding walked
    delta-ended first second = added (at out (places.EndOfDelta link first second) calls) link (linked_by first second) rest

    module _ (a b : syntax.Entry) where
      abbrev delta_by : ends.End → Result tree.Factor Refusal
      delta_by first = end names b >>= (λ second. linked_by first second)

      delta-by : By (delta_base names a b) (delta names a b power) ≡ (end names a >>= delta_by)
      delta-by =
          by-bind over (name_power_at rest) (end names a) (λ first. end names b >>= (λ second. Ok (linked_base first second))) (λ first. end names b >>= (λ second. linked_to first second power))
          ∙ bind-same (end names a) (λ first. By (end names b >>= (λ second. Ok (linked_base first second))) (end names b >>= (λ second. linked_to first second power))) delta_by
          (λ first. by-bind over (name_power_at rest) (end names b) (λ second. Ok (linked_base first second)) (λ second. linked_to first second power))

      delta-walked : (spot : _) → IsBareEntry a → IsBareEntry b
          → W (in_a_sum out calls) (written.Delta link spot ∷ entry_as a ∷ entry_as b ∷ written.EndOfDelta ∷ rest) ≡ goes (By (delta_base names a b) (delta names a b power))
      unfolding walked
      delta-walked spot h k =
          first-walked a (entry_as b ∷ written.EndOfDelta ∷ rest) h
          ∙ bind-same (end names a) (λ first. W (at out (places.SecondEntry link first) calls) (entry_as b ∷ written.EndOfDelta ∷ rest)) (λ first. goes (delta_by first))
          (λ first.
          second-walked first b (written.EndOfDelta ∷ rest) k
          ∙ bind-same (end names b) (λ second. W (at out (places.EndOfDelta link first second) calls) (written.EndOfDelta ∷ rest)) (λ second. goes (linked_by first second)) (delta-ended first)
          ∙ sym (bind-bind (end names b) (λ second. linked_by first second) (λ g. W (with_factor (in_a_sum out calls) link g) rest)))
          ∙ sym (bind-bind (end names a) delta_by (λ g. W (with_factor (in_a_sum out calls) link g) rest))
          ∙ ap goes (sym delta-by)

    -- ---- vectors with parentheses

    -- the only argument, and the end
    component-walked : (id : ℕ) (p : Piece) (e : syntax.Entry) → alone_piece p ≡ Some e
        → W (at out (places.Vector link id) calls) (p ∷ written.EndOfCall ∷ rest) ≡ goes (end names e >>= (λ x. linked_by (an_end.Vector id) x))
    unfolding walked
    component-walked id p e seen =
        let w = at out (places.Vector link id) calls in
        ap (λ (o : Option syntax.Entry). (alone_end names o >>= (λ x. Ok (component_given w link id x))) >>= (λ next. W next (written.EndOfCall ∷ rest))) seen
        ∙ bind-bind (end names e >>= (λ x. Ok (Some x))) (λ x. Ok (component_given w link id x)) (λ next. W next (written.EndOfCall ∷ rest))
        ∙ bind-bind (end names e) (λ x. Ok (Some x)) (λ o. W (component_given w link id o) (written.EndOfCall ∷ rest))
        ∙ bind-same (end names e) (λ x. W (moved w (places.Component link id x)) (written.EndOfCall ∷ rest)) (λ x. goes (linked_by (an_end.Vector id) x))
        (λ x. added (moved w (places.Component link id x)) link (linked_by (an_end.Vector id) x) rest)
        ∙ sym (bind-bind (end names e) (λ x. linked_by (an_end.Vector id) x) (λ g. W (with_factor (in_a_sum out calls) link g) rest))

    to-end : (r : Refusal) → misplaced_to_end names (written.EndOfCall ∷ rest) r ≡ r
    unfolding misplaced_to_end
    to-end r = refl

    at-end : is_single 0 (written.EndOfCall ∷ rest) ≡ true
    unfolding is_single
    at-end = refl

    module _ (n : Named) (id : ℕ) where
      first-seen : (s : syntax.Sum) → IsBareSum s → alone_at (syntax.pieces_of_sum s ++ written.EndOfCall ∷ rest) ≡ alone s
      first-seen s bare = ap (λ (t : List Piece). alone_at (t ++ written.EndOfCall ∷ rest)) (front-sum s).is ∙ peek written.EndOfCall rest refl s bare

      -- by whether the argument is alone
      by-alone : (s : syntax.Sum) (o : Option syntax.Entry) → IsBareSum s → alone s ≡ o
          → (component_begun names (in_a_sum out calls) link n id (syntax.pieces_of_sum s ++ written.EndOfCall ∷ rest) o >>= (λ next. W next (syntax.pieces_of_sum s ++ written.EndOfCall ∷ rest)))
          ≡ goes (only_end names n s o >>= (λ e. linked_by (an_end.Vector id) e))
      by-alone s None bare is =
          ap (λ (r : Refusal). Err r) (seen-sum names s (written.EndOfCall ∷ rest) (wrong (spelled_of n)) ∙ ap (first_misplaced names (syntax.pieces_of_sum s)) (to-end (wrong (spelled_of n))))
      by-alone s (Some e) bare is =
          let one = alone-is s e bare is in
          ap (λ (t : List Piece). W (moved (in_a_sum out calls) (places.Vector link id)) (t ++ written.EndOfCall ∷ rest)) one.is
          ∙ component-walked id one.piece e one.seen

      single-text : (s : syntax.Sum) → is_single 0 (syntax.pieces_of_sum s ++ written.EndOfCall ∷ rest) ≡ true
      single-text s = single-sum s 0 (written.EndOfCall ∷ rest) ∙ at-end

      vector-walked : (args : syntax.Arguments) → AreBareArguments args
          → (called_by names (in_a_sum out calls) link n (syntax.pieces_of_arguments args ++ written.EndOfCall ∷ rest) (a_head.Vector id) >>= (λ next. W next (syntax.pieces_of_arguments args ++ written.EndOfCall ∷ rest)))
          ≡ goes (component_end names n args >>= (λ e. linked_by (an_end.Vector id) e))
      unfolding is_single misplaced_to_end
      vector-walked (syntax.argument (syntax.expression s)) bare =
          ap (λ (b : Bool). cond b (component_begun names (in_a_sum out calls) link n id (syntax.pieces_of_sum s ++ written.EndOfCall ∷ rest) (alone_at (syntax.pieces_of_sum s ++ written.EndOfCall ∷ rest))) (Err (wrong (spelled_of n))) >>= (λ next. W next (syntax.pieces_of_sum s ++ written.EndOfCall ∷ rest))) (single-text s)
          ∙ ap (λ (o : Option syntax.Entry). component_begun names (in_a_sum out calls) link n id (syntax.pieces_of_sum s ++ written.EndOfCall ∷ rest) o >>= (λ next. W next (syntax.pieces_of_sum s ++ written.EndOfCall ∷ rest))) (first-seen s bare)
          ∙ by-alone s (alone s) bare refl
      vector-walked (syntax.argument (syntax.field f)) bare = refl
      vector-walked (syntax.further args a) bare =
          let all = syntax.pieces_of_arguments (syntax.further args a) ++ written.EndOfCall ∷ rest in
          ap (λ (b : Bool). cond b (component_begun names (in_a_sum out calls) link n id all (alone_at all)) (Err (wrong (spelled_of n))) >>= (λ next. W next all)) (parted args a (written.EndOfCall ∷ rest))

      neither : (b : Bool) → ◌≡◌ {A = Option syntax.Entry} (cond b None None) None
      neither true = refl
      neither false = refl

      empty-vector-walked : (called_by names (in_a_sum out calls) link n (written.EndOfCall ∷ rest) (a_head.Vector id) >>= (λ next. W next (written.EndOfCall ∷ rest)))
          ≡ goes (Err (wrong (spelled_of n)))
      unfolding is_single misplaced_to_end
      empty-vector-walked =
          ap (λ (o : Option syntax.Entry). component_begun names (in_a_sum out calls) link n id (written.EndOfCall ∷ rest) o >>= (λ next. W next (written.EndOfCall ∷ rest))) (neither (ends_argument rest))

    -- ---- what ends with a power

    module _ (plain : is_over link ≡ false) (before : List resolved.Piece) (around : resolved.Piece → List resolved.Piece)
        (joins : (p : resolved.Piece) → before ++ p ∷ [] ≡ out ++ around p) (b : tree.Base) (f : ℕ → tree.Factor) (ends : ℕ → resolved.Piece) (raises : Exponent → resolved.Piece)
        (sized : (size : ℕ) → around (ends size) ≡ tree.pieces_of_factor (link_of link) (f size))
        (named : (e : Exponent) → around (raises e) ≡ tree.pieces_of_base (link_of link) b e) where
      abbrev then_rest : resolved.Piece → Result Walk Refusal
      then_rest p = W (in_a_sum (before ++ p ∷ []) calls) rest

      sized-walked : (size : ℕ) → then_rest (ends size) ≡ W (with_factor (in_a_sum out calls) link (f size)) rest
      sized-walked size = ap (λ (made : List resolved.Piece). W (in_a_sum made calls) rest) (joins (ends size) ∙ ap (λ (l : List resolved.Piece). out ++ l) (sized size))

      named-walked : (m : Bool) (id : ℕ) → then_rest (raises (tree.exponent false m id)) ≡ W (with_factor (in_a_sum out calls) link (tree.raised b (is_over link) m id)) rest
      named-walked m id =
          ap (λ (made : List resolved.Piece). W (in_a_sum made calls) rest)
          (joins (raises (tree.exponent false m id)) ∙ ap (λ (l : List resolved.Piece). out ++ l) (named (tree.exponent false m id))
          ∙ ap (λ (v : Bool). out ++ tree.pieces_of_base (link_of link) b (tree.exponent v m id)) (sym plain))

      ended-walked : (o : Option (Option Sign × Named)) → (ended_by names rest ends raises o >>= then_rest) ≡ goes (by_name names (is_over link) o (Ok b) (size_within largest_power (power_at rest) >>= (λ size. Ok (f size))))
      ended-walked None =
          bind-bind (size_within largest_power (power_at rest)) (λ size. Ok (ends size)) then_rest
          ∙ bind-same (size_within largest_power (power_at rest)) (λ size. then_rest (ends size)) (λ size. W (with_factor (in_a_sum out calls) link (f size)) rest) sized-walked
          ∙ sym (bind-bind (size_within largest_power (power_at rest)) (λ size. Ok (f size)) (λ g. W (with_factor (in_a_sum out calls) link g) rest))
      ended-walked (Some by) =
          let by_symbol = symbol_named names by.1 in
          bind-bind (exponent_by names false by) (λ e. Ok (raises e)) then_rest
          ∙ bind-bind by_symbol (λ id. Ok (tree.exponent false (is_minus by.0) id)) (λ e. then_rest (raises e))
          ∙ bind-same by_symbol (λ id. then_rest (raises (tree.exponent false (is_minus by.0) id))) (λ id. W (with_factor (in_a_sum out calls) link (tree.raised b (is_over link) (is_minus by.0) id)) rest) (named-walked (is_minus by.0))
          ∙ sym (bind-bind by_symbol (λ id. Ok (tree.raised b (is_over link) (is_minus by.0) id)) (λ g. W (with_factor (in_a_sum out calls) link g) rest))

  -- ---- arguments

  -- where an argument begins that is neither empty nor a field
  begins : (w : Walk) (p : Piece) (rest : List Piece) → IsNoEnd p → in_arguments names stands known w p rest ≡ argument_begun names stands known w p rest (lone names (alone_before rest p))
  begins w (written.Number link n) rest h = refl
  begins w (written.Name link n) rest h = refl
  begins w (written.Dot link n) rest h = refl
  begins w (written.EndOfDot n) rest h = refl
  begins w (written.Delta link spot) rest h = refl
  begins w (written.EntryName n) rest h = refl
  begins w (written.EntryNumber n) rest h = refl
  begins w written.EndOfDelta rest h = refl
  begins w (written.Call link n) rest h = refl
  begins w written.Comma rest h = refl
  begins w written.EndOfCall rest h = absurd h
  begins w (written.Open link) rest h = refl
  begins w written.Close rest h = refl
  begins w (written.Raised is_parenthesized sign n) rest h = refl
  begins w (written.RaisedByName sign n) rest h = refl
  begins w (written.Marked r) rest h = refl
  begins w (written.Field n) rest h = absurd h

  no_more : {A : Type 0} (a b : A) (more : List A) → a ∷ more ≡ b ∷ [] → more ≡ []
  no_more a b more e = cc

  -- one argument, and what ends it
  module _ (y : Piece) (rest : List Piece) (c : ℕ) (ended : List resolved.Piece → Result Walk Refusal)
      (stops : ends_argument (y ∷ rest) ≡ true)
      (behind : (out : List resolved.Piece) → W (at out places.Behind (suc c)) (y ∷ rest) ≡ ended out)
      (expressed : (out : List resolved.Piece) → W (in_a_sum out (suc c)) (y ∷ rest) ≡ ended (out ++ pieces.EndOfArgument ∷ [])) where
    module _ (s : syntax.Sum) (bare : IsBareSum s) (out : List resolved.Piece)
        (walks : (o : List resolved.Piece) → W (in_a_sum o (suc c)) (syntax.pieces_of_sum s ++ y ∷ rest) ≡ (sum names none_stands known s >>= (λ t. W (in_a_sum (o ++ tree.pieces_of_sum t) (suc c)) (y ∷ rest)))) where
      abbrev head_piece : Piece
      head_piece = (front-sum s).head

      abbrev tail_pieces : List Piece
      tail_pieces = (front-sum s).tail

      expression-walked : (in_sum names stands known (in_a_sum (out ++ pieces.Argument ∷ []) (suc c)) head_piece (tail_pieces ++ y ∷ rest) >>= (λ next. W next (tail_pieces ++ y ∷ rest)))
          ≡ ((sum names none_stands known s >>= (λ t. Ok (tree.expression t))) >>= (λ a. ended (out ++ tree.pieces_of_argument a)))
      unfolding walked
      expression-walked =
          ap (λ (t : List Piece). W (in_a_sum (out ++ pieces.Argument ∷ []) (suc c)) (t ++ y ∷ rest)) (sym (front-sum s).is)
          ∙ walks (out ++ pieces.Argument ∷ [])
          ∙ bind-same (sum names none_stands known s) (λ t. W (in_a_sum ((out ++ pieces.Argument ∷ []) ++ tree.pieces_of_sum t) (suc c)) (y ∷ rest)) (λ t. ended (out ++ tree.pieces_of_argument (tree.expression t)))
          (λ t. expressed ((out ++ pieces.Argument ∷ []) ++ tree.pieces_of_sum t) ∙ ap ended (within out (tree.pieces_of_sum t) pieces.Argument pieces.EndOfArgument))
          ∙ sym (bind-bind (sum names none_stands known s) (λ t. Ok (tree.expression t)) (λ a. ended (out ++ tree.pieces_of_argument a)))

      lone-walked : (a : tree.Argument) (o : Option syntax.Entry) → alone s ≡ o → lone names o ≡ Some a
          → W (at (out ++ tree.pieces_of_argument a) places.Behind (suc c)) (tail_pieces ++ y ∷ rest) ≡ ended (out ++ tree.pieces_of_argument a)
      lone-walked a None is seen = absurd cc
      lone-walked a (Some e) is seen =
          let one = alone-is s e bare is in
          ap (λ (t : List Piece). W (at (out ++ tree.pieces_of_argument a) places.Behind (suc c)) (t ++ y ∷ rest)) (no_more head_piece one.piece tail_pieces (sym (front-sum s).is ∙ one.is))
          ∙ behind (out ++ tree.pieces_of_argument a)

      by-lone : (o : Option tree.Argument) → lone names (alone s) ≡ o
          → (argument_begun names stands known (at out places.Argument (suc c)) head_piece (tail_pieces ++ y ∷ rest) o >>= (λ next. W next (tail_pieces ++ y ∷ rest)))
          ≡ (argument o (sum names none_stands known s) >>= (λ a. ended (out ++ tree.pieces_of_argument a)))
      by-lone None is = expression-walked
      by-lone (Some a) is = lone-walked a (alone s) refl is

      argument-walked : W (at out places.Argument (suc c)) (syntax.pieces_of_sum s ++ y ∷ rest) ≡ (argument (lone names (alone s)) (sum names none_stands known s) >>= (λ a. ended (out ++ tree.pieces_of_argument a)))
      unfolding walked
      argument-walked =
          ap (λ (t : List Piece). W (at out places.Argument (suc c)) (t ++ y ∷ rest)) (front-sum s).is
          ∙ ap (λ (r : Result Walk Refusal). r >>= (λ next. W next (tail_pieces ++ y ∷ rest))) (begins (at out places.Argument (suc c)) head_piece (tail_pieces ++ y ∷ rest) (front-sum s).no_end)
          ∙ ap (λ (o : Option syntax.Entry). argument_begun names stands known (at out places.Argument (suc c)) head_piece (tail_pieces ++ y ∷ rest) (lone names o) >>= (λ next. W next (tail_pieces ++ y ∷ rest))) (peek y rest stops s bare)
          ∙ by-lone (lone names (alone s)) refl

    field-walked : (n : Spelled) (out : List resolved.Piece) → W (at out places.Argument (suc c)) (written.Field n ∷ y ∷ rest) ≡ ended (out ++ pieces.Field (field_number known.fields n.name) ∷ [])
    unfolding walked
    field-walked n out = behind (out ++ pieces.Field (field_number known.fields n.name) ∷ [])

  -- ---- the end of arguments

  abbrev call_end : ℕ → List Piece → List resolved.Piece → Result Walk Refusal
  call_end c rest out = end_of_function names rest >>= (λ p. W (in_a_sum (out ++ p ∷ []) c) rest)

  ends-behind : (c : ℕ) (rest : List Piece) (out : List resolved.Piece) → W (at out places.Behind (suc c)) (written.EndOfCall ∷ rest) ≡ call_end c rest out
  unfolding walked
  ends-behind c rest out = bind-bind (end_of_function names rest) (λ p. Ok (in_a_sum (out ++ p ∷ []) (suc c - 1))) (λ next. W next rest) ∙ ap (λ (m : ℕ). end_of_function names rest >>= (λ p. W (in_a_sum (out ++ p ∷ []) m) rest)) (minus-one c)

  ends-expression : (c : ℕ) (rest : List Piece) (out : List resolved.Piece) → W (in_a_sum out (suc c)) (written.EndOfCall ∷ rest) ≡ call_end c rest (out ++ pieces.EndOfArgument ∷ [])
  unfolding walked
  ends-expression c rest out = bind-bind (end_of_function names rest) (λ p. Ok (in_a_sum ((out ++ pieces.EndOfArgument ∷ []) ++ p ∷ []) (suc c - 1))) (λ next. W next rest) ∙ ap (λ (m : ℕ). end_of_function names rest >>= (λ p. W (in_a_sum ((out ++ pieces.EndOfArgument ∷ []) ++ p ∷ []) m) rest)) (minus-one c)

  ends-empty : (c : ℕ) (rest : List Piece) (out : List resolved.Piece) → W (at out places.Argument (suc c)) (written.EndOfCall ∷ rest) ≡ call_end c rest out
  unfolding walked
  ends-empty c rest out = bind-bind (end_of_function names rest) (λ p. Ok (in_a_sum (out ++ p ∷ []) (suc c - 1))) (λ next. W next rest) ∙ ap (λ (m : ℕ). end_of_function names rest >>= (λ p. W (in_a_sum (out ++ p ∷ []) m) rest)) (minus-one c)

  comma-behind : (c : ℕ) (rest : List Piece) (out : List resolved.Piece) → W (at out places.Behind (suc c)) (written.Comma ∷ rest) ≡ W (at out places.Argument (suc c)) rest
  unfolding walked
  comma-behind c rest out = refl

  comma-expression : (c : ℕ) (rest : List Piece) (out : List resolved.Piece) → W (in_a_sum out (suc c)) (written.Comma ∷ rest) ≡ W (at (out ++ pieces.EndOfArgument ∷ []) places.Argument (suc c)) rest
  unfolding walked
  comma-expression c rest out = refl

  -- ---- calls, which don't stand after `/`

  module _ (link : Link) (plain : is_over link ≡ false) (n : Named) (out : List resolved.Piece) (calls : ℕ) (rest : List Piece) where
    abbrev Then : Result tree.Factor Refusal → Result Walk Refusal
    Then r = goes link out calls rest r

    abbrev ByRest : Result tree.Base Refusal → Result tree.Factor Refusal → Result tree.Factor Refusal
    ByRest b f = by_name names (is_over link) (name_power_at rest) b f

    abbrev function_with : ℕ → Bool → tree.Arguments → Result tree.Factor Refusal
    function_with id is_commuting given = size_within largest_power (power_at rest) >>= (λ size. Ok (tree.function id is_commuting given size))

    abbrev function_by : ℕ → Bool → tree.Arguments → Result tree.Factor Refusal
    function_by id is_commuting given = ByRest (Ok (tree.function_base id is_commuting given)) (function_with id is_commuting given)

    given-ended : (id : ℕ) (is_commuting : Bool) (given : tree.Arguments)
        → call_end calls rest ((out ++ pieces.Function (link_of link) id is_commuting ∷ []) ++ tree.pieces_of_arguments given) ≡ Then (function_by id is_commuting given)
    given-ended id is_commuting given =
        ended-walked link out calls rest plain ((out ++ pieces.Function (link_of link) id is_commuting ∷ []) ++ tree.pieces_of_arguments given)
        (λ p. pieces.Function (link_of link) id is_commuting ∷ (tree.pieces_of_arguments given ++ p ∷ []))
        (λ p. enclosed out (tree.pieces_of_arguments given) (pieces.Function (link_of link) id is_commuting) p)
        (tree.function_base id is_commuting given) (λ size. tree.function id is_commuting given size) (λ size. pieces.EndOfFunction size) (λ e. pieces.EndOfRaisedFunction e)
        (λ size. refl) (λ e. refl) (name_power_at rest)

    function-ended : (id : ℕ) (is_commuting : Bool) (all : Result tree.Arguments Refusal)
        → (all >>= (λ given. call_end calls rest ((out ++ pieces.Function (link_of link) id is_commuting ∷ []) ++ tree.pieces_of_arguments given)))
        ≡ Then (ByRest (all >>= (λ given. Ok (tree.function_base id is_commuting given))) (all >>= function_with id is_commuting))
    function-ended id is_commuting all =
        bind-same all (λ given. call_end calls rest ((out ++ pieces.Function (link_of link) id is_commuting ∷ []) ++ tree.pieces_of_arguments given)) (λ given. Then (function_by id is_commuting given)) (given-ended id is_commuting)
        ∙ sym (bind-bind all (function_by id is_commuting) (λ g. W (with_factor (in_a_sum out calls) link g) rest))
        ∙ ap Then (sym (by-bind (is_over link) (name_power_at rest) all (λ given. Ok (tree.function_base id is_commuting given)) (function_with id is_commuting)))

    -- a call, where arguments are gone through so
    module _ (args : syntax.Arguments) (bare : AreBareArguments args) (text : List Piece) (is : text ≡ syntax.pieces_of_arguments args ++ written.EndOfCall ∷ rest)
        (walks : (o : List resolved.Piece) → W (at o places.Argument (suc calls)) (syntax.pieces_of_arguments args ++ written.EndOfCall ∷ rest) ≡ (arguments names known args >>= (λ all. call_end calls rest (o ++ tree.pieces_of_arguments all)))) where
      abbrev call_with : heads.Head → Result tree.Factor Refusal
      call_with h = ByRest (call_base names n args (arguments names known args) h) (call_by names n args (arguments names known args) (power_at rest) h)

      by-head : (r : Result heads.Head Refusal) → ((r >>= called_by names (in_a_sum out calls) link n (syntax.pieces_of_arguments args ++ written.EndOfCall ∷ rest)) >>= (λ next. W next (syntax.pieces_of_arguments args ++ written.EndOfCall ∷ rest)))
          ≡ Then (r >>= call_with)
      by-head (Err e) = refl
      by-head (Ok (a_head.Vector id)) =
          vector-walked link out calls rest n id args bare
          ∙ ap Then (sym (by-bind (is_over link) (name_power_at rest) (component_end names n args) (λ e. Ok (linked_base (an_end.Vector id) e)) (λ e. linked_to (an_end.Vector id) e (power_at rest))))
      by-head (Ok (a_head.Function id is_commuting)) =
          ap (λ (m : ℕ). W (at (out ++ pieces.Function (link_of link) id is_commuting ∷ []) places.Argument m) (syntax.pieces_of_arguments args ++ written.EndOfCall ∷ rest)) (add-one calls)
          ∙ walks (out ++ pieces.Function (link_of link) id is_commuting ∷ [])
          ∙ function-ended id is_commuting (arguments names known args)

      call-walked : W (in_a_sum out calls) (written.Call link n ∷ text)
          ≡ Then (ByRest (head names n >>= call_base names n args (arguments names known args)) (head names n >>= call_by names n args (arguments names known args) (power_at rest)))
      unfolding walked
      call-walked =
          ap (λ (t : List Piece). W (in_a_sum out calls) (written.Call link n ∷ t)) is ∙ by-head (head names n)
          ∙ ap Then (sym (by-bind (is_over link) (name_power_at rest) (head names n) (call_base names n args (arguments names known args)) (call_by names n args (arguments names known args) (power_at rest))))

    abbrev empty_with : heads.Head → Result tree.Factor Refusal
    empty_with h = ByRest (empty_call_base n h) (empty_call_by n (power_at rest) h)

    empty-by-head : (r : Result heads.Head Refusal) → ((r >>= called_by names (in_a_sum out calls) link n (written.EndOfCall ∷ rest)) >>= (λ next. W next (written.EndOfCall ∷ rest)))
        ≡ Then (r >>= empty_with)
    empty-by-head (Err e) = refl
    empty-by-head (Ok (a_head.Vector id)) =
        empty-vector-walked link out calls rest n id ∙ ap Then (sym (by-refused (is_over link) (name_power_at rest) (wrong (spelled_of n))))
    empty-by-head (Ok (a_head.Function id is_commuting)) =
        ap (λ (m : ℕ). W (at (out ++ pieces.Function (link_of link) id is_commuting ∷ []) places.Argument m) (written.EndOfCall ∷ rest)) (add-one calls)
        ∙ ends-empty calls rest (out ++ pieces.Function (link_of link) id is_commuting ∷ [])
        ∙ ended-walked link out calls rest plain (out ++ pieces.Function (link_of link) id is_commuting ∷ [])
        (λ p. pieces.Function (link_of link) id is_commuting ∷ p ∷ [])
        (λ p. append_assoc out (pieces.Function (link_of link) id is_commuting ∷ []) (p ∷ []))
        (tree.function_base id is_commuting tree.empty) (λ size. tree.function id is_commuting tree.empty size) (λ size. pieces.EndOfFunction size) (λ e. pieces.EndOfRaisedFunction e)
        (λ size. refl) (λ e. refl) (name_power_at rest)

    empty-walked : W (in_a_sum out calls) (written.Call link n ∷ written.EndOfCall ∷ rest)
        ≡ Then (ByRest (head names n >>= empty_call_base n) (head names n >>= empty_call_by n (power_at rest)))
    unfolding walked
    empty-walked =
        empty-by-head (head names n)
        ∙ ap Then (sym (by-bind (is_over link) (name_power_at rest) (head names n) (empty_call_base n) (empty_call_by n (power_at rest))))

  -- ---- parentheses

  module _ (link : Link) (plain : is_over link ≡ false) (out : List resolved.Piece) (calls : ℕ) (rest : List Piece) where
    open-walked : (text : List Piece) → W (in_a_sum out calls) (written.Open link ∷ text) ≡ W (in_a_sum (out ++ pieces.Open (link_of link) ∷ []) calls) text
    unfolding walked
    open-walked text = refl

    close-walked : (o : List resolved.Piece) → W (in_a_sum o calls) (written.Close ∷ rest) ≡ (end_of_parenthesis names rest >>= (λ p. W (in_a_sum (o ++ p ∷ []) calls) rest))
    unfolding walked
    close-walked o = bind-bind (end_of_parenthesis names rest) (λ p. Ok (in_a_sum (o ++ p ∷ []) calls)) (λ next. W next rest)

    abbrev parenthesis_with : tree.Sum → Result tree.Factor Refusal
    parenthesis_with t = size_within largest_power (power_at rest) >>= (λ size. Ok (tree.parenthesis t size))

    abbrev parenthesis_by : tree.Sum → Result tree.Factor Refusal
    parenthesis_by t = by_name names (is_over link) (name_power_at rest) (Ok (tree.parenthesis_base t)) (parenthesis_with t)

    sum-ended : (t : tree.Sum) → W (in_a_sum ((out ++ pieces.Open (link_of link) ∷ []) ++ tree.pieces_of_sum t) calls) (written.Close ∷ rest) ≡ goes link out calls rest (parenthesis_by t)
    sum-ended t =
        close-walked ((out ++ pieces.Open (link_of link) ∷ []) ++ tree.pieces_of_sum t)
        ∙ ended-walked link out calls rest plain ((out ++ pieces.Open (link_of link) ∷ []) ++ tree.pieces_of_sum t)
        (λ p. pieces.Open (link_of link) ∷ (tree.pieces_of_sum t ++ p ∷ []))
        (λ p. enclosed out (tree.pieces_of_sum t) (pieces.Open (link_of link)) p)
        (tree.parenthesis_base t) (λ size. tree.parenthesis t size) (λ size. pieces.Close size) (λ e. pieces.CloseRaised e)
        (λ size. refl) (λ e. refl) (name_power_at rest)

    parenthesis-ended : (r : Result tree.Sum Refusal)
        → (r >>= (λ t. W (in_a_sum ((out ++ pieces.Open (link_of link) ∷ []) ++ tree.pieces_of_sum t) calls) (written.Close ∷ rest)))
        ≡ goes link out calls rest (by_name names (is_over link) (name_power_at rest) (r >>= (λ t. Ok (tree.parenthesis_base t))) (r >>= parenthesis_with))
    parenthesis-ended r =
        bind-same r (λ t. W (in_a_sum ((out ++ pieces.Open (link_of link) ∷ []) ++ tree.pieces_of_sum t) calls) (written.Close ∷ rest)) (λ t. goes link out calls rest (parenthesis_by t)) sum-ended
        ∙ sym (bind-bind r parenthesis_by (λ g. W (with_factor (in_a_sum out calls) link g) rest))
        ∙ ap (goes link out calls rest) (sym (by-bind (is_over link) (name_power_at rest) r (λ t. Ok (tree.parenthesis_base t)) parenthesis_with))

  -- ---- trees

  none-stands : (c : ℕ) → may_name (suc c) stands ≡ none_stands
  none-stands c = λ j id. ap (λ (b : Bool). b && stands id) (not-zero c) j

  expression-sum : (s : syntax.Sum) (c : ℕ) (o : List resolved.Piece) (y : List Piece) → (sum names (may_name (suc c) stands) known s >>= (λ t. W (in_a_sum (o ++ tree.pieces_of_sum t) (suc c)) y)) ≡ (sum names none_stands known s >>= (λ t. W (in_a_sum (o ++ tree.pieces_of_sum t) (suc c)) y))
  expression-sum s c o y = ap (λ (f : ℕ → Bool). sum names f known s >>= (λ t. W (in_a_sum (o ++ tree.pieces_of_sum t) (suc c)) y)) (none-stands c)

  -- a factor behind a product
  behind-product : (r : Result tree.Product Refusal) (calls : ℕ) (out : List resolved.Piece) (rest : List Piece) (link : Link) (f : Result tree.Factor Refusal)
      → (r >>= (λ q. f >>= (λ g. W (in_a_sum ((out ++ tree.pieces_of_product (link_of link) q) ++ tree.pieces_of_factor resolved_links.Times g) calls) rest)))
      ≡ ((r >>= (λ q. f >>= (λ g. Ok (tree.times q g)))) >>= (λ q. W (in_a_sum (out ++ tree.pieces_of_product (link_of link) q) calls) rest))
  behind-product r calls out rest link f =
      bind-same r (λ q. f >>= (λ g. W (in_a_sum ((out ++ tree.pieces_of_product (link_of link) q) ++ tree.pieces_of_factor resolved_links.Times g) calls) rest))
      (λ q. (f >>= (λ g. Ok (tree.times q g))) >>= (λ q. W (in_a_sum (out ++ tree.pieces_of_product (link_of link) q) calls) rest))
      (λ q.
      bind-same f (λ g. W (in_a_sum ((out ++ tree.pieces_of_product (link_of link) q) ++ tree.pieces_of_factor resolved_links.Times g) calls) rest)
      (λ g. W (in_a_sum (out ++ tree.pieces_of_product (link_of link) (tree.times q g)) calls) rest)
      (λ g. ap (λ (made : List resolved.Piece). W (in_a_sum made calls) rest) (append_assoc out (tree.pieces_of_product (link_of link) q) (tree.pieces_of_factor resolved_links.Times g)))
      ∙ sym (bind-bind f (λ g. Ok (tree.times q g)) (λ q. W (in_a_sum (out ++ tree.pieces_of_product (link_of link) q) calls) rest)))
      ∙ sym (bind-bind r (λ q. f >>= (λ g. Ok (tree.times q g))) (λ q. W (in_a_sum (out ++ tree.pieces_of_product (link_of link) q) calls) rest))

  -- a power was looked at before
  power-passed : (p : written_powers.Power) (out : List resolved.Piece) (calls : ℕ) (rest : List Piece) → W (in_a_sum out calls) (syntax.piece_of_power p ∷ rest) ≡ W (in_a_sum out calls) rest
  unfolding walked
  power-passed p out calls rest = refl

  name-passed : (sign : Option Sign) (n : Named) (out : List resolved.Piece) (calls : ℕ) (rest : List Piece) → W (in_a_sum out calls) (written.RaisedByName sign n ∷ rest) ≡ W (in_a_sum out calls) rest
  unfolding walked
  name-passed sign n out calls rest = refl

  mutual
    pub sum-walked : (s : syntax.Sum) → IsBareSum s → (out : List resolved.Piece) (calls : ℕ) (rest : List Piece) → IsPlain rest
        → W (in_a_sum out calls) (syntax.pieces_of_sum s ++ rest) ≡ (sum names (may_name calls stands) known s >>= (λ t. W (in_a_sum (out ++ tree.pieces_of_sum t) calls) rest))
    sum-walked (syntax.first sign p) bare out calls rest plain =
        product-walked p bare (syntax.first_link sign) (first-over sign) out calls rest plain
        ∙ ap (λ (l : resolved_link.Link). product names (may_name calls stands) known p >>= (λ q. W (in_a_sum (out ++ tree.pieces_of_product l q) calls) rest)) (first-link sign)
        ∙ sym (bind-bind (product names (may_name calls stands) known p) (λ q. Ok (tree.first (is_minus sign) q)) (λ t. W (in_a_sum (out ++ tree.pieces_of_sum t) calls) rest))
    sum-walked (syntax.more s sign p) bare out calls rest plain =
        ap (W (in_a_sum out calls)) (append_assoc (syntax.pieces_of_sum s) (syntax.pieces_of_product (syntax.link_of sign) p) rest)
        ∙ sum-walked s bare.0 out calls (syntax.pieces_of_product (syntax.link_of sign) p ++ rest) (plain-product (syntax.link_of sign) p rest)
        ∙ bind-same (sum names (may_name calls stands) known s) (λ t. W (in_a_sum (out ++ tree.pieces_of_sum t) calls) (syntax.pieces_of_product (syntax.link_of sign) p ++ rest))
        (λ t. (product names (may_name calls stands) known p >>= (λ q. Ok (tree.more t (is_minus (Some sign)) q))) >>= (λ t. W (in_a_sum (out ++ tree.pieces_of_sum t) calls) rest))
        (λ t.
        product-walked p bare.1 (syntax.link_of sign) (later-over sign) (out ++ tree.pieces_of_sum t) calls rest plain
        ∙ bind-same (product names (may_name calls stands) known p) (λ q. W (in_a_sum ((out ++ tree.pieces_of_sum t) ++ tree.pieces_of_product (link_of (syntax.link_of sign)) q) calls) rest)
        (λ q. W (in_a_sum (out ++ tree.pieces_of_sum (tree.more t (is_minus (Some sign)) q)) calls) rest)
        (λ q. ap (λ (made : List resolved.Piece). W (in_a_sum made calls) rest) (append_assoc out (tree.pieces_of_sum t) (tree.pieces_of_product (link_of (syntax.link_of sign)) q) ∙ ap (λ (l : resolved_link.Link). out ++ (tree.pieces_of_sum t ++ tree.pieces_of_product l q)) (later-link sign)))
        ∙ sym (bind-bind (product names (may_name calls stands) known p) (λ q. Ok (tree.more t (is_minus (Some sign)) q)) (λ t. W (in_a_sum (out ++ tree.pieces_of_sum t) calls) rest)))
        ∙ sym (bind-bind (sum names (may_name calls stands) known s) (λ t. product names (may_name calls stands) known p >>= (λ q. Ok (tree.more t (is_minus (Some sign)) q))) (λ t. W (in_a_sum (out ++ tree.pieces_of_sum t) calls) rest))

    product-walked : (p : syntax.Product) → IsBareProduct p → (link : Link) → is_over link ≡ false → (out : List resolved.Piece) (calls : ℕ) (rest : List Piece) → IsPlain rest
        → W (in_a_sum out calls) (syntax.pieces_of_product link p ++ rest) ≡ (product names (may_name calls stands) known p >>= (λ q. W (in_a_sum (out ++ tree.pieces_of_product (link_of link) q) calls) rest))
    product-walked (syntax.one f) bare link is out calls rest plain =
        factor-walked f bare link (λ e. let no_over : false ≡ true = sym is ∙ e in absurd cc) out calls rest plain
        ∙ ap (λ (b : Bool). factor names (may_name calls stands) known b f >>= (λ g. W (in_a_sum (out ++ tree.pieces_of_factor (link_of link) g) calls) rest)) is
        ∙ sym (bind-bind (factor names (may_name calls stands) known false f) (λ g. Ok (tree.one g)) (λ q. W (in_a_sum (out ++ tree.pieces_of_product (link_of link) q) calls) rest))
    product-walked (syntax.times p f) bare link is out calls rest plain =
        ap (W (in_a_sum out calls)) (append_assoc (syntax.pieces_of_product link p) (syntax.pieces_of_factor links.Times f) rest)
        ∙ product-walked p bare.0 link is out calls (syntax.pieces_of_factor links.Times f ++ rest) (plain-factor links.Times f rest)
        ∙ bind-same (product names (may_name calls stands) known p) (λ q. W (in_a_sum (out ++ tree.pieces_of_product (link_of link) q) calls) (syntax.pieces_of_factor links.Times f ++ rest))
        (λ q. factor names (may_name calls stands) known false f >>= (λ g. W (in_a_sum ((out ++ tree.pieces_of_product (link_of link) q) ++ tree.pieces_of_factor resolved_links.Times g) calls) rest))
        (λ q. factor-walked f bare.1 links.Times (λ e. absurd cc) (out ++ tree.pieces_of_product (link_of link) q) calls rest plain)
        ∙ behind-product (product names (may_name calls stands) known p) calls out rest link (factor names (may_name calls stands) known false f)
    product-walked (syntax.over p f) bare link is out calls rest plain =
        ap (W (in_a_sum out calls)) (append_assoc (syntax.pieces_of_product link p) (syntax.pieces_of_factor links.Over f) rest)
        ∙ product-walked p bare.0 link is out calls (syntax.pieces_of_factor links.Over f ++ rest) (plain-factor links.Over f rest)
        ∙ bind-same (product names (may_name calls stands) known p) (λ q. W (in_a_sum (out ++ tree.pieces_of_product (link_of link) q) calls) (syntax.pieces_of_factor links.Over f ++ rest))
        (λ q. factor names (may_name calls stands) known true f >>= (λ g. W (in_a_sum ((out ++ tree.pieces_of_product (link_of link) q) ++ tree.pieces_of_factor resolved_links.Times g) calls) rest))
        (λ q. factor-walked f bare.1 links.Over (λ e. bare.2) (out ++ tree.pieces_of_product (link_of link) q) calls rest plain)
        ∙ behind-product (product names (may_name calls stands) known p) calls out rest link (factor names (may_name calls stands) known true f)

    factor-walked : (f : syntax.Factor) → IsBareFactor f → (link : Link) → (is_over link ≡ true → IsDivisor f) → (out : List resolved.Piece) (calls : ℕ) (rest : List Piece) → IsPlain rest
        → W (in_a_sum out calls) (syntax.pieces_of_factor link f ++ rest) ≡ (factor names (may_name calls stands) known (is_over link) f >>= (λ g. W (with_factor (in_a_sum out calls) link g) rest))
    factor-walked (syntax.factor b None) bare link fits out calls rest plain =
        base-walked b bare link fits out calls rest
        ∙ ap (λ (o : Option (Option Sign × Named)). by_name names (is_over link) o (base names (may_name calls stands) known (is_over link) b) (to_power names (may_name calls stands) known (is_over link) b (power_at rest)) >>= (λ g. W (with_factor (in_a_sum out calls) link g) rest)) plain.1
        ∙ ap (λ (power : Option Power). to_power names (may_name calls stands) known (is_over link) b power >>= (λ g. W (with_factor (in_a_sum out calls) link g) rest)) plain.0
    factor-walked (syntax.factor b (Some p)) bare link fits out calls rest plain =
        ap (W (in_a_sum out calls)) (append_assoc (syntax.pieces_of_base link b) (syntax.piece_of_power p ∷ []) rest)
        ∙ base-walked b bare link fits out calls (syntax.piece_of_power p ∷ rest)
        ∙ bind-same (factor names (may_name calls stands) known (is_over link) (syntax.factor b (Some p))) (λ g. W (with_factor (in_a_sum out calls) link g) (syntax.piece_of_power p ∷ rest))
        (λ g. W (with_factor (in_a_sum out calls) link g) rest)
        (λ g. power-passed p (out ++ tree.pieces_of_factor (link_of link) g) calls rest)
    factor-walked (syntax.raised b sign (syntax.named n)) bare link fits out calls rest plain =
        ap (W (in_a_sum out calls)) (append_assoc (syntax.pieces_of_base link b) (written.RaisedByName sign n ∷ []) rest)
        ∙ base-walked b bare.0 link fits out calls (written.RaisedByName sign n ∷ rest)
        ∙ bind-same (factor names (may_name calls stands) known (is_over link) (syntax.raised b sign (syntax.named n))) (λ g. W (with_factor (in_a_sum out calls) link g) (written.RaisedByName sign n ∷ rest))
        (λ g. W (with_factor (in_a_sum out calls) link g) rest)
        (λ g. name-passed sign n (out ++ tree.pieces_of_factor (link_of link) g) calls rest)
    factor-walked (syntax.raised b sign (syntax.wildcard n r)) bare link fits out calls rest plain = absurd bare.1

    -- a base with the power that follows
    base-walked : (b : syntax.Base) → IsBareBase b → (link : Link) → (is_over link ≡ true → HasNoParenthesis b) → (out : List resolved.Piece) (calls : ℕ) (rest : List Piece)
        → W (in_a_sum out calls) (syntax.pieces_of_base link b ++ rest)
        ≡ goes link out calls rest (by_name names (is_over link) (name_power_at rest) (base names (may_name calls stands) known (is_over link) b) (to_power names (may_name calls stands) known (is_over link) b (power_at rest)))
    base-walked (syntax.number n) bare link fits out calls rest = number-walked link out calls rest n
    base-walked (syntax.name (syntax.named n)) bare link fits out calls rest = name-walked link out calls rest n
    base-walked (syntax.name (syntax.wildcard n r)) bare link fits out calls rest = absurd bare
    base-walked (syntax.dot (syntax.named p) (syntax.named q)) bare link fits out calls rest = dot-walked link out calls rest p q
    base-walked (syntax.dot (syntax.wildcard p r) q) bare link fits out calls rest = absurd bare.0
    base-walked (syntax.dot (syntax.named p) (syntax.wildcard q r)) bare link fits out calls rest = absurd bare.1
    base-walked (syntax.delta spot a b) bare link fits out calls rest =
        ap (λ (t : List Piece). W (in_a_sum out calls) (written.Delta link spot ∷ t)) (delta-text a b rest bare.0 bare.1)
        ∙ delta-walked link out calls rest a b spot bare.0 bare.1
    base-walked (syntax.empty_call (syntax.named n)) bare link fits out calls rest = empty-walked link (not-over (is_over link) fits) n out calls rest
    base-walked (syntax.empty_call (syntax.wildcard n r)) bare link fits out calls rest = absurd bare
    base-walked (syntax.call (syntax.named n) args) bare link fits out calls rest =
        call-walked link (not-over (is_over link) fits) n out calls rest args bare.1 ((syntax.pieces_of_arguments args ++ written.EndOfCall ∷ []) ++ rest) (append_assoc (syntax.pieces_of_arguments args) (written.EndOfCall ∷ []) rest)
        (λ o. arguments-walked args bare.1 o calls written.EndOfCall rest (call_end calls rest) refl (ends-behind calls rest) (ends-expression calls rest))
    base-walked (syntax.call (syntax.wildcard n r) args) bare link fits out calls rest = absurd bare.0
    base-walked (syntax.parenthesis s) bare link fits out calls rest =
        open-walked link (not-over (is_over link) fits) out calls rest ((syntax.pieces_of_sum s ++ written.Close ∷ []) ++ rest)
        ∙ ap (W (in_a_sum (out ++ pieces.Open (link_of link) ∷ []) calls)) (append_assoc (syntax.pieces_of_sum s) (written.Close ∷ []) rest)
        ∙ sum-walked s bare (out ++ pieces.Open (link_of link) ∷ []) calls (written.Close ∷ rest) (refl, refl)
        ∙ parenthesis-ended link (not-over (is_over link) fits) out calls rest (sum names (may_name calls stands) known s)

    one-walked : (a : syntax.Argument) → IsBareArgument a → (out : List resolved.Piece) (c : ℕ) (y : Piece) (rest : List Piece) (ended : List resolved.Piece → Result Walk Refusal)
        → ends_argument (y ∷ rest) ≡ true
        → ((o : List resolved.Piece) → W (at o places.Behind (suc c)) (y ∷ rest) ≡ ended o)
        → ((o : List resolved.Piece) → W (in_a_sum o (suc c)) (y ∷ rest) ≡ ended (o ++ pieces.EndOfArgument ∷ []))
        → W (at out places.Argument (suc c)) (syntax.pieces_of_argument a ++ y ∷ rest) ≡ (one_argument names known a >>= (λ x. ended (out ++ tree.pieces_of_argument x)))
    one-walked (syntax.expression s) bare out c y rest ended stops behind expressed =
        argument-walked y rest c ended stops behind expressed s bare out (λ o. sum-walked s bare o (suc c) (y ∷ rest) (plain-end y rest stops) ∙ expression-sum s c o (y ∷ rest))
    one-walked (syntax.field n) bare out c y rest ended stops behind expressed = field-walked y rest c ended stops behind expressed n out

    arguments-walked : (args : syntax.Arguments) → AreBareArguments args → (out : List resolved.Piece) (c : ℕ) (y : Piece) (rest : List Piece) (ended : List resolved.Piece → Result Walk Refusal)
        → ends_argument (y ∷ rest) ≡ true
        → ((o : List resolved.Piece) → W (at o places.Behind (suc c)) (y ∷ rest) ≡ ended o)
        → ((o : List resolved.Piece) → W (in_a_sum o (suc c)) (y ∷ rest) ≡ ended (o ++ pieces.EndOfArgument ∷ []))
        → W (at out places.Argument (suc c)) (syntax.pieces_of_arguments args ++ y ∷ rest) ≡ (arguments names known args >>= (λ all. ended (out ++ tree.pieces_of_arguments all)))
    arguments-walked (syntax.argument a) bare out c y rest ended stops behind expressed =
        one-walked a bare out c y rest ended stops behind expressed
        ∙ sym (bind-bind (one_argument names known a) (λ x. Ok (tree.further tree.empty x)) (λ all. ended (out ++ tree.pieces_of_arguments all)))
    arguments-walked (syntax.further args a) bare out c y rest ended stops behind expressed =
        let last : Result tree.Argument Refusal = one_argument names known a in
        ap (W (at out places.Argument (suc c))) (append_assoc (syntax.pieces_of_arguments args) (written.Comma ∷ syntax.pieces_of_argument a) (y ∷ rest))
        ∙ arguments-walked args bare.0 out c written.Comma (syntax.pieces_of_argument a ++ y ∷ rest) (λ o. W (at o places.Argument (suc c)) (syntax.pieces_of_argument a ++ y ∷ rest)) refl (comma-behind c (syntax.pieces_of_argument a ++ y ∷ rest)) (comma-expression c (syntax.pieces_of_argument a ++ y ∷ rest))
        ∙ bind-same (arguments names known args) (λ before. W (at (out ++ tree.pieces_of_arguments before) places.Argument (suc c)) (syntax.pieces_of_argument a ++ y ∷ rest))
        (λ before. (last >>= (λ x. Ok (tree.further before x))) >>= (λ all. ended (out ++ tree.pieces_of_arguments all)))
        (λ before.
        one-walked a bare.1 (out ++ tree.pieces_of_arguments before) c y rest ended stops behind expressed
        ∙ bind-same last (λ x. ended ((out ++ tree.pieces_of_arguments before) ++ tree.pieces_of_argument x)) (λ x. ended (out ++ tree.pieces_of_arguments (tree.further before x)))
        (λ x. ap ended (append_assoc out (tree.pieces_of_arguments before) (tree.pieces_of_argument x)))
        ∙ sym (bind-bind last (λ x. Ok (tree.further before x)) (λ all. ended (out ++ tree.pieces_of_arguments all))))
        ∙ sym (bind-bind (arguments names known args) (λ before. last >>= (λ x. Ok (tree.further before x))) (λ all. ended (out ++ tree.pieces_of_arguments all)))

  nothing : (w : Walk) → W w [] ≡ Ok w
  unfolding walked
  nothing w = refl

  -- the pieces of a whole sum, behind what was made before
  pub walked-from : (s : syntax.Sum) → IsBareSum s → (out : List resolved.Piece) (calls : ℕ)
      → walked names stands known (at out places.Sum calls) (syntax.pieces_of_sum s) ≡ (sum names (may_name calls stands) known s >>= (λ t. Ok (in_a_sum (out ++ tree.pieces_of_sum t) calls)))
  walked-from s bare out calls =
      ap (W (in_a_sum out calls)) (sym (append-nil (syntax.pieces_of_sum s))) ∙ sum-walked s bare out calls [] (refl, refl)
      ∙ bind-same (sum names (may_name calls stands) known s) (λ t. W (in_a_sum (out ++ tree.pieces_of_sum t) calls) []) (λ t. Ok (in_a_sum (out ++ tree.pieces_of_sum t) calls)) (λ t. nothing (in_a_sum (out ++ tree.pieces_of_sum t) calls))

  -- those of a whole right side
  pub walked-whole : (s : syntax.Sum) → IsBareSum s → walked names stands known (at [] places.Sum 0) (syntax.pieces_of_sum s) ≡ (sum names stands known s >>= (λ t. Ok (in_a_sum (tree.pieces_of_sum t) 0)))
  walked-whole s bare = walked-from s bare [] 0

  -- those of one in which no expression is named
  pub walked-inside : (s : syntax.Sum) → IsBareSum s → (out : List resolved.Piece)
      → walked names stands known (at out places.Sum 1) (syntax.pieces_of_sum s) ≡ (sum names none_stands known s >>= (λ t. Ok (in_a_sum (out ++ tree.pieces_of_sum t) 1)))
  walked-inside s bare out =
      walked-from s bare out 1 ∙ ap (λ (f : ℕ → Bool). sum names f known s >>= (λ t. Ok (in_a_sum (out ++ tree.pieces_of_sum t) 1))) (none-stands 0)
