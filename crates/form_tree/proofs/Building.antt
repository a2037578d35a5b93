-- The pieces of a tree are built to that tree; so pieces have one tree.
use Rattle.std.proofs.Common.{◌≡◌, ℕ, Bool, true, false, List, [], ◌∷◌, ◌++◌, refl, sym, ap, ◌∙◌, append_assoc}
use Rattle.std.proofs.lemmas.List.{append-nil}
use Rattle.form_tree.specs.declared.tree.Link.{Link}
use Rattle.form_tree.specs.declared.tree.Link.TheVariants as links
use Rattle.form_tree.specs.declared.tree.Piece.{Piece}
use Rattle.form_tree.specs.declared.tree.Piece.TheVariants as pieces
use Rattle.form_tree.specs.declared.tree.Exponent.{Exponent}
use Rattle.form_tree.specs.Building.{Lead, start, after, Begun, nothing, begun, Calling, Frame, in_parenthesis, in_argument, State, in_sum, in_function, ended_by, added, calling, with_argument, raised_by, step, build, whole, sum_of, last_argument, alone, argument_of}
use Rattle.form_tree.specs.Tree.{Sum, first, more, Product, one, times, Factor, number, symbol, wild, stored, imaginary, dot, component, delta, function, parenthesis, raised, Base, number_base, symbol_base, wild_base, dot_base, imaginary_base, component_base, delta_base, function_base, parenthesis_base, Arguments, empty, further, Argument, index, vector, field, expression, link_of, exponent, pieces_of_sum, pieces_of_product, pieces_of_factor, pieces_of_base, pieces_of_arguments, pieces_of_argument}

abbrev begun_of : Sum → Begun
begun_of (first is_minus p) = begun (start is_minus) p
begun_of (more s is_minus p) = begun (after s is_minus) p

-- a product begins under this link, and what is before it is known then
abbrev Begins : Begun → Link → Lead → Type 0
Begins inner link l = (f : Factor) → added inner link f ≡ begun l (one f)

begins_first : (is_minus : Bool) → Begins nothing (link_of is_minus) (start is_minus)
begins_first true f = refl
begins_first false f = refl

begins_more : (s : Sum) (is_minus : Bool) → Begins (begun_of s) (link_of is_minus) (after s is_minus)
begins_more (first o p) true f = refl
begins_more (first o p) false f = refl
begins_more (more s o p) true f = refl
begins_more (more s o p) false f = refl

closed : (frames : List Frame) (inner : Begun) (link : Link) (s : Sum) (power : ℕ)
    → step (in_sum (in_parenthesis inner link ∷ frames) (begun_of s)) (pieces.Close power) ≡ in_sum frames (added inner link (parenthesis s power))
closed frames inner link (first o p) power = refl
closed frames inner link (more s o p) power = refl

closed_raised : (frames : List Frame) (inner : Begun) (link : Link) (s : Sum) (by : Exponent)
    → step (in_sum (in_parenthesis inner link ∷ frames) (begun_of s)) (pieces.CloseRaised by) ≡ in_sum frames (added inner link (raised_by (parenthesis_base s) by))
closed_raised frames inner link (first o p) by = refl
closed_raised frames inner link (more s o p) by = refl

argument_closed : (frames : List Frame) (c : Calling) (s : Sum)
    → step (in_sum (in_argument c ∷ frames) (begun_of s)) pieces.EndOfArgument ≡ in_function frames (with_argument c (expression s))
argument_closed frames c (first o p) = refl
argument_closed frames c (more s o p) = refl

mutual
  unfolding build

  of_sum : (s : Sum) (frames : List Frame) (rest : List Piece) → build (in_sum frames nothing) (pieces_of_sum s ++ rest) ≡ build (in_sum frames (begun_of s)) rest
  of_sum (first is_minus p) frames rest = of_product p frames nothing (link_of is_minus) (start is_minus) rest (begins_first is_minus)
  of_sum (more s is_minus p) frames rest =
      ap (build (in_sum frames nothing)) (append_assoc (pieces_of_sum s) (pieces_of_product (link_of is_minus) p) rest)
      ∙ of_sum s frames (pieces_of_product (link_of is_minus) p ++ rest)
      ∙ of_product p frames (begun_of s) (link_of is_minus) (after s is_minus) rest (begins_more s is_minus)

  of_product : (p : Product) (frames : List Frame) (inner : Begun) (link : Link) (l : Lead) (rest : List Piece) → Begins inner link l
      → build (in_sum frames inner) (pieces_of_product link p ++ rest) ≡ build (in_sum frames (begun l p)) rest
  of_product (one f) frames inner link l rest b = of_factor f frames inner link rest ∙ ap (λ (i : Begun). build (in_sum frames i) rest) (b f)
  of_product (times p f) frames inner link l rest b =
      ap (build (in_sum frames inner)) (append_assoc (pieces_of_product link p) (pieces_of_factor links.Times f) rest)
      ∙ of_product p frames inner link l (pieces_of_factor links.Times f ++ rest) b
      ∙ of_factor f frames (begun l p) links.Times rest

  of_factor : (f : Factor) (frames : List Frame) (inner : Begun) (link : Link) (rest : List Piece)
      → build (in_sum frames inner) (pieces_of_factor link f ++ rest) ≡ build (in_sum frames (added inner link f)) rest
  of_factor (number n power) frames inner link rest = refl
  of_factor (symbol s power) frames inner link rest = refl
  of_factor (wild s is_over power) frames inner link rest = refl
  of_factor (stored e power) frames inner link rest = refl
  of_factor (imaginary power) frames inner link rest = refl
  of_factor (dot p q power) frames inner link rest = refl
  of_factor (component c power) frames inner link rest = refl
  of_factor (delta i j power) frames inner link rest = refl
  of_factor (function f is_commuting args power) frames inner link rest =
      ap (build (in_function frames (calling inner link f is_commuting empty))) (append_assoc (pieces_of_arguments args) (pieces.EndOfFunction power ∷ []) rest)
      ∙ of_arguments args frames inner link f is_commuting (pieces.EndOfFunction power ∷ rest)
  of_factor (parenthesis s power) frames inner link rest =
      ap (build (in_sum (in_parenthesis inner link ∷ frames) nothing)) (append_assoc (pieces_of_sum s) (pieces.Close power ∷ []) rest)
      ∙ of_sum s (in_parenthesis inner link ∷ frames) (pieces.Close power ∷ rest)
      ∙ ap (λ (t : State). build t rest) (closed frames inner link s power)
  of_factor (raised b is_over is_minus s) frames inner link rest = of_base b frames inner link (exponent is_over is_minus s) rest

  of_base : (b : Base) (frames : List Frame) (inner : Begun) (link : Link) (by : Exponent) (rest : List Piece)
      → build (in_sum frames inner) (pieces_of_base link b by ++ rest) ≡ build (in_sum frames (added inner link (raised_by b by))) rest
  of_base (number_base n) frames inner link by rest = refl
  of_base (symbol_base s) frames inner link by rest = refl
  of_base (wild_base s) frames inner link by rest = refl
  of_base (dot_base p q) frames inner link by rest = refl
  of_base imaginary_base frames inner link by rest = refl
  of_base (component_base c) frames inner link by rest = refl
  of_base (delta_base i j) frames inner link by rest = refl
  of_base (function_base f is_commuting args) frames inner link by rest =
      ap (build (in_function frames (calling inner link f is_commuting empty))) (append_assoc (pieces_of_arguments args) (pieces.EndOfRaisedFunction by ∷ []) rest)
      ∙ of_arguments args frames inner link f is_commuting (pieces.EndOfRaisedFunction by ∷ rest)
  of_base (parenthesis_base s) frames inner link by rest =
      ap (build (in_sum (in_parenthesis inner link ∷ frames) nothing)) (append_assoc (pieces_of_sum s) (pieces.CloseRaised by ∷ []) rest)
      ∙ of_sum s (in_parenthesis inner link ∷ frames) (pieces.CloseRaised by ∷ rest)
      ∙ ap (λ (t : State). build t rest) (closed_raised frames inner link s by)

  of_arguments : (args : Arguments) (frames : List Frame) (inner : Begun) (link : Link) (f : ℕ) (is_commuting : Bool) (rest : List Piece)
      → build (in_function frames (calling inner link f is_commuting empty)) (pieces_of_arguments args ++ rest) ≡ build (in_function frames (calling inner link f is_commuting args)) rest
  of_arguments empty frames inner link f is_commuting rest = refl
  of_arguments (further args a) frames inner link f is_commuting rest =
      ap (build (in_function frames (calling inner link f is_commuting empty))) (append_assoc (pieces_of_arguments args) (pieces_of_argument a) rest)
      ∙ of_arguments args frames inner link f is_commuting (pieces_of_argument a ++ rest)
      ∙ of_argument a frames (calling inner link f is_commuting args) rest

  of_argument : (a : Argument) (frames : List Frame) (c : Calling) (rest : List Piece)
      → build (in_function frames c) (pieces_of_argument a ++ rest) ≡ build (in_function frames (with_argument c a)) rest
  of_argument (index i) frames c rest = refl
  of_argument (vector v) frames c rest = refl
  of_argument (field w) frames c rest = refl
  of_argument (expression s) frames c rest =
      ap (build (in_sum (in_argument c ∷ frames) nothing)) (append_assoc (pieces_of_sum s) (pieces.EndOfArgument ∷ []) rest)
      ∙ of_sum s (in_argument c ∷ frames) (pieces.EndOfArgument ∷ rest)
      ∙ ap (λ (t : State). build t rest) (argument_closed frames c s)

of_begun : (s : Sum) → whole (in_sum [] (begun_of s)) ≡ s
of_begun (first o p) = refl
of_begun (more s o p) = refl

of_nothing : (s : State) → build s [] ≡ s
unfolding build
of_nothing s = refl

-- The pieces of a tree are built to that.
pub built : (s : Sum) → sum_of (pieces_of_sum s) ≡ s
built s =
    ap (λ (ps : List Piece). whole (build (in_sum [] nothing) ps)) (sym (append-nil (pieces_of_sum s)))
    ∙ ap whole (of_sum s [] [] ∙ of_nothing (in_sum [] (begun_of s)))
    ∙ of_begun s

pub built_argument : (a : Argument) → argument_of (pieces_of_argument a) ≡ a
built_argument a =
    ap (λ (ps : List Piece). last_argument (build (in_function [] alone) ps)) (sym (append-nil (pieces_of_argument a)))
    ∙ ap last_argument (of_argument a [] alone [] ∙ of_nothing (in_function [] (with_argument alone a)))

-- Pieces are those of one tree at most.
pub one_tree : (s t : Sum) → pieces_of_sum s ≡ pieces_of_sum t → s ≡ t
one_tree s t e = sym (built s) ∙ ap sum_of e ∙ built t
