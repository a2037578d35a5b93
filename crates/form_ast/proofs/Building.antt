-- A tree is built again from its pieces, one after another; so pieces have one tree.
use Rattle.std.proofs.Common.{◌≡◌, List, [], ◌∷◌, ◌++◌, Option, Some, None, refl, sym, ap, ◌∙◌, append_assoc}
use Rattle.std.proofs.lemmas.Option.{same_Some}
use Rattle.std.proofs.lemmas.List.{append-nil}
use Rattle.form_ast.specs.declared.expr.Sign.{Sign}
use Rattle.form_ast.specs.declared.expr.Sign.TheVariants.{Plus, Minus}
use Rattle.form_ast.specs.declared.expr.Named.TheVariants.{Declared}
use Rattle.form_ast.specs.declared.expr.Link.{Link}
use Rattle.form_ast.specs.declared.expr.Link.TheVariants as links
use Rattle.form_ast.specs.declared.expr.Restriction.{Restriction}
use Rattle.form_ast.specs.declared.expr.Piece.{Piece}
use Rattle.form_ast.specs.declared.expr.Piece.TheVariants as pieces
use Rattle.form_ast.specs.Building.{Lead, start, after, Begun, nothing, begun, a_field, Opened, in_parenthesis, in_call, Frame, Building, added, changed, with_power_on, with_name_on, marked_factor, with_argument, build, tree_of}
use Rattle.form_ast.specs.Syntax.{Label, named, wildcard, name_entry, number_entry, Sum, first, more, Product, one, times, over, Factor, factor, raised, Base, number, name, dot, delta, empty_call, call, parenthesis, Arguments, argument, further, Argument, expression, field, link_of, first_link, piece_of_power, pieces_of_sum, pieces_of_product, pieces_of_factor, pieces_of_base, pieces_of_arguments, pieces_of_argument}

abbrev at : List Frame → Begun → Building
at around inner = record { around = around; inner = inner }

abbrev begun_of : Sum → Begun
begun_of (first sign p) = begun (start sign) p
begun_of (more s sign p) = begun (after s sign) p

-- a product begins under this link, and what is before it is known then
abbrev Begins : Begun → Link → Lead → Type 0
Begins inner link l = (f : Factor) → added inner link f ≡ begun l (one f)

begins_first : (sign : Option Sign) → Begins nothing (first_link sign) (start sign)
begins_first None f = refl
begins_first (Some Plus) f = refl
begins_first (Some Minus) f = refl

begins_more : (s : Sum) (sign : Sign) → Begins (begun_of s) (link_of sign) (after s sign)
begins_more (first o p) Plus f = refl
begins_more (first o p) Minus f = refl
begins_more (more s o p) Plus f = refl
begins_more (more s o p) Minus f = refl

abbrev frame : Begun → Link → Opened → Frame
frame outer link opened = record { outer = outer; link = link; opened = opened }

closed_up : (around : List Frame) (inner : Begun) (link : Link) (s : Sum) (rest : List Piece)
    → build (at (frame inner link in_parenthesis ∷ around) (begun_of s)) (pieces.Close ∷ rest) ≡ build (at around (added inner link (factor (parenthesis s) None))) rest
unfolding build
closed_up around inner link (first o p) rest = refl
closed_up around inner link (more s o p) rest = refl

-- what is begun where an argument ends
abbrev begun_with : Argument → Begun
begun_with (expression s) = begun_of s
begun_with (field n) = a_field n

-- the arguments that are complete before the last one, and this
abbrev before_last : Arguments → Option Arguments
before_last (argument a) = None
before_last (further args a) = Some args

abbrev last_of : Arguments → Argument
last_of (argument a) = a
last_of (further args a) = a

with_last : (args : Arguments) → with_argument (before_last args) (last_of args) ≡ args
with_last (argument a) = refl
with_last (further args a) = refl

call_closed : (around : List Frame) (inner : Begun) (link : Link) (n : Label) (before : Option Arguments) (a : Argument) (rest : List Piece)
    → build (at (frame inner link (in_call n before) ∷ around) (begun_with a)) (pieces.EndOfCall ∷ rest) ≡ build (at around (added inner link (factor (call n (with_argument before a)) None))) rest
unfolding build
call_closed around inner link n before (expression (first o p)) rest = refl
call_closed around inner link n before (expression (more s o p)) rest = refl
call_closed around inner link n before (field m) rest = refl

parted_at : (around : List Frame) (inner : Begun) (link : Link) (n : Label) (before : Option Arguments) (a : Argument) (rest : List Piece)
    → build (at (frame inner link (in_call n before) ∷ around) (begun_with a)) (pieces.Comma ∷ rest) ≡ build (at (frame inner link (in_call n (Some (with_argument before a))) ∷ around) nothing) rest
unfolding build
parted_at around inner link n before (expression (first o p)) rest = refl
parted_at around inner link n before (expression (more s o p)) rest = refl
parted_at around inner link n before (field m) rest = refl

-- what changes a factor behind it changes this factor
changed_added : (change : Factor → Factor) (inner : Begun) (link : Link) (f : Factor) → changed change (added inner link f) ≡ added inner link (change f)
changed_added change nothing links.First f = refl
changed_added change nothing links.Plus f = refl
changed_added change nothing links.Minus f = refl
changed_added change nothing links.Times f = refl
changed_added change nothing links.Over f = refl
changed_added change (begun l r) links.First f = refl
changed_added change (begun l r) links.Plus f = refl
changed_added change (begun l r) links.Minus f = refl
changed_added change (begun l r) links.Times f = refl
changed_added change (begun l r) links.Over f = refl
changed_added change (a_field n) links.First f = refl
changed_added change (a_field n) links.Plus f = refl
changed_added change (a_field n) links.Minus f = refl
changed_added change (a_field n) links.Times f = refl
changed_added change (a_field n) links.Over f = refl

mark_added : (around : List Frame) (inner : Begun) (link : Link) (f : Factor) (r : Restriction) (rest : List Piece)
    → build (at around (added inner link f)) (pieces.Marked r ∷ rest) ≡ build (at around (added inner link (marked_factor r f))) rest
unfolding build
mark_added around nothing links.First f r rest = refl
mark_added around nothing links.Plus f r rest = refl
mark_added around nothing links.Minus f r rest = refl
mark_added around nothing links.Times f r rest = refl
mark_added around nothing links.Over f r rest = refl
mark_added around (begun l p) links.First f r rest = refl
mark_added around (begun l p) links.Plus f r rest = refl
mark_added around (begun l p) links.Minus f r rest = refl
mark_added around (begun l p) links.Times f r rest = refl
mark_added around (begun l p) links.Over f r rest = refl
mark_added around (a_field n) links.First f r rest = refl
mark_added around (a_field n) links.Plus f r rest = refl
mark_added around (a_field n) links.Minus f r rest = refl
mark_added around (a_field n) links.Times f r rest = refl
mark_added around (a_field n) links.Over f r rest = refl

-- the name of a call
of_name : (n : Label) (args : Arguments) (around : List Frame) (inner : Begun) (link : Link) (rest : List Piece)
    → build (at around inner) (pieces_of_base link (call n args) ++ rest) ≡ build (at (frame inner link (in_call n None) ∷ around) nothing) ((pieces_of_arguments args ++ pieces.EndOfCall ∷ []) ++ rest)
unfolding build
of_name (named n) args around inner link rest = refl
of_name (wildcard n r) args around inner link rest = refl

mutual
  unfolding build

  of_sum : (s : Sum) (around : List Frame) (rest : List Piece) → build (at around nothing) (pieces_of_sum s ++ rest) ≡ build (at around (begun_of s)) rest
  of_sum (first sign p) around rest = of_product p around nothing (first_link sign) (start sign) rest (begins_first sign)
  of_sum (more s sign p) around rest =
      ap (build (at around nothing)) (append_assoc (pieces_of_sum s) (pieces_of_product (link_of sign) p) rest)
      ∙ of_sum s around (pieces_of_product (link_of sign) p ++ rest)
      ∙ of_product p around (begun_of s) (link_of sign) (after s sign) rest (begins_more s sign)

  of_product : (p : Product) (around : List Frame) (inner : Begun) (link : Link) (l : Lead) (rest : List Piece) → Begins inner link l
      → build (at around inner) (pieces_of_product link p ++ rest) ≡ build (at around (begun l p)) rest
  of_product (one f) around inner link l rest b = of_factor f around inner link rest ∙ ap (λ (i : Begun). build (at around i) rest) (b f)
  of_product (times p f) around inner link l rest b =
      ap (build (at around inner)) (append_assoc (pieces_of_product link p) (pieces_of_factor links.Times f) rest)
      ∙ of_product p around inner link l (pieces_of_factor links.Times f ++ rest) b
      ∙ of_factor f around (begun l p) links.Times rest
  of_product (over p f) around inner link l rest b =
      ap (build (at around inner)) (append_assoc (pieces_of_product link p) (pieces_of_factor links.Over f) rest)
      ∙ of_product p around inner link l (pieces_of_factor links.Over f ++ rest) b
      ∙ of_factor f around (begun l p) links.Over rest

  of_factor : (f : Factor) (around : List Frame) (inner : Begun) (link : Link) (rest : List Piece)
      → build (at around inner) (pieces_of_factor link f ++ rest) ≡ build (at around (added inner link f)) rest
  of_factor (factor b None) around inner link rest = of_base b around inner link rest
  of_factor (factor b (Some p)) around inner link rest =
      ap (build (at around inner)) (append_assoc (pieces_of_base link b) (piece_of_power p ∷ []) rest)
      ∙ of_base b around inner link (piece_of_power p ∷ rest)
      ∙ ap (λ (i : Begun). build (at around i) rest) (changed_added (with_power_on p) inner link (factor b None))
  of_factor (raised b sign (named n)) around inner link rest =
      ap (build (at around inner)) (append_assoc (pieces_of_base link b) (pieces.RaisedByName sign n ∷ []) rest)
      ∙ of_base b around inner link (pieces.RaisedByName sign n ∷ rest)
      ∙ ap (λ (i : Begun). build (at around i) rest) (changed_added (with_name_on sign (named n)) inner link (factor b None))
  of_factor (raised b sign (wildcard n r)) around inner link rest =
      ap (build (at around inner)) (append_assoc (pieces_of_base link b) (pieces.RaisedByName sign (Declared n) ∷ pieces.Marked r ∷ []) rest)
      ∙ of_base b around inner link (pieces.RaisedByName sign (Declared n) ∷ pieces.Marked r ∷ rest)
      ∙ ap (λ (i : Begun). build (at around i) (pieces.Marked r ∷ rest)) (changed_added (with_name_on sign (named (Declared n))) inner link (factor b None))
      ∙ mark_added around inner link (raised b sign (named (Declared n))) r rest

  of_base : (b : Base) (around : List Frame) (inner : Begun) (link : Link) (rest : List Piece)
      → build (at around inner) (pieces_of_base link b ++ rest) ≡ build (at around (added inner link (factor b None))) rest
  of_base (number n) around inner link rest = refl
  of_base (name (named n)) around inner link rest = refl
  of_base (name (wildcard n r)) around inner link rest = mark_added around inner link (factor (name (named (Declared n))) None) r rest
  of_base (dot (named p) (named q)) around inner link rest = refl
  of_base (dot (wildcard p o) (named q)) around inner link rest = refl
  of_base (dot (named p) (wildcard q r)) around inner link rest = mark_added around inner link (factor (dot (named p) (named (Declared q))) None) r rest
  of_base (dot (wildcard p o) (wildcard q r)) around inner link rest = mark_added around inner link (factor (dot (wildcard p o) (named (Declared q))) None) r rest
  of_base (delta spot (name_entry (named a)) (name_entry (named b))) around inner link rest = refl
  of_base (delta spot (name_entry (named a)) (name_entry (wildcard b r))) around inner link rest = refl
  of_base (delta spot (name_entry (named a)) (number_entry b)) around inner link rest = refl
  of_base (delta spot (name_entry (wildcard a o)) (name_entry (named b))) around inner link rest = refl
  of_base (delta spot (name_entry (wildcard a o)) (name_entry (wildcard b r))) around inner link rest = refl
  of_base (delta spot (name_entry (wildcard a o)) (number_entry b)) around inner link rest = refl
  of_base (delta spot (number_entry a) (name_entry (named b))) around inner link rest = refl
  of_base (delta spot (number_entry a) (name_entry (wildcard b r))) around inner link rest = refl
  of_base (delta spot (number_entry a) (number_entry b)) around inner link rest = refl
  of_base (empty_call (named n)) around inner link rest = refl
  of_base (empty_call (wildcard n r)) around inner link rest = refl
  of_base (call n args) around inner link rest =
      of_name n args around inner link rest
      ∙ ap (build (at (frame inner link (in_call n None) ∷ around) nothing)) (append_assoc (pieces_of_arguments args) (pieces.EndOfCall ∷ []) rest)
      ∙ of_arguments args around inner link n (pieces.EndOfCall ∷ rest)
      ∙ call_closed around inner link n (before_last args) (last_of args) rest
      ∙ ap (λ (all : Arguments). build (at around (added inner link (factor (call n all) None))) rest) (with_last args)
  of_base (parenthesis s) around inner link rest =
      ap (build (at (frame inner link in_parenthesis ∷ around) nothing)) (append_assoc (pieces_of_sum s) (pieces.Close ∷ []) rest)
      ∙ of_sum s (frame inner link in_parenthesis ∷ around) (pieces.Close ∷ rest)
      ∙ closed_up around inner link s rest

  of_arguments : (args : Arguments) (around : List Frame) (inner : Begun) (link : Link) (n : Label) (rest : List Piece)
      → build (at (frame inner link (in_call n None) ∷ around) nothing) (pieces_of_arguments args ++ rest) ≡ build (at (frame inner link (in_call n (before_last args)) ∷ around) (begun_with (last_of args))) rest
  of_arguments (argument a) around inner link n rest = of_argument a (frame inner link (in_call n None) ∷ around) rest
  of_arguments (further args a) around inner link n rest =
      ap (build (at (frame inner link (in_call n None) ∷ around) nothing)) (append_assoc (pieces_of_arguments args) (pieces.Comma ∷ pieces_of_argument a) rest)
      ∙ of_arguments args around inner link n (pieces.Comma ∷ pieces_of_argument a ++ rest)
      ∙ parted_at around inner link n (before_last args) (last_of args) (pieces_of_argument a ++ rest)
      ∙ ap (λ (all : Arguments). build (at (frame inner link (in_call n (Some all)) ∷ around) nothing) (pieces_of_argument a ++ rest)) (with_last args)
      ∙ of_argument a (frame inner link (in_call n (Some args)) ∷ around) rest

  of_argument : (a : Argument) (around : List Frame) (rest : List Piece)
      → build (at around nothing) (pieces_of_argument a ++ rest) ≡ build (at around (begun_with a)) rest
  of_argument (expression s) around rest = of_sum s around rest
  of_argument (field n) around rest = refl

of_begun : (s : Sum) → build (at [] (begun_of s)) [] ≡ Some s
unfolding build
of_begun (first o p) = refl
of_begun (more s o p) = refl

-- the tree is found again
pub built_again : (s : Sum) → tree_of (pieces_of_sum s) ≡ Some s
built_again s = ap tree_of (sym (append-nil (pieces_of_sum s))) ∙ of_sum s [] [] ∙ of_begun s

-- Pieces are those of one tree at most.
pub one_tree : (s t : Sum) → pieces_of_sum s ≡ pieces_of_sum t → s ≡ t
one_tree s t e = same_Some s t (sym (built_again s) ∙ ap tree_of e ∙ built_again t)
