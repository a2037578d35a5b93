-- Going through the pieces of a pattern from the front, piece by piece. That this gives what Pattern says is proved.
use Rattle.std.specs.Prelude.{ℕ, ◌+◌, ◌-◌, ◌==◌, pos, Bool, true, false, if◌then◌else◌, List, [], ◌∷◌, ◌++◌, length, drop, Option, Some, None, Result, Ok, Err}
use Rattle.std.specs.List.{list_any}
use Rattle.form_names.specs.declared.kind.Kind as kinds
use Rattle.form_names.specs.declared.kind.Kind.TheVariants as kind
use Rattle.form_names.specs.Names.{Entry}
use Rattle.form_ast.specs.declared.expr.Sign.{Sign}
use Rattle.form_ast.specs.declared.expr.Named.{Named}
use Rattle.form_ast.specs.declared.expr.Named.TheVariants.{Declared, Imaginary}
use Rattle.form_ast.specs.declared.expr.Spelled.{Spelled}
use Rattle.form_ast.specs.declared.expr.Restriction.{Restriction}
use Rattle.form_ast.specs.declared.expr.Link.TheVariants as links
use Rattle.form_ast.specs.declared.expr.Piece.{Piece}
use Rattle.form_ast.specs.declared.expr.Piece.TheVariants as written
use Rattle.form_tree.specs.declared.pattern.Name.{Name}
use Rattle.form_tree.specs.declared.pattern.Name.TheVariants.{Itself, Wild}
use Rattle.form_tree.specs.declared.pattern.IndexName.TheVariants as by_index
use Rattle.form_tree.specs.declared.pattern.Sort.{Sort}
use Rattle.form_tree.specs.declared.pattern.PatternPiece.{PatternPiece}
use Rattle.form_tree.specs.declared.pattern.PatternPiece.TheVariants as pieces
use Rattle.form_tree.specs.declared.tree.Piece as resolved
use Rattle.form_tree.specs.Patterns.{Pieces, pattern_of}
use Rattle.form_pattern.specs.declared.joining.Raw.{Raw}
use Rattle.form_pattern.specs.declared.joining.Raw.TheVariants as raws
use Rattle.form_pattern.specs.declared.joining.Factor.{Factor}
use Rattle.form_right_side.specs.declared.resolved.End as ends
use Rattle.form_right_side.specs.declared.resolved.End.TheVariants as an_end
use Rattle.form_right_side.specs.declared.resolved.Head as heads
use Rattle.form_right_side.specs.declared.resolved.Head.TheVariants as a_head
use Rattle.form_pattern.specs.declared.putting.PatternEnd.{PatternEnd}
use Rattle.form_pattern.specs.declared.putting.PatternEnd.TheVariants.{Index, Vector}
use Rattle.form_pattern.specs.declared.reading.Place.{Place}
use Rattle.form_pattern.specs.declared.reading.Place.TheVariants as places
use Rattle.form_pattern.specs.declared.reading.Frame.{Frame}
use Rattle.form_pattern.specs.declared.reading.Reading.{Reading}
use Rattle.form_right_side.specs.declared.powers.Power.{Power}
use Rattle.form_pattern.specs.Joining.{begun, ended, put, pieces_of_level}
use Rattle.form_pattern.specs.Pattern.{sort_of}
use Rattle.form_right_side.specs.Refusal.{Refusal, ◌>>=◌}
use Rattle.form_right_side.specs.RightSide.{field_number, largest_exponent, largest_power, size_within, exponent, is_inverted, spelled_of, wrong, wrong_kind, found, vector, head, symbol_named, first_misplaced}
use Rattle.form_pattern.specs.Sets.{sets}
use Rattle.form_right_side.specs.Walking.{power_at, name_power_at, ends_argument, ends_call, alone_piece, alone_end, entry_piece, argument_walked}

-- ---- what is ahead

abbrev pub mark_of : Piece → Option Restriction
mark_of (written.Marked r) = Some r
mark_of _ = None

-- the mark of a wildcard that stands next
abbrev pub mark_at : List Piece → Option Restriction
mark_at [] = None
mark_at (p ∷ rest) = mark_of p

abbrev pub behind_first : Option Restriction → Piece → List Piece → List Piece
behind_first (Some r) p rest = rest
behind_first None p rest = p ∷ rest

-- what stands behind it
abbrev pub behind_mark : List Piece → List Piece
behind_mark [] = []
behind_mark (p ∷ rest) = behind_first (mark_of p) p rest

-- the argument that these begin with; so many calls in it are open
unfoldable pub front : ℕ → List Piece → List Piece
front opened [] = []
front opened (written.Call link n ∷ rest) = written.Call link n ∷ front (opened + 1) rest
front opened (written.Comma ∷ rest) = if opened == 0 then [] else written.Comma ∷ front opened rest
front opened (written.EndOfCall ∷ rest) = if opened == 0 then [] else written.EndOfCall ∷ front (opened - 1) rest
front opened (p ∷ rest) = p ∷ front opened rest

-- the mark of a wildcard, or a field
abbrev pub is_wild : Piece → Bool
is_wild (written.Marked r) = true
is_wild (written.Field n) = true
is_wild _ = false

-- ---- names with their marks

-- a name whose Id is known: itself, or a wildcard with its sets
abbrev pub marked : List Entry → Option Restriction → ℕ → Result Name Refusal
marked names None id = Ok (Itself id)
marked names (Some r) id = sets names r >>= (λ all. Ok (Wild id all))

abbrev pub symbol_put : Option Power → Name → Result Raw Refusal
symbol_put power n = size_within largest_exponent power >>= (λ size. Ok (raws.Symbol n (exponent false power size)))

-- a function that ends, so often
abbrev pub function_put : Bool → Option Power → List PatternPiece → Result Raw Refusal
function_put is_commuting power ps = size_within largest_power power >>= (λ size. Ok (ended is_commuting ps size))

abbrev pub lone_function_put : List Entry → Spelled → Option Restriction → Option Power → ℕ → Bool → Result Raw Refusal
lone_function_put names s mark power id is_commuting =
    if is_inverted false power then wrong_kind s else (marked names mark id >>= (λ n. function_put is_commuting power (begun is_commuting n)))

abbrev pub kind_put : List Entry → Spelled → Option Restriction → Option Power → ℕ → kinds.Kind → Result Raw Refusal
kind_put names s mark power id kind.Symbol = marked names mark id >>= symbol_put power
kind_put names s mark power id kind.Function = lone_function_put names s mark power id false
kind_put names s mark power id kind.CommutingFunction = lone_function_put names s mark power id true
kind_put names s mark power id _ = wrong_kind s

-- a name alone
abbrev pub name_put : List Entry → Named → Option Restriction → Option Power → Result Raw Refusal
name_put names (Imaginary spot) mark power = wrong_kind (spelled_of (Imaginary spot))
name_put names (Declared s) mark power = found names s >>= (λ f. kind_put names s mark power f.id f.kind)

abbrev pub symbol_name : List Entry → Named → Option Restriction → Result Name Refusal
symbol_name names n mark = symbol_named names n >>= marked names mark

-- a name to the power that a wildcard stands for
abbrev pub whole_put : List Entry → Named → Option Restriction → Named → Option Restriction → Result Raw Refusal
whole_put names n mark e by = symbol_name names n mark >>= (λ m. symbol_name names e by >>= (λ x. Ok (raws.Other (pieces.Whole m x ∷ []) 1)))

-- a name with what stands behind its mark, where its power is such a one or a number
abbrev pub powered_put : List Entry → Named → Option Restriction → List Piece → Option (Option Sign × Named) → Result Raw Refusal
powered_put names n mark rest None = name_put names n mark (power_at rest)
powered_put names n mark rest (Some by) = whole_put names n mark by.1 (mark_at (drop 1 rest))

abbrev pub vector_name : List Entry → Named → Option Restriction → Result Name Refusal
vector_name names n mark = vector names n >>= marked names mark

abbrev pub dot_put : List Entry → Named → Option Restriction → Named → Option Restriction → Option Power → Result Raw Refusal
dot_put names p mark q other power =
    vector_name names p mark >>= (λ left. vector_name names q other >>= (λ right. size_within largest_exponent power >>= (λ size. Ok (raws.Dot left right (exponent false power size)))))

-- ---- ends

abbrev pub marked_end : List Entry → Option Restriction → ends.End → Result PatternEnd Refusal
marked_end names mark (an_end.Fixed value) = Ok (Index (by_index.Fixed value))
marked_end names mark (an_end.Index id) = marked names mark id >>= (λ n. Ok (Index (by_index.Name n)))
marked_end names mark (an_end.Vector id) = marked names mark id >>= (λ n. Ok (Vector n))

abbrev pub marked_given : List Entry → Option Restriction → Option ends.End → Result (Option PatternEnd) Refusal
marked_given names mark None = Ok None
marked_given names mark (Some e) = marked_end names mark e >>= (λ x. Ok (Some x))

-- an argument of `d_`
abbrev pub entry_taken : List Entry → List Piece → Result (Option PatternEnd) Refusal
entry_taken names [] = Ok None
entry_taken names (p ∷ rest) = alone_end names (entry_piece p) >>= marked_given names (mark_at rest)

abbrev pub behind_entry : List Piece → List Piece
behind_entry [] = []
behind_entry (p ∷ rest) = behind_mark rest

-- two ends, so often
abbrev pub linked : PatternEnd → PatternEnd → ℕ → Raw
linked (Vector p) (Vector q) size = raws.Dot p q (pos size)
linked (Vector p) (Index i) size = raws.Other (pieces.Component p i ∷ []) size
linked (Index i) (Vector p) size = raws.Other (pieces.Component p i ∷ []) size
linked (Index i) (Index j) size = raws.Other (pieces.Delta i j ∷ []) size

abbrev pub linked_put : PatternEnd → PatternEnd → Option Power → Result Raw Refusal
linked_put a b power = size_within largest_power power >>= (λ size. Ok (linked a b size))

-- one name or one number, where the parentheses of a vector have only this
abbrev pub alone_before : List Entry → Piece → List Piece → List Piece → Result (Option PatternEnd) Refusal
alone_before names p rest [] = alone_end names (alone_piece p) >>= marked_given names (mark_at rest)
alone_before names p rest (q ∷ others) = Ok None

abbrev pub alone_in : List Entry → List Piece → Result (Option PatternEnd) Refusal
alone_in names [] = Ok None
alone_in names (p ∷ rest) = alone_before names p rest (behind_mark rest)

abbrev pub only_given : List Entry → Named → List Piece → Option PatternEnd → Result PatternEnd Refusal
only_given names n list (Some e) = Ok e
only_given names n list None = Err (first_misplaced names list (wrong (spelled_of n)))

abbrev pub only_end : List Entry → Named → List Piece → Result PatternEnd Refusal
only_end names n list = alone_in names list >>= only_given names n list

abbrev pub ends_call_at : List Piece → Bool
ends_call_at [] = false
ends_call_at (p ∷ rest) = ends_call p

-- these are one argument, and no other stands behind it
abbrev pub is_only : List Piece → List Piece → Bool
is_only [] rest = false
is_only (p ∷ list) rest = ends_call_at rest

-- a vector with its argument, and what stands behind it
abbrev pub component_put : List Entry → Named → Option Restriction → ℕ → List Piece → List Piece → Result Raw Refusal
component_put names n mark id list rest =
    if is_only list rest then (marked names mark id >>= (λ m. only_end names n list >>= (λ e. linked_put (Vector m) e (power_at (drop 1 rest))))) else wrong_kind (spelled_of n)

-- ---- what was read

abbrev pub at : List Frame → List Factor → Place → List (List resolved.Piece) → Reading
at frames level place fixed = record { frames = frames; level = level; place = place; fixed = fixed }

abbrev pub moved : Reading → Place → Reading
moved s place = at s.frames s.level place s.fixed

-- how many calls are open in the argument without wildcards that is gone through
abbrev pub open_at : Place → ℕ
open_at (places.Fixed count) = count
open_at _ = 0

-- a factor more
abbrev pub added : Reading → Place → Raw → Reading
added s place raw = at s.frames (put s.level raw) place s.fixed

abbrev pub adds : Reading → Place → Result Raw Refusal → Result Reading Refusal
adds s place r = r >>= (λ raw. Ok (added s place raw))

-- the innermost function has an argument more
abbrev pub with_argument : List Frame → List PatternPiece → List Frame
with_argument [] ps = []
with_argument (f ∷ around) ps = record { level = f.level; is_commuting = f.is_commuting; pieces = f.pieces ++ ps } ∷ around

abbrev pub opened : Reading → Bool → Name → Reading
opened s is_commuting n = at (record { level = s.level; is_commuting = is_commuting; pieces = begun is_commuting n } ∷ s.frames) [] places.Argument s.fixed

abbrev pub closed_by : Frame → List Frame → List (List resolved.Piece) → Option Power → Result Reading Refusal
closed_by f around fixed power = function_put f.is_commuting power f.pieces >>= (λ raw. Ok (at around (put f.level raw) places.Product fixed))

abbrev pub closed : List Frame → Reading → Option Power → Result Reading Refusal
closed [] s power = Ok s
closed (f ∷ around) s power = closed_by f around s.fixed power

-- the arguments of a function end
abbrev pub call_ended : Reading → List Piece → Result Reading Refusal
call_ended s rest = closed s.frames s (power_at rest)

-- an argument that is a product ends
abbrev pub product_ended : Reading → Reading
product_ended s = at (with_argument s.frames (pieces.Product ∷ pieces_of_level s.level ++ pieces.EndOfProduct ∷ [])) [] places.Behind s.fixed

-- ---- one piece further

abbrev pub component_taken : List Entry → Reading → Named → List Piece → ℕ → List Piece → Result Reading Refusal
component_taken names s n rest id behind = adds s places.Vector (component_put names n (mark_at rest) id (front 0 behind) (drop (length (front 0 behind)) behind))

abbrev pub called_by : List Entry → Reading → Named → List Piece → heads.Head → Result Reading Refusal
called_by names s n rest (a_head.Function id is_commuting) = marked names (mark_at rest) id >>= (λ m. Ok (opened s is_commuting m))
called_by names s n rest (a_head.Vector id) = component_taken names s n rest id (behind_mark rest)

abbrev pub called : List Entry → Reading → Named → List Piece → Result Reading Refusal
called names s n rest = head names n >>= called_by names s n rest

abbrev pub dot_behind : List Entry → Reading → Named → Option Restriction → Piece → List Piece → Result Reading Refusal
dot_behind names s p mark (written.EndOfDot q) rest = adds s places.Product (dot_put names p mark q (mark_at rest) (power_at (behind_mark rest)))
dot_behind names s p mark _ rest = Ok s

abbrev pub dot_taken : List Entry → Reading → Named → Option Restriction → List Piece → Result Reading Refusal
dot_taken names s p mark [] = Ok s
dot_taken names s p mark (q ∷ rest) = dot_behind names s p mark q rest

abbrev pub delta_ended : Reading → PatternEnd → List Piece → Option PatternEnd → Result Reading Refusal
delta_ended s a rest None = Ok s
delta_ended s a rest (Some b) = adds s places.Product (linked_put a b (power_at (drop 1 rest)))

abbrev pub delta_behind : List Entry → Reading → List Piece → Option PatternEnd → Result Reading Refusal
delta_behind names s rest None = Ok s
delta_behind names s rest (Some a) = entry_taken names rest >>= delta_ended s a (behind_entry rest)

abbrev pub delta_taken : List Entry → Reading → List Piece → Result Reading Refusal
delta_taken names s rest = entry_taken names rest >>= delta_behind names s (behind_entry rest)

abbrev pub in_product : List Entry → Reading → Piece → List Piece → Result Reading Refusal
in_product names s (written.Name link n) rest = adds s places.Product (powered_put names n (mark_at rest) (behind_mark rest) (name_power_at (behind_mark rest)))
in_product names s (written.Dot link p) rest = dot_taken names s p (mark_at rest) (behind_mark rest)
in_product names s (written.Delta link spot) rest = delta_taken names s rest
in_product names s (written.Call link n) rest = called names s n rest
in_product names s written.Comma rest = Ok (moved (product_ended s) places.Argument)
in_product names s written.EndOfCall rest = call_ended (product_ended s) rest
-- what was looked at where its factor begins
in_product names s _ rest = Ok s

-- where an argument without wildcards stands, with so many calls open in it
abbrev pub in_fixed : Reading → ℕ → Piece → List Piece → Result Reading Refusal
in_fixed s count (written.Call link n) rest = Ok (moved s (places.Fixed (count + 1)))
in_fixed s count written.Comma rest = Ok (moved s (if count == 0 then places.Argument else places.Fixed count))
in_fixed s count written.EndOfCall rest = if count == 0 then call_ended s rest else Ok (moved s (places.Fixed (count - 1)))
in_fixed s count _ rest = Ok (moved s (places.Fixed count))

abbrev pub with_fixed : Reading → List resolved.Piece → Reading
with_fixed s ps = at (with_argument s.frames (pieces.Fixed (length s.fixed) ∷ [])) s.level (places.Fixed 0) (s.fixed ++ ps ∷ [])

abbrev pub fixed_begun : List Entry → (ℕ → Bool) → Reading → Piece → List Piece → Result Reading Refusal
fixed_begun names stands s p rest = argument_walked names stands (front 0 (p ∷ rest)) >>= (λ ps. in_fixed (with_fixed s ps) 0 p rest)

-- the name that is a whole argument, but for its mark
abbrev pub any_name : Piece → List Piece → Option Spelled
any_name (written.Name links.First (Declared s)) rest = if ends_argument rest then Some s else None
any_name _ rest = None

abbrev pub product_begun : List Entry → Reading → Piece → List Piece → Result Reading Refusal
product_begun names s p rest = in_product names (moved s places.Product) p rest

abbrev pub any_by_sort : List Entry → Reading → Piece → List Piece → ℕ → Option Sort → Result Reading Refusal
any_by_sort names s p rest id None = product_begun names s p rest
any_by_sort names s p rest id (Some sort) = marked names (mark_at rest) id >>= (λ n. Ok (at (with_argument s.frames (pieces.Any sort n ∷ [])) s.level places.Behind s.fixed))

abbrev pub wild_begun : List Entry → Reading → Piece → List Piece → Option Spelled → Result Reading Refusal
wild_begun names s p rest None = product_begun names s p rest
wild_begun names s p rest (Some name) = found names name >>= (λ f. any_by_sort names s p rest f.id (sort_of f.kind))

abbrev pub argument_begun : List Entry → (ℕ → Bool) → Reading → Piece → List Piece → Result Reading Refusal
argument_begun names stands s p rest =
    if list_any is_wild (front 0 (p ∷ rest)) then wild_begun names s p rest (any_name p (behind_mark rest)) else fixed_begun names stands s p rest

abbrev pub with_field : List (List ℕ) → Reading → Spelled → Reading
with_field fields s n = at (with_argument s.frames (pieces.Field (field_number fields n.name) ∷ [])) s.level places.Behind s.fixed

-- where an argument may begin, behind the mark of the function's name
abbrev pub in_arguments : List Entry → (ℕ → Bool) → List (List ℕ) → Reading → Piece → List Piece → Result Reading Refusal
in_arguments names stands fields s written.EndOfCall rest = call_ended s rest
in_arguments names stands fields s (written.Marked r) rest = Ok s
in_arguments names stands fields s (written.Field n) rest = Ok (with_field fields s n)
in_arguments names stands fields s p rest = argument_begun names stands s p rest

-- behind an argument
abbrev pub behind_argument : Reading → Piece → List Piece → Result Reading Refusal
behind_argument s written.Comma rest = Ok (moved s places.Argument)
behind_argument s written.EndOfCall rest = call_ended s rest
behind_argument s _ rest = Ok s

-- in the parentheses of a vector
abbrev pub in_vector : Reading → Piece → Reading
in_vector s p = if ends_call p then moved s places.Product else s

abbrev pub taken_at : List Entry → (ℕ → Bool) → List (List ℕ) → Reading → Piece → List Piece → Place → Result Reading Refusal
taken_at names stands fields s p rest places.Product = in_product names s p rest
taken_at names stands fields s p rest places.Argument = in_arguments names stands fields s p rest
taken_at names stands fields s p rest places.Behind = behind_argument s p rest
taken_at names stands fields s p rest places.Vector = Ok (in_vector s p)
taken_at names stands fields s p rest (places.Fixed count) = in_fixed s count p rest

abbrev pub taken : List Entry → (ℕ → Bool) → List (List ℕ) → Reading → Piece → List Piece → Result Reading Refusal
taken names stands fields s p rest = taken_at names stands fields s p rest s.place

-- all pieces
unfoldable pub walked : List Entry → (ℕ → Bool) → List (List ℕ) → Reading → List Piece → Result Reading Refusal
walked names stands fields s [] = Ok s
walked names stands fields s (p ∷ rest) = taken names stands fields s p rest >>= (λ next. walked names stands fields next rest)

-- what was made of all
abbrev pub made : Reading → Pieces
made s = pattern_of (pieces_of_level s.level) s.fixed
