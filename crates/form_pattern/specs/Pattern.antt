-- A pattern over Ids: its names, powers and numbers looked at from the left, or the first refusal; then equal factors joined.
use Rattle.std.specs.Prelude.{ℕ, zero, suc, ◌==◌, ℤ, pos, ◌+ℤ◌, nat_abs, Bool, true, false, not, ◌&&◌, ◌||◌, if◌then◌else◌, List, [], ◌∷◌, ◌++◌, map, length, filter, fold, replicate, Option, Some, None, option_to_list, option_and_then, Result, Ok, Err}
use Rattle.std.specs.List.{list_any}
use Rattle.std.specs.Str.{bytes_eq}
use Rattle.form_names.specs.declared.kind.Kind as kinds
use Rattle.form_names.specs.declared.kind.Kind.TheVariants as kind
use Rattle.form_names.specs.Names.{Entry, lookup}
use Rattle.form_ast.specs.declared.expr.Named.{Named}
use Rattle.form_ast.specs.declared.expr.Named.TheVariants.{Declared, Imaginary}
use Rattle.form_ast.specs.declared.expr.Piece.{Piece}
use Rattle.form_ast.specs.declared.expr.Piece.TheVariants as written
use Rattle.form_ast.specs.Building.{tree_of}
use Rattle.form_ast.specs.Syntax as syntax
use Rattle.form_ast.specs.Patterns.{has_wildcard}
use Rattle.form_tree.specs.declared.pattern.Name.{Name}
use Rattle.form_tree.specs.declared.pattern.Name.TheVariants.{Itself, Wild}
use Rattle.form_tree.specs.declared.pattern.IndexName as index_names
use Rattle.form_tree.specs.declared.pattern.IndexName.TheVariants as by_index
use Rattle.form_tree.specs.declared.pattern.Sort as sorts
use Rattle.form_tree.specs.declared.pattern.Sort.TheVariants as sort
use Rattle.form_tree.specs.Pattern as pattern
use Rattle.form_tree.specs.Patterns.{Pieces}
use Rattle.form_tree.specs.Tree as tree
use Rattle.form_right_side.specs.declared.resolved.End as ends
use Rattle.form_right_side.specs.declared.resolved.End.TheVariants as an_end
use Rattle.form_right_side.specs.declared.resolved.Head as heads
use Rattle.form_right_side.specs.declared.resolved.Head.TheVariants as a_head
use Rattle.form_right_side.specs.declared.powers.Power.{Power}
use Rattle.form_right_side.specs.Refusal.{Refusal, ◌>>=◌}
use Rattle.form_right_side.specs.RightSide.{Known, nothing_known, field_number, largest_exponent, largest_power, counted, size_within, exponent, is_inverted, spelled_of, wrong, wrong_kind, found, vector, named_end, fixed_end, head, symbol_named, alone, lone, argument, first_misplaced, none_stands, sum}
use Rattle.form_pattern.specs.Sets.{sets}

-- ---- names

-- a name whose Id is known: itself, or a wildcard with its sets
abbrev pub marked : List Entry → syntax.Label → ℕ → Result Name Refusal
marked names (syntax.named n) id = Ok (Itself id)
marked names (syntax.wildcard n r) id = sets names r >>= (λ all. Ok (Wild id all))

-- one name, or two wildcards of one name
abbrev pub is_same_name : Name → Name → Bool
is_same_name (Itself m) (Itself n) = m == n
is_same_name (Wild m all) (Wild n others) = m == n
is_same_name _ _ = false

-- the sets of both hold
abbrev pub both_sets : Name → Name → Name
both_sets (Wild m all) (Wild n others) = Wild m (all ++ others)
both_sets m n = m

-- ---- factors

-- A factor as it is written: with its power, where that may join it to another, or how often it stands.
pub data Raw : Type 0 where
  of_symbol : Name → ℤ → Raw
  of_whole : Name → Name → Raw
  of_dot : Name → Name → ℤ → Raw
  of_component : Name → index_names.IndexName → ℕ → Raw
  of_delta : index_names.IndexName → index_names.IndexName → ℕ → Raw
  of_function : Name → pattern.Arguments → ℕ → Raw
  in_word : Name → pattern.Arguments → ℕ → Raw

abbrev pub symbol_raw : Option Power → Name → Result Raw Refusal
symbol_raw power m = size_within largest_exponent power >>= (λ size. Ok (of_symbol m (exponent false power size)))

-- a function with arguments, so often
abbrev pub function_raw : Bool → Option Power → pattern.Arguments → Name → Result Raw Refusal
function_raw true power args m = size_within largest_power power >>= (λ size. Ok (of_function m args size))
function_raw false power args m = size_within largest_power power >>= (λ size. Ok (in_word m args size))

-- a function without arguments has no negative power
abbrev pub lone_function_raw : List Entry → syntax.Label → Option Power → ℕ → Bool → Result Raw Refusal
lone_function_raw names n power id is_commuting =
    if is_inverted false power then wrong_kind (spelled_of (syntax.name_of n)) else (marked names n id >>= function_raw is_commuting power pattern.empty)

-- a name alone
abbrev pub raw_by_kind : List Entry → syntax.Label → Option Power → ℕ → kinds.Kind → Result Raw Refusal
raw_by_kind names n power id kind.Symbol = marked names n id >>= symbol_raw power
raw_by_kind names n power id kind.Function = lone_function_raw names n power id false
raw_by_kind names n power id kind.CommutingFunction = lone_function_raw names n power id true
raw_by_kind names n power id _ = wrong_kind (spelled_of (syntax.name_of n))

abbrev pub raw_named : List Entry → syntax.Label → Option Power → Named → Result Raw Refusal
raw_named names n power (Imaginary spot) = wrong_kind (spelled_of (Imaginary spot))
raw_named names n power (Declared s) = found names s >>= (λ f. raw_by_kind names n power f.id f.kind)

-- a name to the power that a wildcard stands for: both are symbols
abbrev pub whole_raw : List Entry → syntax.Label → syntax.Label → Result Raw Refusal
whole_raw names n e =
    symbol_named names (syntax.name_of n) >>= (λ id. marked names n id >>= (λ m. symbol_named names (syntax.name_of e) >>= (λ by. marked names e by >>= (λ x. Ok (of_whole m x)))))

abbrev pub vector_name : List Entry → syntax.Label → Result Name Refusal
vector_name names n = vector names (syntax.name_of n) >>= marked names n

abbrev pub dot_raw : List Entry → syntax.Label → syntax.Label → Option Power → Result Raw Refusal
dot_raw names p q power =
    vector_name names p >>= (λ left. vector_name names q >>= (λ right. size_within largest_exponent power >>= (λ size. Ok (of_dot left right (exponent false power size)))))

-- an end of a dot product, a component or a delta, with its mark
pub data PatternEnd : Type 0 where
  index_end : index_names.IndexName → PatternEnd
  vector_end : Name → PatternEnd

abbrev pub marked_end : List Entry → syntax.Label → ends.End → Result PatternEnd Refusal
marked_end names n (an_end.Fixed value) = Ok (index_end (by_index.Fixed value))
marked_end names n (an_end.Index id) = marked names n id >>= (λ m. Ok (index_end (by_index.Name m)))
marked_end names n (an_end.Vector id) = marked names n id >>= (λ m. Ok (vector_end m))

abbrev pub end_fixed : ends.End → PatternEnd
end_fixed (an_end.Fixed value) = index_end (by_index.Fixed value)
end_fixed (an_end.Index id) = index_end (by_index.Name (Itself id))
end_fixed (an_end.Vector id) = vector_end (Itself id)

abbrev pub pattern_end : List Entry → syntax.Entry → Result PatternEnd Refusal
pattern_end names (syntax.number_entry n) = fixed_end n >>= (λ e. Ok (end_fixed e))
pattern_end names (syntax.name_entry n) = named_end names (syntax.name_of n) >>= marked_end names n

-- two ends, so often
abbrev pub linked : PatternEnd → PatternEnd → ℕ → Raw
linked (vector_end p) (vector_end q) size = of_dot p q (pos size)
linked (vector_end p) (index_end i) size = of_component p i size
linked (index_end i) (vector_end p) size = of_component p i size
linked (index_end i) (index_end j) size = of_delta i j size

abbrev pub linked_raw : PatternEnd → PatternEnd → Option Power → Result Raw Refusal
linked_raw a b power = size_within largest_power power >>= (λ size. Ok (linked a b size))

abbrev pub delta_raw : List Entry → syntax.Entry → syntax.Entry → Option Power → Result Raw Refusal
delta_raw names a b power = pattern_end names a >>= (λ first. pattern_end names b >>= (λ second. linked_raw first second power))

abbrev pub empty_call_raw : List Entry → syntax.Label → Option Power → heads.Head → Result Raw Refusal
empty_call_raw names n power (a_head.Function id is_commuting) = marked names n id >>= function_raw is_commuting power pattern.empty
empty_call_raw names n power (a_head.Vector id) = wrong_kind (spelled_of (syntax.name_of n))

-- What stands in the parentheses of a vector, as in a right side: one name or one number. The vector's sets are looked at
-- before it.
abbrev pub only_end : List Entry → syntax.Label → syntax.Sum → Option syntax.Entry → Result PatternEnd Refusal
only_end names n s (Some e) = pattern_end names e
only_end names n s None = Err (first_misplaced names (syntax.pieces_of_sum s) (wrong (spelled_of (syntax.name_of n))))

abbrev pub component_end : List Entry → syntax.Label → syntax.Argument → Result PatternEnd Refusal
component_end names n (syntax.expression s) = only_end names n s (alone s)
component_end names n (syntax.field f) = wrong_kind (spelled_of (syntax.name_of n))

abbrev pub component_raw : List Entry → syntax.Label → ℕ → Option Power → syntax.Arguments → Result Raw Refusal
component_raw names n id power (syntax.argument a) =
    marked names n id >>= (λ m. component_end names n a >>= (λ e. linked_raw (vector_end m) e power))
component_raw names n id power (syntax.further args a) = wrong_kind (spelled_of (syntax.name_of n))

-- ---- joining

-- an equal symbol, or an equal dot product in either order
abbrev pub is_joined : Raw → pattern.Factor → Bool
is_joined (of_symbol m k) (pattern.symbol n l) = is_same_name m n
is_joined (of_dot p q k) (pattern.dot r s l) = (is_same_name p r && is_same_name q s) || (is_same_name p s && is_same_name q r)
is_joined (in_word m args k) (pattern.word calls) = true
is_joined _ _ = false

-- functions behind others
abbrev pub behind_calls : pattern.Calls → pattern.Calls → pattern.Calls
behind_calls pattern.end others = others
behind_calls (pattern.call n args calls) others = pattern.call n args (behind_calls calls others)

-- a function so often
abbrev pub calls_of : Name → pattern.Arguments → ℕ → pattern.Calls
calls_of m args zero = pattern.end
calls_of m args (suc k) = pattern.call m args (calls_of m args k)

-- The two as one: the first way of writing fixes which is tried first. The sets of both hold.
abbrev pub join : Raw → pattern.Factor → pattern.Factor
join (of_symbol m k) (pattern.symbol n l) = pattern.symbol (both_sets n m) (l +ℤ k)
join (of_dot p q k) (pattern.dot r s l) =
    if is_same_name p r && is_same_name q s then pattern.dot (both_sets r p) (both_sets s q) (l +ℤ k) else pattern.dot (both_sets r q) (both_sets s p) (l +ℤ k)
join (in_word m args k) (pattern.word calls) = pattern.word (behind_calls calls (calls_of m args k))
join _ f = f

-- a factor alone; one that stands no time is none
abbrev pub alone_factors : Raw → List pattern.Factor
alone_factors (of_symbol m k) = pattern.symbol m k ∷ []
alone_factors (of_whole m n) = pattern.whole m n ∷ []
alone_factors (of_dot p q k) = pattern.dot p q k ∷ []
alone_factors (of_component p i k) = replicate k (pattern.component p i)
alone_factors (of_delta i j k) = replicate k (pattern.delta i j)
alone_factors (of_function m args k) = replicate k (pattern.function m args)
alone_factors (in_word m args k) = if k == 0 then [] else pattern.word (calls_of m args k) ∷ []

-- a factor put to those before it: to one that it is joined with, else last
abbrev pub put : List pattern.Factor → Raw → List pattern.Factor
put [] raw = alone_factors raw
put (f ∷ fs) raw = if is_joined raw f then join raw f ∷ fs else f ∷ put fs raw

-- what has no power left goes
abbrev pub stays : pattern.Factor → Bool
stays (pattern.symbol n k) = not (nat_abs k == 0)
stays (pattern.dot p q k) = not (nat_abs k == 0)
stays _ = true

abbrev pub in_row : List pattern.Factor → pattern.Factors
in_row [] = pattern.none
in_row (f ∷ fs) = pattern.more f (in_row fs)

abbrev pub joined : List Raw → pattern.Factors
joined raws = in_row (filter stays (fold (λ fs raw. put fs raw) [] raws))

-- ---- trees

-- what was made, and the arguments without wildcards so far
abbrev pub Made : Type 0 → Type 0
Made A = Result (A × List tree.Argument) Refusal

infixl 10 ◌>>>◌
abbrev pub ◌>>>◌ : {A B : Type 0} → Made A → (A → List tree.Argument → Made B) → Made B
made >>> next = made >>= (λ x. next x.0 x.1)

abbrev pub with_fixed : {A : Type 0} → List tree.Argument → Result A Refusal → Made A
with_fixed fixed r = r >>= (λ x. Ok (x, fixed))

-- a further argument in a row
abbrev pub put_argument : pattern.Arguments → pattern.Argument → pattern.Arguments
put_argument pattern.empty a = pattern.further a pattern.empty
put_argument (pattern.further b args) a = pattern.further b (put_argument args a)

-- what a wildcard that is an argument stands for, by its kind
abbrev pub sort_of : kinds.Kind → Option sorts.Sort
sort_of kind.Symbol = Some sort.Expression
sort_of (kind.Index d) = Some sort.Index
sort_of kind.Vector = Some sort.Vector
sort_of _ = None

-- an argument without wildcards, by its number
abbrev pub fixed_argument : List Entry → List tree.Argument → syntax.Sum → Made pattern.Argument
fixed_argument names fixed s =
    argument (lone names (alone s)) (sum names none_stands nothing_known s) >>= (λ a. Ok (pattern.fixed (length fixed), fixed ++ a ∷ []))

-- a name alone that is a wildcard: of a symbol, an index or a vector; what else it is a wildcard of is a product
abbrev pub any_by_sort : List Entry → List tree.Argument → syntax.Label → Made pattern.Argument → ℕ → Option sorts.Sort → Made pattern.Argument
any_by_sort names fixed n others id None = others
any_by_sort names fixed n others id (Some s) = with_fixed fixed (marked names n id >>= (λ m. Ok (pattern.any s m)))

abbrev pub any_named : List Entry → List tree.Argument → syntax.Label → Made pattern.Argument → Named → Made pattern.Argument
any_named names fixed n others (Imaginary spot) = others
any_named names fixed n others (Declared s) = found names s >>= (λ f. any_by_sort names fixed n others f.id (sort_of f.kind))

abbrev pub wild_argument : List Entry → List tree.Argument → Option syntax.Entry → Made pattern.Argument → Made pattern.Argument
wild_argument names fixed (Some (syntax.name_entry n)) others = any_named names fixed n others (syntax.name_of n)
wild_argument names fixed _ others = others

-- a product with wildcards
abbrev pub product_argument : Made (List Raw) → Made pattern.Argument
product_argument made = made >>> (λ all seen. Ok (pattern.product (joined all), seen))

-- a name with arguments, where these are what a function has
abbrev pub call_raw : List Entry → List tree.Argument → syntax.Label → syntax.Arguments → Made pattern.Arguments → Option Power → heads.Head → Made (List Raw)
call_raw names fixed n args given power (a_head.Function id is_commuting) =
    marked names n id >>= (λ m. given >>> (λ all seen. with_fixed seen (function_raw is_commuting power all m >>= (λ r. Ok (r ∷ [])))))
call_raw names fixed n args given power (a_head.Vector id) = with_fixed fixed (component_raw names n id power args >>= (λ r. Ok (r ∷ [])))

-- what has a wildcard as its power is a name
abbrev pub raised_raw : List Entry → List tree.Argument → syntax.Base → syntax.Label → Made (List Raw)
raised_raw names fixed (syntax.name n) e = with_fixed fixed (whole_raw names n e >>= (λ r. Ok (r ∷ [])))
raised_raw names fixed _ e = Ok ([], fixed)

-- where these names are declared, and these are the fields of the pattern
abbrev mutual
  -- the factors of a product, as they are written; numbers, parentheses and what stands after `/` stand in no pattern
  pub raws : List Entry → List (List ℕ) → List tree.Argument → syntax.Product → Made (List Raw)
  raws names fields fixed (syntax.one f) = raw names fields fixed f
  raws names fields fixed (syntax.times p f) = raws names fields fixed p >>> (λ before seen. raw names fields seen f >>> (λ here all. Ok (before ++ here, all)))
  raws names fields fixed (syntax.over p f) = raws names fields fixed p

  pub raw : List Entry → List (List ℕ) → List tree.Argument → syntax.Factor → Made (List Raw)
  raw names fields fixed (syntax.factor b power) = raw_to_power names fields fixed b (counted power)
  raw names fields fixed (syntax.raised b sign e) = raised_raw names fixed b e

  -- a base to a power that is a number
  pub raw_to_power : List Entry → List (List ℕ) → List tree.Argument → syntax.Base → Option Power → Made (List Raw)
  raw_to_power names fields fixed (syntax.number n) power = Ok ([], fixed)
  raw_to_power names fields fixed (syntax.name n) power = with_fixed fixed (raw_named names n power (syntax.name_of n) >>= (λ r. Ok (r ∷ [])))
  raw_to_power names fields fixed (syntax.dot p q) power = with_fixed fixed (dot_raw names p q power >>= (λ r. Ok (r ∷ [])))
  raw_to_power names fields fixed (syntax.delta spot a b) power = with_fixed fixed (delta_raw names a b power >>= (λ r. Ok (r ∷ [])))
  raw_to_power names fields fixed (syntax.empty_call n) power =
      with_fixed fixed (head names (syntax.name_of n) >>= empty_call_raw names n power >>= (λ r. Ok (r ∷ [])))
  raw_to_power names fields fixed (syntax.call n args) power =
      head names (syntax.name_of n) >>= call_raw names fixed n args (pattern_arguments names fields fixed args) power
  raw_to_power names fields fixed (syntax.parenthesis s) power = Ok ([], fixed)

  pub pattern_arguments : List Entry → List (List ℕ) → List tree.Argument → syntax.Arguments → Made pattern.Arguments
  pattern_arguments names fields fixed (syntax.argument a) = pattern_argument names fields fixed a >>> (λ x seen. Ok (pattern.further x pattern.empty, seen))
  pattern_arguments names fields fixed (syntax.further args a) =
      pattern_arguments names fields fixed args >>> (λ before seen. pattern_argument names fields seen a >>> (λ x all. Ok (put_argument before x, all)))

  pub pattern_argument : List Entry → List (List ℕ) → List tree.Argument → syntax.Argument → Made pattern.Argument
  pattern_argument names fields fixed (syntax.field n) = Ok (pattern.field (field_number fields n.name), fixed)
  pattern_argument names fields fixed (syntax.expression s) =
      if has_wildcard s then wild_argument names fixed (alone s) (product_argument (raws_of names fields fixed s)) else fixed_argument names fixed s

  -- those of an argument that is a product with wildcards, or of a pattern
  pub raws_of : List Entry → List (List ℕ) → List tree.Argument → syntax.Sum → Made (List Raw)
  raws_of names fields fixed (syntax.first sign p) = raws names fields fixed p
  raws_of names fields fixed (syntax.more s sign p) = Ok ([], fixed)

-- ---- patterns

-- the names of the fields, in the order in which each stands first
abbrev pub with_field : List (List ℕ) → Piece → List (List ℕ)
with_field fields (written.Field n) = if list_any (λ f. bytes_eq n.name f) fields then fields else fields ++ n.name ∷ []
with_field fields _ = fields

abbrev pub fields_of : List Piece → List (List ℕ)
fields_of list = fold with_field [] list

-- the name of a piece that may have a mark behind it
abbrev pub named_in : Piece → Option Named
named_in (written.Name link n) = Some n
named_in (written.Dot link n) = Some n
named_in (written.EndOfDot n) = Some n
named_in (written.EntryName n) = Some n
named_in (written.Call link n) = Some n
named_in (written.RaisedByName sign n) = Some n
named_in _ = None

abbrev pub id_of : List Entry → Named → Option ℕ
id_of names (Imaginary spot) = None
id_of names (Declared s) = lookup names s.name

abbrev pub wildcard_at : List Entry → Piece → List Piece → List ℕ
wildcard_at names p (written.Marked r ∷ rest) = option_to_list (option_and_then (id_of names) (named_in p))
wildcard_at names p _ = []

-- the Ids of the names that are wildcards, in the order of the text, those of factors that went away too
abbrev pub wildcards_of : List Entry → List Piece → List ℕ
wildcards_of names [] = []
wildcards_of names (p ∷ rest) = wildcard_at names p rest ++ wildcards_of names rest

-- what a right side knows of a pattern
abbrev pub known_of : List Entry → List Piece → Known
known_of names list = record { wildcards = wildcards_of names list; fields = fields_of list }

abbrev pub kept : List Raw → List tree.Argument → Pieces
kept all fixed = record { pieces = pattern.pieces_of_factors (joined all); fixed = map tree.pieces_of_argument fixed }

abbrev pub pattern_from : List Entry → List Piece → Option syntax.Sum → Result Pieces Refusal
pattern_from names list None = Ok (kept [] [])
pattern_from names list (Some s) = raws_of names (fields_of list) [] s >>= (λ x. Ok (kept x.0 x.1))

-- the pattern that has these pieces
unfoldable pub pattern_checked : List Entry → List Piece → Result Pieces Refusal
pattern_checked names list = pattern_from names list (tree_of list)
