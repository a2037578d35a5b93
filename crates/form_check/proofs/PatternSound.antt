-- What a pattern is that isn't refused: its names are of their kinds, and each argument without wildcards is sound.
use Rattle.std.proofs.Common.{◌≡◌, ℕ, ℤ, zero, suc, ◌==◌, Bool, true, false, ◌&&◌, List, [], ◌∷◌, ◌++◌, All, Option, Some, None, Result, Ok, Err, refl, subst, sym, ap, ◌∙◌, if◌then◌else◌}
use Rattle.std.specs.Prelude.{map, filter, fold, length}
use Rattle.std.proofs.lemmas.List.Elements.{All-nil, All-cons, All-head, All-tail, All-append, All-push, All-filter, All-replicate}
use Rattle.form_names.specs.declared.kind.Kind as kinds
use Rattle.form_names.specs.declared.kind.Kind.TheVariants.{Symbol, Vector, Index, Function, CommutingFunction, Expression, Set}
use Rattle.form_names.specs.Names.{Entry, kind_at}
use Rattle.form_ast.specs.declared.expr.Named.{Named}
use Rattle.form_ast.specs.declared.expr.Named.TheVariants.{Declared, Imaginary}
use Rattle.form_ast.specs.declared.expr.Piece.{Piece}
use Rattle.form_ast.specs.Building.{tree_of}
use Rattle.form_ast.specs.Patterns.{has_wildcard}
use Rattle.form_ast.specs.Syntax as syntax
use Rattle.form_tree.specs.declared.pattern.Name.{Name}
use Rattle.form_tree.specs.declared.pattern.Name.TheVariants.{Itself, Wild}
use Rattle.form_tree.specs.declared.pattern.IndexName.TheVariants as by_index
use Rattle.form_tree.specs.declared.pattern.Sort.{Sort}
use Rattle.form_tree.specs.declared.pattern.PatternPiece.{PatternPiece}
use Rattle.form_tree.specs.declared.pattern.PatternPiece.TheVariants as pieces
use Rattle.form_tree.specs.Pattern as pattern
use Rattle.form_tree.specs.Patterns.{Pieces}
use Rattle.form_tree.specs.Tree as tree
use Rattle.form_right_side.specs.declared.resolved.End as ends
use Rattle.form_right_side.specs.declared.resolved.End.TheVariants as an_end
use Rattle.form_right_side.specs.declared.resolved.Head as heads
use Rattle.form_right_side.specs.declared.resolved.Head.TheVariants as a_head
use Rattle.form_right_side.specs.declared.powers.Power.{Power}
use Rattle.form_right_side.specs.Refusal.{Refusal, ◌>>=◌}
use Rattle.form_right_side.specs.RightSide.{largest_exponent, largest_power, counted, size_within, exponent, is_inverted, spelled_of, wrong, found, vector, named_end, fixed_end, head, symbol_named, alone, lone, argument, nothing_known, none_stands, sum, field_number}
use Rattle.form_pattern.specs.Sets.{sets}
use Rattle.form_pattern.specs.Pattern.{marked, both_sets, is_same_name, Raw, of_symbol, of_whole, of_dot, of_component, of_delta, of_function, in_word, symbol_raw, function_raw, raw_by_kind, raw_named, whole_raw, vector_name, dot_raw, PatternEnd, index_end, vector_end, marked_end, end_fixed, pattern_end, linked, linked_raw, delta_raw, empty_call_raw, only_end, component_end, component_raw, is_joined, behind_calls, calls_of, join, alone_factors, put, stays, in_row, joined, Made, ◌>>>◌, with_fixed, put_argument, sort_of, fixed_argument, any_by_sort, any_named, wild_argument, product_argument, call_raw, raised_raw, raws, raw, raw_to_power, pattern_arguments, pattern_argument, raws_of, fields_of, kept, pattern_from, pattern_checked}
use Rattle.form_check.specs.Sound.{IsOfKind, IsPieceSound, IsNameSound, IsIndexNameSound, IsAnySound, IsPatternPieceSound, IsFixedSound, IsPatternSound}
use Rattle.form_right_side.proofs.Binding.{bind-Ok, ok_same}
use Rattle.form_check.proofs.Pieces.{found-sound, vector-sound, IsEndSound, named-end-sound, fixed-end-sound, IsHeadSound, head-sound, symbol-named-sound, fixed-sound}

some_same : {A : Type 0} {x y : A} → Some x ≡ Some y → x ≡ y
some_same is = cc

module _ (names : List Entry) where
  -- ---- what is sound, by its tree

  abbrev AreSound : List PatternPiece → Type 0
  AreSound list = All (IsPatternPieceSound names) list

  one : (p : PatternPiece) → IsPatternPieceSound names p → AreSound (p ∷ [])
  one p h = All-cons (IsPatternPieceSound names) p [] h (All-nil (IsPatternPieceSound names))

  abbrev IsArgument : pattern.Argument → Type 0
  IsArgument a = AreSound (pattern.pieces_of_argument a)

  abbrev AreArguments : pattern.Arguments → Type 0
  AreArguments pattern.empty = Unit {0}
  AreArguments (pattern.further a args) = IsArgument a × AreArguments args

  abbrev AreCalls : pattern.Calls → Type 0
  AreCalls pattern.end = Unit {0}
  AreCalls (pattern.call n args calls) = IsNameSound Function names n × AreArguments args × AreCalls calls

  abbrev IsFactor : pattern.Factor → Type 0
  IsFactor (pattern.symbol n k) = IsNameSound Symbol names n
  IsFactor (pattern.whole n m) = IsNameSound Symbol names n × IsNameSound Symbol names m
  IsFactor (pattern.dot p q k) = IsNameSound Vector names p × IsNameSound Vector names q
  IsFactor (pattern.component v i) = IsNameSound Vector names v × IsIndexNameSound names i
  IsFactor (pattern.delta i j) = IsIndexNameSound names i × IsIndexNameSound names j
  IsFactor (pattern.function n args) = IsNameSound CommutingFunction names n × AreArguments args
  IsFactor (pattern.word calls) = AreCalls calls

  abbrev IsRaw : Raw → Type 0
  IsRaw (of_symbol n k) = IsNameSound Symbol names n
  IsRaw (of_whole n m) = IsNameSound Symbol names n × IsNameSound Symbol names m
  IsRaw (of_dot p q k) = IsNameSound Vector names p × IsNameSound Vector names q
  IsRaw (of_component v i k) = IsNameSound Vector names v × IsIndexNameSound names i
  IsRaw (of_delta i j k) = IsIndexNameSound names i × IsIndexNameSound names j
  IsRaw (of_function n args k) = IsNameSound CommutingFunction names n × AreArguments args
  IsRaw (in_word n args k) = IsNameSound Function names n × AreArguments args

  -- ---- then its pieces are

  arguments-pieces : (args : pattern.Arguments) → AreArguments args → AreSound (pattern.pieces_of_arguments args)
  arguments-pieces pattern.empty h = All-nil (IsPatternPieceSound names)
  arguments-pieces (pattern.further a args) h =
      All-append (IsPatternPieceSound names) (pattern.pieces_of_argument a) (pattern.pieces_of_arguments args) h.0 (arguments-pieces args h.1)

  calls-pieces : (calls : pattern.Calls) → AreCalls calls → AreSound (pattern.pieces_of_calls calls)
  calls-pieces pattern.end h = All-nil (IsPatternPieceSound names)
  calls-pieces (pattern.call n args calls) h =
      let rest = pieces.EndOfArguments ∷ pattern.pieces_of_calls calls in
      All-cons (IsPatternPieceSound names) (pieces.Call n) (pattern.pieces_of_arguments args ++ rest) h.0
      (All-append (IsPatternPieceSound names) (pattern.pieces_of_arguments args) rest (arguments-pieces args h.1)
      (All-cons (IsPatternPieceSound names) pieces.EndOfArguments (pattern.pieces_of_calls calls) tt (calls-pieces calls h.2)))

  factor-pieces : (f : pattern.Factor) → IsFactor f → AreSound (pattern.pieces_of_factor f)
  factor-pieces (pattern.symbol n k) h = one (pieces.Symbol n k) h
  factor-pieces (pattern.whole n m) h = one (pieces.Whole n m) h
  factor-pieces (pattern.dot p q k) h = one (pieces.Dot p q k) h
  factor-pieces (pattern.component v i) h = one (pieces.Component v i) h
  factor-pieces (pattern.delta i j) h = one (pieces.Delta i j) h
  factor-pieces (pattern.function n args) h =
      All-cons (IsPatternPieceSound names) (pieces.Function n) (pattern.pieces_of_arguments args ++ pieces.EndOfArguments ∷ []) h.0
      (All-append (IsPatternPieceSound names) (pattern.pieces_of_arguments args) (pieces.EndOfArguments ∷ []) (arguments-pieces args h.1) (one pieces.EndOfArguments tt))
  factor-pieces (pattern.word calls) h =
      All-cons (IsPatternPieceSound names) (pieces.Word (pattern.count calls)) (pattern.pieces_of_calls calls ++ pieces.EndOfWord ∷ []) tt
      (All-append (IsPatternPieceSound names) (pattern.pieces_of_calls calls) (pieces.EndOfWord ∷ []) (calls-pieces calls h) (one pieces.EndOfWord tt))

  row-pieces : (fs : List pattern.Factor) → All IsFactor fs → AreSound (pattern.pieces_of_factors (in_row fs))
  row-pieces [] h = All-nil (IsPatternPieceSound names)
  row-pieces (f ∷ fs) h =
      All-append (IsPatternPieceSound names) (pattern.pieces_of_factor f) (pattern.pieces_of_factors (in_row fs)) (factor-pieces f (All-head IsFactor f fs h)) (row-pieces fs (All-tail IsFactor f fs h))

  -- ---- joining

  both : (kind : kinds.Kind) (m n : Name) → IsNameSound kind names m → IsNameSound kind names (both_sets m n)
  both kind (Wild i all) (Wild j others) h = h
  both kind (Wild i all) (Itself j) h = h
  both kind (Itself i) n h = h

  calls-sound : (n : Name) (args : pattern.Arguments) (k : ℕ) → IsNameSound Function names n → AreArguments args → AreCalls (calls_of n args k)
  calls-sound n args zero h l = tt
  calls-sound n args (suc k) h l = (h, l, calls-sound n args k h l)

  behind-sound : (a b : pattern.Calls) → AreCalls a → AreCalls b → AreCalls (behind_calls a b)
  behind-sound pattern.end b h k = k
  behind-sound (pattern.call n args a) b h k = (h.0, h.1, behind-sound a b h.2 k)

  join-dots : (swapped : Bool) (p q r s : Name) → IsNameSound Vector names r → IsNameSound Vector names s → (x : _)
      → IsFactor (if swapped then pattern.dot (both_sets r p) (both_sets s q) x else pattern.dot (both_sets r q) (both_sets s p) x)
  join-dots true p q r s h k x = (both Vector r p h, both Vector s q k)
  join-dots false p q r s h k x = (both Vector r q h, both Vector s p k)

  join-sound : (w : Raw) (f : pattern.Factor) → IsRaw w → IsFactor f → IsFactor (join w f)
  join-sound (of_symbol m k) (pattern.symbol n l) h i = both Symbol n m i
  join-sound (of_symbol m k) (pattern.whole n o) h i = i
  join-sound (of_symbol m k) (pattern.dot p q l) h i = i
  join-sound (of_symbol m k) (pattern.component v j) h i = i
  join-sound (of_symbol m k) (pattern.delta a b) h i = i
  join-sound (of_symbol m k) (pattern.function n args) h i = i
  join-sound (of_symbol m k) (pattern.word calls) h i = i
  join-sound (of_dot p q k) (pattern.dot r s l) h i = join-dots (is_same_name p r && is_same_name q s) p q r s i.0 i.1 _
  join-sound (of_dot p q k) (pattern.symbol n l) h i = i
  join-sound (of_dot p q k) (pattern.whole n o) h i = i
  join-sound (of_dot p q k) (pattern.component v j) h i = i
  join-sound (of_dot p q k) (pattern.delta a b) h i = i
  join-sound (of_dot p q k) (pattern.function n args) h i = i
  join-sound (of_dot p q k) (pattern.word calls) h i = i
  join-sound (in_word m args k) (pattern.word calls) h i = behind-sound calls (calls_of m args k) i (calls-sound m args k h.0 h.1)
  join-sound (in_word m args k) (pattern.symbol n l) h i = i
  join-sound (in_word m args k) (pattern.whole n o) h i = i
  join-sound (in_word m args k) (pattern.dot p q l) h i = i
  join-sound (in_word m args k) (pattern.component v j) h i = i
  join-sound (in_word m args k) (pattern.delta a b) h i = i
  join-sound (in_word m args k) (pattern.function n more) h i = i
  join-sound (of_whole m n) f h i = i
  join-sound (of_component v j k) f h i = i
  join-sound (of_delta a b k) f h i = i
  join-sound (of_function m args k) f h i = i

  one-factor : (f : pattern.Factor) → IsFactor f → All IsFactor (f ∷ [])
  one-factor f h = All-cons IsFactor f [] h (All-nil IsFactor)

  word-alone : (b : Bool) (calls : pattern.Calls) → AreCalls calls → All IsFactor (if b then [] else pattern.word calls ∷ [])
  word-alone true calls h = All-nil IsFactor
  word-alone false calls h = one-factor (pattern.word calls) h

  alone-sound : (w : Raw) → IsRaw w → All IsFactor (alone_factors w)
  alone-sound (of_symbol m k) h = one-factor (pattern.symbol m k) h
  alone-sound (of_whole m n) h = one-factor (pattern.whole m n) h
  alone-sound (of_dot p q k) h = one-factor (pattern.dot p q k) h
  alone-sound (of_component v i k) h = All-replicate IsFactor k (pattern.component v i) h
  alone-sound (of_delta i j k) h = All-replicate IsFactor k (pattern.delta i j) h
  alone-sound (of_function m args k) h = All-replicate IsFactor k (pattern.function m args) h
  alone-sound (in_word m args k) h = word-alone (k == 0) (calls_of m args k) (calls-sound m args k h.0 h.1)

  put-by : (b : Bool) (f g : pattern.Factor) (fs more : List pattern.Factor) → IsFactor f → IsFactor g → All IsFactor fs → All IsFactor more → All IsFactor (if b then g ∷ fs else f ∷ more)
  put-by true f g fs more h i k l = All-cons IsFactor g fs i k
  put-by false f g fs more h i k l = All-cons IsFactor f more h l

  put-sound : (fs : List pattern.Factor) (w : Raw) → All IsFactor fs → IsRaw w → All IsFactor (put fs w)
  put-sound [] w h i = alone-sound w i
  put-sound (f ∷ fs) w h i =
      let first = All-head IsFactor f fs h in
      let others = All-tail IsFactor f fs h in
      put-by (is_joined w f) f (join w f) fs (put fs w) first (join-sound w f i first) others (put-sound fs w others i)

  all-put : (ws : List Raw) (fs : List pattern.Factor) → All IsRaw ws → All IsFactor fs → All IsFactor (fold (λ fs w. put fs w) fs ws)
  all-put [] fs h i = i
  all-put (w ∷ ws) fs h i = all-put ws (put fs w) (All-tail IsRaw w ws h) (put-sound fs w i (All-head IsRaw w ws h))

  joined-sound : (ws : List Raw) → All IsRaw ws → AreSound (pattern.pieces_of_factors (joined ws))
  joined-sound ws h =
      let all = fold (λ fs w. put fs w) [] ws in
      row-pieces (filter stays all) (All-filter stays IsFactor all (all-put ws [] h (All-nil IsFactor)))

  -- ---- factors

  marked-sound : (kind : kinds.Kind) (n : syntax.Label) (id : ℕ) (m : Name) → IsOfKind kind names id → marked names n id ≡ Ok m → IsNameSound kind names m
  marked-sound kind (syntax.named n) id m at is = subst (IsNameSound kind names) (ok_same is) at
  marked-sound kind (syntax.wildcard n r) id m at is =
      let all = bind-Ok (sets names r) (λ all. Ok (Wild id all)) m is in
      subst (IsNameSound kind names) (ok_same all.2) at

  symbol-raw-sound : (power : Option Power) (m : Name) (w : Raw) → IsNameSound Symbol names m → symbol_raw power m ≡ Ok w → IsRaw w
  symbol-raw-sound power m w h is =
      let size = bind-Ok (size_within largest_exponent power) (λ size. Ok (of_symbol m (exponent false power size))) w is in
      subst IsRaw (ok_same size.2) h

  function-raw-sound : (is_commuting : Bool) (power : Option Power) (args : pattern.Arguments) (m : Name) (w : Raw) → IsNameSound (if is_commuting then CommutingFunction else Function) names m → AreArguments args → function_raw is_commuting power args m ≡ Ok w → IsRaw w
  function-raw-sound true power args m w h i is =
      let size = bind-Ok (size_within largest_power power) (λ size. Ok (of_function m args size)) w is in
      subst IsRaw (ok_same size.2) (h, i)
  function-raw-sound false power args m w h i is =
      let size = bind-Ok (size_within largest_power power) (λ size. Ok (in_word m args size)) w is in
      subst IsRaw (ok_same size.2) (h, i)

  -- a function without arguments
  empty-sound : (n : syntax.Label) (power : Option Power) (id : ℕ) (is_commuting : Bool) (w : Raw) → IsOfKind (if is_commuting then CommutingFunction else Function) names id → (marked names n id >>= function_raw is_commuting power pattern.empty) ≡ Ok w → IsRaw w
  empty-sound n power id is_commuting w at is =
      let m = bind-Ok (marked names n id) (function_raw is_commuting power pattern.empty) w is in
      function-raw-sound is_commuting power pattern.empty m.0 w (marked-sound (if is_commuting then CommutingFunction else Function) n id m.0 at m.1) tt m.2

  lone-function-sound : (b : Bool) (n : syntax.Label) (power : Option Power) (id : ℕ) (is_commuting : Bool) (w : Raw) → IsOfKind (if is_commuting then CommutingFunction else Function) names id
      → (if b then Err (wrong (spelled_of (syntax.name_of n))) else (marked names n id >>= function_raw is_commuting power pattern.empty)) ≡ Ok w → IsRaw w
  lone-function-sound true n power id is_commuting w at is = cc
  lone-function-sound false n power id is_commuting w at is = empty-sound n power id is_commuting w at is

  raw-kind-sound : (n : syntax.Label) (power : Option Power) (id : ℕ) (kind : kinds.Kind) (w : Raw) → kind_at names id ≡ Some kind → raw_by_kind names n power id kind ≡ Ok w → IsRaw w
  raw-kind-sound n power id Symbol w at is =
      let m = bind-Ok (marked names n id) (symbol_raw power) w is in
      symbol-raw-sound power m.0 w (marked-sound Symbol n id m.0 at m.1) m.2
  raw-kind-sound n power id Function w at is = lone-function-sound (is_inverted false power) n power id false w at is
  raw-kind-sound n power id CommutingFunction w at is = lone-function-sound (is_inverted false power) n power id true w at is
  raw-kind-sound n power id Vector w at is = cc
  raw-kind-sound n power id (Index d) w at is = cc
  raw-kind-sound n power id Expression w at is = cc
  raw-kind-sound n power id Set w at is = cc

  raw-named-sound : (n : syntax.Label) (power : Option Power) (name : Named) (w : Raw) → raw_named names n power name ≡ Ok w → IsRaw w
  raw-named-sound n power (Imaginary spot) w is = cc
  raw-named-sound n power (Declared s) w is =
      let f = bind-Ok (found names s) (λ f. raw_by_kind names n power f.id f.kind) w is in
      raw-kind-sound n power f.0.id f.0.kind w (found-sound names none_stands s f.0 f.1) f.2

  whole-made : (m x : Name) (w : Raw) → IsNameSound Symbol names m → IsNameSound Symbol names x → ◌≡◌ {A = Result Raw Refusal} (Ok (of_whole m x)) (Ok w) → IsRaw w
  whole-made m x w h k is = subst IsRaw (ok_same is) (h, k)

  whole-raw-sound : (n e : syntax.Label) (w : Raw) → whole_raw names n e ≡ Ok w → IsRaw w
  whole-raw-sound n e w is =
      let id = bind-Ok (symbol_named names (syntax.name_of n)) (λ id. marked names n id >>= (λ m. symbol_named names (syntax.name_of e) >>= (λ by. marked names e by >>= (λ x. Ok (of_whole m x))))) w is in
      let m = bind-Ok (marked names n id.0) (λ m. symbol_named names (syntax.name_of e) >>= (λ by. marked names e by >>= (λ x. Ok (of_whole m x)))) w id.2 in
      let by = bind-Ok (symbol_named names (syntax.name_of e)) (λ by. marked names e by >>= (λ x. Ok (of_whole m.0 x))) w m.2 in
      let x = bind-Ok (marked names e by.0) (λ x. Ok (of_whole m.0 x)) w by.2 in
      whole-made m.0 x.0 w (marked-sound Symbol n id.0 m.0 (symbol-named-sound names none_stands (syntax.name_of n) id.0 id.1) m.1) (marked-sound Symbol e by.0 x.0 (symbol-named-sound names none_stands (syntax.name_of e) by.0 by.1) x.1) x.2

  vector-name-sound : (n : syntax.Label) (m : Name) → vector_name names n ≡ Ok m → IsNameSound Vector names m
  vector-name-sound n m is =
      let id = bind-Ok (vector names (syntax.name_of n)) (marked names n) m is in
      marked-sound Vector n id.0 m (vector-sound names none_stands (syntax.name_of n) id.0 id.1) id.2

  dot-made : (p q : Name) (k : ℤ) (w : Raw) → IsNameSound Vector names p → IsNameSound Vector names q → ◌≡◌ {A = Result Raw Refusal} (Ok (of_dot p q k)) (Ok w) → IsRaw w
  dot-made p q k w h i is = subst IsRaw (ok_same is) (h, i)

  dot-raw-sound : (p q : syntax.Label) (power : Option Power) (w : Raw) → dot_raw names p q power ≡ Ok w → IsRaw w
  dot-raw-sound p q power w is =
      let l = bind-Ok (vector_name names p) (λ left. vector_name names q >>= (λ right. size_within largest_exponent power >>= (λ size. Ok (of_dot left right (exponent false power size))))) w is in
      let r = bind-Ok (vector_name names q) (λ right. size_within largest_exponent power >>= (λ size. Ok (of_dot l.0 right (exponent false power size)))) w l.2 in
      let size = bind-Ok (size_within largest_exponent power) (λ size. Ok (of_dot l.0 r.0 (exponent false power size))) w r.2 in
      dot-made l.0 r.0 (exponent false power size.0) w (vector-name-sound p l.0 l.1) (vector-name-sound q r.0 r.1) size.2

  -- ---- ends

  abbrev IsPatternEnd : PatternEnd → Type 0
  IsPatternEnd (index_end i) = IsIndexNameSound names i
  IsPatternEnd (vector_end p) = IsNameSound Vector names p

  marked-end-sound : (n : syntax.Label) (e : ends.End) (x : PatternEnd) → IsEndSound names none_stands e → marked_end names n e ≡ Ok x → IsPatternEnd x
  marked-end-sound n (an_end.Fixed value) x h is = subst IsPatternEnd (ok_same is) h
  marked-end-sound n (an_end.Index id) x h is =
      let m = bind-Ok (marked names n id) (λ m. Ok (index_end (by_index.Name m))) x is in
      subst IsPatternEnd (ok_same m.2) (h.0, marked-sound (Index h.0) n id m.0 h.1 m.1)
  marked-end-sound n (an_end.Vector id) x h is =
      let m = bind-Ok (marked names n id) (λ m. Ok (vector_end m)) x is in
      subst IsPatternEnd (ok_same m.2) (marked-sound Vector n id m.0 h m.1)

  end-fixed-sound : (e : ends.End) → IsEndSound names none_stands e → IsPatternEnd (end_fixed e)
  end-fixed-sound (an_end.Fixed value) h = h
  end-fixed-sound (an_end.Index id) h = h
  end-fixed-sound (an_end.Vector id) h = h

  pattern-end-sound : (e : syntax.Entry) (x : PatternEnd) → pattern_end names e ≡ Ok x → IsPatternEnd x
  pattern-end-sound (syntax.number_entry n) x is =
      let e = bind-Ok (fixed_end n) (λ e. Ok (end_fixed e)) x is in
      subst IsPatternEnd (ok_same e.2) (end-fixed-sound e.0 (fixed-end-sound names none_stands n e.0 e.1))
  pattern-end-sound (syntax.name_entry n) x is =
      let e = bind-Ok (named_end names (syntax.name_of n)) (marked_end names n) x is in
      marked-end-sound n e.0 x (named-end-sound names none_stands (syntax.name_of n) e.0 e.1) e.2

  linked-sound : (a b : PatternEnd) (size : ℕ) → IsPatternEnd a → IsPatternEnd b → IsRaw (linked a b size)
  linked-sound (vector_end p) (vector_end q) size h k = (h, k)
  linked-sound (vector_end p) (index_end i) size h k = (h, k)
  linked-sound (index_end i) (vector_end p) size h k = (k, h)
  linked-sound (index_end i) (index_end j) size h k = (h, k)

  linked-raw-sound : (a b : PatternEnd) (power : Option Power) (w : Raw) → IsPatternEnd a → IsPatternEnd b → linked_raw a b power ≡ Ok w → IsRaw w
  linked-raw-sound a b power w h k is =
      let size = bind-Ok (size_within largest_power power) (λ size. Ok (linked a b size)) w is in
      subst IsRaw (ok_same size.2) (linked-sound a b size.0 h k)

  delta-raw-sound : (a b : syntax.Entry) (power : Option Power) (w : Raw) → delta_raw names a b power ≡ Ok w → IsRaw w
  delta-raw-sound a b power w is =
      let x = bind-Ok (pattern_end names a) (λ first. pattern_end names b >>= (λ second. linked_raw first second power)) w is in
      let y = bind-Ok (pattern_end names b) (λ second. linked_raw x.0 second power) w x.2 in
      linked-raw-sound x.0 y.0 power w (pattern-end-sound a x.0 x.1) (pattern-end-sound b y.0 y.1) y.2

  empty-call-sound : (n : syntax.Label) (power : Option Power) (h : heads.Head) (w : Raw) → IsHeadSound names none_stands h → empty_call_raw names n power h ≡ Ok w → IsRaw w
  empty-call-sound n power (a_head.Vector id) w kind is = cc
  empty-call-sound n power (a_head.Function id is_commuting) w kind is = empty-sound n power id is_commuting w kind is

  only-end-sound : (n : syntax.Label) (s : syntax.Sum) (o : Option syntax.Entry) (x : PatternEnd) → only_end names n s o ≡ Ok x → IsPatternEnd x
  only-end-sound n s None x is = cc
  only-end-sound n s (Some e) x is = pattern-end-sound e x is

  component-end-sound : (n : syntax.Label) (a : syntax.Argument) (x : PatternEnd) → component_end names n a ≡ Ok x → IsPatternEnd x
  component-end-sound n (syntax.expression s) x is = only-end-sound n s (alone s) x is
  component-end-sound n (syntax.field f) x is = cc

  component-raw-sound : (n : syntax.Label) (id : ℕ) (power : Option Power) (args : syntax.Arguments) (w : Raw) → IsOfKind Vector names id → component_raw names n id power args ≡ Ok w → IsRaw w
  component-raw-sound n id power (syntax.further args a) w kind is = cc
  component-raw-sound n id power (syntax.argument a) w kind is =
      let m = bind-Ok (marked names n id) (λ m. component_end names n a >>= (λ e. linked_raw (vector_end m) e power)) w is in
      let e = bind-Ok (component_end names n a) (λ e. linked_raw (vector_end m.0) e power) w m.2 in
      linked-raw-sound (vector_end m.0) e.0 power w (marked-sound Vector n id m.0 kind m.1) (component-end-sound n a e.0 e.1) e.2

  -- ---- trees, with the arguments without wildcards

  abbrev IsFixed : tree.Argument → Type 0
  IsFixed a = All (IsPieceSound names none_stands) (tree.pieces_of_argument a)

  abbrev AreMade : {A : Type 0} → (A → Type 0) → A × List tree.Argument → Type 0
  AreMade P x = P x.0 × All IsFixed x.1

  with-fixed-sound : {A : Type 0} (P : A → Type 0) (fixed : List tree.Argument) (r : Result A Refusal) (x : A × List tree.Argument) → All IsFixed fixed → ((a : A) → r ≡ Ok a → P a) → with_fixed fixed r ≡ Ok x → AreMade P x
  with-fixed-sound P fixed r x h holds is =
      let a = bind-Ok r (λ a. Ok (a, fixed)) x is in
      subst (AreMade P) (ok_same a.2) (holds a.0 a.1, h)

  single-sound : (r : Result Raw Refusal) (list : List Raw) → ((w : Raw) → r ≡ Ok w → IsRaw w) → (r >>= (λ w. Ok (w ∷ []))) ≡ Ok list → All IsRaw list
  single-sound r list holds is =
      let w = bind-Ok r (λ w. Ok (w ∷ [])) list is in
      subst (All IsRaw) (ok_same w.2) (All-cons IsRaw w.0 [] (holds w.0 w.1) (All-nil IsRaw))

  -- one factor, as it is written
  one-raw : (fixed : List tree.Argument) (r : Result Raw Refusal) (x : List Raw × List tree.Argument) → All IsFixed fixed → ((w : Raw) → r ≡ Ok w → IsRaw w) → with_fixed fixed (r >>= (λ w. Ok (w ∷ []))) ≡ Ok x → AreMade (All IsRaw) x
  one-raw fixed r x h holds is =
      with-fixed-sound (All IsRaw) fixed (r >>= (λ w. Ok (w ∷ []))) x h (λ list e. single-sound r list holds e) is

  no-raws : (fixed : List tree.Argument) (x : List Raw × List tree.Argument) → All IsFixed fixed → ◌≡◌ {A = Result (List Raw × List tree.Argument) Refusal} (Ok ([], fixed)) (Ok x) → AreMade (All IsRaw) x
  no-raws fixed x h is = subst (AreMade (All IsRaw)) (ok_same is) (All-nil IsRaw, h)

  put-argument-sound : (args : pattern.Arguments) (a : pattern.Argument) → AreArguments args → IsArgument a → AreArguments (put_argument args a)
  put-argument-sound pattern.empty a h i = (i, tt)
  put-argument-sound (pattern.further b args) a h i = (h.0, put-argument-sound args a h.1 i)

  any-sound : (n : syntax.Label) (id : ℕ) (kind : kinds.Kind) (s : Sort) (m : Name) → kind_at names id ≡ Some kind → sort_of kind ≡ Some s → marked names n id ≡ Ok m → IsAnySound names s m
  any-sound n id Symbol s m at of is = subst (λ (t : Sort). IsAnySound names t m) (some_same of) (marked-sound Symbol n id m at is)
  any-sound n id (Index d) s m at of is = subst (λ (t : Sort). IsAnySound names t m) (some_same of) (d, marked-sound (Index d) n id m at is)
  any-sound n id Vector s m at of is = subst (λ (t : Sort). IsAnySound names t m) (some_same of) (marked-sound Vector n id m at is)
  any-sound n id Function s m at of is = cc
  any-sound n id CommutingFunction s m at of is = cc
  any-sound n id Expression s m at of is = cc
  any-sound n id Set s m at of is = cc

  module _ (fixed : List tree.Argument) (h : All IsFixed fixed) where
    fixed-argument-sound : (s : syntax.Sum) (x : pattern.Argument × List tree.Argument) → fixed_argument names fixed s ≡ Ok x → AreMade IsArgument x
    fixed-argument-sound s x is =
        let a = bind-Ok (argument (lone names (alone s)) (sum names none_stands nothing_known s)) (λ a. Ok (pattern.fixed (length fixed), fixed ++ a ∷ [])) x is in
        subst (AreMade IsArgument) (ok_same a.2) (one (pieces.Fixed (length fixed)) tt, All-push IsFixed fixed a.0 h (fixed-sound names s nothing_known a.0 a.1))

    module _ (others : Made pattern.Argument) (holds : (x : pattern.Argument × List tree.Argument) → others ≡ Ok x → AreMade IsArgument x) where
      any-sort-sound : (n : syntax.Label) (id : ℕ) (kind : kinds.Kind) (o : Option Sort) (x : pattern.Argument × List tree.Argument) → kind_at names id ≡ Some kind → sort_of kind ≡ o → any_by_sort names fixed n others id o ≡ Ok x → AreMade IsArgument x
      any-sort-sound n id kind None x at of is = holds x is
      any-sort-sound n id kind (Some s) x at of is =
          with-fixed-sound IsArgument fixed (marked names n id >>= (λ m. Ok (pattern.any s m))) x h (λ a e. any a e) is
        where
          any : (a : pattern.Argument) → (marked names n id >>= (λ m. Ok (pattern.any s m))) ≡ Ok a → IsArgument a
          any a e =
              let m = bind-Ok (marked names n id) (λ m. Ok (pattern.any s m)) a e in
              subst IsArgument (ok_same m.2) (one (pieces.Any s m.0) (any-sound n id kind s m.0 at of m.1))

      any-named-sound : (n : syntax.Label) (name : Named) (x : pattern.Argument × List tree.Argument) → any_named names fixed n others name ≡ Ok x → AreMade IsArgument x
      any-named-sound n (Imaginary spot) x is = holds x is
      any-named-sound n (Declared s) x is =
          let f = bind-Ok (found names s) (λ f. any_by_sort names fixed n others f.id (sort_of f.kind)) x is in
          any-sort-sound n f.0.id f.0.kind (sort_of f.0.kind) x (found-sound names none_stands s f.0 f.1) refl f.2

      wild-sound : (o : Option syntax.Entry) (x : pattern.Argument × List tree.Argument) → wild_argument names fixed o others ≡ Ok x → AreMade IsArgument x
      wild-sound None x is = holds x is
      wild-sound (Some (syntax.number_entry n)) x is = holds x is
      wild-sound (Some (syntax.name_entry n)) x is = any-named-sound n (syntax.name_of n) x is

  product-sound : (made : Made (List Raw)) (x : pattern.Argument × List tree.Argument) → ((y : List Raw × List tree.Argument) → made ≡ Ok y → AreMade (All IsRaw) y) → product_argument made ≡ Ok x → AreMade IsArgument x
  product-sound made x holds is =
      let y = bind-Ok made (λ y. Ok (pattern.product (joined y.0), y.1)) x is in
      let both = holds y.0 y.1 in
      subst (AreMade IsArgument) (ok_same y.2) (
        All-cons (IsPatternPieceSound names) pieces.Product (pattern.pieces_of_factors (joined y.0.0) ++ pieces.EndOfProduct ∷ []) tt
            (All-append (IsPatternPieceSound names) (pattern.pieces_of_factors (joined y.0.0)) (pieces.EndOfProduct ∷ []) (joined-sound y.0.0 both.0) (one pieces.EndOfProduct tt)),
        both.1,
      )

  call-sound : (fixed : List tree.Argument) (n : syntax.Label) (args : syntax.Arguments) (given : Made pattern.Arguments) (power : Option Power) (h : heads.Head) (x : List Raw × List tree.Argument) → All IsFixed fixed → IsHeadSound names none_stands h
      → ((y : pattern.Arguments × List tree.Argument) → given ≡ Ok y → AreMade AreArguments y) → call_raw names fixed n args given power h ≡ Ok x → AreMade (All IsRaw) x
  call-sound fixed n args given power (a_head.Vector id) x all kind holds is =
      one-raw fixed (component_raw names n id power args) x all (λ w e. component-raw-sound n id power args w kind e) is
  call-sound fixed n args given power (a_head.Function id is_commuting) x all kind holds is =
      let m = bind-Ok (marked names n id) (λ m. given >>> (λ all seen. with_fixed seen (function_raw is_commuting power all m >>= (λ r. Ok (r ∷ []))))) x is in
      let y = bind-Ok given (λ y. with_fixed y.1 (function_raw is_commuting power y.0 m.0 >>= (λ r. Ok (r ∷ [])))) x m.2 in
      let both = holds y.0 y.1 in
      one-raw y.0.1 (function_raw is_commuting power y.0.0 m.0) x both.1
      (λ w e. function-raw-sound is_commuting power y.0.0 m.0 w (marked-sound (if is_commuting then CommutingFunction else Function) n id m.0 kind m.1) both.0 e) y.2

  raised-sound : (fixed : List tree.Argument) (b : syntax.Base) (e : syntax.Label) (x : List Raw × List tree.Argument) → All IsFixed fixed → raised_raw names fixed b e ≡ Ok x → AreMade (All IsRaw) x
  raised-sound fixed (syntax.name n) e x all is = one-raw fixed (whole_raw names n e) x all (λ w i. whole-raw-sound n e w i) is
  raised-sound fixed (syntax.number n) e x all is = no-raws fixed x all is
  raised-sound fixed (syntax.dot p q) e x all is = no-raws fixed x all is
  raised-sound fixed (syntax.delta spot a b) e x all is = no-raws fixed x all is
  raised-sound fixed (syntax.empty_call n) e x all is = no-raws fixed x all is
  raised-sound fixed (syntax.call n args) e x all is = no-raws fixed x all is
  raised-sound fixed (syntax.parenthesis s) e x all is = no-raws fixed x all is

  argument-by : (b : Bool) (wild fixed : Made pattern.Argument) (x : pattern.Argument × List tree.Argument) → (wild ≡ Ok x → AreMade IsArgument x) → (fixed ≡ Ok x → AreMade IsArgument x) → (if b then wild else fixed) ≡ Ok x → AreMade IsArgument x
  argument-by true wild fixed x h k is = h is
  argument-by false wild fixed x h k is = k is

  module _ (fields : List (List ℕ)) where
    mutual
      raws-sound : (p : syntax.Product) (fixed : List tree.Argument) (x : List Raw × List tree.Argument) → All IsFixed fixed → raws names fields fixed p ≡ Ok x → AreMade (All IsRaw) x
      raws-sound (syntax.one f) fixed x h is = raw-sound f fixed x h is
      raws-sound (syntax.times p f) fixed x h is =
          let before = bind-Ok (raws names fields fixed p) (λ y. raw names fields y.1 f >>> (λ here all. Ok (y.0 ++ here, all))) x is in
          let first = raws-sound p fixed before.0 h before.1 in
          let here = bind-Ok (raw names fields before.0.1 f) (λ y. Ok (before.0.0 ++ y.0, y.1)) x before.2 in
          let second = raw-sound f before.0.1 here.0 first.1 here.1 in
          subst (AreMade (All IsRaw)) (ok_same here.2) (All-append IsRaw before.0.0 here.0.0 first.0 second.0, second.1)
      raws-sound (syntax.over p f) fixed x h is = raws-sound p fixed x h is

      raw-sound : (f : syntax.Factor) (fixed : List tree.Argument) (x : List Raw × List tree.Argument) → All IsFixed fixed → raw names fields fixed f ≡ Ok x → AreMade (All IsRaw) x
      raw-sound (syntax.factor b power) fixed x h is = raw-to-power-sound b (counted power) fixed x h is
      raw-sound (syntax.raised b sign e) fixed x h is = raised-sound fixed b e x h is

      raw-to-power-sound : (b : syntax.Base) (power : Option Power) (fixed : List tree.Argument) (x : List Raw × List tree.Argument) → All IsFixed fixed → raw_to_power names fields fixed b power ≡ Ok x → AreMade (All IsRaw) x
      raw-to-power-sound (syntax.number n) power fixed x h is = no-raws fixed x h is
      raw-to-power-sound (syntax.name n) power fixed x h is = one-raw fixed (raw_named names n power (syntax.name_of n)) x h (λ w e. raw-named-sound n power (syntax.name_of n) w e) is
      raw-to-power-sound (syntax.dot p q) power fixed x h is = one-raw fixed (dot_raw names p q power) x h (λ w e. dot-raw-sound p q power w e) is
      raw-to-power-sound (syntax.delta spot a b) power fixed x h is = one-raw fixed (delta_raw names a b power) x h (λ w e. delta-raw-sound a b power w e) is
      raw-to-power-sound (syntax.empty_call n) power fixed x h is =
          one-raw fixed (head names (syntax.name_of n) >>= empty_call_raw names n power) x h
          (λ w e. let k = bind-Ok (head names (syntax.name_of n)) (empty_call_raw names n power) w e in empty-call-sound n power k.0 w (head-sound names none_stands (syntax.name_of n) k.0 k.1) k.2) is
      raw-to-power-sound (syntax.call n args) power fixed x h is =
          let k = bind-Ok (head names (syntax.name_of n)) (call_raw names fixed n args (pattern_arguments names fields fixed args) power) x is in
          call-sound fixed n args (pattern_arguments names fields fixed args) power k.0 x h (head-sound names none_stands (syntax.name_of n) k.0 k.1) (λ y e. arguments-sound args fixed y h e) k.2
      raw-to-power-sound (syntax.parenthesis s) power fixed x h is = no-raws fixed x h is

      arguments-sound : (args : syntax.Arguments) (fixed : List tree.Argument) (x : pattern.Arguments × List tree.Argument) → All IsFixed fixed → pattern_arguments names fields fixed args ≡ Ok x → AreMade AreArguments x
      arguments-sound (syntax.argument a) fixed x h is =
          let y = bind-Ok (pattern_argument names fields fixed a) (λ y. Ok (pattern.further y.0 pattern.empty, y.1)) x is in
          let both = argument-sound a fixed y.0 h y.1 in
          subst (AreMade AreArguments) (ok_same y.2) ((both.0, tt), both.1)
      arguments-sound (syntax.further args a) fixed x h is =
          let before = bind-Ok (pattern_arguments names fields fixed args) (λ y. pattern_argument names fields y.1 a >>> (λ z all. Ok (put_argument y.0 z, all))) x is in
          let first = arguments-sound args fixed before.0 h before.1 in
          let y = bind-Ok (pattern_argument names fields before.0.1 a) (λ y. Ok (put_argument before.0.0 y.0, y.1)) x before.2 in
          let second = argument-sound a before.0.1 y.0 first.1 y.1 in
          subst (AreMade AreArguments) (ok_same y.2) (put-argument-sound before.0.0 y.0.0 first.0 second.0, second.1)

      argument-sound : (a : syntax.Argument) (fixed : List tree.Argument) (x : pattern.Argument × List tree.Argument) → All IsFixed fixed → pattern_argument names fields fixed a ≡ Ok x → AreMade IsArgument x
      argument-sound (syntax.field n) fixed x h is = subst (AreMade IsArgument) (ok_same is) (one (pieces.Field (field_number fields n.name)) tt, h)
      argument-sound (syntax.expression s) fixed x h is =
          argument-by (has_wildcard s) (wild_argument names fixed (alone s) (product_argument (raws_of names fields fixed s))) (fixed_argument names fixed s) x
          (λ e. wild-sound fixed h (product_argument (raws_of names fields fixed s)) (λ y i. product-sound (raws_of names fields fixed s) y (λ z j. sum-sound s fixed z h j) i) (alone s) x e)
          (λ e. fixed-argument-sound fixed h s x e) is

      sum-sound : (s : syntax.Sum) (fixed : List tree.Argument) (x : List Raw × List tree.Argument) → All IsFixed fixed → raws_of names fields fixed s ≡ Ok x → AreMade (All IsRaw) x
      sum-sound (syntax.first sign p) fixed x h is = raws-sound p fixed x h is
      sum-sound (syntax.more s sign p) fixed x h is = no-raws fixed x h is

  -- ---- a whole pattern

  fixed-lists : (fixed : List tree.Argument) → All IsFixed fixed → All (IsFixedSound names) (map tree.pieces_of_argument fixed)
  fixed-lists [] h = All-nil (IsFixedSound names)
  fixed-lists (a ∷ rest) h =
      All-cons (IsFixedSound names) (tree.pieces_of_argument a) (map tree.pieces_of_argument rest) (record { tree = a; pieces = refl; each = All-head IsFixed a rest h }) (fixed-lists rest (All-tail IsFixed a rest h))

  kept-sound : (x : List Raw × List tree.Argument) → AreMade (All IsRaw) x → IsPatternSound names (kept x.0 x.1)
  kept-sound x h = record { tree = joined x.0; pieces = refl; each = joined-sound x.0 h.0; fixed = fixed-lists x.1 h.1 }

  pub pattern-sound : ((s : syntax.Sum) → tree_of (syntax.pieces_of_sum s) ≡ Some s) → (list : List Piece) (s : syntax.Sum) (p : Pieces) → list ≡ syntax.pieces_of_sum s → pattern_checked names list ≡ Ok p → IsPatternSound names p
  unfolding pattern_checked
  pattern-sound law list s p same is =
      let x = bind-Ok (raws_of names (fields_of list) [] s) (λ x. Ok (kept x.0 x.1)) p (sym (ap (pattern_from names list) (ap tree_of same ∙ law s)) ∙ is) in
      subst (IsPatternSound names) (ok_same x.2) (kept-sound x.0 (sum-sound (fields_of list) s [] x.0 (All-nil IsFixed) x.1))
