-- Going through the pieces of a pattern gives what its tree gives.
use Rattle.std.proofs.Common.{◌≡◌, ℕ, ◌+◌, Bool, true, false, ◌&&◌, cond, List, [], ◌∷◌, ◌++◌, length, drop, map, Option, Some, None, Result, Ok, Err, refl, sym, ap, subst, ◌∙◌, append_assoc}
use Rattle.std.specs.Prelude.{IsTrue}
use Rattle.std.specs.List.{list_any}
use Rattle.std.proofs.lemmas.List.{append-nil, length-map, map-append}
use Rattle.form_names.specs.Names.{Entry}
use Rattle.form_ast.specs.declared.expr.Sign.{Sign}
use Rattle.form_ast.specs.declared.expr.Link.{Link}
use Rattle.form_ast.specs.declared.expr.Link.TheVariants as links
use Rattle.form_ast.specs.declared.expr.Named.{Named}
use Rattle.form_ast.specs.declared.expr.Named.TheVariants.{Declared}
use Rattle.form_ast.specs.declared.expr.Spelled.{Spelled}
use Rattle.form_ast.specs.declared.expr.Restriction.{Restriction}
use Rattle.form_ast.specs.declared.expr.Power as written_powers
use Rattle.form_ast.specs.declared.expr.Piece.{Piece}
use Rattle.form_ast.specs.declared.expr.Piece.TheVariants as written
use Rattle.form_ast.specs.declared.setting.Setting.TheVariants.{Pattern}
use Rattle.form_ast.specs.Lawful.{IsLawfulSum, IsLawfulProduct, IsLawfulFactor, IsLawfulBase, IsLawfulArguments, IsLawfulArgument}
use Rattle.form_ast.specs.Patterns.{weights_of, are_balanced, has_wildcard, is_pattern, has_pattern_factors, is_pattern_factor, is_pattern_base, are_pattern_arguments, is_pattern_argument}
use Rattle.form_ast.specs.Syntax as syntax
use Rattle.form_ast.specs.Syntax.{name_of, mark_of, piece_of_power, pieces_of_entry, pieces_of_sum, pieces_of_product, pieces_of_factor, pieces_of_base, pieces_of_arguments, pieces_of_argument}
use Rattle.form_tree.specs.declared.pattern.Name.{Name}
use Rattle.form_tree.specs.declared.pattern.Sort.{Sort}
use Rattle.form_tree.specs.declared.pattern.PatternPiece.{PatternPiece}
use Rattle.form_tree.specs.declared.pattern.PatternPiece.TheVariants as pieces
use Rattle.form_tree.specs.declared.tree.Piece as resolved
use Rattle.form_tree.specs.Pattern as pattern
use Rattle.form_tree.specs.Tree as tree
use Rattle.form_pattern.specs.declared.joining.Factor as flat_factors
use Rattle.form_pattern.specs.declared.joining.Raw as raws
use Rattle.form_pattern.specs.declared.putting.PatternEnd.{PatternEnd}
use Rattle.form_pattern.specs.declared.putting.PatternEnd.TheVariants.{Vector}
use Rattle.form_pattern.specs.declared.reading.Frame.{Frame}
use Rattle.form_pattern.specs.declared.reading.Place.TheVariants as places
use Rattle.form_pattern.specs.declared.reading.Reading.{Reading}
use Rattle.form_right_side.specs.declared.resolved.Head as heads
use Rattle.form_right_side.specs.declared.resolved.Head.TheVariants as a_head
use Rattle.form_right_side.specs.declared.resolved.Found.{Found}
use Rattle.form_right_side.specs.declared.powers.Power.{Power}
use Rattle.form_pattern.specs.Joining.{flat, begun, put, pieces_of_level}
use Rattle.form_pattern.specs.Pattern as trees
use Rattle.form_pattern.specs.Pattern.{Raw, Made, put_argument, fixed_argument, wild_argument, product_argument, any_by_sort, sort_of, pattern_argument, pattern_arguments, raw, raw_to_power, raws_of, with_fixed}
use Rattle.form_pattern.specs.PatternWalking as walking
use Rattle.form_pattern.specs.PatternWalking.{mark_at, behind_mark, front, is_wild, at, adds, opened, with_argument, in_product, in_arguments, in_fixed, wild_begun, fixed_begun, any_name, walked}
use Rattle.form_right_side.specs.Refusal.{Refusal, ◌>>=◌}
use Rattle.form_right_side.specs.RightSide.{nothing_known, none_stands, spelled_of, wrong, found, head, alone, lone, argument, sum, first_misplaced}
use Rattle.form_right_side.specs.Walking.{power_at, name_power_at, ends_argument, argument_walked}
use Rattle.form_right_side.proofs.Bare.{IsBareSum, bare-sum}
use Rattle.form_right_side.proofs.Binding.{bind-bind, bind-same}
use Rattle.form_pattern.proofs.Joined.{puts, puts-append, joined-pieces}
use Rattle.form_pattern.proofs.PatternFronts.{IsEnd, end-case, front-end, front-argument, behind-argument, wild-ahead}
use Rattle.form_pattern.proofs.PatternPutting.{restriction_of, mark-seen, behind-seen, flatly, end_as, given_as, marked-same, name-same, whole-same, dot-same, linked-same, entry-seen, behind-entry-seen, function-same, empty-same}
use Rattle.form_pattern.proofs.PatternStarts.{Plain, start-factor, start-product, start-sum, plain-start, alone-seen, as_alone}
use Rattle.form_pattern.proofs.PatternSkips.{skips-sum}
use Rattle.form_right_side.proofs.Whole.{argument-whole}

and-left : (a b : Bool) → IsTrue (a && b) → IsTrue a
and-left true b h = refl
and-left false b h = cc

and-right : (a b : Bool) → IsTrue (a && b) → IsTrue b
and-right true b h = h
and-right false b h = cc

pub put-pieces : (args : pattern.Arguments) (a : pattern.Argument) → pattern.pieces_of_arguments (put_argument args a) ≡ pattern.pieces_of_arguments args ++ pattern.pieces_of_argument a
put-pieces pattern.empty a = append-nil (pattern.pieces_of_argument a)
put-pieces (pattern.further b args) a =
    ap (λ (ps : List PatternPiece). pattern.pieces_of_argument b ++ ps) (put-pieces args a) ∙ sym (append_assoc (pattern.pieces_of_argument b) (pattern.pieces_of_arguments args) (pattern.pieces_of_argument a))

-- the arguments without wildcards, by their pieces
abbrev pub kept : List tree.Argument → List (List resolved.Piece)
kept fixed = map tree.pieces_of_argument fixed

-- a function with these pieces behind its own
abbrev pub extended : Frame → List PatternPiece → Frame
extended f ps = record { level = f.level; is_commuting = f.is_commuting; pieces = f.pieces ++ ps }

-- further arguments begin with one
pub record Parted (list : List Piece) : Type 0 where
  pub before : syntax.Argument
  pub later : List Piece
  pub is : list ≡ pieces_of_argument before ++ written.Comma ∷ later

parted : (args : syntax.Arguments) (a : syntax.Argument) → Parted (pieces_of_arguments (syntax.further args a))
parted (syntax.argument b) a = record { before = b; later = pieces_of_argument a; is = refl }
parted (syntax.further args b) a =
    let h = parted args b in
    record {
      before = h.before;
      later = h.later ++ written.Comma ∷ pieces_of_argument a;
      is = ap (λ (t : List Piece). t ++ written.Comma ∷ pieces_of_argument a) h.is ∙ append_assoc (pieces_of_argument h.before) (written.Comma ∷ h.later) (written.Comma ∷ pieces_of_argument a);
    }

module _ (names : List Entry) (stands : ℕ → Bool) (fields : List (List ℕ)) where
  abbrev W : Reading → List Piece → Result Reading Refusal
  W s list = walked names stands fields s list

  abbrev in_a_product : List Frame → List flat_factors.Factor → List tree.Argument → Reading
  in_a_product frames level fixed = at frames level places.Product (kept fixed)

  -- what comes behind factors
  abbrev pub behind : List Frame → List flat_factors.Factor → List Piece → List Raw × List tree.Argument → Result Reading Refusal
  behind frames level rest x = W (in_a_product frames (puts level x.0) x.1) rest

  -- ---- marks and powers were looked at before

  mark-passed : (l : syntax.Label) (frames : List Frame) (level : List flat_factors.Factor) (fixed : List tree.Argument) (rest : List Piece) → W (in_a_product frames level fixed) (mark_of l ++ rest) ≡ W (in_a_product frames level fixed) rest
  unfolding walked
  mark-passed (syntax.named n) frames level fixed rest = refl
  mark-passed (syntax.wildcard n r) frames level fixed rest = refl

  power-passed : (p : written_powers.Power) (frames : List Frame) (level : List flat_factors.Factor) (fixed : List tree.Argument) (rest : List Piece) → W (in_a_product frames level fixed) (piece_of_power p ∷ rest) ≡ W (in_a_product frames level fixed) rest
  unfolding walked
  power-passed p frames level fixed rest = refl

  by-name-passed : (sign : Option Sign) (l : syntax.Label) (frames : List Frame) (level : List flat_factors.Factor) (fixed : List tree.Argument) (rest : List Piece)
      → W (in_a_product frames level fixed) (written.RaisedByName sign (name_of l) ∷ (mark_of l ++ rest)) ≡ W (in_a_product frames level fixed) rest
  unfolding walked
  by-name-passed sign l frames level fixed rest = mark-passed l frames level fixed rest

  second-passed : (q : syntax.Label) (frames : List Frame) (level : List flat_factors.Factor) (fixed : List tree.Argument) (rest : List Piece)
      → W (in_a_product frames level fixed) (written.EndOfDot (name_of q) ∷ (mark_of q ++ rest)) ≡ W (in_a_product frames level fixed) rest
  unfolding walked
  second-passed q frames level fixed rest = mark-passed q frames level fixed rest

  entry-passed : (e : syntax.Entry) (frames : List Frame) (level : List flat_factors.Factor) (fixed : List tree.Argument) (rest : List Piece)
      → W (in_a_product frames level fixed) (pieces_of_entry e ++ rest) ≡ W (in_a_product frames level fixed) rest
  unfolding walked
  entry-passed (syntax.name_entry l) frames level fixed rest = mark-passed l frames level fixed rest
  entry-passed (syntax.number_entry n) frames level fixed rest = refl

  delta-passed : (frames : List Frame) (level : List flat_factors.Factor) (fixed : List tree.Argument) (rest : List Piece) → W (in_a_product frames level fixed) (written.EndOfDelta ∷ rest) ≡ W (in_a_product frames level fixed) rest
  unfolding walked
  delta-passed frames level fixed rest = refl

  -- ---- a factor that is put

  -- what is put, and what stands behind it
  added : (p : Piece) (list rest : List Piece) (frames : List Frame) (level : List flat_factors.Factor) (fixed : List tree.Argument) (r : Result Raw Refusal)
      → in_product names (in_a_product frames level fixed) p list ≡ adds (in_a_product frames level fixed) places.Product (flatly r)
      → ((next : List flat_factors.Factor) → W (in_a_product frames next fixed) list ≡ W (in_a_product frames next fixed) rest)
      → W (in_a_product frames level fixed) (p ∷ list) ≡ (with_fixed fixed (r >>= (λ x. Ok (x ∷ []))) >>= behind frames level rest)
  unfolding walked
  added p list rest frames level fixed r is passes = ap (λ (made : Result Reading Refusal). made >>= (λ next. W next list)) is ∙ by r
    where
      by : (r : Result Raw Refusal) → (adds (in_a_product frames level fixed) places.Product (flatly r) >>= (λ next. W next list)) ≡ (with_fixed fixed (r >>= (λ x. Ok (x ∷ []))) >>= behind frames level rest)
      by (Ok x) = passes (put level (flat x))
      by (Err e) = refl

  name-walked : (link : Link) (l : syntax.Label) (frames : List Frame) (level : List flat_factors.Factor) (fixed : List tree.Argument) (rest : List Piece) → mark_at rest ≡ None → name_power_at rest ≡ None
      → W (in_a_product frames level fixed) (pieces_of_base link (syntax.name l) ++ rest) ≡ (raw_to_power names fields fixed (syntax.name l) (power_at rest) >>= behind frames level rest)
  name-walked link l frames level fixed rest bare unraised =
      let s : Reading = in_a_product frames level fixed in
      let list : List Piece = mark_of l ++ rest in
      added (written.Name link (name_of l)) list rest frames level fixed (trees.raw_named names l (power_at rest) (name_of l))
      (ap (λ (m : Option Restriction). adds s places.Product (walking.powered_put names (name_of l) m (behind_mark list) (name_power_at (behind_mark list)))) (mark-seen l rest bare)
      ∙ ap (λ (t : List Piece). adds s places.Product (walking.powered_put names (name_of l) (restriction_of l) t (name_power_at t))) (behind-seen l rest bare)
      ∙ ap (λ (o : Option (Option Sign × Named)). adds s places.Product (walking.powered_put names (name_of l) (restriction_of l) rest o)) unraised
      ∙ ap (λ (r : Result raws.Raw Refusal). adds s places.Product r) (name-same names l (power_at rest)))
      (λ next. mark-passed l frames next fixed rest)

  whole-walked : (link : Link) (l : syntax.Label) (sign : Option Sign) (e : syntax.Label) (frames : List Frame) (level : List flat_factors.Factor) (fixed : List tree.Argument) (rest : List Piece) → mark_at rest ≡ None
      → W (in_a_product frames level fixed) (pieces_of_factor link (syntax.raised (syntax.name l) sign e) ++ rest) ≡ (raw names fields fixed (syntax.raised (syntax.name l) sign e) >>= behind frames level rest)
  whole-walked link l sign e frames level fixed rest bare =
      let s : Reading = in_a_product frames level fixed in
      let raised : List Piece = written.RaisedByName sign (name_of e) ∷ (mark_of e ++ rest) in
      let list : List Piece = mark_of l ++ raised in
      ap (λ (t : List Piece). W s (written.Name link (name_of l) ∷ t)) (append_assoc (mark_of l) (written.RaisedByName sign (name_of e) ∷ mark_of e) rest)
      ∙ added (written.Name link (name_of l)) list rest frames level fixed (trees.whole_raw names l e)
      (ap (λ (m : Option Restriction). adds s places.Product (walking.powered_put names (name_of l) m (behind_mark list) (name_power_at (behind_mark list)))) (mark-seen l raised refl)
      ∙ ap (λ (t : List Piece). adds s places.Product (walking.powered_put names (name_of l) (restriction_of l) t (name_power_at t))) (behind-seen l raised refl)
      ∙ ap (λ (m : Option Restriction). adds s places.Product (walking.whole_put names (name_of l) (restriction_of l) (name_of e) m)) (mark-seen e rest bare)
      ∙ ap (λ (r : Result raws.Raw Refusal). adds s places.Product r) (whole-same names l e))
      (λ next. mark-passed l frames next fixed raised ∙ by-name-passed sign e frames next fixed rest)

  dot-walked : (link : Link) (p q : syntax.Label) (frames : List Frame) (level : List flat_factors.Factor) (fixed : List tree.Argument) (rest : List Piece) → mark_at rest ≡ None
      → W (in_a_product frames level fixed) (pieces_of_base link (syntax.dot p q) ++ rest) ≡ (raw_to_power names fields fixed (syntax.dot p q) (power_at rest) >>= behind frames level rest)
  dot-walked link p q frames level fixed rest bare =
      let s : Reading = in_a_product frames level fixed in
      let second : List Piece = written.EndOfDot (name_of q) ∷ (mark_of q ++ rest) in
      let list : List Piece = mark_of p ++ second in
      ap (λ (t : List Piece). W s (written.Dot link (name_of p) ∷ t)) (append_assoc (mark_of p) (written.EndOfDot (name_of q) ∷ mark_of q) rest)
      ∙ added (written.Dot link (name_of p)) list rest frames level fixed (trees.dot_raw names p q (power_at rest))
      (ap (λ (m : Option Restriction). walking.dot_taken names s (name_of p) m (behind_mark list)) (mark-seen p second refl)
      ∙ ap (λ (t : List Piece). walking.dot_taken names s (name_of p) (restriction_of p) t) (behind-seen p second refl)
      ∙ ap (λ (m : Option Restriction). adds s places.Product (walking.dot_put names (name_of p) (restriction_of p) (name_of q) m (power_at (behind_mark (mark_of q ++ rest))))) (mark-seen q rest bare)
      ∙ ap (λ (t : List Piece). adds s places.Product (walking.dot_put names (name_of p) (restriction_of p) (name_of q) (restriction_of q) (power_at t))) (behind-seen q rest bare)
      ∙ ap (λ (r : Result raws.Raw Refusal). adds s places.Product r) (dot-same names p q (power_at rest)))
      (λ next. mark-passed p frames next fixed second ∙ second-passed q frames next fixed rest)

  no-mark-entry : (e : syntax.Entry) (rest : List Piece) → mark_at (pieces_of_entry e ++ rest) ≡ None
  no-mark-entry (syntax.name_entry l) rest = refl
  no-mark-entry (syntax.number_entry n) rest = refl

  -- two ends that are given, and put
  ends-put : (s : Reading) (rest : List Piece) (ra rb : Result trees.PatternEnd Refusal) (list : List Piece) (seen : walking.entry_taken names list ≡ given_as rb) (left : walking.behind_entry list ≡ written.EndOfDelta ∷ rest)
      → (given_as ra >>= walking.delta_behind names s list) ≡ adds s places.Product (flatly (ra >>= (λ first. rb >>= (λ second. trees.linked_raw first second (power_at rest)))))
  ends-put s rest (Err e) rb list seen left = refl
  ends-put s rest (Ok a) rb list seen left =
      ap (λ (r : Result (Option PatternEnd) Refusal). r >>= walking.delta_ended s (end_as a) (walking.behind_entry list)) seen
      ∙ ap (λ (t : List Piece). given_as rb >>= walking.delta_ended s (end_as a) t) left
      ∙ by rb
    where
      by : (rb : Result trees.PatternEnd Refusal) → (given_as rb >>= walking.delta_ended s (end_as a) (written.EndOfDelta ∷ rest)) ≡ adds s places.Product (flatly (rb >>= (λ second. trees.linked_raw a second (power_at rest))))
      by (Err e) = refl
      by (Ok b) = ap (λ (r : Result raws.Raw Refusal). adds s places.Product r) (linked-same names a b (power_at rest))

  delta-walked : (link : Link) (spot : _) (a b : syntax.Entry) (frames : List Frame) (level : List flat_factors.Factor) (fixed : List tree.Argument) (rest : List Piece)
      → W (in_a_product frames level fixed) (pieces_of_base link (syntax.delta spot a b) ++ rest) ≡ (raw_to_power names fields fixed (syntax.delta spot a b) (power_at rest) >>= behind frames level rest)
  delta-walked link spot a b frames level fixed rest =
      let s : Reading = in_a_product frames level fixed in
      let second : List Piece = pieces_of_entry b ++ (written.EndOfDelta ∷ rest) in
      let list : List Piece = pieces_of_entry a ++ second in
      ap (λ (t : List Piece). W s (written.Delta link spot ∷ t)) (append_assoc (pieces_of_entry a ++ pieces_of_entry b) (written.EndOfDelta ∷ []) rest ∙ append_assoc (pieces_of_entry a) (pieces_of_entry b) (written.EndOfDelta ∷ rest))
      ∙ added (written.Delta link spot) list rest frames level fixed (trees.delta_raw names a b (power_at rest))
      (ap (λ (r : Result (Option PatternEnd) Refusal). r >>= walking.delta_behind names s (walking.behind_entry list)) (entry-seen names a second (no-mark-entry b (written.EndOfDelta ∷ rest)))
      ∙ ap (λ (t : List Piece). given_as (trees.pattern_end names a) >>= walking.delta_behind names s t) (behind-entry-seen names a second (no-mark-entry b (written.EndOfDelta ∷ rest)))
      ∙ ends-put s rest (trees.pattern_end names a) (trees.pattern_end names b) second (entry-seen names b (written.EndOfDelta ∷ rest) refl) (behind-entry-seen names b (written.EndOfDelta ∷ rest) refl))
      (λ next. entry-passed a frames next fixed second ∙ entry-passed b frames next fixed (written.EndOfDelta ∷ rest) ∙ delta-passed frames next fixed rest)

  -- ---- functions

  put-single : (r : Result Raw Refusal) (frames : List Frame) (level : List flat_factors.Factor) (fixed : List tree.Argument) (rest : List Piece)
      → (flatly r >>= (λ made. W (at frames (put level made) places.Product (kept fixed)) rest)) ≡ (with_fixed fixed (r >>= (λ x. Ok (x ∷ []))) >>= behind frames level rest)
  put-single (Ok x) frames level fixed rest = refl
  put-single (Err e) frames level fixed rest = refl

  -- a function ends
  function-ended : (g : Frame) (frames : List Frame) (fixed : List (List resolved.Piece)) (rest : List Piece)
      → W (at (g ∷ frames) [] places.Behind fixed) (written.EndOfCall ∷ rest) ≡ (walking.function_put g.is_commuting (power_at rest) g.pieces >>= (λ made. W (at frames (put g.level made) places.Product fixed) rest))
  unfolding walked
  function-ended g frames fixed rest = bind-bind (walking.function_put g.is_commuting (power_at rest) g.pieces) (λ made. Ok (at frames (put g.level made) places.Product fixed)) (λ next. W next rest)

  empty-ended : (g : Frame) (frames : List Frame) (fixed : List (List resolved.Piece)) (rest : List Piece)
      → W (at (g ∷ frames) [] places.Argument fixed) (written.EndOfCall ∷ rest) ≡ (walking.function_put g.is_commuting (power_at rest) g.pieces >>= (λ made. W (at frames (put g.level made) places.Product fixed) rest))
  unfolding walked
  empty-ended g frames fixed rest = bind-bind (walking.function_put g.is_commuting (power_at rest) g.pieces) (λ made. Ok (at frames (put g.level made) places.Product fixed)) (λ next. W next rest)

  -- behind a function's name its mark is passed
  begun-passed : (l : syntax.Label) (frames : List Frame) (level : List flat_factors.Factor) (fixed : List (List resolved.Piece)) (rest : List Piece) → W (at frames level places.Argument fixed) (mark_of l ++ rest) ≡ W (at frames level places.Argument fixed) rest
  unfolding walked
  begun-passed (syntax.named n) frames level fixed rest = refl
  begun-passed (syntax.wildcard n r) frames level fixed rest = refl

  abbrev frame_of : List flat_factors.Factor → Bool → Name → Frame
  frame_of level is_commuting m = record { level = level; is_commuting = is_commuting; pieces = begun is_commuting m }

  mark-arguments : (args : syntax.Arguments) (rest : List Piece) → mark_at (pieces_of_arguments args ++ rest) ≡ None
  mark-arguments (syntax.argument (syntax.expression s)) rest = (plain-start names stands fields (pieces_of_sum s) rest (start-sum names stands fields s)).mark
  mark-arguments (syntax.argument (syntax.field n)) rest = refl
  mark-arguments (syntax.further args a) rest = ap mark_at (append_assoc (pieces_of_arguments args) (written.Comma ∷ pieces_of_argument a) rest) ∙ mark-arguments args (written.Comma ∷ pieces_of_argument a ++ rest)

  called-step : (s : Reading) (link : Link) (n : Named) (list : List Piece) (frames : List Frame) (level : List flat_factors.Factor) (fixed : List tree.Argument)
      → W (in_a_product frames level fixed) (written.Call link n ∷ list) ≡ ((head names n >>= walking.called_by names (in_a_product frames level fixed) n list) >>= (λ next. W next list))
  unfolding walked
  called-step s link n list frames level fixed = refl

  module _ (l : syntax.Label) (frames : List Frame) (level : List flat_factors.Factor) (fixed : List tree.Argument) (rest : List Piece) where
    abbrev s0 : Reading
    s0 = in_a_product frames level fixed

    -- ---- nothing in the parentheses

    abbrev empty_list : List Piece
    empty_list = mark_of l ++ (written.EndOfCall ∷ rest)

    empty-function : (id : ℕ) (is_commuting : Bool)
        → (walking.called_by names s0 (name_of l) empty_list (a_head.Function id is_commuting) >>= (λ next. W next empty_list))
        ≡ (with_fixed fixed (trees.empty_call_raw names l (power_at rest) (a_head.Function id is_commuting) >>= (λ x. Ok (x ∷ []))) >>= behind frames level rest)
    empty-function id is_commuting =
        ap (λ (m : Option Restriction). (walking.marked names m id >>= (λ n. Ok (opened s0 is_commuting n))) >>= (λ next. W next empty_list)) (mark-seen l (written.EndOfCall ∷ rest) refl)
        ∙ ap (λ (r : Result Name Refusal). (r >>= (λ n. Ok (opened s0 is_commuting n))) >>= (λ next. W next empty_list)) (marked-same names l id)
        ∙ by (trees.marked names l id)
      where
        by : (r : Result Name Refusal) → ((r >>= (λ n. Ok (opened s0 is_commuting n))) >>= (λ next. W next empty_list))
            ≡ (with_fixed fixed ((r >>= trees.function_raw is_commuting (power_at rest) pattern.empty) >>= (λ x. Ok (x ∷ []))) >>= behind frames level rest)
        by (Err e) = refl
        by (Ok m) =
            begun-passed l (frame_of level is_commuting m ∷ frames) [] (kept fixed) (written.EndOfCall ∷ rest)
            ∙ empty-ended (frame_of level is_commuting m) frames (kept fixed) rest
            ∙ ap (λ (r : Result raws.Raw Refusal). r >>= (λ made. W (at frames (put level made) places.Product (kept fixed)) rest)) (empty-same names is_commuting (power_at rest) m)
            ∙ put-single (trees.function_raw is_commuting (power_at rest) pattern.empty m) frames level fixed rest

    empty-vector : (id : ℕ)
        → (walking.called_by names s0 (name_of l) empty_list (a_head.Vector id) >>= (λ next. W next empty_list))
        ≡ (with_fixed fixed (trees.empty_call_raw names l (power_at rest) (a_head.Vector id) >>= (λ x. Ok (x ∷ []))) >>= behind frames level rest)
    empty-vector id =
        ap (λ (t : List Piece). walking.component_taken names s0 (name_of l) empty_list id t >>= (λ next. W next empty_list)) (behind-seen l (written.EndOfCall ∷ rest) refl)
        ∙ ap (λ (t : List Piece). adds s0 places.Vector (walking.component_put names (name_of l) (mark_at empty_list) id t (drop (length t) (written.EndOfCall ∷ rest))) >>= (λ next. W next empty_list)) (front-end written.EndOfCall rest tt)

    empty-by : (h : Result heads.Head Refusal)
        → ((h >>= walking.called_by names s0 (name_of l) empty_list) >>= (λ next. W next empty_list))
        ≡ (with_fixed fixed ((h >>= trees.empty_call_raw names l (power_at rest)) >>= (λ x. Ok (x ∷ []))) >>= behind frames level rest)
    empty-by (Err e) = refl
    empty-by (Ok (a_head.Function id is_commuting)) = empty-function id is_commuting
    empty-by (Ok (a_head.Vector id)) = empty-vector id

    empty-walked : (link : Link) → W s0 (pieces_of_base link (syntax.empty_call l) ++ rest) ≡ (raw_to_power names fields fixed (syntax.empty_call l) (power_at rest) >>= behind frames level rest)
    empty-walked link =
        ap (λ (t : List Piece). W s0 (written.Call link (name_of l) ∷ t)) (append_assoc (mark_of l) (written.EndOfCall ∷ []) rest)
        ∙ called-step s0 link (name_of l) empty_list frames level fixed
        ∙ empty-by (head names (name_of l))

    -- ---- arguments

    abbrev list_of : syntax.Arguments → List Piece
    list_of args = mark_of l ++ (pieces_of_arguments args ++ written.EndOfCall ∷ rest)

    -- what arguments give behind a function that is begun
    abbrev Inner : syntax.Arguments → Type 0
    Inner args = (f : Frame)
        → W (at (f ∷ frames) [] places.Argument (kept fixed)) (pieces_of_arguments args ++ written.EndOfCall ∷ rest)
        ≡ (pattern_arguments names fields fixed args >>= (λ x. W (at (extended f (pattern.pieces_of_arguments x.0) ∷ frames) [] places.Behind (kept x.1)) (written.EndOfCall ∷ rest)))

    function-called : (args : syntax.Arguments) (id : ℕ) (is_commuting : Bool) → Inner args
        → (walking.called_by names s0 (name_of l) (list_of args) (a_head.Function id is_commuting) >>= (λ next. W next (list_of args)))
        ≡ (trees.call_raw names fixed l args (pattern_arguments names fields fixed args) (power_at rest) (a_head.Function id is_commuting) >>= behind frames level rest)
    function-called args id is_commuting inner =
        ap (λ (m : Option Restriction). (walking.marked names m id >>= (λ n. Ok (opened s0 is_commuting n))) >>= (λ next. W next (list_of args))) (mark-seen l (pieces_of_arguments args ++ written.EndOfCall ∷ rest) (mark-arguments args (written.EndOfCall ∷ rest)))
        ∙ ap (λ (r : Result Name Refusal). (r >>= (λ n. Ok (opened s0 is_commuting n))) >>= (λ next. W next (list_of args))) (marked-same names l id)
        ∙ by (trees.marked names l id)
      where
        last : (m : Name) (r : Made pattern.Arguments)
            → (r >>= (λ x. W (at (extended (frame_of level is_commuting m) (pattern.pieces_of_arguments x.0) ∷ frames) [] places.Behind (kept x.1)) (written.EndOfCall ∷ rest)))
            ≡ ((r >>= (λ x. with_fixed x.1 (trees.function_raw is_commuting (power_at rest) x.0 m >>= (λ y. Ok (y ∷ []))))) >>= behind frames level rest)
        last m (Err e) = refl
        last m (Ok x) =
            function-ended (extended (frame_of level is_commuting m) (pattern.pieces_of_arguments x.0)) frames (kept x.1) rest
            ∙ ap (λ (r : Result raws.Raw Refusal). r >>= (λ made. W (at frames (put level made) places.Product (kept x.1)) rest)) (function-same names is_commuting (power_at rest) x.0 m)
            ∙ put-single (trees.function_raw is_commuting (power_at rest) x.0 m) frames level x.1 rest

        by : (r : Result Name Refusal) → ((r >>= (λ n. Ok (opened s0 is_commuting n))) >>= (λ next. W next (list_of args)))
            ≡ ((r >>= (λ m. pattern_arguments names fields fixed args >>= (λ x. with_fixed x.1 (trees.function_raw is_commuting (power_at rest) x.0 m >>= (λ y. Ok (y ∷ [])))))) >>= behind frames level rest)
        by (Err e) = refl
        by (Ok m) =
            begun-passed l (frame_of level is_commuting m ∷ frames) [] (kept fixed) (pieces_of_arguments args ++ written.EndOfCall ∷ rest)
            ∙ inner (frame_of level is_commuting m)
            ∙ last m (pattern_arguments names fields fixed args)

    -- ---- vectors

    -- one argument in the parentheses
    component-seen : (args : syntax.Arguments) (list later : List Piece) → front 0 (pieces_of_arguments args ++ written.EndOfCall ∷ rest) ≡ list → drop (length list) (pieces_of_arguments args ++ written.EndOfCall ∷ rest) ≡ later → (id : ℕ)
        → walking.called_by names s0 (name_of l) (list_of args) (a_head.Vector id) ≡ adds s0 places.Vector (walking.component_put names (name_of l) (restriction_of l) id list later)
    component-seen args list later is behind-it id =
        let all : List Piece = pieces_of_arguments args ++ written.EndOfCall ∷ rest in
        let bare = mark-arguments args (written.EndOfCall ∷ rest) in
        ap (λ (t : List Piece). walking.component_taken names s0 (name_of l) (list_of args) id t) (behind-seen l all bare)
        ∙ ap (λ (m : Option Restriction). adds s0 places.Vector (walking.component_put names (name_of l) m id (front 0 all) (drop (length (front 0 all)) all))) (mark-seen l all bare)
        ∙ ap (λ (t : List Piece). adds s0 places.Vector (walking.component_put names (name_of l) (restriction_of l) id t (drop (length t) all))) is
        ∙ ap (λ (t : List Piece). adds s0 places.Vector (walking.component_put names (name_of l) (restriction_of l) id list t)) behind-it

    never-only : (list later : List Piece) → walking.is_only list (written.Comma ∷ later) ≡ false
    never-only [] later = refl
    never-only (p ∷ list) later = refl

    abbrev then_list : syntax.Arguments → Result Reading Refusal → Result Reading Refusal
    then_list args r = r >>= (λ next. W next (list_of args))

    vector-parted : (args : syntax.Arguments) (a : syntax.Argument) (id : ℕ)
        → then_list (syntax.further args a) (walking.called_by names s0 (name_of l) (list_of (syntax.further args a)) (a_head.Vector id)) ≡ Err (wrong (spelled_of (name_of l)))
    vector-parted args a id =
        let h = parted args a in
        let later : List Piece = h.later ++ written.EndOfCall ∷ rest in
        let regrouped : pieces_of_arguments (syntax.further args a) ++ written.EndOfCall ∷ rest ≡ pieces_of_argument h.before ++ (written.Comma ∷ later) =
        ap (λ (t : List Piece). t ++ written.EndOfCall ∷ rest) h.is ∙ append_assoc (pieces_of_argument h.before) (written.Comma ∷ h.later) (written.EndOfCall ∷ rest) in
        let front-is = ap (front 0) regrouped ∙ front-argument h.before written.Comma later tt in
        let drop-is = ap (λ (t : List Piece). drop (length t) (pieces_of_arguments (syntax.further args a) ++ written.EndOfCall ∷ rest)) (sym (front-argument h.before written.Comma later tt))
        ∙ ap (λ (t : List Piece). drop (length (front 0 (pieces_of_argument h.before ++ (written.Comma ∷ later)))) t) regrouped
        ∙ behind-argument h.before written.Comma later tt in
        ap (then_list (syntax.further args a)) (component-seen (syntax.further args a) (pieces_of_argument h.before) (written.Comma ∷ later) front-is drop-is id)
        ∙ ap (λ (b : Bool). then_list (syntax.further args a) (adds s0 places.Vector (cond b (walking.marked names (restriction_of l) id >>= (λ m. walking.only_end names (name_of l) (pieces_of_argument h.before) >>= (λ e. walking.linked_put (Vector m) e (power_at later)))) (Err (wrong (spelled_of (name_of l))))))) (never-only (pieces_of_argument h.before) later)

  -- a name or a number alone in the parentheses of a vector is passed
  abbrev in_a_vector : List Frame → List flat_factors.Factor → List tree.Argument → Reading
  in_a_vector frames level fixed = at frames level places.Vector (kept fixed)

  only-passed : (s : syntax.Sum) (e : syntax.Entry) → alone s ≡ Some e → (frames : List Frame) (level : List flat_factors.Factor) (fixed : List tree.Argument) (rest : List Piece)
      → W (in_a_vector frames level fixed) (pieces_of_sum s ++ written.EndOfCall ∷ rest) ≡ W (in_a_product frames level fixed) rest
  unfolding walked
  only-passed (syntax.first None (syntax.one (syntax.factor (syntax.number n) None))) e is frames level fixed rest = refl
  only-passed (syntax.first None (syntax.one (syntax.factor (syntax.name (syntax.named n)) None))) e is frames level fixed rest = refl
  only-passed (syntax.first None (syntax.one (syntax.factor (syntax.name (syntax.wildcard n r)) None))) e is frames level fixed rest = refl
  only-passed (syntax.first None (syntax.one (syntax.factor (syntax.number n) (Some p)))) e is frames level fixed rest = cc
  only-passed (syntax.first None (syntax.one (syntax.factor (syntax.name l) (Some p)))) e is frames level fixed rest = cc
  only-passed (syntax.first None (syntax.one (syntax.factor (syntax.dot p q) w))) e is frames level fixed rest = cc
  only-passed (syntax.first None (syntax.one (syntax.factor (syntax.delta spot a b) w))) e is frames level fixed rest = cc
  only-passed (syntax.first None (syntax.one (syntax.factor (syntax.empty_call l) w))) e is frames level fixed rest = cc
  only-passed (syntax.first None (syntax.one (syntax.factor (syntax.call l args) w))) e is frames level fixed rest = cc
  only-passed (syntax.first None (syntax.one (syntax.factor (syntax.parenthesis s) w))) e is frames level fixed rest = cc
  only-passed (syntax.first None (syntax.one (syntax.raised b sign l))) e is frames level fixed rest = cc
  only-passed (syntax.first None (syntax.times p f)) e is frames level fixed rest = cc
  only-passed (syntax.first None (syntax.over p f)) e is frames level fixed rest = cc
  only-passed (syntax.first (Some sign) p) e is frames level fixed rest = cc
  only-passed (syntax.more s sign p) e is frames level fixed rest = cc

  vector-mark-passed : (l : syntax.Label) (frames : List Frame) (level : List flat_factors.Factor) (fixed : List tree.Argument) (rest : List Piece) → W (in_a_vector frames level fixed) (mark_of l ++ rest) ≡ W (in_a_vector frames level fixed) rest
  unfolding walked
  vector-mark-passed (syntax.named n) frames level fixed rest = refl
  vector-mark-passed (syntax.wildcard n r) frames level fixed rest = refl

  module _ (l : syntax.Label) (frames : List Frame) (level : List flat_factors.Factor) (fixed : List tree.Argument) (rest : List Piece) (id : ℕ) where
    abbrev one_list : syntax.Argument → List Piece
    one_list a = list_of l frames level fixed rest (syntax.argument a)

    abbrev vector_given : Result trees.PatternEnd Refusal → Result Raw Refusal
    vector_given end = trees.marked names l id >>= (λ m. end >>= (λ e. trees.linked_raw (trees.vector_end m) e (power_at rest)))

    -- what is put, where something stands in the parentheses
    given-put : (list : List Piece) (r : Result trees.PatternEnd Refusal) → walking.only_end names (name_of l) list ≡ (r >>= (λ e. Ok (end_as e)))
        → (walking.marked names (restriction_of l) id >>= (λ m. walking.only_end names (name_of l) list >>= (λ e. walking.linked_put (Vector m) e (power_at rest)))) ≡ flatly (vector_given r)
    given-put list r is =
        ap (λ (o : Result PatternEnd Refusal). walking.marked names (restriction_of l) id >>= (λ m. o >>= (λ e. walking.linked_put (Vector m) e (power_at rest)))) is
        ∙ ap (λ (n : Result Name Refusal). n >>= (λ m. (r >>= (λ e. Ok (end_as e))) >>= (λ e. walking.linked_put (Vector m) e (power_at rest)))) (marked-same names l id)
        ∙ by (trees.marked names l id) r
      where
        by : (n : Result Name Refusal) (r : Result trees.PatternEnd Refusal)
            → (n >>= (λ m. (r >>= (λ e. Ok (end_as e))) >>= (λ e. walking.linked_put (Vector m) e (power_at rest)))) ≡ flatly (n >>= (λ m. r >>= (λ e. trees.linked_raw (trees.vector_end m) e (power_at rest))))
        by (Err e) r = refl
        by (Ok m) (Err e) = refl
        by (Ok m) (Ok x) = linked-same names (trees.vector_end m) x (power_at rest)

    -- one argument, which isn't empty
    one-seen : (a : syntax.Argument) (p : Piece) (ps : List Piece) (r : Result trees.PatternEnd Refusal) → pieces_of_argument a ≡ p ∷ ps → walking.only_end names (name_of l) (pieces_of_argument a) ≡ (r >>= (λ e. Ok (end_as e)))
        → walking.called_by names (in_a_product frames level fixed) (name_of l) (one_list a) (a_head.Vector id) ≡ adds (in_a_product frames level fixed) places.Vector (flatly (vector_given r))
    one-seen a p ps r is only =
        let s : Reading = in_a_product frames level fixed in
        let front-is = front-argument a written.EndOfCall rest tt in
        let drop-is = ap (λ (t : List Piece). drop (length t) (pieces_of_argument a ++ written.EndOfCall ∷ rest)) (sym front-is) ∙ behind-argument a written.EndOfCall rest tt in
        component-seen l frames level fixed rest (syntax.argument a) (pieces_of_argument a) (written.EndOfCall ∷ rest) front-is drop-is id
        ∙ ap (λ (t : List Piece). adds s places.Vector (cond (walking.is_only t (written.EndOfCall ∷ rest)) (walking.marked names (restriction_of l) id >>= (λ m. walking.only_end names (name_of l) (pieces_of_argument a) >>= (λ e. walking.linked_put (Vector m) e (power_at rest)))) (Err (wrong (spelled_of (name_of l)))))) is
        ∙ ap (λ (x : Result raws.Raw Refusal). adds s places.Vector x) (given-put (pieces_of_argument a) r only)

    abbrev refusal_of : List Piece → Refusal
    refusal_of list = first_misplaced names list (wrong (spelled_of (name_of l)))

    -- nothing is put where it is refused
    refused-put : (a : syntax.Argument) (e : Refusal)
        → (adds (in_a_product frames level fixed) places.Vector (flatly (vector_given (Err e))) >>= (λ next. W next (one_list a))) ≡ (with_fixed fixed (vector_given (Err e) >>= (λ x. Ok (x ∷ []))) >>= behind frames level rest)
    refused-put a e = by (trees.marked names l id)
      where
        by : (n : Result Name Refusal)
            → (adds (in_a_product frames level fixed) places.Vector (flatly (n >>= (λ m. Err e))) >>= (λ next. W next (one_list a))) ≡ (with_fixed fixed ((n >>= (λ m. Err e)) >>= (λ x. Ok (x ∷ []))) >>= behind frames level rest)
        by (Ok m) = refl
        by (Err e2) = refl

    put-alone : (s : syntax.Sum) (e : syntax.Entry) → alone s ≡ Some e → (r : Result Raw Refusal)
        → (adds (in_a_product frames level fixed) places.Vector (flatly r) >>= (λ next. W next (one_list (syntax.expression s)))) ≡ (with_fixed fixed (r >>= (λ x. Ok (x ∷ []))) >>= behind frames level rest)
    put-alone s e is (Err refusal) = refl
    put-alone s e is (Ok x) =
        vector-mark-passed l frames (put level (flat x)) fixed (pieces_of_sum s ++ written.EndOfCall ∷ rest) ∙ only-passed s e is frames (put level (flat x)) fixed rest

    expression-given : (s : syntax.Sum) (o : Option syntax.Entry) → alone s ≡ o
        → (walking.called_by names (in_a_product frames level fixed) (name_of l) (one_list (syntax.expression s)) (a_head.Vector id) >>= (λ next. W next (one_list (syntax.expression s))))
        ≡ (with_fixed fixed (vector_given (trees.only_end names l s o) >>= (λ x. Ok (x ∷ []))) >>= behind frames level rest)
    expression-given s None is =
        let t = start-sum names stands fields s in
        ap (λ (r : Result Reading Refusal). r >>= (λ next. W next (one_list (syntax.expression s))))
        (one-seen (syntax.expression s) t.head t.tail (Err (refusal_of (pieces_of_sum s))) t.is
        (ap (λ (r : Result (Option PatternEnd) Refusal). r >>= walking.only_given names (name_of l) (pieces_of_sum s)) (alone-seen names stands fields s ∙ ap (as_alone names stands fields) is)))
        ∙ refused-put (syntax.expression s) (refusal_of (pieces_of_sum s))
    expression-given s (Some e) is =
        let t = start-sum names stands fields s in
        ap (λ (r : Result Reading Refusal). r >>= (λ next. W next (one_list (syntax.expression s))))
        (one-seen (syntax.expression s) t.head t.tail (trees.pattern_end names e) t.is
        (ap (λ (r : Result (Option PatternEnd) Refusal). r >>= walking.only_given names (name_of l) (pieces_of_sum s)) (alone-seen names stands fields s ∙ ap (as_alone names stands fields) is)
        ∙ by (trees.pattern_end names e)))
        ∙ put-alone s e is (vector_given (trees.pattern_end names e))
      where
        by : (r : Result trees.PatternEnd Refusal) → (given_as r >>= walking.only_given names (name_of l) (pieces_of_sum s)) ≡ (r >>= (λ x. Ok (end_as x)))
        by (Ok x) = refl
        by (Err refusal) = refl

    field-refused : (n : Spelled) → walking.only_end names (name_of l) (written.Field n ∷ []) ≡ Err (wrong (spelled_of (name_of l)))
    unfolding first_misplaced
    field-refused n = refl

    vector-called : (args : syntax.Arguments)
        → (walking.called_by names (in_a_product frames level fixed) (name_of l) (list_of l frames level fixed rest args) (a_head.Vector id) >>= (λ next. W next (list_of l frames level fixed rest args)))
        ≡ (with_fixed fixed (trees.component_raw names l id (power_at rest) args >>= (λ x. Ok (x ∷ []))) >>= behind frames level rest)
    vector-called (syntax.argument (syntax.expression s)) = expression-given s (alone s) refl
    vector-called (syntax.argument (syntax.field n)) =
        ap (λ (r : Result Reading Refusal). r >>= (λ next. W next (one_list (syntax.field n)))) (one-seen (syntax.field n) (written.Field n) [] (Err (wrong (spelled_of (name_of l)))) refl (field-refused n))
        ∙ refused-put (syntax.field n) (wrong (spelled_of (name_of l)))
    vector-called (syntax.further args a) = vector-parted l frames level fixed rest args a id

  -- a name with arguments
  call-by : (l : syntax.Label) (args : syntax.Arguments) (frames : List Frame) (level : List flat_factors.Factor) (fixed : List tree.Argument) (rest : List Piece) → Inner l frames level fixed rest args → (h : Result heads.Head Refusal)
      → ((h >>= walking.called_by names (in_a_product frames level fixed) (name_of l) (list_of l frames level fixed rest args)) >>= (λ next. W next (list_of l frames level fixed rest args)))
      ≡ ((h >>= trees.call_raw names fixed l args (pattern_arguments names fields fixed args) (power_at rest)) >>= behind frames level rest)
  call-by l args frames level fixed rest inner (Err e) = refl
  call-by l args frames level fixed rest inner (Ok (a_head.Function id is_commuting)) = function-called l frames level fixed rest args id is_commuting inner
  call-by l args frames level fixed rest inner (Ok (a_head.Vector id)) = vector-called l frames level fixed rest id args

  call-walked : (link : Link) (l : syntax.Label) (args : syntax.Arguments) (frames : List Frame) (level : List flat_factors.Factor) (fixed : List tree.Argument) (rest : List Piece) → Inner l frames level fixed rest args
      → W (in_a_product frames level fixed) (pieces_of_base link (syntax.call l args) ++ rest) ≡ (raw_to_power names fields fixed (syntax.call l args) (power_at rest) >>= behind frames level rest)
  call-walked link l args frames level fixed rest inner =
      ap (λ (t : List Piece). W (in_a_product frames level fixed) (written.Call link (name_of l) ∷ t))
      (append_assoc (mark_of l ++ pieces_of_arguments args) (written.EndOfCall ∷ []) rest ∙ append_assoc (mark_of l) (pieces_of_arguments args) (written.EndOfCall ∷ rest))
      ∙ called-step (in_a_product frames level fixed) link (name_of l) (list_of l frames level fixed rest args) frames level fixed
      ∙ call-by l args frames level fixed rest inner (head names (name_of l))

  -- ---- arguments

  -- what comes behind an argument
  abbrev behind_it : Frame → List Frame → List Piece → pattern.Argument × List tree.Argument → Result Reading Refusal
  behind_it f frames rest x = W (at (extended f (pattern.pieces_of_argument x.0) ∷ frames) [] places.Behind (kept x.1)) rest

  begun-step : (f : Frame) (frames : List Frame) (fixed : List (List resolved.Piece)) (p : Piece) (list : List Piece)
      → W (at (f ∷ frames) [] places.Argument fixed) (p ∷ list) ≡ (in_arguments names stands fields (at (f ∷ frames) [] places.Argument fixed) p list >>= (λ next. W next list))
  unfolding walked
  begun-step f frames fixed p list = refl

  field-walked : (n : Spelled) (f : Frame) (frames : List Frame) (fixed : List tree.Argument) (rest : List Piece)
      → W (at (f ∷ frames) [] places.Argument (kept fixed)) (written.Field n ∷ rest) ≡ (pattern_argument names fields fixed (syntax.field n) >>= behind_it f frames rest)
  unfolding walked
  field-walked n f frames fixed rest = refl

  -- where an argument ends, it doesn't matter what it was
  fixed-ends : (f : Frame) (frames : List Frame) (fixed : List (List resolved.Piece)) (y : Piece) (rest : List Piece) → IsEnd y → W (at (f ∷ frames) [] (places.Fixed 0) fixed) (y ∷ rest) ≡ W (at (f ∷ frames) [] places.Behind fixed) (y ∷ rest)
  unfolding walked
  fixed-ends f frames fixed y rest stops = end-case (λ (z : Piece). W (at (f ∷ frames) [] (places.Fixed 0) fixed) (z ∷ rest) ≡ W (at (f ∷ frames) [] places.Behind fixed) (z ∷ rest)) refl refl y stops

  product-ends : (f : Frame) (frames : List Frame) (level : List flat_factors.Factor) (fixed : List (List resolved.Piece)) (y : Piece) (rest : List Piece) → IsEnd y
      → W (at (f ∷ frames) level places.Product fixed) (y ∷ rest) ≡ W (at (extended f (pieces.Product ∷ pieces_of_level level ++ pieces.EndOfProduct ∷ []) ∷ frames) [] places.Behind fixed) (y ∷ rest)
  unfolding walked
  product-ends f frames level fixed y rest stops =
      end-case (λ (z : Piece). W (at (f ∷ frames) level places.Product fixed) (z ∷ rest) ≡ W (at (extended f (pieces.Product ∷ pieces_of_level level ++ pieces.EndOfProduct ∷ []) ∷ frames) [] places.Behind fixed) (z ∷ rest)) refl refl y stops

  fixed-step : (s : Reading) (p : Piece) (list : List Piece) → (in_fixed (at s.frames s.level (places.Fixed 0) s.fixed) 0 p list >>= (λ next. W next list)) ≡ W (at s.frames s.level (places.Fixed 0) s.fixed) (p ∷ list)
  unfolding walked
  fixed-step s p list = refl

  product-step : (f : Frame) (frames : List Frame) (fixed : List (List resolved.Piece)) (p : Piece) (list : List Piece)
      → (in_product names (at (f ∷ frames) [] places.Product fixed) p list >>= (λ next. W next list)) ≡ W (at (f ∷ frames) [] places.Product fixed) (p ∷ list)
  unfolding walked
  product-step f frames fixed p list = refl

  behind-mark-passed : (f : Frame) (frames : List Frame) (fixed : List (List resolved.Piece)) (r : Restriction) (rest : List Piece) → W (at (f ∷ frames) [] places.Behind fixed) (written.Marked r ∷ rest) ≡ W (at (f ∷ frames) [] places.Behind fixed) rest
  unfolding walked
  behind-mark-passed f frames fixed r rest = refl

  module _ (f : Frame) (frames : List Frame) (fixed : List tree.Argument) (y : Piece) (rest : List Piece) (stops : IsEnd y) where
    abbrev s1 : Reading
    s1 = at (f ∷ frames) [] places.Argument (kept fixed)

    -- ---- without wildcards

    fixed-after : (s : syntax.Sum) (a : tree.Argument) (p : Piece) (list : List Piece) → pieces_of_sum s ++ y ∷ rest ≡ p ∷ list
        → (in_fixed (walking.with_fixed s1 (tree.pieces_of_argument a)) 0 p list >>= (λ next. W next list)) ≡ behind_it f frames (y ∷ rest) (pattern.fixed (length fixed), fixed ++ a ∷ [])
    fixed-after s a p list is =
        let next : Reading = walking.with_fixed s1 (tree.pieces_of_argument a) in
        fixed-step next p list
        ∙ ap (W next) (sym is)
        ∙ skips-sum names stands fields next.frames [] next.fixed s 0 (y ∷ rest)
        ∙ fixed-ends (extended f (pieces.Fixed (length (kept fixed)) ∷ [])) frames (kept fixed ++ tree.pieces_of_argument a ∷ []) y rest stops
        ∙ ap (λ (k : ℕ). W (at (extended f (pieces.Fixed k ∷ []) ∷ frames) [] places.Behind (kept fixed ++ tree.pieces_of_argument a ∷ [])) (y ∷ rest)) (length-map fixed tree.pieces_of_argument)
        ∙ ap (λ (all : List (List resolved.Piece)). W (at (extended f (pieces.Fixed (length fixed) ∷ []) ∷ frames) [] places.Behind all) (y ∷ rest)) (sym (map-append tree.pieces_of_argument fixed (a ∷ [])))

    fixed-by : (s : syntax.Sum) (p : Piece) (list : List Piece) → pieces_of_sum s ++ y ∷ rest ≡ p ∷ list → (r : Result tree.Argument Refusal)
        → (((r >>= (λ a. Ok (tree.pieces_of_argument a))) >>= (λ ps. in_fixed (walking.with_fixed s1 ps) 0 p list)) >>= (λ next. W next list))
        ≡ ((r >>= (λ a. Ok (pattern.fixed (length fixed), fixed ++ a ∷ []))) >>= behind_it f frames (y ∷ rest))
    fixed-by s p list is (Err e) = refl
    fixed-by s p list is (Ok a) = fixed-after s a p list is

    fixed-walked : (s : syntax.Sum) (p : Piece) (list : List Piece) → pieces_of_sum s ++ y ∷ rest ≡ p ∷ list → IsBareSum s
        → (fixed_begun names stands s1 p list >>= (λ next. W next list)) ≡ (fixed_argument names fixed s >>= behind_it f frames (y ∷ rest))
    fixed-walked s p list is bare =
        ap (λ (t : List Piece). (argument_walked names stands t >>= (λ ps. in_fixed (walking.with_fixed s1 ps) 0 p list)) >>= (λ next. W next list)) (ap (front 0) (sym is) ∙ front-argument (syntax.expression s) y rest stops)
        ∙ ap (λ (r : Result (List resolved.Piece) Refusal). (r >>= (λ ps. in_fixed (walking.with_fixed s1 ps) 0 p list)) >>= (λ next. W next list)) (argument-whole names stands s bare)
        ∙ fixed-by s p list is (argument (lone names (alone s)) (sum names none_stands nothing_known s))

    -- ---- products with wildcards

    -- what the pieces of a sum give as a product
    abbrev Whole : syntax.Sum → Type 0
    Whole s = W (at (f ∷ frames) [] places.Product (kept fixed)) (pieces_of_sum s ++ y ∷ rest) ≡ (raws_of names fields fixed s >>= behind (f ∷ frames) [] (y ∷ rest))

    ended-by : (r : Made (List Raw)) → (r >>= behind (f ∷ frames) [] (y ∷ rest)) ≡ (product_argument r >>= behind_it f frames (y ∷ rest))
    ended-by (Err e) = refl
    ended-by (Ok x) =
        product-ends f frames (puts [] x.0) (kept x.1) y rest stops
        ∙ ap (λ (ps : List PatternPiece). W (at (extended f (pieces.Product ∷ ps ++ pieces.EndOfProduct ∷ []) ∷ frames) [] places.Behind (kept x.1)) (y ∷ rest)) (sym (joined-pieces x.0))

    -- the product, from its first piece
    as-product : (s : syntax.Sum) (p : Piece) (list : List Piece) → pieces_of_sum s ++ y ∷ rest ≡ p ∷ list → Whole s
        → (walking.product_begun names s1 p list >>= (λ next. W next list)) ≡ (product_argument (raws_of names fields fixed s) >>= behind_it f frames (y ∷ rest))
    as-product s p list is whole =
        product-step f frames (kept fixed) p list ∙ ap (W (at (f ∷ frames) [] places.Product (kept fixed))) (sym is) ∙ whole ∙ ended-by (raws_of names fields fixed s)

    abbrev WildIs : syntax.Sum → Piece → List Piece → Type 0
    WildIs s p list = (wild_begun names s1 p list (any_name p (behind_mark list)) >>= (λ next. W next list)) ≡ (wild_argument names fixed (alone s) (product_argument (raws_of names fields fixed s)) >>= behind_it f frames (y ∷ rest))

    -- what isn't a name alone is a product
    no-any : (s : syntax.Sum) (p : Piece) (list : List Piece) → pieces_of_sum s ++ y ∷ rest ≡ p ∷ list → Whole s → any_name p (behind_mark list) ≡ None
        → wild_argument names fixed (alone s) (product_argument (raws_of names fields fixed s)) ≡ product_argument (raws_of names fields fixed s) → WildIs s p list
    no-any s p list is whole unnamed others =
        ap (λ (o : Option Spelled). wild_begun names s1 p list o >>= (λ next. W next list)) unnamed
        ∙ as-product s p list is whole
        ∙ ap (λ (r : Made pattern.Argument). r >>= behind_it f frames (y ∷ rest)) (sym others)

    -- a wildcard alone
    abbrev any_sum : Spelled → Restriction → syntax.Sum
    any_sum n r = syntax.first None (syntax.one (syntax.factor (syntax.name (syntax.wildcard n r)) None))

    any-sorted : (n : Spelled) (r : Restriction) (id : ℕ) (sort : Option Sort) → Whole (any_sum n r)
        → (walking.any_by_sort names s1 (written.Name links.First (Declared n)) (written.Marked r ∷ y ∷ rest) id sort >>= (λ next. W next (written.Marked r ∷ y ∷ rest)))
        ≡ (any_by_sort names fixed (syntax.wildcard n r) (product_argument (raws_of names fields fixed (any_sum n r))) id sort >>= behind_it f frames (y ∷ rest))
    any-sorted n r id None whole = as-product (any_sum n r) (written.Name links.First (Declared n)) (written.Marked r ∷ y ∷ rest) refl whole
    any-sorted n r id (Some sort) whole = by (trees.marked names (syntax.wildcard n r) id)
      where
        by : (m : Result Name Refusal)
            → ((m >>= (λ x. Ok (at (with_argument s1.frames (pieces.Any sort x ∷ [])) s1.level places.Behind s1.fixed))) >>= (λ next. W next (written.Marked r ∷ y ∷ rest)))
            ≡ (with_fixed fixed (m >>= (λ x. Ok (pattern.any sort x))) >>= behind_it f frames (y ∷ rest))
        by (Err e) = refl
        by (Ok x) = behind-mark-passed (extended f (pieces.Any sort x ∷ [])) frames (kept fixed) r (y ∷ rest)

    any-found : (n : Spelled) (r : Restriction) (found_as : Result Found Refusal) → Whole (any_sum n r)
        → ((found_as >>= (λ q. walking.any_by_sort names s1 (written.Name links.First (Declared n)) (written.Marked r ∷ y ∷ rest) q.id (sort_of q.kind))) >>= (λ next. W next (written.Marked r ∷ y ∷ rest)))
        ≡ ((found_as >>= (λ q. any_by_sort names fixed (syntax.wildcard n r) (product_argument (raws_of names fields fixed (any_sum n r))) q.id (sort_of q.kind))) >>= behind_it f frames (y ∷ rest))
    any-found n r (Err e) whole = refl
    any-found n r (Ok q) whole = any-sorted n r q.id (sort_of q.kind) whole

    stops-argument : (z : Piece) (zs : List Piece) → IsEnd z → ends_argument (z ∷ zs) ≡ true
    stops-argument z zs stops = end-case (λ (x : Piece). ends_argument (x ∷ zs) ≡ true) refl refl z stops

    any-walked : (n : Spelled) (r : Restriction) → Whole (any_sum n r) → WildIs (any_sum n r) (written.Name links.First (Declared n)) (written.Marked r ∷ y ∷ rest)
    any-walked n r whole =
        ap (λ (b : Bool). wild_begun names s1 (written.Name links.First (Declared n)) (written.Marked r ∷ y ∷ rest) (cond b (Some n) None) >>= (λ next. W next (written.Marked r ∷ y ∷ rest))) (stops-argument y rest stops)
        ∙ any-found n r (found names n) whole

    -- ---- an argument

    expression-walked : (s : syntax.Sum) → (has_wildcard s ≡ false → IsBareSum s) → (has_wildcard s ≡ true → WildIs s (start-sum names stands fields s).head ((start-sum names stands fields s).tail ++ y ∷ rest))
        → W s1 (pieces_of_sum s ++ y ∷ rest) ≡ (pattern_argument names fields fixed (syntax.expression s) >>= behind_it f frames (y ∷ rest))
    expression-walked s bare wild =
        let t = start-sum names stands fields s in
        let list : List Piece = t.tail ++ y ∷ rest in
        let is : pieces_of_sum s ++ y ∷ rest ≡ t.head ∷ list = ap (λ (z : List Piece). z ++ y ∷ rest) t.is in
        ap (W s1) is
        ∙ begun-step f frames (kept fixed) t.head list
        ∙ ap (λ (r : Result Reading Refusal). r >>= (λ next. W next list)) (t.begins s1 list)
        ∙ ap (λ (b : Bool). cond b (wild_begun names s1 t.head list (any_name t.head (behind_mark list))) (fixed_begun names stands s1 t.head list) >>= (λ next. W next list))
        (ap (λ (z : List Piece). list_any is_wild (front 0 z)) (sym is) ∙ wild-ahead (syntax.expression s) y rest stops)
        ∙ by (has_wildcard s) refl
      where
        by : (b : Bool) → has_wildcard s ≡ b
            → (cond b (wild_begun names s1 (start-sum names stands fields s).head ((start-sum names stands fields s).tail ++ y ∷ rest) (any_name (start-sum names stands fields s).head (behind_mark ((start-sum names stands fields s).tail ++ y ∷ rest)))) (fixed_begun names stands s1 (start-sum names stands fields s).head ((start-sum names stands fields s).tail ++ y ∷ rest)) >>= (λ next. W next ((start-sum names stands fields s).tail ++ y ∷ rest)))
            ≡ (cond b (wild_argument names fixed (alone s) (product_argument (raws_of names fields fixed s))) (fixed_argument names fixed s) >>= behind_it f frames (y ∷ rest))
        by true is = wild is
        by false is = fixed-walked s (start-sum names stands fields s).head ((start-sum names stands fields s).tail ++ y ∷ rest) (ap (λ (z : List Piece). z ++ y ∷ rest) (start-sum names stands fields s).is) (bare is)

    abbrev WildOf : syntax.Sum → Type 0
    WildOf s = WildIs s (start-sum names stands fields s).head ((start-sum names stands fields s).tail ++ y ∷ rest)

    goes-by : (s : syntax.Sum) → Whole s → any_name (start-sum names stands fields s).head (behind_mark ((start-sum names stands fields s).tail ++ y ∷ rest)) ≡ None
        → wild_argument names fixed (alone s) (product_argument (raws_of names fields fixed s)) ≡ product_argument (raws_of names fields fixed s) → WildOf s
    goes-by s whole unnamed others =
        no-any s (start-sum names stands fields s).head ((start-sum names stands fields s).tail ++ y ∷ rest) (ap (λ (z : List Piece). z ++ y ∷ rest) (start-sum names stands fields s).is) whole unnamed others

    -- a name behind which a factor stands isn't alone
    later-unnamed : (p : syntax.Product) (link : Link) (g : syntax.Factor)
        → any_name (start-product names stands fields links.First p).head (behind_mark (((start-product names stands fields links.First p).tail ++ pieces_of_factor link g) ++ y ∷ rest)) ≡ None
    later-unnamed p link g =
        let t = start-product names stands fields links.First p in
        let h = start-factor names stands fields link g in
        ap (λ (z : List Piece). any_name t.head (behind_mark z)) (append_assoc t.tail (pieces_of_factor link g) (y ∷ rest) ∙ ap (λ (z : List Piece). t.tail ++ (z ++ y ∷ rest)) h.is)
        ∙ t.unnamed h.head (h.tail ++ y ∷ rest) h.goes

    -- a product with wildcards
    wild-walked : (p : syntax.Product) → has_wildcard (syntax.first None p) ≡ true → Whole (syntax.first None p) → WildOf (syntax.first None p)
    wild-walked (syntax.one (syntax.factor (syntax.name (syntax.wildcard n r)) None)) has whole = any-walked n r whole
    wild-walked (syntax.one (syntax.factor (syntax.name (syntax.named n)) None)) has whole = cc
    wild-walked (syntax.one (syntax.factor (syntax.number n) None)) has whole = cc
    wild-walked (syntax.one (syntax.factor (syntax.number n) (Some w))) has whole = cc
    wild-walked (syntax.one (syntax.factor (syntax.name l) (Some w))) has whole =
        goes-by (syntax.first None (syntax.one (syntax.factor (syntax.name l) (Some w)))) whole
        (ap (λ (t : List Piece). any_name (written.Name links.First (name_of l)) (behind_mark t)) (append_assoc (mark_of l) (piece_of_power w ∷ []) (y ∷ rest))
        ∙ (start-factor names stands fields links.First (syntax.factor (syntax.name l) None)).unnamed (piece_of_power w) (y ∷ rest) (record { mark = refl; ends = λ zs. refl })) refl
    wild-walked (syntax.one (syntax.factor (syntax.dot p q) None)) has whole = goes-by (syntax.first None (syntax.one (syntax.factor (syntax.dot p q) None))) whole refl refl
    wild-walked (syntax.one (syntax.factor (syntax.dot p q) (Some w))) has whole = goes-by (syntax.first None (syntax.one (syntax.factor (syntax.dot p q) (Some w)))) whole refl refl
    wild-walked (syntax.one (syntax.factor (syntax.delta spot a b) None)) has whole = goes-by (syntax.first None (syntax.one (syntax.factor (syntax.delta spot a b) None))) whole refl refl
    wild-walked (syntax.one (syntax.factor (syntax.delta spot a b) (Some w))) has whole = goes-by (syntax.first None (syntax.one (syntax.factor (syntax.delta spot a b) (Some w)))) whole refl refl
    wild-walked (syntax.one (syntax.factor (syntax.empty_call l) None)) has whole = goes-by (syntax.first None (syntax.one (syntax.factor (syntax.empty_call l) None))) whole refl refl
    wild-walked (syntax.one (syntax.factor (syntax.empty_call l) (Some w))) has whole = goes-by (syntax.first None (syntax.one (syntax.factor (syntax.empty_call l) (Some w)))) whole refl refl
    wild-walked (syntax.one (syntax.factor (syntax.call l args) None)) has whole = goes-by (syntax.first None (syntax.one (syntax.factor (syntax.call l args) None))) whole refl refl
    wild-walked (syntax.one (syntax.factor (syntax.call l args) (Some w))) has whole = goes-by (syntax.first None (syntax.one (syntax.factor (syntax.call l args) (Some w)))) whole refl refl
    wild-walked (syntax.one (syntax.factor (syntax.parenthesis s) None)) has whole = goes-by (syntax.first None (syntax.one (syntax.factor (syntax.parenthesis s) None))) whole refl refl
    wild-walked (syntax.one (syntax.factor (syntax.parenthesis s) (Some w))) has whole = goes-by (syntax.first None (syntax.one (syntax.factor (syntax.parenthesis s) (Some w)))) whole refl refl
    wild-walked (syntax.one (syntax.raised b sign l)) has whole =
        goes-by (syntax.first None (syntax.one (syntax.raised b sign l))) whole
        (ap (λ (t : List Piece). any_name (start-factor names stands fields links.First (syntax.factor b None)).head (behind_mark t)) (append_assoc (start-factor names stands fields links.First (syntax.factor b None)).tail (written.RaisedByName sign (name_of l) ∷ mark_of l) (y ∷ rest))
        ∙ (start-factor names stands fields links.First (syntax.factor b None)).unnamed (written.RaisedByName sign (name_of l)) (mark_of l ++ y ∷ rest) (record { mark = refl; ends = λ zs. refl })) refl
    wild-walked (syntax.times p g) has whole = goes-by (syntax.first None (syntax.times p g)) whole (later-unnamed p links.Times g) refl
    wild-walked (syntax.over p g) has whole = goes-by (syntax.first None (syntax.over p g)) whole (later-unnamed p links.Over g) refl

  -- ---- trees

  no-sign : (s : syntax.Sum) → IsTrue (is_pattern_argument (syntax.expression s)) → has_wildcard s ≡ true → IsTrue (is_pattern s)
  no-sign s h is = subst (λ (b : Bool). IsTrue (cond b (is_pattern s) true)) is h

  comma-passed : (f : Frame) (frames : List Frame) (fixed : List (List resolved.Piece)) (rest : List Piece) → W (at (f ∷ frames) [] places.Behind fixed) (written.Comma ∷ rest) ≡ W (at (f ∷ frames) [] places.Argument fixed) rest
  unfolding walked
  comma-passed f frames fixed rest = refl

  plain-end : (y : Piece) (rest : List Piece) → IsEnd y → Plain (y ∷ rest)
  plain-end y rest stops = end-case (λ (z : Piece). Plain (z ∷ rest)) (record { mark = refl; power = refl; by_name = refl }) (record { mark = refl; power = refl; by_name = refl }) y stops

  never : {A : Type 0} → IsTrue false → A
  never h = absurd cc

  bare-argument : (opened : ℕ) (s : syntax.Sum) → IsLawfulSum Pattern opened s → has_wildcard s ≡ false → IsBareSum s
  bare-argument opened s lawful none = bare-sum Pattern opened s lawful (λ e. none)

  mutual
    product-walked : (opened : ℕ) → (p : syntax.Product) (link : Link) (frames : List Frame) (level : List flat_factors.Factor) (fixed : List tree.Argument) (rest : List Piece) → Plain rest → IsTrue (has_pattern_factors p) → IsLawfulProduct Pattern opened p
        → W (in_a_product frames level fixed) (pieces_of_product link p ++ rest) ≡ (trees.raws names fields fixed p >>= behind frames level rest)
    product-walked opened (syntax.one f) link frames level fixed rest plain h lawful = factor-walked opened f link frames level fixed rest plain h lawful
    product-walked opened (syntax.times p f) link frames level fixed rest plain h lawful =
        ap (W (in_a_product frames level fixed)) (append_assoc (pieces_of_product link p) (pieces_of_factor links.Times f) rest)
        ∙ product-walked opened p link frames level fixed (pieces_of_factor links.Times f ++ rest) (plain-start names stands fields (pieces_of_factor links.Times f) rest (start-factor names stands fields links.Times f)) (and-left (has_pattern_factors p) (is_pattern_factor f) h) lawful.0
        ∙ bind-same (trees.raws names fields fixed p) (behind frames level (pieces_of_factor links.Times f ++ rest)) (λ x. (raw names fields x.1 f >>= (λ z. Ok (x.0 ++ z.0, z.1))) >>= behind frames level rest)
        (λ x.
        factor-walked opened f links.Times frames (puts level x.0) x.1 rest plain (and-right (has_pattern_factors p) (is_pattern_factor f) h) lawful.1
        ∙ bind-same (raw names fields x.1 f) (behind frames (puts level x.0) rest) (λ z. behind frames level rest (x.0 ++ z.0, z.1))
        (λ z. ap (λ (next : List flat_factors.Factor). W (in_a_product frames next z.1) rest) (sym (puts-append level x.0 z.0)))
        ∙ sym (bind-bind (raw names fields x.1 f) (λ z. Ok (x.0 ++ z.0, z.1)) (behind frames level rest)))
        ∙ sym (bind-bind (trees.raws names fields fixed p) (λ x. raw names fields x.1 f >>= (λ z. Ok (x.0 ++ z.0, z.1))) (behind frames level rest))
    product-walked opened (syntax.over p f) link frames level fixed rest plain h lawful = cc

    factor-walked : (opened : ℕ) → (f : syntax.Factor) (link : Link) (frames : List Frame) (level : List flat_factors.Factor) (fixed : List tree.Argument) (rest : List Piece) → Plain rest → IsTrue (is_pattern_factor f) → IsLawfulFactor Pattern opened f
        → W (in_a_product frames level fixed) (pieces_of_factor link f ++ rest) ≡ (raw names fields fixed f >>= behind frames level rest)
    factor-walked opened (syntax.factor b None) link frames level fixed rest plain h lawful =
        base-walked opened b link frames level fixed rest plain.mark plain.by_name h lawful.0
        ∙ ap (λ (power : Option Power). raw_to_power names fields fixed b power >>= behind frames level rest) plain.power
    factor-walked opened (syntax.factor b (Some p)) link frames level fixed rest plain h lawful =
        ap (W (in_a_product frames level fixed)) (append_assoc (pieces_of_base link b) (piece_of_power p ∷ []) rest)
        ∙ base-walked opened b link frames level fixed (piece_of_power p ∷ rest) refl refl h lawful.0
        ∙ bind-same (raw names fields fixed (syntax.factor b (Some p))) (behind frames level (piece_of_power p ∷ rest)) (behind frames level rest) (λ x. power-passed p frames (puts level x.0) x.1 rest)
    factor-walked opened (syntax.raised (syntax.name l) sign e) link frames level fixed rest plain h lawful = whole-walked link l sign e frames level fixed rest plain.mark
    factor-walked opened (syntax.raised (syntax.number n) sign e) link frames level fixed rest plain h lawful = cc
    factor-walked opened (syntax.raised (syntax.dot p q) sign e) link frames level fixed rest plain h lawful = cc
    factor-walked opened (syntax.raised (syntax.delta spot a b) sign e) link frames level fixed rest plain h lawful = cc
    factor-walked opened (syntax.raised (syntax.empty_call l) sign e) link frames level fixed rest plain h lawful = cc
    factor-walked opened (syntax.raised (syntax.call l args) sign e) link frames level fixed rest plain h lawful = cc
    factor-walked opened (syntax.raised (syntax.parenthesis s) sign e) link frames level fixed rest plain h lawful = cc

    -- a base with the power that follows
    base-walked : (opened : ℕ) → (b : syntax.Base) (link : Link) (frames : List Frame) (level : List flat_factors.Factor) (fixed : List tree.Argument) (rest : List Piece) → mark_at rest ≡ None → name_power_at rest ≡ None → IsTrue (is_pattern_base b) → IsLawfulBase Pattern opened b
        → W (in_a_product frames level fixed) (pieces_of_base link b ++ rest) ≡ (raw_to_power names fields fixed b (power_at rest) >>= behind frames level rest)
    base-walked opened (syntax.number n) link frames level fixed rest bare unraised h lawful = cc
    base-walked opened (syntax.name l) link frames level fixed rest bare unraised h lawful = name-walked link l frames level fixed rest bare unraised
    base-walked opened (syntax.dot p q) link frames level fixed rest bare unraised h lawful = dot-walked link p q frames level fixed rest bare
    base-walked opened (syntax.delta spot a b) link frames level fixed rest bare unraised h lawful = delta-walked link spot a b frames level fixed rest
    base-walked opened (syntax.empty_call l) link frames level fixed rest bare unraised h lawful = empty-walked l frames level fixed rest link
    base-walked opened (syntax.call l args) link frames level fixed rest bare unraised h lawful =
        call-walked link l args frames level fixed rest (λ f. arguments-walked (opened + 1) args f frames fixed written.EndOfCall rest tt h lawful.2)
    base-walked opened (syntax.parenthesis s) link frames level fixed rest bare unraised h lawful = cc

    arguments-walked : (opened : ℕ) → (args : syntax.Arguments) (f : Frame) (frames : List Frame) (fixed : List tree.Argument) (y : Piece) (rest : List Piece) → IsEnd y → IsTrue (are_pattern_arguments args) → IsLawfulArguments Pattern opened args
        → W (at (f ∷ frames) [] places.Argument (kept fixed)) (pieces_of_arguments args ++ y ∷ rest)
        ≡ (pattern_arguments names fields fixed args >>= (λ x. W (at (extended f (pattern.pieces_of_arguments x.0) ∷ frames) [] places.Behind (kept x.1)) (y ∷ rest)))
    arguments-walked opened (syntax.argument a) f frames fixed y rest stops h lawful =
        argument-walked opened a f frames fixed y rest stops h lawful
        ∙ bind-same (pattern_argument names fields fixed a) (behind_it f frames (y ∷ rest)) (λ x. W (at (extended f (pattern.pieces_of_argument x.0 ++ []) ∷ frames) [] places.Behind (kept x.1)) (y ∷ rest))
        (λ x. ap (λ (ps : List PatternPiece). W (at (extended f ps ∷ frames) [] places.Behind (kept x.1)) (y ∷ rest)) (sym (append-nil (pattern.pieces_of_argument x.0))))
        ∙ sym (bind-bind (pattern_argument names fields fixed a) (λ x. Ok (pattern.further x.0 pattern.empty, x.1)) (λ x. W (at (extended f (pattern.pieces_of_arguments x.0) ∷ frames) [] places.Behind (kept x.1)) (y ∷ rest)))
    arguments-walked opened (syntax.further args a) f frames fixed y rest stops h lawful =
        let all : pattern.Arguments × List tree.Argument → Result Reading Refusal = λ x. W (at (extended f (pattern.pieces_of_arguments x.0) ∷ frames) [] places.Behind (kept x.1)) (y ∷ rest) in
        ap (W (at (f ∷ frames) [] places.Argument (kept fixed))) (append_assoc (pieces_of_arguments args) (written.Comma ∷ pieces_of_argument a) (y ∷ rest))
        ∙ arguments-walked opened args f frames fixed written.Comma (pieces_of_argument a ++ y ∷ rest) tt (and-left (are_pattern_arguments args) (is_pattern_argument a) h) lawful.0
        ∙ bind-same (pattern_arguments names fields fixed args) (λ x. W (at (extended f (pattern.pieces_of_arguments x.0) ∷ frames) [] places.Behind (kept x.1)) (written.Comma ∷ pieces_of_argument a ++ y ∷ rest))
        (λ x. (pattern_argument names fields x.1 a >>= (λ z. Ok (put_argument x.0 z.0, z.1))) >>= all)
        (λ x.
        comma-passed (extended f (pattern.pieces_of_arguments x.0)) frames (kept x.1) (pieces_of_argument a ++ y ∷ rest)
        ∙ argument-walked opened a (extended f (pattern.pieces_of_arguments x.0)) frames x.1 y rest stops (and-right (are_pattern_arguments args) (is_pattern_argument a) h) lawful.1
        ∙ bind-same (pattern_argument names fields x.1 a) (behind_it (extended f (pattern.pieces_of_arguments x.0)) frames (y ∷ rest)) (λ z. all (put_argument x.0 z.0, z.1))
        (λ z. ap (λ (ps : List PatternPiece). W (at (record { level = f.level; is_commuting = f.is_commuting; pieces = ps } ∷ frames) [] places.Behind (kept z.1)) (y ∷ rest))
        (append_assoc f.pieces (pattern.pieces_of_arguments x.0) (pattern.pieces_of_argument z.0) ∙ ap (λ (ps : List PatternPiece). f.pieces ++ ps) (sym (put-pieces x.0 z.0))))
        ∙ sym (bind-bind (pattern_argument names fields x.1 a) (λ z. Ok (put_argument x.0 z.0, z.1)) all))
        ∙ sym (bind-bind (pattern_arguments names fields fixed args) (λ x. pattern_argument names fields x.1 a >>= (λ z. Ok (put_argument x.0 z.0, z.1))) all)

    argument-walked : (opened : ℕ) → (a : syntax.Argument) (f : Frame) (frames : List Frame) (fixed : List tree.Argument) (y : Piece) (rest : List Piece) → IsEnd y → IsTrue (is_pattern_argument a) → IsLawfulArgument Pattern opened a
        → W (at (f ∷ frames) [] places.Argument (kept fixed)) (pieces_of_argument a ++ y ∷ rest) ≡ (pattern_argument names fields fixed a >>= behind_it f frames (y ∷ rest))
    argument-walked opened (syntax.field n) f frames fixed y rest stops h lawful = field-walked n f frames fixed (y ∷ rest)
    argument-walked opened (syntax.expression (syntax.first None p)) f frames fixed y rest stops h lawful =
        expression-walked f frames fixed y rest stops (syntax.first None p) (bare-argument opened (syntax.first None p) lawful)
        (λ is. wild-walked f frames fixed y rest stops p is
        (product-walked opened p links.First (f ∷ frames) [] fixed (y ∷ rest) (plain-end y rest stops) (and-left (has_pattern_factors p) (are_balanced (weights_of p)) (no-sign (syntax.first None p) h is)) lawful))
    argument-walked opened (syntax.expression (syntax.first (Some sign) p)) f frames fixed y rest stops h lawful =
        expression-walked f frames fixed y rest stops (syntax.first (Some sign) p) (bare-argument opened (syntax.first (Some sign) p) lawful) (λ is. never (no-sign (syntax.first (Some sign) p) h is))
    argument-walked opened (syntax.expression (syntax.more s sign p)) f frames fixed y rest stops h lawful =
        expression-walked f frames fixed y rest stops (syntax.more s sign p) (bare-argument opened (syntax.more s sign p) lawful) (λ is. never (no-sign (syntax.more s sign p) h is))

  nothing-left : (s : Reading) → W s [] ≡ Ok s
  unfolding walked
  nothing-left s = refl

  plain-nothing : Plain []
  plain-nothing = record { mark = refl; power = refl; by_name = refl }

  -- the pieces of a whole pattern
  pub pattern-walked : (s : syntax.Sum) → IsTrue (is_pattern s) → IsLawfulSum Pattern 0 s
      → walked names stands fields (at [] [] places.Product []) (pieces_of_sum s) ≡ (raws_of names fields [] s >>= (λ x. Ok (at [] (puts [] x.0) places.Product (kept x.1))))
  pattern-walked (syntax.first None p) h lawful =
      ap (W (in_a_product [] [] [])) (sym (append-nil (pieces_of_product links.First p)))
      ∙ product-walked 0 p links.First [] [] [] [] plain-nothing (and-left (has_pattern_factors p) (are_balanced (weights_of p)) h) lawful
      ∙ bind-same (trees.raws names fields [] p) (behind [] [] []) (λ x. Ok (at [] (puts [] x.0) places.Product (kept x.1))) (λ x. nothing-left (in_a_product [] (puts [] x.0) x.1))
  pattern-walked (syntax.first (Some sign) p) h lawful = cc
  pattern-walked (syntax.more s sign p) h lawful = cc
