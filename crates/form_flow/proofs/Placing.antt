-- The names of statements that were checked stand at their places.
use Rattle.std.proofs.Common.{◌≡◌, ℕ, Bool, true, false, List, [], ◌∷◌, ◌++◌, map, Option, Some, None, IfSome, option_and_then, option_map, refl, sym, ap, subst, ◌∙◌, rules}
use Rattle.std.specs.Prelude.{All}
use Rattle.std.specs.List.{AllByRecursion, flat_map}
use Rattle.std.proofs.lemmas.List.Elements.{All-head, All-tail, recursion_from_All}
use Rattle.form_base.specs.declared.block.Action.{the_lemmas}
use Rattle.form_base.specs.declared.block.Action.TheVariants as acting
use Rattle.form_base.specs.declared.block.Branch.{Branch}
use Rattle.form_base.specs.Statements.{in_last, in_row, leaves_of}
use Rattle.form_names.specs.declared.kind.Kind.{Kind}
use Rattle.form_names.specs.declared.kind.Kind.TheVariants as kinds
use Rattle.form_names.specs.Names.{Entry}
use Rattle.form_term.specs.declared.index.Index.{Index}
use Rattle.form_term.specs.declared.index.Index.TheVariants as indices
use Rattle.form_term.specs.Named.{Place, symbol_place, vector_place, index_place, function_place, word_place, IsIndexNamed}
use Rattle.form_term.proofs.Each.{at_back, each_append, each_map, each_weaker, in_front}
use Rattle.form_tree.specs.declared.pattern.Name.{Name}
use Rattle.form_tree.specs.declared.pattern.Name.TheVariants.{Itself, Wild}
use Rattle.form_tree.specs.declared.pattern.IndexName.{IndexName}
use Rattle.form_tree.specs.declared.pattern.IndexName.TheVariants as index_names
use Rattle.form_tree.specs.declared.pattern.Sort.{Sort}
use Rattle.form_tree.specs.declared.pattern.Sort.TheVariants as sorts
use Rattle.form_tree.specs.declared.pattern.PatternPiece.{PatternPiece}
use Rattle.form_tree.specs.declared.pattern.PatternPiece.TheVariants as of_pattern
use Rattle.form_tree.specs.declared.tree.Base.{Base}
use Rattle.form_tree.specs.declared.tree.Base.TheVariants as bases
use Rattle.form_tree.specs.declared.tree.Piece.{Piece}
use Rattle.form_tree.specs.declared.tree.Piece.TheVariants as pieces
use Rattle.form_tree.specs.Building.{sum_of}
use Rattle.form_tree.specs.Pattern.{pieces_of_factors}
use Rattle.form_tree.specs.PatternBuilding.{factors_of}
use Rattle.form_tree.specs.Patterns.{Pieces}
use Rattle.form_tree.specs.Placed.{place_of, places_of, place_of_sort, IsBasePlaced, IsPiecePlaced, IsSumPlaced, IsNameAt, IsIndexNamePlaced, IsPatternPiecePlaced, IsPatternPlaced}
use Rattle.form_tree.specs.Tree.{pieces_of_sum}
use Rattle.form_tree.proofs.Building as sums
use Rattle.form_tree.proofs.Factors as patterns
use Rattle.form_check.specs.declared.checked.CheckedLeaf.{CheckedLeaf}
use Rattle.form_check.specs.declared.checked.CheckedLeaf.TheVariants as checked
use Rattle.form_check.specs.declared.checked.Picked.{Picked}
use Rattle.form_check.specs.declared.checked.Rewriting.{Rewriting}
use Rattle.form_check.specs.Program.{CheckedStatement}
use Rattle.form_check.specs.Sound.{IsOfKind, IsIndexSound, IsBaseSound, IsPieceSound, IsRightSideSound, IsNameSound, IsIndexNameSound, IsAnySound, IsPatternPieceSound, IsPatternSound, IsRewritingSound, IsLeafSound, IsActionSound}
use Rattle.form_check.proofs.Induction.{InAll, InBranch, by_tree}
use Rattle.form_tree.specs.Conditions.{Parts}
use Rattle.form_flow.specs.declared.compiled.ReadyLeaf.{ReadyLeaf}
use Rattle.form_flow.specs.Making.{CheckedBranch, branch_of, compiled, ready_leaf, ready_of, ready_part}
use Rattle.form_flow.specs.Ready.{Choice}
use Rattle.form_flow.specs.Sound.{ArePlaced, IsLeafPlaced, IsPartPlaced}
use Rattle.form_flow.specs.Statement.{Chosen, Statement}
use Rattle.form_flow.proofs.Readying.{ready_plain, ready_repeat, ready_within, ready_choose}

module _ (names : List Entry) where
  -- ---- names

  at_place : (kind : Kind) (id : ℕ) → IsOfKind kind names id → places_of names id ≡ place_of kind
  at_place kind id h = ap (λ (o : Option Kind). option_and_then place_of o) h

  index_placed : (i : Index) → IsIndexSound names i → IsIndexNamed (places_of names) i
  index_placed (indices.Fixed n) h = tt
  index_placed (indices.Declared id) h = at_place (kinds.Index h.0) id h.1
  index_placed (indices.Dummy n) h = tt

  -- ---- right sides

  base_placed : (b : Base) → IsBaseSound names b → IsBasePlaced (places_of names) b
  base_placed (bases.Number value) h = tt
  base_placed (bases.Symbol id) h = at_place kinds.Symbol id h
  base_placed (bases.Wild id) h = at_place kinds.Symbol id h
  base_placed (bases.Dot p q) h = (at_place kinds.Vector p h.0, at_place kinds.Vector q h.1)
  base_placed bases.Imaginary h = tt
  base_placed (bases.Component c) h = (at_place kinds.Vector c.vector h.0, index_placed c.index h.1)
  base_placed (bases.Delta i j) h = (index_placed i h.0, index_placed j h.1)

  piece_placed : (stands : ℕ → Bool) (p : Piece) → IsPieceSound names stands p → IsPiecePlaced (places_of names) p
  piece_placed stands (pieces.Number link value power) h = tt
  piece_placed stands (pieces.Symbol link id power) h = at_place kinds.Symbol id h.0
  piece_placed stands (pieces.Wild link id is_over power) h = at_place kinds.Symbol id h.0
  piece_placed stands (pieces.Raised link base by) h = (base_placed base h.0, at_place kinds.Symbol by.symbol h.1)
  piece_placed stands (pieces.Stored link id power) h = tt
  piece_placed stands (pieces.Imaginary link power) h = tt
  piece_placed stands (pieces.Dot link p q power) h = (at_place kinds.Vector p h.0, at_place kinds.Vector q h.1)
  piece_placed stands (pieces.Component link c power) h = (at_place kinds.Vector c.vector h.0, index_placed c.index h.1)
  piece_placed stands (pieces.Delta link i j power) h = (index_placed i h.0, index_placed j h.1)
  piece_placed stands (pieces.Function link id true) h = at_place kinds.CommutingFunction id h
  piece_placed stands (pieces.Function link id false) h = at_place kinds.Function id h
  piece_placed stands (pieces.EndOfFunction power) h = tt
  piece_placed stands (pieces.EndOfRaisedFunction by) h = at_place kinds.Symbol by.symbol h
  piece_placed stands (pieces.Field w) h = tt
  piece_placed stands (pieces.Index i) h = index_placed i h
  piece_placed stands (pieces.Vector id) h = at_place kinds.Vector id h
  piece_placed stands pieces.Argument h = tt
  piece_placed stands pieces.EndOfArgument h = tt
  piece_placed stands (pieces.Open link) h = tt
  piece_placed stands (pieces.Close power) h = tt
  piece_placed stands (pieces.CloseRaised by) h = at_place kinds.Symbol by.symbol h

  pub side_placed : {stands : ℕ → Bool} (list : List Piece) → IsRightSideSound names stands list → IsSumPlaced (places_of names) (sum_of list)
  side_placed {stands} list h =
      let is : list ≡ pieces_of_sum (sum_of list) = h.pieces ∙ ap pieces_of_sum (sym (ap sum_of h.pieces ∙ sums.built h.tree)) in
      subst (AllByRecursion (IsPiecePlaced (places_of names))) is
      (each_weaker (IsPieceSound names stands) (IsPiecePlaced (places_of names)) (piece_placed stands) list (recursion_from_All (IsPieceSound names stands) list h.each))

  -- ---- patterns

  name_placed : (kind : Kind) (n : Name) → IsNameSound kind names n → (place : Place) → place_of kind ≡ Some place → IsNameAt place (places_of names) n
  name_placed kind (Itself id) h place e = at_place kind id h ∙ e
  name_placed kind (Wild id sets) h place e = at_place kind id h ∙ e

  index_name_placed : (i : IndexName) → IsIndexNameSound names i → IsIndexNamePlaced (places_of names) i
  index_name_placed (index_names.Fixed n) h = tt
  index_name_placed (index_names.Name n) h = name_placed (kinds.Index h.0) n h.1 index_place refl

  any_placed : (sort : Sort) (n : Name) → IsAnySound names sort n → IsNameAt (place_of_sort sort) (places_of names) n
  any_placed sorts.Expression n h = name_placed kinds.Symbol n h symbol_place refl
  any_placed sorts.Index n h = name_placed (kinds.Index h.0) n h.1 index_place refl
  any_placed sorts.Vector n h = name_placed kinds.Vector n h vector_place refl

  pattern_piece_placed : (p : PatternPiece) → IsPatternPieceSound names p → IsPatternPiecePlaced (places_of names) p
  pattern_piece_placed (of_pattern.Symbol n k) h = name_placed kinds.Symbol n h symbol_place refl
  pattern_piece_placed (of_pattern.Whole n m) h = (name_placed kinds.Symbol n h.0 symbol_place refl, name_placed kinds.Symbol m h.1 symbol_place refl)
  pattern_piece_placed (of_pattern.Dot p q k) h = (name_placed kinds.Vector p h.0 vector_place refl, name_placed kinds.Vector q h.1 vector_place refl)
  pattern_piece_placed (of_pattern.Component v i) h = (name_placed kinds.Vector v h.0 vector_place refl, index_name_placed i h.1)
  pattern_piece_placed (of_pattern.Delta i j) h = (index_name_placed i h.0, index_name_placed j h.1)
  pattern_piece_placed (of_pattern.Function n) h = name_placed kinds.CommutingFunction n h function_place refl
  pattern_piece_placed (of_pattern.Word count) h = tt
  pattern_piece_placed (of_pattern.Call n) h = name_placed kinds.Function n h word_place refl
  pattern_piece_placed of_pattern.EndOfArguments h = tt
  pattern_piece_placed of_pattern.EndOfWord h = tt
  pattern_piece_placed (of_pattern.Fixed k) h = tt
  pattern_piece_placed (of_pattern.Any sort n) h = any_placed sort n h
  pattern_piece_placed (of_pattern.Field w) h = tt
  pattern_piece_placed of_pattern.Product h = tt
  pattern_piece_placed of_pattern.EndOfProduct h = tt

  pattern_placed : (p : Pieces) → IsPatternSound names p → IsPatternPlaced (places_of names) (factors_of p.pieces)
  pattern_placed p h =
      let is : p.pieces ≡ pieces_of_factors (factors_of p.pieces) = h.pieces ∙ ap pieces_of_factors (sym (ap factors_of h.pieces ∙ patterns.built h.tree)) in
      subst (AllByRecursion (IsPatternPiecePlaced (places_of names))) is
      (each_weaker (IsPatternPieceSound names) (IsPatternPiecePlaced (places_of names)) pattern_piece_placed p.pieces (recursion_from_All (IsPatternPieceSound names) p.pieces h.each))

  -- ---- statements

  module _ (max : ℕ) where
    part_placed : (r : Rewriting) → IsRewritingSound names r → IsPartPlaced (places_of names) (ready_part max r)
    part_placed r h = (pattern_placed r.pattern h.pattern, side_placed r.right h.right)

    leaf_placed : (l : CheckedLeaf) → IsLeafSound names l → IsLeafPlaced (places_of names) (ready_leaf max l)
    leaf_placed (checked.Rewrite rs) h = each_map (IsRewritingSound names) (IsPartPlaced (places_of names)) (ready_part max) part_placed rs (recursion_from_All (IsRewritingSound names) rs h)
    leaf_placed (checked.Multiply side right) h = side_placed right h
    leaf_placed (checked.Sum ids) h = tt
    leaf_placed (checked.SumOver id ns) h = tt
    leaf_placed checked.Discard h = tt

    abbrev AreSound : List CheckedLeaf → Type 0
    AreSound ls = AllByRecursion (IsLeafSound names) ls

    abbrev Placed : List ReadyLeaf → Type 0
    Placed ls = AllByRecursion (IsLeafPlaced (places_of names)) ls

    abbrev IsSound : CheckedStatement → Type 0
    IsSound a = AreSound (leaves_of a)

    abbrev IsReady : CheckedStatement → Type 0
    IsReady a = Placed (leaves_of (ready_of max a))

    abbrev IsMade : CheckedStatement → Type 0
    IsMade a = IsSound a → IsReady a

    checked_plain : (l : CheckedLeaf) → leaves_of {L = CheckedLeaf} {C = Parts} {F = List Picked} (acting.Plain l) ≡ l ∷ []
    checked_plain l = search (rules, the_lemmas)

    checked_repeat : (b : List CheckedStatement) → leaves_of (acting.Repeat b) ≡ in_row (map leaves_of b)
    checked_repeat b = search (rules, the_lemmas)

    checked_within : (fs : List Picked) (b : List CheckedStatement) → leaves_of (acting.Within fs b) ≡ in_row (map leaves_of b)
    checked_within fs b = search (rules, the_lemmas)

    abbrev checked_branch : CheckedBranch → Branch Parts (List (List CheckedLeaf))
    checked_branch b = record { condition = b.condition; block = map leaves_of b.block }

    checked_choose : (bs : List CheckedBranch) (last : Option (List CheckedStatement))
        → leaves_of (acting.Choose bs last) ≡ flat_map (λ b. in_row b.block) (map checked_branch bs) ++ in_last (option_map (map leaves_of) last)
    checked_choose bs last = search (rules, the_lemmas)

    plain_leaves : (l : ReadyLeaf) → leaves_of {L = ReadyLeaf} {C = Choice} {F = List Picked} (acting.Plain l) ≡ l ∷ []
    plain_leaves l = search (rules, the_lemmas)

    repeat_leaves : (b : List Statement) → leaves_of (acting.Repeat b) ≡ in_row (map leaves_of b)
    repeat_leaves b = search (rules, the_lemmas)

    within_leaves : (fs : List Picked) (b : List Statement) → leaves_of (acting.Within fs b) ≡ in_row (map leaves_of b)
    within_leaves fs b = search (rules, the_lemmas)

    abbrev ready_branch_leaves : Chosen → Branch Choice (List (List ReadyLeaf))
    ready_branch_leaves b = record { condition = b.condition; block = map leaves_of b.block }

    choose_leaves : (bs : List Chosen) (last : Option (List Statement))
        → leaves_of (acting.Choose bs last) ≡ flat_map (λ b. in_row b.block) (map ready_branch_leaves bs) ++ in_last (option_map (map leaves_of) last)
    choose_leaves bs last = search (rules, the_lemmas)

    row_made : (b : List CheckedStatement) → All IsMade b → AreSound (in_row (map leaves_of b)) → Placed (in_row (map leaves_of (map (ready_of max) b)))
    row_made [] h k = tt
    row_made (a ∷ b) h k =
        each_append (IsLeafPlaced (places_of names)) (leaves_of (ready_of max a)) (in_row (map leaves_of (map (ready_of max) b)))
        (All-head IsMade a b h (in_front (IsLeafSound names) (leaves_of a) (in_row (map leaves_of b)) k))
        (row_made b (All-tail IsMade a b h) (at_back (IsLeafSound names) (leaves_of a) (in_row (map leaves_of b)) k))

    branches_made : (bs : List CheckedBranch) → All (InBranch IsMade) bs → AreSound (flat_map (λ b. in_row b.block) (map checked_branch bs)) → Placed (flat_map (λ b. in_row b.block) (map ready_branch_leaves (map (branch_of max) bs)))
    branches_made [] h k = tt
    branches_made (b ∷ bs) h k =
        let rest = flat_map (λ (c : Branch Parts (List (List CheckedLeaf))). in_row c.block) (map checked_branch bs) in
        let others = flat_map (λ (c : Branch Choice (List (List ReadyLeaf))). in_row c.block) (map ready_branch_leaves (map (branch_of max) bs)) in
        each_append (IsLeafPlaced (places_of names)) (in_row (map leaves_of (map (ready_of max) b.block))) others
        (row_made b.block (All-head (InBranch IsMade) b bs h) (in_front (IsLeafSound names) (in_row (map leaves_of b.block)) rest k))
        (branches_made bs (All-tail (InBranch IsMade) b bs h) (at_back (IsLeafSound names) (in_row (map leaves_of b.block)) rest k))

    last_made : (last : Option (List CheckedStatement)) → IfSome last (InAll IsMade) → AreSound (in_last (option_map (map leaves_of) last)) → Placed (in_last (option_map (map leaves_of) (option_map (map (ready_of max)) last)))
    last_made None h k = tt
    last_made (Some b) h k = row_made b h k

    plain_made : (l : CheckedLeaf) → IsSound (acting.Plain l) → IsReady (acting.Plain l)
    plain_made l h =
        let is = ap leaves_of (ready_plain max l) ∙ plain_leaves (ready_leaf max l) in
        subst Placed (sym is) (leaf_placed l (subst AreSound (checked_plain l) h).0, tt)

    repeat_made : (b : List CheckedStatement) → InAll IsMade b → IsSound (acting.Repeat b) → IsReady (acting.Repeat b)
    repeat_made b h k =
        let is = ap leaves_of (ready_repeat max b) ∙ repeat_leaves (map (ready_of max) b) in
        subst Placed (sym is) (row_made b h (subst AreSound (checked_repeat b) k))

    within_made : (fs : List Picked) (b : List CheckedStatement) → InAll IsMade b → IsSound (acting.Within fs b) → IsReady (acting.Within fs b)
    within_made fs b h k =
        let is = ap leaves_of (ready_within max fs b) ∙ within_leaves fs (map (ready_of max) b) in
        subst Placed (sym is) (row_made b h (subst AreSound (checked_within fs b) k))

    choose_made : (bs : List CheckedBranch) (last : Option (List CheckedStatement)) → All (InBranch IsMade) bs → IfSome last (InAll IsMade) → IsSound (acting.Choose bs last) → IsReady (acting.Choose bs last)
    choose_made bs last h g k =
        let is = ap leaves_of (ready_choose max bs last) ∙ choose_leaves (map (branch_of max) bs) (option_map (map (ready_of max)) last) in
        let front = flat_map (λ (c : Branch Parts (List (List CheckedLeaf))). in_row c.block) (map checked_branch bs) in
        let back = in_last (option_map (map leaves_of) last) in
        let all = subst AreSound (checked_choose bs last) k in
        subst Placed (sym is)
        (each_append (IsLeafPlaced (places_of names)) (flat_map (λ (c : Branch Choice (List (List ReadyLeaf))). in_row c.block) (map ready_branch_leaves (map (branch_of max) bs)))
        (in_last (option_map (map leaves_of) (option_map (map (ready_of max)) last)))
        (branches_made bs h (in_front (IsLeafSound names) front back all)) (last_made last g (at_back (IsLeafSound names) front back all)))

    statement_made : (a : CheckedStatement) → IsMade a
    statement_made = by_tree IsMade plain_made repeat_made choose_made within_made

    statements_made : (b : List CheckedStatement) → AllByRecursion (IsActionSound names) b → ArePlaced (places_of names) (map (ready_of max) b)
    statements_made [] h = tt
    statements_made (a ∷ b) h = (statement_made a (recursion_from_All (IsLeafSound names) (leaves_of a) h.0.leaves), statements_made b h.1)

  pub checked_placed : (terms turns : ℕ) (b : List CheckedStatement) → All (IsActionSound names) b → ArePlaced (places_of names) (compiled terms turns b).statements
  checked_placed terms turns b h = statements_made terms b (recursion_from_All (IsActionSound names) b h)
