-- A program that is checked is sound.
use Rattle.std.proofs.Common.{◌≡◌, inl, inr, ℕ, length, Bool, List, [], ◌∷◌, ◌++◌, All, Some, Result, Ok, sym, subst, append_assoc, if◌then◌else◌}
use Rattle.std.proofs.lemmas.List.{append-nil}
use Rattle.std.proofs.lemmas.List.Elements.{All-nil, All-head, All-tail, All-push, All-weaker}
use Rattle.form_names.specs.declared.kind.Kind.{Kind}
use Rattle.form_names.specs.declared.kind.Kind.TheVariants.{Symbol, Vector, Function, CommutingFunction, Expression, Set}
use Rattle.form_names.specs.declared.kind.Kind.TheVariants as kinds
use Rattle.form_term.specs.declared.index.Index.{Index}
use Rattle.form_term.specs.declared.index.Index.TheVariants as indices
use Rattle.form_names.specs.Names.{Entry, lookup, kind_at}
use Rattle.form_ast.specs.declared.expr.Spelled.{Spelled}
use Rattle.form_ast.specs.declared.expr.Expr.{Expr}
use Rattle.form_ast.specs.declared.module.ModulePart.{ModulePart}
use Rattle.form_ast.specs.declared.module.ModulePart.TheVariants as parts
use Rattle.form_ast.specs.declared.module.Outer.{Outer}
use Rattle.form_ast.specs.declared.module.Outer.TheVariants as written
use Rattle.form_ast.specs.declared.module.PlacedPart.{PlacedPart}
use Rattle.form_ast.specs.Lawful.{AreLawful, IsLawfulAction, IsLawfulPart, IsLawfulStatement, IsLawfulModule, AreLawfulModules}
use Rattle.form_ast.specs.Written.{WrittenAction, outer_written, part_written}
use Rattle.form_ast.proofs.Holding.{lawful_parts}
use Rattle.form_tree.specs.declared.tree.Piece.{Piece}
use Rattle.form_tree.specs.declared.tree.Piece.TheVariants as pieces
use Rattle.form_tree.specs.declared.tree.Base.{Base}
use Rattle.form_tree.specs.declared.tree.Base.TheVariants as bases
use Rattle.form_tree.specs.declared.pattern.Name.{Name}
use Rattle.form_tree.specs.declared.pattern.Name.TheVariants.{Itself, Wild}
use Rattle.form_tree.specs.declared.pattern.IndexName.{IndexName}
use Rattle.form_tree.specs.declared.pattern.IndexName.TheVariants as index_names
use Rattle.form_tree.specs.declared.pattern.Sort.{Sort}
use Rattle.form_tree.specs.declared.pattern.Sort.TheVariants as sorts
use Rattle.form_tree.specs.declared.pattern.PatternPiece.{PatternPiece}
use Rattle.form_tree.specs.declared.pattern.PatternPiece.TheVariants as of_pattern
use Rattle.form_tree.specs.Conditions.{Parts}
use Rattle.form_tree.specs.Patterns.{Pieces}
use Rattle.form_base.specs.Condition.{values_of}
use Rattle.form_tree.specs.declared.condition.Counted.{Counted}
use Rattle.form_tree.specs.declared.condition.Counted.TheVariants as counts
use Rattle.form_tree.specs.declared.condition.Value.{Value}
use Rattle.form_tree.specs.declared.condition.Value.TheVariants as values
use Rattle.form_check.specs.declared.checked.Checked.{Checked}
use Rattle.form_check.specs.declared.checked.Checked.TheVariants.{Drop, Skip, Local, Print}
use Rattle.form_check.specs.declared.checked.CheckedLeaf.{CheckedLeaf}
use Rattle.form_check.specs.declared.checked.CheckedLeaf.TheVariants as leaves
use Rattle.form_check.specs.declared.checked.Picked.{Picked}
use Rattle.form_base.specs.Statements.{choices_of, conditions_of, leaves_of}
use Rattle.form_check.specs.Acting.{action}
use Rattle.form_check.specs.declared.checked.Rewriting.{Rewriting}
use Rattle.form_check.specs.declared.checked.Selection.{Selection}
use Rattle.form_check.specs.declared.checked.Selection.TheVariants as selections
use Rattle.form_check.specs.Checking.{State, start, ended, with_statement, declared, named, kind_declared, dimension, index, expression, expressions, expression_of, selection, set, definition, with_action, outer, acted, by_form, part, class_of, is_defined_again, module_checked, program}
use Rattle.form_right_side.specs.Refusal.{Refusal, ◌>>=◌, each}
use Rattle.form_right_side.specs.RightSide.{nothing_known, found, none_stands, right_side}
use Rattle.form_check.specs.Checker.{Keeps}
use Rattle.form_ast.specs.Building.{tree_of}
use Rattle.form_ast.specs.Syntax as syntax
use Rattle.form_check.specs.Program.{CheckedStatement, Module, Program}
use Rattle.form_check.specs.Sound.{IsOfKind, IsIndexSound, IsBaseSound, IsPieceSound, IsNameSound, IsIndexNameSound, IsAnySound, IsPatternPieceSound, IsFixedSound, IsPatternSound, IsRewritingSound, IsRightSideSound, IsSelectionSound, IsIndexNamed, IsFunctionNamed, IsPickedSound, IsCountedSound, IsValueSound, IsConditionSound, IsStatementSound, IsLeafSound, AreAllPickedSound, IsActionSound, IsModuleSound, AreModulesSound, IsSound}
use Rattle.form_check.specs.Standing.{stands}
use Rattle.form_right_side.proofs.Binding.{bind-Ok, else-Ok, ok_same}
use Rattle.form_check.proofs.Growing.{declared-Ok, named-keeps, index-keeps, set-keeps, all-keep}
use Rattle.form_check.proofs.Pieces.{found-sound}
use Rattle.form_check.proofs.TreeSound.{action-sound, right_side-Ok}
use Rattle.form_check.proofs.Lists.{listed-All}

-- ---- names that are added change nothing

module _ (old new : List Entry) (grows : Keeps old new) where
  index-grows : (i : Index) → IsIndexSound old i → IsIndexSound new i
  index-grows (indices.Fixed n) h = h
  index-grows (indices.Declared id) h = (h.0, grows id (kinds.Index h.0) h.1)
  index-grows (indices.Dummy n) h = h

  base-grows : (b : Base) → IsBaseSound old b → IsBaseSound new b
  base-grows (bases.Number value) h = h
  base-grows (bases.Symbol id) h = grows id Symbol h
  base-grows (bases.Wild id) h = grows id Symbol h
  base-grows (bases.Dot left right) h = (grows left Vector h.0, grows right Vector h.1)
  base-grows bases.Imaginary h = h
  base-grows (bases.Component c) h = (grows c.vector Vector h.0, index-grows c.index h.1)
  base-grows (bases.Delta i j) h = (index-grows i h.0, index-grows j h.1)

  piece-grows : (standing : ℕ → Bool) (p : Piece) → IsPieceSound old standing p → IsPieceSound new standing p
  piece-grows standing (pieces.Number link value power) h = h
  piece-grows standing (pieces.Symbol link id power) h = (grows id Symbol h.0, h.1)
  piece-grows standing (pieces.Wild link id is_over power) h = (grows id Symbol h.0, h.1)
  piece-grows standing (pieces.Raised link base by) h = (base-grows base h.0, grows by.symbol Symbol h.1)
  piece-grows standing (pieces.Stored link id power) h = (grows id Expression h.0, h.1, h.2)
  piece-grows standing (pieces.Imaginary link power) h = h
  piece-grows standing (pieces.Dot link left right power) h = (grows left Vector h.0, grows right Vector h.1, h.2)
  piece-grows standing (pieces.Component link c power) h = (grows c.vector Vector h.0, index-grows c.index h.1, h.2)
  piece-grows standing (pieces.Delta link i j power) h = (index-grows i h.0, index-grows j h.1, h.2)
  piece-grows standing (pieces.Function link id is_commuting) h = grows id (if is_commuting then CommutingFunction else Function) h
  piece-grows standing (pieces.EndOfFunction power) h = h
  piece-grows standing (pieces.EndOfRaisedFunction by) h = grows by.symbol Symbol h
  piece-grows standing (pieces.Field w) h = h
  piece-grows standing (pieces.Index i) h = index-grows i h
  piece-grows standing (pieces.Vector id) h = grows id Vector h
  piece-grows standing pieces.Argument h = h
  piece-grows standing pieces.EndOfArgument h = h
  piece-grows standing (pieces.Open link) h = h
  piece-grows standing (pieces.Close power) h = h
  piece-grows standing (pieces.CloseRaised by) h = grows by.symbol Symbol h

  selection-grows : (which : Selection) → IsSelectionSound old which → IsSelectionSound new which
  selection-grows selections.All h = h
  selection-grows (selections.Named ids) h =
      All-weaker (IsOfKind Expression old) (IsOfKind Expression new) (λ id k. grows id Expression k) ids h

  right_side-grows : (standing : ℕ → Bool) (list : List Piece) → IsRightSideSound old standing list → IsRightSideSound new standing list
  right_side-grows standing list h = record {
    tree = h.tree;
    pieces = h.pieces;
    each = All-weaker (IsPieceSound old standing) (IsPieceSound new standing) (piece-grows standing) list h.each;
  }

  name-grows : (kind : Kind) (n : Name) → IsNameSound kind old n → IsNameSound kind new n
  name-grows kind (Itself id) h = grows id kind h
  name-grows kind (Wild id sets) h = grows id kind h

  index-name-grows : (i : IndexName) → IsIndexNameSound old i → IsIndexNameSound new i
  index-name-grows (index_names.Fixed n) h = h
  index-name-grows (index_names.Name n) h = (h.0, name-grows (kinds.Index h.0) n h.1)

  any-grows : (sort : Sort) (n : Name) → IsAnySound old sort n → IsAnySound new sort n
  any-grows sorts.Expression n h = name-grows Symbol n h
  any-grows sorts.Index n h = (h.0, name-grows (kinds.Index h.0) n h.1)
  any-grows sorts.Vector n h = name-grows Vector n h

  pattern-piece-grows : (p : PatternPiece) → IsPatternPieceSound old p → IsPatternPieceSound new p
  pattern-piece-grows (of_pattern.Symbol n k) h = name-grows Symbol n h
  pattern-piece-grows (of_pattern.Whole n m) h = (name-grows Symbol n h.0, name-grows Symbol m h.1)
  pattern-piece-grows (of_pattern.Dot p q k) h = (name-grows Vector p h.0, name-grows Vector q h.1)
  pattern-piece-grows (of_pattern.Component v i) h = (name-grows Vector v h.0, index-name-grows i h.1)
  pattern-piece-grows (of_pattern.Delta i j) h = (index-name-grows i h.0, index-name-grows j h.1)
  pattern-piece-grows (of_pattern.Function n) h = name-grows CommutingFunction n h
  pattern-piece-grows (of_pattern.Word count) h = h
  pattern-piece-grows (of_pattern.Call n) h = name-grows Function n h
  pattern-piece-grows of_pattern.EndOfArguments h = h
  pattern-piece-grows of_pattern.EndOfWord h = h
  pattern-piece-grows (of_pattern.Fixed k) h = h
  pattern-piece-grows (of_pattern.Any sort n) h = any-grows sort n h
  pattern-piece-grows (of_pattern.Field w) h = h
  pattern-piece-grows of_pattern.Product h = h
  pattern-piece-grows of_pattern.EndOfProduct h = h

  fixed-grows : (list : List Piece) → IsFixedSound old list → IsFixedSound new list
  fixed-grows list h = record {
    tree = h.tree;
    pieces = h.pieces;
    each = All-weaker (IsPieceSound old none_stands) (IsPieceSound new none_stands) (piece-grows none_stands) list h.each;
  }

  pattern-grows : (p : Pieces) → IsPatternSound old p → IsPatternSound new p
  pattern-grows p h = record {
    tree = h.tree;
    pieces = h.pieces;
    each = All-weaker (IsPatternPieceSound old) (IsPatternPieceSound new) pattern-piece-grows p.pieces h.each;
    fixed = All-weaker (IsFixedSound old) (IsFixedSound new) fixed-grows p.fixed h.fixed;
  }

  rewriting-grows : (r : Rewriting) → IsRewritingSound old r → IsRewritingSound new r
  rewriting-grows r h = record {
    pattern = pattern-grows r.pattern h.pattern;
    right = right_side-grows none_stands r.right h.right;
  }

  indices-grow : (ids : List ℕ) → All (IsIndexNamed old) ids → All (IsIndexNamed new) ids
  indices-grow ids h = All-weaker (IsIndexNamed old) (IsIndexNamed new) (λ id k. (k.0, grows id (kinds.Index k.0) k.1)) ids h

  function-grows : (id : ℕ) → IsFunctionNamed old id → IsFunctionNamed new id
  function-grows id (inl h) = inl (grows id Function h)
  function-grows id (inr h) = inr (grows id CommutingFunction h)

  picked-grows : (p : Picked) → IsPickedSound old p → IsPickedSound new p
  picked-grows p h = record { function = function-grows p.function h.function; numbers = h.numbers }

  counted-grows : (c : Counted) → IsCountedSound old c → IsCountedSound new c
  counted-grows (counts.Symbol id) h = grows id Symbol h
  counted-grows (counts.Vector id) h = grows id Vector h
  counted-grows (counts.Function id) h = function-grows id h

  value-grows : (count : ℕ) (v : Value) → IsValueSound old count v → IsValueSound new count v
  value-grows count (values.Number f) h = tt
  value-grows count values.Coefficient h = tt
  value-grows count (values.Count ws) h = All-weaker (λ w. IsCountedSound old w.counted) (λ w. IsCountedSound new w.counted) (λ w k. counted-grows w.counted k) ws h
  value-grows count (values.Match k) h = h
  value-grows count (values.Occurs ids) h = tt

  condition-grows : (c : Parts) → IsConditionSound old c → IsConditionSound new c
  condition-grows c h = record {
    values = All-weaker (IsValueSound old (length c.patterns)) (IsValueSound new (length c.patterns)) (value-grows (length c.patterns)) (values_of c.alternatives) h.values;
    patterns = All-weaker (IsPatternSound old) (IsPatternSound new) pattern-grows c.patterns h.patterns;
  }

  statement-grows : (standing : ℕ → Bool) (s : Checked) → IsStatementSound old standing s → IsStatementSound new standing s
  statement-grows standing (Drop which) h = selection-grows which h
  statement-grows standing (Skip which) h = selection-grows which h
  statement-grows standing (Local id right) h = (grows id Expression h.0, right_side-grows standing right h.1)
  statement-grows standing (Print which) h = selection-grows which h

  leaf-grows : (l : CheckedLeaf) → IsLeafSound old l → IsLeafSound new l
  leaf-grows (leaves.Rewrite rs) h = All-weaker (IsRewritingSound old) (IsRewritingSound new) rewriting-grows rs h
  leaf-grows (leaves.Multiply side right) h = right_side-grows none_stands right h
  leaf-grows (leaves.Sum ids) h = indices-grow ids h
  leaf-grows (leaves.SumOver id values) h = ((h.0.0, grows id (kinds.Index h.0.0) h.0.1), h.1)
  leaf-grows leaves.Discard h = tt

  choice-grows : (functions : List Picked) → AreAllPickedSound old functions → AreAllPickedSound new functions
  choice-grows functions h = All-weaker (IsPickedSound old) (IsPickedSound new) picked-grows functions h

  action-grows : (a : CheckedStatement) → IsActionSound old a → IsActionSound new a
  action-grows a h = record {
    leaves = All-weaker (IsLeafSound old) (IsLeafSound new) leaf-grows (leaves_of a) h.leaves;
    conditions = All-weaker (IsConditionSound old) (IsConditionSound new) condition-grows (conditions_of a) h.conditions;
    choices = All-weaker (AreAllPickedSound old) (AreAllPickedSound new) choice-grows (choices_of a) h.choices;
  }

  statements-grow : (standing : ℕ → Bool) (list : List Checked) → All (IsStatementSound old standing) list → All (IsStatementSound new standing) list
  statements-grow standing list h = All-weaker (IsStatementSound old standing) (IsStatementSound new standing) (statement-grows standing) list h

  actions-grow : (list : List CheckedStatement) → All (IsActionSound old) list → All (IsActionSound new) list
  actions-grow list h = All-weaker (IsActionSound old) (IsActionSound new) action-grows list h

  modules-grow : (earlier later : List Module) → AreModulesSound old earlier later → AreModulesSound new earlier later
  modules-grow earlier [] h = h
  modules-grow earlier (m ∷ rest) h =
      (record { statements = statements-grow (stands earlier) m.statements h.0.statements; actions = actions-grow m.actions h.0.actions }, modules-grow (earlier ++ m ∷ []) rest h.1)

-- one more module
modules-push : (names : List Entry) (earlier later : List Module) (m : Module) → AreModulesSound names earlier later → IsModuleSound names (earlier ++ later) m → AreModulesSound names earlier (later ++ m ∷ [])
modules-push names earlier [] m h sound = (subst (λ (before : List Module). IsModuleSound names before m) (append-nil earlier) sound, tt)
modules-push names earlier (first ∷ rest) m h sound =
    (h.0, modules-push names (earlier ++ first ∷ []) rest m h.1 (subst (λ (before : List Module). IsModuleSound names before m) (sym (append_assoc earlier (first ∷ []) rest)) sound))

-- ---- what is made is sound

kind-Ok : (names : List Entry) (spelled : Spelled) (place id : ℕ) (kind : Kind) → kind_at names place ≡ Some kind → expression_of spelled place kind ≡ Ok id → IsOfKind Expression names id
kind-Ok names spelled place id Symbol at is = cc
kind-Ok names spelled place id Vector at is = cc
kind-Ok names spelled place id (kinds.Index d) at is = cc
kind-Ok names spelled place id Function at is = cc
kind-Ok names spelled place id CommutingFunction at is = cc
kind-Ok names spelled place id Set at is = cc
kind-Ok names spelled place id Expression at is =
    subst (λ (i : ℕ). kind_at names i ≡ Some Expression) (ok_same is) at

place-Ok : (names : List Entry) (spelled : Spelled) (id : ℕ) → expression names spelled ≡ Ok id → IsOfKind Expression names id
place-Ok names spelled id is =
    let f = bind-Ok (found names spelled) (λ f. expression_of spelled f.id f.kind) id is in
    kind-Ok names spelled f.0.id id f.0.kind (found-sound names none_stands spelled f.0 f.1) f.2

selection-Ok : (names : List Entry) (list : List Spelled) (which : Selection) → selection names list ≡ Ok which → IsSelectionSound names which
selection-Ok names [] which is = subst (IsSelectionSound names) (ok_same is) tt
selection-Ok names (first ∷ rest) which is =
    let found = bind-Ok (expressions names (first ∷ rest)) (λ ids. Ok (selections.Named ids)) which is in
    subst (IsSelectionSound names) (ok_same found.2) (listed-All (expression names) (IsOfKind Expression names) (λ s id e. place-Ok names s id e) (first ∷ rest) found.0 found.1)

-- ---- states

record IsStateSound (s : State) : Type 0 where
  earlier : AreModulesSound s.names [] s.earlier
  statements : All (IsStatementSound s.names (stands s.earlier)) s.statements
  actions : All (IsActionSound s.names) s.actions

-- the names of a state grow
names-grow : (s : State) (names : List Entry) → Keeps s.names names → IsStateSound s → IsStateSound (record s { names = names })
names-grow s names grows h = record {
  earlier = modules-grow s.names names grows [] s.earlier h.earlier;
  statements = statements-grow s.names names grows (stands s.earlier) s.statements h.statements;
  actions = actions-grow s.names names grows s.actions h.actions;
}

pushed : (s : State) (more : Checked) → IsStatementSound s.names (stands s.earlier) more → IsStateSound s → IsStateSound (with_statement s more)
pushed s more is h = record {
  earlier = h.earlier;
  statements = All-push (IsStatementSound s.names (stands s.earlier)) s.statements more h.statements is;
  actions = h.actions;
}

selected : (s t : State) (list : List Spelled) (made : Selection → Checked) → ((which : Selection) → IsSelectionSound s.names which → IsStatementSound s.names (stands s.earlier) (made which)) → (selection s.names list >>= (λ which. Ok (with_statement s (made which)))) ≡ Ok t → IsStateSound s → IsStateSound t
selected s t list made holds is h =
    let found = bind-Ok (selection s.names list) (λ which. Ok (with_statement s (made which))) t is in
    subst IsStateSound (ok_same found.2) (pushed s (made found.0) (holds found.0 (selection-Ok s.names list found.0 found.1)) h)

-- where each tree is found again from its pieces
module _ (law : (tree : syntax.Sum) → tree_of (syntax.pieces_of_sum tree) ≡ Some tree) where
  defined : (s t : State) (spelled : Spelled) (right : Expr) → AreLawful right → definition s spelled right ≡ Ok t → IsStateSound s → IsStateSound t
  defined s t spelled right lawful is h =
      let new = else-Ok (is_defined_again s (lookup s.names spelled.name)) (declared s.names spelled Expression >>= (λ d. right_side d.1 (stands s.earlier) nothing_known right >>= (λ list. Ok (with_statement (record s { names = d.1 }) (Local d.0 list))))) _ _ t is in
      let made = bind-Ok (declared s.names spelled Expression) (λ d. right_side d.1 (stands s.earlier) nothing_known right >>= (λ list. Ok (with_statement (record s { names = d.1 }) (Local d.0 list)))) t new.1 in
      let names : List Entry = made.0.1 in
      let list = bind-Ok (right_side names (stands s.earlier) nothing_known right) (λ list. Ok (with_statement (record s { names = names }) (Local made.0.0 list))) t made.2 in
      let declares = declared-Ok s.names spelled Expression made.0 made.1 in
      subst IsStateSound (ok_same list.2) (pushed (record s { names = names }) (Local made.0.0 list.0) (declares.stands, right_side-Ok law names (stands s.earlier) nothing_known right lawful.tree list.0 lawful.pieces list.1) (names-grow s names declares.grows h))

  formed : (s t : State) (form : Outer) → IsLawfulStatement (outer_written form) → outer s form ≡ Ok t → IsStateSound s → IsStateSound t
  formed s t (written.Names declared list) lawful is h =
      let found = bind-Ok (each (named (kind_declared declared)) s.names list) (λ names. Ok (record s { names = names })) t is in
      subst IsStateSound (ok_same found.2) (names-grow s found.0 (all-keep (named (kind_declared declared)) (named-keeps (kind_declared declared)) list s.names found.0 found.1) h)
  formed s t (written.Indices list) lawful is h =
      let found = bind-Ok (each (index s.dimension) s.names list) (λ names. Ok (record s { names = names })) t is in
      subst IsStateSound (ok_same found.2) (names-grow s found.0 (all-keep (index s.dimension) (index-keeps s.dimension) list s.names found.0 found.1) h)
  formed s t (written.Dimension d) lawful is h =
      let found = bind-Ok (dimension s.names d) (λ holds. Ok (record s { dimension = holds })) t is in
      subst IsStateSound (ok_same found.2) (record { earlier = h.earlier; statements = h.statements; actions = h.actions })
  formed s t (written.Set name es) lawful is h =
      let found = bind-Ok (set s.names name es) (λ names. Ok (record s { names = names })) t is in
      subst IsStateSound (ok_same found.2) (names-grow s found.0 (set-keeps s.names found.0 name es found.1) h)
  formed s t written.Statistics lawful is h = subst IsStateSound (ok_same is) h
  formed s t (written.Drop list) lawful is h = selected s t list Drop (λ which k. k) is h
  formed s t (written.Skip list) lawful is h = selected s t list Skip (λ which k. k) is h
  formed s t (written.Local spelled right) lawful is h = defined s t spelled right lawful is h
  formed s t (written.Print list) lawful is h = selected s t list Print (λ which k. k) is h

  -- one that is carried out on terms
  has_acted : (s t : State) (a : WrittenAction) → IsLawfulAction a → acted s a ≡ Ok t → IsStateSound s → IsStateSound t
  has_acted s t a lawful is h =
      let made = bind-Ok (action s.names a) (λ made. Ok (with_action s made)) t is in
      subst IsStateSound (ok_same made.2) (record {
        earlier = h.earlier;
        statements = h.statements;
        actions = All-push (IsActionSound s.names) s.actions made.0 h.actions (action-sound law s.names a made.0 lawful made.1);
      })

  by_part : (s t : State) (p : ModulePart) → All IsLawfulStatement (part_written p) → by_form s p ≡ Ok t → IsStateSound s → IsStateSound t
  by_part s t (parts.Outer o) lawful is h = formed s t o (All-head IsLawfulStatement (outer_written o) [] lawful) is h
  by_part s t (parts.Action a) lawful is h = has_acted s t a lawful is h

  stated : (s t : State) (placed : PlacedPart) → IsLawfulPart placed → part s placed ≡ Ok t → IsStateSound s → IsStateSound t
  stated s t placed lawful is h =
      let in_order = else-Ok _ (by_form (record s { class = class_of placed.part }) placed.part) _ _ t is in
      by_part (record s { class = class_of placed.part }) t placed.part lawful in_order.1 (record { earlier = h.earlier; statements = h.statements; actions = h.actions })

  -- what each step keeps is kept by all
  each-keeps : {S X : Type 0} (step : S → X → Result S Refusal) (P : S → Type 0) (Q : X → Type 0) → ((s t : S) (x : X) → Q x → step s x ≡ Ok t → P s → P t) → (s t : S) (xs : List X) → All Q xs → each step s xs ≡ Ok t → P s → P t
  each-keeps step P Q keeps s t [] all is h = subst P (ok_same is) h
  each-keeps step P Q keeps s t (x ∷ xs) all is h =
      let first = bind-Ok (step s x) (λ next. each step next xs) t is in
      each-keeps step P Q keeps first.0 t xs (All-tail Q x xs all) first.2 (keeps s first.0 x (All-head Q x xs all) first.1 h)

  closed : (s t : State) (list : List PlacedPart) → IsLawfulModule list → module_checked s list ≡ Ok t → IsStateSound s → IsStateSound t
  closed s t list lawful is h =
      let after = bind-Ok (each part s list) (λ next. Ok (ended next)) t is in
      let sound = each-keeps part IsStateSound IsLawfulPart stated s after.0 list (lawful_parts list lawful) after.1 h in
      let m : Module = record { statements = after.0.statements; actions = after.0.actions } in
      subst IsStateSound (ok_same after.2) (record {
        earlier = modules-push after.0.names [] after.0.earlier m sound.earlier (record { statements = sound.statements; actions = sound.actions });
        statements = All-nil (IsStatementSound after.0.names (stands (after.0.earlier ++ m ∷ [])));
        actions = All-nil (IsActionSound after.0.names);
      })

  pub sound : (modules : List (List PlacedPart)) (s : State) → AreLawfulModules modules → each module_checked start modules ≡ Ok s → AreModulesSound s.names [] s.earlier
  sound modules s lawful is =
      let all = each-keeps module_checked IsStateSound IsLawfulModule closed start s modules lawful is (record { earlier = tt; statements = All-nil (IsStatementSound [] (stands [])); actions = All-nil (IsActionSound []) }) in
      all.earlier

  pub checked_is_sound : (modules : List (List PlacedPart)) (checked : Program) → AreLawfulModules modules → program modules ≡ Ok checked → IsSound checked
  checked_is_sound modules checked lawful is =
      let state = bind-Ok (each module_checked start modules) (λ s. Ok (record { names = s.names; modules = s.earlier })) checked is in
      subst IsSound (ok_same state.2) (sound modules state.0 lawful state.1)
