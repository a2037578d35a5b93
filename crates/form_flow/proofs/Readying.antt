-- Statements made ready.
use Rattle.std.proofs.Common.{◌≡◌, ℕ, ◌+◌, ◌<◌, List, [], ◌∷◌, ◌++◌, Option, Some, None, Vec, Global, length, get_or, map, option_map, take, refl, sym, ap, subst, ◌∙◌, rules}
use Rattle.std.specs.Prelude.{All, IfSome, flat_map}
use Rattle.std.proofs.lemmas.List.{map-append, map_more}
use Rattle.std.proofs.lemmas.List.Elements.{All-nil, All-cons, All-head, All-tail, All-map, All-weaker}
use Rattle.form_base.specs.declared.block.Action.{the_lemmas}
use Rattle.form_base.specs.declared.block.Action.TheVariants as acting
use Rattle.form_base.specs.declared.block.Branch.{Branch}
use Rattle.form_base.specs.Statements.{conditions_of, in_last, in_row, leaves_of}
use Rattle.form_base.specs.declared.taking.Taking.{Taking}
use Rattle.form_term.specs.declared.monomial.Monomial.{Monomial}
use Rattle.form_term.specs.declared.piece.Piece as keeping
use Rattle.form_term.specs.Term.{Call}
use Rattle.form_tree.specs.Building.{argument_of, sum_of}
use Rattle.form_tree.specs.Condition.{Alternatives}
use Rattle.form_tree.specs.Conditions.{Parts}
use Rattle.form_tree.specs.declared.tree.Piece.{Piece}
use Rattle.form_tree.specs.declared.pattern.PatternPiece.{PatternPiece}
use Rattle.form_tree.specs.Pattern.{pieces_of_factors}
use Rattle.form_tree.specs.PatternBuilding.{factors_of}
use Rattle.form_tree.specs.Patterns.{Pieces}
use Rattle.form_tree.specs.Tree.{Argument, Sum, pieces_of_sum}
use Rattle.form_tree.proofs.Building as sums
use Rattle.form_tree.proofs.Factors as patterns
use Rattle.form_match.specs.Ready.{ReadyPattern, ready}
use Rattle.form_cond.specs.Condition.{Ready, kept}
use Rattle.form_expand.specs.Alone.{pieces_unless_refused}
use Rattle.form_expand.specs.Expanding.{arguments_in, list_of_sum}
use Rattle.form_expand.specs.Meanings.{Meanings, no_meanings}
use Rattle.form_expand.specs.Walks.{all_of}
use Rattle.form_check.specs.declared.checked.CheckedLeaf.{CheckedLeaf}
use Rattle.form_check.specs.declared.checked.Picked.{Picked}
use Rattle.form_check.specs.declared.checked.Rewriting.{Rewriting}
use Rattle.form_check.specs.Program.{CheckedStatement}
use Rattle.form_flow.specs.declared.compiled.ReadyLeaf.{ReadyLeaf}
use Rattle.form_flow.specs.Making.{CheckedBranch, HasAllTrees, HasArgument, HasBranchTrees, HasLeafTrees, HasPattern, HasPatterns, HasTree, branch_of, entry_of, ready_branch, ready_choice, ready_leaf, ready_of, ready_part, ready_pattern, table_of, tried}
use Rattle.form_flow.specs.Ready.{Choice, IsBuilt, IsListOf, Part, kept_of, part_in, pattern_in}
use Rattle.form_flow.specs.Statement.{Chosen, Statement}

-- ---- right sides and patterns

-- the pieces of a tree are those of the tree that is built of them
pub is_built : (ps qs : List Piece) → qs ≡ ps → HasTree ps → qs ≡ pieces_of_sum (sum_of qs)
is_built ps qs same tree =
    let is : qs ≡ pieces_of_sum tree.0 = same ∙ tree.1 in
    is ∙ ap pieces_of_sum (sym (ap sum_of is ∙ sums.built tree.0))

-- a list that is kept, within this limit
pub kept_within : (max own : ℕ) (s t : Sum) (fixed : Option (Vec Monomial Global)) (list : Vec Monomial Global) (terms : List Monomial)
    → max ≡ own → s ≡ t → fixed ≡ Some list → terms ≡ list.items → IsListOf own s fixed → list_of_sum max no_meanings t ≡ all_of terms
kept_within max own s t fixed list terms same is some items kept =
    let whole : list_of_sum own no_meanings s ≡ all_of list.items = subst (λ (o : Option (Vec Monomial Global)). IsListOf own s o) some kept in
    ap (λ n. list_of_sum n no_meanings t) same ∙ ap (list_of_sum own no_meanings) (sym is) ∙ whole ∙ ap all_of (sym items)

pub is_pattern : (max : ℕ) (p : Pieces) → HasPattern p → IsBuilt (tried max p)
is_pattern max p h = h.0.1 ∙ ap pieces_of_factors (sym (ap factors_of h.0.1 ∙ patterns.built h.0.0))

pub are_patterns : (max : ℕ) (ps : List Pieces) → All HasPattern ps → All IsBuilt (map (tried max) ps)
are_patterns max ps h = All-map IsBuilt (tried max) ps (All-weaker HasPattern (λ p. IsBuilt (tried max p)) (λ p one. is_pattern max p one) ps h)

abbrev with_pieces : List (Option (List keeping.Piece)) → List PatternPiece → ReadyPattern
with_pieces fixed ps = record { pieces = ps; fixed = fixed }

-- a pattern is kept as it is tried
pub pattern_kept : (option : Option Taking) (p : ReadyPattern) (right : Sum) (part : Part) → IsBuilt p → part_in option p right ≡ part → p ≡ kept_of part
pattern_kept option p right part built is = ap (with_pieces p.fixed) built ∙ ap kept_of is

pub all_kept : (ps : List ReadyPattern) → All IsBuilt ps → ps ≡ map kept (map pattern_in ps)
all_kept [] h = refl
all_kept (p ∷ ps) h =
    ap (λ qs. with_pieces p.fixed qs ∷ ps) (All-head IsBuilt p ps h)
    ∙ ap (λ rest. kept (pattern_in p) ∷ rest) (all_kept ps (All-tail IsBuilt p ps h))

-- ---- arguments without wildcards

abbrev pub pieces_kept : Option Call → Option (List keeping.Piece)
pieces_kept call = option_map (λ c. c.pieces) call

pub argument_is : (max : ℕ) (names : Meanings) (ps : List Piece) (h : HasArgument ps) → names ≡ no_meanings → pieces_unless_refused (arguments_in max names h.0) ≡ entry_of max ps
argument_is max names ps h same =
    ap (λ (ms : Meanings). pieces_unless_refused (arguments_in max ms h.0)) same
    ∙ ap (λ (a : Argument). pieces_unless_refused (arguments_in max no_meanings a)) (sym (ap argument_of h.1 ∙ sums.built_argument h.0))

-- a pattern by its parts
pub tried_is : (max : ℕ) (p : Pieces) (ps : List PatternPiece) (trees : List (List Piece)) (calls : List (Option Call)) (made : ReadyPattern) → made ≡ ready ps calls → ps ≡ p.pieces
    → map pieces_kept calls ≡ table_of max trees → trees ≡ p.fixed → made ≡ tried max p
tried_is max p ps trees calls made is pieces entries fixed =
    is ∙ ap (with_pieces (map pieces_kept calls)) pieces ∙ ap (λ table. with_pieces table p.pieces) (entries ∙ ap (table_of max) fixed)

-- one more in two lists that go together
pub one_more : {X Y Z : Type 0} (f : X → Z) (g : Y → Z) (xs now : List X) (x : X) (ys : List Y) (i : ℕ) (y : Y) → i < length ys → y ≡ get_or ys i y → f x ≡ g y → now ≡ xs ++ x ∷ []
    → map f xs ≡ map g (take i ys) → map f now ≡ map g (take (i + 1) ys)
one_more f g xs now x ys i y within at same more so_far =
    ap (map f) more
    ∙ map-append f xs (x ∷ [])
    ∙ ap (λ zs. zs ++ f x ∷ []) so_far
    ∙ ap (λ z. map g (take i ys) ++ z ∷ []) (same ∙ ap g at)
    ∙ sym (map_more g ys i y within)

-- an item of a list that is gone over
pub at_item : {X : Type 0} (P : X → Type 0) (xs all : List X) (i : ℕ) (x : X) → xs ≡ all → i < length xs → x ≡ get_or xs i x → All P all → P x
at_item P xs all i x same within at h = subst P (sym at) (subst (All P) (sym same) h i x within)

-- what is made of one item more
pub one_made : {X Y : Type 0} (g : X → Y) (xs : List X) (i : ℕ) (x : X) (made now : List Y) (y : Y) → i < length xs → x ≡ get_or xs i x → y ≡ g x → now ≡ made ++ y ∷ []
    → made ≡ map g (take i xs) → now ≡ map g (take (i + 1) xs)
one_made g xs i x made now y within at same more so_far =
    more
    ∙ ap (λ ys. ys ++ y ∷ []) so_far
    ∙ ap (λ z. map g (take i xs) ++ z ∷ []) (same ∙ ap g at)
    ∙ sym (map_more g xs i x within)

-- ---- what stands in a statement has trees

abbrev leaves : CheckedStatement → List CheckedLeaf
leaves a = leaves_of a

abbrev conditions : CheckedStatement → List Parts
conditions a = conditions_of a

abbrev branch_leaves : CheckedBranch → Branch Parts (List (List CheckedLeaf))
branch_leaves b = record { condition = b.condition; block = map leaves b.block }

abbrev branch_conditions : CheckedBranch → Branch Parts (List (List Parts))
branch_conditions b = record { condition = b.condition; block = map conditions b.block }

abbrev in_branches : List (Branch Parts (List (List CheckedLeaf))) → List CheckedLeaf
in_branches bs = flat_map (λ b. in_row b.block) bs

abbrev asked_in_branches : List (Branch Parts (List (List Parts))) → List Parts
asked_in_branches bs = flat_map (λ b. b.condition ∷ in_row b.block) bs

leaves_plain : (l : CheckedLeaf) → leaves (acting.Plain l) ≡ l ∷ []
leaves_plain l = search (rules, the_lemmas)

leaves_repeat : (b : List CheckedStatement) → leaves (acting.Repeat b) ≡ in_row (map leaves b)
leaves_repeat b = search (rules, the_lemmas)

leaves_within : (fs : List Picked) (b : List CheckedStatement) → leaves (acting.Within fs b) ≡ in_row (map leaves b)
leaves_within fs b = search (rules, the_lemmas)

leaves_choose : (bs : List CheckedBranch) (last : Option (List CheckedStatement)) → leaves (acting.Choose bs last) ≡ in_branches (map branch_leaves bs) ++ in_last (option_map (map leaves) last)
leaves_choose bs last = search (rules, the_lemmas)

conditions_repeat : (b : List CheckedStatement) → conditions (acting.Repeat b) ≡ in_row (map conditions b)
conditions_repeat b = search (rules, the_lemmas)

conditions_within : (fs : List Picked) (b : List CheckedStatement) → conditions (acting.Within fs b) ≡ in_row (map conditions b)
conditions_within fs b = search (rules, the_lemmas)

conditions_choose : (bs : List CheckedBranch) (last : Option (List CheckedStatement))
    → conditions (acting.Choose bs last) ≡ asked_in_branches (map branch_conditions bs) ++ in_last (option_map (map conditions) last)
conditions_choose bs last = search (rules, the_lemmas)

parted : {X : Type 0} (P : X → Type 0) (xs ys : List X) → All P (xs ++ ys) → All P xs × All P ys
parted P [] ys h = (All-nil P, h)
parted P (x ∷ xs) ys h =
    let rest = parted P xs ys (All-tail P x (xs ++ ys) h) in
    (All-cons P x xs (All-head P x (xs ++ ys) h) rest.0, rest.1)

-- a block
block_has : (b : List CheckedStatement) → All HasLeafTrees (in_row (map leaves b)) → All HasPatterns (in_row (map conditions b)) → All HasAllTrees b
unfolding HasAllTrees
block_has [] ls cs = All-nil HasAllTrees
block_has (a ∷ b) ls cs =
    let l = parted HasLeafTrees (leaves a) (in_row (map leaves b)) ls in
    let c = parted HasPatterns (conditions a) (in_row (map conditions b)) cs in
    All-cons HasAllTrees a b (l.0, c.0) (block_has b l.1 c.1)

pub plain_has : (l : CheckedLeaf) → HasAllTrees (acting.Plain l) → HasLeafTrees l
unfolding HasAllTrees
plain_has l h = All-head HasLeafTrees l [] (subst (All HasLeafTrees) (leaves_plain l) h.0)

pub repeat_has : (b : List CheckedStatement) → HasAllTrees (acting.Repeat b) → All HasAllTrees b
unfolding HasAllTrees
repeat_has b h = block_has b (subst (All HasLeafTrees) (leaves_repeat b) h.0) (subst (All HasPatterns) (conditions_repeat b) h.1)

pub within_has : (fs : List Picked) (b : List CheckedStatement) → HasAllTrees (acting.Within fs b) → All HasAllTrees b
unfolding HasAllTrees
within_has fs b h = block_has b (subst (All HasLeafTrees) (leaves_within fs b) h.0) (subst (All HasPatterns) (conditions_within fs b) h.1)

branches_have : (bs : List CheckedBranch) → All HasLeafTrees (in_branches (map branch_leaves bs)) → All HasPatterns (asked_in_branches (map branch_conditions bs)) → All HasBranchTrees bs
branches_have [] ls cs = All-nil HasBranchTrees
branches_have (b ∷ bs) ls cs =
    let l = parted HasLeafTrees (in_row (map leaves b.block)) (in_branches (map branch_leaves bs)) ls in
    let asked = in_row (map conditions b.block) ++ asked_in_branches (map branch_conditions bs) in
    let c = parted HasPatterns (in_row (map conditions b.block)) (asked_in_branches (map branch_conditions bs)) (All-tail HasPatterns b.condition asked cs) in
    All-cons HasBranchTrees b bs (All-head HasPatterns b.condition asked cs, block_has b.block l.0 c.0) (branches_have bs l.1 c.1)

last_has : (last : Option (List CheckedStatement)) → All HasLeafTrees (in_last (option_map (map leaves) last)) → All HasPatterns (in_last (option_map (map conditions) last))
    → IfSome last (All HasAllTrees)
last_has None ls cs = tt
last_has (Some b) ls cs = block_has b ls cs

pub choose_has : (bs : List CheckedBranch) (last : Option (List CheckedStatement)) → HasAllTrees (acting.Choose bs last) → All HasBranchTrees bs × IfSome last (All HasAllTrees)
unfolding HasAllTrees
choose_has bs last h =
    let l = parted HasLeafTrees (in_branches (map branch_leaves bs)) (in_last (option_map (map leaves) last)) (subst (All HasLeafTrees) (leaves_choose bs last) h.0) in
    let c = parted HasPatterns (asked_in_branches (map branch_conditions bs)) (in_last (option_map (map conditions) last)) (subst (All HasPatterns) (conditions_choose bs last) h.1) in
    (branches_have bs l.0 c.0, last_has last l.1 c.1)

-- ---- what is made of a statement

abbrev branch_by : ℕ → CheckedBranch → Branch Parts (List Statement)
branch_by max b = record { condition = b.condition; block = map (ready_of max) b.block }

pub ready_plain : (max : ℕ) (l : CheckedLeaf) → ready_of max (acting.Plain l) ≡ acting.Plain (ready_leaf max l)
ready_plain max l = search (rules, the_lemmas)

pub ready_repeat : (max : ℕ) (b : List CheckedStatement) → ready_of max (acting.Repeat b) ≡ acting.Repeat (map (ready_of max) b)
ready_repeat max b = search (rules, the_lemmas)

pub ready_within : (max : ℕ) (fs : List Picked) (b : List CheckedStatement) → ready_of max (acting.Within fs b) ≡ acting.Within fs (map (ready_of max) b)
ready_within max fs b = search (rules, the_lemmas)

ready_branches : (max : ℕ) (bs : List CheckedBranch) → map (ready_branch max) (map (branch_by max) bs) ≡ map (branch_of max) bs
ready_branches max [] = refl
ready_branches max (b ∷ bs) = ap (λ rest. branch_of max b ∷ rest) (ready_branches max bs)

chosen_by : (max : ℕ) (bs : List CheckedBranch) (last : Option (List CheckedStatement))
    → ready_of max (acting.Choose bs last) ≡ acting.Choose (map (ready_branch max) (map (branch_by max) bs)) (option_map (map (ready_of max)) last)
chosen_by max bs last = search (rules, the_lemmas)

pub ready_choose : (max : ℕ) (bs : List CheckedBranch) (last : Option (List CheckedStatement))
    → ready_of max (acting.Choose bs last) ≡ acting.Choose (map (branch_of max) bs) (option_map (map (ready_of max)) last)
ready_choose max bs last = chosen_by max bs last ∙ ap (λ (cs : List Chosen). acting.Choose cs (option_map (map (ready_of max)) last)) (ready_branches max bs)

-- ---- what a function makes of each statement

abbrev plain_by : ReadyLeaf → Statement
plain_by l = acting.Plain l

abbrev repeat_by : List Statement → Statement
repeat_by b = acting.Repeat b

abbrev choose_by : List Chosen → Option (List Statement) → Statement
choose_by bs last = acting.Choose bs last

abbrev within_by : List Picked → List Statement → Statement
within_by fs b = acting.Within fs b

module _ (max : ℕ) (a : CheckedStatement) where
  pub plain_made : (l : CheckedLeaf) (made : ReadyLeaf) → a ≡ acting.Plain l → made ≡ ready_leaf max l → plain_by made ≡ ready_of max a
  plain_made l made is h = ap plain_by h ∙ sym (ready_plain max l) ∙ ap (ready_of max) (sym is)

  pub repeat_made : (b : List CheckedStatement) (made : List Statement) → a ≡ acting.Repeat b → made ≡ map (ready_of max) b → repeat_by made ≡ ready_of max a
  repeat_made b made is h = ap repeat_by h ∙ sym (ready_repeat max b) ∙ ap (ready_of max) (sym is)

  pub choose_made : (bs : List CheckedBranch) (last : Option (List CheckedStatement)) (made : List Chosen) (otherwise : Option (List Statement)) → a ≡ acting.Choose bs last
      → made ≡ map (branch_of max) bs → otherwise ≡ option_map (map (ready_of max)) last → choose_by made otherwise ≡ ready_of max a
  choose_made bs last made otherwise is h k =
      ap (λ cs. choose_by cs otherwise) h ∙ ap (choose_by (map (branch_of max) bs)) k ∙ sym (ready_choose max bs last) ∙ ap (ready_of max) (sym is)

  pub within_made : (fs : List Picked) (b : List CheckedStatement) (functions : List Picked) (made : List Statement) → a ≡ acting.Within fs b → functions ≡ fs → made ≡ map (ready_of max) b
      → within_by functions made ≡ ready_of max a
  within_made fs b functions made is h k =
      ap (λ gs. within_by gs made) h ∙ ap (within_by fs) k ∙ sym (ready_within max fs b) ∙ ap (ready_of max) (sym is)

-- ---- parts and conditions

pub part_is : (max : ℕ) (r : Rewriting) (p : ReadyPattern) (s : Sum) (made : Part) → made ≡ part_in r.option p s → p ≡ tried max r.pattern → s ≡ sum_of r.right → made ≡ ready_part max r
part_is max r p s made is pattern right = is ∙ ap (λ q. part_in r.option q s) pattern ∙ ap (part_in r.option (tried max r.pattern)) right

abbrev asked : Alternatives → List Ready → Choice
asked c rs = record { patterns = rs; condition = c }

patterns_in : (max : ℕ) (ps : List Pieces) → map pattern_in (map (tried max) ps) ≡ map (ready_pattern max) ps
patterns_in max [] = refl
patterns_in max (p ∷ ps) = ap (λ rs. ready_pattern max p ∷ rs) (patterns_in max ps)

pub choice_is : (max : ℕ) (q : Parts) (ps : List Pieces) (patterns : List ReadyPattern) (made : Choice) → made ≡ asked q.alternatives (map pattern_in patterns)
    → patterns ≡ map (tried max) ps → ps ≡ q.patterns → made ≡ ready_choice max q
choice_is max q ps patterns made is are same =
    is
    ∙ ap (λ ts. asked q.alternatives (map pattern_in ts)) are
    ∙ ap (asked q.alternatives) (patterns_in max ps)
    ∙ ap (λ xs. asked q.alternatives (map (ready_pattern max) xs)) same
