-- Statements that are nested are refused nowhere.
use Rattle.std.proofs.Common.{◌≡◌, ◌+◌, ◌<◌, ◌≤◌, Bool, true, false, not, ◌&&◌, ◌||◌, List, [], ◌∷◌, ◌++◌, length, map, Option, Some, None, refl, sym, ap, subst, ◌∙◌, arith, append_assoc, le-leb, lt-ltb}
use Rattle.std.specs.Prelude.{IfSome, if◌then◌else◌, fold, nat_le, option_and_then}
use Rattle.std.specs.List.{list_any}
use Rattle.std.proofs.lemmas.Bool.{and_parts}
use Rattle.std.proofs.lemmas.List.{append-nil, length-map}
use Rattle.std.proofs.lemmas.Option.{same_Some}
use Rattle.form_base.specs.declared.spot.Spot.{Spot}
use Rattle.form_ast.specs.Written.{statement_of}
use Rattle.form_ast.specs.declared.statement.Placed.{Placed}
use Rattle.form_ast.specs.declared.statement.Statement.{Statement}
use Rattle.form_ast.specs.declared.statement.Statement.TheVariants as statements
use Rattle.form_blocks.specs.declared.open.BlockKind.{BlockKind}
use Rattle.form_blocks.specs.declared.open.BlockKind.TheVariants as kinds
use Rattle.form_blocks.specs.declared.open.Fault.{Fault}
use Rattle.form_blocks.specs.declared.open.Open.{Open}
use Rattle.form_blocks.specs.declared.role.Role.{Role}
use Rattle.form_blocks.specs.declared.role.Role.TheVariants as roles
use Rattle.form_blocks.specs.Blocks.{Read, Unfinished, and_ended, and_last, and_opening, and_statement, begun_branch, end_of, end_placed, ends_with_rewrite, fault_at_end, inner_left, is_block, is_same_kind, kind_of, lines_ended, may_stand, most_blocks, new_module, outer, refused, role_of, unclosed}
use Rattle.form_blocks.specs.Growing.{is_also}
use Rattle.form_blocks.specs.Nesting.{AreNested, HaveRoom, Within, all_opened, all_read, alone, are_led, argument_ended, further, if_ended, in_argument, in_branch, in_else, in_repeat, is_rewrite, opened, repeat_ended}
use Rattle.form_blocks.proofs.Nesting.{all_within, last_read, last_rewrites, within, within_open}
use Rattle.form_blocks.proofs.Sound.{acts_stay, and_reading, end_statement, is_also_role, is_else_of, opens_more, others_stay, role_also, st, st_on}

-- none of them ends with what is behind it
abbrev AreBlocks : List Open → Type 0
AreBlocks [] = Unit {0}
AreBlocks (o ∷ os) = (o.is_line ≡ false) × AreBlocks os

-- this is open of a module, and nothing of it is refused
record Fine (b : Unfinished) (ws : List Within) : Type 0 where
  opens : all_within b.opens ≡ ws
  blocks : AreBlocks b.opens
  none : b.fault ≡ None

-- a module goes on with a statement as it should
abbrev GoesOn : Unfinished → Unfinished → Placed → List Within → Type 0
GoesOn b c p vs = Fine c vs × (c.statements ≡ b.statements ++ p ∷ [])

abbrev pub module_of : List Open → List Placed → Option Fault → Unfinished
module_of os ss f = record { opens = os; statements = ss; fault = f }

-- behind a statement of this role, read alone
abbrev pub behind : Role → Unfinished → Placed → Unfinished
behind role b p = if may_stand b [] role then and_last role p.spot b p else refused p.spot b

-- ---- what is open

abbrev first_or : Within → List Within → Within
first_or w [] = w
first_or w (v ∷ vs) = v

abbrev others_of : List Within → List Within
others_of [] = []
others_of (v ∷ vs) = vs

-- the innermost block, and those around it
record Innermost (os : List Open) (w : Within) (ws : List Within) : Type 0 where
  block : Open
  rest : List Open
  opens : os ≡ block ∷ rest
  first : within_open block ≡ w
  around : all_within rest ≡ ws

innermost_of : (os : List Open) (w : Within) (ws : List Within) → all_within os ≡ w ∷ ws → Innermost os w ws
innermost_of [] w ws e = absurd cc
innermost_of (o ∷ os) w ws e = record { block = o; rest = os; opens = refl; first = ap (first_or w) e; around = ap others_of e }

none_open : (os : List Open) → all_within os ≡ [] → os ≡ []
none_open [] e = refl
none_open (o ∷ os) e = absurd cc

abbrev kind_within : Within → BlockKind
kind_within in_repeat = kinds.Repeat
kind_within in_branch = kinds.If
kind_within in_else = kinds.If
kind_within in_argument = kinds.Argument

kind_is : (k : BlockKind) (has_else : Bool) → kind_within (within k has_else) ≡ k
kind_is kinds.Repeat has_else = refl
kind_is kinds.Argument has_else = refl
kind_is kinds.If false = refl
kind_is kinds.If true = refl

kind_from : (o : Open) (k : BlockKind) (has_else : Bool) → within_open o ≡ within k has_else → o.kind ≡ k
kind_from o k has_else e = sym (kind_is o.kind o.has_else) ∙ ap kind_within e ∙ kind_is k has_else

abbrev else_within : Within → Bool
else_within in_else = true
else_within _ = false

else_is : (has_else : Bool) → else_within (within kinds.If has_else) ≡ has_else
else_is false = refl
else_is true = refl

no_else : (o : Open) → o.kind ≡ kinds.If → within_open o ≡ in_branch → o.has_else ≡ false
no_else o kind e = sym (else_is o.has_else) ∙ ap (λ (k : BlockKind). else_within (within k o.has_else)) (sym kind) ∙ ap else_within e

pub same_self : (k : BlockKind) → is_same_kind k k ≡ true
same_self kinds.Repeat = refl
same_self kinds.If = refl
same_self kinds.Argument = refl

block_is : (k : BlockKind) (o : Open) → o.kind ≡ k → o.is_line ≡ false → is_block k o ≡ true
block_is k o e f =
    ap (λ (j : BlockKind). is_same_kind j k && not o.is_line) e
    ∙ ap (λ (x : Bool). is_same_kind k k && not x) f
    ∙ ap (λ (x : Bool). x && true) (same_self k)

-- nothing ends with what has ended
no_lines : (os : List Open) (b : Unfinished) → AreBlocks os → lines_ended os b ≡ b
no_lines [] b h = refl
no_lines (o ∷ os) b h = ap (λ (x : Bool). if x then lines_ended os (and_statement (record b { opens = os }) (end_placed o)) else b) h.0

open_count : (b : Unfinished) (ws : List Within) → all_within b.opens ≡ ws → length b.opens ≡ length ws
open_count b ws e = sym (length-map b.opens within_open) ∙ ap length e

-- ---- what statements leave open

repeat_from : (ws vs : List Within) → repeat_ended ws ≡ Some vs → ws ≡ in_repeat ∷ vs
repeat_from (in_repeat ∷ ws) vs e = ap (λ (us : List Within). in_repeat ∷ us) (same_Some ws vs e)
repeat_from [] vs e = absurd cc
repeat_from (_ ∷ ws) vs e = absurd cc

argument_from : (ws vs : List Within) → argument_ended ws ≡ Some vs → ws ≡ in_argument ∷ vs
argument_from (in_argument ∷ ws) vs e = ap (λ (us : List Within). in_argument ∷ us) (same_Some ws vs e)
argument_from [] vs e = absurd cc
argument_from (_ ∷ ws) vs e = absurd cc

if_from : (ws vs : List Within) → if_ended ws ≡ Some vs → (has_else : Bool) × (ws ≡ within kinds.If has_else ∷ vs)
if_from (in_branch ∷ ws) vs e = (false, ap (λ (us : List Within). in_branch ∷ us) (same_Some ws vs e))
if_from (in_else ∷ ws) vs e = (true, ap (λ (us : List Within). in_else ∷ us) (same_Some ws vs e))
if_from [] vs e = absurd cc
if_from (_ ∷ ws) vs e = absurd cc

ends_from : (k : BlockKind) (ws vs : List Within) → opened (end_of k) ws ≡ Some vs → (has_else : Bool) × (ws ≡ within k has_else ∷ vs)
ends_from kinds.Repeat ws vs e = (false, repeat_from ws vs e)
ends_from kinds.Argument ws vs e = (false, argument_from ws vs e)
ends_from kinds.If ws vs e = if_from ws vs e

further_from : (next : Within) (ws vs : List Within) → further next ws ≡ Some vs → (us : List Within) × (ws ≡ in_branch ∷ us) × (next ∷ us ≡ vs)
further_from next (in_branch ∷ ws) vs e = (ws, refl, same_Some (next ∷ ws) vs e)
further_from next [] vs e = absurd cc
further_from next (_ ∷ ws) vs e = absurd cc

branch_from : (s : Statement) (is_else : Bool) (ws vs : List Within) → role_of s ≡ roles.Branches is_else → opened s ws ≡ Some vs
    → (us : List Within) × (ws ≡ in_branch ∷ us) × (within kinds.If is_else ∷ us ≡ vs)
branch_from (statements.ElseIf q) is_else ws vs role e =
    let f = further_from in_branch ws vs e in
    (f.0, f.1, ap (λ (x : Bool). within kinds.If x ∷ f.0) (sym (ap is_else_of role)) ∙ f.2)
branch_from statements.Else is_else ws vs role e =
    let f = further_from in_else ws vs e in
    (f.0, f.1, ap (λ (x : Bool). within kinds.If x ∷ f.0) (sym (ap is_else_of role)) ∙ f.2)
branch_from _ is_else ws vs role e = absurd cc

nowhere_else : (s : Statement) (w : Within) (ws vs : List Within) → role_of s ≡ roles.Other → opened s (w ∷ ws) ≡ Some vs → ⊥
nowhere_else statements.Repeat w ws vs role e = cc
nowhere_else _ w ws vs role e = cc

outside_from : (s : Statement) (ws vs : List Within) → role_of s ≡ roles.Other → opened s ws ≡ Some vs → (ws ≡ []) × ([] ≡ vs)
outside_from s [] vs role e = (refl, same_Some [] vs (sym (others_stay s role) ∙ e))
outside_from s (w ∷ ws) vs role e = absurd (nowhere_else s w ws vs role e)

-- ---- each kind of statement

opening_fine : (k : BlockKind) (b : Unfinished) (p : Placed) (ws vs : List Within) → role_of p.statement ≡ roles.Opens k → Fine b ws → opened p.statement ws ≡ Some vs → length vs ≤ most_blocks
    → GoesOn b (behind (roles.Opens k) b p) p vs
opening_fine k b p ws vs role h e room =
    let is : within k false ∷ ws ≡ vs = same_Some (within k false ∷ ws) vs (sym (opens_more p.statement k ws role) ∙ e) in
    let most : length vs ≤ 64 = room in
    let few : length b.opens + 0 < 64 = omega (arith, open_count b ws h.opens, ap length is, most) in
    subst (λ (x : Bool). GoesOn b (if x then and_opening false b p else refused p.spot b) p vs) (sym (lt-ltb (length b.opens + 0) 64 few)) (
      record {
        opens = ap (λ (j : BlockKind). within j false ∷ all_within b.opens) (ap kind_of role) ∙ ap (λ (us : List Within). within k false ∷ us) h.opens ∙ is;
        blocks = (refl, h.blocks);
        none = h.none;
      },
      refl,
    )

-- what stands in no block and begins none, or in one
acts_fine : (b : Unfinished) (p : Placed) (ws : List Within) (may : Bool) → may ≡ true → Fine b ws → GoesOn b (if may then and_ended (and_statement b p) else refused p.spot b) p ws
acts_fine b p ws may e h =
    let c = and_statement b p in
    subst (λ (x : Bool). GoesOn b (if x then and_ended c else refused p.spot b) p ws) (sym e)
    (subst (λ (y : Unfinished). GoesOn b y p ws) (sym (no_lines c.opens c h.blocks)) (record { opens = h.opens; blocks = h.blocks; none = h.none }, refl))

module _ (p : Placed) (o : Open) (rest : List Open) (ss : List Placed) (f : Option Fault) (ws : List Within) (blocks : AreBlocks rest) (fine : f ≡ None) where
  abbrev b : Unfinished
  b = module_of (o ∷ rest) ss f

  -- what is open in a block of this kind, where this is one or not
  abbrev left_by : BlockKind → Bool → Unfinished
  left_by k x = if x then b else inner_left k rest (record b { opens = rest; fault = unclosed f o })

  -- the innermost block ends
  abbrev closed_by : BlockKind → Bool → Unfinished
  closed_by k x = and_ended (let c = and_statement (left_by k x) p in record c { opens = outer c.opens })

  end_fine : (k : BlockKind) → is_block k o ≡ true → all_within rest ≡ ws → GoesOn b (behind (roles.Ends k) b p) p ws
  end_fine k e around =
      let c : Unfinished = module_of rest (ss ++ p ∷ []) f in
      subst (λ (x : Bool). GoesOn b (if x || list_any (is_block k) rest then closed_by k x else refused p.spot b) p ws) (sym e)
      (subst (λ (y : Unfinished). GoesOn b y p ws) (sym (no_lines rest c blocks)) (record { opens = around; blocks = blocks; none = fine }, refl))

  -- a further branch of it begins
  abbrev branched_by : Bool → Bool → Unfinished
  branched_by is_else x = let c = and_statement (left_by kinds.If x) p in begun_branch is_else p.spot c.opens c

  branch_fine : (is_else : Bool) → is_block kinds.If o ≡ true → o.is_line ≡ false → o.has_else ≡ false → all_within (record o { has_else = is_else || o.has_else } ∷ rest) ≡ ws
      → GoesOn b (behind (roles.Branches is_else) b p) p ws
  branch_fine is_else e line none around =
      let c : Unfinished = module_of (record o { has_else = is_else || o.has_else } ∷ rest) (ss ++ p ∷ []) f in
      subst (λ (x : Bool). GoesOn b (if x || list_any (is_block kinds.If) rest then branched_by is_else x else refused p.spot b) p ws) (sym e)
      (subst (λ (x : Bool). GoesOn b (if x then refused p.spot c else c) p ws) (sym none) (record { opens = around; blocks = (line, blocks); none = fine }, refl))

or_false : (x : Bool) → (x || false) ≡ x
or_false true = refl
or_false false = refl

ending_fine : (k : BlockKind) (b : Unfinished) (p : Placed) (ws vs : List Within) → role_of p.statement ≡ roles.Ends k → Fine b ws → opened p.statement ws ≡ Some vs → GoesOn b (behind (roles.Ends k) b p) p vs
ending_fine k b p ws vs role h e =
    let from = ends_from k ws vs (ap (λ (s : Statement). opened s ws) (sym (end_statement p.statement k role)) ∙ e) in
    let i = innermost_of b.opens (within k from.0) vs (h.opens ∙ from.1) in
    let blocks : AreBlocks (i.block ∷ i.rest) = subst AreBlocks i.opens h.blocks in
    let is = block_is k i.block (kind_from i.block k from.0 i.first) blocks.0 in
    subst (λ (os : List Open). let c = module_of os b.statements b.fault in GoesOn c (behind (roles.Ends k) c p) p vs) (sym i.opens)
    (end_fine p i.block i.rest b.statements b.fault vs blocks.1 h.none k is i.around)

branching_fine : (is_else : Bool) (b : Unfinished) (p : Placed) (ws vs : List Within) → role_of p.statement ≡ roles.Branches is_else → Fine b ws → opened p.statement ws ≡ Some vs
    → GoesOn b (behind (roles.Branches is_else) b p) p vs
branching_fine is_else b p ws vs role h e =
    let from = branch_from p.statement is_else ws vs role e in
    let i = innermost_of b.opens in_branch from.0 (h.opens ∙ from.1) in
    let blocks : AreBlocks (i.block ∷ i.rest) = subst AreBlocks i.opens h.blocks in
    let kind = kind_from i.block kinds.If false i.first in
    let none = no_else i.block kind i.first in
    let around : all_within (record i.block { has_else = is_else || i.block.has_else } ∷ i.rest) ≡ vs =
    ap (λ (k : BlockKind). within k (is_else || i.block.has_else) ∷ all_within i.rest) kind
    ∙ ap (λ (x : Bool). within kinds.If (is_else || x) ∷ all_within i.rest) none
    ∙ ap (λ (x : Bool). within kinds.If x ∷ all_within i.rest) (or_false is_else)
    ∙ ap (λ (us : List Within). within kinds.If is_else ∷ us) i.around ∙ from.2 in
    subst (λ (os : List Open). let c = module_of os b.statements b.fault in GoesOn c (behind (roles.Branches is_else) c p) p vs) (sym i.opens)
    (branch_fine p i.block i.rest b.statements b.fault vs blocks.1 h.none is_else (block_is kinds.If i.block kind blocks.0) blocks.0 none around)

other_fine : (b : Unfinished) (p : Placed) (ws vs : List Within) → role_of p.statement ≡ roles.Other → Fine b ws → opened p.statement ws ≡ Some vs → GoesOn b (behind roles.Other b p) p vs
other_fine b p ws vs role h e =
    let from = outside_from p.statement ws vs role e in
    subst (λ (os : List Open). let c = module_of os b.statements b.fault in GoesOn c (behind roles.Other c p) p vs) (sym (none_open b.opens (h.opens ∙ from.0)))
    (record { opens = from.1; blocks = tt; none = h.none }, refl)

-- ---- all

module _ (b : Unfinished) (p : Placed) (ws vs : List Within) (h : Fine b ws) (e : opened p.statement ws ≡ Some vs) (led : (not (is_also p.statement) || last_rewrites false (st b)) ≡ true) (room : length vs ≤ most_blocks) where
  -- nothing begins or ends
  stays : (x : Bool) → role_of p.statement ≡ roles.Acts x → ws ≡ vs
  stays x role = same_Some ws vs (sym (acts_stay p.statement x ws role) ∙ e)

  by_role : (role : Role) → role_of p.statement ≡ role → GoesOn b (behind role b p) p vs
  by_role (roles.Opens k) role = opening_fine k b p ws vs role h e room
  by_role (roles.Ends k) role = ending_fine k b p ws vs role h e
  by_role (roles.Branches is_else) role = branching_fine is_else b p ws vs role h e
  by_role (roles.Acts false) role =
      let most : length vs ≤ 64 = room in
      let few : length b.opens + 0 ≤ 64 = omega (arith, open_count b ws h.opens, ap length (stays false role), most) in
      subst (λ (us : List Within). GoesOn b (behind (roles.Acts false) b p) p us) (stays false role)
      (acts_fine b p ws (nat_le (length b.opens + 0) 64) (le-leb (length b.opens + 0) 64 few) h)
  by_role (roles.Acts true) role =
      let also : is_also p.statement ≡ true = sym (role_also p.statement) ∙ ap is_also_role role in
      let last : last_rewrites false (st b) ≡ true = ap (λ (x : Bool). not x || last_rewrites false (st b)) (sym also) ∙ led in
      subst (λ (us : List Within). GoesOn b (behind (roles.Acts true) b p) p us) (stays true role)
      (acts_fine b p ws (ends_with_rewrite b.statements) (last_read b.statements ∙ last) h)
  by_role roles.Other role = other_fine b p ws vs role h e

  goes_on : GoesOn b (and_reading b (alone p)) p vs
  goes_on = by_role (role_of p.statement) refl

-- what the last statement is
last_on : (before : Bool) (ss : List Statement) (s : Statement) → last_rewrites before (ss ++ s ∷ []) ≡ is_rewrite s
last_on before [] s = refl
last_on before (t ∷ ss) s = last_on (is_rewrite t) ss s

-- nothing of a module is refused, and these are its statements
abbrev IsRead : Unfinished → List Placed → Type 0
IsRead b ss = (fault_at_end b ≡ None) × (b.statements ≡ ss)

abbrev pub readings : List Placed → List (Spot × Option Read)
readings ps = map alone ps

-- nothing is open at the end
end_read : (b : Unfinished) (ws : List Within) → Fine b ws → ws ≡ [] → IsRead b (b.statements ++ [])
end_read b ws h e =
    (ap (λ (os : List Open). fold unclosed b.fault os) (none_open b.opens (h.opens ∙ e)) ∙ h.none, sym (append-nil b.statements))

-- whatever is open of a module: these go on with it, where they are nested
abbrev AreRead : Unfinished → List Placed → Type 0
AreRead b ps = (ws : List Within) → Fine b ws → all_opened ws (map statement_of ps) ≡ Some [] → are_led (last_rewrites false (st b)) (map statement_of ps) ≡ true → HaveRoom ws (map statement_of ps)
    → IsRead (fold and_reading b (readings ps)) (b.statements ++ ps)

one_more : (p : Placed) (ps : List Placed) (b : Unfinished) (ws : List Within) → Fine b ws → are_led (last_rewrites false (st b)) (p.statement ∷ map statement_of ps) ≡ true
    → (o : Option (List Within)) → opened p.statement ws ≡ o → option_and_then (λ (vs : List Within). all_opened vs (map statement_of ps)) o ≡ Some []
    → IfSome o (λ (vs : List Within). (length vs ≤ most_blocks) × HaveRoom vs (map statement_of ps)) → AreRead (and_reading b (alone p)) ps
    → IsRead (fold and_reading (and_reading b (alone p)) (readings ps)) (b.statements ++ p ∷ ps)
one_more p ps b ws h led None f g room others = absurd cc
one_more p ps b ws h led (Some vs) f g room others =
    let c = and_reading b (alone p) in
    let both = and_parts (not (is_also p.statement) || last_rewrites false (st b)) (are_led (is_rewrite p.statement) (map statement_of ps)) led in
    let on : GoesOn b c p vs = goes_on b p ws vs h f both.0 room.0 in
    let row : st c ≡ st b ++ p.statement ∷ [] = ap (λ (xs : List Placed). map statement_of xs) on.1 ∙ st_on b p in
    let last : last_rewrites false (st c) ≡ is_rewrite p.statement = ap (last_rewrites false) row ∙ last_on false (st b) p.statement in
    let there = others vs on.0 g (ap (λ (x : Bool). are_led x (map statement_of ps)) last ∙ both.1) room.1 in
    (there.0, there.1 ∙ ap (λ (xs : List Placed). xs ++ ps) on.1 ∙ append_assoc b.statements (p ∷ []) ps)

all_go_on : (ps : List Placed) (b : Unfinished) (ws : List Within) → Fine b ws → all_opened ws (map statement_of ps) ≡ Some [] → are_led (last_rewrites false (st b)) (map statement_of ps) ≡ true → HaveRoom ws (map statement_of ps)
    → IsRead (fold and_reading b (readings ps)) (b.statements ++ ps)
all_go_on [] b ws h e led room = end_read b ws h (same_Some ws [] e)
all_go_on (p ∷ ps) b ws h e led room = one_more p ps b ws h led (opened p.statement ws) refl e room (all_go_on ps (and_reading b (alone p)))

pub nested_read : (placed : List Placed) → AreNested (map statement_of placed) → HaveRoom [] (map statement_of placed) → IsRead (all_read (readings placed)) placed
nested_read placed nested room =
    let start : Fine new_module [] = record { opens = refl; blocks = tt; none = refl } in
    all_go_on placed new_module [] start nested.closed nested.led room
