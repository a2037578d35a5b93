-- Each part of a module stands where its first statement does.
use Rattle.std.proofs.Common.{◌≡◌, Bool, true, false, not, ◌||◌, List, [], ◌∷◌, ◌++◌, map, Option, Some, None, refl, sym, ap, subst, ◌∙◌, append_assoc}
use Rattle.std.specs.Prelude.{if◌then◌else◌, is_some, fold, option_and_then}
use Rattle.std.proofs.lemmas.Bool.{and_parts}
use Rattle.std.proofs.lemmas.List.{append-nil, map-append}
use Rattle.form_base.specs.declared.spot.Spot.{Spot}
use Rattle.form_base.specs.declared.block.Action.TheVariants as acting
use Rattle.form_ast.specs.declared.module.ModulePart.{ModulePart}
use Rattle.form_ast.specs.declared.module.ModulePart.TheVariants as in_module
use Rattle.form_ast.specs.declared.module.Outer.{Outer}
use Rattle.form_ast.specs.declared.module.Outer.TheVariants as outers
use Rattle.form_ast.specs.declared.module.PlacedPart.{PlacedPart}
use Rattle.form_ast.specs.declared.module.WrittenLeaf.{WrittenLeaf}
use Rattle.form_ast.specs.declared.module.WrittenLeaf.TheVariants as leaves
use Rattle.form_ast.specs.declared.statement.Placed.{Placed}
use Rattle.form_ast.specs.declared.statement.Rewrite.{Rewrite}
use Rattle.form_ast.specs.declared.statement.Statement.{Statement}
use Rattle.form_ast.specs.declared.statement.Statement.TheVariants as statements
use Rattle.form_ast.specs.Written.{WrittenAction, statement_of}
use Rattle.form_blocks.specs.declared.group.Group.{Group}
use Rattle.form_blocks.specs.declared.open_blocks.OpenBlock.{OpenBlock}
use Rattle.form_blocks.specs.declared.tree_part.Opening.{Opening}
use Rattle.form_blocks.specs.declared.tree_part.Opening.TheVariants as openings
use Rattle.form_blocks.specs.declared.tree_part.TreePart.TheVariants as trees
use Rattle.form_blocks.specs.Growing.{Grown, action_by, action_in, and_action, and_outer, and_part, block_begun, branch_in, branched, closed_in, group_ended, group_in, grown_by, is_also, nothing_grown, part_spot, parts_grown, tree_part_of}
use Rattle.form_blocks.specs.Nesting.{AreNested, Within, all_opened, are_led, argument_ended, beginnings, begins_here, further, if_ended, in_branch, in_else, is_rewrite, opened, outside, repeat_ended}
use Rattle.form_blocks.proofs.WrittenTrees.{Left, ended, no_blocks, step, steps, within_all, without}

-- where the outermost block that is open begins
abbrev outermost : OpenBlock → List OpenBlock → Spot
outermost o [] = o.spot
outermost o (q ∷ os) = outermost q os

abbrev group_spot : Option Group → List Spot
group_spot None = []
group_spot (Some x) = x.spot ∷ []

abbrev pending : List OpenBlock → Option Group → List Spot
pending [] x = group_spot x
pending (o ∷ os) x = outermost o os ∷ []

-- where the parts so far begin, that which isn't complete with them
abbrev spots_of : Grown → List Spot
spots_of g = map part_spot g.parts ++ pending g.blocks g.group

same_outermost : (o q : OpenBlock) (os : List OpenBlock) → o.spot ≡ q.spot → outermost o os ≡ outermost q os
same_outermost o q [] e = e
same_outermost o q (r ∷ os) e = refl

abbrev placed_part : Spot → ModulePart → PlacedPart
placed_part spot part = record { spot = spot; part = part }

-- a part more
one_part : (ps : List PlacedPart) (spot : Spot) (part : ModulePart) → map part_spot (ps ++ placed_part spot part ∷ []) ++ [] ≡ map part_spot ps ++ spot ∷ []
one_part ps spot part = append-nil (map part_spot (ps ++ placed_part spot part ∷ [])) ∙ map-append part_spot ps (placed_part spot part ∷ [])

-- an action is put last: it is a part where no block is open
abbrev as_part : List OpenBlock → Spot → List Spot
as_part [] spot = spot ∷ []
as_part (o ∷ os) spot = []

put_spots : (ps : List PlacedPart) (os : List OpenBlock) (spot : Spot) (a : WrittenAction) → spots_of (action_in os spot a (without ps os)) ≡ map part_spot ps ++ (pending os None ++ as_part os spot)
put_spots ps [] spot a = one_part ps spot (in_module.Action a)
put_spots ps (o ∷ os) spot a = ap (λ (s : Spot). map part_spot ps ++ s ∷ []) (same_outermost (record o { actions = o.actions ++ a ∷ [] }) o os refl)

ended_spots : (ps : List PlacedPart) (os : List OpenBlock) (x : Option Group) → spots_of (group_in x (record { parts = ps; blocks = os; group = x })) ≡ map part_spot ps ++ pending os x
ended_spots ps os None = refl
ended_spots ps [] (Some y) = put_spots ps [] y.spot (acting.Plain (leaves.Rewrite y.id y.others))
ended_spots ps (o ∷ os) (Some y) = put_spots ps (o ∷ os) y.spot (acting.Plain (leaves.Rewrite y.id y.others))

-- ---- one statement

-- nothing begins in a block
no_part : (ps : List PlacedPart) (o : OpenBlock) (os : List OpenBlock) (spot : Spot) → spot ≡ outermost o os → map part_spot ps ++ spot ∷ [] ≡ (map part_spot ps ++ outermost o os ∷ []) ++ []
no_part ps o os spot e = ap (λ (s : Spot). map part_spot ps ++ s ∷ []) e ∙ sym (append-nil (map part_spot ps ++ outermost o os ∷ []))

-- a part begins where none is open
first_part : (ps : List PlacedPart) (spot : Spot) → map part_spot ps ++ spot ∷ [] ≡ (map part_spot ps ++ []) ++ spot ∷ []
first_part ps spot = ap (λ (xs : List Spot). xs ++ spot ∷ []) (sym (append-nil (map part_spot ps)))

abbrev Begins : Grown → Grown → Placed → Type 0
Begins g k p = spots_of k ≡ spots_of g ++ begins_here (Some (within_all g.blocks)) p

leaf_begins : (ps : List PlacedPart) (os : List OpenBlock) (spot : Spot) (l : WrittenLeaf) (s : Statement) → is_also s ≡ false
    → Begins (without ps os) (and_action spot (acting.Plain l) (without ps os)) (record { spot = spot; statement = s })
leaf_begins ps [] spot l s f =
    put_spots ps [] spot (acting.Plain l) ∙ first_part ps spot
    ∙ ap (λ (x : Bool). (map part_spot ps ++ []) ++ (if x then [] else spot ∷ [])) (sym f)
leaf_begins ps (o ∷ os) spot l s f =
    put_spots ps (o ∷ os) spot (acting.Plain l) ∙ no_part ps o os (outermost o os) refl

outer_begins : (ps : List PlacedPart) (os : List OpenBlock) (spot : Spot) (o : Outer) (s : Statement) (vs : List Within) → is_also s ≡ false → outside (within_all os) ≡ Some vs
    → Begins (without ps os) (and_outer spot o (without ps os)) (record { spot = spot; statement = s })
outer_begins ps [] spot o s vs f e =
    one_part ps spot (in_module.Outer o) ∙ first_part ps spot
    ∙ ap (λ (x : Bool). (map part_spot ps ++ []) ++ (if x then [] else spot ∷ [])) (sym f)
outer_begins ps (b ∷ os) spot o s vs f e = absurd cc

block_begins : (ps : List PlacedPart) (os : List OpenBlock) (spot : Spot) (x : Opening) (s : Statement) → is_also s ≡ false
    → Begins (without ps os) (block_begun spot x (without ps os)) (record { spot = spot; statement = s })
block_begins ps [] spot x s f =
    first_part ps spot ∙ ap (λ (y : Bool). (map part_spot ps ++ []) ++ (if y then [] else spot ∷ [])) (sym f)
block_begins ps (o ∷ os) spot x s f = no_part ps o os (outermost o os) refl

branch_begins : (ps : List PlacedPart) (os : List OpenBlock) (x : Opening) (next : Within) (p : Placed) (vs : List Within) → further next (within_all os) ≡ Some vs
    → Begins (without ps os) (branch_in os x (without ps os)) p
branch_begins ps [] x next p vs e = absurd cc
branch_begins ps (o ∷ os) x next p vs e = no_part ps o os (outermost (branched x o) os) (same_outermost (branched x o) o os refl)

-- a block ends, and is a part where no other one is open
closed_begins : (ps : List PlacedPart) (o : OpenBlock) (os : List OpenBlock) (p : Placed) → Begins (without ps (o ∷ os)) (closed_in (o ∷ os) (without ps (o ∷ os))) p
closed_begins ps o [] p = put_spots ps [] o.spot (action_by o.opening o.branches o.actions) ∙ no_part ps o [] o.spot refl
closed_begins ps o (q ∷ os) p = put_spots ps (q ∷ os) o.spot (action_by o.opening o.branches o.actions) ∙ no_part ps o (q ∷ os) (outermost q os) refl

repeat_end_begins : (ps : List PlacedPart) (os : List OpenBlock) (p : Placed) (vs : List Within) → repeat_ended (within_all os) ≡ Some vs → Begins (without ps os) (closed_in os (without ps os)) p
repeat_end_begins ps [] p vs e = absurd cc
repeat_end_begins ps (o ∷ os) p vs e = closed_begins ps o os p

if_end_begins : (ps : List PlacedPart) (os : List OpenBlock) (p : Placed) (vs : List Within) → if_ended (within_all os) ≡ Some vs → Begins (without ps os) (closed_in os (without ps os)) p
if_end_begins ps [] p vs e = absurd cc
if_end_begins ps (o ∷ os) p vs e = closed_begins ps o os p

argument_end_begins : (ps : List PlacedPart) (os : List OpenBlock) (p : Placed) (vs : List Within) → argument_ended (within_all os) ≡ Some vs → Begins (without ps os) (closed_in os (without ps os)) p
argument_end_begins ps [] p vs e = absurd cc
argument_end_begins ps (o ∷ os) p vs e = closed_begins ps o os p

id_begins : (ps : List PlacedPart) (os : List OpenBlock) (spot : Spot) (r : Rewrite) (b : Bool) → r.is_also ≡ b → b ≡ false
    → Begins (without ps os) (and_part spot (if b then trees.Also r else trees.Id r) (without ps os)) (record { spot = spot; statement = statements.Rewrite r })
id_begins ps os spot r true e f = absurd cc
id_begins ps [] spot r false e f =
    first_part ps spot ∙ ap (λ (x : Bool). (map part_spot ps ++ []) ++ (if x then [] else spot ∷ [])) (sym e)
id_begins ps (o ∷ os) spot r false e f = no_part ps o os (outermost o os) refl

part_begins : (ps : List PlacedPart) (os : List OpenBlock) (spot : Spot) (vs : List Within) (s : Statement) → is_also s ≡ false → opened s (within_all os) ≡ Some vs
    → Begins (without ps os) (and_part spot (tree_part_of s) (without ps os)) (record { spot = spot; statement = s })
part_begins ps os spot vs (statements.Names d ns) f e = outer_begins ps os spot (outers.Names d ns) (statements.Names d ns) vs f e
part_begins ps os spot vs (statements.Indices ns) f e = outer_begins ps os spot (outers.Indices ns) (statements.Indices ns) vs f e
part_begins ps os spot vs (statements.Dimension d) f e = outer_begins ps os spot (outers.Dimension d) (statements.Dimension d) vs f e
part_begins ps os spot vs (statements.Set n es) f e = outer_begins ps os spot (outers.Set n es) (statements.Set n es) vs f e
part_begins ps os spot vs statements.Statistics f e = outer_begins ps os spot outers.Statistics statements.Statistics vs f e
part_begins ps os spot vs (statements.Drop ns) f e = outer_begins ps os spot (outers.Drop ns) (statements.Drop ns) vs f e
part_begins ps os spot vs (statements.Skip ns) f e = outer_begins ps os spot (outers.Skip ns) (statements.Skip ns) vs f e
part_begins ps os spot vs (statements.Local n right) f e = outer_begins ps os spot (outers.Local n right) (statements.Local n right) vs f e
part_begins ps os spot vs (statements.Print ns) f e = outer_begins ps os spot (outers.Print ns) (statements.Print ns) vs f e
part_begins ps os spot vs (statements.Rewrite r) f e = id_begins ps os spot r r.is_also refl f
part_begins ps os spot vs (statements.Multiply side x) f e = leaf_begins ps os spot (leaves.Multiply side x) (statements.Multiply side x) f
part_begins ps os spot vs (statements.Sum ns) f e = leaf_begins ps os spot (leaves.Sum ns) (statements.Sum ns) f
part_begins ps os spot vs (statements.SumOver n ks) f e = leaf_begins ps os spot (leaves.SumOver n ks) (statements.SumOver n ks) f
part_begins ps os spot vs statements.Discard f e = leaf_begins ps os spot leaves.Discard statements.Discard f
part_begins ps os spot vs statements.Repeat f e = block_begins ps os spot openings.Repeat statements.Repeat f
part_begins ps os spot vs (statements.If c) f e = block_begins ps os spot (openings.If c) (statements.If c) f
part_begins ps os spot vs (statements.Argument fs) f e = block_begins ps os spot (openings.Argument fs) (statements.Argument fs) f
part_begins ps os spot vs (statements.ElseIf c) f e = branch_begins ps os (openings.If c) in_branch (record { spot = spot; statement = statements.ElseIf c }) vs e
part_begins ps os spot vs statements.Else f e = branch_begins ps os openings.Else in_else (record { spot = spot; statement = statements.Else }) vs e
part_begins ps os spot vs statements.EndRepeat f e = repeat_end_begins ps os (record { spot = spot; statement = statements.EndRepeat }) vs e
part_begins ps os spot vs statements.EndIf f e = if_end_begins ps os (record { spot = spot; statement = statements.EndIf }) vs e
part_begins ps os spot vs statements.EndArgument f e = argument_end_begins ps os (record { spot = spot; statement = statements.EndArgument }) vs e

-- a statement that is no `also`, behind what is left of an `id`
after_begins : (p : Placed) (g h : Grown) (vs : List Within) → Left g.parts g.blocks g.group h → spots_of h ≡ spots_of g → is_also p.statement ≡ false → opened p.statement (within_all g.blocks) ≡ Some vs
    → Begins g (and_part p.spot (tree_part_of p.statement) h) p
after_begins p g h vs k e f o =
    let made : Option Group → Grown = λ x. record { parts = h.parts; blocks = h.blocks; group = x } in
    let same : without h.parts h.blocks ≡ h = ap made (sym k.none) in
    let here : Begins h (and_part p.spot (tree_part_of p.statement) h) p =
    subst (λ (y : Grown). Begins y (and_part p.spot (tree_part_of p.statement) y) p) same (part_begins h.parts h.blocks p.spot vs p.statement f (ap (opened p.statement) k.opens ∙ o)) in
    here ∙ ap (λ (xs : List Spot). xs ++ begins_here (Some (within_all h.blocks)) p) e
    ∙ ap (λ (ws : List Within). spots_of g ++ begins_here (Some ws) p) k.opens

also_begins : (ps : List PlacedPart) (os : List OpenBlock) (x : Option Group) (spot : Spot) (r : Rewrite) (b : Bool) → r.is_also ≡ b → b ≡ true → is_some x ≡ true
    → Begins (record { parts = ps; blocks = os; group = x }) (and_part spot (if b then trees.Also r else trees.Id r) (record { parts = ps; blocks = os; group = x })) (record { spot = spot; statement = statements.Rewrite r })
also_begins ps os x spot r false e f m = absurd cc
also_begins ps os None spot r true e f m = absurd cc
also_begins ps [] (Some y) spot r true e f m =
    sym (append-nil (map part_spot ps ++ y.spot ∷ [])) ∙ ap (λ (x : Bool). (map part_spot ps ++ y.spot ∷ []) ++ (if x then [] else spot ∷ [])) (sym e)
also_begins ps (o ∷ os) (Some y) spot r true e f m = sym (append-nil (map part_spot ps ++ outermost o os ∷ []))

also_part_begins : (g : Grown) (spot : Spot) (s : Statement) → is_also s ≡ true → is_some g.group ≡ true → Begins g (and_part spot (tree_part_of s) g) (record { spot = spot; statement = s })
also_part_begins g spot (statements.Rewrite r) f m = also_begins g.parts g.blocks g.group spot r r.is_also refl f m
also_part_begins g spot _ f m = absurd cc

statement_begins : (g : Grown) (p : Placed) (vs : List Within) → opened p.statement (within_all g.blocks) ≡ Some vs → (not (is_also p.statement) || is_some g.group) ≡ true → Begins g (grown_by g p) p
statement_begins g p vs e may = by_also (is_also p.statement) refl may where
  by_also : (b : Bool) → is_also p.statement ≡ b → (not b || is_some g.group) ≡ true → Begins g (and_part p.spot (tree_part_of p.statement) (if b then g else group_ended g)) p
  by_also true f m = also_part_begins g p.spot p.statement f m
  by_also false f m = after_begins p g (group_ended g) vs (ended g.parts g.blocks g.group) (ended_spots g.parts g.blocks g.group) f e

-- ---- all of them

all_begin : (placed : List Placed) (g : Grown) (vs : List Within) → all_opened (within_all g.blocks) (map statement_of placed) ≡ Some vs → are_led (is_some g.group) (map statement_of placed) ≡ true
    → spots_of (fold grown_by g placed) ≡ spots_of g ++ beginnings (Some (within_all g.blocks)) placed
all_begin [] g vs e led = sym (append-nil (spots_of g))
all_begin (p ∷ ps) g vs e led = by_first (opened p.statement (within_all g.blocks)) refl e (λ h more rest. all_begin ps h vs more rest) where
  by_first : (o : Option (List Within)) → opened p.statement (within_all g.blocks) ≡ o → option_and_then (λ (us : List Within). all_opened us (map statement_of ps)) o ≡ Some vs
      → ((h : Grown) → all_opened (within_all h.blocks) (map statement_of ps) ≡ Some vs → are_led (is_some h.group) (map statement_of ps) ≡ true → spots_of (fold grown_by h ps) ≡ spots_of h ++ beginnings (Some (within_all h.blocks)) ps)
      → spots_of (fold grown_by (grown_by g p) ps) ≡ spots_of g ++ (begins_here (Some (within_all g.blocks)) p ++ beginnings (opened p.statement (within_all g.blocks)) ps)
  by_first None f m others = absurd cc
  by_first (Some us) f m others =
      let both = and_parts (not (is_also p.statement) || is_some g.group) (are_led (is_rewrite p.statement) (map statement_of ps)) led in
      let one = step g p us f both.0 in
      let h = grown_by g p in
      let rest = others h
      (subst (λ (ws : List Within). all_opened ws (map statement_of ps) ≡ Some vs) (sym one.opens) m)
      (subst (λ (x : Bool). are_led x (map statement_of ps) ≡ true) (sym one.led) both.1) in
      let here = begins_here (Some (within_all g.blocks)) p in
      rest ∙ ap (λ (xs : List Spot). xs ++ beginnings (Some (within_all h.blocks)) ps) (statement_begins g p us f both.0)
      ∙ append_assoc (spots_of g) here (beginnings (Some (within_all h.blocks)) ps)
      ∙ ap (λ (o : Option (List Within)). spots_of g ++ (here ++ beginnings o ps)) (ap (λ (ws : List Within). Some ws) one.opens ∙ sym f)

spots_alone : (h : Grown) → h.group ≡ None → h.blocks ≡ [] → spots_of h ≡ map part_spot h.parts
spots_alone h none nil =
    ap (λ (os : List OpenBlock). map part_spot h.parts ++ pending os h.group) nil ∙ ap (λ (x : Option Group). map part_spot h.parts ++ group_spot x) none ∙ append-nil (map part_spot h.parts)

pub parts_begin : (placed : List Placed) → AreNested (map statement_of placed) → map part_spot (parts_grown placed) ≡ beginnings (Some []) placed
parts_begin placed nested =
    let g : Grown = fold grown_by nothing_grown placed in
    let k = ended g.parts g.blocks g.group in
    let opens = (steps placed nothing_grown [] nested.closed nested.led).opens in
    sym (spots_alone (group_ended g) k.none (no_blocks (group_ended g).blocks (k.opens ∙ opens))) ∙ ended_spots g.parts g.blocks g.group ∙ all_begin placed nothing_grown [] nested.closed nested.led
