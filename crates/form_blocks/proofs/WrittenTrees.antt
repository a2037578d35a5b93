-- The tree of a module's statements is written as these.
use Rattle.std.proofs.Common.{◌≡◌, Bool, true, false, not, ◌||◌, List, [], ◌∷◌, ◌++◌, map, Option, Some, None, refl, sym, ap, subst, ◌∙◌, append_assoc}
use Rattle.std.specs.Prelude.{if◌then◌else◌, is_some, fold, option_and_then}
use Rattle.std.proofs.lemmas.Bool.{and_parts}
use Rattle.std.proofs.lemmas.List.{append-nil, map-append, flat_map_more}
use Rattle.std.proofs.lemmas.Option.{same_Some}
use Rattle.form_base.specs.declared.spot.Spot.{Spot}
use Rattle.form_base.specs.declared.block.Action.TheVariants as acting
use Rattle.form_ast.specs.declared.module.ModulePart.TheVariants as in_module
use Rattle.form_ast.specs.declared.module.Outer.{Outer}
use Rattle.form_ast.specs.declared.module.Outer.TheVariants as outers
use Rattle.form_ast.specs.declared.module.PlacedPart.{PlacedPart}
use Rattle.form_ast.specs.declared.module.WrittenLeaf.{WrittenLeaf}
use Rattle.form_ast.specs.declared.module.WrittenLeaf.TheVariants as leaves
use Rattle.form_ast.specs.declared.statement.Placed.{Placed}
use Rattle.form_ast.specs.declared.statement.Rewrite.{Rewrite}
use Rattle.form_ast.specs.declared.statement.Statement.{Statement}
use Rattle.form_ast.specs.declared.statement.Statement.TheVariants as statements
use Rattle.form_ast.specs.Conditions.{Condition}
use Rattle.form_ast.specs.Written.{WrittenAction, WrittenBranch, as_also, as_id, branches_written, in_row, leaf_written, outer_written, part_written, parts_written, statement_of, written}
use Rattle.form_ast.proofs.Rows.{branch_rows, written_plain, written_repeat, written_within, written_choose}
use Rattle.form_blocks.specs.declared.group.Group.{Group}
use Rattle.form_blocks.specs.declared.open_blocks.OpenBlock.{OpenBlock}
use Rattle.form_blocks.specs.declared.tree_part.Opening.{Opening}
use Rattle.form_blocks.specs.declared.tree_part.Opening.TheVariants as openings
use Rattle.form_blocks.specs.declared.tree_part.TreePart.TheVariants as trees
use Rattle.form_blocks.specs.Growing.{Grown, action_by, action_in, and_action, and_outer, and_part, block_begun, branch_in, closed_in, group_ended, group_in, grown_by, is_also, nothing_grown, parts_grown, tree_part_of}
use Rattle.form_blocks.specs.Nesting.{AreNested, Within, in_repeat, in_branch, in_else, in_argument, all_opened, are_led, argument_ended, further, if_ended, is_rewrite, opened, outside, repeat_ended}

-- ---- an open block, up to what is read of it

abbrev rows_from : (Condition → Statement) → List WrittenBranch → List Statement
rows_from begins bs = branches_written begins (map branch_rows bs)

abbrev row_in : List WrittenAction → List Statement
row_in inside = in_row (map written inside)

abbrev a_branch : Condition → List WrittenAction → WrittenBranch
a_branch c inside = record { condition = c; block = inside }

row_push : (inside : List WrittenAction) (a : WrittenAction) → row_in (inside ++ a ∷ []) ≡ row_in inside ++ written a
row_push inside a = ap in_row (map-append written inside (a ∷ [])) ∙ sym (flat_map_more (λ (row : List Statement). row) [] (map written inside) (written a))

branch_push : (begins : Condition → Statement) (bs : List WrittenBranch) (c : Condition) (inside : List WrittenAction) (a : WrittenAction)
    → rows_from begins (bs ++ a_branch c (inside ++ a ∷ []) ∷ []) ≡ rows_from begins (bs ++ a_branch c inside ∷ []) ++ written a
branch_push begins [] c inside a =
    ap (λ (x : List Statement). begins c ∷ x)
    (append-nil (row_in (inside ++ a ∷ [])) ∙ row_push inside a ∙ ap (λ (x : List Statement). x ++ written a) (sym (append-nil (row_in inside))))
branch_push begins (b ∷ bs) c inside a =
    ap (λ (x : List Statement). begins b.condition ∷ row_in b.block ++ x) (branch_push statements.ElseIf bs c inside a)
    ∙ ap (λ (x : List Statement). begins b.condition ∷ x) (sym (append_assoc (row_in b.block) (rows_from statements.ElseIf (bs ++ a_branch c inside ∷ [])) (written a)))

branch_next : (begins : Condition → Statement) (bs : List WrittenBranch) (b : WrittenBranch) (c : Condition)
    → rows_from begins ((bs ++ b ∷ []) ++ a_branch c [] ∷ []) ≡ rows_from begins (bs ++ b ∷ []) ++ statements.ElseIf c ∷ []
branch_next begins [] b c =
    ap (λ (x : List Statement). begins b.condition ∷ x) (ap (λ (x : List Statement). x ++ statements.ElseIf c ∷ []) (sym (append-nil (row_in b.block))))
branch_next begins (d ∷ bs) b c =
    ap (λ (x : List Statement). begins d.condition ∷ row_in d.block ++ x) (branch_next statements.ElseIf bs b c)
    ∙ ap (λ (x : List Statement). begins d.condition ∷ x) (sym (append_assoc (row_in d.block) (rows_from statements.ElseIf (bs ++ b ∷ [])) (statements.ElseIf c ∷ [])))

abbrev front_by : Opening → List WrittenBranch → List WrittenAction → List Statement
front_by openings.Repeat bs inside = statements.Repeat ∷ row_in inside
front_by (openings.Argument fs) bs inside = statements.Argument fs ∷ row_in inside
front_by (openings.If c) bs inside = rows_from statements.If (bs ++ a_branch c inside ∷ [])
front_by openings.Else bs inside = rows_from statements.If bs ++ statements.Else ∷ row_in inside

front_push : (x : Opening) (bs : List WrittenBranch) (inside : List WrittenAction) (a : WrittenAction) → front_by x bs (inside ++ a ∷ []) ≡ front_by x bs inside ++ written a
front_push openings.Repeat bs inside a = ap (λ (y : List Statement). statements.Repeat ∷ y) (row_push inside a)
front_push (openings.Argument fs) bs inside a = ap (λ (y : List Statement). statements.Argument fs ∷ y) (row_push inside a)
front_push (openings.If c) bs inside a = branch_push statements.If bs c inside a
front_push openings.Else bs inside a =
    ap (λ (y : List Statement). rows_from statements.If bs ++ statements.Else ∷ y) (row_push inside a)
    ∙ sym (append_assoc (rows_from statements.If bs) (statements.Else ∷ row_in inside) (written a))

abbrev end_by : Opening → Statement
end_by openings.Repeat = statements.EndRepeat
end_by (openings.Argument fs) = statements.EndArgument
end_by (openings.If c) = statements.EndIf
end_by openings.Else = statements.EndIf

closed_row : (x : Opening) (bs : List WrittenBranch) (inside : List WrittenAction) → written (action_by x bs inside) ≡ front_by x bs inside ++ end_by x ∷ []
closed_row openings.Repeat bs inside = written_repeat inside
closed_row (openings.Argument fs) bs inside = written_within fs inside
closed_row (openings.If c) bs inside =
    written_choose (bs ++ a_branch c inside ∷ []) None
    ∙ ap (λ (y : List Statement). y ++ statements.EndIf ∷ []) (append-nil (rows_from statements.If (bs ++ a_branch c inside ∷ [])))
closed_row openings.Else bs inside = written_choose bs (Some inside)

-- ---- a module behind some of its statements

abbrev onto : List Statement → List OpenBlock → List Statement
onto front [] = front
onto front (o ∷ os) = onto front os ++ front_by o.opening o.branches o.actions

abbrev behind : Option Group → List Statement → List Statement
behind None row = row
behind (Some x) row = row ++ as_id x.id ∷ map as_also x.others

-- what it is written as so far
abbrev row_of : Grown → List Statement
row_of g = behind g.group (onto (parts_written g.parts) g.blocks)

abbrev pub within_by : Opening → Within
within_by openings.Repeat = in_repeat
within_by (openings.Argument fs) = in_argument
within_by (openings.If c) = in_branch
within_by openings.Else = in_else

abbrev pub within_of : OpenBlock → Within
within_of o = within_by o.opening

abbrev pub within_all : List OpenBlock → List Within
within_all os = map within_of os

abbrev pub without : List PlacedPart → List OpenBlock → Grown
without ps os = record { parts = ps; blocks = os; group = None }

abbrev block : Spot → Opening → List WrittenBranch → List WrittenAction → OpenBlock
block spot x bs inside = record { spot = spot; opening = x; branches = bs; actions = inside }

abbrev part_row : PlacedPart → List Statement
part_row p = part_written p.part

-- ---- what is put last

record Put (ps : List PlacedPart) (os : List OpenBlock) (more : List Statement) (k : Grown) : Type 0 where
  row : row_of k ≡ onto (parts_written ps) os ++ more
  opens : within_all k.blocks ≡ within_all os
  none : k.group ≡ None

put : (ps : List PlacedPart) (os : List OpenBlock) (spot : Spot) (a : WrittenAction) → Put ps os (written a) (action_in os spot a (without ps os))
put ps [] spot a = record {
  row = sym (flat_map_more part_row [] ps (record { spot = spot; part = in_module.Action a }));
  opens = refl;
  none = refl;
}
put ps (o ∷ os) spot a = record {
  row = ap (λ (y : List Statement). onto (parts_written ps) os ++ y) (front_push o.opening o.branches o.actions a)
      ∙ sym (append_assoc (onto (parts_written ps) os) (front_by o.opening o.branches o.actions) (written a));
  opens = refl;
  none = refl;
}

pub record Left (ps : List PlacedPart) (os : List OpenBlock) (x : Option Group) (k : Grown) : Type 0 where
  pub row : row_of k ≡ behind x (onto (parts_written ps) os)
  pub opens : within_all k.blocks ≡ within_all os
  pub none : k.group ≡ None

-- the `id` that is the last statement ends
pub ended : (ps : List PlacedPart) (os : List OpenBlock) (x : Option Group) → Left ps os x (group_in x (record { parts = ps; blocks = os; group = x }))
ended ps os None = record { row = refl; opens = refl; none = refl }
ended ps os (Some y) =
    let p = put ps os y.spot (acting.Plain (leaves.Rewrite y.id y.others)) in
    record {
      row = p.row ∙ ap (λ (r : List Statement). onto (parts_written ps) os ++ r) (written_plain (leaves.Rewrite y.id y.others));
      opens = p.opens;
      none = p.none;
    }

-- ---- one statement

pub record Step (g k : Grown) (s : Statement) (vs : List Within) : Type 0 where
  pub row : row_of k ≡ row_of g ++ s ∷ []
  pub opens : within_all k.blocks ≡ vs
  pub led : is_some k.group ≡ is_rewrite s

outer_step : (ps : List PlacedPart) (os : List OpenBlock) (spot : Spot) (o : Outer) (vs : List Within) → is_rewrite (outer_written o) ≡ false → outside (within_all os) ≡ Some vs
    → Step (without ps os) (and_outer spot o (without ps os)) (outer_written o) vs
outer_step ps [] spot o vs f e = record {
  row = sym (flat_map_more part_row [] ps (record { spot = spot; part = in_module.Outer o }));
  opens = same_Some [] vs e;
  led = sym f;
}
outer_step ps (b ∷ os) spot o vs f e = absurd cc

leaf_step : (ps : List PlacedPart) (os : List OpenBlock) (spot : Spot) (l : WrittenLeaf) (s : Statement) (vs : List Within) → leaf_written l ≡ s ∷ [] → is_rewrite s ≡ false → Some (within_all os) ≡ Some vs
    → Step (without ps os) (and_action spot (acting.Plain l) (without ps os)) s vs
leaf_step ps os spot l s vs w f e =
    let p = put ps os spot (acting.Plain l) in
    record {
      row = p.row ∙ ap (λ (r : List Statement). onto (parts_written ps) os ++ r) (written_plain l ∙ w);
      opens = p.opens ∙ same_Some (within_all os) vs e;
      led = ap is_some p.none ∙ sym f;
    }

begun_step : (ps : List PlacedPart) (os : List OpenBlock) (spot : Spot) (x : Opening) (s : Statement) (vs : List Within) → front_by x [] [] ≡ s ∷ [] → is_rewrite s ≡ false → Some (within_by x ∷ within_all os) ≡ Some vs
    → Step (without ps os) (block_begun spot x (without ps os)) s vs
begun_step ps os spot x s vs w f e = record {
  row = ap (λ (r : List Statement). onto (parts_written ps) os ++ r) w;
  opens = same_Some (within_by x ∷ within_all os) vs e;
  led = sym f;
}

else_if_step : (ps : List PlacedPart) (os : List OpenBlock) (spot : Spot) (x : Opening) (bs : List WrittenBranch) (inside : List WrittenAction) (c : Condition) (vs : List Within)
    → further in_branch (within_by x ∷ within_all os) ≡ Some vs
    → Step (without ps (block spot x bs inside ∷ os)) (branch_in (block spot x bs inside ∷ os) (openings.If c) (without ps (block spot x bs inside ∷ os))) (statements.ElseIf c) vs
else_if_step ps os spot (openings.If d) bs inside c vs e = record {
  row = ap (λ (r : List Statement). onto (parts_written ps) os ++ r) (branch_next statements.If bs (a_branch d inside) c)
      ∙ sym (append_assoc (onto (parts_written ps) os) (front_by (openings.If d) bs inside) (statements.ElseIf c ∷ []));
  opens = same_Some (in_branch ∷ within_all os) vs e;
  led = refl;
}
else_if_step ps os spot _ bs inside c vs e = absurd cc

else_step : (ps : List PlacedPart) (os : List OpenBlock) (spot : Spot) (x : Opening) (bs : List WrittenBranch) (inside : List WrittenAction) (vs : List Within)
    → further in_else (within_by x ∷ within_all os) ≡ Some vs
    → Step (without ps (block spot x bs inside ∷ os)) (branch_in (block spot x bs inside ∷ os) openings.Else (without ps (block spot x bs inside ∷ os))) statements.Else vs
else_step ps os spot (openings.If d) bs inside vs e = record {
  row = sym (append_assoc (onto (parts_written ps) os) (front_by (openings.If d) bs inside) (statements.Else ∷ []));
  opens = same_Some (in_else ∷ within_all os) vs e;
  led = refl;
}
else_step ps os spot _ bs inside vs e = absurd cc

ended_step : (ps : List PlacedPart) (os : List OpenBlock) (spot : Spot) (x : Opening) (bs : List WrittenBranch) (inside : List WrittenAction) (s : Statement) (vs : List Within)
    → end_by x ≡ s → is_rewrite s ≡ false → Some (within_all os) ≡ Some vs
    → Step (without ps (block spot x bs inside ∷ os)) (closed_in (block spot x bs inside ∷ os) (without ps (block spot x bs inside ∷ os))) s vs
ended_step ps os spot x bs inside s vs w f e =
    let p = put ps os spot (action_by x bs inside) in
    record {
      row = p.row
          ∙ ap (λ (r : List Statement). onto (parts_written ps) os ++ r) (closed_row x bs inside ∙ ap (λ (t : Statement). front_by x bs inside ++ t ∷ []) w)
          ∙ sym (append_assoc (onto (parts_written ps) os) (front_by x bs inside) (s ∷ []));
      opens = p.opens ∙ same_Some (within_all os) vs e;
      led = ap is_some p.none ∙ sym f;
    }

repeat_end_step : (ps : List PlacedPart) (os : List OpenBlock) (spot : Spot) (x : Opening) (bs : List WrittenBranch) (inside : List WrittenAction) (vs : List Within)
    → repeat_ended (within_by x ∷ within_all os) ≡ Some vs
    → Step (without ps (block spot x bs inside ∷ os)) (closed_in (block spot x bs inside ∷ os) (without ps (block spot x bs inside ∷ os))) statements.EndRepeat vs
repeat_end_step ps os spot openings.Repeat bs inside vs e = ended_step ps os spot openings.Repeat bs inside statements.EndRepeat vs refl refl e
repeat_end_step ps os spot _ bs inside vs e = absurd cc

if_end_step : (ps : List PlacedPart) (os : List OpenBlock) (spot : Spot) (x : Opening) (bs : List WrittenBranch) (inside : List WrittenAction) (vs : List Within)
    → if_ended (within_by x ∷ within_all os) ≡ Some vs
    → Step (without ps (block spot x bs inside ∷ os)) (closed_in (block spot x bs inside ∷ os) (without ps (block spot x bs inside ∷ os))) statements.EndIf vs
if_end_step ps os spot (openings.If c) bs inside vs e = ended_step ps os spot (openings.If c) bs inside statements.EndIf vs refl refl e
if_end_step ps os spot openings.Else bs inside vs e = ended_step ps os spot openings.Else bs inside statements.EndIf vs refl refl e
if_end_step ps os spot _ bs inside vs e = absurd cc

argument_end_step : (ps : List PlacedPart) (os : List OpenBlock) (spot : Spot) (x : Opening) (bs : List WrittenBranch) (inside : List WrittenAction) (vs : List Within)
    → argument_ended (within_by x ∷ within_all os) ≡ Some vs
    → Step (without ps (block spot x bs inside ∷ os)) (closed_in (block spot x bs inside ∷ os) (without ps (block spot x bs inside ∷ os))) statements.EndArgument vs
argument_end_step ps os spot (openings.Argument fs) bs inside vs e = ended_step ps os spot (openings.Argument fs) bs inside statements.EndArgument vs refl refl e
argument_end_step ps os spot _ bs inside vs e = absurd cc

id_step : (ps : List PlacedPart) (os : List OpenBlock) (spot : Spot) (r : Rewrite) (vs : List Within) (b : Bool) → r.is_also ≡ b → b ≡ false → Some (within_all os) ≡ Some vs
    → Step (without ps os) (and_part spot (if b then trees.Also r else trees.Id r) (without ps os)) (statements.Rewrite r) vs
id_step ps os spot r vs true e f g = absurd cc
id_step ps os spot r vs false e f g = record {
  row = ap (λ (x : Bool). onto (parts_written ps) os ++ statements.Rewrite (record r { is_also = x }) ∷ []) (sym e);
  opens = same_Some (within_all os) vs g;
  led = refl;
}

-- within the innermost block, if there is one
else_if_in : (ps : List PlacedPart) (os : List OpenBlock) (c : Condition) (vs : List Within) → further in_branch (within_all os) ≡ Some vs
    → Step (without ps os) (branch_in os (openings.If c) (without ps os)) (statements.ElseIf c) vs
else_if_in ps [] c vs e = absurd cc
else_if_in ps (o ∷ os) c vs e = else_if_step ps os o.spot o.opening o.branches o.actions c vs e

else_in : (ps : List PlacedPart) (os : List OpenBlock) (vs : List Within) → further in_else (within_all os) ≡ Some vs
    → Step (without ps os) (branch_in os openings.Else (without ps os)) statements.Else vs
else_in ps [] vs e = absurd cc
else_in ps (o ∷ os) vs e = else_step ps os o.spot o.opening o.branches o.actions vs e

repeat_end_in : (ps : List PlacedPart) (os : List OpenBlock) (vs : List Within) → repeat_ended (within_all os) ≡ Some vs → Step (without ps os) (closed_in os (without ps os)) statements.EndRepeat vs
repeat_end_in ps [] vs e = absurd cc
repeat_end_in ps (o ∷ os) vs e = repeat_end_step ps os o.spot o.opening o.branches o.actions vs e

if_end_in : (ps : List PlacedPart) (os : List OpenBlock) (vs : List Within) → if_ended (within_all os) ≡ Some vs → Step (without ps os) (closed_in os (without ps os)) statements.EndIf vs
if_end_in ps [] vs e = absurd cc
if_end_in ps (o ∷ os) vs e = if_end_step ps os o.spot o.opening o.branches o.actions vs e

argument_end_in : (ps : List PlacedPart) (os : List OpenBlock) (vs : List Within) → argument_ended (within_all os) ≡ Some vs → Step (without ps os) (closed_in os (without ps os)) statements.EndArgument vs
argument_end_in ps [] vs e = absurd cc
argument_end_in ps (o ∷ os) vs e = argument_end_step ps os o.spot o.opening o.branches o.actions vs e

part_step : (ps : List PlacedPart) (os : List OpenBlock) (spot : Spot) (vs : List Within) (s : Statement) → is_also s ≡ false → opened s (within_all os) ≡ Some vs
    → Step (without ps os) (and_part spot (tree_part_of s) (without ps os)) s vs
part_step ps os spot vs (statements.Names d ns) f e = outer_step ps os spot (outers.Names d ns) vs refl e
part_step ps os spot vs (statements.Indices ns) f e = outer_step ps os spot (outers.Indices ns) vs refl e
part_step ps os spot vs (statements.Dimension d) f e = outer_step ps os spot (outers.Dimension d) vs refl e
part_step ps os spot vs (statements.Set n es) f e = outer_step ps os spot (outers.Set n es) vs refl e
part_step ps os spot vs statements.Statistics f e = outer_step ps os spot outers.Statistics vs refl e
part_step ps os spot vs (statements.Drop ns) f e = outer_step ps os spot (outers.Drop ns) vs refl e
part_step ps os spot vs (statements.Skip ns) f e = outer_step ps os spot (outers.Skip ns) vs refl e
part_step ps os spot vs (statements.Local n right) f e = outer_step ps os spot (outers.Local n right) vs refl e
part_step ps os spot vs (statements.Print ns) f e = outer_step ps os spot (outers.Print ns) vs refl e
part_step ps os spot vs (statements.Rewrite r) f e = id_step ps os spot r vs r.is_also refl f e
part_step ps os spot vs (statements.Multiply side x) f e = leaf_step ps os spot (leaves.Multiply side x) (statements.Multiply side x) vs refl refl e
part_step ps os spot vs (statements.Sum ns) f e = leaf_step ps os spot (leaves.Sum ns) (statements.Sum ns) vs refl refl e
part_step ps os spot vs (statements.SumOver n ks) f e = leaf_step ps os spot (leaves.SumOver n ks) (statements.SumOver n ks) vs refl refl e
part_step ps os spot vs statements.Discard f e = leaf_step ps os spot leaves.Discard statements.Discard vs refl refl e
part_step ps os spot vs statements.Repeat f e = begun_step ps os spot openings.Repeat statements.Repeat vs refl refl e
part_step ps os spot vs (statements.If c) f e = begun_step ps os spot (openings.If c) (statements.If c) vs refl refl e
part_step ps os spot vs (statements.Argument fs) f e = begun_step ps os spot (openings.Argument fs) (statements.Argument fs) vs refl refl e
part_step ps os spot vs (statements.ElseIf c) f e = else_if_in ps os c vs e
part_step ps os spot vs statements.Else f e = else_in ps os vs e
part_step ps os spot vs statements.EndRepeat f e = repeat_end_in ps os vs e
part_step ps os spot vs statements.EndIf f e = if_end_in ps os vs e
part_step ps os spot vs statements.EndArgument f e = argument_end_in ps os vs e

-- a statement that is no `also`, behind what is left of an `id`
after : (spot : Spot) (s : Statement) (g h : Grown) (vs : List Within) → Left g.parts g.blocks g.group h → is_also s ≡ false → opened s (within_all g.blocks) ≡ Some vs
    → Step g (and_part spot (tree_part_of s) h) s vs
after spot s g h vs k f e =
    let made : Option Group → Grown = λ x. record { parts = h.parts; blocks = h.blocks; group = x } in
    let same : without h.parts h.blocks ≡ h = ap made (sym k.none) in
    let here : Step h (and_part spot (tree_part_of s) h) s vs =
    subst (λ (y : Grown). Step y (and_part spot (tree_part_of s) y) s vs) same (part_step h.parts h.blocks spot vs s f (ap (opened s) k.opens ∙ e)) in
    record { row = here.row ∙ ap (λ (r : List Statement). r ++ s ∷ []) k.row; opens = here.opens; led = here.led }

also_by : (ps : List PlacedPart) (os : List OpenBlock) (x : Option Group) (spot : Spot) (r : Rewrite) (vs : List Within) (b : Bool) → r.is_also ≡ b → b ≡ true → is_some x ≡ true → Some (within_all os) ≡ Some vs
    → Step (record { parts = ps; blocks = os; group = x }) (and_part spot (if b then trees.Also r else trees.Id r) (record { parts = ps; blocks = os; group = x })) (statements.Rewrite r) vs
also_by ps os x spot r vs false e f m g = absurd cc
also_by ps os None spot r vs true e f m g = absurd cc
also_by ps os (Some y) spot r vs true e f m g =
    let front = onto (parts_written ps) os in
    record {
      row = ap (λ (t : List Statement). front ++ as_id y.id ∷ t)
          (map-append as_also y.others (r ∷ []) ∙ ap (λ (t : Bool). map as_also y.others ++ statements.Rewrite (record r { is_also = t }) ∷ []) (sym e))
          ∙ sym (append_assoc front (as_id y.id ∷ map as_also y.others) (statements.Rewrite r ∷ []));
      opens = same_Some (within_all os) vs g;
      led = refl;
    }

also_step : (g : Grown) (spot : Spot) (vs : List Within) (s : Statement) → is_also s ≡ true → is_some g.group ≡ true → opened s (within_all g.blocks) ≡ Some vs → Step g (and_part spot (tree_part_of s) g) s vs
also_step g spot vs (statements.Rewrite r) f m e = also_by g.parts g.blocks g.group spot r vs r.is_also refl f m e
also_step g spot vs _ f m e = absurd cc

pub step : (g : Grown) (p : Placed) (vs : List Within) → opened p.statement (within_all g.blocks) ≡ Some vs → (not (is_also p.statement) || is_some g.group) ≡ true → Step g (grown_by g p) p.statement vs
step g p vs e may = by_also (is_also p.statement) refl may where
  by_also : (b : Bool) → is_also p.statement ≡ b → (not b || is_some g.group) ≡ true → Step g (and_part p.spot (tree_part_of p.statement) (if b then g else group_ended g)) p.statement vs
  by_also true f m = also_step g p.spot vs p.statement f m e
  by_also false f m = after p.spot p.statement g (group_ended g) vs (ended g.parts g.blocks g.group) f e

-- ---- all of them

pub record Steps (g : Grown) (placed : List Placed) (vs : List Within) : Type 0 where
  pub row : row_of (fold grown_by g placed) ≡ row_of g ++ map statement_of placed
  pub opens : within_all (fold grown_by g placed).blocks ≡ vs

pub steps : (placed : List Placed) (g : Grown) (vs : List Within) → all_opened (within_all g.blocks) (map statement_of placed) ≡ Some vs → are_led (is_some g.group) (map statement_of placed) ≡ true → Steps g placed vs
steps [] g vs e led = record { row = sym (append-nil (row_of g)); opens = same_Some (within_all g.blocks) vs e }
steps (p ∷ ps) g vs e led =
    by_first (opened p.statement (within_all g.blocks)) refl e (λ h more rest. steps ps h vs more rest)
  where
    by_first : (o : Option (List Within)) → opened p.statement (within_all g.blocks) ≡ o → option_and_then (λ (us : List Within). all_opened us (map statement_of ps)) o ≡ Some vs
        → ((h : Grown) → all_opened (within_all h.blocks) (map statement_of ps) ≡ Some vs → are_led (is_some h.group) (map statement_of ps) ≡ true → Steps h ps vs) → Steps g (p ∷ ps) vs
    by_first None f m others = absurd cc
    by_first (Some us) f m others =
        let both = and_parts (not (is_also p.statement) || is_some g.group) (are_led (is_rewrite p.statement) (map statement_of ps)) led in
        let one = step g p us f both.0 in
        let h = grown_by g p in
        let rest = others h
        (subst (λ (ws : List Within). all_opened ws (map statement_of ps) ≡ Some vs) (sym one.opens) m)
        (subst (λ (x : Bool). are_led x (map statement_of ps) ≡ true) (sym one.led) both.1) in
        record {
          row = rest.row ∙ ap (λ (r : List Statement). r ++ map statement_of ps) one.row ∙ append_assoc (row_of g) (p.statement ∷ []) (map statement_of ps);
          opens = rest.opens;
        }

pub no_blocks : (os : List OpenBlock) → within_all os ≡ [] → os ≡ []
no_blocks [] e = refl
no_blocks (o ∷ os) e = cc

row_alone : (h : Grown) → h.group ≡ None → h.blocks ≡ [] → row_of h ≡ parts_written h.parts
row_alone h none nil =
    ap (λ (x : Option Group). behind x (onto (parts_written h.parts) h.blocks)) none ∙ ap (λ (os : List OpenBlock). onto (parts_written h.parts) os) nil

pub tree_written : (placed : List Placed) → AreNested (map statement_of placed) → parts_written (parts_grown placed) ≡ map statement_of placed
tree_written placed nested =
    let all = steps placed nothing_grown [] nested.closed nested.led in
    let g : Grown = fold grown_by nothing_grown placed in
    let k = ended g.parts g.blocks g.group in
    sym (row_alone (group_ended g) k.none (no_blocks (group_ended g).blocks (k.opens ∙ all.opens))) ∙ k.row ∙ all.row
