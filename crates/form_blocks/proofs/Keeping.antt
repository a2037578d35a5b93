-- What holds of all statements that are read holds of those of the module.
use Rattle.std.proofs.Common.{Bool, true, false, ◌||◌, List, [], ◌∷◌, ◌++◌, Some}
use Rattle.std.specs.Prelude.{All, if◌then◌else◌}
use Rattle.std.proofs.lemmas.List.Elements.{All-head, All-tail, All-push}
use Rattle.form_base.specs.declared.spot.Spot.{Spot}
use Rattle.form_ast.specs.declared.statement.Placed.{Placed}
use Rattle.form_blocks.specs.declared.open.BlockKind.{BlockKind}
use Rattle.form_blocks.specs.declared.open.BlockKind.TheVariants as kinds
use Rattle.form_blocks.specs.declared.open.Open.{Open}
use Rattle.form_blocks.specs.declared.role.Role.{Role}
use Rattle.form_blocks.specs.declared.role.Role.TheVariants as roles
use Rattle.form_blocks.specs.Blocks.{Read, Unfinished, and_branch, and_end, and_last, and_lines, and_opening, and_read, and_statement, begun_branch, end_placed, inner_left, is_block, lines_ended, may_stand, outer, refused, role_of, unclosed}

module _ (P : Placed → Type 0) (ends : (o : Open) → P (end_placed o)) where
  abbrev Keeps : Unfinished → Type 0
  Keeps b = All P b.statements

  lines_kept : (lines : List Placed) (b : Unfinished) → All P lines → Keeps b → Keeps (and_lines lines b)
  lines_kept [] b h k = k
  lines_kept (l ∷ ls) b h k = lines_kept ls (and_opening true b l) (All-tail P l ls h) (All-push P b.statements l k (All-head P l ls h))

  inner_kept : (kind : BlockKind) (os : List Open) (b : Unfinished) → Keeps b → Keeps (inner_left kind os b)
  inner_kept kind [] b k = k
  inner_kept kind (o ∷ os) b k = by_block (is_block kind o) (inner_kept kind os (record b { opens = os; fault = unclosed b.fault o }) k) where
    by_block : (x : Bool) → Keeps (inner_left kind os (record b { opens = os; fault = unclosed b.fault o })) → Keeps (if x then b else inner_left kind os (record b { opens = os; fault = unclosed b.fault o }))
    by_block true h = k
    by_block false h = h

  ended_kept : (os : List Open) (b : Unfinished) → Keeps b → Keeps (lines_ended os b)
  ended_kept [] b k = k
  ended_kept (o ∷ os) b k = by_line o.is_line (ended_kept os (and_statement (record b { opens = os }) (end_placed o)) (All-push P b.statements (end_placed o) k (ends o))) where
    by_line : (x : Bool) → Keeps (lines_ended os (and_statement (record b { opens = os }) (end_placed o))) → Keeps (if x then lines_ended os (and_statement (record b { opens = os }) (end_placed o)) else b)
    by_line true h = h
    by_line false h = k

  branch_kept : (is_else : Bool) (spot : Spot) (os : List Open) (b : Unfinished) → Keeps b → Keeps (begun_branch is_else spot os b)
  branch_kept is_else spot [] b k = k
  branch_kept is_else spot (o ∷ os) b k = by_else o.has_else where
    by_else : (x : Bool) → Keeps (let c = record b { opens = record o { has_else = is_else || o.has_else } ∷ os } in if x then refused spot c else c)
    by_else true = k
    by_else false = k

  last_kept : (role : Role) (spot : Spot) (b : Unfinished) (p : Placed) → P p → Keeps b → Keeps (and_last role spot b p)
  last_kept (roles.Opens kind) spot b p h k = All-push P b.statements p k h
  last_kept (roles.Ends kind) spot b p h k =
      let c = and_statement (inner_left kind b.opens b) p in
      let d : Unfinished = record c { opens = outer c.opens } in
      ended_kept d.opens d (All-push P (inner_left kind b.opens b).statements p (inner_kept kind b.opens b k) h)
  last_kept (roles.Branches is_else) spot b p h k =
      let c = and_statement (inner_left kinds.If b.opens b) p in
      branch_kept is_else spot c.opens c (All-push P (inner_left kinds.If b.opens b).statements p (inner_kept kinds.If b.opens b k) h)
  last_kept (roles.Acts is_also) spot b p h k = ended_kept (and_statement b p).opens (and_statement b p) (All-push P b.statements p k h)
  last_kept roles.Other spot b p h k = All-push P b.statements p k h

  pub read_kept : (b : Unfinished) (spot : Spot) (r : Read) → All P r.lines → P r.last → Keeps b → Keeps (and_read b spot (Some r))
  read_kept b spot r lines last k = by_place (may_stand b r.lines (role_of r.last.statement)) where
    by_place : (x : Bool) → Keeps (if x then and_last (role_of r.last.statement) spot (and_lines r.lines b) r.last else refused spot b)
    by_place true = last_kept (role_of r.last.statement) spot (and_lines r.lines b) r.last last (lines_kept r.lines b lines k)
    by_place false = k
