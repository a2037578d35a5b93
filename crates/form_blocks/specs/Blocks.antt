-- The blocks of a module: what each of its statements begins and ends, and what of that is refused.
use Rattle.std.specs.Prelude.{ℕ, ◌+◌, ◌-◌, nat_lt, nat_le, Bool, true, false, not, ◌&&◌, ◌||◌, if◌then◌else◌, List, [], ◌∷◌, ◌++◌, length, fold, slice_get, Option, Some, None}
use Rattle.std.specs.List.{list_any}
use Rattle.form_base.specs.declared.spot.Spot.{Spot}
use Rattle.form_ast.specs.declared.statement.Placed.{Placed}
use Rattle.form_ast.specs.declared.statement.Statement.{Statement}
use Rattle.form_ast.specs.declared.statement.Statement.TheVariants as statements
use Rattle.form_blocks.specs.declared.open.BlockKind.{BlockKind}
use Rattle.form_blocks.specs.declared.open.BlockKind.TheVariants as kinds
use Rattle.form_blocks.specs.declared.open.Fault.{Fault}
use Rattle.form_blocks.specs.declared.open.Open.{Open}
use Rattle.form_blocks.specs.declared.role.Role.{Role}
use Rattle.form_blocks.specs.declared.role.Role.TheVariants as roles

-- A statement as it is read: the `repeat`s and `if`s that stand before it and end with it, and the statement itself, which
-- may begin a block.
pub record Read : Type 0 where
  pub lines : List Placed
  pub last : Placed

-- A module behind some of its statements: what is open, the innermost first, the statements so far, where those that end
-- with others have their ends, and what is refused of it, the first in the order of the text.
pub record Unfinished : Type 0 where
  pub opens : List Open
  pub statements : List Placed
  pub fault : Option Fault

abbrev pub new_module : Unfinished
new_module = record { opens = []; statements = []; fault = None }

-- ---- what is refused

-- the one before which fewer statements stand; where as many stand before both, the one that was refused first
abbrev pub earlier : Fault → Option Fault → Fault
earlier f None = f
earlier f (Some g) = if nat_lt f.place g.place then f else g

abbrev pub and_fault : Fault → Option Fault → Option Fault
and_fault f fault = Some (earlier f fault)

-- the statement is refused that stands here
abbrev pub refused : Spot → Unfinished → Unfinished
refused spot b = record b { fault = and_fault (record { place = length b.statements; spot = spot }) b.fault }

-- a block that has no end is refused where it begins; what ends with it isn't refused, too
abbrev pub fault_of : Open → Fault
fault_of o = record { place = o.place; spot = o.spot }

abbrev pub unclosed : Option Fault → Open → Option Fault
unclosed fault o = if o.is_line then fault else and_fault (fault_of o) fault

-- what is refused of a module that ends here
abbrev pub fault_at_end : Unfinished → Option Fault
fault_at_end b = fold unclosed b.fault b.opens

-- ---- what statements are for blocks

abbrev pub role_of : Statement → Role
role_of statements.Repeat = roles.Opens kinds.Repeat
role_of (statements.If c) = roles.Opens kinds.If
role_of (statements.Argument fs) = roles.Opens kinds.Argument
role_of statements.EndRepeat = roles.Ends kinds.Repeat
role_of statements.EndIf = roles.Ends kinds.If
role_of statements.EndArgument = roles.Ends kinds.Argument
role_of (statements.ElseIf c) = roles.Branches false
role_of statements.Else = roles.Branches true
role_of (statements.Rewrite r) = roles.Acts r.is_also
role_of (statements.Multiply side e) = roles.Acts false
role_of (statements.Sum ns) = roles.Acts false
role_of (statements.SumOver n ks) = roles.Acts false
role_of statements.Discard = roles.Acts false
role_of s = roles.Other

abbrev pub end_of : BlockKind → Statement
end_of kinds.Repeat = statements.EndRepeat
end_of kinds.If = statements.EndIf
end_of kinds.Argument = statements.EndArgument

abbrev pub is_same_kind : BlockKind → BlockKind → Bool
is_same_kind kinds.Repeat kinds.Repeat = true
is_same_kind kinds.If kinds.If = true
is_same_kind kinds.Argument kinds.Argument = true
is_same_kind k l = false

-- a block of this kind, which doesn't end with what is behind it
abbrev pub is_block : BlockKind → Open → Bool
is_block kind o = is_same_kind o.kind kind && not o.is_line

abbrev pub has_block : BlockKind → Unfinished → Bool
has_block kind b = list_any (is_block kind) b.opens

-- ---- what begins

-- so many may be open at a place, those with them that end with what is behind them
abbrev pub most_blocks : ℕ
most_blocks = 64

abbrev pub kind_of : Role → BlockKind
kind_of (roles.Opens kind) = kind
kind_of r = kinds.Repeat

abbrev pub open_at : ℕ → Bool → Placed → Open
open_at place is_line p = record { kind = kind_of (role_of p.statement); spot = p.spot; place = place; is_line = is_line; has_else = false }

abbrev pub and_statement : Unfinished → Placed → Unfinished
and_statement b p = record b { statements = b.statements ++ p ∷ [] }

abbrev pub and_opening : Bool → Unfinished → Placed → Unfinished
and_opening is_line b p = record (and_statement b p) { opens = open_at (length b.statements) is_line p ∷ b.opens }

abbrev pub and_lines : List Placed → Unfinished → Unfinished
and_lines lines b = fold (and_opening true) b lines

-- ---- what ends

abbrev pub end_placed : Open → Placed
end_placed o = record { spot = o.spot; statement = end_of o.kind }

-- what ends with a statement or a block that ends here
abbrev pub lines_ended : List Open → Unfinished → Unfinished
lines_ended [] b = b
lines_ended (o ∷ os) b = if o.is_line then lines_ended os (and_statement (record b { opens = os }) (end_placed o)) else b

abbrev pub and_ended : Unfinished → Unfinished
and_ended b = lines_ended b.opens b

-- what is open in a block of this kind has no end
abbrev pub inner_left : BlockKind → List Open → Unfinished → Unfinished
inner_left kind [] b = b
inner_left kind (o ∷ os) b = if is_block kind o then b else inner_left kind os (record b { opens = os; fault = unclosed b.fault o })

abbrev pub outer : List Open → List Open
outer [] = []
outer (o ∷ os) = os

-- the innermost block of this kind ends
abbrev pub and_end : BlockKind → Unfinished → Placed → Unfinished
and_end kind b p = and_ended (let c = and_statement (inner_left kind b.opens b) p in record c { opens = outer c.opens })

-- a further branch of the innermost `if` begins: none behind its last one
abbrev pub begun_branch : Bool → Spot → List Open → Unfinished → Unfinished
begun_branch is_else spot [] b = b
begun_branch is_else spot (o ∷ os) b =
    let c = record b { opens = record o { has_else = is_else || o.has_else } ∷ os } in if o.has_else then refused spot c else c

abbrev pub and_branch : Bool → Spot → Unfinished → Placed → Unfinished
and_branch is_else spot b p = let c = and_statement (inner_left kinds.If b.opens b) p in begun_branch is_else spot c.opens c

-- ---- all

abbrev pub is_none : {X : Type 0} → List X → Bool
is_none [] = true
is_none (x ∷ xs) = false

abbrev pub is_rewrite : Option Placed → Bool
is_rewrite None = false
is_rewrite (Some p) = is_rewriting p.statement where
  is_rewriting : Statement → Bool
  is_rewriting (statements.Rewrite r) = true
  is_rewriting s = false

-- the last statement is an `id` or an `also`
abbrev pub ends_with_rewrite : List Placed → Bool
ends_with_rewrite statements = is_rewrite (slice_get statements (length statements - 1))

-- what stands before others is followed by what is carried out, or by a block, but by no `also`; where blocks are open,
-- nothing else stands; an `also` stands behind an `id` or an `also` alone
abbrev pub may_stand : Unfinished → List Placed → Role → Bool
may_stand b lines (roles.Opens kind) = nat_lt (length b.opens + length lines) most_blocks
may_stand b lines (roles.Ends kind) = is_none lines && has_block kind b
may_stand b lines (roles.Branches is_else) = is_none lines && has_block kinds.If b
may_stand b lines (roles.Acts true) = is_none lines && ends_with_rewrite b.statements
may_stand b lines (roles.Acts false) = nat_le (length b.opens + length lines) most_blocks
may_stand b lines roles.Other = is_none lines && is_none b.opens

abbrev pub and_last : Role → Spot → Unfinished → Placed → Unfinished
and_last (roles.Opens kind) spot b p = and_opening false b p
and_last (roles.Ends kind) spot b p = and_end kind b p
and_last (roles.Branches is_else) spot b p = and_branch is_else spot b p
and_last (roles.Acts is_also) spot b p = and_ended (and_statement b p)
and_last roles.Other spot b p = and_statement b p

-- A statement that begins here is read so; or it isn't in the grammar, and neither begins nor ends anything.
abbrev pub and_read : Unfinished → Spot → Option Read → Unfinished
and_read b spot None = refused spot b
and_read b spot (Some r) =
    let role = role_of r.last.statement in
    if may_stand b r.lines role then and_last role spot (and_lines r.lines b) r.last else refused spot b
