-- Statements in a row, where each block that begins ends.
use Rattle.std.specs.Prelude.{◌≡◌, ◌≤◌, Bool, true, false, not, ◌&&◌, ◌||◌, if◌then◌else◌, All, IfSome, fold, length, List, [], ◌∷◌, ◌++◌, Option, Some, None, option_and_then}
use Rattle.form_base.specs.declared.spot.Spot.{Spot}
use Rattle.form_ast.specs.declared.statement.Placed.{Placed}
use Rattle.form_ast.specs.declared.statement.Statement.{Statement}
use Rattle.form_ast.specs.declared.statement.Statement.TheVariants as statements
use Rattle.form_blocks.specs.Blocks.{Read, Unfinished, and_read, end_of, kind_of, most_blocks, new_module, role_of}
use Rattle.form_blocks.specs.Growing.{is_also}
use Rattle.form_blocks.specs.declared.open.BlockKind.{BlockKind}
use Rattle.form_blocks.specs.declared.role.Role.TheVariants as roles

-- what is open: a `repeat`, an `if` at a branch with a condition or at its last one, an `argument`
pub data Within : Type 0 where
  in_repeat : Within
  in_branch : Within
  in_else : Within
  in_argument : Within

-- a further branch begins, behind one with a condition
abbrev pub further : Within → List Within → Option (List Within)
further next (in_branch ∷ ws) = Some (next ∷ ws)
further next ws = None

abbrev pub repeat_ended : List Within → Option (List Within)
repeat_ended (in_repeat ∷ ws) = Some ws
repeat_ended ws = None

abbrev pub if_ended : List Within → Option (List Within)
if_ended (in_branch ∷ ws) = Some ws
if_ended (in_else ∷ ws) = Some ws
if_ended ws = None

abbrev pub argument_ended : List Within → Option (List Within)
argument_ended (in_argument ∷ ws) = Some ws
argument_ended ws = None

-- what stands in no block
abbrev pub outside : List Within → Option (List Within)
outside [] = Some []
outside (w ∷ ws) = None

-- what is open behind a statement, the innermost first; none where it may not stand there
abbrev pub opened : Statement → List Within → Option (List Within)
opened statements.Repeat ws = Some (in_repeat ∷ ws)
opened (statements.If c) ws = Some (in_branch ∷ ws)
opened (statements.Argument fs) ws = Some (in_argument ∷ ws)
opened (statements.ElseIf c) ws = further in_branch ws
opened statements.Else ws = further in_else ws
opened statements.EndRepeat ws = repeat_ended ws
opened statements.EndIf ws = if_ended ws
opened statements.EndArgument ws = argument_ended ws
opened (statements.Rewrite r) ws = Some ws
opened (statements.Multiply side e) ws = Some ws
opened (statements.Sum ns) ws = Some ws
opened (statements.SumOver n ks) ws = Some ws
opened statements.Discard ws = Some ws
opened s ws = outside ws

-- what is open behind several
abbrev pub all_opened : List Within → List Statement → Option (List Within)
all_opened ws [] = Some ws
all_opened ws (s ∷ ss) = option_and_then (λ (vs : List Within). all_opened vs ss) (opened s ws)

abbrev pub is_rewrite : Statement → Bool
is_rewrite (statements.Rewrite r) = true
is_rewrite s = false

-- each `also` stands behind an `id` or an `also`, the first statement behind one or not
abbrev pub are_led : Bool → List Statement → Bool
are_led led [] = true
are_led led (s ∷ ss) = (not (is_also s) || led) && are_led (is_rewrite s) ss

-- each block that begins ends, and each `also` belongs to an `id`
pub record AreNested (row : List Statement) : Type 0 where
  pub closed : all_opened [] row ≡ Some []
  pub led : are_led false row ≡ true

-- ---- what reading keeps

-- a statement that begins a block
abbrev pub IsOpening : Placed → Type 0
IsOpening p = (k : BlockKind) × (role_of p.statement ≡ roles.Opens k)

-- what stands before others on their line begins a block
abbrev pub HasOpenings : Option Read → Type 0
HasOpenings None = Unit {0}
HasOpenings (Some r) = All IsOpening r.lines

-- a module goes on with statements that begin at these spots and are read so, or aren't in the grammar
abbrev pub read_on : Unfinished → List (Spot × Option Read) → Unfinished
read_on b readings = fold (λ (c : Unfinished) (r : Spot × Option Read). and_read c r.0 r.1) b readings

-- a module that has these
abbrev pub all_read : List (Spot × Option Read) → Unfinished
all_read readings = read_on new_module readings

-- a statement that begins here, with nothing before it on its line
abbrev pub alone : Placed → Spot × Option Read
alone p = (p.spot, Some (record { lines = []; last = p }))

-- the end of what begins so
abbrev pub end_behind : Placed → Placed
end_behind p = record { spot = p.spot; statement = end_of (kind_of (role_of p.statement)) }

-- a statement in blocks that begin so, one in the other
abbrev pub in_blocks : List Placed → Placed → List Placed
in_blocks [] last = last ∷ []
in_blocks (line ∷ lines) last = line ∷ in_blocks lines last ++ end_behind line ∷ []

-- no more blocks are open behind any of these statements than may be, where so much is open before them
abbrev pub HaveRoom : List Within → List Statement → Type 0
HaveRoom ws [] = Unit {0}
HaveRoom ws (s ∷ ss) = IfSome (opened s ws) (λ (vs : List Within). (length vs ≤ most_blocks) × HaveRoom vs ss)

-- ---- where the parts of a module begin

-- at a statement in no block, other than an `also`
abbrev pub begins_here : Option (List Within) → Placed → List Spot
begins_here None p = []
begins_here (Some []) p = if is_also p.statement then [] else p.spot ∷ []
begins_here (Some (w ∷ ws)) p = []

-- behind statements that leave so much open
abbrev pub beginnings : Option (List Within) → List Placed → List Spot
beginnings o [] = []
beginnings o (p ∷ ps) = begins_here o p ++ beginnings (option_and_then (opened p.statement) o) ps
