-- The modules of lines, and where lines are refused.
use Rattle.std.specs.Prelude.{◌≡◌, ◌⊎◌, ℕ, List, [], ◌∷◌, ◌++◌, map, Bool, true, false, Option, Some, None, MatchBool, if◌then◌else◌}
use Rattle.form_base.specs.declared.spot.Spot.{Spot}
use Rattle.form_stmts.specs.Line.{PlacedLine}
use Rattle.form_lexer.specs.declared.mark.Mark as marks
use Rattle.form_lexer.specs.declared.mark.Mark.TheVariants as by_mark
use Rattle.form_lexer.specs.declared.shape.Shape.{Shape}
use Rattle.form_lexer.specs.declared.token.Token.{Token}
use Rattle.form_lexer.specs.declared.token.TokenKind.{TokenKind}
use Rattle.form_lexer.specs.declared.token.TokenKind.TheVariants as by_kind
use Rattle.form_lexer.specs.Reading.{kind_of}
use Rattle.form_lexer.specs.Tokens.{AreTokens}
use Rattle.form_ast.specs.declared.module.PlacedPart.{PlacedPart}
use Rattle.form_grammar.specs.Terminal.{terminal_of}
use Rattle.form_stmts.specs.declared.error.ProgramError.{ProgramError}
use Rattle.form_stmts.specs.declared.error.ProgramError.TheVariants.{BadSyntax, Memory}
use Rattle.form_stmts.specs.Instruction.{begins_with_period, is_module_instruction}
use Rattle.form_blocks.specs.Blocks.{Unfinished, Read, and_read, fault_at_end, new_module}
use Rattle.form_blocks.specs.Growing.{parts_grown}
use Rattle.form_blocks.specs.declared.open.Fault.{Fault}
use Rattle.form_stmts.specs.Statement.{AreRead}

-- the token of this shape that is written so and stands here
abbrev pub token_of : Spot → Shape → List ℕ → Token
token_of spot shape text = record { kind = kind_of shape text; spot = spot }

-- what lines have in order: tokens, and lines that begin with a period
pub data Lexed : Type 0 where
  token : Token → Lexed
  period : PlacedLine → Lexed

-- this is what a line has
abbrev pub IsLexed : PlacedLine → List Lexed → Type 0
IsLexed line lexed = MatchBool (begins_with_period line.text)
    (lexed ≡ period line ∷ [])
    ((tokens : List Token) × AreTokens line.spot line.text tokens × (lexed ≡ map token tokens))

-- this is what lines have
abbrev pub AreLexed : List PlacedLine → List Lexed → Type 0
AreLexed [] lexed = lexed ≡ []
AreLexed (line ∷ lines) lexed = (here : List Lexed) × IsLexed line here × (rest : List Lexed) × AreLexed lines rest × (lexed ≡ here ++ rest)

-- what is judged: the tokens of a statement up to its `;`, tokens that no `;` ends before a line that begins with a
-- period, and such lines
pub data Item : Type 0 where
  statement : List Token → Item
  unfinished : Token → List Token → Item
  instruction : PlacedLine → Item

abbrev pub is_semicolon_mark : marks.Mark → Bool
is_semicolon_mark by_mark.Semicolon = true
is_semicolon_mark _ = false

abbrev pub is_semicolon_kind : TokenKind → Bool
is_semicolon_kind (by_kind.Mark mark) = is_semicolon_mark mark
is_semicolon_kind _ = false

abbrev pub is_semicolon : Token → Bool
is_semicolon t = is_semicolon_kind t.kind

-- where tokens begin
abbrev pub first_spot : List Token → Option Spot
first_spot [] = None
first_spot (t ∷ ts) = Some t.spot

abbrev pub unfinished_items : List Token → List Item
unfinished_items [] = []
unfinished_items (t ∷ ts) = unfinished t ts ∷ []

-- the items, where these tokens of a statement are there already
abbrev pub items : List Token → List Lexed → List Item
items begun [] = []
items begun (token t ∷ lexed) = if is_semicolon t then statement begun ∷ items [] lexed else items (begun ++ t ∷ []) lexed
items begun (period line ∷ lexed) = unfinished_items begun ++ instruction line ∷ items [] lexed

-- tokens as a statement, none where they are outside the grammar
abbrev pub IsRead : List Token → Option Read → Type 0
IsRead tokens (Some r) = AreRead r.lines r.last (map terminal_of tokens)
IsRead tokens None = (r : Read) → AreRead r.lines r.last (map terminal_of tokens) → ⊥

-- A module goes on with an item. Empty statements are in the grammar, and nothing comes of them.
abbrev pub GoesOn : Unfinished → Item → Unfinished → Type 0
GoesOn b (statement []) c = c ≡ b
GoesOn b (statement (t ∷ ts)) c = (r : Option Read) × IsRead (t ∷ ts) r × (c ≡ and_read b t.spot r)
GoesOn b (unfinished t ts) c = c ≡ and_read b t.spot None
GoesOn b (instruction line) c = c ≡ and_read b line.spot None

-- it ends a module
abbrev pub ends_module : Item → Bool
ends_module (instruction line) = is_module_instruction line.text
ends_module item = false

-- a module that ends so is refused here
abbrev pub IsRefusedHere : Option Fault → Spot → Type 0
IsRefusedHere None spot = ⊥
IsRefusedHere (Some f) spot = f.spot ≡ spot

-- Items are refused at this spot, the first of which stand in a module that has begun so: of the first module of which
-- something is refused, at the first such in the order of the text.
abbrev pub IsRefusedAt : Unfinished → List Item → Spot → Type 0
IsRefusedAt b [] spot = IsRefusedHere (fault_at_end b) spot
IsRefusedAt b (item ∷ others) spot = MatchBool (ends_module item)
    (IsRefusedHere (fault_at_end b) spot ⊎ ((fault_at_end b ≡ None) × IsRefusedAt new_module others spot))
    ((c : Unfinished) × GoesOn b item c × IsRefusedAt c others spot)

-- The lines are refused at this spot.
pub record IsRefused (lines : List PlacedLine) (spot : Spot) : Type 0 where
  pub lexed : List Lexed
  pub are_lexed : AreLexed lines lexed
  pub refused : IsRefusedAt new_module (items [] lexed) spot

-- The items are these modules, the first of which has begun so, each as its tree. What stands behind the last instruction
-- is in none.
abbrev pub AreModules : Unfinished → List Item → List (List PlacedPart) → Type 0
AreModules b [] modules = (fault_at_end b ≡ None) × (modules ≡ [])
AreModules b (item ∷ others) modules = MatchBool (ends_module item)
    ((fault_at_end b ≡ None) × (rest : List (List PlacedPart)) × (modules ≡ parts_grown b.statements ∷ rest) × AreModules new_module others rest)
    ((c : Unfinished) × GoesOn b item c × AreModules c others modules)

-- The lines are a program of these modules.
pub record IsProgram (lines : List PlacedLine) (modules : List (List PlacedPart)) : Type 0 where
  pub lexed : List Lexed
  pub are_lexed : AreLexed lines lexed
  pub are_modules : AreModules new_module (items [] lexed) modules

-- where lines are refused; want of memory is free
abbrev pub IsRefusal : ProgramError → List PlacedLine → Type 0
IsRefusal (BadSyntax spot) lines = IsRefused lines spot
IsRefusal Memory lines = Unit {0}
