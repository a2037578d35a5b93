-- What reading a program has come to, and what that means whatever follows.
use Rattle.std.specs.Prelude.{◌≡◌, List, [], ◌∷◌, ◌++◌, None}
use Rattle.form_base.specs.declared.spot.Spot.{Spot}
use Rattle.form_stmts.specs.Line.{PlacedLine}
use Rattle.form_lexer.specs.declared.token.Token.{Token}
use Rattle.form_ast.specs.declared.module.PlacedPart.{PlacedPart}
use Rattle.form_stmts.specs.declared.error.ProgramError.{ProgramError}
use Rattle.form_stmts.specs.declared.error.ProgramError.TheVariants.{BadSyntax, Memory}
use Rattle.form_stmts.specs.declared.program.Reader.{Reader}
use Rattle.form_stmts.specs.Begun.{AreBegun}
use Rattle.form_blocks.specs.Blocks.{Unfinished, and_read, fault_at_end, new_module}
use Rattle.form_blocks.specs.Growing.{parts_grown}
use Rattle.form_stmts.specs.Program.{Lexed, statement, items, GoesOn, IsRefusedAt, IsRefusedHere, AreModules, IsLexed}

-- a reader has these tokens of a statement that is begun
abbrev pub HasBegun : Reader → List Token → Type 0
HasBegun reader begun = AreBegun reader.tokens.items reader.right_side begun

-- a module behind the tokens of a statement that isn't finished
abbrev pub AreLeft : Unfinished → List Token → Unfinished → Type 0
AreLeft b [] c = c ≡ b
AreLeft b (t ∷ ts) c = c ≡ and_read b t.spot None

-- a reader has come to the end of this: what is refused or made of what follows is so of all
pub record ReadTo (lexed : List Lexed) (reader : Reader) : Type 0 where
  pub begun : List Token
  pub has_begun : HasBegun reader begun
  pub refused : (rest : List Lexed) (spot : Spot) → IsRefusedAt reader.current (items begun rest) spot → IsRefusedAt new_module (items [] (lexed ++ rest)) spot
  pub modules : (rest : List Lexed) (more : List (List PlacedPart)) → AreModules reader.current (items begun rest) more
      → AreModules new_module (items [] (lexed ++ rest)) (reader.modules.items ++ more)

-- a reader has come further by this
abbrev pub ReadsOn : Reader → List Lexed → Reader → Type 0
ReadsOn old here new = (lexed : List Lexed) → ReadTo lexed old → ReadTo (lexed ++ here) new

-- a reader meets in this what is refused
abbrev pub Refuses : Reader → List Lexed → ProgramError → Type 0
Refuses old here Memory = Unit {0}
Refuses old here (BadSyntax spot) = (lexed rest : List Lexed) → ReadTo lexed old → IsRefusedAt new_module (items [] (lexed ++ here ++ rest)) spot

-- a reader meets in this line what is refused
abbrev pub RefusesLine : Reader → PlacedLine → ProgramError → Type 0
RefusesLine old line Memory = Unit {0}
RefusesLine old line (BadSyntax spot) = (here : List Lexed) × IsLexed line here × Refuses old here (BadSyntax spot)

-- the statement that is begun ends
pub record EndsStatement (old new : Reader) : Type 0 where
  pub has_begun : HasBegun new []
  pub goes_on : (begun : List Token) → HasBegun old begun → GoesOn old.current (statement begun) new.current
  pub modules : new.modules.items ≡ old.modules.items

-- what stands before a line that begins with a period ends, where it has begun and no `;` ended it
pub record LeavesStatement (old new : Reader) : Type 0 where
  pub has_begun : HasBegun new []
  pub goes_on : (begun : List Token) → HasBegun old begun → AreLeft old.current begun new.current
  pub modules : new.modules.items ≡ old.modules.items

-- the module that is begun ends, of which nothing is refused
pub record EndsModule (old new : Reader) : Type 0 where
  pub has_begun : (begun : List Token) → HasBegun old begun → HasBegun new begun
  pub fine : fault_at_end old.current ≡ None
  pub next : new.current ≡ new_module
  pub modules : new.modules.items ≡ old.modules.items ++ parts_grown old.current.statements ∷ []

-- where a module is refused that ends so
abbrev pub IsRefusedModule : Unfinished → ProgramError → Type 0
IsRefusedModule b Memory = Unit {0}
IsRefusedModule b (BadSyntax spot) = IsRefusedHere (fault_at_end b) spot
