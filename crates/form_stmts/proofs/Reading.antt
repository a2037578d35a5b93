-- Lines are read in one way.
use Rattle.std.proofs.Common.{◌≡◌, ◌⊎◌, inl, inr, ℕ, List, [], subst}
use Rattle.form_base.specs.declared.spot.Spot.{Spot}
use Rattle.form_stmts.specs.Line.{PlacedLine}
use Rattle.form_lexer.specs.declared.token.Token.{Token}
use Rattle.form_lexer.specs.Tokens.{AreTokens}
use Rattle.form_ast.specs.declared.module.PlacedPart.{PlacedPart}
use Rattle.form_stmts.specs.Program.{Lexed, items, AreLexed, IsRefusedAt, IsRefused, AreModules, IsProgram}
use Rattle.form_stmts.proofs.Lines.{lines_lexed}
use Rattle.form_blocks.specs.Blocks.{new_module}
use Rattle.form_stmts.specs.Statement.{ReadsSo}
use Rattle.form_stmts.proofs.Either.{IsOne, IsOrNot}
use Rattle.form_stmts.proofs.Lined.{one_read, read_or_not}
use Rattle.form_stmts.proofs.Modules as unique
use Rattle.form_stmts.proofs.Modules.{one_of_both}
use Rattle.form_stmts.proofs.Trees.{GrammarLaws}
use Rattle.form_stmts.proofs.Unique.{all_lexed, one_statement, statement_or_not}
use Rattle.form_grammar.specs.declared.terminal.Terminal.{Terminal}

one : GrammarLaws → (terminals : List Terminal) → IsOne (ReadsSo terminals)
one laws = one_read laws.conditions (one_statement laws)

or_not : GrammarLaws → (terminals : List Terminal) → IsOrNot (ReadsSo terminals)
or_not laws = read_or_not laws.conditions (statement_or_not laws)

-- what is read of lines, where some line has tokens
pub some : ((spot : Spot) (text : List ℕ) → (tokens : List Token) × AreTokens spot text tokens) → GrammarLaws
    → (lines : List PlacedLine) → ((modules : List (List PlacedPart)) × IsProgram lines modules) ⊎ ((spot : Spot) × IsRefused lines spot)
some tokens laws lines = by_items (lines_lexed tokens lines) where
  by_items : (lexed : List Lexed) × AreLexed lines lexed → ((modules : List (List PlacedPart)) × IsProgram lines modules) ⊎ ((spot : Spot) × IsRefused lines spot)
  by_items l = by_both (one_of_both (or_not laws) (items [] l.0) new_module) where
    by_both : ((modules : List (List PlacedPart)) × AreModules new_module (items [] l.0) modules) ⊎ ((spot : Spot) × IsRefusedAt new_module (items [] l.0) spot) → ((modules : List (List PlacedPart)) × IsProgram lines modules) ⊎ ((spot : Spot) × IsRefused lines spot)
    by_both (inl p) = inl (p.0, record { lexed = l.0; are_lexed = l.1; are_modules = p.1 })
    by_both (inr r) = inr (r.0, record { lexed = l.0; are_lexed = l.1; refused = r.1 })

module _ (one_list : (spot : Spot) (text : List ℕ) (tokens others : List Token) → AreTokens spot text tokens → AreTokens spot text others → tokens ≡ others)
    (laws : GrammarLaws) (lines : List PlacedLine) where
  pub one_program : (modules others : List (List PlacedPart)) → IsProgram lines modules → IsProgram lines others → modules ≡ others
  one_program modules others h k =
      unique.one_program (one laws) (items [] k.lexed) new_module modules others
      (subst (λ (lexed : List Lexed). AreModules new_module (items [] lexed) modules) (all_lexed one_list lines h.lexed k.lexed h.are_lexed k.are_lexed) h.are_modules) k.are_modules

  pub one_refusal : (spot other : Spot) → IsRefused lines spot → IsRefused lines other → spot ≡ other
  one_refusal spot other h k =
      unique.one_refusal (one laws) (items [] k.lexed) new_module spot other
      (subst (λ (lexed : List Lexed). IsRefusedAt new_module (items [] lexed) spot) (all_lexed one_list lines h.lexed k.lexed h.are_lexed k.are_lexed) h.refused) k.refused

  pub never_both : (modules : List (List PlacedPart)) (spot : Spot) → IsProgram lines modules → IsRefused lines spot → ⊥
  never_both modules spot h k =
      unique.never_both (one laws) (items [] k.lexed) new_module modules spot
      (subst (λ (lexed : List Lexed). AreModules new_module (items [] lexed) modules) (all_lexed one_list lines h.lexed k.lexed h.are_lexed k.are_lexed) h.are_modules) k.refused
