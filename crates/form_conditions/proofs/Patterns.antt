-- What reading the tokens of a pattern answers.
use Rattle.std.proofs.Common.{◌≡◌, ℕ, List, Option, Some, None, Result, Ok, Err, refl, sym, ap, ◌∙◌}
use Rattle.std.specs.Prelude.{IfOk, IfErr, ◌↔◌}
use Rattle.form_ast.specs.declared.expr.Piece.{Piece}
use Rattle.form_grammar.specs.declared.error.ReadError.{ReadError}
use Rattle.form_grammar.specs.declared.error.ReadError.TheVariants.{BadSyntax, Memory}
use Rattle.form_grammar.specs.declared.terminal.Terminal.{Terminal}
use Rattle.form_grammar.specs.Grammar.{IsPatternTextWithin}
use Rattle.form_grammar.specs.Reading.{Gives, Excludes}
use Rattle.form_grammar.specs.Texts.{run_pattern_within}

-- such a pattern is what is read
abbrev pub IsExactly : Type 0
IsExactly = (opened : ℕ) (terminals : List Terminal) (pieces : List Piece) → IsPatternTextWithin opened terminals pieces ↔ (run_pattern_within opened terminals ≡ Some pieces)

pub pattern_answers : IsExactly → (r : Result (List Piece) ReadError) (opened : ℕ) (given tokens : List Terminal) → given ≡ tokens → IfOk r (λ p. IsPatternTextWithin opened given p) → IfErr r (λ e. Excludes e (IsPatternTextWithin opened given))
    → Gives (λ p. p) r (run_pattern_within opened tokens)
pattern_answers g (Ok p) opened given tokens e found none = ap (run_pattern_within opened) (sym e) ∙ (g opened given p).0 found
pattern_answers g (Err Memory) opened given tokens e found none = tt
pattern_answers g (Err BadSyntax) opened given tokens e found none = ap (run_pattern_within opened) (sym e) ∙ by_run (run_pattern_within opened given) refl where
  by_run : (o : Option (List Piece)) → run_pattern_within opened given ≡ o → run_pattern_within opened given ≡ None
  by_run None r = r
  by_run (Some p) r = absurd (none p ((g opened given p).1 r))
