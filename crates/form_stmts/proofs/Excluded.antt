-- What a refusal excludes.
use Rattle.std.proofs.Common.{◌≡◌, List, ◌∷◌, Some, sym, ap, subst, ◌∙◌}
use Rattle.form_ast.specs.declared.expr.Spelled.{Spelled}
use Rattle.form_ast.specs.declared.expr.Piece.{Piece}
use Rattle.form_ast.specs.declared.statement.Statement.{Statement}
use Rattle.form_ast.specs.declared.statement.WrittenElements.{WrittenElements}
use Rattle.form_grammar.specs.declared.error.ReadError.{ReadError}
use Rattle.form_grammar.specs.declared.error.ReadError.TheVariants.{BadSyntax, Memory}
use Rattle.form_grammar.specs.declared.terminal.Terminal.{Terminal}
use Rattle.form_grammar.specs.declared.terminal.Terminal.TheVariants as by_terminal
use Rattle.std.proofs.lemmas.Option.{same_Some}
use Rattle.form_grammar.specs.Grammar.{IsExpr}
use Rattle.form_grammar.specs.Reading.{Excludes}
use Rattle.form_stmts.specs.Reading.{front_name, after_equals, after_colon}
use Rattle.form_stmts.specs.Statement.{AreElements, IsDefinition, IsSet}

-- what has something that is excluded is excluded
pub excluded : {X Y : Type 0} (P : X → Type 0) (Q : Y → Type 0) (error : ReadError) → ((y : Y) → Q y → (x : X) × P x) → Excludes error P → Excludes error Q
excluded P Q Memory f h = tt
excluded P Q BadSyntax f h = λ y q. let p = f y q in h p.0 p.1

-- what stands behind the name and the `=` of a definition
pub right_side : (terminals rest others : List Terminal) (name : Spelled) → front_name terminals ≡ Some (name, rest) → after_equals rest ≡ Some others
    → (s : Statement) → IsDefinition terminals s → (pieces : List Piece) × IsExpr others pieces
right_side terminals rest others name e f s h =
    let given : Spelled × List Terminal = (name, rest) in
    let written : Spelled × List Terminal = (h.name, by_terminal.Equals ∷ h.rest) in
    let same : given ≡ written = same_Some given written (sym e ∙ ap front_name h.written) in
    let behind : rest ≡ by_terminal.Equals ∷ h.rest = ap (λ (x : Spelled × List Terminal). x.1) same in
    let all : others ≡ h.rest = same_Some others h.rest (sym f ∙ ap after_equals behind) in
    (h.pieces, subst (λ (t : List Terminal). IsExpr t h.pieces) (sym all) h.right_side)

-- what stands behind the name and the `:` of a set
pub elements_behind : (terminals rest others : List Terminal) (name : Spelled) → front_name terminals ≡ Some (name, rest) → after_colon rest ≡ Some others
    → (s : Statement) → IsSet terminals s → (elements : WrittenElements) × AreElements others elements
elements_behind terminals rest others name e f s h =
    let given : Spelled × List Terminal = (name, rest) in
    let written : Spelled × List Terminal = (h.name, by_terminal.Colon ∷ h.rest) in
    let same : given ≡ written = same_Some given written (sym e ∙ ap front_name h.written) in
    let behind : rest ≡ by_terminal.Colon ∷ h.rest = ap (λ (x : Spelled × List Terminal). x.1) same in
    let all : others ≡ h.rest = same_Some others h.rest (sym f ∙ ap after_colon behind) in
    (h.elements, subst (λ (t : List Terminal). AreElements t h.elements) (sym all) h.are_elements)
