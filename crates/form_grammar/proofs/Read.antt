-- What reading a right side or a pattern answers.
use Rattle.std.proofs.Common.{◌≡◌, ◌⊎◌, inl, inr, List, Option, Some, None, Result, Ok, Err, refl, sym, ap, ◌∙◌}
use Rattle.std.specs.Prelude.{IfOk, IfErr}
use Rattle.std.proofs.lemmas.Option.{same_Some, none-some}
use Rattle.form_ast.specs.declared.expr.Piece.{Piece}
use Rattle.form_ast.specs.declared.setting.Setting.{Setting}
use Rattle.form_ast.specs.declared.setting.Setting.TheVariants.{Plain}
use Rattle.form_ast.specs.Syntax.{Sum, pieces_of_sum}
use Rattle.form_grammar.specs.declared.error.ReadError.{ReadError}
use Rattle.form_grammar.specs.declared.error.ReadError.TheVariants.{BadSyntax, Memory}
use Rattle.form_grammar.specs.declared.terminal.Terminal.{Terminal}
use Rattle.form_grammar.specs.Grammar.{IsExpr}
use Rattle.form_grammar.specs.Reading.{Gives, Excludes, begun, run}
use Rattle.form_grammar.proofs.Complete.{complete}
use Rattle.form_grammar.proofs.Sound.{IsText, sound}

-- a tree in this setting is read, with its pieces
pub read_text : (g : Setting) (terminals : List Terminal) (pieces : List Piece) → IsText g terminals pieces → run g begun terminals ≡ Some pieces
read_text g terminals pieces h = ap (run g begun) h.written ∙ complete g h.tree h.lawful ∙ ap (λ (p : List Piece). Some p) (sym h.kept)

as_text : (terminals : List Terminal) (pieces : List Piece) → IsExpr terminals pieces → IsText Plain terminals pieces
as_text terminals pieces h = record { tree = h.tree; lawful = h.lawful; written = h.written; kept = h.kept }

as_expr : (terminals : List Terminal) (pieces : List Piece) → IsText Plain terminals pieces → IsExpr terminals pieces
as_expr terminals pieces h = record { tree = h.tree; lawful = h.lawful; written = h.written; kept = h.kept }

-- a right side is read, with its pieces
pub read : (terminals : List Terminal) (pieces : List Piece) → IsExpr terminals pieces → run Plain begun terminals ≡ Some pieces
read terminals pieces h = read_text Plain terminals pieces (as_text terminals pieces h)

pub found : (r : Result (List Piece) ReadError) (terminals : List Terminal) → Gives (λ pieces. pieces) r (run Plain begun terminals) → IfOk r (λ pieces. IsExpr terminals pieces)
found (Ok pieces) terminals e = as_expr terminals pieces (sound Plain terminals pieces e)
found (Err error) terminals e = tt

pub none : (r : Result (List Piece) ReadError) (terminals : List Terminal) → Gives (λ pieces. pieces) r (run Plain begun terminals) → IfErr r (λ error. Excludes error (IsExpr terminals))
none (Ok pieces) terminals e = tt
none (Err Memory) terminals e = tt
none (Err BadSyntax) terminals e = λ pieces h. none-some pieces (sym e ∙ read terminals pieces h)

-- terminals are one right side at most
pub one_list : (terminals : List Terminal) (pieces other : List Piece) → IsExpr terminals pieces → IsExpr terminals other → pieces ≡ other
one_list terminals pieces other h k = same_Some pieces other (sym (read terminals pieces h) ∙ read terminals other k)

pub one_tree : ((tree other : Sum) → pieces_of_sum tree ≡ pieces_of_sum other → tree ≡ other) → (terminals : List Terminal) (pieces other : List Piece) (h : IsExpr terminals pieces) (k : IsExpr terminals other) → h.tree ≡ k.tree
one_tree by_pieces terminals pieces other h k = by_pieces h.tree k.tree (sym h.kept ∙ one_list terminals pieces other h k ∙ k.kept)

-- terminals are a right side or none
pub expr_or_none : (terminals : List Terminal) → ((pieces : List Piece) × IsExpr terminals pieces) ⊎ ((pieces : List Piece) → IsExpr terminals pieces → ⊥)
expr_or_none terminals = by_run (run Plain begun terminals) refl where
  by_run : (o : Option (List Piece)) → run Plain begun terminals ≡ o → ((pieces : List Piece) × IsExpr terminals pieces) ⊎ ((pieces : List Piece) → IsExpr terminals pieces → ⊥)
  by_run (Some pieces) e = inl (pieces, as_expr terminals pieces (sound Plain terminals pieces e))
  by_run None e = inr (λ pieces h. none-some pieces (sym e ∙ read terminals pieces h))
