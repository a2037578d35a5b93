-- What the grammars of right sides, patterns and conditions are known to give.
use Rattle.std.proofs.Common.{◌≡◌, ◌++◌, List}
use Rattle.form_ast.specs.Conditions.{Condition}
use Rattle.form_conditions.specs.Grammar.{BeginsWith, IsConditionText}
use Rattle.form_ast.specs.declared.expr.Piece.{Piece}
use Rattle.form_grammar.specs.declared.terminal.Terminal.{Terminal}
use Rattle.form_grammar.specs.Grammar.{IsExpr, IsPatternText, IsRightText}
use Rattle.form_stmts.proofs.Either.{IsOrNot, IsOne}

pub record TreeLaws : Type 0 where
  pub one_expr : (terminals : List Terminal) → IsOne (IsExpr terminals)
  pub expr_or_not : (terminals : List Terminal) → IsOrNot (IsExpr terminals)
  pub one_pattern : (terminals : List Terminal) → IsOne (IsPatternText terminals)
  pub pattern_or_not : (terminals : List Terminal) → IsOrNot (IsPatternText terminals)
  pub one_right : (pattern : List Piece) (terminals : List Terminal) → IsOne (IsRightText pattern terminals)
  pub right_or_not : (pattern : List Piece) (terminals : List Terminal) → IsOrNot (IsRightText pattern terminals)

pub record ConditionLaws : Type 0 where
  pub front : (front other rest others : List Terminal) (pieces more : Condition) → IsConditionText front pieces → IsConditionText other more → front ++ rest ≡ other ++ others → (front ≡ other) × (rest ≡ others) × (pieces ≡ more)
  pub front_or_none : (terminals : List Terminal) → IsOrNot (BeginsWith terminals)
  pub one : (terminals : List Terminal) → IsOne (IsConditionText terminals)
  pub some_or_none : (terminals : List Terminal) → IsOrNot (IsConditionText terminals)

pub record GrammarLaws : Type 0 where
  pub trees : TreeLaws
  pub conditions : ConditionLaws
