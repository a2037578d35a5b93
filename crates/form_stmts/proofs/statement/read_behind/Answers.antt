use Rattle.form_stmts.specs.Reading.{terminals}
use Rattle.form_conditions.specs.Grammar.{IsConditionText}
use Rattle.form_stmts.specs.Statement.{AreNames, AreNamesOrNone, AreIndices, ArePicked, FollowsKeyword}
use Rattle.form_stmts.specs.declared.keyword.Keyword.TheVariants.{Names, Indices, Drop, Skip, If, ElseIf, Argument, Print}
use Rattle.form_stmts.proofs.Excluded.{excluded}
use Rattle.form_stmts.proofs.statement.read_behind.Goals as goal

pub returns-in-Err-clause-none : goal.returns-in-Err-clause-none
returns-in-Err-clause-none c = rw c.in-Names.is (excluded (AreNames (terminals c.args.tokens)) (FollowsKeyword (Names c.in-Names.declared) (terminals c.args.tokens)) c.in-Err.error (λ s h. (h.0, h.1)) c.in-Err.ensures.none)

pub returns-in-Err-read_indices-clause-none : goal.returns-in-Err-read_indices-clause-none
returns-in-Err-read_indices-clause-none c = rw c.in-Indices.is (excluded (AreIndices (terminals c.args.tokens)) (FollowsKeyword Indices (terminals c.args.tokens)) c.in-Err-read_indices.error (λ s h. (h.0, h.1)) c.in-Err-read_indices.ensures.none)

pub returns-in-Err-read_names_or_none-clause-none : goal.returns-in-Err-read_names_or_none-clause-none
returns-in-Err-read_names_or_none-clause-none c = rw c.in-Drop.is (excluded (AreNamesOrNone (terminals c.args.tokens)) (FollowsKeyword Drop (terminals c.args.tokens)) c.in-Err-read_names_or_none.error (λ s h. (h.0, h.1)) c.in-Err-read_names_or_none.ensures.none)

pub returns-in-Err-read_names_or_none-2-clause-none : goal.returns-in-Err-read_names_or_none-2-clause-none
returns-in-Err-read_names_or_none-2-clause-none c = rw c.in-Skip.is (excluded (AreNamesOrNone (terminals c.args.tokens)) (FollowsKeyword Skip (terminals c.args.tokens)) c.in-Err-read_names_or_none-2.error (λ s h. (h.0, h.1)) c.in-Err-read_names_or_none-2.ensures.none)

pub returns-in-Err-read_names_or_none-3-clause-none : goal.returns-in-Err-read_names_or_none-3-clause-none
returns-in-Err-read_names_or_none-3-clause-none c = rw c.in-Print.is (excluded (AreNamesOrNone (terminals c.args.tokens)) (FollowsKeyword Print (terminals c.args.tokens)) c.in-Err-read_names_or_none-3.error (λ s h. (h.0, h.1)) c.in-Err-read_names_or_none-3.ensures.none)

pub returns-in-Err-read_condition-clause-none : goal.returns-in-Err-read_condition-clause-none
returns-in-Err-read_condition-clause-none c = rw c.in-If.is (excluded (IsConditionText (terminals c.args.tokens)) (FollowsKeyword If (terminals c.args.tokens)) c.in-Err-read_condition.error (λ s h. (h.0, h.1)) c.in-Err-read_condition.ensures.none)

pub returns-in-Err-read_condition-2-clause-none : goal.returns-in-Err-read_condition-2-clause-none
returns-in-Err-read_condition-2-clause-none c = rw c.in-ElseIf.is (excluded (IsConditionText (terminals c.args.tokens)) (FollowsKeyword ElseIf (terminals c.args.tokens)) c.in-Err-read_condition-2.error (λ s h. (h.0, h.1)) c.in-Err-read_condition-2.ensures.none)

pub returns-in-Err-read_picked-clause-none : goal.returns-in-Err-read_picked-clause-none
returns-in-Err-read_picked-clause-none c = rw c.in-Argument.is (excluded (ArePicked (terminals c.args.tokens)) (FollowsKeyword Argument (terminals c.args.tokens)) c.in-Err-read_picked.error (λ s h. (h.0, h.1)) c.in-Err-read_picked.ensures.none)
