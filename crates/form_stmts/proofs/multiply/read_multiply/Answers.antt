use Rattle.std.proofs.Common.{◌≡◌, List, rules, sym, subst}
use Rattle.form_grammar.specs.Grammar.{IsExpr}
use Rattle.form_grammar.specs.declared.terminal.Terminal.{Terminal}
use Rattle.form_stmts.specs.Reading.{terminals}
use Rattle.form_stmts.specs.Statement.{IsMultiply, behind_side, side_at}
use Rattle.form_stmts.proofs.Excluded.{excluded}
use Rattle.form_stmts.proofs.multiply.read_multiply.Goals as goal

pub returns-in-Err-clause-none : goal.returns-in-Err-clause-none
returns-in-Err-clause-none c =
    let all = terminals c.args.tokens in
    let rest : terminals c.into_iter.result ≡ behind_side (side_at all) all = search rules in
    excluded (IsExpr (terminals c.into_iter.result)) (IsMultiply all) c.in-Err.error (λ s h. (h.pieces, subst (λ (t : List Terminal). IsExpr t h.pieces) (sym rest) h.right_side)) c.in-Err.ensures.none
