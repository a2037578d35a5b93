use Rattle.std.proofs.Common.{sym, ◌∙◌}
use Rattle.form_print.proofs.Joined.{bare_term, put_alike, put_in_parts, shown_term}
use Rattle.form_print.proofs.print.push_piece.Goals as goal

pub returns-then-is_size_shown : goal.returns-then-is_size_shown
returns-then-is_size_shown c =
    put_in_parts c.push_term.result _ _ _ _ _ _
    (shown_term c.args.names.now c.args.term.now.coefficient c.args.term.now.term (sym c.is_size_shown.ensures ∙ c.if-is_size_shown.true))
    c.in_ok-push_size.ensures
    c.push_term.ensures

pub returns : goal.returns
returns c =
    put_alike c.push_term-2.result _ _ _ _
    (bare_term c.args.names.now c.args.term.now.coefficient c.args.term.now.term (sym c.is_size_shown.ensures ∙ c.if-is_size_shown.false))
    c.push_term-2.ensures
