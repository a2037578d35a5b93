use Rattle.std.proofs.Common.{◌≡◌, ◌∷◌, Some, None, sym, ap, subst, ◌∙◌}
use Rattle.form_grammar.specs.Reading.{Excludes}
use Rattle.form_grammar.specs.Terminal.{terminal_of}
use Rattle.form_grammar.specs.declared.terminal.Terminal.{Terminal}
use Rattle.form_grammar.specs.declared.terminal.Terminal.TheVariants.{Name}
use Rattle.form_stmts.specs.Keyword.{keyword_of}
use Rattle.form_stmts.specs.Reading.{terminals}
use Rattle.form_stmts.specs.Statement.{ReadsSo}
use Rattle.form_stmts.proofs.Lined.{no_keyword, no_name, none_behind}
use Rattle.form_stmts.proofs.statement.take_front.Goals as goal

pub returns-in_default : goal.returns-in_default
returns-in_default c = record {
  found = tt;
  none = no_name (terminal_of c.args.first) (terminals c.args.rest.now) (λ n e. c.in_default.not-Name n (c.from.ensures ∙ e));
}

pub returns-in_default-keyword_of-clause-none : goal.returns-in_default-keyword_of-clause-none
returns-in_default-keyword_of-clause-none c = λ r h.
    let named : terminal_of c.args.first ≡ Name c.in-Name.first = sym c.from.ensures ∙ c.in-Name.is in
    let none : keyword_of c.in-Name.first.name ≡ None = ap keyword_of (sym c.as_str.ensures) ∙ sym c.keyword_of.ensures ∙ c.in_default-keyword_of.is in
    no_keyword c.in-Name.first (terminals c.args.rest.now) none r (subst (λ (t : Terminal). ReadsSo (t ∷ terminals c.args.rest.now) r) named h)

pub returns-clause-none : goal.returns-clause-none
returns-clause-none c =
    let named : terminal_of c.args.first ≡ Name c.in-Name.first = sym c.from.ensures ∙ c.in-Name.is in
    let keyword : keyword_of c.in-Name.first.name ≡ Some c.in-Some.keyword = ap keyword_of (sym c.as_str.ensures) ∙ sym c.keyword_of.ensures ∙ c.in-Some.is in
    subst (λ (t : Terminal). Excludes c.in-Err.error (ReadsSo (t ∷ terminals c.args.rest.now))) (sym named)
    (none_behind c.in-Name.first c.in-Some.keyword (terminals c.args.rest.now) c.in-Err.error keyword c.in-Err.ensures.none)
