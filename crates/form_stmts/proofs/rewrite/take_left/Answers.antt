use Rattle.std.proofs.Common.{◌∙◌, sym, ap, map, List}
use Rattle.form_lexer.specs.declared.token.Token.{Token}
use Rattle.form_grammar.specs.Terminal.{terminal_of}
use Rattle.form_stmts.specs.Reading.{terminals}
use Rattle.form_stmts.specs.Rewriting.{sides, with_left}
use Rattle.form_stmts.proofs.Lines.{nothing_left}
use Rattle.form_stmts.proofs.Rewritten.{left_ends, left_goes_on, left_is_all}
use Rattle.form_stmts.proofs.rewrite.take_left.Goals as goal

pub returns-then-is_equals : goal.returns-then-is_equals
returns-then-is_equals c =
    let left = c.loop-token.left.items in
    sym c.loop-token.invariant
    ∙ ap (λ (rest : List Token). with_left (map terminal_of left) (sides (map terminal_of rest))) c.in-Some.ensures.cases.0
    ∙ left_ends left c.in-Some.token (terminals c.next.new.self) (sym c.if-is_equals.ensures)

pub loop-token-preserved : goal.loop-token-preserved
loop-token-preserved c =
    let left = c.loop-token.left.items in
    ap (λ (all : List Token). with_left (map terminal_of all) (sides (terminals c.next.new.self))) c.in_ok-push.ensures.items
    ∙ sym (left_goes_on left c.in-Some.token (terminals c.next.new.self) (sym c.if-is_equals.ensures))
    ∙ sym (ap (λ (rest : List Token). with_left (map terminal_of left) (sides (map terminal_of rest))) c.in-Some.ensures.cases.0)
    ∙ c.loop-token.invariant

pub returns : goal.returns
returns c =
    let left = c.loop-token.left.items in
    sym c.loop-token.invariant
    ∙ ap (λ (rest : List Token). with_left (map terminal_of left) (sides (map terminal_of rest))) (nothing_left c.loop-token.tokens c.in_default.ensures.cases.0)
    ∙ left_is_all (map terminal_of left)
