use Rattle.std.proofs.Common.{◌≡◌, List, Some, map, rules, subst}
use Rattle.std.specs.Vec.Iter.{into_iter_items}
use Rattle.form_ast.specs.declared.expr.Piece.{Piece}
use Rattle.form_grammar.specs.Grammar.{IsRightText}
use Rattle.form_grammar.specs.Reading.{Excludes}
use Rattle.form_grammar.specs.Terminal.{terminal_of}
use Rattle.form_stmts.specs.Reading.{terminals}
use Rattle.form_stmts.specs.Rewriting.{behind_word, sides}
use Rattle.form_stmts.proofs.Rewritten.{no_pattern, no_right}
use Rattle.form_stmts.proofs.rewrite.read_rewrite.Goals as goal

pub returns-in-Err-clause-none : goal.returns-in-Err-clause-none
returns-in-Err-clause-none c =
    let left = map terminal_of c.in-Some.left.items in
    let front = map terminal_of c.take_comma.new.tokens.items in
    let pattern = map terminal_of (into_iter_items c.into_iter.result) in
    let right = terminals c.take_left.new.tokens in
    let are_sides : sides (terminals c.args.tokens) ≡ Some (left, right) = search rules in
    let rest_is : pattern ≡ behind_word c.take_option-option.result front = search rules in
    no_pattern c.args.is_also (terminals c.args.tokens) left right front pattern c.take_option-option.result
    (record { are_sides = are_sides; front_is = c.take_comma.ensures; option_is = c.take_option-option.ensures.option; rest_is = rest_is })
    c.in-Err.error c.in-Err.ensures.none

pub returns-in-Err-read_right-clause-none : goal.returns-in-Err-read_right-clause-none
returns-in-Err-read_right-clause-none c =
    let left = map terminal_of c.in-Some.left.items in
    let front = map terminal_of c.take_comma.new.tokens.items in
    let pattern = map terminal_of (into_iter_items c.into_iter.result) in
    let right = terminals c.take_left.new.tokens in
    let are_sides : sides (terminals c.args.tokens) ≡ Some (left, right) = search rules in
    let rest_is : pattern ≡ behind_word c.take_option-option.result front = search rules in
    let none : Excludes c.in-Err-read_right.error (IsRightText c.in-Ok.pattern right) = subst (λ (pieces : List Piece). Excludes c.in-Err-read_right.error (IsRightText pieces right)) c.as_slice.ensures c.in-Err-read_right.ensures.none in
    no_right c.args.is_also (terminals c.args.tokens) left right front pattern c.take_option-option.result
    (record { are_sides = are_sides; front_is = c.take_comma.ensures; option_is = c.take_option-option.ensures.option; rest_is = rest_is })
    c.one_tree.ensures.one_pattern c.in-Ok.pattern c.in-Ok.ensures.found c.in-Err-read_right.error none
