use Rattle.std.proofs.Common.{◌≡◌, ◌≤◌, true, length, arith, rules}
use Rattle.form_tree.specs.declared.tree.Link.TheVariants as links
use Rattle.form_tree.specs.declared.tree.Piece.TheVariants as pieces
use Rattle.form_expand.proofs.Parenthesized.{ends_within}
use Rattle.form_expand.proofs.LoneFunctions.{lone_read, none_behind}
use Rattle.form_expand.proofs.lone_function.lone_function.Goals as goal

pub split_at-requires : goal.split_at-requires
split_at-requires c =
    omega (arith, ends_within c.args.names.now c.in-Some.more.now c.in-Some-closing_once.len _ c.in-Some-closing_once.ensures)

pub returns : goal.returns
returns c =
    let max = c.args.limit in
    let all = c.args.names.now in
    let ps = c.args.pieces.now in
    let more = c.in-Some.more.now in
    let within = c.split_at.result.0.now in
    let len = c.in-Some-closing_once.len in
    let f = c.in-Function-Plus-default-true.function in
    let begins : c.in-Some.piece.now ≡ pieces.Function links.Plus f true = search rules in
    let short : length c.split_at.result.1.now ≤ 1 = c.is_last.ensures.0 c.if-not-is_last.false in
    let argued = rw c.in-Some-2.is at c.in_ok-arguments.ensures in
    record {
      list = lone_read max all ps c.in-Some.piece.now more within f c.function.result c.in-Some-2.arguments len c.in_ok-call.call c.in-Some.ensures.cases.0 begins c.function.ensures c.in-Some-closing_once.ensures c.split_at.ensures.front
          (none_behind len more c.split_at.result.1.now c.split_at.ensures.back short) argued c.in_ok-call.ensures;
      some = omega (arith, c.if-limit-eq0.false);
    }
