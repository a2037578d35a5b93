use Rattle.std.proofs.Common.{◌≡◌, ◌+◌, ◌≤◌, length, ap, arith, pos, to_z}
use Rattle.std.specs.Int.{w128}
use Rattle.std.proofs.lemmas.Int.{to_z_pos}
use Rattle.form_match.proofs.Lengths.{lengths}
use Rattle.form_cond.proofs.count.number_of_function.Goals as goal

pub returns-clause-bounded : goal.returns-clause-bounded
returns-clause-bounded c =
    let o = c.args.term.now.others in
    let few : c.in_calls-commuting.result + c.in_calls-others.result ≤ 4096
    = omega (arith, lengths o.functions, lengths o.word, c.term_laws.ensures.small, c.in_calls-commuting.ensures.within, c.in_calls-others.ensures.within, ap length c.functions.ensures, ap length c.word.ensures) in
    let is : to_z w128 (c.in_calls-commuting.result + c.in_calls-others.result) ≡ pos (c.in_calls-commuting.result + c.in_calls-others.result)
    = to_z_pos w128 (c.in_calls-commuting.result + c.in_calls-others.result) (omega (arith, few)) in
    rw is (omega (arith, few))
