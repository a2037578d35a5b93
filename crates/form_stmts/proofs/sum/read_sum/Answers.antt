use Rattle.std.proofs.Common.{◌≡◌, ◌∷◌, [], Some, rules}
use Rattle.form_grammar.specs.declared.terminal.Terminal.TheVariants.{Comma}
use Rattle.form_stmts.specs.Reading.{front_name, terminals}
use Rattle.form_stmts.proofs.Summed.{found_one, none_behind_comma}
use Rattle.form_stmts.proofs.Taking.{none_left}
use Rattle.form_stmts.proofs.sum.read_sum.Goals as goal

pub returns-in_default-next-clause-found : goal.returns-in_default-next-clause-found
returns-in_default-next-clause-found c =
    let all = terminals c.args.tokens in
    let behind = terminals c.take_name.new.tokens in
    let front : front_name all ≡ Some (c.in-Some.name, behind) = search rules in
    let rest : behind ≡ [] = none_left c.take_name.new.tokens c.in_default-next.ensures.cases.0 in
    found_one c.sum_of_one.result all behind c.in-Some.name front rest c.sum_of_one.ensures

pub returns-in-Comma-clause-none : goal.returns-in-Comma-clause-none
returns-in-Comma-clause-none c =
    let all = terminals c.args.tokens in
    let behind = terminals c.take_name.new.tokens in
    let front : front_name all ≡ Some (c.in-Some.name, behind) = search rules in
    let rest : behind ≡ Comma ∷ terminals c.next.new.self = search rules in
    none_behind_comma c.read_summed.result all behind (terminals c.next.new.self) c.in-Some.name front rest c.read_summed.ensures.none
