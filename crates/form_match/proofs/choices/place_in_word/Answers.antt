use Rattle.std.proofs.Common.{subst, arith}
use Rattle.form_term.specs.Term.{IsTerm}
use Rattle.form_match.proofs.Lengths.{lengths}
use Rattle.form_match.proofs.choices.place_in_word.Goals as goal

pub overflow_cast-result : goal.overflow_cast-result
overflow_cast-result c =
    let lawful : IsTerm c.args.host.now.term = subst IsTerm c.term.ensures c.powers.ensures.lawful in
    omega (arith, c.requires, lengths c.args.host.now.term.others.word, lawful.small)
