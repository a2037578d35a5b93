use Rattle.form_normal.proofs.Functions.{word_put_lawful, word_made, word_term, word_stands}
use Rattle.form_normal.proofs.factors.times_word.Goals as goal

pub with_word-requires : goal.with_word-requires
with_word-requires c =
    let room = c.requires in
    word_put_lawful c.args.front.term c.args.call c.laws.ensures.lawful c.pieces.ensures.lawful room

pub returns-clause-product : goal.returns-clause-product
returns-clause-product c =
    let room = c.requires in
    rw c.in_ok-term.ensures (word_made c.args.front c.args.call c.laws.ensures.lowest c.laws.ensures.lawful c.pieces.ensures.lawful room)

pub returns-clause-alone : goal.returns-clause-alone
returns-clause-alone c =
    let room = c.requires in
    word_stands c.args.call (word_term c.args.front.term c.args.call c.laws.ensures.lawful c.pieces.ensures.lawful room)
