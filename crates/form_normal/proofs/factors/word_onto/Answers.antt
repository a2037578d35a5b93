use Rattle.std.proofs.Common.{◌≡◌}
use Rattle.form_base.specs.declared.cause.Cause.TheVariants.{Overflow}
use Rattle.form_frac.specs.Fraction.{multiply}
use Rattle.form_normal.proofs.Parts.{some_from, none_from}
use Rattle.form_normal.proofs.Words.{room_for_word, word_times, word_overflows}
use Rattle.form_normal.proofs.factors.word_onto.Goals as goal

pub returns-in_default-clause-refused : goal.returns-in_default-clause-refused
returns-in_default-clause-refused c = λ cause e.
    let m = c.args.front in
    let w = c.args.factor.now in
    let same : Overflow ≡ cause = cc in
    rw (← same)
    (word_overflows m w c.laws.ensures.lawful c.laws-2.ensures.lawful c.requires.word c.requires.room
    (none_from (multiply m.coefficient w.coefficient) _ c.in_default.field-0 c.in_default.ensures))

pub words_behind-requires-clause-room : goal.words_behind-requires-clause-room
words_behind-requires-clause-room c =
    rw c.word.ensures (room_for_word c.args.front c.args.factor.now c.laws.ensures.lawful c.laws-2.ensures.lawful c.requires.word c.requires.room)

pub returns-clause-ok : goal.returns-clause-ok
returns-clause-ok c =
    let m = c.args.front in
    let w = c.args.factor.now in
    rw (c.in_ok-term.ensures, c.word.ensures)
    (word_times m w c.laws.ensures.lawful c.laws-2.ensures.lawful c.requires.word c.requires.room c.in-Ok.coefficient
    (some_from (multiply m.coefficient w.coefficient) _ c.in-Ok.coefficient c.in-Ok.ensures))
