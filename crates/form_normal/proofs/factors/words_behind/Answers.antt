-- One function after the other is put last.
use Rattle.std.proofs.Common.{refl}
use Rattle.std.proofs.lemmas.List.{nil_from_length}
use Rattle.form_normal.specs.Factors.{words_put}
use Rattle.form_normal.proofs.Words.{putting_lawful, putting_next, putting_ends}
use Rattle.form_normal.proofs.factors.words_behind.Goals as goal

pub loop-call-init : goal.loop-call-init
loop-call-init c = record { is = refl; lawful = c.requires.lawful; room = c.requires.room }

pub with_word-requires : goal.with_word-requires
with_word-requires c =
    let whole = words_put c.args.words.now c.args.term in
    rw c.in_ok-own.ensures.cases (putting_lawful whole c.loop-call.made c.loop-call.rest.now c.in-Some.call.now c.in-Some.others.now c.in-Some.ensures.cases.0 c.loop-call.invariant)

pub loop-call-preserved : goal.loop-call-preserved
loop-call-preserved c =
    let whole = words_put c.args.words.now c.args.term in
    rw (c.in_ok-next.ensures, c.in_ok-own.ensures.cases) (putting_next whole c.loop-call.made c.loop-call.rest.now c.in-Some.call.now c.in-Some.others.now c.in-Some.ensures.cases.0 c.loop-call.invariant)

pub returns : goal.returns
returns c =
    putting_ends (words_put c.args.words.now c.args.term) c.loop-call.made c.loop-call.rest.now (nil_from_length c.loop-call.rest.now c.in_default.ensures.cases) c.loop-call.invariant
