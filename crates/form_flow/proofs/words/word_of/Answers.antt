use Rattle.std.proofs.Common.{List, refl, sym, ap, subst, ◌∙◌, take, drop}
use Rattle.form_term.specs.Term.{Call, IsTerm}
use Rattle.form_flow.proofs.Wording.{alone_is, some_word, stretch_lawful}
use Rattle.form_flow.proofs.words.word_of.Goals as goal

pub from_factors-requires : goal.from_factors-requires
from_factors-requires c =
    let start = c.args.start in
    let count = c.args.count in
    let t = c.args.term.now in
    subst IsTerm
    (sym (alone_is c.new-5.result.items c.new.result.items c.new-2.result.items c.new-3.result.items c.new-4.result.items c.in_ok-copies.field-0.items (take count (drop start t.others.word))
    c.new-5.ensures.items c.new.ensures.items c.new-2.ensures.items c.new-3.ensures.items c.new-4.ensures.items
    (c.in_ok-copies.ensures ∙ c.stretch-calls.ensures ∙ ap (λ (w : List Call). take count (drop start w)) c.word.ensures)))
    (stretch_lawful t start count c.requires)

pub returns : goal.returns
returns c =
    let start = c.args.start in
    let count = c.args.count in
    let w = take count (drop start c.args.term.now.others.word) in
    let calls = c.stretch-calls.result.now in
    let copies = c.in_ok-copies.field-0.items in
    some_word w calls copies c.in_ok-term.term c.in_ok-copies.ensures (c.stretch-calls.ensures ∙ ap (λ (v : List Call). take count (drop start v)) c.word.ensures)
    (sym c.is_empty.ensures ∙ c.if-is_empty.false)
    (c.in_ok-term.ensures ∙ alone_is c.new-5.result.items c.new.result.items c.new-2.result.items c.new-3.result.items c.new-4.result.items copies copies
    c.new-5.ensures.items c.new.ensures.items c.new-2.ensures.items c.new-3.ensures.items c.new-4.ensures.items refl)
