use Rattle.std.proofs.Common.{◌≡◌, ◌-◌, ap, length, map, rules}
use Rattle.std.specs.Vec.Iter.{into_iter_items}
use Rattle.std.proofs.lemmas.Result.{IfOk-weaker}
use Rattle.form_expand.specs.Parts.{part_list}
use Rattle.form_flow.specs.Rests.{cut_list}
use Rattle.form_flow.specs.Rewriting.{from_cuts}
use Rattle.form_flow.proofs.Behind.{nothing_left}
use Rattle.form_flow.proofs.Inserting.{up_to_cut, up_to_end}
use Rattle.form_flow.proofs.between.with_words.Goals as goal

pub loop-one-preserved : goal.loop-one-preserved
loop-one-preserved c = λ max.
    let w = c.args.term.now.others.word in
    let count : c.saturating_sub.result ≡ c.in-Some.one.place - c.loop-one.start = search rules in
    up_to_cut max w c.loop-one.start c.saturating_sub.result c.loop-one.lists.items c.in_ok-lists.lists.items c.push.new.self.items c.in-Some.one
    (into_iter_items c.loop-one.one-iterator) (into_iter_items c.next.new.self) (from_cuts w c.args.start (map (cut_list max) c.args.between.items))
    count (c.in_ok-lists.ensures max) c.in_ok-push.ensures.items c.in-Some.ensures.steps.0 (c.loop-one.invariant max)

pub returns : goal.returns
returns c = λ max.
    let w = c.args.term.now.others.word in
    IfOk-weaker c.with_word-2.result _ (λ made. map (part_list max) made.items ≡ from_cuts w c.args.start (map (cut_list max) c.args.between.items))
    (λ made word. up_to_end max w c.loop-one.start (length c.word.result.now) c.loop-one.lists.items made.items (into_iter_items c.loop-one.one-iterator)
    (from_cuts w c.args.start (map (cut_list max) c.args.between.items)) (ap length c.word.ensures) (nothing_left c.loop-one.one-iterator c.in-None.ensures.steps.0)
    (c.loop-one.invariant max) word)
    (c.with_word-2.ensures max)
