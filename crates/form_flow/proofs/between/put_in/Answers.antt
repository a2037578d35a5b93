use Rattle.std.proofs.Common.{◌≡◌, ap, drop, map}
use Rattle.std.proofs.lemmas.Result.{IfOk-weaker}
use Rattle.std.specs.Vec.Iter.{into_iter_items}
use Rattle.form_expand.specs.Parts.{part_list}
use Rattle.form_flow.specs.Rests.{cut_list, put_in_named, taken_after}
use Rattle.form_flow.specs.Rewriting.{is_by_match}
use Rattle.form_flow.proofs.Inserting.{given_in, taken_in}
use Rattle.form_flow.proofs.between.put_in.Goals as goal

pub next_earlier-requires : goal.next_earlier-requires
next_earlier-requires c = c.requires (ap is_by_match c.in-Given.is)

pub returns-in-Given : goal.returns-in-Given
returns-in-Given c = λ taken all so_far comes.
    given_in c.args.limit c.args.right.now all c.args.names.now c.args.cut.now.origin c.in-Given.field-0 taken c.next_earlier.result (into_iter_items c.next_earlier.new.earlier) c.in-Given.is comes
    (c.next_earlier.ensures c.args.limit taken all so_far)

pub returns-in-TakenBy : goal.returns-in-TakenBy
returns-in-TakenBy c = λ taken all so_far comes.
    let max = c.args.limit in
    let left = into_iter_items c.args.earlier.now in
    IfOk-weaker c.right_side_by.result _
    (λ list. (map (cut_list max) left ≡ drop (taken_after c.args.cut.now.origin taken) all) × (part_list max list ≡ put_in_named max c.args.right.now all c.args.names.now c.args.cut.now.origin))
    (λ list put. taken_in max c.args.right.now all c.args.names.now c.args.cut.now.origin c.in-TakenBy.number taken list left c.in-TakenBy.is so_far put) c.right_side_by.ensures
