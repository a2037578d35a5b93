use Rattle.form_expand.specs.Kept.{listing}
use Rattle.form_expand.proofs.Taking.{all_given}
use Rattle.form_expand.proofs.walk.Walk.next_of_all.Goals as goal

pub returns-clause-next : goal.returns-clause-next
returns-clause-next c =
    let old = c.args.self.now in
    let new = c.next_times.new.self in
    all_given c.next_times.result c.args.left.now c.next_times.new.left old.place new.place c.len-all.result (listing old.whole) (listing new.whole) c.len-all.ensures c.next_times.ensures.whole c.next_times.ensures.next
