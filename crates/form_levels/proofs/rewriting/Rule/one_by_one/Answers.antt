use Rattle.std.proofs.Common.{[], refl, replicate, ◌∙◌}
use Rattle.form_expand.specs.Walks.{all_of}
use Rattle.form_levels.proofs.Becoming.{row_made}
use Rattle.form_levels.proofs.rewriting.Rule.one_by_one.Goals as goal

pub returns : goal.returns
returns c =
    let j = c.args.front in
    row_made c.args.self.now.limit (replicate c.args.times (all_of c.args.list.now)) j c.in-Some.all c.into_vec.result.items
    (rw c.in-Some.is at c.in_ok-all.ensures.limit ∙ c.in_ok-fronts.ensures.limit)
    (rw c.in-Some.is at c.in_ok-all.ensures.fronts j.term [] j (c.in_ok-fronts.ensures.fronts j refl)) c.into_vec.ensures
