use Rattle.std.proofs.Common.{sym, subst, ◌∙◌}
use Rattle.form_gathered.specs.Joined.{AreApart}
use Rattle.form_gathered.proofs.Tables.{all_made, entries_apart}
use Rattle.form_gathered.proofs.joined.Joined.into_vec.Goals as goal

pub returns-clause-apart : goal.returns-clause-apart
returns-clause-apart c =
    let made = all_made c.loop-term.all.items c.args.self c.loop-term.term-iterator c.in-None.ensures.steps.0 c.loop-term.invariant in
    subst AreApart (c.self.view_is ∙ sym made) (entries_apart c.self.inside.shares.entries c.into_iter-term-iterator.ensures.into_iter_gives.4)
