use Rattle.form_levels.proofs.groups.Rules.by_one.Goals as goal

pub returns-clause-rewritten : goal.returns-clause-rewritten
returns-clause-rewritten c = c.on.ensures.rewritten
