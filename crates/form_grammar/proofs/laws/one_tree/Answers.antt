use Rattle.std.proofs.Common.{refl}
use Rattle.form_grammar.proofs.Read as read
use Rattle.form_grammar.proofs.Tested as tested
use Rattle.form_grammar.proofs.laws.one_tree.Goals as goal

pub returns-clause-tree : goal.returns-clause-tree
returns-clause-tree c = λ terminals tree other h k e f.
    read.one_tree c.one_tree.ensures.one terminals _ _ (record { tree = tree; lawful = h; written = e; kept = refl }) (record { tree = other; lawful = k; written = f; kept = refl })

pub returns-clause-pieces : goal.returns-clause-pieces
returns-clause-pieces c = read.one_list

pub returns-clause-some_or_none : goal.returns-clause-some_or_none
returns-clause-some_or_none c = read.expr_or_none

pub returns-clause-one_pattern : goal.returns-clause-one_pattern
returns-clause-one_pattern c = tested.one_pattern

pub returns-clause-pattern_or_none : goal.returns-clause-pattern_or_none
returns-clause-pattern_or_none c = tested.pattern_or_none

pub returns-clause-one_right : goal.returns-clause-one_right
returns-clause-one_right c = tested.one_right

pub returns-clause-right_or_none : goal.returns-clause-right_or_none
returns-clause-right_or_none c = tested.right_or_none
