use Rattle.form_stmts.proofs.Reading as reading
use Rattle.form_stmts.proofs.laws.one_reading.Goals as goal

pub returns-clause-some : goal.returns-clause-some
returns-clause-some c = reading.some c.one_list_of_tokens.ensures.some (record { trees = record { one_expr = c.one_tree.ensures.pieces; expr_or_not = c.one_tree.ensures.some_or_none; one_pattern = c.one_tree.ensures.one_pattern; pattern_or_not = c.one_tree.ensures.pattern_or_none; one_right = c.one_tree.ensures.one_right; right_or_not = c.one_tree.ensures.right_or_none }; conditions = record { front = c.one_front.ensures.front; front_or_none = c.one_front.ensures.front_or_none; one = c.one_front.ensures.one; some_or_none = c.one_front.ensures.some_or_none } })

pub returns-clause-one_program : goal.returns-clause-one_program
returns-clause-one_program c = reading.one_program c.one_list_of_tokens.ensures.unique (record { trees = record { one_expr = c.one_tree.ensures.pieces; expr_or_not = c.one_tree.ensures.some_or_none; one_pattern = c.one_tree.ensures.one_pattern; pattern_or_not = c.one_tree.ensures.pattern_or_none; one_right = c.one_tree.ensures.one_right; right_or_not = c.one_tree.ensures.right_or_none }; conditions = record { front = c.one_front.ensures.front; front_or_none = c.one_front.ensures.front_or_none; one = c.one_front.ensures.one; some_or_none = c.one_front.ensures.some_or_none } })

pub returns-clause-one_refusal : goal.returns-clause-one_refusal
returns-clause-one_refusal c = reading.one_refusal c.one_list_of_tokens.ensures.unique (record { trees = record { one_expr = c.one_tree.ensures.pieces; expr_or_not = c.one_tree.ensures.some_or_none; one_pattern = c.one_tree.ensures.one_pattern; pattern_or_not = c.one_tree.ensures.pattern_or_none; one_right = c.one_tree.ensures.one_right; right_or_not = c.one_tree.ensures.right_or_none }; conditions = record { front = c.one_front.ensures.front; front_or_none = c.one_front.ensures.front_or_none; one = c.one_front.ensures.one; some_or_none = c.one_front.ensures.some_or_none } })

pub returns-clause-never_both : goal.returns-clause-never_both
returns-clause-never_both c = reading.never_both c.one_list_of_tokens.ensures.unique (record { trees = record { one_expr = c.one_tree.ensures.pieces; expr_or_not = c.one_tree.ensures.some_or_none; one_pattern = c.one_tree.ensures.one_pattern; pattern_or_not = c.one_tree.ensures.pattern_or_none; one_right = c.one_tree.ensures.one_right; right_or_not = c.one_tree.ensures.right_or_none }; conditions = record { front = c.one_front.ensures.front; front_or_none = c.one_front.ensures.front_or_none; one = c.one_front.ensures.one; some_or_none = c.one_front.ensures.some_or_none } })
