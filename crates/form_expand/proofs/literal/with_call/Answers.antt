use Rattle.form_expand.proofs.LiteralCalls.{function_times, word_times}
use Rattle.form_expand.proofs.literal.with_call.Goals as goal

pub returns-then-is_commuting : goal.returns-then-is_commuting
returns-then-is_commuting c = function_times c.times_function.result c.args.is_commuting c.args.call c.args.front c.if-is_commuting.true c.times_function.ensures.product c.times_function.ensures.alone

pub returns-else-is_commuting : goal.returns-else-is_commuting
returns-else-is_commuting c = word_times c.times_word.result c.args.is_commuting c.args.call c.args.front c.if-is_commuting.false c.times_word.ensures.product c.times_word.ensures.alone
