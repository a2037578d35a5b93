use Rattle.std.proofs.Common.{arith, inl, inr}
use Rattle.form_normal.proofs.Large.{function_large, word_large}
use Rattle.form_normal.proofs.laws.functions_past_limits.Goals as goal

pub returns-clause-large : goal.returns-clause-large
returns-clause-large c = λ call h. function_large call (inl h)

pub returns-clause-deep : goal.returns-clause-deep
returns-clause-deep c = λ call h. function_large call (inr h)

pub returns-clause-large_word : goal.returns-clause-large_word
returns-clause-large_word c = λ call h. word_large call (inl h)

pub returns-clause-deep_word : goal.returns-clause-deep_word
returns-clause-deep_word c = λ call h. word_large call (inr h)
