use Rattle.form_lexer.proofs.Next.{some_list}
use Rattle.form_lexer.proofs.One.{one_list}
use Rattle.form_lexer.proofs.laws.one_list_of_tokens.Goals as goal

pub returns-clause-some : goal.returns-clause-some
returns-clause-some c = some_list

pub returns-clause-unique : goal.returns-clause-unique
returns-clause-unique c = one_list
