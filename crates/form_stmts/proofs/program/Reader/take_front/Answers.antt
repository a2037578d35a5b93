use Rattle.form_stmts.proofs.program.Reader.take_front.Goals as goal

pub keep-requires-clause-token : goal.keep-requires-clause-token
keep-requires-clause-token c = rw c.in_ok-kind.ensures c.requires.token

pub returns-clause-read : goal.returns-clause-read
returns-clause-read c = rw c.in_ok-kind.ensures at c.keep.ensures.read

pub returns-clause-refused : goal.returns-clause-refused
returns-clause-refused c = rw c.in_ok-kind.ensures at c.keep.ensures.refused
