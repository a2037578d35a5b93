use Rattle.std.proofs.Common.{inl}
use Rattle.form_match.proofs.Lawful.{index_lawful}
use Rattle.form_match.proofs.asking.ask_declared.Goals as goal

pub ask_wild-requires : goal.ask_wild-requires
ask_wild-requires c = inl (index_lawful c.args.index.now)
