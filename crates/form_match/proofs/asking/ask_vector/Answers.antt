use Rattle.std.proofs.Common.{inl}
use Rattle.form_match.proofs.Lawful.{vector_lawful}
use Rattle.form_match.proofs.asking.ask_vector.Goals as goal

pub ask_wild-requires : goal.ask_wild-requires
ask_wild-requires c = inl (vector_lawful c.args.vector)
