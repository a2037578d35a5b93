use Rattle.std.proofs.Common.{sym, subst}
use Rattle.form_term.specs.Term.{AreArguments}
use Rattle.form_term.proofs.Nesting.{more_pieces}
use Rattle.form_term.proofs.arguments.Arguments.with_pieces.Goals as goal

pub invariant_of-result : goal.invariant_of-result
invariant_of-result c = subst AreArguments (sym c.in_ok-extend_from_slice.ensures.items) (more_pieces c.self.inside.pieces.items c.args.list.now c.self.invariant c.requires)
