use Rattle.std.proofs.Common.{drop}
use Rattle.form_levels.specs.Becoming.{put_named}
use Rattle.form_levels.proofs.Becoming.{HasCome}
use Rattle.form_levels.proofs.rewriting.Rule.between.Given as goal

abbrev pub invariant-loop-stretch : goal.invariant-loop-stretch
invariant-loop-stretch l = HasCome l.self.limit (put_named l.self l.names) l.fn.front l.stretches (drop l.stretch-index l.stretches) l.fronts
