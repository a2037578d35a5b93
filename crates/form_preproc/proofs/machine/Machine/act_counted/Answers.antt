use Rattle.std.proofs.Common.{Ok}
use Rattle.form_preproc.proofs.Asking.{done_plain, alone_plain}
use Rattle.form_preproc.specs.Expansion.{alone_at}
use Rattle.form_preproc.specs.Machine.{state_of, line_of, behind_place}
use Rattle.form_preproc.proofs.machine.Machine.act_counted.Goals as goal

pub returns-in-Ok-clause-plain : goal.returns-in-Ok-clause-plain
returns-in-Ok-clause-plain g c = λ p.
    let s = state_of c.args.self.now in
    let line = line_of c.args.source.now.value c.args.line.now in
    let rest = behind_place c.args.source.now.value c.args.place in
    done_plain (alone_at c.args.line.now.key s line rest) (Ok c.in-Ok.action) c.act_alone.new.self (alone_plain c.args.line.now.key s line rest p c.args.line.now.plain) c.in-Ok.ensures.done
