use Rattle.std.proofs.Common.{◌<◌, arith}
use Rattle.form_engine.specs.Call.{bytes_of_words}
use Rattle.form_engine.proofs.Concluded.{only_memory, carried_out_or_memory, text_refusal, too_long_refusal}
use Rattle.form_engine.proofs.Named.{missing_text, too_long_text}
use Rattle.form_engine.proofs.call.tform.Goals as goal

pub returns-in-Ok-clause-complete : goal.returns-in-Ok-clause-complete
returns-in-Ok-clause-complete g c = λ library sink stores.
    carried_out_or_memory c.one_outcome.ensures.unique (bytes_of_words c.args.words.now) (g.L.Library.texts c.args.library.now) (g.O.Sink.taken c.args.out.now) (g.O.Sink.taken c.run.new.out) c.in-Ok.status _
    (only_memory (g.L.Library.faults c.args.library.now < g.L.Library.faults c.run.new.library) (g.O.Sink.faults c.args.out.now < g.O.Sink.faults c.run.new.out) c.in-Ok.status (λ rose. omega (arith, library)) (λ rose. omega (arith, sink)))
    c.in-Ok.ensures.headline

pub returns-in-Ok-clause-missing : goal.returns-in-Ok-clause-missing
returns-in-Ok-clause-missing g c = missing_text (bytes_of_words c.args.words.now) (g.L.Library.texts c.args.library.now) c.in-Ok.status c.in-Ok.ensures.decided

pub returns-in-Ok-clause-too_long : goal.returns-in-Ok-clause-too_long
returns-in-Ok-clause-too_long g c = too_long_text (bytes_of_words c.args.words.now) (g.L.Library.texts c.args.library.now) c.in-Ok.status c.in-Ok.ensures.decided

pub returns-in-Ok-clause-refused_text : goal.returns-in-Ok-clause-refused_text
returns-in-Ok-clause-refused_text g c = text_refusal (bytes_of_words c.args.words.now) (g.L.Library.texts c.args.library.now) c.in-Ok.status c.in-Ok.ensures.decided

pub returns-in-Ok-clause-too_long_text : goal.returns-in-Ok-clause-too_long_text
returns-in-Ok-clause-too_long_text g c = too_long_refusal (bytes_of_words c.args.words.now) (g.L.Library.texts c.args.library.now) c.in-Ok.status c.in-Ok.ensures.decided
