use Rattle.std.proofs.Common.{◌≡◌, ◌<◌, ◌≤◌, ℕ, List, Some, None, Ok, ap, sym, ◌∙◌, refl}
use Rattle.std.proofs.lemmas.Result.{err_from_is_err_and}
use Rattle.form_base.specs.Status.{code_of}
use Rattle.form_base.specs.declared.status.Status.{Status}
use Rattle.form_base.specs.declared.status.Status.TheVariants.{Usage, Missing}
use Rattle.form_engine.specs.Call.{bytes_of_words}
use Rattle.form_engine.specs.Stop.{status_of}
use Rattle.form_engine.specs.Words.{file_of}
use Rattle.form_engine.specs.declared.answer.Answer.{Answer}
use Rattle.form_engine.proofs.Answered.{refused_status, never_usage, never_missing, answered_code, of_finished, finish_stop}
use Rattle.form_engine.proofs.Carried.{stopped_before, finished, decided_status, library_stop}
use Rattle.form_engine.proofs.Concluded.{Decided}
use Rattle.form_engine.proofs.call.run.Goals as goal

pub returns-in_err-answer-clause-headline : goal.returns-in_err-answer-clause-headline
returns-in_err-answer-clause-headline g c =
    let p = err_from_is_err_and c.from_residual.result c.from_residual.ensures.1 in
    let why = library_stop Answer (g.O.Sink.faults c.args.out.now < g.O.Sink.faults c.args.out.now) (g.L.Library.faults c.args.library.now) (g.L.Library.faults c.decide.new.library) c.in_err-answer.field-0.0
    c.in_err-answer.ensures.failed c.in_err-answer.ensures.never_sink c.requires.library_can_count c.in_err-answer.ensures.never_falls in
    rw (p.1, p.2) (stopped_before c.one_outcome.ensures.some (bytes_of_words c.args.words.now) (g.L.Library.texts c.args.library.now) (g.O.Sink.taken c.args.out.now) (g.O.Sink.taken c.args.out.now) (status_of c.in_err-answer.field-0.0) _ refl why)

pub returns-clause-headline : goal.returns-clause-headline
returns-clause-headline g c =
    let carried = c.in_ok-status.ensures.carried in
    finished (bytes_of_words c.args.words.now) (g.L.Library.texts c.args.library.now) c.in_ok-answer.answer carried.0 (g.O.Sink.taken c.args.out.now) (g.O.Sink.taken c.carry_out.new.out) (g.O.Sink.taken c.finish.new.out) c.in_ok-status.status c.finish.result _
    c.in_ok-answer.ensures.outcome carried.1 carried.2 c.finish.ensures.carried
    (λ early e.
    finish_stop (g.L.Library.faults c.args.library.now < g.L.Library.faults c.decide.new.library) (g.O.Sink.faults c.args.out.now) (g.O.Sink.faults c.carry_out.new.out) (g.O.Sink.faults c.finish.new.out) c.finish.result early e
    c.finish.ensures.failed c.finish.ensures.never_library c.requires.sink_can_count (c.in_ok-status.ensures.not_risen (λ q. cc)) c.finish.ensures.never_falls)

pub returns-clause-decided : goal.returns-clause-decided
returns-clause-decided g c =
    let carried = c.in_ok-status.ensures.carried in
    of_finished (Decided (bytes_of_words c.args.words.now) (g.L.Library.texts c.args.library.now)) (g.O.Sink.taken c.carry_out.new.out) (g.O.Sink.taken c.finish.new.out) c.in_ok-status.status c.finish.result c.finish.ensures.carried
    (decided_status (bytes_of_words c.args.words.now) (g.L.Library.texts c.args.library.now) c.in_ok-answer.answer carried.0 c.in_ok-status.status c.in_ok-answer.ensures.outcome carried.1 carried.2.1)

pub returns-clause-answered : goal.returns-clause-answered
returns-clause-answered g c =
    let carried = c.in_ok-status.ensures.carried in
    let small : code_of c.in_ok-status.status ≤ 4 = rw carried.2.1 (answered_code c.in_ok-answer.answer carried.0 c.in_ok-answer.ensures.early carried.1) in
    of_finished (λ (status : Status). code_of status ≤ 4) (g.O.Sink.taken c.carry_out.new.out) (g.O.Sink.taken c.finish.new.out) c.in_ok-status.status c.finish.result c.finish.ensures.carried small

pub returns-clause-usage : goal.returns-clause-usage
returns-clause-usage g c =
    let carried = c.in_ok-status.ensures.carried in
    of_finished (λ (status : Status). status ≡ Usage → file_of (bytes_of_words c.args.words.now) ≡ None) (g.O.Sink.taken c.carry_out.new.out) (g.O.Sink.taken c.finish.new.out) c.in_ok-status.status c.finish.result c.finish.ensures.carried
    (λ e. c.in_ok-answer.ensures.usage (ap Ok (refused_status c.in_ok-answer.answer carried.0 Usage carried.1 (sym carried.2.1 ∙ e) never_usage)))

pub returns-clause-missing_file : goal.returns-clause-missing_file
returns-clause-missing_file g c =
    let carried = c.in_ok-status.ensures.carried in
    of_finished (λ (status : Status). (name : List ℕ) → status ≡ Missing name → file_of (bytes_of_words c.args.words.now) ≡ Some name) (g.O.Sink.taken c.carry_out.new.out) (g.O.Sink.taken c.finish.new.out) c.in_ok-status.status c.finish.result c.finish.ensures.carried
    (λ name e. c.in_ok-answer.ensures.missing name (ap Ok (refused_status c.in_ok-answer.answer carried.0 (Missing name) carried.1 (sym carried.2.1 ∙ e) (never_missing name))))
