use Rattle.std.proofs.Common.{◌≡◌, suc, ◌+◌, ◌<◌, List, [], ◌∷◌, ◌++◌, length, sym, ap, subst, ◌∙◌, arith}
use Rattle.form_match.specs.declared.trail.Choice.{Choice}
use Rattle.form_match.specs.declared.trail.Standing.{Standing}
use Rattle.form_match.specs.declared.trail.Taken.{Taken}
use Rattle.form_match.specs.declared.places.Frame.{Frame}
use Rattle.form_bindings.specs.Values.{Binding}
use Rattle.form_match.specs.Candidates.{candidates}
use Rattle.form_match.specs.Factors.{frame_of_use, is_fit}
use Rattle.form_match.specs.Places.{ground_of}
use Rattle.form_match.specs.Running.{IsRunning, keeping, ways_from, ways_left}
use Rattle.form_match.proofs.Ending.{some_from}
use Rattle.form_match.proofs.Factoring.{candidate_refused, candidate_taken, fewer_kept, fewer_on, is_later, no_candidate}
use Rattle.form_match.proofs.factors.factor.Goals as goal

pub returns-in_default-clause-goes_on : goal.returns-in_default-clause-goes_on
returns-in_default-clause-goes_on c = λ table ps found here r.
    no_candidate table ps found (ground_of c.args.terms.now) c.args.trail.now.takes.items c.args.trail.now.bindings c.args.trail.now.choices.items c.args.at.now c.args.number c.requires.framed c.args.piece.now c.args.behind.now here r c.requires.no_end c.host-host.result c.host-host.ensures c.in_default.ensures.first

pub returns-in_default-clause-less : goal.returns-in_default-clause-less
returns-in_default-clause-less c = omega (arith, some_from (c.args.at.now.piece + suc (length c.args.behind.now)) c.args.at.now)

pub returns-then-not-branch-clause-goes_on : goal.returns-then-not-branch-clause-goes_on
returns-then-not-branch-clause-goes_on c = λ table ps found here r.
    candidate_refused table ps found (ground_of c.args.terms.now) c.args.trail.now.takes.items c.args.trail.now.bindings c.args.trail.now.choices.items c.args.at.now c.args.number c.requires.framed c.args.piece.now c.args.behind.now here r c.requires.no_end c.host-host.result c.host-host.ensures
    c.in-Some.candidate c.in-Some.made c.in-Some.ensures.first c.next_candidate-second.result c.next_candidate-second.ensures.next c.count.result c.count.ensures
    c.keep_next.new.self.choices.items c.in_ok-keep_next.ensures.choices c.keep_next.new.self.bindings c.ask.new.bindings c.keep_next.ensures.bindings c.ask.ensures.kept
    c.keep_next.new.self.takes.items (ap (λ t. t.items) c.keep_next.ensures.takes) (rw c.if-not-branch.true at c.in_ok-ask.ensures.told)

pub returns-then-not-branch-clause-less : goal.returns-then-not-branch-clause-less
returns-then-not-branch-clause-less c =
    let count = c.args.at.now.piece + suc (length c.args.behind.now) in
    let later = is_later (is_fit c.host-host.result c.args.piece.now c.args.behind.now) (candidates c.host-host.result c.args.piece.now) c.args.at.now c.in-Some.candidate c.next_candidate-second.result
    c.in-Some.ensures.first.0.0 c.next_candidate-second.ensures.next c.next_candidate-second.ensures.small in
    subst (λ (l : List Choice). ways_left count l < ways_from count c.args.at.now + ways_left count c.args.trail.now.choices.items) (sym c.in_ok-keep_next.ensures.choices)
    (fewer_kept count c.args.at.now c.count.result (length c.args.trail.now.takes.items) (length c.args.trail.now.bindings) c.args.trail.now.choices.items c.next_candidate-second.result later)

pub returns-clause-goes_on : goal.returns-clause-goes_on
returns-clause-goes_on c = λ table ps found here r.
    let g = ground_of c.args.terms.now in
    let takes : c.take.new.self.takes.items ≡ c.args.trail.now.takes.items ++ record { host = c.args.number; made = c.in-Some.made } ∷ []
    = c.in_ok-take.ensures.takes ∙ ap (λ (l : List Taken). l ++ record { host = c.args.number; made = c.in-Some.made } ∷ []) (ap (λ t. t.items) c.keep_next.ensures.takes) in
    let goes : c.ahead.result ≡ record { piece = c.args.at.now.piece + 1; candidate = 0; frame = frame_of_use c.args.number c.in-Some.made }
    = c.ahead.ensures ∙ ap (λ (f : Frame). record { piece = c.args.at.now.piece + 1; candidate = 0; frame = f }) c.opened.ensures.frame in
    let kept : c.take.new.self.choices.items ≡ c.keep_next.new.self.choices.items = ap (λ t. t.items) c.take.ensures.choices in
    subst (λ (l : List Binding). IsRunning table ps found g c.take.new.self.takes.items l c.take.new.self.choices.items c.ahead.result) (sym c.take.ensures.bindings)
    (subst (λ (l : List Choice). IsRunning table ps found g c.take.new.self.takes.items c.ask.new.bindings l c.ahead.result) (sym kept)
    (candidate_taken table ps found g c.args.trail.now.takes.items c.args.trail.now.bindings c.args.trail.now.choices.items c.args.at.now c.args.number c.requires.framed c.args.piece.now c.args.behind.now here r c.requires.no_end c.host-host.result c.host-host.ensures
    c.in-Some.candidate c.in-Some.made c.in-Some.ensures.first c.next_candidate-second.result c.next_candidate-second.ensures.next c.count.result c.count.ensures
    c.keep_next.new.self.choices.items c.in_ok-keep_next.ensures.choices c.keep_next.new.self.bindings c.ask.new.bindings c.keep_next.ensures.bindings c.ask.ensures.kept
    c.take.new.self.takes.items takes c.ahead.result goes (rw c.if-not-branch.false at c.in_ok-ask.ensures.told) c.opened.ensures.lawful))

pub returns-clause-less : goal.returns-clause-less
returns-clause-less c =
    let count = c.args.at.now.piece + suc (length c.args.behind.now) in
    let later = is_later (is_fit c.host-host.result c.args.piece.now c.args.behind.now) (candidates c.host-host.result c.args.piece.now) c.args.at.now c.in-Some.candidate c.next_candidate-second.result
    c.in-Some.ensures.first.0.0 c.next_candidate-second.ensures.next c.next_candidate-second.ensures.small in
    let kept : c.take.new.self.choices.items ≡ keeping c.next_candidate-second.result c.args.at.now c.count.result (length c.args.trail.now.takes.items) (length c.args.trail.now.bindings) c.args.trail.now.choices.items
    = ap (λ t. t.items) c.take.ensures.choices ∙ c.in_ok-keep_next.ensures.choices in
    let piece : c.ahead.result.piece ≡ c.args.at.now.piece + 1 = ap (λ (s : Standing). s.piece) c.ahead.ensures in
    subst (λ (l : List Choice). ways_from count c.ahead.result + ways_left count l < ways_from count c.args.at.now + ways_left count c.args.trail.now.choices.items) (sym kept)
    (fewer_on count c.args.at.now c.count.result (length c.args.trail.now.takes.items) (length c.args.trail.now.bindings) c.args.trail.now.choices.items c.ahead.result c.next_candidate-second.result later (omega (arith, piece)) (omega arith))
