use Rattle.std.proofs.Common.{Bool, cond, ap, sym, ◌∙◌}
use Rattle.std.proofs.lemmas.Result.{err_from_is_err_and}
use Rattle.form_grammar.specs.declared.terminal.Terminal.TheVariants as by_terminal
use Rattle.form_conditions.specs.declared.tokens.Wanted.TheVariants.{Comma}
use Rattle.form_conditions.specs.Grammar.{IsNameText}
use Rattle.form_conditions.specs.Reading.{names, take_name}
use Rattle.form_conditions.specs.Tokens.{left, tail_of}
use Rattle.form_conditions.proofs.Fronts.{comma_mark}
use Rattle.form_conditions.proofs.Separated.{loop_goes, loop_stops, loop_unread}
use Rattle.form_conditions.proofs.Sound.{name_sound}
use Rattle.form_conditions.proofs.value.names.Goals as goal

pub returns-in_err-name : goal.returns-in_err-name
returns-in_err-name c =
    let e = err_from_is_err_and c.from_residual.result c.from_residual.ensures.1 in
    rw (e.1, e.2) (loop_unread IsNameText take_name Comma by_terminal.Comma comma_mark name_sound c.in_err-name.field-0.0 c.loop-names.names.items (left c.loop-names.tokens) (names (left c.args.tokens.now))
    c.loop-names.invariant c.in_err-name.ensures)

pub returns-then-not-takes : goal.returns-then-not-takes
returns-then-not-takes c =
    let more = left c.take_name.new.self in
    loop_stops IsNameText take_name Comma by_terminal.Comma comma_mark name_sound c.loop-names.names.items c.from_vec.result (left c.loop-names.tokens) more (left c.takes.new.self) c.in_ok-name.name (names (left c.args.tokens.now))
    c.loop-names.invariant c.in_ok-name.ensures (sym c.takes.ensures.takes ∙ c.if-not-takes.true) (c.from_vec.ensures ∙ c.in_ok-push.ensures.items)
    (c.takes.ensures.rest ∙ ap (λ (b : Bool). cond b (tail_of more) more) c.if-not-takes.true)

pub loop-names-preserved : goal.loop-names-preserved
loop-names-preserved c =
    let more = left c.take_name.new.self in
    loop_goes IsNameText take_name Comma by_terminal.Comma comma_mark name_sound c.loop-names.names.items c.push.new.self.items (left c.loop-names.tokens) more (left c.takes.new.self) c.in_ok-name.name (names (left c.args.tokens.now))
    c.loop-names.invariant c.in_ok-name.ensures (sym c.takes.ensures.takes ∙ c.if-not-takes.false) c.in_ok-push.ensures.items
    (c.takes.ensures.rest ∙ ap (λ (b : Bool). cond b (tail_of more) more) c.if-not-takes.false)
