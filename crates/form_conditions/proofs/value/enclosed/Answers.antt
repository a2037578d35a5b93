use Rattle.std.proofs.Common.{[], ap, sym, ◌∙◌, rules}
use Rattle.form_grammar.specs.Terminal.{terminal_of}
use Rattle.form_conditions.specs.declared.tokens.Nesting.{Nesting}
use Rattle.form_conditions.specs.Reading.{depth_behind, enclosed, ends}
use Rattle.form_conditions.specs.Tokens.{left}
use Rattle.form_conditions.proofs.Skips.{enclosed_ends, enclosed_goes, enclosed_stops}
use Rattle.form_conditions.proofs.value.enclosed.Goals as goal

pub returns-then-ends : goal.returns-then-ends
returns-then-ends c =
    let t = terminal_of c.in-Some.token in
    let end = ap (λ (n : Nesting). ends n c.loop-token.depth) (sym c.nesting_of-nesting.ensures) ∙ sym c.ends.ensures ∙ c.if-ends.true in
    enclosed_ends c.loop-token.depth c.loop-token.inner (left c.loop-token.tokens) (left c.next.new.self) t (enclosed 0 [] (left c.args.tokens.now))
    c.in-Some.ensures end c.loop-token.invariant.read

pub loop-token-preserved : goal.loop-token-preserved
loop-token-preserved c =
    let t = terminal_of c.in-Some.token in
    let on = ap (λ (n : Nesting). ends n c.loop-token.depth) (sym c.nesting_of-nesting.ensures) ∙ sym c.ends.ensures ∙ c.if-ends.false in
    let deeper = c.depth_behind-depth.ensures.depth ∙ ap (λ (n : Nesting). depth_behind n c.loop-token.depth) c.nesting_of-nesting.ensures in
    record {
      read = enclosed_goes c.loop-token.depth c.depth_behind-depth.result c.loop-token.inner c.in_ok-inner.inner (left c.loop-token.tokens) (left c.next.new.self) t (enclosed 0 [] (left c.args.tokens.now))
          c.in-Some.ensures on c.loop-token.invariant.read deeper c.in_ok-inner.ensures;
      within = search rules;
    }

pub returns : goal.returns
returns c =
    enclosed_stops c.loop-token.depth c.loop-token.inner (left c.loop-token.tokens) (enclosed 0 [] (left c.args.tokens.now)) c.in_default.ensures c.loop-token.invariant.read
