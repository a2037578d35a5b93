use Rattle.std.proofs.Common.{◌≡◌, ap, map, refl, sym, subst, List, ◌∙◌}
use Rattle.std.proofs.lemmas.List.{take_all}
use Rattle.std.specs.Prelude.{All}
use Rattle.form_match.specs.Ready.{ReadyPattern}
use Rattle.form_flow.specs.Making.{HasPattern, tried}
use Rattle.form_flow.specs.Ready.{IsBuilt}
use Rattle.form_flow.proofs.Readying.{are_patterns, at_item}
use Rattle.form_flow.proofs.compiling.patterns_of.Goals as goal

pub pattern_of-requires : goal.pattern_of-requires
pattern_of-requires c = at_item HasPattern c.args.patterns.now c.args.patterns.now c.loop-pattern.pattern-index c.pattern-item.result refl c.loop-pattern-test.true c.pattern-item.is c.requires

pub returns-clause-built : goal.returns-clause-built
returns-clause-built c =
    let are : c.loop-pattern.made.items ≡ map (tried c.args.limit) c.args.patterns.now =
    c.loop-pattern.invariant ∙ ap (map (tried c.args.limit)) (take_all c.loop-pattern.pattern-index c.args.patterns.now c.loop-pattern-test.false) in
    subst (λ (ps : List ReadyPattern). All IsBuilt ps) (sym are) (are_patterns c.args.limit c.args.patterns.now c.requires)
