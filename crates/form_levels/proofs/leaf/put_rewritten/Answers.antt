use Rattle.std.proofs.Common.{[], ◌∷◌, rules, subst}
use Rattle.std.proofs.lemmas.Bool.{OnTrue_at, OnTrue_from}
use Rattle.form_flow.specs.declared.compiled.ReadyLeaf.TheVariants.{Rewrite}
use Rattle.form_flow.specs.Statements.{leaf}
use Rattle.form_levels.specs.Heaps.{OneMore}
use Rattle.form_levels.specs.Rules.{IsRewritten}
use Rattle.form_levels.specs.declared.rewriting.Rewritten.{Rewritten}
use Rattle.form_levels.proofs.Carrying.{idle_more, acted_more}
use Rattle.form_levels.proofs.Heaps.{into_of}
use Rattle.form_levels.proofs.leaf.put_rewritten.Goals as goal

pub returns-in_ok-push-in-Untouched : goal.returns-in_ok-push-in-Untouched
returns-in_ok-push-in-Untouched c = λ at ps j h.
    let runs = subst (λ (r : Rewritten). IsRewritten at ps j r) c.in-Untouched.is h in
    idle_more (leaf at (Rewrite ps)) j c.in-Untouched.term c.args.idle.now.items c.push.new.self.items c.args.acted.now (search rules) runs

pub returns-in_ok-put_made-in-Acted : goal.returns-in_ok-put_made-in-Acted
returns-in_ok-put_made-in-Acted c = λ at ps j h.
    let go = leaf at (Rewrite ps) in
    let idle = c.args.idle.now.items in
    let heap = c.args.acted.now in
    let new = c.put_made.new.self in
    let runs = subst (λ (r : Rewritten). IsRewritten at ps j r) c.in-Acted.is h in
    OnTrue_from c.in_ok-put_made-in-Acted.field-0 (OneMore go j idle heap idle new)
    (λ e. acted_more go j idle heap new (into_of go (j ∷ []) [] c.in-Acted.made.items heap new runs (OnTrue_at e c.in_ok-put_made-in-Acted.ensures)))
