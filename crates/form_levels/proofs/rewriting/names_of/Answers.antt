use Rattle.std.proofs.Common.{◌≡◌, ℕ, true, List, [], Option, None, get_or, ap, ◌∙◌, rules}
use Rattle.std.specs.List.{list_all}
use Rattle.std.specs.Global.{Vec}
use Rattle.std.proofs.lemmas.Result.{IfOk-weaker}
use Rattle.form_term.specs.Term.{is_nil}
use Rattle.form_expand.specs.Meanings.{Meanings, bound_to}
use Rattle.form_flow.specs.Rests.{names_in}
use Rattle.form_flow.proofs.Inserting.{by_bindings}
use Rattle.form_levels.proofs.Becoming.{none_bound}
use Rattle.form_levels.proofs.rewriting.names_of.Goals as goal

pub returns-then-bind_nothing : goal.returns-then-bind_nothing
returns-then-bind_nothing c = λ n.
    let unbound : list_all is_nil c.args.matches.items ≡ true = search rules in
    ap (λ (names : List (Option Meanings)). names_in (get_or names n None)) c.new.ensures.items ∙ none_bound c.args.matches.items n unbound

pub returns : goal.returns
returns c =
    IfOk-weaker c.all_bound.result _ (λ (names : Vec (Option Meanings)). (n : ℕ) → names_in (get_or names.items n None) ≡ bound_to (get_or c.args.matches.items n []))
    (λ names same n. by_bindings names.items c.args.matches.items n same) c.all_bound.ensures
