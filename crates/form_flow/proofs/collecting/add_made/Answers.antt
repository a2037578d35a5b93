use Rattle.std.proofs.Common.{◌++◌, sym, ap, ◌∙◌, subst, append-nil}
use Rattle.std.specs.Option.{option_to_list}
use Rattle.form_collect.specs.Collector.{IsCollectionOf}
use Rattle.form_flow.proofs.collecting.add_made.Goals as goal

pub returns-in-None : goal.returns-in-None
returns-in-None c = λ list h. subst (IsCollectionOf c.args.collector.now) (sym (append-nil list) ∙ ap (λ m. list ++ option_to_list m) (sym c.in-None.is)) h
