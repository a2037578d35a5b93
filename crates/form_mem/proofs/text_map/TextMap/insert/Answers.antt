use Rattle.std.proofs.Common.{ap, ◌∙◌}
use Rattle.std.specs.FinMap as map
use Rattle.form_mem.specs.TextMap.{kept_in}
use Rattle.form_mem.proofs.Kept.{texts_of-insert}
use Rattle.form_mem.proofs.text_map.TextMap.insert.Goals as goal

pub returns-clause-ok : goal.returns-clause-ok
returns-clause-ok c =
    texts_of-insert c.args.self.now.entries c.insert.new.self c.in_ok-name.name c.in_ok-text.text c.in_ok-insert.ensures.updates
    ∙ ap (λ name. map.insert (kept_in c.args.self.now) name c.in_ok-text.text.items) c.in_ok-name.ensures.ok
    ∙ ap (map.insert (kept_in c.args.self.now) c.args.name.now) c.in_ok-text.ensures.items
