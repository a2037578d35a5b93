use Rattle.std.proofs.Common.{◌≡◌, ◌∙◌, Some, sym, ap, option_map}
use Rattle.form_names.specs.Names.{entries_of, kind_at}
use Rattle.form_names.proofs.Entries.{kind_at-values, kind-lawful}
use Rattle.form_names.proofs.names.Names.kind.Goals as goal

pub returns : goal.returns
returns c =
    let entries = entries_of c.self.inside.facts.entries in
    let at : kind_at entries c.position.result ≡ Some c.index.result.now.kind = sym (kind_at-values c.self.inside.facts.entries c.position.result) ∙ ap (option_map (λ f. f.kind)) c.index.ensures in
    rw (← c.self.view_is, ← c.position.ensures) record {
      stands = at;
      lawful = kind-lawful entries entries c.position.result _ c.self.invariant.1 at;
    }
