use Rattle.std.proofs.Common.{◌≡◌, ◌∙◌, sym, ap, option_and_then}
use Rattle.form_names.specs.Names.{entries_of, elements_at}
use Rattle.form_names.proofs.Entries.{elements_at-values, elements-lawful}
use Rattle.form_names.proofs.names.Names.elements.Goals as goal

pub returns : goal.returns
returns c =
    let entries = entries_of c.self.inside.facts.entries in
    let at : elements_at entries c.position.result ≡ c.index.result.now.elements = sym (elements_at-values c.self.inside.facts.entries c.position.result) ∙ ap (option_and_then (λ f. f.elements)) c.index.ensures in
    rw (← c.self.view_is, ← c.position.ensures) record {
      stands = c.as_ref.ensures.value ∙ sym at;
      lawful = elements-lawful entries entries c.position.result c.self.invariant.1;
    }
