use Rattle.std.proofs.Common.{map, ap, ◌∙◌}
use Rattle.form_flow.specs.Indices.{become, renamed_component, renamed_delta}
use Rattle.form_flow.proofs.renaming.renamed_others.Goals as goal

pub returns : goal.returns
returns c =
    let by = become c.args.renamings.now in
    let imaginary = c.is_imaginary.ensures in
    let dots = c.in_ok-from_slice.ensures.items ∙ c.dots.ensures in
    let components = c.in_ok-renamed_components.ensures ∙ ap (map (renamed_component by)) c.components.ensures in
    let deltas = c.in_ok-renamed_deltas.ensures ∙ ap (map (renamed_delta by)) c.deltas.ensures in
    λ i. record { is_imaginary = imaginary i; dots = dots i; components = components i; deltas = deltas i; functions = c.args.functions.items; word = c.args.word.items }
