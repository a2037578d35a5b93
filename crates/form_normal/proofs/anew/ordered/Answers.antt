use Rattle.form_term.specs.Term.{Others}
use Rattle.form_term.specs.TermLaws.{components_equal, calls_equal}
use Rattle.form_normal.proofs.Alone.{ordered_made}
use Rattle.form_normal.proofs.anew.ordered.Goals as goal

pub sorted-components-requires : goal.sorted-components-requires
sorted-components-requires c = components_equal

pub sorted-functions-requires : goal.sorted-functions-requires
sorted-functions-requires c = calls_equal

pub returns : goal.returns
returns c =
    let i = c.others.inside in
    let v : Others = record { is_imaginary = i.is_imaginary; dots = i.dots.items; components = i.components.items; deltas = i.deltas.items; functions = i.functions.items; word = i.word.items } in
    ordered_made c.args.others v c.sorted-components.result.items c.open_in_order-deltas.result.items c.sorted-functions.result.items c.others.view_is c.requires c.sorted-components.ensures c.open_in_order-deltas.ensures c.sorted-functions.ensures
