use Rattle.std.proofs.Common.{◌≡◌, ap, subst, sym, ◌∙◌}
use Rattle.std.proofs.lemmas.Result.{IfOk-weaker}
use Rattle.form_term.specs.Term.{Term, Others, IsTerm}
use Rattle.form_term.specs.Terms.{term}
use Rattle.form_flow.specs.Words.{front}
use Rattle.form_flow.proofs.Wording.{front_kept, front_lawful}
use Rattle.form_flow.proofs.words.with_front.Goals as goal

pub from_factors-requires : goal.from_factors-requires
from_factors-requires c =
    let t = c.args.term in
    let ps = c.into_factors-powers.result.0.items in
    let i = c.others.inside in
    let v : Others = record { is_imaginary = i.is_imaginary; dots = i.dots.items; components = i.components.items; deltas = i.deltas.items; functions = i.functions.items; word = i.word.items } in
    let made = front_kept c.args.count t ps v c.keep_first.new.word.items (c.into_factors-powers.ensures.is ∙ ap (term ps) (sym c.others.view_is)) c.keep_first.ensures in
    subst IsTerm (sym made) (front_lawful c.args.count t c.into_factors-powers.ensures.lawful)

pub returns : goal.returns
returns c =
    let t = c.args.term in
    let ps = c.into_factors-powers.result.0.items in
    let i = c.others.inside in
    let v : Others = record { is_imaginary = i.is_imaginary; dots = i.dots.items; components = i.components.items; deltas = i.deltas.items; functions = i.functions.items; word = i.word.items } in
    let made = front_kept c.args.count t ps v c.keep_first.new.word.items (c.into_factors-powers.ensures.is ∙ ap (term ps) (sym c.others.view_is)) c.keep_first.ensures in
    IfOk-weaker c.from_factors.result _ (λ (x : Term). x ≡ front c.args.count t) (λ x e. e ∙ made) c.from_factors.ensures
