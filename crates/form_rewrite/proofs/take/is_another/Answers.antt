use Rattle.std.proofs.Common.{◌≡◌, true, [], ◌∷◌, ap, sym, ◌∙◌}
use Rattle.std.specs.List.{list_all}
use Rattle.form_rewrite.specs.Taking.{is_idle, is_idle_use, taken_so_far}
use Rattle.form_rewrite.proofs.Ways.{idle_next, none_more}
use Rattle.form_rewrite.proofs.take.is_another.Goals as goal

pub returns-in_default : goal.returns-in_default
returns-in_default c = λ fs is none bs. none_more c.args.pattern.now.fixed fs (taken_so_far c.args.left.now [] (bs ∷ []) 1) (sym c.in_default.is ∙ c.in_ok-next.ensures.first fs is)

pub returns-then-is_idle : goal.returns-then-is_idle
returns-then-is_idle c = λ fs is none bs.
    let idle : is_idle c.in-Some.next ≡ true = ap (λ us. list_all is_idle_use us) (sym c.as_slice.ensures) ∙ sym c.is_idle.ensures ∙ c.if-is_idle.true in
    idle_next c.args.pattern.now.fixed fs (taken_so_far c.args.left.now [] (bs ∷ []) 1) c.in-Some.next idle (sym c.in-Some.is ∙ c.in_ok-next.ensures.first fs is)
