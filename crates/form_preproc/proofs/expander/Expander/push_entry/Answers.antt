use Rattle.std.proofs.Common.{◌≡◌, ◌<◌, ◌^◌, ◌∷◌, ℕ, List, sym, ap, ◌∙◌, subst, arith}
use Rattle.form_preproc.proofs.Shallow.{depth_fits}
use Rattle.form_preproc.specs.Stepping.{depth_inside, depth_now}
use Rattle.form_preproc.specs.declared.frame.Frame.{Frame}
use Rattle.form_preproc.proofs.expander.Expander.push_entry.Goals as goal

pub returns : goal.returns
returns c =
    let s = c.args.self.now in
    let e = c.args.entry in
    let small : c.len.result < 2 ^ 64 = omega arith in
    let outside : depth_inside e.after c.depth.result ≡ depth_inside e.after (depth_now s.frames) = ap (λ (d : ℕ). depth_inside e.after d) c.depth.ensures in
    let fits = depth_fits e.after s.frames c.push.new.self (record { entry = e; depth = c.depth_in-depth.result }) c.len.result c.requires c.in_ok-push.ensures.pushed c.len.ensures small in
    let inside : c.depth_in-depth.result ≡ depth_inside e.after (depth_now s.frames) = c.depth_in-depth.ensures (subst (λ (d : ℕ). d < 2 ^ 64) (sym outside) fits) ∙ outside in
    ap (λ (fs : List Frame). record s { frames = fs })
    (c.in_ok-push.ensures.pushed ∙ ap (λ (d : ℕ). let f : Frame = record { entry = e; depth = d } in f ∷ s.frames) inside)
