use Rattle.std.proofs.Common.{◌≡◌, ◌<◌, ℕ, All, List, [], ◌∷◌, ◌++◌, map, ap, sym, subst, ◌∙◌, arith}
use Rattle.form_match.specs.Left.{left_of}
use Rattle.form_match.specs.declared.uses.Use.{Use}
use Rattle.form_bindings.specs.Values.{Binding}
use Rattle.form_rewrite.specs.Taking.{fits_times, so_often}
use Rattle.form_rewrite.specs.Ways.{HasRoom}
use Rattle.form_rewrite.proofs.Fitting.{often_fits, often_has_room}
use Rattle.form_rewrite.proofs.Ways.{many_times}
use Rattle.form_rewrite.proofs.take.so_many_times.Goals as goal

pub so_often-requires : goal.so_often-requires
so_often-requires c =
    subst (λ (us : List Use). All (HasRoom c.args.times) us) (sym c.as_slice.ensures)
    (subst (λ (n : ℕ). All (HasRoom n) c.args.found.takes) (sym c.requires.times) (often_has_room c.args.term c.args.found.takes c.powers.ensures.lawful))

pub left_of-requires : goal.left_of-requires
left_of-requires c =
    let some : 0 < fits_times c.args.term c.args.found.takes = omega (arith, c.requires.times, c.requires.some) in
    let fit = often_fits c.args.term c.args.found.takes some c.requires.fits in
    rw (c.as_slice-2.ensures, c.in_ok-takes.ensures, c.as_slice.ensures, c.requires.times) fit

pub returns : goal.returns
returns c =
    let m = c.args.found in
    let n = c.args.times in
    let takes : c.as_slice-2.result.now ≡ map (so_often n) m.takes = c.as_slice-2.ensures ∙ c.in_ok-takes.ensures ∙ ap (map (so_often n)) c.as_slice.ensures in
    let only : c.push.new.self ≡ m.bindings ∷ [] = c.in_ok-push.ensures.put ∙ ap (λ (all : List (List Binding)). all ++ m.bindings ∷ []) c.new-matches.ensures in
    many_times c.args.term c.args.cuts m n c.in_ok-left.left c.push.new.self c.requires.times (c.in_ok-left.ensures ∙ ap (left_of c.args.term) takes) only
