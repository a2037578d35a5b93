use Rattle.std.proofs.Common.{◌≡◌, None, true, [], ◌∷◌, refl, ap, subst, sym, ◌∙◌}
use Rattle.std.specs.List.{list_all}
use Rattle.form_match.specs.Fits.{Fits}
use Rattle.form_match.specs.Left.{left_of}
use Rattle.form_match.specs.Ready.{is_plain_piece}
use Rattle.form_rewrite.specs.Taking.{option_by, taken_so_far}
use Rattle.form_rewrite.specs.Ways.{IsOnce, all_more, leaves_words, taken_by}
use Rattle.form_rewrite.specs.Taking.{untouched}
use Rattle.form_rewrite.proofs.Options.{decided, decided_by, decided_well, fits_often}
use Rattle.form_rewrite.proofs.Ways.{by_end, by_many}
use Rattle.form_rewrite.proofs.take.take_out.Goals as goal

pub returns-in_default-clause-taken : goal.returns-in_default-clause-taken
returns-in_default-clause-taken c = λ fs is.
    decided c.args.pattern.now.fixed fs c.args.option c.args.term c.args.cuts.now c.is_exact.result None c.is_exact.ensures
    (sym c.in_default.is ∙ c.in_ok-found.ensures.first fs is)

pub returns-then-not-is_alone-clause-taken : goal.returns-then-not-is_alone-clause-taken
returns-then-not-is_alone-clause-taken c = λ fs is.
    let m = c.in-Some.found in
    let first = sym c.in-Some.is ∙ c.in_ok-found.ensures.first fs is in
    let fit : Fits m.takes c.args.term = rw c.in-Some.is at c.in_ok-found.ensures.fits in
    let often = fits_often c.option_of-option.result c.args.option c.args.pattern.now.pieces c.args.term m.takes c.option_of-option.ensures
    (λ plain. c.plain_patterns_fit.ensures c.args.pattern.now.fixed fs c.args.term c.args.cuts.now c.is_exact.result m (ap (λ ps. list_all is_plain_piece ps) (sym is) ∙ plain) (sym first) fit) in
    decided_well c.args.pattern.now.fixed fs c.args.option c.args.term c.args.cuts.now c.is_exact.result c.in-Some.found c.option_of-option.result (taken_by c.option_of-option.result c.args.pattern.now.fixed fs (untouched c.args.term c.args.cuts.now) c.in-Some.found)
    c.is_exact.ensures (sym c.in-Some.is ∙ c.in_ok-found.ensures.first fs is) (c.option_of-option.ensures ∙ ap (option_by c.args.option) is)
    refl c.take_several.result (c.take_several.ensures.taken fs is often)

pub returns-then-branch-clause-taken : goal.returns-then-branch-clause-taken
returns-then-branch-clause-taken c = λ fs is.
    let leaves : list_all leaves_words c.in-Some.found.takes ≡ true = ap (λ us. list_all leaves_words us) (sym c.as_slice.ensures) ∙ c.is_alone.ensures.takes c.if-not-is_alone.false in
    let left : c.in_ok-left.left ≡ left_of c.args.term c.in-Some.found.takes = c.in_ok-left.ensures ∙ ap (left_of c.args.term) c.as_slice-2.ensures in
    decided_well c.args.pattern.now.fixed fs c.args.option c.args.term c.args.cuts.now c.is_exact.result c.in-Some.found c.option_of-option.result (all_more c.args.pattern.now.fixed fs (taken_so_far c.in_ok-left.left [] (c.in-Some.found.bindings ∷ []) 1))
    c.is_exact.ensures (sym c.in-Some.is ∙ c.in_ok-found.ensures.first fs is) (c.option_of-option.ensures ∙ ap (option_by c.args.option) is)
    (by_many c.args.pattern.now.fixed fs c.args.term c.args.cuts.now c.in-Some.found (c.is_alone.ensures.uncut c.if-not-is_alone.false) leaves c.in_ok-left.left left c.option_of-option.result (c.in_ok-has_more.ensures.many c.if-branch.true)) c.go_on.result (c.go_on.ensures.taken fs is)

pub returns-clause-taken : goal.returns-clause-taken
returns-clause-taken c = λ fs is.
    let leaves : list_all leaves_words c.in-Some.found.takes ≡ true = ap (λ us. list_all leaves_words us) (sym c.as_slice.ensures) ∙ c.is_alone.ensures.takes c.if-not-is_alone.false in
    let left : c.in_ok-left.left ≡ left_of c.args.term c.in-Some.found.takes = c.in_ok-left.ensures ∙ ap (left_of c.args.term) c.as_slice-2.ensures in
    let once : IsOnce c.option_of-option.result c.args.term c.in-Some.found.takes = subst (λ us. IsOnce c.option_of-option.result c.args.term us) c.as_slice.ensures (c.is_alone.ensures.once c.if-not-is_alone.false) in
    decided_by c.args.pattern.now.fixed fs c.args.option c.args.term c.args.cuts.now c.is_exact.result c.in-Some.found c.option_of-option.result (taken_so_far c.in_ok-left.left [] (c.in-Some.found.bindings ∷ []) 1)
    c.is_exact.ensures (sym c.in-Some.is ∙ c.in_ok-found.ensures.first fs is) (c.option_of-option.ensures ∙ ap (option_by c.args.option) is)
    (by_end c.args.pattern.now.fixed fs c.args.term c.args.cuts.now c.in-Some.found (c.is_alone.ensures.uncut c.if-not-is_alone.false) leaves c.in_ok-left.left left c.option_of-option.result once (c.in_ok-has_more.ensures.ended fs is c.if-branch.false))
