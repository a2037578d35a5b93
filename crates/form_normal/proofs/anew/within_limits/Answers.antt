use Rattle.std.proofs.Common.{◌≡◌, ◌-◌, ◌^◌, List, min, ap, ◌∙◌, inl, inr, arith}
use Rattle.form_base.specs.declared.cause.Cause.TheVariants.{TermSize}
use Rattle.form_term.specs.declared.power.Power.{Power}
use Rattle.form_term.specs.Term.{size, depth}
use Rattle.form_term.specs.Terms.{term}
use Rattle.form_normal.proofs.Alone.{is_term}
use Rattle.form_normal.proofs.Large.{past_limits}
use Rattle.form_normal.proofs.Lasting.{within}
use Rattle.form_normal.proofs.Limits.{are_in_range_from, are_dots_in_range_from}
use Rattle.form_normal.proofs.anew.within_limits.Goals as goal

pub returns-then-size-gt-LARGEST_SIZE-clause-refused : goal.returns-then-size-gt-LARGEST_SIZE-clause-refused
returns-then-size-gt-LARGEST_SIZE-clause-refused c = λ cause e.
    let t = term c.args.powers.items c.args.others in
    let counted : c.size_of-size.result ≡ min (size t) (2 ^ 64 - 1) = c.size_of-size.ensures ∙ ap (λ (ps : List Power). min (size (term ps c.args.others)) (2 ^ 64 - 1)) c.deref.ensures.value in
    let same : TermSize ≡ cause = cc in
    rw (← same) (past_limits t (are_in_range_from t.symbols c.requires.powers.in_range) (are_dots_in_range_from t.others.dots c.requires.others.dots_in_range) (inl (omega (arith, counted, c.if-size-gt-LARGEST_SIZE.true))))

pub returns-then-depth-ge-LARGEST_DEPTH-clause-refused : goal.returns-then-depth-ge-LARGEST_DEPTH-clause-refused
returns-then-depth-ge-LARGEST_DEPTH-clause-refused c = λ cause e.
    let t = term c.args.powers.items c.args.others in
    let same : TermSize ≡ cause = cc in
    rw (← same) (past_limits t (are_in_range_from t.symbols c.requires.powers.in_range) (are_dots_in_range_from t.others.dots c.requires.others.dots_in_range) (inr (omega (arith, c.depth-depth.ensures, c.if-depth-ge-LARGEST_DEPTH.true))))

pub from_factors-requires : goal.from_factors-requires
from_factors-requires c =
    let t = term c.args.powers.items c.args.others in
    let counted : c.size_of-size.result ≡ min (size t) (2 ^ 64 - 1) = c.size_of-size.ensures ∙ ap (λ (ps : List Power). min (size (term ps c.args.others)) (2 ^ 64 - 1)) c.deref.ensures.value in
    is_term t c.requires.powers c.requires.others (omega (arith, counted, c.if-size-gt-LARGEST_SIZE.false)) (omega (arith, c.depth-depth.ensures, c.if-depth-ge-LARGEST_DEPTH.false))

pub returns-clause-ok : goal.returns-clause-ok
returns-clause-ok c =
    let t = term c.args.powers.items c.args.others in
    let counted : c.size_of-size.result ≡ min (size t) (2 ^ 64 - 1) = c.size_of-size.ensures ∙ ap (λ (ps : List Power). min (size (term ps c.args.others)) (2 ^ 64 - 1)) c.deref.ensures.value in
    rw c.in_ok-term.ensures (within t (is_term t c.requires.powers c.requires.others (omega (arith, counted, c.if-size-gt-LARGEST_SIZE.false)) (omega (arith, c.depth-depth.ensures, c.if-depth-ge-LARGEST_DEPTH.false))))
