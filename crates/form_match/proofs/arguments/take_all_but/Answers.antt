use Rattle.std.proofs.Common.{ℕ, Option, None, sym, subst}
use Rattle.std.proofs.lemmas.List.{length-take-le}
use Rattle.form_match.specs.Leading.{TakesFirst}
use Rattle.form_match.specs.Parts.{IsFront}
use Rattle.form_match.proofs.Cutting.{cut_front}
use Rattle.form_match.proofs.Fields.{all_but, if_some, too_few}
use Rattle.form_match.proofs.arguments.take_all_but.Goals as goal

pub returns-in_default-clause-first : goal.returns-in_default-clause-first
returns-in_default-clause-first c = λ behind count.
    too_few c.args.field c.args.pieces.now c.requires c.args.bindings.now c.args.bindings.now behind c.args.count count c.in_default.ensures

pub slice_bounds-learn-end : goal.slice_bounds-learn-end
slice_bounds-learn-end c = sym (length-take-le c.in-Some.len c.args.pieces.now (cut_front c.args.pieces.now c.requires c.in-Some.ensures.0 c.in-Some.len c.in-Some.ensures.1).inside)

pub learn-requires : goal.learn-requires
learn-requires c = (cut_front c.args.pieces.now c.requires c.in-Some.ensures.0 c.in-Some.len c.in-Some.ensures.1).front_lawful

pub returns-clause-first : goal.returns-clause-first
returns-clause-first c = λ behind count.
    subst (λ (n : Option ℕ). TakesFirst c.args.field behind c.args.pieces.now c.args.bindings.now c.learn.new.self 0 n None) (sym c.where_taken.ensures)
    (all_but c.args.field c.args.pieces.now c.requires c.args.bindings.now c.learn.new.self behind c.args.count count c.in-Some.ensures.0 c.in-Some.len c.in_ok-is_learnt.is_learnt
    c.in-Some.ensures.1 c.in-Some.ensures.2 c.in_ok-is_learnt.ensures.learnt)

pub returns-clause-front : goal.returns-clause-front
returns-clause-front c =
    if_some (λ (len : ℕ). (first : ℕ) × IsFront c.args.pieces.now first len) c.in-Some.len c.in_ok-is_learnt.is_learnt c.where_taken.result c.where_taken.ensures (c.in-Some.ensures.0, c.in-Some.ensures.1)
