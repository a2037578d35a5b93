use Rattle.std.proofs.Common.{◌≡◌, List, length, take, rules, subst, sym}
use Rattle.std.proofs.lemmas.List.{length-take-le}
use Rattle.form_match.specs.Places.{ground_of}
use Rattle.form_bindings.specs.declared.bindings.Wildcard.TheVariants as wildcards
use Rattle.form_bindings.specs.Learning.{Tells, and_bound}
use Rattle.form_bindings.specs.Values.{Binding, binding}
use Rattle.form_match.specs.declared.trail.Trail.{Trail}
use Rattle.form_match.proofs.Cutting.{cut_front}
use Rattle.form_match.proofs.Fields.{many_takes}
use Rattle.form_match.proofs.arguments.take_one_by_one.Goals as goal

pub slice_bounds-learn-end : goal.slice_bounds-learn-end
slice_bounds-learn-end c =
    sym (length-take-le c.args.at.now.candidate c.args.pieces.now (cut_front c.args.pieces.now c.requires.lawful c.requires.candidate.0 c.args.at.now.candidate c.requires.candidate.1).inside)

pub learn-requires : goal.learn-requires
learn-requires c = (cut_front c.args.pieces.now c.requires.lawful c.requires.candidate.0 c.args.at.now.candidate c.requires.candidate.1).front_lawful

pub returns : goal.returns
returns c =
    let ps = c.args.pieces.now in
    let new : Trail = record { takes = c.keep_next.new.self.takes; bindings = c.learn.new.self; choices = c.keep_next.new.self.choices } in
    let told = subst (λ (bs : List Binding). Tells c.in_ok-is_learnt.is_learnt (and_bound bs (binding (wildcards.Field c.args.field) (take c.args.at.now.candidate ps))) c.learn.new.self)
    c.keep_next.ensures.bindings c.in_ok-is_learnt.ensures.learnt in
    let kept = subst (λ (bs : List Binding). take (length bs) c.learn.new.self ≡ bs) c.keep_next.ensures.bindings c.learn.ensures.kept in
    many_takes c.args.field ps c.requires.lawful c.args.at.now (length (ground_of c.args.terms.now).inners) c.args.trail.now new
    c.requires.candidate.0 c.in_ok-is_learnt.is_learnt c.where_taken.result c.one_more-more.result c.requires.candidate.1 (c.one_more-more.ensures c.requires.candidate.0 c.requires.candidate.1) (search rules)
    c.keep_next.ensures.takes (rw c.count.ensures at c.in_ok-keep_next.ensures.choices) told kept c.where_taken.ensures
