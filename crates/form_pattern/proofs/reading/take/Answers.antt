use Rattle.std.proofs.Common.{◌+◌, ◌≤◌, ap, sym, subst, arith}
use Rattle.form_right_side.specs.Marks.{stands_in}
use Rattle.form_pattern.specs.PatternWalking.{open_at, in_product, in_arguments, behind_argument, in_fixed}
use Rattle.form_pattern.specs.declared.reading.Reading.{Reading}
use Rattle.form_pattern.proofs.FewOpen.{few_product, few_arguments, few_behind, few_vector, few_fixed, given_few, one_more}
use Rattle.form_pattern.proofs.reading.take.Goals as goal

pub in_fixed-requires : goal.in_fixed-requires
in_fixed-requires c = omega (arith, c.requires.room, ap open_at c.in-Fixed.is)

pub returns-in-Product-clause-few : goal.returns-in-Product-clause-few
returns-in-Product-clause-few c =
    let s = c.args.reading in
    let p = c.args.piece.now in
    let rest = c.args.rest.now in
    let n = open_at s.place + 1 in
    given_few n c.in_product.result (in_product c.args.names.now s p rest) c.in_product.ensures (few_product n c.args.names.now s p rest (one_more (open_at s.place)))

pub returns-in-Argument-clause-few : goal.returns-in-Argument-clause-few
returns-in-Argument-clause-few c =
    let s = c.args.reading in
    let p = c.args.piece.now in
    let rest = c.args.rest.now in
    let n = open_at s.place + 1 in
    let some : 1 ≤ n = omega arith in
    given_few n c.in_arguments.result (in_arguments c.args.names.now (stands_in c.args.standing.now) c.args.known.now.fields s p rest) c.in_arguments.ensures
    (few_arguments n c.args.names.now (stands_in c.args.standing.now) c.args.known.now.fields s p rest some (one_more (open_at s.place)))

pub returns-in-Behind-clause-few : goal.returns-in-Behind-clause-few
returns-in-Behind-clause-few c =
    let s = c.args.reading in
    let p = c.args.piece.now in
    let rest = c.args.rest.now in
    let n = open_at s.place + 1 in
    given_few n c.behind_argument.result (behind_argument s p rest) c.behind_argument.ensures (few_behind n s p rest (one_more (open_at s.place)))

pub returns-in-Vector-clause-few : goal.returns-in-Vector-clause-few
returns-in-Vector-clause-few c =
    let s = c.args.reading in
    let n = open_at s.place + 1 in
    subst (λ (r : Reading). open_at r.place ≤ n) (sym c.in_vector.ensures) (few_vector n s c.args.piece.now (one_more (open_at s.place)))

pub returns-in-Fixed-clause-few : goal.returns-in-Fixed-clause-few
returns-in-Fixed-clause-few c =
    let s = c.args.reading in
    let p = c.args.piece.now in
    let rest = c.args.rest.now in
    let n = open_at s.place + 1 in
    let count = c.in-Fixed.count in
    let few : count + 1 ≤ n = omega (arith, ap open_at c.in-Fixed.is) in
    given_few n c.in_fixed.result (in_fixed s count p rest) c.in_fixed.ensures (few_fixed n s count p rest few (one_more (open_at s.place)))
