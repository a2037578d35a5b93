use Rattle.std.proofs.Common.{◌≡◌, [], length, map, sym, subst, ◌∙◌, arith, eqb-true}
use Rattle.std.proofs.lemmas.Bool.{eqb-false}
use Rattle.std.proofs.lemmas.List.{nil_from_length}
use Rattle.form_term.specs.Arguments.{parts_of, summands_from}
use Rattle.form_term.specs.Monomial.{as_monomial}
use Rattle.form_term.specs.Term.{IsTerm, one}
use Rattle.form_term.proofs.Terms.{all_read, end_part, ended_lawful, first_lawful, others_lawful, part_here, put_part}
use Rattle.form_term.proofs.reading.read_terms.Goals as goal

pub times-requires-clause-lowest : goal.times-requires-clause-lowest
times-requires-clause-lowest c =
    let part = c.split_at.result.0.now in
    let behind = c.split_at.result.1.now in
    let rest = c.loop-rest.rest.now in
    let ne = eqb-false (length rest) 0 (sym c.is_empty.ensures ∙ c.loop-rest-test.true) in
    let cut = part_here rest part behind c.part_len.result (c.part_len.ensures.part (omega (arith, ne))) c.split_at.ensures.front c.split_at.ensures.back in
    (ended_lawful c.loop-rest.list.items (map as_monomial (summands_from one (parts_of c.args.pieces.now))) c.loop-rest.factors rest part behind c.loop-rest.invariant.0 cut c.in-Some.coefficient (sym c.end_of.ensures ∙ c.in-Some.is) c.requires.terms).0

pub times-requires-clause-lawful : goal.times-requires-clause-lawful
times-requires-clause-lawful c =
    let part = c.split_at.result.0.now in
    let behind = c.split_at.result.1.now in
    let rest = c.loop-rest.rest.now in
    let ne = eqb-false (length rest) 0 (sym c.is_empty.ensures ∙ c.loop-rest-test.true) in
    let cut = part_here rest part behind c.part_len.result (c.part_len.ensures.part (omega (arith, ne))) c.split_at.ensures.front c.split_at.ensures.back in
    subst IsTerm (sym c.replace-term.ensures.value) (ended_lawful c.loop-rest.list.items (map as_monomial (summands_from one (parts_of c.args.pieces.now))) c.loop-rest.factors rest part behind c.loop-rest.invariant.0 cut c.in-Some.coefficient (sym c.end_of.ensures ∙ c.in-Some.is) c.requires.terms).1

pub put-requires : goal.put-requires
put-requires c =
    let part = c.split_at.result.0.now in
    let behind = c.split_at.result.1.now in
    let rest = c.loop-rest.rest.now in
    let ne = eqb-false (length rest) 0 (sym c.is_empty.ensures ∙ c.loop-rest-test.true) in
    let cut = part_here rest part behind c.part_len.result (c.part_len.ensures.part (omega (arith, ne))) c.split_at.ensures.front c.split_at.ensures.back in
    first_lawful rest part behind cut c.loop-rest.invariant.1

pub loop-rest-preserved-in_ok-push-in-Some : goal.loop-rest-preserved-in_ok-push-in-Some
loop-rest-preserved-in_ok-push-in-Some c =
    let part = c.split_at.result.0.now in
    let behind = c.split_at.result.1.now in
    let rest = c.loop-rest.rest.now in
    let ne = eqb-false (length rest) 0 (sym c.is_empty.ensures ∙ c.loop-rest-test.true) in
    let cut = part_here rest part behind c.part_len.result (c.part_len.ensures.part (omega (arith, ne))) c.split_at.ensures.front c.split_at.ensures.back in (
      end_part c.loop-rest.list.items (map as_monomial (summands_from one (parts_of c.args.pieces.now))) c.loop-rest.factors rest part behind c.loop-rest.invariant.0 cut c.in-Some.coefficient (sym c.end_of.ensures ∙ c.in-Some.is) c.push.new.self.items c.in_ok-times-in-Some.field-0 c.replace-term.result c.replace-term.new.dest
          c.in_ok-push-in-Some.ensures.items c.in_ok-times-in-Some.ensures c.replace-term.ensures.value (c.replace-term.ensures.after ∙ c.none.ensures),
      others_lawful rest part behind cut c.loop-rest.invariant.1,
    )

pub loop-rest-preserved : goal.loop-rest-preserved
loop-rest-preserved c =
    let part = c.split_at.result.0.now in
    let behind = c.split_at.result.1.now in
    let rest = c.loop-rest.rest.now in
    let ne = eqb-false (length rest) 0 (sym c.is_empty.ensures ∙ c.loop-rest-test.true) in
    let cut = part_here rest part behind c.part_len.result (c.part_len.ensures.part (omega (arith, ne))) c.split_at.ensures.front c.split_at.ensures.back in
    let none = sym c.end_of.ensures ∙ c.in-None.is in
    (put_part c.loop-rest.list.items (map as_monomial (summands_from one (parts_of c.args.pieces.now))) c.loop-rest.factors rest part behind c.loop-rest.invariant.0 cut c.put.new.self none c.in_ok-put-in-None.ensures, others_lawful rest part behind cut c.loop-rest.invariant.1)

pub returns : goal.returns
returns c =
    let rest = c.loop-rest.rest.now in
    let none : rest ≡ [] = nil_from_length rest (eqb-true (length rest) 0 (sym c.is_empty.ensures ∙ c.loop-rest-test.false)) in
    all_read c.loop-rest.list.items (map as_monomial (summands_from one (parts_of c.args.pieces.now))) c.loop-rest.factors rest none c.loop-rest.invariant.0
