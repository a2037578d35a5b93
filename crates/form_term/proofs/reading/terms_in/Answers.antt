use Rattle.std.proofs.Common.{map, sym, subst, ap, ◌∙◌}
use Rattle.std.specs.Prelude.{All}
use Rattle.form_term.specs.Arguments.{parts_of, summands_from}
use Rattle.form_term.specs.Monomial.{as_monomial}
use Rattle.form_term.specs.Reading.{IsLawfulPart}
use Rattle.form_term.specs.Term.{expression, one, pieces_of_arguments}
use Rattle.form_term.proofs.Nesting.{IsSummandLawful}
use Rattle.form_term.proofs.Terms.{first_sum, first_other, whole_first, sum_size, sum_parts, sum_terms, sum_read}
use Rattle.form_term.proofs.reading.terms_in.Goals as goal

pub returns-then-not-begins_sum-clause-first : goal.returns-then-not-begins_sum-clause-first
returns-then-not-begins_sum-clause-first c =
    c.new.ensures.items ∙ sym (ap (map as_monomial) (first_other c.args.pieces.now c.requires (sym c.begins_sum.ensures ∙ c.if-not-begins_sum.true)))

pub between-requires-clause-some : goal.between-requires-clause-some
between-requires-clause-some c =
    let f = first_sum c.args.pieces.now c.requires (sym c.begins_sum.ensures ∙ c.if-not-begins_sum.false) in
    let is = c.part_len.ensures.argument (expression f.summands) (pieces_of_arguments f.others) f.lawful f.written in
    sum_size c.args.pieces.now c.part_len.result f is

pub read_terms-requires-clause-parts : goal.read_terms-requires-clause-parts
read_terms-requires-clause-parts c =
    let f = first_sum c.args.pieces.now c.requires (sym c.begins_sum.ensures ∙ c.if-not-begins_sum.false) in
    let is = c.part_len.ensures.argument (expression f.summands) (pieces_of_arguments f.others) f.lawful f.written in
    subst (λ ps. All IsLawfulPart (parts_of ps)) (sym c.between.ensures) (sum_parts c.args.pieces.now c.part_len.result f is)

pub read_terms-requires-clause-terms : goal.read_terms-requires-clause-terms
read_terms-requires-clause-terms c =
    let f = first_sum c.args.pieces.now c.requires (sym c.begins_sum.ensures ∙ c.if-not-begins_sum.false) in
    let is = c.part_len.ensures.argument (expression f.summands) (pieces_of_arguments f.others) f.lawful f.written in
    subst (λ ps. All IsSummandLawful (map as_monomial (summands_from one (parts_of ps)))) (sym c.between.ensures) (sum_terms c.args.pieces.now c.part_len.result f is)

pub returns-clause-first : goal.returns-clause-first
returns-clause-first c =
    let f = first_sum c.args.pieces.now c.requires (sym c.begins_sum.ensures ∙ c.if-not-begins_sum.false) in
    let is = c.part_len.ensures.argument (expression f.summands) (pieces_of_arguments f.others) f.lawful f.written in
    sum_read c.args.pieces.now c.part_len.result f is c.between.result.now c.in_ok-list.list.items c.between.ensures c.in_ok-list.ensures

pub returns-clause-whole : goal.returns-clause-whole
returns-clause-whole c = λ ss lawful written. returns-clause-first c ∙ ap (map as_monomial) (whole_first c.args.pieces.now ss c.requires lawful written)
