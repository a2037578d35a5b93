use Rattle.std.proofs.Common.{ltb, eqb, eqb-true, sym, ◌∙◌, rules}
use Rattle.std.proofs.lemmas.Bool.{eqb-false}
use Rattle.std.proofs.lemmas.List.Sorted.{IsPartitionPoint-from_clause, IsPartitionedBy-ltb}
use Rattle.form_expand.specs.declared.stored.Stored.{Stored}
use Rattle.form_expand.proofs.Lookups.{differs_where, same_where, found_at, not_found, not_found_at}
use Rattle.form_expand.proofs.stored.found_by_halves.Goals as goal

pub returns-in_default : goal.returns-in_default
returns-in_default c =
    let parted = IsPartitionedBy-ltb (λ (s : Stored). s.expression) c.args.stored.now c.args.expression c.requires in
    let point = IsPartitionPoint-from_clause (λ (s : Stored). ltb s.expression c.args.expression) c.args.stored.now c.partition_point-place.result c.partition_point-place.ensures.partitioned parted (λ a r q k. search rules) in
    sym (not_found c.args.stored.now c.args.expression c.partition_point-place.result c.requires point c.in_default.ensures.lookup.3)

pub returns-then-ne : goal.returns-then-ne
returns-then-ne c =
    let parted = IsPartitionedBy-ltb (λ (s : Stored). s.expression) c.args.stored.now c.args.expression c.requires in
    let point = IsPartitionPoint-from_clause (λ (s : Stored). ltb s.expression c.args.expression) c.args.stored.now c.partition_point-place.result c.partition_point-place.ensures.partitioned parted (λ a r q k. search rules) in
    let h = c.in-Some.ensures.lookup in
    let differs = eqb-false c.in-Some.one.now.expression c.args.expression (differs_where (eqb c.in-Some.one.now.expression c.args.expression) c.ne.result c.ne.ensures c.if-ne.true) in
    sym (not_found_at c.args.stored.now c.args.expression c.partition_point-place.result c.requires point c.in-Some.one.now h.3.0 h.1 differs)

pub returns : goal.returns
returns c =
    let parted = IsPartitionedBy-ltb (λ (s : Stored). s.expression) c.args.stored.now c.args.expression c.requires in
    let point = IsPartitionPoint-from_clause (λ (s : Stored). ltb s.expression c.args.expression) c.args.stored.now c.partition_point-place.result c.partition_point-place.ensures.partitioned parted (λ a r q k. search rules) in
    let h = c.in-Some.ensures.lookup in
    let same = eqb-true c.in-Some.one.now.expression c.args.expression (same_where (eqb c.in-Some.one.now.expression c.args.expression) c.ne.result c.ne.ensures c.if-ne.false) in
    c.as_slice.ensures ∙ sym (found_at c.args.stored.now c.args.expression c.partition_point-place.result c.requires point c.in-Some.one.now h.3.0 h.1 same)
