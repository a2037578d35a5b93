use Rattle.std.proofs.Common.{List, length, map, ap, sym, ◌∙◌, arith}
use Rattle.std.specs.List.{fold}
use Rattle.form_flow.specs.declared.indices.Renaming.{Renaming}
use Rattle.form_flow.specs.Indices.{and_dummy, become, indices_in}
use Rattle.form_flow.proofs.Dummies.{fold_next, fold_end, none_become}
use Rattle.form_flow.proofs.FreeNumbers.{none_numbered}
use Rattle.form_flow.proofs.Sizes.{few_indices}
use Rattle.form_flow.proofs.summing.dummies.Goals as goal

pub loop-index-init : goal.loop-index-init
loop-index-init c =
    let all = indices_in c.args.term.now in (
      ap (λ (rs : List Renaming). fold (and_dummy all) rs c.args.indices.now) c.new-renamings.ensures.items,
      c.in_ok-there.ensures ∙ none_become all ∙ ap (λ (rs : List Renaming). map (become rs) all) (sym c.new-renamings.ensures.items),
      none_numbered c.in_ok-there.there.items (omega (arith, ap length c.in_ok-there.ensures, few_indices c.args.term.now, c.powers.ensures.lawful.small)),
    )

pub add_dummy-requires : goal.add_dummy-requires
add_dummy-requires c = c.loop-index.invariant.2

pub loop-index-preserved : goal.loop-index-preserved
loop-index-preserved c =
    let all = indices_in c.args.term.now in
    let there = c.loop-index.invariant.1 in (
      sym (fold_next (and_dummy all) c.loop-index.renamings.items c.add_dummy.new.renamings.items c.args.indices.now c.loop-index.index-index c.index-item.result c.loop-index-test.true c.index-item.is (c.in_ok-add_dummy.ensures.renamings all there))
          ∙ c.loop-index.invariant.0,
      c.in_ok-add_dummy.ensures.there all there,
      c.in_ok-add_dummy.ensures.numbered,
    )

pub returns : goal.returns
returns c = sym (fold_end (and_dummy (indices_in c.args.term.now)) c.loop-index.renamings.items c.args.indices.now c.loop-index.index-index c.loop-index-test.false) ∙ c.loop-index.invariant.0
