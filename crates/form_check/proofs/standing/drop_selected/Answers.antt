use Rattle.std.proofs.Common.{◌∙◌, ◌==◌, ◌&&◌, not, arith}
use Rattle.std.specs.List.{list_any}
use Rattle.std.proofs.lemmas.Result.{err_from_is_err_and}
use Rattle.form_right_side.specs.Marks.{stays_in}
use Rattle.form_check.proofs.Dropping.{stays-next, stays-end, stays-other}
use Rattle.form_check.proofs.standing.drop_selected.Goals as goal

pub loop-id-preserved : goal.loop-id-preserved
loop-id-preserved c =
    let kept = c.in_ok-drop_named-in-Named.ensures in
    let ids = c.as_slice-id-items.result.now in
    record {
      current = kept.current ∙ c.loop-id.invariant.current;
      lawful = kept.lawful;
      standing = λ e. kept.stands e ∙ c.loop-id.invariant.standing e;
      defining = λ e. kept.defines e ∙ c.loop-id.invariant.defining e;
      staying = λ e. stays-next (stays_in c.args.standing.now e && not (list_any (λ id. id == e) ids)) (stays_in c.loop-id.standing e) (stays_in c.drop_named.new.self e) ids c.loop-id.id-index c.id-item.result e (omega arith) c.id-item.is (c.loop-id.invariant.staying e) (kept.stays e);
    }

pub returns-after-loop-id-clause-stays : goal.returns-after-loop-id-clause-stays
returns-after-loop-id-clause-stays c = λ e.
    let ids = c.as_slice-id-items.result.now in
    let past = stays-end (stays_in c.args.standing.now e && not (list_any (λ id. id == e) ids)) (stays_in c.loop-id.standing e) ids c.loop-id.id-index e (omega arith) (c.loop-id.invariant.staying e) in
    rw (c.in-Named.is, ← c.as_slice-id-items.ensures) past

pub returns-in_err-drop_named-in-Named-clause-others : goal.returns-in_err-drop_named-in-Named-clause-others
returns-in_err-drop_named-in-Named-clause-others c =
    let ids = c.as_slice-id-items.result.now in
    rw (err_from_is_err_and c.from_residual.result c.from_residual.ensures.1).1 (λ e none.
    c.in_err-drop_named-in-Named.ensures.unchanged e ∙ stays-other (stays_in c.args.standing.now e) (stays_in c.loop-id.standing e) ids c.loop-id.id-index e (rw (c.in-Named.is, ← c.as_slice-id-items.ensures) at none) (c.loop-id.invariant.staying e))
