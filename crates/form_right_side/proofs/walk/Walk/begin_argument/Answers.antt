use Rattle.std.proofs.Common.{ap}
use Rattle.form_tree.specs.declared.tree.Piece.TheVariants.{Argument}
use Rattle.form_right_side.specs.Walking.{Walk, walk_of}
use Rattle.form_right_side.proofs.Kept.{on_err_behind}
use Rattle.form_right_side.proofs.walk.Walk.begin_argument.Goals as goal

pub returns-in_ok-add-in-None-clause-kept : goal.returns-in_ok-add-in-None-clause-kept
returns-in_ok-add-in-None-clause-kept c =
    on_err_behind c.in_sum.result (walk_of c.args.self.now) (walk_of c.add.new.self) (walk_of c.in_sum.new.self) Argument (ap (λ (w : Walk). w.pieces) c.in_ok-add-in-None.ensures.made) c.in_sum.ensures.kept
