use Rattle.std.proofs.Common.{sym, subst}
use Rattle.form_rewrite.specs.Ways.{HasRoom}
use Rattle.form_rewrite.proofs.often.so_often.Goals as goal

pub use_so_often-requires : goal.use_so_often-requires
use_so_often-requires c =
    subst (HasRoom c.args.times) (sym c.one-item.is) (c.requires c.loop-one.one-index c.one-item.result c.loop-one-test.true)
