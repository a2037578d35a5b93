use Rattle.std.proofs.Common.{◌≡◌, List, ◌∷◌, [], ◌++◌, sym, ap, ◌∙◌}
use Rattle.std.proofs.lemmas.List.{append-nil}
use Rattle.form_tree.specs.declared.pattern.PatternPiece.{PatternPiece}
use Rattle.form_pattern.specs.declared.joining.Factor.TheVariants.{Other}
use Rattle.form_pattern.proofs.Joined.{one-made}
use Rattle.form_pattern.proofs.joining.put_others.Goals as goal

pub loop-made-init : goal.loop-made-init
loop-made-init c = sym (append-nil c.args.out.now.items)

pub loop-made-preserved : goal.loop-made-preserved
loop-made-preserved c =
    let pieces = c.args.pieces.now in
    let copied : c.put_copies.new.out.items ≡ pieces = c.in_ok-put_copies.ensures ∙ ap (λ (ps : List PatternPiece). ps ++ pieces) c.in_ok-copy.ensures.items in
    one-made c.loop-made._made (Other pieces) c.args.out.now.items c.loop-made.out.items c.push.new.self.items c.loop-made.invariant
    (c.in_ok-push.ensures.items ∙ ap (λ (ps : List PatternPiece). c.loop-made.out.items ++ Other ps ∷ []) copied)
