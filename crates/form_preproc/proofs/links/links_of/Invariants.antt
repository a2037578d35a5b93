use Rattle.form_preproc.proofs.Linking.{AreLinked}
use Rattle.form_preproc.proofs.links.links_of.Given as goal

abbrev pub invariant-loop-place : goal.invariant-loop-place
invariant-loop-place l = AreLinked (λ line. line.key) l.lines l.place l.blocks l.links

abbrev pub decreases-loop-place : goal.decreases-loop-place
decreases-loop-place l = l.place
