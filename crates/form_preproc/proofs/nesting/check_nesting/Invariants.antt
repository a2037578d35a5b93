use Rattle.std.proofs.Common.{◌≡◌, [], drop}
use Rattle.form_preproc.specs.Block.{misnested}
use Rattle.form_preproc.proofs.nesting.check_nesting.Given as goal

-- what the rest gives behind the lines that are read is what all lines give
abbrev pub invariant-loop-line : goal.invariant-loop-line
invariant-loop-line l = misnested (λ line. line.key) (λ line. line.line.number) [] l.lines ≡ misnested (λ line. line.key) (λ line. line.line.number) l.blocks (drop l.line-index l.lines)
