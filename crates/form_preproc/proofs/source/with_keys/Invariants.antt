use Rattle.std.proofs.Common.{◌≡◌, ◌++◌, map}
use Rattle.form_preproc.specs.PlainTexts.{LinesArePlain}
use Rattle.form_preproc.proofs.source.with_keys.Given as goal

-- the lines that were made and those that are left are all
abbrev pub invariant-loop-line : goal.invariant-loop-line
invariant-loop-line l = record {
  all : map (λ line. line.line) l.keyed.items ++ l.line-iterator.rest.items ≡ l.fn.lines.items;
  plain : LinesArePlain l.line-iterator.rest.items;
}
