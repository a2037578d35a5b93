use Rattle.std.proofs.Common.{◌≡◌, fold, drop}
use Rattle.form_pattern.specs.Pattern.{with_field, fields_of}
use Rattle.form_pattern.proofs.knowing.fields_of.Given as goal

-- those so far, and those of what is left
abbrev pub invariant-loop-piece : goal.invariant-loop-piece
invariant-loop-piece l = fields_of l.list ≡ fold with_field l.fields.items (drop l.piece-index l.list)
