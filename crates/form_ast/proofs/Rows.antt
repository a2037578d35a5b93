-- What each action is written as.
use Rattle.std.proofs.Common.{◌≡◌, List, [], ◌∷◌, ◌++◌, map, Option, option_map, rules}
use Rattle.form_base.specs.declared.block.Action.{the_lemmas}
use Rattle.form_base.specs.declared.block.Action.TheVariants as acting
use Rattle.form_base.specs.declared.block.Branch.{Branch}
use Rattle.form_ast.specs.declared.module.WrittenLeaf.{WrittenLeaf}
use Rattle.form_ast.specs.declared.picked.Picked.{Picked}
use Rattle.form_ast.specs.declared.statement.Statement.{Statement}
use Rattle.form_ast.specs.declared.statement.Statement.TheVariants as statements
use Rattle.form_ast.specs.Conditions.{Condition}
use Rattle.form_ast.specs.Written.{WrittenAction, WrittenBranch, branches_written, in_row, last_written, leaf_written, written}

-- a branch, with what each action in it is written as
abbrev pub branch_rows : WrittenBranch → Branch Condition (List (List Statement))
branch_rows b = record { condition = b.condition; block = map written b.block }

pub written_plain : (l : WrittenLeaf) → written (acting.Plain l) ≡ leaf_written l
written_plain l = search (rules, the_lemmas)

pub written_repeat : (b : List WrittenAction) → written (acting.Repeat b) ≡ statements.Repeat ∷ in_row (map written b) ++ statements.EndRepeat ∷ []
written_repeat b = search (rules, the_lemmas)

pub written_within : (fs : List Picked) (b : List WrittenAction) → written (acting.Within fs b) ≡ statements.Argument fs ∷ in_row (map written b) ++ statements.EndArgument ∷ []
written_within fs b = search (rules, the_lemmas)

pub written_choose : (bs : List WrittenBranch) (last : Option (List WrittenAction))
    → written (acting.Choose bs last) ≡ branches_written statements.If (map branch_rows bs) ++ last_written (option_map (map written) last) ++ statements.EndIf ∷ []
written_choose bs last = search (rules, the_lemmas)
