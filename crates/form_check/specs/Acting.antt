-- Statements that are carried out on terms, over Ids, or the first refusal in the order of the text.
use Rattle.std.specs.Prelude.{List, ◌∷◌, Option, Some, None, option_map, Result, Ok, All}
use Rattle.form_names.specs.Names.{Entry}
use Rattle.form_base.specs.declared.block.Action.TheFolds.{fold-Action}
use Rattle.form_base.specs.declared.block.Action.TheOpen.{Action-F}
use Rattle.form_base.specs.declared.block.Action.TheVariants as acting
use Rattle.form_ast.specs.Conditions.{Condition}
use Rattle.form_ast.specs.Lawful.{AreLawful, ArePattern, AreRight}
use Rattle.form_ast.specs.Written.{WrittenAction, WrittenBranch}
use Rattle.form_ast.specs.declared.module.WrittenLeaf.{WrittenLeaf}
use Rattle.form_ast.specs.declared.module.WrittenLeaf.TheVariants as written
use Rattle.form_ast.specs.declared.picked.Picked.{Picked}
use Rattle.form_ast.specs.declared.statement.Rewrite.{Rewrite}
use Rattle.form_check.specs.declared.checked.CheckedLeaf.{CheckedLeaf}
use Rattle.form_check.specs.declared.checked.CheckedLeaf.TheVariants as checked
use Rattle.form_check.specs.declared.checked.Rewriting.{Rewriting}
use Rattle.form_check.specs.Carried.{condition, picked, summed_index}
use Rattle.form_check.specs.Program.{CheckedBranch, CheckedStatement}
use Rattle.form_pattern.specs.Pattern.{known_of, pattern_checked}
use Rattle.form_right_side.specs.Refusal.{Refusal, ◌>>=◌, listed}
use Rattle.form_right_side.specs.RightSide.{largest_index, none_stands, nothing_known, right_side, value_within}

-- ---- statements that are no blocks

-- an `id` or an `also`: its pattern, and then its right side, in which no expression is named
abbrev pub rewriting : List Entry → Rewrite → Result Rewriting Refusal
rewriting names r = do
  made ← pattern_checked names r.pattern
  right ← right_side names none_stands (known_of names r.pattern) r.right
  Ok (record { option = r.option; pattern = made; right = right })

-- An `id` and its `also`s, a `multiply`, in whose right side no expression is named, a `sum` of indices that become
-- dummies, a `sum` of an index over numbers, a `discard`.
abbrev pub leaf : List Entry → WrittenLeaf → Result CheckedLeaf Refusal
leaf names (written.Rewrite id others) = do
  made ← listed (rewriting names) (id ∷ others)
  Ok (checked.Rewrite made)
leaf names (written.Multiply side right) = do
  by ← right_side names none_stands nothing_known right
  Ok (checked.Multiply side by)
leaf names (written.Sum list) = do
  ids ← listed (summed_index names) list
  Ok (checked.Sum ids)
leaf names (written.SumOver name numbers) = do
  id ← summed_index names name
  values ← listed (value_within largest_index) numbers
  Ok (checked.SumOver id values)
leaf names written.Discard = Ok checked.Discard

-- ---- blocks

-- a branch: its condition, and then what comes of its block
abbrev pub branch_with : List Entry → Condition → Result (List CheckedStatement) Refusal → Result CheckedBranch Refusal
branch_with names c inner = do
  asked ← condition names c
  made ← inner
  Ok (record { condition = asked; block = made })

-- what comes of the last block, where there is one
abbrev pub last_with : Option (Result (List CheckedStatement) Refusal) → Result (Option (List CheckedStatement)) Refusal
last_with None = Ok None
last_with (Some inner) = do
  made ← inner
  Ok (Some made)

-- what comes of each, in order, or the first refusal
abbrev pub all : List (Result CheckedStatement Refusal) → Result (List CheckedStatement) Refusal
all made = listed (λ one. one) made

-- a statement, with what comes of each statement of its blocks in the place of that
abbrev pub action_with : List Entry → Action-F WrittenLeaf Condition (List Picked) (Result CheckedStatement Refusal) → Result CheckedStatement Refusal
action_with names (Action-F.Plain l) = do
  made ← leaf names l
  Ok (acting.Plain made)
action_with names (Action-F.Repeat b) = do
  made ← all b
  Ok (acting.Repeat made)
action_with names (Action-F.Choose bs last) = do
  made ← listed (λ b. branch_with names b.condition (all b.block)) bs
  otherwise ← last_with (option_map all last)
  Ok (acting.Choose made otherwise)
action_with names (Action-F.Within functions b) = do
  taken ← listed (picked names) functions
  made ← all b
  Ok (acting.Within taken made)

-- A statement that is carried out on terms.
unfoldable pub action : List Entry → WrittenAction → Result CheckedStatement Refusal
action names = fold-Action WrittenLeaf Condition (List Picked) (Result CheckedStatement Refusal) (action_with names)

-- its blocks
abbrev pub block : List Entry → List WrittenAction → Result (List CheckedStatement) Refusal
block names b = listed (action names) b

abbrev pub branch : List Entry → WrittenBranch → Result CheckedBranch Refusal
branch names b = branch_with names b.condition (block names b.block)

abbrev pub last_block : List Entry → Option (List WrittenAction) → Result (Option (List CheckedStatement)) Refusal
last_block names last = last_with (option_map (block names) last)

-- ---- what may be written

abbrev pub IsLawfulRewrite : Rewrite → Type 0
IsLawfulRewrite r = ArePattern r.pattern × AreRight r.pattern r.right

abbrev pub IsLawfulLeaf : WrittenLeaf → Type 0
IsLawfulLeaf (written.Rewrite id others) = IsLawfulRewrite id × All IsLawfulRewrite others
IsLawfulLeaf (written.Multiply side right) = AreLawful right
IsLawfulLeaf _ = Unit {0}
