-- The conditions that a statement asks of a term itself, by what it is made of.
use Rattle.std.proofs.Common.{◌≡◌, List, [], ◌∷◌, ◌++◌, map, Option, option_map, rules}
use Rattle.std.specs.List.{flat_map}
use Rattle.form_base.specs.declared.block.Action.{the_lemmas}
use Rattle.form_base.specs.declared.block.Action.TheVariants as acting
use Rattle.form_base.specs.declared.block.Branch.{Branch}
use Rattle.form_base.specs.Statements.{in_last, in_row}
use Rattle.form_flow.specs.declared.compiled.ReadyLeaf.{ReadyLeaf}
use Rattle.form_flow.specs.Ready.{Choice}
use Rattle.form_flow.specs.Statement.{Chosen, Statement}
use Rattle.form_levels.specs.Linear.{conditions_on_term}

abbrev pub branch_conditions : Chosen → Branch Choice (List (List Choice))
branch_conditions b = record { condition = b.condition; block = map conditions_on_term b.block }

pub conditions_plain : (l : ReadyLeaf) → conditions_on_term (acting.Plain l) ≡ []
conditions_plain l = search (rules, the_lemmas)

pub conditions_repeat : (b : List Statement) → conditions_on_term (acting.Repeat b) ≡ in_row (map conditions_on_term b)
conditions_repeat b = search (rules, the_lemmas)

pub conditions_choose : (bs : List Chosen) (last : Option (List Statement))
    → conditions_on_term (acting.Choose bs last) ≡ flat_map (λ b. b.condition ∷ in_row b.block) (map branch_conditions bs) ++ in_last (option_map (map conditions_on_term) last)
conditions_choose bs last = search (rules, the_lemmas)
