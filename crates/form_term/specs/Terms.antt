-- Terms by their parts.
use Rattle.std.specs.Prelude.{ℕ, List, [], ◌∷◌, ◌++◌}
use Rattle.std.specs.List.{insert}
use Rattle.form_term.specs.declared.power.Power.{Power}
use Rattle.form_term.specs.Term.{Term, Others, Call}

abbrev pub term : List Power → Others → Term
term ps o = record { symbols = ps; others = o }

-- the factors besides commuting functions
abbrev pub rest_of : Others → Others
rest_of o = record o { functions = [] }

-- a term with one commuting function more, at this place among its own, and with a non-commuting one more
abbrev pub function_put : ℕ → Call → Term → Term
function_put place c t = term t.symbols (record t.others { functions = insert t.others.functions place c })

abbrev pub word_put : Call → Term → Term
word_put c t = term t.symbols (record t.others { word = t.others.word ++ c ∷ [] })
