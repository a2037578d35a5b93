-- Stretches of the word of a term.
use Rattle.std.specs.Prelude.{ℕ, List, [], ◌∷◌, take, Option, Some, None}
use Rattle.form_term.specs.Term.{Call, Term, nothing, of_others}

-- a term with so many functions of its word
abbrev pub front : ℕ → Term → Term
front n t = record { symbols = t.symbols; others = record t.others { word = take n t.others.word } }

-- functions as a term, where there are some
abbrev pub of_word : List Call → Option Term
of_word [] = None
of_word (c ∷ cs) = Some (of_others (record nothing { word = c ∷ cs }))
