-- How a text is read, part by part from the left: what reads a part gives what it comes to and what stands behind it, or
-- nothing where no such part begins.
use Rattle.std.specs.Prelude.{ℕ, zero, suc, Bool, ◌==◌, ◌||◌, if◌then◌else◌, List, [], ◌∷◌, Option, Some, None, option_and_then}
use Rattle.std.specs.List.{prefix_len}

-- the most parentheses that may be open
abbrev pub most_open : ℕ
most_open = 64

abbrev pub is_blank : ℕ → Bool
is_blank c = (c == 32) || (c == 9)

abbrev pub after_blanks : List ℕ → List ℕ
after_blanks [] = []
after_blanks (c ∷ cs) = if is_blank c then after_blanks cs else c ∷ cs

-- a part that is found, before this rest
abbrev pub before : {V : Type 0} → Option V → List ℕ → Option (V × List ℕ)
before v rest = option_and_then (λ v. Some (v, rest)) v

-- what a character stands for by a table
abbrev pub looked_up : {X : Type 0} → List (ℕ × X) → ℕ → Option X
looked_up [] c = None
looked_up (entry ∷ table) c = if c == entry.0 then Some entry.1 else looked_up table c

-- what the first character stands for, and the rest
abbrev pub first_in : {X : Type 0} → List (ℕ × X) → List ℕ → Option (X × List ℕ)
first_in table [] = None
first_in table (c ∷ cs) = before (looked_up table c) cs

-- how many characters at the front pass
abbrev pub front : (ℕ → Bool) → List ℕ → ℕ
front passes text = prefix_len passes text

-- what is read goes on, or stops here
abbrev pub if_read : {A B : Type 0} → Option A → B → (A → B) → B
if_read None stopped further = stopped
if_read (Some x) stopped further = further x

-- A part with those that operators join to it, at most as many as there are turns.
unfoldable pub chained : {V O : Type 0} → (List ℕ → Option (O × List ℕ)) → (O → V → V → V) → (List ℕ → Option (V × List ℕ)) → List ℕ → V → List ℕ → Option (V × List ℕ)
chained operator apply part [] v text = Some (v, text)
chained operator apply part (turn ∷ turns) v text =
    if_read (operator text) (Some (v, text)) (λ o. option_and_then (λ p. chained operator apply part turns (apply o.0 v p.0) p.1) (part o.1))

-- Parts joined by operators, from the left. An operator is a character at least, so the text has turns enough.
abbrev pub chain : {V O : Type 0} → (List ℕ → Option (O × List ℕ)) → (O → V → V → V) → (List ℕ → Option (V × List ℕ)) → List ℕ → Option (V × List ℕ)
chain operator apply part text = option_and_then (λ p. chained operator apply part text p.0 p.1) (part text)

-- what follows a parenthesis that ends here
abbrev pub closing_in : List ℕ → Option (List ℕ)
closing_in [] = None
closing_in (c ∷ cs) = if c == 41 then Some cs else None

abbrev pub closing : List ℕ → Option (List ℕ)
closing text = closing_in (after_blanks text)

abbrev pub with_rest : {V : Type 0} → V → Option (List ℕ) → Option (V × List ℕ)
with_rest v rest = option_and_then (λ rest. Some (v, rest)) rest

abbrev pub closed : {V : Type 0} → Option (V × List ℕ) → Option (V × List ℕ)
closed inner = option_and_then (λ p. with_rest p.0 (closing p.1)) inner

-- What stands in a parenthesis and its end, where so many more may be open: a whole, in which parentheses are read so.
unfoldable pub within : {V : Type 0} → ((List ℕ → Option (V × List ℕ)) → List ℕ → Option (V × List ℕ)) → ℕ → List ℕ → Option (V × List ℕ)
within whole zero text = None
within whole (suc n) text = closed (whole (within whole n) text)

abbrev pub ended : {V : Type 0} → V → List ℕ → Option V
ended v [] = Some v
ended v (c ∷ cs) = None

-- what is read with nothing but blanks behind it
abbrev pub at_end : {V : Type 0} → Option (V × List ℕ) → Option V
at_end whole = option_and_then (λ p. ended p.0 (after_blanks p.1)) whole

-- what a whole text comes to
abbrev pub read_whole : {V : Type 0} → ((List ℕ → Option (V × List ℕ)) → List ℕ → Option (V × List ℕ)) → List ℕ → Option V
read_whole whole text = at_end (whole (within whole most_open) text)
