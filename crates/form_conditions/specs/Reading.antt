-- Reading a condition by descent, as the code does. That this reads what Grammar says is proved.
use Rattle.std.specs.Prelude.{ℕ, zero, suc, ◌+◌, ◌-◌, ◌==◌, nat_lt, List, [], ◌∷◌, ◌++◌, length, Bool, false, Option, Some, None, option_and_then, if◌then◌else◌}
use Rattle.form_base.specs.declared.comparison.Comparison.{Comparison}
use Rattle.form_number.specs.declared.number.Number as numbers
use Rattle.form_ast.specs.declared.expr.Sign as by_sign
use Rattle.form_ast.specs.declared.expr.Sign.TheVariants as signs
use Rattle.form_ast.specs.declared.expr.SignedNumber.{SignedNumber}
use Rattle.form_ast.specs.declared.expr.Spelled.{Spelled}
use Rattle.form_ast.specs.declared.condition.Weighted.{Weighted}
use Rattle.form_ast.specs.declared.condition.Value.{Value}
use Rattle.form_ast.specs.declared.condition.Value.TheVariants as values
use Rattle.form_ast.specs.Conditions.{Condition, Test, nonzero, compared, parenthesis}
use Rattle.form_ast.specs.Lawful.{most_counted}
use Rattle.form_grammar.specs.declared.terminal.Terminal.{Terminal}
use Rattle.form_grammar.specs.declared.terminal.Terminal.TheVariants as by_terminal
use Rattle.form_grammar.specs.Texts.{run_pattern_within}
use Rattle.form_conditions.specs.declared.tokens.Nesting.{Nesting}
use Rattle.form_conditions.specs.declared.tokens.Nesting.TheVariants.{Opens, Closes, Neither}
use Rattle.form_conditions.specs.declared.tokens.Wanted.{Wanted}
use Rattle.form_conditions.specs.declared.tokens.Wanted.TheVariants.{And, Or, Over, Comma, Open, Close, Plus, Minus, Name}
use Rattle.form_conditions.specs.declared.word.Word.{Word}
use Rattle.form_conditions.specs.declared.word.Word.TheVariants as words
use Rattle.form_conditions.specs.Grammar.{comparison_of, opened_within, within_condition}
use Rattle.form_conditions.specs.Tokens.{begins, take, tail_of, nesting_of}
use Rattle.form_conditions.specs.Word.{word_of}

-- what is read of a text, and what is left behind it
abbrev pub Reads : Type 0 → Type 0
Reads A = List Terminal → Option (A × List Terminal)

infixl 10 ◌>>=◌
abbrev pub ◌>>=◌ : {A B : Type 0} → Option A → (A → Option B) → Option B
o >>= f = option_and_then f o

-- ---- lists

unfoldable pub separated : {A : Type 0} → Reads A → Wanted → ℕ → List A → Reads (List A)
separated item mark zero done text = None
separated item mark (suc most) done text =
    item text >>= (λ out. if begins mark out.1 then separated item mark most (done ++ out.0 ∷ []) (tail_of out.1) else Some (done ++ out.0 ∷ [], out.1))

-- one, and a further one behind each mark; no more than there are terminals
abbrev pub all_separated : {A : Type 0} → Reads A → Wanted → Reads (List A)
all_separated item mark text = separated item mark (suc (length text)) [] text

-- ---- names and numbers

abbrev pub take_name : Reads Spelled
take_name (by_terminal.Name name ∷ rest) = Some (name, rest)
take_name _ = None

abbrev pub take_number : Reads numbers.Number
take_number (by_terminal.Number n ∷ rest) = Some (n, rest)
take_number _ = None

abbrev pub sign_at : List Terminal → Option by_sign.Sign
sign_at text = if begins Plus text then Some signs.Plus else if begins Minus text then Some signs.Minus else None

abbrev pub behind_sign : List Terminal → List Terminal
behind_sign text = if begins Plus text then tail_of text else if begins Minus text then tail_of text else text

abbrev pub signed : Option by_sign.Sign → numbers.Number → SignedNumber
signed sign n = record { sign = sign; number = n }

abbrev pub signed_number : Reads SignedNumber
signed_number text = take_number (behind_sign text) >>= (λ n. Some (signed (sign_at text) n.0, n.1))

-- ---- values

-- a number by which another one is divided isn't 0
abbrev pub divided_by : SignedNumber → numbers.Number → Option Value
divided_by n d = if d.value == 0 then None else Some (values.Number n.sign n.number (Some d))

abbrev pub divided : SignedNumber → Reads Value
divided n text = take_number text >>= (λ d. divided_by n d.0 >>= (λ v. Some (v, d.1)))

abbrev pub number_value : Reads Value
number_value text =
    signed_number text >>= (λ n. if begins Over n.1 then divided n.0 (tail_of n.1) else Some (values.Number n.0.sign n.0.number None, n.1))

abbrev pub weighted_by : Spelled → SignedNumber → Weighted
weighted_by name weight = record { name = name; weight = weight }

abbrev pub weighted : Reads Weighted
weighted text =
    take_name text >>= (λ name. take Comma name.1 >>= (λ rest. signed_number rest >>= (λ n. Some (weighted_by name.0 n.0, n.1))))

abbrev pub not_too_many : List Weighted × List Terminal → Option (List Weighted × List Terminal)
not_too_many out = if nat_lt most_counted (length out.0) then None else Some out

abbrev pub weights : Reads (List Weighted)
weights text = all_separated weighted Comma text >>= not_too_many

abbrev pub names : Reads (List Spelled)
names text = all_separated take_name Comma text

-- a parenthesis, where one more may be opened
abbrev pub opened : ℕ → List Terminal → Option (List Terminal)
opened deeper text = if deeper == 0 then None else take Open text

abbrev pub count : ℕ → Reads Value
count deeper text = opened deeper text >>= (λ inner. weights inner >>= (λ out. take Close out.1 >>= (λ rest. Some (values.Count out.0, rest))))

abbrev pub occurs : ℕ → Reads Value
occurs deeper text = opened deeper text >>= (λ inner. names inner >>= (λ out. take Close out.1 >>= (λ rest. Some (values.Occurs out.0, rest))))

-- none but the parenthesis around it is open before its end
abbrev pub ends : Nesting → ℕ → Bool
ends Opens depth = false
ends Closes depth = depth == 0
ends Neither depth = false

abbrev pub depth_behind : Nesting → ℕ → ℕ
depth_behind Opens depth = depth + 1
depth_behind Closes depth = depth - 1
depth_behind Neither depth = depth

-- what stands up to the end of a parenthesis, behind these terminals in it
unfoldable pub enclosed : ℕ → List Terminal → Reads (List Terminal)
enclosed depth inner [] = None
enclosed depth inner (t ∷ rest) = if ends (nesting_of t) depth then Some (inner, rest) else enclosed (depth_behind (nesting_of t) depth) (inner ++ t ∷ []) rest

abbrev pub matching : ℕ → Reads Value
matching deeper text =
    opened deeper text >>= (λ behind. enclosed 0 [] behind >>= (λ out.
    run_pattern_within (opened_within deeper) out.0 >>= (λ pattern. Some (values.Match pattern, out.1))))

abbrev pub word_value : ℕ → Option Word → Reads Value
word_value deeper None text = None
word_value deeper (Some words.Coefficient) text = Some (values.Coefficient, text)
word_value deeper (Some words.Count) text = count deeper text
word_value deeper (Some words.Match) text = matching deeper text
word_value deeper (Some words.Occurs) text = occurs deeper text

abbrev pub named : ℕ → Reads Value
named deeper text = take_name text >>= (λ name. word_value deeper (word_of name.0.name) name.1)

unfoldable pub value : ℕ → Reads Value
value deeper text = if begins Name text then named deeper text else number_value text

-- ---- conditions

abbrev pub comparison_at : List Terminal → Option Comparison
comparison_at [] = None
comparison_at (t ∷ rest) = comparison_of t

abbrev pub compared_by : ℕ → Value → Option Comparison → Reads Test
compared_by deeper v None text = Some (nonzero v, text)
compared_by deeper v (Some c) text = value deeper (tail_of text) >>= (λ w. Some (compared v c w.0, w.1))

-- a value, alone or compared
abbrev pub plain_test : ℕ → Reads Test
plain_test deeper text = value deeper text >>= (λ v. compared_by deeper v.0 (comparison_at v.1) v.1)

-- a condition, by how a test of it is read
abbrev pub alternatives_by : Reads Test → Reads Condition
alternatives_by item text = all_separated (all_separated item And) Or text

abbrev pub in_parentheses : Reads Condition → Reads Test
in_parentheses alternatives text = alternatives text >>= (λ c. take Close c.1 >>= (λ rest. Some (parenthesis c.0, rest)))

-- a test, where so many more parentheses may be opened
unfoldable pub test : ℕ → Reads Test
test zero text = if begins Open text then None else plain_test zero text
test (suc deeper) text = if begins Open text then in_parentheses (alternatives_by (test deeper)) (tail_of text) else plain_test (suc deeper) text

abbrev pub conjunction : ℕ → Reads (List Test)
conjunction deeper text = all_separated (test deeper) And text

abbrev pub alternatives : ℕ → Reads Condition
alternatives deeper text = all_separated (conjunction deeper) Or text

-- behind the parenthesis of a test
abbrev pub parenthesized : ℕ → Reads Test
parenthesized zero text = None
parenthesized (suc deeper) text = in_parentheses (alternatives deeper) text

-- a condition at the front, in its parentheses
abbrev pub front : Reads Condition
front text = take Open text >>= (λ inner. alternatives within_condition inner >>= (λ out. take Close out.1 >>= (λ rest. Some (out.0, rest))))

abbrev pub at_end : Condition → List Terminal → Option Condition
at_end c [] = Some c
at_end c _ = None

-- a condition that is all of it
abbrev pub whole : List Terminal → Option Condition
whole text = front text >>= (λ out. at_end out.0 out.1)
