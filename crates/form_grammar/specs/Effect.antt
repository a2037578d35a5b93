-- What each terminal does, by the setting and by what is expected.
use Rattle.std.specs.Prelude.{Bool, true, false, ◌==◌, ◌&&◌, if◌then◌else◌, Option, Some, None}
use Rattle.form_ast.specs.declared.expr.Sign as signs
use Rattle.form_ast.specs.declared.expr.Sign.TheVariants.{Minus}
use Rattle.form_ast.specs.declared.expr.Power as powers
use Rattle.form_number.specs.declared.number.Number as numbers
use Rattle.form_ast.specs.declared.expr.Spelled.{Spelled}
use Rattle.form_ast.specs.declared.expr.Link as links
use Rattle.form_ast.specs.declared.expr.Link.TheVariants as by_link
use Rattle.form_ast.specs.declared.expr.Named.TheVariants.{Declared}
use Rattle.form_ast.specs.declared.expr.Named.TheVariants as names
use Rattle.form_ast.specs.declared.expr.Restriction.TheVariants.{Any}
use Rattle.form_ast.specs.declared.expr.Piece.TheVariants as piece
use Rattle.form_ast.specs.declared.setting.Setting.{Setting}
use Rattle.form_ast.specs.declared.setting.Setting.TheVariants.{Plain, Right, Pattern}
use Rattle.form_ast.specs.Syntax.{link_of, piece_of_power}
use Rattle.form_grammar.specs.declared.terminal.Terminal.{Terminal}
use Rattle.form_grammar.specs.declared.terminal.Terminal.TheVariants.{Number, Name, Imaginary, Delta, Sign, Times, Over, Raise, Open, Close, Comma, Period, Question, OpenBrace, CloseBrace}
use Rattle.form_grammar.specs.declared.effect.Last as lasts
use Rattle.form_grammar.specs.declared.effect.Last.TheVariants as last
use Rattle.form_grammar.specs.declared.effect.Slot.{Slot}
use Rattle.form_grammar.specs.declared.effect.Slot.TheVariants as slots
use Rattle.form_grammar.specs.declared.effect.Expected.{Expected}
use Rattle.form_grammar.specs.declared.effect.Expected.TheVariants.{Factor, Argument, FurtherArgument, Exponent, Closing, PowerMark, Operator, Vector, FirstEntry, EntryComma, SecondEntry, DeltaClosing, Restriction, Element, ElementNumber, ElementEnd, FieldName, FieldEnd}
use Rattle.form_grammar.specs.declared.effect.Expected.TheVariants as expected
use Rattle.form_grammar.specs.declared.effect.Change.TheVariants as changes
use Rattle.form_grammar.specs.declared.effect.Effect.{Effect}
use Rattle.form_grammar.specs.declared.effect.Effect.TheVariants.{Waits, Adds, Changes, Opens, Encloses, Calls, Closes, Parts, Dots, Fails}

-- what has parentheses doesn't stand behind `/`
abbrev pub unless_over : links.Link → Effect → Effect
unless_over by_link.Over effect = Fails
unless_over _ effect = effect

abbrev pub first_sign_effect : links.Link → signs.Sign → Effect
first_sign_effect by_link.First sign = Waits (Factor (link_of sign))
first_sign_effect _ sign = Fails

abbrev pub factor_effect : links.Link → Terminal → Effect
factor_effect link (Number n) = Adds (piece.Number link n) (Operator last.Base)
factor_effect link (Name n) = Adds (piece.Name link (Declared n)) (Operator last.Name)
factor_effect link (Imaginary spot) = Adds (piece.Name link (names.Imaginary spot)) (Operator last.Imaginary)
factor_effect link (Sign sign) = first_sign_effect link sign
factor_effect link Open = unless_over link (Opens link)
factor_effect link (Delta spot) = unless_over link (Adds (piece.Delta link spot) expected.Delta)
factor_effect link _ = Fails

-- ---- arguments

-- fields stand in patterns and in the right sides of these
abbrev pub field_effect : Setting → Effect
field_effect Plain = Fails
field_effect Right = Waits FieldName
field_effect Pattern = Waits FieldName

abbrev pub further_effect : Setting → Terminal → Effect
further_effect setting Question = field_effect setting
further_effect setting terminal = factor_effect by_link.First terminal

abbrev pub argument_effect : Setting → Terminal → Effect
argument_effect setting Close = Closes
argument_effect setting terminal = further_effect setting terminal

abbrev pub field_name_effect : Terminal → Effect
field_name_effect (Name n) = Adds (piece.Field n) FieldEnd
field_name_effect _ = Fails

abbrev pub field_end_effect : Terminal → Effect
field_end_effect Comma = Parts
field_end_effect Close = Closes
field_end_effect _ = Fails

-- ---- powers

abbrev pub has_minus : Option signs.Sign → Bool
has_minus (Some Minus) = true
has_minus _ = false

-- a minus before a number that isn't 0
abbrev pub is_negative : powers.Power → Bool
is_negative p = if has_minus p.sign then (if p.number.value == 0 then false else true) else false

abbrev pub behind_number : Bool → Expected
behind_number is_parenthesized = if is_parenthesized then Closing else Operator last.Power

-- the number of a power: a negative one stands on nothing that has parentheses
abbrev pub power_effect : Bool → powers.Power → Effect
power_effect is_on_enclosed p =
    if is_on_enclosed && is_negative p then Fails else Adds (piece_of_power p) (behind_number p.is_parenthesized)

-- a name as a power: in a pattern it has no sign, and its mark follows
abbrev pub name_as_power : Setting → Option signs.Sign → Spelled → Effect
name_as_power Plain sign n = Fails
name_as_power Right sign n = Adds (piece.RaisedByName sign (Declared n)) (Operator last.Power)
name_as_power Pattern None n = Adds (piece.RaisedByName None (Declared n)) PowerMark
name_as_power Pattern (Some sign) n = Fails

abbrev pub exponent_sign_effect : Bool → Bool → Option signs.Sign → signs.Sign → Effect
exponent_sign_effect is_on_enclosed is_parenthesized None sign = Waits (Exponent is_on_enclosed is_parenthesized (Some sign))
exponent_sign_effect is_on_enclosed is_parenthesized (Some _) sign = Fails

abbrev pub exponent_open_effect : Bool → Bool → Option signs.Sign → Effect
exponent_open_effect is_on_enclosed false None = Encloses (Exponent is_on_enclosed true None)
exponent_open_effect is_on_enclosed _ _ = Fails

abbrev pub exponent_effect : Setting → Bool → Bool → Option signs.Sign → Terminal → Effect
exponent_effect setting is_on_enclosed is_parenthesized sign (Number n) =
    power_effect is_on_enclosed (record { is_parenthesized = is_parenthesized; sign = sign; number = n })
exponent_effect setting is_on_enclosed is_parenthesized sign (Name n) = if is_parenthesized then Fails else name_as_power setting sign n
exponent_effect setting is_on_enclosed is_parenthesized sign (Sign s) = exponent_sign_effect is_on_enclosed is_parenthesized sign s
exponent_effect setting is_on_enclosed is_parenthesized sign Open = exponent_open_effect is_on_enclosed is_parenthesized sign
exponent_effect setting is_on_enclosed is_parenthesized sign _ = Fails

-- ---- behind a factor

-- what has parentheses stands last
abbrev pub is_enclosed : lasts.Last → Bool
is_enclosed last.Enclosed = true
is_enclosed _ = false

abbrev pub raise_effect : lasts.Last → Effect
raise_effect last.Power = Fails
raise_effect l = Waits (Exponent (is_enclosed l) false None)

-- the mark of a wildcard
abbrev pub mark_effect : Setting → Slot → Effect
mark_effect Pattern slot = Adds (piece.Marked Any) (Restriction slot)
mark_effect _ slot = Fails

-- it stands behind a declared name
abbrev pub last_mark_effect : Setting → lasts.Last → Effect
last_mark_effect setting last.Name = mark_effect setting slots.Factor
last_mark_effect setting last.DotName = mark_effect setting slots.DotEnd
last_mark_effect setting _ = Fails

-- a name alone begins a dot product, or has arguments
abbrev pub dot_effect : lasts.Last → Effect
dot_effect last.Name = Dots false
dot_effect last.Imaginary = Dots false
dot_effect last.Marked = Dots true
dot_effect _ = Fails

abbrev pub call_effect : lasts.Last → Effect
call_effect last.Name = Calls false
call_effect last.Imaginary = Calls false
call_effect last.Marked = Calls true
call_effect _ = Fails

abbrev pub operator_effect : Setting → lasts.Last → Terminal → Effect
operator_effect setting last (Sign sign) = Waits (Factor (link_of sign))
operator_effect setting last Times = Waits (Factor by_link.Times)
operator_effect setting last Over = Waits (Factor by_link.Over)
operator_effect setting last Close = Closes
operator_effect setting last Comma = Parts
operator_effect setting last Raise = raise_effect last
operator_effect setting last Period = dot_effect last
operator_effect setting last Open = call_effect last
operator_effect setting last Question = last_mark_effect setting last
operator_effect setting last _ = Fails

-- ---- in a dot product and in `d_`

abbrev pub vector_effect : Terminal → Effect
vector_effect (Name n) = Adds (piece.EndOfDot (Declared n)) (Operator last.DotName)
vector_effect (Imaginary spot) = Adds (piece.EndOfDot (names.Imaginary spot)) (Operator last.Base)
vector_effect _ = Fails

-- behind the first argument or the second, which is a declared name or not
abbrev pub behind_entry : Bool → Bool → Expected
behind_entry is_first is_declared = if is_first then EntryComma is_declared else DeltaClosing is_declared

abbrev pub entry_effect : Bool → Terminal → Effect
entry_effect is_first (Name n) = Adds (piece.EntryName (Declared n)) (behind_entry is_first true)
entry_effect is_first (Imaginary spot) = Adds (piece.EntryName (names.Imaginary spot)) (behind_entry is_first false)
entry_effect is_first (Number n) = Adds (piece.EntryNumber n) (behind_entry is_first false)
entry_effect is_first _ = Fails

abbrev pub entry_comma_effect : Setting → Bool → Terminal → Effect
entry_comma_effect setting is_declared Comma = Waits SecondEntry
entry_comma_effect setting is_declared Question = if is_declared then mark_effect setting slots.FirstEntry else Fails
entry_comma_effect setting is_declared _ = Fails

abbrev pub delta_closing_effect : Setting → Bool → Terminal → Effect
delta_closing_effect setting is_declared Close = Adds piece.EndOfDelta (Operator last.Enclosed)
delta_closing_effect setting is_declared Question = if is_declared then mark_effect setting slots.SecondEntry else Fails
delta_closing_effect setting is_declared _ = Fails

-- ---- behind the mark of a wildcard

-- behind what restricts it
abbrev pub behind_wildcard : Slot → Expected
behind_wildcard slots.Factor = Operator last.Marked
behind_wildcard slots.DotEnd = Operator last.Base
behind_wildcard slots.FirstEntry = EntryComma false
behind_wildcard slots.SecondEntry = DeltaClosing false
behind_wildcard slots.Power = Operator last.Power

abbrev pub follower_effect : Setting → Slot → Terminal → Effect
follower_effect setting slots.Factor terminal = operator_effect setting last.Marked terminal
follower_effect setting slots.DotEnd terminal = operator_effect setting last.Base terminal
follower_effect setting slots.FirstEntry terminal = entry_comma_effect setting false terminal
follower_effect setting slots.SecondEntry terminal = delta_closing_effect setting false terminal
follower_effect setting slots.Power terminal = operator_effect setting last.Power terminal

-- a set, elements in braces, or what may follow
abbrev pub restriction_effect : Setting → Slot → Terminal → Effect
restriction_effect setting slot (Name n) = Changes (changes.Set n) (behind_wildcard slot)
restriction_effect setting slot OpenBrace = Waits (Element slot)
restriction_effect setting slot terminal = follower_effect setting slot terminal

abbrev pub number_effect : Slot → Option signs.Sign → numbers.Number → Effect
number_effect slot sign n = Changes (changes.Number (record { sign = sign; number = n })) (ElementEnd slot)

abbrev pub element_effect : Slot → Terminal → Effect
element_effect slot (Name n) = Changes (changes.Name n) (ElementEnd slot)
element_effect slot (Number n) = number_effect slot None n
element_effect slot (Sign sign) = Waits (ElementNumber slot sign)
element_effect slot _ = Fails

abbrev pub element_number_effect : Slot → signs.Sign → Terminal → Effect
element_number_effect slot sign (Number n) = number_effect slot (Some sign) n
element_number_effect slot sign _ = Fails

abbrev pub element_end_effect : Slot → Terminal → Effect
element_end_effect slot Comma = Waits (Element slot)
element_end_effect slot CloseBrace = Waits (behind_wildcard slot)
element_end_effect slot _ = Fails

-- ---- all

abbrev pub closing_effect : Terminal → Effect
closing_effect Close = Waits (Operator last.Power)
closing_effect _ = Fails

abbrev pub delta_effect : Terminal → Effect
delta_effect Open = Encloses FirstEntry
delta_effect _ = Fails

abbrev pub power_mark_effect : Setting → Terminal → Effect
power_mark_effect setting Question = mark_effect setting slots.Power
power_mark_effect setting _ = Fails

-- where one mark alone may stand
abbrev pub lone_effect : Setting → Expected → Terminal → Effect
lone_effect setting Closing terminal = closing_effect terminal
lone_effect setting expected.Delta terminal = delta_effect terminal
lone_effect setting PowerMark terminal = power_mark_effect setting terminal
lone_effect setting _ terminal = Fails

-- in what restricts a wildcard, and in a field
abbrev pub inner_effect : Setting → Expected → Terminal → Effect
inner_effect setting (Restriction slot) terminal = restriction_effect setting slot terminal
inner_effect setting (Element slot) terminal = element_effect slot terminal
inner_effect setting (ElementNumber slot sign) terminal = element_number_effect slot sign terminal
inner_effect setting (ElementEnd slot) terminal = element_end_effect slot terminal
inner_effect setting FieldName terminal = field_name_effect terminal
inner_effect setting FieldEnd terminal = field_end_effect terminal
inner_effect setting e terminal = lone_effect setting e terminal

-- what a terminal does in this setting where this is expected
abbrev pub effect_of : Setting → Expected → Terminal → Effect
effect_of setting (Factor link) terminal = factor_effect link terminal
effect_of setting Argument terminal = argument_effect setting terminal
effect_of setting FurtherArgument terminal = further_effect setting terminal
effect_of setting (Exponent is_on_enclosed is_parenthesized sign) terminal = exponent_effect setting is_on_enclosed is_parenthesized sign terminal
effect_of setting (Operator last) terminal = operator_effect setting last terminal
effect_of setting Vector terminal = vector_effect terminal
effect_of setting FirstEntry terminal = entry_effect true terminal
effect_of setting SecondEntry terminal = entry_effect false terminal
effect_of setting (EntryComma is_declared) terminal = entry_comma_effect setting is_declared terminal
effect_of setting (DeltaClosing is_declared) terminal = delta_closing_effect setting is_declared terminal
effect_of setting e terminal = inner_effect setting e terminal

-- all may end where an operator may stand
abbrev pub may_end : Expected → Bool
may_end (Operator last) = true
may_end (Restriction slots.Factor) = true
may_end (Restriction slots.DotEnd) = true
may_end (Restriction slots.Power) = true
may_end _ = false
