-- Where reading can stand: the trees of what was read, with what they are written as and kept as.
use Rattle.std.proofs.Common.{◌≡◌, ℕ, suc, ◌<◌, Bool, true, false, List, [], ◌∷◌, ◌++◌, length, Option, Some, None, refl, sym, ◌∙◌, append_assoc, if◌then◌else◌}
use Rattle.form_base.specs.declared.spot.Spot.{Spot}
use Rattle.form_ast.specs.declared.expr.Sign.{Sign}
use Rattle.form_ast.specs.declared.expr.Link.{Link}
use Rattle.form_ast.specs.declared.expr.Link.TheVariants as links
use Rattle.form_number.specs.declared.number.Number.{Number}
use Rattle.form_ast.specs.declared.expr.Named.TheVariants as names
use Rattle.form_ast.specs.declared.expr.Spelled.{Spelled}
use Rattle.form_ast.specs.declared.expr.Power.{Power}
use Rattle.form_ast.specs.declared.expr.Piece.{Piece}
use Rattle.form_ast.specs.declared.expr.Piece.TheVariants as pieces
use Rattle.form_ast.specs.declared.setting.Setting.{Setting}
use Rattle.form_ast.specs.Building.{Lead, start, after, sum_of, with_argument}
use Rattle.form_ast.specs.Syntax.{Label, named, wildcard, Entry, name_entry, number_entry, Sum, Product, one, times, over, Factor, factor, raised, Base, number, name, dot, Arguments, Argument, link_of, first_link, name_of, mark_of, pieces_of_entry, pieces_of_sum, pieces_of_product, pieces_of_factor, pieces_of_arguments, pieces_of_argument}
use Rattle.form_ast.specs.Lawful.{most_open, IsDivisor, IsLawfulLabel, IsLawfulEntry, HasFields, IsLawfulSum, IsLawfulProduct, IsLawfulFactor, IsLawfulArguments, IsLawfulArgument}
use Rattle.form_grammar.specs.declared.brackets.Bracket.{Bracket}
use Rattle.form_grammar.specs.declared.brackets.Bracket.TheVariants as brackets_by
use Rattle.form_grammar.specs.declared.terminal.Terminal.{Terminal}
use Rattle.form_grammar.specs.declared.terminal.Terminal.TheVariants as by_terminal
use Rattle.form_grammar.specs.declared.effect.Last as lasts
use Rattle.form_grammar.specs.declared.effect.Last.TheVariants as last
use Rattle.form_grammar.specs.declared.effect.Expected.TheVariants as by_expected
use Rattle.form_grammar.specs.Effect.{is_enclosed}
use Rattle.form_grammar.specs.Grammar.{written_sum, written_product, written_factor, written_base, written_sign, written_name, written_entry, written_arguments, written_argument}
use Rattle.form_grammar.specs.Reading.{Reading}

-- what is before a factor
pub data Before : Type 0 where
  lead : Lead → Before
  by_times : Lead → Product → Before
  by_over : Lead → Product → Before

-- an open parenthesis, with what is before it: that of a sum, or that of arguments, with those that are complete
pub data Outer : Type 0 where
  in_parenthesis : Before → Outer
  in_arguments : Before → Label → Option Arguments → Outer

-- where reading stands, with the open parentheses, the innermost first
pub data Place : Type 0 where
  at_factor : List Outer → Before → Place
  at_argument : List Outer → Before → Label → Place
  at_further : List Outer → Before → Label → Arguments → Place
  at_exponent : List Outer → Before → Base → Bool → Option Sign → Place
  at_closing : List Outer → Before → Base → Option Sign → Number → Place
  at_operator : List Outer → Before → Factor → Place
  at_vector : List Outer → Before → Label → Place
  at_delta : List Outer → Before → Spot → Place
  at_first_entry : List Outer → Before → Spot → Place
  at_comma : List Outer → Before → Spot → Entry → Place
  at_second_entry : List Outer → Before → Spot → Entry → Place
  at_delta_closing : List Outer → Before → Spot → Entry → Entry → Place
  at_field_name : List Outer → Before → Label → Option Arguments → Place
  at_field_end : List Outer → Before → Label → Option Arguments → Spelled → Place

abbrev pub lead_link : Lead → Link
lead_link (start sign) = first_link sign
lead_link (after s sign) = link_of sign

abbrev pub link_before : Before → Link
link_before (lead l) = lead_link l
link_before (by_times l p) = links.Times
link_before (by_over l p) = links.Over

abbrev pub lead_of : Before → Lead
lead_of (lead l) = l
lead_of (by_times l p) = l
lead_of (by_over l p) = l

abbrev pub product_of : Before → Factor → Product
product_of (lead l) f = one f
product_of (by_times l p) f = times p f
product_of (by_over l p) f = over p f

-- the sum up to a factor
abbrev pub sum_to : Before → Factor → Sum
sum_to b f = sum_of (lead_of b) (product_of b f)

abbrev pub bracket_of : Outer → Bracket
bracket_of (in_parenthesis b) = brackets_by.Parenthesis
bracket_of (in_arguments b n args) = brackets_by.Arguments

abbrev pub brackets : List Outer → List Bracket
brackets [] = []
brackets (o ∷ around) = bracket_of o ∷ brackets around

abbrev pub depth : List Outer → ℕ
depth around = length (brackets around)

-- the last thing of a base, and of a factor
abbrev pub last_of_label : Label → lasts.Last
last_of_label (named (names.Declared n)) = last.Name
last_of_label (named (names.Imaginary spot)) = last.Imaginary
last_of_label (wildcard n r) = last.Marked

abbrev pub last_of_dot : Label → lasts.Last
last_of_dot (named (names.Declared n)) = last.DotName
last_of_dot (named (names.Imaginary spot)) = last.Base
last_of_dot (wildcard n r) = last.Base

abbrev pub last_of_base : Base → lasts.Last
last_of_base (number n) = last.Base
last_of_base (name n) = last_of_label n
last_of_base (dot p q) = last_of_dot q
last_of_base _ = last.Enclosed

abbrev pub last_behind : lasts.Last → Option Power → lasts.Last
last_behind l None = l
last_behind l (Some p) = last.Power

abbrev pub last_of : Factor → lasts.Last
last_of (factor b power) = last_behind (last_of_base b) power
last_of (raised b sign n) = last.Power

-- an argument of `d_` that may have a mark
abbrev pub is_declared : Label → Bool
is_declared (named (names.Declared n)) = true
is_declared (named (names.Imaginary spot)) = false
is_declared (wildcard n r) = false

abbrev pub is_declared_entry : Entry → Bool
is_declared_entry (name_entry n) = is_declared n
is_declared_entry (number_entry n) = false

-- how it is kept
abbrev pub kept_lead : Lead → List Piece
kept_lead (start sign) = []
kept_lead (after s sign) = pieces_of_sum s

abbrev pub kept_before : Before → List Piece
kept_before (lead l) = kept_lead l
kept_before (by_times l p) = kept_lead l ++ pieces_of_product (lead_link l) p
kept_before (by_over l p) = kept_lead l ++ pieces_of_product (lead_link l) p

abbrev pub kept_parted : Option Arguments → List Piece
kept_parted None = []
kept_parted (Some args) = pieces_of_arguments args ++ pieces.Comma ∷ []

abbrev pub kept_name : Before → Label → List Piece
kept_name b n = pieces.Call (link_before b) (name_of n) ∷ mark_of n

abbrev pub kept_outer : Outer → List Piece
kept_outer (in_parenthesis b) = kept_before b ++ pieces.Open (link_before b) ∷ []
kept_outer (in_arguments b n args) = kept_before b ++ (kept_name b n ++ kept_parted args)

abbrev pub kept_around : List Outer → List Piece
kept_around [] = []
kept_around (o ∷ around) = kept_around around ++ kept_outer o

abbrev pub kept_to : List Outer → Before → List Piece → List Piece
kept_to around b text = kept_around around ++ (kept_before b ++ text)

abbrev pub kept_factor : List Outer → Before → Factor → List Piece
kept_factor around b f = kept_to around b (pieces_of_factor (link_before b) f)

abbrev pub kept_entry : Before → Spot → Entry → List Piece
kept_entry b spot a = pieces.Delta (link_before b) spot ∷ pieces_of_entry a

abbrev pub reading_at : Place → Reading
reading_at (at_factor around b) = record { pieces = kept_around around ++ kept_before b; opened = brackets around; expected = by_expected.Factor (link_before b) }
reading_at (at_argument around b n) = record { pieces = kept_around (in_arguments b n None ∷ around) ++ []; opened = brackets (in_arguments b n None ∷ around); expected = by_expected.Argument }
reading_at (at_further around b n args) =
    record { pieces = kept_around (in_arguments b n (Some args) ∷ around) ++ []; opened = brackets (in_arguments b n (Some args) ∷ around); expected = by_expected.FurtherArgument }
reading_at (at_exponent around b base is_parenthesized sign) =
    record { pieces = kept_factor around b (factor base None); opened = brackets around; expected = by_expected.Exponent (is_enclosed (last_of_base base)) is_parenthesized sign }
reading_at (at_closing around b base sign n) =
    record { pieces = kept_factor around b (factor base (Some (record { is_parenthesized = true; sign = sign; number = n }))); opened = brackets around; expected = by_expected.Closing }
reading_at (at_operator around b f) = record { pieces = kept_factor around b f; opened = brackets around; expected = by_expected.Operator (last_of f) }
reading_at (at_vector around b p) = record { pieces = kept_to around b (pieces.Dot (link_before b) (name_of p) ∷ mark_of p); opened = brackets around; expected = by_expected.Vector }
reading_at (at_delta around b spot) = record { pieces = kept_to around b (pieces.Delta (link_before b) spot ∷ []); opened = brackets around; expected = by_expected.Delta }
reading_at (at_first_entry around b spot) = record { pieces = kept_to around b (pieces.Delta (link_before b) spot ∷ []); opened = brackets around; expected = by_expected.FirstEntry }
reading_at (at_comma around b spot a) = record { pieces = kept_to around b (kept_entry b spot a); opened = brackets around; expected = by_expected.EntryComma (is_declared_entry a) }
reading_at (at_second_entry around b spot a) = record { pieces = kept_to around b (kept_entry b spot a); opened = brackets around; expected = by_expected.SecondEntry }
reading_at (at_delta_closing around b spot a c) =
    record { pieces = kept_to around b (kept_entry b spot a ++ pieces_of_entry c); opened = brackets around; expected = by_expected.DeltaClosing (is_declared_entry c) }
reading_at (at_field_name around b n args) =
    record { pieces = kept_around (in_arguments b n args ∷ around) ++ []; opened = brackets (in_arguments b n args ∷ around); expected = by_expected.FieldName }
reading_at (at_field_end around b n args m) =
    record { pieces = kept_around (in_arguments b n args ∷ around) ++ pieces.Field m ∷ []; opened = brackets (in_arguments b n args ∷ around); expected = by_expected.FieldEnd }

-- how it is written
abbrev pub written_lead : Lead → List Terminal
written_lead (start sign) = written_sign sign
written_lead (after s sign) = written_sum s ++ by_terminal.Sign sign ∷ []

abbrev pub written_before : Before → List Terminal
written_before (lead l) = written_lead l
written_before (by_times l p) = written_lead l ++ (written_product p ++ by_terminal.Times ∷ [])
written_before (by_over l p) = written_lead l ++ (written_product p ++ by_terminal.Over ∷ [])

abbrev pub written_parted : Option Arguments → List Terminal
written_parted None = []
written_parted (Some args) = written_arguments args ++ by_terminal.Comma ∷ []

abbrev pub written_outer : Outer → List Terminal
written_outer (in_parenthesis b) = written_before b ++ by_terminal.Open ∷ []
written_outer (in_arguments b n args) = written_before b ++ (written_name n ++ (by_terminal.Open ∷ written_parted args))

abbrev pub written_around : List Outer → List Terminal
written_around [] = []
written_around (o ∷ around) = written_around around ++ written_outer o

abbrev pub written_to : List Outer → Before → List Terminal → List Terminal
written_to around b text = written_around around ++ (written_before b ++ text)

abbrev pub exponent_front : Bool → Option Sign → List Terminal
exponent_front is_parenthesized sign = if is_parenthesized then by_terminal.Open ∷ written_sign sign else written_sign sign

abbrev pub written_first : Spot → Entry → List Terminal
written_first spot a = by_terminal.Delta spot ∷ by_terminal.Open ∷ written_entry a

abbrev pub written_at : Place → List Terminal
written_at (at_factor around b) = written_around around ++ written_before b
written_at (at_argument around b n) = written_around (in_arguments b n None ∷ around) ++ []
written_at (at_further around b n args) = written_around (in_arguments b n (Some args) ∷ around) ++ []
written_at (at_exponent around b base is_parenthesized sign) =
    written_to around b (written_base base ++ by_terminal.Raise ∷ exponent_front is_parenthesized sign)
written_at (at_closing around b base sign n) =
    written_to around b (written_base base ++ by_terminal.Raise ∷ by_terminal.Open ∷ (written_sign sign ++ by_terminal.Number n ∷ []))
written_at (at_operator around b f) = written_to around b (written_factor f)
written_at (at_vector around b p) = written_to around b (written_name p ++ by_terminal.Period ∷ [])
written_at (at_delta around b spot) = written_to around b (by_terminal.Delta spot ∷ [])
written_at (at_first_entry around b spot) = written_to around b (by_terminal.Delta spot ∷ by_terminal.Open ∷ [])
written_at (at_comma around b spot a) = written_to around b (written_first spot a)
written_at (at_second_entry around b spot a) = written_to around b (written_first spot a ++ by_terminal.Comma ∷ [])
written_at (at_delta_closing around b spot a c) = written_to around b (written_first spot a ++ by_terminal.Comma ∷ written_entry c)
written_at (at_field_name around b n args) = written_around (in_arguments b n args ∷ around) ++ by_terminal.Question ∷ []
written_at (at_field_end around b n args m) = written_around (in_arguments b n args ∷ around) ++ by_terminal.Question ∷ by_terminal.Name m ∷ []

-- a factor may stand behind it
abbrev pub Fits : Before → Factor → Type 0
Fits (lead l) f = Unit {0}
Fits (by_times l p) f = Unit {0}
Fits (by_over l p) f = IsDivisor f

abbrev pub TakesParenthesis : Before → Type 0
TakesParenthesis (lead l) = Unit {0}
TakesParenthesis (by_times l p) = Unit {0}
TakesParenthesis (by_over l p) = ⊥

-- what is lawful of it
abbrev pub IsLawfulLead : Setting → ℕ → Lead → Type 0
IsLawfulLead g opened (start sign) = Unit {0}
IsLawfulLead g opened (after s sign) = IsLawfulSum g opened s

abbrev pub IsLawfulBefore : Setting → ℕ → Before → Type 0
IsLawfulBefore g opened (lead l) = IsLawfulLead g opened l
IsLawfulBefore g opened (by_times l p) = IsLawfulLead g opened l × IsLawfulProduct g opened p
IsLawfulBefore g opened (by_over l p) = IsLawfulLead g opened l × IsLawfulProduct g opened p

abbrev pub IsLawfulParted : Setting → ℕ → Option Arguments → Type 0
IsLawfulParted g opened None = Unit {0}
IsLawfulParted g opened (Some args) = IsLawfulArguments g opened args

-- the parts of what is open that are lawful
pub record IsLawfulCall (g : Setting) (opened : ℕ) (b : Before) (n : Label) (args : Option Arguments) : Type 0 where
  pub lawful_before : IsLawfulBefore g opened b
  pub takes : TakesParenthesis b
  pub room : opened < most_open
  pub lawful_name : IsLawfulLabel g n
  pub lawful_arguments : IsLawfulParted g (suc opened) args

pub record IsLawfulOpen (g : Setting) (opened : ℕ) (b : Before) : Type 0 where
  pub lawful_before : IsLawfulBefore g opened b
  pub takes : TakesParenthesis b
  pub room : opened < most_open

abbrev pub IsLawfulOuter : Setting → ℕ → Outer → Type 0
IsLawfulOuter g opened (in_parenthesis b) = IsLawfulOpen g opened b
IsLawfulOuter g opened (in_arguments b n args) = IsLawfulCall g opened b n args

abbrev pub IsLawfulAround : Setting → List Outer → Type 0
IsLawfulAround g [] = Unit {0}
IsLawfulAround g (o ∷ around) = IsLawfulOuter g (depth around) o × IsLawfulAround g around

-- what is before a factor is lawful, and so is this factor behind it
pub record IsLawfulTo (g : Setting) (around : List Outer) (b : Before) (f : Factor) : Type 0 where
  pub lawful_around : IsLawfulAround g around
  pub lawful_before : IsLawfulBefore g (depth around) b
  pub lawful_factor : IsLawfulFactor g (depth around) f
  pub fits : Fits b f

-- what is before a parenthesis that isn't kept is lawful
pub record IsLawfulDelta (g : Setting) (around : List Outer) (b : Before) : Type 0 where
  pub lawful_around : IsLawfulAround g around
  pub lawful_before : IsLawfulBefore g (depth around) b
  pub takes : TakesParenthesis b

pub record IsLawfulEntries (g : Setting) (around : List Outer) (b : Before) : Type 0 where
  pub lawful_front : IsLawfulDelta g around b
  pub room : depth around < most_open

pub record IsLawfulFront (g : Setting) (around : List Outer) (b : Before) : Type 0 where
  pub lawful_around : IsLawfulAround g around
  pub lawful_before : IsLawfulBefore g (depth around) b

pub record IsLawfulArgumented (g : Setting) (around : List Outer) (b : Before) (n : Label) (args : Option Arguments) : Type 0 where
  pub lawful_call : IsLawfulCall g (depth around) b n args
  pub lawful_around : IsLawfulAround g around

abbrev pub IsLawfulAt : Setting → Place → Type 0
IsLawfulAt g (at_factor around b) = IsLawfulFront g around b
IsLawfulAt g (at_argument around b n) = IsLawfulArgumented g around b n None
IsLawfulAt g (at_further around b n args) = IsLawfulArgumented g around b n (Some args)
IsLawfulAt g (at_exponent around b base is_parenthesized sign) = IsLawfulTo g around b (factor base None) × (is_parenthesized ≡ true → depth around < most_open)
IsLawfulAt g (at_closing around b base sign n) = IsLawfulTo g around b (factor base (Some (record { is_parenthesized = true; sign = sign; number = n })))
IsLawfulAt g (at_operator around b f) = IsLawfulTo g around b f
IsLawfulAt g (at_vector around b p) = IsLawfulFront g around b × IsLawfulLabel g p
IsLawfulAt g (at_delta around b spot) = IsLawfulDelta g around b
IsLawfulAt g (at_first_entry around b spot) = IsLawfulEntries g around b
IsLawfulAt g (at_comma around b spot a) = IsLawfulEntries g around b × IsLawfulEntry g a
IsLawfulAt g (at_second_entry around b spot a) = IsLawfulEntries g around b × IsLawfulEntry g a
IsLawfulAt g (at_delta_closing around b spot a c) = IsLawfulEntries g around b × IsLawfulEntry g a × IsLawfulEntry g c
IsLawfulAt g (at_field_name around b n args) = IsLawfulArgumented g around b n args × HasFields g
IsLawfulAt g (at_field_end around b n args m) = IsLawfulArgumented g around b n args × HasFields g

-- the sum up to a factor is written, kept and lawful as it should be
module _ {A : Type 0} where
  pub behind_mark : (a b c : List A) (x : A) → a ++ (b ++ x ∷ c) ≡ (a ++ (b ++ x ∷ [])) ++ c
  behind_mark a b c x = simp append_assoc

pub written_filled : (b : Before) (f : Factor) → written_lead (lead_of b) ++ written_product (product_of b f) ≡ written_before b ++ written_factor f
written_filled (lead l) f = refl
written_filled (by_times l p) f = behind_mark (written_lead l) (written_product p) (written_factor f) by_terminal.Times
written_filled (by_over l p) f = behind_mark (written_lead l) (written_product p) (written_factor f) by_terminal.Over

pub written_whole : (b : Before) (f : Factor) → written_sum (sum_to b f) ≡ written_before b ++ written_factor f
written_whole b f = of_lead (lead_of b) (product_of b f) ∙ written_filled b f where
  of_lead : (l : Lead) (p : Product) → written_sum (sum_of l p) ≡ written_lead l ++ written_product p
  of_lead (start sign) p = refl
  of_lead (after s sign) p = sym (append_assoc (written_sum s) (by_terminal.Sign sign ∷ []) (written_product p))

pub kept_filled : (b : Before) (f : Factor) → kept_lead (lead_of b) ++ pieces_of_product (lead_link (lead_of b)) (product_of b f) ≡ kept_before b ++ pieces_of_factor (link_before b) f
kept_filled (lead l) f = refl
kept_filled (by_times l p) f = sym (append_assoc (kept_lead l) (pieces_of_product (lead_link l) p) (pieces_of_factor links.Times f))
kept_filled (by_over l p) f = sym (append_assoc (kept_lead l) (pieces_of_product (lead_link l) p) (pieces_of_factor links.Over f))

pub kept_whole : (b : Before) (f : Factor) → pieces_of_sum (sum_to b f) ≡ kept_before b ++ pieces_of_factor (link_before b) f
kept_whole b f = of_lead (lead_of b) (product_of b f) ∙ kept_filled b f where
  of_lead : (l : Lead) (p : Product) → pieces_of_sum (sum_of l p) ≡ kept_lead l ++ pieces_of_product (lead_link l) p
  of_lead (start sign) p = refl
  of_lead (after s sign) p = refl

module _ (g : Setting) (opened : ℕ) where
  pub lawful_product : (b : Before) (f : Factor) → IsLawfulBefore g opened b → IsLawfulFactor g opened f → Fits b f → IsLawfulProduct g opened (product_of b f)
  lawful_product (lead l) f h k m = k
  lawful_product (by_times l p) f h k m = (h.1, k)
  lawful_product (by_over l p) f h k m = (h.1, k, m)

  pub lawful_lead : (b : Before) → IsLawfulBefore g opened b → IsLawfulLead g opened (lead_of b)
  lawful_lead (lead l) h = h
  lawful_lead (by_times l p) h = h.0
  lawful_lead (by_over l p) h = h.0

  pub lawful_whole : (b : Before) (f : Factor) → IsLawfulBefore g opened b → IsLawfulFactor g opened f → Fits b f → IsLawfulSum g opened (sum_to b f)
  lawful_whole b f h k m = of_lead (lead_of b) (lawful_lead b h) where
    of_lead : (l : Lead) → IsLawfulLead g opened l → IsLawfulSum g opened (sum_of l (product_of b f))
    of_lead (start sign) q = lawful_product b f h k m
    of_lead (after s sign) q = (q, lawful_product b f h k m)

  pub lawful_arguments : (args : Option Arguments) (a : Argument) → IsLawfulParted g opened args → IsLawfulArgument g opened a → IsLawfulArguments g opened (with_argument args a)
  lawful_arguments None a h k = k
  lawful_arguments (Some args) a h k = (h, k)

-- a further argument
pub kept_arguments : (args : Option Arguments) (a : Argument) → kept_parted args ++ pieces_of_argument a ≡ pieces_of_arguments (with_argument args a)
kept_arguments None a = refl
kept_arguments (Some args) a = append_assoc (pieces_of_arguments args) (pieces.Comma ∷ []) (pieces_of_argument a)

pub written_all_arguments : (args : Option Arguments) (a : Argument) → written_parted args ++ written_argument a ≡ written_arguments (with_argument args a)
written_all_arguments None a = refl
written_all_arguments (Some args) a = append_assoc (written_arguments args) (by_terminal.Comma ∷ []) (written_argument a)
