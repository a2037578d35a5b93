-- The tokens of a right side or a pattern close each parenthesis that they open.
use Rattle.std.proofs.Common.{◌≡◌, ℕ, suc, ◌-◌, List, [], ◌∷◌, ◌++◌, Option, Some, None, Bool, true, false, cond, refl, sym, ap, ◌∙◌, append_assoc, add-one, arith}
use Rattle.std.proofs.lemmas.List.{append-nil}
use Rattle.form_ast.specs.declared.expr.Sign.{Sign}
use Rattle.form_ast.specs.declared.expr.Named.{Named}
use Rattle.form_ast.specs.declared.expr.Named.TheVariants as names
use Rattle.form_ast.specs.declared.expr.Spelled.{Spelled}
use Rattle.form_ast.specs.declared.expr.SignedNumber.{SignedNumber}
use Rattle.form_ast.specs.declared.expr.Restriction.{Restriction}
use Rattle.form_ast.specs.declared.expr.Restriction.TheVariants as restrictions
use Rattle.form_ast.specs.declared.expr.Power.{Power}
use Rattle.form_ast.specs.Syntax.{Label, named, wildcard, Entry, name_entry, number_entry, Sum, first, more, Product, one, times, over, Factor, factor, raised, Base, number, name, dot, delta, empty_call, call, parenthesis, Arguments, argument, further, Argument, expression, field}
use Rattle.form_grammar.specs.declared.terminal.Terminal.{Terminal}
use Rattle.form_grammar.specs.declared.terminal.Terminal.TheVariants.{Number, Name, Imaginary, Delta, Over, Times, Raise, Open, Close, Comma, Period, Question, OpenBrace, CloseBrace}
use Rattle.form_grammar.specs.declared.terminal.Terminal.TheVariants as by_terminal
use Rattle.form_grammar.specs.Grammar.{written_sign, further_names, written_names, written_number, further_numbers, written_numbers, written_restriction, written_named, written_name, written_exponent, written_power, written_entry, written_sum, written_product, written_factor, written_base, written_arguments, written_argument}
use Rattle.form_conditions.specs.declared.tokens.Nesting.{Nesting}
use Rattle.form_conditions.specs.declared.tokens.Nesting.TheVariants.{Neither}
use Rattle.form_conditions.specs.Reading.{enclosed, ends, depth_behind}
use Rattle.form_conditions.specs.Tokens.{nesting_of}
use Rattle.form_conditions.proofs.Fronts.{no_zero}

one_less : (n : ℕ) → suc n - 1 ≡ n
one_less n = omega arith

-- this text is passed over in a parenthesis
abbrev pub Skips : List Terminal → Type 0
Skips text = (depth : ℕ) (before rest : List Terminal) → enclosed depth before (text ++ rest) ≡ enclosed depth (before ++ text) rest

none : Skips []
none depth before rest = ap (λ (ts : List Terminal). enclosed depth ts rest) (sym (append-nil before))

both : (a b : List Terminal) → Skips a → Skips b → Skips (a ++ b)
both a b f g depth before rest =
    ap (enclosed depth before) (append_assoc a b rest)
    ∙ f depth before (b ++ rest)
    ∙ g depth (before ++ a) rest
    ∙ ap (λ (ts : List Terminal). enclosed depth ts rest) (append_assoc before a b)

lone : (t : Terminal) → nesting_of t ≡ Neither → Skips (t ∷ [])
unfolding enclosed
lone t e depth before rest =
    ap (λ (n : Nesting). cond (ends n depth) (Some (before, rest)) (enclosed (depth_behind n depth) (before ++ t ∷ []) rest)) e

behind : (t : Terminal) (b : List Terminal) → nesting_of t ≡ Neither → Skips b → Skips (t ∷ b)
behind t b e g = both (t ∷ []) b (lone t e) g

opens : (depth : ℕ) (before rest : List Terminal) → enclosed depth before (Open ∷ rest) ≡ enclosed (suc depth) (before ++ Open ∷ []) rest
unfolding enclosed
opens depth before rest = ap (λ d. enclosed d (before ++ Open ∷ []) rest) (add-one depth)

closes : (depth : ℕ) (before rest : List Terminal) → enclosed (suc depth) before (Close ∷ rest) ≡ enclosed depth (before ++ Close ∷ []) rest
unfolding enclosed
closes depth before rest =
    ap (λ (b : Bool). cond b (Some (before, rest)) (enclosed (suc depth - 1) (before ++ Close ∷ []) rest)) (no_zero (suc depth) (λ e. omega (arith, e)))
    ∙ ap (λ d. enclosed d (before ++ Close ∷ []) rest) (one_less depth)

regroup_text : (a rest : List Terminal) → ((Open ∷ a) ++ Close ∷ []) ++ rest ≡ Open ∷ (a ++ Close ∷ rest)
regroup_text a rest = simp append_assoc

regroup_before : (before a : List Terminal) → ((before ++ Open ∷ []) ++ a) ++ Close ∷ [] ≡ before ++ ((Open ∷ a) ++ Close ∷ [])
regroup_before before a = simp append_assoc

in_parentheses : (a : List Terminal) → Skips a → Skips ((Open ∷ a) ++ Close ∷ [])
in_parentheses a f depth before rest =
    ap (enclosed depth before) (regroup_text a rest)
    ∙ opens depth before (a ++ Close ∷ rest)
    ∙ f (suc depth) (before ++ Open ∷ []) (Close ∷ rest)
    ∙ closes depth ((before ++ Open ∷ []) ++ a) rest
    ∙ ap (λ (ts : List Terminal). enclosed depth ts rest) (regroup_before before a)

sign_skips : (sign : Option Sign) → Skips (written_sign sign)
sign_skips None = none
sign_skips (Some sign) = lone (by_terminal.Sign sign) refl

further_names_skip : (ns : List Spelled) → Skips (further_names ns)
further_names_skip [] = none
further_names_skip (n ∷ ns) = behind Comma (Name n ∷ further_names ns) refl (behind (Name n) (further_names ns) refl (further_names_skip ns))

names_skip : (ns : List Spelled) → Skips (written_names ns)
names_skip [] = none
names_skip (n ∷ ns) = behind (Name n) (further_names ns) refl (further_names_skip ns)

number_skips : (n : SignedNumber) → Skips (written_number n)
number_skips n = both (written_sign n.sign) (Number n.number ∷ []) (sign_skips n.sign) (lone (Number n.number) refl)

further_numbers_skip : (ns : List SignedNumber) → Skips (further_numbers ns)
further_numbers_skip [] = none
further_numbers_skip (n ∷ ns) = both (Comma ∷ written_number n) (further_numbers ns) (behind Comma (written_number n) refl (number_skips n)) (further_numbers_skip ns)

numbers_skip : (ns : List SignedNumber) → Skips (written_numbers ns)
numbers_skip [] = none
numbers_skip (n ∷ ns) = both (written_number n) (further_numbers ns) (number_skips n) (further_numbers_skip ns)

restriction_skips : (r : Restriction) → Skips (written_restriction r)
restriction_skips restrictions.Any = none
restriction_skips (restrictions.Set n) = lone (Name n) refl
restriction_skips (restrictions.Names ns) = both (OpenBrace ∷ written_names ns) (CloseBrace ∷ []) (behind OpenBrace (written_names ns) refl (names_skip ns)) (lone CloseBrace refl)
restriction_skips (restrictions.Numbers ns) = both (OpenBrace ∷ written_numbers ns) (CloseBrace ∷ []) (behind OpenBrace (written_numbers ns) refl (numbers_skip ns)) (lone CloseBrace refl)

named_skips : (n : Named) → Skips (written_named n ∷ [])
named_skips (names.Declared n) = lone (Name n) refl
named_skips (names.Imaginary spot) = lone (Imaginary spot) refl

name_skips : (n : Label) → Skips (written_name n)
name_skips (named n) = named_skips n
name_skips (wildcard n r) = behind (Name n) (Question ∷ written_restriction r) refl (behind Question (written_restriction r) refl (restriction_skips r))

entry_skips : (a : Entry) → Skips (written_entry a)
entry_skips (name_entry n) = name_skips n
entry_skips (number_entry n) = lone (Number n) refl

exponent_skips : (p : Power) → Skips (written_exponent p)
exponent_skips p = by_kind p.is_parenthesized p.sign where
  by_kind : (b : Bool) (sign : Option Sign) → Skips (cond b ((Open ∷ written_sign sign) ++ Number p.number ∷ Close ∷ []) (written_sign sign ++ Number p.number ∷ []))
  by_kind true None = in_parentheses (Number p.number ∷ []) (lone (Number p.number) refl)
  by_kind true (Some sign) = in_parentheses (by_terminal.Sign sign ∷ Number p.number ∷ []) (behind (by_terminal.Sign sign) (Number p.number ∷ []) refl (lone (Number p.number) refl))
  by_kind false sign = both (written_sign sign) (Number p.number ∷ []) (sign_skips sign) (lone (Number p.number) refl)

power_skips : (power : Option Power) → Skips (written_power power)
power_skips None = none
power_skips (Some p) = behind Raise (written_exponent p) refl (exponent_skips p)

delta_regroup : (a b : List Terminal) → (((Open ∷ a) ++ Comma ∷ b) ++ Close ∷ []) ≡ (Open ∷ (a ++ Comma ∷ b)) ++ Close ∷ []
delta_regroup a b = simp append_assoc

call_regroup : (n a : List Terminal) → (n ++ Open ∷ a) ++ Close ∷ [] ≡ n ++ ((Open ∷ a) ++ Close ∷ [])
call_regroup n a = append_assoc n (Open ∷ a) (Close ∷ [])

same_text : (a b : List Terminal) → a ≡ b → Skips b → Skips a
same_text a b e f depth before rest =
    ap (λ (t : List Terminal). enclosed depth before (t ++ rest)) e ∙ f depth before rest ∙ ap (λ (t : List Terminal). enclosed depth (before ++ t) rest) (sym e)

mutual
  pub sum_skips : (s : Sum) → Skips (written_sum s)
  sum_skips (first sign p) = both (written_sign sign) (written_product p) (sign_skips sign) (product_skips p)
  sum_skips (more s sign p) = both (written_sum s) (by_terminal.Sign sign ∷ written_product p) (sum_skips s) (behind (by_terminal.Sign sign) (written_product p) refl (product_skips p))

  product_skips : (p : Product) → Skips (written_product p)
  product_skips (one f) = factor_skips f
  product_skips (times p f) = both (written_product p) (Times ∷ written_factor f) (product_skips p) (behind Times (written_factor f) refl (factor_skips f))
  product_skips (over p f) = both (written_product p) (Over ∷ written_factor f) (product_skips p) (behind Over (written_factor f) refl (factor_skips f))

  factor_skips : (f : Factor) → Skips (written_factor f)
  factor_skips (factor b power) = both (written_base b) (written_power power) (base_skips b) (power_skips power)
  factor_skips (raised b sign n) =
      both (written_base b ++ Raise ∷ written_sign sign) (written_name n)
      (both (written_base b) (Raise ∷ written_sign sign) (base_skips b) (behind Raise (written_sign sign) refl (sign_skips sign)))
      (name_skips n)

  base_skips : (b : Base) → Skips (written_base b)
  base_skips (number n) = lone (Number n) refl
  base_skips (name n) = name_skips n
  base_skips (dot p q) = both (written_name p) (Period ∷ written_name q) (name_skips p) (behind Period (written_name q) refl (name_skips q))
  base_skips (delta spot a b) =
      behind (Delta spot) (((Open ∷ written_entry a) ++ Comma ∷ written_entry b) ++ Close ∷ []) refl
      (same_text (((Open ∷ written_entry a) ++ Comma ∷ written_entry b) ++ Close ∷ []) ((Open ∷ (written_entry a ++ Comma ∷ written_entry b)) ++ Close ∷ []) (delta_regroup (written_entry a) (written_entry b))
      (in_parentheses (written_entry a ++ Comma ∷ written_entry b) (both (written_entry a) (Comma ∷ written_entry b) (entry_skips a) (behind Comma (written_entry b) refl (entry_skips b)))))
  base_skips (empty_call n) = both (written_name n) (Open ∷ Close ∷ []) (name_skips n) (in_parentheses [] none)
  base_skips (call n args) =
      same_text ((written_name n ++ Open ∷ written_arguments args) ++ Close ∷ []) (written_name n ++ ((Open ∷ written_arguments args) ++ Close ∷ [])) (call_regroup (written_name n) (written_arguments args))
      (both (written_name n) ((Open ∷ written_arguments args) ++ Close ∷ []) (name_skips n) (in_parentheses (written_arguments args) (arguments_skip args)))
  base_skips (parenthesis s) = in_parentheses (written_sum s) (sum_skips s)

  arguments_skip : (args : Arguments) → Skips (written_arguments args)
  arguments_skip (argument a) = argument_skips a
  arguments_skip (further args a) = both (written_arguments args) (Comma ∷ written_argument a) (arguments_skip args) (behind Comma (written_argument a) refl (argument_skips a))

  argument_skips : (a : Argument) → Skips (written_argument a)
  argument_skips (expression s) = sum_skips s
  argument_skips (field n) = behind Question (Name n ∷ []) refl (lone (Name n) refl)

-- what stands in the parenthesis of a `match` is read whole
pub sum_enclosed : (s : Sum) (rest : List Terminal) → enclosed 0 [] (written_sum s ++ Close ∷ rest) ≡ Some (written_sum s, rest)
unfolding enclosed
sum_enclosed s rest = sum_skips s 0 [] (Close ∷ rest)

-- ---- one token further in a parenthesis

abbrev Inner : Type 0
Inner = Option (List Terminal × List Terminal)

enclosed_next : (depth : ℕ) (before rest : List Terminal) (t : Terminal)
    → enclosed depth before (t ∷ rest) ≡ cond (ends (nesting_of t) depth) (Some (before, rest)) (enclosed (depth_behind (nesting_of t) depth) (before ++ t ∷ []) rest)
unfolding enclosed
enclosed_next depth before rest t = refl

pub enclosed_ends : (depth : ℕ) (before text rest : List Terminal) (t : Terminal) (all : Inner) → text ≡ t ∷ rest → ends (nesting_of t) depth ≡ true → enclosed depth before text ≡ all → all ≡ Some (before, rest)
enclosed_ends depth before text rest t all e f h =
    sym h
    ∙ ap (enclosed depth before) e
    ∙ enclosed_next depth before rest t
    ∙ ap (λ (b : Bool). cond b (Some (before, rest)) (enclosed (depth_behind (nesting_of t) depth) (before ++ t ∷ []) rest)) f

pub enclosed_goes : (depth deeper : ℕ) (before next text rest : List Terminal) (t : Terminal) (all : Inner) → text ≡ t ∷ rest → ends (nesting_of t) depth ≡ false → enclosed depth before text ≡ all
    → deeper ≡ depth_behind (nesting_of t) depth → next ≡ before ++ t ∷ [] → enclosed deeper next rest ≡ all
enclosed_goes depth deeper before next text rest t all e f h p q =
    ap (λ d. enclosed d next rest) p
    ∙ ap (λ (ts : List Terminal). enclosed (depth_behind (nesting_of t) depth) ts rest) q
    ∙ sym (ap (λ (b : Bool). cond b (Some (before, rest)) (enclosed (depth_behind (nesting_of t) depth) (before ++ t ∷ []) rest)) f)
    ∙ sym (enclosed_next depth before rest t)
    ∙ sym (ap (enclosed depth before) e)
    ∙ h

enclosed_none : (depth : ℕ) (before : List Terminal) → enclosed depth before [] ≡ None
unfolding enclosed
enclosed_none depth before = refl

pub enclosed_stops : (depth : ℕ) (before text : List Terminal) (all : Inner) → text ≡ [] → enclosed depth before text ≡ all → all ≡ None
enclosed_stops depth before text all e h = sym h ∙ ap (enclosed depth before) e ∙ enclosed_none depth before
