-- What stands at the front of a text, and what is left behind it.
use Rattle.std.proofs.Common.{◌≡◌, ◌≢◌, ℕ, zero, suc, ◌<◌, Bool, true, false, cond, eqb, List, [], ◌∷◌, ◌++◌, Option, Some, None, option_and_then, refl, sym, ap, ◌∙◌, arith}
use Rattle.std.proofs.lemmas.Bool.{eqb-false, eqb-true}
use Rattle.std.proofs.lemmas.Option.{same_Some, none-some}
use Rattle.form_base.specs.declared.comparison.Comparison.{Comparison}
use Rattle.form_number.specs.declared.number.Number as numbers
use Rattle.form_ast.specs.declared.expr.Sign as by_sign
use Rattle.form_ast.specs.declared.expr.Sign.TheVariants as signs
use Rattle.form_ast.specs.declared.expr.SignedNumber.{SignedNumber}
use Rattle.form_ast.specs.declared.expr.Spelled.{Spelled}
use Rattle.form_grammar.specs.declared.terminal.Terminal.{Terminal}
use Rattle.form_grammar.specs.declared.terminal.Terminal.TheVariants as by_terminal
use Rattle.form_grammar.specs.Grammar.{written_sign, written_number}
use Rattle.form_conditions.specs.declared.tokens.Wanted.{Wanted}
use Rattle.form_conditions.specs.declared.tokens.Wanted.TheVariants.{And, Or, Over, Comma, Open, Close}
use Rattle.form_conditions.specs.Grammar.{comparison_of}
use Rattle.form_conditions.specs.Reading.{Reads, take_name, take_number, signed, signed_number, opened, comparison_at}
use Rattle.form_conditions.specs.Tokens.{is_wanted, begins, take, tail_of}

-- a front of the text is such, and these are left
pub record IsFront (Text : List Terminal → Type 0) (text rest : List Terminal) : Type 0 where
  pub front : List Terminal
  pub is_front : Text front
  pub split : text ≡ front ++ rest

-- what is read is written so
abbrev pub Sound : {A : Type 0} → (A → List Terminal → Type 0) → Reads A → Type 0
Sound {A} Text read = (text rest : List Terminal) (x : A) → read text ≡ Some (x, rest) → IsFront (Text x) text rest

-- what is written so is read, where this follows
abbrev pub Complete : {A : Type 0} → (A → List Terminal → Type 0) → Reads A → (List Terminal → Type 0) → Type 0
Complete {A} Text read Ends = (x : A) (front rest : List Terminal) → Text x front → Ends rest → read (front ++ rest) ≡ Some (x, rest)

-- what is read, and what is left
abbrev pub giving : {A : Type 0} → A → List Terminal → Option (A × List Terminal)
giving x rest = Some (x, rest)

abbrev pub beside : {A : Type 0} → List Terminal → A → A × List Terminal
beside rest x = (x, rest)

-- the steps that gave something
pub steps : {A B : Type 0} (o : Option A) (f : A → Option B) (y : B) → option_and_then f o ≡ Some y → (x : A) × (o ≡ Some x) × (f x ≡ Some y)
steps None f y e = absurd cc
steps (Some x) f y e = (x, refl, e)

-- ---- marks

-- the terminal that is wanted is this mark
abbrev pub IsMark : Wanted → Terminal → Type 0
IsMark w m = (is_wanted w m ≡ true) × ((text : List Terminal) → begins w text ≡ true → text ≡ m ∷ tail_of text)

and_text : (text : List Terminal) → begins And text ≡ true → text ≡ by_terminal.And ∷ tail_of text
and_text [] e = absurd cc
and_text (by_terminal.And ∷ rest) e = refl
and_text (_ ∷ rest) e = absurd cc

or_text : (text : List Terminal) → begins Or text ≡ true → text ≡ by_terminal.Or ∷ tail_of text
or_text [] e = absurd cc
or_text (by_terminal.Or ∷ rest) e = refl
or_text (_ ∷ rest) e = absurd cc

over_text : (text : List Terminal) → begins Over text ≡ true → text ≡ by_terminal.Over ∷ tail_of text
over_text [] e = absurd cc
over_text (by_terminal.Over ∷ rest) e = refl
over_text (_ ∷ rest) e = absurd cc

comma_text : (text : List Terminal) → begins Comma text ≡ true → text ≡ by_terminal.Comma ∷ tail_of text
comma_text [] e = absurd cc
comma_text (by_terminal.Comma ∷ rest) e = refl
comma_text (_ ∷ rest) e = absurd cc

open_text : (text : List Terminal) → begins Open text ≡ true → text ≡ by_terminal.Open ∷ tail_of text
open_text [] e = absurd cc
open_text (by_terminal.Open ∷ rest) e = refl
open_text (_ ∷ rest) e = absurd cc

close_text : (text : List Terminal) → begins Close text ≡ true → text ≡ by_terminal.Close ∷ tail_of text
close_text [] e = absurd cc
close_text (by_terminal.Close ∷ rest) e = refl
close_text (_ ∷ rest) e = absurd cc

pub and_mark : IsMark And by_terminal.And
and_mark = (refl, and_text)

pub or_mark : IsMark Or by_terminal.Or
or_mark = (refl, or_text)

pub over_mark : IsMark Over by_terminal.Over
over_mark = (refl, over_text)

pub comma_mark : IsMark Comma by_terminal.Comma
comma_mark = (refl, comma_text)

pub open_mark : IsMark Open by_terminal.Open
open_mark = (refl, open_text)

pub close_mark : IsMark Close by_terminal.Close
close_mark = (refl, close_text)

pub taken : (w : Wanted) (m : Terminal) → IsMark w m → (text rest : List Terminal) → take w text ≡ Some rest → text ≡ m ∷ rest
taken w m mark text rest e = by_test (begins w text) refl where
  by_test : (b : Bool) → begins w text ≡ b → text ≡ m ∷ rest
  by_test true f =
      let same : tail_of text ≡ rest = same_Some (tail_of text) rest (sym (ap (λ (b : Bool). cond b (Some (tail_of text)) None) f) ∙ e) in
      mark.1 text f ∙ ap (λ (t : List Terminal). m ∷ t) same
  by_test false f = absurd (none-some rest (sym (ap (λ (b : Bool). cond b (Some (tail_of text)) None) f) ∙ e))

pub no_zero : (n : ℕ) → n ≢ 0 → eqb n 0 ≡ false
no_zero n h = by_test (eqb n 0) refl where
  by_test : (b : Bool) → eqb n 0 ≡ b → b ≡ false
  by_test true e = absurd (h (eqb-true n 0 e))
  by_test false e = refl

some_more : (n : ℕ) → n ≢ 0 → 0 < n
some_more zero h = absurd (h refl)
some_more (suc n) h = omega arith

-- a parenthesis, where one more may be opened
pub is_opened : (deeper : ℕ) (text rest : List Terminal) → opened deeper text ≡ Some rest → (0 < deeper) × (text ≡ by_terminal.Open ∷ rest)
is_opened deeper text rest e = by_test (eqb deeper 0) refl where
  by_test : (b : Bool) → eqb deeper 0 ≡ b → (0 < deeper) × (text ≡ by_terminal.Open ∷ rest)
  by_test true f = absurd (none-some rest (sym (ap (λ (b : Bool). cond b None (take Open text)) f) ∙ e))
  by_test false f =
      (some_more deeper (eqb-false deeper 0 f), taken Open by_terminal.Open open_mark text rest (sym (ap (λ (b : Bool). cond b None (take Open text)) f) ∙ e))

pub opens : (deeper : ℕ) (rest : List Terminal) → 0 < deeper → opened deeper (by_terminal.Open ∷ rest) ≡ Some rest
opens deeper rest h = by_test (eqb deeper 0) refl where
  by_test : (b : Bool) → eqb deeper 0 ≡ b → cond b None (Some rest) ≡ Some rest
  by_test true f = absurd (omega (arith, h, eqb-true deeper 0 f))
  by_test false f = refl

-- ---- names and numbers

pub name_taken : (text rest : List Terminal) (n : Spelled) → take_name text ≡ Some (n, rest) → text ≡ by_terminal.Name n ∷ rest
name_taken [] rest n e = absurd cc
name_taken (by_terminal.Name m ∷ others) rest n e =
    let here : Spelled × List Terminal = (m, others) in
    let there : Spelled × List Terminal = (n, rest) in
    ap (λ (x : Spelled × List Terminal). by_terminal.Name x.0 ∷ x.1) (same_Some here there e)
name_taken (_ ∷ others) rest n e = absurd cc

pub number_taken : (text rest : List Terminal) (n : numbers.Number) → take_number text ≡ Some (n, rest) → text ≡ by_terminal.Number n ∷ rest
number_taken [] rest n e = absurd cc
number_taken (by_terminal.Number m ∷ others) rest n e =
    let here : numbers.Number × List Terminal = (m, others) in
    let there : numbers.Number × List Terminal = (n, rest) in
    ap (λ (x : numbers.Number × List Terminal). by_terminal.Number x.0 ∷ x.1) (same_Some here there e)
number_taken (_ ∷ others) rest n e = absurd cc

-- a number and its sign, and what follows them
abbrev Signed : Type 0
Signed = SignedNumber × List Terminal

abbrev written_before : Signed → List Terminal
written_before x = written_number x.0 ++ x.1

signed_as : (sign : Option by_sign.Sign) (m : numbers.Number) (others rest : List Terminal) (n : SignedNumber) → giving (signed sign m) others ≡ giving n rest
    → (written_sign sign ++ by_terminal.Number m ∷ []) ++ others ≡ written_number n ++ rest
signed_as sign m others rest n e =
    let here : Signed = (signed sign m, others) in
    let there : Signed = (n, rest) in
    ap written_before (same_Some here there e)

pub signed_taken : (text rest : List Terminal) (n : SignedNumber) → signed_number text ≡ Some (n, rest) → text ≡ written_number n ++ rest
signed_taken [] rest n e = absurd cc
signed_taken (by_terminal.Number m ∷ others) rest n e = signed_as None m others rest n e
signed_taken (by_terminal.Sign signs.Plus ∷ by_terminal.Number m ∷ others) rest n e = signed_as (Some signs.Plus) m others rest n e
signed_taken (by_terminal.Sign signs.Minus ∷ by_terminal.Number m ∷ others) rest n e = signed_as (Some signs.Minus) m others rest n e
signed_taken (by_terminal.Sign signs.Plus ∷ _) rest n e = absurd cc
signed_taken (by_terminal.Sign signs.Minus ∷ _) rest n e = absurd cc
signed_taken (_ ∷ others) rest n e = absurd cc

pub signed_read : (n : SignedNumber) (rest : List Terminal) → signed_number (written_number n ++ rest) ≡ Some (n, rest)
signed_read n rest = by (n.sign) where
  by : (sign : Option by_sign.Sign) → signed_number ((written_sign sign ++ by_terminal.Number n.number ∷ []) ++ rest) ≡ Some (signed sign n.number, rest)
  by None = refl
  by (Some signs.Plus) = refl
  by (Some signs.Minus) = refl

-- a mark that compares
pub mark_at : (text : List Terminal) (c : Comparison) → comparison_at text ≡ Some c → (mark : Terminal) × (text ≡ mark ∷ tail_of text) × (comparison_of mark ≡ Some c)
mark_at [] c e = absurd cc
mark_at (t ∷ rest) c e = (t, refl, e)

pub compares_nothing_else : (mark : Terminal) (c : Comparison) → comparison_of mark ≡ Some c → is_wanted Over mark ≡ false
compares_nothing_else by_terminal.Equals c e = refl
compares_nothing_else (by_terminal.Comparison d) c e = refl
compares_nothing_else _ c e = absurd cc
