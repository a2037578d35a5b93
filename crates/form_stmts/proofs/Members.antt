-- The elements of a set are read exactly where they are such.
use Rattle.std.proofs.Common.{◌≡◌, List, [], ◌∷◌, ◌++◌, Option, Some, None, Result, refl, sym, ap, subst, ◌∙◌, append_assoc}
use Rattle.std.specs.Prelude.{IfOk, IfErr}
use Rattle.std.proofs.lemmas.List.{append-nil}
use Rattle.std.proofs.lemmas.Option.{same_Some}
use Rattle.form_ast.specs.declared.expr.Sign.{Sign}
use Rattle.form_number.specs.declared.number.Number.{Number}
use Rattle.form_ast.specs.declared.expr.SignedNumber.{SignedNumber}
use Rattle.form_ast.specs.declared.expr.Spelled.{Spelled}
use Rattle.form_ast.specs.declared.statement.WrittenElements.{WrittenElements}
use Rattle.form_ast.specs.declared.statement.WrittenElements.TheVariants as written_as
use Rattle.form_grammar.specs.declared.error.ReadError.{ReadError}
use Rattle.form_grammar.specs.declared.terminal.Terminal.{Terminal}
use Rattle.form_grammar.specs.declared.terminal.Terminal.TheVariants as by_terminal
use Rattle.form_grammar.specs.Grammar.{further_names, written_number, further_numbers, written_elements}
use Rattle.form_grammar.specs.Reading.{Gives, Excludes}
use Rattle.form_stmts.specs.declared.elements.Place.TheVariants as place
use Rattle.form_stmts.specs.Elements.{elements_from}
use Rattle.form_stmts.specs.Statement.{HasElements, AreElements}
use Rattle.form_stmts.proofs.Either.{IsOrNot, IsOne, found_by, none_by, one_by, or_not_by}

abbrev signed : Option Sign → Number → SignedNumber
signed sign number = record { sign = sign; number = number }

-- further names, behind those that are read
record AreFurtherNames (names : List Spelled) (terminals : List Terminal) (out : WrittenElements) : Type 0 where
  others : List Spelled
  written : terminals ≡ further_names others
  kept : out ≡ written_as.Names (names ++ others)

-- further numbers, behind those that are read
record AreFurtherNumbers (numbers : List SignedNumber) (terminals : List Terminal) (out : WrittenElements) : Type 0 where
  others : List SignedNumber
  written : terminals ≡ further_numbers others
  kept : out ≡ written_as.Numbers (numbers ++ others)

-- nothing was added
same_names : (names : List Spelled) (terminals : List Terminal) (out : WrittenElements) → AreFurtherNames (names ++ []) terminals out → AreFurtherNames names terminals out
same_names names terminals out h = record {
  others = h.others;
  written = h.written;
  kept = h.kept ∙ ap (λ (front : List Spelled). written_as.Names (front ++ h.others)) (append-nil names);
}

same_numbers : (numbers : List SignedNumber) (terminals : List Terminal) (out : WrittenElements) → AreFurtherNumbers (numbers ++ []) terminals out → AreFurtherNumbers numbers terminals out
same_numbers numbers terminals out h = record {
  others = h.others;
  written = h.written;
  kept = h.kept ∙ ap (λ (front : List SignedNumber). written_as.Numbers (front ++ h.others)) (append-nil numbers);
}

one_name : (n : Spelled) (names : List Spelled) (terminals : List Terminal) (out : WrittenElements) → AreFurtherNames (names ++ n ∷ []) terminals out
    → AreFurtherNames names (by_terminal.Comma ∷ by_terminal.Name n ∷ terminals) out
one_name n names terminals out h = record {
  others = n ∷ h.others;
  written = ap (λ (t : List Terminal). by_terminal.Comma ∷ by_terminal.Name n ∷ t) h.written;
  kept = h.kept ∙ ap (λ (all : List Spelled). written_as.Names all) (append_assoc names (n ∷ []) h.others);
}

one_number : (n : SignedNumber) (numbers : List SignedNumber) (front terminals : List Terminal) (out : WrittenElements) → front ≡ by_terminal.Comma ∷ written_number n ++ terminals
    → AreFurtherNumbers (numbers ++ n ∷ []) terminals out → AreFurtherNumbers numbers front out
one_number n numbers front terminals out e h = record {
  others = n ∷ h.others;
  written = e ∙ ap (λ (t : List Terminal). by_terminal.Comma ∷ written_number n ++ t) h.written;
  kept = h.kept ∙ ap (λ (all : List SignedNumber). written_as.Numbers all) (append_assoc numbers (n ∷ []) h.others);
}

-- ---- what is read is written so

mutual
  unfolding elements_from

  after_name : (terminals : List Terminal) (names : List Spelled) (numbers : List SignedNumber) (out : WrittenElements) → elements_from place.Name names numbers terminals ≡ Some out → AreFurtherNames names terminals out
  after_name [] names numbers out e = record {
    others = [];
    written = refl;
    kept = sym (same_Some (written_as.Names names) out e) ∙ ap (λ (all : List Spelled). written_as.Names all) (sym (append-nil names));
  }
  after_name (by_terminal.Comma ∷ rest) names numbers out e =
      same_names names (by_terminal.Comma ∷ rest) out (behind_name rest (names ++ []) (numbers ++ []) out e)
  after_name (by_terminal.Number m ∷ rest) names numbers out e = absurd cc
  after_name (by_terminal.Name m ∷ rest) names numbers out e = absurd cc
  after_name (by_terminal.Imaginary m ∷ rest) names numbers out e = absurd cc
  after_name (by_terminal.Delta m ∷ rest) names numbers out e = absurd cc
  after_name (by_terminal.Sign m ∷ rest) names numbers out e = absurd cc
  after_name (by_terminal.Times ∷ rest) names numbers out e = absurd cc
  after_name (by_terminal.Over ∷ rest) names numbers out e = absurd cc
  after_name (by_terminal.Raise ∷ rest) names numbers out e = absurd cc
  after_name (by_terminal.Open ∷ rest) names numbers out e = absurd cc
  after_name (by_terminal.Close ∷ rest) names numbers out e = absurd cc
  after_name (by_terminal.Period ∷ rest) names numbers out e = absurd cc
  after_name (by_terminal.Equals ∷ rest) names numbers out e = absurd cc
  after_name (by_terminal.Question ∷ rest) names numbers out e = absurd cc
  after_name (by_terminal.OpenBrace ∷ rest) names numbers out e = absurd cc
  after_name (by_terminal.CloseBrace ∷ rest) names numbers out e = absurd cc
  after_name (by_terminal.Colon ∷ rest) names numbers out e = absurd cc
  after_name (by_terminal.And ∷ rest) names numbers out e = absurd cc
  after_name (by_terminal.Or ∷ rest) names numbers out e = absurd cc
  after_name ((by_terminal.Comparison m) ∷ rest) names numbers out e = absurd cc
  after_name (by_terminal.Other ∷ rest) names numbers out e = absurd cc

  behind_name : (terminals : List Terminal) (names : List Spelled) (numbers : List SignedNumber) (out : WrittenElements) → elements_from place.BehindName names numbers terminals ≡ Some out → AreFurtherNames names (by_terminal.Comma ∷ terminals) out
  behind_name [] names numbers out e = absurd cc
  behind_name (by_terminal.Name n ∷ rest) names numbers out e = one_name n names rest out (after_name rest (names ++ n ∷ []) (numbers ++ []) out e)
  behind_name (by_terminal.Number m ∷ rest) names numbers out e = absurd cc
  behind_name (by_terminal.Imaginary m ∷ rest) names numbers out e = absurd cc
  behind_name (by_terminal.Delta m ∷ rest) names numbers out e = absurd cc
  behind_name (by_terminal.Sign m ∷ rest) names numbers out e = absurd cc
  behind_name (by_terminal.Times ∷ rest) names numbers out e = absurd cc
  behind_name (by_terminal.Over ∷ rest) names numbers out e = absurd cc
  behind_name (by_terminal.Raise ∷ rest) names numbers out e = absurd cc
  behind_name (by_terminal.Open ∷ rest) names numbers out e = absurd cc
  behind_name (by_terminal.Close ∷ rest) names numbers out e = absurd cc
  behind_name (by_terminal.Comma ∷ rest) names numbers out e = absurd cc
  behind_name (by_terminal.Period ∷ rest) names numbers out e = absurd cc
  behind_name (by_terminal.Equals ∷ rest) names numbers out e = absurd cc
  behind_name (by_terminal.Question ∷ rest) names numbers out e = absurd cc
  behind_name (by_terminal.OpenBrace ∷ rest) names numbers out e = absurd cc
  behind_name (by_terminal.CloseBrace ∷ rest) names numbers out e = absurd cc
  behind_name (by_terminal.Colon ∷ rest) names numbers out e = absurd cc
  behind_name (by_terminal.And ∷ rest) names numbers out e = absurd cc
  behind_name (by_terminal.Or ∷ rest) names numbers out e = absurd cc
  behind_name ((by_terminal.Comparison m) ∷ rest) names numbers out e = absurd cc
  behind_name (by_terminal.Other ∷ rest) names numbers out e = absurd cc

mutual
  unfolding elements_from

  after_number : (terminals : List Terminal) (names : List Spelled) (numbers : List SignedNumber) (out : WrittenElements) → elements_from place.Number names numbers terminals ≡ Some out → AreFurtherNumbers numbers terminals out
  after_number [] names numbers out e = record {
    others = [];
    written = refl;
    kept = sym (same_Some (written_as.Numbers numbers) out e) ∙ ap (λ (all : List SignedNumber). written_as.Numbers all) (sym (append-nil numbers));
  }
  after_number (by_terminal.Comma ∷ rest) names numbers out e =
      same_numbers numbers (by_terminal.Comma ∷ rest) out (behind_number rest (names ++ []) (numbers ++ []) out e)
  after_number (by_terminal.Number m ∷ rest) names numbers out e = absurd cc
  after_number (by_terminal.Name m ∷ rest) names numbers out e = absurd cc
  after_number (by_terminal.Imaginary m ∷ rest) names numbers out e = absurd cc
  after_number (by_terminal.Delta m ∷ rest) names numbers out e = absurd cc
  after_number (by_terminal.Sign m ∷ rest) names numbers out e = absurd cc
  after_number (by_terminal.Times ∷ rest) names numbers out e = absurd cc
  after_number (by_terminal.Over ∷ rest) names numbers out e = absurd cc
  after_number (by_terminal.Raise ∷ rest) names numbers out e = absurd cc
  after_number (by_terminal.Open ∷ rest) names numbers out e = absurd cc
  after_number (by_terminal.Close ∷ rest) names numbers out e = absurd cc
  after_number (by_terminal.Period ∷ rest) names numbers out e = absurd cc
  after_number (by_terminal.Equals ∷ rest) names numbers out e = absurd cc
  after_number (by_terminal.Question ∷ rest) names numbers out e = absurd cc
  after_number (by_terminal.OpenBrace ∷ rest) names numbers out e = absurd cc
  after_number (by_terminal.CloseBrace ∷ rest) names numbers out e = absurd cc
  after_number (by_terminal.Colon ∷ rest) names numbers out e = absurd cc
  after_number (by_terminal.And ∷ rest) names numbers out e = absurd cc
  after_number (by_terminal.Or ∷ rest) names numbers out e = absurd cc
  after_number ((by_terminal.Comparison m) ∷ rest) names numbers out e = absurd cc
  after_number (by_terminal.Other ∷ rest) names numbers out e = absurd cc

  behind_number : (terminals : List Terminal) (names : List Spelled) (numbers : List SignedNumber) (out : WrittenElements) → elements_from place.BehindNumber names numbers terminals ≡ Some out → AreFurtherNumbers numbers (by_terminal.Comma ∷ terminals) out
  behind_number [] names numbers out e = absurd cc
  behind_number (by_terminal.Number n ∷ rest) names numbers out e =
      one_number (signed None n) numbers (by_terminal.Comma ∷ by_terminal.Number n ∷ rest) rest out refl (after_number rest (names ++ []) (numbers ++ signed None n ∷ []) out e)
  behind_number (by_terminal.Sign sign ∷ rest) names numbers out e =
      same_numbers numbers (by_terminal.Comma ∷ by_terminal.Sign sign ∷ rest) out (after_sign rest sign (names ++ []) (numbers ++ []) out e)
  behind_number (by_terminal.Name m ∷ rest) names numbers out e = absurd cc
  behind_number (by_terminal.Imaginary m ∷ rest) names numbers out e = absurd cc
  behind_number (by_terminal.Delta m ∷ rest) names numbers out e = absurd cc
  behind_number (by_terminal.Times ∷ rest) names numbers out e = absurd cc
  behind_number (by_terminal.Over ∷ rest) names numbers out e = absurd cc
  behind_number (by_terminal.Raise ∷ rest) names numbers out e = absurd cc
  behind_number (by_terminal.Open ∷ rest) names numbers out e = absurd cc
  behind_number (by_terminal.Close ∷ rest) names numbers out e = absurd cc
  behind_number (by_terminal.Comma ∷ rest) names numbers out e = absurd cc
  behind_number (by_terminal.Period ∷ rest) names numbers out e = absurd cc
  behind_number (by_terminal.Equals ∷ rest) names numbers out e = absurd cc
  behind_number (by_terminal.Question ∷ rest) names numbers out e = absurd cc
  behind_number (by_terminal.OpenBrace ∷ rest) names numbers out e = absurd cc
  behind_number (by_terminal.CloseBrace ∷ rest) names numbers out e = absurd cc
  behind_number (by_terminal.Colon ∷ rest) names numbers out e = absurd cc
  behind_number (by_terminal.And ∷ rest) names numbers out e = absurd cc
  behind_number (by_terminal.Or ∷ rest) names numbers out e = absurd cc
  behind_number ((by_terminal.Comparison m) ∷ rest) names numbers out e = absurd cc
  behind_number (by_terminal.Other ∷ rest) names numbers out e = absurd cc

  after_sign : (terminals : List Terminal) (sign : Sign) (names : List Spelled) (numbers : List SignedNumber) (out : WrittenElements) → elements_from (place.Sign sign) names numbers terminals ≡ Some out
      → AreFurtherNumbers numbers (by_terminal.Comma ∷ by_terminal.Sign sign ∷ terminals) out
  after_sign [] sign names numbers out e = absurd cc
  after_sign (by_terminal.Number n ∷ rest) sign names numbers out e =
      one_number (signed (Some sign) n) numbers (by_terminal.Comma ∷ by_terminal.Sign sign ∷ by_terminal.Number n ∷ rest) rest out refl (after_number rest (names ++ []) (numbers ++ signed (Some sign) n ∷ []) out e)
  after_sign (by_terminal.Name m ∷ rest) sign names numbers out e = absurd cc
  after_sign (by_terminal.Imaginary m ∷ rest) sign names numbers out e = absurd cc
  after_sign (by_terminal.Delta m ∷ rest) sign names numbers out e = absurd cc
  after_sign (by_terminal.Sign m ∷ rest) sign names numbers out e = absurd cc
  after_sign (by_terminal.Times ∷ rest) sign names numbers out e = absurd cc
  after_sign (by_terminal.Over ∷ rest) sign names numbers out e = absurd cc
  after_sign (by_terminal.Raise ∷ rest) sign names numbers out e = absurd cc
  after_sign (by_terminal.Open ∷ rest) sign names numbers out e = absurd cc
  after_sign (by_terminal.Close ∷ rest) sign names numbers out e = absurd cc
  after_sign (by_terminal.Comma ∷ rest) sign names numbers out e = absurd cc
  after_sign (by_terminal.Period ∷ rest) sign names numbers out e = absurd cc
  after_sign (by_terminal.Equals ∷ rest) sign names numbers out e = absurd cc
  after_sign (by_terminal.Question ∷ rest) sign names numbers out e = absurd cc
  after_sign (by_terminal.OpenBrace ∷ rest) sign names numbers out e = absurd cc
  after_sign (by_terminal.CloseBrace ∷ rest) sign names numbers out e = absurd cc
  after_sign (by_terminal.Colon ∷ rest) sign names numbers out e = absurd cc
  after_sign (by_terminal.And ∷ rest) sign names numbers out e = absurd cc
  after_sign (by_terminal.Or ∷ rest) sign names numbers out e = absurd cc
  after_sign ((by_terminal.Comparison m) ∷ rest) sign names numbers out e = absurd cc
  after_sign (by_terminal.Other ∷ rest) sign names numbers out e = absurd cc

abbrev behind_first : List Terminal → List Terminal
behind_first [] = []
behind_first (t ∷ rest) = rest

-- what stands behind a comma stands alone
names_alone : (terminals : List Terminal) (out : WrittenElements) → AreFurtherNames [] (by_terminal.Comma ∷ terminals) out → AreElements terminals out
names_alone terminals out h = by_others h.others h.written h.kept where
  by_others : (others : List Spelled) → by_terminal.Comma ∷ terminals ≡ further_names others → out ≡ written_as.Names others → AreElements terminals out
  by_others [] e k = absurd cc
  by_others (n ∷ ns) e k = (ap behind_first e ∙ ap written_elements (sym k), subst HasElements (sym k) tt)

numbers_alone : (terminals : List Terminal) (out : WrittenElements) → AreFurtherNumbers [] (by_terminal.Comma ∷ terminals) out → AreElements terminals out
numbers_alone terminals out h = by_others h.others h.written h.kept where
  by_others : (others : List SignedNumber) → by_terminal.Comma ∷ terminals ≡ further_numbers others → out ≡ written_as.Numbers others → AreElements terminals out
  by_others [] e k = absurd cc
  by_others (n ∷ ns) e k = (ap behind_first e ∙ ap written_elements (sym k), subst HasElements (sym k) tt)

elements_sound : (terminals : List Terminal) (out : WrittenElements) → elements_from place.Start [] [] terminals ≡ Some out → AreElements terminals out
unfolding elements_from
elements_sound [] out e = absurd cc
elements_sound (by_terminal.Name n ∷ rest) out e = names_alone (by_terminal.Name n ∷ rest) out (behind_name (by_terminal.Name n ∷ rest) [] [] out e)
elements_sound (by_terminal.Number n ∷ rest) out e = numbers_alone (by_terminal.Number n ∷ rest) out (behind_number (by_terminal.Number n ∷ rest) [] [] out e)
elements_sound (by_terminal.Sign sign ∷ rest) out e = numbers_alone (by_terminal.Sign sign ∷ rest) out (behind_number (by_terminal.Sign sign ∷ rest) [] [] out e)
elements_sound (by_terminal.Imaginary m ∷ rest) out e = absurd cc
elements_sound (by_terminal.Delta m ∷ rest) out e = absurd cc
elements_sound (by_terminal.Times ∷ rest) out e = absurd cc
elements_sound (by_terminal.Over ∷ rest) out e = absurd cc
elements_sound (by_terminal.Raise ∷ rest) out e = absurd cc
elements_sound (by_terminal.Open ∷ rest) out e = absurd cc
elements_sound (by_terminal.Close ∷ rest) out e = absurd cc
elements_sound (by_terminal.Comma ∷ rest) out e = absurd cc
elements_sound (by_terminal.Period ∷ rest) out e = absurd cc
elements_sound (by_terminal.Equals ∷ rest) out e = absurd cc
elements_sound (by_terminal.Question ∷ rest) out e = absurd cc
elements_sound (by_terminal.OpenBrace ∷ rest) out e = absurd cc
elements_sound (by_terminal.CloseBrace ∷ rest) out e = absurd cc
elements_sound (by_terminal.Colon ∷ rest) out e = absurd cc
elements_sound (by_terminal.And ∷ rest) out e = absurd cc
elements_sound (by_terminal.Or ∷ rest) out e = absurd cc
elements_sound ((by_terminal.Comparison m) ∷ rest) out e = absurd cc
elements_sound (by_terminal.Other ∷ rest) out e = absurd cc

-- ---- what is written so is read

added_name : (names : List Spelled) (n : Spelled) (others : List Spelled) → ((names ++ []) ++ n ∷ []) ++ others ≡ names ++ n ∷ others
added_name names n others = append_assoc (names ++ []) (n ∷ []) others ∙ ap (λ (front : List Spelled). front ++ n ∷ others) (append-nil names)

added_number : (numbers : List SignedNumber) (n : SignedNumber) (others : List SignedNumber) → (numbers ++ n ∷ []) ++ others ≡ numbers ++ n ∷ others
added_number numbers n others = append_assoc numbers (n ∷ []) others

names_read : (others : List Spelled) (names : List Spelled) (numbers : List SignedNumber) → elements_from place.Name names numbers (further_names others) ≡ Some (written_as.Names (names ++ others))
unfolding elements_from
names_read [] names numbers = ap (λ (all : List Spelled). Some (written_as.Names all)) (sym (append-nil names))
names_read (n ∷ ns) names numbers =
    names_read ns ((names ++ []) ++ n ∷ []) ((numbers ++ []) ++ []) ∙ ap (λ (all : List Spelled). Some (written_as.Names all)) (added_name names n ns)

-- one number and further ones, behind a comma
abbrev AreRead : List SignedNumber → Type 0
AreRead others = (names : List Spelled) (numbers : List SignedNumber) → elements_from place.Number names numbers (further_numbers others) ≡ Some (written_as.Numbers (numbers ++ others))

number_read : (sign : Option Sign) (n : Number) (others : List SignedNumber) → AreRead others → (names : List Spelled) (numbers : List SignedNumber)
    → elements_from place.BehindNumber names numbers (written_number (signed sign n) ++ further_numbers others) ≡ Some (written_as.Numbers (numbers ++ signed sign n ∷ others))
unfolding elements_from
number_read None n others more names numbers =
    more (names ++ []) (numbers ++ signed None n ∷ []) ∙ ap (λ (all : List SignedNumber). Some (written_as.Numbers all)) (added_number numbers (signed None n) others)
number_read (Some sign) n others more names numbers =
    more ((names ++ []) ++ []) ((numbers ++ []) ++ signed (Some sign) n ∷ [])
    ∙ ap (λ (all : List SignedNumber). Some (written_as.Numbers all)) (added_number (numbers ++ []) (signed (Some sign) n) others)
    ∙ ap (λ (front : List SignedNumber). Some (written_as.Numbers (front ++ signed (Some sign) n ∷ others))) (append-nil numbers)

numbers_read : (others : List SignedNumber) → AreRead others
unfolding elements_from
numbers_read [] names numbers = ap (λ (all : List SignedNumber). Some (written_as.Numbers all)) (sym (append-nil numbers))
numbers_read (n ∷ ns) names numbers =
    number_read n.sign n.number ns (numbers_read ns) (names ++ []) (numbers ++ [])
    ∙ ap (λ (front : List SignedNumber). Some (written_as.Numbers (front ++ n ∷ ns))) (append-nil numbers)

-- a number at the start is read as one behind a comma
at_start : (sign : Option Sign) (n : Number) (rest : List Terminal) → elements_from place.Start [] [] (written_number (signed sign n) ++ rest) ≡ elements_from place.BehindNumber [] [] (written_number (signed sign n) ++ rest)
unfolding elements_from
at_start None n rest = refl
at_start (Some sign) n rest = refl

elements_complete : (terminals : List Terminal) (out : WrittenElements) → AreElements terminals out → elements_from place.Start [] [] terminals ≡ Some out
unfolding elements_from
elements_complete terminals (written_as.Names []) h = absurd h.1
elements_complete terminals (written_as.Names (n ∷ ns)) h = ap (elements_from place.Start [] []) h.0 ∙ names_read ns (n ∷ []) []
elements_complete terminals (written_as.Numbers []) h = absurd h.1
elements_complete terminals (written_as.Numbers (n ∷ ns)) h =
    ap (elements_from place.Start [] []) h.0 ∙ at_start n.sign n.number (further_numbers ns) ∙ number_read n.sign n.number ns (numbers_read ns) [] []

-- ---- what that gives

module _ (r : Result WrittenElements ReadError) (terminals : List Terminal) (e : Gives (λ x. x) r (elements_from place.Start [] [] terminals)) where
  pub elements_found : IfOk r (λ x. AreElements terminals x)
  elements_found = found_by AreElements (elements_from place.Start [] []) elements_sound elements_complete r terminals e

  pub elements_none : IfErr r (λ error. Excludes error (AreElements terminals))
  elements_none = none_by AreElements (elements_from place.Start [] []) elements_sound elements_complete r terminals e

module _ (terminals : List Terminal) where
  pub one_elements : IsOne (AreElements terminals)
  one_elements = one_by AreElements (elements_from place.Start [] []) elements_sound elements_complete terminals

  pub elements_or_not : IsOrNot (AreElements terminals)
  elements_or_not = or_not_by AreElements (elements_from place.Start [] []) elements_sound elements_complete terminals
