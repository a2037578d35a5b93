-- Names are read exactly where they are names.
use Rattle.std.proofs.Common.{◌≡◌, ◌⊎◌, inl, inr, Bool, true, false, List, [], ◌∷◌, ◌++◌, map, Option, Some, None, Result, Ok, Err, refl, sym, ap, ◌∙◌, append_assoc}
use Rattle.std.specs.Prelude.{flat_map, IfOk, IfErr}
use Rattle.std.proofs.lemmas.List.{append-nil}
use Rattle.std.proofs.lemmas.Option.{same_Some, none-some}
use Rattle.form_ast.specs.declared.expr.Spelled.{Spelled}
use Rattle.form_grammar.specs.declared.error.ReadError.{ReadError}
use Rattle.form_grammar.specs.declared.error.ReadError.TheVariants.{BadSyntax, Memory}
use Rattle.form_grammar.specs.declared.terminal.Terminal.{Terminal}
use Rattle.form_grammar.specs.declared.terminal.Terminal.TheVariants as by_terminal
use Rattle.form_grammar.specs.Reading.{Gives, Excludes}
use Rattle.form_stmts.specs.declared.names.Last.TheVariants.{Nothing, Name, Comma}
use Rattle.form_stmts.specs.Reading.{names_from}
use Rattle.form_stmts.specs.Statement.{Further, written_further, AreNames, AreNamesOrNone}

abbrev spelled : Further → Spelled
spelled f = f.name

-- further names, behind those that are read
pub record AreFurther (names : List Spelled) (terminals : List Terminal) (out : List Spelled) : Type 0 where
  pub others : List Further
  pub written : terminals ≡ flat_map written_further others
  pub kept : out ≡ names ++ map spelled others

one_further : (has_comma : Bool) (n : Spelled) (names : List Spelled) (front rest : List Terminal) (out : List Spelled) → front ≡ written_further (record { has_comma = has_comma; name = n }) ++ rest
    → AreFurther (names ++ n ∷ []) rest out → AreFurther names front out
one_further has_comma n names front rest out e h = record {
  others = record { has_comma = has_comma; name = n } ∷ h.others;
  written = e ∙ ap (λ (t : List Terminal). written_further (record { has_comma = has_comma; name = n }) ++ t) h.written;
  kept = h.kept ∙ append_assoc names (n ∷ []) (map spelled h.others);
}

mutual
  unfolding names_from

  after_name : (terminals : List Terminal) (may_be_none : Bool) (names out : List Spelled) → names_from may_be_none Name names terminals ≡ Some out → AreFurther names terminals out
  after_name [] may_be_none names out e = record { others = []; written = refl; kept = sym (same_Some names out e) ∙ sym (append-nil names) }
  after_name (by_terminal.Name n ∷ rest) may_be_none names out e = one_further false n names (by_terminal.Name n ∷ rest) rest out refl (after_name rest may_be_none (names ++ n ∷ []) out e)
  after_name (by_terminal.Comma ∷ rest) may_be_none names out e = after_a_comma rest may_be_none names out e
  after_name (by_terminal.Number n ∷ rest) may_be_none names out e = absurd cc
  after_name (by_terminal.Sign n ∷ rest) may_be_none names out e = absurd cc
  after_name (by_terminal.Times ∷ rest) may_be_none names out e = absurd cc
  after_name (by_terminal.Over ∷ rest) may_be_none names out e = absurd cc
  after_name (by_terminal.Raise ∷ rest) may_be_none names out e = absurd cc
  after_name (by_terminal.Open ∷ rest) may_be_none names out e = absurd cc
  after_name (by_terminal.Close ∷ rest) may_be_none names out e = absurd cc
  after_name (by_terminal.Equals ∷ rest) may_be_none names out e = absurd cc
  after_name (by_terminal.And ∷ rest) may_be_none names out e = absurd cc
  after_name (by_terminal.Or ∷ rest) may_be_none names out e = absurd cc
  after_name ((by_terminal.Comparison m) ∷ rest) may_be_none names out e = absurd cc
  after_name (by_terminal.Other ∷ rest) may_be_none names out e = absurd cc
  after_name (by_terminal.Question ∷ rest) may_be_none names out e = absurd cc
  after_name (by_terminal.OpenBrace ∷ rest) may_be_none names out e = absurd cc
  after_name (by_terminal.CloseBrace ∷ rest) may_be_none names out e = absurd cc
  after_name (by_terminal.Colon ∷ rest) may_be_none names out e = absurd cc
  after_name (by_terminal.Imaginary n ∷ rest) may_be_none names out e = absurd cc
  after_name (by_terminal.Delta n ∷ rest) may_be_none names out e = absurd cc
  after_name (by_terminal.Period ∷ rest) may_be_none names out e = absurd cc

  after_a_comma : (terminals : List Terminal) (may_be_none : Bool) (names out : List Spelled) → names_from may_be_none Comma names terminals ≡ Some out → AreFurther names (by_terminal.Comma ∷ terminals) out
  after_a_comma [] may_be_none names out e = absurd cc
  after_a_comma (by_terminal.Name n ∷ rest) may_be_none names out e = one_further true n names (by_terminal.Comma ∷ by_terminal.Name n ∷ rest) rest out refl (after_name rest may_be_none (names ++ n ∷ []) out e)
  after_a_comma (by_terminal.Comma ∷ rest) may_be_none names out e = absurd cc
  after_a_comma (by_terminal.Number n ∷ rest) may_be_none names out e = absurd cc
  after_a_comma (by_terminal.Sign n ∷ rest) may_be_none names out e = absurd cc
  after_a_comma (by_terminal.Times ∷ rest) may_be_none names out e = absurd cc
  after_a_comma (by_terminal.Over ∷ rest) may_be_none names out e = absurd cc
  after_a_comma (by_terminal.Raise ∷ rest) may_be_none names out e = absurd cc
  after_a_comma (by_terminal.Open ∷ rest) may_be_none names out e = absurd cc
  after_a_comma (by_terminal.Close ∷ rest) may_be_none names out e = absurd cc
  after_a_comma (by_terminal.Equals ∷ rest) may_be_none names out e = absurd cc
  after_a_comma (by_terminal.And ∷ rest) may_be_none names out e = absurd cc
  after_a_comma (by_terminal.Or ∷ rest) may_be_none names out e = absurd cc
  after_a_comma ((by_terminal.Comparison m) ∷ rest) may_be_none names out e = absurd cc
  after_a_comma (by_terminal.Other ∷ rest) may_be_none names out e = absurd cc
  after_a_comma (by_terminal.Question ∷ rest) may_be_none names out e = absurd cc
  after_a_comma (by_terminal.OpenBrace ∷ rest) may_be_none names out e = absurd cc
  after_a_comma (by_terminal.CloseBrace ∷ rest) may_be_none names out e = absurd cc
  after_a_comma (by_terminal.Colon ∷ rest) may_be_none names out e = absurd cc
  after_a_comma (by_terminal.Imaginary n ∷ rest) may_be_none names out e = absurd cc
  after_a_comma (by_terminal.Delta n ∷ rest) may_be_none names out e = absurd cc
  after_a_comma (by_terminal.Period ∷ rest) may_be_none names out e = absurd cc

-- what is read from the start, where there is something
from_start : (terminals : List Terminal) (may_be_none : Bool) (out : List Spelled) → names_from may_be_none Nothing [] terminals ≡ Some out
    → ((terminals ≡ []) × (may_be_none ≡ true) × (out ≡ [])) ⊎ AreNames terminals out
unfolding names_from
from_start [] true out e = inl (refl, refl, sym (same_Some [] out e))
from_start [] false out e = absurd cc
from_start (by_terminal.Name n ∷ rest) may_be_none out e =
    let h = after_name rest may_be_none (n ∷ []) out e in
    inr (record { first = n; others = h.others; written = ap (λ (t : List Terminal). by_terminal.Name n ∷ t) h.written; kept = h.kept })
from_start (by_terminal.Comma ∷ rest) may_be_none out e = absurd cc
from_start (by_terminal.Number n ∷ rest) may_be_none out e = absurd cc
from_start (by_terminal.Sign n ∷ rest) may_be_none out e = absurd cc
from_start (by_terminal.Times ∷ rest) may_be_none out e = absurd cc
from_start (by_terminal.Over ∷ rest) may_be_none out e = absurd cc
from_start (by_terminal.Raise ∷ rest) may_be_none out e = absurd cc
from_start (by_terminal.Open ∷ rest) may_be_none out e = absurd cc
from_start (by_terminal.Close ∷ rest) may_be_none out e = absurd cc
from_start (by_terminal.Equals ∷ rest) may_be_none out e = absurd cc
from_start (by_terminal.And ∷ rest) may_be_none out e = absurd cc
from_start (by_terminal.Or ∷ rest) may_be_none out e = absurd cc
from_start ((by_terminal.Comparison m) ∷ rest) may_be_none out e = absurd cc
from_start (by_terminal.Other ∷ rest) may_be_none out e = absurd cc
from_start (by_terminal.Question ∷ rest) may_be_none out e = absurd cc
from_start (by_terminal.OpenBrace ∷ rest) may_be_none out e = absurd cc
from_start (by_terminal.CloseBrace ∷ rest) may_be_none out e = absurd cc
from_start (by_terminal.Colon ∷ rest) may_be_none out e = absurd cc
from_start (by_terminal.Imaginary n ∷ rest) may_be_none out e = absurd cc
from_start (by_terminal.Delta n ∷ rest) may_be_none out e = absurd cc
from_start (by_terminal.Period ∷ rest) may_be_none out e = absurd cc

-- further names are read
read_further : (others : List Further) (may_be_none : Bool) (names : List Spelled) → names_from may_be_none Name names (flat_map written_further others) ≡ Some (names ++ map spelled others)
unfolding names_from
read_further [] may_be_none names = ap (λ (n : List Spelled). Some n) (sym (append-nil names))
read_further (f ∷ others) may_be_none names = by_comma f.has_comma (read_further others may_be_none (names ++ f.name ∷ [])) ∙ ap (λ (n : List Spelled). Some n) (append_assoc names (f.name ∷ []) (map spelled others)) where
  by_comma : (b : Bool) → names_from may_be_none Name (names ++ f.name ∷ []) (flat_map written_further others) ≡ Some ((names ++ f.name ∷ []) ++ map spelled others)
      → names_from may_be_none Name names (written_further (record { has_comma = b; name = f.name }) ++ flat_map written_further others) ≡ Some ((names ++ f.name ∷ []) ++ map spelled others)
  by_comma true h = h
  by_comma false h = h

-- names are read
read_names : (may_be_none : Bool) (terminals : List Terminal) (names : List Spelled) → AreNames terminals names → names_from may_be_none Nothing [] terminals ≡ Some names
unfolding names_from
read_names may_be_none terminals names h = ap (names_from may_be_none Nothing []) h.written ∙ read_further h.others may_be_none (h.first ∷ []) ∙ ap (λ (n : List Spelled). Some n) (sym h.kept)

pub found : (r : Result (List Spelled) ReadError) (terminals : List Terminal) → Gives (λ names. names) r (names_from false Nothing [] terminals) → IfOk r (λ names. AreNames terminals names)
found (Err error) terminals e = tt
found (Ok names) terminals e = by_start (from_start terminals false names e) where
  by_start : ((terminals ≡ []) × (false ≡ true) × (names ≡ [])) ⊎ AreNames terminals names → AreNames terminals names
  by_start (inl h) = absurd (let f = h.1 in cc)
  by_start (inr h) = h

pub none : (r : Result (List Spelled) ReadError) (terminals : List Terminal) → Gives (λ names. names) r (names_from false Nothing [] terminals) → IfErr r (λ error. Excludes error (AreNames terminals))
none (Ok names) terminals e = tt
none (Err Memory) terminals e = tt
none (Err BadSyntax) terminals e = λ names h. none-some names (sym e ∙ read_names false terminals names h)

pub found_or_none : (r : Result (List Spelled) ReadError) (terminals : List Terminal) → Gives (λ names. names) r (names_from true Nothing [] terminals) → IfOk r (λ names. AreNamesOrNone terminals names)
found_or_none (Err error) terminals e = tt
found_or_none (Ok names) terminals e = by_start (from_start terminals true names e) where
  by_start : ((terminals ≡ []) × (true ≡ true) × (names ≡ [])) ⊎ AreNames terminals names → AreNamesOrNone terminals names
  by_start (inl h) = inl (h.0, h.2)
  by_start (inr h) = inr h

read_or_none : (terminals : List Terminal) (names : List Spelled) → AreNamesOrNone terminals names → names_from true Nothing [] terminals ≡ Some names
unfolding names_from
read_or_none terminals names (inl h) = ap (names_from true Nothing []) h.0 ∙ ap (λ (n : List Spelled). Some n) (sym h.1)
read_or_none terminals names (inr h) = read_names true terminals names h

pub none_or_none : (r : Result (List Spelled) ReadError) (terminals : List Terminal) → Gives (λ names. names) r (names_from true Nothing [] terminals) → IfErr r (λ error. Excludes error (AreNamesOrNone terminals))
none_or_none (Ok names) terminals e = tt
none_or_none (Err Memory) terminals e = tt
none_or_none (Err BadSyntax) terminals e = λ names h. none-some names (sym e ∙ read_or_none terminals names h)

-- terminals are names in one way at most
pub one_list : (terminals : List Terminal) (names others : List Spelled) → AreNames terminals names → AreNames terminals others → names ≡ others
one_list terminals names others h k = same_Some names others (sym (read_names true terminals names h) ∙ read_names true terminals others k)

pub one_list_or_none : (terminals : List Terminal) (names others : List Spelled) → AreNamesOrNone terminals names → AreNamesOrNone terminals others → names ≡ others
one_list_or_none terminals names others h k = same_Some names others (sym (read_or_none terminals names h) ∙ read_or_none terminals others k)

-- terminals are names or not
pub names_or_not : (terminals : List Terminal) → ((names : List Spelled) × AreNames terminals names) ⊎ ((names : List Spelled) → AreNames terminals names → ⊥)
names_or_not terminals = by_read (names_from false Nothing [] terminals) refl where
  by_read : (o : Option (List Spelled)) → names_from false Nothing [] terminals ≡ o → ((names : List Spelled) × AreNames terminals names) ⊎ ((names : List Spelled) → AreNames terminals names → ⊥)
  by_read (Some names) e = inl (names, found (Ok names) terminals e)
  by_read None e = inr (none (Err BadSyntax) terminals e)

pub names_or_none_or_not : (terminals : List Terminal) → ((names : List Spelled) × AreNamesOrNone terminals names) ⊎ ((names : List Spelled) → AreNamesOrNone terminals names → ⊥)
names_or_none_or_not terminals = by_read (names_from true Nothing [] terminals) refl where
  by_read : (o : Option (List Spelled)) → names_from true Nothing [] terminals ≡ o → ((names : List Spelled) × AreNamesOrNone terminals names) ⊎ ((names : List Spelled) → AreNamesOrNone terminals names → ⊥)
  by_read (Some names) e = inl (names, found_or_none (Ok names) terminals e)
  by_read None e = inr (none_or_none (Err BadSyntax) terminals e)
