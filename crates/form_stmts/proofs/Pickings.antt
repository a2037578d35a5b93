-- The functions of an `argument` are read exactly where they are such.
use Rattle.std.proofs.Common.{◌≡◌, inl, inr, Bool, true, false, List, [], ◌∷◌, ◌++◌, map, Some, Result, refl, sym, ap, ◌∙◌, append_assoc}
use Rattle.std.specs.Prelude.{flat_map, IfOk, IfErr}
use Rattle.std.proofs.lemmas.List.{append-nil}
use Rattle.std.proofs.lemmas.Option.{same_Some}
use Rattle.form_ast.specs.declared.expr.Spelled.{Spelled}
use Rattle.form_ast.specs.declared.picked.Picked as picked
use Rattle.form_number.specs.declared.number.Number as numbers
use Rattle.form_grammar.specs.declared.error.ReadError.{ReadError}
use Rattle.form_grammar.specs.declared.terminal.Terminal.{Terminal}
use Rattle.form_grammar.specs.declared.terminal.Terminal.TheVariants as by_terminal
use Rattle.form_grammar.specs.Reading.{Gives, Excludes}
use Rattle.form_stmts.specs.declared.names.Last.TheVariants.{Nothing, Name, Comma}
use Rattle.form_stmts.specs.Picking.{Picking, no_picking, picks_from}
use Rattle.form_stmts.specs.Statement.{FurtherNumber, written_further_number, picked_of, FurtherPick, written_further_pick, ArePicked}
use Rattle.form_stmts.proofs.Either.{IsOrNot, IsOne, found_by, none_by, one_by, or_not_by}

abbrev number_of : FurtherNumber → numbers.Number
number_of n = n.number

abbrev further_picked : FurtherPick → picked.Picked
further_picked f = picked_of f.pick

abbrev one_picked : Spelled → List numbers.Number → picked.Picked
one_picked f ns = record { function = f; numbers = ns }

abbrev picking : List picked.Picked → Spelled → List numbers.Number → Picking
picking done f ns = record { done = done; function = Some f; numbers = ns }

-- numbers of the last function, and further functions, behind those that are read
record AreBehind (done : List picked.Picked) (f : Spelled) (ns : List numbers.Number) (terminals : List Terminal) (out : List picked.Picked) : Type 0 where
  numbers : List FurtherNumber
  others : List FurtherPick
  written : terminals ≡ flat_map written_further_number numbers ++ flat_map written_further_pick others
  kept : out ≡ done ++ one_picked f (ns ++ map number_of numbers) ∷ map further_picked others

function_kept : (done : List picked.Picked) (f g : Spelled) (ns : List numbers.Number) (more : List numbers.Number) (others : List picked.Picked)
    → (done ++ one_picked f ns ∷ []) ++ one_picked g more ∷ others ≡ done ++ one_picked f (ns ++ []) ∷ one_picked g more ∷ others
function_kept done f g ns more others =
    append_assoc done (one_picked f ns ∷ []) (one_picked g more ∷ others) ∙ ap (λ (x : List numbers.Number). done ++ one_picked f x ∷ one_picked g more ∷ others) (sym (append-nil ns))

number_kept : (done : List picked.Picked) (f : Spelled) (ns : List numbers.Number) (n : numbers.Number) (more : List numbers.Number) (others : List picked.Picked)
    → done ++ one_picked f ((ns ++ n ∷ []) ++ more) ∷ others ≡ done ++ one_picked f (ns ++ n ∷ more) ∷ others
number_kept done f ns n more others = ap (λ (x : List numbers.Number). done ++ one_picked f x ∷ others) (append_assoc ns (n ∷ []) more)

mutual
  unfolding picks_from

  after_one : (terminals : List Terminal) (done : List picked.Picked) (f : Spelled) (ns : List numbers.Number) (out : List picked.Picked) → picks_from Name (picking done f ns) terminals ≡ Some out → AreBehind done f ns terminals out
  after_one [] done f ns out e = record {
    numbers = [];
    others = [];
    written = refl;
    kept = sym (same_Some (done ++ one_picked f ns ∷ []) out e) ∙ ap (λ (x : List numbers.Number). done ++ one_picked f x ∷ []) (sym (append-nil ns));
  }
  after_one (by_terminal.Name g ∷ rest) done f ns out e =
      let h = after_one rest (done ++ one_picked f ns ∷ []) g [] out e in
      record {
        numbers = [];
        others = record { has_comma = false; pick = record { function = g; numbers = h.numbers } } ∷ h.others;
        written = ap (λ (t : List Terminal). by_terminal.Name g ∷ t) h.written;
        kept = h.kept ∙ function_kept done f g ns (map number_of h.numbers) (map further_picked h.others);
      }
  after_one (by_terminal.Number n ∷ rest) done f ns out e =
      let h = after_one rest done f (ns ++ n ∷ []) out e in
      record {
        numbers = record { has_comma = false; number = n } ∷ h.numbers;
        others = h.others;
        written = ap (λ (t : List Terminal). by_terminal.Number n ∷ t) h.written;
        kept = h.kept ∙ number_kept done f ns n (map number_of h.numbers) (map further_picked h.others);
      }
  after_one (by_terminal.Comma ∷ rest) done f ns out e = after_a_comma rest done f ns out e
  after_one (_ ∷ rest) done f ns out e = absurd cc

  after_a_comma : (terminals : List Terminal) (done : List picked.Picked) (f : Spelled) (ns : List numbers.Number) (out : List picked.Picked) → picks_from Comma (picking done f ns) terminals ≡ Some out → AreBehind done f ns (by_terminal.Comma ∷ terminals) out
  after_a_comma [] done f ns out e = absurd cc
  after_a_comma (by_terminal.Name g ∷ rest) done f ns out e =
      let h = after_one rest (done ++ one_picked f ns ∷ []) g [] out e in
      record {
        numbers = [];
        others = record { has_comma = true; pick = record { function = g; numbers = h.numbers } } ∷ h.others;
        written = ap (λ (t : List Terminal). by_terminal.Comma ∷ by_terminal.Name g ∷ t) h.written;
        kept = h.kept ∙ function_kept done f g ns (map number_of h.numbers) (map further_picked h.others);
      }
  after_a_comma (by_terminal.Number n ∷ rest) done f ns out e =
      let h = after_one rest done f (ns ++ n ∷ []) out e in
      record {
        numbers = record { has_comma = true; number = n } ∷ h.numbers;
        others = h.others;
        written = ap (λ (t : List Terminal). by_terminal.Comma ∷ by_terminal.Number n ∷ t) h.written;
        kept = h.kept ∙ number_kept done f ns n (map number_of h.numbers) (map further_picked h.others);
      }
  after_a_comma (_ ∷ rest) done f ns out e = absurd cc

sound : (terminals : List Terminal) (out : List picked.Picked) → picks_from Nothing no_picking terminals ≡ Some out → ArePicked terminals out
unfolding picks_from
sound [] out e = inl (refl, sym (same_Some [] out e))
sound (by_terminal.Name f ∷ rest) out e =
    let h = after_one rest [] f [] out e in
    inr (record {
      first = record { function = f; numbers = h.numbers };
      others = h.others;
      written = ap (λ (t : List Terminal). by_terminal.Name f ∷ t) h.written;
      kept = h.kept;
    })
sound (_ ∷ rest) out e = absurd cc

-- ---- what is written so is read

read_numbers : (more : List FurtherNumber) (rest : List Terminal) (done : List picked.Picked) (f : Spelled) (ns : List numbers.Number)
    → picks_from Name (picking done f ns) (flat_map written_further_number more ++ rest) ≡ picks_from Name (picking done f (ns ++ map number_of more)) rest
unfolding picks_from
read_numbers [] rest done f ns = ap (λ (x : List numbers.Number). picks_from Name (picking done f x) rest) (sym (append-nil ns))
read_numbers (m ∷ more) rest done f ns = by_comma m.has_comma (read_numbers more rest done f (ns ++ m.number ∷ [])) ∙ ap (λ (x : List numbers.Number). picks_from Name (picking done f x) rest) (append_assoc ns (m.number ∷ []) (map number_of more)) where
  by_comma : (b : Bool) → picks_from Name (picking done f (ns ++ m.number ∷ [])) (flat_map written_further_number more ++ rest) ≡ picks_from Name (picking done f ((ns ++ m.number ∷ []) ++ map number_of more)) rest
      → picks_from Name (picking done f ns) ((written_further_number (record { has_comma = b; number = m.number }) ++ flat_map written_further_number more) ++ rest) ≡ picks_from Name (picking done f ((ns ++ m.number ∷ []) ++ map number_of more)) rest
  by_comma true h = h
  by_comma false h = h

read_functions : (others : List FurtherPick) (done : List picked.Picked) (f : Spelled) (ns : List numbers.Number)
    → picks_from Name (picking done f ns) (flat_map written_further_pick others) ≡ Some (done ++ one_picked f ns ∷ map further_picked others)
unfolding picks_from
read_functions [] done f ns = refl
read_functions (p ∷ others) done f ns =
    by_comma p.has_comma
    ∙ read_numbers p.pick.numbers (flat_map written_further_pick others) (done ++ one_picked f ns ∷ []) p.pick.function []
    ∙ read_functions others (done ++ one_picked f ns ∷ []) p.pick.function (map number_of p.pick.numbers)
    ∙ ap (λ (x : List picked.Picked). Some x) (append_assoc done (one_picked f ns ∷ []) (picked_of p.pick ∷ map further_picked others)) where
      by_comma : (b : Bool) → picks_from Name (picking done f ns) (written_further_pick (record { has_comma = b; pick = p.pick }) ++ flat_map written_further_pick others)
          ≡ picks_from Name (picking (done ++ one_picked f ns ∷ []) p.pick.function []) (flat_map written_further_number p.pick.numbers ++ flat_map written_further_pick others)
      by_comma true = refl
      by_comma false = refl

complete : (terminals : List Terminal) (out : List picked.Picked) → ArePicked terminals out → picks_from Nothing no_picking terminals ≡ Some out
unfolding picks_from
complete terminals out (inl h) = ap (picks_from Nothing no_picking) h.0 ∙ ap (λ (x : List picked.Picked). Some x) (sym h.1)
complete terminals out (inr h) =
    ap (picks_from Nothing no_picking) h.written
    ∙ read_numbers h.first.numbers (flat_map written_further_pick h.others) [] h.first.function []
    ∙ read_functions h.others [] h.first.function (map number_of h.first.numbers)
    ∙ ap (λ (x : List picked.Picked). Some x) (sym h.kept)

-- ---- what that gives

module _ (r : Result (List picked.Picked) ReadError) (terminals : List Terminal) (e : Gives (λ x. x) r (picks_from Nothing no_picking terminals)) where
  pub picked_found : IfOk r (λ x. ArePicked terminals x)
  picked_found = found_by ArePicked (picks_from Nothing no_picking) sound complete r terminals e

  pub picked_none : IfErr r (λ error. Excludes error (ArePicked terminals))
  picked_none = none_by ArePicked (picks_from Nothing no_picking) sound complete r terminals e

module _ (terminals : List Terminal) where
  pub one_choice : IsOne (ArePicked terminals)
  one_choice = one_by ArePicked (picks_from Nothing no_picking) sound complete terminals

  pub picked_or_not : IsOrNot (ArePicked terminals)
  picked_or_not = or_not_by ArePicked (picks_from Nothing no_picking) sound complete terminals
