-- What is read whole is lawful, in its setting.
use Rattle.std.proofs.Common.{◌≡◌, ◌⊎◌, inl, inr, ℕ, suc, ◌+◌, ◌<◌, Bool, true, false, ◌&&◌, List, [], ◌∷◌, ◌++◌, Option, Some, None, option_map, option_and_then, refl, sym, ap, subst, ◌∙◌, append_assoc, add-one, cond, ltb}
use Rattle.std.proofs.lemmas.Bool.{ltb-true}
use Rattle.std.proofs.lemmas.List.{append-nil}
use Rattle.std.proofs.lemmas.Option.{same_Some, none-some}
use Rattle.form_base.specs.declared.spot.Spot.{Spot}
use Rattle.form_ast.specs.declared.expr.Sign.{Sign}
use Rattle.form_ast.specs.declared.expr.Sign.TheVariants as signs
use Rattle.form_ast.specs.declared.expr.Link.TheVariants as links
use Rattle.form_number.specs.declared.number.Number.{Number}
use Rattle.form_ast.specs.declared.expr.SignedNumber.{SignedNumber}
use Rattle.form_ast.specs.declared.expr.Spelled.{Spelled}
use Rattle.form_ast.specs.declared.expr.Named.{Named}
use Rattle.form_ast.specs.declared.expr.Named.TheVariants as names
use Rattle.form_ast.specs.declared.expr.Restriction.{Restriction}
use Rattle.form_ast.specs.declared.expr.Restriction.TheVariants.{Any, Set, Names, Numbers}
use Rattle.form_ast.specs.declared.expr.Power.{Power}
use Rattle.form_ast.specs.declared.expr.Piece.{Piece}
use Rattle.form_ast.specs.declared.expr.Piece.TheVariants as pieces
use Rattle.form_ast.specs.declared.setting.Setting.{Setting}
use Rattle.form_ast.specs.declared.setting.Setting.TheVariants as settings
use Rattle.form_ast.specs.Building.{start, after, with_argument}
use Rattle.form_ast.specs.Syntax.{Label, named, wildcard, Entry, name_entry, number_entry, Sum, Factor, factor, raised, Base, number, name, dot, delta, empty_call, call, parenthesis, Arguments, Argument, expression, field, link_of, name_of, mark_of, pieces_of_entry, piece_of_power, pieces_of_sum, pieces_of_base, pieces_of_arguments, pieces_of_argument}
use Rattle.form_ast.specs.Lawful.{most_open, IsLawfulEntry, HasFields, IsLawfulArgument, IsLawfulSum, IsLawfulBase, IsLawfulArguments}
use Rattle.form_grammar.specs.declared.brackets.Bracket.{Bracket}
use Rattle.form_grammar.specs.declared.brackets.Bracket.TheVariants as brackets_by
use Rattle.form_grammar.specs.declared.terminal.Terminal.{Terminal}
use Rattle.form_grammar.specs.declared.terminal.Terminal.TheVariants as by_terminal
use Rattle.form_grammar.specs.declared.effect.Last.TheVariants as last
use Rattle.form_grammar.specs.declared.effect.Expected.{Expected}
use Rattle.form_grammar.specs.declared.effect.Expected.TheVariants as by_expected
use Rattle.form_grammar.specs.declared.effect.Effect.{Effect}
use Rattle.form_grammar.specs.declared.effect.Effect.TheVariants as by_effect
use Rattle.form_grammar.specs.declared.effect.Change.{Change}
use Rattle.form_grammar.specs.declared.effect.Change.TheVariants as changes
use Rattle.form_grammar.specs.Effect.{unless_over, first_sign_effect, is_enclosed, is_negative, behind_number, power_effect, mark_effect, behind_wildcard, restriction_effect, field_effect}
use Rattle.form_grammar.specs.Grammar.{written_sum, written_product, written_factor, written_base, written_sign, written_named, written_name, written_entry, written_arguments, written_argument, written_number, written_names, written_numbers, written_restriction}
use Rattle.form_grammar.specs.Reading.{Reading, begun, changed, with_change, with_name, with_number, changed_reading, behind_name, applied, step, finished, all_closed, run}
use Rattle.form_grammar.specs.Reading as readings
use Rattle.form_grammar.proofs.Lasts.{Allowed, is_power_of, no_power, base_may_raise, mapped}
use Rattle.form_grammar.proofs.Raised.{changed_here}
use Rattle.form_grammar.proofs.Places.{Before, lead, by_times, by_over, Outer, in_parenthesis, in_arguments, Place, at_factor, at_argument, at_further, at_exponent, at_closing, at_operator, at_vector, at_delta, at_first_entry, at_comma, at_second_entry, at_delta_closing, at_field_name, at_field_end, link_before, lead_of, product_of, sum_to, brackets, depth, last_of_base, is_declared_entry, kept_before, kept_parted, kept_name, kept_around, kept_to, kept_factor, kept_entry, reading_at, written_lead, written_before, written_parted, written_around, written_to, written_first, written_at, Fits, TakesParenthesis, IsLawfulTo, IsLawfulArgumented, IsLawfulAt, written_whole, kept_filled, kept_whole, lawful_product, lawful_lead, lawful_whole, written_filled, kept_arguments, written_all_arguments, lawful_arguments}
use Rattle.form_grammar.proofs.Sites.{Site, factor_site, dot_site, first_site, second_site, power_site, slot_of, behind, Stand, plain, power_mark, restriction, element, element_number, element_end, expecting, reading_of_stand, elements, begun_elements, written_front, written_stand, AreElements, some_elements, elements_begun, IsLawfulSite, IsLawfulMarked, IsLawfulStand, lawful_behind, kept_marked, written_marked, expects_behind, IsFollower, follows, as_expected, applied_same, same_opened, IsFurther, further_name, further_number, mark_changed, fits_power}

-- reading goes on to where it stands then, one terminal further
pub record GoesOn (g : Setting) (stand : Stand) (t : Terminal) (next : Reading) : Type 0 where
  pub there : Stand
  pub lawful : IsLawfulStand g there
  pub kept : next ≡ reading_of_stand there
  pub written : written_stand stand ++ t ∷ [] ≡ written_stand there

abbrev at : List Piece → List Bracket → Expected → Reading
at kept opened expected = record { pieces = kept; opened = opened; expected = expected }

passes : {X : Type 0} (b : Bool) (o : Option X) (y : X) → cond b o None ≡ Some y → (b ≡ true) × (o ≡ Some y)
passes true o y e = (refl, e)
passes false o y e = absurd cc

-- ---- what fits

fits_raised : (b : Before) (base : Base) (power : Option Power) → Fits b (factor base None) → Fits b (factor base power)
fits_raised (lead l) base power h = tt
fits_raised (by_times l p) base power h = tt
fits_raised (by_over l p) base power h = h

fits_number : (b : Before) (n : Number) → Fits b (factor (number n) None)
fits_number (lead l) n = tt
fits_number (by_times l p) n = tt
fits_number (by_over l p) n = tt

fits_name : (b : Before) (n : Label) → Fits b (factor (name n) None)
fits_name (lead l) n = tt
fits_name (by_times l p) n = tt
fits_name (by_over l p) n = tt

fits_dot : (b : Before) (p q : Label) → Fits b (factor (dot p q) None)
fits_dot (lead l) p q = tt
fits_dot (by_times l r) p q = tt
fits_dot (by_over l r) p q = tt

fits_taken : (b : Before) (f : Factor) → TakesParenthesis b → Fits b f
fits_taken (lead l) f h = tt
fits_taken (by_times l p) f h = tt
fits_taken (by_over l p) f h = absurd h

-- what has parentheses may stand behind this
record Takes (b : Before) : Type 0 where
  takes : TakesParenthesis b
  effect : (e : Effect) → unless_over (link_before b) e ≡ e
  kept : (p : Piece) → readings.unless_over (link_before b) p ≡ Some p

record TakesNone (b : Before) : Type 0 where
  effect : (e : Effect) → unless_over (link_before b) e ≡ by_effect.Fails
  kept : (p : Piece) → readings.unless_over (link_before b) p ≡ None

opening : (b : Before) → Takes b ⊎ TakesNone b
opening (lead (start None)) = inl (record { takes = tt; effect = λ e. refl; kept = λ p. refl })
opening (lead (start (Some signs.Plus))) = inl (record { takes = tt; effect = λ e. refl; kept = λ p. refl })
opening (lead (start (Some signs.Minus))) = inl (record { takes = tt; effect = λ e. refl; kept = λ p. refl })
opening (lead (after s signs.Plus)) = inl (record { takes = tt; effect = λ e. refl; kept = λ p. refl })
opening (lead (after s signs.Minus)) = inl (record { takes = tt; effect = λ e. refl; kept = λ p. refl })
opening (by_times l p) = inl (record { takes = tt; effect = λ e. refl; kept = λ p. refl })
opening (by_over l p) = inr (record { effect = λ e. refl; kept = λ p. refl })

-- ---- lists

module _ {A : Type 0} where
  -- a mark behind what stands before it
  marked : (a b : List A) (x : A) → (a ++ b) ++ x ∷ [] ≡ a ++ (b ++ x ∷ [])
  marked a b x = append_assoc a b (x ∷ [])

  fourth : (a b c d e : List A) → (a ++ (b ++ (c ++ d))) ++ e ≡ a ++ (b ++ (c ++ (d ++ e)))
  fourth a b c d e = simp append_assoc

  third : (a b c e : List A) → (a ++ (b ++ c)) ++ e ≡ a ++ (b ++ (c ++ e))
  third a b c e = simp append_assoc

  closed_up : (a b c : List A) (x y : A) → ((a ++ (b ++ x ∷ [])) ++ c) ++ y ∷ [] ≡ a ++ (b ++ (x ∷ c ++ y ∷ []))
  closed_up a b c x y = simp append_assoc

  enclosed : (a b c : List A) (x y : A) → (a ++ (b ++ x ∷ [])) ++ (c ++ y ∷ []) ≡ a ++ (b ++ ((x ∷ (c ++ y ∷ [])) ++ []))
  enclosed a b c x y = simp (append_assoc, append-nil)

  -- nothing in a parenthesis
  emptied : (a b c : List A) (y : A) → ((a ++ (b ++ (c ++ []))) ++ []) ++ y ∷ [] ≡ a ++ (b ++ (c ++ y ∷ []))
  emptied a b c y = simp (append_assoc, append-nil)

  emptied_text : (a b c : List A) (y z : A) → ((a ++ (b ++ (c ++ (y ∷ [])))) ++ []) ++ z ∷ [] ≡ a ++ (b ++ ((c ++ (y ∷ z ∷ [])) ++ []))
  emptied_text a b c y z = simp (append_assoc, append-nil)

  -- the last argument, and the mark behind it
  argued : (a b n c s : List A) (y : A) → ((a ++ (b ++ (n ++ c))) ++ s) ++ y ∷ [] ≡ a ++ (b ++ ((n ++ (c ++ s)) ++ y ∷ []))
  argued a b n c s y = simp append_assoc

  argued_text : (a b n c s : List A) (x z : A) → (a ++ (b ++ (n ++ (x ∷ c)))) ++ (s ++ z ∷ []) ≡ a ++ (b ++ ((n ++ (x ∷ (c ++ s))) ++ z ∷ []))
  argued_text a b n c s x z = simp append_assoc

  fielded : (a : List A) (x y : A) → (a ++ x ∷ []) ++ y ∷ [] ≡ a ++ x ∷ y ∷ []
  fielded a x y = append_assoc a (x ∷ []) (y ∷ [])

-- ---- where a factor is expected

-- a sign where a factor is expected
sign_at_factor : (g : Setting) (around : List Outer) (b : Before) (sign : Sign) (next : Reading) → IsLawfulAt g (at_factor around b)
    → applied (reading_at (at_factor around b)) (first_sign_effect (link_before b) sign) ≡ Some next → GoesOn g (plain (at_factor around b)) (by_terminal.Sign sign) next
sign_at_factor g around (lead (start None)) sign next h e = record {
  there = plain (at_factor around (lead (start (Some sign))));
  lawful = record { lawful_around = h.lawful_around; lawful_before = tt };
  kept = sym (same_Some _ next e);
  written = append_assoc (written_around around) [] (by_terminal.Sign sign ∷ []);
}
sign_at_factor g around (lead (start (Some signs.Plus))) sign next h e = absurd cc
sign_at_factor g around (lead (start (Some signs.Minus))) sign next h e = absurd cc
sign_at_factor g around (lead (after s signs.Plus)) sign next h e = absurd cc
sign_at_factor g around (lead (after s signs.Minus)) sign next h e = absurd cc
sign_at_factor g around (by_times l p) sign next h e = absurd cc
sign_at_factor g around (by_over l p) sign next h e = absurd cc

open_at_factor : (g : Setting) (around : List Outer) (b : Before) (next : Reading) → IsLawfulAt g (at_factor around b)
    → applied (reading_at (at_factor around b)) (unless_over (link_before b) (by_effect.Opens (link_before b))) ≡ Some next → GoesOn g (plain (at_factor around b)) by_terminal.Open next
open_at_factor g around b next h e = by_kind (opening b) where
  by_kind : Takes b ⊎ TakesNone b → GoesOn g (plain (at_factor around b)) by_terminal.Open next
  by_kind (inr f) = let k = rw (f.effect (by_effect.Opens (link_before b))) at e in absurd cc
  by_kind (inl t) =
      let k = rw (t.effect (by_effect.Opens (link_before b))) at e in
      let made = at ((kept_around around ++ kept_before b) ++ pieces.Open (link_before b) ∷ []) (brackets_by.Parenthesis ∷ brackets around) (by_expected.Factor links.First) in
      let m = passes (ltb (depth around) 64) (Some made) next k in
      record {
        there = plain (at_factor (in_parenthesis b ∷ around) (lead (start None)));
        lawful = record { lawful_around = (record { lawful_before = h.lawful_before; takes = t.takes; room = ltb-true (depth around) 64 m.0 }, h.lawful_around); lawful_before = tt };
        kept = sym (same_Some made next m.1) ∙ ap (λ (kept : List Piece). at kept (brackets_by.Parenthesis ∷ brackets around) (by_expected.Factor links.First)) (marked (kept_around around) (kept_before b) (pieces.Open (link_before b)) ∙ sym (append-nil _));
        written = marked (written_around around) (written_before b) by_terminal.Open ∙ sym (append-nil _);
      }

delta_at_factor : (g : Setting) (around : List Outer) (b : Before) (spot : Spot) (next : Reading) → IsLawfulAt g (at_factor around b)
    → applied (reading_at (at_factor around b)) (unless_over (link_before b) (by_effect.Adds (pieces.Delta (link_before b) spot) by_expected.Delta)) ≡ Some next → GoesOn g (plain (at_factor around b)) (by_terminal.Delta spot) next
delta_at_factor g around b spot next h e = by_kind (opening b) where
  by_kind : Takes b ⊎ TakesNone b → GoesOn g (plain (at_factor around b)) (by_terminal.Delta spot) next
  by_kind (inr f) = let k = rw (f.effect (by_effect.Adds (pieces.Delta (link_before b) spot) by_expected.Delta)) at e in absurd cc
  by_kind (inl t) =
      let k = rw (t.effect (by_effect.Adds (pieces.Delta (link_before b) spot) by_expected.Delta)) at e in
      record {
        there = plain (at_delta around b spot);
        lawful = record { lawful_around = h.lawful_around; lawful_before = h.lawful_before; takes = t.takes };
        kept = sym (same_Some _ next k) ∙ ap (λ (kept : List Piece). at kept (brackets around) by_expected.Delta) (marked (kept_around around) (kept_before b) (pieces.Delta (link_before b) spot));
        written = marked (written_around around) (written_before b) (by_terminal.Delta spot);
      }

plain_at_factor : (g : Setting) (around : List Outer) (b : Before) (base : Base) (t : Terminal) (piece : Piece) (next : Reading) → IsLawfulAt g (at_factor around b)
    → written_base base ≡ t ∷ [] → pieces_of_base (link_before b) base ≡ piece ∷ [] → IsLawfulBase g (depth around) base → Fits b (factor base None)
    → Some (at ((kept_around around ++ kept_before b) ++ piece ∷ []) (brackets around) (by_expected.Operator (last_of_base base))) ≡ Some next → GoesOn g (plain (at_factor around b)) t next
plain_at_factor g around b base t piece next h w p l f e = record {
  there = plain (at_operator around b (factor base None));
  lawful = record { lawful_around = h.lawful_around; lawful_before = h.lawful_before; lawful_factor = (l, tt, no_power base); fits = f };
  kept = sym (same_Some (at ((kept_around around ++ kept_before b) ++ piece ∷ []) (brackets around) (by_expected.Operator (last_of_base base))) next e)
      ∙ ap (λ (kept : List Piece). at kept (brackets around) (by_expected.Operator (last_of_base base))) (marked (kept_around around) (kept_before b) piece ∙ ap (λ (last : List Piece). kept_around around ++ (kept_before b ++ last)) (sym p));
  written = marked (written_around around) (written_before b) t ∙ ap (λ (last : List Terminal). written_around around ++ (written_before b ++ last)) (sym w ∙ sym (append-nil (written_base base)));
}

from_factor : (g : Setting) (around : List Outer) (b : Before) (t : Terminal) (next : Reading) → IsLawfulAt g (at_factor around b)
    → step g (reading_at (at_factor around b)) t ≡ Some next → GoesOn g (plain (at_factor around b)) t next
from_factor g around b (by_terminal.Number n) next h e = plain_at_factor g around b (number n) (by_terminal.Number n) (pieces.Number (link_before b) n) next h refl refl tt (fits_number b n) e
from_factor g around b (by_terminal.Name n) next h e = plain_at_factor g around b (name (named (names.Declared n))) (by_terminal.Name n) (pieces.Name (link_before b) (names.Declared n)) next h refl refl tt (fits_name b (named (names.Declared n))) e
from_factor g around b (by_terminal.Imaginary spot) next h e = plain_at_factor g around b (name (named (names.Imaginary spot))) (by_terminal.Imaginary spot) (pieces.Name (link_before b) (names.Imaginary spot)) next h refl refl tt (fits_name b (named (names.Imaginary spot))) e
from_factor g around b (by_terminal.Delta spot) next h e = delta_at_factor g around b spot next h e
from_factor g around b (by_terminal.Sign sign) next h e = sign_at_factor g around b sign next h e
from_factor g around b by_terminal.Times next h e = absurd cc
from_factor g around b by_terminal.Over next h e = absurd cc
from_factor g around b by_terminal.Raise next h e = absurd cc
from_factor g around b by_terminal.Open next h e = open_at_factor g around b next h e
from_factor g around b by_terminal.Close next h e = absurd cc
from_factor g around b by_terminal.Comma next h e = absurd cc
from_factor g around b by_terminal.Period next h e = absurd cc
from_factor g around b by_terminal.Equals next h e = absurd cc
from_factor g around b by_terminal.Question next h e = absurd cc
from_factor g around b by_terminal.OpenBrace next h e = absurd cc
from_factor g around b by_terminal.CloseBrace next h e = absurd cc
from_factor g around b by_terminal.Colon next h e = absurd cc
from_factor g around b by_terminal.And next h e = absurd cc
from_factor g around b by_terminal.Or next h e = absurd cc
from_factor g around b (by_terminal.Comparison m) next h e = absurd cc
from_factor g around b by_terminal.Other next h e = absurd cc

-- ---- where an argument is expected

-- the mark of a field
field_at_argument : (g : Setting) (around : List Outer) (b : Before) (n : Label) (args : Option Arguments) (expected : Expected) (next : Reading) → IsLawfulArgumented g around b n args
    → applied (expecting (at_field_name around b n args) expected) (field_effect g) ≡ Some next
    → (HasFields g) × (next ≡ reading_at (at_field_name around b n args))
field_at_argument settings.Plain around b n args expected next h e = absurd cc
field_at_argument settings.Right around b n args expected next h e = (tt, sym (same_Some _ next e))
field_at_argument settings.Pattern around b n args expected next h e = (tt, sym (same_Some _ next e))

end_at_argument : (g : Setting) (around : List Outer) (b : Before) (n : Label) (next : Reading) → IsLawfulAt g (at_argument around b n)
    → step g (reading_at (at_argument around b n)) by_terminal.Close ≡ Some next → GoesOn g (plain (at_argument around b n)) by_terminal.Close next
end_at_argument g around b n next h e = record {
  there = plain (at_operator around b (factor (empty_call n) None));
  lawful = record {
    lawful_around = h.lawful_around;
    lawful_before = h.lawful_call.lawful_before;
    lawful_factor = ((h.lawful_call.room, h.lawful_call.lawful_name), tt, tt);
    fits = fits_taken b (factor (empty_call n) None) h.lawful_call.takes;
  };
  kept = sym (same_Some _ next e) ∙ ap (λ (kept : List Piece). at kept (brackets around) (by_expected.Operator last.Enclosed)) (emptied (kept_around around) (kept_before b) (kept_name b n) pieces.EndOfCall);
  written = emptied_text (written_around around) (written_before b) (written_name n) by_terminal.Open by_terminal.Close;
}

-- the first terminal of a sum
as_factor : (g : Setting) (around : List Outer) (b : Before) (n : Label) (t : Terminal) (next : Reading)
    → GoesOn g (plain (at_factor (in_arguments b n None ∷ around) (lead (start None)))) t next → GoesOn g (plain (at_argument around b n)) t next
as_factor g around b n t next h = record { there = h.there; lawful = h.lawful; kept = h.kept; written = h.written }

as_further : (g : Setting) (around : List Outer) (b : Before) (n : Label) (args : Arguments) (t : Terminal) (next : Reading)
    → GoesOn g (plain (at_factor (in_arguments b n (Some args) ∷ around) (lead (start None)))) t next → GoesOn g (plain (at_further around b n args)) t next
as_further g around b n args t next h = record { there = h.there; lawful = h.lawful; kept = h.kept; written = h.written }

in_front : (g : Setting) (around : List Outer) (b : Before) (n : Label) (args : Option Arguments) → IsLawfulArgumented g around b n args → IsLawfulAt g (at_factor (in_arguments b n args ∷ around) (lead (start None)))
in_front g around b n args h = record { lawful_around = (h.lawful_call, h.lawful_around); lawful_before = tt }

from_argument : (g : Setting) (around : List Outer) (b : Before) (n : Label) (t : Terminal) (next : Reading) → IsLawfulAt g (at_argument around b n)
    → step g (reading_at (at_argument around b n)) t ≡ Some next → GoesOn g (plain (at_argument around b n)) t next
from_argument g around b n (by_terminal.Number m) next h e = as_factor g around b n (by_terminal.Number m) next (from_factor g (in_arguments b n None ∷ around) (lead (start None)) (by_terminal.Number m) next (in_front g around b n None h) e)
from_argument g around b n (by_terminal.Name m) next h e = as_factor g around b n (by_terminal.Name m) next (from_factor g (in_arguments b n None ∷ around) (lead (start None)) (by_terminal.Name m) next (in_front g around b n None h) e)
from_argument g around b n (by_terminal.Imaginary m) next h e = as_factor g around b n (by_terminal.Imaginary m) next (from_factor g (in_arguments b n None ∷ around) (lead (start None)) (by_terminal.Imaginary m) next (in_front g around b n None h) e)
from_argument g around b n (by_terminal.Delta m) next h e = as_factor g around b n (by_terminal.Delta m) next (from_factor g (in_arguments b n None ∷ around) (lead (start None)) (by_terminal.Delta m) next (in_front g around b n None h) e)
from_argument g around b n (by_terminal.Sign m) next h e = as_factor g around b n (by_terminal.Sign m) next (from_factor g (in_arguments b n None ∷ around) (lead (start None)) (by_terminal.Sign m) next (in_front g around b n None h) e)
from_argument g around b n by_terminal.Times next h e = as_factor g around b n by_terminal.Times next (from_factor g (in_arguments b n None ∷ around) (lead (start None)) by_terminal.Times next (in_front g around b n None h) e)
from_argument g around b n by_terminal.Over next h e = as_factor g around b n by_terminal.Over next (from_factor g (in_arguments b n None ∷ around) (lead (start None)) by_terminal.Over next (in_front g around b n None h) e)
from_argument g around b n by_terminal.Raise next h e = as_factor g around b n by_terminal.Raise next (from_factor g (in_arguments b n None ∷ around) (lead (start None)) by_terminal.Raise next (in_front g around b n None h) e)
from_argument g around b n by_terminal.Open next h e = as_factor g around b n by_terminal.Open next (from_factor g (in_arguments b n None ∷ around) (lead (start None)) by_terminal.Open next (in_front g around b n None h) e)
from_argument g around b n by_terminal.Close next h e = end_at_argument g around b n next h e
from_argument g around b n by_terminal.Comma next h e = as_factor g around b n by_terminal.Comma next (from_factor g (in_arguments b n None ∷ around) (lead (start None)) by_terminal.Comma next (in_front g around b n None h) e)
from_argument g around b n by_terminal.Period next h e = as_factor g around b n by_terminal.Period next (from_factor g (in_arguments b n None ∷ around) (lead (start None)) by_terminal.Period next (in_front g around b n None h) e)
from_argument g around b n by_terminal.Equals next h e = as_factor g around b n by_terminal.Equals next (from_factor g (in_arguments b n None ∷ around) (lead (start None)) by_terminal.Equals next (in_front g around b n None h) e)
from_argument g around b n by_terminal.Question next h e =
    let k = field_at_argument g around b n None by_expected.Argument next h e in
    record {
      there = plain (at_field_name around b n None);
      lawful = (h, k.0);
      kept = k.1;
      written = append_assoc (written_around (in_arguments b n None ∷ around)) [] (by_terminal.Question ∷ []);
    }
from_argument g around b n by_terminal.OpenBrace next h e = as_factor g around b n by_terminal.OpenBrace next (from_factor g (in_arguments b n None ∷ around) (lead (start None)) by_terminal.OpenBrace next (in_front g around b n None h) e)
from_argument g around b n by_terminal.CloseBrace next h e = as_factor g around b n by_terminal.CloseBrace next (from_factor g (in_arguments b n None ∷ around) (lead (start None)) by_terminal.CloseBrace next (in_front g around b n None h) e)
from_argument g around b n by_terminal.Colon next h e = as_factor g around b n by_terminal.Colon next (from_factor g (in_arguments b n None ∷ around) (lead (start None)) by_terminal.Colon next (in_front g around b n None h) e)
from_argument g around b n by_terminal.And next h e = as_factor g around b n by_terminal.And next (from_factor g (in_arguments b n None ∷ around) (lead (start None)) by_terminal.And next (in_front g around b n None h) e)
from_argument g around b n by_terminal.Or next h e = as_factor g around b n by_terminal.Or next (from_factor g (in_arguments b n None ∷ around) (lead (start None)) by_terminal.Or next (in_front g around b n None h) e)
from_argument g around b n (by_terminal.Comparison m) next h e = as_factor g around b n (by_terminal.Comparison m) next (from_factor g (in_arguments b n None ∷ around) (lead (start None)) (by_terminal.Comparison m) next (in_front g around b n None h) e)
from_argument g around b n by_terminal.Other next h e = as_factor g around b n by_terminal.Other next (from_factor g (in_arguments b n None ∷ around) (lead (start None)) by_terminal.Other next (in_front g around b n None h) e)

from_further : (g : Setting) (around : List Outer) (b : Before) (n : Label) (args : Arguments) (t : Terminal) (next : Reading) → IsLawfulAt g (at_further around b n args)
    → step g (reading_at (at_further around b n args)) t ≡ Some next → GoesOn g (plain (at_further around b n args)) t next
from_further g around b n args (by_terminal.Number m) next h e = as_further g around b n args (by_terminal.Number m) next (from_factor g (in_arguments b n (Some args) ∷ around) (lead (start None)) (by_terminal.Number m) next (in_front g around b n (Some args) h) e)
from_further g around b n args (by_terminal.Name m) next h e = as_further g around b n args (by_terminal.Name m) next (from_factor g (in_arguments b n (Some args) ∷ around) (lead (start None)) (by_terminal.Name m) next (in_front g around b n (Some args) h) e)
from_further g around b n args (by_terminal.Imaginary m) next h e = as_further g around b n args (by_terminal.Imaginary m) next (from_factor g (in_arguments b n (Some args) ∷ around) (lead (start None)) (by_terminal.Imaginary m) next (in_front g around b n (Some args) h) e)
from_further g around b n args (by_terminal.Delta m) next h e = as_further g around b n args (by_terminal.Delta m) next (from_factor g (in_arguments b n (Some args) ∷ around) (lead (start None)) (by_terminal.Delta m) next (in_front g around b n (Some args) h) e)
from_further g around b n args (by_terminal.Sign m) next h e = as_further g around b n args (by_terminal.Sign m) next (from_factor g (in_arguments b n (Some args) ∷ around) (lead (start None)) (by_terminal.Sign m) next (in_front g around b n (Some args) h) e)
from_further g around b n args by_terminal.Times next h e = as_further g around b n args by_terminal.Times next (from_factor g (in_arguments b n (Some args) ∷ around) (lead (start None)) by_terminal.Times next (in_front g around b n (Some args) h) e)
from_further g around b n args by_terminal.Over next h e = as_further g around b n args by_terminal.Over next (from_factor g (in_arguments b n (Some args) ∷ around) (lead (start None)) by_terminal.Over next (in_front g around b n (Some args) h) e)
from_further g around b n args by_terminal.Raise next h e = as_further g around b n args by_terminal.Raise next (from_factor g (in_arguments b n (Some args) ∷ around) (lead (start None)) by_terminal.Raise next (in_front g around b n (Some args) h) e)
from_further g around b n args by_terminal.Open next h e = as_further g around b n args by_terminal.Open next (from_factor g (in_arguments b n (Some args) ∷ around) (lead (start None)) by_terminal.Open next (in_front g around b n (Some args) h) e)
from_further g around b n args by_terminal.Close next h e = as_further g around b n args by_terminal.Close next (from_factor g (in_arguments b n (Some args) ∷ around) (lead (start None)) by_terminal.Close next (in_front g around b n (Some args) h) e)
from_further g around b n args by_terminal.Comma next h e = as_further g around b n args by_terminal.Comma next (from_factor g (in_arguments b n (Some args) ∷ around) (lead (start None)) by_terminal.Comma next (in_front g around b n (Some args) h) e)
from_further g around b n args by_terminal.Period next h e = as_further g around b n args by_terminal.Period next (from_factor g (in_arguments b n (Some args) ∷ around) (lead (start None)) by_terminal.Period next (in_front g around b n (Some args) h) e)
from_further g around b n args by_terminal.Equals next h e = as_further g around b n args by_terminal.Equals next (from_factor g (in_arguments b n (Some args) ∷ around) (lead (start None)) by_terminal.Equals next (in_front g around b n (Some args) h) e)
from_further g around b n args by_terminal.Question next h e =
    let k = field_at_argument g around b n (Some args) by_expected.FurtherArgument next h e in
    record {
      there = plain (at_field_name around b n (Some args));
      lawful = (h, k.0);
      kept = k.1;
      written = append_assoc (written_around (in_arguments b n (Some args) ∷ around)) [] (by_terminal.Question ∷ []);
    }
from_further g around b n args by_terminal.OpenBrace next h e = as_further g around b n args by_terminal.OpenBrace next (from_factor g (in_arguments b n (Some args) ∷ around) (lead (start None)) by_terminal.OpenBrace next (in_front g around b n (Some args) h) e)
from_further g around b n args by_terminal.CloseBrace next h e = as_further g around b n args by_terminal.CloseBrace next (from_factor g (in_arguments b n (Some args) ∷ around) (lead (start None)) by_terminal.CloseBrace next (in_front g around b n (Some args) h) e)
from_further g around b n args by_terminal.Colon next h e = as_further g around b n args by_terminal.Colon next (from_factor g (in_arguments b n (Some args) ∷ around) (lead (start None)) by_terminal.Colon next (in_front g around b n (Some args) h) e)
from_further g around b n args by_terminal.And next h e = as_further g around b n args by_terminal.And next (from_factor g (in_arguments b n (Some args) ∷ around) (lead (start None)) by_terminal.And next (in_front g around b n (Some args) h) e)
from_further g around b n args by_terminal.Or next h e = as_further g around b n args by_terminal.Or next (from_factor g (in_arguments b n (Some args) ∷ around) (lead (start None)) by_terminal.Or next (in_front g around b n (Some args) h) e)
from_further g around b n args (by_terminal.Comparison m) next h e = as_further g around b n args (by_terminal.Comparison m) next (from_factor g (in_arguments b n (Some args) ∷ around) (lead (start None)) (by_terminal.Comparison m) next (in_front g around b n (Some args) h) e)
from_further g around b n args by_terminal.Other next h e = as_further g around b n args by_terminal.Other next (from_factor g (in_arguments b n (Some args) ∷ around) (lead (start None)) by_terminal.Other next (in_front g around b n (Some args) h) e)

named_field : (g : Setting) (around : List Outer) (b : Before) (n : Label) (args : Option Arguments) (m : Spelled) (next : Reading) → IsLawfulAt g (at_field_name around b n args)
    → step g (reading_at (at_field_name around b n args)) (by_terminal.Name m) ≡ Some next → GoesOn g (plain (at_field_name around b n args)) (by_terminal.Name m) next
named_field g around b n args m next h e = record {
  there = plain (at_field_end around b n args m);
  lawful = h;
  kept = sym (same_Some _ next e) ∙ ap (λ (kept : List Piece). at kept (brackets (in_arguments b n args ∷ around)) by_expected.FieldEnd) (append_assoc (kept_around (in_arguments b n args ∷ around)) [] (pieces.Field m ∷ []));
  written = fielded (written_around (in_arguments b n args ∷ around)) by_terminal.Question (by_terminal.Name m);
}

from_field_name : (g : Setting) (around : List Outer) (b : Before) (n : Label) (args : Option Arguments) (t : Terminal) (next : Reading) → IsLawfulAt g (at_field_name around b n args)
    → step g (reading_at (at_field_name around b n args)) t ≡ Some next → GoesOn g (plain (at_field_name around b n args)) t next
from_field_name g around b n args (by_terminal.Number m) next h e = absurd cc
from_field_name g around b n args (by_terminal.Name m) next h e = named_field g around b n args m next h e
from_field_name g around b n args (by_terminal.Imaginary m) next h e = absurd cc
from_field_name g around b n args (by_terminal.Delta m) next h e = absurd cc
from_field_name g around b n args (by_terminal.Sign m) next h e = absurd cc
from_field_name g around b n args by_terminal.Times next h e = absurd cc
from_field_name g around b n args by_terminal.Over next h e = absurd cc
from_field_name g around b n args by_terminal.Raise next h e = absurd cc
from_field_name g around b n args by_terminal.Open next h e = absurd cc
from_field_name g around b n args by_terminal.Close next h e = absurd cc
from_field_name g around b n args by_terminal.Comma next h e = absurd cc
from_field_name g around b n args by_terminal.Period next h e = absurd cc
from_field_name g around b n args by_terminal.Equals next h e = absurd cc
from_field_name g around b n args by_terminal.Question next h e = absurd cc
from_field_name g around b n args by_terminal.OpenBrace next h e = absurd cc
from_field_name g around b n args by_terminal.CloseBrace next h e = absurd cc
from_field_name g around b n args by_terminal.Colon next h e = absurd cc
from_field_name g around b n args by_terminal.And next h e = absurd cc
from_field_name g around b n args by_terminal.Or next h e = absurd cc
from_field_name g around b n args (by_terminal.Comparison m) next h e = absurd cc
from_field_name g around b n args by_terminal.Other next h e = absurd cc

-- ---- powers

lawful_power : (g : Setting) (around : List Outer) (b : Before) (base : Base) (p : Power) → IsLawfulTo g around b (factor base None) → (p.is_parenthesized ≡ true → depth around < most_open) → Allowed base p → IsLawfulTo g around b (factor base (Some p))
lawful_power g around b base p h room a = record {
  lawful_around = h.lawful_around;
  lawful_before = h.lawful_before;
  lawful_factor = (h.lawful_factor.0, room, is_power_of base p a);
  fits = fits_raised b base (Some p) h.fits;
}

-- a further terminal of a power
abbrev written_power_to : List Outer → Before → Base → List Terminal → List Terminal
written_power_to around b base text = written_around around ++ (written_before b ++ (written_base base ++ by_terminal.Raise ∷ text))

written_further : (around : List Outer) (b : Before) (base : Base) (front text : List Terminal) → written_power_to around b base front ++ text ≡ written_power_to around b base (front ++ text)
written_further around b base front text = fourth (written_around around) (written_before b) (written_base base) (by_terminal.Raise ∷ front) text

-- a power is a piece, and may stand there
raised_reading : (r : Reading) (is_on_enclosed : Bool) (p : Power) (next : Reading) → applied r (power_effect is_on_enclosed p) ≡ Some next
    → (next ≡ at (r.pieces ++ piece_of_power p ∷ []) r.opened (behind_number p.is_parenthesized)) × ((is_on_enclosed && is_negative p) ≡ false)
raised_reading r is_on_enclosed p next e = split (is_on_enclosed && is_negative p) refl e where
  split : (b : Bool) → (is_on_enclosed && is_negative p) ≡ b → applied r (cond b by_effect.Fails (by_effect.Adds (piece_of_power p) (behind_number p.is_parenthesized))) ≡ Some next
      → (next ≡ at (r.pieces ++ piece_of_power p ∷ []) r.opened (behind_number p.is_parenthesized)) × ((is_on_enclosed && is_negative p) ≡ false)
  split true is f = absurd cc
  split false is f = (sym (same_Some _ next f), is)

kept_raised : (around : List Outer) (b : Before) (base : Base) (p : Power) → kept_factor around b (factor base None) ++ piece_of_power p ∷ [] ≡ kept_factor around b (factor base (Some p))
kept_raised around b base p = third (kept_around around) (kept_before b) (pieces_of_base (link_before b) base) (piece_of_power p ∷ [])

number_at_exponent : (g : Setting) (around : List Outer) (b : Before) (base : Base) (is_parenthesized : Bool) (sign : Option Sign) (n : Number) (next : Reading) → IsLawfulAt g (at_exponent around b base is_parenthesized sign)
    → step g (reading_at (at_exponent around b base is_parenthesized sign)) (by_terminal.Number n) ≡ Some next → GoesOn g (plain (at_exponent around b base is_parenthesized sign)) (by_terminal.Number n) next
number_at_exponent g around b base true sign n next h e =
    let p : Power = record { is_parenthesized = true; sign = sign; number = n } in
    let r = raised_reading (reading_at (at_exponent around b base true sign)) (is_enclosed (last_of_base base)) p next e in
    record {
      there = plain (at_closing around b base sign n);
      lawful = lawful_power g around b base p h.0 h.1 r.1;
      kept = r.0 ∙ ap (λ (kept : List Piece). at kept (brackets around) by_expected.Closing) (kept_raised around b base p);
      written = written_further around b base (by_terminal.Open ∷ written_sign sign) (by_terminal.Number n ∷ []);
    }
number_at_exponent g around b base false sign n next h e =
    let p : Power = record { is_parenthesized = false; sign = sign; number = n } in
    let r = raised_reading (reading_at (at_exponent around b base false sign)) (is_enclosed (last_of_base base)) p next e in
    record {
      there = plain (at_operator around b (factor base (Some p)));
      lawful = lawful_power g around b base p h.0 h.1 r.1;
      kept = r.0 ∙ ap (λ (kept : List Piece). at kept (brackets around) (by_expected.Operator last.Power)) (kept_raised around b base p);
      written = written_further around b base (written_sign sign) (by_terminal.Number n ∷ []);
    }

-- a name as a power
kept_by_name : (around : List Outer) (b : Before) (base : Base) (sign : Option Sign) (n : Spelled)
    → kept_factor around b (factor base None) ++ pieces.RaisedByName sign (names.Declared n) ∷ [] ≡ kept_factor around b (raised base sign (named (names.Declared n)))
kept_by_name around b base sign n = third (kept_around around) (kept_before b) (pieces_of_base (link_before b) base) (pieces.RaisedByName sign (names.Declared n) ∷ [])

written_by_name : (around : List Outer) (b : Before) (base : Base) (sign : Option Sign) (n : Spelled)
    → written_power_to around b base (written_sign sign) ++ by_terminal.Name n ∷ [] ≡ written_at (at_operator around b (raised base sign (named (names.Declared n))))
written_by_name around b base sign n = third (written_around around) (written_before b) (written_base base ++ by_terminal.Raise ∷ written_sign sign) (by_terminal.Name n ∷ [])

name_at_exponent : (g : Setting) (around : List Outer) (b : Before) (base : Base) (is_parenthesized : Bool) (sign : Option Sign) (n : Spelled) (next : Reading) → IsLawfulAt g (at_exponent around b base is_parenthesized sign)
    → step g (reading_at (at_exponent around b base is_parenthesized sign)) (by_terminal.Name n) ≡ Some next → GoesOn g (plain (at_exponent around b base is_parenthesized sign)) (by_terminal.Name n) next
name_at_exponent g around b base true sign n next h e = absurd cc
name_at_exponent settings.Plain around b base false sign n next h e = absurd cc
name_at_exponent settings.Right around b base false sign n next h e = record {
  there = plain (at_operator around b (raised base sign (named (names.Declared n))));
  lawful = record {
    lawful_around = h.0.lawful_around;
    lawful_before = h.0.lawful_before;
    lawful_factor = (h.0.lawful_factor.0, refl);
    fits = fits_power b base sign (named (names.Declared n)) h.0.fits;
  };
  kept = sym (same_Some _ next e) ∙ ap (λ (kept : List Piece). at kept (brackets around) (by_expected.Operator last.Power)) (kept_by_name around b base sign n);
  written = written_by_name around b base sign n;
}
name_at_exponent settings.Pattern around b base false None n next h e = record {
  there = power_mark around b base n;
  lawful = record { before = h.0; in_pattern = refl };
  kept = sym (same_Some _ next e) ∙ ap (λ (kept : List Piece). at kept (brackets around) by_expected.PowerMark) (kept_by_name around b base None n);
  written = written_by_name around b base None n;
}
name_at_exponent settings.Pattern around b base false (Some sign) n next h e = absurd cc

sign_at_exponent : (g : Setting) (around : List Outer) (b : Before) (base : Base) (is_parenthesized : Bool) (sign : Option Sign) (s : Sign) (next : Reading) → IsLawfulAt g (at_exponent around b base is_parenthesized sign)
    → step g (reading_at (at_exponent around b base is_parenthesized sign)) (by_terminal.Sign s) ≡ Some next → GoesOn g (plain (at_exponent around b base is_parenthesized sign)) (by_terminal.Sign s) next
sign_at_exponent g around b base true None s next h e = record {
  there = plain (at_exponent around b base true (Some s));
  lawful = h;
  kept = sym (same_Some _ next e);
  written = written_further around b base (by_terminal.Open ∷ []) (by_terminal.Sign s ∷ []);
}
sign_at_exponent g around b base false None s next h e = record {
  there = plain (at_exponent around b base false (Some s));
  lawful = h;
  kept = sym (same_Some _ next e);
  written = written_further around b base [] (by_terminal.Sign s ∷ []);
}
sign_at_exponent g around b base is_parenthesized (Some other) s next h e = absurd cc

open_at_exponent : (g : Setting) (around : List Outer) (b : Before) (base : Base) (is_parenthesized : Bool) (sign : Option Sign) (next : Reading) → IsLawfulAt g (at_exponent around b base is_parenthesized sign)
    → step g (reading_at (at_exponent around b base is_parenthesized sign)) by_terminal.Open ≡ Some next → GoesOn g (plain (at_exponent around b base is_parenthesized sign)) by_terminal.Open next
open_at_exponent g around b base false None next h e =
    let made = at (kept_factor around b (factor base None)) (brackets around) (by_expected.Exponent (is_enclosed (last_of_base base)) true None) in
    let k = passes (ltb (depth around) 64) (Some made) next e in
    record {
      there = plain (at_exponent around b base true None);
      lawful = (h.0, λ _. ltb-true (depth around) 64 k.0);
      kept = sym (same_Some made next k.1);
      written = written_further around b base [] (by_terminal.Open ∷ []);
    }
open_at_exponent g around b base true sign next h e = absurd cc
open_at_exponent g around b base false (Some sign) next h e = absurd cc

from_exponent : (g : Setting) (around : List Outer) (b : Before) (base : Base) (is_parenthesized : Bool) (sign : Option Sign) (t : Terminal) (next : Reading) → IsLawfulAt g (at_exponent around b base is_parenthesized sign)
    → step g (reading_at (at_exponent around b base is_parenthesized sign)) t ≡ Some next → GoesOn g (plain (at_exponent around b base is_parenthesized sign)) t next
from_exponent g around b base is_parenthesized sign (by_terminal.Number n) next h e = number_at_exponent g around b base is_parenthesized sign n next h e
from_exponent g around b base is_parenthesized sign (by_terminal.Name n) next h e = name_at_exponent g around b base is_parenthesized sign n next h e
from_exponent g around b base is_parenthesized sign (by_terminal.Imaginary m) next h e = absurd cc
from_exponent g around b base is_parenthesized sign (by_terminal.Delta m) next h e = absurd cc
from_exponent g around b base is_parenthesized sign (by_terminal.Sign s) next h e = sign_at_exponent g around b base is_parenthesized sign s next h e
from_exponent g around b base is_parenthesized sign by_terminal.Times next h e = absurd cc
from_exponent g around b base is_parenthesized sign by_terminal.Over next h e = absurd cc
from_exponent g around b base is_parenthesized sign by_terminal.Raise next h e = absurd cc
from_exponent g around b base is_parenthesized sign by_terminal.Open next h e = open_at_exponent g around b base is_parenthesized sign next h e
from_exponent g around b base is_parenthesized sign by_terminal.Close next h e = absurd cc
from_exponent g around b base is_parenthesized sign by_terminal.Comma next h e = absurd cc
from_exponent g around b base is_parenthesized sign by_terminal.Period next h e = absurd cc
from_exponent g around b base is_parenthesized sign by_terminal.Equals next h e = absurd cc
from_exponent g around b base is_parenthesized sign by_terminal.Question next h e = absurd cc
from_exponent g around b base is_parenthesized sign by_terminal.OpenBrace next h e = absurd cc
from_exponent g around b base is_parenthesized sign by_terminal.CloseBrace next h e = absurd cc
from_exponent g around b base is_parenthesized sign by_terminal.Colon next h e = absurd cc
from_exponent g around b base is_parenthesized sign by_terminal.And next h e = absurd cc
from_exponent g around b base is_parenthesized sign by_terminal.Or next h e = absurd cc
from_exponent g around b base is_parenthesized sign (by_terminal.Comparison m) next h e = absurd cc
from_exponent g around b base is_parenthesized sign by_terminal.Other next h e = absurd cc

close_at_closing : (g : Setting) (around : List Outer) (b : Before) (base : Base) (sign : Option Sign) (n : Number) (next : Reading) → IsLawfulAt g (at_closing around b base sign n)
    → step g (reading_at (at_closing around b base sign n)) by_terminal.Close ≡ Some next → GoesOn g (plain (at_closing around b base sign n)) by_terminal.Close next
close_at_closing g around b base sign n next h e = record {
  there = plain (at_operator around b (factor base (Some (record { is_parenthesized = true; sign = sign; number = n }))));
  lawful = h;
  kept = sym (same_Some _ next e);
  written = written_further around b base (by_terminal.Open ∷ written_sign sign ++ by_terminal.Number n ∷ []) (by_terminal.Close ∷ [])
      ∙ ap (λ (text : List Terminal). written_power_to around b base (by_terminal.Open ∷ text)) (append_assoc (written_sign sign) (by_terminal.Number n ∷ []) (by_terminal.Close ∷ []));
}

from_closing : (g : Setting) (around : List Outer) (b : Before) (base : Base) (sign : Option Sign) (n : Number) (t : Terminal) (next : Reading) → IsLawfulAt g (at_closing around b base sign n)
    → step g (reading_at (at_closing around b base sign n)) t ≡ Some next → GoesOn g (plain (at_closing around b base sign n)) t next
from_closing g around b base sign n (by_terminal.Number m) next h e = absurd cc
from_closing g around b base sign n (by_terminal.Name m) next h e = absurd cc
from_closing g around b base sign n (by_terminal.Imaginary m) next h e = absurd cc
from_closing g around b base sign n (by_terminal.Delta m) next h e = absurd cc
from_closing g around b base sign n (by_terminal.Sign m) next h e = absurd cc
from_closing g around b base sign n by_terminal.Times next h e = absurd cc
from_closing g around b base sign n by_terminal.Over next h e = absurd cc
from_closing g around b base sign n by_terminal.Raise next h e = absurd cc
from_closing g around b base sign n by_terminal.Open next h e = absurd cc
from_closing g around b base sign n by_terminal.Close next h e = close_at_closing g around b base sign n next h e
from_closing g around b base sign n by_terminal.Comma next h e = absurd cc
from_closing g around b base sign n by_terminal.Period next h e = absurd cc
from_closing g around b base sign n by_terminal.Equals next h e = absurd cc
from_closing g around b base sign n by_terminal.Question next h e = absurd cc
from_closing g around b base sign n by_terminal.OpenBrace next h e = absurd cc
from_closing g around b base sign n by_terminal.CloseBrace next h e = absurd cc
from_closing g around b base sign n by_terminal.Colon next h e = absurd cc
from_closing g around b base sign n by_terminal.And next h e = absurd cc
from_closing g around b base sign n by_terminal.Or next h e = absurd cc
from_closing g around b base sign n (by_terminal.Comparison m) next h e = absurd cc
from_closing g around b base sign n by_terminal.Other next h e = absurd cc

-- ---- the sum up to the factor that is complete

module _ (g : Setting) (around : List Outer) (b : Before) (f : Factor) where
  written_up : (text : List Terminal) → written_at (at_operator around b f) ++ text ≡ written_around around ++ (written_sum (sum_to b f) ++ text)
  written_up text =
      append_assoc (written_around around) (written_before b ++ written_factor f) text
      ∙ ap (λ (sum : List Terminal). written_around around ++ (sum ++ text)) (sym (written_whole b f))

  kept_up : kept_factor around b f ≡ kept_around around ++ pieces_of_sum (sum_to b f)
  kept_up = ap (λ (sum : List Piece). kept_around around ++ sum) (sym (kept_whole b f))

  lawful_up : IsLawfulTo g around b f → IsLawfulSum g (depth around) (sum_to b f)
  lawful_up h = lawful_whole g (depth around) b f h.lawful_before h.lawful_factor h.fits

  sign_at_operator : (sign : Sign) (next : Reading) → IsLawfulAt g (at_operator around b f)
      → step g (reading_at (at_operator around b f)) (by_terminal.Sign sign) ≡ Some next → GoesOn g (plain (at_operator around b f)) (by_terminal.Sign sign) next
  sign_at_operator sign next h e = record {
    there = plain (at_factor around (lead (after (sum_to b f) sign)));
    lawful = record { lawful_around = h.lawful_around; lawful_before = lawful_up h };
    kept = sym (same_Some _ next e) ∙ ap (λ (kept : List Piece). at kept (brackets around) (by_expected.Factor (link_of sign))) kept_up;
    written = written_up (by_terminal.Sign sign ∷ []);
  }

  times_at_operator : (next : Reading) → IsLawfulAt g (at_operator around b f)
      → step g (reading_at (at_operator around b f)) by_terminal.Times ≡ Some next → GoesOn g (plain (at_operator around b f)) by_terminal.Times next
  times_at_operator next h e = record {
    there = plain (at_factor around (by_times (lead_of b) (product_of b f)));
    lawful = record { lawful_around = h.lawful_around; lawful_before = (lawful_lead g (depth around) b h.lawful_before, lawful_product g (depth around) b f h.lawful_before h.lawful_factor h.fits) };
    kept = sym (same_Some _ next e) ∙ ap (λ (kept : List Piece). at (kept_around around ++ kept) (brackets around) (by_expected.Factor links.Times)) (sym (kept_filled b f));
    written = append_assoc (written_around around) (written_before b ++ written_factor f) (by_terminal.Times ∷ [])
        ∙ ap (λ (front : List Terminal). written_around around ++ front) (ap (λ (front : List Terminal). front ++ by_terminal.Times ∷ []) (sym (written_filled b f)) ∙ append_assoc (written_lead (lead_of b)) (written_product (product_of b f)) (by_terminal.Times ∷ []));
  }

  over_at_operator : (next : Reading) → IsLawfulAt g (at_operator around b f)
      → step g (reading_at (at_operator around b f)) by_terminal.Over ≡ Some next → GoesOn g (plain (at_operator around b f)) by_terminal.Over next
  over_at_operator next h e = record {
    there = plain (at_factor around (by_over (lead_of b) (product_of b f)));
    lawful = record { lawful_around = h.lawful_around; lawful_before = (lawful_lead g (depth around) b h.lawful_before, lawful_product g (depth around) b f h.lawful_before h.lawful_factor h.fits) };
    kept = sym (same_Some _ next e) ∙ ap (λ (kept : List Piece). at (kept_around around ++ kept) (brackets around) (by_expected.Factor links.Over)) (sym (kept_filled b f));
    written = append_assoc (written_around around) (written_before b ++ written_factor f) (by_terminal.Over ∷ [])
        ∙ ap (λ (front : List Terminal). written_around around ++ front) (ap (λ (front : List Terminal). front ++ by_terminal.Over ∷ []) (sym (written_filled b f)) ∙ append_assoc (written_lead (lead_of b)) (written_product (product_of b f)) (by_terminal.Over ∷ []));
  }

raise_at_operator : (g : Setting) (around : List Outer) (b : Before) (f : Factor) (next : Reading) → IsLawfulAt g (at_operator around b f)
    → step g (reading_at (at_operator around b f)) by_terminal.Raise ≡ Some next → GoesOn g (plain (at_operator around b f)) by_terminal.Raise next
raise_at_operator g around b (factor base None) next h e =
    let k = rw (base_may_raise base) at e in
    record {
      there = plain (at_exponent around b base false None);
      lawful = (h, λ f. absurd cc);
      kept = sym (same_Some _ next k);
      written = fourth (written_around around) (written_before b) (written_base base) [] (by_terminal.Raise ∷ []);
    }
raise_at_operator g around b (factor base (Some p)) next h e = absurd cc
raise_at_operator g around b (raised base sign n) next h e = absurd cc

-- ---- a name with what follows it

abbrev is_marked : Label → Bool
is_marked (named n) = false
is_marked (wildcard n r) = true

name_changed : (c : Change) (around : List Outer) (b : Before) (n : Label) (o : Option Piece) → changed c (pieces.Name (link_before b) (name_of n)) ≡ o
    → with_change (behind_name (is_marked n)) c (kept_factor around b (factor (name n) None)) ≡ option_map (λ y. kept_to around b (y ∷ mark_of n)) o
name_changed c around b n o e =
    let front : List Piece = kept_around around ++ kept_before b in
    let x : Piece = pieces.Name (link_before b) (name_of n) in
    ap (with_change (behind_name (is_marked n)) c) (sym (append_assoc (kept_around around) (kept_before b) (x ∷ mark_of n)))
    ∙ by_mark n x
    ∙ ap (option_map (λ y. front ++ y ∷ mark_of n)) e ∙ regroup o
  where
    by_mark : (n : Label) (x : Piece)
        → with_change (behind_name (is_marked n)) c ((kept_around around ++ kept_before b) ++ x ∷ mark_of n) ≡ option_map (λ y. (kept_around around ++ kept_before b) ++ y ∷ mark_of n) (changed c x)
    by_mark (named m) x = changed_here c (kept_around around ++ kept_before b) [] x
    by_mark (wildcard m r) x = changed_here c (kept_around around ++ kept_before b) (pieces.Marked r ∷ []) x

    regroup : (o : Option Piece) → option_map (λ y. (kept_around around ++ kept_before b) ++ y ∷ mark_of n) o ≡ option_map (λ y. kept_to around b (y ∷ mark_of n)) o
    regroup None = refl
    regroup (Some y) = ap (λ (all : List Piece). Some all) (append_assoc (kept_around around) (kept_before b) (y ∷ mark_of n))

-- what a name gives where it begins a dot product, or has arguments
dot_begun : (g : Setting) (around : List Outer) (b : Before) (n : Label) (next : Reading) → IsLawfulAt g (at_operator around b (factor (name n) None))
    → applied (reading_at (at_operator around b (factor (name n) None))) (by_effect.Dots (is_marked n)) ≡ Some next → GoesOn g (plain (at_operator around b (factor (name n) None))) by_terminal.Period next
dot_begun g around b n next h e =
    let k = rw (name_changed changes.Dot around b n (Some (pieces.Dot (link_before b) (name_of n))) refl) at e in
    record {
      there = plain (at_vector around b n);
      lawful = (record { lawful_around = h.lawful_around; lawful_before = h.lawful_before }, h.lawful_factor.0);
      kept = sym (same_Some _ next k);
      written = dotted_text (written_around around) (written_before b) (written_name n) by_terminal.Period;
    }
  where
    dotted_text : (a b c : List Terminal) (x : Terminal) → (a ++ (b ++ (c ++ []))) ++ x ∷ [] ≡ a ++ (b ++ (c ++ x ∷ []))
    dotted_text a b c x = simp (append_assoc, append-nil)

dot_at_operator : (g : Setting) (around : List Outer) (b : Before) (f : Factor) (next : Reading) → IsLawfulAt g (at_operator around b f)
    → step g (reading_at (at_operator around b f)) by_terminal.Period ≡ Some next → GoesOn g (plain (at_operator around b f)) by_terminal.Period next
dot_at_operator g around b (factor (name (named (names.Declared n))) None) next h e = dot_begun g around b (named (names.Declared n)) next h e
dot_at_operator g around b (factor (name (named (names.Imaginary spot))) None) next h e = dot_begun g around b (named (names.Imaginary spot)) next h e
dot_at_operator g around b (factor (name (wildcard n r)) None) next h e = dot_begun g around b (wildcard n r) next h e
dot_at_operator g around b (factor (number m) None) next h e = absurd cc
dot_at_operator g around b (factor (dot p (named (names.Declared n))) None) next h e = absurd cc
dot_at_operator g around b (factor (dot p (named (names.Imaginary spot))) None) next h e = absurd cc
dot_at_operator g around b (factor (dot p (wildcard n r)) None) next h e = absurd cc
dot_at_operator g around b (factor (delta spot a c) None) next h e = absurd cc
dot_at_operator g around b (factor (empty_call m) None) next h e = absurd cc
dot_at_operator g around b (factor (call m args) None) next h e = absurd cc
dot_at_operator g around b (factor (parenthesis s) None) next h e = absurd cc
dot_at_operator g around b (factor base (Some p)) next h e = absurd cc
dot_at_operator g around b (raised base sign n) next h e = absurd cc

call_begun : (g : Setting) (around : List Outer) (b : Before) (n : Label) (next : Reading) → IsLawfulAt g (at_operator around b (factor (name n) None))
    → applied (reading_at (at_operator around b (factor (name n) None))) (by_effect.Calls (is_marked n)) ≡ Some next → GoesOn g (plain (at_operator around b (factor (name n) None))) by_terminal.Open next
call_begun g around b n next h e = by_kind (opening b) where
  called_text : (a b c : List Terminal) (x : Terminal) → (a ++ (b ++ (c ++ []))) ++ x ∷ [] ≡ (a ++ (b ++ (c ++ (x ∷ [])))) ++ []
  called_text a b c x = simp (append_assoc, append-nil)

  called_pieces : (a b c : List Piece) → a ++ (b ++ c) ≡ (a ++ (b ++ (c ++ []))) ++ []
  called_pieces a b c = simp (append_assoc, append-nil)

  by_kind : Takes b ⊎ TakesNone b → GoesOn g (plain (at_operator around b (factor (name n) None))) by_terminal.Open next
  by_kind (inr f) =
      let r = reading_at (at_operator around b (factor (name n) None)) in
      let k = passes (ltb (depth around) 64) (option_map (λ n. at n.pieces (brackets_by.Arguments ∷ n.opened) by_expected.Argument) (changed_reading (behind_name (is_marked n)) changes.Call r)) next e in
      let m = mapped (λ n. at n.pieces (brackets_by.Arguments ∷ n.opened) by_expected.Argument) (changed_reading (behind_name (is_marked n)) changes.Call r) next k.1 in
      let w = mapped (λ kept. at kept r.opened r.expected) (with_change (behind_name (is_marked n)) changes.Call r.pieces) m.0 m.1 in
      absurd (none-some w.0 (sym (name_changed changes.Call around b n None (f.kept (pieces.Call (link_before b) (name_of n)))) ∙ w.1))
  by_kind (inl t) =
      let k = rw (name_changed changes.Call around b n (Some (pieces.Call (link_before b) (name_of n))) (t.kept (pieces.Call (link_before b) (name_of n)))) at e in
      let made = at (kept_to around b (kept_name b n)) (brackets_by.Arguments ∷ brackets around) by_expected.Argument in
      let m = passes (ltb (depth around) 64) (Some made) next k in
      record {
        there = plain (at_argument around b n);
        lawful = record {
          lawful_call = record { lawful_before = h.lawful_before; takes = t.takes; room = ltb-true (depth around) 64 m.0; lawful_name = h.lawful_factor.0; lawful_arguments = tt };
          lawful_around = h.lawful_around;
        };
        kept = sym (same_Some made next m.1) ∙ ap (λ (kept : List Piece). at kept (brackets_by.Arguments ∷ brackets around) by_expected.Argument) (called_pieces (kept_around around) (kept_before b) (kept_name b n));
        written = called_text (written_around around) (written_before b) (written_name n) by_terminal.Open;
      }

call_at_operator : (g : Setting) (around : List Outer) (b : Before) (f : Factor) (next : Reading) → IsLawfulAt g (at_operator around b f)
    → step g (reading_at (at_operator around b f)) by_terminal.Open ≡ Some next → GoesOn g (plain (at_operator around b f)) by_terminal.Open next
call_at_operator g around b (factor (name (named (names.Declared n))) None) next h e = call_begun g around b (named (names.Declared n)) next h e
call_at_operator g around b (factor (name (named (names.Imaginary spot))) None) next h e = call_begun g around b (named (names.Imaginary spot)) next h e
call_at_operator g around b (factor (name (wildcard n r)) None) next h e = call_begun g around b (wildcard n r) next h e
call_at_operator g around b (factor (number m) None) next h e = absurd cc
call_at_operator g around b (factor (dot p (named (names.Declared n))) None) next h e = absurd cc
call_at_operator g around b (factor (dot p (named (names.Imaginary spot))) None) next h e = absurd cc
call_at_operator g around b (factor (dot p (wildcard n r)) None) next h e = absurd cc
call_at_operator g around b (factor (delta spot a c) None) next h e = absurd cc
call_at_operator g around b (factor (empty_call m) None) next h e = absurd cc
call_at_operator g around b (factor (call m args) None) next h e = absurd cc
call_at_operator g around b (factor (parenthesis s) None) next h e = absurd cc
call_at_operator g around b (factor base (Some p)) next h e = absurd cc
call_at_operator g around b (raised base sign n) next h e = absurd cc

-- ---- the mark of a wildcard

-- the mark behind a name that may have one
mark_read : (g : Setting) (site : Site) (n : Spelled) (old : Expected) (from : Stand) (next : Reading) → IsLawfulSite g site → written_stand from ≡ written_front site n
    → applied (expecting (behind site (named (names.Declared n))) old) (mark_effect g (slot_of site)) ≡ Some next → GoesOn g from by_terminal.Question next
mark_read settings.Plain site n old from next h w e = absurd cc
mark_read settings.Right site n old from next h w e = absurd cc
mark_read settings.Pattern site n old from next h w e =
    let opened : List Bracket = (reading_at (behind site (named (names.Declared n)))).opened in
    record {
      there = restriction site n;
      lawful = record { before = h; in_pattern = refl };
      kept = sym (same_Some _ next e) ∙ ap (λ (kept : List Piece). at kept opened (by_expected.Restriction (slot_of site))) (kept_marked site n Any) ∙ same_opened site (named (names.Declared n)) (wildcard n Any) (by_expected.Restriction (slot_of site));
      written = ap (λ (text : List Terminal). text ++ by_terminal.Question ∷ []) w;
    }

mark_at_operator : (g : Setting) (around : List Outer) (b : Before) (f : Factor) (next : Reading) → IsLawfulAt g (at_operator around b f)
    → step g (reading_at (at_operator around b f)) by_terminal.Question ≡ Some next → GoesOn g (plain (at_operator around b f)) by_terminal.Question next
mark_at_operator g around b (factor (name (named (names.Declared n))) None) next h e =
    mark_read g (factor_site around b) n (by_expected.Operator last.Name) (plain (at_operator around b (factor (name (named (names.Declared n))) None))) next (record { lawful_around = h.lawful_around; lawful_before = h.lawful_before }) refl e
mark_at_operator g around b (factor (name (named (names.Imaginary spot))) None) next h e = absurd cc
mark_at_operator g around b (factor (name (wildcard n r)) None) next h e = absurd cc
mark_at_operator g around b (factor (dot p (named (names.Declared n))) None) next h e =
    mark_read g (dot_site around b p) n (by_expected.Operator last.DotName) (plain (at_operator around b (factor (dot p (named (names.Declared n))) None))) next (record { lawful_around = h.lawful_around; lawful_before = h.lawful_before }, h.lawful_factor.0.0) refl e
mark_at_operator g around b (factor (dot p (named (names.Imaginary spot))) None) next h e = absurd cc
mark_at_operator g around b (factor (dot p (wildcard n r)) None) next h e = absurd cc
mark_at_operator g around b (factor (number m) None) next h e = absurd cc
mark_at_operator g around b (factor (delta spot a c) None) next h e = absurd cc
mark_at_operator g around b (factor (empty_call m) None) next h e = absurd cc
mark_at_operator g around b (factor (call m args) None) next h e = absurd cc
mark_at_operator g around b (factor (parenthesis s) None) next h e = absurd cc
mark_at_operator g around b (factor base (Some p)) next h e = absurd cc
mark_at_operator g around b (raised base sign n) next h e = absurd cc

-- ---- what ends a parenthesis

kept_closed : (g : Setting) (around : List Outer) (c b : Before) (f : Factor)
    → kept_factor (in_parenthesis c ∷ around) b f ++ pieces.Close ∷ [] ≡ kept_factor around c (factor (parenthesis (sum_to b f)) None)
kept_closed g around c b f =
    ap (λ (all : List Piece). all ++ pieces.Close ∷ []) (kept_up g (in_parenthesis c ∷ around) b f)
    ∙ closed_up (kept_around around) (kept_before c) (pieces_of_sum (sum_to b f)) (pieces.Open (link_before c)) pieces.Close

written_closed : (around : List Outer) (c : Before) (s : Sum)
    → written_around (in_parenthesis c ∷ around) ++ (written_sum s ++ by_terminal.Close ∷ []) ≡ written_around around ++ (written_before c ++ written_factor (factor (parenthesis s) None))
written_closed around c s =
    enclosed (written_around around) (written_before c) (written_sum s) by_terminal.Open by_terminal.Close

-- an argument that is complete and a mark, behind those before it
kept_argued : (around : List Outer) (c : Before) (n : Label) (args : Option Arguments) (a : Argument) (y : Piece)
    → (kept_around (in_arguments c n args ∷ around) ++ pieces_of_argument a) ++ y ∷ []
    ≡ kept_to around c ((kept_name c n ++ pieces_of_arguments (with_argument args a)) ++ y ∷ [])
kept_argued around c n args a y =
    argued (kept_around around) (kept_before c) (kept_name c n) (kept_parted args) (pieces_of_argument a) y
    ∙ ap (λ (all : List Piece). kept_to around c ((kept_name c n ++ all) ++ y ∷ [])) (kept_arguments args a)

written_argued : (around : List Outer) (c : Before) (n : Label) (args : Option Arguments) (a : Argument) (z : Terminal)
    → written_around (in_arguments c n args ∷ around) ++ (written_argument a ++ z ∷ [])
    ≡ written_to around c ((written_name n ++ (by_terminal.Open ∷ written_arguments (with_argument args a))) ++ z ∷ [])
written_argued around c n args a z =
    argued_text (written_around around) (written_before c) (written_name n) (written_parted args) (written_argument a) by_terminal.Open z
    ∙ ap (λ (all : List Terminal). written_to around c ((written_name n ++ (by_terminal.Open ∷ all)) ++ z ∷ [])) (written_all_arguments args a)

-- the arguments end with this one, which is read from there
call_closed : (g : Setting) (around : List Outer) (c : Before) (n : Label) (args : Option Arguments) (a : Argument) (from : Stand) (kept : List Piece) (next : Reading)
    → IsLawfulArgumented g around c n args → IsLawfulArgument g (suc (depth around)) a
    → kept ≡ kept_around (in_arguments c n args ∷ around) ++ pieces_of_argument a
    → ((z : Terminal) → written_stand from ++ z ∷ [] ≡ written_around (in_arguments c n args ∷ around) ++ (written_argument a ++ z ∷ []))
    → Some (at (kept ++ pieces.EndOfCall ∷ []) (brackets around) (by_expected.Operator last.Enclosed)) ≡ Some next → GoesOn g from by_terminal.Close next
call_closed g around c n args a from kept next h l k w e =
    let all : Arguments = with_argument args a in
    let lawful : IsLawfulArguments g (depth around + 1) all = subst (λ (m : ℕ). IsLawfulArguments g m all) (sym (add-one (depth around))) (lawful_arguments g (suc (depth around)) args a h.lawful_call.lawful_arguments l) in
    record {
      there = plain (at_operator around c (factor (call n all) None));
      lawful = record {
        lawful_around = h.lawful_around;
        lawful_before = h.lawful_call.lawful_before;
        lawful_factor = ((h.lawful_call.room, h.lawful_call.lawful_name, lawful), tt, tt);
        fits = fits_taken c (factor (call n all) None) h.lawful_call.takes;
      };
      kept = sym (same_Some _ next e) ∙ ap (λ (ps : List Piece). at (ps ++ pieces.EndOfCall ∷ []) (brackets around) (by_expected.Operator last.Enclosed)) k
          ∙ ap (λ (all : List Piece). at all (brackets around) (by_expected.Operator last.Enclosed)) (kept_argued around c n args a pieces.EndOfCall);
      written = w by_terminal.Close ∙ written_argued around c n args a by_terminal.Close ∙ ap (λ (text : List Terminal). written_to around c text) (sym (append-nil (written_base (call n all))));
    }

call_parted : (g : Setting) (around : List Outer) (c : Before) (n : Label) (args : Option Arguments) (a : Argument) (from : Stand) (kept : List Piece) (next : Reading)
    → IsLawfulArgumented g around c n args → IsLawfulArgument g (suc (depth around)) a
    → kept ≡ kept_around (in_arguments c n args ∷ around) ++ pieces_of_argument a
    → ((z : Terminal) → written_stand from ++ z ∷ [] ≡ written_around (in_arguments c n args ∷ around) ++ (written_argument a ++ z ∷ []))
    → Some (at (kept ++ pieces.Comma ∷ []) (brackets_by.Arguments ∷ brackets around) by_expected.FurtherArgument) ≡ Some next → GoesOn g from by_terminal.Comma next
call_parted g around c n args a from kept next h l k w e =
    let all : Arguments = with_argument args a in
    let opened : List Bracket = brackets_by.Arguments ∷ brackets around in
    record {
      there = plain (at_further around c n all);
      lawful = record {
        lawful_call = record {
          lawful_before = h.lawful_call.lawful_before;
          takes = h.lawful_call.takes;
          room = h.lawful_call.room;
          lawful_name = h.lawful_call.lawful_name;
          lawful_arguments = lawful_arguments g (suc (depth around)) args a h.lawful_call.lawful_arguments l;
        };
        lawful_around = h.lawful_around;
      };
      kept = sym (same_Some _ next e) ∙ ap (λ (ps : List Piece). at (ps ++ pieces.Comma ∷ []) opened by_expected.FurtherArgument) k
          ∙ ap (λ (ps : List Piece). at ps opened by_expected.FurtherArgument) (kept_argued around c n args a pieces.Comma ∙ parted (kept_around around) (kept_before c) (kept_name c n) (pieces_of_arguments all) (pieces.Comma ∷ []));
      written = w by_terminal.Comma ∙ written_argued around c n args a by_terminal.Comma ∙ parted_text (written_around around) (written_before c) (written_name n) (written_arguments all) by_terminal.Open by_terminal.Comma;
    }
  where
    parted : (a b n c d : List Piece) → a ++ (b ++ ((n ++ c) ++ d)) ≡ (a ++ (b ++ (n ++ (c ++ d)))) ++ []
    parted a b n c d = simp (append_assoc, append-nil)

    parted_text : (a b n c : List Terminal) (x z : Terminal) → a ++ (b ++ ((n ++ (x ∷ c)) ++ z ∷ [])) ≡ (a ++ (b ++ (n ++ (x ∷ (c ++ z ∷ []))))) ++ []
    parted_text a b n c x z = simp (append_assoc, append-nil)

close_at_operator : (g : Setting) (around : List Outer) (b : Before) (f : Factor) (next : Reading) → IsLawfulAt g (at_operator around b f)
    → step g (reading_at (at_operator around b f)) by_terminal.Close ≡ Some next → GoesOn g (plain (at_operator around b f)) by_terminal.Close next
close_at_operator g [] b f next h e = absurd cc
close_at_operator g (in_parenthesis c ∷ around) b f next h e =
    let s : Sum = sum_to b f in
    let sum : IsLawfulSum g (depth around + 1) s = subst (λ (m : ℕ). IsLawfulSum g m s) (sym (add-one (depth around))) (lawful_up g (in_parenthesis c ∷ around) b f h) in
    record {
      there = plain (at_operator around c (factor (parenthesis s) None));
      lawful = record {
        lawful_around = h.lawful_around.1;
        lawful_before = h.lawful_around.0.lawful_before;
        lawful_factor = ((h.lawful_around.0.room, sum), tt, tt);
        fits = fits_taken c (factor (parenthesis s) None) h.lawful_around.0.takes;
      };
      kept = sym (same_Some _ next e) ∙ ap (λ (all : List Piece). at all (brackets around) (by_expected.Operator last.Enclosed)) (kept_closed g around c b f);
      written = written_up g (in_parenthesis c ∷ around) b f (by_terminal.Close ∷ []) ∙ written_closed around c s;
    }
close_at_operator g (in_arguments c n args ∷ around) b f next h e =
    call_closed g around c n args (expression (sum_to b f)) (plain (at_operator (in_arguments c n args ∷ around) b f)) (kept_factor (in_arguments c n args ∷ around) b f) next
    (record { lawful_call = h.lawful_around.0; lawful_around = h.lawful_around.1 }) (lawful_up g (in_arguments c n args ∷ around) b f h) (kept_up g (in_arguments c n args ∷ around) b f)
    (λ z. written_up g (in_arguments c n args ∷ around) b f (z ∷ [])) e

comma_at_operator : (g : Setting) (around : List Outer) (b : Before) (f : Factor) (next : Reading) → IsLawfulAt g (at_operator around b f)
    → step g (reading_at (at_operator around b f)) by_terminal.Comma ≡ Some next → GoesOn g (plain (at_operator around b f)) by_terminal.Comma next
comma_at_operator g [] b f next h e = absurd cc
comma_at_operator g (in_parenthesis c ∷ around) b f next h e = absurd cc
comma_at_operator g (in_arguments c n args ∷ around) b f next h e =
    call_parted g around c n args (expression (sum_to b f)) (plain (at_operator (in_arguments c n args ∷ around) b f)) (kept_factor (in_arguments c n args ∷ around) b f) next
    (record { lawful_call = h.lawful_around.0; lawful_around = h.lawful_around.1 }) (lawful_up g (in_arguments c n args ∷ around) b f h) (kept_up g (in_arguments c n args ∷ around) b f)
    (λ z. written_up g (in_arguments c n args ∷ around) b f (z ∷ [])) e

from_operator : (g : Setting) (around : List Outer) (b : Before) (f : Factor) (t : Terminal) (next : Reading) → IsLawfulAt g (at_operator around b f)
    → step g (reading_at (at_operator around b f)) t ≡ Some next → GoesOn g (plain (at_operator around b f)) t next
from_operator g around b f (by_terminal.Number m) next h e = absurd cc
from_operator g around b f (by_terminal.Name m) next h e = absurd cc
from_operator g around b f (by_terminal.Imaginary m) next h e = absurd cc
from_operator g around b f (by_terminal.Delta m) next h e = absurd cc
from_operator g around b f (by_terminal.Sign sign) next h e = sign_at_operator g around b f sign next h e
from_operator g around b f by_terminal.Times next h e = times_at_operator g around b f next h e
from_operator g around b f by_terminal.Over next h e = over_at_operator g around b f next h e
from_operator g around b f by_terminal.Raise next h e = raise_at_operator g around b f next h e
from_operator g around b f by_terminal.Open next h e = call_at_operator g around b f next h e
from_operator g around b f by_terminal.Close next h e = close_at_operator g around b f next h e
from_operator g around b f by_terminal.Comma next h e = comma_at_operator g around b f next h e
from_operator g around b f by_terminal.Period next h e = dot_at_operator g around b f next h e
from_operator g around b f by_terminal.Equals next h e = absurd cc
from_operator g around b f by_terminal.Question next h e = mark_at_operator g around b f next h e
from_operator g around b f by_terminal.OpenBrace next h e = absurd cc
from_operator g around b f by_terminal.CloseBrace next h e = absurd cc
from_operator g around b f by_terminal.Colon next h e = absurd cc
from_operator g around b f by_terminal.And next h e = absurd cc
from_operator g around b f by_terminal.Or next h e = absurd cc
from_operator g around b f (by_terminal.Comparison m) next h e = absurd cc
from_operator g around b f by_terminal.Other next h e = absurd cc

-- ---- behind a field

field_text : (around : List Outer) (b : Before) (n : Label) (args : Option Arguments) (m : Spelled) (z : Terminal)
    → written_at (at_field_end around b n args m) ++ z ∷ [] ≡ written_around (in_arguments b n args ∷ around) ++ (written_argument (field m) ++ z ∷ [])
field_text around b n args m z = append_assoc (written_around (in_arguments b n args ∷ around)) (by_terminal.Question ∷ by_terminal.Name m ∷ []) (z ∷ [])

from_field_end : (g : Setting) (around : List Outer) (b : Before) (n : Label) (args : Option Arguments) (m : Spelled) (t : Terminal) (next : Reading) → IsLawfulAt g (at_field_end around b n args m)
    → step g (reading_at (at_field_end around b n args m)) t ≡ Some next → GoesOn g (plain (at_field_end around b n args m)) t next
from_field_end g around b n args k (by_terminal.Number m) next h e = absurd cc
from_field_end g around b n args k (by_terminal.Name m) next h e = absurd cc
from_field_end g around b n args k (by_terminal.Imaginary m) next h e = absurd cc
from_field_end g around b n args k (by_terminal.Delta m) next h e = absurd cc
from_field_end g around b n args k (by_terminal.Sign m) next h e = absurd cc
from_field_end g around b n args k by_terminal.Times next h e = absurd cc
from_field_end g around b n args k by_terminal.Over next h e = absurd cc
from_field_end g around b n args k by_terminal.Raise next h e = absurd cc
from_field_end g around b n args k by_terminal.Open next h e = absurd cc
from_field_end g around b n args k by_terminal.Close next h e = call_closed g around b n args (field k) (plain (at_field_end around b n args k)) (kept_around (in_arguments b n args ∷ around) ++ pieces.Field k ∷ []) next h.0 h.1 refl (field_text around b n args k) e
from_field_end g around b n args k by_terminal.Comma next h e = call_parted g around b n args (field k) (plain (at_field_end around b n args k)) (kept_around (in_arguments b n args ∷ around) ++ pieces.Field k ∷ []) next h.0 h.1 refl (field_text around b n args k) e
from_field_end g around b n args k by_terminal.Period next h e = absurd cc
from_field_end g around b n args k by_terminal.Equals next h e = absurd cc
from_field_end g around b n args k by_terminal.Question next h e = absurd cc
from_field_end g around b n args k by_terminal.OpenBrace next h e = absurd cc
from_field_end g around b n args k by_terminal.CloseBrace next h e = absurd cc
from_field_end g around b n args k by_terminal.Colon next h e = absurd cc
from_field_end g around b n args k by_terminal.And next h e = absurd cc
from_field_end g around b n args k by_terminal.Or next h e = absurd cc
from_field_end g around b n args k (by_terminal.Comparison m) next h e = absurd cc
from_field_end g around b n args k by_terminal.Other next h e = absurd cc

-- ---- in a dot product and in `d_`

vector_read : (g : Setting) (around : List Outer) (b : Before) (p : Label) (q : Named) (next : Reading) → IsLawfulAt g (at_vector around b p)
    → Some (at (kept_to around b (pieces.Dot (link_before b) (name_of p) ∷ mark_of p) ++ pieces.EndOfDot q ∷ []) (brackets around) (by_expected.Operator (last_of_base (dot p (named q))))) ≡ Some next → GoesOn g (plain (at_vector around b p)) (written_named q) next
vector_read g around b p q next h e = record {
  there = plain (at_operator around b (factor (dot p (named q)) None));
  lawful = record { lawful_around = h.0.lawful_around; lawful_before = h.0.lawful_before; lawful_factor = ((h.1, tt), tt, tt); fits = fits_dot b p (named q) };
  kept = sym (same_Some _ next e) ∙ ap (λ (kept : List Piece). at kept (brackets around) (by_expected.Operator (last_of_base (dot p (named q))))) (third (kept_around around) (kept_before b) (pieces.Dot (link_before b) (name_of p) ∷ mark_of p) (pieces.EndOfDot q ∷ []));
  written = dotted (written_around around) (written_before b) (written_name p) by_terminal.Period (written_named q);
}
  where
    dotted : (a b c : List Terminal) (x y : Terminal) → (a ++ (b ++ (c ++ x ∷ []))) ++ y ∷ [] ≡ a ++ (b ++ ((c ++ x ∷ y ∷ []) ++ []))
    dotted a b c x y = simp (append_assoc, append-nil)

from_vector : (g : Setting) (around : List Outer) (b : Before) (p : Label) (t : Terminal) (next : Reading) → IsLawfulAt g (at_vector around b p)
    → step g (reading_at (at_vector around b p)) t ≡ Some next → GoesOn g (plain (at_vector around b p)) t next
from_vector g around b p (by_terminal.Number m) next h e = absurd cc
from_vector g around b p (by_terminal.Name n) next h e = vector_read g around b p (names.Declared n) next h e
from_vector g around b p (by_terminal.Imaginary spot) next h e = vector_read g around b p (names.Imaginary spot) next h e
from_vector g around b p (by_terminal.Delta m) next h e = absurd cc
from_vector g around b p (by_terminal.Sign m) next h e = absurd cc
from_vector g around b p by_terminal.Times next h e = absurd cc
from_vector g around b p by_terminal.Over next h e = absurd cc
from_vector g around b p by_terminal.Raise next h e = absurd cc
from_vector g around b p by_terminal.Open next h e = absurd cc
from_vector g around b p by_terminal.Close next h e = absurd cc
from_vector g around b p by_terminal.Comma next h e = absurd cc
from_vector g around b p by_terminal.Period next h e = absurd cc
from_vector g around b p by_terminal.Equals next h e = absurd cc
from_vector g around b p by_terminal.Question next h e = absurd cc
from_vector g around b p by_terminal.OpenBrace next h e = absurd cc
from_vector g around b p by_terminal.CloseBrace next h e = absurd cc
from_vector g around b p by_terminal.Colon next h e = absurd cc
from_vector g around b p by_terminal.And next h e = absurd cc
from_vector g around b p by_terminal.Or next h e = absurd cc
from_vector g around b p (by_terminal.Comparison m) next h e = absurd cc
from_vector g around b p by_terminal.Other next h e = absurd cc

open_at_delta : (g : Setting) (around : List Outer) (b : Before) (spot : Spot) (next : Reading) → IsLawfulAt g (at_delta around b spot)
    → step g (reading_at (at_delta around b spot)) by_terminal.Open ≡ Some next → GoesOn g (plain (at_delta around b spot)) by_terminal.Open next
open_at_delta g around b spot next h e =
    let made = at (kept_to around b (pieces.Delta (link_before b) spot ∷ [])) (brackets around) by_expected.FirstEntry in
    let k = passes (ltb (depth around) 64) (Some made) next e in
    record {
      there = plain (at_first_entry around b spot);
      lawful = record { lawful_front = h; room = ltb-true (depth around) 64 k.0 };
      kept = sym (same_Some made next k.1);
      written = third (written_around around) (written_before b) (by_terminal.Delta spot ∷ []) (by_terminal.Open ∷ []);
    }

from_delta : (g : Setting) (around : List Outer) (b : Before) (spot : Spot) (t : Terminal) (next : Reading) → IsLawfulAt g (at_delta around b spot)
    → step g (reading_at (at_delta around b spot)) t ≡ Some next → GoesOn g (plain (at_delta around b spot)) t next
from_delta g around b spot (by_terminal.Number m) next h e = absurd cc
from_delta g around b spot (by_terminal.Name m) next h e = absurd cc
from_delta g around b spot (by_terminal.Imaginary m) next h e = absurd cc
from_delta g around b spot (by_terminal.Delta m) next h e = absurd cc
from_delta g around b spot (by_terminal.Sign m) next h e = absurd cc
from_delta g around b spot by_terminal.Times next h e = absurd cc
from_delta g around b spot by_terminal.Over next h e = absurd cc
from_delta g around b spot by_terminal.Raise next h e = absurd cc
from_delta g around b spot by_terminal.Open next h e = open_at_delta g around b spot next h e
from_delta g around b spot by_terminal.Close next h e = absurd cc
from_delta g around b spot by_terminal.Comma next h e = absurd cc
from_delta g around b spot by_terminal.Period next h e = absurd cc
from_delta g around b spot by_terminal.Equals next h e = absurd cc
from_delta g around b spot by_terminal.Question next h e = absurd cc
from_delta g around b spot by_terminal.OpenBrace next h e = absurd cc
from_delta g around b spot by_terminal.CloseBrace next h e = absurd cc
from_delta g around b spot by_terminal.Colon next h e = absurd cc
from_delta g around b spot by_terminal.And next h e = absurd cc
from_delta g around b spot by_terminal.Or next h e = absurd cc
from_delta g around b spot (by_terminal.Comparison m) next h e = absurd cc
from_delta g around b spot by_terminal.Other next h e = absurd cc

first_entry_read : (g : Setting) (around : List Outer) (b : Before) (spot : Spot) (a : Entry) (t : Terminal) (piece : Piece) (next : Reading) → IsLawfulAt g (at_first_entry around b spot)
    → IsLawfulEntry g a → written_entry a ≡ t ∷ [] → pieces_of_entry a ≡ piece ∷ []
    → Some (at (kept_to around b (pieces.Delta (link_before b) spot ∷ []) ++ piece ∷ []) (brackets around) (by_expected.EntryComma (is_declared_entry a))) ≡ Some next → GoesOn g (plain (at_first_entry around b spot)) t next
first_entry_read g around b spot a t piece next h l w p e = record {
  there = plain (at_comma around b spot a);
  lawful = (h, l);
  kept = sym (same_Some _ next e) ∙ ap (λ (kept : List Piece). at kept (brackets around) (by_expected.EntryComma (is_declared_entry a)))
      (third (kept_around around) (kept_before b) (pieces.Delta (link_before b) spot ∷ []) (piece ∷ []) ∙ ap (λ (ps : List Piece). kept_to around b (pieces.Delta (link_before b) spot ∷ ps)) (sym p));
  written = third (written_around around) (written_before b) (by_terminal.Delta spot ∷ by_terminal.Open ∷ []) (t ∷ []) ∙ ap (λ (text : List Terminal). written_to around b (by_terminal.Delta spot ∷ by_terminal.Open ∷ text)) (sym w);
}

from_first_entry : (g : Setting) (around : List Outer) (b : Before) (spot : Spot) (t : Terminal) (next : Reading) → IsLawfulAt g (at_first_entry around b spot)
    → step g (reading_at (at_first_entry around b spot)) t ≡ Some next → GoesOn g (plain (at_first_entry around b spot)) t next
from_first_entry g around b spot (by_terminal.Number n) next h e = first_entry_read g around b spot (number_entry n) (by_terminal.Number n) (pieces.EntryNumber n) next h tt refl refl e
from_first_entry g around b spot (by_terminal.Name n) next h e = first_entry_read g around b spot (name_entry (named (names.Declared n))) (by_terminal.Name n) (pieces.EntryName (names.Declared n)) next h tt refl refl e
from_first_entry g around b spot (by_terminal.Imaginary other) next h e = first_entry_read g around b spot (name_entry (named (names.Imaginary other))) (by_terminal.Imaginary other) (pieces.EntryName (names.Imaginary other)) next h tt refl refl e
from_first_entry g around b spot (by_terminal.Delta m) next h e = absurd cc
from_first_entry g around b spot (by_terminal.Sign m) next h e = absurd cc
from_first_entry g around b spot by_terminal.Times next h e = absurd cc
from_first_entry g around b spot by_terminal.Over next h e = absurd cc
from_first_entry g around b spot by_terminal.Raise next h e = absurd cc
from_first_entry g around b spot by_terminal.Open next h e = absurd cc
from_first_entry g around b spot by_terminal.Close next h e = absurd cc
from_first_entry g around b spot by_terminal.Comma next h e = absurd cc
from_first_entry g around b spot by_terminal.Period next h e = absurd cc
from_first_entry g around b spot by_terminal.Equals next h e = absurd cc
from_first_entry g around b spot by_terminal.Question next h e = absurd cc
from_first_entry g around b spot by_terminal.OpenBrace next h e = absurd cc
from_first_entry g around b spot by_terminal.CloseBrace next h e = absurd cc
from_first_entry g around b spot by_terminal.Colon next h e = absurd cc
from_first_entry g around b spot by_terminal.And next h e = absurd cc
from_first_entry g around b spot by_terminal.Or next h e = absurd cc
from_first_entry g around b spot (by_terminal.Comparison m) next h e = absurd cc
from_first_entry g around b spot by_terminal.Other next h e = absurd cc

comma_at_comma : (g : Setting) (around : List Outer) (b : Before) (spot : Spot) (a : Entry) (next : Reading) → IsLawfulAt g (at_comma around b spot a)
    → step g (reading_at (at_comma around b spot a)) by_terminal.Comma ≡ Some next → GoesOn g (plain (at_comma around b spot a)) by_terminal.Comma next
comma_at_comma g around b spot a next h e = record {
  there = plain (at_second_entry around b spot a);
  lawful = h;
  kept = sym (same_Some _ next e);
  written = third (written_around around) (written_before b) (written_first spot a) (by_terminal.Comma ∷ []);
}

mark_at_comma : (g : Setting) (around : List Outer) (b : Before) (spot : Spot) (a : Entry) (next : Reading) → IsLawfulAt g (at_comma around b spot a)
    → step g (reading_at (at_comma around b spot a)) by_terminal.Question ≡ Some next → GoesOn g (plain (at_comma around b spot a)) by_terminal.Question next
mark_at_comma g around b spot (name_entry (named (names.Declared n))) next h e =
    mark_read g (first_site around b spot) n (by_expected.EntryComma true) (plain (at_comma around b spot (name_entry (named (names.Declared n))))) next h.0 refl e
mark_at_comma g around b spot (name_entry (named (names.Imaginary other))) next h e = absurd cc
mark_at_comma g around b spot (name_entry (wildcard n r)) next h e = absurd cc
mark_at_comma g around b spot (number_entry n) next h e = absurd cc

from_comma : (g : Setting) (around : List Outer) (b : Before) (spot : Spot) (a : Entry) (t : Terminal) (next : Reading) → IsLawfulAt g (at_comma around b spot a)
    → step g (reading_at (at_comma around b spot a)) t ≡ Some next → GoesOn g (plain (at_comma around b spot a)) t next
from_comma g around b spot a (by_terminal.Number m) next h e = absurd cc
from_comma g around b spot a (by_terminal.Name m) next h e = absurd cc
from_comma g around b spot a (by_terminal.Imaginary m) next h e = absurd cc
from_comma g around b spot a (by_terminal.Delta m) next h e = absurd cc
from_comma g around b spot a (by_terminal.Sign m) next h e = absurd cc
from_comma g around b spot a by_terminal.Times next h e = absurd cc
from_comma g around b spot a by_terminal.Over next h e = absurd cc
from_comma g around b spot a by_terminal.Raise next h e = absurd cc
from_comma g around b spot a by_terminal.Open next h e = absurd cc
from_comma g around b spot a by_terminal.Close next h e = absurd cc
from_comma g around b spot a by_terminal.Comma next h e = comma_at_comma g around b spot a next h e
from_comma g around b spot a by_terminal.Period next h e = absurd cc
from_comma g around b spot a by_terminal.Equals next h e = absurd cc
from_comma g around b spot a by_terminal.Question next h e = mark_at_comma g around b spot a next h e
from_comma g around b spot a by_terminal.OpenBrace next h e = absurd cc
from_comma g around b spot a by_terminal.CloseBrace next h e = absurd cc
from_comma g around b spot a by_terminal.Colon next h e = absurd cc
from_comma g around b spot a by_terminal.And next h e = absurd cc
from_comma g around b spot a by_terminal.Or next h e = absurd cc
from_comma g around b spot a (by_terminal.Comparison m) next h e = absurd cc
from_comma g around b spot a by_terminal.Other next h e = absurd cc

second_entry_read : (g : Setting) (around : List Outer) (b : Before) (spot : Spot) (a c : Entry) (t : Terminal) (piece : Piece) (next : Reading) → IsLawfulAt g (at_second_entry around b spot a)
    → IsLawfulEntry g c → written_entry c ≡ t ∷ [] → pieces_of_entry c ≡ piece ∷ []
    → Some (at (kept_to around b (kept_entry b spot a) ++ piece ∷ []) (brackets around) (by_expected.DeltaClosing (is_declared_entry c))) ≡ Some next → GoesOn g (plain (at_second_entry around b spot a)) t next
second_entry_read g around b spot a c t piece next h l w p e = record {
  there = plain (at_delta_closing around b spot a c);
  lawful = (h.0, h.1, l);
  kept = sym (same_Some _ next e) ∙ ap (λ (kept : List Piece). at kept (brackets around) (by_expected.DeltaClosing (is_declared_entry c)))
      (third (kept_around around) (kept_before b) (kept_entry b spot a) (piece ∷ []) ∙ ap (λ (ps : List Piece). kept_to around b (kept_entry b spot a ++ ps)) (sym p));
  written = fourth (written_around around) (written_before b) (written_first spot a) (by_terminal.Comma ∷ []) (t ∷ []) ∙ ap (λ (text : List Terminal). written_to around b (written_first spot a ++ by_terminal.Comma ∷ text)) (sym w);
}

from_second_entry : (g : Setting) (around : List Outer) (b : Before) (spot : Spot) (a : Entry) (t : Terminal) (next : Reading) → IsLawfulAt g (at_second_entry around b spot a)
    → step g (reading_at (at_second_entry around b spot a)) t ≡ Some next → GoesOn g (plain (at_second_entry around b spot a)) t next
from_second_entry g around b spot a (by_terminal.Number n) next h e = second_entry_read g around b spot a (number_entry n) (by_terminal.Number n) (pieces.EntryNumber n) next h tt refl refl e
from_second_entry g around b spot a (by_terminal.Name n) next h e = second_entry_read g around b spot a (name_entry (named (names.Declared n))) (by_terminal.Name n) (pieces.EntryName (names.Declared n)) next h tt refl refl e
from_second_entry g around b spot a (by_terminal.Imaginary other) next h e = second_entry_read g around b spot a (name_entry (named (names.Imaginary other))) (by_terminal.Imaginary other) (pieces.EntryName (names.Imaginary other)) next h tt refl refl e
from_second_entry g around b spot a (by_terminal.Delta m) next h e = absurd cc
from_second_entry g around b spot a (by_terminal.Sign m) next h e = absurd cc
from_second_entry g around b spot a by_terminal.Times next h e = absurd cc
from_second_entry g around b spot a by_terminal.Over next h e = absurd cc
from_second_entry g around b spot a by_terminal.Raise next h e = absurd cc
from_second_entry g around b spot a by_terminal.Open next h e = absurd cc
from_second_entry g around b spot a by_terminal.Close next h e = absurd cc
from_second_entry g around b spot a by_terminal.Comma next h e = absurd cc
from_second_entry g around b spot a by_terminal.Period next h e = absurd cc
from_second_entry g around b spot a by_terminal.Equals next h e = absurd cc
from_second_entry g around b spot a by_terminal.Question next h e = absurd cc
from_second_entry g around b spot a by_terminal.OpenBrace next h e = absurd cc
from_second_entry g around b spot a by_terminal.CloseBrace next h e = absurd cc
from_second_entry g around b spot a by_terminal.Colon next h e = absurd cc
from_second_entry g around b spot a by_terminal.And next h e = absurd cc
from_second_entry g around b spot a by_terminal.Or next h e = absurd cc
from_second_entry g around b spot a (by_terminal.Comparison m) next h e = absurd cc
from_second_entry g around b spot a by_terminal.Other next h e = absurd cc

close_at_delta : (g : Setting) (around : List Outer) (b : Before) (spot : Spot) (a c : Entry) (next : Reading) → IsLawfulAt g (at_delta_closing around b spot a c)
    → step g (reading_at (at_delta_closing around b spot a c)) by_terminal.Close ≡ Some next → GoesOn g (plain (at_delta_closing around b spot a c)) by_terminal.Close next
close_at_delta g around b spot a c next h e = record {
  there = plain (at_operator around b (factor (delta spot a c) None));
  lawful = of_entries h;
  kept = sym (same_Some _ next e) ∙ ap (λ (kept : List Piece). at kept (brackets around) (by_expected.Operator last.Enclosed)) (third (kept_around around) (kept_before b) (kept_entry b spot a ++ pieces_of_entry c) (pieces.EndOfDelta ∷ []));
  written = ended (written_around around) (written_before b) (written_first spot a ++ by_terminal.Comma ∷ written_entry c) (by_terminal.Close ∷ []);
}
  where
    ended : (a b c d : List Terminal) → (a ++ (b ++ c)) ++ d ≡ a ++ (b ++ ((c ++ d) ++ []))
    ended a b c d = simp (append_assoc, append-nil)

    of_entries : IsLawfulAt g (at_delta_closing around b spot a c) → IsLawfulTo g around b (factor (delta spot a c) None)
    of_entries k = record {
      lawful_around = k.0.lawful_front.lawful_around;
      lawful_before = k.0.lawful_front.lawful_before;
      lawful_factor = ((k.0.room, k.1, k.2), tt, tt);
      fits = fits_taken b (factor (delta spot a c) None) k.0.lawful_front.takes;
    }

mark_at_delta : (g : Setting) (around : List Outer) (b : Before) (spot : Spot) (a c : Entry) (next : Reading) → IsLawfulAt g (at_delta_closing around b spot a c)
    → step g (reading_at (at_delta_closing around b spot a c)) by_terminal.Question ≡ Some next → GoesOn g (plain (at_delta_closing around b spot a c)) by_terminal.Question next
mark_at_delta g around b spot a (name_entry (named (names.Declared n))) next h e =
    mark_read g (second_site around b spot a) n (by_expected.DeltaClosing true) (plain (at_delta_closing around b spot a (name_entry (named (names.Declared n))))) next (h.0, h.1) refl e
mark_at_delta g around b spot a (name_entry (named (names.Imaginary other))) next h e = absurd cc
mark_at_delta g around b spot a (name_entry (wildcard n r)) next h e = absurd cc
mark_at_delta g around b spot a (number_entry n) next h e = absurd cc

from_delta_closing : (g : Setting) (around : List Outer) (b : Before) (spot : Spot) (a c : Entry) (t : Terminal) (next : Reading) → IsLawfulAt g (at_delta_closing around b spot a c)
    → step g (reading_at (at_delta_closing around b spot a c)) t ≡ Some next → GoesOn g (plain (at_delta_closing around b spot a c)) t next
from_delta_closing g around b spot a c (by_terminal.Number m) next h e = absurd cc
from_delta_closing g around b spot a c (by_terminal.Name m) next h e = absurd cc
from_delta_closing g around b spot a c (by_terminal.Imaginary m) next h e = absurd cc
from_delta_closing g around b spot a c (by_terminal.Delta m) next h e = absurd cc
from_delta_closing g around b spot a c (by_terminal.Sign m) next h e = absurd cc
from_delta_closing g around b spot a c by_terminal.Times next h e = absurd cc
from_delta_closing g around b spot a c by_terminal.Over next h e = absurd cc
from_delta_closing g around b spot a c by_terminal.Raise next h e = absurd cc
from_delta_closing g around b spot a c by_terminal.Open next h e = absurd cc
from_delta_closing g around b spot a c by_terminal.Close next h e = close_at_delta g around b spot a c next h e
from_delta_closing g around b spot a c by_terminal.Comma next h e = absurd cc
from_delta_closing g around b spot a c by_terminal.Period next h e = absurd cc
from_delta_closing g around b spot a c by_terminal.Equals next h e = absurd cc
from_delta_closing g around b spot a c by_terminal.Question next h e = mark_at_delta g around b spot a c next h e
from_delta_closing g around b spot a c by_terminal.OpenBrace next h e = absurd cc
from_delta_closing g around b spot a c by_terminal.CloseBrace next h e = absurd cc
from_delta_closing g around b spot a c by_terminal.Colon next h e = absurd cc
from_delta_closing g around b spot a c by_terminal.And next h e = absurd cc
from_delta_closing g around b spot a c by_terminal.Or next h e = absurd cc
from_delta_closing g around b spot a c (by_terminal.Comparison m) next h e = absurd cc
from_delta_closing g around b spot a c by_terminal.Other next h e = absurd cc

-- ---- all places

from_place : (g : Setting) (place : Place) (t : Terminal) (next : Reading) → IsLawfulAt g place → step g (reading_at place) t ≡ Some next → GoesOn g (plain place) t next
from_place g (at_factor around b) t next h e = from_factor g around b t next h e
from_place g (at_argument around b n) t next h e = from_argument g around b n t next h e
from_place g (at_further around b n args) t next h e = from_further g around b n args t next h e
from_place g (at_exponent around b base is_parenthesized sign) t next h e = from_exponent g around b base is_parenthesized sign t next h e
from_place g (at_closing around b base sign n) t next h e = from_closing g around b base sign n t next h e
from_place g (at_operator around b f) t next h e = from_operator g around b f t next h e
from_place g (at_vector around b p) t next h e = from_vector g around b p t next h e
from_place g (at_delta around b spot) t next h e = from_delta g around b spot t next h e
from_place g (at_first_entry around b spot) t next h e = from_first_entry g around b spot t next h e
from_place g (at_comma around b spot a) t next h e = from_comma g around b spot a t next h e
from_place g (at_second_entry around b spot a) t next h e = from_second_entry g around b spot a t next h e
from_place g (at_delta_closing around b spot a c) t next h e = from_delta_closing g around b spot a c t next h e
from_place g (at_field_name around b n args) t next h e = from_field_name g around b n args t next h e
from_place g (at_field_end around b n args m) t next h e = from_field_end g around b n args m t next h e

-- ---- behind the mark of a wildcard

-- the mark of a power
from_power_mark : (g : Setting) (around : List Outer) (b : Before) (base : Base) (n : Spelled) (t : Terminal) (next : Reading) → IsLawfulStand g (power_mark around b base n)
    → step g (reading_of_stand (power_mark around b base n)) t ≡ Some next → GoesOn g (power_mark around b base n) t next
from_power_mark g around b base n (by_terminal.Number m) next h e = absurd cc
from_power_mark g around b base n (by_terminal.Name m) next h e = absurd cc
from_power_mark g around b base n (by_terminal.Imaginary m) next h e = absurd cc
from_power_mark g around b base n (by_terminal.Delta m) next h e = absurd cc
from_power_mark g around b base n (by_terminal.Sign m) next h e = absurd cc
from_power_mark g around b base n by_terminal.Times next h e = absurd cc
from_power_mark g around b base n by_terminal.Over next h e = absurd cc
from_power_mark g around b base n by_terminal.Raise next h e = absurd cc
from_power_mark g around b base n by_terminal.Open next h e = absurd cc
from_power_mark g around b base n by_terminal.Close next h e = absurd cc
from_power_mark g around b base n by_terminal.Comma next h e = absurd cc
from_power_mark g around b base n by_terminal.Period next h e = absurd cc
from_power_mark g around b base n by_terminal.Equals next h e = absurd cc
from_power_mark g around b base n by_terminal.Question next h e = mark_read g (power_site around b base) n by_expected.PowerMark (power_mark around b base n) next h.before refl e
from_power_mark g around b base n by_terminal.OpenBrace next h e = absurd cc
from_power_mark g around b base n by_terminal.CloseBrace next h e = absurd cc
from_power_mark g around b base n by_terminal.Colon next h e = absurd cc
from_power_mark g around b base n by_terminal.And next h e = absurd cc
from_power_mark g around b base n by_terminal.Or next h e = absurd cc
from_power_mark g around b base n (by_terminal.Comparison m) next h e = absurd cc
from_power_mark g around b base n by_terminal.Other next h e = absurd cc

-- what may follow a wildcard without a restriction
follower_read : (g : Setting) (site : Site) (n : Spelled) (t : Terminal) (next : Reading) → IsLawfulMarked g site → IsFollower t
    → step g (reading_of_stand (restriction site n)) t ≡ Some next → GoesOn g (restriction site n) t next
follower_read g site n t next h f e =
    let place : Place = behind site (wildcard n Any) in
    let kept : List Piece = (reading_at place).pieces in
    let opened : List Bracket = (reading_at place).opened in
    let same : step g (expecting place (behind_wildcard (slot_of site))) t ≡ Some next =
    ap (applied (expecting place (behind_wildcard (slot_of site)))) (as_expected g (slot_of site) t ∙ sym (follows g (slot_of site) t f))
    ∙ applied_same kept opened (behind_wildcard (slot_of site)) (by_expected.Restriction (slot_of site)) (restriction_effect g (slot_of site) t)
    ∙ e in
    let there : step g (reading_at place) t ≡ Some next = ap (λ (r : Reading). step g r t) (sym (expects_behind site n Any)) ∙ same in
    let k = from_place g place t next (lawful_behind g site n Any h tt) there in
    record {
      there = k.there;
      lawful = k.lawful;
      kept = k.kept;
      written = ap (λ (text : List Terminal). text ++ t ∷ []) (written_marked site n Any) ∙ k.written;
    }

-- a set
set_read : (g : Setting) (site : Site) (n m : Spelled) (next : Reading) → IsLawfulMarked g site
    → step g (reading_of_stand (restriction site n)) (by_terminal.Name m) ≡ Some next → GoesOn g (restriction site n) (by_terminal.Name m) next
set_read g site n m next h e =
    let k = rw (mark_changed site n Any (changes.Set m) (Some (Set m)) refl) at e in
    record {
      there = plain (behind site (wildcard n (Set m)));
      lawful = lawful_behind g site n (Set m) h tt;
      kept = sym (same_Some _ next k) ∙ same_opened site (wildcard n Any) (wildcard n (Set m)) (behind_wildcard (slot_of site)) ∙ expects_behind site n (Set m);
      written = append_assoc (written_front site n) (by_terminal.Question ∷ []) (by_terminal.Name m ∷ []) ∙ written_marked site n (Set m);
    }

brace_read : (g : Setting) (site : Site) (n : Spelled) (next : Reading) → IsLawfulMarked g site
    → step g (reading_of_stand (restriction site n)) by_terminal.OpenBrace ≡ Some next → GoesOn g (restriction site n) by_terminal.OpenBrace next
brace_read g site n next h e = record {
  there = element site n Any;
  lawful = (h, tt);
  kept = sym (same_Some _ next e);
  written = append_assoc (written_front site n) (by_terminal.Question ∷ []) (by_terminal.OpenBrace ∷ []);
}

from_restriction : (g : Setting) (site : Site) (n : Spelled) (t : Terminal) (next : Reading) → IsLawfulStand g (restriction site n)
    → step g (reading_of_stand (restriction site n)) t ≡ Some next → GoesOn g (restriction site n) t next
from_restriction g site n (by_terminal.Number m) next h e = follower_read g site n (by_terminal.Number m) next h tt e
from_restriction g site n (by_terminal.Name m) next h e = set_read g site n m next h e
from_restriction g site n (by_terminal.Imaginary m) next h e = follower_read g site n (by_terminal.Imaginary m) next h tt e
from_restriction g site n (by_terminal.Delta m) next h e = follower_read g site n (by_terminal.Delta m) next h tt e
from_restriction g site n (by_terminal.Sign m) next h e = follower_read g site n (by_terminal.Sign m) next h tt e
from_restriction g site n by_terminal.Times next h e = follower_read g site n by_terminal.Times next h tt e
from_restriction g site n by_terminal.Over next h e = follower_read g site n by_terminal.Over next h tt e
from_restriction g site n by_terminal.Raise next h e = follower_read g site n by_terminal.Raise next h tt e
from_restriction g site n by_terminal.Open next h e = follower_read g site n by_terminal.Open next h tt e
from_restriction g site n by_terminal.Close next h e = follower_read g site n by_terminal.Close next h tt e
from_restriction g site n by_terminal.Comma next h e = follower_read g site n by_terminal.Comma next h tt e
from_restriction g site n by_terminal.Period next h e = follower_read g site n by_terminal.Period next h tt e
from_restriction g site n by_terminal.Equals next h e = follower_read g site n by_terminal.Equals next h tt e
from_restriction g site n by_terminal.Question next h e = follower_read g site n by_terminal.Question next h tt e
from_restriction g site n by_terminal.OpenBrace next h e = brace_read g site n next h e
from_restriction g site n by_terminal.CloseBrace next h e = follower_read g site n by_terminal.CloseBrace next h tt e
from_restriction g site n by_terminal.Colon next h e = follower_read g site n by_terminal.Colon next h tt e
from_restriction g site n by_terminal.And next h e = follower_read g site n by_terminal.And next h tt e
from_restriction g site n by_terminal.Or next h e = follower_read g site n by_terminal.Or next h tt e
from_restriction g site n (by_terminal.Comparison m) next h e = follower_read g site n (by_terminal.Comparison m) next h tt e
from_restriction g site n by_terminal.Other next h e = follower_read g site n by_terminal.Other next h tt e

-- ---- in braces

-- a further element, whose text ends there
element_read : (g : Setting) (site : Site) (n : Spelled) (r : Restriction) (old : Expected) (c : Change) (o : Option Restriction) (from : Stand) (t : Terminal) (text : List Terminal) (next : Reading)
    → IsLawfulMarked g site → changed c (pieces.Marked r) ≡ option_map (λ x. pieces.Marked x) o → ((made : Restriction) → o ≡ Some made → IsFurther r made text)
    → written_stand from ++ t ∷ [] ≡ written_front site n ++ (by_terminal.Question ∷ by_terminal.OpenBrace ∷ (begun_elements r ++ text))
    → option_map (λ (m : Reading). at m.pieces m.opened (by_expected.ElementEnd (slot_of site))) (changed_reading 0 c (expecting (behind site (wildcard n r)) old)) ≡ Some next
    → GoesOn g from t next
element_read g site n r old c None from t text next h made_so further w e =
    let k = rw (mark_changed site n r c None made_so) at e in absurd cc
element_read g site n r old c (Some made) from t text next h made_so further w e =
    let k = rw (mark_changed site n r c (Some made) made_so) at e in
    let f = further made refl in
    record {
      there = element_end site n made;
      lawful = (h, f.are_elements);
      kept = sym (same_Some _ next k) ∙ same_opened site (wildcard n r) (wildcard n made) (by_expected.ElementEnd (slot_of site));
      written = w ∙ ap (λ (rest : List Terminal). written_front site n ++ (by_terminal.Question ∷ by_terminal.OpenBrace ∷ rest)) (sym f.written);
    }

front_text : (site : Site) (n : Spelled) (text : List Terminal) (t : Terminal)
    → (written_front site n ++ (by_terminal.Question ∷ by_terminal.OpenBrace ∷ text)) ++ t ∷ [] ≡ written_front site n ++ (by_terminal.Question ∷ by_terminal.OpenBrace ∷ (text ++ t ∷ []))
front_text site n text t = append_assoc (written_front site n) (by_terminal.Question ∷ by_terminal.OpenBrace ∷ text) (t ∷ [])

from_element : (g : Setting) (site : Site) (n : Spelled) (r : Restriction) (t : Terminal) (next : Reading) → IsLawfulStand g (element site n r)
    → step g (reading_of_stand (element site n r)) t ≡ Some next → GoesOn g (element site n r) t next
from_element g site n r (by_terminal.Number m) next h e = let k : SignedNumber = record { sign = None; number = m } in element_read g site n r (by_expected.Element (slot_of site)) (changes.Number k) (with_number k r) (element site n r) (by_terminal.Number m) (by_terminal.Number m ∷ []) next h.0 refl (λ made x. further_number k r made h.1 x) (front_text site n (begun_elements r) (by_terminal.Number m)) e
from_element g site n r (by_terminal.Name m) next h e = element_read g site n r (by_expected.Element (slot_of site)) (changes.Name m) (with_name m r) (element site n r) (by_terminal.Name m) (by_terminal.Name m ∷ []) next h.0 refl (λ made x. further_name m r made h.1 x) (front_text site n (begun_elements r) (by_terminal.Name m)) e
from_element g site n r (by_terminal.Imaginary m) next h e = absurd cc
from_element g site n r (by_terminal.Delta m) next h e = absurd cc
from_element g site n r (by_terminal.Sign m) next h e = record { there = element_number site n r m; lawful = h; kept = sym (same_Some _ next e); written = front_text site n (begun_elements r) (by_terminal.Sign m) }
from_element g site n r by_terminal.Times next h e = absurd cc
from_element g site n r by_terminal.Over next h e = absurd cc
from_element g site n r by_terminal.Raise next h e = absurd cc
from_element g site n r by_terminal.Open next h e = absurd cc
from_element g site n r by_terminal.Close next h e = absurd cc
from_element g site n r by_terminal.Comma next h e = absurd cc
from_element g site n r by_terminal.Period next h e = absurd cc
from_element g site n r by_terminal.Equals next h e = absurd cc
from_element g site n r by_terminal.Question next h e = absurd cc
from_element g site n r by_terminal.OpenBrace next h e = absurd cc
from_element g site n r by_terminal.CloseBrace next h e = absurd cc
from_element g site n r by_terminal.Colon next h e = absurd cc
from_element g site n r by_terminal.And next h e = absurd cc
from_element g site n r by_terminal.Or next h e = absurd cc
from_element g site n r (by_terminal.Comparison m) next h e = absurd cc
from_element g site n r by_terminal.Other next h e = absurd cc

from_element_number : (g : Setting) (site : Site) (n : Spelled) (r : Restriction) (sign : Sign) (t : Terminal) (next : Reading) → IsLawfulStand g (element_number site n r sign)
    → step g (reading_of_stand (element_number site n r sign)) t ≡ Some next → GoesOn g (element_number site n r sign) t next
from_element_number g site n r sign (by_terminal.Number m) next h e = let k : SignedNumber = record { sign = Some sign; number = m } in element_read g site n r (by_expected.ElementNumber (slot_of site) sign) (changes.Number k) (with_number k r) (element_number site n r sign) (by_terminal.Number m) (written_number k) next h.0 refl (λ made x. further_number k r made h.1 x) (front_text site n (begun_elements r ++ by_terminal.Sign sign ∷ []) (by_terminal.Number m) ∙ ap (λ (text : List Terminal). written_front site n ++ (by_terminal.Question ∷ by_terminal.OpenBrace ∷ text)) (append_assoc (begun_elements r) (by_terminal.Sign sign ∷ []) (by_terminal.Number m ∷ []))) e
from_element_number g site n r sign (by_terminal.Name m) next h e = absurd cc
from_element_number g site n r sign (by_terminal.Imaginary m) next h e = absurd cc
from_element_number g site n r sign (by_terminal.Delta m) next h e = absurd cc
from_element_number g site n r sign (by_terminal.Sign m) next h e = absurd cc
from_element_number g site n r sign by_terminal.Times next h e = absurd cc
from_element_number g site n r sign by_terminal.Over next h e = absurd cc
from_element_number g site n r sign by_terminal.Raise next h e = absurd cc
from_element_number g site n r sign by_terminal.Open next h e = absurd cc
from_element_number g site n r sign by_terminal.Close next h e = absurd cc
from_element_number g site n r sign by_terminal.Comma next h e = absurd cc
from_element_number g site n r sign by_terminal.Period next h e = absurd cc
from_element_number g site n r sign by_terminal.Equals next h e = absurd cc
from_element_number g site n r sign by_terminal.Question next h e = absurd cc
from_element_number g site n r sign by_terminal.OpenBrace next h e = absurd cc
from_element_number g site n r sign by_terminal.CloseBrace next h e = absurd cc
from_element_number g site n r sign by_terminal.Colon next h e = absurd cc
from_element_number g site n r sign by_terminal.And next h e = absurd cc
from_element_number g site n r sign by_terminal.Or next h e = absurd cc
from_element_number g site n r sign (by_terminal.Comparison m) next h e = absurd cc
from_element_number g site n r sign by_terminal.Other next h e = absurd cc

-- a comma, or the end
parted_elements : (site : Site) (n : Spelled) (r : Restriction) → AreElements r
    → (written_front site n ++ (by_terminal.Question ∷ by_terminal.OpenBrace ∷ elements r)) ++ by_terminal.Comma ∷ [] ≡ written_front site n ++ (by_terminal.Question ∷ by_terminal.OpenBrace ∷ begun_elements r)
parted_elements site n Any h = absurd h
parted_elements site n (Set m) h = absurd h
parted_elements site n (Names ns) h = front_text site n (written_names ns) by_terminal.Comma
parted_elements site n (Numbers ns) h = front_text site n (written_numbers ns) by_terminal.Comma

closed_elements : (site : Site) (n : Spelled) (r : Restriction) → AreElements r
    → (written_front site n ++ (by_terminal.Question ∷ by_terminal.OpenBrace ∷ elements r)) ++ by_terminal.CloseBrace ∷ [] ≡ written_front site n ++ (by_terminal.Question ∷ written_restriction r)
closed_elements site n Any h = absurd h
closed_elements site n (Set m) h = absurd h
closed_elements site n (Names ns) h = front_text site n (written_names ns) by_terminal.CloseBrace
closed_elements site n (Numbers ns) h = front_text site n (written_numbers ns) by_terminal.CloseBrace

from_element_end : (g : Setting) (site : Site) (n : Spelled) (r : Restriction) (t : Terminal) (next : Reading) → IsLawfulStand g (element_end site n r)
    → step g (reading_of_stand (element_end site n r)) t ≡ Some next → GoesOn g (element_end site n r) t next
from_element_end g site n r (by_terminal.Number m) next h e = absurd cc
from_element_end g site n r (by_terminal.Name m) next h e = absurd cc
from_element_end g site n r (by_terminal.Imaginary m) next h e = absurd cc
from_element_end g site n r (by_terminal.Delta m) next h e = absurd cc
from_element_end g site n r (by_terminal.Sign m) next h e = absurd cc
from_element_end g site n r by_terminal.Times next h e = absurd cc
from_element_end g site n r by_terminal.Over next h e = absurd cc
from_element_end g site n r by_terminal.Raise next h e = absurd cc
from_element_end g site n r by_terminal.Open next h e = absurd cc
from_element_end g site n r by_terminal.Close next h e = absurd cc
from_element_end g site n r by_terminal.Comma next h e = record { there = element site n r; lawful = (h.0, elements_begun r h.1); kept = sym (same_Some _ next e); written = parted_elements site n r h.1 }
from_element_end g site n r by_terminal.Period next h e = absurd cc
from_element_end g site n r by_terminal.Equals next h e = absurd cc
from_element_end g site n r by_terminal.Question next h e = absurd cc
from_element_end g site n r by_terminal.OpenBrace next h e = absurd cc
from_element_end g site n r by_terminal.CloseBrace next h e = record { there = plain (behind site (wildcard n r)); lawful = lawful_behind g site n r h.0 (some_elements r h.1); kept = sym (same_Some _ next e) ∙ expects_behind site n r; written = closed_elements site n r h.1 ∙ written_marked site n r }
from_element_end g site n r by_terminal.Colon next h e = absurd cc
from_element_end g site n r by_terminal.And next h e = absurd cc
from_element_end g site n r by_terminal.Or next h e = absurd cc
from_element_end g site n r (by_terminal.Comparison m) next h e = absurd cc
from_element_end g site n r by_terminal.Other next h e = absurd cc

-- ---- wherever reading stands

goes_on : (g : Setting) (stand : Stand) (t : Terminal) (next : Reading) → IsLawfulStand g stand → step g (reading_of_stand stand) t ≡ Some next → GoesOn g stand t next
goes_on g (plain place) t next h e = from_place g place t next h e
goes_on g (power_mark around b base n) t next h e = from_power_mark g around b base n t next h e
goes_on g (restriction site n) t next h e = from_restriction g site n t next h e
goes_on g (element site n r) t next h e = from_element g site n r t next h e
goes_on g (element_number site n r sign) t next h e = from_element_number g site n r sign t next h e
goes_on g (element_end site n r) t next h e = from_element_end g site n r t next h e

-- a tree in this setting that is written and kept so
pub record IsText (g : Setting) (terminals : List Terminal) (kept_pieces : List Piece) : Type 0 where
  pub tree : Sum
  pub lawful : IsLawfulSum g 0 tree
  pub written : terminals ≡ written_sum tree
  pub kept : kept_pieces ≡ pieces_of_sum tree

ends_at_operator : (g : Setting) (around : List Outer) (b : Before) (f : Factor) (kept : List Piece) → IsLawfulTo g around b f → all_closed (brackets around) (kept_factor around b f) ≡ Some kept → IsText g (written_at (at_operator around b f)) kept
ends_at_operator g (c ∷ around) b f kept h e = absurd cc
ends_at_operator g [] b f kept h e = record {
  tree = sum_to b f;
  lawful = lawful_whole g 0 b f h.lawful_before h.lawful_factor h.fits;
  written = sym (written_whole b f);
  kept = sym (same_Some _ kept e) ∙ sym (kept_whole b f);
}

ends : (g : Setting) (place : Place) (kept : List Piece) → IsLawfulAt g place → finished (reading_at place) ≡ Some kept → IsText g (written_at place) kept
ends g (at_factor around b) kept h e = absurd cc
ends g (at_argument around b n) kept h e = absurd cc
ends g (at_further around b n args) kept h e = absurd cc
ends g (at_exponent around b base is_parenthesized sign) kept h e = absurd cc
ends g (at_closing around b base sign n) kept h e = absurd cc
ends g (at_operator around b f) kept h e = ends_at_operator g around b f kept h e
ends g (at_vector around b p) kept h e = absurd cc
ends g (at_delta around b spot) kept h e = absurd cc
ends g (at_first_entry around b spot) kept h e = absurd cc
ends g (at_comma around b spot a) kept h e = absurd cc
ends g (at_second_entry around b spot a) kept h e = absurd cc
ends g (at_delta_closing around b spot a c) kept h e = absurd cc
ends g (at_field_name around b n args) kept h e = absurd cc
ends g (at_field_end around b n args m) kept h e = absurd cc

-- behind a mark all may end as behind its wildcard
same_end : (site : Site) (n : Spelled) → finished (reading_of_stand (restriction site n)) ≡ finished (reading_at (behind site (wildcard n Any)))
same_end (factor_site around b) n = refl
same_end (dot_site around b p) n = refl
same_end (first_site around b spot) n = refl
same_end (second_site around b spot a) n = refl
same_end (power_site around b base) n = refl

stand_ends : (g : Setting) (stand : Stand) (kept : List Piece) → IsLawfulStand g stand → finished (reading_of_stand stand) ≡ Some kept → IsText g (written_stand stand) kept
stand_ends g (plain place) kept h e = ends g place kept h e
stand_ends g (power_mark around b base n) kept h e = absurd cc
stand_ends g (restriction site n) kept h e =
    let k = ends g (behind site (wildcard n Any)) kept (lawful_behind g site n Any h tt) (sym (same_end site n) ∙ e) in
    record { tree = k.tree; lawful = k.lawful; written = written_marked site n Any ∙ k.written; kept = k.kept }
stand_ends g (element site n r) kept h e = absurd cc
stand_ends g (element_number site n r sign) kept h e = absurd cc
stand_ends g (element_end site n r) kept h e = absurd cc

sound_from : (g : Setting) (terminals : List Terminal) (stand : Stand) (kept : List Piece) → IsLawfulStand g stand → run g (reading_of_stand stand) terminals ≡ Some kept → IsText g (written_stand stand ++ terminals) kept
unfolding run
sound_from g [] stand kept h e = subst (λ (text : List Terminal). IsText g text kept) (sym (append-nil (written_stand stand))) (stand_ends g stand kept h e)
sound_from g (t ∷ terminals) stand kept h e = by_step (step g (reading_of_stand stand) t) refl e (λ there l f. sound_from g terminals there kept l f) where
  by_step : (o : Option Reading) → step g (reading_of_stand stand) t ≡ o → option_and_then (λ next. run g next terminals) o ≡ Some kept
      → ((there : Stand) → IsLawfulStand g there → run g (reading_of_stand there) terminals ≡ Some kept → IsText g (written_stand there ++ terminals) kept) → IsText g (written_stand stand ++ t ∷ terminals) kept
  by_step None s f again = absurd cc
  by_step (Some next) s f again =
      let k = goes_on g stand t next h s in
      let text : written_stand k.there ++ terminals ≡ written_stand stand ++ t ∷ terminals = ap (λ (front : List Terminal). front ++ terminals) (sym k.written) ∙ append_assoc (written_stand stand) (t ∷ []) terminals in
      subst (λ (text : List Terminal). IsText g text kept) text (again k.there k.lawful (ap (λ (r : Reading). run g r terminals) (sym k.kept) ∙ f))

-- What is read whole is lawful in its setting, with these pieces.
pub sound : (g : Setting) (terminals : List Terminal) (kept : List Piece) → run g begun terminals ≡ Some kept → IsText g terminals kept
sound g terminals kept e = sound_from g terminals (plain (at_factor [] (lead (start None)))) kept (record { lawful_around = tt; lawful_before = tt }) e
