-- Names that may be wildcards: where they stand, and how far what restricts them is read.
use Rattle.std.proofs.Common.{◌≡◌, cond, ltb, length, List, [], ◌∷◌, ◌++◌, Option, Some, None, option_map, refl, sym, ap, subst, ◌∙◌, append_assoc}
use Rattle.std.proofs.lemmas.List.{append-nil}
use Rattle.std.proofs.lemmas.Option.{same_Some}
use Rattle.form_base.specs.declared.spot.Spot.{Spot}
use Rattle.form_ast.specs.declared.expr.Sign.{Sign}
use Rattle.form_ast.specs.declared.expr.SignedNumber.{SignedNumber}
use Rattle.form_ast.specs.declared.expr.Spelled.{Spelled}
use Rattle.form_ast.specs.declared.expr.Named.TheVariants as names
use Rattle.form_ast.specs.declared.expr.Restriction.{Restriction}
use Rattle.form_ast.specs.declared.expr.Restriction.TheVariants.{Any, Set, Names, Numbers}
use Rattle.form_ast.specs.declared.expr.Piece.{Piece}
use Rattle.form_ast.specs.declared.expr.Piece.TheVariants as pieces
use Rattle.form_ast.specs.declared.setting.Setting.{Setting}
use Rattle.form_ast.specs.declared.setting.Setting.TheVariants as settings
use Rattle.form_ast.specs.Syntax.{Label, named, wildcard, Entry, name_entry, factor, raised, Base, name, dot, name_of, mark_of, pieces_of_entry, pieces_of_base}
use Rattle.form_ast.specs.Lawful.{most_open, AreSome, IsLawfulLabel, IsLawfulEntry}
use Rattle.form_grammar.specs.declared.terminal.Terminal.{Terminal}
use Rattle.form_grammar.specs.declared.terminal.Terminal.TheVariants as by_terminal
use Rattle.form_grammar.specs.declared.brackets.Bracket.{Bracket}
use Rattle.form_grammar.specs.declared.brackets.Bracket.TheVariants as brackets
use Rattle.form_grammar.specs.declared.effect.Slot.{Slot}
use Rattle.form_grammar.specs.declared.effect.Slot.TheVariants as slots
use Rattle.form_grammar.specs.declared.effect.Expected.{Expected}
use Rattle.form_grammar.specs.declared.effect.Expected.TheVariants as by_expected
use Rattle.form_grammar.specs.declared.effect.Effect.{Effect}
use Rattle.form_grammar.specs.declared.effect.Effect.TheVariants as by_effect
use Rattle.form_grammar.specs.declared.effect.Change.{Change}
use Rattle.form_grammar.specs.declared.effect.Change.TheVariants as changes
use Rattle.form_grammar.specs.Effect.{behind_wildcard, follower_effect, restriction_effect, effect_of}
use Rattle.form_grammar.specs.Grammar.{further_names, written_names, written_number, further_numbers, written_numbers, written_restriction, written_name, written_base}
use Rattle.form_grammar.specs.Reading.{Reading, applied, changed, behind_name, with_change, with_name, with_number}
use Rattle.form_grammar.proofs.Places.{Before, lead, by_times, by_over, Outer, Place, at_operator, at_comma, at_delta_closing, link_before, kept_before, kept_around, written_before, written_around, written_first, reading_at, written_at, IsLawfulTo, IsLawfulFront, IsLawfulEntries, IsLawfulAt, Fits}
use Rattle.form_grammar.proofs.Raised.{changed_here}

-- what is before a name that may be a wildcard
pub data Site : Type 0 where
  factor_site : List Outer → Before → Site
  dot_site : List Outer → Before → Label → Site
  first_site : List Outer → Before → Spot → Site
  second_site : List Outer → Before → Spot → Entry → Site
  power_site : List Outer → Before → Base → Site

abbrev pub slot_of : Site → Slot
slot_of (factor_site around b) = slots.Factor
slot_of (dot_site around b p) = slots.DotEnd
slot_of (first_site around b spot) = slots.FirstEntry
slot_of (second_site around b spot a) = slots.SecondEntry
slot_of (power_site around b base) = slots.Power

-- where reading stands behind the name
abbrev pub behind : Site → Label → Place
behind (factor_site around b) n = at_operator around b (factor (name n) None)
behind (dot_site around b p) n = at_operator around b (factor (dot p n) None)
behind (first_site around b spot) n = at_comma around b spot (name_entry n)
behind (second_site around b spot a) n = at_delta_closing around b spot a (name_entry n)
behind (power_site around b base) n = at_operator around b (raised base None n)

-- where reading stands in what restricts a wildcard, or at a place
pub data Stand : Type 0 where
  plain : Place → Stand
  power_mark : List Outer → Before → Base → Spelled → Stand
  restriction : Site → Spelled → Stand
  element : Site → Spelled → Restriction → Stand
  element_number : Site → Spelled → Restriction → Sign → Stand
  element_end : Site → Spelled → Restriction → Stand

abbrev pub expecting : Place → Expected → Reading
expecting place e = record { pieces = (reading_at place).pieces; opened = (reading_at place).opened; expected = e }

abbrev pub reading_of_stand : Stand → Reading
reading_of_stand (plain place) = reading_at place
reading_of_stand (power_mark around b base n) = expecting (at_operator around b (raised base None (named (names.Declared n)))) by_expected.PowerMark
reading_of_stand (restriction site n) = expecting (behind site (wildcard n Any)) (by_expected.Restriction (slot_of site))
reading_of_stand (element site n r) = expecting (behind site (wildcard n r)) (by_expected.Element (slot_of site))
reading_of_stand (element_number site n r sign) = expecting (behind site (wildcard n r)) (by_expected.ElementNumber (slot_of site) sign)
reading_of_stand (element_end site n r) = expecting (behind site (wildcard n r)) (by_expected.ElementEnd (slot_of site))

-- elements that are written, and a comma behind them, where they are some
abbrev pub elements : Restriction → List Terminal
elements Any = []
elements (Set n) = []
elements (Names ns) = written_names ns
elements (Numbers ns) = written_numbers ns

abbrev pub begun_elements : Restriction → List Terminal
begun_elements Any = []
begun_elements (Set n) = []
begun_elements (Names ns) = written_names ns ++ by_terminal.Comma ∷ []
begun_elements (Numbers ns) = written_numbers ns ++ by_terminal.Comma ∷ []

abbrev pub written_front : Site → Spelled → List Terminal
written_front site n = written_at (behind site (named (names.Declared n)))

abbrev pub written_stand : Stand → List Terminal
written_stand (plain place) = written_at place
written_stand (power_mark around b base n) = written_at (at_operator around b (raised base None (named (names.Declared n))))
written_stand (restriction site n) = written_front site n ++ by_terminal.Question ∷ []
written_stand (element site n r) = written_front site n ++ (by_terminal.Question ∷ by_terminal.OpenBrace ∷ begun_elements r)
written_stand (element_number site n r sign) = written_front site n ++ (by_terminal.Question ∷ by_terminal.OpenBrace ∷ (begun_elements r ++ by_terminal.Sign sign ∷ []))
written_stand (element_end site n r) = written_front site n ++ (by_terminal.Question ∷ by_terminal.OpenBrace ∷ elements r)

-- ---- what is lawful of it

-- these are elements
abbrev pub AreElements : Restriction → Type 0
AreElements (Names (n ∷ ns)) = Unit {0}
AreElements (Numbers (n ∷ ns)) = Unit {0}
AreElements _ = ⊥

-- these are elements, or none yet
abbrev pub AreBegun : Restriction → Type 0
AreBegun Any = Unit {0}
AreBegun r = AreElements r

pub some_elements : (r : Restriction) → AreElements r → AreSome r
some_elements Any h = absurd h
some_elements (Set n) h = absurd h
some_elements (Names []) h = absurd h
some_elements (Names (n ∷ ns)) h = tt
some_elements (Numbers []) h = absurd h
some_elements (Numbers (n ∷ ns)) h = tt

pub elements_begun : (r : Restriction) → AreElements r → AreBegun r
elements_begun Any h = absurd h
elements_begun (Set n) h = absurd h
elements_begun (Names []) h = absurd h
elements_begun (Names (n ∷ ns)) h = tt
elements_begun (Numbers []) h = absurd h
elements_begun (Numbers (n ∷ ns)) h = tt

-- what is before the name is lawful
abbrev pub IsLawfulSite : Setting → Site → Type 0
IsLawfulSite g (factor_site around b) = IsLawfulFront g around b
IsLawfulSite g (dot_site around b p) = IsLawfulFront g around b × IsLawfulLabel g p
IsLawfulSite g (first_site around b spot) = IsLawfulEntries g around b
IsLawfulSite g (second_site around b spot a) = IsLawfulEntries g around b × IsLawfulEntry g a
IsLawfulSite g (power_site around b base) = IsLawfulTo g around b (factor base None)

pub record IsLawfulMarked (g : Setting) (site : Site) : Type 0 where
  pub before : IsLawfulSite g site
  pub in_pattern : g ≡ settings.Pattern

abbrev pub IsLawfulStand : Setting → Stand → Type 0
IsLawfulStand g (plain place) = IsLawfulAt g place
IsLawfulStand g (power_mark around b base n) = IsLawfulMarked g (power_site around b base)
IsLawfulStand g (restriction site n) = IsLawfulMarked g site
IsLawfulStand g (element site n r) = IsLawfulMarked g site × AreBegun r
IsLawfulStand g (element_number site n r sign) = IsLawfulMarked g site × AreBegun r
IsLawfulStand g (element_end site n r) = IsLawfulMarked g site × AreElements r

fits_name : (b : Before) (n : Label) → Fits b (factor (name n) None)
fits_name (lead l) n = tt
fits_name (by_times l p) n = tt
fits_name (by_over l p) n = tt

fits_dot : (b : Before) (p q : Label) → Fits b (factor (dot p q) None)
fits_dot (lead l) p q = tt
fits_dot (by_times l r) p q = tt
fits_dot (by_over l r) p q = tt

pub fits_power : (b : Before) (base : Base) (sign : Option Sign) (n : Label) → Fits b (factor base None) → Fits b (raised base sign n)
fits_power (lead l) base sign n h = tt
fits_power (by_times l p) base sign n h = tt
fits_power (by_over l p) base sign n h = h

-- a wildcard behind it is lawful too
pub lawful_behind : (g : Setting) (site : Site) (n : Spelled) (r : Restriction) → IsLawfulMarked g site → AreSome r → IsLawfulAt g (behind site (wildcard n r))
lawful_behind g (factor_site around b) n r h some = record {
  lawful_around = h.before.lawful_around;
  lawful_before = h.before.lawful_before;
  lawful_factor = ((h.in_pattern, some), tt, tt);
  fits = fits_name b (wildcard n r);
}
lawful_behind g (dot_site around b p) n r h some = record {
  lawful_around = h.before.0.lawful_around;
  lawful_before = h.before.0.lawful_before;
  lawful_factor = ((h.before.1, (h.in_pattern, some)), tt, tt);
  fits = fits_dot b p (wildcard n r);
}
lawful_behind g (first_site around b spot) n r h some = (h.before, (h.in_pattern, some))
lawful_behind g (second_site around b spot a) n r h some = (h.before.0, h.before.1, (h.in_pattern, some))
lawful_behind g (power_site around b base) n r h some = record {
  lawful_around = h.before.lawful_around;
  lawful_before = h.before.lawful_before;
  lawful_factor = (h.before.lawful_factor.0, (h.in_pattern, refl, some));
  fits = fits_power b base None (wildcard n r) h.before.fits;
}

-- ---- how it is kept and written

module _ {A : Type 0} where
  two_parts : (a b c e : List A) → (a ++ (b ++ c)) ++ e ≡ a ++ (b ++ (c ++ e))
  two_parts a b c e = simp append_assoc

  three_parts : (a b c d e : List A) → (a ++ (b ++ (c ++ d))) ++ e ≡ a ++ (b ++ (c ++ (d ++ e)))
  three_parts a b c d e = simp append_assoc

  alone_text : (a b c e : List A) → (a ++ (b ++ (c ++ []))) ++ e ≡ a ++ (b ++ ((c ++ e) ++ []))
  alone_text a b c e = simp (append_assoc, append-nil)

  dot_text : (a b c d e : List A) → (a ++ (b ++ ((c ++ d) ++ []))) ++ e ≡ a ++ (b ++ ((c ++ (d ++ e)) ++ []))
  dot_text a b c d e = simp (append_assoc, append-nil)

-- the mark of the name is a piece behind its own
pub kept_marked : (site : Site) (n : Spelled) (r : Restriction)
    → (reading_at (behind site (named (names.Declared n)))).pieces ++ pieces.Marked r ∷ [] ≡ (reading_at (behind site (wildcard n r))).pieces
kept_marked (factor_site around b) n r = two_parts (kept_around around) (kept_before b) (pieces.Name (link_before b) (names.Declared n) ∷ []) (pieces.Marked r ∷ [])
kept_marked (dot_site around b p) n r = three_parts (kept_around around) (kept_before b) (pieces.Dot (link_before b) (name_of p) ∷ mark_of p) (pieces.EndOfDot (names.Declared n) ∷ []) (pieces.Marked r ∷ [])
kept_marked (first_site around b spot) n r = two_parts (kept_around around) (kept_before b) (pieces.Delta (link_before b) spot ∷ pieces.EntryName (names.Declared n) ∷ []) (pieces.Marked r ∷ [])
kept_marked (second_site around b spot a) n r = three_parts (kept_around around) (kept_before b) (pieces.Delta (link_before b) spot ∷ pieces_of_entry a) (pieces.EntryName (names.Declared n) ∷ []) (pieces.Marked r ∷ [])
kept_marked (power_site around b base) n r = three_parts (kept_around around) (kept_before b) (pieces_of_base (link_before b) base) (pieces.RaisedByName None (names.Declared n) ∷ []) (pieces.Marked r ∷ [])

pub written_marked : (site : Site) (n : Spelled) (r : Restriction)
    → written_front site n ++ (by_terminal.Question ∷ written_restriction r) ≡ written_at (behind site (wildcard n r))
written_marked (factor_site around b) n r = alone_text (written_around around) (written_before b) (by_terminal.Name n ∷ []) (by_terminal.Question ∷ written_restriction r)
written_marked (dot_site around b p) n r = dot_text (written_around around) (written_before b) (written_name p) (by_terminal.Period ∷ by_terminal.Name n ∷ []) (by_terminal.Question ∷ written_restriction r)
written_marked (first_site around b spot) n r = two_parts (written_around around) (written_before b) (by_terminal.Delta spot ∷ by_terminal.Open ∷ by_terminal.Name n ∷ []) (by_terminal.Question ∷ written_restriction r)
written_marked (second_site around b spot a) n r = three_parts (written_around around) (written_before b) (written_first spot a) (by_terminal.Comma ∷ by_terminal.Name n ∷ []) (by_terminal.Question ∷ written_restriction r)
written_marked (power_site around b base) n r = three_parts (written_around around) (written_before b) (written_base base ++ (by_terminal.Raise ∷ [])) (by_terminal.Name n ∷ []) (by_terminal.Question ∷ written_restriction r)

-- what is expected behind it
pub expects_behind : (site : Site) (n : Spelled) (r : Restriction) → expecting (behind site (wildcard n r)) (behind_wildcard (slot_of site)) ≡ reading_at (behind site (wildcard n r))
expects_behind (factor_site around b) n r = refl
expects_behind (dot_site around b p) n r = refl
expects_behind (first_site around b spot) n r = refl
expects_behind (second_site around b spot a) n r = refl
expects_behind (power_site around b base) n r = refl

-- the same is open with another name
pub same_opened : (site : Site) (n other : Label) (e : Expected) → record { pieces = (reading_at (behind site other)).pieces; opened = (reading_at (behind site n)).opened; expected = e } ≡ expecting (behind site other) e
same_opened (factor_site around b) n other e = refl
same_opened (dot_site around b p) n other e = refl
same_opened (first_site around b spot) n other e = refl
same_opened (second_site around b spot a) n other e = refl
same_opened (power_site around b base) n other e = refl

-- ---- what a terminal does there

-- neither a set's name nor a brace
abbrev pub IsFollower : Terminal → Type 0
IsFollower (by_terminal.Name n) = ⊥
IsFollower by_terminal.OpenBrace = ⊥
IsFollower _ = Unit {0}

pub follows : (g : Setting) (slot : Slot) (t : Terminal) → IsFollower t → restriction_effect g slot t ≡ follower_effect g slot t
follows g slot (by_terminal.Number n) h = refl
follows g slot (by_terminal.Name n) h = absurd h
follows g slot (by_terminal.Imaginary spot) h = refl
follows g slot (by_terminal.Delta spot) h = refl
follows g slot (by_terminal.Sign sign) h = refl
follows g slot by_terminal.Times h = refl
follows g slot by_terminal.Over h = refl
follows g slot by_terminal.Raise h = refl
follows g slot by_terminal.Open h = refl
follows g slot by_terminal.Close h = refl
follows g slot by_terminal.Comma h = refl
follows g slot by_terminal.Period h = refl
follows g slot by_terminal.Equals h = refl
follows g slot by_terminal.Question h = refl
follows g slot by_terminal.OpenBrace h = absurd h
follows g slot by_terminal.CloseBrace h = refl
follows g slot by_terminal.Colon h = refl
follows g slot by_terminal.And h = refl
follows g slot by_terminal.Or h = refl
follows g slot (by_terminal.Comparison m) h = refl
follows g slot by_terminal.Other h = refl

pub as_expected : (g : Setting) (slot : Slot) (t : Terminal) → effect_of g (behind_wildcard slot) t ≡ follower_effect g slot t
as_expected g slots.Factor t = refl
as_expected g slots.DotEnd t = refl
as_expected g slots.FirstEntry t = refl
as_expected g slots.SecondEntry t = refl
as_expected g slots.Power t = refl

-- what an effect makes of a reading doesn't depend on what was expected
module _ (kept : List Piece) (opened : List Bracket) (old other : Expected) where
  abbrev before : Reading
  before = record { pieces = kept; opened = opened; expected = old }

  abbrev before_other : Reading
  before_other = record { pieces = kept; opened = opened; expected = other }

  changed_same : (f : List Piece → List Bracket → Reading) (o : Option (List Piece))
      → option_map (λ (n : Reading). f n.pieces n.opened) (option_map (λ pieces. record { pieces = pieces; opened = opened; expected = old }) o)
      ≡ option_map (λ (n : Reading). f n.pieces n.opened) (option_map (λ pieces. record { pieces = pieces; opened = opened; expected = other }) o)
  changed_same f None = refl
  changed_same f (Some ps) = refl

  pub applied_same : (e : Effect) → applied before e ≡ applied before_other e
  applied_same (by_effect.Waits next) = refl
  applied_same (by_effect.Adds p next) = refl
  applied_same (by_effect.Changes c next) = changed_same (λ ps os. record { pieces = ps; opened = os; expected = next }) (with_change 0 c kept)
  applied_same (by_effect.Opens link) = refl
  applied_same (by_effect.Encloses next) = refl
  applied_same (by_effect.Calls is_marked) =
      ap (λ (o : Option Reading). cond (ltb (length opened) most_open) o None)
      (changed_same (λ ps os. record { pieces = ps; opened = brackets.Arguments ∷ os; expected = by_expected.Argument }) (with_change (behind_name is_marked) changes.Call kept))
  applied_same by_effect.Closes = refl
  applied_same by_effect.Parts = refl
  applied_same (by_effect.Dots is_marked) = changed_same (λ ps os. record { pieces = ps; opened = os; expected = by_expected.Vector }) (with_change (behind_name is_marked) changes.Dot kept)
  applied_same by_effect.Fails = refl

-- ---- elements

further_names_end : (ns : List Spelled) (n : Spelled) → further_names (ns ++ n ∷ []) ≡ further_names ns ++ by_terminal.Comma ∷ by_terminal.Name n ∷ []
further_names_end [] n = refl
further_names_end (m ∷ ns) n = ap (λ (rest : List Terminal). by_terminal.Comma ∷ by_terminal.Name m ∷ rest) (further_names_end ns n)

further_numbers_end : (ns : List SignedNumber) (n : SignedNumber) → further_numbers (ns ++ n ∷ []) ≡ further_numbers ns ++ by_terminal.Comma ∷ written_number n
further_numbers_end [] n = ap (λ (rest : List Terminal). by_terminal.Comma ∷ rest) (append-nil (written_number n))
further_numbers_end (m ∷ ns) n =
    ap (λ (rest : List Terminal). by_terminal.Comma ∷ (written_number m ++ rest)) (further_numbers_end ns n)
    ∙ ap (λ (rest : List Terminal). by_terminal.Comma ∷ rest) (sym (append_assoc (written_number m) (further_numbers ns) (by_terminal.Comma ∷ written_number n)))

-- a further element, behind those that are written
pub record IsFurther (r next : Restriction) (text : List Terminal) : Type 0 where
  pub are_elements : AreElements next
  pub written : elements next ≡ begun_elements r ++ text

pub further_name : (n : Spelled) (r next : Restriction) → AreBegun r → with_name n r ≡ Some next → IsFurther r next (by_terminal.Name n ∷ [])
further_name n Any next h e = subst (λ (x : Restriction). IsFurther Any x (by_terminal.Name n ∷ [])) (same_Some _ next e) (record { are_elements = tt; written = refl })
further_name n (Set s) next h e = absurd h
further_name n (Names []) next h e = absurd h
further_name n (Names (m ∷ ns)) next h e =
    subst (λ (x : Restriction). IsFurther (Names (m ∷ ns)) x (by_terminal.Name n ∷ [])) (same_Some _ next e) (record {
      are_elements = tt;
      written = ap (λ (rest : List Terminal). by_terminal.Name m ∷ rest) (further_names_end ns n ∙ sym (append_assoc (further_names ns) (by_terminal.Comma ∷ []) (by_terminal.Name n ∷ [])));
    })
further_name n (Numbers ns) next h e = absurd cc

pub further_number : (n : SignedNumber) (r next : Restriction) → AreBegun r → with_number n r ≡ Some next → IsFurther r next (written_number n)
further_number n Any next h e = subst (λ (x : Restriction). IsFurther Any x (written_number n)) (same_Some _ next e) (record { are_elements = tt; written = append-nil (written_number n) })
further_number n (Set s) next h e = absurd h
further_number n (Numbers []) next h e = absurd h
further_number n (Numbers (m ∷ ns)) next h e =
    subst (λ (x : Restriction). IsFurther (Numbers (m ∷ ns)) x (written_number n)) (same_Some _ next e) (record {
      are_elements = tt;
      written = ap (λ (rest : List Terminal). written_number m ++ rest) (further_numbers_end ns n) ∙ regroup (written_number m) (further_numbers ns) (written_number n) by_terminal.Comma;
    })
  where
    regroup : (a b c : List Terminal) (x : Terminal) → a ++ (b ++ (x ∷ c)) ≡ ((a ++ b) ++ (x ∷ [])) ++ c
    regroup a b c x = simp append_assoc
further_number n (Names ns) next h e = absurd cc

-- ---- the mark is changed

pub mark_changed : (site : Site) (n : Spelled) (r : Restriction) (c : Change) (o : Option Restriction) → changed c (pieces.Marked r) ≡ option_map (λ x. pieces.Marked x) o
    → with_change 0 c (reading_at (behind site (wildcard n r))).pieces ≡ option_map (λ x. (reading_at (behind site (wildcard n x))).pieces) o
mark_changed site n r c o e =
    ap (with_change 0 c) (sym (kept_marked site n r))
    ∙ changed_here c (reading_at (behind site (named (names.Declared n)))).pieces [] (pieces.Marked r)
    ∙ ap (option_map (λ y. (reading_at (behind site (named (names.Declared n)))).pieces ++ y ∷ [])) e
    ∙ by_option o
  where
    by_option : (o : Option Restriction)
        → option_map (λ y. (reading_at (behind site (named (names.Declared n)))).pieces ++ y ∷ []) (option_map (λ x. pieces.Marked x) o)
        ≡ option_map (λ x. (reading_at (behind site (wildcard n x))).pieces) o
    by_option None = refl
    by_option (Some x) = ap (λ (ps : List Piece). Some ps) (kept_marked site n x)
