-- A lawful right side or pattern is read whole, and its pieces are kept.
use Rattle.std.proofs.Common.{◌≡◌, ℕ, suc, ◌<◌, Bool, true, false, ◌&&◌, cond, List, [], ◌∷◌, ◌++◌, length, Option, Some, None, option_map, option_and_then, refl, sym, ap, subst, ◌∙◌, append_assoc, add-one}
use Rattle.std.proofs.lemmas.Bool.{lt-ltb}
use Rattle.std.proofs.lemmas.List.{append-nil}
use Rattle.form_base.specs.declared.spot.Spot.{Spot}
use Rattle.form_ast.specs.declared.expr.Sign.{Sign}
use Rattle.form_ast.specs.declared.expr.Sign.TheVariants as signs
use Rattle.form_ast.specs.declared.expr.Link.{Link}
use Rattle.form_ast.specs.declared.expr.Link.TheVariants as links
use Rattle.form_number.specs.declared.number.Number.{Number}
use Rattle.form_ast.specs.declared.expr.SignedNumber.{SignedNumber}
use Rattle.form_ast.specs.declared.expr.Spelled.{Spelled}
use Rattle.form_ast.specs.declared.expr.Named.TheVariants as names
use Rattle.form_ast.specs.declared.expr.Restriction.{Restriction}
use Rattle.form_ast.specs.declared.expr.Restriction.TheVariants.{Any, Set, Names, Numbers}
use Rattle.form_ast.specs.declared.expr.Power.{Power}
use Rattle.form_ast.specs.declared.expr.Piece.{Piece}
use Rattle.form_ast.specs.declared.expr.Piece.TheVariants as pieces
use Rattle.form_ast.specs.declared.setting.Setting.{Setting}
use Rattle.form_ast.specs.declared.setting.Setting.TheVariants as settings
use Rattle.form_ast.specs.Syntax.{Label, named, wildcard, Entry, name_entry, number_entry, Sum, first, more, Product, one, times, over, Factor, factor, raised, Base, number, name, dot, delta, empty_call, call, parenthesis, Arguments, argument, further, Argument, expression, field, link_of, name_of, mark_of, pieces_of_entry, piece_of_power, pieces_of_sum, pieces_of_product, pieces_of_factor, pieces_of_base, pieces_of_arguments, pieces_of_argument}
use Rattle.form_ast.specs.Lawful.{most_open, AreSome, IsLawfulLabel, IsLawfulEntry, IsLawfulExponent, HasFields, HasNoParenthesis, IsDivisor, IsLawfulSum, IsLawfulProduct, IsLawfulFactor, IsLawfulBase, IsLawfulArguments, IsLawfulArgument}
use Rattle.form_grammar.specs.declared.brackets.Bracket.{Bracket}
use Rattle.form_grammar.specs.declared.brackets.Bracket.TheVariants.{Parenthesis}
use Rattle.form_grammar.specs.declared.brackets.Bracket.TheVariants as brackets
use Rattle.form_grammar.specs.declared.terminal.Terminal as terminals
use Rattle.form_grammar.specs.declared.terminal.Terminal.TheVariants as by_terminal
use Rattle.form_grammar.specs.declared.effect.Last as lasts
use Rattle.form_grammar.specs.declared.effect.Last.TheVariants as last
use Rattle.form_grammar.specs.declared.effect.Slot.{Slot}
use Rattle.form_grammar.specs.declared.effect.Slot.TheVariants as slots
use Rattle.form_grammar.specs.declared.effect.Expected.{Expected}
use Rattle.form_grammar.specs.declared.effect.Expected.TheVariants as by_expected
use Rattle.form_grammar.specs.declared.effect.Effect.TheVariants as by_effect
use Rattle.form_grammar.specs.declared.effect.Change.{Change}
use Rattle.form_grammar.specs.declared.effect.Change.TheVariants as changes
use Rattle.form_grammar.specs.Effect.{is_enclosed, is_negative, behind_number, raise_effect, behind_wildcard, follower_effect, factor_effect, effect_of}
use Rattle.form_grammar.specs.Grammar.{written_sum, written_product, written_factor, written_base, written_power, written_name, written_entry, written_arguments, written_argument, written_sign, further_names, written_number, further_numbers, written_restriction}
use Rattle.form_grammar.specs.Reading.{Reading, begun, unless_over, changed, with_change, with_name, with_number, applied, run}
use Rattle.form_grammar.proofs.Lasts.{base_may_raise, is_allowed}
use Rattle.form_grammar.proofs.Places.{last_of_label, last_of_dot, last_of_base, last_behind, last_of}
use Rattle.form_grammar.proofs.Raised.{changed_here}
use Rattle.form_grammar.proofs.Sites.{IsFollower, follows, as_expected, applied_same}

abbrev at : List Piece → List Bracket → Expected → Reading
at kept opened expected = record { pieces = kept; opened = opened; expected = expected }

-- what may stand behind a name without going on with what restricts it
abbrev Follows : List terminals.Terminal → Type 0
Follows [] = Unit {0}
Follows (t ∷ rest) = IsFollower t

-- reading goes over this text from one state to another, whatever may follow
abbrev Reads : Setting → List Bracket → List Piece → Expected → List terminals.Terminal → List Piece → Expected → Type 0
Reads g opened kept expected text others next = (rest : List terminals.Terminal) → Follows rest → run g (at kept opened expected) (text ++ rest) ≡ run g (at others opened next) rest

abbrev last_of_product : Product → lasts.Last
last_of_product (one f) = last_of f
last_of_product (times p f) = last_of f
last_of_product (over p f) = last_of f

abbrev last_of_sum : Sum → lasts.Last
last_of_sum (first sign p) = last_of_product p
last_of_sum (more s sign p) = last_of_product p

abbrev behind : lasts.Last → Expected
behind l = by_expected.Operator l

-- what is expected behind an argument
abbrev behind_argument : Argument → Expected
behind_argument (expression s) = behind (last_of_sum s)
behind_argument (field n) = by_expected.FieldEnd

abbrev behind_arguments : Arguments → Expected
behind_arguments (argument a) = behind_argument a
behind_arguments (further args a) = behind_argument a

abbrev IsNotOver : Link → Type 0
IsNotOver links.Over = ⊥
IsNotOver _ = Unit {0}

-- a base may stand so
abbrev Stands : Link → Base → Type 0
Stands links.Over b = HasNoParenthesis b
Stands _ b = Unit {0}

stands : (link : Link) (b : Base) → IsNotOver link → Stands link b
stands links.First b h = tt
stands links.Plus b h = tt
stands links.Minus b h = tt
stands links.Times b h = tt
stands links.Over b h = absurd h

-- what has parentheses stands behind no `/`
divides : (link : Link) (b : Base) → (HasNoParenthesis b → ⊥) → Stands link b → IsNotOver link
divides links.First b n h = tt
divides links.Plus b n h = tt
divides links.Minus b n h = tt
divides links.Times b n h = tt
divides links.Over b n h = n h

not_over_more : (sign : Sign) → IsNotOver (link_of sign)
not_over_more signs.Plus = tt
not_over_more signs.Minus = tt

abbrev base_of : Factor → Base
base_of (factor b power) = b
base_of (raised b sign n) = b

regrouped : (g : Setting) (opened : List Bracket) (a b c : List Piece) (expected : Expected) (rest : List terminals.Terminal) → run g (at ((a ++ b) ++ c) opened expected) rest ≡ run g (at (a ++ (b ++ c)) opened expected) rest
regrouped g opened a b c expected rest = ap (λ (kept : List Piece). run g (at kept opened expected) rest) (append_assoc a b c)

-- ---- wildcards

-- behind a mark without a restriction what may follow is read as behind its wildcard
settled : (g : Setting) (slot : Slot) (kept : List Piece) (opened : List Bracket) (rest : List terminals.Terminal) → Follows rest
    → run g (at kept opened (by_expected.Restriction slot)) rest ≡ run g (at kept opened (behind_wildcard slot)) rest
unfolding run
settled g slots.Factor kept opened [] f = refl
settled g slots.DotEnd kept opened [] f = refl
settled g slots.FirstEntry kept opened [] f = refl
settled g slots.SecondEntry kept opened [] f = refl
settled g slots.Power kept opened [] f = refl
settled g slot kept opened (t ∷ rest) f =
    ap (option_and_then (λ next. run g next rest))
    (ap (applied (at kept opened (by_expected.Restriction slot))) (follows g slot t f)
    ∙ applied_same kept opened (by_expected.Restriction slot) (behind_wildcard slot) (follower_effect g slot t)
    ∙ ap (applied (at kept opened (behind_wildcard slot))) (sym (as_expected g slot t)))

mark_changed : (c : Change) (front : List Piece) (r made : Restriction) → changed c (pieces.Marked r) ≡ Some (pieces.Marked made) → with_change 0 c (front ++ pieces.Marked r ∷ []) ≡ Some (front ++ pieces.Marked made ∷ [])
mark_changed c front r made e = changed_here c front [] (pieces.Marked r) ∙ ap (option_map (λ y. front ++ y ∷ [])) e

abbrev marked : List Piece → Restriction → List Piece
marked front r = front ++ pieces.Marked r ∷ []

module _ (g : Setting) (slot : Slot) (front : List Piece) (opened : List Bracket) where
  set_read : (n : Spelled) (rest : List terminals.Terminal)
      → run g (at (marked front Any) opened (by_expected.Restriction slot)) (by_terminal.Name n ∷ rest) ≡ run g (at (marked front (Set n)) opened (behind_wildcard slot)) rest
  unfolding run
  set_read n rest = rw (mark_changed (changes.Set n) front Any (Set n) refl) refl

  brace_read : (rest : List terminals.Terminal)
      → run g (at (marked front Any) opened (by_expected.Restriction slot)) (by_terminal.OpenBrace ∷ rest) ≡ run g (at (marked front Any) opened (by_expected.Element slot)) rest
  unfolding run
  brace_read rest = refl

  comma_read : (r : Restriction) (rest : List terminals.Terminal)
      → run g (at (marked front r) opened (by_expected.ElementEnd slot)) (by_terminal.Comma ∷ rest) ≡ run g (at (marked front r) opened (by_expected.Element slot)) rest
  unfolding run
  comma_read r rest = refl

  braces_end : (r : Restriction) (rest : List terminals.Terminal)
      → run g (at (marked front r) opened (by_expected.ElementEnd slot)) (by_terminal.CloseBrace ∷ rest) ≡ run g (at (marked front r) opened (behind_wildcard slot)) rest
  unfolding run
  braces_end r rest = refl

  name_read : (n : Spelled) (r made : Restriction) (rest : List terminals.Terminal) → with_name n r ≡ Some made
      → run g (at (marked front r) opened (by_expected.Element slot)) (by_terminal.Name n ∷ rest) ≡ run g (at (marked front made) opened (by_expected.ElementEnd slot)) rest
  unfolding run
  name_read n r made rest e = rw (mark_changed (changes.Name n) front r made (ap (option_map (λ x. pieces.Marked x)) e)) refl

  alone : (r made : Restriction) (m : Number) (rest : List terminals.Terminal) → with_change 0 (changes.Number (record { sign = None; number = m })) (marked front r) ≡ Some (marked front made)
      → run g (at (marked front r) opened (by_expected.Element slot)) (by_terminal.Number m ∷ rest) ≡ run g (at (marked front made) opened (by_expected.ElementEnd slot)) rest
  unfolding run
  alone r made m rest f = rw f refl

  signed : (r made : Restriction) (sign : Sign) (m : Number) (rest : List terminals.Terminal) → with_change 0 (changes.Number (record { sign = Some sign; number = m })) (marked front r) ≡ Some (marked front made)
      → run g (at (marked front r) opened (by_expected.Element slot)) (by_terminal.Sign sign ∷ by_terminal.Number m ∷ rest) ≡ run g (at (marked front made) opened (by_expected.ElementEnd slot)) rest
  unfolding run
  signed r made sign m rest f = rw f refl

  number_read : (n : SignedNumber) (r made : Restriction) (rest : List terminals.Terminal) → with_number n r ≡ Some made
      → run g (at (marked front r) opened (by_expected.Element slot)) (written_number n ++ rest) ≡ run g (at (marked front made) opened (by_expected.ElementEnd slot)) rest
  number_read n r made rest e = by_sign n.sign n.number (mark_changed (changes.Number n) front r made (ap (option_map (λ x. pieces.Marked x)) e)) where
    by_sign : (sign : Option Sign) (m : Number) → with_change 0 (changes.Number (record { sign = sign; number = m })) (marked front r) ≡ Some (marked front made)
        → run g (at (marked front r) opened (by_expected.Element slot)) ((written_sign sign ++ by_terminal.Number m ∷ []) ++ rest) ≡ run g (at (marked front made) opened (by_expected.ElementEnd slot)) rest
    by_sign None m f = alone r made m rest f
    by_sign (Some sign) m f = signed r made sign m rest f

  names_read : (ns done : List Spelled) (rest : List terminals.Terminal)
      → run g (at (marked front (Names done)) opened (by_expected.ElementEnd slot)) ((further_names ns ++ by_terminal.CloseBrace ∷ []) ++ rest) ≡ run g (at (marked front (Names (done ++ ns))) opened (behind_wildcard slot)) rest
  names_read [] done rest = braces_end (Names done) rest ∙ ap (λ (all : List Spelled). run g (at (marked front (Names all)) opened (behind_wildcard slot)) rest) (sym (append-nil done))
  names_read (n ∷ ns) done rest =
      comma_read (Names done) (by_terminal.Name n ∷ ((further_names ns ++ by_terminal.CloseBrace ∷ []) ++ rest))
      ∙ name_read n (Names done) (Names (done ++ n ∷ [])) ((further_names ns ++ by_terminal.CloseBrace ∷ []) ++ rest) refl
      ∙ names_read ns (done ++ n ∷ []) rest
      ∙ ap (λ (all : List Spelled). run g (at (marked front (Names all)) opened (behind_wildcard slot)) rest) (append_assoc done (n ∷ []) ns)

  regroup : (a b c d : List terminals.Terminal) → ((a ++ b) ++ c) ++ d ≡ a ++ ((b ++ c) ++ d)
  regroup a b c d = simp append_assoc

  numbers_read : (ns done : List SignedNumber) (rest : List terminals.Terminal)
      → run g (at (marked front (Numbers done)) opened (by_expected.ElementEnd slot)) ((further_numbers ns ++ by_terminal.CloseBrace ∷ []) ++ rest) ≡ run g (at (marked front (Numbers (done ++ ns))) opened (behind_wildcard slot)) rest
  numbers_read [] done rest = braces_end (Numbers done) rest ∙ ap (λ (all : List SignedNumber). run g (at (marked front (Numbers all)) opened (behind_wildcard slot)) rest) (sym (append-nil done))
  numbers_read (n ∷ ns) done rest =
      comma_read (Numbers done) (((written_number n ++ further_numbers ns) ++ by_terminal.CloseBrace ∷ []) ++ rest)
      ∙ ap (run g (at (marked front (Numbers done)) opened (by_expected.Element slot))) (regroup (written_number n) (further_numbers ns) (by_terminal.CloseBrace ∷ []) rest)
      ∙ number_read n (Numbers done) (Numbers (done ++ n ∷ [])) ((further_numbers ns ++ by_terminal.CloseBrace ∷ []) ++ rest) refl
      ∙ numbers_read ns (done ++ n ∷ []) rest
      ∙ ap (λ (all : List SignedNumber). run g (at (marked front (Numbers all)) opened (behind_wildcard slot)) rest) (append_assoc done (n ∷ []) ns)

  restriction_read : (r : Restriction) (rest : List terminals.Terminal) → AreSome r → Follows rest
      → run g (at (marked front Any) opened (by_expected.Restriction slot)) (written_restriction r ++ rest) ≡ run g (at (marked front r) opened (behind_wildcard slot)) rest
  restriction_read Any rest some f = settled g slot (marked front Any) opened rest f
  restriction_read (Set n) rest some f = set_read n rest
  restriction_read (Names []) rest some f = absurd some
  restriction_read (Names (n ∷ ns)) rest some f =
      brace_read (by_terminal.Name n ∷ ((further_names ns ++ by_terminal.CloseBrace ∷ []) ++ rest))
      ∙ name_read n Any (Names (n ∷ [])) ((further_names ns ++ by_terminal.CloseBrace ∷ []) ++ rest) refl
      ∙ names_read ns (n ∷ []) rest
  restriction_read (Numbers []) rest some f = absurd some
  restriction_read (Numbers (n ∷ ns)) rest some f =
      brace_read (((written_number n ++ further_numbers ns) ++ by_terminal.CloseBrace ∷ []) ++ rest)
      ∙ ap (run g (at (marked front Any) opened (by_expected.Element slot))) (regroup (written_number n) (further_numbers ns) (by_terminal.CloseBrace ∷ []) rest)
      ∙ number_read n Any (Numbers (n ∷ [])) ((further_numbers ns ++ by_terminal.CloseBrace ∷ []) ++ rest) refl
      ∙ numbers_read ns (n ∷ []) rest

-- what is expected behind a declared name that may have a mark
abbrev before_mark : Slot → Expected
before_mark slots.Factor = behind last.Name
before_mark slots.DotEnd = behind last.DotName
before_mark slots.FirstEntry = by_expected.EntryComma true
before_mark slots.SecondEntry = by_expected.DeltaClosing true
before_mark slots.Power = by_expected.PowerMark

mark_read : (slot : Slot) (kept : List Piece) (opened : List Bracket) (rest : List terminals.Terminal)
    → run settings.Pattern (at kept opened (before_mark slot)) (by_terminal.Question ∷ rest) ≡ run settings.Pattern (at (marked kept Any) opened (by_expected.Restriction slot)) rest
unfolding run
mark_read slots.Factor kept opened rest = refl
mark_read slots.DotEnd kept opened rest = refl
mark_read slots.FirstEntry kept opened rest = refl
mark_read slots.SecondEntry kept opened rest = refl
mark_read slots.Power kept opened rest = refl

-- a mark and what restricts the wildcard
wildcard_read : (g : Setting) (slot : Slot) (kept : List Piece) (x : Piece) (opened : List Bracket) (r : Restriction) (rest : List terminals.Terminal) → g ≡ settings.Pattern → AreSome r → Follows rest
    → run g (at (kept ++ x ∷ []) opened (before_mark slot)) (by_terminal.Question ∷ (written_restriction r ++ rest)) ≡ run g (at (kept ++ x ∷ pieces.Marked r ∷ []) opened (behind_wildcard slot)) rest
wildcard_read g slot kept x opened r rest e some f =
    subst (λ (s : Setting). run s (at (kept ++ x ∷ []) opened (before_mark slot)) (by_terminal.Question ∷ (written_restriction r ++ rest)) ≡ run s (at (kept ++ x ∷ pieces.Marked r ∷ []) opened (behind_wildcard slot)) rest) (sym e)
    (mark_read slot (kept ++ x ∷ []) opened (written_restriction r ++ rest)
    ∙ restriction_read settings.Pattern slot (kept ++ x ∷ []) opened r rest some f
    ∙ regrouped settings.Pattern opened kept (x ∷ []) (pieces.Marked r ∷ []) (behind_wildcard slot) rest)

-- ---- powers

unsigned_name : (opened : List Bracket) (old : List Piece) (is_on_enclosed : Bool) (n : Spelled) (rest : List terminals.Terminal)
    → run settings.Right (at old opened (by_expected.Exponent is_on_enclosed false None)) (by_terminal.Name n ∷ rest) ≡ run settings.Right (at (old ++ pieces.RaisedByName None (names.Declared n) ∷ []) opened (behind last.Power)) rest
unfolding run
unsigned_name opened old is_on_enclosed n rest = refl

signed_name : (opened : List Bracket) (old : List Piece) (is_on_enclosed : Bool) (sign : Sign) (n : Spelled) (rest : List terminals.Terminal)
    → run settings.Right (at old opened (by_expected.Exponent is_on_enclosed false None)) (by_terminal.Sign sign ∷ by_terminal.Name n ∷ rest) ≡ run settings.Right (at (old ++ pieces.RaisedByName (Some sign) (names.Declared n) ∷ []) opened (behind last.Power)) rest
unfolding run
signed_name opened old is_on_enclosed sign n rest = refl

pattern_name : (opened : List Bracket) (old : List Piece) (is_on_enclosed : Bool) (n : Spelled) (rest : List terminals.Terminal)
    → run settings.Pattern (at old opened (by_expected.Exponent is_on_enclosed false None)) (by_terminal.Name n ∷ rest) ≡ run settings.Pattern (at (old ++ pieces.RaisedByName None (names.Declared n) ∷ []) opened by_expected.PowerMark) rest
unfolding run
pattern_name opened old is_on_enclosed n rest = refl

module _ (g : Setting) (opened : List Bracket) (old : List Piece) where
  -- the mark before a power
  raises : (l : lasts.Last) (rest : List terminals.Terminal) → raise_effect l ≡ by_effect.Waits (by_expected.Exponent (is_enclosed l) false None)
      → run g (at old opened (behind l)) (by_terminal.Raise ∷ rest) ≡ run g (at old opened (by_expected.Exponent (is_enclosed l) false None)) rest
  unfolding run
  raises l rest may = rw may refl

  -- its parenthesis
  encloses : (is_on_enclosed : Bool) (rest : List terminals.Terminal) → length opened < most_open
      → run g (at old opened (by_expected.Exponent is_on_enclosed false None)) (by_terminal.Open ∷ rest) ≡ run g (at old opened (by_expected.Exponent is_on_enclosed true None)) rest
  unfolding run
  encloses is_on_enclosed rest room = rw (lt-ltb (length opened) 64 room) refl

  -- its number
  numbers : (is_on_enclosed : Bool) (p : Power) (rest : List terminals.Terminal) → (is_on_enclosed && is_negative p) ≡ false
      → run g (at old opened (by_expected.Exponent is_on_enclosed p.is_parenthesized p.sign)) (by_terminal.Number p.number ∷ rest)
      ≡ run g (at (old ++ piece_of_power p ∷ []) opened (behind_number p.is_parenthesized)) rest
  unfolding run
  numbers is_on_enclosed p rest allowed =
      ap (λ (b : Bool). option_and_then (λ next. run g next rest) (applied (at old opened (by_expected.Exponent is_on_enclosed p.is_parenthesized p.sign)) (cond b by_effect.Fails (by_effect.Adds (piece_of_power p) (behind_number p.is_parenthesized))))) allowed

  exponent : (l : lasts.Last) (is_parenthesized : Bool) (sign : Option Sign) (n : Number) → raise_effect l ≡ by_effect.Waits (by_expected.Exponent (is_enclosed l) false None)
      → (is_parenthesized ≡ true → length opened < most_open) → (is_enclosed l && is_negative (record { is_parenthesized = is_parenthesized; sign = sign; number = n })) ≡ false
      → (rest : List terminals.Terminal) → run g (at old opened (behind l)) (written_power (Some (record { is_parenthesized = is_parenthesized; sign = sign; number = n })) ++ rest)
      ≡ run g (at (old ++ piece_of_power (record { is_parenthesized = is_parenthesized; sign = sign; number = n }) ∷ []) opened (behind last.Power)) rest
  unfolding run
  exponent l false None n may room allowed rest =
      raises l (by_terminal.Number n ∷ rest) may ∙ numbers (is_enclosed l) (record { is_parenthesized = false; sign = None; number = n }) rest allowed
  exponent l false (Some sign) n may room allowed rest =
      raises l (by_terminal.Sign sign ∷ by_terminal.Number n ∷ rest) may ∙ numbers (is_enclosed l) (record { is_parenthesized = false; sign = Some sign; number = n }) rest allowed
  exponent l true None n may room allowed rest =
      raises l (by_terminal.Open ∷ by_terminal.Number n ∷ by_terminal.Close ∷ rest) may
      ∙ encloses (is_enclosed l) (by_terminal.Number n ∷ by_terminal.Close ∷ rest) (room refl)
      ∙ numbers (is_enclosed l) (record { is_parenthesized = true; sign = None; number = n }) (by_terminal.Close ∷ rest) allowed
  exponent l true (Some sign) n may room allowed rest =
      raises l (by_terminal.Open ∷ by_terminal.Sign sign ∷ by_terminal.Number n ∷ by_terminal.Close ∷ rest) may
      ∙ encloses (is_enclosed l) (by_terminal.Sign sign ∷ by_terminal.Number n ∷ by_terminal.Close ∷ rest) (room refl)
      ∙ numbers (is_enclosed l) (record { is_parenthesized = true; sign = Some sign; number = n }) (by_terminal.Close ∷ rest) allowed

  -- a name as a power
  name_raised : (is_on_enclosed : Bool) (sign : Option Sign) (n : Spelled) (rest : List terminals.Terminal) → g ≡ settings.Right
      → run g (at old opened (by_expected.Exponent is_on_enclosed false None)) ((written_sign sign ++ by_terminal.Name n ∷ []) ++ rest) ≡ run g (at (old ++ pieces.RaisedByName sign (names.Declared n) ∷ []) opened (behind last.Power)) rest
  name_raised is_on_enclosed sign n rest e =
      subst (λ (s : Setting). run s (at old opened (by_expected.Exponent is_on_enclosed false None)) ((written_sign sign ++ by_terminal.Name n ∷ []) ++ rest) ≡ run s (at (old ++ pieces.RaisedByName sign (names.Declared n) ∷ []) opened (behind last.Power)) rest) (sym e) (by_sign sign)
    where
      by_sign : (sign : Option Sign) → run settings.Right (at old opened (by_expected.Exponent is_on_enclosed false None)) ((written_sign sign ++ by_terminal.Name n ∷ []) ++ rest) ≡ run settings.Right (at (old ++ pieces.RaisedByName sign (names.Declared n) ∷ []) opened (behind last.Power)) rest
      by_sign None = unsigned_name opened old is_on_enclosed n rest
      by_sign (Some sign) = signed_name opened old is_on_enclosed sign n rest

  -- a wildcard as a power
  wildcard_raised : (is_on_enclosed : Bool) (n : Spelled) (r : Restriction) (rest : List terminals.Terminal) → g ≡ settings.Pattern → AreSome r → Follows rest
      → run g (at old opened (by_expected.Exponent is_on_enclosed false None)) (written_name (wildcard n r) ++ rest) ≡ run g (at (old ++ pieces.RaisedByName None (names.Declared n) ∷ pieces.Marked r ∷ []) opened (behind last.Power)) rest
  wildcard_raised is_on_enclosed n r rest e some f =
      subst (λ (s : Setting). run s (at old opened (by_expected.Exponent is_on_enclosed false None)) (by_terminal.Name n ∷ by_terminal.Question ∷ (written_restriction r ++ rest)) ≡ run s (at (old ++ pieces.RaisedByName None (names.Declared n) ∷ []) opened by_expected.PowerMark) (by_terminal.Question ∷ (written_restriction r ++ rest))) (sym e)
      (pattern_name opened old is_on_enclosed n (by_terminal.Question ∷ (written_restriction r ++ rest)))
      ∙ wildcard_read g slots.Power old (pieces.RaisedByName None (names.Declared n)) opened r rest e some f

  label_raised : (l : lasts.Last) (sign : Option Sign) (n : Label) (rest : List terminals.Terminal) → raise_effect l ≡ by_effect.Waits (by_expected.Exponent (is_enclosed l) false None) → IsLawfulExponent g sign n → Follows rest
      → run g (at old opened (behind l)) (((by_terminal.Raise ∷ written_sign sign) ++ written_name n) ++ rest) ≡ run g (at (old ++ pieces.RaisedByName sign (name_of n) ∷ mark_of n) opened (behind last.Power)) rest
  label_raised l sign (named (names.Declared n)) rest may h f = raises l ((written_sign sign ++ by_terminal.Name n ∷ []) ++ rest) may ∙ name_raised (is_enclosed l) sign n rest h
  label_raised l sign (named (names.Imaginary spot)) rest may h f = absurd h
  label_raised l sign (wildcard n r) rest may h f =
      subst (λ (s : Option Sign). run g (at old opened (behind l)) (((by_terminal.Raise ∷ written_sign s) ++ written_name (wildcard n r)) ++ rest) ≡ run g (at (old ++ pieces.RaisedByName s (names.Declared n) ∷ pieces.Marked r ∷ []) opened (behind last.Power)) rest) (sym h.1)
      (raises l (written_name (wildcard n r) ++ rest) may ∙ wildcard_raised (is_enclosed l) n r rest h.0 h.2 f)

power_on : (g : Setting) (opened : List Bracket) (kept : List Piece) (link : Link) (b : Base) (power : Option Power) → IsLawfulFactor g (length opened) (factor b power)
    → Reads g opened (kept ++ pieces_of_base link b) (behind (last_of_base b)) (written_power power) (kept ++ pieces_of_factor link (factor b power)) (behind (last_behind (last_of_base b) power))
power_on g opened kept link b None h rest f = refl
power_on g opened kept link b (Some p) h rest f =
    exponent g opened (kept ++ pieces_of_base link b) (last_of_base b) p.is_parenthesized p.sign p.number (base_may_raise b) h.1 (is_allowed b p h.2) rest
    ∙ regrouped g opened kept (pieces_of_base link b) (piece_of_power p ∷ []) (behind last.Power) rest

-- ---- parentheses

opens : (g : Setting) (opened : List Bracket) (kept : List Piece) (link : Link) (rest : List terminals.Terminal) → IsNotOver link → length opened < most_open
    → run g (at kept opened (by_expected.Factor link)) (by_terminal.Open ∷ rest) ≡ run g (at (kept ++ pieces.Open link ∷ []) (Parenthesis ∷ opened) (by_expected.Factor links.First)) rest
unfolding run
opens g opened kept links.First rest h room = rw (lt-ltb (length opened) 64 room) refl
opens g opened kept links.Plus rest h room = rw (lt-ltb (length opened) 64 room) refl
opens g opened kept links.Minus rest h room = rw (lt-ltb (length opened) 64 room) refl
opens g opened kept links.Times rest h room = rw (lt-ltb (length opened) 64 room) refl
opens g opened kept links.Over rest h room = absurd h

closes : (g : Setting) (opened : List Bracket) (kept : List Piece) (l : lasts.Last) (rest : List terminals.Terminal)
    → run g (at kept (Parenthesis ∷ opened) (behind l)) (by_terminal.Close ∷ rest) ≡ run g (at (kept ++ pieces.Close ∷ []) opened (behind last.Enclosed)) rest
unfolding run
closes g opened kept l rest = refl

-- ---- names

declared_read : (g : Setting) (opened : List Bracket) (kept : List Piece) (link : Link) (n : Spelled) (rest : List terminals.Terminal)
    → run g (at kept opened (by_expected.Factor link)) (by_terminal.Name n ∷ rest) ≡ run g (at (kept ++ pieces.Name link (names.Declared n) ∷ []) opened (behind last.Name)) rest
unfolding run
declared_read g opened kept link n rest = refl

names_it : (g : Setting) (opened : List Bracket) (kept : List Piece) (link : Link) (n : Label) (rest : List terminals.Terminal) → IsLawfulLabel g n → Follows rest
    → run g (at kept opened (by_expected.Factor link)) (written_name n ++ rest) ≡ run g (at (kept ++ pieces_of_base link (name n)) opened (behind (last_of_label n))) rest
unfolding run
names_it g opened kept link (named (names.Declared n)) rest h f = refl
names_it g opened kept link (named (names.Imaginary spot)) rest h f = refl
names_it g opened kept link (wildcard n r) rest h f =
    declared_read g opened kept link n (by_terminal.Question ∷ (written_restriction r ++ rest))
    ∙ wildcard_read g slots.Factor kept (pieces.Name link (names.Declared n)) opened r rest h.0 h.1 f

dots : (g : Setting) (opened : List Bracket) (kept : List Piece) (link : Link) (n : Label) (rest : List terminals.Terminal)
    → run g (at (kept ++ pieces_of_base link (name n)) opened (behind (last_of_label n))) (by_terminal.Period ∷ rest) ≡ run g (at (kept ++ pieces.Dot link (name_of n) ∷ mark_of n) opened by_expected.Vector) rest
unfolding run
dots g opened kept link (named (names.Declared n)) rest = rw (changed_here changes.Dot kept [] (pieces.Name link (names.Declared n))) refl
dots g opened kept link (named (names.Imaginary spot)) rest = rw (changed_here changes.Dot kept [] (pieces.Name link (names.Imaginary spot))) refl
dots g opened kept link (wildcard n r) rest = rw (changed_here changes.Dot kept (pieces.Marked r ∷ []) (pieces.Name link (names.Declared n))) refl

second_read : (g : Setting) (opened : List Bracket) (kept : List Piece) (n : Spelled) (rest : List terminals.Terminal)
    → run g (at kept opened by_expected.Vector) (by_terminal.Name n ∷ rest) ≡ run g (at (kept ++ pieces.EndOfDot (names.Declared n) ∷ []) opened (behind last.DotName)) rest
unfolding run
second_read g opened kept n rest = refl

ends_dot : (g : Setting) (opened : List Bracket) (kept : List Piece) (n : Label) (rest : List terminals.Terminal) → IsLawfulLabel g n → Follows rest
    → run g (at kept opened by_expected.Vector) (written_name n ++ rest) ≡ run g (at (kept ++ pieces.EndOfDot (name_of n) ∷ mark_of n) opened (behind (last_of_dot n))) rest
unfolding run
ends_dot g opened kept (named (names.Declared n)) rest h f = refl
ends_dot g opened kept (named (names.Imaginary spot)) rest h f = refl
ends_dot g opened kept (wildcard n r) rest h f =
    second_read g opened kept n (by_terminal.Question ∷ (written_restriction r ++ rest))
    ∙ wildcard_read g slots.DotEnd kept (pieces.EndOfDot (names.Declared n)) opened r rest h.0 h.1 f

not_over : (link : Link) (p : Piece) → IsNotOver link → unless_over link p ≡ Some p
not_over links.First p h = refl
not_over links.Plus p h = refl
not_over links.Minus p h = refl
not_over links.Times p h = refl
not_over links.Over p h = absurd h

called : (kept tail : List Piece) (link : Link) (n : Label) → IsNotOver link → with_change (length tail) changes.Call (kept ++ pieces.Name link (name_of n) ∷ tail) ≡ Some (kept ++ pieces.Call link (name_of n) ∷ tail)
called kept tail link n h = changed_here changes.Call kept tail (pieces.Name link (name_of n)) ∙ ap (option_map (λ y. kept ++ y ∷ tail)) (not_over link (pieces.Call link (name_of n)) h)

calls : (g : Setting) (opened : List Bracket) (kept : List Piece) (link : Link) (n : Label) (rest : List terminals.Terminal) → IsNotOver link → length opened < most_open
    → run g (at (kept ++ pieces_of_base link (name n)) opened (behind (last_of_label n))) (by_terminal.Open ∷ rest) ≡ run g (at (kept ++ pieces.Call link (name_of n) ∷ mark_of n) (brackets.Arguments ∷ opened) by_expected.Argument) rest
unfolding run
calls g opened kept link (named (names.Declared n)) rest h room = rw (lt-ltb (length opened) 64 room, called kept [] link (named (names.Declared n)) h) refl
calls g opened kept link (named (names.Imaginary spot)) rest h room = rw (lt-ltb (length opened) 64 room, called kept [] link (named (names.Imaginary spot)) h) refl
calls g opened kept link (wildcard n r) rest h room = rw (lt-ltb (length opened) 64 room, called kept (pieces.Marked r ∷ []) link (wildcard n r) h) refl

ends_empty : (g : Setting) (opened : List Bracket) (kept : List Piece) (rest : List terminals.Terminal)
    → run g (at kept (brackets.Arguments ∷ opened) by_expected.Argument) (by_terminal.Close ∷ rest) ≡ run g (at (kept ++ pieces.EndOfCall ∷ []) opened (behind last.Enclosed)) rest
unfolding run
ends_empty g opened kept rest = refl

ends_call : (g : Setting) (opened : List Bracket) (kept : List Piece) (a : Argument) (rest : List terminals.Terminal)
    → run g (at kept (brackets.Arguments ∷ opened) (behind_argument a)) (by_terminal.Close ∷ rest) ≡ run g (at (kept ++ pieces.EndOfCall ∷ []) opened (behind last.Enclosed)) rest
unfolding run
ends_call g opened kept (expression s) rest = refl
ends_call g opened kept (field n) rest = refl

parts : (g : Setting) (opened : List Bracket) (kept : List Piece) (a : Argument) (rest : List terminals.Terminal)
    → run g (at kept (brackets.Arguments ∷ opened) (behind_argument a)) (by_terminal.Comma ∷ rest) ≡ run g (at (kept ++ pieces.Comma ∷ []) (brackets.Arguments ∷ opened) by_expected.FurtherArgument) rest
unfolding run
parts g opened kept (expression s) rest = refl
parts g opened kept (field n) rest = refl

-- ---- deltas

delta_opens : (g : Setting) (opened : List Bracket) (kept : List Piece) (link : Link) (spot : Spot) (rest : List terminals.Terminal) → IsNotOver link → length opened < most_open
    → run g (at kept opened (by_expected.Factor link)) (by_terminal.Delta spot ∷ by_terminal.Open ∷ rest) ≡ run g (at (kept ++ pieces.Delta link spot ∷ []) opened by_expected.FirstEntry) rest
unfolding run
delta_opens g opened kept links.First spot rest h room = rw (lt-ltb (length opened) 64 room) refl
delta_opens g opened kept links.Plus spot rest h room = rw (lt-ltb (length opened) 64 room) refl
delta_opens g opened kept links.Minus spot rest h room = rw (lt-ltb (length opened) 64 room) refl
delta_opens g opened kept links.Times spot rest h room = rw (lt-ltb (length opened) 64 room) refl
delta_opens g opened kept links.Over spot rest h room = absurd h

module _ (g : Setting) (opened : List Bracket) (kept : List Piece) (rest : List terminals.Terminal) where
  first_name_read : (n : Spelled) (others : List terminals.Terminal)
      → run g (at kept opened by_expected.FirstEntry) (by_terminal.Name n ∷ others) ≡ run g (at (kept ++ pieces.EntryName (names.Declared n) ∷ []) opened (by_expected.EntryComma true)) others
  unfolding run
  first_name_read n others = refl

  comma_behind : (all : List Piece) → run g (at all opened (by_expected.EntryComma false)) (by_terminal.Comma ∷ rest) ≡ run g (at all opened by_expected.SecondEntry) rest
  unfolding run
  comma_behind all = refl

  first_entry : (a : Entry) → IsLawfulEntry g a
      → run g (at kept opened by_expected.FirstEntry) (written_entry a ++ by_terminal.Comma ∷ rest) ≡ run g (at (kept ++ pieces_of_entry a) opened by_expected.SecondEntry) rest
  unfolding run
  first_entry (name_entry (named (names.Declared n))) h = refl
  first_entry (name_entry (named (names.Imaginary other))) h = refl
  first_entry (name_entry (wildcard n r)) h =
      first_name_read n (by_terminal.Question ∷ (written_restriction r ++ by_terminal.Comma ∷ rest))
      ∙ wildcard_read g slots.FirstEntry kept (pieces.EntryName (names.Declared n)) opened r (by_terminal.Comma ∷ rest) h.0 h.1 tt
      ∙ comma_behind (kept ++ pieces.EntryName (names.Declared n) ∷ pieces.Marked r ∷ [])
  first_entry (number_entry n) h = refl

  second_name_read : (n : Spelled) (others : List terminals.Terminal)
      → run g (at kept opened by_expected.SecondEntry) (by_terminal.Name n ∷ others) ≡ run g (at (kept ++ pieces.EntryName (names.Declared n) ∷ []) opened (by_expected.DeltaClosing true)) others
  unfolding run
  second_name_read n others = refl

  close_behind : (all : List Piece) → run g (at all opened (by_expected.DeltaClosing false)) (by_terminal.Close ∷ rest) ≡ run g (at (all ++ pieces.EndOfDelta ∷ []) opened (behind last.Enclosed)) rest
  unfolding run
  close_behind all = refl

  second_entry : (a : Entry) → IsLawfulEntry g a
      → run g (at kept opened by_expected.SecondEntry) (written_entry a ++ by_terminal.Close ∷ rest) ≡ run g (at ((kept ++ pieces_of_entry a) ++ pieces.EndOfDelta ∷ []) opened (behind last.Enclosed)) rest
  unfolding run
  second_entry (name_entry (named (names.Declared n))) h = refl
  second_entry (name_entry (named (names.Imaginary spot))) h = refl
  second_entry (name_entry (wildcard n r)) h =
      second_name_read n (by_terminal.Question ∷ (written_restriction r ++ by_terminal.Close ∷ rest))
      ∙ wildcard_read g slots.SecondEntry kept (pieces.EntryName (names.Declared n)) opened r (by_terminal.Close ∷ rest) h.0 h.1 tt
      ∙ close_behind (kept ++ pieces.EntryName (names.Declared n) ∷ pieces.Marked r ∷ [])
  second_entry (number_entry n) h = refl

-- ---- the first terminal of a sum closes nothing and is no field

abbrev IsFirst : terminals.Terminal → Type 0
IsFirst by_terminal.Close = ⊥
IsFirst by_terminal.Question = ⊥
IsFirst _ = Unit {0}

-- where an argument is expected a sum may be
abbrev TakesSum : Setting → Expected → Type 0
TakesSum g e = (t : terminals.Terminal) → IsFirst t → effect_of g e t ≡ factor_effect links.First t

takes_first : (g : Setting) → TakesSum g by_expected.Argument
takes_first g (by_terminal.Number n) h = refl
takes_first g (by_terminal.Name n) h = refl
takes_first g (by_terminal.Imaginary spot) h = refl
takes_first g (by_terminal.Delta spot) h = refl
takes_first g (by_terminal.Sign sign) h = refl
takes_first g by_terminal.Times h = refl
takes_first g by_terminal.Over h = refl
takes_first g by_terminal.Raise h = refl
takes_first g by_terminal.Open h = refl
takes_first g by_terminal.Close h = absurd h
takes_first g by_terminal.Comma h = refl
takes_first g by_terminal.Period h = refl
takes_first g by_terminal.Equals h = refl
takes_first g by_terminal.Question h = absurd h
takes_first g by_terminal.OpenBrace h = refl
takes_first g by_terminal.CloseBrace h = refl
takes_first g by_terminal.Colon h = refl
takes_first g by_terminal.And h = refl
takes_first g by_terminal.Or h = refl
takes_first g (by_terminal.Comparison m) h = refl
takes_first g by_terminal.Other h = refl

takes_further : (g : Setting) → TakesSum g by_expected.FurtherArgument
takes_further g (by_terminal.Number n) h = refl
takes_further g (by_terminal.Name n) h = refl
takes_further g (by_terminal.Imaginary spot) h = refl
takes_further g (by_terminal.Delta spot) h = refl
takes_further g (by_terminal.Sign sign) h = refl
takes_further g by_terminal.Times h = refl
takes_further g by_terminal.Over h = refl
takes_further g by_terminal.Raise h = refl
takes_further g by_terminal.Open h = refl
takes_further g by_terminal.Close h = absurd h
takes_further g by_terminal.Comma h = refl
takes_further g by_terminal.Period h = refl
takes_further g by_terminal.Equals h = refl
takes_further g by_terminal.Question h = absurd h
takes_further g by_terminal.OpenBrace h = refl
takes_further g by_terminal.CloseBrace h = refl
takes_further g by_terminal.Colon h = refl
takes_further g by_terminal.And h = refl
takes_further g by_terminal.Or h = refl
takes_further g (by_terminal.Comparison m) h = refl
takes_further g by_terminal.Other h = refl

-- where an argument is expected a field may be
abbrev TakesField : Setting → Expected → Type 0
TakesField g e = HasFields g → (opened : List Bracket) (kept : List Piece) (n : Spelled) (rest : List terminals.Terminal)
    → run g (at kept opened e) (by_terminal.Question ∷ by_terminal.Name n ∷ rest) ≡ run g (at (kept ++ pieces.Field n ∷ []) opened by_expected.FieldEnd) rest

field_first : (g : Setting) → TakesField g by_expected.Argument
unfolding run
field_first settings.Plain h opened kept n rest = absurd h
field_first settings.Right h opened kept n rest = refl
field_first settings.Pattern h opened kept n rest = refl

field_further : (g : Setting) → TakesField g by_expected.FurtherArgument
unfolding run
field_further settings.Plain h opened kept n rest = absurd h
field_further settings.Right h opened kept n rest = refl
field_further settings.Pattern h opened kept n rest = refl

module _ (g : Setting) (opened : List Bracket) (kept : List Piece) (e : Expected) (takes : TakesSum g e) where
  abbrev AsFactor : List terminals.Terminal → Type 0
  AsFactor text = (rest : List terminals.Terminal) → run g (at kept opened e) (text ++ rest) ≡ run g (at kept opened (by_expected.Factor links.First)) (text ++ rest)

  first_text : (t : terminals.Terminal) (others : List terminals.Terminal) → IsFirst t → run g (at kept opened e) (t ∷ others) ≡ run g (at kept opened (by_expected.Factor links.First)) (t ∷ others)
  unfolding run
  first_text t others h =
      ap (option_and_then (λ next. run g next others))
      (ap (applied (at kept opened e)) (takes t h) ∙ applied_same kept opened e (by_expected.Factor links.First) (factor_effect links.First t))

  further_text : (text others : List terminals.Terminal) → AsFactor text → AsFactor (text ++ others)
  further_text text others h rest =
      ap (run g (at kept opened e)) (append_assoc text others rest) ∙ h (others ++ rest)
      ∙ sym (ap (run g (at kept opened (by_expected.Factor links.First))) (append_assoc text others rest))

  first_name : (n : Label) → AsFactor (written_name n)
  first_name (named (names.Declared n)) rest = first_text (by_terminal.Name n) rest tt
  first_name (named (names.Imaginary spot)) rest = first_text (by_terminal.Imaginary spot) rest tt
  first_name (wildcard n r) rest = first_text (by_terminal.Name n) (by_terminal.Question ∷ (written_restriction r ++ rest)) tt

  first_base : (b : Base) → AsFactor (written_base b)
  first_base (number n) rest = first_text (by_terminal.Number n) rest tt
  first_base (name n) rest = first_name n rest
  first_base (dot p q) rest = further_text (written_name p) (by_terminal.Period ∷ written_name q) (first_name p) rest
  first_base (delta spot a c) rest = first_text (by_terminal.Delta spot) (((by_terminal.Open ∷ written_entry a) ++ (by_terminal.Comma ∷ written_entry c) ++ by_terminal.Close ∷ []) ++ rest) tt
  first_base (empty_call n) rest = further_text (written_name n) (by_terminal.Open ∷ by_terminal.Close ∷ []) (first_name n) rest
  first_base (call n args) rest = further_text (written_name n ++ (by_terminal.Open ∷ written_arguments args)) (by_terminal.Close ∷ []) (further_text (written_name n) (by_terminal.Open ∷ written_arguments args) (first_name n)) rest
  first_base (parenthesis s) rest = first_text by_terminal.Open ((written_sum s ++ by_terminal.Close ∷ []) ++ rest) tt

  first_factor : (f : Factor) → AsFactor (written_factor f)
  first_factor (factor b power) = further_text (written_base b) (written_power power) (first_base b)
  first_factor (raised b sign n) = further_text (written_base b ++ (by_terminal.Raise ∷ written_sign sign)) (written_name n) (further_text (written_base b) (by_terminal.Raise ∷ written_sign sign) (first_base b))

  first_product : (p : Product) → AsFactor (written_product p)
  first_product (one f) = first_factor f
  first_product (times p f) = further_text (written_product p) (by_terminal.Times ∷ written_factor f) (first_product p)
  first_product (over p f) = further_text (written_product p) (by_terminal.Over ∷ written_factor f) (first_product p)

  first_sum : (s : Sum) → AsFactor (written_sum s)
  first_sum (first None p) rest = first_product p rest
  first_sum (first (Some sign) p) rest = first_text (by_terminal.Sign sign) (written_product p ++ rest) tt
  first_sum (more s sign p) rest = further_text (written_sum s) (by_terminal.Sign sign ∷ written_product p) (first_sum s) rest

-- ---- trees

enclosed_text : {A : Type 0} (a rest : List A) (x : A) → (a ++ x ∷ []) ++ rest ≡ a ++ (x ∷ rest)
enclosed_text a rest x = append_assoc a (x ∷ []) rest

enclosed_pieces : {A : Type 0} (kept a : List A) (x y : A) → ((kept ++ x ∷ []) ++ a) ++ y ∷ [] ≡ kept ++ (x ∷ (a ++ y ∷ []))
enclosed_pieces kept a x y = simp append_assoc

two_parts : {A : Type 0} (kept a b : List A) → (kept ++ a) ++ b ≡ kept ++ (a ++ b)
two_parts kept a b = append_assoc kept a b

delta_pieces : {A : Type 0} (kept a c : List A) (x u : A) → (((kept ++ x ∷ []) ++ a) ++ c) ++ u ∷ [] ≡ kept ++ (((x ∷ a) ++ c) ++ u ∷ [])
delta_pieces kept a c x u = simp append_assoc

delta_text : {A : Type 0} (a c rest : List A) (x y z u : A) → (((x ∷ y ∷ a) ++ (z ∷ c)) ++ u ∷ []) ++ rest ≡ x ∷ y ∷ (a ++ (z ∷ (c ++ (u ∷ rest))))
delta_text a c rest x y z u = simp append_assoc

call_text : {A : Type 0} (n a rest : List A) (x y : A) → ((n ++ (x ∷ a)) ++ y ∷ []) ++ rest ≡ n ++ (x ∷ (a ++ (y ∷ rest)))
call_text n a rest x y = simp append_assoc

call_pieces : {A : Type 0} (kept n a : List A) (y : A) → ((kept ++ n) ++ a) ++ y ∷ [] ≡ kept ++ ((n ++ a) ++ y ∷ [])
call_pieces kept n a y = simp append_assoc

parted_pieces : {A : Type 0} (kept args s : List A) (x : A) → ((kept ++ args) ++ x ∷ []) ++ s ≡ kept ++ (args ++ x ∷ s)
parted_pieces kept args s x = append_assoc (kept ++ args) (x ∷ []) s ∙ append_assoc kept args (x ∷ s)

raised_text : {A : Type 0} (b s n rest : List A) (x : A) → ((b ++ (x ∷ s)) ++ n) ++ rest ≡ b ++ (((x ∷ s) ++ n) ++ rest)
raised_text b s n rest x = simp append_assoc

-- a base with its power
with_power : (g : Setting) (f : Factor) (opened : List Bracket) (kept : List Piece) (link : Link) → IsLawfulFactor g (length opened) f
    → Reads g opened kept (by_expected.Factor link) (written_base (base_of f)) (kept ++ pieces_of_base link (base_of f)) (behind (last_of_base (base_of f)))
    → Reads g opened kept (by_expected.Factor link) (written_factor f) (kept ++ pieces_of_factor link f) (behind (last_of f))
with_power g (factor b None) opened kept link h reads rest f =
    ap (run g (at kept opened (by_expected.Factor link))) (append_assoc (written_base b) [] rest)
    ∙ reads rest f
with_power g (factor b (Some p)) opened kept link h reads rest f =
    ap (run g (at kept opened (by_expected.Factor link))) (append_assoc (written_base b) (written_power (Some p)) rest)
    ∙ reads (written_power (Some p) ++ rest) tt
    ∙ power_on g opened kept link b (Some p) h rest f
with_power g (raised b sign n) opened kept link h reads rest f =
    ap (run g (at kept opened (by_expected.Factor link))) (raised_text (written_base b) (written_sign sign) (written_name n) rest by_terminal.Raise)
    ∙ reads (((by_terminal.Raise ∷ written_sign sign) ++ written_name n) ++ rest) tt
    ∙ label_raised g opened (kept ++ pieces_of_base link b) (last_of_base b) sign n rest (base_may_raise b) h.1 f
    ∙ regrouped g opened kept (pieces_of_base link b) (pieces.RaisedByName sign (name_of n) ∷ mark_of n) (behind last.Power) rest

divisor : (f : Factor) → IsDivisor f → Stands links.Over (base_of f)
divisor (factor b power) h = h
divisor (raised b sign n) h = h

-- one terminal further
module _ (g : Setting) (opened : List Bracket) (kept : List Piece) where
  sign_read : (sign : Sign) (rest : List terminals.Terminal)
      → run g (at kept opened (by_expected.Factor links.First)) (by_terminal.Sign sign ∷ rest) ≡ run g (at kept opened (by_expected.Factor (link_of sign))) rest
  unfolding run
  sign_read sign rest = refl

  further_sign : (l : lasts.Last) (sign : Sign) (rest : List terminals.Terminal)
      → run g (at kept opened (behind l)) (by_terminal.Sign sign ∷ rest) ≡ run g (at kept opened (by_expected.Factor (link_of sign))) rest
  unfolding run
  further_sign l sign rest = refl

  times_read : (l : lasts.Last) (rest : List terminals.Terminal)
      → run g (at kept opened (behind l)) (by_terminal.Times ∷ rest) ≡ run g (at kept opened (by_expected.Factor links.Times)) rest
  unfolding run
  times_read l rest = refl

  over_read : (l : lasts.Last) (rest : List terminals.Terminal)
      → run g (at kept opened (behind l)) (by_terminal.Over ∷ rest) ≡ run g (at kept opened (by_expected.Factor links.Over)) rest
  unfolding run
  over_read l rest = refl

  number_alone : (link : Link) (n : Number) (rest : List terminals.Terminal)
      → run g (at kept opened (by_expected.Factor link)) (by_terminal.Number n ∷ rest) ≡ run g (at (kept ++ pieces.Number link n ∷ []) opened (behind last.Base)) rest
  unfolding run
  number_alone link n rest = refl

  ends_arguments : (args : Arguments) (rest : List terminals.Terminal)
      → run g (at kept (brackets.Arguments ∷ opened) (behind_arguments args)) (by_terminal.Close ∷ rest) ≡ run g (at (kept ++ pieces.EndOfCall ∷ []) opened (behind last.Enclosed)) rest
  ends_arguments (argument a) rest = ends_call g opened kept a rest
  ends_arguments (further args a) rest = ends_call g opened kept a rest

  parts_arguments : (args : Arguments) (rest : List terminals.Terminal)
      → run g (at kept (brackets.Arguments ∷ opened) (behind_arguments args)) (by_terminal.Comma ∷ rest) ≡ run g (at (kept ++ pieces.Comma ∷ []) (brackets.Arguments ∷ opened) by_expected.FurtherArgument) rest
  parts_arguments (argument a) rest = parts g opened kept a rest
  parts_arguments (further args a) rest = parts g opened kept a rest

at_end : (g : Setting) (kept : List Piece) (l : lasts.Last) → run g (at kept [] (behind l)) [] ≡ Some kept
unfolding run
at_end g kept l = refl

none_there : ⊥ → ⊥
none_there h = h

mutual
  reads_sum : (s : Sum) (g : Setting) (opened : List Bracket) (kept : List Piece) → IsLawfulSum g (length opened) s → Reads g opened kept (by_expected.Factor links.First) (written_sum s) (kept ++ pieces_of_sum s) (behind (last_of_sum s))
  reads_sum (first None p) g opened kept h rest f = reads_product p g opened kept links.First h tt rest f
  reads_sum (first (Some sign) p) g opened kept h rest f = sign_read g opened kept sign (written_product p ++ rest) ∙ reads_product p g opened kept (link_of sign) h (not_over_more sign) rest f
  reads_sum (more s sign p) g opened kept h rest f =
      ap (run g (at kept opened (by_expected.Factor links.First))) (append_assoc (written_sum s) (by_terminal.Sign sign ∷ written_product p) rest)
      ∙ reads_sum s g opened kept h.0 (by_terminal.Sign sign ∷ written_product p ++ rest) tt
      ∙ further_sign g opened (kept ++ pieces_of_sum s) (last_of_sum s) sign (written_product p ++ rest)
      ∙ reads_product p g opened (kept ++ pieces_of_sum s) (link_of sign) h.1 (not_over_more sign) rest f
      ∙ regrouped g opened kept (pieces_of_sum s) (pieces_of_product (link_of sign) p) (behind (last_of_product p)) rest

  reads_product : (p : Product) (g : Setting) (opened : List Bracket) (kept : List Piece) (link : Link) → IsLawfulProduct g (length opened) p → IsNotOver link
      → Reads g opened kept (by_expected.Factor link) (written_product p) (kept ++ pieces_of_product link p) (behind (last_of_product p))
  reads_product (one f) g opened kept link h k rest l = reads_factor f g opened kept link h (stands link (base_of f) k) rest l
  reads_product (times p f) g opened kept link h k rest l =
      ap (run g (at kept opened (by_expected.Factor link))) (append_assoc (written_product p) (by_terminal.Times ∷ written_factor f) rest)
      ∙ reads_product p g opened kept link h.0 k (by_terminal.Times ∷ written_factor f ++ rest) tt
      ∙ times_read g opened (kept ++ pieces_of_product link p) (last_of_product p) (written_factor f ++ rest)
      ∙ reads_factor f g opened (kept ++ pieces_of_product link p) links.Times h.1 tt rest l
      ∙ regrouped g opened kept (pieces_of_product link p) (pieces_of_factor links.Times f) (behind (last_of f)) rest
  reads_product (over p f) g opened kept link h k rest l =
      ap (run g (at kept opened (by_expected.Factor link))) (append_assoc (written_product p) (by_terminal.Over ∷ written_factor f) rest)
      ∙ reads_product p g opened kept link h.0 k (by_terminal.Over ∷ written_factor f ++ rest) tt
      ∙ over_read g opened (kept ++ pieces_of_product link p) (last_of_product p) (written_factor f ++ rest)
      ∙ reads_factor f g opened (kept ++ pieces_of_product link p) links.Over h.1 (divisor f h.2) rest l
      ∙ regrouped g opened kept (pieces_of_product link p) (pieces_of_factor links.Over f) (behind (last_of f)) rest

  reads_factor : (f : Factor) (g : Setting) (opened : List Bracket) (kept : List Piece) (link : Link) → IsLawfulFactor g (length opened) f → Stands link (base_of f)
      → Reads g opened kept (by_expected.Factor link) (written_factor f) (kept ++ pieces_of_factor link f) (behind (last_of f))
  reads_factor (factor b power) g opened kept link h k rest l = with_power g (factor b power) opened kept link h (reads_base b g opened kept link h.0 k) rest l
  reads_factor (raised b sign n) g opened kept link h k rest l = with_power g (raised b sign n) opened kept link h (reads_base b g opened kept link h.0 k) rest l

  reads_base : (b : Base) (g : Setting) (opened : List Bracket) (kept : List Piece) (link : Link) → IsLawfulBase g (length opened) b → Stands link b
      → Reads g opened kept (by_expected.Factor link) (written_base b) (kept ++ pieces_of_base link b) (behind (last_of_base b))
  reads_base (number n) g opened kept link h k rest f = number_alone g opened kept link n rest
  reads_base (name n) g opened kept link h k rest f = names_it g opened kept link n rest h f
  reads_base (dot p q) g opened kept link h k rest f =
      ap (run g (at kept opened (by_expected.Factor link))) (append_assoc (written_name p) (by_terminal.Period ∷ written_name q) rest)
      ∙ names_it g opened kept link p (by_terminal.Period ∷ written_name q ++ rest) h.0 tt
      ∙ dots g opened kept link p (written_name q ++ rest)
      ∙ ends_dot g opened (kept ++ pieces.Dot link (name_of p) ∷ mark_of p) q rest h.1 f
      ∙ ap (λ (all : List Piece). run g (at all opened (behind (last_of_dot q))) rest) (two_parts kept (pieces.Dot link (name_of p) ∷ mark_of p) (pieces.EndOfDot (name_of q) ∷ mark_of q))
  reads_base (delta spot a c) g opened kept link h k rest f =
      let front = kept ++ pieces.Delta link spot ∷ [] in
      ap (run g (at kept opened (by_expected.Factor link))) (delta_text (written_entry a) (written_entry c) rest (by_terminal.Delta spot) by_terminal.Open by_terminal.Comma by_terminal.Close)
      ∙ delta_opens g opened kept link spot (written_entry a ++ (by_terminal.Comma ∷ (written_entry c ++ (by_terminal.Close ∷ rest)))) (divides link (delta spot a c) none_there k) h.0
      ∙ first_entry g opened front (written_entry c ++ (by_terminal.Close ∷ rest)) a h.1
      ∙ second_entry g opened (front ++ pieces_of_entry a) rest c h.2
      ∙ ap (λ (all : List Piece). run g (at all opened (behind last.Enclosed)) rest) (delta_pieces kept (pieces_of_entry a) (pieces_of_entry c) (pieces.Delta link spot) pieces.EndOfDelta)
  reads_base (empty_call n) g opened kept link h k rest f =
      ap (run g (at kept opened (by_expected.Factor link))) (append_assoc (written_name n) (by_terminal.Open ∷ by_terminal.Close ∷ []) rest)
      ∙ names_it g opened kept link n (by_terminal.Open ∷ by_terminal.Close ∷ rest) h.1 tt
      ∙ calls g opened kept link n (by_terminal.Close ∷ rest) (divides link (empty_call n) none_there k) h.0
      ∙ ends_empty g opened (kept ++ pieces.Call link (name_of n) ∷ mark_of n) rest
      ∙ ap (λ (all : List Piece). run g (at all opened (behind last.Enclosed)) rest) (two_parts kept (pieces.Call link (name_of n) ∷ mark_of n) (pieces.EndOfCall ∷ []))
  reads_base (call n args) g opened kept link h k rest f =
      let front = kept ++ pieces.Call link (name_of n) ∷ mark_of n in
      ap (run g (at kept opened (by_expected.Factor link))) (call_text (written_name n) (written_arguments args) rest by_terminal.Open by_terminal.Close)
      ∙ names_it g opened kept link n (by_terminal.Open ∷ (written_arguments args ++ (by_terminal.Close ∷ rest))) h.1 tt
      ∙ calls g opened kept link n (written_arguments args ++ (by_terminal.Close ∷ rest)) (divides link (call n args) none_there k) h.0
      ∙ reads_arguments args g opened front (subst (λ (m : ℕ). IsLawfulArguments g m args) (add-one (length opened)) h.2) (by_terminal.Close ∷ rest) tt
      ∙ ends_arguments g opened (front ++ pieces_of_arguments args) args rest
      ∙ ap (λ (all : List Piece). run g (at all opened (behind last.Enclosed)) rest) (call_pieces kept (pieces.Call link (name_of n) ∷ mark_of n) (pieces_of_arguments args) pieces.EndOfCall)
  reads_base (parenthesis s) g opened kept link h k rest f =
      let front = kept ++ pieces.Open link ∷ [] in
      ap (λ (t : List terminals.Terminal). run g (at kept opened (by_expected.Factor link)) (by_terminal.Open ∷ t)) (enclosed_text (written_sum s) rest by_terminal.Close)
      ∙ opens g opened kept link (written_sum s ++ by_terminal.Close ∷ rest) (divides link (parenthesis s) none_there k) h.0
      ∙ reads_sum s g (Parenthesis ∷ opened) front (subst (λ (m : ℕ). IsLawfulSum g m s) (add-one (length opened)) h.1) (by_terminal.Close ∷ rest) tt
      ∙ closes g opened (front ++ pieces_of_sum s) (last_of_sum s) rest
      ∙ ap (λ (all : List Piece). run g (at all opened (behind last.Enclosed)) rest) (enclosed_pieces kept (pieces_of_sum s) (pieces.Open link) pieces.Close)

  reads_arguments : (args : Arguments) (g : Setting) (opened : List Bracket) (kept : List Piece) → IsLawfulArguments g (suc (length opened)) args
      → Reads g (brackets.Arguments ∷ opened) kept by_expected.Argument (written_arguments args) (kept ++ pieces_of_arguments args) (behind_arguments args)
  reads_arguments (argument a) g opened kept h rest f = reads_argument a g opened kept by_expected.Argument (takes_first g) (field_first g) h rest f
  reads_arguments (further args a) g opened kept h rest f =
      ap (run g (at kept (brackets.Arguments ∷ opened) by_expected.Argument)) (append_assoc (written_arguments args) (by_terminal.Comma ∷ written_argument a) rest)
      ∙ reads_arguments args g opened kept h.0 (by_terminal.Comma ∷ written_argument a ++ rest) tt
      ∙ parts_arguments g opened (kept ++ pieces_of_arguments args) args (written_argument a ++ rest)
      ∙ reads_argument a g opened ((kept ++ pieces_of_arguments args) ++ pieces.Comma ∷ []) by_expected.FurtherArgument (takes_further g) (field_further g) h.1 rest f
      ∙ ap (λ (all : List Piece). run g (at all (brackets.Arguments ∷ opened) (behind_argument a)) rest) (parted_pieces kept (pieces_of_arguments args) (pieces_of_argument a) pieces.Comma)

  reads_argument : (a : Argument) (g : Setting) (opened : List Bracket) (kept : List Piece) (e : Expected) → TakesSum g e → TakesField g e → IsLawfulArgument g (suc (length opened)) a
      → Reads g (brackets.Arguments ∷ opened) kept e (written_argument a) (kept ++ pieces_of_argument a) (behind_argument a)
  reads_argument (expression s) g opened kept e takes fields h rest f =
      first_sum g (brackets.Arguments ∷ opened) kept e takes s rest
      ∙ reads_sum s g (brackets.Arguments ∷ opened) kept h rest f
  reads_argument (field n) g opened kept e takes fields h rest f = fields h (brackets.Arguments ∷ opened) kept n rest

-- A lawful tree is read in its setting, and its pieces are kept.
pub complete : (g : Setting) (s : Sum) → IsLawfulSum g 0 s → run g begun (written_sum s) ≡ Some (pieces_of_sum s)
complete g s h = ap (run g begun) (sym (append-nil (written_sum s))) ∙ reads_sum s g [] [] h [] tt ∙ at_end g (pieces_of_sum s) (last_of_sum s)
