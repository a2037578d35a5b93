-- How the pieces of a sum begin, and what is seen of an argument of a pattern there.
use Rattle.std.proofs.Common.{◌≡◌, ℕ, Bool, false, cond, List, [], ◌∷◌, ◌++◌, Option, Some, None, Result, Ok, refl, ap, ◌∙◌, append_assoc}
use Rattle.form_names.specs.Names.{Entry}
use Rattle.form_ast.specs.declared.expr.Sign.{Sign}
use Rattle.form_ast.specs.declared.expr.Sign.TheVariants as signs
use Rattle.form_ast.specs.declared.expr.Link.{Link}
use Rattle.form_ast.specs.declared.expr.Link.TheVariants as links
use Rattle.form_ast.specs.declared.expr.Named.{Named}
use Rattle.form_ast.specs.declared.expr.Named.TheVariants.{Declared, Imaginary}
use Rattle.form_ast.specs.declared.expr.Restriction.{Restriction}
use Rattle.form_ast.specs.declared.expr.Power.{Power}
use Rattle.form_ast.specs.declared.expr.Piece.{Piece}
use Rattle.form_ast.specs.declared.expr.Piece.TheVariants as written
use Rattle.form_ast.specs.Syntax as syntax
use Rattle.form_ast.specs.Syntax.{name_of, link_of, first_link, piece_of_power, pieces_of_entry, pieces_of_sum, pieces_of_product, pieces_of_factor, pieces_of_base, pieces_of_arguments}
use Rattle.form_pattern.specs.declared.putting.PatternEnd.{PatternEnd}
use Rattle.form_pattern.specs.declared.reading.Reading.{Reading}
use Rattle.form_pattern.specs.Pattern.{pattern_end}
use Rattle.form_pattern.specs.PatternWalking.{mark_of, mark_at, behind_first, behind_mark, alone_before, alone_in, marked_given, any_name, argument_begun, in_arguments}
use Rattle.form_right_side.specs.Refusal.{Refusal, ◌>>=◌}
use Rattle.form_right_side.specs.RightSide.{alone}
use Rattle.form_right_side.specs.Walking.{power_of, power_at, name_power_of, name_power_at, ends_argument, alone_piece, alone_end}
use Rattle.form_pattern.proofs.PatternPutting.{behind-seen, given_as, alone-name, alone-number}

-- what may stand behind a factor
pub record Plain (rest : List Piece) : Type 0 where
  pub mark : mark_at rest ≡ None
  pub power : power_at rest ≡ None
  pub by_name : name_power_at rest ≡ None

-- a piece that goes on with what stands before it
pub record Goes (p : Piece) : Type 0 where
  pub mark : mark_of p ≡ None
  pub ends : (rest : List Piece) → ends_argument (p ∷ rest) ≡ false

module _ (names : List Entry) (stands : ℕ → Bool) (fields : List (List ℕ)) where
  -- how a text begins
  pub record Start (text : List Piece) : Type 0 where
    pub head : Piece
    pub tail : List Piece
    pub is : text ≡ head ∷ tail
    pub goes : Goes head
    pub power : power_of head ≡ None
    pub by_name : name_power_of head ≡ None
    pub begins : (s : Reading) (rest : List Piece) → in_arguments names stands fields s head rest ≡ argument_begun names stands s head rest
    pub unalone : (z : Piece) (zs : List Piece) → Goes z → alone_in names (head ∷ tail ++ z ∷ zs) ≡ Ok None
    pub unnamed : (z : Piece) (zs : List Piece) → Goes z → any_name head (behind_mark (tail ++ z ∷ zs)) ≡ None

  pub alone-none : (p : Piece) (rest : List Piece) → alone_piece p ≡ None → alone_in names (p ∷ rest) ≡ Ok None
  alone-none p rest none = by (behind_mark rest)
    where
      by : (t : List Piece) → alone_before names p rest t ≡ Ok None
      by [] = ap (λ (o : Option syntax.Entry). alone_end names o >>= marked_given names (mark_at rest)) none
      by (q ∷ others) = refl

  pub not-alone : (p z : Piece) (zs : List Piece) → Goes z → alone_in names (p ∷ z ∷ zs) ≡ Ok None
  not-alone p z zs goes = ap (λ (m : Option Restriction). alone_before names p (z ∷ zs) (behind_first m z zs)) goes.mark

  pub no-name : (link : Link) (n : Named) (t : List Piece) → ends_argument t ≡ false → any_name (written.Name link n) t ≡ None
  no-name links.First (Declared s) t e = ap (λ (b : Bool). cond b (Some s) None) e
  no-name links.First (Imaginary spot) t e = refl
  no-name links.Plus n t e = refl
  no-name links.Minus n t e = refl
  no-name links.Times n t e = refl
  no-name links.Over n t e = refl

  -- behind a name and its mark stands something else
  pub name-unalone : (link : Link) (l : syntax.Label) (z : Piece) (zs : List Piece) → Goes z → alone_in names (written.Name link (name_of l) ∷ syntax.mark_of l ++ z ∷ zs) ≡ Ok None
  name-unalone link (syntax.named n) z zs goes = not-alone (written.Name link n) z zs goes
  name-unalone link (syntax.wildcard n r) z zs goes = refl

  pub name-unnamed : (link : Link) (l : syntax.Label) (z : Piece) (zs : List Piece) → Goes z → any_name (written.Name link (name_of l)) (behind_mark (syntax.mark_of l ++ z ∷ zs)) ≡ None
  name-unnamed link l z zs goes =
      ap (any_name (written.Name link (name_of l))) (behind-seen l (z ∷ zs) goes.mark) ∙ no-name link (name_of l) (z ∷ zs) (goes.ends zs)

  abbrev pub start-base : (link : Link) (b : syntax.Base) → Start (pieces_of_base link b)
  start-base link (syntax.number n) = record {
    head = written.Number link n;
    tail = [];
    is = refl;
    goes = record { mark = refl; ends = λ rest. refl };
    power = refl;
    by_name = refl;
    begins = λ s rest. refl;
    unalone = λ z zs goes. not-alone (written.Number link n) z zs goes;
    unnamed = λ z zs goes. refl;
  }
  start-base link (syntax.name l) = record {
    head = written.Name link (name_of l);
    tail = syntax.mark_of l;
    is = refl;
    goes = record { mark = refl; ends = λ rest. refl };
    power = refl;
    by_name = refl;
    begins = λ s rest. refl;
    unalone = name-unalone link l;
    unnamed = name-unnamed link l;
  }
  start-base link (syntax.dot p q) = record {
    head = written.Dot link (name_of p);
    tail = syntax.mark_of p ++ written.EndOfDot (name_of q) ∷ syntax.mark_of q;
    is = refl;
    goes = record { mark = refl; ends = λ rest. refl };
    power = refl;
    by_name = refl;
    begins = λ s rest. refl;
    unalone = λ z zs goes. alone-none (written.Dot link (name_of p)) ((syntax.mark_of p ++ written.EndOfDot (name_of q) ∷ syntax.mark_of q) ++ z ∷ zs) refl;
    unnamed = λ z zs goes. refl;
  }
  start-base link (syntax.delta spot a b) = record {
    head = written.Delta link spot;
    tail = pieces_of_entry a ++ pieces_of_entry b ++ written.EndOfDelta ∷ [];
    is = refl;
    goes = record { mark = refl; ends = λ rest. refl };
    power = refl;
    by_name = refl;
    begins = λ s rest. refl;
    unalone = λ z zs goes. alone-none (written.Delta link spot) ((pieces_of_entry a ++ pieces_of_entry b ++ written.EndOfDelta ∷ []) ++ z ∷ zs) refl;
    unnamed = λ z zs goes. refl;
  }
  start-base link (syntax.empty_call l) = record {
    head = written.Call link (name_of l);
    tail = syntax.mark_of l ++ written.EndOfCall ∷ [];
    is = refl;
    goes = record { mark = refl; ends = λ rest. refl };
    power = refl;
    by_name = refl;
    begins = λ s rest. refl;
    unalone = λ z zs goes. alone-none (written.Call link (name_of l)) ((syntax.mark_of l ++ written.EndOfCall ∷ []) ++ z ∷ zs) refl;
    unnamed = λ z zs goes. refl;
  }
  start-base link (syntax.call l args) = record {
    head = written.Call link (name_of l);
    tail = syntax.mark_of l ++ pieces_of_arguments args ++ written.EndOfCall ∷ [];
    is = refl;
    goes = record { mark = refl; ends = λ rest. refl };
    power = refl;
    by_name = refl;
    begins = λ s rest. refl;
    unalone = λ z zs goes. alone-none (written.Call link (name_of l)) ((syntax.mark_of l ++ pieces_of_arguments args ++ written.EndOfCall ∷ []) ++ z ∷ zs) refl;
    unnamed = λ z zs goes. refl;
  }
  start-base link (syntax.parenthesis s) = record {
    head = written.Open link;
    tail = pieces_of_sum s ++ written.Close ∷ [];
    is = refl;
    goes = record { mark = refl; ends = λ rest. refl };
    power = refl;
    by_name = refl;
    begins = λ r rest. refl;
    unalone = λ z zs goes. alone-none (written.Open link) ((pieces_of_sum s ++ written.Close ∷ []) ++ z ∷ zs) refl;
    unnamed = λ z zs goes. refl;
  }

  -- a text before another one that goes on with it
  abbrev pub start-before : (a b : List Piece) (y : Piece) (ys : List Piece) → b ≡ y ∷ ys → Goes y → Start a → Start (a ++ b)
  start-before a b y ys is-b goes-b f = record {
    head = f.head;
    tail = f.tail ++ b;
    is = ap (λ (t : List Piece). t ++ b) f.is;
    goes = f.goes;
    power = f.power;
    by_name = f.by_name;
    begins = f.begins;
    unalone = λ z zs goes. ap (λ (t : List Piece). alone_in names (f.head ∷ t)) (append_assoc f.tail b (z ∷ zs) ∙ ap (λ (t : List Piece). f.tail ++ (t ++ z ∷ zs)) is-b) ∙ f.unalone y (ys ++ z ∷ zs) goes-b;
    unnamed = λ z zs goes. ap (λ (t : List Piece). any_name f.head (behind_mark t)) (append_assoc f.tail b (z ∷ zs) ∙ ap (λ (t : List Piece). f.tail ++ (t ++ z ∷ zs)) is-b) ∙ f.unnamed y (ys ++ z ∷ zs) goes-b;
  }

  abbrev pub start-both : (a b : List Piece) → Start a → Start b → Start (a ++ b)
  start-both a b f g = start-before a b g.head g.tail g.is g.goes f

  abbrev pub start-factor : (link : Link) (f : syntax.Factor) → Start (pieces_of_factor link f)
  start-factor link (syntax.factor b None) = start-base link b
  start-factor link (syntax.factor b (Some p)) = start-before (pieces_of_base link b) (piece_of_power p ∷ []) (piece_of_power p) [] refl (record { mark = refl; ends = λ rest. refl }) (start-base link b)
  start-factor link (syntax.raised b sign l) =
      start-before (pieces_of_base link b) (written.RaisedByName sign (name_of l) ∷ syntax.mark_of l) (written.RaisedByName sign (name_of l)) (syntax.mark_of l) refl (record { mark = refl; ends = λ rest. refl }) (start-base link b)

  abbrev pub start-product : (link : Link) (p : syntax.Product) → Start (pieces_of_product link p)
  start-product link (syntax.one f) = start-factor link f
  start-product link (syntax.times p f) = start-both (pieces_of_product link p) (pieces_of_factor links.Times f) (start-product link p) (start-factor links.Times f)
  start-product link (syntax.over p f) = start-both (pieces_of_product link p) (pieces_of_factor links.Over f) (start-product link p) (start-factor links.Over f)

  abbrev pub start-sum : (s : syntax.Sum) → Start (pieces_of_sum s)
  start-sum (syntax.first sign p) = start-product (first_link sign) p
  start-sum (syntax.more s sign p) = start-both (pieces_of_sum s) (pieces_of_product (link_of sign) p) (start-sum s) (start-product (link_of sign) p)

  -- what begins so may stand behind a factor
  pub plain-start : (a rest : List Piece) → Start a → Plain (a ++ rest)
  plain-start a rest f = record {
    mark = ap (λ (t : List Piece). mark_at (t ++ rest)) f.is ∙ f.goes.mark;
    power = ap (λ (t : List Piece). power_at (t ++ rest)) f.is ∙ f.power;
    by_name = ap (λ (t : List Piece). name_power_at (t ++ rest)) f.is ∙ f.by_name;
  }

  -- ---- what stands alone

  unalone-text : (a : List Piece) (z : Piece) (zs : List Piece) → Start a → Goes z → alone_in names (a ++ z ∷ zs) ≡ Ok None
  unalone-text a z zs f goes = ap (λ (t : List Piece). alone_in names (t ++ z ∷ zs)) f.is ∙ f.unalone z zs goes

  two : (a b : List Piece) → Start a → Start b → alone_in names (a ++ b) ≡ Ok None
  two a b f g = ap (λ (t : List Piece). alone_in names (a ++ t)) g.is ∙ unalone-text a g.head g.tail f g.goes

  signed-base : (sign : Sign) (b : syntax.Base) → alone_piece (start-base (link_of sign) b).head ≡ None
  signed-base signs.Plus (syntax.number n) = refl
  signed-base signs.Minus (syntax.number n) = refl
  signed-base signs.Plus (syntax.name l) = refl
  signed-base signs.Minus (syntax.name l) = refl
  signed-base sign (syntax.dot p q) = refl
  signed-base sign (syntax.delta spot a b) = refl
  signed-base sign (syntax.empty_call l) = refl
  signed-base sign (syntax.call l args) = refl
  signed-base sign (syntax.parenthesis s) = refl

  signed-factor : (sign : Sign) (f : syntax.Factor) → alone_piece (start-factor (link_of sign) f).head ≡ None
  signed-factor sign (syntax.factor b None) = signed-base sign b
  signed-factor sign (syntax.factor b (Some p)) = signed-base sign b
  signed-factor sign (syntax.raised b by l) = signed-base sign b

  signed-product : (sign : Sign) (p : syntax.Product) → alone_piece (start-product (link_of sign) p).head ≡ None
  signed-product sign (syntax.one f) = signed-factor sign f
  signed-product sign (syntax.times p f) = signed-product sign p
  signed-product sign (syntax.over p f) = signed-product sign p

  from-start : (a : List Piece) (f : Start a) → alone_piece f.head ≡ None → alone_in names a ≡ Ok None
  from-start a f none = ap (alone_in names) f.is ∙ alone-none f.head f.tail none

  abbrev pub as_alone : Option syntax.Entry → Result (Option PatternEnd) Refusal
  as_alone None = Ok None
  as_alone (Some e) = given_as (pattern_end names e)

  goes-power : (p : Power) → Goes (piece_of_power p)
  goes-power p = record { mark = refl; ends = λ rest. refl }

  abbrev only : syntax.Base → Option Power → syntax.Sum
  only b power = syntax.first None (syntax.one (syntax.factor b power))

  other-alone : (b : syntax.Base) (power : Option Power) → alone_piece (start-factor links.First (syntax.factor b power)).head ≡ None → alone_in names (pieces_of_sum (only b power)) ≡ Ok None
  other-alone b power none = from-start (pieces_of_factor links.First (syntax.factor b power)) (start-factor links.First (syntax.factor b power)) none

  -- a pattern's vector has one name or one number in its parentheses, or else what is refused
  pub alone-seen : (s : syntax.Sum) → alone_in names (pieces_of_sum s) ≡ as_alone (alone s)
  alone-seen (syntax.first None (syntax.one (syntax.factor (syntax.number n) None))) = alone-number names n
  alone-seen (syntax.first None (syntax.one (syntax.factor (syntax.name l) None))) = alone-name names l
  alone-seen (syntax.first None (syntax.one (syntax.factor (syntax.number n) (Some p)))) = unalone-text (written.Number links.First n ∷ []) (piece_of_power p) [] (start-base links.First (syntax.number n)) (goes-power p)
  alone-seen (syntax.first None (syntax.one (syntax.factor (syntax.name l) (Some p)))) = unalone-text (written.Name links.First (name_of l) ∷ syntax.mark_of l) (piece_of_power p) [] (start-base links.First (syntax.name l)) (goes-power p)
  alone-seen (syntax.first None (syntax.one (syntax.factor (syntax.dot p q) None))) = other-alone (syntax.dot p q) None refl
  alone-seen (syntax.first None (syntax.one (syntax.factor (syntax.dot p q) (Some w)))) = other-alone (syntax.dot p q) (Some w) refl
  alone-seen (syntax.first None (syntax.one (syntax.factor (syntax.delta spot a b) None))) = other-alone (syntax.delta spot a b) None refl
  alone-seen (syntax.first None (syntax.one (syntax.factor (syntax.delta spot a b) (Some w)))) = other-alone (syntax.delta spot a b) (Some w) refl
  alone-seen (syntax.first None (syntax.one (syntax.factor (syntax.empty_call l) None))) = other-alone (syntax.empty_call l) None refl
  alone-seen (syntax.first None (syntax.one (syntax.factor (syntax.empty_call l) (Some w)))) = other-alone (syntax.empty_call l) (Some w) refl
  alone-seen (syntax.first None (syntax.one (syntax.factor (syntax.call l args) None))) = other-alone (syntax.call l args) None refl
  alone-seen (syntax.first None (syntax.one (syntax.factor (syntax.call l args) (Some w)))) = other-alone (syntax.call l args) (Some w) refl
  alone-seen (syntax.first None (syntax.one (syntax.factor (syntax.parenthesis s) None))) = other-alone (syntax.parenthesis s) None refl
  alone-seen (syntax.first None (syntax.one (syntax.factor (syntax.parenthesis s) (Some w)))) = other-alone (syntax.parenthesis s) (Some w) refl
  alone-seen (syntax.first None (syntax.one (syntax.raised b sign l))) =
      unalone-text (pieces_of_base links.First b) (written.RaisedByName sign (name_of l)) (syntax.mark_of l) (start-base links.First b) (record { mark = refl; ends = λ rest. refl })
  alone-seen (syntax.first None (syntax.times p f)) = two (pieces_of_product links.First p) (pieces_of_factor links.Times f) (start-product links.First p) (start-factor links.Times f)
  alone-seen (syntax.first None (syntax.over p f)) = two (pieces_of_product links.First p) (pieces_of_factor links.Over f) (start-product links.First p) (start-factor links.Over f)
  alone-seen (syntax.first (Some sign) p) = from-start (pieces_of_product (link_of sign) p) (start-product (link_of sign) p) (signed-product sign p)
  alone-seen (syntax.more s sign p) = two (pieces_of_sum s) (pieces_of_product (link_of sign) p) (start-sum s) (start-product (link_of sign) p)
