-- How the pieces of a sum begin, and what is seen of an argument there.
use Rattle.std.proofs.Common.{◌≡◌, Bool, true, false, cond, List, [], ◌∷◌, ◌++◌, Option, Some, None, refl, sym, ap, subst, ◌∙◌, append_assoc}
use Rattle.form_ast.specs.declared.expr.Sign.{Sign}
use Rattle.form_ast.specs.declared.expr.Sign.TheVariants as signs
use Rattle.form_ast.specs.declared.expr.Link.{Link}
use Rattle.form_ast.specs.declared.expr.Link.TheVariants as links
use Rattle.form_ast.specs.declared.expr.Named.TheVariants.{Declared}
use Rattle.form_ast.specs.declared.expr.Power.{Power}
use Rattle.form_ast.specs.declared.expr.Piece.{Piece}
use Rattle.form_ast.specs.declared.expr.Piece.TheVariants as written
use Rattle.form_ast.specs.Syntax.{Label, named, wildcard, Entry, Sum, first, more, Product, one, times, over, Factor, factor, raised, Base, number, name, dot, delta, empty_call, call, parenthesis, link_of, first_link, name_of, mark_of, pieces_of_entry, piece_of_power, pieces_of_sum, pieces_of_product, pieces_of_factor, pieces_of_base, pieces_of_arguments}
use Rattle.form_right_side.specs.RightSide.{alone}
use Rattle.form_right_side.specs.Walking.{ends_argument, alone_piece, alone_before, power_at, name_power_at}
use Rattle.form_right_side.proofs.Bare.{IsBareSum, IsBareBase}

-- a piece is neither the end of arguments nor a field
abbrev pub IsNoEnd : Piece → Type 0
IsNoEnd written.EndOfCall = ⊥
IsNoEnd (written.Field n) = ⊥
IsNoEnd _ = Unit {0}

-- how a text begins
pub record Front (text : List Piece) : Type 0 where
  pub head : Piece
  pub tail : List Piece
  pub is : text ≡ head ∷ tail
  pub no_end : IsNoEnd head
  pub continues : (rest : List Piece) → ends_argument (head ∷ rest) ≡ false
  pub unended : (z : Piece) (zs : List Piece) → ends_argument (z ∷ zs) ≡ false → alone_before (tail ++ z ∷ zs) head ≡ None

neither : {A : Type 0} (b : Bool) → ◌≡◌ {A = Option A} (cond b None None) None
neither true = refl
neither false = refl

unless : {A : Type 0} (b : Bool) (x : Option A) → b ≡ false → cond b x None ≡ None
unless b x e = rw e refl

pub front-base : (link : Link) (b : Base) → Front (pieces_of_base link b)
front-base link (number n) = record {
  head = written.Number link n;
  tail = [];
  is = refl;
  no_end = tt;
  continues = λ rest. refl;
  unended = λ z zs e. unless (ends_argument (z ∷ zs)) (alone_piece (written.Number link n)) e;
}
front-base link (name (named n)) = record {
  head = written.Name link n;
  tail = [];
  is = refl;
  no_end = tt;
  continues = λ rest. refl;
  unended = λ z zs e. unless (ends_argument (z ∷ zs)) (alone_piece (written.Name link n)) e;
}
front-base link (name (wildcard n r)) = record {
  head = written.Name link (Declared n);
  tail = written.Marked r ∷ [];
  is = refl;
  no_end = tt;
  continues = λ rest. refl;
  unended = λ z zs e. refl;
}
front-base link (dot p q) = record {
  head = written.Dot link (name_of p);
  tail = mark_of p ++ written.EndOfDot (name_of q) ∷ mark_of q;
  is = refl;
  no_end = tt;
  continues = λ rest. refl;
  unended = λ z zs e. neither (ends_argument ((mark_of p ++ written.EndOfDot (name_of q) ∷ mark_of q) ++ z ∷ zs));
}
front-base link (delta spot a c) = record {
  head = written.Delta link spot;
  tail = pieces_of_entry a ++ pieces_of_entry c ++ written.EndOfDelta ∷ [];
  is = refl;
  no_end = tt;
  continues = λ rest. refl;
  unended = λ z zs e. neither (ends_argument ((pieces_of_entry a ++ pieces_of_entry c ++ written.EndOfDelta ∷ []) ++ z ∷ zs));
}
front-base link (empty_call n) = record {
  head = written.Call link (name_of n);
  tail = mark_of n ++ written.EndOfCall ∷ [];
  is = refl;
  no_end = tt;
  continues = λ rest. refl;
  unended = λ z zs e. neither (ends_argument ((mark_of n ++ written.EndOfCall ∷ []) ++ z ∷ zs));
}
front-base link (call n args) = record {
  head = written.Call link (name_of n);
  tail = mark_of n ++ pieces_of_arguments args ++ written.EndOfCall ∷ [];
  is = refl;
  no_end = tt;
  continues = λ rest. refl;
  unended = λ z zs e. neither (ends_argument ((mark_of n ++ pieces_of_arguments args ++ written.EndOfCall ∷ []) ++ z ∷ zs));
}
front-base link (parenthesis s) = record {
  head = written.Open link;
  tail = pieces_of_sum s ++ written.Close ∷ [];
  is = refl;
  no_end = tt;
  continues = λ rest. refl;
  unended = λ z zs e. neither (ends_argument ((pieces_of_sum s ++ written.Close ∷ []) ++ z ∷ zs));
}

pub front-power : (p : Power) → Front (piece_of_power p ∷ [])
front-power p = record {
  head = piece_of_power p;
  tail = [];
  is = refl;
  no_end = tt;
  continues = λ rest. refl;
  unended = λ z zs e. neither (ends_argument (z ∷ zs));
}

pub front-name-power : (sign : Option Sign) (n : Label) → Front (written.RaisedByName sign (name_of n) ∷ mark_of n)
front-name-power sign n = record {
  head = written.RaisedByName sign (name_of n);
  tail = mark_of n;
  is = refl;
  no_end = tt;
  continues = λ rest. refl;
  unended = λ z zs e. neither (ends_argument (mark_of n ++ z ∷ zs));
}

-- what begins with an unended text
behind : (a b : List Piece) (f : Front a) (g : Front b) (rest : List Piece) → alone_before ((f.tail ++ b) ++ rest) f.head ≡ None
behind a b f g rest =
    ap (λ (t : List Piece). alone_before t f.head) (append_assoc f.tail b rest ∙ ap (λ (t : List Piece). f.tail ++ (t ++ rest)) g.is)
    ∙ f.unended g.head (g.tail ++ rest) (g.continues (g.tail ++ rest))

pub front-append : (a b : List Piece) → Front a → Front b → Front (a ++ b)
front-append a b f g = record {
  head = f.head;
  tail = f.tail ++ b;
  is = ap (λ (t : List Piece). t ++ b) f.is;
  no_end = f.no_end;
  continues = f.continues;
  unended = λ z zs e. behind a b f g (z ∷ zs);
}

pub front-factor : (link : Link) (f : Factor) → Front (pieces_of_factor link f)
front-factor link (factor b None) = front-base link b
front-factor link (factor b (Some p)) = front-append (pieces_of_base link b) (piece_of_power p ∷ []) (front-base link b) (front-power p)
front-factor link (raised b sign n) = front-append (pieces_of_base link b) (written.RaisedByName sign (name_of n) ∷ mark_of n) (front-base link b) (front-name-power sign n)

pub front-product : (link : Link) (p : Product) → Front (pieces_of_product link p)
front-product link (one f) = front-factor link f
front-product link (times p f) = front-append (pieces_of_product link p) (pieces_of_factor links.Times f) (front-product link p) (front-factor links.Times f)
front-product link (over p f) = front-append (pieces_of_product link p) (pieces_of_factor links.Over f) (front-product link p) (front-factor links.Over f)

pub front-sum : (s : Sum) → Front (pieces_of_sum s)
front-sum (first sign p) = front-product (first_link sign) p
front-sum (more s sign p) = front-append (pieces_of_sum s) (pieces_of_product (link_of sign) p) (front-sum s) (front-product (link_of sign) p)

-- a sum of one factor is seen to be alone where it is
module _ (y : Piece) (rest : List Piece) (stops : ends_argument (y ∷ rest) ≡ true) where
  passes : (x : Option Entry) → cond (ends_argument (y ∷ rest)) x None ≡ x
  passes x = rw stops refl

  -- what has a power isn't alone
  raised-behind : (link : Link) (b : Base) (p : Power) → alone_before (((front-base link b).tail ++ piece_of_power p ∷ []) ++ y ∷ rest) (front-base link b).head ≡ None
  raised-behind link b p = behind (pieces_of_base link b) (piece_of_power p ∷ []) (front-base link b) (front-power p) (y ∷ rest)

  -- a base alone
  peek-base : (sign : Option Sign) (b : Base) → IsBareBase b → alone_before ((front-base (first_link sign) b).tail ++ y ∷ rest) (front-base (first_link sign) b).head ≡ alone (first sign (one (factor b None)))
  unfolding front-base
  peek-base None (number n) h = passes _
  peek-base (Some signs.Plus) (number n) h = passes _
  peek-base (Some signs.Minus) (number n) h = passes _
  peek-base None (name (named n)) h = passes _
  peek-base (Some signs.Plus) (name (named n)) h = passes _
  peek-base (Some signs.Minus) (name (named n)) h = passes _
  peek-base sign (name (wildcard n r)) h = absurd h
  peek-base None (dot p q) h = neither (ends_argument ((mark_of p ++ written.EndOfDot (name_of q) ∷ mark_of q) ++ y ∷ rest))
  peek-base (Some sign) (dot p q) h = neither (ends_argument ((mark_of p ++ written.EndOfDot (name_of q) ∷ mark_of q) ++ y ∷ rest))
  peek-base None (delta spot a c) h = neither (ends_argument ((pieces_of_entry a ++ pieces_of_entry c ++ written.EndOfDelta ∷ []) ++ y ∷ rest))
  peek-base (Some sign) (delta spot a c) h = neither (ends_argument ((pieces_of_entry a ++ pieces_of_entry c ++ written.EndOfDelta ∷ []) ++ y ∷ rest))
  peek-base None (empty_call n) h = neither (ends_argument ((mark_of n ++ written.EndOfCall ∷ []) ++ y ∷ rest))
  peek-base (Some sign) (empty_call n) h = neither (ends_argument ((mark_of n ++ written.EndOfCall ∷ []) ++ y ∷ rest))
  peek-base None (call n args) h = neither (ends_argument ((mark_of n ++ pieces_of_arguments args ++ written.EndOfCall ∷ []) ++ y ∷ rest))
  peek-base (Some sign) (call n args) h = neither (ends_argument ((mark_of n ++ pieces_of_arguments args ++ written.EndOfCall ∷ []) ++ y ∷ rest))
  peek-base None (parenthesis s) h = neither (ends_argument ((pieces_of_sum s ++ written.Close ∷ []) ++ y ∷ rest))
  peek-base (Some sign) (parenthesis s) h = neither (ends_argument ((pieces_of_sum s ++ written.Close ∷ []) ++ y ∷ rest))

  none-alone : (sign : Option Sign) (b : Base) (p : Power) → alone (first sign (one (factor b (Some p)))) ≡ None
  none-alone None (number n) p = refl
  none-alone None (name n) p = refl
  none-alone None (dot q r) p = refl
  none-alone None (delta spot a c) p = refl
  none-alone None (empty_call n) p = refl
  none-alone None (call n args) p = refl
  none-alone None (parenthesis s) p = refl
  none-alone (Some sign) b p = refl

  raised-alone : (sign : Option Sign) (b : Base) (s : Option Sign) (n : Label) → alone (first sign (one (raised b s n))) ≡ None
  raised-alone None b s n = refl
  raised-alone (Some sign) b s n = refl

  pub peek : (s : Sum) → IsBareSum s → alone_before ((front-sum s).tail ++ y ∷ rest) (front-sum s).head ≡ alone s
  unfolding front-sum front-factor front-product front-append
  peek (first sign (one (factor b None))) h = peek-base sign b h
  peek (first sign (one (factor b (Some p)))) h = raised-behind (first_link sign) b p ∙ sym (none-alone sign b p)
  peek (first sign (one (raised b s n))) h =
      behind (pieces_of_base (first_link sign) b) (written.RaisedByName s (name_of n) ∷ mark_of n) (front-base (first_link sign) b) (front-name-power s n) (y ∷ rest)
      ∙ sym (raised-alone sign b s n)
  peek (first None (times p f)) h = behind _ _ (front-product (first_link None) p) (front-factor links.Times f) (y ∷ rest)
  peek (first (Some sign) (times p f)) h = behind _ _ (front-product (first_link (Some sign)) p) (front-factor links.Times f) (y ∷ rest)
  peek (first None (over p f)) h = behind _ _ (front-product (first_link None) p) (front-factor links.Over f) (y ∷ rest)
  peek (first (Some sign) (over p f)) h = behind _ _ (front-product (first_link (Some sign)) p) (front-factor links.Over f) (y ∷ rest)
  peek (more s sign p) h = behind _ _ (front-sum s) (front-product (link_of sign) p) (y ∷ rest)

-- a sum that is alone is one piece
pub record IsAlone (s : Sum) (e : Entry) : Type 0 where
  pub piece : Piece
  pub is : pieces_of_sum s ≡ piece ∷ []
  pub seen : alone_piece piece ≡ Some e
  pub no_end : IsNoEnd piece

pub alone-is : (s : Sum) (e : Entry) → IsBareSum s → alone s ≡ Some e → IsAlone s e
alone-is (first None (one (factor (number n) None))) e b h = record { piece = written.Number links.First n; is = refl; seen = h; no_end = tt }
alone-is (first None (one (factor (name (named n)) None))) e b h = record { piece = written.Name links.First n; is = refl; seen = h; no_end = tt }
alone-is (first None (one (factor (name (wildcard n r)) None))) e b h = absurd b
alone-is (first None (one (factor (number n) (Some power)))) e b h = absurd cc
alone-is (first None (one (factor (name n) (Some power)))) e b h = absurd cc
alone-is (first None (one (factor (dot p q) power))) e b h = absurd cc
alone-is (first None (one (factor (delta spot a c) power))) e b h = absurd cc
alone-is (first None (one (factor (empty_call n) power))) e b h = absurd cc
alone-is (first None (one (factor (call n args) power))) e b h = absurd cc
alone-is (first None (one (factor (parenthesis s) power))) e b h = absurd cc
alone-is (first None (one (raised d s n))) e b h = absurd cc
alone-is (first None (times p f)) e b h = absurd cc
alone-is (first None (over p f)) e b h = absurd cc
alone-is (first (Some sign) p) e b h = absurd cc
alone-is (more s sign p) e b h = absurd cc

-- ---- no power stands there, neither a number nor a name

abbrev pub IsPlain : List Piece → Type 0
IsPlain rest = (power_at rest ≡ None) × (name_power_at rest ≡ None)

pub plain-base : (link : Link) (b : Base) (rest : List Piece) → IsPlain (pieces_of_base link b ++ rest)
plain-base link (number n) rest = (refl, refl)
plain-base link (name n) rest = (refl, refl)
plain-base link (dot p q) rest = (refl, refl)
plain-base link (delta spot a c) rest = (refl, refl)
plain-base link (empty_call n) rest = (refl, refl)
plain-base link (call n args) rest = (refl, refl)
plain-base link (parenthesis s) rest = (refl, refl)

pub plain-factor : (link : Link) (f : Factor) (rest : List Piece) → IsPlain (pieces_of_factor link f ++ rest)
plain-factor link (factor b None) rest = plain-base link b rest
plain-factor link (factor b (Some p)) rest = subst IsPlain (sym (append_assoc (pieces_of_base link b) (piece_of_power p ∷ []) rest)) (plain-base link b (piece_of_power p ∷ rest))
plain-factor link (raised b sign n) rest =
    subst IsPlain (sym (append_assoc (pieces_of_base link b) (written.RaisedByName sign (name_of n) ∷ mark_of n) rest)) (plain-base link b (written.RaisedByName sign (name_of n) ∷ mark_of n ++ rest))

pub plain-product : (link : Link) (p : Product) (rest : List Piece) → IsPlain (pieces_of_product link p ++ rest)
plain-product link (one f) rest = plain-factor link f rest
plain-product link (times p f) rest =
    subst IsPlain (sym (append_assoc (pieces_of_product link p) (pieces_of_factor links.Times f) rest)) (plain-product link p (pieces_of_factor links.Times f ++ rest))
plain-product link (over p f) rest =
    subst IsPlain (sym (append_assoc (pieces_of_product link p) (pieces_of_factor links.Over f) rest)) (plain-product link p (pieces_of_factor links.Over f ++ rest))

pub plain-end : (y : Piece) (rest : List Piece) → ends_argument (y ∷ rest) ≡ true → IsPlain (y ∷ rest)
plain-end written.Comma rest e = (refl, refl)
plain-end written.EndOfCall rest e = (refl, refl)
plain-end (written.Number link n) rest e = (refl, refl)
plain-end (written.Name link n) rest e = (refl, refl)
plain-end (written.Dot link n) rest e = (refl, refl)
plain-end (written.EndOfDot n) rest e = (refl, refl)
plain-end (written.Delta link spot) rest e = (refl, refl)
plain-end (written.EntryName n) rest e = (refl, refl)
plain-end (written.EntryNumber n) rest e = (refl, refl)
plain-end written.EndOfDelta rest e = (refl, refl)
plain-end (written.Call link n) rest e = (refl, refl)
plain-end (written.Open link) rest e = (refl, refl)
plain-end written.Close rest e = (refl, refl)
plain-end (written.Raised is_parenthesized sign n) rest e = absurd cc
plain-end (written.RaisedByName sign n) rest e = absurd cc
plain-end (written.Marked r) rest e = (refl, refl)
plain-end (written.Field n) rest e = (refl, refl)
