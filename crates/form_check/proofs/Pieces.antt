-- What a tree is that isn't refused: each of its pieces is sound.
use Rattle.std.proofs.Common.{◌≡◌, ℕ, zero, suc, ◌≤◌, pos, neg_ℤ, nat_abs, Bool, true, false, ◌&&◌, ◌==◌, nat_le, List, [], ◌∷◌, ◌++◌, All, Option, Some, None, Result, Ok, Err, refl, subst, arith, if◌then◌else◌}
use Rattle.std.proofs.lemmas.Bool.{leb-true}
use Rattle.std.proofs.lemmas.List.Elements.{All-nil, All-cons, All-append, All-weaker}
use Rattle.form_names.specs.declared.kind.Kind as kinds
use Rattle.form_names.specs.declared.kind.Kind.TheVariants.{Symbol, Vector, Index, Function, CommutingFunction, Expression, Set}
use Rattle.form_names.specs.Names.{Entry, lookup, kind_at}
use Rattle.form_term.specs.declared.index.Index as indices
use Rattle.form_term.specs.declared.index.Index.TheVariants as by_index
use Rattle.form_number.specs.declared.number.Number.{Number}
use Rattle.form_ast.specs.declared.expr.Named.{Named}
use Rattle.form_ast.specs.declared.expr.Named.TheVariants.{Declared, Imaginary}
use Rattle.form_ast.specs.declared.expr.Spelled.{Spelled}
use Rattle.form_ast.specs.Syntax as syntax
use Rattle.form_tree.specs.declared.tree.Link.{Link}
use Rattle.form_tree.specs.declared.tree.Link.TheVariants.{Plus, Times}
use Rattle.form_tree.specs.declared.tree.Piece as resolved
use Rattle.form_tree.specs.declared.tree.Piece.TheVariants as pieces
use Rattle.form_tree.specs.declared.tree.Base as bases
use Rattle.form_tree.specs.declared.tree.Base.TheVariants as by_base
use Rattle.form_tree.specs.declared.tree.Exponent.{Exponent}
use Rattle.form_tree.specs.Tree as tree
use Rattle.form_right_side.specs.declared.resolved.End as ends
use Rattle.form_right_side.specs.declared.resolved.End.TheVariants as an_end
use Rattle.form_right_side.specs.declared.resolved.Found.{Found}
use Rattle.form_right_side.specs.declared.resolved.Head as heads
use Rattle.form_right_side.specs.declared.resolved.Head.TheVariants as a_head
use Rattle.form_right_side.specs.declared.powers.Power.{Power}
use Rattle.form_right_side.specs.Refusal.{Refusal, ◌>>=◌}
use Rattle.form_right_side.specs.RightSide.{Known, is_wildcard, field_number, wrong, spelled_of, counted, value_within, size_within, exponent, number_exponent, has_minus, is_minus, is_below_zero, is_inverted, size_alone, largest_number, largest_exponent, largest_power, largest_index, number, symbol, found, found_as, found_at, by_kind, name, vector, vector_of, dot, end, named_end, fixed_end, end_of, linked, linked_index, linked_to, delta, head, head_of, alone, only_end, component_end, call_by, empty_call_by, lone, lone_named, lone_at, lone_of, argument, none_stands, symbol_factor, symbol_named, symbol_of, number_base, symbol_base, base_alone, base_by_kind, name_base, dot_base, linked_index_base, linked_base, delta_base, empty_call_base, call_base, sum, product, factor, to_power, base, arguments, one_argument}
use Rattle.form_check.specs.Sound.{IsOfKind, IsIndexSound, IsBaseSound, IsPieceSound}
use Rattle.form_right_side.proofs.Binding.{bind-Ok, if-Ok, ok_same}

some_same : {A : Type 0} {x y : A} → Some x ≡ Some y → x ≡ y
some_same is = cc

pub value-fits : (most : ℕ) (n : Number) (value : ℕ) → value_within most n ≡ Ok value → value ≤ most
value-fits most n value is =
    let fits = if-Ok (nat_le n.value most) (Ok n.value) _ _ value is in
    let same : n.value ≡ value = ok_same fits.1 in
    let below : n.value ≤ most = leb-true n.value most fits.0 in
    omega arith

size-fits : (most : ℕ) (power : Option Power) (size : ℕ) → 1 ≤ most → size_within most power ≡ Ok size → size ≤ most
size-fits most None size one is = let same : 1 ≡ size = ok_same is in omega arith
size-fits most (Some power) size one is =
    let fits = if-Ok (nat_le power.number.value most) (Ok power.number.value) _ _ size is in
    let same : power.number.value ≡ size = ok_same fits.1 in
    let below : power.number.value ≤ most = leb-true power.number.value most fits.0 in
    omega arith

power-fits : (power : Option Power) (size : ℕ) → size_within largest_power power ≡ Ok size → size ≤ largest_power
power-fits power size is = size-fits largest_power power size (omega arith) is

exponent-fits : (power : Option Power) (size : ℕ) → size_within largest_exponent power ≡ Ok size → size ≤ largest_exponent
exponent-fits power size is = size-fits largest_exponent power size (omega arith) is

size-of-negated : (size : ℕ) → nat_abs (neg_ℤ (pos size)) ≡ size
size-of-negated zero = refl
size-of-negated (suc n) = refl

size-of-exponent : (is_over : Bool) (power : Option Power) (size : ℕ) → nat_abs (exponent is_over power size) ≡ size
size-of-exponent is_over power size = by (is_below_zero is_over power)
  where
    by : (b : Bool) → nat_abs (if b then neg_ℤ (pos size) else pos size) ≡ size
    by false = refl
    by true = size-of-negated size

size-of-number-exponent : (value : ℕ) (is_over : Bool) (power : Option Power) (size : ℕ) → nat_abs (number_exponent value is_over power size) ≡ size
size-of-number-exponent value is_over power size = by ((value == 0) && has_minus power)
  where
    by : (b : Bool) → nat_abs (if b then neg_ℤ (pos size) else exponent is_over power size) ≡ size
    by false = size-of-exponent is_over power size
    by true = size-of-negated size

alone-fits : (is_over : Bool) (power : Option Power) (s : Spelled) (size : ℕ) → size_alone is_over power s ≡ Ok size → size ≤ largest_power
alone-fits is_over power s size is = by (is_inverted is_over power) is
  where
    by : (b : Bool) → (if b then Err (wrong s) else size_within largest_power power) ≡ Ok size → size ≤ largest_power
    by true is = cc
    by false is = power-fits power size is

module _ (names : List Entry) (stands : ℕ → Bool) where
  abbrev P : resolved.Piece → Type 0
  P p = IsPieceSound names stands p

  abbrev AreSound : List resolved.Piece → Type 0
  AreSound list = All P list

  one : (p : resolved.Piece) → P p → AreSound (p ∷ [])
  one p h = All-cons P p [] h (All-nil P)

  two : (p q : resolved.Piece) → P p → P q → AreSound (p ∷ q ∷ [])
  two p q h k = All-cons P p (q ∷ []) h (one q k)

  abbrev IsFactorSound : tree.Factor → Type 0
  IsFactorSound g = (link : Link) → AreSound (tree.pieces_of_factor link g)

  number-sound : (is_over : Bool) (n : Number) (power : Option Power) (g : tree.Factor) → number is_over n power ≡ Ok g → IsFactorSound g
  number-sound is_over n power g is =
      let v = bind-Ok (value_within largest_number n) (λ value. size_within largest_power power >>= (λ size. Ok (tree.number value (number_exponent value is_over power size)))) g is in
      let sized = bind-Ok (size_within largest_power power) (λ size. Ok (tree.number v.0 (number_exponent v.0 is_over power size))) g v.2 in
      let within : nat_abs (number_exponent v.0 is_over power sized.0) ≤ largest_power = rw (size-of-number-exponent v.0 is_over power sized.0) (power-fits power sized.0 sized.1) in
      subst IsFactorSound (ok_same sized.2) (λ link. one (pieces.Number link v.0 (number_exponent v.0 is_over power sized.0)) (value-fits largest_number n v.0 v.1, within))

  symbol-factor-sound : (is_wild is_over : Bool) (id : ℕ) (power : Option Power) (size : ℕ) → kind_at names id ≡ Some Symbol → size ≤ largest_exponent → IsFactorSound (symbol_factor is_wild is_over id power size)
  symbol-factor-sound true is_over id power size kind fits =
      let within : nat_abs (exponent false power size) ≤ largest_exponent = rw (size-of-exponent false power size) fits in
      λ link. one (pieces.Wild link id is_over (exponent false power size)) (kind, within)
  symbol-factor-sound false is_over id power size kind fits =
      let within : nat_abs (exponent is_over power size) ≤ largest_exponent = rw (size-of-exponent is_over power size) fits in
      λ link. one (pieces.Symbol link id (exponent is_over power size)) (kind, within)

  symbol-sound : (known : Known) (is_over : Bool) (id : ℕ) (power : Option Power) (g : tree.Factor) → kind_at names id ≡ Some Symbol → symbol known is_over id power ≡ Ok g → IsFactorSound g
  symbol-sound known is_over id power g kind is =
      let sized = bind-Ok (size_within largest_exponent power) (λ size. Ok (symbol_factor (is_wildcard known id) is_over id power size)) g is in
      subst IsFactorSound (ok_same sized.2) (symbol-factor-sound (is_wildcard known id) is_over id power sized.0 kind (exponent-fits power sized.0 sized.1))

  pub found-sound : (s : Spelled) (f : Found) → found names s ≡ Ok f → kind_at names f.id ≡ Some f.kind
  found-sound s f is = at_place (lookup names s.name) is
    where
      at_kind : (id : ℕ) (kind : Option kinds.Kind) → kind_at names id ≡ kind → found_as s id kind ≡ Ok f → kind_at names f.id ≡ Some f.kind
      at_kind id None at is = cc
      at_kind id (Some kind) at is = subst (λ (g : Found). kind_at names g.id ≡ Some g.kind) (ok_same is) at

      at_place : (place : Option ℕ) → found_at names s place ≡ Ok f → kind_at names f.id ≡ Some f.kind
      at_place None is = cc
      at_place (Some id) is = at_kind id (kind_at names id) refl is

  -- a function without arguments
  function-sound : (is_over : Bool) (s : Spelled) (id : ℕ) (is_commuting : Bool) (power : Option Power) (g : tree.Factor) → ((link : Link) → P (pieces.Function link id is_commuting))
      → (size_alone is_over power s >>= (λ size. Ok (tree.function id is_commuting tree.empty size))) ≡ Ok g → IsFactorSound g
  function-sound is_over s id is_commuting power g kind is =
      let sized = bind-Ok (size_alone is_over power s) (λ size. Ok (tree.function id is_commuting tree.empty size)) g is in
      subst IsFactorSound (ok_same sized.2) (λ link. two (pieces.Function link id is_commuting) (pieces.EndOfFunction sized.0) (kind link) (alone-fits is_over power s sized.0 sized.1))

  expression-sound : (b is_over : Bool) (s : Spelled) (id : ℕ) (power : Option Power) (g : tree.Factor) → stands id ≡ b → kind_at names id ≡ Some Expression
      → (if b then (size_alone is_over power s >>= (λ size. Ok (tree.stored id size))) else Err (wrong s)) ≡ Ok g → IsFactorSound g
  expression-sound false is_over s id power g there kind is = cc
  expression-sound true is_over s id power g there kind is =
      let sized = bind-Ok (size_alone is_over power s) (λ size. Ok (tree.stored id size)) g is in
      subst IsFactorSound (ok_same sized.2) (λ link. one (pieces.Stored link id sized.0) (kind, there, alone-fits is_over power s sized.0 sized.1))

  kind-sound : (known : Known) (is_over : Bool) (s : Spelled) (power : Option Power) (id : ℕ) (kind : kinds.Kind) (g : tree.Factor) → kind_at names id ≡ Some kind → by_kind stands known is_over s power id kind ≡ Ok g → IsFactorSound g
  kind-sound known is_over s power id Symbol g at is = symbol-sound known is_over id power g at is
  kind-sound known is_over s power id Vector g at is = cc
  kind-sound known is_over s power id (Index d) g at is = cc
  kind-sound known is_over s power id Function g at is = function-sound is_over s id false power g (λ link. at) is
  kind-sound known is_over s power id CommutingFunction g at is = function-sound is_over s id true power g (λ link. at) is
  kind-sound known is_over s power id Expression g at is = expression-sound (stands id) is_over s id power g refl at is
  kind-sound known is_over s power id Set g at is = cc

  name-sound : (known : Known) (is_over : Bool) (n : Named) (power : Option Power) (g : tree.Factor) → name names stands known is_over n power ≡ Ok g → IsFactorSound g
  name-sound known is_over (Imaginary spot) power g is =
      let sized = bind-Ok (size_alone is_over power (spelled_of (Imaginary spot))) (λ size. Ok (tree.imaginary size)) g is in
      subst IsFactorSound (ok_same sized.2) (λ link. one (pieces.Imaginary link sized.0) (alone-fits is_over power (spelled_of (Imaginary spot)) sized.0 sized.1))
  name-sound known is_over (Declared s) power g is =
      let f = bind-Ok (found names s) (λ f. by_kind stands known is_over s power f.id f.kind) g is in
      kind-sound known is_over s power f.0.id f.0.kind g (found-sound s f.0 f.1) f.2

  -- ---- vectors and indices

  vector-of-sound : (s : Spelled) (id v : ℕ) (kind : kinds.Kind) → kind_at names id ≡ Some kind → vector_of s id kind ≡ Ok v → IsOfKind Vector names v
  vector-of-sound s id v Vector at is = subst (IsOfKind Vector names) (ok_same is) at
  vector-of-sound s id v Symbol at is = cc
  vector-of-sound s id v (Index d) at is = cc
  vector-of-sound s id v Function at is = cc
  vector-of-sound s id v CommutingFunction at is = cc
  vector-of-sound s id v Expression at is = cc
  vector-of-sound s id v Set at is = cc

  pub vector-sound : (n : Named) (v : ℕ) → vector names n ≡ Ok v → IsOfKind Vector names v
  vector-sound (Imaginary spot) v is = cc
  vector-sound (Declared s) v is =
      let f = bind-Ok (found names s) (λ f. vector_of s f.id f.kind) v is in
      vector-of-sound s f.0.id v f.0.kind (found-sound s f.0 f.1) f.2

  dot-sound : (is_over : Bool) (p q : Named) (power : Option Power) (g : tree.Factor) → dot names is_over p q power ≡ Ok g → IsFactorSound g
  dot-sound is_over p q power g is =
      let l = bind-Ok (vector names p) (λ left. vector names q >>= (λ right. size_within largest_exponent power >>= (λ size. Ok (tree.dot left right (exponent is_over power size))))) g is in
      let r = bind-Ok (vector names q) (λ right. size_within largest_exponent power >>= (λ size. Ok (tree.dot l.0 right (exponent is_over power size)))) g l.2 in
      let sized = bind-Ok (size_within largest_exponent power) (λ size. Ok (tree.dot l.0 r.0 (exponent is_over power size))) g r.2 in
      let within : nat_abs (exponent is_over power sized.0) ≤ largest_exponent = rw (size-of-exponent is_over power sized.0) (exponent-fits power sized.0 sized.1) in
      subst IsFactorSound (ok_same sized.2) (λ link. one (pieces.Dot link l.0 r.0 (exponent is_over power sized.0)) (vector-sound p l.0 l.1, vector-sound q r.0 r.1, within))

  abbrev pub IsEndSound : ends.End → Type 0
  IsEndSound (an_end.Fixed n) = n ≤ largest_index
  IsEndSound (an_end.Index id) = IsIndexSound names (by_index.Declared id)
  IsEndSound (an_end.Vector id) = IsOfKind Vector names id

  end-of-sound : (s : Spelled) (id : ℕ) (e : ends.End) (kind : kinds.Kind) → kind_at names id ≡ Some kind → end_of s id kind ≡ Ok e → IsEndSound e
  end-of-sound s id e Vector at is = subst IsEndSound (ok_same is) at
  end-of-sound s id e (Index d) at is = subst IsEndSound (ok_same is) (d, at)
  end-of-sound s id e Symbol at is = cc
  end-of-sound s id e Function at is = cc
  end-of-sound s id e CommutingFunction at is = cc
  end-of-sound s id e Expression at is = cc
  end-of-sound s id e Set at is = cc

  pub fixed-end-sound : (n : Number) (x : ends.End) → fixed_end n ≡ Ok x → IsEndSound x
  fixed-end-sound n x is =
      let v = bind-Ok (value_within largest_index n) (λ value. Ok (an_end.Fixed value)) x is in
      subst IsEndSound (ok_same v.2) (value-fits largest_index n v.0 v.1)

  pub named-end-sound : (n : Named) (x : ends.End) → named_end names n ≡ Ok x → IsEndSound x
  named-end-sound (Imaginary spot) x is = cc
  named-end-sound (Declared s) x is =
      let f = bind-Ok (found names s) (λ f. end_of s f.id f.kind) x is in
      end-of-sound s f.0.id x f.0.kind (found-sound s f.0 f.1) f.2

  end-sound : (e : syntax.Entry) (x : ends.End) → end names e ≡ Ok x → IsEndSound x
  end-sound (syntax.number_entry n) x is = fixed-end-sound n x is
  end-sound (syntax.name_entry n) x is = named-end-sound (syntax.name_of n) x is

  linked-index-sound : (i : indices.Index) (e : ends.End) (size : ℕ) → IsIndexSound names i → IsEndSound e → size ≤ largest_power → IsFactorSound (linked_index i e size)
  linked-index-sound i (an_end.Vector p) size h k fits = λ link. one (pieces.Component link (record { vector = p; index = i }) size) (k, h, fits)
  linked-index-sound i (an_end.Fixed n) size h k fits = λ link. one (pieces.Delta link i (by_index.Fixed n) size) (h, k, fits)
  linked-index-sound i (an_end.Index j) size h k fits = λ link. one (pieces.Delta link i (by_index.Declared j) size) (h, k, fits)

  linked-sound : (a b : ends.End) (size : ℕ) → IsEndSound a → IsEndSound b → size ≤ largest_power → IsFactorSound (linked a b size)
  linked-sound (an_end.Vector p) (an_end.Vector q) size h k fits = λ link. one (pieces.Dot link p q (pos size)) (h, k, omega (arith, fits))
  linked-sound (an_end.Vector p) (an_end.Fixed n) size h k fits = λ link. one (pieces.Component link (record { vector = p; index = by_index.Fixed n }) size) (h, k, fits)
  linked-sound (an_end.Vector p) (an_end.Index i) size h k fits = λ link. one (pieces.Component link (record { vector = p; index = by_index.Declared i }) size) (h, k, fits)
  linked-sound (an_end.Fixed n) b size h k fits = linked-index-sound (by_index.Fixed n) b size h k fits
  linked-sound (an_end.Index i) b size h k fits = linked-index-sound (by_index.Declared i) b size h k fits

  linked-to-sound : (a b : ends.End) (power : Option Power) (g : tree.Factor) → IsEndSound a → IsEndSound b → linked_to a b power ≡ Ok g → IsFactorSound g
  linked-to-sound a b power g h k is =
      let sized = bind-Ok (size_within largest_power power) (λ size. Ok (linked a b size)) g is in
      subst IsFactorSound (ok_same sized.2) (linked-sound a b sized.0 h k (power-fits power sized.0 sized.1))

  delta-sound : (a b : syntax.Entry) (power : Option Power) (g : tree.Factor) → delta names a b power ≡ Ok g → IsFactorSound g
  delta-sound a b power g is =
      let x = bind-Ok (end names a) (λ first. end names b >>= (λ second. linked_to first second power)) g is in
      let y = bind-Ok (end names b) (λ second. linked_to x.0 second power) g x.2 in
      linked-to-sound x.0 y.0 power g (end-sound a x.0 x.1) (end-sound b y.0 y.1) y.2

  -- ---- names with arguments

  abbrev pub IsHeadSound : heads.Head → Type 0
  IsHeadSound (a_head.Function id is_commuting) = IsOfKind (if is_commuting then CommutingFunction else Function) names id
  IsHeadSound (a_head.Vector id) = IsOfKind Vector names id

  head-of-sound : (s : Spelled) (id : ℕ) (h : heads.Head) (kind : kinds.Kind) → kind_at names id ≡ Some kind → head_of s id kind ≡ Ok h → IsHeadSound h
  head-of-sound s id h Function at is = subst IsHeadSound (ok_same is) at
  head-of-sound s id h CommutingFunction at is = subst IsHeadSound (ok_same is) at
  head-of-sound s id h Vector at is = subst IsHeadSound (ok_same is) at
  head-of-sound s id h Symbol at is = cc
  head-of-sound s id h (Index d) at is = cc
  head-of-sound s id h Expression at is = cc
  head-of-sound s id h Set at is = cc

  pub head-sound : (n : Named) (h : heads.Head) → head names n ≡ Ok h → IsHeadSound h
  head-sound (Imaginary spot) h is = cc
  head-sound (Declared s) h is =
      let f = bind-Ok (found names s) (λ f. head_of s f.id f.kind) h is in
      head-of-sound s f.0.id h f.0.kind (found-sound s f.0 f.1) f.2

  only-sound : (n : Named) (s : syntax.Sum) (o : Option syntax.Entry) (x : ends.End) → only_end names n s o ≡ Ok x → IsEndSound x
  only-sound n s None x is = cc
  only-sound n s (Some e) x is = end-sound e x is

  component-sound : (n : Named) (args : syntax.Arguments) (x : ends.End) → component_end names n args ≡ Ok x → IsEndSound x
  component-sound n (syntax.argument (syntax.expression s)) x is = only-sound n s (alone s) x is
  component-sound n (syntax.argument (syntax.field f)) x is = cc
  component-sound n (syntax.further args a) x is = cc

  call-sound : (n : Named) (args : syntax.Arguments) (given : Result tree.Arguments Refusal) (power : Option Power) (h : heads.Head) (g : tree.Factor) → IsHeadSound h
      → ((all : tree.Arguments) → given ≡ Ok all → AreSound (tree.pieces_of_arguments all)) → call_by names n args given power h ≡ Ok g → IsFactorSound g
  call-sound n args given power (a_head.Vector id) g kind holds is =
      let x = bind-Ok (component_end names n args) (λ e. linked_to (an_end.Vector id) e power) g is in
      linked-to-sound (an_end.Vector id) x.0 power g kind (component-sound n args x.0 x.1) x.2
  call-sound n args given power (a_head.Function id is_commuting) g kind holds is =
      let all = bind-Ok given (λ all. size_within largest_power power >>= (λ size. Ok (tree.function id is_commuting all size))) g is in
      let sized = bind-Ok (size_within largest_power power) (λ size. Ok (tree.function id is_commuting all.0 size)) g all.2 in
      subst IsFactorSound (ok_same sized.2) (λ link. All-cons P (pieces.Function link id is_commuting) (tree.pieces_of_arguments all.0 ++ pieces.EndOfFunction sized.0 ∷ []) kind
      (All-append P (tree.pieces_of_arguments all.0) (pieces.EndOfFunction sized.0 ∷ []) (holds all.0 all.1) (one (pieces.EndOfFunction sized.0) (power-fits power sized.0 sized.1))))

  empty-call-sound : (n : Named) (power : Option Power) (h : heads.Head) (g : tree.Factor) → IsHeadSound h → empty_call_by n power h ≡ Ok g → IsFactorSound g
  empty-call-sound n power (a_head.Vector id) g kind is = cc
  empty-call-sound n power (a_head.Function id is_commuting) g kind is =
      let sized = bind-Ok (size_within largest_power power) (λ size. Ok (tree.function id is_commuting tree.empty size)) g is in
      subst IsFactorSound (ok_same sized.2) (λ link. two (pieces.Function link id is_commuting) (pieces.EndOfFunction sized.0) kind (power-fits power sized.0 sized.1))

  abbrev IsArgumentSound : tree.Argument → Type 0
  IsArgumentSound a = AreSound (tree.pieces_of_argument a)

  lone-of-sound : (id : ℕ) (kind : Option kinds.Kind) (a : tree.Argument) → kind_at names id ≡ kind → lone_of id kind ≡ Some a → IsArgumentSound a
  lone-of-sound id None a at is = cc
  lone-of-sound id (Some (Index d)) a at is = subst IsArgumentSound (some_same is) (one (pieces.Index (by_index.Declared id)) (d, at))
  lone-of-sound id (Some Vector) a at is = subst IsArgumentSound (some_same is) (one (pieces.Vector id) at)
  lone-of-sound id (Some Symbol) a at is = cc
  lone-of-sound id (Some Function) a at is = cc
  lone-of-sound id (Some CommutingFunction) a at is = cc
  lone-of-sound id (Some Expression) a at is = cc
  lone-of-sound id (Some Set) a at is = cc

  lone-at-sound : (place : Option ℕ) (a : tree.Argument) → lone_at names place ≡ Some a → IsArgumentSound a
  lone-at-sound None a is = cc
  lone-at-sound (Some id) a is = lone-of-sound id (kind_at names id) a refl is

  lone-named-sound : (n : Named) (a : tree.Argument) → lone_named names n ≡ Some a → IsArgumentSound a
  lone-named-sound (Imaginary spot) a is = cc
  lone-named-sound (Declared s) a is = lone-at-sound (lookup names s.name) a is

  lone-sound : (o : Option syntax.Entry) (a : tree.Argument) → lone names o ≡ Some a → IsArgumentSound a
  lone-sound None a is = cc
  lone-sound (Some (syntax.number_entry n)) a is = cc
  lone-sound (Some (syntax.name_entry n)) a is = lone-named-sound (syntax.name_of n) a is

  argument-sound : (o : Option tree.Argument) (r : Result tree.Sum Refusal) (a : tree.Argument) → ((b : tree.Argument) → o ≡ Some b → IsArgumentSound b)
      → ((t : tree.Sum) → r ≡ Ok t → AreSound (tree.pieces_of_sum t)) → argument o r ≡ Ok a → IsArgumentSound a
  argument-sound (Some b) r a alone expression is = subst IsArgumentSound (ok_same is) (alone b refl)
  argument-sound None r a alone expression is =
      let t = bind-Ok r (λ s. Ok (tree.expression s)) a is in
      subst IsArgumentSound (ok_same t.2) (All-cons P pieces.Argument (tree.pieces_of_sum t.0 ++ pieces.EndOfArgument ∷ []) tt
      (All-append P (tree.pieces_of_sum t.0) (pieces.EndOfArgument ∷ []) (expression t.0 t.1) (one pieces.EndOfArgument tt)))

  -- ---- powers that are names

  -- a base to each such power
  abbrev IsRaisedSound : tree.Base → Type 0
  IsRaisedSound b = (link : Link) (by : Exponent) → IsOfKind Symbol names by.symbol → AreSound (tree.pieces_of_base link b by)

  one-piece : (b : bases.Base) → IsBaseSound names b → (link : Link) (by : Exponent) → IsOfKind Symbol names by.symbol → AreSound (pieces.Raised link b by ∷ [])
  one-piece b h link by kind = one (pieces.Raised link b by) (h, kind)

  symbol-of-sound : (s : Spelled) (id v : ℕ) (kind : kinds.Kind) → kind_at names id ≡ Some kind → symbol_of s id kind ≡ Ok v → IsOfKind Symbol names v
  symbol-of-sound s id v Symbol at is = subst (IsOfKind Symbol names) (ok_same is) at
  symbol-of-sound s id v Vector at is = cc
  symbol-of-sound s id v (Index d) at is = cc
  symbol-of-sound s id v Function at is = cc
  symbol-of-sound s id v CommutingFunction at is = cc
  symbol-of-sound s id v Expression at is = cc
  symbol-of-sound s id v Set at is = cc

  pub symbol-named-sound : (n : Named) (v : ℕ) → symbol_named names n ≡ Ok v → IsOfKind Symbol names v
  symbol-named-sound (Imaginary spot) v is = cc
  symbol-named-sound (Declared s) v is =
      let f = bind-Ok (found names s) (λ f. symbol_of s f.id f.kind) v is in
      symbol-of-sound s f.0.id v f.0.kind (found-sound s f.0 f.1) f.2

  raised-sound : (r : Result tree.Base Refusal) (is_over is_below : Bool) (n : Named) (g : tree.Factor) → ((b : tree.Base) → r ≡ Ok b → IsRaisedSound b)
      → (r >>= (λ x. symbol_named names n >>= (λ id. Ok (tree.raised x is_over is_below id)))) ≡ Ok g → IsFactorSound g
  raised-sound r is_over is_below n g holds is =
      let x = bind-Ok r (λ x. symbol_named names n >>= (λ id. Ok (tree.raised x is_over is_below id))) g is in
      let id = bind-Ok (symbol_named names n) (λ id. Ok (tree.raised x.0 is_over is_below id)) g x.2 in
      subst IsFactorSound (ok_same id.2) (λ link. holds x.0 x.1 link (tree.exponent is_over is_below id.0) (symbol-named-sound n id.0 id.1))

  number-base-sound : (n : Number) (b : tree.Base) → number_base n ≡ Ok b → IsRaisedSound b
  number-base-sound n b is =
      let v = bind-Ok (value_within largest_number n) (λ value. Ok (tree.number_base value)) b is in
      subst IsRaisedSound (ok_same v.2) (one-piece (by_base.Number v.0) (value-fits largest_number n v.0 v.1))

  symbol-base-sound : (is_wild : Bool) (id : ℕ) → kind_at names id ≡ Some Symbol → IsRaisedSound (symbol_base is_wild id)
  symbol-base-sound true id kind = one-piece (by_base.Wild id) kind
  symbol-base-sound false id kind = one-piece (by_base.Symbol id) kind

  base-alone-sound : (is_over : Bool) (s : Spelled) (c b : tree.Base) → IsRaisedSound c → base_alone is_over s c ≡ Ok b → IsRaisedSound b
  base-alone-sound true s c b h is = cc
  base-alone-sound false s c b h is = subst IsRaisedSound (ok_same is) h

  -- a function without arguments
  function-base-sound : (id : ℕ) (is_commuting : Bool) → ((link : Link) → P (pieces.Function link id is_commuting)) → IsRaisedSound (tree.function_base id is_commuting tree.empty)
  function-base-sound id is_commuting kind = λ link by is_symbol. two (pieces.Function link id is_commuting) (pieces.EndOfRaisedFunction by) (kind link) is_symbol

  base-kind-sound : (known : Known) (is_over : Bool) (s : Spelled) (id : ℕ) (kind : kinds.Kind) (b : tree.Base) → kind_at names id ≡ Some kind → base_by_kind known is_over s id kind ≡ Ok b → IsRaisedSound b
  base-kind-sound known is_over s id Symbol b at is = subst IsRaisedSound (ok_same is) (symbol-base-sound (is_wildcard known id) id at)
  base-kind-sound known is_over s id Vector b at is = cc
  base-kind-sound known is_over s id (Index d) b at is = cc
  base-kind-sound known is_over s id Function b at is = base-alone-sound is_over s (tree.function_base id false tree.empty) b (function-base-sound id false (λ link. at)) is
  base-kind-sound known is_over s id CommutingFunction b at is = base-alone-sound is_over s (tree.function_base id true tree.empty) b (function-base-sound id true (λ link. at)) is
  base-kind-sound known is_over s id Expression b at is = cc
  base-kind-sound known is_over s id Set b at is = cc

  name-base-sound : (known : Known) (is_over : Bool) (n : Named) (b : tree.Base) → name_base names known is_over n ≡ Ok b → IsRaisedSound b
  name-base-sound known is_over (Imaginary spot) b is = base-alone-sound is_over (spelled_of (Imaginary spot)) tree.imaginary_base b (one-piece by_base.Imaginary tt) is
  name-base-sound known is_over (Declared s) b is =
      let f = bind-Ok (found names s) (λ f. base_by_kind known is_over s f.id f.kind) b is in
      base-kind-sound known is_over s f.0.id f.0.kind b (found-sound s f.0 f.1) f.2

  dot-base-sound : (p q : Named) (b : tree.Base) → dot_base names p q ≡ Ok b → IsRaisedSound b
  dot-base-sound p q b is =
      let l = bind-Ok (vector names p) (λ left. vector names q >>= (λ right. Ok (tree.dot_base left right))) b is in
      let r = bind-Ok (vector names q) (λ right. Ok (tree.dot_base l.0 right)) b l.2 in
      subst IsRaisedSound (ok_same r.2) (one-piece (by_base.Dot l.0 r.0) (vector-sound p l.0 l.1, vector-sound q r.0 r.1))

  linked-index-base-sound : (i : indices.Index) (e : ends.End) → IsIndexSound names i → IsEndSound e → IsRaisedSound (linked_index_base i e)
  linked-index-base-sound i (an_end.Vector p) h k = one-piece (by_base.Component (record { vector = p; index = i })) (k, h)
  linked-index-base-sound i (an_end.Fixed n) h k = one-piece (by_base.Delta i (by_index.Fixed n)) (h, k)
  linked-index-base-sound i (an_end.Index j) h k = one-piece (by_base.Delta i (by_index.Declared j)) (h, k)

  linked-base-sound : (a b : ends.End) → IsEndSound a → IsEndSound b → IsRaisedSound (linked_base a b)
  linked-base-sound (an_end.Vector p) (an_end.Vector q) h k =
      λ link by is_symbol. All-cons P (pieces.Open link) (pieces.Dot Plus p q (pos 1) ∷ pieces.CloseRaised by ∷ []) tt
      (two (pieces.Dot Plus p q (pos 1)) (pieces.CloseRaised by) (h, k, leb-true 1 largest_exponent refl) is_symbol)
  linked-base-sound (an_end.Vector p) (an_end.Fixed n) h k = one-piece (by_base.Component (record { vector = p; index = by_index.Fixed n })) (h, k)
  linked-base-sound (an_end.Vector p) (an_end.Index i) h k = one-piece (by_base.Component (record { vector = p; index = by_index.Declared i })) (h, k)
  linked-base-sound (an_end.Fixed n) b h k = linked-index-base-sound (by_index.Fixed n) b h k
  linked-base-sound (an_end.Index i) b h k = linked-index-base-sound (by_index.Declared i) b h k

  delta-base-sound : (a c : syntax.Entry) (b : tree.Base) → delta_base names a c ≡ Ok b → IsRaisedSound b
  delta-base-sound a c b is =
      let x = bind-Ok (end names a) (λ first. end names c >>= (λ second. Ok (linked_base first second))) b is in
      let y = bind-Ok (end names c) (λ second. Ok (linked_base x.0 second)) b x.2 in
      subst IsRaisedSound (ok_same y.2) (linked-base-sound x.0 y.0 (end-sound a x.0 x.1) (end-sound c y.0 y.1))

  empty-call-base-sound : (n : Named) (h : heads.Head) (b : tree.Base) → IsHeadSound h → empty_call_base n h ≡ Ok b → IsRaisedSound b
  empty-call-base-sound n (a_head.Vector id) b kind is = cc
  empty-call-base-sound n (a_head.Function id is_commuting) b kind is = subst IsRaisedSound (ok_same is) (function-base-sound id is_commuting (λ link. kind))

  call-base-sound : (n : Named) (args : syntax.Arguments) (given : Result tree.Arguments Refusal) (h : heads.Head) (b : tree.Base) → IsHeadSound h
      → ((all : tree.Arguments) → given ≡ Ok all → AreSound (tree.pieces_of_arguments all)) → call_base names n args given h ≡ Ok b → IsRaisedSound b
  call-base-sound n args given (a_head.Vector id) b kind holds is =
      let x = bind-Ok (component_end names n args) (λ e. Ok (linked_base (an_end.Vector id) e)) b is in
      subst IsRaisedSound (ok_same x.2) (linked-base-sound (an_end.Vector id) x.0 kind (component-sound n args x.0 x.1))
  call-base-sound n args given (a_head.Function id is_commuting) b kind holds is =
      let all = bind-Ok given (λ all. Ok (tree.function_base id is_commuting all)) b is in
      subst IsRaisedSound (ok_same all.2) (λ link by is_symbol. All-cons P (pieces.Function link id is_commuting) (tree.pieces_of_arguments all.0 ++ pieces.EndOfRaisedFunction by ∷ []) kind
      (All-append P (tree.pieces_of_arguments all.0) (pieces.EndOfRaisedFunction by ∷ []) (holds all.0 all.1) (one (pieces.EndOfRaisedFunction by) is_symbol)))

  -- what is sound where no expression may be named is sound
  inside : (p : resolved.Piece) → IsPieceSound names none_stands p → P p
  inside (pieces.Number link value power) h = h
  inside (pieces.Symbol link id power) h = h
  inside (pieces.Wild link id is_over power) h = h
  inside (pieces.Raised link base by) h = h
  inside (pieces.Stored link id power) h = let no : false ≡ true = h.1 in cc
  inside (pieces.Imaginary link power) h = h
  inside (pieces.Dot link left right power) h = h
  inside (pieces.Component link c power) h = h
  inside (pieces.Delta link i j power) h = h
  inside (pieces.Function link id is_commuting) h = h
  inside (pieces.EndOfFunction power) h = h
  inside (pieces.EndOfRaisedFunction by) h = h
  inside (pieces.Field w) h = h
  inside (pieces.Index i) h = h
  inside (pieces.Vector id) h = h
  inside pieces.Argument h = h
  inside pieces.EndOfArgument h = h
  inside (pieces.Open link) h = h
  inside (pieces.Close power) h = h
  inside (pieces.CloseRaised by) h = h

mutual
  pub sum-sound : (names : List Entry) (stands : ℕ → Bool) (known : Known) (s : syntax.Sum) (t : tree.Sum) → sum names stands known s ≡ Ok t → AreSound names stands (tree.pieces_of_sum t)
  sum-sound names stands known (syntax.first sign p) t is =
      let q = bind-Ok (product names stands known p) (λ q. Ok (tree.first (is_minus sign) q)) t is in
      subst (λ (x : tree.Sum). AreSound names stands (tree.pieces_of_sum x)) (ok_same q.2) (product-sound names stands known p q.0 q.1 (tree.link_of (is_minus sign)))
  sum-sound names stands known (syntax.more s sign p) t is =
      let a = bind-Ok (sum names stands known s) (λ t. product names stands known p >>= (λ q. Ok (tree.more t (is_minus (Some sign)) q))) t is in
      let q = bind-Ok (product names stands known p) (λ q. Ok (tree.more a.0 (is_minus (Some sign)) q)) t a.2 in
      subst (λ (x : tree.Sum). AreSound names stands (tree.pieces_of_sum x)) (ok_same q.2)
      (All-append (P names stands) (tree.pieces_of_sum a.0) (tree.pieces_of_product (tree.link_of (is_minus (Some sign))) q.0) (sum-sound names stands known s a.0 a.1) (product-sound names stands known p q.0 q.1 (tree.link_of (is_minus (Some sign)))))

  product-sound : (names : List Entry) (stands : ℕ → Bool) (known : Known) (p : syntax.Product) (q : tree.Product) → product names stands known p ≡ Ok q → (link : Link) → AreSound names stands (tree.pieces_of_product link q)
  product-sound names stands known (syntax.one f) q is link =
      let g = bind-Ok (factor names stands known false f) (λ g. Ok (tree.one g)) q is in
      subst (λ (x : tree.Product). AreSound names stands (tree.pieces_of_product link x)) (ok_same g.2) (factor-sound names stands known false f g.0 g.1 link)
  product-sound names stands known (syntax.times p f) q is link =
      let a = bind-Ok (product names stands known p) (λ q. factor names stands known false f >>= (λ g. Ok (tree.times q g))) q is in
      let g = bind-Ok (factor names stands known false f) (λ g. Ok (tree.times a.0 g)) q a.2 in
      subst (λ (x : tree.Product). AreSound names stands (tree.pieces_of_product link x)) (ok_same g.2)
      (All-append (P names stands) (tree.pieces_of_product link a.0) (tree.pieces_of_factor Times g.0) (product-sound names stands known p a.0 a.1 link) (factor-sound names stands known false f g.0 g.1 Times))
  product-sound names stands known (syntax.over p f) q is link =
      let a = bind-Ok (product names stands known p) (λ q. factor names stands known true f >>= (λ g. Ok (tree.times q g))) q is in
      let g = bind-Ok (factor names stands known true f) (λ g. Ok (tree.times a.0 g)) q a.2 in
      subst (λ (x : tree.Product). AreSound names stands (tree.pieces_of_product link x)) (ok_same g.2)
      (All-append (P names stands) (tree.pieces_of_product link a.0) (tree.pieces_of_factor Times g.0) (product-sound names stands known p a.0 a.1 link) (factor-sound names stands known true f g.0 g.1 Times))

  factor-sound : (names : List Entry) (stands : ℕ → Bool) (known : Known) (is_over : Bool) (f : syntax.Factor) (g : tree.Factor) → factor names stands known is_over f ≡ Ok g → IsFactorSound names stands g
  factor-sound names stands known is_over (syntax.factor b power) g is = to-power-sound names stands known is_over b (counted power) g is
  factor-sound names stands known is_over (syntax.raised b sign n) g is =
      raised-sound names stands (base names stands known is_over b) is_over (is_minus sign) (syntax.name_of n) g (λ c e. base-sound names stands known is_over b c e) is

  to-power-sound : (names : List Entry) (stands : ℕ → Bool) (known : Known) (is_over : Bool) (b : syntax.Base) (power : Option Power) (g : tree.Factor) → to_power names stands known is_over b power ≡ Ok g → IsFactorSound names stands g
  to-power-sound names stands known is_over (syntax.number n) power g is = number-sound names stands is_over n power g is
  to-power-sound names stands known is_over (syntax.name n) power g is = name-sound names stands known is_over (syntax.name_of n) power g is
  to-power-sound names stands known is_over (syntax.dot p q) power g is = dot-sound names stands is_over (syntax.name_of p) (syntax.name_of q) power g is
  to-power-sound names stands known is_over (syntax.delta spot a b) power g is = delta-sound names stands a b power g is
  to-power-sound names stands known is_over (syntax.empty_call n) power g is =
      let h = bind-Ok (head names (syntax.name_of n)) (empty_call_by (syntax.name_of n) power) g is in
      empty-call-sound names stands (syntax.name_of n) power h.0 g (head-sound names stands (syntax.name_of n) h.0 h.1) h.2
  to-power-sound names stands known is_over (syntax.call n args) power g is =
      let h = bind-Ok (head names (syntax.name_of n)) (call_by names (syntax.name_of n) args (arguments names known args) power) g is in
      call-sound names stands (syntax.name_of n) args (arguments names known args) power h.0 g (head-sound names stands (syntax.name_of n) h.0 h.1) (λ all e. arguments-sound names stands known args all e) h.2
  to-power-sound names stands known is_over (syntax.parenthesis s) power g is =
      let t = bind-Ok (sum names stands known s) (λ t. size_within largest_power power >>= (λ size. Ok (tree.parenthesis t size))) g is in
      let sized = bind-Ok (size_within largest_power power) (λ size. Ok (tree.parenthesis t.0 size)) g t.2 in
      subst (IsFactorSound names stands) (ok_same sized.2) (λ link. All-cons (P names stands) (pieces.Open link) (tree.pieces_of_sum t.0 ++ pieces.Close sized.0 ∷ []) tt
      (All-append (P names stands) (tree.pieces_of_sum t.0) (pieces.Close sized.0 ∷ []) (sum-sound names stands known s t.0 t.1) (one names stands (pieces.Close sized.0) (power-fits power sized.0 sized.1))))

  base-sound : (names : List Entry) (stands : ℕ → Bool) (known : Known) (is_over : Bool) (b : syntax.Base) (c : tree.Base) → base names stands known is_over b ≡ Ok c → IsRaisedSound names stands c
  base-sound names stands known is_over (syntax.number n) c is = number-base-sound names stands n c is
  base-sound names stands known is_over (syntax.name n) c is = name-base-sound names stands known is_over (syntax.name_of n) c is
  base-sound names stands known is_over (syntax.dot p q) c is = dot-base-sound names stands (syntax.name_of p) (syntax.name_of q) c is
  base-sound names stands known is_over (syntax.delta spot a b) c is = delta-base-sound names stands a b c is
  base-sound names stands known is_over (syntax.empty_call n) c is =
      let h = bind-Ok (head names (syntax.name_of n)) (empty_call_base (syntax.name_of n)) c is in
      empty-call-base-sound names stands (syntax.name_of n) h.0 c (head-sound names stands (syntax.name_of n) h.0 h.1) h.2
  base-sound names stands known is_over (syntax.call n args) c is =
      let h = bind-Ok (head names (syntax.name_of n)) (call_base names (syntax.name_of n) args (arguments names known args)) c is in
      call-base-sound names stands (syntax.name_of n) args (arguments names known args) h.0 c (head-sound names stands (syntax.name_of n) h.0 h.1) (λ all e. arguments-sound names stands known args all e) h.2
  base-sound names stands known is_over (syntax.parenthesis s) c is =
      let t = bind-Ok (sum names stands known s) (λ t. Ok (tree.parenthesis_base t)) c is in
      subst (IsRaisedSound names stands) (ok_same t.2) (λ link by is_symbol. All-cons (P names stands) (pieces.Open link) (tree.pieces_of_sum t.0 ++ pieces.CloseRaised by ∷ []) tt
      (All-append (P names stands) (tree.pieces_of_sum t.0) (pieces.CloseRaised by ∷ []) (sum-sound names stands known s t.0 t.1) (one names stands (pieces.CloseRaised by) is_symbol)))

  arguments-sound : (names : List Entry) (stands : ℕ → Bool) (known : Known) (args : syntax.Arguments) (all : tree.Arguments) → arguments names known args ≡ Ok all → AreSound names stands (tree.pieces_of_arguments all)
  arguments-sound names stands known (syntax.argument a) all is =
      let x = bind-Ok (one_argument names known a) (λ x. Ok (tree.further tree.empty x)) all is in
      subst (λ (y : tree.Arguments). AreSound names stands (tree.pieces_of_arguments y)) (ok_same x.2) (one-argument-sound names stands known a x.0 x.1)
  arguments-sound names stands known (syntax.further args a) all is =
      let before = bind-Ok (arguments names known args) (λ before. one_argument names known a >>= (λ x. Ok (tree.further before x))) all is in
      let x = bind-Ok (one_argument names known a) (λ x. Ok (tree.further before.0 x)) all before.2 in
      subst (λ (y : tree.Arguments). AreSound names stands (tree.pieces_of_arguments y)) (ok_same x.2)
      (All-append (P names stands) (tree.pieces_of_arguments before.0) (tree.pieces_of_argument x.0) (arguments-sound names stands known args before.0 before.1) (one-argument-sound names stands known a x.0 x.1))

  one-argument-sound : (names : List Entry) (stands : ℕ → Bool) (known : Known) (a : syntax.Argument) (x : tree.Argument) → one_argument names known a ≡ Ok x → AreSound names stands (tree.pieces_of_argument x)
  one-argument-sound names stands known (syntax.expression s) x is =
      argument-sound names stands (lone names (alone s)) (sum names none_stands known s) x (λ b e. lone-sound names stands (alone s) b e)
      (λ t e. All-weaker (IsPieceSound names none_stands) (IsPieceSound names stands) (inside names stands) (tree.pieces_of_sum t) (sum-sound names none_stands known s t e)) is
  one-argument-sound names stands known (syntax.field n) x is =
      subst (λ (y : tree.Argument). AreSound names stands (tree.pieces_of_argument y)) (ok_same is) (one names stands (pieces.Field (field_number known.fields n.name)) tt)

-- an argument of a pattern without wildcards
pub fixed-sound : (names : List Entry) (s : syntax.Sum) (known : Known) (x : tree.Argument) → argument (lone names (alone s)) (sum names none_stands known s) ≡ Ok x → AreSound names none_stands (tree.pieces_of_argument x)
fixed-sound names s known x is =
    argument-sound names none_stands (lone names (alone s)) (sum names none_stands known s) x (λ b e. lone-sound names none_stands (alone s) b e) (λ t e. sum-sound names none_stands known s t e) is
