-- Factors of a pattern that are put as they are read, and as Pattern says it of trees.
use Rattle.std.proofs.Common.{◌≡◌, ℕ, Bool, true, false, cond, List, [], ◌∷◌, ◌++◌, Option, Some, None, Result, Ok, Err, refl, sym, ap, ◌∙◌}
use Rattle.form_names.specs.declared.kind.Kind as kinds
use Rattle.form_names.specs.declared.kind.Kind.TheVariants as kind
use Rattle.form_names.specs.Names.{Entry}
use Rattle.form_ast.specs.declared.expr.Link.TheVariants as links
use Rattle.form_number.specs.declared.number.Number.{Number}
use Rattle.form_ast.specs.declared.expr.Named.TheVariants.{Declared, Imaginary}
use Rattle.form_ast.specs.declared.expr.Spelled.{Spelled}
use Rattle.form_ast.specs.declared.expr.Restriction.{Restriction}
use Rattle.form_ast.specs.declared.expr.Piece.{Piece}
use Rattle.form_ast.specs.declared.expr.Piece.TheVariants as written
use Rattle.form_ast.specs.Syntax as syntax
use Rattle.form_tree.specs.declared.pattern.Name.{Name}
use Rattle.form_tree.specs.declared.pattern.IndexName.TheVariants as by_index
use Rattle.form_tree.specs.Pattern as pattern
use Rattle.form_pattern.specs.declared.joining.Raw as raws
use Rattle.form_pattern.specs.declared.joining.Raw.TheVariants as a_raw
use Rattle.form_right_side.specs.declared.resolved.End as ends
use Rattle.form_right_side.specs.declared.resolved.End.TheVariants as an_end
use Rattle.form_pattern.specs.declared.putting.PatternEnd as put_ends
use Rattle.form_pattern.specs.declared.putting.PatternEnd.TheVariants as an_end_put
use Rattle.form_right_side.specs.declared.powers.Power.{Power}
use Rattle.form_pattern.specs.Joining.{flat, begun, ended}
use Rattle.form_pattern.specs.Pattern as trees
use Rattle.form_pattern.specs.Pattern.{Raw}
use Rattle.form_pattern.specs.PatternWalking as walking
use Rattle.form_pattern.specs.PatternWalking.{mark_at, behind_first, behind_mark}
use Rattle.form_right_side.specs.Refusal.{Refusal, ◌>>=◌}
use Rattle.form_right_side.specs.RightSide.{largest_index, largest_exponent, largest_power, value_within, size_within, exponent, is_inverted, spelled_of, wrong, found, vector, named_end, fixed_end, symbol_named}

-- ---- marks

abbrev pub restriction_of : syntax.Label → Option Restriction
restriction_of (syntax.named n) = None
restriction_of (syntax.wildcard n r) = Some r

pub mark-seen : (l : syntax.Label) (rest : List Piece) → mark_at rest ≡ None → mark_at (syntax.mark_of l ++ rest) ≡ restriction_of l
mark-seen (syntax.named n) rest bare = bare
mark-seen (syntax.wildcard n r) rest bare = refl

pub behind-seen : (l : syntax.Label) (rest : List Piece) → mark_at rest ≡ None → behind_mark (syntax.mark_of l ++ rest) ≡ rest
behind-seen (syntax.named n) [] bare = refl
behind-seen (syntax.named n) (p ∷ rest) bare = ap (λ (m : Option Restriction). behind_first m p rest) bare
behind-seen (syntax.wildcard n r) rest bare = refl

-- ---- by their pieces

abbrev pub flatly : Result Raw Refusal → Result raws.Raw Refusal
flatly r = r >>= (λ x. Ok (flat x))

abbrev pub end_as : trees.PatternEnd → put_ends.PatternEnd
end_as (trees.index_end i) = an_end_put.Index i
end_as (trees.vector_end n) = an_end_put.Vector n

abbrev pub given_as : Result trees.PatternEnd Refusal → Result (Option put_ends.PatternEnd) Refusal
given_as r = r >>= (λ x. Ok (Some (end_as x)))

-- what is given, and then put by its pieces
flat-of : {A : Type 0} (r : Result A Refusal) (f : A → Raw) (g : A → raws.Raw) → ((x : A) → g x ≡ flat (f x)) → (r >>= (λ x. Ok (g x))) ≡ flatly (r >>= (λ x. Ok (f x)))
flat-of (Ok x) f g same = ap (λ (y : raws.Raw). Ok y) (same x)
flat-of (Err e) f g same = refl

-- what comes after a name
flat-after : {A : Type 0} (r s : Result A Refusal) (f : A → Result Raw Refusal) (g : A → Result raws.Raw Refusal) → r ≡ s → ((x : A) → g x ≡ flatly (f x)) → (r >>= g) ≡ flatly (s >>= f)
flat-after {A = A} r s f g is same = ap (λ (t : Result A Refusal). t >>= g) is ∙ by s
  where
    by : (t : Result A Refusal) → (t >>= g) ≡ flatly (t >>= f)
    by (Ok x) = same x
    by (Err e) = refl

module _ (names : List Entry) where
  pub marked-same : (l : syntax.Label) (id : ℕ) → walking.marked names (restriction_of l) id ≡ trees.marked names l id
  marked-same (syntax.named n) id = refl
  marked-same (syntax.wildcard n r) id = refl

  symbol-same : (power : Option Power) (n : Name) → walking.symbol_put power n ≡ flatly (trees.symbol_raw power n)
  symbol-same power n = flat-of (size_within largest_exponent power) (λ size. trees.of_symbol n (exponent false power size)) (λ size. a_raw.Symbol n (exponent false power size)) (λ size. refl)

  -- a function with these arguments
  pub function-same : (is_commuting : Bool) (power : Option Power) (args : pattern.Arguments) (n : Name)
      → walking.function_put is_commuting power (begun is_commuting n ++ pattern.pieces_of_arguments args) ≡ flatly (trees.function_raw is_commuting power args n)
  function-same true power args n = flat-of (size_within largest_power power) (λ size. trees.of_function n args size) (λ size. ended true (begun true n ++ pattern.pieces_of_arguments args) size) (λ size. refl)
  function-same false power args n = flat-of (size_within largest_power power) (λ size. trees.in_word n args size) (λ size. ended false (begun false n ++ pattern.pieces_of_arguments args) size) (λ size. refl)

  pub empty-same : (is_commuting : Bool) (power : Option Power) (n : Name) → walking.function_put is_commuting power (begun is_commuting n) ≡ flatly (trees.function_raw is_commuting power pattern.empty n)
  empty-same true power n = function-same true power pattern.empty n
  empty-same false power n = function-same false power pattern.empty n

  module _ (l : syntax.Label) (s : Spelled) (is : spelled_of (syntax.name_of l) ≡ s) (power : Option Power) where
    lone-same : (id : ℕ) (is_commuting : Bool) → walking.lone_function_put names s (restriction_of l) power id is_commuting ≡ flatly (trees.lone_function_raw names l power id is_commuting)
    lone-same id is_commuting = by (is_inverted false power)
      where
        by : (b : Bool)
            → cond b (Err (wrong s)) (walking.marked names (restriction_of l) id >>= (λ n. walking.function_put is_commuting power (begun is_commuting n)))
            ≡ flatly (cond b (Err (wrong (spelled_of (syntax.name_of l)))) (trees.marked names l id >>= trees.function_raw is_commuting power pattern.empty))
        by true = ap (λ (x : Spelled). Err (wrong x)) (sym is)
        by false =
            flat-after (walking.marked names (restriction_of l) id) (trees.marked names l id) (trees.function_raw is_commuting power pattern.empty) (λ n. walking.function_put is_commuting power (begun is_commuting n))
            (marked-same l id) (empty-same is_commuting power)

    kind-same : (id : ℕ) (k : kinds.Kind) → walking.kind_put names s (restriction_of l) power id k ≡ flatly (trees.raw_by_kind names l power id k)
    kind-same id kind.Symbol =
        flat-after (walking.marked names (restriction_of l) id) (trees.marked names l id) (trees.symbol_raw power) (walking.symbol_put power) (marked-same l id) (symbol-same power)
    kind-same id kind.Function = lone-same id false
    kind-same id kind.CommutingFunction = lone-same id true
    kind-same id kind.Vector = ap (λ (x : Spelled). Err (wrong x)) (sym is)
    kind-same id (kind.Index d) = ap (λ (x : Spelled). Err (wrong x)) (sym is)
    kind-same id kind.Expression = ap (λ (x : Spelled). Err (wrong x)) (sym is)
    kind-same id kind.Set = ap (λ (x : Spelled). Err (wrong x)) (sym is)

  -- a name alone
  pub name-same : (l : syntax.Label) (power : Option Power) → walking.name_put names (syntax.name_of l) (restriction_of l) power ≡ flatly (trees.raw_named names l power (syntax.name_of l))
  name-same (syntax.named (Imaginary spot)) power = refl
  name-same (syntax.named (Declared s)) power =
      flat-after (found names s) (found names s) (λ f. trees.raw_by_kind names (syntax.named (Declared s)) power f.id f.kind) (λ f. walking.kind_put names s None power f.id f.kind) refl
      (λ f. kind-same (syntax.named (Declared s)) s refl power f.id f.kind)
  name-same (syntax.wildcard s r) power =
      flat-after (found names s) (found names s) (λ f. trees.raw_by_kind names (syntax.wildcard s r) power f.id f.kind) (λ f. walking.kind_put names s (Some r) power f.id f.kind) refl
      (λ f. kind-same (syntax.wildcard s r) s refl power f.id f.kind)

  -- a name that is marked, and what comes then
  marked-after : (r : Result ℕ Refusal) (l : syntax.Label) (f : Name → Result Raw Refusal) (g : Name → Result raws.Raw Refusal) → ((n : Name) → g n ≡ flatly (f n))
      → ((r >>= walking.marked names (restriction_of l)) >>= g) ≡ flatly (r >>= (λ id. trees.marked names l id >>= f))
  marked-after (Ok id) l f g same = flat-after (walking.marked names (restriction_of l) id) (trees.marked names l id) f g (marked-same l id) same
  marked-after (Err e) l f g same = refl

  -- a name to the power that a wildcard stands for
  pub whole-same : (l e : syntax.Label) → walking.whole_put names (syntax.name_of l) (restriction_of l) (syntax.name_of e) (restriction_of e) ≡ flatly (trees.whole_raw names l e)
  whole-same l e =
      marked-after (symbol_named names (syntax.name_of l)) l (λ m. symbol_named names (syntax.name_of e) >>= (λ by. trees.marked names e by >>= (λ x. Ok (trees.of_whole m x))))
      (λ m. walking.symbol_name names (syntax.name_of e) (restriction_of e) >>= (λ x. Ok (flat (trees.of_whole m x))))
      (λ m. marked-after (symbol_named names (syntax.name_of e)) e (λ x. Ok (trees.of_whole m x)) (λ x. Ok (flat (trees.of_whole m x))) (λ x. refl))

  -- what a vector with its mark gives, and what comes then
  vector-after : (r : Result ℕ Refusal) (l : syntax.Label) (f : Name → Result Raw Refusal) (g : Name → Result raws.Raw Refusal) → ((n : Name) → g n ≡ flatly (f n))
      → ((r >>= walking.marked names (restriction_of l)) >>= g) ≡ flatly ((r >>= trees.marked names l) >>= f)
  vector-after (Ok id) l f g same = flat-after (walking.marked names (restriction_of l) id) (trees.marked names l id) f g (marked-same l id) same
  vector-after (Err e) l f g same = refl

  pub dot-same : (p q : syntax.Label) (power : Option Power)
      → walking.dot_put names (syntax.name_of p) (restriction_of p) (syntax.name_of q) (restriction_of q) power ≡ flatly (trees.dot_raw names p q power)
  dot-same p q power =
      vector-after (vector names (syntax.name_of p)) p (λ left. trees.vector_name names q >>= (λ right. size_within largest_exponent power >>= (λ size. Ok (trees.of_dot left right (exponent false power size)))))
      (λ left. walking.vector_name names (syntax.name_of q) (restriction_of q) >>= (λ right. size_within largest_exponent power >>= (λ size. Ok (a_raw.Dot left right (exponent false power size)))))
      (λ left. vector-after (vector names (syntax.name_of q)) q (λ right. size_within largest_exponent power >>= (λ size. Ok (trees.of_dot left right (exponent false power size))))
      (λ right. size_within largest_exponent power >>= (λ size. Ok (a_raw.Dot left right (exponent false power size))))
      (λ right. flat-of (size_within largest_exponent power) (λ size. trees.of_dot left right (exponent false power size)) (λ size. a_raw.Dot left right (exponent false power size)) (λ size. refl)))

  -- ---- ends

  pub linked-same : (a b : trees.PatternEnd) (power : Option Power) → walking.linked_put (end_as a) (end_as b) power ≡ flatly (trees.linked_raw a b power)
  linked-same a b power = flat-of (size_within largest_power power) (λ size. trees.linked a b size) (λ size. walking.linked (end_as a) (end_as b) size) (λ size. same a b size)
    where
      same : (a b : trees.PatternEnd) (size : ℕ) → walking.linked (end_as a) (end_as b) size ≡ flat (trees.linked a b size)
      same (trees.vector_end p) (trees.vector_end q) size = refl
      same (trees.vector_end p) (trees.index_end i) size = refl
      same (trees.index_end i) (trees.vector_end p) size = refl
      same (trees.index_end i) (trees.index_end j) size = refl

  end-after : (l : syntax.Label) (r : Result Name Refusal) (f : Name → trees.PatternEnd) → ((r >>= (λ n. Ok (end_as (f n)))) >>= (λ x. Ok (Some x))) ≡ given_as (r >>= (λ n. Ok (f n)))
  end-after l (Ok n) f = refl
  end-after l (Err e) f = refl

  marked-end-same : (l : syntax.Label) (x : ends.End) → (walking.marked_end names (restriction_of l) x >>= (λ y. Ok (Some y))) ≡ given_as (trees.marked_end names l x)
  marked-end-same l (an_end.Fixed value) = refl
  marked-end-same l (an_end.Index id) =
      ap (λ (r : Result Name Refusal). (r >>= (λ n. Ok (an_end_put.Index (by_index.Name n)))) >>= (λ y. Ok (Some y))) (marked-same l id) ∙ end-after l (trees.marked names l id) (λ n. trees.index_end (by_index.Name n))
  marked-end-same l (an_end.Vector id) =
      ap (λ (r : Result Name Refusal). (r >>= (λ n. Ok (an_end_put.Vector n))) >>= (λ y. Ok (Some y))) (marked-same l id) ∙ end-after l (trees.marked names l id) (λ n. trees.vector_end n)

  -- a name that is an end, with the mark behind it
  named-end-same : (l : syntax.Label) (mark : Option Restriction) → mark ≡ restriction_of l
      → ((named_end names (syntax.name_of l) >>= (λ x. Ok (Some x))) >>= walking.marked_given names mark) ≡ given_as (trees.pattern_end names (syntax.name_entry l))
  named-end-same l mark is = ap (λ (m : Option Restriction). (named_end names (syntax.name_of l) >>= (λ x. Ok (Some x))) >>= walking.marked_given names m) is ∙ by (named_end names (syntax.name_of l))
    where
      by : (r : Result ends.End Refusal) → ((r >>= (λ x. Ok (Some x))) >>= walking.marked_given names (restriction_of l)) ≡ given_as (r >>= trees.marked_end names l)
      by (Ok x) = marked-end-same l x
      by (Err e) = refl

  -- a number that is an end
  number-end-same : (n : Number) (mark : Option Restriction) → ((fixed_end n >>= (λ x. Ok (Some x))) >>= walking.marked_given names mark) ≡ given_as (trees.pattern_end names (syntax.number_entry n))
  number-end-same n mark = by (value_within largest_index n)
    where
      by : (r : Result ℕ Refusal) → (((r >>= (λ value. Ok (an_end.Fixed value))) >>= (λ x. Ok (Some x))) >>= walking.marked_given names mark) ≡ given_as ((r >>= (λ value. Ok (an_end.Fixed value))) >>= (λ e. Ok (trees.end_fixed e)))
      by (Ok value) = refl
      by (Err e) = refl

  -- an argument of `d_`
  pub entry-seen : (e : syntax.Entry) (rest : List Piece) → mark_at rest ≡ None → walking.entry_taken names (syntax.pieces_of_entry e ++ rest) ≡ given_as (trees.pattern_end names e)
  entry-seen (syntax.name_entry l) rest bare = named-end-same l (mark_at (syntax.mark_of l ++ rest)) (mark-seen l rest bare)
  entry-seen (syntax.number_entry n) rest bare = number-end-same n (mark_at rest)

  pub behind-entry-seen : (e : syntax.Entry) (rest : List Piece) → mark_at rest ≡ None → walking.behind_entry (syntax.pieces_of_entry e ++ rest) ≡ rest
  behind-entry-seen (syntax.name_entry l) rest bare = behind-seen l rest bare
  behind-entry-seen (syntax.number_entry n) rest bare = behind-seen (syntax.named (Imaginary n.spot)) rest bare

  -- one name or one number alone
  pub alone-name : (l : syntax.Label) → walking.alone_in names (written.Name links.First (syntax.name_of l) ∷ syntax.mark_of l) ≡ given_as (trees.pattern_end names (syntax.name_entry l))
  alone-name (syntax.named n) = named-end-same (syntax.named n) None refl
  alone-name (syntax.wildcard n r) = named-end-same (syntax.wildcard n r) (Some r) refl

  pub alone-number : (n : Number) → walking.alone_in names (written.Number links.First n ∷ []) ≡ given_as (trees.pattern_end names (syntax.number_entry n))
  alone-number n = number-end-same n None
