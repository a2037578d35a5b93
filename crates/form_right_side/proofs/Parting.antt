-- Going through pieces in parts: what is before such a place is gone through without what is behind.
use Rattle.std.proofs.Common.{◌≡◌, ℕ, ◌+◌, ◌-◌, ◌<◌, Bool, true, false, eqb, cond, List, [], ◌∷◌, ◌++◌, Option, Some, None, Result, Ok, Err, refl, sym, ap, subst, ◌∙◌, arith, append_assoc}
use Rattle.std.proofs.lemmas.Bool.{eqb-false}
use Rattle.form_names.specs.Names.{Entry}
use Rattle.form_ast.specs.declared.expr.Link.{Link}
use Rattle.form_ast.specs.declared.expr.Link.TheVariants as links
use Rattle.form_ast.specs.declared.expr.Named.{Named}
use Rattle.form_ast.specs.declared.expr.Sign.{Sign}
use Rattle.form_ast.specs.declared.expr.Piece.{Piece}
use Rattle.form_ast.specs.declared.expr.Piece.TheVariants as written
use Rattle.form_ast.specs.Syntax as syntax
use Rattle.form_ast.specs.Joined.{joined}
use Rattle.form_tree.specs.declared.tree.Piece as resolved
use Rattle.form_tree.specs.declared.tree.Piece.TheVariants as pieces
use Rattle.form_tree.specs.declared.tree.Exponent.{Exponent}
use Rattle.form_tree.specs.Tree as tree
use Rattle.form_right_side.specs.declared.resolved.End as ends
use Rattle.form_right_side.specs.declared.resolved.End.TheVariants as an_end
use Rattle.form_right_side.specs.declared.resolved.Head as heads
use Rattle.form_right_side.specs.declared.resolved.Head.TheVariants as a_head
use Rattle.form_right_side.specs.declared.walk.Place.{Place}
use Rattle.form_right_side.specs.declared.walk.Place.TheVariants as places
use Rattle.form_right_side.specs.declared.error.CheckError.{CheckError}
use Rattle.form_right_side.specs.Refusal.{Refusal, IsRefused, ◌>>=◌}
use Rattle.form_right_side.specs.RightSide.{Known, number_base, name_base, linked_base, largest_power, size_within, spelled_of, wrong_kind, number, name, vector, linked_to, head, lone}
use Rattle.form_right_side.specs.Walking.{Walk, at, adds, may_name, is_over, power_at, name_power_at, by_name, ends_argument, alone_piece, alone_before, alone_at, is_single, misplaced_to_end, component_begun, called_by, ended_by, end_of_function, end_of_parenthesis, call_ended, closed, argument_ended, in_sum, argument_begun, ends_call, field_of, field_or_argument, behind_argument, dot_to, dot_ended, delta_ended, component_ended, taken_at, taken, walked}
use Rattle.form_right_side.specs.Parting.{open_behind, begins_term}
use Rattle.form_right_side.proofs.Binding.{bind-bind, bind-same}
use Rattle.form_right_side.proofs.Loops.{IsRefused-before}

-- ---- what is seen ahead

both : {A B C : Type 0} (f : A → B → C) {a c : A} {b d : B} → a ≡ c → b ≡ d → f a b ≡ f c d
both f {a = a} {c = c} {b = b} {d = d} e g = ap (λ x. f x b) e ∙ ap (f c) g

never : {A : Type 0} → false ≡ true → A
never e = absurd (subst (λ (b : Bool). cond b ⊥ (Unit {0})) e tt)

neither : {A : Type 0} (b : Bool) → ◌≡◌ {A = Option A} (cond b None None) None
neither true = refl
neither false = refl

-- the same is seen at the front of both
pub record Same (all rest : List Piece) : Type 0 where
  pub power : power_at all ≡ power_at rest
  pub names : name_power_at all ≡ name_power_at rest
  pub ends : ends_argument all ≡ ends_argument rest
  pub alone : alone_at all ≡ alone_at rest

same-nothing : (more : List Piece) → begins_term more ≡ true → Same more []
same-nothing [] e = never e
same-nothing (written.Number links.First n ∷ rest) e = never e
same-nothing (written.Number links.Plus n ∷ rest) e = record { power = refl; names = refl; ends = refl; alone = neither (ends_argument rest) }
same-nothing (written.Number links.Minus n ∷ rest) e = record { power = refl; names = refl; ends = refl; alone = neither (ends_argument rest) }
same-nothing (written.Number links.Times n ∷ rest) e = never e
same-nothing (written.Number links.Over n ∷ rest) e = never e
same-nothing (written.Name links.First n ∷ rest) e = never e
same-nothing (written.Name links.Plus n ∷ rest) e = record { power = refl; names = refl; ends = refl; alone = neither (ends_argument rest) }
same-nothing (written.Name links.Minus n ∷ rest) e = record { power = refl; names = refl; ends = refl; alone = neither (ends_argument rest) }
same-nothing (written.Name links.Times n ∷ rest) e = never e
same-nothing (written.Name links.Over n ∷ rest) e = never e
same-nothing (written.Dot links.First n ∷ rest) e = never e
same-nothing (written.Dot links.Plus n ∷ rest) e = record { power = refl; names = refl; ends = refl; alone = neither (ends_argument rest) }
same-nothing (written.Dot links.Minus n ∷ rest) e = record { power = refl; names = refl; ends = refl; alone = neither (ends_argument rest) }
same-nothing (written.Dot links.Times n ∷ rest) e = never e
same-nothing (written.Dot links.Over n ∷ rest) e = never e
same-nothing (written.EndOfDot n ∷ rest) e = never e
same-nothing (written.Delta links.First spot ∷ rest) e = never e
same-nothing (written.Delta links.Plus spot ∷ rest) e = record { power = refl; names = refl; ends = refl; alone = neither (ends_argument rest) }
same-nothing (written.Delta links.Minus spot ∷ rest) e = record { power = refl; names = refl; ends = refl; alone = neither (ends_argument rest) }
same-nothing (written.Delta links.Times spot ∷ rest) e = never e
same-nothing (written.Delta links.Over spot ∷ rest) e = never e
same-nothing (written.EntryName n ∷ rest) e = never e
same-nothing (written.EntryNumber n ∷ rest) e = never e
same-nothing (written.EndOfDelta ∷ rest) e = never e
same-nothing (written.Call links.First n ∷ rest) e = never e
same-nothing (written.Call links.Plus n ∷ rest) e = record { power = refl; names = refl; ends = refl; alone = neither (ends_argument rest) }
same-nothing (written.Call links.Minus n ∷ rest) e = record { power = refl; names = refl; ends = refl; alone = neither (ends_argument rest) }
same-nothing (written.Call links.Times n ∷ rest) e = never e
same-nothing (written.Call links.Over n ∷ rest) e = never e
same-nothing (written.Comma ∷ rest) e = never e
same-nothing (written.EndOfCall ∷ rest) e = never e
same-nothing (written.Open links.First ∷ rest) e = never e
same-nothing (written.Open links.Plus ∷ rest) e = record { power = refl; names = refl; ends = refl; alone = neither (ends_argument rest) }
same-nothing (written.Open links.Minus ∷ rest) e = record { power = refl; names = refl; ends = refl; alone = neither (ends_argument rest) }
same-nothing (written.Open links.Times ∷ rest) e = never e
same-nothing (written.Open links.Over ∷ rest) e = never e
same-nothing (written.Close ∷ rest) e = never e
same-nothing (written.Raised b s n ∷ rest) e = never e
same-nothing (written.RaisedByName s n ∷ rest) e = never e
same-nothing (written.Marked r ∷ rest) e = never e
same-nothing (written.Field n ∷ rest) e = never e

ends-front : (q : Piece) (some others : List Piece) → ends_argument (q ∷ some) ≡ ends_argument (q ∷ others)
ends-front (written.Number link n) some others = refl
ends-front (written.Name link n) some others = refl
ends-front (written.Dot link n) some others = refl
ends-front (written.EndOfDot n) some others = refl
ends-front (written.Delta link spot) some others = refl
ends-front (written.EntryName n) some others = refl
ends-front (written.EntryNumber n) some others = refl
ends-front written.EndOfDelta some others = refl
ends-front (written.Call link n) some others = refl
ends-front written.Comma some others = refl
ends-front written.EndOfCall some others = refl
ends-front (written.Open link) some others = refl
ends-front written.Close some others = refl
ends-front (written.Raised b s n) some others = refl
ends-front (written.RaisedByName s n) some others = refl
ends-front (written.Marked r) some others = refl
ends-front (written.Field n) some others = refl

same : (rest more : List Piece) → begins_term more ≡ true → Same (rest ++ more) rest
same [] more e = same-nothing more e
same (q ∷ rest) more e = record {
  power = refl;
  names = refl;
  ends = ends-front q (rest ++ more) rest;
  alone = ap (λ (b : Bool). cond b (alone_piece q) None) (same rest more e).ends;
}

-- ---- the calls that are open

-- the arguments of a call that ends are seen whole
single-same : (j k : ℕ) (rest more : List Piece) → j < k → open_behind k rest ≡ 0 → is_single j (rest ++ more) ≡ is_single j rest
unfolding is_single open_behind
single-same j k [] more less e = absurd (omega (arith, less, e))
single-same j k (written.Number link n ∷ rest) more less e = single-same j k rest more less e
single-same j k (written.Name link n ∷ rest) more less e = single-same j k rest more less e
single-same j k (written.Dot link n ∷ rest) more less e = single-same j k rest more less e
single-same j k (written.EndOfDot n ∷ rest) more less e = single-same j k rest more less e
single-same j k (written.Delta link spot ∷ rest) more less e = single-same j k rest more less e
single-same j k (written.EntryName n ∷ rest) more less e = single-same j k rest more less e
single-same j k (written.EntryNumber n ∷ rest) more less e = single-same j k rest more less e
single-same j k (written.EndOfDelta ∷ rest) more less e = single-same j k rest more less e
single-same j k (written.Call link n ∷ rest) more less e = single-same (j + 1) (k + 1) rest more (omega (arith, less)) e
single-same j k (written.Comma ∷ rest) more less e = ap (λ (b : Bool). cond (eqb j 0) false b) (single-same j k rest more less e)
single-same j k (written.EndOfCall ∷ rest) more less e = by_test (eqb j 0) refl (λ m. single-same (j - 1) (k - 1) rest more m e) where
  by_test : (b : Bool) → eqb j 0 ≡ b → (j - 1 < k - 1 → is_single (j - 1) (rest ++ more) ≡ is_single (j - 1) rest) → cond b true (is_single (j - 1) (rest ++ more)) ≡ cond b true (is_single (j - 1) rest)
  by_test true is again = refl
  by_test false is again =
      let some : j ≡ 0 → ⊥ = eqb-false j 0 is in
      again (omega (arith, less, some))
single-same j k (written.Open link ∷ rest) more less e = single-same j k rest more less e
single-same j k (written.Close ∷ rest) more less e = single-same j k rest more less e
single-same j k (written.Raised b s n ∷ rest) more less e = single-same j k rest more less e
single-same j k (written.RaisedByName s n ∷ rest) more less e = single-same j k rest more less e
single-same j k (written.Marked r ∷ rest) more less e = single-same j k rest more less e
single-same j k (written.Field n ∷ rest) more less e = single-same j k rest more less e

misplaced-same : (names : List Entry) (k : ℕ) (rest more : List Piece) (none : Refusal) → 0 < k → open_behind k rest ≡ 0 → misplaced_to_end names (rest ++ more) none ≡ misplaced_to_end names rest none
unfolding misplaced_to_end open_behind
misplaced-same names k [] more none some e = absurd (omega (arith, some, e))
misplaced-same names k (written.Number link n ∷ rest) more none some e = misplaced-same names k rest more none some e
misplaced-same names k (written.Name link n ∷ rest) more none some e = refl
misplaced-same names k (written.Dot link n ∷ rest) more none some e = refl
misplaced-same names k (written.EndOfDot n ∷ rest) more none some e = misplaced-same names k rest more none some e
misplaced-same names k (written.Delta link spot ∷ rest) more none some e = refl
misplaced-same names k (written.EntryName n ∷ rest) more none some e = misplaced-same names k rest more none some e
misplaced-same names k (written.EntryNumber n ∷ rest) more none some e = misplaced-same names k rest more none some e
misplaced-same names k (written.EndOfDelta ∷ rest) more none some e = misplaced-same names k rest more none some e
misplaced-same names k (written.Call link n ∷ rest) more none some e = refl
misplaced-same names k (written.Comma ∷ rest) more none some e = misplaced-same names k rest more none some e
misplaced-same names k (written.EndOfCall ∷ rest) more none some e = refl
misplaced-same names k (written.Open link ∷ rest) more none some e = misplaced-same names k rest more none some e
misplaced-same names k (written.Close ∷ rest) more none some e = misplaced-same names k rest more none some e
misplaced-same names k (written.Raised b s n ∷ rest) more none some e = misplaced-same names k rest more none some e
misplaced-same names k (written.RaisedByName s n ∷ rest) more none some e = misplaced-same names k rest more none some e
misplaced-same names k (written.Marked r ∷ rest) more none some e = misplaced-same names k rest more none some e
misplaced-same names k (written.Field n ∷ rest) more none some e = misplaced-same names k rest more none some e

-- so many are open behind the first piece
tail-open : (k : ℕ) (p : Piece) (rest : List Piece) → open_behind k (p ∷ rest) ≡ 0 → (m : ℕ) × (open_behind m rest ≡ 0)
unfolding open_behind
tail-open k (written.Number link n) rest e = (k, e)
tail-open k (written.Name link n) rest e = (k, e)
tail-open k (written.Dot link n) rest e = (k, e)
tail-open k (written.EndOfDot n) rest e = (k, e)
tail-open k (written.Delta link spot) rest e = (k, e)
tail-open k (written.EntryName n) rest e = (k, e)
tail-open k (written.EntryNumber n) rest e = (k, e)
tail-open k written.EndOfDelta rest e = (k, e)
tail-open k (written.Call link n) rest e = (k + 1, e)
tail-open k written.Comma rest e = (k, e)
tail-open k written.EndOfCall rest e = (k - 1, e)
tail-open k (written.Open link) rest e = (k, e)
tail-open k written.Close rest e = (k, e)
tail-open k (written.Raised b s n) rest e = (k, e)
tail-open k (written.RaisedByName s n) rest e = (k, e)
tail-open k (written.Marked r) rest e = (k, e)
tail-open k (written.Field n) rest e = (k, e)

pub open-append : (k : ℕ) (some others : List Piece) → open_behind k (some ++ others) ≡ open_behind (open_behind k some) others
unfolding open_behind
open-append k [] others = refl
open-append k (written.Number link n ∷ rest) others = open-append k rest others
open-append k (written.Name link n ∷ rest) others = open-append k rest others
open-append k (written.Dot link n ∷ rest) others = open-append k rest others
open-append k (written.EndOfDot n ∷ rest) others = open-append k rest others
open-append k (written.Delta link spot ∷ rest) others = open-append k rest others
open-append k (written.EntryName n ∷ rest) others = open-append k rest others
open-append k (written.EntryNumber n ∷ rest) others = open-append k rest others
open-append k (written.EndOfDelta ∷ rest) others = open-append k rest others
open-append k (written.Call link n ∷ rest) others = open-append (k + 1) rest others
open-append k (written.Comma ∷ rest) others = open-append k rest others
open-append k (written.EndOfCall ∷ rest) others = open-append (k - 1) rest others
open-append k (written.Open link ∷ rest) others = open-append k rest others
open-append k (written.Close ∷ rest) others = open-append k rest others
open-append k (written.Raised b s n ∷ rest) others = open-append k rest others
open-append k (written.RaisedByName s n ∷ rest) others = open-append k rest others
open-append k (written.Marked r ∷ rest) others = open-append k rest others
open-append k (written.Field n ∷ rest) others = open-append k rest others

-- ---- one piece further

module _ (names : List Entry) (all rest : List Piece) (same : Same all rest) where
  ended-same : (by_size : ℕ → resolved.Piece) (by_name : Exponent → resolved.Piece) (o : Option (Option Sign × Named)) → ended_by names all by_size by_name o ≡ ended_by names rest by_size by_name o
  ended-same by_size by_name None = ap (λ x. size_within largest_power x >>= (λ size. Ok (by_size size))) same.power
  ended-same by_size by_name (Some by) = refl

  function-same : end_of_function names all ≡ end_of_function names rest
  function-same =
      ended-same (λ size. pieces.EndOfFunction size) (λ e. pieces.EndOfRaisedFunction e) (name_power_at all)
      ∙ ap (ended_by names rest (λ size. pieces.EndOfFunction size) (λ e. pieces.EndOfRaisedFunction e)) same.names

  parenthesis-same : end_of_parenthesis names all ≡ end_of_parenthesis names rest
  parenthesis-same =
      ended-same (λ size. pieces.Close size) (λ e. pieces.CloseRaised e) (name_power_at all)
      ∙ ap (ended_by names rest (λ size. pieces.Close size) (λ e. pieces.CloseRaised e)) same.names

  call-ended-same : (w : Walk) → call_ended names w all ≡ call_ended names w rest
  call-ended-same w = ap (λ r. r >>= (λ p. Ok (at (w.pieces ++ p ∷ []) places.Sum (w.calls - 1)))) function-same

  closed-same : (w : Walk) → closed names w all ≡ closed names w rest
  closed-same w = ap (λ r. r >>= (λ p. Ok (at (w.pieces ++ p ∷ []) places.Sum w.calls))) parenthesis-same

  behind-same : (w : Walk) (p : Piece) → behind_argument names w p all ≡ behind_argument names w p rest
  behind-same w (written.Number link n) = refl
  behind-same w (written.Name link n) = refl
  behind-same w (written.Dot link n) = refl
  behind-same w (written.EndOfDot n) = refl
  behind-same w (written.Delta link spot) = refl
  behind-same w (written.EntryName n) = refl
  behind-same w (written.EntryNumber n) = refl
  behind-same w written.EndOfDelta = refl
  behind-same w (written.Call link n) = refl
  behind-same w written.Comma = refl
  behind-same w written.EndOfCall = call-ended-same w
  behind-same w (written.Open link) = refl
  behind-same w written.Close = refl
  behind-same w (written.Raised b s n) = refl
  behind-same w (written.RaisedByName s n) = refl
  behind-same w (written.Marked r) = refl
  behind-same w (written.Field n) = refl

  dot-same : (w : Walk) (link : Link) (left : ℕ) (p : Piece) → dot_ended names w link left p all ≡ dot_ended names w link left p rest
  dot-same w link left (written.Number to n) = refl
  dot-same w link left (written.Name to n) = refl
  dot-same w link left (written.Dot to n) = refl
  dot-same w link left (written.EndOfDot q) =
      both (λ x y. vector names q >>= (λ right. adds w link (by_name names (is_over link) x (Ok (tree.dot_base left right)) (dot_to (is_over link) left right y)))) same.names same.power
  dot-same w link left (written.Delta to spot) = refl
  dot-same w link left (written.EntryName n) = refl
  dot-same w link left (written.EntryNumber n) = refl
  dot-same w link left written.EndOfDelta = refl
  dot-same w link left (written.Call to n) = refl
  dot-same w link left written.Comma = refl
  dot-same w link left written.EndOfCall = refl
  dot-same w link left (written.Open to) = refl
  dot-same w link left written.Close = refl
  dot-same w link left (written.Raised b s n) = refl
  dot-same w link left (written.RaisedByName s n) = refl
  dot-same w link left (written.Marked r) = refl
  dot-same w link left (written.Field n) = refl

  delta-same : (w : Walk) (link : Link) (first second : ends.End) (p : Piece) → delta_ended names w link first second p all ≡ delta_ended names w link first second p rest
  delta-same w link first second (written.Number to n) = refl
  delta-same w link first second (written.Name to n) = refl
  delta-same w link first second (written.Dot to n) = refl
  delta-same w link first second (written.EndOfDot n) = refl
  delta-same w link first second (written.Delta to spot) = refl
  delta-same w link first second (written.EntryName n) = refl
  delta-same w link first second (written.EntryNumber n) = refl
  delta-same w link first second written.EndOfDelta =
      both (λ x y. adds w link (by_name names (is_over link) x (Ok (linked_base first second)) (linked_to first second y))) same.names same.power
  delta-same w link first second (written.Call to n) = refl
  delta-same w link first second written.Comma = refl
  delta-same w link first second written.EndOfCall = refl
  delta-same w link first second (written.Open to) = refl
  delta-same w link first second written.Close = refl
  delta-same w link first second (written.Raised b s n) = refl
  delta-same w link first second (written.RaisedByName s n) = refl
  delta-same w link first second (written.Marked r) = refl
  delta-same w link first second (written.Field n) = refl

  component-same : (w : Walk) (link : Link) (id : ℕ) (x : ends.End) (p : Piece) → component_ended names w link id x p all ≡ component_ended names w link id x p rest
  component-same w link id x (written.Number to n) = refl
  component-same w link id x (written.Name to n) = refl
  component-same w link id x (written.Dot to n) = refl
  component-same w link id x (written.EndOfDot n) = refl
  component-same w link id x (written.Delta to spot) = refl
  component-same w link id x (written.EntryName n) = refl
  component-same w link id x (written.EntryNumber n) = refl
  component-same w link id x written.EndOfDelta = refl
  component-same w link id x (written.Call to n) = refl
  component-same w link id x written.Comma = refl
  component-same w link id x written.EndOfCall =
      both (λ u y. adds w link (by_name names (is_over link) u (Ok (linked_base (an_end.Vector id) x)) (linked_to (an_end.Vector id) x y))) same.names same.power
  component-same w link id x (written.Open to) = refl
  component-same w link id x written.Close = refl
  component-same w link id x (written.Raised b s n) = refl
  component-same w link id x (written.RaisedByName s n) = refl
  component-same w link id x (written.Marked r) = refl
  component-same w link id x (written.Field n) = refl

  begun-same : (w : Walk) (link : Link) (n : Named) (id : ℕ) (o : Option syntax.Entry) → ((none : Refusal) → misplaced_to_end names all none ≡ misplaced_to_end names rest none)
      → component_begun names w link n id all o ≡ component_begun names w link n id rest o
  begun-same w link n id (Some e) misplaced = refl
  begun-same w link n id None misplaced = ap Err (misplaced _)

  called-same : (w : Walk) (link : Link) (n : Named) (h : Result heads.Head Refusal) → is_single 0 all ≡ is_single 0 rest → ((none : Refusal) → misplaced_to_end names all none ≡ misplaced_to_end names rest none)
      → (h >>= called_by names w link n all) ≡ (h >>= called_by names w link n rest)
  called-same w link n (Err e) single misplaced = refl
  called-same w link n (Ok (a_head.Function id is_commuting)) single misplaced = refl
  called-same w link n (Ok (a_head.Vector id)) single misplaced =
      ap (λ (b : Bool). cond b (component_begun names w link n id all (alone_at all)) (wrong_kind (spelled_of n))) single
      ∙ ap (λ (r : Result Walk Refusal). cond (is_single 0 rest) r (wrong_kind (spelled_of n)))
      (begun-same w link n id (alone_at all) misplaced ∙ ap (component_begun names w link n id rest) same.alone)

module _ (names : List Entry) (stands : ℕ → Bool) (known : Known) (rest more : List Piece) (same : Same (rest ++ more) rest) where
  in-sum-same : (k : ℕ) (w : Walk) (p : Piece) → open_behind k (p ∷ rest) ≡ 0 → in_sum names stands known w p (rest ++ more) ≡ in_sum names stands known w p rest
  unfolding open_behind
  in-sum-same k w (written.Number link n) e = both (λ x y. adds w link (by_name names (is_over link) x (number_base n) (number (is_over link) n y))) same.names same.power
  in-sum-same k w (written.Name link n) e = both (λ x y. adds w link (by_name names (is_over link) x (name_base names known (is_over link) n) (name names (may_name w.calls stands) known (is_over link) n y))) same.names same.power
  in-sum-same k w (written.Dot link n) e = refl
  in-sum-same k w (written.EndOfDot n) e = refl
  in-sum-same k w (written.Delta link spot) e = refl
  in-sum-same k w (written.EntryName n) e = refl
  in-sum-same k w (written.EntryNumber n) e = refl
  in-sum-same k w written.EndOfDelta e = refl
  in-sum-same k w (written.Call link n) e =
      called-same names (rest ++ more) rest same w link n (head names n) (single-same 0 (k + 1) rest more (omega arith) e) (λ none. misplaced-same names (k + 1) rest more none (omega arith) e)
  in-sum-same k w written.Comma e = refl
  in-sum-same k w written.EndOfCall e = call-ended-same names (rest ++ more) rest same (argument_ended w)
  in-sum-same k w (written.Open link) e = refl
  in-sum-same k w written.Close e = closed-same names (rest ++ more) rest same w
  in-sum-same k w (written.Raised b s n) e = refl
  in-sum-same k w (written.RaisedByName s n) e = refl
  in-sum-same k w (written.Marked r) e = refl
  in-sum-same k w (written.Field n) e = refl

  argument-begun-same : (k : ℕ) (w : Walk) (p : Piece) (o : Option tree.Argument) → open_behind k (p ∷ rest) ≡ 0 → argument_begun names stands known w p (rest ++ more) o ≡ argument_begun names stands known w p rest o
  argument-begun-same k w p (Some a) e = refl
  argument-begun-same k w p None e = in-sum-same k (at (w.pieces ++ pieces.Argument ∷ []) places.Sum w.calls) p e

  field-same : (k : ℕ) (w : Walk) (p : Piece) (o : Option ℕ) → open_behind k (p ∷ rest) ≡ 0 → field_or_argument names stands known w p (rest ++ more) o ≡ field_or_argument names stands known w p rest o
  field-same k w p (Some n) e = refl
  field-same k w p None e =
      ap (λ (b : Bool). argument_begun names stands known w p (rest ++ more) (lone names (cond b (alone_piece p) None))) same.ends
      ∙ argument-begun-same k w p (lone names (alone_before rest p)) e

  taken-same : (k : ℕ) (w : Walk) (p : Piece) (place : Place) → open_behind k (p ∷ rest) ≡ 0 → taken_at names stands known w p (rest ++ more) place ≡ taken_at names stands known w p rest place
  taken-same k w p places.Sum e = in-sum-same k w p e
  taken-same k w p places.Argument e = both (λ (x : Result Walk Refusal) (y : Result Walk Refusal). cond (ends_call p) x y) (call-ended-same names (rest ++ more) rest same w) (field-same k w p (field_of known p) e)
  taken-same k w p places.Behind e = behind-same names (rest ++ more) rest same w p
  taken-same k w p (places.Dot link left) e = dot-same names (rest ++ more) rest same w link left p
  taken-same k w p (places.Delta link) e = refl
  taken-same k w p (places.SecondEntry link first) e = refl
  taken-same k w p (places.EndOfDelta link first second) e = delta-same names (rest ++ more) rest same w link first second p
  taken-same k w p (places.Vector link id) e = refl
  taken-same k w p (places.Component link id x) e = component-same names (rest ++ more) rest same w link id x p

-- ---- all pieces

module _ (names : List Entry) (stands : ℕ → Bool) (known : Known) (more : List Piece) (begins : begins_term more ≡ true) where
  -- behind pieces in which each call ends, where a further term begins
  pub walked-parted : (k : ℕ) (w : Walk) (list : List Piece) → open_behind k list ≡ 0 → walked names stands known w (list ++ more) ≡ (walked names stands known w list >>= (λ next. walked names stands known next more))
  unfolding walked
  walked-parted k w [] e = refl
  walked-parted k w (p ∷ rest) e =
      let after = tail-open k p rest e in
      ap (λ (r : Result Walk Refusal). r >>= (λ next. walked names stands known next (rest ++ more))) (taken-same names stands known rest more (same rest more begins) k w p w.place e)
      ∙ bind-same (taken names stands known w p rest) (λ next. walked names stands known next (rest ++ more)) (λ next. walked names stands known next rest >>= (λ last. walked names stands known last more)) (λ next. walked-parted after.0 next rest after.1)
      ∙ sym (bind-bind (taken names stands known w p rest) (λ next. walked names stands known next rest) (λ last. walked names stands known last more))

-- ---- part by part

-- nothing is open in nothing
pub nothing-open : (list : List Piece) → list ≡ [] → 0 ≡ open_behind 0 list
unfolding open_behind
nothing-open list is = sym (ap (open_behind 0) is)

pub none-walked : (names : List Entry) (stands : ℕ → Bool) (known : Known) (start : Walk) (made : List resolved.Piece) (list long : List Piece) (parts : List (List Piece)) → start ≡ at made places.Sum 0 → made ≡ [] → list ≡ [] → joined parts ≡ long
    → walked names stands known start (list ++ joined parts) ≡ walked names stands known (at [] places.Sum 0) long
none-walked names stands known start made list long parts begun none nothing is =
    ap (λ (w : Walk). walked names stands known w (list ++ joined parts)) (begun ∙ ap (λ ps. at ps places.Sum 0) none)
    ∙ ap (λ ps. walked names stands known (at [] places.Sum 0) (ps ++ joined parts)) nothing
    ∙ ap (walked names stands known (at [] places.Sum 0)) is

begins-more : (list more : List Piece) → begins_term list ≡ true → begins_term (list ++ more) ≡ true
begins-more [] more e = never e
begins-more (written.Number link n ∷ rest) more e = e
begins-more (written.Name link n ∷ rest) more e = e
begins-more (written.Dot link n ∷ rest) more e = e
begins-more (written.EndOfDot n ∷ rest) more e = e
begins-more (written.Delta link spot ∷ rest) more e = e
begins-more (written.EntryName n ∷ rest) more e = e
begins-more (written.EntryNumber n ∷ rest) more e = e
begins-more (written.EndOfDelta ∷ rest) more e = e
begins-more (written.Call link n ∷ rest) more e = e
begins-more (written.Comma ∷ rest) more e = e
begins-more (written.EndOfCall ∷ rest) more e = e
begins-more (written.Open link ∷ rest) more e = e
begins-more (written.Close ∷ rest) more e = e
begins-more (written.Raised b s n ∷ rest) more e = e
begins-more (written.RaisedByName s n ∷ rest) more e = e
begins-more (written.Marked r ∷ rest) more e = e
begins-more (written.Field n ∷ rest) more e = e

-- what is gone through, what is kept back, and the parts that are left, this one first
module _ (names : List Entry) (stands : ℕ → Bool) (known : Known) (whole : Result Walk Refusal) (w : Walk) (kept part : List Piece) (parts rest : List (List Piece))
    (all : walked names stands known w (kept ++ joined parts) ≡ whole) (next : parts ≡ part ∷ rest) where
  parted : open_behind 0 kept ≡ 0 → begins_term part ≡ true → (walked names stands known w kept >>= (λ last. walked names stands known last (part ++ joined rest))) ≡ whole
  parted ends begins =
      sym (walked-parted names stands known (part ++ joined rest) (begins-more part (joined rest) begins) 0 w kept ends)
      ∙ ap (λ ps. walked names stands known w (kept ++ joined ps)) (sym next)
      ∙ all

  pub part-refused : open_behind 0 kept ≡ 0 → begins_term part ≡ true → (e : CheckError) → IsRefused e (walked names stands known w kept) → IsRefused e whole
  part-refused ends begins e refused =
      subst (IsRefused e) (parted ends begins) (IsRefused-before e (walked names stands known w kept) (λ last. walked names stands known last (part ++ joined rest)) refused)

  pub part-walked : open_behind 0 kept ≡ 0 → begins_term part ≡ true → (last : Walk) → walked names stands known w kept ≡ Ok last → walked names stands known last (part ++ joined rest) ≡ whole
  part-walked ends begins last is = sym (ap (λ (r : Result Walk Refusal). r >>= (λ next. walked names stands known next (part ++ joined rest))) is) ∙ parted ends begins

  pub part-kept : walked names stands known w ((kept ++ part) ++ joined rest) ≡ whole
  part-kept =
      ap (walked names stands known w) (append_assoc kept part (joined rest))
      ∙ ap (λ ps. walked names stands known w (kept ++ joined ps)) (sym next)
      ∙ all
