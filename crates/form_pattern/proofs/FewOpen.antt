-- One piece further at most one call more is open.
use Rattle.std.proofs.Common.{ℕ, ◌+◌, ◌-◌, ◌≤◌, ◌==◌, Bool, true, false, cond, List, [], ◌∷◌, length, drop, Option, Some, None, Result, Ok, Err, IfOk, subst, arith}
use Rattle.std.specs.List.{list_any}
use Rattle.form_names.specs.Names.{Entry}
use Rattle.form_ast.specs.declared.expr.Named.{Named}
use Rattle.form_ast.specs.declared.expr.Restriction.{Restriction}
use Rattle.form_ast.specs.declared.expr.Spelled.{Spelled}
use Rattle.form_ast.specs.declared.expr.Piece.{Piece}
use Rattle.form_ast.specs.declared.expr.Piece.TheVariants as written
use Rattle.form_tree.specs.declared.pattern.Sort.{Sort}
use Rattle.form_tree.specs.declared.pattern.PatternPiece.TheVariants as pieces
use Rattle.form_right_side.specs.Refusal.{Refusal, Gives, ◌>>=◌}
use Rattle.form_right_side.specs.RightSide.{found, head}
use Rattle.form_right_side.specs.Walking.{power_at, name_power_at, ends_call, argument_walked}
use Rattle.form_right_side.specs.declared.error.CheckError.{CheckError}
use Rattle.form_right_side.specs.declared.powers.Power.{Power}
use Rattle.form_right_side.specs.declared.resolved.Head as heads
use Rattle.form_right_side.specs.declared.resolved.Head.TheVariants as a_head
use Rattle.form_pattern.specs.Joining.{put}
use Rattle.form_pattern.specs.Pattern.{sort_of}
use Rattle.form_pattern.specs.PatternWalking.{front, mark_at, behind_mark, is_wild, marked, powered_put, dot_put, entry_taken, behind_entry, linked_put, component_put, function_put, at, open_at, moved, added, adds, with_argument, opened, closed, call_ended, product_ended, called_by, dot_behind, dot_taken, delta_ended, delta_behind, in_product, in_fixed, with_fixed, any_name, any_by_sort, wild_begun, fixed_begun, argument_begun, in_arguments, behind_argument, in_vector}
use Rattle.form_pattern.specs.declared.joining.Raw.{Raw}
use Rattle.form_pattern.specs.declared.putting.PatternEnd.{PatternEnd}
use Rattle.form_pattern.specs.declared.reading.Frame.{Frame}
use Rattle.form_pattern.specs.declared.reading.Place.{Place}
use Rattle.form_pattern.specs.declared.reading.Place.TheVariants as places
use Rattle.form_pattern.specs.declared.reading.Reading.{Reading}

-- what is read has no more than so many calls open
abbrev pub FewOpen : ℕ → Result Reading Refusal → Type 0
FewOpen n (Ok s) = open_at s.place ≤ n
FewOpen n (Err e) = Unit {0}

none : (n : ℕ) → 0 ≤ n
none n = omega arith

fewer : (n count : ℕ) → count + 1 ≤ n → count - 1 ≤ n
fewer n count h = omega (arith, h)

as_many : (n count : ℕ) → count + 1 ≤ n → count ≤ n
as_many n count h = omega (arith, h)

pub one_more : (n : ℕ) → n ≤ n + 1
one_more n = omega arith

few_bind : {A : Type 0} (n : ℕ) (r : Result A Refusal) (next : A → Result Reading Refusal) → ((a : A) → FewOpen n (next a)) → FewOpen n (r >>= next)
few_bind n (Ok a) next h = h a
few_bind n (Err e) next h = tt

few_adds : (n : ℕ) (s : Reading) (place : Place) (r : Result Raw Refusal) → open_at place ≤ n → FewOpen n (adds s place r)
few_adds n s place r h = few_bind n r (λ raw. Ok (added s place raw)) (λ raw. h)

few_closed : (n : ℕ) (fs : List Frame) (s : Reading) (power : Option Power) → open_at s.place ≤ n → FewOpen n (closed fs s power)
few_closed n [] s power h = h
few_closed n (f ∷ around) s power h = few_bind n (function_put f.is_commuting power f.pieces) (λ raw. Ok (at around (put f.level raw) places.Product s.fixed)) (λ raw. none n)

-- ---- in a product

few_called_by : (n : ℕ) (names : List Entry) (s : Reading) (m : Named) (rest : List Piece) (h : heads.Head) → FewOpen n (called_by names s m rest h)
few_called_by n names s m rest (a_head.Function id is_commuting) = few_bind n (marked names (mark_at rest) id) (λ name. Ok (opened s is_commuting name)) (λ name. none n)
few_called_by n names s m rest (a_head.Vector id) =
    few_adds n s places.Vector (component_put names m (mark_at rest) id (front 0 (behind_mark rest)) (drop (length (front 0 (behind_mark rest))) (behind_mark rest))) (none n)

few_dot_behind : (n : ℕ) (names : List Entry) (s : Reading) (p : Named) (mark : Option Restriction) (q : Piece) (rest : List Piece) → open_at s.place ≤ n → FewOpen n (dot_behind names s p mark q rest)
few_dot_behind n names s p mark (written.EndOfDot q) rest h = few_adds n s places.Product (dot_put names p mark q (mark_at rest) (power_at (behind_mark rest))) (none n)
few_dot_behind n names s p mark q rest h = h

few_dot : (n : ℕ) (names : List Entry) (s : Reading) (p : Named) (mark : Option Restriction) (rest : List Piece) → open_at s.place ≤ n → FewOpen n (dot_taken names s p mark rest)
few_dot n names s p mark [] h = h
few_dot n names s p mark (q ∷ rest) h = few_dot_behind n names s p mark q rest h

few_delta_ended : (n : ℕ) (s : Reading) (a : PatternEnd) (rest : List Piece) (b : Option PatternEnd) → open_at s.place ≤ n → FewOpen n (delta_ended s a rest b)
few_delta_ended n s a rest None h = h
few_delta_ended n s a rest (Some b) h = few_adds n s places.Product (linked_put a b (power_at (drop 1 rest))) (none n)

few_delta_behind : (n : ℕ) (names : List Entry) (s : Reading) (rest : List Piece) (a : Option PatternEnd) → open_at s.place ≤ n → FewOpen n (delta_behind names s rest a)
few_delta_behind n names s rest None h = h
few_delta_behind n names s rest (Some a) h = few_bind n (entry_taken names rest) (delta_ended s a (behind_entry rest)) (λ b. few_delta_ended n s a (behind_entry rest) b h)

pub few_product : (n : ℕ) (names : List Entry) (s : Reading) (p : Piece) (rest : List Piece) → open_at s.place ≤ n → FewOpen n (in_product names s p rest)
few_product n names s (written.Name link m) rest h = few_adds n s places.Product (powered_put names m (mark_at rest) (behind_mark rest) (name_power_at (behind_mark rest))) (none n)
few_product n names s (written.Dot link p) rest h = few_dot n names s p (mark_at rest) (behind_mark rest) h
few_product n names s (written.Delta link spot) rest h = few_bind n (entry_taken names rest) (delta_behind names s (behind_entry rest)) (λ a. few_delta_behind n names s (behind_entry rest) a h)
few_product n names s (written.Call link m) rest h = few_bind n (head names m) (called_by names s m rest) (λ hd. few_called_by n names s m rest hd)
few_product n names s written.Comma rest h = none n
few_product n names s written.EndOfCall rest h = few_closed n (product_ended s).frames (product_ended s) (power_at rest) (none n)
few_product n names s p rest h = h

-- ---- in an argument

pub few_fixed : (n : ℕ) (s : Reading) (count : ℕ) (p : Piece) (rest : List Piece) → count + 1 ≤ n → open_at s.place ≤ n → FewOpen n (in_fixed s count p rest)
few_fixed n s count (written.Call link m) rest h k = h
few_fixed n s count written.Comma rest h k = by (count == 0)
  where
    by : (b : Bool) → open_at (cond b places.Argument (places.Fixed count)) ≤ n
    by true = none n
    by false = as_many n count h
few_fixed n s count written.EndOfCall rest h k = by (count == 0)
  where
    by : (b : Bool) → FewOpen n (cond b (call_ended s rest) (Ok (moved s (places.Fixed (count - 1)))))
    by true = few_closed n s.frames s (power_at rest) k
    by false = fewer n count h
few_fixed n s count p rest h k = as_many n count h

few_any : (n : ℕ) (names : List Entry) (s : Reading) (p : Piece) (rest : List Piece) (id : ℕ) (sort : Option Sort) → FewOpen n (any_by_sort names s p rest id sort)
few_any n names s p rest id None = few_product n names (moved s places.Product) p rest (none n)
few_any n names s p rest id (Some sort) =
    few_bind n (marked names (mark_at rest) id) (λ name. Ok (at (with_argument s.frames (pieces.Any sort name ∷ [])) s.level places.Behind s.fixed)) (λ name. none n)

few_wild : (n : ℕ) (names : List Entry) (s : Reading) (p : Piece) (rest : List Piece) (name : Option Spelled) → FewOpen n (wild_begun names s p rest name)
few_wild n names s p rest None = few_product n names (moved s places.Product) p rest (none n)
few_wild n names s p rest (Some name) = few_bind n (found names name) (λ f. any_by_sort names s p rest f.id (sort_of f.kind)) (λ f. few_any n names s p rest f.id (sort_of f.kind))

few_begun : (n : ℕ) (names : List Entry) (stands : ℕ → Bool) (s : Reading) (p : Piece) (rest : List Piece) → 1 ≤ n → FewOpen n (argument_begun names stands s p rest)
few_begun n names stands s p rest some = by (list_any is_wild (front 0 (p ∷ rest)))
  where
    by : (b : Bool) → FewOpen n (cond b (wild_begun names s p rest (any_name p (behind_mark rest))) (fixed_begun names stands s p rest))
    by true = few_wild n names s p rest (any_name p (behind_mark rest))
    by false = few_bind n (argument_walked names stands (front 0 (p ∷ rest))) (λ ps. in_fixed (with_fixed s ps) 0 p rest) (λ ps. few_fixed n (with_fixed s ps) 0 p rest some (none n))

pub few_arguments : (n : ℕ) (names : List Entry) (stands : ℕ → Bool) (fields : List (List ℕ)) (s : Reading) (p : Piece) (rest : List Piece) → 1 ≤ n → open_at s.place ≤ n
    → FewOpen n (in_arguments names stands fields s p rest)
few_arguments n names stands fields s written.EndOfCall rest some h = few_closed n s.frames s (power_at rest) h
few_arguments n names stands fields s (written.Marked r) rest some h = h
few_arguments n names stands fields s (written.Field m) rest some h = none n
few_arguments n names stands fields s p rest some h = few_begun n names stands s p rest some

pub few_behind : (n : ℕ) (s : Reading) (p : Piece) (rest : List Piece) → open_at s.place ≤ n → FewOpen n (behind_argument s p rest)
few_behind n s written.Comma rest h = none n
few_behind n s written.EndOfCall rest h = few_closed n s.frames s (power_at rest) h
few_behind n s p rest h = h

pub few_vector : (n : ℕ) (s : Reading) (p : Piece) → open_at s.place ≤ n → open_at (in_vector s p).place ≤ n
few_vector n s p h = by (ends_call p)
  where
    by : (b : Bool) → open_at (cond b (moved s places.Product) s).place ≤ n
    by true = none n
    by false = h

-- ---- what is answered

pub given_few : (n : ℕ) (r : Result Reading CheckError) (x : Result Reading Refusal) → Gives (λ s. s) r x → FewOpen n x → IfOk r (λ s. open_at s.place ≤ n)
given_few n (Ok s) x is few = subst (FewOpen n) is few
given_few n (Err e) x is few = tt
