-- What is open of a module's blocks, as its statements say it.
use Rattle.std.proofs.Common.{◌≡◌, ◌≤◌, ℕ, ◌-◌, Bool, true, false, not, ◌&&◌, ◌||◌, List, [], ◌∷◌, ◌++◌, length, map, Option, Some, None, refl, sym, ap, subst, ◌∙◌, arith}
use Rattle.std.specs.Prelude.{IfSome, option_and_then, slice_get}
use Rattle.std.proofs.lemmas.Bool.{and_parts}
use Rattle.std.proofs.lemmas.List.{length-map}
use Rattle.std.proofs.lemmas.Option.{same_Some}
use Rattle.form_base.specs.declared.spot.Spot.{Spot}
use Rattle.form_ast.specs.Written.{statement_of}
use Rattle.form_ast.specs.declared.statement.Placed.{Placed}
use Rattle.form_ast.specs.declared.statement.Statement.{Statement}
use Rattle.form_ast.specs.declared.statement.Statement.TheVariants as statements
use Rattle.form_blocks.specs.declared.open.BlockKind.{BlockKind}
use Rattle.form_blocks.specs.declared.open.BlockKind.TheVariants as kinds
use Rattle.form_blocks.specs.declared.open.Open.{Open}
use Rattle.form_blocks.specs.Blocks.{end_of, ends_with_rewrite, is_rewrite as rewrites, most_blocks}
use Rattle.form_blocks.specs.Growing.{is_also}
use Rattle.form_blocks.specs.Nesting.{HaveRoom, Within, in_repeat, in_branch, in_else, in_argument, all_opened, are_led, is_rewrite, opened}

abbrev pub within : BlockKind → Bool → Within
within kinds.Repeat has_else = in_repeat
within kinds.Argument has_else = in_argument
within kinds.If false = in_branch
within kinds.If true = in_else

abbrev pub within_open : Open → Within
within_open o = within o.kind o.has_else

abbrev pub all_within : List Open → List Within
all_within os = map within_open os

-- behind these statements these blocks are open, and behind none of them more than may be
pub record Nested (os : List Open) (ss : List Statement) : Type 0 where
  pub opens : all_opened [] ss ≡ Some (all_within os)
  pub led : are_led false ss ≡ true
  pub room : HaveRoom [] ss
  pub few : length os ≤ most_blocks

-- ---- one statement further

opened_on : (ss : List Statement) (s : Statement) (ws vs us : List Within) → all_opened ws ss ≡ Some vs → opened s vs ≡ Some us → all_opened ws (ss ++ s ∷ []) ≡ Some us
opened_on [] s ws vs us e f =
    ap (λ (x : List Within). option_and_then (λ (ys : List Within). all_opened ys []) (opened s x)) (same_Some ws vs e)
    ∙ ap (option_and_then (λ (ys : List Within). all_opened ys [])) f
opened_on (t ∷ ss) s ws vs us e f = by_first (opened t ws) e (λ xs h. opened_on ss s xs vs us h f) where
  by_first : (o : Option (List Within)) → option_and_then (λ (ys : List Within). all_opened ys ss) o ≡ Some vs → ((xs : List Within) → all_opened xs ss ≡ Some vs → all_opened xs (ss ++ s ∷ []) ≡ Some us)
      → option_and_then (λ (ys : List Within). all_opened ys (ss ++ s ∷ [])) o ≡ Some us
  by_first None h others = cc
  by_first (Some xs) h others = others xs h

-- whether the last statement is an `id` or an `also`
abbrev pub last_rewrites : Bool → List Statement → Bool
last_rewrites before [] = before
last_rewrites before (s ∷ ss) = last_rewrites (is_rewrite s) ss

led_on : (before : Bool) (ss : List Statement) (s : Statement) → are_led before ss ≡ true → (not (is_also s) || last_rewrites before ss) ≡ true → are_led before (ss ++ s ∷ []) ≡ true
led_on before [] s e f = ap (λ (x : Bool). x && true) f
led_on before (t ∷ ss) s e f =
    let both = and_parts (not (is_also t) || before) (are_led (is_rewrite t) ss) e in
    ap (λ (x : Bool). x && are_led (is_rewrite t) (ss ++ s ∷ [])) both.0 ∙ led_on (is_rewrite t) ss s both.1 f

room_on : (ss : List Statement) (s : Statement) (ws vs us : List Within) → all_opened ws ss ≡ Some vs → opened s vs ≡ Some us → length us ≤ most_blocks → HaveRoom ws ss → HaveRoom ws (ss ++ s ∷ [])
room_on [] s ws vs us e f few h = by_last (opened s ws) (ap (opened s) (same_Some ws vs e) ∙ f) where
  by_last : (o : Option (List Within)) → o ≡ Some us → IfSome o (λ (xs : List Within). (length xs ≤ most_blocks) × HaveRoom xs [])
  by_last None g = tt
  by_last (Some xs) g = (subst (λ (ys : List Within). length ys ≤ most_blocks) (sym (same_Some xs us g)) few, tt)
room_on (t ∷ ss) s ws vs us e f few h = by_first (opened t ws) e h (λ xs g r. room_on ss s xs vs us g f few r) where
  by_first : (o : Option (List Within)) → option_and_then (λ (ys : List Within). all_opened ys ss) o ≡ Some vs → IfSome o (λ (ys : List Within). (length ys ≤ most_blocks) × HaveRoom ys ss)
      → ((xs : List Within) → all_opened xs ss ≡ Some vs → HaveRoom xs ss → HaveRoom xs (ss ++ s ∷ [])) → IfSome o (λ (ys : List Within). (length ys ≤ most_blocks) × HaveRoom ys (ss ++ s ∷ []))
  by_first None g r others = tt
  by_first (Some xs) g r others = (r.0, others xs g r.1)

pub nested_on : (os us : List Open) (ss : List Statement) (s : Statement) → Nested os ss → opened s (all_within os) ≡ Some (all_within us) → (not (is_also s) || last_rewrites false ss) ≡ true → length us ≤ most_blocks
    → Nested us (ss ++ s ∷ [])
nested_on os us ss s n e f few = record {
  opens = opened_on ss s [] (all_within os) (all_within us) n.opens e;
  led = led_on false ss s n.led f;
  room = room_on ss s [] (all_within os) (all_within us) n.opens e (subst (λ (m : ℕ). m ≤ most_blocks) (sym (length-map us within_open)) few) n.room;
  few = few;
}

-- one that is no `also`
pub nested_by : (os us : List Open) (ss : List Statement) (s : Statement) → Nested os ss → opened s (all_within os) ≡ Some (all_within us) → is_also s ≡ false → length us ≤ most_blocks → Nested us (ss ++ s ∷ [])
nested_by os us ss s n e f few = nested_on os us ss s n e (ap (λ (x : Bool). not x || last_rewrites false ss) f) few

-- the end of a block
ends_open : (k : BlockKind) (has_else : Bool) (ws : List Within) → opened (end_of k) (within k has_else ∷ ws) ≡ Some ws
ends_open kinds.Repeat has_else ws = refl
ends_open kinds.Argument has_else ws = refl
ends_open kinds.If true ws = refl
ends_open kinds.If false ws = refl

ends_no_also : (k : BlockKind) → is_also (end_of k) ≡ false
ends_no_also kinds.Repeat = refl
ends_no_also kinds.Argument = refl
ends_no_also kinds.If = refl

fewer : (o : Open) (os : List Open) → length (o ∷ os) ≤ most_blocks → length os ≤ most_blocks
fewer o os h = omega (arith, h)

pub nested_out : (os : List Open) (ss : List Statement) (o : Open) → Nested (o ∷ os) ss → Nested os (ss ++ end_of o.kind ∷ [])
nested_out os ss o n = nested_by (o ∷ os) os ss (end_of o.kind) n (ends_open o.kind o.has_else (all_within os)) (ends_no_also o.kind) (fewer o os n.few)

-- ---- an `also` behind an `id`

same_test : (spot : Spot) (s : Statement) → rewrites (Some (record { spot = spot; statement = s })) ≡ is_rewrite s
same_test spot (statements.Rewrite r) = refl
same_test spot _ = refl

last_at : (x : Placed) (xs : List Placed) → rewrites (slice_get (x ∷ xs) (length xs)) ≡ last_rewrites (is_rewrite x.statement) (map statement_of xs)
last_at x [] = same_test x.spot x.statement
last_at x (y ∷ ys) = last_at y ys

one_less : (x : Placed) (xs : List Placed) → length (x ∷ xs) - 1 ≡ length xs
one_less x xs = omega arith

pub last_read : (xs : List Placed) → ends_with_rewrite xs ≡ last_rewrites false (map statement_of xs)
last_read [] = refl
last_read (x ∷ xs) = ap (λ (n : ℕ). rewrites (slice_get (x ∷ xs) n)) (one_less x xs) ∙ last_at x xs
