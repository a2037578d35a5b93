-- A statement behind others in one line is read as if it stood in blocks.
use Rattle.std.proofs.Common.{◌≡◌, ℕ, ◌+◌, ◌<◌, ◌≤◌, Bool, true, false, ◌&&◌, ◌||◌, List, [], ◌∷◌, ◌++◌, length, map, Option, Some, refl, sym, ap, ◌∙◌, arith, append_assoc, le-leb, length-append, lt-ltb}
use Rattle.std.specs.Prelude.{All, if◌then◌else◌, fold}
use Rattle.std.specs.List.{list_any}
use Rattle.std.proofs.lemmas.List.{append-nil, map-append}
use Rattle.std.proofs.lemmas.List.Elements.{All-head, All-tail}
use Rattle.std.proofs.lemmas.List.Sums.{fold-append}
use Rattle.form_base.specs.declared.spot.Spot.{Spot}
use Rattle.form_ast.specs.declared.statement.Placed.{Placed}
use Rattle.form_blocks.specs.declared.open.BlockKind.{BlockKind}
use Rattle.form_blocks.specs.declared.open.BlockKind.TheVariants as kinds
use Rattle.form_blocks.specs.declared.open.Fault.{Fault}
use Rattle.form_blocks.specs.declared.open.Open.{Open}
use Rattle.form_blocks.specs.declared.role.Role.{Role}
use Rattle.form_blocks.specs.declared.role.Role.TheVariants as roles
use Rattle.form_blocks.specs.Blocks.{Read, Unfinished, and_ended, and_last, and_lines, and_opening, and_read, and_statement, end_of, end_placed, inner_left, is_block, kind_of, lines_ended, may_stand, most_blocks, open_at, outer, refused, role_of, unclosed}
use Rattle.form_blocks.specs.Nesting.{IsOpening, alone, end_behind, in_blocks, read_on}
use Rattle.form_blocks.proofs.Complete.{behind, module_of, readings, same_self}
use Rattle.form_blocks.proofs.Sound.{and_reading}

-- each of them ends with what is behind it
abbrev AreLines : List Open → Type 0
AreLines [] = Unit {0}
AreLines (o ∷ os) = (o.is_line ≡ true) × AreLines os

lines_more : (os : List Open) (o : Open) → AreLines os → o.is_line ≡ true → AreLines (os ++ o ∷ [])
lines_more [] o h e = (e, tt)
lines_more (p ∷ os) o h e = (h.0, lines_more os o h.1 e)

-- what these open in one line behind so many statements
abbrev pushed : ℕ → List Placed → List Open
pushed n [] = []
pushed n (l ∷ ls) = pushed (n + 1) ls ++ open_at n true l ∷ []

pushed_lines : (n : ℕ) (ls : List Placed) → AreLines (pushed n ls)
pushed_lines n [] = tt
pushed_lines n (l ∷ ls) = lines_more (pushed (n + 1) ls) (open_at n true l) (pushed_lines (n + 1) ls) refl

length_more : (ss : List Placed) (l : Placed) (n : ℕ) → length ss ≡ n → length (ss ++ l ∷ []) ≡ n + 1
length_more ss l n e = length-append ss (l ∷ []) ∙ ap (λ (m : ℕ). m + 1) e

-- a module behind them
lines_shape : (ls : List Placed) (os : List Open) (ss : List Placed) (f : Option Fault) (n : ℕ) → length ss ≡ n → and_lines ls (module_of os ss f) ≡ module_of (pushed n ls ++ os) (ss ++ ls) f
lines_shape [] os ss f n e = ap (λ (xs : List Placed). module_of os xs f) (sym (append-nil ss))
lines_shape (l ∷ ls) os ss f n e =
    lines_shape ls (open_at (length ss) true l ∷ os) (ss ++ l ∷ []) f (n + 1) (length_more ss l n e)
    ∙ ap (λ (m : ℕ). module_of (pushed (n + 1) ls ++ open_at m true l ∷ os) ((ss ++ l ∷ []) ++ ls) f) e
    ∙ ap (λ (ps : List Open). module_of ps ((ss ++ l ∷ []) ++ ls) f) (sym (append_assoc (pushed (n + 1) ls) (open_at n true l ∷ []) os))
    ∙ ap (λ (xs : List Placed). module_of ((pushed (n + 1) ls ++ open_at n true l ∷ []) ++ os) xs f) (append_assoc ss (l ∷ []) ls)

-- they end with a statement, and what is around them goes on to end
ended_through : (xs os : List Open) (ss : List Placed) (f : Option Fault) → AreLines xs → lines_ended (xs ++ os) (module_of (xs ++ os) ss f) ≡ lines_ended os (module_of os (ss ++ map end_placed xs) f)
ended_through [] os ss f h = ap (λ (ys : List Placed). lines_ended os (module_of os ys f)) (sym (append-nil ss))
ended_through (x ∷ xs) os ss f h =
    ap (λ (t : Bool). if t then lines_ended (xs ++ os) (module_of (xs ++ os) (ss ++ end_placed x ∷ []) f) else module_of (x ∷ xs ++ os) ss f) h.0
    ∙ ended_through xs os (ss ++ end_placed x ∷ []) f h.1
    ∙ ap (λ (ys : List Placed). lines_ended os (module_of os ys f)) (append_assoc ss (end_placed x ∷ []) (map end_placed xs))

-- a statement behind these in one line
abbrev ended_by : List Placed → Placed → Unfinished → Unfinished
ended_by ls last b = and_ended (and_statement (and_lines ls b) last)

-- all statements then
abbrev row_by : List Placed → Placed → List Placed → ℕ → List Placed
row_by ls last ss n = ((ss ++ ls) ++ last ∷ []) ++ map end_placed (pushed n ls)

ended_shape : (ls : List Placed) (last : Placed) (os : List Open) (ss : List Placed) (f : Option Fault) (n : ℕ) → length ss ≡ n
    → ended_by ls last (module_of os ss f) ≡ lines_ended os (module_of os (row_by ls last ss n) f)
ended_shape ls last os ss f n e =
    ap (λ (c : Unfinished). and_ended (and_statement c last)) (lines_shape ls os ss f n e)
    ∙ ended_through (pushed n ls) os ((ss ++ ls) ++ last ∷ []) f (pushed_lines n ls)

-- one more at the front
row_more : (l : Placed) (ls : List Placed) (last : Placed) (ss : List Placed) (n : ℕ) → row_by (l ∷ ls) last ss n ≡ row_by ls last (ss ++ l ∷ []) (n + 1) ++ end_behind l ∷ []
row_more l ls last ss n =
    ap (λ (xs : List Placed). (xs ++ last ∷ []) ++ map end_placed (pushed n (l ∷ ls))) (sym (append_assoc ss (l ∷ []) ls))
    ∙ ap (λ (ys : List Placed). (((ss ++ l ∷ []) ++ ls) ++ last ∷ []) ++ ys) (map-append end_placed (pushed (n + 1) ls) (open_at n true l ∷ []))
    ∙ sym (append_assoc (((ss ++ l ∷ []) ++ ls) ++ last ∷ []) (map end_placed (pushed (n + 1) ls)) (end_behind l ∷ []))

-- ---- statements alone

acts_alone : (b : Unfinished) (last : Placed) → role_of last.statement ≡ roles.Acts false → length b.opens + 0 ≤ 64 → and_reading b (alone last) ≡ and_ended (and_statement b last)
acts_alone b last role room =
    ap (λ (r : Role). behind r b last) role
    ∙ ap (λ (x : Bool). if x then and_ended (and_statement b last) else refused last.spot b) (le-leb (length b.opens + 0) 64 room)

opens_alone : (k : BlockKind) (b : Unfinished) (l : Placed) → role_of l.statement ≡ roles.Opens k → length b.opens + 0 < 64 → and_reading b (alone l) ≡ and_opening false b l
opens_alone k b l role room =
    ap (λ (r : Role). behind r b l) role
    ∙ ap (λ (x : Bool). if x then and_opening false b l else refused l.spot b) (lt-ltb (length b.opens + 0) 64 room)

ends_role : (k : BlockKind) → role_of (end_of k) ≡ roles.Ends k
ends_role kinds.Repeat = refl
ends_role kinds.If = refl
ends_role kinds.Argument = refl

-- the innermost block ends
ends_alone : (k : BlockKind) (o : Open) (os : List Open) (ss : List Placed) (f : Option Fault) (p : Placed) → role_of p.statement ≡ roles.Ends k → is_block k o ≡ true
    → and_reading (module_of (o ∷ os) ss f) (alone p) ≡ lines_ended os (module_of os (ss ++ p ∷ []) f)
ends_alone k o os ss f p role e =
    let b : Unfinished = module_of (o ∷ os) ss f in
    let left : Bool → Unfinished = λ (x : Bool). if x then b else inner_left k os (record b { opens = os; fault = unclosed f o }) in
    ap (λ (r : Role). behind r b p) role
    ∙ ap (λ (x : Bool). if x || list_any (is_block k) os then and_ended (let c = and_statement (left x) p in record c { opens = outer c.opens }) else refused p.spot b) e

-- ---- all

lines_read : (ls : List Placed) (last : Placed) (os : List Open) (ss : List Placed) (f : Option Fault) → All IsOpening ls → role_of last.statement ≡ roles.Acts false → length os + length ls ≤ 64
    → fold and_reading (module_of os ss f) (readings (in_blocks ls last)) ≡ ended_by ls last (module_of os ss f)
lines_read [] last os ss f h role room = acts_alone (module_of os ss f) last role room
lines_read (l ∷ ls) last os ss f h role room =
    let n : ℕ = length ss in
    let b : Unfinished = module_of os ss f in
    let inner : List Open = open_at n false l ∷ os in
    let c : Unfinished = module_of inner (ss ++ l ∷ []) f in
    let head = All-head IsOpening l ls h in
    let few : length os + 0 < 64 = omega (arith, room) in
    let fewer : length inner + length ls ≤ 64 = omega (arith, room) in
    let inside = in_blocks ls last in
    let k = kind_of (role_of l.statement) in
    let is_it : is_block k (open_at n false l) ≡ true = ap (λ (x : Bool). x && true) (same_self k) in
    ap (λ (d : Unfinished). fold and_reading d (readings (inside ++ end_behind l ∷ []))) (opens_alone head.0 b l head.1 few)
    ∙ ap (λ (rs : List (Spot × Option Read)). fold and_reading c rs) (map-append alone inside (end_behind l ∷ []))
    ∙ fold-append and_reading c (readings inside) (readings (end_behind l ∷ []))
    ∙ ap (λ (d : Unfinished). and_reading d (alone (end_behind l))) (lines_read ls last inner (ss ++ l ∷ []) f (All-tail IsOpening l ls h) role fewer)
    ∙ ap (λ (d : Unfinished). and_reading d (alone (end_behind l))) (ended_shape ls last inner (ss ++ l ∷ []) f (n + 1) (length_more ss l n refl))
    ∙ ends_alone k (open_at n false l) os (row_by ls last (ss ++ l ∷ []) (n + 1)) f (end_behind l) (ends_role k) is_it
    ∙ ap (λ (xs : List Placed). lines_ended os (module_of os xs f)) (sym (row_more l ls last ss n))
    ∙ sym (ended_shape (l ∷ ls) last os ss f n refl)

pub read_in_blocks : (b : Unfinished) (spot : Spot) (ls : List Placed) (last : Placed) → All IsOpening ls → role_of last.statement ≡ roles.Acts false → length b.opens + length ls ≤ most_blocks
    → and_read b spot (Some (record { lines = ls; last = last })) ≡ read_on b (readings (in_blocks ls last))
read_in_blocks b spot ls last h role room =
    let few : length b.opens + length ls ≤ 64 = room in
    ap (λ (r : Role). if may_stand b ls r then and_last r spot (and_lines ls b) last else refused spot b) role
    ∙ ap (λ (x : Bool). if x then ended_by ls last b else refused spot b) (le-leb (length b.opens + length ls) 64 few)
    ∙ sym (lines_read ls last b.opens b.statements b.fault h role few)
