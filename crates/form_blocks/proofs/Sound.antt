-- The blocks of a module stay nested as long as nothing is refused.
use Rattle.std.proofs.Common.{◌≡◌, ◌+◌, ◌≤◌, ℕ, suc, Bool, true, false, not, ◌||◌, List, [], ◌∷◌, ◌++◌, length, map, Option, Some, None, refl, sym, ap, subst, ◌∙◌, arith, leb-true, ltb-true}
use Rattle.std.specs.Prelude.{All, is_some, if◌then◌else◌, fold}
use Rattle.std.specs.List.{list_any}
use Rattle.std.proofs.lemmas.Bool.{and_parts}
use Rattle.std.proofs.lemmas.List.{map-append}
use Rattle.std.proofs.lemmas.List.Elements.{All-head, All-tail}
use Rattle.form_base.specs.declared.spot.Spot.{Spot}
use Rattle.form_ast.specs.Written.{statement_of}
use Rattle.form_ast.specs.declared.statement.Placed.{Placed}
use Rattle.form_ast.specs.declared.statement.Statement.{Statement}
use Rattle.form_ast.specs.declared.statement.Statement.TheVariants as statements
use Rattle.form_blocks.specs.declared.open.BlockKind.{BlockKind}
use Rattle.form_blocks.specs.declared.open.BlockKind.TheVariants as kinds
use Rattle.form_blocks.specs.declared.open.Fault.{Fault}
use Rattle.form_blocks.specs.declared.open.Open.{Open}
use Rattle.form_blocks.specs.declared.role.Role.{Role}
use Rattle.form_blocks.specs.declared.role.Role.TheVariants as roles
use Rattle.form_blocks.specs.Blocks.{Read, Unfinished, and_branch, and_end, and_ended, and_last, and_lines, and_opening, and_read, and_statement, and_fault, begun_branch, end_of, end_placed, ends_with_rewrite, fault_at_end, fault_of, has_block, inner_left, is_block, is_none, is_same_kind, kind_of, lines_ended, may_stand, most_blocks, new_module, outer, refused, role_of, unclosed}
use Rattle.form_blocks.specs.Growing.{is_also}
use Rattle.form_blocks.specs.Nesting.{AreNested, HasOpenings, HaveRoom, IsOpening, Within, all_read, opened}
use Rattle.form_blocks.proofs.Nesting.{Nested, all_within, within, last_read, last_rewrites, nested_by, nested_on, nested_out}

abbrev pub st : Unfinished → List Statement
st b = map statement_of b.statements

pub st_on : (b : Unfinished) (p : Placed) → map statement_of (b.statements ++ p ∷ []) ≡ st b ++ p.statement ∷ []
st_on b p = map-append statement_of b.statements (p ∷ [])

-- the innermost block doesn't end with another one
abbrev HeadIsBlock : List Open → Type 0
HeadIsBlock [] = Unit {0}
HeadIsBlock (o ∷ os) = o.is_line ≡ false

-- ---- a statement that begins and ends nothing

pub acts_stay : (s : Statement) (x : Bool) (ws : List Within) → role_of s ≡ roles.Acts x → opened s ws ≡ Some ws
acts_stay (statements.Rewrite r) x ws e = refl
acts_stay (statements.Multiply side y) x ws e = refl
acts_stay (statements.Sum ns) x ws e = refl
acts_stay (statements.SumOver n ks) x ws e = refl
acts_stay statements.Discard x ws e = refl
acts_stay _ x ws e = absurd cc

abbrev pub is_also_role : Role → Bool
is_also_role (roles.Acts x) = x
is_also_role r = false

pub role_also : (s : Statement) → is_also_role (role_of s) ≡ is_also s
role_also (statements.Rewrite r) = refl
role_also _ = refl

-- one that is no `id` and no `also`
no_also : (s : Statement) (r : Role) → role_of s ≡ r → is_also_role r ≡ false → is_also s ≡ false
no_also s r e f = sym (role_also s) ∙ ap is_also_role e ∙ f

pub others_stay : (s : Statement) → role_of s ≡ roles.Other → opened s [] ≡ Some []
others_stay statements.Repeat e = absurd cc
others_stay statements.EndRepeat e = absurd cc
others_stay (statements.If q) e = absurd cc
others_stay (statements.ElseIf q) e = absurd cc
others_stay statements.Else e = absurd cc
others_stay statements.EndIf e = absurd cc
others_stay (statements.Argument fs) e = absurd cc
others_stay statements.EndArgument e = absurd cc
others_stay _ e = refl

other_on : (os : List Open) (ss : List Statement) (s : Statement) → os ≡ [] → role_of s ≡ roles.Other → Nested os ss → Nested os (ss ++ s ∷ [])
other_on os ss s nil role n =
    let none : all_within os ≡ [] = ap all_within nil in
    nested_by os os ss s n (ap (opened s) none ∙ others_stay s role ∙ ap (λ (ws : List Within). Some ws) (sym none)) (no_also s roles.Other role refl) n.few

or_true : (x : Bool) → (x || true) ≡ true
or_true true = refl
or_true false = refl

-- ---- what begins

pub opens_more : (s : Statement) (k : BlockKind) (ws : List Within) → role_of s ≡ roles.Opens k → opened s ws ≡ Some (within k false ∷ ws)
opens_more statements.Repeat k ws e = ap (λ (j : BlockKind). Some (within j false ∷ ws)) (ap kind_of e)
opens_more (statements.If q) k ws e = ap (λ (j : BlockKind). Some (within j false ∷ ws)) (ap kind_of e)
opens_more (statements.Argument fs) k ws e = ap (λ (j : BlockKind). Some (within j false ∷ ws)) (ap kind_of e)
opens_more _ k ws e = absurd cc

opening_on : (b : Unfinished) (p : Placed) (is_line : Bool) (k : BlockKind) → role_of p.statement ≡ roles.Opens k → Nested b.opens (st b) → suc (length b.opens) ≤ most_blocks
    → Nested (and_opening is_line b p).opens (st (and_opening is_line b p))
opening_on b p is_line k e n few =
    let more : opened p.statement (all_within b.opens) ≡ Some (all_within (and_opening is_line b p).opens) =
    opens_more p.statement k (all_within b.opens) e ∙ ap (λ (j : BlockKind). Some (within j false ∷ all_within b.opens)) (sym (ap kind_of e)) in
    subst (Nested (and_opening is_line b p).opens) (sym (st_on b p))
    (nested_by b.opens (and_opening is_line b p).opens (st b) p.statement n more (no_also p.statement (roles.Opens k) e refl) few)

one_fits : (now more : ℕ) → now + suc more ≤ most_blocks → suc now ≤ most_blocks
one_fits now more h = omega (arith, h)

moved : (now more : ℕ) → suc now + more ≡ now + suc more
moved now more = omega arith

lines_on : (lines : List Placed) (b : Unfinished) → All IsOpening lines → Nested b.opens (st b) → length b.opens + length lines ≤ most_blocks → Nested (and_lines lines b).opens (st (and_lines lines b))
lines_on [] b h n few = n
lines_on (l ∷ ls) b h n few =
    let head = All-head IsOpening l ls h in
    lines_on ls (and_opening true b l) (All-tail IsOpening l ls h) (opening_on b l true head.0 head.1 n (one_fits (length b.opens) (length ls) few))
    (subst (λ (m : ℕ). m ≤ most_blocks) (sym (moved (length b.opens) (length ls))) few)

lines_open : (lines : List Placed) (b : Unfinished) → length (and_lines lines b).opens ≡ length b.opens + length lines
lines_open [] b = omega arith
lines_open (l ∷ ls) b = lines_open ls (and_opening true b l) ∙ moved (length b.opens) (length ls)

lines_fault : (lines : List Placed) (b : Unfinished) → (and_lines lines b).fault ≡ b.fault
lines_fault [] b = refl
lines_fault (l ∷ ls) b = lines_fault ls (and_opening true b l)

-- ---- what ends

ended_on : (os : List Open) (b : Unfinished) → b.opens ≡ os → Nested os (st b) → Nested (lines_ended os b).opens (st (lines_ended os b)) × HeadIsBlock (lines_ended os b).opens
ended_on [] b e n = (subst (λ (x : List Open). Nested x (st b)) (sym e) n, subst HeadIsBlock (sym e) tt)
ended_on (o ∷ os) b e n = by_line o.is_line refl (λ m. ended_on os c refl m) where
  c : Unfinished
  c = and_statement (record b { opens = os }) (end_placed o)

  by_line : (x : Bool) → o.is_line ≡ x → (Nested os (st c) → Nested (lines_ended os c).opens (st (lines_ended os c)) × HeadIsBlock (lines_ended os c).opens)
      → Nested (if x then lines_ended os c else b).opens (st (if x then lines_ended os c else b)) × HeadIsBlock (if x then lines_ended os c else b).opens
  by_line true f rest = rest (subst (Nested os) (sym (st_on b (end_placed o))) (nested_out os (st b) o n))
  by_line false f rest = (subst (λ (x : List Open). Nested x (st b)) (sym e) n, subst HeadIsBlock (sym e) f)

ended_fault : (os : List Open) (b : Unfinished) → (lines_ended os b).fault ≡ b.fault
ended_fault [] b = refl
ended_fault (o ∷ os) b = by_line o.is_line (ended_fault os (and_statement (record b { opens = os }) (end_placed o))) where
  by_line : (x : Bool) → (lines_ended os (and_statement (record b { opens = os }) (end_placed o))).fault ≡ b.fault → (if x then lines_ended os (and_statement (record b { opens = os }) (end_placed o)) else b).fault ≡ b.fault
  by_line true e = e
  by_line false e = refl

-- what is refused stays refused
abbrev IsFaulty : Unfinished → Type 0
IsFaulty b = is_some b.fault ≡ true

unclosed_stays : (fault : Option Fault) (o : Open) → is_some fault ≡ true → is_some (unclosed fault o) ≡ true
unclosed_stays fault o h = by_line o.is_line where
  by_line : (x : Bool) → is_some (if x then fault else and_fault (fault_of o) fault) ≡ true
  by_line true = h
  by_line false = refl

left_stays : (kind : BlockKind) (os : List Open) (b : Unfinished) → IsFaulty b → IsFaulty (inner_left kind os b)
left_stays kind [] b h = h
left_stays kind (o ∷ os) b h = by_block (is_block kind o) (left_stays kind os (record b { opens = os; fault = unclosed b.fault o }) (unclosed_stays b.fault o h)) where
  by_block : (x : Bool) → IsFaulty (inner_left kind os (record b { opens = os; fault = unclosed b.fault o })) → IsFaulty (if x then b else inner_left kind os (record b { opens = os; fault = unclosed b.fault o }))
  by_block true r = h
  by_block false r = r

not_faulty : (b : Unfinished) → b.fault ≡ None → IsFaulty b → ⊥
not_faulty b e h = let x : false ≡ true = ap is_some (sym e) ∙ h in cc

-- where nothing is refused, the block that ends is the innermost one
left_none : (kind : BlockKind) (os : List Open) (b : Unfinished) → b.opens ≡ os → HeadIsBlock os → list_any (is_block kind) os ≡ true → (inner_left kind os b).fault ≡ None
    → (inner_left kind os b ≡ b) × (o : Open) × (rest : List Open) × (b.opens ≡ o ∷ rest) × (is_block kind o ≡ true)
left_none kind [] b e head any none = absurd cc
left_none kind (o ∷ os) b e head any none = by_block (is_block kind o) refl none where
  c : Unfinished
  c = record b { opens = os; fault = unclosed b.fault o }

  faulty : IsFaulty c
  faulty = rw head refl

  by_block : (x : Bool) → is_block kind o ≡ x → (if x then b else inner_left kind os c).fault ≡ None
      → ((if x then b else inner_left kind os c) ≡ b) × (p : Open) × (rest : List Open) × (b.opens ≡ p ∷ rest) × (is_block kind p ≡ true)
  by_block true f m = (refl, o, os, e, f)
  by_block false f m = absurd (not_faulty (inner_left kind os c) m (left_stays kind os c faulty))

same_kind : (k l : BlockKind) → is_same_kind k l ≡ true → k ≡ l
same_kind kinds.Repeat kinds.Repeat e = refl
same_kind kinds.If kinds.If e = refl
same_kind kinds.Argument kinds.Argument e = refl
same_kind kinds.Repeat kinds.If e = cc
same_kind kinds.Repeat kinds.Argument e = cc
same_kind kinds.If kinds.Repeat e = cc
same_kind kinds.If kinds.Argument e = cc
same_kind kinds.Argument kinds.Repeat e = cc
same_kind kinds.Argument kinds.If e = cc

pub end_statement : (s : Statement) (k : BlockKind) → role_of s ≡ roles.Ends k → s ≡ end_of k
end_statement statements.EndRepeat k e = ap end_of (ap ended_kind e) where
  ended_kind : Role → BlockKind
  ended_kind (roles.Ends l) = l
  ended_kind r = kinds.Repeat
end_statement statements.EndIf k e = ap end_of (ap ended_kind e) where
  ended_kind : Role → BlockKind
  ended_kind (roles.Ends l) = l
  ended_kind r = kinds.Repeat
end_statement statements.EndArgument k e = ap end_of (ap ended_kind e) where
  ended_kind : Role → BlockKind
  ended_kind (roles.Ends l) = l
  ended_kind r = kinds.Repeat
end_statement _ k e = absurd cc

abbrev pub is_else_of : Role → Bool
is_else_of (roles.Branches is_else) = is_else
is_else_of r = false

-- ---- further branches

branch_opens : (s : Statement) (is_else : Bool) (k : BlockKind) (has_else : Bool) (ws : List Within) → k ≡ kinds.If → has_else ≡ false → role_of s ≡ roles.Branches is_else
    → opened s (within k has_else ∷ ws) ≡ Some (within k (is_else || has_else) ∷ ws)
branch_opens (statements.ElseIf q) is_else kinds.If false ws e f role = ap (λ (x : Bool). Some (within kinds.If (x || false) ∷ ws)) (ap is_else_of role)
branch_opens statements.Else is_else kinds.If false ws e f role = ap (λ (x : Bool). Some (within kinds.If (x || false) ∷ ws)) (ap is_else_of role)
branch_opens _ is_else k has_else ws e f role = absurd cc

branch_on : (os : List Open) (ss : List Statement) (o : Open) (s : Statement) (is_else : Bool) → o.kind ≡ kinds.If → o.has_else ≡ false → role_of s ≡ roles.Branches is_else → Nested (o ∷ os) ss
    → Nested (record o { has_else = is_else || o.has_else } ∷ os) (ss ++ s ∷ [])
branch_on os ss o s is_else kind none role n =
    nested_by (o ∷ os) (record o { has_else = is_else || o.has_else } ∷ os) ss s n (branch_opens s is_else o.kind o.has_else (all_within os) kind none role) (no_also s (roles.Branches is_else) role refl) n.few

-- ---- all

-- nothing is refused, and the blocks are nested
pub record IsSound (b : Unfinished) : Type 0 where
  pub nested : Nested b.opens (st b)
  pub head : HeadIsBlock b.opens

abbrev pub StaysSound : Unfinished → Type 0
StaysSound b = b.fault ≡ None → IsSound b

-- it is refused, and so nothing is to be shown
faulty_stays : (b : Unfinished) → IsFaulty b → StaysSound b
faulty_stays b h e = absurd (not_faulty b e h)

nothing_listed : {X : Type 0} (xs : List X) → is_none xs ≡ true → xs ≡ []
nothing_listed [] e = refl
nothing_listed (x ∷ xs) e = cc

none_before : (kind : BlockKind) (os : List Open) (b : Unfinished) → (inner_left kind os b).fault ≡ None → b.fault ≡ None
none_before kind os b none = by_fault b.fault refl where
  by_fault : (x : Option Fault) → b.fault ≡ x → b.fault ≡ None
  by_fault None e = e
  by_fault (Some f) e = absurd (not_faulty (inner_left kind os b) none (left_stays kind os b (ap is_some e)))

-- where nothing is refused, the block of this kind is the innermost one, and nothing in it is left
record IsInnermost (k : BlockKind) (d : Unfinished) : Type 0 where
  same : inner_left k d.opens d ≡ d
  sound : IsSound d
  block : Open
  rest : List Open
  opens : d.opens ≡ block ∷ rest
  kind : block.kind ≡ k
  is_no_line : block.is_line ≡ false

innermost : (k : BlockKind) (d : Unfinished) → has_block k d ≡ true → StaysSound d → (inner_left k d.opens d).fault ≡ None → IsInnermost k d
innermost k d any sound none =
    let here = sound (none_before k d.opens d none) in
    let found = left_none k d.opens d refl here.head any none in
    let parts = and_parts (is_same_kind found.1.kind k) (not found.1.is_line) found.4 in
    record {
      same = found.0;
      sound = here;
      block = found.1;
      rest = found.2;
      opens = found.3;
      kind = same_kind found.1.kind k parts.0;
      is_no_line = no_line found.1.is_line parts.1;
    } where
      no_line : (x : Bool) → not x ≡ true → x ≡ false
      no_line true e = cc
      no_line false e = refl

-- a block ends
end_sound : (k : BlockKind) (d : Unfinished) (p : Placed) → role_of p.statement ≡ roles.Ends k → has_block k d ≡ true → StaysSound d → StaysSound (and_end k d p)
end_sound k d p role any sound fine =
    let i = innermost k d any sound none in
    subst (λ (y : Unfinished). IsSound (and_ended (behind y))) (sym i.same) (closed_here i)
  where
    behind : Unfinished → Unfinished
    behind y = let c = and_statement y p in record c { opens = outer c.opens }

    none : (inner_left k d.opens d).fault ≡ None
    none = sym (ended_fault (behind (inner_left k d.opens d)).opens (behind (inner_left k d.opens d))) ∙ fine

    closed_here : IsInnermost k d → IsSound (and_ended (behind d))
    closed_here i =
        let c : Unfinished = behind d in
        let opens : c.opens ≡ i.rest = ap outer i.opens in
        let nested : Nested (i.block ∷ i.rest) (st d) = subst (λ (x : List Open). Nested x (st d)) i.opens i.sound.nested in
        let end : end_of i.block.kind ≡ p.statement = ap end_of i.kind ∙ sym (end_statement p.statement k role) in
        let inside : Nested i.rest (st d ++ p.statement ∷ []) = subst (λ (x : Statement). Nested i.rest (st d ++ x ∷ [])) end (nested_out i.rest (st d) i.block nested) in
        let there : Nested c.opens (st c) = subst (λ (x : List Statement). Nested c.opens x) (sym (st_on d p)) (subst (λ (x : List Open). Nested x (st d ++ p.statement ∷ [])) (sym opens) inside) in
        let result = ended_on c.opens c refl there in
        record { nested = result.0; head = result.1 }

-- a branch begins
branch_sound : (is_else : Bool) (spot : Spot) (d : Unfinished) (p : Placed) → role_of p.statement ≡ roles.Branches is_else → has_block kinds.If d ≡ true → StaysSound d → StaysSound (and_branch is_else spot d p)
branch_sound is_else spot d p role any sound fine = by_left (inner_left kinds.If d.opens d) refl fine where
  begun_here : Unfinished → Unfinished
  begun_here y = let c = and_statement y p in begun_branch is_else spot c.opens c

  still : (os : List Open) (y : Unfinished) → IsFaulty y → IsFaulty (begun_branch is_else spot os y)
  still [] y h = h
  still (o ∷ os) y h = by_else o.has_else where
    by_else : (x : Bool) → IsFaulty (let c = record y { opens = record o { has_else = is_else || o.has_else } ∷ os } in if x then refused spot c else c)
    by_else true = refl
    by_else false = h

  fine_left : (y : Unfinished) → (begun_here y).fault ≡ None → y.fault ≡ None
  fine_left y e = by_fault y.fault refl where
    by_fault : (x : Option Fault) → y.fault ≡ x → y.fault ≡ None
    by_fault None f = f
    by_fault (Some g) f = absurd (not_faulty (begun_here y) e (still y.opens (and_statement y p) (ap is_some f)))

  by_open : (os : List Open) (block : Open) (rest : List Open) → os ≡ block ∷ rest → block.kind ≡ kinds.If → block.is_line ≡ false → Nested (block ∷ rest) (st d) → (begun_branch is_else spot os (and_statement d p)).fault ≡ None
      → IsSound (begun_branch is_else spot os (and_statement d p))
  by_open os block rest e kind line nested none = subst (λ (x : List Open). IsSound (begun_branch is_else spot x (and_statement d p))) (sym e) (by_else block.has_else refl (ap (λ (x : List Open). (begun_branch is_else spot x (and_statement d p)).fault) (sym e) ∙ none)) where
    c : Unfinished
    c = record (and_statement d p) { opens = record block { has_else = is_else || block.has_else } ∷ rest }

    by_else : (x : Bool) → block.has_else ≡ x → (if x then refused spot c else c).fault ≡ None → IsSound (if x then refused spot c else c)
    by_else true f m = absurd (not_faulty (refused spot c) m refl)
    by_else false f m = record {
      nested = subst (Nested c.opens) (sym (st_on d p)) (branch_on rest (st d) block p.statement is_else kind f role nested);
      head = line;
    }

  by_left : (y : Unfinished) → inner_left kinds.If d.opens d ≡ y → (begun_here y).fault ≡ None → IsSound (begun_here y)
  by_left y e none =
      let i = innermost kinds.If d any sound (ap (λ (x : Unfinished). x.fault) e ∙ fine_left y none) in
      let same : d ≡ y = sym i.same ∙ e in
      subst (λ (x : Unfinished). IsSound (begun_here x)) same
      (by_open d.opens i.block i.rest i.opens i.kind i.is_no_line (subst (λ (x : List Open). Nested x (st d)) i.opens i.sound.nested) (ap (λ (x : Unfinished). (begun_here x).fault) same ∙ none))

-- ---- a statement that is read

-- a statement that acts
acts_sound : (d : Unfinished) (p : Placed) (x : Bool) → role_of p.statement ≡ roles.Acts x → (not (is_also p.statement) || last_rewrites false (st d)) ≡ true → (d.fault ≡ None → Nested d.opens (st d))
    → StaysSound (and_ended (and_statement d p))
acts_sound d p x role led nested fine =
    let c = and_statement d p in
    let none : d.fault ≡ None = sym (ended_fault c.opens c) ∙ fine in
    let there : Nested c.opens (st c) = subst (Nested c.opens) (sym (st_on d p)) (nested_on d.opens d.opens (st d) p.statement (nested none) (acts_stay p.statement x (all_within d.opens) role) led (nested none).few) in
    let result = ended_on c.opens c refl there in
    record { nested = result.0; head = result.1 }

module _ (b : Unfinished) (spot : Spot) (r : Read) (lines : All IsOpening r.lines) (sound : StaysSound b) where
  abbrev d : Unfinished
  d = and_lines r.lines b

  nested_lines : length b.opens + length r.lines ≤ most_blocks → d.fault ≡ None → Nested d.opens (st d)
  nested_lines few e = lines_on r.lines b lines (sound (sym (lines_fault r.lines b) ∙ e)).nested few

  alone : is_none r.lines ≡ true → d ≡ b
  alone e = ap (λ (ls : List Placed). and_lines ls b) (nothing_listed r.lines e)

  by_role : (role : Role) → role_of r.last.statement ≡ role → may_stand b r.lines role ≡ true → StaysSound (and_last role spot d r.last)
  by_role (roles.Opens k) e may =
      let few : suc (length b.opens + length r.lines) ≤ most_blocks = ltb-true (length b.opens + length r.lines) most_blocks may in
      λ fine. record {
        nested = opening_on d r.last false k e (nested_lines (omega (arith, few)) fine) (subst (λ (m : ℕ). suc m ≤ most_blocks) (sym (lines_open r.lines b)) few);
        head = refl;
      }
  by_role (roles.Ends k) e may =
      let parts = and_parts (is_none r.lines) (has_block k b) may in
      subst (λ (x : Unfinished). StaysSound (and_end k x r.last)) (sym (alone parts.0)) (end_sound k b r.last e parts.1 sound)
  by_role (roles.Branches is_else) e may =
      let parts = and_parts (is_none r.lines) (has_block kinds.If b) may in
      subst (λ (x : Unfinished). StaysSound (and_branch is_else spot x r.last)) (sym (alone parts.0)) (branch_sound is_else spot b r.last e parts.1 sound)
  by_role (roles.Acts false) e may =
      acts_sound d r.last false e (ap (λ (x : Bool). not x || last_rewrites false (st d)) (no_also r.last.statement (roles.Acts false) e refl)) (nested_lines (leb-true (length b.opens + length r.lines) most_blocks may))
  by_role (roles.Acts true) e may =
      let parts = and_parts (is_none r.lines) (ends_with_rewrite b.statements) may in
      let last : last_rewrites false (st d) ≡ true = ap (λ (x : Unfinished). last_rewrites false (st x)) (alone parts.0) ∙ sym (last_read b.statements) ∙ parts.1 in
      acts_sound d r.last true e (ap (λ (x : Bool). not (is_also r.last.statement) || x) last ∙ or_true (not (is_also r.last.statement)))
      (λ fine. subst (λ (x : Unfinished). Nested x.opens (st x)) (sym (alone parts.0)) (sound (sym (ap (λ (x : Unfinished). x.fault) (alone parts.0)) ∙ fine)).nested)
  by_role roles.Other e may =
      let parts = and_parts (is_none r.lines) (is_none b.opens) may in
      subst (λ (x : Unfinished). StaysSound (and_statement x r.last)) (sym (alone parts.0)) (λ fine. record {
        nested = subst (Nested b.opens) (sym (st_on b r.last)) (other_on b.opens (st b) r.last.statement (nothing_listed b.opens parts.1) e (sound fine).nested);
        head = (sound fine).head;
      })

  pub read_sound : StaysSound (and_read b spot (Some r))
  read_sound = by_place (may_stand b r.lines (role_of r.last.statement)) refl where
    by_place : (x : Bool) → may_stand b r.lines (role_of r.last.statement) ≡ x → StaysSound (if x then and_last (role_of r.last.statement) spot d r.last else refused spot b)
    by_place true e = by_role (role_of r.last.statement) refl e
    by_place false e = faulty_stays (refused spot b) refl

pub none_sound : (b : Unfinished) (spot : Spot) → StaysSound (and_read b spot None)
none_sound b spot = faulty_stays (refused spot b) refl

pub new_sound : StaysSound new_module
new_sound fine = record { nested = record { opens = refl; led = refl; room = tt; few = omega arith }; head = tt }

-- ---- the end of a module

all_stay : (os : List Open) (fault : Option Fault) → is_some fault ≡ true → is_some (fold unclosed fault os) ≡ true
all_stay [] fault h = h
all_stay (o ∷ os) fault h = all_stay os (unclosed fault o) (unclosed_stays fault o h)

-- nothing is open, and nothing was refused
end_fine : (os : List Open) (fault : Option Fault) → HeadIsBlock os → fold unclosed fault os ≡ None → (os ≡ []) × (fault ≡ None)
end_fine [] fault head e = (refl, e)
end_fine (o ∷ os) fault head e = absurd (let x : false ≡ true = sym (ap is_some e) ∙ all_stay os (unclosed fault o) (rw head refl) in cc)

sound_at_end : (b : Unfinished) → StaysSound b → fault_at_end b ≡ None → IsSound b
sound_at_end b sound e = by_fault b.fault refl where
  by_fault : (x : Option Fault) → b.fault ≡ x → IsSound b
  by_fault None f = sound f
  by_fault (Some g) f = absurd (let x : false ≡ true = sym (ap is_some e) ∙ all_stay b.opens b.fault (ap is_some f) in cc)

-- the statements of a module of which nothing is refused are nested
pub end_sound_all : (b : Unfinished) → StaysSound b → fault_at_end b ≡ None → AreNested (st b)
end_sound_all b sound e =
    let s = sound_at_end b sound e in
    record {
      closed = s.nested.opens ∙ ap (λ (os : List Open). Some (all_within os)) (end_fine b.opens b.fault s.head e).0;
      led = s.nested.led;
    }

-- ---- many statements

next_sound_of : (b : Unfinished) (spot : Spot) (o : Option Read) → HasOpenings o → StaysSound b → StaysSound (and_read b spot o)
next_sound_of b spot None h k = none_sound b spot
next_sound_of b spot (Some r) h k = read_sound b spot r h k

abbrev pub and_reading : Unfinished → Spot × Option Read → Unfinished
and_reading b r = and_read b r.0 r.1

abbrev BeginsBlocks : Spot × Option Read → Type 0
BeginsBlocks r = HasOpenings r.1

all_sound : (rs : List (Spot × Option Read)) (b : Unfinished) → All BeginsBlocks rs → StaysSound b → StaysSound (fold and_reading b rs)
all_sound [] b h k = k
all_sound (r ∷ rs) b h k = all_sound rs (and_reading b r) (All-tail BeginsBlocks r rs h) (next_sound_of b r.0 r.1 (All-head BeginsBlocks r rs h) k)

pub reading_sound : (rs : List (Spot × Option Read)) → All BeginsBlocks rs → fault_at_end (all_read rs) ≡ None → AreNested (st (all_read rs)) × HaveRoom [] (st (all_read rs))
reading_sound rs h e =
    let sound = all_sound rs new_module h new_sound in
    (end_sound_all (all_read rs) sound e, (sound_at_end (all_read rs) sound e).nested.room)
