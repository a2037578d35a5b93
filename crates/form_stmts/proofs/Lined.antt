-- A statement, with the lines before it that end with it, is read in one way.
use Rattle.std.proofs.Common.{◌≡◌, ◌≤◌, ◌<◌, ◌⊎◌, inl, inr, ℕ, zero, suc, ◌+◌, length, arith, List, [], ◌∷◌, ◌++◌, Option, Some, None, refl, sym, ap, subst, ◌∙◌, append_assoc}
use Rattle.std.proofs.lemmas.List.{append-nil, length-append}
use Rattle.std.proofs.lemmas.Option.{same_Some, none-some}
use Rattle.form_base.specs.declared.spot.Spot.{Spot}
use Rattle.form_ast.specs.declared.expr.Spelled.{Spelled}
use Rattle.form_ast.specs.Conditions.{Condition}
use Rattle.form_ast.specs.declared.statement.Placed.{Placed}
use Rattle.form_ast.specs.declared.statement.Statement.{Statement}
use Rattle.form_ast.specs.declared.statement.Statement.TheVariants as statements
use Rattle.form_blocks.specs.Blocks.{Read}
use Rattle.form_conditions.specs.Grammar.{BeginsWith}
use Rattle.form_grammar.specs.declared.terminal.Terminal.{Terminal}
use Rattle.form_grammar.specs.declared.terminal.Terminal.TheVariants.{Name}
use Rattle.form_stmts.specs.declared.keyword.Keyword as keywords
use Rattle.form_stmts.specs.declared.keyword.Keyword.TheVariants as keyword
use Rattle.form_stmts.specs.Keyword.{keyword_of}
use Rattle.form_grammar.specs.declared.error.ReadError.{ReadError}
use Rattle.form_grammar.specs.Reading.{Excludes}
use Rattle.form_stmts.specs.Statement.{AreRead, BeginsAt, BehindLine, FollowsKeyword, IsFront, IsFrontBehind, IsLine, IsStatement, ReadsSo, StandsBehind}
use Rattle.form_stmts.proofs.Excluded.{excluded}
use Rattle.form_stmts.proofs.Either.{IsOne, IsOrNot}
use Rattle.form_stmts.proofs.Trees.{ConditionLaws}

-- the first name, and what stands behind it
abbrev first_of : List Terminal → Option (Spelled × List Terminal)
first_of (Name n ∷ rest) = Some (n, rest)
first_of _ = None

same_first : (terminals : List Terminal) (n m : Spelled) (behind others : List Terminal) → terminals ≡ Name n ∷ behind → terminals ≡ Name m ∷ others → (n ≡ m) × (behind ≡ others)
same_first terminals n m behind others e f =
    let here : Spelled × List Terminal = (n, behind) in
    let there : Spelled × List Terminal = (m, others) in
    let same : here ≡ there = same_Some here there (ap first_of (sym e ∙ f)) in
    (ap (λ (x : Spelled × List Terminal). x.0) same, ap (λ (x : Spelled × List Terminal). x.1) same)

nothing_is : (x : Terminal) (xs : List Terminal) → x ∷ xs ≡ [] → ⊥
nothing_is x xs e = cc

-- ---- what stands at the front

-- a condition stands behind an `if`
pub begins_if : (behind : List Terminal) (s : Statement) → StandsBehind keyword.If behind s → (pieces : Condition) × BeginsWith behind pieces
begins_if behind s ([], h) = (h.0, ([], record { front = behind; condition = h.1; split = sym (append-nil behind) }))
begins_if behind s (t ∷ ts, h) = (h.0, (t ∷ ts, h.1))

-- a keyword with what stands behind it
pub front_by : (f : Spelled) (w : keywords.Keyword) (s : Statement) (behind rest : List Terminal) → keyword_of f.name ≡ Some w → IsFrontBehind w s behind rest → IsFront (record { spot = f.spot; statement = s }) (Name f ∷ behind) rest
front_by f w s behind [] e h = (record { first = f; rest = behind; keyword = w; written = refl; spelled = e; follows = h }, refl)
front_by f w s behind (t ∷ ts) e h = record { first = f; behind = behind; written = refl; spot = refl; behind_it = subst (λ (o : Option keywords.Keyword). BehindLine o s behind (t ∷ ts)) (sym e) h }

-- nothing is no statement
pub no_end : (lines : List Placed) (last : Placed) → AreRead lines last [] → ⊥
no_end [] last h = let w = h.0.written in cc
no_end (line ∷ lines) last h = let w = h.1.written in cc

-- what is read behind a keyword
stands_behind : (f : Spelled) (w : keywords.Keyword) (behind : List Terminal) → keyword_of f.name ≡ Some w → (r : Read) → ReadsSo (Name f ∷ behind) r → (s : Statement) × StandsBehind w behind s
stands_behind f w behind e r h = by_lines r.lines r.last h where
  by_lines : (lines : List Placed) (last : Placed) → AreRead lines last (Name f ∷ behind) → (s : Statement) × StandsBehind w behind s
  by_lines [] last k =
      let first = same_first (Name f ∷ behind) f k.0.first behind k.0.rest refl k.0.written in
      let same : w ≡ k.0.keyword = same_Some w k.0.keyword (sym e ∙ ap (λ (n : Spelled). keyword_of n.name) first.0 ∙ k.0.spelled) in
      (last.statement, ([], subst (λ (x : keywords.Keyword). FollowsKeyword x behind last.statement) (sym same) (subst (λ (t : List Terminal). FollowsKeyword k.0.keyword t last.statement) (sym first.1) k.0.follows)))
  by_lines (o ∷ os) last k = by_rest k.0 k.1 k.2 where
    by_rest : (rest : List Terminal) → IsLine o (Name f ∷ behind) rest → AreRead os last rest → (s : Statement) × StandsBehind w behind s
    by_rest [] l a = absurd (no_end os last a)
    by_rest (t ∷ ts) l a =
        let first = same_first (Name f ∷ behind) f l.first behind l.behind refl l.written in (
          o.statement,
          (
            t ∷ ts,
            subst (λ (x : Option keywords.Keyword). BehindLine x o.statement behind (t ∷ ts)) e
                (subst (λ (b : List Terminal). BehindLine (keyword_of f.name) o.statement b (t ∷ ts)) (sym first.1) (subst (λ (n : Spelled). BehindLine (keyword_of n.name) o.statement l.behind (t ∷ ts)) (sym first.0) l.behind_it)),
          ),
        )

pub none_behind : (f : Spelled) (w : keywords.Keyword) (behind : List Terminal) (error : ReadError) → keyword_of f.name ≡ Some w → Excludes error (StandsBehind w behind) → Excludes error (ReadsSo (Name f ∷ behind))
none_behind f w behind error e h = excluded (StandsBehind w behind) (ReadsSo (Name f ∷ behind)) error (stands_behind f w behind e) h

-- without a keyword nothing is read
pub no_keyword : (f : Spelled) (behind : List Terminal) → keyword_of f.name ≡ None → (r : Read) → ReadsSo (Name f ∷ behind) r → ⊥
no_keyword f behind e r h = by_lines r.lines r.last h where
  by_lines : (lines : List Placed) (last : Placed) → AreRead lines last (Name f ∷ behind) → ⊥
  by_lines [] last k =
      let first = same_first (Name f ∷ behind) f k.0.first behind k.0.rest refl k.0.written in
      none-some k.0.keyword (sym e ∙ ap (λ (n : Spelled). keyword_of n.name) first.0 ∙ k.0.spelled)
  by_lines (o ∷ os) last k =
      let first = same_first (Name f ∷ behind) f k.1.first behind k.1.behind refl k.1.written in
      subst (λ (x : Option keywords.Keyword). BehindLine x o.statement k.1.behind k.0) (ap (λ (n : Spelled). keyword_of n.name) (sym first.0) ∙ e) k.1.behind_it

abbrev head_or : Terminal → List Terminal → Terminal
head_or t [] = t
head_or t (x ∷ xs) = x

-- nor without a name at the front
pub no_name : (t : Terminal) (behind : List Terminal) → ((n : Spelled) → t ≡ Name n → ⊥) → (r : Read) → ReadsSo (t ∷ behind) r → ⊥
no_name t behind none r h = by_lines r.lines r.last h where
  by_lines : (lines : List Placed) (last : Placed) → AreRead lines last (t ∷ behind) → ⊥
  by_lines [] last k = none k.0.first (ap (head_or t) k.0.written)
  by_lines (o ∷ os) last k = none k.1.first (ap (head_or t) k.1.written)

-- ---- reading line by line

-- reading has come to these lines, and the rest: what is read of the rest is read of all behind them, and all readings
-- begin with them
pub record HasComeTo (all : List Terminal) (lines : List Placed) (rest : List Terminal) : Type 0 where
  pub sound : (others : List Placed) (last : Placed) → AreRead others last rest → AreRead (lines ++ others) last all
  pub complete : (r : Read) → ReadsSo all r → (others : List Placed) × (r.lines ≡ lines ++ others) × AreRead others r.last rest

pub nothing_read : (all : List Terminal) → HasComeTo all [] all
nothing_read all = record { sound = λ others last h. h; complete = λ r h. (r.lines, refl, h) }

pub last_read : (all rest : List Terminal) (lines : List Placed) (p : Placed) → HasComeTo all lines rest → IsFront p rest [] → AreRead lines p all
last_read all rest lines p h front = subst (λ (ls : List Placed). AreRead ls p all) (append-nil lines) (h.sound [] p front)

pub none_read : (all rest : List Terminal) (lines : List Placed) (error : ReadError) → HasComeTo all lines rest → Excludes error (ReadsSo rest) → Excludes error (ReadsSo all)
none_read all rest lines error h none = excluded (ReadsSo rest) (ReadsSo all) error (λ r k. let behind = h.complete r k in (record { lines = behind.0; last = r.last }, behind.2)) none

pub nothing_left : (all : List Terminal) (lines : List Placed) → HasComeTo all lines [] → (r : Read) → ReadsSo all r → ⊥
nothing_left all lines h r k = let behind = h.complete r k in no_end behind.0 r.last behind.2

module _ (laws : ConditionLaws) where
  one_behind : (o : Option keywords.Keyword) (s t : Statement) (behind rest others : List Terminal) → BehindLine o s behind rest → BehindLine o t behind others → (s ≡ t) × (rest ≡ others)
  one_behind None s t behind rest others h k = absurd h
  one_behind (Some keyword.Repeat) s t behind rest others h k = (h.0 ∙ sym k.0, sym h.1 ∙ k.1)
  one_behind (Some keyword.If) s t behind rest others h k =
      let same = laws.front h.1.front k.1.front rest others h.0 k.0 h.1.condition k.1.condition (sym h.1.split ∙ k.1.split) in
      (h.2 ∙ ap statements.If same.2 ∙ sym k.2, same.1)
  one_behind (Some _) s t behind rest others h k = absurd h

  -- a line is one statement, and has one rest
  pub one_line : (terminals : List Terminal) (p q : Placed) (rest others : List Terminal) → IsLine p terminals rest → IsLine q terminals others → (p ≡ q) × (rest ≡ others)
  one_line terminals p q rest others h k =
      let first = same_first terminals h.first k.first h.behind k.behind h.written k.written in
      let moved : BehindLine (keyword_of k.first.name) p.statement k.behind rest =
      subst (λ (n : Spelled). BehindLine (keyword_of n.name) p.statement k.behind rest) first.0 (subst (λ (b : List Terminal). BehindLine (keyword_of h.first.name) p.statement b rest) first.1 h.behind_it) in
      let same = one_behind (keyword_of k.first.name) p.statement q.statement k.behind rest others moved k.behind_it in
      let spots : p.spot ≡ q.spot = h.spot ∙ ap (λ (n : Spelled). n.spot) first.0 ∙ sym k.spot in
      (ap (λ (x : Spot). record { spot = x; statement = p.statement }) spots ∙ ap (λ (x : Statement). record { spot = q.spot; statement = x }) same.0, same.1)

  not_alone : (w : keywords.Keyword) (s t : Statement) (behind rest : List Terminal) (x : Terminal) → BehindLine (Some w) s behind (x ∷ rest) → FollowsKeyword w behind t → ⊥
  not_alone keyword.Repeat s t behind rest x h k = nothing_is x rest (sym h.1 ∙ k.0)
  not_alone keyword.If s t behind rest x h k =
      let same = laws.front h.1.front behind (x ∷ rest) [] h.0 k.0 h.1.condition k.1 (sym h.1.split ∙ sym (append-nil behind)) in
      nothing_is x rest same.1
  not_alone _ s t behind rest x h k = absurd h

  -- what is a line before something is no statement by itself
  pub no_statement : (terminals : List Terminal) (p : Placed) (s : Statement) (x : Terminal) (rest : List Terminal) → IsLine p terminals (x ∷ rest) → IsStatement terminals s → ⊥
  no_statement terminals p s x rest h k =
      let first = same_first terminals h.first k.first h.behind k.rest h.written k.written in
      let moved : BehindLine (keyword_of k.first.name) p.statement k.rest (x ∷ rest) =
      subst (λ (n : Spelled). BehindLine (keyword_of n.name) p.statement k.rest (x ∷ rest)) first.0 (subst (λ (b : List Terminal). BehindLine (keyword_of h.first.name) p.statement b (x ∷ rest)) first.1 h.behind_it) in
      not_alone k.keyword p.statement s k.rest rest x (subst (λ (o : Option keywords.Keyword). BehindLine o p.statement k.rest (x ∷ rest)) k.spelled moved) k.follows

  -- what a reading begins with, where a line stands at the front
  pub begins_with : (terminals : List Terminal) (p : Placed) (x : Terminal) (rest : List Terminal) (lines : List Placed) (last : Placed) → IsLine p terminals (x ∷ rest) → AreRead lines last terminals
      → (others : List Placed) × (lines ≡ p ∷ others) × AreRead others last (x ∷ rest)
  begins_with terminals p x rest [] last h r = absurd (no_statement terminals p last.statement x rest h r.0)
  begins_with terminals p x rest (line ∷ lines) last h r =
      let same = one_line terminals line p r.0 (x ∷ rest) r.1 h in
      (lines, ap (λ (l : Placed). l ∷ lines) same.0, subst (λ (t : List Terminal). AreRead lines last t) same.1 r.2)

  -- one line further
  pub line_read : (all rest behind : List Terminal) (lines : List Placed) (p : Placed) → (behind ≡ [] → ⊥) → HasComeTo all lines rest → IsFront p rest behind → HasComeTo all (lines ++ p ∷ []) behind
  line_read all rest [] lines p some h front = absurd (some refl)
  line_read all rest (x ∷ xs) lines p some h front = record {
    sound = λ others last r. subst (λ (ls : List Placed). AreRead ls last all) (sym (append_assoc lines (p ∷ []) others)) (h.sound (p ∷ others) last (x ∷ xs, front, r));
    complete = λ r k.
        let here = h.complete r k in
        let there = begins_with rest p x xs here.0 r.last front here.2 in
        (there.0, here.1 ∙ ap (λ (ls : List Placed). lines ++ ls) there.1 ∙ sym (append_assoc lines (p ∷ []) there.0), there.2);
  }

  module _ (one_statement : (terminals : List Terminal) → IsOne (IsStatement terminals)) where
    one_last : (terminals : List Terminal) (p q : Placed) → AreRead [] p terminals → AreRead [] q terminals → p ≡ q
    one_last terminals p q h k =
        let here : p.spot ≡ h.0.first.spot = subst (BeginsAt p.spot) h.0.written h.1 in
        let there : q.spot ≡ h.0.first.spot = subst (BeginsAt q.spot) h.0.written k.1 in
        ap (λ (x : Spot). record { spot = x; statement = p.statement }) (here ∙ sym there) ∙ ap (λ (x : Statement). record { spot = q.spot; statement = x }) (one_statement terminals p.statement q.statement h.0 k.0)

    one_reading : (terminals : List Terminal) (lines others : List Placed) (p q : Placed) → AreRead lines p terminals → AreRead others q terminals → (lines ≡ others) × (p ≡ q)
    one_reading terminals [] [] p q h k = (refl, one_last terminals p q h k)
    one_reading terminals [] (o ∷ os) p q h k = absurd (none_then k.0 k.1 k.2) where
      none_then : (rest : List Terminal) → IsLine o terminals rest → AreRead os q rest → ⊥
      none_then [] l r = no_end os q r
      none_then (x ∷ rest) l r = no_statement terminals o p.statement x rest l h.0
    one_reading terminals (o ∷ os) [] p q h k = absurd (none_then h.0 h.1 h.2) where
      none_then : (rest : List Terminal) → IsLine o terminals rest → AreRead os p rest → ⊥
      none_then [] l r = no_end os p r
      none_then (x ∷ rest) l r = no_statement terminals o q.statement x rest l k.0
    one_reading terminals (o ∷ os) (n ∷ ns) p q h k =
        let same = one_line terminals o n h.0 k.0 h.1 k.1 in
        let rest = one_reading k.0 os ns p q (subst (λ (t : List Terminal). AreRead os p t) same.1 h.2) k.2 in
        (ap (λ (l : Placed). l ∷ os) same.0 ∙ ap (λ (ls : List Placed). n ∷ ls) rest.0, rest.1)

    pub one_read : (terminals : List Terminal) → IsOne (ReadsSo terminals)
    one_read terminals r s h k =
        let same = one_reading terminals r.lines s.lines r.last s.last h k in
        ap (λ (l : List Placed). record { lines = l; last = r.last }) same.0 ∙ ap (λ (p : Placed). record { lines = s.lines; last = p }) same.1

  -- what is left of a line is shorter
  shorter_behind : (o : Option keywords.Keyword) (s : Statement) (behind rest : List Terminal) → BehindLine o s behind rest → length rest ≤ length behind
  shorter_behind None s behind rest h = absurd h
  shorter_behind (Some keyword.Repeat) s behind rest h = omega (arith, ap length h.1)
  shorter_behind (Some keyword.If) s behind rest h = omega (arith, ap length h.1.split, length-append h.1.front rest)
  shorter_behind (Some _) s behind rest h = absurd h

  shorter : (terminals : List Terminal) (p : Placed) (rest : List Terminal) → IsLine p terminals rest → length rest + 1 ≤ length terminals
  shorter terminals p rest h = omega (arith, ap length h.written, shorter_behind (keyword_of h.first.name) p.statement h.behind rest h.behind_it)

  pub shorter_front : (terminals : List Terminal) (p : Placed) (rest : List Terminal) → (rest ≡ [] → ⊥) → IsFront p terminals rest → length rest < length terminals
  shorter_front terminals p [] some h = absurd (some refl)
  shorter_front terminals p (t ∷ ts) some h = omega (arith, shorter terminals p (t ∷ ts) h)

  -- a line stands at the front, or none
  abbrev Lines : List Terminal → Placed × List Terminal → Type 0
  Lines terminals x = IsLine x.0 terminals x.1

  line_by : (f : Spelled) (behind : List Terminal) (o : Option keywords.Keyword) → keyword_of f.name ≡ o → IsOrNot (λ (x : Statement × List Terminal). BehindLine o x.0 behind x.1) → IsOrNot (Lines (Name f ∷ behind))
  line_by f behind o e (inl x) = inl ((record { spot = f.spot; statement = x.0.0 }, x.0.1), record { first = f; behind = behind; written = refl; spot = refl; behind_it = subst (λ (k : Option keywords.Keyword). BehindLine k x.0.0 behind x.0.1) (sym e) x.1 })
  line_by f behind o e (inr none) = inr (λ y h.
      let first = same_first (Name f ∷ behind) f h.first behind h.behind refl h.written in
      none (y.0.statement, y.1) (subst (λ (k : Option keywords.Keyword). BehindLine k y.0.statement behind y.1) e
      (subst (λ (b : List Terminal). BehindLine (keyword_of f.name) y.0.statement b y.1) (sym first.1) (subst (λ (n : Spelled). BehindLine (keyword_of n.name) y.0.statement h.behind y.1) (sym first.0) h.behind_it))))

  behind_or_not : (o : Option keywords.Keyword) (behind : List Terminal) → IsOrNot (λ (x : Statement × List Terminal). BehindLine o x.0 behind x.1)
  behind_or_not None behind = inr (λ x h. h)
  behind_or_not (Some keyword.Repeat) behind = inl ((statements.Repeat, behind), (refl, refl))
  behind_or_not (Some keyword.If) behind = by_condition (laws.front_or_none behind) where
    by_condition : ((pieces : Condition) × BeginsWith behind pieces) ⊎ ((pieces : Condition) → BeginsWith behind pieces → ⊥) → IsOrNot (λ (x : Statement × List Terminal). BehindLine (Some keyword.If) x.0 behind x.1)
    by_condition (inl c) = inl ((statements.If c.0, c.1.0), (c.0, c.1.1, refl))
    by_condition (inr none) = inr (λ x h. none h.0 (x.1, h.1))
  behind_or_not (Some _) behind = inr (λ x h. h)

  line_or_not : (terminals : List Terminal) → IsOrNot (Lines terminals)
  line_or_not (Name f ∷ behind) = line_by f behind (keyword_of f.name) refl (behind_or_not (keyword_of f.name) behind)
  line_or_not [] = inr (λ x h. let w = h.written in cc)
  line_or_not (_ ∷ rest) = inr (λ x h. let w = h.written in cc)

  module _ (statement_or_not : (terminals : List Terminal) → IsOrNot (IsStatement terminals)) where
    -- a statement alone
    alone : (terminals : List Terminal) (s : Statement) → IsStatement terminals s → (r : Read) × ReadsSo terminals r
    alone terminals s h = (record { lines = []; last = record { spot = h.first.spot; statement = s } }, (h, subst (BeginsAt h.first.spot) (sym h.written) refl))

    -- where no line stands at the front, or nothing behind it
    by_statement : (terminals : List Terminal) → ((p : Placed) (x : Terminal) (rest : List Terminal) → IsLine p terminals (x ∷ rest) → ⊥) → IsOrNot (IsStatement terminals) → IsOrNot (ReadsSo terminals)
    by_statement terminals none (inl s) = inl (alone terminals s.0 s.1)
    by_statement terminals none (inr no_one) = inr (λ r h. no_reading r.lines r.last h) where
      no_reading : (lines : List Placed) (last : Placed) → AreRead lines last terminals → ⊥
      no_reading [] last h = no_one last.statement h.0
      no_reading (o ∷ os) last h = by_rest h.0 h.1 h.2 where
        by_rest : (rest : List Terminal) → IsLine o terminals rest → AreRead os last rest → ⊥
        by_rest [] l r = no_end os last r
        by_rest (x ∷ rest) l r = none o x rest l

    by_line : (terminals : List Terminal) (p : Placed) (rest : List Terminal) → IsLine p terminals rest → IsOrNot (ReadsSo rest) → IsOrNot (IsStatement terminals) → IsOrNot (ReadsSo terminals)
    by_line terminals p [] h behind s = by_statement terminals (λ q x others k. nothing_is x others (one_line terminals q p (x ∷ others) [] k h).1) s
    by_line terminals p (x ∷ rest) h (inl r) s = inl (record { lines = p ∷ r.0.lines; last = r.0.last }, (x ∷ rest, h, r.1))
    by_line terminals p (x ∷ rest) h (inr none) s = inr (λ r k.
        let behind = begins_with terminals p x rest r.lines r.last h k in
        none (record { lines = behind.0; last = r.last }) behind.2)

    within : (n : ℕ) (terminals : List Terminal) → length terminals ≤ n → IsOrNot (ReadsSo terminals)
    within zero [] h = inr (λ r k. no_end r.lines r.last k)
    within zero (t ∷ ts) h = absurd (omega (arith, h))
    within (suc n) terminals h = by_front (λ rest k. within n rest k) (line_or_not terminals) where
      by_front : ((rest : List Terminal) → length rest ≤ n → IsOrNot (ReadsSo rest)) → IsOrNot (Lines terminals) → IsOrNot (ReadsSo terminals)
      by_front again (inr none) = by_statement terminals (λ p x rest k. none (p, x ∷ rest) k) (statement_or_not terminals)
      by_front again (inl l) = by_line terminals l.0.0 l.0.1 l.1 (again l.0.1 (omega (arith, h, shorter terminals l.0.0 l.0.1 l.1))) (statement_or_not terminals)

    pub read_or_not : (terminals : List Terminal) → IsOrNot (ReadsSo terminals)
    read_or_not terminals = within (length terminals) terminals (omega arith)
