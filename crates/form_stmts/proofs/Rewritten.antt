-- An `id` or an `also` is read exactly where it is one.
use Rattle.std.proofs.Common.{◌≡◌, Bool, true, false, cond, List, [], ◌∷◌, ◌++◌, map, Option, Some, None, refl, sym, ap, subst, ◌∙◌, append_assoc, inl, inr}
use Rattle.std.proofs.lemmas.List.{append-nil, map-append}
use Rattle.std.proofs.lemmas.Option.{same_Some, none-some}
use Rattle.form_base.specs.declared.taking.Taking.{Taking}
use Rattle.form_lexer.specs.declared.token.Token.{Token}
use Rattle.form_ast.specs.declared.expr.Piece.{Piece}
use Rattle.form_ast.specs.declared.statement.Statement.{Statement}
use Rattle.form_ast.specs.declared.statement.Statement.TheVariants as statements
use Rattle.form_grammar.specs.declared.error.ReadError.{ReadError}
use Rattle.form_grammar.specs.declared.terminal.Terminal.{Terminal}
use Rattle.form_grammar.specs.Grammar.{IsPatternText, IsRightText}
use Rattle.form_grammar.specs.Reading.{Excludes}
use Rattle.form_grammar.specs.Terminal.{terminal_of}
use Rattle.form_stmts.specs.Rewriting.{behind_comma, behind_word, option_at, option_of, pattern_of, is_equals, with_left, sides}
use Rattle.form_stmts.specs.Statement.{IsRewrite}
use Rattle.form_stmts.proofs.Either.{IsOrNot, IsOne}
use Rattle.form_stmts.proofs.Excluded.{excluded}
use Rattle.form_stmts.proofs.Trees.{TreeLaws}

-- ---- what stands before the `=`

abbrev Sides : Type 0
Sides = List Terminal × List Terminal

with_one_more : (front : List Terminal) (t : Terminal) (o : Option Sides) → with_left front (with_left (t ∷ []) o) ≡ with_left (front ++ t ∷ []) o
with_one_more front t None = refl
with_one_more front t (Some s) = ap (λ (l : List Terminal). Some (l, s.1)) (sym (append_assoc front (t ∷ []) s.0))

abbrev behind_one : Terminal → List Terminal → Bool → Option Sides
behind_one t rest b = cond b (Some ([], rest)) (with_left (t ∷ []) (sides rest))

-- one token further
pub left_goes_on : (front : List Token) (t : Token) (rest : List Terminal) → is_equals (terminal_of t) ≡ false
    → with_left (map terminal_of front) (sides (terminal_of t ∷ rest)) ≡ with_left (map terminal_of (front ++ t ∷ [])) (sides rest)
unfolding sides
left_goes_on front t rest e =
    ap (λ (b : Bool). with_left (map terminal_of front) (behind_one (terminal_of t) rest b)) e
    ∙ with_one_more (map terminal_of front) (terminal_of t) (sides rest)
    ∙ ap (λ (l : List Terminal). with_left l (sides rest)) (sym (map-append terminal_of front (t ∷ [])))

-- the `=`
pub left_ends : (front : List Token) (t : Token) (rest : List Terminal) → is_equals (terminal_of t) ≡ true
    → with_left (map terminal_of front) (sides (terminal_of t ∷ rest)) ≡ Some (map terminal_of front, rest)
unfolding sides
left_ends front t rest e =
    ap (λ (b : Bool). with_left (map terminal_of front) (behind_one (terminal_of t) rest b)) e
    ∙ ap (λ (l : List Terminal). Some (l, rest)) (append-nil (map terminal_of front))

pub left_is_all : (front : List Terminal) → with_left front (sides []) ≡ None
unfolding sides
left_is_all front = refl

-- what stands there, with its option taken from its front
pub record IsLeft (terminals left right front rest : List Terminal) (option : Option Taking) : Type 0 where
  pub are_sides : sides terminals ≡ Some (left, right)
  pub front_is : front ≡ behind_comma left
  pub option_is : option ≡ option_at front
  pub rest_is : rest ≡ behind_word option front

-- ---- what is read

abbrev rewrite_of : Bool → Option Taking → List Piece → List Piece → Statement
rewrite_of is_also option pattern right = statements.Rewrite (record { is_also = is_also; option = option; pattern = pattern; right = right })

same_sides : (terminals left right others further : List Terminal) → sides terminals ≡ Some (left, right) → sides terminals ≡ Some (others, further) → (left ≡ others) × (right ≡ further)
same_sides terminals left right others further e f =
    let here : Sides = (left, right) in
    let there : Sides = (others, further) in
    let same : here ≡ there = same_Some here there (sym e ∙ f) in
    (ap (λ (x : Sides). x.0) same, ap (λ (x : Sides). x.1) same)

module _ (is_also : Bool) (terminals : List Terminal) where
  pub no_sides : sides terminals ≡ None → (s : Statement) → IsRewrite is_also terminals s → ⊥
  no_sides e s h = none-some (h.left, h.right) (sym e ∙ h.written)

  module _ (left right : List Terminal) (e : sides terminals ≡ Some (left, right)) where
    pattern_there : (s : Statement) → IsRewrite is_also terminals s → (pieces : List Piece) × IsPatternText (pattern_of left) pieces
    pattern_there s h =
        let same = same_sides terminals left right h.left h.right e h.written in
        (h.pattern_pieces, subst (λ (l : List Terminal). IsPatternText (pattern_of l) h.pattern_pieces) (sym same.0) h.is_pattern)

    right_there : ((ts : List Terminal) → IsOne (IsPatternText ts)) → (pattern : List Piece) → IsPatternText (pattern_of left) pattern
        → (s : Statement) → IsRewrite is_also terminals s → (pieces : List Piece) × IsRightText pattern right pieces
    right_there one pattern p s h =
        let same = same_sides terminals left right h.left h.right e h.written in
        let patterns : h.pattern_pieces ≡ pattern = one (pattern_of left) h.pattern_pieces pattern (subst (λ (l : List Terminal). IsPatternText (pattern_of l) h.pattern_pieces) (sym same.0) h.is_pattern) p in
        (h.right_pieces, subst (λ (q : List Piece). IsRightText q right h.right_pieces) patterns (subst (λ (r : List Terminal). IsRightText h.pattern_pieces r h.right_pieces) (sym same.1) h.is_right))

  module _ (left right front rest : List Terminal) (option : Option Taking) (l : IsLeft terminals left right front rest option) where
    option_same : option ≡ option_of left
    option_same = l.option_is ∙ ap option_at l.front_is

    rest_same : rest ≡ pattern_of left
    rest_same = l.rest_is ∙ ap (λ (o : Option Taking). behind_word o front) option_same ∙ ap (behind_word (option_of left)) l.front_is

    pub rewrite_found : (pattern right_pieces : List Piece) → IsPatternText rest pattern → IsRightText pattern right right_pieces → IsRewrite is_also terminals (rewrite_of is_also option pattern right_pieces)
    rewrite_found pattern right_pieces p r = record {
      left = left;
      right = right;
      pattern_pieces = pattern;
      right_pieces = right_pieces;
      written = l.are_sides;
      is_pattern = subst (λ (t : List Terminal). IsPatternText t pattern) rest_same p;
      is_right = r;
      kept = ap (λ (o : Option Taking). rewrite_of is_also o pattern right_pieces) option_same;
    }

    pub no_pattern : (error : ReadError) → Excludes error (IsPatternText rest) → Excludes error (IsRewrite is_also terminals)
    no_pattern error n =
        excluded (IsPatternText rest) (IsRewrite is_also terminals) error
        (λ s h. let p = pattern_there left right l.are_sides s h in (p.0, subst (λ (t : List Terminal). IsPatternText t p.0) (sym rest_same) p.1)) n

    pub no_right : ((ts : List Terminal) → IsOne (IsPatternText ts)) → (pattern : List Piece) → IsPatternText rest pattern → (error : ReadError) → Excludes error (IsRightText pattern right) → Excludes error (IsRewrite is_also terminals)
    no_right one pattern p error n =
        excluded (IsRightText pattern right) (IsRewrite is_also terminals) error
        (right_there left right l.are_sides one pattern (subst (λ (t : List Terminal). IsPatternText t pattern) rest_same p)) n

  -- ---- in one way, or not

  module _ (laws : TreeLaws) where
    pub one_rewrite : IsOne (IsRewrite is_also terminals)
    one_rewrite s t h k =
        let same = same_sides terminals h.left h.right k.left k.right h.written k.written in
        let patterns : h.pattern_pieces ≡ k.pattern_pieces = laws.one_pattern (pattern_of k.left) h.pattern_pieces k.pattern_pieces (subst (λ (l : List Terminal). IsPatternText (pattern_of l) h.pattern_pieces) same.0 h.is_pattern) k.is_pattern in
        let rights : h.right_pieces ≡ k.right_pieces = laws.one_right k.pattern_pieces k.right h.right_pieces k.right_pieces (subst (λ (q : List Piece). IsRightText q k.right h.right_pieces) patterns (subst (λ (r : List Terminal). IsRightText h.pattern_pieces r h.right_pieces) same.1 h.is_right)) k.is_right in
        h.kept
        ∙ ap (λ (l : List Terminal). rewrite_of is_also (option_of l) h.pattern_pieces h.right_pieces) same.0
        ∙ ap (λ (q : List Piece). rewrite_of is_also (option_of k.left) q h.right_pieces) patterns
        ∙ ap (λ (q : List Piece). rewrite_of is_also (option_of k.left) k.pattern_pieces q) rights
        ∙ sym k.kept

    pub rewrite_or_not : IsOrNot (IsRewrite is_also terminals)
    rewrite_or_not = by_sides (sides terminals) refl where
      by_right : (left right : List Terminal) (pattern : List Piece) → sides terminals ≡ Some (left, right) → IsPatternText (pattern_of left) pattern → IsOrNot (IsRightText pattern right) → IsOrNot (IsRewrite is_also terminals)
      by_right left right pattern e p (inl r) = inl (
        rewrite_of is_also (option_of left) pattern r.0,
        record { left = left; right = right; pattern_pieces = pattern; right_pieces = r.0; written = e; is_pattern = p; is_right = r.1; kept = refl },
      )
      by_right left right pattern e p (inr none) = inr (λ s h. let r = right_there left right e laws.one_pattern pattern p s h in none r.0 r.1)

      by_pattern : (left right : List Terminal) → sides terminals ≡ Some (left, right) → IsOrNot (IsPatternText (pattern_of left)) → IsOrNot (IsRewrite is_also terminals)
      by_pattern left right e (inl p) = by_right left right p.0 e p.1 (laws.right_or_not p.0 right)
      by_pattern left right e (inr none) = inr (λ s h. let p = pattern_there left right e s h in none p.0 p.1)

      by_sides : (o : Option Sides) → sides terminals ≡ o → IsOrNot (IsRewrite is_also terminals)
      by_sides None e = inr (no_sides e)
      by_sides (Some x) e = by_pattern x.0 x.1 e (laws.pattern_or_not (pattern_of x.0))
