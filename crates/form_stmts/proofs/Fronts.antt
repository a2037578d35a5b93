-- The front of a definition.
use Rattle.std.proofs.Common.{◌≡◌, List, [], ◌∷◌, ◌++◌, map, true, ◌&&◌, Option, Some, None, refl, sym, ap, subst, ◌∙◌}
use Rattle.std.proofs.lemmas.Bool.{and_parts}
use Rattle.std.proofs.lemmas.Option.{same_Some, none-some}
use Rattle.form_base.specs.declared.spot.Spot.{Spot}
use Rattle.form_ast.specs.declared.expr.Spelled.{Spelled}
use Rattle.form_ast.specs.declared.expr.Piece.{Piece}
use Rattle.form_ast.specs.declared.statement.Statement.{Statement}
use Rattle.form_ast.specs.declared.statement.Statement.TheVariants as statements
use Rattle.form_lexer.specs.declared.mark.Mark.{Mark}
use Rattle.form_lexer.specs.declared.mark.Mark.TheVariants as by_mark
use Rattle.form_lexer.specs.declared.token.Token.{Token}
use Rattle.form_lexer.specs.declared.token.TokenKind.{TokenKind}
use Rattle.form_lexer.specs.declared.token.TokenKind.TheVariants as by_kind
use Rattle.form_grammar.specs.Grammar.{IsExpr}
use Rattle.form_grammar.specs.Terminal.{terminal_of, kind_terminal, mark_terminal}
use Rattle.form_grammar.specs.declared.terminal.Terminal.{Terminal}
use Rattle.form_grammar.specs.declared.terminal.Terminal.TheVariants.{Name, Equals}
use Rattle.form_stmts.specs.declared.keyword.Keyword.{Keyword}
use Rattle.form_stmts.specs.declared.keyword.Keyword.TheVariants as by_keyword
use Rattle.form_stmts.specs.Begun.{is_local, is_local_kind, is_name_kind, is_equals_mark, is_equals_kind, is_front}
use Rattle.form_stmts.specs.Keyword.{keyword_of}
use Rattle.form_stmts.specs.Reading.{front_name}
use Rattle.form_ast.specs.declared.statement.Placed.{Placed}
use Rattle.form_blocks.specs.Blocks.{Read}
use Rattle.form_stmts.specs.Statement.{AreRead, BeginsAt, BehindLine, FollowsKeyword, IsDefinition, IsStatement, ReadsSo}
use Rattle.form_stmts.proofs.Excluded.{right_side}

local_from : (o : Option Keyword) → is_local o ≡ true → o ≡ Some by_keyword.Local
local_from None e = cc
local_from (Some by_keyword.Local) e = refl
local_from (Some _) e = cc

local_is : (kind : TokenKind) (spot : Spot) → is_local_kind kind ≡ true → (name : Spelled) × (kind_terminal kind spot ≡ Name name) × (keyword_of name.name ≡ Some by_keyword.Local)
local_is (by_kind.Number value) spot e = cc
local_is (by_kind.Name name) spot e = (record { name = name; spot = spot }, refl, local_from (keyword_of name) e)
local_is (by_kind.BuiltIn built_in) spot e = cc
local_is (by_kind.Mark mark) spot e = cc
local_is by_kind.Stray spot e = cc

name_is : (kind : TokenKind) (spot : Spot) → is_name_kind kind ≡ true → (name : Spelled) × (kind_terminal kind spot ≡ Name name)
name_is (by_kind.Number value) spot e = cc
name_is (by_kind.Name name) spot e = (record { name = name; spot = spot }, refl)
name_is (by_kind.BuiltIn built_in) spot e = cc
name_is (by_kind.Mark mark) spot e = cc
name_is by_kind.Stray spot e = cc

equals_mark : (mark : Mark) → is_equals_mark mark ≡ true → mark_terminal mark ≡ Equals
equals_mark by_mark.And e = cc
equals_mark by_mark.Or e = cc
equals_mark by_mark.EqualTo e = cc
equals_mark by_mark.NotEqualTo e = cc
equals_mark by_mark.AtMost e = cc
equals_mark by_mark.AtLeast e = cc
equals_mark by_mark.Minus e = cc
equals_mark by_mark.Plus e = cc
equals_mark by_mark.Times e = cc
equals_mark by_mark.Over e = cc
equals_mark by_mark.Power e = cc
equals_mark by_mark.Open e = cc
equals_mark by_mark.Close e = cc
equals_mark by_mark.OpenBrace e = cc
equals_mark by_mark.CloseBrace e = cc
equals_mark by_mark.Comma e = cc
equals_mark by_mark.Semicolon e = cc
equals_mark by_mark.Colon e = cc
equals_mark by_mark.Equals e = refl
equals_mark by_mark.Period e = cc
equals_mark by_mark.Question e = cc
equals_mark by_mark.Less e = cc
equals_mark by_mark.Greater e = cc

equals_is : (kind : TokenKind) (spot : Spot) → is_equals_kind kind ≡ true → kind_terminal kind spot ≡ Equals
equals_is (by_kind.Number value) spot e = cc
equals_is (by_kind.Name name) spot e = cc
equals_is (by_kind.BuiltIn built_in) spot e = cc
equals_is (by_kind.Mark mark) spot e = equals_mark mark e
equals_is by_kind.Stray spot e = cc

-- the front, as the grammar sees it
pub record Front (tokens : List Token) : Type 0 where
  pub keyword : Spelled
  pub name : Spelled
  pub written : map terminal_of tokens ≡ Name keyword ∷ Name name ∷ Equals ∷ []
  pub spelled : keyword_of keyword.name ≡ Some by_keyword.Local

pub front_from : (tokens : List Token) → is_front tokens ≡ true → Front tokens
front_from [] e = cc
front_from (a ∷ []) e = cc
front_from (a ∷ b ∷ []) e = cc
front_from (a ∷ b ∷ d ∷ f ∷ ts) e = cc
front_from (a ∷ b ∷ d ∷ []) e =
    let p = and_parts (is_local_kind a.kind) (is_name_kind b.kind && is_equals_kind d.kind) e in
    let q = and_parts (is_name_kind b.kind) (is_equals_kind d.kind) p.1 in
    let keyword = local_is a.kind a.spot p.0 in
    let name = name_is b.kind b.spot q.0 in
    let equals = equals_is d.kind d.spot q.1 in
    record {
      keyword = keyword.0;
      name = name.0;
      written = ap (λ (x : Terminal). x ∷ terminal_of b ∷ terminal_of d ∷ []) keyword.1 ∙ ap (λ (x : Terminal). Name keyword.0 ∷ x ∷ terminal_of d ∷ []) name.1 ∙ ap (λ (x : Terminal). Name keyword.0 ∷ Name name.0 ∷ x ∷ []) equals;
      spelled = keyword.2;
    }

-- a definition with this front
module _ (tokens : List Token) (rest : List Terminal) (front : Front tokens) where
  whole : map terminal_of tokens ++ rest ≡ Name front.keyword ∷ Name front.name ∷ Equals ∷ rest
  whole = ap (λ (ts : List Terminal). ts ++ rest) front.written

  pub definition_from : (pieces : List Piece) → IsExpr rest pieces → IsStatement (map terminal_of tokens ++ rest) (statements.Local front.name pieces)
  definition_from pieces h = record {
    first = front.keyword;
    rest = Name front.name ∷ Equals ∷ rest;
    keyword = by_keyword.Local;
    written = whole;
    spelled = front.spelled;
    follows = record { name = front.name; rest = rest; pieces = pieces; written = refl; right_side = h; kept = refl };
  }

  follows_local : (keyword : Keyword) (s : Statement) (ts : List Terminal) → by_keyword.Local ≡ keyword → FollowsKeyword keyword ts s → IsDefinition ts s
  follows_local keyword s ts e h = subst (λ (k : Keyword). FollowsKeyword k ts s) (sym e) h

  pub right_side_of : (s : Statement) → IsStatement (map terminal_of tokens ++ rest) s → (pieces : List Piece) × IsExpr rest pieces
  right_side_of s h =
      let given : Spelled × List Terminal = (front.keyword, Name front.name ∷ Equals ∷ rest) in
      let written : Spelled × List Terminal = (h.first, h.rest) in
      let same : given ≡ written = same_Some given written (ap front_name (sym whole ∙ h.written)) in
      let behind : Name front.name ∷ Equals ∷ rest ≡ h.rest = ap (λ (x : Spelled × List Terminal). x.1) same in
      let first : front.keyword ≡ h.first = ap (λ (x : Spelled × List Terminal). x.0) same in
      let keyword : Some by_keyword.Local ≡ Some h.keyword = sym front.spelled ∙ ap (λ (x : Spelled). keyword_of x.name) first ∙ h.spelled in
      let definition = follows_local h.keyword s h.rest (same_Some by_keyword.Local h.keyword keyword) h.follows in
      right_side h.rest (Equals ∷ rest) rest front.name (ap front_name (sym behind)) refl s definition

-- a second name stands behind the first
pub second_name : (tokens : List Token) (front : Front tokens) (k : Spelled) (after : List Terminal) → front_name (map terminal_of tokens) ≡ Some (k, after) → front_name after ≡ None → ⊥
second_name tokens front k after e f =
    let given : Spelled × List Terminal = (front.keyword, Name front.name ∷ Equals ∷ []) in
    let got : Spelled × List Terminal = (k, after) in
    let same : given ≡ got = same_Some given got (ap front_name (sym front.written) ∙ e) in
    let behind : Name front.name ∷ Equals ∷ [] ≡ after = ap (λ (x : Spelled × List Terminal). x.1) same in
    none-some (front.name, Equals ∷ []) (sym f ∙ ap front_name (sym behind))

-- ---- a definition as it is read

module _ (tokens : List Token) (rest : List Terminal) (front : Front tokens) where
  -- it is read so
  pub definition_read : (spot : Spot) (k : Spelled) (after : List Terminal) (name : Spelled) (others : List Terminal) (pieces : List Piece) → front_name (map terminal_of tokens) ≡ Some (k, after) → spot ≡ k.spot → front_name after ≡ Some (name, others) → IsExpr rest pieces
      → ReadsSo (map terminal_of tokens ++ rest) (record { lines = []; last = record { spot = spot; statement = statements.Local name pieces } })
  definition_read spot k after name others pieces e s f h =
      let given : Spelled × List Terminal = (front.keyword, Name front.name ∷ Equals ∷ []) in
      let got : Spelled × List Terminal = (k, after) in
      let same : given ≡ got = same_Some given got (ap front_name (sym front.written) ∙ e) in
      let behind : Name front.name ∷ Equals ∷ [] ≡ after = ap (λ (x : Spelled × List Terminal). x.1) same in
      let second : Spelled × List Terminal = (front.name, Equals ∷ []) in
      let there : Spelled × List Terminal = (name, others) in
      let names : second ≡ there = same_Some second there (ap front_name behind ∙ f) in
      let is : IsStatement (map terminal_of tokens ++ rest) (statements.Local name pieces) = subst (λ (n : Spelled). IsStatement (map terminal_of tokens ++ rest) (statements.Local n pieces)) (ap (λ (x : Spelled × List Terminal). x.0) names) (definition_from tokens rest front pieces h) in
      let at : spot ≡ front.keyword.spot = s ∙ ap (λ (x : Spelled × List Terminal). x.0.spot) (sym same) in
      (is, subst (BeginsAt spot) (sym (whole tokens rest front)) at)

  -- and in no other way
  pub right_side_read : (r : Read) → ReadsSo (map terminal_of tokens ++ rest) r → (pieces : List Piece) × IsExpr rest pieces
  right_side_read r h = by_lines r.lines r.last h where
    by_lines : (lines : List Placed) (last : Placed) → AreRead lines last (map terminal_of tokens ++ rest) → (pieces : List Piece) × IsExpr rest pieces
    by_lines [] last k = right_side_of tokens rest front last.statement k.0
    by_lines (o ∷ os) last k =
        let given : Spelled × List Terminal = (front.keyword, Name front.name ∷ Equals ∷ rest) in
        let written : Spelled × List Terminal = (k.1.first, k.1.behind) in
        let same : given ≡ written = same_Some given written (ap front_name (sym (whole tokens rest front) ∙ k.1.written)) in
        let keyword : keyword_of k.1.first.name ≡ Some by_keyword.Local = ap (λ (x : Spelled × List Terminal). keyword_of x.0.name) (sym same) ∙ front.spelled in
        absurd (subst (λ (w : Option Keyword). BehindLine w o.statement k.1.behind k.0) keyword k.1.behind_it)
