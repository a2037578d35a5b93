-- Lines are a program in one way, or refused at one spot, and one of the two.
use Rattle.std.proofs.Common.{◌≡◌, inl, inr, ℕ, Bool, true, false, List, [], ◌∷◌, ◌++◌, map, Option, Some, None, refl, sym, ap, subst, ◌∙◌}
use Rattle.std.specs.Prelude.{MatchBool}
use Rattle.std.proofs.lemmas.Option.{same_Some, none-some}
use Rattle.form_base.specs.declared.spot.Spot.{Spot}
use Rattle.form_stmts.specs.Line.{PlacedLine}
use Rattle.form_lexer.specs.declared.token.Token.{Token}
use Rattle.form_lexer.specs.Tokens.{AreTokens}
use Rattle.form_ast.specs.declared.expr.Spelled.{Spelled}
use Rattle.form_ast.specs.declared.expr.Piece.{Piece}
use Rattle.form_ast.specs.declared.statement.Statement.{Statement}
use Rattle.form_ast.specs.declared.statement.Statement.TheVariants as statements
use Rattle.form_ast.specs.declared.statement.WrittenElements.{WrittenElements}
use Rattle.form_grammar.specs.Grammar.{IsExpr}
use Rattle.form_grammar.specs.declared.terminal.Terminal.{Terminal}
use Rattle.form_grammar.specs.declared.terminal.Terminal.TheVariants as by_terminal
use Rattle.form_stmts.specs.declared.keyword.Keyword as keywords
use Rattle.form_stmts.specs.declared.keyword.Keyword.TheVariants.{Names, Indices, Switch, Set, Drop, Skip, Local, Id, Also, Multiply, Discard, Repeat, EndRepeat, Else, EndIf, EndArgument, Print}
use Rattle.form_stmts.specs.declared.keyword.Keyword.TheVariants as keyword
use Rattle.form_conditions.specs.Grammar.{IsConditionText}
use Rattle.form_stmts.specs.Instruction.{begins_with_period}
use Rattle.form_stmts.specs.Keyword.{keyword_of}
use Rattle.form_stmts.specs.Reading.{front_name, after_equals, after_colon}
use Rattle.form_stmts.specs.Statement.{AreNames, AreNamesOrNone, AreIndices, IsDimension, AreElements, ArePicked, IsAlone, IsDefinition, IsSet, FollowsKeyword, IsStatement, behind_side, or_right, side_at}
use Rattle.form_stmts.specs.Program.{Lexed, token, period, IsLexed, AreLexed}
use Rattle.form_stmts.proofs.Listed.{one_list, one_list_or_none, names_or_not, names_or_none_or_not}
use Rattle.form_stmts.proofs.Excluded.{right_side, elements_behind}
use Rattle.form_stmts.proofs.Declared.{one_indices, one_dimension, indices_or_not, dimension_or_not, switch_or_not}
use Rattle.form_stmts.proofs.Either.{IsOrNot, IsOne}
use Rattle.form_stmts.proofs.Members.{one_elements, elements_or_not}
use Rattle.form_stmts.proofs.Pickings.{one_choice, picked_or_not}
use Rattle.form_stmts.proofs.Rewritten.{one_rewrite, rewrite_or_not}
use Rattle.form_stmts.proofs.Summed.{one_sum, sum_or_not}
use Rattle.form_stmts.proofs.Trees.{GrammarLaws, TreeLaws}

front_name_is : (terminals : List Terminal) (x : Spelled × List Terminal) → front_name terminals ≡ Some x → terminals ≡ by_terminal.Name x.0 ∷ x.1
front_name_is [] x e = absurd cc
front_name_is (by_terminal.Name n ∷ rest) x e = let made : Spelled × List Terminal = (n, rest) in ap (λ (y : Spelled × List Terminal). by_terminal.Name y.0 ∷ y.1) (same_Some made x e)
front_name_is (_ ∷ rest) x e = absurd cc

after_equals_is : (terminals rest : List Terminal) → after_equals terminals ≡ Some rest → terminals ≡ by_terminal.Equals ∷ rest
after_equals_is [] rest e = absurd cc
after_equals_is (by_terminal.Equals ∷ others) rest e = ap (λ (r : List Terminal). by_terminal.Equals ∷ r) (same_Some others rest e)
after_equals_is (_ ∷ others) rest e = absurd cc

after_colon_is : (terminals rest : List Terminal) → after_colon terminals ≡ Some rest → terminals ≡ by_terminal.Colon ∷ rest
after_colon_is [] rest e = absurd cc
after_colon_is (by_terminal.Colon ∷ others) rest e = ap (λ (r : List Terminal). by_terminal.Colon ∷ r) (same_Some others rest e)
after_colon_is (_ ∷ others) rest e = absurd cc

behind_name : (terminals rest : List Terminal) (name other : Spelled) (others : List Terminal) → front_name terminals ≡ Some (name, rest) → terminals ≡ by_terminal.Name other ∷ others → rest ≡ others
behind_name terminals rest name other others e f =
    let here : Spelled × List Terminal = (name, rest) in
    let there : Spelled × List Terminal = (other, others) in
    ap (λ (x : Spelled × List Terminal). x.1) (same_Some here there (sym e ∙ ap front_name f))

mapped : {X Y : Type 0} (P : X → Type 0) (Q : Y → Type 0) → ((x : X) × P x → (y : Y) × Q y) → ((y : Y) → Q y → (x : X) × P x) → IsOrNot P → IsOrNot Q
mapped P Q f g (inl p) = inl (f p)
mapped P Q f g (inr none) = inr (λ y q. let p = g y q in none p.0 p.1)

one_set : (terminals : List Terminal) → IsOne (IsSet terminals)
one_set terminals s t h k =
    let here : Spelled × List Terminal = (h.name, by_terminal.Colon ∷ h.rest) in
    let there : Spelled × List Terminal = (k.name, by_terminal.Colon ∷ k.rest) in
    let same : here ≡ there = same_Some here there (ap front_name (sym h.written ∙ k.written)) in
    let names : h.name ≡ k.name = ap (λ (x : Spelled × List Terminal). x.0) same in
    let rests : h.rest ≡ k.rest = same_Some h.rest k.rest (ap (λ (x : Spelled × List Terminal). after_colon x.1) same) in
    let elements : h.elements ≡ k.elements = one_elements k.rest h.elements k.elements (subst (λ (r : List Terminal). AreElements r h.elements) rests h.are_elements) k.are_elements in
    h.kept ∙ ap (λ (n : Spelled). statements.Set n h.elements) names ∙ ap (λ (e : WrittenElements). statements.Set k.name e) elements ∙ sym k.kept

set_or_not : (terminals : List Terminal) → IsOrNot (IsSet terminals)
set_or_not terminals = by_name (front_name terminals) refl where
  by_elements : (name : Spelled) (rest others : List Terminal) → front_name terminals ≡ Some (name, rest) → after_colon rest ≡ Some others → IsOrNot (AreElements others) → IsOrNot (IsSet terminals)
  by_elements name rest others e f (inl p) = inl (
    statements.Set name p.0,
    record {
      name = name;
      rest = others;
      elements = p.0;
      written = front_name_is terminals (name, rest) e ∙ ap (λ (r : List Terminal). by_terminal.Name name ∷ r) (after_colon_is rest others f);
      are_elements = p.1;
      kept = refl;
    },
  )
  by_elements name rest others e f (inr none) = inr (λ s h. let p = elements_behind terminals rest others name e f s h in none p.0 p.1)

  by_colon : (name : Spelled) (rest : List Terminal) → front_name terminals ≡ Some (name, rest) → (o : Option (List Terminal)) → after_colon rest ≡ o → IsOrNot (IsSet terminals)
  by_colon name rest e None f = inr (λ s h. none-some h.rest (sym f ∙ ap after_colon (behind_name terminals rest name (h.name) (by_terminal.Colon ∷ h.rest) e h.written)))
  by_colon name rest e (Some others) f = by_elements name rest others e f (elements_or_not others)

  by_name : (o : Option (Spelled × List Terminal)) → front_name terminals ≡ o → IsOrNot (IsSet terminals)
  by_name None e = inr (λ s h. none-some (h.name, by_terminal.Colon ∷ h.rest) (sym e ∙ ap front_name h.written))
  by_name (Some x) e = by_colon x.0 x.1 e (after_colon x.1) refl

alone_or_not : (s : Statement) (terminals : List Terminal) → IsOrNot (IsAlone s terminals)
alone_or_not s [] = inl (s, (refl, refl))
alone_or_not s (t ∷ ts) = inr (λ x h. let w = h.0 in cc)

module _ (grammar : GrammarLaws) where
  laws : TreeLaws
  laws = grammar.trees

  one_definition : (terminals : List Terminal) → IsOne (IsDefinition terminals)
  one_definition terminals s t h k =
      let here : Spelled × List Terminal = (h.name, by_terminal.Equals ∷ h.rest) in
      let there : Spelled × List Terminal = (k.name, by_terminal.Equals ∷ k.rest) in
      let same : here ≡ there = same_Some here there (ap front_name (sym h.written ∙ k.written)) in
      let names : h.name ≡ k.name = ap (λ (x : Spelled × List Terminal). x.0) same in
      let rests : h.rest ≡ k.rest = same_Some h.rest k.rest (ap (λ (x : Spelled × List Terminal). after_equals x.1) same) in
      let pieces : h.pieces ≡ k.pieces = laws.one_expr k.rest h.pieces k.pieces (subst (λ (r : List Terminal). IsExpr r h.pieces) rests h.right_side) k.right_side in
      h.kept ∙ ap (λ (n : Spelled). statements.Local n h.pieces) names ∙ ap (λ (p : List Piece). statements.Local k.name p) pieces ∙ sym k.kept

  one_behind : (keyword : keywords.Keyword) (terminals : List Terminal) → IsOne (FollowsKeyword keyword terminals)
  one_behind (Names declared) terminals s t h k = h.2 ∙ ap (statements.Names declared) (one_list terminals h.0 k.0 h.1 k.1) ∙ sym k.2
  one_behind Indices terminals s t h k = h.2 ∙ ap statements.Indices (one_indices terminals h.0 k.0 h.1 k.1) ∙ sym k.2
  one_behind keyword.Dimension terminals s t h k = h.2 ∙ ap statements.Dimension (one_dimension terminals h.0 k.0 h.1 k.1) ∙ sym k.2
  one_behind Switch terminals s t h k = h.kept ∙ sym k.kept
  one_behind Set terminals s t h k = one_set terminals s t h k
  one_behind Drop terminals s t h k = h.2 ∙ ap statements.Drop (one_list_or_none terminals h.0 k.0 h.1 k.1) ∙ sym k.2
  one_behind Skip terminals s t h k = h.2 ∙ ap statements.Skip (one_list_or_none terminals h.0 k.0 h.1 k.1) ∙ sym k.2
  one_behind Local terminals s t h k = one_definition terminals s t h k
  one_behind Id terminals s t h k = one_rewrite false terminals laws s t h k
  one_behind Also terminals s t h k = one_rewrite true terminals laws s t h k
  one_behind Multiply terminals s t h k = h.kept ∙ ap (statements.Multiply (or_right (side_at terminals))) (laws.one_expr (behind_side (side_at terminals) terminals) h.pieces k.pieces h.right_side k.right_side) ∙ sym k.kept
  one_behind keyword.Sum terminals s t h k = one_sum terminals s t h k
  one_behind Discard terminals s t h k = h.1 ∙ sym k.1
  one_behind Repeat terminals s t h k = h.1 ∙ sym k.1
  one_behind EndRepeat terminals s t h k = h.1 ∙ sym k.1
  one_behind keyword.If terminals s t h k = h.2 ∙ ap statements.If (grammar.conditions.one terminals h.0 k.0 h.1 k.1) ∙ sym k.2
  one_behind keyword.ElseIf terminals s t h k = h.2 ∙ ap statements.ElseIf (grammar.conditions.one terminals h.0 k.0 h.1 k.1) ∙ sym k.2
  one_behind Else terminals s t h k = h.1 ∙ sym k.1
  one_behind EndIf terminals s t h k = h.1 ∙ sym k.1
  one_behind keyword.Argument terminals s t h k = h.2 ∙ ap statements.Argument (one_choice terminals h.0 k.0 h.1 k.1) ∙ sym k.2
  one_behind EndArgument terminals s t h k = h.1 ∙ sym k.1
  one_behind Print terminals s t h k = h.2 ∙ ap statements.Print (one_list_or_none terminals h.0 k.0 h.1 k.1) ∙ sym k.2

  pub one_statement : (terminals : List Terminal) → IsOne (IsStatement terminals)
  one_statement terminals s t h k =
      let here : Spelled × List Terminal = (h.first, h.rest) in
      let there : Spelled × List Terminal = (k.first, k.rest) in
      let same : here ≡ there = same_Some here there (ap front_name (sym h.written ∙ k.written)) in
      let rests : h.rest ≡ k.rest = ap (λ (x : Spelled × List Terminal). x.1) same in
      let keyword : h.keyword ≡ k.keyword = same_Some h.keyword k.keyword (sym h.spelled ∙ ap (λ (x : Spelled × List Terminal). keyword_of x.0.name) same ∙ k.spelled) in
      one_behind k.keyword k.rest s t (subst (λ (r : List Terminal). FollowsKeyword k.keyword r s) rests (subst (λ (w : keywords.Keyword). FollowsKeyword w h.rest s) keyword h.follows)) k.follows

  definition_or_not : (terminals : List Terminal) → IsOrNot (IsDefinition terminals)
  definition_or_not terminals = by_name (front_name terminals) refl where
    by_expr : (name : Spelled) (rest others : List Terminal) → front_name terminals ≡ Some (name, rest) → after_equals rest ≡ Some others → IsOrNot (IsExpr others) → IsOrNot (IsDefinition terminals)
    by_expr name rest others e f (inl p) = inl (
      statements.Local name p.0,
      record {
        name = name;
        rest = others;
        pieces = p.0;
        written = front_name_is terminals (name, rest) e ∙ ap (λ (r : List Terminal). by_terminal.Name name ∷ r) (after_equals_is rest others f);
        right_side = p.1;
        kept = refl;
      },
    )
    by_expr name rest others e f (inr none) = inr (λ s h. let p = right_side terminals rest others name e f s h in none p.0 p.1)

    by_equals : (name : Spelled) (rest : List Terminal) → front_name terminals ≡ Some (name, rest) → (o : Option (List Terminal)) → after_equals rest ≡ o → IsOrNot (IsDefinition terminals)
    by_equals name rest e None f = inr (λ s h. none-some h.rest (sym f ∙ ap after_equals (behind_name terminals rest name (h.name) (by_terminal.Equals ∷ h.rest) e h.written)))
    by_equals name rest e (Some others) f = by_expr name rest others e f (laws.expr_or_not others)

    by_name : (o : Option (Spelled × List Terminal)) → front_name terminals ≡ o → IsOrNot (IsDefinition terminals)
    by_name None e = inr (λ s h. none-some (h.name, by_terminal.Equals ∷ h.rest) (sym e ∙ ap front_name h.written))
    by_name (Some x) e = by_equals x.0 x.1 e (after_equals x.1) refl

  behind_or_not : (keyword : keywords.Keyword) (terminals : List Terminal) → IsOrNot (FollowsKeyword keyword terminals)
  behind_or_not (Names declared) terminals = mapped (AreNames terminals) (FollowsKeyword (Names declared) terminals) (λ p. (statements.Names declared p.0, (p.0, p.1, refl))) (λ s h. (h.0, h.1)) (names_or_not terminals)
  behind_or_not Indices terminals = mapped (AreIndices terminals) (FollowsKeyword Indices terminals) (λ p. (statements.Indices p.0, (p.0, p.1, refl))) (λ s h. (h.0, h.1)) (indices_or_not terminals)
  behind_or_not keyword.Dimension terminals = mapped (IsDimension terminals) (FollowsKeyword keyword.Dimension terminals) (λ p. (statements.Dimension p.0, (p.0, p.1, refl))) (λ s h. (h.0, h.1)) (dimension_or_not terminals)
  behind_or_not Switch terminals = switch_or_not terminals
  behind_or_not Set terminals = set_or_not terminals
  behind_or_not Drop terminals = mapped (AreNamesOrNone terminals) (FollowsKeyword Drop terminals) (λ p. (statements.Drop p.0, (p.0, p.1, refl))) (λ s h. (h.0, h.1)) (names_or_none_or_not terminals)
  behind_or_not Skip terminals = mapped (AreNamesOrNone terminals) (FollowsKeyword Skip terminals) (λ p. (statements.Skip p.0, (p.0, p.1, refl))) (λ s h. (h.0, h.1)) (names_or_none_or_not terminals)
  behind_or_not Local terminals = definition_or_not terminals
  behind_or_not Id terminals = rewrite_or_not false terminals laws
  behind_or_not Also terminals = rewrite_or_not true terminals laws
  behind_or_not Multiply terminals = mapped (IsExpr (behind_side (side_at terminals) terminals)) (FollowsKeyword Multiply terminals) (λ p. (statements.Multiply (or_right (side_at terminals)) p.0, record { pieces = p.0; right_side = p.1; kept = refl })) (λ s h. (h.pieces, h.right_side)) (laws.expr_or_not (behind_side (side_at terminals) terminals))
  behind_or_not keyword.Sum terminals = sum_or_not terminals
  behind_or_not Discard terminals = alone_or_not statements.Discard terminals
  behind_or_not Repeat terminals = alone_or_not statements.Repeat terminals
  behind_or_not EndRepeat terminals = alone_or_not statements.EndRepeat terminals
  behind_or_not keyword.If terminals = mapped (IsConditionText terminals) (FollowsKeyword keyword.If terminals) (λ p. (statements.If p.0, (p.0, p.1, refl))) (λ s h. (h.0, h.1)) (grammar.conditions.some_or_none terminals)
  behind_or_not keyword.ElseIf terminals = mapped (IsConditionText terminals) (FollowsKeyword keyword.ElseIf terminals) (λ p. (statements.ElseIf p.0, (p.0, p.1, refl))) (λ s h. (h.0, h.1)) (grammar.conditions.some_or_none terminals)
  behind_or_not Else terminals = alone_or_not statements.Else terminals
  behind_or_not EndIf terminals = alone_or_not statements.EndIf terminals
  behind_or_not keyword.Argument terminals = mapped (ArePicked terminals) (FollowsKeyword keyword.Argument terminals) (λ p. (statements.Argument p.0, (p.0, p.1, refl))) (λ s h. (h.0, h.1)) (picked_or_not terminals)
  behind_or_not EndArgument terminals = alone_or_not statements.EndArgument terminals
  behind_or_not Print terminals = mapped (AreNamesOrNone terminals) (FollowsKeyword Print terminals) (λ p. (statements.Print p.0, (p.0, p.1, refl))) (λ s h. (h.0, h.1)) (names_or_none_or_not terminals)

  pub statement_or_not : (terminals : List Terminal) → IsOrNot (IsStatement terminals)
  statement_or_not terminals = by_name (front_name terminals) refl where
    by_behind : (first : Spelled) (rest : List Terminal) (keyword : keywords.Keyword) → front_name terminals ≡ Some (first, rest) → keyword_of first.name ≡ Some keyword → IsOrNot (FollowsKeyword keyword rest) → IsOrNot (IsStatement terminals)
    by_behind first rest keyword e f (inl p) = inl (p.0, record { first = first; rest = rest; keyword = keyword; written = front_name_is terminals (first, rest) e; spelled = f; follows = p.1 })
    by_behind first rest keyword e f (inr none) = inr (λ s h.
        let here : Spelled × List Terminal = (first, rest) in
        let there : Spelled × List Terminal = (h.first, h.rest) in
        let same : here ≡ there = same_Some here there (sym e ∙ ap front_name h.written) in
        let rests : rest ≡ h.rest = ap (λ (x : Spelled × List Terminal). x.1) same in
        let one : keyword ≡ h.keyword = same_Some keyword h.keyword (sym f ∙ ap (λ (x : Spelled × List Terminal). keyword_of x.0.name) same ∙ h.spelled) in
        none s (subst (λ (r : List Terminal). FollowsKeyword keyword r s) (sym rests) (subst (λ (w : keywords.Keyword). FollowsKeyword w h.rest s) (sym one) h.follows)))

    by_keyword : (first : Spelled) (rest : List Terminal) → front_name terminals ≡ Some (first, rest) → (o : Option keywords.Keyword) → keyword_of first.name ≡ o → IsOrNot (IsStatement terminals)
    by_keyword first rest e None f = inr (λ s h.
        let here : Spelled × List Terminal = (first, rest) in
        let there : Spelled × List Terminal = (h.first, h.rest) in
        let same : here ≡ there = same_Some here there (sym e ∙ ap front_name h.written) in
        none-some h.keyword (sym f ∙ ap (λ (x : Spelled × List Terminal). keyword_of x.0.name) same ∙ h.spelled))
    by_keyword first rest e (Some keyword) f = by_behind first rest keyword e f (behind_or_not keyword rest)

    by_name : (o : Option (Spelled × List Terminal)) → front_name terminals ≡ o → IsOrNot (IsStatement terminals)
    by_name None e = inr (λ s h. none-some (h.first, h.rest) (sym e ∙ ap front_name h.written))
    by_name (Some x) e = by_keyword x.0 x.1 e (keyword_of x.0.name) refl

-- the items, one after another
-- lines have one thing
module _ (one_list_of_tokens : (spot : Spot) (text : List ℕ) (tokens others : List Token) → AreTokens spot text tokens → AreTokens spot text others → tokens ≡ others) where
  one_lexed : (line : PlacedLine) → IsOne (IsLexed line)
  one_lexed line x y h k = by_test (begins_with_period line.text) h k where
    by_test : (b : Bool) → MatchBool b (x ≡ period line ∷ []) ((tokens : List Token) × AreTokens line.spot line.text tokens × (x ≡ map token tokens))
        → MatchBool b (y ≡ period line ∷ []) ((tokens : List Token) × AreTokens line.spot line.text tokens × (y ≡ map token tokens)) → x ≡ y
    by_test true h k = h ∙ sym k
    by_test false h k = h.2 ∙ ap (λ (tokens : List Token). map token tokens) (one_list_of_tokens line.spot line.text h.0 k.0 h.1 k.1) ∙ sym k.2

  pub all_lexed : (lines : List PlacedLine) → IsOne (AreLexed lines)
  all_lexed [] x y h k = h ∙ sym k
  all_lexed (line ∷ lines) x y h k =
      h.4 ∙ ap (λ (here : List Lexed). here ++ h.2) (one_lexed line h.0 k.0 h.1 k.1) ∙ ap (λ (rest : List Lexed). k.0 ++ rest) (all_lexed lines h.2 k.2 h.3 k.3) ∙ sym k.4
