-- What is read has lawful right sides.
use Rattle.std.proofs.Common.{◌≡◌, Bool, true, false, List, [], ◌∷◌, map, Option, Some, None, sym, ap, subst}
use Rattle.std.specs.Prelude.{All, MatchBool, option_map}
use Rattle.std.proofs.lemmas.List.Elements.{All-nil, All-cons, All-map}
use Rattle.std.proofs.lemmas.Option.{same_Some}
use Rattle.form_base.specs.declared.spot.Spot.{Spot}
use Rattle.form_number.specs.declared.number.Number.{Number}
use Rattle.form_ast.specs.Conditions.{Condition}
use Rattle.form_ast.specs.declared.expr.Spelled.{Spelled}
use Rattle.form_ast.specs.declared.statement.Statement.{Statement}
use Rattle.form_ast.specs.declared.statement.Statement.TheVariants as statements
use Rattle.form_ast.specs.declared.statement.WrittenElements.{WrittenElements}
use Rattle.form_ast.specs.declared.statement.WrittenElements.TheVariants as written_as
use Rattle.form_ast.specs.declared.module.PlacedPart.{PlacedPart}
use Rattle.form_ast.specs.declared.statement.Placed.{Placed}
use Rattle.form_ast.specs.Lawful.{IsLawfulCondition, IsLawfulModule, IsLawfulStatement, AreLawfulModules}
use Rattle.form_ast.specs.Written.{statement_of}
use Rattle.form_blocks.specs.Blocks.{Read, Unfinished, and_read, end_of, end_placed, fault_at_end, new_module, role_of}
use Rattle.form_blocks.specs.Growing.{parts_grown}
use Rattle.form_blocks.specs.declared.open.BlockKind.{BlockKind}
use Rattle.form_blocks.specs.declared.open.BlockKind.TheVariants as kinds
use Rattle.form_blocks.specs.declared.open.Open.{Open}
use Rattle.form_blocks.proofs.Keeping.{read_kept}
use Rattle.form_blocks.specs.Nesting.{IsOpening}
use Rattle.form_blocks.proofs.Sound.{StaysSound, end_sound_all, new_sound, none_sound, read_sound}
use Rattle.form_blocks.proofs.WrittenTrees.{tree_written}
use Rattle.form_conditions.specs.Grammar.{IsConditionText}
use Rattle.form_conditions.proofs.Lawfulness.{lawful}
use Rattle.form_grammar.specs.Terminal.{terminal_of}
use Rattle.form_grammar.specs.declared.terminal.Terminal.{Terminal}
use Rattle.form_grammar.specs.declared.terminal.Terminal.TheVariants.{Comma}
use Rattle.form_lexer.specs.declared.token.Token.{Token}
use Rattle.form_stmts.specs.declared.keyword.Keyword as keywords
use Rattle.form_stmts.specs.declared.keyword.Keyword.TheVariants.{Names, Indices, Switch, Set, Drop, Skip, Local, Id, Also, Multiply, Discard, Repeat, EndRepeat, Else, EndIf, EndArgument, Print}
use Rattle.form_stmts.specs.declared.keyword.Keyword.TheVariants as keyword
use Rattle.form_stmts.specs.Keyword.{keyword_of}
use Rattle.form_stmts.specs.Statement.{AreRead, BehindLine, IsRewrite, IsSumBehind, FollowsKeyword, IsStatement, numbers_from, sum_of}
use Rattle.form_stmts.specs.Program.{Item, statement, unfinished, instruction, IsRead, GoesOn, ends_module, AreModules}

lawful_rewrite : (is_also : Bool) (terminals : List Terminal) (s : Statement) → IsRewrite is_also terminals s → IsLawfulStatement s
lawful_rewrite is_also terminals s h = subst IsLawfulStatement (sym h.kept) (
  record { tree = h.is_pattern.tree; lawful = h.is_pattern.lawful; is_pattern = h.is_pattern.pattern; pieces = h.is_pattern.kept },
  record { tree = h.is_right.tree; lawful = h.is_right.lawful; known = h.is_right.known; pieces = h.is_right.kept },
)

lawful_condition : (terminals : List Terminal) (c : Condition) → IsConditionText terminals c → IsLawfulCondition c
lawful_condition terminals c h = lawful terminals c h

lawful_sum_of : (name : Spelled) (e : WrittenElements) (s : Statement) → sum_of name e ≡ Some s → IsLawfulStatement s
lawful_sum_of name (written_as.Names ns) s e = subst IsLawfulStatement (same_Some (statements.Sum (name ∷ ns)) s e) tt
lawful_sum_of name (written_as.Numbers ns) s e = by_numbers (numbers_from [] ns) e where
  by_numbers : (o : Option (List Number)) → option_map (λ wholes. statements.SumOver name wholes) o ≡ Some s → IsLawfulStatement s
  by_numbers None f = absurd cc
  by_numbers (Some wholes) f = subst IsLawfulStatement (same_Some (statements.SumOver name wholes) s f) tt

lawful_sum : (name : Spelled) (rest : List Terminal) (s : Statement) → IsSumBehind name rest s → IsLawfulStatement s
lawful_sum name [] s h = subst IsLawfulStatement (sym h) tt
lawful_sum name (Comma ∷ rest) s h = lawful_sum_of name h.0 s h.2
lawful_sum name (_ ∷ rest) s h = absurd h

lawful_behind : (keyword : keywords.Keyword) (terminals : List Terminal) (s : Statement) → FollowsKeyword keyword terminals s → IsLawfulStatement s
lawful_behind (Names declared) terminals s h = subst IsLawfulStatement (sym h.2) tt
lawful_behind Indices terminals s h = subst IsLawfulStatement (sym h.2) tt
lawful_behind keyword.Dimension terminals s h = subst IsLawfulStatement (sym h.2) tt
lawful_behind Switch terminals s h = subst IsLawfulStatement (sym h.kept) tt
lawful_behind Set terminals s h = subst IsLawfulStatement (sym h.kept) tt
lawful_behind Drop terminals s h = subst IsLawfulStatement (sym h.2) tt
lawful_behind Skip terminals s h = subst IsLawfulStatement (sym h.2) tt
lawful_behind Local terminals s h = subst IsLawfulStatement (sym h.kept) (record { tree = h.right_side.tree; lawful = h.right_side.lawful; pieces = h.right_side.kept })
lawful_behind Id terminals s h = lawful_rewrite false terminals s h
lawful_behind Also terminals s h = lawful_rewrite true terminals s h
lawful_behind Multiply terminals s h = subst IsLawfulStatement (sym h.kept) (record { tree = h.right_side.tree; lawful = h.right_side.lawful; pieces = h.right_side.kept })
lawful_behind keyword.Sum terminals s h = lawful_sum h.name h.rest s h.behind
lawful_behind Discard terminals s h = subst IsLawfulStatement (sym h.1) tt
lawful_behind Repeat terminals s h = subst IsLawfulStatement (sym h.1) tt
lawful_behind EndRepeat terminals s h = subst IsLawfulStatement (sym h.1) tt
lawful_behind keyword.If terminals s h = subst IsLawfulStatement (sym h.2) (lawful_condition terminals h.0 h.1)
lawful_behind keyword.ElseIf terminals s h = subst IsLawfulStatement (sym h.2) (lawful_condition terminals h.0 h.1)
lawful_behind Else terminals s h = subst IsLawfulStatement (sym h.1) tt
lawful_behind EndIf terminals s h = subst IsLawfulStatement (sym h.1) tt
lawful_behind keyword.Argument terminals s h = subst IsLawfulStatement (sym h.2) tt
lawful_behind EndArgument terminals s h = subst IsLawfulStatement (sym h.1) tt
lawful_behind Print terminals s h = subst IsLawfulStatement (sym h.2) tt

lawful_statement : (terminals : List Terminal) (s : Statement) → IsStatement terminals s → IsLawfulStatement s
lawful_statement terminals s h = lawful_behind h.keyword h.rest s h.follows

abbrev IsLawfulPlaced : Placed → Type 0
IsLawfulPlaced placed = IsLawfulStatement placed.statement

abbrev AreLawfulStatements : List Placed → Type 0
AreLawfulStatements placed = All IsLawfulPlaced placed

lawful_end : (o : Open) → IsLawfulPlaced (end_placed o)
lawful_end o = by_kind o.kind where
  by_kind : (kind : BlockKind) → IsLawfulStatement (end_of kind)
  by_kind kinds.Repeat = tt
  by_kind kinds.If = tt
  by_kind kinds.Argument = tt

lawful_line : (o : Option keywords.Keyword) (s : Statement) (behind rest : List Terminal) → BehindLine o s behind rest → IsLawfulStatement s
lawful_line None s behind rest h = absurd h
lawful_line (Some keyword.Repeat) s behind rest h = subst IsLawfulStatement (sym h.0) tt
lawful_line (Some keyword.If) s behind rest h = subst IsLawfulStatement (sym h.2) (lawful_condition h.1.front h.0 h.1.condition)
lawful_line (Some _) s behind rest h = absurd h

lawful_reading : (lines : List Placed) (last : Placed) (terminals : List Terminal) → AreRead lines last terminals → AreLawfulStatements lines × IsLawfulPlaced last
lawful_reading [] last terminals h = (All-nil IsLawfulPlaced, lawful_statement terminals last.statement h.0)
lawful_reading (line ∷ lines) last terminals h =
    let rest = lawful_reading lines last h.0 h.2 in
    (All-cons IsLawfulPlaced line lines (lawful_line (keyword_of h.1.first.name) line.statement h.1.behind h.0 h.1.behind_it) rest.0, rest.1)

lawful_option : (b : Unfinished) (spot : Spot) (tokens : List Token) (r : Option Read) → IsRead tokens r → AreLawfulStatements b.statements → AreLawfulStatements (and_read b spot r).statements
lawful_option b spot tokens None h k = k
lawful_option b spot tokens (Some r) h k =
    let read = lawful_reading r.lines r.last (map terminal_of tokens) h in
    read_kept IsLawfulPlaced lawful_end b spot r read.0 read.1 k

lawful_way : (b c : Unfinished) (item : Item) → GoesOn b item c → AreLawfulStatements b.statements → AreLawfulStatements c.statements
lawful_way b c (statement []) g k = subst (λ (x : Unfinished). AreLawfulStatements x.statements) (sym g) k
lawful_way b c (statement (t ∷ ts)) g k = subst (λ (x : Unfinished). AreLawfulStatements x.statements) (sym g.2) (lawful_option b t.spot (t ∷ ts) g.0 g.1 k)
lawful_way b c (unfinished t ts) g k = subst (λ (x : Unfinished). AreLawfulStatements x.statements) (sym g) k
lawful_way b c (instruction line) g k = subst (λ (x : Unfinished). AreLawfulStatements x.statements) (sym g) k

-- ---- blocks

opening_line : (o : Option keywords.Keyword) (p : Placed) (behind rest : List Terminal) → BehindLine o p.statement behind rest → IsOpening p
opening_line None p behind rest h = absurd h
opening_line (Some keyword.Repeat) p behind rest h = (kinds.Repeat, ap role_of h.0)
opening_line (Some keyword.If) p behind rest h = (kinds.If, ap role_of h.2)
opening_line (Some _) p behind rest h = absurd h

opening_lines : (lines : List Placed) (last : Placed) (terminals : List Terminal) → AreRead lines last terminals → All IsOpening lines
opening_lines [] last terminals h = All-nil IsOpening
opening_lines (line ∷ lines) last terminals h =
    All-cons IsOpening line lines (opening_line (keyword_of h.1.first.name) line h.1.behind h.0 h.1.behind_it) (opening_lines lines last h.0 h.2)

sound_option : (b : Unfinished) (spot : Spot) (tokens : List Token) (r : Option Read) → IsRead tokens r → StaysSound b → StaysSound (and_read b spot r)
sound_option b spot tokens None h k = none_sound b spot
sound_option b spot tokens (Some r) h k = read_sound b spot r (opening_lines r.lines r.last (map terminal_of tokens) h) k

sound_way : (b c : Unfinished) (item : Item) → GoesOn b item c → StaysSound b → StaysSound c
sound_way b c (statement []) g k = subst StaysSound (sym g) k
sound_way b c (statement (t ∷ ts)) g k = subst StaysSound (sym g.2) (sound_option b t.spot (t ∷ ts) g.0 g.1 k)
sound_way b c (unfinished t ts) g k = subst StaysSound (sym g) (none_sound b t.spot)
sound_way b c (instruction line) g k = subst StaysSound (sym g) (none_sound b line.spot)

-- the tree of a module of which nothing is refused
lawful_tree : (b : Unfinished) → AreLawfulStatements b.statements → StaysSound b → fault_at_end b ≡ None → IsLawfulModule (parts_grown b.statements)
lawful_tree b h k e =
    subst (λ (row : List Statement). All IsLawfulStatement row) (sym (tree_written b.statements (end_sound_all b k e)))
    (All-map IsLawfulStatement statement_of b.statements h)

pub lawful_modules : (others : List Item) (b : Unfinished) (modules : List (List PlacedPart)) → AreLawfulStatements b.statements → StaysSound b → AreModules b others modules → AreLawfulModules modules
lawful_modules [] b modules h k m = subst AreLawfulModules (sym m.1) (All-nil IsLawfulModule)
lawful_modules (item ∷ others) b modules h k m = by_end (ends_module item) (λ c more l s n. lawful_modules others c more l s n) m where
  by_end : (x : Bool) → ((c : Unfinished) (more : List (List PlacedPart)) → AreLawfulStatements c.statements → StaysSound c → AreModules c others more → AreLawfulModules more)
      → MatchBool x ((fault_at_end b ≡ None) × (rest : List (List PlacedPart)) × (modules ≡ parts_grown b.statements ∷ rest) × AreModules new_module others rest) ((c : Unfinished) × GoesOn b item c × AreModules c others modules)
      → AreLawfulModules modules
  by_end true more m = subst AreLawfulModules (sym m.2) (All-cons IsLawfulModule (parts_grown b.statements) m.1 (lawful_tree b h k m.0) (more new_module m.1 (All-nil IsLawfulPlaced) new_sound m.3))
  by_end false more m = more m.0 modules (lawful_way b m.0 item m.1 h) (sound_way b m.0 item m.1 k) m.2
