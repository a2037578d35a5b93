-- Indices, dimensions and switches are read exactly where they are such.
use Rattle.std.proofs.Common.{◌≡◌, Bool, true, false, List, [], ◌∷◌, ◌++◌, map, cond, Option, Some, None, Result, refl, sym, ap, subst, ◌∙◌, append_assoc}
use Rattle.std.specs.Prelude.{flat_map, codes, IfOk, IfErr}
use Rattle.std.proofs.lemmas.List.{append-nil}
use Rattle.std.proofs.lemmas.Option.{same_Some}
use Rattle.form_ast.specs.declared.expr.Spelled.{Spelled}
use Rattle.form_ast.specs.declared.index_list.Dimension.{Dimension}
use Rattle.form_ast.specs.declared.index_list.Dimension.TheVariants as dimension
use Rattle.form_ast.specs.declared.index_list.SpelledIndex.{SpelledIndex}
use Rattle.form_ast.specs.declared.statement.Statement.{Statement}
use Rattle.form_ast.specs.declared.statement.Statement.TheVariants as statements
use Rattle.form_grammar.specs.declared.error.ReadError.{ReadError}
use Rattle.form_grammar.specs.declared.terminal.Terminal.{Terminal}
use Rattle.form_grammar.specs.declared.terminal.Terminal.TheVariants as by_terminal
use Rattle.form_grammar.specs.Reading.{Gives, Excludes}
use Rattle.form_stmts.specs.declared.indices.Indexing.TheVariants as last
use Rattle.form_stmts.specs.Keyword.{is_one_of}
use Rattle.form_stmts.specs.Indices.{index, indices_from, only, dimension_from, switch_from}
use Rattle.form_stmts.specs.Statement.{written_dimension_of, FurtherIndex, written_further_index, AreIndices, IsDimension, IsSwitch}
use Rattle.form_stmts.proofs.Either.{IsOrNot, IsOne, found_by, none_by, one_by, or_not_by}

abbrev index_of : FurtherIndex → SpelledIndex
index_of f = f.index

-- further indices, behind those that are read
record AreFurther (indices : List SpelledIndex) (terminals : List Terminal) (out : List SpelledIndex) : Type 0 where
  others : List FurtherIndex
  written : terminals ≡ flat_map written_further_index others
  kept : out ≡ indices ++ map index_of others

-- the rest of an index, and further ones
record IsRest (name : Spelled) (indices : List SpelledIndex) (terminals : List Terminal) (out : List SpelledIndex) : Type 0 where
  dimension : Option Dimension
  others : List FurtherIndex
  written : terminals ≡ written_dimension_of dimension ++ flat_map written_further_index others
  kept : out ≡ indices ++ index name dimension ∷ map index_of others

-- an index without a dimension, and then this
bare : (name : Spelled) (indices : List SpelledIndex) (terminals : List Terminal) (out : List SpelledIndex) → AreFurther (indices ++ index name None ∷ []) terminals out → IsRest name indices terminals out
bare name indices terminals out h = record {
  dimension = None;
  others = h.others;
  written = h.written;
  kept = h.kept ∙ append_assoc indices (index name None ∷ []) (map index_of h.others);
}

-- an index with a dimension, and then this
measured : (name : Spelled) (d : Dimension) (t : Terminal) (indices : List SpelledIndex) (terminals : List Terminal) (out : List SpelledIndex) → written_dimension_of (Some d) ≡ by_terminal.Equals ∷ t ∷ []
    → AreFurther (indices ++ index name (Some d) ∷ []) terminals out → IsRest name indices (by_terminal.Equals ∷ t ∷ terminals) out
measured name d t indices terminals out w h = record {
  dimension = Some d;
  others = h.others;
  written = ap (λ (r : List Terminal). by_terminal.Equals ∷ t ∷ r) h.written ∙ ap (λ (front : List Terminal). front ++ flat_map written_further_index h.others) (sym w);
  kept = h.kept ∙ append_assoc indices (index name (Some d) ∷ []) (map index_of h.others);
}

one_further : (has_comma : Bool) (name : Spelled) (indices : List SpelledIndex) (front terminals : List Terminal) (out : List SpelledIndex)
    → ((d : Option Dimension) (text : List Terminal) → terminals ≡ written_dimension_of d ++ text → front ≡ written_further_index (record { has_comma = has_comma; index = index name d }) ++ text)
    → IsRest name indices terminals out → AreFurther indices front out
one_further has_comma name indices front terminals out w h = record {
  others = record { has_comma = has_comma; index = index name h.dimension } ∷ h.others;
  written = w h.dimension (flat_map written_further_index h.others) h.written;
  kept = h.kept;
}

without_comma : (name : Spelled) (terminals : List Terminal) (d : Option Dimension) (text : List Terminal) → terminals ≡ written_dimension_of d ++ text
    → by_terminal.Name name ∷ terminals ≡ written_further_index (record { has_comma = false; index = index name d }) ++ text
without_comma name terminals d text e = ap (λ (t : List Terminal). by_terminal.Name name ∷ t) e

with_comma : (name : Spelled) (terminals : List Terminal) (d : Option Dimension) (text : List Terminal) → terminals ≡ written_dimension_of d ++ text
    → by_terminal.Comma ∷ by_terminal.Name name ∷ terminals ≡ written_further_index (record { has_comma = true; index = index name d }) ++ text
with_comma name terminals d text e = ap (λ (t : List Terminal). by_terminal.Comma ∷ by_terminal.Name name ∷ t) e

mutual
  unfolding indices_from

  after_name : (terminals : List Terminal) (name : Spelled) (indices out : List SpelledIndex) → indices_from (last.Name name) indices terminals ≡ Some out → IsRest name indices terminals out
  after_name [] name indices out e = record { dimension = None; others = []; written = refl; kept = sym (same_Some _ out e) }
  after_name (by_terminal.Name m ∷ rest) name indices out e =
      bare name indices (by_terminal.Name m ∷ rest) out
      (one_further false m (indices ++ index name None ∷ []) (by_terminal.Name m ∷ rest) rest out (without_comma m rest) (after_name rest m (indices ++ index name None ∷ []) out e))
  after_name (by_terminal.Comma ∷ rest) name indices out e = bare name indices (by_terminal.Comma ∷ rest) out (after_comma rest (indices ++ index name None ∷ []) out e)
  after_name (by_terminal.Equals ∷ rest) name indices out e = after_equals rest name indices out e
  after_name (by_terminal.Number m ∷ rest) name indices out e = absurd cc
  after_name (by_terminal.Imaginary m ∷ rest) name indices out e = absurd cc
  after_name (by_terminal.Delta m ∷ rest) name indices out e = absurd cc
  after_name (by_terminal.Sign m ∷ rest) name indices out e = absurd cc
  after_name (by_terminal.Times ∷ rest) name indices out e = absurd cc
  after_name (by_terminal.Over ∷ rest) name indices out e = absurd cc
  after_name (by_terminal.Raise ∷ rest) name indices out e = absurd cc
  after_name (by_terminal.Open ∷ rest) name indices out e = absurd cc
  after_name (by_terminal.Close ∷ rest) name indices out e = absurd cc
  after_name (by_terminal.Period ∷ rest) name indices out e = absurd cc
  after_name (by_terminal.And ∷ rest) name indices out e = absurd cc
  after_name (by_terminal.Or ∷ rest) name indices out e = absurd cc
  after_name ((by_terminal.Comparison m) ∷ rest) name indices out e = absurd cc
  after_name (by_terminal.Other ∷ rest) name indices out e = absurd cc
  after_name (by_terminal.Question ∷ rest) name indices out e = absurd cc
  after_name (by_terminal.OpenBrace ∷ rest) name indices out e = absurd cc
  after_name (by_terminal.CloseBrace ∷ rest) name indices out e = absurd cc
  after_name (by_terminal.Colon ∷ rest) name indices out e = absurd cc

  after_equals : (terminals : List Terminal) (name : Spelled) (indices out : List SpelledIndex) → indices_from (last.Equals name) indices terminals ≡ Some out → IsRest name indices (by_terminal.Equals ∷ terminals) out
  after_equals [] name indices out e = absurd cc
  after_equals (by_terminal.Number n ∷ rest) name indices out e =
      measured name (dimension.Number n) (by_terminal.Number n) indices rest out refl (after_dimension rest (indices ++ index name (Some (dimension.Number n)) ∷ []) out e)
  after_equals (by_terminal.Name d ∷ rest) name indices out e =
      measured name (dimension.Name d) (by_terminal.Name d) indices rest out refl (after_dimension rest (indices ++ index name (Some (dimension.Name d)) ∷ []) out e)
  after_equals (by_terminal.Imaginary m ∷ rest) name indices out e = absurd cc
  after_equals (by_terminal.Delta m ∷ rest) name indices out e = absurd cc
  after_equals (by_terminal.Sign m ∷ rest) name indices out e = absurd cc
  after_equals (by_terminal.Times ∷ rest) name indices out e = absurd cc
  after_equals (by_terminal.Over ∷ rest) name indices out e = absurd cc
  after_equals (by_terminal.Raise ∷ rest) name indices out e = absurd cc
  after_equals (by_terminal.Open ∷ rest) name indices out e = absurd cc
  after_equals (by_terminal.Close ∷ rest) name indices out e = absurd cc
  after_equals (by_terminal.Comma ∷ rest) name indices out e = absurd cc
  after_equals (by_terminal.Period ∷ rest) name indices out e = absurd cc
  after_equals (by_terminal.Equals ∷ rest) name indices out e = absurd cc
  after_equals (by_terminal.And ∷ rest) name indices out e = absurd cc
  after_equals (by_terminal.Or ∷ rest) name indices out e = absurd cc
  after_equals ((by_terminal.Comparison m) ∷ rest) name indices out e = absurd cc
  after_equals (by_terminal.Other ∷ rest) name indices out e = absurd cc
  after_equals (by_terminal.Question ∷ rest) name indices out e = absurd cc
  after_equals (by_terminal.OpenBrace ∷ rest) name indices out e = absurd cc
  after_equals (by_terminal.CloseBrace ∷ rest) name indices out e = absurd cc
  after_equals (by_terminal.Colon ∷ rest) name indices out e = absurd cc

  after_dimension : (terminals : List Terminal) (indices out : List SpelledIndex) → indices_from last.Dimension indices terminals ≡ Some out → AreFurther indices terminals out
  after_dimension [] indices out e = record { others = []; written = refl; kept = sym (same_Some indices out e) ∙ sym (append-nil indices) }
  after_dimension (by_terminal.Name m ∷ rest) indices out e =
      one_further false m indices (by_terminal.Name m ∷ rest) rest out (without_comma m rest) (after_name rest m indices out e)
  after_dimension (by_terminal.Comma ∷ rest) indices out e = after_comma rest indices out e
  after_dimension (by_terminal.Number m ∷ rest) indices out e = absurd cc
  after_dimension (by_terminal.Imaginary m ∷ rest) indices out e = absurd cc
  after_dimension (by_terminal.Delta m ∷ rest) indices out e = absurd cc
  after_dimension (by_terminal.Sign m ∷ rest) indices out e = absurd cc
  after_dimension (by_terminal.Times ∷ rest) indices out e = absurd cc
  after_dimension (by_terminal.Over ∷ rest) indices out e = absurd cc
  after_dimension (by_terminal.Raise ∷ rest) indices out e = absurd cc
  after_dimension (by_terminal.Open ∷ rest) indices out e = absurd cc
  after_dimension (by_terminal.Close ∷ rest) indices out e = absurd cc
  after_dimension (by_terminal.Period ∷ rest) indices out e = absurd cc
  after_dimension (by_terminal.Equals ∷ rest) indices out e = absurd cc
  after_dimension (by_terminal.And ∷ rest) indices out e = absurd cc
  after_dimension (by_terminal.Or ∷ rest) indices out e = absurd cc
  after_dimension ((by_terminal.Comparison m) ∷ rest) indices out e = absurd cc
  after_dimension (by_terminal.Other ∷ rest) indices out e = absurd cc
  after_dimension (by_terminal.Question ∷ rest) indices out e = absurd cc
  after_dimension (by_terminal.OpenBrace ∷ rest) indices out e = absurd cc
  after_dimension (by_terminal.CloseBrace ∷ rest) indices out e = absurd cc
  after_dimension (by_terminal.Colon ∷ rest) indices out e = absurd cc

  after_comma : (terminals : List Terminal) (indices out : List SpelledIndex) → indices_from last.Nothing indices terminals ≡ Some out → AreFurther indices (by_terminal.Comma ∷ terminals) out
  after_comma [] indices out e = absurd cc
  after_comma (by_terminal.Name m ∷ rest) indices out e =
      one_further true m indices (by_terminal.Comma ∷ by_terminal.Name m ∷ rest) rest out (with_comma m rest) (after_name rest m indices out e)
  after_comma (by_terminal.Number m ∷ rest) indices out e = absurd cc
  after_comma (by_terminal.Imaginary m ∷ rest) indices out e = absurd cc
  after_comma (by_terminal.Delta m ∷ rest) indices out e = absurd cc
  after_comma (by_terminal.Sign m ∷ rest) indices out e = absurd cc
  after_comma (by_terminal.Times ∷ rest) indices out e = absurd cc
  after_comma (by_terminal.Over ∷ rest) indices out e = absurd cc
  after_comma (by_terminal.Raise ∷ rest) indices out e = absurd cc
  after_comma (by_terminal.Open ∷ rest) indices out e = absurd cc
  after_comma (by_terminal.Close ∷ rest) indices out e = absurd cc
  after_comma (by_terminal.Comma ∷ rest) indices out e = absurd cc
  after_comma (by_terminal.Period ∷ rest) indices out e = absurd cc
  after_comma (by_terminal.Equals ∷ rest) indices out e = absurd cc
  after_comma (by_terminal.And ∷ rest) indices out e = absurd cc
  after_comma (by_terminal.Or ∷ rest) indices out e = absurd cc
  after_comma ((by_terminal.Comparison m) ∷ rest) indices out e = absurd cc
  after_comma (by_terminal.Other ∷ rest) indices out e = absurd cc
  after_comma (by_terminal.Question ∷ rest) indices out e = absurd cc
  after_comma (by_terminal.OpenBrace ∷ rest) indices out e = absurd cc
  after_comma (by_terminal.CloseBrace ∷ rest) indices out e = absurd cc
  after_comma (by_terminal.Colon ∷ rest) indices out e = absurd cc

indices_sound : (terminals : List Terminal) (out : List SpelledIndex) → indices_from last.Nothing [] terminals ≡ Some out → AreIndices terminals out
unfolding indices_from
indices_sound [] out e = absurd cc
indices_sound (by_terminal.Name m ∷ rest) out e =
    let h = after_name rest m [] out e in
    record {
      first = index m h.dimension;
      others = h.others;
      written = ap (λ (t : List Terminal). by_terminal.Name m ∷ t) h.written;
      kept = h.kept;
    }
indices_sound (by_terminal.Number m ∷ rest) out e = absurd cc
indices_sound (by_terminal.Imaginary m ∷ rest) out e = absurd cc
indices_sound (by_terminal.Delta m ∷ rest) out e = absurd cc
indices_sound (by_terminal.Sign m ∷ rest) out e = absurd cc
indices_sound (by_terminal.Times ∷ rest) out e = absurd cc
indices_sound (by_terminal.Over ∷ rest) out e = absurd cc
indices_sound (by_terminal.Raise ∷ rest) out e = absurd cc
indices_sound (by_terminal.Open ∷ rest) out e = absurd cc
indices_sound (by_terminal.Close ∷ rest) out e = absurd cc
indices_sound (by_terminal.Comma ∷ rest) out e = absurd cc
indices_sound (by_terminal.Period ∷ rest) out e = absurd cc
indices_sound (by_terminal.Equals ∷ rest) out e = absurd cc
indices_sound (by_terminal.And ∷ rest) out e = absurd cc
indices_sound (by_terminal.Or ∷ rest) out e = absurd cc
indices_sound ((by_terminal.Comparison m) ∷ rest) out e = absurd cc
indices_sound (by_terminal.Other ∷ rest) out e = absurd cc
indices_sound (by_terminal.Question ∷ rest) out e = absurd cc
indices_sound (by_terminal.OpenBrace ∷ rest) out e = absurd cc
indices_sound (by_terminal.CloseBrace ∷ rest) out e = absurd cc
indices_sound (by_terminal.Colon ∷ rest) out e = absurd cc

-- further indices are read
abbrev with_index : List SpelledIndex → Spelled → Option Dimension → List SpelledIndex
with_index indices name d = indices ++ index name d ∷ []

-- what further indices give behind an index with a dimension, and behind one without
record AreRead (others : List FurtherIndex) (text : List Terminal) : Type 0 where
  behind_dimension : (indices : List SpelledIndex) → indices_from last.Dimension indices text ≡ Some (indices ++ map index_of others)
  behind_name : (name : Spelled) (indices : List SpelledIndex) → indices_from (last.Name name) indices text ≡ Some (with_index indices name None ++ map index_of others)

-- one index, behind its name
one_read : (name : Spelled) (d : Option Dimension) (others : List FurtherIndex) (text : List Terminal) → AreRead others text → (indices : List SpelledIndex)
    → indices_from (last.Name name) indices (written_dimension_of d ++ text) ≡ Some (indices ++ index name d ∷ map index_of others)
unfolding indices_from
one_read name None others text h indices =
    h.behind_name name indices ∙ ap (λ (l : List SpelledIndex). Some l) (append_assoc indices (index name None ∷ []) (map index_of others))
one_read name (Some (dimension.Number n)) others text h indices =
    h.behind_dimension (with_index indices name (Some (dimension.Number n))) ∙ ap (λ (l : List SpelledIndex). Some l) (append_assoc indices (index name (Some (dimension.Number n)) ∷ []) (map index_of others))
one_read name (Some (dimension.Name n)) others text h indices =
    h.behind_dimension (with_index indices name (Some (dimension.Name n))) ∙ ap (λ (l : List SpelledIndex). Some l) (append_assoc indices (index name (Some (dimension.Name n)) ∷ []) (map index_of others))

one_more : (has_comma : Bool) (i : SpelledIndex) (others : List FurtherIndex) (text : List Terminal) → AreRead others text
    → AreRead (record { has_comma = has_comma; index = i } ∷ others) (written_further_index (record { has_comma = has_comma; index = i }) ++ text)
unfolding indices_from
one_more true i others text h = record {
  behind_dimension = λ indices. one_read i.name i.dimension others text h indices;
  behind_name = λ name indices. one_read i.name i.dimension others text h (with_index indices name None);
}
one_more false i others text h = record {
  behind_dimension = λ indices. one_read i.name i.dimension others text h indices;
  behind_name = λ name indices. one_read i.name i.dimension others text h (with_index indices name None);
}

further_read : (others : List FurtherIndex) → AreRead others (flat_map written_further_index others)
unfolding indices_from
further_read [] = record {
  behind_dimension = λ indices. ap (λ (l : List SpelledIndex). Some l) (sym (append-nil indices));
  behind_name = λ name indices. ap (λ (l : List SpelledIndex). Some l) (sym (append-nil (with_index indices name None)));
}
further_read (f ∷ others) = one_more f.has_comma f.index others (flat_map written_further_index others) (further_read others)

indices_complete : (terminals : List Terminal) (out : List SpelledIndex) → AreIndices terminals out → indices_from last.Nothing [] terminals ≡ Some out
unfolding indices_from
indices_complete terminals out h =
    ap (indices_from last.Nothing []) h.written
    ∙ one_read h.first.name h.first.dimension h.others (flat_map written_further_index h.others) (further_read h.others) []
    ∙ ap (λ (l : List SpelledIndex). Some l) (sym h.kept)

-- ---- one terminal alone

abbrev read_dimension : List Terminal → Option Dimension
read_dimension terminals = dimension_from (only terminals)

dimension_sound : (terminals : List Terminal) (d : Dimension) → read_dimension terminals ≡ Some d → IsDimension terminals d
dimension_sound [] d e = absurd cc
dimension_sound (t ∷ u ∷ rest) d e = absurd cc
dimension_sound (by_terminal.Number n ∷ []) d e = subst (IsDimension (by_terminal.Number n ∷ [])) (same_Some (dimension.Number n) d e) refl
dimension_sound (by_terminal.Name n ∷ []) d e = subst (IsDimension (by_terminal.Name n ∷ [])) (same_Some (dimension.Name n) d e) refl
dimension_sound (by_terminal.Imaginary m ∷ []) d e = absurd cc
dimension_sound (by_terminal.Delta m ∷ []) d e = absurd cc
dimension_sound (by_terminal.Sign m ∷ []) d e = absurd cc
dimension_sound (by_terminal.Times ∷ []) d e = absurd cc
dimension_sound (by_terminal.Over ∷ []) d e = absurd cc
dimension_sound (by_terminal.Raise ∷ []) d e = absurd cc
dimension_sound (by_terminal.Open ∷ []) d e = absurd cc
dimension_sound (by_terminal.Close ∷ []) d e = absurd cc
dimension_sound (by_terminal.Comma ∷ []) d e = absurd cc
dimension_sound (by_terminal.Period ∷ []) d e = absurd cc
dimension_sound (by_terminal.Equals ∷ []) d e = absurd cc
dimension_sound (by_terminal.And ∷ []) d e = absurd cc
dimension_sound (by_terminal.Or ∷ []) d e = absurd cc
dimension_sound ((by_terminal.Comparison m) ∷ []) d e = absurd cc
dimension_sound (by_terminal.Other ∷ []) d e = absurd cc
dimension_sound (by_terminal.Question ∷ []) d e = absurd cc
dimension_sound (by_terminal.OpenBrace ∷ []) d e = absurd cc
dimension_sound (by_terminal.CloseBrace ∷ []) d e = absurd cc
dimension_sound (by_terminal.Colon ∷ []) d e = absurd cc

dimension_complete : (terminals : List Terminal) (d : Dimension) → IsDimension terminals d → read_dimension terminals ≡ Some d
dimension_complete terminals (dimension.Number n) h = ap read_dimension h
dimension_complete terminals (dimension.Name n) h = ap read_dimension h

abbrev read_switch : List Terminal → Option Statement
read_switch terminals = switch_from (only terminals)

passes : (b : Bool) (s : Statement) → cond b (Some statements.Statistics) None ≡ Some s → (b ≡ true) × (s ≡ statements.Statistics)
passes true s e = (refl, sym (same_Some statements.Statistics s e))
passes false s e = absurd cc

switch_sound : (terminals : List Terminal) (s : Statement) → read_switch terminals ≡ Some s → IsSwitch terminals s
switch_sound [] s e = absurd cc
switch_sound (t ∷ u ∷ rest) s e = absurd cc
switch_sound (by_terminal.Name word ∷ []) s e =
    let p = passes (is_one_of word.name (codes "statistics" ∷ [])) s e in
    record { word = word; written = refl; spelled = p.0; kept = p.1 }
switch_sound (by_terminal.Number m ∷ []) s e = absurd cc
switch_sound (by_terminal.Imaginary m ∷ []) s e = absurd cc
switch_sound (by_terminal.Delta m ∷ []) s e = absurd cc
switch_sound (by_terminal.Sign m ∷ []) s e = absurd cc
switch_sound (by_terminal.Times ∷ []) s e = absurd cc
switch_sound (by_terminal.Over ∷ []) s e = absurd cc
switch_sound (by_terminal.Raise ∷ []) s e = absurd cc
switch_sound (by_terminal.Open ∷ []) s e = absurd cc
switch_sound (by_terminal.Close ∷ []) s e = absurd cc
switch_sound (by_terminal.Comma ∷ []) s e = absurd cc
switch_sound (by_terminal.Period ∷ []) s e = absurd cc
switch_sound (by_terminal.Equals ∷ []) s e = absurd cc
switch_sound (by_terminal.And ∷ []) s e = absurd cc
switch_sound (by_terminal.Or ∷ []) s e = absurd cc
switch_sound ((by_terminal.Comparison m) ∷ []) s e = absurd cc
switch_sound (by_terminal.Other ∷ []) s e = absurd cc
switch_sound (by_terminal.Question ∷ []) s e = absurd cc
switch_sound (by_terminal.OpenBrace ∷ []) s e = absurd cc
switch_sound (by_terminal.CloseBrace ∷ []) s e = absurd cc
switch_sound (by_terminal.Colon ∷ []) s e = absurd cc

switch_complete : (terminals : List Terminal) (s : Statement) → IsSwitch terminals s → read_switch terminals ≡ Some s
switch_complete terminals s h =
    ap read_switch h.written ∙ ap (λ (b : Bool). cond b (Some statements.Statistics) None) h.spelled ∙ ap (λ (x : Statement). Some x) (sym h.kept)

-- ---- what that gives

module _ (r : Result (List SpelledIndex) ReadError) (terminals : List Terminal) (e : Gives (λ x. x) r (indices_from last.Nothing [] terminals)) where
  pub indices_found : IfOk r (λ x. AreIndices terminals x)
  indices_found = found_by AreIndices (indices_from last.Nothing []) indices_sound indices_complete r terminals e

  pub indices_none : IfErr r (λ error. Excludes error (AreIndices terminals))
  indices_none = none_by AreIndices (indices_from last.Nothing []) indices_sound indices_complete r terminals e

module _ (r : Result Dimension ReadError) (terminals : List Terminal) (e : Gives (λ x. x) r (read_dimension terminals)) where
  pub dimension_found : IfOk r (λ x. IsDimension terminals x)
  dimension_found = found_by IsDimension read_dimension dimension_sound dimension_complete r terminals e

  pub dimension_none : IfErr r (λ error. Excludes error (IsDimension terminals))
  dimension_none = none_by IsDimension read_dimension dimension_sound dimension_complete r terminals e

module _ (r : Result Statement ReadError) (terminals : List Terminal) (e : Gives (λ x. x) r (read_switch terminals)) where
  pub switch_found : IfOk r (λ x. IsSwitch terminals x)
  switch_found = found_by IsSwitch read_switch switch_sound switch_complete r terminals e

  pub switch_none : IfErr r (λ error. Excludes error (IsSwitch terminals))
  switch_none = none_by IsSwitch read_switch switch_sound switch_complete r terminals e

module _ (terminals : List Terminal) where
  pub one_indices : IsOne (AreIndices terminals)
  one_indices = one_by AreIndices (indices_from last.Nothing []) indices_sound indices_complete terminals

  pub one_dimension : IsOne (IsDimension terminals)
  one_dimension = one_by IsDimension read_dimension dimension_sound dimension_complete terminals

  pub indices_or_not : IsOrNot (AreIndices terminals)
  indices_or_not = or_not_by AreIndices (indices_from last.Nothing []) indices_sound indices_complete terminals

  pub dimension_or_not : IsOrNot (IsDimension terminals)
  dimension_or_not = or_not_by IsDimension read_dimension dimension_sound dimension_complete terminals

  pub switch_or_not : IsOrNot (IsSwitch terminals)
  switch_or_not = or_not_by IsSwitch read_switch switch_sound switch_complete terminals
