-- Indices that become others in a term, which is made anew with them.
use Rattle.std.specs.Prelude.{ℕ, zero, suc, ◌++◌, ◌==◌, Bool, false, List, [], ◌∷◌, map, flat_map, fold, length, Result, Ok, Err, if◌then◌else◌}
use Rattle.std.specs.List.{list_any}
use Rattle.form_base.specs.declared.cause.Cause.{Cause}
use Rattle.form_frac.specs.Fraction.{Fraction}
use Rattle.form_term.specs.declared.index.Index.{Index}
use Rattle.form_term.specs.declared.index.Index.TheVariants as indices
use Rattle.form_term.specs.declared.index.Component.{Component}
use Rattle.form_term.specs.declared.index.Delta.{Delta}
use Rattle.form_term.specs.declared.piece.Piece.{Piece}
use Rattle.form_term.specs.declared.piece.Piece.TheVariants as pieces
use Rattle.form_term.specs.declared.monomial.Monomial.{Monomial}
use Rattle.form_term.specs.Arguments.{arguments_of}
use Rattle.form_term.specs.Factor.{delta_of}
use Rattle.form_term.specs.Monomial.{as_monomial}
use Rattle.form_term.specs.Term.{Term, Call, Argument, index, vector, expression, call_of, size}
use Rattle.form_normal.specs.Product.{product}
use Rattle.form_expand.specs.Listing.{Listing, nothing, refusal, followed}
use Rattle.form_expand.specs.Singles.{argument_of, of_product}
use Rattle.form_flow.specs.declared.indices.Renaming.{Renaming}

-- ---- what indices become

abbrev pub is_declared : ℕ → Index → Bool
is_declared i (indices.Declared j) = j == i
is_declared i j = false

-- this declared index becomes that
abbrev pub put : ℕ → Index → Index → Index
put i new j = if is_declared i j then new else j

-- what an index becomes by these, one after the other
abbrev pub become : List Renaming → Index → Index
become rs j = fold (λ k r. put r.from r.to k) j rs

-- ---- the indices of a term

abbrev pub indices_of_delta : Delta → List Index
indices_of_delta d = d.first ∷ d.second ∷ []

abbrev pub indices_of_piece : Piece → List Index
indices_of_piece (pieces.Component c) = c.index ∷ []
indices_of_piece (pieces.Delta d) = indices_of_delta d
indices_of_piece (pieces.Index i) = i ∷ []
indices_of_piece p = []

abbrev pub indices_of_call : Call → List Index
indices_of_call c = flat_map indices_of_piece c.pieces

-- all that stand in it, in arguments too
abbrev pub indices_in : Term → List Index
indices_in t =
    map (λ c. c.index) t.others.components ++ flat_map indices_of_delta t.others.deltas
    ++ flat_map indices_of_call t.others.functions ++ flat_map indices_of_call t.others.word

-- ---- dummies

abbrev pub is_dummy : ℕ → Index → Bool
is_dummy n (indices.Dummy m) = m == n
is_dummy n i = false

-- the least number from this one on that is of no dummy there; it is found after so many
abbrev pub least_free : ℕ → ℕ → List Index → ℕ
least_free zero n there = n
least_free (suc k) n there = if list_any (is_dummy n) there then least_free k (suc n) there else n

-- the least number from 1 that is of no dummy there
abbrev pub free_dummy : List Index → ℕ
free_dummy there = least_free (length there) 1 there

-- an index that is there, as these have become, becomes the dummy with the least number that isn't there
abbrev pub and_dummy : List Index → List Renaming → ℕ → List Renaming
and_dummy all rs i =
    let there = map (become rs) all in
    if list_any (is_declared i) there then rs ++ record { from = i; to = indices.Dummy (free_dummy there) } ∷ [] else rs

-- these indices, one after the other
abbrev pub dummies : List ℕ → List Index → List Renaming
dummies is all = fold (and_dummy all) [] is

-- ---- a term with other indices

abbrev pub renamed_component : (Index → Index) → Component → Component
renamed_component by c = record c { index = by c.index }

abbrev pub renamed_delta : (Index → Index) → Delta → Delta
renamed_delta by d = delta_of (by d.first) (by d.second)

-- a term with other indices and with these functions, as its factors stand: the product puts them in order
abbrev pub with_factors : (Index → Index) → Term → List Call → List Call → Term
with_factors by t fs ws = record {
  symbols = t.symbols;
  others = record t.others {
    components = map (renamed_component by) t.others.components;
    deltas = map (renamed_delta by) t.others.deltas;
    functions = fs;
    word = ws;
  };
}

-- what each makes, one list after the other
abbrev pub listed : (Monomial → Listing) → List Monomial → Listing
listed make [] = nothing
listed make (m ∷ ms) = followed (make m) (listed make ms)

-- an argument with other indices, by what becomes of the terms in it
abbrev pub renamed_argument : (Index → Index) → (Monomial → Listing) → Argument → Result Argument Cause
renamed_argument by make (index i) = Ok (index (by i))
renamed_argument by make (vector v) = Ok (vector v)
renamed_argument by make (expression ss) = argument_of (listed make (map as_monomial ss))

abbrev pub before_made : {A : Type 0} → A → Result (List A) Cause → Result (List A) Cause
before_made x (Ok xs) = Ok (x ∷ xs)
before_made x (Err cause) = Err cause

abbrev pub and_made : {A : Type 0} → Result A Cause → Result (List A) Cause → Result (List A) Cause
and_made (Ok x) rest = before_made x rest
and_made (Err cause) rest = Err cause

-- what each gives, up to the first refusal
abbrev pub each_made : {A : Type 0} → (A → Result A Cause) → List A → Result (List A) Cause
each_made make [] = Ok []
each_made make (x ∷ xs) = and_made (make x) (each_made make xs)

abbrev pub call_by : ℕ → Result (List Argument) Cause → Result Call Cause
call_by f (Ok args) = Ok (call_of f args)
call_by f (Err cause) = Err cause

abbrev pub renamed_call : (Index → Index) → (Monomial → Listing) → Call → Result Call Cause
renamed_call by make c = call_by c.function (each_made (renamed_argument by make) (arguments_of c.pieces))

-- a term made anew, by a product of its own
abbrev pub made_anew : Fraction → Term → Listing
made_anew c t = of_product (product (record { coefficient = c; term = t } ∷ []))

abbrev pub with_calls : (Index → Index) → Monomial → Result (List Call) Cause → Result (List Call) Cause → Listing
with_calls by m (Err cause) ws = refusal cause
with_calls by m (Ok fs) (Err cause) = refusal cause
with_calls by m (Ok fs) (Ok ws) = made_anew m.coefficient (with_factors by m.term fs ws)

-- A term in which each index becomes another one, down to so many levels: first in the arguments of its commuting functions,
-- then in those of the others, from the left, and then in the term, which is made anew. In an argument that is an
-- expression it is each of its terms, and then they are collected.
unfoldable pub renamed : ℕ → (Index → Index) → Monomial → Listing
renamed zero by m = nothing
renamed (suc n) by m =
    with_calls by m (each_made (renamed_call by (renamed n by)) m.term.others.functions) (each_made (renamed_call by (renamed n by)) m.term.others.word)

-- to its innermost level: a term has fewer levels than factors and one
abbrev pub all_renamed : (Index → Index) → Monomial → Listing
all_renamed by m = renamed (suc (size m.term)) by m

-- ---- `sum`

-- indices that become dummies
abbrev pub dummies_put : List ℕ → Monomial → Listing
dummies_put is m = all_renamed (become (dummies is (indices_in m.term))) m

-- this number for an index
abbrev pub number_put : ℕ → ℕ → Monomial → Listing
number_put i n m = all_renamed (put i (indices.Fixed n)) m
