-- Terms in which indices become others.
use Rattle.std.proofs.Common.{◌≡◌, ℕ, zero, suc, ◌+◌, ◌<◌, ◌≤◌, true, false, List, [], ◌∷◌, ◌++◌, length, get_or, map, drop, Result, Ok, Err, sym, ap, ◌∙◌, subst, arith, append-nil}
use Rattle.std.specs.Prelude.{Option, Some, None, sum}
use Rattle.std.specs.Global.{Vec}
use Rattle.std.specs.Option.{option_to_list}
use Rattle.std.proofs.lemmas.List.{drop_all, drop_more}
use Rattle.std.proofs.lemmas.Option.{same_Some}
use Rattle.form_base.specs.declared.cause.Cause.{Cause}
use Rattle.form_collect.specs.Collector.{IsCollectionOf}
use Rattle.form_collect.specs.declared.collector.Collector.{Collector}
use Rattle.form_expand.proofs.Called.{AreTaken, all_taken, one_taken, refused_argument}
use Rattle.form_expand.specs.Calls.{AreCollected}
use Rattle.form_expand.specs.declared.error.ExpandError.{ExpandError}
use Rattle.form_expand.specs.declared.error.ExpandError.TheVariants.{Refused, Memory}
use Rattle.form_expand.specs.Listing.{Listing, nothing, followed}
use Rattle.form_expand.specs.Next.{IsMade}
use Rattle.form_expand.specs.Singles.{argument_of, of_product}
use Rattle.form_expand.specs.Walks.{all_of}
use Rattle.form_match.specs.Parts.{begins_sum, index_alone}
use Rattle.form_normal.specs.Product.{product}
use Rattle.form_term.specs.Arguments.{arguments_of, first_summands}
use Rattle.form_term.specs.declared.index.Index.{Index}
use Rattle.form_term.specs.declared.monomial.Monomial.{Monomial}
use Rattle.form_term.specs.declared.piece.Piece.{Piece}
use Rattle.form_term.specs.Monomial.{as_monomial, summands_of}
use Rattle.form_term.specs.Term.{Argument, Call, IsArgumentOf, IsTerm, index, vector, expression, pieces_of_argument, size, size_of_call}
use Rattle.form_flow.specs.Indices.{each_made, listed, made_anew, renamed, renamed_argument, renamed_call, with_calls, with_factors}
use Rattle.form_flow.specs.Made.{Collects, IsGiven, Makes, and_pieces}
use Rattle.form_flow.proofs.Firsts.{only_argument}
use Rattle.form_flow.proofs.Valued.{after_none, after_one, after_refusal}

-- a product as a list
pub listing_made : (r : Result (Option Monomial) ExpandError) (p : Result (Option Monomial) Cause) → IsMade r p → Makes r (of_product p)
listing_made (Ok (Some m)) p e = ap of_product e
listing_made (Ok None) p e = ap of_product e
listing_made (Err (Refused cause)) p e = ap of_product e
listing_made (Err Memory) p e = tt

-- ---- functions, and then the term

module _ (by : Index → Index) where
  abbrev pub calls_made : ℕ → List Call → Result (List Call) Cause
  calls_made n cs = each_made (renamed_call by (renamed n by)) cs

  -- what functions answer, to whatever level
  abbrev pub Calls : Result (Vec Call) ExpandError → List Call → Type 0
  Calls r cs = (n : ℕ) → sum (map size_of_call cs) ≤ n → IsGiven (λ (list : Vec Call). list.items) r (calls_made n cs)

  pub functions_refused : (n : ℕ) (m : Monomial) (e : ExpandError) → size m.term < n → Calls (Err e) m.term.others.functions → Makes (Err e) (renamed n by m)
  unfolding renamed
  functions_refused zero m e small h = absurd (omega arith)
  functions_refused (suc n) m (Refused cause) small h =
      let functions : calls_made n m.term.others.functions ≡ Err cause = h n (omega arith) in
      ap (λ r. with_calls by m r (calls_made n m.term.others.word)) functions
  functions_refused (suc n) m Memory small h = tt

  pub word_refused : (n : ℕ) (m : Monomial) (fs : Vec Call) (e : ExpandError) → size m.term < n → Calls (Ok fs) m.term.others.functions → Calls (Err e) m.term.others.word → Makes (Err e) (renamed n by m)
  unfolding renamed
  word_refused zero m fs e small h k = absurd (omega arith)
  word_refused (suc n) m fs (Refused cause) small h k =
      let functions : calls_made n m.term.others.functions ≡ Ok fs.items = h n (omega arith) in
      let word : calls_made n m.term.others.word ≡ Err cause = k n (omega arith) in
      λ i. with_calls by m (functions i) (word i)
  word_refused (suc n) m fs Memory small h k = tt

  pub factors_made : (n : ℕ) (m : Monomial) (fs ws : Vec Call) (r : Result (Option Monomial) ExpandError) → size m.term < n → Calls (Ok fs) m.term.others.functions → Calls (Ok ws) m.term.others.word
      → IsMade r (product (record { coefficient = m.coefficient; term = with_factors by m.term fs.items ws.items } ∷ [])) → Makes r (renamed n by m)
  unfolding renamed
  factors_made zero m fs ws r small h k made = absurd (omega arith)
  factors_made (suc n) m fs ws r small h k made =
      let functions : calls_made n m.term.others.functions ≡ Ok fs.items = h n (omega arith) in
      let word : calls_made n m.term.others.word ≡ Ok ws.items = k n (omega arith) in
      let is : with_calls by m (calls_made n m.term.others.functions) (calls_made n m.term.others.word) ≡ made_anew m.coefficient (with_factors by m.term fs.items ws.items) = λ i. with_calls by m (functions i) (word i) in
      subst (Makes r) (sym is) (listing_made r (product (record { coefficient = m.coefficient; term = with_factors by m.term fs.items ws.items } ∷ [])) made)

-- ---- an argument

module _ (by : Index → Index) (make : Monomial → Listing) (old new part : List Piece) (a : Argument) (is : part ≡ pieces_of_argument a) where
  -- an index alone
  pub index_put : (i : Index) → index_alone part ≡ Some i → new ≡ old ++ pieces_of_argument (index (by i)) → and_pieces old (renamed_argument by make a) ≡ Ok new
  index_put i alone e = at a is
    where
      at : (b : Argument) → part ≡ pieces_of_argument b → and_pieces old (renamed_argument by make b) ≡ Ok new
      at (index j) h =
          let same : Some j ≡ Some i = sym (ap index_alone h) ∙ alone in
          ap Ok (ap (λ (k : Index). old ++ pieces_of_argument (index (by k))) (same_Some j i same) ∙ sym e)
      at (vector v) h = let never : None ≡ Some i = sym (ap index_alone h) ∙ alone in absurd cc
      at (expression ss) h = let never : None ≡ Some i = sym (ap index_alone h) ∙ alone in absurd cc

  -- a vector alone
  pub vector_put : index_alone part ≡ None → begins_sum part ≡ false → new ≡ old ++ part → and_pieces old (renamed_argument by make a) ≡ Ok new
  vector_put none unsummed e = at a is
    where
      at : (b : Argument) → part ≡ pieces_of_argument b → and_pieces old (renamed_argument by make b) ≡ Ok new
      at (index j) h = let never : Some j ≡ None = sym (ap index_alone h) ∙ none in absurd cc
      at (vector v) h = ap Ok (ap (λ (ps : List Piece). old ++ ps) (sym h) ∙ sym e)
      at (expression ss) h = let never : true ≡ false = sym (ap begins_sum h) ∙ unsummed in absurd cc

-- an expression
pub sum_is : (by : Index → Index) (make : Monomial → Listing) (part : List Piece) (a : Argument) → IsArgumentOf IsTerm a → part ≡ pieces_of_argument a → begins_sum part ≡ true → argument_of (listed make (map as_monomial (first_summands (arguments_of part)))) ≡ renamed_argument by make a
sum_is by make part (index i) lawful is sum = let never : false ≡ true = sym (ap begins_sum is) ∙ sum in absurd cc
sum_is by make part (vector v) lawful is sum = let never : false ≡ true = sym (ap begins_sum is) ∙ sum in absurd cc
sum_is by make part (expression ss) lawful is sum = ap (λ (args : List Argument). argument_of (listed make (map as_monomial (first_summands args)))) (only_argument (expression ss) part lawful is)

pub sum_put : (old new : List Piece) (terms : List Monomial) (l : Listing) → AreCollected terms l → new ≡ old ++ pieces_of_argument (expression (summands_of terms)) → and_pieces old (argument_of l) ≡ Ok new
sum_put old new terms l h e = ap (and_pieces old) h.argument ∙ ap Ok (sym e)

pub sum_refused : {A : Type 0} (view : A → List Piece) (old : List Piece) (e : ExpandError) (l : Listing) → Collects (Err e) l → IsGiven view (Err e) (and_pieces old (argument_of l))
sum_refused view old (Refused cause) l h = ap (and_pieces old) h
sum_refused view old Memory l h = tt

-- ---- the terms of an argument

pub listed_next : (make : Monomial → Listing) (ms : List Monomial) (i : ℕ) (m : Monomial) → i < length ms → m ≡ get_or ms i m → listed make (drop i ms) ≡ followed (make m) (listed make (drop (i + 1) ms))
listed_next make ms i m within is = ap (listed make) (drop_more ms i m within ∙ ap (λ (x : Monomial). x ∷ drop (i + 1) ms) (sym is))

pub listed_end : (make : Monomial → Listing) (ms : List Monomial) (i : ℕ) → length ms ≤ i → listed make (drop i ms) ≡ nothing
listed_end make ms i past = ap (listed make) (drop_all i ms past)

module _ (c : Collector) (whole left : Listing) (h : AreTaken c whole left) where
  pub made_taken : (d : Collector) (rest l : Listing) (made : Option Monomial) → left ≡ followed l rest → Makes (Ok made) l → IsCollectionOf d (h.done ++ option_to_list made) → AreTaken d whole rest
  made_taken d rest l (Some m) e is stands = one_taken c d whole left rest m h stands (e ∙ after_one m l rest is)
  made_taken d rest l None e is stands = record {
    done = h.done;
    stands = subst (IsCollectionOf d) (append-nil h.done) stands;
    taken = h.taken ∙ ap (followed (all_of h.done)) (e ∙ after_none l rest is);
  }

  pub term_refused : (rest l : Listing) (e : ExpandError) → left ≡ followed l rest → Makes (Err e) l → Collects (Err e) whole
  term_refused rest l (Refused cause) e is = refused_argument h.done whole left cause h.taken (e ∙ after_refusal cause l rest is)
  term_refused rest l Memory e is = tt

  pub all_collected : (r : Result (Vec Monomial) ExpandError) → left ≡ nothing → ((list : List Monomial) → IsCollectionOf c list → Collects r (all_of list)) → Collects r whole
  all_collected r none given = subst (Collects r) (sym (all_taken c whole left h none)) (given h.done h.stands)
