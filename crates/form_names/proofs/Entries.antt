-- What a map of names holds, against the list of its entries.
use Rattle.std.proofs.Common.{◌≡◌, ℕ, ◌≤◌, Bool, true, false, arith, string_eq, List, [], ◌∷◌, ◌++◌, length, Some, None, cond, not, nat_lt, position, refl, sym, ap, ◌∙◌, ◌+◌, zero, suc, All, Option, IfSome, option_map, option_and_then, subst, slice_get}
use Rattle.std.specs.Prelude.{String, string_bytes}
use Rattle.std.specs.List.{prefix_len, position_or_len}
use Rattle.std.proofs.lemmas.List.Sums.{prefix_len-le-length}
use Rattle.indexmap.specs.IndexMap.{insert_entry}
use Rattle.std.proofs.lemmas.List.Elements.{All-head, All-tail, All-push, All-weaker}
use borrow.Author.Tests.{ltb-false}
use Rattle.std.specs.Map.{keys_of, values_of}
use Rattle.std.specs.Str.{bytes_eq}
use Rattle.form_names.specs.declared.elements.Elements.{Elements}
use Rattle.form_names.specs.declared.elements.Elements.TheVariants as sets
use Rattle.form_names.specs.declared.facts.Facts.{Facts}
use Rattle.form_names.specs.declared.kind.Kind.{Kind}
use Rattle.form_names.specs.declared.kind.Kind.TheVariants as kinds
use Rattle.form_names.specs.declared.kind.Dimension.{Dimension}
use Rattle.form_names.specs.declared.kind.Dimension.TheVariants as dimensions
use Rattle.form_names.specs.Names.{Entry, entry_of, entries_of, lookup, kind_at, elements_at, dimension_of, IsDimension, IsNameAlike, AreElements, IsLawful, AreLawful}

pub prefix_len-keys : {A : Type 0} (name : List ℕ) (pairs : List (String A × Facts)) → prefix_len (λ key. not (bytes_eq name (string_bytes key))) (keys_of pairs) ≡ prefix_len (λ entry. not (bytes_eq name entry.name)) (entries_of pairs)
prefix_len-keys name [] = refl
prefix_len-keys name (pair ∷ pairs) = ap (λ n. cond (not (bytes_eq name (string_bytes pair.0))) (1 + n) 0) (prefix_len-keys name pairs)

pub length-keys : {A : Type 0} (pairs : List (String A × Facts)) → length (keys_of pairs) ≡ length (entries_of pairs)
length-keys [] = refl
length-keys (pair ∷ pairs) = ap suc (length-keys pairs)

-- a key stands where its name does
pub position-keys : {A : Type 0} (name : List ℕ) (pairs : List (String A × Facts)) → position (λ key. bytes_eq name (string_bytes key)) (keys_of pairs) ≡ lookup (entries_of pairs) name
position-keys name pairs = rw (prefix_len-keys name pairs, length-keys pairs) refl

pub kind_at-values : {A : Type 0} (pairs : List (String A × Facts)) (i : ℕ) → option_map (λ f. f.kind) (slice_get (values_of pairs) i) ≡ kind_at (entries_of pairs) i
kind_at-values [] i = refl
kind_at-values (pair ∷ pairs) zero = refl
kind_at-values (pair ∷ pairs) (suc i) = kind_at-values pairs i

pub elements_at-values : {A : Type 0} (pairs : List (String A × Facts)) (i : ℕ) → option_and_then (λ f. f.elements) (slice_get (values_of pairs) i) ≡ elements_at (entries_of pairs) i
elements_at-values [] i = refl
elements_at-values (pair ∷ pairs) zero = refl
elements_at-values (pair ∷ pairs) (suc i) = elements_at-values pairs i

-- a name that doesn't stand is passed over to the end
pub passed_over : (n m : ℕ) → n ≤ m → cond (nat_lt n m) (Some n) None ≡ None → n ≡ m
passed_over n m within none = by (nat_lt n m) refl
  where
    by : (b : Bool) → nat_lt n m ≡ b → n ≡ m
    by true is = let found : Some n ≡ None = sym (ap (λ b. cond b (Some n) None) is) ∙ none in cc
    by false is = let above : m ≤ n = ltb-false n m is in omega arith

pub position_or_len-absent : {A : Type 0} (key : String A) (pairs : List (String A × Facts)) → lookup (entries_of pairs) (string_bytes key) ≡ None → position_or_len (string_eq key) (keys_of pairs) ≡ length (keys_of pairs)
position_or_len-absent key pairs none =
    passed_over _ _ (prefix_len-le-length _ (keys_of pairs)) (position-keys (string_bytes key) pairs ∙ none)

pub insert_entry-absent : {A : Type 0} (pairs : List (String A × Facts)) (key : String A) (facts : Facts) → position_or_len (string_eq key) (keys_of pairs) ≡ length (keys_of pairs) → insert_entry string_eq pairs key facts ≡ pairs ++ (key, facts) ∷ []
insert_entry-absent [] key facts none = refl
insert_entry-absent (pair ∷ pairs) key facts none =
    by (string_eq key pair.0) refl (λ later. insert_entry-absent pairs key facts later)
  where
    by : (b : Bool) → string_eq key pair.0 ≡ b → (position_or_len (string_eq key) (keys_of pairs) ≡ length (keys_of pairs) → insert_entry string_eq pairs key facts ≡ pairs ++ (key, facts) ∷ []) → insert_entry string_eq (pair ∷ pairs) key facts ≡ (pair ∷ pairs) ++ (key, facts) ∷ []
    by true is rest = let here : 0 ≡ suc (length (keys_of pairs)) = sym (ap (λ b. cond (not b) (1 + position_or_len (string_eq key) (keys_of pairs)) 0) is) ∙ none in cc
    by false is rest =
        let later : 1 + position_or_len (string_eq key) (keys_of pairs) ≡ suc (length (keys_of pairs)) = sym (ap (λ b. cond (not b) (1 + position_or_len (string_eq key) (keys_of pairs)) 0) is) ∙ none in
        rw is (ap (λ others. pair ∷ others) (rest (omega arith)))

pub entries_of-push : {A : Type 0} (pairs : List (String A × Facts)) (key : String A) (facts : Facts) → entries_of (pairs ++ (key, facts) ∷ []) ≡ entries_of pairs ++ entry_of (string_bytes key) facts ∷ []
entries_of-push [] key facts = refl
entries_of-push (pair ∷ pairs) key facts = ap (λ others. entry_of (string_bytes pair.0) pair.1 ∷ others) (entries_of-push pairs key facts)

-- ---- what names stand for

kind_at-append : (names more : List Entry) (id : ℕ) (kind : Kind) → kind_at names id ≡ Some kind → kind_at (names ++ more) id ≡ Some kind
kind_at-append [] more id kind is = cc
kind_at-append (e ∷ es) more zero kind is = is
kind_at-append (e ∷ es) more (suc id) kind is = kind_at-append es more id kind is

dimension-append : (names more : List Entry) (d : Dimension) → IsDimension names d → IsDimension (names ++ more) d
dimension-append names more (dimensions.Number n) h = h
dimension-append names more (dimensions.Symbol id) h = kind_at-append names more id kinds.Symbol h

dimension-append-if : (names more : List Entry) (d : Option Dimension) → IfSome d (IsDimension names) → IfSome d (IsDimension (names ++ more))
dimension-append-if names more None h = tt
dimension-append-if names more (Some d) h = dimension-append names more d h

alike-append : (names more : List Entry) (kind : Kind) (id : ℕ) → IsNameAlike names kind id → IsNameAlike (names ++ more) kind id
alike-append names more kind id h = (h.0, kind_at-append names more id h.0 h.1, h.2)

elements-append : (names more : List Entry) (es : Option Elements) → IfSome es (AreElements names) → IfSome es (AreElements (names ++ more))
elements-append names more None h = tt
elements-append names more (Some (sets.Names ids)) h =
    (h.0, h.1, All-weaker (IsNameAlike names h.0) (IsNameAlike (names ++ more) h.0) (alike-append names more h.0) ids h.2)
elements-append names more (Some (sets.Numbers ns)) h = tt

lawful-append : (names more : List Entry) (e : Entry) → IsLawful names e → IsLawful (names ++ more) e
lawful-append names more e h = record {
  dimension = dimension-append-if names more (dimension_of e.kind) h.dimension;
  elements = elements-append names more e.elements h.elements;
}

-- one more name
pub lawful-push : (names : List Entry) (e : Entry) → AreLawful names → IsLawful names e → AreLawful (names ++ e ∷ [])
lawful-push names e h k =
    All-push (IsLawful (names ++ e ∷ [])) names e
    (All-weaker (IsLawful names) (IsLawful (names ++ e ∷ [])) (lawful-append names (e ∷ [])) names h)
    (lawful-append names (e ∷ []) e k)

-- the name at a place is lawful
pub kind-lawful : (all names : List Entry) (id : ℕ) (kind : Kind) → All (IsLawful all) names → kind_at names id ≡ Some kind → IfSome (dimension_of kind) (IsDimension all)
kind-lawful all [] id kind h is = cc
kind-lawful all (e ∷ es) zero kind h is =
    let same : e.kind ≡ kind = cc in subst (λ k. IfSome (dimension_of k) (IsDimension all)) same (All-head (IsLawful all) e es h).dimension
kind-lawful all (e ∷ es) (suc id) kind h is = kind-lawful all es id kind (All-tail (IsLawful all) e es h) is

pub elements-lawful : (all names : List Entry) (id : ℕ) → All (IsLawful all) names → IfSome (elements_at names id) (AreElements all)
elements-lawful all [] id h = tt
elements-lawful all (e ∷ es) zero h = (All-head (IsLawful all) e es h).elements
elements-lawful all (e ∷ es) (suc id) h = elements-lawful all es id (All-tail (IsLawful all) e es h)
