-- The table of names of one letter.
use Rattle.std.proofs.Common.{◌≡◌, ◌≢◌, ℕ, suc, ◌+◌, ◌-◌, ◌<◌, ◌^◌, ◌≤◌, Bool, true, false, eqb, cond, nat_lt, arith, rules, replicate, String, List, [], ◌∷◌, ◌++◌, length, set, get_or, Some, None, refl, sym, ap, ◌∙◌, position}
use Rattle.std.specs.List.{position_or_len}
use Rattle.std.specs.Str.{bytes_eq}
use Rattle.std.proofs.lemmas.List.{length-append, length-set, get_or-set_other, get_or-replicate}
use Rattle.std.proofs.lemmas.List.Folds.{position_or_len_push}
use Rattle.std.proofs.lemmas.List.Sums.{prefix_len-le-length}
use Rattle.std.proofs.lemmas.Grind.{get_or-set_at}
use borrow.Author.Tests.{eqb-true, eqb-false, eq-eqb, lt-ltb, le-ltb}
use Rattle.form_names.specs.declared.facts.Facts.{Facts}
use Rattle.form_names.specs.Names.{Entry, entries_of, lookup, AreLawful}
use Rattle.form_names.specs.Letters.{number_of, noted, IsTable}
use Rattle.form_names.proofs.Entries.{passed_over}

-- one that doesn't pass at the end changes nothing
pushed : (n m k l : ℕ) → n ≤ m → k ≡ cond (eqb n m) (m + 1) n → l ≡ m + 1 → cond (nat_lt k l) (Some k) None ≡ cond (nat_lt n m) (Some n) None
pushed n m k l within e s = by (eqb n m) refl
  where
    by : (b : Bool) → eqb n m ≡ b → cond (nat_lt k l) (Some k) None ≡ cond (nat_lt n m) (Some n) None
    by true is =
        let k_is : k ≡ m + 1 = e ∙ ap (λ b. cond b (m + 1) n) is in
        let n_is : n ≡ m = eqb-true n m is in
        let above : nat_lt k l ≡ false = le-ltb k l (omega arith) in
        let there : nat_lt n m ≡ false = le-ltb n m (omega arith) in
        rw (above, there) refl
    by false is =
        let k_is : k ≡ n = e ∙ ap (λ b. cond b (m + 1) n) is in
        let other : n ≢ m = eqb-false n m is in
        let below : nat_lt k l ≡ true = lt-ltb k l (omega arith) in
        let there : nat_lt n m ≡ true = lt-ltb n m (omega arith) in
        rw (below, there) (ap Some k_is)

lookup-push-other : (entries : List Entry) (e : Entry) (name : List ℕ) → bytes_eq name e.name ≡ false → lookup (entries ++ e ∷ []) name ≡ lookup entries name
lookup-push-other entries e name differs =
    let pass : Entry → Bool = λ x. bytes_eq name x.name in
    pushed (position_or_len pass entries) (length entries) (position_or_len pass (entries ++ e ∷ [])) (length (entries ++ e ∷ []))
    (prefix_len-le-length _ entries)
    (position_or_len_push pass entries e ∙ ap (λ b. cond (eqb (position_or_len pass entries) (length entries)) (length entries + cond b 0 1) (position_or_len pass entries)) differs)
    (length-append entries (e ∷ []))

-- a new one that passes is found
ended : (n m k l : ℕ) → n ≡ m → k ≡ cond (eqb n m) (m + 0) n → l ≡ m + 1 → cond (nat_lt k l) (Some k) None ≡ Some m
ended n m k l same e s =
    let k_is : k ≡ m = e ∙ ap (λ b. cond b (m + 0) n) (eq-eqb n m same) ∙ omega arith in
    let below : nat_lt k l ≡ true = lt-ltb k l (omega arith) in
    rw below (ap Some k_is)

lookup-push-new : (entries : List Entry) (e : Entry) (name : List ℕ) → lookup entries name ≡ None → bytes_eq name e.name ≡ true → lookup (entries ++ e ∷ []) name ≡ Some (length entries)
lookup-push-new entries e name none is =
    let pass : Entry → Bool = λ x. bytes_eq name x.name in
    ended (position_or_len pass entries) (length entries) (position_or_len pass (entries ++ e ∷ [])) (length (entries ++ e ∷ []))
    (passed_over _ _ (prefix_len-le-length _ entries) none)
    (position_or_len_push pass entries e ∙ ap (λ b. cond (eqb (position_or_len pass entries) (length entries)) (length entries + cond b 0 1) (position_or_len pass entries)) is)
    (length-append entries (e ∷ []))

other_letter : (a b : ℕ) → eqb a b ≡ false → bytes_eq (a ∷ []) (b ∷ []) ≡ false
other_letter a b is = rw is refl

same_letter : (a b : ℕ) → eqb a b ≡ true → bytes_eq (a ∷ []) (b ∷ []) ≡ true
same_letter a b is = rw is refl

longer : (a b c : ℕ) (cs : List ℕ) → bytes_eq (a ∷ []) (b ∷ c ∷ cs) ≡ false
longer a b c cs = by (eqb a b) refl
  where
    by : (t : Bool) → eqb a b ≡ t → bytes_eq (a ∷ []) (b ∷ c ∷ cs) ≡ false
    by true is = rw is refl
    by false is = rw is refl

-- a further name
pub noted_table : (numbers : List ℕ) (entries : List Entry) (e : Entry) (number : ℕ) → length numbers ≡ 256 → IsTable numbers entries → lookup entries e.name ≡ None → number ≡ suc (length entries)
    → IsTable (noted numbers e.name number) (entries ++ e ∷ [])
noted_table numbers entries e number size table none is letter within = by e.name refl
  where
    rest : bytes_eq (letter ∷ []) e.name ≡ false → get_or numbers letter 0 ≡ number_of (lookup (entries ++ e ∷ []) (letter ∷ []))
    rest differs = table letter within ∙ ap number_of (sym (lookup-push-other entries e (letter ∷ []) differs))

    by_letter : (b : ℕ) → e.name ≡ b ∷ [] → (t : Bool) → eqb letter b ≡ t → get_or (set numbers b number) letter 0 ≡ number_of (lookup (entries ++ e ∷ []) (letter ∷ []))
    by_letter b named true same =
        let at : letter ≡ b = eqb-true letter b same in
        let new : lookup entries (letter ∷ []) ≡ None = ap (λ (n : ℕ). lookup entries (n ∷ [])) at ∙ ap (lookup entries) (sym named) ∙ none in
        let found : lookup (entries ++ e ∷ []) (letter ∷ []) ≡ Some (length entries) =
        lookup-push-new entries e (letter ∷ []) new (ap (bytes_eq (letter ∷ [])) named ∙ same_letter letter b same) in
        get_or-set_at numbers b letter number 0 at (omega (arith, within, size, at)) ∙ is ∙ ap number_of (sym found)
    by_letter b named false other =
        get_or-set_other numbers b letter number 0 (eqb-false letter b other) ∙ rest (ap (bytes_eq (letter ∷ [])) named ∙ other_letter letter b other)

    by : (name : List ℕ) → e.name ≡ name → get_or (noted numbers e.name number) letter 0 ≡ number_of (lookup (entries ++ e ∷ []) (letter ∷ []))
    by [] named = ap (λ (n : List ℕ). get_or (noted numbers n number) letter 0) named ∙ rest (ap (bytes_eq (letter ∷ [])) named)
    by (b ∷ []) named = ap (λ (n : List ℕ). get_or (noted numbers n number) letter 0) named ∙ by_letter b named (eqb letter b) refl
    by (b ∷ c ∷ cs) named = ap (λ (n : List ℕ). get_or (noted numbers n number) letter 0) named ∙ rest (ap (bytes_eq (letter ∷ [])) named ∙ longer letter b c cs)

pub length-noted : (numbers name : List ℕ) (number : ℕ) → length (noted numbers name number) ≡ length numbers
length-noted numbers [] number = refl
length-noted numbers (b ∷ []) number = length-set numbers b number
length-noted numbers (b ∷ c ∷ cs) number = refl

-- a further name at the end of a list
pub noted_push : (new numbers name : List ℕ) (entries : List Entry) (e : Entry) (position : ℕ) → new ≡ noted numbers name (position + 1) → name ≡ e.name → position ≡ length entries → length numbers ≡ 256 → IsTable numbers entries → lookup entries e.name ≡ None
    → (length new ≡ 256) × IsTable new (entries ++ e ∷ [])
noted_push new numbers name entries e position is named at size table none =
    let same : new ≡ noted numbers e.name (position + 1) = is ∙ ap (λ (n : List ℕ). noted numbers n (position + 1)) named in
    (ap length same ∙ length-noted numbers e.name (position + 1) ∙ size, λ letter within. ap (λ (ns : List ℕ). get_or ns letter 0) same ∙ noted_table numbers entries e (position + 1) size table none (omega (arith, at)) letter within)

-- a table of no name
fresh_table : IsTable (replicate 256 0) []
fresh_table letter within = get_or-replicate 256 letter 0 0 within

pub fresh : {A : Type 0} (pairs : List (String A × Facts)) → pairs ≡ [] → (length (entries_of pairs) < 2 ^ 32) × AreLawful (entries_of pairs) × (◌≡◌ {A = ℕ} 256 256) × IsTable (replicate 256 0) (entries_of pairs)
fresh [] e = (omega arith, search rules, refl, fresh_table)
fresh (pair ∷ pairs) e = cc

pub one_letter : (name : List ℕ) → length name ≡ 1 → get_or name 0 0 ∷ [] ≡ name
one_letter [] e = cc
one_letter (a ∷ []) e = refl
one_letter (a ∷ b ∷ name) e = absurd (omega (arith, e))
