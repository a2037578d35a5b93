-- Bytes put into a sink, piece after piece.
use Rattle.std.proofs.Common.{◌≡◌, ℕ, ◌+◌, ◌≤◌, min, List, [], ◌++◌, length, take, Option, Some, None, Result, Ok, Err, sym, ap, ◌∙◌, append_assoc, arith}
use Rattle.std.specs.Prelude.{⊤}
use Rattle.std.specs.Result.{IsErr}
use Rattle.std.proofs.lemmas.List.{append-nil, take-append-le, take_min}
use Rattle.std.proofs.Math.Seq.{take-append-add}
use Rattle.form_outside.specs.Taken.{Takes}

-- a piece that was taken whole, and then another, of which a front may be missing
pub Takes_then : {E : Type 0} → (a b c : Option (List ℕ)) (p q : List ℕ) (done : ⊤) (r : Result ⊤ E) → Takes {E = E} a p b (Ok done) → Takes b q c r → Takes a (p ++ q) c r
Takes_then None b c p q done r first second = tt
Takes_then (Some old) None c p q done r first second = cc
Takes_then (Some old) (Some mid) c p q done (Ok over) first second =
    let same : mid ≡ old ++ p = cc in
    second ∙ ap Some (ap (λ x. x ++ q) same ∙ append_assoc old p q)
Takes_then (Some old) (Some mid) c p q done (Err error) first second =
    let same : mid ≡ old ++ p = cc in
    (length p + second.0, second.1 ∙ ap Some (ap (λ x. x ++ take second.0 q) same ∙ append_assoc old p (take second.0 q) ∙ ap (λ x. old ++ x) (sym (take-append-add p q second.0))))

-- a front of a piece is a front of that piece with more behind it
pub Takes_front : {E F : Type 0} → (a b : Option (List ℕ)) (p q : List ℕ) (error : E) (other : F) → Takes a p b (Err error) → Takes a (p ++ q) b (Err other)
Takes_front None b p q error other front = tt
Takes_front (Some old) b p q error other front =
    let short : min front.0 (length p) ≤ length p = omega arith in
    (min front.0 (length p), front.1 ∙ ap (λ x. Some (old ++ x)) (sym (take-append-le (min front.0 (length p)) p q short ∙ take_min front.0 p)))

-- an error before anything was put
pub Takes_nothing : {E : Type 0} → (a : Option (List ℕ)) (p : List ℕ) (error : E) → Takes a p a (Err error)
Takes_nothing None p error = tt
Takes_nothing (Some old) p error = (0, sym (ap Some (append-nil old)))

-- no piece at all
pub Takes_empty : (E : Type 0) (a : Option (List ℕ)) (done : ⊤) → Takes {E = E} a [] a (Ok done)
Takes_empty E None done = tt
Takes_empty E (Some old) done = sym (ap Some (append-nil old))

-- pieces that were taken whole, and an error before the next one
pub Takes_stop : {E : Type 0} → (a b : Option (List ℕ)) (p q whole : List ℕ) (done : ⊤) (r : Result ⊤ E) → Takes {E = E} a p b (Ok done) → whole ≡ p ++ q → IsErr r → Takes a whole b r
Takes_stop a b p q whole done (Ok over) first parts failed = cc
Takes_stop a b p q whole done (Err error) first parts failed =
    rw parts (Takes_then a b b p q done (Err error) first (Takes_nothing b q error))

-- what an error leaves doesn't depend on which it is
pub Takes_error : {E F : Type 0} → (a b : Option (List ℕ)) (p : List ℕ) (error : E) (other : F) → Takes a p b (Err error) → Takes a p b (Err other)
Takes_error None b p error other front = tt
Takes_error (Some old) b p error other front = front

-- pieces that were taken whole, and a front of the next one
pub Takes_break : {E F : Type 0} → (a b c : Option (List ℕ)) (p q rest whole : List ℕ) (done : ⊤) (error : E) (r : Result ⊤ F) → Takes {E = E} a p b (Ok done) → Takes b q c (Err error) → whole ≡ p ++ (q ++ rest) → IsErr r → Takes a whole c r
Takes_break a b c p q rest whole done error (Ok over) first second parts failed = cc
Takes_break a b c p q rest whole done error (Err other) first second parts failed =
    let either : Takes a (p ++ (q ++ rest)) c (Err error) = Takes_then a b c p (q ++ rest) done (Err error) first (Takes_front b c q rest error error second) in
    rw parts (Takes_error a c (p ++ (q ++ rest)) error other either)
