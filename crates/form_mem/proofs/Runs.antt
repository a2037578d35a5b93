-- The runs of a store, their bytes and their lengths.
use Rattle.std.proofs.Common.{◌≡◌, ℕ, zero, suc, ◌+◌, ◌<◌, ◌^◌, List, [], ◌∷◌, ◌++◌, Option, Some, None, Vec, length, length-append, map, set, get_or, refl, sym, ap, subst, ◌∙◌, arith, lit<, length-set, get_or-set_same}
use Rattle.std.specs.Option.{option_map, unwrap_or, IsSome, IfSome, is_some}
use Rattle.std.proofs.lemmas.List.{map-set, set-get_or}
use Rattle.form_outside.specs.Runs.{Contents, IsLive, length_of, lengths_in, bytes_of, Appended, KeepsOthers}
use Rattle.form_mem.specs.Store.{held_bytes}

-- the length of a run is that of its bytes
pub length_of-lengths_in : (runs : Contents) (run : ℕ) → length_of (lengths_in runs) run ≡ length (bytes_of runs run)
length_of-lengths_in [] run = refl
length_of-lengths_in (None ∷ runs) zero = refl
length_of-lengths_in (Some bytes ∷ runs) zero = refl
length_of-lengths_in (x ∷ runs) (suc run) = length_of-lengths_in runs run

-- a run that takes its bytes again is as it was
set_bytes_of : (runs : Contents) (run : ℕ) → IsLive (lengths_in runs) run → set runs run (Some (bytes_of runs run)) ≡ runs
set_bytes_of [] run live = refl
set_bytes_of (None ∷ runs) zero live = cc
set_bytes_of (Some bytes ∷ runs) zero live = refl
set_bytes_of (x ∷ runs) (suc run) live = ap (λ rest. x ∷ rest) (set_bytes_of runs run live)

-- the lengths, after a run has got more bytes
pub lengths-Appended : (runs new : Contents) (run : ℕ) (bytes : List ℕ) → new ≡ Appended run bytes runs →
    lengths_in new ≡ set (lengths_in runs) run (Some (length_of (lengths_in runs) run + length bytes))
lengths-Appended runs new run bytes is =
    ap lengths_in is
    ∙ map-set (option_map length) runs run (Some (bytes_of runs run ++ bytes))
    ∙ ap (λ n. set (lengths_in runs) run (Some n))
    (length-append (bytes_of runs run) bytes ∙ ap (λ n. n + length bytes) (sym (length_of-lengths_in runs run)))

-- the lengths, after a run was removed
pub lengths-removed : (runs new : Contents) (run : ℕ) → new ≡ set runs run None → lengths_in new ≡ set (lengths_in runs) run None
lengths-removed runs new run is = ap lengths_in is ∙ map-set (option_map length) runs run None

-- where nothing changed, no other run changed
pub KeepsOthers-same : (runs new : Contents) (run : ℕ) → IsLive (lengths_in runs) run → new ≡ runs →
    KeepsOthers (lengths_in runs) (Some runs) run (lengths_in new) (Some new)
KeepsOthers-same runs new run live same =
    let again : new ≡ set runs run (Some (bytes_of runs run)) = same ∙ sym (set_bytes_of runs run live) in
    record {
      lengths = (length (bytes_of runs run), ap lengths_in again ∙ map-set (option_map length) runs run (Some (bytes_of runs run)));
      contents = (bytes_of runs run, ap Some again);
    }

-- the bytes of the run that stands at a place
pub bytes_of-held : {A : Type 0} (runs : List (Option (Vec ℕ A))) (run : ℕ) (held : Option (Vec ℕ A)) → run < length runs → held ≡ get_or runs run held →
    bytes_of (map held_bytes runs) run ≡ unwrap_or (held_bytes held) []
bytes_of-held [] run held lt is = absurd (omega arith)
bytes_of-held (x ∷ runs) zero held lt is = ap (λ held. unwrap_or (held_bytes held) []) (sym is)
bytes_of-held (x ∷ runs) (suc run) held lt is = bytes_of-held runs run held (omega arith) is

-- a run that is live was made
pub live_within : {A : Type 0} (runs : List (Option (Vec ℕ A))) (run : ℕ) → IsLive (lengths_in (map held_bytes runs)) run → run < length runs
live_within [] run live = cc
live_within (x ∷ runs) zero live = omega arith
live_within (x ∷ runs) (suc run) live = let le = live_within runs run live in omega arith

-- a run that is live has bytes
pub live_held : {A : Type 0} (runs : List (Option (Vec ℕ A))) (run : ℕ) (held : Option (Vec ℕ A)) → IsLive (lengths_in (map held_bytes runs)) run →
    held ≡ get_or runs run held → IsSome held
live_held [] run held live is = cc
live_held (None ∷ runs) zero held live is = cc
live_held (Some bytes ∷ runs) zero held live is = ap is_some is
live_held (x ∷ runs) (suc run) held live is = live_held runs run held live is

-- a held run has fewer than 2^63 bytes, where each vector has
small_held : {A : Type 0} (held : Option (Vec ℕ A)) → IfSome held (λ bytes. length bytes.items < 2 ^ 63) → length (unwrap_or (held_bytes held) []) < 2 ^ 63
small_held None small = lit< tt
small_held (Some bytes) small = small

-- the bytes of the runs, after one took another value
pub held-set : {A : Type 0} (runs : List (Option (Vec ℕ A))) (run : ℕ) (held : Option (Vec ℕ A)) →
    map held_bytes (set runs run held) ≡ set (map held_bytes runs) run (held_bytes held)
held-set runs run held = map-set held_bytes runs run held

-- a run that got more bytes
pub held-extended : {A : Type 0} (runs : List (Option (Vec ℕ A))) (run : ℕ) (old new : Option (Vec ℕ A)) (bytes : List ℕ) →
    run < length runs → old ≡ get_or runs run old → held_bytes new ≡ Some (unwrap_or (held_bytes old) [] ++ bytes) →
    map held_bytes (set runs run new) ≡ Appended run bytes (map held_bytes runs)
held-extended runs run old new bytes within was is =
    held-set runs run new ∙ ap (set (map held_bytes runs) run) (is ∙ ap (λ front. Some (front ++ bytes)) (sym (bytes_of-held runs run old within was)))

-- a run that took a value of the same bytes
pub held-unchanged : {A : Type 0} (runs : List (Option (Vec ℕ A))) (run : ℕ) (old new : Option (Vec ℕ A)) →
    old ≡ get_or runs run old → held_bytes new ≡ held_bytes old → map held_bytes (set runs run new) ≡ map held_bytes runs
held-unchanged runs run old new was is =
    held-set runs run new ∙ ap (set (map held_bytes runs) run) is ∙ sym (held-set runs run old)
    ∙ ap (λ held. map held_bytes (set runs run held)) was ∙ ap (map held_bytes) (set-get_or runs run old)

-- the length of a run that took a value
pub length_held_small : {A : Type 0} (runs : List (Option (Vec ℕ A))) (run : ℕ) (held : Option (Vec ℕ A)) → run < length runs →
    IfSome held (λ bytes. length bytes.items < 2 ^ 63) → length_of (lengths_in (map held_bytes (set runs run held))) run < 2 ^ 63
length_held_small runs run held within small =
    let inside : run < length (set runs run held) = omega (arith, length-set runs run held) in
    let same = length_of-lengths_in (map held_bytes (set runs run held)) run
    ∙ ap length (bytes_of-held (set runs run held) run held inside (sym (get_or-set_same runs run held held within))) in
    subst (λ n. n < 2 ^ 63) (sym same) (small_held held small)
