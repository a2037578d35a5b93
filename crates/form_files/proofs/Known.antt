-- The bytes that a reader has left and that a writer holds, where they are known.
use Rattle.std.proofs.Common.{◌≡◌, ℕ, ◌+◌, ◌-◌, ◌<◌, ◌≤◌, List, [], ◌++◌, Option, Some, None, Result, Ok, Err, length, length-append, take, drop, sym, ap, ◌∙◌, arith, append-nil, take_all}
use Rattle.std.proofs.lemmas.List.{take-append-drop, take_rest, length-take-le}
use Rattle.std.proofs.Math.Seq.{take-append-add}
use Rattle.std.specs.Prelude.{⊤}
use Rattle.std.specs.Option.{IfSome}
use Rattle.std.specs.Io.KnownBytes.{Keeps, Appends, Consumes}
use Rattle.form_outside.specs.Taken.{Takes}

-- a sink that got the whole piece took it, whatever it answers
pub Takes-Appends : {E : Type 0} (a b : Option (List ℕ)) (piece : List ℕ) (answer : Result ⊤ E) → Appends a b piece → Takes a piece b answer
Takes-Appends None b piece answer appends = tt
Takes-Appends (Some held) None piece answer appends = absurd appends
Takes-Appends (Some held) (Some new) piece (Ok done) appends = ap Some appends
Takes-Appends (Some held) (Some new) piece (Err error) appends = (length piece, ap Some (appends ∙ ap (λ bytes. held ++ bytes) (sym (take_all (length piece) piece (omega arith)))))

-- the bytes written before, and then the front of the rest
pub take_both : (bytes : List ℕ) (written count : ℕ) → written ≤ length bytes →
    take written bytes ++ take count (take (length bytes - written) (drop written bytes)) ≡ take (written + count) bytes
take_both bytes written count within =
    ap (λ rest. take written bytes ++ take count rest) (take_rest bytes written)
    ∙ sym (take-append-add (take written bytes) (drop written bytes) count)
    ∙ ap (λ n. take (n + count) (take written bytes ++ drop written bytes)) (length-take-le written bytes within)
    ∙ ap (take (written + count)) (take-append-drop written bytes)
