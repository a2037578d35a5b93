use Rattle.std.proofs.Common.{◌≡◌, ◌≤◌, ◌++◌, drop, length, ap, ◌∙◌, arith}
use Rattle.std.proofs.lemmas.List.{drop-append-le}
use Rattle.std.proofs.KnownBytes.{append_known-grown, Appends-kept, Keeps-refl}
use Rattle.form_files.proofs.Known.{Takes-Appends}
use Rattle.form_files.proofs.out_sink.OutSinkSink.put.Goals as goal

pub returns-clause-taken : goal.returns-clause-taken
returns-clause-taken g c =
    let start = c.args.self.now.start in
    let old = c.args.self.now.waiting.items in
    let new = c.extend_from_slice.new.self.items in
    let piece = c.args.piece.now in
    let items : new ≡ old ++ piece = c.in_ok-extend_from_slice.ensures.items in
    let within : start ≤ length old = omega (arith, c.args.self.now.in_range, c.args.self.now.waiting.ok) in
    let grown : drop start new ≡ drop start old ++ piece = ap (drop start) items ∙ drop-append-le start old piece within in
    Takes-Appends _ _ piece _ (Appends-kept _ _ _ piece (append_known-grown _ _ (drop start old) (drop start new) piece (Keeps-refl _) grown) c.write_out.ensures.taken)
