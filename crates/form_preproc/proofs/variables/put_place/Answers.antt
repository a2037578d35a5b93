use Rattle.std.proofs.Common.{Some, cond, ap, ◌∙◌}
use Rattle.std.specs.Str.{bytes_eq}
use Rattle.std.specs.String.{string_bytes}
use Rattle.std.specs.HashMap.{get_by_text}
use Rattle.std.proofs.lemmas.Map.Text.{hash_map_updates_text}
use Rattle.form_preproc.proofs.variables.put_place.Goals as goal

pub returns : goal.returns
returns c = λ other.
    hash_map_updates_text (string_bytes c.in_ok-key.key) c.args.places.now c.insert.new.self (Some c.args.place) c.in_ok-insert.ensures.updates other
    ∙ ap (λ n. cond (bytes_eq n other) (Some c.args.place) (get_by_text c.args.places.now other)) c.in_ok-key.ensures.ok
