use Rattle.std.proofs.Common.{◌≡◌, ap, ◌∙◌, sym, arith, Some, length, List, ℕ, ◌≤◌, subst}
use Rattle.std.specs.Option.{option_map, option_copied}
use Rattle.form_outside.specs.Texts.{text_of}
use Rattle.form_mem.specs.TextMap.{kept_in}
use Rattle.form_mem.proofs.Kept.{text_of_found}
use Rattle.form_mem.proofs.text_map.TextMap.copy_of.Goals as goal

pub returns-in_default-clause-fetched : goal.returns-in_default-clause-fetched
returns-in_default-clause-fetched c =
    text_of_found c.args.self.now.entries c.args.name.now c.get.result c.get.ensures.value ∙ ap (λ found. option_map (λ v. v.items) (option_copied found)) c.in_default.is

pub returns-then-len-max-clause-fetched : goal.returns-then-len-max-clause-fetched
returns-then-len-max-clause-fetched c =
    let found : text_of (kept_in c.args.self.now) c.args.name.now ≡ Some c.in-Some.text.now.items
    = text_of_found c.args.self.now.entries c.args.name.now c.get.result c.get.ensures.value ∙ ap (λ found. option_map (λ v. v.items) (option_copied found)) c.in-Some.is in
    rw found (grind arith)

pub returns-clause-fetched : goal.returns-clause-fetched
returns-clause-fetched c =
    let found : text_of (kept_in c.args.self.now) c.args.name.now ≡ Some c.in-Some.text.now.items
    = text_of_found c.args.self.now.entries c.args.name.now c.get.result c.get.ensures.value ∙ ap (λ found. option_map (λ v. v.items) (option_copied found)) c.in-Some.is in
    let same = sym (c.in_ok-from_slice.ensures.items ∙ c.as_slice.ensures.value) in
    let within : length c.in-Some.text.now.items ≤ c.args.max = grind arith in
    (found ∙ ap Some same, subst (λ (bytes : List ℕ). length bytes ≤ c.args.max) same within)
