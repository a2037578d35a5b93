-- Procedures by their names.
use Rattle.std.proofs.Common.{◌≡◌, ℕ, Bool, true, false, cond, List, Option, Some, None, MatchOption, refl, sym, ap, ◌∙◌, String}
use Rattle.std.specs.Global.{Global}
use Rattle.std.specs.Borrow.{Bor}
use Rattle.std.specs.Option.{option_copied, option_map}
use Rattle.std.specs.String.{string_bytes, string_eq}
use Rattle.std.specs.Str.{bytes_eq}
use Rattle.std.specs.HashMap.{HashMap, get_by_text, UpdatesBy}
use Rattle.std.specs.declared.hash.FoldHasher.{FoldHasher}
use Rattle.std.specs.declared.hash.BuildHasherDefault.{BuildHasherDefault}
use Rattle.std.proofs.lemmas.Map.Text.{hash_map_updates_text}
use Rattle.form_preproc.specs.Bytes.{is_name}
use Rattle.form_preproc.specs.Expansion.{Stored, procedure_of, with_procedure}
use Rattle.form_preproc.specs.Procedures.{procedures_in, stored_of}
use Rattle.form_preproc.specs.declared.procedures.Procedure.{Procedure}
use Rattle.form_preproc.specs.declared.procedures.Procedures.{Procedures}

pub found_procedure : (p : Procedures) (name given : List ℕ) (found : Option (Bor Procedure)) → is_name name ≡ true → given ≡ name → option_copied found ≡ get_by_text p.map given
    → MatchOption found (procedure_of (procedures_in p) name ≡ None) (λ x. procedure_of (procedures_in p) name ≡ Some (stored_of x.now))
found_procedure p name given None is same h = rw is (ap (λ n. option_map stored_of (get_by_text p.map n)) (sym same) ∙ ap (option_map stored_of) (sym h))
found_procedure p name given (Some x) is same h = rw is (ap (λ n. option_map stored_of (get_by_text p.map n)) (sym same) ∙ ap (option_map stored_of) (sym h))

map-cond : (b : Bool) (p : Procedure) (o : Option Procedure) → option_map stored_of (cond b (Some p) o) ≡ cond b (Some (stored_of p)) (option_map stored_of o)
map-cond true p o = refl
map-cond false p o = refl

abbrev Kept : Type 0
Kept = HashMap (String Global) Procedure (BuildHasherDefault FoldHasher)

pub stored_procedure : (old new : Kept) (name : List ℕ) (key : String Global) (p : Procedure) → is_name name ≡ true → string_bytes key ≡ name
    → UpdatesBy string_eq (λ k. bytes_eq (string_bytes key) (string_bytes k)) old new (Some p)
    → procedures_in (record { map = new }) ≡ with_procedure (procedures_in (record { map = old })) name (stored_of p)
stored_procedure old new name key p is same updates =
    let at : (other : List ℕ) → option_map stored_of (get_by_text new other) ≡ cond (bytes_eq name other) (Some (stored_of p)) (option_map stored_of (get_by_text old other)) =
    λ other. ap (option_map stored_of) (hash_map_updates_text (string_bytes key) old new (Some p) updates other) ∙ map-cond (bytes_eq (string_bytes key) other) p (get_by_text old other)
    ∙ ap (λ n. cond (bytes_eq n other) (Some (stored_of p)) (option_map stored_of (get_by_text old other))) same in
    rw is (λ j other. at other j)
