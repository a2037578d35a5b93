-- The settings that the numbers of all options make.
use Rattle.std.proofs.Common.{◌≡◌, ◌≤◌, ◌+◌, ◌*◌, ℕ, Some, None, refl, codes}
use Rattle.std.proofs.lemmas.Bool.{le-leb}
use Rattle.form_words.specs.Options.{Values, option, number_of, workers, bucket, buffer, fan, max_repeat, max_expand, max_terms, settings_of}

pub no_settings : (values : Values) {w b u f h r : ℕ} → number_of values workers ≡ Some w → number_of values bucket ≡ Some b → number_of values buffer ≡ Some u → number_of values fan ≡ Some f
    → number_of values (option (codes "hold") 1 1000000000 ((w + 1) * u + 4 * (w + 1) * b)) ≡ Some h → number_of values max_repeat ≡ Some r → number_of values max_expand ≡ None
    → settings_of values ≡ None
unfolding settings_of
no_settings values w b u f h r none = rw (w, b, u, f, h, r, none) refl

pub made : (values : Values) {w b u f h r e t : ℕ} → number_of values workers ≡ Some w → number_of values bucket ≡ Some b → number_of values buffer ≡ Some u → number_of values fan ≡ Some f
    → number_of values (option (codes "hold") 1 1000000000 ((w + 1) * u + 4 * (w + 1) * b)) ≡ Some h → number_of values max_repeat ≡ Some r → number_of values max_expand ≡ Some e
    → number_of values max_terms ≡ Some t → (w + 1) * u + b ≤ h → f ≤ u
    → settings_of values ≡ Some (record { workers = w; bucket = b; buffer = u; fan = f; hold = h; max_repeat = r; max_expand = e; max_terms = t })
unfolding settings_of
made values {w} {b} {u} {f} {h} is_w is_b is_u is_f is_h is_r is_e is_t room least =
    rw (is_w, is_b, is_u, is_f, is_h, is_r, is_e, is_t, le-leb ((w + 1) * u + b) h room, le-leb f u least) refl
