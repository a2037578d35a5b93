-- The name of a text that is included is read exactly from what is written as one.
use Rattle.std.proofs.Common.{◌≡◌, ℕ, ◌≤◌, Bool, true, false, List, [], ◌∷◌, ◌++◌, length, reverse, Option, Some, None, refl, sym, ap, ◌∙◌, subst, arith}
use Rattle.std.specs.Prelude.{◌==◌, ◌||◌, ◌&&◌, if◌then◌else◌}
use Rattle.std.specs.List.{list_all, list_any}
use Rattle.std.proofs.lemmas.Bool.{and_parts, and_from, or_parts, or_from}
use Rattle.std.proofs.lemmas.List.{reverse-append, reverse-reverse}
use Rattle.std.proofs.lemmas.List.Folds.{list_all-append, list_any-append}
use Rattle.std.proofs.lemmas.Option.{same_Some}
use Rattle.form_lines.specs.Program.{is_blank, after_blanks}
use Rattle.form_preproc.specs.Bytes.{between, trimmed, is_sign}
use Rattle.form_preproc.specs.Forms.{AreBlanks, IsTextName, bare, in_quotes, IsNamedText, IsIncluded, signed, unsigned}
use Rattle.form_preproc.specs.Instruction.{is_outside_quotes, unless_bad, file_in, file_name, included_name}
use Rattle.form_preproc.proofs.Forms.{between_written, between_from, after_all, blanks_of}

-- ---- blanks at both ends

reversed : (c : ℕ) (cs : List ℕ) → reverse (c ∷ cs) ≡ reverse cs ++ c ∷ []
reversed c cs = reverse-append (c ∷ []) cs

blanks_reversed : (text : List ℕ) → AreBlanks text → AreBlanks (reverse text)
blanks_reversed [] are = refl
blanks_reversed (c ∷ cs) are =
    let both = and_parts (is_blank c) (list_all is_blank cs) are in
    ap (list_all is_blank) (reversed c cs) ∙ list_all-append is_blank (reverse cs) (c ∷ [])
    ∙ and_from (list_all is_blank (reverse cs)) (is_blank c && true) (blanks_reversed cs both.1) (and_from (is_blank c) true both.0 refl)

none_reversed : (text : List ℕ) → list_any is_blank text ≡ false → list_any is_blank (reverse text) ≡ false
none_reversed [] none = refl
none_reversed (c ∷ cs) none =
    let both = or_parts (is_blank c) (list_any is_blank cs) none in
    ap (list_any is_blank) (reversed c cs) ∙ list_any-append is_blank (reverse cs) (c ∷ [])
    ∙ or_from (list_any is_blank (reverse cs)) (is_blank c || false) (none_reversed cs both.1) (or_from (is_blank c) false both.0 refl)

front_stays : (c : ℕ) (rest : List ℕ) → is_blank c ≡ false → after_blanks (c ∷ rest) ≡ c ∷ rest
front_stays c rest e = ap (λ (b : Bool). if b then after_blanks rest else c ∷ rest) e

-- a text that neither begins nor ends with a blank
pub record IsFirm (text : List ℕ) : Type 0 where
  pub front : (rest : List ℕ) → after_blanks (text ++ rest) ≡ text ++ rest
  pub back : after_blanks (reverse text) ≡ reverse text

pub firm : (text : List ℕ) → 1 ≤ length text → list_any is_blank text ≡ false → IsFirm text
firm [] some none = absurd (omega arith)
firm (c ∷ cs) some none = record {
  front = λ rest. front_stays c (cs ++ rest) (or_parts (is_blank c) (list_any is_blank cs) none).0;
  back = by (reverse (c ∷ cs)) (none_reversed (c ∷ cs) none);
}
  where
    by : (text : List ℕ) → list_any is_blank text ≡ false → after_blanks text ≡ text
    by [] none = refl
    by (d ∷ ds) none = front_stays d ds (or_parts (is_blank d) (list_any is_blank ds) none).0

pub trimmed_written : (before text after : List ℕ) → AreBlanks before → AreBlanks after → IsFirm text → trimmed (before ++ (text ++ after)) ≡ text
trimmed_written before text after b a h =
    ap (λ (xs : List ℕ). reverse (after_blanks (reverse xs))) (after_all before (text ++ after) b (h.front after))
    ∙ ap (λ (xs : List ℕ). reverse (after_blanks xs)) (reverse-append text after)
    ∙ ap reverse (after_all (reverse after) (reverse text) (blanks_reversed after a) h.back)
    ∙ reverse-reverse text

pub record IsTrimmed (text : List ℕ) : Type 0 where
  pub before : List ℕ
  pub after : List ℕ
  pub are_before : AreBlanks before
  pub are_after : AreBlanks after
  pub is : text ≡ before ++ (trimmed text ++ after)

pub trimmed_from : (text : List ℕ) → IsTrimmed text
trimmed_from text =
    let front = blanks_of text in
    let back = blanks_of (reverse (after_blanks text)) in
    record {
      before = front.blanks;
      after = reverse back.blanks;
      are_before = front.are;
      are_after = blanks_reversed back.blanks back.are;
      is = front.is ∙ ap (λ (xs : List ℕ). front.blanks ++ xs)
          (sym (reverse-reverse (after_blanks text)) ∙ ap reverse back.is ∙ reverse-append back.blanks (after_blanks (reverse (after_blanks text))));
    }

-- ---- the name of a text

outside_blank : (text : List ℕ) → list_any is_outside_quotes text ≡ false → list_any is_blank text ≡ false
outside_blank [] none = refl
outside_blank (c ∷ cs) none =
    let both = or_parts (is_outside_quotes c) (list_any is_outside_quotes cs) none in
    or_from (is_blank c) (list_any is_blank cs) (or_parts (is_blank c) (c == 34) both.0).0 (outside_blank cs both.1)

firm_name : (name written : List ℕ) → 1 ≤ length name → IsTextName name written → IsFirm written
firm_name name _ some (bare none) = firm name some (outside_blank name none)
firm_name name _ some (in_quotes none) = record {
  front = λ rest. refl;
  back = let turned = reverse-append (34 ∷ name) (34 ∷ []) in ap after_blanks turned ∙ sym turned;
}

unless_written : (is_bad : Bool) (text : List ℕ) → 1 ≤ length text → is_bad ≡ false → unless_bad is_bad text ≡ Some text
unless_written is_bad [] some e = absurd (omega arith)
unless_written is_bad (c ∷ cs) some e = ap (λ (b : Bool). if b then None else Some (c ∷ cs)) e

record IsGood (is_bad : Bool) (text name : List ℕ) : Type 0 where
  good : is_bad ≡ false
  some : 1 ≤ length name
  same : text ≡ name

unless_from : (is_bad : Bool) (text name : List ℕ) → unless_bad is_bad text ≡ Some name → IsGood is_bad text name
unless_from is_bad [] name e = absurd cc
unless_from true (c ∷ cs) name e = absurd cc
unless_from false (c ∷ cs) name e =
    let same = same_Some (c ∷ cs) name e in
    record { good = refl; some = omega (arith, ap length same); same = same }

file_written : (name written : List ℕ) → 1 ≤ length name → IsTextName name written → file_name written ≡ Some name
file_written name _ some (bare none) = by (between 34 34 name) refl
  where
    by : (o : Option (List ℕ)) → between 34 34 name ≡ o → file_in name o ≡ Some name
    by None f = unless_written (list_any is_outside_quotes name) name some none
    by (Some inner) f = let no : list_any is_outside_quotes name ≡ true = ap (list_any is_outside_quotes) (between_from 34 34 name inner f) in absurd cc
file_written name _ some (in_quotes none) =
    ap (file_in (34 ∷ (name ++ 34 ∷ []))) (between_written 34 34 name) ∙ unless_written (list_any (λ c. c == 34) name) name some none

file_from : (name written : List ℕ) → file_name written ≡ Some name → (1 ≤ length name) × IsTextName name written
file_from name written e = by (between 34 34 written) refl e
  where
    by : (o : Option (List ℕ)) → between 34 34 written ≡ o → file_in written o ≡ Some name → (1 ≤ length name) × IsTextName name written
    by None f e =
        let h = unless_from (list_any is_outside_quotes written) written name e in
        (h.some, subst (IsTextName name) (sym h.same) (bare (ap (list_any is_outside_quotes) (sym h.same) ∙ h.good)))
    by (Some inner) f e =
        let h = unless_from (list_any (λ c. c == 34) inner) inner name e in
        (h.some, subst (IsTextName name) (sym (between_from 34 34 written inner f ∙ ap (λ (xs : List ℕ). 34 ∷ (xs ++ 34 ∷ [])) h.same)) (in_quotes (ap (list_any (λ c. c == 34)) (sym h.same) ∙ h.good)))

named_written : (text name : List ℕ) → IsNamedText name text → file_name (trimmed text) ≡ Some name
named_written text name h =
    ap (λ (xs : List ℕ). file_name (trimmed xs)) h.is
    ∙ ap file_name (trimmed_written h.before h.written h.after h.are_before h.are_after (firm_name name h.written h.some h.named))
    ∙ file_written name h.written h.some h.named

named_from : (text name : List ℕ) → file_name (trimmed text) ≡ Some name → IsNamedText name text
named_from text name e =
    let t = trimmed_from text in
    let f = file_from name (trimmed text) e in
    record { before = t.before; written = trimmed text; after = t.after; are_before = t.are_before; are_after = t.are_after; some = f.0; named = f.1; is = t.is }

-- ---- behind a sign or none

pub included_written : (text name : List ℕ) → IsIncluded name text → included_name text ≡ Some name
included_written _ name (signed c rest e h) = ap (λ (b : Bool). file_name (trimmed (if b then rest else c ∷ rest))) e ∙ named_written rest name h
included_written _ name (unsigned [] e h) = named_written [] name h
included_written _ name (unsigned (c ∷ cs) e h) =
    ap (λ (b : Bool). file_name (trimmed (if b then cs else c ∷ cs))) (or_parts (is_sign c) false e).0 ∙ named_written (c ∷ cs) name h

pub included_from : (text name : List ℕ) → included_name text ≡ Some name → IsIncluded name text
included_from [] name e = unsigned [] refl (named_from [] name e)
included_from (c ∷ cs) name e = by (is_sign c) refl e
  where
    by : (b : Bool) → is_sign c ≡ b → file_name (trimmed (if b then cs else c ∷ cs)) ≡ Some name → IsIncluded name (c ∷ cs)
    by true d e = signed c cs d (named_from cs name e)
    by false d e = unsigned (c ∷ cs) (or_from (is_sign c) false d refl) (named_from (c ∷ cs) name e)
