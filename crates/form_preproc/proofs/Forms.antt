-- Instructions are read exactly from what is written as they are.
use Rattle.std.proofs.Common.{◌≡◌, ℕ, suc, ◌+◌, ◌-◌, ◌≤◌, Bool, true, false, if◌then◌else◌, cond, List, [], ◌∷◌, ◌++◌, length, take, drop, get_or, Option, Some, None, refl, sym, ap, ap₂, ◌∙◌, subst, arith, length-append, append-nil, drop-cons}
use Rattle.std.specs.Prelude.{◌==◌, ◌||◌, ◌&&◌, nat_le, option_map, slice_index}
use Rattle.std.specs.Char.{is_ascii_alphabetic, is_ascii_alphanumeric}
use Rattle.std.specs.Int.{is_in_range}
use Rattle.std.specs.List.{list_all, prefix_len}
use Rattle.std.proofs.Math.ListN.{drop_of_length-le}
use Rattle.std.proofs.Math.Seq.{take-append_seam, drop-append_seam, get_or-append_seam}
use Rattle.std.proofs.lemmas.Bool.{le-leb, leb-true, eqb-true, eq-eqb, and_parts, and_from}
use Rattle.std.proofs.lemmas.List.{take-append-drop}
use Rattle.std.proofs.lemmas.Option.{same_Some}
use Rattle.form_lines.specs.Program.{is_blank, after_blanks}
use Rattle.form_preproc.specs.Bytes.{is_name, named, between}
use Rattle.form_preproc.specs.Forms.{AreBlanks, IsDefinition, IsHead, bare, with_parts, IsAsked, alone, quoted}
use Rattle.form_preproc.specs.Instruction.{defined_in, definition, headed, head_of, parts_in, parts_behind, asked_in, asked_name}
use Rattle.form_preproc.specs.declared.instruction.Head.{Head}
use Rattle.form_preproc.specs.declared.parts.Parting.{Parting}

pub found : {A : Type 0} (b : Bool) (x y : A) → (if b then Some x else None) ≡ Some y → (b ≡ true) × (x ≡ y)
found true x y e = (refl, same_Some x y e)
found false x y e = absurd cc

-- ---- between two bytes

abbrev between_by : Bool → Bool → Bool → List ℕ → Option (List ℕ)
between_by long opens closes inner = if long && (opens && closes) then Some inner else None

pub between_written : (opening closing : ℕ) (inner : List ℕ) → between opening closing (opening ∷ (inner ++ closing ∷ [])) ≡ Some inner
between_written opening closing inner =
    let text : List ℕ = opening ∷ (inner ++ closing ∷ []) in
    let size : length text ≡ length inner + 2 = omega (arith, length-append inner (closing ∷ [])) in
    let last : length text - 1 ≡ suc (length inner) = omega (arith, size) in
    let less : length text - 2 ≡ length inner = omega (arith, size) in
    let long : nat_le 2 (length text) ≡ true = le-leb 2 (length text) (omega (arith, size)) in
    let opens : (slice_index text 0 == opening) ≡ true = eq-eqb opening opening refl in
    let closes : (slice_index text (length text - 1) == closing) ≡ true = eq-eqb (slice_index text (length text - 1)) closing (ap (λ (k : ℕ). slice_index text k) last ∙ get_or-append_seam inner closing [] 0) in
    let held : take (length text - 2) (drop 1 text) ≡ inner = ap (λ (k : ℕ). take k (inner ++ closing ∷ [])) less ∙ take-append_seam inner (closing ∷ []) in
    λ i. between_by (long i) (opens i) (closes i) (held i)

-- a list of one element at least ends with its last one
last_behind : (xs : List ℕ) → 1 ≤ length xs → xs ≡ take (length xs - 1) xs ++ get_or xs (length xs - 1) 0 ∷ []
last_behind xs some =
    let n = length xs - 1 in
    sym (take-append-drop n xs)
    ∙ ap (λ (ys : List ℕ). take n xs ++ ys) (drop-cons xs n 0 (omega (arith, some)) ∙ ap (λ (ys : List ℕ). get_or xs n 0 ∷ ys) (drop_of_length-le xs {i = suc n} (omega (arith, some))))

pub between_from : (opening closing : ℕ) (text inner : List ℕ) → between opening closing text ≡ Some inner → text ≡ opening ∷ (inner ++ closing ∷ [])
between_from opening closing [] inner e = absurd cc
between_from opening closing (x ∷ xs) inner e =
    let text : List ℕ = x ∷ xs in
    let f = found (nat_le 2 (length text) && ((slice_index text 0 == opening) && (slice_index text (length text - 1) == closing))) (take (length text - 2) (drop 1 text)) inner e in
    let long = and_parts (nat_le 2 (length text)) ((slice_index text 0 == opening) && (slice_index text (length text - 1) == closing)) f.0 in
    let both = and_parts (slice_index text 0 == opening) (slice_index text (length text - 1) == closing) long.1 in
    let size : 2 ≤ length text = leb-true 2 (length text) long.0 in
    let some : 1 ≤ length xs = omega (arith, size) in
    let opens : x ≡ opening = eqb-true x opening both.0 in
    let place : suc (length xs - 1) ≡ length text - 1 = omega (arith, some) in
    let closes : get_or xs (length xs - 1) 0 ≡ closing = ap (λ (k : ℕ). slice_index text k) place ∙ eqb-true (slice_index text (length text - 1)) closing both.1 in
    let less : length xs - 1 ≡ length text - 2 = omega (arith, some) in
    let held : take (length xs - 1) xs ≡ inner = ap (λ (k : ℕ). take k xs) less ∙ f.1 in
    ap₂ (λ (y : ℕ) (ys : List ℕ). y ∷ ys) opens (last_behind xs some ∙ ap₂ (λ (ys : List ℕ) (y : ℕ). ys ++ y ∷ []) held closes)

-- ---- names and blanks

letter : (c : ℕ) → is_ascii_alphabetic c ≡ true → is_ascii_alphanumeric c ≡ true
letter c e = by (is_in_range 48 57 c) (is_in_range 65 90 c) (is_in_range 97 122 c) e
  where
    by : (digit upper lower : Bool) → (upper || lower) ≡ true → ((digit || upper) || lower) ≡ true
    by true upper lower e = refl
    by false true lower e = refl
    by false false true e = refl
    by false false false e = absurd cc

pub all_in_name : (name : List ℕ) → is_name name ≡ true → list_all is_ascii_alphanumeric name ≡ true
all_in_name [] e = absurd cc
all_in_name (c ∷ cs) e =
    let both = and_parts (is_ascii_alphabetic c) (list_all is_ascii_alphanumeric cs) e in
    and_from (is_ascii_alphanumeric c) (list_all is_ascii_alphanumeric cs) (letter c both.0) both.1

front_is : (front rest : List ℕ) → list_all is_ascii_alphanumeric front ≡ true → prefix_len is_ascii_alphanumeric rest ≡ 0 → prefix_len is_ascii_alphanumeric (front ++ rest) ≡ length front
front_is [] rest e none = none
front_is (c ∷ cs) rest e none =
    let both = and_parts (is_ascii_alphanumeric c) (list_all is_ascii_alphanumeric cs) e in
    let more : 1 + length cs ≡ length (c ∷ cs) = omega arith in
    ap (λ (b : Bool). cond b (1 + prefix_len is_ascii_alphanumeric (cs ++ rest)) 0) both.0 ∙ ap (λ (n : ℕ). 1 + n) (front_is cs rest both.1 none) ∙ more

pub blank_in_no_name : (c : ℕ) → is_blank c ≡ true → is_ascii_alphanumeric c ≡ false
blank_in_no_name c e = by (c == 32) (c == 9) refl refl e
  where
    by : (space tab : Bool) → (c == 32) ≡ space → (c == 9) ≡ tab → (space || tab) ≡ true → is_ascii_alphanumeric c ≡ false
    by true tab f g e = subst (λ (x : ℕ). is_ascii_alphanumeric x ≡ false) (sym (eqb-true c 32 f)) refl
    by false true f g e = subst (λ (x : ℕ). is_ascii_alphanumeric x ≡ false) (sym (eqb-true c 9 g)) refl
    by false false f g e = absurd cc

blanks_in_no_name : (blanks rest : List ℕ) → AreBlanks blanks → prefix_len is_ascii_alphanumeric rest ≡ 0 → prefix_len is_ascii_alphanumeric (blanks ++ rest) ≡ 0
blanks_in_no_name [] rest e none = none
blanks_in_no_name (c ∷ cs) rest e none =
    ap (λ (b : Bool). cond b (1 + prefix_len is_ascii_alphanumeric (cs ++ rest)) 0) (blank_in_no_name c (and_parts (is_blank c) (list_all is_blank cs) e).0)

pub after_all : (blanks rest : List ℕ) → AreBlanks blanks → after_blanks rest ≡ rest → after_blanks (blanks ++ rest) ≡ rest
after_all [] rest e same = same
after_all (c ∷ cs) rest e same =
    let both = and_parts (is_blank c) (list_all is_blank cs) e in
    ap (λ (b : Bool). if b then after_blanks (cs ++ rest) else c ∷ (cs ++ rest)) both.0 ∙ after_all cs rest both.1 same

pub record Blanks (text : List ℕ) : Type 0 where
  pub blanks : List ℕ
  pub are : AreBlanks blanks
  pub is : text ≡ blanks ++ after_blanks text

pub blanks_of : (text : List ℕ) → Blanks text
blanks_of [] = record { blanks = []; are = refl; is = refl }
blanks_of (c ∷ cs) = by (is_blank c) refl (blanks_of cs)
  where
    by : (b : Bool) → is_blank c ≡ b → Blanks cs → Blanks (c ∷ cs)
    by true e h = record {
      blanks = c ∷ h.blanks;
      are = and_from (is_blank c) (list_all is_blank h.blanks) e h.are;
      is = ap (λ (ys : List ℕ). c ∷ ys) h.is ∙ ap (λ (b : Bool). c ∷ (h.blanks ++ (if b then after_blanks cs else c ∷ cs))) (sym e);
    }
    by false e h = record { blanks = []; are = refl; is = ap (λ (b : Bool). if b then after_blanks cs else c ∷ cs) (sym e) }

named_written : (name rest : List ℕ) → is_name name ≡ true → prefix_len is_ascii_alphanumeric rest ≡ 0 → named (name ++ rest) ≡ Some (name, after_blanks rest)
named_written name rest is none =
    let text : List ℕ = name ++ rest in
    ap (λ (k : ℕ). if is_name (take k text) then Some (take k text, after_blanks (drop k text)) else None) (front_is name rest (all_in_name name is) none)
    ∙ ap₂ (λ (a b : List ℕ). if is_name a then Some (a, after_blanks b) else None) (take-append_seam name rest) (drop-append_seam name rest)
    ∙ ap (λ (b : Bool). if b then Some (name, after_blanks rest) else None) is

record IsNamed (text name rest : List ℕ) : Type 0 where
  blanks : List ℕ
  are : AreBlanks blanks
  name_is : is_name name ≡ true
  is : text ≡ name ++ (blanks ++ rest)

named_from : (text name rest : List ℕ) → named text ≡ Some (name, rest) → IsNamed text name rest
named_from text name rest e =
    let size = prefix_len is_ascii_alphanumeric text in
    let f = found (is_name (take size text)) (take size text, after_blanks (drop size text)) (name, rest) e in
    let name_same : take size text ≡ name = ap (λ (p : List ℕ × List ℕ). p.0) f.1 in
    let rest_same : after_blanks (drop size text) ≡ rest = ap (λ (p : List ℕ × List ℕ). p.1) f.1 in
    let b = blanks_of (drop size text) in
    record {
      blanks = b.blanks;
      are = b.are;
      name_is = ap is_name (sym name_same) ∙ f.0;
      is = sym (take-append-drop size text) ∙ ap₂ (λ (xs ys : List ℕ). xs ++ ys) name_same (b.is ∙ ap (λ (ys : List ℕ). b.blanks ++ ys) rest_same);
    }

-- ---- definitions

abbrev paired : List ℕ → List ℕ → List ℕ × List ℕ
paired name value = (name, value)

pub definition_written : (text name value : List ℕ) → IsDefinition text name value → definition text ≡ Some (name, value)
definition_written text name value h =
    let quotes : List ℕ = 34 ∷ (value ++ 34 ∷ []) in
    ap definition h.is
    ∙ ap defined_in (named_written name (h.blanks ++ quotes) h.named (blanks_in_no_name h.blanks quotes h.are_blanks refl))
    ∙ ap (λ (rest : List ℕ). defined_in (Some (name, rest))) (after_all h.blanks quotes h.are_blanks refl)
    ∙ ap (option_map (paired name)) (between_written 34 34 value)

pub definition_from : (text name value : List ℕ) → definition text ≡ Some (name, value) → IsDefinition text name value
definition_from text name value e = by (named text) refl e
  where
    held : (n rest : List ℕ) → named text ≡ Some (n, rest) → (o : Option (List ℕ)) → between 34 34 rest ≡ o → option_map (paired n) o ≡ Some (name, value) → IsDefinition text name value
    held n rest is None f e = absurd cc
    held n rest is (Some v) f e =
        let same : (n, v) ≡ (name, value) = same_Some (n, v) (name, value) e in
        let name_same : n ≡ name = ap (λ (p : List ℕ × List ℕ). p.0) same in
        let value_same : v ≡ value = ap (λ (p : List ℕ × List ℕ). p.1) same in
        let h = named_from text n rest is in
        record {
          blanks = h.blanks;
          are_blanks = h.are;
          named = ap is_name (sym name_same) ∙ h.name_is;
          is = h.is ∙ ap₂ (λ (a b : List ℕ). a ++ (h.blanks ++ b)) name_same (between_from 34 34 rest v f ∙ ap (λ (x : List ℕ). 34 ∷ (x ++ 34 ∷ [])) value_same);
        }

    by : (o : Option (List ℕ × List ℕ)) → named text ≡ o → defined_in o ≡ Some (name, value) → IsDefinition text name value
    by None is e = absurd cc
    by (Some (n, rest)) is e = held n rest is (between 34 34 rest) refl e

-- ---- heads of procedures and of calls

pub head_written : (parting : Parting) (text : List ℕ) (h : Head) → IsHead parting text h → head_of parting text ≡ Some h
head_written parting _ _ (bare name blanks is are) =
    let none : prefix_len is_ascii_alphanumeric blanks ≡ 0 = ap (prefix_len is_ascii_alphanumeric) (sym (append-nil blanks)) ∙ blanks_in_no_name blanks [] are refl in
    let gone : after_blanks blanks ≡ [] = ap after_blanks (sym (append-nil blanks)) ∙ after_all blanks [] are refl in
    ap (headed parting) (named_written name blanks is none) ∙ ap (λ (rest : List ℕ). headed parting (Some (name, rest))) gone
head_written parting _ _ (with_parts name blanks inner parts is are e) =
    let held : List ℕ = 40 ∷ (inner ++ 41 ∷ []) in
    ap (headed parting) (named_written name (blanks ++ held) is (blanks_in_no_name blanks held are refl))
    ∙ ap (λ (rest : List ℕ). headed parting (Some (name, rest))) (after_all blanks held are refl)
    ∙ ap (λ (o : Option (List ℕ)). option_map (λ parts. record { name = name; parts = parts }) (parts_in parting o)) (between_written 40 41 inner)
    ∙ ap (option_map (λ parts. record { name = name; parts = parts })) e

abbrev made : List ℕ → List (List ℕ) → Head
made name parts = record { name = name; parts = parts }

pub head_from : (parting : Parting) (text : List ℕ) (h : Head) → head_of parting text ≡ Some h → IsHead parting text h
head_from parting text h e = by (named text) refl e
  where
    with_inner : (n rest : List ℕ) → IsNamed text n rest → (o : Option (List ℕ)) → between 40 41 rest ≡ o → (parts : Option (List (List ℕ))) → parts_in parting o ≡ parts → option_map (made n) parts ≡ Some h → IsHead parting text h
    with_inner n rest is o f None g e = absurd cc
    with_inner n rest is None f (Some parts) g e = absurd cc
    with_inner n rest is (Some inner) f (Some parts) g e =
        subst (λ (t : List ℕ). IsHead parting t h) (sym (is.is ∙ ap (λ (b : List ℕ). n ++ (is.blanks ++ b)) (between_from 40 41 rest inner f)))
        (subst (λ (x : Head). IsHead parting (n ++ (is.blanks ++ 40 ∷ (inner ++ 41 ∷ []))) x) (same_Some (made n parts) h e) (with_parts n is.blanks inner parts is.name_is is.are g))

    behind : (n rest : List ℕ) → IsNamed text n rest → option_map (made n) (parts_behind parting rest) ≡ Some h → IsHead parting text h
    behind n [] is e =
        subst (λ (t : List ℕ). IsHead parting t h) (sym (is.is ∙ ap (λ (b : List ℕ). n ++ b) (append-nil is.blanks)))
        (subst (λ (x : Head). IsHead parting (n ++ is.blanks) x) (same_Some (made n []) h e) (bare n is.blanks is.name_is is.are))
    behind n (c ∷ cs) is e = with_inner n (c ∷ cs) is (between 40 41 (c ∷ cs)) refl (parts_in parting (between 40 41 (c ∷ cs))) refl e

    by : (o : Option (List ℕ × List ℕ)) → named text ≡ o → headed parting o ≡ Some h → IsHead parting text h
    by None is e = absurd cc
    by (Some (n, rest)) is e = behind n rest (named_from text n rest is) e

-- ---- names that are asked for

pub asked_written : (text name : List ℕ) → is_name name ≡ true → IsAsked name text → asked_name text ≡ Some name
asked_written _ name is alone = by (between 96 39 name) refl
  where
    by : (o : Option (List ℕ)) → between 96 39 name ≡ o → asked_in name o ≡ Some name
    by None f = ap (λ (b : Bool). if b then Some name else None) is
    by (Some inner) f = let no : is_name name ≡ false = ap is_name (between_from 96 39 name inner f) in absurd cc
asked_written _ name is quoted = ap (asked_in (96 ∷ (name ++ 39 ∷ []))) (between_written 96 39 name) ∙ ap (λ (b : Bool). if b then Some name else None) is

pub asked_from : (text name : List ℕ) → asked_name text ≡ Some name → (is_name name ≡ true) × IsAsked name text
asked_from text name e = by (between 96 39 text) refl e
  where
    by : (o : Option (List ℕ)) → between 96 39 text ≡ o → asked_in text o ≡ Some name → (is_name name ≡ true) × IsAsked name text
    by None f e =
        let g = found (is_name text) text name e in
        (ap is_name (sym g.1) ∙ g.0, subst (λ (x : List ℕ). IsAsked name x) (sym g.1) alone)
    by (Some inner) f e =
        let g = found (is_name inner) inner name e in
        (ap is_name (sym g.1) ∙ g.0, subst (λ (x : List ℕ). IsAsked name x) (sym (between_from 96 39 text inner f ∙ ap (λ (x : List ℕ). 96 ∷ (x ++ 39 ∷ [])) g.1)) quoted)
