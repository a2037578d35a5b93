-- Lines that are kept with their kinds, seen as the lines of a text.
use Rattle.std.proofs.Common.{◌≡◌, ◌<◌, ℕ, zero, suc, Bool, true, false, cond, List, [], ◌∷◌, length, map, drop, get_or, Option, Some, None, Result, Ok, Err, refl, sym, ap, ◌∙◌, subst, arith}
use Rattle.std.proofs.lemmas.List.{drop-map, length-map}
use Rattle.std.proofs.lemmas.Simd.{map-map}
use Rattle.std.proofs.Common.{◌≤◌, ◌-◌, MatchOption, length-drop}
use Rattle.std.proofs.Math.Seq.{drop-cons}
use Rattle.std.specs.Borrow.{Bor}
use Rattle.std.specs.Prelude.{IfSome, IfErr}
use Rattle.std.specs.List.{HoldsAt}
use Rattle.std.proofs.lemmas.List.{nil_from_length}
use Rattle.form_preproc.specs.Sources.{IsRefused, IsChecked}
use Rattle.form_preproc.specs.declared.source.SourceError.{SourceError}
use Rattle.form_preproc.specs.declared.source.SourceError.TheVariants.{Refused, NoMemory}
use Rattle.form_preproc.specs.Block.{taken_up}
use Rattle.form_lines.specs.Text.{lines_but_commentary}
use Rattle.form_base.specs.declared.cause.Cause.{Cause}
use Rattle.form_lines.specs.Text.{PhysicalLine}
use Rattle.form_preproc.specs.Block.{Line, key_in, placed, to_closer, to_end, misnested, or_bad, open_behind, is_opening, is_end, is_closer, nested, unless_misnested}
use Rattle.form_preproc.specs.Key.{key_of}
use Rattle.form_preproc.specs.Links.{IsLink, AreLinks, no_link}
use Rattle.form_preproc.specs.Sources.{lines_in}
use Rattle.form_preproc.specs.declared.key.Key.{Key}
use Rattle.form_preproc.specs.declared.nesting.Open.{Open}
use Rattle.form_preproc.specs.declared.links.Link.{Link}
use Rattle.form_preproc.specs.declared.source.Source.{Source}
use Rattle.form_preproc.specs.declared.source.SourceLine.{SourceLine}

map-cond : {A B : Type 0} (f : A → B) (b : Bool) (u v : List A) → cond b (map f u) (map f v) ≡ map f (cond b u v)
map-cond f true u v = refl
map-cond f false u v = refl

module _ {A B : Type 0} (keyA : A → Key) (keyB : B → Key) (f : A → B) (same : (x : A) → keyB (f x) ≡ keyA x) where
  pub closer-map : (d : ℕ) (xs : List A) → to_closer keyB d (map f xs) ≡ map f (to_closer keyA d xs)
  unfolding to_closer
  closer-map d [] = refl
  closer-map zero (x ∷ xs) = rw (same x, closer-map 1 xs, closer-map 0 xs, map-cond f (is_opening (keyA x)) (to_closer keyA 1 xs) (to_closer keyA 0 xs)) (map-cond f (is_closer (keyA x)) (x ∷ xs) _)
  closer-map (suc d) (x ∷ xs) = rw (same x, closer-map (suc (suc d)) xs, closer-map (suc d) xs, closer-map d xs, map-cond f (is_opening (keyA x)) (to_closer keyA (suc (suc d)) xs) (to_closer keyA (suc d) xs)) (map-cond f (is_end (keyA x)) (to_closer keyA d xs) _)

  pub end-map : (d : ℕ) (xs : List A) → to_end keyB d (map f xs) ≡ map f (to_end keyA d xs)
  unfolding to_end
  end-map d [] = refl
  end-map zero (x ∷ xs) = rw (same x, end-map 1 xs, end-map 0 xs, map-cond f (is_opening (keyA x)) (to_end keyA 1 xs) (to_end keyA 0 xs)) (map-cond f (is_end (keyA x)) (x ∷ xs) _)
  end-map (suc d) (x ∷ xs) = rw (same x, end-map (suc (suc d)) xs, end-map (suc d) xs, end-map d xs, map-cond f (is_opening (keyA x)) (to_end keyA (suc (suc d)) xs) (to_end keyA (suc d) xs)) (map-cond f (is_end (keyA x)) (to_end keyA d xs) _)

or_bad_same : (g h : List Open → Option (Cause × ℕ)) → ((blocks : List Open) → g blocks ≡ h blocks) → (n : ℕ) (o : Option (List Open)) → or_bad g n o ≡ or_bad h n o
or_bad_same g h same n None = refl
or_bad_same g h same n (Some blocks) = same blocks

pub misnested-map : {A B : Type 0} (keyA : A → Key) (keyB : B → Key) (numberA : A → ℕ) (numberB : B → ℕ) (f : A → B) → ((x : A) → keyB (f x) ≡ keyA x) → ((x : A) → numberB (f x) ≡ numberA x)
    → (blocks : List Open) (xs : List A) → misnested keyB numberB blocks (map f xs) ≡ misnested keyA numberA blocks xs
unfolding misnested
misnested-map keyA keyB numberA numberB f same_key same_number blocks [] = refl
misnested-map keyA keyB numberA numberB f same_key same_number blocks (x ∷ xs) =
    rw (same_key x, same_number x) (or_bad_same _ _ (λ more. misnested-map keyA keyB numberA numberB f same_key same_number more xs) (numberA x) (open_behind (keyA x) (numberA x) blocks))

-- ---- a text is taken up

pub nested_lines : (file : List ℕ) (number : ℕ) (lines : List PhysicalLine) (keyed : List SourceLine) → map (λ line. line.line) keyed ≡ lines
    → nested file number (Ok lines) ≡ unless_misnested (map (λ line. placed file number line.line) keyed) (misnested (λ line. line.key) (λ line. line.line.number) [] keyed)
nested_lines file number lines keyed same =
    rw (
      sym same,
      map-map (placed file number) (λ (line : SourceLine). line.line) keyed,
      misnested-map (λ (line : SourceLine). line.key) (λ (line : PhysicalLine). key_of line.text) (λ (line : SourceLine). line.line.number) (λ (line : PhysicalLine). line.number) (λ (line : SourceLine). line.line) (λ x. sym x.keyed) (λ x. refl) [] keyed,
    ) refl

-- ---- what is read of it

pub closer_at : (source : Source) (place : ℕ) → place < length source.lines.items → drop (get_or source.links place (no_link (length source.lines.items))).closer (lines_in source) ≡ to_closer key_in 0 (drop (suc place) (lines_in source))
closer_at source place lt =
    let f : SourceLine → Line = λ line. placed source.name source.number line.line in
    let link = get_or source.links place (no_link (length source.lines.items)) in
    let own : IsLink (λ line. line.key) source.lines.items 0 (suc place) link = source.linked place lt in
    drop-map f link.closer source.lines.items ∙ ap (map f) own.goes_on
    ∙ sym (closer-map (λ (line : SourceLine). line.key) key_in f (λ x. sym x.keyed) 0 (drop (suc place) source.lines.items))
    ∙ ap (to_closer key_in 0) (sym (drop-map f (suc place) source.lines.items))

pub close_at : (source : Source) (place : ℕ) → place < length source.lines.items → drop (get_or source.links place (no_link (length source.lines.items))).close (lines_in source) ≡ to_end key_in 0 (drop (suc place) (lines_in source))
close_at source place lt =
    let f : SourceLine → Line = λ line. placed source.name source.number line.line in
    let link = get_or source.links place (no_link (length source.lines.items)) in
    let own : IsLink (λ line. line.key) source.lines.items 0 (suc place) link = source.linked place lt in
    drop-map f link.close source.lines.items ∙ ap (map f) own.ends
    ∙ sym (end-map (λ (line : SourceLine). line.key) key_in f (λ x. sym x.keyed) 0 (drop (suc place) source.lines.items))
    ∙ ap (to_end key_in 0) (sym (drop-map f (suc place) source.lines.items))

pub line_at : (source : Source) (place : ℕ) (found : Option (Bor SourceLine)) → MatchOption found (length source.lines.items ≤ place) (λ x. (place < length source.lines.items) × HoldsAt (λ y. x.now ≡ y) source.lines.items place)
    → IfSome found (λ x. x.now ≡ get_or source.lines.items place x.now)
    → MatchOption found (drop place (lines_in source) ≡ []) (λ line. (place < length source.lines.items) × (drop place (lines_in source) ≡ placed source.name source.number line.now.line ∷ drop (suc place) (lines_in source)))
line_at source place None past same =
    let f : SourceLine → Line = λ line. placed source.name source.number line.line in
    drop-map f place source.lines.items ∙ ap (map f) (nil_from_length (drop place source.lines.items) (omega (arith, length-drop place source.lines.items)))
line_at source place (Some line) found same =
    let f : SourceLine → Line = λ l. placed source.name source.number l.line in (
      found.0,
      drop-map f place source.lines.items ∙ ap (map f) (drop-cons source.lines.items place line.now found.0 ∙ ap (λ l. l ∷ drop (suc place) source.lines.items) (sym same))
          ∙ ap (λ ls. f line.now ∷ ls) (sym (drop-map f (suc place) source.lines.items)),
    )

-- the lines of a text that nests
pub taken_lines : (file : List ℕ) (number : ℕ) (bytes : List ℕ) (lines : List PhysicalLine) (keyed : List SourceLine) → lines_but_commentary bytes ≡ Ok lines → map (λ line. line.line) keyed ≡ lines
    → misnested (λ line. line.key) (λ line. line.line.number) [] keyed ≡ None → taken_up file number bytes ≡ Ok (map (λ line. placed file number line.line) keyed)
taken_lines file number bytes lines keyed read same fits = ap (nested file number) read ∙ nested_lines file number lines keyed same ∙ ap (unless_misnested (map (λ (line : SourceLine). placed file number line.line) keyed)) fits

pub taken_refusal : (file : List ℕ) (number : ℕ) (bytes : List ℕ) (lines : List PhysicalLine) (keyed : List SourceLine) (cause : Cause) (line : ℕ) → lines_but_commentary bytes ≡ Ok lines → map (λ line. line.line) keyed ≡ lines
    → misnested (λ line. line.key) (λ line. line.line.number) [] keyed ≡ Some (cause, line) → taken_up file number bytes ≡ Err (cause, line)
taken_refusal file number bytes lines keyed cause line read same fits = ap (nested file number) read ∙ nested_lines file number lines keyed same ∙ ap (unless_misnested (map (λ (l : SourceLine). placed file number l.line) keyed)) fits

pub refused_nesting : (file : List ℕ) (number : ℕ) (bytes : List ℕ) (lines : List PhysicalLine) (keyed : List SourceLine) (error : SourceError) → lines_but_commentary bytes ≡ Ok lines → map (λ line. line.line) keyed ≡ lines
    → IsChecked (Err error) (misnested (λ line. line.key) (λ line. line.line.number) [] keyed) → IsRefused error (taken_up file number bytes)
refused_nesting file number bytes lines keyed (Refused cause line) read same h = taken_refusal file number bytes lines keyed cause line read same h
refused_nesting file number bytes lines keyed NoMemory read same h = tt
