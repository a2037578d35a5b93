-- The cuts that a word had stay, in their order.
use Rattle.std.proofs.Common.{◌≡◌, ℕ, zero, suc, ◌+◌, Bool, true, false, cond, List, [], ◌∷◌, ◌++◌, Option, Some, None, length, map, take, drop, option_map, refl, sym, ap, subst, ◌∙◌}
use Rattle.std.specs.Prelude.{IfSome}
use Rattle.std.specs.List.{enumerate_from, prefix_len, range_with_len}
use Rattle.std.proofs.lemmas.List.{length-map, take-append-drop}
use Rattle.form_base.specs.declared.taking.Taking.{Taking}
use Rattle.form_base.specs.declared.taking.Taking.TheVariants.{Once, Only, Multi, Many}
use Rattle.form_term.specs.declared.piece.Piece.{Piece}
use Rattle.form_term.specs.Term.{Term}
use Rattle.form_tree.specs.Pattern.{Factors}
use Rattle.form_match.specs.declared.matching.Match.{Match}
use Rattle.form_match.specs.declared.uses.Use.{Use}
use Rattle.form_match.specs.declared.uses.Use.TheVariants as uses
use Rattle.form_match.specs.Matching.{first_of}
use Rattle.form_rewrite.specs.declared.taken.Cut.{Cut}
use Rattle.form_rewrite.specs.declared.taken.Origin.{Origin}
use Rattle.form_rewrite.specs.declared.taken.Origin.TheVariants.{Given, TakenBy}
use Rattle.form_rewrite.specs.declared.taken.Taken.{Taken}
use Rattle.form_rewrite.specs.Taking.{and_match, and_more, and_more_by, cut_at, cut_out, cuts_by, cuts_by_use, is_before, is_idle, moved, multiplied, option_of, take_out, taken_as, taken_many, taken_once, untouched, weight}
use Rattle.form_flow.specs.declared.between.Inserted.{Inserted}
use Rattle.form_flow.specs.Rests.{and_given, numbers_given, place_of}

numbers-append : (cs ds : List Cut) → numbers_given (cs ++ ds) ≡ numbers_given cs ++ numbers_given ds
numbers-append [] ds = refl
numbers-append (c ∷ cs) ds = by c.origin (numbers-append cs ds)
  where
    by : (o : Origin) → numbers_given (cs ++ ds) ≡ numbers_given cs ++ numbers_given ds → and_given o (numbers_given (cs ++ ds)) ≡ and_given o (numbers_given cs) ++ numbers_given ds
    by (Given n) later = ap (λ ns. n ∷ ns) later
    by (TakenBy n) later = later

moved_same : (n : ℕ) (cs : List Cut) → numbers_given (map (moved n) cs) ≡ numbers_given cs
moved_same n [] = refl
moved_same n (c ∷ cs) = ap (and_given c.origin) (moved_same n cs)

-- a stretch that is taken out
stretch_same : (start n k : ℕ) (cs : List Cut) → numbers_given (cut_out start n (TakenBy k) cs) ≡ numbers_given cs
unfolding cut_out
stretch_same start n k cs =
    let m = prefix_len (is_before (start + n)) cs in
    numbers-append (take m cs) (cut_at start (TakenBy k) ∷ map (moved n) (drop m cs))
    ∙ ap (λ ns. numbers_given (take m cs) ++ ns) (moved_same n (drop m cs))
    ∙ sym (numbers-append (take m cs) (drop m cs))
    ∙ ap numbers_given (take-append-drop m cs)

use_same : (k : ℕ) (u : Use) (cs : List Cut) → numbers_given (cuts_by_use (TakenBy k) cs u) ≡ numbers_given cs
use_same k (uses.Stretch start n) cs = stretch_same start n k cs
use_same k _ cs = refl

uses_same : (k : ℕ) (us : List Use) (cs : List Cut) → numbers_given (cuts_by (TakenBy k) cs us) ≡ numbers_given cs
uses_same k [] cs = refl
uses_same k (u ∷ us) cs = uses_same k us (cuts_by_use (TakenBy k) cs u) ∙ use_same k u cs

-- a match more
match_same : (x : Taken) (m : Match) → numbers_given (and_match x m).cuts ≡ numbers_given x.cuts
match_same x m = uses_same (length x.matches) m.takes x.cuts

more_same : (n : ℕ) (table : List (Option (List Piece))) (fs : Factors) (x : Taken) → numbers_given (and_more n table fs x).cuts ≡ numbers_given x.cuts
unfolding and_more
more_same zero table fs x = refl
more_same (suc n) table fs x = by (first_of table fs x.left (map (λ c. c.place) x.cuts) false) (λ y. more_same n table fs y)
  where
    idle : (b : Bool) (m : Match) → ((y : Taken) → numbers_given (and_more n table fs y).cuts ≡ numbers_given y.cuts) → numbers_given (cond b x (and_more n table fs (and_match x m))).cuts ≡ numbers_given x.cuts
    idle true m later = refl
    idle false m later = later (and_match x m) ∙ match_same x m

    by : (m : Option Match) → ((y : Taken) → numbers_given (and_more n table fs y).cuts ≡ numbers_given y.cuts) → numbers_given (and_more_by (λ y. and_more n table fs y) x m).cuts ≡ numbers_given x.cuts
    by None later = refl
    by (Some m) later = idle (is_idle m) m later

-- the places at which the word was cut before
given_from : (i : ℕ) (places : List ℕ) → numbers_given (map (λ (e : ℕ × ℕ). cut_at e.1 (Given e.0)) (enumerate_from i places)) ≡ range_with_len i (length places)
given_from i [] = refl
given_from i (p ∷ places) = ap (λ ns. i ∷ ns) (given_from (i + 1) places)

-- they are all there
abbrev pub KeepsGiven : List ℕ → Taken → Type 0
KeepsGiven places x = numbers_given x.cuts ≡ range_with_len 0 (length places)

module _ (table : List (Option (List Piece))) (fs : Factors) (t : Term) (places : List ℕ) where
  once_keeps : (m : Option Match) → IfSome (taken_once (untouched t places) m) (KeepsGiven places)
  once_keeps None = tt
  once_keeps (Some m) = match_same (untouched t places) m ∙ given_from 0 places

  multi_keeps : (m : Option Match) → IfSome (option_map (multiplied (untouched t places)) m) (KeepsGiven places)
  multi_keeps None = tt
  multi_keeps (Some m) = given_from 0 places

  many_keep : (x : Option Taken) → IfSome x (KeepsGiven places) → IfSome (taken_many table fs x) (KeepsGiven places)
  many_keep None h = tt
  many_keep (Some x) h = more_same (weight x.left + 1) table fs x ∙ h

  keeps_as : (o : Taking) → IfSome (taken_as o table fs t places) (KeepsGiven places)
  keeps_as Once = once_keeps (first_of table fs t places false)
  keeps_as Only = once_keeps (first_of table fs t places true)
  keeps_as Multi = multi_keeps (first_of table fs t places false)
  keeps_as Many = many_keep (taken_once (untouched t places) (first_of table fs t places false)) (once_keeps (first_of table fs t places false))

  -- What a pattern takes leaves each cut that was there.
  pub cuts_stay : (option : Option Taking) (x : Taken) → Some x ≡ take_out table fs option t places → KeepsGiven places x
  unfolding take_out
  cuts_stay option x is = subst (λ (o : Option Taken). IfSome o (KeepsGiven places)) (sym is) (keeps_as (option_of option fs))

pub so_many : (places : List ℕ) (between : List Inserted) → places ≡ map place_of between → range_with_len 0 (length places) ≡ range_with_len 0 (length between)
so_many places between is = ap (range_with_len 0) (ap length is ∙ length-map between place_of)
