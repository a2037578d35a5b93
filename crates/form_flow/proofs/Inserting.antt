-- What is put in between the parts of a word that was cut.
use Rattle.std.proofs.Common.{◌≡◌, ℕ, zero, suc, ◌+◌, ◌-◌, ◌<◌, Bool, true, false, ◌||◌, List, [], ◌∷◌, ◌++◌, Option, Some, None, if◌then◌else◌, length, get_or, flat_map, map, take, drop, replicate, refl, sym, ap, subst, ◌∙◌, append_assoc, append-nil, length-drop, arith}
use Rattle.std.specs.List.{range_with_len}
use Rattle.std.specs.Option.{unwrap_or}
use Rattle.std.proofs.lemmas.Grind.{flat_map-append}
use Rattle.std.proofs.lemmas.List.{length-map, map-append, take_all}
use Rattle.form_term.specs.declared.monomial.Monomial.{Monomial}
use Rattle.form_term.specs.Term.{Call}
use Rattle.form_tree.specs.Tree.{Sum}
use Rattle.form_bindings.specs.Values.{Binding}
use Rattle.form_rewrite.specs.declared.taken.Cut.{Cut}
use Rattle.form_rewrite.specs.declared.taken.Origin.{Origin}
use Rattle.form_rewrite.specs.declared.taken.Origin.TheVariants.{Given, TakenBy}
use Rattle.form_rewrite.specs.declared.taken.Taken.{Taken}
use Rattle.form_expand.specs.declared.row.Part.{Part}
use Rattle.form_expand.specs.declared.row.Run.{Run}
use Rattle.form_expand.specs.Expanding.{list_of_sum}
use Rattle.form_expand.specs.Left.{row}
use Rattle.form_expand.specs.Listing.{Listing, single}
use Rattle.form_expand.specs.Meanings.{Meanings, bound_to, no_meanings}
use Rattle.form_expand.specs.Parts.{part_list}
use Rattle.form_expand.specs.Runs.{lists_of, run_lists}
use Rattle.form_flow.specs.declared.between.Inserted.{Inserted}
use Rattle.form_flow.specs.Rests.{ComesAt, and_given, cut_list, first_cut, names_in, numbers_given, place_of, put_in_named, taken_after}
use Rattle.form_flow.specs.Rewriting.{Rest, and_taken, any_match, behind_first, from_cuts, is_by_match, list_of_rest, no_list, put_in_by, right_with, word_factor}
use Rattle.form_flow.specs.Words.{front}

-- ---- cuts with what is put in there

pub places_are : (max : ℕ) (bs : List Inserted) → map place_of bs ≡ map (λ c. c.0) (map (cut_list max) bs)
places_are max [] = refl
places_are max (b ∷ bs) = ap (λ ns. b.place ∷ ns) (places_are max bs)

drop_first : {X : Type 0} (n : ℕ) (xs : List X) (y : X) (ys : List X) (d : X) → drop n xs ≡ y ∷ ys → (get_or xs n d ≡ y) × (drop (n + 1) xs ≡ ys)
drop_first zero [] y ys d e = cc
drop_first zero (x ∷ xs) y ys d e = (cc, cc)
drop_first (suc n) [] y ys d e = cc
drop_first (suc n) (x ∷ xs) y ys d e =
    let p = drop_first n xs y ys d e in
    let same : suc n + 1 ≡ suc (n + 1) = omega arith in
    (p.0, ap (λ m. drop m (x ∷ xs)) same ∙ p.1)

-- the next list that was put in earlier
pub next_list : (max : ℕ) (all : List (ℕ × Listing)) (taken n : ℕ) (old new : List Inserted) (one : Inserted) → taken ≡ n → old ≡ one ∷ new
    → map (cut_list max) old ≡ drop taken all
    → (map (cut_list max) new ≡ drop (n + 1) all) × (part_list max one.list ≡ (get_or all n no_list).1)
next_list max all taken n old new one same is so_far =
    let here : drop n all ≡ cut_list max one ∷ map (cut_list max) new = ap (λ m. drop m all) (sym same) ∙ sym so_far ∙ ap (map (cut_list max)) is in
    let p = drop_first n all (cut_list max one) (map (cut_list max) new) no_list here in
    (sym p.1, sym (ap (λ e. e.1) p.0))

-- what was put in at an earlier cut
pub given_in : (max : ℕ) (s : Sum) (all : List (ℕ × Listing)) (names : List (Option Meanings)) (o : Origin) (n taken : ℕ) (list : Part) (new : List Inserted) → o ≡ Given n → ComesAt taken o
    → (map (cut_list max) new ≡ drop (taken + 1) all) × (part_list max list ≡ (get_or all taken no_list).1)
    → (map (cut_list max) new ≡ drop (taken_after o taken) all) × (part_list max list ≡ put_in_named max s all names o)
given_in max s all names o n taken list new is comes h =
    let at : n ≡ taken = subst (ComesAt taken) is comes in
    (h.0 ∙ ap (λ p. drop (taken_after p taken) all) (sym is), h.1 ∙ ap (λ k. (get_or all k no_list).1) (sym at) ∙ ap (put_in_named max s all names) (sym is))

-- what is put in by a match
pub taken_in : (max : ℕ) (s : Sum) (all : List (ℕ × Listing)) (names : List (Option Meanings)) (o : Origin) (n taken : ℕ) (list : Part) (left : List Inserted) → o ≡ TakenBy n
    → map (cut_list max) left ≡ drop taken all → part_list max list ≡ list_of_sum max (names_in (get_or names n None)) s
    → (map (cut_list max) left ≡ drop (taken_after o taken) all) × (part_list max list ≡ put_in_named max s all names o)
taken_in max s all names o n taken list left is so_far put =
    (so_far ∙ ap (λ p. drop (taken_after p taken) all) (sym is), put ∙ ap (put_in_named max s all names) (sym is))

-- Cuts that are left, and what was put in at earlier ones and isn't taken over yet: the earlier ones come in their order.
pub record Going (max : ℕ) (all : List (ℕ × Listing)) (cuts : List Cut) (left : List Inserted) : Type 0 where
  pub lists : map (cut_list max) left ≡ drop (length all - length left) all
  pub numbers : numbers_given cuts ≡ range_with_len (length all - length left) (length left)

first_number : (t l n : ℕ) (ns : List ℕ) → n ∷ ns ≡ range_with_len t l → (n ≡ t) × (0 < l) × (ns ≡ range_with_len (t + 1) (l - 1))
first_number t zero n ns e = cc
first_number t (suc l) n ns e =
    let here : n ≡ t = cc in
    let behind : ns ≡ range_with_len (t + 1) l = cc in
    let same : suc l - 1 ≡ l = omega arith in
    (here, omega arith, rw same behind)

module _ (max : ℕ) (all : List (ℕ × Listing)) (c : Cut) (cuts rest : List Cut) (left : List Inserted) (is : cuts ≡ c ∷ rest) (going : Going max all cuts left) where
  abbrev taken : ℕ
  taken = length all - length left

  numbers : and_given c.origin (numbers_given rest) ≡ range_with_len taken (length left)
  numbers = ap numbers_given (sym is) ∙ going.numbers

  pub comes_next : ComesAt taken c.origin
  comes_next = by c.origin numbers
    where
      by : (o : Origin) → and_given o (numbers_given rest) ≡ range_with_len taken (length left) → ComesAt taken o
      by (Given n) e = (first_number taken (length left) n (numbers_given rest) e).0
      by (TakenBy n) e = tt

  pub some_left : is_by_match c.origin ≡ false → 0 < length left
  some_left given = by c.origin numbers given
    where
      by : (o : Origin) → and_given o (numbers_given rest) ≡ range_with_len taken (length left) → is_by_match o ≡ false → 0 < length left
      by (Given n) e h = (first_number taken (length left) n (numbers_given rest) e).1
      by (TakenBy n) e h = cc

  pub going_on : (new : List Inserted) → map (cut_list max) new ≡ drop (taken_after c.origin taken) all → Going max all rest new
  going_on new lists = by c.origin numbers lists
    where
      all_left : length left ≡ length all - taken
      all_left = omega (arith, ap length going.lists, length-map left (cut_list max), length-drop taken all)

      by : (o : Origin) → and_given o (numbers_given rest) ≡ range_with_len taken (length left) → map (cut_list max) new ≡ drop (taken_after o taken) all → Going max all rest new
      by (Given n) e h =
          let p = first_number taken (length left) n (numbers_given rest) e in
          let long : length new ≡ length all - (taken + 1) = omega (arith, ap length h, length-map new (cut_list max), length-drop (taken + 1) all) in
          let one_less : length left - 1 ≡ length new = omega (arith, long, all_left, p.1) in
          let next : taken + 1 ≡ length all - length new = omega (arith, long, all_left, p.1) in
          record {
            lists = h ∙ ap (λ k. drop k all) next;
            numbers = p.2 ∙ ap (λ k. range_with_len k (length left - 1)) next ∙ ap (range_with_len (length all - length new)) one_less;
          }
      by (TakenBy n) e h =
          let long : length new ≡ length all - taken = omega (arith, ap length h, length-map new (cut_list max), length-drop taken all) in
          let same : length left ≡ length new = all_left ∙ sym long in
          record {
            lists = h ∙ ap (λ k. drop (length all - k) all) same;
            numbers = e ∙ ap (λ k. range_with_len (length all - k) k) same;
          }

-- before the first cut
pub going_first : (max : ℕ) (before left : List Inserted) (cuts : List Cut) → left ≡ before → numbers_given cuts ≡ range_with_len 0 (length before) → Going max (map (cut_list max) before) cuts left
going_first max before left cuts same given =
    let long : length (map (cut_list max) before) ≡ length left = length-map before (cut_list max) ∙ ap length (sym same) in
    let none : 0 ≡ length (map (cut_list max) before) - length left = omega (arith, long) in
    record {
      lists = ap (map (cut_list max)) same ∙ ap (λ k. drop k (map (cut_list max) before)) none;
      numbers = given ∙ ap (λ k. range_with_len k (length before)) none ∙ ap (λ is. range_with_len (length (map (cut_list max) before) - length left) (length is)) (sym same);
    }

-- a cut, with what is put in by what names stand for
abbrev pub named : ℕ → Sum → List (ℕ × Listing) → List (Option Meanings) → Cut → ℕ × Listing
named max s before names c = (c.place, put_in_named max s before names c.origin)

-- one cut more
pub one_put : (max : ℕ) (s : Sum) (before : List (ℕ × Listing)) (names : List (Option Meanings)) (c : Cut) (rest : List Cut) (list : Part) (made now : List Inserted) (all : List (ℕ × Listing))
    → part_list max list ≡ put_in_named max s before names c.origin → now ≡ made ++ (record { place = c.place; list = list }) ∷ []
    → map (cut_list max) made ++ map (named max s before names) (c ∷ rest) ≡ all → map (cut_list max) now ++ map (named max s before names) rest ≡ all
one_put max s before names c rest list made now all put more so_far =
    let later = map (named max s before names) rest in
    ap (λ is. map (cut_list max) is ++ later) more
    ∙ ap (λ ls. ls ++ later) (map-append (cut_list max) made (record { place = c.place; list = list } ∷ []))
    ∙ append_assoc (map (cut_list max) made) ((c.place, part_list max list) ∷ []) later
    ∙ ap (λ l. map (cut_list max) made ++ (c.place, l) ∷ later) put
    ∙ so_far

-- ---- what names stand for, match by match

get_mapped : {X Y : Type 0} (f : X → Y) (xs : List X) (i : ℕ) (d : X) → get_or (map f xs) i (f d) ≡ f (get_or xs i d)
get_mapped f [] i d = refl
get_mapped f (x ∷ xs) zero d = refl
get_mapped f (x ∷ xs) (suc i) d = get_mapped f xs i d

-- by the bindings of the match
pub by_bindings : (names : List (Option Meanings)) (matches : List (List Binding)) (n : ℕ) → map names_in names ≡ map bound_to matches
    → names_in (get_or names n None) ≡ bound_to (get_or matches n [])
by_bindings names matches n same =
    sym (get_mapped names_in names n None)
    ∙ ap (λ ms. get_or ms n no_meanings) same
    ∙ get_mapped bound_to matches n []

-- ---- what is taken

abbrev by_match : ℕ → Sum → Rest → Taken → Cut → ℕ × Listing
by_match max s r x c = (c.place, put_in_by max s r.cuts x.matches c.origin)

each_cut : (max : ℕ) (s : Sum) (r : Rest) (x : Taken) (names : List (Option Meanings)) (cs : List Cut) → map names_in names ≡ map bound_to x.matches
    → map (named max s r.cuts names) cs ≡ map (by_match max s r x) cs
each_cut max s r x names [] same = refl
each_cut max s r x names (c ∷ cs) same =
    ap (λ l. (c.place, l) ∷ map (named max s r.cuts names) cs) (one c.origin) ∙ ap (λ ls. by_match max s r x c ∷ ls) (each_cut max s r x names cs same)
  where
    one : (o : Origin) → put_in_named max s r.cuts names o ≡ put_in_by max s r.cuts x.matches o
    one (Given n) = refl
    one (TakenBy n) = ap (λ (ms : Meanings). list_of_sum max ms s) (by_bindings names x.matches n same)

-- where no match took a stretch
no_match : (max : ℕ) (s : Sum) (r : Rest) (x : Taken) (cs : List Cut) → any_match cs ≡ false → map (named max s r.cuts []) cs ≡ map (by_match max s r x) cs
no_match max s r x [] h = refl
no_match max s r x (c ∷ cs) h = by c.origin refl h (λ g. no_match max s r x cs g)
  where
    by : (o : Origin) → c.origin ≡ o → (is_by_match o || any_match cs) ≡ false → (any_match cs ≡ false → map (named max s r.cuts []) cs ≡ map (by_match max s r x) cs)
        → map (named max s r.cuts []) (c ∷ cs) ≡ map (by_match max s r x) (c ∷ cs)
    by (Given n) e g later =
        ap (λ o. (c.place, put_in_named max s r.cuts [] o) ∷ map (named max s r.cuts []) cs) e
        ∙ ap (λ o. (c.place, put_in_by max s r.cuts x.matches o) ∷ map (named max s r.cuts []) cs) (sym e)
        ∙ ap (λ ls. by_match max s r x c ∷ ls) (later g)
    by (TakenBy n) e g later = cc

abbrev after : ℕ → Sum → Rest → Taken → List (ℕ × Listing) → Bool → Rest
after max s r x cuts b = record {
  left = x.left;
  cuts = cuts;
  behind = r.behind ++ (if b then [] else flat_map (λ bs. replicate x.times (right_with max s bs)) x.matches);
  has_matched = true;
}

-- a right side stands at its cut
pub put_at_cuts : (max : ℕ) (s : Sum) (r : Rest) (x : Taken) (names : List (Option Meanings)) (between : List Inserted) (behind : List Listing) → any_match x.cuts ≡ true
    → map names_in names ≡ map bound_to x.matches → map (cut_list max) between ≡ map (named max s r.cuts names) x.cuts → behind ≡ r.behind
    → record { left = x.left; cuts = map (cut_list max) between; behind = behind; has_matched = true } ≡ and_taken max s r (Some x)
put_at_cuts max s r x names between behind any same is kept =
    ap (λ ls. record { left = x.left; cuts = map (cut_list max) between; behind = ls; has_matched = true }) (kept ∙ sym (append-nil r.behind))
    ∙ ap (λ cuts. after max s r x cuts true) (is ∙ each_cut max s r x names x.cuts same)
    ∙ ap (after max s r x (map (by_match max s r x) x.cuts)) (sym any)

-- or behind all
pub put_behind_all : (max : ℕ) (s : Sum) (r : Rest) (x : Taken) (between : List Inserted) (behind : List Listing) → any_match x.cuts ≡ false
    → map (cut_list max) between ≡ map (named max s r.cuts []) x.cuts → behind ≡ r.behind ++ flat_map (λ bs. replicate x.times (right_with max s bs)) x.matches
    → record { left = x.left; cuts = map (cut_list max) between; behind = behind; has_matched = true } ≡ and_taken max s r (Some x)
put_behind_all max s r x between behind none is put =
    ap (λ ls. record { left = x.left; cuts = map (cut_list max) between; behind = ls; has_matched = true }) put
    ∙ ap (λ cuts. after max s r x cuts false) (is ∙ no_match max s r x x.cuts none)
    ∙ ap (after max s r x (map (by_match max s r x) x.cuts)) (sym none)

-- ---- the parts of a word

from_some : {X : Type 0} (x y : X) → Some x ≡ Some y → x ≡ y
from_some x y e = ap (λ o. unwrap_or o x) e

-- up to a cut, and what is put in there
pub up_to_cut : (max : ℕ) (w : List Call) (start n : ℕ) (lists made now : List Part) (one : Inserted) (items rest : List Inserted) (all : List Listing)
    → n ≡ one.place - start → map (part_list max) made ≡ map (part_list max) lists ++ word_factor (take n (drop start w)) → now ≡ made ++ one.list ∷ [] → items ≡ one ∷ rest
    → map (part_list max) lists ++ from_cuts w start (map (cut_list max) items) ≡ all → map (part_list max) now ++ from_cuts w one.place (map (cut_list max) rest) ≡ all
up_to_cut max w start n lists made now one items rest all count word is next so_far =
    let f = part_list max in
    let here = word_factor (take (one.place - start) (drop start w)) in
    let later = from_cuts w one.place (map (cut_list max) rest) in
    ap (λ ps. map f ps ++ later) is
    ∙ ap (λ ls. ls ++ later) (map-append f made (one.list ∷ []))
    ∙ append_assoc (map f made) (f one.list ∷ []) later
    ∙ ap (λ ls. ls ++ f one.list ∷ later) (word ∙ ap (λ m. map f lists ++ word_factor (take m (drop start w))) count)
    ∙ append_assoc (map f lists) here (f one.list ∷ later)
    ∙ ap (λ is. map f lists ++ from_cuts w start (map (cut_list max) is)) (sym next)
    ∙ so_far

-- the last part of the word
pub up_to_end : (max : ℕ) (w : List Call) (start n : ℕ) (lists made : List Part) (items : List Inserted) (all : List Listing) → n ≡ length w → items ≡ []
    → map (part_list max) lists ++ from_cuts w start (map (cut_list max) items) ≡ all
    → map (part_list max) made ≡ map (part_list max) lists ++ word_factor (take n (drop start w)) → map (part_list max) made ≡ all
up_to_end max w start n lists made items all count none so_far word =
    word
    ∙ ap (λ v. map (part_list max) lists ++ word_factor v) (take_all n (drop start w) (omega (arith, count, length-drop start w)))
    ∙ ap (λ is. map (part_list max) lists ++ from_cuts w start (map (cut_list max) is)) (sym none)
    ∙ so_far

-- ---- the row

at_first : (w : List Call) (c : ℕ × Listing) (cs : List (ℕ × Listing)) → from_cuts w c.0 (c ∷ cs) ≡ c.1 ∷ from_cuts w c.0 cs
at_first w c cs =
    let nothing_between : c.0 - c.0 ≡ 0 = omega arith in
    ap (λ n. word_factor (take n (drop c.0 w)) ++ c.1 ∷ from_cuts w c.0 cs) nothing_between

pub row_cut : (max : ℕ) (m first : Monomial) (bs : List Inserted) (start : ℕ) (lists : List Part) (runs behind all : List Run) (l : Listing) → Some start ≡ first_cut bs
    → first ≡ record { coefficient = m.coefficient; term = front start m.term } → map (part_list max) lists ≡ from_cuts m.term.others.word start (map (cut_list max) bs)
    → lists_of max runs ≡ map (part_list max) lists → all ≡ runs ++ behind → l ≡ row max (single first ∷ lists_of max all)
    → l ≡ list_of_rest max m (record { left = m.term; cuts = map (cut_list max) bs; behind = lists_of max behind; has_matched = true })
row_cut max m first [] start lists runs behind all l there is words alike put made = cc
row_cut max m first (b ∷ bs) start lists runs behind all l there is words alike put made =
    let w = m.term.others.word in
    let rest = lists_of max behind in
    let same : start ≡ b.place = from_some start b.place there in
    let fronts : first ≡ record { coefficient = m.coefficient; term = front b.place m.term } = is ∙ ap (λ n. record { coefficient = m.coefficient; term = front n m.term }) same in
    let between : map (part_list max) lists ≡ behind_first w (map (cut_list max) (b ∷ bs)) =
    words ∙ ap (λ n. from_cuts w n (map (cut_list max) (b ∷ bs))) same ∙ at_first w (cut_list max b) (map (cut_list max) bs) in
    made
    ∙ ap (λ rs. row max (single first ∷ lists_of max rs)) put
    ∙ ap (λ ls. row max (single first ∷ ls)) (flat_map-append (run_lists max) runs behind)
    ∙ ap (λ ls. row max (single first ∷ ls ++ rest)) (alike ∙ between)
    ∙ ap (λ n. row max (single n ∷ behind_first w (map (cut_list max) (b ∷ bs)) ++ rest)) fronts
