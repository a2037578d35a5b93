-- Stretches of the word of a term make terms.
use Rattle.std.proofs.Common.{◌≡◌, ℕ, zero, suc, ◌<◌, ◌≤◌, ◌==◌, false, List, [], ◌∷◌, Some, length, take, drop, refl, sym, ap, ◌∙◌, arith}
use Rattle.std.specs.Prelude.{All, nat_abs}
use Rattle.std.specs.List.{sum_by}
use Rattle.std.proofs.lemmas.List.Sums.{sum-map, sum_by-take-le, sum_by-take-drop}
use Rattle.std.proofs.lemmas.List.Elements.{All-take, All-drop, All-nil}
use Rattle.form_term.specs.declared.power.Power.{Power}
use Rattle.form_term.specs.declared.power.DotPower.{DotPower}
use Rattle.form_term.specs.declared.index.Component.{Component}
use Rattle.form_term.specs.declared.index.Delta.{Delta}
use Rattle.form_term.specs.Term.{Term, Call, Others, IsTerm, IsCall, nothing, of_others, size_of_call, depth_of_calls, largest_exponent}
use Rattle.form_term.specs.TermLaws.{nothing_lawful}
use Rattle.form_term.specs.Terms.{term}
use Rattle.form_flow.specs.Words.{front, of_word}

take_depth : (n : ℕ) (cs : List Call) → depth_of_calls (take n cs) ≤ depth_of_calls cs
take_depth zero cs = omega arith
take_depth (suc n) [] = omega arith
take_depth (suc n) (c ∷ cs) = let rest = take_depth n cs in omega (arith, rest)

drop_depth : (n : ℕ) (cs : List Call) → depth_of_calls (drop n cs) ≤ depth_of_calls cs
drop_depth zero cs = omega arith
drop_depth (suc n) [] = omega arith
drop_depth (suc n) (c ∷ cs) = let rest = drop_depth n cs in omega (arith, rest)

pub front_lawful : (n : ℕ) (t : Term) → IsTerm t → IsTerm (front n t)
front_lawful n t h =
    let w = t.others.word in
    record {
      rising = h.rising;
      present = h.present;
      in_range = h.in_range;
      others = record {
        dots_rise = h.others.dots_rise;
        dots_present = h.others.dots_present;
        dots_in_range = h.others.dots_in_range;
        dots_turned = h.others.dots_turned;
        components_rise = h.others.components_rise;
        deltas_rise = h.others.deltas_rise;
        deltas_turned = h.others.deltas_turned;
        functions_rise = h.others.functions_rise;
        functions = h.others.functions;
        word = All-take IsCall n w h.others.word;
      };
      small = omega (arith, h.small, sum-map size_of_call w, sum-map size_of_call (take n w), sum_by-take-le size_of_call w n);
      shallow = omega (arith, h.shallow, take_depth n w);
    }

-- functions of the word of a term, as a term
pub alone_lawful : (t : Term) (w : List Call) → IsTerm t → All IsCall w → sum_by size_of_call w ≤ sum_by size_of_call t.others.word
    → depth_of_calls w ≤ depth_of_calls t.others.word → IsTerm (of_others (record nothing { word = w }))
alone_lawful t w h calls smaller shallower = record {
  rising = tt;
  present = All-nil (λ (p : Power). 0 < nat_abs p.exponent);
  in_range = All-nil (λ (p : Power). nat_abs p.exponent ≤ largest_exponent);
  others = record {
    dots_rise = (nothing_lawful IsCall).dots_rise;
    dots_present = (nothing_lawful IsCall).dots_present;
    dots_in_range = (nothing_lawful IsCall).dots_in_range;
    dots_turned = (nothing_lawful IsCall).dots_turned;
    components_rise = (nothing_lawful IsCall).components_rise;
    deltas_rise = (nothing_lawful IsCall).deltas_rise;
    deltas_turned = (nothing_lawful IsCall).deltas_turned;
    functions_rise = (nothing_lawful IsCall).functions_rise;
    functions = (nothing_lawful IsCall).functions;
    word = calls;
  };
  small = omega (arith, h.small, smaller, sum-map size_of_call w, sum-map size_of_call t.others.word);
  shallow = omega (arith, h.shallow, shallower);
}

pub stretch_lawful : (t : Term) (start n : ℕ) → IsTerm t → IsTerm (of_others (record nothing { word = take n (drop start t.others.word) }))
stretch_lawful t start n h =
    let w = t.others.word in
    let rest = drop start w in
    alone_lawful t (take n rest) h (All-take IsCall n rest (All-drop IsCall start w h.others.word))
    (omega (arith, sum_by-take-le size_of_call rest n, sum_by-take-drop size_of_call w start))
    (omega (arith, take_depth n rest, drop_depth start w))

-- a term of which so many functions of the word are kept
pub front_kept : (n : ℕ) (t : Term) (ps : List Power) (o : Others) (w : List Call) → t ≡ term ps o → w ≡ take n o.word → term ps (record o { word = w }) ≡ front n t
front_kept n t ps o w is kept = ap (λ v. term ps (record o { word = v })) kept ∙ ap (front n) (sym is)

-- functions alone, by their parts
pub alone_is : (ps : List Power) (ds : List DotPower) (cs : List Component) (es : List Delta) (fs w v : List Call)
    → ps ≡ [] → ds ≡ [] → cs ≡ [] → es ≡ [] → fs ≡ [] → w ≡ v
    → term ps (record { is_imaginary = false; dots = ds; components = cs; deltas = es; functions = fs; word = w }) ≡ of_others (record nothing { word = v })
alone_is ps ds cs es fs w v p q r s u x =
    λ i. record { symbols = p i; others = record { is_imaginary = false; dots = q i; components = r i; deltas = s i; functions = u i; word = x i } }

-- functions as a term, where there are some
present_word : (v : List Call) → (length v == 0) ≡ false → Some (of_others (record nothing { word = v })) ≡ of_word v
present_word [] h = cc
present_word (c ∷ cs) h = refl

pub some_word : (w calls copies : List Call) (t : Term) → copies ≡ calls → calls ≡ w → (length calls == 0) ≡ false → t ≡ of_others (record nothing { word = copies })
    → Some t ≡ of_word w
some_word w calls copies t copied same h is =
    ap Some (is ∙ ap (λ (v : List Call). of_others (record nothing { word = v })) copied) ∙ present_word calls h ∙ ap of_word same
