-- Bindings as they are kept: what the entries stand for once values come behind them, or the last ones go.
use Rattle.std.proofs.Common.{◌≡◌, ℕ, ◌+◌, ◌-◌, ◌≤◌, List, [], ◌∷◌, ◌++◌, length, map, take, drop, refl, sym, ap, ◌∙◌, subst, arith, length-drop, length-append}
use Rattle.std.specs.Prelude.{All, slice_range}
use Rattle.std.proofs.Math.Seq.{drop-append_seam, take-length}
use Rattle.std.proofs.lemmas.List.{drop-append-le, take-append-le, take-append-drop, length-take}
use Rattle.std.proofs.lemmas.List.Elements.{All-nil, All-cons, All-head, All-tail}
use Rattle.form_term.specs.declared.piece.Piece.{Piece}
use Rattle.form_bindings.specs.declared.bindings.Entry.{Entry}
use Rattle.form_bindings.specs.Entries.{IsEntry, binding_in}
use Rattle.form_bindings.specs.Values.{IsValueOf, binding}

range_more : (start end : ℕ) (ps more : List Piece) → start ≤ end → end ≤ length ps → slice_range (ps ++ more) start end ≡ slice_range ps start end
range_more start end ps more begins ends =
    ap (take (end - start)) (drop-append-le start ps more (omega arith))
    ∙ take-append-le (end - start) (drop start ps) more (omega (arith, length-drop start ps))

range_last : (ps more : List Piece) → slice_range (ps ++ more) (length ps) (length ps + length more) ≡ more
range_last ps more =
    let long : (length ps + length more) - length ps ≡ length more = omega arith in
    ap (λ n. take n (drop (length ps) (ps ++ more))) long ∙ ap (take (length more)) (drop-append_seam ps more) ∙ take-length more

value_more : (e : Entry) (ps more : List Piece) → IsEntry ps e → slice_range (ps ++ more) e.start e.end ≡ slice_range ps e.start e.end
value_more e ps more h = range_more e.start e.end ps more h.begins h.ends

entry_more : (ps more : List Piece) (e : Entry) → IsEntry ps e → IsEntry (ps ++ more) e
entry_more ps more e h = record {
  begins = h.begins;
  ends = omega (arith, h.ends, length-append ps more);
  value = subst (IsValueOf e.wildcard) (sym (value_more e ps more h)) h.value;
}

-- pieces behind those of the entries change none of them
pub bindings_more : (ps more : List Piece) (es : List Entry) → All (IsEntry ps) es → map (binding_in (ps ++ more)) es ≡ map (binding_in ps) es
bindings_more ps more [] h = refl
bindings_more ps more (e ∷ es) h =
    let first : binding_in (ps ++ more) e ≡ binding_in ps e = ap (binding e.wildcard) (value_more e ps more (All-head (IsEntry ps) e es h)) in
    let rest = bindings_more ps more es (All-tail (IsEntry ps) e es h) in
    λ i. first i ∷ rest i

pub entries_more : (ps more : List Piece) (es : List Entry) → All (IsEntry ps) es → All (IsEntry (ps ++ more)) es
entries_more ps more [] h = All-nil (IsEntry (ps ++ more))
entries_more ps more (e ∷ es) h = All-cons (IsEntry (ps ++ more)) e es (entry_more ps more e (All-head (IsEntry ps) e es h)) (entries_more ps more es (All-tail (IsEntry ps) e es h))

-- an entry for pieces that come last
pub entry_last : (ps more : List Piece) (e : Entry) → e.start ≡ length ps → e.end ≡ length (ps ++ more) → IsValueOf e.wildcard more → IsEntry (ps ++ more) e
entry_last ps more e begins ends value =
    let is : slice_range (ps ++ more) e.start e.end ≡ more = ap (λ n. slice_range (ps ++ more) n e.end) begins ∙ ap (slice_range (ps ++ more) (length ps)) (ends ∙ length-append ps more) ∙ range_last ps more in
    record {
      begins = omega (arith, begins, ends, length-append ps more);
      ends = omega (arith, ends);
      value = subst (IsValueOf e.wildcard) (sym is) value;
    }

pub binding_last : (ps more : List Piece) (e : Entry) → e.start ≡ length ps → e.end ≡ length (ps ++ more) → binding_in (ps ++ more) e ≡ binding e.wildcard more
binding_last ps more e begins ends =
    ap (binding e.wildcard) (ap (λ n. slice_range (ps ++ more) n e.end) begins ∙ ap (slice_range (ps ++ more) (length ps)) (ends ∙ length-append ps more) ∙ range_last ps more)

-- ---- the last ones go

range_less : (k start end : ℕ) (ps : List Piece) → start ≤ end → end ≤ length ps → end ≤ k → slice_range (take k ps) start end ≡ slice_range ps start end
range_less k start end ps begins ends within =
    sym (range_more start end (take k ps) (drop k ps) begins (omega (arith, length-take k ps)))
    ∙ ap (λ qs. slice_range qs start end) (take-append-drop k ps)

abbrev EndsBy : ℕ → Entry → Type 0
EndsBy k e = e.end ≤ k

pub bindings_less : (k : ℕ) (ps : List Piece) (es : List Entry) → All (IsEntry ps) es → All (λ e. e.end ≤ k) es → map (binding_in (take k ps)) es ≡ map (binding_in ps) es
bindings_less k ps [] h within = refl
bindings_less k ps (e ∷ es) h within =
    let here = All-head (IsEntry ps) e es h in
    let first : binding_in (take k ps) e ≡ binding_in ps e = ap (binding e.wildcard) (range_less k e.start e.end ps here.begins here.ends (All-head (EndsBy k) e es within)) in
    let rest = bindings_less k ps es (All-tail (IsEntry ps) e es h) (All-tail (EndsBy k) e es within) in
    λ i. first i ∷ rest i

pub entries_less : (k : ℕ) (ps : List Piece) (es : List Entry) → All (IsEntry ps) es → All (λ e. e.end ≤ k) es → All (IsEntry (take k ps)) es
entries_less k ps [] h within = All-nil (IsEntry (take k ps))
entries_less k ps (e ∷ es) h within =
    let here = All-head (IsEntry ps) e es h in
    let ends : e.end ≤ k = All-head (EndsBy k) e es within in
    All-cons (IsEntry (take k ps)) e es
    (record {
      begins = here.begins;
      ends = omega (arith, length-take k ps, here.ends, ends);
      value = subst (IsValueOf e.wildcard) (sym (range_less k e.start e.end ps here.begins here.ends ends)) here.value;
    })
    (entries_less k ps es (All-tail (IsEntry ps) e es h) (All-tail (EndsBy k) e es within))

pub map_more : {A B : Type 0} (f : A → B) (xs : List A) (x : A) → map f (xs ++ x ∷ []) ≡ map f xs ++ f x ∷ []
map_more f [] x = refl
map_more f (y ∷ ys) x = ap (λ (zs : List _). f y ∷ zs) (map_more f ys x)
