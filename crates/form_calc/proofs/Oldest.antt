-- What is on top of a stack is at the end of the list that holds it.
use Rattle.std.proofs.Common.{◌≡◌, ℕ, ◌-◌, List, ◌++◌, length, take, drop, reverse, sym, ap, ◌∙◌, arith}
use Rattle.std.proofs.lemmas.List.{reverse-append, length-reverse, take-append-drop, length-drop}
use Rattle.std.proofs.Math.Seq.{drop-append_seam}
use Rattle.form_calc.specs.Stack.{oldest}

pub oldest-reverse : {A : Type 0} (h : ℕ) (v : List A) → reverse (take h v) ≡ oldest h (reverse v)
oldest-reverse {A} h v =
    let parts : reverse v ≡ reverse (drop h v) ++ reverse (take h v) = ap reverse (sym (take-append-drop h v)) ∙ reverse-append (take h v) (drop h v) in
    let above : length (reverse v) - h ≡ length (reverse (drop h v)) = omega (arith, length-reverse v, length-reverse (drop h v), length-drop h v) in
    rw above (sym (drop-append_seam (reverse (drop h v)) (reverse (take h v))) ∙ ap (drop (length (reverse (drop h v)))) (sym parts))
