use Rattle.std.proofs.Common.{◌≡◌, length, eqb-true, rules, refl, sym, ◌∙◌, arith}
use Rattle.std.proofs.lemmas.List.{nil_from_length}
use Rattle.std.specs.Vec.{vec_len}
use Rattle.form_term.proofs.packed.Packed.from_vec.Goals as goal

pub returns-then-is_empty : goal.returns-then-is_empty
returns-then-is_empty c =
    let all : vec_len c.args.pieces ≡ length c.args.pieces.items = search rules in
    let none : vec_len c.args.pieces ≡ 0 = eqb-true (vec_len c.args.pieces) 0 (sym c.is_empty.ensures ∙ c.if-is_empty.true) in
    (refl, refl, refl, sym (nil_from_length c.args.pieces.items (omega (arith, all, none))))
