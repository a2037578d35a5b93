use Rattle.std.proofs.Common.{◌≡◌, ◌+◌, ◌-◌, ◌^◌, ◌≤◌, true, suc, drop, length, refl, ap, sym, ◌∙◌, rules, arith}
use Rattle.std.proofs.lemmas.List.{length-map}
use Rattle.form_preproc.proofs.Stepping.{behind_block, dropped_within}
use Rattle.form_preproc.specs.Block.{placed, is_opening}
use Rattle.form_preproc.specs.Sources.{lines_in}
use Rattle.form_preproc.proofs.source.Source.behind.Goals as goal

pub returns : goal.returns
returns c =
    let s = c.args.self.now in
    let opens : is_opening c.key.result ≡ true = search rules in
    let few : length (lines_in s) ≤ 2 ^ 64 - 1 =
    omega (arith, length-map s.lines.items (λ line. placed s.name s.number line.line), s.lines.ok.0, s.lines.ok.1, s.lines.small) in
    dropped_within c.close.result c.saturating_add.result (2 ^ 64 - 1) (lines_in s) c.saturating_add.ensures few
    ∙ behind_block (placed s.name s.number c.args.line.now.line) (drop (suc c.args.place) (lines_in s)) (lines_in s) c.close.result (c.close.result + 1)
    (ap is_opening (sym c.key.ensures.kind) ∙ opens) c.close.ensures refl
