use Rattle.std.proofs.Common.{◌≡◌, ◌-◌, ◌<◌, ◌≤◌, drop, get_or, [], length, arith, ap, ◌∙◌}
use Rattle.std.proofs.lemmas.List.{get_or_read}
use Rattle.form_calc.specs.Stack.{oldest}
use Rattle.std.specs.HashMap.{get_by_text}
use Rattle.form_preproc.specs.Bytes.{is_name}
use Rattle.form_preproc.specs.Kept.{kept_in}
use Rattle.form_preproc.proofs.Stacks.{changed_at, unchanged_at, name_at, oldest_but_one, none_to_take}
use Rattle.form_preproc.proofs.variables.Variables.pop.Goals as goal

pub returns-then-height-gt0 : goal.returns-then-height-gt0
returns-then-height-gt0 c =
    let v = c.args.self.now in
    let stacks = v.stacks.items in
    let place = c.in-Some.place in
    let within : place < length stacks = v.placed.within c.args.name.now place (name_at (is_name c.args.name.now) (get_by_text v.places c.args.name.now) place c.in-Some.ensures).1 in
    let read : c.index.result.now ≡ get_or stacks place [] = get_or_read stacks place c.index.result.now within c.index.ensures [] in
    changed_at v.places c.cut_at.new.self.places stacks c.cut_at.new.self.stacks.items v.placed c.args.name.now place (drop 1) (oldest (c.len-height.result - 1) (get_or stacks place [])) (kept_in c.cut_at.new.self).calls (kept_in v).calls
    c.in-Some.ensures c.cut_at.ensures.places c.cut_at.ensures.stacks (oldest_but_one (get_or stacks place []) c.len-height.result (c.len-height.ensures ∙ ap length read) c.if-height-gt0.true) c.cut_at.ensures.calls

pub returns-else-height-gt0 : goal.returns-else-height-gt0
returns-else-height-gt0 c =
    let v = c.args.self.now in
    let stacks = v.stacks.items in
    let place = c.in-Some.place in
    let within : place < length stacks = v.placed.within c.args.name.now place (name_at (is_name c.args.name.now) (get_by_text v.places c.args.name.now) place c.in-Some.ensures).1 in
    let read : c.index.result.now ≡ get_or stacks place [] = get_or_read stacks place c.index.result.now within c.index.ensures [] in
    unchanged_at v.places stacks v.placed c.args.name.now place (drop 1) (kept_in v).calls c.in-Some.ensures (none_to_take (get_or stacks place []) (let none : length (get_or stacks place []) ≤ 0 = omega (arith, c.if-height-gt0.false, c.len-height.ensures, ap length read) in none))
