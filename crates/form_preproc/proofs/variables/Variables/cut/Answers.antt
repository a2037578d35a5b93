use Rattle.std.proofs.Common.{◌≡◌, ◌<◌, ◌≤◌, get_or, [], length, arith, ap, refl}
use Rattle.std.proofs.lemmas.List.{get_or_read}
use Rattle.form_calc.specs.Stack.{oldest}
use Rattle.std.specs.HashMap.{get_by_text}
use Rattle.form_preproc.specs.Bytes.{is_name}
use Rattle.form_preproc.specs.Kept.{kept_in}
use Rattle.form_preproc.proofs.Stacks.{changed_at, unchanged_at, name_at, none_to_cut}
use Rattle.form_preproc.proofs.variables.Variables.cut.Goals as goal

pub returns-then-height-len : goal.returns-then-height-len
returns-then-height-len c =
    let v = c.args.self.now in
    let stacks = v.stacks.items in
    let place = c.in-Some.place in
    changed_at v.places c.cut_at.new.self.places stacks c.cut_at.new.self.stacks.items v.placed c.args.name.now place (oldest c.args.height) (oldest c.args.height (get_or stacks place [])) (kept_in c.cut_at.new.self).calls (kept_in v).calls
    c.in-Some.ensures c.cut_at.ensures.places c.cut_at.ensures.stacks refl c.cut_at.ensures.calls

pub returns-else-height-len : goal.returns-else-height-len
returns-else-height-len c =
    let v = c.args.self.now in
    let stacks = v.stacks.items in
    let place = c.in-Some.place in
    let within : place < length stacks = v.placed.within c.args.name.now place (name_at (is_name c.args.name.now) (get_by_text v.places c.args.name.now) place c.in-Some.ensures).1 in
    let read : c.index.result.now ≡ get_or stacks place [] = get_or_read stacks place c.index.result.now within c.index.ensures [] in
    unchanged_at v.places stacks v.placed c.args.name.now place (oldest c.args.height) (kept_in v).calls c.in-Some.ensures (none_to_cut (get_or stacks place []) c.args.height (let le : length (get_or stacks place []) ≤ c.args.height = omega (arith, c.if-height-len.false, c.len.ensures, ap length read) in le))
