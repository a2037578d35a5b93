-- What a command is after one more argument.
use Rattle.std.proofs.Common.{◌≡◌, ◌∙◌, false, ap₂}
use Rattle.clap.specs.Words.{AddsArg, App, Rule, app_of, rule_of, with_rule}
use Rattle.clap.specs.declared.builder.arg.Arg.{Arg}
use Rattle.clap.specs.declared.builder.command.Command.{Command}

pub added : (old new : Command) (arg : Arg) {app : App} {rule : Rule} → AddsArg old arg new → arg.global ≡ false → app_of old ≡ app → rule_of arg ≡ rule
    → app_of new ≡ with_rule app rule
added old new arg adds is_local before same = adds.shape is_local ∙ ap₂ with_rule before same
