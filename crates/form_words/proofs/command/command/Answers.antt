use Rattle.std.proofs.Common.{◌≡◌, ◌∙◌, ap, codes, true}
use Rattle.std.proofs.lemmas.Result.{IfOk-weaker}
use Rattle.clap.specs.Words.{App, app_of, new_app}
use Rattle.clap.specs.Simple.{app_of_fields}
use Rattle.form_words.proofs.Added.{added}
use Rattle.form_words.proofs.command.command.Goals as goal

abbrev without_help : App → App
without_help a = record a { top = record a.top { disable_help_flag = true } }

abbrev without_version : App → App
without_version a = record a { top = record a.top { disable_version_flag = true } }

pub returns : goal.returns
returns c =
    let no_help : app_of c.disable_help_flag.result ≡ without_help (new_app (codes "tform")) =
    ap app_of_fields c.disable_help_flag.ensures ∙ ap without_help c.new.ensures.app in
    let no_flags : app_of c.disable_version_flag.result ≡ without_version (without_help (new_app (codes "tform"))) =
    ap app_of_fields c.disable_version_flag.ensures ∙ ap without_version no_help in
    let a1 = added c.disable_version_flag.result c.in_ok-arg.field-0 c.workers_option.result c.in_ok-arg.ensures c.workers_option.ensures.local no_flags c.workers_option.ensures.rule in
    let a2 = added c.in_ok-arg.field-0 c.in_ok-arg-2.field-0 c.long_option.result c.in_ok-arg-2.ensures c.long_option.ensures.local a1 c.long_option.ensures.rule in
    let a3 = added c.in_ok-arg-2.field-0 c.in_ok-arg-3.field-0 c.long_option-2.result c.in_ok-arg-3.ensures c.long_option-2.ensures.local a2 c.long_option-2.ensures.rule in
    let a4 = added c.in_ok-arg-3.field-0 c.in_ok-arg-4.field-0 c.long_option-3.result c.in_ok-arg-4.ensures c.long_option-3.ensures.local a3 c.long_option-3.ensures.rule in
    let a5 = added c.in_ok-arg-4.field-0 c.in_ok-arg-5.field-0 c.long_option-4.result c.in_ok-arg-5.ensures c.long_option-4.ensures.local a4 c.long_option-4.ensures.rule in
    let a6 = added c.in_ok-arg-5.field-0 c.in_ok-arg-6.field-0 c.long_option-5.result c.in_ok-arg-6.ensures c.long_option-5.ensures.local a5 c.long_option-5.ensures.rule in
    let a7 = added c.in_ok-arg-6.field-0 c.in_ok-arg-7.field-0 c.long_option-6.result c.in_ok-arg-7.ensures c.long_option-6.ensures.local a6 c.long_option-6.ensures.rule in
    let a8 = added c.in_ok-arg-7.field-0 c.in_ok-arg-8.field-0 c.long_option-7.result c.in_ok-arg-8.ensures c.long_option-7.ensures.local a7 c.long_option-7.ensures.rule in
    IfOk-weaker c.arg-9.result _ _ (λ made adds. added c.in_ok-arg-8.field-0 made c.file.result adds c.file.ensures.local a8 c.file.ensures.rule) c.arg-9.ensures
