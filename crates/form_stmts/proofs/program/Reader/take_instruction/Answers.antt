use Rattle.std.proofs.Common.{◌≡◌, true, rules}
use Rattle.form_stmts.specs.Instruction.{is_module_instruction}
use Rattle.form_stmts.proofs.Going.{instruction_ends}
use Rattle.form_stmts.proofs.program.Reader.take_instruction.Goals as goal

pub returns-then-is_module_instruction-clause-read : goal.returns-then-is_module_instruction-clause-read
returns-then-is_module_instruction-clause-read c =
    let is : is_module_instruction c.args.line.now.text ≡ true = search rules in
    instruction_ends c.end_module.result c.args.self.now c.leave_statement.new.self c.end_module.new.self c.args.line.now c.in_ok-leave_statement.ensures is c.end_module.ensures.ended
