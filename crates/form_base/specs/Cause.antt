-- How a cause prints.
use Rattle.std.specs.Prelude.{ℕ, List, ◌∷◌, ◌++◌, codes}
use Rattle.form_base.specs.declared.cause.Cause.{Cause}
use Rattle.form_base.specs.declared.cause.Cause.TheVariants.{BadByte, BadInstruction, Unclosed, UnknownVar, UnknownProcedure, MissingText, WrongArguments, CalcRange, LineLimit, CallDepth, BadSyntax, NoEnd, StatementOrder, Undeclared, Redeclared, WrongKind, NumberRange, Overflow, DivideByZero, PowerRange, TermSize, RepeatBudget, ExpandLimit, TermLimit, TraceTooLong}

-- the variant's name, and behind a blank the name concerned, where there is one
abbrev pub cause_text : Cause → List ℕ
cause_text BadByte = codes "BadByte"
cause_text BadInstruction = codes "BadInstruction"
cause_text Unclosed = codes "Unclosed"
cause_text (UnknownVar name) = codes "UnknownVar " ++ name
cause_text (UnknownProcedure name) = codes "UnknownProcedure " ++ name
cause_text (MissingText name) = codes "MissingText " ++ name
cause_text WrongArguments = codes "WrongArguments"
cause_text CalcRange = codes "CalcRange"
cause_text LineLimit = codes "LineLimit"
cause_text CallDepth = codes "CallDepth"
cause_text BadSyntax = codes "BadSyntax"
cause_text NoEnd = codes "NoEnd"
cause_text StatementOrder = codes "StatementOrder"
cause_text (Undeclared name) = codes "Undeclared " ++ name
cause_text (Redeclared name) = codes "Redeclared " ++ name
cause_text (WrongKind name) = codes "WrongKind " ++ name
cause_text NumberRange = codes "NumberRange"
cause_text Overflow = codes "Overflow"
cause_text DivideByZero = codes "DivideByZero"
cause_text PowerRange = codes "PowerRange"
cause_text TermSize = codes "TermSize"
cause_text RepeatBudget = codes "RepeatBudget"
cause_text ExpandLimit = codes "ExpandLimit"
cause_text TermLimit = codes "TermLimit"
cause_text TraceTooLong = codes "TraceTooLong"
