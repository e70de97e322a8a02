use Rattle.lp_text.proofs.Unbroken.{first_read, first_refused, line_read, line_refused}
use Rattle.lp_text.proofs.stream.take_line.Goals as goal

pub returns-in-Err-clause-fault : goal.returns-in-Err-clause-fault
returns-in-Err-clause-fault c = rw c.in-Some.is (line_refused c.args.line.now c.requires.line c.args.number.now c.in-Some.parser c.in-Err.fault c.at.result c.in-Err.ensures c.at.ensures)

pub returns-in_default-clause-read : goal.returns-in_default-clause-read
returns-in_default-clause-read c = rw c.in-Some.is (line_read c.args.line.now c.requires.line c.args.number.now c.in-Some.parser _ c.in_default.ensures)

pub returns-in-Err-parser_of-clause-fault : goal.returns-in-Err-parser_of-clause-fault
returns-in-Err-parser_of-clause-fault c = rw c.in-None.is (first_refused c.args.line.now c.requires.line c.in-Err-parser_of.fault c.in-Err-parser_of.ensures.form)

pub returns-in-Ok-clause-read : goal.returns-in-Ok-clause-read
returns-in-Ok-clause-read c = rw c.in-None.is (first_read c.args.line.now c.requires.line c.in-Ok.begun c.in-Ok.ensures.form c.in-Ok.ensures.empty)
