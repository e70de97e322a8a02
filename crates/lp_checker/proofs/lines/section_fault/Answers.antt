use Rattle.lp_checker.proofs.lines.section_fault.Goals as goal

pub returns-clause-fault : goal.returns-clause-fault
returns-clause-fault g c = rw c.marks_of.ensures.range at c.fault_in.ensures.fault

pub fault_in-requires-clause-within : goal.fault_in-requires-clause-within
fault_in-requires-clause-within g c = rw c.marks_of.ensures.range c.requires

pub fault_in-requires-clause-marks : goal.fault_in-requires-clause-marks
fault_in-requires-clause-marks g c = rw (c.marks_of.ensures.range, c.as_slice.ensures.value) c.in_ok-marks.ensures.marks
