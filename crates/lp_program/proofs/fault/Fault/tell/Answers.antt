use Rattle.std.proofs.Common.{OnOk, subst, sym}
use Rattle.std.specs.Io.KnownBytes.{Appends}
use Rattle.lp_program.specs.Faults.{line_for}
use Rattle.lp_program.specs.declared.fault.Fault.{Fault}
use Rattle.lp_program.proofs.fault.Fault.tell.Goals as goal

pub returns-in-UnknownModel : goal.returns-in-UnknownModel
returns-in-UnknownModel g c =
    subst (λ (fault : Fault). OnOk c.write_all-in-UnknownModel.result (Appends (g.W.Write.contents c.args.writer.now) (g.W.Write.contents c.write_all-in-UnknownModel.new.self) (line_for fault))) (sym c.in-UnknownModel.is)
    c.write_all-in-UnknownModel.ensures.bytes
