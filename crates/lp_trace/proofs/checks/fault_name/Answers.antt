use Rattle.std.proofs.Common.{ap, sym, ◌∷◌, decimal}
use Rattle.std.specs.Fmt.{digits}
use Rattle.lp_definitions.specs.Faults.{fault_number}
use Rattle.lp_definitions.specs.declared.cert_fault.CertFault.{CertFault}
use Rattle.lp_trace.proofs.checks.fault_name.Goals as goal

pub returns-in-NoSuchGroup : goal.returns-in-NoSuchGroup
unfolding digits
returns-in-NoSuchGroup c = sym (ap (λ (fault : CertFault). 67 ∷ decimal (fault_number fault)) c.in-NoSuchGroup.is)

pub returns-in-NotOnStack : goal.returns-in-NotOnStack
unfolding digits
returns-in-NotOnStack c = sym (ap (λ (fault : CertFault). 67 ∷ decimal (fault_number fault)) c.in-NotOnStack.is)

pub returns-in-NoBlame : goal.returns-in-NoBlame
unfolding digits
returns-in-NoBlame c = sym (ap (λ (fault : CertFault). 67 ∷ decimal (fault_number fault)) c.in-NoBlame.is)

pub returns-in-Gap : goal.returns-in-Gap
unfolding digits
returns-in-Gap c = sym (ap (λ (fault : CertFault). 67 ∷ decimal (fault_number fault)) c.in-Gap.is)

pub returns-in-BadBirth : goal.returns-in-BadBirth
unfolding digits
returns-in-BadBirth c = sym (ap (λ (fault : CertFault). 67 ∷ decimal (fault_number fault)) c.in-BadBirth.is)

pub returns-in-NoLeg : goal.returns-in-NoLeg
unfolding digits
returns-in-NoLeg c = sym (ap (λ (fault : CertFault). 67 ∷ decimal (fault_number fault)) c.in-NoLeg.is)

pub returns-in-NoMemory : goal.returns-in-NoMemory
unfolding digits
returns-in-NoMemory c = sym (ap (λ (fault : CertFault). 67 ∷ decimal (fault_number fault)) c.in-NoMemory.is)
