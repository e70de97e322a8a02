-- The numbers of the faults of certificates.
use Rattle.std.specs.Prelude.{ℕ}
use Rattle.lp_definitions.specs.declared.cert_fault.CertFault.{CertFault}
use Rattle.lp_definitions.specs.declared.cert_fault.CertFault.TheVariants.{NoSuchGroup, NotOnStack, NoBlame, Gap, BadBirth, NoLeg, NoMemory}

abbrev pub fault_number : CertFault → ℕ
fault_number NoSuchGroup = 1
fault_number (NotOnStack at) = 2
fault_number (NoBlame at) = 3
fault_number (Gap at) = 4
fault_number (BadBirth at) = 5
fault_number NoLeg = 6
fault_number NoMemory = 7
