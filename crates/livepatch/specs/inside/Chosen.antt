-- What a simulator under one of the models is, from its fields.
use Rattle.livepatch.specs.Named.{NamedRun}
use Rattle.livepatch.specs.declared.any.Inside.{Inside}
use Rattle.livepatch.specs.declared.any.Inside.TheVariants.{Hybrid, LeaveKernel, AllAtOnce, Immediate, ProcessGroup}

abbrev pub chosen : Inside → NamedRun
chosen (Hybrid named) = named.value
chosen (LeaveKernel named) = named.value
chosen (AllAtOnce named) = named.value
chosen (Immediate named) = named.value
chosen (ProcessGroup named) = named.value
