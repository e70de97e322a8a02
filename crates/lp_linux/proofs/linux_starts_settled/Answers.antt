use Rattle.lp_linux.proofs.Following.{kernel_starts}
use Rattle.lp_linux.proofs.linux_starts_settled.Goals as goal

pub returns : goal.returns
returns c = kernel_starts
