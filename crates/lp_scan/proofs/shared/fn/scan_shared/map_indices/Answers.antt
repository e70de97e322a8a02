use Rattle.std.proofs.Common.{rules}
use Rattle.lp_scan.proofs.shared.fn.scan_shared.map_indices.Goals as goal

pub returns : goal.returns
returns g c = search rules
