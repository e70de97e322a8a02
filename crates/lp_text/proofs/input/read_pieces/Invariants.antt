use Rattle.std.proofs.Common.{◌≡◌, ◌≤◌, ◌-◌, length, vec_len}
use Rattle.std.specs.Io.KnownBytes.{Consumes}
use Rattle.lp_text.specs.Counts.{AtMost}
use Rattle.lp_text.specs.inside.Streams.{Going}
use Rattle.lp_text.proofs.input.read_pieces.Given as goal

abbrev pub invariant-loop-text : goal.invariant-loop-text
invariant-loop-text g l =
    Consumes (g.R.Read.remaining l.fn.reader.stream) (g.R.Read.remaining l.reader.stream) l.text.items × (vec_len l.text ≤ 134217728) × (vec_len l.text ≡ length l.text.items)
    × Going l.fn.reader l.reader × AtMost (vec_len l.text) l.fn.reader.calls l.reader.calls

abbrev pub decreases-loop-text : goal.decreases-loop-text
decreases-loop-text g l = 134217728 - vec_len l.text
