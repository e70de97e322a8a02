use Rattle.lp_text.proofs.Choices.{ok_is}
use Rattle.lp_text.proofs.Builders.{built_empty_at}
use Rattle.lp_text.proofs.builder.Builder.new.Goals as goal

pub returns : goal.returns
returns c = rw c.header.ensures (built_empty_at c.args.form c.in-Ok.parser (ok_is c.in-Ok.ensures))
