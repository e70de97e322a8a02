use Rattle.lp_text.proofs.Builders.{built_trace}
use Rattle.lp_text.proofs.builder.Builder.into_trace.Goals as goal

pub into_trace-requires : goal.into_trace-requires
into_trace-requires c = built_trace c.args.self.parser c.args.self.place c.args.self.size c.requires.built c.requires.patched
