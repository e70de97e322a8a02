use Rattle.std.proofs.Common.{refl, ◌++◌, ◌∷◌, []}
use Rattle.lp_text.specs.Words.{header, line_of}
use Rattle.lp_text.specs.Traces.{TraceValue, text_of, functions}
use Rattle.lp_text.proofs.Writing.{writes_err, prefix_more, left_prefix, left_last, text_split, symbols_part, patches_part, boots_part, events_part, before_symbols, before_patches, before_boots, before_events}
use Rattle.lp_text.specs.inside.Writing.{seen_of}
use Rattle.lp_text.proofs.write.put_parts.Goals as goal

pub returns-in_err-put_header : goal.returns-in_err-put_header
returns-in_err-put_header g c =
    let t : TraceValue = record { form = c.args.form; symbols = c.args.symbols.now; patches = functions c.args.patches.now; boots = c.args.boots.now; events = c.args.events.now } in
    writes_err (seen_of g.W.Write.contents c.args.writer.now) (seen_of g.W.Write.contents c.put_header.new.writer) (text_of t) c.from_residual.result c.from_residual.ensures.0 (prefix_more _ _ (line_of (header t.form ∷ [])) (symbols_part t ++ (patches_part t ++ (boots_part t ++ events_part t))) (text_of t) (text_split t) c.in_err-put_header.ensures)

pub returns-in_err-put_symbols : goal.returns-in_err-put_symbols
returns-in_err-put_symbols g c =
    let t : TraceValue = record { form = c.args.form; symbols = c.args.symbols.now; patches = functions c.args.patches.now; boots = c.args.boots.now; events = c.args.events.now } in
    writes_err (seen_of g.W.Write.contents c.args.writer.now) (seen_of g.W.Write.contents c.put_symbols.new.writer) (text_of t) c.from_residual-in_err-put_symbols.result c.from_residual-in_err-put_symbols.ensures.0 (left_prefix (seen_of g.W.Write.contents c.args.writer.now) (seen_of g.W.Write.contents c.put_header.new.writer) (seen_of g.W.Write.contents c.put_symbols.new.writer) (text_of t) (symbols_part t) (symbols_part t ++ (patches_part t ++ (boots_part t ++ events_part t))) (patches_part t ++ (boots_part t ++ events_part t)) refl (before_symbols t (seen_of g.W.Write.contents c.args.writer.now) (seen_of g.W.Write.contents c.put_header.new.writer) (seen_of g.W.Write.contents c.put_header.new.writer) (seen_of g.W.Write.contents c.put_header.new.writer) (seen_of g.W.Write.contents c.put_header.new.writer) (seen_of g.W.Write.contents c.put_header.new.writer) c.in_ok-put_header.ensures) c.in_err-put_symbols.ensures)

pub returns-in_err-put_patches : goal.returns-in_err-put_patches
returns-in_err-put_patches g c =
    let t : TraceValue = record { form = c.args.form; symbols = c.args.symbols.now; patches = functions c.args.patches.now; boots = c.args.boots.now; events = c.args.events.now } in
    writes_err (seen_of g.W.Write.contents c.args.writer.now) (seen_of g.W.Write.contents c.put_patches.new.writer) (text_of t) c.from_residual-in_err-put_patches.result c.from_residual-in_err-put_patches.ensures.0 (left_prefix (seen_of g.W.Write.contents c.args.writer.now) (seen_of g.W.Write.contents c.put_symbols.new.writer) (seen_of g.W.Write.contents c.put_patches.new.writer) (text_of t) (patches_part t) (patches_part t ++ (boots_part t ++ events_part t)) (boots_part t ++ events_part t) refl (before_patches t (seen_of g.W.Write.contents c.args.writer.now) (seen_of g.W.Write.contents c.put_header.new.writer) (seen_of g.W.Write.contents c.put_symbols.new.writer) (seen_of g.W.Write.contents c.put_symbols.new.writer) (seen_of g.W.Write.contents c.put_symbols.new.writer) (seen_of g.W.Write.contents c.put_symbols.new.writer) c.in_ok-put_header.ensures c.in_ok-put_symbols.ensures) c.in_err-put_patches.ensures)

pub returns-in_err-put_boots : goal.returns-in_err-put_boots
returns-in_err-put_boots g c =
    let t : TraceValue = record { form = c.args.form; symbols = c.args.symbols.now; patches = functions c.args.patches.now; boots = c.args.boots.now; events = c.args.events.now } in
    writes_err (seen_of g.W.Write.contents c.args.writer.now) (seen_of g.W.Write.contents c.put_boots.new.writer) (text_of t) c.from_residual-in_err-put_boots.result c.from_residual-in_err-put_boots.ensures.0 (left_prefix (seen_of g.W.Write.contents c.args.writer.now) (seen_of g.W.Write.contents c.put_patches.new.writer) (seen_of g.W.Write.contents c.put_boots.new.writer) (text_of t) (boots_part t) (boots_part t ++ events_part t) (events_part t) refl (before_boots t (seen_of g.W.Write.contents c.args.writer.now) (seen_of g.W.Write.contents c.put_header.new.writer) (seen_of g.W.Write.contents c.put_symbols.new.writer) (seen_of g.W.Write.contents c.put_patches.new.writer) (seen_of g.W.Write.contents c.put_patches.new.writer) (seen_of g.W.Write.contents c.put_patches.new.writer) c.in_ok-put_header.ensures c.in_ok-put_symbols.ensures c.in_ok-put_patches.ensures) c.in_err-put_boots.ensures)

pub returns : goal.returns
returns g c =
    let t : TraceValue = record { form = c.args.form; symbols = c.args.symbols.now; patches = functions c.args.patches.now; boots = c.args.boots.now; events = c.args.events.now } in
    left_last (seen_of g.W.Write.contents c.args.writer.now) (seen_of g.W.Write.contents c.put_boots.new.writer) (seen_of g.W.Write.contents c.put_events.new.writer) (text_of t) (events_part t) (events_part t) c.put_events.result refl (before_events t (seen_of g.W.Write.contents c.args.writer.now) (seen_of g.W.Write.contents c.put_header.new.writer) (seen_of g.W.Write.contents c.put_symbols.new.writer) (seen_of g.W.Write.contents c.put_patches.new.writer) (seen_of g.W.Write.contents c.put_boots.new.writer) (seen_of g.W.Write.contents c.put_boots.new.writer) c.in_ok-put_header.ensures c.in_ok-put_symbols.ensures c.in_ok-put_patches.ensures c.in_ok-put_boots.ensures) c.put_events.ensures
