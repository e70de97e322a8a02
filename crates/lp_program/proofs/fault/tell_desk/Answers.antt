-- The line is its three parts.
use Rattle.std.proofs.Common.{Result, Ok, Err, OnOk, codes, subst, ◌++◌}
use Rattle.std.specs.Io.KnownBytes.{Appends}
use Rattle.lp_text.proofs.Writing.{appends_more}
use Rattle.lp_program.proofs.fault.tell_desk.Goals as goal

on_ok : {X E P Q : Type 0} (r : Result X E) → (P → Q) → OnOk r P → OnOk r Q
on_ok (Ok x) f h = f h
on_ok (Err e) f h = tt

pub returns : goal.returns
returns g c =
    on_ok c.write_all-3.result
    (λ end. appends_more _ _ _ (codes "lpt: desk: ") (c.args.code.now ++ codes "\n") c.in_ok-write_all.ensures.bytes
    (appends_more _ _ _ c.args.code.now (codes "\n") (subst (Appends _ _) c.as_bytes.ensures.value c.in_ok-write_all-2.ensures.bytes) end))
    c.write_all-3.ensures.bytes
