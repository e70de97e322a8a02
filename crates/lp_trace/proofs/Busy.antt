-- The lines of a busy member, from what they have in common and the event.
use Rattle.std.proofs.Common.{◌≡◌, ◌<◌, ◌≤◌, ◌+◌, ℕ, List, [], ◌∷◌, ◌++◌, add-one, suc, codes, decimal, drop, get_or, length, map, refl, sym, ap, ◌∙◌, append_assoc}
use Rattle.std.proofs.Math.ListN.{drop_of_length-le}
use Rattle.std.proofs.Math.Seq.{drop-cons}
use Rattle.lp_stack.specs.declared.number.GroupId.{GroupId}
use Rattle.lp_stack.specs.declared.number.TaskId.{TaskId}
use Rattle.lp_definitions.specs.declared.line.Line.TheVariants.{Busy}
use Rattle.lp_text.proofs.Writing.{line_split}
use Rattle.lp_text.specs.CertTexts.{reason_words}
use Rattle.lp_text.specs.Words.{line_of}
use Rattle.lp_trace.specs.inside.Busy.{IsBusyText}
use Rattle.lp_trace.specs.inside.KeptLines.{text_of}

pub busy_text : (group : GroupId) (task : TaskId) (text : List ℕ) → text ≡ codes "busy" ++ (32 ∷ decimal group.0 ++ (32 ∷ decimal task.0 ++ 32 ∷ [])) → IsBusyText group task text
busy_text group task text is = record {
  line = λ at.
      let rest : List ℕ = decimal at ++ 10 ∷ [] in
      let a : List ℕ = 32 ∷ decimal group.0 in
      let b : List ℕ = 32 ∷ decimal task.0 in
      ap (λ l. l ++ rest) is
      ∙ append_assoc (codes "busy") (a ++ (b ++ 32 ∷ [])) rest
      ∙ ap (λ l. codes "busy" ++ l) (append_assoc a (b ++ 32 ∷ []) rest ∙ ap (λ l. a ++ l) (append_assoc b (32 ∷ []) rest))
      ∙ sym (line_split (codes "busy") (decimal group.0 ∷ decimal task.0 ∷ decimal at ∷ []));
}

-- the line of one scan, and those of the scans after it
pub scans_at : (group : GroupId) (task : TaskId) (scans : List ℕ) (i at : ℕ) → i < length scans → at ≡ get_or scans i 0
    → text_of (map (Busy group task) (drop i scans)) ≡ line_of (reason_words (Busy group task at)) ++ text_of (map (Busy group task) (drop (i + 1) scans))
scans_at group task scans i at below is =
    rw (drop-cons scans i 0, add-one) (ap (λ n. line_of (reason_words (Busy group task n)) ++ text_of (map (Busy group task) (drop (suc i) scans))) (sym is))

pub scans_end : (group : GroupId) (task : TaskId) (scans : List ℕ) (i : ℕ) → length scans ≤ i → text_of (map (Busy group task) (drop i scans)) ≡ []
scans_end group task scans i over = rw (drop_of_length-le scans over) refl
