-- Text that is held in a room of a fixed size.
use Rattle.std.proofs.Common.{◌≡◌, ◌≤◌, ℕ, List, ◌++◌, length, take, sym, ap, ◌∙◌, arith}
use Rattle.std.proofs.lemmas.List.{length-take-le, take_at}
use Rattle.lp_trace.specs.inside.Held.{IsHeld}

-- as many bytes are held as are counted
pub held_length : (room text : List ℕ) (len : ℕ) → IsHeld room len → take len room ≡ text → len ≡ length text
held_length room text len is held = omega (arith, is.size, is.within, length-take-le len room, ap length held)

-- a room into which a text was put is one still
pub still_held : (placed later : List ℕ) (room end : ℕ) → room ≡ length placed → length placed ≡ 65536 → end ≤ 65536 → IsHeld (take room (placed ++ later)) end
still_held placed later room end all size within = record {
  size = ap length (take_at placed later room (sym all)) ∙ size;
  within = within;
}

-- bytes were put after those that are held
pub held_more : (room now placed later text rest : List ℕ) (len end all : ℕ) → now ≡ room → take len room ≡ text → all ≡ length placed → take end placed ≡ take len now ++ rest → take end (take all (placed ++ later)) ≡ text ++ rest
held_more room now placed later text rest len end all is held size put =
    ap (take end) (take_at placed later all (sym size))
    ∙ put
    ∙ ap (λ l. take len l ++ rest) is
    ∙ ap (λ l. l ++ rest) held
