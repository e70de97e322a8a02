-- Text that is held in a room of a fixed size.
use Rattle.std.specs.Prelude.{◌≡◌, ℕ, ◌≤◌, List, length}

-- the bytes that are held
pub record HeldText : Type 0 where
  pub items : List ℕ

-- so many bytes of the room are held
pub record IsHeld (room : List ℕ) (len : ℕ) : Type 0 where
  pub size : length room ≡ 65536
  pub within : len ≤ 65536
