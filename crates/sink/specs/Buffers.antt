-- Writing at the end of a buffer that has room. Assumes nothing.
use Rattle.std.specs.Prelude.{◌≡◌, ◌+◌, ◌≤◌, List, ◌++◌, length, vec_items, vec_len, vec_capacity, Vec}

-- the buffer has a place for each of these
abbrev pub Room : {X Z : Type 0} → Vec X Z → List X → Type 0
Room v more = vec_len v + length more ≤ vec_capacity v

-- these came after what v held, and the capacity stayed
pub record Appended {X Z : Type 0} (v w : Vec X Z) (more : List X) : Type 0 where
  pub items : vec_items w ≡ vec_items v ++ more
  pub len : vec_len w ≡ vec_len v + length more
  pub capacity : vec_capacity w ≡ vec_capacity v
