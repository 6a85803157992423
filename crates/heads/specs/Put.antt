-- Bytes were written at a place, and nothing else: r is the place after them.
use Rattle.std.specs.Prelude.{ℕ, ◌+◌, ◌≡◌, List, length}
use Rattle.std.proofs.lemmas.List.Edits.{sets}

pub record Put (r : ℕ) (after before : List ℕ) (place : ℕ) (xs : List ℕ) : Type 0 where
  pub next : r ≡ place + length xs
  pub is : after ≡ sets before place xs

-- the same of a loop that writes all of xs from a place on, with rest left to write at r
pub record Putting (r : ℕ) (after before : List ℕ) (place : ℕ) (xs rest : List ℕ) : Type 0 where
  pub next : r + length rest ≡ place + length xs
  pub is : sets after r rest ≡ sets before place xs
