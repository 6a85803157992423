-- What our own functions hand each other about a table that was measured.
use Rattle.std.specs.Prelude.{ℕ, ◌+◌, ◌≤◌, ◌<◌, ◌≡◌, List, length}
use Rattle.words.specs.declared.Sizes.{Sizes}
use Rattle.words.specs.Layout.{words}

-- the sizes are numbers of 16 bits
pub record Small (s : Sizes) : Type 0 where
  pub levels : s.levels < 65536
  pub queues : s.queues < 65536
  pub nodes : s.nodes < 65536

-- and the table has room for them
pub record Fits (s : Sizes) (t : List ℕ) : Type 0 where
  pub room : words s ≤ length t
  pub levels : s.levels < 65536
  pub queues : s.queues < 65536
  pub nodes : s.nodes < 65536

-- r is the place meant, with n words from it on within all
pub record Placed (r at n all : ℕ) : Type 0 where
  pub is : r ≡ at
  pub room : r + n ≤ all
