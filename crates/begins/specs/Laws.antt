-- What a begin that is not refused can count on.
use Rattle.std.specs.Prelude.{ℕ, ◌<◌, ◌≡◌, refl, List, [], ◌∷◌, Bool, true, false, cond}
use Rattle.std.proofs.Common.{arith}
use Rattle.words.specs.declared.Level.{Level}
use Rattle.words.specs.declared.Queue.{Queue}
use Rattle.words.specs.declared.Node.{Node}
use Rattle.words.specs.declared.Sizes.{Sizes}
use Rattle.words.specs.declared.Word.TheVariants.{Head, Use}
use Rattle.words.specs.Layout.{has}
use Rattle.conditions.specs.Conditions.{first_of, no_level, no_queue, no_node, busy, in_use, dequeued}
use Rattle.conditions.specs.Laws.{has_level, has_queue, has_node}
use Rattle.begins.specs.Begin.{enqueue_why, dequeue_why}

-- where no refusal of a list is given, none of its conditions holds
abbrev Unheld : List (ℕ × Bool) → Type 0
Unheld [] = Unit
Unheld (r ∷ rs) = (r.1 ≡ false) × Unheld rs

abbrev Numbered : List (ℕ × Bool) → Type 0
Numbered [] = Unit
Numbered (r ∷ rs) = (0 < r.0) × Numbered rs

unheld : (rs : List (ℕ × Bool)) → Numbered rs → first_of rs ≡ 0 → Unheld rs
unheld [] n h = tt
unheld (r ∷ rs) n h = by r.1 (unheld rs n.1) h
  where
    by : (b : Bool) → (first_of rs ≡ 0 → Unheld rs) → cond b r.0 (first_of rs) ≡ 0 → (b ≡ false) × Unheld rs
    by true rest e = absurd (omega (arith, n.0))
    by false rest e = (refl, rest e)

-- the conditions of refusals 3 to 7 that do not hold
pub record Enqueues (s : Sizes) (t : List ℕ) (l : Level) (q : Queue) (n : Node) : Type 0 where
  pub has_l : l.0 < s.levels
  pub has_q : has s (Head q) ≡ true
  pub is_user : no_node s n ≡ false
  pub has_n : has s (Use n) ≡ true
  pub idle : busy s t l ≡ false
  pub free : in_use s t n ≡ false

pub enqueues : (s : Sizes) (t : List ℕ) (l : Level) (q : Queue) (n : Node) → enqueue_why s t l q n ≡ 0 → Enqueues s t l q n
unfolding enqueue_why
enqueues s t l q n h =
    let no = unheld ((3, no_level s l) ∷ (4, no_queue s q) ∷ (5, no_node s n) ∷ (6, busy s t l) ∷ (7, in_use s t n) ∷ []) (omega arith) h in
    record {
      has_l = has_level s l no.0;
      has_q = has_queue s q no.1.0;
      is_user = no.1.1.0;
      has_n = has_node s n no.1.1.0;
      idle = no.1.1.1.0;
      free = no.1.1.1.1.0;
    }

pub record Dequeues (s : Sizes) (t : List ℕ) (l : Level) (q : Queue) : Type 0 where
  pub has_l : l.0 < s.levels
  pub has_q : has s (Head q) ≡ true
  pub idle : busy s t l ≡ false
  pub alone : dequeued s t l q ≡ false

pub dequeues : (s : Sizes) (t : List ℕ) (l : Level) (q : Queue) → dequeue_why s t l q ≡ 0 → Dequeues s t l q
unfolding dequeue_why
dequeues s t l q h =
    let no = unheld ((3, no_level s l) ∷ (4, no_queue s q) ∷ (6, busy s t l) ∷ (8, dequeued s t l q) ∷ []) (omega arith) h in
    record { has_l = has_level s l no.0; has_q = has_queue s q no.1.0; idle = no.1.1.0; alone = no.1.1.1.0 }
