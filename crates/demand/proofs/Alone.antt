-- A dequeue alone on a quiet queue, over memory: it ends, and with the first node, or empty where there is none.
-- Three ways: the sentinel is all there is; a user's node is first; the sentinel is first, is taken out, handed in again behind the tail, and then a user's node is first.
use Prim.Native.Nat.{ℕ, zero, suc, ◌+◌, ◌-◌, ◌≤◌, ◌<◌}
use mathlib.Core.Path.{◌≡◌, refl, sym, ap, ◌∙◌}
use mathlib.Core.Logic.{◌≢◌}
use mathlib.Core.Bool.{Bool, true, false}
use native.Mathlib.Omega.{arith}
use lib.Dec.{eqb}
use Rattle.words.specs.declared.Frame.{Frame}
use Rattle.words.specs.declared.Word.TheVariants.{LevelNode, LevelQueue, Head, Tail, Next}
use Rattle.words.specs.Layout.{level, queue, node}
use Rattle.table.specs.declared.After.TheVariants.{Go, Done}
use Rattle.table.specs.Points.{point_of}
use Rattle.table.specs.Frames.{frame, at, set_k, counted, below_k_to, walk_to}
use Rattle.table.specs.Table.{row}
use Rattle.table.specs.Laws.{if_same, if_other}
use Rattle.lists.specs.Count.{Same, same, apart, same?}
use Rattle.state.specs.Mem.{Mem, put, put_same, put_other, upd}
use Rattle.state.specs.Step.{mem_after, then, row_of}

-- n steps of the frame f at level l, from memory M: all go on but the last, which ends with a node
pub data Runs (levels l : ℕ) : ℕ → Mem → Frame → ℕ → Type 0 where
  last : {M : Mem} {f : Frame} {x : ℕ} → then M (row_of levels l f) (counted f) ≡ Done (node x) → Runs levels l 1 M f x
  more : {n : ℕ} {M : Mem} {f : Frame} {x : ℕ} (g : Frame) → then M (row_of levels l f) (counted f) ≡ Go g
      → Runs levels l n (mem_after M (row_of levels l f)) g x → Runs levels l (suc n) M f x

recount : {levels l i j : ℕ} {M : Mem} {f : Frame} {x : ℕ} → i ≡ j → Runs levels l i M f x → Runs levels l j M f x
recount e k = rw e at k

-- a queue's first node, by what its words say: 0 for none
pub data First (M : Mem) (q : ℕ) : ℕ → Type 0 where
  nothing : M.tail q ≡ M.head q → First M q 0
  user : {x : ℕ} → M.head q ≡ x → x ≢ q → M.tail q ≢ x → M.next x ≢ 0 → First M q x
  behind : {x : ℕ} → M.head q ≡ q → M.tail q ≢ q → M.next q ≡ x → x ≢ q → x ≢ 0 → M.next (M.tail q) ≡ 0
      → (x ≢ M.tail q → M.next x ≢ 0) → First M q x

-- a dequeue's frame on queue q at this point, with its n, c and r; its other registers are those of f
abbrev deq : ℕ → ℕ → ℕ → ℕ → ℕ → Frame → Frame
deq q point n c r f = frame 2 point (queue q) (node n) f.k f.p (node c) f.a (node r) f.m f.steps

below_none : (f : Frame) (x y : ℕ) → f.k.0 ≡ 0 → below_k_to x y f ≡ Go (at x f)
unfolding below_k_to
below_none f x y h = if_same f.k.0 0 _ _ h

below_more : (f : Frame) (x y : ℕ) → f.k.0 ≢ 0 → below_k_to x y f ≡ Go (at y (set_k (level (f.k.0 - 1)) f))
unfolding below_k_to
below_more f x y h = if_other f.k.0 0 _ _ h

-- ---- the ways

-- the frame with i more steps counted
abbrev many : ℕ → Frame → Frame
many zero f = f
many (suc i) f = counted (many i f)

module _ (levels l q : ℕ) where
  -- a user's node is first: D1 to D5, D7
  user_out : (M : Mem) (n c r : ℕ) (f : Frame) → M.head q ≢ q → M.tail q ≢ M.head q → M.next (M.head q) ≢ 0
      → Runs levels l 6 M (deq q 31 n c r f) (M.head q)
  unfolding row point_of counted
  user_out M n c r f no_sentinel more_than_one linked =
      let first = M.head q in
      more _ refl
      (more _ (if_other (M.tail q) first _ _ more_than_one)
      (more _ (if_other (M.next first) 0 _ _ linked)
      (more _ refl
      (more _ (if_other first q _ _ no_sentinel)
      (last refl)))))

  -- the search below the level, where the levels from k down are not registered: E3 to E7
  nobody_below : (M : Mem) (n c r k : ℕ) {i x : ℕ} (f : Frame) → f.k.0 ≡ k → ((j : ℕ) → j ≤ k → M.lq j ≢ q)
      → ((g : Frame) → Runs levels l i M (deq q 7 n c r g) x) → Runs levels l (suc k + i) M (deq q 3 n c r f) x
  unfolding row point_of counted
  nobody_below M n c r zero f e off on =
      recount (omega arith)
      (more _
      (if_other (M.lq f.k.0) q _ _ (off f.k.0 (omega arith)) ∙ below_none (counted (deq q 3 n c r f)) 7 3 e)
      (on (counted f)))
  nobody_below M n c r (suc j) f e off on =
      recount (omega arith)
      (more _
      (if_other (M.lq f.k.0) q _ _ (off f.k.0 (omega arith)) ∙ below_more (counted (deq q 3 n c r f)) 7 3 (omega arith))
      (nobody_below M n c r j (set_k (level (f.k.0 - 1)) (counted f)) (omega arith) (λ h p. off h (omega arith)) on))

  -- the level registers, and finds no other: E2 to E7
  registers : (M : Mem) (n c r : ℕ) {i x : ℕ} (f : Frame) → ((j : ℕ) → j < l → M.lq j ≢ q)
      → ((g : Frame) → Runs levels l i (upd M (LevelQueue (level l)) q) (deq q 7 n c r g) x) → Runs levels l (suc l + i) M (deq q 2 n c r f) x
  unfolding row point_of counted
  registers M n c r {i} {x} f off on = by l refl
    where
      g : Frame
      g = set_k (level l) (counted (deq q 2 n c r f))

      by : (j : ℕ) → l ≡ j → Runs levels l (suc l + i) M (deq q 2 n c r f) x
      by zero e = recount (omega arith) (more _ (below_none g 7 3 e) (on g))
      by (suc j) e =
          recount (omega arith)
          (more _ (below_more g 7 3 (omega arith))
          (nobody_below (upd M (LevelQueue (level l)) q) n c r j (set_k (level (l - 1)) g) (omega arith)
          (λ h p z. off h (omega arith) (sym (put_other M.lq l q h (omega arith)) ∙ z)) on))

  -- the sentinel is first, and is taken out: D1 to D6, E1
  sentinel_out : (M : Mem) (n c r : ℕ) {i x : ℕ} (f : Frame) → M.head q ≡ q → M.tail q ≢ q → M.next q ≢ 0
      → ((g : Frame) → Runs levels l i (upd (upd (upd M (Head (queue q)) (M.next q)) (Next (node q)) 0) (LevelNode (level l)) q) (deq q 2 q q (M.next q) g) x)
      → Runs levels l (7 + i) M (deq q 31 n c r f) x
  unfolding row point_of counted
  sentinel_out M n c r f first not_last linked on =
      recount (omega arith)
      (more (deq q 32 n q r (counted f)) (ap (λ (h : ℕ). Go (deq q 32 n h r (counted f))) first)
      (more _ (if_other (M.tail q) q _ _ not_last)
      (more _ (if_other (M.next q) 0 _ _ linked)
      (more _ refl
      (more _ (if_same q q _ _ refl)
      (more _ refl
      (more _ refl
      (on (many 7 f)))))))))

  -- the sentinel is handed in again behind the tail: E7 to E12, E28, E29
  sentinel_in : (M : Mem) (c r : ℕ) {i x : ℕ} (f : Frame) → M.next (M.tail q) ≡ 0 → M.next q ≡ 0 → M.tail q ≢ q
      → ((g : Frame)
      → Runs levels l i
      (upd (upd (upd (upd (upd M (Next (node (M.tail q))) q) (LevelNode (level l)) q) (Tail (queue q)) q) (LevelQueue (level l)) 0) (LevelNode (level l)) 0)
      (deq q 31 q q r g) x)
      → Runs levels l (8 + i) M (deq q 7 q c r f) x
  unfolding row point_of counted walk_to
  sentinel_in M c r f end fresh not_last on =
      recount (omega arith)
      (more _ refl
      (more _ (if_same (M.next (M.tail q)) 0 _ _ end)
      (more _ refl
      (more _ (if_same _ 0 _ _ (put_other M.next (M.tail q) q q (λ e. not_last (sym e)) ∙ fresh))
      (more _ refl
      (more _ refl
      (more _ refl
      (more _ (if_other 2 1 _ _ (omega arith))
      (on (many 8 f))))))))))

  -- a dequeue begun on a quiet queue ends, with its first node or empty, within 22 + l steps
  pub alone : (M : Mem) (n c r : ℕ) (f : Frame) {x : ℕ} → 1 ≤ q → ((j : ℕ) → M.lq j ≢ q) → First M q x
      → (i : ℕ) × (i ≤ 22 + l) × Runs levels l i M (deq q 31 n c r f) x
  unfolding row point_of counted
  alone M n c r f some off (nothing e) = (2, omega arith, more _ refl (last (if_same (M.tail q) (M.head q) _ _ e)))
  alone M n c r f some off (user e no_sentinel more_than_one linked) =
      (6, omega arith, rw (← e) (user_out M n c r f (rw e no_sentinel) (rw e more_than_one) (rw e linked)))
  alone M n c r f some off (behind {x = x} first not_last second no_sentinel real end linked) = (
    7 + (suc l + (8 + 6)),
    omega arith,
    sentinel_out M n c r f first not_last (rw second real) λ f.
        registers M₁ q q (M.next q) f (λ j h. off j) λ f.
        sentinel_in M₂ q (M.next q) f (put_other M.next q 0 (M.tail q) not_last ∙ end) (put_same M.next q 0) not_last λ f.
        rw head' at
        (user_out M₃ q q (M.next q) f (rw head' no_sentinel) (rw (head', put_same M.tail q q) (λ e. no_sentinel (sym e))) (rw head' next')),
  )
    where
      M₁ : Mem
      M₁ = upd (upd (upd M (Head (queue q)) (M.next q)) (Next (node q)) 0) (LevelNode (level l)) q

      M₂ : Mem
      M₂ = upd M₁ (LevelQueue (level l)) q

      M₃ : Mem
      M₃ =
          upd (upd (upd (upd (upd M₂ (Next (node (M.tail q))) q) (LevelNode (level l)) q) (Tail (queue q)) q) (LevelQueue (level l)) 0)
          (LevelNode (level l)) 0

      head' : put M.head q (M.next q) q ≡ x
      head' = put_same M.head q (M.next q) ∙ second

      next' : put (put M.next q 0) (M.tail q) q x ≢ 0
      next' = by (eqb x (M.tail q)) (same? x (M.tail q))
        where
          by : (t : Bool) → Same x (M.tail q) t → put (put M.next q 0) (M.tail q) q x ≢ 0
          by true (same e) z = omega (arith, sym (put_same (put M.next q 0) (M.tail q) q) ∙ ap (put (put M.next q 0) (M.tail q) q) (sym e) ∙ z)
          by false (apart e) z =
              linked e (sym (put_other M.next q 0 x no_sentinel) ∙ sym (put_other (put M.next q 0) (M.tail q) q x e) ∙ z)
