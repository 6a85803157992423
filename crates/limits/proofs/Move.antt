-- What a call does to the frames, and what follows for one operation that is followed and for the moves that are left.
use Prim.Native.Nat.{ℕ, zero, suc, ◌+◌, ◌-◌, ◌*◌, ◌≤◌, ◌<◌}
use mathlib.Core.Path.{◌≡◌, refl, sym, ap, ◌∙◌, subst}
use mathlib.Core.Logic.{◌≢◌}
use mathlib.Core.Bool.{Bool, true, false, cond}
use native.Mathlib.Omega.{arith}
use lib.Dec.{eqb, ltb}
use borrow.Author.Tests.{eq-eqb, ne_eqb, lt-ltb, le-ltb, ltb-true, ltb-false}
use Rattle.words.specs.declared.Queue.{Queue}
use Rattle.words.specs.declared.Frame.{Frame}
use Rattle.answers.specs.declared.End.{End}
use Rattle.answers.specs.Most.{operation_most}
use Rattle.lists.specs.Count.{Same, same, apart, same?}
use Rattle.limits.specs.Course.{Effect, begins, steps, ends, moves_by, begun_by, Course, running, over, next}
use Rattle.limits.specs.Limits.{InBounds}
use Rattle.limits.proofs.Sums.{total, total_but, total_part, total_none}

-- the frames F became G: level l was served, the highest that runs, and the others stood still
pub record ServedAt (levels : ℕ) (F G : ℕ → Frame) (l : ℕ) : Type 0 where
  pub low : l < levels
  pub runs : (F l).op ≢ 0
  pub highest : (j : ℕ) → l < j → (F j).op ≡ 0
  pub others : (j : ℕ) → j ≢ l → G j ≡ F j

-- it goes on, n steps later
pub record GoesOn (f g : Frame) (n : ℕ) : Type 0 where
  pub op : g.op ≡ f.op
  pub queue_is : g.queue ≡ f.queue
  pub steps_are : g.steps ≡ f.steps + n

-- it ended, n steps later, as e says
pub record EndsAs (l : ℕ) (f : Frame) (n : ℕ) (e : End) : Type 0 where
  pub level_is : e.level.0 ≡ l
  pub op : e.op ≡ f.op
  pub queue_is : e.queue ≡ f.queue
  pub steps_are : e.steps ≡ f.steps + n

pub record Begins (levels : ℕ) (F G : ℕ → Frame) (l : ℕ) : Type 0 where
  pub low : l < levels
  pub idle : (j : ℕ) → l ≤ j → (F j).op ≡ 0
  pub runs : (G l).op ≢ 0
  pub steps_are : (G l).steps ≡ 0
  pub others : (j : ℕ) → j ≢ l → G j ≡ F j

pub data Move (levels v : ℕ) (F G : ℕ → Frame) : Effect → Type 0 where
  begun : (l : ℕ) → Begins levels F G l → Move levels v F G begins
  goes : {n : ℕ} (l : ℕ) → ServedAt levels F G l → GoesOn (F l) (G l) n → Move levels v F G (steps n)
  stops : {n : ℕ} {e : End} (l : ℕ) → ServedAt levels F G l → (G l).op ≡ 0 → EndsAs l (F l) n e → InBounds v e
      → Move levels v F G (ends n e)
  rests : F ≡ G → Move levels v F G (steps 0)

-- ---- one operation

-- 1 for a frame that runs, at a level j above l
unfoldable pub above : ℕ → ℕ → Frame → ℕ
above l j f = cond (ltb l j) (cond (eqb f.op 0) 0 1) 0

above_idle : (l j : ℕ) (f : Frame) → f.op ≡ 0 → above l j f ≡ 0
unfolding above
above_idle l j f e = by (ltb l j)
  where
    by : (b : Bool) → ◌≡◌ {A = ℕ} (cond b (cond (eqb f.op 0) 0 1) 0) 0
    by true = rw (eq-eqb f.op 0 e)
    by false = refl

above_low : (l j : ℕ) (f : Frame) → j ≤ l → above l j f ≡ 0
unfolding above
above_low l j f h = rw (le-ltb l j h)

above_busy : (l j : ℕ) (f : Frame) → l < j → f.op ≢ 0 → above l j f ≡ 1
unfolding above
above_busy l j f h r = rw (lt-ltb l j h, ne_eqb f.op 0 r)

-- how many run above level l
abbrev pub above_in : ℕ → ℕ → (ℕ → Frame) → ℕ
above_in levels l F = total (λ j. above l j (F j)) levels

pub none_above : (levels l : ℕ) (F : ℕ → Frame) → ((j : ℕ) → l < j → (F j).op ≡ 0) → above_in levels l F ≡ 0
none_above levels l F h = total_none (λ j. above l j (F j)) levels (λ j. by j (ltb l j) refl)
  where
    by : (j : ℕ) (b : Bool) → ltb l j ≡ b → above l j (F j) ≡ 0
    by j true e = above_idle l j (F j) (h j (ltb-true l j e))
    by j false e = above_low l j (F j) (ltb-false l j e)

pub idle_above : (levels l : ℕ) (F : ℕ → Frame) → above_in levels l F ≡ 0 → (j : ℕ) → l < j → j < levels → (F j).op ≡ 0
idle_above levels l F e j h low = by (eqb (F j).op 0) (same? (F j).op 0)
  where
    by : (b : Bool) → Same (F j).op 0 b → (F j).op ≡ 0
    by true (same z) = z
    by false (apart z) =
        absurd (omega (arith, above_busy l j (F j) h z, total_part (λ i. above l i (F i)) j levels low))

-- an operation op on queue q at level l that runs
pub record Runs (levels op l : ℕ) (q : Queue) (F : ℕ → Frame) (up own : ℕ) : Type 0 where
  pub op_is : (F l).op ≡ op
  pub queue_is : (F l).queue ≡ q
  pub steps_are : (F l).steps ≡ own
  pub above_are : above_in levels l F ≡ up

-- where an operation is that is followed
abbrev pub Where : ℕ → ℕ → ℕ → Queue → ℕ → (ℕ → Frame) → Course → Type 0
Where levels op l q v F (running up own) = Runs levels op l q F up own
Where levels op l q v F (over own e) = (e.op ≡ op) × (e.level.0 ≡ l) × (e.queue ≡ q) × (e.steps ≡ own) × InBounds v e

module _ (levels op l : ℕ) (q : Queue) (v : ℕ) (some : op ≢ 0) (low : l < levels) (F G : ℕ → Frame) where
  -- its frame stood still
  stays : {up own : ℕ} (n : ℕ) → G l ≡ F l → above_in levels l G ≡ n → Runs levels op l q F up own → Runs levels op l q G n own
  stays n e a r =
      record {
        op_is = ap (λ (f : Frame). f.op) e ∙ r.op_is;
        queue_is = ap (λ (f : Frame). f.queue) e ∙ r.queue_is;
        steps_are = ap (λ (f : Frame). f.steps) e ∙ r.steps_are;
        above_are = a;
      }

  -- one level i above it moved
  moved : (i : ℕ) → i < levels → ((j : ℕ) → j ≢ i → G j ≡ F j)
      → above_in levels l G + above l i (F i) ≡ above_in levels l F + above l i (G i)
  moved i b others = total_but (λ j. above l j (F j)) (λ j. above l j (G j)) i levels b (λ j ne. ap (above l j) (others j ne))

  pub begun_above : {up own : ℕ} (i : ℕ) → Begins levels F G i → Runs levels op l q F up own → Runs levels op l q G (suc up) own
  begun_above {up} i b r =
      let higher : l < i = by (ltb l i) refl in
      let was = above_idle l i (F i) (b.idle i (omega arith)) in
      let is = above_busy l i (G i) higher b.runs in
      stays (suc up) (b.others l (λ z. omega arith)) (omega (arith, moved i b.low b.others, r.above_are)) r
    where
      by : (t : Bool) → ltb l i ≡ t → l < i
      by true e = ltb-true l i e
      by false e = absurd (some (sym r.op_is ∙ b.idle l (ltb-false l i e)))

  -- the level that is served is its own, and none runs above it; or a higher one
  pub data Whose (up i : ℕ) : Type 0 where
    its_own : i ≡ l → up ≡ 0 → Whose up i
    higher : l < i → 1 ≤ up → Whose up i

  pub whose : {up own : ℕ} (i : ℕ) → ServedAt levels F G i → Runs levels op l q F up own → Whose up i
  whose {up} i b r = by (eqb i l) (same? i l) (ltb l i) refl
    where
      by : (x : Bool) → Same i l x → (y : Bool) → ltb l i ≡ y → Whose up i
      by true (same e) y z = its_own e (sym r.above_are ∙ none_above levels l F (λ j h. b.highest j (omega arith)))
      by false (apart e) true z =
          let up_i = ltb-true l i z in
          let one = above_busy l i (F i) up_i b.runs in
          higher up_i (omega (arith, total_part (λ j. above l j (F j)) i levels b.low, r.above_are))
      by false (apart e) false z =
          absurd (some (sym r.op_is ∙ b.highest l (omega (arith, ltb-false l i z))))

  -- a higher one goes on, or ends
  over_it : {up own n : ℕ} (i : ℕ) → l < i → ServedAt levels F G i → GoesOn (F i) (G i) n → Runs levels op l q F up own
      → Runs levels op l q G up own
  over_it {up} i h b g r =
      let was = above_busy l i (F i) h b.runs in
      let is = above_busy l i (G i) h (λ z. b.runs (sym g.op ∙ z)) in
      stays up (b.others l (λ z. omega arith)) (omega (arith, moved i b.low b.others, r.above_are)) r

  over_ends : {up own : ℕ} (i : ℕ) → l < i → ServedAt levels F G i → (G i).op ≡ 0 → Runs levels op l q F (suc up) own
      → Runs levels op l q G up own
  over_ends {up} i h b z r =
      let was = above_busy l i (F i) h b.runs in
      let is = above_idle l i (G i) z in
      stays up (b.others l (λ z. omega arith)) (omega (arith, moved i b.low b.others, r.above_are)) r

  -- its own step
  on_it : {own n : ℕ} (i : ℕ) → i ≡ l → ServedAt levels F G i → GoesOn (F i) (G i) n → Runs levels op l q F 0 own
      → Runs levels op l q G 0 (own + n)
  on_it {own} {n} i e b g r =
      let at_l : GoesOn (F l) (G l) n = rw e at g in
      let was = above_low l i (F i) (omega arith) in
      let is = above_low l i (G i) (omega arith) in
      record {
        op_is = at_l.op ∙ r.op_is;
        queue_is = at_l.queue_is ∙ r.queue_is;
        steps_are = omega (arith, at_l.steps_are, r.steps_are);
        above_are = omega (arith, moved i b.low b.others, r.above_are);
      }

  its_end : {own n : ℕ} {e : End} (i : ℕ) → i ≡ l → EndsAs i (F i) n e → InBounds v e → Runs levels op l q F 0 own
      → Where levels op l q v G (next (ends n e) (running 0 own))
  its_end {n = n} {e = e} i z x short r =
      let at_l : EndsAs l (F l) n e = rw z at x in (
        at_l.op ∙ r.op_is,
        at_l.level_is,
        at_l.queue_is ∙ r.queue_is,
        omega (arith, at_l.steps_are, r.steps_are),
        short,
      )

  -- after a call
  pub where_next : (x : Effect) (c : Course) → Move levels v F G x → Where levels op l q v F c → Where levels op l q v G (next x c)
  where_next _ (over own e) (begun i b) r = r
  where_next _ (over own e) (goes i b g) r = r
  where_next _ (over own e) (stops i b z x s) r = r
  where_next _ (over own e) (rests z) r = r
  where_next _ (running up own) (begun i b) r = begun_above i b r
  where_next _ (running zero own) (goes {n = n} i b g) r = by (whose i b r)
    where
      by : Whose 0 i → Where levels op l q v G (next (steps n) (running 0 own))
      by (its_own e z) = on_it i e b g r
      by (higher h z) = absurd (omega arith)
  where_next _ (running (suc up) own) (goes i b g) r = by (whose i b r)
    where
      by : Whose (suc up) i → Runs levels op l q G (suc up) own
      by (its_own e z) = absurd (omega arith)
      by (higher h z) = over_it i h b g r
  where_next _ (running zero own) (stops {n = n} {e = e} i b z x s) r = by (whose i b r)
    where
      by : Whose 0 i → Where levels op l q v G (next (ends n e) (running 0 own))
      by (its_own e z) = its_end i e x s r
      by (higher h z) = absurd (omega arith)
  where_next _ (running (suc up) own) (stops i b z x s) r = by (whose i b r)
    where
      by : Whose (suc up) i → Runs levels op l q G up own
      by (its_own e k) = absurd (omega arith)
      by (higher h k) = over_ends i h b z r
  where_next _ (running zero own) (rests z) r =
      let e : own + 0 ≡ own = omega arith in rw e (subst (λ (H : ℕ → Frame). Runs levels op l q H 0 own) z r)
  where_next _ (running (suc up) own) (rests z) r = subst (λ (H : ℕ → Frame). Runs levels op l q H (suc up) own) z r

-- ---- the moves that are left, where an operation may take so many steps

-- what an operation has left of them
unfoldable pub left_of : ℕ → Frame → ℕ
left_of most f = cond (eqb f.op 0) 0 (most - f.steps)

left_idle : (most : ℕ) (f : Frame) → f.op ≡ 0 → left_of most f ≡ 0
unfolding left_of
left_idle most f e = rw (eq-eqb f.op 0 e)

left_busy : (most : ℕ) (f : Frame) → f.op ≢ 0 → left_of most f ≡ most - f.steps
unfolding left_of
left_busy most f h = rw (ne_eqb f.op 0 h)

abbrev pub left : ℕ → ℕ → (ℕ → Frame) → ℕ
left levels most F = total (λ j. left_of most (F j)) levels

pub none_left : (levels most : ℕ) (F : ℕ → Frame) → ((j : ℕ) → (F j).op ≡ 0) → left levels most F ≡ 0
none_left levels most F h = total_none (λ j. left_of most (F j)) levels (λ j. left_idle most (F j) (h j))

module _ (levels most v : ℕ) (F G : ℕ → Frame) where
  changed : (i : ℕ) → i < levels → ((j : ℕ) → j ≢ i → G j ≡ F j)
      → left levels most G + left_of most (F i) ≡ left levels most F + left_of most (G i)
  changed i b others = total_but (λ j. left_of most (F j)) (λ j. left_of most (G j)) i levels b (λ j ne. ap (left_of most) (others j ne))

  -- every move lowers them; one that is begun has all of them
  pub falls : (x : Effect) → Move levels v F G x → ((j : ℕ) → j < levels → (G j).op ≢ 0 → (G j).steps ≤ most)
      → ((j : ℕ) → j < levels → operation_most j v ≤ most)
      → moves_by x + left levels most G ≤ begun_by x * (1 + most) + left levels most F
  falls _ (begun i b) within bound =
      let was = left_idle most (F i) (b.idle i (omega arith)) in
      let is = left_busy most (G i) b.runs in
      omega (arith, changed i b.low b.others, b.steps_are)
  falls _ (goes i b g) within bound =
      let busy : (G i).op ≢ 0 = λ z. b.runs (sym g.op ∙ z) in
      let was = left_busy most (F i) b.runs in
      let is = left_busy most (G i) busy in
      omega (arith, changed i b.low b.others, g.steps_are, within i b.low busy)
  falls _ (stops i b z x s) within bound =
      let was = left_busy most (F i) b.runs in
      let is = left_idle most (G i) z in
      let at : operation_most _ v ≡ operation_most i v = ap (λ (k : ℕ). operation_most k v) x.level_is in
      omega (arith, changed i b.low b.others, x.steps_are, s.operation, bound i b.low, at)
  falls _ (rests z) within bound = omega (arith, ap (left levels most) z)
