-- What the calls give: the proofs of the functions that make one call cite these.
use Rattle.std.specs.Prelude.{ℕ, ◌≡◌, Bool, true, false, cond, ◌&&◌, List, eqb, Some, None, Result, Ok, Err, is_ok}
use Rattle.std.proofs.Math.Path.{refl}
use Rattle.std.proofs.Common.{sym, ap, ◌∙◌, ne_eqb, eqb-true}
use Rattle.std.proofs.lemmas.Bool.{false≢true, eqb-false}
use Rattle.words.specs.declared.Level.{Level}
use Rattle.words.specs.declared.Queue.{Queue}
use Rattle.words.specs.declared.Node.{Node}
use Rattle.words.specs.declared.Sizes.{Sizes}
use Rattle.words.specs.Layout.{measured, frame_of}
use Rattle.words.specs.Laws.{measured_fits}
use Rattle.answers.specs.declared.Refusal.{Refusal}
use Rattle.answers.specs.declared.Refusal.TheVariants as why
use Rattle.answers.specs.Said.{Said, refused, says, Step, number, refusal_number}
use Rattle.begins.specs.Begin.{unless, enqueue_why, enqueue_sized, enqueue_measured, enqueue_of}
use Rattle.begins.specs.Begin.{dequeue_why, dequeue_sized, dequeue_measured, dequeue_of}
use Rattle.begins.specs.Keeping.{enqueue_kept, dequeue_kept, enqueue_same, dequeue_same}
use Rattle.steps.specs.Step.{step_sized}
use Rattle.steps.proofs.Singly.{step_is}
use Rattle.steps.proofs.After.{Steady}
use Rattle.ways.specs.declared.Op.{Op}
use Rattle.ways.specs.Schedules.{accepts, tried, Tried, begun, stepped}

module _ (s : Sizes) (t : List ℕ) (m : measured t ≡ Some s) where
  pub stepped_is : (u : List ℕ) (x : Said Step) → step_sized s t ≡ (x, u) → stepped t ≡ (accepts x, u)
  unfolding stepped
  stepped_is u x e = rw (step_is s t m, e) refl

  enqueue_is : (l : Level) (q : Queue) (n : Node) → enqueue_of t l q n ≡ enqueue_sized s t l q n
  unfolding enqueue_of enqueue_measured
  enqueue_is l q n = rw m refl

  dequeue_is : (l : Level) (q : Queue) → dequeue_of t l q ≡ dequeue_sized s t l q
  unfolding dequeue_of dequeue_measured
  dequeue_is l q = rw m refl

-- ---- an operation begins

-- the table keeps its sizes
abbrev pub Begun : Sizes → List ℕ → Op → Bool → List ℕ → Type 0
Begun s t o b u = (begun o t ≡ (b, u)) × (measured u ≡ Some s)

pub begun_enqueue : (s : Sizes) (o : Op) (t u : List ℕ) → measured t ≡ Some s → o.op ≡ 1
    → enqueue_sized s t o.level o.queue o.node ≡ (says tt, u) → Begun s t o true u
unfolding begun
begun_enqueue s o t u m k e =
    let kept = enqueue_kept s t o.level o.queue o.node m in
    (rw (k, enqueue_is s t m o.level o.queue o.node, e) refl, rw e at kept)

pub begun_dequeue : (s : Sizes) (o : Op) (t u : List ℕ) → measured t ≡ Some s → o.op ≡ 2 → o.node.0 ≡ 0
    → dequeue_sized s t o.level o.queue ≡ (says tt, u) → Begun s t o true u
unfolding begun
begun_dequeue s o t u m k z e =
    let kept = dequeue_kept s t o.level o.queue m in
    (rw (k, z, dequeue_is s t m o.level o.queue, e) refl, rw e at kept)

begun_odd : (o : Op) (t : List ℕ) → o.op ≡ 2 → (o.node.0 ≡ 0 → ⊥) → begun o t ≡ (false, t)
unfolding begun
begun_odd o t k z = rw (k, ne_eqb _ 0 z) refl

begun_none : (o : Op) (t : List ℕ) → (o.op ≡ 1 → ⊥) → (o.op ≡ 2 → ⊥) → begun o t ≡ (false, t)
unfolding begun
begun_none o t k z = rw (ne_eqb _ 1 k, ne_eqb _ 2 z) refl

pub begun_unfit : (o : Op) (t : List ℕ) → measured t ≡ None → begun o t ≡ (false, t)
unfolding begun enqueue_of enqueue_measured dequeue_of dequeue_measured
begun_unfit o t m = rw m (by (eqb o.op 1) (eqb o.op 2 && eqb o.node.0 0))
  where
    by : (a b : Bool) → cond {A = Tried} a (false, t) (cond {A = Tried} b (false, t) (false, t)) ≡ (false, t)
    by true b = refl
    by false true = refl
    by false false = refl

-- ---- whether it would begin

-- a begin is accepted where there is no refusal
unless_accepts : (why : ℕ) (t new : List ℕ) → accepts (unless why t new).0 ≡ eqb why 0
unfolding unless
unless_accepts why t new = by (eqb why 0)
  where
    by : (b : Bool) → accepts (cond {A = Said Unit × List ℕ} b (says tt, new) (refused why, t)).0 ≡ b
    by true = refl
    by false = refl

enqueue_accepts : (s : Sizes) (t : List ℕ) (l : Level) (q : Queue) (n : Node) → measured t ≡ Some s
    → accepts (enqueue_of t l q n).0 ≡ eqb (enqueue_why s t l q n) 0
unfolding enqueue_sized
enqueue_accepts s t l q n m = rw (enqueue_is s t m l q n) (unless_accepts (enqueue_why s t l q n) t _)

dequeue_accepts : (s : Sizes) (t : List ℕ) (l : Level) (q : Queue) → measured t ≡ Some s
    → accepts (dequeue_of t l q).0 ≡ eqb (dequeue_why s t l q) 0
unfolding dequeue_sized
dequeue_accepts s t l q m = rw (dequeue_is s t m l q) (unless_accepts (dequeue_why s t l q) t _)

may_1 : (o : Op) (t : List ℕ) → o.op ≡ 1 → (begun o t).0 ≡ accepts (enqueue_of t o.level o.queue o.node).0
unfolding begun
may_1 o t k = rw k refl

may_2 : (o : Op) (t : List ℕ) → o.op ≡ 2 → o.node.0 ≡ 0 → (begun o t).0 ≡ accepts (dequeue_of t o.level o.queue).0
unfolding begun
may_2 o t k z = rw (k, z) refl

-- no refusal has the number 0
pub numbered : (r : Refusal) → false ≡ eqb (number r) 0
numbered = elim [
  | why.Table ↦ refl
  | why.Sizes ↦ refl
  | why.Level ↦ refl
  | why.Queue ↦ refl
  | why.Node ↦ refl
  | why.Busy ↦ refl
  | why.InUse ↦ refl
  | why.Dequeued ↦ refl
  | why.Idle ↦ refl
  | why.Damaged ↦ refl
  | why.Unquiet ↦ refl
  | why.Room ↦ refl
  | why.Many ↦ refl
]

unrefused : (x : Result Unit Refusal) → is_ok x ≡ eqb (refusal_number x) 0
unrefused (Ok x) = refl
unrefused (Err r) = numbered r

pub may_enqueue_is : (o : Op) (s : Sizes) (t : List ℕ) → o.op ≡ 1 → measured t ≡ Some s
    → eqb (enqueue_why s t o.level o.queue o.node) 0 ≡ (begun o t).0
may_enqueue_is o s t k m = sym (may_1 o t k ∙ enqueue_accepts s t o.level o.queue o.node m)

pub may_dequeue_is : (o : Op) (s : Sizes) (t : List ℕ) → o.op ≡ 2 → o.node.0 ≡ 0 → measured t ≡ Some s
    → eqb (dequeue_why s t o.level o.queue) 0 ≡ (begun o t).0
may_dequeue_is o s t k z m = sym (may_2 o t k z ∙ dequeue_accepts s t o.level o.queue m)

pub may_enqueue : (o : Op) (s : Sizes) (t : List ℕ) (x : Result Unit Refusal) → o.op ≡ 1 → measured t ≡ Some s
    → refusal_number x ≡ enqueue_why s t o.level o.queue o.node → is_ok x ≡ (begun o t).0
may_enqueue o s t x k m e = unrefused x ∙ ap (λ (i : ℕ). eqb i 0) e ∙ may_enqueue_is o s t k m

pub may_dequeue : (o : Op) (s : Sizes) (t : List ℕ) (x : Result Unit Refusal) → o.op ≡ 2 → o.node.0 ≡ 0 → measured t ≡ Some s
    → refusal_number x ≡ dequeue_why s t o.level o.queue → is_ok x ≡ (begun o t).0
may_dequeue o s t x k z m e = unrefused x ∙ ap (λ (i : ℕ). eqb i 0) e ∙ may_dequeue_is o s t k z m

pub may_odd : (o : Op) (t : List ℕ) → o.op ≡ 2 → (o.node.0 ≡ 0 → ⊥) → false ≡ (begun o t).0
may_odd o t k z = sym (ap (λ (x : Tried). x.0) (begun_odd o t k z))

pub may_none : (o : Op) (t : List ℕ) → (o.op ≡ 1 → ⊥) → (o.op ≡ 2 → ⊥) → false ≡ (begun o t).0
may_none o t k z = sym (ap (λ (x : Tried). x.0) (begun_none o t k z))

pub ruleset may = (measured_fits, may_enqueue, may_dequeue, may_odd, may_none)

-- an operation that would begin: no refusal is given
pub accepted_enqueue : (o : Op) (s : Sizes) (t : List ℕ) → o.op ≡ 1 → measured t ≡ Some s → (begun o t).0 ≡ true
    → enqueue_why s t o.level o.queue o.node ≡ 0
accepted_enqueue o s t k m h = eqb-true _ 0 (may_enqueue_is o s t k m ∙ h)

pub accepted_two : (o : Op) (t : List ℕ) → (o.op ≡ 1 → ⊥) → (begun o t).0 ≡ true → o.op ≡ 2
accepted_two o t k h = by (eqb o.op 2) refl
  where
    by : (b : Bool) → eqb o.op 2 ≡ b → o.op ≡ 2
    by true e = eqb-true o.op 2 e
    by false e = absurd (false≢true (may_none o t k (eqb-false o.op 2 e) ∙ h))

pub accepted_nodeless : (o : Op) (t : List ℕ) → o.op ≡ 2 → (begun o t).0 ≡ true → o.node.0 ≡ 0
accepted_nodeless o t k h = by (eqb o.node.0 0) refl
  where
    by : (b : Bool) → eqb o.node.0 0 ≡ b → o.node.0 ≡ 0
    by true e = eqb-true o.node.0 0 e
    by false e = absurd (false≢true (may_odd o t k (eqb-false o.node.0 0 e) ∙ h))

pub accepted_dequeue : (o : Op) (s : Sizes) (t : List ℕ) → o.op ≡ 2 → o.node.0 ≡ 0 → measured t ≡ Some s → (begun o t).0 ≡ true
    → dequeue_why s t o.level o.queue ≡ 0
accepted_dequeue o s t k z m h = eqb-true _ 0 (may_dequeue_is o s t k z m ∙ h)

pub ruleset accepted = (measured_fits, accepted_enqueue, accepted_two, accepted_nodeless, accepted_dequeue)

-- and one that would not leaves the table
unless_stays : (why : ℕ) (t new : List ℕ) → accepts (unless why t new).0 ≡ false → tried (unless why t new) ≡ (false, t)
unfolding unless
unless_stays why t new = by (eqb why 0)
  where
    by : (b : Bool) → accepts (cond {A = Said Unit × List ℕ} b (says tt, new) (refused why, t)).0 ≡ false
        → tried (cond {A = Said Unit × List ℕ} b (says tt, new) (refused why, t)) ≡ (false, t)
    by true h = absurd (false≢true (sym h))
    by false h = refl

pub refused_stays : (o : Op) (s : Sizes) (t : List ℕ) → measured t ≡ Some s → (begun o t).0 ≡ false → begun o t ≡ (false, t)
unfolding begun enqueue_sized dequeue_sized
refused_stays o s t m = by (eqb o.op 1) (eqb o.op 2 && eqb o.node.0 0)
  where
    enqueued : Said Unit × List ℕ
    enqueued = enqueue_of t o.level o.queue o.node

    taken : Said Unit × List ℕ
    taken = dequeue_of t o.level o.queue

    by : (a b : Bool) → (cond {A = Tried} a (tried enqueued) (cond {A = Tried} b (tried taken) (false, t))).0 ≡ false
        → cond {A = Tried} a (tried enqueued) (cond {A = Tried} b (tried taken) (false, t)) ≡ (false, t)
    by true b h =
        let is = enqueue_is s t m o.level o.queue o.node in
        rw is (unless_stays (enqueue_why s t o.level o.queue o.node) t _ (rw is at h))
    by false true h =
        let is = dequeue_is s t m o.level o.queue in
        rw is (unless_stays (dequeue_why s t o.level o.queue) t _ (rw is at h))
    by false false h = refl

-- an operation that would begin still would after a step that goes on, and one that would not still would not
pub begun_steady : (o : Op) (s : Sizes) (t u : List ℕ) → measured t ≡ Some s → measured u ≡ Some s → Steady s t u
    → (begun o u).0 ≡ (begun o t).0
unfolding begun
begun_steady o s t u m n h = by (eqb o.op 1) (eqb o.op 2 && eqb o.node.0 0)
  where
    l : Level
    l = o.level

    q : Queue
    q = o.queue

    ops : (k : Level) → (frame_of s u k).op ≡ (frame_of s t k).op
    ops k = ap (λ (x : ℕ × ℕ). x.0) (h.kinds k)

    queues : (k : Level) → (frame_of s u k).queue.0 ≡ (frame_of s t k).queue.0
    queues k = ap (λ (x : ℕ × ℕ). x.1) (h.kinds k)

    by : (a b : Bool)
        → (cond {A = Tried} a (tried (enqueue_of u l q o.node)) (cond {A = Tried} b (tried (dequeue_of u l q)) (false, u))).0
        ≡ (cond {A = Tried} a (tried (enqueue_of t l q o.node)) (cond {A = Tried} b (tried (dequeue_of t l q)) (false, t))).0
    by true b =
        let same = enqueue_same s t u ops l q o.node h.uses in
        enqueue_accepts s u l q o.node n ∙ ap (λ (w : ℕ). eqb w 0) same ∙ sym (enqueue_accepts s t l q o.node m)
    by false true =
        let same = dequeue_same s t u ops l q queues in
        dequeue_accepts s u l q n ∙ ap (λ (w : ℕ). eqb w 0) same ∙ sym (dequeue_accepts s t l q m)
    by false false = refl
