-- What the proofs of the replay cite.
use Prim.Native.Nat.{ℕ, zero, suc, ◌+◌, ◌-◌, ◌≤◌, ◌<◌}
use Rattle.std.specs.Prelude.{◌≡◌, refl, Bool, true, false, length, get_or, take, replicate, ltb, None}
use Rattle.std.proofs.Math.Path.{ap}
use Rattle.std.proofs.Common.{◌∙◌, add-one, drop_of_length-le, get_or-take, le-ltb}
use mathlib.Core.List.{List, [], ◌∷◌, ◌++◌}
use native.Mathlib.Omega.{arith}
use Rattle.std.proofs.lemmas.List.{length-replicate}
use Rattle.words.specs.declared.Queue.{Queue}
use Rattle.words.specs.declared.Sizes.{Sizes}
use Rattle.words.specs.Layout.{limits, measured, words}
use Rattle.answers.specs.declared.End.{End}
use Rattle.answers.specs.declared.Why.{Why}
use Rattle.answers.specs.declared.Why.TheVariants.{Ended, Spent, Idle, Damaged}
use Rattle.answers.specs.Said.{Said, refused, says, Run, after, an_end, why_says}
use Rattle.steps.specs.Run.{run_measured, run_of}
use Rattle.fresh.specs.Fresh.{fresh_table, fresh_of}
use Rattle.asks.specs.Listing.{listing_of}
use Rattle.play.specs.Play.{Played, before, steps_of}
use Rattle.play.specs.Steps.{ran_played, steps_run}
use Rattle.ways.specs.declared.Op.{Op}
use Rattle.ways.specs.Schedules.{Tried, op_in, begun, fresh}
use Rattle.outcomes.specs.Notes.{Notes, note_one, note}
use Rattle.outcomes.specs.NotesLaws.{note_append, note_then, note_first}
use Rattle.outcomes.specs.Outcomes.{
  mark,
  returned,
  Replay,
  into,
  replay_steps,
  begin_then,
  replay_from,
  nodes_in,
  queue_nodes,
  queues_nodes,
  ended_in,
  outcome_from,
  outcome_of,
}

-- ---- steps

abbrev at_end : Played → Replay
at_end p = (p.0, p.1.1)

into_before : (x y : Notes) (xs : List ℕ) (p : Replay) → note x xs ≡ y → into x (before xs p) ≡ into y p
into_before x y xs p e = ap (λ (w : Notes). (w, p.1)) (note_append x xs p.0 ∙ rw e)

into_none : (x : Notes) (t : List ℕ) → into x ([], t) ≡ (x, t)
unfolding note
into_none x t = refl

module _ (x : Notes) (left : ℕ) (t : List ℕ) where
  -- a run that ended an operation, and one that stopped otherwise
  pub steps_ended : (y : Notes) (n : ℕ) (u : List ℕ) (e : End) → 0 < left → run_of left t ≡ (says (after n (an_end e)), u)
      → note x (returned e) ≡ y → into x (replay_steps left t) ≡ into y (replay_steps (left - n) u)
  unfolding ran_played
  steps_ended y n u e h r i =
      ap (λ (p : Played). into x (at_end p)) (steps_run returned left t h ∙ ap (ran_played returned left) r)
      ∙ into_before x y (returned e) (replay_steps (left - n) u) i

  pub steps_stopped : (u : List ℕ) (a : Said Run) → 0 < left → run_of left t ≡ (a, u)
      → at_end (ran_played returned left (a, u)) ≡ ([], u) → into x (replay_steps left t) ≡ (x, u)
  steps_stopped u a h r e =
      ap (λ (p : Played). into x (at_end p)) (steps_run returned left t h ∙ ap (ran_played returned left) r)
      ∙ ap (into x) e
      ∙ into_none x u

  -- a run that ended no operation
  pub steps_halted : (u : List ℕ) (n : ℕ) (w : Why) → 0 < left → run_of left t ≡ (says (after n (why_says w)), u) → ((e : End) → w ≡ Ended e → ⊥)
      → into x (replay_steps left t) ≡ (x, u)
  unfolding ran_played
  steps_halted u n (Ended e) h r f = absurd (f e refl)
  steps_halted u n Spent h r f = steps_stopped u _ h r refl
  steps_halted u n Idle h r f = steps_stopped u _ h r refl
  steps_halted u n Damaged h r f = steps_stopped u _ h r refl

pub steps_none : (x : Notes) (left : ℕ) (t : List ℕ) → left ≤ 0 → into x (replay_steps left t) ≡ (x, t)
unfolding steps_of
steps_none x zero t h = into_none x t
steps_none x (suc n) t h = absurd (omega arith)

-- no table
pub steps_unfit : (x : Notes) (left : ℕ) (t : List ℕ) → measured t ≡ None → into x (replay_steps left t) ≡ (x, t)
unfolding run_of run_measured ran_played
steps_unfit x zero t m = steps_none x 0 t (omega arith)
steps_unfit x (suc left) t m = steps_stopped x (suc left) t t (refused 1) (omega arith) (rw m) refl

-- ---- operations

begin_then_holds : (x y : Notes) (others : List ℕ → Replay) (o : Op) (p : Replay) (u v : List ℕ) (b : Bool) → into x p ≡ (y, u)
    → begun o u ≡ (b, v) → into x (begin_then others o p) ≡ into y (others v)
unfolding begin_then
begin_then_holds x y others o p u v b e g =
    let noted : note x p.0 ≡ y = ap (λ (q : Notes × List ℕ). q.0) e in
    let left : p.1 ≡ u = ap (λ (q : Notes × List ℕ). q.1) e in
    let table : (begun o p.1).1 ≡ v = ap (λ (w : List ℕ). (begun o w).1) left ∙ ap (λ (q : Tried). q.1) g in
    into_before x y p.0 (others (begun o p.1).1) noted ∙ ap (λ (w : List ℕ). into y (others w)) table

module _ (k : ℕ) (ops path : List ℕ) where
  pub replay_more : (x y : Notes) (i : ℕ) (t u v : List ℕ) (b : Bool) → i < k → into x (replay_steps (get_or path i 0) t) ≡ (y, u)
      → begun (op_in ops i) u ≡ (b, v)
      → into x (replay_from (k - i) ops path i t) ≡ into y (replay_from (k - (i + 1)) ops path (i + 1) v)
  unfolding replay_from
  replay_more x y i t u v b h e g =
      let one : k - i ≡ suc (k - (i + 1)) = omega arith in
      ap (λ (j : ℕ). into x (replay_from j ops path i t)) one
      ∙ begin_then_holds x y (replay_from (k - (i + 1)) ops path (i + 1)) (op_in ops i) (replay_steps (get_or path i 0) t) u v b e g

  pub replay_last : (x : Notes) (i : ℕ) (t : List ℕ) → k ≤ i
      → into x (replay_from (k - i) ops path i t) ≡ into x (replay_steps (get_or path i 0) t)
  unfolding replay_from
  replay_last x i t h = let none : k - i ≡ 0 = omega arith in ap (λ (j : ℕ). into x (replay_from j ops path i t)) none

  pub replay_start : (x : Notes) (t : List ℕ) → into x (replay_from k ops path 0 t) ≡ into x (replay_from (k - 0) ops path 0 t)
  replay_start x t = let e : k ≡ k - 0 = omega arith in ap (λ (j : ℕ). into x (replay_from j ops path 0 t)) e

-- ---- queues

pub queue_listed : (t : List ℕ) (q : Queue) (n : ℕ) (nodes : List ℕ) → listing_of t q (replicate 6 0) ≡ (says n, nodes)
    → queue_nodes t q.0 ≡ take n nodes ++ (mark ∷ [])
unfolding queue_nodes nodes_in
queue_listed t q n nodes h = rw h

pub queue_unlisted : (t : List ℕ) (q : Queue) (r : ℕ) (nodes : List ℕ) → listing_of t q (replicate 6 0) ≡ (refused r, nodes)
    → queue_nodes t q.0 ≡ mark ∷ []
unfolding queue_nodes nodes_in
queue_unlisted t q r nodes h = rw h

pub queues_more : {y : Notes} (x : Notes) (t : List ℕ) (i queues : ℕ) → i < queues → note x (queue_nodes t (i + 1)) ≡ y
    → note x (queues_nodes t (i + 1) (queues - i)) ≡ note y (queues_nodes t (i + 1 + 1) (queues - (i + 1)))
unfolding queues_nodes
queues_more {y} x t i queues h e = by (queues - i) (omega arith)
  where
    by : (k : ℕ) → k ≡ suc (queues - (i + 1))
        → note x (queues_nodes t (i + 1) k) ≡ note y (queues_nodes t (i + 1 + 1) (queues - (i + 1)))
    by k f =
        ap (λ (j : ℕ). note x (queues_nodes t (i + 1) j)) f
        ∙ note_then x (queue_nodes t (i + 1)) (queues_nodes t (suc (i + 1)) (queues - (i + 1))) e refl
        ∙ rw (add-one (i + 1))

pub queues_none : (x : Notes) (t : List ℕ) (i queues : ℕ) → queues ≤ i → note x (queues_nodes t (i + 1) (queues - i)) ≡ x
unfolding queues_nodes note
queues_none x t i queues h = let e : queues - i ≡ 0 = omega arith in rw e

pub queues_start : (x : Notes) (t : List ℕ) (queues : ℕ) → note x (queues_nodes t 1 queues) ≡ note x (queues_nodes t (0 + 1) (queues - 0))
queues_start x t queues = let e : queues ≡ queues - 0 = omega arith in ap (λ (k : ℕ). note x (queues_nodes t 1 k)) e

-- ---- the outcome

pub outcome_noted : (x y z w : Notes) (queues : ℕ) (ops : List ℕ) (k : ℕ) (path t u : List ℕ)
    → into x (replay_from k ops path 0 t) ≡ (y, u) → note_one y mark ≡ z → note z (queues_nodes u 1 queues) ≡ w
    → note x (outcome_from queues ops k path t) ≡ w
unfolding outcome_from ended_in
outcome_noted x y z w queues ops k path t u e m q = by (replay_from k ops path 0 t) e
  where
    by : (p : Replay) → into x p ≡ (y, u) → note x (ended_in queues p) ≡ w
    by p e =
        let noted : note x p.0 ≡ y = ap (λ (v : Notes × List ℕ). v.0) e in
        let left : p.1 ≡ u = ap (λ (v : Notes × List ℕ). v.1) e in
        note_then x p.0 (mark ∷ queues_nodes p.1 1 queues) noted (note_first y mark _ m (rw left q))

-- the numbers behind the last steps are not looked at
begin_same : (f g : List ℕ → Replay) (o : Op) (p : Replay) → ((u : List ℕ) → f u ≡ g u) → begin_then f o p ≡ begin_then g o p
unfolding begin_then
begin_same f g o p h = ap (before p.0) (h (begun o p.1).1)

module _ (ops path : List ℕ) (n : ℕ) where
  replay_take : (rest i : ℕ) (t : List ℕ) → i + rest < n → replay_from rest ops (take n path) i t ≡ replay_from rest ops path i t
  unfolding replay_from
  replay_take zero i t h = ap (λ (c : ℕ). replay_steps c t) (get_or-take n path i 0 (omega arith))
  replay_take (suc rest) i t h =
      let others : List ℕ → Replay = replay_from rest ops (take n path) (i + 1) in
      ap (λ (c : ℕ). begin_then others (op_in ops i) (replay_steps c t)) (get_or-take n path i 0 (omega arith))
      ∙ begin_same others (replay_from rest ops path (i + 1)) (op_in ops i) (replay_steps (get_or path i 0) t)
      (λ u. replay_take rest (i + 1) u (omega arith))

pub outcome_take : (s : Sizes) (ops : List ℕ) (k : ℕ) (path : List ℕ) → outcome_of s ops k (take (k + 1) path) ≡ outcome_of s ops k path
unfolding outcome_of outcome_from
outcome_take s ops k path = ap (ended_in s.queues) (replay_take ops path (k + 1) k 0 (fresh s) (omega arith))

-- ---- a fresh table in words that are just enough

fresh_same : (s : Sizes) (t u : List ℕ) → length t ≤ words s → length u ≤ words s → fresh_table s t ≡ fresh_table s u
unfolding fresh_table
fresh_same s t u h k = rw (drop_of_length-le t {i = words s} h, drop_of_length-le u {i = words s} k)

pub fresh_is : (s : Sizes) (t : List ℕ) → limits s ≡ true → length t ≡ words s → (fresh_of s t).1 ≡ fresh s
unfolding fresh_of
fresh_is s t l e =
    let long : ltb (length t) (words s) ≡ false = le-ltb (length t) (words s) (omega arith) in
    rw (l, long) (fresh_same s t (replicate (words s) 0) (omega arith) (rw length-replicate (omega arith)))
