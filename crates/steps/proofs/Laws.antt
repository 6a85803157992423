-- Facts about steps and runs that the code's proofs cite.
use Prim.Native.Nat.{ℕ, zero, suc, ◌-◌, ◌≤◌, ◌<◌}
use Rattle.std.specs.Prelude.{◌≡◌, ◌≢◌, Bool, length, eqb, Option, Some, None}
use Rattle.std.proofs.Math.Path.{refl}
use Rattle.std.proofs.Common.{ap, sym, ◌∙◌, arith, ne_eqb}
use mathlib.Core.List.{List}
use Rattle.std.proofs.Math.Bool.{true, false, cond}
use Rattle.std.proofs.lemmas.Bool.{eqb-false}
use Rattle.words.specs.declared.Level.{Level}
use Rattle.words.specs.declared.Sizes.{Sizes}
use Rattle.words.specs.declared.Frame.{Frame}
use Rattle.words.specs.declared.Word.{Word}
use Rattle.words.specs.declared.Word.TheVariants as word
use Rattle.words.specs.Layout.{level, words, has, rd, wr, frame_of, put_frame, no_frame}
use Rattle.words.specs.Laws.{has_use, rd_put, frame_same, put_put, put_wr}
use Rattle.answers.specs.Said.{Said, refused, Step}
use Rattle.table.specs.Points.{point_of}
use Rattle.table.specs.Frames.{counted}
use Rattle.table.specs.Table.{Row, loads, stores, frees, nothing, row}
use Rattle.table.specs.Turn.{turned}
use Rattle.table.specs.declared.After.{After}
use Rattle.table.specs.declared.After.TheVariants.{Go, Done}
use Rattle.steps.specs.Step.{Out, serving, sound, settled, performed, step_frame, step_served, step_sized}
use Rattle.steps.specs.Run.{ran_on, run_from}
use Rattle.steps.specs.Held.{Held, Damaged, followed, follow, held, back}

-- ---- the search for the level to serve, from i downwards

serving_last : (s : Sizes) (t : List ℕ) (i n : ℕ) → n ≡ i - 1 → 0 < i
    → serving s t i ≡ cond (eqb (frame_of s t (level n)).op 0) (serving s t n) (Some (level n))
unfolding serving
serving_last s t zero n e h = absurd (omega arith)
serving_last s t (suc i) n e h = let p : i ≡ n = omega arith in rw p

pub serving_miss : (s : Sizes) (t : List ℕ) (i n : ℕ) → n ≡ i - 1 → 0 < i → (frame_of s t (level n)).op ≡ 0 → serving s t i ≡ serving s t n
serving_miss s t i n e h z = rw (serving_last s t i n e h, z)

pub serving_hit : (s : Sizes) (t : List ℕ) (i n : ℕ) → n ≡ i - 1 → 0 < i → ((frame_of s t (level n)).op ≡ 0 → ⊥)
    → serving s t i ≡ Some (level n)
serving_hit s t i n e h z = rw (serving_last s t i n e h, ne_eqb (frame_of s t (level n)).op 0 z)

pub serving_below : (s : Sizes) (t : List ℕ) (n : ℕ) (l : Level) → serving s t n ≡ Some l → l.0 < n
unfolding serving
serving_below s t zero l e = cc
serving_below s t (suc n) l e = by (eqb (frame_of s t (level n)).op 0) (serving_below s t n l) e
  where
    by : (b : Bool) → (serving s t n ≡ Some l → l.0 < n) → cond b (serving s t n) (Some (level n)) ≡ Some l → l.0 < suc n
    by true ih h = omega (arith, ih h)
    by false ih h = let z : n ≡ l.0 = cc in omega arith

pub serving_runs : (s : Sizes) (t : List ℕ) (n : ℕ) (l : Level) → serving s t n ≡ Some l → (frame_of s t l).op ≢ 0
unfolding serving
serving_runs s t zero l e = cc
serving_runs s t (suc n) l e = by (eqb (frame_of s t (level n)).op 0) refl (serving_runs s t n l) e
  where
    by : (b : Bool) → eqb (frame_of s t (level n)).op 0 ≡ b → (serving s t n ≡ Some l → (frame_of s t l).op ≢ 0)
        → cond b (serving s t n) (Some (level n)) ≡ Some l → (frame_of s t l).op ≢ 0
    by true o ih h = ih h
    by false o ih h = let z : level n ≡ l = cc in rw z at (eqb-false (frame_of s t (level n)).op 0 o)

-- ---- a step of a frame that is held beside the table

module _ (s : Sizes) (t : List ℕ) (l : Level) (f g : Frame) where
  settled_put : (a : After) → settled s (put_frame s t l f) l g a ≡ settled s t l g a
  unfolding settled
  settled_put (Go h) = rw (put_put s t l f h)
  settled_put (Done n) = rw (put_put s t l f no_frame)

  -- f is the frame that the table has, g the same with this step counted
  abbrev put_back : Option After × List ℕ → Out
  put_back x = back s l f (followed l g x.0) x.1

  next_back : (a : After) (u : List ℕ) → settled s u l g a ≡ put_back (Some a, u)
  unfolding settled back followed
  next_back (Go h) u = refl
  next_back (Done n) u = refl

stored_put : (s : Sizes) (t : List ℕ) (l : Level) (f g : Frame) (a : After) (w : Word) → has s w ≡ true → (v : ℕ)
    → settled s (wr s (put_frame s t l f) w v) l g a ≡ settled s (wr s t w v) l g a
stored_put s t l f g a w h v =
    ap (λ (u : List ℕ). settled s u l g a) (sym (put_wr s t l f w h v)) ∙ settled_put s (wr s t w v) l f g a

module _ (s : Sizes) (t : List ℕ) (l : Level) (f g : Frame) where
  performed_held : (r : Row) → performed s (put_frame s t l f) l g r ≡ put_back s t l f g (turned s t r)
  unfolding performed turned back followed
  performed_held (loads w after) = by (has s w) refl
    where
      by : (b : Bool) → has s w ≡ b
          → cond b (settled s (put_frame s t l f) l g (after (rd s (put_frame s t l f) w))) (refused 10, put_frame s t l f)
          ≡ put_back s t l f g (cond b (Some (after (rd s t w)), t) (None, t))
      by true h =
          rw (rd_put s t l f w h) (settled_put s t l f g (after (rd s t w)) ∙ next_back s t l f g (after (rd s t w)) t)
      by false h = refl
  performed_held (stores w v after) = by (has s w) refl
    where
      by : (b : Bool) → has s w ≡ b
          → cond b (settled s (wr s (put_frame s t l f) w v) l g after) (refused 10, put_frame s t l f)
          ≡ put_back s t l f g (cond b (Some after, wr s t w v) (None, t))
      by true h = stored_put s t l f g after w h v ∙ next_back s t l f g after (wr s t w v)
      by false h = refl
  performed_held (frees n after) = by (has s (word.Next n)) refl
    where
      u : List ℕ
      u = wr s t (word.Next n) 0

      by : (b : Bool) → has s (word.Next n) ≡ b
          → cond b (settled s (wr s (wr s (put_frame s t l f) (word.Next n) 0) (word.Use n) 0) l g after) (refused 10, put_frame s t l f)
          ≡ put_back s t l f g (cond b (Some after, wr s (wr s t (word.Next n) 0) (word.Use n) 0) (None, t))
      by true h =
          ap (λ (x : List ℕ). settled s (wr s x (word.Use n) 0) l g after) (sym (put_wr s t l f (word.Next n) h 0))
          ∙ stored_put s u l f g after (word.Use n) (has_use s n h) 0
          ∙ next_back s t l f g after (wr s u (word.Use n) 0)
      by false h = refl
  performed_held nothing = refl

-- the step of a table is that of its frame held beside it, put back
pub step_held : (s : Sizes) (t : List ℕ) (l : Level) (f : Frame) → words s ≤ length t → l.0 < s.levels
    → serving s (put_frame s t l f) s.levels ≡ Some l
    → step_sized s (put_frame s t l f) ≡ back s l f (held s t l (counted f)).0 (held s t l (counted f)).1
unfolding step_sized step_served step_frame held back
step_held s t l f room h e =
    rw (e, frame_same s t l f room h) (by (sound s (counted f)))
  where
    g : Frame
    g = counted f

    r : Row
    r = row (point_of g.point) g l (level s.levels)

    by : (b : Bool)
        → cond b (performed s (put_frame s t l f) l g r) (refused 10, put_frame s t l f)
        ≡ back s l f (cond b (follow l g (turned s t r)) (Damaged, t)).0 (cond b (follow l g (turned s t r)) (Damaged, t)).1
    by true = performed_held s t l f g r
    by false = refl

-- ---- one more step of a run, by what it says

pub run_more : (s : Sizes) (left b n : ℕ) (t u : List ℕ) (x : Said Step) → b ≡ left - 1 → 0 < left → step_sized s t ≡ (x, u)
    → run_from s left n t ≡ ran_on n (run_from s b) x u
unfolding run_from
run_more s zero b n t u x e h k = absurd (omega arith)
run_more s (suc i) b n t u x e h k = let p : i ≡ b = omega arith in rw (p, k)

-- and by the step of a held frame
pub run_held : (s : Sizes) (left b n : ℕ) (t u : List ℕ) (l : Level) (f : Frame) (h : Held) → words s ≤ length t → l.0 < s.levels
    → serving s (put_frame s t l f) s.levels ≡ Some l → b ≡ left - 1 → 0 < left → held s t l (counted f) ≡ (h, u)
    → run_from s left n (put_frame s t l f) ≡ ran_on n (run_from s b) (back s l f h u).0 (back s l f h u).1
run_held s left b n t u l f h room below e p q k =
    run_more s left b n (put_frame s t l f) (back s l f h u).1 (back s l f h u).0 p q
    (step_held s t l f room below e ∙ ap (λ (x : Held × List ℕ). back s l f x.0 x.1) k)
