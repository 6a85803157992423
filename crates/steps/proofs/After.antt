-- What a step leaves. Where it goes on: the op and the queue of every frame, and every node's use, as they were. Where it ends an
-- operation: nothing that runs at its level or above.
use Prim.Native.Nat.{ℕ, zero, suc, ◌≤◌, ◌<◌}
use Rattle.std.proofs.Math.Path.{◌≡◌, refl, ap, sym}
use Rattle.std.proofs.Common.{◌∙◌, arith}
use mathlib.Core.List.{List}
use Rattle.std.specs.Prelude.{Bool, length, Option, Some, None}
use Rattle.std.proofs.Math.Bool.{true, false, cond}
use Rattle.std.proofs.Math.Dec.{eqb}
use borrow.Author.Tests.{eqb-true, eqb-false}
use Rattle.words.specs.declared.Level.{Level}
use Rattle.words.specs.declared.Node.{Node}
use Rattle.words.specs.declared.Sizes.{Sizes}
use Rattle.words.specs.declared.Frame.{Frame}
use Rattle.words.specs.declared.Word.TheVariants.{Use}
use Rattle.words.specs.Layout.{level, words, has, rd, frame_of, put_frame, no_frame}
use Rattle.words.specs.Laws.{rd_put, frame_same, frame_other, put_own}
use Rattle.answers.specs.declared.End.{End}
use Rattle.answers.specs.Said.{refused, says, going_on, ended}
use Rattle.table.specs.Points.{point_of}
use Rattle.table.specs.Frames.{counted}
use Rattle.table.specs.Table.{row}
use Rattle.table.specs.Turn.{turned}
use Rattle.table.specs.declared.After.{After}
use Rattle.table.specs.declared.After.TheVariants.{Go, Done}
use Rattle.steps.specs.Step.{Out, serving, sound, end_of, step_served, step_sized}
use Rattle.steps.specs.Held.{Held, Going, Ended, Damaged, followed, follow, held, back}
use Rattle.steps.proofs.Laws.{step_held, serving_below}
use Rattle.steps.specs.Keeping.{kind, Goes, held_goes, Left, held_leaves}

pub record Steady (s : Sizes) (t u : List ℕ) : Type 0 where
  pub kinds : (k : Level) → kind (frame_of s u k) ≡ kind (frame_of s t k)
  pub uses : (n : Node) → has s (Use n) ≡ true → rd s u (Use n) ≡ rd s t (Use n)

-- where an operation ended, and what is served then
pub record Down (s : Sizes) (e : End) (u : List ℕ) : Type 0 where
  pub below : e.level.0 < s.levels
  pub serves : serving s u s.levels ≡ serving s u e.level.0

-- the level of an end
held_level : (s : Sizes) (t : List ℕ) (l : Level) (f : Frame) (d : End) → (held s t l f).0 ≡ Ended d → d.level ≡ l
unfolding held followed
held_level s t l f d e = by (sound s f) e
  where
    x : Option After × List ℕ
    x = turned s t (row (point_of f.point) f l (level s.levels))

    on : (y : Option After) → followed l f y ≡ Ended d → d.level ≡ l
    on (Some (Go g)) h = cc
    on (Some (Done n)) h = let same : end_of l f n ≡ d = cc in ap (λ (i : End). i.level) (sym same)
    on None h = cc

    by : (b : Bool) → (cond {A = Held × List ℕ} b (follow l f x) (Damaged, t)).0 ≡ Ended d → d.level ≡ l
    by true h = on x.0 h
    by false h = cc

module _ (s : Sizes) (t : List ℕ) (room : words s ≤ length t) where
  nobody_refused : (x : Out) → serving s t s.levels ≡ None → step_sized s t ≡ x → x ≡ (refused 9, t)
  unfolding step_sized step_served
  nobody_refused x z e = sym e ∙ rw z refl

  -- the step of the level that is served, its frame held beside the table
  pub served_step : (l : Level) → serving s t s.levels ≡ Some l
      → step_sized s t ≡ back s l (frame_of s t l) (held s t l (counted (frame_of s t l))).0 (held s t l (counted (frame_of s t l))).1
  served_step l z =
      let own : put_frame s t l (frame_of s t l) ≡ t = put_own s t l in
      let below = serving_below s t s.levels l z in
      let served : serving s (put_frame s t l (frame_of s t l)) s.levels ≡ Some l = ap (λ (x : List ℕ). serving s x s.levels) own ∙ z in
      ap (step_sized s) (sym own) ∙ step_held s t l (frame_of s t l) room below served

  -- ---- a step that goes on

  put_steady : (l : Level) (g : Frame) (v : List ℕ) → l.0 < s.levels → length v ≡ length t → Goes s t room (counted (frame_of s t l)) g v
      → Steady s t (put_frame s v l g)
  unfolding counted
  put_steady l g v below long goes =
      record {
        kinds = λ k. by k (eqb k.0 l.0) refl;
        uses = λ n h. rd_put s v l g (Use n) h ∙ goes.uses n h;
      }
    where
      by : (k : Level) (b : Bool) → eqb k.0 l.0 ≡ b → kind (frame_of s (put_frame s v l g) k) ≡ kind (frame_of s t k)
      by k true z =
          let same : k ≡ l = ap level (eqb-true k.0 l.0 z) in
          rw same (ap kind (frame_same s v l g (omega arith) below) ∙ goes.kinds)
      by k false z = ap kind (frame_other s v l g k (eqb-false k.0 l.0 z) ∙ goes.frames k)

  pub step_steady : (u : List ℕ) → step_sized s t ≡ (says going_on, u) → Steady s t u
  unfolding back
  step_steady u e = by (serving s t s.levels) refl
    where
      by : (v : Option Level) → serving s t s.levels ≡ v → Steady s t u
      by None z =
          let no = nobody_refused (says going_on, u) z e in
          let said : says going_on ≡ refused 9 = ap (λ (x : Out). x.0) no in
          cc
      by (Some l) z = on (held s t l (counted (frame_of s t l))).0 refl (sym (served_step l z) ∙ e)
        where
          v : List ℕ
          v = (held s t l (counted (frame_of s t l))).1

          on : (h : Held) → (held s t l (counted (frame_of s t l))).0 ≡ h
              → back s l (frame_of s t l) h v ≡ (says going_on, u) → Steady s t u
          on (Going g) i k =
              let goes = held_goes s t room l (counted (frame_of s t l)) g v (ap (λ (x : Held). (x, v)) i) in
              let at : put_frame s v l g ≡ u = ap (λ (x : Out). x.1) k in
              rw at at (put_steady l g v (serving_below s t s.levels l z) (held_leaves s t room l (counted (frame_of s t l))).long goes)
          on (Ended d) i k =
              let said : says (ended d) ≡ says going_on = ap (λ (x : Out). x.0) k in
              cc
          on Damaged i k =
              let said : refused 10 ≡ says going_on = ap (λ (x : Out). x.0) k in
              cc

  -- ---- a step that ends an operation

  -- levels from l on are idle, or the one at l that just ended
  serving_down : (l : Level) (u : List ℕ) (n : ℕ) → serving s t n ≡ Some l → ((k : Level) → l.0 < k.0 → frame_of s u k ≡ frame_of s t k)
      → (frame_of s u l).op ≡ 0 → serving s u n ≡ serving s u l.0
  unfolding serving
  serving_down l u zero z same o = cc
  serving_down l u (suc n) z same o = by (eqb (frame_of s t (level n)).op 0) refl (λ k. serving_down l u n k same o) z
    where
      by : (b : Bool) → eqb (frame_of s t (level n)).op 0 ≡ b → (serving s t n ≡ Some l → serving s u n ≡ serving s u l.0)
          → cond b (serving s t n) (Some (level n)) ≡ Some l
          → serving s u (suc n) ≡ serving s u l.0
      by true i ih k =
          let below = serving_below s t n l k in
          let idle : (frame_of s u (level n)).op ≡ 0 = ap (λ (x : Frame). x.op) (same (level n) below) ∙ eqb-true _ 0 i in
          rw idle (ih k)
      by false i ih k =
          let here : level n ≡ l = cc in
          let idle : (frame_of s u (level n)).op ≡ 0 = rw here o in
          rw idle (ap (λ (x : Level). serving s u x.0) here)

  put_down : (l : Level) (v : List ℕ) → serving s t s.levels ≡ Some l → Left s t room v
      → serving s (put_frame s v l no_frame) s.levels ≡ serving s (put_frame s v l no_frame) l.0
  put_down l v z left =
      let below = serving_below s t s.levels l z in
      let own = frame_same s v l no_frame (omega (arith, left.long)) below in
      serving_down l (put_frame s v l no_frame) s.levels z
      (λ k h. frame_other s v l no_frame k (λ i. absurd (omega (arith, h, i))) ∙ left.frames k)
      (ap (λ (x : Frame). x.op) own)

  pub step_down : (e : End) (u : List ℕ) → step_sized s t ≡ (says (ended e), u) → Down s e u
  unfolding back
  step_down e u eq = by (serving s t s.levels) refl
    where
      by : (v : Option Level) → serving s t s.levels ≡ v → Down s e u
      by None z =
          let no = nobody_refused (says (ended e), u) z eq in
          let said : says (ended e) ≡ refused 9 = ap (λ (x : Out). x.0) no in
          cc
      by (Some l) z = on (held s t l (counted (frame_of s t l))).0 refl (sym (served_step l z) ∙ eq)
        where
          v : List ℕ
          v = (held s t l (counted (frame_of s t l))).1

          on : (h : Held) → (held s t l (counted (frame_of s t l))).0 ≡ h
              → back s l (frame_of s t l) h v ≡ (says (ended e), u) → Down s e u
          on (Going g) i k =
              let said : says going_on ≡ says (ended e) = ap (λ (x : Out). x.0) k in
              cc
          on (Ended d) i k =
              let at : put_frame s v l no_frame ≡ u = ap (λ (x : Out). x.1) k in
              let said : says (ended d) ≡ says (ended e) = ap (λ (x : Out). x.0) k in
              let same : d ≡ e = cc in
              let here : d.level ≡ l = held_level s t l (counted (frame_of s t l)) d i in
              let is : e.level ≡ l = rw same at here in
              record {
                below = rw is (serving_below s t s.levels l z);
                serves = rw is (rw at at (put_down l v z (held_leaves s t room l (counted (frame_of s t l)))));
              }
          on Damaged i k =
              let said : refused 10 ≡ says (ended e) = ap (λ (x : Out). x.0) k in
              cc
