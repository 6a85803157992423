-- From the words to the memory: a step of the table, where its row's word is one of the table's, is a step of what the theory sees.
use Prim.Native.Nat.{ℕ, ◌≤◌, ◌<◌}
use mathlib.Core.Path.{◌≡◌, refl, ap, ◌∙◌}
use mathlib.Core.Logic.{◌≢◌}
use mathlib.Core.Bool.{true}
use mathlib.Core.List.{List}
use native.Mathlib.Omega.{arith}
use lib.ListN.{length}
use Rattle.words.specs.declared.Level.{Level}
use Rattle.words.specs.declared.Sizes.{Sizes}
use Rattle.words.specs.declared.Frame.{Frame}
use Rattle.words.specs.declared.Word.TheVariants.{Next, Use}
use Rattle.words.specs.Layout.{level, words, has, wr, put_frame}
use Rattle.words.specs.Laws.{Bound, wr_length, put_length, has_is}
use Rattle.answers.specs.Said.{Said, refused, says, Step, going_on, ended}
use Rattle.table.specs.declared.After.{After}
use Rattle.table.specs.declared.After.TheVariants.{Go, Done}
use Rattle.table.specs.Table.{Row}
use Rattle.steps.specs.Step.{end_of, settled, performed}
use Rattle.state.specs.Mem.{Mem, look, put, upd}
use Rattle.state.specs.Step.{State, mem_after, then, frame_after}
use Rattle.state.specs.View.{memory, frames}
use Rattle.state.proofs.Seen.{look_rd, memory_wr, frames_wr, memory_put, frames_put}
use Rattle.state.specs.Queues.{Within, load, store, free}

-- what a step says
abbrev pub says_of : Level → Frame → After → Step
says_of l f (Go g) = going_on
says_of l f (Done n) = ended (end_of l f n)

settled_is : (s : Sizes) (t : List ℕ) (l : Level) (f : Frame) (a : After)
    → settled s t l f a ≡ (says (says_of l f a), put_frame s t l (frame_after a))
unfolding settled
settled_is s t l f (Go g) = refl
settled_is s t l f (Done n) = refl

-- A table u that came from t by a step at level l, with the row x. Of the sizes it has the room alone: that a step keeps what a table
-- measures is `Stepped-Kept` of crate steps.
pub record Bridged (s : Sizes) (t u : List ℕ) (l : ℕ) (f : Frame) (x : Row) : Type 0 where
  pub room : words s ≤ length u
  pub mem : memory s u ≡ mem_after (memory s t) x
  pub frames_are : frames s u ≡ put (frames s t) l (frame_after (then (memory s t) x f))

module _ (s : Sizes) (l : ℕ) (low : l < s.levels) where
  put_bridged : (t v : List ℕ) (f : Frame) (x : Row) → words s ≤ length v → memory s v ≡ mem_after (memory s t) x → frames s v ≡ frames s t
      → Bridged s t (put_frame s v (level l) (frame_after (then (memory s t) x f))) l f x
  put_bridged t v f x room e h =
      let g = frame_after (then (memory s t) x f) in
      record {
        room = omega (arith, put_length s v (level l) g);
        mem = memory_put s v room (level l) g ∙ e;
        frames_are = frames_put s v room (level l) low g ∙ ap (λ (F : ℕ → Frame). put F l g) h;
      }

  pub performed_is : (t : List ℕ) → words s ≤ length t → (q : ℕ) (S : State) (f : Frame) (x : Row) → Within s q S x
      → (u : List ℕ) × (performed s t (level l) f x ≡ (says (says_of (level l) f (then (memory s t) x f)), u)) × Bridged s t u l f x
  unfolding performed Bound
  performed_is t room q S f x (load {w = w} {after = after} b) =
      let h = has_is s w b in
      let e = look_rd s t w h in (
        put_frame s t (level l) (frame_after (after (look (memory s t) w))),
        rw (h, ← e) (settled_is s t (level l) f (after (look (memory s t) w))),
        put_bridged t t f x room refl refl,
      )
  performed_is t room q S f x (store {w = w} {v = v} {after = after} b k) =
      let h = has_is s w b in
      let room' : words s ≤ length (wr s t w v) = omega (arith, wr_length s t w v) in (
        put_frame s (wr s t w v) (level l) (frame_after after),
        rw h (settled_is s (wr s t w v) (level l) f after),
        put_bridged t (wr s t w v) f x room' (memory_wr s t room w h v) (frames_wr s t room w h v),
      )
  performed_is t room q S f x (free {n = n} {after = after} own high o) =
      let h : has s (Next n) ≡ true = has_is s (Next n) (omega arith) in
      let k : has s (Use n) ≡ true = has_is s (Use n) (omega arith) in
      let v = wr s t (Next n) 0 in
      let room' : words s ≤ length v = omega (arith, wr_length s t (Next n) 0) in
      let room'' : words s ≤ length (wr s v (Use n) 0) = omega (arith, wr_length s v (Use n) 0) in (
        put_frame s (wr s v (Use n) 0) (level l) (frame_after after),
        rw h (settled_is s (wr s v (Use n) 0) (level l) f after),
        put_bridged t (wr s v (Use n) 0) f x room''
            (memory_wr s v room' (Use n) k 0 ∙ ap (λ (M : Mem). upd M (Use n) 0) (memory_wr s t room (Next n) h 0))
            (frames_wr s v room' (Use n) k 0 ∙ frames_wr s t room (Next n) h 0),
      )

-- ---- answers

-- two answers of one call
pub same_said : {A : Type 0} {x y : A} {t u : List ℕ} → ◌≡◌ {A = Said A × List ℕ} (says x, t) (says y, u) → (x ≡ y) × (t ≡ u)
same_said {A} {x} {y} {t} {u} e =
    let z : ◌≡◌ {A = Said A} (says x) (says y) = ap (λ (o : Said A × List ℕ). o.0) e in
    (cc, ap (λ (o : Said A × List ℕ). o.1) e)

pub no_answer : {A : Type 0} {r : ℕ} {y : A} {t u : List ℕ} → ◌≡◌ {A = Said A × List ℕ} (refused r, t) (says y, u) → ⊥
no_answer {A} {r} {y} e =
    let z : ◌≡◌ {A = Said A} (refused r) (says y) = ap (λ (o : Said A × List ℕ). o.0) e in
    cc

-- two refusals with different numbers
pub other_number : {A : Type 0} {a b : ℕ} → ◌≡◌ {A = Said A} (refused a) (refused b) → a ≢ b → ⊥
other_number e ne = ne cc
