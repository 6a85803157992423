-- What the proofs of the public calls cite.
use Prim.Native.Nat.{ℕ, zero, suc, ◌≤◌, ◌<◌, ◌/◌}
use Rattle.std.specs.Prelude.{◌≡◌, Bool, true, false, cond, ◌&&◌, length, replicate, take, drop, ltb, Option, None}
use Rattle.std.proofs.Math.Path.{refl, ap}
use Rattle.std.proofs.Common.{sym, ◌∙◌, arith}
use Rattle.std.proofs.Math.Bool.{and-eq-true_iff}
use mathlib.Core.List.{List, [], ◌++◌, append-nil}
use Rattle.std.proofs.lemmas.List.{length-replicate}
use Rattle.std.proofs.Math.Seq.{drop-length}
use borrow.Author.Tests.{lt-ltb, le-ltb, ltb-false, ne_eqb}
use Rattle.words.specs.declared.Sizes.{Sizes}
use Rattle.words.specs.declared.Frame.{Frame}
use Rattle.words.specs.Layout.{level, limits, within, words, put_counts, frame_of}
use Rattle.words.specs.Laws.{within_high}
use Rattle.words.specs.Copies.{part_length}
use Rattle.answers.specs.declared.Refusal.{Refusal}
use Rattle.answers.specs.Said.{Said, refused, says, number}
use Rattle.fresh.specs.Fresh.{cleared, ended, fresh_table, fresh_of}
use Rattle.fresh.specs.Laws.{fresh_measured, fresh_frame}
use Rattle.steps.specs.Step.{serving, step_served, step_sized}
use Rattle.ways.specs.Schedules.{ops_in, Tried, stepped, by_step, by_begin, both, most_moves, fresh, schedules}
use Rattle.ways.specs.Forced.{end_in, TableOf}
use Rattle.ways.specs.Calls.{stepped_is, numbered}
use Rattle.search.specs.declared.Asked.{Asked}
use Rattle.search.specs.Walk.{sizes_of, State, tailed, listing, none, listed_of}
use Rattle.search.proofs.Laws.{listing_append, tail_is, step_stop}
use Rattle.tries.specs.Tries.{sizes, operations, texts, why, Answer, listed_in, tries_of, number_of, tallied_all, tallies_of}

-- ---- the refusals

few_nodes : (s : Sizes) → limits s ≡ true → s.nodes ≤ 1024
unfolding limits
few_nodes s h =
    let a = (and-eq-true_iff (within 1 16 s.levels && within 1 8 s.queues) (within s.queues 1024 s.nodes)).0 h in
    within_high s.queues 1024 s.nodes a.1

-- the table of the greatest sizes has 2,276 words
pub words_fit : (s : Sizes) → limits s ≡ true → words s ≤ 2276
unfolding limits
words_fit s h =
    let a = (and-eq-true_iff (within 1 16 s.levels && within 1 8 s.queues) (within s.queues 1024 s.nodes)).0 h in
    let b = (and-eq-true_iff (within 1 16 s.levels) (within 1 8 s.queues)).0 a.0 in
    let x = within_high 1 16 s.levels b.0 in
    let y = within_high 1 8 s.queues b.1 in
    let z = few_nodes s h in
    omega arith

pub why_14 : (s : Sizes) (k : ℕ) → 6 < k → why s k ≡ 14
unfolding why
why_14 s k h = rw (lt-ltb 6 k h) refl

pub why_2 : (s : Sizes) (k : ℕ) → k ≤ 6 → limits s ≡ false → why s k ≡ 2
unfolding why
why_2 s k h e = rw (le-ltb 6 k h, e) (by (ltb 1024 s.nodes))
  where
    by : (b : Bool) → ◌≡◌ {A = ℕ} (cond b 2 2) 2
    by true = refl
    by false = refl

pub why_many : (s : Sizes) (k : ℕ) → k ≤ 6 → 1024 < s.nodes → why s k ≡ 2
unfolding why
why_many s k h n = rw (le-ltb 6 k h, lt-ltb 1024 s.nodes n) refl

pub why_none : (s : Sizes) (k : ℕ) → k ≤ 6 → limits s ≡ true → why s k ≡ 0
unfolding why limits
why_none s k h e = rw (le-ltb 6 k h, le-ltb 1024 s.nodes (few_nodes s e), e) refl

-- what no refusal says
pub why_zero : (s : Sizes) (k : ℕ) → why s k ≡ 0 → (k ≤ 6) × (limits s ≡ true)
unfolding why
why_zero s k e = by (ltb 6 k) refl (ltb 1024 s.nodes) (limits s) refl e
  where
    by : (x : Bool) → ltb 6 k ≡ x → (y z : Bool) → limits s ≡ z
        → ◌≡◌ {A = ℕ} (cond x 14 (cond y 2 (cond z 0 2))) 0 → (k ≤ 6) × (limits s ≡ true)
    by true f y z g h = absurd (omega arith)
    by false f true z g h = absurd (omega arith)
    by false f false true g h = (ltb-false 6 k f, g)
    by false f false false g h = absurd (omega arith)

-- ---- the fresh table

cleared_is : (s : Sizes) (t : List ℕ) → length t ≡ words s → cleared s t ≡ replicate (words s) 0
cleared_is s t h =
    let none : drop (words s) t ≡ [] = ap (λ (n : ℕ). drop n t) (sym h) ∙ drop-length t in
    ap (λ (r : List ℕ). replicate (words s) 0 ++ r) none ∙ append-nil (replicate (words s) 0)

table_is : (s : Sizes) (t : List ℕ) → length t ≡ words s → fresh_table s t ≡ fresh s
unfolding fresh_table
table_is s t h =
    let zeros : List ℕ = replicate (words s) 0 in
    let same : cleared s t ≡ cleared s zeros = cleared_is s t h ∙ sym (cleared_is s zeros (length-replicate {A = ℕ} (words s) 0)) in
    ap (λ (u : List ℕ). put_counts s (ended s s.queues u)) same

pub fresh_is : (s : Sizes) (t : List ℕ) → limits s ≡ true → length t ≡ words s → fresh_of s t ≡ (says tt, fresh s)
unfolding fresh_of
fresh_is s t h k =
    let long : words s ≤ length t = omega arith in
    rw (h, le-ltb (length t) (words s) long) (ap (λ (u : List ℕ). (says tt, u)) (table_is s t k))

pub made_fresh : (s : Sizes) (t u : List ℕ) (x : Said Unit) → limits s ≡ true → length t ≡ words s → fresh_of s t ≡ (x, u) → u ≡ fresh s
made_fresh s t u x h k e = ap (λ (y : Said Unit × List ℕ). y.1) (sym e ∙ fresh_is s t h k)

module _ (s : Sizes) (lim : limits s ≡ true) where
  zeros_room : words s ≤ length (replicate {A = ℕ} (words s) 0)
  zeros_room = omega (arith, length-replicate {A = ℕ} (words s) 0)

  pub fresh_table_holds : TableOf s (fresh s)
  fresh_table_holds = fresh_measured s (replicate (words s) 0) lim zeros_room

  -- nothing runs
  fresh_serves : (n : ℕ) → n ≤ s.levels → serving s (fresh s) n ≡ None
  unfolding serving
  fresh_serves zero h = refl
  fresh_serves (suc n) h =
      let frame = fresh_frame s (replicate (words s) 0) lim zeros_room (level n) (omega arith) in
      let op : (frame_of s (fresh s) (level n)).op ≡ 0 = ap (λ (f : Frame). f.op) frame in
      rw op (fresh_serves n (omega arith))

  pub fresh_still : (stepped (fresh s)).0 ≡ false
  unfolding step_sized step_served
  fresh_still =
      let said : step_sized s (fresh s) ≡ (refused 9, fresh s) = rw (fresh_serves s.levels (omega arith)) refl in
      ap (λ (x : Tried). x.0) (stepped_is s (fresh s) fresh_table_holds (fresh s) (refused 9) said)

-- ---- all of them

module _ (a : Asked) (ws room ts : List ℕ) where
  pub list_none : (t path : List ℕ) (x : Option ℕ) (out : State) → a.operations ≡ 0 → t ≡ fresh (sizes_of a) → end_in most_moves 0 t ≡ x
      → tailed a ws (take a.operations path) x (none, (room, ts)) ≡ out → listed_of a ws room ts ≡ out
  unfolding listed_of schedules
  list_none t path x out h e f g =
      ap (λ (k : ℕ). listing a ws [] 0 (both most_moves (fresh (sizes_of a)) (ops_in k ws 0)) (none, (room, ts))) h
      ∙ ap (λ (u : List ℕ). listing a ws [] 0 (both most_moves u (ops_in 0 ws 0)) (none, (room, ts))) (sym e)
      ∙ tail_is a ws [] most_moves 0 t (none, (room, ts))
      ∙ ap (λ (y : Option ℕ). tailed a ws [] y (none, (room, ts))) f
      ∙ ap (λ (k : ℕ). tailed a ws (take k path) x (none, (room, ts))) (sym h)
      ∙ g

  pub list_some : (t : List ℕ) (out : State) → 1 ≤ a.operations → limits (sizes_of a) ≡ true → t ≡ fresh (sizes_of a)
      → listing a ws [] 0 (by_begin most_moves t (ops_in a.operations ws 0)) (none, (room, ts)) ≡ out
      → listed_of a ws room ts ≡ out
  unfolding listed_of schedules
  list_some t out p h e g =
      let steps = by_step most_moves (fresh (sizes_of a)) (ops_in a.operations ws 0) in
      let begins = by_begin most_moves (fresh (sizes_of a)) (ops_in a.operations ws 0) in
      let still = step_stop a ws [] 0 most_moves a.operations 0 (fresh (sizes_of a)) (none, (room, ts)) p (fresh_still (sizes_of a) h) in
      listing_append a ws [] 0 steps begins (none, (room, ts)) ∙ ap (listing a ws [] 0 begins) still ∙ (rw e at g)

-- ---- by the first refusal

module _ (l q n : ℕ) (ws : List ℕ) where
  abbrev first_why : ℕ
  first_why = why (sizes l q n) (length ws / 4)

  module _ (r : Refusal) (is : first_why ≡ number r) where
    pub try_refused : (bound : ℕ) (room : List ℕ) → tries_of l q n ws bound room ≡ (refused (number r), room)
    unfolding tries_of
    try_refused bound room = rw (is, ← numbered r) refl

    pub number_refused : number_of l q n ws ≡ refused (number r)
    unfolding number_of
    number_refused = rw (is, ← numbered r) refl

    pub tallies_refused : (ts : List ℕ) → tallies_of l q n ws ts ≡ ts
    unfolding tallies_of
    tallies_refused ts = rw (is, ← numbered r) refl

  module _ (none : first_why ≡ 0) where
    pub try_on : (bound : ℕ) (room : List ℕ) (out : Answer) → listed_in (texts (sizes l q n) (operations ws)) bound room ≡ out
        → tries_of l q n ws bound room ≡ out
    unfolding tries_of
    try_on bound room out e = rw none e

    pub number_on : (m : ℕ) → m ≡ length (schedules (sizes l q n) (operations ws)) → number_of l q n ws ≡ says m
    unfolding number_of
    number_on m e = rw (none, e) refl

    pub tallies_on : (ts us : List ℕ)
        → us ≡ tallied_all (sizes l q n) ws (length ws / 4) (schedules (sizes l q n) (operations ws)) ts → tallies_of l q n ws ts ≡ us
    unfolding tallies_of
    tallies_on ts us e = rw (none, e) refl

-- whatever the number of the refusal
module _ (l q n : ℕ) (ws : List ℕ) (some : why (sizes l q n) (length ws / 4) ≡ 0 → ⊥) where
  abbrev why_some : ℕ
  why_some = why (sizes l q n) (length ws / 4)

  pub try_refused_by : (bound : ℕ) (room : List ℕ) → tries_of l q n ws bound room ≡ (refused why_some, room)
  unfolding tries_of
  try_refused_by bound room = rw (ne_eqb why_some 0 some) refl

  pub number_refused_by : number_of l q n ws ≡ refused why_some
  unfolding number_of
  number_refused_by = rw (ne_eqb why_some 0 some) refl

  pub tallies_refused_by : (ts : List ℕ) → tallies_of l q n ws ts ≡ ts
  unfolding tallies_of
  tallies_refused_by ts = rw (ne_eqb why_some 0 some) refl

-- the part of an array that a table takes
pub part_is : (s : Sizes) (w : ℕ) → w ≡ words s → limits s ≡ true → length (take w (replicate {A = ℕ} 2276 0)) ≡ words s
part_is s w e h = part_length w 2276 (rw e (words_fit s h)) ∙ e
