-- What the explorers' proofs cite.
use Prim.Native.Nat.{ℕ, zero, suc, ◌+◌, ◌-◌, ◌<◌, ◌≤◌}
use Rattle.std.specs.Prelude.{◌≡◌, Bool, cond, length, take, set, Option, Some, None}
use Rattle.std.proofs.Math.Path.{refl, sym, ap}
use Rattle.std.proofs.Common.{◌∙◌, add-one, take-suc-set}
use Rattle.std.proofs.Math.Bool.{true, false}
use mathlib.Core.List.{List, [], ◌∷◌, ◌++◌, append_assoc}
use native.Mathlib.Omega.{arith}
use Rattle.std.proofs.Math.Numerals.{sub-one}
use Rattle.words.specs.Layout.{words}
use Rattle.words.specs.Laws.{measured_fits}
use Rattle.ways.specs.declared.Op.{Op}
use Rattle.ways.specs.Schedules.{op_in, ops_in, Move, step, begin, Tried, begun, stepped, idle, ending, after, by_step, by_begin, both}
use Rattle.ways.specs.Forced.{end_in, stretched, gone_on, last_in, TableOf}
use Rattle.ways.specs.Stretches.{stretch_low}
use Rattle.entries.specs.Texts.{counts}
use Rattle.search.specs.declared.Asked.{Asked}
use Rattle.search.specs.Walk.{sizes_of, State, is_going, emitted, tailed, listing}

-- one count more
pub count_more : (path : List ℕ) (i n : ℕ) → i < length path → take (i + 1) (set path i n) ≡ take i path ++ (n ∷ [])
count_more path i n h = rw add-one (take-suc-set path i n h)

pub last_path : (path : List ℕ) (i n k : ℕ) → k ≡ i + 1 → i < length path → take k (set path i n) ≡ take i path ++ (n ∷ [])
last_path path i n k e h = ap (λ (j : ℕ). take j (set path i n)) e ∙ count_more path i n h

-- a copy of the table has the words that an outcome's table takes
pub copied : (a : Asked) (t : List ℕ) (copy : ℕ) → TableOf (sizes_of a) t → copy ≡ length t → words (sizes_of a) ≤ copy
copied a t copy m e = omega (arith, e, (measured_fits t (sizes_of a) m).room)

module _ (a : Asked) (ws : List ℕ) where
  abbrev L : List ℕ → ℕ → List (List Move) → State → State
  L pre n mss st = listing a ws pre n mss st

  -- ---- what is listed

  pub listing_append : (pre : List ℕ) (n : ℕ) (xs ys : List (List Move)) (st : State) → L pre n (xs ++ ys) st ≡ L pre n ys (L pre n xs st)
  unfolding listing
  listing_append pre n [] ys st = refl
  listing_append pre n (x ∷ xs) ys st = listing_append pre n xs ys (emitted a ws (pre ++ counts n x) st)

  listing_step : (pre : List ℕ) (n : ℕ) (xs : List (List Move)) (st : State) → L pre n (after step xs) st ≡ L pre (n + 1) xs st
  unfolding listing counts
  listing_step pre n [] st = refl
  listing_step pre n (x ∷ xs) st = listing_step pre n xs (emitted a ws (pre ++ counts (n + 1) x) st)

  listing_begin : (pre : List ℕ) (n : ℕ) (xs : List (List Move)) (st : State) → L pre n (after begin xs) st ≡ L (pre ++ (n ∷ [])) 0 xs st
  unfolding listing counts
  listing_begin pre n [] st = refl
  listing_begin pre n (x ∷ xs) st =
      let e = append_assoc pre (n ∷ []) (counts 0 x) in
      rw e (listing_begin pre n xs (emitted a ws (pre ++ (n ∷ counts 0 x)) st))

  -- nothing more is listed once it is closed
  pub emit_closed : (cs : List ℕ) (st : State) → is_going st.0.stop ≡ false → emitted a ws cs st ≡ st
  unfolding emitted
  emit_closed cs st h = rw h refl

  pub listing_closed : (pre : List ℕ) (n : ℕ) (xs : List (List Move)) (st : State) → is_going st.0.stop ≡ false → L pre n xs st ≡ st
  unfolding listing
  listing_closed pre n [] st h = refl
  listing_closed pre n (x ∷ xs) st h = ap (L pre n xs) (emit_closed (pre ++ counts n x) st h) ∙ listing_closed pre n xs st h

module _ (a : Asked) (ws pre : List ℕ) where
  -- ---- by what the next step and the next begin give

  by_step_holds : (left n : ℕ) (t : List ℕ) (ops : List Op) (st : State) → (stepped t).0 ≡ true
      → listing a ws pre n (by_step (suc left) t ops) st ≡ listing a ws pre (n + 1) (both left (stepped t).1 ops) st
  unfolding by_step
  by_step_holds left n t ops st h = rw h (listing_step a ws pre n (both left (stepped t).1 ops) st)

  no_step : (left n : ℕ) (t : List ℕ) (o : Op) (os : List Op) (st : State) → (stepped t).0 ≡ false
      → listing a ws pre n (by_step left t (o ∷ os)) st ≡ st
  unfolding by_step ending listing
  no_step zero n t o os st h = refl
  no_step (suc left) n t o os st h = rw h refl

  by_begin_holds : (left n : ℕ) (t : List ℕ) (o : Op) (os : List Op) (st : State) → (begun o t).0 ≡ true
      → listing a ws pre n (by_begin (suc left) t (o ∷ os)) st ≡ listing a ws (pre ++ (n ∷ [])) 0 (both left (begun o t).1 os) st
  unfolding by_step
  by_begin_holds left n t o os st h = rw h (listing_begin a ws pre n (both left (begun o t).1 os) st)

  no_begin : (left n : ℕ) (t : List ℕ) (o : Op) (os : List Op) (st : State) → (begun o t).0 ≡ false
      → listing a ws pre n (by_begin left t (o ∷ os)) st ≡ st
  unfolding by_step listing
  no_begin zero n t o os st h = refl
  no_begin (suc left) n t o os st h = rw h refl

  pub begin_none : (n left : ℕ) (t : List ℕ) (ops : List Op) (st : State) → left ≡ 0 → listing a ws pre n (by_begin left t ops) st ≡ st
  unfolding by_step listing
  begin_none n zero t ops st h = refl
  begin_none n (suc k) t ops st h = absurd (omega arith)

  pub step_none : (n left : ℕ) (t : List ℕ) (ops : List Op) (st : State) → left ≡ 0 → listing a ws pre n (by_step left t ops) st ≡ st
  unfolding by_step listing
  step_none n zero t ops st h = refl
  step_none n (suc k) t ops st h = absurd (omega arith)

  none_left : (n : ℕ) (t : List ℕ) (ops : List Op) (st : State) → listing a ws pre n (both 0 t ops) st ≡ st
  unfolding by_step listing
  none_left n t ops st = refl

  -- the next operation is refused
  both_refused : (left n : ℕ) (t : List ℕ) (o : Op) (os : List Op) (st : State) → (begun o t).0 ≡ false
      → listing a ws pre n (both left t (o ∷ os)) st ≡ listing a ws pre n (by_step left t (o ∷ os)) st
  both_refused left n t o os st h =
      listing_append a ws pre n (by_step left t (o ∷ os)) (by_begin left t (o ∷ os)) st
      ∙ no_begin left n t o os (listing a ws pre n (by_step left t (o ∷ os)) st) h

  -- ---- what follows is what follows after the stretch

  abbrev After : ℕ → ℕ → List ℕ → Op → List Op → State → ℕ × List ℕ → Type 0
  After left n t o os st r =
      listing a ws pre n (both left t (o ∷ os)) st ≡ listing a ws pre (n + (left - r.0)) (both r.0 r.1 (o ∷ os)) st

  stretch_is : (left n : ℕ) (t : List ℕ) (o : Op) (os : List Op) (st : State) → After left n t o os st (stretched o left t)
  unfolding stretched
  stretch_is zero n t o os st =
      let z : n ≡ n + (0 - 0) = omega arith in ap (λ (i : ℕ). listing a ws pre i (both 0 t (o ∷ os)) st) z
  stretch_is (suc left) n t o os st =
      by (begun o t).0 refl (stepped t).0 refl (stretch_is left (n + 1) (stepped t).1 o os st)
    where
      by : (b : Bool) → (begun o t).0 ≡ b → (c : Bool) → (stepped t).0 ≡ c
          → After left (n + 1) (stepped t).1 o os st (stretched o left (stepped t).1)
          → After (suc left) n t o os st (cond b (suc left, t) (cond c (stretched o left (stepped t).1) (0, (stepped t).1)))
      by true e c f ih =
          let z : n ≡ n + (suc left - suc left) = omega arith in ap (λ (i : ℕ). listing a ws pre i (both (suc left) t (o ∷ os)) st) z
      by false e true f ih =
          let v : ℕ × List ℕ = stretched o left (stepped t).1 in
          let low = stretch_low o left (stepped t).1 in
          let z : n + 1 + (left - v.0) ≡ n + (suc left - v.0) = omega (arith, low) in
          both_refused (suc left) n t o os st e
          ∙ by_step_holds left n t (o ∷ os) st f
          ∙ ih
          ∙ ap (λ (i : ℕ). listing a ws pre i (both v.0 v.1 (o ∷ os)) st) z
      by false e false f ih =
          both_refused (suc left) n t o os st e
          ∙ no_step (suc left) n t o os st f
          ∙ sym (none_left (n + (suc left - 0)) (stepped t).1 (o ∷ os) st)

  -- and what follows a step is what follows after it and the stretch behind it
  gone_is : (left n : ℕ) (t : List ℕ) (o : Op) (os : List Op) (st : State)
      → listing a ws pre n (by_step left t (o ∷ os)) st
      ≡ listing a ws pre (n + (left - (gone_on o left t).0)) (both (gone_on o left t).0 (gone_on o left t).1 (o ∷ os)) st
  unfolding gone_on
  gone_is zero n t o os st = step_none n 0 t (o ∷ os) st refl ∙ sym (none_left (n + (0 - 0)) t (o ∷ os) st)
  gone_is (suc left) n t o os st = by (stepped t).0 refl
    where
      v : ℕ × List ℕ
      v = stretched o left (stepped t).1

      by : (b : Bool) → (stepped t).0 ≡ b
          → listing a ws pre n (by_step (suc left) t (o ∷ os)) st
          ≡ listing a ws pre (n + (suc left - (cond {A = ℕ × List ℕ} b v (0, (stepped t).1)).0))
          (both (cond {A = ℕ × List ℕ} b v (0, (stepped t).1)).0 (cond {A = ℕ × List ℕ} b v (0, (stepped t).1)).1 (o ∷ os)) st
      by true e =
          let low = stretch_low o left (stepped t).1 in
          let z : n + 1 + (left - v.0) ≡ n + (suc left - v.0) = omega (arith, low) in
          by_step_holds left n t (o ∷ os) st e
          ∙ stretch_is left (n + 1) (stepped t).1 o os st
          ∙ ap (λ (i : ℕ). listing a ws pre i (both v.0 v.1 (o ∷ os)) st) z
      by false e = no_step (suc left) n t o os st e ∙ sym (none_left (n + (suc left - 0)) (stepped t).1 (o ∷ os) st)

  -- first by a step and then by a begin
  halves : (k m : ℕ) (v : List ℕ) (ops : List Op) (st mid out : State) → listing a ws pre m (by_step k v ops) st ≡ mid
      → listing a ws pre m (by_begin k v ops) mid ≡ out → listing a ws pre m (both k v ops) st ≡ out
  halves k m v ops st mid out f g =
      listing_append a ws pre m (by_step k v ops) (by_begin k v ops) st ∙ ap (listing a ws pre m (by_begin k v ops)) f ∙ g

  -- so, after the stretch
  both_on : (left n k m : ℕ) (t v : List ℕ) (o : Op) (os : List Op) (st mid out : State) → stretched o left t ≡ (k, v)
      → n + (left - k) ≡ m → listing a ws pre m (by_step k v (o ∷ os)) st ≡ mid
      → listing a ws pre m (by_begin k v (o ∷ os)) mid ≡ out
      → listing a ws pre n (both left t (o ∷ os)) st ≡ out
  both_on left n k m t v o os st mid out e z f g =
      stretch_is left n t o os st
      ∙ ap (λ (r : ℕ × List ℕ). listing a ws pre (n + (left - r.0)) (both r.0 r.1 (o ∷ os)) st) e
      ∙ ap (λ (i : ℕ). listing a ws pre i (both k v (o ∷ os)) st) z
      ∙ halves k m v (o ∷ os) st mid out f g

  -- ---- all operations have begun

  none_begins : (left n : ℕ) (t : List ℕ) (st : State) → listing a ws pre n (by_begin left t []) st ≡ st
  unfolding by_step listing
  none_begins zero n t st = refl
  none_begins (suc left) n t st = refl

  both_end : (left n : ℕ) (t : List ℕ) (st : State) → listing a ws pre n (both left t []) st ≡ listing a ws pre n (by_step left t []) st
  both_end left n t st =
      listing_append a ws pre n (by_step left t []) (by_begin left t []) st ∙ none_begins left n t (listing a ws pre n (by_step left t []) st)

  cut_short : (n : ℕ) (t : List ℕ) (st : State) → listing a ws pre n (by_step 0 t []) st ≡ tailed a ws pre None st
  unfolding by_step listing tailed
  cut_short n t st = refl

  ends_here : (n : ℕ) (st : State) (c : Bool)
      → listing a ws pre n (cond {A = List (List Move)} c ([] ∷ []) []) st ≡ tailed a ws pre (cond {A = Option ℕ} c (Some n) None) st
  unfolding listing tailed counts
  ends_here n st true = refl
  ends_here n st false = refl

  step_off : (left : ℕ) (t : List ℕ) → (stepped t).0 ≡ false → by_step (suc left) t [] ≡ cond {A = List (List Move)} (idle t) ([] ∷ []) []
  unfolding by_step ending
  step_off left t h = rw h refl

  step_end : (left n : ℕ) (t : List ℕ) (st : State) → listing a ws pre n (by_step left t []) st ≡ tailed a ws pre (end_in left n t) st
  unfolding end_in
  step_end zero n t st = cut_short n t st
  step_end (suc left) n t st = by (stepped t).0 refl (step_end left (n + 1) (stepped t).1 st)
    where
      by : (b : Bool) → (stepped t).0 ≡ b
          → listing a ws pre (n + 1) (by_step left (stepped t).1 []) st ≡ tailed a ws pre (end_in left (n + 1) (stepped t).1) st
          → listing a ws pre n (by_step (suc left) t []) st
          ≡ tailed a ws pre (cond b (end_in left (n + 1) (stepped t).1) (cond (idle t) (Some n) None)) st
      by true e ih = by_step_holds left n t [] st e ∙ both_end left (n + 1) (stepped t).1 st ∙ ih
      by false e ih = ap (λ (mss : List (List Move)). listing a ws pre n mss st) (step_off left t e) ∙ ends_here n st (idle t)

  pub tail_is : (left k : ℕ) (t : List ℕ) (st : State)
      → listing a ws pre 0 (both left t (ops_in 0 ws k)) st ≡ tailed a ws pre (end_in left 0 t) st
  unfolding ops_in
  tail_is left k t st = both_end left 0 t st ∙ step_end left 0 t st

module _ (a : Asked) (ws pre : List ℕ) where
  cut_so : (n : ℕ) (st : State) → tailed a ws (pre ++ (n ∷ [])) None st ≡ st
  unfolding tailed
  cut_so n st = refl

  -- the last operation begins
  last_is : (left n : ℕ) (t : List ℕ) (o : Op) (st : State)
      → listing a ws pre n (by_begin left t (o ∷ [])) st ≡ tailed a ws (pre ++ (n ∷ [])) (last_in o left t) st
  unfolding last_in
  last_is zero n t o st = begin_none a ws pre n 0 t (o ∷ []) st refl ∙ sym (cut_so n st)
  last_is (suc left) n t o st = by (begun o t).0 refl
    where
      by : (b : Bool) → (begun o t).0 ≡ b
          → listing a ws pre n (by_begin (suc left) t (o ∷ [])) st
          ≡ tailed a ws (pre ++ (n ∷ [])) (cond b (end_in left 0 (begun o t).1) None) st
      by true e =
          by_begin_holds a ws pre left n t o [] st e
          ∙ both_end a ws (pre ++ (n ∷ [])) left 0 (begun o t).1 st
          ∙ step_end a ws (pre ++ (n ∷ [])) left 0 (begun o t).1 st
      by false e = no_begin a ws pre (suc left) n t o [] st e ∙ sym (cut_so n st)

  -- ---- the explorers' ways

  step_on : (n left r i k m : ℕ) (t v : List ℕ) (o : Op) (st : State) → o ≡ op_in ws i → gone_on o left t ≡ (k, v) → m ≡ n + (left - k)
      → listing a ws pre n (by_step left t (ops_in (suc r) ws i)) st ≡ listing a ws pre m (both k v (ops_in (suc r) ws i)) st
  unfolding ops_in
  step_on n left r i k m t v o st d e z =
      gone_is a ws pre left n t (op_in ws i) (ops_in r ws (i + 1)) st
      ∙ ap (λ (x : ℕ × List ℕ). listing a ws pre (n + (left - x.0)) (both x.0 x.1 (ops_in (suc r) ws i)) st) (rw d at e)
      ∙ ap (λ (j : ℕ). listing a ws pre j (both k v (ops_in (suc r) ws i)) st) (sym z)

  pub step_more : (n left rest i k m : ℕ) (t v : List ℕ) (o : Op) (st mid out : State) → 1 ≤ rest → o ≡ op_in ws i
      → gone_on o left t ≡ (k, v) → m ≡ n + (left - k)
      → listing a ws pre m (by_step k v (ops_in rest ws i)) st ≡ mid
      → listing a ws pre m (by_begin k v (ops_in rest ws i)) mid ≡ out
      → listing a ws pre n (by_step left t (ops_in rest ws i)) st ≡ out
  step_more n left zero i k m t v o st mid out p d e z f g = absurd (omega arith)
  step_more n left (suc r) i k m t v o st mid out p d e z f g =
      step_on n left r i k m t v o st d e z ∙ halves a ws pre k m v (ops_in (suc r) ws i) st mid out f g

  -- no move is left
  pub step_cut : (n left rest i k : ℕ) (t v : List ℕ) (o : Op) (st : State) → 1 ≤ rest → o ≡ op_in ws i → gone_on o left t ≡ (k, v) → k ≡ 0
      → listing a ws pre n (by_step left t (ops_in rest ws i)) st ≡ st
  step_cut n left rest i k t v o st p d e z =
      let m : ℕ = n + (left - k) in
      step_more n left rest i k m t v o st st st p d e refl (step_none a ws pre m k v (ops_in rest ws i) st z)
      (begin_none a ws pre m k v (ops_in rest ws i) st z)

  -- where one operation remains
  pub step_last : (n left rest i k m : ℕ) (t v pre' : List ℕ) (o : Op) (x : Option ℕ) (st mid out : State) → rest ≡ 1 → o ≡ op_in ws i
      → gone_on o left t ≡ (k, v) → m ≡ n + (left - k) → last_in o k v ≡ x → pre' ≡ pre ++ (m ∷ [])
      → listing a ws pre m (by_step k v (ops_in rest ws i)) st ≡ mid
      → tailed a ws pre' x mid ≡ out
      → listing a ws pre n (by_step left t (ops_in rest ws i)) st ≡ out
  unfolding ops_in
  step_last n left rest i k m t v pre' o x st mid out p d e z l q f g =
      let ending_so : tailed a ws (pre ++ (m ∷ [])) (last_in (op_in ws i) k v) mid ≡ out =
      ap (λ (c : Op). tailed a ws (pre ++ (m ∷ [])) (last_in c k v) mid) (sym d)
      ∙ ap (λ (c : Option ℕ). tailed a ws (pre ++ (m ∷ [])) c mid) l
      ∙ ap (λ (c : List ℕ). tailed a ws c x mid) (sym q)
      ∙ g in
      ap (λ (r : ℕ). listing a ws pre n (by_step left t (ops_in r ws i)) st) p
      ∙ step_more n left 1 i k m t v o st mid out (omega arith) d e z (rw p at f)
      (last_is k m v (op_in ws i) mid ∙ ending_so)

  -- nothing runs
  pub step_stop : (n left rest i : ℕ) (t : List ℕ) (st : State) → 1 ≤ rest → (stepped t).0 ≡ false
      → listing a ws pre n (by_step left t (ops_in rest ws i)) st ≡ st
  unfolding ops_in
  step_stop n left zero i t st p e = absurd (omega arith)
  step_stop n left (suc r) i t st p e = no_step a ws pre left n t (op_in ws i) (ops_in r ws (i + 1)) st e

  pub begin_stop : (n left rest i : ℕ) (t u : List ℕ) (o : Op) (st : State) (b : Bool) → 1 ≤ rest → o ≡ op_in ws i
      → b ≡ false → begun o t ≡ (b, u) → listing a ws pre n (by_begin left t (ops_in rest ws i)) st ≡ st
  unfolding ops_in
  begin_stop n left zero i t u o st b p d y e = absurd (omega arith)
  begin_stop n left (suc r) i t u o st b p d y e =
      let refused_so : (begun (op_in ws i) t).0 ≡ false = rw (← d) (ap (λ (x : Tried). x.0) e ∙ y) in
      no_begin a ws pre left n t (op_in ws i) (ops_in r ws (i + 1)) st refused_so

  begin_on : (n left r i : ℕ) (t u pre' : List ℕ) (o : Op) (st : State) (b : Bool) → o ≡ op_in ws i → b ≡ true → begun o t ≡ (b, u)
      → pre' ≡ pre ++ (n ∷ [])
      → listing a ws pre n (by_begin (suc left) t (ops_in (suc r) ws i)) st ≡ listing a ws pre' 0 (both left u (ops_in r ws (i + 1))) st
  unfolding ops_in
  begin_on n left r i t u pre' o st b d y e z =
      let taken : (begun (op_in ws i) t).0 ≡ true = rw (← d) (ap (λ (x : Tried). x.0) e ∙ y) in
      let table : (begun (op_in ws i) t).1 ≡ u = rw (← d) (ap (λ (x : Tried). x.1) e) in
      by_begin_holds a ws pre left n t (op_in ws i) (ops_in r ws (i + 1)) st taken
      ∙ ap (λ (x : List ℕ). listing a ws (pre ++ (n ∷ [])) 0 (both left x (ops_in r ws (i + 1))) st) table
      ∙ ap (λ (q : List ℕ). listing a ws q 0 (both left u (ops_in r ws (i + 1))) st) (sym z)

  pub begin_more : (n left rest i k m : ℕ) (t u v pre' : List ℕ) (o o' : Op) (st mid out : State) (b : Bool) → (left ≡ 0 → ⊥)
      → 1 ≤ rest → (rest ≡ 1 → ⊥) → o ≡ op_in ws i → b ≡ true → begun o t ≡ (b, u) → pre' ≡ pre ++ (n ∷ [])
      → o' ≡ op_in ws (i + 1) → stretched o' (left - 1) u ≡ (k, v) → k ≤ left - 1 → m ≡ left - 1 - k
      → listing a ws pre' m (by_step k v (ops_in (rest - 1) ws (i + 1))) st ≡ mid
      → listing a ws pre' m (by_begin k v (ops_in (rest - 1) ws (i + 1))) mid ≡ out
      → listing a ws pre n (by_begin left t (ops_in rest ws i)) st ≡ out
  unfolding ops_in
  begin_more n zero rest i k m t u v pre' o o' st mid out b h p q d y e z c s w x f g = absurd (h refl)
  begin_more n (suc left) zero i k m t u v pre' o o' st mid out b h p q d y e z c s w x f g = absurd (omega arith)
  begin_more n (suc left) (suc zero) i k m t u v pre' o o' st mid out b h p q d y e z c s w x f g = absurd (q refl)
  begin_more n (suc left) (suc (suc r)) i k m t u v pre' o o' st mid out b h p q d y e z c s w x f g =
      let j : 0 + (left - k) ≡ m = omega arith in
      begin_on n left (suc r) i t u pre' o st b d y e z
      ∙ both_on a ws pre' left 0 k m u v (op_in ws (i + 1)) (ops_in r ws (i + 1 + 1)) st mid out
      (simp (c, sub-one) at s) j (simp sub-one at f)
      (simp sub-one at g)

  -- no move is left after it
  pub begin_cut : (n left rest i k : ℕ) (t u v pre' : List ℕ) (o o' : Op) (st : State) (b : Bool) → (left ≡ 0 → ⊥) → 1 ≤ rest
      → (rest ≡ 1 → ⊥) → o ≡ op_in ws i → b ≡ true → begun o t ≡ (b, u) → pre' ≡ pre ++ (n ∷ []) → o' ≡ op_in ws (i + 1)
      → stretched o' (left - 1) u ≡ (k, v) → k ≡ 0
      → listing a ws pre n (by_begin left t (ops_in rest ws i)) st ≡ st
  begin_cut n left rest i k t u v pre' o o' st b h p q d y e z c s x =
      let m : ℕ = left - 1 - k in
      begin_more n left rest i k m t u v pre' o o' st st st b h p q d y e z c s (omega (arith, x)) refl
      (step_none a ws pre' m k v (ops_in (rest - 1) ws (i + 1)) st x)
      (begin_none a ws pre' m k v (ops_in (rest - 1) ws (i + 1)) st x)

  pub begin_last : (n left rest i : ℕ) (t u pre' : List ℕ) (o : Op) (x : Option ℕ) (st out : State) (b : Bool) → (left ≡ 0 → ⊥) → rest ≡ 1
      → o ≡ op_in ws i → b ≡ true → begun o t ≡ (b, u) → pre' ≡ pre ++ (n ∷ []) → end_in (left - 1) 0 u ≡ x → tailed a ws pre' x st ≡ out
      → listing a ws pre n (by_begin left t (ops_in rest ws i)) st ≡ out
  begin_last n zero rest i t u pre' o x st out b h p d y e z l g = absurd (h refl)
  begin_last n (suc left) rest i t u pre' o x st out b h p d y e z l g =
      ap (λ (r : ℕ). listing a ws pre n (by_begin (suc left) t (ops_in r ws i)) st) p
      ∙ begin_on n left 0 i t u pre' o st b d y e z
      ∙ tail_is a ws pre' left (i + 1) u st
      ∙ ap (λ (c : Option ℕ). tailed a ws pre' c st) (simp sub-one at l)
      ∙ g
