-- What the proofs of one schedule more cite.
use Rattle.std.specs.Prelude.{ℕ, zero, suc, ◌+◌, ◌-◌, ◌≤◌, ◌<◌, ◌≡◌, Bool, true, false, length, take, set, leb, cond, Option, Some, None}
use Rattle.std.proofs.Math.Path.{refl}
use Rattle.std.proofs.Common.{sym, ap, ◌∙◌, arith, add-one}
use mathlib.Core.List.{List, [], ◌∷◌}
use borrow.Author.Tests.{le-leb, lt-leb, leb-true, leb-false}
use Rattle.heads.specs.Put.{Put}
use Rattle.text.specs.declared.Opening.{Opening}
use Rattle.text.specs.Text.{opening_text, events_text, text_of}
use Rattle.ways.specs.declared.Op.{Op}
use Rattle.ways.specs.Schedules.{ops_in}
use Rattle.entries.specs.Texts.{first, others, events_of}
use Rattle.entries.proofs.Entries.{text_length}
use Rattle.outcomes.specs.TalliesLaws.{tallied_take}
use Rattle.search.specs.declared.Asked.{Asked}
use Rattle.search.specs.declared.Listed.{Listed}
use Rattle.search.specs.declared.Stop.TheVariants.{Cut, Full}
use Rattle.search.specs.declared.What.{What}
use Rattle.search.specs.declared.What.TheVariants.{Count, Tally, Measure, Write}
use Rattle.search.specs.Walk.{sizes_of, ops_of, entry_text, State, more, is_going, shut}
use Rattle.search.specs.Walk.{fits, noted, written, entered, emitted, tailed}
use Rattle.search.proofs.Laws.{count_more}

-- ---- the text by the counts that are used of a path

events_take : (ops : List Op) (cs : List ℕ) → events_of (take (suc (length ops)) cs) ops ≡ events_of cs ops
unfolding events_of first others
events_take [] [] = refl
events_take [] (c ∷ cs) = refl
events_take (o ∷ os) [] = refl
events_take (o ∷ os) (c ∷ cs) = rw (events_take os cs) refl

pub ops_length : (k : ℕ) (ws : List ℕ) (i : ℕ) → length (ops_in k ws i) ≡ k
unfolding ops_in
ops_length zero ws i = refl
ops_length (suc k) ws i = ap suc (ops_length k ws (i + 1))

entry_take : (a : Asked) (ws cs : List ℕ) → entry_text a ws (take (a.operations + 1) cs) ≡ entry_text a ws cs
unfolding entry_text
entry_take a ws cs =
    let k : a.operations + 1 ≡ suc (length (ops_of a ws)) = add-one a.operations ∙ ap suc (sym (ops_length a.operations ws 0)) in
    let e : events_of (take (a.operations + 1) cs) (ops_of a ws) ≡ events_of cs (ops_of a ws) =
    ap (λ (n : ℕ). events_of (take n cs) (ops_of a ws)) k ∙ events_take (ops_of a ws) cs in
    rw e refl

-- ---- its opening and its bytes

module _ (a : Asked) (ws cs : List ℕ) (o : Opening) (n : ℕ)
    (opens : o ≡ record { levels = a.levels; queues = a.queues; nodes = a.nodes; events = n })
    (events : n ≡ length (events_of cs (ops_of a ws))) where
  pub text_is : entry_text a ws cs ≡ text_of o (events_of cs (ops_of a ws))
  unfolding entry_text
  text_is = rw (opens, events) refl

  pub bytes_are : (x y : ℕ) → x ≡ length (opening_text o) → y ≡ length (events_text (events_of cs (ops_of a ws)))
      → x + y ≡ length (entry_text a ws cs)
  bytes_are x y e f = omega (arith, e, f, ap length text_is, text_length o (events_of cs (ops_of a ws)))

-- ---- whether it fits

same_tests : (a b c d : ℕ) → (a ≤ b → c ≤ d) → (b < a → d < c) → leb a b ≡ leb c d
same_tests a b c d f g = by (leb a b) refl
  where
    by : (x : Bool) → leb a b ≡ x → x ≡ leb c d
    by true e = sym (le-leb c d (f (leb-true a b e)))
    by false e = sym (lt-leb c d (g (leb-false a b e)))

pub room_is : (all at n : ℕ) → at ≤ all → leb n (all - at) ≡ leb (at + n) all
room_is all at n h = same_tests n (all - at) (at + n) all (λ k. omega arith) (λ k. omega arith)

pub room_fits : (all at n : ℕ) → at ≤ all → leb n (all - at) ≡ true → at + n ≤ all
room_fits all at n h y = leb-true (at + n) all (sym (room_is all at n h) ∙ y)

pub room_none : (all at n : ℕ) → all < at → false ≡ leb (at + n) all
room_none all at n h = sym (lt-leb (at + n) all (omega arith))

pub room_off : (all at n : ℕ) → false ≡ true → at + n ≤ all
room_off all at n y = let z : ◌≡◌ {A = ℕ} 0 1 = cc in absurd (omega arith)

-- ---- measured or written, where it fits and where it does not

module _ (text room : List ℕ) (l : Listed) (n : ℕ) (b : Bool) (size : n ≡ length text) (tested : b ≡ leb (l.at + n) (length room)) where
  test : fits text l room ≡ b
  test = ap (λ (i : ℕ). leb (l.at + i) (length room)) (sym size) ∙ sym tested

  pub measured_fits : (r : Listed) → b ≡ true → r ≡ more n l → r ≡ noted text l room
  unfolding noted
  measured_fits r y e = rw (test, y, ← size, e) refl

  pub measured_full : (r : Listed) → b ≡ false → r ≡ shut Full l → r ≡ noted text l room
  unfolding noted
  measured_full r y e = rw (test, y, e) refl

  pub written_fits : (out x : List ℕ) (to : ℕ) → b ≡ true → text ≡ x → Put to out room l.at x → out ≡ written text l room
  unfolding written
  written_fits out x to y f p = rw (test, y, f, p.is) refl

  pub written_full : b ≡ false → written text l room ≡ room
  unfolding written
  written_full y = rw (test, y) refl

-- ---- one schedule more

module _ (a : Asked) (ws : List ℕ) where
  pub emit_bound : (cs : List ℕ) (l r : Listed) (lent : List ℕ × List ℕ) → is_going l.stop ≡ true → a.bound ≤ l.count
      → r ≡ shut Cut l → emitted a ws cs (l, lent) ≡ (r, lent)
  unfolding emitted
  emit_bound cs l r lent h k e = rw (h, le-leb a.bound l.count k, e) refl

  pub emit_open : (cs : List ℕ) (st : State) → is_going st.0.stop ≡ true → st.0.count < a.bound
      → emitted a ws cs st ≡ entered a ws cs a.what st
  unfolding emitted
  emit_open cs st h k = rw (h, lt-leb a.bound st.0.count k) refl

  -- by the counts that are used of a path
  entered_take : (path : List ℕ) (w : What) (st : State) → entered a ws (take (a.operations + 1) path) w st ≡ entered a ws path w st
  unfolding entered
  entered_take path Count st = refl
  entered_take path Tally st = rw (tallied_take (sizes_of a) ws a.operations path st.1.1) refl
  entered_take path Measure st = rw (entry_take a ws path) refl
  entered_take path Write st = rw (entry_take a ws path) refl

  -- a text that has no room is not written
  pub entered_full : (path : List ℕ) (b : Bool) (l r : Listed) (room ts : List ℕ) → r ≡ noted (entry_text a ws path) l room
      → written (entry_text a ws path) l room ≡ room → (r, (room, ts)) ≡ entered a ws path (cond b Write Measure) (l, (room, ts))
  unfolding entered
  entered_full path true l r room ts e f = rw (e, f) refl
  entered_full path false l r room ts e f = rw e refl

  pub emit_on : (path : List ℕ) (st out : State) (w : What) → is_going st.0.stop ≡ true → st.0.count < a.bound → a.what ≡ w
      → out ≡ entered a ws path w st → emitted a ws (take (a.operations + 1) path) st ≡ out
  emit_on path st out w goes wanted e f =
      emit_open (take (a.operations + 1) path) st goes wanted
      ∙ entered_take path a.what st
      ∙ ap (λ (v : What). entered a ws path v st) e
      ∙ sym f

  -- ---- the steps after the last begin

  pub ends_so : (path : List ℕ) (x : Option ℕ) (m : ℕ) (st out : State) → a.operations < length path → x ≡ Some m
      → emitted a ws (take (a.operations + 1) (set path a.operations m)) st ≡ out
      → tailed a ws (take a.operations path) x st ≡ out
  unfolding tailed
  ends_so path x m st out h e f = rw e (ap (λ (cs : List ℕ). emitted a ws cs st) (sym (count_more path a.operations m h)) ∙ f)

  pub cut_so : (path : List ℕ) (x : Option ℕ) (st : State) → x ≡ None → tailed a ws (take a.operations path) x st ≡ st
  unfolding tailed
  cut_so path x st e = rw e refl
