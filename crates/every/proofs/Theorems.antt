-- The theorems: each statement of specs/Every.antt, over what a schedule's calls and lines are.
use Prim.Native.Nat.{ℕ, ◌+◌, ◌*◌, ◌≤◌}
use mathlib.Core.Path.{◌≡◌, refl, sym, ap, ◌∙◌}
use mathlib.Core.List.{List, [], ◌∷◌, ◌++◌}
use native.Mathlib.Omega.{arith}
use native.Mathlib.Nat.{mul-le-mul}
use lib.ListN.{length}
use Rattle.words.specs.declared.Queue.{Queue}
use Rattle.words.specs.declared.Sizes.{Sizes}
use Rattle.words.specs.Laws.{limits_are}
use Rattle.text.specs.Laws.{given_is}
use Rattle.schedule.specs.Meaning.{Writable}
use Rattle.schedule.specs.OneMeaning as text
use Rattle.lists.specs.Beginning.{Beginning}
use Rattle.demand.specs.History.{Event, History, none, call, listed}
use Rattle.demand.specs.Demand.{Reached, QuietAt}
use Rattle.demand.proofs.Fresh.{fresh_world}
use Rattle.demand.proofs.Theorems.{each_once, listing_answers, beginning_kept}
use Rattle.limits.specs.Limits.{Each}
use Rattle.limits.specs.Course.{begun}
use Rattle.limits.proofs.Theorems as limits
use Rattle.ways.specs.declared.Op.{Op}
use Rattle.ways.specs.Schedules.{Move, most_moves, schedules, fresh}
use Rattle.entries.specs.Texts.{counts, opening, schedule_events, schedule_text}
use Rattle.every.specs.Calls.{moves_of}
use Rattle.every.specs.Every.{text_most, IsQueue, AtEnd, Few, Schedule, ListedOnce, StepsFirst, MovesFew, MovesMost}
use Rattle.every.specs.Every.{ReadsBack, OneText, TextsShort, ScheduleHeld, HeldToDemand3}
use Rattle.every.proofs.Once as once
use Rattle.every.proofs.First.{all_ordered}
use Rattle.every.proofs.Played.{Played, played, counted, from_fresh, freshly_is, quiet_end}
use Rattle.every.proofs.Back.{moves_told}
use Rattle.every.proofs.Short.{Bounded, text_short, can_write, counts_low, events_bounded, events_few, ops_bounded}

-- a history, parted in two
parted : (fs gs : List Event) (t v : List ℕ) → History t (fs ++ gs) v → (u : List ℕ) × History t fs u × History u gs v
parted [] gs t v h = (t, none refl, h)
parted (f ∷ fs) gs t v (call {u = u} a h) = let r = parted fs gs u v h in (r.0, call a r.1, r.2)

module _ (s : Sizes) (ops : List Op) where
  -- ---- the moves

  pub moves_few : MovesFew s ops
  moves_few lim ms h =
      let p = played ms (fresh s) ops h in
      let c = counted p.calls in
      let r = from_fresh s lim p.events p.end p.history in
      rw (← c.0, ← c.1)
      (limits.moves_within s p.events p.end (begun p.events) r (limits.limits_suffice s p.events p.end r) (omega arith))

  pub moves_most : MovesMost s ops
  moves_most (lim, few) ms h =
      let more : length ops + 7 ≤ 13 = omega arith in
      let each = mul-le-mul (limits_are s lim).levels more in
      let own : s.levels * (length ops + 7) + 16 ≤ 224 = omega arith in
      let all = mul-le-mul few own in
      omega (arith, moves_few lim ms h)

  -- ---- the list

  pub listed_once : ListedOnce s ops
  unfolding schedules
  listed_once few = once.listed_once most_moves (fresh s) ops (λ ms h. omega (arith, moves_most few ms h))

  pub steps_first : StepsFirst s ops
  unfolding schedules
  steps_first = all_ordered most_moves (fresh s) ops

  -- what holds of every schedule holds of each that is listed
  pub each_listed : {P : List Move → Type 0} → ((ms : List Move) → Schedule s ops ms → P ms) → Each P (schedules s ops)
  unfolding schedules
  each_listed h = once.all_schedules most_moves (fresh s) ops h

  -- ---- the texts

  module _ (few : Few s ops) (ms : List Move) (h : Schedule s ops ms) where
    p : Played (fresh s) ms ops
    p = played ms (fresh s) ops h

    few_events : length (schedule_events ops ms) ≤ 13
    few_events = omega (arith, events_few (counts 0 ms) ops, few.1)

    bounded : Each Bounded (schedule_events ops ms)
    bounded =
        let f = freshly_is s few.0 in
        events_bounded (counts 0 ms) ops (counts_low 0 ms (omega (arith, moves_most few ms h)))
        (ops_bounded s (fresh s) p.end (λ q. []) f.sized (fresh_world s (fresh s) f) p.calls p.history)

    pub writable : Writable (opening s (schedule_events ops ms)) (schedule_events ops ms)
    writable = can_write s (limits_are s few.0) (schedule_events ops ms) few_events bounded

    short : length (schedule_text s ops ms) ≤ text_most
    short = text_short s (limits_are s few.0) (schedule_events ops ms) few_events bounded

  pub texts_short : TextsShort s ops
  texts_short = short

  pub reads_back : ReadsBack s ops
  reads_back few ms h = (
    text.reads_back (opening s (schedule_events ops ms)) (schedule_events ops ms) (writable few ms h),
    moves_told (p few ms h).calls,
  )

  pub one_text : OneText s ops
  one_text few xs ys h k e =
      let same = text.one_meaning _ _ (schedule_events ops xs) (schedule_events ops ys) (writable few xs h) (writable few ys k) e in
      sym (reads_back few xs h).1
      ∙ ap moves_of (given_is _ _ (schedule_events ops xs) (schedule_events ops ys) same).1
      ∙ (reads_back few ys k).1

  -- ---- demand 3

  pub schedule_held : ScheduleHeld s ops
  schedule_held lim ms h = (es, t, x.calls, x.history, r, at_end)
    where
      x : Played (fresh s) ms ops
      x = played ms (fresh s) ops h

      es : List Event
      es = x.events

      t : List ℕ
      t = x.end

      r : Reached s es t
      r = from_fresh s lim es t x.history

      at_end : (q : Queue) → IsQueue s q → AtEnd s es t q
      at_end q known =
          record {
            quiet = quiet;
            once = each_once s es t q r quiet;
            answers = listing_answers s es t q r quiet;
            kept = λ fs gs e. kept fs gs e (parted fs gs (fresh s) t (rw (← e) at x.history));
          }
        where
          quiet : QuietAt t q
          quiet = quiet_end s es t r x.over q known

          kept : (fs gs : List Event) → fs ++ gs ≡ es → (u : List ℕ) × History (fresh s) fs u × History u gs t
              → (u : List ℕ) × History (fresh s) fs u × History u gs t × (QuietAt u q → Beginning (listed s q fs u) (listed s q es t))
          kept fs gs e (u, before, after) = (
            u,
            before,
            after,
            λ then. rw e at (beginning_kept s fs u q gs t (from_fresh s lim fs u before) then after quiet),
          )

  pub held_to_demand_3 : HeldToDemand3 s ops
  held_to_demand_3 lim = each_listed (schedule_held lim)
