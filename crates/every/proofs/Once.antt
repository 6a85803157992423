-- Of the lists of fewer than so many moves each schedule is listed once, and nothing else is.
use Prim.Native.Nat.{ℕ, zero, suc, ◌+◌, ◌≤◌, ◌<◌}
use mathlib.Core.Path.{◌≡◌, refl, sym, ap, ◌∙◌}
use mathlib.Core.Bool.{Bool, true, false, cond, ◌&&◌}
use mathlib.Core.List.{List, [], ◌∷◌, ◌++◌}
use native.Mathlib.Omega.{arith}
use lib.ListN.{length}
use Rattle.answers.specs.Said.{Said, refused, says, Step}
use Rattle.steps.specs.Step.{step_of}
use Rattle.lists.specs.Count.{hit}
use Rattle.limits.specs.Limits.{Each}
use Rattle.ways.specs.declared.Op.{Op}
use Rattle.ways.specs.Schedules.{accepts, is_nine, stepped, begun, idle, Move, step, begin, is_schedule}
use Rattle.ways.specs.Schedules.{ending, after, by_step, by_begin, both}
use Rattle.every.specs.Order.{same_move, same, times}

-- ---- how often

times_append : (ms : List Move) (xss yss : List (List Move)) → times ms (xss ++ yss) ≡ times ms xss + times ms yss
times_append ms [] yss = omega arith
times_append ms (xs ∷ xss) yss = let ih = times_append ms xss yss in omega arith

times_nil : (m : Move) (xss : List (List Move)) → times [] (after m xss) ≡ 0
times_nil m [] = refl
times_nil m (xs ∷ xss) = let ih = times_nil m xss in omega arith

times_after : (m n : Move) (ms : List Move) (xss : List (List Move)) → times (m ∷ ms) (after n xss) ≡ cond (same_move m n) (times ms xss) 0
times_after m n ms [] = by (same_move m n)
  where
    by : (b : Bool) → ◌≡◌ {A = ℕ} 0 (cond b 0 0)
    by true = refl
    by false = refl
times_after m n ms (xs ∷ xss) = by (same_move m n) (times_after m n ms xss)
  where
    by : (b : Bool) → times (m ∷ ms) (after n xss) ≡ cond b (times ms xss) 0
        → hit (b && same ms xs) + times (m ∷ ms) (after n xss) ≡ cond b (hit (same ms xs) + times ms xss) 0
    by true e = omega arith
    by false e = omega arith

-- the schedule without moves
times_ending : (m : Move) (ms : List Move) (t : List ℕ) (ops : List Op) → times (m ∷ ms) (ending t ops) ≡ 0
unfolding ending
times_ending m ms t [] = by (idle t)
  where
    by : (b : Bool) → times (m ∷ ms) (cond b ([] ∷ []) []) ≡ 0
    by true = refl
    by false = refl
times_ending m ms t (o ∷ os) = refl

times_ended : (t : List ℕ) (ops : List Op) → times [] (ending t ops) ≡ hit (is_schedule [] t ops)
unfolding ending is_schedule
times_ended t [] = by (idle t)
  where
    by : (b : Bool) → times [] (cond b ([] ∷ []) []) ≡ hit b
    by true = refl
    by false = refl
times_ended t (o ∷ os) = refl

not_ended : (t : List ℕ) (ops : List Op) → idle t ≡ false → is_schedule [] t ops ≡ false
unfolding is_schedule
not_ended t [] h = h
not_ended t (o ∷ os) h = refl

-- ---- what follows a step, or ends here, and then what follows a begin

module _ (b c : Bool) (xss yss : List (List Move)) (t : List ℕ) (ops : List Op) where
  abbrev follows : List (List Move)
  follows = cond b (after step xss) (ending t ops) ++ cond c (after begin yss) []

  follow_step : (ms : List Move) → times (step ∷ ms) follows ≡ cond b (times ms xss) 0
  follow_step ms =
      times_append (step ∷ ms) (cond b (after step xss) (ending t ops)) (cond c (after begin yss) []) ∙ omega (arith, by b, none c)
    where
      by : (b : Bool) → times (step ∷ ms) (cond b (after step xss) (ending t ops)) ≡ cond b (times ms xss) 0
      by true = times_after step step ms xss
      by false = times_ending step ms t ops

      none : (c : Bool) → times (step ∷ ms) (cond c (after begin yss) []) ≡ 0
      none true = times_after step begin ms yss
      none false = refl

  follow_begin : (ms : List Move) → times (begin ∷ ms) follows ≡ cond c (times ms yss) 0
  follow_begin ms =
      times_append (begin ∷ ms) (cond b (after step xss) (ending t ops)) (cond c (after begin yss) []) ∙ omega (arith, none b, by c)
    where
      none : (b : Bool) → times (begin ∷ ms) (cond b (after step xss) (ending t ops)) ≡ 0
      none true = times_after begin step ms xss
      none false = times_ending begin ms t ops

      by : (c : Bool) → times (begin ∷ ms) (cond c (after begin yss) []) ≡ cond c (times ms yss) 0
      by true = times_after begin begin ms yss
      by false = refl

  follow_none : (b ≡ true → idle t ≡ false) → times [] follows ≡ hit (is_schedule [] t ops)
  follow_none runs =
      times_append [] (cond b (after step xss) (ending t ops)) (cond c (after begin yss) []) ∙ omega (arith, by b runs, none c)
    where
      by : (b : Bool) → (b ≡ true → idle t ≡ false) → times [] (cond b (after step xss) (ending t ops)) ≡ hit (is_schedule [] t ops)
      by true runs = times_nil step xss ∙ ap hit (sym (not_ended t ops (runs refl)))
      by false runs = times_ended t ops

      none : (c : Bool) → times [] (cond c (after begin yss) []) ≡ 0
      none true = times_nil begin yss
      none false = refl

-- ---- all of them

-- where a step is taken, something runs
runs : (t : List ℕ) → (stepped t).0 ≡ true → idle t ≡ false
unfolding stepped idle
runs t h = by (step_of t).0 h
  where
    by : (x : Said Step) → accepts x ≡ true → is_nine x ≡ false
    by (says y) e = refl
    by (refused r) e = let z : ◌≡◌ {A = ℕ} 0 1 = cc in absurd (omega arith)

-- fewer than so many
fewer : ℕ → List Move → Bool
fewer zero ms = false
fewer (suc k) [] = true
fewer (suc k) (m ∷ ms) = fewer k ms

fewer_is : (k : ℕ) (ms : List Move) → length ms < k → fewer k ms ≡ true
unfolding fewer
fewer_is zero ms h = absurd (omega arith)
fewer_is (suc k) [] h = refl
fewer_is (suc k) (m ∷ ms) h = fewer_is k ms (omega arith)

accepted_hit : (b short rest : Bool) (n : ℕ) → n ≡ hit (short && rest) → cond b n 0 ≡ hit (short && (b && rest))
accepted_hit true short rest n e = e
accepted_hit false true rest n e = refl
accepted_hit false false rest n e = refl

never_hit : (short : Bool) → 0 ≡ hit (short && false)
never_hit true = refl
never_hit false = refl

each_once : (ms : List Move) (k : ℕ) (t : List ℕ) (ops : List Op) → times ms (both k t ops) ≡ hit (fewer k ms && is_schedule ms t ops)
unfolding by_step by_begin is_schedule fewer
each_once ms zero t ops = refl
each_once [] (suc k) t [] = follow_none (stepped t).0 false (both k (stepped t).1 []) [] t [] (runs t)
each_once [] (suc k) t (o ∷ os) =
    follow_none (stepped t).0 (begun o t).0 (both k (stepped t).1 (o ∷ os)) (both k (begun o t).1 os) t (o ∷ os) (runs t)
each_once (step ∷ ms) (suc k) t [] =
    follow_step (stepped t).0 false (both k (stepped t).1 []) [] t [] ms
    ∙ accepted_hit (stepped t).0 (fewer k ms) _ _ (each_once ms k (stepped t).1 [])
each_once (step ∷ ms) (suc k) t (o ∷ os) =
    follow_step (stepped t).0 (begun o t).0 (both k (stepped t).1 (o ∷ os)) (both k (begun o t).1 os) t (o ∷ os) ms
    ∙ accepted_hit (stepped t).0 (fewer k ms) _ _ (each_once ms k (stepped t).1 (o ∷ os))
each_once (begin ∷ ms) (suc k) t [] =
    follow_begin (stepped t).0 false (both k (stepped t).1 []) [] t [] ms ∙ never_hit (fewer k ms)
each_once (begin ∷ ms) (suc k) t (o ∷ os) =
    follow_begin (stepped t).0 (begun o t).0 (both k (stepped t).1 (o ∷ os)) (both k (begun o t).1 os) t (o ∷ os) ms
    ∙ accepted_hit (begun o t).0 (fewer k ms) _ _ (each_once ms k (begun o t).1 os)

-- where every schedule has fewer than so many moves
pub listed_once : (k : ℕ) (t : List ℕ) (ops : List Op) → ((ms : List Move) → is_schedule ms t ops ≡ true → length ms < k)
    → (ms : List Move) → times ms (both k t ops) ≡ hit (is_schedule ms t ops)
listed_once k t ops short ms = each_once ms k t ops ∙ ap hit (by (is_schedule ms t ops) (short ms))
  where
    by : (b : Bool) → (b ≡ true → length ms < k) → fewer k ms && b ≡ b
    by true h = ap (λ (c : Bool). c && true) (fewer_is k ms (h refl))
    by false h = either (fewer k ms)
      where
        either : (c : Bool) → c && false ≡ false
        either true = refl
        either false = refl

-- ---- each that is listed is a schedule

same_own : (ms : List Move) → same ms ms ≡ true
same_own [] = refl
same_own (step ∷ ms) = same_own ms
same_own (begin ∷ ms) = same_own ms

each_times : {P : List Move → Type 0} (xss : List (List Move)) → ((ms : List Move) → 1 ≤ times ms xss → P ms) → Each P xss
each_times [] h = tt
each_times (xs ∷ xss) h = (h xs (rw (same_own xs) (omega arith)), each_times xss (λ ms k. h ms (omega arith)))

is_schedule_holds : (short b : Bool) → 1 ≤ hit (short && b) → b ≡ true
is_schedule_holds true true h = refl
is_schedule_holds true false h = absurd (omega arith)
is_schedule_holds false b h = absurd (omega arith)

pub all_schedules : {P : List Move → Type 0} (k : ℕ) (t : List ℕ) (ops : List Op) → ((ms : List Move) → is_schedule ms t ops ≡ true → P ms)
    → Each P (both k t ops)
all_schedules k t ops h =
    each_times (both k t ops) (λ ms l. h ms (is_schedule_holds (fewer k ms) (is_schedule ms t ops) (rw (each_once ms k t ops) at l)))
