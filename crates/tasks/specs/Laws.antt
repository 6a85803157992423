-- What the proofs of reading a task cite, and that a task's text is a schedule's.
use Rattle.std.specs.Prelude.{ℕ, zero, suc, ◌+◌, ◌-◌, ◌*◌, ◌≤◌, ◌<◌, ◌≡◌, refl, Bool, true, false, cond, List, [], ◌∷◌, ◌++◌, length, set, take, leb, Result, Ok, Err}
use Rattle.std.proofs.Common.{sym, ap, ◌∙◌, arith, sub-one, length-append, le-leb, leb-true}
use Rattle.std.proofs.lemmas.List.Edits.{sets, sets-eq}
use Rattle.std.proofs.Math.Seq.{length-sets, take-append_seam}
use Rattle.std.proofs.lemmas.Bool.{lt-leb}
use Rattle.heads.specs.Put.{Put}
use Rattle.heads.specs.Laws.{sets_append}
use Rattle.text.specs.declared.Opening.{Opening}
use Rattle.text.specs.declared.Event.{Event}
use Rattle.text.specs.declared.Event.TheVariants.{Enqueue, Dequeue, Steps}
use Rattle.text.specs.declared.BadLine.{BadLine}
use Rattle.text.specs.Answer.{Answer, gives, refuses, onto}
use Rattle.text.specs.Reading.{sizes_reading, event_reading, end_reading, line_answer}
use Rattle.text.specs.Laws.{onto_is, given_is}
use Rattle.schedule.specs.Whole.{events_by, rest_by, check_by, events_reading, schedule_reading}
use Rattle.tasks.specs.Tasks.{
  operation_of,
  operation_reading,
  operations_reading,
  task_reading,
  words_of,
  all_words,
  laid,
  task_of,
}
use Rattle.tasks.specs.Parts.{rest_reading, check_reading, words_from}

-- ---- one operation

pub operation_is : (text : List ℕ) (place : ℕ) (r : Result (Event × ℕ) BadLine) (e : Event) (next : ℕ) → line_answer r ≡ event_reading text place
    → r ≡ Ok (e, next) → operation_reading text place ≡ operation_of text place e next
unfolding operation_reading line_answer
operation_is text place r e next p q = rw (← p, q)

pub operation_wrong : (text : List ℕ) (place : ℕ) (r : Result (Event × ℕ) BadLine) (bad : BadLine) → line_answer r ≡ event_reading text place
    → r ≡ Err bad → operation_reading text place ≡ refuses 13 (bad.0 ∷ [])
unfolding operation_reading line_answer
operation_wrong text place r bad p q = rw (← p, q)

-- an operation is an event
event_of : (text : List ℕ) (place : ℕ) (x : Event × ℕ) → operation_reading text place ≡ gives x → event_reading text place ≡ gives x
unfolding operation_reading
event_of text place x h = by (event_reading text place) h
  where
    of : (e : Event) (next : ℕ) → operation_of text place e next ≡ gives x → ◌≡◌ {A = Answer (Event × ℕ)} (gives (e, next)) (gives x)
    of (Enqueue l q n) next g = g
    of (Dequeue l q) next g = g
    of (Steps count) next g = cc

    by : (a : Answer (Event × ℕ)) → onto a (λ e. operation_of text place e.0 e.1) ≡ gives x → a ≡ gives x
    by (gives y) g = of y.0 y.1 g
    by (refuses n v) g = cc

-- ---- the words

pub put_four : (ops : List ℕ) (at a b c d : ℕ)
    → Put (at + 4) (set (set (set (set ops at a) (at + 1) b) (at + 2) c) (at + 3) d) ops at (a ∷ b ∷ c ∷ d ∷ [])
put_four ops at a b c d =
    let one : at + 1 ≡ suc at = omega arith in
    let two : at + 2 ≡ suc (suc at) = omega arith in
    let three : at + 3 ≡ suc (suc (suc at)) = omega arith in
    record { next = refl; is = rw (one, two, three) }

pub words_short : (e : Event) → length (words_of e) ≤ 4
unfolding words_of
words_short (Enqueue l q n) = omega arith
words_short (Dequeue l q) = omega arith
words_short (Steps count) = omega arith

pub words_more : (k : ℕ) (text : List ℕ) (place : ℕ) (e : Event) (next : ℕ) → 0 < k → event_reading text place ≡ gives (e, next)
    → words_from k text place ≡ words_of e ++ words_from (k - 1) text next
unfolding words_from
words_more zero text place e next h g = absurd (omega arith)
words_more (suc k) text place e next h g = rw (g, sub-one)

pub words_wrong : (k : ℕ) (text : List ℕ) (place n : ℕ) (v : List ℕ) → event_reading text place ≡ refuses n v → words_from k text place ≡ []
unfolding words_from
words_wrong zero text place n v g = refl
words_wrong (suc k) text place n v g = rw g

pub words_none : (k : ℕ) (text : List ℕ) (place : ℕ) → k ≤ 0 → words_from k text place ≡ []
unfolding words_from
words_none zero text place h = refl
words_none (suc k) text place h = absurd (omega arith)

pub ruleset words = (words_short, words_more, words_wrong, words_none)

pub sets_after : {q p : ℕ} {t s : List ℕ} {xs : List ℕ} (ys : List ℕ) → Put q t s p xs → sets t q ys ≡ sets s p (xs ++ ys)
sets_after {p} {s} {xs} ys a = rw (a.is, a.next) (sym (sets_append s p xs ys))

-- ---- the operations of a task are the events of a schedule, and their words are those that the second reading finds

pub record Found (k : ℕ) (text : List ℕ) (place : ℕ) (es : List Event) (end : ℕ) : Type 0 where
  pub events : events_reading k text place ≡ gives (es, end)
  pub words : words_from k text place ≡ all_words es

found : (k : ℕ) (text : List ℕ) (place : ℕ) (es : List Event) (end : ℕ) → operations_reading k text place ≡ gives (es, end)
    → Found k text place es end
unfolding events_by words_from all_words
found zero text place es end h =
    let x = given_is [] es place end h in record { events = h; words = rw (sym x.0) }
found (suc k) text place es end h =
    let a = onto_is (operation_reading text place) _ (es, end) h in
    let b = onto_is (operations_reading k text a.0.1) _ (es, end) a.2 in
    let e = event_of text place a.0 a.1 in
    let f = found k text a.0.1 b.0.0 b.0.1 b.1 in
    let x = given_is (a.0.0 ∷ b.0.0) es b.0.1 end b.2 in
    record { events = rw (e, f.events) b.2; words = rw (e, f.words) (ap all_words x.0) }

-- ---- the whole text

pub record Checked (text : List ℕ) (o : Opening) (place : ℕ) : Type 0 where
  pub es : List Event
  pub end : ℕ
  pub sizes : sizes_reading text ≡ gives (o, place)
  pub operations : operations_reading o.events text place ≡ gives (es, end)
  pub ends : end_reading text end ≡ gives tt

same_operations : (text : List ℕ) (o p : Opening) (i j : ℕ) (a : Answer (List Event × ℕ)) → o ≡ p → i ≡ j
    → operations_reading o.events text i ≡ a → operations_reading p.events text j ≡ a
same_operations text o p i j a d e h = rw (sym d, sym e) h

checked : (text : List ℕ) (o : Opening) (place : ℕ) → check_reading text ≡ gives (o, place) → Checked text o place
unfolding check_by rest_by
checked text o place h =
    let a = onto_is (sizes_reading text) _ (o, place) h in
    let b = onto_is (rest_reading a.0.0.events text a.0.1) _ (o, place) a.2 in
    let d = onto_is (operations_reading a.0.0.events text a.0.1) _ b.0 b.1 in
    let x = given_is a.0.0 o a.0.1 place b.2 in
    record {
      es = d.0.0;
      end = d.0.1;
      sizes = a.1 ∙ b.2;
      operations = same_operations text a.0.0 o a.0.1 place (gives d.0) x.0 x.1 d.1;
      ends = d.2;
    }

-- where one of three answers refuses, so does the answer that follows them
stops : {A B C D : Type 0} (a : Answer A) (f : A → Answer B) (g : B → Answer C) (k : A → B → Answer D) (n : ℕ) (v : List ℕ)
    → onto a (λ x. onto (onto (f x) g) (λ _. gives x)) ≡ refuses n v
    → onto a (λ x. onto (f x) (λ y. onto (g y) (λ _. k x y))) ≡ refuses n v
stops {A} {B} {C} {D} (refuses m w) f g k n v h = let x : m ≡ n = cc in let y : w ≡ v = cc in rw (x, y)
stops {A} {B} {C} {D} (gives x) f g k n v h = at_second (f x) h
  where
    at_third : (y : B) (c : Answer C) → onto c (λ _. gives x) ≡ refuses n v → onto c (λ _. k x y) ≡ refuses n v
    at_third y (refuses m w) i = let p : m ≡ n = cc in let q : w ≡ v = cc in rw (p, q)
    at_third y (gives z) i = cc

    at_second : (b : Answer B) → onto (onto b g) (λ _. gives x) ≡ refuses n v
        → onto b (λ y. onto (g y) (λ _. k x y)) ≡ refuses n v
    at_second (refuses m w) i = let p : m ≡ n = cc in let q : w ≡ v = cc in rw (p, q)
    at_second (gives y) i = at_third y (g y) i

pub task_wrong : (text ops : List ℕ) (n : ℕ) (v : List ℕ) → check_reading text ≡ refuses n v → task_of text ops ≡ (refuses n v, ops)
unfolding check_by rest_by task_reading task_of laid
task_wrong text ops n v h =
    let s =
    stops {D = Opening × List Event} (sizes_reading text) (λ o. operations_reading o.0.events text o.1)
    (λ es. end_reading text es.1)
    (λ o es. cond (leb o.0.events 6) (gives (o.0, es.0)) (refuses 14 []))
    n v h in
    rw s

pub task_many : (text ops : List ℕ) (o : Opening) (place : ℕ) → check_reading text ≡ gives (o, place) → 6 < o.events
    → task_of text ops ≡ (refuses 14 [], ops)
unfolding task_reading task_of laid
task_many text ops o place h m =
    let a = checked text o place h in rw (a.sizes, a.operations, a.ends, lt-leb o.events 6 m)

pub task_is : (text ops : List ℕ) (o : Opening) (place : ℕ) → check_reading text ≡ gives (o, place) → o.events ≤ 6
    → task_of text ops ≡ (gives o, sets ops 0 (words_from o.events text place))
unfolding task_reading task_of laid
task_is text ops o place h m =
    let a = checked text o place h in
    let f = found o.events text place a.es a.end a.operations in
    rw (a.sizes, a.operations, a.ends, le-leb o.events 6 m, f.words)

pub ruleset whole = (task_wrong, task_many, task_is)

-- ---- what a task's text is

sixth : {A : Type 0} (n : ℕ) (x y : A) → cond (leb n 6) (gives x) (refuses 14 []) ≡ gives y
    → (◌≡◌ {A = Answer A} (gives x) (gives y)) × (n ≤ 6)
sixth {A} n x y h = by (leb n 6) refl h
  where
    by : (t : Bool) → leb n 6 ≡ t → cond t (gives x) (refuses 14 []) ≡ gives y → (◌≡◌ {A = Answer A} (gives x) (gives y)) × (n ≤ 6)
    by true e g = (g, leb-true n 6 e)
    by false e g = cc

same_events : (o p : Opening) → o ≡ p → o.events ≤ 6 → p.events ≤ 6
same_events o p e h = rw (sym e) h

-- a task's text is a schedule's: it is read as the same sizes and events
pub task_schedule : (text : List ℕ) (o : Opening) (es : List Event) → task_reading text ≡ gives (o, es)
    → schedule_reading text ≡ gives (o, es)
unfolding task_reading schedule_reading
task_schedule text o es h =
    let a = onto_is (sizes_reading text) _ (o, es) h in
    let b = onto_is (operations_reading a.0.0.events text a.0.1) _ (o, es) a.2 in
    let d = onto_is (end_reading text b.0.1) _ (o, es) b.2 in
    let f = found a.0.0.events text a.0.1 b.0.0 b.0.1 b.1 in
    rw (a.1, f.events, d.1) (sixth a.0.0.events (a.0.0, b.0.0) (o, es) d.2).0

-- and it has six operations at most
pub task_six : (text : List ℕ) (o : Opening) (es : List Event) → task_reading text ≡ gives (o, es) → o.events ≤ 6
unfolding task_reading
task_six text o es h =
    let a = onto_is (sizes_reading text) _ (o, es) h in
    let b = onto_is (operations_reading a.0.0.events text a.0.1) _ (o, es) a.2 in
    let d = onto_is (end_reading text b.0.1) _ (o, es) b.2 in
    let s = sixth a.0.0.events (a.0.0, b.0.0) (o, es) d.2 in
    let x = given_is a.0.0 o b.0.0 es s.0 in same_events a.0.0 o x.0 s.1

-- ---- what follows a task that was read

four_words : (text : List ℕ) (place : ℕ) (x : Event × ℕ) → operation_reading text place ≡ gives x → length (words_of x.0) ≡ 4
unfolding operation_reading words_of
four_words text place x h = by (event_reading text place) h
  where
    of : (e : Event) (next : ℕ) → operation_of text place e next ≡ gives x → length (words_of x.0) ≡ 4
    of (Enqueue l q n) next g = let d = given_is (Enqueue l q n) x.0 next x.1 g in rw (sym d.0)
    of (Dequeue l q) next g = let d = given_is (Dequeue l q) x.0 next x.1 g in rw (sym d.0)
    of (Steps count) next g = cc

    by : (a : Answer (Event × ℕ)) → onto a (λ e. operation_of text place e.0 e.1) ≡ gives x → length (words_of x.0) ≡ 4
    by (gives y) g = of y.0 y.1 g
    by (refuses n v) g = cc

four_each : (k : ℕ) (text : List ℕ) (place : ℕ) (es : List Event) (end : ℕ) → operations_reading k text place ≡ gives (es, end)
    → length (all_words es) ≡ 4 * k
unfolding events_by all_words
four_each zero text place es end h = let x = given_is [] es place end h in rw (sym x.0)
four_each (suc k) text place es end h =
    let a = onto_is (operation_reading text place) _ (es, end) h in
    let b = onto_is (operations_reading k text a.0.1) _ (es, end) a.2 in
    let x = given_is (a.0.0 ∷ b.0.0) es b.0.1 end b.2 in
    let four = four_words text place a.0 a.1 in
    let rest = four_each k text a.0.1 b.0.0 b.0.1 b.1 in
    let all : length (all_words (a.0.0 ∷ b.0.0)) ≡ 4 * suc k = rw length-append (omega (arith, four, rest)) in
    sym (ap (λ (l : List Event). length (all_words l)) x.0) ∙ all

given_opening : (o p : Opening) → ◌≡◌ {A = Answer Opening} (gives o) (gives p) → o ≡ p
given_opening o p e = cc

-- the words of its operations stand at the start of those lent
pub record Read (text : List ℕ) (o : Opening) (after : List ℕ) : Type 0 where
  pub es : List Event
  pub reading : task_reading text ≡ gives (o, es)
  pub six : o.events ≤ 6
  pub words : take (4 * o.events) after ≡ all_words es
  pub long : 24 ≤ length after

same_length : (o p : Opening) (n : ℕ) → o ≡ p → n ≡ 4 * o.events → n ≡ 4 * p.events
same_length o p n e h = rw (sym e) h

task_length : (text : List ℕ) (o : Opening) (es : List Event) → task_reading text ≡ gives (o, es) → length (all_words es) ≡ 4 * o.events
unfolding task_reading
task_length text o es h =
    let a = onto_is (sizes_reading text) _ (o, es) h in
    let b = onto_is (operations_reading a.0.0.events text a.0.1) _ (o, es) a.2 in
    let d = onto_is (end_reading text b.0.1) _ (o, es) b.2 in
    let s = sixth a.0.0.events (a.0.0, b.0.0) (o, es) d.2 in
    let x = given_is a.0.0 o b.0.0 es s.0 in
    let n = four_each a.0.0.events text a.0.1 b.0.0 b.0.1 b.1 in
    same_length a.0.0 o _ x.0 (sym (ap (λ (l : List Event). length (all_words l)) x.1) ∙ n)

pub task_read : (text ops after : List ℕ) (o : Opening) → 24 ≤ length ops → task_of text ops ≡ (gives o, after) → Read text o after
unfolding task_of laid
task_read text ops after o h e = by (task_reading text) refl e
  where
    of : (p : Opening) (es : List Event) → task_reading text ≡ gives (p, es) → p ≡ o → sets ops 0 (all_words es) ≡ after → Read text o after
    of p es f d g =
        let here : task_reading text ≡ gives (o, es) = f ∙ ap (λ (q : Opening). gives (q, es)) d in
        let six = task_six text o es here in
        let n = task_length text o es here in
        let fits : 0 + length (all_words es) ≤ length ops = omega (arith, n, six) in
        let start : take (4 * o.events) (sets ops 0 (all_words es)) ≡ all_words es
        = rw (sym n, sets-eq (all_words es) ops 0 fits) (take-append_seam (all_words es) _) in
        let long : 24 ≤ length (sets ops 0 (all_words es)) = rw length-sets h in
        record { es = es; reading = here; six = six; words = rw (sym g) start; long = rw (sym g) long }

    by : (a : Answer (Opening × List Event)) → task_reading text ≡ a → laid ops a ≡ (gives o, after) → Read text o after
    by (gives x) f g =
        let said = ap (λ (u : Answer Opening × List ℕ). u.0) g in
        let words = ap (λ (u : Answer Opening × List ℕ). u.1) g in
        of x.0 x.1 f (given_opening x.0 o said) words
    by (refuses n v) f g =
        let i : ◌≡◌ {A = Answer Opening} (refuses n v) (gives o) = ap (λ (u : Answer Opening × List ℕ). u.0) g in
        cc
