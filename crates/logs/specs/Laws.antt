-- What the proofs of the log cite.
use Rattle.std.specs.Prelude.{ℕ, zero, suc, ◌+◌, ◌-◌, ◌≤◌, ◌<◌, Bool, true, false, Option, Some, None, cond, take, drop, replicate, ltb}
use Rattle.std.proofs.Math.Path.{◌≡◌, refl, sym, ap}
use Rattle.std.proofs.Common.{◌∙◌, arith, add-one, add-zero, append-nil, append_assoc, length-append}
use mathlib.Core.List.{List, [], ◌∷◌, ◌++◌}
use Rattle.std.proofs.Math.ListN.{length}
use Rattle.std.specs.Option.{ok_or}
use borrow.Author.Tests.{lt-ltb, le-ltb}
use Rattle.words.specs.declared.Queue.{Queue}
use Rattle.answers.specs.declared.Refusal.TheVariants.{Room}
use Rattle.answers.specs.Said.{Said, refused, says, answer_says}
use Rattle.text.specs.declared.Opening.{Opening}
use Rattle.text.specs.declared.Event.{Event}
use Rattle.text.specs.Answer.{Answer, gives, refuses, onto}
use Rattle.text.specs.Reading.{sizes_reading, end_reading}
use Rattle.text.specs.Laws.{onto_is, given_is}
use Rattle.schedule.specs.Whole.{rest_by, check_by, events_reading, schedule_reading, rest_reading, check_reading}
use Rattle.asks.specs.Listing.{listing_of}
use Rattle.loglines.specs.Lines.{text_line, sizes_line, queue_line, unquiet_line}
use Rattle.loglines.specs.declared.Sheet.{Sheet}
use Rattle.loglines.specs.Ink.{Page, ink, Writes}
use Rattle.loglines.specs.Laws.{ink_then, ink_all, writes_none, writes_then}
use Rattle.fresh.specs.Fresh.{fresh_of}
use Rattle.play.specs.Parts.{into, at_place}
use Rattle.play.specs.Laws.{place_events}
use Rattle.logs.specs.declared.Kind.{Kind}
use Rattle.logs.specs.Log.{
  listed_line,
  queue_of,
  queues_of,
  opening_sizes,
  with_queues,
  line_in,
  sized_log,
  read_log,
  log_text,
  largest,
  room_of,
  put_log,
  log_of,
}
use Rattle.logs.specs.Parts.{placed_log}
use Rattle.logs.specs.Fits.{log_fits}

-- ---- a queue's line, by what its listing says

pub queue_listed : (t : List ℕ) (q : Queue) (n : ℕ) (nodes : List ℕ) → listing_of t q (replicate 1024 0) ≡ (says n, nodes)
    → queue_of t q.0 ≡ queue_line q.0 (take n nodes)
unfolding queue_of listed_line
queue_listed t q n nodes h = rw h

pub queue_unlisted : (t : List ℕ) (q : Queue) (r : ℕ) (nodes : List ℕ) → listing_of t q (replicate 1024 0) ≡ (refused r, nodes)
    → queue_of t q.0 ≡ unquiet_line q.0
unfolding queue_of listed_line
queue_unlisted t q r nodes h = rw h

-- ---- one queue more

queues_last : (t : List ℕ) (q n : ℕ) → queues_of t q (n + 1) ≡ queues_of t q n ++ queue_of t (q + n)
unfolding queues_of
queues_last t q zero = simp (append-nil, add-zero)
queues_last t q (suc n) =
    let next : suc q + n ≡ q + suc n = omega arith in
    let rest = queues_last t (suc q) n in
    rw add-one (simp (append_assoc, ← next) (ap (λ (w : List ℕ). queue_of t q ++ w) (rw add-one at rest)))

pub writes_queues : (p : Sheet) (t : List ℕ) → Writes p p (queues_of t 1 0)
unfolding queues_of
writes_queues p t = writes_none p

pub writes_queue : {p q r : Sheet} (t : List ℕ) (i : ℕ) → Writes p q (queues_of t 1 i) → Writes q r (queue_of t (i + 1))
    → Writes p r (queues_of t 1 (i + 1))
writes_queue t i x y = let e : 1 + i ≡ i + 1 = omega arith in rw (queues_last t 1 i, e) (writes_then _ _ x y)

-- of the queues that are left to write: one more, none, and all of them

pub queues_more : {y : Page} (x : Page) (t : List ℕ) (i queues : ℕ) → i < queues → ink x (queue_of t (i + 1)) ≡ y
    → ink x (queues_of t (i + 1) (queues - i)) ≡ ink y (queues_of t (i + 1 + 1) (queues - (i + 1)))
unfolding queues_of
queues_more {y} x t i queues h e = by (queues - i) (omega arith)
  where
    by : (k : ℕ) → k ≡ suc (queues - (i + 1)) → ink x (queues_of t (i + 1) k) ≡ ink y (queues_of t (i + 1 + 1) (queues - (i + 1)))
    by k f =
        ap (λ (j : ℕ). ink x (queues_of t (i + 1) j)) f
        ∙ ink_then x (queue_of t (i + 1)) (queues_of t (suc (i + 1)) (queues - (i + 1))) e refl
        ∙ rw (add-one (i + 1))

pub queues_none : (x : Page) (t : List ℕ) (i queues : ℕ) → queues ≤ i → ink x (queues_of t (i + 1) (queues - i)) ≡ x
unfolding queues_of ink
queues_none x t i queues h = let e : queues - i ≡ 0 = omega arith in rw e

pub queues_start : (x : Page) (t : List ℕ) (queues : ℕ) → ink x (queues_of t 1 queues) ≡ ink x (queues_of t (0 + 1) (queues - 0))
queues_start x t queues = let e : queues ≡ queues - 0 = omega arith in ap (λ (k : ℕ). ink x (queues_of t 1 k)) e

-- ---- the events, and then the queues

pub with_queues_holds : {y z : Page} {u : List ℕ} (x : Page) (o : Opening) (p : List ℕ × List ℕ) → into x p ≡ (y, u)
    → ink y (queues_of u 1 o.queues) ≡ z → into x (with_queues o p) ≡ (z, u)
with_queues_holds {y} {z} {u} x o p e f =
    let a : ink x p.0 ≡ y = ap (λ q. q.0) e in
    let b : p.1 ≡ u = ap (λ q. q.1) e in
    rw b (ap (λ (w : Page). (w, u)) (ink_then x p.0 (queues_of u 1 o.queues) a f))

-- the log from the fresh table on, by what making it said
module _ (kind : Kind) (x : Page) (o : Opening) (text : List ℕ) (place : ℕ) (f : Said Unit × List ℕ) where
  pub placed_made : {y z : Page} {u : List ℕ} (t : List ℕ) → f ≡ (says tt, t)
      → into x (at_place (line_in kind o) o.events 1 text place t) ≡ (y, u) → ink y (queues_of u 1 o.queues) ≡ z
      → into x (placed_log kind o text place f) ≡ (z, u)
  unfolding placed_log
  placed_made t e p q = rw e (with_queues_holds x o (at_place (line_in kind o) o.events 1 text place t) p q)

  pub placed_refused : {y : Page} (r : ℕ) (t : List ℕ) → f ≡ (refused r, t) → ink x sizes_line ≡ y
      → into x (placed_log kind o text place f) ≡ (y, t)
  unfolding placed_log
  placed_refused r t e p = rw e (ap (λ (w : Page). (w, t)) p)

-- ---- a text that was checked

pub record Right (text : List ℕ) (o : Opening) (place : ℕ) : Type 0 where
  pub events : List Event
  pub next : ℕ
  pub read : events_reading o.events text place ≡ gives (events, next)
  pub whole : schedule_reading text ≡ gives (o, events)

pub check_right : (text : List ℕ) (o : Opening) (place : ℕ) → check_reading text ≡ gives (o, place) → Right text o place
unfolding check_by rest_by schedule_reading
check_right text o place h =
    let a = onto_is (sizes_reading text) _ (o, place) h in
    let b = onto_is (rest_reading a.0.0.events text a.0.1) _ (o, place) a.2 in
    let d = onto_is (events_reading a.0.0.events text a.0.1) _ b.0 b.1 in
    let x = given_is a.0.0 o a.0.1 place b.2 in
    let r : Right text a.0.0 a.0.1 =
    record { events = d.0.0; next = d.0.1; read = d.1; whole = simp (a.1, d.1, d.2) }
    in
    rw (x.0, x.1) at r

refuses_same : {A B : Type 0} (n m : ℕ) (vs ws : List ℕ) → ◌≡◌ {A = Answer A} (refuses n vs) (refuses m ws) → ◌≡◌ {A = Answer B} (refuses n vs) (refuses m ws)
refuses_same n m vs ws e = let f : n ≡ m = cc in let g : vs ≡ ws = cc in rw (f, g)

pub check_wrong : (text : List ℕ) (n : ℕ) (vs : List ℕ) → check_reading text ≡ refuses n vs → schedule_reading text ≡ refuses n vs
unfolding check_by rest_by schedule_reading
check_wrong text n vs h = by (sizes_reading text) h
  where
    last : (o : Opening × ℕ) (es : List Event × ℕ) (a : Answer (Unit {0})) → ◌≡◌ {A = Answer (Opening × ℕ)} (onto a (λ _. gives o)) (refuses n vs)
        → ◌≡◌ {A = Answer (Opening × List Event)} (onto a (λ _. gives (o.0, es.0))) (refuses n vs)
    last o es (gives _) e = let z : ◌≡◌ {A = ℕ} 0 1 = cc in absurd (omega arith)
    last o es (refuses m ws) e = refuses_same m n ws vs e

    rest : (o : Opening × ℕ) (a : Answer (List Event × ℕ))
        → ◌≡◌ {A = Answer (Opening × ℕ)} (onto (onto a (λ es. end_reading text es.1)) (λ _. gives o)) (refuses n vs)
        → ◌≡◌ {A = Answer (Opening × List Event)} (onto a (λ es. onto (end_reading text es.1) (λ _. gives (o.0, es.0)))) (refuses n vs)
    rest o (gives es) e = last o es (end_reading text es.1) e
    rest o (refuses m ws) e = refuses_same m n ws vs e

    by : (a : Answer (Opening × ℕ)) → onto a (λ o. onto (rest_reading o.0.events text o.1) (λ _. gives o)) ≡ refuses n vs
        → ◌≡◌ {A = Answer (Opening × List Event)}
        (onto a (λ o. onto (events_reading o.0.events text o.1) (λ es. onto (end_reading text es.1) (λ _. gives (o.0, es.0))))) (refuses n vs)
    by (gives o) e = rest o (events_reading o.0.events text o.1) e
    by (refuses m ws) e = refuses_same m n ws vs e

-- ---- the whole log

module _ (kind : Kind) (text t : List ℕ) where
  placed_is : (o : Opening) (place : ℕ) (r : Right text o place) (f : Said Unit × List ℕ)
      → placed_log kind o text place f ≡ sized_log kind o r.events f
  unfolding placed_log sized_log
  placed_is o place r (refused n, t) = refl
  placed_is o place r (says _, t) =
      ap (with_queues o) (place_events (line_in kind o) o.events 1 text place r.next r.events t r.read)

  pub log_right : {y : Page} {u : List ℕ} (x : Page) (o : Opening) (place : ℕ) → check_reading text ≡ gives (o, place)
      → into x (placed_log kind o text place (fresh_of (opening_sizes o) t)) ≡ (y, u) → into x (log_text kind text t) ≡ (y, u)
  unfolding log_text read_log
  log_right x o place h e =
      let r = check_right text o place h in
      let is = ap (read_log kind t) r.whole ∙ sym (placed_is o place r (fresh_of (opening_sizes o) t)) in
      rw is e

  pub log_wrong : {y : Page} (x : Page) (line : ℕ) → check_reading text ≡ refuses 13 (line ∷ []) → ink x (text_line line) ≡ y
      → into x (log_text kind text t) ≡ (y, t)
  unfolding log_text read_log
  log_wrong x line h e = rw (check_wrong text 13 (line ∷ []) h, e)

-- ---- what is answered

module _ (kind : Kind) (text t room : List ℕ) where
  pub log_short : length t < largest → log_of kind text t room ≡ ((refused 1, room), t)
  unfolding log_of
  log_short h = rw (lt-ltb (length t) largest h)

  pub log_cramped : largest ≤ length t → length room < room_of kind → log_of kind text t room ≡ ((refused 12, room), t)
  unfolding log_of
  log_cramped h r = rw (le-ltb (length t) largest h, lt-ltb (length room) (room_of kind) r)

module _ (kind : Kind) (text t room : List ℕ) (roomy : room_of kind ≤ length room) where
  -- the pen is past the log, and nowhere else
  inked : into (Some 0, room) (log_text kind text t)
      ≡ (
        (Some (length (log_text kind text t).0), (log_text kind text t).0 ++ drop (length (log_text kind text t).0) room),
        (log_text kind text t).1,
      )
  inked =
      let fits = log_fits kind text t in
      ap (λ (x : Page). (x, (log_text kind text t).1)) (ink_all room (log_text kind text t).0 (omega arith))

  pub log_laid : {after u : List ℕ} {n : ℕ} → largest ≤ length t → into (Some 0, room) (log_text kind text t) ≡ ((Some n, after), u)
      → log_of kind text t room ≡ ((says n, after), u)
  unfolding log_of put_log
  log_laid {after} {u} {n} long e =
      let same = sym inked ∙ e in
      let at : ◌≡◌ {A = Option ℕ} (Some (length (log_text kind text t).0)) (Some n) = ap (λ y. y.0.0) same in
      let count : length (log_text kind text t).0 ≡ n = cc in
      let bytes = ap (λ y. y.0.1) same in
      let table = ap (λ y. y.1) same in
      rw (le-ltb (length t) largest long, le-ltb (length room) (room_of kind) roomy, bytes, table, count)

  pub never_full : {after u : List ℕ} → into (Some 0, room) (log_text kind text t) ≡ ((None, after), u) → ⊥
  never_full e =
      let at : ◌≡◌ {A = Option ℕ} (Some (length (log_text kind text t).0)) None = ap (λ y. y.0.0) (sym inked ∙ e) in
      let z : ◌≡◌ {A = ℕ} 0 1 = cc in
      omega arith

  -- that the room is full is answered as refusal 12, but never met
  pub log_written : {after u : List ℕ} (at : Option ℕ) → largest ≤ length t → into (Some 0, room) (log_text kind text t) ≡ ((at, after), u)
      → log_of kind text t room ≡ ((answer_says (ok_or at Room), after), u)
  log_written (Some n) long e = log_laid long e
  log_written None long e = absurd (never_full e)

-- the bytes that are answered are in the room
pub log_within : (kind : Kind) (text t room after u : List ℕ) (n : ℕ) → log_of kind text t room ≡ ((says n, after), u) → n ≤ length after
unfolding log_of put_log
log_within kind text t room after u n h = by (ltb (length t) largest) (ltb (length room) (room_of kind)) h
  where
    log : List ℕ × List ℕ
    log = log_text kind text t

    by : (a b : Bool) → cond a ((refused 1, room), t) (cond b ((refused 12, room), t) (put_log log room)) ≡ ((says n, after), u)
        → n ≤ length after
    by true b e =
        let f : ◌≡◌ {A = Said ℕ} (refused 1) (says n) = ap (λ q. q.0.0) e in let z : ◌≡◌ {A = ℕ} 0 1 = cc in absurd (omega arith)
    by false true e =
        let f : ◌≡◌ {A = Said ℕ} (refused 12) (says n) = ap (λ q. q.0.0) e in let z : ◌≡◌ {A = ℕ} 0 1 = cc in absurd (omega arith)
    by false false e =
        let f : ◌≡◌ {A = Said ℕ} (says (length log.0)) (says n) = ap (λ q. q.0.0) e in
        let k : length log.0 ≡ n = cc in
        omega (arith, length-append log.0 (drop (length log.0) room), ap (λ q. length q.0.1) e)
