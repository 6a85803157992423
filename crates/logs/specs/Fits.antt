-- Every log fits its room. A text of 65,536 bytes begins at most 10,922 operations, for 6 bytes is the shortest line that begins one; an
-- operation that ends has a line of at most 26 bytes, 32 with its bound, a refusal one of 14, and each of 8 queues one of at most
-- 8 + 6 * 1024.
use Rattle.std.specs.Prelude.{ℕ, zero, suc, ◌+◌, ◌*◌, ◌≤◌, ◌≡◌, List, Bool, true, false, cond, not, length, get_or, take, replicate, ltb}
use Rattle.std.proofs.Math.Path.{refl}
use Rattle.std.proofs.Common.{arith, zero-add, length-append, length-take-le, ltb-false}
use Rattle.std.proofs.lemmas.List.{length-replicate}
use Rattle.words.specs.declared.Sizes.{Sizes}
use Rattle.words.specs.Layout.{queue, limits, words}
use Rattle.words.specs.Laws.{limits_are}
use Rattle.answers.specs.Said.{Said, refused, says}
use Rattle.text.specs.declared.Opening.{Opening}
use Rattle.text.specs.declared.Event.{Event}
use Rattle.text.specs.Answer.{Answer, gives, refuses}
use Rattle.text.specs.Text.{longest}
use Rattle.schedule.specs.Whole.{schedule_reading}
use Rattle.schedule.specs.OneMeaning.{is_written}
use Rattle.fresh.specs.Fresh.{fresh_table, fresh_of}
use Rattle.asks.specs.Listing.{listing_of}
use Rattle.play.specs.Play.{events_of}
use Rattle.lengths.specs.Running.{running}
use Rattle.lengths.specs.Lines.{line_most, line_most_holds, text_most, queue_most, unquiet_most}
use Rattle.lengths.specs.Events.{begun_in, begun_lines}
use Rattle.lengths.proofs.Ends.{fresh_idle}
use Rattle.lengths.proofs.Events.{events_most}
use Rattle.logs.specs.declared.Kind.{Kind}
use Rattle.logs.specs.declared.Kind.TheVariants.{Plain, Bounds}
use Rattle.logs.specs.Log.{
  listed_line,
  queue_of,
  queues_of,
  opening_sizes,
  with_queues,
  beside_of,
  line_in,
  sized_log,
  read_log,
  log_text,
  room_of,
}
use Rattle.logs.specs.Listed.{listing_count}

-- ---- the queues' lines

queue_fits : (t : List ℕ) (q : ℕ) → length (queue_of t q) ≤ 6152
unfolding queue_of listed_line
queue_fits t q = by (listing_of t (queue q) (replicate 1024 0)) refl
  where
    by : (x : Said ℕ × List ℕ) → listing_of t (queue q) (replicate 1024 0) ≡ x → length (listed_line q x) ≤ 6152
    by (refused r, nodes) e = let line = unquiet_most q in omega arith
    by (says n, nodes) e =
        let count = listing_count t (queue q) (replicate 1024 0) nodes n e in
        let room = length-replicate {A = ℕ} 1024 0 in
        let taken = length-take-le n nodes count.1 in
        let line = queue_most q (take n nodes) in
        omega arith

queues_fit : (t : List ℕ) (q n : ℕ) → length (queues_of t q n) ≤ 6152 * n
unfolding queues_of
queues_fit t q zero = omega arith
queues_fit t q (suc n) =
    let first = queue_fits t q in let rest = queues_fit t (suc q) n in simp length-append (omega arith)

-- ---- the whole log

-- the room has as many bytes as the lines of so many operations, a refusal and 8 queues take
roomy : (kind : Kind) (n begun : ℕ) → 6 * begun ≤ longest → line_most (beside_of kind n) * begun + (14 + 6152 * 8) ≤ room_of kind
roomy Plain n begun few = omega arith
roomy Bounds n begun few = omega arith

module _ (kind : Kind) (o : Opening) (es : List Event) (few : 6 * begun_in es ≤ longest) where
  room : line_most (beside_of kind o.nodes) * begun_in es + (14 + 6152 * 8) ≤ room_of kind
  room = roomy kind o.nodes (begun_in es) few

  played_fits : (t : List ℕ) → running t ≡ 0 → o.queues ≤ 8 → length (with_queues o (events_of (line_in kind o) 1 es t)).0 ≤ room_of kind
  played_fits t idle queues =
      let events = events_most (line_in kind o) (line_most (beside_of kind o.nodes)) (line_most_holds (beside_of kind o.nodes)) 1 es t in
      let begun = rw (idle, zero-add) at events in
      let lines = queues_fit (events_of (line_in kind o) 1 es t).1 1 o.queues in
      simp length-append (omega (arith, room))

  sized_fits : (t : List ℕ) → length (sized_log kind o es (fresh_of (opening_sizes o) t)).0 ≤ room_of kind
  unfolding sized_log fresh_of
  sized_fits t = by (limits s) refl (ltb (length t) (words s)) refl
    where
      s : Sizes
      s = opening_sizes o

      by : (a : Bool) → limits s ≡ a → (b : Bool) → ltb (length t) (words s) ≡ b
          → length (sized_log kind o es (cond (not a) (refused 2, t) (cond b (refused 1, t) (says tt, fresh_table s t)))).0 ≤ room_of kind
      by false l b r = omega (arith, room)
      by true l true r = omega (arith, room)
      by true l false r =
          played_fits (fresh_table s t) (fresh_idle s t l (ltb-false (length t) (words s) r)) (limits_are s l).queues

pub log_fits : (kind : Kind) (text t : List ℕ) → length (log_text kind text t).0 ≤ room_of kind
unfolding log_text read_log
log_fits kind text t = by (schedule_reading text) refl
  where
    by : (a : Answer (Opening × List Event)) → schedule_reading text ≡ a → length (read_log kind t a).0 ≤ room_of kind
    by (refuses number values) e = let line = text_most (get_or values 0 0) in omega (arith, roomy kind 0 0 (omega arith))
    by (gives (o, es)) e =
        let w = is_written text o es e in
        let begun = begun_lines o es in
        let short = w.1.short in
        sized_fits kind o es (omega arith) t
