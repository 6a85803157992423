use Rattle.std.proofs.lemmas.Iterator.{YieldsList-from_slice, YieldsList-from_take}
use Rattle.std.proofs.lemmas.Iterator.Consumers.{YieldsList-end}
use Rattle.outcomes.specs.NotesLaws.{note_last, note_only, note_yielded}
use Rattle.outcomes.specs.OutcomesLaws.{queue_listed, queue_unlisted}
use Rattle.outcomes.proofs.Notes.put_queue.Goals as goal
use Rattle.outcomes.proofs.Notes.put_queue.Goals.{in-Ok+in-None, in_default}

pub loop-x-preserved : goal.loop-x-preserved
loop-x-preserved c = note_yielded _ _ _ c.loop-x.invariant c.put.ensures

pub returns : goal.returns
returns c =
    elim c.match-listing.branch [
      | in-Ok+in-None w ↦
          let all = YieldsList-end (YieldsList-from_take w.from.result (YieldsList-from_slice c.listing.new.room (cc)) (cc)) w.loop-x.yielded _
          w.loop-x.yielded_by _ _ w.in-None.is w.next.ensures.steps in
          let nodes = rw w.from.ensures at all.0 in
          let noted = rw (nodes, ← w.self-is) at w.loop-x.invariant in
          rw (queue_listed _ _ _ _ (rw w.in-Ok.is at c.listing.ensures)) (note_last _ _ _ noted c.put-2.ensures)
      | in_default w ↦ rw (queue_unlisted _ _ _ _ (rw w.in_default.is at c.listing.ensures)) (note_only _ _ (rw w.self-is at c.put-2.ensures))
    ]
