use Rattle.std.proofs.Common.{sym, ◌∙◌, arith}
use Rattle.text.specs.Reading.{line_answer}
use Rattle.play.specs.Laws.{event_played, event_refused, place_wrong, place_none}
use Rattle.play.proofs.play_events.Goals as goal

pub loop-i-preserved : goal.loop-i-preserved
unfolding line_answer
loop-i-preserved c =
    let so_far = c.loop-i.invariant in
    let done = c.in_default-play_event.ensures in
    record {
      same_room = done.same_room ∙ so_far.same_room;
      others = so_far.others ∙ event_played _ _ _ _ _ _ _ _ _ _ _ c.loop-i-test.true (sym c.in-Ok.ensures) done.played;
    }

pub returns-in-Err : goal.returns-in-Err
unfolding line_answer
returns-in-Err c =
    let so_far = c.loop-i.invariant in
    let done = c.in-Err.ensures in
    let line = rw c.into.ensures at c.put_refusal.ensures in
    record {
      same_room = line.same_room ∙ done.same_room ∙ so_far.same_room;
      played = so_far.others
          ∙ event_refused _ _ _ _ _ _ _ _ _ _ _ c.loop-i-test.true (sym c.in-Ok.ensures) _ _ done.played line.inked;
    }

pub returns-in_default : goal.returns-in_default
unfolding line_answer
returns-in_default c =
    let so_far = c.loop-i.invariant in
    record { same_room = so_far.same_room; played = so_far.others ∙ place_wrong _ _ _ _ _ _ _ _ _ (sym c.in_default.ensures) }

pub returns : goal.returns
returns c =
    let so_far = c.loop-i.invariant in
    record { same_room = so_far.same_room; played = so_far.others ∙ place_none _ _ _ _ _ _ _ (omega arith) }
