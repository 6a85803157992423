-- What the parts of the log promise each other.
use Rattle.std.specs.Prelude.{ℕ, List}
use Rattle.answers.specs.Said.{Said, refused, says}
use Rattle.text.specs.declared.Opening.{Opening}
use Rattle.loglines.specs.Lines.{sizes_line}
use Rattle.play.specs.Parts.{at_place}
use Rattle.logs.specs.declared.Kind.{Kind}
use Rattle.logs.specs.Log.{with_queues, line_in}

-- the log from the fresh table on, the events read from a place of the text
unfoldable pub placed_log : Kind → Opening → List ℕ → ℕ → Said Unit × List ℕ → List ℕ × List ℕ
placed_log kind o text place (refused r, t) = (sizes_line, t)
placed_log kind o text place (says _, t) = with_queues o (at_place (line_in kind o) o.events 1 text place t)
