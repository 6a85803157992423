-- One meaning, one text: of schedules that are given as words.
use Rattle.std.specs.Prelude.{◌≡◌, ℕ, List}
use Rattle.std.proofs.Common.{sym, ◌∙◌}
use Rattle.text.specs.declared.Opening.{Opening}
use Rattle.text.specs.declared.Event.{Event}
use Rattle.text.specs.Answer.{gives}
use Rattle.schedule.specs.Whole.{schedule_reading}
use Rattle.schedule.specs.OneMeaning.{reads_back, is_written}
use Rattle.writing.specs.Writing.{words_of, schedule_in, text_in}
use Rattle.writing.specs.Meanings.{all_small, stands, words_stand}

-- the text that is written for words reads back to the sizes and events that they say
pub written_reads_back : (words text : List ℕ) → all_small words → text_in words ≡ gives text → schedule_reading text ≡ schedule_in words
written_reads_back words text s h =
    let w = stands words text s h in rw w.is (reads_back w.opening w.events w.writable ∙ sym w.meant)

-- a text that reads to a meaning is the text that is written for it, byte for byte
pub read_writes_back : (text : List ℕ) (o : Opening) (es : List Event) → schedule_reading text ≡ gives (o, es)
    → text_in (words_of o es) ≡ gives text
read_writes_back text o es h = let w = is_written text o es h in rw w.0 (words_stand o es w.1)
