-- One meaning, one text.
use Rattle.std.specs.Prelude.{◌≡◌, ℕ, List}
use Rattle.std.proofs.Common.{sym, ◌∙◌}
use Rattle.text.specs.declared.Opening.{Opening}
use Rattle.text.specs.declared.Event.{Event}
use Rattle.text.specs.Text.{text_of}
use Rattle.text.specs.Answer.{Answer, gives}
use Rattle.schedule.specs.Whole.{schedule_reading}
use Rattle.schedule.specs.Meaning.{Writable}
use Rattle.schedule.specs.Readings.{schedule_answers}
use Rattle.schedule.specs.Writings.{schedule_reads}

-- what is written reads back
pub reads_back : (o : Opening) (es : List Event) → Writable o es → schedule_reading (text_of o es) ≡ gives (o, es)
reads_back o es w = schedule_reads o es w

-- a text that reads to a meaning is the text that is written for it, and it can be written
pub is_written : (text : List ℕ) (o : Opening) (es : List Event) → schedule_reading text ≡ gives (o, es)
    → (text ≡ text_of o es) × Writable o es
is_written text o es h = let w = schedule_answers text o es h in (w.is, w.writable)

-- no two texts have one meaning, and no two schedules one text
pub one_text : (s t : List ℕ) (o : Opening) (es : List Event) → schedule_reading s ≡ gives (o, es) → schedule_reading t ≡ gives (o, es) → s ≡ t
one_text s t o es p q = (is_written s o es p).0 ∙ sym (is_written t o es q).0

pub one_meaning : (o p : Opening) (es fs : List Event) → Writable o es → Writable p fs → text_of o es ≡ text_of p fs
    → ◌≡◌ {A = Answer (Opening × List Event)} (gives (o, es)) (gives (p, fs))
one_meaning o p es fs v w e = sym (reads_back o es v) ∙ rw e (reads_back p fs w)
