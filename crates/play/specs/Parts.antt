-- What the parts of the performing promise each other.
use Rattle.std.specs.Prelude.{ℕ, zero, suc, ◌≡◌, List, []}
use Rattle.answers.specs.declared.End.{End}
use Rattle.text.specs.declared.Event.{Event}
use Rattle.text.specs.Answer.{Answer, gives, refuses}
use Rattle.text.specs.Reading.{event_reading}
use Rattle.loglines.specs.declared.Sheet.{Sheet}
use Rattle.loglines.specs.Ink.{Page, page, ink}
use Rattle.play.specs.Play.{event_of, follow}

-- what is written, and what came of it
abbrev pub into : {A : Type 0} → Page → List ℕ × A → Page × A
into x p = (ink x p.0, p.1)

-- the sheet q is p after the lines of x, in the same room; a came of it
pub record Plays {A : Type 0} (p q : Sheet) (x : List ℕ × A) (a : A) : Type 0 where
  pub same_room : q.room.ghost_name ≡ p.room.ghost_name
  pub played : into (page p) x ≡ (page q, a)

module _ (line : End → List ℕ) where
  abbrev pub read_then : ℕ → (ℕ → List ℕ → List ℕ × List ℕ) → List ℕ → Answer (Event × ℕ) → List ℕ × List ℕ
  read_then i others t (gives e) = follow i (others e.1) (event_of line e.0 t)
  read_then i others t (refuses number values) = ([], t)

  -- so many events of the text from a place on, the first of them counted i
  unfoldable pub at_place : ℕ → ℕ → List ℕ → ℕ → List ℕ → List ℕ × List ℕ
  at_place zero i text place t = ([], t)
  at_place (suc k) i text place t = read_then i (at_place k (suc i) text) t (event_reading text place)
