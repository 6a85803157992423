-- What a log shows of ended operations is within the bounds, for every schedule. A log's lines are made by a function of the end; one that
-- says something else of an end that is not within its bounds makes the same log, so no such end is shown.
use Rattle.std.specs.Prelude.{ℕ, ◌≡◌, List}
use Rattle.words.specs.declared.Sizes.{Sizes}
use Rattle.answers.specs.declared.End.{End}
use Rattle.answers.specs.Said.{says}
use Rattle.text.specs.declared.Event.{Event}
use Rattle.fresh.specs.Fresh.{fresh_of}
use Rattle.play.specs.Play.{events_of}
use Rattle.limits.specs.Limits.{InBounds}

module _ (s : Sizes) (lent t : List ℕ) (i : ℕ) (es : List Event) where
  abbrev pub ShownWithin : Type 0
  ShownWithin =
      fresh_of s lent ≡ (says tt, t) → (line other : End → List ℕ) → ((e : End) → InBounds s.nodes e → line e ≡ other e)
      → events_of line i es t ≡ events_of other i es t
