-- Two results that a contract of the reader allows coincide.
use Rattle.std.specs.Prelude.{ℕ, ◌≡◌, List, Result}
use Rattle.std.proofs.Common.{sym, ◌∙◌}
use Rattle.std.specs.Borrow.{Bor}
use Rattle.text.specs.declared.Event.{Event}
use Rattle.text.specs.declared.BadLine.{BadLine}
use Rattle.text.specs.Reading.{event_reading, line_answer}
use Rattle.text.specs.Unique.{one_event}
use Rattle.reader.specs.declared.Reader.{Reader}

-- of `open`: a reader is its text and its place
pub one_reader : {text : Bor (List ℕ)} {place : ℕ} {r s : Reader} → (r.text ≡ text) × (r.place ≡ place)
    → (s.text ≡ text) × (s.place ≡ place) → r ≡ s
one_reader p q = let t = p.0 ∙ sym q.0 in let n = p.1 ∙ sym q.1 in λ i. record { text = t i; place = n i }

-- of `next_event` and `event_at`
pub one_next : (text : List ℕ) (place : ℕ) {d e : Result (Event × ℕ) BadLine} → line_answer d ≡ event_reading text place
    → line_answer e ≡ event_reading text place → d ≡ e
one_next text place p q = one_event p q
