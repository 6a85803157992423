-- Two results that the contract of `write_log` allows coincide: the answer, the room and the table.
use Rattle.std.specs.Prelude.{ℕ, ◌≡◌, List, Result}
use Rattle.std.proofs.Common.{sym, ◌∙◌, ap}
use Rattle.answers.specs.declared.Refusal.{Refusal}
use Rattle.answers.specs.Said.{Said, answer_says}
use Rattle.answers.specs.Once.{once, one_answer}

pub one_log : {x : (Said ℕ × List ℕ) × List ℕ} {a b : Result ℕ Refusal} {r r' t t' : List ℕ} → x ≡ ((answer_says a, r), t)
    → x ≡ ((answer_says b, r'), t') → (a ≡ b) × (r ≡ r') × (t ≡ t')
one_log p q =
    let h = once answer_says one_answer (ap (λ y. y.0) p) (ap (λ y. y.0) q) in (h.0, h.1, ap (λ y. y.1) (sym p ∙ q))
