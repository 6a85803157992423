-- Two results that an export's contract allows coincide: the number that it answers, the room, and what is told.
use Rattle.std.specs.Prelude.{ℕ, ◌≡◌}
use Rattle.answers.specs.Once.{once}

-- of `exports_count_schedules`, and with the room beside what is told `exports_try_schedules`
pub one_reply : {B : Type 0} {x : ℕ × B} {r s : ℕ} {t u : B} → x ≡ (r, t) → x ≡ (s, u) → (r ≡ s) × (t ≡ u)
one_reply p q = once (λ r. r) (λ _ _ e. e) p q
