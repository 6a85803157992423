-- Two results that an export's contract allows coincide: the number that it answers, and every word that it was lent.
use Rattle.std.specs.Prelude.{ℕ, ◌≡◌}
use Rattle.answers.specs.Once.{once, once_read}

-- of `exports_fresh`, `exports_begin_enqueue`, `exports_begin_dequeue`, `exports_listing`, `exports_waiting`, and with the end's words
-- beside the table `exports_step` and `exports_run`
pub one_reply : {B : Type 0} {x : ℕ × B} {r s : ℕ} {t u : B} → x ≡ (r, t) → x ≡ (s, u) → (r ≡ s) × (t ≡ u)
one_reply p q = once (λ r. r) (λ _ _ e. e) p q

-- of `exports_quiet`, which only reads
pub one_number : {x r s : ℕ} → x ≡ r → x ≡ s → r ≡ s
one_number p q = once_read (λ r. r) (λ _ _ e. e) p q
