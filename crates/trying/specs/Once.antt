-- Two results that the contract of `write_answer` allows coincide: the answer and the room.
use Rattle.std.specs.Prelude.{ℕ, ◌≡◌, refl, Bool, List, Result, Ok, Err}
use Rattle.std.proofs.Common.{sym, ap, ◌∙◌}
use Rattle.answers.specs.Said.{Said, refused, says}
use Rattle.answers.specs.Once.{once}
use Rattle.trying.specs.declared.Answer.{Answer}
use Rattle.trying.specs.declared.NoRoom.{NoRoom}
use Rattle.trying.specs.Trying.{Told, answer_says}

back : Said (ℕ × Bool) → Result Answer NoRoom
back (says x) = Ok (record { bytes = x.0; more = x.1 })
back (refused r) = Err (record {})

same : (a : Result Answer NoRoom) → back (answer_says a) ≡ a
unfolding back
same (Ok a) = refl
same (Err e) = refl

one_answer : (a b : Result Answer NoRoom) → answer_says a ≡ answer_says b → a ≡ b
one_answer a b e = sym (same a) ∙ ap back e ∙ same b

pub one_told : {x : Told} {a b : Result Answer NoRoom} {r s : List ℕ} → x ≡ (answer_says a, r) → x ≡ (answer_says b, s) → (a ≡ b) × (r ≡ s)
one_told p q = once answer_says one_answer p q
