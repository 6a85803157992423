-- Two results that the contracts allow coincide, the room or the tallies afterwards with them.
use Rattle.std.specs.Prelude.{ℕ, ◌≡◌, refl, Bool, List, Result, Ok, Err}
use Rattle.std.proofs.Common.{sym, ap, ◌∙◌}
use Rattle.answers.specs.declared.Refusal.{Refusal}
use Rattle.answers.specs.Once.{once, once_read, one_answer}
use Rattle.answers.specs.Said.{Said, answer_says}
use Rattle.tries.specs.declared.Tried.{Tried}
use Rattle.tries.specs.Tries.{Answer, tried_says, number_says}

-- what is told of a list, as a call that answers it
told : Result Tried Refusal → Result (ℕ × (ℕ × Bool)) Refusal
told (Ok x) = Ok (x.count, (x.bytes, x.more))
told (Err r) = Err r

listed : Result (ℕ × (ℕ × Bool)) Refusal → Result Tried Refusal
listed (Ok (n, (bytes, more))) = Ok (record { count = n; bytes = bytes; more = more })
listed (Err r) = Err r

told_says : (a : Result Tried Refusal) → answer_says (told a) ≡ tried_says a
unfolding told
told_says (Ok x) = refl
told_says (Err r) = refl

back : (a : Result Tried Refusal) → listed (told a) ≡ a
unfolding told listed
back (Ok x) = refl
back (Err r) = refl

one_said : (a b : Result Tried Refusal) → tried_says a ≡ tried_says b → a ≡ b
one_said a b e =
    let same = one_answer (told a) (told b) (told_says a ∙ e ∙ sym (told_says b)) in
    sym (back a) ∙ ap listed same ∙ back b

pub one_try : {x : Answer} {a b : Result Tried Refusal} {t u : List ℕ} → x ≡ (tried_says a, t) → x ≡ (tried_says b, u)
    → (a ≡ b) × (t ≡ u)
one_try p q = once tried_says one_said p q

pub one_number : {x : Said ℕ} {a b : Result ℕ Refusal} → x ≡ number_says a → x ≡ number_says b → a ≡ b
one_number p q = once_read number_says one_answer p q

pub one_tally : {x : Said ℕ × List ℕ} {a b : Result ℕ Refusal} {t u : List ℕ} → x ≡ (number_says a, t) → x ≡ (number_says b, u)
    → (a ≡ b) × (t ≡ u)
one_tally p q = once number_says one_answer p q
