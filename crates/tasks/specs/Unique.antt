-- Two results that the contract of `read_task` allows coincide, the words with them.
use Rattle.std.specs.Prelude.{ℕ, ◌≡◌, refl, List, [], ◌∷◌, Result, Ok, Err}
use Rattle.std.proofs.Common.{sym, ap, ◌∙◌}
use Rattle.text.specs.declared.Opening.{Opening}
use Rattle.text.specs.Answer.{Answer, gives, refuses}
use Rattle.text.specs.Unique.{coincide}
use Rattle.tasks.specs.declared.TaskError.{TaskError}
use Rattle.tasks.specs.declared.TaskError.TheVariants.{Line, TooMany}
use Rattle.tasks.specs.Tasks.{task_says, task_of}

back : Answer Opening → Result Opening TaskError
back (gives o) = Ok o
back (refuses n []) = Err TooMany
back (refuses n (line ∷ vs)) = Err (Line (record { 0 = line }))

one_answer : {x : Answer Opening} {r s : Result Opening TaskError} → task_says r ≡ x → task_says s ≡ x → r ≡ s
unfolding task_says back
one_answer = coincide task_says back same
  where
    same : (r : Result Opening TaskError) → back (task_says r) ≡ r
    same (Ok o) = refl
    same (Err (Line bad)) = refl
    same (Err TooMany) = refl

pub one_task : (text ops : List ℕ) {r s : Result Opening TaskError} {a b : List ℕ} → task_of text ops ≡ (task_says r, a) → task_of text ops ≡ (task_says s, b)
    → (r ≡ s) × (a ≡ b)
one_task text ops {r} {s} {a} {b} p q =
    let e : ◌≡◌ {A = Answer Opening × List ℕ} (task_says r, a) (task_says s, b) = sym p ∙ q in
    (one_answer (ap (λ (u : Answer Opening × List ℕ). u.0) e) refl, ap (λ (u : Answer Opening × List ℕ). u.1) e)
