-- Two results that a contract of reading allows coincide.
use Rattle.std.specs.Prelude.{ℕ, ◌≡◌, refl, List, [], ◌∷◌, Result, Ok, Err}
use Rattle.std.proofs.Common.{sym, ap, ◌∙◌}
use Rattle.text.specs.declared.Opening.{Opening}
use Rattle.text.specs.declared.Event.{Event}
use Rattle.text.specs.declared.BadLine.{BadLine}
use Rattle.text.specs.Answer.{Answer, gives, refuses}
use Rattle.text.specs.Reading.{line_answer}

-- where the number and values of an answer say which of its cases it is
pub coincide : {A B : Type 0} (f : A → B) (back : B → A) → ((a : A) → back (f a) ≡ a) → {x : B} {r s : A} → f r ≡ x → f s ≡ x → r ≡ s
coincide f back same {x} {r} {s} p q = sym (same r) ∙ ap back (p ∙ sym q) ∙ same s

-- the first value of a refusal
first : List ℕ → ℕ
first [] = 0
first (v ∷ vs) = v

line_back : {A : Type 0} → Answer A → Result A BadLine
line_back (gives x) = Ok x
line_back (refuses n vs) = Err (record { 0 = first vs })

pub one_line : {A : Type 0} {x : Answer A} {r s : Result A BadLine} → line_answer r ≡ x → line_answer s ≡ x → r ≡ s
unfolding line_answer line_back first
one_line {A} = coincide line_answer line_back back
  where
    back : (r : Result A BadLine) → line_back (line_answer r) ≡ r
    back (Ok x) = refl
    back (Err bad) = refl

pub one_sizes : {x : Answer (Opening × ℕ)} {r s : Result (Opening × ℕ) BadLine} → line_answer r ≡ x → line_answer s ≡ x → r ≡ s
one_sizes = one_line

pub one_event : {x : Answer (Event × ℕ)} {r s : Result (Event × ℕ) BadLine} → line_answer r ≡ x → line_answer s ≡ x → r ≡ s
one_event = one_line

pub one_end : {x : Answer (Unit {0})} {r s : Result (Unit {0}) BadLine} → line_answer r ≡ x → line_answer s ≡ x → r ≡ s
one_end = one_line
