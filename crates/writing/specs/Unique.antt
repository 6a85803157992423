-- Two results that the contract of the writing allows coincide, the room afterwards with them.
use Rattle.std.specs.Prelude.{ℕ, ◌≡◌, refl, List, [], ◌∷◌, Result, Ok, Err}
use Rattle.std.proofs.Common.{sym, ap, ◌∙◌}
use Rattle.text.specs.Answer.{Answer, gives, refuses}
use Rattle.text.specs.Unique.{coincide}
use Rattle.writing.specs.declared.WriteError.{WriteError}
use Rattle.writing.specs.declared.WriteError.TheVariants.{Line, NoRoom}
use Rattle.writing.specs.Writing.{written_answer}

written_back : Answer ℕ → Result ℕ WriteError
written_back (gives n) = Ok n
written_back (refuses number []) = Err NoRoom
written_back (refuses number (line ∷ vs)) = Err (Line (record { 0 = line }))

pub one_writing : {x : Answer ℕ × List ℕ} {r s : Result ℕ WriteError} {a b : List ℕ} → x ≡ (written_answer r, a) → x ≡ (written_answer s, b)
    → (r ≡ s) × (a ≡ b)
unfolding written_answer written_back
one_writing p q = (
  coincide written_answer written_back back (ap (λ (y : Answer ℕ × List ℕ). y.0) (sym p ∙ q)) refl,
  ap (λ (y : Answer ℕ × List ℕ). y.1) (sym p ∙ q),
)
  where
    back : (r : Result ℕ WriteError) → written_back (written_answer r) ≡ r
    back (Ok n) = refl
    back (Err (Line bad)) = refl
    back (Err NoRoom) = refl
