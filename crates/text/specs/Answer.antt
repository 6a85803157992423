-- What a call answers: what it gives, or a refusal's number with the values that it returns.
use Rattle.std.specs.Prelude.{ℕ, List}

pub data Answer (A : Type 0) : Type 0 where
  gives : A → Answer A
  refuses : ℕ → List ℕ → Answer A

-- an answer, and what is answered next with what it gives
abbrev pub onto : {A B : Type 0} → Answer A → (A → Answer B) → Answer B
onto (gives a) f = f a
onto (refuses number values) f = refuses number values
