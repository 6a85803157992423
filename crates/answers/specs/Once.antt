-- An answer says one thing only: two answers that say the same are the same. A contract is one equation between what the
-- definition gives and what is said, with every lent word afterwards; so two results that it allows coincide.
use Rattle.std.specs.Prelude.{ℕ, ◌≡◌, Option, Some, None, Result, Ok, Err, cond, eqb}
use Rattle.std.proofs.Common.{refl, sym, ◌∙◌, ap}
use Rattle.answers.specs.declared.End.{End}
use Rattle.answers.specs.declared.Ran.{Ran}
use Rattle.answers.specs.declared.Why.{Why}
use Rattle.answers.specs.declared.Why.TheVariants as why
use Rattle.answers.specs.declared.Refusal.{Refusal}
use Rattle.answers.specs.declared.Refusal.TheVariants as refusal
use Rattle.answers.specs.Said.{Said, number, refusal_number, answer_says, step_says, why_says, run_says}

-- of a call that only reads, whatever it answers
pub once_read : {A S : Type 0} (say : A → S) → ((a b : A) → say a ≡ say b → a ≡ b) → {x : S} {a b : A} → x ≡ say a → x ≡ say b → a ≡ b
once_read say one {a = a} {b = b} p q = one a b (sym p ∙ q)

-- of a call that changes what it is lent, whatever that is
pub once : {A S B : Type 0} (say : A → S) → ((a b : A) → say a ≡ say b → a ≡ b) → {x : S × B} {a b : A} {t u : B}
    → x ≡ (say a, t) → x ≡ (say b, u) → (a ≡ b) × (t ≡ u)
once say one p q = (once_read say one (ap (λ y. y.0) p) (ap (λ y. y.0) q), ap (λ y. y.1) (sym p ∙ q))

-- ---- the refusal that has a number

named : ℕ → Option Refusal
named n =
    cond (eqb n 1) (Some refusal.Table) (
    cond (eqb n 2) (Some refusal.Sizes) (
    cond (eqb n 3) (Some refusal.Level) (
    cond (eqb n 4) (Some refusal.Queue) (
    cond (eqb n 5) (Some refusal.Node) (
    cond (eqb n 6) (Some refusal.Busy) (
    cond (eqb n 7) (Some refusal.InUse) (
    cond (eqb n 8) (Some refusal.Dequeued) (
    cond (eqb n 9) (Some refusal.Idle) (
    cond (eqb n 10) (Some refusal.Damaged) (
    cond (eqb n 11) (Some refusal.Unquiet) (
    cond (eqb n 12) (Some refusal.Room) (
    cond (eqb n 14) (Some refusal.Many) None))))))))))))

named_number : (r : Refusal) → named (number r) ≡ Some r
unfolding named
named_number refusal.Table = refl
named_number refusal.Sizes = refl
named_number refusal.Level = refl
named_number refusal.Queue = refl
named_number refusal.Node = refl
named_number refusal.Busy = refl
named_number refusal.InUse = refl
named_number refusal.Dequeued = refl
named_number refusal.Idle = refl
named_number refusal.Damaged = refl
named_number refusal.Unquiet = refl
named_number refusal.Room = refl
named_number refusal.Many = refl

pub one_refusal : (a b : Refusal) → number a ≡ number b → a ≡ b
one_refusal a b e =
    let same : Some a ≡ Some b = sym (named_number a) ∙ ap named e ∙ named_number b in
    cc

-- ---- the answers

pub one_answer : {A : Type 0} (a b : Result A Refusal) → answer_says a ≡ answer_says b → a ≡ b
one_answer (Ok x) (Ok y) e = cc
one_answer (Ok x) (Err r) e = cc
one_answer (Err r) (Ok y) e = cc
one_answer (Err r) (Err q) e = let n : number r ≡ number q = cc in ap (λ z. Err z) (one_refusal r q n)

-- of `quiet` and `waiting`, which only read
pub one_read : {A : Type 0} {x : Said A} {a b : Result A Refusal} → x ≡ answer_says a → x ≡ answer_says b → a ≡ b
one_read p q = once_read answer_says one_answer p q

-- of what may be refused, by the refusal's number, 0 for none
one_refused : (a b : Result Unit Refusal) → refusal_number a ≡ refusal_number b → a ≡ b
unfolding named
one_refused (Ok x) (Ok y) e = refl
one_refused (Ok x) (Err r) e = let none : None ≡ Some r = ap named e ∙ named_number r in cc
one_refused (Err r) (Ok y) e = let none : Some r ≡ None = sym (named_number r) ∙ ap named e in cc
one_refused (Err r) (Err q) e = ap (λ z. Err z) (one_refusal r q e)

pub one_why : {n : ℕ} {a b : Result Unit Refusal} → refusal_number a ≡ n → refusal_number b ≡ n → a ≡ b
one_why p q = one_refused _ _ (p ∙ sym q)

pub one_step : (a b : Result (Option End) Refusal) → step_says a ≡ step_says b → a ≡ b
one_step (Ok None) (Ok None) e = refl
one_step (Ok None) (Ok (Some y)) e = cc
one_step (Ok (Some x)) (Ok None) e = cc
one_step (Ok (Some x)) (Ok (Some y)) e = cc
one_step (Ok None) (Err r) e = cc
one_step (Ok (Some x)) (Err r) e = cc
one_step (Err r) (Ok None) e = cc
one_step (Err r) (Ok (Some y)) e = cc
one_step (Err r) (Err q) e = let n : number r ≡ number q = cc in ap (λ z. Err z) (one_refusal r q n)

pub one_run : (a b : Result Ran Refusal) → run_says a ≡ run_says b → a ≡ b
one_run (Ok x) (Ok y) e =
    let steps : x.steps ≡ y.steps = cc in
    let whys : why_says x.why ≡ why_says y.why = cc in
    ap (λ s. Ok (record { steps = s; why = x.why })) steps
    ∙ ap (λ w. Ok (record { steps = y.steps; why = w })) (by x.why y.why whys)
  where
    by : (a b : Why) → why_says a ≡ why_says b → a ≡ b
    by (why.Ended a) = elim [ why.Ended b ↦ λ e. cc | why.Spent ↦ λ e. cc | why.Idle ↦ λ e. cc | why.Damaged ↦ λ e. cc ]
    by why.Spent = elim [ why.Ended b ↦ λ e. cc | why.Spent ↦ λ e. cc | why.Idle ↦ λ e. cc | why.Damaged ↦ λ e. cc ]
    by why.Idle = elim [ why.Ended b ↦ λ e. cc | why.Spent ↦ λ e. cc | why.Idle ↦ λ e. cc | why.Damaged ↦ λ e. cc ]
    by why.Damaged = elim [ why.Ended b ↦ λ e. cc | why.Spent ↦ λ e. cc | why.Idle ↦ λ e. cc | why.Damaged ↦ λ e. cc ]
one_run (Ok x) (Err r) e = cc
one_run (Err r) (Ok y) e = cc
one_run (Err r) (Err q) e = let n : number r ≡ number q = cc in ap (λ z. Err z) (one_refusal r q n)
