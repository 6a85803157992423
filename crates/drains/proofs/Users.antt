-- The user's nodes of a queue, counted: those whose use names it.
use Prim.Native.Nat.{ℕ, zero, suc, ◌≤◌, ◌<◌}
use mathlib.Core.Path.{◌≡◌, refl, sym, ◌∙◌}
use mathlib.Core.Bool.{Bool, true, false, cond}
use mathlib.Core.List.{List, [], ◌∷◌}
use native.Mathlib.Omega.{arith}
use lib.Dec.{eqb}
use lib.ListN.{length}
use borrow.Author.Tests.{eq-eqb, ne_eqb}
use Rattle.words.specs.declared.Sizes.{Sizes}
use Rattle.words.specs.declared.Queue.{Queue}
use Rattle.words.specs.declared.Word.TheVariants.{Use}
use Rattle.words.specs.Layout.{node, rd}
use Rattle.words.specs.Laws.{Bound, has_is}
use Rattle.lists.specs.Count.{Same, same, apart, same?, cnt, cnt_nil, cnt_cons, cnt_self}
use Rattle.lists.specs.Beginning.{without}
use Rattle.lists.proofs.Without.{cnt_without}
use Rattle.lists.proofs.Short.{length_without}
use Rattle.state.specs.View.{memory, state_of}
use Rattle.state.proofs.Seen.{look_rd}
use Rattle.invariant.specs.Sound.{own_in}
use Rattle.invariant.proofs.Own.{own_le}
use Rattle.demand.proofs.Apart.{own_use}
use Rattle.drains.specs.Naming.{named, naming}
use Rattle.drains.proofs.Empty.{cnt_less}

named_le : (s : Sizes) (t : List ℕ) (q : Queue) (n : ℕ) → named s t q n ≤ 1
unfolding named
named_le s t q n = by (eqb (rd s t (Use (node n))) q.0)
  where
    by : (b : Bool) → cond b 1 0 ≤ 1
    by true = omega arith
    by false = omega arith

pub naming_le : (s : Sizes) (t : List ℕ) (q : Queue) (n : ℕ) → naming s t q n ≤ n
unfolding naming
naming_le s t q zero = omega arith
naming_le s t q (suc n) = omega (arith, naming_le s t q n, named_le s t q (suc n))

module _ (s : Sizes) (t : List ℕ) (q : Queue) where
  abbrev owns : ℕ → ℕ
  owns y = own_in s q.0 (state_of s t) y

  one_named : (n : ℕ) → suc n ≤ s.nodes → s.queues < suc n → owns (suc n) ≡ 1 → named s t q (suc n) ≡ 1
  unfolding named Bound
  one_named n real user o =
      let use_is = own_use s.queues (memory s t).uses q.0 (suc n) user o in
      let word_is = look_rd s t (Use (node (suc n))) (has_is s (Use (node (suc n))) (omega arith)) in
      rw (eq-eqb (rd s t (Use (node (suc n)))) q.0 (sym word_is ∙ use_is))

  -- a list of the queue's nodes, each once, of the user's and up to n
  pub users_few : (n : ℕ) (xs : List ℕ) → n ≤ s.nodes → ((y : ℕ) → cnt y xs ≤ owns y) → ((y : ℕ) → 0 < cnt y xs → s.queues < y)
      → ((y : ℕ) → 0 < cnt y xs → y ≤ n) → length xs ≤ naming s t q n
  unfolding naming
  users_few zero [] real o u h = omega arith
  users_few zero (x ∷ xs) real o u h = absurd (omega (arith, h x (cnt_self x xs), u x (cnt_self x xs)))
  users_few (suc n) xs real o u h =
      let less : (y : ℕ) → cnt y (without (suc n) xs) ≤ cnt y xs = λ y. cnt_less y (suc n) xs in
      let fewer = users_few n (without (suc n) xs) (omega arith) (λ y. omega (arith, less y, o y)) (λ y z. u y (omega (arith, less y)))
      (λ y z. lower y z (eqb y (suc n)) (same? y (suc n)) (cnt_without y (suc n) xs)) in
      omega (arith, length_without (suc n) xs, last (cnt (suc n) xs) refl)
    where
      lower : (y : ℕ) → 0 < cnt y (without (suc n) xs) → (b : Bool) → Same y (suc n) b
          → cnt y (without (suc n) xs) ≡ cond b 0 (cnt y xs) → y ≤ n
      lower y z true (same w) e = absurd (omega arith)
      lower y z false (apart w) e = omega (arith, h y (omega arith))

      last : (m : ℕ) → cnt (suc n) xs ≡ m → m ≤ named s t q (suc n)
      last zero e = omega arith
      last (suc m) e =
          let some = o (suc n) in
          let one = own_le s.queues (memory s t).uses q.0 (suc n) in
          omega (arith, one_named n real (u (suc n) (omega arith)) (omega arith))

-- a list that holds each number once at most, and only where another holds it, is no longer
pub once_fewer : (ys xs : List ℕ) → ((z : ℕ) → cnt z xs ≤ 1) → ((z : ℕ) → cnt z xs ≤ cnt z ys) → length xs ≤ length ys
once_fewer [] [] once h = omega arith
once_fewer [] (x ∷ xs) once h = absurd (omega (arith, h x, cnt_nil x, cnt_self x xs))
once_fewer (y ∷ ys) xs once h =
    let fewer = once_fewer ys (without y xs) (λ z. omega (arith, cnt_less z y xs, once z))
    (λ z. part z (eqb z y) (same? z y) (cnt_without z y xs)) in
    omega (arith, length_without y xs, once y)
  where
    part : (z : ℕ) (b : Bool) → Same z y b → cnt z (without y xs) ≡ cond b 0 (cnt z xs) → cnt z (without y xs) ≤ cnt z ys
    part z true (same w) e = omega arith
    part z false (apart w) e = let other : cnt z (y ∷ ys) ≡ cnt z ys = rw (cnt_cons, ne_eqb z y w) (omega arith) in omega (arith, h z)
