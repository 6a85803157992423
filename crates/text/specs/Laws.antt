-- What the proofs of reading cite.
use Rattle.std.specs.Prelude.{ℕ, ◌+◌, ◌-◌, ◌≤◌, ◌<◌, ◌≡◌, refl, List, [], ◌∷◌, ◌++◌, Bool, true, false, ◌&&◌, ◌||◌, length, get_or, take, drop, eqb, leb, ltb, count_by, ◌==◌, cond, None}
use Rattle.std.proofs.Common.{ap, ◌∙◌, arith, add-one, take-suc, take_all, get_or-drop, length-drop, ltb-true, ltb-false, ne_eqb, zero-add}
use Rattle.std.proofs.lemmas.Bool.{false≢true}
use Rattle.std.proofs.lemmas.Bool.Decides.{nat_tests}
use Rattle.std.proofs.lemmas.List.Recursion.{is_count_by}
use Rattle.std.proofs.Math.ListN.{get_or-eq_default}
use Rattle.heads.specs.Heads.{begins, stands_at}
use Rattle.text.specs.Answer.{Answer, gives, refuses, onto}
use Rattle.text.specs.Text.{lf, space, longest}
use Rattle.text.specs.Reading.{lfs, line_starts, event_in, enqueue_in, dequeue_in, steps_in}

lfs_append : (s t : List ℕ) → lfs (s ++ t) ≡ lfs s + lfs t
unfolding lfs
lfs_append [] t = omega arith
lfs_append (b ∷ s) t = let ih = lfs_append s t in omega arith

pub lfs_more : (text : List ℕ) (i : ℕ) → i < length text → lfs (take (i + 1) text) ≡ lfs (take i text) + lfs (get_or text i 0 ∷ [])
lfs_more text i h = rw (add-one, take-suc text i 0) (lfs_append (take i text) (get_or text i 0 ∷ []))

-- the same, counted
pub lfs_count : (text : List ℕ) → lfs text ≡ count_by (λ b. b == lf) text
unfolding lfs
lfs_count = is_count_by lfs (λ b. b == lf) refl (λ b s. one (b == lf) (lfs s))
  where
    one : (t : Bool) (n : ℕ) → cond t 1 0 + n ≡ cond t (1 + n) n
    one true n = refl
    one false n = zero-add n

pub lfs_past : (text : List ℕ) (i j : ℕ) → length text ≤ i → i ≤ j → lfs (take i text) ≡ lfs (take j text)
lfs_past text i j h k = let p : length text ≤ j = omega arith in simp (take_all i text h, take_all j text p)

-- a line that starts past the text's first byte starts after an LF, and there is none past the end
pub past_end : (text : List ℕ) (place : ℕ) → length text < place → eqb (get_or text (place - 1) 0) lf ≡ false
past_end text place h =
    let e : get_or text (place - 1) 0 ≡ 0 = get_or-eq_default text 0 {n = place - 1} (omega arith) in rw e

pub starts_in : (text : List ℕ) (place : ℕ) → line_starts text place ≡ true → place ≤ length text
unfolding line_starts
starts_in text place e = by (leb (length text) longest) (ltb (length text) place) refl e
  where
    by : (s t : Bool) → ltb (length text) place ≡ t → (s && (eqb place 0 || eqb (get_or text (place - 1) 0) lf)) ≡ true → place ≤ length text
    by s false f g = ltb-false (length text) place f
    by true true f g =
        let h = ltb-true (length text) place f in
        let n : eqb place 0 ≡ false = ne_eqb place 0 (omega arith) in
        let z : ◌≡◌ {A = Bool} false true = (rw (n, past_end text place h) at g) in absurd (false≢true z)
    by false true f g = absurd (false≢true g)

-- a word of two bytes stands at a place
two_begin : (a b : ℕ) (s : List ℕ) → begins (a ∷ b ∷ []) s ≡ (leb 2 (length s) && (eqb (get_or s 0 0) a && eqb (get_or s 1 0) b))
unfolding begins
two_begin a b [] = refl
two_begin a b (x ∷ []) = grind (arith, nat_tests)
two_begin a b (x ∷ (y ∷ s)) = grind (arith, nat_tests)

-- the same of the text's bytes
abbrev pub two : ℕ → List ℕ → ℕ → Bool
two a text place = leb (place + 2) (length text) && (eqb (get_or text place 0) a && eqb (get_or text (place + 1) 0) space)

two_stand : (a : ℕ) (text : List ℕ) (place : ℕ) → stands_at (a ∷ space ∷ []) text place ≡ two a text place
unfolding stands_at
two_stand a text place =
    two_begin a space (drop place text) ∙ rw (get_or-drop, get_or-drop, length-drop) (grind (arith, nat_tests))

-- the event at a place, by the two bytes there
pub event_told : (text : List ℕ) (place : ℕ) → event_in text place
    ≡ cond (two 69 text place) (enqueue_in text (place + 2))
    (cond (two 68 text place) (dequeue_in text (place + 2)) (cond (two 83 text place) (steps_in text (place + 2)) None))
unfolding event_in
event_told text place = rw (two_stand 69 text place, two_stand 68 text place, two_stand 83 text place)

pub ruleset starts = (nat_tests, past_end, starts_in)

-- answers, one after the other
pub onto_onto : {A B C : Type 0} (a : Answer A) (f : A → Answer B) (g : B → Answer C) → onto (onto a f) g ≡ onto a (λ x. onto (f x) g)
onto_onto (gives a) f g = refl
onto_onto (refuses n v) f g = refl

pub onto_is : {A B : Type 0} (a : Answer A) (f : A → Answer B) (b : B) → onto a f ≡ gives b → (x : A) × (a ≡ gives x) × (f x ≡ gives b)
onto_is (gives x) f b e = (x, refl, e)
onto_is (refuses n v) f b e = cc

pub given_is : {A B : Type 0} (a c : A) (b d : B) → ◌≡◌ {A = Answer (A × B)} (gives (a, b)) (gives (c, d)) → (a ≡ c) × (b ≡ d)
given_is {A} {B} a c b d e =
    let x : ◌≡◌ {A = A × B} (a, b) (c, d) = cc in (ap (λ (u : A × B). u.0) x, ap (λ (u : A × B). u.1) x)
