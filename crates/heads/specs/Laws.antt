-- What the proofs over fixed words cite.
use Rattle.std.specs.Prelude.{ℕ, suc, ◌+◌, ◌≤◌, ◌<◌, ◌≡◌, refl, List, [], ◌∷◌, ◌++◌, Bool, true, false, ◌&&◌, length, drop, get_or, set, eqb}
use Rattle.std.proofs.Common.{sym, ap, ◌∙◌, arith, add-suc, add-zero, suc-add, add-one, length-append, drop_of_length-le, drop-cons, drop-drop, eq-eqb, eqb-true}
use Rattle.std.proofs.lemmas.List.Edits.{sets}
use Rattle.heads.specs.Heads.{begins, stands_at}
use Rattle.heads.specs.Put.{Put, Putting}

-- one byte of a word more
pub begins_more : (h s : List ℕ) (i at : ℕ) → i < length h → at < length s
    → begins (drop i h) (drop at s) ≡ (eqb (get_or s at 0) (get_or h i 0) && begins (drop (i + 1) h) (drop (at + 1) s))
unfolding begins
begins_more h s i at p q = simp (drop-cons h i 0 p, drop-cons s at 0 q, add-one)

pub begins_short : (h s : List ℕ) (i at : ℕ) → i < length h → length s ≤ at → begins (drop i h) (drop at s) ≡ false
unfolding begins
begins_short h s i at p q = rw (drop-cons h i 0, drop_of_length-le s {i = at} q)

pub begins_all : (h s : List ℕ) (i : ℕ) → length h ≤ i → begins (drop i h) s ≡ true
unfolding begins
begins_all h s i p = rw (drop_of_length-le h {i = i} p)

pub sets_more : (r h : List ℕ) (p i : ℕ) → i < length h → sets r (p + i) (drop i h) ≡ sets (set r (p + i) (get_or h i 0)) (p + (i + 1)) (drop (i + 1) h)
sets_more r h p i q =
    let e : suc (p + i) ≡ p + (i + 1) = omega arith in
    ap (λ (l : List ℕ). sets r (p + i) l) (drop-cons h i 0 q)
    ∙ ap (λ (k : ℕ). sets (set r (p + i) (get_or h i 0)) k (drop (suc i) h)) e
    ∙ rw add-one

pub sets_all : (r h : List ℕ) (p i : ℕ) → length h ≤ i → sets r p (drop i h) ≡ r
sets_all r h p i q = rw (drop_of_length-le h {i = i} q)

-- what begins with a word is the word and the rest
begins_is : (h s : List ℕ) → begins h s ≡ true → s ≡ h ++ drop (length h) s
unfolding begins
begins_is [] s e = refl
begins_is (h ∷ hs) [] e = cc
begins_is (h ∷ hs) (b ∷ s) e = by (eqb b h) refl e (begins_is hs s)
  where
    by : (t : Bool) → eqb b h ≡ t → (t && begins hs s) ≡ true → (begins hs s ≡ true → s ≡ hs ++ drop (length hs) s)
        → b ∷ s ≡ h ∷ (hs ++ drop (length hs) s)
    by true f g ih = let x = eqb-true b h f in let y = ih g in cc
    by false f g ih = cc

begins_own : (h s : List ℕ) → begins h (h ++ s) ≡ true
unfolding begins
begins_own [] s = refl
begins_own (h ∷ hs) s = simp (eq-eqb h h refl, begins_own hs s)

pub stands_is : (h text : List ℕ) (at : ℕ) → stands_at h text at ≡ true → drop at text ≡ h ++ drop (at + length h) text
unfolding stands_at
stands_is h text at e = begins_is h (drop at text) e ∙ rw drop-drop

pub stands_own : (h text s : List ℕ) (at : ℕ) → drop at text ≡ h ++ s → stands_at h text at ≡ true
unfolding stands_at
stands_own h text s at e = rw e (begins_own h s)

-- a run of stores, and then another
pub sets_append : (r : List ℕ) (p : ℕ) (xs ys : List ℕ) → sets r p (xs ++ ys) ≡ sets (sets r p xs) (p + length xs) ys
sets_append r p [] ys = rw add-zero
sets_append r p (x ∷ xs) ys = rw (add-suc, ← suc-add) (sets_append (set r p x) (suc p) xs ys)

-- a part that is written after a part: both of them are
pub put_after : {p q : ℕ} {r s t : List ℕ} {place : ℕ} {xs ys : List ℕ} → Put p s r place xs → Put q t s p ys → Put q t r place (xs ++ ys)
put_after {r} {place} {xs} {ys} a b =
    record {
      next = omega (arith, a.next, b.next, length-append xs ys);
      is = b.is ∙ rw (a.is, a.next) (sym (sets_append r place xs ys));
    }

pub putting_starts : (place : ℕ) (before xs : List ℕ) → Putting place before before place xs xs
putting_starts place before xs = record { next = refl; is = refl }

pub putting_goes_on : {p q : ℕ} {r s t : List ℕ} {place : ℕ} {all xs ys rest : List ℕ} → rest ≡ xs ++ ys → Putting p s r place all rest
    → Put q t s p xs → Putting q t r place all ys
putting_goes_on {p} {s} {xs} {ys} e a b =
    let c = a.next in
    record {
      next = omega (arith, b.next, length-append xs ys, ap length e, c);
      is = rw (b.is, b.next) (sym (sets_append s p xs ys) ∙ rw (← e) a.is);
    }

pub putting_ends : {p : ℕ} {r s : List ℕ} {place : ℕ} {all rest : List ℕ} → rest ≡ [] → Putting p s r place all rest → Put p s r place all
putting_ends e a = let b = rw e at a in record { next = omega (arith, b.next); is = b.is }
