-- What the loops of the calls keep: how many nodes a chain has yet to give, and where they go.
use Prim.Native.Nat.{ℕ, zero, suc, ◌+◌, ◌-◌, ◌≤◌, ◌<◌}
use Rattle.std.specs.Prelude.{◌≡◌, ◌≢◌, List, [], ◌∷◌, Bool, cond, length, set, ltb, eqb, Option, None, Some}
use Rattle.std.proofs.Math.Path.{refl, ap}
use Rattle.std.proofs.Common.{sym, ◌∙◌, add-zero, zero-add, add-one, length-set}
use Rattle.std.proofs.Math.Bool.{true, false}
use native.Mathlib.Omega.{arith}
use Rattle.std.proofs.lemmas.List.Edits.{sets, sets-eq}
use borrow.Author.Tests.{ltb-false, ltb-true, eqb-true, eqb-false, eq-eqb, ne_eqb, lt-ltb, le-ltb}
use Rattle.words.specs.declared.Sizes.{Sizes}
use Rattle.words.specs.declared.Word.TheVariants.{Next}
use Rattle.words.specs.Layout.{node, has, rd}
use Rattle.words.specs.Laws.{Bound, has_is}
use Rattle.answers.specs.Said.{refused, says}
use Rattle.asks.specs.Listing.{before, chain, nodes_from, listed}
use Rattle.asks.specs.Inner.{weight, counted, RoomFor, written, put}

-- ---- the chain

module _ (s : Sizes) (t : List ℕ) (q : ℕ) where
  pub chain_ended : (n c : ℕ) → c ≡ 0 → chain s t q n c ≡ Some []
  unfolding chain
  chain_ended zero c e = simp (eq-eqb c 0 e)
  chain_ended (suc n) c e = simp (eq-eqb c 0 e)

  pub chain_long : (n c : ℕ) → c ≢ 0 → n ≡ 0 → chain s t q n c ≡ None
  unfolding chain
  chain_long zero c e z = simp (ne_eqb c 0 e)
  chain_long (suc n) c e z = absurd (omega arith)

  pub chain_above : (n c : ℕ) → c ≢ 0 → s.nodes < c → chain s t q n c ≡ None
  unfolding chain
  chain_above zero c e h = simp (ne_eqb c 0 e)
  chain_above (suc n) c e h = simp (ne_eqb c 0 e, lt-ltb s.nodes c h)

  pub chain_more : (n c : ℕ) → c ≢ 0 → 1 ≤ n → c ≤ s.nodes
      → chain s t q n c ≡ before q c (chain s t q (n - 1) (rd s t (Next (node c))))
  unfolding chain
  chain_more zero c e l h = absurd (omega arith)
  chain_more (suc n) c e l h =
      let z : suc n - 1 ≡ n = omega arith in simp (ne_eqb c 0 e, le-ltb s.nodes c h, z)

-- ---- counting it

counted_before : (q c k : ℕ) (o : Option (List ℕ)) → counted k (before q c o) ≡ counted (k + weight q c) o
unfolding before weight counted
counted_before q c k None = refl
counted_before q c k (Some ns) = by (eqb c q)
  where
    by : (b : Bool) → Some (k + length (cond b ns (c ∷ ns))) ≡ Some (k + cond b 0 1 + length ns)
    by true = ap Some (omega arith)
    by false = ap Some (omega arith)

-- the walk has counted k nodes and stands at c, with n more to go at most; the count is to be all
pub record Counting (s : Sizes) (t : List ℕ) (q n c k : ℕ) (all : Option ℕ) : Type 0 where
  pub is : counted k (chain s t q n c) ≡ all

module _ {s : Sizes} {t : List ℕ} {q n c k : ℕ} {all : Option ℕ} (w : Counting s t q n c k all) where
  pub counting_ended : c ≡ 0 → Some k ≡ all
  unfolding counted
  counting_ended e = ap Some (sym (add-zero k)) ∙ rw (chain_ended s t q n c e) at w.is

  pub counting_long : c ≢ 0 → n ≡ 0 → None ≡ all
  unfolding counted
  counting_long e z = rw (chain_long s t q n c e z) at w.is

  pub counting_above : c ≢ 0 → s.nodes < c → None ≡ all
  unfolding counted
  counting_above e h = rw (chain_above s t q n c e h) at w.is

  pub counting_more : c ≢ 0 → 1 ≤ n → c ≤ s.nodes → Counting s t q (n - 1) (rd s t (Next (node c))) (k + weight q c) all
  counting_more e l h = record { is = sym (counted_before q c k _) ∙ rw (chain_more s t q n c e l h) at w.is }

-- ---- writing it

put_before : (q c i : ℕ) (o : Option (List ℕ)) (room : List ℕ) → RoomFor (before q c o) i room
    → (i + weight q c ≤ length room)
    × RoomFor o (i + weight q c) (put q c i room)
    × (written o (i + weight q c) (put q c i room) ≡ written (before q c o) i room)
unfolding before weight put RoomFor written
put_before q c i None room h = absurd h
put_before q c i (Some ns) room h = by (eqb c q) h
  where
    by : (b : Bool) → i + length (cond b ns (c ∷ ns)) ≤ length room
        → (i + cond b 0 1 ≤ length room)
        × (i + cond b 0 1 + length ns ≤ length (cond b room (set room i c)))
        × (sets (cond b room (set room i c)) (i + cond b 0 1) ns ≡ sets room i (cond b ns (c ∷ ns)))
    by true k = (omega arith, omega arith, rw add-zero)
    by false k = (omega arith, rw length-set (omega arith), rw add-one)

-- the walk has filled the room up to place i and stands at c, with n more to go at most; the room is to be all
pub record Writing (s : Sizes) (t : List ℕ) (q n c i : ℕ) (room all : List ℕ) : Type 0 where
  pub fits : RoomFor (chain s t q n c) i room
  pub is : written (chain s t q n c) i room ≡ all

-- the walk goes on past c
pub record Goes (s : Sizes) (t : List ℕ) (q n c i : ℕ) (room all : List ℕ) : Type 0 where
  pub some_left : 1 ≤ n
  pub a_node : has s (Next (node c)) ≡ true
  pub place : i + weight q c ≤ length room
  pub more : Writing s t q (n - 1) (rd s t (Next (node c))) (i + weight q c) (put q c i room) all

module _ {s : Sizes} {t : List ℕ} {q n c i : ℕ} {room all : List ℕ} (w : Writing s t q n c i room all) where
  pub writing_ended : c ≡ 0 → room ≡ all
  unfolding written
  writing_ended e = rw (chain_ended s t q n c e) at w.is

  left_some : c ≢ 0 → (b : Bool) → eqb n 0 ≡ b → 1 ≤ n
  unfolding RoomFor
  left_some e true k = absurd (rw (chain_long s t q n c e (eqb-true n 0 k)) at w.fits)
  left_some e false k = let z = eqb-false n 0 k in omega arith

  not_above : c ≢ 0 → (b : Bool) → ltb s.nodes c ≡ b → c ≤ s.nodes
  unfolding RoomFor
  not_above e true k = absurd (rw (chain_above s t q n c e (ltb-true s.nodes c k)) at w.fits)
  not_above e false k = ltb-false s.nodes c k

  pub goes : c ≢ 0 → Goes s t q n c i room all
  unfolding Bound
  goes e =
      let l = left_some e (eqb n 0) refl in
      let h = not_above e (ltb s.nodes c) refl in
      let m = chain_more s t q n c e l h in
      let p = put_before q c i (chain s t q (n - 1) (rd s t (Next (node c)))) room (rw m at w.fits) in
      record {
        some_left = l;
        a_node = has_is s (Next (node c)) (omega arith);
        place = p.0;
        more = record { fits = p.1; is = p.2 ∙ rw m at w.is };
      }

  -- as many links were followed as the table can have: the chain has ended
  pub writing_done : n ≡ 0 → room ≡ all
  writing_done z = by (eqb c 0) refl
    where
      by : (b : Bool) → eqb c 0 ≡ b → room ≡ all
      by true e = writing_ended (eqb-true c 0 e)
      by false e = let l = left_some (eqb-false c 0 e) (eqb n 0) refl in absurd (omega arith)

-- ---- the listing, by its head and its count

pub no_head : {head h : ℕ} → head ≡ h → head ≡ 0 → (s : Sizes) (t : List ℕ) (q : ℕ) → nodes_from s t q h ≡ None
unfolding nodes_from
no_head {head} e z s t q = rw (← e) (simp (eq-eqb head 0 z))

pub from_head : {head h : ℕ} → head ≡ h → head ≢ 0 → (s : Sizes) (t : List ℕ) (q : ℕ)
    → nodes_from s t q h ≡ chain s t q s.nodes head
unfolding nodes_from
from_head {head} e z s t q = rw (← e) (simp (ne_eqb head 0 z))

pub listed_broken : (o : Option (List ℕ)) (room : List ℕ) → counted 0 o ≡ None → listed o room ≡ (refused 10, room)
unfolding listed counted
listed_broken None room e = refl
listed_broken (Some ns) room e = let z : ◌≡◌ {A = ℕ} 0 1 = cc in absurd (omega arith)

pub listed_short : (o : Option (List ℕ)) (n : ℕ) (room : List ℕ) → counted 0 o ≡ Some n → length room < n
    → listed o room ≡ (refused 12, room)
unfolding listed counted
listed_short None n room e h = let z : ◌≡◌ {A = ℕ} 0 1 = cc in absurd (omega arith)
listed_short (Some ns) n room e h =
    let z : 0 + length ns ≡ n = cc in simp (lt-ltb (length room) (length ns) (omega arith))

pub listed_written : (o : Option (List ℕ)) (n : ℕ) (room : List ℕ) → counted 0 o ≡ Some n → n ≤ length room
    → RoomFor o 0 room × (listed o room ≡ (says n, written o 0 room))
unfolding listed counted RoomFor written
listed_written None n room e h = let z : ◌≡◌ {A = ℕ} 0 1 = cc in absurd (omega arith)
listed_written (Some ns) n room e h =
    let z : 0 + length ns ≡ n = cc in
    let k : 0 + length ns ≤ length room = omega arith in
    (k, simp (le-ltb (length room) n h, sets-eq ns room 0 k, zero-add, rw zero-add at z))
