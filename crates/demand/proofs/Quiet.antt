-- A quiet queue in the table: the chain from head to tail is short enough for the table, and it is what the listing call answers.
use Prim.Native.Nat.{ℕ, zero, suc, ◌+◌, ◌≤◌, ◌<◌}
use mathlib.Core.Path.{◌≡◌, sym, ap, ◌∙◌}
use mathlib.Core.Logic.{◌≢◌}
use mathlib.Core.Bool.{Bool, true, false, cond}
use Rattle.std.specs.Prelude.{Some}
use mathlib.Core.List.{List, [], ◌∷◌, ◌++◌, nil≢cons, head-eq_of_cons-eq, tail-eq_of_cons-eq}
use native.Mathlib.Omega.{arith}
use lib.Dec.{eqb}
use lib.ListN.{length}
use borrow.Author.Tests.{eq-eqb, ne_eqb, le-ltb}
use Rattle.words.specs.declared.Sizes.{Sizes}
use Rattle.words.specs.declared.Word.TheVariants.{Next}
use Rattle.words.specs.Layout.{node, rd}
use Rattle.words.specs.Laws.{Bound, has_is}
use Rattle.asks.specs.Listing.{before, chain}
use Rattle.lists.specs.Count.{Same, same, apart, same?, cnt, cnt_nil, cnt_cons, cnt_self, counts}
use Rattle.lists.specs.Beginning.{without}
use Rattle.chains.specs.Member.{Last}
use Rattle.chains.specs.Seg.{Seg, stop, link}
use Rattle.chains.proofs.Links.{seg_head, seg_rest, seg_nil}
use Rattle.state.specs.Mem.{Mem}
use Rattle.state.specs.View.{memory}
use Rattle.state.proofs.Seen.{look_rd}
use Rattle.demand.specs.History.{along}
use Rattle.demand.specs.Demand.{first_of}
use Rattle.demand.proofs.Alone.{First, nothing, user, behind}

-- ---- the last of a list

last_in : (c : ℕ) (xs : List ℕ) → Last c xs → 1 ≤ cnt c xs
last_in c xs l = rw l.1 (simp counts (omega arith))

last_only : (c x : ℕ) → Last c (x ∷ []) → x ≡ c
last_only c x l = by l.0 l.1
  where
    by : (pre : List ℕ) → x ∷ [] ≡ pre ++ c ∷ [] → x ≡ c
    by [] e = head-eq_of_cons-eq e
    by (p ∷ pre) e = absurd (nil_more pre (tail-eq_of_cons-eq e))
      where
        nil_more : (pre : List ℕ) → [] ≡ pre ++ c ∷ [] → ⊥
        nil_more [] e = nil≢cons e
        nil_more (p ∷ pre) e = nil≢cons e

last_rest : (c x y : ℕ) (ys : List ℕ) → Last c (x ∷ y ∷ ys) → Last c (y ∷ ys)
last_rest c x y ys l = by l.0 l.1
  where
    by : (pre : List ℕ) → x ∷ y ∷ ys ≡ pre ++ c ∷ [] → Last c (y ∷ ys)
    by [] e = absurd (nil≢cons (sym (tail-eq_of_cons-eq e)))
    by (p ∷ pre) e = (pre, tail-eq_of_cons-eq e)

-- ---- a queue's first node, from its chain

-- the last node of a chain points to what the chain leads to
seg_last : {f : ℕ → ℕ} {s t : ℕ} {xs : List ℕ} (c : ℕ) → Seg f s xs t → Last c xs → f c ≡ t
seg_last c (stop e) l = absurd (omega (arith, last_in c [] l, cnt_nil c))
seg_last {f} c (link {x = x} {xs = []} e r) l = ap f (sym (last_only c x l)) ∙ seg_nil r
seg_last c (link {x = x} {xs = y ∷ ys} e r) l = seg_last c r (last_rest c x y ys l)

-- a node of a chain that is not its last points to a node
points_on : {f : ℕ → ℕ} (c y : ℕ) (zs : List ℕ) → Seg f (f y) zs 0 → Last c (y ∷ zs) → ((z : ℕ) → 0 < cnt z zs → 1 ≤ z) → y ≢ c → f y ≢ 0
points_on c y [] g l real ne e = ne (last_only c y l)
points_on c y (z ∷ zs) g l real ne e = let h = seg_head g in let k = real z (cnt_self z zs) in omega arith

module _ (M : Mem) (q : ℕ) where
  pub first_is : (xs : List ℕ) → Seg M.next (M.head q) xs 0 → Last (M.tail q) xs → ((x : ℕ) → cnt x xs ≤ 1) → ((x : ℕ) → 0 < cnt x xs → 1 ≤ x)
      → cnt q xs ≡ 1 → First M q (first_of (without q xs))
  unfolding without
  first_is [] g l once real in_it = absurd (omega (arith, cnt_nil q))
  first_is (x ∷ []) g l once real in_it = by (eqb x q) (same? x q)
    where
      by : (b : Bool) → Same x q b → First M q (first_of (cond b [] (x ∷ [])))
      by true (same e) = nothing (sym (last_only (M.tail q) x l) ∙ sym (seg_head g))
      by false (apart e) = absurd (omega (arith, rw (cnt_cons q x [], ne_eqb q x (λ z. e (sym z)), cnt_nil q) at in_it))
  first_is (x ∷ y ∷ ys) g l once real in_it = by (eqb x q) (same? x q)
    where
      l' : Last (M.tail q) (y ∷ ys)
      l' = last_rest (M.tail q) x y ys l

      -- the first stands in the chain once
      alone : (z : ℕ) → 0 < cnt z (y ∷ ys) → z ≢ x
      alone z h e = let w : cnt z (x ∷ y ∷ ys) ≡ 1 + cnt z (y ∷ ys) = rw (cnt_cons z x (y ∷ ys), eq-eqb z x e) in omega (arith, once z)

      behind_x : (z : ℕ) → 0 < cnt z ys → 1 ≤ z
      behind_x z h = real z (rw (cnt_cons z x (y ∷ ys), cnt_cons z y ys) (omega arith))

      next_x : M.next x ≡ y
      next_x = seg_head (seg_rest g)

      y_real : y ≢ 0
      y_real e = let k = real y (rw cnt_cons (omega (arith, cnt_self y ys))) in omega arith

      second : (b : Bool) → Same y q b → x ≡ q → First M q (first_of (cond b (without q ys) (y ∷ without q ys)))
      second true (same z) e = absurd (alone y (cnt_self y ys) (z ∙ sym e))
      second false (apart z) e =
          behind (seg_head g ∙ e) (λ k. alone (M.tail q) (last_in (M.tail q) (y ∷ ys) l') (k ∙ sym e)) (ap M.next (sym e) ∙ next_x) z y_real
          (seg_last (M.tail q) g l) (points_on (M.tail q) y ys (seg_rest (seg_rest g)) l' behind_x)

      by : (b : Bool) → Same x q b → First M q (first_of (cond b (without q (y ∷ ys)) (x ∷ without q (y ∷ ys))))
      by true (same e) = second (eqb y q) (same? y q) e
      by false (apart e) = user (seg_head g) e (λ z. alone (M.tail q) (last_in (M.tail q) (y ∷ ys) l') z) (rw next_x y_real)

-- ---- the chain from a node on

module _ (s : Sizes) (t : List ℕ) (q : ℕ) where
  -- every node of the list is one of the table's
  abbrev Known : List ℕ → Type 0
  Known xs = (x : ℕ) → 0 < cnt x xs → (1 ≤ x) × (x ≤ s.nodes)

  next_is : (x : ℕ) → 1 ≤ x → x ≤ s.nodes → rd s t (Next (node x)) ≡ (memory s t).next x
  unfolding Bound
  next_is x a b = sym (look_rd s t (Next (node x)) (has_is s (Next (node x)) (a, b)))

  -- what the listing walks
  pub chain_is : (n c : ℕ) (xs : List ℕ) → Seg (memory s t).next c xs 0 → length xs ≤ n → Known xs → chain s t q n c ≡ Some (without q xs)
  unfolding chain before without
  chain_is zero c xs (stop e) h k = rw (eq-eqb c 0 e)
  chain_is (suc n) c xs (stop e) h k = rw (eq-eqb c 0 e)
  chain_is zero c xs (link e r) h k = absurd (omega arith)
  chain_is (suc n) c xs (link {x = x} {xs = ys} e r) h k =
      let b = k x (cnt_self x ys) in
      let ih = chain_is n ((memory s t).next x) ys r (omega arith) (λ y z. k y (rw cnt_cons (omega arith))) in
      rw (e, ne_eqb x 0 (λ z. omega arith), le-ltb s.nodes x b.1, next_is x b.0 b.1, ih)

  -- and what demand 3 means by from head along next to tail
  pub along_is : (n c tail : ℕ) (xs : List ℕ) → Seg (memory s t).next c xs 0 → length xs ≤ n → Known xs → Last tail xs → cnt tail xs ≤ 1
      → along s t tail n c ≡ xs
  unfolding along
  along_is n c tail xs (stop e) h k l o = absurd (omega (arith, last_in tail [] l, cnt_nil tail))
  along_is zero c tail xs (link e r) h k l o = absurd (omega arith)
  along_is (suc n) c tail xs (link {x = x} {xs = []} e r) h k l o =
      rw (e, eq-eqb x tail (last_only tail x l))
  along_is (suc n) c tail xs (link {x = x} {xs = y ∷ ys} e r) h k l o =
      let b = k x (cnt_self x (y ∷ ys)) in
      let l' = last_rest tail x y ys l in
      let ne : x ≢ tail = λ z. (let a = last_in tail (y ∷ ys) l' in let w = rw (cnt_cons tail x (y ∷ ys), eq-eqb tail x (sym z)) at o in omega arith) in
      let ih = along_is n ((memory s t).next x) tail (y ∷ ys) r (omega arith) (λ z m. k z (rw cnt_cons (omega arith))) l' (omega (arith, cnt_cons tail x (y ∷ ys))) in
      rw (e, ne_eqb x tail ne, next_is x b.0 b.1, ih)
