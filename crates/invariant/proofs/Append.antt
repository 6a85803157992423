-- E7 to E12: nobody below is registered, and the operation's chain is hung on tail; then tail moves to its end.
use Prim.Native.Nat.{ℕ}
use mathlib.Core.Path.{◌≡◌, refl, sym, ap, ◌∙◌}
use mathlib.Core.List.{List, [], ◌∷◌, ◌++◌, append-nil}
use native.Mathlib.Omega.{arith}
use Rattle.lists.specs.Count.{cnt_self, counts}
use Rattle.state.specs.Mem.{put_same}
use Rattle.table.specs.Points.{E7, E8, E9, E10, E11, E12, E28}
use Rattle.table.specs.Laws.{point_is}
use Rattle.table.specs.Frames.{walk_to}
use Rattle.table.specs.Table.{row}
use Rattle.chains.proofs.Links.{seg_rest, seg_nil}
use Rattle.invariant.specs.Ghost.{owner, mark}
use Rattle.invariant.specs.Facts.{Hot, e7, e8, e9, e10, e11, e12, is_owner, is_mark, is_done, is_loose}
use Rattle.invariant.proofs.Below.{nobody}
use Rattle.invariant.proofs.Turn.{Turn, goes_on, by_eq, Case, stay, to, below_ln}
use Rattle.invariant.proofs.Rules.{along, hang, move_on, settle}

-- the queue's own chain with no mark in it: tail alone, and its link ends
record Bare (next : ℕ → ℕ) (tail : ℕ) (x : List ℕ) : Type 0 where
  is : x ≡ tail ∷ []
  last : next tail ≡ 0

bare : {top o s t tail : ℕ} {next : ℕ → ℕ} {x : List ℕ} → o ≡ top → t ≡ 0 → s ≡ tail → Hot top next o s t x
    → Bare next tail x
bare {s = s} {tail = tail} {next = next} {x = x} a b c h =
    let e : x ≡ tail ∷ [] = h.begins ∙ ap (λ w. s ∷ w) (h.alone a b) ∙ ap (λ w. w ∷ []) c in
    record { is = e; last = seg_nil (seg_rest (rw e at h.linked)) ∙ b }

module _ (T : Turn) where
  open T use {top, q, own, fr, l, st, M, f}

  pub e7_ok : Case T E7
  unfolding row
  e7_ok at S x _ b _ (is_owner z n t (e7 h)) d s =
      to T E8 (owner f.node.0 _) refl refl refl (is_owner z n t (e8 h (ap M.tail T.here.queued))) d s
  e7_ok at S x _ b _ (is_loose _ h) d s = elim h [ ]
  e7_ok at S x _ _ _ (is_mark _ _ h) d s = elim h [ ]

  -- tail's link ends, so this walk takes no step
  pub e8_ok : Case T E8
  unfolding row walk_to
  e8_ok at S x _ b _ (is_owner z n t (e8 h e)) d s =
      let r = nobody d h in let w = bare r.own r.ends r.begins t in
      by_eq T (λ i. to T E9 (owner f.node.0 _) refl refl refl (is_owner z n t (e9 h e)) d s)
      (λ i. absurd (i (rw e w.last)))
  e8_ok at S x _ b _ (is_loose _ h) d s = elim h [ ]
  e8_ok at S x _ _ _ (is_mark _ _ h) d s = elim h [ ]

  pub e9_ok : Case T E9
  unfolding row
  e9_ok at S x _ b _ (is_owner {x = y} z n t (e9 h e)) d s =
      let r = nobody d h in let w = bare r.own r.ends r.begins t in
      let k = hang T f.node.0 f.c.0 [] [] (w.is ∙ ap (λ c. c ∷ []) (sym e)) t d s in
      to T E10 (mark f.node.0 (s.hot.more ++ [])) refl refl refl
      (is_mark z n (e10 r.own r.ends (rw (r.ends, append-nil s.hot.more) k.ends)
      (cnt_self f.node.0 (s.hot.more ++ [])))) (rw r.unsettled at k.pile) k.stand
  e9_ok at S x _ b _ (is_loose _ h) d s = elim h [ ]
  e9_ok at S x _ _ _ (is_mark _ _ h) d s = elim h [ ]

  pub e10_ok : Case T E10
  unfolding row
  e10_ok at S x _ b _ (is_mark {s = p} {w = w} z n (e10 a e g h)) d s =
      along T 11 g e (omega (arith, simp counts at (s.all 0), T.none)) h
      (λ k. to T E11 (mark p w) refl refl refl (is_mark z n (e11 a e g k)) d s)
      (λ k. stay T E10 (mark p w) at refl refl (is_mark z n (e10 a e g k)) d s)
  e10_ok at S x _ b _ (is_loose _ h) d s = elim h [ ]
  e10_ok at S x _ b _ (is_owner _ _ _ h) d s = elim h [ ]

  pub e11_ok : Case T E11
  unfolding row
  e11_ok at S x _ b _ (is_mark z n (e11 a e g h)) d s =
      let k = move_on T f.c.0 h.0 [] h.1 g s in
      to T E12 (mark f.c.0 []) refl refl refl (is_mark z (put_same M.ln l f.c.0) (e12 a e k.piece refl refl))
      (below_ln T d f.c.0) k.stand
  e11_ok at S x _ b _ (is_loose _ h) d s = elim h [ ]
  e11_ok at S x _ b _ (is_owner _ _ _ h) d s = elim h [ ]

  pub e12_ok : Case T E12
  unfolding row
  e12_ok at S x _ b _ (is_mark z n (e12 a e g i w)) d s =
      let k = settle T a (λ r. w) (rw i at g) d (rw i at s) in
      goes_on (point_is E28 28 refl) refl refl (is_done z (n ∙ i ∙ sym k.tail_is) a) k.pile k.stand k.begins
  e12_ok at S x _ b _ (is_loose _ h) d s = elim h [ ]
  e12_ok at S x _ b _ (is_owner _ _ _ h) d s = elim h [ ]
