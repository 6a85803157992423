-- The step table of document 01: a row for each point, in its order, with its one access and what follows it.
-- f is the frame, l its level, top the number of levels; a load hands what it loaded, x, to what follows.
use Rattle.std.specs.Prelude.{ℕ}
use Rattle.words.specs.declared.Level.{Level}
use Rattle.words.specs.declared.Node.{Node}
use Rattle.words.specs.declared.Frame.{Frame}
use Rattle.words.specs.declared.Word.{Word}
use Rattle.words.specs.declared.Word.TheVariants.{LevelNode, LevelQueue, Head, Tail, Next}
use Rattle.table.specs.Points.{
  Point,
  E1,
  E2,
  E3,
  E4,
  E5,
  E6,
  E7,
  E8,
  E9,
  E10,
  E11,
  E12,
  E13,
  E14,
  E15,
  E16,
  E17,
  E18,
  E19,
  E20,
  E21,
  E22,
  E23,
  E24,
  E25,
  E26,
  E27,
  E28,
  E29,
  D1,
  D2,
  D3,
  D4,
  D5,
  D6,
  D7,
  Unknown,
}
use Rattle.table.specs.Frames.{set_n, set_k, set_p, set_c, set_a, set_r, set_m, if_eq, to, below_k, below_m, walk, ends}
use Rattle.table.specs.declared.After.{After}
use Rattle.table.specs.declared.After.TheVariants.{Go}

pub data Row : Type 0 where
  loads : Word → (ℕ → After) → Row
  stores : Word → ℕ → After → Row
  -- next[n] := 0, and the bench's own use[n] := 0
  frees : Node → After → Row
  nothing : Row

unfoldable pub row : Point → Frame → Level → Level → Row
row E1 f l top = stores (LevelNode l) f.node.0 (to E2 f)
row E2 f l top = stores (LevelQueue l) f.queue.0 (below_k E7 E3 (set_k l f))
row E3 f l top = loads (LevelQueue f.k) (λ x. if_eq x f.queue.0 (to E4 f) (below_k E7 E3 f))
row E4 f l top = loads (LevelNode f.k) (λ x. to E5 (set_p x f))
row E5 f l top = loads (Tail f.queue) (λ x. if_eq x f.p.0 (to E6 f) (below_m E15 E13 (set_m f.k f)))
row E6 f l top = stores (LevelQueue f.k) 0 (below_k E7 E3 f)
row E7 f l top = loads (Tail f.queue) (λ x. to E8 (set_c x f))
row E8 f l top = loads (Next f.c) (λ x. walk E9 x f)
row E9 f l top = stores (Next f.c) f.node.0 (to E10 (set_c f.node.0 f))
row E10 f l top = loads (Next f.c) (λ x. walk E11 x f)
row E11 f l top = stores (LevelNode l) f.c.0 (to E12 f)
row E12 f l top = stores (Tail f.queue) f.c.0 (to E28 f)
row E13 f l top = loads (LevelQueue f.m) (λ x. if_eq x f.queue.0 (to E14 f) (below_m E15 E13 f))
row E14 f l top = loads (LevelNode f.m) (λ x. if_eq x 0 (below_m E15 E13 (set_c x f)) (to E16 (set_c x f)))
row E15 f l top = loads (Tail f.queue) (λ x. to E16 (set_m top (set_c x f)))
row E16 f l top =
    loads (Next f.c)
    (λ x.
    if_eq x f.p.0 (to E21 (set_a f.c.0 f))
    (if_eq x 0 (if_eq f.m.0 top.0 (to E17 f) (below_m E15 E13 f)) (Go (set_c x f))))
row E17 f l top = loads (Next f.p) (λ x. to E18 (set_r x f))
row E18 f l top = stores (Next f.p) f.node.0 (to E19 (set_c f.node.0 f))
row E19 f l top = loads (Next f.c) (λ x. walk E20 x f)
row E20 f l top = stores (Next f.c) f.r.0 (to E28 f)
row E21 f l top = loads (Next f.a) (λ x. to E22 (set_r x f))
row E22 f l top = stores (Next f.a) f.node.0 (to E23 (set_c f.node.0 f))
row E23 f l top = loads (Next f.c) (λ x. walk E24 x f)
row E24 f l top = stores (Next f.c) f.r.0 (to E25 f)
row E25 f l top = loads (Tail f.queue) (λ x. if_eq x f.a.0 (to E26 f) (to E28 f))
row E26 f l top = stores (LevelNode l) f.c.0 (to E27 f)
row E27 f l top = stores (Tail f.queue) f.c.0 (to E28 f)
row E28 f l top = stores (LevelQueue l) 0 (to E29 f)
row E29 f l top = stores (LevelNode l) 0 (if_eq f.op 1 (ends f.node.0) (to D1 f))
row D1 f l top = loads (Head f.queue) (λ x. to D2 (set_c x f))
row D2 f l top = loads (Tail f.queue) (λ x. if_eq x f.c.0 (ends 0) (to D3 f))
row D3 f l top = loads (Next f.c) (λ x. if_eq x 0 (ends 0) (to D4 f))
row D4 f l top = loads (Next f.c) (λ x. to D5 (set_r x f))
row D5 f l top = stores (Head f.queue) f.r.0 (if_eq f.c.0 f.queue.0 (to D6 f) (to D7 f))
row D6 f l top = stores (Next f.c) 0 (to E1 (set_n f.queue.0 f))
row D7 f l top = frees f.c (ends f.c.0)
row Unknown f l top = nothing
