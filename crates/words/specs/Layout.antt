-- The table as a list of words: sections in a fixed order, each after its count. Only this crate knows where a word stands.
use Rattle.std.specs.Prelude.{ℕ, ◌+◌, ◌-◌, ◌*◌, List, [], ◌∷◌, Bool, cond, ◌&&◌, length, get_or, set, ltb, leb, eqb, Option, Some, None}
use Rattle.std.proofs.lemmas.List.Edits.{sets}
use Rattle.words.specs.declared.Level.{Level}
use Rattle.words.specs.declared.Queue.{Queue}
use Rattle.words.specs.declared.Node.{Node}
use Rattle.words.specs.declared.Sizes.{Sizes}
use Rattle.words.specs.declared.Frame.{Frame}
use Rattle.words.specs.declared.Word.{Word}
use Rattle.words.specs.declared.Word.TheVariants.{LevelNode, LevelQueue, Head, Tail, Next, Use}

abbrev pub level : ℕ → Level
level n = record { 0 = n }

abbrev pub queue : ℕ → Queue
queue n = record { 0 = n }

abbrev pub node : ℕ → Node
node n = record { 0 = n }

-- x is from..to
unfoldable pub within : ℕ → ℕ → ℕ → Bool
within from to x = leb from x && leb x to

-- L is 1 to 16, Q is 1 to 8, N is Q to 1,024
unfoldable pub limits : Sizes → Bool
limits s = within 1 16 s.levels && within 1 8 s.queues && within s.queues 1024 s.nodes

-- how many words a table of these sizes has
abbrev pub words : Sizes → ℕ
words s = 4 + 13 * s.levels + 2 * s.queues + 2 * s.nodes

-- where the sections' counts stand: of the levels, the queues, the nodes, and the levels again before their frames
abbrev pub levels_at : ℕ
levels_at = 0

abbrev pub queues_at : ℕ → ℕ
queues_at l = 1 + 2 * l

abbrev pub nodes_at : ℕ → ℕ → ℕ
nodes_at l q = 2 + 2 * l + 2 * q

abbrev pub frames_at : ℕ → ℕ → ℕ → ℕ
frames_at l q n = 3 + 2 * l + 2 * q + 2 * n

-- the counts that a table says
abbrev pub levels_of : List ℕ → ℕ
levels_of t = get_or t levels_at 0

abbrev pub queues_of : List ℕ → ℕ
queues_of t = get_or t (queues_at (levels_of t)) 0

abbrev pub nodes_of : List ℕ → ℕ
nodes_of t = get_or t (nodes_at (levels_of t) (queues_of t)) 0

abbrev pub sizes_of : List ℕ → Sizes
sizes_of t = record { levels = levels_of t; queues = queues_of t; nodes = nodes_of t }

-- the levels' second count
abbrev pub levels_again : Sizes → List ℕ → ℕ
levels_again s t = get_or t (frames_at s.levels s.queues s.nodes) 0

-- the table with these sizes for its counts
unfoldable pub put_counts : Sizes → List ℕ → List ℕ
put_counts s t =
    set
    (set
    (set
    (set t levels_at s.levels)
    (queues_at s.levels) s.queues)
    (nodes_at s.levels s.queues) s.nodes)
    (frames_at s.levels s.queues s.nodes) s.levels

-- the counts are within their limits, the table is long enough, and the two L are the same
unfoldable pub agrees : Sizes → List ℕ → Bool
agrees s t = limits s && leb (words s) (length t) && eqb (levels_again s t) s.levels

-- a table's sizes; refusal 1 is given exactly when there are none
unfoldable pub measured : List ℕ → Option Sizes
measured t = cond (agrees (sizes_of t) t) (Some (sizes_of t)) None

-- whether a word is one of the table's: a level below L, a queue 1..Q, a node 1..N
unfoldable pub has : Sizes → Word → Bool
has s (LevelNode l) = ltb l.0 s.levels
has s (LevelQueue l) = ltb l.0 s.levels
has s (Head q) = within 1 s.queues q.0
has s (Tail q) = within 1 s.queues q.0
has s (Next n) = within 1 s.nodes n.0
has s (Use n) = within 1 s.nodes n.0

-- where a word stands: per level node and queue, per queue head and tail, per node next and use
unfoldable pub addr : Sizes → Word → ℕ
addr s (LevelNode l) = levels_at + 1 + 2 * l.0
addr s (LevelQueue l) = levels_at + 2 + 2 * l.0
addr s (Head q) = queues_at s.levels + 1 + 2 * (q.0 - 1)
addr s (Tail q) = queues_at s.levels + 2 + 2 * (q.0 - 1)
addr s (Next n) = nodes_at s.levels s.queues + 1 + 2 * (n.0 - 1)
addr s (Use n) = nodes_at s.levels s.queues + 2 + 2 * (n.0 - 1)

unfoldable pub rd : Sizes → List ℕ → Word → ℕ
rd s t w = get_or t (addr s w) 0

unfoldable pub wr : Sizes → List ℕ → Word → ℕ → List ℕ
wr s t w v = set t (addr s w) v

-- where a level's frame starts
unfoldable pub frame_at : Sizes → Level → ℕ
frame_at s l = frames_at s.levels s.queues s.nodes + 1 + 11 * l.0

-- the 11 words from b on, as a frame
abbrev pub frame_from : List ℕ → ℕ → Frame
frame_from t b =
    record {
      op = get_or t b 0;
      point = get_or t (b + 1) 0;
      queue = queue (get_or t (b + 2) 0);
      node = node (get_or t (b + 3) 0);
      k = level (get_or t (b + 4) 0);
      p = node (get_or t (b + 5) 0);
      c = node (get_or t (b + 6) 0);
      a = node (get_or t (b + 7) 0);
      r = node (get_or t (b + 8) 0);
      m = level (get_or t (b + 9) 0);
      steps = get_or t (b + 10) 0;
    }

-- a frame's words in their order
abbrev pub frame_words : Frame → List ℕ
frame_words f =
    f.op ∷ f.point ∷ f.queue.0 ∷ f.node.0 ∷ f.k.0 ∷ f.p.0 ∷ f.c.0 ∷ f.a.0 ∷ f.r.0 ∷ f.m.0 ∷ f.steps ∷ []

unfoldable pub frame_of : Sizes → List ℕ → Level → Frame
frame_of s t l = frame_from t (frame_at s l)

unfoldable pub put_frame : Sizes → List ℕ → Level → Frame → List ℕ
put_frame s t l f = sets t (frame_at s l) (frame_words f)

-- the frame of a level that runs nothing
abbrev pub no_frame : Frame
no_frame =
    record {
      op = 0;
      point = 0;
      queue = queue 0;
      node = node 0;
      k = level 0;
      p = node 0;
      c = node 0;
      a = node 0;
      r = node 0;
      m = level 0;
      steps = 0;
    }
