-- A frame's changes, in the words of the step table. Frame words not named keep their value.
use Rattle.std.specs.Prelude.{ℕ, ◌+◌, ◌-◌, cond, ltb, eqb}
use Rattle.words.specs.declared.Level.{Level}
use Rattle.words.specs.declared.Queue.{Queue}
use Rattle.words.specs.declared.Node.{Node}
use Rattle.words.specs.declared.Frame.{Frame}
use Rattle.words.specs.Layout.{level, node}
use Rattle.table.specs.Points.{Point, number_of}
use Rattle.table.specs.declared.After.{After}
use Rattle.table.specs.declared.After.TheVariants.{Go, Done}

abbrev pub frame : ℕ → ℕ → Queue → Node → Level → Node → Node → Node → Node → Level → ℕ → Frame
frame op point queue node k p c a r m steps =
    record {
      op = op;
      point = point;
      queue = queue;
      node = node;
      k = k;
      p = p;
      c = c;
      a = a;
      r = r;
      m = m;
      steps = steps;
    }

-- the frame at the point of this number
abbrev pub at : ℕ → Frame → Frame
at x f = frame f.op x f.queue f.node f.k f.p f.c f.a f.r f.m f.steps

abbrev pub set_n : ℕ → Frame → Frame
set_n v f = frame f.op f.point f.queue (node v) f.k f.p f.c f.a f.r f.m f.steps

abbrev pub set_k : Level → Frame → Frame
set_k v f = frame f.op f.point f.queue f.node v f.p f.c f.a f.r f.m f.steps

abbrev pub set_p : ℕ → Frame → Frame
set_p v f = frame f.op f.point f.queue f.node f.k (node v) f.c f.a f.r f.m f.steps

abbrev pub set_c : ℕ → Frame → Frame
set_c v f = frame f.op f.point f.queue f.node f.k f.p (node v) f.a f.r f.m f.steps

abbrev pub set_a : ℕ → Frame → Frame
set_a v f = frame f.op f.point f.queue f.node f.k f.p f.c (node v) f.r f.m f.steps

abbrev pub set_r : ℕ → Frame → Frame
set_r v f = frame f.op f.point f.queue f.node f.k f.p f.c f.a (node v) f.m f.steps

abbrev pub set_m : Level → Frame → Frame
set_m v f = frame f.op f.point f.queue f.node f.k f.p f.c f.a f.r v f.steps

-- one step more; 65,535 stays
unfoldable pub counted : Frame → Frame
counted f =
    frame f.op f.point f.queue f.node f.k f.p f.c f.a f.r f.m
    (cond (ltb f.steps 65535) (f.steps + 1) f.steps)

-- ---- what follows an access

-- the one where two numbers are the same, else the other
unfoldable pub if_eq : ℕ → ℕ → After → After → After
if_eq a b same other = cond (eqb a b) same other

-- go to the point of this number
abbrev pub go_to : ℕ → Frame → After
go_to x f = Go (at x f)

-- below k: if k is 0 go to x, else take 1 from k and go to y
unfoldable pub below_k_to : ℕ → ℕ → Frame → After
below_k_to x y f = if_eq f.k.0 0 (go_to x f) (go_to y (set_k (level (f.k.0 - 1)) f))

unfoldable pub below_m_to : ℕ → ℕ → Frame → After
below_m_to x y f = if_eq f.m.0 0 (go_to x f) (go_to y (set_m (level (f.m.0 - 1)) f))

-- the walk of E8: if v is 0 go to x, else c becomes v and stay
unfoldable pub walk_to : ℕ → ℕ → Frame → After
walk_to x v f = if_eq v 0 (go_to x f) (Go (set_c v f))

-- the same by the points' names
abbrev pub to : Point → Frame → After
to x f = go_to (number_of x) f

abbrev pub below_k : Point → Point → Frame → After
below_k x y f = below_k_to (number_of x) (number_of y) f

abbrev pub below_m : Point → Point → Frame → After
below_m x y f = below_m_to (number_of x) (number_of y) f

abbrev pub walk : Point → ℕ → Frame → After
walk x v f = walk_to (number_of x) v f

-- the operation ends with this node, 0 for empty
abbrev pub ends : ℕ → After
ends n = Done (node n)
