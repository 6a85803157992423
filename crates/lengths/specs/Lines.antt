-- How long a line of the log can be, and how short a line of a schedule.
use Rattle.std.specs.Prelude.{ℕ, ◌+◌, ◌*◌, ◌≤◌, ◌≡◌, refl, List, [], ◌∷◌, ◌++◌, Bool, true, false, Option, Some, None, cond, length, ltb, eqb}
use Rattle.std.proofs.Common.{arith, length-append}
use Rattle.answers.specs.declared.End.{End}
use Rattle.answers.specs.Most.{enqueue_most}
use Rattle.decimals.specs.Decimals.{width_of, digits_of, field_of}
use Rattle.decimals.specs.Laws.{length_digits, length_field}
use Rattle.text.specs.Text.{lf, space, head_e, head_d}
use Rattle.loglines.specs.Lines.{
  text_line,
  refusal_line,
  head_of,
  operation_text,
  end_line,
  bound_line,
  line_of,
  nodes_text,
  queue_line,
  unquiet_line,
}

-- a number has one to five digits
widths : (n : ℕ) → (1 ≤ width_of n) × (width_of n ≤ 5)
unfolding width_of
widths n = by (ltb n 10) (ltb n 100) (ltb n 1000) (ltb n 10000)
  where
    by : (a b c d : Bool) → (1 ≤ cond a 1 (cond b 2 (cond c 3 (cond d 4 5)))) × (cond a 1 (cond b 2 (cond c 3 (cond d 4 5))) ≤ 5)
    by true b c d = omega arith
    by false true c d = omega arith
    by false false true d = omega arith
    by false false false true = omega arith
    by false false false false = omega arith

pub digits_most : (n : ℕ) → length (digits_of n) ≤ 5
digits_most n = omega (arith, length_digits n, widths n)

pub field_most : (n end : ℕ) → length (field_of n end) ≤ 6
field_most n end = omega (arith, length_field n end, widths n)

pub field_least : (n end : ℕ) → 2 ≤ length (field_of n end)
field_least n end = omega (arith, length_field n end, widths n)

-- ---- the lines of a log

head_length : (op : ℕ) → length (head_of op) ≡ 2
head_length op = by (eqb op 1)
  where
    by : (b : Bool) → length (cond b head_e head_d) ≡ 2
    by true = refl
    by false = refl

-- an ended operation up to its steps
operation_most : (e : End) → length (operation_text e) ≤ 20
unfolding operation_text
operation_most e =
    let head = head_length e.op in
    let level = field_most e.level.0 space in
    let queue = field_most e.queue.0 space in
    let node = field_most e.node.0 space in
    simp length-append (omega arith)

-- the most bytes of an ended operation's line, of either log
abbrev pub line_most : Option ℕ → ℕ
line_most None = 26
line_most (Some nodes) = 32

end_most : (e : End) → length (end_line e) ≤ 26
unfolding end_line
end_most e =
    let operation = operation_most e in let steps = field_most e.steps lf in simp length-append (omega arith)

pub line_most_holds : (beside : Option ℕ) (e : End) → length (line_of beside e) ≤ line_most beside
unfolding bound_line
line_most_holds None e = end_most e
line_most_holds (Some nodes) e = by (eqb e.op 1)
  where
    bounded : List ℕ
    bounded = operation_text e ++ (field_of e.steps space ++ field_of (enqueue_most e.level.0 nodes) lf)

    by : (b : Bool) → length (cond b bounded (end_line e)) ≤ 32
    by true =
        let operation = operation_most e in
        let steps = field_most e.steps space in
        let bound = field_most (enqueue_most e.level.0 nodes) lf in
        simp length-append (omega arith)
    by false = let line = end_most e in omega arith

pub text_most : (line : ℕ) → length (text_line line) ≤ 8
unfolding text_line
text_most line = let field = field_most line lf in simp length-append (omega arith)

pub refusal_most : (event number : ℕ) → length (refusal_line event number) ≤ 14
unfolding refusal_line
refusal_most event number =
    let first = field_most event space in let second = field_most number lf in simp length-append (omega arith)

nodes_most : (ns : List ℕ) → length (nodes_text ns) ≤ 6 * length ns
unfolding nodes_text
nodes_most [] = omega arith
nodes_most (n ∷ ns) =
    let ih = nodes_most ns in let digits = digits_most n in simp length-append (omega arith)

pub queue_most : (q : ℕ) (ns : List ℕ) → length (queue_line q ns) ≤ 8 + 6 * length ns
unfolding queue_line
queue_most q ns =
    let digits = digits_most q in let nodes = nodes_most ns in simp length-append (omega arith)

pub unquiet_most : (q : ℕ) → length (unquiet_line q) ≤ 8
unfolding unquiet_line
unquiet_most q = let field = field_most q lf in simp length-append (omega arith)
