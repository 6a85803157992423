-- The lines of the log, as bytes. Its fixed words are the letters T, R, E, D, Q, U, and `R 0 2` whole.
use Rattle.std.specs.Prelude.{ℕ, Option, Some, None, List, [], ◌∷◌, ◌++◌, cond, eqb}
use Rattle.decimals.specs.Decimals.{digits_of, field_of}
use Rattle.text.specs.Text.{lf, space, head_e, head_d}
use Rattle.answers.specs.declared.End.{End}
use Rattle.answers.specs.Most.{enqueue_most}

abbrev pub head_t : List ℕ
head_t = 84 ∷ space ∷ []

abbrev pub head_r : List ℕ
head_r = 82 ∷ space ∷ []

abbrev pub head_q : List ℕ
head_q = 81 ∷ space ∷ []

abbrev pub head_u : List ℕ
head_u = 85 ∷ space ∷ []

-- text refused: `T line`
unfoldable pub text_line : ℕ → List ℕ
text_line line = head_t ++ field_of line lf

-- sizes refused: `R 0 2`
abbrev pub sizes_line : List ℕ
sizes_line = 82 ∷ space ∷ 48 ∷ space ∷ 50 ∷ lf ∷ []

-- a refused event: `R event number`
unfoldable pub refusal_line : ℕ → ℕ → List ℕ
refusal_line event number = head_r ++ (field_of event space ++ field_of number lf)

-- an ended operation up to its steps: `E level queue node ` or `D level queue node `
abbrev pub head_of : ℕ → List ℕ
head_of op = cond (eqb op 1) head_e head_d

unfoldable pub operation_text : End → List ℕ
operation_text e = head_of e.op ++ (field_of e.level.0 space ++ (field_of e.queue.0 space ++ field_of e.node.0 space))

-- the log's line of an ended operation: `E level queue node steps` or `D level queue node steps`
unfoldable pub end_line : End → List ℕ
end_line e = operation_text e ++ field_of e.steps lf

-- the bounds log's, of a table of so many nodes: an enqueue has `E level queue node steps bound`. A field has five digits at most, and
-- within the limits a bound is at most 17 * 1030
unfoldable pub bound_line : ℕ → End → List ℕ
bound_line nodes e =
    cond (eqb e.op 1) (operation_text e ++ (field_of e.steps space ++ field_of (enqueue_most e.level.0 nodes) lf)) (end_line e)

-- the line by what stands beside an enqueue's steps
abbrev pub line_of : Option ℕ → End → List ℕ
line_of None e = end_line e
line_of (Some nodes) e = bound_line nodes e

unfoldable pub nodes_text : List ℕ → List ℕ
nodes_text [] = []
nodes_text (n ∷ ns) = space ∷ (digits_of n ++ nodes_text ns)

-- `Q queue` and its listing
unfoldable pub queue_line : ℕ → List ℕ → List ℕ
queue_line q ns = head_q ++ (digits_of q ++ (nodes_text ns ++ (lf ∷ [])))

-- `U queue`
unfoldable pub unquiet_line : ℕ → List ℕ
unquiet_line q = head_u ++ field_of q lf
