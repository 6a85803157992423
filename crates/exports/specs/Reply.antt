-- What the calls answer to a caller in C: one number, a value and 65,536 times a code, and the words of an operation's end.
use Rattle.std.specs.Prelude.{ℕ, ◌+◌, ◌*◌, ◌/◌, ◌%◌, List, [], ◌∷◌, Bool, true, false}
use Rattle.answers.specs.declared.End.{End}
use Rattle.answers.specs.Said.{Said, refused, says, Step, going_on, ended, Why, an_end, spent, nothing_runs, refusal_10, Run, after}

abbrev pub packed : ℕ → ℕ → ℕ
packed value code = value + 65536 * code

-- a refusal's number is its code, and its value is 0
abbrev pub reply : {A : Type 0} → (A → ℕ) → Said A → ℕ
reply value (refused r) = packed 0 r
reply value (says x) = value x

abbrev pub done_reply : Said Unit → ℕ
done_reply x = reply (λ _. packed 0 0) x

-- code 20: an operation ended
abbrev pub step_value : Step → ℕ
step_value going_on = packed 0 0
step_value (ended e) = packed 0 20

abbrev pub step_reply : Said Step → ℕ
step_reply x = reply step_value x

-- the value is the steps taken
abbrev pub why_code : Why → ℕ
why_code (an_end e) = 20
why_code spent = 0
why_code nothing_runs = 9
why_code refusal_10 = 10

abbrev pub run_value : Run → ℕ
run_value (after n why) = packed n (why_code why)

abbrev pub run_reply : Said Run → ℕ
run_reply x = reply run_value x

-- 1 for yes
abbrev pub quiet_value : Bool → ℕ
quiet_value true = packed 1 0
quiet_value false = packed 0 0

abbrev pub quiet_reply : Said Bool → ℕ
quiet_reply x = reply quiet_value x

abbrev pub count_reply : Said ℕ → ℕ
count_reply x = reply (λ n. packed n 0) x

-- the count is in two words of its own
abbrev pub waiting_reply : Said ℕ → ℕ
waiting_reply x = reply (λ _. packed 0 0) x

-- ---- the words of an operation's end, which stay as they were where none ended

abbrev pub end_words : End → List ℕ
end_words e = e.op ∷ e.level.0 ∷ e.queue.0 ∷ e.node.0 ∷ e.steps ∷ []

abbrev pub step_end : Said Step → List ℕ → List ℕ
step_end (refused r) w = w
step_end (says going_on) w = w
step_end (says (ended e)) w = end_words e

abbrev pub why_end : Why → List ℕ → List ℕ
why_end (an_end e) w = end_words e
why_end spent w = w
why_end nothing_runs w = w
why_end refusal_10 w = w

abbrev pub run_end : Said Run → List ℕ → List ℕ
run_end (refused r) w = w
run_end (says (after n why)) w = why_end why w

-- ---- the two words of the waiting count, low first, which stay as they were at a refusal

abbrev pub count_words : Said ℕ → List ℕ → List ℕ
count_words (refused r) w = w
count_words (says n) w = n % 65536 ∷ n / 65536 ∷ []

-- ---- what a call gives: its answer, what it was lent, and the words beside

abbrev pub done_out : Said Unit × List ℕ → ℕ × List ℕ
done_out x = (done_reply x.0, x.1)

abbrev pub step_out : Said Step × List ℕ → List ℕ → ℕ × (List ℕ × List ℕ)
step_out x w = (step_reply x.0, (x.1, step_end x.0 w))

abbrev pub run_out : Said Run × List ℕ → List ℕ → ℕ × (List ℕ × List ℕ)
run_out x w = (run_reply x.0, (x.1, run_end x.0 w))

abbrev pub count_out : Said ℕ × List ℕ → ℕ × List ℕ
count_out x = (count_reply x.0, x.1)

abbrev pub waiting_out : Said ℕ → List ℕ → ℕ × List ℕ
waiting_out x w = (waiting_reply x, count_words x w)
