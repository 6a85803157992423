-- Two results that the contract of `check_text` allows coincide.
use Rattle.std.specs.Prelude.{ℕ, ◌≡◌, List, Result}
use Rattle.text.specs.declared.Opening.{Opening}
use Rattle.text.specs.declared.BadLine.{BadLine}
use Rattle.text.specs.Reading.{line_answer}
use Rattle.text.specs.Unique.{one_sizes}
use Rattle.schedule.specs.Whole.{check_reading}

pub one_check : (text : List ℕ) {r s : Result (Opening × ℕ) BadLine} → line_answer r ≡ check_reading text → line_answer s ≡ check_reading text → r ≡ s
one_check text p q = one_sizes p q
