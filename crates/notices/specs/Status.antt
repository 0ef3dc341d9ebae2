-- The number that says a status: 0 for an answer, 1 for a refusal, 2 for words that are no request.
use Rattle.std.specs.Prelude.{ℕ}
use Rattle.notices.specs.declared.Status.{Status}
use Rattle.notices.specs.declared.Status.TheVariants.{Answered, Refused, Usage}

abbrev pub number_of : Status → ℕ
number_of Answered = 0
number_of Refused = 1
number_of Usage = 2
