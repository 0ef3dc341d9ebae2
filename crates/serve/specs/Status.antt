-- The status of a request: that of wrong words exactly where the words are no request; else an answer or a refusal, as the file has it.
use Rattle.std.specs.Prelude.{ℕ, ◌≤◌, ◌≡◌, ◌⊎◌, Result, Ok, Err}
use Rattle.desk.specs.declared.words.Request.{Request}
use Rattle.desk.specs.declared.words.Fault.{Fault}
use Rattle.notices.specs.declared.Status.{Status as Said}
use Rattle.notices.specs.declared.Status.TheVariants.{Answered, Refused, Usage}

-- An answer or a refusal.
abbrev pub IsForRequest : Said → Type 0
IsForRequest said = (said ≡ Answered) ⊎ (said ≡ Refused)

abbrev pub Status : Result Request Fault → Said → Type 0
Status (Ok request) status = IsForRequest status
Status (Err fault) status = status ≡ Usage

-- Handing an answer over may turn it into a refusal, and changes no other status. The statuses are told by their numbers, 0 and 1.
abbrev pub HandedOver : ℕ → ℕ → Type 0
HandedOver status said = (status ≡ 0 → said ≤ 1) × ((status ≡ 0 → ⊥) → said ≡ status)
