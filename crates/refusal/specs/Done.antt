-- What a call answers that was not refused and gives no value: it was done.
use Rattle.std.specs.Prelude.{Result, Ok}

abbrev pub done : {E : Type 0} → Result (Unit {0}) E
done = Ok tt
