-- Above 32 bits the wide road answers. Below, an interval above 32 bits matches nothing, and an upper end above them is brought down.
use Rattle.std.specs.Prelude.{Result, Ok, Err}
use Rattle.std.specs.Result.{OkIff, result_unwrap_or}
use Rattle.std.proofs.Common.{ℕ, ◌≡◌, ◌-◌, ◌^◌, ◌<◌, ◌≤◌, min, ap₂, ◌∙◌, arith}
use Rattle.bitunpacker.specs.Unpacker.{ids_of}
use Rattle.bitunpacker.proofs.Narrow.{kept_same, kept_empty, none_narrow, narrow_cut}
use Rattle.bitunpacker.proofs.column.Column.find.Goals as goal

not_below : (n : ℕ) → (n < 2 ^ 32 → ⊥) → 2 ^ 32 ≤ n
not_below n not = omega arith

-- the upper end, or the largest that 32 bits hold
brought_down : {E : Type 0} (r : Result ℕ E) (hi : ℕ) → OkIff r (hi < 2 ^ 32) hi → result_unwrap_or r (2 ^ 32 - 1) ≡ min hi (2 ^ 32 - 1)
brought_down (Ok x) hi small = omega arith
brought_down (Err e) hi large = let above : 2 ^ 32 ≤ hi = not_below hi large in omega arith

pub returns-in_default : goal.returns-in_default
returns-in_default c =
    kept_empty 0 c.args.positions.now
    (none_narrow c.args.self.now.unpacker.num_bits c.if-self-gt32.false c.args.interval.lo c.args.interval.hi c.args.start c.args.end c.args.self.now.bytes.now (not_below c.args.interval.lo c.in_default.ensures))

pub returns : goal.returns
returns c =
    let column = c.args.self.now in
    let w = column.unpacker.num_bits in
    let lo = c.args.interval.lo in
    let hi = c.args.interval.hi in
    let bytes = column.bytes.now in
    kept_same
    (ap₂ (λ low top. ids_of w low top c.args.start c.args.end bytes) c.in-Ok.ensures.1 (c.unwrap_or-hi.ensures ∙ brought_down c.try_from-2.result hi c.try_from-2.ensures)
    ∙ narrow_cut w c.if-self-gt32.false lo hi c.args.start c.args.end bytes)
    c.find.ensures
