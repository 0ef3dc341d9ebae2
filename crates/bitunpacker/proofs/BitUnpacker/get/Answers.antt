-- The refusals are the three tests in their order; the third cannot hold where eight bytes from the value's first one on are there. Past them
-- the value is read from those eight bytes, or from what is there of them (`read_value`).
use Rattle.std.specs.Prelude.{Ok, Err}
use Rattle.std.proofs.Common.{◌≡◌, ℕ, ◌+◌, ◌*◌, ◌/◌, ◌%◌, ◌^◌, ◌≤◌, true, leb, List, length, take, drop, bit_and, sym, ap, ◌∙◌, arith, le-leb, add-mul, one-mul}
use Rattle.std.proofs.lemmas.Result.{err_from_is_err_and}
use Rattle.bit_rule.specs.Bytes.{AreBytes, number, bytes_for}
use Rattle.bit_rule.specs.Place.{value_at}
use Rattle.bit_rule.proofs.Place.{legal_span}
use Rattle.bitunpacker.specs.declared.BitUnpacker.{BitUnpacker}
use Rattle.bitunpacker.specs.Unpacker.{Sound, get_of}
use Rattle.bitunpacker.proofs.Laws.{refused, passed, read_value, inside, outside}
use Rattle.bitunpacker.proofs.BitUnpacker.get.Goals as goal

-- the byte after the last that the value lies in
last_byte : (i w : ℕ) → (i * w + w + 7) / 8 ≡ bytes_for ((i + 1) * w)
last_byte i w = omega (arith, add-mul i 1 w, one-mul w)

-- a value lies in the data where eight bytes from its first one on are there
within-eight : (u : BitUnpacker) (i : ℕ) (bs : List ℕ) → Sound u → i * u.num_bits / 8 + 8 ≤ length bs
    → leb ((i + 1) * u.num_bits) (8 * length bs) ≡ true
within-eight u i bs good there =
    let w = u.num_bits in
    le-leb ((i + 1) * w) (8 * length bs) (omega (arith, legal_span w i good.legal, add-mul i 1 w, one-mul w))

-- either load gives the value
value_read : (u : BitUnpacker) (i : ℕ) (bs : List ℕ) (v : ℕ) → AreBytes bs → Sound u
    → v ≡ bit_and (number (take 8 (drop (i * u.num_bits / 8) bs)) / 2 ^ (i * u.num_bits % 8)) u.mask → v ≡ value_at u.num_bits i bs
value_read u i bs v bytes good is = is ∙ read_value u i (i * u.num_bits / 8) (i * u.num_bits % 8) bs bytes good (omega arith) (omega arith)

pub returns-in_err-checked : goal.returns-in_err-checked
unfolding get_of
returns-in_err-checked c =
    let p = err_from_is_err_and c.from_residual.result c.from_residual.ensures.1 in
    rw (p.1, p.2) (sym (refused c.args.self _ (λ e. Err e) _ (sym c.in_err-checked.ensures.first)))

pub returns-then-at-data : goal.returns-then-at-data
unfolding get_of
returns-then-at-data c =
    let good = c.in_ok-checked.ensures.sound in
    let whole = within-eight c.args.self c.args.idx c.args.data.now good c.if-at-data.true in
    ap Ok (value_read c.args.self c.args.idx c.args.data.now _ (λ k. (c.type_inv.data k).fits) good c.word_at.ensures)
    ∙ sym (passed c.args.self (λ e. Err e) _ (sym c.in_ok-checked.ensures.first) ∙ simp whole)

pub returns-then-data-bit : goal.returns-then-data-bit
unfolding get_of
returns-then-data-bit c =
    sym (passed c.args.self (λ e. Err e) _ (sym c.in_ok-checked.ensures.first) ∙ simp (outside _ _ (last_byte c.args.idx c.args.self.num_bits) c.if-data-bit.true))

pub returns : goal.returns
unfolding get_of
returns c =
    let good = c.in_ok-checked.ensures.sound in
    ap Ok (value_read c.args.self c.args.idx c.args.data.now _ (λ k. (c.type_inv.data k).fits) good c.tail_at.ensures)
    ∙ sym (passed c.args.self (λ e. Err e) _ (sym c.in_ok-checked.ensures.first) ∙ simp (inside _ _ (last_byte c.args.idx c.args.self.num_bits) c.if-data-bit.false))
