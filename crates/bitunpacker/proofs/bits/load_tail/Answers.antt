-- From the end backwards: before each turn `value` is the number of the bytes from i on. There are fewer than eight of them, so it stays small.
use Rattle.std.proofs.Common.{◌≡◌, ℕ, suc, ◌+◌, ◌-◌, ◌*◌, ◌^◌, ◌≤◌, ◌<◌, min, List, length, get_or, take, drop, sym, ap, ◌∙◌, subst, ⊎_elim, le_refl, le_of_lt, arith, length-drop, drop_of_length-le, take_all}
use lib.Seq.{drop-length}
use Rattle.bit_rule.specs.Bytes.{AreBytes, number}
use Rattle.bit_rule.proofs.Width.{le_or_lt}
use Rattle.bitunpacker.proofs.Laws.{drop-number-lt, drop-number-cons}
use Rattle.bitunpacker.proofs.bits.load_tail.Goals as goal

-- in a turn: six bytes at most were passed
small : (bytes : List ℕ) (at i value : ℕ) → AreBytes bytes → length bytes < at + 8 → at < i → value ≡ number (drop i bytes) → value < 2 ^ 48
small bytes at i value are few more is = subst (λ v. v < 2 ^ 48) (sym is) (drop-number-lt 6 i bytes are (omega arith))

-- one byte further to the front
further : (bytes : List ℕ) (i value : ℕ) → 0 < i → i ≤ length bytes → value ≡ number (drop i bytes)
    → value * 256 + get_or bytes (i - 1) 0 ≡ number (drop (i - 1) bytes)
further bytes i value some within is =
    let back : suc (i - 1) ≡ i = omega arith in
    let next : number (drop (i - 1) bytes) ≡ get_or bytes (i - 1) 0 + 256 * number (drop i bytes) =
    drop-number-cons (i - 1) bytes (omega arith) ∙ ap (λ k. get_or bytes (i - 1) 0 + 256 * number (drop k bytes)) back in
    omega (arith, next, is)

-- at the end: the bytes from i on are those from `at` on, and not more than eight
all_passed : (bytes : List ℕ) (at i : ℕ) → length bytes < at + 8 → i ≤ length bytes → min at (length bytes) ≤ i → i ≤ at
    → drop i bytes ≡ take 8 (drop at bytes)
all_passed bytes at i short within not_before reached =
    let few : length (drop at bytes) ≤ 8 = simp length-drop (omega arith) in
    let same : drop i bytes ≡ drop at bytes =
    ⊎_elim
    (λ inside. let here : i ≡ at = omega arith in ap (λ k. drop k bytes) here)
    (λ past.
    let end : i ≡ length bytes = omega arith in
    ap (λ k. drop k bytes) end ∙ drop-length bytes ∙ sym (drop_of_length-le bytes (le_of_lt past)))
    (le_or_lt at (length bytes)) in
    same ∙ sym (take_all 8 (drop at bytes) few)

pub loop-i-init : goal.loop-i-init
unfolding number
loop-i-init c = record { within = le_refl _; not_before = omega arith; is = sym (ap number (drop-length c.args.bytes.now)) }

pub overflow_mul-value : goal.overflow_mul-value
overflow_mul-value c =
    omega (
      arith,
      small c.args.bytes.now c.args.at c.loop-i.i c.loop-i.value (λ k. (c.type_inv.bytes k).fits) c.requires c.loop-i-test.true c.loop-i.invariant.is,
    )

pub overflow_add-value : goal.overflow_add-value
overflow_add-value c =
    let are : AreBytes c.args.bytes.now = λ k. (c.type_inv.bytes k).fits in
    let byte : c.from.result < 256 = subst (λ b. b < 256) (sym c.from.ensures) (are (c.loop-i.i - 1)) in
    omega (arith, byte, small c.args.bytes.now c.args.at c.loop-i.i c.loop-i.value are c.requires c.loop-i-test.true c.loop-i.invariant.is)

pub loop-i-preserved : goal.loop-i-preserved
loop-i-preserved c =
    let here = c.loop-i.invariant in
    let more : 0 < c.loop-i.i = omega (arith, c.loop-i-test.true) in
    record {
      within = omega (arith, here.within);
      not_before = omega (arith, here.not_before, c.loop-i-test.true);
      is = ap (λ b. c.loop-i.value * 256 + b) c.from.ensures ∙ further c.args.bytes.now c.loop-i.i c.loop-i.value more here.within here.is;
    }

pub returns : goal.returns
returns c =
    let here = c.loop-i.invariant in
    here.is ∙ ap number (all_passed c.args.bytes.now c.args.at c.loop-i.i c.requires here.within here.not_before c.loop-i-test.false)
