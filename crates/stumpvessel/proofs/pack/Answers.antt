-- Each write moves the run on by a word. None is refused, since no word is too wide and the whole list has room, and the flush ends the stream.
use Rattle.std.proofs.Common.{arith}
use Rattle.stumpvessel.proofs.Packing.{words_start, words_within, word_written, words_go_on, words_flushed, words_end}
use Rattle.stumpvessel.proofs.pack.Goals as goal

pub loop-word-init : goal.loop-word-init
loop-word-init c = words_start _ _ _ c.requires.width_bound c.requires.width_in_bounds c.new-packer.ensures

pub slice_bounds-write-count : goal.slice_bounds-write-count
slice_bounds-write-count c = words_within _ _ _ c.requires.width_bound c.requires.width_in_bounds c.loop-word.invariant

pub slice_bounds-write-start : goal.slice_bounds-write-start
slice_bounds-write-start c = words_within _ _ _ c.requires.width_bound c.requires.width_in_bounds c.loop-word.invariant

pub unwrap-written-requires : goal.unwrap-written-requires
unwrap-written-requires c =
    word_written _ _ _ c.requires.width_bound c.requires.width_in_bounds c.loop-word.invariant c.loop-word-test.true _ _
    c.from_le_bytes.ensures _ _ c.write.ensures

pub overflow_add-at : goal.overflow_add-at
overflow_add-at c =
    let next =
    words_go_on _ _ _ c.requires.width_bound c.requires.width_in_bounds c.loop-word.invariant c.loop-word-test.true _ _
    c.from_le_bytes.ensures _ _ c.write.ensures c.write.auto.output _ _ c.unwrap-written.ensures in
    omega (arith, words_within _ _ _ c.requires.width_bound c.requires.width_in_bounds next, next.same)

pub loop-word-preserved : goal.loop-word-preserved
loop-word-preserved c =
    words_go_on _ _ _ c.requires.width_bound c.requires.width_in_bounds c.loop-word.invariant c.loop-word-test.true _ _
    c.from_le_bytes.ensures _ _ c.write.ensures c.write.auto.output _ _ c.unwrap-written.ensures

pub slice_bounds-flush-count : goal.slice_bounds-flush-count
slice_bounds-flush-count c = words_within _ _ _ c.requires.width_bound c.requires.width_in_bounds c.loop-word.invariant

pub slice_bounds-flush-start : goal.slice_bounds-flush-start
slice_bounds-flush-start c = words_within _ _ _ c.requires.width_bound c.requires.width_in_bounds c.loop-word.invariant

pub unwrap-requires : goal.unwrap-requires
unwrap-requires c =
    words_flushed _ _ _ c.requires.width_bound c.requires.width_in_bounds c.loop-word.invariant c.loop-word-test.false _ _ c.flush.ensures

pub returns : goal.returns
returns c = words_end _ _ _ c.requires.width_bound c.requires.width_in_bounds c.loop-word.invariant c.loop-word-test.false _ _ c.flush.ensures
