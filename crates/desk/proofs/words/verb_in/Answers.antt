-- A word of a verb's length with the verb's bytes is that verb.
use Rattle.std.proofs.Common.{rules, sym, ap, codes, arith}
use Rattle.std.proofs.lemmas.Slice.Eq.{text_from_reads}
use Rattle.desk.specs.Words.{verb_of}
use Rattle.desk.proofs.words.verb_in.Goals as goal

pub returns-in-help-2 : goal.returns-in-help-2
unfolding verb_of
returns-in-help-2 c = sym (ap verb_of (text_from_reads c.args.word.now (codes "help") (omega arith) (search rules)))

pub returns-in-help-3 : goal.returns-in-help-3
unfolding verb_of
returns-in-help-3 c = sym (ap verb_of (text_from_reads c.args.word.now (codes "--help") (omega arith) (search rules)))

pub returns-in-45 : goal.returns-in-45
unfolding verb_of
returns-in-45 c = sym (ap verb_of (text_from_reads c.args.word.now (codes "--version") (omega arith) (search rules)))

pub returns-in-show : goal.returns-in-show
unfolding verb_of
returns-in-show c = sym (ap verb_of (text_from_reads c.args.word.now (codes "show") (omega arith) (search rules)))

pub returns-in-list : goal.returns-in-list
unfolding verb_of
returns-in-list c = sym (ap verb_of (text_from_reads c.args.word.now (codes "list") (omega arith) (search rules)))
