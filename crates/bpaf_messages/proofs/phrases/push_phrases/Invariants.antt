use Rattle.std.proofs.Common.{◌≡◌, drop, true}
use Rattle.bpaf_doc.specs.Print.{printed}
use Rattle.bpaf_messages.specs.Phrases.{followed_by}
use Rattle.bpaf_messages.proofs.phrases.push_phrases.Given as goal

-- with the other phrases behind it the text is that of all of them behind the first text
abbrev pub invariant-loop-phrase : goal.invariant-loop-phrase
invariant-loop-phrase l = followed_by (printed true l.doc) (drop l.phrase-index l.phrases)
    ≡ followed_by (printed true l.fn.doc) l.phrases
