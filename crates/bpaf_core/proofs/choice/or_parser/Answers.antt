use Rattle.bpaf_grammar.specs.{Grammar.outcome_of, Laws.lawful_of}
use Rattle.std.proofs.Common.{◌≡◌, true, refl, subst, sym, ◌∙◌, Result, Ok, Err, ap, inr}
use Rattle.bpaf_line.proofs.Marks.{undone_twice}
use Rattle.bpaf_line.specs.{declared.error.Error.Error, Situation.Situation, Messages.is_memory}
use Rattle.bpaf_line.specs.Marks.{redone}
use Rattle.bpaf_laws.specs.{Choice.ChoiceOutcome, Choice.is_memory_answer, Reading.Outcome}
use Rattle.bpaf_laws.proofs.{ChoiceLaws.ran_outcome, Keeping.keeps_of}
use Rattle.bpaf_choice.specs.Branches.{HasAnswered, LedTo, start_of}
use Rattle.bpaf_choice.proofs.Branching.{chosen_kept, start_back, start_behind, start_kept}
use Rattle.bpaf_core.proofs.choice.or_parser.Goals as goal

-- want of memory is an answer of a choice, where all is as before
want_outcome : {T : Type 0} (first second : Outcome T) {s t : Situation} (r : Result T Error)
    → is_memory_answer r ≡ true → t ≡ s → ChoiceOutcome first second s r t
want_outcome first second (Ok v) none same = cc
want_outcome first second (Err e) want same = inr (want, same)

pub returns-then-is_memory_answer : goal.returns-then-is_memory_answer
returns-then-is_memory_answer g c =
    want_outcome _ _ c.args.first (sym c.is_memory_answer.ensures ∙ c.if-is_memory_answer.true)
    c.undo.ensures.undone

pub returns-in-Err : goal.returns-in-Err
returns-in-Err g c = inr (ap is_memory c.from.ensures, c.leave.ensures.back)

-- the second branch keeps what lies behind its start
pub undo-requires-then-is_memory_answer-2 : goal.undo-requires-then-is_memory_answer-2
undo-requires-then-is_memory_answer-2 g c =
    let marks = rw c.leave.ensures.back at
    (keeps_of (lawful_of (g.P.Parser.grammar c.args.parser.now)) _ _ _
    c.eval-second.ensures).marks in
    (start_kept (start_behind c.requires.start) (undone_twice c.args.start.mark c.args.state.now)
    marks).fits

pub returns-then-is_memory_answer-2 : goal.returns-then-is_memory_answer-2
returns-then-is_memory_answer-2 g c =
    let marks = rw c.leave.ensures.back at
    (keeps_of (lawful_of (g.P.Parser.grammar c.args.parser.now)) _ _ _
    c.eval-second.ensures).marks in
    want_outcome _ _ c.eval-second.result
    (sym c.is_memory_answer-2.ensures ∙ c.if-is_memory_answer-2.true)
    (c.undo-then-is_memory_answer-2.ensures.undone
    ∙ start_back (start_behind c.requires.start) (undone_twice c.args.start.mark c.args.state.now)
    marks)

pub this_or_that-requires : goal.this_or_that-requires
this_or_that-requires g c =
    let begins = start_behind c.requires.start in
    let back = undone_twice c.args.start.mark c.args.state.now in
    let marks = rw c.leave.ensures.back at
    (keeps_of (lawful_of (g.P.Parser.grammar c.args.parser.now)) _ _ _
    c.eval-second.ensures).marks in
    let led = rw c.leave.ensures.back at c.in-Ok.ensures.left in
    record {
      start = start_kept begins back marks;
      this = subst (λ o. LedTo c.in-Ok.this o (redone c.in-Ok.this.steps o))
          (sym (start_back begins back marks))
          (subst (LedTo c.in-Ok.this (start_of c.args.start c.args.state.now)) (sym led.there) led);
    }

pub returns : goal.returns
returns g c =
    let first = c.args.first in
    let t = c.args.state.now in
    let s = start_of c.args.start t in
    let outcome = outcome_of (g.P.Parser.grammar c.args.parser.now) in
    let r = c.eval-second.result in
    let u = c.eval-second.new.state in
    let ran = rw c.leave.ensures.back at c.eval-second.ensures in
    let led = rw c.leave.ensures.back at c.in-Ok.ensures.left in
    ran_outcome (HasAnswered s first t) outcome s first t r u c.this_or_that.result
    c.this_or_that.new.state (refl, refl, refl) ran
    (sym c.is_memory_answer.ensures ∙ c.if-is_memory_answer.false)
    (sym c.is_memory_answer-2.ensures ∙ c.if-is_memory_answer-2.false)
    (chosen_kept (start_behind c.requires.start) (undone_twice c.args.start.mark t) led
    (keeps_of (lawful_of (g.P.Parser.grammar c.args.parser.now)) s r u ran).marks first r
    c.this_or_that.result c.this_or_that.new.state c.this_or_that.ensures)
