use Rattle.bpaf_grammar.proofs.Promises.{command_leaves_nothing, command_names_its_own}
use Rattle.bpaf_grammar.proofs.Promises.{defaults_take_nothing, key_is_first, leftmost_is_answered}
use Rattle.std.proofs.Common.{Err, IfOk, Ok, Result}
use Rattle.std.specs.Result.{IfErr}
use Rattle.bpaf_line.specs.{declared.error.Error.Error, Situation.Situation}
use Rattle.bpaf_laws.specs.{Laws.Keeps, Laws.Lawful, Laws.Reads, Reading.Outcome, Reading.Readings}
use Rattle.bpaf_grammar.specs.Laws.{lawful_of}
use Rattle.bpaf_grammar.proofs.Promises.{memory_is_never_caught, repeat_is_bounded, takes_stretch}
use Rattle.bpaf.proofs.laws.evaluate.Goals as goal

module _ {T : Type 0} {outcome : Outcome T} {reads : Readings T} (law : Lawful T outcome reads)
    (s t : Situation) where
  -- a value is a reading
  value_read : (r : Result T Error) → outcome s r t → IfOk r (λ v. Reads T reads s v t)
  value_read (Ok v) o = law.ok s t v o
  value_read (Err e) o = tt

  -- a refusal keeps
  refusal_keeps : (r : Result T Error) → outcome s r t → IfErr r (λ e. Keeps s t)
  refusal_keeps (Ok v) o = tt
  refusal_keeps (Err e) o = law.err s t e o

pub returns-clause-reads : goal.returns-clause-reads
returns-clause-reads g c =
    value_read (lawful_of (g.P.Parser.grammar c.args.parser.now)) _ _ _ c.eval.ensures

pub returns-clause-keeps : goal.returns-clause-keeps
returns-clause-keeps g c =
    refusal_keeps (lawful_of (g.P.Parser.grammar c.args.parser.now)) _ _ _ c.eval.ensures

pub returns-clause-memory_is_never_caught : goal.returns-clause-memory_is_never_caught
returns-clause-memory_is_never_caught g c =
    memory_is_never_caught (g.P.Parser.grammar c.args.parser.now) _ _ _ c.eval.ensures

pub returns-clause-repeat_is_bounded : goal.returns-clause-repeat_is_bounded
returns-clause-repeat_is_bounded g c =
    repeat_is_bounded (g.P.Parser.grammar c.args.parser.now) _ _ _ c.eval.ensures

pub returns-clause-default_takes_nothing : goal.returns-clause-default_takes_nothing
returns-clause-default_takes_nothing g c =
    defaults_take_nothing (g.P.Parser.grammar c.args.parser.now) _ _ _ c.eval.ensures

pub returns-clause-leftmost_wins : goal.returns-clause-leftmost_wins
returns-clause-leftmost_wins g c =
    leftmost_is_answered (g.P.Parser.grammar c.args.parser.now) _ _ _ c.eval.ensures

pub returns-clause-key_before_environment : goal.returns-clause-key_before_environment
returns-clause-key_before_environment g c =
    key_is_first (g.P.Parser.grammar c.args.parser.now) _ _ _ c.eval.ensures

pub returns-clause-command_leaves_nothing : goal.returns-clause-command_leaves_nothing
returns-clause-command_leaves_nothing g c =
    command_leaves_nothing (g.P.Parser.grammar c.args.parser.now) _ _ _ c.eval.ensures

pub returns-clause-takes_one_stretch : goal.returns-clause-takes_one_stretch
returns-clause-takes_one_stretch g c =
    takes_stretch (g.P.Parser.grammar c.args.parser.now) _ _ _ c.eval.ensures

pub returns-clause-named_inside : goal.returns-clause-named_inside
returns-clause-named_inside g c =
    command_names_its_own (g.P.Parser.grammar c.args.parser.now) _ _ _ c.eval.ensures
