-- What a run may be asked for beside its value, as a parser of its own.
use Rattle.std.specs.{Prelude.◌++◌, Prelude.◌≡◌, Option.option_map_or, Result.IfErr}
use Rattle.bpaf_keys.specs.Info.{ExtraOutcome, ExtraReads, RunInfo, extra_shape}
use Rattle.bpaf_keys.specs.declared.info.ExtraParams.{ExtraParams}
use Rattle.bpaf_keys.proofs.Looking.{extra_lawful, extra_shows}
use Rattle.bpaf_laws.specs.Laws.{of_flags}
use Rattle.bpaf_grammar.specs.{Run.AsksForNeither, Own.Own}
use Rattle.bpaf_grammar.proofs.Sparing.{neither_asked}

-- the look for help and the version
abbrev pub extra_own : RunInfo → Own ExtraParams
extra_own info = record {
  outcome = ExtraOutcome info;
  reads = ExtraReads info;
  describes = λ shape. shape ≡ extra_shape info;
  shorts = of_flags (option_map_or
      (λ text. info.help_arg.names.shorts ++ info.version_arg.names.shorts)
      info.version info.help_arg.names.shorts);
  spared = λ s r t. IfErr r (AsksForNeither info s t);
  lawful = extra_lawful info;
  shows = extra_shows info;
  spares = λ s t r o. neither_asked info s t r o;
}
