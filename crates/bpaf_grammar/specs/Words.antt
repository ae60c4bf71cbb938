-- A run of a parser over words, by its grammar.
use Rattle.std.specs.Prelude.{Result}
use Rattle.bpaf_words.specs.{Arguments.Given, Line.Known}
use Rattle.bpaf_line.specs.declared.failure.ParseFailure.{ParseFailure}
use Rattle.bpaf_laws.specs.Laws.{WithoutMemory}
use Rattle.bpaf_keys.specs.Info.{RunInfo, known_names}
use Rattle.bpaf_grammar.specs.Grammar.{Grammar, describes_of, outcome_of, reads_of, shorts_of}
use Rattle.bpaf_grammar.specs.{Refusals.IsOneOfTwelve, Run.IsDealtOut, Run.RunsWords}

-- by what words are read: the short names that the parser shows, and those of help and the version
abbrev pub names_of : {T : Type 0} → Grammar T → RunInfo → Known
names_of g info = known_names info (shorts_of g)

-- what a run may answer, by its table
abbrev pub Answers : {T : Type 0} → Grammar T → RunInfo → Given → Result T ParseFailure → Type 0
Answers {T} g info given = RunsWords T (outcome_of g) (describes_of g) info (names_of g info) given

-- what it may answer where the parser wanted no memory
abbrev pub AnswersSpared : {T : Type 0} → Grammar T → RunInfo → Given → Result T ParseFailure
    → Type 0
AnswersSpared {T} g info given =
    RunsWords T (WithoutMemory (outcome_of g)) (describes_of g) info (names_of g info) given

-- which refusals have one of the twelve names
abbrev pub Refuses : {T : Type 0} → Grammar T → RunInfo → Given → ParseFailure → Type 0
Refuses g info given = IsOneOfTwelve (outcome_of g) (describes_of g) info (names_of g info) given

-- which values are dealt out of the words
abbrev pub Deals : {T : Type 0} → Grammar T → RunInfo → Given → T → Type 0
Deals {T} g info given = IsDealtOut T (reads_of g) (names_of g info) given
