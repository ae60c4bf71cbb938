-- The parsers of a program, and their fields, are known where what they are made of is.
use Rattle.std.proofs.Common.{IsUtf8, Result, Option, false, arith, List, refl, true, Bool, Some, ℕ}
use Rattle.std.proofs.Common.{All, ap₂, ◌∙◌, ◌≡◌, Err, inl, inr, ap, Ok, None, IfOk, [], ◌∷◌}
use Rattle.bpaf_grammar.specs.Grammar.{closed, cloned, describes_of, fallback, flag, many, mapped}
use Rattle.bpaf_grammar.specs.Grammar.{optional, outcome_of, product, repeat, FieldsGrammar}
use Rattle.bpaf_grammar.specs.Grammar.{argument, Grammar, choice, alone, both, word, command}
use Rattle.bpaf_exact.proofs.PartForms.{both_part_law, choice_form_part_law, con_part_law}
use Rattle.bpaf_exact.proofs.PartForms.{fallback_part_law, guard_part_law, many_part_law}
use Rattle.std.proofs.Common.{sym, true≢false, ⊎_elim}
use Rattle.std.specs.Result.{IfErr}
use Rattle.bpaf_grammar.specs.{Words.Answers, Words.Deals, Words.names_of, Laws.lawful_of}
use Rattle.bpaf_grammar.specs.Grammar.{guarded, keys_of}
use Rattle.bpaf_record.proofs.LookAlike.{IsSeen, part_seen, view_seen}
use Rattle.bpaf_record.proofs.FormLaws.{law_of, part_law_of, reads_of}
use Rattle.bpaf_exact.proofs.PartForms.{map_part_law, narrower_part_form, optional_form_part_law}
use Rattle.bpaf_exact.proofs.ProgramForm.{or_part_law, unnamed_law}
use Rattle.bpaf_record.specs.Program.{agrees_of, part_form, program_form, are_unusual}
use Rattle.bpaf.specs.Asked.{HandsOn, RunShows, IfShown, Showing}
use Rattle.bpaf_doc.specs.{declared.doc.Piece.Piece, Shape.Shape, Names.Names}
use Rattle.bpaf_words.specs.{Arguments.Given, Line.Known}
use Rattle.bpaf_text.specs.Named.{KeyWithValue, key_named, Named}
use Rattle.bpaf_line.specs.declared.failure.ParseFailure.{ParseFailure}
use Rattle.bpaf_line.specs.declared.failure.ParseFailure.TheVariants as failure
use Rattle.bpaf_laws.specs.Combinators.{MapOutcome, EachReads, ListReads, MapReads, OptionalReads}
use Rattle.bpaf.proofs.Asked.{positional_hands_on, argument_hands_on, optional_hands_on, hands_also}
use Rattle.bpaf.proofs.Asked.{default_hands_on, product_hands_on, asked_at_also, both_hands_on}
use Rattle.bpaf_exact.proofs.ProgramForm.{program_either_law, program_alone_law, program_field_law}
use Rattle.bpaf_exact.proofs.ProgramForm.{program_both_law, program_con_law, narrower_form}
use Rattle.bpaf_program.specs.KnownParser.{AreKnownFields, known_optional, IsKnownParser, IsAlso}
use Rattle.bpaf_program.specs.KnownParser.{program_names, known_command, known_default, inner_pages}
use Rattle.bpaf_program.specs.KnownParser.{known_switch, IsDealtBy, IsExactFor, known_many}
use Rattle.bpaf_program.specs.KnownParser.{known_con, known_guard, known_map, IsPageOf, IsValueBy}
use Rattle.bpaf_laws.specs.Command.{Called, CommandReads, opening_words}
use Rattle.bpaf_laws.specs.{Combinators.GuardOutcome, Combinators.PureReads, Laws.joined_shorts}
use Rattle.bpaf_laws.specs.{Product.BothReads, Product.ProductOutcome, Choice.ChoiceReads}
use Rattle.bpaf_laws.specs.Reading.{Outcome, Readings}
use Rattle.bpaf_laws.proofs.Keeping.{fallback_kept}
use Rattle.bpaf_core.specs.declared.commands.ParseCommand.{ParseCommand}
use Rattle.bpaf_grammar.specs.{declared.position.Position.Position, Command.EitherCommandReads}
use Rattle.bpaf.specs.{Run.IsDealtOut, Run.RunsWords, Info.RunInfo, Info.plain_info}
use Rattle.bpaf.specs.Help.{shown_help}
use Rattle.bpaf.proofs.Asked.{flag_hands_on, many_hands_on, answer_shows, IsAlsoShown, words_also}
use Rattle.bpaf.proofs.HandsOn.{command_hands_on, choice_hands_on, behind_also}
use Rattle.bpaf_exact.proofs.ProgramForm.{fallback_law, optional_law, many_law, guard_law, map_law}
use Rattle.bpaf_exact.proofs.{Tables.AllowsNoMore, Tables.no_more, PartView.part_view_agrees}
use Rattle.bpaf_exact.proofs.OneView.{view_agrees}
use Rattle.bpaf_record.specs.{Commands.either_command_law, Record.AnswersAsProgram}
use Rattle.bpaf_program.specs.{Fields.IsPlainCommand, KnownParser.IsKept}
use Rattle.bpaf_exact.specs.Parts.{PartFormLaw, of_part, part_closed}
use Rattle.bpaf_exact.specs.Flat.{Variables, guard_closure}

-- what is dealt out to the one is dealt out to the other
pub also_dealt : {T : Type 0} {reads wanted : Readings T} → IsAlso reads wanted
    → {known names : Known} {given own : Given} (r : Result T ParseFailure)
    → IfOk r (λ v. IsDealtOut T reads known given v) → known ≡ names → given ≡ own
    → IfOk r (λ v. IsDealtOut T wanted names own v)
also_dealt also (Ok v) dealt known_is given_is = record {
  context = dealt.context;
  is_context = rw (known_is, given_is) at dealt.is_context;
  read = also dealt.context _ v dealt.read;
}
also_dealt also (Err f) dealt known_is given_is = tt

-- fields
both_also : {A B : Type 0} {first first' : Readings A} {rest rest' : Readings B}
    → IsAlso first first' → IsAlso rest rest'
    → IsAlso (BothReads A B first rest) (BothReads A B first' rest')
both_also one others context share v read = record {
  first_share = read.first_share;
  rest_share = read.rest_share;
  joins = read.joins;
  first_read = one context read.first_share v.0 read.first_read;
  rest_read = others context read.rest_share v.1 read.rest_read;
}

-- what is made of a value
made_also : {V T : Type 0} {inner inner' : Readings V} {makes makes' : V → T → Type 0}
    → IsAlso inner inner' → ((x : V) (v : T) → makes x v → makes' x v)
    → IsAlso (MapReads V T inner makes) (MapReads V T inner' makes')
made_also also made context share v read = record {
  from = read.from;
  read = also context share read.from read.read;
  made = made read.from v read.made;
}

module _ {T : Type 0} {inner inner' : Readings T} (also : IsAlso inner inner') where
  -- values, one after another
  each_also : IsAlso (EachReads inner) (EachReads inner')
  each_also context share [] none = none
  each_also context share (v ∷ vs) read = (
    read.0,
    read.1,
    read.2,
    read.3,
    also context read.0 v read.4,
    each_also context read.1 vs read.5,
  )

  -- values one after another, of which the first share may be empty
  list_also : IsAlso (ListReads inner) (ListReads inner')
  list_also context share [] none = none
  list_also context share (v ∷ vs) read =
      (read.0, read.1, read.2, also context read.0 v read.3, each_also context read.1 vs read.4)

  -- a command
  called_also : (words : List (List ℕ))
      → IsAlso (CommandReads T words inner) (CommandReads T words inner')
  called_also words context share v read = record {
    name = read.name;
    read = both_also (λ line own p named. named) also context share (read.name, v) read.read;
  }

  -- an adjacent one too
  command_also : (adjacent : Bool) (words : List (List ℕ))
      → IsAlso (EitherCommandReads adjacent T words inner)
      (EitherCommandReads adjacent T words inner')
  command_also true words context share v read = record {
    read = called_also words context share v read.read;
    stretch = read.stretch;
  }
  command_also false words context share v read = called_also words context share v read

  -- what may be left out
  optional_also : IsAlso (OptionalReads inner) (OptionalReads inner')
  optional_also context share None read = read
  optional_also context share (Some v) read = also context share v read

-- a choice of two
choice_also : {T : Type 0} {first first' second second' : Readings T} → IsAlso first first'
    → IsAlso second second' → IsAlso (ChoiceReads first second) (ChoiceReads first' second')
choice_also one other context share v = grind arith

-- no place is read for a value
pure_also : {T : Type 0} {gives gives' : T → Type 0} → ((v : T) → gives v → gives' v)
    → IsAlso (PureReads gives) (PureReads gives')
pure_also only context share v read = (read.0, only v read.1)

-- what a run shows that shows this, it also shows that shows that
of_shapes : {describes wanted : Shape → Type 0}
    → ((shape : Shape) → describes shape → wanted shape) → {info : RunInfo} (showing : Showing)
    → IsAlsoShown (RunShows describes info showing) (RunShows wanted info showing)
of_shapes shows showing s doc full (inl asked) = inl (asked_at_also shows s doc full asked)
of_shapes shows showing s doc full (inr inside) = inr inside

module _ {A B : Type 0} (inner : Outcome A) {answers wanted : A → B → Type 0}
    (only : (x : A) (v : B) → answers x v → wanted x v) where
  -- a constructor that answers less
  con_within : AllowsNoMore B (ProductOutcome inner wanted) (ProductOutcome inner answers)
  con_within = grind (arith, no_more)

  -- a closure that does
  map_within : AllowsNoMore B (MapOutcome inner wanted) (MapOutcome inner answers)
  map_within = grind (arith, no_more)

-- a guard whose check answers less
guard_within : {T : Type 0} (inner : Outcome T) {checks wanted : T → Bool → Type 0}
    (message : List ℕ) → ((x : T) (b : Bool) → checks x b → wanted x b)
    → AllowsNoMore T (GuardOutcome inner wanted message) (GuardOutcome inner checks message)
guard_within inner message only = grind (arith, no_more)

-- what is made as its grammar says is known by it
module _ {T : Type 0} (g : Grammar T) (premise : agrees_of g)
    (hands : HandsOn (inner_pages g) (outcome_of g)) where
  same_known : IsKnownParser g g
  same_known = record {
    law = λ env. law_of g premise env;
    part = λ env. part_law_of g premise env;
    also = λ context share v read. read;
    shows = λ shape shown. shown;
    shown = refl;
    hands = hands;
  }

-- a command over what is known
pub called_known : {T P : Type 0} {adjacent : Bool} {called : Called} {info : RunInfo}
    {help : Option (List Piece)} (known : Grammar T) (own : ParseCommand T P)
    → own.adjacent ≡ adjacent → own.names ≡ called → own.info ≡ info → shown_help own ≡ help
    → info.help_if_no_args ≡ false → {one : Grammar T} → IsKnownParser known one
    → IsKnownParser (command adjacent called info help known)
    (command own.adjacent own.names own.info (shown_help own) one)
called_known {adjacent = adjacent} {called} {info} {help} known own adjacent_is called_is info_is
    help_is plain {one} is = rw (help_is, called_is, adjacent_is, info_is) (record {
      law = λ env. either_command_law (describes_of one) info called _ adjacent
          (are_unusual (keys_of known false) info) (is.law env);
      part = λ env. record { by = tt };
      also = command_also is.also adjacent (opening_words called);
      shows = λ shape shown. (
        shown.0,
        (shown.1.0, is.shows shown.1.0 shown.1.1, shown.1.2),
        shown.2,
      );
      shown = is.shown;
      hands = hands_also (behind_also (of_shapes is.shows (inner_pages known)))
          (command_hands_on (describes_of one) info (lawful_of one) is.hands plain called _
          adjacent);
    })

-- a command over a program, which is one that was made by its word alone
pub command_known : {T P : Type 0} (called : List ℕ) (known : Grammar T) {parser : P}
    {own plain : ParseCommand T P} → IsPlainCommand called parser plain → own ≡ plain
    → {made : Grammar T} → IsKnownParser known made → IsKnownParser (known_command called known)
    (command own.adjacent own.names own.info (shown_help own) made)
command_known called known {own = own} plain same is = called_known known own
    (ap (λ c. c.adjacent) same ∙ plain.adjacent) (ap (λ c. c.names) same ∙ plain.names)
    (ap (λ c. c.info) same ∙ plain.info)
    (ap (λ c. shown_help c) same ∙ rw (plain.help, plain.info) refl) refl is

-- a choice of commands
pub choice_known : {T : Type 0} (first second : Grammar T) {one two : Grammar T}
    → IsKnownParser first one → IsKnownParser second two
    → IsKnownParser (choice first second) (choice one two)
choice_known first second these those = record {
  law = λ env. or_part_law _ _ (reads_of (choice first second) env)
      (program_either_law (these.law env) (those.law env) (these.part env) (those.part env))
      (choice_form_part_law (these.part env) (those.part env));
  part = λ env. choice_form_part_law (these.part env) (those.part env);
  also = choice_also these.also those.also;
  shows = λ shape shown.
      (shown.0, shown.1, these.shows shown.0 shown.2, those.shows shown.1 shown.3, shown.4);
  shown = ap₂ joined_shorts these.shown those.shown;
  hands = choice_hands_on (hands_also (λ s doc full it. inl it) these.hands)
      (hands_also (λ s doc full it. inr it) those.hands);
}

-- commands with a closure round them
pub map_known : {A B : Type 0} (make : A → B) (known : Grammar A) {one : Grammar A}
    → IsKnownParser known one → {answers : A → B → Type 0}
    → ((x : A) (v : B) → answers x v → v ≡ make x)
    → IsKnownParser (known_map make known) (closed (mapped answers) one)
map_known make known {one} inner {answers} only = record {
  law = λ env. narrower_form (map_within (outcome_of one) only)
      (or_part_law _ _ (reads_of (known_map make known) env)
      (map_law (inner.law env) (λ x v. v ≡ make x))
      (map_part_law (inner.part env) (λ x v. v ≡ make x)));
  part = λ env. narrower_part_form (map_within (outcome_of one) only)
      (map_part_law (inner.part env) (λ x v. v ≡ make x));
  also = made_also inner.also only;
  shows = inner.shows;
  shown = inner.shown;
  hands = record { all = λ s e t doc full o is. inner.hands.all s e t doc full o is };
}

-- a guard, which checks what is seen, so that it agrees
pub guard_known : {T X : Type 0} {see : T → X} (check : X → Bool) {message : List ℕ}
    {known one : Grammar T} → IsSeen see known → IsKnownParser known one
    → {checks : T → Bool → Type 0} → ((x : T) (b : Bool) → checks x b → b ≡ check (see x))
    → {text : List ℕ} → text ≡ message
    → IsKnownParser (known_guard see check message known) (closed (guarded checks text) one)
guard_known {T} {see = see} check {message} {known} {one} seen inner only text_is =
    rw text_is (record {
      law = λ env. narrower_form (guard_within (outcome_of one) message only)
          (or_part_law _ _ (reads_of (known_guard see check message known) env)
          (guard_law (inner.law env) (λ x b. b ≡ check (see x)) message
          (view_agrees apart (program_form known env) (view_seen seen env))) (part_law env));
      part = λ env. narrower_part_form (guard_within (outcome_of one) message only) (part_law env);
      also = made_also inner.also (λ x v made. (made.0, only x true made.1));
      shows = inner.shows;
      shown = inner.shown;
      hands = record {
        all = λ s e t doc full o is. ⊎_elim (λ refused. inner.hands.all s e t doc full refused is)
            (λ checked. ⊎_elim (λ failed. absurd cc) (λ memory. absurd cc) checked.3) o;
      };
    })
  where
    -- of two values that look alike the check accepts both or none
    apart : (x y v : T) → see x ≡ see y → (guard_closure (λ x b. b ≡ check (see x))).yes x v
        → (guard_closure (λ x b. b ≡ check (see x))).no y → ⊥
    apart x y v e f n = absurd (true≢false (f.1 ∙ (ap check e ∙ sym n)))

    -- as a named part
    part_law : (env : Variables)
        → PartFormLaw env (GuardOutcome (outcome_of one) (λ x b. b ≡ check (see x)) message)
        (keys_of known true)
        (of_part (λ p. part_closed p (guard_closure (λ x b. b ≡ check (see x))))
        (part_form known env))
    part_law env = guard_part_law (inner.part env) (λ x b. b ≡ check (see x)) message
        (part_view_agrees apart (part_form known env) (part_seen seen env))

-- a last field
pub last_known : {T : Type 0} (known : Grammar T) {made : Grammar T} → IsKnownParser known made
    → AreKnownFields (alone known) (alone made)
last_known known inner = record {
  law = λ env. program_alone_law (program_field_law (inner.law env));
  part = inner.part;
  also = inner.also;
  shows = λ shapes shown. (shown.0, inner.shows shown.0 shown.1, shown.2);
  shown = inner.shown;
  hands = inner.hands;
}

-- a field in front of others
pub both_known : {A B : Type 0} (first : Grammar A) (rest : FieldsGrammar B) {one : Grammar A}
    {others : FieldsGrammar B} → IsKnownParser first one → AreKnownFields rest others
    → AreKnownFields (both first rest) (both one others)
both_known first rest {one} is more = record {
  law = λ env. or_part_law _ _ (reads_of (both first rest) env)
      (unnamed_law (program_both_law (program_field_law (is.law env)) (more.law env)))
      (both_part_law (is.part env) (more.part env));
  part = λ env. both_part_law (is.part env) (more.part env);
  also = both_also is.also more.also;
  shows = λ shapes shown.
      (shown.0, shown.1, is.shows shown.0 shown.2, more.shows shown.1 shown.3, shown.4);
  shown = ap₂ joined_shorts is.shown more.shown;
  hands = both_hands_on (lawful_of one) (hands_also (λ s doc full it. inl it) is.hands)
      (hands_also (λ s doc full it. inr it) more.hands);
}

-- with a constructor
pub con_known : {A B : Type 0} (make : A → B) (known : FieldsGrammar A) {those : FieldsGrammar A}
    → AreKnownFields known those → {answers : A → B → Type 0}
    → ((x : A) (v : B) → answers x v → v ≡ make x)
    → IsKnownParser (known_con make known) (product answers those)
con_known make known {those} fields {answers} only = record {
  law = λ env. narrower_form (con_within (outcome_of those) only)
      (or_part_law _ _ (reads_of (known_con make known) env)
      (unnamed_law (program_con_law (λ x v. v ≡ make x) (fields.law env)))
      (con_part_law (fields.part env) (λ x v. v ≡ make x)));
  part = λ env. narrower_part_form (con_within (outcome_of those) only)
      (con_part_law (fields.part env) (λ x v. v ≡ make x));
  also = made_also fields.also only;
  shows = λ shape shown. (shown.0, fields.shows shown.0 shown.1, shown.2);
  shown = fields.shown;
  hands = product_hands_on fields.hands;
}

-- an answer exact by a grammar's names and form is exact for its values, where words are texts
pub exact_for : {T : Type 0} (known : Grammar T) {own : Given} {info : RunInfo} {given : Given}
    {r : Result T ParseFailure} → AnswersAsProgram T (names_of known info)
    (program_form known given.env) given r
    → info ≡ plain_info → given ≡ own → All IsUtf8 own.words → IsExactFor (IsValueBy known own) r
exact_for {T} known {own} {r = r} exact info_is given_is texts =
    let here : AnswersAsProgram T (program_names known) (program_form known own.env) own r =
    rw (info_is, given_is) at exact in
    record { sound = here.sound; complete = here.answered texts }

-- what a run of a known program shows in place of a value is a page that its words ask for
pub asks_for_page : {T : Type 0} (known : Grammar T) (own : Given) {one : Grammar T}
    {info : RunInfo} {given : Given} {r : Result T ParseFailure} → Answers one info given r
    → IsKnownParser known one → (texts : RunInfo → Type 0) → texts info
    → info.help_if_no_args ≡ false → given ≡ own → IfErr r (IfShown (IsPageOf known texts own))
asks_for_page {T} known own {one} {info = info} {r = r} runs is texts told plain given_is =
    asks r (rw (given_is, is.shown) at runs)
  where
    asks : (r : Result T ParseFailure)
        → RunsWords T (outcome_of one) (describes_of one) info (names_of known info) own r
        → IfErr r (IfShown (IsPageOf known texts own))
    asks (Err (failure.Stdout doc full)) runs = (
      info,
      told,
      words_also (of_shapes is.shows (inner_pages known)) (answer_shows (lawful_of one) is.hands
          plain (Err (failure.Stdout doc full)) runs),
    )
    asks (Err (failure.Stderr doc)) runs = tt
    asks (Err failure.Memory) runs = tt
    asks (Ok v) runs = tt

-- a refusal is so, and where there is a premise it shows so
pub refused_so : {T : Type 0} (P Q : ParseFailure → Type 0) {plain : Type 0}
    (r : Result T ParseFailure) → IfErr r P → (plain → IfErr r Q)
    → IfErr r (λ f. P f × (plain → Q f))
refused_so P Q (Ok v) so shows = tt
refused_so P Q (Err f) so shows = (so, shows)

-- what such a refusal of a program without texts of its own shows is a page that its words ask for
pub page_asked : {T : Type 0} (P : ParseFailure → Type 0) (known : Grammar T) (own : Given)
    {info : RunInfo} {given : Given} (r : Result T ParseFailure)
    → IfErr r (λ f. P f × (info.help_if_no_args ≡ false
    → IfShown (IsPageOf known (λ other. other ≡ info) given) f))
    → info ≡ plain_info → given ≡ own
    → IfErr r (IfShown (IsPageOf known (λ other. other ≡ plain_info) own))
page_asked P known own (Ok v) named info_is given_is = tt
page_asked P known own (Err f) named info_is given_is =
    rw (info_is, given_is) at (named.1 (ap (λ info. info.help_if_no_args) info_is))

-- what is said of a value, and beside it
pub also_said : {T : Type 0} (P Q : T → Type 0) (r : Result T ParseFailure) → IfOk r P → IfOk r Q
    → IfOk r (λ v. P v × Q v)
also_said P Q (Ok v) so too = (so, too)
also_said P Q (Err f) so too = tt

-- what such a program without texts of its own deals out
pub dealt_by : {T : Type 0} (P : T → Type 0) (known : Grammar T) (own : Given) {info : RunInfo}
    {given : Given} (r : Result T ParseFailure)
    → IfOk r (λ v. P v × Deals known info given v)
    → info ≡ plain_info → given ≡ own → IfOk r (IsDealtBy known own)
dealt_by P known own (Ok v) dealt info_is given_is = rw (info_is, given_is) at dealt.1
dealt_by P known own (Err f) dealt info_is given_is = tt

-- The fields of a program are known where what they are made of is.

-- a switch
pub switch_known : (names : Names) (help : Option (List Piece)) {named : Named}
    → named ≡ record (key_named names) { help = help } → {present : Bool} → present ≡ true
    → {absent : Option Bool} → absent ≡ Some false
    → IsKnownParser (known_switch names help) (flag IsKept named present absent)
switch_known names help named_is present_is absent_is = rw (named_is, present_is, absent_is)
    (same_known (known_switch names help) tt
    (flag_hands_on IsKept (record (key_named names) { help = help }) true (Some false)))

-- an argument
pub argument_known : {T : Type 0} (means : List ℕ → T → Type 0) (key : KeyWithValue)
    {own : KeyWithValue} → own ≡ key → IsKnownParser (argument means key) (argument means own)
argument_known means key is =
    rw is (same_known (argument means key) tt (argument_hands_on means key))

-- a word
pub word_known : {T : Type 0} (means : List ℕ → T → Type 0) (place : Position)
    (metavar : List ℕ) (help : Option (List Piece)) {position : Position} → position ≡ place
    → {named : List ℕ} → named ≡ metavar → {own : Option (List Piece)} → own ≡ help
    → IsKnownParser (word means place metavar help) (word means position named own)
word_known means place metavar help place_is metavar_is help_is =
    rw (place_is, metavar_is, help_is) (same_known (word means place metavar help) tt
    (positional_hands_on means place metavar))

module _ {T : Type 0} {known made : Grammar T} (is : IsKnownParser known made) where
  -- a repeat
  pub many_known : {catch : Bool} → catch ≡ false
      → IsKnownParser (known_many known) (repeat (many catch) made)
  many_known none = rw none (record {
    law = λ env. or_part_law _ _ (reads_of (known_many known) env) (many_law (is.law env) false)
        (many_part_law (is.part env) false);
    part = λ env. many_part_law (is.part env) false;
    also = made_also (list_also is.also) (λ values v made. made);
    shows = λ shape shown. (shown.0, is.shows shown.0 shown.1, shown.2);
    shown = is.shown;
    hands = many_hands_on (lawful_of made) is.hands false;
  })

  -- what may be left out
  pub optional_known : {catch : Bool} → catch ≡ false
      → IsKnownParser (known_optional known) (optional catch made)
  optional_known none = rw none (record {
    law = λ env. or_part_law _ _ (reads_of (known_optional known) env)
        (optional_law (is.law env) false)
        (optional_form_part_law (is.part env) false);
    part = λ env. optional_form_part_law (is.part env) false;
    also = optional_also is.also;
    shows = λ shape shown. (shown.0, is.shows shown.0 shown.1, shown.2);
    shown = is.shown;
    hands = optional_hands_on is.hands false;
  })

  -- what is this value where it is left out
  pub default_known : {clones : T → T → Type 0} → ((own v : T) → clones own v → v ≡ own)
      → (value : T) {kept : T} → kept ≡ value → {look : Option (List Piece)} → look ≡ None
      → IsKnownParser (known_default value known) (fallback look (cloned clones kept) made)
  default_known {clones} equal value is_kept unseen = rw (is_kept, unseen) (record {
    law = λ env. narrower_form
        (no_more (λ s t r o. fallback_kept equal (outcome_of made) value s r t o))
        (or_part_law _ _ (reads_of (known_default value known) env)
        (fallback_law (is.law env) IsKept value)
        (fallback_part_law (is.part env) IsKept value));
    part = λ env. narrower_part_form
        (no_more (λ s t r o. fallback_kept equal (outcome_of made) value s r t o))
        (fallback_part_law (is.part env) IsKept value);
    also = choice_also is.also (pure_also (λ v gives. equal value v gives));
    shows = λ shape shown. (shown.0, is.shows shown.0 shown.1, shown.2);
    shown = is.shown;
    hands = default_hands_on is.hands clones value;
  })
