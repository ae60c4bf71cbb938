-- Each parser keeps to the laws of its form to a program, where its inner parsers do, by its table
-- too; so does an outcome that allows no more; and the theorem of exactness.
use Rattle.std.proofs.Common.{append-nil, true≢false, bytes_eq, Option, Result, length, ⊎_elim, Err}
use Rattle.std.proofs.Common.{arith, false, refl, true, ◌&&◌, ◌++◌, Bool, List, inl, inr, not, sym}
use Rattle.std.proofs.Common.{◌∙◌, ◌≡◌, ◌⊎◌, Ok, [], ap, ℕ, subst, None, ◌||◌}
use Rattle.std.proofs.lemmas.Bool.{false_from_ne_true, and_parts, le-leb, lt-ltb, or_cases, or_left}
use Rattle.std.proofs.lemmas.Bool.{or_right}
use Rattle.std.proofs.lemmas.Slice.Eq.{bytes_eq-Decides}
use Rattle.bpaf_laws.specs.Combinators.{FallbackOutcome, CollectOutcome, CountOutcome, GuardOutcome}
use Rattle.bpaf_laws.specs.Combinators.{ParseOutcome, GivesAnswer, LastOutcome, ManyOutcome}
use Rattle.bpaf_laws.specs.Combinators.{SomeOutcome, HideOutcome, TurnOutcome, GivesClone}
use Rattle.bpaf_laws.specs.Combinators.{MapOutcome, Gives}
use Rattle.bpaf_laws.specs.Command.{opening_words, is_one_of, Called}
use Rattle.bpaf_laws.specs.Product.{ProductOutcome, BothOutcome}
use Rattle.bpaf_laws.specs.{Choice.ChoiceOutcome, Reading.Outcome}
use Rattle.bpaf_exact.proofs.Commands.{optional_commands, choice_commands, closed_commands}
use Rattle.bpaf_exact.proofs.Commands.{default_commands, last_commands, repeat_commands}
use Rattle.bpaf_exact.proofs.Commands.{some_commands_agree, closed_program}
use Rattle.bpaf_exact.specs.ProgramForm.{CommandsLaw, program_default, program_last, program_repeat}
use Rattle.bpaf_exact.specs.ProgramForm.{program_dressed, are_words_apart, before_commands, FormLaw}
use Rattle.bpaf_exact.specs.ProgramForm.{product_reading, program_choice, program_closed, completed}
use Rattle.bpaf_exact.specs.ProgramForm.{product_roles, program_alone, program_field, program_value}
use Rattle.bpaf_exact.specs.ProgramForm.{program_con, whole_value, CommandEval, RecordValue, Agrees}
use Rattle.bpaf_exact.specs.ProgramForm.{RunsExactly, is_program, may_follow, NamedLaw, no_program}
use Rattle.bpaf_exact.specs.ProgramForm.{program_if, CellsValue, ProgramLaw, WordsApart, RunAnswer}
use Rattle.bpaf_exact.specs.ProgramForm.{commands, complete, is_named, EndLaw, whole_program}
use Rattle.bpaf_exact.specs.ProgramForm.{IsSpelledLine, program_both, line_cells, is_record}
use Rattle.bpaf_exact.specs.ProgramForm.{are_plain, program_optional, IsAcceptedOrWant}
use Rattle.bpaf_exact.specs.ProgramForm.{program_command, ProgramForm, alternative, choice_only}
use Rattle.bpaf_exact.specs.ProgramForm.{Accepted, product, IsExact, single, RunRan, part}
use Rattle.bpaf_exact.specs.ProgramForm.{after_parts, or_part, FieldThen, or_form, program_either}
use Rattle.bpaf_exact.specs.ProgramForm.{DefaultCommands, OptionalCommands, as_last, both_last}
use Rattle.bpaf_exact.specs.ProgramForm.{is_commands, last_choice, ChosenLaw}
use Rattle.bpaf_exact.proofs.Product.{named_both_law, named_last_law, named_con_law, none_counted}
use Rattle.bpaf_exact.proofs.Product.{count_none, both_law, last_law, con_law}
use Rattle.bpaf_exact.proofs.Wrappers.{fallback_field, closed_single, left_out_law, closed_law}
use Rattle.bpaf_exact.proofs.Wrappers.{single_law}
use Rattle.bpaf_exact.proofs.Tables.{AllowsNoMore, no_more, narrower, narrower_part, map_table}
use Rattle.bpaf_exact.proofs.Tables.{hides, parse_table, guard_table, optional_table, many_table}
use Rattle.bpaf_exact.proofs.Tables.{some_table, collect_table, count_table, fallback_table}
use Rattle.bpaf_exact.proofs.Programs.{record_program, command_law, con_program, before_law}
use Rattle.bpaf_exact.proofs.Names.{apart_of_names, either_owns, foreign_of, both_hold}
use Rattle.bpaf_exact.proofs.Repeat.{some_agrees_on, last_of_law, repeat_law}
use Rattle.bpaf_exact.proofs.PartReads.{FormReads, field_law_of, key_law_of, keys_groups}
use Rattle.bpaf_exact.proofs.{PartBefore.alone_part_law, PartBefore.then_law, Classes.memory_class}
use Rattle.bpaf_exact.proofs.{Cuts.one_cut, Places.open_present, Places.same_cells}
use Rattle.bpaf_exact.specs.Flat.{FieldsReading, RepeatOutcome, OptionalValue, FallbackValue, cells}
use Rattle.bpaf_exact.specs.Flat.{guard_closure, class, parse_closure, both_reading, OptionalEval}
use Rattle.bpaf_exact.specs.Flat.{FieldLaw, list_closure, some_closure, FieldKind, ClosedValue}
use Rattle.bpaf_exact.specs.Flat.{ErrorClass, ClosedEval, keys, answer_closure, map_closure}
use Rattle.bpaf_exact.specs.Flat.{NonePresent, FieldsLaw, IsWholeIn, Variables, SingleLaw, OfMemory}
use Rattle.bpaf_exact.specs.Flat.{error_class, repeated, ReadOff, Refused, Closure, Decides, Before}
use Rattle.bpaf_exact.specs.Flat.{ByName, Caught, Groups, LastOf, EachWord, Gap, OneWord, AgreesOn}
use Rattle.bpaf_exact.specs.Flat.{FrontOf, KeyLaw, gap_of}
use Rattle.bpaf_exact.specs.Pieces.{are_all_apart, LinePiece, either, Roles, Owns, Cut, no_roles}
use Rattle.bpaf_exact.specs.Pieces.{Cells, Apart}
use Rattle.bpaf_exact.specs.Parts.{Part, PartForm, PartFormLaw, PartThen, some_part, never_part}
use Rattle.bpaf_exact.specs.Parts.{no_part}
use Rattle.std.specs.List.{list_all}
use Rattle.bpaf_base.specs.{Items.is_command_word, declared.arg.Arg.Arg}
use Rattle.bpaf_doc.specs.Names.{Names}
use Rattle.bpaf_line.specs.Situation.{Situation, beginning, Context, item_in}
use Rattle.bpaf_line.specs.{declared.error.Error.Error, Messages.is_wrong_input}
use Rattle.bpaf_exact.proofs.LastChoices.{commands_last_law, last_choice_law, last_program}
use Rattle.bpaf_exact.proofs.{LastChoices.part_last_law, Names.both_own, PartBefore.swap_apart}
use Rattle.std.proofs.lemmas.List.Folds.{list_any-append}

-- the cells with which parsing begins are those of the line
pub first_cells_are : (context : Context) → cells (beginning context) ≡ line_cells context
unfolding cells
first_cells_are context =
    same_cells (item_in context) (length context.line) (λ p l. grind (arith, le-leb, lt-ltb))

-- at the beginning the scope is the whole line
pub all_whole : {context : Context} → IsWholeIn context.env (beginning context)
all_whole = record { end = refl; front = λ p l. absurd (omega arith); environment = refl }

-- A run, by what the outcome answers at the beginning.
module _ {V : Type 0} {outcome : Outcome V} {context : Context} (value : CellsValue V) where
  -- a value comes only where the outcome gives it and leaves nothing
  pub run_sound : ((t : Situation) (v : V) → outcome (beginning context) (Ok v) t → NonePresent
      (cells t) → value (cells (beginning context)) v) → {a : RunAnswer V} → RunRan V outcome
      (beginning context) a → (v : V) → a ≡ Accepted v → value (line_cells context) v
  run_sound ok x1 v h = grind (arith, first_cells_are, none_counted, open_present)

  -- each answer is one where each of the outcome is one, with nothing left, or want of memory
  pub run_complete : ((t : Situation) (v : V) → outcome (beginning context) (Ok v) t
      → value (cells (beginning context)) v × NonePresent (cells t))
      → ((t : Situation) (e : Error) → outcome (beginning context) (Err e) t → class e ≡ OfMemory)
      → {a : RunAnswer V} → RunRan V outcome (beginning context) a
      → IsAcceptedOrWant (value (line_cells context)) a
  run_complete all want x = grind (arith, count_none, first_cells_are, open_present)

module _ {V : Type 0} {outcome : Outcome V} {r : Roles} {reading : FieldsReading V}
    {context : Context} (l : FieldsLaw context.env V outcome r reading) where
  -- a value comes only where it is one of the record's
  sound : {a : RunAnswer V} → RunRan V outcome (beginning context) a → (v : V) → a ≡ Accepted v
      → RecordValue r reading.value context v
  sound = run_sound (ReadOff V r reading.value)
      (λ t v o. (l.keeps.ok (beginning context) t v all_whole o).read)

  -- THE THEOREM: on every line each answer of a run is a value of the record, want of memory, or a
  -- refusal where the record has no value; for the line has one cut.
  pub exact : {a : RunAnswer V} → RunRan V outcome (beginning context) a
      → IsExact V r reading context a
  exact ran = record {
    sound = sound ran;
    complete = λ os c h. let here : Cut r (cells (beginning context)) os
        = rw (first_cells_are context) c in
        run_complete (ReadOff V r reading.value)
        (λ t v o. let i = l.keeps.ok (beginning context) t v all_whole o in
        let n = i.all os here h in (i.read n, n))
        (λ t e o. l.keeps.err (beginning context) t e all_whole o os here h) ran;
    refused = λ os c none v h. let i = sound ran v h in
        none (rw (← one_cut l.named i.cut c) (l.has_each i.cut_into v i.read));
  }

-- where a test holds
if_law : {env : Variables} {T : Type 0} {outcome : Outcome T} {names : List Names}
    {words : List (List ℕ)} {s : ProgramForm T} (b : Bool)
    → (b ≡ true → FormLaw env outcome names words s)
    → FormLaw env outcome names words (program_if b s)
if_law b f = grind arith

-- a form, where it isn't a named field
abbrev pub unnamed : {T : Type 0} → ProgramForm T → ProgramForm T
unnamed (alternative wide q each) = no_program
unnamed (single wide ByName q group gap) = no_program
unnamed (complete wide ByName q value) = no_program
unnamed s = s

-- it keeps to the law where the form does
pub unnamed_law : {env : Variables} {T : Type 0} {outcome : Outcome T} {names : List Names}
    {words : List (List ℕ)} {s : ProgramForm T} → FormLaw env outcome names words s
    → FormLaw env outcome names words (unnamed s)
unnamed_law l = grind arith

-- a named field keeps to the law of its part
pub named_law : {env : Variables} {T : Type 0} {outcome : Outcome T} {names : List Names}
    {words : List (List ℕ)} (s : ProgramForm T) (p : PartForm T) → FormReads names s p
    → FormLaw env outcome names words (unnamed s) → PartFormLaw env outcome names p
    → FormLaw env outcome names words s
named_law {env} {T} {outcome} {names} (alternative wide q each) (some_part p) r l lp =
    let i = r.by.part in
    record {
      by = subst (λ z. KeyLaw env T outcome z (FrontOf T each) (gap_of each None) × Owns z names)
          i.0 (key_law_of lp.by.0 (keys_groups i.1.keys i.1.absence), lp.by.1);
    }
named_law {env} {T} {outcome} {names} (single wide ByName q group gap) (some_part p) r l lp =
    let i = r.by.part in
    record {
      by = subst (λ z. KeyLaw env T outcome z group gap × Owns z names) i.0
          (key_law_of lp.by.0 i.1, lp.by.1);
    }
named_law {env} {T} {outcome} {names} (complete wide ByName q value) (some_part p) r l lp =
    let i = r.by.part in
    record {
      by = subst (λ z. FieldLaw env T outcome ByName z value × Owns z names) i.0
          (field_law_of lp.by.0 i.1, lp.by.1);
    }
named_law s p r l lp = grind arith

-- a closure round what ends in commands
closed_end : {env : Variables} {A B : Type 0} {inner : Outcome A} {names : List Names}
    {value : CellsValue A} (f : Closure A B) → ((cs : Cells) → AgreesOn (value cs) f)
    → EndLaw env A inner names value
    → EndLaw env B (ClosedEval A B inner f Refused) names (ClosedValue value f)
closed_end f g l =
    record { roles = l.roles; program = closed_program g Refused l.program; owns = l.owns }

-- a closure
pub program_closed_law : {env : Variables} {A B : Type 0} {inner : Outcome A} {names : List Names}
    {words : List (List ℕ)} {s : ProgramForm A} (f : Closure A B) → Agrees f s
    → FormLaw env inner names words s
    → FormLaw env (ClosedEval A B inner f Refused) names words (unnamed (program_closed f s))
program_closed_law {s = single wide (OneWord b) q group gap} f g l =
    record { by = (closed_single l.by.0 g.0, l.by.1) }
program_closed_law {s = single wide (EachWord b) q group gap} f g l = absurd l.by
program_closed_law {s = complete wide (OneWord b) q value} f g l =
    record { by = (closed_law l.by.0 g Refused, l.by.1) }
program_closed_law {s = complete wide (EachWord b) q value} f g l =
    record { by = (closed_law l.by.0 g Refused, l.by.1) }
program_closed_law {s = commands false value} f g l = record {
  by = record {
    roles = l.by.roles;
    commands = closed_commands g Refused l.by.commands;
    owns = l.by.owns;
  };
}
program_closed_law {s = commands true value} f g l = record { by = closed_end f g l.by }
program_closed_law {s = before_commands value} f g l = record { by = closed_end f g l.by }
program_closed_law {s = after_parts value} f g l = record { by = closed_end f g l.by }
program_closed_law {s = last_choice p own value} f g l = record {
  by = closed_end f g (record {
    roles = _;
    program = last_program l.by.law;
    owns = both_own l.by.part_owns l.by.owns;
  });
}
program_closed_law f g l = record { by = tt }

-- A closure that never refuses agrees with every form: map, count, collect, a constructor.
pub never_refuses : {A B : Type 0} (f : Closure A B) → ((x : A) → f.no x → ⊥) → (s : ProgramForm A)
    → Agrees f s
never_refuses f n x = grind arith

-- a repeat or default round a field or commands
completed_law : {env : Variables} {T B : Type 0} {inner : Outcome T} {outer : Outcome B}
    {names : List Names} {words more : List (List ℕ)} {s : ProgramForm T}
    (kind : FieldKind → FieldKind) (value : Groups T → Gap T → List LinePiece → B → Type 0)
    (round : CellsValue T → CellsValue B) → kind ByName ≡ ByName
    → ((stops : Bool) (q : Roles) → Owns no_roles names
    → Owns (keys (kind (OneWord stops)) q) names)
    → ((stops : Bool) (q : Roles) (group : Groups T) (gap : Gap T) → SingleLaw env T inner stops q
    group gap → FieldLaw env B outer (kind (OneWord stops)) q (value group gap))
    → ((r : Roles) (v : CellsValue T) → CommandsLaw env T inner r words v
    → ProgramLaw env B outer r (round v)) → FormLaw env inner names words s
    → FormLaw env outer names more (unnamed (completed kind value round s))
completed_law {env} {T} {B} {inner} {outer} {names} {words} {more} {s} kind value round same owns law
    of_commands l = by_form s l
  where
    by_named : (wide : Bool) (k : FieldKind) (q : Roles) (v : List LinePiece → B → Type 0)
        → k ≡ ByName → FormLaw env outer names more (unnamed (complete wide k q v))
    by_named wide ByName q v e = record { by = tt }
    by_named wide _ q v e = absurd cc

    by_form : (s : ProgramForm T) → FormLaw env inner names words s
        → FormLaw env outer names more (unnamed (completed kind value round s))
    by_form (alternative wide q each) l = by_named wide (kind ByName) q _ same
    by_form (single wide ByName q group gap) l = by_named wide (kind ByName) q _ same
    by_form (single wide (OneWord stops) q group gap) l =
        unnamed_law {s = complete wide (kind (OneWord stops)) q (value group gap)}
        (record { by = (law stops q group gap l.by.0, owns stops q l.by.1) })
    by_form (single wide (EachWord stops) q group gap) l = absurd l.by
    by_form (commands false v) l = record {
      by = record {
        roles = l.by.roles;
        program = of_commands l.by.roles v l.by.commands;
        owns = l.by.owns;
      };
    }
    by_form _ l = record { by = tt }

-- what some, collect and count make of the list; a refusal of theirs may be of any class
listed_law : {env : Variables} {T B : Type 0} {inner : Outcome T} {names : List Names}
    {words : List (List ℕ)} {s : ProgramForm T} (idle : Bool) (f : Closure (List T) B)
    (c : ErrorClass) → Agrees f (unnamed (program_repeat s)) → FormLaw env inner names words s
    → FormLaw env (ClosedEval (List T) B (RepeatOutcome inner idle) f c) names []
    (unnamed (program_closed f (program_repeat s)))
listed_law {s = single wide (OneWord b) q group gap} idle f c g l =
    record { by = (closed_law (repeat_law l.by.0 idle) g c, l.by.1) }
listed_law {s = single wide (EachWord b) q group gap} idle f c g l = absurd l.by
listed_law {s = commands false value} idle f c g l = record {
  by = record {
    roles = l.by.roles;
    program = closed_program g c (repeat_commands l.by.commands idle);
    owns = l.by.owns;
  };
}
listed_law idle f c g l = record { by = tt }

-- some needs no premise: of the lists that the same pieces or cells give, all are empty or none is
some_agrees : {env : Variables} {T : Type 0} {inner : Outcome T} {names : List Names}
    {words : List (List ℕ)} {s : ProgramForm T} → FormLaw env inner names words s
    → Agrees (some_closure T) (unnamed (program_repeat s))
some_agrees {s = single wide (OneWord b) q group gap} l = some_agrees_on l.by.0
some_agrees {s = single wide (EachWord b) q group gap} l = absurd l.by
some_agrees {s = commands false value} l = some_commands_agree l.by.commands
some_agrees l = tt

-- what may be left out
program_optional_law : {env : Variables} {T : Type 0} {inner : Outcome T} {names : List Names}
    {words : List (List ℕ)} {s : ProgramForm T} → FormLaw env inner names words s
    → FormLaw env (OptionalEval T inner) names [] (unnamed (program_optional s))
program_optional_law {T} l = completed_law (λ k. k) (OptionalValue T) (OptionalCommands T) refl
    (λ k q o. o) (λ k q group gap l. left_out_law l) (λ r v l. optional_commands l) l

-- an item is one word
same_word : (word other : List ℕ) (k : Arg) → is_command_word word k ≡ true
    → is_command_word other k ≡ true → word ≡ other
same_word word other k = grind (arith, bytes_eq-Decides)

-- a word is one of at most one of two lists of which none is among the other
pub words_apart : (words others : List (List ℕ)) → are_words_apart words others ≡ true
    → WordsApart words others
words_apart words others apart k h = false_from_ne_true (is_one_of others k)
    (λ f. both_hold (λ word. list_all (λ other. not (bytes_eq word other)) others)
    (λ word. is_command_word word k)
    (λ word all e. both_hold (λ other. not (bytes_eq word other)) (λ other. is_command_word other k)
    (λ other t i. true≢false
    (sym t ∙ ap not ((bytes_eq-Decides word other).1 (same_word word other k e i)))) others all f)
    words apart h)

-- a choice of two
pub program_choice_law : {env : Variables} {T : Type 0} {a b : Outcome T} {own others : List Names}
    {words more : List (List ℕ)} {s t : ProgramForm T} → FormLaw env a own words s
    → FormLaw env b others more t → FormLaw env (ChoiceOutcome a b) (own ++ others) (words ++ more)
    (unnamed (program_choice own others words more s t))
program_choice_law {words} {more} {s = commands false x} {t = commands false y} la lb =
    unnamed_law (if_law (are_words_apart words more) (λ h. record {
      by = record {
        roles = either la.by.roles lb.by.roles;
        commands = choice_commands la.by.commands lb.by.commands (words_apart words more h);
        owns = either_owns la.by.owns lb.by.owns;
      };
    }))
program_choice_law la lb = grind arith

-- commands or a named part, as a choice of such
pub as_last_law : {env : Variables} {T : Type 0} {a : Outcome T} {names : List Names}
    {words : List (List ℕ)} {p : PartForm T} {s : ProgramForm T} → FormLaw env a names words s
    → PartFormLaw env a names p → FormLaw env a names words (as_last words p s)
as_last_law {names} {s = commands false value} l lp = record {
  by = record {
    roles = l.by.roles;
    law = commands_last_law l.by.commands;
    owns = l.by.owns;
    part_owns = record { own = λ k e. absurd cc };
    among = λ k h. h;
  };
}
as_last_law {s = last_choice q own value} l lp = record { by = l.by }
as_last_law {p = some_part q} l lp = record {
  by = record {
    roles = q.roles;
    law = part_last_law lp.by.0;
    owns = lp.by.1;
    part_owns = lp.by.1;
    among = λ k h. absurd (true≢false (sym h));
  };
}
as_last_law {p = no_part} l lp = record { by = tt }

-- the parts of two such are apart
abbrev pub PartsApart : {T : Type 0} → ProgramForm T → ProgramForm T → Type 0
PartsApart (last_choice p own a) (last_choice q others b) = Apart p.roles q.roles
PartsApart _ _ = Unit {0}

-- what is among them is among theirs
among_both : (x y words more : List (List ℕ)) (k : Arg)
    → (is_one_of x k ≡ true → is_one_of words k ≡ true)
    → (is_one_of y k ≡ true → is_one_of more k ≡ true) → is_one_of (x ++ y) k ≡ true
    → is_one_of (words ++ more) k ≡ true
among_both x y words more k f g h =
    list_any-append (λ word. is_command_word word k) words more ∙ ⊎_elim
    (λ i. or_left _ (is_one_of more k) (f i)) (λ i. or_right (is_one_of words k) _ (g i))
    (or_cases (is_one_of x k) (is_one_of y k)
    (sym (list_any-append (λ word. is_command_word word k) x y) ∙ h))

-- words among those that are apart are
pub own_apart : {env : Variables} {T : Type 0} {a b : Outcome T} {own others : List Names}
    {words more x y : List (List ℕ)} {p q : Part T} {v w : CellsValue T}
    → ChosenLaw env a own words p x v → ChosenLaw env b others more q y w → WordsApart words more
    → WordsApart x y
own_apart {y = y} la lb words_apart k h = false_from_ne_true (is_one_of y k)
    (λ i. true≢false (sym (lb.among k i) ∙ words_apart k (la.among k h)))

-- a choice of two such
pub both_last_law : {env : Variables} {T : Type 0} {a b : Outcome T} {own others : List Names}
    {words more : List (List ℕ)} (s t : ProgramForm T) → WordsApart words more → PartsApart s t
    → FormLaw env a own words s → FormLaw env b others more t
    → FormLaw env (ChoiceOutcome a b) (own ++ others) (words ++ more) (both_last s t)
both_last_law {words} {more} (last_choice p x v) (last_choice q y w) words_apart apart la lb =
    record {
      by = record {
        roles = either la.by.roles lb.by.roles;
        law = last_choice_law la.by.law lb.by.law (own_apart la.by lb.by words_apart) apart;
        owns = either_owns la.by.owns lb.by.owns;
        part_owns = either_owns la.by.part_owns lb.by.part_owns;
        among = λ k h. among_both x y words more k (la.by.among k) (lb.by.among k) h;
      };
    }
both_last_law _ _ words_apart apart la lb = record { by = tt }

-- where the keys are, or one has no part
pub parts_apart : {env : Variables} {T : Type 0} {a b : Outcome T} (own others : List Names)
    {words more : List (List ℕ)} (s t : ProgramForm T) (p r : PartForm T)
    → FormLaw env a own words (as_last words p s) → FormLaw env b others more (as_last more r t)
    → (are_all_apart own others || (is_commands s || is_commands t)) ≡ true
    → PartsApart (as_last words p s) (as_last more r t)
parts_apart {env} {T} {a} {b} own others {words} {more} s t p r x y h =
    by_test (are_all_apart own others) refl
  where
    by_names : (u w : ProgramForm T) → FormLaw env a own words u → FormLaw env b others more w
        → are_all_apart own others ≡ true → PartsApart u w
    by_names (last_choice p c v) (last_choice q d w) x y e =
        apart_of_names x.by.part_owns y.by.part_owns e
    by_names _ _ x y e = tt

    never_apart : (q : Roles) → Apart no_roles q
    never_apart q = record { left = λ k e. absurd cc; right = λ k e. refl }

    by_left : (own : List (List ℕ)) (v : CellsValue T) (w : ProgramForm T)
        → PartsApart (last_choice never_part own v) w
    by_left own v (last_choice q others b) = never_apart q.roles
    by_left own v _ = tt

    by_right : (u : ProgramForm T) (own : List (List ℕ)) (v : CellsValue T)
        → PartsApart u (last_choice never_part own v)
    by_right (last_choice q others b) own v = swap_apart (never_apart q.roles)
    by_right _ own v = tt

    by_commands : (s t : ProgramForm T) → (is_commands s || is_commands t) ≡ true
        → PartsApart (as_last words p s) (as_last more r t)
    by_commands (commands false v) t h = by_left words v (as_last more r t)
    by_commands s (commands false v) h = by_right (as_last words p s) more v
    by_commands _ _ h = absurd cc

    by_test : (z : Bool) → are_all_apart own others ≡ z
        → PartsApart (as_last words p s) (as_last more r t)
    by_test true e = by_names (as_last words p s) (as_last more r t) x y e
    by_test false e = by_commands s t (sym (ap (λ z. z || (is_commands s || is_commands t)) e) ∙ h)

-- where a form is no program, another
or_form_law : {env : Variables} {T : Type 0} {outcome : Outcome T} {names : List Names}
    {words : List (List ℕ)} (s t : ProgramForm T)
    → FormLaw env outcome names words (unnamed s)
    → FormLaw env outcome names words (unnamed t)
    → FormLaw env outcome names words (unnamed (or_form s t))
or_form_law s t l m = grind arith

-- a choice of two, which are named parts too or aren't
pub program_either_law : {env : Variables} {T : Type 0} {a b : Outcome T} {own others : List Names}
    {words more : List (List ℕ)} {p r : PartForm T} {s t : ProgramForm T}
    → FormLaw env a own words s → FormLaw env b others more t → PartFormLaw env a own p
    → PartFormLaw env b others r → FormLaw env (ChoiceOutcome a b) (own ++ others) (words ++ more)
    (unnamed (program_either own others words more p r s t))
program_either_law {own} {others} {words} {more} {p} {r} {s} {t} la lb pa pb =
    let x = as_last_law la pa in
    let y = as_last_law lb pb in
    or_form_law _ _ (program_choice_law la lb) (unnamed_law (if_law (are_words_apart words more
    && (are_all_apart own others || (is_commands s || is_commands t)))
    (λ h. let tests = and_parts (are_words_apart words more) _ h in
    both_last_law (as_last words p s) (as_last more r t) (words_apart words more tests.0)
    (parts_apart own others s t p r x y tests.1) x y)))

-- a product of fields, or what ends in commands, keeps to the laws of a program
end_law : {env : Variables} {T : Type 0} {outcome : Outcome T} {names : List Names}
    (s : ProgramForm T) → is_program (program_alone s) ≡ true
    → FormLaw env outcome names [] (program_alone s)
    → EndLaw env T outcome names (whole_value (program_alone s))
end_law (complete wide k q value) h l =
    record { roles = _; program = record_program l.by.0; owns = l.by.1 }
end_law (product wide false q fields) h l =
    record { roles = _; program = record_program l.by.0; owns = l.by.1 }
end_law (commands optional value) h l = l.by
end_law (before_commands value) h l = l.by
end_law (part p) h l = record { roles = p.roles; program = alone_part_law l.by.0; owns = l.by.1 }
end_law (after_parts value) h l = l.by
end_law _ h l = absurd cc

module _ {env : Variables} {T : Type 0} {outcome : Outcome T} {names : List Names}
    {words : List (List ℕ)} where
  -- another look
  pub program_dressed_law : {s : ProgramForm T} → FormLaw env outcome names words s
      → FormLaw env outcome names words (program_dressed s)
  program_dressed_law l = grind arith

  -- one parser of a choice
  pub choice_only_law : {s : ProgramForm T} → FormLaw env outcome names words s
      → FormLaw env outcome names words (choice_only s)
  choice_only_law l = grind arith

  -- a field of a product, which may be a product of named fields
  pub program_field_law : {s : ProgramForm T} → FormLaw env outcome names words s
      → FormLaw env outcome names words (program_field s)
  program_field_law {s = last_choice p own value} l = record {
    by = record {
      roles = _;
      program = last_program l.by.law;
      owns = both_own l.by.part_owns l.by.owns;
    };
  }
  program_field_law l = grind (arith, single_law)

  -- the last field, or one alone
  pub program_alone_law : {s : ProgramForm T} → FormLaw env outcome names words s
      → FormLaw env outcome names [] (program_alone s)
  program_alone_law l = grind (arith, last_law, append-nil, either_owns, named_last_law)

  -- a whole program
  pub whole_law : {s : ProgramForm T} → FormLaw env outcome names words s
      → FormLaw env outcome names [] (whole_program s)
  whole_law {s = product wide named q fields} l = record { by = l.by }
  whole_law {s} l = program_alone_law (program_field_law {s = s} l)

  -- a flat record keeps to the laws of a list of fields
  pub record_law : {s : ProgramForm T} → is_record s ≡ true → FormLaw env outcome names words s
      → FieldsLaw env T outcome (product_roles (whole_program s))
      (product_reading (whole_program s))
  record_law h l = grind (arith, whole_law)

  -- each program keeps to those of one
  pub program_law : {s : ProgramForm T} → is_program s ≡ true → FormLaw env outcome names words s
      → EndLaw env T outcome names (program_value s)
  program_law {s = product wide named q fields} h l =
      record { roles = q; program = record_program l.by.0; owns = l.by.1 }
  program_law {s = no_program} h l = absurd cc
  program_law {s} h l = end_law (program_field s) refl (whole_law {s = s} l)

-- a command
pub program_command_law : {env : Variables} {T : Type 0} {inner : Outcome T} {names : List Names}
    {words : List (List ℕ)} {s : ProgramForm T} (apart : Bool) (called : Called)
    → FormLaw env inner names words s
    → FormLaw env (CommandEval T inner called) names (opening_words called)
    (program_command false apart called s)
program_command_law {s} apart called l =
    if_law ((apart && are_plain (opening_words called)) && is_program s)
    (λ h. let tests = and_parts (apart && are_plain (opening_words called)) (is_program s) h in
    let plain = (and_parts apart (are_plain (opening_words called)) tests.0).1 in
    let law = program_law tests.1 l in record {
      by = record {
        roles = law.roles;
        commands = command_law law.program called plain;
        owns = law.owns;
      };
    })

-- fields that may follow keep apart
follows : (k : FieldKind) (q : Roles) {r : Roles} {own : List Names} (others : List Names)
    → Owns (keys k q) own → Owns r others → may_follow k own others ≡ true → Before k q r
follows k q others a b h = grind (arith, apart_of_names, foreign_of, false_from_ne_true)

module _ {env : Variables} {A B : Type 0} {first : Outcome A} {rest : Outcome B}
    (own others : List Names) {words : List (List ℕ)} where
  -- a named part before what keeps to the laws of a program
  part_before : {p : Part A} {r : Roles} {behind : CellsValue B}
      → FormLaw env first own words (part p) → ProgramLaw env B rest r behind → Owns r others
      → FormLaw env (BothOutcome first rest) (own ++ others) []
      (program_if (are_all_apart own others) (after_parts (PartThen p behind)))
  part_before la lr owns = if_law (are_all_apart own others) (λ h. record {
    by = record {
      roles = _;
      program = then_law la.by.0 lr (apart_of_names la.by.1 owns h);
      owns = either_owns la.by.1 owns;
    };
  })

  -- a named field before what is a part or follows parts
  before_others : {wide : Bool} {q r : Roles} {fv : List LinePiece → A → Type 0}
      {behind : CellsValue B} → ProgramLaw env B rest r behind
      → FormLaw env first own words (complete wide ByName q fv) → Owns r others
      → FormLaw env (BothOutcome first rest) (own ++ others) []
      (program_if (are_all_apart own others) (after_parts (FieldThen A B q fv behind)))
  before_others lr la owns = if_law (are_all_apart own others) (λ h. record {
    by = record {
      roles = _;
      program = before_law la.by.0 lr (apart_of_names la.by.1 owns h);
      owns = either_owns la.by.1 owns;
    };
  })

-- a field before others
pub program_both_law : {env : Variables} {A B : Type 0} {first : Outcome A} {rest : Outcome B}
    {own others : List Names} {words : List (List ℕ)} {s : ProgramForm A} {t : ProgramForm B}
    → FormLaw env first own words s → FormLaw env rest others [] t
    → FormLaw env (BothOutcome first rest) (own ++ others) [] (program_both own others s t)
program_both_law {env} {A} {B} {first} {rest} {own} {others} {s = complete wide k q fv}
    {t = product other named r fields} la lb =
    if_law (may_follow k own others) (λ h. let after = follows k q others la.by.1 lb.by.1 h in
    record {
      by = (
        both_law la.by.0 lb.by.0 after,
        either_owns la.by.1 lb.by.1,
        by_names k named la.by.0 lb.by.2 after,
      );
    })
  where
    by_names : (j : FieldKind) (all : Bool) → FieldLaw env A first j q fv
        → NamedLaw env all rest r fields.value → Before j q r
        → NamedLaw env (is_named j && all) (BothOutcome first rest) (either (keys j q) r)
        (both_reading j q fv fields).value
    by_names ByName true l m apart = named_both_law fields l m apart
    by_names _ _ l m apart = tt
program_both_law {own} {others} {s = complete wide ByName q fv} {t = before_commands rv} la lb =
    if_law (are_all_apart own others) (λ h. record {
      by = record {
        roles = either q lb.by.roles;
        program = before_law la.by.0 lb.by.program (apart_of_names la.by.1 lb.by.owns h);
        owns = either_owns la.by.1 lb.by.owns;
      };
    })
program_both_law {own} {others} {s = complete wide ByName q fv} {t = part p} la lb =
    before_others own others (alone_part_law lb.by.0) la lb.by.1
program_both_law {own} {others} {s = complete wide ByName q fv} {t = after_parts rv} la lb =
    before_others own others lb.by.program la lb.by.owns
program_both_law {own} {others} {s = part p} {t = product wide named r fields} la lb =
    part_before own others la (record_program lb.by.0) lb.by.1
program_both_law {own} {others} {s = part p} {t = before_commands rv} la lb =
    part_before own others la lb.by.program lb.by.owns
program_both_law {own} {others} {s = part p} {t = after_parts rv} la lb =
    part_before own others la lb.by.program lb.by.owns
program_both_law la lb = record { by = tt }

-- the constructor of what ends in commands
con_end : {env : Variables} {A B : Type 0} {inner : Outcome A} {names : List Names}
    {value : CellsValue A} (makes : A → B → Type 0) → EndLaw env A inner names value
    → EndLaw env B (ProductOutcome inner makes) names (ClosedValue value (map_closure makes))
con_end makes l = record { roles = l.roles; program = con_program makes l.program; owns = l.owns }

-- the constructor of a product
pub program_con_law : {env : Variables} {A B : Type 0} {inner : Outcome A} {names : List Names}
    {s : ProgramForm A} (makes : A → B → Type 0) → FormLaw env inner names [] s
    → FormLaw env (ProductOutcome inner makes) names [] (program_con (map_closure makes) s)
program_con_law {env} {A} {B} {inner} {s = product wide named q fields} makes l =
    record { by = (con_law makes l.by.0, l.by.1, by_name named l.by.2) }
  where
    by_name : (all : Bool) → NamedLaw env all inner q fields.value
        → NamedLaw env all (ProductOutcome inner makes) q
        (ClosedValue fields.value (map_closure makes))
    by_name true l = named_con_law makes l
    by_name false l = tt
program_con_law {s = before_commands value} makes l = record { by = con_end makes l.by }
program_con_law {s = after_parts value} makes l = record { by = con_end makes l.by }
program_con_law makes l = record { by = tt }

-- what is a part, or as it was
pub or_part_law : {env : Variables} {T : Type 0} {outcome : Outcome T} {names : List Names}
    {words : List (List ℕ)} (s : ProgramForm T) (p : PartForm T)
    → FormReads names (or_part s p) p → FormLaw env outcome names words (unnamed s)
    → PartFormLaw env outcome names p → FormLaw env outcome names words (or_part s p)
or_part_law no_program (some_part p) r l lp = record { by = lp.by }
or_part_law (last_choice q own value) (some_part p) r l lp = record { by = lp.by }
or_part_law (after_parts value) (some_part p) r l lp = record { by = lp.by }
or_part_law s p r l lp = named_law _ p r l lp

-- THE THEOREM: on every line, spelled by words, an answer of a run of a program is a value only
-- where that is one of the program's; and where it has a value, it is one, or want of memory.
pub runs_as_program : {V : Type 0} {outcome : Outcome V} {names : List Names}
    {words : List (List ℕ)} {s : ProgramForm V} → is_program s ≡ true → (context : Context)
    → FormLaw context.env outcome names words s → (a : RunAnswer V)
    → RunRan V outcome (beginning context) a
    → (IsSpelledLine context → (v : V) → a ≡ Accepted v → program_value s (line_cells context) v)
    × ((u : V) → program_value s (line_cells context) u
    → IsAcceptedOrWant (program_value s (line_cells context)) a)
runs_as_program {s} h context l a ran =
    let law = (program_law h l).program.keeps in (
      λ spelled. run_sound (program_value s)
          (λ t v o. (law.ok (beginning context) t v all_whole o).read spelled) ran,
      λ u value. let here : program_value s (cells (beginning context)) u
          = rw (first_cells_are context) value in run_complete (program_value s)
          (λ t v o. (law.ok (beginning context) t v all_whole o).all u here)
          (λ t e o. law.err (beginning context) t e all_whole o u here) ran,
    )

-- each answer of a run of a flat record is exact
pub runs_exactly : {V : Type 0} {outcome : Outcome V} {names : List Names}
    {words : List (List ℕ)} {s : ProgramForm V} → is_record s ≡ true → (context : Context)
    → FormLaw context.env outcome names words s → RunsExactly outcome s context
runs_exactly h context l a ran = exact (record_law h l) ran

-- an outcome that allows no more keeps to the same laws of a program
narrower_program : {env : Variables} {V : Type 0} {a b : Outcome V} {r : Roles}
    {value : CellsValue V} → AllowsNoMore V a b → ProgramLaw env V a r value
    → ProgramLaw env V b r value
narrower_program n l = record { others = l.others; keeps = narrower n l.keeps }

-- an outcome that allows no more keeps to the same laws of any form
pub narrower_form : {env : Variables} {T : Type 0} {a b : Outcome T} {names : List Names}
    {words : List (List ℕ)} {s : ProgramForm T} → AllowsNoMore T a b
    → FormLaw env a names words s → FormLaw env b names words s
narrower_form n l = grind (arith, narrower, narrower_program, narrower_part)

-- By their tables.

-- what a repeat makes of a field, by what is made of its list; with `catch` it is none
abbrev pub repeated_form : {T B : Type 0} → Bool → Closure (List T) B → ProgramForm T
    → ProgramForm B
repeated_form catch f s = program_if (not catch) (program_closed f (program_repeat s))

module _ {env : Variables} {A : Type 0} {inner : Outcome A} {names : List Names}
    {words : List (List ℕ)} {s : ProgramForm A} (l : FormLaw env inner names words s) where
  -- Each keeps to the laws of its form: map
  pub map_law : {B : Type 0} (answers : A → B → Type 0)
      → FormLaw env (MapOutcome inner answers) names words
      (unnamed (program_closed (map_closure answers) s))
  map_law {B} answers = narrower_form (no_more (map_table answers)) (program_closed_law
      (map_closure answers) (never_refuses (map_closure answers) (λ x n. n) s) l)

  -- parse
  pub parse_law : {B E : Type 0} (answers : A → Result B E → Type 0)
      (shown : E → Option (List ℕ)) → Agrees (parse_closure answers) s
      → FormLaw env (ParseOutcome inner answers shown) names words
      (unnamed (program_closed (parse_closure answers) s))
  parse_law answers shown agrees = narrower_form (no_more (parse_table answers shown))
      (program_closed_law (parse_closure answers) agrees l)

  -- guard
  pub guard_law : (checks : A → Bool → Type 0) (message : List ℕ)
      → Agrees (guard_closure checks) s → FormLaw env (GuardOutcome inner checks message) names
      words (unnamed (program_closed (guard_closure checks) s))
  guard_law checks message agrees = narrower_form (no_more (guard_table checks message))
      (program_closed_law (guard_closure checks) agrees l)

  -- hide
  pub hide_law : FormLaw env (HideOutcome inner) names words (program_dressed s)
  hide_law = program_dressed_law (narrower_form hides l)

  -- optional
  pub optional_law : (catch : Bool) → FormLaw env (TurnOutcome inner catch true) names []
      (unnamed (program_if (not catch) (program_optional s)))
  optional_law true = record { by = tt }
  optional_law false = narrower_form (no_more optional_table) (program_optional_law l)

  -- what answers no more than a closure on the list of a repeat without `catch` keeps to its laws
  repeated_form_law : {B : Type 0} {f : Closure (List A) B} {c : ErrorClass} (idle catch : Bool)
      (outcome : Bool → Outcome B) → Agrees f (unnamed (program_repeat s))
      → ((s t : Situation) (r : Result B Error) → outcome false s r t
      → ClosedEval (List A) B (RepeatOutcome inner idle) f c s r t)
      → FormLaw env (outcome catch) names [] (unnamed (repeated_form catch f s))
  repeated_form_law idle true outcome agrees within = record { by = tt }
  repeated_form_law {f} {c} idle false outcome agrees within =
      narrower_form (no_more within) (listed_law idle f c agrees l)

  -- many
  pub many_law : (catch : Bool)
      → FormLaw env (ManyOutcome inner catch) names []
      (unnamed (repeated_form catch (list_closure A) s))
  many_law catch = repeated_form_law false catch (ManyOutcome inner)
      (never_refuses (list_closure A) (λ x n. n) _) many_table

  -- some
  pub some_law : (catch : Bool) (message : List ℕ) → FormLaw env (SomeOutcome inner catch message)
      names [] (unnamed (repeated_form catch (some_closure A) s))
  some_law catch message = repeated_form_law false catch (λ c. SomeOutcome inner c message)
      (some_agrees l) (some_table message)

  -- collect
  pub collect_law : {C : Type 0} (catch : Bool) (fills : List A → C → Type 0)
      → FormLaw env (CollectOutcome inner catch fills) names []
      (unnamed (repeated_form catch (map_closure fills) s))
  collect_law catch fills = repeated_form_law false catch (λ c. CollectOutcome inner c fills)
      (never_refuses (map_closure fills) (λ x n. n) _) (collect_table fills)

  -- count
  pub count_law : FormLaw env (CountOutcome inner) names []
      (unnamed (repeated_form false (map_closure (λ vs n. n ≡ length vs)) s))
  count_law = repeated_form_law true false (λ c. CountOutcome inner)
      (never_refuses (map_closure (λ vs n. n ≡ length vs)) (λ x n. n) _) count_table

  -- last
  pub program_last_law : FormLaw env (LastOutcome inner) names [] (unnamed (program_last s))
  program_last_law = completed_law repeated (LastOf A) (λ value. value) refl (λ k q o. o)
      (λ k q group gap l. last_of_law l) (λ r v l. last_commands l) l

  -- what gives a value in place of an inner one, as a closure on nothing does, keeps to its laws
  fallback_form_law : (gives : Gives A) (f : Closure (Unit {0}) A) → Decides f
      → ((v : A) → gives (Ok v) → f.yes tt v)
      → ((e : Error) → gives (Err e) → (class e ≡ OfMemory)
      ⊎ (f.no tt × (class e ≡ Caught) × (is_wrong_input e.0 ≡ false)))
      → FormLaw env (FallbackOutcome inner gives) names [] (unnamed (program_default f s))
  fallback_form_law gives f decides gave refused =
      narrower_form (no_more (fallback_table gives f gave refused))
      (completed_law (λ k. k) (λ group gap. FallbackValue A group gap f)
      (DefaultCommands A (f.yes tt)) refl (λ k q o. o)
      (λ k q group gap l. fallback_field l decides) (λ r v l. default_commands l decides) l)

  -- a kept value
  pub fallback_law : (clones : A → A → Type 0) (kept : A)
      → FormLaw env (FallbackOutcome inner (GivesClone clones kept)) names []
      (unnamed (program_default (map_closure (λ u. clones kept)) s))
  fallback_law clones kept =
      fallback_form_law (GivesClone clones kept) (map_closure (λ u. clones kept))
      (λ u v y n. n) (λ v g. g) (λ e g. inl (memory_class e.0 g))

  -- a closure's value
  pub fallback_with_law : {E : Type 0} (answers : Result A E → Type 0)
      (shown : E → Option (List ℕ)) → Decides (answer_closure answers)
      → FormLaw env (FallbackOutcome inner (GivesAnswer answers shown)) names []
      (unnamed (program_default (answer_closure answers) s))
  fallback_with_law answers shown decides =
      fallback_form_law (GivesAnswer answers shown) (answer_closure answers) decides
      (λ v g. g) (λ e g. ⊎_elim (λ memory. inl (ap error_class memory))
      (λ told. inr ((g.0, g.1), ap error_class told.1, ap is_wrong_input told.1)) g.2)
