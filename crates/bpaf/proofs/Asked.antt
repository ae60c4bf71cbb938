-- What a run shows it was asked for, or its parser hands it on.
use Rattle.std.proofs.Common.{◌≡◌, Bool, true, false, List, [], Option, Some, None, Result, Ok, inl}
use Rattle.std.proofs.Common.{inr, Err, refl, sym, ap, ◌∙◌, ⊎_elim, true≢false, if◌then◌else◌}
use Rattle.std.specs.{Prelude.ℕ, Prelude.◌∷◌, Result.IfErr}
use Rattle.bpaf_doc.specs.{declared.doc.Piece.Piece, Shape.Part, Shape.Shape}
use Rattle.bpaf_text.specs.Named.{Named, KeyWithValue, flag_part, argument_part}
use Rattle.bpaf_words.specs.{Arguments.Given, Line.Known}
use Rattle.bpaf_line.specs.{declared.failure.ParseFailure.ParseFailure, Situation.Situation}
use Rattle.bpaf_line.specs.{Situation.beginning, Messages.is_memory, Messages.is_answer}
use Rattle.bpaf_line.specs.{declared.error.Message.Message, declared.error.Error.Error}
use Rattle.bpaf_laws.specs.Leaves.{ArgumentOutcome, FlagOutcome}
use Rattle.bpaf_laws.specs.Reading.{Readings, Outcome, IsAbsence}
use Rattle.bpaf_laws.specs.Product.{BothOutcome, ProductOutcome, both_answers}
use Rattle.bpaf_laws.specs.{Combinators.ManyOutcome, Combinators.Turns, Laws.Keeps, Laws.Lawful}
use Rattle.bpaf_laws.specs.Combinators.{FallbackOutcome, GivesClone, TurnOutcome}
use Rattle.bpaf_laws.proofs.Keeping.{keeps_same, keeps_trans}
use Rattle.bpaf_core.specs.Ending.{EndsRun, Tells, leftover, passed_on, refused, shown, told, usage}
use Rattle.bpaf_core.specs.{Ending.Shows, Ending.shows_help_page, Ending.leftover_is_told, Run.Runs}
use Rattle.bpaf_core.specs.{Run.RunsWords, ExtraParams.ExtraParams, Rendering.Renders, Info.RunInfo}
use Rattle.bpaf.specs.Asked.{CameTo, HandsOn, IfShown, IsAskedAt, RunShows, Showing}
use Rattle.bpaf.specs.Asked.{WordsShow, inner_answer}
use Rattle.bpaf_grammar.specs.{declared.position.Position.Position, Positional.PositionalOutcome}
use Rattle.bpaf_line.specs.declared.error.Message.TheVariants as message
use Rattle.bpaf_line.specs.declared.failure.ParseFailure.TheVariants as failure
use Rattle.bpaf_core.specs.ExtraParams.TheVariants as extra
use Rattle.bpaf_core.specs.Run as run

-- what was come to from a later situation was come to from the first one too
pub came_from : {showing : Showing} {s m : Situation} {doc : List Piece} {full : Bool} → Keeps s m
    → CameTo showing m doc full → CameTo showing s doc full
came_from {s = s} {m} keeps came = record {
  there = came.there;
  keeps = keeps_trans s m came.there keeps came.keeps;
  shown = came.shown;
}

-- what may be shown by the one may be shown by the other
abbrev pub IsAlsoShown : Showing → Showing → Type 0
IsAlsoShown showing other =
    (s : Situation) (doc : List Piece) (full : Bool) → showing s doc full → other s doc full

-- what was come to that the one shows is come to that the other shows
pub came_also : {showing other : Showing} → IsAlsoShown showing other → {s : Situation}
    {doc : List Piece} {full : Bool} → CameTo showing s doc full → CameTo other s doc full
came_also also {doc = doc} {full} came =
    record { there = came.there; keeps = came.keeps; shown = also came.there doc full came.shown }

-- a parser that hands on what the one shows hands on what the other does
pub hands_also : {T : Type 0} {inner : Outcome T} {showing other : Showing}
    → IsAlsoShown showing other → HandsOn showing inner → HandsOn other inner
hands_also also inside =
    record { all = λ s e t doc full o is. came_also also (inside.all s e t doc full o is) }

-- that a key is nowhere shows nothing
absence_hands_on : (s : Situation) (part : Option Part) (envs : List (List ℕ)) (doc : List Piece)
    (full : Bool) → ¬ (IsAbsence s part envs (inner_answer doc full))
absence_hands_on s (Some part) envs doc full absent = absent
absence_hands_on s None [] doc full absent = absent
absence_hands_on s None (name ∷ names) doc full absent = absent

module _ {showing : Showing} where
  -- a flag shows nothing
  pub flag_hands_on : {T : Type 0} (clones : T → T → Type 0) (named : Named) (present : T)
      (absent : Option T) → HandsOn showing (FlagOutcome clones named present absent)
  flag_hands_on clones named present absent = record {
    all = λ s e t doc full o is.
        absurd (absence_hands_on s (flag_part named) named.envs doc full (rw is at o).2);
  }

  -- an argument shows nothing
  pub argument_hands_on : {T : Type 0} (means : List ℕ → T → Type 0) (argument : KeyWithValue)
      → HandsOn showing (ArgumentOutcome means argument)
  argument_hands_on means argument = record {
    all = λ s e t doc full o is. absurd (absence_hands_on s (argument_part argument)
        argument.named.envs doc full (rw is at o).1.1);
  }

  -- a positional word shows nothing
  pub positional_hands_on : {T : Type 0} (means : List ℕ → T → Type 0) (position : Position)
      (metavar : List ℕ) → HandsOn showing (PositionalOutcome means position metavar)
  positional_hands_on means position metavar =
      record { all = λ s e t doc full o is. absurd (rw is at o) }

  module _ {A B : Type 0} {first : Outcome A} {rest : Outcome B} {reads : Readings A}
      (law : Lawful A first reads) (one : HandsOn showing first) (others : HandsOn showing rest)
      (s m t : Situation) (e : Error) (doc : List Piece) (full : Bool)
      (is : e.0 ≡ inner_answer doc full) where
    -- what the fields behind the first one show was come to from the start
    rest_hands_on : Keeps s m → rest m (Err e) t → CameTo showing s doc full
    rest_hands_on keeps o = came_from keeps (others.all m e t doc full o is)

    -- fields that were all evaluated show what one of them does
    fields_hand_on : (a : Result A Error) (b : Result B Error) → first s a m → rest m b t
        → Err e ≡ both_answers a b → CameTo showing s doc full
    fields_hand_on (Ok x) (Ok y) o later same = cc
    fields_hand_on (Ok x) (Err f) o later same =
        let that : f ≡ e = cc in rest_hands_on (law.ok s m x o).keeps (rw that at later)
    fields_hand_on (Err f) (Ok y) o later same =
        let that : f ≡ e = cc in one.all s f m doc full o (ap (λ x. x.0) that ∙ is)
    fields_hand_on (Err f) (Err g) o later same = by_worse (is_memory g.0) same
      where
        -- of two failures the one that counts
        by_worse : (second : Bool)
            → ◌≡◌ {A = Result (A × B) Error} (Err e) (if second then Err g else Err f)
            → CameTo showing s doc full
        by_worse true same =
            let that : g ≡ e = cc in rest_hands_on (law.err s m f o) (rw that at later)
        by_worse false same =
            let that : f ≡ e = cc in one.all s f m doc full o (ap (λ x. x.0) that ∙ is)

  -- fields show what one of them does
  pub both_hands_on : {A B : Type 0} {first : Outcome A} {rest : Outcome B} {reads : Readings A}
      → Lawful A first reads → HandsOn showing first → HandsOn showing rest
      → HandsOn showing (BothOutcome first rest)
  both_hands_on law one others = record {
    all = λ s e t doc full o is. ⊎_elim
        (λ each. fields_hand_on law one others s each.middle t e doc full is each.a each.b
        each.first_ran each.rest_ran each.answer) (λ want. one.all s e t doc full want.0 is) o;
  }

  -- a product shows what its fields do
  pub product_hands_on : {V T : Type 0} {fields : Outcome V} {makes : V → T → Type 0}
      → HandsOn showing fields → HandsOn showing (ProductOutcome fields makes)
  product_hands_on inside =
      record { all = λ s e t doc full o is. inside.all s e o.0 doc full o.1 is }

  module _ {T : Type 0} {inner : Outcome T} (inside : HandsOn showing inner) where
    -- what may be left out shows what it does where it isn't
    pub optional_hands_on : (catches : Bool) → HandsOn showing (TurnOutcome inner catches true)
    optional_hands_on catches = record {
      all = λ s e t doc full o is.
          ⊎_elim (λ failed. inside.all s e t doc full failed.0 is)
          (λ want. absurd (true≢false (sym want.0 ∙ ap is_memory is))) o;
    }

    -- what has a default shows what it does without one
    pub default_hands_on : (clones : T → T → Type 0) (kept : T)
        → HandsOn showing (FallbackOutcome inner (GivesClone clones kept))
    default_hands_on clones kept = record {
      all = λ s e t doc full o is.
          ⊎_elim (λ refused. ⊎_elim (λ ran. inside.all s e ran.0 doc full ran.1 is)
          (λ want. absurd (true≢false (sym want ∙ ap is_memory is))) refused.0)
          (λ fell. absurd (true≢false (sym fell.1 ∙ ap is_memory is))) o;
    }

  module _ {T : Type 0} {inner : Outcome T} {reads : Readings T} (law : Lawful T inner reads)
      (inside : HandsOn showing inner) (catches : Bool) where
    -- what turns that answered values keep
    steps_keep : (first : Bool) (s : Situation) (vs : List T) (t : Situation)
        → Turns inner catches first s vs t → Keeps s t
    steps_keep first s [] t o = keeps_same s t (sym o)
    steps_keep first s (v ∷ vs) t o =
        keeps_trans s o.0 t (law.ok s o.0 v o.1.0).keeps (steps_keep false o.0 vs t o.2)

    -- a repeat shows what one of its turns does
    pub many_hands_on : HandsOn showing (ManyOutcome inner catches)
    many_hands_on = record {
      all = λ s e t doc full o is. ⊎_elim
          (λ failed. came_from (steps_keep true s o.values o.last o.steps)
          (inside.all o.last e t doc full failed.0 is))
          (λ want. absurd (true≢false (sym want.0 ∙ ap is_memory is))) o.fails;
    }

-- what is told of a message, other than help or a version, shows nothing
renders_nothing : (m : Message) (s : Situation) (doc : List Piece) (full : Bool)
    → is_answer m ≡ false → ¬ (Renders m s (failure.Stdout doc full))
renders_nothing (message.ParseFailure f) s doc full plain says = absurd (true≢false plain)
renders_nothing message.Memory s doc full plain says = cc
renders_nothing _ s doc full plain says = says

module _ {describes : Shape → Type 0} {info : RunInfo} where
  -- what is told of a message was asked for, if it shows anything
  tells_asked : {m : Message} {s t : Situation} {doc : List Piece} {full : Bool}
      → is_answer m ≡ false → Tells describes info m s (failure.Stdout doc full) t
      → IsAskedAt describes info s doc full
  tells_asked plain (shown asked g u looked shows) =
      record { after = u; asked = asked; looked = looked; shows = shows }
  tells_asked {m} plain (told e g u looked other renders) = absurd
      (renders_nothing m u _ _ plain renders)

  module _ {T : Type 0} {inner : Outcome T} {reads : Readings T} (law : Lawful T inner reads)
      {showing : Showing} (inside : HandsOn showing inner)
      (plain : info.help_if_no_args ≡ false) where
    -- what is told where a parser led to was asked for, if it shows anything
    told_asked : {m : Message} {s left t : Situation} {doc : List Piece} {full : Bool}
        → Keeps s left → is_answer m ≡ false
        → Tells describes info m left (failure.Stdout doc full) t
        → CameTo (RunShows describes info showing) s doc full
    told_asked {left = left} keeps other tells =
        record { there = left; keeps = keeps; shown = inl (tells_asked other tells) }

    -- the end of a run shows what it was asked for, or what its parser does
    end_shows : {m : Option Message} {s left t : Situation} {doc : List Piece} {full : Bool}
        → Keeps s left → ((said : Message) → m ≡ Some said → said ≡ inner_answer doc full → CameTo
        showing s doc full) → EndsRun describes info m s left (failure.Stdout doc full) t
        → CameTo (RunShows describes info showing) s doc full
    end_shows keeps handed (usage n before g u spared wanted shows) =
        absurd (no_usage n before wanted)
      where
        no_usage : (n : Message) (before : Situation) → ¬ (shows_help_page info n before ≡ true)
        no_usage n before wanted = cc
    end_shows keeps handed (passed_on g before u spared unwanted) =
        came_also (λ x d u shown. inr shown) (handed (message.ParseFailure g) refl refl)
    end_shows keeps handed (refused n before from g u spared unwanted other tells) =
        told_asked keeps other tells
    end_shows {left = left} keeps handed (leftover n before from g u is_left tells) =
        told_asked keeps (leftover_is_told left n is_left) tells

    -- a run shows what it was asked for, or what its parser does
    pub run_shows : {s t : Situation} {doc : List Piece} {full : Bool}
        → Runs T inner (EndsRun describes info) s (Err (failure.Stdout doc full)) t
        → CameTo (RunShows describes info showing) s doc full
    run_shows {s} (run.leftover v left g u answered ends) =
        end_shows (law.ok s left v answered).keeps (λ said same. cc) ends
    run_shows {s} {doc = doc} {full} (run.refused e left g u answered ends) =
        end_shows (law.err s left e answered)
        (λ said same answer. inside.all s e left doc full answered cc) ends

    -- an answer without a value shows what its run was asked for, or what its parser does
    pub answer_shows : {known : Known} {given : Given} (r : Result T ParseFailure)
        → RunsWords T inner describes info known given r
        → IfErr r (IfShown (WordsShow known given (RunShows describes info showing)))
    answer_shows (Err (failure.Stdout doc full)) (run.ran context q t line runs) =
        record { context = context; on_line = line; run = run_shows runs }
    answer_shows (Err (failure.Stdout doc full))
        (run.no_line word number context g lacks empty name renders) =
        absurd (renders_nothing (message.Ambiguity word number) (beginning context) doc full refl
        renders)
    answer_shows (Ok v) runs = tt
    answer_shows (Err (failure.Stderr doc)) runs = tt
    answer_shows (Err failure.Memory) runs = tt

-- what is asked of a parser is asked of each whose shapes are among those of another
pub asked_at_also : {describes others : Shape → Type 0} {info : RunInfo}
    → ((shape : Shape) → describes shape → others shape)
    → IsAlsoShown (IsAskedAt describes info) (IsAskedAt others info)
asked_at_also {describes} {others} {info} also s doc full at = record {
  after = at.after;
  asked = at.asked;
  looked = at.looked;
  shows = shows_also at.asked at.shows;
}
  where
    shows_also : (asked : ExtraParams)
        → Shows describes info asked at.after (failure.Stdout doc full)
        → Shows others info asked at.after (failure.Stdout doc full)
    shows_also (extra.Help more) shows = (
      record { shape = shows.0.shape; shown = also _ shows.0.shown; prints = shows.0.prints },
      shows.1,
    )
    shows_also (extra.Version version) shows = shows

-- what a run over words shows, it shows where more may be shown
pub words_also : {known : Known} {given : Given} {showing wider : Showing}
    → IsAlsoShown showing wider → {doc : List Piece} {full : Bool}
    → WordsShow known given showing doc full → WordsShow known given wider doc full
words_also more was =
    record { context = was.context; on_line = was.on_line; run = came_also more was.run }
