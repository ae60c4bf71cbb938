-- An argument of which the last value counts is a named part.
use Rattle.std.proofs.Common.{arith, false, subst, List, refl, inl, inr, true, Bool, ◌≡◌, ◌∙◌, ◌∷◌}
use Rattle.bpaf_laws.specs.Leaves.{ArgumentOutcome, ArgumentFails, TakesOwnText, TakesBefore}
use Rattle.bpaf_exact.proofs.Leaves.{last_same, named, no_key, owns, took_pair}
use Rattle.bpaf_exact.specs.Flat.{class, cells, error_class, gap_of, Gap, OfMemory}
use Rattle.bpaf_exact.specs.Parts.{Entries, IsPart, IsSpoiled, Part, PartErr, PartFormLaw, PartLaw}
use Rattle.bpaf_exact.specs.Parts.{PartOk, absent, entry, lacks_missing, lacks_refused}
use Rattle.bpaf_exact.specs.Pieces.{Cells, IsNamed, Roles, TakesPieces, Two, pieces, takes_more}
use Rattle.std.proofs.Common.{◌⊎◌, ◌++◌, [], ap, ap₂, sym, ⊎_elim, ℕ}
use Rattle.bpaf_laws.specs.{Leaves.TakesKeysWithTexts, Leaves.is_key_with_value, Reading.first_set}
use Rattle.bpaf_exact.proofs.Product.{current_cells, same_steady, steady_refl, steady_trans}
use Rattle.bpaf_exact.proofs.PartRepeat.{repeat_is, spoiled_before, spoils}
use Rattle.bpaf_exact.proofs.PartKeys.{key_is, one_first, unread_spoils}
use Rattle.bpaf_exact.proofs.{Places.bare_taken, Places.match_of, Places.by_test, Repeat.same_takes}
use Rattle.bpaf_exact.proofs.{PartWrapped.wrapped_is, PartWrapped.wrapped_spoils, Cuts.first_takes}
use Rattle.bpaf_exact.proofs.{PartFlags.absence_is, PartArguments.argument_law}
use Rattle.bpaf_exact.proofs.{Wrappers.gap_empty, Names.never_nil, Leaves.TookPair, Parts.no_first}
use Rattle.bpaf_exact.specs.ProgramForm.{argument_part, argument_part_form, argument_roles}
use Rattle.bpaf_exact.specs.Parts.{last_key_part, no_entry, present, some_part, texts_part}
use Rattle.bpaf_exact.specs.{Flat.Steady, Flat.Variables, Pieces.takes_none}
use Rattle.bpaf_base.specs.{declared.arg.Arg.Arg, Items.item_text}
use Rattle.bpaf_text.specs.Named.{KeyWithValue, argument_part as argument_piece}
use Rattle.bpaf_line.specs.declared.error.Message.TheVariants.{Memory, ParseFailed, NoArgument}
use Rattle.bpaf_line.specs.{declared.error.Message.Message, declared.error.Error.Error}
use Rattle.bpaf_line.specs.{Messages.is_wrong_input, Situation.Situation}

-- a pair is its two halves
same_pair : (v w : Arg × Arg) → v.0 ≡ w.0 → v.1 ≡ w.1 → v ≡ w
same_pair (a, b) (c, d) e f = cc

module _ {q : Roles} (n : IsNamed q) where
  -- keys with texts are a part
  pub texts_is : IsPart (texts_part q)
  texts_is = key_is n (λ v e a. a)

  -- of the same cells they are the same
  pub same_texts : {cs ds es : Cells} {ps rs : List (Arg × Arg)} → Entries (texts_part q) cs ps ds
      → Entries (texts_part q) cs rs es → ps ≡ rs
  same_texts (no_entry e) (no_entry f) = refl
  same_texts (no_entry e) (entry g more) = absurd (no_first texts_is e g)
  same_texts (entry g more) (no_entry e) = absurd (no_first texts_is e g)
  same_texts {es} (entry {v} g more) (entry {v = w} {vs = rs} h other) =
      let i = one_first n g.takes h.takes in
      let j = same_texts more (subst (λ z. Entries (texts_part q) z rs es) (sym i.1) other) in
      let a = g.means in
      let b = h.means in
      let c = i.0 in
      let first : v.0 ≡ w.0 = cc in
      let second : v.1 ≡ w.1 = cc in
      ap₂ (λ x xs. x ∷ xs) (same_pair v w first second) j

  -- without pieces there are none
  no_texts : {cs ds : Cells} {ps : List (Arg × Arg)} → Entries (texts_part q) cs ps ds
      → pieces q cs ≡ [] → ps ≡ []
  no_texts (no_entry e) none = refl
  no_texts (entry g more) none = absurd (no_first texts_is none g)

module _ {T : Type 0} (means : List ℕ → T → Type 0) (argument : KeyWithValue)
    (all : argument.last ≡ true) (variables : Variables) where
  -- its items
  abbrev own : Roles
  own = argument_roles argument.adjacent argument.named.names

  -- what stands for no piece
  abbrev gap : Gap T
  gap = gap_of means (first_set variables argument.named.envs)

  -- the part
  abbrev whole : Part T
  whole = last_key_part means own gap

  -- all keys were taken with their texts, of which this is the last
  record Took (s t : Situation) (text : List ℕ) : Type 0 where
    steady : Steady s t
    takes : TakesPieces own (cells s) (cells t)
    before : List (Arg × Arg)
    last : Arg × Arg
    entries : Entries (texts_part own) (cells s) (before ++ last ∷ []) (cells t)
    text_is : item_text last.1 ≡ text

  -- all keys with their texts
  took : (s t : Situation) (text : List ℕ) (before : List (List ℕ))
      → TakesKeysWithTexts argument s (before ++ text ∷ []) t → pieces own (cells t) ≡ []
      → Took s t text
  took s t text [] o none =
      let p = subst (λ z. TookPair own s z text) (sym o.2) (took_pair argument s o.0 text o.1) in
      record {
        steady = p.steady;
        takes = takes_more (first_takes p.takes) takes_none;
        before = [];
        last = (p.key, p.word);
        entries = entry (record { piece = Two p.key p.word; takes = p.takes; means = refl })
            (no_entry none);
        text_is = p.text_is;
      }
  took s t text (x ∷ before) o none =
      let rest = took o.0 t text before o.2 none in
      let p = took_pair argument s o.0 x o.1 in
      record {
        steady = steady_trans p.steady rest.steady;
        takes = takes_more (first_takes p.takes) rest.takes;
        before = (p.key, p.word) ∷ rest.before;
        last = rest.last;
        entries = entry (record { piece = Two p.key p.word; takes = p.takes; means = refl })
            rest.entries;
        text_is = rest.text_is;
      }

  -- where they are all
  took_all : {s t : Situation} {text : List ℕ} → TakesOwnText argument.last argument s text t
      → Took s t text
  took_all {s} {t} {text} takes =
      let last = subst (λ b. TakesOwnText b argument s text t) all takes in
      took s t text last.before last.taken (no_key argument t last.no_more)

  -- some keys with their texts: what is spoiled behind them is spoiled
  record Some (s t : Situation) : Type 0 where
    steady : Steady s t
    takes : TakesPieces own (cells s) (cells t)
    spoiled : IsSpoiled (texts_part own) (cells t) → IsSpoiled (texts_part own) (cells s)

  -- some of them
  took_some : (s t : Situation) (texts : List (List ℕ)) → TakesKeysWithTexts argument s texts t
      → Some s t
  took_some s t [] same =
      rw same (record { steady = steady_refl; takes = takes_none; spoiled = λ n. n })
  took_some s t (text ∷ texts) o =
      let rest = took_some o.0 t texts o.2 in
      let p = took_pair argument s o.0 text o.1 in
      record {
        steady = steady_trans p.steady rest.steady;
        takes = takes_more (first_takes p.takes) rest.takes;
        spoiled = λ n. spoiled_before (texts_is (named argument)) {v = (p.key, p.word)}
            (record { piece = Two p.key p.word; takes = p.takes; means = refl }) (rest.spoiled n);
      }

  -- a value is that of the last text
  last_read : {s t : Situation} {text : List ℕ} (v : T) → Took s t text → means text v
      → PartOk whole s v t
  last_read v a m = record {
    steady = a.steady;
    takes = a.takes;
    gave = inl (present (
      a.before ++ a.last ∷ [],
      record {
        entries = a.entries;
        some = λ e. never_nil a.before a.last [] (no_texts (named argument) a.entries e);
        fine = inl refl;
      },
      record { before = a.before; last = a.last; is = refl; meant = rw a.text_is m },
    ));
  }

  -- a last text that means none
  unread : {s t : Situation} {text : List ℕ} → Took s t text → ((v : T) → means text v → ⊥)
      → IsSpoiled whole (cells s)
  unread {s} {text = text} a none h = by_entries h.2
    where
      by_entries : {vs : List T} {es : Cells} → Entries whole (cells s) vs es → ⊥
      by_entries (no_entry e) =
          never_nil a.before a.last [] (no_texts (named argument) a.entries e)
      by_entries (entry {v} g more) =
          let pairs = same_texts (named argument) g.1.entries a.entries in
          let last = last_same g.2.before a.before (sym g.2.is ∙ pairs) in
          none v (subst (λ z. means z v) (ap (λ pair. item_text pair.1) last ∙ a.text_is) g.2.meant)

  -- where some have no text
  spoiled : {cs : Cells} → IsSpoiled (texts_part own) cs → IsSpoiled whole cs
  spoiled n = wrapped_spoils (repeat_is (texts_is (named argument)))
      (spoils (texts_is (named argument)) n)

  -- a refusal
  last_fails : {s t : Situation} {e : Error} (m : Message) → e.0 ≡ m → s.context.env ≡ variables
      → ArgumentFails means argument s m t → (class e ≡ OfMemory) ⊎ PartErr whole s e t
  last_fails Memory c same o = inl (ap error_class c)
  last_fails {s} {t} {e} (ParseFailed place fault) c same o = inr (⊎_elim
      (λ takes. let a = took_all takes in record {
        steady = a.steady;
        takes = a.takes;
        why = inr (unread a (λ v y. o.2.0 v y));
        calm = λ f. ap is_wrong_input c;
      })
      (λ read. rw read.left (record {
        steady = same_steady steady_refl;
        takes = same_takes (current_cells s);
        why = inl (
          no_key argument s read.no_key,
          lacks_refused (ap error_class c)
              (λ v a. grind (arith, read.set, o.2.0)) (λ m. grind (arith, read.set)),
        );
        calm = λ f. ap is_wrong_input c;
      })) o.1)
  last_fails {s} {t} {e} (NoArgument key metavar) c same o =
      let before = subst (λ b. TakesBefore b argument s t) all o.1 in
      let some = took_some s t before.0 before.1 in
      let m = match_of (is_key_with_value argument) t key o.0.0.matches in
      let bare = bare_taken by_test o.0.0 m o.0.1 in
      let n = some.spoiled (unread_spoils (named argument) bare.is (λ v e. absurd cc)) in
      inr (record {
        steady = some.steady;
        takes = some.takes;
        why = inr (spoiled n);
        calm = λ f. absurd (n ([], _, no_entry f));
      })
  last_fails {s} {e} other c same o =
      let n = absence_is s (argument_piece argument) argument.named.envs {e = e} other c o.1.1 in
      inr (rw o.2 (record {
        steady = steady_refl;
        takes = takes_none;
        why = inl (no_key argument s o.0, lacks_missing n.0 (grind (arith, o.1.0)));
        calm = λ f. n.1;
      }))

  -- it keeps to the law
  pub last_key_law : PartLaw variables T (ArgumentOutcome means argument) whole
  last_key_law = record {
    is = wrapped_is (repeat_is (texts_is (named argument))) (gap_empty means _);
    ok = λ s t v w o. ⊎_elim (λ takes. last_read v (took_all takes) o.2)
        (λ read. let same = w.environment in rw read.left (record {
          steady = same_steady steady_refl;
          takes = same_takes (current_cells s);
          gave = inl (absent (no_key argument s read.no_key) (grind (arith, read.set, o.2))
              (current_cells s));
        })) o.1;
    err = λ s t e w o. last_fails e.0 refl w.environment o;
  }

-- an argument keeps to the law of the part that it is
pub argument_part_form_law : (variables : Variables) (T : Type 0) (means : List ℕ → T → Type 0)
    (argument : KeyWithValue) → PartFormLaw variables (ArgumentOutcome means argument)
    (argument.named.names ∷ []) (argument_part_form means argument variables)
argument_part_form_law variables T means argument = by_last argument.last refl
  where
    by_last : (last : Bool) → argument.last ≡ last
        → PartFormLaw variables (ArgumentOutcome means argument) (argument.named.names ∷ [])
        (some_part (argument_part last means
        (argument_roles argument.adjacent argument.named.names)
        (gap_of means (first_set variables argument.named.envs))))
    by_last true e = record { by = (last_key_law means argument e variables, owns argument) }
    by_last false e = record { by = (argument_law means argument e variables, owns argument) }
