-- Choices of named parts and commands keep to the laws of such, and each to those of a program.
use Rattle.std.proofs.Common.{Bool, Err, List, None, Ok, Result, Some, ap, arith, false, inl, inr}
use Rattle.std.proofs.Common.{not, refl, subst, sym, true, ◌++◌, ◌<◌, ◌∙◌, ◌∷◌, ◌≡◌, ◌≤◌, length}
use Rattle.std.proofs.Common.{[], ℕ, ⊎_elim, ◌⊎◌, ◌||◌, true≢false}
use Rattle.std.proofs.lemmas.List.Folds.{list_all-append, list_any-append}
use Rattle.bpaf_base.specs.{Items.is_command_word}
use Rattle.bpaf_line.specs.{declared.error.Error.Error, Situation.Situation}
use Rattle.bpaf_line.specs.Messages.{is_wrong_input}
use Rattle.bpaf_line.specs.declared.error.Message.{Message}
use Rattle.bpaf_laws.specs.Choice.{BranchesEval, ChoiceOutcome, Chosen, depth}
use Rattle.bpaf_laws.specs.{Command.is_one_of, Laws.IsNotMemory, Reading.Outcome}
use Rattle.bpaf_laws.proofs.ChoiceLaws.{of_chosen}
use Rattle.bpaf_exact.proofs.Classes.{is_missing_of, memory_class, not_memory}
use Rattle.bpaf_exact.proofs.Commands.{Alike, alike_same, alike_saved, alike_then, none_opens}
use Rattle.bpaf_exact.proofs.Commands.{opens_apart, opens_left, opens_right}
use Rattle.bpaf_exact.proofs.Names.{apart_first, apart_second}
use Rattle.bpaf_exact.proofs.PartBefore.{alone_part_law, left_one}
use Rattle.bpaf_exact.proofs.{PartChoice.choice_part_law, Repeat.same_takes, Tables.narrower_part}
use Rattle.bpaf_exact.proofs.Tables.{no_more}
use Rattle.bpaf_exact.proofs.{Parts.turn_takes, Programs.no_key, Programs.cells_spelled}
use Rattle.bpaf_exact.specs.Flat.{IsWholeIn, NonePresent, OfMemory, OfMissing, Variables, cells}
use Rattle.bpaf_exact.specs.Flat.{class, error_class, catch_missing}
use Rattle.bpaf_exact.specs.Parts.{IsPart, Part, PartAlone, PartLaw, lacks_missing, never_part}
use Rattle.bpaf_exact.specs.Parts.{part_choice}
use Rattle.bpaf_exact.specs.Pieces.{Apart, Cells, IsNamed, LinePiece, Roles, TakesPieces}
use Rattle.bpaf_exact.specs.Pieces.{TakesPiece, takes_later, takes_more, takes_none, takes_one}
use Rattle.bpaf_exact.specs.Pieces.{either, no_roles, pieces, takes_two}
use Rattle.bpaf_exact.specs.ProgramForm.{AllSpelled, CellsValue, ChoiceValue, CommandsLaw}
use Rattle.bpaf_exact.specs.ProgramForm.{IsSpelledLine, LastLaw, LastTook, LeavesToOthers, Opens}
use Rattle.bpaf_exact.specs.ProgramForm.{OpensNone, PartOrCommands, ProgramLaw, WordsApart}
use Rattle.bpaf_exact.specs.ProgramForm.{are_plain, empty_cell, is_dashed, no_cell, of_commands}
use Rattle.bpaf_exact.specs.ProgramForm.{of_part, opens_here, opens_later, spelled_cell}

-- a missing item is no wrong input
missing_calm : (m : Message) → error_class m ≡ OfMissing → is_wrong_input m ≡ false
missing_calm m e = grind (arith, is_missing_of)

-- Words.

-- a named part takes no word that opens commands
stays_first : {words : List (List ℕ)} {q : Roles} → are_plain words ≡ true → IsNamed q
    → {cs ds es : Cells} {o : LinePiece} → AllSpelled cs → Opens words cs ds
    → TakesPiece q cs o es → (fs : Cells) × Opens words es fs
stays_first plain n no_cell o t = elim o [ ]
stays_first {words} plain n (spelled_cell s a) (opens_here h) (takes_one {k} e) =
    let f = n.only_keys k (no_key words plain k s h) in absurd cc
stays_first {words} plain n (spelled_cell s a) (opens_here h) (takes_two {k} e v) =
    let f = n.only_keys k (no_key words plain k s h) in absurd cc
stays_first plain n (spelled_cell s a) (opens_here h) (takes_later t) = (_, opens_here h)
stays_first plain n (empty_cell a) (opens_later o) (takes_later t) =
    let i = stays_first plain n a o t in (_, opens_later i.1)

-- what opens stays so when a part's pieces are taken
stays_open : {words : List (List ℕ)} {q : Roles} → are_plain words ≡ true → IsNamed q
    → {cs ds es : Cells} → AllSpelled cs → Opens words cs ds → TakesPieces q cs es
    → (fs : Cells) × Opens words es fs
stays_open plain n a o takes_none = (_, o)
stays_open plain n a o (takes_more t more) =
    stays_open plain n (left_one t a) (stays_first plain n a o t).1 more

-- where a named part alone has a value none opens anything
alone_opens : {T : Type 0} {words : List (List ℕ)} {p : Part T} → are_plain words ≡ true
    → IsPart p → {cs : Cells} {v : T} → AllSpelled cs → PartAlone p cs v → OpensNone words cs
alone_opens plain l a h ds o =
    none_opens h.none _ (stays_open plain l.named a o (turn_takes l h.turn)).1

-- of no words none opens anything
nothing_opens : {cs : Cells} → OpensNone [] cs
nothing_opens ds (opens_here h) = absurd (true≢false (sym h))
nothing_opens ds (opens_later o) = nothing_opens _ o

-- where none of two lists opens anything none of both does
neither_opens : (words others : List (List ℕ)) {cs : Cells} → OpensNone words cs
    → OpensNone others cs → OpensNone (words ++ others) cs
neither_opens words others n m ds (opens_here {k} h) = by_first (is_one_of words k) refl
  where
    by_first : (b : Bool) → is_one_of words k ≡ b → ⊥
    by_first true e = n _ (opens_here e)
    by_first false e = m _ (opens_here (sym (ap (λ z. z || is_one_of others k) e)
        ∙ (sym (list_any-append (λ word. is_command_word word k) words others) ∙ h)))
neither_opens words others n m ds (opens_later o) = neither_opens words others
    (λ es p. n _ (opens_later p)) (λ es p. m _ (opens_later p)) _ o

-- A named part.
module _ {env : Variables} {T : Type 0} {outcome : Outcome T} {p : Part T}
    (l : PartLaw env T outcome p) where
  -- without commands
  pub part_last_law : LastLaw env T outcome p.roles [] p (λ cs v. ⊥)
  part_last_law = record {
    part = narrower_part (no_more (λ s t a o. o.0)) l;
    plain = refl;
    opened = λ cs v h. absurd h;
    others = λ q n a cs v s h. absurd h;
    keeps = record {
      ok = λ s t v w o. let i = (alone_part_law l).keeps.ok s t v w o in record {
        deep = i.deep;
        read = λ spelled n. of_part nothing_opens (i.read spelled n);
        all = λ u h. absurd h;
      };
      err = λ s t e w o u h. absurd h;
    };
  }

-- no item belongs to what is never there
none_own : (cs : Cells) → pieces no_roles cs ≡ []
none_own [] = refl
none_own (None ∷ cs) = none_own cs
none_own (Some k ∷ cs) = none_own cs

-- it is a part
never_is : {T : Type 0} → IsPart (never_part {T = T})
never_is = record {
  named = record { only_keys = λ k e. refl };
  takes = λ g. absurd g;
  one = λ g h. absurd g;
  back = λ n a t g. absurd g;
  heads = λ g. absurd g;
  not_both = λ m a. a;
}

-- Commands.
module _ {env : Variables} {T : Type 0} {outcome : Outcome T} {r : Roles}
    {words : List (List ℕ)} {value : CellsValue T}
    (l : CommandsLaw env T outcome r words value) where
  -- without a part
  pub commands_last_law : LastLaw env T outcome r words never_part value
  commands_last_law = record {
    part = record {
      is = never_is;
      ok = λ s t v w o. absurd ((l.took s t v o.0).0 o.1);
      err = λ s t e w o. ⊎_elim (λ c. inl c) (λ c. inr (record {
        steady = c.2;
        takes = same_takes c.1;
        why = inl (none_own (cells s), lacks_missing (catch_missing c.0) tt);
        calm = λ n. missing_calm e.0 c.0;
      })) (l.none s t e o.0 o.1);
    };
    plain = l.plain;
    opened = l.opened;
    others = l.program.others;
    keeps = record {
      ok = λ s t v w o. let i = l.program.keeps.ok s t v w o in record {
        deep = i.deep;
        read = λ spelled n. of_commands (i.read spelled n);
        all = λ u h. let g = i.all u h in (g.0, g.1, l.deeper s t v w o);
      };
      err = l.program.keeps.err;
    };
  }

-- A choice of two.

-- What a choice makes of two answers: that of the longer path; and each value is of one of them.
record Picked {T : Type 0} (x : Result T Error) (sx : Situation) (y : Result T Error)
    (sy : Situation) (r : Result T Error) (t : Situation) : Type 0 where
  first : depth sy < depth sx → (r ≡ x) × (t ≡ sx)
  second : depth sx < depth sy → (r ≡ y) × (t ≡ sy)
  one : (v : T) → r ≡ Ok v → ((x ≡ Ok v) × Alike sx t) ⊎ ((y ≡ Ok v) × Alike sy t)

-- which answer of two counts
picked : {T : Type 0} (s : Situation) (x : Result T Error) (sx : Situation) (y : Result T Error)
    (sy : Situation) (r : Result T Error) (t : Situation) → Chosen s x sx y sy r t
    → Picked x sx y sy r t
picked {T} s x sx y sy r t chosen = record {
  first = λ d. grind arith;
  second = λ d. grind arith;
  one = of_chosen s
      (λ r t. (v : T) → r ≡ Ok v → ((x ≡ Ok v) × Alike sx t) ⊎ ((y ≡ Ok v) × Alike sy t))
      (λ u m loser place t saved h v e. ⊎_elim
      (λ g. inl (g.0, alike_then g.1 (alike_saved loser saved)))
      (λ g. inr (g.0, alike_then g.1 (alike_saved loser saved))) (h v e))
      (λ e m h v same. absurd cc) (λ e f g m n c h i v same. absurd cc) x sx y sy r t chosen
      (λ v e. inl (e, alike_same refl)) (λ v e. inr (e, alike_same refl));
}

-- where nothing opens the path stays
module _ {env : Variables} {T : Type 0} {a : Outcome T} {r : Roles} {words : List (List ℕ)}
    {p : Part T} {value : CellsValue T} (l : LastLaw env T a r words p value) where
  -- answers of the same depth
  same_depth : {s m : Situation} (x : Result T Error) → IsWholeIn env s → OpensNone words (cells s)
      → a s x m → IsNotMemory x → depth m ≡ depth s
  same_depth {s} {m} (Ok x) w n i h = ap length (l.part.ok s m x w (i, n)).steady.path
  same_depth {s} {m} (Err e) w n i h = ⊎_elim (λ c. absurd (not_memory e.0 h c))
      (λ j. ap length j.steady.path) (l.part.err s m e w (i, n))

  -- where the commands have a value an answer is one, with a longer path
  value_of : {s m : Situation} {u : T} (x : Result T Error) → IsWholeIn env s → a s x m
      → IsNotMemory x → value (cells s) u
      → (v : T) × (x ≡ Ok v) × value (cells s) v × NonePresent (cells m) × (depth s < depth m)
  value_of {s} {m} {u} (Ok v) w i h k =
      let g = (l.keeps.ok s m v w i).all u k in (v, refl, g.0, g.1, g.2)
  value_of {s} {m} {u} (Err e) w i h k = absurd (not_memory e.0 h (l.keeps.err s m e w i u k))

  -- It keeps to the laws of a program.
  pub last_program : ProgramLaw env T a (either p.roles r) (PartOrCommands p words value)
  last_program = record {
    others = leaves;
    keeps = record {
      ok = λ s t v w o. let i = l.keeps.ok s t v w o in record {
        deep = i.deep;
        read = i.read;
        all = λ u h. all_of w o i h;
      };
      err = λ s t e w o u h. refuses w o h;
    };
  }
    where
      leaves : LeavesToOthers (either p.roles r) (PartOrCommands p words value)
      leaves q n d cs v s (of_commands h) = l.others q n (apart_second p.roles d) cs v s h
      leaves q n d cs v s (of_part none h) =
          (alone_part_law l.part).others q n (apart_first r d) cs v s h

      all_of : {s t : Situation} {v u : T} → IsWholeIn env s → a s (Ok v) t
          → LastTook p words value s v t → PartOrCommands p words value (cells s) u
          → PartOrCommands p words value (cells s) v × NonePresent (cells t)
      all_of {u} w o i (of_commands h) = let g = i.all u h in (of_commands g.0, g.1)
      all_of {s} {t} {v} {u} w o i (of_part n h) =
          let g = ((alone_part_law l.part).keeps.ok s t v w (o, n)).all u h in (of_part n g.0, g.1)

      refuses : {s t : Situation} {e : Error} {u : T} → IsWholeIn env s → a s (Err e) t
          → PartOrCommands p words value (cells s) u → class e ≡ OfMemory
      refuses {s} {t} {e} {u} w o (of_commands h) = l.keeps.err s t e w o u h
      refuses {s} {t} {e} {u} w o (of_part n h) =
          (alone_part_law l.part).keeps.err s t e w (o, n) u h

module _ {env : Variables} {T : Type 0} {a b : Outcome T} {ra rb : Roles}
    {wa wb : List (List ℕ)} {p q : Part T} {va vb : CellsValue T}
    (la : LastLaw env T a ra wa p va) (lb : LastLaw env T b rb wb q vb)
    (words : WordsApart wa wb) (apart : Apart p.roles q.roles) where
  -- the words, the part and the commands of both
  abbrev all_words : List (List ℕ)
  all_words = wa ++ wb

  -- the choice of both parts
  abbrev whole : Part T
  whole = part_choice p q

  -- the values of both
  abbrev values : CellsValue T
  values = ChoiceValue T va vb

  -- what neither opens
  left_none : {cs : Cells} → OpensNone all_words cs → OpensNone wa cs
  left_none n ds o = n ds (opens_left wa wb o)

  -- where none opens, none of the second opens
  right_none : {cs : Cells} → OpensNone all_words cs → OpensNone wb cs
  right_none n ds o = n ds (opens_right wa wb o)

  -- where a branch's commands have a value the other's words open nothing
  second_none : {cs : Cells} {u : T} → va cs u → OpensNone wb cs
  second_none {cs} {u} h ds o = opens_apart wa wb words (la.opened cs u h).1 o

  -- where the second has a value, none of the first opens
  first_none : {cs : Cells} {u : T} → vb cs u → OpensNone wa cs
  first_none {cs} {u} h ds o = opens_apart wa wb words o (lb.opened cs u h).1

  -- a run of both where none opens anything
  within : (s t : Situation) (r : Result T Error)
      → ChoiceOutcome a b s r t × OpensNone all_words (cells s)
      → ChoiceOutcome (λ s x t. a s x t × OpensNone wa (cells s))
      (λ s x t. b s x t × OpensNone wb (cells s)) s r t
  within s t (Ok v) o = both s (Ok v) t o.0 o.1
    where
      both : (s : Situation) (r : Result T Error) (t : Situation) → BranchesEval a b s r t
          → OpensNone all_words (cells s)
          → BranchesEval (λ s x t. a s x t × OpensNone wa (cells s))
          (λ s x t. b s x t × OpensNone wb (cells s)) s r t
      both s r t o n = record {
        a = o.a;
        sa = o.sa;
        b = o.b;
        sb = o.sb;
        first_ran = (o.first_ran, left_none n);
        second_ran = (o.second_ran, right_none n);
        first_spared = o.first_spared;
        second_spared = o.second_spared;
        chosen = o.chosen;
      }
  within s t (Err e) (inl o, n) = inl (record {
    a = o.a;
    sa = o.sa;
    b = o.b;
    sb = o.sb;
    first_ran = (o.first_ran, left_none n);
    second_ran = (o.second_ran, right_none n);
    first_spared = o.first_spared;
    second_spared = o.second_spared;
    chosen = o.chosen;
  })
  within s t (Err e) (inr o, n) = inr o

  -- it is a part there
  as_part : PartLaw env T (λ s x t. ChoiceOutcome a b s x t × OpensNone all_words (cells s)) whole
  as_part = narrower_part (no_more within) (choice_part_law la.part lb.part apart)

  -- the answer where the commands of one have a value
  answered : {s t : Situation} {r : Result T Error} {u : T} → IsWholeIn env s
      → BranchesEval a b s r t → values (cells s) u
      → (v : T) × (r ≡ Ok v) × values (cells s) v × NonePresent (cells t) × (depth s < depth t)
  answered {s} {t} {r} w o (inl h) =
      let i = value_of la o.a w o.first_ran o.first_spared h in
      let d = same_depth lb o.b w (second_none h) o.second_ran o.second_spared in
      let longer = i.4 in
      let g = (picked s o.a o.sa o.b o.sb r t o.chosen).first (omega arith) in
      (i.0, g.0 ∙ i.1, inl i.2, rw g.1 i.3, rw g.1 i.4)
  answered {s} {t} {r} w o (inr h) =
      let i = value_of lb o.b w o.second_ran o.second_spared h in
      let d = same_depth la o.a w (first_none h) o.first_ran o.first_spared in
      let longer = i.4 in
      let g = (picked s o.a o.sa o.b o.sb r t o.chosen).second (omega arith) in
      (i.0, g.0 ∙ i.1, inr i.2, rw g.1 i.3, rw g.1 i.4)

  -- a value is of one of both
  took : {s t : Situation} {v : T} → IsWholeIn env s → BranchesEval a b s (Ok v) t
      → LastTook whole all_words values s v t
  took {s} {t} {v} w o = ⊎_elim
      (λ g. let i = la.keeps.ok s o.sa v w (subst (λ z. a s z o.sa) g.0 o.first_ran) in
      of_one g.1 i.deep (λ spelled n. by_first spelled (i.read spelled n)))
      (λ g. let i = lb.keeps.ok s o.sb v w (subst (λ z. b s z o.sb) g.0 o.second_ran) in
      of_one g.1 i.deep (λ spelled n. by_second spelled (i.read spelled n)))
      ((picked s o.a o.sa o.b o.sb (Ok v) t o.chosen).one v refl)
    where
      by_part : NonePresent (cells t) → OpensNone all_words (cells s)
          → IsSpelledLine s.context → PartOrCommands whole all_words values (cells s) v
      by_part none n spelled =
          of_part n (((alone_part_law as_part).keeps.ok s t v w (o, n)).read spelled none)

      by_first : IsSpelledLine s.context → PartOrCommands p wa va (cells s) v
          → NonePresent (cells t) → PartOrCommands whole all_words values (cells s) v
      by_first spelled (of_commands h) none = of_commands (inl h)
      by_first spelled (of_part n h) none = by_part none (neither_opens wa wb n
          (alone_opens lb.plain la.part.is (cells_spelled s spelled) h)) spelled

      by_second : IsSpelledLine s.context → PartOrCommands q wb vb (cells s) v
          → NonePresent (cells t) → PartOrCommands whole all_words values (cells s) v
      by_second spelled (of_commands h) none = of_commands (inr h)
      by_second spelled (of_part n h) none = by_part none (neither_opens wa wb
          (alone_opens la.plain lb.part.is (cells_spelled s spelled) h) n) spelled

      of_one : {m : Situation} → Alike m t → depth s ≤ depth m
          → (IsSpelledLine s.context → NonePresent (cells m) → NonePresent (cells t)
          → PartOrCommands whole all_words values (cells s) v)
          → LastTook whole all_words values s v t
      of_one e d f = record {
        deep = let same = e.depth_alike in omega arith;
        read = λ spelled n. f spelled (subst NonePresent e.cells_alike n) n;
        all = λ u h. let i = answered w o h in
            let same : v ≡ i.0 = let x = i.1 in cc in (rw same i.2, i.3, i.4);
      }

  -- It keeps to the laws.
  pub last_choice_law : LastLaw env T (ChoiceOutcome a b) (either ra rb) all_words whole values
  last_choice_law = record {
    part = as_part;
    plain = list_all-append (λ word. not (is_dashed word)) wa wb ∙ rw (la.plain, lb.plain) refl;
    opened = λ cs v. ⊎_elim (λ h. let o = la.opened cs v h in (o.0, opens_left wa wb o.1))
        (λ h. let o = lb.opened cs v h in (o.0, opens_right wa wb o.1));
    others = λ z n d cs v s. ⊎_elim (λ h. la.others z n (apart_first rb d) cs v s h)
        (λ h. lb.others z n (apart_second ra d) cs v s h);
    keeps = record {
      ok = λ s t v w o. took w o;
      err = λ s t e w o u h. ⊎_elim
          (λ x. absurd (let i = answered w x h in let f = i.1 in cc))
          (λ m. memory_class e.0 m.0) o;
    };
  }
