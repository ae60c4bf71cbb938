-- Combinators over one inner parser keep to the laws where it does; repeats are bounded.
use Rattle.std.proofs.Common.{⊎_elim, arith, false, subst, Bool, true, List, Some, refl, ◌++◌, IfOk}
use Rattle.std.proofs.Common.{◌==◌, Err, inl, inr, ◌≡◌, ◌⊎◌, Box, ◌+◌, ◌<◌, ◌≤◌, ◌∷◌, sym, ◌≢◌, not}
use Rattle.std.proofs.Common.{if◌then◌else◌, true≢false, IsErrAnd, is_some, length, Result, Option}
use Rattle.std.proofs.{Common.Ok, Common.ap, Common.[], Common.ℕ, lemmas.Bool.Decides.nat_tests}
use Rattle.std.specs.{Prelude.vec_len, Prelude.None, Prelude.◌&&◌, declared.alloc.Global.Global}
use Rattle.std.specs.Global.{Vec}
use Rattle.bpaf_doc.specs.Shape.{shape_layer, Subsection, part_layer, shape_of, Shape, Part}
use Rattle.bpaf_doc.specs.{declared.item.Item.TheFolds.fold-roll-Meta, declared.doc.Piece.Piece}
use Rattle.bpaf_doc.specs.{declared.item.Item.TheOpen.Meta-F, declared.meta.MetaInfo.MetaInfo}
use Rattle.bpaf_doc.specs.declared.meta.Meta.{Meta}
use Rattle.bpaf_line.specs.declared.error.Message.TheVariants.{PureFailed, Memory}
use Rattle.bpaf_line.specs.{Situation.open_count, Situation.Situation, declared.error.Error.Error}
use Rattle.bpaf_laws.specs.Combinators.{CollectIsBounded, FallbackOutcome, CollectOutcome, MapReads}
use Rattle.bpaf_laws.specs.Combinators.{GivesAnswer, TurnOutcome, HideOutcome, ListOutcome}
use Rattle.bpaf_laws.specs.Combinators.{ManyOutcome, SomeOutcome, LastOutcome, NamesGiven, is_nil}
use Rattle.bpaf_laws.specs.Combinators.{IsBounded, PureReads, UntilRest, EachReads, EndsIn, Gives}
use Rattle.bpaf_laws.specs.Combinators.{OptionalReads, ParseOutcome, GuardOutcome, CountOutcome}
use Rattle.bpaf_laws.specs.Combinators.{MapOutcome, UntilFault, ListReads, EachTakes, Turns, stops}
use Rattle.bpaf_laws.specs.Combinators.{rests}
use Rattle.bpaf_laws.proofs.Keeping.{open_count-falls, AnswersLawfully, same_took_none, names_fault}
use Rattle.bpaf_laws.proofs.Keeping.{lawful_answer, keeps_trans, keeps_same, newly_none, reads_same}
use Rattle.bpaf_laws.proofs.Keeping.{names_want, names_same, keeps_refl, reads_both, fewer_took}
use Rattle.bpaf_laws.proofs.Keeping.{lawful_by, reads_as, on_line}
use Rattle.bpaf_laws.specs.Laws.{NamesAnswer, Lawful, Keeps, Reads}
use Rattle.bpaf_laws.specs.{Reading.Readings, Reading.HasPlace, Reading.Outcome, Choice.ChoiceReads}
use Rattle.bpaf_doc.specs.declared.meta.Meta as meta

-- a refusal by a closure is the answer of no run inside
pub names_answer : {T E : Type 0} (answers : Result T E → Type 0) (shown : E → Option (List ℕ))
    → NamesGiven (GivesAnswer answers shown)
names_answer answers shown context e gives =
    names_fault _ shown gives.0 PureFailed e.0 (λ text. tt) gives.2

module _ {T : Type 0} {inner : Outcome T} {reads : Readings T} (law : Lawful T inner reads) where
  -- what a turn's error keeps, and that it names its answer
  pub step_refuses : (catches first : Bool) (s t : Situation) (e : Error)
      → TurnOutcome inner catches first s (Err e) t → Keeps s t × NamesAnswer s.context e.0
  step_refuses catches first s t e o =
      grind (arith, lawful_answer law s (Err e) t, keeps_same s t, names_want s.context e.0)

  -- optional values keep to the laws
  pub optional_lawful : (catches : Bool)
      → Lawful (Option T) (TurnOutcome inner catches true) (OptionalReads reads)
  optional_lawful catches = lawful_by answers
    where
      answers : AnswersLawfully (TurnOutcome inner catches true) (OptionalReads reads)
      answers s (Ok (Some v)) t o = reads_as (law.ok s t v o.0) (λ read. read)
      answers s (Ok None) t (inl dropped) = absurd (true≢false dropped.2)
      answers s (Ok None) t (inr stopped) =
          reads_same (OptionalReads reads) s t None stopped.1 (newly_none s)
      answers s (Err e) t o = step_refuses catches true s t e o

  -- fallbacks keep to the laws
  pub fallback_lawful : (gives : Gives T) → NamesGiven gives
      → Lawful T (FallbackOutcome inner gives) (ChoiceReads reads (PureReads (λ w. gives (Ok w))))
  fallback_lawful gives names = lawful_by answers
    where
      answers : AnswersLawfully (FallbackOutcome inner gives)
          (ChoiceReads reads (PureReads (λ w. gives (Ok w))))
      answers s (Ok v) t (inl ran) = reads_as (law.ok s t v ran) inl
      answers s (Ok v) t (inr fell) =
          reads_same (ChoiceReads reads (PureReads (λ w. gives (Ok w)))) s t v fell.0.1
          (inr (newly_none s, fell.1))
      answers s (Err e) t (inl refused) = (
        keeps_same s t refused.1,
        ⊎_elim (λ ran. law.named s ran.0 e ran.1) (names_want _ e.0) refused.0,
      )
      answers s (Err e) t (inr fell) = (keeps_same s t fell.0.1, names s.context e fell.1)

module _ {T : Type 0} {inner : Outcome T} {reads : Readings T} (law : Lawful T inner reads) where
  -- where values are made of inner ones and refusals are inner or stand for one, laws are kept
  pub made_lawful : {R : Type 0} {outcome : Outcome R} (makes : T → R → Type 0)
      → ((s t : Situation) (v : R) → outcome s (Ok v) t → (x : T) × inner s (Ok x) t × makes x v)
      → ((s t : Situation) (e : Error) → outcome s (Err e) t
      → inner s (Err e) t ⊎ ((x : T) × inner s (Ok x) t × NamesAnswer s.context e.0))
      → Lawful R outcome (MapReads T R reads makes)
  made_lawful makes values refusals = grind (arith, reads_as)

  -- mapped parsers keep to the laws
  pub map_lawful : {R : Type 0} (answers : T → R → Type 0)
      → Lawful R (MapOutcome inner answers) (MapReads T R reads answers)
  map_lawful answers = made_lawful answers (λ s t v o. o) (λ s t e o. inl o)

  -- those whose value a closure reads on
  pub parse_lawful : {R E : Type 0} (answers : T → Result R E → Type 0)
      (shown : E → Option (List ℕ))
      → Lawful R (ParseOutcome inner answers shown) (MapReads T R reads (λ x v. answers x (Ok v)))
  parse_lawful answers shown = grind (arith, made_lawful, names_fault)

  -- guarded parsers keep to the laws
  pub guard_lawful : (checks : T → Bool → Type 0) (message : List ℕ)
      → Lawful T (GuardOutcome inner checks message)
      (MapReads T T reads (λ x v. (v ≡ x) × checks x true))
  guard_lawful checks message = grind (arith, made_lawful, names_same)

-- hidden parsers keep to the laws
pub hide_lawful : {T : Type 0} {inner : Outcome T} {reads : Readings T} → Lawful T inner reads
    → Lawful T (HideOutcome inner) reads
hide_lawful law = grind (arith, names_same)

-- the shape of a section
section_shape : (inner : Box Meta Global) (title : List Piece)
    → shape_of (meta.Subsection inner title) ≡ Subsection (shape_of inner.value) title
unfolding meta.roll-Meta denote.Hole.Carrier.roll
section_shape inner title =
    fold-roll-Meta Part Shape part_layer shape_layer (Meta-F.Subsection inner title)

-- that of a section of what was lent to a closure
pub titled_shape : (info : MetaInfo) (inner : Box Meta Global) (title : List Piece)
    → inner.value ≡ info.0.now
    → shape_of (meta.Subsection inner title) ≡ Subsection (shape_of info.0.now) title
titled_shape info inner title lent = grind (arith, section_shape)

-- Repeats keep to the laws where the inner parser does, and are bounded.

-- a value after the first took an item
pub took_item : {T : Type 0} (inner : Outcome T) (catches : Bool) (s m : Situation) (v : T)
    → TurnOutcome inner catches false s (Ok (Some v)) m → open_count m < open_count s
took_item inner catches s m v o = grind arith

-- turns of which each took an item are turns of a repeat
pub any_first : {T : Type 0} (inner : Outcome T) (catches : Bool) (s : Situation) (vs : List T)
    (t : Situation) → Turns inner catches false s vs t → Turns inner catches true s vs t
any_first inner catches s [] t o = o
any_first inner catches s (v ∷ vs) t o = (o.0, (o.1.0, inl refl), o.2)

-- one more turn at the end
pub steps_more : {T : Type 0} (inner : Outcome T) (catches first : Bool) (s m : Situation)
    (vs : List T) (v : T) (t : Situation) → Turns inner catches first s vs m
    → TurnOutcome inner catches (first && is_nil vs) m (Ok (Some v)) t
    → Turns inner catches first s (vs ++ v ∷ []) t
steps_more inner catches first s m [] v t o step = grind arith
steps_more inner catches first s m (x ∷ vs) v t o step =
    (o.0, o.1, steps_more inner catches false o.0 m vs v t o.2 (step.0, grind arith))

-- a run without a value leaves all as it was
pub no_values : {T : Type 0} (inner : Outcome T) (s : Situation) (vs : List T) (t : Situation)
    → vs ≡ [] → UntilRest inner s vs t → t ≡ s
no_values inner s xs t e run = grind arith

module _ {T : Type 0} {inner : Outcome T} {reads : Readings T} (law : Lawful T inner reads)
    (catches : Bool) where
  -- a stop reads no value
  stop_reads : (first : Bool) (s t : Situation) → TurnOutcome inner catches first s (Ok None) t
      → Reads (List T) (EachReads reads) s [] t
  stop_reads first s t (inl dropped) = grind (arith, same_took_none)
  stop_reads first s t (inr stopped) = reads_same (EachReads reads) s t [] stopped.1 (newly_none s)

  -- what turns keep
  steps_keep : (first : Bool) (s : Situation) (vs : List T) (t : Situation)
      → Turns inner catches first s vs t → Keeps s t
  steps_keep first s [] t o = subst (Keeps s) o (keeps_refl s)
  steps_keep first s (v ∷ vs) t o =
      keeps_trans s o.0 t (law.ok s o.0 v o.1.0).keeps (steps_keep false o.0 vs t o.2)

  -- turns that each took an item, and then a stop, read each their own share
  each_read : (s : Situation) (vs : List T) (m t : Situation) → Turns inner catches false s vs m
      → Reads (List T) (EachReads reads) m [] t → Reads (List T) (EachReads reads) s vs t
  each_read s [] m t o none = subst (λ w. Reads (List T) (EachReads reads) w [] t) (sym o) none
  each_read s (v ∷ vs) m t o none =
      let read = law.ok s o.0 v o.1.0 in
      let some = fewer_took s o.0 read.keeps read.closed (took_item inner catches s o.0 v o.1) in
      let here : Reads T (λ context own w. HasPlace own × reads context own w) s v o.0 =
      reads_as read (λ own. (some, own)) in
      reads_as (reads_both here (each_read o.0 vs m t o.2 none)) (λ r.
      (r.first_share, r.rest_share, r.joins, r.first_read.0, r.first_read.1, r.rest_read))

  -- a value, and then turns that each took an item, and then a stop
  first_read : (s n m t : Situation) (v : T) (vs : List T) → inner s (Ok v) n
      → Turns inner catches false n vs m → Reads (List T) (EachReads reads) m [] t
      → Reads (List T) (ListReads reads) s (v ∷ vs) t
  first_read s n m t v vs o steps none =
      reads_as (reads_both (law.ok s n v o) (each_read n vs m t steps none))
      (λ r. (r.first_share, r.rest_share, r.joins, r.first_read, r.rest_read))

  -- a list keeps to the laws
  list_lawful : Lawful (List T) (ListOutcome inner catches) (ListReads reads)
  list_lawful = lawful_by answers
    where
      answers : AnswersLawfully (ListOutcome inner catches) (ListReads reads)
      answers s (Ok []) t run =
          grind (arith, reads_as, stop_reads, stop_reads true run.last t run.stop)
      answers s (Ok (v ∷ vs)) t run =
          first_read s run.steps.0 run.last t v vs run.steps.1.0 run.steps.2
          (stop_reads false run.last t run.stop)
      answers s (Err e) t run =
          let fails = step_refuses law catches (is_nil run.values) run.last t e run.fails in
          let kept = steps_keep true s run.values run.last run.steps in (
            keeps_trans s run.last t kept fails.0,
            on_line (λ c. NamesAnswer c e.0) s run.last kept
                fails.1,
          )

  -- many keeps to the laws
  pub many_lawful : Lawful (Vec T) (ManyOutcome inner catches)
      (MapReads (List T) (Vec T) (ListReads reads) (λ values v. v.items ≡ values))
  many_lawful = grind (arith, list_lawful, made_lawful)

  -- some keeps to the laws
  pub some_lawful : (message : List ℕ)
      → Lawful (Vec T) (SomeOutcome inner catches message) (MapReads (List T) (Vec T)
      (ListReads reads) (λ values v. (v.items ≡ values) × (is_nil values ≡ false)))
  some_lawful message = grind (arith, list_lawful, made_lawful, names_same)

  -- collect keeps to the laws
  pub collect_lawful : {C : Type 0} (fills : List T → C → Type 0)
      → Lawful C (CollectOutcome inner catches fills) (MapReads (List T) C (ListReads reads) fills)
  collect_lawful fills = grind (arith, list_lawful, made_lawful, names_want)

  -- each value took an item, so there are no more values than items
  pub values_bounded : (s : Situation) (vs : List T) (t : Situation)
      → Turns inner catches false s vs t → length vs + open_count t ≤ open_count s
  values_bounded s [] t o = let same = ap open_count o in omega arith
  values_bounded s (v ∷ vs) t o = grind (arith, took_item, values_bounded o.0 vs t o.2)

  -- the first value may have taken none
  steps_bounded : (s : Situation) (vs : List T) (t : Situation) → Turns inner catches true s vs t
      → length vs ≤ open_count s + 1
  steps_bounded s [] t o = omega arith
  steps_bounded s (v ∷ vs) t o =
      let here = law.ok s o.0 v o.1.0 in
      let falls = open_count-falls s o.0 here.keeps here.closed in
      let later = values_bounded o.0 vs t o.2 in
      omega arith

  -- turns that each took an item
  each_takes : (s : Situation) (vs : List T) (t : Situation) → Turns inner catches false s vs t
      → EachTakes inner s vs t
  each_takes s [] t o = o
  each_takes s (v ∷ vs) t o = grind (arith, took_item, each_takes o.0 vs t o.2)

  -- a repeat is bounded
  pub list_bounded : (s t : Situation) (values : List T) → ListOutcome inner catches s (Ok values) t
      → IsBounded inner s values
  list_bounded s t values run =
      (steps_bounded s values run.last run.steps, (run.last, grind (arith, each_takes, run.steps)))

  -- a turn that answers a value leaves fewer items present, or is the first
  pub step_falls : (first : Bool) (s : Situation) (v : T) (t : Situation)
      → TurnOutcome inner catches first s (Ok (Some v)) t
      → open_count t < open_count s + (if first then 1 else 0)
  step_falls first s v t o =
      let here = law.ok s t v o.0 in
      let falls = open_count-falls s t here.keeps here.closed in
      grind arith

module _ {T : Type 0} {inner : Outcome T} {reads : Readings T} (law : Lawful T inner reads) where
  -- one value, and then nothing
  one_read : (s t : Situation) (v : T) → inner s (Ok v) t
      → Reads (List T) (ListReads reads) s (v ∷ []) t
  one_read s t v o =
      first_read law false s t t t v [] o refl
      (reads_same (EachReads reads) t t [] refl (newly_none t))

  -- what answers a list where a turn stops, or rests
  abbrev RestOutcome : Outcome (List T)
  RestOutcome s (Ok vs) t = UntilRest inner s vs t
  RestOutcome s (Err e) t = UntilFault inner s e t

  -- it keeps to the laws
  rest_lawful : Lawful (List T) RestOutcome (ListReads reads)
  rest_lawful = lawful_by answers
    where
      answers : AnswersLawfully RestOutcome (ListReads reads)
      answers s (Ok vs) t (stops run) = (list_lawful law false).ok s t vs (record {
        last = run.last;
        steps = any_first inner false s vs run.last run.steps;
        stop = run.stop;
      })
      answers s (Ok vs) t (rests v is o same) = grind (arith, one_read)
      answers s (Err e) t run = lawful_answer (list_lawful law false) s (Err e) t (record {
        values = run.values;
        last = run.last;
        steps = any_first inner false s run.values run.last run.steps;
        fails = run.fails;
      })

  -- count keeps to the laws
  pub count_lawful : Lawful ℕ (CountOutcome inner)
      (MapReads (List T) ℕ (ListReads reads) (λ values n. n ≡ length values))
  count_lawful = grind (arith, made_lawful, rest_lawful)

  -- last keeps to the laws
  pub last_lawful : Lawful T (LastOutcome inner) (MapReads (List T) T (ListReads reads)
      (λ values v. (before : List T) × (values ≡ before ++ v ∷ [])))
  last_lawful = lawful_by answers
    where
      answers : AnswersLawfully (LastOutcome inner) (MapReads (List T) T (ListReads reads)
          (λ values w. (before : List T) × (values ≡ before ++ w ∷ [])))
      answers s (Ok v) t (inl run) = reads_as (rest_lawful.ok s t (run.0 ++ v ∷ []) run.1)
          (λ read. record { from = run.0 ++ v ∷ []; read = read; made = (run.0, refl) })
      answers s (Ok v) t (inr again) =
          let same = no_values inner s [] again.0 refl again.1 in
          reads_as (one_read s t v (subst (λ w. inner w (Ok v) t) same again.2))
          (λ read. record { from = v ∷ []; read = read; made = ([], refl) })
      answers s (Err e) t (inl fault) = lawful_answer rest_lawful s (Err e) t fault
      answers s (Err e) t (inr again) =
          let kept = (rest_lawful.ok s again.0 [] again.1).keeps in (
            keeps_trans s again.0 t kept (law.err again.0 t e again.2),
            on_line (λ c. NamesAnswer c e.0) s again.0 kept (law.named again.0 t e again.2),
          )

module _ {T : Type 0} {inner : Outcome T} {reads : Readings T} (law : Lawful T inner reads)
    (catches : Bool) (s t : Situation) where
  -- many gives no more values than items are present, and one
  pub many_bounded : (r : Result (Vec T) Error) → ManyOutcome inner catches s r t
      → IfOk r (λ values. IsBounded inner s values.items)
  many_bounded r o = grind (arith, list_bounded law catches s t)

  -- for some
  pub some_bounded : (message : List ℕ) (r : Result (Vec T) Error)
      → SomeOutcome inner catches message s r t → IfOk r (λ values. IsBounded inner s values.items)
  some_bounded message r o = grind (arith, list_bounded law catches s t)

  -- for collect
  pub collect_bounded : {C : Type 0} (fills : List T → C → Type 0) (r : Result C Error)
      → CollectOutcome inner catches fills s r t → CollectIsBounded inner catches fills s r t
  collect_bounded fills (Ok v) o = (o.0, o.1, o.2, list_bounded law catches s t o.0 o.1)
  collect_bounded fills (Err e) o = tt

-- what `is_empty` answers of a list
pub vec_nil : {T : Type 0} (values : Vec T) → (vec_len values == 0) ≡ is_nil values.items
vec_nil values = let is = values.ok.0 in grind (arith, nat_tests)

-- a list with one value more at its end isn't empty
nil_behind : {T : Type 0} (vs : List T) (v : T) → is_nil (vs ++ v ∷ []) ≡ false
nil_behind [] v = refl
nil_behind (x ∷ vs) v = refl

-- a list with one value more at its end counts for nothing where no value does
pub not_nil : {T : Type 0} (us vs : List T) (v : T) → us ≡ vs ++ v ∷ []
    → ◌≡◌ {A = ℕ} (if is_nil us then 1 else 0) 0
not_nil us vs v e = rw (e, nil_behind vs v) refl

-- a value that couldn't be kept, for want of memory
pub steps_refused : {T : Type 0} (inner : Outcome T) (r : Result (Vec T) Error) (catches : Bool)
    (s t : Situation) (vs : List T) → Turns inner catches true s vs t
    → IsErrAnd r (λ e. e.0 ≡ Memory) → ManyOutcome inner catches s r t
steps_refused inner x catches s t vs steps is = grind arith

-- there is no last value where there is no value
pub none_nil : {T : Type 0} (values : List T) (o : Option T) (b : Bool) → is_some o ≡ not b
    → EndsIn values o → b ≡ is_nil values
none_nil values o b answered ends = grind (arith, nil_behind)

module _ {T : Type 0} {inner : Outcome T} {reads : Readings T} (law : Lawful T inner reads)
    (s m : Situation) (vs : List T) (v : T) (t : Situation) (steps : Turns inner false false s vs m)
    (step : TurnOutcome inner false (is_nil vs) m (Ok (Some v)) t) where
  -- where the value took nothing it is the first, and the run rests
  pub rests_here : open_count t ≡ open_count m → UntilRest inner s (vs ++ v ∷ []) t
  rests_here same = by_values vs steps step
    where
      by_values : (vs : List T) → Turns inner false false s vs m
          → TurnOutcome inner false (is_nil vs) m (Ok (Some v)) t
          → UntilRest inner s (vs ++ v ∷ []) t
      by_values [] steps step =
          rests v refl (subst (λ w. inner w (Ok v) t) (sym steps) step.0)
          (let equal = ap open_count steps in omega arith)
      by_values (x ∷ xs) steps step = grind (arith, took_item, took_item inner false m t v step)

  -- else it took an item
  pub goes_on : open_count t ≢ open_count m
      → Turns inner false false s (vs ++ v ∷ []) t × (open_count t < open_count m)
  goes_on other =
      let here = law.ok m t v step.0 in
      let falls = open_count-falls m t here.keeps here.closed in
      let fewer : open_count t < open_count m = omega arith in
      (steps_more inner false false s m vs v t steps (step.0, inr fewer), fewer)

  -- there are no more values than items present at the start, or there was none before this one
  pub fits_more : (length vs ≡ 0) ⊎ (length vs + 1 ≤ open_count s)
  fits_more = let bound = values_bounded law false s vs m steps in grind arith
