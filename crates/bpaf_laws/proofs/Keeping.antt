-- How what evaluations keep is put together. No combinator builds a `Keeps` of its own: it goes
-- through these lemmas and one for each call of a state, so that a clause can be added to the laws
-- here.
use Rattle.std.proofs.Common.{false, subst, true, ◌&&◌, ◌||◌, List, ◌++◌, refl, Bool, zero, ◌≡◌, []}
use Rattle.std.proofs.Common.{append_assoc, append-nil, true≢false, Result, Option, length, arith}
use Rattle.std.proofs.Common.{◌+◌, ◌∷◌, sym, ◌∙◌, suc, ◌<◌, ◌≤◌, map, ap, ℕ}
use Rattle.std.proofs.{lemmas.Bool.Decides.nat_tests, lemmas.List.map-append}
use Rattle.std.specs.Prelude.{◌==◌, None, Some, not, Err, Ok}
use Rattle.bpaf_doc.specs.declared.doc.Piece.{Piece}
use Rattle.bpaf_doc.specs.{Shape.shape_of, Shape.Shape, declared.meta.Meta.Meta}
use Rattle.bpaf_text.specs.{declared.fault.TextFault.TextFault, Meaning.ReadsText, Named.Named}
use Rattle.bpaf_line.specs.Situation.{with_current, take_place, with_scope, open_count}
use Rattle.bpaf_base.specs.Count.{count_below}
use Rattle.bpaf_line.specs.declared.error.Message.TheVariants.{ParseFailure}
use Rattle.bpaf_line.specs.Situation.{Situation, with_path, is_taken, in_scope, Context, is_open}
use Rattle.bpaf_line.specs.{Messages.is_answer, Messages.is_memory, declared.error.Message.Message}
use Rattle.bpaf_line.specs.{declared.error.Error.Error, Taking.ConflictsSaved}
use Rattle.bpaf_messages.specs.Rendering.{Renders}
use Rattle.bpaf_line.proofs.Marks.{keeps_marks_current, keeps_marks_trans, keeps_marks_scope}
use Rattle.bpaf_line.proofs.Places.{open_not_taken, open_in_line, taken_other, taken_stays}
use Rattle.bpaf_line.proofs.Places.{taken_here}
use Rattle.bpaf_line.proofs.Marks.{keeps_marks_refl, keeps_marks_take, keeps_marks_path}
use Rattle.bpaf_line.specs.declared.failure.ParseFailure.{ParseFailure as Failure}
use Rattle.bpaf_laws.specs.Reading.{IsEmptyShare, TellsReading, ReadsValue, Readings, HasPlace}
use Rattle.bpaf_laws.specs.Laws.{no_memory, Refusal, wanting, Closes, Lawful, Keeps, Reads}
use Rattle.bpaf_laws.specs.Laws.{NamesAnswer, HasSomeName, taken_count, refusal_of, CountFalls}
use Rattle.bpaf_laws.specs.Product.{AppendsShapes, LastDescribes, BothReads}
use Rattle.bpaf_laws.specs.Combinators.{FallbackOutcome, TellsFault, GivesClone}
use Rattle.bpaf_laws.specs.Reading.{Outcome, IsPlace, IsPair, IsKept, Joins}
use Rattle.bpaf_laws.specs.{Laws.newly, Laws.told, Leaves.FlagOutcome}
use Rattle.bpaf_line.specs.declared.failure.ParseFailure.TheVariants as failure

-- what an evaluation keeps, whatever it answers
pub keeps_of : {T : Type 0} {outcome : Outcome T} {reads : Readings T} → Lawful T outcome reads
    → (s : Situation) (r : Result T Error) (t : Situation) → outcome s r t → Keeps s t
keeps_of law s (Ok v) t o = (law.ok s t v o).keeps
keeps_of law s (Err e) t o = law.err s t e o

-- what the laws say of an answer
abbrev pub LawfulAnswer : (T : Type 0) → Readings T → Situation → Result T Error → Situation
    → Type 0
LawfulAnswer T reads s (Ok v) t = Reads T reads s v t
LawfulAnswer T reads s (Err e) t = Keeps s t × NamesAnswer s.context e.0

-- each answer is as they say
abbrev pub AnswersLawfully : {T : Type 0} → Outcome T → Readings T → Type 0
AnswersLawfully {T} outcome reads = (s : Situation) (r : Result T Error) (t : Situation)
    → outcome s r t → LawfulAnswer T reads s r t

-- then they hold
pub lawful_by : {T : Type 0} {outcome : Outcome T} {reads : Readings T}
    → AnswersLawfully outcome reads → Lawful T outcome reads
lawful_by answers = grind arith

-- where the laws hold each answer keeps to them
pub lawful_answer : {T : Type 0} {outcome : Outcome T} {reads : Readings T}
    → Lawful T outcome reads → AnswersLawfully outcome reads
lawful_answer law s x t o = grind arith

-- what was read is a reading of others too, where its places are
pub reads_as : {A B : Type 0} {reads : Readings A} {others : Readings B} {s : Situation} {v : A}
    {w : B} {t : Situation} → Reads A reads s v t
    → (reads s.context (newly s t) v → others s.context (newly s t) w) → Reads B others s w t
reads_as read also = grind arith

-- nothing is newly taken since the same situation
pub newly_none : (s : Situation) → IsEmptyShare (newly s s)
newly_none s p = grind arith

-- nothing changes
pub keeps_refl : (s : Situation) → Keeps s s
keeps_refl s = grind (arith, true≢false, newly_none, append-nil, keeps_marks_refl)

-- no place is left outside
pub closes_refl : (s : Situation) → Closes s s
closes_refl s p within outside = absurd (true≢false (sym within ∙ outside))

-- taking a place moves no scope
pub closes_take : (s : Situation) (p : ℕ) → Closes s (take_place s p)
closes_take s p q within outside = absurd (true≢false (sym within ∙ outside))

-- taking two places, one after the other, moves no scope
pub closes_take_both : (s : Situation) (p q : ℕ) → Closes s (take_place (take_place s p) q)
closes_take_both s p q r within outside = absurd (true≢false (sym within ∙ outside))

-- one evaluation after another
pub keeps_trans : (s m t : Situation) → Keeps s m → Keeps m t → Keeps s t
keeps_trans s m t a b = grind (arith, append_assoc, keeps_marks_trans)

-- what two evaluations take, one after the other, is what both take together
pub newly_joins : (s m t : Situation) → Keeps s m → Keeps m t
    → Joins (newly s m) (newly m t) (newly s t)
newly_joins s m t a b = grind arith

-- what is read by one evaluation after another is read by both
pub reads_both : {A B : Type 0} {first : Readings A} {rest : Readings B} {s m t : Situation} {x : A}
    {y : B} → Reads A first s x m → Reads B rest m y t
    → Reads (A × B) (BothReads A B first rest) s (x, y) t
reads_both one other = grind (arith, keeps_trans, newly_joins)

-- what the current place is doesn't matter
pub keeps_current : (s t : Situation) (place : Option ℕ) → Keeps s t
    → Keeps s (with_current t place)
keeps_current s t place k = assumption (keeps_marks_current s t place k.marks)

-- a scope inside the old one keeps all
pub keeps_scope : (s t : Situation) (start end : ℕ) → Keeps s t
    → ((p : ℕ) → in_scope (with_scope t start end) p ≡ true → in_scope s p ≡ true)
    → Keeps s (with_scope t start end)
keeps_scope s t start end k narrows = assumption (keeps_marks_scope s t start end k.marks)

-- a name at the end of the path keeps all
pub keeps_path : (s t : Situation) (entry : List ℕ) → Keeps s t → Keeps s (with_path t entry)
keeps_path s t entry k = grind (arith, keeps_marks_trans, keeps_marks_path, append_assoc)

-- where no place is current any more, all is kept
pub keeps_unset : (s t : Situation) → t ≡ with_current s None → Keeps s t
keeps_unset s t unset = subst (Keeps s) (sym unset) (keeps_current s s None (keeps_refl s))

-- where the situation is as before, all is kept
pub keeps_same : (s t : Situation) → t ≡ s → Keeps s t
keeps_same s t same = subst (Keeps s) (sym same) (keeps_refl s)

-- where the situation is as before, a value that may be read off no place is read
pub reads_same : {T : Type 0} (reads : Readings T) (s t : Situation) (v : T) → t ≡ s
    → reads s.context (newly s s) v → Reads T reads s v t
reads_same reads s t v same read = grind (arith, closes_refl, keeps_refl)

-- where only no place is current any more, a value that may be read off no place is read
pub reads_unset : {T : Type 0} (reads : Readings T) (s t : Situation) (v : T)
    → t ≡ with_current s None → reads s.context (newly s s) v → Reads T reads s v t
reads_unset reads s t v unset read = grind (arith, closes_refl, keeps_current, keeps_refl)

-- after a place was taken it is that place that is taken, or what was
taken_after : (s : Situation) (p q : ℕ) → is_taken (take_place s p) q ≡ (q == p || is_taken s q)
taken_after s p q = grind (arith, nat_tests, taken_here, taken_other)

-- a present place of the scope is taken: that place is newly taken, and no other
pub newly_take : (s : Situation) (p : ℕ) → is_open s p ≡ true → IsPlace p (newly s (take_place s p))
newly_take s p there q = grind (arith, nat_tests, open_not_taken, taken_after)

-- a present place of the scope is taken: all else is kept
pub keeps_take : (s : Situation) (p : ℕ) → is_open s p ≡ true → Keeps s (take_place s p)
keeps_take s p there =
    grind (arith, nat_tests, taken_stays, taken_after, append-nil, keeps_marks_take)

-- a place is taken, and then the next one: both are newly taken, and no other
pub newly_take_both : (s : Situation) (p : ℕ) → is_open s p ≡ true → is_open (take_place s p)
    (p + 1) ≡ true → IsPair p (newly s (take_place (take_place s p) (p + 1)))
newly_take_both s p first second q =
    let m = take_place s p in
    let free = open_not_taken s p first in
    let next = open_not_taken m (p + 1) second in
    grind (arith, nat_tests, taken_after s p q, taken_after m (p + 1) q, taken_after s p (p + 1))

module _ {T : Type 0} (reads : Readings T) (s m loser : Situation) (winner : ℕ) (v : T)
    (t : Situation) (saved : ConflictsSaved m loser winner t) (read : Reads T reads s v m) where
  -- conflict notes leave the scope
  scope_conflicts : (p : ℕ) → in_scope t p ≡ in_scope m p
  scope_conflicts p = rw (saved.start, saved.end) refl

  -- they take nothing
  newly_conflicts : newly s t ≡ newly s m
  newly_conflicts = λ i p. ap (λ taken. taken && not (is_taken s p)) (saved.taken p) i

  -- what was read is read under conflict notes too
  pub reads_conflicts : Reads T reads s v t
  reads_conflicts =
      let k = read.keeps in
      record {
        keeps = record {
          context = saved.context ∙ k.context;
          stays = λ p taken. saved.taken p ∙ k.stays p taken;
          fresh = λ p new. k.fresh p (sym (ap (λ share. share p) newly_conflicts) ∙ new);
          narrows = λ p within. k.narrows p (sym (scope_conflicts p) ∙ within);
          path = record { more = k.path.more; is = saved.path ∙ k.path.is };
          marks = keeps_marks_trans s m t k.marks saved.marks;
        };
        closed = λ p inside outside.
            saved.taken p ∙ read.closed p inside (sym (scope_conflicts p) ∙ outside);
        reading = subst (λ share. reads s.context share v) (sym newly_conflicts) read.reading;
      }

-- Messages that are the answer of no run inside, or of one whose answer has a name.

-- a message is one that names its answer
pub names_same : (context : Context) (m n : Message) → NamesAnswer context n → m ≡ n
    → NamesAnswer context m
names_same context m n names same = subst (NamesAnswer context) (sym same) names

-- what holds on the line after an evaluation holds before it: the line is the same
pub on_line : (Holds : Context → Type 0) (s t : Situation) → Keeps s t → Holds t.context
    → Holds s.context
on_line Holds s t kept after = subst Holds kept.context after

-- want of memory, also that of an inner run
pub names_want : (context : Context) (m : Message) → is_memory m ≡ true → NamesAnswer context m
names_want context (ParseFailure failure.Memory) want = (no_memory, wanting)
names_want context (ParseFailure f) want = absurd (true≢false (sym want))
names_want context m want = tt

-- the text of a fault, or want of memory for it
pub names_fault : (context : Context) {E : Type 0} (shown : E → Option (List ℕ)) (fault : E)
    (refusal : List ℕ → Message) (m : Message)
    → ((text : List ℕ) → NamesAnswer context (refusal text))
    → TellsFault shown fault refusal m → NamesAnswer context m
names_fault context shown fault refusal m names tells = grind (arith, names_same)

-- each message but the answer of an inner run has a name
pub name_of : (m : Message) → is_answer m ≡ false → (name : Refusal) × (refusal_of m ≡ Some name)
name_of (ParseFailure inner) other = absurd (true≢false other)
name_of m other = (_, refl)

-- no message but the answer of an inner run shows something
pub shows_nothing : (m : Message) (s : Situation) (doc : List Piece) (full : Bool)
    → is_answer m ≡ false → ¬ (Renders m s (failure.Stdout doc full))
shows_nothing m s doc full other tells = grind arith

-- what is told of a message that is no answer of an inner run has a name
pub told_has_name : (m : Message) (s : Situation) (f : Failure) → is_answer m ≡ false
    → Renders m s f → HasSomeName s.context f
told_has_name m s failure.Memory plain tells = (no_memory, wanting)
told_has_name m s (failure.Stdout doc full) plain tells = grind (arith, shows_nothing)
told_has_name m s (failure.Stderr doc) plain tells =
    let named : (name : Refusal) × (refusal_of m ≡ Some name) = name_of m plain in
    (named.0, told named.0 m s doc refl named.1 tells)

-- Counting what an evaluation newly took.

-- two sets that have no number in common have together as many as the set that they make
pub count_below-joined : (whole f g : ℕ → Bool) (n : ℕ) → ((p : ℕ) → whole p ≡ (f p || g p))
    → ((p : ℕ) → (f p && g p) ≡ false) → count_below whole n ≡ count_below f n + count_below g n
count_below-joined whole f g zero all apart = refl
count_below-joined whole f g (suc n) all apart =
    grind (arith, count_below-joined whole f g n all apart)

-- what is present at first is present still, or newly taken
pub open_joins : (s t : Situation) → Keeps s t → Closes s t
    → Joins (is_open t) (newly s t) (is_open s)
open_joins s t k c = grind arith

-- the count of present places falls by the number of newly taken ones
pub open_count-falls : (s t : Situation) → Keeps s t → Closes s t
    → open_count s ≡ open_count t + taken_count s t
open_count-falls s t k c = grind (arith, count_below-joined, open_joins, open_joins s t k c)

-- after a value of a lawful parser as many places fewer are present as were newly taken
pub lawful_falls : {T : Type 0} {outcome : Outcome T} {reads : Readings T} → Lawful T outcome reads
    → CountFalls outcome
lawful_falls law s t v answered = grind (arith, open_count-falls)

-- a set without numbers below n lacks each of them
pub none_below : (set : ℕ → Bool) (n : ℕ) → count_below set n ≡ 0 → (p : ℕ) → p < n → set p ≡ false
none_below set zero e p within = absurd (omega arith)
none_below set (suc n) e p within = grind (arith, none_below set n)

-- a set with some numbers below n has one
some_below : (set : ℕ → Bool) (n : ℕ) → 0 < count_below set n → HasPlace set
some_below set zero some = absurd (omega arith)
some_below set (suc n) some = grind (arith, some_below set n)

-- an evaluation that left fewer present places took one
pub fewer_took : (s t : Situation) → Keeps s t → Closes s t → open_count t < open_count s
    → HasPlace (newly s t)
fewer_took s t k c fewer =
    let falls = open_count-falls s t k c in
    some_below (newly s t) (length s.context.line) (omega arith)

-- an evaluation that left as many present places took none
pub same_took_none : (s t : Situation) → Keeps s t → Closes s t → open_count s ≤ open_count t
    → IsEmptyShare (newly s t)
same_took_none s t k c same p =
    let falls = open_count-falls s t k c in
    grind (arith, none_below (newly s t) (length s.context.line), open_in_line s p, k.fresh p)

module _ {T : Type 0} {clones : T → T → Type 0}
    (equal : (kept v : T) → clones kept v → v ≡ kept) where
  -- a fallback answers the inner value or what it keeps
  pub fallback_kept : (inner : Outcome T) (kept : T) (s : Situation) (r : Result T Error)
      (t : Situation) → FallbackOutcome inner (GivesClone clones kept) s r t
      → FallbackOutcome inner (GivesClone IsKept kept) s r t
  fallback_kept inner kept s r t o = grind (arith, equal)

  -- a flag answers one of the two values that it keeps
  pub flag_kept : (named : Named) (present : T) (absent : Option T) (s : Situation)
      (r : Result T Error) (t : Situation) → FlagOutcome clones named present absent s r t
      → FlagOutcome IsKept named present absent s r t
  flag_kept named present absent s r t o = grind (arith, equal)

module _ {T : Type 0} (means : List ℕ → T → Type 0) (text : List ℕ) (current : Option ℕ) where
  -- what is told of a reading of a text is an answer for that text
  pub reading_told : (read : Result T TextFault) (result : Result T Error)
      → ReadsText means text read → TellsReading read current result
      → ReadsValue means text current result
  reading_told read result meant same = grind arith

-- one more shape, that of the last field
pub last_shape : (describes : Shape → Type 0) (old new : List Meta) (meta : Meta)
    → new ≡ old ++ meta ∷ [] → describes (shape_of meta)
    → AppendsShapes (LastDescribes describes) (map shape_of old) (map shape_of new)
last_shape describes old new meta appended shown = (
  shape_of meta ∷ [],
  (shape_of meta, shown, refl),
  ap (map shape_of) appended ∙ map-append shape_of old (meta ∷ []),
)
