-- Adjacent commands and groups keep to the laws where what is inside does, and read one stretch.
use Rattle.std.proofs.Common.{true≢false, nat_le, nat_lt, arith, true, ◌&&◌, ◌==◌, ◌||◌, ◌≡◌, ◌<◌}
use Rattle.std.proofs.Common.{◌≤◌, ◌+◌, ◌∙◌, sym, ℕ}
use Rattle.std.proofs.{lemmas.Bool.Decides.nat_tests}
use Rattle.std.specs.Prelude.{Result, Option, IfOk, List, Some, None, Err, Ok}
use Rattle.bpaf_doc.specs.Shape.{Part}
use Rattle.bpaf_line.specs.Situation.{open_count, with_scope, Situation, is_open}
use Rattle.bpaf_line.specs.declared.error.Error.{Error}
use Rattle.bpaf_line.proofs.Places.{open_in_scope}
use Rattle.bpaf_laws.specs.Laws.{NamesAnswer, IsNotMemory, Closes, Lawful, Spares, Keeps, newly}
use Rattle.bpaf_laws.specs.Command.{opening_words, CommandReads, IsOpenedAt, Called, inside}
use Rattle.bpaf_laws.specs.Adjacent.{StretchReads, GroupOutcome, TriedInVain, none_tried, not_taken}
use Rattle.bpaf_laws.specs.Adjacent.{all_failed, none_gave, IsStretch, Narrowed, answered, Searches}
use Rattle.bpaf_laws.specs.Adjacent.{EndsWith, Failure, longest, refused, wanted, Probe, whole}
use Rattle.bpaf_laws.specs.Adjacent.{again, Tries, gave}
use Rattle.bpaf_laws.proofs.CommandLaws.{leaves_nothing, keeps_inside, word_is_open, word_read}
use Rattle.bpaf_laws.proofs.Keeping.{keeps_scope, keeps_refl, newly_take, reads_both, keeps_same}
use Rattle.bpaf_laws.proofs.Keeping.{AnswersLawfully, LawfulAnswer, keeps_trans, newly_joins}
use Rattle.bpaf_laws.proofs.Keeping.{names_same, names_want, lawful_by, reads_as, keeps_of}
use Rattle.bpaf_laws.specs.{Reading.Readings, Reading.Outcome, Reading.Share, Laws.Reads}

module _ (s : Situation) (from end : ℕ)
    (present : (p : ℕ) → from ≤ p → p < end → is_open s p ≡ true) where
  -- the stretch as the scope keeps all
  pub keeps_stretch : Keeps s (with_scope s from end)
  keeps_stretch = grind (arith, keeps_refl, keeps_scope, nat_tests)

  -- where nothing of the stretch is left, what is newly taken is the stretch
  pub newly_stretch : (t : Situation) → Keeps (with_scope s from end) t
      → Closes (with_scope s from end) t → open_count t ≡ 0
      → (p : ℕ) → newly s t p ≡ (nat_le from p && nat_lt p end)
  newly_stretch t keeps closed none p =
      let left = leaves_nothing (with_scope s from end) t closed none p in
      grind (arith, nat_tests, present p, keeps.fresh p)

-- a place and the stretch behind it are one stretch
one_more : (p end q : ℕ) → p + 1 ≤ end
    → (q == p || (nat_le (p + 1) q && nat_lt q end)) ≡ (nat_le p q && nat_lt q end)
one_more p end q ordered = grind (arith, nat_tests)

module _ (called : Called) (s : Situation) (p : ℕ) (at : IsOpenedAt (opening_words called) s p)
    (end : ℕ) (ordered : p + 1 ≤ end)
    (present : (q : ℕ) → p + 1 ≤ q → q < end → is_open (inside called s p) q ≡ true) where
  module _ {T : Type 0} {reads : Readings T} (v : T) (t : Situation)
      (read : Reads T reads (with_scope (inside called s p) (p + 1) end) v t)
      (none : open_count t ≡ 0) where
    -- what it keeps inside the command
    kept_inside : Keeps (inside called s p) t
    kept_inside = grind (arith, keeps_stretch, keeps_trans)

    -- all that is newly taken is the word and the stretch behind it
    one_stretch : (q : ℕ) → newly s t q ≡ (nat_le p q && nat_lt q end)
    one_stretch q =
        let m : Situation = inside called s p in
        let word = newly_take s p (word_is_open (opening_words called) s p at) in
        let joins = newly_joins s m t (keeps_inside called s p at) kept_inside in
        let behind = newly_stretch m (p + 1) end present t read.keeps read.closed none q in
        grind (arith, nat_tests, joins.all q, word q)

    -- what is read over a stretch of places behind the word is read, with the scope from the word
    pub adjacent_read : Reads T (StretchReads T (CommandReads T (opening_words called) reads)) s v
        (with_scope t p s.end)
    adjacent_read =
        let m : Situation = inside called s p in
        let inner : Reads T reads m v (with_scope t p s.end) = record {
          keeps = keeps_scope m t p s.end kept_inside (λ q within. within);
          closed = λ q within outside. absurd (true≢false (sym within ∙ outside));
          reading = read.reading;
        } in
        reads_as (reads_both (word_read called s p at) inner) (λ both. record {
          read = record { name = p; read = both };
          stretch = record { from = p; to = end; is = one_stretch };
        })

-- Adjacent groups keep to the laws where their products do.

-- each place up to the end of an attempt is present before it
pub narrowed_open : {T : Type 0} (inner : Outcome T) (s : Situation) (a b : ℕ)
    → Narrowed T inner s a b → (a ≤ b) × ((p : ℕ) → a ≤ p → p < b → is_open s p ≡ true)
narrowed_open inner s a b (whole stop stretch) = (stretch.ordered, stretch.present)
narrowed_open inner s a b (again stop left v t before ran next) =
    grind (arith, open_in_scope, narrowed_open inner s a stop before)

module _ {T : Type 0} {inner : Outcome T} {reads : Readings T} (law : Lawful T inner reads)
    (s : Situation) where
  -- an attempt keeps all
  attempt_keeps : (a b : ℕ) (r : Result T Error) (t : Situation) → Narrowed T inner s a b
      → inner (with_scope s a b) r t → Keeps s t
  attempt_keeps a b r t narrowed ran =
      keeps_trans s (with_scope s a b) t
      (keeps_stretch s a b (narrowed_open inner s a b narrowed).1)
      (keeps_of law (with_scope s a b) r t ran)

  -- the attempts from a place on keep all
  pub tries_keep : (a : ℕ) (r : Result T Error) (t : Situation) → Tries T inner s a r t → Keeps s t
  tries_keep a r t (answered stop v left narrowed ran none) =
      grind (arith, attempt_keeps, keeps_scope)
  tries_keep a r t (refused stop e left narrowed ran) = grind (arith, attempt_keeps)

  -- a value of theirs is read off one stretch, and an error names its answer
  tries_answer : (a : ℕ) (r : Result T Error) (t : Situation) → Tries T inner s a r t
      → LawfulAnswer T (StretchReads T reads) s r t
  tries_answer a r t (refused stop e left narrowed ran) = (
    attempt_keeps a stop (Err e) left narrowed ran,
    law.named (with_scope s a stop) left e ran,
  )
  tries_answer a r t (answered stop v left narrowed ran none) =
      let opened = narrowed_open inner s a stop narrowed in
      let read = law.ok (with_scope s a stop) left v ran in
      record {
        keeps = tries_keep a (Ok v) _ (answered stop v left narrowed ran none);
        closed = λ p within outside. absurd (true≢false (sym within ∙ outside));
        reading = record {
          read = read.reading;
          stretch = record {
            from = a;
            to = stop;
            is = λ p. grind (arith, nat_tests, none p, opened.1 p, read.keeps.fresh p);
          };
        };
      }

  -- a failure keeps all and names its answer, if there is one
  abbrev BestKeeps : Option Failure → Type 0
  BestKeeps None = Unit {0}
  BestKeeps (Some failure) = Keeps s failure.left × NamesAnswer s.context failure.error.0

  -- the longest failure of places tried in vain keeps all and names its answer, if there is one
  vain_keeps : {first : Part} {from : ℕ} {failures : List Failure}
      → TriedInVain T inner s first from failures → BestKeeps (longest s failures)
  vain_keeps none_tried = tt
  vain_keeps (not_taken from a failures before start probe) = vain_keeps before
  vain_keeps (all_failed from a failures e t before start probe tries spared) =
      grind (arith, tries_answer, vain_keeps before)

  -- the end of a search without a value keeps all and names its answer, if there is one
  end_keeps : (first : Part) (best : Option Failure) (e : Error) (t : Situation) → BestKeeps best
      → EndsWith s first best e t → Keeps s t × NamesAnswer s.context e.0
  end_keeps first x e t before ends = grind (arith, keeps_same, names_same)

-- adjacent groups keep to the laws
pub group_lawful : {T : Type 0} {inner : Outcome T} {reads : Readings T} (first : Part)
    → Lawful T inner reads → Lawful T (GroupOutcome T inner first) (StretchReads T reads)
group_lawful {T} {inner} {reads} first law = lawful_by answers
  where
    answers : AnswersLawfully (GroupOutcome T inner first) (StretchReads T reads)
    answers s r t (gave from a failures v left before start probe tries) =
        tries_answer law s a (Ok v) left tries
    answers s r t (none_gave from failures e left before none ends) =
        end_keeps law s first (longest s failures) e left (vain_keeps law s before) ends
    answers s r t (wanted e memory) = (keeps_refl s, names_want _ e.0 memory)

-- a value of theirs newly took one stretch
pub group_takes_stretch : {T : Type 0} {inner : Outcome T} {reads : Readings T} (first : Part)
    → Lawful T inner reads → (s : Situation) (r : Result T Error) (t : Situation)
    → GroupOutcome T inner first s r t → IfOk r (λ _. IsStretch (newly s t))
group_takes_stretch first law s (Ok v) t o = ((group_lawful first law).ok s t v o).reading.stretch
group_takes_stretch first law s (Err e) t o = tt

module _ {T : Type 0} (inner without : Outcome T) (spares : Spares inner without)
    (s : Situation) where
  -- what ended an attempt with a value isn't want of memory
  narrowed_spared : {a b : ℕ} → Narrowed T inner s a b → Narrowed T without s a b
  narrowed_spared (whole stop run) = whole stop run
  narrowed_spared {a} (again stop left v t before ran next) =
      again stop left v t (narrowed_spared before)
      (spares (with_scope s a stop) t (Ok v) ran tt) next

  -- attempts catch no want of memory
  tries_spared : {a : ℕ} {r : Result T Error} {t : Situation} → IsNotMemory r
      → Tries T inner s a r t → Tries T without s a r t
  tries_spared {a} spared (answered stop v left narrowed ran none) =
      answered stop v left (narrowed_spared narrowed)
      (spares (with_scope s a stop) left (Ok v) ran tt) none
  tries_spared {a} spared (refused stop e left narrowed ran) =
      refused stop e left (narrowed_spared narrowed)
      (spares (with_scope s a stop) left (Err e) ran spared)

  -- probes catch no want of memory
  probe_spared : {a stop : ℕ} {Takes : Share → Type 0} → Probe T inner s a stop Takes
      → Probe T without s a stop Takes
  probe_spared probe = grind arith

  -- places that were tried in vain catch no want of memory
  vain_spared : {first : Part} {from : ℕ} {failures : List Failure}
      → TriedInVain T inner s first from failures → TriedInVain T without s first from failures
  vain_spared none_tried = none_tried
  vain_spared (not_taken from a failures before start probe) =
      not_taken from a failures (vain_spared before) start (probe_spared probe)
  vain_spared (all_failed from a failures e t before start probe tries spared) =
      all_failed from a failures e t (vain_spared before) start (probe_spared probe)
      (tries_spared spared tries) spared

  -- an adjacent group catches no want of memory
  pub spared_group : {first : Part} {r : Result T Error} {t : Situation}
      → Searches T inner s first r t → Searches T without s first r t
  spared_group (gave from a failures v left before start probe tries) =
      gave from a failures v left (vain_spared before) start (probe_spared probe)
      (tries_spared tt tries)
  spared_group (none_gave from failures e left before none ends) =
      none_gave from failures e left (vain_spared before) none ends
  spared_group (wanted e memory) = wanted e memory
