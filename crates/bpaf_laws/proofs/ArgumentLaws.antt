-- Arguments keep to the laws: what taking keys with the texts behind them takes, and that a key
-- comes before the environment.
use Rattle.std.proofs.Common.{true≢false, Result, ⊎_elim, arith, false, subst, List, Bool, true, []}
use Rattle.std.proofs.Common.{◌++◌, Some, ◌≡◌, ◌+◌, ◌∷◌, sym, ◌∙◌, Err, inl, inr, ap, Ok, ℕ}
use Rattle.std.proofs.lemmas.Bool.{cases_Bool, eqb-true, or_cases, or_right, or_left}
use Rattle.std.proofs.lemmas.Bool.Decides.{nat_tests}
use Rattle.std.specs.Prelude.{◌==◌, ◌||◌, None, ◌⊎◌, ◌<◌, ◌≤◌}
use Rattle.std.specs.Option.{IsSomeRelated}
use Rattle.bpaf_base.specs.declared.arg.Arg.{Arg}
use Rattle.bpaf_text.specs.Named.{KeyWithValue}
use Rattle.bpaf_line.specs.Situation.{take_place, open_count, Situation, is_open}
use Rattle.bpaf_line.specs.declared.error.Message.TheVariants.{ParseFailure, ParseFailed, Memory}
use Rattle.bpaf_line.specs.declared.error.Message.TheVariants.{NoArgument}
use Rattle.bpaf_line.proofs.Places.{match_has_item, match_is_open, value_is_open, taken_other}
use Rattle.bpaf_line.proofs.Places.{taken_stays, taken_here}
use Rattle.bpaf_line.specs.Taking.{value_after, open_item, is_match}
use Rattle.bpaf_line.specs.{declared.error.Message.Message, declared.error.Error.Error}
use Rattle.bpaf_laws.specs.Reading.{ReadsValue, FaultsText, Readings, IsPair, Share}
use Rattle.bpaf_laws.specs.Leaves.{TakesKeyWithText, ArgumentOutcome, AreKeysWithText, TakesOwnText}
use Rattle.bpaf_laws.specs.Leaves.{LacksOwnText, IsKeyBefore, TakesBefore, RefusesText, IsFirstBare}
use Rattle.bpaf_laws.specs.Leaves.{KeyBeforeEnvironment, TakesKeysWithTexts, is_key_with_value}
use Rattle.bpaf_laws.specs.Leaves.{ArgumentFails, ArgumentReads, ReadsVariable, FailsKeyFirst}
use Rattle.bpaf_laws.specs.Leaves.{IsOwnText, LacksText, GetsText, HasNoKey, behind, Counts}
use Rattle.bpaf_laws.specs.Laws.{NamesAnswer, Lawful, Keeps, Reads, newly}
use Rattle.bpaf_laws.proofs.Keeping.{closes_take_both, newly_take_both, AnswersLawfully, keeps_same}
use Rattle.bpaf_laws.proofs.Keeping.{keeps_trans, keeps_take, reads_both, newly_none, lawful_by}
use Rattle.bpaf_laws.proofs.Keeping.{same_took_none, keeps_unset, reads_unset, reads_as}

module _ {T : Type 0} (means : List ℕ → T → Type 0) (argument : KeyWithValue) (s t : Situation)
    (text : List ℕ) where
  -- what reading the text of an argument answers
  pub value_read : (r : Result T Error) → GetsText argument s text t
      → ReadsValue means text t.current r → ArgumentOutcome means argument s r t
  value_read r gets meant = grind arith

-- What taking a key with the text behind it takes, and what taking all of them does.

module _ (argument : KeyWithValue) (s : Situation) (text : List ℕ) (t : Situation)
    (takes : TakesKeyWithText argument s text t) where
  -- the items that are keys of the argument
  abbrev test : Arg → Bool
  test = is_key_with_value argument

  -- the key that is taken lay present in scope
  key_open : is_open s takes.key ≡ true
  key_open = match_is_open test s takes.key takes.first.matches

  -- the key, behind which the text stands, and the place behind it are newly taken
  pub key_read : Reads (List ℕ) (λ context share own. IsKeyBefore argument context takes.key own
      × IsPair takes.key share) s text t
  key_read =
      let m = take_place s takes.key in
      rw takes.taken (record {
        keeps = keeps_trans s m (take_place m (takes.key + 1)) (keeps_take s takes.key key_open)
            (keeps_take m (takes.key + 1) (grind (arith, taken_other, value_is_open)));
        closed = closes_take_both s takes.key (takes.key + 1);
        reading = (
          record {
            is_key = match_has_item test s takes.key takes.first.matches;
            behind_it = (value_is_open s takes.key text takes.value).1;
          },
          newly_take_both s takes.key key_open (grind (arith, taken_other, value_is_open)),
        );
      })

  -- one item fewer at least is present in scope
  pub pair_fewer : open_count t < open_count s
  pair_fewer = grind (arith, key_read, nat_tests, same_took_none)

  -- nothing is present any more at these two places
  none_left : (p : ℕ) → (p ≡ takes.key) ⊎ (p ≡ takes.key + 1) → open_item t p ≡ None
  none_left p at =
      let m = take_place s takes.key in
      let value = taken_here m (takes.key + 1) in
      let key = taken_stays m (takes.key + 1) takes.key (taken_here s takes.key) in
      rw takes.taken (grind arith)

  -- each place is one of these, or is as it was
  one_of_two : (p : ℕ) → ((p ≡ takes.key) ⊎ (p ≡ takes.key + 1)) ⊎ (open_item t p ≡ open_item s p)
  one_of_two p =
      let m = take_place s takes.key in
      rw takes.taken (grind (arith, taken_other s takes.key p, taken_other m (takes.key + 1) p))

  -- a key that is there later is none of these
  is_left : (p : ℕ) → is_match test t p ≡ true → (p ≡ takes.key) ⊎ (p ≡ takes.key + 1) → ⊥
  is_left p there at = let none = none_left p at in grind arith

  -- a key that is there later was there at first
  pub key_before : (p : ℕ) → is_match test t p ≡ true → is_match test s p ≡ true
  key_before p there = let step = one_of_two p in grind (arith, is_left p there)

  -- with the text behind it that it has
  pub value_before : (p : ℕ) → is_match test t p ≡ true → value_after s p ≡ value_after t p
  value_before p there = grind (arith, is_left, none_left, one_of_two)

  -- a key that is gone later is the one that was taken
  pub gone_key : (p : ℕ) → is_match test s p ≡ true → is_match test t p ≡ false → p ≡ takes.key
  gone_key p there gone = grind (arith, one_of_two)

-- one key more, behind those that were taken
pub texts_more : (argument : KeyWithValue) (s m t : Situation) (texts : List (List ℕ))
    (text : List ℕ) → TakesKeysWithTexts argument s texts m → TakesKeyWithText argument m text t
    → TakesKeysWithTexts argument s (texts ++ text ∷ []) t
texts_more argument s m t [] text same takes = grind arith
texts_more argument s m t (x ∷ texts) text o takes =
    (o.0, o.1, texts_more argument o.0 m t texts text o.2 takes)

-- at one place: a pair and pairs of others are pairs of all of them
pairs_joined : (key : ℕ) (keys : Share) (p : ℕ) (first rest : Bool)
    → first ≡ (p == key || p == key + 1) → rest ≡ (keys p || behind keys p)
    → (first || rest) ≡ ((p == key || keys p) || behind (λ q. q == key || keys q) p)
pairs_joined key keys p first rest a b = grind (arith, nat_tests)

module _ (argument : KeyWithValue) where
  -- what was read of one key
  one_key : (s : Situation) (text : List ℕ) (t : Situation) → TakesKeyWithText argument s text t
      → Reads (List ℕ) (AreKeysWithText argument) s text t
  one_key s text t takes = reads_as (key_read argument s text t takes) (λ own. record {
    keys = λ p. p == takes.key;
    are_keys = λ p key. (
      text,
      subst (λ q. IsKeyBefore argument s.context q text)
          (sym (eqb-true p takes.key key)) own.0,
    );
    places = λ p. own.1 p ∙ ap (λ next. p == takes.key || next) (sym (grind (arith, nat_tests)));
    greatest = takes.key;
    is_key = grind (arith, nat_tests);
    no_greater = λ p key. grind (arith, nat_tests);
    before = own.0;
  })

  -- what was read of one key before others
  more_keys : (s m t : Situation) (x text : List ℕ) → TakesKeyWithText argument s x m
      → Reads (List ℕ) (AreKeysWithText argument) m text t
      → Reads (List ℕ) (AreKeysWithText argument) s text t
  more_keys s m t x text takes later =
      let rest : Reads (List ℕ) (λ context share own.
      (keys : AreKeysWithText argument context share own)
      × (takes.key ≤ keys.greatest)) m text t = reads_as later (λ own. (own, least own)) in
      reads_as (reads_both (key_read argument s x m takes) rest) (λ r.
      let own = r.rest_read.0 in
      record {
        keys = λ p. p == takes.key || own.keys p;
        are_keys = λ p key. ⊎_elim (λ at. (
          x,
          subst (λ q. IsKeyBefore argument s.context q x) (sym (eqb-true p takes.key at))
              r.first_read.0,
        )) (own.are_keys p) (or_cases (p == takes.key) (own.keys p) key);
        places = λ p. r.joins.all p
            ∙ pairs_joined takes.key own.keys p (r.first_share p) (r.rest_share p)
            (r.first_read.1 p) (own.places p);
        greatest = own.greatest;
        is_key = or_right (own.greatest == takes.key) (own.keys own.greatest) own.is_key;
        no_greater = λ p key. grind (arith, nat_tests, own.no_greater p, r.rest_read.1);
        before = own.before;
      })
    where
      least : (own : AreKeysWithText argument m.context (newly m t) text) → takes.key ≤ own.greatest
      least own =
          let p = own.greatest in
          let new = own.places p ∙ or_left (own.keys p) (behind own.keys p) own.is_key in
          let open_there = later.keeps.fresh p new in
          let has = (own.are_keys p own.is_key).1.is_key in
          let there = key_before argument s x m takes p (grind arith) in
          grind (arith, takes.first.first p)

  -- texts taken in turn, of which this is the last
  pub keys_read : (s t : Situation) (text : List ℕ) (before : List (List ℕ))
      → TakesKeysWithTexts argument s (before ++ text ∷ []) t
      → Reads (List ℕ) (AreKeysWithText argument) s text t
  keys_read s t text [] o = rw o.2 (one_key s text o.0 o.1)
  keys_read s t text (x ∷ before) o = more_keys s o.0 t x text o.1 (keys_read o.0 t text before o.2)

  -- what taking keys with their texts keeps
  pub keys_keep : (s t : Situation) (texts : List (List ℕ)) → TakesKeysWithTexts argument s texts t
      → Keeps s t
  keys_keep s t [] same = keeps_same s t same
  keys_keep s t (text ∷ texts) o =
      keeps_trans s o.0 t (key_read argument s text o.0 o.1).keeps (keys_keep o.0 t texts o.2)

-- the text of a line is read, whichever key counts
got_text : (argument : KeyWithValue) (s : Situation) (text : List ℕ) (t : Situation) (last : Bool)
    → TakesOwnText last argument s text t → Reads (List ℕ) (IsOwnText last argument) s text t
got_text argument s text t false takes =
    reads_as (key_read argument s text t takes) (λ own. (takes.key, own.0, own.1))
got_text argument s text t true takes = keys_read argument s t text takes.before takes.taken

-- what was taken before a refusal keeps
before_keeps : (last : Bool) (argument : KeyWithValue) (s t : Situation)
    → TakesBefore last argument s t → Keeps s t
before_keeps false argument s t same = keeps_same s t same
before_keeps true argument s t taken = keys_keep argument s t taken.0 taken.1

module _ (T : Type 0) (means : List ℕ → T → Type 0) (argument : KeyWithValue) where
  -- what an argument reads
  abbrev reads_argument : Readings T
  reads_argument = ArgumentReads T means argument

  -- what getting a text keeps
  text_keeps : (s t : Situation) (text : List ℕ) → GetsText argument s text t → Keeps s t
  text_keeps s t text gets = ⊎_elim
      (λ takes. (got_text argument s text t argument.last takes).keeps)
      (λ found. keeps_unset s t found.left) gets

  -- what a refusal of an argument keeps, and that it isn't the answer of a run inside
  argument_refused : (s t : Situation) (m : Message) → ArgumentFails means argument s m t
      → Keeps s t × NamesAnswer s.context m
  argument_refused s t (NoArgument key name) fails = grind (arith, before_keeps)
  argument_refused s t (ParseFailed place fault) fails = (text_keeps s t fails.0 fails.1, tt)
  argument_refused s t Memory fails = (
    ⊎_elim (before_keeps argument.last argument s t) (λ got. text_keeps s t got.0 got.1) fails,
    tt,
  )
  argument_refused s t (ParseFailure f) fails = (keeps_same s t fails.2, grind (arith, fails.1.1))
  argument_refused s t other fails = (keeps_same s t fails.2, tt)

  -- arguments keep to the laws
  pub argument_lawful : Lawful T (ArgumentOutcome means argument) reads_argument
  argument_lawful = lawful_by answers
    where
      answers : AnswersLawfully (ArgumentOutcome means argument) reads_argument
      answers s (Ok v) t (text, inl takes, meant) =
          grind (arith, got_text, reads_as, got_text argument s text t argument.last takes)
      answers s (Ok v) t (text, inr found, meant) =
          reads_unset reads_argument s t v found.left
          (inr (newly_none s, subst (λ set. IsSomeRelated means set v) (sym found.set) meant))
      answers s (Err e) t fails = argument_refused s t e.0 fails

-- A key comes before the environment.

-- the key that counts, the text behind it, and the place that is current then
record Counted (last : Bool) (argument : KeyWithValue) (s : Situation) (text : List ℕ)
    (t : Situation) : Type 0 where
  key : ℕ
  matches : is_match (is_key_with_value argument) s key ≡ true
  counts : Counts last (is_key_with_value argument) s key
  behind : value_after s key ≡ Some text
  current : t.current ≡ Some (key + 1)

module _ (argument : KeyWithValue) where
  -- the items that are keys of the argument
  abbrev with_value : Arg → Bool
  with_value = is_key_with_value argument

  -- texts taken in turn until no key is left: the last stands behind the last key
  last_counted : (s t : Situation) (text : List ℕ) (before : List (List ℕ))
      → TakesKeysWithTexts argument s (before ++ text ∷ []) t → HasNoKey argument t
      → Counted true argument s text t
  last_counted s t text [] (m, takes, same) none = record {
    key = takes.key;
    matches = takes.first.matches;
    counts = record {
      matches = takes.first.matches;
      last = λ q above.
          let gone = ap (λ t. is_match with_value t q) (sym same) ∙ none q in
          grind (arith, gone_key argument s text m takes q);
    };
    behind = takes.value;
    current = ap (λ (t : Situation). t.current) (same ∙ takes.taken);
  }
  last_counted s t text (x ∷ before) (m, takes, rest) none =
      let later : Counted true argument m text t = last_counted m t text before rest none in
      let there = key_before argument s x m takes later.key later.matches in
      record {
        key = later.key;
        matches = there;
        counts = record {
          matches = there;
          last = λ q above.
              let first = takes.first.first later.key in
              grind (arith, gone_key argument s x m takes q, later.counts.last q);
        };
        behind = value_before argument s x m takes later.key later.matches ∙ later.behind;
        current = later.current;
      }

  -- a text of the line stands behind the key that counts
  counted : (s : Situation) (text : List ℕ) (t : Situation) (last : Bool)
      → TakesOwnText last argument s text t → Counted last argument s text t
  counted s text t false takes = record {
    key = takes.key;
    matches = takes.first.matches;
    counts = takes.first;
    behind = takes.value;
    current = ap (λ (after : Situation). after.current) takes.taken;
  }
  counted s text t true takes = last_counted s t text takes.before takes.taken takes.no_more

  -- a key that lacks its text when others were taken, lacked it at first
  bare_before : (s t : Situation) (texts : List (List ℕ)) → TakesKeysWithTexts argument s texts t
      → (key : ℕ) → IsFirstBare argument t key → IsFirstBare argument s key
  bare_before s t [] same key bare = subst (λ w. IsFirstBare argument w key) same bare
  bare_before s t (text ∷ texts) (m, takes, rest) key bare =
      let later : IsFirstBare argument m key = bare_before m t texts rest key bare in
      record {
        matches = key_before argument s text m takes key later.matches;
        bare = value_before argument s text m takes key later.matches ∙ later.bare;
        first = λ q before here. ⊎_elim
            (λ (still : is_match with_value m q ≡ true).
            let own = later.first q before still in
            (own.0, value_before argument s text m takes q still ∙ own.1))
            (λ (gone : is_match with_value m q ≡ false). (
              text,
              ap (value_after s) (gone_key argument s text m takes q here gone) ∙ takes.value,
            )) (cases_Bool (is_match with_value m q));
      }

  -- a key of a refusal is there, and lacks the text behind it
  lacks_own : (s t : Situation) (key : ℕ) (metavar : List ℕ) (last : Bool)
      → LacksText argument t (NoArgument key metavar) → TakesBefore last argument s t
      → (is_match with_value s key ≡ true) × LacksOwnText last argument s key metavar
  lacks_own s t key metavar false lacks same = grind arith
  lacks_own s t key metavar true lacks before =
      let bare = bare_before s t before.0 before.1 key (record {
        matches = lacks.0.matches;
        bare = lacks.1;
        first = λ q before here. absurd (grind (arith, lacks.0.first q));
      }) in
      (bare.matches, (bare, lacks.2))

module _ {T : Type 0} (means : List ℕ → T → Type 0) (argument : KeyWithValue)
    (s t : Situation) where
  -- a text that was got is that of the key that counts, or where none is that of the environment
  by_key : (text : List ℕ) → GetsText argument s text t → (A B : Type 0)
      → (TakesOwnText argument.last argument s text t → A) → (ReadsVariable argument s text t → B)
      → ((p : ℕ) → is_match (is_key_with_value argument) s p ≡ true → A) × (HasNoKey argument s → B)
  by_key text gets A B of_key of_variable = grind (arith, true≢false, counted)

  -- a text at fault is that of the key that counts, or where none is that of the environment
  pub fault_first : (text : List ℕ) (m : Message) → GetsText argument s text t
      → FaultsText means text t.current m → FailsKeyFirst means argument s m
  fault_first text m gets fault = grind (arith, by_key, counted)

  -- with one that means a value
  pub key_first : (text : List ℕ) (r : Result T Error) → GetsText argument s text t
      → ReadsValue means text t.current r → KeyBeforeEnvironment means argument s r t
  key_first text (Err e) gets fault = fault_first text e.0 gets fault
  key_first text (Ok v) gets meant =
      by_key text gets _ _ (λ takes. (text, takes, meant)) (λ variable. (text, variable.set, meant))

  -- a refusal without a text is that of the key that counts, or of the environment
  pub refused_first : (m : Message) → RefusesText argument s m t → FailsKeyFirst means argument s m
  refused_first (NoArgument key metavar) refused =
      let lacks = lacks_own argument s t key metavar argument.last refused.0 refused.1 in
      ((λ p here. lacks.1), (λ none. absurd (true≢false (sym lacks.0 ∙ none key))))
  refused_first Memory refused = ((λ p here. tt), (λ none. tt))
  refused_first (ParseFailed place words) refused = let nowhere = refused.1.1 in absurd
      (grind arith)
  refused_first other refused = (
    (λ p here. absurd (true≢false (sym here ∙ refused.0 p))),
    (λ none. refused.1),
  )
