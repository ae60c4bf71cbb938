-- What the value of each leaf says of its pieces, and those of a repeat; and which need a piece.
use Rattle.std.proofs.Common.{append-nil, true≢false, Option, arith, false, Bool, List, None, Some}
use Rattle.std.proofs.Common.{refl, true, ◌&&◌, ◌++◌, ◌||◌, inl, inr, not, sym, ◌∙◌, ◌∷◌, ◌≡◌, ◌≢◌}
use Rattle.std.proofs.Common.{[], ap, ℕ}
use Rattle.std.specs.{Option.IsSomeRelated, Option.is_none, List.AllZip}
use Rattle.bpaf_doc.specs.Names.{Names}
use Rattle.bpaf_text.specs.Named.{KeyWithValue, Named as Key}
use Rattle.bpaf_laws.specs.{Leaves.value_without_key, Combinators.is_nil, Reading.first_set}
use Rattle.bpaf_exact.proofs.Names.{never_nil}
use Rattle.bpaf_exact.specs.Flat.{listed_and_absent, FallbackValue, OptionalValue, SingleValue, Gap}
use Rattle.bpaf_exact.specs.Flat.{only_absent, Variables, own_more, own_none, OneWord, FrontOf, Own}
use Rattle.bpaf_exact.specs.ProgramForm.{argument_field, argument_group, argument_roles, flag_field}
use Rattle.bpaf_exact.specs.ProgramForm.{ArgumentValue, flag_roles, CellsValue, FlagValue, word_by}
use Rattle.bpaf_exact.specs.Says.{FallbackSays, OptionalSays, says_in_turn, says_present, FrontSays}
use Rattle.bpaf_exact.specs.Says.{says_variable_text, says_last_text, says_variable, ArgumentSays}
use Rattle.bpaf_exact.specs.Says.{says_absent, RepeatSays, says_alone, says_kept, says_none, Said}
use Rattle.bpaf_exact.specs.Says.{says_some, says_text, FlagSays, MadeSays, WordSays, LastSays}
use Rattle.bpaf_exact.specs.Flat.{OwnList, Closure, ByName, Groups, listed}
use Rattle.bpaf_exact.specs.{Pieces.LinePiece, Pieces.Roles, Pieces.One, Pieces.Two, Says.says_own}
use Rattle.bpaf_exact.specs.{ProgramForm.WordValue, ProgramForm.key_field, Says.of_kind, Says.Says}

-- Leaves.

-- what each piece alone says the front says
pub front_says : {T : Type 0} (value : LinePiece → T → Type 0) {said : Said T}
    → ((o : LinePiece) (v : T) → value o v → said (o ∷ []) v) → (os rest : List LinePiece) (v : T)
    → FrontOf T value os v rest → FrontSays said os v rest
front_says value each os rest v h =
    record { part = h.0 ∷ []; is = h.1; some = λ e. cc; told = each h.0 v h.2 }

-- a key, where each of its pieces, its groups and what stands for none say so
key_says : {T : Type 0} {said : Said T} {names : List Names} {cells : CellsValue T}
    (wide may_choose : Bool) (q : Roles) {each : LinePiece → T → Type 0} {group : Groups T}
    (gap : Gap T) → ((o : LinePiece) (v : T) → each o v → said (o ∷ []) v)
    → ((os rest : List LinePiece) (v : T) → group os v rest → FrontSays said os v rest)
    → ((v : T) → gap.absent v → said [] v)
    → Says names (key_field wide may_choose q each group gap) (of_kind ByName) false said cells
key_says wide b q gap piece groups none = grind arith

-- a flag
module _ {T : Type 0} (clones : T → T → Type 0) (present : T) where
  -- its key
  present_piece : {absent : Option T} {set : Option (List ℕ)} (o : LinePiece) (v : T)
      → FlagValue (clones present) o v → FlagSays clones present absent set (o ∷ []) v
  present_piece (One k) v m = says_present k refl m
  present_piece (Two k w) v m = absurd m

  -- no key
  flag_gap_says : (absent : Option T) (set : Option (List ℕ)) (v : T)
      → IsSomeRelated clones (value_without_key present absent set) v
      → FlagSays clones present absent set [] v
  flag_gap_says None None v m = absurd m
  flag_gap_says (Some a) None v m = says_absent a refl refl refl m
  flag_gap_says absent (Some text) v m = says_variable text refl refl m

  -- the value of a flag's field says what the flag's does
  pub flag_says : {names : List Names} {cells : CellsValue T} (key : Key) (absent : Option T)
      (variables : Variables)
      → Says names (flag_field clones key present absent variables) (of_kind ByName) false
      (FlagSays clones present absent (first_set variables key.envs)) cells
  flag_says key absent variables =
      key_says (not (is_nil key.envs)) (is_nil key.envs && is_none absent) (flag_roles key.names) _
      present_piece (front_says (FlagValue (clones present)) present_piece)
      (flag_gap_says absent (first_set variables key.envs))

-- an argument
module _ {T : Type 0} (means : List ℕ → T → Type 0) where
  -- its key and the value behind that
  pair_piece : {last : Bool} {set : Option (List ℕ)} (o : LinePiece) (v : T)
      → ArgumentValue means o v → ArgumentSays means last set (o ∷ []) v
  pair_piece (One k) v m = absurd m
  pair_piece (Two k w) v m = says_text k w refl m

  -- all its keys
  argument_group_says : {set : Option (List ℕ)} (last : Bool) (os rest : List LinePiece) (v : T)
      → argument_group means last os v rest → FrontSays (ArgumentSays means last set) os v rest
  argument_group_says false os rest v g = front_says (ArgumentValue means) pair_piece os rest v g
  argument_group_says true os rest v g = record {
    part = os;
    is = sym (ap (λ z. os ++ z) g.4 ∙ append-nil os);
    some = λ e. never_nil _ (Two g.1.0 g.1.1) [] (sym g.2 ∙ e);
    told = says_last_text g.0 g.1.0 g.1.1 refl g.2 g.3;
  }

  -- no key
  argument_gap_says : {last : Bool} (set : Option (List ℕ)) (v : T)
      → IsSomeRelated means set v → ArgumentSays means last set [] v
  argument_gap_says None v m = absurd m
  argument_gap_says (Some text) v m = says_variable_text text refl refl m

  -- the value of an argument's field says what the argument's does
  pub argument_says : {names : List Names} {cells : CellsValue T} (argument : KeyWithValue)
      (variables : Variables)
      → Says names (argument_field means argument variables) (of_kind ByName) false
      (ArgumentSays means argument.last (first_set variables argument.named.envs)) cells
  argument_says argument variables =
      key_says (argument.adjacent || not (is_nil argument.named.envs))
      (is_nil argument.named.envs && not argument.last)
      (argument_roles argument.adjacent argument.named.names) _ pair_piece
      (argument_group_says argument.last)
      (argument_gap_says (first_set variables argument.named.envs))

-- what the value of a word by itself says
pub word_says : {T : Type 0} (accepts : Bool → Bool) (means : List ℕ → T → Type 0) (o : LinePiece)
    (v : T) → WordValue accepts means o v → WordSays accepts means (o ∷ []) v
word_says accepts means (One w) v m = record { word = w; is = refl; side = m.0; meant = m.1 }
word_says accepts means (Two k w) v m = absurd m

-- a positional word
pub word_by_says : {T : Type 0} {names : List Names} {cells : CellsValue T}
    (accepts : Bool → Bool) (means : List ℕ → T → Type 0)
    → Says names (word_by accepts means) (of_kind (OneWord (not (accepts true)))) false
    (WordSays accepts means) cells
word_by_says accepts means = grind (arith, front_says, word_says)

-- Repeats and defaults.

module _ {T : Type 0} (said : Said T) (group : Groups T) (gap : Gap T)
    (fronts : (os rest : List LinePiece) (v : T) → group os v rest → FrontSays said os v rest)
    (absent : (v : T) → gap.absent v → said [] v) where
  -- a value of all pieces at once
  pub whole_says : (os : List LinePiece) (v : T) → SingleValue T group gap os v → said os v
  whole_says os v x2 = grind (arith, append-nil)

  -- values in turn
  turns_say : {os : List LinePiece} {vs : List T} → Own T group os vs → Own T (FrontSays said) os vs
  turns_say own_none = own_none
  turns_say (own_more {os} {rest} {v} g more) = own_more (fronts os rest v g) (turns_say more)

  -- the values of a repeat
  pub list_says : (os : List LinePiece) (vs : List T) → OwnList T group gap os vs
      → RepeatSays said os vs
  list_says os vs (listed h o) = says_in_turn (turns_say o)
  list_says os vs (listed_and_absent h a o) = says_in_turn (turns_say o)
  list_says os vs (only_absent {a = v} h a) = says_alone v refl refl (absent v a)

  -- Some of one, or None
  pub optional_by : (os : List LinePiece) (r : Option T) → OptionalValue T group gap os r
      → OptionalSays said os r
  optional_by os (Some v) h = says_some v refl (whole_says os v h)
  optional_by os None e = says_none refl e.0

  -- one, or what stands in its place
  pub fallback_by : (f : Closure (Unit {0}) T) (os : List LinePiece) (v : T)
      → FallbackValue T group gap f os v → FallbackSays said (f.yes tt) os v
  fallback_by f os v (inl h) = says_own (whole_says os v h)
  fallback_by f os v (inr e) = says_kept e.0 e.2

-- a value that is said of one piece
record OfOnePiece {T : Type 0} (one : LinePiece → T → Type 0) (os : List LinePiece)
    (v : T) : Type 0 where
  piece : LinePiece
  is : os ≡ piece ∷ []
  said : one piece v

-- values that are each said of one piece are said of the pieces in line order, one for each
module _ {T : Type 0} (said : Said T) (one : LinePiece → T → Type 0)
    (of_one : (os : List LinePiece) (v : T) → said os v → OfOnePiece one os v) where
  in_turn : (os : List LinePiece) (vs : List T) → Own T (FrontSays said) os vs → AllZip one os vs
  in_turn [] [] own_none = tt
  in_turn (o ∷ os) [] h = elim h [ ]
  in_turn os (v ∷ vs) (own_more {rest} front more) = grind (arith, in_turn rest vs more)

  one_by_one : {os : List LinePiece} {vs : List T} → RepeatSays said os vs → AllZip one os vs
  one_by_one x = grind (arith, in_turn)

-- Of a repeated argument with no variable set: what the texts behind its keys mean, in line order.
pub argument_values : {T : Type 0} {means : List ℕ → T → Type 0} {last : Bool}
    {set : Option (List ℕ)} {os : List LinePiece} {vs : List T} → last ≡ false → set ≡ None
    → RepeatSays (ArgumentSays means last set) os vs → AllZip (ArgumentValue means) os vs
argument_values {T} {means} {last} {set} {os} once unset told =
    one_by_one (ArgumentSays means last set) (ArgumentValue means) of_one told
  where
    of_one : (os : List LinePiece) {v : T} → ArgumentSays means last set os v
        → OfOnePiece (ArgumentValue means) os v
    of_one os (says_text k w e m) = record { piece = Two k w; is = e; said = m }
    of_one os (says_variable_text text none is m) = absurd cc
    of_one os (says_last_text before k w all e m) = absurd (true≢false (sym all ∙ once))

-- Of a repeated required flag of that kind: its present value, once for each key.
pub flag_values : {T : Type 0} {clones : T → T → Type 0} {present : T} {absent : Option T}
    {set : Option (List ℕ)} {os : List LinePiece} {vs : List T} → absent ≡ None → set ≡ None
    → RepeatSays (FlagSays clones present absent set) os vs
    → AllZip (FlagValue (clones present)) os vs
flag_values {T} {clones} {present} {absent} {set} {os} required unset told =
    one_by_one (FlagSays clones present absent set) (FlagValue (clones present)) of_one told
  where
    of_one : (os : List LinePiece) {v : T} → FlagSays clones present absent set os v
        → OfOnePiece (FlagValue (clones present)) os v
    of_one os (says_present k e m) = record { piece = One k; is = e; said = m }
    of_one os (says_variable text none is m) = absurd cc
    of_one os (says_absent a e is some m) = absurd cc

-- Of repeated words: what their texts mean, in line order.
pub word_values : {T : Type 0} {means : List ℕ → T → Type 0} {os : List LinePiece} {vs : List T}
    {accepts : Bool → Bool} → RepeatSays (WordSays accepts means) os vs
    → AllZip (WordValue accepts means) os vs
word_values told = grind (arith, one_by_one)

-- no value says so of no piece
pub record NeedsPiece {T : Type 0} (said : Said T) : Type 0 where
  pub some : (v : T) → ¬ (said [] v)

-- where the first part of nothing has a member there is none
no_part : {X : Type 0} (xs ys : List X) → [] ≡ xs ++ ys → xs ≡ []
no_part [] ys e = refl
no_part (x ∷ xs) ys e = absurd cc

-- An argument's value needs a piece, where no variable of its is set.
pub argument_needs : {T : Type 0} {means : List ℕ → T → Type 0} {last : Bool}
    {set : Option (List ℕ)} → set ≡ None → NeedsPiece (ArgumentSays means last set)
argument_needs unset = grind (arith, never_nil)

-- A required flag's value needs a piece, where no variable of its is set.
pub flag_needs : {T : Type 0} {clones : T → T → Type 0} {present : T} {absent : Option T}
    {set : Option (List ℕ)} → absent ≡ None → set ≡ None
    → NeedsPiece (FlagSays clones present absent set)
flag_needs required unset = grind arith

-- A value with a closure round it needs a piece where it does inside.
pub made_needs : {A B : Type 0} {said : Said A} {f : Closure A B} → NeedsPiece said
    → NeedsPiece (MadeSays said f)
made_needs needs = record { some = λ v made. needs.some made.from made.told }

-- A repeat that has values needs a piece where each of them does.
pub repeat_needs : {T : Type 0} {said : Said T} → NeedsPiece said → (vs : List T) → vs ≢ []
    → ¬ (RepeatSays said [] vs)
repeat_needs needs vs some x = grind (arith, no_part)

-- A last value needs a piece where each value does.
pub last_needs : {T : Type 0} {said : Said T} → NeedsPiece said → NeedsPiece (LastSays said)
last_needs needs = grind (arith, never_nil, repeat_needs)

-- A repeat without values has no piece.
pub no_values : {T : Type 0} {said : Said T} {os : List LinePiece} → RepeatSays said os [] → os ≡ []
no_values x = grind arith
