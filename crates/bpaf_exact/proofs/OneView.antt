-- Where closures can't tell apart what looks alike they agree, and a line's values look alike.
use Rattle.std.proofs.Common.{Option, arith, subst, Bool, List, refl, map, ◌∷◌, ◌≡◌, sym, ◌∙◌, true}
use Rattle.std.proofs.Common.{[], ℕ, false, inl, inr, not, ◌&&◌, ◌++◌, ◌||◌}
use Rattle.bpaf_exact.specs.ProgramForm.{program_alone, argument_field, flag_field, program_closed}
use Rattle.bpaf_exact.specs.ProgramForm.{ArgumentValue, program_field, program_both, program_con}
use Rattle.bpaf_exact.specs.ProgramForm.{whole_value, ProgramForm, word_by, whole_program}
use Rattle.bpaf_exact.specs.ProgramForm.{program_value, alternative, program_if, WordValue}
use Rattle.bpaf_exact.specs.ProgramForm.{key_field, completed, commands, program_optional}
use Rattle.bpaf_exact.specs.ProgramForm.{before_commands, complete, product, FormLaw, single}
use Rattle.bpaf_exact.specs.ProgramForm.{Agrees, ChoiceValue, CommandValue, are_plain}
use Rattle.bpaf_exact.specs.ProgramForm.{are_words_apart, is_program, program_choice}
use Rattle.bpaf_exact.specs.ProgramForm.{program_command, WordsApart, part, after_parts, or_part}
use Rattle.bpaf_exact.specs.ProgramForm.{DefaultCommands, OptionalCommands, RepeatCommands}
use Rattle.bpaf_exact.specs.ProgramForm.{program_default, program_last, program_repeat}
use Rattle.bpaf_exact.specs.ProgramForm.{PartOrCommands, last_choice}
use Rattle.bpaf_exact.specs.Flat.{SingleValue, ClosedValue, IsGroup, FieldKind, Gap, Variables}
use Rattle.bpaf_exact.specs.Flat.{ByName, own_none, own_more, repeated, AgreesOn, FrontOf, Own}
use Rattle.bpaf_exact.specs.Flat.{FallbackValue, OptionalValue, OwnList, Closure, ReadOff, Groups}
use Rattle.bpaf_exact.specs.Flat.{LastOf, either_value, NonePresent}
use Rattle.bpaf_exact.specs.Pieces.{LinePiece, Cells, Roles, One, Two, are_all_apart, either}
use Rattle.bpaf_exact.specs.Pieces.{is_own}
use Rattle.bpaf_exact.specs.Says.{HasOneView, pair_view, OneGroup, Respects, Alike, PartOneView}
use Rattle.std.proofs.lemmas.List.{map-append}
use Rattle.std.specs.{Prelude.MatchBool, Prelude.option_map, Option.IsSomeRelated}
use Rattle.bpaf_base.specs.Items.{item_text}
use Rattle.bpaf_doc.specs.Names.{Names}
use Rattle.bpaf_text.specs.{Named.KeyWithValue, Named.Named as Key, Meaning.SpellsUnsigned}
use Rattle.bpaf_laws.specs.{Command.Called, Command.opening_words, Reading.Outcome}
use Rattle.bpaf_exact.proofs.{ProgramForm.whole_law, ProgramForm.words_apart, Programs.opens_one}
use Rattle.bpaf_exact.proofs.{Commands.none_opens, Commands.opens_apart, Leaves.last_same}
use Rattle.bpaf_exact.proofs.{Cuts.one_take, Cuts.one_cut}
use Rattle.bpaf_exact.specs.Parts.{Part, PartForm, PartAlone, PartThen}
use Rattle.bpaf_exact.specs.{ProgramForm.CellsValue, ProgramForm.FieldThen, Says.PartFormOneView}

-- Closures.

module _ (A B X Y : Type 0) (see : A → X) (look : B → Y) (f : Closure A B)
    (respects : Respects A B X Y see look f) where
  -- What such a closure makes of values that look alike, of the same pieces or cells, looks alike.
  made_view : {Z : Type 0} (value : Z → A → Type 0) → ((z : Z) → Alike see (value z)) → (z : Z)
      → Alike look (ClosedValue value f z)
  made_view value u z v w a b =
      respects.same a.from b.from v w (u z a.from b.from a.read b.read) a.made b.made

  -- What such a closure makes of a field's or of commands' values that look alike looks alike.
  pub closed_view : (s : ProgramForm A) → HasOneView see s → HasOneView look (program_closed f s)
  closed_view (alternative wide q value) u = made_view value u
  closed_view (single wide k q group gap) u = (
    λ os rest others v w a b. let d = u.0 os rest others a.from b.from a.read b.read in
        (respects.same a.from b.from v w d.0 a.made b.made, d.1),
    λ v w a b. respects.same a.0 b.0 v w (u.1 a.0 b.0 a.1 b.1) a.2 b.2,
  )
  closed_view (complete wide k q value) u = made_view value u
  closed_view (commands optional value) u = made_view value u
  closed_view (before_commands value) u = made_view value u
  closed_view (last_choice p own value) u = made_view (PartOrCommands p own value) u.2
  closed_view (after_parts value) u = made_view value u
  closed_view _ u = tt

  -- what a constructor makes of values that look alike looks alike
  pub con_view : (s : ProgramForm A) → HasOneView see s → HasOneView look (program_con f s)
  con_view (product wide named q fields) u = made_view fields.value u
  con_view (before_commands value) u = made_view value u
  con_view (after_parts value) u = made_view value u
  con_view _ u = tt

-- Leaves.

-- the values of the first piece look alike
front_view : {T X : Type 0} {see : T → X} (value : LinePiece → T → Type 0)
    → ((o : LinePiece) → Alike see (value o)) → OneGroup see (FrontOf T value)
front_view value u os rest others v w a b = grind arith

-- a key, where its pieces, its groups and what stands for none look alike
key_view : {T X : Type 0} {see : T → X} (wide may_choose : Bool) (q : Roles)
    {each : LinePiece → T → Type 0} {group : Groups T} (gap : Gap T)
    → ((o : LinePiece) → Alike see (each o)) → OneGroup see group → Alike see gap.absent
    → HasOneView see (key_field wide may_choose q each group gap)
key_view wide b q gap piece groups none = grind arith

-- what something means, where it is there
pub meant_view : {Y T X : Type 0} {see : T → X} {means : Y → T → Type 0}
    → ((y : Y) → Alike see (means y)) → (kept : Option Y) → Alike see (IsSomeRelated means kept)
meant_view u x v w a b = grind arith

-- a flag, whose clones look alike
pub flag_view : (T X : Type 0) (see : T → X) (clones : T → T → Type 0)
    → ((kept : T) → Alike see (clones kept)) → (key : Key) (present : T) (absent : Option T)
    (variables : Variables) → HasOneView see (flag_field clones key present absent variables)
flag_view x y see clones u key present absent variables =
    grind (arith, front_view, key_view, meant_view)

-- a key and its value
pub argument_piece : {T X : Type 0} {see : T → X} {means : List ℕ → T → Type 0}
    → ((text : List ℕ) → Alike see (means text)) → (o : LinePiece)
    → Alike see (ArgumentValue means o)
argument_piece u x v w a b = grind arith

-- an argument, where what a text means looks alike
pub argument_view : (T X : Type 0) (see : T → X) (means : List ℕ → T → Type 0)
    → ((text : List ℕ) → Alike see (means text)) → (argument : KeyWithValue)
    (variables : Variables) → HasOneView see (argument_field means argument variables)
argument_view T X see means u argument variables =
    grind (arith, key_view, argument_piece, front_view, last_same, meant_view)

-- a word
word_piece : {T X : Type 0} {see : T → X} (accepts : Bool → Bool) {means : List ℕ → T → Type 0}
    → ((text : List ℕ) → Alike see (means text)) → (o : LinePiece)
    → Alike see (WordValue accepts means o)
word_piece accepts u (One k) v w a b = u (item_text k) v w a.1 b.1
word_piece accepts u (Two k x) v w a b = absurd a

-- a positional, where what a text means looks alike
pub word_view : (T X : Type 0) (see : T → X) (accepts : Bool → Bool) (means : List ℕ → T → Type 0)
    → ((text : List ℕ) → Alike see (means text)) → HasOneView see (word_by accepts means)
word_view T X see accepts means u = (front_view _ (word_piece accepts u), λ v w a b. absurd a)

-- where a test holds
pub if_view : {T X : Type 0} (see : T → X) (s : ProgramForm T) (b : Bool) → HasOneView see s
    → HasOneView see (program_if b s)
if_view see s b u = grind arith

-- Fields without a repeat or default, and what is made of them.

module _ {T X : Type 0} {see : T → X} (group : Groups T) (gap : Gap T) (l : IsGroup T group gap)
    (one : OneGroup see group) (absent : Alike see gap.absent) where
  -- own lists of the same pieces look alike
  own_view : {os : List LinePiece} {vs ws : List T} → Own T group os vs → Own T group os ws
      → map see vs ≡ map see ws
  own_view own_none own_none = refl
  own_view own_none (own_more {rest} {v} g o) = absurd (l.starts v rest g)
  own_view (own_more {rest} {v} g o) own_none = absurd (l.starts v rest g)
  own_view {os} (own_more {rest} {v} g o) (own_more {rest = others} {v = w} {vs = xs} h p) =
      let d = one os rest others v w g h in
      let i = own_view o (subst (λ z. Own T group z xs) (sym d.1) p) in
      let e = d.0 in
      cc

  -- no piece has no own list but the empty one
  own_never : {v : T} {vs : List T} → Own T group [] (v ∷ vs) → ⊥
  own_never (own_more {rest} {v} g o) = l.starts v rest g

  -- the values of a repeat of what looks alike look alike
  pub list_view : (os : List LinePiece) → Alike (map see) (OwnList T group gap os)
  list_view os vs ws x3 x4 = grind (arith, own_view, own_never)

  -- the value of a single field
  pub value_view : (os : List LinePiece) → Alike see (SingleValue T group gap os)
  value_view os v w x y = grind arith

  -- what may be left out
  pub optional_value_view : (os : List LinePiece)
      → Alike (option_map see) (OptionalValue T group gap os)
  optional_value_view os x y g h = grind (arith, value_view)

  -- what has a default
  pub fallback_value_view : (f : Closure (Unit {0}) T) → Alike see (λ v. f.yes tt v)
      → (os : List LinePiece) → Alike see (FallbackValue T group gap f os)
  fallback_value_view f given os v w x y = grind (arith, value_view)

module _ {env : Variables} {T X : Type 0} {inner : Outcome T} {names : List Names}
    {words : List (List ℕ)} (see : T → X) where
  -- a repeat or default round a field, all values of which look alike
  pub whole_view : {B Y : Type 0} {s : ProgramForm T} (look : B → Y) (kind : FieldKind → FieldKind)
      (value : Groups T → Gap T → List LinePiece → B → Type 0) (round : CellsValue T → CellsValue B)
      → ((group : Groups T) (gap : Gap T) → IsGroup T group gap → OneGroup see group
      → Alike see gap.absent → (os : List LinePiece) → Alike look (value group gap os))
      → ((v : CellsValue T)
      → ((cs : Cells) (x : T) → v cs x → NonePresent cs → ⊥) → ((cs : Cells) → Alike see (v cs))
      → (cs : Cells) → Alike look (round v cs)) → FormLaw env inner names words s
      → HasOneView see s → HasOneView look (completed kind value round s)
  whole_view {s = alternative wide q one} look kind value round each more l u =
      each _ _ l.by.0.is (front_view one u) (λ v w a b. absurd a)
  whole_view {s = commands false v} look kind value round each more l u =
      more v (λ cs x h none. let o = l.by.commands.opened cs x h in none_opens none o.0 o.1) u
  whole_view look kind value round each more l u = grind arith

  -- what may be left out
  pub optional_field_view : {s : ProgramForm T} → FormLaw env inner names words s
      → HasOneView see s → HasOneView (option_map see) (program_optional s)
  optional_field_view = whole_view (option_map see) (λ k. k) (OptionalValue T) (OptionalCommands T)
      optional_value_view (λ v some one cs x y a b. grind arith)

  -- a field with a default
  pub fallback_view : {s : ProgramForm T} (f : Closure (Unit {0}) T) → Alike see (λ v. f.yes tt v)
      → FormLaw env inner names words s → HasOneView see s
      → HasOneView see (program_default f s)
  fallback_view f given = whole_view see (λ k. k) (λ group gap. FallbackValue T group gap f)
      (DefaultCommands T (f.yes tt))
      (λ group gap l one absent. fallback_value_view group gap l one absent f given)
      (λ v some one cs x y a b. grind arith)

  -- the list of a repeat
  pub repeat_view : {s : ProgramForm T} → FormLaw env inner names words s → HasOneView see s
      → HasOneView (map see) (program_repeat s)
  repeat_view = whole_view (map see) repeated (OwnList T) (RepeatCommands T) list_view
      (λ v some one cs x y a b. grind arith)

  -- any field of a record
  pub field_view : {s : ProgramForm T} → FormLaw env inner names words s → HasOneView see s
      → HasOneView see (program_field s)
  field_view l u = grind (arith, whole_view, value_view)

  -- the last of a repeat
  pub last_view : {s : ProgramForm T} → FormLaw env inner names words s → HasOneView see s
      → HasOneView see (program_last s)
  last_view = whole_view see repeated (LastOf T) (λ value. value)
      (λ group gap l one absent os v w a b.
      last_seen a.0 b.0 (list_view group gap l one absent os _ _ a.1 b.1)) (λ v some one. one)
    where
      last_seen : {v w : T} (vs ws : List T) → map see (vs ++ v ∷ []) ≡ map see (ws ++ w ∷ [])
          → see v ≡ see w
      last_seen {v} {w} vs ws same = last_same (map see vs) (map see ws)
          (sym (map-append see vs (v ∷ [])) ∙ (same ∙ map-append see ws (w ∷ [])))

-- Products.

-- a part alone
pub alone_part_view : {T X : Type 0} {see : T → X} {p : Part T} → PartOneView see p → (cs : Cells)
    → Alike see (PartAlone p cs)
alone_part_view u cs v w a b = (u cs a.left b.left v w a.turn b.turn).0

-- a part before others
then_view : {A B X Y : Type 0} {see : A → X} {look : B → Y} {p : Part A} {rest : CellsValue B}
    → PartOneView see p → ((cs : Cells) → Alike look (rest cs)) → (cs : Cells)
    → Alike (pair_view see look) (PartThen p rest cs)
then_view {rest} u more cs v w a b =
    let i = u cs a.left b.left v.0 w.0 a.own.turn b.own.turn in
    let j = more a.left v.1 w.1 a.behind (subst (λ z. rest z w.1) (sym i.1) b.behind) in
    let first = i.0 in
    cc

-- a named field before others
field_then_view : {A B X Y : Type 0} {see : A → X} {look : B → Y} {q : Roles}
    {first : List LinePiece → A → Type 0} {rest : CellsValue B}
    → ((os : List LinePiece) → Alike see (first os)) → ((cs : Cells) → Alike look (rest cs))
    → (cs : Cells) → Alike (pair_view see look) (FieldThen A B q first rest cs)
field_then_view u more cs v w a b = grind (arith, one_take)

-- a field before others
pub both_view : (A B X Y : Type 0) (see : A → X) (look : B → Y) (own others : List Names)
    (s : ProgramForm A) (t : ProgramForm B) {env : Variables} {inner : Outcome B}
    {words : List (List ℕ)} → FormLaw env inner others words t → HasOneView see s
    → HasOneView look t → HasOneView (pair_view see look) (program_both own others s t)
both_view A B X Y see look own others (complete wide ByName q first) (part p) l m n = if_view
    (pair_view see look) (after_parts (FieldThen A B q first (PartAlone p)))
    (are_all_apart own others) (field_then_view m (alone_part_view n))
both_view A B X Y see look own others (complete wide ByName q first) (after_parts value) l m n =
    if_view (pair_view see look) (after_parts (FieldThen A B q first value))
    (are_all_apart own others) (field_then_view m n)
both_view A B X Y see look own others (part p) (product wide named r rest) l m n = if_view
    (pair_view see look) (after_parts (PartThen p (ReadOff B r rest.value)))
    (are_all_apart own others) (then_view m (λ cs v w a b. grind (arith, one_cut)))
both_view A B X Y see look own others (part p) (before_commands value) l m n = if_view
    (pair_view see look) (after_parts (PartThen p value)) (are_all_apart own others) (then_view m n)
both_view A B X Y see look own others (part p) (after_parts value) l m n = if_view
    (pair_view see look) (after_parts (PartThen p value)) (are_all_apart own others) (then_view m n)
both_view A B X Y see look own others s t l m n = grind (arith, if_view, one_take)

module _ {T X : Type 0} (see : T → X) where
  -- the last field
  pub alone_view : (s : ProgramForm T) → HasOneView see s → HasOneView see (program_alone s)
  alone_view x u = grind arith

  -- a whole program
  record_view : {env : Variables} {inner : Outcome T} {names : List Names}
      {words : List (List ℕ)} {s : ProgramForm T} → FormLaw env inner names words s
      → HasOneView see s → HasOneView see (whole_program s)
  record_view {s = product wide named q fields} l u = u
  record_view {s} l u = grind (arith, field_view see l u)

  -- All values of a program on the same cells look alike.
  pub values_look_one : {env : Variables} {outcome : Outcome T} {names : List Names}
      {words : List (List ℕ)} {s : ProgramForm T} → FormLaw env outcome names words s
      → HasOneView see s → (cs : Cells) → Alike see (program_value s cs)
  values_look_one {env} {outcome} {names} {s} l u =
      by_whole (whole_program s) (whole_law l) (record_view l u)
    where
      by_whole : (w : ProgramForm T) → FormLaw env outcome names [] w → HasOneView see w
          → (cs : Cells) → Alike see (whole_value w cs)
      by_whole (product wide named q fields) l u = grind (arith, one_cut)
      by_whole (before_commands value) l u = u
      by_whole (part p) l u = alone_part_view u
      by_whole (after_parts value) l u = u
      by_whole _ l u = λ cs v w a b. absurd a

-- Commands and choices.

-- of either that a test picks
either_seen : {T X : Type 0} {see : T → X} {p r : T → Type 0} (b : Bool) → Alike see p
    → Alike see r → Alike see (λ v. MatchBool b (p v) (r v))
either_seen true one other = one
either_seen false one other = other

-- where a test holds, what it says is known
pub where_view : {T X : Type 0} (see : T → X) (s : ProgramForm T) (b : Bool)
    → (b ≡ true → HasOneView see s) → HasOneView see (program_if b s)
where_view see s true u = u refl
where_view see s false u = tt

-- a command over a program
pub command_view : {env : Variables} {T X : Type 0} {inner : Outcome T} {names : List Names}
    {words : List (List ℕ)} (see : T → X) (adjacent apart : Bool) (called : Called)
    (s : ProgramForm T) → FormLaw env inner names words s → HasOneView see s
    → HasOneView see (program_command adjacent apart called s)
command_view {T} see adjacent apart called s law one =
    let opening = opening_words called in
    if_view see (commands false (CommandValue T opening (program_value s)))
    (((not adjacent && apart) && are_plain opening) && is_program s)
    (λ cs v w a b. values_look_one see law one b.0 v w
    (subst (λ ds. program_value s ds v) (opens_one opening a.1 b.1) a.2) b.2)

-- one of two, of which only one can have the value
pub choice_view : {env : Variables} {T X : Type 0} (see : T → X) {a b : Outcome T}
    {own others : List Names} {words more : List (List ℕ)} (s t : ProgramForm T)
    → FormLaw env a own words s → FormLaw env b others more t → HasOneView see s
    → HasOneView see t → HasOneView see (program_choice own others words more s t)
choice_view see {own = own} {others = others} (alternative wide q x) (alternative other r y) first
    second one two = if_view see
    (alternative (wide || other) (either q r) (either_value q x y)) (are_all_apart own others)
    (λ o. either_seen (is_own q o) (one o) (two o))
choice_view {T = T} see {words = words} {more = more} (commands false x) (commands false y) first
    second one two = where_view see (commands false (ChoiceValue T x y))
    (are_words_apart words more) (λ apart cs v w. by_value cs v w (words_apart words more apart))
  where
    by_value : (cs : Cells) (v w : T) → WordsApart words more → ChoiceValue T x y cs v
        → ChoiceValue T x y cs w → see v ≡ see w
    by_value cs v w apart (inl a) (inl b) = one cs v w a b
    by_value cs v w apart (inr a) (inr b) = two cs v w a b
    by_value cs v w apart (inl a) (inr b) = absurd (opens_apart words more apart
        (first.by.commands.opened cs v a).1 (second.by.commands.opened cs w b).1)
    by_value cs v w apart (inr a) (inl b) = absurd (opens_apart words more apart
        (first.by.commands.opened cs w b).1 (second.by.commands.opened cs v a).1)
choice_view see s t first second one two = tt

-- a closure that accepts both or refuses both of what looks alike
module _ {A B X : Type 0} {see : A → X} {f : Closure A B}
    (apart : (x y : A) (v : B) → see x ≡ see y → f.yes x v → f.no y → ⊥) where
  -- agrees on values that look alike
  alike_agrees : (value : A → Type 0) → Alike see value → AgreesOn value f
  alike_agrees value one x y v a b made refused = apart x y v (one x y a b) made refused

  -- a closure agrees round a field, or round commands, whose values look alike
  pub view_agrees : (s : ProgramForm A) → HasOneView see s → Agrees f s
  view_agrees (alternative wide q value) one = λ o. alike_agrees (value o) (one o)
  view_agrees (single wide k q group gap) one = (
    λ os rest. alike_agrees (λ v. group os v rest) (λ v w a b. (one.0 os rest rest v w a b).0),
    alike_agrees gap.absent one.1,
  )
  view_agrees (complete wide k q value) one = λ os. alike_agrees (value os) (one os)
  view_agrees (commands optional value) one = λ cs. alike_agrees (value cs) (one cs)
  view_agrees (before_commands value) one = λ cs. alike_agrees (value cs) (one cs)
  view_agrees (last_choice p own value) one = λ cs.
      alike_agrees (PartOrCommands p own value cs) (one.2 cs)
  view_agrees (after_parts value) one = λ cs. alike_agrees (value cs) (one cs)
  view_agrees _ one = tt

-- what may be a part
pub or_part_view : {T X : Type 0} (see : T → X) (s : ProgramForm T) (p : PartForm T)
    → HasOneView see s → PartFormOneView see p → HasOneView see (or_part s p)
or_part_view see s p u w = grind arith

-- a text means one number
pub number_one : (bits : ℕ) (text : List ℕ) → Alike (λ n. n) (SpellsUnsigned bits text)
number_one bits text v w a b = a.value_of ∙ sym b.value_of
