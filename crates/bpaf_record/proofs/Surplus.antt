-- The pieces of an accepted line have no occurrence and no word too many.
use Rattle.std.proofs.Common.{if◌then◌else◌, true≢false, length, filter, Option, arith, subst, Bool}
use Rattle.std.proofs.Common.{false, List, refl, true, Some, None, ◌&&◌, ◌++◌, ◌||◌, not, sym, ◌+◌}
use Rattle.std.proofs.Common.{◌∙◌, ◌∷◌, ◌≡◌, ◌≤◌, [], ap, ℕ}
use Rattle.bpaf_exact.proofs.Names.{others_unkeyed, none_behind, others_both, others_none, cut_fit}
use Rattle.bpaf_exact.specs.Flat.{FieldsReading, FallbackValue, both_reading, FieldKind, is_behind}
use Rattle.bpaf_exact.specs.Flat.{Variables, EachWord, repeated, Closure, OneWord, OwnList, portion}
use Rattle.bpaf_exact.specs.Flat.{ByName, Groups, LastOf, keys, left, Gap, map_closure}
use Rattle.bpaf_exact.specs.Flat.{OptionalValue}
use Rattle.bpaf_exact.specs.Pieces.{is_key_of_any, are_all_apart, is_own_role, LinePiece, no_roles}
use Rattle.bpaf_exact.specs.Pieces.{either, others, Cells, Roles, Owns, Cut}
use Rattle.bpaf_exact.specs.ProgramForm.{product_reading, program_dressed, single, before_commands}
use Rattle.bpaf_exact.specs.ProgramForm.{program_choice, program_closed, FieldThen, product_roles}
use Rattle.bpaf_exact.specs.ProgramForm.{program_alone, program_field, whole_program, program_value}
use Rattle.bpaf_exact.specs.ProgramForm.{last_reading, program_both, CommandValue, choice_only}
use Rattle.bpaf_exact.specs.ProgramForm.{program_con, ProgramForm, may_follow, product, program_if}
use Rattle.bpaf_exact.specs.ProgramForm.{is_program, completed, key_field, are_plain, complete}
use Rattle.bpaf_exact.specs.ProgramForm.{commands, part, CellsValue, DefaultCommands}
use Rattle.bpaf_exact.specs.ProgramForm.{OptionalCommands, RepeatCommands, as_last, both_last}
use Rattle.bpaf_exact.specs.ProgramForm.{is_commands, or_form, program_either, are_words_apart}
use Rattle.bpaf_exact.specs.Says.{repeated_kind, words_after, first_item, its_pieces, form_kind}
use Rattle.bpaf_exact.specs.Says.{SaidKind, of_kind, of_rest, unkeyed, keyed}
use Rattle.bpaf_grammar.specs.Grammar.{product as con, command_words, FieldsGrammar, both}
use Rattle.bpaf_grammar.specs.Grammar.{GrammarOf, argument, fallback, optional, command, dressed}
use Rattle.bpaf_grammar.specs.Grammar.{Grammar, keys_of, choice, closed, repeat, alone, flag, kept}
use Rattle.bpaf_grammar.specs.Grammar.{last, only, word, made, own, stretch}
use Rattle.bpaf_record.specs.Program.{repeated_limit, limit_of_both, HasNoSurplus, HasOneOfEach}
use Rattle.bpaf_record.specs.Program.{program_form, begins_known, are_unusual, word_limit}
use Rattle.bpaf_record.specs.Program.{said_kind, takes_one, IsWithin, catches, default_closure}
use Rattle.bpaf_record.specs.Program.{repeat_closure, step_closure, says, part_form}
use Rattle.std.proofs.lemmas.Bool.{and_parts, or_right, not-true, or_left}
use Rattle.std.proofs.lemmas.List.{length-append, length-drop, length-take}
use Rattle.std.proofs.{lemmas.List.Filters.length-filter_both, lemmas.List.Elements.filter-append}
use Rattle.std.proofs.lemmas.List.Folds.{list_any-append}
use Rattle.std.specs.{List.before_first, List.list_all, Option.is_none}
use Rattle.bpaf_base.specs.Items.{is_key_of}
use Rattle.bpaf_doc.specs.Names.{Names}
use Rattle.bpaf_laws.specs.{Command.opening_words, Combinators.is_nil}
use Rattle.bpaf_exact.proofs.OwnedKeys.{whole_owns, none_owned, OwnsKeys}
use Rattle.bpaf_exact.proofs.{ProgramSays.cut_says, Names.kept_twice}
use Rattle.bpaf_record.proofs.GrammarSays.{grammar_owns, grammar_says}
use Rattle.bpaf_exact.specs.Pieces as cut
use Rattle.bpaf_exact.specs.{Parts.PartForm, ProgramForm.after_parts, ProgramForm.or_part}

-- Occurrences.

-- what a test keeps is no more than all
kept_fewer : {X : Type 0} (p : X → Bool) (xs : List X) → length (filter p xs) ≤ length xs
kept_fewer p xs = let both = length-filter_both p (λ x. not (p x)) (λ x. refl) xs in omega arith

-- a value of a parser that takes one piece is read off one at most
one_piece : {T : Type 0} (g : Grammar T) (variables : Variables) → takes_one g ≡ true
    → (os : List LinePiece) (v : T) → says g variables os v → length os ≤ 1
one_piece (flag clones key present absent) variables one os v x = grind arith
one_piece (argument means key) variables one os v x = grind (arith, not-true)
one_piece (word means position metavar help) variables one os v x = grind arith
one_piece (kept clones value) variables one os v x = absurd cc
one_piece (own o) variables one os v x = absurd cc
one_piece (made makes g) variables one os v x = absurd cc
one_piece (stretch first g) variables one os v x = absurd cc
one_piece (closed f g) variables one os v x = one_piece g variables one os x.from x.told
one_piece (dressed look g) variables one os v x = one_piece g variables one os v x
one_piece (optional catch g) variables one os v x = grind (arith, one_piece g variables one os)
one_piece (fallback shown d g) variables one os v x = grind (arith, one_piece g variables one os)
one_piece (repeat f g) variables one os v x = absurd cc
one_piece (last g) variables one os v x = absurd cc
one_piece (choice g h) variables one os v x =
    let each = and_parts (takes_one g) (takes_one h) one in
    grind (arith, one_piece g variables each.0 os, one_piece h variables each.1 os)
one_piece (only g) variables one os v x = one_piece g variables one os v x
one_piece (command adjacent called info help g) variables one os v x = absurd cc
one_piece (con f g) variables one os v x = absurd cc

-- a test passes only what begins with a key with one of these names
record OnlyKeys (names : List Names) (test : LinePiece → Bool) : Type 0 where
  begins : (o : LinePiece) → test o ≡ true → is_key_of_any names (first_item o) ≡ true

-- each such test keeps no more of the one than of the other
abbrev KeepsNoMore : List Names → List LinePiece → List LinePiece → Type 0
KeepsNoMore names os more = (test : LinePiece → Bool) → OnlyKeys names test
    → length (filter test os) ≤ length (filter test more)

-- names of the one field are those of both
of_first : (ours others : List Names) (test : LinePiece → Bool) → OnlyKeys ours test
    → OnlyKeys (ours ++ others) test
of_first ours behind test is = record {
  begins = λ o e. list_any-append (λ names. is_key_of names (first_item o)) ours behind
      ∙ or_left _ (is_key_of_any behind (first_item o)) (is.begins o e);
}

-- of the others too
of_others : (ours others : List Names) (test : LinePiece → Bool) → OnlyKeys others test
    → OnlyKeys (ours ++ others) test
of_others ours behind test is = record {
  begins = λ o e. list_any-append (λ names. is_key_of names (first_item o)) ours behind
      ∙ or_right (is_key_of_any ours (first_item o)) _ (is.begins o e);
}

-- of pieces with no more keys there is no more than one either
one_of_fewer : {fields : Bool} {T : Type 0} (g : GrammarOf fields T) (os more : List LinePiece)
    → KeepsNoMore (keys_of g true) os more → HasOneOfEach g more → HasOneOfEach g os
one_of_fewer (dressed look g) os more fewer has = one_of_fewer g os more fewer has
one_of_fewer (alone g) os more fewer has = one_of_fewer g os more fewer has
one_of_fewer (both g h) os more fewer has = (
  one_of_fewer g os more
      (λ test is. fewer test (of_first (keys_of g true) (keys_of h true) test is)) has.0,
  one_of_fewer h os more
      (λ test is. fewer test (of_others (keys_of g true) (keys_of h true) test is)) has.1,
)
one_of_fewer (con f g) os more fewer has = one_of_fewer g os more fewer has
one_of_fewer g os more fewer has = λ one.
    let few = fewer (λ o. is_key_of_any (keys_of g true) (first_item o))
    (record { begins = λ o e. e }) in
    let limit = has one in omega arith

-- its pieces are positional words
abbrev takes_words : SaidKind → Bool
takes_words (of_kind ByName) = false
takes_words (of_kind k) = true
takes_words of_rest = false

-- the pieces of a repeat are positional words, where those of one value are
repeated_takes : (kind : SaidKind) → takes_words (repeated_kind kind) ≡ takes_words kind
repeated_takes (of_kind ByName) = refl
repeated_takes (of_kind (OneWord stops)) = refl
repeated_takes (of_kind (EachWord stops)) = refl
repeated_takes of_rest = refl

-- those of a product aren't
product_takes : {T : Type 0} (s : ProgramForm T) → takes_words (form_kind s) ≡ false
product_takes (product wide true q fields) = refl
product_takes (product wide false q fields) = refl
product_takes _ = refl

-- what takes words has no keys
no_keys_of_words : {T : Type 0} (g : Grammar T) (variables : Variables)
    → takes_words (said_kind g variables) ≡ true → keys_of g true ≡ []
no_keys_of_words (word means position metavar help) variables is = refl
no_keys_of_words (kept clones value) variables is = refl
no_keys_of_words (own o) variables is = refl
no_keys_of_words (closed f g) variables is = no_keys_of_words g variables is
no_keys_of_words (dressed look g) variables is = no_keys_of_words g variables is
no_keys_of_words (optional catch g) variables is = no_keys_of_words g variables is
no_keys_of_words (fallback shown d g) variables is = no_keys_of_words g variables is
no_keys_of_words (repeat f g) variables is =
    no_keys_of_words g variables (sym (repeated_takes (said_kind g variables)) ∙ is)
no_keys_of_words (last g) variables is =
    no_keys_of_words g variables (sym (repeated_takes (said_kind g variables)) ∙ is)
no_keys_of_words (con f g) variables is =
    absurd (true≢false (sym is ∙ product_takes (program_form g variables)))
no_keys_of_words _ variables is = absurd cc

-- a test that passes keys alone passes none where there are no names
none_kept : (test : LinePiece → Bool) → OnlyKeys [] test → (os : List LinePiece)
    → length (filter test os) ≡ 0
none_kept test is [] = refl
none_kept test is (o ∷ os) = grind (arith, is.begins o, none_kept test is os)

-- what the test passes is a key too
and_key : (key test : Bool) → (test ≡ true → key ≡ true) → test ≡ (key && test)
and_key true test is = refl
and_key false true is = absurd (true≢false (sym (is refl)))
and_key false false is = refl

-- of its own pieces and the words before it a field has as many keys as of all
own_keeps : (kind : SaidKind) (names : List Names) → (takes_words kind ≡ true → names ≡ [])
    → (os words : List LinePiece) → KeepsNoMore names os (its_pieces kind names os words)
own_keeps (of_kind ByName) names none os words test is =
    let same = ap length (kept_twice test (λ o. is_key_of_any names (first_item o)) test
    (λ o. and_key (is_key_of_any names (first_item o)) (test o) (is.begins o)) os) in omega arith
own_keeps (of_kind k) names none os words test is =
    let zero_kept = none_kept test (subst (λ z. OnlyKeys z test) (none refl) is) os in omega arith
own_keeps of_rest names none os words test is =
    let same = ap length (kept_twice test (λ o. is_key_of_any names (first_item o)) test
    (λ o. and_key (is_key_of_any names (first_item o)) (test o) (is.begins o)) os) in
    let parts = ap length (filter-append test (keyed names os) words) in
    let sizes = length-append (filter test (keyed names os)) (filter test words) in omega arith

mutual
  -- the pieces of a parser have one of each at most
  parser_once : {T : Type 0} (g : Grammar T) (variables : Variables) (os : List LinePiece) (v : T)
      → says g variables os v → HasOneOfEach g os
  parser_once (dressed look g) variables os v x = parser_once g variables os v x
  parser_once (con f g) variables os v x =
      fields_once g variables os (unkeyed (keys_of g true) os) x.from x.fields
  parser_once g variables os v x = λ one.
      let few = kept_fewer (λ o. is_key_of_any (keys_of g true) (first_item o)) os in
      let all = one_piece g variables one os v x in omega arith

  -- those of fields have
  fields_once : {V : Type 0} (g : FieldsGrammar V) (variables : Variables)
      (os words : List LinePiece) (v : V) → says g variables os words v → HasOneOfEach g os
  fields_once (alone g) variables os words v x =
      let its = its_pieces (said_kind g variables) (keys_of g true) os words in
      one_of_fewer g os its (own_keeps (said_kind g variables) (keys_of g true)
      (no_keys_of_words g variables) os words) (parser_once g variables its v x)
  fields_once (both g h) variables os words v x =
      let its = its_pieces (said_kind g variables) (keys_of g true) os words in (
        one_of_fewer g os its (own_keeps (said_kind g variables) (keys_of g true)
            (no_keys_of_words g variables) os words) (parser_once g variables its v.0 x.0),
        fields_once h variables os (words_after (said_kind g variables) words) v.1 x.1,
      )

-- Words.

-- how many words a field of such a kind takes is within the limit
abbrev KindWords : Option ℕ → FieldKind → Type 0
KindWords limit ByName = Unit {0}
KindWords limit (OneWord stops) = IsWithin limit 1
KindWords limit (EachWord stops) = limit ≡ None

-- a field of such a form takes no more words than the limit; a product leaves no more than it to
-- others
abbrev FormWords : {T : Type 0} → Option ℕ → ProgramForm T → Type 0
FormWords limit (single wide k q group gap) = KindWords limit k
FormWords limit (complete wide k q value) = KindWords limit k
FormWords {T} limit (product wide named q fields) =
    (os : List LinePiece) (v : T) → fields.value os v → IsWithin limit (length (others q os))
FormWords limit _ = Unit {0}

-- a form takes no more words than the limit
record HasLimit {T : Type 0} (limit : Option ℕ) (s : ProgramForm T) : Type 0 where
  by : FormWords limit s

-- nothing is within each limit
none_within : (limit : Option ℕ) → IsWithin limit 0
none_within None = tt
none_within (Some n) = omega arith

-- a key takes no word
key_limit : {T : Type 0} (limit : Option ℕ) (wide may_choose : Bool) (q : Roles)
    (each : LinePiece → T → Type 0) (group : Groups T) (gap : Gap T)
    → HasLimit limit (key_field wide may_choose q each group gap)
key_limit limit wide true q each group gap = record { by = tt }
key_limit limit wide false q each group gap = record { by = tt }

-- where a test holds
if_limit : {T : Type 0} {limit : Option ℕ} (b : Bool) {s : ProgramForm T} → HasLimit limit s
    → HasLimit limit (program_if b s)
if_limit true h = h
if_limit false h = record { by = tt }

-- a number that is no more is within it too
within_fewer : (limit : Option ℕ) (n more : ℕ) → n ≤ more → IsWithin limit more → IsWithin limit n
within_fewer None n more fewer h = tt
within_fewer (Some m) n more fewer h = omega arith

-- what is within the limit of the others is within that of both
of_rest_within : (own rest : Option ℕ) (n : ℕ) → IsWithin rest n
    → IsWithin (limit_of_both own rest) n
of_rest_within None rest n h = tt
of_rest_within (Some m) None n h = tt
of_rest_within (Some m) (Some limit) n h = omega arith

-- with one word before them
one_more_within : (own rest : Option ℕ) (n all : ℕ) → IsWithin own 1 → IsWithin rest n
    → all ≤ n + 1 → IsWithin (limit_of_both own rest) all
one_more_within None rest n all one h more = tt
one_more_within (Some m) None n all one h more = tt
one_more_within (Some m) (Some limit) n all one h more = omega arith

-- of the pieces behind the first one at most is gone
one_gone : (stops : Bool) (q : Roles) (os : List LinePiece)
    → length os ≤ length (left (OneWord stops) q os) + 1
one_gone stops q os =
    let first = portion (OneWord stops) q os in
    let size = length-drop (length first) os in
    let most = length-take 1 (if stops then before_first is_behind os else os) in omega arith

-- what the last field leaves to others is within its limit
last_limit : {T : Type 0} (limit : Option ℕ) (k : FieldKind) (q : Roles)
    (value : List LinePiece → T → Type 0) → KindWords limit k → (os : List LinePiece) (v : T)
    → (last_reading k q value).value os v
    → IsWithin limit (length (others (either (keys k q) no_roles) os))
last_limit limit ByName q value h os v m =
    subst (λ z. IsWithin limit (length z))
    (ap (others no_roles) (sym m.1) ∙ others_both q no_roles os) (none_within limit)
last_limit limit (OneWord stops) q value h os v m =
    subst (λ z. IsWithin limit (length z))
    (sym (others_none (either no_roles no_roles) (λ k. refl) os))
    (let few = one_gone stops q os in let none = ap length m.1 in
    within_fewer limit (length os) 1 (omega arith) h)
last_limit limit (EachWord stops) q value h os v m =
    subst (λ z. IsWithin z (length (others (either no_roles no_roles) os))) (sym h) tt

module _ {T : Type 0} {limit : Option ℕ} (s : ProgramForm T) (h : HasLimit limit s) where
  -- with a closure
  closed_limit : {B : Type 0} (f : Closure T B) → HasLimit limit (program_closed f s)
  closed_limit f = grind arith

  -- with another look
  dressed_limit : HasLimit limit (program_dressed s)
  dressed_limit = grind arith

  -- a default
  default_limit : {B : Type 0} (value : Groups T → Gap T → List LinePiece → B → Type 0)
      (round : CellsValue T → CellsValue B) → HasLimit limit (completed (λ k. k) value round s)
  default_limit value round = grind arith

  -- a repeat
  repeat_limit : {B : Type 0} (value : Groups T → Gap T → List LinePiece → B → Type 0)
      (round : CellsValue T → CellsValue B)
      → HasLimit (repeated_limit limit) (completed repeated value round s)
  repeat_limit value round = grind arith

  -- as a field
  field_limit : HasLimit limit (program_field s)
  field_limit = grind (arith, default_limit)

  -- the last field
  alone_limit : HasLimit limit (program_alone s)
  alone_limit = by_form s h
    where
      by_form : (s : ProgramForm T) → HasLimit limit s → HasLimit limit (program_alone s)
      by_form (complete wide k q value) h =
          record { by = λ os v m. last_limit limit k q value h.by os v m }
      by_form (product wide false q fields) h = record { by = h.by }
      by_form _ h = record { by = tt }

  -- of what a constructor makes
  con_limit : {B : Type 0} (f : Closure T B) → HasLimit limit (program_con f s)
  con_limit f = grind arith

-- a whole program
whole_limit : {T : Type 0} {limit : Option ℕ} (s : ProgramForm T) → HasLimit limit s
    → HasLimit limit (whole_program s)
whole_limit (product wide named q fields) h = h
whole_limit s h = alone_limit (program_field s) (field_limit s h)

-- where a form is no program, another
or_form_limit : {T : Type 0} (limit : Option ℕ) (s t : ProgramForm T) → HasLimit limit s
    → HasLimit limit t → HasLimit limit (or_form s t)
or_form_limit limit s t h g = grind arith

-- a choice of two
choice_limit : {T : Type 0} (limit : Option ℕ) (ours others : List Names)
    (words more : List (List ℕ)) (p r : PartForm T) (s t : ProgramForm T)
    → HasLimit limit (program_either ours others words more p r s t)
choice_limit {T} limit ours behind words more p r s t = or_form_limit limit
    (program_choice ours behind words more s t) _ (grind (arith, if_limit))
    (if_limit (are_words_apart words more
    && (are_all_apart ours behind || (is_commands s || is_commands t)))
    (of_both (as_last words p s) (as_last more r t)))
  where
    of_both : (s t : ProgramForm T) → HasLimit limit (both_last s t)
    of_both s t = grind arith

-- what may stand in one
only_limit : {T : Type 0} (limit : Option ℕ) (s : ProgramForm T) → HasLimit limit (choice_only s)
only_limit limit s = grind arith

-- what a field and those behind it leave to others is within both limits
pair_limit : {A B : Type 0} (a b : Option ℕ) (ours : List Names) {behind : List Names}
    (k : FieldKind) (q : Roles) {r : Roles} (first : List LinePiece → A → Type 0)
    (rest : FieldsReading B) → KindWords a k
    → ((os : List LinePiece) (v : B) → rest.value os v → IsWithin b (length (others r os)))
    → Owns r behind → may_follow k ours behind ≡ true → (os : List LinePiece) (v : A × B)
    → (both_reading k q first rest).value os v
    → IsWithin (limit_of_both a b) (length (others (either (keys k q) r) os))
pair_limit a b ours ByName q {r} first rest h each owns may os v m =
    subst (λ z. IsWithin (limit_of_both a b) (length z)) (others_both q r os)
    (of_rest_within a b _ (each (others q os) v.1 m.1))
pair_limit a b ours {behind} (OneWord stops) q {r} first rest h each owns may os v m =
    let none = none_behind ours behind owns may in
    subst (λ z. IsWithin (limit_of_both a b) (length z))
    (sym (others_none (either no_roles r) none os))
    (one_more_within a b (length (left (OneWord stops) q os)) (length os) h
    (subst (λ z. IsWithin b (length z)) (others_none r none (left (OneWord stops) q os))
    (each (left (OneWord stops) q os) v.1 m.1)) (one_gone stops q os))
pair_limit a b ours (EachWord stops) q {r} first rest h each owns may os v m =
    subst (λ z. IsWithin (limit_of_both z b) (length (others (either no_roles r) os))) (sym h) tt

-- a field before others
both_limit : {A B : Type 0} {a b : Option ℕ} (ours behind : List Names) (s : ProgramForm A)
    (t : ProgramForm B) → HasLimit a s → HasLimit b t → OwnsKeys behind t
    → HasLimit (limit_of_both a b) (program_both ours behind s t)
both_limit {a = a} {b} ours behind (complete wide k q first) (product broad named r rest) h g owns =
    held (may_follow k ours behind) _ (λ may. record {
      by = pair_limit a b ours k q first rest h.by g.by owns.by may;
    })
  where
    held : {V : Type 0} {limit : Option ℕ} (b : Bool) (s : ProgramForm V)
        → (b ≡ true → HasLimit limit s) → HasLimit limit (program_if b s)
    held true s h = h refl
    held false s h = record { by = tt }
both_limit {A} {B} ours behind (complete wide ByName q first) (before_commands rest) h g owns =
    if_limit (are_all_apart ours behind) {s = before_commands (FieldThen A B q first rest)}
    (record { by = tt })
both_limit ours behind (complete wide ByName q first) (part p) h g owns =
    if_limit (are_all_apart ours behind) (record { by = tt })
both_limit ours behind (complete wide ByName q first) (after_parts rest) h g owns =
    if_limit (are_all_apart ours behind) (record { by = tt })
both_limit ours behind (part p) (product wide named r rest) h g owns =
    if_limit (are_all_apart ours behind) (record { by = tt })
both_limit ours behind (part p) (before_commands rest) h g owns =
    if_limit (are_all_apart ours behind) (record { by = tt })
both_limit ours behind (part p) (after_parts rest) h g owns =
    if_limit (are_all_apart ours behind) (record { by = tt })
both_limit ours behind _ _ h g owns = record { by = tt }

-- what may be a part
or_limit : {T : Type 0} {limit : Option ℕ} {s : ProgramForm T} (p : PartForm T) → HasLimit limit s
    → HasLimit limit (or_part s p)
or_limit p h = grind arith

-- a form of what is made so is within its limit
grammar_limit : {fields : Bool} {T : Type 0} (g : GrammarOf fields T) (variables : Variables)
    → HasLimit (word_limit g) (program_form g variables)
grammar_limit (flag clones key present absent) variables =
    key_limit _ (not (is_nil key.envs)) (is_nil key.envs && is_none absent) _ _ _ _
grammar_limit (argument means key) variables =
    key_limit _ (key.adjacent || not (is_nil key.named.envs))
    (is_nil key.named.envs && not key.last) _ _ _ _
grammar_limit (word means position metavar help) variables = record { by = omega arith }
grammar_limit (kept clones value) variables = record { by = tt }
grammar_limit (own o) variables = record { by = tt }
grammar_limit (made makes g) variables = record { by = tt }
grammar_limit (stretch first g) variables = record { by = tt }
grammar_limit (closed f g) variables =
    or_limit _ (closed_limit _ (grammar_limit g variables) (step_closure f))
grammar_limit (dressed look g) variables = dressed_limit _ (grammar_limit g variables)
grammar_limit (optional {T = T} catch g) variables =
    or_limit _ (if_limit (not catch) (default_limit _ (grammar_limit g variables)
    (OptionalValue T) (OptionalCommands T)))
grammar_limit (fallback {T = T} shown d g) variables =
    or_limit _ (default_limit _ (grammar_limit g variables)
    (λ group gap. FallbackValue T group gap (default_closure d))
    (DefaultCommands T ((default_closure d).yes tt)))
grammar_limit (repeat {A = A} f g) variables = or_limit _ (if_limit (not (catches f))
    (closed_limit _ (repeat_limit _ (grammar_limit g variables) (OwnList A) (RepeatCommands A))
    (repeat_closure f)))
grammar_limit (last {T = T} g) variables =
    or_limit _ (repeat_limit _ (grammar_limit g variables) (LastOf T) (λ value. value))
grammar_limit (choice g h) variables = or_limit _ (choice_limit _ (keys_of g true) (keys_of h true)
    (command_words g) (command_words h) (part_form g variables) (part_form h variables)
    (program_form g variables) (program_form h variables))
grammar_limit (only g) variables = or_limit _ (only_limit _ (program_form g variables))
grammar_limit (command {T = T} adjacent called info help g) variables = if_limit
    (((not adjacent && are_unusual (keys_of g false) info) && are_plain (opening_words called))
    && is_program (program_form g variables))
    {s = commands false (CommandValue T (opening_words called)
    (program_value (program_form g variables)))} (record { by = tt })
grammar_limit (alone g) variables = alone_limit _ (field_limit _ (grammar_limit g variables))
grammar_limit (both g h) variables = or_limit _ (both_limit (keys_of g true) (keys_of h true) _ _
    (field_limit _ (grammar_limit g variables)) (grammar_limit h variables)
    (grammar_owns h variables))
grammar_limit (con makes g) variables =
    or_limit _ (con_limit _ (grammar_limit g variables) (map_closure makes))

-- a key that begins a piece of a cut line is one of those
cut_known : {r : Roles} {names : List Names} → Owns r names → {cs : Cells} {os : List LinePiece}
    → Cut r cs os → list_all (begins_known names) os ≡ true
cut_known owns cut.at_end = refl
cut_known owns (cut.passed c) = cut_known owns c
cut_known owns (cut.flag {k = k} e c) =
    grind (arith, owns.own k (ap is_own_role e), cut_known owns c)
cut_known owns (cut.argument {k = k} e v c) =
    grind (arith, owns.own k (ap is_own_role e), cut_known owns c)
cut_known owns (cut.word {w = w} h c) = grind (arith, cut_known owns c)

-- The pieces that a line is cut into for a value of a flat record have nothing too much.
pub has_no_surplus : {T : Type 0} (g : Grammar T) (variables : Variables) {cs : Cells}
    {os : List LinePiece} (v : T)
    → Cut (product_roles (whole_program (program_form g variables))) cs os
    → (product_reading (whole_program (program_form g variables))).value os v → HasNoSurplus g os
has_no_surplus {T} g variables {cs} {os} v cut read =
    let form = program_form g variables in
    let owns = grammar_owns g variables in record {
      keys = by_cut (whole_program form) (whole_owns form owns) cut;
      once = parser_once g variables os v (cut_says form owns (grammar_says g variables) cut read);
      words = by_whole (whole_program form) (whole_owns form owns)
          (whole_limit form (grammar_limit g variables)) cut read;
    }
  where
    by_cut : (w : ProgramForm T) → OwnsKeys (keys_of g true) w → Cut (product_roles w) cs os
        → list_all (begins_known (keys_of g true)) os ≡ true
    by_cut (product wide named q fields) owns cut = cut_known owns.by cut
    by_cut _ owns cut = cut_known (none_owned (keys_of g true)) cut

    by_whole : (w : ProgramForm T) → OwnsKeys (keys_of g true) w → HasLimit (word_limit g) w
        → Cut (product_roles w) cs os → (product_reading w).value os v
        → IsWithin (word_limit g) (length (unkeyed (keys_of g true) os))
    by_whole (product wide named q fields) owns limit cut read =
        subst (λ z. IsWithin (word_limit g) (length z))
        (others_unkeyed q (keys_of g true) os (cut_fit q (keys_of g true) owns.by cut))
        (limit.by os v read)
    by_whole _ owns limit cut read = absurd read
