-- All values of a choice of named parts and commands on the same cells look alike.
use Rattle.std.proofs.Common.{List, arith, false, inl, inr, ◌&&◌, ◌||◌, ◌≡◌, ℕ}
use Rattle.std.proofs.lemmas.Bool.{and_parts}
use Rattle.bpaf_doc.specs.Names.{Names}
use Rattle.bpaf_laws.specs.{Reading.Outcome}
use Rattle.bpaf_exact.proofs.Commands.{opens_apart}
use Rattle.bpaf_exact.proofs.LastChoices.{commands_last_law, part_last_law}
use Rattle.bpaf_exact.proofs.OneView.{alone_part_view, choice_view, where_view}
use Rattle.bpaf_exact.proofs.PartView.{choice_of_view}
use Rattle.bpaf_exact.proofs.ProgramForm.{PartsApart, as_last_law, both_last_law, own_apart}
use Rattle.bpaf_exact.proofs.ProgramForm.{parts_apart, words_apart}
use Rattle.bpaf_exact.specs.Flat.{Variables}
use Rattle.bpaf_exact.specs.Parts.{Part, PartForm, PartFormLaw, Turn, absent, never_part, no_part}
use Rattle.bpaf_exact.specs.Parts.{present, some_part}
use Rattle.bpaf_exact.specs.Pieces.{Cells, Roles, are_all_apart}
use Rattle.bpaf_exact.specs.ProgramForm.{CellsValue, ChoiceValue, FormLaw, LastLaw, PartOrCommands}
use Rattle.bpaf_exact.specs.ProgramForm.{ProgramForm, WordsApart, are_words_apart, as_last}
use Rattle.bpaf_exact.specs.ProgramForm.{both_last, commands, is_commands, last_choice, of_commands}
use Rattle.bpaf_exact.specs.ProgramForm.{of_part, or_form, program_either}
use Rattle.bpaf_exact.specs.Says.{Alike, HasOneView, PartFormOneView, PartOneView}

-- where a form is no program, another
or_form_view : {T X : Type 0} (see : T → X) (s t : ProgramForm T) → HasOneView see s
    → HasOneView see t → HasOneView see (or_form s t)
or_form_view see s t u w = grind arith

-- a named part or commands, of which only one can have the value
last_view_of : {env : Variables} {T X : Type 0} (see : T → X) {a : Outcome T} {r : Roles}
    {words : List (List ℕ)} {p : Part T} {value : CellsValue T} → LastLaw env T a r words p value
    → PartOneView see p → ((cs : Cells) → Alike see (value cs))
    → HasOneView see (last_choice p words value)
last_view_of {T = T} see {words = words} {p = p} {value = value} law one two =
    (one, two, λ cs v w. by_value cs v w)
  where
    by_value : (cs : Cells) (v w : T) → PartOrCommands p words value cs v
        → PartOrCommands p words value cs w → see v ≡ see w
    by_value cs v w (of_commands a) (of_commands b) = two cs v w a b
    by_value cs v w (of_part n a) (of_part m b) = alone_part_view one cs v w a b
    by_value cs v w (of_commands a) (of_part n b) =
        let o = law.opened cs v a in absurd (n o.0 o.1)
    by_value cs v w (of_part n a) (of_commands b) =
        let o = law.opened cs w b in absurd (n o.0 o.1)

-- commands or a named part, as a choice of such
as_last_view : {env : Variables} {T X : Type 0} (see : T → X) {a : Outcome T} {names : List Names}
    {words : List (List ℕ)} (p : PartForm T) (s : ProgramForm T) → FormLaw env a names words s
    → PartFormLaw env a names p → PartFormOneView see p → HasOneView see s
    → HasOneView see (as_last words p s)
as_last_view see p (commands false value) l lp one two = last_view_of see
    (commands_last_law l.by.commands) (λ cs ds es v w g h. never_turn g) two
  where
    never_turn : {X T : Type 0} {cs ds : Cells} {v : T} → Turn never_part cs v ds → X
    never_turn (present g) = absurd g
    never_turn (absent e a same) = absurd a
as_last_view see p (last_choice q own value) l lp one two = two
as_last_view see (some_part q) s l lp one two =
    last_view_of see (part_last_law lp.by.0) one (λ cs v w a b. absurd a)
as_last_view see no_part s l lp one two = tt

-- a choice of two such
both_last_view : {env : Variables} {T X : Type 0} (see : T → X) {a b : Outcome T}
    {own others : List Names} {words more : List (List ℕ)} (s t : ProgramForm T)
    → WordsApart words more → PartsApart s t → FormLaw env a own words s
    → FormLaw env b others more t → HasOneView see s → HasOneView see t
    → HasOneView see (both_last s t)
both_last_view {T = T} see (last_choice p x v) (last_choice q y w) words_apart apart la lb one two =
    last_view_of see (both_last_law (last_choice p x v) (last_choice q y w) words_apart apart la
    lb).by.law (choice_of_view la.by.law.part.is lb.by.law.part.is apart one.0 two.0)
    (λ cs u z. by_value cs u z)
  where
    none : (cs : Cells) (u z : T) → v cs u → w cs z → ⊥
    none cs u z g h = opens_apart x y (own_apart la.by lb.by words_apart)
        (la.by.law.opened cs u g).1 (lb.by.law.opened cs z h).1

    by_value : (cs : Cells) (u z : T) → ChoiceValue T v w cs u → ChoiceValue T v w cs z
        → see u ≡ see z
    by_value cs u z (inl g) (inl h) = one.1 cs u z g h
    by_value cs u z (inr g) (inr h) = two.1 cs u z g h
    by_value cs u z (inl g) (inr h) = absurd (none cs u z g h)
    by_value cs u z (inr g) (inl h) = absurd (none cs z u h g)
both_last_view see _ _ words_apart apart la lb one two = tt

-- a choice of two, which may be named parts
pub program_either_view : {env : Variables} {T X : Type 0} (see : T → X) {a b : Outcome T}
    {own others : List Names} {words more : List (List ℕ)} (p r : PartForm T) (s t : ProgramForm T)
    → FormLaw env a own words s → FormLaw env b others more t → PartFormLaw env a own p
    → PartFormLaw env b others r → PartFormOneView see p → PartFormOneView see r
    → HasOneView see s → HasOneView see t
    → HasOneView see (program_either own others words more p r s t)
program_either_view see {own = own} {others = others} {words = words} {more = more} p r s t la lb
    pa pb this other one two =
    let x = as_last_law la pa in
    let y = as_last_law lb pb in
    or_form_view see _ _ (choice_view see s t la lb one two) (where_view see
    (both_last (as_last words p s) (as_last more r t)) (are_words_apart words more
    && (are_all_apart own others || (is_commands s || is_commands t)))
    (λ h. let tests = and_parts (are_words_apart words more) _ h in
    both_last_view see (as_last words p s) (as_last more r t) (words_apart words more tests.0)
    (parts_apart own others s t p r x y tests.1) x y (as_last_view see p s la pa this one)
    (as_last_view see r t lb pb other two)))
