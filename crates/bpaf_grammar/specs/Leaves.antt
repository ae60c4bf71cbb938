-- Leaves that no other kind is built of, as parsers of their own: an item by its text, the name of
-- the program, a closure's answer, a refusal.
use Rattle.std.specs.Prelude.{Result, Option, IfSome, String, false, Bool, true, List, refl, Err}
use Rattle.bpaf_line.specs.declared.error.Message.TheVariants.{PureFailed, ParseFail, Missing}
use Rattle.bpaf_laws.specs.Combinators.{GivesAnswer, GivesRefusal, PureOutcome, PureReads}
use Rattle.bpaf_laws.specs.Leaves.{AnyFails, AnyOutcome, AnyReads, AppnameOutcome, AppnameReads}
use Rattle.std.specs.{Prelude.Ok, Prelude.◌≡◌, Prelude.ℕ, declared.alloc.Global.Global}
use Rattle.std.specs.Result.{IfErr}
use Rattle.bpaf_doc.specs.{Shape.Any, Shape.Part, Shape.Shown, Shape.Skip, declared.doc.Piece.Piece}
use Rattle.bpaf_line.specs.{declared.error.Message.TheVariants.Memory, declared.error.Error.Error}
use Rattle.bpaf_line.specs.{declared.error.Message.Message, Situation.Situation, Messages.is_memory}
use Rattle.bpaf_laws.specs.{Leaves.ArePassed, Leaves.Looks, Leaves.looked_at, Laws.no_shorts}
use Rattle.bpaf_laws.specs.Combinators.{PureWithOutcome}
use Rattle.bpaf_laws.proofs.LeafLaws.{any_lawful, appname_lawful, pure_with_lawful, refusal_lawful}
use Rattle.bpaf_laws.proofs.{CombinatorLaws.names_answer, ShownNames.one_shape}
use Rattle.bpaf_grammar.specs.Own.{Own}
use Rattle.std.proofs.Common.{true≢false, ◌∙◌, sym, ap, inl, inr}

-- a refusal that isn't want of memory comes where each item that is looked at was passed by
abbrev pub PassesAll : {T : Type 0} → Looks T → Bool → Situation → Error → Type 0
PassesAll looks anywhere s e = is_memory e.0 ≡ false → ArePassed looks (looked_at anywhere s)

-- a parser that looks for an item refuses where it passed by each item that it looks at
pub any_passes_all : {T : Type 0} (looks : Looks T) (part : Part) (anywhere : Bool)
    (s t : Situation)
    (r : Result T Error) → AnyOutcome looks part anywhere s r t
    → IfErr r (PassesAll looks anywhere s)
any_passes_all looks part anywhere s t (Ok v) answered = tt
any_passes_all looks part anywhere s t (Err e) answered = λ spared. by_message e.0 answered spared
  where
    -- by the message of the refusal
    by_message : (m : Message) → AnyFails looks part anywhere s m t → is_memory m ≡ false
        → ArePassed looks (looked_at anywhere s)
    by_message Memory fails spared = absurd (true≢false spared)
    by_message (Missing items) fails spared = fails.0.0
    by_message _ fails spared = absurd fails

-- an item by its text (`any`, `literal`)
abbrev pub any_item : {T : Type 0} → Looks T → (metavar : List Piece) → (help : Option (List Piece))
    → (anywhere : Bool) → Own T
any_item {T} looks metavar help anywhere = record {
  outcome = AnyOutcome looks (Any metavar help anywhere) anywhere;
  reads = AnyReads T looks;
  describes = λ shape. shape ≡ Shown (Any metavar help anywhere);
  shorts = no_shorts;
  spared = λ s r t. IfErr r (PassesAll looks anywhere s);
  lawful = any_lawful T looks (Any metavar help anywhere) anywhere;
  shows = one_shape refl;
  spares = any_passes_all looks (Any metavar help anywhere) anywhere;
}

-- the name of the program is refused for want of memory alone
pub name_wanted : (s t : Situation) (r : Result (String Global) Error) → AppnameOutcome s r t
    → IfErr r (λ e. is_memory e.0 ≡ true)
name_wanted s t (Ok v) o = tt
name_wanted s t (Err e) o = ap is_memory o.0

-- the name by which the program is called (`appname`)
abbrev pub program_name : Own (String Global)
program_name = record {
  outcome = AppnameOutcome;
  reads = AppnameReads;
  describes = λ shape. shape ≡ Skip;
  shorts = no_shorts;
  spared = λ s r t. IfErr r (λ e. is_memory e.0 ≡ true);
  lawful = appname_lawful;
  shows = one_shape refl;
  spares = name_wanted;
}

-- want of memory isn't spared
not_spared : {m : Message} → m ≡ Memory → is_memory m ≡ false → ⊥
not_spared is spared = true≢false (sym (ap is_memory is) ∙ spared)

-- a refusal that isn't want of memory is of a fault that a closure answered, with its whole text
abbrev pub TellsAnswer : {T E : Type 0} → (Result T E → Type 0) → (E → Option (List ℕ)) → Error
    → Type 0
TellsAnswer {T} {E} answers shown e = is_memory e.0 ≡ false → (fault : E) × answers (Err fault)
    × ((text : List ℕ) × (e.0 ≡ PureFailed text) × IfSome (shown fault) (λ bytes. text ≡ bytes))

-- a leaf that answers what a closure does refuses with its fault, with the whole text
pub answer_told : {T E : Type 0} (answers : Result T E → Type 0) (shown : E → Option (List ℕ))
    (r : Result T Error) → GivesAnswer answers shown r → IfErr r (TellsAnswer answers shown)
answer_told answers shown (Ok v) given = tt
answer_told answers shown (Err e) (fault, answered, inl is) = λ spared. absurd
    (not_spared is spared)
answer_told answers shown (Err e) (fault, answered, inr told) = λ spared. (fault, answered, told)

-- a closure's answer (`pure_with`), whose fault is shown so
abbrev pub closure_answer : {T E : Type 0} → (Result T E → Type 0) → (E → Option (List ℕ)) → Own T
closure_answer answers shown = record {
  outcome = PureWithOutcome (GivesAnswer answers shown);
  reads = PureReads (λ v. answers (Ok v));
  describes = λ shape. shape ≡ Skip;
  shorts = no_shorts;
  spared = λ s r t. IfErr r (TellsAnswer answers shown);
  lawful = pure_with_lawful (GivesAnswer answers shown) (names_answer answers shown);
  shows = one_shape refl;
  spares = λ s t r o. answer_told answers shown r o.0;
}

-- a refusal that isn't want of memory is the whole message
abbrev pub TellsWhole : List ℕ → Error → Type 0
TellsWhole message e = is_memory e.0 ≡ false → e.0 ≡ ParseFail message

-- a refusal that is always given is the whole message
pub refusal_told : {T : Type 0} (message : List ℕ) (r : Result T Error) → GivesRefusal message r
    → IfErr r (TellsWhole message)
refusal_told message (Ok v) given = absurd given
refusal_told message (Err e) (inl whole) = λ spared. whole
refusal_told message (Err e) (inr is) = λ spared. absurd (not_spared is spared)

-- a refusal of every line with this message (`fail`)
abbrev pub refusal : {T : Type 0} → (message : List ℕ) → Own T
refusal message = record {
  outcome = PureOutcome (GivesRefusal message);
  reads = PureReads (λ v. ⊥);
  describes = λ shape. shape ≡ Skip;
  shorts = no_shorts;
  spared = λ s r t. IfErr r (TellsWhole message);
  lawful = refusal_lawful message;
  shows = one_shape refl;
  spares = λ s t r o. refusal_told message r o.0;
}
