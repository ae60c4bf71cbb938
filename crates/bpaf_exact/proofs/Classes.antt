-- The classes of refusals, and of what two refusals together are.
use Rattle.std.proofs.Common.{true≢false, arith, false, Bool, refl, true, inl, sym, ◌∙◌, ◌≡◌, inr}
use Rattle.std.proofs.{lemmas.Bool.eqb-true, lemmas.Bool.eq-eqb, Common.◌⊎◌, Common.ap}
use Rattle.bpaf_line.specs.declared.error.Message.TheVariants.{ParseFailure, Missing}
use Rattle.bpaf_line.specs.Messages.{CombinesSpared, can_catch, is_memory, is_wrong_input, Combines}
use Rattle.bpaf_line.specs.{declared.error.Message.Message, declared.error.Error.Error}
use Rattle.bpaf_line.specs.Situation.{Situation}
use Rattle.bpaf_laws.specs.Combinators.{is_untouched, stops_step}
use Rattle.bpaf_exact.specs.Flat.{class_of_tests, ErrorClass, is_missing, OfMissing, OfMemory}
use Rattle.bpaf_exact.specs.Flat.{CanCatch, error_class, Refused, Caught, Stops}

-- want of memory is of its class
pub memory_class : (m : Message) → is_memory m ≡ true → error_class m ≡ OfMemory
memory_class m e = ap (λ b. class_of_tests b (is_missing m) (can_catch m)) e

-- what the three tests of a class answer: want of memory, a missing item, whether it can be caught
abbrev tests_of : ErrorClass → Bool × Bool × Bool
tests_of OfMemory = (true, false, false)
tests_of OfMissing = (false, true, true)
tests_of Caught = (false, false, true)
tests_of Refused = (false, false, false)

-- the tests of a message are those of its class
tests_are : (m : Message) {c : ErrorClass} → error_class m ≡ c → (is_memory m ≡ (tests_of c).0)
    × (is_missing m ≡ (tests_of c).1) × (can_catch m ≡ (tests_of c).2)
tests_are m e = grind arith

-- what isn't want of memory isn't of its class
pub not_memory : (m : Message) → is_memory m ≡ false → error_class m ≡ OfMemory → ⊥
not_memory m e c = true≢false (sym (tests_are m c).0 ∙ e)

-- what can be caught is of a class that can
pub caught_class : (m : Message) → can_catch m ≡ true → CanCatch (error_class m)
caught_class m e = grind (arith, tests_are)

-- what can't is of none such
pub kept_class : (m : Message) → can_catch m ≡ false → CanCatch (error_class m) → ⊥
kept_class m e x = grind (arith, tests_are)

-- an error at which a turn stops
pub stops_at : {e : Error} {s m : Situation} → stops_step false e.0 (is_untouched s m) ≡ true
    → Stops e s m
stops_at h = grind (arith, eqb-true)

-- an error at which it doesn't
pub goes_on : (e : Error) {s m : Situation} → stops_step false e.0 (is_untouched s m) ≡ false
    → Stops e s m → ⊥
goes_on e h x = grind (arith, eq-eqb)

-- a refusal of that class says that items are missing
pub is_missing_of : (m : Message) → error_class m ≡ OfMissing → is_missing m ≡ true
is_missing_of m e = (tests_are m e).1

-- two missing items are missing together
pub combined_missing : (m n : Message) {g : Message} → error_class m ≡ OfMissing
    → error_class n ≡ OfMissing → Combines m n g → (error_class g ≡ OfMissing)
    ⊎ (error_class g ≡ OfMemory)
combined_missing m n e f c = grind (arith, is_missing_of)

-- of two others one stands for both: the first where it can't be caught, else the second
stands : (m n : Message) {g : Message} → (is_missing m ≡ true → is_missing n ≡ true → ⊥)
    → CombinesSpared m n g → ((can_catch m ≡ false) × (g ≡ m))
    ⊎ ((g ≡ n) × ((can_catch n ≡ false) ⊎ (can_catch m ≡ true)))
stands (ParseFailure failure) n none c = inl (refl, c)
stands (Missing items) (Missing others) none c = absurd (none refl refl)
stands m (ParseFailure failure) none c = inr (c, inl refl)
stands m n {g} none c = grind arith

-- where one of two can't be caught and the other is such or a missing item, both together are such
pub combined_refused : (m n : Message) {g : Message}
    → (error_class m ≡ Refused) ⊎ (error_class n ≡ Refused)
    → (error_class m ≡ OfMissing) ⊎ (error_class m ≡ Refused)
    → (error_class n ≡ OfMissing) ⊎ (error_class n ≡ Refused) → Combines m n g
    → (error_class g ≡ OfMemory) ⊎ (error_class g ≡ Refused)
combined_refused m n one e f c = grind (arith, stands, tests_are)

-- where neither is wrong input, both together aren't
pub combined_calm : (m n : Message) {g : Message} → is_wrong_input m ≡ false → is_wrong_input n
    ≡ false
    → Combines m n g → is_wrong_input g ≡ false
combined_calm m n e f c = grind (arith, stands)
