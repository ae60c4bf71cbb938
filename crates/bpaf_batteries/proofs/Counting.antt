-- Counted keys: what two counts read are as many keys of each flag.
use Rattle.std.proofs.Common.{◌≡◌, ℕ, ◌+◌, ◌<◌, ◌||◌, Bool, true, false, List, [], ◌∷◌, length}
use Rattle.std.proofs.Common.{Result, Ok, Err, IfOk, refl, sym, ◌∙◌, subst, arith, ⊎_elim}
use Rattle.bpaf_batteries.specs.Verbosity.{count_grammar, counts_grammar, KeysAreCounted, fewer_of}
use Rattle.std.proofs.lemmas.Bool.{eq-eqb, eqb-true, false_from_ne_true, ne_eqb, or_cases}
use Rattle.std.proofs.{lemmas.Option.slice_get_within, Common.true≢false}
use Rattle.bpaf_grammar.specs.{Grammar.outcome_of, Grammar.reads_of, Laws.lawful_of}
use Rattle.bpaf_batteries.specs.Keys.{is_flag_key, MustStand, KeyReads}
use Rattle.bpaf_batteries.specs.Verbosity.{keys_in, more_of}
use Rattle.bpaf_batteries.specs.declared.pair.KeyCounts.{KeyCounts}
use Rattle.bpaf_laws.specs.Reading.{Share, HasItem, IsPlace, Joins}
use Rattle.bpaf_laws.specs.{Combinators.EachReads, Combinators.ListReads, Product.BothReads}
use Rattle.bpaf_laws.specs.{Leaves.at_key, Leaves.nowhere, Laws.newly}
use Rattle.bpaf_text.specs.declared.params.ParseFlag.{ParseFlag}
use Rattle.bpaf_base.specs.{declared.arg.Arg.Arg, Count.count_below}
use Rattle.bpaf_base.proofs.Count.{count_below-same, count_below-fewer, count_below-none}
use Rattle.bpaf_line.specs.Situation.{Situation, Context, item_in}
use Rattle.bpaf_line.specs.declared.error.Error.{Error}
use Rattle.bpaf_laws.proofs.Keeping.{count_below-joined}
use Rattle.bpaf_batteries.proofs.Keys.{not_both}

-- a share of so many places, each with a key of a flag
record AreKeys {T : Type 0} (flag : ParseFlag T) (context : Context) (share : Share) (n : ℕ)
    : Type 0 where
  keys : (p : ℕ) → share p ≡ true → HasItem (is_flag_key flag) context p
  number : count_below share (length context.line) ≡ n

-- a place with an item that passes a test lies in the line
item_within : (test : Arg → Bool) (context : Context) (p : ℕ) → HasItem test context p
    → p < length context.line
item_within test context p has = grind (arith, slice_get_within context.line p)

-- one place of a line is one
one_place : (share : Share) (p n : ℕ) → IsPlace p share → p < n → count_below share n ≡ 1
one_place share p n is within =
    let fewer = count_below-fewer share (λ q. false) n p within (is p ∙ eq-eqb p p refl) refl
    (λ q other. is q ∙ ne_eqb q p other) in
    let none = count_below-none (λ q. false) n (λ q below. refl) in
    omega arith

module _ {T : Type 0} (clones : T → T → Type 0) (flag : ParseFlag T) (stands : MustStand flag)
    (context : Context) where
  -- such a flag reads one key
  one_key : (share : Share) (v : T) → KeyReads clones flag context share v
      → AreKeys flag context share 1
  one_key share v (at_key key has is value) = record {
    keys = λ p there. subst (HasItem (is_flag_key flag) context)
        (sym (eqb-true p key (sym (is p) ∙ there))) has;
    number =
        one_place share key (length context.line) is
        (item_within (is_flag_key flag) context key has);
  }
  one_key share v (nowhere none kept) = grind arith

  -- no place is a share of no keys
  no_keys : (share : Share) → ((p : ℕ) → share p ≡ false) → AreKeys flag context share 0
  no_keys share none = record {
    keys = λ p there. absurd (true≢false (sym there ∙ none p));
    number = count_below-none share (length context.line) (λ q below. none q);
  }

  -- one key and a share of keys make a share of keys
  more_keys : (own rest share : Share) (v : T) (n : ℕ) → Joins own rest share
      → KeyReads clones flag context own v → AreKeys flag context rest n
      → AreKeys flag context share (n + 1)
  more_keys own rest share v n joins read others =
      let one = one_key own v read in
      record {
        keys = λ p there. ⊎_elim (one.keys p) (others.keys p)
            (or_cases (own p) (rest p) (sym (joins.all p) ∙ there));
        number =
            let both = count_below-joined share own rest (length context.line) joins.all
            joins.apart in
            omega arith;
      }

  -- each of some values reads a key
  each_key : (share : Share) (values : List T)
      → EachReads (KeyReads clones flag) context share values
      → AreKeys flag context share (length values)
  each_key share [] none = no_keys share none
  each_key share (v ∷ vs) read = subst (AreKeys flag context share) (omega arith)
      (more_keys read.0 read.1 share v (length vs) read.2 read.4 (each_key read.1 vs read.5))

  -- values that each read a key read as many keys as they are
  list_keys : (share : Share) (values : List T)
      → ListReads (KeyReads clones flag) context share values
      → AreKeys flag context share (length values)
  list_keys share xs none = grind (arith, each_key, more_keys, no_keys)

  -- a count is of as many keys
  count_keys : (share : Share) (n : ℕ) → reads_of (count_grammar clones flag) context share n
      → AreKeys flag context share n
  count_keys share n read = grind (arith, list_keys)

-- of a share that is one of keys of a flag and one without them, the keys are all of the former
counted_in : {T : Type 0} (flag : ParseFlag T) (context : Context) (own rest share : Share) (n : ℕ)
    → ((p : ℕ) → share p ≡ (own p || rest p)) → AreKeys flag context own n
    → ((p : ℕ) → rest p ≡ true → ¬ (HasItem (is_flag_key flag) context p))
    → n ≡ keys_in flag context share
counted_in flag context own rest share n joins keys others =
    grind (arith, count_below-same, false_from_ne_true)

-- two counts are as many keys of each flag
counted : (clones : Unit {0} → Unit {0} → Type 0) (keys : KeyCounts) (context : Context)
    (share : Share) (counts : ℕ × ℕ)
    → BothReads ℕ ℕ (reads_of (count_grammar clones (more_of keys)))
    (reads_of (count_grammar clones (fewer_of keys))) context share counts
    → (counts.0 ≡ keys_in (more_of keys) context share)
    × (counts.1 ≡ keys_in (fewer_of keys) context share)
counted clones keys context share counts read =
    let more = more_of keys in
    let fewer = fewer_of keys in
    let one = count_keys clones more keys.apart.one_stands context read.first_share counts.0
    read.first_read in
    let other = count_keys clones fewer keys.apart.other_stands context read.rest_share counts.1
    read.rest_read in (
      counted_in more context read.first_share read.rest_share share counts.0 read.joins.all one
          (λ p theirs mine. not_both (is_flag_key more) (is_flag_key fewer) (item_in context p)
          keys.apart.apart mine (other.keys p theirs)),
      counted_in fewer context read.rest_share read.first_share share counts.1
          (λ p. read.joins.all p ∙ turned (read.first_share p) (read.rest_share p)) other
          (λ p mine theirs. not_both (is_flag_key more) (is_flag_key fewer) (item_in context p)
          keys.apart.apart (one.keys p mine) theirs),
    )
  where
    turned : (a b : Bool) → (a || b) ≡ (b || a)
    turned a b = grind arith

-- the counts are those of the keys that were newly taken
pub keys_counted : (clones : Unit {0} → Unit {0} → Type 0) (keys : KeyCounts) (s t : Situation)
    (r : Result (ℕ × ℕ) Error) → outcome_of (counts_grammar clones keys) s r t
    → IfOk r (KeysAreCounted keys s t)
keys_counted clones keys s t (Ok counts) o =
    let read = ((lawful_of (counts_grammar clones keys)).ok s t counts o).reading in
    subst (KeysAreCounted keys s t) (sym read.made)
    (counted clones keys s.context (newly s t) read.from read.read)
keys_counted clones keys s t (Err e) o = tt
