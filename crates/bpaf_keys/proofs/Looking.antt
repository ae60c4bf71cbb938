-- Looking for help and the version: how it is put together, and that it keeps to the laws.
use Rattle.std.proofs.Common.{arith, ◌≡◌, Bool, true, false, None, Option, List, Some, Ok, Err}
use Rattle.bpaf_laws.specs.Laws.{ShowsNames, of_flags, shorts_among, NamesAnswer, Keeps, Lawful}
use Rattle.bpaf_keys.specs.Info.{ExtraOutcome, ExtraReads, IsNoVersion, SwitchReads, extra_shape}
use Rattle.bpaf_keys.specs.Info.{extra_shape_of, help, neither, no_memory, version, RunInfo}
use Rattle.std.proofs.Common.{⊎_elim, inr, Result, sym, ◌∙◌, ap}
use Rattle.std.specs.{Prelude.◌++◌, Prelude.refl, Prelude.codes, Result.IsErr, Result.IsErrAnd}
use Rattle.std.specs.Option.{option_map_or}
use Rattle.bpaf_doc.specs.{declared.doc.Piece.Piece, Shape.parts}
use Rattle.bpaf_text.specs.Named.{Named}
use Rattle.bpaf_line.specs.declared.error.Message.TheVariants.{Memory, ParseFail}
use Rattle.bpaf_line.specs.{declared.error.Error.Error, Situation.Situation}
use Rattle.bpaf_laws.proofs.ShownNames.{both_show, flag_shows, last_shows, one_shape, product_shows}
use Rattle.bpaf_laws.proofs.Keeping.{keeps_same, keeps_trans, names_same, keeps_refl}
use Rattle.bpaf_laws.proofs.{ProductLaws.both_lawful, LeafLaws.flag_lawful}
use Rattle.bpaf_laws.specs.{Leaves.FlagOutcome, Leaves.IsPresent, Leaves.IsFlagAbsent, Laws.Reads}
use Rattle.bpaf_laws.specs.Product.{BothReads}
use Rattle.bpaf_keys.specs.declared.info.ExtraParams.{ExtraParams}
use Rattle.bpaf_keys.specs.Info.{IsNotAsked, LooksForVersion}
use Rattle.bpaf_line.specs.declared.error.Message.TheVariants as message
use Rattle.bpaf_keys.specs.declared.info.ExtraParams.TheVariants as extra

-- a key that is there or not, as a switch answers it
switch_answers : (named : Named) (s : Situation) (is : Bool) (t : Situation)
    → IsPresent named s is t → FlagOutcome ◌≡◌ named true (Some false) s (Ok is) t
switch_answers named s b t found = grind arith

-- a key that is there or not is read as a switch
flag_read : (named : Named) (s : Situation) (is : Bool) (t : Situation) → IsPresent named s is t
    → Reads Bool (SwitchReads named) s is t
flag_read named s is t looked =
    (flag_lawful Bool ◌≡◌ named true (Some false)).ok s t is (switch_answers named s is t looked)

-- what looking for a key keeps
pub key_keeps : (named : Named) (s : Situation) (is : Bool) (t : Situation) → IsPresent named s is t
    → Keeps s t
key_keeps named s is t looked = (flag_read named s is t looked).keeps

-- two keys that are looked for one after the other are read as two switches
keys_read : (first rest : Named) (s m t : Situation) (a b : Bool) → IsPresent first s a m
    → IsPresent rest m b t
    → Reads (Bool × Bool) (BothReads Bool Bool (SwitchReads first) (SwitchReads rest)) s (a, b) t
keys_read first rest s m t a b one other =
    (both_lawful (flag_lawful Bool ◌≡◌ first true (Some false))
    (flag_lawful Bool ◌≡◌ rest true (Some false))).ok s t (a, b) (record {
      a = Ok a;
      middle = m;
      b = Ok b;
      first_ran = switch_answers first s a m one;
      rest_ran = switch_answers rest m b t other;
      spared = tt;
      answer = refl;
    })

module _ (info : RunInfo) where
  -- what is asked for is a reading
  extra_read : (s t : Situation) (asked : ExtraParams) → ExtraOutcome info s (Ok asked) t
      → Reads ExtraParams (ExtraReads info) s asked t
  extra_read s t asked (help more m u found again) =
      let read = keys_read info.help_arg info.help_arg s m t true more found again in
      record { keeps = read.keeps; closed = read.closed; reading = read.reading }
  extra_read s t asked (version text m u none is found) =
      let read = keys_read info.help_arg info.version_arg s m t false true none found in
      record { keeps = read.keeps; closed = read.closed; reading = (is, read.reading) }

  -- what looking for the version in vain keeps
  pub no_version_keeps : (s t : Situation) → IsNoVersion info s t → Keeps s t
  no_version_keeps s t none = grind (arith, keeps_same, key_keeps)

  -- what looking in vain keeps
  extra_refused : (s t : Situation) (e : Error) → ExtraOutcome info s (Err e) t → Keeps s t
  extra_refused s t e (neither told m u none without is) =
      keeps_trans s m t (key_keeps info.help_arg s false m none) (no_version_keeps m t without)
  extra_refused s t e (no_memory told u is keeps) = keeps

  -- no refusal is the answer of a run inside
  extra_named : (s t : Situation) (e : Error) → ExtraOutcome info s (Err e) t
      → NamesAnswer s.context e.0
  extra_named s t e (neither told m u none without is) = names_same _ e.0 (ParseFail _) tt is
  extra_named s t e (no_memory told u is keeps) = names_same _ e.0 Memory tt is

  -- looking keeps to the laws
  pub extra_lawful : Lawful ExtraParams (ExtraOutcome info) (ExtraReads info)
  extra_lawful = record {
    ok = λ s t asked o. extra_read s t asked o;
    err = λ s t e o. extra_refused s t e o;
    named = λ s t e o. extra_named s t e o;
  }

-- looking shows the short names of the keys that are looked for
pub extra_shows : (info : RunInfo) → ShowsNames (λ shape. shape ≡ extra_shape info)
    (of_flags (option_map_or (λ text. info.help_arg.names.shorts ++ info.version_arg.names.shorts)
    info.version info.help_arg.names.shorts))
extra_shows info = one_shape (of_version info.version info.help_arg info.version_arg)
  where
    of_version : (version : Option (List Piece)) (first second : Named)
        → shorts_among (parts (extra_shape_of version first second))
        ≡ of_flags (option_map_or (λ text. first.names.shorts ++ second.names.shorts) version
        first.names.shorts)
    of_version None first second = (flag_shows {T = Bool} first None).each _ refl
    of_version (Some text) first second =
        (product_shows (both_show (flag_shows {T = Bool} first None)
        (last_shows (flag_shows {T = Bool} second None)))).each _
        (_, (_, _, refl, (_, refl, refl), refl), refl)

-- How looking for help and the version is put together.

module _ (info : RunInfo) (s : Situation) where
  -- memory for help's key is wanted
  pub help_unknown : (r : Result ExtraParams Error)
      → IsErr r × IsErrAnd r (λ e. e.0 ≡ message.Memory) → ExtraOutcome info s r s
  help_unknown (Err e) wanted = no_memory e s wanted.1 (keeps_refl s)
  help_unknown (Ok v) wanted = absurd wanted.1

  module _ {key : Named} (is : Bool) (t : Situation) (looked : IsPresent key s is t) where
    module _ (same : key ≡ info.version_arg) {text : List Piece} (set : info.version ≡ Some text)
      where
        -- the version's key is there
        pub version_asked : is ≡ true → {copied : List Piece} → copied ≡ text
            → LooksForVersion info s (Ok (Some copied)) t
        version_asked found equal = (set ∙ ap (λ x. Some x) (sym equal), rw (same, found) at looked)

        -- it isn't
        pub version_unasked : is ≡ false → LooksForVersion info s (Ok None) t
        version_unasked missed = inr (text, set, rw (same, missed) at looked)

        -- memory for the text is wanted
        pub version_wanting : (r : Result (Option (List Piece)) Error)
            → IsErr r × IsErrAnd r (λ e. e.0 ≡ message.Memory) → LooksForVersion info s r t
        version_wanting x wanted = grind (arith, key_keeps)

    module _ (same : key ≡ info.help_arg) where
      -- help's key is there, and perhaps once more
      pub help_asked : is ≡ true → {more : Bool} (u : Situation) → IsPresent key t more u
          → ExtraOutcome info s (Ok (extra.Help more)) u
      help_asked found {more} u again =
          help more t u (rw (same, found) at looked) (rw same at again)

      module _ (missed : is ≡ false) (u : Situation) where
        -- help's key isn't there
        without_help : IsFlagAbsent info.help_arg s t
        without_help = rw (same, missed) at looked

        -- what was kept then is kept
        kept_behind : Keeps t u → Keeps s u
        kept_behind = keeps_trans s t u (key_keeps info.help_arg s false t without_help)

        -- there is no memory for looking for the version, where help's key isn't there
        pub version_refused : {e : Error} → LooksForVersion info t (Err e) u
            → (r : Result ExtraParams Error) → IsErr r × IsErrAnd r (λ given. given ≡ e)
            → ExtraOutcome info s r u
        version_refused wants (Err given) handed =
            no_memory given u (ap (λ x. x.0) handed.1 ∙ wants.0) (kept_behind wants.1)
        version_refused wants (Ok v) handed = absurd handed.1

        -- but the version's is
        pub then_version : (found : Option (List Piece)) → LooksForVersion info t (Ok found) u
            → {text : List Piece} → found ≡ Some text
            → ExtraOutcome info s (Ok (extra.Version text)) u
        then_version (Some one) found {text} is =
            version text t u without_help (found.0 ∙ is) found.1
        then_version None found is = cc

        -- neither help's key nor the version's is there
        pub then_neither : (found : Option (List Piece)) → LooksForVersion info t (Ok found) u
            → found ≡ None → {e : Error} → IsNotAsked e.0 → ExtraOutcome info s (Err e) u
        then_neither (Some one) none is asked = cc
        then_neither None none is {e} asked = ⊎_elim
            (λ (wanted : e.0 ≡ message.Memory).
            no_memory e u wanted (kept_behind (no_version_keeps info t u none)))
            (λ (is : e.0 ≡ message.ParseFail (codes "not a version or help")).
            neither e t u without_help none is) asked
